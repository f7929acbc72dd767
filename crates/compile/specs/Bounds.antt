-- A valid block's kernel fits the tables that document 01 states, and a call leaves every lent table as long as it was. Assumes nothing.
use Rattle.std.specs.Prelude.{◌≡◌, refl, false, List, [], ◌∷◌, ◌++◌, ℕ, ◌+◌, ◌-◌, ◌*◌, ◌≤◌, ◌<◌, length, drop, ltb}
use Rattle.std.proofs.Common.{sym, ap, ◌∙◌, subst, arith, length-append, length-drop, ltb-false}
use Rattle.tables.specs.Tests.{neither}
use Rattle.tables.specs.Lists.{list_length}
use Rattle.tables.specs.Zeros.{zeros, zeros_length}
use Rattle.answers.specs.Numbers.{Answer, accepted, refused}
use Rattle.answers.specs.Order.{◌⨾◌, refuse}
use Rattle.answers.specs.OrderLaws.{then_accepted, refuse_accepted}
use Rattle.block.specs.Block.{Block, state_count, delay_count}
use Rattle.block.specs.Limits.{most_nodes, most_states, most_delays}
use Rattle.block.specs.Validation.{expanded_length, counts_of, validation}
use Rattle.block.specs.Valid.{Valid, valid}
use Rattle.expand.specs.Graph.{Graph, mapped_update, graph_of}
use Rattle.expand.specs.GraphLaws.{good_graph}
use Rattle.plan.specs.Flow.{flow_of}
use Rattle.plan.specs.FlowLaws.{flow_length, good_flow}
use Rattle.allocate.specs.Actions.{Action, load, compute, spill, reload, store_state, store_delay, store_output, store_control}
use Rattle.allocate.specs.ActionWords.{operation_in, operations_in, steps_length, instructions_length}
use Rattle.allocate.specs.State.{Allocated, allocated, all_locked, and_then}
use Rattle.allocate.specs.Outcomes.{allocated_is, not_allocated, post_at}
use Rattle.compile.specs.Draft.{Draft, usable, compile_flow}
use Rattle.compile.specs.Words.{Compiled, compiled_of}
use Rattle.compile.specs.Compile.{compile}
use Rattle.compile.specs.Call.{most_steps, memory_count, Tables, too_short, shorter, compile_judged, compiled_tables, tables_after, compile_call, zero_past, expansion_after, work_words}
use Rattle.compile.specs.PhasesFit.{DraftFits, flow_fits, usable_sixteen}

-- ---- the words of a draft

one_operation : (x : Action) → length (operation_in x) ≤ 1
one_operation (load c r) = omega arith
one_operation (compute i) = omega arith
one_operation (spill k r) = omega arith
one_operation (reload k r) = omega arith
one_operation (store_state i r) = omega arith
one_operation (store_delay i r) = omega arith
one_operation (store_output r) = omega arith
one_operation (store_control k r) = omega arith

-- each compute is a step
pub operations_le : (xs : List Action) → length (operations_in xs) ≤ length xs
operations_le [] = omega arith
operations_le (x ∷ xs) = omega (arith, operations_le xs, one_operation x, length-append (operation_in x) (operations_in xs))

-- what compile gave, before it was written as words
pub record FromDraft (graph : Graph) (mask : ℕ) (c : Compiled) : Type 0 where
  pub draft : Draft
  pub gives : compile_flow (flow_of graph) mask ≡ allocated draft
  pub words : c ≡ compiled_of draft

-- it is so of every result
pub from_draft : (graph : Graph) (mask : ℕ) (c : Compiled) → compile graph mask ≡ allocated c → FromDraft graph mask c
unfolding compile
from_draft graph mask c h = go (compile_flow (flow_of graph) mask) refl h
  where
    go : (x : Allocated Draft) → compile_flow (flow_of graph) mask ≡ x → and_then x (λ draft. allocated (compiled_of draft)) ≡ allocated c → FromDraft graph mask c
    go (allocated d) q h = record { draft = d; gives = q; words = sym (allocated_is (compiled_of d) c h) }
    go all_locked q h = not_allocated c h

-- ---- THE BOUNDS of a valid block's kernel
pub record Fits (b : Block) (mask : ℕ) (c : Compiled) : Type 0 where
  pub steps : c.kernel.control + c.kernel.sample ≤ most_steps (expanded_length b) (memory_count b)
  pub instructions : c.kernel.instructions ≤ c.kernel.control + c.kernel.sample
  -- the tables hold these and no more
  pub step_table : length c.steps ≡ 2 * (c.kernel.control + c.kernel.sample)
  pub instruction_table : length c.instructions ≡ 2 * c.kernel.instructions
  -- a control slot is a hoisted value's or has its own step, a spill slot has its own step
  pub slots : c.kernel.slots ≤ expanded_length b + c.kernel.control
  pub spills : c.kernel.spills ≤ c.kernel.sample
  -- no more registers are held than are usable
  pub registers : c.registers ≤ length (usable mask)
  pub sixteen : c.registers ≤ 16

draft_fits : (b : Block) (mask : ℕ) (d : Draft) → DraftFits (flow_of (graph_of b)) mask d → Fits b mask (compiled_of d)
unfolding compiled_of graph_of flow_of
draft_fits b mask d f =
    let all : List Action = d.control_steps ++ d.sample_steps in
    let l : length all ≡ length d.control_steps + length d.sample_steps = length-append d.control_steps d.sample_steps in
    record {
      steps =
          omega (
            arith,
            f.steps,
            flow_length (graph_of b),
            list_length (mapped_update b b.states) (state_count b),
            list_length (mapped_update b b.delays)
                (delay_count b),
          );
      instructions = omega (arith, operations_le all, l);
      step_table = steps_length 0 all ∙ ap (λ (n : ℕ). 2 * n) l;
      instruction_table = instructions_length (operations_in all);
      slots = omega (arith, f.slots, flow_length (graph_of b));
      spills = f.spills;
      registers = f.most;
      sixteen = omega (arith, f.most, usable_sixteen mask);
    }

-- a valid block's kernel is within them
pub compile_bounds : (b : Block) → Valid b → (mask : ℕ) (c : Compiled) → compile (graph_of b) mask ≡ allocated c → Fits b mask c
compile_bounds b v mask c h =
    let d = from_draft (graph_of b) mask c h in
    let f = post_at (DraftFits (flow_of (graph_of b)) mask) (compile_flow (flow_of (graph_of b)) mask) d.draft
    (flow_fits (flow_of (graph_of b)) (good_flow (counts_of b) (graph_of b) (good_graph b v)) mask) d.gives in
    subst (λ (x : Compiled). Fits b mask x) (sym d.words) (draft_fits b mask d.draft f)

-- every count is a word
pub record CountsFit (c : Compiled) : Type 0 where
  pub control : c.kernel.control < 4294967296
  pub sample : c.kernel.sample < 4294967296
  pub instructions : c.kernel.instructions < 4294967296
  pub slots : c.kernel.slots < 4294967296
  pub spills : c.kernel.spills < 4294967296
  pub registers : c.registers < 4294967296

-- so are a valid block's
pub counts_fit : (b : Block) → Valid b → (mask : ℕ) (c : Compiled) → compile (graph_of b) mask ≡ allocated c → CountsFit c
counts_fit b v mask c h =
    let f = compile_bounds b v mask c h in
    let n : expanded_length b ≤ most_nodes = v.fits in
    let s : state_count b ≤ most_states = v.state_limit in
    let d : delay_count b ≤ most_delays = v.delay_limit in
    record {
      control = omega (arith, f.steps);
      sample = omega (arith, f.steps);
      instructions = omega (arith, f.steps, f.instructions);
      slots = omega (arith, f.steps, f.slots);
      spills = omega (arith, f.steps, f.spills);
      registers = omega (arith, f.sixteen);
    }

-- ---- A CALL leaves every lent table as long as it was

-- each table as long as before
pub record SameLengths (t after : Tables) : Type 0 where
  pub expansion : length after.expansion ≡ length t.expansion
  pub steps : length after.steps ≡ length t.steps
  pub instructions : length after.instructions ≡ length t.instructions
  pub work : length after.work ≡ length t.work

-- the tables are long enough
pub record Room (b : Block) (t : Tables) : Type 0 where
  pub expansion : 3 * expanded_length b ≤ length t.expansion
  pub steps : 2 * most_steps (expanded_length b) (memory_count b) ≤ length t.steps
  pub instructions : 2 * most_steps (expanded_length b) (memory_count b) ≤ length t.instructions
  pub work : work_words (expanded_length b) (memory_count b) ≤ length t.work

-- where 13 is not given
pub room : (b : Block) (t : Tables) → too_short b t ≡ false → Room b t
unfolding shorter
room b t e =
    let p = neither _ (ltb (length t.work) (work_words (expanded_length b) (memory_count b))) e in
    let q = neither _ (ltb (length t.instructions) (2 * most_steps (expanded_length b) (memory_count b))) p.0 in
    let r = neither (ltb (length t.expansion) (3 * expanded_length b)) (ltb (length t.steps) (2 * most_steps (expanded_length b) (memory_count b))) q.0 in
    record { expansion = ltb-false _ _ r.0; steps = ltb-false _ _ r.1; instructions = ltb-false _ _ q.1; work = ltb-false _ _ p.1 }

padded : (words table : List ℕ) → length words ≤ length table → length (zero_past words table) ≡ length table
padded words table h = omega (arith, length-append words (zeros (length table - length words)), zeros_length (length table - length words))

graph_words : (b : Block) → Valid b → length (graph_of b).nodes ≡ 3 * expanded_length b
unfolding graph_of
graph_words b v = (good_graph b v).long

expanded : (b : Block) → Valid b → (table : List ℕ) → 3 * expanded_length b ≤ length table → length (expansion_after b table) ≡ length table
expanded b v table h =
    omega (arith, graph_words b v, length-append (graph_of b).nodes (drop (3 * expanded_length b) table), length-drop (3 * expanded_length b) table)

compiled_lengths : (b : Block) → Valid b → (mask : ℕ) (t : Tables) → Room b t → (r : Allocated Compiled) → compile (graph_of b) mask ≡ r
    → SameLengths t (compiled_tables r b t)
compiled_lengths b v mask t q (allocated c) e =
    let f = compile_bounds b v mask c e in
    record {
      expansion = expanded b v t.expansion q.expansion;
      steps = padded c.steps t.steps (omega (arith, f.steps, f.step_table, q.steps));
      instructions = padded c.instructions t.instructions (omega (arith, f.steps, f.instructions, f.instruction_table, q.instructions));
      work = zeros_length (length t.work);
    }
compiled_lengths b v mask t q all_locked e =
    record {
      expansion = expanded b v t.expansion q.expansion;
      steps = zeros_length (length t.steps);
      instructions = zeros_length (length t.instructions);
      work = zeros_length (length t.work);
    }

-- it is so of every call, whatever it answers
pub call_lengths : (b : Block) (mask : ℕ) (t : Tables) → SameLengths t (compile_call b mask t).tables
unfolding compile_call compile_judged tables_after
call_lengths b mask t = go (validation b ⨾ refuse 13 (too_short b t)) refl
  where
    go : (a : Answer Unit) → (validation b ⨾ refuse 13 (too_short b t)) ≡ a → SameLengths t (tables_after a (compile (graph_of b) mask) b t)
    go (accepted u) e =
        let p = then_accepted (validation b) (refuse 13 (too_short b t)) e in
        compiled_lengths b (valid b p.0) mask t (room b t (refuse_accepted 13 (too_short b t) p.1)) (compile (graph_of b) mask) refl
    go (refused n vs) e = record { expansion = refl; steps = refl; instructions = refl; work = refl }
