-- THE COMPILER'S LIST ALWAYS PASSES: what compile gives of a valid block, for any mask, the checker accepts. Assumes nothing.
use Rattle.std.specs.Prelude.{◌≡◌}
use Rattle.std.proofs.Math.Path.{refl, ap, subst}
use Rattle.std.proofs.Common.{sym, ◌∙◌}
use Rattle.std.proofs.Math.Bool.{true, false}
use mathlib.Core.List.{List, [], ◌∷◌, ◌++◌}
use Prim.Native.Nat.{ℕ, zero, suc, ◌+◌, ◌<◌}
use native.Mathlib.Omega.{arith}
use Rattle.std.proofs.Math.ListN.{length, length-append}
use Rattle.tables.specs.Lists.{list_length}
use Rattle.answers.specs.Numbers.{Answer, accepted}
use Rattle.answers.specs.Order.{in_order}
use Rattle.answers.specs.OrderLaws.{then_pass, refuse_at_off}
use Rattle.block.specs.Block.{Block, state_count, delay_count}
use Rattle.block.specs.declared.Counts.{Counts}
use Rattle.block.specs.Validation.{counts_of}
use Rattle.block.specs.Valid.{Valid}
use Rattle.expand.specs.Graph.{Graph, mapped_update, graph_of}
use Rattle.expand.specs.GraphLaws.{good_graph}
use Rattle.kernel.specs.declared.Phase.TheVariants.{Control}
use Rattle.kernel.specs.declared.Kernel.{Kernel}
use Rattle.kernel.specs.Steps.{step_at}
use Rattle.checker.specs.Walk.{Listing, emptied, entered, walked, before_control, before_sample, words_pass, control_passes, sample_passes, control_answer, sample_answer, walk_answer, nothing_missing}
use Rattle.checker.specs.Check.{listing_of}
use Rattle.checker.specs.Passing.{Passes}
use Rattle.checker.specs.PassingLaws.{passes_exactly}
use Rattle.allocate.specs.Actions.{Action, store_output}
use Rattle.allocate.specs.ActionWords.{operations_in}
use Rattle.allocate.specs.State.{allocated}
use Rattle.allocate.specs.Outcomes.{post_at}
use Rattle.plan.specs.Flow.{flow_of}
use Rattle.compile.specs.Draft.{Draft, compile_flow}
use Rattle.compile.specs.Words.{Compiled, compiled_of}
use Rattle.compile.specs.Compile.{compile}
use Rattle.compile.specs.Bounds.{from_draft}
use Rattle.compiled.specs.Marks.{start_marks}
use Rattle.compiled.specs.Meanings.{rules}
use Rattle.compiled.specs.Went.{AllSmall, actions_small, okay_start}
use Rattle.compiled.specs.Stands.{Stands, stands_first, stands_second, words_stand}
use Rattle.compiled.specs.Passes.{Sound, list}
use Rattle.compiled.proofs.Walked.{control_walk, sample_walk}
use Rattle.compiled.specs.DraftWalks.{Walks}
use Rattle.compiled.proofs.DraftWalks.{left_start, draft_walks}
use Rattle.compiled.specs.CompilePasses.{Agree}

-- ---- generic: where each record is accepted, all are
in_order_all : (answer : ℕ → Answer Unit) (n : ℕ) → ((i : ℕ) → i < n → answer i ≡ accepted tt) → in_order answer n ≡ accepted tt
unfolding in_order
in_order_all answer zero h = refl
in_order_all answer (suc n) h = then_pass (answer n) (in_order_all answer n (λ i l. h i (omega arith))) ∙ h n (omega arith)

-- ---- what the checker answers, by its steps
walk_accepted : (l : Listing) → ((i : ℕ) → i < l.kernel.control → control_passes l i ≡ true) → ((i : ℕ) → i < l.kernel.sample → sample_passes l i ≡ true)
    → nothing_missing l (before_sample l l.kernel.sample) ≡ true → walk_answer l ≡ accepted tt
unfolding walk_answer
walk_accepted l c s e =
    then_pass _ (in_order_all (control_answer l) l.kernel.control (λ i q. refuse_at_off 19 i (rw (c i q))))
    ∙ (then_pass _ (in_order_all (sample_answer l) l.kernel.sample (λ i q. refuse_at_off 19 (l.kernel.control + i) (rw (s i q))))
    ∙ refuse_at_off 19 (l.kernel.control + l.kernel.sample) (rw e))

all_small_append : (xs ys : List Action) → AllSmall xs → AllSmall ys → AllSmall (xs ++ ys)
all_small_append [] ys a b = b
all_small_append (x ∷ xs) ys a b = (a.0, all_small_append xs ys a.1 b)

module _ (counts : Counts) (g : Graph) (sound : Sound counts g) (mask : ℕ) (d : Draft) (w : Walks g mask d) where
  abbrev actions : List Action
  actions = d.control_steps ++ d.sample_steps

  -- the actions' registers are r0 to r15
  draft_small : AllSmall actions
  unfolding rules
  draft_small =
      all_small_append d.control_steps d.sample_steps
      (actions_small g mask true [] d.control_slots d.control_steps (start_marks (rules g true [] d.control_slots)) w.between w.control
      (okay_start mask (rules g true [] d.control_slots)))
      (actions_small g mask false w.between.slots d.spill_slots d.sample_steps (start_marks (rules g false w.between.slots d.spill_slots)) w.after
      w.sample
      (okay_start mask (rules g false w.between.slots d.spill_slots)))

  module _ (steps instructions : List ℕ) (agree : Agree (compiled_of d) steps instructions) where
    abbrev k : Kernel
    k = (compiled_of d).kernel

    abbrev L : Listing
    L = list counts g mask k steps instructions

    stands : Stands steps instructions k.instructions 0 0 actions
    unfolding compiled_of
    stands =
        words_stand steps instructions (length (operations_in actions)) actions 0 0 draft_small (omega arith)
        (λ i l. let z : 0 + i ≡ i = omega arith in rw z (agree.same_steps i (omega (arith, length-append d.control_steps d.sample_steps))))
        (λ i l. let z : 0 + i ≡ i = omega arith in rw z (agree.same_instructions i l))

    pub draft_passes : walk_answer L ≡ accepted tt
    unfolding compiled_of rules emptied entered control_passes sample_passes walked
    draft_passes =
        let xs : List Action = d.control_steps in
        let ys : List Action = w.ended.before in
        let r : ℕ = w.ended.register in
        let c = control_walk counts g sound mask k steps instructions xs (start_marks (rules g true [] d.control_slots)) w.between 0 0
        (stands_first steps instructions k.instructions xs d.sample_steps 0 0 stands) refl w.control
        (okay_start mask (rules g true [] d.control_slots)) (length xs) (omega arith) in
        let long : length w.between.slots ≡ d.control_slots = c.2.long in
        let n : length d.sample_steps ≡ 0 + length ys + 1 = ap length w.ended.is ∙ omega (arith, length-append ys (store_output r ∷ [])) in
        let second : Stands steps instructions k.instructions (length xs + 0) (0 + length (operations_in xs)) (ys ++ (store_output r ∷ [])) =
        subst (λ (l : List Action). Stands steps instructions k.instructions (length xs + 0) (0 + length (operations_in xs)) l) w.ended.is
        (subst (λ (j : ℕ). Stands steps instructions k.instructions j (0 + length (operations_in xs)) d.sample_steps) (omega arith)
        (stands_second steps instructions k.instructions xs d.sample_steps 0 0 stands)) in
        let s = sample_walk counts g sound mask k steps instructions w.between.slots long (entered L (before_control L (length xs))) (length xs)
        (length d.sample_steps) ys r
        (start_marks (rules g false w.between.slots d.spill_slots)) w.after 0 (0 + length (operations_in xs)) second
        (ap (entered L) c.1) (rw w.ended.is at w.sample) (okay_start mask (rules g false w.between.slots d.spill_slots))
        (left_start g w.between.slots d.spill_slots ys w.ended.counts) n in
        walk_accepted L
        (λ i l. let y : 0 + i ≡ i = omega arith in subst (λ (j : ℕ). words_pass L Control false (before_control L i) (step_at steps j) ≡ true) y
        (c.0 i (omega arith) l))
        (λ i l. s.0 i (omega arith) l)
        s.1

-- ---- of a block

pub sound_graph : (b : Block) → Valid b → Sound (counts_of b) (graph_of b)
unfolding graph_of
sound_graph b v =
    record {
      good = good_graph b v;
      states = sym (list_length (mapped_update b b.states) (state_count b));
      delays = sym (list_length (mapped_update b b.delays) (delay_count b));
    }

-- what compile gave goes through the walk
pub block_walks : (b : Block) → Valid b → (mask : ℕ) (d : Draft) → compile_flow (flow_of (graph_of b)) mask ≡ allocated d → Walks (graph_of b) mask d
block_walks b v mask d h = post_at (Walks (graph_of b) mask) (compile_flow (flow_of (graph_of b)) mask) d (draft_walks (counts_of b) (graph_of b) (good_graph b v) mask) h

-- THE THEOREM, for any tables that hold the kernel's words
pub compile_passes_in : (b : Block) → Valid b → (mask : ℕ) (c : Compiled) → compile (graph_of b) mask ≡ allocated c → (steps instructions : List ℕ)
    → Agree c steps instructions
    → walk_answer (listing_of b mask c.kernel steps instructions) ≡ accepted tt
compile_passes_in b v mask c h steps instructions agree =
    let f = from_draft (graph_of b) mask c h in
    rw f.words (draft_passes (counts_of b) (graph_of b) (sound_graph b v) mask f.draft (block_walks b v mask f.draft f.gives) steps instructions
    (rw f.words at agree))

-- and for the kernel's own
pub compile_passes : (b : Block) → Valid b → (mask : ℕ) (c : Compiled) → compile (graph_of b) mask ≡ allocated c
    → walk_answer (listing_of b mask c.kernel c.steps c.instructions) ≡ accepted tt
compile_passes b v mask c h = compile_passes_in b v mask c h c.steps c.instructions (record { same_steps = λ i l. refl; same_instructions = λ i l. refl })

-- so it meets 01's clauses
pub compile_meets : (b : Block) → Valid b → (mask : ℕ) (c : Compiled) → compile (graph_of b) mask ≡ allocated c
    → Passes (listing_of b mask c.kernel c.steps c.instructions)
compile_meets b v mask c h =
    (passes_exactly (listing_of b mask c.kernel c.steps c.instructions) (counts_of b) (good_graph b v)).0 (compile_passes b v mask c h)
