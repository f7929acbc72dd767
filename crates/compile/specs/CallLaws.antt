-- The call: each way out of the tests, what an accepted call lends both phases, and what it leaves. Assumes nothing.
use Rattle.std.specs.Prelude.{◌≡◌, Result, Ok, Err, IsErrAnd, Bool, true, false, List, [], ◌++◌, ℕ, ◌+◌, ◌-◌, ◌*◌, ◌≤◌, ◌<◌, min, get_or, take, drop, ltb}
use Rattle.std.proofs.Math.Path.{refl, ap}
use Rattle.std.proofs.Common.{sym, ◌∙◌, subst, arith, length-append, length-drop, take_at}
use Rattle.std.proofs.Math.ListN.{length, get_or-append}
use Rattle.std.proofs.lemmas.List.Edits.{sets, sets-eq}
use Rattle.std.proofs.Math.Seq.{length-sets}
use Rattle.std.proofs.lemmas.Result.{err_from_is_err_and}
use borrow.Author.Tests.{lt-ltb, le-ltb}
use Rattle.tables.specs.Lists.{list_length, list_at}
use Rattle.tables.specs.Zeros.{zeros, zeros_length, zeros_at, zeroed, zeroed_all, zeroed_rest}
use Rattle.answers.specs.declared.Refusal.{Refusal}
use Rattle.answers.specs.Numbers.{Answer, accepted, refused, refusal, answer_of}
use Rattle.answers.specs.Order.{◌⨾◌}
use Rattle.answers.specs.OrderLaws.{then_accepted, refuse_accepted, then_pass, refuse_pass, refuse_on, refuse_off, hand_on, go_on}
use Rattle.block.specs.declared.Kind.{Kind}
use Rattle.block.specs.declared.Kind.TheVariants.{Source, Constant, Parameter, State, Delay, Binary, Divide, Unary, Recip, Tanh, Sigmoid, Unknown}
use Rattle.block.specs.Block.{Block, node_count, state_count, delay_count, code}
use Rattle.block.specs.Kinds.{kind_of, tanh_steps}
use Rattle.block.specs.declared.Counts.{Counts}
use Rattle.block.specs.Validation.{counts_of, expanded_length, validation}
use Rattle.block.specs.Valid.{Valid, valid}
use Rattle.expand.specs.declared.Expanded.{Expanded}
use Rattle.expand.specs.Nodes.{words_of}
use Rattle.expand.specs.Expansion as E
use Rattle.expand.specs.Expansion.{expansion, map_node}
use Rattle.expand.specs.Map.{Mapping, mapping, map_of, map_call}
use Rattle.expand.specs.MapLaws.{map_call_valid}
use Rattle.expand.specs.Good.{GoodAs, good_node, output_mapped, state_update_mapped, delay_update_mapped}
use Rattle.expand.specs.Lengths.{expansion_words_length, offset_ge}
use Rattle.expand.specs.Graph.{graph_of}
use Rattle.expand.specs.GraphLaws.{good_graph}
use Rattle.plan.specs.Layout.{counts_in}
use Rattle.plan.specs.Flow.{flow_of}
use Rattle.plan.specs.ControlShare.{flow_in}
use Rattle.allocate.specs.State.{Allocated, allocated, all_locked}
use Rattle.compile.specs.Words as Words
use Rattle.compile.specs.Compile.{compile}
use Rattle.compile.specs.Call.{Tables, tables, outcome, most_steps, memory_count, shorter, too_short, Done, compile_judged, compile_answer, compiled_answer, compiled_tables, tables_after, compile_call, zero_past}
use Rattle.compile.specs.Bounds.{Room, room, compile_bounds}
use Rattle.expand.specs.Updates.{mapped_updates, IsMap, updates_are, mappable}
use Rattle.compile.specs.Phases as Phases
use Rattle.compile.specs.Phases.{Lent}
use Rattle.compile.specs.Expanded.{flow_compiled, PhasesLeave, sizes_from, mapped_flow, Mapped, step_end, instruction_end, Cleared}

-- ---- the tests of `shorter`, one after the other
module _ (nodes memories expansion steps instructions work : ℕ) where
  pub shorter_expansion : expansion < 3 * nodes → true ≡ shorter nodes memories expansion steps instructions work
  unfolding shorter
  shorter_expansion h = rw (lt-ltb expansion (3 * nodes) h)

  module _ (a : 3 * nodes ≤ expansion) where
    pub shorter_steps : steps < 2 * most_steps nodes memories → true ≡ shorter nodes memories expansion steps instructions work
    unfolding shorter
    shorter_steps h = rw (le-ltb expansion (3 * nodes) a, lt-ltb steps (2 * most_steps nodes memories) h)

    module _ (b : 2 * most_steps nodes memories ≤ steps) where
      pub shorter_instructions : instructions < 2 * most_steps nodes memories → true ≡ shorter nodes memories expansion steps instructions work
      unfolding shorter
      shorter_instructions h =
          rw (le-ltb expansion (3 * nodes) a, le-ltb steps (2 * most_steps nodes memories) b, lt-ltb instructions (2 * most_steps nodes memories) h)

      pub shorter_work : 2 * most_steps nodes memories ≤ instructions
          → ltb work (32 * nodes + 16 * memories + 320) ≡ shorter nodes memories expansion steps instructions work
      unfolding shorter
      shorter_work h =
          rw (le-ltb expansion (3 * nodes) a, le-ltb steps (2 * most_steps nodes memories) b, le-ltb instructions (2 * most_steps nodes memories) h)

-- ---- the ways out of the tests. v is validation's verdict, n the expanded length as the code counts it

-- a valid block has few states and delays
pub few : (b : Block) (v : Result Unit Refusal) → answer_of v ≡ validation b → v ≡ Ok tt → (state_count b ≤ 4096) × (delay_count b ≤ 4096)
few b v e f = let w = valid b (sym e ∙ ap answer_of f) in (w.state_limit, w.delay_limit)

module _ (b : Block) (t : Tables) (v : Result Unit Refusal) (e : answer_of v ≡ validation b) where
  pub refused_block : (r : Result Unit Refusal) {x : Refusal} → v ≡ Err x → IsErrAnd r (λ y. y ≡ x) → answer_of r ≡ compile_judged b t
  unfolding compile_judged
  refused_block r f h = hand_on r _ e f h

  module _ (f : v ≡ Ok tt) (n : ℕ) (c : n ≡ min (expanded_length b) 65537) (d : Bool)
      (g : d ≡ shorter n (memory_count b) (length t.expansion) (length t.steps) (length t.instructions) (length t.work)) where
    is_short : d ≡ too_short b t
    is_short =
        let w = (valid b (sym e ∙ ap answer_of f)).fits in
        let q : n ≡ expanded_length b = omega arith in
        g ∙ ap (λ (m : ℕ). shorter m (memory_count b) (length t.expansion) (length t.steps) (length t.instructions) (length t.work)) q

    pub short_table : d ≡ true → refused 13 [] ≡ compile_judged b t
    unfolding compile_judged
    short_table h = go_on _ e f (sym (refuse_on 13 (sym is_short ∙ h)))

    pub all_long : d ≡ false → accepted tt ≡ compile_judged b t
    unfolding compile_judged
    all_long h = go_on _ e f (sym (refuse_off 13 (sym is_short ∙ h)))

-- a refusal by 1 to 13 hands the tables back as they came
pub refused_call : (b : Block) (mask : ℕ) (t : Tables) (v : Result Unit Refusal) (r : Result Done Refusal) {x : Refusal} → answer_of v ≡ compile_judged b t → v ≡ Err x
    → IsErrAnd r (λ y. y ≡ x) → outcome (answer_of r) t ≡ compile_call b mask t
unfolding compile_call compile_answer tables_after ◌⨾◌
refused_call b mask t v r {x} e f h =
    let a : compile_judged b t ≡ refusal x = sym e ∙ ap answer_of f in
    let p = err_from_is_err_and r h in
    rw (a, p.1, p.2)

-- every other call is built
pub passed_call : (b : Block) (t : Tables) (v : Result Unit Refusal) → answer_of v ≡ compile_judged b t → v ≡ Ok tt → compile_judged b t ≡ accepted tt
passed_call b t v e f = sym e ∙ ap answer_of f

-- ---- what an accepted call is
pub record Accepts (b : Block) (t : Tables) : Type 0 where
  pub judged : validation b ≡ accepted tt
  pub valid : Valid b
  pub room : Room b t

pub accepts : (b : Block) (t : Tables) → compile_judged b t ≡ accepted tt → Accepts b t
unfolding compile_judged
accepts b t e =
    let p = then_accepted (validation b) _ e in
    record { judged = p.0; valid = valid b p.0; room = room b t (refuse_accepted 13 _ p.1) }

-- a node is good where more parameters are allowed, too
good_wider : (kind : Kind) (m n : Counts) (k x y : ℕ) → m.parameters ≤ n.parameters → m.states ≡ n.states → m.delays ≡ n.delays → GoodAs kind m k x y → GoodAs kind n k x y
good_wider Source m n k x y p s d g = g
good_wider Constant m n k x y p s d g = g
good_wider Parameter m n k x y p s d g = (omega (arith, g.0), g.1)
good_wider State m n k x y p s d g = (omega (arith, g.0), g.1)
good_wider Delay m n k x y p s d g = (omega (arith, g.0), g.1)
good_wider Binary m n k x y p s d g = g
good_wider Divide m n k x y p s d g = g
good_wider Unary m n k x y p s d g = g
good_wider Recip m n k x y p s d g = g
good_wider Tanh m n k x y p s d g = g
good_wider Sigmoid m n k x y p s d g = g
good_wider Unknown m n k x y p s d g = g

-- ---- the tables when both phases begin: e the expansion, m the map of nodes over the work table, `count` the expanded length as the code counts it
pub record Begun (b : Block) (t : Tables) (count : ℕ) (e m : List ℕ) : Type 0 where
  pub counts : count ≡ expanded_length b
  pub expanded : e ≡ words_of (expansion b) ++ drop (3 * expanded_length b) t.expansion
  pub mapped : m ≡ map_of tanh_steps b.nodes (node_count b) ++ drop (node_count b) t.work

-- an accepted call's block expands
expanded_table : (b : Block) (t : Tables) → Accepts b t → (x : Answer Expanded) (e : List ℕ)
    → E.outcome x e ≡ E.expand_call b t.expansion → e ≡ words_of (expansion b) ++ drop (3 * expanded_length b) t.expansion
unfolding E.expand_call E.expand_answer E.table_after
expanded_table b t a x e p =
    let done : Answer Expanded = accepted (record { length = expanded_length b; output = E.mapped_output b }) in
    let q : E.expand_answer b (length t.expansion) ≡ done = then_pass _ a.judged ∙ refuse_pass 13 _ (le-ltb _ _ a.room.expansion) in
    ap (λ (y : E.Outcome). y.table) p ∙ rw q

module _ (b : Block) (t : Tables) (a : Accepts b t) where
  -- .. and is not refused
  pub expands : (x : Result Expanded Refusal) (e : List ℕ) {r : Refusal} → E.outcome (answer_of x) e ≡ E.expand_call b t.expansion → x ≡ Err r → ⊥
  unfolding E.expand_call E.expand_answer
  expands x e {r} p f =
      let done : Answer Expanded = accepted (record { length = expanded_length b; output = E.mapped_output b }) in
      let q : E.expand_answer b (length t.expansion) ≡ done = then_pass _ a.judged ∙ refuse_pass 13 _ (le-ltb _ _ a.room.expansion) in
      let z : refusal r ≡ done = sym (ap answer_of f) ∙ (ap (λ (y : E.Outcome). y.answer) p ∙ q) in
      absurd (let y : ◌≡◌ {A = ℕ} 0 1 = cc in omega arith)

  pub begun : (count : ℕ) (x : Answer Expanded) (e m : List ℕ) (done : Bool) → count ≡ min (expanded_length b) 65537
      → E.outcome x e ≡ E.expand_call b t.expansion → mapping done m ≡ map_call b.nodes t.work → Begun b t count e m
  begun count x e m done c o q =
      let w = a.valid.fits in
      let r = a.room.work in let l = offset_ge tanh_steps b.nodes (node_count b) in
      record {
        counts = omega arith;
        expanded = expanded_table b t a x e o;
        mapped = ap (λ (y : Mapping). y.table) (q ∙ map_call_valid b a.valid t.work (omega arith));
      }

  module _ (count : ℕ) (e m : List ℕ) (g : Begun b t count e m) where
    map_length : length m ≡ length t.work
    map_length =
        let r = a.room.work in let o = offset_ge tanh_steps b.nodes (node_count b) in
        let l = list_length (map_node tanh_steps b.nodes) (node_count b) in
        rw g.mapped (simp (length-append, length-drop) (omega arith))

    is_map : IsMap b m
    is_map =
        let r = a.room.work in
        let l = list_length (map_node tanh_steps b.nodes) (node_count b) in
        record {
          maps = λ i h. rw g.mapped (get_or-append (map_of tanh_steps b.nodes (node_count b)) _ 0 i (omega arith) ∙ list_at (map_node tanh_steps b.nodes) (node_count b) i h);
          room = omega (arith, map_length);
        }

    front : take (3 * expanded_length b) e ≡ words_of (expansion b)
    front = rw g.expanded (take_at (words_of (expansion b)) _ (3 * expanded_length b) (expansion_words_length b))

    -- what both phases are lent
    lent_is : (u s : List ℕ) (o : ℕ) → u ≡ (graph_of b).state_updates → s ≡ (graph_of b).delay_updates → o ≡ E.mapped_output b
        → Lent (sizes_from (expanded_length b) b.states b.delays) (words_of (expansion b)) u s o (length m) (length t.steps) (length t.instructions)
    unfolding graph_of
    lent_is u s o p q r =
        let v = a.valid in
        let h = good_graph b v in
        let w = a.room.work in
        record {
          plain =
              record {
                long = expansion_words_length b;
                good = λ k l.
                    good_wider (kind_of (code (words_of (expansion b)) k)) (counts_of b) (counts_in (sizes_from (expanded_length b) b.states b.delays)) k _ _
                    v.parameter_limit refl refl (good_node b v k l);
                small = v.fits;
                states = v.state_limit;
                delays = v.delay_limit;
                room = omega (arith, map_length);
              };
          held = λ i. rw p (h.state_updates i);
          lines = λ i. rw q (h.delay_updates i);
          states = ap length p ∙ list_length _ (state_count b);
          delays = ap length q ∙ list_length _ (delay_count b);
          inside = rw r (output_mapped b v);
          listed = a.room.steps;
          coded = a.room.instructions;
        }

    states_are : mapped_updates m b.states ≡ (graph_of b).state_updates
    unfolding graph_of
    states_are = updates_are b m is_map b.states a.valid.state_updates

    delays_are : mapped_updates m b.delays ≡ (graph_of b).delay_updates
    unfolding graph_of
    delays_are = updates_are b m is_map b.delays a.valid.delay_updates

    output_is : get_or m b.header.output 0 ≡ E.mapped_output b
    output_is = is_map.maps b.header.output a.valid.output

    pub begun_mapped : Mapped count b.header.output b.states b.delays e t.steps t.instructions m
    begun_mapped =
        let v = a.valid in
        let o = v.output in
        let r = a.room.expansion in
        let w = a.room.work in
        let l : 3 * expanded_length b ≤ length e = rw g.expanded (simp (length-append, length-drop) (omega (arith, expansion_words_length b))) in
        rw g.counts (record {
          held = mappable b m is_map b.states v.state_limit v.state_updates (state_update_mapped b v) v.fits;
          lines = mappable b m is_map b.delays v.delay_limit v.delay_updates (delay_update_mapped b v) v.fits;
          inside = omega (arith, map_length, offset_ge tanh_steps b.nodes (node_count b));
          room = l;
          lent = rw front (lent_is _ _ _ states_are delays_are output_is);
        })

    expanded_nodes : e ≡ (graph_of b).nodes ++ drop (3 * expanded_length b) t.expansion
    unfolding graph_of
    expanded_nodes = g.expanded

    -- it is the expanded block
    flow_is : mapped_flow count b.header.output b.states b.delays e m ≡ flow_of (graph_of b)
    unfolding graph_of flow_of
    flow_is = rw (g.counts, front, states_are, delays_are, output_is)

-- ---- the parts that both phases are lent: u and s the updates, w the work table, zeroed

module _ (count last : ℕ) (states delays expansion steps instructions map : List ℕ) (m : Mapped count last states delays expansion steps instructions map)
    (u s : List ℕ) (eu : u ≡ mapped_updates map states) (es : s ≡ mapped_updates map delays) where
  pub mapped_begun : (w : List ℕ) → w ≡ zeros (length map)
      → Phases.Begun (sizes_from count states delays) (take (3 * count) expansion) u s (get_or map last 0) w steps instructions
  mapped_begun w ew =
      record {
        lent = rw (eu, es, ew, zeros_length (length map)) m.lent;
        clear = λ j. rw ew (zeros_at (length map) j);
      }

  pub mapped_leave : (mask : ℕ) (r : Result Done Refusal) (x y : List ℕ)
      → PhasesLeave (flow_compiled (flow_in (sizes_from count states delays) (take (3 * count) expansion) u s (get_or map last 0)) mask) steps instructions r x y
      → PhasesLeave (flow_compiled (mapped_flow count last states delays expansion map) mask) steps instructions r x y
  mapped_leave mask r x y p = rw (eu, es) at p

-- ---- zeros behind a kernel

zero_behind : (words table s : List ℕ) (k : ℕ) → k ≡ length words → length words ≤ length table → s ≡ sets table 0 words → zeroed k (length s - k) s ≡ zero_past words table
zero_behind words table s k e h p =
    let n : length s ≡ length table = ap length p ∙ length-sets table 0 words in
    let q : s ≡ words ++ drop (0 + length words) table = p ∙ sets-eq words table 0 (omega arith) in
    let front : take k s ≡ words = rw (q, e) (take_at words (drop (0 + length words) table) (length words) refl) in
    zeroed_rest k s (omega arith) ∙ rw (front, n, e)

zero_all : (s table : List ℕ) → length s ≡ length table → zeroed 0 (length s - 0) s ≡ zeros (length table)
zero_all s table n = let z : length s - 0 ≡ length s = omega arith in rw z (zeroed_all s ∙ rw n)

-- ---- the call

accepted_call : (b : Block) (mask : ℕ) (t : Tables) → compile_judged b t ≡ accepted tt
    → compile_call b mask t ≡ outcome (compiled_answer (compile (graph_of b) mask)) (compiled_tables (compile (graph_of b) mask) b t)
unfolding compile_call compile_answer tables_after ◌⨾◌
accepted_call b mask t j = rw j

module _ (b : Block) (mask : ℕ) (t : Tables) (a : Accepts b t) (e : List ℕ) (expanded : e ≡ (graph_of b).nodes ++ drop (3 * expanded_length b) t.expansion)
    (r : Result Done Refusal) (s i w s' i' w' : List ℕ) (steps : length s ≡ length t.steps) (instructions : length i ≡ length t.instructions)
    (work : length w ≡ length t.work) (clear : Cleared r s i w s' i' w') where
  left : (x : Allocated Words.Compiled) → compile (graph_of b) mask ≡ x → PhasesLeave x t.steps t.instructions r s i
      → outcome (answer_of r) (tables e s' i' w') ≡ outcome (compiled_answer x) (compiled_tables x b t)
  unfolding step_end instruction_end
  left (allocated c) q p =
      let f = compile_bounds b a.valid mask c q in
      let x : s' ≡ zero_past c.steps t.steps =
      (rw p.0 at clear.0)
      ∙ zero_behind c.steps t.steps s (2 * (c.kernel.control + c.kernel.sample)) (sym f.step_table) (omega (arith, f.steps, f.step_table, a.room.steps)) p.1.0 in
      let y : i' ≡ zero_past c.instructions t.instructions =
      (rw p.0 at clear.1.0)
      ∙ zero_behind c.instructions t.instructions i (2 * c.kernel.instructions) (sym f.instruction_table)
      (omega (arith, f.steps, f.instructions, f.instruction_table, a.room.instructions)) p.1.1 in
      let z : w' ≡ zeros (length t.work) = clear.1.1 ∙ ap zeros work in
      rw (p.0, x, y, z, expanded)
  left all_locked q p =
      let x : s' ≡ zeros (length t.steps) = (rw p at clear.0) ∙ zero_all s t.steps steps in
      let y : i' ≡ zeros (length t.instructions) = (rw p at clear.1.0) ∙ zero_all i t.instructions instructions in
      let z : w' ≡ zeros (length t.work) = clear.1.1 ∙ ap zeros work in
      rw (p, x, y, z, expanded)

-- WHAT AN ACCEPTED CALL LEAVES
pub built_call : (b : Block) (mask : ℕ) (t : Tables) (a : Accepts b t) (count : ℕ) (e m : List ℕ) → Begun b t count e m
    → (r : Result Done Refusal) (s i w s' i' w' : List ℕ)
    → PhasesLeave (flow_compiled (mapped_flow count b.header.output b.states b.delays e m) mask) t.steps t.instructions r s i
    → length s ≡ length t.steps → length i ≡ length t.instructions → length w ≡ length t.work → Cleared r s i w s' i' w'
    → compile_judged b t ≡ accepted tt → outcome (answer_of r) (tables e s' i' w') ≡ compile_call b mask t
unfolding flow_compiled compile
built_call b mask t a count e m g r s i w s' i' w' p ls li lw clear j =
    let q : flow_compiled (mapped_flow count b.header.output b.states b.delays e m) mask ≡ compile (graph_of b) mask =
    ap (λ flow. flow_compiled flow mask) (flow_is b t a count e m g) in
    left b mask t a e (expanded_nodes b t a count e m g) r s i w s' i' w' ls li lw clear (compile (graph_of b) mask) refl
    (subst (λ x. PhasesLeave x t.steps t.instructions r s i) q p)
    ∙ sym (accepted_call b mask t j)
