-- The call: what an accepted answer says, each way out of the tests, and what an accepted call leaves. Assumes nothing.
use Rattle.std.specs.Prelude.{◌≡◌, Bool, true, false, ◌||◌, List, [], ◌++◌, ℕ, ◌+◌, ◌*◌, ◌≤◌, ◌<◌, min, length, take, drop, ltb, Result, Ok, Err, IsErrAnd}
use Rattle.std.proofs.Common.{sym, ap, ◌∙◌, arith, length-append, length-drop, take_at}
use Rattle.std.proofs.Math.ListN.{get_or-append}
use Rattle.std.proofs.lemmas.Result.{err_from_is_err_and}
use borrow.Author.Tests.{ltb-false, lt-ltb, le-ltb}
use Rattle.tables.specs.Tests.{neither}
use Rattle.tables.specs.Zeros.{zeros}
use Rattle.tables.specs.Lists.{list_length, list_at}
use Rattle.answers.specs.declared.Refusal.{Refusal}
use Rattle.answers.specs.Numbers.{Answer, accepted, refused, refusal, answer_of}
use Rattle.answers.specs.Order.{◌⨾◌}
use Rattle.answers.specs.OrderLaws.{then_accepted, refuse_accepted, then_pass, refuse_pass, refuse_on, refuse_off, hand_on, go_on}
use Rattle.block.specs.Block.{Block, node_count, parameter_count, state_count, delay_count}
use Rattle.block.specs.Kinds.{tanh_steps}
use Rattle.block.specs.Validation.{expanded_length, validation}
use Rattle.block.specs.Valid as Valids
use Rattle.block.specs.Valid.{valid}
use Rattle.expand.specs.declared.Expanded.{Expanded}
use Rattle.expand.specs.Nodes.{words_of}
use Rattle.expand.specs.Expansion as E
use Rattle.expand.specs.Expansion.{expansion, map_node}
use Rattle.expand.specs.Map.{Mapping, mapping, map_of, map_call}
use Rattle.expand.specs.MapLaws.{map_call_valid}
use Rattle.expand.specs.Lengths.{expansion_words_length, offset_ge}
use Rattle.expand.specs.Graph.{graph_of}
use Rattle.expand.specs.Updates.{IsMap}
use Rattle.kernel.specs.declared.Kernel.{Kernel}
use Rattle.checker.specs.declared.table.Terms.{Terms}
use Rattle.checker.specs.Walk.{Listing, listing, walk_answer}
use Rattle.checker.specs.WalkLaws.{Fit}
use Rattle.checker.specs.Plan.{planned_listing, Planned}
use Rattle.checker.specs.PlanLaws.{planned, planned_answer}
use Rattle.checker.specs.Check.{Tables, tables, outcome, work_needed, listing_of, shorter, check_judged, check_after, check_call}

-- ---- every table is as long as it must be
pub record Long (k : Kernel) (nodes states delays expansion steps instructions work : ℕ) : Type 0 where
  pub expanded : 3 * nodes ≤ expansion
  pub listed : 2 * (k.control + k.sample) ≤ steps
  pub coded : 2 * k.instructions ≤ instructions
  pub roomy : work_needed nodes states delays k ≤ work

long : (k : Kernel) (nodes states delays expansion steps instructions work : ℕ) → shorter k nodes states delays expansion steps instructions work ≡ false
    → Long k nodes states delays expansion steps instructions work
unfolding shorter
long k nodes states delays expansion steps instructions work e =
    let x₁ = ltb expansion (3 * nodes) in
    let x₂ = ltb steps (2 * (k.control + k.sample)) in
    let x₃ = ltb instructions (2 * k.instructions) in
    let p = neither (x₁ || x₂ || x₃) (ltb work (work_needed nodes states delays k)) e in
    let q = neither (x₁ || x₂) x₃ p.0 in
    let r = neither x₁ x₂ q.0 in
    record {
      expanded = ltb-false _ _ r.0;
      listed = ltb-false _ _ r.1;
      coded = ltb-false _ _ q.1;
      roomy = ltb-false _ _ p.1;
    }

-- the tests of `shorter`, one after the other
module _ (k : Kernel) (nodes states delays expansion steps instructions work : ℕ) where
  pub shorter_expansion : expansion < 3 * nodes → true ≡ shorter k nodes states delays expansion steps instructions work
  unfolding shorter
  shorter_expansion h = rw (lt-ltb expansion (3 * nodes) h)

  module _ (a : 3 * nodes ≤ expansion) where
    pub shorter_steps : steps < 2 * (k.control + k.sample) → true ≡ shorter k nodes states delays expansion steps instructions work
    unfolding shorter
    shorter_steps h = rw (le-ltb expansion (3 * nodes) a, lt-ltb steps (2 * (k.control + k.sample)) h)

    module _ (b : 2 * (k.control + k.sample) ≤ steps) where
      pub shorter_instructions : instructions < 2 * k.instructions → true ≡ shorter k nodes states delays expansion steps instructions work
      unfolding shorter
      shorter_instructions h =
          rw (le-ltb expansion (3 * nodes) a, le-ltb steps (2 * (k.control + k.sample)) b, lt-ltb instructions (2 * k.instructions) h)

      pub shorter_work : 2 * k.instructions ≤ instructions
          → ltb work (work_needed nodes states delays k) ≡ shorter k nodes states delays expansion steps instructions work
      unfolding shorter
      shorter_work h =
          rw (le-ltb expansion (3 * nodes) a, le-ltb steps (2 * (k.control + k.sample)) b, le-ltb instructions (2 * k.instructions) h)

-- ---- what an accepted call is
pub record Accepted (b : Block) (k : Kernel) (steps instructions : List ℕ) (t : Tables) : Type 0 where
  pub judged : validation b ≡ accepted tt
  pub valid : Valids.Valid b
  pub long : Long k (expanded_length b) (state_count b) (delay_count b) (length t.expansion) (length steps) (length instructions) (length t.work)

pub accepted_check : (b : Block) (k : Kernel) (steps instructions : List ℕ) (t : Tables) → check_judged b k steps instructions t ≡ accepted tt
    → Accepted b k steps instructions t
unfolding check_judged
accepted_check b k steps instructions t e =
    let p = then_accepted (validation b) _ e in
    record {
      judged = p.0;
      valid = valid b p.0;
      long = long _ _ _ _ _ _ _ _ (refuse_accepted 13 _ p.1);
    }

-- a valid block has few states and delays
pub few : (b : Block) (v : Result Unit Refusal) → answer_of v ≡ validation b → v ≡ Ok tt → (state_count b ≤ 4096) × (delay_count b ≤ 4096)
few b v e f = let w = valid b (sym e ∙ ap answer_of f) in (w.state_limit, w.delay_limit)

-- ---- the ways out of the tests. v is validation's verdict, n the expanded length as the code counts it
module _ (b : Block) (k : Kernel) (steps instructions : List ℕ) (t : Tables) (v : Result Unit Refusal) (e : answer_of v ≡ validation b) where
  pub refused_block : (r : Result Unit Refusal) {x : Refusal} → v ≡ Err x → IsErrAnd r (λ y. y ≡ x) → answer_of r ≡ check_judged b k steps instructions t
  unfolding check_judged
  refused_block r f h = hand_on r _ e f h

  module _ (f : v ≡ Ok tt) where
    sound : Valids.Valid b
    sound = valid b (sym e ∙ ap answer_of f)

    module _ (n : ℕ) (c : n ≡ min (expanded_length b) 65537) (d : Bool)
        (g : d ≡ shorter k n (state_count b) (delay_count b) (length t.expansion) (length steps) (length instructions) (length t.work)) where
      is_short : d ≡ shorter k (expanded_length b) (state_count b) (delay_count b) (length t.expansion) (length steps) (length instructions) (length t.work)
      is_short =
          let w = sound.fits in
          let q : n ≡ expanded_length b = omega arith in
          g ∙ ap (λ (m : ℕ). shorter k m (state_count b) (delay_count b) (length t.expansion) (length steps) (length instructions) (length t.work)) q

      pub short_table : d ≡ true → refused 13 [] ≡ check_judged b k steps instructions t
      unfolding check_judged
      short_table h = go_on _ e f (sym (refuse_on 13 (sym is_short ∙ h)))

      pub all_long : d ≡ false → accepted tt ≡ check_judged b k steps instructions t
      unfolding check_judged
      all_long h = go_on _ e f (sym (refuse_off 13 (sym is_short ∙ h)))

-- ---- the call
pub refused_call : (b : Block) (mask : ℕ) (k : Kernel) (steps instructions : List ℕ) (t : Tables) (v : Result Unit Refusal) (r : Result Unit Refusal) {x : Refusal}
    → answer_of v ≡ check_judged b k steps instructions t → v ≡ Err x → IsErrAnd r (λ y. y ≡ x) → outcome (answer_of r) t ≡ check_call b mask k steps instructions t
unfolding check_call check_after ◌⨾◌
refused_call b mask k steps instructions t v r {x} e f h =
    let a : check_judged b k steps instructions t ≡ refusal x = sym e ∙ ap answer_of f in
    let p = err_from_is_err_and r h in
    rw (a, p.1, p.2)

-- the tables when the walk begins: e the expansion, m the map of nodes over the work table, `count` the expanded length as the code counts it
pub record Begun (b : Block) (t : Tables) (count : ℕ) (e m : List ℕ) : Type 0 where
  pub counts : count ≡ expanded_length b
  pub expanded : e ≡ words_of (expansion b) ++ drop (3 * expanded_length b) t.expansion
  pub mapped : m ≡ map_of tanh_steps b.nodes (node_count b) ++ drop (node_count b) t.work

-- an accepted call's block expands
expanded_table : (b : Block) (k : Kernel) (steps instructions : List ℕ) (t : Tables) → Accepted b k steps instructions t → (x : Answer Expanded) (e : List ℕ)
    → E.outcome x e ≡ E.expand_call b t.expansion → e ≡ words_of (expansion b) ++ drop (3 * expanded_length b) t.expansion
unfolding E.expand_call E.expand_answer E.table_after
expanded_table b k steps instructions t a x e p =
    let done : Answer Expanded = accepted (record { length = expanded_length b; output = E.mapped_output b }) in
    let q : E.expand_answer b (length t.expansion) ≡ done = then_pass _ a.judged ∙ refuse_pass 13 _ (le-ltb _ _ a.long.expanded) in
    ap (λ (y : E.Outcome). y.table) p ∙ rw q

module _ (b : Block) (k : Kernel) (steps instructions : List ℕ) (t : Tables) (a : Accepted b k steps instructions t) where
  pub expands : (x : Result Expanded Refusal) (e : List ℕ) {r : Refusal} → E.outcome (answer_of x) e ≡ E.expand_call b t.expansion → x ≡ Err r → ⊥
  unfolding E.expand_call E.expand_answer
  expands x e {r} p f =
      let done : Answer Expanded = accepted (record { length = expanded_length b; output = E.mapped_output b }) in
      let q : E.expand_answer b (length t.expansion) ≡ done = then_pass _ a.judged ∙ refuse_pass 13 _ (le-ltb _ _ a.long.expanded) in
      let z : refusal r ≡ done = sym (ap answer_of f) ∙ (ap (λ (y : E.Outcome). y.answer) p ∙ q) in
      absurd (let y : ◌≡◌ {A = ℕ} 0 1 = cc in omega arith)

  pub begun : (count : ℕ) (x : Answer Expanded) (e m : List ℕ) (done : Bool) → count ≡ min (expanded_length b) 65537
      → E.outcome x e ≡ E.expand_call b t.expansion → mapping done m ≡ map_call b.nodes t.work → Begun b t count e m
  begun count x e m done c o q =
      let w = a.valid.fits in
      let r = a.long.roomy in let l = offset_ge tanh_steps b.nodes (node_count b) in
      record {
        counts = omega arith;
        expanded = expanded_table b k steps instructions t a x e o;
        mapped = ap (λ (y : Mapping). y.table) (q ∙ map_call_valid b a.valid t.work (omega arith));
      }

  module _ (count : ℕ) (e m : List ℕ) (g : Begun b t count e m) where
    map_length : length m ≡ length t.work
    map_length =
        let r = a.long.roomy in let o = offset_ge tanh_steps b.nodes (node_count b) in
        let l = list_length (map_node tanh_steps b.nodes) (node_count b) in
        rw g.mapped (simp (length-append, length-drop) (omega arith))

    is_map : IsMap b m
    is_map =
        let r = a.long.roomy in
        let l = list_length (map_node tanh_steps b.nodes) (node_count b) in
        record {
          maps = λ i h. rw g.mapped (get_or-append (map_of tanh_steps b.nodes (node_count b)) _ 0 i (omega arith) ∙ list_at (map_node tanh_steps b.nodes) (node_count b) i h);
          room = omega (arith, map_length);
        }

    front : take (3 * expanded_length b) e ≡ words_of (expansion b)
    front = rw g.expanded (take_at (words_of (expansion b)) _ (3 * expanded_length b) (expansion_words_length b))

    pub begun_planned : (mask : ℕ) → Planned count (parameter_count b) e m b.header.output b.states b.delays mask k steps instructions
    begun_planned mask =
        let r = a.long.expanded in let n = a.long.roomy in
        let l : 3 * expanded_length b ≤ length e = rw g.expanded (simp (length-append, length-drop) (omega (arith, expansion_words_length b))) in
        rw g.counts (planned b m is_map a.valid mask k e steps instructions front l a.long.listed a.long.coded (omega (arith, map_length)))

    -- what an accepted call leaves
    pub checked_call : (mask : ℕ) (z w : List ℕ) (v : Result Unit Refusal) → z ≡ zeros (length w) → length w ≡ length m
        → answer_of v ≡ walk_answer (planned_listing count (parameter_count b) e m b.header.output b.states b.delays mask k steps instructions)
        → check_judged b k steps instructions t ≡ accepted tt
        → outcome (answer_of v) (tables e z) ≡ check_call b mask k steps instructions t
    unfolding check_call check_after graph_of ◌⨾◌
    checked_call mask z w v pz pn pv j =
        let q : answer_of v ≡ walk_answer (listing_of b mask k steps instructions) =
        pv ∙ (ap (λ (c : ℕ). walk_answer (planned_listing c (parameter_count b) e m b.header.output b.states b.delays mask k steps instructions)) g.counts
        ∙ planned_answer b m is_map a.valid mask k e steps instructions front) in
        rw (j, q, pz, pn, map_length, g.expanded)

-- ---- parts that are the planned updates
pub same_fit : (p : Terms) (nodes u s u' s' steps instructions t : List ℕ) → u ≡ u' → s ≡ s' → Fit p nodes u' s' steps instructions t → Fit p nodes u s steps instructions t
same_fit p nodes u s u' s' steps instructions t e f x = rw (e, f) x

-- no answer looks at the counts of states and delays beside the updates
module _ (count parameters output mask : ℕ) (kernel : Kernel) (nodes u s u' s' steps instructions : List ℕ) (a : Answer Unit) where
  abbrev over : List ℕ → List ℕ → Listing
  over x y =
      listing
      (record { count = count; nodes = nodes; output = output; state_updates = x; delay_updates = y; delay_lengths = [] })
      parameters
      mask
      kernel
      steps
      instructions

  pub same_walk : u ≡ u' → s ≡ s' → a ≡ walk_answer (over u s) → a ≡ walk_answer (over u' s')
  same_walk e f x = x ∙ rw (e, f)
