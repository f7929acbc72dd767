-- The arms of a task on exact words are the first layer's: compute, keep, store. Assumes nothing.
use Rattle.std.specs.Prelude.{◌≡◌, Bool, ◌&&◌, set, ltb}
use Rattle.std.proofs.Math.Path.{refl, ap}
use Rattle.std.proofs.Common.{sym, ◌∙◌, inl, inr}
use Rattle.std.proofs.Math.Bool.{true, false, cond, not}
use mathlib.Core.List.{List, [], ◌∷◌, map}
use Prim.Native.Nat.{ℕ, zero, suc, pred, ◌+◌, ◌-◌, ◌≤◌, ◌<◌}
use Rattle.std.proofs.Math.Numerals.{add-one}
use native.Mathlib.Omega.{arith}
use Rattle.std.proofs.Math.ListN.{length, get_or}
use Rattle.std.proofs.Math.Dec.{eqb, eqb-suc-zero}
use borrow.Author.Tests.{eq-eqb, ne_eqb, eqb-false, ltb-true, ltb-false}
use Rattle.tables.specs.Tests.{cond_pred}
use Rattle.kernel.specs.declared.Instruction.TheVariants.{Neg, Abs, IntegerSub}
use Rattle.block.specs.declared.Kind.{Kind}
use Rattle.block.specs.declared.Kind.TheVariants as Kinds
use Rattle.block.specs.Block.{code, first, second}
use Rattle.block.specs.Kinds.{kind_of}
use Rattle.plan.specs.Lists.{first_of, is_some}
use Rattle.plan.specs.Nodes.{input_node, network_node, binary_node, unary_node, node_at, operands}
use Rattle.plan.specs.Flow.{node_as, node_of}
use Rattle.plan.specs.Origins.{canonical}
use Rattle.plan.specs.Origins as Origins
use Rattle.plan.specs.OriginLaws.{home_known}
use Rattle.allocate.specs.declared.Frame.{Frame}
use Rattle.allocate.specs.declared.Access.{Access}
use Rattle.allocate.specs.declared.Reads.{Reads}
use Rattle.allocate.specs.Actions.{Action, instruction_of, store_control, store_action}
use Rattle.allocate.specs.State.{Allocated, allocated, all_locked, and_then, Setting, State, Taken, register_of, is_fresh, emit, emit_operation, set_slot, stale, lend}
use Rattle.allocate.specs.Allocator.{distance, read_later, fetch, release_all, result_register, lower, run_compute, run_keep, home_code, preserve_if, preserve, run_store}
use Rattle.allocate.specs.StateLaws.{Good}
use Rattle.allocate.specs.Layout.{slot_at, fresh_at}
use Rattle.allocate.specs.Desk.{Desk, Choice, choose, access, store, emitted, operated, taken, fetched}
use Rattle.allocate.specs.Ready.{Kept}
use Rattle.allocate.specs.Tasks.{handed, destined, lowered, computed, stowed, home_of, target_of, preserved, written, stored, finished}
use Rattle.allocate.specs.TaskReady.{handed_kept, stowed_kept, written_kept}
use Rattle.allocate.specs.Holds.{next_word, Holds, phase_same, fresh_at_lem, tables_holder, tables_spilled, tables_fresh}
use Rattle.allocate.specs.HoldsLaws.{Says, says_state, says_delay, says_output, says_control, emitted_holds, operated_holds}
use Rattle.allocate.specs.HoldsTake.{Answers, next_word_lem, taken_holds}
use Rattle.allocate.specs.HoldsFetch.{ReadsAre, fetched_holds, released_both_holds}
use Rattle.allocate.specs.HoldsReads.{Paired, locks_one, locks_paired}

-- ---- the instruction of a computation

-- the reads' shape
pub paired_reads : (r : Reads) (reads : List ℕ) (one two : ℕ) (registers : List ℕ) → Paired r reads one two registers → ReadsAre r reads
paired_reads r reads one two registers (inl p) = inl p.0
paired_reads r reads one two registers (inr p) = inr p.0

-- the first register
pub paired_first : (r : Reads) (reads : List ℕ) (one two : ℕ) (registers : List ℕ) → Paired r reads one two registers → get_or registers 0 0 ≡ one
paired_first r reads one two registers (inl p) = rw p.1
paired_first r reads one two registers (inr p) = rw p.1.0

-- what a node's code says of its operands
pub data CodeIs (c : ℕ) : Kind → Type 0 where
  two_operands : c < 11 → CodeIs c Kinds.Binary
  one_operand : 12 ≤ c → c < 14 → CodeIs c Kinds.Unary
  no_operand : (kind : Kind) → ((x y : ℕ) → operands (node_as kind c x y) ≡ []) → CodeIs c kind

pub code_is : (c : ℕ) → CodeIs c (kind_of c)
unfolding kind_of
code_is c =
    let P : Kind → Type 0 = CodeIs c in
    cond_pred P (eqb c 0) (λ _. no_operand Kinds.Source (λ x y. source (eqb c 17)))
    (λ _.
    cond_pred P (eqb c 1) (λ _. no_operand Kinds.Constant (λ x y. refl))
    (λ _.
    cond_pred P (eqb c 2) (λ _. no_operand Kinds.Parameter (λ x y. refl))
    (λ _.
    cond_pred P (eqb c 3) (λ _. no_operand Kinds.State (λ x y. refl))
    (λ _.
    cond_pred P (eqb c 4) (λ _. no_operand Kinds.Delay (λ x y. refl))
    (λ _.
    cond_pred P (ltb c 11) (λ q. two_operands (ltb-true c 11 q))
    (λ l.
    cond_pred P (eqb c 11) (λ _. no_operand Kinds.Divide (λ x y. refl))
    (λ n.
    let z : c ≡ 11 → ⊥ = eqb-false c 11 n in
    cond_pred P (ltb c 14) (λ q. one_operand (omega (arith, ltb-false c 11 l)) (ltb-true c 14 q))
    (λ _.
    cond_pred P (eqb c 14) (λ _. no_operand Kinds.Recip (λ x y. refl))
    (λ _.
    cond_pred P (eqb c 15) (λ _. no_operand Kinds.Tanh (λ x y. refl))
    (λ _.
    cond_pred P (eqb c 16) (λ _. no_operand Kinds.Sigmoid (λ x y. refl))
    (λ _.
    cond_pred P (eqb c 17) (λ _. no_operand Kinds.Source (λ x y. source (eqb c 17)))
    (λ _. no_operand Kinds.Unknown (λ x y. refl)))))))))))))
  where
    source : (b : Bool) → operands (cond b network_node input_node) ≡ []
    source true = refl
    source false = refl

module _ (f : ℕ → ℕ) (c x y dst one two : ℕ) (r : Reads) (reads registers : List ℕ) where
  binary_is : Paired r reads one two registers → reads ≡ f x ∷ f y ∷ [] → c < 11 → lowered c dst one two ≡ instruction_of (lower (binary_node c x y) dst registers)
  unfolding lowered
  binary_is (inl p) q h = rw (p.1, ne_eqb c 12 (λ z. omega arith), ne_eqb c 13 (λ z. omega arith))
  binary_is (inr p) q h = let z = ap length (sym p.0.0 ∙ q) in absurd (omega arith)

  unary_is : Paired r reads one two registers → reads ≡ f x ∷ [] → 12 ≤ c → c < 14 → lowered c dst one two ≡ instruction_of (lower (unary_node c x) dst registers)
  unfolding lowered
  unary_is (inl p) q l h = let z = ap length (sym p.0 ∙ q) in absurd (omega arith)
  unary_is (inr p) q l h =
      rw (
        p.1.0,
        ne_eqb c 5 (λ z. omega arith),
        ne_eqb c 6 (λ z. omega arith),
        ne_eqb c 7 (λ z. omega arith),
        ne_eqb c 8 (λ z. omega arith),
        ne_eqb c 9 (λ z. omega arith),
      )
      (go (eqb c 12) refl)
    where
      go : (b : Bool) → eqb c 12 ≡ b → cond b (Neg dst one) (cond (eqb c 13) (Abs dst one) (IntegerSub dst one two)) ≡ cond b (Neg dst one) (Abs dst one)
      go true q = refl
      go false q = rw (eq-eqb c 13 (omega (arith, eqb-false c 12 q)))

  none_not : Paired r reads one two registers → reads ≡ [] → ⊥
  none_not (inl p) q = let z = ap length (sym p.0 ∙ q) in omega arith
  none_not (inr p) q = let z = ap length (sym p.0.0 ∙ q) in omega arith

  -- THE INSTRUCTION OF A COMPUTATION is what its node is lowered to
  pub lowered_is : Paired r reads one two registers → reads ≡ map f (operands (node_of c x y))
      → lowered c dst one two ≡ instruction_of (lower (node_of c x y) dst registers)
  unfolding node_of
  lowered_is p = go (kind_of c) (code_is c)
    where
      go : (kind : Kind) → CodeIs c kind → reads ≡ map f (operands (node_as kind c x y))
          → lowered c dst one two ≡ instruction_of (lower (node_as kind c x y) dst registers)
      go kind (two_operands h) q = binary_is p q h
      go kind (one_operand l h) q = unary_is p q l h
      go kind (no_operand k h) q = absurd (none_not p (q ∙ ap (map f) (h x y)))

-- ---- compute

-- a node that is not read again, by its next read's word
pub next_none : (rest : List (List ℕ)) (position n : ℕ) → eqb (next_word rest position n) 0 ≡ not (read_later rest n)
unfolding next_word
next_none rest position n = go (read_later rest n)
  where
    go : (b : Bool) → eqb (cond b (suc (position + distance rest n)) 0) 0 ≡ not b
    go true = eqb-suc-zero (position + distance rest n)
    go false = refl

-- the first of a task's reads that passes
first_shape : (p : ℕ → Bool) (r : Reads) (reads : List ℕ) → ReadsAre r reads
    → first_of p reads ≡ cond (p r.first) (suc r.first) (cond (p r.second) (suc r.second) 0)
first_shape p r reads (inl q) = rw q
first_shape p r reads (inr q) = rw (q.0, q.1) (go (p r.first))
  where
    go : (b : Bool) → cond b (suc r.first) 0 ≡ cond b (suc r.first) (cond b (suc r.first) 0)
    go true = refl
    go false = refl

-- ---- a store's step

-- a store's code and index are its action's
pub record Stores (a : Access) : Type 0 where
  pub stores : (register : ℕ) → register < 16 → Says (store_action a.code a.index register) a.code register a.index

state_stores : (index : ℕ) → Stores (access 10 index)
unfolding store_action
state_stores index = record { stores = λ register small. says_state register small index }

delay_stores : (index : ℕ) → Stores (access 11 index)
unfolding store_action
delay_stores index = record { stores = λ register small. says_delay register small index }

output_stores : Stores (access 12 0)
unfolding store_action
output_stores = record { stores = λ register small. says_output register small }

-- what a task writes
pub target_stores : (frame : Frame) (memory : ℕ) → Stores (target_of frame memory)
unfolding target_of
target_stores frame memory =
    cond_pred Stores (ltb memory frame.states) (λ _. state_stores memory)
    (λ _. cond_pred Stores (ltb (memory - frame.states) frame.delays) (λ _. delay_stores (memory - frame.states)) (λ _. output_stores))

module _ (frame : Frame) (nodes : List ℕ) (e : Setting) (table program : List ℕ) (prior : List Action) (rest : List (List ℕ)) (position : ℕ) where
  abbrev H : Desk → State → Type 0
  H d s = Holds frame nodes e table program prior rest position d s

  -- a desk that holds the state; 16 is the refusal
  abbrev pub Done : Choice → Allocated State → Type 0
  Done c (allocated s) = (c.register ≡ 16 → ⊥) × H c.desk s
  Done c all_locked = c.register ≡ 16

  -- A REGISTER IS LENT to the result
  pub handed_holds : (d : Desk) (s : State) → H d s → (dying register node : ℕ) → dying < frame.nodes → node < frame.nodes → register < 16
      → H (handed frame dying register node d) (lend register dying node s)
  unfolding handed lend
  handed_holds d s h dying register node old here small =
      let k = handed_kept frame d h.ready dying register node old here small in
      let t = tables_holder frame d.work d.allocator.freed _ s.holder s.spilled s.fresh s.free h.tables dying 0 old in
      record {
        ready = k.0;
        phase = phase_same frame nodes e d.work _ k.1.same h.phase;
        few = h.few;
        tables =
            rw (add-one register)
            (tables_holder frame _ d.allocator.freed _ (set s.holder dying 0) s.spilled s.fresh s.free t node (suc register) here);
        owner = rw (h.owner, add-one node);
        slots = h.slots;
        most = h.most;
        written = h.written;
      }

  module _ (d : Desk) (s : State) (h : H d s) (r : Reads) (reads : List ℕ) (one two : ℕ) (registers : List ℕ) (paired : Paired r reads one two registers)
      (below : (r.first < frame.nodes) × (r.second < frame.nodes)) (small : (one < 16) × (two < 16)) where
    -- A RESULT'S REGISTER, lent or taken
    pub destined_holds : length s.owner ≡ 16 → (register_of s r.first ≡ suc one) × (register_of s r.second ≡ suc two) → (node : ℕ) → node < frame.nodes
        → Answers frame nodes e table program prior rest position (destined frame r one two node d)
        (result_register e rest node registers s (first_of (λ n. not (read_later rest n)) reads))
    unfolding destined
    destined_holds sixteen held node here =
        rw (
          next_word_lem frame nodes e table program prior rest position d s h r.first below.0,
          next_word_lem frame nodes e table program prior rest position d s h r.second below.1,
          next_none rest position r.first,
          next_none rest position r.second,
          first_shape (λ n. not (read_later rest n)) r reads (paired_reads r reads one two registers paired),
        )
        (go (not (read_later rest r.first)) (not (read_later rest r.second)))
      where
        lent : (dying register : ℕ) → dying < frame.nodes → register < 16 → register_of s dying ≡ suc register
            → Answers frame nodes e table program prior rest position (choose register (handed frame dying register node d))
            (result_register e rest node registers s (suc dying))
        lent dying register l m q =
            let z : pred (register_of s dying) ≡ register = omega arith in
            rw z (refl, (m, handed_holds d s h dying register node l here m))

        go : (a b : Bool)
            → Answers frame nodes e table program prior rest position
            (cond a (choose one (handed frame r.first one node d)) (cond b (choose two (handed frame r.second two node d)) (taken frame one two node d)))
            (result_register e rest node registers s (cond a (suc r.first) (cond b (suc r.second) 0)))
        go true b = lent r.first one below.0 small.0 held.0
        go false true = lent r.second two below.1 small.1 held.1
        go false false =
            taken_holds frame nodes e table program prior rest position d s h sixteen one two registers (locks_paired r reads one two registers paired) node here

    -- what is not read again is released
    pub finished_holds : (c : Choice) (t : State) → (c.register ≡ 16 → ⊥) → H c.desk t → Done (finished frame r c) (allocated (release_all e rest reads t))
    unfolding finished
    finished_holds c t n k =
        rw (ne_eqb c.register 16 n)
        (n, released_both_holds frame nodes e table program prior rest position c.desk t k r reads (paired_reads r reads one two registers paired) below.0 below.1)

    pub finished_not : (c : Choice) → c.register ≡ 16 → (finished frame r c).register ≡ 16
    unfolding finished
    finished_not c q = rw (eq-eqb c.register 16 q) q

    -- COMPUTE
    pub compute_holds : length s.owner ≡ 16 → (register_of s r.first ≡ suc one) × (register_of s r.second ≡ suc two) → (node : ℕ) → node < frame.nodes
        → reads ≡ map (canonical e.origins) (operands (node_at e.nodes node))
        → Done (finished frame r (computed frame nodes r one two node d)) (run_compute e rest reads node (record { registers = registers; state = s }))
    unfolding computed run_compute
    compute_holds sixteen held node here q =
        go (destined frame r one two node d) (result_register e rest node registers s (first_of (λ n. not (read_later rest n)) reads))
        (destined_holds sixteen held node here)
      where
        same : reads ≡ map (canonical e.origins) (operands (node_of (code nodes node) (first nodes node) (second nodes node)))
        same = rw (← (h.phase.each node here)) q

        go : (c : Choice) (m : Allocated Taken) → Answers frame nodes e table program prior rest position c m
            → Done (finished frame r (cond (eqb c.register 16) c (choose c.register (operated (lowered (code nodes node) c.register one two) c.desk))))
            (and_then m (λ t. allocated (release_all e rest reads (emit_operation (lower (node_at e.nodes node) t.register registers) t.state))))
        go c (allocated t) a =
            let n : c.register ≡ 16 → ⊥ = λ z. omega (arith, a.0, a.1.0) in
            let i : lowered (code nodes node) c.register one two ≡ instruction_of (lower (node_at e.nodes node) t.register registers) =
            rw (h.phase.each node here, a.0)
            (lowered_is (canonical e.origins) (code nodes node) (first nodes node) (second nodes node) t.register one two r reads registers paired same) in
            rw (ne_eqb c.register 16 n)
            (finished_holds (choose c.register (operated (lowered (code nodes node) c.register one two) c.desk))
            (emit_operation (lower (node_at e.nodes node) t.register registers) t.state) n
            (operated_holds frame nodes e table program prior rest position c.desk t.state a.1.1 (lower (node_at e.nodes node) t.register registers)
            (lowered (code nodes node) c.register one two) i))
        go c all_locked a = rw (eq-eqb c.register 16 a) (finished_not c a)

    -- ---- keep

    -- KEEP
    pub keep_holds : (node slot : ℕ) → node < frame.nodes → get_or d.work (slot_at frame node) 0 ≡ suc slot → suc slot ≤ frame.fixed
        → Done (finished frame r (choose one (stowed frame one node d))) (run_keep e rest reads slot node (record { registers = registers; state = s }))
    unfolding run_keep stowed set_slot emitted emit
    keep_holds node slot here own fixed =
        let f = stowed_kept frame d h.ready one node here (rw own fixed) in
        let z : get_or d.work (slot_at frame node) 0 - 1 ≡ slot = omega arith in
        let one-is : get_or registers 0 0 ≡ one = paired_first r reads one two registers paired in
        let x : Desk = emitted 13 one slot d in
        let u : State = emit (store_control slot one) s in
        let k : H x u = emitted_holds frame nodes e table program prior rest position d s h (store_control slot one) 13 one slot (says_control one small.0 slot) in
        let y : H (stowed frame one node d) (set_slot node slot u) =
        record {
          ready = f.0;
          phase = phase_same frame nodes e d.work _ f.1.same h.phase;
          few = h.few;
          tables = rw own (tables_spilled frame d.work d.allocator.freed _ s.holder s.spilled s.fresh s.free h.tables node (suc slot) here);
          owner = h.owner;
          slots = h.slots;
          most = h.most;
          written = rw z k.written;
        } in
        rw one-is (finished_holds (choose one (stowed frame one node d)) (set_slot node slot u) (λ w. omega (arith, small.0)) y)

  -- ---- store

  -- what is 0 is none
  none_is : (w : ℕ) → eqb w 0 ≡ not (is_some w)
  none_is zero = refl
  none_is (suc w) = eqb-suc-zero w

  -- AN OLD VALUE IS LOADED while memory still holds it, or both refuse
  pub preserved_holds : (d : Desk) (s : State) → H d s → (own : List ℕ) → Good e own s → (register : ℕ) → register < 16 → (home : ℕ) → home ≤ frame.nodes
      → Done (preserved frame nodes register home d) (preserve e rest (register ∷ []) s home)
  unfolding preserved
  preserved_holds d s h own g register small zero inside = ((λ z. omega arith), h)
  preserved_holds d s h own g register small (suc n) inside =
      let z : suc n - 1 ≡ n = omega arith in
      rw (
        eqb-suc-zero n,
        z,
        none_is (get_or d.work (fresh_at frame n) 0),
        fresh_at_lem frame d.work _ _ _ _ _ _ h.tables n inside,
        next_word_lem frame nodes e table program prior rest position d s h n inside,
        next_none rest position n,
      )
      (go (is_fresh s n) (read_later rest n))
    where
      loads : (c : Choice) (m : Allocated Taken) → Answers frame nodes e table program prior rest position c m → Done c (and_then m (λ t. allocated t.state))
      loads c (allocated t) a = ((λ z. omega (arith, a.0, a.1.0)), a.1.1)
      loads c all_locked a = a

      go : (a b : Bool)
          → Done (cond (not a) (choose register d) (cond (not b) (choose register d) (fetched frame nodes register 16 n d)))
          (preserve_if (a && b) e rest n (register ∷ []) s)
      go false b = ((λ z. omega arith), h)
      go true false = ((λ z. omega arith), h)
      go true true =
          loads (fetched frame nodes register 16 n d) (fetch e rest n (register ∷ []) s)
          (fetched_holds frame nodes e table program prior rest position d s h own g register 16 (register ∷ []) (locks_one register) n inside)

  -- THE STORE, after which memory no longer holds what it held
  pub written_holds : (d : Desk) (s : State) → H d s → (to : Access) → Stores to → (register : ℕ) → register < 16 → (home : ℕ) → home ≤ frame.nodes
      → H (written frame to register home d) (stale home (emit (store_action to.code to.index register) s))
  unfolding written stale emitted emit
  written_holds d s h to says register small zero inside =
      emitted_holds frame nodes e table program prior rest position d s h (store_action to.code to.index register) to.code register to.index
      (says.stores register small)
  written_holds d s h to says register small (suc n) inside =
      let z : suc n - 1 ≡ n = omega arith in
      let k : Kept frame 1 d (cond (eqb (suc n) 0) (emitted to.code register to.index d) (store (emitted to.code register to.index d) (fresh_at frame (suc n - 1)) 0)) =
      written_kept frame nodes d h.ready register (suc n) inside to in
      let k₁ : Kept frame 1 d (store (emitted to.code register to.index d) (fresh_at frame n) 0) = rw (eqb-suc-zero n, z) at k in
      let x =
      emitted_holds frame nodes e table program prior rest position d s h (store_action to.code to.index register) to.code register to.index
      (says.stores register small) in
      rw (eqb-suc-zero n, z)
      (record {
        ready = k₁.0;
        phase = phase_same frame nodes e d.work _ k₁.1.same h.phase;
        few = h.few;
        tables = tables_fresh frame d.work d.allocator.freed _ s.holder s.spilled s.fresh s.free h.tables n 0 inside;
        owner = h.owner;
        slots = h.slots;
        most = h.most;
        written = x.written;
      })

  -- STORE
  pub store_holds : (d : Desk) (s : State) → H d s → (own : List ℕ) → Good e own s → (r : Reads) (reads : List ℕ) (one : ℕ) → Paired r reads one one (one ∷ [])
      → (below : (r.first < frame.nodes) × (r.second < frame.nodes)) → one < 16
      → (memory : ℕ) → memory ≤ frame.states + frame.delays
      → Done (finished frame r (stored frame nodes one memory d))
      (run_store e rest reads (target_of frame memory).code (target_of frame memory).index (record { registers = one ∷ []; state = s }))
  unfolding stored run_store
  store_holds d s h own g r reads one paired below small memory l =
      rw (← home)
      (go (preserved frame nodes one (home_of frame d.work memory) d) (preserve e rest (one ∷ []) s (home_of frame d.work memory))
      (preserved_holds d s h own g one small (home_of frame d.work memory) inside))
    where
      to : Access
      to = target_of frame memory

      home : home_of frame d.work memory ≡ Origins.home_of e.origins (home_code to.code) to.index
      home = h.phase.homes memory l

      within : (x : ℕ) → Origins.home_of e.origins (home_code to.code) to.index ≡ x → x ≤ frame.nodes
      within zero q = omega arith
      within (suc n) q = rw h.phase.count at (home_known e.origins (home_code to.code) to.index n q).0

      inside : home_of frame d.work memory ≤ frame.nodes
      inside = rw home (within (Origins.home_of e.origins (home_code to.code) to.index) refl)

      go : (c : Choice) (m : Allocated State) → Done c m
          → Done (finished frame r (cond (eqb c.register 16) c (choose one (written frame to one (home_of frame d.work memory) c.desk))))
          (and_then m (λ t. allocated (release_all e rest reads (stale (home_of frame d.work memory) (emit (store_action to.code to.index one) t)))))
      go c (allocated t) a =
          rw (ne_eqb c.register 16 a.0)
          (finished_holds d s h r reads one one (one ∷ []) paired below (small, small) (choose one (written frame to one (home_of frame d.work memory) c.desk))
          (stale (home_of frame d.work memory) (emit (store_action to.code to.index one) t)) (λ z. omega arith)
          (written_holds c.desk t a.1 to (target_stores frame memory) one small (home_of frame d.work memory) inside))
      go c all_locked a = rw (eq-eqb c.register 16 a) (finished_not d s h r reads one one (one ∷ []) paired below (small, small) c a)
