-- Every index that a phase emits is a slot's or one that the plan names, and every immediate a constant's: `run_fine`. Assumes nothing.
use Rattle.std.specs.Prelude.{◌≡◌, ◌⊎◌, Bool, cond, ◌&&◌, length, get_or, eqb, leb}
use Rattle.std.proofs.Math.Path.{refl}
use Rattle.std.proofs.Common.{inl, inr}
use Rattle.std.proofs.Math.Bool.{true, false, not}
use mathlib.Core.List.{List, [], ◌∷◌, ◌++◌}
use Prim.Native.Nat.{ℕ, zero, suc, pred, ◌+◌, ◌≤◌, ◌<◌}
use native.Mathlib.Omega.{arith}
use Rattle.std.proofs.Math.Dec.{T, eqb→eq, eqb_refl}
use Rattle.tables.specs.Tests.{or_pass}
use Rattle.tables.specs.Stores.{set_says}
use Rattle.tables.specs.Zeros.{zeros_at}
use Rattle.kernel.specs.declared.Source.TheVariants as Source
use Rattle.kernel.specs.Steps.{source_index}
use Rattle.plan.specs.Lists.{member, first_of}
use Rattle.plan.specs.Nodes.{Node, input_node, network_node, constant_node, parameter_node, state_node, delay_node, binary_node, unary_node, node_at}
use Rattle.plan.specs.Origins.{Origin, no_origin, immediate, loaded, origin_at, home_of}
use Rattle.plan.specs.Schedule.{Task, compute_task, keep_task, store_task, task_reads}
use Rattle.plan.specs.TestLaws.{or_first, or_second}
use Rattle.allocate.specs.Actions.{Operation, load_immediate, binary, unary, Action, load, compute, spill, reload, store_state, store_delay, store_output, store_control, source_of, load_action, store_action}
use Rattle.allocate.specs.State.{Allocated, Setting, State, Taken, TakenAll, register_of, slot_of, is_fresh, reloadable, emit, emit_operation, to_slot, from_slot, spill_to, spill_in, spill_out, give_back, place, vacate, release, begin, lend, set_slot, stale}
use Rattle.allocate.specs.Allocator.{spill_if, evict, take_register, bring_from, bring_if, bring, fetch_held, fetch, fetch_all, release_if, release_all, read_later, result_register, lower, run_compute, run_keep, home_code, preserve_if, preserve, run_store, run_task, allocate_task, reads_of, allocate}
use Rattle.allocate.specs.Outcomes.{Post, post_bind}
use Rattle.allocate.specs.StateLaws.{TakeView, was_free, evicted, none, take_view, unset}

-- the immediate of an operation
abbrev pub immediate_of : Operation → ℕ
immediate_of (load_immediate bits dst) = bits
immediate_of (binary code dst lhs rhs) = 0
immediate_of (unary code dst src) = 0

-- the index of a step; a compute's is a number that it gets later
abbrev pub action_index : Action → ℕ
action_index (load source register) = source_index source
action_index (compute operation) = 0
action_index (spill slot register) = slot
action_index (reload slot register) = slot
action_index (store_state state register) = state
action_index (store_delay delay register) = delay
action_index (store_output register) = 0
action_index (store_control slot register) = slot

-- the immediate that comes with it
abbrev pub action_immediate : Action → ℕ
action_immediate (load source register) = 0
action_immediate (compute operation) = immediate_of operation
action_immediate (spill slot register) = 0
action_immediate (reload slot register) = 0
action_immediate (store_state state register) = 0
action_immediate (store_delay delay register) = 0
action_immediate (store_output register) = 0
action_immediate (store_control slot register) = 0

-- P holds of every action
abbrev pub AllActions : (Action → Type 0) → List Action → Type 0
AllActions P [] = Unit {0}
AllActions P (x ∷ xs) = P x × AllActions P xs

-- what P implies holds too
pub all_map : (P Q : Action → Type 0) → ((x : Action) → P x → Q x) → (xs : List Action) → AllActions P xs → AllActions Q xs
all_map P Q f [] a = tt
all_map P Q f (x ∷ xs) a = (f x a.0, all_map P Q f xs a.1)

-- of two lists, one behind the other
pub all_append : (P : Action → Type 0) (xs ys : List Action) → AllActions P xs → AllActions P ys → AllActions P (xs ++ ys)
all_append P [] ys a c = c
all_append P (x ∷ xs) ys a c = (a.0, all_append P xs ys a.1 c)

-- the index of a load is that of its source, or 0
source_index_lem : (c i k : ℕ) → 0 < k → i < k → source_index (source_of c i) < k
unfolding source_of
source_index_lem c i k z h = one (eqb c 1) (eqb c 2) (eqb c 3) (eqb c 4) (eqb c 5)
  where
    one : (a b c d e : Bool)
        → source_index (cond a Source.Audio (cond b Source.Network
        (cond c (Source.Parameter i) (cond d (Source.State i) (cond e (Source.Delay i) (Source.Control i)))))) < k
    one true b c d e = z
    one false true c d e = z
    one false false true d e = h
    one false false false true e = h
    one false false false false true = h
    one false false false false false = h

-- with a margin for the indices that the plan names, and a limit for constants
module _ (margin limit : ℕ) (some : 0 < margin) (any : 0 < limit) where
  -- an action on so many slots
  abbrev pub Fine : ℕ → Action → Type 0
  Fine slots x = (action_index x < slots + margin) × (action_immediate x < limit)

  -- an origin, a task
  abbrev pub FineOrigin : Origin → Type 0
  FineOrigin no_origin = Unit {0}
  FineOrigin (immediate bits) = bits < limit
  FineOrigin (loaded code index) = index < margin

  -- a task
  abbrev pub FineTask : Task → Type 0
  FineTask (compute_task n) = Unit {0}
  FineTask (keep_task slot n) = slot < margin
  FineTask (store_task code index n) = index < margin

  -- all tasks
  abbrev pub FineTasks : List Task → Type 0
  FineTasks [] = Unit {0}
  FineTasks (task ∷ tasks) = FineTask task × FineTasks tasks

  -- the slots in use, the freed ones and the steps
  pub record FineState (s : State) : Type 0 where
    pub used : (n k : ℕ) → slot_of s n ≡ suc k → k < s.slots + margin
    pub freed : (k : ℕ) → T (member k s.free) → k < s.slots + margin
    pub steps : AllActions (Fine s.slots) s.steps

  emit_fine : (x : Action) (s : State) → Fine s.slots x → FineState s → FineState (emit x s)
  unfolding emit
  emit_fine x s f h = record { used = h.used; freed = h.freed; steps = all_append (Fine s.slots) s.steps (x ∷ []) h.steps (f, tt) }

  to_slot_lem : (e : Setting) (k r slots : ℕ) → k < slots + margin → Fine slots (to_slot e k r)
  unfolding to_slot
  to_slot_lem e k r slots h = go e.in_control
    where
      go : (b : Bool) → Fine slots (cond b (store_control k r) (spill k r))
      go true = (h, any)
      go false = (h, any)

  from_slot_lem : (e : Setting) (k r slots : ℕ) → k < slots + margin → Fine slots (from_slot e k r)
  unfolding from_slot
  from_slot_lem e k r slots h = go e.in_control
    where
      go : (b : Bool) → Fine slots (cond b (load (Source.Control k) r) (reload k r))
      go true = (h, any)
      go false = (h, any)

  spill_to_lem : (e : Setting) (n r k slots : ℕ) (free : List ℕ) (s : State) → s.slots ≤ slots → k < slots + margin → ((j : ℕ) → T (member j free) → j < slots + margin)
      → FineState s → FineState (spill_to e n r k free slots s)
  spill_to_lem e n r k slots free s le lt fr h =
      record {
        used = λ m j q. was m j (set_says s.spilled n (suc k) m j q);
        freed = fr;
        steps =
            all_append (Fine slots) s.steps (to_slot e k r ∷ [])
            (all_map (Fine s.slots) (Fine slots) (λ x f. (omega (arith, f.0), f.1)) s.steps h.steps) (to_slot_lem e k r slots lt, tt);
      }
    where
      was : (m j : ℕ) → ((m ≡ n) × (suc k ≡ suc j)) ⊎ ((m ≡ n → ⊥) × (slot_of s m ≡ suc j)) → j < slots + margin
      was m j (inl p) = omega (arith, p.1)
      was m j (inr p) = omega (arith, h.used m j p.1)

  spill_fine : (e : Setting) (n r : ℕ) (s : State) → FineState s → FineState (spill_out e n r s)
  unfolding spill_out
  spill_fine e n r s h = go s.free refl
    where
      go : (f : List ℕ) → s.free ≡ f → FineState (spill_in e n r f s)
      go [] q = spill_to_lem e n r s.slots (suc s.slots) [] s (omega arith) (omega arith) (λ j t. absurd t) h
      go (k ∷ ks) q =
          spill_to_lem e n r k s.slots ks s (omega arith) (h.freed k (rw q (or_first (eqb k k) (member k ks) (eqb_refl k))))
          (λ j t. h.freed j (rw q (or_second (eqb j k) (member j ks) t))) h

  evict_fine : (e : Setting) (v r : ℕ) (s : State) → FineState s → FineState (evict e v r s)
  unfolding evict vacate
  evict_fine e v r s h = go (reloadable s v)
    where
      go : (b : Bool) → FineState (vacate v r (spill_if b e v r s))
      go true = record { used = h.used; freed = h.freed; steps = h.steps }
      go false = let q = spill_fine e v r s h in record { used = q.used; freed = q.freed; steps = q.steps }

  place_fine : (n r : ℕ) (s : State) → FineState s → FineState (place n r s)
  unfolding place
  place_fine n r s h = record { used = h.used; freed = h.freed; steps = h.steps }

  take_fine : (e : Setting) (rest : List (List ℕ)) (n : ℕ) (locked : List ℕ) (s : State) → FineState s
      → Post (Unit {0}) (λ t. FineState t.state) (take_register e rest n locked s)
  take_fine e rest n locked s h = go (take_register e rest n locked s) (take_view e rest n locked s)
    where
      go : (x : Allocated Taken) → TakeView e n locked s x → Post (Unit {0}) (λ t. FineState t.state) x
      go x (was_free r hr mr) = place_fine n r s h
      go x (evicted r v hr mr nl) = place_fine n r (evict e v r s) (evict_fine e v r s h)
      go x none = tt

  module _ (e : Setting) (origins : (n : ℕ) → FineOrigin (origin_at e.origins n)) where
    bring_fine : (n r : ℕ) (s : State) → FineState s → FineState (bring e n r s)
    unfolding bring bring_from load_action
    bring_fine n r s h = go (is_fresh s n)
      where
        from : (x : Origin) → FineOrigin x → FineState (bring_from x r s)
        from no_origin f = h
        from (immediate b) f = emit_fine (compute (load_immediate b r)) s (omega arith, f) h
        from (loaded c i) f = emit_fine (load (source_of c i) r) s (source_index_lem c i (s.slots + margin) (omega arith) (omega arith), any) h

        slot : (k : ℕ) → slot_of s n ≡ k → pred k < s.slots + margin
        slot zero q = omega arith
        slot (suc k) q = omega (arith, h.used n k q)

        go : (b : Bool) → FineState (bring_if b e n r s)
        go true = from (origin_at e.origins n) (origins n)
        go false = emit_fine (from_slot e (pred (slot_of s n)) r) s (from_slot_lem e (pred (slot_of s n)) r s.slots (slot (slot_of s n) refl)) h

    fetch_fine : (rest : List (List ℕ)) (n : ℕ) (locked : List ℕ) (s : State) → FineState s → Post (Unit {0}) (λ t. FineState t.state) (fetch e rest n locked s)
    unfolding fetch
    fetch_fine rest n locked s h = go (register_of s n)
      where
        go : (k : ℕ) → Post (Unit {0}) (λ t. FineState t.state) (fetch_held e rest n locked s k)
        go (suc r) = h
        go zero =
            post_bind (Unit {0}) (λ t. FineState t.state) (λ t. FineState t.state) (take_register e rest n locked s) _ (take_fine e rest n locked s h)
            (λ t q. bring_fine n t.register t.state q)

    fetches_fine : (rest : List (List ℕ)) (ns locked : List ℕ) (s : State) → FineState s → Post (Unit {0}) (λ t. FineState t.state) (fetch_all e rest ns locked s)
    unfolding fetch_all
    fetches_fine rest [] locked s h = h
    fetches_fine rest (n ∷ ns) locked s h =
        post_bind (Unit {0}) (λ t. FineState t.state) (λ t. FineState t.state) (fetch e rest n locked s) _ (fetch_fine rest n locked s h)
        (λ t q. fetches_fine rest ns (locked ++ (t.register ∷ [])) t.state q)

    release_fine : (n : ℕ) (s : State) → FineState s → FineState (release e n s)
    unfolding release
    release_fine n s h =
        record { used = λ m k q. h.used m k (unset s.spilled n m k q); freed = λ k t. back (slot_of s n) refl k t; steps = h.steps }
      where
        two : (j k : ℕ) → slot_of s n ≡ suc j → T (eqb k j) ⊎ T (member k s.free) → k < s.slots + margin
        two j k q (inl u) = let z : k ≡ j = eqb→eq k j u in omega (arith, h.used n j q)
        two j k q (inr u) = h.freed k u

        one : (j k : ℕ) (b : Bool) → slot_of s n ≡ suc j → T (member k (cond b (j ∷ s.free) s.free)) → k < s.slots + margin
        one j k true q t = two j k q (or_pass (eqb k j) (member k s.free) t)
        one j k false q t = h.freed k t

        back : (w : ℕ) → slot_of s n ≡ w → (k : ℕ) → T (member k (give_back e.fixed w s.free)) → k < s.slots + margin
        back zero q k t = h.freed k t
        back (suc j) q k t = one j k (leb e.fixed j) q t

    releases_fine : (rest : List (List ℕ)) (ns : List ℕ) (s : State) → FineState s → FineState (release_all e rest ns s)
    unfolding release_all
    releases_fine rest [] s h = h
    releases_fine rest (n ∷ ns) s h = go (read_later rest n) (λ t q. releases_fine rest ns t q)
      where
        go : (b : Bool) → ((t : State) → FineState t → FineState (release_all e rest ns t)) → FineState (release_all e rest ns (release_if b e n s))
        go true ih = ih s h
        go false ih = ih (release e n s) (release_fine n s h)

    lower_fine : (x : Node) (d : ℕ) (rs : List ℕ) → immediate_of (lower x d rs) < limit
    lower_fine input_node d rs = any
    lower_fine network_node d rs = any
    lower_fine (constant_node b) d rs = any
    lower_fine (parameter_node i) d rs = any
    lower_fine (state_node i) d rs = any
    lower_fine (delay_node i) d rs = any
    lower_fine (binary_node k a b) d rs = any
    lower_fine (unary_node k a) d rs = any

    result_fine : (rest : List (List ℕ)) (n : ℕ) (locked : List ℕ) (s : State) (d : ℕ) → FineState s
        → Post (Unit {0}) (λ t. FineState t.state) (result_register e rest n locked s d)
    unfolding lend
    result_fine rest n locked s zero h = take_fine e rest n locked s h
    result_fine rest n locked s (suc d) h = record { used = h.used; freed = h.freed; steps = h.steps }

    preserve_fine : (rest : List (List ℕ)) (locked : List ℕ) (s : State) (k : ℕ) → FineState s → Post (Unit {0}) FineState (preserve e rest locked s k)
    preserve_fine rest locked s zero h = h
    preserve_fine rest locked s (suc n) h = go (is_fresh s n && read_later rest n)
      where
        go : (b : Bool) → Post (Unit {0}) FineState (preserve_if b e rest n locked s)
        go false = h
        go true = post_bind (Unit {0}) (λ t. FineState t.state) FineState (fetch e rest n locked s) _ (fetch_fine rest n locked s h) (λ t q. q)

    stale_fine : (k : ℕ) (s : State) → FineState s → FineState (stale k s)
    unfolding stale
    stale_fine zero s h = h
    stale_fine (suc n) s h = record { used = h.used; freed = h.freed; steps = h.steps }

    keep_fine : (n k : ℕ) (s : State) → k < margin → FineState s → FineState (set_slot n k s)
    unfolding set_slot
    keep_fine n k s l h = record { used = λ m j q. was m j (set_says s.spilled n (suc k) m j q); freed = h.freed; steps = h.steps }
      where
        was : (m j : ℕ) → ((m ≡ n) × (suc k ≡ suc j)) ⊎ ((m ≡ n → ⊥) × (slot_of s m ≡ suc j)) → j < s.slots + margin
        was m j (inl p) = omega (arith, p.1)
        was m j (inr p) = h.used m j p.1

    store_action_lem : (c i r slots : ℕ) → i < margin → Fine slots (store_action c i r)
    unfolding store_action
    store_action_lem c i r slots h = go (eqb c 10) (eqb c 11)
      where
        go : (a b : Bool) → Fine slots (cond a (store_state i r) (cond b (store_delay i r) (store_output r)))
        go true b = (omega arith, any)
        go false true = (omega arith, any)
        go false false = (omega arith, any)

    task_fine : (rest : List (List ℕ)) (reads : List ℕ) (task : Task) (f : TakenAll) → FineTask task → FineState f.state
        → Post (Unit {0}) FineState (run_task e rest reads task f)
    unfolding run_task run_compute run_keep run_store
    task_fine rest reads (compute_task n) f z h =
        post_bind (Unit {0}) (λ t. FineState t.state) FineState
        (result_register e rest n f.registers f.state (first_of (λ d. not (read_later rest d)) reads)) _
        (result_fine rest n f.registers f.state (first_of (λ d. not (read_later rest d)) reads) h)
        (λ t q.
        let x : Operation = lower (node_at e.nodes n) t.register f.registers in
        releases_fine rest reads (emit_operation x t.state)
        (emit_fine (compute x) t.state (omega arith, lower_fine (node_at e.nodes n) t.register f.registers) q))
    task_fine rest reads (keep_task k n) f z h =
        let x : Action = store_control k (get_or f.registers 0 0) in
        releases_fine rest reads (set_slot n k (emit x f.state)) (keep_fine n k (emit x f.state) z (emit_fine x f.state (omega arith, any) h))
    task_fine rest reads (store_task c i n) f z h =
        let x : Action = store_action c i (get_or f.registers 0 0) in
        let home : ℕ = home_of e.origins (home_code c) i in
        post_bind (Unit {0}) FineState FineState (preserve e rest f.registers f.state home) _ (preserve_fine rest f.registers f.state home h)
        (λ s q.
        releases_fine rest reads (stale home (emit x s)) (stale_fine home (emit x s) (emit_fine x s (store_action_lem c i (get_or f.registers 0 0) s.slots z) q)))

    all_fine : (tasks : List Task) (s : State) → FineTasks tasks → FineState s → Post (Unit {0}) FineState (allocate e tasks s)
    unfolding allocate allocate_task
    all_fine [] s z h = h
    all_fine (task ∷ tasks) s z h =
        let reads : List ℕ = task_reads e.nodes e.origins task in
        let rest : List (List ℕ) = reads_of e tasks in
        post_bind (Unit {0}) FineState FineState (allocate_task e rest reads task s) _
        (post_bind (Unit {0}) (λ t. FineState t.state) FineState (fetch_all e (reads ∷ rest) reads [] s) _ (fetches_fine (reads ∷ rest) reads [] s h)
        (λ f q. task_fine rest reads task f z.0 q))
        (λ t q. all_fine tasks t z.1 q)

    -- FROM THE START
    pub run_fine : (tasks : List Task) → FineTasks tasks → Post (Unit {0}) FineState (allocate e tasks (begin e))
    unfolding begin
    run_fine tasks z =
        all_fine tasks (begin e) z (record { used = λ n k q. absurd (omega (arith, zeros_at (length e.origins) n)); freed = λ k t. absurd t; steps = tt })
