-- A whole run of the allocator: what it emits the walk goes through. Assumes nothing.
use Rattle.std.specs.Prelude.{◌≡◌, refl, true, false, get_or}
use mathlib.Core.List.{List, [], ◌∷◌}
use Prim.Native.Nat.{ℕ, zero, suc, ◌+◌, ◌*◌, ◌≤◌, ◌<◌}
use Rattle.std.proofs.Math.ListN.{length}
use Rattle.std.proofs.Common.{length-set}
use Rattle.std.proofs.Math.Dec.{T}
use Rattle.plan.specs.Lists.{member, is_some}
use Rattle.plan.specs.Nodes.{is_computed, node_at}
use Rattle.plan.specs.Origins.{has_origin, origin_at, canonical}
use Rattle.plan.specs.Schedule.{Task, compute_task, keep_task, store_task, task_reads}
use Rattle.plan.specs.TestLaws.{or_first, or_second}
use Rattle.plan.specs.OriginLaws.{home_known}
use Rattle.allocate.specs.State.{Allocated, allocated, all_locked, and_then, Setting, State, TakenAll, register_of, spill_to}
use Rattle.allocate.specs.Allocator.{fetch_all, read_later, run_compute, run_keep, home_code, run_store, run_task, allocate_task, reads_of, allocate}
use Rattle.allocate.specs.Outcomes.{Post, post_bind, post_and}
use Rattle.allocate.specs.Invariants.{slots_home}
use Rattle.allocate.specs.StateLaws.{Good, Sixteen}
use Rattle.allocate.specs.ReadLaws.{Holds, FetchedAll, fetch_all_fetched}
use Rattle.allocate.specs.TaskLaws.{Invariant, ReadsOk, known, Next, compute_next, keep_next, store_next, fetched_known}
use Rattle.allocate.specs.RunLaws.{TasksOk, HomesOk, reads_keep, reads_store}
use Rattle.allocate.specs.Canonical.{reads_canonical}
use Rattle.compiled.specs.Marks.{Marks, Rules}
use Rattle.compiled.specs.Tracking.{LeadsTo, SlotsGrow, grows_same, grows_trans, SlotsDeclared, declared_back, Tracks, KeepsFilled}
use Rattle.compiled.specs.TrackedTasks.{Meaning, WriteAt, fetch_all_tracked, compute_tracked, keep_tracked, write_tracked}

-- what the tasks owe the walk: what is computed is a computation, control values are kept in control, a write stores what is asked for in sample
abbrev pub TasksAllowed : Setting → Rules → (ℕ → ℕ) → List Task → Type 0
TasksAllowed e R class [] = Unit {0}
TasksAllowed e R class (compute_task n ∷ os) = T (is_computed (node_at e.nodes n)) × TasksAllowed e R class os
TasksAllowed e R class (keep_task k v ∷ os) = (e.in_control ≡ true) × TasksAllowed e R class os
TasksAllowed e R class (store_task c i v ∷ os) = (e.in_control ≡ false) × WriteAt c i × (R.asked_class c i ≡ suc (class v)) × TasksAllowed e R class os

-- a walk that leads on, at whose end E holds of the marks
abbrev pub LeadsWith : Setting → List ℕ → Rules → (ℕ → ℕ) → Marks → (Marks → Type 0) → State → State → Type 0
LeadsWith e home R class start E s s' =
    SlotsGrow s s'
    × (SlotsDeclared R s' → (m : Marks) → Tracks e home R class start 0 s m
    → (m' : Marks) × Tracks e home R class start 0 s' m' × KeepsFilled m m' × E m')

-- a task that keeps a hoisted value leaves its slot filled
abbrev pub Fills : Task → Marks → Type 0
Fills (compute_task n) m = Unit {0}
Fills (keep_task k v) m = T (is_some (get_or m.slots k 0))
Fills (store_task c i v) m = Unit {0}

abbrev pub Filled : List Task → Marks → Type 0
Filled [] m = Unit {0}
Filled (o ∷ os) m = Fills o m × Filled os m

module _ (e : Setting) (home : List ℕ) (sixteen : Sixteen e) (own : HomesOk home e.fixed) (R : Rules) (class : ℕ → ℕ) (meaning : Meaning e R class)
    (start : Marks) where
  abbrev Leads : State → State → Type 0
  Leads s s' = LeadsTo e home R class start s s'

  -- ---- one task

  -- its fetches
  fetches : (o : Task) (rest : List (List ℕ)) (done : List ℕ) (s : State) → Invariant e home done (task_reads e.nodes e.origins o ∷ rest) s
      → ReadsOk e done (task_reads e.nodes e.origins o)
      → Post (Unit {0}) (λ g. FetchedAll e home [] (task_reads e.nodes e.origins o) s g × Leads s g.state)
      (fetch_all e (task_reads e.nodes e.origins o ∷ rest) (task_reads e.nodes e.origins o) [] s)
  fetches o rest done s i rd =
      let reads : List ℕ = task_reads e.nodes e.origins o in
      post_and (FetchedAll e home [] reads s) (λ g. Leads s g.state) (fetch_all e (reads ∷ rest) reads [] s)
      (fetch_all_fetched e home sixteen (reads ∷ rest) reads [] [] s i.good (λ m t. (rd m t).0) tt)
      (fetch_all_tracked e home sixteen own R class meaning start (reads ∷ rest) reads [] s i.good
      (λ m t. ((rd m t).0, reads_canonical e o m t, i.ready m (or_first (member m reads) (read_later rest m) t) (rd m t).1)))

  zero_of : (k : ℕ) → ((q : ℕ) → k ≡ suc q → ⊥) → k ≡ 0
  zero_of zero h = refl
  zero_of (suc q) h = absurd (h q refl)

  -- and the walk's end has E
  abbrev LeadsE : (Marks → Type 0) → State → State → Type 0
  LeadsE E s s' = LeadsWith e home R class start E s s'

  abbrev Stepped : (Marks → Type 0) → List (List ℕ) → List ℕ → State → State → Type 0
  Stepped E rest done s s' = Invariant e home done rest s' × LeadsE E s s'

  gather : (E : Marks → Type 0) (rest : List (List ℕ)) (done : List ℕ) (s a : State) (x : Allocated State) → Leads s a
      → Post (Unit {0}) (λ s'. Invariant e home done rest s') x → Post (Unit {0}) (λ s'. LeadsE E a s') x → Post (Unit {0}) (Stepped E rest done s) x
  gather E rest done s a (allocated s') k i h = (
    i,
    (
      grows_trans s a s' k.0 h.0,
      λ f m t.
          let d = k.1 (declared_back R a s' h.0 f) m t in
          let y = h.1 f d.0 d.1 in
          (y.0, y.1, (λ j u. y.2 j (d.2 j u)), y.3),
    ),
  )
  gather E rest done s a all_locked k i h = tt

  abbrev Any : Marks → Type 0
  Any m = Unit {0}

  plain : (a : State) (x : Allocated State) → Post (Unit {0}) (λ s'. Leads a s') x → Post (Unit {0}) (λ s'. LeadsE Any a s') x
  plain a (allocated s') h = (h.0, λ f m t. let d = h.1 f m t in (d.0, d.1, d.2, tt))
  plain a all_locked h = tt

  compute_step : (n : ℕ) (rest : List (List ℕ)) (done : List ℕ) (s : State) → let rd : List ℕ = task_reads e.nodes e.origins (compute_task n) in
      Invariant e home done (rd ∷ rest) s → ReadsOk e done rd → n < length e.origins → (T (known e done n) → ⊥) → T (is_computed (node_at e.nodes n))
      → Post (Unit {0}) (Stepped Any rest (n ∷ done) s) (allocate_task e rest rd (compute_task n) s)
  unfolding allocate_task run_task
  compute_step n rest done s i rd ln new ic =
      let reads : List ℕ = task_reads e.nodes e.origins (compute_task n) in
      post_bind (Unit {0}) (λ g. FetchedAll e home [] reads s g × Leads s g.state) (Stepped Any rest (n ∷ done) s) (fetch_all e (reads ∷ rest) reads [] s) _
      (fetches (compute_task n) rest done s i rd)
      (λ g k.
      gather Any rest (n ∷ done) s g.state (run_compute e rest reads n g) k.1
      (weak g (run_compute e rest reads n g) (compute_next e home sixteen done rest reads n s g i rd ln new k.0))
      (plain g.state (run_compute e rest reads n g) (compute_tracked e home sixteen own R class meaning start rest n g k.0.good k.0.held ic
      (zero_of (register_of g.state n) (λ q h. new (fetched_known e home sixteen done rest reads s g i rd k.0 n q h))) ln)))
    where
      weak : (g : TakenAll) (x : Allocated State)
          → Post (Unit {0}) (λ s'. Next e home (n ∷ done) rest (2 * length (task_reads e.nodes e.origins (compute_task n)) + 2) s s' ×
          (T (read_later rest n) → T (is_some (register_of s' n)))) x
          → Post (Unit {0}) (λ s'. Invariant e home (n ∷ done) rest s') x
      weak g (allocated s') p = p.0.inv
      weak g all_locked p = tt

  keep_good : (k v r : ℕ) (s : State) → Good e home s → get_or home v 0 ≡ suc k → Good e home (spill_to e v r k s.free s.slots s)
  keep_good k v r s g h =
      record {
        registers = g.registers;
        slots = slots_home home e.fixed s.spilled s.free s.slots g.slots v k h (own.lt v k h) (λ m l. own.inj m l k);
        holders = g.holders;
        owners = g.owners;
        spilleds = rw length-set g.spilleds;
        freshes = g.freshes;
        src = g.src;
        held = g.held;
      }

  keep_step : (k v : ℕ) (rest : List (List ℕ)) (done : List ℕ) (s : State) → let rd : List ℕ = task_reads e.nodes e.origins (keep_task k v) in
      Invariant e home done (rd ∷ rest) s → ReadsOk e done rd → canonical e.origins v ≡ v → get_or home v 0 ≡ suc k → e.in_control ≡ true
      → Post (Unit {0}) (Stepped (λ m. T (is_some (get_or m.slots k 0))) rest done s) (allocate_task e rest rd (keep_task k v) s)
  unfolding allocate_task run_task
  keep_step k v rest done s i rd cv hv ct =
      let reads : List ℕ = task_reads e.nodes e.origins (keep_task k v) in
      post_bind (Unit {0}) (λ g. FetchedAll e home [] reads s g × Leads s g.state) (Stepped (λ m. T (is_some (get_or m.slots k 0))) rest done s)
      (fetch_all e (reads ∷ rest) reads [] s) _
      (fetches (keep_task k v) rest done s i rd)
      (λ g f.
      gather (λ m. T (is_some (get_or m.slots k 0))) rest done s g.state (run_keep e rest reads k v g) f.1
      (weak g (run_keep e rest reads k v g) (keep_next e home sixteen done rest reads k v s g i rd hv (own.lt v k hv) (λ m l. own.inj m l k) f.0))
      (sim reads g.registers g.state f.0.good (rw (reads_keep e k v, cv) at f.0.held)))
    where
      weak : (g : TakenAll) (x : Allocated State) → Post (Unit {0}) (λ s'. Invariant e home done rest s' × (length s'.steps ≤ length g.state.steps + 1)) x
          → Post (Unit {0}) (λ s'. Invariant e home done rest s') x
      weak g (allocated s') p = p.0
      weak g all_locked p = tt

      sim : (reads rs : List ℕ) (a : State) → Good e home a → Holds a (v ∷ []) rs
          → Post (Unit {0}) (λ s'. LeadsE (λ m. T (is_some (get_or m.slots k 0))) a s') (run_keep e rest reads k v (record { registers = rs; state = a }))
      sim reads [] a g h = absurd h
      sim reads (r ∷ rs) a g h =
          keep_tracked e home sixteen own R class meaning start rest reads k v r rs a ct g h.0 (own.lt v k hv) (λ w q. own.inj w v k q hv)
          (keep_good k v r a g hv)

  write_step : (c j v : ℕ) (rest : List (List ℕ)) (done : List ℕ) (s : State) → let rd : List ℕ = task_reads e.nodes e.origins (store_task c j v) in
      Invariant e home done (rd ∷ rest) s → ReadsOk e done rd → e.in_control ≡ false → WriteAt c j → R.asked_class c j ≡ suc (class v)
      → Post (Unit {0}) (Stepped Any rest done s) (allocate_task e rest rd (store_task c j v) s)
  unfolding allocate_task run_task
  write_step c j v rest done s i rd ct wc wt =
      let reads : List ℕ = task_reads e.nodes e.origins (store_task c j v) in
      post_bind (Unit {0}) (λ g. FetchedAll e home [] reads s g × Leads s g.state) (Stepped Any rest done s) (fetch_all e (reads ∷ rest) reads [] s) _
      (fetches (store_task c j v) rest done s i rd)
      (λ g f.
      gather Any rest done s g.state (run_store e rest reads c j g) f.1
      (weak g (run_store e rest reads c j g)
      (store_next e home sixteen done rest reads c j s g i rd
      (λ n q. (
        (home_known e.origins (home_code c) j n q).0,
        or_second (member n done) (has_origin (origin_at e.origins n))
            (home_known e.origins (home_code c) j n q).1,
      )) f.0))
      (plain g.state (run_store e rest reads c j g) (sim reads g.registers g.state f.0.good (rw (reads_store e c j v) at f.0.held))))
    where
      weak : (g : TakenAll) (x : Allocated State)
          → Post (Unit {0}) (Next e home done rest (2 * length (task_reads e.nodes e.origins (store_task c j v)) + 3) s) x
          → Post (Unit {0}) (λ s'. Invariant e home done rest s') x
      weak g (allocated s') p = p.inv
      weak g all_locked p = tt

      sim : (reads rs : List ℕ) (a : State) → Good e home a → Holds a (canonical e.origins v ∷ []) rs
          → Post (Unit {0}) (λ s'. Leads a s') (run_store e rest reads c j (record { registers = rs; state = a }))
      sim reads [] a g h = absurd h
      sim reads (r ∷ rs) a g h = write_tracked e home sixteen own R class meaning start rest reads c j v r rs a wc ct g h.0 wt

  next_run : (E : Marks → Type 0) → ((m m' : Marks) → KeepsFilled m m' → E m → E m') → (os : List Task) (done : List ℕ) (s : State) (x : Allocated State)
      → Post (Unit {0}) (Stepped E (reads_of e os) done s) x
      → ((s' : State) → Invariant e home done (reads_of e os) s' → Post (Unit {0}) (LeadsE (Filled os) s') (allocate e os s'))
      → Post (Unit {0}) (LeadsE (λ m. E m × Filled os m) s) (and_then x (λ s'. allocate e os s'))
  next_run E mono os done s (allocated s') p k = go (allocate e os s') (k s' p.0)
    where
      go : (x : Allocated State) → Post (Unit {0}) (LeadsE (Filled os) s') x → Post (Unit {0}) (LeadsE (λ m. E m × Filled os m) s) x
      go (allocated s'') h = (
        grows_trans s s' s'' p.1.0 h.0,
        λ f m t.
            let d = p.1.1 (declared_back R s' s'' h.0 f) m t in
            let y = h.1 f d.0 d.1 in
            (y.0, y.1, (λ j u. y.2 j (d.2 j u)), (mono d.0 y.0 y.2 d.3, y.3)),
      )
      go all_locked h = tt
  next_run E mono os done s all_locked p k = tt

  -- A WHOLE RUN
  pub run_tracked : (os : List Task) (done : List ℕ) (last : ℕ) (s : State) → TasksOk e home done last os → TasksAllowed e R class os
      → Invariant e home done (reads_of e os) s → Post (Unit {0}) (LeadsE (Filled os) s) (allocate e os s)
  unfolding allocate reads_of
  run_tracked [] done last s o q i = (grows_same s, λ f m t. (m, t, (λ k u. u), tt))
  run_tracked (compute_task n ∷ os) done last s o q i =
      next_run Any (λ m m' f u. u) os (n ∷ done) s (allocate_task e (reads_of e os) (task_reads e.nodes e.origins (compute_task n)) (compute_task n) s)
      (compute_step n (reads_of e os) done s i o.0 o.1 o.2 q.0) (λ s' i'. run_tracked os (n ∷ done) (suc n) s' o.3 q.1 i')
  run_tracked (keep_task k v ∷ os) done last s o q i =
      next_run (λ m. T (is_some (get_or m.slots k 0))) (λ m m' f u. f k u) os done s
      (allocate_task e (reads_of e os) (task_reads e.nodes e.origins (keep_task k v)) (keep_task k v) s)
      (keep_step k v (reads_of e os) done s i o.0 o.2 o.3 q.0) (λ s' i'. run_tracked os done 0 s' o.4 q.1 i')
  run_tracked (store_task c j v ∷ os) done last s o q i =
      next_run Any (λ m m' f u. u) os done s (allocate_task e (reads_of e os) (task_reads e.nodes e.origins (store_task c j v)) (store_task c j v) s)
      (write_step c j v (reads_of e os) done s i o.0 q.0 q.1 q.2) (λ s' i'. run_tracked os done 0 s' o.1 q.3 i')
