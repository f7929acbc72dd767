-- The stores that a run emits are its writes, each as often as it is scheduled, and the output store is the last step. Assumes nothing.
use Rattle.std.specs.Prelude.{◌≡◌, Bool, cond, ◌&&◌, get_or, eqb}
use Rattle.std.proofs.Math.Path.{refl, ap}
use Rattle.std.proofs.Common.{◌∙◌}
use Rattle.std.proofs.Math.Bool.{true, false, not}
use mathlib.Core.List.{List, [], ◌∷◌, ◌++◌}
use Prim.Native.Nat.{ℕ, zero, suc, pred, ◌+◌}
use native.Mathlib.Omega.{arith}
use Rattle.kernel.specs.declared.Source.TheVariants as Source
use Rattle.plan.specs.Lists.{first_of}
use Rattle.plan.specs.Nodes.{node_at}
use Rattle.plan.specs.Origins.{Origin, no_origin, immediate, loaded, origin_at, home_of}
use Rattle.plan.specs.Schedule.{Task, compute_task, keep_task, store_task, task_reads}
use Rattle.allocate.specs.Actions.{Operation, load_immediate, Action, load, compute, spill, reload, store_state, store_delay, store_output, store_control, load_action, store_action}
use Rattle.allocate.specs.State.{Allocated, allocated, all_locked, Setting, State, Taken, TakenAll, register_of, slot_of, is_fresh, reloadable, emit, emit_operation, to_slot, from_slot, spill_in, spill_out, place, vacate, release, lend, set_slot, stale}
use Rattle.allocate.specs.Allocator.{spill_if, evict, take_register, bring_from, bring_if, bring, fetch_held, fetch, fetch_all, release_if, release_all, read_later, result_register, lower, run_compute, run_keep, home_code, preserve_if, preserve, run_store, run_task, allocate_task, reads_of, allocate}
use Rattle.allocate.specs.Outcomes.{Post, post_bind}
use Rattle.allocate.specs.StateLaws.{TakeView, was_free, evicted, none, take_view}

-- how many stores there are of a code (10 state, 11 delay, 12 output) and index
module _ (code index : ℕ) where
  -- 1 if it is that code and index
  abbrev pub one : ℕ → ℕ → ℕ
  one c i = cond (eqb c code && eqb i index) 1 0

  abbrev pub action_stores : Action → ℕ
  action_stores (load x r) = 0
  action_stores (compute i) = 0
  action_stores (spill k r) = 0
  action_stores (reload k r) = 0
  action_stores (store_state i r) = one 10 i
  action_stores (store_delay i r) = one 11 i
  action_stores (store_output r) = one 12 0
  action_stores (store_control k r) = 0

  -- of actions
  abbrev pub stores : List Action → ℕ
  stores [] = 0
  stores (x ∷ xs) = action_stores x + stores xs

  abbrev pub task_store : Task → ℕ
  task_store (compute_task n) = 0
  task_store (keep_task k v) = 0
  task_store (store_task c i v) = action_stores (store_action c i 0)

  -- of tasks
  abbrev pub task_stores : List Task → ℕ
  task_stores [] = 0
  task_stores (o ∷ os) = task_store o + task_stores os

  stores_append : (xs ys : List Action) → stores (xs ++ ys) ≡ stores xs + stores ys
  stores_append [] ys = omega arith
  stores_append (x ∷ xs) ys = omega (arith, stores_append xs ys)

  pub task_stores_append : (xs ys : List Task) → task_stores (xs ++ ys) ≡ task_stores xs + task_stores ys
  task_stores_append [] ys = omega arith
  task_stores_append (x ∷ xs) ys = omega (arith, task_stores_append xs ys)

  -- a store counts the same from any register
  any_register : (c i r : ℕ) → action_stores (store_action c i r) ≡ action_stores (store_action c i 0)
  unfolding store_action
  any_register c i r = go (eqb c 10) (eqb c 11)
    where
      go : (p q : Bool)
          → action_stores (cond p (store_state i r) (cond q (store_delay i r) (store_output r)))
          ≡ action_stores (cond p (store_state i 0) (cond q (store_delay i 0) (store_output 0)))
      go true q = refl
      go false true = refl
      go false false = refl

  load_none : (c i r : ℕ) → action_stores (load_action c i r) ≡ 0
  unfolding load_action
  load_none c i r = refl

  -- ---- all but writes: no store is emitted

  abbrev Quiet : State → State → Type 0
  Quiet s s' = stores s'.steps ≡ stores s.steps

  quiet_step : (xs : List Action) (x : Action) → action_stores x ≡ 0 → stores (xs ++ (x ∷ [])) ≡ stores xs
  quiet_step xs x h = omega (arith, stores_append xs (x ∷ []), h)

  -- to a slot and from it
  to_none : (e : Setting) (k r : ℕ) → action_stores (to_slot e k r) ≡ 0
  unfolding to_slot
  to_none e k r = go e.in_control
    where
      go : (b : Bool) → action_stores (cond b (store_control k r) (spill k r)) ≡ 0
      go true = refl
      go false = refl

  from_none : (e : Setting) (k r : ℕ) → action_stores (from_slot e k r) ≡ 0
  unfolding from_slot
  from_none e k r = go e.in_control
    where
      go : (b : Bool) → action_stores (cond b (load (Source.Control k) r) (reload k r)) ≡ 0
      go true = refl
      go false = refl

  spill_quiet : (e : Setting) (v r : ℕ) (s : State) → Quiet s (spill_out e v r s)
  unfolding spill_out
  spill_quiet e v r s = go s.free
    where
      go : (f : List ℕ) → Quiet s (spill_in e v r f s)
      go [] = quiet_step s.steps (to_slot e s.slots r) (to_none e s.slots r)
      go (k ∷ ks) = quiet_step s.steps (to_slot e k r) (to_none e k r)

  evict_quiet : (e : Setting) (v r : ℕ) (s : State) → Quiet s (evict e v r s)
  unfolding evict vacate
  evict_quiet e v r s = go (reloadable s v)
    where
      go : (b : Bool) → Quiet s (vacate v r (spill_if b e v r s))
      go true = refl
      go false = spill_quiet e v r s

  abbrev QuietTaken : State → Taken → Type 0
  QuietTaken s g = Quiet s g.state

  take_quiet : (e : Setting) (rest : List (List ℕ)) (n : ℕ) (locked : List ℕ) (s : State) → Post (Unit {0}) (QuietTaken s) (take_register e rest n locked s)
  unfolding place
  take_quiet e rest n locked s = go (take_register e rest n locked s) (take_view e rest n locked s)
    where
      go : (x : Allocated Taken) → TakeView e n locked s x → Post (Unit {0}) (QuietTaken s) x
      go x (was_free r hr mr) = refl
      go x (evicted r v hr mr nl) = evict_quiet e v r s
      go x none = tt

  bring_quiet : (e : Setting) (n r : ℕ) (s : State) → Quiet s (bring e n r s)
  unfolding bring bring_from emit
  bring_quiet e n r s = go (is_fresh s n)
    where
      from : (x : Origin) → Quiet s (bring_from x r s)
      from no_origin = refl
      from (immediate b) = quiet_step s.steps (compute (load_immediate b r)) refl
      from (loaded c i) = quiet_step s.steps (load_action c i r) (load_none c i r)

      go : (b : Bool) → Quiet s (bring_if b e n r s)
      go true = from (origin_at e.origins n)
      go false = quiet_step s.steps (from_slot e (pred (slot_of s n)) r) (from_none e (pred (slot_of s n)) r)

  fetch_quiet : (e : Setting) (rest : List (List ℕ)) (n : ℕ) (locked : List ℕ) (s : State) → Post (Unit {0}) (QuietTaken s) (fetch e rest n locked s)
  unfolding fetch
  fetch_quiet e rest n locked s = go (register_of s n)
    where
      go : (h : ℕ) → Post (Unit {0}) (QuietTaken s) (fetch_held e rest n locked s h)
      go zero =
          post_bind (Unit {0}) (QuietTaken s) (QuietTaken s) (take_register e rest n locked s) _ (take_quiet e rest n locked s)
          (λ g h. bring_quiet e n g.register g.state ∙ h)
      go (suc r) = refl

  fetch_all_quiet : (e : Setting) (rest : List (List ℕ)) (ns locked : List ℕ) (s : State) → Post (Unit {0}) (λ g. Quiet s g.state) (fetch_all e rest ns locked s)
  unfolding fetch_all
  fetch_all_quiet e rest [] locked s = refl
  fetch_all_quiet e rest (n ∷ ns) locked s =
      post_bind (Unit {0}) (QuietTaken s) (λ g. Quiet s g.state) (fetch e rest n locked s) _ (fetch_quiet e rest n locked s) (λ g h.
      more g h (fetch_all e rest ns (locked ++ (g.register ∷ [])) g.state) (fetch_all_quiet e rest ns (locked ++ (g.register ∷ [])) g.state))
    where
      more : (g : Taken) → Quiet s g.state → (x : Allocated TakenAll) → Post (Unit {0}) (λ u. Quiet g.state u.state) x
          → Post (Unit {0}) (λ u. Quiet s u.state) x
      more g h (allocated u) k = k ∙ h
      more g h all_locked k = tt

  release_all_quiet : (e : Setting) (rest : List (List ℕ)) (ns : List ℕ) (s : State) → Quiet s (release_all e rest ns s)
  unfolding release_all release
  release_all_quiet e rest [] s = refl
  release_all_quiet e rest (n ∷ ns) s = go (read_later rest n) (λ s'. release_all_quiet e rest ns s')
    where
      go : (b : Bool) → ((s' : State) → Quiet s' (release_all e rest ns s')) → Quiet s (release_all e rest ns (release_if b e n s))
      go true ih = ih s
      go false ih = ih (release e n s)

  result_quiet : (e : Setting) (rest : List (List ℕ)) (n : ℕ) (locked : List ℕ) (s : State) (f : ℕ)
      → Post (Unit {0}) (QuietTaken s) (result_register e rest n locked s f)
  unfolding lend
  result_quiet e rest n locked s zero = take_quiet e rest n locked s
  result_quiet e rest n locked s (suc d) = refl

  preserve_quiet : (e : Setting) (rest : List (List ℕ)) (locked : List ℕ) (s : State) (h : ℕ) → Post (Unit {0}) (λ s'. Quiet s s') (preserve e rest locked s h)
  preserve_quiet e rest locked s zero = refl
  preserve_quiet e rest locked s (suc n) = go (is_fresh s n && read_later rest n)
    where
      go : (b : Bool) → Post (Unit {0}) (λ s'. Quiet s s') (preserve_if b e rest n locked s)
      go false = refl
      go true = post_bind (Unit {0}) (QuietTaken s) (λ s'. Quiet s s') (fetch e rest n locked s) _ (fetch_quiet e rest n locked s) (λ g h. h)

  stale_steps : (h : ℕ) (s : State) → (stale h s).steps ≡ s.steps
  unfolding stale
  stale_steps zero s = refl
  stale_steps (suc n) s = refl

  -- ---- a task adds its store, if it has one
  task_adds : (e : Setting) (rest : List (List ℕ)) (reads : List ℕ) (o : Task) (g : TakenAll)
      → Post (Unit {0}) (λ s'. stores s'.steps ≡ stores g.state.steps + task_store o) (run_task e rest reads o g)
  unfolding run_task run_compute run_keep run_store emit set_slot
  task_adds e rest reads (compute_task n) g =
      post_bind (Unit {0}) (QuietTaken g.state) _ (result_register e rest n g.registers g.state (first_of (λ d. not (read_later rest d)) reads)) _
      (result_quiet e rest n g.registers g.state (first_of (λ d. not (read_later rest d)) reads)) (λ t h.
      let x : Operation = lower (node_at e.nodes n) t.register g.registers in
      omega (arith, release_all_quiet e rest reads (emit_operation x t.state), quiet_step t.state.steps (compute x) refl, h))
  task_adds e rest reads (keep_task k v) g =
      let x : Action = store_control k (get_or g.registers 0 0) in
      omega (arith, release_all_quiet e rest reads (set_slot v k (emit x g.state)), quiet_step g.state.steps x refl)
  task_adds e rest reads (store_task c i v) g =
      let h : ℕ = home_of e.origins (home_code c) i in
      let x : Action = store_action c i (get_or g.registers 0 0) in
      post_bind (Unit {0}) (λ s'. Quiet g.state s') _ (preserve e rest g.registers g.state h) _ (preserve_quiet e rest g.registers g.state h) (λ t q.
      omega (
        arith,
        release_all_quiet e rest reads (stale h (emit x t)),
        ap stores (stale_steps h (emit x t)),
        stores_append t.steps (x ∷ []),
        any_register c i (get_or g.registers 0 0),
        q,
      ))

-- the steps end with an output store, and those before it count n stores of each code and index
pub record Ended (n : ℕ → ℕ → ℕ) (xs : List Action) : Type 0 where
  pub before : List Action
  pub register : ℕ
  pub is : xs ≡ before ++ (store_output register ∷ [])
  pub counts : (c i : ℕ) → stores c i before ≡ n c i

-- ---- a whole run

-- what holds of an answer for each x
pub post_all : {A B : Type 0} (P : B → A → Type 0) (answer : Allocated A) → ((x : B) → Post (Unit {0}) (P x) answer) → Post (Unit {0}) (λ a. (x : B) → P x a) answer
post_all P (allocated a) h = h
post_all P all_locked h = tt

-- .. for each code and index
post_each : {A : Type 0} (P : ℕ → ℕ → A → Type 0) (answer : Allocated A) → ((c i : ℕ) → Post (Unit {0}) (P c i) answer)
    → Post (Unit {0}) (λ a. (c i : ℕ) → P c i a) answer
post_each P answer h = post_all (λ (c : ℕ) a. (i : ℕ) → P c i a) answer (λ c. post_all (λ (i : ℕ) a. P c i a) answer (h c))

-- a release emits nothing
release_steps : (e : Setting) (rest : List (List ℕ)) (ns : List ℕ) (s : State) → (release_all e rest ns s).steps ≡ s.steps
unfolding release_all release
release_steps e rest [] s = refl
release_steps e rest (n ∷ ns) s = go (read_later rest n) (λ s'. release_steps e rest ns s')
  where
    go : (b : Bool) → ((s' : State) → (release_all e rest ns s').steps ≡ s'.steps) → (release_all e rest ns (release_if b e n s)).steps ≡ s.steps
    go true ih = ih s
    go false ih = ih (release e n s)

abbrev Counted : (ℕ → ℕ → ℕ) → State → State → Type 0
Counted n s s' = (c i : ℕ) → stores c i s'.steps ≡ stores c i s.steps + n c i

abbrev Still : State → State → Type 0
Still s s' = (c i : ℕ) → Quiet c i s s'

fetches_still : (e : Setting) (rest : List (List ℕ)) (ns locked : List ℕ) (s : State) → Post (Unit {0}) (λ g. Still s g.state) (fetch_all e rest ns locked s)
fetches_still e rest ns locked s = post_each (λ c i g. Quiet c i s g.state) (fetch_all e rest ns locked s) (λ c i. fetch_all_quiet c i e rest ns locked s)

-- the output's task is the last: nothing is emitted after its store
last_task : (e : Setting) (v : ℕ) (s : State) → Post (Unit {0}) (λ s'. Ended (λ c i. stores c i s.steps) s'.steps) (allocate e (store_task 12 0 v ∷ []) s)
unfolding allocate allocate_task run_task run_store reads_of emit store_action
last_task e v s =
    let reads : List ℕ = task_reads e.nodes e.origins (store_task 12 0 v) in
    post_bind (Unit {0}) (λ s'. Ended (λ c i. stores c i s.steps) s'.steps) _ (allocate_task e [] reads (store_task 12 0 v) s) _
    (post_bind (Unit {0}) (λ g. Still s g.state) _ (fetch_all e (reads ∷ []) reads [] s) _ (fetches_still e (reads ∷ []) reads [] s) (λ g q.
    let h : ℕ = home_of e.origins (home_code 12) 0 in
    post_bind (Unit {0}) (λ t. Still g.state t) _ (preserve e [] g.registers g.state h) _
    (post_each (λ c i t. Quiet c i g.state t) (preserve e [] g.registers g.state h) (λ c i. preserve_quiet c i e [] g.registers g.state h)) (λ t p.
    record {
      before = t.steps;
      register = get_or g.registers 0 0;
      is =
          release_steps e [] reads (stale h (emit (store_action 12 0 (get_or g.registers 0 0)) t))
          ∙ stale_steps 0 0 h (emit (store_action 12 0 (get_or g.registers 0 0)) t);
      counts = λ c i. p c i ∙ q c i;
    })))
    (λ s' h. h)

-- A RUN THAT ENDS WITH THE OUTPUT'S TASK
pub run_ended : (e : Setting) (os : List Task) (v : ℕ) (s : State)
    → Post (Unit {0}) (λ s'. Ended (λ c i. stores c i s.steps + task_stores c i os) s'.steps) (allocate e (os ++ (store_task 12 0 v ∷ [])) s)
unfolding allocate allocate_task
run_ended e [] v s = drop (allocate e (store_task 12 0 v ∷ []) s) (last_task e v s)
  where
    drop : (x : Allocated State) → Post (Unit {0}) (λ s'. Ended (λ c i. stores c i s.steps) s'.steps) x
        → Post (Unit {0}) (λ s'. Ended (λ c i. stores c i s.steps + 0) s'.steps) x
    drop (allocated s') k = record { before = k.before; register = k.register; is = k.is; counts = λ c i. omega (arith, k.counts c i) }
    drop all_locked k = tt
run_ended e (o ∷ os) v s =
    let rest : List Task = os ++ (store_task 12 0 v ∷ []) in
    let reads : List ℕ = task_reads e.nodes e.origins o in
    post_bind (Unit {0}) (λ s'. Counted (λ c i. task_store c i o) s s') _ (allocate_task e (reads_of e rest) reads o s) _
    (post_bind (Unit {0}) (λ g. Still s g.state) _ (fetch_all e (reads ∷ reads_of e rest) reads [] s) _ (fetches_still e (reads ∷ reads_of e rest) reads [] s)
    (λ g h. lift g h (run_task e (reads_of e rest) reads o g)
    (post_each (λ c i s'. stores c i s'.steps ≡ stores c i g.state.steps + task_store c i o) (run_task e (reads_of e rest) reads o g)
    (λ c i. task_adds c i e (reads_of e rest) reads o g))))
    (λ s' h. join s' h (allocate e rest s') (run_ended e os v s'))
  where
    lift : (g : TakenAll) → Still s g.state → (x : Allocated State) → Post (Unit {0}) (λ s'. Counted (λ c i. task_store c i o) g.state s') x
        → Post (Unit {0}) (λ s'. Counted (λ c i. task_store c i o) s s') x
    lift g h (allocated s') k = λ c i. omega (arith, k c i, h c i)
    lift g h all_locked k = tt

    join : (s' : State) → Counted (λ c i. task_store c i o) s s' → (x : Allocated State)
        → Post (Unit {0}) (λ s''. Ended (λ c i. stores c i s'.steps + task_stores c i os) s''.steps) x
        → Post (Unit {0}) (λ s''. Ended (λ c i. stores c i s.steps + task_stores c i (o ∷ os)) s''.steps) x
    join s' h (allocated s'') k = record { before = k.before; register = k.register; is = k.is; counts = λ c i. omega (arith, k.counts c i, h c i) }
    join s' h all_locked k = tt
