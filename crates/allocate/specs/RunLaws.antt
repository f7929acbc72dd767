-- The invariant and the count through a whole run. Assumes nothing.
use Rattle.std.specs.Prelude.{◌≡◌, refl, ◌⊎◌, false, get_or, eqb}
use Rattle.std.proofs.Common.{ap, inl, inr}
use mathlib.Core.List.{List, [], ◌∷◌}
use Prim.Native.Nat.{◌*◌, ◌+◌, ◌<◌, ◌≤◌, suc, ℕ}
use native.Mathlib.Omega.{arith}
use Rattle.std.proofs.Math.Nat.{suc_inj}
use Rattle.std.proofs.Math.ListN.{length}
use Rattle.std.proofs.Math.Dec.{T, eqb→eq}
use Rattle.tables.specs.Tests.{or_pass}
use Rattle.plan.specs.Origins.{has_origin, origin_at, canonical}
use Rattle.plan.specs.Lists.{member, is_some}
use Rattle.plan.specs.Schedule.{Task, compute_task, keep_task, store_task, task_reads}
use Rattle.plan.specs.TestLaws.{or_first, or_second}
use Rattle.plan.specs.OriginLaws.{home_known}
use Rattle.allocate.specs.State.{Allocated, allocated, all_locked, and_then, Setting, State, TakenAll, register_of}
use Rattle.allocate.specs.Allocator.{read_later, home_code, fetch_all, run_task, run_compute, run_keep, run_store, allocate_task, reads_of, allocate}
use Rattle.allocate.specs.Outcomes.{Post, post_bind}
use Rattle.allocate.specs.Pressure.{reads_two}
use Rattle.allocate.specs.StateLaws.{Good, Sixteen}
use Rattle.allocate.specs.ReadLaws.{FetchedAll, fetch_all_fetched}
use Rattle.allocate.specs.TaskLaws.{Invariant, ReadsOk, Next, known, compute_next, keep_next, store_next}

-- a keep reads its value
pub reads_keep : (e : Setting) (k v : ℕ) → task_reads e.nodes e.origins (keep_task k v) ≡ canonical e.origins v ∷ []
unfolding task_reads
reads_keep e k v = refl

-- so does a store
pub reads_store : (e : Setting) (c i v : ℕ) → task_reads e.nodes e.origins (store_task c i v) ≡ canonical e.origins v ∷ []
unfolding task_reads
reads_store e c i v = refl

single : (m v : ℕ) → T (member m (v ∷ [])) → T (eqb m v)
single m v t = go (or_pass (eqb m v) false t)
  where
    go : T (eqb m v) ⊎ ⊥ → T (eqb m v)
    go (inl u) = u
    go (inr u) = absurd u

-- hoisted values' slots are below `fixed`, and no two are one
pub record HomesOk (home : List ℕ) (fixed : ℕ) : Type 0 where
  pub lt : (n k : ℕ) → get_or home n 0 ≡ suc k → k < fixed
  pub inj : (m l k : ℕ) → get_or home m 0 ≡ suc k → get_or home l 0 ≡ suc k → m ≡ l

-- what the schedule owes the allocator: done is what was computed, last 0 or 1 + what the last op computed
abbrev pub TasksOk : Setting → List ℕ → List ℕ → ℕ → List Task → Type 0
TasksOk e home done last [] = Unit {0}
TasksOk e home done last (compute_task n ∷ os) =
    ReadsOk e done (task_reads e.nodes e.origins (compute_task n)) × (n < length e.origins) × (T (known e done n) → ⊥)
    × TasksOk e home (n ∷ done) (suc n) os
TasksOk e home done last (keep_task k v ∷ os) =
    ReadsOk e done (task_reads e.nodes e.origins (keep_task k v)) × (last ≡ suc v) × (canonical e.origins v ≡ v) × (get_or home v 0 ≡ suc k)
    × TasksOk e home done 0 os
TasksOk e home done last (store_task c i v ∷ os) =
    ReadsOk e done (task_reads e.nodes e.origins (store_task c i v)) × TasksOk e home done 0 os

-- at most so many steps: two fetches of two steps, a spill and the compute; the store of what is held; a fetch, a fetch of the old value and the store
abbrev pub cost : Task → ℕ
cost (compute_task n) = 6
cost (keep_task k v) = 1
cost (store_task c i v) = 5

-- all tasks together
abbrev pub costs : List Task → ℕ
costs [] = 0
costs (o ∷ os) = cost o + costs os

abbrev Hot : ℕ → List (List ℕ) → State → Type 0
Hot last rest s = (v : ℕ) → last ≡ suc v → T (read_later rest v) → T (is_some (register_of s v))

-- what a run leaves: a good state, and so many steps more at most
pub record Ran (e : Setting) (home : List ℕ) (c : ℕ) (s s' : State) : Type 0 where
  pub good : Good e home s'
  pub grow : length s'.steps ≤ length s.steps + c

module _ (e : Setting) (home : List ℕ) (wf : Sixteen e) (hk : HomesOk home e.fixed) where
  abbrev Fits : List (List ℕ) → List ℕ → ℕ → ℕ → State → State → Type 0
  Fits rest done last c s s' = Invariant e home done rest s' × (length s'.steps ≤ length s.steps + c) × Hot last rest s'

  after : (rest : List (List ℕ)) (os : List Task) (done : List ℕ) (last c : ℕ) (s : State) (m : Allocated State) → Post (Unit {0}) (Fits rest done last c s) m
      → ((s' : State) → Invariant e home done rest s' → Hot last rest s' → Post (Unit {0}) (Ran e home (costs os) s') (allocate e os s'))
      → Post (Unit {0}) (Ran e home (c + costs os) s) (and_then m (λ s'. allocate e os s'))
  after rest os done last c s (allocated s') f k = go (allocate e os s') (k s' f.0 f.2)
    where
      go : (x : Allocated State) → Post (Unit {0}) (Ran e home (costs os) s') x → Post (Unit {0}) (Ran e home (c + costs os) s) x
      go (allocated s'') r = record { good = r.good; grow = omega (arith, r.grow, f.1) }
      go all_locked r = tt
  after rest os done last c s all_locked f k = tt

  -- A WHOLE RUN
  pub run_ran : (os : List Task) (done : List ℕ) (last : ℕ) (s : State) → TasksOk e home done last os → Invariant e home done (reads_of e os) s
      → Hot last (reads_of e os) s
      → Post (Unit {0}) (Ran e home (costs os) s) (allocate e os s)
  unfolding allocate allocate_task run_task reads_of
  run_ran [] done last s o i h = record { good = i.good; grow = omega arith }
  run_ran (compute_task n ∷ os) done last s o i h =
      let rd : List ℕ = task_reads e.nodes e.origins (compute_task n) in
      let rest : List (List ℕ) = reads_of e os in
      after rest os (n ∷ done) (suc n) 6 s (allocate_task e rest rd (compute_task n) s)
      (post_bind (Unit {0}) (FetchedAll e home [] rd s) (Fits rest (n ∷ done) (suc n) 6 s) (fetch_all e (rd ∷ rest) rd [] s) _
      (fetch_all_fetched e home wf (rd ∷ rest) rd [] [] s i.good (λ m t. (o.0 m t).0) tt)
      (λ g f. lift (run_compute e rest rd n g) (compute_next e home wf done rest rd n s g i o.0 o.1 o.2 f)))
      (λ s' i' h'. run_ran os (n ∷ done) (suc n) s' o.3 i' h')
    where
      lift : (x : Allocated State)
          → Post (Unit {0}) (λ s'. Next e home (n ∷ done) (reads_of e os) (2 * length (task_reads e.nodes e.origins (compute_task n)) + 2) s s'
          × (T (read_later (reads_of e os) n) → T (is_some (register_of s' n)))) x
          → Post (Unit {0}) (Fits (reads_of e os) (n ∷ done) (suc n) 6 s) x
      lift (allocated s') p = (p.0.inv, omega (arith, p.0.grow, reads_two e (compute_task n)), λ v q t. rw (← (suc_inj q)) (p.1 (rw (suc_inj q) t)))
      lift all_locked p = tt
  run_ran (keep_task k v ∷ os) done last s o i h =
      let rd : List ℕ = task_reads e.nodes e.origins (keep_task k v) in
      let rest : List (List ℕ) = reads_of e os in
      after rest os done 0 1 s (allocate_task e rest rd (keep_task k v) s)
      (post_bind (Unit {0}) (FetchedAll e home [] rd s) (Fits rest done 0 1 s) (fetch_all e (rd ∷ rest) rd [] s) _
      (fetch_all_fetched e home wf (rd ∷ rest) rd [] [] s i.good (λ m t. (o.0 m t).0) tt)
      (λ g f. lift g f (run_keep e rest rd k v g) (keep_next e home wf done rest rd k v s g i o.0 o.3 (hk.lt v k o.3) (λ m l. hk.inj m l k) f)))
      (λ s' i' h'. run_ran os done 0 s' o.4 i' h')
    where
      one : (m : ℕ) → T (member m (task_reads e.nodes e.origins (keep_task k v))) → T (is_some (register_of s m))
      one m t =
          let u : T (member m (v ∷ [])) = rw (reads_keep e k v, o.2) at t in
          let z : m ≡ v = eqb→eq m v (single m v u) in
          let t' : T (member v (task_reads e.nodes e.origins (keep_task k v))) = rw z at t in
          rw z (h v o.1 (or_first (member v (task_reads e.nodes e.origins (keep_task k v))) (read_later (reads_of e os) v) t'))

      lift : (g : TakenAll) → FetchedAll e home [] (task_reads e.nodes e.origins (keep_task k v)) s g → (x : Allocated State)
          → Post (Unit {0}) (λ s'. Invariant e home done (reads_of e os) s' × (length s'.steps ≤ length g.state.steps + 1)) x
          → Post (Unit {0}) (Fits (reads_of e os) done 0 1 s) x
      lift g f (allocated s') p = (p.0, rw (f.quiet one) at p.1, λ v q t. absurd (omega arith))
      lift g f all_locked p = tt
  run_ran (store_task c j v ∷ os) done last s o i h =
      let rd : List ℕ = task_reads e.nodes e.origins (store_task c j v) in
      let rest : List (List ℕ) = reads_of e os in
      after rest os done 0 5 s (allocate_task e rest rd (store_task c j v) s)
      (post_bind (Unit {0}) (FetchedAll e home [] rd s) (Fits rest done 0 5 s) (fetch_all e (rd ∷ rest) rd [] s) _
      (fetch_all_fetched e home wf (rd ∷ rest) rd [] [] s i.good (λ m t. (o.0 m t).0) tt)
      (λ g f. lift (run_store e rest rd c j g) (store_next e home wf done rest rd c j s g i o.0
      (λ n q. (
        (home_known e.origins (home_code c) j n q).0,
        or_second (member n done) (has_origin (origin_at e.origins n))
            (home_known e.origins (home_code c) j n q).1,
      )) f)))
      (λ s' i' h'. run_ran os done 0 s' o.1 i' h')
    where
      lift : (x : Allocated State)
          → Post (Unit {0}) (Next e home done (reads_of e os) (2 * length (task_reads e.nodes e.origins (store_task c j v)) + 3) s) x
          → Post (Unit {0}) (Fits (reads_of e os) done 0 5 s) x
      lift (allocated s') p = (p.inv, omega (arith, p.grow, ap length (reads_store e c j v)), λ v q t. absurd (omega arith))
      lift all_locked p = tt
