-- Every state and delay with an update is written exactly once by the schedule, no other (proofs/Writes has the theorems), and no output before the last op. Assumes nothing.
use Rattle.std.specs.Prelude.{◌≡◌, true, false, cond, ◌&&◌, ◌||◌, ℕ, zero, suc, ◌+◌, ◌<◌, get_or, T, eqb}
use Rattle.std.proofs.Math.Path.{refl, sym}
use Rattle.std.proofs.Math.Bool.{Bool, not}
use mathlib.Core.List.{List, [], ◌∷◌, ◌++◌}
use native.Mathlib.Omega.{arith}
use Rattle.std.proofs.Common.{eqb→eq}
use Rattle.std.proofs.Math.Dec.{eqb_refl}
use denote.Floats.{is_true}
use Rattle.plan.specs.Lists.{filter, any_of}
use Rattle.plan.specs.Nodes.{Node, Flow}
use Rattle.plan.specs.Origins.{Origin}
use Rattle.plan.specs.Schedule.{Write, writes_from, writes, waits, tasks_of, schedule_from}
use Rattle.allocate.specs.Actions.{store_action}
use Rattle.compiled.specs.Stores.{one, action_stores, task_stores, task_stores_append}

-- how often an update (0, or a node's number and one) is to be stored
abbrev pub asked_once : ℕ → ℕ
asked_once zero = 0
asked_once (suc n) = 1

module _ (code index : ℕ) where
  abbrev weight : Write → ℕ
  weight w = action_stores code index (store_action w.code w.index 0)

  -- the stores of code code and index index among the writes that pass
  abbrev pub total : (Write → Bool) → List Write → ℕ
  total p [] = 0
  total p (w ∷ ws) = cond (p w) (weight w) 0 + total p ws

  abbrev All : Write → Bool
  All w = true

  tasks_total : (p : Write → Bool) (ws : List Write) → task_stores code index (tasks_of (filter p ws)) ≡ total p ws
  tasks_total p [] = refl
  tasks_total p (w ∷ ws) = go (p w) (tasks_total p ws)
    where
      go : (t : Bool) → task_stores code index (tasks_of (filter p ws)) ≡ total p ws
          → task_stores code index (tasks_of (cond t (w ∷ filter p ws) (filter p ws))) ≡ cond t (weight w) 0 + total p ws
      go true h = omega (arith, h)
      go false h = omega (arith, h)

  total_or : (p q : Write → Bool) (ws : List Write) → total (λ w. p w && not (q w)) ws + total q ws ≡ total (λ w. p w || q w) ws
  total_or p q [] = refl
  total_or p q (w ∷ ws) = go (p w) (q w) (total_or p q ws)
    where
      A : ℕ
      A = total (λ w. p w && not (q w)) ws

      B : ℕ
      B = total q ws

      C : ℕ
      C = total (λ w. p w || q w) ws

      go : (x y : Bool) → A + B ≡ C → (cond (x && not y) (weight w) 0 + A) + (cond y (weight w) 0 + B) ≡ cond (x || y) (weight w) 0 + C
      go true true h = omega (arith, h)
      go true false h = omega (arith, h)
      go false true h = omega (arith, h)
      go false false h = omega (arith, h)

  total_not : (q : Write → Bool) (ws : List Write) → total (λ w. not (q w)) ws + total q ws ≡ total All ws
  total_not q [] = refl
  total_not q (w ∷ ws) = go (q w) (total_not q ws)
    where
      A : ℕ
      A = total (λ w. not (q w)) ws

      B : ℕ
      B = total q ws

      go : (y : Bool) → A + B ≡ total All ws → (cond (not y) (weight w) 0 + A) + (cond y (weight w) 0 + B) ≡ weight w + total All ws
      go true h = omega (arith, h)
      go false h = omega (arith, h)

  total_none : (ws : List Write) → total (λ w. false) ws ≡ 0
  total_none [] = refl
  total_none (w ∷ ws) = omega (arith, total_none ws)

  module _ (nodes : List Node) (origins : List Origin) (ws : List Write) where
    schedule_from_total : (rest : List ℕ) → task_stores code index (schedule_from nodes origins ws rest) ≡ total (λ w. any_of (waits nodes origins w) rest) ws
    unfolding schedule_from
    schedule_from_total [] = sym (total_none ws)
    schedule_from_total (n ∷ rest) =
        let p : Write → Bool = λ w. waits nodes origins w n in
        let q : Write → Bool = λ w. any_of (waits nodes origins w) rest in
        omega (
          arith,
          task_stores_append code index (tasks_of (filter (λ w. p w && not (q w)) ws)) (schedule_from nodes origins ws rest),
          tasks_total (λ w. p w && not (q w)) ws,
          schedule_from_total rest,
          total_or p q ws,
        )

    -- the schedule without its last task
    pub schedule_total : (computations : List ℕ)
        → task_stores code index (tasks_of (filter (λ w. not (any_of (waits nodes origins w) computations)) ws) ++ schedule_from nodes origins ws computations)
        ≡ total All ws
    schedule_total computations =
        let q : Write → Bool = λ w. any_of (waits nodes origins w) computations in
        omega (
          arith,
          task_stores_append code index (tasks_of (filter (λ w. not (q w)) ws)) (schedule_from nodes origins ws computations),
          tasks_total (λ w. not (q w)) ws,
          schedule_from_total computations,
          total_not q ws,
        )

  pub total_append : (xs ys : List Write) → total All (xs ++ ys) ≡ total All xs + total All ys
  total_append [] ys = omega arith
  total_append (x ∷ xs) ys = omega (arith, total_append xs ys)

  one_hit : (c k : ℕ) → c ≡ code → k ≡ index → one code index c k ≡ 1
  one_hit c k p q = rw (p, q, is_true (eqb code code) (eqb_refl code), is_true (eqb index index) (eqb_refl index))

  pub one_miss : (c k : ℕ) → (c ≡ code → k ≡ index → ⊥) → one code index c k ≡ 0
  one_miss c k f = go (eqb c code) (eqb k index) (λ t. eqb→eq c code t) (λ t. eqb→eq k index t)
    where
      go : (x y : Bool) → (T x → c ≡ code) → (T y → k ≡ index) → ◌≡◌ {A = ℕ} (cond (x && y) 1 0) 0
      go true true g h = absurd (f (g tt) (h tt))
      go true false g h = refl
      go false y g h = refl

  module _ (c : ℕ) (law : (k n : ℕ) → weight (record { code = c; index = k; value = n }) ≡ one code index c k) where
    pub from_other : (c ≡ code → ⊥) → (us : List ℕ) (k : ℕ) → total All (writes_from c k us) ≡ 0
    from_other f [] k = refl
    from_other f (zero ∷ us) k = from_other f us (suc k)
    from_other f (suc n ∷ us) k = omega (arith, law k n, one_miss c k (λ p q. f p), from_other f us (suc k))

    from_below : (us : List ℕ) (k : ℕ) → index < k → total All (writes_from c k us) ≡ 0
    from_below [] k h = refl
    from_below (zero ∷ us) k h = from_below us (suc k) (omega arith)
    from_below (suc n ∷ us) k h = omega (arith, law k n, one_miss c k (λ p q. omega arith), from_below us (suc k) (omega arith))

    pub from_here : c ≡ code → (us : List ℕ) (k j : ℕ) → index ≡ k + j → total All (writes_from c k us) ≡ asked_once (get_or us j 0)
    from_here p [] k j e = refl
    from_here p (zero ∷ us) k zero e = from_below us (suc k) (omega arith)
    from_here p (zero ∷ us) k (suc j) e = from_here p us (suc k) j (omega arith)
    from_here p (suc n ∷ us) k zero e = omega (arith, law k n, one_hit c k p (omega arith), from_below us (suc k) (omega arith))
    from_here p (suc n ∷ us) k (suc j) e = omega (arith, law k n, one_miss c k (λ p q. omega arith), from_here p us (suc k) j (omega arith))

  pub state_law : (k n : ℕ) → weight (record { code = 10; index = k; value = n }) ≡ one code index 10 k
  unfolding store_action
  state_law k n = refl

  pub delay_law : (k n : ℕ) → weight (record { code = 11; index = k; value = n }) ≡ one code index 11 k
  unfolding store_action
  delay_law k n = refl

pub outputs_none : (g : Flow) → total 12 0 (λ w. true) (writes g) ≡ 0
unfolding writes
outputs_none g =
    omega (
      arith,
      total_append 12 0 (writes_from 10 0 g.states) (writes_from 11 0 g.delays),
      from_other 12 0 10 (state_law 12 0) (λ (z : ◌≡◌ {A = ℕ} 10 12). omega arith) g.states 0,
      from_other 12 0 11 (delay_law 12 0) (λ (z : ◌≡◌ {A = ℕ} 11 12). omega arith) g.delays 0,
    )
