-- How many steps the tasks of a phase emit at most. Assumes nothing.
use Rattle.std.specs.Prelude.{◌≡◌, refl, Bool, ◌&&◌, ◌||◌, cond, false, true, ◌*◌, ◌+◌, ◌≤◌, suc, zero, ℕ, get_or, length}
use Rattle.std.proofs.Math.Bool.{not}
use mathlib.Core.List.{List, [], ◌++◌, ◌∷◌}
use native.Mathlib.Omega.{arith}
use Rattle.plan.specs.Nodes.{Node}
use Rattle.plan.specs.Origins.{Origin}
use Rattle.plan.specs.Schedule.{compute_task, keep_task, Task, store_task, Write, writes_from, waits, tasks_of, schedule_from, schedule, control_task, control_tasks}
use Rattle.plan.specs.Lists.{filter, any_of}
use Rattle.allocate.specs.RunLaws.{costs}

costs_append : (xs ys : List Task) → costs (xs ++ ys) ≡ costs xs + costs ys
costs_append [] ys = omega arith
costs_append (x ∷ xs) ys = omega (arith, costs_append xs ys)

costs_writes : (ws : List Write) → costs (tasks_of ws) ≡ 5 * length ws
costs_writes [] = refl
costs_writes (w ∷ ws) = omega (arith, costs_writes ws)

-- p alone, and q, are p or q
both : (p q : Write → Bool) (ws : List Write) → length (filter (λ w. p w && not (q w)) ws) + length (filter q ws) ≡ length (filter (λ w. p w || q w) ws)
both p q [] = refl
both p q (w ∷ ws) = go (p w) (q w) (both p q ws)
  where
    A : List Write
    A = filter (λ w. p w && not (q w)) ws

    B : List Write
    B = filter q ws

    C : List Write
    C = filter (λ w. p w || q w) ws

    go : (x y : Bool) → length A + length B ≡ length C → length (cond (x && not y) (w ∷ A) A) + length (cond y (w ∷ B) B) ≡ length (cond (x || y) (w ∷ C) C)
    go true true h = omega arith
    go true false h = omega arith
    go false true h = omega arith
    go false false h = h

none_or : (q : Write → Bool) (ws : List Write) → length (filter (λ w. not (q w)) ws) + length (filter q ws) ≡ length ws
none_or q [] = refl
none_or q (w ∷ ws) = go (q w) (none_or q ws)
  where
    go : (y : Bool) → length (filter (λ w. not (q w)) ws) + length (filter q ws) ≡ length ws
        → length (cond (not y) (w ∷ filter (λ w. not (q w)) ws) (filter (λ w. not (q w)) ws)) + length (cond y (w ∷ filter q ws) (filter q ws)) ≡ suc (length ws)
    go true h = omega arith
    go false h = omega arith

filter_none : (ws : List Write) → length (filter (λ w. false) ws) ≡ 0
filter_none [] = refl
filter_none (w ∷ ws) = filter_none ws

module _ (ns' : List Node) (ss' : List Origin) (ws : List Write) where
  costs_from : (rest : List ℕ) → costs (schedule_from ns' ss' ws rest) ≡ 6 * length rest + 5 * length (filter (λ w. any_of (waits ns' ss' w) rest) ws)
  unfolding schedule_from
  costs_from [] = omega (arith, filter_none ws)
  costs_from (n ∷ rest) =
      let W : List Write = filter (λ w. waits ns' ss' w n && not (any_of (waits ns' ss' w) rest)) ws in
      omega (
        arith,
        costs_append (tasks_of W) (schedule_from ns' ss' ws rest),
        costs_writes W,
        costs_from rest,
        both (λ w. waits ns' ss' w n) (λ w. any_of (waits ns' ss' w) rest) ws,
      )

  -- a schedule: six steps a computation, five a write
  pub costs_schedule : (cm : List ℕ) (out : ℕ) → costs (schedule ns' ss' ws cm out) ≡ 6 * length cm + 5 * (length ws + 1)
  unfolding schedule
  costs_schedule cm out =
      let W : List Write = filter (λ w. not (any_of (waits ns' ss' w) cm)) ws in
      omega (
        arith,
        costs_append (tasks_of W) (schedule_from ns' ss' ws cm ++ (store_task 12 0 out ∷ [])),
        costs_append (schedule_from ns' ss' ws cm) (store_task 12 0 out ∷ []),
        costs_writes W,
        costs_from cm,
        none_or (λ w. any_of (waits ns' ss' w) cm) ws,
      )

-- the control phase: seven a computation
pub costs_control : (home cm : List ℕ) → costs (control_tasks home cm) ≤ 7 * length cm
costs_control home [] = omega arith
costs_control home (n ∷ cm) = go (get_or home n 0) (costs_control home cm)
  where
    go : (h : ℕ) → costs (control_tasks home cm) ≤ 7 * length cm → costs (control_task n h ++ control_tasks home cm) ≤ 7 * suc (length cm)
    go zero ih = omega arith
    go (suc k) ih = omega arith

-- no more writes than memories
pub writes_count : (c k : ℕ) (us : List ℕ) → length (writes_from c k us) ≤ length us
writes_count c k [] = omega arith
writes_count c k (zero ∷ us) = omega (arith, writes_count c (suc k) us)
writes_count c k (suc n ∷ us) = omega (arith, writes_count c (suc k) us)

-- no more tasks than the steps they may emit
pub tasks_le : (tasks : List Task) → length tasks ≤ costs tasks
tasks_le [] = omega arith
tasks_le (compute_task n ∷ tasks) = omega (arith, tasks_le tasks)
tasks_le (keep_task k v ∷ tasks) = omega (arith, tasks_le tasks)
tasks_le (store_task c i v ∷ tasks) = omega (arith, tasks_le tasks)
