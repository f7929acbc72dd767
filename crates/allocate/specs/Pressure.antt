-- With three usable registers or more nothing is refused. Assumes nothing.
use Rattle.std.specs.Prelude.{◌≡◌, Bool, ◌&&◌}
use Rattle.std.proofs.Math.Bool.{false, not, true}
use mathlib.Core.List.{List, [], ◌++◌, ◌∷◌}
use Prim.Native.Nat.{◌+◌, ◌<◌, ◌≤◌, suc, zero, ℕ}
use native.Mathlib.Omega.{arith}
use lib.ListN.{length, length-append}
use Rattle.plan.specs.Nodes.{node_at}
use Rattle.plan.specs.Schedule.{Task, compute_task, keep_task, store_task, task_reads}
use Rattle.plan.specs.Lists.{member, filter, first_of, best, is_none}
use Rattle.plan.specs.Origins.{home_of}
use Rattle.plan.specs.ListLaws.{best_suc, Ascending, unlocked, filter_length}
use Rattle.plan.specs.Reached.{two_operands}
use Rattle.allocate.specs.State.{Setting, State, TakenAll, owner_of, register_of, is_fresh}
use Rattle.allocate.specs.Allocator.{take_register, take_free, evict_key, fetch, fetch_held, fetch_all, result_register, run_compute, run_keep, run_store, run_task, preserve, preserve_if, read_later, home_code, allocate_task, reads_of, allocate}
use Rattle.allocate.specs.Outcomes.{Post, post_bind, Any, Sure}

-- a task reads two nodes at most
pub reads_two : (e : Setting) (o : Task) → length (task_reads e.nodes e.origins o) ≤ 2
unfolding task_reads
reads_two e (compute_task n) = rw lib.ListN.length-map (two_operands (node_at e.nodes n))
reads_two e (keep_task k v) = omega arith
reads_two e (store_task c i v) = omega arith

module _ (e : Setting) (asc : Ascending 0 e.registers) where
  -- a register is left where fewer are locked than usable
  pub take_sure : (rest : List (List ℕ)) (n : ℕ) (locked : List ℕ) (s : State) → length locked < length e.registers → Sure (take_register e rest n locked s)
  unfolding take_register
  take_sure rest n locked s h = go (first_of (λ r. is_none (owner_of s r)) e.registers)
    where
      some : (c : ℕ) × (best (evict_key rest s) (filter (λ r. not (member r locked)) e.registers) ≡ suc c)
      some = best_suc (evict_key rest s) (filter (λ r. not (member r locked)) e.registers) (rw filter_length (omega (arith, unlocked locked e.registers asc)))

      go : (f : ℕ) → Sure (take_free e rest n locked s f)
      go zero = rw some.1 tt
      go (suc r) = tt

  -- so fetch finds one
  pub fetch_sure : (rest : List (List ℕ)) (n : ℕ) (locked : List ℕ) (s : State) → length locked < length e.registers → Sure (fetch e rest n locked s)
  unfolding fetch
  fetch_sure rest n locked s h = go (register_of s n)
    where
      go : (f : ℕ) → Sure (fetch_held e rest n locked s f)
      go zero = post_bind ⊥ Any Any (take_register e rest n locked s) _ (take_sure rest n locked s h) (λ g u. tt)
      go (suc r) = tt

  -- so do the fetches of a task, each of which locks one
  pub fetch_all_sure : (rest : List (List ℕ)) (ns locked : List ℕ) (s : State) → length locked + length ns ≤ length e.registers
      → Post ⊥ (λ g. length g.registers ≡ length locked + length ns) (fetch_all e rest ns locked s)
  unfolding fetch_all
  fetch_all_sure rest [] locked s h = omega arith
  fetch_all_sure rest (n ∷ ns) locked s h =
      post_bind ⊥ Any _ (fetch e rest n locked s) _ (fetch_sure rest n locked s (omega arith)) (λ g u.
      let l : length (locked ++ (g.register ∷ [])) ≡ length locked + 1 = length-append locked (g.register ∷ []) in
      let q : length (locked ++ (g.register ∷ [])) + length ns ≡ length locked + suc (length ns) = omega arith in
      rw q at (fetch_all_sure rest ns (locked ++ (g.register ∷ [])) g.state (omega arith)))

  -- so does the task, with a register left
  pub task_sure : (rest : List (List ℕ)) (reads : List ℕ) (o : Task) (g : TakenAll) → length g.registers < length e.registers → Sure (run_task e rest reads o g)
  unfolding run_task run_compute run_keep run_store
  task_sure rest reads (compute_task n) g h =
      post_bind ⊥ Any Any (result_register e rest n g.registers g.state (first_of (λ d. not (read_later rest d)) reads)) _
      (go (first_of (λ d. not (read_later rest d)) reads)) (λ t u. tt)
    where
      go : (f : ℕ) → Sure (result_register e rest n g.registers g.state f)
      go zero = take_sure rest n g.registers g.state h
      go (suc d) = tt
  task_sure rest reads (keep_task k v) g h = tt
  task_sure rest reads (store_task c i v) g h =
      post_bind ⊥ Any Any (preserve e rest g.registers g.state (home_of e.origins (home_code c) i)) _ (go (home_of e.origins (home_code c) i)) (λ t u. tt)
    where
      go₂ : (b : Bool) (n : ℕ) → Sure (preserve_if b e rest n g.registers g.state)
      go₂ true n = post_bind ⊥ Any Any (fetch e rest n g.registers g.state) _ (fetch_sure rest n g.registers g.state h) (λ g u. tt)
      go₂ false n = tt

      go : (f : ℕ) → Sure (preserve e rest g.registers g.state f)
      go zero = tt
      go (suc n) = go₂ (is_fresh g.state n && read_later rest n) n

  -- A WHOLE RUN, with three registers
  pub run_sure : 3 ≤ length e.registers → (os : List Task) (s : State) → Sure (allocate e os s)
  unfolding allocate allocate_task
  run_sure h [] s = tt
  run_sure h (o ∷ os) s =
      let rd : List ℕ = task_reads e.nodes e.origins o in
      post_bind ⊥ Any Any (allocate_task e (reads_of e os) rd o s) _
      (post_bind ⊥ _ Any (fetch_all e (rd ∷ reads_of e os) rd [] s) _ (fetch_all_sure _ rd [] s (omega (arith, reads_two e o)))
      (λ g l. task_sure (reads_of e os) rd o g (omega (arith, reads_two e o, l))))
      (λ s' u. run_sure h os s')
