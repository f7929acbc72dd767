-- The allocator in the Rust's own forms gives the same steps, slots and registers: `allocate_rust_lem`. Assumes nothing.
use Rattle.std.specs.Prelude.{◌≡◌, ◌⊎◌, Bool, true, false, cond, ◌&&◌, get_or, replicate, T, leb}
use Rattle.std.proofs.Math.Path.{refl, sym, ap}
use Rattle.std.proofs.Common.{◌∙◌, subst, inl, inr, arith}
use Rattle.std.proofs.Math.Bool.{not}
use mathlib.Core.List.{List, [], ◌∷◌, ◌++◌}
use Prim.Native.Nat.{ℕ, zero, suc, pred, ◌+◌, ◌≤◌, ◌<◌}
use Rattle.std.proofs.Math.ListN.{length}
use Rattle.std.proofs.lemmas.List.{length-replicate}
use Rattle.tables.specs.Tests.{or_pass}
use Rattle.plan.specs.Lists.{member, filter, first_of, better, best, count_up, is_some, is_none}
use Rattle.plan.specs.Origins.{is_load, origin_at}
use Rattle.plan.specs.Nodes.{node_at}
use Rattle.plan.specs.Schedule.{Task, compute_task, keep_task, store_task, task_reads}
use Rattle.allocate.specs.Actions.{store_control, store_action}
use Rattle.allocate.specs.State.{Allocated, allocated, all_locked, and_then, Setting, State, Taken, TakenAll, register_of, owner_of, is_fresh, emit, emit_operation, set_slot, begin}
use Rattle.allocate.specs.Allocator.{read_later, distance, evict_key, take_free, take_register, take_best, bring, fetch_held, fetch, fetch_all, release_if, release_all, result_register, lower, run_compute, run_keep, home_code, reads_of, allocate}
use Rattle.allocate.specs.RunLaws.{TasksOk}
use Rattle.allocate.specs.RustAllocator.{read_table, next_read_in, advance, usize_max, unwrap_or, key_le, better_by, best_by, take_free_rust, take_rust, fetch_held_rust, fetch_rust, fetch_all_rust, release_all_rust, result_rust, compute_rust, visit_rust, preserve_rust, hide_all, store_rust, task_rust, run_rust, allocate_rust}
use Rattle.allocate.specs.RustReads.{Left, left_start, left_next, Agrees, left_agrees, table_length, advance_length}
use Rattle.allocate.specs.RustKeys.{next_read, next_is, key_order}
use Rattle.allocate.specs.RustStores.{visit, preserve_all}
use Rattle.allocate.specs.RustTwins.{run_store_all, run_task_all, allocate_all, Alike, allocate_same}

-- results that go on alike are alike
and_same : {A B : Type 0} (x : Allocated A) (f g : A → Allocated B) → ((a : A) → f a ≡ g a) → and_then x f ≡ and_then x g
and_same (allocated a) f g h = h a
and_same all_locked f g h = refl

first_same : (p q : ℕ → Bool) → ((n : ℕ) → p n ≡ q n) → (xs : List ℕ) → first_of p xs ≡ first_of q xs
first_same p q h [] = refl
first_same p q h (x ∷ xs) = rw (h x, first_same p q h xs)

best_same : (le : ℕ → ℕ → Bool) (key : ℕ → ℕ) → ((q r : ℕ) → le q r ≡ leb (key q) (key r)) → (xs : List ℕ) → best_by le xs ≡ best key xs
best_same le key h [] = refl
best_same le key h (x ∷ xs) = rw (best_same le key h xs) (go (best key xs))
  where
    go : (b : ℕ) → better_by le x b ≡ better key x b
    go zero = refl
    go (suc y) = rw (h x y)

-- ---- with a next read that agrees with the reads to come

module _ (e : Setting) (next : ℕ → ℕ) (k : ℕ) (rest : List (List ℕ)) (agrees : Agrees next k rest) where
  later_same : (n : ℕ) → is_some (next n) ≡ read_later rest n
  later_same n = rw (agrees n) (go (read_later rest n))
    where
      go : (b : Bool) → is_some (cond b (suc (k + distance rest n)) 0) ≡ b
      go true = refl
      go false = refl

  dying_same : (n : ℕ) → is_none (next n) ≡ not (read_later rest n)
  dying_same n = rw (agrees n) (go (read_later rest n))
    where
      go : (b : Bool) → is_none (cond b (suc (k + distance rest n)) 0) ≡ not b
      go true = refl
      go false = refl

  position_same : (n : ℕ) → unwrap_or usize_max (next n) ≡ next_read usize_max k rest n
  position_same n = rw (agrees n) (go (read_later rest n) ∙ sym (next_is usize_max k rest n))
    where
      go : (b : Bool) → unwrap_or usize_max (cond b (suc (k + distance rest n)) 0) ≡ cond b (k + distance rest n) usize_max
      go true = refl
      go false = refl

  release_same : (reads : List ℕ) (s : State) → release_all_rust e next reads s ≡ release_all e rest reads s
  unfolding release_all
  release_same [] s = refl
  release_same (n ∷ reads) s = rw (later_same n) (release_same reads (release_if (read_later rest n) e n s))

  module _ (few : k + length rest ≤ usize_max) where
    key_same : (s : State) (q r : ℕ) → key_le next s q r ≡ leb (evict_key rest s q) (evict_key rest s r)
    unfolding key_le
    key_same s q r = rw (position_same (pred (owner_of s q)), position_same (pred (owner_of s r))) (sym (key_order usize_max k rest few s q r))

    take_same : (n : ℕ) (locked : List ℕ) (s : State) → take_rust e next n locked s ≡ take_register e rest n locked s
    unfolding take_rust take_register
    take_same n locked s = go (first_of (λ r. is_none (owner_of s r)) e.registers)
      where
        go : (f : ℕ) → take_free_rust e next n locked s f ≡ take_free e rest n locked s f
        go zero = ap (take_best e n s) (best_same (key_le next s) (evict_key rest s) (key_same s) (filter (λ r. not (member r locked)) e.registers))
        go (suc r) = refl

    fetch_same : (n : ℕ) (locked : List ℕ) (s : State) → fetch_rust e next n locked s ≡ fetch e rest n locked s
    unfolding fetch_rust fetch
    fetch_same n locked s = go (register_of s n)
      where
        go : (h : ℕ) → fetch_held_rust e next n locked s h ≡ fetch_held e rest n locked s h
        go zero =
            ap (λ (x : Allocated Taken). and_then x (λ t. allocated (record { register = t.register; state = bring e n t.register t.state })))
            (take_same n locked s)
        go (suc r) = refl

    fetches_same : (reads locked : List ℕ) (s : State) → fetch_all_rust e next reads locked s ≡ fetch_all e rest reads locked s
    unfolding fetch_all
    fetches_same [] locked s = refl
    fetches_same (n ∷ reads) locked s =
        rw (fetch_same n locked s)
        (and_same (fetch e rest n locked s) (λ t. fetch_all_rust e next reads (locked ++ (t.register ∷ [])) t.state)
        (λ t. fetch_all e rest reads (locked ++ (t.register ∷ [])) t.state) (λ t. fetches_same reads (locked ++ (t.register ∷ [])) t.state))

    preserve_alike : (code index : ℕ) (nodes locked : List ℕ) (s : State)
        → preserve_rust e next code index locked s nodes ≡ preserve_all e rest code index locked s nodes
    preserve_alike code index [] locked s = refl
    preserve_alike code index (n ∷ nodes) locked s =
        rw (later_same n) (go (is_load code index (origin_at e.origins n) && (is_fresh s n && read_later rest n)) (λ l t. preserve_alike code index nodes l t))
      where
        go : (b : Bool) → ((l : List ℕ) (t : State) → preserve_rust e next code index l t nodes ≡ preserve_all e rest code index l t nodes)
            → visit_rust b e next n locked s (λ l t. preserve_rust e next code index l t nodes) ≡ visit b e rest n locked s
            (λ l t. preserve_all e rest code index l t nodes)
        go false ih = ih locked s
        go true ih =
            rw (fetch_same n locked s)
            (and_same (fetch e rest n locked s) (λ t. preserve_rust e next code index (locked ++ (t.register ∷ [])) t.state nodes)
            (λ t. preserve_all e rest code index (locked ++ (t.register ∷ [])) t.state nodes) (λ t. ih (locked ++ (t.register ∷ [])) t.state))

    compute_same : (reads : List ℕ) (n : ℕ) (f : TakenAll) → compute_rust e next reads n f ≡ run_compute e rest reads n f
    unfolding run_compute
    compute_same reads n f =
        rw (first_same (λ d. is_none (next d)) (λ d. not (read_later rest d)) dying_same reads)
        (rw (result (first_of (λ d. not (read_later rest d)) reads))
        (and_same (result_register e rest n f.registers f.state (first_of (λ d. not (read_later rest d)) reads))
        (λ t. allocated (release_all_rust e next reads (emit_operation (lower (node_at e.nodes n) t.register f.registers) t.state)))
        (λ t. allocated (release_all e rest reads (emit_operation (lower (node_at e.nodes n) t.register f.registers) t.state)))
        (λ t. ap allocated (release_same reads (emit_operation (lower (node_at e.nodes n) t.register f.registers) t.state)))))
      where
        result : (d : ℕ) → result_rust e next n f.registers f.state d ≡ result_register e rest n f.registers f.state d
        result zero = take_same n f.registers f.state
        result (suc d) = refl

    store_same : (reads : List ℕ) (code index : ℕ) (f : TakenAll) → store_rust e next reads code index f ≡ run_store_all e rest reads code index f
    unfolding run_store_all
    store_same reads code index f =
        rw (preserve_alike (home_code code) index (count_up 0 (length e.origins)) f.registers f.state)
        (and_same (preserve_all e rest (home_code code) index f.registers f.state (count_up 0 (length e.origins)))
        (λ s. allocated (release_all_rust e next reads (hide_all e (home_code code) index (emit (store_action code index (get_or f.registers 0 0)) s))))
        (λ s. allocated (release_all e rest reads (hide_all e (home_code code) index (emit (store_action code index (get_or f.registers 0 0)) s))))
        (λ s. ap allocated (release_same reads (hide_all e (home_code code) index (emit (store_action code index (get_or f.registers 0 0)) s)))))

    task_same : (reads : List ℕ) (task : Task) (f : TakenAll) → task_rust e next reads task f ≡ run_task_all e rest reads task f
    unfolding run_task_all run_keep
    task_same reads (compute_task n) f = compute_same reads n f
    task_same reads (keep_task slot n) f = ap allocated (release_same reads (set_slot n slot (emit (store_control slot (get_or f.registers 0 0)) f.state)))
    task_same reads (store_task code index n) f = store_same reads code index f

-- ---- a whole run

module _ (e : Setting) (table : List (List ℕ)) where
  reads_length : (tasks : List Task) → length (reads_of e tasks) ≡ length tasks
  unfolding reads_of
  reads_length [] = refl
  reads_length (task ∷ tasks) = ap suc (reads_length tasks)

  run_same : (tasks : List Task) (k : ℕ) (indices : List ℕ) (s : State) → length table ≡ length indices → Left k (reads_of e tasks) table indices
      → k + length tasks ≤ usize_max
      → run_rust e table k indices tasks s ≡ allocate_all e tasks s
  unfolding allocate_all reads_of
  run_same [] k indices s same left few = refl
  run_same (task ∷ tasks) k indices s same left few =
      let reads : List ℕ = task_reads e.nodes e.origins task in
      let rest : List (List ℕ) = reads_of e tasks in
      let moved : List ℕ = advance k reads table indices in
      let on : Left (suc k) rest table moved = left_next k reads rest table indices same left in
      let l : length rest ≡ length tasks = reads_length tasks in
      let a : Agrees (next_read_in table indices) k (reads ∷ rest) = left_agrees k (reads ∷ rest) table indices left in
      let c : Agrees (next_read_in table moved) (suc k) rest = left_agrees (suc k) rest table moved on in
      rw (
        fetches_same e (next_read_in table indices) k (reads ∷ rest) a (omega arith) reads [] s,
        and_same (fetch_all e (reads ∷ rest) reads [] s) (λ f. task_rust e (next_read_in table moved) reads task f) (λ f. run_task_all e rest reads task f)
            (λ f. task_same e (next_read_in table moved) (suc k) rest c (omega arith) reads task f),
      )
      (and_same (and_then (fetch_all e (reads ∷ rest) reads [] s) (λ f. run_task_all e rest reads task f)) (λ t. run_rust e table (suc k) moved tasks t)
      (λ t. allocate_all e tasks t)
      (λ t. run_same tasks (suc k) moved t (same ∙ sym (advance_length k reads table indices)) on (omega arith)))

-- tasks read nodes alone
reads_inside : (e : Setting) (home done : List ℕ) (last : ℕ) (tasks : List Task) → TasksOk e home done last tasks → (n : ℕ) → T (read_later (reads_of e tasks) n)
    → n < length e.origins
unfolding reads_of
reads_inside e home done last [] o n t = absurd t
reads_inside e home done last (compute_task m ∷ tasks) o n t =
    go (or_pass (member n (task_reads e.nodes e.origins (compute_task m))) (read_later (reads_of e tasks) n) t)
    (reads_inside e home (m ∷ done) (suc m) tasks o.3 n)
  where
    go : T (member n (task_reads e.nodes e.origins (compute_task m))) ⊎ T (read_later (reads_of e tasks) n)
        → (T (read_later (reads_of e tasks) n) → n < length e.origins) → n < length e.origins
    go (inl u) ih = (o.0 n u).0
    go (inr u) ih = ih u
reads_inside e home done last (keep_task k v ∷ tasks) o n t =
    go (or_pass (member n (task_reads e.nodes e.origins (keep_task k v))) (read_later (reads_of e tasks) n) t) (reads_inside e home done 0 tasks o.4 n)
  where
    go : T (member n (task_reads e.nodes e.origins (keep_task k v))) ⊎ T (read_later (reads_of e tasks) n)
        → (T (read_later (reads_of e tasks) n) → n < length e.origins) → n < length e.origins
    go (inl u) ih = (o.0 n u).0
    go (inr u) ih = ih u
reads_inside e home done last (store_task c i v ∷ tasks) o n t =
    go (or_pass (member n (task_reads e.nodes e.origins (store_task c i v))) (read_later (reads_of e tasks) n) t) (reads_inside e home done 0 tasks o.1 n)
  where
    go : T (member n (task_reads e.nodes e.origins (store_task c i v))) ⊎ T (read_later (reads_of e tasks) n)
        → (T (read_later (reads_of e tasks) n) → n < length e.origins) → n < length e.origins
    go (inl u) ih = (o.0 n u).0
    go (inr u) ih = ih u

-- THE RUST'S ALLOCATOR: both are refused, or both end in states that differ only in what is fresh
pub allocate_rust_lem : (e : Setting) (home : List ℕ) (tasks : List Task) → TasksOk e home [] 0 tasks → length tasks ≤ usize_max
    → Alike e (allocate e tasks (begin e)) (allocate_rust e tasks (begin e))
unfolding allocate_rust
allocate_rust_lem e home tasks ok few =
    let nodes : ℕ = length e.origins in
    let table : List (List ℕ) = read_table 0 (reads_of e tasks) (replicate nodes []) in
    let same : length table ≡ length (replicate nodes zero) = table_length 0 (reads_of e tasks) (replicate nodes [])
    ∙ (length-replicate nodes [] ∙ sym (length-replicate nodes zero)) in
    let left : Left 0 (reads_of e tasks) table (replicate nodes 0) = left_start nodes (reads_of e tasks) (reads_inside e home [] 0 tasks ok) in
    subst (λ (x : Allocated State). Alike e (allocate e tasks (begin e)) x)
    (sym (run_same e table tasks 0 (replicate nodes 0) (begin e) same left (omega arith)))
    (allocate_same e home [] 0 tasks ok)
