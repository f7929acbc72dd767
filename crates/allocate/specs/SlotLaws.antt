-- Each slot of a phase is fixed or came with a step: `run_slots`. Assumes nothing.
use Rattle.std.specs.Prelude.{Bool, ◌&&◌, false, not, true, List, [], ◌++◌, ◌∷◌, ◌+◌, ◌≤◌, pred, suc, zero, ℕ, get_or, length}
use Rattle.std.proofs.Common.{arith, length-append}
use Rattle.plan.specs.Nodes.{node_at}
use Rattle.plan.specs.Origins.{Origin, no_origin, immediate, loaded, origin_at, home_of}
use Rattle.plan.specs.Schedule.{Task, compute_task, keep_task, store_task, task_reads}
use Rattle.plan.specs.Lists.{first_of}
use Rattle.allocate.specs.Actions.{Action, compute, store_control, load_action, store_action, Operation, load_immediate}
use Rattle.allocate.specs.State.{Allocated, allocated, all_locked, Setting, State, Taken, TakenAll, register_of, slot_of, is_fresh, reloadable, emit, emit_operation, to_slot, from_slot, spill_in, spill_out, place, vacate, release, begin, lend, set_slot, stale}
use Rattle.allocate.specs.Allocator.{spill_if, evict, take_register, bring_from, bring_if, bring, fetch_held, fetch, fetch_all, release_if, release_all, read_later, result_register, lower, run_compute, run_keep, home_code, preserve_if, preserve, run_store, run_task, allocate_task, reads_of, allocate}
use Rattle.allocate.specs.Outcomes.{post_map, Post, post_bind}
use Rattle.allocate.specs.StateLaws.{TakeView, was_free, evicted, none, take_view}

-- each new slot comes with a step
pub record Grew (s s' : State) : Type 0 where
  pub slots : s'.slots + length s.steps ≤ s.slots + length s'.steps

grew_refl : (s : State) → Grew s s
grew_refl s = record { slots = omega arith }

grew_trans : (a c d : State) → Grew a c → Grew c d → Grew a d
grew_trans a c d x y = record { slots = omega (arith, x.slots, y.slots) }

emit_grew : (x : Action) (s : State) → Grew s (emit x s)
unfolding emit
emit_grew x s = record { slots = omega (arith, length-append s.steps (x ∷ [])) }

operation_grew : (x : Operation) (s : State) → Grew s (emit_operation x s)
operation_grew x s = emit_grew (compute x) s

spill_grew : (e : Setting) (v r : ℕ) (s : State) → Grew s (spill_out e v r s)
unfolding spill_out
spill_grew e v r s = go s.free
  where
    go : (f : List ℕ) → Grew s (spill_in e v r f s)
    go [] = record { slots = omega (arith, length-append s.steps (to_slot e s.slots r ∷ [])) }
    go (k ∷ ks) = record { slots = omega (arith, length-append s.steps (to_slot e k r ∷ [])) }

vacate_grew : (v r : ℕ) (s : State) → Grew s (vacate v r s)
unfolding vacate
vacate_grew v r s = record { slots = omega arith }

evict_grew : (e : Setting) (v r : ℕ) (s : State) → Grew s (evict e v r s)
unfolding evict
evict_grew e v r s = go (reloadable s v)
  where
    go : (b : Bool) → Grew s (vacate v r (spill_if b e v r s))
    go true = vacate_grew v r s
    go false = grew_trans s (spill_out e v r s) (vacate v r (spill_out e v r s)) (spill_grew e v r s) (vacate_grew v r (spill_out e v r s))

place_grew : (v r : ℕ) (s : State) → Grew s (place v r s)
unfolding place
place_grew v r s = record { slots = omega arith }

abbrev GrewTaken : State → Taken → Type 0
GrewTaken s g = Grew s g.state

take_grew : (e : Setting) (rest : List (List ℕ)) (n : ℕ) (locked : List ℕ) (s : State) → Post (Unit {0}) (GrewTaken s) (take_register e rest n locked s)
take_grew e rest n locked s = go (take_register e rest n locked s) (take_view e rest n locked s)
  where
    go : (x : Allocated Taken) → TakeView e n locked s x → Post (Unit {0}) (GrewTaken s) x
    go x (was_free r hr mr) = place_grew n r s
    go x (evicted r v hr mr nl) = grew_trans s (evict e v r s) (place n r (evict e v r s)) (evict_grew e v r s) (place_grew n r (evict e v r s))
    go x none = tt

bring_grew : (e : Setting) (n r : ℕ) (s : State) → Grew s (bring e n r s)
unfolding bring bring_from
bring_grew e n r s = go (is_fresh s n)
  where
    src : (x : Origin) → Grew s (bring_from x r s)
    src no_origin = grew_refl s
    src (immediate b) = operation_grew (load_immediate b r) s
    src (loaded c i) = emit_grew (load_action c i r) s

    go : (b : Bool) → Grew s (bring_if b e n r s)
    go true = src (origin_at e.origins n)
    go false = emit_grew (from_slot e (pred (slot_of s n)) r) s

fetch_grew : (e : Setting) (rest : List (List ℕ)) (n : ℕ) (locked : List ℕ) (s : State) → Post (Unit {0}) (GrewTaken s) (fetch e rest n locked s)
unfolding fetch
fetch_grew e rest n locked s = go (register_of s n)
  where
    go : (h : ℕ) → Post (Unit {0}) (GrewTaken s) (fetch_held e rest n locked s h)
    go zero =
        post_bind (Unit {0}) (GrewTaken s) (GrewTaken s) (take_register e rest n locked s) _ (take_grew e rest n locked s)
        (λ g h. grew_trans s g.state (bring e n g.register g.state) h (bring_grew e n g.register g.state))
    go (suc r) = grew_refl s

fetch_all_grew : (e : Setting) (rest : List (List ℕ)) (ns locked : List ℕ) (s : State) → Post (Unit {0}) (λ g. Grew s g.state) (fetch_all e rest ns locked s)
unfolding fetch_all
fetch_all_grew e rest [] locked s = grew_refl s
fetch_all_grew e rest (n ∷ ns) locked s =
    post_bind (Unit {0}) (GrewTaken s) (λ g. Grew s g.state) (fetch e rest n locked s) _ (fetch_grew e rest n locked s) (λ g h.
    more g h (fetch_all e rest ns (locked ++ (g.register ∷ [])) g.state) (fetch_all_grew e rest ns (locked ++ (g.register ∷ [])) g.state))
  where
    more : (g : Taken) → Grew s g.state → (x : Allocated TakenAll) → Post (Unit {0}) (λ u. Grew g.state u.state) x
        → Post (Unit {0}) (λ u. Grew s u.state) x
    more g h (allocated u) k = grew_trans s g.state u.state h k
    more g h all_locked k = tt

release_grew : (e : Setting) (n : ℕ) (s : State) → Grew s (release e n s)
unfolding release
release_grew e n s = record { slots = omega arith }

release_all_grew : (e : Setting) (rest : List (List ℕ)) (ns : List ℕ) (s : State) → Grew s (release_all e rest ns s)
unfolding release_all
release_all_grew e rest [] s = grew_refl s
release_all_grew e rest (n ∷ ns) s = go (read_later rest n) (λ s'. release_all_grew e rest ns s')
  where
    go : (b : Bool) → ((s' : State) → Grew s' (release_all e rest ns s')) → Grew s (release_all e rest ns (release_if b e n s))
    go true ih = ih s
    go false ih = grew_trans s (release e n s) (release_all e rest ns (release e n s)) (release_grew e n s) (ih (release e n s))

result_grew : (e : Setting) (rest : List (List ℕ)) (n : ℕ) (locked : List ℕ) (s : State) (f : ℕ) → Post (Unit {0}) (GrewTaken s) (result_register e rest n locked s f)
unfolding lend
result_grew e rest n locked s zero = take_grew e rest n locked s
result_grew e rest n locked s (suc d) = record { slots = omega arith }

preserve_grew : (e : Setting) (rest : List (List ℕ)) (locked : List ℕ) (s : State) (h : ℕ) → Post (Unit {0}) (λ s'. Grew s s') (preserve e rest locked s h)
preserve_grew e rest locked s zero = grew_refl s
preserve_grew e rest locked s (suc n) = go (is_fresh s n && read_later rest n)
  where
    go : (b : Bool) → Post (Unit {0}) (λ s'. Grew s s') (preserve_if b e rest n locked s)
    go false = grew_refl s
    go true = post_bind (Unit {0}) (GrewTaken s) (λ s'. Grew s s') (fetch e rest n locked s) _ (fetch_grew e rest n locked s) (λ g h. h)

stale_grew : (h : ℕ) (s : State) → Grew s (stale h s)
unfolding stale
stale_grew zero s = grew_refl s
stale_grew (suc n) s = record { slots = omega arith }

set_slot_grew : (v k : ℕ) (s : State) → Grew s (set_slot v k s)
unfolding set_slot
set_slot_grew v k s = record { slots = omega arith }

task_grew : (e : Setting) (rest : List (List ℕ)) (reads : List ℕ) (o : Task) (g : TakenAll) → Post (Unit {0}) (λ s'. Grew g.state s') (run_task e rest reads o g)
unfolding run_task run_compute run_keep run_store
task_grew e rest reads (compute_task n) g =
    post_bind (Unit {0}) (GrewTaken g.state) _ (result_register e rest n g.registers g.state (first_of (λ d. not (read_later rest d)) reads)) _
    (result_grew e rest n g.registers g.state (first_of (λ d. not (read_later rest d)) reads)) (λ t h.
    let x : Operation = lower (node_at e.nodes n) t.register g.registers in
    grew_trans g.state t.state _ h (grew_trans t.state (emit_operation x t.state) _ (operation_grew x t.state)
    (release_all_grew e rest reads (emit_operation x t.state))))
task_grew e rest reads (keep_task k v) g =
    let a : State = emit (store_control k (get_or g.registers 0 0)) g.state in
    grew_trans g.state a _ (emit_grew (store_control k (get_or g.registers 0 0)) g.state)
    (grew_trans a (set_slot v k a) _ (set_slot_grew v k a) (release_all_grew e rest reads (set_slot v k a)))
task_grew e rest reads (store_task c i v) g =
    let h : ℕ = home_of e.origins (home_code c) i in
    let x : Action = store_action c i (get_or g.registers 0 0) in
    post_bind (Unit {0}) (λ s'. Grew g.state s') _ (preserve e rest g.registers g.state h) _ (preserve_grew e rest g.registers g.state h) (λ t q.
    grew_trans g.state t _ q (grew_trans t (emit x t) _ (emit_grew x t)
    (grew_trans (emit x t) (stale h (emit x t)) _ (stale_grew h (emit x t)) (release_all_grew e rest reads (stale h (emit x t))))))

-- a whole run
pub run_grew : (e : Setting) (os : List Task) (s : State) → Post (Unit {0}) (λ s'. Grew s s') (allocate e os s)
unfolding allocate allocate_task
run_grew e [] s = grew_refl s
run_grew e (o ∷ os) s =
    let rd : List ℕ = task_reads e.nodes e.origins o in
    post_bind (Unit {0}) (λ s'. Grew s s') _ (allocate_task e (reads_of e os) rd o s) _
    (post_bind (Unit {0}) (λ g. Grew s g.state) _ (fetch_all e (rd ∷ reads_of e os) rd [] s) _ (fetch_all_grew e (rd ∷ reads_of e os) rd [] s)
    (λ g h. join g.state h (run_task e (reads_of e os) rd o g) (task_grew e (reads_of e os) rd o g)))
    (λ s' h. join s' h (allocate e os s') (run_grew e os s'))
  where
    join : (a : State) → Grew s a → (x : Allocated State) → Post (Unit {0}) (λ s'. Grew a s') x → Post (Unit {0}) (λ s'. Grew s s') x
    join a h (allocated s') k = grew_trans s a s' h k
    join a h all_locked k = tt

-- from the start: the fixed slots, and at most one for each step
pub run_slots : (e : Setting) (os : List Task) → Post (Unit {0}) (λ s. s.slots ≤ e.fixed + length s.steps) (allocate e os (begin e))
unfolding begin
run_slots e os =
    post_map (Grew (begin e)) (λ s. s.slots ≤ e.fixed + length s.steps) (allocate e os (begin e)) (run_grew e os (begin e)) (λ s h. omega (arith, h.slots))
