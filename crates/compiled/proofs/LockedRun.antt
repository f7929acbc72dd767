-- Answer 14 exactly, of a run and of compile: `run_locked`, `locked_exactly`. Assumes nothing.
use Rattle.std.specs.Prelude.{◌≡◌, refl, ◌↔◌, ◌⊎◌, Bool, true, false, not, ◌&&◌, List, [], ◌∷◌, ◌++◌, ℕ, zero, suc}
use Rattle.std.proofs.Common.{inl, inr}
use denote.Floats.{is_true}
use Rattle.expand.specs.Graph.{Graph}
use Rattle.plan.specs.Lists.{first_of}
use Rattle.plan.specs.Nodes.{Flow}
use Rattle.plan.specs.Origins.{home_of}
use Rattle.plan.specs.Schedule.{Task, compute_task, keep_task, store_task, task_reads, plan_of}
use Rattle.plan.specs.Flow.{flow_of}
use Rattle.allocate.specs.State.{Allocated, allocated, all_locked, and_then, Setting, State, Taken, TakenAll, register_of, is_fresh, begin}
use Rattle.allocate.specs.Allocator.{take_register, fetch_held, fetch, fetch_all, read_later, result_register, run_compute, run_keep, run_store, preserve_if, preserve, home_code, run_task, allocate_task, reads_of, allocate}
use Rattle.compile.specs.Draft.{control_setting, sample_setting, draft_of, compile_plan, compile_flow}
use Rattle.compile.specs.Words.{compiled_of}
use Rattle.compile.specs.Compile.{compile}
use Rattle.compiled.specs.Locked.{EveryLocked}
use Rattle.compiled.proofs.Locked.{not_locked, take_locked}
use Rattle.compiled.specs.LockedRun.{OperandLocked, OperandsLocked, OldValueLocked, TaskLocked, OperationLocked, RunLocked, FlowLocked}

-- refused before, or after
bind_says : {A B : Type 0} (x : Allocated A) (f : A → Allocated B) → and_then x f ≡ all_locked → (x ≡ all_locked) ⊎ ((a : A) × (x ≡ allocated a) × (f a ≡ all_locked))
bind_says (allocated a) f h = inr (a, refl, h)
bind_says all_locked f h = inl refl

-- what only hands an answer on refuses nothing itself
bind_only : {A B : Type 0} (x : Allocated A) (f : A → B) → and_then x (λ a. allocated (f a)) ≡ all_locked → x ≡ all_locked
bind_only (allocated a) f h = not_locked (f a) h
bind_only all_locked f h = refl

bind_first : {A B : Type 0} (x : Allocated A) (f : A → Allocated B) → x ≡ all_locked → and_then x f ≡ all_locked
bind_first x f h = rw h

bind_second : {A B : Type 0} (x : Allocated A) (f : A → Allocated B) (a : A) → x ≡ allocated a → f a ≡ all_locked → and_then x f ≡ all_locked
bind_second x f a h k = rw h k

-- ---- an operand

fetch_says : (e : Setting) (rest : List (List ℕ)) (n : ℕ) (locked : List ℕ) (s : State) → fetch e rest n locked s ≡ all_locked → OperandLocked e locked s n
unfolding fetch
fetch_says e rest n locked s h = go (register_of s n) refl h
  where
    go : (r : ℕ) → register_of s n ≡ r → fetch_held e rest n locked s r ≡ all_locked → OperandLocked e locked s n
    go zero q h = (q, (take_locked e rest n locked s).0 (bind_only (take_register e rest n locked s) _ h))
    go (suc r) q h = not_locked _ h

fetch_refuses : (e : Setting) (rest : List (List ℕ)) (n : ℕ) (locked : List ℕ) (s : State) → OperandLocked e locked s n → fetch e rest n locked s ≡ all_locked
unfolding fetch
fetch_refuses e rest n locked s l = rw l.0 (bind_first (take_register e rest n locked s) _ ((take_locked e rest n locked s).1 l.1))

operands_say : (e : Setting) (rest : List (List ℕ)) (ns locked : List ℕ) (s : State) → fetch_all e rest ns locked s ≡ all_locked → OperandsLocked e rest ns locked s
unfolding fetch_all
operands_say e rest [] locked s h = not_locked _ h
operands_say e rest (n ∷ ns) locked s h = go (bind_says (fetch e rest n locked s) _ h) (λ g q. operands_say e rest ns (locked ++ (g.register ∷ [])) g.state q)
  where
    go : (fetch e rest n locked s ≡ all_locked) ⊎
        ((g : Taken) × (fetch e rest n locked s ≡ allocated g) × (fetch_all e rest ns (locked ++ (g.register ∷ [])) g.state ≡ all_locked))
        → ((g : Taken) → fetch_all e rest ns (locked ++ (g.register ∷ [])) g.state ≡ all_locked → OperandsLocked e rest ns (locked ++ (g.register ∷ []))
        g.state)
        → OperandsLocked e rest (n ∷ ns) locked s
    go (inl q) ih = inl (fetch_says e rest n locked s q)
    go (inr q) ih = inr (q.0, q.1, ih q.0 q.2)

operands_refuse : (e : Setting) (rest : List (List ℕ)) (ns locked : List ℕ) (s : State) → OperandsLocked e rest ns locked s → fetch_all e rest ns locked s ≡ all_locked
unfolding fetch_all
operands_refuse e rest [] locked s l = absurd l
operands_refuse e rest (n ∷ ns) locked s (inl l) = bind_first (fetch e rest n locked s) _ (fetch_refuses e rest n locked s l)
operands_refuse e rest (n ∷ ns) locked s (inr l) =
    bind_second (fetch e rest n locked s) _ l.0 l.1 (operands_refuse e rest ns (locked ++ (l.0.register ∷ [])) l.0.state l.2)

-- ---- a result, an old value

result_says : (e : Setting) (rest : List (List ℕ)) (n : ℕ) (locked : List ℕ) (s : State) (d : ℕ) → result_register e rest n locked s d ≡ all_locked
    → (d ≡ 0) × EveryLocked e locked s
result_says e rest n locked s zero h = (refl, (take_locked e rest n locked s).0 h)
result_says e rest n locked s (suc d) h = not_locked _ h

result_refuses : (e : Setting) (rest : List (List ℕ)) (n : ℕ) (locked : List ℕ) (s : State) (d : ℕ) → (d ≡ 0) × EveryLocked e locked s
    → result_register e rest n locked s d ≡ all_locked
result_refuses e rest n locked s d l = rw l.0 ((take_locked e rest n locked s).1 l.1)

old_says : (e : Setting) (rest : List (List ℕ)) (locked : List ℕ) (s : State) (h : ℕ) → preserve e rest locked s h ≡ all_locked → OldValueLocked e rest locked s h
old_says e rest locked s zero q = not_locked _ q
old_says e rest locked s (suc n) q = go (is_fresh s n && read_later rest n) refl q
  where
    go : (b : Bool) → (is_fresh s n && read_later rest n) ≡ b → preserve_if b e rest n locked s ≡ all_locked → OldValueLocked e rest locked s (suc n)
    go false t q = not_locked _ q
    go true t q = (rw t tt, fetch_says e rest n locked s (bind_only (fetch e rest n locked s) _ q))

old_refuses : (e : Setting) (rest : List (List ℕ)) (locked : List ℕ) (s : State) (h : ℕ) → OldValueLocked e rest locked s h → preserve e rest locked s h ≡ all_locked
old_refuses e rest locked s zero l = absurd l
old_refuses e rest locked s (suc n) l =
    rw (is_true (is_fresh s n && read_later rest n) l.0) (bind_first (fetch e rest n locked s) _ (fetch_refuses e rest n locked s l.1))

-- ---- an operation

task_says : (e : Setting) (rest : List (List ℕ)) (reads : List ℕ) (o : Task) (g : TakenAll) → run_task e rest reads o g ≡ all_locked → TaskLocked e rest reads o g
unfolding run_task run_compute run_keep run_store
task_says e rest reads (compute_task n) g h =
    let d : ℕ = first_of (λ d. not (read_later rest d)) reads in
    result_says e rest n g.registers g.state d (bind_only (result_register e rest n g.registers g.state d) _ h)
task_says e rest reads (keep_task k v) g h = not_locked _ h
task_says e rest reads (store_task c i v) g h =
    let d : ℕ = home_of e.origins (home_code c) i in
    old_says e rest g.registers g.state d (bind_only (preserve e rest g.registers g.state d) _ h)

task_refuses : (e : Setting) (rest : List (List ℕ)) (reads : List ℕ) (o : Task) (g : TakenAll) → TaskLocked e rest reads o g → run_task e rest reads o g ≡ all_locked
unfolding run_task run_compute run_keep run_store
task_refuses e rest reads (compute_task n) g l =
    bind_first (result_register e rest n g.registers g.state (first_of (λ d. not (read_later rest d)) reads)) _
    (result_refuses e rest n g.registers g.state (first_of (λ d. not (read_later rest d)) reads) l)
task_refuses e rest reads (keep_task k v) g l = absurd l
task_refuses e rest reads (store_task c i v) g l =
    bind_first (preserve e rest g.registers g.state (home_of e.origins (home_code c) i)) _
    (old_refuses e rest g.registers g.state (home_of e.origins (home_code c) i) l)

operation_says : (e : Setting) (rest : List (List ℕ)) (reads : List ℕ) (o : Task) (s : State) → allocate_task e rest reads o s ≡ all_locked
    → OperationLocked e rest reads o s
unfolding allocate_task
operation_says e rest reads o s h = go (bind_says (fetch_all e (reads ∷ rest) reads [] s) _ h)
  where
    go : (fetch_all e (reads ∷ rest) reads [] s ≡ all_locked) ⊎
        ((g : TakenAll) × (fetch_all e (reads ∷ rest) reads [] s ≡ allocated g) × (run_task e rest reads o g ≡ all_locked))
        → OperationLocked e rest reads o s
    go (inl q) = inl (operands_say e (reads ∷ rest) reads [] s q)
    go (inr q) = inr (q.0, q.1, task_says e rest reads o q.0 q.2)

operation_refuses : (e : Setting) (rest : List (List ℕ)) (reads : List ℕ) (o : Task) (s : State) → OperationLocked e rest reads o s
    → allocate_task e rest reads o s ≡ all_locked
unfolding allocate_task
operation_refuses e rest reads o s (inl l) = bind_first (fetch_all e (reads ∷ rest) reads [] s) _ (operands_refuse e (reads ∷ rest) reads [] s l)
operation_refuses e rest reads o s (inr l) = bind_second (fetch_all e (reads ∷ rest) reads [] s) _ l.0 l.1 (task_refuses e rest reads o l.0 l.2)

-- ---- a phase

run_says : (e : Setting) (os : List Task) (s : State) → allocate e os s ≡ all_locked → RunLocked e os s
unfolding allocate
run_says e [] s h = not_locked _ h
run_says e (o ∷ os) s h = go (bind_says (allocate_task e (reads_of e os) reads o s) _ h) (λ s' q. run_says e os s' q)
  where
    reads : List ℕ
    reads = task_reads e.nodes e.origins o

    go : (allocate_task e (reads_of e os) reads o s ≡ all_locked) ⊎
        ((s' : State) × (allocate_task e (reads_of e os) reads o s ≡ allocated s') × (allocate e os s' ≡ all_locked))
        → ((s' : State) → allocate e os s' ≡ all_locked → RunLocked e os s') → RunLocked e (o ∷ os) s
    go (inl q) ih = inl (operation_says e (reads_of e os) reads o s q)
    go (inr q) ih = inr (q.0, q.1, ih q.0 q.2)

run_refuses : (e : Setting) (os : List Task) (s : State) → RunLocked e os s → allocate e os s ≡ all_locked
unfolding allocate
run_refuses e [] s l = absurd l
run_refuses e (o ∷ os) s (inl l) =
    bind_first (allocate_task e (reads_of e os) (task_reads e.nodes e.origins o) o s) _
    (operation_refuses e (reads_of e os) (task_reads e.nodes e.origins o) o s l)
run_refuses e (o ∷ os) s (inr l) =
    bind_second (allocate_task e (reads_of e os) (task_reads e.nodes e.origins o) o s) _ l.0 l.1 (run_refuses e os l.0 l.2)

pub run_locked : (e : Setting) (os : List Task) (s : State) → allocate e os s ≡ all_locked ↔ RunLocked e os s
run_locked e os s = (run_says e os s, run_refuses e os s)

-- ---- compile

flow_says : (f : Flow) (mask : ℕ) → compile_flow f mask ≡ all_locked → FlowLocked f mask
unfolding compile_flow compile_plan
flow_says f mask h = go (bind_says control _ h)
  where
    control : Allocated State
    control = allocate (control_setting f (plan_of f) mask) (plan_of f).control_tasks (begin (control_setting f (plan_of f) mask))

    sample : Allocated State
    sample = allocate (sample_setting f (plan_of f) mask) (plan_of f).sample_tasks (begin (sample_setting f (plan_of f) mask))

    go : (control ≡ all_locked) ⊎ ((c : State) × (control ≡ allocated c) × (and_then sample (λ s. allocated (draft_of c s)) ≡ all_locked)) → FlowLocked f mask
    go (inl q) = inl (run_says (control_setting f (plan_of f) mask) (plan_of f).control_tasks (begin (control_setting f (plan_of f) mask)) q)
    go (inr q) =
        inr (
          q.0,
          q.1,
          run_says (sample_setting f (plan_of f) mask) (plan_of f).sample_tasks (begin (sample_setting f (plan_of f) mask))
              (bind_only sample (draft_of q.0) q.2),
        )

flow_refuses : (f : Flow) (mask : ℕ) → FlowLocked f mask → compile_flow f mask ≡ all_locked
unfolding compile_flow compile_plan
flow_refuses f mask (inl l) =
    bind_first _ _ (run_refuses (control_setting f (plan_of f) mask) (plan_of f).control_tasks (begin (control_setting f (plan_of f) mask)) l)
flow_refuses f mask (inr l) =
    bind_second _ _ l.0 l.1
    (bind_first _ _ (run_refuses (sample_setting f (plan_of f) mask) (plan_of f).sample_tasks (begin (sample_setting f (plan_of f) mask)) l.2))

-- THERE IS NO KERNEL exactly when an operation needs a register and every usable one is locked
pub locked_exactly : (graph : Graph) (mask : ℕ) → compile graph mask ≡ all_locked ↔ FlowLocked (flow_of graph) mask
unfolding compile
locked_exactly graph mask = (
  λ h. flow_says (flow_of graph) mask (bind_only (compile_flow (flow_of graph) mask) compiled_of h),
  λ l. bind_first (compile_flow (flow_of graph) mask) _ (flow_refuses (flow_of graph) mask l),
)
