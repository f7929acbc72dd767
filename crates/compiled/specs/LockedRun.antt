-- Answer 14 EXACTLY, of a run and of compile: "an operation needs a register and every usable one is locked". Each `..Locked` below says in which state the
-- operations before have left the allocator, which operation asks, and that every usable register is locked then; proofs/LockedRun has the theorems. Definitions alone.
use Rattle.std.specs.Prelude.{◌≡◌, ◌⊎◌, not, ◌&&◌, List, [], ◌∷◌, ◌++◌, ℕ, zero, suc, T}
use Rattle.plan.specs.Lists.{first_of}
use Rattle.plan.specs.Nodes.{Flow}
use Rattle.plan.specs.Origins.{home_of}
use Rattle.plan.specs.Schedule.{Task, compute_task, keep_task, store_task, task_reads, Plan, plan_of}
use Rattle.allocate.specs.State.{allocated, Setting, State, Taken, TakenAll, register_of, is_fresh, begin}
use Rattle.allocate.specs.Allocator.{fetch, fetch_all, read_later, home_code, allocate_task, reads_of, allocate}
use Rattle.compile.specs.Draft.{control_setting, sample_setting}
use Rattle.compiled.specs.Locked.{EveryLocked}

-- ---- which operations ask for a register

-- an operand that no register holds
abbrev pub OperandLocked : Setting → List ℕ → State → ℕ → Type 0
OperandLocked e locked s n = (register_of s n ≡ 0) × EveryLocked e locked s

-- one of an operation's operands, fetched in order; those before it are locked
abbrev pub OperandsLocked : Setting → List (List ℕ) → List ℕ → List ℕ → State → Type 0
OperandsLocked e rest [] locked s = ⊥
OperandsLocked e rest (n ∷ ns) locked s =
    OperandLocked e locked s n ⊎ ((g : Taken) × (fetch e rest n locked s ≡ allocated g) × OperandsLocked e rest ns (locked ++ (g.register ∷ [])) g.state)

-- a result, where no operand dies
abbrev pub ResultLocked : Setting → List (List ℕ) → List ℕ → TakenAll → Type 0
ResultLocked e rest reads g = (first_of (λ d. not (read_later rest d)) reads ≡ 0) × EveryLocked e g.registers g.state

-- an old value (0, or 1 + its node) that is still to be read when its memory is overwritten
abbrev pub OldValueLocked : Setting → List (List ℕ) → List ℕ → State → ℕ → Type 0
OldValueLocked e rest locked s zero = ⊥
OldValueLocked e rest locked s (suc n) = T (is_fresh s n && read_later rest n) × OperandLocked e locked s n

-- an operation, its operands fetched
abbrev pub TaskLocked : Setting → List (List ℕ) → List ℕ → Task → TakenAll → Type 0
TaskLocked e rest reads (compute_task n) g = ResultLocked e rest reads g
TaskLocked e rest reads (keep_task k v) g = ⊥
TaskLocked e rest reads (store_task c i v) g = OldValueLocked e rest g.registers g.state (home_of e.origins (home_code c) i)

-- an operation
abbrev pub OperationLocked : Setting → List (List ℕ) → List ℕ → Task → State → Type 0
OperationLocked e rest reads o s =
    OperandsLocked e (reads ∷ rest) reads [] s ⊎ ((g : TakenAll) × (fetch_all e (reads ∷ rest) reads [] s ≡ allocated g) × TaskLocked e rest reads o g)

-- one of the operations of a phase, reached without refusal
abbrev pub RunLocked : Setting → List Task → State → Type 0
RunLocked e [] s = ⊥
RunLocked e (o ∷ os) s =
    OperationLocked e (reads_of e os) (task_reads e.nodes e.origins o) o s
    ⊎ ((s' : State) × (allocate_task e (reads_of e os) (task_reads e.nodes e.origins o) o s ≡ allocated s') × RunLocked e os s')

-- one of the control phase, or, the control phase done, one of the sample phase
abbrev pub FlowLocked : Flow → ℕ → Type 0
FlowLocked f mask =
    let p : Plan = plan_of f in
    RunLocked (control_setting f p mask) p.control_tasks (begin (control_setting f p mask))
    ⊎ ((c : State) × (allocate (control_setting f p mask) p.control_tasks (begin (control_setting f p mask)) ≡ allocated c)
    × RunLocked (sample_setting f p mask) p.sample_tasks (begin (sample_setting f p mask)))

-- ---- refusals, handed on
