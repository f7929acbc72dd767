-- Compile of a block that is expanded, as the code has it, and what zeroing leaves. Definitions alone.
use Rattle.std.specs.Prelude.{Result, Ok, Err, ◌≡◌, List, ℕ, ◌+◌, ◌-◌, ◌*◌, ◌/◌, ◌≤◌, ◌<◌, length, get_or, take}
use Rattle.std.proofs.lemmas.List.Edits.{sets}
use Rattle.tables.specs.Zeros.{zeros, zeroed}
use Rattle.answers.specs.declared.Refusal.{Refusal}
use Rattle.answers.specs.declared.Refusal.TheVariants.{RegistersLocked}
use Rattle.plan.specs.declared.Sizes.{Sizes}
use Rattle.plan.specs.Nodes.{Flow}
use Rattle.plan.specs.ControlShare.{flow_in}
use Rattle.allocate.specs.State.{Allocated, allocated, all_locked, and_then}
use Rattle.compile.specs.Call.{Done}
use Rattle.compile.specs.Draft.{compile_flow}
use Rattle.compile.specs.Words.{Compiled, compiled_of}
use Rattle.expand.specs.Updates.{mapped_updates, Mappable}
use Rattle.compile.specs.Phases.{Lent}

-- the kernel, or 14
unfoldable pub flow_compiled : Flow → ℕ → Allocated Compiled
flow_compiled flow mask = and_then (compile_flow flow mask) (λ draft. allocated (compiled_of draft))

-- the answer of both phases, and in tables lent as `table` and `program` the kernel's words; 14 leaves any words
abbrev pub PhasesLeave : Allocated Compiled → List ℕ → List ℕ → Result Done Refusal → List ℕ → List ℕ → Type 0
PhasesLeave (allocated c) table program r steps instructions =
    (r ≡ Ok (record { kernel = c.kernel; registers = c.registers }))
    × ((steps ≡ sets table 0 c.steps) × (instructions ≡ sets program 0 c.instructions))
PhasesLeave all_locked table program r steps instructions = r ≡ Err RegistersLocked

-- ---- from the lent tables

-- the counts of expanded nodes, states and delays
abbrev pub sizes_from : ℕ → List ℕ → List ℕ → Sizes
sizes_from count states delays = record { nodes = count; states = length states / 2; delays = length delays / 2 }

-- the expanded block, by the map that the work table begins with
abbrev pub mapped_flow : ℕ → ℕ → List ℕ → List ℕ → List ℕ → List ℕ → Flow
mapped_flow count last states delays expansion map =
    flow_in (sizes_from count states delays) (take (3 * count) expansion) (mapped_updates map states) (mapped_updates map delays) (get_or map last 0)

-- what it is lent
pub record Mapped (count last : ℕ) (states delays expansion steps instructions map : List ℕ) : Type 0 where
  pub held : Mappable map states
  pub lines : Mappable map delays
  pub inside : last < length map
  pub room : 3 * count ≤ length expansion
  pub lent :
      Lent (sizes_from count states delays) (take (3 * count) expansion) (mapped_updates map states) (mapped_updates map delays) (get_or map last 0)
      (length map) (length steps) (length instructions)

-- ---- zeros behind a kernel

-- how many words its steps have; a refusal leaves none
unfoldable pub step_end : Result Done Refusal → ℕ
step_end (Ok c) = 2 * (c.kernel.control + c.kernel.sample)
step_end (Err r) = 0

-- how many its instructions have
unfoldable pub instruction_end : Result Done Refusal → ℕ
instruction_end (Ok c) = 2 * c.kernel.instructions
instruction_end (Err r) = 0

-- zeros behind both, and in the work table
abbrev pub Cleared : Result Done Refusal → List ℕ → List ℕ → List ℕ → List ℕ → List ℕ → List ℕ → Type 0
Cleared c steps₀ instructions₀ work₀ steps instructions work =
    (steps ≡ zeroed (step_end c) (length steps₀ - step_end c) steps₀)
    × ((instructions ≡ zeroed (instruction_end c) (length instructions₀ - instruction_end c) instructions₀) × (work ≡ zeros (length work₀)))
