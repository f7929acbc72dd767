-- How each phase ends, as the code has it: refused as the definition is, or with the definition's state in the tables. Definitions alone.
use Rattle.std.specs.Prelude.{◌≡◌, true, false, List, ◌++◌, ℕ, ◌+◌, ◌-◌, ◌*◌, ◌≤◌, ◌<◌, max, length, get_or}
use Rattle.plan.specs.declared.Flow as Lending
use Rattle.plan.specs.declared.Sizes.{Sizes}
use Rattle.plan.specs.Nodes.{Flow}
use Rattle.plan.specs.Schedule.{plan_of}
use Rattle.plan.specs.Layout as Plan
use Rattle.plan.specs.Layout.{Updates, needed_at, slots_at}
use Rattle.plan.specs.Regions.{Region, flags}
use Rattle.plan.specs.ControlShare.{needed_of}
use Rattle.allocate.specs.declared.Allocator.{Allocator}
use Rattle.allocate.specs.Tasks.{Ended}
use Rattle.allocate.specs.State.{Allocated, allocated, all_locked, State, begin}
use Rattle.allocate.specs.Allocator.{allocate}
use Rattle.allocate.specs.Holds.{Written}
use Rattle.compile.specs.declared.Compiled.{Compiled}
use Rattle.compile.specs.Draft.{Draft, control_setting, compile_flow}
use Rattle.compile.specs.Call.{most_steps}

-- ---- what both phases are lent

-- good nodes, updates and an output among them, and tables with room; the last three are lengths
pub record Lent (sizes : Sizes) (nodes updates stores : List ℕ) (output work steps instructions : ℕ) : Type 0 where
  pub plain : Plan.Lent sizes nodes work
  pub held : Updates sizes updates
  pub lines : Updates sizes stores
  pub states : length updates ≡ sizes.states
  pub delays : length stores ≡ sizes.delays
  pub inside : output < sizes.nodes
  pub listed : 2 * most_steps sizes.nodes (sizes.states + sizes.delays) ≤ steps
  pub coded : 2 * most_steps sizes.nodes (sizes.states + sizes.delays) ≤ instructions

-- .. before the first of them, in a work table of zeros
pub record Begun (sizes : Sizes) (nodes updates stores : List ℕ) (output : ℕ) (work steps instructions : List ℕ) : Type 0 where
  pub lent : Lent sizes nodes updates stores output (length work) (length steps) (length instructions)
  pub clear : (j : ℕ) → get_or work j 0 ≡ 0

-- the same, of a flow that is lent as a struct
abbrev pub IsLent : Lending.Flow → ℕ → ℕ → ℕ → Type 0
IsLent f work steps instructions = Lent f.sizes f.nodes.now f.updates.now f.stores.now f.output work steps instructions

abbrev pub IsBegun : Lending.Flow → List ℕ → List ℕ → List ℕ → Type 0
IsBegun f work steps instructions = Begun f.sizes f.nodes.now f.updates.now f.stores.now f.output work steps instructions

-- ---- the control phase

-- what the definition gives
abbrev pub control_run : Flow → ℕ → Allocated State
control_run flow mask =
    allocate (control_setting flow (plan_of flow) mask) (plan_of flow).control_tasks (begin (control_setting flow (plan_of flow) mask))

-- it is done: the plan of both phases stands in the work table, and its steps and instructions in tables that were lent as `table` and `program`
pub record ControlDone (sizes : Sizes) (flow : Flow) (mask : ℕ) (table program work steps instructions : List ℕ) (a : Allocator) : Type 0 where
  pub state : State
  pub gives : control_run flow mask ≡ allocated state
  pub slots : a.slots ≡ state.slots
  pub most : a.most ≡ state.most
  pub written : Written table program state.steps steps instructions a.steps a.instructions
  pub needed : Region (needed_at sizes) (flags (needed_of flow)) work
  pub slotted : Region (slots_at sizes) (plan_of flow).slots work

-- done, or refused as the definition is
abbrev pub ControlEnds : Sizes → Flow → ℕ → List ℕ → List ℕ → List ℕ → List ℕ → List ℕ → Ended → Type 0
ControlEnds sizes flow mask table program work steps instructions r =
    (r.done ≡ true → ControlDone sizes flow mask table program work steps instructions r.allocator) × (r.done ≡ false → compile_flow flow mask ≡ all_locked)

-- done, in tables lent as any two
pub record ControlLeft (sizes : Sizes) (flow : Flow) (mask : ℕ) (work steps instructions : List ℕ) (a : Allocator) : Type 0 where
  pub table : List ℕ
  pub program : List ℕ
  pub done : ControlDone sizes flow mask table program work steps instructions a

-- ---- the sample phase

-- both are done
pub record BothDone (flow : Flow) (mask : ℕ) (table program : List ℕ) (before : Allocator) (steps instructions : List ℕ) (after : Allocator) : Type 0 where
  pub draft : Draft
  pub gives : compile_flow flow mask ≡ allocated draft
  pub control : before.steps ≡ length draft.control_steps
  pub slots : before.slots ≡ draft.control_slots
  pub spills : after.slots ≡ draft.spill_slots
  pub most : max before.most after.most ≡ draft.most
  pub written : Written table program (draft.control_steps ++ draft.sample_steps) steps instructions after.steps after.instructions

-- .. whatever the tables were lent as, where the control phase left `work₀`, `steps₀` and `instructions₀`
abbrev pub SampleDone : Sizes → Flow → ℕ → List ℕ → List ℕ → List ℕ → Allocator → List ℕ → List ℕ → Allocator → Type 0
SampleDone sizes flow mask work₀ steps₀ instructions₀ before steps instructions after =
    (table program : List ℕ) → ControlDone sizes flow mask table program work₀ steps₀ instructions₀ before → BothDone flow mask table program before steps instructions after

-- done, or refused as the definition is, where the control phase left `steps₀` and `instructions₀`
abbrev pub SampleEnds : Sizes → Flow → ℕ → List ℕ → List ℕ → List ℕ → Allocator → List ℕ → List ℕ → Ended → Type 0
SampleEnds sizes flow mask work₀ steps₀ instructions₀ before steps instructions r =
    (table program : List ℕ) → ControlDone sizes flow mask table program work₀ steps₀ instructions₀ before
    → (r.done ≡ true → BothDone flow mask table program before steps instructions r.allocator) × (r.done ≡ false → compile_flow flow mask ≡ all_locked)

-- ---- the counts

-- the steps of both phases, and the instructions, are counted by words
abbrev pub Ends : Allocator → Allocator → Type 0
Ends before after = (before.steps ≤ after.steps) × ((after.steps < 4294967296) × (after.instructions < 4294967296))

-- the kernel's counts and the most registers held
unfoldable pub counted_of : Allocator → Allocator → Compiled
counted_of before after =
    record {
      kernel =
          record {
            control = before.steps;
            sample = after.steps - before.steps;
            instructions = after.instructions;
            slots = before.slots;
            spills = after.slots;
          };
      registers = max before.most after.most;
    }
