-- Compile up to the words: both phases' lists of steps (codegen.rs, `compile_with`). Definitions alone.
use Rattle.std.specs.Prelude.{Bool, true, false, List, ℕ, ◌/◌, ◌%◌, ◌^◌, max, eqb}
use Rattle.plan.specs.Lists.{filter, count_up}
use Rattle.plan.specs.Nodes.{Flow}
use Rattle.plan.specs.Schedule.{Plan, plan_of}
use Rattle.allocate.specs.Actions.{Action}
use Rattle.allocate.specs.State.{Allocated, allocated, and_then, Setting, State, begin}
use Rattle.allocate.specs.Allocator.{allocate}

-- "A mask's low sixteen bits count, bit n for rn"
abbrev pub usable_bit : ℕ → ℕ → Bool
usable_bit mask register = eqb (mask / 2 ^ register % 2) 1

-- the usable registers, in ascending order
unfoldable pub usable : ℕ → List ℕ
usable mask = filter (usable_bit mask) (count_up 0 16)

-- codegen.rs: `Phase::Control`: what it spills goes to control slots behind the hoisted values' own
unfoldable pub control_setting : Flow → Plan → ℕ → Setting
control_setting flow plan mask =
    record { nodes = flow.nodes; origins = plan.control_origins; registers = usable mask; in_control = true; fixed = plan.fixed }

-- codegen.rs: `Phase::Sample`
unfoldable pub sample_setting : Flow → Plan → ℕ → Setting
sample_setting flow plan mask =
    record { nodes = flow.nodes; origins = plan.sample_origins; registers = usable mask; in_control = false; fixed = 0 }

-- the kernel before it is written as words (codegen.rs: `Contract`); `most` is "the most registers held at once over both phases"
pub record Draft : Type 0 where
  pub control_steps : List Action
  pub sample_steps : List Action
  pub control_slots : ℕ
  pub spill_slots : ℕ
  pub most : ℕ

-- .. from the states at the end of the two phases
unfoldable pub draft_of : State → State → Draft
draft_of control sample =
    record {
      control_steps = control.steps;
      sample_steps = sample.steps;
      control_slots = control.slots;
      spill_slots = sample.slots;
      most = max control.most sample.most;
    }

-- the second half of codegen.rs: `compile_with`
unfoldable pub compile_plan : Flow → Plan → ℕ → Allocated Draft
compile_plan flow plan mask =
    and_then (allocate (control_setting flow plan mask) plan.control_tasks (begin (control_setting flow plan mask)))
    (λ control. and_then (allocate (sample_setting flow plan mask) plan.sample_tasks (begin (sample_setting flow plan mask)))
    (λ sample. allocated (draft_of control sample)))

-- codegen.rs: `compile_with`
unfoldable pub compile_flow : Flow → ℕ → Allocated Draft
compile_flow flow mask = compile_plan flow (plan_of flow) mask
