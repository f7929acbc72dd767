-- A draft as the words of two tables and five counts; each action's words are those of allocate/specs/ActionWords. Definitions alone.
use Rattle.std.specs.Prelude.{List, ◌++◌, ℕ, length}
use Rattle.kernel.specs.declared.Kernel.{Kernel}
use Rattle.allocate.specs.Actions.{Action}
use Rattle.allocate.specs.ActionWords.{operations_in, step_words, instruction_words}
use Rattle.compile.specs.Draft.{Draft}

-- "a step table (control, then sample), an instruction table and five counts", and "the most registers held at once over both phases"
pub record Compiled : Type 0 where
  pub steps : List ℕ
  pub instructions : List ℕ
  pub kernel : Kernel
  pub registers : ℕ

-- a draft, written
unfoldable pub compiled_of : Draft → Compiled
compiled_of draft =
    let actions : List Action = draft.control_steps ++ draft.sample_steps in
    record {
      steps = step_words 0 actions;
      instructions = instruction_words (operations_in actions);
      kernel =
          record {
            control = length draft.control_steps;
            sample = length draft.sample_steps;
            instructions = length (operations_in actions);
            slots = draft.control_slots;
            spills = draft.spill_slots;
          };
      registers = draft.most;
    }
