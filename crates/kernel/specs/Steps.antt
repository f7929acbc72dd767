-- A step and its two words: "code×16+register, index". Definitions alone.
use Rattle.std.specs.Prelude.{Bool, true, false, cond, not, List, ℕ, ◌+◌, ◌*◌, ◌/◌, ◌%◌, eqb, get_or, Option, Some, None}
use Rattle.kernel.specs.declared.Source.{Source}
use Rattle.kernel.specs.declared.Step.{Step}
use Rattle.kernel.specs.declared.Step.TheVariants.{Load, Compute, Spill, Reload, StoreState, StoreDelay, StoreOutput, StoreControl}
use Rattle.kernel.specs.declared.Phase.{Phase}
use Rattle.kernel.specs.declared.Phase.TheVariants.{Control, Sample}

-- "Codes: load 1 audio, 2 network, 3 parameter, 4 state, 5 delay, 6 control; 7 compute, 8 spill, 9 reload; store 10 state, 11 delay, 12 output,
-- 13 control"
abbrev pub source_code : Source → ℕ
source_code Source.Audio = 1
source_code Source.Network = 2
source_code (Source.Parameter index) = 3
source_code (Source.State index) = 4
source_code (Source.Delay index) = 5
source_code (Source.Control slot) = 6

abbrev pub step_code : Step → ℕ
step_code (Load source register) = source_code source
step_code (Compute instruction) = 7
step_code (Spill slot register) = 8
step_code (Reload slot register) = 9
step_code (StoreState state register) = 10
step_code (StoreDelay delay register) = 11
step_code (StoreOutput register) = 12
step_code (StoreControl slot register) = 13

-- "Compute has register 0"
abbrev pub step_register : Step → ℕ
step_register (Load source register) = register
step_register (Compute instruction) = 0
step_register (Spill slot register) = register
step_register (Reload slot register) = register
step_register (StoreState state register) = register
step_register (StoreDelay delay register) = register
step_register (StoreOutput register) = register
step_register (StoreControl slot register) = register

-- "codes 1, 2 and 12 have index 0"
abbrev pub source_index : Source → ℕ
source_index Source.Audio = 0
source_index Source.Network = 0
source_index (Source.Parameter index) = index
source_index (Source.State index) = index
source_index (Source.Delay index) = index
source_index (Source.Control slot) = slot

abbrev pub step_index : Step → ℕ
step_index (Load source register) = source_index source
step_index (Compute instruction) = instruction
step_index (Spill slot register) = slot
step_index (Reload slot register) = slot
step_index (StoreState state register) = state
step_index (StoreDelay delay register) = delay
step_index (StoreOutput register) = 0
step_index (StoreControl slot register) = slot

-- the first word of a step with a register below 16
unfoldable pub step_word : Step → ℕ
step_word step = step_code step * 16 + step_register step % 16

-- a step whose unused part is 0
abbrev pub unused_zero : ℕ → Step → Option Step
unused_zero part step = cond (eqb part 0) (Some step) None

-- the step of a code, a register and an index
unfoldable pub step_from : ℕ → ℕ → ℕ → Option Step
step_from code register index =
    cond (eqb code 1) (unused_zero index (Load Source.Audio register))
    (cond (eqb code 2) (unused_zero index (Load Source.Network register))
    (cond (eqb code 3) (Some (Load (Source.Parameter index) register))
    (cond (eqb code 4) (Some (Load (Source.State index) register))
    (cond (eqb code 5) (Some (Load (Source.Delay index) register))
    (cond (eqb code 6) (Some (Load (Source.Control index) register))
    (cond (eqb code 7) (unused_zero register (Compute index))
    (cond (eqb code 8) (Some (Spill index register))
    (cond (eqb code 9) (Some (Reload index register))
    (cond (eqb code 10) (Some (StoreState index register))
    (cond (eqb code 11) (Some (StoreDelay index register))
    (cond (eqb code 12) (unused_zero index (StoreOutput register))
    (cond (eqb code 13) (Some (StoreControl index register)) None))))))))))))

unfoldable pub step_of : ℕ → ℕ → Option Step
step_of word index = step_from (word / 16) (word % 16) index

-- the step that words are, or another if they are none
abbrev pub step_or : Step → Option Step → Step
step_or other (Some step) = step
step_or other None = other

-- step i of a table
abbrev pub step_at : List ℕ → ℕ → Option Step
step_at steps i = step_of (get_or steps (2 * i) 0) (get_or steps (2 * i + 1) 0)

-- "control has codes 3, 6, 7 and 13 only, sample all but 13"
abbrev pub source_in_control : Source → Bool
source_in_control Source.Audio = false
source_in_control Source.Network = false
source_in_control (Source.Parameter index) = true
source_in_control (Source.State index) = false
source_in_control (Source.Delay index) = false
source_in_control (Source.Control slot) = true

abbrev pub in_control : Step → Bool
in_control (Load source register) = source_in_control source
in_control (Compute instruction) = true
in_control (Spill slot register) = false
in_control (Reload slot register) = false
in_control (StoreState state register) = false
in_control (StoreDelay delay register) = false
in_control (StoreOutput register) = false
in_control (StoreControl slot register) = true

abbrev pub allowed_in : Phase → Step → Bool
allowed_in Control step = in_control step
allowed_in Sample step = not (eqb (step_code step) 13)
