-- The allocator's actions as the words of two tables: each compute gets the number of its instruction; and what one more action adds.
use Rattle.std.specs.Prelude.{◌≡◌, refl, List, [], ◌∷◌, ◌++◌, ℕ, ◌+◌, ◌*◌, length}
use Rattle.std.proofs.Common.{sym, append_assoc, arith, length-append}
use Rattle.kernel.specs.declared.Step.{Step}
use Rattle.kernel.specs.declared.Step.TheVariants.{Load, Compute, Spill, Reload, StoreState, StoreDelay, StoreOutput, StoreControl}
use Rattle.kernel.specs.Steps.{step_word, step_index}
use Rattle.kernel.specs.Instructions.{instruction_word, instruction_immediate}
use Rattle.allocate.specs.Actions.{Operation, Action, load, compute, spill, reload, store_state, store_delay, store_output, store_control, instruction_of}

-- an action as a step; `number` is the next instruction's
abbrev pub step_of : ℕ → Action → Step
step_of number (load source register) = Load source register
step_of number (compute operation) = Compute number
step_of number (spill slot register) = Spill slot register
step_of number (reload slot register) = Reload slot register
step_of number (store_state state register) = StoreState state register
step_of number (store_delay delay register) = StoreDelay delay register
step_of number (store_output register) = StoreOutput register
step_of number (store_control slot register) = StoreControl slot register

-- codegen.rs: `program.push`: each compute has an instruction of its own
abbrev pub operation_in : Action → List Operation
operation_in (load source register) = []
operation_in (compute operation) = operation ∷ []
operation_in (spill slot register) = []
operation_in (reload slot register) = []
operation_in (store_state state register) = []
operation_in (store_delay delay register) = []
operation_in (store_output register) = []
operation_in (store_control slot register) = []

-- the program: the operations of all actions, in order
abbrev pub operations_in : List Action → List Operation
operations_in [] = []
operations_in (action ∷ actions) = operation_in action ++ operations_in actions

-- "A step is two words"
abbrev pub step_words : ℕ → List Action → List ℕ
step_words number [] = []
step_words number (action ∷ actions) =
    step_word (step_of number action) ∷ step_index (step_of number action) ∷ step_words (number + length (operation_in action)) actions

-- "An instruction is two words"
abbrev pub instruction_words : List Operation → List ℕ
instruction_words [] = []
instruction_words (operation ∷ operations) =
    instruction_word (instruction_of operation) ∷ instruction_immediate (instruction_of operation) ∷ instruction_words operations

-- ---- one list behind another

-- the operations of two lists
pub operations_append : (xs ys : List Action) → operations_in (xs ++ ys) ≡ operations_in xs ++ operations_in ys
operations_append [] ys = refl
operations_append (x ∷ xs) ys = rw (operations_append xs ys) (sym (append_assoc (operation_in x) (operations_in xs) (operations_in ys)))

-- .. their instructions' words
pub instructions_append : (xs ys : List Operation) → instruction_words (xs ++ ys) ≡ instruction_words xs ++ instruction_words ys
instructions_append [] ys = refl
instructions_append (x ∷ xs) ys = rw (instructions_append xs ys)

-- .. their steps' words
pub steps_append : (k : ℕ) (xs ys : List Action) → step_words k (xs ++ ys) ≡ step_words k xs ++ step_words (k + length (operations_in xs)) ys
steps_append k [] ys = let z : k + 0 ≡ k = omega arith in rw z
steps_append k (x ∷ xs) ys =
    let z : (k + length (operation_in x)) + length (operations_in xs) ≡ k + length (operation_in x ++ operations_in xs) = omega (arith, length-append (operation_in x) (operations_in xs)) in
    rw (steps_append (k + length (operation_in x)) xs ys, z)

-- ---- two words each

pub steps_length : (k : ℕ) (xs : List Action) → length (step_words k xs) ≡ 2 * length xs
steps_length k [] = refl
steps_length k (x ∷ xs) = omega (arith, steps_length (k + length (operation_in x)) xs)

pub instructions_length : (xs : List Operation) → length (instruction_words xs) ≡ 2 * length xs
instructions_length [] = refl
instructions_length (x ∷ xs) = omega (arith, instructions_length xs)
