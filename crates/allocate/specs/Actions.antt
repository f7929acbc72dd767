-- What the allocator emits: a step with its instruction in place of its number. Definitions alone.
use Rattle.std.specs.Prelude.{cond, ℕ, eqb}
use Rattle.kernel.specs.declared.Source.{Source}
use Rattle.kernel.specs.declared.Instruction.{Instruction}
use Rattle.kernel.specs.declared.Instruction.TheVariants.{Immediate, Add, Sub, Mul, Min, Max, Neg, Abs, IntegerSub}

-- an instruction by its node's code, with destination and operands; it is `instruction_of` it that the table holds
pub data Operation : Type 0 where
  -- bits, destination
  load_immediate : ℕ → ℕ → Operation
  -- code 5 add, 6 sub, 7 mul, 8 min, 9 max, 10 sub_bits; destination, first, second
  binary : ℕ → ℕ → ℕ → ℕ → Operation
  -- code 12 neg, 13 abs; destination, operand
  unary : ℕ → ℕ → ℕ → Operation

-- codegen.rs: `lower`, of a binary node's code
abbrev pub binary_instruction : ℕ → ℕ → ℕ → ℕ → Instruction
binary_instruction code dst lhs rhs =
    cond (eqb code 5) (Add dst lhs rhs)
    (cond (eqb code 6) (Sub dst lhs rhs)
    (cond (eqb code 7) (Mul dst lhs rhs)
    (cond (eqb code 8) (Min dst lhs rhs)
    (cond (eqb code 9) (Max dst lhs rhs) (IntegerSub dst lhs rhs)))))

-- .. and of a unary node's
abbrev pub unary_instruction : ℕ → ℕ → ℕ → Instruction
unary_instruction code dst src = cond (eqb code 12) (Neg dst src) (Abs dst src)

-- the instruction of the kernel's table
abbrev pub instruction_of : Operation → Instruction
instruction_of (load_immediate bits dst) = Immediate dst bits
instruction_of (binary code dst lhs rhs) = binary_instruction code dst lhs rhs
instruction_of (unary code dst src) = unary_instruction code dst src

-- the register that an operation fills
abbrev pub destination : Operation → ℕ
destination (load_immediate bits dst) = dst
destination (binary code dst lhs rhs) = dst
destination (unary code dst src) = dst

-- codegen.rs: `Step`, with the instruction that a compute runs instead of its number; the last word is the register
pub data Action : Type 0 where
  load : Source → ℕ → Action
  compute : Operation → Action
  spill : ℕ → ℕ → Action
  reload : ℕ → ℕ → Action
  store_state : ℕ → ℕ → Action
  store_delay : ℕ → ℕ → Action
  store_output : ℕ → Action
  store_control : ℕ → ℕ → Action

-- the source of a load's code (1 to 6) and index
unfoldable pub source_of : ℕ → ℕ → Source
source_of code index =
    cond (eqb code 1) Source.Audio
    (cond (eqb code 2) Source.Network
    (cond (eqb code 3) (Source.Parameter index)
    (cond (eqb code 4) (Source.State index) (cond (eqb code 5) (Source.Delay index) (Source.Control index)))))

-- the load of a code and index
unfoldable pub load_action : ℕ → ℕ → ℕ → Action
load_action code index register = load (source_of code index) register

-- the store of a code (10 state, 11 delay, 12 output) and index
unfoldable pub store_action : ℕ → ℕ → ℕ → Action
store_action code index register =
    cond (eqb code 10) (store_state index register) (cond (eqb code 11) (store_delay index register) (store_output register))
