-- An instruction and its two words: "code×4096+dst×256+lhs×16+rhs, immediate". Definitions alone.
use Rattle.std.specs.Prelude.{Bool, cond, ◌&&◌, List, ℕ, ◌+◌, ◌*◌, ◌/◌, ◌%◌, eqb, get_or, Option, Some, None}
use Rattle.kernel.specs.declared.Instruction.{Instruction}
use Rattle.kernel.specs.declared.Instruction.TheVariants.{Immediate, Add, Sub, Mul, Min, Max, Neg, Abs, IntegerSub}

-- a word of four parts, each register below 16
abbrev pub packed : ℕ → ℕ → ℕ → ℕ → ℕ
packed code dst lhs rhs = code * 4096 + dst % 16 * 256 + lhs % 16 * 16 + rhs % 16

-- "Codes from 1: imm, add, sub, mul, min, max, neg, abs, isub (integer sub). Unused parts are 0"
abbrev pub instruction_word : Instruction → ℕ
instruction_word (Immediate dst value) = packed 1 dst 0 0
instruction_word (Add dst lhs rhs) = packed 2 dst lhs rhs
instruction_word (Sub dst lhs rhs) = packed 3 dst lhs rhs
instruction_word (Mul dst lhs rhs) = packed 4 dst lhs rhs
instruction_word (Min dst lhs rhs) = packed 5 dst lhs rhs
instruction_word (Max dst lhs rhs) = packed 6 dst lhs rhs
instruction_word (Neg dst src) = packed 7 dst src 0
instruction_word (Abs dst src) = packed 8 dst src 0
instruction_word (IntegerSub dst lhs rhs) = packed 9 dst lhs rhs

abbrev pub instruction_immediate : Instruction → ℕ
instruction_immediate (Immediate dst value) = value
instruction_immediate (Add dst lhs rhs) = 0
instruction_immediate (Sub dst lhs rhs) = 0
instruction_immediate (Mul dst lhs rhs) = 0
instruction_immediate (Min dst lhs rhs) = 0
instruction_immediate (Max dst lhs rhs) = 0
instruction_immediate (Neg dst src) = 0
instruction_immediate (Abs dst src) = 0
instruction_immediate (IntegerSub dst lhs rhs) = 0

-- the register that an instruction sets
abbrev pub destination : Instruction → ℕ
destination (Immediate dst value) = dst
destination (Add dst lhs rhs) = dst
destination (Sub dst lhs rhs) = dst
destination (Mul dst lhs rhs) = dst
destination (Min dst lhs rhs) = dst
destination (Max dst lhs rhs) = dst
destination (Neg dst src) = dst
destination (Abs dst src) = dst
destination (IntegerSub dst lhs rhs) = dst

-- an instruction whose unused parts are 0
abbrev pub formed_if : Bool → Instruction → Option Instruction
formed_if unused_zero instruction = cond unused_zero (Some instruction) None

-- the instruction of a code, three registers and an immediate
unfoldable pub instruction_from : ℕ → ℕ → ℕ → ℕ → ℕ → Option Instruction
instruction_from code dst lhs rhs immediate =
    cond (eqb code 1) (formed_if (eqb lhs 0 && eqb rhs 0) (Immediate dst immediate))
    (cond (eqb code 2) (formed_if (eqb immediate 0) (Add dst lhs rhs))
    (cond (eqb code 3) (formed_if (eqb immediate 0) (Sub dst lhs rhs))
    (cond (eqb code 4) (formed_if (eqb immediate 0) (Mul dst lhs rhs))
    (cond (eqb code 5) (formed_if (eqb immediate 0) (Min dst lhs rhs))
    (cond (eqb code 6) (formed_if (eqb immediate 0) (Max dst lhs rhs))
    (cond (eqb code 7) (formed_if (eqb rhs 0 && eqb immediate 0) (Neg dst lhs))
    (cond (eqb code 8) (formed_if (eqb rhs 0 && eqb immediate 0) (Abs dst lhs))
    (cond (eqb code 9) (formed_if (eqb immediate 0) (IntegerSub dst lhs rhs)) None))))))))

unfoldable pub instruction_of : ℕ → ℕ → Option Instruction
instruction_of word immediate = instruction_from (word / 4096) (word / 256 % 16) (word / 16 % 16) (word % 16) immediate

-- the instruction that words are, or another if they are none
abbrev pub instruction_or : Instruction → Option Instruction → Instruction
instruction_or other (Some instruction) = instruction
instruction_or other None = other

-- instruction i of a table
abbrev pub instruction_at : List ℕ → ℕ → Option Instruction
instruction_at instructions i = instruction_of (get_or instructions (2 * i) 0) (get_or instructions (2 * i + 1) 0)
