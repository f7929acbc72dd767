-- An operation's instruction: the class that the checker finds for it, its registers, its destination. Assumes nothing.
use Rattle.std.specs.Prelude.{◌≡◌, refl, Bool, true, false, cond, ℕ, zero, suc, ◌<◌, eqb}
use Rattle.std.proofs.Common.{arith}
use Rattle.tables.specs.Tests.{◌&◌}
use Rattle.expand.specs.Graph.{Graph}
use Rattle.kernel.specs.declared.Instruction.{Instruction}
use Rattle.kernel.specs.declared.Instruction.TheVariants.{Add, Sub, Mul, Min, Max, Neg, Abs, IntegerSub}
use Rattle.kernel.specs.Instructions as Instructions
use Rattle.kernel.specs.RoundTrips.{InRegisters}
use Rattle.checker.specs.Walk.{Held, register, in_mask, instruction_in_mask, computed_class, result_of_two, result_of_one}
use Rattle.allocate.specs.Actions.{Operation, load_immediate, binary, unary, binary_instruction, unary_instruction, instruction_of, destination}
use Rattle.compiled.specs.Codes.{binary_code, unary_code}

-- ---- what a filled result says of its operands

pub two_filled : (g : Graph) (c x y class : ℕ) → result_of_two g c x y ≡ suc class → (i : ℕ) × (j : ℕ) × (x ≡ suc i) × (y ≡ suc j)
unfolding result_of_two
two_filled g c zero y class e = absurd (omega arith)
two_filled g c (suc x) zero class e = absurd (omega arith)
two_filled g c (suc x) (suc y) class e = (x, y, refl, refl)

pub one_filled : (g : Graph) (c x class : ℕ) → result_of_one g c x ≡ suc class → (i : ℕ) × (x ≡ suc i)
unfolding result_of_one
one_filled g c zero class e = absurd (omega arith)
one_filled g c (suc x) class e = (x, refl)

-- ---- whatever is true of each of the six binary instructions, with its node's code, is true of an operation's
binary_cases : (P : Instruction → ℕ → Type 0) (c d x y : ℕ) → P (Add d x y) 5 → P (Sub d x y) 6 → P (Mul d x y) 7 → P (Min d x y) 8 → P (Max d x y) 9
    → P (IntegerSub d x y) 10 → P (binary_instruction c d x y) (binary_code c)
binary_cases P c d x y add sub mul min max integerSub = go (eqb c 5) (eqb c 6) (eqb c 7) (eqb c 8) (eqb c 9)
  where
    go : (a b e f h : Bool) → P (cond a (Add d x y) (cond b (Sub d x y) (cond e (Mul d x y) (cond f (Min d x y) (cond h (Max d x y) (IntegerSub d x y))))))
        (cond a 5 (cond b 6 (cond e 7 (cond f 8 (cond h 9 10)))))
    go true b e f h = add
    go false true e f h = sub
    go false false true f h = mul
    go false false false true h = min
    go false false false false true = max
    go false false false false false = integerSub

unary_cases : (P : Instruction → ℕ → Type 0) (c d x : ℕ) → P (Neg d x) 12 → P (Abs d x) 13 → P (unary_instruction c d x) (unary_code c)
unary_cases P c d x neg abs = go (eqb c 12)
  where
    go : (a : Bool) → P (cond a (Neg d x) (Abs d x)) (cond a 12 13)
    go true = neg
    go false = abs

pub binary_class : (g : Graph) (h : Held) (c d x y : ℕ) → computed_class g h (binary_instruction c d x y) ≡ result_of_two g (binary_code c) (register h x) (register h y)
binary_class g h c d x y =
    binary_cases (λ instruction code. computed_class g h instruction ≡ result_of_two g code (register h x) (register h y)) c d x y refl refl refl refl refl refl

pub unary_class : (g : Graph) (h : Held) (c d x : ℕ) → computed_class g h (unary_instruction c d x) ≡ result_of_one g (unary_code c) (register h x)
unary_class g h c d x = unary_cases (λ instruction code. computed_class g h instruction ≡ result_of_one g code (register h x)) c d x refl refl

pub binary_mask : (mask c d x y : ℕ) → instruction_in_mask mask (binary_instruction c d x y) ≡ (in_mask mask d & in_mask mask x & in_mask mask y)
binary_mask mask c d x y =
    binary_cases (λ instruction code. instruction_in_mask mask instruction ≡ (in_mask mask d & in_mask mask x & in_mask mask y)) c d x y refl refl refl refl refl refl

pub unary_mask : (mask c d x : ℕ) → instruction_in_mask mask (unary_instruction c d x) ≡ (in_mask mask d & in_mask mask x)
unary_mask mask c d x = unary_cases (λ instruction code. instruction_in_mask mask instruction ≡ (in_mask mask d & in_mask mask x)) c d x refl refl

pub same_destination : (operation : Operation) → Instructions.destination (instruction_of operation) ≡ destination operation
same_destination (load_immediate bits dst) = refl
same_destination (binary code dst lhs rhs) =
    binary_cases (λ instruction c. Instructions.destination instruction ≡ dst) code dst lhs rhs refl refl refl refl refl refl
same_destination (unary code dst src) = unary_cases (λ instruction c. Instructions.destination instruction ≡ dst) code dst src refl refl

-- ---- an operation's registers are r0 to r15

abbrev pub OperationSmall : Operation → Type 0
OperationSmall (load_immediate bits dst) = dst < 16
OperationSmall (binary code dst lhs rhs) = (dst < 16) × (lhs < 16) × (rhs < 16)
OperationSmall (unary code dst src) = (dst < 16) × (src < 16)

pub operation_registers : (operation : Operation) → OperationSmall operation → InRegisters (instruction_of operation)
operation_registers (load_immediate bits dst) h = h
operation_registers (binary code dst lhs rhs) h = binary_cases (λ instruction c. InRegisters instruction) code dst lhs rhs h h h h h h
operation_registers (unary code dst src) h = unary_cases (λ instruction c. InRegisters instruction) code dst src h h
