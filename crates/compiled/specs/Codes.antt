-- The code of the node that an operation computes, by the operation's own code, and what it is of a node of the graph. Assumes nothing.
use Rattle.std.specs.Prelude.{◌≡◌, refl, Bool, true, false, cond, ℕ, ◌<◌, eqb}
use Rattle.std.proofs.Common.{arith, eqb-true}
use Rattle.std.proofs.Math.Decide.{dec_lt}
use Rattle.tables.specs.Tests.{◌&◌}
use Rattle.tables.specs.Loops.{every, every_true}
use Rattle.block.specs.declared.Kind.{Kind}
use Rattle.block.specs.declared.Kind.TheVariants.{Source, Constant, Parameter, State, Delay, Binary, Divide, Unary, Recip, Tanh, Sigmoid, Unknown}
use Rattle.block.specs.Kinds.{kind_of}
use Rattle.block.specs.KindLaws.{kind_unknown}
use Rattle.classes.specs.Classes.{is_operand}

-- of a binary operation: the compiler's instruction for any code but 5 to 9 is IntegerSub
abbrev pub binary_code : ℕ → ℕ
binary_code c = cond (eqb c 5) 5 (cond (eqb c 6) 6 (cond (eqb c 7) 7 (cond (eqb c 8) 8 (cond (eqb c 9) 9 10))))

-- of a unary one: the instruction for any code but 12 is Abs
abbrev pub unary_code : ℕ → ℕ
unary_code c = cond (eqb c 12) 12 13

-- ---- of a node's code it is that code

abbrev same_code : Kind → ℕ → Bool
same_code Source c = true
same_code Constant c = true
same_code Parameter c = true
same_code State c = true
same_code Delay c = true
same_code Binary c = eqb (binary_code c) c
same_code Divide c = true
same_code Unary c = eqb (unary_code c) c
same_code Recip c = true
same_code Tanh c = true
same_code Sigmoid c = true
same_code Unknown c = true

abbrev listed : ℕ → Bool
listed c = same_code (kind_of c) c

every_code : every listed 18 ≡ true
unfolding every ◌&◌ kind_of
every_code = refl

same_code_lem : (c : ℕ) → same_code (kind_of c) c ≡ true
same_code_lem c = go (dec_lt c 18)
  where
    go : Dec (c < 18) → same_code (kind_of c) c ≡ true
    go (yes h) = every_true listed 18 every_code c h
    go (no h) = rw (kind_unknown c (omega arith) (λ q. omega arith) (λ q. omega arith) (λ q. omega arith) (λ q. omega arith))

-- a binary node's code, and its two operands
pub binary_code_lem : (c : ℕ) → kind_of c ≡ Binary → (binary_code c ≡ c) × (is_operand c 0 ≡ true) × (is_operand c 1 ≡ true)
unfolding is_operand
binary_code_lem c e = (eqb-true (binary_code c) c (rw e at (same_code_lem c)), rw e, rw e)

-- a unary node's code, and its one operand
pub unary_code_lem : (c : ℕ) → kind_of c ≡ Unary → (unary_code c ≡ c) × (is_operand c 0 ≡ true) × (is_operand c 1 ≡ false)
unfolding is_operand
unary_code_lem c e = (eqb-true (unary_code c) c (rw e at (same_code_lem c)), rw e, rw e)
