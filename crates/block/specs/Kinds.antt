-- A node's kind by its code, which of its two words are operands, and how many nodes it expands to. Definitions alone.
use Rattle.std.specs.Prelude.{cond, List, ℕ, ◌+◌, ◌*◌, ltb, eqb}
use Rattle.block.specs.declared.Kind.{Kind}
use Rattle.block.specs.declared.Kind.TheVariants.{Source, Constant, Parameter, State, Delay, Binary, Divide, Unary, Recip, Tanh, Sigmoid, Unknown}
use Rattle.block.specs.Block.{code}
use Rattle.tables.specs.Loops.{sum}

-- "Codes: 0 input, 1 constant (bits), 2 parameter, 3 state, 4 delay, 5 add, 6 sub, 7 mul, 8 min, 9 max, 10 sub_bits, 11 div, 12 neg, 13 abs,
-- 14 recip, 15 tanh, 16 sigmoid, 17 network"
unfoldable pub kind_of : ℕ → Kind
kind_of c =
    cond (eqb c 0) Source
    (cond (eqb c 1) Constant
    (cond (eqb c 2) Parameter
    (cond (eqb c 3) State
    (cond (eqb c 4) Delay
    (cond (ltb c 11) Binary
    (cond (eqb c 11) Divide
    (cond (ltb c 14) Unary
    (cond (eqb c 14) Recip
    (cond (eqb c 15) Tanh
    (cond (eqb c 16) Sigmoid
    (cond (eqb c 17) Source Unknown)))))))))))

-- how many of the two words are operands: `Node::operands`
abbrev pub operands_of : Kind → ℕ
operands_of Source = 0
operands_of Constant = 0
operands_of Parameter = 0
operands_of State = 0
operands_of Delay = 0
operands_of Binary = 2
operands_of Divide = 2
operands_of Unary = 1
operands_of Recip = 1
operands_of Tanh = 1
operands_of Sigmoid = 1
operands_of Unknown = 0

-- "recip has three Newton steps, tanh's inner one two"
abbrev pub recip_steps : ℕ
recip_steps = 3

abbrev pub tanh_steps : ℕ
tanh_steps = 2

-- two constants and the first estimate, then three nodes for each Newton step: `RECIP_NODES`
abbrev pub recip_length : ℕ → ℕ
recip_length steps = 3 + steps * 3

-- a Horner step `a + x * b` is a constant, a product and a sum: `mul_add`
abbrev pub horner_length : ℕ → ℕ
horner_length terms = terms * 3

-- the clamped input, its square and 1; numerator and denominator, three Horner steps each and one node; the reciprocal; the quotient: `TANH_NODES`
abbrev pub tanh_length : ℕ → ℕ
tanh_length steps = 6 + (horner_length 3 + 1) + (1 + horner_length 3) + recip_length steps + 1

-- "Lengths: recip 12, div 13, tanh 36, sigmoid 40, others 1": `expanded_len`, over the Newton steps inside tanh
abbrev pub length_of : ℕ → Kind → ℕ
length_of steps Source = 1
length_of steps Constant = 1
length_of steps Parameter = 1
length_of steps State = 1
length_of steps Delay = 1
length_of steps Binary = 1
length_of steps Divide = recip_length recip_steps + 1
length_of steps Unary = 1
length_of steps Recip = recip_length recip_steps
length_of steps Tanh = tanh_length steps
length_of steps Sigmoid = 2 + tanh_length steps + 2
length_of steps Unknown = 1

unfoldable pub node_length : ℕ → List ℕ → ℕ → ℕ
node_length steps nodes i = length_of steps (kind_of (code nodes i))

-- where the expansion of node i starts; at the node count, the expanded length
abbrev pub offset : ℕ → List ℕ → ℕ → ℕ
offset steps nodes i = sum (node_length steps nodes) i
