-- The kind of a code that lies in a range, as a `match` on numbers tells it; how long a kind is; the turns of a loop that counts the expanded length.
use Rattle.std.specs.Prelude.{◌≡◌, true, false, cond, List, ℕ, zero, suc, ◌+◌, ◌≤◌, ◌<◌, min, ltb, eqb}
use Rattle.std.proofs.Common.{ap, ◌∙◌, arith, lt-ltb, le-ltb, ne_eqb}
use Rattle.block.specs.declared.Kind.{Kind}
use Rattle.block.specs.declared.Kind.TheVariants.{Source, Constant, Parameter, State, Delay, Binary, Divide, Unary, Recip, Tanh, Sigmoid, Unknown}
use Rattle.tables.specs.Loops.{sum, sum_turn, sum_end, sum_le}
use Rattle.block.specs.Limits.{most_nodes}
use Rattle.block.specs.Block.{code}
use Rattle.block.specs.Kinds.{kind_of, length_of, node_length, tanh_steps, offset}

pub kind_binary : (c : ℕ) → (c ≡ 0 → ⊥) → (c ≡ 1 → ⊥) → (c ≡ 2 → ⊥) → (c ≡ 3 → ⊥) → (c ≡ 4 → ⊥) → c < 11 → kind_of c ≡ Binary
unfolding kind_of
kind_binary c h0 h1 h2 h3 h4 l = rw (ne_eqb c 0 h0, ne_eqb c 1 h1, ne_eqb c 2 h2, ne_eqb c 3 h3, ne_eqb c 4 h4, lt-ltb c 11 l)

-- a code from 11 on has none of the kinds of the codes below
from_eleven : (c : ℕ) → 11 ≤ c
    → kind_of c ≡ cond (eqb c 11) Divide (cond (ltb c 14) Unary (cond (eqb c 14) Recip (cond (eqb c 15) Tanh (cond (eqb c 16) Sigmoid (cond (eqb c 17) Source Unknown)))))
unfolding kind_of
from_eleven c h =
    rw (ne_eqb c 0 (omega arith), ne_eqb c 1 (omega arith), ne_eqb c 2 (omega arith), ne_eqb c 3 (omega arith), ne_eqb c 4 (omega arith), le-ltb c 11 h)

pub kind_unary : (c : ℕ) → 11 ≤ c → (c ≡ 11 → ⊥) → c < 14 → kind_of c ≡ Unary
kind_unary c h h11 l = rw (from_eleven c h, ne_eqb c 11 h11, lt-ltb c 14 l)

pub kind_unknown : (c : ℕ) → 14 ≤ c → (c ≡ 14 → ⊥) → (c ≡ 15 → ⊥) → (c ≡ 16 → ⊥) → (c ≡ 17 → ⊥) → kind_of c ≡ Unknown
kind_unknown c h h14 h15 h16 h17 =
    rw (from_eleven c (omega arith), ne_eqb c 11 (omega arith), le-ltb c 14 h, ne_eqb c 14 h14, ne_eqb c 15 h15, ne_eqb c 16 h16, ne_eqb c 17 h17)

pub length_most : (k : Kind) → length_of tanh_steps k ≤ 40
length_most Source = omega arith
length_most Constant = omega arith
length_most Parameter = omega arith
length_most State = omega arith
length_most Delay = omega arith
length_most Binary = omega arith
length_most Divide = omega arith
length_most Unary = omega arith
length_most Recip = omega arith
length_most Tanh = omega arith
length_most Sigmoid = omega arith
length_most Unknown = omega arith

-- ---- a loop that counts the expanded length: t nodes so far, and node i has the kind k and the length l
length_is : (nodes : List ℕ) (i : ℕ) {k : Kind} {l : ℕ} → k ≡ kind_of (code nodes i) → l ≡ length_of tanh_steps k → l ≡ node_length tanh_steps nodes i
unfolding node_length
length_is nodes i e f = f ∙ ap (length_of tanh_steps) e

pub length_turn : (nodes : List ℕ) (i t : ℕ) {k : Kind} (l : ℕ) → t ≡ offset tanh_steps nodes i → k ≡ kind_of (code nodes i) → l ≡ length_of tanh_steps k
    → t + l ≡ offset tanh_steps nodes (i + 1)
length_turn nodes i t l e f g = rw (length_is nodes i f g) (sum_turn (node_length tanh_steps nodes) i t e)

-- past the limit: all larger lengths are counted as one
pub length_stop : (nodes : List ℕ) (n i t : ℕ) {k : Kind} (l : ℕ) → i < n → t ≡ offset tanh_steps nodes i → k ≡ kind_of (code nodes i) → l ≡ length_of tanh_steps k
    → 65536 < t + l → min (offset tanh_steps nodes n) 65537 ≡ 65537
length_stop nodes n i t l h e f g o =
    omega (arith, length_turn nodes i t l e f g, sum_le (node_length tanh_steps nodes) (i + 1) n (omega arith))

pub length_end : (nodes : List ℕ) (n i t : ℕ) → i ≤ n → n ≤ i → t ≡ offset tanh_steps nodes i → t ≤ 65536 → t ≡ min (offset tanh_steps nodes n) 65537
length_end nodes n i t h l e o = omega (arith, sum_end (node_length tanh_steps nodes) i n t h l e)

-- ---- every node expands to one node at least
pub length_least : (steps : ℕ) (k : Kind) → 1 ≤ length_of steps k
length_least steps Source = omega arith
length_least steps Constant = omega arith
length_least steps Parameter = omega arith
length_least steps State = omega arith
length_least steps Delay = omega arith
length_least steps Binary = omega arith
length_least steps Divide = omega arith
length_least steps Unary = omega arith
length_least steps Recip = omega arith
length_least steps Tanh = omega arith
length_least steps Sigmoid = omega arith
length_least steps Unknown = omega arith

pub count_offset : (steps : ℕ) (nodes : List ℕ) (n : ℕ) → n ≤ offset steps nodes n
unfolding sum node_length
count_offset steps nodes zero = omega arith
count_offset steps nodes (suc n) = omega (arith, count_offset steps nodes n, length_least steps (kind_of (code nodes n)))

-- the length counted up to one past the limit is over the limit where the length is
pub length_over : (x r : ℕ) → r ≡ min x 65537 → most_nodes < r → ltb most_nodes x ≡ true
length_over x r e h = lt-ltb most_nodes x (omega arith)

pub length_within : (x r : ℕ) → r ≡ min x 65537 → r ≤ most_nodes → ltb most_nodes x ≡ false
length_within x r e h = le-ltb most_nodes x (omega arith)
