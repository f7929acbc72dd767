-- Nodes as records of three words, and the primitive nodes that macros are made of. Definitions alone.
use Rattle.std.specs.Prelude.{List, [], ◌∷◌, ℕ}

-- "node: code, first, second"
pub record Node : Type 0 where
  pub code : ℕ
  pub first : ℕ
  pub second : ℕ

abbrev pub node : ℕ → ℕ → ℕ → Node
node code first second = record { code = code; first = first; second = second }

-- a constant by its f32 bits: `Expander::constant`
abbrev pub constant : ℕ → Node
constant bits = node 1 bits 0

-- the binary nodes of `Expander::binary`
abbrev pub add : ℕ → ℕ → Node
add lhs rhs = node 5 lhs rhs

abbrev pub sub : ℕ → ℕ → Node
sub lhs rhs = node 6 lhs rhs

abbrev pub mul : ℕ → ℕ → Node
mul lhs rhs = node 7 lhs rhs

abbrev pub min : ℕ → ℕ → Node
min lhs rhs = node 8 lhs rhs

abbrev pub max : ℕ → ℕ → Node
max lhs rhs = node 9 lhs rhs

abbrev pub sub_bits : ℕ → ℕ → Node
sub_bits lhs rhs = node 10 lhs rhs

-- a list of nodes as the words of a table
abbrev pub words_of : List Node → List ℕ
words_of [] = []
words_of (n ∷ ns) = n.code ∷ n.first ∷ n.second ∷ words_of ns
