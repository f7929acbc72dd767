-- A list of nodes as words: how many, of two lists, and the node at a position.
use Rattle.std.specs.Prelude.{◌≡◌, refl, List, [], ◌∷◌, ◌++◌, ℕ, zero, suc, ◌+◌, ◌*◌, length, get_or}
use Rattle.std.proofs.Common.{arith}
use Rattle.block.specs.Block.{code, first, second}
use Rattle.expand.specs.Nodes.{Node, node, words_of}

pub words_length : (ns : List Node) → length (words_of ns) ≡ 3 * length ns
words_length [] = refl
words_length (n ∷ ns) = let h = words_length ns in omega arith

pub words_append : (xs ys : List Node) → words_of (xs ++ ys) ≡ words_of xs ++ words_of ys
words_append [] ys = refl
words_append (x ∷ xs) ys = rw (words_append xs ys)

-- what is read past the end
abbrev pub no_node : Node
no_node = node 0 0 0

pub words_at : (ns : List Node) (i : ℕ)
    → (code (words_of ns) i ≡ (get_or ns i no_node).code)
    × (first (words_of ns) i ≡ (get_or ns i no_node).first)
    × (second (words_of ns) i ≡ (get_or ns i no_node).second)
words_at [] i = (refl, refl, refl)
words_at (x ∷ xs) zero = (refl, refl, refl)
words_at (x ∷ xs) (suc i) =
    let z : 3 * suc i ≡ suc (suc (suc (3 * i))) = omega arith in
    let z₁ : 3 * suc i + 1 ≡ suc (suc (suc (3 * i + 1))) = omega arith in
    let z₂ : 3 * suc i + 2 ≡ suc (suc (suc (3 * i + 2))) = omega arith in
    let h = words_at xs i in
    (rw z h.0, rw z₁ h.1, rw z₂ h.2)
