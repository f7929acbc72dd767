-- "Expanded nodes are of one class if they have the same code and the same constant bits or index, or operands of the same classes in order." A class is
-- named by its first node. Definitions alone.
use Rattle.std.specs.Prelude.{Bool, cond, List, [], ◌∷◌, ◌++◌, ℕ, zero, suc, pred, get_or, ltb, eqb}
use Rattle.tables.specs.Tests.{◌&◌}
use Rattle.block.specs.Block.{code, first, second}
use Rattle.block.specs.Kinds.{kind_of, operands_of}

-- the place of the first index below n that passes, and one; 0 where none does
unfoldable pub first_place : (ℕ → Bool) → ℕ → ℕ
first_place passes zero = 0
first_place passes (suc n) =
    let before = first_place passes n in
    cond (eqb before 0) (cond (passes n) (suc n) 0) before

-- word k (0 the first, 1 the second) of a node of this code is an operand
unfoldable pub is_operand : ℕ → ℕ → Bool
is_operand c k = ltb k (operands_of (kind_of c))

-- an operand's class; of any other word, constant bits or an index, the word itself
unfoldable pub key_of : Bool → List ℕ → ℕ → ℕ
key_of operand classes word = cond operand (get_or classes word 0) word

-- the two keys of node i, where the nodes before it have these classes
unfoldable pub first_key : List ℕ → List ℕ → ℕ → ℕ
first_key nodes classes i = key_of (is_operand (code nodes i) 0) classes (first nodes i)

unfoldable pub second_key : List ℕ → List ℕ → ℕ → ℕ
second_key nodes classes i = key_of (is_operand (code nodes i) 1) classes (second nodes i)

-- "the same code and the same constant bits or index, or operands of the same classes in order"
unfoldable pub has_keys : List ℕ → List ℕ → ℕ → ℕ → ℕ → ℕ → Bool
has_keys nodes classes c x y i = eqb (code nodes i) c & eqb (first_key nodes classes i) x & eqb (second_key nodes classes i) y

-- node i's class: the first node with its code and keys, else itself
unfoldable pub class_from : List ℕ → List ℕ → ℕ → ℕ
class_from nodes classes i =
    let place = first_place (has_keys nodes classes (code nodes i) (first_key nodes classes i) (second_key nodes classes i)) i in
    cond (eqb place 0) i (pred place)

-- the classes of the first n nodes, in order
unfoldable pub classes_to : List ℕ → ℕ → List ℕ
classes_to nodes zero = []
classes_to nodes (suc n) =
    let before = classes_to nodes n in
    before ++ (class_from nodes before n ∷ [])

-- the class, and one, of the nodes among the first n that have a code and two keys; 0 where there is no such node
unfoldable pub find : List ℕ → ℕ → ℕ → ℕ → ℕ → ℕ
find nodes n c x y = first_place (has_keys nodes (classes_to nodes n) c x y) n
