-- "A block without macro nodes is returned unchanged": its expansion is its node table, and each node is its own last expanded node.
use Rattle.std.specs.Prelude.{◌≡◌, Bool, true, false, not, ◌||◌, length, take, eqb}
use Rattle.std.proofs.Math.Path.{refl}
use Rattle.std.proofs.Common.{sym, ap, ◌∙◌, div-add-mod', take_all}
use mathlib.Core.List.{List, [], ◌∷◌, append_assoc}
use Prim.Native.Nat.{ℕ, zero, suc, ◌+◌, ◌*◌, ◌/◌, ◌%◌, ◌≤◌, ◌<◌}
use Rattle.std.proofs.Math.Decide.{dec_lt}
use native.Mathlib.Omega.{arith}
use Rattle.std.proofs.Math.ListN.{get_or-eq_default}
use Rattle.std.proofs.Math.Seq.{take-suc}
use Rattle.tables.specs.Tests.{◌&◌, true_false}
use Rattle.tables.specs.Loops.{some, some_false, every, every_true}
use Rattle.block.specs.declared.Kind.{Kind}
use Rattle.block.specs.declared.Kind.TheVariants.{Source, Constant, Parameter, State, Delay, Binary, Divide, Unary, Recip, Tanh, Sigmoid, Unknown}
use Rattle.block.specs.Block.{Block, node_count, code, first, second}
use Rattle.block.specs.Kinds.{kind_of, length_of, node_length, offset, tanh_steps}
use Rattle.block.specs.KindLaws.{kind_unknown}
use Rattle.expand.specs.Nodes.{node, words_of}
use Rattle.expand.specs.Expansion.{expand_as, map_node, expand_node, expand_to, expansion}
use Rattle.expand.specs.Words.{words_append}
use Rattle.expand.specs.Lengths.{offset_start, offset_next}

-- `Node::is_macro`: 11 div, 14 recip, 15 tanh, 16 sigmoid
unfoldable pub is_macro : ℕ → Bool
is_macro c = eqb c 11 || eqb c 14 || eqb c 15 || eqb c 16

abbrev pub macro_node : List ℕ → ℕ → Bool
macro_node nodes i = is_macro (code nodes i)

input_plain : is_macro 0 ≡ false
unfolding is_macro
input_plain = refl

-- whole records, none of them a macro
pub record Plain (nodes : List ℕ) : Type 0 where
  pub whole : length nodes % 3 ≡ 0
  pub none : some (macro_node nodes) (length nodes / 3) ≡ false

-- ---- the kinds of plain codes
abbrev macro_kind : Kind → Bool
macro_kind Source = false
macro_kind Constant = false
macro_kind Parameter = false
macro_kind State = false
macro_kind Delay = false
macro_kind Binary = false
macro_kind Divide = true
macro_kind Unary = false
macro_kind Recip = true
macro_kind Tanh = true
macro_kind Sigmoid = true
macro_kind Unknown = false

abbrev agrees : ℕ → Bool
agrees c = is_macro c || not (macro_kind (kind_of c))

every_code : every agrees 18 ≡ true
unfolding every ◌&◌ is_macro kind_of
every_code = refl

plain_kind : (c : ℕ) → is_macro c ≡ false → macro_kind (kind_of c) ≡ false
plain_kind c e = go (dec_lt c 18)
  where
    not_not : (b : Bool) → not b ≡ true → b ≡ false
    not_not true h = sym h
    not_not false h = refl

    go : Dec (c < 18) → macro_kind (kind_of c) ≡ false
    go (yes l) = not_not _ (rw e at (every_true agrees 18 every_code c l))
    go (no l) = rw (kind_unknown c (omega arith) (λ q. omega arith) (λ q. omega arith) (λ q. omega arith) (λ q. omega arith))

plain_length : (steps : ℕ) (kind : Kind) → macro_kind kind ≡ false → length_of steps kind ≡ 1
plain_length steps Source e = refl
plain_length steps Constant e = refl
plain_length steps Parameter e = refl
plain_length steps State e = refl
plain_length steps Delay e = refl
plain_length steps Binary e = refl
plain_length steps Divide e = true_false e
plain_length steps Unary e = refl
plain_length steps Recip e = true_false e
plain_length steps Tanh e = true_false e
plain_length steps Sigmoid e = true_false e
plain_length steps Unknown e = refl

plain_as : (steps : ℕ) (kind : Kind) (map : ℕ → ℕ) (k c x y : ℕ) → macro_kind kind ≡ false → ((j : ℕ) → map j ≡ j)
    → expand_as steps kind map k c x y ≡ node c x y ∷ []
plain_as steps Source map k c x y e m = refl
plain_as steps Constant map k c x y e m = refl
plain_as steps Parameter map k c x y e m = refl
plain_as steps State map k c x y e m = refl
plain_as steps Delay map k c x y e m = refl
plain_as steps Binary map k c x y e m = rw (m x, m y)
plain_as steps Divide map k c x y e m = true_false e
plain_as steps Unary map k c x y e m = rw (m x)
plain_as steps Recip map k c x y e m = true_false e
plain_as steps Tanh map k c x y e m = true_false e
plain_as steps Sigmoid map k c x y e m = true_false e
plain_as steps Unknown map k c x y e m = refl

-- ---- a plain table; a node past it reads as an input
module _ (steps : ℕ) (nodes : List ℕ) (plain : Plain nodes) where
  plain_code : (i : ℕ) → is_macro (code nodes i) ≡ false
  plain_code i = go (dec_lt i (length nodes / 3))
    where
      go : Dec (i < length nodes / 3) → is_macro (code nodes i) ≡ false
      go (yes l) = some_false (macro_node nodes) (length nodes / 3) plain.none i l
      go (no l) = ap is_macro (get_or-eq_default nodes 0 (omega (arith, div-add-mod' (length nodes) 3, plain.whole))) ∙ input_plain

  plain_node_length : (i : ℕ) → node_length steps nodes i ≡ 1
  unfolding node_length
  plain_node_length i = plain_length steps (kind_of (code nodes i)) (plain_kind (code nodes i) (plain_code i))

  plain_offset : (i : ℕ) → offset steps nodes i ≡ i
  plain_offset zero = offset_start steps nodes
  plain_offset (suc i) = omega (arith, offset_next steps nodes i, plain_offset i, plain_node_length i)

  -- EACH NODE IS ITS OWN LAST EXPANDED NODE
  pub plain_map : (i : ℕ) → map_node steps nodes i ≡ i
  plain_map i = omega (arith, plain_offset (suc i))

  plain_node : (i : ℕ) → expand_node steps nodes i ≡ node (code nodes i) (first nodes i) (second nodes i) ∷ []
  unfolding expand_node
  plain_node i = plain_as steps (kind_of (code nodes i)) (map_node steps nodes) _ _ _ _ (plain_kind (code nodes i) (plain_code i)) plain_map

  plain_to : (i : ℕ) → 3 * i ≤ length nodes → words_of (expand_to steps nodes i) ≡ take (3 * i) nodes
  unfolding expand_to
  plain_to zero h = refl
  plain_to (suc i) h =
      let z : 3 * suc i ≡ suc (suc (suc (3 * i))) = omega arith in
      let z₁ : 3 * i + 1 ≡ suc (3 * i) = omega arith in
      let z₂ : 3 * i + 2 ≡ suc (suc (3 * i)) = omega arith in
      words_append (expand_to steps nodes i) (expand_node steps nodes i)
      ∙ rw (plain_node i, plain_to i (omega arith), z, z₁, z₂, take-suc nodes (suc (suc (3 * i))) 0 (omega arith), take-suc nodes (suc (3 * i)) 0 (omega arith), take-suc nodes (3 * i) 0 (omega arith), append_assoc, append_assoc)

-- A PLAIN BLOCK EXPANDS TO ITSELF
pub plain_expansion : (b : Block) → Plain b.nodes → words_of (expansion b) ≡ b.nodes
plain_expansion b plain =
    let n = div-add-mod' (length b.nodes) 3 in
    plain_to tanh_steps b.nodes plain (node_count b) (omega arith) ∙ take_all (3 * node_count b) b.nodes (omega (arith, plain.whole))
