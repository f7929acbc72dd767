-- Of a valid block every expanded node is good: its code is primitive, its operands stand before it, its index is below its table's count, its unused words are 0.
-- Said over the words of the expansion, `words_of (expansion b)`, so that who reads the table needs no list of nodes.
use Rattle.std.specs.Prelude.{◌≡◌, refl, Bool, true, false, ◌||◌, List, [], ◌∷◌, ◌++◌, ℕ, zero, suc, ◌+◌, ◌≤◌, ◌<◌, length, get_or, leb, eqb}
use Rattle.std.proofs.Common.{not-suc-le-zero, arith}
use Rattle.std.proofs.Math.Decide.{dec_lt}
use Rattle.tables.specs.Tests.{◌&◌, true_false}
use Rattle.tables.specs.Loops.{every, every_true}
use Rattle.block.specs.declared.Kind.{Kind}
use Rattle.block.specs.declared.Kind.TheVariants.{Source, Constant, Parameter, State, Delay, Binary, Divide, Unary, Recip, Tanh, Sigmoid, Unknown}
use Rattle.block.specs.Block.{Block, state_count, delay_count, node_count, code, first, second}
use Rattle.block.specs.Kinds.{kind_of, operands_of, recip_length, offset}
use Rattle.block.specs.KindLaws.{kind_unknown}
use Rattle.block.specs.declared.Counts.{Counts}
use Rattle.block.specs.Validation.{counts_of, expanded_length}
use Rattle.block.specs.Valid.{SoundWords, Sound, Valid}
use Rattle.expand.specs.Nodes.{Node, mul, words_of}
use Rattle.expand.specs.Words.{no_node, words_at}
use Rattle.expand.specs.Macros.{newton, recip, tanh_input, tanh_numerator, tanh_denominator, tanh_fraction, tanh, sigmoid, divide}
use Rattle.expand.specs.Expansion.{expand_as, map_node, expand_node, expand_to, expansion, mapped_output}
use Rattle.expand.specs.Graph.{mapped_update}
use Rattle.expand.specs.Lengths.{recip_length_lem, tanh_length_lem, to_length, map_below, map_update_le, expansion_length}

-- ---- the words of a primitive node at position k, by its kind
abbrev pub GoodAs : Kind → Counts → ℕ → ℕ → ℕ → Type 0
GoodAs Source n k x y = (x ≡ 0) × (y ≡ 0)
GoodAs Constant n k x y = y ≡ 0
GoodAs Parameter n k x y = (x < n.parameters) × (y ≡ 0)
GoodAs State n k x y = (x < n.states) × (y ≡ 0)
GoodAs Delay n k x y = (x < n.delays) × (y ≡ 0)
GoodAs Binary n k x y = (x < k) × (y < k)
GoodAs Divide n k x y = ⊥
GoodAs Unary n k x y = (x < k) × (y ≡ 0)
GoodAs Recip n k x y = ⊥
GoodAs Tanh n k x y = ⊥
GoodAs Sigmoid n k x y = ⊥
GoodAs Unknown n k x y = ⊥

abbrev pub GoodNode : Counts → ℕ → ℕ → ℕ → ℕ → Type 0
GoodNode n k c x y = GoodAs (kind_of c) n k x y

-- all of a list whose first node stands at position k
abbrev AllGood : Counts → ℕ → List Node → Type 0
AllGood n k [] = Unit {0}
AllGood n k (x ∷ xs) = GoodNode n k x.code x.first x.second × AllGood n (k + 1) xs

-- ---- the macros
good_append : (n : Counts) (k : ℕ) (xs ys : List Node) → AllGood n k xs → AllGood n (k + length xs) ys → AllGood n k (xs ++ ys)
good_append n k [] ys p q = let z : k + 0 ≡ k = omega arith in rw z at q
good_append n k (x ∷ xs) ys p q =
    let z : k + suc (length xs) ≡ k + 1 + length xs = omega arith in (p.0, good_append n (k + 1) xs ys p.1 (rw z at q))

good_newton : (n : Counts) (steps k x e two : ℕ) → x < k → e < k → two < k → AllGood n k (newton steps k x e two)
unfolding kind_of
good_newton n zero k x e two hx he ht = tt
good_newton n (suc steps) k x e two hx he ht =
    let z : k + 1 + 1 + 1 ≡ k + 3 = omega arith in
    (omega arith, (omega arith, (omega arith, rw z (good_newton n steps (k + 3) x (k + 2) two (omega arith) (omega arith) (omega arith)))))

good_recip : (n : Counts) (steps k x : ℕ) → x < k → AllGood n k (recip steps k x)
unfolding kind_of recip
good_recip n steps k x h =
    let z : k + 1 + 1 + 1 ≡ k + 3 = omega arith in
    (refl, (refl, (omega arith, rw z (good_newton n steps (k + 3) x (k + 2) (k + 1) (omega arith) (omega arith) (omega arith)))))

good_divide : (n : Counts) (steps k x y : ℕ) → x < k → y < k → AllGood n k (divide steps k x y)
unfolding kind_of divide
good_divide n steps k x y hx hy =
    good_append n k (recip steps k y) _ (good_recip n steps k y hy) (omega (arith, recip_length_lem steps k y), tt)

good_input : (n : Counts) (k x : ℕ) → x < k → AllGood n k (tanh_input k x)
unfolding kind_of
good_input n k x h = omega arith

good_numerator : (n : Counts) (k : ℕ) → AllGood n (k + 6) (tanh_numerator k)
unfolding kind_of
good_numerator n k = omega arith

good_denominator : (n : Counts) (k : ℕ) → AllGood n (k + 6 + 10) (tanh_denominator k)
unfolding kind_of
good_denominator n k = omega arith

good_fraction : (n : Counts) (k x : ℕ) → x < k → AllGood n k (tanh_fraction k x)
good_fraction n k x h =
    good_append n k (tanh_input k x) (tanh_numerator k ++ tanh_denominator k) (good_input n k x h)
    (good_append n (k + 6) (tanh_numerator k) (tanh_denominator k) (good_numerator n k) (good_denominator n k))

good_tanh : (n : Counts) (steps k x : ℕ) → x < k → AllGood n k (tanh steps k x)
unfolding kind_of tanh
good_tanh n steps k x h =
    let quotient : List Node = mul (k + 15) (k + 25 + recip_length steps) ∷ [] in
    good_append n k (tanh_fraction k x) (recip steps (k + 26) (k + 25) ++ quotient) (good_fraction n k x h)
    (good_append n (k + 26) (recip steps (k + 26) (k + 25)) quotient (good_recip n steps (k + 26) (k + 25) (omega arith))
    (omega (arith, recip_length_lem steps (k + 26) (k + 25)), tt))

good_sigmoid : (n : Counts) (steps k x : ℕ) → x < k → AllGood n k (sigmoid steps k x)
unfolding kind_of sigmoid
good_sigmoid n steps k x h =
    let z : k + 1 + 1 ≡ k + 2 = omega arith in
    let l = tanh_length_lem steps (k + 2) (k + 1) in
    (refl, (omega arith, rw z (good_append n (k + 2) (tanh steps (k + 2) (k + 1)) _ (good_tanh n steps (k + 2) (k + 1) (omega arith)) (omega arith, (omega arith, tt)))))

-- ---- one node's expansion, where `map` takes each operand below position k
good_as : (kind : Kind) (n : Counts) (steps : ℕ) (map : ℕ → ℕ) (i k c x y : ℕ) → kind ≡ kind_of c → ((j : ℕ) → j < i → map j < k)
    → SoundWords kind n i x y → AllGood n k (expand_as steps kind map k c x y)
good_as Source n steps map i k c x y e m h = (rw (← e) h, tt)
good_as Constant n steps map i k c x y e m h = (rw (← e) h.1, tt)
good_as Parameter n steps map i k c x y e m h = (rw (← e) h, tt)
good_as State n steps map i k c x y e m h = (rw (← e) h, tt)
good_as Delay n steps map i k c x y e m h = (rw (← e) h, tt)
good_as Binary n steps map i k c x y e m h = (rw (← e) (m x h.0, m y h.1), tt)
good_as Divide n steps map i k c x y e m h = good_divide n _ k (map x) (map y) (m x h.0) (m y h.1)
good_as Unary n steps map i k c x y e m h = (rw (← e) (m x h.0, h.1), tt)
good_as Recip n steps map i k c x y e m h = good_recip n _ k (map x) (m x h.0)
good_as Tanh n steps map i k c x y e m h = good_tanh n steps k (map x) (m x h.0)
good_as Sigmoid n steps map i k c x y e m h = good_sigmoid n steps k (map x) (m x h.0)
good_as Unknown n steps map i k c x y e m h = absurd h

good_to : (n : Counts) (steps : ℕ) (nodes : List ℕ) (i : ℕ) → ((j : ℕ) → j < i → Sound n nodes j) → AllGood n 0 (expand_to steps nodes i)
unfolding expand_to expand_node
good_to n steps nodes zero h = tt
good_to n steps nodes (suc i) h =
    let z : 0 + length (expand_to steps nodes i) ≡ offset steps nodes i = omega (arith, to_length steps nodes i) in
    good_append n 0 (expand_to steps nodes i) _ (good_to n steps nodes i (λ j q. h j (omega arith)))
    (rw z (good_as (kind_of (code nodes i)) n steps (map_node steps nodes) i (offset steps nodes i) _ _ _ refl (λ j q. map_below steps nodes j i q) (h i (omega arith))))

-- ---- the node at a position
good_at : (n : Counts) (k : ℕ) (xs : List Node) → AllGood n k xs → (i : ℕ) → i < length xs
    → GoodNode n (k + i) (get_or xs i no_node).code (get_or xs i no_node).first (get_or xs i no_node).second
good_at n k [] g i h = absurd (not-suc-le-zero h)
good_at n k (x ∷ xs) g zero h = let z : k + 0 ≡ k = omega arith in rw z g.0
good_at n k (x ∷ xs) g (suc i) h = let z : k + suc i ≡ k + 1 + i = omega arith in rw z (good_at n (k + 1) xs g.1 i (omega arith))

-- EACH EXPANDED NODE of a valid block, by its position
pub good_node : (b : Block) → Valid b → (k : ℕ) → k < expanded_length b
    → GoodNode (counts_of b) k (code (words_of (expansion b)) k) (first (words_of (expansion b)) k) (second (words_of (expansion b)) k)
good_node b valid k h =
    let g = good_at (counts_of b) 0 (expansion b) (good_to (counts_of b) _ b.nodes (node_count b) valid.sound) k (omega (arith, expansion_length b)) in
    let z : 0 + k ≡ k = omega arith in
    let w = words_at (expansion b) k in
    rw (w.0, w.1, w.2) (rw z at g)

-- ---- what a good node's words say

-- its code is one of 0 to 10, 12, 13 and 17
unfoldable pub primitive : ℕ → Bool
primitive c = leb c 10 || eqb c 12 || eqb c 13 || eqb c 17

-- a kind that no expanded node has
abbrev replaced : Kind → Bool
replaced Source = false
replaced Constant = false
replaced Parameter = false
replaced State = false
replaced Delay = false
replaced Binary = false
replaced Divide = true
replaced Unary = false
replaced Recip = true
replaced Tanh = true
replaced Sigmoid = true
replaced Unknown = true

good_kind : (kind : Kind) (n : Counts) (k x y : ℕ) → GoodAs kind n k x y → replaced kind ≡ false
good_kind Source n k x y h = refl
good_kind Constant n k x y h = refl
good_kind Parameter n k x y h = refl
good_kind State n k x y h = refl
good_kind Delay n k x y h = refl
good_kind Binary n k x y h = refl
good_kind Divide n k x y h = absurd h
good_kind Unary n k x y h = refl
good_kind Recip n k x y h = absurd h
good_kind Tanh n k x y h = absurd h
good_kind Sigmoid n k x y h = absurd h
good_kind Unknown n k x y h = absurd h

abbrev listed : ℕ → Bool
listed c = replaced (kind_of c) || primitive c

every_code : every listed 18 ≡ true
unfolding every ◌&◌ primitive kind_of
every_code = refl

pub good_primitive : (n : Counts) (k c x y : ℕ) → GoodNode n k c x y → primitive c ≡ true
good_primitive n k c x y h = go (dec_lt c 18) (good_kind (kind_of c) n k x y h)
  where
    go : Dec (c < 18) → replaced (kind_of c) ≡ false → primitive c ≡ true
    go (yes l) e = rw e at (every_true listed 18 every_code c l)
    go (no l) e =
        true_false (rw (kind_unknown c (omega arith) (λ q. omega arith) (λ q. omega arith) (λ q. omega arith) (λ q. omega arith)) at e)

-- its operands stand before it
good_operands_as : (kind : Kind) (n : Counts) (k x y : ℕ) → GoodAs kind n k x y → (1 ≤ operands_of kind → x < k) × (2 ≤ operands_of kind → y < k)
good_operands_as Source n k x y h = (λ l. absurd (omega arith), λ l. absurd (omega arith))
good_operands_as Constant n k x y h = (λ l. absurd (omega arith), λ l. absurd (omega arith))
good_operands_as Parameter n k x y h = (λ l. absurd (omega arith), λ l. absurd (omega arith))
good_operands_as State n k x y h = (λ l. absurd (omega arith), λ l. absurd (omega arith))
good_operands_as Delay n k x y h = (λ l. absurd (omega arith), λ l. absurd (omega arith))
good_operands_as Binary n k x y h = (λ l. h.0, λ l. h.1)
good_operands_as Divide n k x y h = absurd h
good_operands_as Unary n k x y h = (λ l. h.0, λ l. absurd (omega arith))
good_operands_as Recip n k x y h = absurd h
good_operands_as Tanh n k x y h = absurd h
good_operands_as Sigmoid n k x y h = absurd h
good_operands_as Unknown n k x y h = absurd h

pub good_operands : (n : Counts) (k c x y : ℕ) → GoodNode n k c x y → (1 ≤ operands_of (kind_of c) → x < k) × (2 ≤ operands_of (kind_of c) → y < k)
good_operands n k c x y h = good_operands_as (kind_of c) n k x y h

-- ---- the output and the updates

-- the mapped output is an expanded node
pub output_mapped : (b : Block) → Valid b → mapped_output b < expanded_length b
output_mapped b valid = map_below _ b.nodes _ _ valid.output

-- so is every mapped update; 0 stays none
pub state_update_mapped : (b : Block) → Valid b → (i : ℕ) → i < state_count b → mapped_update b b.states i ≤ expanded_length b
state_update_mapped b valid i h = map_update_le _ b.nodes _ _ (valid.state_updates i h)

pub delay_update_mapped : (b : Block) → Valid b → (i : ℕ) → i < delay_count b → mapped_update b b.delays i ≤ expanded_length b
delay_update_mapped b valid i h = map_update_le _ b.nodes _ _ (valid.delay_updates i h)
