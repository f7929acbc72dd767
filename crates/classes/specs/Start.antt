-- Where the walk for a code and two keys begins: each code has `buckets count` cells behind the cells of the nodes, and a pair of keys has one of them.
-- Operands are numbers of nodes, and the later operand says which cell: nodes that stand near each other have cells near each other, so that a table read in the
-- order of its nodes stays in the cache. A word past all of that, as a constant's bits, is spread over the cells. Nothing but speed depends on the choice.
-- Assumes nothing.
use Rattle.std.specs.Prelude.{◌≡◌, refl, Bool, true, false, cond, ℕ, ◌+◌, ◌*◌, ◌/◌, ◌%◌, ◌≤◌, ◌<◌, ltb, max}
use Rattle.std.proofs.Common.{sym, ap, ◌∙◌, mod-lt, mul-le-mul_right, arith, ltb-true, lt-ltb, le-ltb}
use Rattle.std.proofs.Math.Decide.{dec_lt}
use Rattle.std.proofs.Math.Nat.{max-eq_left, max-eq_right}
use Rattle.std.proofs.Math.Arith.{digits_div}

-- the words of the index: a class, two keys and two cells for each node, and 32 times `buckets count` cells where walks begin. What lies behind is the caller's
abbrev pub index_length : ℕ → ℕ
index_length count = 7 * count + 32

-- the cells of one code
abbrev pub buckets : ℕ → ℕ
buckets count = count / 16 + 1

-- the larger of two words: of two operands the later
unfoldable pub later : ℕ → ℕ → ℕ
later x y = cond (ltb x y) y x

-- which std's `max` finds
pub later_max : (x y : ℕ) → max x y ≡ later x y
unfolding later
later_max x y = go (dec_lt x y)
  where
    go : Dec (x < y) → max x y ≡ cond (ltb x y) y x
    go (yes h) = rw (lt-ltb x y h) (max-eq_right (omega arith))
    go (no h) = rw (le-ltb x y (omega arith)) (max-eq_left (omega arith))

-- which of a code's cells is that of a word
unfoldable pub bucket_of : ℕ → ℕ → ℕ
bucket_of count word = cond (ltb (word / 16) (buckets count)) (word / 16) (word * 2654435769 % 4294967296 / 65536 % buckets count)

-- the cell where the walk for code c and the keys x and y begins
unfoldable pub root : ℕ → ℕ → ℕ → ℕ → ℕ
root count c x y = 5 * count + c * buckets count + bucket_of count (later x y)

pub bucket_in : (count word : ℕ) → bucket_of count word < buckets count
unfolding bucket_of
bucket_in count word = go (ltb (word / 16) (buckets count)) refl
  where
    go : (b : Bool) → ltb (word / 16) (buckets count) ≡ b → cond b (word / 16) (word * 2654435769 % 4294967296 / 65536 % buckets count) < buckets count
    go true e = ltb-true _ _ e
    go false e = mod-lt _ (omega arith)

-- the cells of the codes up to c
pub buckets_upto : (count c : ℕ) → c < 32 → c * buckets count + buckets count ≤ 2 * count + 32
buckets_upto count c h = let k : c * buckets count ≤ 31 * buckets count = mul-le-mul_right (buckets count) (omega arith) in omega arith

pub root_low : (count c x y : ℕ) → 5 * count ≤ root count c x y
unfolding root
root_low count c x y = omega arith

pub root_high : (count c x y : ℕ) → c < 32 → root count c x y < index_length count
unfolding root
root_high count c x y h = let l = bucket_in count (later x y) in let k = buckets_upto count c h in omega arith

-- codes share no cell
pub root_same : (count c x y d u v : ℕ) → root count c x y ≡ root count d u v → c ≡ d
unfolding root
root_same count c x y d u v e =
    let k : c * buckets count + bucket_of count (later x y) ≡ d * buckets count + bucket_of count (later u v) = omega arith in
    sym (digits_div c (bucket_in count (later x y))) ∙ (ap (λ (n : ℕ). n / buckets count) k ∙ digits_div d (bucket_in count (later u v)))
