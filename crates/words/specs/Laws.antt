-- Laws of the words: which words are NaN's and which word NaN is, that add, sub and mul hand a NaN on, how two comparisons tell a finite float,
-- that neg and abs are the floats' too, and that every operation makes a word of words (`operate_word`).
use Rattle.std.specs.Prelude.{◌≡◌, ℕ, zero, suc, ◌+◌, ◌-◌, ◌/◌, ◌%◌, ◌<◌, ◌≤◌, Bool, true, false, cond, not, ◌||◌, T, ◌==◌, nat_le, nat_lt, refl, Float}
use Rattle.std.proofs.Common.{sym, ap, subst, ◌∙◌, arith, ltb-true, ltb-false, le-leb}
use Rattle.std.proofs.lemmas.Bool.{lt-leb}
use Rattle.std.specs.Float.Ieee as Ieee
use Rattle.std.specs.Float.{nan, inf, fin, binary32, float_is_finite}
use Rattle.std.specs.Float.Ieee.{nan_bits, of_fields, of_bits, to_bits, odd, lt, ne, neg}
use Rattle.std.specs.Float.Ieee.Scale.{finite}
use Rattle.std.specs.Float.Ieee.Bits.{nan_bits_is, nan_bits_above, to_bits-lt}
use Rattle.std.specs.Float.Ieee.Fits.{add-fits, sub-fits, mul-fits}
use Rattle.std.specs.Float.Ieee.Compare.{differs_from_itself, nan_differs}
use Rattle.words.specs.Operations.{Word, float_of, word_of, added, subtracted, multiplied, is_nan, is_less, chosen, lesser, greater, negated, absolute, wrapping_difference, operate}

-- ---- NaN

false_not : (b : Bool) → b ≡ false → T (not b)
false_not true e = absurd (subst T e tt)
false_not false e = tt

true_holds : (b : Bool) → b ≡ true → T b
true_holds true e = tt
true_holds false e = absurd (subst T (sym e) tt)

-- A word is a NaN's where, with the sign's bit taken off, it is above the infinity's.
pub nan_above : (word : ℕ) → nat_lt 0x7f800000 (word % 0x80000000) ≡ is_nan word
unfolding is_nan float_of
nan_above word = sym (nan_bits_above binary32 word) ∙ nan_bits_is binary32 word

is_nan_lem : (x : Float) → Ieee.is_nan x ≡ true → nan ≡ x
unfolding Ieee.is_nan
is_nan_lem nan e = refl
is_nan_lem (inf s) e = absurd (subst T (sym e) tt)
is_nan_lem (fin s m k) e = absurd (subst T (sym e) tt)

pub nan_float : (word : ℕ) → is_nan word ≡ true → nan ≡ float_of word
unfolding is_nan
nan_float word e = is_nan_lem (float_of word) e

pub number_bits : (word : ℕ) → is_nan word ≡ false → T (not (nan_bits binary32 word))
unfolding is_nan float_of
number_bits word e = false_not _ (nan_bits_is binary32 word ∙ e)

-- NaN has one word.
pub nan_word : 0x7fc00000 ≡ word_of nan
unfolding word_of to_bits
nan_word = refl

pub unequal_nan : (x : Float) → ne x x ≡ true → 0x7fc00000 ≡ word_of x
unequal_nan x e = nan_word ∙ ap word_of (sym (differs_from_itself x (true_holds _ e)))

pub equal_number : (x : Float) → ne x x ≡ false → T (not (Ieee.is_nan x))
unfolding Ieee.is_nan
equal_number nan e = absurd (subst T (sym nan_differs ∙ e) tt)
equal_number (inf s) e = tt
equal_number (fin s m k) e = tt

-- ---- an operation that hands a NaN operand on

-- neither of two words that have no NaN
neither_left : (a b : Bool) → (a || b) ≡ false → a ≡ false
neither_left true b e = e
neither_left false b e = refl

neither_right : (a b : Bool) → (a || b) ≡ false → b ≡ false
neither_right true b e = absurd (subst T e tt)
neither_right false b e = e

pub left_number : (lhs rhs : ℕ) → (is_nan lhs || is_nan rhs) ≡ false → T (not (nan_bits binary32 lhs))
left_number lhs rhs e = number_bits lhs (neither_left (is_nan lhs) (is_nan rhs) e)

pub right_number : (lhs rhs : ℕ) → (is_nan lhs || is_nan rhs) ≡ false → T (not (nan_bits binary32 rhs))
right_number lhs rhs e = number_bits rhs (neither_right (is_nan lhs) (is_nan rhs) e)

nan_result :
    (operation : Float → Float → Float)
    → ((y : Float) → operation nan y ≡ nan)
    → ((x : Float) → operation x nan ≡ nan)
    → (lhs rhs : ℕ)
    → (is_nan lhs || is_nan rhs) ≡ true
    → 0x7fc00000 ≡ word_of (operation (float_of lhs) (float_of rhs))
nan_result operation left right lhs rhs e = go (is_nan lhs) refl e
  where
    go : (b : Bool) → is_nan lhs ≡ b → (b || is_nan rhs) ≡ true → 0x7fc00000 ≡ word_of (operation (float_of lhs) (float_of rhs))
    go true l h = nan_word ∙ ap word_of (sym (left (float_of rhs)) ∙ ap (λ (x : Float). operation x (float_of rhs)) (nan_float lhs l))
    go false l h = nan_word ∙ ap word_of (sym (right (float_of lhs)) ∙ ap (operation (float_of lhs)) (nan_float rhs h))

add_left : (y : Float) → Ieee.add binary32 nan y ≡ nan
unfolding Ieee.add
add_left y = refl

add_right : (x : Float) → Ieee.add binary32 x nan ≡ nan
unfolding Ieee.add
add_right nan = refl
add_right (inf s) = refl
add_right (fin s m e) = refl

pub added_nan : (lhs rhs : ℕ) → (is_nan lhs || is_nan rhs) ≡ true → 0x7fc00000 ≡ added lhs rhs
unfolding added
added_nan = nan_result (Ieee.add binary32) add_left add_right

sub_left : (y : Float) → Ieee.sub binary32 nan y ≡ nan
unfolding Ieee.sub Ieee.add Ieee.neg
sub_left y = refl

sub_right : (x : Float) → Ieee.sub binary32 x nan ≡ nan
unfolding Ieee.sub Ieee.add Ieee.neg
sub_right nan = refl
sub_right (inf s) = refl
sub_right (fin s m e) = refl

pub subtracted_nan : (lhs rhs : ℕ) → (is_nan lhs || is_nan rhs) ≡ true → 0x7fc00000 ≡ subtracted lhs rhs
unfolding subtracted
subtracted_nan = nan_result (Ieee.sub binary32) sub_left sub_right

mul_left : (y : Float) → Ieee.mul binary32 nan y ≡ nan
unfolding Ieee.mul
mul_left y = refl

mul_right : (x : Float) → Ieee.mul binary32 x nan ≡ nan
unfolding Ieee.mul
mul_right nan = refl
mul_right (inf s) = refl
mul_right (fin s m e) = refl

pub multiplied_nan : (lhs rhs : ℕ) → (is_nan lhs || is_nan rhs) ≡ true → 0x7fc00000 ≡ multiplied lhs rhs
unfolding multiplied
multiplied_nan = nan_result (Ieee.mul binary32) mul_left mul_right

-- ---- finite: below the infinity and above its negative

abbrev infinity : Float
infinity = of_bits binary32 0x7f800000

pub finite_above : (x : Float) → lt (neg infinity) x ≡ true → lt x infinity ≡ finite x
unfolding lt neg of_bits
finite_above nan e = refl
finite_above (inf true) e = absurd (subst T (sym e) tt)
finite_above (inf false) e = refl
finite_above (fin s m k) e = refl

pub finite_below : (x : Float) → lt (neg infinity) x ≡ false → false ≡ finite x
unfolding lt neg of_bits
finite_below nan e = refl
finite_below (inf s) e = refl
finite_below (fin s m k) e = absurd (subst T e tt)

-- std's test is the logic's
pub finite_float : (x : Float) → float_is_finite x ≡ finite x
unfolding float_is_finite
finite_float nan = refl
finite_float (inf s) = refl
finite_float (fin s m k) = refl

-- ---- neg and abs, which act on bits, are the floats' too: at a NaN both sides are NaN

-- a float with its sign cleared
unfoldable pub unsigned : Float → Float
unsigned nan = nan
unsigned (inf s) = inf false
unsigned (fin s m e) = fin false m e

sign_flips : (s : Bool) (x t : ℕ) → of_fields binary32 (not s) x t ≡ neg (of_fields binary32 s x t)
unfolding of_fields odd neg
sign_flips s zero zero = refl
sign_flips s zero (suc t) = refl
sign_flips s (suc x) t = go (suc x == 255) (t == 0)
  where
    number : (q : ℕ) → odd 24 (not s) q x 149 ≡ neg (odd 24 s q x 149)
    number zero = refl
    number (suc q) = refl

    go : (a b : Bool) → cond a (cond b (inf (not s)) nan) (odd 24 (not s) (8388608 + t) x 149) ≡ neg (cond a (cond b (inf s) nan) (odd 24 s (8388608 + t) x 149))
    go true true = refl
    go true false = refl
    go false b = number (8388608 + t)

sign_clears : (s : Bool) (x t : ℕ) → of_fields binary32 false x t ≡ unsigned (of_fields binary32 s x t)
unfolding of_fields odd unsigned
sign_clears s zero zero = refl
sign_clears s zero (suc t) = refl
sign_clears s (suc x) t = go (suc x == 255) (t == 0)
  where
    number : (q : ℕ) → odd 24 false q x 149 ≡ unsigned (odd 24 s q x 149)
    number zero = refl
    number (suc q) = refl

    go : (a b : Bool) → cond a (cond b (inf false) nan) (odd 24 false (8388608 + t) x 149) ≡ unsigned (cond a (cond b (inf s) nan) (odd 24 s (8388608 + t) x 149))
    go true true = refl
    go true false = refl
    go false b = number (8388608 + t)

-- two words that differ in bit 31 at most
same_fields : (m n : ℕ) → m % 0x80000000 ≡ n % 0x80000000 → float_of m ≡ of_fields binary32 (nat_le 0x80000000 m) (n % 0x80000000 / 8388608) (n % 8388608)
unfolding float_of of_bits
same_fields m n e = let low : m % 8388608 ≡ n % 8388608 = omega arith in rw (e, low)

pub negated_float : (word : ℕ) → Word word → float_of (negated word) ≡ neg (float_of word)
unfolding negated
negated_float word w = go (nat_lt word 0x80000000) refl
  where
    flipped : (n : ℕ) (s : Bool) → nat_le 0x80000000 n ≡ not s → nat_le 0x80000000 word ≡ s → n % 0x80000000 ≡ word % 0x80000000 → float_of n ≡ neg (float_of word)
    flipped n s p q e = rw (same_fields n word e, same_fields word word refl, p, q) (sign_flips s _ _)

    go : (b : Bool) → nat_lt word 0x80000000 ≡ b → float_of (cond b (word + 0x80000000) (word - 0x80000000)) ≡ neg (float_of word)
    go true e =
        let h : word < 0x80000000 = ltb-true word 0x80000000 e in
        flipped (word + 0x80000000) false (le-leb 0x80000000 (word + 0x80000000) (omega arith)) (lt-leb 0x80000000 word h) (omega arith)
    go false e =
        let h : 0x80000000 ≤ word = ltb-false word 0x80000000 e in
        flipped (word - 0x80000000) true (lt-leb 0x80000000 (word - 0x80000000) (omega arith)) (le-leb 0x80000000 word h) (omega arith)

pub absolute_float : (word : ℕ) → float_of (absolute word) ≡ unsigned (float_of word)
unfolding absolute
absolute_float word =
    let small : word % 0x80000000 < 0x80000000 = omega arith in
    let same : word % 0x80000000 % 0x80000000 ≡ word % 0x80000000 = omega arith in
    rw (same_fields (word % 0x80000000) word same, same_fields word word refl, lt-leb _ _ small) (sign_clears _ _ _)

-- ---- every operation makes a word of words

pub added_word : (lhs rhs : ℕ) → Word (added lhs rhs)
unfolding added word_of
added_word lhs rhs = to_bits-lt binary32 _ (add-fits binary32 _ _)

pub subtracted_word : (lhs rhs : ℕ) → Word (subtracted lhs rhs)
unfolding subtracted word_of
subtracted_word lhs rhs = to_bits-lt binary32 _ (sub-fits binary32 _ _)

pub multiplied_word : (lhs rhs : ℕ) → Word (multiplied lhs rhs)
unfolding multiplied word_of
multiplied_word lhs rhs = to_bits-lt binary32 _ (mul-fits binary32 _ _)

-- either way a word
either : (b : Bool) {x y : ℕ} → Word x → Word y → Word (cond b x y)
either true p q = p
either false p q = q

chosen_word : (leads : Bool) (lhs rhs : ℕ) → Word lhs → Word rhs → Word (chosen leads lhs rhs)
unfolding chosen
chosen_word leads lhs rhs p q = either (is_nan lhs) q (either (is_nan rhs) p (either leads p q))

pub lesser_word : (lhs rhs : ℕ) → Word lhs → Word rhs → Word (lesser lhs rhs)
unfolding lesser
lesser_word lhs rhs = chosen_word (is_less lhs rhs) lhs rhs

pub greater_word : (lhs rhs : ℕ) → Word lhs → Word rhs → Word (greater lhs rhs)
unfolding greater
greater_word lhs rhs = chosen_word (is_less rhs lhs) lhs rhs

pub negated_word : (word : ℕ) → Word word → Word (negated word)
unfolding negated
negated_word word w = go (nat_lt word 0x80000000) refl
  where
    go : (b : Bool) → nat_lt word 0x80000000 ≡ b → Word (cond b (word + 0x80000000) (word - 0x80000000))
    go true e = omega (arith, ltb-true word 0x80000000 e)
    go false e = omega arith

pub absolute_word : (word : ℕ) → Word (absolute word)
unfolding absolute
absolute_word word = omega arith

pub wrapping_difference_word : (lhs rhs : ℕ) → Word (wrapping_difference lhs rhs)
unfolding wrapping_difference
wrapping_difference_word lhs rhs = omega arith

pub operate_word : (code lhs rhs : ℕ) → Word lhs → Word rhs → Word (operate code lhs rhs)
unfolding operate
operate_word code lhs rhs p q =
    either (code == 5) (added_word lhs rhs)
    (either (code == 6) (subtracted_word lhs rhs)
    (either (code == 7) (multiplied_word lhs rhs)
    (either (code == 8) (lesser_word lhs rhs p q)
    (either (code == 9) (greater_word lhs rhs p q)
    (either (code == 10) (wrapping_difference_word lhs rhs)
    (either (code == 12) (negated_word lhs p)
    (either (code == 13) (absolute_word lhs) (omega arith))))))))
