-- Document 01, module 1: the operations on words that hold f32 bits, and the tests of a parameter's words.
-- Floats, their one rounding and their comparisons are the logic's own account of IEEE 754 (`lib.Ieee`). Definitions only.
use Rattle.std.specs.Prelude.{ℕ, ◌+◌, ◌-◌, ◌%◌, ◌<◌, Bool, cond, not, ◌&&◌, ◌==◌, nat_lt, Float}
use Rattle.std.specs.Float.Ieee as Ieee
use Rattle.std.specs.Float.{binary32}
use Rattle.std.specs.Float.Ieee.Scale.{finite}

-- "All values are 32-bit words."
abbrev pub Word : ℕ → Type 0
Word n = n < 4294967296

-- "Word operations take bits to f32 .. return bits". Every NaN pattern is read as the one NaN; NaN is written 0x7fc00000 (`nan_word`).
unfoldable pub float_of : ℕ → Float
float_of word = Ieee.of_bits binary32 word

unfoldable pub word_of : Float → ℕ
word_of x = Ieee.to_bits binary32 x

-- "Add, sub, mul are one f32 operation each."
unfoldable pub added : ℕ → ℕ → ℕ
added lhs rhs = word_of (Ieee.add binary32 (float_of lhs) (float_of rhs))

unfoldable pub subtracted : ℕ → ℕ → ℕ
subtracted lhs rhs = word_of (Ieee.sub binary32 (float_of lhs) (float_of rhs))

unfoldable pub multiplied : ℕ → ℕ → ℕ
multiplied lhs rhs = word_of (Ieee.mul binary32 (float_of lhs) (float_of rhs))

-- "if lhs is NaN"
unfoldable pub is_nan : ℕ → Bool
is_nan word = Ieee.is_nan (float_of word)

-- "if it is less": the one comparison that min and max go by. As floats, so -0 is not less than +0, nor a NaN than anything.
unfoldable pub is_less : ℕ → ℕ → Bool
is_less lhs rhs = Ieee.lt (float_of lhs) (float_of rhs)

-- "if lhs is NaN, rhs; if rhs is NaN, lhs; lhs if it is less, else rhs": the rule of both, `leads` saying whether lhs is less, or greater.
unfoldable pub chosen : Bool → ℕ → ℕ → ℕ
chosen leads lhs rhs = cond (is_nan lhs) rhs (cond (is_nan rhs) lhs (cond leads lhs rhs))

-- "Min: .. lhs if it is less, else rhs. Max likewise with greater." The operand's own bits are handed on.
unfoldable pub lesser : ℕ → ℕ → ℕ
lesser lhs rhs = chosen (is_less lhs rhs) lhs rhs

unfoldable pub greater : ℕ → ℕ → ℕ
greater lhs rhs = chosen (is_less rhs lhs) lhs rhs

-- "Neg flips .. any sign bit": bit 31, also a NaN's.
unfoldable pub negated : ℕ → ℕ
negated word = cond (nat_lt word 0x80000000) (word + 0x80000000) (word - 0x80000000)

-- ".. and abs clears any sign bit": what is left of the word below bit 31.
unfoldable pub absolute : ℕ → ℕ
absolute word = word % 0x80000000

-- "Integer sub is the wrapping difference of the two words."
unfoldable pub wrapping_difference : ℕ → ℕ → ℕ
wrapping_difference lhs rhs = (lhs + 4294967296 - rhs) % 4294967296

-- What a computing node of this code makes of its operands' words: 5 add, 6 sub, 7 mul, 8 min, 9 max, 10 sub_bits, 12 neg, 13 abs.
-- Neg and abs have no rhs. No other code computes in an expanded block: 0.
unfoldable pub operate : ℕ → ℕ → ℕ → ℕ
operate code lhs rhs =
    cond (code == 5) (added lhs rhs)
    (cond (code == 6) (subtracted lhs rhs)
    (cond (code == 7) (multiplied lhs rhs)
    (cond (code == 8) (lesser lhs rhs)
    (cond (code == 9) (greater lhs rhs)
    (cond (code == 10) (wrapping_difference lhs rhs)
    (cond (code == 12) (negated lhs)
    (cond (code == 13) (absolute lhs) 0)))))))

-- "not finite": an infinity or a NaN.
unfoldable pub is_finite : ℕ → Bool
is_finite word = finite (float_of word)

-- The Rust's `value.is_finite()` and `(min..=max).contains(&value)`, on floats: -0 is neither below nor above +0.
unfoldable pub within : Float → Float → Float → Bool
within min max value = finite value && Ieee.le min value && Ieee.le value max

-- None of answer 7's "parameter not finite, min >= max, max-min not finite, default outside", on floats; max-min is rounded to f32.
unfoldable pub valid_span : Float → Float → Float → Bool
valid_span min max default =
    finite min && finite max && not (Ieee.le max min) && finite (Ieee.sub binary32 max min) && within min max default

-- Answer 18 is "not finite or outside min..max": a value in range has neither. Nothing is in range of a NaN.
unfoldable pub in_range : ℕ → ℕ → ℕ → Bool
in_range min max value = within (float_of min) (float_of max) (float_of value)

-- A parameter's three words as validation passes them: answer 7 is given where this is false.
unfoldable pub span_is_valid : ℕ → ℕ → ℕ → Bool
span_is_valid min max default = valid_span (float_of min) (float_of max) (float_of default)
