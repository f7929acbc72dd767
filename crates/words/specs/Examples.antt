-- The definitions at words that porters slip on, by computation.
use Rattle.std.specs.Prelude.{◌≡◌, true, false, refl}
use Rattle.std.specs.Float.Ieee.{round, sum, add, sub, lt, le, eq, neg, odd, units, size, span, climb, of_fields, of_bits, to_bits, is_nan}
use Rattle.std.specs.Int.Count.{count_trailing_zeros}
use Rattle.words.specs.Operations as words
use Rattle.words.specs.Operations.{float_of, word_of, added, lesser, greater, chosen, is_less, negated, wrapping_difference, within, span_is_valid, valid_span}

-- 1 + 2 is 3, and 2^24 + 1 is 2^24: the one rounding, ties to even
sum_of_one_and_two : added 0x3f800000 0x40000000 ≡ 0x40400000
unfolding added float_of word_of add sum round odd units size span climb count_trailing_zeros of_fields of_bits to_bits
sum_of_one_and_two = refl

rounded_sum : added 0x4b800000 0x3f800000 ≡ 0x4b800000
unfolding added float_of word_of add sum round odd units size span climb count_trailing_zeros of_fields of_bits to_bits
rounded_sum = refl

-- infinity less infinity is NaN's one word
nan_sum : added 0x7f800000 0xff800000 ≡ 0x7fc00000
unfolding added float_of word_of add of_fields of_bits to_bits
nan_sum = refl

-- zeros of either sign are neither less nor greater: the second is handed on, with its sign
least_zero : lesser 0x80000000 0x00000000 ≡ 0x00000000
unfolding lesser chosen is_less words.is_nan float_of lt odd of_fields of_bits is_nan
least_zero = refl

greatest_zero : greater 0x00000000 0x80000000 ≡ 0x80000000
unfolding greater chosen is_less words.is_nan float_of lt odd of_fields of_bits is_nan
greatest_zero = refl

-- a NaN gives way, and its sign flips all the same
nan_gives_way : lesser 0xffc00001 0x3f800000 ≡ 0x3f800000
unfolding lesser chosen is_less words.is_nan float_of lt odd of_fields of_bits is_nan count_trailing_zeros
nan_gives_way = refl

negated_nan : negated 0x7fc00001 ≡ 0xffc00001
unfolding negated
negated_nan = refl

-- recip's first estimate at 1.0 is near 1.0; below 0 the difference wraps
first_estimate : wrapping_difference 0x7ef311c7 0x3f800000 ≡ 0x3f7311c7
unfolding wrapping_difference
first_estimate = refl

wrapped : wrapping_difference 0 1 ≡ 0xffffffff
unfolding wrapping_difference
wrapped = refl

-- min -0 and max +0 span nothing; a default of -0 is not below a min of +0
zero_span : span_is_valid 0x80000000 0x00000000 0x00000000 ≡ false
unfolding span_is_valid valid_span within float_of le lt eq odd of_fields of_bits
zero_span = refl

zero_default : span_is_valid 0x00000000 0x3f800000 0x80000000 ≡ true
unfolding span_is_valid valid_span within float_of le lt eq sub add sum neg round odd units size span climb count_trailing_zeros of_fields of_bits
zero_default = refl

-- from the least to the greatest finite float is no finite span
widest_span : span_is_valid 0xff7fffff 0x7f7fffff 0x00000000 ≡ false
unfolding span_is_valid valid_span within float_of le lt eq sub add sum neg round odd units size span climb count_trailing_zeros of_fields of_bits
widest_span = refl
