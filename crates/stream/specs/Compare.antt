-- Two renderings compared: the first sample that differs, with both words, or the place where the shorter one ends. Definitions alone.
use Rattle.std.specs.Prelude.{Bool, cond, not, List, ℕ, zero, suc, ◌+◌, ◌-◌, ◌*◌, min, ltb, eqb}
use Rattle.house.specs.Frame.{block_count, payload_word}
use Rattle.house.specs.Payload.{rendering_in, samples_at}
use Rattle.stream.specs.declared.Comparison.{Comparison}
use Rattle.stream.specs.declared.Difference.{Difference}
use Rattle.stream.specs.declared.Difference.TheVariants as D

-- ---- over whole files

-- sample i of a rendering's file
abbrev pub sample_in : List ℕ → ℕ → ℕ
sample_in file i = payload_word file (samples_at + i)

abbrev pub samples_differ : List ℕ → List ℕ → ℕ → Bool
samples_differ a b i = not (eqb (sample_in a i) (sample_in b i))

-- the first index below n that passes the test, else n
unfoldable pub first_of : (ℕ → Bool) → ℕ → ℕ
first_of test zero = 0
first_of test (suc n) = cond (ltb (first_of test n) n) (first_of test n) (cond (test n) n (suc n))

-- of two renderings with m and n samples, whose first difference is at `place`, with these words
unfoldable pub difference_at : ℕ → ℕ → ℕ → ℕ → ℕ → Difference
difference_at m n place one two = cond (ltb place (min m n)) (D.Sample place one two) (cond (eqb m n) D.Nothing (D.Ends (min m n)))

-- WHAT A COMPARISON TELLS of two files that read as renderings
unfoldable pub difference : List ℕ → List ℕ → Difference
difference a b =
    let place = first_of (samples_differ a b) (min (rendering_in a).samples (rendering_in b).samples) in
    difference_at (rendering_in a).samples (rendering_in b).samples place (sample_in a place) (sample_in b place)

-- ---- a pair of blocks after the other

-- how many samples so many blocks hold: the first word of the first is the sample count
unfoldable pub samples_in : ℕ → ℕ
samples_in blocks = 124 * blocks - 1

-- WHAT IS KEPT of equally many blocks of both: how many samples are equal before the first that differs, and the two words of that one, 0 while there is none
unfoldable pub comparison_of : List ℕ → List ℕ → Comparison
comparison_of a b =
    let seen = samples_in (block_count a) in
    let equal = first_of (samples_differ a b) seen in
    record {
      pairs = block_count a;
      equal = equal;
      one = cond (ltb equal seen) (sample_in a equal) 0;
      two = cond (ltb equal seen) (sample_in b equal) 0;
    }

-- ---- one pair more, from what is kept and from the two blocks alone

-- the first payload word of a block that is a sample
unfoldable pub first_place : ℕ → ℕ
first_place blocks = cond (eqb blocks 0) 1 0

abbrev pub words_differ : List ℕ → List ℕ → ℕ → ℕ → Bool
words_differ a b from i = not (eqb (payload_word a (from + i)) (payload_word b (from + i)))

-- a payload word of a block, 0 past its last
unfoldable pub word_or : List ℕ → ℕ → ℕ
word_or block place = cond (ltb place 124) (payload_word block place) 0

unfoldable pub pair_more : Comparison → List ℕ → List ℕ → Comparison
pair_more c a b =
    let seen = samples_in c.pairs in
    let from = first_place c.pairs in
    let more = first_of (words_differ a b from) (124 - from) in
    record {
      pairs = c.pairs + 1;
      equal = cond (ltb c.equal seen) c.equal (seen + more);
      one = cond (ltb c.equal seen) c.one (word_or a (from + more));
      two = cond (ltb c.equal seen) c.two (word_or b (from + more));
    }
