-- Document 01, "House file": "little-endian words". Four bytes as a word, a word as four bytes, and the wrapping sum. Definitions alone.
use Rattle.std.specs.Prelude.{ℕ, ◌+◌, ◌*◌, ◌/◌, ◌%◌, List, [], ◌∷◌, ◌++◌, slice_index}

-- the word whose four bytes begin at the place `at`, the lowest first
unfoldable pub word_from : List ℕ → ℕ → ℕ
word_from bytes at =
    slice_index bytes at + 256 * slice_index bytes (at + 1) + 65536 * slice_index bytes (at + 2) + 16777216 * slice_index bytes (at + 3)

-- word i of a list of bytes
abbrev pub word_at : List ℕ → ℕ → ℕ
word_at bytes i = word_from bytes (4 * i)

-- word i of the bytes from the place `at` on
abbrev pub words_from : List ℕ → ℕ → ℕ → ℕ
words_from bytes at i = word_from bytes (at + 4 * i)

-- the four bytes of a word
abbrev pub four_bytes : ℕ → List ℕ
four_bytes w = w % 256 ∷ w / 256 % 256 ∷ w / 65536 % 256 ∷ w / 16777216 ∷ []

-- the bytes of words in order
unfoldable pub bytes_of : List ℕ → List ℕ
bytes_of [] = []
bytes_of (w ∷ ws) = four_bytes w ++ bytes_of ws

-- "the wrapping sum" of words
unfoldable pub total : List ℕ → ℕ
total [] = 0
total (w ∷ ws) = w + total ws

abbrev pub wrapping_sum : List ℕ → ℕ
wrapping_sum ws = total ws % 4294967296

-- "The wrapping sum of all 128 words is 0xFFFFFFFF"
abbrev pub all_ones : ℕ
all_ones = 4294967295
