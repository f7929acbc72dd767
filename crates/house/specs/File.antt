-- Document 01, "House file": the file of a kind and a payload, as it is written. Definitions alone.
use Rattle.std.specs.Prelude.{ℕ, zero, suc, ◌+◌, ◌-◌, ◌*◌, ◌/◌, List, [], ◌∷◌, ◌++◌, length, slice_index}
use Rattle.tables.specs.Parts.{part}
use Rattle.tables.specs.Zeros.{zeros}
use Rattle.house.specs.Bytes.{bytes_of, wrapping_sum, all_ones}

-- "124 payload words": what is not used "is 0"
abbrev pub padded : List ℕ → List ℕ
padded words = words ++ zeros (124 - length words)

-- "The wrapping sum of all 128 words is 0xFFFFFFFF": the last word, from the 127 before it
abbrev pub check_of : List ℕ → ℕ
check_of words = all_ones - wrapping_sum words

abbrev pub closed : List ℕ → List ℕ
closed words = words ++ (check_of words ∷ [])

-- "kind .., block number from 0, used count, 124 payload words, check"
abbrev pub block_words : ℕ → ℕ → List ℕ → List ℕ
block_words kind number words = closed (kind ∷ number ∷ length words ∷ padded words)

-- "Each block but the last uses 124; the last 1..124": what block b has of a payload
unfoldable pub share : List ℕ → ℕ → List ℕ
share payload b = part (124 * b) 124 payload

-- the same word by word, with zeros past the end
abbrev pub share_word : List ℕ → ℕ → ℕ → ℕ
share_word payload from i = slice_index payload (from + i)

abbrev pub blocks_for : ℕ → ℕ
blocks_for count = (count + 123) / 124

-- the words of the first n blocks
unfoldable pub file_words : ℕ → List ℕ → ℕ → List ℕ
file_words kind payload zero = []
file_words kind payload (suc n) = file_words kind payload n ++ block_words kind n (share payload n)

-- the bytes of the whole file
unfoldable pub file_of : ℕ → List ℕ → List ℕ
file_of kind payload = bytes_of (file_words kind payload (blocks_for (length payload)))

-- how many bytes the file of a payload has
abbrev pub file_length : ℕ → ℕ
file_length count = 512 * blocks_for count
