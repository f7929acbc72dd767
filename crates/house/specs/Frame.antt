-- Document 01, "House file": the 512-byte blocks of a file that is read, and its answers 20 and 21. Definitions alone.
use Rattle.std.specs.Prelude.{ℕ, ◌+◌, ◌-◌, ◌*◌, ◌/◌, ◌%◌, Bool, cond, not, ◌||◌, List, length, ◌==◌, nat_lt}
use Rattle.tables.specs.Loops.{some}
use Rattle.tables.specs.Lists.{list_of}
use Rattle.answers.specs.Numbers.{Answer}
use Rattle.answers.specs.Order.{◌⨾◌, refuse, in_order}
use Rattle.house.specs.Bytes.{word_at, wrapping_sum, all_ones}

-- "kind (1 effect block, 2 graph rendering, 3 step rendering)"
abbrev pub effect_kind : ℕ
effect_kind = 1

abbrev pub graph_kind : ℕ
graph_kind = 2

abbrev pub step_kind : ℕ
step_kind = 3

-- "A file is 512-byte blocks of 128 little-endian words"
abbrev pub block_count : List ℕ → ℕ
block_count bytes = length bytes / 512

-- word k of block b
unfoldable pub block_word : List ℕ → ℕ → ℕ → ℕ
block_word bytes b k = word_at bytes (128 * b + k)

-- "kind .., block number from 0, used count, 124 payload words, check"
abbrev pub kind_in : List ℕ → ℕ → ℕ
kind_in bytes b = block_word bytes b 0

abbrev pub number_in : List ℕ → ℕ → ℕ
number_in bytes b = block_word bytes b 1

abbrev pub used_in : List ℕ → ℕ → ℕ
used_in bytes b = block_word bytes b 2

abbrev pub payload_in : List ℕ → ℕ → ℕ → ℕ
payload_in bytes b i = block_word bytes b (3 + i)

-- ---- 20: "a 512-byte block's check is wrong"; "The wrapping sum of all 128 words is 0xFFFFFFFF"
unfoldable pub wrong_check : List ℕ → ℕ → Bool
wrong_check bytes b = not (wrapping_sum (list_of (block_word bytes b) 128) == all_ones)

-- ---- 21: "any other fault of the file's frame"

-- a kind that the reader does not take: it takes those from `low` to `high`
unfoldable pub other_kind : ℕ → ℕ → ℕ → Bool
other_kind low high kind = nat_lt kind low || nat_lt high kind

-- a kind that the reader does not take, or another than the first block's
unfoldable pub wrong_kind : ℕ → ℕ → List ℕ → ℕ → Bool
wrong_kind low high bytes b = other_kind low high (kind_in bytes b) || not (kind_in bytes b == kind_in bytes 0)

-- "Each block but the last uses 124; the last 1..124"
unfoldable pub wrong_used : List ℕ → ℕ → Bool
wrong_used bytes b =
    cond (nat_lt (b + 1) (block_count bytes)) (not (used_in bytes b == 124)) (nat_lt (used_in bytes b) 1 || nat_lt 124 (used_in bytes b))

-- "the rest is 0"
abbrev pub unused_word : List ℕ → ℕ → ℕ → Bool
unused_word bytes b i = not (payload_in bytes b (used_in bytes b + i) == 0)

unfoldable pub rest_not_zero : List ℕ → ℕ → Bool
rest_not_zero bytes b = some (unused_word bytes b) (124 - used_in bytes b)

unfoldable pub bad_frame : ℕ → ℕ → List ℕ → ℕ → Bool
bad_frame low high bytes b = wrong_kind low high bytes b || not (number_in bytes b == b) || wrong_used bytes b || rest_not_zero bytes b

-- "blocks are judged in order, 20 before 21 in each"
unfoldable pub block_answer : ℕ → ℕ → List ℕ → ℕ → Answer Unit
block_answer low high bytes b = refuse 20 (wrong_check bytes b) ⨾ refuse 21 (bad_frame low high bytes b)

-- the same of a block that stands at the place b and should have the number `number`, in a file whose first block has the kind `first`
unfoldable pub bad_block : ℕ → ℕ → ℕ → ℕ → List ℕ → ℕ → Bool
bad_block low high first number bytes b =
    other_kind low high (kind_in bytes b) || not (kind_in bytes b == first) || not (number_in bytes b == number) || wrong_used bytes b || rest_not_zero bytes b

unfoldable pub judged_block : ℕ → ℕ → ℕ → ℕ → List ℕ → ℕ → Answer Unit
judged_block low high first number bytes b = refuse 20 (wrong_check bytes b) ⨾ refuse 21 (bad_block low high first number bytes b)

-- "A length of 0 or not a multiple of 512 is 21 before all"
unfoldable pub wrong_length : List ℕ → Bool
wrong_length bytes = length bytes == 0 || not (length bytes % 512 == 0)

unfoldable pub frame_answer : ℕ → ℕ → List ℕ → Answer Unit
frame_answer low high bytes = refuse 21 (wrong_length bytes) ⨾ in_order (block_answer low high bytes) (block_count bytes)

-- ---- the payload of a file: the used words of its blocks, in order

-- how many words it has: every block but the last uses 124
unfoldable pub payload_length : List ℕ → ℕ
payload_length bytes = 124 * (block_count bytes - 1) + used_in bytes (block_count bytes - 1)

unfoldable pub payload_word : List ℕ → ℕ → ℕ
payload_word bytes i = payload_in bytes (i / 124) (i % 124)

-- so many words of it from one on
abbrev pub payload_from : List ℕ → ℕ → ℕ → ℕ
payload_from bytes from i = payload_word bytes (from + i)

abbrev pub section : List ℕ → ℕ → ℕ → List ℕ
section bytes from count = list_of (payload_from bytes from) count
