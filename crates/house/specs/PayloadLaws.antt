-- Copying a section of the payload, block by block. Assumes nothing.
use Rattle.std.specs.Prelude.{◌≡◌, ℕ, ◌+◌, ◌*◌, ◌/◌, ◌%◌, ◌<◌, ◌≤◌, List, refl}
use Rattle.std.proofs.Common.{sym, ap, ◌∙◌, arith}
use Rattle.std.proofs.lemmas.List.Edits.{sets}
use Rattle.tables.specs.Stores.{sets_append}
use Rattle.tables.specs.Lists.{list_of, list_length, list_same}
use Rattle.tables.specs.Zeros.{copied}
use Rattle.house.specs.Generic.{list_add, shifted}
use Rattle.house.specs.Bytes.{words_from}
use Rattle.house.specs.Frame.{payload_from, section}
use Rattle.house.specs.FrameLaws.{payload_at}

-- ---- the loop's start, and its turn: the words i to i + n stand in one block, b, from its payload word k on
pub section_start : (bytes : List ℕ) (from : ℕ) (l : List ℕ) → l ≡ copied (section bytes from 0) l
unfolding copied list_of
section_start bytes from l = refl

pub section_next : (bytes : List ℕ) (from i n b k : ℕ) (l m t : List ℕ) → m ≡ copied (section bytes from i) l → b ≡ (from + i) / 124 → k ≡ (from + i) % 124 → k + n ≤ 124
    → t ≡ sets m i (list_of (words_from bytes (512 * b + 12 + 4 * k)) n) → t ≡ copied (section bytes from (i + n)) l
unfolding copied
section_next bytes from i n b k l m t e q r h f =
    let s : list_of (words_from bytes (512 * b + 12 + 4 * k)) n ≡ list_of (shifted (payload_from bytes from) i) n =
    list_same (words_from bytes (512 * b + 12 + 4 * k)) (shifted (payload_from bytes from) i) n (λ j p. same j p) in
    f ∙ rw (s, e) (sets_append l 0 i (section bytes from i) (list_of (shifted (payload_from bytes from) i) n) (omega (arith, list_length (payload_from bytes from) i)) ∙ ap (sets l 0) (sym (list_add (payload_from bytes from) i n)))
  where
    same : (j : ℕ) → j < n → words_from bytes (512 * b + 12 + 4 * k) j ≡ payload_from bytes from (i + j)
    same j p =
        let z : from + i + j ≡ from + (i + j) = omega arith in
        rw z at (payload_at bytes (from + i) b k j q r (omega arith))
