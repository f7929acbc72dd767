-- The words of a written file as a reader finds them, and that its frame is accepted. Assumes nothing.
use Rattle.std.specs.Prelude.{◌≡◌, ℕ, zero, suc, ◌+◌, ◌-◌, ◌*◌, ◌/◌, ◌%◌, ◌<◌, ◌≤◌, min, Bool, false, List, [], ◌∷◌, ◌++◌, length, nat_lt, slice_index, refl}
use Rattle.std.proofs.Common.{sym, ap, ◌∙◌, ext_get_or, get_or-append-add}
use Rattle.std.proofs.Math.Decide.{dec_lt}
use native.Mathlib.Omega.{arith}
use Rattle.std.proofs.Math.ListN.{get_or-eq_default}
use borrow.Author.Tests.{le-ltb, ltb-true, eq-eqb, ne_eqb}
use Rattle.tables.specs.Tests.{differs_not, or_none, cond_pred}
use Rattle.tables.specs.Loops.{some_none}
use Rattle.tables.specs.Lists.{list_of, list_length, list_at}
use Rattle.answers.specs.Numbers.{accepted}
use Rattle.answers.specs.OrderLaws.{refuse_pass, refuse_off}
use Rattle.house.specs.Generic.{append_in, append_past, in_order_all}
use Rattle.house.specs.Bytes.{word_from, word_at, four_bytes, bytes_of, total, wrapping_sum, all_ones}
use Rattle.house.specs.BytesLaws.{total_append}
use Rattle.house.specs.Frame.{block_count, block_word, kind_in, number_in, used_in, payload_in, wrong_check, other_kind, wrong_kind, wrong_used, unused_word, rest_not_zero, bad_frame, block_answer, wrong_length, frame_answer, payload_length, payload_word}
use Rattle.house.specs.File.{padded, closed, block_words, share, blocks_for, file_words, file_of}
use Rattle.house.specs.Gather.{share_length, padded_length, padded_at}
use Rattle.house.specs.FileLaws.{block_length, words_length, file_length}

-- ---- bytes and words

pub word_behind : (xs ys : List ℕ) (n : ℕ) → word_from (xs ++ ys) (length xs + n) ≡ word_from ys n
unfolding word_from
word_behind xs ys n =
    let a : length xs + n + 1 ≡ length xs + (n + 1) = omega arith in
    let b : length xs + n + 2 ≡ length xs + (n + 2) = omega arith in
    let c : length xs + n + 3 ≡ length xs + (n + 3) = omega arith in
    rw (a, b, c, get_or-append-add xs ys n 0, get_or-append-add xs ys (n + 1) 0, get_or-append-add xs ys (n + 2) 0, get_or-append-add xs ys (n + 3) 0)

four_word : (w : ℕ) (ys : List ℕ) → word_from (four_bytes w ++ ys) 0 ≡ w
unfolding word_from
four_word w ys = omega arith

-- the words of the bytes of words are the words
pub word_of_bytes : (ws : List ℕ) (i : ℕ) → i < length ws → word_at (bytes_of ws) i ≡ slice_index ws i
unfolding bytes_of
word_of_bytes [] i h = absurd (omega arith)
word_of_bytes (w ∷ ws) zero h = four_word w (bytes_of ws)
word_of_bytes (w ∷ ws) (suc i) h =
    let z : 4 * suc i ≡ 4 + 4 * i = omega arith in
    rw z (word_behind (four_bytes w) (bytes_of ws) (4 * i) ∙ word_of_bytes ws i (omega arith))

-- ---- the words of a file
pub file_word : (kind : ℕ) (payload : List ℕ) (n b k : ℕ) → b < n → k < 128 → slice_index (file_words kind payload n) (128 * b + k) ≡ slice_index (block_words kind b (share payload b)) k
unfolding file_words
file_word kind payload zero b k h g = absurd (omega arith)
file_word kind payload (suc n) b k h g = go (dec_lt b n) (file_word kind payload n b k)
  where
    go : Dec (b < n) → (b < n → k < 128 → slice_index (file_words kind payload n) (128 * b + k) ≡ slice_index (block_words kind b (share payload b)) k)
        → slice_index (file_words kind payload n ++ block_words kind n (share payload n)) (128 * b + k) ≡ slice_index (block_words kind b (share payload b)) k
    go (yes p) ih =
        append_in (file_words kind payload n) (block_words kind n (share payload n)) (128 * b + k) (omega (arith, words_length kind payload n)) ∙ ih p g
    go (no p) ih =
        let e : b ≡ n = omega arith in
        let l = words_length kind payload n in
        let z : 128 * b + k - length (file_words kind payload n) ≡ k = omega arith in
        append_past (file_words kind payload n) (block_words kind n (share payload n)) (128 * b + k) (omega arith)
        ∙ (ap (λ (x : ℕ). slice_index (block_words kind n (share payload n)) x) z ∙ ap (λ (x : ℕ). slice_index (block_words kind x (share payload x)) k) (sym e))

module _ (kind : ℕ) (payload : List ℕ) where
  pub count_is : block_count (file_of kind payload) ≡ blocks_for (length payload)
  count_is = let l = file_length kind payload in omega arith

  module _ (b : ℕ) (h : b < blocks_for (length payload)) where
    pub word_is : (k : ℕ) → k < 128 → block_word (file_of kind payload) b k ≡ slice_index (block_words kind b (share payload b)) k
    unfolding block_word file_of
    word_is k g =
        word_of_bytes (file_words kind payload (blocks_for (length payload))) (128 * b + k) (omega (arith, words_length kind payload (blocks_for (length payload))))
        ∙ file_word kind payload (blocks_for (length payload)) b k h g

    pub kind_is : kind_in (file_of kind payload) b ≡ kind
    kind_is = word_is 0 (omega arith)

    pub number_is : number_in (file_of kind payload) b ≡ b
    number_is = word_is 1 (omega arith)

    pub used_is : used_in (file_of kind payload) b ≡ min 124 (length payload - 124 * b)
    used_is = word_is 2 (omega arith) ∙ share_length payload b

    pub payload_is : (i : ℕ) → i < 124 → payload_in (file_of kind payload) b i ≡ slice_index payload (124 * b + i)
    payload_is i g =
        let l = padded_length (share payload b) (omega (arith, share_length payload b)) in
        let z : 3 + i ≡ suc (suc (suc i)) = omega arith in
        let n : length (kind ∷ b ∷ length (share payload b) ∷ padded (share payload b)) ≡ 127 = omega arith in
        word_is (3 + i) (omega arith)
        ∙ (append_in (kind ∷ b ∷ length (share payload b) ∷ padded (share payload b)) _ (3 + i) (omega arith)
        ∙ rw z (padded_at payload b i g))

    -- the 128 words together, and their sum
    pub words_are : list_of (block_word (file_of kind payload) b) 128 ≡ block_words kind b (share payload b)
    words_are =
        let n = list_length (block_word (file_of kind payload) b) 128 in
        let l = block_length kind b (share payload b) (omega (arith, share_length payload b)) in
        ext_get_or 0 (list_of (block_word (file_of kind payload) b) 128) (block_words kind b (share payload b)) (omega arith)
        (λ k g. list_at (block_word (file_of kind payload) b) 128 k (omega arith) ∙ word_is k (omega arith))

-- a closed list of words has the sum that the check is for
pub closed_sum : (words : List ℕ) → wrapping_sum (closed words) ≡ all_ones
unfolding total
closed_sum words =
    let t = total_append words ((all_ones - total words % 4294967296) ∷ []) in
    omega arith

-- ---- each test of a block of the file fails
module _ (low high kind : ℕ) (payload : List ℕ) (f : low ≤ kind) (t : kind ≤ high) (b : ℕ) (h : b < blocks_for (length payload)) where
  check_right : wrong_check (file_of kind payload) b ≡ false
  unfolding wrong_check
  check_right = differs_not _ _ (ap wrapping_sum (words_are kind payload b h) ∙ closed_sum (kind ∷ b ∷ length (share payload b) ∷ padded (share payload b)))

  kind_right : wrong_kind low high (file_of kind payload) b ≡ false
  unfolding wrong_kind other_kind
  kind_right =
      let k = kind_is kind payload b h in
      let z = kind_is kind payload 0 (omega arith) in
      rw (k, z, le-ltb kind low f, le-ltb high kind t, eq-eqb kind kind refl)

  used_right : wrong_used (file_of kind payload) b ≡ false
  unfolding wrong_used
  used_right =
      let u = used_is kind payload b h in
      let n = count_is kind payload in
      cond_pred (λ (x : Bool). x ≡ false) (nat_lt (b + 1) (block_count (file_of kind payload)))
      (λ e. differs_not _ _ (inner u n (ltb-true _ _ e)))
      (λ e. or_none _ _ (le-ltb (used_in (file_of kind payload) b) 1 (omega arith)) (le-ltb 124 (used_in (file_of kind payload) b) (omega arith)))
    where
      inner : used_in (file_of kind payload) b ≡ min 124 (length payload - 124 * b) → block_count (file_of kind payload) ≡ blocks_for (length payload)
          → b + 1 < block_count (file_of kind payload) → used_in (file_of kind payload) b ≡ 124
      inner u n g = omega arith

  rest_right : rest_not_zero (file_of kind payload) b ≡ false
  unfolding rest_not_zero
  rest_right =
      let u = used_is kind payload b h in
      some_none (unused_word (file_of kind payload) b) (124 - used_in (file_of kind payload) b)
      (λ i g. differs_not _ _ (payload_is kind payload b h (used_in (file_of kind payload) b + i) (omega arith) ∙ get_or-eq_default payload 0 (omega arith)))

  pub block_accepted : block_answer low high (file_of kind payload) b ≡ accepted tt
  unfolding block_answer bad_frame
  block_accepted =
      refuse_pass 20 _ check_right
      ∙ refuse_off 21 (or_none _ _ (or_none _ _ (or_none _ _ kind_right (differs_not _ _ (number_is kind payload b h))) used_right) rest_right)

-- THE FRAME OF A WRITTEN FILE IS ACCEPTED by a reader that takes its kind
pub frame_accepted : (low high kind : ℕ) (payload : List ℕ) → low ≤ kind → kind ≤ high → 1 ≤ length payload → frame_answer low high (file_of kind payload) ≡ accepted tt
unfolding frame_answer wrong_length
frame_accepted low high kind payload f t h =
    let l = file_length kind payload in
    let n = count_is kind payload in
    refuse_pass 21 _ (or_none _ _ (ne_eqb (length (file_of kind payload)) 0 (λ e. omega arith)) (differs_not (length (file_of kind payload) % 512) 0 (omega arith)))
    ∙ in_order_all _ _ (λ b g. block_accepted low high kind payload f t b (omega arith))

-- its payload is the one that was written
pub payload_length_is : (kind : ℕ) (payload : List ℕ) → 1 ≤ length payload → payload_length (file_of kind payload) ≡ length payload
unfolding payload_length
payload_length_is kind payload h =
    let n = count_is kind payload in
    let u = used_is kind payload (block_count (file_of kind payload) - 1) (omega arith) in
    omega arith

pub payload_word_is : (kind : ℕ) (payload : List ℕ) (i : ℕ) → i < length payload → payload_word (file_of kind payload) i ≡ slice_index payload i
unfolding payload_word
payload_word_is kind payload i h =
    let z : 124 * (i / 124) + i % 124 ≡ i = omega arith in
    payload_is kind payload (i / 124) (omega arith) (i % 124) (omega arith) ∙ ap (λ (x : ℕ). slice_index payload x) z
