-- The tests of a block and of a frame, each way out from the tests that lead to it; what an accepted frame says. Assumes nothing.
use Rattle.std.specs.Prelude.{◌≡◌, ℕ, ◌+◌, ◌-◌, ◌*◌, ◌/◌, ◌%◌, ◌<◌, ◌≤◌, Bool, true, false, not, ◌||◌, List, [], length, ◌==◌, ◌≢◌, nat_lt}
use Rattle.std.proofs.Math.Path.{refl, sym}
use Rattle.std.proofs.Common.{ap, ◌∙◌}
use native.Mathlib.Omega.{arith}
use borrow.Author.Tests.{lt-ltb, le-ltb, eq-eqb, ne_eqb}
use Rattle.tables.specs.Tests.{differs, differs_not, or_left, or_right, or_none}
use Rattle.tables.specs.Loops.{some, some_stop, some_end}
use Rattle.answers.specs.Numbers.{Answer, accepted, refused}
use Rattle.answers.specs.Order.{in_order}
use Rattle.answers.specs.OrderLaws.{refuse_stop, refuse_pass, refuse_on, refuse_off}
use Rattle.house.specs.Bytes.{word_from, wrapping_sum, all_ones}
use Rattle.tables.specs.Lists.{list_of}
use Rattle.house.specs.Frame.{block_word, kind_in, number_in, used_in, wrong_check, other_kind, wrong_kind, wrong_used, unused_word, rest_not_zero, bad_frame, block_answer, bad_block, judged_block, wrong_length, frame_answer, payload_length, payload_word}

-- a word of a block, by the place of its first byte
pub block_word_at : (bytes : List ℕ) (b k r : ℕ) → r ≡ word_from bytes (512 * b + 4 * k) → r ≡ block_word bytes b k
unfolding block_word
block_word_at bytes b k r e = let z : 512 * b + 4 * k ≡ 4 * (128 * b + k) = omega arith in e ∙ ap (word_from bytes) z

-- ---- the kind k of block b, and f of the first block
module _ (low high : ℕ) (bytes : List ℕ) (b k : ℕ) (e : k ≡ kind_in bytes b) where
  pub kind_low : k < low → true ≡ wrong_kind low high bytes b
  unfolding wrong_kind other_kind
  kind_low h = rw (← e, lt-ltb k low h)

  pub kind_high : low ≤ k → high < k → true ≡ wrong_kind low high bytes b
  unfolding wrong_kind other_kind
  kind_high g h = rw (← e, le-ltb k low g, lt-ltb high k h)

  pub kind_first : (f : ℕ) → low ≤ k → k ≤ high → f ≡ kind_in bytes 0 → not (k == f) ≡ wrong_kind low high bytes b
  unfolding wrong_kind other_kind
  kind_first f g h i = rw (← e, ← i, le-ltb k low g, le-ltb high k h)

-- ---- the used count u of block b
module _ (bytes : List ℕ) (b u : ℕ) (e : u ≡ used_in bytes b) where
  pub used_inner : b + 1 < length bytes / 512 → not (u == 124) ≡ wrong_used bytes b
  unfolding wrong_used
  used_inner h = rw (← e, lt-ltb (b + 1) (length bytes / 512) h)

  pub used_none : length bytes / 512 ≤ b + 1 → u < 1 → true ≡ wrong_used bytes b
  unfolding wrong_used
  used_none h l = rw (← e, le-ltb (b + 1) (length bytes / 512) h, lt-ltb u 1 l)

  pub used_last : length bytes / 512 ≤ b + 1 → 1 ≤ u → nat_lt 124 u ≡ wrong_used bytes b
  unfolding wrong_used
  used_last h l = rw (← e, le-ltb (b + 1) (length bytes / 512) h, le-ltb u 1 l)

  -- the words past it
  pub rest_none : 124 < u → false ≡ rest_not_zero bytes b
  unfolding rest_not_zero some
  rest_none h = let z : 124 - used_in bytes b ≡ 0 = omega arith in rw z

  pub rest_found : (i w : ℕ) → i < 124 - u → w ≡ block_word bytes b (3 + (u + i)) → (w ≢ 0) → true ≡ rest_not_zero bytes b
  unfolding rest_not_zero
  rest_found i w h f n =
      sym (some_stop (unused_word bytes b) (124 - used_in bytes b) i (rw (← e) h) (rw (← e, ← f) (differs w 0 n)))

  pub rest_next : (i w : ℕ) → w ≡ block_word bytes b (3 + (u + i)) → w ≡ 0 → unused_word bytes b i ≡ false
  rest_next i w f n = rw (← e, ← f) (differs_not w 0 n)

  pub rest_clear : (i : ℕ) → i ≤ 124 - u → 124 - u ≤ i → some (unused_word bytes b) i ≡ false → false ≡ rest_not_zero bytes b
  unfolding rest_not_zero
  rest_clear i h l s = sym (some_end (unused_word bytes b) i (124 - used_in bytes b) (rw (← e) h) (rw (← e) l) s)

-- ---- the frame of block b
module _ (low high : ℕ) (bytes : List ℕ) (b : ℕ) where
  pub frame_kind : wrong_kind low high bytes b ≡ true → true ≡ bad_frame low high bytes b
  unfolding bad_frame
  frame_kind h = rw h

  pub frame_number : (n : ℕ) → n ≡ number_in bytes b → (n ≢ b) → true ≡ bad_frame low high bytes b
  unfolding bad_frame
  frame_number n e h =
      sym (or_left _ (rest_not_zero bytes b) (or_left _ (wrong_used bytes b) (or_right (wrong_kind low high bytes b) _ (rw (← e) (differs n b h)))))

  pub frame_used : wrong_used bytes b ≡ true → true ≡ bad_frame low high bytes b
  unfolding bad_frame
  frame_used h = sym (or_left _ (rest_not_zero bytes b) (or_right (wrong_kind low high bytes b || not (number_in bytes b == b)) (wrong_used bytes b) h))

  pub frame_rest : (n : ℕ) (r : Bool) → wrong_kind low high bytes b ≡ false → n ≡ number_in bytes b → n ≡ b → wrong_used bytes b ≡ false → r ≡ rest_not_zero bytes b
      → r ≡ bad_frame low high bytes b
  unfolding bad_frame
  frame_rest n r k e h u f = rw (k, ← e, eq-eqb n b h, u, f)

  pub block_check : (s : ℕ) → s ≡ wrapping_sum (list_of (block_word bytes b) 128) → (s ≢ all_ones) → refused 20 [] ≡ block_answer low high bytes b
  unfolding block_answer wrong_check
  block_check s e h = sym (refuse_stop 20 _ (rw (← e) (differs s all_ones h)))

  -- behind a right check
  pub block_bad : (s : ℕ) → s ≡ wrapping_sum (list_of (block_word bytes b) 128) → s ≡ all_ones → bad_frame low high bytes b ≡ true → refused 21 [] ≡ block_answer low high bytes b
  unfolding block_answer wrong_check
  block_bad s e h f = sym (refuse_pass 20 _ (rw (← e) (differs_not s all_ones h)) ∙ refuse_on 21 f)

  pub block_good : (s : ℕ) → s ≡ wrapping_sum (list_of (block_word bytes b) 128) → s ≡ all_ones → bad_frame low high bytes b ≡ false → accepted tt ≡ block_answer low high bytes b
  unfolding block_answer wrong_check
  block_good s e h f = sym (refuse_pass 20 _ (rw (← e) (differs_not s all_ones h)) ∙ refuse_off 21 f)

-- ---- a block at the place b, with the sum s of its words, that should have the number `number` where the first block's kind is `first`
module _ (low high first number : ℕ) (bytes : List ℕ) (b s : ℕ) (e : s ≡ wrapping_sum (list_of (block_word bytes b) 128)) where
  pub judged_check : (s ≢ all_ones) → refused 20 [] ≡ judged_block low high first number bytes b
  unfolding judged_block wrong_check
  judged_check h = sym (refuse_stop 20 _ (rw (← e) (differs s all_ones h)))

  -- behind a right check
  module _ (h : s ≡ all_ones) where
    pub judged_bad : bad_block low high first number bytes b ≡ true → refused 21 [] ≡ judged_block low high first number bytes b
    unfolding judged_block wrong_check
    judged_bad f = sym (refuse_pass 20 _ (rw (← e) (differs_not s all_ones h)) ∙ refuse_on 21 f)

    pub judged_good : bad_block low high first number bytes b ≡ false → accepted tt ≡ judged_block low high first number bytes b
    unfolding judged_block wrong_check
    judged_good f = sym (refuse_pass 20 _ (rw (← e) (differs_not s all_ones h)) ∙ refuse_off 21 f)

-- a block that stands at its own number, in its own file
pub judged_own : (low high : ℕ) (bytes : List ℕ) (b : ℕ) → judged_block low high (kind_in bytes 0) b bytes b ≡ block_answer low high bytes b
unfolding judged_block bad_block block_answer bad_frame wrong_kind
judged_own low high bytes b = refl

pub judged_here : (low high : ℕ) (bytes : List ℕ) (b k : ℕ) {a : Answer Unit} → k ≡ kind_in bytes 0 → a ≡ judged_block low high k b bytes b → a ≡ block_answer low high bytes b
judged_here low high bytes b k e f = f ∙ (ap (λ (x : ℕ). judged_block low high x b bytes b) e ∙ judged_own low high bytes b)

-- ---- the frame of a file
module _ (low high : ℕ) (bytes : List ℕ) where
  pub frame_wrong : wrong_length bytes ≡ true → refused 21 [] ≡ frame_answer low high bytes
  unfolding frame_answer
  frame_wrong h = sym (refuse_stop 21 _ h)

  pub frame_empty : length bytes ≡ 0 → refused 21 [] ≡ frame_answer low high bytes
  unfolding frame_answer wrong_length
  frame_empty h = sym (refuse_stop 21 _ (or_left (length bytes == 0) _ (eq-eqb _ _ h)))

  pub frame_ragged : (length bytes % 512 ≢ 0) → refused 21 [] ≡ frame_answer low high bytes
  unfolding frame_answer wrong_length
  frame_ragged h = sym (refuse_stop 21 _ (or_right (length bytes == 0) _ (differs _ 0 h)))

  pub frame_blocks : (length bytes ≢ 0) → length bytes % 512 ≡ 0 → {a : Answer Unit} → a ≡ in_order (block_answer low high bytes) (length bytes / 512)
      → a ≡ frame_answer low high bytes
  unfolding frame_answer wrong_length
  frame_blocks g h e = e ∙ sym (refuse_pass 21 _ (or_none (length bytes == 0) _ (ne_eqb _ _ g) (differs_not _ _ h)))

-- ---- the payload
pub payload_length_at : (bytes : List ℕ) (u : ℕ) → u ≡ used_in bytes (length bytes / 512 - 1) → 124 * (length bytes / 512 - 1) + u ≡ payload_length bytes
unfolding payload_length
payload_length_at bytes u e = rw e

-- a word of the first block
pub payload_first : (bytes : List ℕ) (i r : ℕ) → i ≤ 123 → r ≡ block_word bytes 0 (3 + i) → r ≡ payload_word bytes i
unfolding payload_word
payload_first bytes i r h e =
    let q : i / 124 ≡ 0 = omega arith in
    let m : i % 124 ≡ i = omega arith in
    rw (q, m) e

-- a word by the place of its first byte: block b, payload word k of it
pub payload_at : (bytes : List ℕ) (i b k j : ℕ) → b ≡ i / 124 → k ≡ i % 124 → k + j < 124 → word_from bytes (512 * b + 12 + 4 * k + 4 * j) ≡ payload_word bytes (i + j)
unfolding payload_word block_word
payload_at bytes i b k j e f h =
    let q : (i + j) / 124 ≡ b = omega arith in
    let m : (i + j) % 124 ≡ k + j = omega arith in
    let z : 512 * b + 12 + 4 * k + 4 * j ≡ 4 * (128 * b + (3 + (k + j))) = omega arith in
    rw (q, m) (ap (word_from bytes) z)
