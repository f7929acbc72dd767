-- No other bytes: a file whose frame is accepted is the file of its kind and its payload. Assumes nothing.
use Rattle.std.specs.Prelude.{◌≡◌, ℕ, zero, suc, ◌+◌, ◌-◌, ◌*◌, ◌/◌, ◌%◌, ◌<◌, ◌≤◌, min, List, [], ◌∷◌, ◌++◌, length}
use Rattle.std.proofs.Math.Path.{refl, sym, ap}
use Rattle.std.proofs.Common.{◌∙◌}
use Rattle.std.proofs.Math.Decide.{dec_lt}
use native.Mathlib.Omega.{arith}
use Rattle.std.proofs.Math.ListN.{get_or-eq_default}
use Rattle.tables.specs.Stores.{Each}
use Rattle.tables.specs.Lists.{list_of, list_length, list_at, list_same}
use Rattle.house.specs.Generic.{list_add, list_next, shifted}
use Rattle.house.specs.Bytes.{word_from, word_at, four_bytes, bytes_of, total, wrapping_sum}
use Rattle.house.specs.BytesLaws.{total_append}
use Rattle.house.specs.Frame.{block_count, block_word, kind_in, used_in, payload_length, payload_word}
use Rattle.house.specs.Framed.{Sound, Framed}
use Rattle.house.specs.File.{padded, closed, check_of, block_words, share, share_word, blocks_for, file_words, file_of}
use Rattle.house.specs.Gather.{share_length, share_is}

-- a byte of 8 bits. Of a lent `&[u8]` every one is
abbrev pub Byte : ℕ → Type 0
Byte x = x < 256

-- the words of a file's payload
abbrev pub payload_of : List ℕ → List ℕ
payload_of bytes = list_of (payload_word bytes) (payload_length bytes)

-- ---- bytes are the bytes of their words

pub word_small : (x : List ℕ) → Each Byte x → (i : ℕ) → word_from x i < 4294967296
unfolding word_from
word_small x h i = omega (arith, h i, h (i + 1), h (i + 2), h (i + 3))

four_of : (a b c d : ℕ) → a < 256 → b < 256 → c < 256 → d < 256 → (x : List ℕ) → four_bytes (a + 256 * b + 65536 * c + 16777216 * d) ++ x ≡ a ∷ b ∷ c ∷ d ∷ x
four_of a b c d p q r s x =
    let q2 : (a + 256 * b + 65536 * c + 16777216 * d) / 256 ≡ b + 256 * c + 65536 * d = omega arith in
    let q3 : (a + 256 * b + 65536 * c + 16777216 * d) / 65536 ≡ c + 256 * d = omega arith in
    let e1 : (a + 256 * b + 65536 * c + 16777216 * d) % 256 ≡ a = omega arith in
    let e2 : (b + 256 * c + 65536 * d) % 256 ≡ b = omega arith in
    let e3 : (c + 256 * d) % 256 ≡ c = omega arith in
    let e4 : (a + 256 * b + 65536 * c + 16777216 * d) / 16777216 ≡ d = omega arith in
    rw (e1, q2, e2, q3, e3, e4)

word_first : (a b c d : ℕ) (x : List ℕ) → word_at (a ∷ b ∷ c ∷ d ∷ x) 0 ≡ a + 256 * b + 65536 * c + 16777216 * d
unfolding word_from
word_first a b c d x = refl

word_later : (a b c d : ℕ) (x : List ℕ) (i : ℕ) → word_at (a ∷ b ∷ c ∷ d ∷ x) (1 + i) ≡ word_at x i
unfolding word_from
word_later a b c d x i =
    let e0 : 4 * (1 + i) ≡ suc (suc (suc (suc (4 * i)))) = omega arith in
    let e1 : suc (suc (suc (suc (4 * i)))) + 1 ≡ suc (suc (suc (suc (4 * i + 1)))) = omega arith in
    let e2 : suc (suc (suc (suc (4 * i)))) + 2 ≡ suc (suc (suc (suc (4 * i + 2)))) = omega arith in
    let e3 : suc (suc (suc (suc (4 * i)))) + 3 ≡ suc (suc (suc (suc (4 * i + 3)))) = omega arith in
    rw (e0, e1, e2, e3)

pub bytes_of_words : (n : ℕ) (x : List ℕ) → length x ≡ 4 * n → Each Byte x → bytes_of (list_of (word_at x) n) ≡ x
unfolding bytes_of list_of
bytes_of_words zero [] l h = refl
bytes_of_words zero (a ∷ x) l h = absurd (omega arith)
bytes_of_words (suc n) [] l h = absurd (omega arith)
bytes_of_words (suc n) (a ∷ []) l h = absurd (omega arith)
bytes_of_words (suc n) (a ∷ b ∷ []) l h = absurd (omega arith)
bytes_of_words (suc n) (a ∷ b ∷ c ∷ []) l h = absurd (omega arith)
bytes_of_words (suc n) (a ∷ b ∷ c ∷ d ∷ x) l h =
    let z : suc n ≡ 1 + n = omega arith in
    let e : list_of (word_at (a ∷ b ∷ c ∷ d ∷ x)) (suc n) ≡ word_at (a ∷ b ∷ c ∷ d ∷ x) 0 ∷ list_of (word_at x) n =
    ap (list_of (word_at (a ∷ b ∷ c ∷ d ∷ x))) z
    ∙ (list_add (word_at (a ∷ b ∷ c ∷ d ∷ x)) 1 n
    ∙ ap (λ (y : List ℕ). word_at (a ∷ b ∷ c ∷ d ∷ x) 0 ∷ y) (list_same (shifted (word_at (a ∷ b ∷ c ∷ d ∷ x)) 1) (word_at x) n (λ i g. word_later a b c d x i))) in
    let r = bytes_of_words n x (omega arith) (λ i. h (suc (suc (suc (suc i))))) in
    ap bytes_of e ∙ (ap (λ (y : ℕ). four_bytes y ++ bytes_of (list_of (word_at x) n)) (word_first a b c d x)
    ∙ (four_of a b c d (h 0) (h 1) (h 2) (h 3) (bytes_of (list_of (word_at x) n)) ∙ ap (λ (y : List ℕ). a ∷ b ∷ c ∷ d ∷ y) r))

-- ---- the words of an accepted file, block by block
module _ (low high : ℕ) (x : List ℕ) (f : Framed low high x) (h : Each Byte x) where
  -- a payload word of block b, used or not
  payload_here : (b : ℕ) → b < block_count x → (i : ℕ) → i < 124 → block_word x b (3 + i) ≡ share_word (payload_of x) (124 * b) i
  unfolding payload_length payload_word
  payload_here b g i k = go (dec_lt (124 * b + i) (payload_length x))
    where
      s : Sound low high x b
      s = f.sound b g

      n : length (payload_of x) ≡ payload_length x
      n = list_length (payload_word x) (payload_length x)

      last : Sound low high x (block_count x - 1)
      last = f.sound (block_count x - 1) (omega arith)

      go : Dec (124 * b + i < payload_length x) → block_word x b (3 + i) ≡ share_word (payload_of x) (124 * b) i
      go (yes p) =
          let q : (124 * b + i) / 124 ≡ b = omega arith in
          let r : (124 * b + i) % 124 ≡ i = omega arith in
          sym (list_at (payload_word x) (payload_length x) (124 * b + i) p ∙ rw (q, r))
      go (no p) =
          let u : used_in x b ≤ i = past (dec_lt (b + 1) (block_count x)) in
          let z : used_in x b + (i - used_in x b) ≡ i = omega arith in
          let m = s.most in
          ap (λ (y : ℕ). block_word x b (3 + y)) (sym z) ∙ (s.rest (i - used_in x b) (omega arith) ∙ sym (get_or-eq_default (payload_of x) 0 {n = 124 * b + i} (omega (arith, n))))
        where
          past : Dec (b + 1 < block_count x) → used_in x b ≤ i
          past (yes y) = let l = last.least in absurd (omega arith)
          past (no y) = let e : b ≡ block_count x - 1 = omega arith in rw e (omega (arith, e))

  -- the used count is the length of the share
  used_here : (b : ℕ) → b < block_count x → used_in x b ≡ length (share (payload_of x) b)
  unfolding payload_length
  used_here b g = go (dec_lt (b + 1) (block_count x))
    where
      s : Sound low high x b
      s = f.sound b g

      n : length (payload_of x) ≡ payload_length x
      n = list_length (payload_word x) (payload_length x)

      e : length (share (payload_of x) b) ≡ min 124 (length (payload_of x) - 124 * b)
      e = share_length (payload_of x) b

      go : Dec (b + 1 < block_count x) → used_in x b ≡ length (share (payload_of x) b)
      go (yes y) =
          let i = s.inner y in
          let l = (f.sound (block_count x - 1) (omega arith)).least in
          omega (arith, n, e)
      go (no y) =
          let z : b ≡ block_count x - 1 = omega arith in
          let m = s.most in
          let u : used_in x b ≡ used_in x (block_count x - 1) = ap (used_in x) z in
          omega (arith, n, e)

  -- the first 127 words of block b
  body_here : (b : ℕ) → b < block_count x → list_of (block_word x b) 127 ≡ kind_in x 0 ∷ b ∷ length (share (payload_of x) b) ∷ padded (share (payload_of x) b)
  unfolding list_of
  body_here b g =
      let s = f.sound b g in
      let p : list_of (shifted (block_word x b) 3) 124 ≡ padded (share (payload_of x) b) =
      list_same (shifted (block_word x b) 3) (share_word (payload_of x) (124 * b)) 124 (payload_here b g) ∙ share_is (payload_of x) b in
      list_add (block_word x b) 3 124 ∙ rw (s.kind, s.number, used_here b g, p)

  -- all of them: the check is the one that the sum asks for
  block_here : (b : ℕ) → b < block_count x → list_of (block_word x b) 128 ≡ block_words (kind_in x 0) b (share (payload_of x) b)
  unfolding total block_word
  block_here b g =
      let e : list_of (block_word x b) 128 ≡ list_of (block_word x b) 127 ++ (block_word x b 127 ∷ []) = list_next (block_word x b) 127 in
      let t = total_append (list_of (block_word x b) 127) (block_word x b 127 ∷ []) in
      let s : (total (list_of (block_word x b) 127 ++ (block_word x b 127 ∷ []))) % 4294967296 ≡ 4294967295 = ap wrapping_sum (sym e) ∙ (f.sound b g).sums in
      let w = word_small x h (4 * (128 * b + 127)) in
      let c : block_word x b 127 ≡ check_of (list_of (block_word x b) 127) = omega arith in
      e ∙ (ap (λ (y : ℕ). list_of (block_word x b) 127 ++ (y ∷ [])) c ∙ ap closed (body_here b g))

  words_here : (n : ℕ) → n ≤ block_count x → list_of (word_at x) (128 * n) ≡ file_words (kind_in x 0) (payload_of x) n
  unfolding list_of file_words block_word
  words_here zero g = refl
  words_here (suc n) g =
      let z : 128 * suc n ≡ 128 * n + 128 = omega arith in
      ap (list_of (word_at x)) z
      ∙ (list_add (word_at x) (128 * n) 128
      ∙ (ap (λ (y : List ℕ). y ++ list_of (shifted (word_at x) (128 * n)) 128) (words_here n (omega arith)) ∙ ap (λ (y : List ℕ). file_words (kind_in x 0) (payload_of x) n ++ y) (block_here n g)))

  -- A FILE WHOSE FRAME IS ACCEPTED IS THE ONE THAT IS WRITTEN of its kind and its payload
  pub canonical : x ≡ file_of (kind_in x 0) (payload_of x)
  unfolding file_of payload_length
  canonical =
      let w = f.whole in
      let o = f.some in
      let s = f.sound (block_count x - 1) (omega arith) in
      let l = s.least in
      let m = s.most in
      let n = list_length (payload_word x) (payload_length x) in
      let q : block_count x ≡ blocks_for (length (payload_of x)) = omega arith in
      sym (bytes_of_words (128 * block_count x) x (omega arith) h) ∙ (ap bytes_of (words_here (block_count x) (omega arith)) ∙ ap (λ (y : ℕ). bytes_of (file_words (kind_in x 0) (payload_of x) y)) q)
