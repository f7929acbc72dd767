-- Writing a file block by block. Assumes nothing.
use Rattle.std.specs.Prelude.{◌≡◌, ℕ, zero, suc, ◌+◌, ◌-◌, ◌*◌, ◌<◌, ◌≤◌, min, List, ◌∷◌, length, refl}
use Rattle.std.proofs.Common.{sym, ap, ◌∙◌, add-one, arith, length-append}
use Rattle.std.proofs.lemmas.List.Edits.{sets}
use Rattle.std.proofs.Math.Seq.{length-sets}
use Rattle.tables.specs.Stores.{sets_append}
use Rattle.tables.specs.Zeros.{zeros_length, copied}
use Rattle.tables.specs.Lists.{list_of}
use Rattle.house.specs.Bytes.{bytes_of}
use Rattle.house.specs.BytesLaws.{bytes_append, bytes_length}
use Rattle.house.specs.File.{padded, closed, block_words, share, share_word, blocks_for, file_words, file_of}
use Rattle.house.specs.Gather.{share_length, share_is}

-- a block has 128 words
pub block_length : (kind number : ℕ) (words : List ℕ) → length words ≤ 124 → length (block_words kind number words) ≡ 128
block_length kind number words h = simp (length-append, zeros_length) (omega arith)

pub words_length : (kind : ℕ) (payload : List ℕ) (n : ℕ) → length (file_words kind payload n) ≡ 128 * n
unfolding file_words
words_length kind payload zero = refl
words_length kind payload (suc n) =
    let e = words_length kind payload n in
    let b = block_length kind n (share payload n) (omega (arith, share_length payload n)) in
    rw (length-append (file_words kind payload n) (block_words kind n (share payload n)), e, b) (omega arith)

pub file_length : (kind : ℕ) (payload : List ℕ) → length (file_of kind payload) ≡ 512 * blocks_for (length payload)
unfolding file_of
file_length kind payload =
    let b = bytes_length (file_words kind payload (blocks_for (length payload))) in
    let w = words_length kind payload (blocks_for (length payload)) in
    omega arith

-- ---- the loop's start, its turn at the block b, and its end
pub file_start : (kind : ℕ) (payload l : List ℕ) → l ≡ copied (bytes_of (file_words kind payload 0)) l
unfolding copied file_words bytes_of
file_start kind payload l = refl

pub file_next : (kind : ℕ) (payload : List ℕ) (b u : ℕ) (p l m t : List ℕ) → m ≡ copied (bytes_of (file_words kind payload b)) l → u ≡ min 124 (length payload - 124 * b)
    → p ≡ list_of (share_word payload (124 * b)) 124 → t ≡ sets m (512 * b) (bytes_of (closed (kind ∷ b ∷ u ∷ p)))
    → t ≡ copied (bytes_of (file_words kind payload (b + 1))) l
unfolding copied file_words
file_next kind payload b u p l m t e f g h =
    let x : u ≡ length (share payload b) = f ∙ sym (share_length payload b) in
    let y : p ≡ padded (share payload b) = g ∙ share_is payload b in
    let n = words_length kind payload b in
    let k = bytes_length (file_words kind payload b) in
    h
    ∙ rw (e, x, y) (sets_append l 0 (512 * b) (bytes_of (file_words kind payload b)) (bytes_of (block_words kind b (share payload b))) (omega arith)
    ∙ rw (add-one, bytes_append (file_words kind payload b) (block_words kind b (share payload b))))

pub file_end : (kind : ℕ) (payload : List ℕ) (b : ℕ) (l m : List ℕ) → b ≡ blocks_for (length payload) → m ≡ copied (bytes_of (file_words kind payload b)) l
    → m ≡ copied (file_of kind payload) l
unfolding file_of
file_end kind payload b l m e f = f ∙ rw e

-- ---- before the turn at the block b of a loop that writes the file of a payload of `count` words, in so many blocks
pub record Going (kind : ℕ) (payload : List ℕ) (count blocks : ℕ) (start bytes : List ℕ) (b : ℕ) : Type 0 where
  pub up_to : b ≤ blocks
  pub counts : count ≡ length payload
  pub needed : blocks ≡ blocks_for count
  pub small : count ≤ 4294967296
  pub room : 512 * blocks ≤ length start
  pub same : length bytes ≡ length start
  pub written : bytes ≡ copied (bytes_of (file_words kind payload b)) start

pub going_start : (kind : ℕ) (payload : List ℕ) (count blocks : ℕ) (start : List ℕ) → count ≡ length payload → blocks ≡ blocks_for count → count ≤ 4294967296
    → 512 * blocks_for (length payload) ≤ length start → Going kind payload count blocks start start 0
going_start kind payload count blocks start e f g h =
    record { up_to = omega arith; counts = e; needed = f; small = g; room = rw (f, e) h; same = refl; written = file_start kind payload start }

module _ (kind : ℕ) (payload : List ℕ) (count blocks : ℕ) (start bytes : List ℕ) (b : ℕ) (g : Going kind payload count blocks start bytes b) where
  pub going_next : b < blocks → (u : ℕ) (p t : List ℕ) → u ≡ min 124 (count - 124 * b) → p ≡ list_of (share_word payload (124 * b)) 124
      → t ≡ sets bytes (512 * b) (bytes_of (closed (kind ∷ b ∷ u ∷ p))) → Going kind payload count blocks start t (b + 1)
  going_next h u p t e f i =
      record {
        up_to = omega arith;
        counts = g.counts;
        needed = g.needed;
        small = g.small;
        room = g.room;
        same = ap length i ∙ (length-sets bytes (512 * b) (bytes_of (closed (kind ∷ b ∷ u ∷ p))) ∙ g.same);
        written = file_next kind payload b u p start bytes t g.written (e ∙ ap (λ (x : ℕ). min 124 (x - 124 * b)) g.counts) f i;
      }

  pub going_end : blocks ≤ b → bytes ≡ copied (file_of kind payload) start
  going_end h =
      let u = g.up_to in
      let n : b ≡ blocks = omega arith in
      file_end kind payload b start bytes (n ∙ (g.needed ∙ ap blocks_for g.counts)) g.written
