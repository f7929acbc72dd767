-- Document 01, "House file": a rendering written block by block is the rendering's file. Definitions, and the theorem. Assumes nothing.
use Rattle.std.specs.Prelude.{◌≡◌, refl, List, [], ◌∷◌, ◌++◌, ℕ, zero, suc, ◌+◌, ◌*◌, ◌≤◌, ◌<◌, length, take, drop}
use Rattle.std.proofs.Common.{sym, ◌∙◌, arith, take_all}
use Rattle.std.proofs.lemmas.List.Edits.{sets}
use Rattle.tables.specs.Parts.{part}
use Rattle.tables.specs.Zeros.{zeros, zeros_length, copied, copied_is}
use Rattle.tables.specs.Lists.{drop_zeros}
use Rattle.house.specs.Bytes.{bytes_of}
use Rattle.house.specs.BytesLaws.{bytes_append}
use Rattle.house.specs.declared.Engine.{Engine}
use Rattle.house.specs.File.{padded, closed, block_words, share, blocks_for, file_words, file_of}
use Rattle.house.specs.Gather.{share_length}
use Rattle.house.specs.Payload.{kind_of, rendering_payload, rendering_file}

-- the bytes of block b of a file
abbrev pub block_bytes : ℕ → List ℕ → ℕ → List ℕ
block_bytes kind payload b = bytes_of (block_words kind b (share payload b))

-- the first n of them, one behind the other
unfoldable pub joined : ℕ → List ℕ → ℕ → List ℕ
joined kind payload zero = []
joined kind payload (suc n) = joined kind payload n ++ block_bytes kind payload n

joined_is : (kind : ℕ) (payload : List ℕ) (n : ℕ) → joined kind payload n ≡ bytes_of (file_words kind payload n)
unfolding joined file_words bytes_of
joined_is kind payload zero = refl
joined_is kind payload (suc n) =
    rw (joined_is kind payload n) (sym (bytes_append (file_words kind payload n) (block_words kind n (share payload n))))

-- THE BLOCKS OF A RENDERING, joined, are its file
pub written_blocks : (engine : Engine) (samples : List ℕ)
    → joined (kind_of engine) (rendering_payload samples) (blocks_for (length (rendering_payload samples))) ≡ rendering_file engine samples
unfolding file_of
written_blocks engine samples = joined_is (kind_of engine) (rendering_payload samples) (blocks_for (length (rendering_payload samples)))

-- ---- the shares: what `rendering_block` is given, block after block

-- "the last 1..124"
pub share_some : (payload : List ℕ) (b : ℕ) → b < blocks_for (length payload) → (1 ≤ length (share payload b)) × (length (share payload b) ≤ 124)
share_some payload b h = let l = share_length payload b in (omega arith, omega arith)

-- block 0: the count, then the first 123 samples
pub share_first : (samples : List ℕ) → share (rendering_payload samples) 0 ≡ length samples ∷ take 123 samples
unfolding share part
share_first samples = refl

-- a later block: the 124 samples behind those, or as many as there are
pub share_later : (samples : List ℕ) (b : ℕ) → share (rendering_payload samples) (suc b) ≡ part (124 * b + 123) 124 samples
unfolding share part
share_later samples b = let z : 124 * suc b ≡ suc (124 * b + 123) = omega arith in rw z

-- ---- the words of a block, copied over zeros
pub padded_is : (words : List ℕ) → length words ≤ 124 → copied words (zeros 124) ≡ padded words
padded_is words h =
    let l = zeros_length 124 in
    copied_is words (zeros 124) ∙ rw (drop_zeros (length words) 124, take_all (length (zeros 124)) words (omega arith))

pub slice_padded : (words m : List ℕ) → length words ≤ 124 → m ≡ words → m ++ drop (length words) (zeros 124) ≡ padded words
slice_padded words m h e = rw (e, drop_zeros (length words) 124)

-- a block of the engine's kind, from its kind k and its payload p as the code has them
pub block_written : (engine : Engine) (number : ℕ) (words l t p : List ℕ) (k : ℕ) → k ≡ kind_of engine → p ≡ padded words
    → t ≡ sets l 0 (bytes_of (closed (k ∷ number ∷ length words ∷ p))) → t ≡ sets l 0 (bytes_of (block_words (kind_of engine) number words))
block_written engine number words l t p k e f g = rw (e, f) at g
