-- What one block has of a payload, word by word with zeros past its end, is its share with zeros behind it. Assumes nothing.
use Rattle.std.specs.Prelude.{◌≡◌, ℕ, zero, suc, ◌+◌, ◌-◌, ◌*◌, ◌<◌, ◌≤◌, min, List, ◌++◌, length, take, drop, ◌≢◌, slice_range, slice_index, slice_index_or, refl}
use Rattle.std.proofs.Common.{sym, ◌∙◌, arith, length-append, length-take, length-take-le, length-drop, ext_get_or, get_or-take, get_or-drop}
use Rattle.std.proofs.Math.Decide.{dec_lt}
use Rattle.std.proofs.Math.ListN.{get_or-eq_default}
use Rattle.tables.specs.Parts.{part}
use Rattle.tables.specs.Zeros.{zeros, zeros_length, zeros_at}
use Rattle.tables.specs.Lists.{list_of, list_length, list_at, list_same}
use Rattle.house.specs.Generic.{append_in, append_past}
use Rattle.house.specs.File.{padded, share, share_word}
use Rattle.house.specs.declared.Contents.{Contents}
use Rattle.house.specs.Payload.{head_words, effect_payload, rendering_payload}

-- ---- a block's share
pub share_length : (payload : List ℕ) (b : ℕ) → length (share payload b) ≡ min 124 (length payload - 124 * b)
unfolding share part
share_length payload b = simp (length-take, length-drop)

pub share_at : (payload : List ℕ) (b i : ℕ) → i < 124 → slice_index (share payload b) i ≡ share_word payload (124 * b) i
unfolding share part
share_at payload b i h = get_or-take 124 (drop (124 * b) payload) i 0 h ∙ get_or-drop (124 * b) payload i 0

pub padded_length : (words : List ℕ) → length words ≤ 124 → length (padded words) ≡ 124
padded_length words h = simp (length-append, zeros_length) (omega arith)

-- a word of the share with zeros behind it is a word of the payload, or 0 past its end
pub padded_at : (payload : List ℕ) (b i : ℕ) → i < 124 → slice_index (padded (share payload b)) i ≡ share_word payload (124 * b) i
padded_at payload b i h = go (dec_lt i (length (share payload b)))
  where
    s : length (share payload b) ≡ min 124 (length payload - 124 * b)
    s = share_length payload b

    go : Dec (i < length (share payload b)) → slice_index (padded (share payload b)) i ≡ share_word payload (124 * b) i
    go (yes p) = append_in (share payload b) (zeros (124 - length (share payload b))) i p ∙ share_at payload b i h
    go (no p) =
        append_past (share payload b) (zeros (124 - length (share payload b))) i (omega arith)
        ∙ (zeros_at (124 - length (share payload b)) (i - length (share payload b))
        ∙ sym (get_or-eq_default payload 0 {n = 124 * b + i} (omega (arith, s))))

pub share_is : (payload : List ℕ) (b : ℕ) → list_of (share_word payload (124 * b)) 124 ≡ padded (share payload b)
share_is payload b =
    let l = padded_length (share payload b) (omega (arith, share_length payload b)) in
    let n = list_length (share_word payload (124 * b)) 124 in
    ext_get_or 0 (list_of (share_word payload (124 * b)) 124) (padded (share payload b)) (omega arith)
    (λ i h. list_at (share_word payload (124 * b)) 124 i (omega arith) ∙ sym (padded_at payload b i (omega arith)))

-- the samples from one on are the rendering's payload from the next on
pub inner_share : (samples : List ℕ) (from at : ℕ) → at ≡ suc from → list_of (share_word samples from) 124 ≡ list_of (share_word (rendering_payload samples) at) 124
inner_share samples from at e =
    list_same (share_word samples from) (share_word (rendering_payload samples) at) 124
    (λ i h. let z : at + i ≡ suc (from + i) = omega arith in rw z)

-- as a slice
pub samples_share : (samples : List ℕ) (from : ℕ) → from + 124 ≤ length samples → slice_range samples from (from + 124) ≡ list_of (share_word samples from) 124
samples_share samples from h =
    let z : from + 124 - from ≡ 124 = omega arith in
    let n = list_length (share_word samples from) 124 in
    let d = length-drop from samples in
    let l = length-take-le 124 (drop from samples) (omega arith) in
    rw z
    (ext_get_or 0 (take 124 (drop from samples)) (list_of (share_word samples from) 124) (omega arith)
    (λ i g. (get_or-take 124 (drop from samples) i 0 (omega arith) ∙ get_or-drop from samples i 0) ∙ sym (list_at (share_word samples from) 124 i (omega arith))))

-- ---- a word of a rendering's payload
pub payload_count : (samples : List ℕ) (c i : ℕ) → c ≡ length samples → i ≡ 0 → c ≡ slice_index (rendering_payload samples) i
payload_count samples c i e z = rw (z, e)

pub payload_sample : (samples : List ℕ) (i : ℕ) → (i ≢ 0) → slice_index samples (i - 1) ≡ slice_index (rendering_payload samples) i
payload_sample samples zero n = absurd (n refl)
payload_sample samples (suc i) n = let z : suc i - 1 ≡ i = omega arith in rw z

pub payload_past : (samples : List ℕ) (i : ℕ) → (i ≢ 0) → length samples ≤ i - 1 → 0 ≡ slice_index (rendering_payload samples) i
payload_past samples i n h = sym (get_or-eq_default samples 0 h) ∙ payload_sample samples i n

-- ---- a word of an effect block's payload: `place - 9 - ..` is its place in the list that has it
module _ (c : Contents) (p s d n : List ℕ) (i : ℕ) where
  pub word_head : i < 9 → {r : ℕ} → r ≡ slice_index (head_words c) i → r ≡ slice_index (effect_payload c p s d n) i
  word_head h e = e ∙ sym (append_in (head_words c) (p ++ (s ++ (d ++ n))) i h)

  module _ (h : 9 ≤ i) where
    past_head : slice_index_or (p ++ (s ++ (d ++ n))) (i - 9) 0 ≡ slice_index (effect_payload c p s d n) i
    past_head = sym (append_past (head_words c) (p ++ (s ++ (d ++ n))) i h)

    pub word_parameter : i - 9 < length p → slice_index p (i - 9) ≡ slice_index (effect_payload c p s d n) i
    word_parameter g = sym (append_in p (s ++ (d ++ n)) (i - 9) g) ∙ past_head

    module _ (g : length p ≤ i - 9) where
      past_parameters : slice_index_or (s ++ (d ++ n)) (i - 9 - length p) 0 ≡ slice_index (effect_payload c p s d n) i
      past_parameters = sym (append_past p (s ++ (d ++ n)) (i - 9) g) ∙ past_head

      pub word_state : i - 9 - length p < length s → slice_index s (i - 9 - length p) ≡ slice_index (effect_payload c p s d n) i
      word_state f = sym (append_in s (d ++ n) (i - 9 - length p) f) ∙ past_parameters

      module _ (f : length s ≤ i - 9 - length p) where
        past_states : slice_index_or (d ++ n) (i - 9 - length p - length s) 0 ≡ slice_index (effect_payload c p s d n) i
        past_states = sym (append_past s (d ++ n) (i - 9 - length p) f) ∙ past_parameters

        pub word_delay : i - 9 - length p - length s < length d → slice_index d (i - 9 - length p - length s) ≡ slice_index (effect_payload c p s d n) i
        word_delay e = sym (append_in d n (i - 9 - length p - length s) e) ∙ past_states

        module _ (e : length d ≤ i - 9 - length p - length s) where
          pub word_node : slice_index_or n (i - 9 - length p - length s - length d) 0 ≡ slice_index (effect_payload c p s d n) i
          word_node = sym (append_past d n (i - 9 - length p - length s) e) ∙ past_states

          pub word_past : length n ≤ i - 9 - length p - length s - length d → 0 ≡ slice_index (effect_payload c p s d n) i
          word_past k = sym (get_or-eq_default n 0 k) ∙ word_node
