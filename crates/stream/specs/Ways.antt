-- The ways out of the code, each from the tests that lead to it. Assumes nothing.
use Rattle.std.specs.Prelude.{◌≡◌, refl, ◌⊎◌, Bool, true, false, not, ◌&&◌, List, ℕ, ◌+◌, ◌-◌, ◌*◌, ◌≤◌, ◌<◌, eqb, Result, Ok, Err}
use Rattle.std.proofs.Math.Path.{sym, ap}
use Rattle.std.proofs.Common.{◌∙◌, inl, inr, arith}
use borrow.Author.Tests.{lt-ltb, le-ltb, eq-eqb, ne_eqb}
use Rattle.tables.specs.Tests.{differs, differs_not, or_left, or_right, or_none, cond_true, cond_false}
use Rattle.tables.specs.Lists.{list_of}
use Rattle.answers.specs.declared.Refusal.{Refusal}
use Rattle.answers.specs.Numbers.{number_of, answer_of}
use Rattle.answers.specs.OrderLaws.{refuse_stop, refuse_pass, refuse_on, refuse_off}
use Rattle.house.specs.Bytes.{wrapping_sum, all_ones}
use Rattle.house.specs.Frame.{block_word, kind_in, number_in, wrong_check, other_kind, wrong_used, rest_not_zero, bad_block, judged_block}
use Rattle.house.specs.Payload.{samples_at}
use Rattle.stream.specs.declared.Framed.{Framed}
use Rattle.stream.specs.Stream.{fault_of, first_kind, short_before, last_bad, last_answer, next_fault, one_more, answer_in, payload_words, rendering_answer_in}
use Rattle.stream.specs.StreamLaws.{framed_same}

-- ---- the kind of the first block
module _ (framed : Framed) (block : List ℕ) where
  pub kind_new : (k : ℕ) → framed.blocks ≡ 0 → k ≡ block_word block 0 0 → k ≡ first_kind framed block
  unfolding first_kind
  kind_new k z e = e ∙ sym (cond_true (eqb framed.blocks 0) (kind_in block 0) framed.kind (eq-eqb framed.blocks 0 z))

  pub kind_kept : (framed.blocks ≡ 0 → ⊥) → framed.kind ≡ first_kind framed block
  unfolding first_kind
  kind_kept n = sym (cond_false (eqb framed.blocks 0) (kind_in block 0) framed.kind (ne_eqb framed.blocks 0 n))

-- ---- the block as the last one: k is its kind
module _ (low high first number : ℕ) (block : List ℕ) (k : ℕ) (e : k ≡ kind_in block 0) where
  pub bad_low : k < low → true ≡ last_bad low high first number block
  unfolding last_bad other_kind
  bad_low h = rw (← e, lt-ltb k low h)

  module _ (g : low ≤ k) where
    pub bad_high : high < k → true ≡ last_bad low high first number block
    unfolding last_bad other_kind
    bad_high h = rw (← e, le-ltb k low g, lt-ltb high k h)

    module _ (h : k ≤ high) where
      pub bad_kind : (k ≡ first → ⊥) → true ≡ last_bad low high first number block
      unfolding last_bad other_kind
      bad_kind f = rw (← e, le-ltb k low g, le-ltb high k h, ne_eqb k first f)

      -- n is its number
      module _ (f : k ≡ first) (n : ℕ) (p : n ≡ number_in block 0) where
        pub bad_number : (n ≡ number → ⊥) → true ≡ last_bad low high first number block
        unfolding last_bad other_kind
        bad_number q = rw (← e, ← p, le-ltb k low g, le-ltb high k h, eq-eqb k first f, ne_eqb n number q)

        pub bad_used : n ≡ number → wrong_used block 0 ≡ true → true ≡ last_bad low high first number block
        unfolding last_bad other_kind
        bad_used q u = rw (← e, ← p, le-ltb k low g, le-ltb high k h, eq-eqb k first f, eq-eqb n number q, u)

        pub bad_rest : (r : Bool) → n ≡ number → wrong_used block 0 ≡ false → r ≡ rest_not_zero block 0 → r ≡ last_bad low high first number block
        unfolding last_bad other_kind
        bad_rest r q u w = rw (← e, ← p, le-ltb k low g, le-ltb high k h, eq-eqb k first f, eq-eqb n number q, u, w)

-- its own fault: s is the sum of its words
module _ (low high first number : ℕ) (block : List ℕ) (s : ℕ) (e : s ≡ wrapping_sum (list_of (block_word block 0) 128)) where
  pub own_check : (s ≡ all_ones → ⊥) → 20 ≡ fault_of (last_answer low high first number block)
  unfolding last_answer wrong_check
  own_check h = sym (ap fault_of (refuse_stop 20 _ (rw (← e) (differs s all_ones h))))

  pub own_bad : s ≡ all_ones → last_bad low high first number block ≡ true → 21 ≡ fault_of (last_answer low high first number block)
  unfolding last_answer wrong_check
  own_bad h f = sym (ap fault_of (refuse_pass 20 _ (rw (← e) (differs_not s all_ones h)) ∙ refuse_on 21 f))

  pub own_none : s ≡ all_ones → last_bad low high first number block ≡ false → 0 ≡ fault_of (last_answer low high first number block)
  unfolding last_answer wrong_check
  own_none h f = sym (ap fault_of (refuse_pass 20 _ (rw (← e) (differs_not s all_ones h)) ∙ refuse_off 21 f))

-- ---- the block before
pub short_none : (framed : Framed) → framed.blocks ≡ 0 → false ≡ short_before framed
unfolding short_before
short_none framed z = sym (ap (λ (t : Bool). not t && not (eqb framed.used 124)) (eq-eqb framed.blocks 0 z))

pub short_some : (framed : Framed) → (framed.blocks ≡ 0 → ⊥) → not (eqb framed.used 124) ≡ short_before framed
unfolding short_before
short_some framed n = sym (ap (λ (t : Bool). not t && not (eqb framed.used 124)) (ne_eqb framed.blocks 0 n))

-- ---- the first fault
module _ (low high : ℕ) (framed : Framed) (first : ℕ) (block : List ℕ) where
  pub fault_kept : (framed.fault ≡ 0 → ⊥) → framed.fault ≡ next_fault low high framed first block
  unfolding next_fault
  fault_kept n = sym (cond_false (eqb framed.fault 0) _ framed.fault (ne_eqb framed.fault 0 n))

  module _ (z : framed.fault ≡ 0) where
    pub fault_before : short_before framed ≡ true → 21 ≡ next_fault low high framed first block
    unfolding next_fault
    fault_before h = sym (cond_true (eqb framed.fault 0) _ framed.fault (eq-eqb framed.fault 0 z) ∙ ap fault_of (refuse_stop 21 _ h))

    pub fault_own : (r : ℕ) → short_before framed ≡ false → r ≡ fault_of (last_answer low high first framed.blocks block) → r ≡ next_fault low high framed first block
    unfolding next_fault
    fault_own r h e = e ∙ sym (cond_true (eqb framed.fault 0) _ framed.fault (eq-eqb framed.fault 0 z) ∙ ap fault_of (refuse_pass 21 _ h))

-- its own fault as the number of what `house` answers to it
pub last_is : (low high first number : ℕ) (block : List ℕ) → judged_block low high first number block 0 ≡ last_answer low high first number block
unfolding judged_block bad_block last_answer last_bad
last_is low high first number block = refl

module _ (low high first number : ℕ) (block : List ℕ) (w : Result Unit Refusal) (e : answer_of w ≡ judged_block low high first number block 0) where
  last_told : fault_of (answer_of w) ≡ fault_of (last_answer low high first number block)
  last_told = ap fault_of (e ∙ last_is low high first number block)

  pub last_ok : {u : Unit} → w ≡ Ok u → 0 ≡ fault_of (last_answer low high first number block)
  last_ok h = rw h at last_told

  pub last_err : {r : Refusal} (n : ℕ) → n ≡ number_of r → w ≡ Err r → n ≡ fault_of (last_answer low high first number block)
  last_err n f h = f ∙ (rw h at last_told)

pub next_done : (low high : ℕ) (framed : Framed) (block : List ℕ) (k u f : ℕ) → k ≡ first_kind framed block → u ≡ block_word block 0 2
    → f ≡ next_fault low high framed k block → record { blocks = framed.blocks + 1; kind = k; used = u; fault = f } ≡ one_more low high framed block
unfolding one_more
next_done low high framed block k u f p q r = framed_same refl p q (r ∙ ap (λ (x : ℕ). next_fault low high framed x block) p)

-- ---- at the end
module _ (framed : Framed) (left : ℕ) where
  pub end_none : framed.blocks ≡ 0 → 21 ≡ answer_in framed left
  unfolding answer_in
  end_none z = sym (cond_true _ 21 framed.fault (or_left (eqb framed.blocks 0) (not (eqb left 0)) (eq-eqb framed.blocks 0 z)))

  pub end_ragged : (left ≡ 0 → ⊥) → 21 ≡ answer_in framed left
  unfolding answer_in
  end_ragged n = sym (cond_true _ 21 framed.fault (or_right (eqb framed.blocks 0) (not (eqb left 0)) (differs left 0 n)))

  pub end_early : (framed.blocks ≡ 0) ⊎ ((framed.blocks ≡ 0 → ⊥) × (left ≡ 0 → ⊥)) → 21 ≡ answer_in framed left
  end_early (inl z) = end_none z
  end_early (inr p) = end_ragged p.1

  pub end_whole : (framed.blocks ≡ 0 → ⊥) → left ≡ 0 → framed.fault ≡ answer_in framed left
  unfolding answer_in
  end_whole n z = sym (cond_false _ 21 framed.fault (or_none _ _ (ne_eqb framed.blocks 0 n) (differs_not left 0 z)))

  -- a rendering: a is the frame's answer, p the payload's length
  module _ (samples a : ℕ) (e : a ≡ answer_in framed left) where
    pub rendering_frame : (a ≡ 0 → ⊥) → a ≡ rendering_answer_in framed left samples
    unfolding rendering_answer_in
    rendering_frame n = rw (← e, ne_eqb a 0 n)

    module _ (z : a ≡ 0) (p : ℕ) (f : p ≡ payload_words framed) where
      pub rendering_length : (p ≡ samples_at + samples → ⊥) → 21 ≡ rendering_answer_in framed left samples
      unfolding rendering_answer_in
      rendering_length n = rw (← e, eq-eqb a 0 z, ← f, ne_eqb p (samples_at + samples) n)

      pub rendering_good : p ≡ samples_at + samples → 0 ≡ rendering_answer_in framed left samples
      unfolding rendering_answer_in
      rendering_good q = rw (← e, eq-eqb a 0 z, ← f, eq-eqb p (samples_at + samples) q)

-- ---- how many words the payload has
pub words_none : (framed : Framed) → framed.blocks ≡ 0 → framed.used ≡ payload_words framed
unfolding payload_words
words_none framed z = omega arith

pub words_some : (framed : Framed) → 124 * (framed.blocks - 1) + framed.used ≡ payload_words framed
unfolding payload_words
words_some framed = refl
