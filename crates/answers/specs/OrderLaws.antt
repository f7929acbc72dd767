-- Laws of answers in order: what an accepted whole says of its parts, and the turns of a loop that looks for the first refusal.
use Rattle.std.specs.Prelude.{◌≡◌, refl, ◌⊎◌, Bool, true, false, List, [], ◌∷◌, ℕ, zero, suc, ◌+◌, ◌≤◌, ◌<◌, Result, Ok, Err, IsErrAnd}
use Rattle.std.proofs.Common.{sym, ap, ◌∙◌, inl, inr, eq-or-lt_of_le, le_of_suc-le-suc, not-suc-le-zero, add-one, arith}
use Rattle.std.proofs.lemmas.Result.{err_from_is_err_and}
use Rattle.answers.specs.declared.Refusal.{Refusal}
use Rattle.answers.specs.Numbers.{Answer, accepted, refused, answer_of}
use Rattle.answers.specs.Order.{◌⨾◌, refuse, refuse_at, in_order}

-- ---- an accepted whole has accepted parts
pub then_accepted : {A : Type 0} (a : Answer Unit) (b : Answer A) {x : A} → (a ⨾ b) ≡ accepted x → (a ≡ accepted tt) × (b ≡ accepted x)
unfolding ◌⨾◌
then_accepted (accepted u) b e = (refl, e)
then_accepted (refused n vs) b e = absurd (let z : ◌≡◌ {A = ℕ} 0 1 = cc in omega arith)

pub refuse_accepted : (n : ℕ) (t : Bool) → refuse n t ≡ accepted tt → t ≡ false
unfolding refuse
refuse_accepted n true e = absurd (let z : ◌≡◌ {A = ℕ} 0 1 = cc in omega arith)
refuse_accepted n false e = refl

pub refuse_at_accepted : (n i : ℕ) (t : Bool) → refuse_at n i t ≡ accepted tt → t ≡ false
unfolding refuse_at
refuse_at_accepted n i true e = absurd (let z : ◌≡◌ {A = ℕ} 0 1 = cc in omega arith)
refuse_at_accepted n i false e = refl

-- where all is accepted, each record is
pub in_order_accepted : (answer : ℕ → Answer Unit) (n : ℕ) → in_order answer n ≡ accepted tt → (i : ℕ) → i < n → answer i ≡ accepted tt
unfolding in_order
in_order_accepted answer zero e i h = absurd (not-suc-le-zero h)
in_order_accepted answer (suc n) e i h =
    go (eq-or-lt_of_le (le_of_suc-le-suc h)) (then_accepted _ _ e) (in_order_accepted answer n)
  where
    go : (i ≡ n) ⊎ (i < n) → (in_order answer n ≡ accepted tt) × (answer n ≡ accepted tt)
        → (in_order answer n ≡ accepted tt → (j : ℕ) → j < n → answer j ≡ accepted tt) → answer i ≡ accepted tt
    go (inl p) v ih = rw p v.1
    go (inr q) v ih = ih v.0 i q

-- ---- an answer that is known: the first part decides, or is passed
pub then_stop : {A : Type 0} {a : Answer Unit} (b : Answer A) {n : ℕ} {vs : List ℕ} → a ≡ refused n vs → (a ⨾ b) ≡ refused n vs
unfolding ◌⨾◌
then_stop b e = rw e

pub then_pass : {A : Type 0} {a : Answer Unit} (b : Answer A) → a ≡ accepted tt → (a ⨾ b) ≡ b
unfolding ◌⨾◌
then_pass b e = rw e

pub refuse_stop : {A : Type 0} (n : ℕ) {t : Bool} (b : Answer A) → t ≡ true → (refuse n t ⨾ b) ≡ refused n []
unfolding ◌⨾◌ refuse
refuse_stop n b e = rw e

pub refuse_pass : {A : Type 0} (n : ℕ) {t : Bool} (b : Answer A) → t ≡ false → (refuse n t ⨾ b) ≡ b
unfolding ◌⨾◌ refuse
refuse_pass n b e = rw e

pub refuse_on : (n : ℕ) {t : Bool} → t ≡ true → refuse n t ≡ refused n []
unfolding refuse
refuse_on n e = rw e

pub refuse_off : (n : ℕ) {t : Bool} → t ≡ false → refuse n t ≡ accepted tt
unfolding refuse
refuse_off n e = rw e

pub refuse_at_on : (n i : ℕ) {t : Bool} → t ≡ true → refuse_at n i t ≡ refused n (i ∷ [])
unfolding refuse_at
refuse_at_on n i e = rw e

pub refuse_at_off : (n i : ℕ) {t : Bool} → t ≡ false → refuse_at n i t ≡ accepted tt
unfolding refuse_at
refuse_at_off n i e = rw e

-- ---- a loop over the records: none so far, one more, the first that refuses, the end
pub in_order_start : (answer : ℕ → Answer Unit) → in_order answer 0 ≡ accepted tt
unfolding in_order
in_order_start answer = refl

pub in_order_next : (answer : ℕ → Answer Unit) (i : ℕ) → in_order answer i ≡ accepted tt → answer i ≡ accepted tt → in_order answer (i + 1) ≡ accepted tt
unfolding in_order ◌⨾◌
in_order_next answer i e a = rw (add-one, e, a)

pub in_order_stop : (answer : ℕ → Answer Unit) (n i m : ℕ) (vs : List ℕ) → i < n → in_order answer i ≡ accepted tt → answer i ≡ refused m vs → in_order answer n ≡ refused m vs
unfolding in_order ◌⨾◌
in_order_stop answer zero i m vs h e a = absurd (not-suc-le-zero h)
in_order_stop answer (suc n) i m vs h e a = go (eq-or-lt_of_le (le_of_suc-le-suc h)) (in_order_stop answer n i m vs)
  where
    go : (i ≡ n) ⊎ (i < n) → (i < n → in_order answer i ≡ accepted tt → answer i ≡ refused m vs → in_order answer n ≡ refused m vs)
        → (in_order answer n ⨾ answer n) ≡ refused m vs
    go (inl p) ih = rw (← p, e, a)
    go (inr q) ih = rw (ih q e a)

pub in_order_end : (answer : ℕ → Answer Unit) (i n : ℕ) → i ≤ n → n ≤ i → in_order answer i ≡ accepted tt → in_order answer n ≡ accepted tt
in_order_end answer i n h l e = let q : i ≡ n = omega arith in rw q at e

-- ---- a call that returns v and answers a: what `?` returns for its refusal is handed on, and behind an accepted one the rest answers
pub hand_on : {A : Type 0} {v : Result Unit Refusal} {a : Answer Unit} (r : Result A Refusal) (b : Answer A) {e : Refusal} → answer_of v ≡ a → v ≡ Err e → IsErrAnd r (λ y. y ≡ e)
    → answer_of r ≡ (a ⨾ b)
hand_on r b f g h =
    let p = err_from_is_err_and r h in
    rw (p.1, p.2) (sym (then_stop b (sym f ∙ ap answer_of g)))

pub go_on : {A : Type 0} {v : Result Unit Refusal} {a : Answer Unit} {x : Answer A} (b : Answer A) {u : Unit} → answer_of v ≡ a → v ≡ Ok u → x ≡ b → x ≡ (a ⨾ b)
go_on b e f g = g ∙ sym (then_pass b (sym e ∙ ap answer_of f))

-- a record's refusal ends the loop
pub in_order_hand_on : (answer : ℕ → Answer Unit) (n i : ℕ) {v : Result Unit Refusal} (r : Result Unit Refusal) {e : Refusal} → i < n → in_order answer i ≡ accepted tt → answer_of v ≡ answer i
    → v ≡ Err e → IsErrAnd r (λ y. y ≡ e) → answer_of r ≡ in_order answer n
in_order_hand_on answer n i r l d f g h =
    let p = err_from_is_err_and r h in
    rw (p.1, p.2) (sym (in_order_stop answer n i _ _ l d (sym f ∙ ap answer_of g)))
