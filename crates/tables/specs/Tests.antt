-- Tests and cases: from a test's value to a fact and back, a conjunction that stays shut, and laws of `cond`. Comparisons of numbers are in
-- borrow.Author.Tests (`ltb-true`, `lt-ltb`, .., `not-true`, `not-false`); from `b ≡ true` to `T b` and back are denote.Floats.{passes, is_true}. Assumes
-- nothing.
use Rattle.std.specs.Prelude.{◌≡◌, refl, ◌⊎◌, Bool, true, false, cond, not, ◌&&◌, ◌||◌, ℕ, T, eqb}
use Rattle.std.proofs.Common.{sym, ◌∙◌, inl, inr, true≢false, eq-eqb, ne_eqb, eqb-true}
use Rattle.std.proofs.lemmas.Bool.{eqb-false, not-true, not-false}

-- ---- true and false

-- true is not false: anything follows
pub true_false {ℓ} : {A : Type ℓ} → true ≡ false → A
true_false e = absurd (true≢false e)

-- no test is both
pub clash {ℓ} : {A : Type ℓ} (b : Bool) → b ≡ true → b ≡ false → A
clash b p q = true_false (sym p ∙ q)

-- a test that is false passes negated
pub off : (b : Bool) → b ≡ false → T (not b)
off true e = true_false e
off false e = tt

-- a test that cannot pass is false
pub is_false : (b : Bool) → (T b → ⊥) → b ≡ false
is_false true f = absurd (f tt)
is_false false f = refl

-- ---- and, or

-- a conjunction that stays shut, so that its two parts can be read off a fact
infixr 35 ◌&◌
unfoldable pub ◌&◌ : Bool → Bool → Bool
◌&◌ a b = a && b

-- a shut conjunction that is true: both parts are
pub &_both : (a b : Bool) → (a & b) ≡ true → (a ≡ true) × (b ≡ true)
unfolding ◌&◌
&_both true b e = (refl, e)
&_both false b e = true_false (sym e)

-- a shut conjunction that passes: both parts do
pub &_pass : (a b : Bool) → T (a & b) → T a × T b
unfolding ◌&◌
&_pass true b t = (tt, t)
&_pass false b t = absurd t

-- both parts are true: the shut conjunction is
pub &_true : (a b : Bool) → a ≡ true → b ≡ true → (a & b) ≡ true
unfolding ◌&◌
&_true a b p q = rw (p, q)

-- the first part is false
pub &_left : (a b : Bool) → a ≡ false → (a & b) ≡ false
unfolding ◌&◌
&_left a b p = rw p

-- the second part is false
pub &_right : (a b : Bool) → b ≡ false → (a & b) ≡ false
unfolding ◌&◌
&_right true b p = p
&_right false b p = refl

-- the first part is true: the second decides
pub &_next : (a b : Bool) → a ≡ true → (a & b) ≡ b
unfolding ◌&◌
&_next a b p = rw p

-- an open conjunction that is true: both parts are
pub both : (a b : Bool) → (a && b) ≡ true → (a ≡ true) × (b ≡ true)
both true b e = (refl, e)
both false b e = true_false (sym e)

-- a disjunction that is false: neither part is true
pub neither : (a b : Bool) → (a || b) ≡ false → (a ≡ false) × (b ≡ false)
neither true b e = true_false e
neither false b e = (refl, e)

-- a disjunction that is true: one part is
pub either : (a b : Bool) → (a || b) ≡ true → (a ≡ true) ⊎ (b ≡ true)
either true b e = inl refl
either false b e = inr e

-- a disjunction that passes: one part does
pub or_pass : (a b : Bool) → T (a || b) → T a ⊎ T b
or_pass true b t = inl tt
or_pass false b t = inr t

-- the first part is true
pub or_left : (a b : Bool) → a ≡ true → (a || b) ≡ true
or_left a b p = rw p

-- the second part is true
pub or_right : (a b : Bool) → b ≡ true → (a || b) ≡ true
or_right true b p = refl
or_right false b p = p

-- both parts are false
pub or_none : (a b : Bool) → a ≡ false → b ≡ false → (a || b) ≡ false
or_none a b p q = rw (p, q)

-- ---- `!=`

-- two numbers that differ pass `!=`
pub differs : (a b : ℕ) → (a ≡ b → ⊥) → not (eqb a b) ≡ true
differs a b h = rw (ne_eqb a b h)

-- equal numbers do not
pub differs_not : (a b : ℕ) → a ≡ b → not (eqb a b) ≡ false
differs_not a b e = rw (eq-eqb a b e)

-- `!=` is false: they are equal
pub same_of : (a b : ℕ) → not (eqb a b) ≡ false → a ≡ b
same_of a b e = eqb-true a b (not-false (eqb a b) e)

-- `!=` is true: they differ
pub differ_of : (a b : ℕ) → not (eqb a b) ≡ true → a ≡ b → ⊥
differ_of a b e = eqb-false a b (not-true (eqb a b) e)

-- ---- cases

-- the case of a test that is true
pub cond_true {ℓ} : {A : Type ℓ} (b : Bool) (x y : A) → b ≡ true → cond b x y ≡ x
cond_true b x y e = rw e

-- the case of a test that is false
pub cond_false {ℓ} : {A : Type ℓ} (b : Bool) (x y : A) → b ≡ false → cond b x y ≡ y
cond_false b x y e = rw e

-- a function of a case is the case of the function
pub cond_ap {ℓ} : {A B : Type ℓ} (f : A → B) (b : Bool) (x y : A) → f (cond b x y) ≡ cond b (f x) (f y)
cond_ap f true x y = refl
cond_ap f false x y = refl

-- what f gives in both cases it gives
pub cond_same {ℓ} : {A B : Type ℓ} (f : A → B) (b : Bool) (x y : A) {v : B} → f x ≡ v → f y ≡ v → f (cond b x y) ≡ v
cond_same f true x y p q = p
cond_same f false x y p q = q

-- what holds of each case, where its test has the case's value, holds
pub cond_pred {ℓ κ} : {A : Type ℓ} (P : A → Type κ) (b : Bool) {x y : A} → (b ≡ true → P x) → (b ≡ false → P y) → P (cond b x y)
cond_pred P true f g = f refl
cond_pred P false f g = g refl

-- two cases are equal where each is, under its test
pub cond_arms {ℓ} : {A : Type ℓ} (b : Bool) {x y v w : A} → (b ≡ true → x ≡ v) → (b ≡ false → y ≡ w) → cond b x y ≡ cond b v w
cond_arms true f g = f refl
cond_arms false f g = g refl
