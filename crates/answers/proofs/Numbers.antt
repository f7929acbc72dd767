-- The number and the values of an answer tell its case: `tells_refusal`, `tells`. Assumes nothing.
use Rattle.std.specs.Prelude.{◌≡◌, refl, Bool, true, false, ℕ, eqb, Result, Ok, Err}
use Rattle.std.proofs.Common.{sym, ap, ◌∙◌, arith}
use Rattle.answers.specs.declared.Refusal.{Refusal}
use Rattle.answers.specs.declared.Refusal.TheVariants as R
use Rattle.answers.specs.Numbers.{number_of, values_of, first_value, answer_of}

-- ---- the number and the values tell the case, so a promise on `answer_of` of a result fixes the result
abbrev pick : Bool → Refusal → Refusal → Refusal
pick true a b = a
pick false a b = b

-- the case of a number with the first value v
case_of : ℕ → ℕ → Refusal
case_of n v =
    pick (eqb n 1) R.Malformed
    (pick (eqb n 2) R.UnknownVersion
    (pick (eqb n 3) R.NetworkNotAllowed
    (pick (eqb n 4) R.NetworkFlagClear
    (pick (eqb n 5) R.NeedsVersionTwo
    (pick (eqb n 6) R.TooLarge
    (pick (eqb n 7) (R.BadParameter v)
    (pick (eqb n 8) R.MissingOutput
    (pick (eqb n 9) (R.BadOperand v)
    (pick (eqb n 10) (R.BadNode v)
    (pick (eqb n 11) (R.BadState v)
    (pick (eqb n 12) (R.BadDelay v)
    (pick (eqb n 13) R.TableTooShort
    (pick (eqb n 14) R.RegistersLocked
    (pick (eqb n 15) R.BadStepList
    (pick (eqb n 16) R.SizesDiffer
    (pick (eqb n 17) R.UnknownParameter
    (pick (eqb n 18) R.ValueOutOfRange
    (pick (eqb n 19) (R.StepRefused v)
    (pick (eqb n 20) R.WrongBlockCheck
    R.BadFrame)))))))))))))))))))

case_is : (r : Refusal) → case_of (number_of r) (first_value r) ≡ r
unfolding case_of
case_is R.Malformed = refl
case_is R.UnknownVersion = refl
case_is R.NetworkNotAllowed = refl
case_is R.NetworkFlagClear = refl
case_is R.NeedsVersionTwo = refl
case_is R.TooLarge = refl
case_is (R.BadParameter v) = refl
case_is R.MissingOutput = refl
case_is (R.BadOperand v) = refl
case_is (R.BadNode v) = refl
case_is (R.BadState v) = refl
case_is (R.BadDelay v) = refl
case_is R.TableTooShort = refl
case_is R.RegistersLocked = refl
case_is R.BadStepList = refl
case_is R.SizesDiffer = refl
case_is R.UnknownParameter = refl
case_is R.ValueOutOfRange = refl
case_is (R.StepRefused v) = refl
case_is R.WrongBlockCheck = refl
case_is R.BadFrame = refl

pub tells_refusal : (a b : Refusal) → number_of a ≡ number_of b → values_of a ≡ values_of b → a ≡ b
tells_refusal a b e v = sym (case_is a) ∙ (rw (e, v) (case_is b))

-- of any call: what it accepts with and what it refuses with are told by its answer
pub tells : {A : Type 0} (a b : Result A Refusal) → answer_of a ≡ answer_of b → a ≡ b
tells (Ok x) (Ok y) e = ap Ok (cc)
tells (Ok x) (Err s) e = absurd (let z : ◌≡◌ {A = ℕ} 0 1 = cc in omega arith)
tells (Err r) (Ok y) e = absurd (let z : ◌≡◌ {A = ℕ} 0 1 = cc in omega arith)
tells (Err r) (Err s) e = ap Err (tells_refusal r s (cc) (cc))
