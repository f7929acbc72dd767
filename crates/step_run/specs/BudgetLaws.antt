-- The largest n within a budget, as a formula: what the control steps leave of the budget, shared out among samples, and no more than the input has.
use Rattle.std.specs.Prelude.{◌≡◌, refl, Bool, true, false, cond, ℕ, zero, suc, ◌+◌, ◌-◌, ◌*◌, ◌/◌, ◌≤◌, ◌<◌, min, leb}
use Rattle.std.proofs.Common.{◌∙◌, mul-suc, div-lt_iff_lt-mul, le-div_iff_mul-le, arith, leb-true, leb-false}
use Rattle.std.proofs.lemmas.Bool.{lt-leb}
use Rattle.kernel.specs.declared.Kernel.{Kernel}
use Rattle.step_run.specs.declared.Done.{Done}
use Rattle.step_run.specs.Budget.{within, largest, samples_done}

fits : (q n : ℕ) → suc n ≤ q → suc n ≡ min q (suc n)
fits q n h = omega arith

spent : (q n m : ℕ) → q < suc n → m ≡ min q n → m ≡ min q (suc n)
spent q n m h e = omega arith

room : (budget control a : ℕ) → control ≤ budget → control + a ≤ budget → a ≤ budget - control
room budget control a h l = omega arith

no_room : (budget control a : ℕ) → control ≤ budget → budget < control + a → budget - control < a
no_room budget control a h l = omega arith

-- a budget that the control steps alone use up
pub none_done : (k : Kernel) (budget n : ℕ) → budget < k.control → samples_done k budget n ≡ 0
unfolding samples_done largest
none_done k budget zero h = refl
none_done k budget (suc n) h =
    let e = none_done k budget n h in
    rw (lt-leb (k.control + suc n * k.sample) budget (omega arith)) e

-- any other
pub done_is : (k : Kernel) (budget n : ℕ) → 0 < k.sample → k.control ≤ budget → samples_done k budget n ≡ min ((budget - k.control) / k.sample) n
unfolding samples_done largest
done_is k budget zero s h = omega arith
done_is k budget (suc n) s h = go (leb (k.control + suc n * k.sample) budget) refl (done_is k budget n s h)
  where
    go : (b : Bool) → leb (k.control + suc n * k.sample) budget ≡ b → largest (within k budget) n ≡ min ((budget - k.control) / k.sample) n
        → cond b (suc n) (largest (within k budget) n) ≡ min ((budget - k.control) / k.sample) (suc n)
    go true e ih =
        fits _ n ((le-div_iff_mul-le s).1 (room budget k.control (suc n * k.sample) h (leb-true _ _ e)))
    go false e ih =
        spent _ n _ ((div-lt_iff_lt-mul s).1 (no_room budget k.control (suc n * k.sample) h (leb-false _ _ e))) ih

-- what is done is within the budget, and no more than the input has
largest_passes : (p : ℕ → Bool) (n : ℕ) → (largest p n ≡ 0 → ⊥) → p (largest p n) ≡ true
unfolding largest
largest_passes p zero h = absurd (h refl)
largest_passes p (suc n) h = go (p (suc n)) refl (largest_passes p n) h
  where
    go : (b : Bool) → p (suc n) ≡ b → ((largest p n ≡ 0 → ⊥) → p (largest p n) ≡ true) → (cond b (suc n) (largest p n) ≡ 0 → ⊥) → p (cond b (suc n) (largest p n)) ≡ true
    go true e ih l = e
    go false e ih l = ih l

pub done_within : (k : Kernel) (budget n : ℕ) → (samples_done k budget n ≡ 0 → ⊥) → k.control + samples_done k budget n * k.sample ≤ budget
unfolding samples_done
done_within k budget n h = leb-true _ _ (largest_passes (within k budget) n h)

pub done_inputs : (k : Kernel) (budget n : ℕ) → samples_done k budget n ≤ n
unfolding samples_done largest
done_inputs k budget zero = omega arith
done_inputs k budget (suc n) = go (within k budget (suc n)) (done_inputs k budget n)
  where
    go : (b : Bool) → largest (within k budget) n ≤ n → cond b (suc n) (largest (within k budget) n) ≤ suc n
    go true l = omega arith
    go false l = omega arith

-- what a call of so many samples tells, where they are within the budget
abbrev pub done_of : Kernel → ℕ → Done
done_of k count = record { samples = count; steps = k.control + count * k.sample }

pub record Within (k : Kernel) (budget count : ℕ) : Type 0 where
  pub spent : k.control + count * k.sample ≤ budget
  pub few : count ≤ budget

many : (count sample : ℕ) → 0 < sample → count ≤ count * sample
many count zero h = absurd (omega arith)
many count (suc s) h = rw mul-suc (omega arith)

pub within_done : (k : Kernel) (budget n count : ℕ) → 0 < k.sample → count ≡ samples_done k budget n → (count ≡ 0 → ⊥) → Within k budget count
within_done k budget n count s e z =
    let w = done_within k budget n (λ q. z (e ∙ q)) in
    let u : k.control + count * k.sample ≤ budget = rw e w in
    let m = many count k.sample s in
    record { spent = u; few = omega arith }
