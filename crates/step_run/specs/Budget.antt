-- "Samples done is the largest n from 1 to the input's length with control steps + n × sample steps within a given budget, else 0." Definitions alone.
use Rattle.std.specs.Prelude.{Bool, cond, ℕ, zero, suc, ◌+◌, ◌*◌, leb}
use Rattle.kernel.specs.declared.Kernel.{Kernel}

-- control steps + n × sample steps are within the budget
abbrev pub within : Kernel → ℕ → ℕ → Bool
within k budget n = leb (k.control + n * k.sample) budget

-- the largest n from 1 to `most` that passes the test, else 0
unfoldable pub largest : (ℕ → Bool) → ℕ → ℕ
largest passes zero = 0
largest passes (suc n) = cond (passes (suc n)) (suc n) (largest passes n)

unfoldable pub samples_done : Kernel → ℕ → ℕ → ℕ
samples_done k budget inputLength = largest (within k budget) inputLength
