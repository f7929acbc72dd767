-- Lists of numbers: the small tools that the plan and the allocator are said with. An option is 0, or n + 1. Definitions alone.
use Rattle.std.specs.Prelude.{Bool, true, false, cond, ◌||◌, List, [], ◌∷◌, ℕ, zero, suc, eqb, leb}

-- is n in the list
abbrev pub member : ℕ → List ℕ → Bool
member n [] = false
member n (x ∷ xs) = eqb n x || member n xs

-- those that pass, in order
abbrev pub filter {ℓ} : {A : Type ℓ} → (A → Bool) → List A → List A
filter passes [] = []
filter passes (x ∷ xs) = cond (passes x) (x ∷ filter passes xs) (filter passes xs)

-- does any pass
abbrev pub any_of {ℓ} : {A : Type ℓ} → (A → Bool) → List A → Bool
any_of passes [] = false
any_of passes (x ∷ xs) = passes x || any_of passes xs

-- n numbers from k on: k, k + 1, ..
abbrev pub count_up : ℕ → ℕ → List ℕ
count_up k zero = []
count_up k (suc n) = k ∷ count_up (suc k) n

-- the first that passes, if there is one
abbrev pub first_of : (ℕ → Bool) → List ℕ → ℕ
first_of passes [] = 0
first_of passes (x ∷ xs) = cond (passes x) (suc x) (first_of passes xs)

-- x, or the best behind it: the later one where their keys are equal
abbrev pub better : (ℕ → ℕ) → ℕ → ℕ → ℕ
better key x zero = suc x
better key x (suc y) = cond (leb (key x) (key y)) (suc y) (suc x)

-- the last one whose key is the greatest, if there is any (Rust: `max_by_key`)
abbrev pub best : (ℕ → ℕ) → List ℕ → ℕ
best key [] = 0
best key (x ∷ xs) = better key x (best key xs)

-- how many options of a table are some
abbrev pub count : List ℕ → ℕ
count [] = 0
count (zero ∷ xs) = count xs
count (suc x ∷ xs) = suc (count xs)

-- is an option some
abbrev pub is_some : ℕ → Bool
is_some zero = false
is_some (suc n) = true

-- is it none
abbrev pub is_none : ℕ → Bool
is_none zero = true
is_none (suc n) = false
