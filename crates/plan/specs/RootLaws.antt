-- Laws that `mark_updates` and `mark_roots` cite. Assumes nothing.
use Rattle.std.specs.Prelude.{◌≡◌, refl, List, [], ◌∷◌, ◌++◌, ℕ, zero, suc, ◌+◌, ◌-◌, ◌≤◌, ◌<◌, length, get_or, set, take}
use Rattle.std.proofs.Common.{ap, ◌∙◌, arith, add-one, take-suc, take_all}
use Rattle.plan.specs.Nodes.{updates_of}
use Rattle.plan.specs.Words.{marked}

-- the marks of two lists, one after the other
pub marked_append : (base : ℕ) (xs ys work : List ℕ) → marked base ys (marked base xs work) ≡ marked base (xs ++ ys) work
marked_append base [] ys work = refl
marked_append base (x ∷ xs) ys work = marked_append base xs ys (set work (base + x) 1)

-- the updates of two tables, one behind the other
pub updates_append : (us vs : List ℕ) → updates_of (us ++ vs) ≡ updates_of us ++ updates_of vs
updates_append [] vs = refl
updates_append (zero ∷ us) vs = updates_append us vs
updates_append (suc n ∷ us) vs = ap (λ (l : List ℕ). n ∷ l) (updates_append us vs)

-- one update's ways out
pub update_none : (base update : ℕ) (work : List ℕ) → update ≡ 0 → work ≡ marked base (updates_of (update ∷ [])) work
update_none base update work e = rw e

pub update_some : (base update : ℕ) (work : List ℕ) → (update ≡ 0 → ⊥) → set work (base + (update - 1)) 1 ≡ marked base (updates_of (update ∷ [])) work
update_some base zero work h = absurd (h refl)
update_some base (suc n) work h = let z : suc n - 1 ≡ n = omega arith in rw z

-- the loop's start
pub updates_start : (base : ℕ) (us work : List ℕ) → work ≡ marked base (updates_of (take 0 us)) work
updates_start base us work = refl

-- its turn
pub updates_next : (base : ℕ) (us table work next : List ℕ) (i : ℕ) → i < length us → work ≡ marked base (updates_of (take i us)) table
    → next ≡ marked base (updates_of (get_or us i 0 ∷ [])) work → next ≡ marked base (updates_of (take (i + 1) us)) table
updates_next base us table work next i h e q =
    rw (q, e, add-one, take-suc us i 0 h, updates_append (take i us) (get_or us i 0 ∷ [])) (marked_append base (updates_of (take i us)) (updates_of (get_or us i 0 ∷ [])) table)

-- its end
pub updates_end : (base : ℕ) (us table work : List ℕ) (i : ℕ) → length us ≤ i → work ≡ marked base (updates_of (take i us)) table → work ≡ marked base (updates_of us) table
updates_end base us table work i h e = rw (take_all i us h) at e

-- both tables after the output
pub roots_all : (base out : ℕ) (us vs table first second : List ℕ) → first ≡ marked base us (set table (base + out) 1) → second ≡ marked base vs first
    → second ≡ marked base (out ∷ (us ++ vs)) table
roots_all base out us vs table first second e q = q ∙ (ap (marked base vs) e ∙ marked_append base us vs (set table (base + out) 1))
