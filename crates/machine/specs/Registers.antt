-- One register set by a pass over all sixteen places: what the loop of `put` keeps. Assumes nothing.
use Rattle.std.specs.Prelude.{◌≡◌, refl, Bool, true, false, cond, List, [], ◌∷◌, ℕ, zero, suc, ◌+◌, ◌≤◌, ◌<◌, length, get_or, set, ltb, eqb}
use Rattle.std.proofs.Common.{ap, not-suc-le-zero, le_of_suc-le-suc, arith, ltb-true, ltb-false, eqb-true, lt-ltb, le-ltb}
use Rattle.std.proofs.Math.Decide.{dec_lt}
use Rattle.std.proofs.lemmas.Bool.{eqb-false}

-- the registers after the first k places were looked at
unfoldable pub up_to : List ℕ → ℕ → ℕ → ℕ → List ℕ
up_to l d v k = cond (ltb d k) (set l d v) l

set_same : (l : List ℕ) (k : ℕ) → set l k (get_or l k 0) ≡ l
set_same [] k = refl
set_same (x ∷ xs) zero = refl
set_same (x ∷ xs) (suc k) = ap (λ (t : List ℕ). x ∷ t) (set_same xs k)

set_past : (l : List ℕ) (k v : ℕ) → length l ≤ k → l ≡ set l k v
set_past [] k v h = refl
set_past (x ∷ xs) zero v h = absurd (not-suc-le-zero h)
set_past (x ∷ xs) (suc k) v h = ap (λ (t : List ℕ). x ∷ t) (set_past xs k v (le_of_suc-le-suc h))

pub up_to_start : (l : List ℕ) (d v : ℕ) → l ≡ up_to l d v 0
unfolding up_to
up_to_start l d v = simp (le-ltb d 0 (omega arith))

-- the place k is set to v where it is the one, else to what it holds
next : (l : List ℕ) (d v k : ℕ) → set (up_to l d v k) k (cond (eqb k d) v (get_or (up_to l d v k) k 0)) ≡ up_to l d v (k + 1)
unfolding up_to
next l d v k = go (ltb d k) refl (eqb k d) refl
  where
    go : (a : Bool) → ltb d k ≡ a → (b : Bool) → eqb k d ≡ b
        → set (cond (ltb d k) (set l d v) l) k (cond (eqb k d) v (get_or (cond (ltb d k) (set l d v) l) k 0)) ≡ cond (ltb d (k + 1)) (set l d v) l
    go true p true q = let h = ltb-true d k p in let e = eqb-true k d q in absurd (omega arith)
    go true p false q = let h = ltb-true d k p in simp (p, q, lt-ltb d (k + 1) (omega arith), set_same)
    go false p true q = let e = eqb-true k d q in simp (p, q, lt-ltb d (k + 1) (omega arith)) (ap (λ (t : ℕ). set l t v) e)
    go false p false q = let h = ltb-false d k p in let n = eqb-false k d q in simp (p, q, le-ltb d (k + 1) (omega arith), set_same)

pub up_to_next : (l r : List ℕ) (d v k w : ℕ) → r ≡ up_to l d v k → w ≡ cond (eqb k d) v (get_or r k 0) → set r k w ≡ up_to l d v (k + 1)
up_to_next l r d v k w e p = rw (p, e) (next l d v k)

-- a place past the registers is none of them
pub up_to_end : (l : List ℕ) (d v : ℕ) → up_to l d v (length l) ≡ set l d v
unfolding up_to
up_to_end l d v = go (dec_lt d (length l))
  where
    go : Dec (d < length l) → cond (ltb d (length l)) (set l d v) l ≡ set l d v
    go (yes h) = rw (lt-ltb d (length l) h)
    go (no h) = rw (le-ltb d (length l) (omega arith)) (set_past l d v (omega arith))
