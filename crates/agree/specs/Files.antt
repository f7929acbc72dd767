-- Registers and slots that hold what the checker's words say of them, list against list. Assumes nothing.
use Rattle.std.specs.Prelude.{◌≡◌, List, [], ◌∷◌, ℕ, zero, suc, ◌≤◌, length, get_or, set, replicate}
use Rattle.std.proofs.Common.{not-suc-le-zero, le_of_suc-le-suc, arith}

-- the word v is what the checker's word w says, where node k has the value `value k`: nothing of 0, node k's value of k + 1
abbrev pub Says : (ℕ → ℕ) → ℕ → ℕ → Type 0
Says value w v = (k : ℕ) → w ≡ suc k → v ≡ value k

-- each word of a table is what the checker's table says; the lent table may be longer
pub data File (value : ℕ → ℕ) : List ℕ → List ℕ → Type 0 where
  file_end : {vs : List ℕ} → File value [] vs
  file_word : {w v : ℕ} {ws vs : List ℕ} → Says value w v → File value ws vs → File value (w ∷ ws) (v ∷ vs)

module _ (value : ℕ → ℕ) where
  -- a word read on both sides
  pub file_get : {ws vs : List ℕ} → File value ws vs → (j : ℕ) → Says value (get_or ws j 0) (get_or vs j 0)
  file_get file_end j k e = absurd (omega arith)
  file_get (file_word h r) zero k e = h k e
  file_get (file_word h r) (suc j) k e = file_get r j k e

  -- a store on both sides
  pub file_set : {ws vs : List ℕ} → File value ws vs → (j w v : ℕ) → Says value w v → File value (set ws j w) (set vs j v)
  file_set file_end j w v h = file_end
  file_set (file_word g r) zero w v h = file_word h r
  file_set (file_word g r) (suc j) w v h = file_word g (file_set r j w v h)

  -- of a table that is not filled nothing is said
  pub file_empty : (n : ℕ) (vs : List ℕ) → n ≤ length vs → File value (replicate n 0) vs
  file_empty zero vs e = file_end
  file_empty (suc n) [] e = absurd (not-suc-le-zero e)
  file_empty (suc n) (v ∷ vs) e = file_word (λ k (z : ◌≡◌ {A = ℕ} 0 (suc k)). absurd (omega arith)) (file_empty n vs (le_of_suc-le-suc e))
