-- Stores in a table, what holds of every word and is kept by a store, and runs of stores. `sets l i vs`, the words vs stored from index i on, is of lib.Seq,
-- with `length-sets` and `sets-eq`; so are `get_or-set_same`, `get_or-set_other`, `set-set` and `set_comm`, and `length-set` is of lib.ListN. Assumes nothing.
use Rattle.std.specs.Prelude.{◌≡◌, refl, Bool, true, false, cond, ◌⊎◌, List, [], ◌∷◌, ◌++◌, ℕ, zero, suc, ◌+◌, ◌≤◌, ◌<◌, eqb}
use Rattle.std.proofs.Common.{sym, ap, ◌∙◌, inl, inr, not-suc-le-zero, arith, get_or-set_same, get_or-set_other, eqb-true}
use lib.ListN.{length, get_or, set, length-set}
use Rattle.std.proofs.lemmas.List.Edits.{sets}
use Rattle.std.proofs.Math.Seq.{set_out}
use Rattle.std.proofs.lemmas.Bool.{eqb-false}

-- ---- one store

-- any word after a store inside the table
pub stored : (l : List ℕ) (i v j : ℕ) → i < length l → get_or (set l i v) j 0 ≡ cond (eqb j i) v (get_or l j 0)
stored l i v j h = go (eqb j i) refl
  where
    go : (b : Bool) → eqb j i ≡ b → get_or (set l i v) j 0 ≡ cond b v (get_or l j 0)
    go true e = let q = eqb-true j i e in rw q (get_or-set_same l i v 0 h)
    go false e = get_or-set_other l i j v 0 (eqb-false j i e)

-- a word that is not 0 lies in the table
pub inside : (l : List ℕ) (i : ℕ) → 0 < get_or l i 0 → i < length l
inside [] i h = absurd (not-suc-le-zero h)
inside (x ∷ l) zero h = omega arith
inside (x ∷ l) (suc i) h = let q = inside l i h in omega arith

-- a word that is not 0 after a store is the one stored, or was there before
pub set_says : (l : List ℕ) (i v j x : ℕ) → get_or (set l i v) j 0 ≡ suc x → ((j ≡ i) × (v ≡ suc x)) ⊎ ((j ≡ i → ⊥) × (get_or l j 0 ≡ suc x))
set_says l i v j x e = go (eqb j i) refl
  where
    go : (b : Bool) → eqb j i ≡ b → ((j ≡ i) × (v ≡ suc x)) ⊎ ((j ≡ i → ⊥) × (get_or l j 0 ≡ suc x))
    go true p =
        let q = eqb-true j i p in
        let h : j < length l = rw (length-set l i v) at (inside (set l i v) j (omega arith)) in
        inl (q, sym (get_or-set_same l i v 0 (omega arith)) ∙ (ap (λ (k : ℕ). get_or (set l i v) k 0) (sym q) ∙ e))
    go false p = let q = eqb-false j i p in inr (q, sym (get_or-set_other l i j v 0 q) ∙ e)

-- ---- what holds of every word

-- P holds of every word, and of the 0 that is read past the end
abbrev pub Each : (ℕ → Type 0) → List ℕ → Type 0
Each P l = (i : ℕ) → P (get_or l i 0)

-- a word of 32 bits. Of a lent `&[u32]` x that is read, `c.type_inv.x` is `Each Word`
abbrev pub Word : ℕ → Type 0
Word w = w < 4294967296

module _ (P : ℕ → Type 0) where
  -- a store of such a word keeps it
  pub each_set : (l : List ℕ) (i v : ℕ) → P v → Each P l → Each P (set l i v)
  each_set [] i v p h k = h k
  each_set (x ∷ l) zero v p h zero = p
  each_set (x ∷ l) zero v p h (suc k) = h (suc k)
  each_set (x ∷ l) (suc i) v p h zero = h zero
  each_set (x ∷ l) (suc i) v p h (suc k) = each_set l i v p (λ j. h (suc j)) k

  -- the empty table
  pub each_nil : P 0 → Each P []
  each_nil p i = p

  -- one word in front
  pub each_cons : (x : ℕ) (l : List ℕ) → P x → Each P l → Each P (x ∷ l)
  each_cons x l p h zero = p
  each_cons x l p h (suc i) = h i

  -- one table behind another
  pub each_append : (l m : List ℕ) → Each P l → Each P m → Each P (l ++ m)
  each_append [] m h k i = k i
  each_append (x ∷ l) m h k zero = h zero
  each_append (x ∷ l) m h k (suc i) = each_append l m (λ j. h (suc j)) k i

-- ---- runs of stores

-- two runs, the second right behind the first, are one
pub sets_append : (l : List ℕ) (i j : ℕ) (vs ws : List ℕ) → j ≡ i + length vs → sets (sets l i vs) j ws ≡ sets l i (vs ++ ws)
sets_append l i j [] ws e = let z : j ≡ i = omega arith in rw z
sets_append l i j (v ∷ vs) ws e = sets_append (set l i v) (suc i) j vs ws (omega arith)

-- a word before or behind a run is as it was
pub sets_out : (l : List ℕ) (i : ℕ) (vs : List ℕ) (j : ℕ) → (j < i) ⊎ (i + length vs ≤ j) → get_or (sets l i vs) j 0 ≡ get_or l j 0
sets_out l i [] j h = refl
sets_out l i (v ∷ vs) j (inl h) =
    sets_out (set l i v) (suc i) vs j (inl (omega arith)) ∙ get_or-set_other l i j v 0 (λ e. omega arith)
sets_out l i (v ∷ vs) j (inr h) =
    sets_out (set l i v) (suc i) vs j (inr (omega arith)) ∙ get_or-set_other l i j v 0 (λ e. omega arith)

-- word k of a run, where the table has it
pub sets_in : (l : List ℕ) (i : ℕ) (vs : List ℕ) (k : ℕ) → i + k < length l → k < length vs → get_or (sets l i vs) (i + k) 0 ≡ get_or vs k 0
sets_in l i [] k h q = absurd (not-suc-le-zero q)
sets_in l i (v ∷ vs) zero h q =
    let z : i + 0 ≡ i = omega arith in
    rw z (sets_out (set l i v) (suc i) vs i (inl (omega arith)) ∙ get_or-set_same l i v 0 (omega arith))
sets_in l i (v ∷ vs) (suc k) h q =
    let z : i + suc k ≡ suc i + k = omega arith in
    rw z (sets_in (set l i v) (suc i) vs k (simp length-set (omega arith)) (omega arith))

-- stores past the end do nothing
pub sets_past : (l : List ℕ) (i : ℕ) (vs : List ℕ) → length l ≤ i → sets l i vs ≡ l
sets_past l i [] h = refl
sets_past l i (v ∷ vs) h = rw (set_out l i v h) (sets_past l (suc i) vs (omega arith))

-- a run of words of which P holds keeps it
pub each_sets : (P : ℕ → Type 0) (l : List ℕ) (i : ℕ) (vs : List ℕ) → Each P l → Each P vs → Each P (sets l i vs)
each_sets P l i [] h k = h
each_sets P l i (v ∷ vs) h k = each_sets P (set l i v) (suc i) vs (each_set P l i v (k 0) h) (λ j. k (suc j))
