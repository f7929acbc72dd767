-- Loops that count i from 0 to n: what has been seen of the indices below i, as a test, a sum or a state. Every definition recurses on the prefix, and
-- has four laws for the loop's proof: start (at 0), next (from i to i + 1), stop (an early return) and end (i has come to n). The invariant of such a loop
-- is `(i ≤ n) × (some p i ≡ false)`, and so on. Assumes nothing.
use Rattle.std.specs.Prelude.{◌≡◌, ◌⊎◌, Bool, true, false, ◌||◌}
use Rattle.std.proofs.Math.Path.{refl}
use Rattle.std.proofs.Common.{inl, inr, eq-or-lt_of_le, le_of_suc-le-suc, not-suc-le-zero, add-one, arith}
use Prim.Native.Nat.{ℕ, zero, suc, ◌+◌, ◌-◌, ◌≤◌, ◌<◌}
use Rattle.tables.specs.Tests.{◌&◌, &_both, &_true, &_left, &_right, neither, or_right}

-- ---- some index passes

-- some index below n passes the test p
unfoldable pub some : (ℕ → Bool) → ℕ → Bool
some p zero = false
some p (suc n) = some p n || p n

-- none passes below 0
pub some_start : (p : ℕ → Bool) → some p 0 ≡ false
unfolding some
some_start p = refl

-- none below i, and i does not pass: none below i + 1
pub some_next : (p : ℕ → Bool) (i : ℕ) → some p i ≡ false → p i ≡ false → some p (i + 1) ≡ false
unfolding some
some_next p i e z = rw (add-one, e, z)

-- i passes: some index does
pub some_stop : (p : ℕ → Bool) (n i : ℕ) → i < n → p i ≡ true → some p n ≡ true
unfolding some
some_stop p zero i h z = absurd (not-suc-le-zero h)
some_stop p (suc n) i h z = go (eq-or-lt_of_le (le_of_suc-le-suc h)) (some_stop p n i)
  where
    go : (i ≡ n) ⊎ (i < n) → (i < n → p i ≡ true → some p n ≡ true) → (some p n || p n) ≡ true
    go (inl q) ih = or_right (some p n) (p n) (rw q at z)
    go (inr q) ih = rw (ih q z)

-- the loop has come to n
pub some_end : (p : ℕ → Bool) (i n : ℕ) → i ≤ n → n ≤ i → some p i ≡ false → some p n ≡ false
some_end p i n h l e = let q : i ≡ n = omega arith in rw q at e

-- where none passes, each index fails
pub some_false : (p : ℕ → Bool) (n : ℕ) → some p n ≡ false → (i : ℕ) → i < n → p i ≡ false
unfolding some
some_false p zero e i h = absurd (not-suc-le-zero h)
some_false p (suc n) e i h = go (eq-or-lt_of_le (le_of_suc-le-suc h)) (neither _ _ e) (some_false p n)
  where
    go : (i ≡ n) ⊎ (i < n) → (some p n ≡ false) × (p n ≡ false) → (some p n ≡ false → (j : ℕ) → j < n → p j ≡ false) → p i ≡ false
    go (inl q) v ih = rw q v.1
    go (inr q) v ih = ih v.0 i q

-- where each index fails, none passes
pub some_none : (p : ℕ → Bool) (n : ℕ) → ((i : ℕ) → i < n → p i ≡ false) → some p n ≡ false
unfolding some
some_none p zero h = refl
some_none p (suc n) h = let e = some_none p n (λ i l. h i (omega arith)) in rw (e, h n (omega arith))

-- ---- every index passes

-- every index below n passes the test p
unfoldable pub every : (ℕ → Bool) → ℕ → Bool
every p zero = true
every p (suc n) = every p n & p n

-- all below 0 pass
pub every_start : (p : ℕ → Bool) → every p 0 ≡ true
unfolding every
every_start p = refl

-- all below i, and i passes: all below i + 1
pub every_next : (p : ℕ → Bool) (i : ℕ) → every p i ≡ true → p i ≡ true → every p (i + 1) ≡ true
unfolding every
every_next p i e z = rw add-one (&_true (every p i) (p i) e z)

-- i fails: not every index passes
pub every_stop : (p : ℕ → Bool) (n i : ℕ) → i < n → p i ≡ false → every p n ≡ false
unfolding every
every_stop p zero i h z = absurd (not-suc-le-zero h)
every_stop p (suc n) i h z = go (eq-or-lt_of_le (le_of_suc-le-suc h)) (every_stop p n i)
  where
    go : (i ≡ n) ⊎ (i < n) → (i < n → p i ≡ false → every p n ≡ false) → (every p n & p n) ≡ false
    go (inl q) ih = &_right (every p n) (p n) (rw q at z)
    go (inr q) ih = &_left (every p n) (p n) (ih q z)

-- the loop has come to n
pub every_end : (p : ℕ → Bool) (i n : ℕ) → i ≤ n → n ≤ i → every p i ≡ true → every p n ≡ true
every_end p i n h l e = let q : i ≡ n = omega arith in rw q at e

-- where every index passes, each does
pub every_true : (p : ℕ → Bool) (n : ℕ) → every p n ≡ true → (i : ℕ) → i < n → p i ≡ true
unfolding every
every_true p zero e i h = absurd (not-suc-le-zero h)
every_true p (suc n) e i h = go (eq-or-lt_of_le (le_of_suc-le-suc h)) (&_both _ _ e) (every_true p n)
  where
    go : (i ≡ n) ⊎ (i < n) → (every p n ≡ true) × (p n ≡ true) → (every p n ≡ true → (j : ℕ) → j < n → p j ≡ true) → p i ≡ true
    go (inl q) v ih = rw q v.1
    go (inr q) v ih = ih v.0 i q

-- where each index passes, every index does
pub every_all : (p : ℕ → Bool) (n : ℕ) → ((i : ℕ) → i < n → p i ≡ true) → every p n ≡ true
unfolding every
every_all p zero h = refl
every_all p (suc n) h = &_true (every p n) (p n) (every_all p n (λ i l. h i (omega arith))) (h n (omega arith))

-- ---- sums

-- the sum of f over the indices below n
unfoldable pub sum : (ℕ → ℕ) → ℕ → ℕ
sum f zero = 0
sum f (suc n) = sum f n + f n

-- the sum over no index
pub sum_start : (f : ℕ → ℕ) → sum f 0 ≡ 0
unfolding sum
sum_start f = refl

-- the sum over one index more
pub sum_next : (f : ℕ → ℕ) (i : ℕ) → sum f (i + 1) ≡ sum f i + f i
unfolding sum
sum_next f i = rw add-one

-- a running total t takes in f i
pub sum_turn : (f : ℕ → ℕ) (i t : ℕ) → t ≡ sum f i → t + f i ≡ sum f (i + 1)
sum_turn f i t e = rw (sum_next f i, e)

-- the loop has come to n
pub sum_end : (f : ℕ → ℕ) (i n t : ℕ) → i ≤ n → n ≤ i → t ≡ sum f i → t ≡ sum f n
sum_end f i n t h l e = let q : i ≡ n = omega arith in rw q at e

-- functions that agree below n have one sum
pub sum_same : (f g : ℕ → ℕ) (n : ℕ) → ((i : ℕ) → i < n → f i ≡ g i) → sum f n ≡ sum g n
unfolding sum
sum_same f g zero h = refl
sum_same f g (suc n) h = let e = sum_same f g n (λ i q. h i (omega arith)) in rw (e, h n (omega arith))

-- more indices, no smaller sum: an early return where a total is too large
pub sum_le : (f : ℕ → ℕ) (i n : ℕ) → i ≤ n → sum f i ≤ sum f n
unfolding sum
sum_le f i zero h = let z : i ≡ 0 = omega arith in rw z (omega arith)
sum_le f i (suc n) h = go (eq-or-lt_of_le h) (sum_le f i n)
  where
    go : (i ≡ suc n) ⊎ (i < suc n) → (i ≤ n → sum f i ≤ sum f n) → sum f i ≤ sum f n + f n
    go (inl q) ih = rw q (omega arith)
    go (inr q) ih = let k = ih (omega arith) in omega arith

-- ---- a state, turn by turn

-- the state after the turns 0 to n - 1, begun at s: turn i takes it by `turn i`
unfoldable pub turns {ℓ} : {A : Type ℓ} → (ℕ → A → A) → A → ℕ → A
turns turn s zero = s
turns turn s (suc n) = turn n (turns turn s n)

module _ {ℓ} {A : Type ℓ} (turn : ℕ → A → A) (s : A) where
  -- no turn yet
  pub turns_start : turns turn s 0 ≡ s
  unfolding turns
  turns_start = refl

  -- the turn i
  pub turns_next : (i : ℕ) (x : A) → x ≡ turns turn s i → turn i x ≡ turns turn s (i + 1)
  unfolding turns
  turns_next i x e = rw (add-one, e)

  -- the loop has come to n
  pub turns_end : (i n : ℕ) (x : A) → i ≤ n → n ≤ i → x ≡ turns turn s i → x ≡ turns turn s n
  turns_end i n x h l e = let q : i ≡ n = omega arith in rw q at e

  -- what holds at the start and is kept by each turn below n holds after n turns
  pub turns_keep {κ} : (P : A → Type κ) (n : ℕ) → P s → ((i : ℕ) (x : A) → i < n → P x → P (turn i x)) → P (turns turn s n)
  unfolding turns
  turns_keep P zero p k = p
  turns_keep P (suc n) p k = k n (turns turn s n) (omega arith) (turns_keep P n p (λ i x l. k i x (omega arith)))

-- ---- loops by what is left: F (suc k) i is one turn at i, and then F k (i + 1). The invariant is `F n 0 .. ≡ F (n - i) i ..`

-- a turn is left
pub left_step : (n i : ℕ) → i < n → n - i ≡ suc (n - (i + 1))
left_step n i h = omega arith

-- no turn is left
pub left_none : (n i : ℕ) → n ≤ i → n - i ≡ 0
left_none n i h = omega arith
