-- `may_evict`: a locked register, a usable one, and another. Assumes nothing.
use Rattle.std.proofs.Common.{◌≡◌, refl, sym, ◌∙◌, Bool, true, false, not, cond, ◌||◌, List, [], ◌∷◌, ℕ, ◌<◌, ◌≤◌, length, get_or, eqb, arith}
use borrow.Author.Tests.{eq-eqb, ne_eqb, eqb-true, eqb-false}
use Rattle.std.specs.List.{list_any}
use Rattle.allocate.specs.Registers.{usable_bit, may_evict, lock}
use Rattle.allocate.proofs.registers.may_evict.Goals.{then-not-contains, else-not-contains}
use Rattle.allocate.proofs.registers.may_evict.Goals as goal

turned : (a b : ℕ) → eqb a b ≡ eqb b a
turned a b = go (eqb a b) refl
  where
    go : (x : Bool) → eqb a b ≡ x → eqb a b ≡ eqb b a
    go true e = e ∙ sym (eq-eqb b a (sym (eqb-true a b e)))
    go false e = e ∙ sym (ne_eqb b a (λ q. eqb-false a b e (sym q)))

one_lock : (p x : Bool) → cond (p || false) false x ≡ cond p false x
one_lock true x = refl
one_lock false x = refl

two_locks : (p q x : Bool) → cond (p || (q || false)) false x ≡ cond p false (cond q false x)
two_locks true q x = refl
two_locks false true x = refl
two_locks false false x = refl

-- a register that is none of the locks, and then the rest of the test
by_locks : (locked owner : List ℕ) (mask r : ℕ) → length locked ≤ 2 → r < 16
    → cond (list_any (λ y. eqb y r) locked) false (cond (usable_bit mask r) (not (eqb (get_or owner r 0) 0)) false)
    ≡ may_evict owner mask (lock locked 0) (lock locked 1) r
unfolding may_evict
by_locks [] owner mask r l h = rw (ne_eqb r 16 (λ e. omega arith))
by_locks (a ∷ []) owner mask r l h = rw (ne_eqb r 16 (λ e. omega arith), turned a r) (one_lock (eqb r a) (cond (usable_bit mask r) (not (eqb (get_or owner r 0) 0)) false))
by_locks (a ∷ b ∷ []) owner mask r l h = rw (turned a r, turned b r) (two_locks (eqb r a) (eqb r b) (cond (usable_bit mask r) (not (eqb (get_or owner r 0) 0)) false))
by_locks (a ∷ b ∷ x ∷ xs) owner mask r l h = absurd (omega arith)

pub returns-then-bit : goal.returns-then-bit
returns-then-bit c =
    let e = by_locks c.args.locked.now c.args.owner.now c.args.mask c.args.r c.requires.locks c.requires.register in
    elim c.if-not-contains.branch [
      | then-not-contains w ↦ rw (sym c.contains.ensures.value ∙ w.if-not-contains.true, sym w.bit.ensures ∙ (sym w.value-is ∙ c.if-bit.true)) at e
      | else-not-contains w ↦ cc (w.value-is, c.if-bit.true)
    ]

pub returns-else-bit : goal.returns-else-bit
returns-else-bit c =
    let e = by_locks c.args.locked.now c.args.owner.now c.args.mask c.args.r c.requires.locks c.requires.register in
    elim c.if-not-contains.branch [
      | then-not-contains w ↦ c.if-bit.false ∙ (rw (sym c.contains.ensures.value ∙ w.if-not-contains.true, sym w.bit.ensures ∙ (sym w.value-is ∙ c.if-bit.false)) at e)
      | else-not-contains w ↦ c.if-bit.false ∙ (rw (sym c.contains.ensures.value ∙ w.if-not-contains.false) at e)
    ]
