-- Answer 14 exactly, of the taking of one register: `take_locked`. Assumes nothing.
use Rattle.std.specs.Prelude.{◌≡◌, refl, ◌↔◌, Bool, true, false, not, List, [], ◌∷◌, ℕ, zero, suc, T}
use Rattle.std.proofs.Common.{sym, ◌∙◌, arith}
use Rattle.plan.specs.Lists.{member, filter, first_of, best, is_none}
use Rattle.plan.specs.ListLaws.{member_filter, filter_member, first_zero, first_some, best_member, best_suc}
use Rattle.allocate.specs.State.{allocated, all_locked, Setting, State, owner_of}
use Rattle.allocate.specs.Allocator.{take_best, take_free, take_register, evict_key}
use Rattle.compiled.specs.Locked.{EveryLocked}

pub not_locked : {A B : Type 0} (a : A) → allocated a ≡ all_locked → B
not_locked a h = let z : ◌≡◌ {A = ℕ} 0 1 = cc in absurd (omega arith)

none_is : (n : ℕ) → n ≡ 0 → is_none n ≡ true
none_is n e = rw e

-- ---- one register

take_says : (e : Setting) (rest : List (List ℕ)) (n : ℕ) (locked : List ℕ) (s : State) → take_register e rest n locked s ≡ all_locked → EveryLocked e locked s
unfolding take_register
take_says e rest n locked s h = go (first_of (λ r. is_none (owner_of s r)) e.registers) refl h
  where
    xs : List ℕ
    xs = filter (λ r. not (member r locked)) e.registers

    busy : first_of (λ r. is_none (owner_of s r)) e.registers ≡ 0 → (r : ℕ) → T (member r e.registers) → owner_of s r ≡ 0 → ⊥
    busy q r t z =
        let a = first_zero (λ r. is_none (owner_of s r)) e.registers r q t in
        let b = none_is (owner_of s r) z in let y : ◌≡◌ {A = Bool} true false = sym b ∙ a in let w : ◌≡◌ {A = ℕ} 0 1 = cc in omega arith

    -- one that is not locked would be thrown out
    held : best (evict_key rest s) xs ≡ 0 → (r : ℕ) → T (member r e.registers) → (b : Bool) → member r locked ≡ b → T (member r locked)
    held q r t true m = rw m tt
    held q r t false m =
        let inside : T (member r xs) = member_filter (λ r. not (member r locked)) e.registers r t (rw m tt) in
        absurd (some xs q r inside)
      where
        some : (ys : List ℕ) → best (evict_key rest s) ys ≡ 0 → (r : ℕ) → T (member r ys) → ⊥
        some [] q r t = t
        some (y ∷ ys) q r t = omega (arith, (best_suc (evict_key rest s) (y ∷ ys) (omega arith)).1, q)

    last : (b : ℕ) → best (evict_key rest s) xs ≡ b → first_of (λ r. is_none (owner_of s r)) e.registers ≡ 0 → take_best e n s b ≡ all_locked → EveryLocked e locked s
    last zero q f h = record { all = λ r t. held q r t (member r locked) refl; none_free = busy f }
    last (suc r) q f h = not_locked _ h

    go : (f : ℕ) → first_of (λ r. is_none (owner_of s r)) e.registers ≡ f → take_free e rest n locked s f ≡ all_locked → EveryLocked e locked s
    go zero q h = last (best (evict_key rest s) xs) refl q h
    go (suc r) q h = not_locked _ h

take_refuses : (e : Setting) (rest : List (List ℕ)) (n : ℕ) (locked : List ℕ) (s : State) → EveryLocked e locked s → take_register e rest n locked s ≡ all_locked
unfolding take_register
take_refuses e rest n locked s l = go (first_of (λ r. is_none (owner_of s r)) e.registers) refl
  where
    xs : List ℕ
    xs = filter (λ r. not (member r locked)) e.registers

    none : (n : ℕ) → is_none n ≡ true → n ≡ 0
    none zero h = refl
    none (suc n) h = let w : ◌≡◌ {A = ℕ} 0 1 = cc in absurd (omega arith)

    not_both : (b : Bool) → T (not b) → T b → ⊥
    not_both true t u = t
    not_both false t u = u

    last : (b : ℕ) → best (evict_key rest s) xs ≡ b → take_best e n s b ≡ all_locked
    last zero q = refl
    last (suc r) q =
        let p = filter_member (λ r. not (member r locked)) e.registers r (best_member (evict_key rest s) xs r q) in
        absurd (not_both (member r locked) p.1 (l.all r p.0))

    go : (f : ℕ) → first_of (λ r. is_none (owner_of s r)) e.registers ≡ f → take_free e rest n locked s f ≡ all_locked
    go zero q = last (best (evict_key rest s) xs) refl
    go (suc r) q = let p = first_some (λ r. is_none (owner_of s r)) e.registers r q in absurd (l.none_free r p.0 (none (owner_of s r) p.1))

-- A REGISTER IS REFUSED exactly when every usable one is locked
pub take_locked : (e : Setting) (rest : List (List ℕ)) (n : ℕ) (locked : List ℕ) (s : State) → take_register e rest n locked s ≡ all_locked ↔ EveryLocked e locked s
take_locked e rest n locked s = (take_says e rest n locked s, take_refuses e rest n locked s)
