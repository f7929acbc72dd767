-- What holds of an answer of the allocator. Assumes nothing.
use Rattle.std.specs.Prelude.{◌≡◌, ℕ}
use Rattle.std.proofs.Common.{subst, arith}
use Rattle.allocate.specs.State.{Allocated, allocated, all_locked, and_then}

-- what holds of an answer; R holds if it is the refusal
abbrev pub Post : {A : Type 0} → Type 0 → (A → Type 0) → Allocated A → Type 0
Post R P (allocated a) = P a
Post R P all_locked = R

-- of a result that goes on
pub post_bind : {A B : Type 0} (R : Type 0) (P : A → Type 0) (Q : B → Type 0) (m : Allocated A) (f : A → Allocated B)
    → Post R P m → ((a : A) → P a → Post R Q (f a)) → Post R Q (and_then m f)
post_bind R P Q (allocated a) f h k = k a h
post_bind R P Q all_locked f h k = h

-- two results that are one
pub allocated_is : {A : Type 0} (a c : A) → allocated a ≡ allocated c → a ≡ c
allocated_is a c h = cc

-- a refusal is no result
pub not_allocated : {A B : Type 0} (a : A) → all_locked ≡ allocated a → B
not_allocated a h = let z : ◌≡◌ {A = ℕ} 0 1 = cc in absurd (omega arith)

-- of a result that is known
pub post_at : {A : Type 0} (P : A → Type 0) (x : Allocated A) (a : A) → Post (Unit {0}) P x → x ≡ allocated a → P a
post_at P (allocated c) a p h = subst P (allocated_is c a h) p
post_at P all_locked a p h = not_allocated a h

-- nothing is asked
abbrev pub Any : {A : Type 0} → A → Type 0
Any a = Unit {0}

-- it is no refusal
abbrev pub Sure : {A : Type 0} → Allocated A → Type 0
Sure m = Post ⊥ Any m

-- two things hold of it
pub post_and : {A : Type 0} (P Q : A → Type 0) (x : Allocated A) → Post (Unit {0}) P x → Post (Unit {0}) Q x → Post (Unit {0}) (λ a. P a × Q a) x
post_and P Q (allocated a) p q = (p, q)
post_and P Q all_locked p q = tt

-- what holds of it implies another
pub post_map : {A : Type 0} (P Q : A → Type 0) (x : Allocated A) → Post (Unit {0}) P x → ((a : A) → P a → Q a) → Post (Unit {0}) Q x
post_map P Q (allocated a) p f = f a p
post_map P Q all_locked p f = tt
