-- How definitions put answers in order: "The lowest number wins", "the first bad record". Definitions alone.
use Rattle.std.specs.Prelude.{Bool, true, false, [], ◌∷◌, ℕ, zero, suc}
use Rattle.answers.specs.Numbers.{Answer, accepted, refused}

-- the first refusal, else what comes after it. It stays shut, so that its two parts can be read off a fact
infixr 20 ◌⨾◌
unfoldable pub ◌⨾◌ : {A : Type 0} → Answer Unit → Answer A → Answer A
◌⨾◌ (accepted u) b = b
◌⨾◌ (refused n vs) b = refused n vs

-- answer n where the test passes
unfoldable pub refuse : ℕ → Bool → Answer Unit
refuse n true = refused n []
refuse n false = accepted tt

-- answer n with the index i where the test passes
unfoldable pub refuse_at : ℕ → ℕ → Bool → Answer Unit
refuse_at n i true = refused n (i ∷ [])
refuse_at n i false = accepted tt

-- the answers of the records below n, one after the other: the first refusal, if there is one
unfoldable pub in_order : (ℕ → Answer Unit) → ℕ → Answer Unit
in_order answer zero = accepted tt
in_order answer (suc n) = in_order answer n ⨾ answer n
