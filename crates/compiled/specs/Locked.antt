-- Answer 14 EXACTLY: "an operation needs a register and every usable one is locked". proofs/Locked has it of the taking of one register, proofs/LockedRun of a
-- run. Definitions alone.
use Rattle.std.specs.Prelude.{◌≡◌, List, ℕ, T}
use Rattle.plan.specs.Lists.{member}
use Rattle.allocate.specs.State.{Setting, State, owner_of}

-- "every usable one is locked", and so none is free
pub record EveryLocked (e : Setting) (locked : List ℕ) (s : State) : Type 0 where
  pub all : (r : ℕ) → T (member r e.registers) → T (member r locked)
  pub none_free : (r : ℕ) → T (member r e.registers) → owner_of s r ≡ 0 → ⊥
