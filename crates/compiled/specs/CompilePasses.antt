-- Two tables that hold what compile gave; that they pass the checker is in proofs/CompilePasses. Definitions alone.
use Rattle.std.specs.Prelude.{◌≡◌}
use mathlib.Core.List.{List}
use Prim.Native.Nat.{ℕ, ◌+◌, ◌<◌}
use Rattle.kernel.specs.Steps.{step_at}
use Rattle.kernel.specs.Instructions.{instruction_at}
use Rattle.compile.specs.Words.{Compiled}

-- tables that agree with a kernel's words below its counts: the rest is not read
pub record Agree (c : Compiled) (steps instructions : List ℕ) : Type 0 where
  pub same_steps : (i : ℕ) → i < c.kernel.control + c.kernel.sample → step_at steps i ≡ step_at c.steps i
  pub same_instructions : (i : ℕ) → i < c.kernel.instructions → instruction_at instructions i ≡ instruction_at c.instructions i
