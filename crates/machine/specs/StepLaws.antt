-- A run of steps under way; its laws are in proofs/StepLaws. Definitions alone.
use Rattle.std.specs.Prelude.{◌≡◌, List}
use Prim.Native.Nat.{ℕ, ◌+◌}
use Rattle.memory.specs.Fit.{Fit}
use Rattle.memory.specs.Signals.{Given}
use Rattle.machine.specs.Machine.{Machine, Program, steps_to}
use Rattle.machine.specs.Ready.{lengths_of, counting}

-- what the loop over the steps of a phase keeps after i steps
pub record Going (p : Program) (steps : List ℕ) (x : Given) (first : ℕ) (m₀ m : Machine) (i : ℕ) : Type 0 where
  pub so_far : (n : ℕ) → counting m (n + i) ≡ steps_to p steps x (counting m₀ n) first i
  pub kept : lengths_of m ≡ lengths_of m₀
  pub fit : Fit p.lengths m.memories.area m.memories.cursors
