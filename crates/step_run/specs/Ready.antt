-- What the functions of a call's samples require of the words that they are lent. Definitions alone.
use Rattle.std.specs.Prelude.{◌≡◌, List, ℕ, ◌≤◌, ◌<◌, length}
use Rattle.kernel.specs.declared.Kernel.{Kernel}
use Rattle.kernel.specs.declared.Phase.TheVariants.{Control, Sample}
use Rattle.memory.specs.Fit.{Small, line_bases}
use Rattle.machine.specs.Ready.{Ready, Listed}

-- sample t has its words
pub record Heard (flag t : ℕ) (input network output : List ℕ) : Type 0 where
  pub heard : t < length input
  pub sent : (flag ≡ 0 → ⊥) → t < length network
  pub written : t < length output

-- .. and so have the samples below a count
pub record Sounding (flag count : ℕ) (input network output : List ℕ) : Type 0 where
  pub inputs : count ≤ length input
  pub networks : (flag ≡ 0 → ⊥) → count ≤ length network
  pub outputs : count ≤ length output

-- what a run of so many samples requires
pub record Playable (flag count p s : ℕ) (k : Kernel) (steps instructions delays control spills area cursors input network output : List ℕ) : Type 0 where
  pub small : Small delays
  pub ready : Ready k instructions delays (line_bases delays) control spills area cursors
  pub first : Listed p s (length cursors) k steps instructions Control 0 k.control
  pub then : Listed p s (length cursors) k steps instructions Sample k.control k.sample
  pub sounding : Sounding flag count input network output
