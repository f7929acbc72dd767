-- What a draft's actions are to be for its words to pass the checker; that they are is in proofs/DraftWalks. Definitions alone.
use Rattle.std.proofs.Math.Path.{◌≡◌}
use Rattle.std.specs.Prelude.{true, ℕ}
use Rattle.std.proofs.Math.Bool.{false}
use mathlib.Core.List.{[]}
use Rattle.expand.specs.Graph.{Graph}
use Rattle.plan.specs.Schedule.{writes}
use Rattle.plan.specs.Flow.{flow_of}
use Rattle.compile.specs.Draft.{Draft, usable}
use Rattle.compiled.specs.Marks.{Marks, goes, walk_actions, start_marks}
use Rattle.compiled.specs.Meanings.{rules}
use Rattle.compiled.specs.Stores.{Ended}
use Rattle.compiled.specs.Writes.{total}

-- how many stores of code c and index i there must be
abbrev pub Must : Graph → ℕ → ℕ → ℕ
Must g c i = total c i (λ w. true) (writes (flow_of g))

-- a draft's two phases go through the walk, and its sample steps store what they must
pub record Walks (g : Graph) (mask : ℕ) (d : Draft) : Type 0 where
  pub between : Marks
  pub control : walk_actions (usable mask) true (rules g true [] d.control_slots) (start_marks (rules g true [] d.control_slots)) d.control_steps ≡ goes between
  pub after : Marks
  pub sample : walk_actions (usable mask) false (rules g false between.slots d.spill_slots) (start_marks (rules g false between.slots d.spill_slots))
      d.sample_steps ≡ goes after
  pub ended : Ended (Must g) d.sample_steps
