-- What a list is checked against, as the code has it: the updates through a table that maps each node to its last expanded node. Definitions alone.
use Rattle.std.specs.Prelude.{List, ℕ, ◌*◌, ◌/◌, ◌≤◌, ◌<◌, length, get_or, take}
use Rattle.expand.specs.Updates.{mapped_updates, Mappable}
use Rattle.kernel.specs.declared.Kernel.{Kernel}
use Rattle.checker.specs.declared.table.Terms.{Terms}
use Rattle.checker.specs.Walk.{Listing}
use Rattle.checker.specs.Table.{listing_from}
use Rattle.checker.specs.WalkLaws.{Fit}

-- the terms by the counts, the map, and the block's output, states and delays
abbrev pub terms_from : ℕ → ℕ → List ℕ → ℕ → List ℕ → List ℕ → ℕ → Kernel → Terms
terms_from count parameters map output states delays mask kernel =
    record {
      count = count;
      parameters = parameters;
      states = length states / 2;
      delays = length delays / 2;
      output = get_or map output 0;
      mask = mask;
      kernel = kernel;
    }

abbrev pub planned_listing : ℕ → ℕ → List ℕ → List ℕ → ℕ → List ℕ → List ℕ → ℕ → Kernel → List ℕ → List ℕ → Listing
planned_listing count parameters expansion map output states delays mask kernel steps instructions =
    listing_from (terms_from count parameters map output states delays mask kernel) (take (3 * count) expansion) (mapped_updates map states) (mapped_updates map delays) steps instructions

-- what the walk needs of a call's tables, where the work table begins with the map
pub record Planned (count parameters : ℕ) (expansion map : List ℕ) (output : ℕ) (states delays : List ℕ) (mask : ℕ) (kernel : Kernel) (steps instructions : List ℕ) : Type 0 where
  pub fit : Fit (terms_from count parameters map output states delays mask kernel) (take (3 * count) expansion) (mapped_updates map states) (mapped_updates map delays) steps instructions map
  pub expansion_room : 3 * count ≤ length expansion
  pub inside : output < length map
  pub held : Mappable map states
  pub lines : Mappable map delays
