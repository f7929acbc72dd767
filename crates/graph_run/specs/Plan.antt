-- The graph as the code has it: the updates through a table that maps each node to its last expanded node. Definitions alone.
use Rattle.std.specs.Prelude.{List, ℕ, ◌*◌, ◌≤◌, ◌<◌, length, get_or, take}
use Rattle.expand.specs.Graph.{Graph}
use Rattle.expand.specs.Updates.{mapped_updates, Mappable}
use Rattle.memory.specs.Lines.{Memories}
use Rattle.memory.specs.Fit.{Small}
use Rattle.graph_run.specs.Ready.{graph, Ready}

-- the expanded block by its node table, the map, and the block's output, states and delays
abbrev pub mapped_graph : ℕ → List ℕ → List ℕ → ℕ → List ℕ → List ℕ → Graph
mapped_graph count expansion map output states delays =
    graph count (take (3 * count) expansion) (get_or map output 0) (mapped_updates map states) (mapped_updates map delays) delays

-- what the samples of a call need
pub record Planned (count : ℕ) (expansion map : List ℕ) (output : ℕ) (states delays : List ℕ) (parameters : ℕ) (m : Memories) : Type 0 where
  pub ready : Ready (mapped_graph count expansion map output states delays) parameters m
  pub expansion_room : 3 * count ≤ length expansion
  pub values_room : count ≤ length map
  pub inside : output < length map
  pub held : Mappable map states
  pub lines : Mappable map delays
  pub small : Small delays
