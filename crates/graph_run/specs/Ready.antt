-- What the functions of a sample require of the words that they are lent. Definitions alone.
use Rattle.std.specs.Prelude.{◌≡◌, List, ℕ, ◌*◌, ◌≤◌, ◌<◌, length, get_or}
use Rattle.block.specs.Block.{code, first, second}
use Rattle.block.specs.Limits.{most_nodes}
use Rattle.block.specs.declared.Counts.{Counts}
use Rattle.expand.specs.Good.{GoodNode}
use Rattle.expand.specs.Graph.{Graph}
use Rattle.memory.specs.Lines.{Memories}
use Rattle.memory.specs.declared.lines.Memories as LentMemories
use Rattle.memory.specs.declared.signals.Given as LentGiven
use Rattle.memory.specs.Fit.{Fit, line_lengths}
use Rattle.graph_run.specs.declared.sample.Graph as LentGraph

abbrev pub counts : ℕ → ℕ → ℕ → Counts
counts parameters states delays = record { parameters = parameters; states = states; delays = delays }

-- what the nodes of a sample index, in the tables that are lent
abbrev pub the_counts : LentGiven.Given → LentMemories.Memories → Counts
the_counts x m = counts (length x.settings.now) (length m.held.now) (length m.cursors.now)

-- node k of a table of expanded nodes
abbrev pub NodeFits : Counts → List ℕ → ℕ → Type 0
NodeFits n nodes k = GoodNode n k (code nodes k) (first nodes k) (second nodes k)

-- a table of so many expanded nodes
pub record Nodes (n : Counts) (nodes : List ℕ) (count : ℕ) : Type 0 where
  pub whole : length nodes ≡ 3 * count
  pub each : (k : ℕ) → k < count → NodeFits n nodes k

-- an update for each memory, and each 0 or a node's number and one
pub record Updates (updates : List ℕ) (nodes memories : ℕ) : Type 0 where
  pub count : length updates ≡ memories
  pub each : (i : ℕ) → i < memories → get_or updates i 0 ≤ nodes

-- a graph by the tables that a sample is lent
abbrev pub graph : ℕ → List ℕ → ℕ → List ℕ → List ℕ → List ℕ → Graph
graph count nodes output updates stores delays =
    record {
      count = count;
      nodes = nodes;
      output = output;
      state_updates = updates;
      delay_updates = stores;
      delay_lengths = line_lengths delays;
    }

-- the graph that is lent, with so many nodes
abbrev pub the_graph : ℕ → LentGraph.Graph → Graph
the_graph count g = graph count g.nodes.now g.output g.updates.now g.stores.now g.lines.delays.now

-- what a sample needs of a graph, the number of parameter values and the memories
pub record Ready (g : Graph) (parameters : ℕ) (m : Memories) : Type 0 where
  pub nodes : Nodes (counts parameters (length m.states) (length m.cursors)) g.nodes g.count
  pub few : g.count ≤ most_nodes
  pub output : g.output < g.count
  pub updates : Updates g.state_updates g.count (length m.states)
  pub stores : Updates g.delay_updates g.count (length m.cursors)
  pub fit : Fit g.delay_lengths m.area m.cursors

-- an output word for each input word, and a network word where the flag is set
pub record Lent (flag : ℕ) (input network output : List ℕ) : Type 0 where
  pub outputs : length output ≡ length input
  pub networks : (flag ≡ 0 → ⊥) → length network ≡ length input
