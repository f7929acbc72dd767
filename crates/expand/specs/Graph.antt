-- The expanded block that compile, check and both runs work on: the expansion's words with the output and every update mapped. Definitions alone.
use Rattle.std.specs.Prelude.{List, ℕ}
use Rattle.tables.specs.Lists.{list_of}
use Rattle.block.specs.Block.{Block, state_count, delay_count, update, delay_length}
use Rattle.block.specs.Kinds.{tanh_steps}
use Rattle.block.specs.Validation.{expanded_length}
use Rattle.expand.specs.Nodes.{words_of}
use Rattle.expand.specs.Expansion.{expansion, mapped_output, map_update}

-- `Block::expanded`: nodes are records of three words; an update is 0, or a node's number and one
pub record Graph : Type 0 where
  pub count : ℕ
  pub nodes : List ℕ
  pub output : ℕ
  pub state_updates : List ℕ
  pub delay_updates : List ℕ
  pub delay_lengths : List ℕ

-- a memory's update as the Rust's `remap` leaves it
abbrev pub mapped_update : Block → List ℕ → ℕ → ℕ
mapped_update b memories i = map_update tanh_steps b.nodes (update memories i)

unfoldable pub graph_of : Block → Graph
graph_of b =
    record {
      count = expanded_length b;
      nodes = words_of (expansion b);
      output = mapped_output b;
      state_updates = list_of (mapped_update b b.states) (state_count b);
      delay_updates = list_of (mapped_update b b.delays) (delay_count b);
      delay_lengths = list_of (delay_length b.delays) (delay_count b);
    }
