-- What the graph of a valid block keeps: `good_graph`.
use Rattle.std.specs.Prelude.{◌≡◌, ℕ, ◌*◌, ◌≤◌, ◌<◌, length, get_or}
use Rattle.std.proofs.Common.{arith}
use Rattle.std.proofs.Math.Decide.{dec_lt}
use Rattle.std.proofs.Math.ListN.{get_or-eq_default}
use Rattle.block.specs.Block.{Block, state_count, delay_count, code, first, second}
use Rattle.block.specs.Limits.{most_nodes}
use Rattle.block.specs.declared.Counts.{Counts}
use Rattle.block.specs.Validation.{counts_of, expanded_length}
use Rattle.block.specs.Valid.{Valid}
use Rattle.tables.specs.Lists.{list_of, list_length, list_at}
use Rattle.expand.specs.Graph.{Graph, mapped_update, graph_of}
use Rattle.expand.specs.Lengths.{expansion_words_length}
use Rattle.expand.specs.Good.{GoodNode, good_node, output_mapped, state_update_mapped, delay_update_mapped}

-- past the end 0 is read, so what holds of 0 and of every f i holds wherever it is read
list_of_le : (f : ℕ → ℕ) (m n i : ℕ) → ((j : ℕ) → j < n → f j ≤ m) → get_or (list_of f n) i 0 ≤ m
list_of_le f m n i h = go (dec_lt i n)
  where
    go : Dec (i < n) → get_or (list_of f n) i 0 ≤ m
    go (yes q) = rw (list_at f n i q) (h i q)
    go (no q) = rw (get_or-eq_default (list_of f n) 0 {n = i} (omega (arith, list_length f n))) (omega arith)

-- ---- the graph of a valid block
pub record GoodGraph (n : Counts) (g : Graph) : Type 0 where
  pub long : length g.nodes ≡ 3 * g.count
  pub nodes : (k : ℕ) → k < g.count → GoodNode n k (code g.nodes k) (first g.nodes k) (second g.nodes k)
  pub output : g.output < g.count
  -- an update is 0, or a node's number and one
  pub state_updates : (i : ℕ) → get_or g.state_updates i 0 ≤ g.count
  pub delay_updates : (i : ℕ) → get_or g.delay_updates i 0 ≤ g.count
  pub limit : g.count ≤ most_nodes

pub good_graph : (b : Block) → Valid b → GoodGraph (counts_of b) (graph_of b)
unfolding graph_of
good_graph b valid =
    record {
      long = expansion_words_length b;
      nodes = good_node b valid;
      output = output_mapped b valid;
      state_updates = λ i. list_of_le (mapped_update b b.states) (expanded_length b) (state_count b) i (state_update_mapped b valid);
      delay_updates = λ i. list_of_le (mapped_update b b.delays) (expanded_length b) (delay_count b) i (delay_update_mapped b valid);
      limit = valid.fits;
    }
