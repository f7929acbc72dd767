-- The graph as the code has it is the expanded block. Assumes nothing.
use Rattle.std.specs.Prelude.{◌≡◌, List, length, take}
use Rattle.std.proofs.Common.{sym, ap, ◌∙◌, subst}
use Prim.Native.Nat.{ℕ, ◌*◌, ◌≤◌}
use native.Mathlib.Omega.{arith}
use Rattle.std.proofs.Math.ListN.{get_or}
use Rattle.block.specs.Block.{Block, node_count, state_count, delay_count}
use Rattle.block.specs.Kinds.{tanh_steps}
use Rattle.block.specs.Validation.{expanded_length}
use Rattle.block.specs.Valid.{Valid}
use Rattle.expand.specs.Nodes.{words_of}
use Rattle.expand.specs.Expansion.{expansion}
use Rattle.expand.specs.Graph.{Graph, mapped_update, graph_of}
use Rattle.expand.specs.Updates.{mapped_updates, IsMap, updates_are, mappable}
use Rattle.expand.specs.Lengths.{expansion_words_length, offset_ge}
use Rattle.expand.specs.Good.{good_node, output_mapped, state_update_mapped, delay_update_mapped}
use Rattle.memory.specs.Lines.{Memories}
use Rattle.tables.specs.Lists.{list_length, list_at}
use Rattle.memory.specs.SizeLaws.{Fitting, small, fit}
use Rattle.memory.specs.Signals.{Signals, Rendered}
use Rattle.graph_run.specs.Run.{samples_to}
use Rattle.graph_run.specs.Ready.{graph, Ready}
use Rattle.graph_run.specs.Plan.{mapped_graph, Planned}

-- ---- the graph that the samples are lent is the planned one
pub plan_graph : (n count : ℕ) (expansion map : List ℕ) (output : ℕ) (updates stores states delays : List ℕ) → n ≡ count
    → updates ≡ mapped_updates map states → stores ≡ mapped_updates map delays
    → graph n (take (3 * count) expansion) (get_or map output 0) updates stores delays ≡ mapped_graph count expansion map output states delays
plan_graph n count expansion map output updates stores states delays e u s = rw (e, u, s)

pub ready_of : (g h : Graph) (p : ℕ) (m : Memories) → h ≡ g → Ready g p m → Ready h p m
ready_of g h p m e r = subst (λ (x : Graph). Ready x p m) (sym e) r

pub samples_of : (g h : Graph) (flag : ℕ) (s : Signals) (r x : Rendered) (n : ℕ) → h ≡ g → x ≡ samples_to h flag s r n → x ≡ samples_to g flag s r n
samples_of g h flag s r x n e p = p ∙ ap (λ (y : Graph). samples_to y flag s r n) e

-- ---- the planned graph is the expanded block
module _ (b : Block) (map : List ℕ) (is : IsMap b map) where
  pub graph_is : (table : List ℕ) → Valid b → take (3 * expanded_length b) table ≡ words_of (expansion b)
      → mapped_graph (expanded_length b) table map b.header.output b.states b.delays ≡ graph_of b
  unfolding graph_of
  graph_is table v e =
      rw (e, is.maps b.header.output v.output, updates_are b map is b.states v.state_updates, updates_are b map is b.delays v.delay_updates)

-- a valid block's graph is ready for memories of its size
pub graph_ready : (b : Block) (settings : List ℕ) (m : Memories) (input output network : List ℕ) → Valid b → Fitting b settings m input output network
    → Ready (graph_of b) (length settings) m
unfolding graph_of
graph_ready b settings m input output network v f =
    let s = f.held.states in let c = f.held.cursors in let p = f.parameters in
    record {
      nodes = record { whole = expansion_words_length b; each = λ k h. rw (s, c, p) (good_node b v k h) };
      few = v.fits;
      output = output_mapped b v;
      updates =
          record {
            count = list_length (mapped_update b b.states) (state_count b) ∙ sym s;
            each = λ i h. rw (list_at (mapped_update b b.states) (state_count b) i (omega arith)) (state_update_mapped b v i (omega arith));
          };
      stores =
          record {
            count = list_length (mapped_update b b.delays) (delay_count b) ∙ sym c;
            each = λ i h. rw (list_at (mapped_update b b.delays) (delay_count b) i (omega arith)) (delay_update_mapped b v i (omega arith));
          };
      fit = fit b m v f.held f.below;
    }

-- THE PLAN: of a valid block, where 13 and 16 are not given
pub planned : (b : Block) (table map settings : List ℕ) (m : Memories) (input output network : List ℕ) → Valid b → Fitting b settings m input output network
    → IsMap b map → take (3 * expanded_length b) table ≡ words_of (expansion b) → 3 * expanded_length b ≤ length table
    → Planned (expanded_length b) table map b.header.output b.states b.delays (length settings) m
planned b table map settings m input output network v f is e room =
    let r = is.room in let o = v.output in
    record {
      ready = ready_of _ _ _ _ (graph_is b map is table v e) (graph_ready b settings m input output network v f);
      expansion_room = room;
      values_room = is.room;
      inside = omega (arith, offset_ge tanh_steps b.nodes (node_count b));
      held = mappable b map is b.states v.state_limit v.state_updates (state_update_mapped b v) v.fits;
      lines = mappable b map is b.delays v.delay_limit v.delay_updates (delay_update_mapped b v) v.fits;
      small = small b v;
    }
