-- The planned listing is the expanded block's. Assumes nothing.
use Rattle.std.specs.Prelude.{◌≡◌, List, length, take}
use Rattle.std.proofs.Common.{ap, ◌∙◌}
use Prim.Native.Nat.{ℕ, ◌+◌, ◌*◌, ◌≤◌}
use native.Mathlib.Omega.{arith}
use Rattle.block.specs.Block.{Block, node_count, state_count, delay_count, parameter_count}
use Rattle.block.specs.Kinds.{tanh_steps}
use Rattle.block.specs.Validation.{expanded_length}
use Rattle.block.specs.Valid.{Valid}
use Rattle.expand.specs.Nodes.{words_of}
use Rattle.expand.specs.Expansion.{expansion}
use Rattle.expand.specs.Graph.{graph_of}
use Rattle.expand.specs.GraphLaws.{good_graph}
use Rattle.expand.specs.Lengths.{offset_ge}
use Rattle.expand.specs.Good.{state_update_mapped, delay_update_mapped}
use Rattle.kernel.specs.declared.Kernel.{Kernel}
use Rattle.classes.specs.Index.{fresh_of}
use Rattle.checker.specs.Walk.{Listing, walk_answer}
use Rattle.checker.specs.BareLaws.{bare, walk_bare}
use Rattle.checker.specs.Check.{work_needed, listing_of}
use Rattle.checker.specs.Plan.{planned_listing, Planned}
use Rattle.expand.specs.Updates.{mapped_length, IsMap, updates_are, mappable}

-- ---- the planned listing is the expanded block's
module _ (b : Block) (map : List ℕ) (is : IsMap b map) where
  module _ (v : Valid b) (mask : ℕ) (k : Kernel) (table steps instructions : List ℕ) (e : take (3 * expanded_length b) table ≡ words_of (expansion b)) where
    abbrev P : Listing
    P = planned_listing (expanded_length b) (parameter_count b) table map b.header.output b.states b.delays mask k steps instructions

    listing_is : P ≡ bare (listing_of b mask k steps instructions)
    unfolding graph_of
    listing_is = rw (e, is.maps b.header.output v.output, updates_are b map is b.states v.state_updates, updates_are b map is b.delays v.delay_updates)

    -- THE SAME ANSWER
    pub planned_answer : walk_answer P ≡ walk_answer (listing_of b mask k steps instructions)
    planned_answer = ap walk_answer listing_is ∙ walk_bare (listing_of b mask k steps instructions)

    -- THE PLAN: of a valid block, where 13 is not given
    pub planned : 3 * expanded_length b ≤ length table → 2 * (k.control + k.sample) ≤ length steps → 2 * k.instructions ≤ length instructions
        → work_needed (expanded_length b) (state_count b) (delay_count b) k ≤ length map
        → Planned (expanded_length b) (parameter_count b) table map b.header.output b.states b.delays mask k steps instructions
    unfolding graph_of
    planned room listed coded work =
        let o = v.output in
        record {
          fit =
              record {
                fresh = rw e (fresh_of (good_graph b v) (omega arith));
                room = omega arith;
                coded = coded;
                states = mapped_length map b.states;
                delays = mapped_length map b.delays;
                listed = listed;
              };
          expansion_room = room;
          inside = omega (arith, offset_ge tanh_steps b.nodes (node_count b));
          held = mappable b map is b.states v.state_limit v.state_updates (state_update_mapped b v) v.fits;
          lines = mappable b map is b.delays v.delay_limit v.delay_updates (delay_update_mapped b v) v.fits;
        }
