-- The frame, the nodes' words and the plan's regions say what the settings of the two phases say. Assumes nothing.
use Rattle.std.specs.Prelude.{◌≡◌, true, false, List, map, ℕ, ◌+◌, ◌≤◌, ◌<◌, length, get_or}
use Rattle.std.proofs.Common.{sym, ap, ◌∙◌, arith}
use Rattle.std.proofs.lemmas.List.{length-map}
use Rattle.tables.specs.Parts.{part, part_at}
use Rattle.block.specs.Block.{code, first, second}
use Rattle.block.specs.declared.Counts.{Counts}
use Rattle.expand.specs.Good.{GoodNode}
use Rattle.plan.specs.Lists.{filter, count_up}
use Rattle.plan.specs.ListLaws.{map_at, count_up_length}
use Rattle.plan.specs.Nodes.{input_node, node_at}
use Rattle.plan.specs.Flow.{node_in}
use Rattle.plan.specs.Origins.{control_origin, sample_origin, sample_origins, origin_at, canonical}
use Rattle.plan.specs.Origins as Origins
use Rattle.plan.specs.OriginLaws.{control_at, sample_at, sample_length}
use Rattle.allocate.specs.declared.Frame.{Frame}
use Rattle.allocate.specs.State.{Setting}
use Rattle.allocate.specs.Allocator.{home_code}
use Rattle.allocate.specs.Layout.{slot_at, canonical_at}
use Rattle.allocate.specs.Registers.{usable_bit}
use Rattle.allocate.specs.Tasks.{home_of, target_of}
use Rattle.allocate.specs.Holds.{Phase}
use Rattle.allocate.specs.HoldsSupply.{control_supply_lem, sample_supply_lem}

-- what both phases' regions hold: the nodes, the usable registers, the first nodes of the sources and the homes
pub record Regions (frame : Frame) (nodes : List ℕ) (e : Setting) (work : List ℕ) : Type 0 where
  pub nodes_are : e.nodes ≡ map (node_in nodes) (count_up 0 frame.nodes)
  pub registers : e.registers ≡ filter (usable_bit frame.mask) (count_up 0 16)
  pub control : e.in_control ≡ frame.control
  pub fixed : e.fixed ≡ frame.fixed
  pub firsts : part (canonical_at frame 0) frame.nodes work ≡ map (canonical e.origins) (count_up 0 frame.nodes)
  pub homes : (memory : ℕ) → memory ≤ frame.states + frame.delays
      → home_of frame work memory ≡ Origins.home_of e.origins (home_code (target_of frame memory).code) (target_of frame memory).index

module _ (frame : Frame) (nodes : List ℕ) (e : Setting) (work : List ℕ) (r : Regions frame nodes e work) where
  node_is : (n : ℕ) → n < frame.nodes → node_at e.nodes n ≡ node_in nodes n
  node_is n h = let z : 0 + n ≡ n = omega arith in rw r.nodes_are (map_at (node_in nodes) 0 frame.nodes n input_node h ∙ ap (node_in nodes) z)

  nodes_count : length e.nodes ≡ frame.nodes
  nodes_count = ap length r.nodes_are ∙ (length-map (count_up 0 frame.nodes) (node_in nodes) ∙ count_up_length 0 frame.nodes)

  first_is : (n : ℕ) → n < frame.nodes → get_or work (canonical_at frame n) 0 ≡ canonical e.origins n
  first_is n h =
      let z : 0 + n ≡ n = omega arith in
      let y : canonical_at frame 0 + n ≡ canonical_at frame n = omega arith in
      sym (part_at (canonical_at frame 0) frame.nodes work n h ∙ ap (λ (i : ℕ). get_or work i 0) y)
      ∙ (ap (λ (l : List ℕ). get_or l n 0) r.firsts ∙ (map_at (canonical e.origins) 0 frame.nodes n 0 h ∙ ap (canonical e.origins) z))

  -- THE CONTROL PHASE
  pub control_phase : frame.control ≡ true → e.origins ≡ map control_origin e.nodes → Phase frame nodes e work
  control_phase c o =
      record {
        count = ap length o ∙ (length-map e.nodes control_origin ∙ nodes_count);
        registers = r.registers;
        control = r.control;
        fixed = r.fixed;
        each = node_is;
        supply = λ n h.
            control_supply_lem frame nodes work n c
            ∙ (ap control_origin (sym (node_is n h)) ∙ (sym (control_at e.nodes n (rw nodes_count h)) ∙ ap (λ l. origin_at l n) (sym o)));
        firsts = first_is;
        homes = r.homes;
      }

  -- THE SAMPLE PHASE, of an expansion's nodes
  pub sample_phase : frame.control ≡ false → (slots : List ℕ) → e.origins ≡ sample_origins slots e.nodes → part (slot_at frame 0) frame.nodes work ≡ slots
      → (counts : Counts) → ((n : ℕ) → n < frame.nodes → GoodNode counts n (code nodes n) (first nodes n) (second nodes n))
      → Phase frame nodes e work
  sample_phase c slots o s counts good =
      record {
        count = ap length o ∙ (sample_length slots e.nodes ∙ nodes_count);
        registers = r.registers;
        control = r.control;
        fixed = r.fixed;
        each = node_is;
        supply = λ n h.
            let z : slot_at frame 0 + n ≡ slot_at frame n = omega arith in
            let q : get_or work (slot_at frame n) 0 ≡ get_or slots n 0 =
            sym (part_at (slot_at frame 0) frame.nodes work n h ∙ ap (λ (i : ℕ). get_or work i 0) z) ∙ ap (λ (l : List ℕ). get_or l n 0) s in
            sample_supply_lem frame nodes work n c counts (good n h)
            ∙ (ap (λ (x : ℕ). sample_origin x (node_in nodes n)) q
            ∙ (ap (sample_origin (get_or slots n 0)) (sym (node_is n h)) ∙ (sym (sample_at slots e.nodes n (rw nodes_count h)) ∙ ap (λ l. origin_at l n) (sym o))));
        firsts = first_is;
        homes = r.homes;
      }
