-- Where the work table keeps what is held: behind the index of the classes the registers, then a flag for the output, each state and each delay, then the
-- control and the spill slots. Definitions alone.
use Rattle.std.specs.Prelude.{◌≡◌, cond, List, [], ℕ, ◌+◌, ◌*◌, ◌≤◌, length, get_or, set, ltb, Option, Some, None}
use Rattle.tables.specs.Parts.{part}
use Rattle.expand.specs.Graph.{Graph}
use Rattle.kernel.specs.declared.Instruction.{Instruction}
use Rattle.kernel.specs.declared.Step.{Step}
use Rattle.kernel.specs.declared.Step.TheVariants.{Load, Compute, Spill, Reload, StoreState, StoreDelay, StoreOutput, StoreControl}
use Rattle.kernel.specs.Instructions.{destination, instruction_at}
use Rattle.classes.specs.Start.{index_length}
use Rattle.classes.specs.Index.{Indexed}
use Rattle.checker.specs.declared.table.Terms.{Terms}
use Rattle.checker.specs.declared.table.Region.{Region}
use Rattle.checker.specs.Walk.{Held, held, Listing, listing}

-- the expanded block as the code has it. No step reads a delay's length
abbrev pub graph_from : Terms → List ℕ → List ℕ → List ℕ → Graph
graph_from p nodes updates stores =
    record {
      count = p.count;
      nodes = nodes;
      output = p.output;
      state_updates = updates;
      delay_updates = stores;
      delay_lengths = [];
    }

-- the step list with what it is checked against, as the code has it
abbrev pub listing_from : Terms → List ℕ → List ℕ → List ℕ → List ℕ → List ℕ → Listing
listing_from p nodes updates stores steps instructions =
    listing (graph_from p nodes updates stores) p.parameters p.mask p.kernel steps instructions

-- ---- where each region begins: behind the words of the index, 7 * count + 32
abbrev pub registers_at : Terms → ℕ
registers_at p = index_length p.count

abbrev pub output_at : Terms → ℕ
output_at p = 7 * p.count + 48

abbrev pub states_at : Terms → ℕ
states_at p = 7 * p.count + 49

abbrev pub delays_at : Terms → ℕ
delays_at p = 7 * p.count + 49 + p.states

abbrev pub control_at : Terms → ℕ
control_at p = 7 * p.count + 49 + p.states + p.delays

abbrev pub spills_at : Terms → ℕ
spills_at p = 7 * p.count + 49 + p.states + p.delays + p.kernel.slots

abbrev pub table_end : Terms → ℕ
table_end p = 7 * p.count + 49 + p.states + p.delays + p.kernel.slots + p.kernel.spills

-- a region as the code has it
abbrev pub region : ℕ → ℕ → Region
region base count = record { base = base; count = count }

-- what a work table holds
unfoldable pub held_of : Terms → List ℕ → Held
held_of p t =
    held
    (part (registers_at p) 16 t)
    (part (control_at p) p.kernel.slots t)
    (part (spills_at p) p.kernel.spills t)
    (part (states_at p) p.states t)
    (part (delays_at p) p.delays t)
    (get_or (part (output_at p) 1 t) 0 0)

-- ---- a store in a region

-- a word at place i of the region of n words from b on; past the region nothing is stored
unfoldable pub put_in : ℕ → ℕ → ℕ → ℕ → List ℕ → List ℕ
put_in b n i word t = cond (ltb i n) (set t (b + i) word) t

abbrev pub result_table : Terms → List ℕ → Option Instruction → ℕ → List ℕ
result_table p t (Some instruction) class = put_in (registers_at p) 16 (destination instruction) class t
result_table p t None class = t

-- the work table after a step that moved this class
abbrev pub table_after : Terms → List ℕ → List ℕ → Step → ℕ → List ℕ
table_after p instructions t (Load source r) class = put_in (registers_at p) 16 r class t
table_after p instructions t (Compute i) class = result_table p t (instruction_at instructions i) class
table_after p instructions t (Spill slot r) class = put_in (spills_at p) p.kernel.spills slot class t
table_after p instructions t (Reload slot r) class = put_in (registers_at p) 16 r class t
table_after p instructions t (StoreState state r) class = put_in (states_at p) p.states state 1 t
table_after p instructions t (StoreDelay delay r) class = put_in (delays_at p) p.delays delay 1 t
table_after p instructions t (StoreOutput r) class = put_in (output_at p) 1 0 1 t
table_after p instructions t (StoreControl slot r) class = put_in (control_at p) p.kernel.slots slot class t

-- ---- what every function of the walk needs: the index stands in the table, which has room for all regions
pub record Ready (p : Terms) (nodes updates stores instructions t : List ℕ) : Type 0 where
  pub indexed : Indexed p.count nodes t
  pub room : table_end p ≤ length t
  pub coded : 2 * p.kernel.instructions ≤ length instructions
  pub states : length updates ≡ p.states
  pub delays : length stores ≡ p.delays
