-- The map from nodes to their last expanded nodes, for any table of words: of one node, of one update, of all nodes. Definitions alone.
use Rattle.std.specs.Prelude.{Bool, true, false, cond, ◌&&◌, List, ◌++◌, ℕ, zero, suc, ◌/◌, min, length, drop, leb, ltb}
use Rattle.block.specs.Kinds.{offset, tanh_steps}
use Rattle.block.specs.Limits.{most_nodes}
use Rattle.expand.specs.Expansion.{map_node}
use Rattle.tables.specs.Lists.{list_of}

-- ---- of one node: 65,536 stands for a node past the table, and for a last expanded node that is not below it
unfoldable pub map_within : List ℕ → ℕ → ℕ
map_within nodes i = cond (ltb i (length nodes / 3)) (min (map_node tanh_steps nodes i) most_nodes) most_nodes

-- of an update: 0 stays none
abbrev pub map_update_within : List ℕ → ℕ → ℕ
map_update_within nodes zero = 0
map_update_within nodes (suc i) = suc (map_within nodes i)

-- ---- of all nodes: the last expanded node of each node below n
abbrev pub map_of : ℕ → List ℕ → ℕ → List ℕ
map_of steps nodes n = list_of (map_node steps nodes) n

-- what a call of `map_nodes` leaves: whether it was done, and the lent table
pub record Mapping : Type 0 where
  pub done : Bool
  pub table : List ℕ

abbrev pub mapping : Bool → List ℕ → Mapping
mapping done table = record { done = done; table = table }

-- done where the table has a word for each node and the expansion is within the limit; else nothing changes
unfoldable pub map_call : List ℕ → List ℕ → Mapping
map_call nodes table =
    let n = length nodes / 3 in
    cond (leb n (length table) && leb (offset tanh_steps nodes n) most_nodes) (mapping true (map_of tanh_steps nodes n ++ drop n table)) (mapping false table)
