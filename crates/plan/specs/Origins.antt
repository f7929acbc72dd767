-- Where a node's value comes from in each phase, and repeated loads (codegen.rs, `control_sources`, `sample_sources`, `canonical`). Definitions alone.
use Rattle.std.specs.Prelude.{Bool, true, false, ◌&&◌, List, [], ◌∷◌, ℕ, zero, suc, pred, length, get_or, drop, eqb}
use Rattle.plan.specs.Lists.{count_up, first_of}
use Rattle.plan.specs.Nodes.{Node, input_node, network_node, constant_node, parameter_node, state_node, delay_node, binary_node, unary_node}

-- where a node's value comes from in a phase (codegen.rs: `Option<Source>`): it is computed, it is an immediate's bits, or a load's code (1 audio,
-- 2 network, 3 parameter, 4 state, 5 delay, 6 control) and index
pub data Origin : Type 0 where
  no_origin : Origin
  immediate : ℕ → Origin
  loaded : ℕ → ℕ → Origin

-- codegen.rs: `control_sources`
unfoldable pub control_origin : Node → Origin
control_origin input_node = no_origin
control_origin network_node = no_origin
control_origin (constant_node bits) = immediate bits
control_origin (parameter_node index) = loaded 3 index
control_origin (state_node index) = no_origin
control_origin (delay_node index) = no_origin
control_origin (binary_node code lhs rhs) = no_origin
control_origin (unary_node code input) = no_origin

-- codegen.rs: `sample_sources`, of a node that has no control slot
unfoldable pub node_origin : Node → Origin
node_origin input_node = loaded 1 0
node_origin network_node = loaded 2 0
node_origin (constant_node bits) = immediate bits
node_origin (parameter_node index) = loaded 3 index
node_origin (state_node index) = loaded 4 index
node_origin (delay_node index) = loaded 5 index
node_origin (binary_node code lhs rhs) = no_origin
node_origin (unary_node code input) = no_origin

-- .. and of one that has: it is loaded from there
unfoldable pub sample_origin : ℕ → Node → Origin
sample_origin zero node = node_origin node
sample_origin (suc slot) node = loaded 6 slot

-- of all nodes, by the table of their control slots
abbrev pub sample_origins : List ℕ → List Node → List Origin
sample_origins slots [] = []
sample_origins slots (node ∷ nodes) = sample_origin (get_or slots 0 0) node ∷ sample_origins (drop 1 slots) nodes

-- is the value not computed
abbrev pub has_origin : Origin → Bool
has_origin no_origin = false
has_origin (immediate bits) = true
has_origin (loaded code index) = true

-- is it the load of this code and index
abbrev pub is_load : ℕ → ℕ → Origin → Bool
is_load code index no_origin = false
is_load code index (immediate bits) = false
is_load code index (loaded c i) = eqb code c && eqb index i

-- node n's
abbrev pub origin_at : List Origin → ℕ → Origin
origin_at origins n = get_or origins n no_origin

-- the first node whose value is the load of this code and index, if there is one (codegen.rs: the `HashMap` of `Allocator::new`)
unfoldable pub home_of : List Origin → ℕ → ℕ → ℕ
home_of origins code index = first_of (λ n. is_load code index (origin_at origins n)) (count_up 0 (length origins))

-- the first node of a load, else node n itself
unfoldable pub canonical_as : List Origin → ℕ → Origin → ℕ
canonical_as origins n no_origin = n
canonical_as origins n (immediate bits) = n
canonical_as origins n (loaded code index) = pred (home_of origins code index)

-- "Repeated loads of one source share the first node" (codegen.rs: `canonical`)
unfoldable pub canonical : List Origin → ℕ → ℕ
canonical origins n = canonical_as origins n (origin_at origins n)
