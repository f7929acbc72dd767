-- The expanded block as codegen.rs sees it: its nodes as data (graph.rs, `Node`), its updates and its output. An option is 0, or n + 1. Definitions alone.
use Rattle.std.specs.Prelude.{Bool, true, false, List, [], ◌∷◌, ◌++◌, ℕ, zero, suc, get_or}

-- a node of an expanded block: a constant has its bits, a parameter, state or delay its index, a computation its node code (5 to 10 binary, 12 neg,
-- 13 abs) and its operands
pub data Node : Type 0 where
  input_node : Node
  network_node : Node
  constant_node : ℕ → Node
  parameter_node : ℕ → Node
  state_node : ℕ → Node
  delay_node : ℕ → Node
  binary_node : ℕ → ℕ → ℕ → Node
  unary_node : ℕ → ℕ → Node

-- the nodes; the update of each state and of each delay, if it has one; the output's node
pub record Flow : Type 0 where
  pub nodes : List Node
  pub states : List ℕ
  pub delays : List ℕ
  pub output : ℕ

-- graph.rs: `Node::operands`
abbrev pub operands : Node → List ℕ
operands input_node = []
operands network_node = []
operands (constant_node bits) = []
operands (parameter_node index) = []
operands (state_node index) = []
operands (delay_node index) = []
operands (binary_node code lhs rhs) = lhs ∷ rhs ∷ []
operands (unary_node code input) = input ∷ []

-- codegen.rs: `is_computed`
abbrev pub is_computed : Node → Bool
is_computed input_node = false
is_computed network_node = false
is_computed (constant_node bits) = false
is_computed (parameter_node index) = false
is_computed (state_node index) = false
is_computed (delay_node index) = false
is_computed (binary_node code lhs rhs) = true
is_computed (unary_node code input) = true

-- node n of a list of nodes
abbrev pub node_at : List Node → ℕ → Node
node_at nodes n = get_or nodes n input_node

-- the nodes that a table of updates names
abbrev pub updates_of : List ℕ → List ℕ
updates_of [] = []
updates_of (zero ∷ updates) = updates_of updates
updates_of (suc n ∷ updates) = n ∷ updates_of updates

-- graph.rs: `Block::roots`: the output and every update
unfoldable pub roots : Flow → List ℕ
roots flow = flow.output ∷ (updates_of flow.states ++ updates_of flow.delays)
