-- The expanded block as codegen.rs sees it, from the words of its expansion. Definitions alone.
use Rattle.std.specs.Prelude.{cond, List, map, ℕ, eqb}
use Rattle.block.specs.declared.Kind.{Kind}
use Rattle.block.specs.declared.Kind.TheVariants.{Source, Constant, Parameter, State, Delay, Binary, Divide, Unary, Recip, Tanh, Sigmoid, Unknown}
use Rattle.block.specs.Block.{code, first, second}
use Rattle.block.specs.Kinds.{kind_of}
use Rattle.expand.specs.Graph.{Graph}
use Rattle.plan.specs.Lists.{count_up}
use Rattle.plan.specs.Nodes.{Node, input_node, network_node, constant_node, parameter_node, state_node, delay_node, binary_node, unary_node, Flow}

-- a node by its kind: of the words code, first and second. What an expansion never has stands as an input
abbrev pub node_as : Kind → ℕ → ℕ → ℕ → Node
node_as Source c x y = cond (eqb c 17) network_node input_node
node_as Constant c x y = constant_node x
node_as Parameter c x y = parameter_node x
node_as State c x y = state_node x
node_as Delay c x y = delay_node x
node_as Binary c x y = binary_node c x y
node_as Divide c x y = input_node
node_as Unary c x y = unary_node c x
node_as Recip c x y = input_node
node_as Tanh c x y = input_node
node_as Sigmoid c x y = input_node
node_as Unknown c x y = input_node

-- a node by its three words
unfoldable pub node_of : ℕ → ℕ → ℕ → Node
node_of c x y = node_as (kind_of c) c x y

-- node i of an expansion's words
abbrev pub node_in : List ℕ → ℕ → Node
node_in nodes i = node_of (code nodes i) (first nodes i) (second nodes i)

-- graph.rs: `Block::expanded`, as the compiler reads it
unfoldable pub flow_of : Graph → Flow
flow_of g =
    record {
      nodes = map (node_in g.nodes) (count_up 0 g.count);
      states = g.state_updates;
      delays = g.delay_updates;
      output = g.output;
    }
