-- `Block::expanded`: every node's primitive nodes, one after the other, with operands, output and updates mapped; and the call that writes them.
-- Everything is said over the Newton steps inside tanh; `expansion` says how many there are. Definitions alone.
use Rattle.std.specs.Prelude.{List, [], ◌∷◌, ◌++◌, ℕ, zero, suc, ◌-◌, ◌*◌, length, drop, ltb}
use Rattle.answers.specs.Numbers as N
use Rattle.answers.specs.Numbers.{Answer}
use Rattle.answers.specs.Order.{◌⨾◌, refuse}
use Rattle.block.specs.declared.Kind.{Kind}
use Rattle.block.specs.declared.Kind.TheVariants.{Source, Constant, Parameter, State, Delay, Binary, Divide, Unary, Recip, Tanh, Sigmoid, Unknown}
use Rattle.block.specs.Block.{Block, node_count, code, first, second}
use Rattle.block.specs.Kinds.{kind_of, recip_steps, tanh_steps, offset}
use Rattle.block.specs.Validation.{expanded_length, validation}
use Rattle.expand.specs.declared.Expanded.{Expanded}
use Rattle.expand.specs.Nodes.{Node, node, words_of}
use Rattle.expand.specs.Macros.{recip, tanh, sigmoid, divide}

-- a node of code c with the words x and y at position k; `map` takes a node to its last expanded node
abbrev pub expand_as : ℕ → Kind → (ℕ → ℕ) → ℕ → ℕ → ℕ → ℕ → List Node
expand_as steps Source map k c x y = node c x y ∷ []
expand_as steps Constant map k c x y = node c x y ∷ []
expand_as steps Parameter map k c x y = node c x y ∷ []
expand_as steps State map k c x y = node c x y ∷ []
expand_as steps Delay map k c x y = node c x y ∷ []
expand_as steps Binary map k c x y = node c (map x) (map y) ∷ []
expand_as steps Divide map k c x y = divide recip_steps k (map x) (map y)
expand_as steps Unary map k c x y = node c (map x) y ∷ []
expand_as steps Recip map k c x y = recip recip_steps k (map x)
expand_as steps Tanh map k c x y = tanh steps k (map x)
expand_as steps Sigmoid map k c x y = sigmoid steps k (map x)
expand_as steps Unknown map k c x y = node c x y ∷ []

-- the Rust's `map`: a node's last expanded node
abbrev pub map_node : ℕ → List ℕ → ℕ → ℕ
map_node steps nodes i = offset steps nodes (suc i) - 1

-- the nodes of node i
unfoldable pub expand_node : ℕ → List ℕ → ℕ → List Node
expand_node steps nodes i =
    expand_as steps (kind_of (code nodes i)) (map_node steps nodes) (offset steps nodes i) (code nodes i) (first nodes i) (second nodes i)

-- the nodes of the nodes below i
unfoldable pub expand_to : ℕ → List ℕ → ℕ → List Node
expand_to steps nodes zero = []
expand_to steps nodes (suc i) = expand_to steps nodes i ++ expand_node steps nodes i

-- ---- of a block
abbrev pub expansion : Block → List Node
expansion b = expand_to tanh_steps b.nodes (node_count b)

abbrev pub mapped_output : Block → ℕ
mapped_output b = map_node tanh_steps b.nodes b.header.output

-- an update through the map: 0 stays none
abbrev pub map_update : ℕ → List ℕ → ℕ → ℕ
map_update steps nodes zero = 0
map_update steps nodes (suc i) = suc (map_node steps nodes i)

-- ---- the call
-- "Compile, check and both runs validate the block and expand it into a lent table of 3N words"; 13 where the table is shorter
unfoldable pub expand_answer : Block → ℕ → Answer Expanded
expand_answer b room =
    validation b
    ⨾ refuse 13 (ltb room (3 * expanded_length b))
    ⨾ N.accepted (record { length = expanded_length b; output = mapped_output b })

-- the first 3N words are the expansion and the rest stays; "A refusal changes no lent table"
unfoldable pub table_after : Answer Expanded → Block → List ℕ → List ℕ
table_after (N.accepted e) b table = words_of (expansion b) ++ drop (3 * expanded_length b) table
table_after (N.refused n vs) b table = table

-- what a call of `expand` leaves: its answer and the lent table
pub record Outcome : Type 0 where
  pub answer : Answer Expanded
  pub table : List ℕ

abbrev pub outcome : Answer Expanded → List ℕ → Outcome
outcome answer table = record { answer = answer; table = table }

unfoldable pub expand_call : Block → List ℕ → Outcome
expand_call b table =
    let answer = expand_answer b (length table) in
    outcome answer (table_after answer b table)
