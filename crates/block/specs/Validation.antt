-- Document 01, answers 1 to 12: what a block is refused for, in the order of 01's table. `Block::validate` of the Rust. Definitions alone.
use Rattle.std.specs.Prelude.{Bool, true, false, not, ◌&&◌, ◌||◌, List, ℕ, suc, ◌%◌, length, leb, ltb, eqb}
use Rattle.words.specs.Operations.{is_finite, span_is_valid}
use Rattle.tables.specs.Loops.{some, sum}
use Rattle.answers.specs.Numbers.{Answer}
use Rattle.answers.specs.Order.{◌⨾◌, refuse, refuse_at, in_order}
use Rattle.block.specs.declared.Counts.{Counts}
use Rattle.block.specs.declared.Header.{Header}
use Rattle.block.specs.declared.Kind.{Kind}
use Rattle.block.specs.declared.Kind.TheVariants.{Source, Constant, Parameter, State, Delay, Binary, Divide, Unary, Recip, Tanh, Sigmoid, Unknown}
use Rattle.block.specs.Block.{Block, parameter_count, state_count, delay_count, node_count, minimum, maximum, default, initial, update, delay_length, code, first, second}
use Rattle.block.specs.Kinds.{kind_of, operands_of, tanh_steps, offset}
use Rattle.block.specs.Limits.{first_version, last_version, network_version, last_category, mono, code_needs_two, category_needs_two, most_nodes, most_parameters, most_states, most_delays, most_delay_samples}

-- ---- 1: "one of the four tables isn't whole records, a code, category, channel or flag is unknown, an unused node word isn't 0"
abbrev pub ragged : ℕ → List ℕ → Bool
ragged size table = not (eqb (length table % size) 0)

-- by kind: the code is unknown, or a word that the kind does not use is not 0
abbrev pub malformed_words : Kind → ℕ → ℕ → Bool
malformed_words Source x y = not (eqb x 0) || not (eqb y 0)
malformed_words Constant x y = not (eqb y 0)
malformed_words Parameter x y = not (eqb y 0)
malformed_words State x y = not (eqb y 0)
malformed_words Delay x y = not (eqb y 0)
malformed_words Binary x y = false
malformed_words Divide x y = false
malformed_words Unary x y = not (eqb y 0)
malformed_words Recip x y = not (eqb y 0)
malformed_words Tanh x y = not (eqb y 0)
malformed_words Sigmoid x y = not (eqb y 0)
malformed_words Unknown x y = true

unfoldable pub malformed_node : List ℕ → ℕ → Bool
malformed_node nodes i = malformed_words (kind_of (code nodes i)) (first nodes i) (second nodes i)

unfoldable pub malformed_header : Header → Bool
malformed_header h = ltb last_category h.category || ltb 1 h.channels || ltb 1 h.network

unfoldable pub malformed : Block → Bool
malformed b =
    ragged 3 b.parameters
    || ragged 2 b.states
    || ragged 2 b.delays
    || ragged 3 b.nodes
    || malformed_header b.header
    || some (malformed_node b.nodes) (node_count b)

-- ---- 2: "version not 1..3"
unfoldable pub unknown_version : ℕ → Bool
unknown_version version = ltb version first_version || ltb last_version version

-- ---- 3: "flag set, and version below 3 or not mono"
unfoldable pub network_not_allowed : Header → Bool
network_not_allowed h = eqb h.network 1 && (ltb h.version network_version || not (eqb h.channels mono))

-- ---- 4: "network node, flag clear"
abbrev pub reads_network : List ℕ → ℕ → Bool
reads_network nodes i = eqb (code nodes i) 17

unfoldable pub network_flag_clear : Block → Bool
network_flag_clear b = eqb b.header.network 0 && some (reads_network b.nodes) (node_count b)

-- ---- 5: "version 1 with mono, codes 10, 11, 14, 15, 16, or category 1, 2, 3, 5, 8, 9, 13"
abbrev pub node_needs_two : List ℕ → ℕ → Bool
node_needs_two nodes i = code_needs_two (code nodes i)

unfoldable pub needs_version_two : Block → Bool
needs_version_two b =
    eqb b.header.version 1
    && (eqb b.header.channels mono || category_needs_two b.header.category || some (node_needs_two b.nodes) (node_count b))

-- ---- 6: "expanded length over 65,536; over 256 parameters, 4,096 states or 4,096 delays"
abbrev pub expanded_length : Block → ℕ
expanded_length b = offset tanh_steps b.nodes (node_count b)

unfoldable pub too_large : Block → Bool
too_large b =
    ltb most_nodes (expanded_length b)
    || ltb most_parameters (parameter_count b)
    || ltb most_states (state_count b)
    || ltb most_delays (delay_count b)

-- ---- 7: "parameter not finite, min >= max, max-min not finite, default outside"
unfoldable pub parameter_answer : List ℕ → ℕ → Answer Unit
parameter_answer parameters i =
    refuse_at 7 i (not (span_is_valid (minimum parameters i) (maximum parameters i) (default parameters i)))

-- ---- 8: "output not below the node count"
abbrev pub output_missing : Block → Bool
output_missing b = leb (node_count b) b.header.output

-- ---- 9: "an operand not below its node", of the node i with so many operands
unfoldable pub operand_not_below : ℕ → ℕ → ℕ → ℕ → Bool
operand_not_below operands i x y = (leb 1 operands && leb i x) || (leb 2 operands && leb i y)

-- the counts of the tables that nodes index
abbrev pub counts_of : Block → Counts
counts_of b = record { parameters = parameter_count b; states = state_count b; delays = delay_count b }

-- ---- 10: "constant not finite, or index past its table"
abbrev pub bad_content : Kind → Counts → ℕ → Bool
bad_content Source n x = false
bad_content Constant n x = not (is_finite x)
bad_content Parameter n x = leb n.parameters x
bad_content State n x = leb n.states x
bad_content Delay n x = leb n.delays x
bad_content Binary n x = false
bad_content Divide n x = false
bad_content Unary n x = false
bad_content Recip n x = false
bad_content Tanh n x = false
bad_content Sigmoid n x = false
bad_content Unknown n x = false

-- "for 9 and 10 the first bad node decides, 9 before 10 within it"
unfoldable pub words_answer : Kind → Counts → ℕ → ℕ → ℕ → Answer Unit
words_answer kind n i x y = refuse_at 9 i (operand_not_below (operands_of kind) i x y) ⨾ refuse_at 10 i (bad_content kind n x)

unfoldable pub node_answer : List ℕ → Counts → ℕ → Answer Unit
node_answer nodes n i = words_answer (kind_of (code nodes i)) n i (first nodes i) (second nodes i)

-- ---- 11: "state initial not finite, or update past the nodes"
unfoldable pub state_answer : List ℕ → ℕ → ℕ → Answer Unit
state_answer states nodes i = refuse_at 11 i (not (is_finite (initial states i)) || ltb nodes (update states i))

-- ---- 12: "delay length 0, running total over 16,777,216, or update past the nodes"; the running total counts the delay itself
abbrev pub running_total : List ℕ → ℕ → ℕ
running_total delays i = sum (delay_length delays) (suc i)

unfoldable pub delay_answer : List ℕ → ℕ → ℕ → Answer Unit
delay_answer delays nodes i =
    refuse_at 12 i (eqb (delay_length delays i) 0 || ltb most_delay_samples (running_total delays i) || ltb nodes (update delays i))

-- ---- 7 to 12: the records, table by table
unfoldable pub records_answer : Block → Answer Unit
records_answer b =
    in_order (parameter_answer b.parameters) (parameter_count b)
    ⨾ refuse 8 (output_missing b)
    ⨾ in_order (node_answer b.nodes (counts_of b)) (node_count b)
    ⨾ in_order (state_answer b.states (node_count b)) (state_count b)
    ⨾ in_order (delay_answer b.delays (node_count b)) (delay_count b)

-- ---- THE ANSWER of validation: "The lowest number wins"
unfoldable pub validation : Block → Answer Unit
validation b =
    refuse 1 (malformed b)
    ⨾ refuse 2 (unknown_version b.header.version)
    ⨾ refuse 3 (network_not_allowed b.header)
    ⨾ refuse 4 (network_flag_clear b)
    ⨾ refuse 5 (needs_version_two b)
    ⨾ refuse 6 (too_large b)
    ⨾ records_answer b
