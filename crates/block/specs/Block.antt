-- Document 01, "What crosses the boundary": a header and four lent tables of words, and the records in them. Definitions alone.
use Rattle.std.specs.Prelude.{List, ℕ, ◌+◌, ◌*◌, ◌/◌, length, get_or}
use Rattle.block.specs.declared.Header.{Header}
use Rattle.block.specs.declared.Block as Lent

pub record Block : Type 0 where
  pub header : Header
  pub parameters : List ℕ
  pub states : List ℕ
  pub delays : List ℕ
  pub nodes : List ℕ

-- a call's header and tables as a block
abbrev pub block : Header → List ℕ → List ℕ → List ℕ → List ℕ → Block
block header parameters states delays nodes =
    record { header = header; parameters = parameters; states = states; delays = delays; nodes = nodes }

-- the block that is lent
abbrev pub the_block : Lent.Block → Block
the_block b = block b.header b.parameters.now b.states.now b.delays.now b.nodes.now

-- ---- "parameter: min, max, default (f32 bits)"
abbrev pub parameter_count : Block → ℕ
parameter_count b = length b.parameters / 3

abbrev pub minimum : List ℕ → ℕ → ℕ
minimum parameters i = get_or parameters (3 * i) 0

abbrev pub maximum : List ℕ → ℕ → ℕ
maximum parameters i = get_or parameters (3 * i + 1) 0

abbrev pub default : List ℕ → ℕ → ℕ
default parameters i = get_or parameters (3 * i + 2) 0

-- ---- "state: initial (f32 bits), update"
abbrev pub state_count : Block → ℕ
state_count b = length b.states / 2

abbrev pub initial : List ℕ → ℕ → ℕ
initial states i = get_or states (2 * i) 0

-- "Update 0 means none, n+1 means node n", of a state or a delay
abbrev pub update : List ℕ → ℕ → ℕ
update memories i = get_or memories (2 * i + 1) 0

-- ---- "delay: length, update"
abbrev pub delay_count : Block → ℕ
delay_count b = length b.delays / 2

abbrev pub delay_length : List ℕ → ℕ → ℕ
delay_length delays i = get_or delays (2 * i) 0

-- ---- "node: code, first, second"
abbrev pub node_count : Block → ℕ
node_count b = length b.nodes / 3

abbrev pub code : List ℕ → ℕ → ℕ
code nodes i = get_or nodes (3 * i) 0

abbrev pub first : List ℕ → ℕ → ℕ
first nodes i = get_or nodes (3 * i + 1) 0

abbrev pub second : List ℕ → ℕ → ℕ
second nodes i = get_or nodes (3 * i + 2) 0
