-- The numbers of document 01's answers 2, 5, 6 and 12, each once. Definitions alone.
use Rattle.std.specs.Prelude.{Bool, ◌||◌, ℕ, eqb}

-- "version not 1..3"
abbrev pub first_version : ℕ
first_version = 1

abbrev pub last_version : ℕ
last_version = 3

-- "flag set, and version below 3 or not mono"
abbrev pub network_version : ℕ
network_version = 3

-- "Categories are 0..13", "channels 0 stereo, 1 mono; flag 0 or 1"
abbrev pub last_category : ℕ
last_category = 13

abbrev pub mono : ℕ
mono = 1

-- "version 1 with .. codes 10, 11, 14, 15, 16": `Node::needs_ir2`
unfoldable pub code_needs_two : ℕ → Bool
code_needs_two c = eqb c 10 || eqb c 11 || eqb c 14 || eqb c 15 || eqb c 16

-- ".. or category 1, 2, 3, 5, 8, 9, 13": `Category::needs_ir2`
unfoldable pub category_needs_two : ℕ → Bool
category_needs_two c = eqb c 1 || eqb c 2 || eqb c 3 || eqb c 5 || eqb c 8 || eqb c 9 || eqb c 13

-- "expanded length over 65,536; over 256 parameters, 4,096 states or 4,096 delays": `MAX_NODES`, `MAX_PARAMETERS`, `MAX_STATES`
abbrev pub most_nodes : ℕ
most_nodes = 65536

abbrev pub most_parameters : ℕ
most_parameters = 256

abbrev pub most_states : ℕ
most_states = 4096

abbrev pub most_delays : ℕ
most_delays = 4096

-- "running total over 16,777,216"
abbrev pub most_delay_samples : ℕ
most_delay_samples = 16777216
