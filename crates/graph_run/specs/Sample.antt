-- One sample of the graph run: host.rs, `process_sample` without a lowered kernel. Definitions alone.
use Rattle.std.specs.Prelude.{cond, List, [], ◌∷◌, ◌++◌, ℕ, zero, suc, ◌-◌, length, get_or, set, eqb}
use Rattle.words.specs.Operations.{operate}
use Rattle.block.specs.Block.{code, first, second}
use Rattle.expand.specs.Graph.{Graph}
use Rattle.memory.specs.Lines.{Memories, memories, read_delay, store_delay}
use Rattle.memory.specs.Signals.{Given}

-- a node's value by its code, from the values of the nodes before it; the delay lines have these lengths
unfoldable pub value_of : List ℕ → Given → Memories → List ℕ → ℕ → ℕ → ℕ → ℕ
value_of lengths x m values c first second =
    cond (eqb c 0) x.audio
    (cond (eqb c 1) first
    (cond (eqb c 2) (get_or x.parameters first 0)
    (cond (eqb c 3) (get_or m.states first 0)
    (cond (eqb c 4) (read_delay lengths m first)
    (cond (eqb c 17) x.network
    (operate c (get_or values first 0) (get_or values second 0)))))))

unfoldable pub node_value : List ℕ → List ℕ → Given → Memories → List ℕ → ℕ → ℕ
node_value nodes lengths x m values i = value_of lengths x m values (code nodes i) (first nodes i) (second nodes i)

-- the values of the first n nodes, in order
unfoldable pub values_to : List ℕ → List ℕ → Given → Memories → ℕ → List ℕ
values_to nodes lengths x m zero = []
values_to nodes lengths x m (suc n) =
    let before = values_to nodes lengths x m n in
    before ++ (node_value nodes lengths x m before n ∷ [])

abbrev pub values : Graph → Given → Memories → List ℕ
values g x m = values_to g.nodes g.delay_lengths x m g.count

-- "every update reads this sample's values": the first n states, where an update is 0 or a node's number and one
unfoldable pub update_state : List ℕ → List ℕ → List ℕ → ℕ → List ℕ
update_state updates values states i =
    let update = get_or updates i 0 in
    cond (eqb update 0) states (set states i (get_or values (update - 1) 0))

unfoldable pub update_states : List ℕ → List ℕ → List ℕ → ℕ → List ℕ
update_states updates values states zero = states
update_states updates values states (suc n) = update_state updates values (update_states updates values states n) n

-- the first n delays; a delay without an update keeps its cursor, as in the Rust
unfoldable pub update_delay : List ℕ → List ℕ → List ℕ → Memories → ℕ → Memories
update_delay updates lengths values m i =
    let update = get_or updates i 0 in
    cond (eqb update 0) m (store_delay lengths m i (get_or values (update - 1) 0))

unfoldable pub update_delays : List ℕ → List ℕ → List ℕ → Memories → ℕ → Memories
update_delays updates lengths values m zero = m
update_delays updates lengths values m (suc n) = update_delay updates lengths values (update_delays updates lengths values m n) n

-- the memories after a sample with these values: states, then delays
unfoldable pub updated : Graph → List ℕ → Memories → Memories
updated g values m =
    let states = update_states g.state_updates values m.states (length g.state_updates) in
    update_delays g.delay_updates g.delay_lengths values (memories states m.area m.cursors) (length g.delay_updates)

-- what a sample leaves: its output word and the memories
pub record Sampled : Type 0 where
  pub output : ℕ
  pub memories : Memories

abbrev pub sampled : ℕ → Memories → Sampled
sampled output m = record { output = output; memories = m }

unfoldable pub sample : Graph → Given → Memories → Sampled
sample g x m =
    let vs = values g x m in
    sampled (get_or vs g.output 0) (updated g vs m)
