-- Delay lines: "Delay lines share one lent area; each is lent on as the part of the area that starts at its own base." Definitions alone.
use Rattle.std.specs.Prelude.{List, ℕ, ◌+◌, ◌%◌, get_or, set}
use Rattle.tables.specs.Loops.{sum}

-- the words that a run keeps from sample to sample
pub record Memories : Type 0 where
  pub states : List ℕ
  pub area : List ℕ
  pub cursors : List ℕ

abbrev pub memories : List ℕ → List ℕ → List ℕ → Memories
memories states area cursors = record { states = states; area = area; cursors = cursors }

-- line i of a list of lengths starts where the lines before it end
abbrev pub line_length : List ℕ → ℕ → ℕ
line_length lengths i = get_or lengths i 0

unfoldable pub line_base : List ℕ → ℕ → ℕ
line_base lengths i = sum (line_length lengths) i

-- the place in the area of line i's cell at its cursor
abbrev pub cell_place : List ℕ → Memories → ℕ → ℕ
cell_place lengths m i = line_base lengths i + get_or m.cursors i 0

-- host.rs: `delay.samples[delay.cursor]`
unfoldable pub read_delay : List ℕ → Memories → ℕ → ℕ
read_delay lengths m i = get_or m.area (cell_place lengths m i) 0

-- host.rs: `delay.samples[delay.cursor] = v; delay.cursor = (delay.cursor + 1) % delay.samples.len()`
unfoldable pub store_delay : List ℕ → Memories → ℕ → ℕ → Memories
store_delay lengths m i v =
    memories m.states (set m.area (cell_place lengths m i) v) (set m.cursors i ((get_or m.cursors i 0 + 1) % line_length lengths i))

-- host.rs: `self.states[state] = v`
unfoldable pub store_state : Memories → ℕ → ℕ → Memories
store_state m i v = memories (set m.states i v) m.area m.cursors
