-- Answer 16: "input, output and (flag set) network words differ in length, parameter values, states, cursors or delay area aren't the block's size, a
-- cursor isn't below its delay's length". Definitions alone.
use Rattle.std.specs.Prelude.{Bool, ◌||◌, List, ℕ, length, get_or, ltb, eqb}
use Rattle.tables.specs.Loops.{every, sum}
use Rattle.tables.specs.Tests.{◌&◌}
use Rattle.block.specs.Block.{Block, parameter_count, state_count, delay_count, delay_length}
use Rattle.memory.specs.Lines.{Memories}

abbrev pub values_fit : Block → List ℕ → Bool
values_fit b values = eqb (length values) (parameter_count b)

-- the lines follow one another with no gap, so the area is as long as the lengths together
abbrev pub area_length : Block → ℕ
area_length b = sum (delay_length b.delays) (delay_count b)

unfoldable pub memories_fit : Block → Memories → Bool
memories_fit b m =
    eqb (length m.states) (state_count b)
    & eqb (length m.cursors) (delay_count b)
    & eqb (length m.area) (area_length b)

unfoldable pub cursor_below : Block → List ℕ → ℕ → Bool
cursor_below b cursors i = ltb (get_or cursors i 0) (delay_length b.delays i)

unfoldable pub cursors_below : Block → List ℕ → Bool
cursors_below b cursors = every (cursor_below b cursors) (delay_count b)

-- with the flag clear the network words are not looked at
unfoldable pub signals_fit : Block → List ℕ → List ℕ → List ℕ → Bool
signals_fit b input output network =
    eqb (length output) (length input)
    & (eqb b.header.network 0 || eqb (length network) (length input))

-- what a run needs; 16 is given for the opposite
unfoldable pub run_fits : Block → List ℕ → Memories → List ℕ → List ℕ → List ℕ → Bool
run_fits b values m input output network =
    signals_fit b input output network
    & values_fit b values
    & memories_fit b m
    & cursors_below b m.cursors
