-- What reading and storing at a cursor goes by: the lines' lengths and bases from the block's delay table, and the fact that the lines lie in the area
-- and every cursor in its line. Definitions alone.
use Rattle.std.specs.Prelude.{◌≡◌, List, ◌++◌, ℕ, ◌-◌, ◌/◌, ◌≤◌, ◌<◌, length, get_or}
use Rattle.tables.specs.Loops.{sum}
use Rattle.tables.specs.Zeros.{zeros}
use Rattle.block.specs.Block.{delay_length}
use Rattle.block.specs.Limits.{most_delays, most_delay_samples}
use Rattle.tables.specs.Lists.{list_of}
use Rattle.memory.specs.Lines.{line_length, line_base}

-- the lengths in a delay table: "delay: length, update"
abbrev pub line_lengths : List ℕ → List ℕ
line_lengths delays = list_of (delay_length delays) (length delays / 2)

-- where each line starts, as a table with room for the most delays that a block may have: 0 behind the last
unfoldable pub line_bases : List ℕ → List ℕ
line_bases delays = list_of (line_base (line_lengths delays)) (length delays / 2) ++ zeros (most_delays - length delays / 2)

-- a delay table within answers 6 and 12
pub record Small (delays : List ℕ) : Type 0 where
  pub count : length delays / 2 ≤ most_delays
  pub total : sum (delay_length delays) (length delays / 2) ≤ most_delay_samples

-- the lines fill the area and every cursor is in its line; so every line has a cell
pub record Fit (lengths area cursors : List ℕ) : Type 0 where
  pub count : length cursors ≡ length lengths
  pub few : length lengths ≤ most_delays
  pub total : line_base lengths (length lengths) ≡ length area
  pub small : length area ≤ most_delay_samples
  pub below : (i : ℕ) → i < length lengths → get_or cursors i 0 < line_length lengths i

-- what a read or a store at line i needs
pub record Reach (delays bases area cursors : List ℕ) (i : ℕ) : Type 0 where
  pub fit : Fit (line_lengths delays) area cursors
  pub based : bases ≡ line_bases delays
  pub inside : i < length cursors

-- a line's cells and its next cursor
pub record Stored : Type 0 where
  pub line : List ℕ
  pub next : ℕ

abbrev pub stored : List ℕ → ℕ → Stored
stored line next = record { line = line; next = next }
