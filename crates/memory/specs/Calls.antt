-- "Set and reset validate and test sizes by 16; reset writes initial states, zero cells, zero cursors." Definitions alone.
use Rattle.std.specs.Prelude.{not, List, ℕ, set, replicate, leb}
use Rattle.words.specs.Operations.{in_range}
use Rattle.answers.specs.Numbers.{Answer, accepted, refused}
use Rattle.answers.specs.Order.{◌⨾◌, refuse}
use Rattle.block.specs.Block.{Block, parameter_count, state_count, delay_count, minimum, maximum, initial}
use Rattle.block.specs.Validation.{validation}
use Rattle.tables.specs.Lists.{list_of}
use Rattle.memory.specs.Lines.{Memories, memories}
use Rattle.memory.specs.Sizes.{values_fit, area_length, memories_fit}

-- ---- `set_parameter`
pub record SetOutcome : Type 0 where
  pub answer : Answer Unit
  pub values : List ℕ

abbrev pub set_outcome : Answer Unit → List ℕ → SetOutcome
set_outcome answer values = record { answer = answer; values = values }

-- 17: "index not below the count"; 18: "not finite or outside min..max"
unfoldable pub set_answer : Block → List ℕ → ℕ → ℕ → Answer Unit
set_answer b values index value =
    validation b
    ⨾ refuse 16 (not (values_fit b values))
    ⨾ refuse 17 (leb (parameter_count b) index)
    ⨾ refuse 18 (not (in_range (minimum b.parameters index) (maximum b.parameters index) value))

unfoldable pub set_after : Answer Unit → List ℕ → ℕ → ℕ → List ℕ
set_after (accepted u) values index value = set values index value
set_after (refused n vs) values index value = values

unfoldable pub set_call : Block → List ℕ → ℕ → ℕ → SetOutcome
set_call b values index value =
    let answer = set_answer b values index value in
    set_outcome answer (set_after answer values index value)

-- ---- `reset`: a cursor past its delay is repaired, not refused
pub record ResetOutcome : Type 0 where
  pub answer : Answer Unit
  pub memories : Memories

abbrev pub reset_outcome : Answer Unit → Memories → ResetOutcome
reset_outcome answer m = record { answer = answer; memories = m }

unfoldable pub reset_answer : Block → Memories → Answer Unit
reset_answer b m = validation b ⨾ refuse 16 (not (memories_fit b m))

-- the memories that a block starts with
unfoldable pub start_memories : Block → Memories
start_memories b =
    memories (list_of (initial b.states) (state_count b)) (replicate (area_length b) 0) (replicate (delay_count b) 0)

unfoldable pub reset_after : Answer Unit → Block → Memories → Memories
reset_after (accepted u) b m = start_memories b
reset_after (refused n vs) b m = m

unfoldable pub reset_call : Block → Memories → ResetOutcome
reset_call b m =
    let answer = reset_answer b m in
    reset_outcome answer (reset_after answer b m)
