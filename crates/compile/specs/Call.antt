-- A call of compile: its answer and every word of the four lent tables afterwards. Definitions alone.
use Rattle.std.specs.Prelude.{Bool, ◌||◌, List, [], ◌++◌, ℕ, ◌+◌, ◌-◌, ◌*◌, length, drop, ltb}
use Rattle.tables.specs.Zeros.{zeros}
use Rattle.answers.specs.Numbers.{Answer, accepted, refused}
use Rattle.answers.specs.Order.{◌⨾◌, refuse}
use Rattle.block.specs.Block.{Block, state_count, delay_count}
use Rattle.block.specs.Validation.{expanded_length, validation}
use Rattle.expand.specs.Graph.{graph_of}
use Rattle.allocate.specs.State.{Allocated, allocated, all_locked}
use Rattle.compile.specs.Words.{Compiled}
use Rattle.compile.specs.Compile.{compile}
-- what an accepted call gives, as the code has it: the five counts, and "the most registers held at once over both phases"
pub use Rattle.compile.specs.declared.Compiled.{Compiled as Done}

-- ---- 13: "With S states and D delays, compile's step and instruction tables need 2×(7N+5(S+D+1)) words each and its work table
-- 32N+16(S+D)+320"

-- so many steps, and so many instructions, of N nodes and S+D memories
abbrev pub most_steps : ℕ → ℕ → ℕ
most_steps nodes memories = 7 * nodes + 5 * (memories + 1)

-- the words of the work table
abbrev pub work_words : ℕ → ℕ → ℕ
work_words nodes memories = 32 * nodes + 16 * memories + 320

-- S+D
abbrev pub memory_count : Block → ℕ
memory_count b = state_count b + delay_count b

-- one of the four tables, by their lengths, is shorter than stated
unfoldable pub shorter : ℕ → ℕ → ℕ → ℕ → ℕ → ℕ → Bool
shorter nodes memories expansion steps instructions work =
    ltb expansion (3 * nodes)
    || ltb steps (2 * most_steps nodes memories)
    || ltb instructions (2 * most_steps nodes memories)
    || ltb work (work_words nodes memories)

-- the lent tables that a call writes
pub record Tables : Type 0 where
  pub expansion : List ℕ
  pub steps : List ℕ
  pub instructions : List ℕ
  pub work : List ℕ

-- the four, in this order
abbrev pub tables : List ℕ → List ℕ → List ℕ → List ℕ → Tables
tables expansion steps instructions work =
    record { expansion = expansion; steps = steps; instructions = instructions; work = work }

-- .. of a block and the tables that are lent
abbrev pub too_short : Block → Tables → Bool
too_short b t =
    shorter (expanded_length b) (memory_count b) (length t.expansion) (length t.steps) (length t.instructions) (length t.work)

-- ---- the answer

-- the refusals before anything is written: 1 to 13
unfoldable pub compile_judged : Block → Tables → Answer Unit
compile_judged b t = validation b ⨾ refuse 13 (too_short b t)

-- 14: "an operation needs a register and every usable one is locked"
abbrev pub compiled_answer : Allocated Compiled → Answer Done
compiled_answer (allocated c) = accepted (record { kernel = c.kernel; registers = c.registers })
compiled_answer all_locked = refused 14 []

-- THE ANSWER: 1 to 14, or the kernel
unfoldable pub compile_answer : Block → ℕ → Tables → Answer Done
compile_answer b mask t = compile_judged b t ⨾ compiled_answer (compile (graph_of b) mask)

-- ---- the tables

-- the first 3N words are the expansion and the rest stays
abbrev pub expansion_after : Block → List ℕ → List ℕ
expansion_after b table = (graph_of b).nodes ++ drop (3 * expanded_length b) table

-- words in front, and zero "all past compile's last step and instruction"
abbrev pub zero_past : List ℕ → List ℕ → List ℕ
zero_past words table = words ++ zeros (length table - length words)

-- the whole lent table, however long
abbrev pub all_zero : List ℕ → List ℕ
all_zero table = zeros (length table)

-- "14 zeroes the step, instruction and work tables", and leaves "the expansion written"
abbrev pub compiled_tables : Allocated Compiled → Block → Tables → Tables
compiled_tables (allocated c) b t =
    tables (expansion_after b t.expansion) (zero_past c.steps t.steps) (zero_past c.instructions t.instructions) (all_zero t.work)
compiled_tables all_locked b t =
    tables (expansion_after b t.expansion) (all_zero t.steps) (all_zero t.instructions) (all_zero t.work)

-- "A refusal changes no lent table", save 14
unfoldable pub tables_after : Answer Unit → Allocated Compiled → Block → Tables → Tables
tables_after (accepted u) result b t = compiled_tables result b t
tables_after (refused n vs) result b t = t

-- what a call leaves: its answer and the lent tables
pub record Outcome : Type 0 where
  pub answer : Answer Done
  pub tables : Tables

-- an answer and tables
abbrev pub outcome : Answer Done → Tables → Outcome
outcome answer t = record { answer = answer; tables = t }

-- THE CALL
unfoldable pub compile_call : Block → ℕ → Tables → Outcome
compile_call b mask t =
    outcome (compile_answer b mask t) (tables_after (compile_judged b t) (compile (graph_of b) mask) b t)
