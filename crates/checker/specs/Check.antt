-- The call of the checker: its answers in order and what its lent tables hold afterwards. Definitions alone.
use Rattle.std.specs.Prelude.{Bool, ◌||◌, List, ◌++◌, ℕ, ◌+◌, ◌*◌, length, drop, replicate, ltb}
use Rattle.answers.specs.Numbers.{Answer, accepted, refused}
use Rattle.answers.specs.Order.{◌⨾◌, refuse}
use Rattle.block.specs.Block.{Block, parameter_count, state_count, delay_count}
use Rattle.block.specs.Validation.{expanded_length, validation}
use Rattle.expand.specs.Graph.{graph_of}
use Rattle.kernel.specs.declared.Kernel.{Kernel}
use Rattle.checker.specs.Walk.{Listing, listing, walk_answer}

-- the lent tables that the checker writes
pub record Tables : Type 0 where
  pub expansion : List ℕ
  pub work : List ℕ

abbrev pub tables : List ℕ → List ℕ → Tables
tables expansion work = record { expansion = expansion; work = work }

pub record Outcome : Type 0 where
  pub answer : Answer Unit
  pub tables : Tables

abbrev pub outcome : Answer Unit → Tables → Outcome
outcome answer t = record { answer = answer; tables = t }

-- "the checker's [work table] needs 8N+8(S+D)+320 plus the declared slots"
abbrev pub work_needed : ℕ → ℕ → ℕ → Kernel → ℕ
work_needed nodes states delays k = 8 * nodes + 8 * (states + delays) + 320 + (k.slots + k.spills)

-- 13: a table "shorter than stated below, than a declared count"; the counts of nodes, states and delays, then the lengths of the four tables
unfoldable pub shorter : Kernel → ℕ → ℕ → ℕ → ℕ → ℕ → ℕ → ℕ → Bool
shorter k nodes states delays expansion steps instructions work =
    ltb expansion (3 * nodes)
    || ltb steps (2 * (k.control + k.sample))
    || ltb instructions (2 * k.instructions)
    || ltb work (work_needed nodes states delays k)

abbrev pub listing_of : Block → ℕ → Kernel → List ℕ → List ℕ → Listing
listing_of b mask k steps instructions = listing (graph_of b) (parameter_count b) mask k steps instructions

-- the refusals 1 to 13, which change nothing
unfoldable pub check_judged : Block → Kernel → List ℕ → List ℕ → Tables → Answer Unit
check_judged b k steps instructions t =
    validation b
    ⨾ refuse 13
    (shorter k (expanded_length b) (state_count b) (delay_count b) (length t.expansion) (length steps) (length instructions) (length t.work))

-- "19 zeroes the checker's work table", and so does passing; both leave the expansion written
unfoldable pub check_after : Answer Unit → Block → Tables → Tables
check_after (accepted u) b t =
    tables ((graph_of b).nodes ++ drop (3 * expanded_length b) t.expansion) (replicate (length t.work) 0)
check_after (refused n vs) b t = t

unfoldable pub check_call : Block → ℕ → Kernel → List ℕ → List ℕ → Tables → Outcome
check_call b mask k steps instructions t =
    let judged = check_judged b k steps instructions t in
    outcome (judged ⨾ walk_answer (listing_of b mask k steps instructions)) (check_after judged b t)
