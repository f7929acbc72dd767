-- The graph run over the samples of a call, and the call. Definitions alone.
use Rattle.std.specs.Prelude.{not, ◌||◌, List, ◌++◌, ℕ, zero, suc, ◌*◌, length, set, drop, replicate, ltb}
use Rattle.answers.specs.Numbers.{Answer, accepted, refused}
use Rattle.answers.specs.Order.{◌⨾◌, refuse}
use Rattle.block.specs.Block.{Block}
use Rattle.block.specs.Validation.{expanded_length, validation}
use Rattle.expand.specs.Graph.{Graph, graph_of}
use Rattle.memory.specs.Sizes.{run_fits}
use Rattle.memory.specs.Signals.{Signals, given_by, Rendered, rendered}
use Rattle.graph_run.specs.Sample.{Sampled, sample}

-- sample t's word goes to the output's place t
abbrev pub emit : Rendered → ℕ → Sampled → Rendered
emit r t s = rendered (set r.output t s.output) s.memories

-- the first n samples
unfoldable pub samples_to : Graph → ℕ → Signals → Rendered → ℕ → Rendered
samples_to g flag s r zero = r
samples_to g flag s r (suc t) =
    let before = samples_to g flag s r t in
    emit before t (sample g (given_by flag s t) before.memories)

-- ---- the call: every lent table that it writes
pub record Tables : Type 0 where
  pub expansion : List ℕ
  pub values : List ℕ
  pub rendered : Rendered

abbrev pub tables : List ℕ → List ℕ → Rendered → Tables
tables expansion values r = record { expansion = expansion; values = values; rendered = r }

pub record Outcome : Type 0 where
  pub answer : Answer Unit
  pub tables : Tables

abbrev pub outcome : Answer Unit → Tables → Outcome
outcome answer t = record { answer = answer; tables = t }

-- 13: the expansion table shorter than 3N words or "the graph run's values table N"
unfoldable pub run_answer : Block → Signals → Tables → Answer Unit
run_answer b s t =
    validation b
    ⨾ refuse 13 (ltb (length t.expansion) (3 * expanded_length b) || ltb (length t.values) (expanded_length b))
    ⨾ refuse 16 (not (run_fits b s.parameters t.rendered.memories s.input t.rendered.output s.network))

-- "Accepted calls leave work and values tables zero"; "A refusal changes no lent table"
unfoldable pub run_after : Answer Unit → Block → Signals → Tables → Tables
run_after (accepted u) b s t =
    tables
    ((graph_of b).nodes ++ drop (3 * expanded_length b) t.expansion)
    (replicate (length t.values) 0)
    (samples_to (graph_of b) b.header.network s t.rendered (length s.input))
run_after (refused n vs) b s t = t

unfoldable pub run_call : Block → Signals → Tables → Outcome
run_call b s t =
    let answer = run_answer b s t in
    outcome answer (run_after answer b s t)
