-- The checked run: the checker's call and then, where it passes the list, the step run's call, as one call with one answer. Definitions alone.
use Rattle.std.specs.Prelude.{Bool, not, ◌||◌, List, ◌++◌, ℕ, zero, suc, ◌+◌, ◌*◌, length, drop, replicate, ltb}
use Rattle.answers.specs.Numbers.{Answer, accepted, refused}
use Rattle.answers.specs.Order.{◌⨾◌, refuse}
use Rattle.block.specs.Block.{Block}
use Rattle.block.specs.Validation.{expanded_length}
use Rattle.expand.specs.Graph.{graph_of}
use Rattle.kernel.specs.declared.Kernel.{Kernel}
use Rattle.memory.specs.Sizes.{run_fits}
use Rattle.memory.specs.Signals.{Signals, Rendered}
use Rattle.graph_run.specs.Run as GraphRun
use Rattle.step_run.specs.declared.Done.{Done}
use Rattle.step_run.specs.Run as StepRun
use Rattle.step_run.specs.Run.{Code, setup_of, run_for, samples_of, run_call}
use Rattle.checker.specs.Walk.{walk_answer}
use Rattle.checker.specs.Check as Check
use Rattle.checker.specs.Check.{listing_of, check_judged, check_call}

-- every lent table that the call writes, and the registers
pub record Tables : Type 0 where
  pub expansion : List ℕ
  pub work : List ℕ
  pub control : List ℕ
  pub spills : List ℕ
  pub rendered : Rendered
  pub registers : List ℕ

abbrev pub tables : List ℕ → List ℕ → List ℕ → List ℕ → Rendered → List ℕ → Tables
tables expansion work control spills r registers =
    record { expansion = expansion; work = work; control = control; spills = spills; rendered = r; registers = registers }

pub record Outcome : Type 0 where
  pub answer : Answer Done
  pub tables : Tables

abbrev pub outcome : Answer Done → Tables → Outcome
outcome answer t = record { answer = answer; tables = t }

-- ---- what is lent to each of the two calls, and what it leaves
abbrev pub lent_to_check : Tables → Check.Tables
lent_to_check t = Check.tables t.expansion t.work

abbrev pub lent_to_run : Tables → StepRun.Tables
lent_to_run t = StepRun.tables t.expansion t.control t.spills t.rendered t.registers

abbrev pub left_by_check : Tables → Check.Tables → Tables
left_by_check t w = tables w.expansion w.work t.control t.spills t.rendered t.registers

abbrev pub left_by_run : Tables → StepRun.Tables → Tables
left_by_run t r = tables r.expansion t.work r.control r.spills r.rendered r.registers

-- the run, where the check has passed the list
unfoldable pub run_if_passed : Answer Unit → Block → Code → ℕ → Signals → Tables → Outcome
run_if_passed (refused n vs) b c budget s t = outcome (refused n vs) t
run_if_passed (accepted u) b c budget s t =
    let ran = run_call b c budget s (lent_to_run t) in
    outcome ran.answer (left_by_run t ran.tables)

-- ONE CALL AFTER THE OTHER
unfoldable pub check_then_run : Block → ℕ → Code → ℕ → Signals → Tables → Outcome
check_then_run b mask c budget s t =
    let checked = check_call b mask c.kernel c.steps c.instructions (lent_to_check t) in
    run_if_passed checked.answer b c budget s (left_by_check t checked.tables)

-- ---- the same as one definition, with no step run in what it renders

-- 13, after the check: "than a declared count" of the two tables that the check is not lent
unfoldable pub slots_short : Kernel → ℕ → ℕ → Bool
slots_short k control spills = ltb control k.slots || ltb spills k.spills

-- what is refused after a list has passed: 13 and 16. A list that passes may run, so 15 is not given
unfoldable pub later_answer : Block → Code → Signals → Tables → Answer Unit
later_answer b c s t =
    refuse 13 (slots_short c.kernel (length t.control) (length t.spills))
    ⨾ refuse 16 (not (run_fits b s.parameters t.rendered.memories s.input t.rendered.output s.network))

-- "steps spent is that sum, or 0 when n is 0"
abbrev pub steps_for : Kernel → ℕ → ℕ
steps_for k zero = 0
steps_for k (suc n) = k.control + suc n * k.sample

abbrev pub done_by : Code → ℕ → Done
done_by c n = record { samples = n; steps = steps_for c.kernel n }

-- the check leaves the expansion written and its work table zero
abbrev pub after_check : Block → Tables → Tables
after_check b t =
    tables ((graph_of b).nodes ++ drop (3 * expanded_length b) t.expansion) (replicate (length t.work) 0) t.control t.spills t.rendered t.registers

-- n samples leave what the graph renders, with the machine's own control slots, spill slots and registers; none leaves all as it was
abbrev pub after_samples : Block → Code → Signals → Tables → ℕ → Tables
after_samples b c s t zero = t
after_samples b c s t (suc n) =
    let m = (run_for (setup_of b c s) (lent_to_run t) (suc n)).machine in
    tables t.expansion t.work m.control m.spills (GraphRun.samples_to (graph_of b) b.header.network s t.rendered (suc n)) m.registers

-- the refusals 1 to 13 of the check change nothing; 19, and 13 and 16 after it, leave the tables as the check does
unfoldable pub checked_after : Answer Unit → Answer Unit → Block → Code → ℕ → Signals → Tables → Tables
checked_after (refused n vs) later b c samples s t = t
checked_after (accepted u) (refused n vs) b c samples s t = after_check b t
checked_after (accepted u) (accepted v) b c samples s t = after_samples b c s (after_check b t) samples

unfoldable pub checked_run_call : Block → ℕ → Code → ℕ → Signals → Tables → Outcome
checked_run_call b mask c budget s t =
    let judged = check_judged b c.kernel c.steps c.instructions (lent_to_check t) in
    let later = walk_answer (listing_of b mask c.kernel c.steps c.instructions) ⨾ later_answer b c s t in
    outcome (judged ⨾ later ⨾ accepted (done_by c (samples_of c budget s))) (checked_after judged later b c (samples_of c budget s) s t)
