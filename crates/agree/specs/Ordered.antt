-- The checked run in document 01's order: "The lowest number wins" over the tests of both calls, and "A refusal changes no lent table" save 19. All tests of
-- both calls come first; then the check, whose 19 alone is left; then the run, which refuses nothing more. Definitions alone.
use Rattle.std.specs.Prelude.{Bool, not, ◌||◌, ℕ, length, ltb}
use Rattle.answers.specs.Numbers.{Answer, accepted, refused}
use Rattle.answers.specs.Order.{◌⨾◌, refuse}
use Rattle.block.specs.Block.{Block, parameter_count, state_count, delay_count}
use Rattle.block.specs.Validation.{expanded_length, validation}
use Rattle.kernel.specs.Lists.{sizes, list_may_run}
use Rattle.memory.specs.Sizes.{run_fits}
use Rattle.memory.specs.Signals.{Signals}
use Rattle.step_run.specs.Run.{Code, samples_of, too_short}
use Rattle.checker.specs.Walk.{walk_answer}
use Rattle.checker.specs.Check.{work_needed, listing_of}
use Rattle.agree.specs.Checked.{Tables, Outcome, outcome, lent_to_run, done_by, check_then_run, checked_after}

-- 13: a table of the step run, or the checker's work table
unfoldable pub either_short : Block → Code → Tables → Bool
either_short b c t = too_short b c (lent_to_run t) || ltb (length t.work) (work_needed (expanded_length b) (state_count b) (delay_count b) c.kernel)

-- the refusals 1 to 13, 15 and 16, which change nothing
unfoldable pub ordered_judged : Block → Code → Signals → Tables → Answer Unit
ordered_judged b c s t =
    validation b
    ⨾ refuse 13 (either_short b c t)
    ⨾ refuse 15 (not (list_may_run (sizes (parameter_count b) (state_count b) (delay_count b) c.kernel) c.steps c.instructions c.kernel))
    ⨾ refuse 16 (not (run_fits b s.parameters t.rendered.memories s.input t.rendered.output s.network))

-- both calls, where all their tests pass
unfoldable pub calls_if_judged : Answer Unit → Block → ℕ → Code → ℕ → Signals → Tables → Outcome
calls_if_judged (refused n vs) b mask c budget s t = outcome (refused n vs) t
calls_if_judged (accepted u) b mask c budget s t = check_then_run b mask c budget s t

-- ALL TESTS, THEN ONE CALL AFTER THE OTHER
unfoldable pub judge_check_run : Block → ℕ → Code → ℕ → Signals → Tables → Outcome
judge_check_run b mask c budget s t = calls_if_judged (ordered_judged b c s t) b mask c budget s t

-- the same as one definition, with no step run in what it renders
unfoldable pub ordered_run_call : Block → ℕ → Code → ℕ → Signals → Tables → Outcome
ordered_run_call b mask c budget s t =
    let judged = ordered_judged b c s t in
    let walk = walk_answer (listing_of b mask c.kernel c.steps c.instructions) in
    outcome (judged ⨾ walk ⨾ accepted (done_by c (samples_of c budget s))) (checked_after judged walk b c (samples_of c budget s) s t)
