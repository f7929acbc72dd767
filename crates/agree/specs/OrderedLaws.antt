-- All tests and then one call after the other is the ordered checked run: `ordered_run`. Assumes nothing.
use Rattle.std.specs.Prelude.{◌≡◌, refl, ℕ}
use Rattle.std.proofs.Common.{◌∙◌, le-ltb}
use Rattle.tables.specs.Tests.{neither, or_none}
use Rattle.answers.specs.Numbers.{Answer, accepted, refused}
use Rattle.answers.specs.Order.{◌⨾◌}
use Rattle.answers.specs.OrderLaws.{then_accepted, refuse_accepted, then_pass, refuse_pass, refuse_off}
use Rattle.block.specs.Block.{Block}
use Rattle.block.specs.Validation.{validation}
use Rattle.memory.specs.Signals.{Signals}
use Rattle.step_run.specs.CallLaws.{long}
use Rattle.step_run.specs.Run.{Code, samples_of, too_short}
use Rattle.checker.specs.Walk.{walk_answer}
use Rattle.checker.specs.Check as Check
use Rattle.checker.specs.Check.{listing_of, check_judged}
use Rattle.agree.specs.Checked.{Tables, Outcome, outcome, lent_to_check, lent_to_run, slots_short, later_answer, done_by, checked_after, checked_run_call}
use Rattle.agree.specs.CheckedLaws.{checked_run}
use Rattle.agree.specs.Ordered.{either_short, ordered_judged, calls_if_judged, judge_check_run, ordered_run_call}

-- where all tests pass, those of the check do, and those of the run after it
module _ (b : Block) (c : Code) (s : Signals) (t : Tables) (e : ordered_judged b c s t ≡ accepted tt) where
  check_passes : check_judged b c.kernel c.steps c.instructions (lent_to_check t) ≡ accepted tt
  unfolding ordered_judged either_short check_judged Check.shorter
  check_passes =
      let a = then_accepted (validation b) _ e in
      let q = then_accepted _ _ a.1 in
      let p = neither (too_short b c (lent_to_run t)) _ (refuse_accepted 13 _ q.0) in
      let r = long _ _ _ _ _ _ _ p.0 in
      then_pass _ a.0
      ∙ refuse_off 13 (or_none _ _ (or_none _ _ (or_none _ _ (le-ltb _ _ r.expanded) (le-ltb _ _ r.listed)) (le-ltb _ _ r.coded)) p.1)

  later_passes : later_answer b c s t ≡ accepted tt
  unfolding ordered_judged either_short later_answer slots_short
  later_passes =
      let a = then_accepted (validation b) _ e in
      let q = then_accepted _ _ a.1 in
      let o = then_accepted _ _ q.1 in
      let p = neither (too_short b c (lent_to_run t)) _ (refuse_accepted 13 _ q.0) in
      let r = long _ _ _ _ _ _ _ p.0 in
      refuse_pass 13 _ (or_none _ _ (le-ltb _ _ r.slots) (le-ltb _ _ r.spilled)) ∙ o.1

-- ALL TESTS, THEN ONE CALL AFTER THE OTHER, IS THE ORDERED CHECKED RUN, for all inputs
pub ordered_run : (b : Block) (mask : ℕ) (c : Code) (budget : ℕ) (s : Signals) (t : Tables) → judge_check_run b mask c budget s t ≡ ordered_run_call b mask c budget s t
unfolding judge_check_run ordered_run_call calls_if_judged checked_run_call checked_after ◌⨾◌
ordered_run b mask c budget s t = go (ordered_judged b c s t) refl
  where
    all : Answer Unit → Answer Unit → Outcome
    all judged later = outcome (judged ⨾ later ⨾ accepted (done_by c (samples_of c budget s))) (checked_after judged later b c (samples_of c budget s) s t)

    -- after the walk nothing is refused
    walked : (walk : Answer Unit) → all (accepted tt) (walk ⨾ accepted tt) ≡ all (accepted tt) walk
    walked (refused n vs) = refl
    walked (accepted u) = refl

    go : (judged : Answer Unit) → ordered_judged b c s t ≡ judged
        → calls_if_judged judged b mask c budget s t ≡ all judged (walk_answer (listing_of b mask c.kernel c.steps c.instructions))
    go (refused n vs) e = refl
    go (accepted u) e =
        checked_run b mask c budget s t
        ∙ rw (check_passes b c s t e, later_passes b c s t e) (walked (walk_answer (listing_of b mask c.kernel c.steps c.instructions)))
