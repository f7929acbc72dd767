-- The ways out of the checked run's code: of its tests, of check and run, and of the whole. Assumes nothing.
use Rattle.std.specs.Prelude.{◌≡◌, Bool, ◌||◌, List, [], ℕ, ◌≤◌, min, length, ltb, Result, Ok, Err, IsErrAnd}
use Rattle.std.proofs.Math.Path.{refl, sym, ap}
use Rattle.std.proofs.Common.{◌∙◌, arith}
use Rattle.std.proofs.Math.Bool.{true, false}
use Rattle.tables.specs.Tests.{or_right}
use Rattle.answers.specs.declared.Refusal.{Refusal}
use Rattle.answers.specs.Numbers.{Answer, accepted, refused, refusal, answer_of}
use Rattle.answers.specs.OrderLaws.{refuse_stop, hand_on, go_on}
use Rattle.block.specs.Block.{Block, state_count, delay_count}
use Rattle.block.specs.Validation.{expanded_length, validation}
use Rattle.block.specs.Valid.{valid}
use Rattle.memory.specs.Signals.{Signals}
use Rattle.step_run.specs.declared.Done.{Done}
use Rattle.step_run.specs.CallLaws.{bare}
use Rattle.step_run.specs.Run as StepRun
use Rattle.step_run.specs.Run.{Code, too_short, run_judged, run_call}
use Rattle.checker.specs.Check as Check
use Rattle.checker.specs.Check.{work_needed, check_call}
use Rattle.agree.specs.Checked.{Tables, tables, Outcome, outcome, lent_to_check, lent_to_run, left_by_check, left_by_run, run_if_passed, check_then_run}
use Rattle.agree.specs.Ordered.{either_short, ordered_judged, calls_if_judged, judge_check_run, ordered_run_call}
use Rattle.agree.specs.OrderedLaws.{ordered_run}

-- the counts of a valid block are small. v is validation's verdict, n the expanded length as the code counts it
pub small_counts : (b : Block) (v : Result Unit Refusal) {u : Unit} → answer_of v ≡ validation b → v ≡ Ok u → (n : ℕ) → n ≡ min (expanded_length b) 65537
    → (n ≤ 65537) × (state_count b ≤ 4096) × (delay_count b ≤ 4096)
small_counts b v e f n k =
    let w = valid b (sym e ∙ ap answer_of f) in
    (omega arith, w.state_limit, w.delay_limit)

-- ---- the tests
module _ (b : Block) (c : Code) (s : Signals) (t : Tables) (v : Result Unit Refusal) (e : answer_of v ≡ validation b) where
  pub refused_first : (w : Result Unit Refusal) {r : Refusal} → v ≡ Err r → IsErrAnd w (λ y. y ≡ r) → answer_of w ≡ ordered_judged b c s t
  unfolding ordered_judged
  refused_first w f h = hand_on w _ e f h

  module _ {u : Unit} (f : v ≡ Ok u) (n : ℕ) (k : n ≡ min (expanded_length b) 65537) (d : Bool)
      (g : d ≡ ltb (length t.work) (work_needed n (state_count b) (delay_count b) c.kernel)) where
    work_tested : ltb (length t.work) (work_needed (expanded_length b) (state_count b) (delay_count b) c.kernel) ≡ d
    work_tested =
        let w = (valid b (sym e ∙ ap answer_of f)).fits in
        let q : expanded_length b ≡ n = omega arith in
        ap (λ (m : ℕ). ltb (length t.work) (work_needed m (state_count b) (delay_count b) c.kernel)) q ∙ sym g

    pub short_work : d ≡ true → refused 13 [] ≡ ordered_judged b c s t
    unfolding ordered_judged either_short
    short_work q = go_on _ e f (sym (refuse_stop 13 _ (or_right (too_short b c (lent_to_run t)) _ (work_tested ∙ q))))

    pub judged_by_run : d ≡ false → (a : Answer Unit) → a ≡ run_judged b c s (bare (lent_to_run t)) → a ≡ ordered_judged b c s t
    unfolding ordered_judged either_short run_judged
    judged_by_run q a h = h ∙ sym (rw (or_off (too_short b c (lent_to_run t)) _ (work_tested ∙ q)))
      where
        or_off : (x y : Bool) → y ≡ false → (x || y) ≡ x
        or_off true y p = refl
        or_off false y p = p

-- ---- check and run
module _ (b : Block) (mask : ℕ) (c : Code) (budget : ℕ) (s : Signals) (t : Tables) (v : Result Unit Refusal) (expansion work : List ℕ)
    (e : Check.outcome (answer_of v) (Check.tables expansion work) ≡ check_call b mask c.kernel c.steps c.instructions (lent_to_check t)) where
  after : (a : Answer Unit) → answer_of v ≡ a
      → run_if_passed a b c budget s (tables expansion work t.control t.spills t.rendered t.registers) ≡ check_then_run b mask c budget s t
  unfolding check_then_run
  after a p =
      ap (λ (x : Answer Unit). run_if_passed x b c budget s (tables expansion work t.control t.spills t.rendered t.registers)) (sym p)
      ∙ ap (λ (o : Check.Outcome). run_if_passed o.answer b c budget s (left_by_check t o.tables)) e

  pub check_refuses : (r : Refusal) → v ≡ Err r
      → outcome (answer_of {A = Done} (Err r)) (tables expansion work t.control t.spills t.rendered t.registers) ≡ check_then_run b mask c budget s t
  unfolding run_if_passed
  check_refuses r f = after (refusal r) (ap answer_of f)

  pub run_follows : {u : Unit} → v ≡ Ok u → (a : Answer Done) (r : StepRun.Tables)
      → StepRun.outcome a r ≡ run_call b c budget s (StepRun.tables expansion t.control t.spills t.rendered t.registers)
      → outcome a (tables r.expansion work r.control r.spills r.rendered r.registers) ≡ check_then_run b mask c budget s t
  unfolding run_if_passed
  run_follows f a r h =
      ap (λ (o : StepRun.Outcome). outcome o.answer (left_by_run (tables expansion work t.control t.spills t.rendered t.registers) o.tables)) h
      ∙ after (accepted tt) (ap answer_of f)

-- ---- the whole. The registers play no part in the tests
abbrev pub unregistered : Tables → Tables
unregistered t = tables t.expansion t.work t.control t.spills t.rendered []

module _ (b : Block) (mask : ℕ) (c : Code) (budget : ℕ) (s : Signals) (t : Tables) (v : Result Unit Refusal) (e : answer_of v ≡ ordered_judged b c s (unregistered t)) where
  judged : ordered_judged b c s t ≡ answer_of v
  unfolding ordered_judged either_short
  judged = sym e

  decided : (a : Answer Unit) → answer_of v ≡ a → calls_if_judged a b mask c budget s t ≡ ordered_run_call b mask c budget s t
  unfolding judge_check_run
  decided a p =
      ap (λ (x : Answer Unit). calls_if_judged x b mask c budget s t) (sym (judged ∙ p)) ∙ ordered_run b mask c budget s t

  pub tests_refuse : (r : Refusal) → v ≡ Err r → outcome (answer_of {A = Done} (Err r)) t ≡ ordered_run_call b mask c budget s t
  unfolding calls_if_judged
  tests_refuse r f = decided (refusal r) (ap answer_of f)

  pub calls_follow : {u : Unit} → v ≡ Ok u → (o : Outcome) → o ≡ check_then_run b mask c budget s t → o ≡ ordered_run_call b mask c budget s t
  unfolding calls_if_judged
  calls_follow f o h = h ∙ decided (accepted tt) (ap answer_of f)
