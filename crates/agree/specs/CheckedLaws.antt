-- One call after the other is the checked run: `checked_run`. Assumes nothing.
use Rattle.std.specs.Prelude.{◌≡◌, true, List, ◌++◌, length, drop, replicate, ltb}
use Rattle.std.proofs.Math.Path.{refl}
use Rattle.std.proofs.Common.{ap, ◌∙◌, arith, length-append, drop_at}
use Rattle.std.proofs.Math.Bool.{not}
use Prim.Native.Nat.{ℕ, zero, suc, ◌+◌, ◌*◌, ◌≤◌}
use borrow.Author.Tests.{not-false, ltb-false, le-ltb, ne_eqb}
use Rattle.tables.specs.Tests.{neither}
use Rattle.tables.specs.Lists.{list_length}
use Rattle.answers.specs.Numbers.{Answer, accepted, refused}
use Rattle.answers.specs.Order.{◌⨾◌, refuse}
use Rattle.answers.specs.OrderLaws.{then_accepted, refuse_accepted, then_pass, refuse_pass}
use Rattle.block.specs.Block.{Block, parameter_count, state_count, delay_count}
use Rattle.block.specs.Validation.{expanded_length, validation}
use Rattle.block.specs.Valid.{valid}
use Rattle.expand.specs.Graph.{graph_of}
use Rattle.expand.specs.Lengths.{expansion_words_length}
use Rattle.kernel.specs.declared.Kernel.{Kernel}
use Rattle.kernel.specs.Lists.{sizes, list_may_run}
use Rattle.memory.specs.Signals.{Signals}
use Rattle.step_run.specs.BudgetLaws.{done_inputs}
use Rattle.step_run.specs.SampleLaws.{spent_is}
use Rattle.step_run.specs.Run as StepRun
use Rattle.step_run.specs.Run.{Code, setup_of, run_for, samples_of, steps_spent, tables_after, run_judged, run_answer, run_after, run_call}
use Rattle.checker.specs.Walk.{sizes_of, walk_answer}
use Rattle.checker.specs.Check as Check
use Rattle.checker.specs.Check.{listing_of, check_judged, check_after, check_call}
use Rattle.agree.specs.Phases.{passed_may_run}
use Rattle.agree.specs.Agree.{agree}
use Rattle.agree.specs.Checked.{Tables, tables, Outcome, outcome, lent_to_check, lent_to_run, left_by_check, left_by_run, run_if_passed, check_then_run, slots_short, later_answer, steps_for, done_by, after_check, after_samples, checked_after, checked_run_call}

-- ---- what a check that judged a block valid and its tables long enough says
record Judged (b : Block) (k : Kernel) (steps instructions expansion : List ℕ) : Type 0 where
  block : validation b ≡ accepted tt
  expanded : 3 * expanded_length b ≤ length expansion
  listed : 2 * (k.control + k.sample) ≤ length steps
  coded : 2 * k.instructions ≤ length instructions

judged_says : (b : Block) (k : Kernel) (steps instructions : List ℕ) (t : Check.Tables) → check_judged b k steps instructions t ≡ accepted tt
    → Judged b k steps instructions t.expansion
unfolding check_judged Check.shorter
judged_says b k steps instructions t e =
    let a = then_accepted (validation b) _ e in
    let p = neither _ (ltb (length t.work) _) (refuse_accepted 13 _ a.1) in
    let q = neither _ (ltb (length instructions) (2 * k.instructions)) p.0 in
    let r = neither (ltb (length t.expansion) (3 * expanded_length b)) _ q.0 in
    record { block = a.0; expanded = ltb-false _ _ r.0; listed = ltb-false _ _ r.1; coded = ltb-false _ _ q.1 }

-- the sizes that the checker goes by are those that the run goes by
sizes_same : (b : Block) (mask : ℕ) (c : Code)
    → sizes_of (listing_of b mask c.kernel c.steps c.instructions) ≡ sizes (parameter_count b) (state_count b) (delay_count b) c.kernel
unfolding graph_of
sizes_same b mask c =
    let e₁ = list_length _ (state_count b) in
    let e₂ = list_length _ (delay_count b) in
    λ i. sizes (parameter_count b) (e₁ i) (e₂ i) c.kernel

-- the expansion that the check wrote is written once more
written_twice : (b : Block) (expansion : List ℕ)
    → (graph_of b).nodes ++ drop (3 * expanded_length b) ((graph_of b).nodes ++ drop (3 * expanded_length b) expansion) ≡ (graph_of b).nodes ++ drop (3 * expanded_length b) expansion
unfolding graph_of
written_twice b expansion = rw (drop_at (graph_of b).nodes (drop (3 * expanded_length b) expansion) (3 * expanded_length b) (expansion_words_length b))

written_length : (b : Block) (expansion : List ℕ) → 3 * expanded_length b ≤ length ((graph_of b).nodes ++ drop (3 * expanded_length b) expansion)
unfolding graph_of
written_length b expansion = simp length-append (omega (arith, expansion_words_length b))

module _ (b : Block) (mask : ℕ) (c : Code) (budget : ℕ) (s : Signals) (t : Tables) (judged : check_judged b c.kernel c.steps c.instructions (lent_to_check t) ≡ accepted tt)
    (walk : walk_answer (listing_of b mask c.kernel c.steps c.instructions) ≡ accepted tt) where
  may : list_may_run (sizes (parameter_count b) (state_count b) (delay_count b) c.kernel) c.steps c.instructions c.kernel ≡ true
  may = rw (sizes_same b mask c) at (passed_may_run (listing_of b mask c.kernel c.steps c.instructions) walk)

  -- the run refuses for its slots and sizes alone
  later_same : run_judged b c s (lent_to_run (after_check b t)) ≡ later_answer b c s t
  unfolding run_judged StepRun.shorter later_answer slots_short
  later_same =
      let j = judged_says b c.kernel c.steps c.instructions (lent_to_check t) judged in
      then_pass _ j.block
      ∙ rw (le-ltb _ _ (written_length b t.expansion), le-ltb _ _ j.listed, le-ltb _ _ j.coded)
      (ap (λ (y : Answer Unit). refuse 13 (slots_short c.kernel (length t.control) (length t.spills)) ⨾ y) (refuse_pass 15 _ (ap not may)))

  -- the steps that it executed are the sum
  spent_same : (n : ℕ) → steps_spent (setup_of b c s) (lent_to_run (after_check b t)) n ≡ steps_for c.kernel n
  unfolding steps_spent
  spent_same zero = refl
  spent_same (suc n) =
      rw (ne_eqb (suc n) 0 (λ e. omega arith))
      (spent_is (setup_of b c s) (sizes (parameter_count b) (state_count b) (delay_count b) c.kernel) (lent_to_run (after_check b t)) (suc n) may)

  -- it leaves what the graph renders
  samples_same : later_answer b c s t ≡ accepted tt → (n : ℕ) → n ≤ length s.input
      → left_by_run (after_check b t) (tables_after b c s (lent_to_run (after_check b t)) n) ≡ after_samples b c s (after_check b t) n
  unfolding later_answer slots_short
  samples_same later zero h =
      λ i. tables (written_twice b t.expansion i) (replicate (length t.work) 0) t.control t.spills t.rendered t.registers
  samples_same later (suc n) h =
      let j = judged_says b c.kernel c.steps c.instructions (lent_to_check t) judged in
      let a = then_accepted _ _ later in
      let p = neither (ltb (length t.control) c.kernel.slots) _ (refuse_accepted 13 _ a.0) in
      let same =
      agree b (valid b j.block) mask c walk s (lent_to_run (after_check b t)) (ltb-false _ _ p.0) (ltb-false _ _ p.1)
      (not-false _ (refuse_accepted 16 _ a.1)) (suc n) h in
      let m = (run_for (setup_of b c s) (lent_to_run (after_check b t)) (suc n)).machine in
      λ i. tables (written_twice b t.expansion i) (replicate (length t.work) 0) m.control m.spills (same i) m.registers

  -- the run after a check that passed
  run_same : (later : Answer Unit) → run_judged b c s (lent_to_run (after_check b t)) ≡ later → later_answer b c s t ≡ later
      → run_if_passed (accepted tt) b c budget s (after_check b t)
      ≡ outcome (later ⨾ accepted (done_by c (samples_of c budget s))) (checked_after (accepted tt) later b c (samples_of c budget s) s t)
  unfolding run_if_passed run_call run_answer run_after checked_after ◌⨾◌
  run_same (refused n vs) e l = rw e
  run_same (accepted u) e l =
      let n = samples_of c budget s in
      rw e
      (λ i. outcome (accepted (record { samples = n; steps = spent_same n i })) (samples_same l n (done_inputs c.kernel budget (length s.input)) i))

  passed_same : run_if_passed (accepted tt) b c budget s (after_check b t)
      ≡ outcome (later_answer b c s t ⨾ accepted (done_by c (samples_of c budget s))) (checked_after (accepted tt) (later_answer b c s t) b c (samples_of c budget s) s t)
  passed_same = run_same (later_answer b c s t) later_same refl

-- ONE CALL AFTER THE OTHER IS THE CHECKED RUN, for all inputs
pub checked_run : (b : Block) (mask : ℕ) (c : Code) (budget : ℕ) (s : Signals) (t : Tables) → check_then_run b mask c budget s t ≡ checked_run_call b mask c budget s t
unfolding check_then_run checked_run_call check_call check_after run_if_passed checked_after ◌⨾◌
checked_run b mask c budget s t = first (check_judged b c.kernel c.steps c.instructions (lent_to_check t)) refl
  where
    walk : Answer Unit
    walk = walk_answer (listing_of b mask c.kernel c.steps c.instructions)

    all : Answer Unit → Answer Unit → Outcome
    all judged later = outcome (judged ⨾ later ⨾ accepted (done_by c (samples_of c budget s))) (checked_after judged later b c (samples_of c budget s) s t)

    second : (answer : Answer Unit) → walk ≡ answer → check_judged b c.kernel c.steps c.instructions (lent_to_check t) ≡ accepted tt
        → run_if_passed answer b c budget s (after_check b t) ≡ all (accepted tt) (answer ⨾ later_answer b c s t)
    second (refused n vs) w j = refl
    second (accepted u) w j = passed_same b mask c budget s t j w

    first : (judged : Answer Unit) → check_judged b c.kernel c.steps c.instructions (lent_to_check t) ≡ judged
        → run_if_passed (judged ⨾ walk) b c budget s (left_by_check t (check_after judged b (lent_to_check t))) ≡ all judged (walk ⨾ later_answer b c s t)
    first (refused n vs) j = refl
    first (accepted u) j = second walk refl j
