-- What a list that the checker passes has: every step's tests as facts with names, and an induction over the steps of a phase. Assumes nothing.
use Rattle.std.specs.Prelude.{◌≡◌, refl, Bool, true, false, cond, length, eqb, Option, Some, None}
use Rattle.std.proofs.Common.{sym, ◌∙◌, zero-add, arith, eqb-true}
use Prim.Native.Nat.{ℕ, zero, suc, ◌+◌, ◌≤◌, ◌<◌}
use Rattle.std.proofs.Math.Nat.{suc_inj}
use Rattle.std.proofs.lemmas.Bool.{not-false}
use Rattle.tables.specs.Tests.{&_both, true_false, differ_of}
use Rattle.tables.specs.Loops.{every_true}
use Rattle.answers.specs.Numbers.{accepted}
use Rattle.answers.specs.Order.{in_order}
use Rattle.answers.specs.OrderLaws.{then_accepted, refuse_at_accepted, in_order_accepted}
use Rattle.kernel.specs.declared.Step.{Step}
use Rattle.kernel.specs.declared.Phase.{Phase}
use Rattle.kernel.specs.declared.Phase.TheVariants.{Control, Sample}
use Rattle.kernel.specs.Steps.{step_at, allowed_in}
use Rattle.kernel.specs.Lists.{step_may_run, index_inside, computes_formed}
use Rattle.expand.specs.Graph.{Graph}
use Rattle.classes.specs.Classes.{find}
use Rattle.checker.specs.Walk.{Listing, sizes_of, Held, step_in_mask, unless_stored, result_of_two, result_of_one, asked, moved_class, after_step, walked, before_control, before_sample, output_only_last, step_passes, words_pass, control_passes, sample_passes, stored_if_asked, nothing_missing, control_answer, sample_answer, walk_answer}
use Rattle.agree.specs.OneValue.{class_at}

-- ---- a step that passes
pub record StepPassed (l : Listing) (phase : Phase) (last : Bool) (h : Held) (step : Step) : Type 0 where
  pub allowed : allowed_in phase step ≡ true
  pub inside : index_inside (sizes_of l) step ≡ true
  pub formed : computes_formed l.instructions step ≡ true
  pub masked : step_in_mask l.mask l.instructions step ≡ true
  pub output_last : output_only_last last step ≡ true
  pub class : ℕ
  pub moved : moved_class l.graph l.instructions h step ≡ suc class

-- its words are a step's
pub record WordsPassed (l : Listing) (phase : Phase) (last : Bool) (h : Held) (w : Option Step) : Type 0 where
  pub step : Step
  pub words : w ≡ Some step
  pub passed : StepPassed l phase last h step

-- a word that is not 0 is one more than another
above_zero : (w : ℕ) → (w ≡ 0 → ⊥) → (k : ℕ) × (w ≡ suc k)
above_zero zero h = absurd (h refl)
above_zero (suc w) h = (w, refl)

step_passed : (l : Listing) (phase : Phase) (last : Bool) (h : Held) (step : Step) → step_passes l phase last h step ≡ true → StepPassed l phase last h step
unfolding step_passes step_may_run
step_passed l phase last h step e =
    let p = &_both (step_may_run (sizes_of l) l.instructions phase step) _ e in
    let q = &_both (step_in_mask l.mask l.instructions step) _ p.1 in
    let r = &_both (output_only_last last step) _ q.1 in
    let a = &_both (allowed_in phase step) _ p.0 in
    let b = &_both (index_inside (sizes_of l) step) _ a.1 in
    let k = above_zero (moved_class l.graph l.instructions h step) (differ_of _ _ r.1) in
    record { allowed = a.0; inside = b.0; formed = b.1; masked = q.0; output_last = r.0; class = k.0; moved = k.1 }

words_passed : (l : Listing) (phase : Phase) (last : Bool) (h : Held) (w : Option Step) → words_pass l phase last h w ≡ true → WordsPassed l phase last h w
words_passed l phase last h (Some step) e = record { step = step; words = refl; passed = step_passed l phase last h step e }
words_passed l phase last h None e = true_false (sym e)

-- ---- a list that passes
pub record Passed (l : Listing) : Type 0 where
  pub control : (i : ℕ) → i < l.kernel.control → WordsPassed l Control false (before_control l i) (step_at l.steps (0 + i))
  pub sample : (i : ℕ) → i < l.kernel.sample
      → WordsPassed l Sample (eqb (suc i) l.kernel.sample) (before_sample l i) (step_at l.steps (l.kernel.control + i))
  -- "each state and delay with an update is stored"
  pub states : (i : ℕ) → i < length l.graph.state_updates
      → stored_if_asked l.graph.state_updates (before_sample l l.kernel.sample).states_stored i ≡ true
  pub delays : (i : ℕ) → i < length l.graph.delay_updates
      → stored_if_asked l.graph.delay_updates (before_sample l l.kernel.sample).delays_stored i ≡ true
  pub output : (before_sample l l.kernel.sample).output_stored ≡ 0 → ⊥

-- A LIST THAT THE CHECKER PASSES has all of it
pub passed : (l : Listing) → walk_answer l ≡ accepted tt → Passed l
unfolding walk_answer control_passes sample_passes nothing_missing
passed l e =
    let a = then_accepted (in_order (control_answer l) l.kernel.control) _ e in
    let b = then_accepted (in_order (sample_answer l) l.kernel.sample) _ a.1 in
    let h = before_sample l l.kernel.sample in
    let m = not-false (nothing_missing l h) (refuse_at_accepted _ _ _ b.1) in
    let p = &_both _ _ m in
    let q = &_both _ _ p.1 in
    record {
      control = λ i k. rw (zero-add i) (words_passed l Control false (before_control l i) (step_at l.steps i)
          (not-false (control_passes l i) (refuse_at_accepted _ _ _ (in_order_accepted (control_answer l) l.kernel.control a.0 i k))));
      sample = λ i k. words_passed l Sample (eqb (suc i) l.kernel.sample) (before_sample l i) (step_at l.steps (l.kernel.control + i))
          (not-false (sample_passes l i) (refuse_at_accepted _ _ _ (in_order_accepted (sample_answer l) l.kernel.sample b.0 i k)));
      states = λ i k. every_true (stored_if_asked l.graph.state_updates h.states_stored) (length l.graph.state_updates) p.0 i k;
      delays = λ i k. every_true (stored_if_asked l.graph.delay_updates h.delays_stored) (length l.graph.delay_updates) q.0 i k;
      output = differ_of _ _ q.1;
    }

-- ---- the induction: what holds at the start of a phase and is kept by every step that passes holds before each step and at the end. A state of any kind goes
-- along with what is held
module _ {S : Type 0} (l : Listing) (phase : Phase) (start : Held) (from count : ℕ) (last : ℕ → Bool)
    (passes : (i : ℕ) → i < count → WordsPassed l phase (last i) (walked l start from i) (step_at l.steps (from + i)))
    (state : ℕ → S) (act : S → Step → S)
    (next : (i : ℕ) (step : Step) → step_at l.steps (from + i) ≡ Some step → state (suc i) ≡ act (state i) step)
    (P : Held → S → Type 0)
    (keeps : (final : Bool) (h : Held) (s : S) (step : Step) → StepPassed l phase final h step → P h s → P (after_step l h step) (act s step)) where
  pub walk_keeps : P start (state 0) → (n : ℕ) → n ≤ count → P (walked l start from n) (state n)
  unfolding walked
  walk_keeps p zero h = p
  walk_keeps p (suc n) h =
      let w = passes n h in
      let before = walk_keeps p n (omega arith) in
      rw (w.words, next n w.step w.words) (keeps (last n) (walked l start from n) (state n) w.step w.passed before)

-- ---- what a class that is moved says
-- a memory's: it has not been stored
pub unless_says : (stored class k : ℕ) → unless_stored stored class ≡ suc k → (stored ≡ 0) × (class ≡ suc k)
unfolding unless_stored
unless_says stored class k e = go (eqb stored 0) refl e
  where
    go : (b : Bool) → eqb stored 0 ≡ b → cond b class 0 ≡ suc k → (stored ≡ 0) × (class ≡ suc k)
    go true p e = (eqb-true stored 0 p, e)
    go false p e = absurd (omega arith)

-- a computed one's: both registers are filled, and some node has the code and those operands' classes
pub two_says : (g : Graph) (c x y k : ℕ) → result_of_two g c x y ≡ suc k → (i : ℕ) × (j : ℕ) × (x ≡ suc i) × (y ≡ suc j) × (find g.nodes g.count c i j ≡ suc k)
unfolding result_of_two
two_says g c zero y k e = absurd (omega arith)
two_says g c (suc x) zero k e = absurd (omega arith)
two_says g c (suc x) (suc y) k e = (x, y, refl, refl, e)

-- .. of one operand
pub one_says : (g : Graph) (c x k : ℕ) → result_of_one g c x ≡ suc k → (i : ℕ) × (x ≡ suc i) × (find g.nodes g.count c i 0 ≡ suc k)
unfolding result_of_one
one_says g c zero k e = absurd (omega arith)
one_says g c (suc x) k e = (x, refl, e)

-- what is stored where an update asks for it: the update names a node, and the class is that node's
pub record Asked (g : Graph) (update class k : ℕ) : Type 0 where
  pub node : ℕ
  pub names : update ≡ suc node
  pub moved : class ≡ suc k
  pub same : k ≡ class_at g node

pub asked_says : (g : Graph) (update class k : ℕ) → asked g update class ≡ suc k → Asked g update class k
unfolding asked
asked_says g zero class k e = absurd (omega arith)
asked_says g (suc n) class k e = go (eqb class (suc (class_at g n))) refl e
  where
    go : (b : Bool) → eqb class (suc (class_at g n)) ≡ b → cond b class 0 ≡ suc k → Asked g (suc n) class k
    go true p e = record { node = n; names = refl; moved = e; same = suc_inj (sym e ∙ eqb-true _ _ p) }
    go false p e = absurd (omega arith)
