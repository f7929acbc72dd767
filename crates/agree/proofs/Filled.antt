-- What the checker passes never reads a register or a slot that is not filled: `never_unfilled`. Assumes nothing.
use Rattle.std.specs.Prelude.{◌≡◌, refl, Bool, true, false, List, get_or, replicate, Option, Some, None}
use Rattle.std.proofs.Common.{sym, ◌∙◌, zero-add, arith, eq-eqb}
use Prim.Native.Nat.{ℕ, zero, suc, ◌+◌, ◌≤◌, ◌<◌}
use Rattle.std.proofs.Math.Dec.{eqb}
use Rattle.tables.specs.Tests.{◌&◌, &_true, true_false}
use Rattle.tables.specs.Zeros.{zeros_length}
use Rattle.answers.specs.Numbers.{accepted}
use Rattle.expand.specs.Graph.{Graph}
use Rattle.kernel.specs.declared.Source.{Source}
use Rattle.kernel.specs.declared.Step.{Step}
use Rattle.kernel.specs.declared.Step.TheVariants.{Load, Compute, Spill, Reload, StoreState, StoreDelay, StoreOutput, StoreControl}
use Rattle.kernel.specs.declared.Instruction.{Instruction}
use Rattle.kernel.specs.declared.Instruction.TheVariants.{Immediate, Add, Sub, Mul, Min, Max, Neg, Abs, IntegerSub}
use Rattle.kernel.specs.declared.Phase.{Phase}
use Rattle.kernel.specs.declared.Phase.TheVariants.{Control, Sample}
use Rattle.kernel.specs.Steps.{step_at, allowed_in}
use Rattle.kernel.specs.Instructions.{destination, instruction_at}
use Rattle.step_run.specs.Run.{Code}
use Rattle.checker.specs.Walk.{Listing, sizes_of, Held, register, loaded_class, result_of_two, result_of_one, computed_class, words_class, with_result, after_step, emptied, entered, before_control, before_sample, walk_answer}
use Rattle.agree.specs.Files.{File, file_get, file_set, file_empty}
use Rattle.agree.specs.Passed.{StepPassed, WordsPassed, Passed, passed, walk_keeps, unless_says, two_says, one_says, asked_says}
use Rattle.agree.specs.Marks.{Marks, is_filled, source_filled, operands_filled, instruction_filled, reads_filled, fill_result, fill, marks_to, unfilled, sample_begins, marks_before_control, marks_at_sample, marks_before_sample, is_sure, words_sure}
use Rattle.agree.specs.Filled.{code_in}

-- what the checker holds something of is marked
one : ℕ → ℕ
one k = 1

abbrev Marked : Held → Marks → Type 0
Marked h m = File one h.registers m.registers × File one h.control m.control × File one h.spills m.spills

filled_at : {ws vs : List ℕ} → File one ws vs → (i k : ℕ) → get_or ws i 0 ≡ suc k → is_filled vs i ≡ true
unfolding one
filled_at f i k e = eq-eqb _ _ (file_get one f i k e)

-- nothing is marked in an empty table
empty : (n : ℕ) → File one (replicate n 0) (replicate n 0)
empty n = file_empty one n (replicate n 0) (rw (zeros_length n) (omega arith))

-- ---- what a step that passes reads is filled
source_filled_lem : (g : Graph) (h : Held) (m : Marks) (source : Source) (k : ℕ) → loaded_class g h source ≡ suc k → Marked h m → source_filled m source ≡ true
source_filled_lem g h m Source.Audio k e q = refl
source_filled_lem g h m Source.Network k e q = refl
source_filled_lem g h m (Source.Parameter i) k e q = refl
source_filled_lem g h m (Source.State i) k e q = refl
source_filled_lem g h m (Source.Delay i) k e q = refl
source_filled_lem g h m (Source.Control slot) k e q = filled_at q.1 slot k e

two_filled : (g : Graph) (c : ℕ) (h : Held) (m : Marks) (a b k : ℕ) → result_of_two g c (register h a) (register h b) ≡ suc k → Marked h m
    → (is_filled m.registers a & is_filled m.registers b) ≡ true
two_filled g c h m a b k e q =
    let (i, j, p, r, f) = two_says g c _ _ k e in
    &_true _ _ (filled_at q.0 a i p) (filled_at q.0 b j r)

one_filled : (g : Graph) (c : ℕ) (h : Held) (m : Marks) (a k : ℕ) → result_of_one g c (register h a) ≡ suc k → Marked h m → is_filled m.registers a ≡ true
one_filled g c h m a k e q = let (i, p, f) = one_says g c _ k e in filled_at q.0 a i p

operands_filled_lem : (g : Graph) (h : Held) (m : Marks) (i : Instruction) (k : ℕ) → computed_class g h i ≡ suc k → Marked h m → operands_filled m i ≡ true
operands_filled_lem g h m (Immediate dst value) k e q = refl
operands_filled_lem g h m (Add dst a b) k e q = two_filled g 5 h m a b k e q
operands_filled_lem g h m (Sub dst a b) k e q = two_filled g 6 h m a b k e q
operands_filled_lem g h m (Mul dst a b) k e q = two_filled g 7 h m a b k e q
operands_filled_lem g h m (Min dst a b) k e q = two_filled g 8 h m a b k e q
operands_filled_lem g h m (Max dst a b) k e q = two_filled g 9 h m a b k e q
operands_filled_lem g h m (Neg dst a) k e q = one_filled g 12 h m a k e q
operands_filled_lem g h m (Abs dst a) k e q = one_filled g 13 h m a k e q
operands_filled_lem g h m (IntegerSub dst a b) k e q = two_filled g 10 h m a b k e q

instruction_filled_lem : (g : Graph) (h : Held) (m : Marks) (w : Option Instruction) (k : ℕ) → words_class g h w ≡ suc k → Marked h m → instruction_filled m w ≡ true
instruction_filled_lem g h m (Some i) k e q = operands_filled_lem g h m i k e q
instruction_filled_lem g h m None k e q = absurd (omega arith)

step_filled : (l : Listing) (phase : Phase) (last : Bool) (h : Held) (m : Marks) (step : Step) → StepPassed l phase last h step → Marked h m
    → reads_filled l.instructions m step ≡ true
step_filled l phase last h m (Load source r) p q = source_filled_lem l.graph h m source p.class p.moved q
step_filled l phase last h m (Compute i) p q = instruction_filled_lem l.graph h m (instruction_at l.instructions i) p.class p.moved q
step_filled l phase last h m (Spill slot r) p q = filled_at q.0 r p.class p.moved
step_filled l phase last h m (Reload slot r) p q = filled_at q.2 slot p.class p.moved
step_filled l phase last h m (StoreState i r) p q =
    filled_at q.0 r p.class (asked_says l.graph _ _ p.class (unless_says _ _ p.class p.moved).1).moved
step_filled l phase last h m (StoreDelay i r) p q =
    filled_at q.0 r p.class (asked_says l.graph _ _ p.class (unless_says _ _ p.class p.moved).1).moved
step_filled l phase last h m (StoreOutput r) p q = filled_at q.0 r p.class (asked_says l.graph _ _ p.class p.moved).moved
step_filled l phase last h m (StoreControl slot r) p q = filled_at q.0 r p.class p.moved

step_sure : (l : Listing) (phase : Phase) (last : Bool) (h : Held) (m : Marks) (w : Option Step) → WordsPassed l phase last h w → Marked h m
    → words_sure (sizes_of l) l.instructions m w ≡ true
unfolding is_sure
step_sure l phase last h m w p q =
    rw p.words (&_true _ _ (step_filled l phase last h m p.step p.passed q) (&_true _ _ p.passed.inside p.passed.formed))

-- ---- what a step fills is marked
result_marked : (h : Held) (m : Marks) (w : Option Instruction) (class : ℕ) → Marked h m → Marked (with_result h w class) (fill_result m w)
unfolding one
result_marked h m (Some i) class (r, c, s) = (file_set _ r (destination i) _ _ (λ k e. refl), c, s)
result_marked h m None class q = q

step_marked : (l : Listing) (h : Held) (m : Marks) (step : Step) → Marked h m → Marked (after_step l h step) (fill l.instructions m step)
unfolding one after_step
step_marked l h m (Load source r) (a, c, s) = (file_set _ a r _ _ (λ k e. refl), c, s)
step_marked l h m (Compute i) q = result_marked h m (instruction_at l.instructions i) _ q
step_marked l h m (Spill slot r) (a, c, s) = (a, c, file_set _ s slot _ _ (λ k e. refl))
step_marked l h m (Reload slot r) (a, c, s) = (file_set _ a r _ _ (λ k e. refl), c, s)
step_marked l h m (StoreState i r) q = q
step_marked l h m (StoreDelay i r) q = q
step_marked l h m (StoreOutput r) q = q
step_marked l h m (StoreControl slot r) (a, c, s) = (a, file_set _ c slot _ _ (λ k e. refl), s)

next_marks : (c : Code) (m : Marks) (from i : ℕ) (step : Step) → step_at c.steps (from + i) ≡ Some step
    → marks_to c m from (suc i) ≡ fill c.instructions (marks_to c m from i) step
unfolding marks_to
next_marks c m from i step e = rw e

-- ---- the two phases
nothing_marked : (l : Listing) → Marked (emptied l) (unfilled l.kernel)
unfolding emptied unfilled
nothing_marked l = (empty 16, empty l.kernel.slots, empty l.kernel.spills)

sample_begun : (l : Listing) (h : Held) (m : Marks) → File one h.control m.control → Marked (entered l h) (sample_begins l.kernel m)
unfolding entered sample_begins
sample_begun l h m c = (empty 16, c, empty l.kernel.spills)

-- a sample step fills no control slot
control_left : (instructions : List ℕ) (m : Marks) (step : Step) → allowed_in Sample step ≡ true → (fill instructions m step).control ≡ m.control
control_left instructions m (Load source r) a = refl
control_left instructions m (Compute i) a = go (instruction_at instructions i)
  where
    go : (w : Option Instruction) → (fill_result m w).control ≡ m.control
    go (Some instruction) = refl
    go None = refl
control_left instructions m (Spill slot r) a = refl
control_left instructions m (Reload slot r) a = refl
control_left instructions m (StoreState state r) a = refl
control_left instructions m (StoreDelay delay r) a = refl
control_left instructions m (StoreOutput r) a = refl
control_left instructions m (StoreControl slot r) a = true_false (sym a)

module _ (l : Listing) (p : Passed l) where
  abbrev controlled : Held
  controlled = before_control l l.kernel.control

  control_marked : (i : ℕ) → i ≤ l.kernel.control → Marked (before_control l i) (marks_before_control (code_in l) i)
  unfolding marks_to
  control_marked i h =
      walk_keeps l Control (emptied l) 0 l.kernel.control (λ k. false) p.control (marks_before_control (code_in l)) (fill l.instructions)
      (next_marks (code_in l) (unfilled l.kernel) 0) Marked (λ last k m step q. step_marked l k m step) (nothing_marked l) i h

  -- a sample that begins with these marks
  sample_marked : (m : Marks) → Marked (entered l controlled) m → (i : ℕ) → i ≤ l.kernel.sample
      → Marked (before_sample l i) (marks_to (code_in l) m l.kernel.control i) × ((marks_to (code_in l) m l.kernel.control i).control ≡ m.control)
  unfolding marks_to
  sample_marked m q i h =
      walk_keeps l Sample (entered l controlled) l.kernel.control l.kernel.sample (λ k. eqb (suc k) l.kernel.sample) p.sample
      (marks_to (code_in l) m l.kernel.control) (fill l.instructions) (next_marks (code_in l) m l.kernel.control)
      (λ k y. Marked k y × (y.control ≡ m.control))
      (λ last k y step r a. (step_marked l k y step a.0, control_left l.instructions y step r.allowed ∙ a.1)) (q, refl) i h

  -- the start of each sample
  samples_marked : (t : ℕ) → Marked (entered l controlled) (marks_at_sample (code_in l) t)
  unfolding marks_at_sample entered
  samples_marked zero = sample_begun l controlled _ (control_marked l.kernel.control (omega arith)).1
  samples_marked (suc t) =
      let before = samples_marked t in
      let after = sample_marked (marks_at_sample (code_in l) t) before l.kernel.sample (omega arith) in
      sample_begun l controlled _ (rw after.1 (control_of before))
    where
      control_of : {m : Marks} → Marked (entered l controlled) m → File one controlled.control m.control
      control_of q = q.1

-- NEVER UNFILLED: of a list that the checker passes, every control step, and every step of every sample, reads filled registers and slots alone, its index is
-- inside its table, and the instruction that it computes is well formed
pub never_unfilled : (l : Listing) → walk_answer l ≡ accepted tt
    → ((i : ℕ) → i < l.kernel.control → words_sure (sizes_of l) l.instructions (marks_before_control (code_in l) i) (step_at l.steps i) ≡ true)
    × ((t i : ℕ) → i < l.kernel.sample
    → words_sure (sizes_of l) l.instructions (marks_before_sample (code_in l) t i) (step_at l.steps (l.kernel.control + i)) ≡ true)
never_unfilled l e =
    let p = passed l e in (
      λ i h. step_sure l Control _ _ _ _ (rw (zero-add i) at (p.control i h)) (control_marked l p i (omega arith)),
      λ t i h. step_sure l Sample _ _ _ _ (p.sample i h) (sample_marked l p (marks_at_sample (code_in l) t) (samples_marked l p t) i (omega arith)).0,
    )
