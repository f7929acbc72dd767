-- The checker reads no delay's length: a graph without them gives the same answer. Assumes nothing.
use Rattle.std.specs.Prelude.{◌≡◌, Bool, List, [], eqb, Option, Some, None}
use Rattle.std.proofs.Math.Path.{refl, ap}
use Rattle.std.proofs.Math.Bool.{false}
use Prim.Native.Nat.{ℕ, zero, suc, ◌+◌}
use Rattle.expand.specs.Graph.{Graph}
use Rattle.kernel.specs.declared.Source.{Source}
use Rattle.kernel.specs.declared.Step.{Step}
use Rattle.kernel.specs.declared.Step.TheVariants.{Load, Compute, Spill, Reload, StoreState, StoreDelay, StoreOutput, StoreControl}
use Rattle.kernel.specs.declared.Instruction.{Instruction}
use Rattle.kernel.specs.declared.Instruction.TheVariants.{Immediate, Add, Sub, Mul, Min, Max, Neg, Abs, IntegerSub}
use Rattle.kernel.specs.declared.Phase.{Phase}
use Rattle.kernel.specs.declared.Phase.TheVariants.{Control, Sample}
use Rattle.kernel.specs.Steps.{step_at}
use Rattle.kernel.specs.Instructions.{instruction_at}
use Rattle.checker.specs.Walk.{Listing, listing, Held, register, unless_stored, fetched, loaded_class, result_of_two, result_of_one, computed_class, words_class, asked, moved_class, after_move, after_step, after_words, emptied, entered, walked, before_control, before_sample, step_passes, words_pass, control_passes, sample_passes, nothing_missing, control_answer, sample_answer, walk_answer}
use Rattle.checker.specs.WalkLaws.{in_order_same}

abbrev pub bare_graph : Graph → Graph
bare_graph g =
    record {
      count = g.count;
      nodes = g.nodes;
      output = g.output;
      state_updates = g.state_updates;
      delay_updates = g.delay_updates;
      delay_lengths = [];
    }

abbrev pub bare : Listing → Listing
bare l = listing (bare_graph l.graph) l.parameters l.mask l.kernel l.steps l.instructions

-- ---- the class that a step moves
module _ (g : Graph) where
  two_bare : (c x y : ℕ) → result_of_two (bare_graph g) c x y ≡ result_of_two g c x y
  unfolding result_of_two
  two_bare c zero y = refl
  two_bare c (suc x) zero = refl
  two_bare c (suc x) (suc y) = refl

  one_bare : (c x : ℕ) → result_of_one (bare_graph g) c x ≡ result_of_one g c x
  unfolding result_of_one
  one_bare c zero = refl
  one_bare c (suc x) = refl

  asked_bare : (update class : ℕ) → asked (bare_graph g) update class ≡ asked g update class
  unfolding asked
  asked_bare zero class = refl
  asked_bare (suc n) class = refl

  loaded_bare : (h : Held) (source : Source) → loaded_class (bare_graph g) h source ≡ loaded_class g h source
  unfolding fetched
  loaded_bare h Source.Audio = refl
  loaded_bare h Source.Network = refl
  loaded_bare h (Source.Parameter index) = refl
  loaded_bare h (Source.State index) = refl
  loaded_bare h (Source.Delay index) = refl
  loaded_bare h (Source.Control slot) = refl

  computed_bare : (h : Held) (instruction : Instruction) → computed_class (bare_graph g) h instruction ≡ computed_class g h instruction
  computed_bare h (Immediate dst value) = refl
  computed_bare h (Add dst lhs rhs) = two_bare 5 (register h lhs) (register h rhs)
  computed_bare h (Sub dst lhs rhs) = two_bare 6 (register h lhs) (register h rhs)
  computed_bare h (Mul dst lhs rhs) = two_bare 7 (register h lhs) (register h rhs)
  computed_bare h (Min dst lhs rhs) = two_bare 8 (register h lhs) (register h rhs)
  computed_bare h (Max dst lhs rhs) = two_bare 9 (register h lhs) (register h rhs)
  computed_bare h (Neg dst src) = one_bare 12 (register h src)
  computed_bare h (Abs dst src) = one_bare 13 (register h src)
  computed_bare h (IntegerSub dst lhs rhs) = two_bare 10 (register h lhs) (register h rhs)

  words_bare : (h : Held) (words : Option Instruction) → words_class (bare_graph g) h words ≡ words_class g h words
  words_bare h (Some instruction) = computed_bare h instruction
  words_bare h None = refl

  moved_bare : (instructions : List ℕ) (h : Held) (step : Step) → moved_class (bare_graph g) instructions h step ≡ moved_class g instructions h step
  moved_bare instructions h (Load source r) = loaded_bare h source
  moved_bare instructions h (Compute i) = words_bare h (instruction_at instructions i)
  moved_bare instructions h (Spill slot r) = refl
  moved_bare instructions h (Reload slot r) = refl
  moved_bare instructions h (StoreState state r) = ap (unless_stored _) (asked_bare _ _)
  moved_bare instructions h (StoreDelay delay r) = ap (unless_stored _) (asked_bare _ _)
  moved_bare instructions h (StoreOutput r) = asked_bare _ _
  moved_bare instructions h (StoreControl slot r) = refl

-- ---- the walk
module _ (l : Listing) where
  after_bare : (h : Held) (words : Option Step) → after_words (bare l) h words ≡ after_words l h words
  unfolding after_step
  after_bare h (Some step) = ap (after_move l.instructions h step) (moved_bare l.graph l.instructions h step)
  after_bare h None = refl

  walked_bare : (h : Held) (from n : ℕ) → walked (bare l) h from n ≡ walked l h from n
  unfolding walked
  walked_bare h from zero = refl
  walked_bare h from (suc n) = let e = walked_bare h from n in rw e (after_bare (walked l h from n) (step_at l.steps (from + n)))

  pass_bare : (phase : Phase) (last : Bool) (h : Held) (words : Option Step) → words_pass (bare l) phase last h words ≡ words_pass l phase last h words
  unfolding step_passes
  pass_bare phase last h (Some step) = rw (moved_bare l.graph l.instructions h step)
  pass_bare phase last h None = refl

  control_bare : (i : ℕ) → before_control (bare l) i ≡ before_control l i
  unfolding emptied
  control_bare i = walked_bare (emptied l) 0 i

  sample_bare : (i : ℕ) → before_sample (bare l) i ≡ before_sample l i
  unfolding entered
  sample_bare i = rw (control_bare l.kernel.control) (walked_bare (entered l (before_control l l.kernel.control)) l.kernel.control i)

  control_same : (i : ℕ) → control_answer (bare l) i ≡ control_answer l i
  unfolding control_passes
  control_same i = rw (control_bare i, pass_bare Control false (before_control l i) (step_at l.steps i))

  sample_same : (i : ℕ) → sample_answer (bare l) i ≡ sample_answer l i
  unfolding sample_passes
  sample_same i =
      rw (sample_bare i, pass_bare Sample (eqb (suc i) l.kernel.sample) (before_sample l i) (step_at l.steps (l.kernel.control + i)))

  -- THE SAME ANSWER
  pub walk_bare : walk_answer (bare l) ≡ walk_answer l
  unfolding walk_answer nothing_missing
  walk_bare =
      rw (
        in_order_same (control_answer (bare l)) (control_answer l) l.kernel.control control_same,
        in_order_same (sample_answer (bare l)) (sample_answer l) l.kernel.sample sample_same,
        sample_bare l.kernel.sample,
      )
