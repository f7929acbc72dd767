-- One step that the checker passes: the word it moves is the value of the class that the checker moves, so registers, slots and memories go on holding what
-- the checker says. Assumes nothing.
use Rattle.std.specs.Prelude.{◌≡◌, refl, Bool, true, List, ℕ, ◌≤◌, length, get_or, set, Option, Some, None}
use Rattle.std.proofs.Common.{sym, ◌∙◌, arith, ltb-true}
use Rattle.std.proofs.Math.Path.{ap}
use Rattle.std.proofs.Math.Nat.{suc_inj}
use Rattle.tables.specs.Tests.{true_false}
use Rattle.words.specs.Operations.{added, subtracted, multiplied, lesser, greater, negated, absolute, wrapping_difference}
use Rattle.block.specs.declared.Counts.{Counts}
use Rattle.expand.specs.Graph.{Graph}
use Rattle.expand.specs.GraphLaws.{GoodGraph}
use Rattle.kernel.specs.declared.Source.{Source}
use Rattle.kernel.specs.declared.Step.{Step}
use Rattle.kernel.specs.declared.Step.TheVariants.{Load, Compute, Spill, Reload, StoreState, StoreDelay, StoreOutput, StoreControl}
use Rattle.kernel.specs.declared.Instruction.{Instruction}
use Rattle.kernel.specs.declared.Instruction.TheVariants.{Immediate, Add, Sub, Mul, Min, Max, Neg, Abs, IntegerSub}
use Rattle.kernel.specs.declared.Phase.{Phase}
use Rattle.kernel.specs.declared.Phase.TheVariants.{Control}
use Rattle.kernel.specs.Steps.{source_in_control}
use Rattle.kernel.specs.Lists.{source_inside}
use Rattle.kernel.specs.Instructions.{destination, instruction_at}
use Rattle.classes.specs.Classes.{find}
use Rattle.memory.specs.Lines.{Memories, read_delay, store_delay, store_state}
use Rattle.memory.specs.Signals.{Given, given}
use Rattle.graph_run.specs.Sample.{value_of, values}
use Rattle.machine.specs.Machine.{Machine, Program, program, result_of, execute, execute_words, loaded, with_registers, act, counted}
use Rattle.checker.specs.Walk.{Listing, sizes_of, Held, fetched, loaded_class, result_of_two, result_of_one, computed_class, words_class, with_result, after_step}
use Rattle.agree.specs.Codes.{value_input, value_constant, value_parameter, value_state, value_delay, value_network, value_add, value_sub, value_mul, value_min, value_max, value_integer_sub, value_neg, value_abs}
use Rattle.agree.specs.OneValue.{value_at, class_value, find_value}
use Rattle.agree.specs.Stored.{Written, written_read, written_next, states_apart, lines_of, LinesFit, lines_apart}
use Rattle.agree.specs.Files.{Says, File, file_get, file_set}
use Rattle.agree.specs.Passed.{StepPassed, unless_says, two_says, one_says, Asked, asked_says}

-- registers and slots hold what the checker holds of them
abbrev pub Holds : (ℕ → ℕ) → Held → Machine → Type 0
Holds value h m = File value h.registers m.registers × File value h.control m.control × File value h.spills m.spills

-- the memories are those at the sample's start with the marked stores; the output word is the output's value once it is stored
abbrev pub Stores : Graph → Given → Memories → Held → Machine → Type 0
Stores g x start h m =
    Written set g.state_updates (values g x start) start.states h.states_stored m.memories.states
    × Written (store_delay g.delay_lengths) g.delay_updates (values g x start) (lines_of start) h.delays_stored (lines_of m.memories)
    × ((h.output_stored ≡ 0 → ⊥) → m.output ≡ value_at g x start g.output)

module _ {n : Counts} {g : Graph} (good : GoodGraph n g) (x : Given) (start : Memories) where
  -- ---- what is found is what a step computes or reads
  found : (c i : ℕ) (v : ℕ) → value_of g.delay_lengths x start (values g x start) c i 0 ≡ v → Says (value_at g x start) (find g.nodes g.count c i 0) v
  found c i v h k f = sym (find_value good x start c i 0 k f ∙ h)

  fetched_says : (c i : ℕ) (v : ℕ) → value_of g.delay_lengths x start (values g x start) c i 0 ≡ v → Says (value_at g x start) (fetched g c i) v
  unfolding fetched
  fetched_says c i v h k f = found c i v h k f

  two : (c : ℕ) (operation : ℕ → ℕ → ℕ)
      → ((i j : ℕ) → value_of g.delay_lengths x start (values g x start) c i j ≡ operation (value_at g x start i) (value_at g x start j))
      → (w u a b : ℕ) → Says (value_at g x start) w a → Says (value_at g x start) u b → Says (value_at g x start) (result_of_two g c w u) (operation a b)
  two c operation law w u a b h l k e =
      let (i, j, p, q, f) = two_says g c w u k e in
      rw (h i p, l j q) (sym (find_value good x start c i j k f ∙ law i j))

  one : (c : ℕ) (operation : ℕ → ℕ) → ((i j : ℕ) → value_of g.delay_lengths x start (values g x start) c i j ≡ operation (value_at g x start i))
      → (w a : ℕ) → Says (value_at g x start) w a → Says (value_at g x start) (result_of_one g c w) (operation a)
  one c operation law w a h k e =
      let (i, p, f) = one_says g c w k e in
      rw (h i p) (sym (find_value good x start c i 0 k f ∙ law i 0))

  -- ---- an instruction's result has the class that the checker finds
  result_says : (h : Held) (r : List ℕ) (i : Instruction) → File (value_at g x start) h.registers r → Says (value_at g x start) (computed_class g h i) (result_of r i)
  result_says h r (Immediate dst v) f = found 1 v v (value_constant _ _ _ _ _ _)
  result_says h r (Add dst a b) f = two 5 added (value_add _ _ _ _) _ _ _ _ (file_get _ f a) (file_get _ f b)
  result_says h r (Sub dst a b) f = two 6 subtracted (value_sub _ _ _ _) _ _ _ _ (file_get _ f a) (file_get _ f b)
  result_says h r (Mul dst a b) f = two 7 multiplied (value_mul _ _ _ _) _ _ _ _ (file_get _ f a) (file_get _ f b)
  result_says h r (Min dst a b) f = two 8 lesser (value_min _ _ _ _) _ _ _ _ (file_get _ f a) (file_get _ f b)
  result_says h r (Max dst a b) f = two 9 greater (value_max _ _ _ _) _ _ _ _ (file_get _ f a) (file_get _ f b)
  result_says h r (Neg dst a) f = one 12 negated (value_neg _ _ _ _) _ _ (file_get _ f a)
  result_says h r (Abs dst a) f = one 13 absolute (value_abs _ _ _ _) _ _ (file_get _ f a)
  result_says h r (IntegerSub dst a b) f = two 10 wrapping_difference (value_integer_sub _ _ _ _) _ _ _ _ (file_get _ f a) (file_get _ f b)

  computed_holds : (h : Held) (m : Machine) (w : Option Instruction) → Holds (value_at g x start) h m
      → Holds (value_at g x start) (with_result h w (words_class g h w)) (with_registers m (execute_words m.registers w))
  unfolding execute
  computed_holds h m (Some i) (r, c, s) = (file_set _ r (destination i) _ _ (result_says h m.registers i r), c, s)
  computed_holds h m None q = q

-- ---- a step of a list
abbrev pub program_for : Listing → Program
program_for l = program l.graph.delay_lengths l.instructions

module _ {n : Counts} (l : Listing) (good : GoodGraph n l.graph) (x : Given) (start : Memories) where
  -- registers and slots go on holding what the checker says, where a load's word does
  holds_step : (y : Given) (h : Held) (m : Machine) (step : Step)
      → ((source : Source) (r : ℕ) → step ≡ Load source r → Says (value_at l.graph x start) (loaded_class l.graph h source) (loaded l.graph.delay_lengths y m.control m.memories source))
      → Holds (value_at l.graph x start) h m → Holds (value_at l.graph x start) (after_step l h step) (act (program_for l) y m step)
  unfolding after_step
  holds_step y h m (Load source r) s (a, c, d) = (file_set _ a r _ _ (s source r refl), c, d)
  holds_step y h m (Compute i) s q = computed_holds good x start h m (instruction_at l.instructions i) q
  holds_step y h m (Spill slot r) s (a, c, d) = (a, c, file_set _ d slot _ _ (file_get _ a r))
  holds_step y h m (Reload slot r) s (a, c, d) = (file_set _ a r _ _ (file_get _ d slot), c, d)
  holds_step y h m (StoreState state r) s q = q
  holds_step y h m (StoreDelay delay r) s q = q
  holds_step y h m (StoreOutput r) s q = q
  holds_step y h m (StoreControl slot r) s (a, c, d) = (a, file_set _ c slot _ _ (file_get _ a r), d)

  -- ---- the sample phase
  module _ (lined : length l.graph.delay_updates ≡ length l.graph.delay_lengths) (fit : LinesFit l.graph.delay_lengths start) where
    source_says : (h : Held) (m : Machine) (source : Source) → source_inside (sizes_of l) source ≡ true → Holds (value_at l.graph x start) h m → Stores l.graph x start h m
        → Says (value_at l.graph x start) (loaded_class l.graph h source) (loaded l.graph.delay_lengths x m.control m.memories source)
    unfolding read_delay
    source_says h m Source.Audio e q w k f = fetched_says good x start 0 0 _ (value_input _ _ _ _ _ _) k f
    source_says h m Source.Network e q w k f = fetched_says good x start 17 0 _ (value_network _ _ _ _ _ _) k f
    source_says h m (Source.Parameter i) e q w k f = fetched_says good x start 2 i _ (value_parameter _ _ _ _ _ _) k f
    source_says h m (Source.State i) e q w k f =
        let u = unless_says _ _ k f in
        written_read _ _ _ _ (states_apart (length l.graph.state_updates)) (omega arith) tt _ _ i w.0 (ltb-true _ _ e) u.0
        ∙ fetched_says good x start 3 i _ (value_state _ _ _ _ _ _) k u.1
    source_says h m (Source.Delay i) e q w k f =
        let u = unless_says _ _ k f in
        written_read _ _ _ _ (lines_apart l.graph.delay_lengths) (omega arith) fit _ _ i w.1 (ltb-true _ _ e) u.0
        ∙ fetched_says good x start 4 i _ (value_delay _ _ _ _ _ _) k u.1
    source_says h m (Source.Control slot) e q w k f = file_get _ q.1 slot k f

    -- the word of a store that an update asks for is its node's value
    asked_value : {update class k : ℕ} (v : ℕ) (a : Asked l.graph update class k) → Says (value_at l.graph x start) class v → update ≤ l.graph.count
        → v ≡ value_at l.graph x start a.node
    asked_value {k = k} v a h b =
        let e = a.names in
        h k a.moved ∙ (ap (value_at l.graph x start) a.same ∙ sym (class_value good x start a.node (omega arith)))

    computed_stores : (h : Held) (m : Machine) (w : Option Instruction) (class : ℕ) → Stores l.graph x start h m
        → Stores l.graph x start (with_result h w class) (with_registers m (execute_words m.registers w))
    computed_stores h m (Some i) class q = q
    computed_stores h m None class q = q

    stores_step : (phase : Phase) (last : Bool) (h : Held) (m : Machine) (step : Step) → StepPassed l phase last h step → Holds (value_at l.graph x start) h m
        → Stores l.graph x start h m → Stores l.graph x start (after_step l h step) (act (program_for l) x m step)
    unfolding after_step store_delay store_state
    stores_step phase last h m (Load source r) p q w = w
    stores_step phase last h m (Compute i) p q w = computed_stores h m (instruction_at l.instructions i) _ w
    stores_step phase last h m (Spill slot r) p q w = w
    stores_step phase last h m (Reload slot r) p q w = w
    stores_step phase last h m (StoreState i r) p q (s, d, o) =
        let u = unless_says _ _ p.class p.moved in
        let a = asked_says l.graph _ _ p.class u.1 in (
          written_next _ _ _ _ (states_apart (length l.graph.state_updates)) (omega arith) tt _ _ i a.node _ s a.names u.0
              (asked_value _ a (file_get _ q.0 r) (good.state_updates i)),
          d,
          o,
        )
    stores_step phase last h m (StoreDelay i r) p q (s, d, o) =
        let u = unless_says _ _ p.class p.moved in
        let a = asked_says l.graph _ _ p.class u.1 in (
          s,
          written_next _ _ _ _ (lines_apart l.graph.delay_lengths) (omega arith) fit _ _ i a.node _ d a.names u.0
              (asked_value _ a (file_get _ q.0 r) (good.delay_updates i)),
          o,
        )
    stores_step phase last h m (StoreOutput r) p q (s, d, o) =
        let a = asked_says l.graph _ _ p.class p.moved in
        (s, d, λ _. asked_value _ a (file_get _ q.0 r) good.output ∙ ap (value_at l.graph x start) (sym (suc_inj a.names)))
    stores_step phase last h m (StoreControl slot r) p q w = w

    -- A SAMPLE STEP that passes keeps what registers, slots and memories hold
    pub sample_step : (phase : Phase) (last : Bool) (h : Held) (m : Machine) (step : Step) → StepPassed l phase last h step
        → Holds (value_at l.graph x start) h m × Stores l.graph x start h m
        → Holds (value_at l.graph x start) (after_step l h step) (counted (act (program_for l) x m step))
        × Stores l.graph x start (after_step l h step) (counted (act (program_for l) x m step))
    sample_step phase last h m step p (q, w) =
        (holds_step x h m step (λ source r e. source_says h m source (inside source r e) q w) q, stores_step phase last h m step p q w)
      where
        inside : (source : Source) (r : ℕ) → step ≡ Load source r → source_inside (sizes_of l) source ≡ true
        inside source r e = rw e at p.inside

  -- ---- the control phase: whatever the sample's words and the memories are, if the parameter values are these
  control_source : (parameters : List ℕ) → x.parameters ≡ parameters → (h : Held) (m : Machine) (source : Source) → source_in_control source ≡ true
      → Holds (value_at l.graph x start) h m
      → Says (value_at l.graph x start) (loaded_class l.graph h source) (loaded l.graph.delay_lengths (given 0 0 parameters) m.control m.memories source)
  control_source ps e h m Source.Audio c q = true_false (sym c)
  control_source ps e h m Source.Network c q = true_false (sym c)
  control_source ps e h m (Source.Parameter i) c q = fetched_says good x start 2 i _ (value_parameter _ _ _ _ _ _ ∙ ap (λ (p : List ℕ). get_or p i 0) e)
  control_source ps e h m (Source.State i) c q = true_false (sym c)
  control_source ps e h m (Source.Delay i) c q = true_false (sym c)
  control_source ps e h m (Source.Control slot) c q = file_get _ q.1 slot

  -- A CONTROL STEP that passes keeps what registers and slots hold
  pub control_step : (parameters : List ℕ) → x.parameters ≡ parameters → (last : Bool) (h : Held) (m : Machine) (step : Step) → StepPassed l Control last h step
      → Holds (value_at l.graph x start) h m → Holds (value_at l.graph x start) (after_step l h step) (counted (act (program_for l) (given 0 0 parameters) m step))
  control_step ps e last h m step p q = holds_step (given 0 0 ps) h m step (λ source r f. control_source ps e h m source (inside source r f) q) q
    where
      inside : (source : Source) (r : ℕ) → step ≡ Load source r → source_in_control source ≡ true
      inside source r e = rw e at p.allowed
