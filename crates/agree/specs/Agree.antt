-- DEMAND 3: a step list that the checker passes renders what the graph does, sample by sample: output words, states, delay area and cursors. Assumes nothing.
use Rattle.std.specs.Prelude.{◌≡◌, ◌⊎◌, Bool, true, false, not, List, length, get_or}
use Rattle.std.proofs.Math.Path.{refl, sym, ap}
use Rattle.std.proofs.Common.{◌∙◌, inl, inr, arith, eqb-true}
use Prim.Native.Nat.{ℕ, zero, suc, ◌≤◌}
use Rattle.std.proofs.Math.ListN.{set}
use Rattle.std.proofs.Math.Dec.{eqb}
use Rattle.tables.specs.Tests.{either, differ_of}
use Rattle.tables.specs.Lists.{list_length}
use Rattle.tables.specs.Zeros.{zeros_length}
use Rattle.answers.specs.Numbers.{accepted}
use Rattle.block.specs.Block.{Block, delay_count}
use Rattle.block.specs.declared.Counts.{Counts}
use Rattle.block.specs.Valid.{Valid}
use Rattle.expand.specs.Graph.{graph_of}
use Rattle.expand.specs.GraphLaws.{GoodGraph, good_graph}
use Rattle.kernel.specs.declared.Step.{Step}
use Rattle.kernel.specs.declared.Phase.TheVariants.{Control, Sample}
use Rattle.memory.specs.Lines.{Memories, memories, store_delay}
use Rattle.memory.specs.Sizes.{run_fits}
use Rattle.memory.specs.SizeLaws.{fitting, fit, graph_lengths}
use Rattle.memory.specs.Signals.{given, Signals, given_by, Rendered, rendered}
use Rattle.graph_run.specs.Sample.{Sampled, sampled, values, update_states, update_delays, updated, sample}
use Rattle.graph_run.specs.Run.{emit, samples_to as graphSamplesTo}
use Rattle.machine.specs.Machine.{Machine, act, counted, steps_to, with_output}
use Rattle.step_run.specs.Run.{Code, setup_of, no_output, cleared, control_done, sample_done, Running, running, samples_to, Tables, run_for}
use Rattle.checker.specs.Walk.{Listing, Held, after_step, emptied, entered, before_control, before_sample, stored_if_asked, walk_answer}
use Rattle.checker.specs.Check.{listing_of}
use Rattle.agree.specs.OneValue.{value_at}
use Rattle.agree.specs.Stored.{written_start, written_end, written_kept, states_stored, lines_of, LinesFit, lines_apart, delays_stored, lines_updated}
use Rattle.agree.specs.Files.{File, file_empty}
use Rattle.agree.specs.Passed.{StepPassed, Passed, passed, walk_keeps}
use Rattle.agree.specs.Unchanged.{control_same, memories_same, Long, long_step, next_machine}
use Rattle.agree.specs.Phases.{unstored_control}
use Rattle.agree.specs.Steps.{Holds, Stores, program_for, sample_step, control_step}

-- what is stored where nothing is missing
stored_all : (updates stored : List ℕ) (i : ℕ) → stored_if_asked updates stored i ≡ true → get_or stored i 0 ≡ 0 → get_or updates i 0 ≡ 0
unfolding stored_if_asked
stored_all updates stored i e z = go (either _ _ e)
  where
    go : (eqb (get_or updates i 0) 0 ≡ true) ⊎ (not (eqb (get_or stored i 0) 0) ≡ true) → get_or updates i 0 ≡ 0
    go (inl p) = eqb-true _ _ p
    go (inr p) = absurd (differ_of _ _ p z)

module _ {n : Counts} (l : Listing) (good : GoodGraph n l.graph) (lined : length l.graph.delay_updates ≡ length l.graph.delay_lengths) (p : Passed l)
    (parameters : List ℕ) where
  abbrev controlled : Held
  controlled = before_control l l.kernel.control

  -- a machine between samples: its tables are long enough, its lines fit, and its control slots hold what the checker says, whatever the sample's words and the
  -- memories are
  record Waiting (m : Machine) : Type 0 where
    registers : 16 ≤ length m.registers
    spills : l.kernel.spills ≤ length m.spills
    lines : LinesFit l.graph.delay_lengths m.memories
    control : (audio network : ℕ) (start : Memories) → File (value_at l.graph (given audio network parameters) start) controlled.control m.control

  -- ---- the sample phase
  module _ (audio network : ℕ) (m : Machine) (w : Waiting m) where
    -- what holds before each sample step
    abbrev Going : Held → Machine → Type 0
    Going h k =
        (Holds (value_at l.graph (given audio network parameters) m.memories) h k × Stores l.graph (given audio network parameters) m.memories h k)
        × (k.control ≡ m.control)
        × Long m k

    abbrev done : ℕ → Machine
    done i = steps_to (program_for l) l.steps (given audio network parameters) (with_output m no_output) l.kernel.control i

    going_start : Going (entered l controlled) (with_output m no_output)
    unfolding entered
    going_start =
        let unstored = unstored_control l p in (
          (
            (file_empty _ 16 m.registers w.registers, w.control audio network m.memories, file_empty _ l.kernel.spills m.spills w.spills),
            (
              rw unstored.0 (written_start set l.graph.state_updates _ m.memories.states),
              rw unstored.1 (written_start (store_delay l.graph.delay_lengths) l.graph.delay_updates _ (lines_of m.memories)),
              λ z. absurd (z unstored.2),
            ),
          ),
          refl,
          (refl, refl, refl),
        )

    going_step : (last : Bool) (h : Held) (k : Machine) (step : Step) → StepPassed l Sample last h step → Going h k
        → Going (after_step l h step) (counted (act (program_for l) (given audio network parameters) k step))
    going_step last h k step q (a, c, e) = (
      sample_step l good (given audio network parameters) m.memories lined w.lines Sample last h k step q a,
      control_same (program_for l) (given audio network parameters) k step q.allowed ∙ c,
      long_step (program_for l) (given audio network parameters) m k step e,
    )

    going : (i : ℕ) → i ≤ l.kernel.sample → Going (before_sample l i) (done i)
    unfolding steps_to
    going i h =
        walk_keeps l Sample (entered l controlled) l.kernel.control l.kernel.sample (λ k. eqb (suc k) l.kernel.sample) p.sample done
        (λ k step. counted (act (program_for l) (given audio network parameters) k step))
        (λ k step e. next_machine (program_for l) l.steps (given audio network parameters) (with_output m no_output) l.kernel.control k step e)
        Going going_step going_start i h

    abbrev ended : Machine
    ended = done l.kernel.sample

    -- A SAMPLE: the sample steps give the output word and leave the memories that the graph gives and leaves
    sample_agrees : sampled ended.output ended.memories ≡ sample l.graph (given audio network parameters) m.memories
    unfolding sample updated
    sample_agrees =
        let g = l.graph in
        let vs = values g (given audio network parameters) m.memories in
        let at = going l.kernel.sample (omega arith) in
        let kept = at.0.1 in
        let states : ended.memories.states ≡ update_states g.state_updates vs m.memories.states (length g.state_updates) =
        written_end set _ _ _ _ _ kept.0 (λ i h. stored_all _ _ i (p.states i h)) ∙ sym (states_stored _ _ _ _) in
        let lines : lines_of ended.memories ≡ update_delays g.delay_updates g.delay_lengths vs (lines_of m.memories) (length g.delay_updates) =
        written_end (store_delay g.delay_lengths) _ _ _ _ _ kept.1 (λ i h. stored_all _ _ i (p.delays i h)) ∙ sym (delays_stored _ _ _ _ _) in
        let all : ended.memories ≡ updated g vs m.memories =
        (λ i. memories (states i) (lines i).area (lines i).cursors)
        ∙ sym (lines_updated g.delay_updates g.delay_lengths vs (memories _ m.memories.area m.memories.cursors) (length g.delay_updates)) in
        λ i. sampled (kept.2 p.output i) (all i)

    -- .. and the machine waits for the next sample
    sample_waits : Waiting ended
    sample_waits =
        let at = going l.kernel.sample (omega arith) in
        let long = at.2 in
        let r = w.registers in let s = w.spills in let e₁ = long.0 in let e₂ = long.2 in
        record {
          registers = omega arith;
          spills = omega arith;
          lines = written_kept _ _ _ _ (lines_apart l.graph.delay_lengths) (omega arith) w.lines _ _ at.0.1.1;
          control = λ a b start. rw at.1 (w.control a b start);
        }

  -- ---- the control phase, for all sample words and memories at once
  module _ (m : Machine) (registers : 16 ≤ length m.registers) (control : l.kernel.slots ≤ length m.control) (spills : l.kernel.spills ≤ length m.spills) where
    -- what holds before each control step
    abbrev Preparing : Held → Machine → Type 0
    Preparing h k =
        ((audio network : ℕ) (start : Memories) → Holds (value_at l.graph (given audio network parameters) start) h k)
        × (k.memories ≡ m.memories)
        × Long m k

    preparing_start : Preparing (emptied l) m
    unfolding emptied
    preparing_start = (
      λ a b start. (file_empty _ 16 m.registers registers, file_empty _ l.kernel.slots m.control control, file_empty _ l.kernel.spills m.spills spills),
      refl,
      (refl, refl, refl),
    )

    preparing_step : (last : Bool) (h : Held) (k : Machine) (step : Step) → StepPassed l Control last h step → Preparing h k
        → Preparing (after_step l h step) (counted (act (program_for l) (given 0 0 parameters) k step))
    preparing_step last h k step q (a, c, e) = (
      λ x y start. control_step l good (given x y parameters) start parameters refl last h k step q (a x y start),
      memories_same (program_for l) (given 0 0 parameters) k step q.allowed ∙ c,
      long_step (program_for l) (given 0 0 parameters) m k step e,
    )

    abbrev prepared : ℕ → Machine
    prepared i = steps_to (program_for l) l.steps (given 0 0 parameters) m 0 i

    preparing : (i : ℕ) → i ≤ l.kernel.control → Preparing (before_control l i) (prepared i)
    unfolding steps_to
    preparing i h =
        walk_keeps l Control (emptied l) 0 l.kernel.control (λ k. false) p.control prepared
        (λ k step. counted (act (program_for l) (given 0 0 parameters) k step))
        (λ k step e. next_machine (program_for l) l.steps (given 0 0 parameters) m 0 k step e)
        Preparing preparing_step preparing_start i h

    -- it leaves the memories, and the machine waiting for the first sample
    control_ends : LinesFit l.graph.delay_lengths m.memories
        → ((prepared l.kernel.control).memories ≡ m.memories) × Waiting (prepared l.kernel.control)
    control_ends f =
        let at = preparing l.kernel.control (omega arith) in
        let long = at.2 in
        let e₁ = long.0 in let e₂ = long.2 in (
          at.1,
          record { registers = omega arith; spills = omega arith; lines = rw at.1 f; control = λ a b start. (at.0 a b start).1 },
        )

-- an update for each delay line
updates_lined : (b : Block) → length (graph_of b).delay_updates ≡ length (graph_of b).delay_lengths
unfolding graph_of
updates_lined b = list_length _ (delay_count b) ∙ sym (list_length _ (delay_count b))

module _ (b : Block) (valid : Valid b) (mask : ℕ) (c : Code) (passes : walk_answer (listing_of b mask c.kernel c.steps c.instructions) ≡ accepted tt) (s : Signals) where
  abbrev checked : Listing
  checked = listing_of b mask c.kernel c.steps c.instructions

  abbrev Waits : Machine → Type 0
  Waits m = Waiting checked (good_graph b valid) (updates_lined b) (passed checked passes) s.parameters m

  abbrev rendered_by : Running → Rendered
  rendered_by r = rendered r.output r.machine.memories

  -- sample by sample, from a machine that waits
  samples_agree : (r : Running) → Waits r.machine → (n : ℕ)
      → (rendered_by (samples_to (setup_of b c s) r n) ≡ graphSamplesTo (graph_of b) b.header.network s (rendered_by r) n) × Waits (samples_to (setup_of b c s) r n).machine
  unfolding samples_to sample_done graphSamplesTo
  samples_agree r w zero = (refl, w)
  samples_agree r w (suc t) =
      let before = samples_to (setup_of b c s) r t in
      let ih = samples_agree r w t in
      let x = given_by b.header.network s t in
      let one = sample_agrees checked (good_graph b valid) (updates_lined b) (passed checked passes) s.parameters x.audio x.network before.machine ih.1 in (
        ap (λ (z : Sampled). rendered (set before.output t z.output) z.memories) one
            ∙ ap (λ (q : Rendered). emit q t (sample (graph_of b) x q.memories)) ih.0,
        sample_waits checked (good_graph b valid) (updates_lined b) (passed checked passes) s.parameters x.audio x.network before.machine ih.1,
      )

-- DEMAND 3. Of a valid block, with a list that the checker passes, the step run of n samples leaves the output words, states, delay area and cursors that the
-- graph run leaves: for all input and network words, parameter values and memories of the block's sizes, and control and spill tables as long as declared or longer
pub agree : (b : Block) → Valid b → (mask : ℕ) (c : Code) → walk_answer (listing_of b mask c.kernel c.steps c.instructions) ≡ accepted tt
    → (s : Signals) (t : Tables) → c.kernel.slots ≤ length t.control → c.kernel.spills ≤ length t.spills
    → run_fits b s.parameters t.rendered.memories s.input t.rendered.output s.network ≡ true
    → (n : ℕ) → n ≤ length s.input
    → rendered (run_for (setup_of b c s) t n).output (run_for (setup_of b c s) t n).machine.memories ≡ graphSamplesTo (graph_of b) b.header.network s t.rendered n
unfolding run_for control_done
agree b valid mask c passes s t slots spills fits n h =
    let l = listing_of b mask c.kernel c.steps c.instructions in
    let f = fitting b s.parameters t.rendered.memories s.input t.rendered.output s.network fits in
    let start = cleared (length t.control) (length t.spills) t.rendered.memories in
    let lines : LinesFit (graph_of b).delay_lengths t.rendered.memories = rw (graph_lengths b) (fit b t.rendered.memories valid f.held f.below) in
    let first =
    control_ends l (good_graph b valid) (updates_lined b) (passed l passes) s.parameters start (omega (arith, zeros_length 16))
    (rw (zeros_length (length t.control)) slots) (rw (zeros_length (length t.spills)) spills) lines in
    (samples_agree b valid mask c passes s (running (control_done (setup_of b c s) start) t.rendered.output) first.1 n).0
    ∙ ap (λ (m : Memories). graphSamplesTo (graph_of b) b.header.network s (rendered t.rendered.output m) n) first.0
