-- Each way through the two phases: what their calls ask for, how each ends, and what both leave. Assumes nothing.
use Rattle.std.specs.Prelude.{◌≡◌, Ok, Err, true, ℕ, zero, suc, ◌+◌, ◌-◌, ◌*◌, ◌≤◌, ◌<◌, replicate}
use Rattle.std.proofs.Math.Path.{refl, sym, ap}
use Rattle.std.proofs.Common.{◌∙◌, subst, inl, arith, length-append}
use Rattle.std.proofs.Math.Bool.{false}
use mathlib.Core.List.{List, [], ◌++◌}
use Rattle.std.proofs.Math.ListN.{length, get_or, length-replicate}
use Rattle.std.proofs.Math.Seq.{length-sets}
use Rattle.tables.specs.Tests.{true_false}
use Rattle.tables.specs.Zeros.{zeroed, zeroed_in, zeroed_out, zeroed_length}
use Rattle.tables.specs.Loops.{turns}
use Rattle.answers.specs.declared.Refusal.TheVariants.{RegistersLocked}
use Rattle.plan.specs.declared.Sizes.{Sizes}
use Rattle.plan.specs.declared.Hoisted.{Hoisted}
use Rattle.plan.specs.Nodes.{Flow}
use Rattle.plan.specs.Schedule.{plan_of}
use Rattle.plan.specs.Layout as Plan
use Rattle.plan.specs.Layout.{Updates, needed_at, slots_at, last_at, homes_at, heads_at, chain_at}
use Rattle.plan.specs.Regions.{Region, flags, flags_length}
use Rattle.plan.specs.SourceLaws.{canonical_node}
use Rattle.plan.specs.ControlShare.{flow_in, needed_of, control_count, control_table, Cleared}
use Rattle.plan.specs.Shares.{SampleBegins, SampleShare}
use Rattle.allocate.specs.declared.Frame.{Frame}
use Rattle.allocate.specs.declared.Allocator.{Allocator}
use Rattle.allocate.specs.Actions.{Action}
use Rattle.allocate.specs.ActionWords.{operations_in, step_words, instruction_words}
use Rattle.allocate.specs.State.{Allocated, allocated, all_locked, Setting, State, begin}
use Rattle.allocate.specs.Allocator.{allocate}
use Rattle.allocate.specs.Outcomes.{post_at}
use Rattle.allocate.specs.Layout.{Wide}
use Rattle.allocate.specs.Desk.{Desk, desk, Choice}
use Rattle.allocate.specs.Tasks as Tasks
use Rattle.allocate.specs.Tasks.{Ended, lent, ran_to, ended, outcome_of}
use Rattle.allocate.specs.Planned.{Planned}
use Rattle.allocate.specs.TaskReady.{PhaseFits, ran_to_kept}
use Rattle.allocate.specs.Links.{linked}
use Rattle.allocate.specs.Holds.{Holds}
use Rattle.allocate.specs.HoldsArms.{Done}
use Rattle.allocate.specs.HoldsPhase.{phase_holds, ended_done, ended_not}
use Rattle.compile.specs.declared.Compiled.{Compiled}
use Rattle.compile.specs.Draft.{control_setting, sample_setting, draft_of, compile_plan, compile_flow}
use Rattle.compile.specs.Words.{compiled_of}
use Rattle.compile.specs.PhasesFit.{DraftFits, flow_fits}
use Rattle.compile.specs.Bounds.{operations_le}
use Rattle.compile.specs.PhaseTables.{frame_in, new_allocator, PhaseRegions, PhaseOpens, opens_linked, opens_planned, flow_good, flow_count, flow_states, flow_delays, slots_count, needed_count, control_prior, sample_regions, control_regions, control_needed, control_opens, control_starts, control_asks, sample_opens, sample_starts, sample_asks}
use Rattle.compile.specs.Phases.{Lent, Begun, control_run, ControlDone, ControlEnds, ControlLeft, BothDone, SampleEnds, SampleDone, Ends, counted_of}
use Rattle.compile.specs.Expanded.{flow_compiled, PhasesLeave}

-- ---- Generic

-- a region in a table that has the same words there
region_same : (base : ℕ) (words old new : List ℕ) → Region base words old → length new ≡ length old
    → ((i : ℕ) → i < length words → get_or new (base + i) 0 ≡ get_or old (base + i) 0) → Region base words new
unfolding Region
region_same base words old new r size same = (omega (arith, r.0), λ i h. same i h ∙ r.1 i h)

-- flags that are not set
no_flags : (n i : ℕ) → get_or (flags (replicate n false)) i 0 ≡ 0
no_flags zero i = refl
no_flags (suc n) zero = refl
no_flags (suc n) (suc i) = no_flags n i

-- ---- how a phase ends

-- both layers are done, or both refuse
abbrev Ended-as : Frame → List ℕ → Setting → List ℕ → List ℕ → List Action → ℕ → List ℕ → List ℕ → List ℕ → Ended → Allocated State → Type 0
Ended-as frame nodes e table program prior position w s i r (allocated t) =
    (r.done ≡ true) × Holds frame nodes e table program prior [] position (desk w s i r.allocator) t
Ended-as frame nodes e table program prior position w s i r all_locked = r.done ≡ false

ended_as : (frame : Frame) (nodes : List ℕ) (e : Setting) (table program : List ℕ) (prior : List Action) (position : ℕ) (c : Choice) (x : Allocated State)
    → Done frame nodes e table program prior [] position c x → (w s i : List ℕ) (r : Ended) → ended w s i r ≡ outcome_of c
    → Ended-as frame nodes e table program prior position w s i r x
unfolding outcome_of
ended_as frame nodes e table program prior position c (allocated t) d w s i r q = (
  ap (λ (o : Tasks.Outcome). o.done) q ∙ ended_done c d.0,
  subst (λ (k : Desk). Holds frame nodes e table program prior [] position k t) (sym (ap (λ (o : Tasks.Outcome). o.desk) q)) d.1,
)
ended_as frame nodes e table program prior position c all_locked d w s i r q = ap (λ (o : Tasks.Outcome). o.done) q ∙ ended_not c d

module _ (sizes : Sizes) (nodes updates stores : List ℕ) (output mask : ℕ) where
  abbrev flow : Flow
  flow = flow_in sizes nodes updates stores output

  abbrev l : Tasks.Lent
  l = lent nodes updates stores output

  -- ---- the control phase: from w₀ the plan's share w₁, the first nodes of its sources w₂, the links of its tasks w₃

  module _ (w₀ steps instructions : List ℕ) (b : Begun sizes nodes updates stores output w₀ steps instructions) where
    none_marked : Cleared sizes w₀
    unfolding Region
    none_marked =
        let n : length (flags (replicate sizes.nodes false)) ≡ sizes.nodes = flags_length (replicate sizes.nodes false) ∙ length-replicate sizes.nodes false in
        (omega (arith, n, b.lent.plain.room), λ i h. b.clear (needed_at sizes + i) ∙ sym (no_flags sizes.nodes i))

    -- what the plan asks for
    pub control_plan : Plan.Lent sizes nodes (length w₀) × Updates sizes updates × Updates sizes stores × (output < sizes.nodes) × Cleared sizes w₀
    control_plan = (b.lent.plain, b.lent.held, b.lent.lines, b.lent.inside, none_marked)

    needed_long : length (flags (needed_of flow)) ≡ sizes.nodes
    needed_long = let x = b.lent in needed_count sizes nodes updates stores output (length w₀) x.plain x.held x.lines x.inside x.states x.delays

    slots_long : length (plan_of flow).slots ≡ sizes.nodes
    slots_long = let x = b.lent in slots_count sizes nodes updates stores output (length w₀) x.plain x.held x.lines x.inside x.states x.delays

    abbrev regions_of : List ℕ → Type 0
    regions_of w = PhaseRegions sizes (plan_of flow).slots (plan_of flow).control_tasks (plan_of flow).control_origins w

    regions : regions_of (turns (canonical_node sizes true nodes) (control_table sizes flow w₀) sizes.nodes)
    regions =
        let x = b.lent in
        control_regions sizes nodes updates stores output (length w₀) x.plain x.held x.lines x.inside x.states x.delays w₀ refl
        (λ j h k. b.clear j) (λ k h. b.clear (homes_at sizes + k))

    module _ (slots tasks : ℕ) (w₁ w₂ : List ℕ) (size : length w₂ ≡ length w₀) (h : ◌≡◌ {A = Hoisted} (record { slots = slots; tasks = tasks }) (control_count flow))
        (e₁ : w₁ ≡ control_table sizes flow w₀) (e₂ : w₂ ≡ turns (canonical_node sizes true nodes) w₁ sizes.nodes) where
      abbrev frame : Frame
      frame = frame_in sizes mask slots true

      fixed : slots ≡ (plan_of flow).fixed
      unfolding control_count
      fixed = ap (λ (x : Hoisted). x.slots) h

      count : tasks ≡ length (plan_of flow).control_tasks
      unfolding control_count
      count = ap (λ (x : Hoisted). x.tasks) h

      planned : w₂ ≡ turns (canonical_node sizes true nodes) (control_table sizes flow w₀) sizes.nodes
      planned = e₂ ∙ ap (λ (w : List ℕ). turns (canonical_node sizes true nodes) w sizes.nodes) e₁

      here : regions_of w₂
      here = rw planned regions

      opens : PhaseOpens (frame_in sizes mask (plan_of flow).fixed true) l (control_setting flow (plan_of flow) mask) (plan_of flow).control_tasks w₂
      opens =
          let x = b.lent in
          control_opens sizes nodes updates stores output (length w₀) x.plain x.held x.lines x.inside x.states x.delays mask w₂ steps instructions size here

      -- what linking asks for
      pub control_link : Wide frame w₂ × Planned frame l tasks w₂
      control_link = rw (fixed, count) (opens.wide, opens_planned _ l (control_setting flow (plan_of flow) mask) (plan_of flow).control_tasks w₂ opens)

      module _ (w₃ : List ℕ) (e₃ : w₃ ≡ linked frame l tasks w₂) where
        linked_is : w₃ ≡ linked (frame_in sizes mask (plan_of flow).fixed true) l (length (plan_of flow).control_tasks) w₂
        linked_is = rw (fixed, count) at e₃

        fits : PhaseFits (frame_in sizes mask (plan_of flow).fixed true) l (length (plan_of flow).control_tasks)
            (desk w₃ steps instructions (new_allocator (plan_of flow).fixed 0 0))
        fits =
            let x = b.lent in
            rw linked_is
            (control_asks sizes nodes updates stores output (length w₀) x.plain x.held x.lines x.inside x.states x.delays mask w₂ steps instructions size here
            x.listed x.coded)

        -- what the allocator asks for
        pub control_fit : PhaseFits frame l tasks (desk w₃ steps instructions (new_allocator slots 0 0))
        control_fit = rw (fixed, count) fits

        module _ (w s i : List ℕ) (r : Ended) (same : length w ≡ length w₀)
            (q : ended w s i r ≡ outcome_of (ran_to (frame_in sizes mask (plan_of flow).fixed true) l (desk w₃ steps instructions (new_allocator (plan_of flow).fixed 0 0)) (length (plan_of flow).control_tasks))) where
          -- a word of the plan of both phases is as it was
          kept : (j : ℕ) → j < 4 * sizes.nodes → get_or w j 0 ≡ get_or w₂ j 0
          unfolding outcome_of
          kept j h =
              let k = ran_to_kept _ l (length (plan_of flow).control_tasks) _ fits (length (plan_of flow).control_tasks) (omega arith) in
              let m = opens_linked _ l (control_setting flow (plan_of flow) mask) (plan_of flow).control_tasks w₂ opens in
              ap (λ (o : Tasks.Outcome). get_or o.desk.work j 0) q ∙ (k.1.same j (inl (omega arith)) ∙ (ap (λ (x : List ℕ). get_or x j 0) linked_is ∙ m.same j (inl (omega arith))))

          held_as : Ended-as (frame_in sizes mask (plan_of flow).fixed true) nodes (control_setting flow (plan_of flow) mask) steps instructions []
              (length (plan_of flow).control_tasks) w s i r (control_run flow mask)
          held_as =
              let x = b.lent in
              let start = control_starts sizes nodes updates stores output (length w₀) x.plain x.held x.lines x.inside x.states x.delays mask w₂ steps instructions size here in
              let f : Frame = frame_in sizes mask (plan_of flow).fixed true in
              let k : ℕ = length (plan_of flow).control_tasks in
              let d : Desk = desk (linked f l k w₂) steps instructions (new_allocator (plan_of flow).fixed 0 0) in
              let e : Setting = control_setting flow (plan_of flow) mask in
              ended_as f nodes e steps instructions [] k (ran_to f l d k) (control_run flow mask)
              (phase_holds f l e steps instructions [] (plan_of flow).slots (plan_of flow).control_tasks d start)
              w s i r (rw linked_is at q)

          done : (x : Allocated State) → control_run flow mask ≡ x
              → Ended-as (frame_in sizes mask (plan_of flow).fixed true) nodes (control_setting flow (plan_of flow) mask) steps instructions []
              (length (plan_of flow).control_tasks) w s i r x
              → ControlEnds sizes flow mask steps instructions w s i r
          unfolding compile_flow compile_plan
          done (allocated t) z p = (
            (λ _.
                record {
                  state = t;
                  gives = z;
                  slots = p.1.slots;
                  most = p.1.most;
                  written = p.1.written;
                  needed =
                      region_same (needed_at sizes) (flags (needed_of flow)) w₂ w
                      (let y = b.lent in
                      rw planned (control_needed sizes nodes updates stores output (length w₀) y.plain y.held y.lines y.inside y.states y.delays w₀ refl (λ k h. b.clear (homes_at sizes + k))))
                      (same ∙ sym size) (λ i h. kept (needed_at sizes + i) (omega (arith, needed_long)));
                  slotted = region_same (slots_at sizes) (plan_of flow).slots w₂ w here.slots (same ∙ sym size) (λ i h. kept (slots_at sizes + i) (omega (arith, slots_long)));
                }),
            (λ f. true_false (sym p.0 ∙ f)),
          )
          done all_locked z p = ((λ f. true_false (sym f ∙ p)), (λ _. rw z))

        -- HOW THE CONTROL PHASE ENDS
        pub control_end : (w s i : List ℕ) (r : Ended) → length w ≡ length w₀
            → ended w s i r ≡ outcome_of (ran_to frame l (desk w₃ steps instructions (new_allocator slots 0 0)) tasks)
            → ControlEnds sizes flow mask steps instructions w s i r
        control_end w s i r same q =
            let p = rw (fixed, count) at q in
            done w s i r same p (control_run flow mask) refl (held_as w s i r same p)

        -- .. where all is done, in tables under other names; and where a task is refused
        pub control_done : (w s i x y z : List ℕ) (a : Allocator) → ended w s i (record { done = true; allocator = a })
            ≡ outcome_of (ran_to frame l (desk w₃ steps instructions (new_allocator slots 0 0)) tasks)
            → length w ≡ length w₀ → x ≡ w → y ≡ s → z ≡ i → ControlDone sizes flow mask steps instructions x y z a
        control_done w s i x y z a q same p e f = rw (p, e, f) ((control_end w s i (record { done = true; allocator = a }) same q).0 refl)

        pub control_locked : (w s i : List ℕ) (a : Allocator) → ended w s i (record { done = false; allocator = a })
            ≡ outcome_of (ran_to frame l (desk w₃ steps instructions (new_allocator slots 0 0)) tasks)
            → length w ≡ length w₀ → compile_flow flow mask ≡ all_locked
        control_locked w s i a q same = (control_end w s i (record { done = false; allocator = a }) same q).1 refl

  -- ---- the sample phase: from w₀ all but the plan of both is zeroed in w₁, the plan's share is w₂, the links of its tasks w₃

  module _ (w₀ steps instructions : List ℕ) (before : Allocator) (x : Lent sizes nodes updates stores output (length w₀) (length steps) (length instructions))
      (c : ControlLeft sizes flow mask w₀ steps instructions before) (w₁ : List ℕ) (e₁ : w₁ ≡ zeroed (5 * sizes.nodes) (length w₀ - 5 * sizes.nodes) w₀) where
    room : 18 * sizes.nodes + 5 * sizes.states + 5 * sizes.delays + 262 ≤ length w₀
    room = x.plain.room

    cleared : (j : ℕ) → 5 * sizes.nodes ≤ j → j < length w₀ → get_or w₁ j 0 ≡ 0
    cleared j h k = rw e₁ (zeroed_in (5 * sizes.nodes) (length w₀ - 5 * sizes.nodes) w₀ j h (omega arith))

    front : (j : ℕ) → j < 5 * sizes.nodes → get_or w₁ j 0 ≡ get_or w₀ j 0
    front j h = rw e₁ (zeroed_out (5 * sizes.nodes) (length w₀ - 5 * sizes.nodes) w₀ j (inl h))

    size₁ : length w₁ ≡ length w₀
    size₁ = ap length e₁ ∙ zeroed_length (5 * sizes.nodes) (length w₀ - 5 * sizes.nodes) w₀

    needed_few : length (flags (needed_of flow)) ≡ sizes.nodes
    needed_few = needed_count sizes nodes updates stores output (length w₀) x.plain x.held x.lines x.inside x.states x.delays

    slots_few : length (plan_of flow).slots ≡ sizes.nodes
    slots_few = slots_count sizes nodes updates stores output (length w₀) x.plain x.held x.lines x.inside x.states x.delays

    begins : SampleBegins sizes flow w₁
    begins =
        record {
          needed = region_same (needed_at sizes) (flags (needed_of flow)) w₀ w₁ c.done.needed size₁ (λ i h. front (needed_at sizes + i) (omega (arith, needed_few)));
          slots = region_same (slots_at sizes) (plan_of flow).slots w₀ w₁ c.done.slotted size₁ (λ i h. front (slots_at sizes + i) (omega (arith, slots_few)));
          homes = λ k h. cleared (homes_at sizes + k) (omega arith) (omega (arith, room));
          lasts = λ k h. cleared (last_at sizes + k) (omega arith) (omega (arith, room));
          heads = λ a h. cleared (heads_at sizes + a) (omega arith) (omega (arith, room));
          chains = λ w h. cleared (chain_at sizes + w) (omega arith) (omega (arith, room));
        }

    -- what the plan asks for
    pub sample_plan : Plan.Lent sizes nodes (length w₁) × Updates sizes updates × Updates sizes stores × (length updates ≡ sizes.states) × (length stores ≡ sizes.delays)
        × (output < sizes.nodes) × SampleBegins sizes flow w₁
    sample_plan = (rw size₁ x.plain, x.held, x.lines, x.states, x.delays, x.inside, begins)

    module _ (tasks : ℕ) (w₂ : List ℕ) (count : tasks ≡ length (plan_of flow).sample_tasks) (share : SampleShare sizes flow w₁ w₂) where
      abbrev sample_frame : Frame
      sample_frame = frame_in sizes mask 0 false

      size₂ : length w₂ ≡ length w₀
      size₂ = share.size ∙ size₁

      sampled : PhaseRegions sizes (plan_of flow).slots (plan_of flow).sample_tasks (plan_of flow).sample_origins w₂
      sampled =
          sample_regions sizes nodes updates stores output (length w₀) x.plain x.held x.lines x.inside x.states x.delays w₁ w₂ begins
          (λ j h k. cleared j h (omega (arith, room))) share

      -- what linking asks for
      pub sample_link : Wide sample_frame w₂ × Planned sample_frame l tasks w₂
      sample_link =
          let o = sample_opens sizes nodes updates stores output (length w₀) x.plain x.held x.lines x.inside x.states x.delays mask w₂ steps instructions size₂ sampled in
          rw count (o.wide, opens_planned _ l (sample_setting flow (plan_of flow) mask) (plan_of flow).sample_tasks w₂ o)

      module _ (w₃ : List ℕ) (e₃ : w₃ ≡ linked sample_frame l tasks w₂) where
        sample_linked : w₃ ≡ linked sample_frame l (length (plan_of flow).sample_tasks) w₂
        sample_linked = rw count at e₃

        -- what the allocator asks for
        pub sample_fit : PhaseFits sample_frame l tasks (desk w₃ steps instructions (new_allocator 0 before.steps before.instructions))
        sample_fit =
            let d = c.done in
            let s : length steps ≡ length c.table = ap length d.written.words ∙ length-sets c.table 0 (step_words 0 d.state.steps) in
            let i : length instructions ≡ length c.program = ap length d.written.operations ∙ length-sets c.program 0 (instruction_words (operations_in d.state.steps)) in
            rw (count, sample_linked)
            (sample_asks sizes nodes updates stores output (length w₀) x.plain x.held x.lines x.inside x.states x.delays mask w₂ c.table c.program size₂ sampled
            d.state.steps steps instructions before.steps before.instructions d.written
            (control_prior sizes nodes updates stores output (length w₀) x.plain x.held x.lines x.inside x.states x.delays mask d.state d.gives)
            (omega (arith, s, x.listed)) (omega (arith, i, x.coded)))

        module _ (w s i : List ℕ) (r : Ended)
            (q : ended w s i r ≡ outcome_of (ran_to sample_frame l (desk w₃ steps instructions (new_allocator 0 before.steps before.instructions)) tasks))
            (table program : List ℕ) (d : ControlDone sizes flow mask table program w₀ steps instructions before) where
          abbrev run : Allocated State
          run = allocate (sample_setting flow (plan_of flow) mask) (plan_of flow).sample_tasks (begin (sample_setting flow (plan_of flow) mask))

          sample_as : Ended-as sample_frame nodes (sample_setting flow (plan_of flow) mask) table program d.state.steps (length (plan_of flow).sample_tasks) w s i r run
          sample_as =
              let start = sample_starts sizes nodes updates stores output (length w₀) x.plain x.held x.lines x.inside x.states x.delays mask w₂ table program size₂ sampled
              d.state.steps steps instructions before.steps before.instructions d.written in
              let k : ℕ = length (plan_of flow).sample_tasks in
              let v : Desk = desk (linked sample_frame l k w₂) steps instructions (new_allocator 0 before.steps before.instructions) in
              let e : Setting = sample_setting flow (plan_of flow) mask in
              ended_as sample_frame nodes e table program d.state.steps k (ran_to sample_frame l v k) run
              (phase_holds sample_frame l e table program d.state.steps [] (plan_of flow).sample_tasks v start)
              w s i r (rw (count, sample_linked) at q)

          both : (y : Allocated State) → run ≡ y
              → Ended-as sample_frame nodes (sample_setting flow (plan_of flow) mask) table program d.state.steps (length (plan_of flow).sample_tasks) w s i r y
              → (r.done ≡ true → BothDone flow mask table program before s i r.allocator) × (r.done ≡ false → compile_flow flow mask ≡ all_locked)
          unfolding compile_flow compile_plan draft_of
          both (allocated t) z p = (
            (λ _.
                record {
                  draft = draft_of d.state t;
                  gives = rw (d.gives, z);
                  control = d.written.count;
                  slots = d.slots;
                  spills = p.1.slots;
                  most = rw (d.most, p.1.most);
                  written = p.1.written;
                }),
            (λ f. true_false (sym p.0 ∙ f)),
          )
          both all_locked z p = ((λ f. true_false (sym f ∙ p)), (λ _. rw (d.gives, z)))

        -- HOW THE SAMPLE PHASE ENDS
        pub sample_end : (w s i : List ℕ) (r : Ended)
            → ended w s i r ≡ outcome_of (ran_to sample_frame l (desk w₃ steps instructions (new_allocator 0 before.steps before.instructions)) tasks)
            → SampleEnds sizes flow mask w₀ steps instructions before s i r
        sample_end w s i r q table program d = both w s i r q table program d (run w s i r q table program d) refl (sample_as w s i r q table program d)

        -- .. where all is done, in tables under other names; and where a task is refused
        pub sample_done : (w s i y z : List ℕ) (a : Allocator) → ended w s i (record { done = true; allocator = a })
            ≡ outcome_of (ran_to sample_frame l (desk w₃ steps instructions (new_allocator 0 before.steps before.instructions)) tasks)
            → y ≡ s → z ≡ i → SampleDone sizes flow mask w₀ steps instructions before y z a
        sample_done w s i y z a q e f = rw (e, f) (λ table program d. (sample_end w s i (record { done = true; allocator = a }) q table program d).0 refl)

        pub sample_locked : (w s i : List ℕ) (a : Allocator) → ended w s i (record { done = false; allocator = a })
            ≡ outcome_of (ran_to sample_frame l (desk w₃ steps instructions (new_allocator 0 before.steps before.instructions)) tasks)
            → compile_flow flow mask ≡ all_locked
        sample_locked w s i a q = (sample_end w s i (record { done = false; allocator = a }) q c.table c.program c.done).1 refl

-- ---- both phases

-- 14
pub phases_locked : (f : Flow) (mask : ℕ) (table program s i : List ℕ) → compile_flow f mask ≡ all_locked → PhasesLeave (flow_compiled f mask) table program (Err RegistersLocked) s i
unfolding flow_compiled
phases_locked f mask table program s i q = rw q refl

module _ (sizes : Sizes) (nodes updates stores : List ℕ) (output mask work stepRoom instructionRoom : ℕ)
    (x : Lent sizes nodes updates stores output work stepRoom instructionRoom) (table program : List ℕ) (before after : Allocator) (s i : List ℕ)
    (d : BothDone (flow_in sizes nodes updates stores output) mask table program before s i after) where
  total : after.steps ≡ length d.draft.control_steps + length d.draft.sample_steps
  total = d.written.count ∙ length-append d.draft.control_steps d.draft.sample_steps

  -- the counts are words
  pub counted_ends : Ends before after
  counted_ends =
      let f = post_at (DraftFits (flow_in sizes nodes updates stores output) mask) (compile_flow (flow_in sizes nodes updates stores output) mask) d.draft
      (flow_fits (flow_in sizes nodes updates stores output) (flow_good sizes nodes updates stores output work x.plain x.held x.lines x.inside) mask) d.gives in
      let n = flow_count sizes nodes updates stores output work x.plain x.held x.lines x.inside x.states x.delays in
      let u = flow_states sizes nodes updates stores output work x.plain x.held x.lines x.inside x.states x.delays in
      let v = flow_delays sizes nodes updates stores output work x.plain x.held x.lines x.inside x.states x.delays in
      let most : after.steps < 4294967296 = omega (arith, total, f.steps, n, u, v, x.plain.small, x.plain.states, x.plain.delays) in
      (omega (arith, total, d.control), (most, omega (arith, d.written.number, d.written.count, operations_le (d.draft.control_steps ++ d.draft.sample_steps))))

  -- THE KERNEL
  pub phases_done : (k : Compiled) → k ≡ counted_of before after → PhasesLeave (flow_compiled (flow_in sizes nodes updates stores output) mask) table program (Ok k) s i
  unfolding flow_compiled compiled_of counted_of
  phases_done k e =
      let z : after.steps - before.steps ≡ length d.draft.sample_steps = omega (arith, total, d.control) in
      let q : counted_of before after ≡ record { kernel = (compiled_of d.draft).kernel; registers = (compiled_of d.draft).registers } =
      λ j. record {
        kernel =
            record { control = d.control j; sample = z j; instructions = d.written.number j; slots = d.slots j; spills = d.spills j };
        registers = d.most j;
      } in
      rw d.gives (ap Ok (e ∙ q), (d.written.words, d.written.operations))
