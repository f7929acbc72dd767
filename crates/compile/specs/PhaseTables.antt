-- What the allocator asks for at each phase's start, from what the plan leaves: `control_starts`, `sample_starts`; and that the tables have room for all that
-- the phases emit: `control_asks`, `sample_asks`. Assumes nothing.
use Rattle.std.specs.Prelude.{◌≡◌, ◌⊎◌, Bool, cond, ◌&&◌, replicate, T, ltb, eqb}
use Rattle.std.proofs.Math.Path.{refl}
use Rattle.std.proofs.Common.{sym, ap, ◌∙◌, ext_get_or, lt-ltb, le-ltb}
use Rattle.std.proofs.Math.Logic.{inl, inr}
use Rattle.std.proofs.Math.Bool.{true, false, not}
use mathlib.Core.List.{List, [], ◌∷◌, ◌++◌, map, append_assoc}
use Prim.Native.Nat.{ℕ, zero, suc, ◌+◌, ◌-◌, ◌*◌, ◌≤◌, ◌<◌}
use native.Mathlib.Omega.{arith}
use Rattle.std.proofs.Math.Decide.{dec_lt}
use Rattle.std.proofs.Math.ListN.{length, get_or, length-map}
use Rattle.std.proofs.lemmas.List.{length-replicate}
use Rattle.std.proofs.Math.Seq.{length-sets}
use Rattle.std.proofs.Math.Dec.{eqb_refl}
use Rattle.tables.specs.Parts.{part, part_at, length_part}
use Rattle.tables.specs.Zeros.{zeros_at}
use Rattle.tables.specs.Loops.{turns}
use Rattle.block.specs.Block.{code, first, second}
use Rattle.expand.specs.Good.{GoodNode}
use Rattle.plan.specs.declared.Sizes.{Sizes}
use Rattle.plan.specs.Lists.{member, filter, any_of, count_up, count, is_some}
use Rattle.plan.specs.ListLaws.{count_up_length, count_le}
use Rattle.plan.specs.Nodes.{Node, input_node, network_node, constant_node, parameter_node, state_node, delay_node, binary_node, unary_node, Flow, is_computed, node_at, roots}
use Rattle.plan.specs.TestLaws.{or_first, or_second}
use Rattle.plan.specs.Flow.{node_in, flow_of}
use Rattle.plan.specs.FlowLaws.{IsNode, good_flow}
use Rattle.plan.specs.Hoist.{needed_by, mark_all}
use Rattle.plan.specs.Reached.{length_mark_all, length_sweep}
use Rattle.plan.specs.Origins.{Origin, has_origin, control_origin, canonical}
use Rattle.plan.specs.Origins as Origins
use Rattle.plan.specs.OriginLaws.{number_lt, number_length, sample_at, sample_none, sample_length}
use Rattle.plan.specs.Schedule.{Task, compute_task, keep_task, store_task, Write, writes_from, writes, tasks_of, waits, schedule_from, schedule, control_task, control_tasks, plan_of}
use Rattle.plan.specs.Planned.{GoodFlow, AllWrites, all_filter, all_append, slots, homes, homes_length, ss, comps, comps_in, ccomps, ccomps_in}
use Rattle.plan.specs.Layout.{Updates, counts_in, task_word, needed_at, slots_at, reached_at, tasks_at, homes_at}
use Rattle.plan.specs.Layout as Plan
use Rattle.plan.specs.Regions.{written, written_length, written_out, Region, region_at, region_room, region_written, region_kept, flag, flags, flags_length}
use Rattle.plan.specs.Words.{nodes_to, nodes_length, node_at_lem, node_words}
use Rattle.plan.specs.HoistLaws.{invariant_length}
use Rattle.plan.specs.SourceLaws.{canonical_node}
use Rattle.plan.specs.ControlShare.{flow_in, invariant_of, needed_of, hoisted_of, reached_of, control_table}
use Rattle.plan.specs.Shares.{Firsts, NoHomes, SampleBegins, SampleShare}
use Rattle.plan.specs.FirstLaws.{control_firsts, canonical_length, canonical_beside}
use Rattle.allocate.specs.declared.Frame.{Frame}
use Rattle.allocate.specs.declared.Allocator.{Allocator}
use Rattle.allocate.specs.Actions.{Action}
use Rattle.allocate.specs.State.{allocated, Setting, State, begin}
use Rattle.allocate.specs.Allocator.{home_code, allocate}
use Rattle.allocate.specs.Registers as Registers
use Rattle.allocate.specs.ActionWords.{operations_in, step_words, instruction_words}
use Rattle.allocate.specs.Outcomes.{post_at}
use Rattle.allocate.specs.RunLaws.{Ran, costs}
use Rattle.allocate.specs.Layout.{Wide, slot_at, canonical_at, next_at, task_at, home_at}
use Rattle.allocate.specs.Desk.{desk}
use Rattle.allocate.specs.Tasks.{Lent, lent, home_of, target_of}
use Rattle.allocate.specs.Planned.{Planned}
use Rattle.allocate.specs.TaskReady.{PhaseFits}
use Rattle.allocate.specs.Links.{linked}
use Rattle.allocate.specs.Holds.{Phase, Written}
use Rattle.allocate.specs.HoldsBegin.{Begins}
use Rattle.allocate.specs.HoldsSettings.{Regions, control_phase, sample_phase}
use Rattle.allocate.specs.HoldsLinks.{Named, Linked, links_hold}
use Rattle.allocate.specs.HoldsNamed.{TaskFacts, AllFacts, named_is}
use Rattle.allocate.specs.HoldsNamed as Named
use Rattle.allocate.specs.HoldsPhase.{PhaseBegins, planned_is, phase_starts, phase_asks, written_none}
use Rattle.allocate.specs.Scheduled.{number_ok, sample_tasks_ok, control_tasks_ok}
use Rattle.compile.specs.Draft.{usable, control_setting, sample_setting}
use Rattle.compile.specs.Call.{most_steps}
use Rattle.compile.specs.PhasesFit.{control_ran, control_cost, sample_cost, phases, phases_but_one}

-- ---- a phase's frame and allocator

-- what stays the same in a phase
abbrev pub frame_in : Sizes → ℕ → ℕ → Bool → Frame
frame_in sizes mask fixed control =
    record { nodes = sizes.nodes; states = sizes.states; delays = sizes.delays; mask = mask; fixed = fixed; control = control }

-- codegen.rs: `Allocator::new`: no register is held, the hoisted values' own slots are in use, and so many steps and instructions are written
abbrev pub new_allocator : ℕ → ℕ → ℕ → Allocator
new_allocator fixed steps instructions =
    record { owner = replicate 16 0; slots = fixed; freed = 0; steps = steps; instructions = instructions; most = 0 }

-- no next read, no register and no slot of any node
abbrev pub Unheld : Sizes → List ℕ → Type 0
Unheld sizes table = (j : ℕ) → 5 * sizes.nodes ≤ j → j < 8 * sizes.nodes → get_or table j 0 ≡ 0

-- what the plan leaves for a phase: nothing is held, the control slots, the words of the tasks, and the first nodes of the sources
pub record PhaseRegions (sizes : Sizes) (own : List ℕ) (planned : List Task) (origins : List Origin) (work : List ℕ) : Type 0 where
  pub unheld : Unheld sizes work
  pub slots : Region (slots_at sizes) own work
  pub tasks : Region (tasks_at sizes) (map (task_word sizes) planned) work
  pub firsts : Firsts sizes origins work

-- ---- Generic: regions as parts

-- a region is a part
region_part : (b n : ℕ) (words table : List ℕ) → Region b words table → length words ≡ n → part (b + 0) n table ≡ words
region_part b n words table r e =
    let z : b + 0 ≡ b = omega arith in
    let room : b + n ≤ length table = omega (arith, region_room b words table r) in
    let size : length (part b n table) ≡ n = length_part b n table room in
    rw z (ext_get_or 0 (part b n table) words (size ∙ sym e)
    (λ i h. let q : i < n = rw size at h in part_at b n table i q ∙ region_at b words table (b + i) i r refl (rw e q)))

-- a part of zeroes
zero_part : (b n : ℕ) (table : List ℕ) → b + n ≤ length table → ((j : ℕ) → b ≤ j → j < b + n → get_or table j 0 ≡ 0) → part (b + 0) n table ≡ replicate n 0
zero_part b n table room none =
    let z : b + 0 ≡ b = omega arith in
    let size : length (part b n table) ≡ n = length_part b n table room in
    rw z (ext_get_or 0 (part b n table) (replicate n 0) (size ∙ sym (length-replicate {A = ℕ} n 0))
    (λ i h. let q : i < n = rw size at h in part_at b n table i q ∙ (none (b + i) (omega arith) (omega arith) ∙ sym (zeros_at n i))))

-- a flag is a word that is not 0
some_flags : (marks : List Bool) → map is_some (flags marks) ≡ marks
some_flags [] = refl
some_flags (true ∷ marks) = ap (λ (l : List Bool). true ∷ l) (some_flags marks)
some_flags (false ∷ marks) = ap (λ (l : List Bool). false ∷ l) (some_flags marks)

-- ---- before a phase's tasks are linked

-- what the tables hold then, as the allocator's first layer says it
pub record PhaseOpens (frame : Frame) (l : Lent) (e : Setting) (tasks : List Task) (work : List ℕ) : Type 0 where
  pub wide : Wide frame work
  pub phase : Phase frame l.nodes e work
  pub named : Named frame l e work 0 tasks
  pub none : part (next_at frame 0) frame.nodes work ≡ replicate frame.nodes 0
  pub few : length tasks ≤ 2 * frame.nodes + frame.states + frame.delays + 1
  pub sizes : (3 * frame.nodes ≤ length l.nodes) × ((frame.states ≤ length l.updates) × (frame.delays ≤ length l.stores))

module _ (frame : Frame) (l : Lent) (e : Setting) (tasks : List Task) (work : List ℕ) (o : PhaseOpens frame l e tasks work) where
  -- what linking leaves
  pub opens_linked : Linked frame l e tasks work (linked frame l (length tasks) work)
  opens_linked = links_hold frame l e work tasks o.wide o.phase o.named o.few o.none

  -- what linking asks for: it leaves the plan, so the plan's words are as they are afterwards
  pub opens_planned : Planned frame l (length tasks) work
  unfolding home_of
  opens_planned =
      let k = opens_linked in
      let few = o.few in
      let q = planned_is frame l e (linked frame l (length tasks) work) k.phase tasks k.tasked few o.sizes in
      record {
        canonical = λ i h. rw (k.same (canonical_at frame i) (inl (omega arith))) at (q.canonical i h);
        homes = λ memory h.
            rw (k.same (home_at frame (cond (ltb memory (frame.states + frame.delays)) (258 + memory) 0)) (inr (inr (omega arith)))) at (q.homes memory h);
        few = few;
        tasks = λ p h. rw (k.same (task_at frame p) (inr (inl (omega arith, omega arith)))) at (q.tasks p h);
        inside = λ p h. rw (k.same (task_at frame p) (inr (inl (omega arith, omega arith)))) at (q.inside p h);
        keeps = λ p i h g z.
            rw (k.same (slot_at frame i) (inl (omega arith))) at (q.keeps p i h g (k.same (task_at frame p) (inr (inl (omega arith, omega arith))) ∙ z));
      }

-- ---- both phases

module _ (sizes : Sizes) (mask fixed : ℕ) (control : Bool) (table : List ℕ) where
  abbrev frame : Frame
  frame = frame_in sizes mask fixed control

  -- the homes of what the stores overwrite
  homes_are : (origins : List Origin) → Firsts sizes origins table → (memory : ℕ) → memory ≤ sizes.states + sizes.delays
      → home_of frame table memory ≡ Origins.home_of origins (home_code (target_of frame memory).code) (target_of frame memory).index
  unfolding home_of target_of
  homes_are origins f memory h = go (dec_lt memory sizes.states) (dec_lt memory (sizes.states + sizes.delays))
    where
      at : (j k w : ℕ) → get_or table j 0 ≡ w → k ≡ j → get_or table k 0 ≡ w
      at j k w e q = rw q e

      go : Dec (memory < sizes.states) → Dec (memory < sizes.states + sizes.delays)
          → get_or table (home_at frame (cond (ltb memory (sizes.states + sizes.delays)) (258 + memory) 0)) 0 ≡ Origins.home_of origins (home_code (target_of frame memory).code) (target_of frame memory).index
      go (yes p) d =
          rw (lt-ltb memory (sizes.states + sizes.delays) (omega arith), lt-ltb memory sizes.states p)
          (at (homes_at sizes + (258 + memory)) (home_at frame (258 + memory)) _ (f.states memory p) (omega arith))
      go (no p) (yes q) =
          rw (lt-ltb memory (sizes.states + sizes.delays) q, le-ltb memory sizes.states (omega arith), lt-ltb (memory - sizes.states) sizes.delays (omega arith))
          (at (homes_at sizes + (258 + sizes.states + (memory - sizes.states))) (home_at frame (258 + memory)) _ (f.delays (memory - sizes.states) (omega arith)) (omega arith))
      go (no p) (no q) =
          rw (le-ltb memory (sizes.states + sizes.delays) (omega arith), le-ltb memory sizes.states (omega arith), le-ltb (memory - sizes.states) sizes.delays (omega arith))
          (at (homes_at sizes) (home_at frame 0) _ f.audio (omega arith))

  -- the allocator's regions are cleared, and what has an origin is fresh
  begins_are : Plan.Room sizes (length table) → 1 ≤ sizes.nodes → (e : Setting) → length e.origins ≡ sizes.nodes → Firsts sizes e.origins table → Unheld sizes table
      → (steps instructions : List ℕ) (k m : ℕ) → Begins frame e (desk table steps instructions (new_allocator fixed k m))
  begins_are room some e long f none steps instructions k m =
      let n : length (flags (map has_origin e.origins)) ≡ sizes.nodes = length-map (map has_origin e.origins) flag ∙ (length-map e.origins has_origin ∙ long) in
      record {
        wide = record { some = some; small = room.small; states = room.states; delays = room.delays; wide = room.room };
        holders = zero_part (6 * sizes.nodes) sizes.nodes table (omega (arith, room.room)) (λ j h l. none j (omega arith) (omega arith));
        spilleds = zero_part (7 * sizes.nodes) sizes.nodes table (omega (arith, room.room)) (λ j h l. none j (omega arith) (omega arith));
        freshes =
            ap (map is_some) (region_part (8 * sizes.nodes) sizes.nodes (flags (map has_origin e.origins)) table f.freshes n) ∙ some_flags (map has_origin e.origins);
        owner = refl;
        freed = refl;
        slots = refl;
        most = refl;
      }

  -- no node has a next read
  no_next : Plan.Room sizes (length table) → Unheld sizes table → part (next_at frame 0) sizes.nodes table ≡ replicate sizes.nodes 0
  no_next room none = zero_part (5 * sizes.nodes) sizes.nodes table (omega (arith, room.room)) (λ j h l. none j (omega arith) (omega arith))

  -- the usable registers
  usable_are : usable mask ≡ filter (Registers.usable_bit mask) (count_up 0 16)
  unfolding usable Registers.usable_bit
  usable_are = refl

  -- the plan's regions say what the setting says
  regions_are : (nodes : List ℕ) (e : Setting) → e.nodes ≡ nodes_to nodes sizes.nodes → e.registers ≡ usable mask → e.in_control ≡ control → e.fixed ≡ fixed
      → Firsts sizes e.origins table → Regions frame nodes e table
  regions_are nodes e n r c k f =
      let size : length (map (canonical e.origins) (count_up 0 sizes.nodes)) ≡ sizes.nodes =
      length-map (count_up 0 sizes.nodes) (canonical e.origins) ∙ count_up_length 0 sizes.nodes in
      record {
        nodes_are = n;
        registers = r ∙ usable_are;
        control = c;
        fixed = k;
        firsts = region_part (4 * sizes.nodes) sizes.nodes (map (canonical e.origins) (count_up 0 sizes.nodes)) table f.canonicals size;
        homes = homes_are e.origins f;
      }

  -- a task's word is the same in the plan and in the allocator
  word_is : (task : Task) → task_word sizes task ≡ Named.task_word frame task
  unfolding task_word
  word_is (compute_task n) = refl
  word_is (keep_task slot n) = refl
  word_is (store_task c i n) = refl

  words_are : (tasks : List Task) → map (task_word sizes) tasks ≡ map (Named.task_word frame) tasks
  words_are [] = refl
  words_are (task ∷ tasks) = rw (word_is task, words_are tasks)

  -- the words of the tasks say the tasks
  tasks_named : (l : Lent) (e : Setting) (tasks : List Task) → Region (tasks_at sizes) (map (task_word sizes) tasks) table → AllFacts frame l e table tasks
      → Named frame l e table 0 tasks
  tasks_named l e tasks r facts =
      named_is frame l e table tasks 0 facts (λ i h.
      let z : 0 + i ≡ i = omega arith in
      rw z
      (region_at (tasks_at sizes) (map (task_word sizes) tasks) table (task_at frame i) i r refl (rw (length-map tasks (task_word sizes)) h)
      ∙ ap (λ (x : List ℕ). get_or x i 0) (words_are tasks)))

  -- ---- what the plan says of its tasks

  module _ (l : Lent) (e : Setting) where
    abbrev Facts : List Task → Type 0
    Facts tasks = AllFacts frame l e table tasks

    facts_append : (xs ys : List Task) → Facts xs → Facts ys → Facts (xs ++ ys)
    facts_append [] ys f g = g
    facts_append (x ∷ xs) ys f g = (f.0, facts_append xs ys f.1 g)

    -- the control phase's
    control_facts : (home computations : List ℕ) → ((n : ℕ) → T (member n computations) → TaskFacts frame l e table (compute_task n))
        → ((n slot : ℕ) → n < sizes.nodes → get_or home n 0 ≡ suc slot → TaskFacts frame l e table (keep_task slot n)) → Facts (control_tasks home computations)
    control_facts home [] c k = tt
    control_facts home (n ∷ rest) c k =
        let here = c n (or_first (eqb n n) (member n rest) (eqb_refl n)) in
        facts_append (control_task n (get_or home n 0)) (control_tasks home rest) (go (get_or home n 0) refl here)
        (control_facts home rest (λ m t. c m (or_second (eqb m n) (member m rest) t)) k)
      where
        go : (h : ℕ) → get_or home n 0 ≡ h → TaskFacts frame l e table (compute_task n) → Facts (control_task n h)
        go zero q f = (f, tt)
        go (suc slot) q f = (f, (k n slot f.0 q, tt))

    -- the writes'
    abbrev WriteFacts : Write → Type 0
    WriteFacts w = TaskFacts frame l e table (store_task w.code w.index w.value)

    writes_facts : (ws : List Write) → AllWrites WriteFacts ws → Facts (tasks_of ws)
    writes_facts [] a = tt
    writes_facts (w ∷ ws) a = (a.0, writes_facts ws a.1)

    -- the sample phase's
    from_facts : (ns : List Node) (os : List Origin) (ws : List Write) → AllWrites WriteFacts ws → (rest : List ℕ)
        → ((n : ℕ) → T (member n rest) → TaskFacts frame l e table (compute_task n)) → Facts (schedule_from ns os ws rest)
    unfolding schedule_from
    from_facts ns os ws a [] c = tt
    from_facts ns os ws a (n ∷ rest) c = (
      c n (or_first (eqb n n) (member n rest) (eqb_refl n)),
      facts_append (tasks_of (filter (λ w. waits ns os w n && not (any_of (waits ns os w) rest)) ws)) (schedule_from ns os ws rest)
          (writes_facts (filter (λ w. waits ns os w n && not (any_of (waits ns os w) rest)) ws)
          (all_filter WriteFacts WriteFacts (λ w. waits ns os w n && not (any_of (waits ns os w) rest)) ws a (λ w f q. f)))
          (from_facts ns os ws a rest (λ m t. c m (or_second (eqb m n) (member m rest) t))),
    )

    schedule_facts : (ns : List Node) (os : List Origin) (ws : List Write) (computations : List ℕ) (out : ℕ) → AllWrites WriteFacts ws
        → ((n : ℕ) → T (member n computations) → TaskFacts frame l e table (compute_task n)) → TaskFacts frame l e table (store_task 12 0 out)
        → Facts (schedule ns os ws computations out)
    unfolding schedule
    schedule_facts ns os ws computations out a c o =
        facts_append (tasks_of (filter (λ w. not (any_of (waits ns os w) computations)) ws)) (schedule_from ns os ws computations ++ (store_task 12 0 out ∷ []))
        (writes_facts (filter (λ w. not (any_of (waits ns os w) computations)) ws)
        (all_filter WriteFacts WriteFacts (λ w. not (any_of (waits ns os w) computations)) ws a (λ w f q. f)))
        (facts_append (schedule_from ns os ws computations) (store_task 12 0 out ∷ []) (from_facts ns os ws a computations c) (o, tt))

-- the writes of a table of updates
writes_all : (P : Write → Type 0) (c k : ℕ) (us : List ℕ)
    → ((i n : ℕ) → i < length us → get_or us i 0 ≡ suc n → P (record { code = c; index = k + i; value = n })) → AllWrites P (writes_from c k us)
writes_all P c k [] h = tt
writes_all P c k (zero ∷ us) h = writes_all P c (suc k) us (λ i n l q. let z : k + suc i ≡ suc k + i = omega arith in rw z at (h (suc i) n (omega arith) q))
writes_all P c k (suc n ∷ us) h = (
  let z : k + 0 ≡ k = omega arith in rw z at (h 0 n (omega arith) refl),
  writes_all P c (suc k) us (λ i m l q. let z : k + suc i ≡ suc k + i = omega arith in rw z at (h (suc i) m (omega arith) q)),
)

-- the operands of a good node that is computed are nodes
operands_below : (sizes : Sizes) (nodes : List ℕ) (words : ℕ) → Plan.Lent sizes nodes words → (n : ℕ) → n < sizes.nodes → T (is_computed (node_in nodes n))
    → (first nodes n < sizes.nodes) × (code nodes n < 11 → second nodes n < sizes.nodes)
operands_below sizes nodes words lent n h t =
    go (node_in nodes n) (code nodes n) (first nodes n) (second nodes n) (node_words sizes nodes words lent n h) (lent.good n h) t
  where
    go : (x : Node) (c a d : ℕ) → IsNode x c a d → GoodNode (counts_in sizes) n c a d → T (is_computed x) → (a < sizes.nodes) × (c < 11 → d < sizes.nodes)
    go input_node c a d i g u = absurd u
    go network_node c a d i g u = absurd u
    go (constant_node w) c a d i g u = absurd u
    go (parameter_node k) c a d i g u = absurd u
    go (state_node k) c a d i g u = absurd u
    go (delay_node k) c a d i g u = absurd u
    go (binary_node k x y) c a d i g u = let q = rw (i.0, i.3) at g in (omega (arith, q.0), λ l. omega (arith, q.1))
    go (unary_node k x) c a d i g u = let q = rw (i.0, i.3) at g in (omega (arith, q.0), λ l. omega (arith, i.2))

-- ---- how many tasks

-- two a computation of the control phase
control_count : (home computations : List ℕ) → length (control_tasks home computations) ≤ 2 * length computations
control_count home [] = omega arith
control_count home (n ∷ rest) = go (get_or home n 0) (control_count home rest)
  where
    go : (h : ℕ) → length (control_tasks home rest) ≤ 2 * length rest → length (control_task n h ++ control_tasks home rest) ≤ 2 * suc (length rest)
    go zero q = omega arith
    go (suc slot) q = omega arith

-- each task costs five steps at least
abbrev Five : List Task → Type 0
Five tasks = 5 * length tasks ≤ costs tasks

five_writes : (ws : List Write) (tasks : List Task) → Five tasks → Five (tasks_of ws ++ tasks)
five_writes [] tasks f = f
five_writes (w ∷ ws) tasks f = omega (arith, five_writes ws tasks f)

five_from : (ns : List Node) (os : List Origin) (ws : List Write) (rest : List ℕ) (tasks : List Task) → Five tasks → Five (schedule_from ns os ws rest ++ tasks)
unfolding schedule_from
five_from ns os ws [] tasks f = f
five_from ns os ws (n ∷ rest) tasks f =
    let later : List Write = filter (λ w. waits ns os w n && not (any_of (waits ns os w) rest)) ws in
    rw (append_assoc (tasks_of later) (schedule_from ns os ws rest) tasks)
    (omega (arith, five_writes later (schedule_from ns os ws rest ++ tasks) (five_from ns os ws rest tasks f)))

five_schedule : (ns : List Node) (os : List Origin) (ws : List Write) (computations : List ℕ) (out : ℕ) → Five (schedule ns os ws computations out)
unfolding schedule
five_schedule ns os ws computations out =
    five_writes (filter (λ w. not (any_of (waits ns os w) computations)) ws) (schedule_from ns os ws computations ++ (store_task 12 0 out ∷ []))
    (five_from ns os ws computations (store_task 12 0 out ∷ []) (omega arith))

-- ---- the flow of what is lent

-- it is good
pub flow_good : (sizes : Sizes) (nodes updates stores : List ℕ) (output words : ℕ) → Plan.Lent sizes nodes words → Updates sizes updates → Updates sizes stores
    → output < sizes.nodes → GoodFlow (flow_in sizes nodes updates stores output)
flow_good sizes nodes updates stores output words lends ups dels out =
    good_flow (counts_in sizes) (record { count = sizes.nodes; nodes = nodes; output = output; state_updates = updates; delay_updates = stores; delay_lengths = [] })
    (record { long = lends.long; nodes = lends.good; output = out; state_updates = ups; delay_updates = dels; limit = lends.small })

module _ (sizes : Sizes) (nodes updates stores : List ℕ) (output words : ℕ) (lends : Plan.Lent sizes nodes words) (ups : Updates sizes updates) (dels : Updates sizes stores)
    (out : output < sizes.nodes) (us : length updates ≡ sizes.states) (ds : length stores ≡ sizes.delays) where
  abbrev flow : Flow
  flow = flow_in sizes nodes updates stores output

  good : GoodFlow flow
  good = flow_good sizes nodes updates stores output words lends ups dels out

  flow_nodes : flow.nodes ≡ nodes_to nodes sizes.nodes
  unfolding flow_of
  flow_nodes = refl

  pub flow_count : length flow.nodes ≡ sizes.nodes
  flow_count = ap length flow_nodes ∙ nodes_length nodes sizes.nodes

  pub flow_states : length flow.states ≡ sizes.states
  unfolding flow_of
  flow_states = us

  pub flow_delays : length flow.delays ≡ sizes.delays
  unfolding flow_of
  flow_delays = ds

  flow_output : flow.output ≡ output
  unfolding flow_of
  flow_output = refl

  flow_node : (n : ℕ) → n < sizes.nodes → node_at flow.nodes n ≡ node_in nodes n
  flow_node n h = ap (λ (x : List Node). node_at x n) flow_nodes ∙ node_at_lem nodes sizes.nodes n h

  pub slots_count : length (plan_of flow).slots ≡ sizes.nodes
  unfolding plan_of
  slots_count = number_length 0 (homes flow good) ∙ (homes_length flow good ∙ flow_count)

  sizes_fit : (3 * sizes.nodes ≤ length nodes) × ((sizes.states ≤ length updates) × (sizes.delays ≤ length stores))
  sizes_fit = (omega (arith, lends.long), (omega (arith, us), omega (arith, ds)))

  -- what is computed
  computed_facts : (mask fixed : ℕ) (control : Bool) (table : List ℕ) (e : Setting) → e.nodes ≡ flow.nodes → (n : ℕ) → n < sizes.nodes
      → T (is_computed (node_at flow.nodes n)) → TaskFacts (frame_in sizes mask fixed control) (lent nodes updates stores output) e table (compute_task n)
  computed_facts mask fixed control table e q n h t =
      (h, (rw q t, operands_below sizes nodes words lends n h (rw (flow_node n h) at t)))

  -- .. and stored
  stored_facts : (mask fixed : ℕ) (control : Bool) (table : List ℕ) (e : Setting)
      → AllWrites (λ w. TaskFacts (frame_in sizes mask fixed control) (lent nodes updates stores output) e table (store_task w.code w.index w.value)) (writes flow)
  unfolding writes flow_of
  stored_facts mask fixed control table e =
      let P : Write → Type 0 =
      λ w. TaskFacts (frame_in sizes mask fixed control) (lent nodes updates stores output) e table (store_task w.code w.index w.value) in
      all_append flow good P (writes_from 10 0 updates) (writes_from 11 0 stores)
      (writes_all P 10 0 updates (λ i n h q. let z : 0 + i ≡ i = omega arith in rw z (omega (arith, ups i), inl (refl, (omega (arith, us), q)))))
      (writes_all P 11 0 stores (λ i n h q. let z : 0 + i ≡ i = omega arith in rw z (omega (arith, dels i), inr (inl (refl, (omega (arith, ds), q))))))

  -- ---- how many tasks

  control_few : length (plan_of flow).control_tasks ≤ 2 * sizes.nodes + sizes.states + sizes.delays + 1
  unfolding plan_of
  control_few = omega (arith, control_count (slots flow good) (ccomps flow good), phases flow good, flow_count)

  sample_few : length (plan_of flow).sample_tasks ≤ 2 * sizes.nodes + sizes.states + sizes.delays + 1
  unfolding plan_of
  sample_few =
      omega (
        arith,
        five_schedule flow.nodes (ss flow good) (writes flow) (comps flow good) flow.output,
        sample_cost flow good,
        phases flow good,
        flow_count,
        flow_states,
        flow_delays,
      )

  -- ---- how many steps

  fixed_low : (plan_of flow).fixed ≤ sizes.nodes
  unfolding plan_of
  fixed_low = omega (arith, count_le (slots flow good), slots_count)

  -- the control phase's tasks are within document 01's bound, and the six steps of one more beside them
  pub control_room : costs (plan_of flow).control_tasks + 6 ≤ most_steps sizes.nodes (sizes.states + sizes.delays)
  control_room = omega (arith, control_cost flow good, phases_but_one flow good, flow_count)

  -- so are both phases' together
  pub sample_room : costs (plan_of flow).control_tasks + costs (plan_of flow).sample_tasks + 6 ≤ most_steps sizes.nodes (sizes.states + sizes.delays)
  sample_room = omega (arith, control_cost flow good, sample_cost flow good, phases_but_one flow good, flow_count, flow_states, flow_delays)

  -- the control phase emits no more than its tasks cost
  pub control_prior : (mask : ℕ) (s : State)
      → allocate (control_setting flow (plan_of flow) mask) (plan_of flow).control_tasks (begin (control_setting flow (plan_of flow) mask)) ≡ allocated s
      → length s.steps ≤ costs (plan_of flow).control_tasks
  unfolding begin
  control_prior mask s e =
      let c : Setting = control_setting flow (plan_of flow) mask in
      let r = post_at (Ran c (slots flow good) (costs (plan_of flow).control_tasks) (begin c)) (allocate c (plan_of flow).control_tasks (begin c)) s (control_ran flow good mask) e in
      omega (arith, r.grow)

  -- ---- what the plan leaves

  -- the sample phase's share
  pub sample_regions : (old new : List ℕ) → SampleBegins sizes flow old → Unheld sizes old → SampleShare sizes flow old new
      → PhaseRegions sizes (plan_of flow).slots (plan_of flow).sample_tasks (plan_of flow).sample_origins new
  unfolding Region
  sample_regions old new b unheld share =
      record {
        unheld = λ j h l. share.same j (inr (inl (h, l))) ∙ unheld j h l;
        slots = (
          omega (arith, share.size, b.slots.0),
          λ i h. share.same (slots_at sizes + i) (inl (omega (arith, slots_count))) ∙ b.slots.1 i h,
        );
        tasks = share.tasks;
        firsts = share.firsts;
      }

  control_origins_lem : (plan_of flow).control_origins ≡ map control_origin (nodes_to nodes sizes.nodes)
  unfolding plan_of flow_of
  control_origins_lem = refl

  invariant_count : length (flags (invariant_of flow)) ≡ sizes.nodes
  unfolding flow_of
  invariant_count = flags_length (invariant_of flow) ∙ invariant_length nodes sizes.nodes

  pub needed_count : length (flags (needed_of flow)) ≡ sizes.nodes
  unfolding needed_by
  needed_count =
      flags_length (needed_of flow)
      ∙ (length_sweep flow.nodes _ (length flow.nodes) (mark_all (roots flow) (replicate (length flow.nodes) false))
      ∙ (length_mark_all (roots flow) (replicate (length flow.nodes) false) ∙ (length-replicate (length flow.nodes) false ∙ flow_count)))

  reached_count : length (flags (reached_of flow)) ≡ sizes.nodes
  reached_count =
      flags_length (reached_of flow) ∙ (length_sweep flow.nodes (λ n. true) (length flow.nodes) (hoisted_of flow) ∙ (homes_length flow good ∙ flow_count))

  module _ (old : List ℕ) (size : length old ≡ words) where
    abbrev task_words : List ℕ
    task_words = map (task_word sizes) (plan_of flow).control_tasks

    abbrev table₁ : List ℕ
    table₁ = written 0 (flags (invariant_of flow)) old

    abbrev table₂ : List ℕ
    table₂ = written (needed_at sizes) (flags (needed_of flow)) table₁

    abbrev table₃ : List ℕ
    table₃ = written (slots_at sizes) (plan_of flow).slots table₂

    abbrev table₄ : List ℕ
    table₄ = written (reached_at sizes) (flags (reached_of flow)) table₃

    tasks_count : length task_words ≤ 2 * sizes.nodes + sizes.states + sizes.delays + 1
    tasks_count = omega (arith, length-map (plan_of flow).control_tasks (task_word sizes), control_few)

    table_length : length table₄ ≡ words
    table_length =
        written_length (reached_at sizes) (flags (reached_of flow)) table₃
        ∙ (written_length (slots_at sizes) (plan_of flow).slots table₂
        ∙ (written_length (needed_at sizes) (flags (needed_of flow)) table₁ ∙ (written_length 0 (flags (invariant_of flow)) old ∙ size)))

    control_length : length (control_table sizes flow old) ≡ words
    unfolding control_table
    control_length = written_length (tasks_at sizes) task_words table₄ ∙ table_length

    -- the control phase's share leaves what lies between and behind its regions
    control_outside : (j : ℕ) → 4 * sizes.nodes ≤ j → (j < tasks_at sizes) ⊎ (homes_at sizes ≤ j) → get_or (control_table sizes flow old) j 0 ≡ get_or old j 0
    unfolding control_table
    control_outside j h b =
        written_out (tasks_at sizes) task_words table₄ j (beside b)
        ∙ (written_out (reached_at sizes) (flags (reached_of flow)) table₃ j (inr (omega (arith, reached_count)))
        ∙ (written_out (slots_at sizes) (plan_of flow).slots table₂ j (inr (omega (arith, slots_count)))
        ∙ (written_out (needed_at sizes) (flags (needed_of flow)) table₁ j (inr (omega (arith, needed_count)))
        ∙ written_out 0 (flags (invariant_of flow)) old j (inr (omega (arith, invariant_count))))))
      where
        beside : (j < tasks_at sizes) ⊎ (homes_at sizes ≤ j) → (j < tasks_at sizes) ⊎ (tasks_at sizes + length task_words ≤ j)
        beside (inl b) = inl b
        beside (inr b) = inr (omega (arith, tasks_count))

    control_tasks_held : Region (tasks_at sizes) task_words (control_table sizes flow old)
    unfolding control_table
    control_tasks_held = region_written (tasks_at sizes) task_words table₄ (omega (arith, tasks_count, table_length, lends.room))

    control_slots_held : Region (slots_at sizes) (plan_of flow).slots (control_table sizes flow old)
    unfolding control_table
    control_slots_held =
        region_kept (slots_at sizes) (plan_of flow).slots (tasks_at sizes) task_words table₄
        (region_kept (slots_at sizes) (plan_of flow).slots (reached_at sizes) (flags (reached_of flow)) table₃
        (region_written (slots_at sizes) (plan_of flow).slots table₂
        (omega (arith, slots_count, lends.room, size, written_length (needed_at sizes) (flags (needed_of flow)) table₁, written_length 0 (flags (invariant_of flow)) old)))
        (inl (omega (arith, slots_count))))
        (inl (omega (arith, slots_count)))

    control_needed_held : Region (needed_at sizes) (flags (needed_of flow)) (control_table sizes flow old)
    unfolding control_table
    control_needed_held =
        region_kept (needed_at sizes) (flags (needed_of flow)) (tasks_at sizes) task_words table₄
        (region_kept (needed_at sizes) (flags (needed_of flow)) (reached_at sizes) (flags (reached_of flow)) table₃
        (region_kept (needed_at sizes) (flags (needed_of flow)) (slots_at sizes) (plan_of flow).slots table₂
        (region_written (needed_at sizes) (flags (needed_of flow)) table₁ (omega (arith, needed_count, lends.room, size, written_length 0 (flags (invariant_of flow)) old)))
        (inl (omega (arith, needed_count))))
        (inl (omega (arith, needed_count))))
        (inl (omega (arith, needed_count)))

    -- the control phase's share, and then the first nodes of its sources: what the sample phase needs
    pub control_needed : NoHomes sizes old
        → Region (needed_at sizes) (flags (needed_of flow)) (turns (canonical_node sizes true nodes) (control_table sizes flow old) sizes.nodes)
    unfolding Region
    control_needed none =
        let c : List ℕ = control_table sizes flow old in
        let room : Plan.Lent sizes nodes (length c) = rw control_length lends in
        let homeless : NoHomes sizes c = λ k h. control_outside (homes_at sizes + k) (omega arith) (inr (omega arith)) ∙ none k h in (
          omega (arith, canonical_length sizes true nodes c room homeless, control_needed_held.0),
          λ i h. canonical_beside sizes true nodes c room homeless (needed_at sizes + i) (inl (omega (arith, needed_count))) ∙ control_needed_held.1 i h,
        )

    -- the control phase's share, and then the first nodes of its sources: what the control phase does
    pub control_regions : Unheld sizes old → NoHomes sizes old
        → PhaseRegions sizes (plan_of flow).slots (plan_of flow).control_tasks (plan_of flow).control_origins
        (turns (canonical_node sizes true nodes) (control_table sizes flow old) sizes.nodes)
    unfolding Region
    control_regions unheld none =
        let c : List ℕ = control_table sizes flow old in
        let room : Plan.Lent sizes nodes (length c) = rw control_length lends in
        let homeless : NoHomes sizes c = λ k h. control_outside (homes_at sizes + k) (omega arith) (inr (omega arith)) ∙ none k h in
        let size = canonical_length sizes true nodes c room homeless in
        let beside = canonical_beside sizes true nodes c room homeless in
        record {
          unheld = λ j h l. beside j (inr (inl (h, l))) ∙ (control_outside j (omega arith) (inl (omega arith)) ∙ unheld j h l);
          slots = (
            omega (arith, size, control_slots_held.0),
            λ i h. beside (slots_at sizes + i) (inl (omega (arith, slots_count))) ∙ control_slots_held.1 i h,
          );
          tasks = (
            omega (arith, size, control_tasks_held.0),
            λ i h. beside (tasks_at sizes + i) (inr (inr (inl (omega arith, omega (arith, tasks_count))))) ∙ control_tasks_held.1 i h,
          );
          firsts = rw control_origins_lem (control_firsts sizes nodes c room homeless);
        }

  -- ---- the starts

  module _ (mask : ℕ) (work table program : List ℕ) (wide : length work ≡ words) where
    abbrev control_frame : Frame
    control_frame = frame_in sizes mask (plan_of flow).fixed true

    abbrev lent_in : Lent
    lent_in = lent nodes updates stores output

    -- THE CONTROL PHASE, before its tasks are linked
    pub control_opens : PhaseRegions sizes (plan_of flow).slots (plan_of flow).control_tasks (plan_of flow).control_origins work
        → PhaseOpens control_frame lent_in (control_setting flow (plan_of flow) mask) (plan_of flow).control_tasks work
    unfolding control_setting plan_of
    control_opens r =
        let e : Setting = control_setting flow (plan_of flow) mask in
        let room : Plan.Room sizes (length work) = rw wide (Plan.room_in sizes nodes words lends) in
        record {
          wide = record { some = omega arith; small = room.small; states = room.states; delays = room.delays; wide = room.room };
          phase = control_phase control_frame nodes e work (regions_are sizes mask (plan_of flow).fixed true work nodes e flow_nodes refl refl refl r.firsts) refl refl;
          named =
              tasks_named sizes mask (plan_of flow).fixed true work lent_in e (plan_of flow).control_tasks r.tasks
              (control_facts sizes mask (plan_of flow).fixed true work lent_in e (slots flow good) (ccomps flow good)
              (λ n t. let c = ccomps_in flow good n t in computed_facts mask (plan_of flow).fixed true work e refl n (rw flow_count at c.0) c.2)
              (λ n slot h q. (
                h,
                (
                  region_at (slots_at sizes) (slots flow good) work (slots_at sizes + n) n r.slots refl (rw slots_count h) ∙ q,
                  omega (arith, (number_lt 0 (homes flow good) n slot q).2),
                ),
              )));
          none = no_next sizes mask (plan_of flow).fixed true work room r.unheld;
          few = control_few;
          sizes = sizes_fit;
        }

    -- THE CONTROL PHASE'S START
    pub control_starts : PhaseRegions sizes (plan_of flow).slots (plan_of flow).control_tasks (plan_of flow).control_origins work
        → PhaseBegins control_frame lent_in (control_setting flow (plan_of flow) mask) table program [] (plan_of flow).slots (plan_of flow).control_tasks
        (desk (linked control_frame lent_in (length (plan_of flow).control_tasks) work) table program (new_allocator (plan_of flow).fixed 0 0))
    unfolding control_setting plan_of
    control_starts r =
        let e : Setting = control_setting flow (plan_of flow) mask in
        let room : Plan.Room sizes (length work) = rw wide (Plan.room_in sizes nodes words lends) in
        let long : length e.origins ≡ sizes.nodes = length-map flow.nodes control_origin ∙ flow_count in
        let o = control_opens r in
        phase_starts control_frame lent_in e table program [] (plan_of flow).slots (plan_of flow).control_tasks
        (desk work table program (new_allocator (plan_of flow).fixed 0 0))
        (begins_are sizes mask (plan_of flow).fixed true work room (omega arith) e long r.firsts r.unheld table program 0 0)
        o.phase o.named o.none
        (written_none table program)
        (control_tasks_ok flow good (usable mask) (count (slots flow good)))
        (number_ok (homes flow good))
        control_few sizes_fit

    -- WHAT THE CODE ASKS FOR, where the tables of steps and instructions are as long as document 01 states
    pub control_asks : PhaseRegions sizes (plan_of flow).slots (plan_of flow).control_tasks (plan_of flow).control_origins work
        → 2 * most_steps sizes.nodes (sizes.states + sizes.delays) ≤ length table → 2 * most_steps sizes.nodes (sizes.states + sizes.delays) ≤ length program
        → PhaseFits control_frame lent_in (length (plan_of flow).control_tasks)
        (desk (linked control_frame lent_in (length (plan_of flow).control_tasks) work) table program (new_allocator (plan_of flow).fixed 0 0))
    control_asks r steps instructions =
        phase_asks control_frame lent_in (control_setting flow (plan_of flow) mask) table program [] (plan_of flow).slots (plan_of flow).control_tasks
        (desk (linked control_frame lent_in (length (plan_of flow).control_tasks) work) table program (new_allocator (plan_of flow).fixed 0 0))
        (control_starts r)
        (omega (arith, control_room, lends.small, lends.states, lends.delays))
        (omega (arith, control_few, fixed_low, lends.small, lends.states, lends.delays))
        (omega (arith, control_room))
        (omega (arith, control_room))

    abbrev sample_frame : Frame
    sample_frame = frame_in sizes mask 0 false

    -- THE SAMPLE PHASE, before its tasks are linked
    pub sample_opens : PhaseRegions sizes (plan_of flow).slots (plan_of flow).sample_tasks (plan_of flow).sample_origins work
        → PhaseOpens sample_frame lent_in (sample_setting flow (plan_of flow) mask) (plan_of flow).sample_tasks work
    unfolding sample_setting plan_of
    sample_opens r =
        let e : Setting = sample_setting flow (plan_of flow) mask in
        let room : Plan.Room sizes (length work) = rw wide (Plan.room_in sizes nodes words lends) in
        record {
          wide = record { some = omega arith; small = room.small; states = room.states; delays = room.delays; wide = room.room };
          phase =
              sample_phase sample_frame nodes e work (regions_are sizes mask 0 false work nodes e flow_nodes refl refl refl r.firsts) refl (slots flow good) refl
              (region_part (2 * sizes.nodes) sizes.nodes (slots flow good) work r.slots slots_count) (counts_in sizes) lends.good;
          named =
              tasks_named sizes mask 0 false work lent_in e (plan_of flow).sample_tasks r.tasks
              (schedule_facts sizes mask 0 false work lent_in e flow.nodes (ss flow good) (writes flow) (comps flow good) flow.output (stored_facts mask 0 false work e)
              (λ n t.
              let c = comps_in flow good n t in
              let h : n < sizes.nodes = rw flow_count at c.0 in
              let s = sample_none (get_or (slots flow good) n 0) (node_at flow.nodes n) (rw (sample_at (slots flow good) flow.nodes n c.0) at c.2) in
              computed_facts mask 0 false work e refl n h s.1)
              (rw flow_output (out, inr (inr (refl, (refl, refl))))));
          none = no_next sizes mask 0 false work room r.unheld;
          few = sample_few;
          sizes = sizes_fit;
        }

    -- THE SAMPLE PHASE'S START, behind the actions of the control phase
    pub sample_starts : PhaseRegions sizes (plan_of flow).slots (plan_of flow).sample_tasks (plan_of flow).sample_origins work
        → (prior : List Action) (steps instructions : List ℕ) (k m : ℕ) → Written table program prior steps instructions k m
        → PhaseBegins sample_frame lent_in (sample_setting flow (plan_of flow) mask) table program prior [] (plan_of flow).sample_tasks
        (desk (linked sample_frame lent_in (length (plan_of flow).sample_tasks) work) steps instructions (new_allocator 0 k m))
    unfolding sample_setting plan_of
    sample_starts r prior steps instructions k m written =
        let e : Setting = sample_setting flow (plan_of flow) mask in
        let room : Plan.Room sizes (length work) = rw wide (Plan.room_in sizes nodes words lends) in
        let long : length e.origins ≡ sizes.nodes = sample_length (slots flow good) flow.nodes ∙ flow_count in
        let o = sample_opens r in
        phase_starts sample_frame lent_in e table program prior [] (plan_of flow).sample_tasks (desk work steps instructions (new_allocator 0 k m))
        (begins_are sizes mask 0 false work room (omega arith) e long r.firsts r.unheld steps instructions k m)
        o.phase o.named o.none
        written
        (sample_tasks_ok flow good (usable mask))
        (record { lt = λ n j h. absurd (omega arith); inj = λ n l j h g. absurd (omega arith) })
        sample_few sizes_fit

    -- WHAT THE CODE ASKS FOR
    pub sample_asks : PhaseRegions sizes (plan_of flow).slots (plan_of flow).sample_tasks (plan_of flow).sample_origins work
        → (prior : List Action) (steps instructions : List ℕ) (k m : ℕ) → Written table program prior steps instructions k m
        → length prior ≤ costs (plan_of flow).control_tasks
        → 2 * most_steps sizes.nodes (sizes.states + sizes.delays) ≤ length table → 2 * most_steps sizes.nodes (sizes.states + sizes.delays) ≤ length program
        → PhaseFits sample_frame lent_in (length (plan_of flow).sample_tasks)
        (desk (linked sample_frame lent_in (length (plan_of flow).sample_tasks) work) steps instructions (new_allocator 0 k m))
    sample_asks r prior steps instructions k m written few long program-long =
        let s : length steps ≡ length table = ap length written.words ∙ length-sets table 0 (step_words 0 prior) in
        let i : length instructions ≡ length program = ap length written.operations ∙ length-sets program 0 (instruction_words (operations_in prior)) in
        phase_asks sample_frame lent_in (sample_setting flow (plan_of flow) mask) table program prior [] (plan_of flow).sample_tasks
        (desk (linked sample_frame lent_in (length (plan_of flow).sample_tasks) work) steps instructions (new_allocator 0 k m))
        (sample_starts r prior steps instructions k m written)
        (omega (arith, sample_room, lends.small, lends.states, lends.delays))
        (omega (arith, sample_few, lends.small, lends.states, lends.delays))
        (omega (arith, sample_room, s))
        (omega (arith, sample_room, i))
