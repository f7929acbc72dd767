-- The walk goes through both phases of a kernel, if the rules say what the nodes are. Assumes nothing.
use Rattle.std.specs.Prelude.{◌≡◌, ◌⊎◌, Bool, true, ◌&&◌, ℕ, zero, suc, pred, length, get_or, replicate, eqb}
use Rattle.std.proofs.Math.Path.{refl}
use Rattle.std.proofs.Common.{inl, inr, eqb→eq}
use Rattle.std.proofs.Math.Bool.{false, not}
use mathlib.Core.List.{List, [], ◌∷◌, ◌++◌}
use native.Mathlib.Omega.{arith}
use Rattle.std.proofs.lemmas.List.{length-replicate}
use Rattle.std.proofs.Math.Dec.{T, eqb_refl}
use Rattle.tables.specs.Tests.{or_pass}
use Rattle.plan.specs.Lists.{member, filter, any_of, count, is_some}
use Rattle.plan.specs.Nodes.{is_computed, node_at, Flow}
use Rattle.plan.specs.Hoist.{hoistable}
use Rattle.plan.specs.Origins.{Origin, home_of}
use Rattle.plan.specs.Schedule.{Task, compute_task, keep_task, store_task, Write, waits, tasks_of, schedule_from, schedule, control_task, control_tasks, writes, plan_of}
use Rattle.plan.specs.TestLaws.{or_first, or_second, and_second}
use Rattle.tables.specs.Zeros.{zeros_at}
use Rattle.plan.specs.OriginLaws.{number_lt, sample_at, sample_none}
use Rattle.plan.specs.Reached.{sweep_mono}
use Rattle.plan.specs.Planned.{GoodFlow, AllWrites, all_filter, comps_in, ccomps_in, in_ccomps, homes_inv, homes_at, homes, slots, ss, cs, need, inv, comps, ccomps}
use Rattle.allocate.specs.State.{Setting, State, begin}
use Rattle.allocate.specs.Allocator.{allocate}
use Rattle.allocate.specs.Outcomes.{Post, post_map}
use Rattle.allocate.specs.StateLaws.{Sixteen, suc_is}
use Rattle.allocate.specs.Begin.{begin_inv}
use Rattle.allocate.specs.Scheduled.{setting_of, number_ok, sample_tasks_ok, control_tasks_ok}
use Rattle.compile.specs.Draft.{usable, control_setting, sample_setting}
use Rattle.compile.specs.Gives.{usable_ascending}
use Rattle.compile.specs.PhasesFit.{member_usable}
use Rattle.compiled.specs.Marks.{Marks, Rules, goes, source_class, walk_actions, start_marks}
use Rattle.compiled.specs.Tracking.{Tracks}
use Rattle.compiled.specs.TrackedTasks.{Meaning, WriteAt, to_output}
use Rattle.compiled.specs.TrackedRun.{TasksAllowed, LeadsWith, Filled, run_tracked}

-- the walk starts where the allocator does
begin_tracked : (e : Setting) (home : List ℕ) (R : Rules) (class : ℕ → ℕ)
    → ((n c i : ℕ) → home_of e.origins c i ≡ suc n → source_class R (start_marks R) c i ≡ suc (class n))
    → Tracks e home R class (start_marks R) 0 (begin e) (start_marks R)
unfolding begin
begin_tracked e home R class loads =
    let z : (l n k : ℕ) → ◌≡◌ {A = ℕ} (get_or (replicate l 0) n 0) (suc k) → ⊥ = λ l n k h. omega (arith, zeros_at l n) in
    record {
      walked = refl;
      agrees =
          record {
            registers = λ n r h u. absurd (z 16 r n h);
            slots = λ n k h. absurd (z (length e.origins) n k h);
            memory = λ n c i h u. loads n c i h;
            homes = λ v k h u. absurd (z R.declared k (pred (get_or (replicate R.declared 0) k 0)) (suc_is (get_or (replicate R.declared 0) k 0) u));
            registers_length = length-replicate {A = ℕ} 16 0;
            slots_length = length-replicate {A = ℕ} R.declared 0;
          };
    }

-- ---- the tasks of both phases are what the walk allows

allowed_append : (e : Setting) (R : Rules) (class : ℕ → ℕ) (xs ys : List Task) → TasksAllowed e R class xs → TasksAllowed e R class ys
    → TasksAllowed e R class (xs ++ ys)
allowed_append e R class [] ys a b = b
allowed_append e R class (compute_task n ∷ xs) ys a b = (a.0, allowed_append e R class xs ys a.1 b)
allowed_append e R class (keep_task k v ∷ xs) ys a b = (a.0, allowed_append e R class xs ys a.1 b)
allowed_append e R class (store_task c i v ∷ xs) ys a b = (a.0, a.1, a.2, allowed_append e R class xs ys a.3 b)

abbrev pub WriteOk : Rules → (ℕ → ℕ) → Write → Type 0
WriteOk R class w = WriteAt w.code w.index × (R.asked_class w.code w.index ≡ suc (class w.value))

allowed_writes : (e : Setting) (R : Rules) (class : ℕ → ℕ) → e.in_control ≡ false → (ws : List Write) → AllWrites (WriteOk R class) ws
    → TasksAllowed e R class (tasks_of ws)
allowed_writes e R class ct [] a = tt
allowed_writes e R class ct (w ∷ ws) a = (ct, a.0.0, a.0.1, allowed_writes e R class ct ws a.1)

module _ (e : Setting) (R : Rules) (class : ℕ → ℕ) (ct : e.in_control ≡ false) (origins : List Origin) (ws : List Write) (a : AllWrites (WriteOk R class) ws) where
  sub : (p : Write → Bool) → TasksAllowed e R class (tasks_of (filter p ws))
  sub p = allowed_writes e R class ct (filter p ws) (all_filter (WriteOk R class) (WriteOk R class) p ws a (λ w h q. h))

  allowed_from : (computations : List ℕ) → ((n : ℕ) → T (member n computations) → T (is_computed (node_at e.nodes n)))
      → TasksAllowed e R class (schedule_from e.nodes origins ws computations)
  unfolding schedule_from
  allowed_from [] h = tt
  allowed_from (n ∷ computations) h = (
    h n (or_first (eqb n n) (member n computations) (eqb_refl n)),
    allowed_append e R class (tasks_of (filter (λ w. waits e.nodes origins w n && not (any_of (waits e.nodes origins w) computations)) ws))
        (schedule_from e.nodes origins ws computations)
        (sub (λ w. waits e.nodes origins w n && not (any_of (waits e.nodes origins w) computations)))
        (allowed_from computations (λ m t. h m (or_second (eqb m n) (member m computations) t))),
  )

  pub allowed_schedule : (computations : List ℕ) (out : ℕ) → ((n : ℕ) → T (member n computations) → T (is_computed (node_at e.nodes n)))
      → R.asked_class 12 0 ≡ suc (class out) → TasksAllowed e R class (schedule e.nodes origins ws computations out)
  unfolding schedule
  allowed_schedule computations out h w =
      allowed_append e R class (tasks_of (filter (λ w. not (any_of (waits e.nodes origins w) computations)) ws))
      (schedule_from e.nodes origins ws computations ++ (store_task 12 0 out ∷ []))
      (sub (λ w. not (any_of (waits e.nodes origins w) computations)))
      (allowed_append e R class (schedule_from e.nodes origins ws computations) (store_task 12 0 out ∷ []) (allowed_from computations h)
      (ct, (to_output, λ z. refl), w, tt))

allowed_control : (e : Setting) (R : Rules) (class : ℕ → ℕ) → e.in_control ≡ true → (home computations : List ℕ)
    → ((n : ℕ) → T (member n computations) → T (is_computed (node_at e.nodes n))) → TasksAllowed e R class (control_tasks home computations)
allowed_control e R class ct home [] h = tt
allowed_control e R class ct home (n ∷ computations) h =
    go (get_or home n 0) (allowed_control e R class ct home computations (λ m t. h m (or_second (eqb m n) (member m computations) t)))
  where
    go : (k : ℕ) → TasksAllowed e R class (control_tasks home computations) → TasksAllowed e R class (control_task n k ++ control_tasks home computations)
    go zero ih = (h n (or_first (eqb n n) (member n computations) (eqb_refl n)), ih)
    go (suc k) ih = (h n (or_first (eqb n n) (member n computations) (eqb_refl n)), (ct, ih))

-- ---- what a control phase leaves filled

filled_append : (xs ys : List Task) (m : Marks) → Filled (xs ++ ys) m → Filled ys m
filled_append [] ys m f = f
filled_append (x ∷ xs) ys m f = filled_append xs ys m f.1

filled_at : (home computations : List ℕ) (m : Marks) → Filled (control_tasks home computations) m → (n k : ℕ) → T (member n computations)
    → get_or home n 0 ≡ suc k → T (is_some (get_or m.slots k 0))
filled_at home [] m f n k t h = absurd t
filled_at home (x ∷ computations) m f n k t h =
    go (or_pass (eqb n x) (member n computations) t)
    (λ u. filled_at home computations m (filled_append (control_task x (get_or home x 0)) (control_tasks home computations) m f) n k u h)
  where
    here : (j : ℕ) → j ≡ suc k → Filled (control_task x j ++ control_tasks home computations) m → T (is_some (get_or m.slots k 0))
    here zero q f = absurd (omega arith)
    here (suc j) q f = let jk : j ≡ k = omega arith in rw jk at f.1.0

    go : T (eqb n x) ⊎ T (member n computations) → (T (member n computations) → T (is_some (get_or m.slots k 0))) → T (is_some (get_or m.slots k 0))
    go (inl u) ih = here (get_or home x 0) (rw (eqb→eq n x u) at h) f
    go (inr u) ih = ih u

-- ---- the two phases

-- each hoisted value's own slot holds its class: the control slots of the nodes, the classes, what the slots hold
abbrev pub Full : List ℕ → (ℕ → ℕ) → List ℕ → Type 0
Full own class slots = (n k : ℕ) → get_or own n 0 ≡ suc k → get_or slots k 0 ≡ suc (class n)

-- what a control phase emits goes through the walk, and leaves every hoisted value in its slot
abbrev pub ControlGoes : ℕ → List ℕ → (ℕ → ℕ) → Rules → State → Type 0
ControlGoes mask own class R c =
    c.slots ≡ R.declared → (m : Marks) × (walk_actions (usable mask) true R (start_marks R) c.steps ≡ goes m) × Full own class m.slots

abbrev pub SampleGoes : ℕ → Rules → State → Type 0
SampleGoes mask R s = s.slots ≡ R.declared → (m : Marks) × (walk_actions (usable mask) false R (start_marks R) s.steps ≡ goes m)

-- the sources that a phase has at its start are what the nodes are
abbrev pub SourcesMean : List Origin → Rules → (ℕ → ℕ) → Type 0
SourcesMean origins R class = (n c i : ℕ) → home_of origins c i ≡ suc n → source_class R (start_marks R) c i ≡ suc (class n)

usable_sixteen : (mask : ℕ) (e : Setting) → e.registers ≡ usable mask → Sixteen e
usable_sixteen mask e q = record { small = rw q (member_usable mask); ascending = rw q (usable_ascending mask) }

module _ (b : Flow) (v : GoodFlow b) (mask : ℕ) (class : ℕ → ℕ) where
  -- a computation of the sample phase is computed there
  sample_computed : (n : ℕ) → T (member n (comps b v)) → T (is_computed (node_at b.nodes n))
  sample_computed n t =
      let c = comps_in b v n t in
      (sample_none (get_or (slots b v) n 0) (node_at b.nodes n) (rw (sample_at (slots b v) b.nodes n c.0) at c.2)).1

  -- a node with a control slot is computed in the control phase
  home_computed : (n k : ℕ) → get_or (slots b v) n 0 ≡ suc k → T (member n (ccomps b v))
  unfolding hoistable
  home_computed n k q =
      let t : T (get_or (homes b v) n false) = (number_lt 0 (homes b v) n k q).0 in
      let l = homes_inv b v n t in
      let hoisted : T (get_or (inv b v) n false && is_computed (node_at b.nodes n)) =
      and_second (get_or (need b v) n false) (get_or (inv b v) n false && is_computed (node_at b.nodes n)) (rw (homes_at b v n l.0) at t) in
      in_ccomps b v n l.0 (sweep_mono b.nodes (λ n. true) (length b.nodes) (homes b v) n t)
      (and_second (get_or (inv b v) n false) (is_computed (node_at b.nodes n)) hoisted)

  abbrev control_phase : Setting
  control_phase = setting_of b.nodes (cs b v) (usable mask) (slots b v) true (count (slots b v))

  abbrev sample_phase : Setting
  sample_phase = setting_of b.nodes (ss b v) (usable mask) [] false 0

  -- THE CONTROL PHASE
  pub control_goes : (R : Rules) → Meaning control_phase R class → SourcesMean (cs b v) R class
      → Post (Unit {0}) (ControlGoes mask (slots b v) class R)
      (allocate (control_setting b (plan_of b) mask) (plan_of b).control_tasks (begin (control_setting b (plan_of b) mask)))
  unfolding control_setting plan_of
  control_goes R meaning loads =
      let e : Setting = control_phase in
      let tasks : List Task = control_tasks (slots b v) (ccomps b v) in
      post_map (LeadsWith e (slots b v) R class (start_marks R) (Filled tasks) (begin e)) (ControlGoes mask (slots b v) class R) (allocate e tasks (begin e))
      (run_tracked e (slots b v) (usable_sixteen mask e refl) (number_ok (homes b v)) R class meaning (start_marks R) tasks [] 0 (begin e)
      (control_tasks_ok b v (usable mask) (count (slots b v)))
      (allowed_control e R class refl (slots b v) (ccomps b v) (λ n t. (ccomps_in b v n t).2))
      (begin_inv e (slots b v) _))
      (λ c h z.
      let d = h.1 (record { slots = omega arith }) (start_marks R) (begin_tracked e (slots b v) R class loads) in
      (d.0, d.1.walked, λ n k q. d.1.agrees.homes n k q (filled_at (slots b v) (ccomps b v) d.0 d.3 n k (home_computed n k q) q)))

  -- THE SAMPLE PHASE
  pub sample_goes : (R : Rules) → Meaning sample_phase R class → SourcesMean (ss b v) R class
      → AllWrites (WriteOk R class) (writes b) → R.asked_class 12 0 ≡ suc (class b.output)
      → Post (Unit {0}) (SampleGoes mask R)
      (allocate (sample_setting b (plan_of b) mask) (plan_of b).sample_tasks (begin (sample_setting b (plan_of b) mask)))
  unfolding sample_setting plan_of
  sample_goes R meaning loads asked output =
      let e : Setting = sample_phase in
      let tasks : List Task = schedule b.nodes (ss b v) (writes b) (comps b v) b.output in
      post_map (LeadsWith e [] R class (start_marks R) (Filled tasks) (begin e)) (SampleGoes mask R) (allocate e tasks (begin e))
      (run_tracked e [] (usable_sixteen mask e refl) (record { lt = λ n k h. absurd (omega arith); inj = λ m l k h g. absurd (omega arith) })
      R class meaning (start_marks R) tasks [] 0 (begin e)
      (sample_tasks_ok b v (usable mask))
      (allowed_schedule e R class refl (ss b v) (writes b) asked (comps b v) b.output sample_computed output)
      (begin_inv e [] _))
      (λ s h z.
      let d = h.1 (record { slots = omega arith }) (start_marks R) (begin_tracked e [] R class loads) in
      (d.0, d.1.walked))
