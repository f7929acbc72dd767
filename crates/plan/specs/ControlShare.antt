-- The control phase's share of the plan as the work table holds it: `control_table`, and that the six functions leave it: `control_share`. Assumes nothing.
use Rattle.std.specs.Prelude.{◌≡◌, ◌⊎◌, Bool, true, replicate, T, eqb}
use Rattle.std.proofs.Math.Path.{sym, ap}
use Rattle.std.proofs.Common.{◌∙◌, inl, inr, arith, eqb→eq}
use Rattle.std.proofs.Math.Bool.{false}
use mathlib.Core.List.{List, [], ◌∷◌, ◌++◌, map}
use Prim.Native.Nat.{ℕ, zero, suc, ◌*◌, ◌≤◌, ◌<◌}
use Rattle.std.proofs.Math.ListN.{length, length-replicate}
use Rattle.tables.specs.Tests.{or_pass}
use Rattle.plan.specs.declared.Flow as Lending
use Rattle.plan.specs.declared.Sizes.{Sizes}
use Rattle.plan.specs.declared.Hoisted.{Hoisted}
use Rattle.plan.specs.Lists.{member, count}
use Rattle.plan.specs.ListLaws.{member_append}
use Rattle.plan.specs.Nodes.{Node, Flow, updates_of, roots}
use Rattle.plan.specs.Flow.{flow_of}
use Rattle.plan.specs.Hoist.{invariants, mark_all, sweep, needed_by, homes_of, number, control_computations}
use Rattle.plan.specs.Schedule.{Task, control_tasks, plan_of}
use Rattle.plan.specs.Reached.{length_mark_all, length_sweep}
use Rattle.plan.specs.OriginLaws.{number_length}
use Rattle.plan.specs.Layout.{Lent, Updates, task_word, needed_at, slots_at, reached_at, tasks_at}
use Rattle.plan.specs.Regions.{written, written_length, written_again, Region, region_written, region_kept, region_own, flags, flags_length}
use Rattle.plan.specs.Words.{nodes_to, nodes_length, marked, goes_down}
use Rattle.plan.specs.HoistLaws.{invariant_length, marked_flags}
use Rattle.plan.specs.ControlLaws.{homes_to, homes_to_length}

-- ---- definitions

-- the lent words as the flow that layer one plans
abbrev pub flow_in : Sizes → List ℕ → List ℕ → List ℕ → ℕ → Flow
flow_in sizes nodes updates stores output =
    flow_of (record { count = sizes.nodes; nodes = nodes; output = output; state_updates = updates; delay_updates = stores; delay_lengths = [] })

-- .. of a flow that is lent as a struct
abbrev pub the_flow : Lending.Flow → Flow
the_flow f = flow_in f.sizes f.nodes.now f.updates.now f.stores.now f.output

-- no node is marked as needed yet
abbrev pub Cleared : Sizes → List ℕ → Type 0
Cleared sizes table = Region (needed_at sizes) (flags (replicate sizes.nodes false)) table

-- what is invariant, what the sample phase needs, what gets a control slot, what the control phase needs: the steps of `plan_of`
abbrev pub invariant_of : Flow → List Bool
invariant_of flow = invariants flow.nodes []

abbrev pub needed_of : Flow → List Bool
needed_of flow = needed_by flow (invariant_of flow)

abbrev pub hoisted_of : Flow → List Bool
hoisted_of flow = homes_of flow.nodes (invariant_of flow) (needed_of flow)

abbrev pub reached_of : Flow → List Bool
reached_of flow = sweep flow.nodes (λ n. true) (length flow.nodes) (hoisted_of flow)

-- how many slots and how many tasks
unfoldable pub control_count : Flow → Hoisted
control_count flow = record { slots = (plan_of flow).fixed; tasks = length (plan_of flow).control_tasks }

-- the five regions that the control phase's share fills
unfoldable pub control_table : Sizes → Flow → List ℕ → List ℕ
control_table sizes flow table =
    written (tasks_at sizes) (map (task_word sizes) (plan_of flow).control_tasks)
    (written (reached_at sizes) (flags (reached_of flow))
    (written (slots_at sizes) (plan_of flow).slots (written (needed_at sizes) (flags (needed_of flow)) (written 0 (flags (invariant_of flow)) table))))

-- ---- laws

-- a node that a table of updates names is a node
update_below : (sizes : Sizes) (us : List ℕ) → Updates sizes us → (n : ℕ) → T (member n (updates_of us)) → n < sizes.nodes
update_below sizes [] h n t = absurd t
update_below sizes (zero ∷ us) h n t = update_below sizes us (λ i. h (suc i)) n t
update_below sizes (suc m ∷ us) h n t = go (or_pass (eqb n m) (member n (updates_of us)) t) (update_below sizes us (λ i. h (suc i)) n)
  where
    go : T (eqb n m) ⊎ T (member n (updates_of us)) → (T (member n (updates_of us)) → n < sizes.nodes) → n < sizes.nodes
    go (inl u) ih = let z : n ≡ m = eqb→eq n m u in omega (arith, h 0)
    go (inr u) ih = ih u

module _ (sizes : Sizes) (nodes updates stores : List ℕ) (output : ℕ) (t0 t1 t2 t3 t4 t5 t6 : List ℕ) (slots tasks : ℕ) (lent : Lent sizes nodes (length t0))
    (ups : Updates sizes updates) (dels : Updates sizes stores) (out : output < sizes.nodes) (clear : Cleared sizes t0) where
  abbrev n : ℕ
  n = sizes.nodes

  abbrev ns : List Node
  ns = nodes_to nodes n

  abbrev flow : Flow
  flow = flow_in sizes nodes updates stores output

  abbrev list : List ℕ
  list = output ∷ (updates_of updates ++ updates_of stores)

  abbrev inv : List Bool
  inv = invariants ns []

  abbrev marks : List Bool
  marks = mark_all list (replicate n false)

  abbrev need : List Bool
  need = sweep ns (goes_down false ns inv) n marks

  abbrev homes : List Bool
  homes = homes_of ns inv need

  abbrev reached : List Bool
  reached = sweep ns (goes_down true ns inv) n homes

  abbrev done : List Task
  done = control_tasks (number 0 homes) (control_computations ns reached)

  below : (m : ℕ) → T (member m list) → m < n
  below m t = go (or_pass (eqb m output) (member m (updates_of updates ++ updates_of stores)) t)
    where
      up : T (member m (updates_of updates)) ⊎ T (member m (updates_of stores)) → m < n
      up (inl u) = update_below sizes updates ups m u
      up (inr u) = update_below sizes stores dels m u

      go : T (eqb m output) ⊎ T (member m (updates_of updates ++ updates_of stores)) → m < n
      go (inl u) = let z : m ≡ output = eqb→eq m output u in omega arith
      go (inr u) = up (member_append (updates_of updates) (updates_of stores) m u)

  inv_long : length inv ≡ n
  inv_long = invariant_length nodes n

  marks_long : length marks ≡ n
  marks_long = length_mark_all list (replicate n false) ∙ length-replicate n false

  need_long : length need ≡ n
  need_long = length_sweep ns (goes_down false ns inv) n marks ∙ marks_long

  homes_long : length homes ≡ n
  unfolding homes_of
  homes_long = ap (λ (k : ℕ). length (homes_to ns inv need k)) (nodes_length nodes n) ∙ homes_to_length ns inv need n

  reached_long : length reached ≡ n
  reached_long = length_sweep ns (goes_down true ns inv) n homes ∙ homes_long

  slots_long : length (number 0 homes) ≡ n
  slots_long = number_length 0 homes ∙ homes_long

  -- the table after each function
  pub control_share : t1 ≡ written 0 (flags inv) t0 → t2 ≡ marked n list t1
      → ((ms iv : List Bool) → length ms ≡ n → length iv ≡ n → Region n (flags ms) t2 → Region 0 (flags iv) t2
      → t3 ≡ written n (flags (sweep ns (goes_down false ns iv) n ms)) t2)
      → ((iv nd : List Bool) → length iv ≡ n → length nd ≡ n → Region 0 (flags iv) t3 → Region n (flags nd) t3
      → (slots ≡ count (number 0 (homes_of ns iv nd))) × (t4 ≡ written (3 * n) (flags (homes_of ns iv nd)) (written (2 * n) (number 0 (homes_of ns iv nd)) t3)))
      → ((ms iv : List Bool) → length ms ≡ n → length iv ≡ n → Region (3 * n) (flags ms) t4 → Region 0 (flags iv) t4
      → t5 ≡ written (3 * n) (flags (sweep ns (goes_down true ns iv) n ms)) t4)
      → ((sl : List ℕ) (rc : List Bool) → length sl ≡ n → length rc ≡ n → Region (2 * n) sl t5 → Region (3 * n) (flags rc) t5
      → (tasks ≡ length (control_tasks sl (control_computations ns rc))) × (t6 ≡ written (11 * n) (map (task_word sizes) (control_tasks sl (control_computations ns rc))) t5))
      → (◌≡◌ {A = Hoisted} (record { slots = slots; tasks = tasks }) (control_count flow)) × (t6 ≡ control_table sizes flow t0)
  unfolding control_count control_table plan_of flow_of needed_by roots
  control_share e1 e2 e3 e4 e5 e6 =
      let il : length (flags inv) ≡ n = flags_length inv ∙ inv_long in
      let ml : length (flags marks) ≡ n = flags_length marks ∙ marks_long in
      let dl : length (flags need) ≡ n = flags_length need ∙ need_long in
      let hl : length (flags homes) ≡ n = flags_length homes ∙ homes_long in
      let rl : length (flags reached) ≡ n = flags_length reached ∙ reached_long in
      let zl : length (flags (replicate n false)) ≡ n = flags_length (replicate n false) ∙ length-replicate n false in
      let sl : length (number 0 homes) ≡ n = slots_long in
      let room : 18 * n ≤ length t0 = omega (arith, lent.room) in
      let b1 : List ℕ = written 0 (flags inv) t0 in
      let b3 : List ℕ = written n (flags need) b1 in
      let b4 : List ℕ = written (2 * n) (number 0 homes) b3 in
      let l1 : length b1 ≡ length t0 = written_length 0 (flags inv) t0 in
      let l3 : length b3 ≡ length t0 = written_length n (flags need) b1 ∙ l1 in
      let l4 : length b4 ≡ length t0 = written_length (2 * n) (number 0 homes) b3 ∙ l3 in
      let i1 : Region 0 (flags inv) b1 = region_written 0 (flags inv) t0 (omega arith) in
      let c1 : Region n (flags (replicate n false)) b1 = region_kept n (flags (replicate n false)) 0 (flags inv) t0 clear (inr (omega arith)) in
      let q2 : t2 ≡ written n (flags marks) b1 =
      rw e1 at e2 ∙ marked_flags n list (replicate n false) b1 b1 (λ m t. rw (length-replicate n false) (below m t)) (region_own n (flags (replicate n false)) b1 c1) in
      let q3 : t3 ≡ b3 =
      e3 marks inv marks_long inv_long (rw q2 (region_written n (flags marks) b1 (omega arith))) (rw q2 (region_kept 0 (flags inv) n (flags marks) b1 i1 (inl (omega arith))))
      ∙ (ap (written n (flags need)) q2 ∙ written_again n (flags need) (flags marks) b1 (dl ∙ sym ml)) in
      let i3 : Region 0 (flags inv) b3 = region_kept 0 (flags inv) n (flags need) b1 i1 (inl (omega arith)) in
      let s4 = e4 inv need inv_long need_long (rw q3 i3) (rw q3 (region_written n (flags need) b1 (omega arith))) in
      let q4 : t4 ≡ written (3 * n) (flags homes) b4 = rw q3 at s4.1 in
      let i4 : Region 0 (flags inv) b4 = region_kept 0 (flags inv) (2 * n) (number 0 homes) b3 i3 (inl (omega arith)) in
      let q5 : t5 ≡ written (3 * n) (flags reached) b4 =
      e5 homes inv homes_long inv_long (rw q4 (region_written (3 * n) (flags homes) b4 (omega arith)))
      (rw q4 (region_kept 0 (flags inv) (3 * n) (flags homes) b4 i4 (inl (omega arith))))
      ∙ (ap (written (3 * n) (flags reached)) q4 ∙ written_again (3 * n) (flags reached) (flags homes) b4 (rl ∙ sym hl)) in
      let s5 : Region (2 * n) (number 0 homes) b4 = region_written (2 * n) (number 0 homes) b3 (omega arith) in
      let s6 =
      e6 (number 0 homes) reached slots_long reached_long (rw q5 (region_kept (2 * n) (number 0 homes) (3 * n) (flags reached) b4 s5 (inl (omega arith))))
      (rw q5 (region_written (3 * n) (flags reached) b4 (omega arith))) in
      rw (nodes_length nodes n)
      (λ i. record { slots = s4.0 i; tasks = s6.0 i }, s6.1 ∙ ap (written (11 * n) (map (task_word sizes) done)) q5)
