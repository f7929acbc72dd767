-- How many steps both phases emit: `flow_fits`. Assumes nothing.
use Rattle.std.specs.Prelude.{◌≡◌, Bool, ◌&&◌, not, get_or, eqb}
use Rattle.std.proofs.Math.Path.{refl}
use Rattle.std.proofs.Math.Bool.{false, true}
use mathlib.Core.List.{List, [], ◌∷◌}
use Prim.Native.Nat.{◌*◌, ◌+◌, ◌<◌, ◌≤◌, suc, zero, ℕ}
use native.Mathlib.Omega.{arith}
use Rattle.std.proofs.Math.ListN.{length, length-append}
use Rattle.std.proofs.Math.Dec.{T, T_not, eqb_refl}
use Rattle.tables.specs.Tests.{is_false}
use Rattle.plan.specs.Lists.{member, filter, count_up, count}
use Rattle.plan.specs.Nodes.{Node, input_node, network_node, constant_node, parameter_node, state_node, delay_node, binary_node, unary_node, operands, is_computed, node_at, Flow}
use Rattle.plan.specs.Hoist.{hoistable, control_computations}
use Rattle.plan.specs.Origins.{has_origin, origin_at}
use Rattle.plan.specs.Schedule.{writes_from, schedule, control_tasks, sample_computations, writes, plan_of}
use Rattle.plan.specs.TestLaws.{or_first, and_first, and_second, and_both}
use Rattle.plan.specs.ListLaws.{count_le, filter_length, filter_member, count_up_below, count_up_length, passing_apart, passing_le}
use Rattle.plan.specs.OriginLaws.{number_length, sample_at, sample_none}
use Rattle.plan.specs.Planned.{GoodFlow, in_comps, comp_plain, cneed_inv, inv, need, homes, slots, ss, cneed, cs, comps, ccomps, homes_length}
use Rattle.allocate.specs.State.{Setting, State, begin}
use Rattle.allocate.specs.Allocator.{allocate}
use Rattle.allocate.specs.Outcomes.{Post, post_bind, post_map, post_and}
use Rattle.allocate.specs.StateLaws.{max_le}
use Rattle.allocate.specs.RunLaws.{costs, Ran, run_ran}
use Rattle.allocate.specs.Begin.{begin_inv}
use Rattle.allocate.specs.Costs.{costs_schedule, costs_control, writes_count}
use Rattle.allocate.specs.Scheduled.{setting_of, number_ok, sample_tasks_ok, control_tasks_ok}
use Rattle.allocate.specs.SlotLaws.{run_slots}
use Rattle.compile.specs.Draft.{usable, usable_bit, control_setting, sample_setting, draft_of, compile_plan, compile_flow, Draft}
use Rattle.compile.specs.Gives.{usable_ascending}

-- a usable register is below sixteen
pub member_usable : (mask r : ℕ) → T (member r (usable mask)) → r < 16
unfolding usable
member_usable mask r t = omega (arith, count_up_below 0 16 r (filter_member (usable_bit mask) (count_up 0 16) r t).0)

-- sixteen at most are usable
pub usable_sixteen : (mask : ℕ) → length (usable mask) ≤ 16
unfolding usable
usable_sixteen mask = omega (arith, filter_length (usable_bit mask) (count_up 0 16), passing_le (usable_bit mask) (count_up 0 16), count_up_length 0 16)

-- a phase emits so many steps at most, on so many slots before its own
record PhaseFits (mask bound fixed : ℕ) (s : State) : Type 0 where
  steps : length s.steps ≤ bound
  slots : s.slots ≤ fixed + length s.steps
  most : s.most ≤ length (usable mask)

-- a draft's steps are within document 01's bound; each slot is a hoisted value's or has its own step
pub record DraftFits (f : Flow) (mask : ℕ) (d : Draft) : Type 0 where
  pub steps : length d.control_steps + length d.sample_steps ≤ 7 * length f.nodes + 5 * (length f.states + length f.delays + 1)
  pub slots : d.control_slots ≤ length f.nodes + length d.control_steps
  pub spills : d.spill_slots ≤ length d.sample_steps
  pub most : d.most ≤ length (usable mask)

abbrev Both : Setting → List ℕ → ℕ → State → Type 0
Both e home cost s = Ran e home cost (begin e) s × (s.slots ≤ e.fixed + length s.steps)

module _ (b : Flow) (v : GoodFlow b) where
  -- is node n computed in the control phase
  abbrev in_control : ℕ → Bool
  in_control n = get_or (cneed b v) n false && is_computed (node_at b.nodes n)

  -- .. in the sample phase
  abbrev in_sample : ℕ → Bool
  in_sample n = get_or (need b v) n false && not (has_origin (origin_at (ss b v) n))

  -- no node is computed in both
  not_both : (n : ℕ) → T (in_control n) → T (in_sample n) → ⊥
  unfolding hoistable
  not_both n tp tq =
      let c : T (get_or (cneed b v) n false) = and_first (get_or (cneed b v) n false) (is_computed (node_at b.nodes n)) tp in
      let i = cneed_inv b v n c in
      T_not (hoistable b.nodes (inv b v) n)
      (comp_plain b v n (in_comps b v n i.0 (and_first (get_or (need b v) n false) (not (has_origin (origin_at (ss b v) n))) tq)
      (and_second (get_or (need b v) n false) (not (has_origin (origin_at (ss b v) n))) tq)))
      (and_both (get_or (inv b v) n false) (is_computed (node_at b.nodes n)) i.1
      (and_second (get_or (cneed b v) n false) (is_computed (node_at b.nodes n)) tp))

  -- no more are computed than there are nodes
  pub phases : length (ccomps b v) + length (comps b v) ≤ length b.nodes
  unfolding control_computations sample_computations
  phases =
      let all : List ℕ = count_up 0 (length b.nodes) in
      omega (arith, filter_length in_control all, filter_length in_sample all, count_up_length 0 (length b.nodes), passing_apart in_control in_sample all not_both)

  -- node 0 is not computed: no node stands before it
  first_plain : is_computed (node_at b.nodes 0) ≡ false
  first_plain = go (node_at b.nodes 0) (v.ordered 0)
    where
      go : (x : Node) → ((a : ℕ) → T (member a (operands x)) → a < 0) → is_computed x ≡ false
      go input_node h = refl
      go network_node h = refl
      go (constant_node w) h = refl
      go (parameter_node i) h = refl
      go (state_node i) h = refl
      go (delay_node i) h = refl
      go (binary_node k x y) h = absurd (omega (arith, h x (or_first (eqb x x) (member x (y ∷ [])) (eqb_refl x))))
      go (unary_node k x) h = absurd (omega (arith, h x (or_first (eqb x x) false (eqb_refl x))))

  -- so at least one is not computed
  pub phases_but_one : length (ccomps b v) + length (comps b v) + 1 ≤ length b.nodes
  unfolding control_computations sample_computations
  phases_but_one = go (length b.nodes) refl
    where
      control_plain : in_control 0 ≡ false
      control_plain = is_false (in_control 0) (λ t. rw first_plain at (and_second (get_or (cneed b v) 0 false) (is_computed (node_at b.nodes 0)) t))

      sample_plain : in_sample 0 ≡ false
      sample_plain =
          is_false (in_sample 0) (λ t.
          let e = sample_at (slots b v) b.nodes 0 (omega (arith, v.output)) in
          let c = sample_none (get_or (slots b v) 0 0) (node_at b.nodes 0) (rw e at (and_second (get_or (need b v) 0 false) (not (has_origin (origin_at (ss b v) 0))) t)) in
          rw first_plain at c.1)

      go : (n : ℕ) → length b.nodes ≡ n → length (filter in_control (count_up 0 n)) + length (filter in_sample (count_up 0 n)) + 1 ≤ n
      go zero e = absurd (omega (arith, v.output))
      go (suc n) e =
          let all : List ℕ = count_up 1 n in
          rw (control_plain, sample_plain)
          (omega (arith, filter_length in_control all, filter_length in_sample all, count_up_length 1 n, passing_apart in_control in_sample all not_both))

  -- the control phase's run
  pub control_ran : (mask : ℕ)
      → Post (Unit {0}) (Ran (control_setting b (plan_of b) mask) (slots b v) (costs (plan_of b).control_tasks) (begin (control_setting b (plan_of b) mask)))
      (allocate (control_setting b (plan_of b) mask) (plan_of b).control_tasks (begin (control_setting b (plan_of b) mask)))
  unfolding plan_of control_setting
  control_ran mask =
      let e : Setting = setting_of b.nodes (cs b v) (usable mask) (slots b v) true (count (slots b v)) in
      run_ran e (slots b v) (record { small = member_usable mask; ascending = usable_ascending mask }) (number_ok (homes b v))
      (control_tasks (slots b v) (ccomps b v)) [] 0 (begin e)
      (control_tasks_ok b v (usable mask) (count (slots b v))) (begin_inv e (slots b v) _) (λ w q t. absurd (omega arith))

  -- the sample phase's run
  pub sample_ran : (mask : ℕ)
      → Post (Unit {0}) (Ran (sample_setting b (plan_of b) mask) [] (costs (plan_of b).sample_tasks) (begin (sample_setting b (plan_of b) mask)))
      (allocate (sample_setting b (plan_of b) mask) (plan_of b).sample_tasks (begin (sample_setting b (plan_of b) mask)))
  unfolding plan_of sample_setting
  sample_ran mask =
      let e : Setting = setting_of b.nodes (ss b v) (usable mask) [] false 0 in
      run_ran e [] (record { small = member_usable mask; ascending = usable_ascending mask })
      (record { lt = λ n k h. absurd (omega arith); inj = λ m l k h g. absurd (omega arith) })
      (schedule b.nodes (ss b v) (writes b) (comps b v) b.output) [] 0 (begin e)
      (sample_tasks_ok b v (usable mask)) (begin_inv e [] _) (λ w q t. absurd (omega arith))

  -- seven steps a computation of the control phase
  pub control_cost : costs (plan_of b).control_tasks ≤ 7 * length (ccomps b v)
  unfolding plan_of
  control_cost = costs_control (slots b v) (ccomps b v)

  -- six a computation of the sample phase, five a write
  pub sample_cost : costs (plan_of b).sample_tasks ≤ 6 * length (comps b v) + 5 * (length b.states + length b.delays + 1)
  unfolding plan_of writes
  sample_cost =
      omega (
        arith,
        costs_schedule b.nodes (ss b v) (writes b) (comps b v) b.output,
        length-append (writes_from 10 0 b.states) (writes_from 11 0 b.delays),
        writes_count 10 0 b.states,
        writes_count 11 0 b.delays,
      )

  none_yet : (e : Setting) → length (begin e).steps ≡ 0
  unfolding begin
  none_yet e = refl

  slots_numbered : count (slots b v) ≤ length b.nodes
  slots_numbered = omega (arith, count_le (slots b v), number_length 0 (homes b v), homes_length b v)

  control_fits : (mask : ℕ)
      → let e : Setting = control_setting b (plan_of b) mask in Post (Unit {0}) (PhaseFits mask (7 * length (ccomps b v)) (length b.nodes))
      (allocate e (plan_of b).control_tasks (begin e))
  unfolding control_setting plan_of
  control_fits mask =
      let e : Setting = control_setting b (plan_of b) mask in
      post_map (Both e (slots b v) (costs (plan_of b).control_tasks)) _ (allocate e (plan_of b).control_tasks (begin e))
      (post_and _ _ (allocate e (plan_of b).control_tasks (begin e)) (control_ran mask) (run_slots e (plan_of b).control_tasks))
      (λ s h. record {
        steps = omega (arith, h.0.grow, none_yet e, control_cost);
        slots = omega (arith, h.1, slots_numbered);
        most = h.0.good.held;
      })

  sample_fits : (mask : ℕ)
      → let e : Setting = sample_setting b (plan_of b) mask in Post (Unit {0})
      (PhaseFits mask (6 * length (comps b v) + 5 * (length b.states + length b.delays + 1)) 0) (allocate e (plan_of b).sample_tasks (begin e))
  unfolding sample_setting plan_of
  sample_fits mask =
      let e : Setting = sample_setting b (plan_of b) mask in
      post_map (Both e [] (costs (plan_of b).sample_tasks)) _ (allocate e (plan_of b).sample_tasks (begin e))
      (post_and _ _ (allocate e (plan_of b).sample_tasks (begin e)) (sample_ran mask) (run_slots e (plan_of b).sample_tasks))
      (λ s h. record {
        steps = omega (arith, h.0.grow, none_yet e, sample_cost);
        slots = omega (arith, h.1);
        most = h.0.good.held;
      })

  -- both phases
  pub flow_fits : (mask : ℕ) → Post (Unit {0}) (DraftFits b mask) (compile_flow b mask)
  unfolding compile_flow compile_plan draft_of
  flow_fits mask =
      let c : Setting = control_setting b (plan_of b) mask in
      let s : Setting = sample_setting b (plan_of b) mask in
      post_bind (Unit {0}) (PhaseFits mask (7 * length (ccomps b v)) (length b.nodes)) _ (allocate c (plan_of b).control_tasks (begin c)) _
      (control_fits mask) (λ x p.
      post_bind (Unit {0}) (PhaseFits mask (6 * length (comps b v) + 5 * (length b.states + length b.delays + 1)) 0) _
      (allocate s (plan_of b).sample_tasks (begin s)) _ (sample_fits mask) (λ y q.
      record {
        steps = omega (arith, p.steps, q.steps, phases);
        slots = omega (arith, p.slots);
        spills = omega (arith, q.slots);
        most = max_le x.most y.most (length (usable mask)) p.most q.most;
      }))
