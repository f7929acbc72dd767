-- codegen.rs: `compile_with` in its own forms is compile. Assumes nothing.
use Rattle.std.specs.Prelude.{◌≡◌, Bool, List, [], ℕ, ◌+◌, ◌*◌, ◌≤◌, length}
use Rattle.std.proofs.Math.Path.{refl, ap}
use Rattle.std.proofs.Common.{sym, ◌∙◌, arith}
use Rattle.tables.specs.Lists.{list_length}
use Rattle.block.specs.Block.{Block, state_count, delay_count}
use Rattle.block.specs.Validation.{counts_of}
use Rattle.block.specs.Valid.{Valid}
use Rattle.expand.specs.Graph.{mapped_update, graph_of}
use Rattle.expand.specs.GraphLaws.{good_graph}
use Rattle.plan.specs.Flow.{flow_of}
use Rattle.plan.specs.FlowLaws.{flow_length, good_flow}
use Rattle.plan.specs.Lists.{count}
use Rattle.plan.specs.Nodes.{Flow}
use Rattle.plan.specs.Schedule.{Plan, plan_of}
use Rattle.plan.specs.Planned.{GoodFlow, slots}
use Rattle.plan.specs.RustPlan.{plan_rust}
use Rattle.plan.specs.PlanSame.{plan_same}
use Rattle.allocate.specs.State.{Allocated, allocated, all_locked, and_then, Setting, State, begin}
use Rattle.allocate.specs.Allocator.{allocate}
use Rattle.allocate.specs.Scheduled.{sample_tasks_ok, control_tasks_ok}
use Rattle.allocate.specs.RustAllocator.{usize_max, allocate_rust}
use Rattle.allocate.specs.RustTwins.{with_fresh, Alike}
use Rattle.allocate.specs.RustSame.{allocate_rust_lem}
use Rattle.allocate.specs.Costs.{tasks_le}
use Rattle.allocate.specs.RunLaws.{TasksOk}
use Rattle.compile.specs.Draft.{Draft, usable, control_setting, sample_setting, draft_of, compile_plan, compile_flow}
use Rattle.compile.specs.Words.{compiled_of}
use Rattle.compile.specs.Compile.{compile}
use Rattle.compile.specs.PhasesFit.{phases, control_cost, sample_cost}

-- codegen.rs: `compile_with`
unfoldable pub compile_rust : Flow → ℕ → Allocated Draft
compile_rust flow mask =
    let plan : Plan = plan_rust flow in
    and_then (allocate_rust (control_setting flow plan mask) plan.control_tasks (begin (control_setting flow plan mask)))
    (λ control.
    and_then (allocate_rust (sample_setting flow plan mask) plan.sample_tasks (begin (sample_setting flow plan mask)))
    (λ sample. allocated (draft_of control sample)))

-- the tasks of both phases are as the allocator asks
control_plan_ok : (g : Flow) (v : GoodFlow g) (mask : ℕ) → TasksOk (control_setting g (plan_of g) mask) (slots g v) [] 0 (plan_of g).control_tasks
unfolding control_setting plan_of
control_plan_ok g v mask = control_tasks_ok g v (usable mask) (count (slots g v))

sample_plan_ok : (g : Flow) (v : GoodFlow g) (mask : ℕ) → TasksOk (sample_setting g (plan_of g) mask) [] [] 0 (plan_of g).sample_tasks
unfolding sample_setting plan_of
sample_plan_ok g v mask = sample_tasks_ok g v (usable mask)

module _ (g : Flow) (v : GoodFlow g) (few : 7 * length g.nodes + 5 * (length g.states + length g.delays + 1) ≤ usize_max) where
  control_alike : (mask : ℕ) → let e : Setting = control_setting g (plan_of g) mask in
      Alike e (allocate e (plan_of g).control_tasks (begin e)) (allocate_rust e (plan_of g).control_tasks (begin e))
  control_alike mask =
      allocate_rust_lem (control_setting g (plan_of g) mask) (slots g v) (plan_of g).control_tasks (control_plan_ok g v mask)
      (omega (arith, tasks_le (plan_of g).control_tasks, control_cost g v, phases g v))

  sample_alike : (mask : ℕ) → let e : Setting = sample_setting g (plan_of g) mask in
      Alike e (allocate e (plan_of g).sample_tasks (begin e)) (allocate_rust e (plan_of g).sample_tasks (begin e))
  sample_alike mask =
      allocate_rust_lem (sample_setting g (plan_of g) mask) [] (plan_of g).sample_tasks (sample_plan_ok g v mask)
      (omega (arith, tasks_le (plan_of g).sample_tasks, sample_cost g v, phases g v))

  -- steps, slots and registers do not depend on what is fresh
  second : (e₂ : Setting) (c : State) (fr : List Bool) (x y : Allocated State) → Alike e₂ x y
      → and_then y (λ s. allocated (draft_of (with_fresh fr c) s)) ≡ and_then x (λ s. allocated (draft_of c s))
  unfolding draft_of
  second e₂ c fr (allocated s) (allocated t) k = ap (λ (z : State). allocated (draft_of (with_fresh fr c) z)) k.1
  second e₂ c fr (allocated s) all_locked k = absurd k
  second e₂ c fr all_locked (allocated t) k = absurd k
  second e₂ c fr all_locked all_locked k = refl

  first : (e₁ e₂ : Setting) (x y x₂ y₂ : Allocated State) → Alike e₁ x y → Alike e₂ x₂ y₂
      → and_then y (λ c. and_then y₂ (λ s. allocated (draft_of c s))) ≡ and_then x (λ c. and_then x₂ (λ s. allocated (draft_of c s)))
  first e₁ e₂ (allocated c) (allocated d) x₂ y₂ k l = ap (λ (z : State). and_then y₂ (λ s. allocated (draft_of z s))) k.1 ∙ second e₂ c k.0 x₂ y₂ l
  first e₁ e₂ (allocated c) all_locked x₂ y₂ k l = absurd k
  first e₁ e₂ all_locked (allocated d) x₂ y₂ k l = absurd k
  first e₁ e₂ all_locked all_locked x₂ y₂ k l = refl

  -- THE RUST'S COMPILE is compile
  pub compile_rust_lem : (mask : ℕ) → compile_rust g mask ≡ compile_flow g mask
  unfolding compile_rust compile_flow compile_plan
  compile_rust_lem mask =
      rw (plan_same g v)
      (first (control_setting g (plan_of g) mask) (sample_setting g (plan_of g) mask)
      (allocate (control_setting g (plan_of g) mask) (plan_of g).control_tasks (begin (control_setting g (plan_of g) mask)))
      (allocate_rust (control_setting g (plan_of g) mask) (plan_of g).control_tasks (begin (control_setting g (plan_of g) mask)))
      (allocate (sample_setting g (plan_of g) mask) (plan_of g).sample_tasks (begin (sample_setting g (plan_of g) mask)))
      (allocate_rust (sample_setting g (plan_of g) mask) (plan_of g).sample_tasks (begin (sample_setting g (plan_of g) mask)))
      (control_alike mask) (sample_alike mask))

-- of a valid block
flow_rust : (b : Block) → Valid b → (mask : ℕ) → compile_rust (flow_of (graph_of b)) mask ≡ compile_flow (flow_of (graph_of b)) mask
unfolding graph_of flow_of
flow_rust b valid mask =
    compile_rust_lem (flow_of (graph_of b)) (good_flow (counts_of b) (graph_of b) (good_graph b valid))
    (omega (
      arith,
      flow_length (graph_of b),
      list_length (mapped_update b b.states) (state_count b),
      list_length (mapped_update b b.delays) (delay_count b),
      valid.fits,
      valid.state_limit,
      valid.delay_limit,
    ))
    mask

-- .. and so its words
pub block_rust : (b : Block) → Valid b → (mask : ℕ)
    → compile (graph_of b) mask ≡ and_then (compile_rust (flow_of (graph_of b)) mask) (λ draft. allocated (compiled_of draft))
unfolding compile
block_rust b valid mask = ap (λ (x : Allocated Draft). and_then x (λ draft. allocated (compiled_of draft))) (sym (flow_rust b valid mask))
