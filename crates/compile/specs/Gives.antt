-- With three usable registers or more there is a kernel: `compile_gives`, `call_accepts`. Assumes nothing.
use Rattle.std.specs.Prelude.{◌≡◌, refl, false, ◌≤◌, ℕ, length}
use Rattle.std.proofs.Common.{ap, ◌∙◌, arith}
use Rattle.answers.specs.Numbers.{accepted}
use Rattle.answers.specs.Order.{◌⨾◌, refuse}
use Rattle.answers.specs.OrderLaws.{then_pass, refuse_off}
use Rattle.block.specs.Block.{Block}
use Rattle.block.specs.Validation.{validation}
use Rattle.expand.specs.Graph.{Graph, graph_of}
use Rattle.plan.specs.ListLaws.{Ascending, ascending_filter}
use Rattle.plan.specs.Nodes.{Flow}
use Rattle.plan.specs.Schedule.{plan_of, Plan}
use Rattle.plan.specs.Flow.{flow_of}
use Rattle.allocate.specs.State.{Allocated, allocated, all_locked, and_then, begin}
use Rattle.allocate.specs.Allocator.{allocate}
use Rattle.allocate.specs.Outcomes.{post_bind, Any, Sure}
use Rattle.allocate.specs.Pressure.{run_sure}
use Rattle.compile.specs.Draft.{usable, usable_bit, compile_flow, compile_plan, control_setting, sample_setting, Draft}
use Rattle.compile.specs.Words.{Compiled, compiled_of}
use Rattle.compile.specs.Compile.{compile}
use Rattle.compile.specs.Call.{Tables, too_short, Done, compiled_answer, compile_judged, compile_answer, compile_call}

-- the usable registers ascend
pub usable_ascending : (mask : ℕ) → Ascending 0 (usable mask)
unfolding usable
usable_ascending mask = ascending_filter (usable_bit mask) 0 0 16 (omega arith)

flow_sure : (f : Flow) (mask : ℕ) → 3 ≤ length (usable mask) → Sure (compile_flow f mask)
unfolding compile_flow compile_plan control_setting sample_setting
flow_sure f mask h =
    let p : Plan = plan_of f in
    let c = control_setting f p mask in
    let s = sample_setting f p mask in
    post_bind ⊥ Any Any (allocate c p.control_tasks (begin c)) _ (run_sure c (usable_ascending mask) h _ _) (λ _ u.
    post_bind ⊥ Any Any (allocate s p.sample_tasks (begin s)) _ (run_sure s (usable_ascending mask) h _ _) (λ _ v. tt))

-- ANY BLOCK has a kernel for a mask of three registers or more
pub compile_gives : (graph : Graph) (mask : ℕ) → 3 ≤ length (usable mask) → (c : Compiled) × (compile graph mask ≡ allocated c)
unfolding compile
compile_gives graph mask h = go (compile_flow (flow_of graph) mask) (flow_sure (flow_of graph) mask h)
  where
    go : (x : Allocated Draft) → Sure x → (c : Compiled) × (and_then x (λ draft. allocated (compiled_of draft)) ≡ allocated c)
    go (allocated draft) s = (compiled_of draft, refl)
    go all_locked s = absurd s

-- so a call accepts every valid block, for such a mask, in tables that are long enough
pub call_accepts : (b : Block) (mask : ℕ) (t : Tables) → validation b ≡ accepted tt → too_short b t ≡ false → 3 ≤ length (usable mask)
    → (done : Done) × ((compile_call b mask t).answer ≡ accepted done)
unfolding compile_call compile_answer compile_judged
call_accepts b mask t v room h =
    let (c, e) = compile_gives (graph_of b) mask h in
    let judged : (validation b ⨾ refuse 13 (too_short b t)) ≡ accepted tt = then_pass (refuse 13 (too_short b t)) v ∙ refuse_off 13 room in
    (record { kernel = c.kernel; registers = c.registers }, then_pass (compiled_answer (compile (graph_of b) mask)) judged ∙ ap compiled_answer e)
