-- `allocate_phase`: the invariant is that nothing was refused yet and the desk is the one after the tasks so far. Assumes nothing.
use Rattle.std.proofs.Common.{◌≡◌, refl, ap, ◌∙◌, Bool, true, false, not, ℕ, ◌+◌, ◌<◌, Option, Some, None, is_some, arith}
use Rattle.std.specs.Prelude.{IfSome}
use Rattle.allocate.specs.Registers.{register_or_16}
use Rattle.allocate.specs.Desk.{Choice}
use Rattle.allocate.specs.Tasks.{ran}
use Rattle.allocate.specs.TaskArms.{ran_start, ran_next, ended_refused, ended_done}
use Rattle.allocate.specs.TaskReady.{turn_ready}
use Rattle.allocate.specs.Planned.{planned_fewer}
use Rattle.allocate.proofs.Desk.allocate_phase.Goals as goal

refused : (o : Option ℕ) (b : Bool) → is_some o ≡ not b → b ≡ true → register_or_16 o ≡ 16
refused (Some r) b h e = let z = rw e at h in cc
refused None b h e = refl

given : (o : Option ℕ) (b : Bool) → is_some o ≡ not b → b ≡ false → IfSome o (λ r. r < 16) → register_or_16 o ≡ 16 → ⊥
given (Some r) b h e l q = omega arith
given None b h e l q = let z = rw e at h in cc

pub loop-position-init : goal.loop-position-init
loop-position-init c = (record { work = refl; steps = refl; instructions = refl }, ran_start _ _ _)

pub operation-requires : goal.operation-requires
operation-requires c =
    let i = c.loop-position.invariant in
    let p = c.loop-position.position in
    let t = turn_ready _ _ _ _ c.requires p c.loop-position-test.true _ i.1.1 i.1.0 in
    ((t.0.0, planned_fewer _ _ (p + 1) c.args.count _ (omega arith) t.0.1), t.1)

pub returns-then-is_none-clause-done : goal.returns-then-is_none-clause-done
returns-then-is_none-clause-done c =
    let i = c.loop-position.invariant in
    let p = c.loop-position.position in
    let e = c.operation.ensures.done ∙ (ap (ran _ _ p) i.1.1 ∙ ran_next _ _ _ p i.1.0) in
    ended_refused _ _ _ p c.args.count (omega arith) _ e (refused _ _ c.is_none.ensures c.if-is_none.true)

pub loop-position-preserved : goal.loop-position-preserved
loop-position-preserved c =
    let i = c.loop-position.invariant in
    let p = c.loop-position.position in
    let s = c.operation.ensures.same_tables in
    let e = c.operation.ensures.done ∙ (ap (ran _ _ p) i.1.1 ∙ ran_next _ _ _ p i.1.0) in (
      record { work = s.work ∙ i.0.work; steps = s.steps ∙ i.0.steps; instructions = s.instructions ∙ i.0.instructions },
      ((λ q. given _ _ c.is_none.ensures c.if-is_none.false c.operation.ensures.register (ap (λ (x : Choice). x.register) e ∙ q)), ap (λ (x : Choice). x.desk) e),
    )

pub returns-clause-done : goal.returns-clause-done
returns-clause-done c =
    let i = c.loop-position.invariant in
    ended_done _ _ _ c.loop-position.position _ (omega arith) i.1.0 _ i.1.1
