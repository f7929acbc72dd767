-- `free_register`: the invariant is the search that is left. Assumes nothing.
use Rattle.std.proofs.Common.{◌≡◌, sym, ◌∙◌, arith}
use Rattle.allocate.specs.Registers.{free_hit, free_miss, free_end}
use Rattle.allocate.proofs.registers.free_register.Goals as goal

pub returns-then-is_free-clause-found : goal.returns-then-is_free-clause-found
returns-then-is_free-clause-found c =
    sym (c.loop-r.invariant ∙ free_hit 16 c.loop-r.r _ _ (omega arith) (sym c.is_free.ensures ∙ c.if-is_free.true))

pub loop-r-preserved : goal.loop-r-preserved
loop-r-preserved c = c.loop-r.invariant ∙ free_miss 16 c.loop-r.r _ _ (omega arith) (sym c.is_free.ensures ∙ c.if-is_free.false)

pub returns-clause-found : goal.returns-clause-found
returns-clause-found c =
    let e : c.loop-r.r ≡ 16 = omega arith in
    sym (c.loop-r.invariant ∙ (free_end 16 c.loop-r.r _ _ (omega arith) ∙ e))
