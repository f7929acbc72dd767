-- `chain_writes`: at each turn what is left is done from the chains made so far. Assumes nothing.
use Prim.Native.Nat.{◌-◌}
use native.Mathlib.Omega.{arith}
use Rattle.plan.specs.LastLaws.{chain_kept, chains_next, chains_end}
use Rattle.plan.proofs.schedule.chain_writes.Goals as goal

pub update_of-requires : goal.update_of-requires
update_of-requires c = omega (arith, c.loop-w-test.true, c.requires.3, c.requires.4)

pub chain_write-requires : goal.chain_write-requires
chain_write-requires c = (rw c.loop-w.invariant.0 c.requires.0, c.loop-w.invariant.1 c.requires.1, omega (arith, c.loop-w-test.true), omega (arith, c.update_of.ensures, c.requires.2 (c.loop-w.w - 1)))

pub loop-w-preserved : goal.loop-w-preserved
loop-w-preserved c = (omega (arith, c.loop-w.invariant.0), λ h. chain_kept _ _ _ _ _ _ (c.loop-w.invariant.1 h) c.chain_write.ensures, chains_next _ _ _ _ c.loop-w.w _ _ _ _ (omega (arith, c.loop-w-test.true)) c.loop-w.invariant.2 c.update_of.ensures c.chain_write.ensures)

pub returns : goal.returns
returns c = chains_end _ _ _ c.loop-w.w _ _ (omega arith) c.loop-w.invariant.2
