-- `put`: after k places the registers are those that came with the one place set if it was among them (specs/Registers). Assumes nothing.
use mathlib.Core.Path.{◌≡◌, ◌∙◌}
use native.Mathlib.Omega.{arith}
use Rattle.machine.specs.Registers.{up_to_start, up_to_next, up_to_end}
use lib.ListN.{length}
use borrow.Author.Rules.{rules}
use Rattle.machine.proofs.registers.put.Goals as goal

pub loop-k-init : goal.loop-k-init
loop-k-init c = up_to_start _ _ _

pub loop-k-preserved : goal.loop-k-preserved
loop-k-preserved c = up_to_next _ _ _ _ _ _ c.loop-k.invariant c.pick.ensures

pub returns : goal.returns
returns c =
    let l : length c.args.registers ≡ 16 = search rules in
    let k : c.loop-k.k ≡ length c.args.registers = omega arith in
    c.loop-k.invariant ∙ rw k (up_to_end _ _ _)
