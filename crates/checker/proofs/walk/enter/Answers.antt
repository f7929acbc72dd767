-- `enter`: the two zeroed parts are those of `entered_table`. Assumes nothing.
use Rattle.checker.specs.WalkLaws.{entered_is}
use Rattle.checker.proofs.walk.enter.Goals as goal

pub returns : goal.returns
returns c = entered_is c.args.terms _ _ _ (rw c.registers-registers.ensures at c.zero_part.ensures) (rw c.spill_slots-spills.ensures at c.zero_part-2.ensures)
