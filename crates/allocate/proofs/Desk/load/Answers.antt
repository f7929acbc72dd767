-- `load`: a load's code has four bits. Assumes nothing.
use Rattle.allocate.specs.Ready.{supply_code}
use Rattle.allocate.proofs.Desk.load.Goals as goal

pub bring-requires-clause-small : goal.bring-requires-clause-small
bring-requires-clause-small c = (rw c.supply_of-from.ensures (supply_code _ _ _ _), c.requires.wide.1.1.1)
