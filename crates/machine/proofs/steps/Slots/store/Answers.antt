-- `Slots::store`: a store in the first words of a table, put back, is a store in the table; the other table was not lent. Assumes nothing.
use native.Mathlib.Numerals.{unary_clauses}
use mathlib.Core.Path.{refl}
use Rattle.machine.proofs.StepArms.{stored_control, stored_spills}
use Rattle.machine.proofs.steps.Slots.store.Goals as goal

pub returns-in-Control-clause-done : goal.returns-in-Control-clause-done
returns-in-Control-clause-done c =
    let s = simp unary_clauses at c.store.ensures in
    simp unary_clauses (stored_control _ c.args.self.now.control.now _ _ _ _ _ _ _ c.in-Control.is refl refl c.requires.slotted.slots (rw c.in-Control.is at c.requires.inside) s)

pub returns-in-Sample-clause-done : goal.returns-in-Sample-clause-done
returns-in-Sample-clause-done c =
    let s = simp unary_clauses at c.store-in-Sample.ensures in
    simp unary_clauses (stored_spills _ _ c.args.self.now.spills.now _ _ _ _ _ _ c.in-Sample.is refl refl c.requires.slotted.spilled (rw c.in-Sample.is at c.requires.inside) s)
