-- Slots that are lent on again and again are in the same tables throughout. Assumes nothing.
use Rattle.std.proofs.Common.{refl, ◌∙◌}
use Rattle.machine.specs.declared.steps.Slots as lent
use Rattle.machine.specs.Tables.{KeepsSlots}

pub slots_start : {s : lent.Slots} → KeepsSlots s s
slots_start = record { control = refl; spills = refl }

pub slots_next : {a b c : lent.Slots} → KeepsSlots a b → KeepsSlots b c → KeepsSlots a c
slots_next f g = record { control = g.control ∙ f.control; spills = g.spills ∙ f.spills }
