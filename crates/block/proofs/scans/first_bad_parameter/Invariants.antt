use mathlib.Core.Path.{◌≡◌}
use Rattle.answers.specs.Numbers.{accepted}
use Rattle.answers.specs.Order.{in_order}
use Rattle.block.specs.Validation.{parameter_answer}
use Rattle.block.proofs.scans.first_bad_parameter.Given as goal

abbrev pub invariant-loop-i : goal.invariant-loop-i
invariant-loop-i l = (in_order (parameter_answer l.parameters) l.i ≡ accepted tt)
