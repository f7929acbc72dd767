use Rattle.graph_run.specs.Sample.{update_states}
use mathlib.Core.Path.{◌≡◌}
use Rattle.graph_run.proofs.sample.update_states.Given as goal

abbrev pub invariant-loop-i : goal.invariant-loop-i
invariant-loop-i l = (l.held ≡ update_states l.updates l.values l.initial.held l.i)
