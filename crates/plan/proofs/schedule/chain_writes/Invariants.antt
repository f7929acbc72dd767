use mathlib.Core.Path.{◌≡◌}
use mathlib.Core.List.{◌++◌}
use Prim.Native.Nat.{◌+◌}
use lib.ListN.{length}
use Rattle.plan.specs.Chains.{Reading, chain_writes}
use Rattle.plan.proofs.schedule.chain_writes.Given as goal

abbrev pub invariant-loop-w : goal.invariant-loop-w
invariant-loop-w l = (length l.work ≡ length l.initial.work) × (Reading l.flow.sizes l.initial.work → Reading l.flow.sizes l.work) × (chain_writes l.flow.sizes l.flow.nodes.now (l.flow.updates.now ++ l.flow.stores.now) l.w l.work ≡ chain_writes l.flow.sizes l.flow.nodes.now (l.flow.updates.now ++ l.flow.stores.now) (l.flow.sizes.states + l.flow.sizes.delays) l.initial.work)
