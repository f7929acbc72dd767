use mathlib.Core.Path.{◌≡◌}
use Prim.Native.Nat.{◌+◌, ◌≤◌}
use lib.ListN.{length}
use Rattle.plan.specs.Chains.{Chained}
use Rattle.plan.specs.ChainLaws.{Pushing, to_go}
use Rattle.plan.proofs.schedule.push_chain.Given as goal

abbrev pub invariant-loop-word : goal.invariant-loop-word
invariant-loop-word l = (length l.work ≡ length l.initial.work) × (l.word ≤ l.sizes.states + l.sizes.delays) × (Chained l.sizes l.initial.work → l.place ≤ l.sizes.nodes → Pushing l.sizes l.initial.work l.work l.place l.tasks l.total l.word)

abbrev pub decreases-loop-word : goal.decreases-loop-word
decreases-loop-word l = to_go (l.sizes.states + l.sizes.delays) l.word
