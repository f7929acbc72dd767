-- `refuse`: number and first value are the refusal's own, and `put` writes the value.
use Rattle.capi.specs.Crossing.{refusal_crosses}
use Rattle.capi.proofs.crosses.refuse.Goals as goal

pub returns : goal.returns
returns c = refusal_crosses c.args.refusal _ _ c.args.answer.now _ c.number.ensures c.value.ensures c.put.ensures
