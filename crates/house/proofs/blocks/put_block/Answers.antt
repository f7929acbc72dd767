-- `put_block`: five stores, one behind the other, and the sum of what they store. Assumes nothing.
use Rattle.std.proofs.Common.{◌≡◌, length, refl, rules}
use Rattle.house.specs.BytesLaws.{block_sum, block_closed}
use Rattle.house.proofs.blocks.put_block.Goals as goal

pub returns : goal.returns
returns c =
    let n : length c.args.payload ≡ 124 = search rules in
    let s = block_sum c.args.kind c.args.number c.args.used _ _ _ _ c.args.payload refl refl c.payload_sum.ensures refl in
    block_closed _ _ _ _ _ _ _ c.args.kind c.args.number c.args.used _ c.args.payload n s c.put.ensures c.put-2.ensures c.put-3.ensures c.put_payload.ensures c.put-4.ensures
