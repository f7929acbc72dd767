-- `put_payload`: the bytes of the used words, and those of the rest behind them. Assumes nothing.
use Rattle.std.proofs.Common.{◌≡◌, length, sym, arith, length-take-le, rules}
use Rattle.house.specs.BytesLaws.{put_parts}
use Rattle.house.proofs.blocks.put_payload.Goals as goal

pub slice_bounds-put_words-end : goal.slice_bounds-put_words-end
slice_bounds-put_words-end c =
    let n : length c.args.payload ≡ 124 = search rules in
    let k = c.min-count.ensures in
    sym (length-take-le c.min-count.result c.args.payload (omega arith))

pub put_words-requires : goal.put_words-requires
put_words-requires c =
    let n : length c.args.payload ≡ 124 = search rules in
    let k = c.min-count.ensures in
    let t = length-take-le c.min-count.result c.args.payload (omega arith) in
    omega arith

pub returns : goal.returns
returns c =
    let n : length c.args.payload ≡ 124 = search rules in
    let k = c.min-count.ensures in
    put_parts c.args.payload _ _ _ _ 124 c.min-count.result n (omega arith) c.put_words.ensures c.put_words-2.ensures
