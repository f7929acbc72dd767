-- `cursors_below`: all pass exactly where every cursor is below its length. Assumes nothing.
use Rattle.std.proofs.Common.{rules, ◌<◌, ℕ, ◌*◌, length, get_or, IsTrue, ◌↔◌}
use Rattle.std.proofs.iter.runs.Sources.{ranges}
use Rattle.block.specs.Block.{block}
use Rattle.memory.specs.SizeLaws.{all_below}
use Rattle.memory.proofs.sizes.cursors_below.Goals as goal

pub returns : goal.returns
returns c h p s n =
    let e : IsTrue c.all.result ↔ ((i : ℕ) → i < length c.args.cursors.now → get_or c.args.cursors.now i 0 < get_or c.args.delays.now (2 * i) 0) = search (rules, ranges) in
    all_below (block h p s c.args.delays.now n) _ c.requires e
