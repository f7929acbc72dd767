-- `write_rendering`: each way out is a case of the definition. Assumes nothing.
use Rattle.std.proofs.Common.{arith}
use Rattle.house.specs.WriteLaws.{rendering_many, rendering_room, rendering_written}
use Rattle.house.proofs.write_rendering.Goals as goal

pub returns-in_default : goal.returns-in_default
returns-in_default c = rendering_many c.args.engine c.args.samples.now c.args.bytes.now (grind (arith, c.in_default.ensures))

pub returns-then-bytes-need : goal.returns-then-bytes-need
returns-then-bytes-need c = rendering_room c.args.engine c.args.samples.now c.args.bytes.now _ (let h = c.in-Ok.ensures in omega (arith, c.rendering_bytes-need.ensures)) c.if-bytes-need.true

pub returns : goal.returns
returns c =
    let h = c.in-Ok.ensures in
    rendering_written c.args.engine c.args.samples.now c.args.bytes.now _ (omega (arith, c.rendering_bytes-need.ensures)) (omega arith) c.if-bytes-need.false c.from.ensures c.write_file.ensures
