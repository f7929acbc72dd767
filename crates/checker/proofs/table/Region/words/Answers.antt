-- `Region::words`: the slice is the part. Assumes nothing.
use Rattle.std.specs.Prelude.{◌≡◌, ◌+◌, ◌-◌}
use Rattle.std.proofs.Common.{arith}
use Rattle.tables.specs.Parts.{part}
use Rattle.checker.proofs.table.Region.words.Goals as goal

pub returns : goal.returns
unfolding part
returns c = let e : c.args.self.base + c.args.self.count - c.args.self.base ≡ c.args.self.count = omega arith in rw e
