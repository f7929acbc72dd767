-- `inner_share` is a plain copy. Assumes nothing.
use Rattle.std.proofs.Common.{◌∙◌}
use Rattle.house.specs.Gather.{samples_share}
use Rattle.house.proofs.gather.Samples.inner_share.Goals as goal

pub returns : goal.returns
returns c = c.copy_from_slice.ensures.after ∙ samples_share c.args.self.now.samples.now c.args.from c.requires
