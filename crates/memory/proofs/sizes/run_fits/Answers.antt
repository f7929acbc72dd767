-- `run_fits`: each way out is one part of the definition's conjunction. Assumes nothing.
use mathlib.Core.Path.{sym, ◌∙◌}
use Rattle.std.proofs.Common.{rules}
use Rattle.tables.specs.Tests.{◌&◌, clash}
use Rattle.memory.specs.Sizes.{run_fits}
use Rattle.memory.specs.SizeLaws.{held}
use Rattle.memory.proofs.sizes.run_fits.Goals.{then-signals-block, else-signals-block}
use Rattle.memory.proofs.sizes.run_fits.Goals as goal

pub cursors_below-requires : goal.cursors_below-requires
cursors_below-requires c =
    elim c.if-signals-block.branch [
      | then-signals-block w ↦ (held _ _ (sym w.memories_fit.ensures ∙ (sym w.value-is ∙ c.if-memories_fit.true))).cursors
      | else-signals-block w ↦ clash _ c.if-memories_fit.true (w.value-is ∙ w.if-signals-block.false)
    ]

pub returns-then-memories_fit : goal.returns-then-memories_fit
unfolding run_fits ◌&◌
returns-then-memories_fit c = search rules

pub returns-else-memories_fit : goal.returns-else-memories_fit
unfolding run_fits ◌&◌
returns-else-memories_fit c = search rules
