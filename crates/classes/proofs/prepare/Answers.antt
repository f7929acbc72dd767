-- `classes::prepare` meets its contract. Assumes nothing.
use mathlib.Core.Path.{ap, ◌∙◌}
use mathlib.Core.List.{List}
use Prim.Native.Nat.{ℕ}
use lib.ListN.{length, get_or}
use Rattle.tables.specs.Zeros.{zeros_at}
use Rattle.classes.specs.Index.{fresh_filled}
use Rattle.classes.proofs.prepare.Goals as goal

pub insert_all-requires : goal.insert_all-requires
insert_all-requires c = fresh_filled c.requires c.zero.ensures

pub returns : goal.returns
returns c = (c.insert_all.ensures.0, λ i h. c.insert_all.ensures.1 i h ∙ (ap (λ (l : List ℕ). get_or l i 0) c.zero.ensures ∙ zeros_at (length c.args.work.now) i))
