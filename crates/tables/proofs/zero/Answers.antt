-- `zero` meets its contract: it zeroes the part from 0 to the table's end, and that is the whole table (`zeroed_all`). Assumes nothing.
use mathlib.Core.Path.{◌≡◌, ◌∙◌}
use Prim.Native.Nat.{◌-◌}
use native.Mathlib.Nat.{sub-zero}
use lib.ListN.{length}
use Rattle.tables.specs.Zeros.{zeros, zeroed, zeroed_all}
use Rattle.tables.proofs.zero.Goals as goal

pub returns : goal.returns
returns c =
    let t = c.args.table.now in
    let e : zeroed 0 (length t - 0) t ≡ zeros (length t) = rw sub-zero (zeroed_all t) in
    c.zero_part.ensures ∙ e
