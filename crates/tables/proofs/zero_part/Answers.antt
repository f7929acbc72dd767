-- `zero_part` meets its contract: the part from `from` to the end is lent and comes back as zeros; past the end there is nothing to store. Assumes nothing.
use Rattle.std.proofs.Common.{rules, ◌≡◌, ◌∙◌, ◌-◌, length, arith}
use borrow.Rule.Slice.PartMut.{mid_of}
use Rattle.tables.specs.Zeros.{zeros, put_zeros, zeroed_start, zeroed_end}
use Rattle.tables.proofs.zero_part.Goals as goal

pub returns-then-from-end : goal.returns-then-from-end
returns-then-from-end c =
    let t = c.args.table.now in
    let n = c.min-end.result - c.args.from in
    let e : c.fill.new.self ≡ zeros (length (mid_of c.args.from n t)) = search rules in
    put_zeros c.args.from n t _ (omega arith) e ∙ zeroed_end c.args.from c.args.to c.min-end.result t (omega arith) (omega arith) (omega arith)

pub returns-else-from-end : goal.returns-else-from-end
returns-else-from-end c =
    let t = c.args.table.now in
    zeroed_start c.args.from t ∙ zeroed_end c.args.from c.args.to c.args.from t (omega arith) (omega arith) (omega arith)
