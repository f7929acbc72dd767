-- `end`: a sample that both have, or the ends. Assumes nothing.
use mathlib.Core.Path.{◌∙◌}
use Rattle.stream.specs.CompareLaws.{end_is, end_sample, end_nothing, end_ends}
use Rattle.stream.proofs.Comparison.end.Goals as goal

pub returns-then-self-end : goal.returns-then-self-end
returns-then-self-end c =
    let e = end_sample c.args.first c.args.second c.args.self.equal c.args.self.one c.args.self.two _ c.min-end.ensures c.if-self-end.true in
    record { kept = e; of_bytes = λ x y u v l k f g h i. e ∙ end_is _ _ _ x y u v l k f g h i }

pub returns-then-first-second : goal.returns-then-first-second
returns-then-first-second c =
    let e = end_nothing c.args.first c.args.second c.args.self.equal c.args.self.one c.args.self.two _ c.min-end.ensures c.if-self-end.false c.if-first-second.true in
    record { kept = e; of_bytes = λ x y u v l k f g h i. e ∙ end_is _ _ _ x y u v l k f g h i }

pub returns : goal.returns
returns c =
    let e = end_ends c.args.first c.args.second c.args.self.equal c.args.self.one c.args.self.two _ c.min-end.ensures c.if-self-end.false c.if-first-second.false in
    record { kept = e; of_bytes = λ x y u v l k f g h i. e ∙ end_is _ _ _ x y u v l k f g h i }
