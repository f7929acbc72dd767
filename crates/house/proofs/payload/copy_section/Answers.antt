-- `copy_section`: before a turn the first i words of the section are copied. Assumes nothing.
use Rattle.std.proofs.Common.{◌≡◌, length, refl, ap, ◌∙◌, arith}
use lib.Seq.{length-sets}
use Rattle.house.specs.PayloadLaws.{section_start, section_next}
use Rattle.house.proofs.payload.copy_section.Goals as goal

pub loop-i-init : goal.loop-i-init
loop-i-init c = (omega arith, (refl, section_start c.args.bytes.now c.args.from _))

pub loop-i-preserved : goal.loop-i-preserved
loop-i-preserved c =
    let v = c.loop-i.invariant in
    (omega arith, (ap length c.copy_words.ensures ∙ (simp length-sets v.1.0), section_next c.args.bytes.now c.args.from c.loop-i.i c.min-here.result _ _ _ _ _ v.1.1 refl refl (omega arith) c.copy_words.ensures))

pub shape_of-table : goal.shape_of-table
shape_of-table c = c.loop-i.invariant.1.0

pub returns : goal.returns
returns c = let z : c.loop-i.i ≡ c.args.count = omega arith in rw (← z) c.loop-i.invariant.1.1
