use Rattle.classes.specs.Index.{Ready, Going, left}
use Rattle.classes.proofs.find_cell.Given as goal

abbrev pub invariant-loop-word : goal.invariant-loop-word
invariant-loop-word l = (r : Ready l.count l.nodes l.work) → Going l.count r.upto l.nodes l.work l.keys.code l.keys.first l.keys.second l.cell l.next l.after l.word

abbrev pub decreases-loop-word : goal.decreases-loop-word
decreases-loop-word l = left l.count l.word
