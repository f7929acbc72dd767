use Rattle.house.specs.FileLaws.{Going}
use Rattle.house.proofs.blocks.write_file.Given as goal

abbrev pub invariant-loop-b : goal.invariant-loop-b
invariant-loop-b g l = Going l.kind (g.P.Words.words l.payload) l.count l.b-end l.initial.bytes l.bytes l.b
