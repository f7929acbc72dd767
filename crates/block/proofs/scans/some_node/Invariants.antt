use Rattle.std.specs.Prelude.{◌≡◌, Bool, false, ℕ}
use Rattle.tables.specs.Loops.{some}
use Rattle.block.specs.Block.{code, first, second}
use Rattle.block.proofs.scans.some_node.Given as goal

abbrev pub invariant-loop-i : goal.invariant-loop-i
invariant-loop-i g l =
    (passes : ℕ → Bool) → ((i : ℕ) (b : Bool) → goal.F-post g l.test (code l.nodes i) (first l.nodes i) (second l.nodes i) b → b ≡ passes i) → some passes l.i ≡ false
