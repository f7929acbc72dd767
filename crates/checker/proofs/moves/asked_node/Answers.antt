-- `asked_node`: the register must hold the node's own class, which the index keeps. Assumes nothing.
use native.Mathlib.Omega.{arith}
use Rattle.checker.specs.MoveLaws.{asked_empty, asked_same, asked_other}
use Rattle.checker.proofs.moves.asked_node.Goals as goal
use Rattle.checker.proofs.moves.asked_node.Goals.{else-class-ne0-via-then-class-ne0+else-class-own, else-class-ne0-via-else-class-ne0}

pub returns-then-class-own : goal.returns-then-class-own
returns-then-class-own c = let r = c.requires in asked_same _ _ _ r.indexed (omega (arith, r.room)) c.class_at-own.ensures c.if-class-ne0.true c.if-class-own.true

pub returns-else-class-ne0 : goal.returns-else-class-ne0
returns-else-class-ne0 c =
    let r = c.requires in
    elim c.else-class-ne0.branch [
      | else-class-ne0-via-then-class-ne0+else-class-own w ↦ asked_other _ _ _ r.indexed (omega (arith, r.room)) c.class_at-own.ensures w.if-class-ne0.true w.if-class-own.false
      | else-class-ne0-via-else-class-ne0 w ↦ asked_empty _ _ _ r.indexed (omega (arith, r.room)) c.class_at-own.ensures w.if-class-ne0.false
    ]
