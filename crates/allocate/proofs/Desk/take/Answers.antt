-- `take`: the table is wide still once a register is emptied. Assumes nothing.
use Rattle.std.proofs.Common.{◌≡◌, ap, ◌∙◌, List, ℕ, length, length-set}
use Rattle.tables.specs.Tests.{cond_pred}
use Rattle.allocate.specs.declared.Frame.{Frame}
use Rattle.allocate.specs.Layout.{Wide}
use Rattle.allocate.specs.Registers.{reloads}
use Rattle.allocate.specs.Desk.{Desk, emitted, spilt, evicted}
use Rattle.allocate.proofs.Desk.take.Goals as goal

-- a node that leaves its register leaves the table as long as it was
as_long : (frame : Frame) (node register : ℕ) (d e : Desk) → e ≡ evicted frame node register d → length e.work ≡ length d.work
unfolding evicted spilt emitted
as_long frame node register d e q =
    ap (λ (x : Desk). length x.work) q
    ∙ cond_pred (λ (x : Desk). length x.work ≡ length d.work) (reloads frame d.work node) (λ _. simp length-set) (λ _. simp length-set)

wide_still : (frame : Frame) (old new : List ℕ) → Wide frame old → length new ≡ length old → Wide frame new
wide_still frame old new w l = record { some = w.some; small = w.small; states = w.states; delays = w.delays; wide = rw l w.wide }

pub settle-requires-2 : goal.settle-requires-2
settle-requires-2 c =
    let q = c.requires in
    (wide_still _ _ _ q.wide.0 (as_long _ _ _ _ _ c.evict.ensures.done), (q.wide.1.0, c.in_ok-full.ensures.register))
