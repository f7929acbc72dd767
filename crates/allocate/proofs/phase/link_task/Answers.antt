-- `link_task`: the reads of the task that the table holds are nodes. Assumes nothing.
use Rattle.std.proofs.Common.{arith}
use Rattle.allocate.specs.Planned.{reads_below}
use Rattle.allocate.proofs.phase.link_task.Goals as goal

pub link_reads-requires : goal.link_reads-requires
link_reads-requires c =
    let q = c.requires in
    (q.0, (rw (c.reads_of-reads.ensures, c.task_at-at.ensures) (reads_below _ _ _ _ (q.1.tasks c.args.position (omega arith)) q.1.canonical), omega (arith, q.1.few)))
