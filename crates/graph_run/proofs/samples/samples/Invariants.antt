use Rattle.memory.specs.Lent.{the_memories, the_signals, KeepsTables}
use Rattle.memory.specs.Signals.{rendered}
use Rattle.graph_run.specs.Ready.{the_graph}
use Rattle.graph_run.specs.RunLaws.{Going}
use mathlib.Core.Path.{◌≡◌}
use lib.ListN.{length}
use Rattle.graph_run.proofs.samples.samples.Given as goal

abbrev pub invariant-loop-t : goal.invariant-loop-t
invariant-loop-t l =
    record {
      long : length l.values ≡ length l.initial.values;
      going : Going (the_graph (length l.initial.values) l.graph) l.flag (the_signals l.signals) (rendered l.initial.output (the_memories l.initial.memories)) l.output (the_memories l.memories) l.t;
      same_tables : KeepsTables l.initial.memories l.memories;
    }
