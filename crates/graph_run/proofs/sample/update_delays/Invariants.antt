use Rattle.memory.specs.Lent.{the_lengths, the_memories, KeepsTables}
use Rattle.graph_run.specs.SampleLaws.{Storing}
use Rattle.graph_run.proofs.sample.update_delays.Given as goal

abbrev pub invariant-loop-i : goal.invariant-loop-i
invariant-loop-i l =
    record {
      stored : Storing l.graph.stores.now (the_lengths l.graph.lines) l.values (the_memories l.initial.memories) (the_memories l.memories) l.i;
      same_tables : KeepsTables l.initial.memories l.memories;
    }
