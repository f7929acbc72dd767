use Rattle.memory.specs.Lent.{the_lengths, the_memories, the_given}
use Rattle.graph_run.specs.Sample.{values_to}
use mathlib.Core.Path.{◌≡◌}
use lib.ListN.{length, take}
use Rattle.graph_run.proofs.sample.fill_values.Given as goal

abbrev pub invariant-loop-k : goal.invariant-loop-k
invariant-loop-k l =
    record {
      long : length l.values ≡ length l.initial.values;
      so_far : take l.k l.values ≡ values_to l.graph.nodes.now (the_lengths l.graph.lines) (the_given l.given) (the_memories l.memories) l.k;
    }
