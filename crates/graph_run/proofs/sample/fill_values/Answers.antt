-- `fill_values`: before turn k the first k words are the values of the first k nodes. Assumes nothing.
use mathlib.Core.Path.{refl}
use lib.ListN.{length-set}
use native.Mathlib.Omega.{arith}
use Rattle.graph_run.specs.SampleLaws.{values_start, values_next}
use Rattle.graph_run.proofs.sample.fill_values.Goals as goal

pub loop-k-init : goal.loop-k-init
loop-k-init c = record { long = refl; so_far = values_start _ _ _ _ c.args.values.now }

pub loop-k-preserved : goal.loop-k-preserved
loop-k-preserved c =
    record {
      long = simp length-set c.loop-k.invariant.long;
      so_far = values_next _ _ _ _ _ _ _ (omega arith) c.loop-k.invariant.so_far c.value_of-v.ensures;
    }
