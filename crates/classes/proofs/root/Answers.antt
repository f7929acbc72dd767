-- `classes::root` meets its contract. Assumes nothing.
use native.Mathlib.Omega.{arith}
use Rattle.classes.specs.Start.{root, bucket_in, buckets_upto, later_max}
use Rattle.classes.proofs.root.Goals as goal

pub overflow_mul-before : goal.overflow_mul-before
overflow_mul-before c = omega (arith, buckets_upto c.args.count c.args.keys.code c.args.keys.listed, c.requires)

pub overflow_add-result : goal.overflow_add-result
overflow_add-result c = omega (arith, buckets_upto c.args.count c.args.keys.code c.args.keys.listed, c.requires)

pub overflow_add-result-2 : goal.overflow_add-result-2
overflow_add-result-2 c = rw c.bucket_of-bucket.ensures (omega (arith, buckets_upto c.args.count c.args.keys.code c.args.keys.listed, c.requires, bucket_in c.args.count c.max.result))

pub returns : goal.returns
unfolding root
returns c = rw (c.bucket_of-bucket.ensures, c.max.ensures, later_max)
