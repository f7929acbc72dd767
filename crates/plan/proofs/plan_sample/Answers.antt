-- `plan_sample`: what each function leaves is what the next one asks for. Assumes nothing.
use mathlib.Core.Path.{◌∙◌}
use Rattle.plan.specs.SampleTable.{share_updates, share_canonicals, share_reading, share_chained, sample_share}
use Rattle.plan.proofs.plan_sample.Goals as goal

pub last_reads-requires : goal.last_reads-requires
last_reads-requires c = (rw c.canonical.auto.work c.requires.0, share_canonicals c.args.flow.now.sizes c.args.flow.now.nodes.now c.args.flow.now.updates.now c.args.flow.now.stores.now c.args.flow.now.output c.args.work.now c.requires.0 c.requires.1 c.requires.2 c.requires.3 c.requires.4 c.requires.6 c.canonical.new.work c.canonical.ensures)

pub chain_writes-requires : goal.chain_writes-requires
chain_writes-requires c = (rw (c.last_reads.auto.work ∙ c.canonical.auto.work) c.requires.0, share_reading c.args.flow.now.sizes c.args.flow.now.nodes.now c.args.flow.now.updates.now c.args.flow.now.stores.now c.args.flow.now.output c.args.work.now c.requires.0 c.requires.1 c.requires.2 c.requires.3 c.requires.4 c.requires.6 c.canonical.new.work c.canonical.ensures c.last_reads.new.work c.last_reads.ensures, share_updates c.args.flow.now.sizes c.args.flow.now.nodes.now c.args.flow.now.updates.now c.args.flow.now.stores.now c.args.flow.now.output c.args.work.now c.requires.0 c.requires.1 c.requires.2 c.requires.3 c.requires.4 c.requires.6, c.requires.3, c.requires.4)

pub sample_tasks-requires : goal.sample_tasks-requires
sample_tasks-requires c = let s = share_chained c.args.flow.now.sizes c.args.flow.now.nodes.now c.args.flow.now.updates.now c.args.flow.now.stores.now c.args.flow.now.output c.args.work.now c.requires.0 c.requires.1 c.requires.2 c.requires.3 c.requires.4 c.requires.6 c.canonical.new.work c.canonical.ensures c.last_reads.new.work c.last_reads.ensures c.chain_writes.new.work c.chain_writes.ensures in (rw (c.chain_writes.auto.work ∙ (c.last_reads.auto.work ∙ c.canonical.auto.work)) c.requires.0, s.0, s.1)

pub returns : goal.returns
returns c = sample_share c.args.flow.now.sizes c.args.flow.now.nodes.now c.args.flow.now.updates.now c.args.flow.now.stores.now c.args.flow.now.output c.args.work.now c.requires.0 c.requires.1 c.requires.2 c.requires.3 c.requires.4 c.requires.6 c.canonical.new.work c.canonical.ensures c.last_reads.new.work c.last_reads.ensures c.chain_writes.new.work c.chain_writes.ensures c.sample_tasks.result c.sample_tasks.new.work c.sample_tasks.ensures
