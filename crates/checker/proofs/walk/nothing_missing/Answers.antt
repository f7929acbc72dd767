-- `nothing_missing`: each test is one of the definition, in its order. Assumes nothing.
use Rattle.std.proofs.Common.{rules, sym, ◌∙◌, arith}
use Rattle.tables.specs.Parts.{length_part}
use Rattle.tables.specs.Tests.{◌&◌}
use Rattle.checker.specs.Table.{held_of}
use Rattle.checker.specs.WalkLaws.{misses_nothing}
use Rattle.checker.proofs.walk.nothing_missing.Goals as goal

pub stored_if_asked-requires : goal.stored_if_asked-requires
stored_if_asked-requires c = let r = c.requires in rw (c.words.ensures, c.state_flags.ensures) (r.states ∙ sym (length_part _ _ _ (omega (arith, r.room))))

pub stored_if_asked-requires-then-stored_if_asked : goal.stored_if_asked-requires-then-stored_if_asked
stored_if_asked-requires-then-stored_if_asked c = let r = c.requires in rw (c.words-then-stored_if_asked.ensures, c.delay_flags.ensures) (r.delays ∙ sym (length_part _ _ _ (omega (arith, r.room))))

pub returns-then-stored_if_asked-2 : goal.returns-then-stored_if_asked-2
unfolding misses_nothing held_of ◌&◌
returns-then-stored_if_asked-2 c = search rules

pub returns-else-stored_if_asked-2 : goal.returns-else-stored_if_asked-2
unfolding misses_nothing held_of ◌&◌
returns-else-stored_if_asked-2 c = search rules
