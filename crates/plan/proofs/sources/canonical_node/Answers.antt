-- `canonical_node`: a law for each way out. Assumes nothing.
use native.Mathlib.Omega.{arith}
use lib.ListN.{length-set}
use Rattle.plan.specs.SourceLaws.{place_low_of}
use Rattle.plan.proofs.sources.canonical_node.Goals as goal

pub home_place-requires : goal.home_place-requires
home_place-requires c = (c.first.ensures.word, c.requires.0.states)

pub overflow_add-home : goal.overflow_add-home
overflow_add-home c = omega (arith, c.homes.ensures, c.requires.0.room, c.requires.0.small, c.requires.0.states, c.requires.0.delays, place_low_of _ _ _ c.requires.0 _ c.requires.1 _ _ _ _ c.source_of-source.ensures (rw c.first.ensures.value at c.in-Some.ensures))

pub offset_bounds-work-home : goal.offset_bounds-work-home
offset_bounds-work-home c = omega (arith, c.homes.ensures, c.requires.0.room, c.requires.0.small, c.requires.0.states, c.requires.0.delays, place_low_of _ _ _ c.requires.0 _ c.requires.1 _ _ _ _ c.source_of-source.ensures (rw c.first.ensures.value at c.in-Some.ensures))

pub bounds-work-home : goal.bounds-work-home
bounds-work-home c = simp length-set (omega (arith, c.homes.ensures, c.requires.0.room, place_low_of _ _ _ c.requires.0 _ c.requires.1 _ _ _ _ c.source_of-source.ensures (rw c.first.ensures.value at c.in-Some.ensures)))

pub offset_bounds-work-home-then-found-eq0 : goal.offset_bounds-work-home-then-found-eq0
offset_bounds-work-home-then-found-eq0 c = omega (arith, c.homes.ensures, c.requires.0.room, c.requires.0.small, c.requires.0.states, c.requires.0.delays, place_low_of _ _ _ c.requires.0 _ c.requires.1 _ _ _ _ c.source_of-source.ensures (rw c.first.ensures.value at c.in-Some.ensures))

pub bounds-work-home-then-found-eq0 : goal.bounds-work-home-then-found-eq0
bounds-work-home-then-found-eq0 c = simp length-set (omega (arith, c.homes.ensures, c.requires.0.room, place_low_of _ _ _ c.requires.0 _ c.requires.1 _ _ _ _ c.source_of-source.ensures (rw c.first.ensures.value at c.in-Some.ensures)))
