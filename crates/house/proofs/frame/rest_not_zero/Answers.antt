-- `rest_not_zero`: before the turn at `place` no word between the used ones and it is other than 0. Assumes nothing.
use Rattle.std.proofs.Common.{◌≡◌, ◌+◌, ◌-◌, arith}
use Rattle.tables.specs.Loops.{some_start, some_next}
use Rattle.house.specs.FrameLaws.{rest_found, rest_next, rest_clear}
use Rattle.house.proofs.frame.rest_not_zero.Goals as goal

pub loop-place-init : goal.loop-place-init
loop-place-init c = let z : c.block_word-used.result - c.block_word-used.result ≡ 0 = omega arith in (omega arith, rw z (some_start _))

pub returns-then-block_word-ne0 : goal.returns-then-block_word-ne0
returns-then-block_word-ne0 c =
    let u = c.block_word-used.result in
    let z : u + (c.loop-place.place - u) ≡ c.loop-place.place = omega (arith, c.loop-place.auto.place) in
    rest_found _ _ _ c.block_word-used.ensures (c.loop-place.place - u) _ (omega (arith, c.loop-place.auto.place)) (rw z c.block_word.ensures) c.if-block_word-ne0.true

pub loop-place-preserved : goal.loop-place-preserved
loop-place-preserved c =
    let u = c.block_word-used.result in
    let z : u + (c.loop-place.place - u) ≡ c.loop-place.place = omega (arith, c.loop-place.auto.place) in
    let n : c.loop-place.place + 1 - u ≡ c.loop-place.place - u + 1 = omega (arith, c.loop-place.auto.place) in
    (omega arith, rw n (some_next _ (c.loop-place.place - u) c.loop-place.invariant.1 (rest_next _ _ _ c.block_word-used.ensures (c.loop-place.place - u) _ (rw z c.block_word.ensures) c.if-block_word-ne0.false)))

pub returns : goal.returns
returns c = rest_clear _ _ _ c.block_word-used.ensures (c.loop-place.place - c.block_word-used.result) c.loop-place.invariant.0 (omega (arith, c.loop-place-test.false)) c.loop-place.invariant.1
