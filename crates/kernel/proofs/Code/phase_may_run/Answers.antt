-- `Code::phase_may_run`: every number of the range passes the test of its step. Assumes nothing.
use Rattle.std.proofs.Common.{rules, tests, ◌≡◌, refl, Bool, true, false, ◌&&◌, ◌∙◌, ℕ, zero, suc, ◌+◌, arith}
use Rattle.std.specs.List.{list_all, range_with_len}
use Rattle.std.proofs.lemmas.Iterator.{YieldsList-from_range}
use Rattle.std.proofs.lemmas.Iterator.Search.{all_from_yields_List}
use Rattle.tables.specs.Tests.{◌&◌}
use Rattle.tables.specs.Loops.{every}
use Rattle.kernel.specs.Lists.{phase_may_run}
use Rattle.kernel.proofs.Code.phase_may_run.Goals as goal

-- the first index apart
every_front : (p : ℕ → Bool) (n : ℕ) → every p (suc n) ≡ (p 0 && every (λ i. p (suc i)) n)
unfolding every ◌&◌
every_front p zero = go (p 0)
  where
    go : (b : Bool) → (true && b) ≡ (b && true)
    go true = refl
    go false = refl
every_front p (suc n) = rw (every_front p n) (go (p 0) (every (λ i. p (suc i)) n) (p (suc n)))
  where
    go : (a b c : Bool) → ((a && b) && c) ≡ (a && (b && c))
    go true b c = refl
    go false b c = refl

every_range : (p q : ℕ → Bool) (a n : ℕ) → ((i : ℕ) → q i ≡ p (a + i)) → list_all p (range_with_len a n) ≡ every q n
unfolding every
every_range p q a zero e = refl
every_range p q a (suc n) e =
    let z : a + 0 ≡ a = omega arith in
    rw (every_front q n, every_range p (λ i. q (suc i)) (a + 1) n (λ i. let y : a + suc i ≡ a + 1 + i = omega arith in rw (e (suc i), y)), e 0, z)

pub returns : goal.returns
unfolding phase_may_run
returns c =
    let code = c.args.self.now in
    let p = phase_may_run c.args.sizes.now code.steps.now code.instructions.now c.args.phase c.args.first in
    all_from_yields_List p _ _ _ c.all.ensures.ran (YieldsList-from_range 0 c.args.count c.args.count refl (omega arith)) (λ x b q k. search (rules, tests))
    ∙ every_range p p 0 c.args.count (λ i. let z : 0 + i ≡ i = omega arith in rw z)
