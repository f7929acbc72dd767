-- `after`: the later of the two. The check finds it alone; written out, since the edit that takes the earlier has to fail here. Assumes nothing.
use Rattle.std.specs.Prelude.{◌≡◌, ◌⊎◌, ℕ, ◌+◌, ◌≤◌, ◌<◌, max, not}
use Rattle.std.proofs.Common.{ap, ◌∙◌, inl, inr, arith}
use Rattle.std.proofs.lemmas.Bool.{cases_order}
use Rattle.plan.specs.LastLaws.{after_own, after_later}
use Rattle.plan.proofs.schedule.after.Goals as goal

latest : (read own x : ℕ) → (read < own → own ≡ x) → (own ≤ read → read ≡ x) → max read own ≡ x
latest read own x f g = go (cases_order read own)
  where
    go : (read ≡ own) ⊎ ((read < own) ⊎ (own < read)) → max read own ≡ x
    go (inl e) = let m : max read own ≡ read = omega arith in m ∙ g (omega arith)
    go (inr (inl l)) = let m : max read own ≡ own = omega arith in m ∙ f l
    go (inr (inr l)) = let m : max read own ≡ read = omega arith in m ∙ g (omega arith)

pub returns-then-is_sample_computation : goal.returns-then-is_sample_computation
returns-then-is_sample_computation c =
    let own = after_own _ _ _ _ _ _ _ c.last_reader-read.ensures c.is_sample_computation.ensures (ap not c.if-is_sample_computation.true) in
    let read = after_later _ _ _ _ _ _ _ c.last_reader-read.ensures c.is_sample_computation.ensures (ap not c.if-is_sample_computation.true) in
    let e = latest _ _ _ own read in
    cc
