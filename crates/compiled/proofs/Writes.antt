-- How often an update's memory is written: once where it is asked for, else never. Assumes nothing.
use Rattle.std.specs.Prelude.{◌≡◌, true, ℕ, get_or}
use Rattle.std.proofs.Math.Path.{refl}
use native.Mathlib.Omega.{arith}
use Rattle.plan.specs.Nodes.{Flow}
use Rattle.plan.specs.Schedule.{writes_from, writes}
use Rattle.compiled.specs.Writes.{asked_once, total, total_append, from_here, from_other, state_law, delay_law}

pub states_once : (g : Flow) (i : ℕ) → total 10 i (λ w. true) (writes g) ≡ asked_once (get_or g.states i 0)
unfolding writes
states_once g i =
    omega (
      arith,
      total_append 10 i (writes_from 10 0 g.states) (writes_from 11 0 g.delays),
      from_here 10 i 10 (state_law 10 i) refl g.states 0 i (omega arith),
      from_other 10 i 11 (delay_law 10 i) (λ (z : ◌≡◌ {A = ℕ} 11 10). omega arith) g.delays 0,
    )

pub delays_once : (g : Flow) (i : ℕ) → total 11 i (λ w. true) (writes g) ≡ asked_once (get_or g.delays i 0)
unfolding writes
delays_once g i =
    omega (
      arith,
      total_append 11 i (writes_from 10 0 g.states) (writes_from 11 0 g.delays),
      from_here 11 i 11 (delay_law 11 i) refl g.delays 0 i (omega arith),
      from_other 11 i 10 (state_law 11 i) (λ (z : ◌≡◌ {A = ℕ} 10 11). omega arith) g.states 0,
    )
