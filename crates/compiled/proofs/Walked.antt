-- What goes through the walk and stands in the tables the checker passes: both phases. Of a good graph. Assumes nothing.
use Rattle.std.specs.Prelude.{◌≡◌, refl, ◌⊎◌, Bool, Some}
use Rattle.std.proofs.Math.Path.{subst}
use Rattle.std.proofs.Common.{inl, inr, eq-or-lt_of_le}
use Rattle.std.proofs.Math.Bool.{true, false}
use mathlib.Core.List.{List, [], ◌∷◌, ◌++◌}
use Prim.Native.Nat.{ℕ, suc, ◌+◌, ◌≤◌, ◌<◌}
use native.Mathlib.Omega.{arith}
use Rattle.std.proofs.Math.ListN.{length}
use Rattle.std.proofs.Math.Dec.{eqb}
use borrow.Author.Tests.{eq-eqb}
use Rattle.block.specs.declared.Counts.{Counts}
use Rattle.expand.specs.Graph.{Graph}
use Rattle.kernel.specs.declared.Phase.{Phase}
use Rattle.kernel.specs.declared.Phase.TheVariants.{Control, Sample}
use Rattle.kernel.specs.declared.Kernel.{Kernel}
use Rattle.kernel.specs.Steps.{step_at}
use Rattle.checker.specs.Walk.{Listing, Held, after_step, emptied, walked, words_pass, nothing_missing}
use Rattle.allocate.specs.Actions.{Action, store_output}
use Rattle.allocate.specs.ActionWords.{step_of, operation_in}
use Rattle.compile.specs.Draft.{usable}
use Rattle.compiled.specs.Marks.{Marks, goes, walk_action, walk_actions}
use Rattle.compiled.specs.Went.{Okay, go_on_goes, action_after}
use Rattle.compiled.specs.Stands.{Stands}
use Rattle.compiled.specs.Passes.{Sound, list}
use Rattle.compiled.specs.SamplePasses.{sample_rules, held_sample, sample_passes, output_passes}
use Rattle.compiled.specs.ControlPasses.{control_rules, held_control, control_passes}
use Rattle.compiled.specs.Left.{Left}
use Rattle.compiled.proofs.Left.{left_free, left_next, nothing_missing_lem}

-- what holds of i, and of each j behind it
here_or_behind : (P : ℕ → Type 0) (i j : ℕ) → i ≤ j → P i → (suc i ≤ j → P j) → P j
here_or_behind P i j l here behind = go (eq-or-lt_of_le l)
  where
    go : (i ≡ j) ⊎ (i < j) → P j
    go (inl e) = subst P e here
    go (inr q) = behind q

module _ (counts : Counts) (g : Graph) (sound : Sound counts g) (mask : ℕ) (k : Kernel) (steps instructions : List ℕ) where
  abbrev L : Listing
  L = list counts g mask k steps instructions

  -- the words at a step's place, before which this is held, pass
  passes_there : (phase : Phase) (last : Bool) (h h₀ : Held) (at : ℕ) (number : ℕ) (x : Action) → step_at steps at ≡ Some (step_of number x) → h ≡ h₀
      → words_pass L phase last h₀ (Some (step_of number x)) ≡ true → words_pass L phase last h (step_at steps at) ≡ true
  passes_there phase last h h₀ at number x e q p = rw (e, q) p

  -- what is held after one step more
  one_more_lem : (h h₀ h₁ : Held) (from i number : ℕ) (x : Action) → step_at steps (from + i) ≡ Some (step_of number x) → walked L h from i ≡ h₀
      → after_step L h₀ (step_of number x) ≡ h₁ → walked L h from (suc i) ≡ h₁
  unfolding walked
  one_more_lem h h₀ h₁ from i number x e q p = rw (e, q) p

  -- ---- the control phase
  abbrev PassesControl : ℕ → Type 0
  PassesControl j = words_pass L Control false (walked L (emptied L) 0 j) (step_at steps (0 + j)) ≡ true

  -- THE CONTROL PHASE, from its step i on
  pub control_walk : (xs : List Action) (m m' : Marks) (i number : ℕ) → Stands steps instructions k.instructions (0 + i) number xs
      → walked L (emptied L) 0 i ≡ held_control g k m
      → walk_actions (usable mask) true (control_rules g k) m xs ≡ goes m' → Okay mask k.slots m → (n : ℕ) → n ≡ i + length xs
      → ((j : ℕ) → i ≤ j → j < n → PassesControl j) × (walked L (emptied L) 0 n ≡ held_control g k m') × Okay mask k.slots m'
  control_walk [] m m' i number s w h o n e =
      let z : n ≡ i = omega arith in
      let y : m ≡ m' = cc in
      ((λ j a b. absurd (omega arith)), rw (z, ← y) w, rw (← y) o)
  control_walk (x ∷ xs) m m' i number s w h o n e =
      let (m₁, q, h₁) = go_on_goes (walk_action (usable mask) true (control_rules g k) m x)
      (λ n. walk_actions (usable mask) true (control_rules g k) n xs) m' h in
      let p = control_passes counts g sound mask k steps instructions number x m m₁ s.1 q o in
      let a = action_after g mask true [] k.slots x m m₁ q o in
      let z : suc (0 + i) ≡ 0 + suc i = omega arith in
      let rest = control_walk xs m₁ m' (suc i) (number + length (operation_in x)) (rw z at s.2)
      (one_more_lem (emptied L) (held_control g k m) (held_control g k m₁) 0 i number x s.0 w p.next) h₁ a.0 n (omega arith) in (
        (λ j b c. here_or_behind PassesControl i j b
            (passes_there Control false (walked L (emptied L) 0 i) (held_control g k m) (0 + i) number x s.0 w (p.passes false))
            (λ d. rest.0 j d c)),
        rest.1,
        rest.2,
      )

  -- ---- the sample phase: actions, and the output store behind them
  module _ (control_slots : List ℕ) (long : length control_slots ≡ k.slots) (h : Held) (from n : ℕ) where
    abbrev PassesSample : ℕ → Type 0
    PassesSample j = words_pass L Sample (eqb (suc j) n) (walked L h from j) (step_at steps (from + j)) ≡ true

    -- THE SAMPLE PHASE, from its step i on: every step passes, and nothing is missing at the end
    pub sample_walk : (ys : List Action) (r : ℕ) (m m' : Marks) (i number : ℕ)
        → Stands steps instructions k.instructions (from + i) number (ys ++ (store_output r ∷ []))
        → walked L h from i ≡ held_sample control_slots m
        → walk_actions (usable mask) false (sample_rules g k control_slots) m (ys ++ (store_output r ∷ [])) ≡ goes m' → Okay mask k.spills m → Left g m ys
        → n ≡ i + length ys + 1 → ((j : ℕ) → i ≤ j → j < n → PassesSample j) × (nothing_missing L (walked L h from n) ≡ true)
    unfolding after_step
    sample_walk [] r m m' i number s w e o l z =
        let (m₁, q, _) = go_on_goes (walk_action (usable mask) false (sample_rules g k control_slots) m (store_output r)) (λ n. goes n) m' e in
        let last : eqb (suc i) n ≡ true = eq-eqb (suc i) n (omega arith) in
        let here : PassesSample i =
        passes_there Sample (eqb (suc i) n) (walked L h from i) (held_sample control_slots m) (from + i) number (store_output r) s.0 w
        (rw last (output_passes counts g sound mask k steps instructions control_slots r m m₁ q o)) in
        let y : n ≡ suc i = omega arith in
        ((λ j a b. let t : i ≡ j = omega arith in subst PassesSample t here), rw y (end s.0 l))
      where
        end : step_at steps (from + i) ≡ Some (step_of number (store_output r)) → Left g m [] → nothing_missing L (walked L h from (suc i)) ≡ true
        end t l =
            rw (one_more_lem h (held_sample control_slots m) _ from i number (store_output r) t w refl)
            (nothing_missing_lem L _ (λ i. omega (arith, l.states i)) (λ i. omega (arith, l.delays i)) refl)
    sample_walk (x ∷ ys) r m m' i number s w e o l z =
        let (m₁, q, e₁) = go_on_goes (walk_action (usable mask) false (sample_rules g k control_slots) m x)
        (λ n. walk_actions (usable mask) false (sample_rules g k control_slots) n (ys ++ (store_output r ∷ []))) m' e in
        let p = sample_passes counts g sound mask k steps instructions control_slots long number x m m₁ s.1 q o (left_free g x m ys l) in
        let a = action_after g mask false control_slots k.spills x m m₁ q o in
        let y : suc (from + i) ≡ from + suc i = omega arith in
        let rest = sample_walk ys r m₁ m' (suc i) (number + length (operation_in x)) (rw y at s.2)
        (one_more_lem h (held_sample control_slots m) (held_sample control_slots m₁) from i number x s.0 w p.step.next)
        e₁ a.0 (left_next g x m m₁ ys l p.states p.delays) (omega arith) in (
          (λ j b c. here_or_behind PassesSample i j b
              (passes_there Sample (eqb (suc i) n) (walked L h from i) (held_sample control_slots m) (from + i) number x s.0 w (p.step.passes (eqb (suc i) n)))
              (λ d. rest.0 j d c)),
          rest.1,
        )
