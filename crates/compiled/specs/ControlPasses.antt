-- An action of the control phase that the walk goes through passes the checker. Of a good graph. Assumes nothing.
use Rattle.std.specs.Prelude.{◌≡◌, Bool, ◌||◌, length, get_or, replicate}
use Rattle.std.proofs.Math.Path.{refl, sym, ap}
use Rattle.std.proofs.Common.{◌∙◌, lt-ltb}
use Rattle.std.proofs.Math.Bool.{true, false, cond}
use mathlib.Core.List.{List, []}
use Prim.Native.Nat.{ℕ, suc}
use native.Mathlib.Omega.{arith}
use Rattle.block.specs.declared.Counts.{Counts}
use Rattle.expand.specs.Graph.{Graph}
use Rattle.kernel.specs.declared.Source.{Source}
use Rattle.kernel.specs.declared.Step.TheVariants.{Load, StoreControl}
use Rattle.kernel.specs.declared.Phase.TheVariants.{Control}
use Rattle.kernel.specs.declared.Kernel.{Kernel}
use Rattle.kernel.specs.Steps.{source_code, source_index, source_in_control}
use Rattle.checker.specs.Walk as Checker
use Rattle.checker.specs.Walk.{Listing, Held, held, with_register, after_step}
use Rattle.plan.specs.Lists.{is_some}
use Rattle.allocate.specs.Actions.{Action, load, compute, spill, reload, store_state, store_delay, store_output, store_control}
use Rattle.allocate.specs.ActionWords.{step_of}
use Rattle.compile.specs.Draft.{usable}
use Rattle.compiled.specs.Marks.{Marks, Rules, goes, loaded_class, walk_action, not_goes}
use Rattle.compiled.specs.Meanings.{rules, leaf_code}
use Rattle.compiled.specs.Went.{put_register_lem, put_slot_lem, in_mask_lem, Okay, held_in_mask}
use Rattle.compiled.specs.Stands.{Computed}
use Rattle.compiled.specs.Passes.{Sound, list, Passed, passes_by, source_inside_lem, operation_passes}

-- the rules of the control phase
abbrev pub control_rules : Graph → Kernel → Rules
control_rules g k = rules g true [] k.slots

-- what is held in the control phase, by the marks: no spill slot is filled, nothing is stored
abbrev pub held_control : Graph → Kernel → Marks → Held
held_control g k m = held m.registers m.slots (replicate k.spills 0) (replicate (length g.state_updates) 0) (replicate (length g.delay_updates) 0) 0

module _ (counts : Counts) (g : Graph) (sound : Sound counts g) (mask : ℕ) (k : Kernel) (steps instructions : List ℕ) where
  abbrev L : Listing
  L = list counts g mask k steps instructions

  -- "control has codes 3, 6, 7 and 13 only": a load goes through for a parameter or a control slot alone
  load_control : (m : Marks) (source : Source) (class : ℕ) → loaded_class true (control_rules g k) m (source_code source) (source_index source) ≡ suc class
      → (Checker.loaded_class g (held_control g k m) source ≡ suc class) × (source_in_control source ≡ true)
  unfolding rules leaf_code
  load_control m Source.Audio class e = absurd (omega arith)
  load_control m Source.Network class e = absurd (omega arith)
  load_control m (Source.Parameter i) class e = (e, refl)
  load_control m (Source.State i) class e = absurd (go (is_some (get_or m.states_stored i 0)) e)
    where
      go : (t : Bool) → cond (t || false) 0 0 ≡ suc class → ⊥
      go true e = omega arith
      go false e = omega arith
  load_control m (Source.Delay i) class e = absurd (go (is_some (get_or m.delays_stored i 0)) e)
    where
      go : (t : Bool) → cond t 0 0 ≡ suc class → ⊥
      go true e = omega arith
      go false e = omega arith
  load_control m (Source.Control slot) class e = (e, refl)

  pub control_passes : (number : ℕ) (x : Action) (m m₁ : Marks) → Computed steps instructions k.instructions number x
      → walk_action (usable mask) true (control_rules g k) m x ≡ goes m₁ → Okay mask k.slots m
      → Passed L Control (held_control g k m) (step_of number x) (held_control g k m₁)
  unfolding walk_action rules after_step
  control_passes number (load source r) m m₁ c h o =
      let word : ℕ = loaded_class true (control_rules g k) m (source_code source) (source_index source) in
      let p = put_register_lem (usable mask) m r word m₁ h in
      let (w, a) = load_control m source p.class p.is in
      record {
        passes = λ last.
            passes_by L Control last (held_control g k m) (Load source r) p.class a
            (source_inside_lem counts g sound mask k steps instructions (held_control g k m) source p.class o.long w) refl (in_mask_lem mask r p.inside) refl w;
        next = ap (with_register (held_control g k m) r) (w ∙ sym p.is) ∙ ap (held_control g k) (sym p.next);
      }
  control_passes number (compute operation) m m₁ c h o =
      let (class, p, e) =
      operation_passes counts g sound mask k steps instructions Control true [] k.slots (held_control g k m) number operation m m₁ c refl refl h o in
      record { passes = p.passes; next = p.next ∙ ap (held_control g k) (sym e) }
  control_passes number (spill slot r) m m₁ c h o = not_goes m₁ h
  control_passes number (reload slot r) m m₁ c h o = not_goes m₁ h
  control_passes number (store_state i r) m m₁ c h o = not_goes m₁ h
  control_passes number (store_delay i r) m m₁ c h o = not_goes m₁ h
  control_passes number (store_output r) m m₁ c h o = not_goes m₁ h
  control_passes number (store_control slot r) m m₁ c h o =
      let p = put_slot_lem (control_rules g k) m slot (get_or m.registers r 0) m₁ h in
      record {
        passes = λ last.
            passes_by L Control last (held_control g k m) (StoreControl slot r) p.class refl (lt-ltb slot k.slots p.inside) refl
            (held_in_mask mask k.slots m r p.class o p.is) refl p.is;
        next = ap (held_control g k) (sym p.next);
      }
