-- An action of the sample phase that the walk goes through passes the checker. Of a good graph. Assumes nothing.
use Rattle.std.specs.Prelude.{◌≡◌, Bool, ◌||◌, List, length, set}
use Rattle.std.proofs.Math.Path.{refl, sym, ap}
use Rattle.std.proofs.Common.{◌∙◌, arith, lt-ltb}
use Rattle.std.proofs.Math.Bool.{true, false, cond}
use Prim.Native.Nat.{ℕ, zero, suc, ◌<◌}
use Rattle.std.proofs.Math.ListN.{get_or}
use Rattle.block.specs.declared.Counts.{Counts}
use Rattle.expand.specs.Graph.{Graph}
use Rattle.kernel.specs.declared.Source.{Source}
use Rattle.kernel.specs.declared.Step.TheVariants.{Load, Spill, Reload, StoreState, StoreDelay, StoreOutput}
use Rattle.kernel.specs.declared.Phase.TheVariants.{Sample}
use Rattle.kernel.specs.declared.Kernel.{Kernel}
use Rattle.kernel.specs.Steps.{source_code, source_index, allowed_in}
use Rattle.checker.specs.Walk as Checker
use Rattle.checker.specs.Walk.{Listing, Held, held, fetched, asked, moved_class, with_register, after_step, step_passes}
use Rattle.plan.specs.Lists.{is_some}
use Rattle.allocate.specs.Actions.{Action, load, compute, spill, reload, store_state, store_delay, store_output, store_control}
use Rattle.allocate.specs.ActionWords.{step_of}
use Rattle.allocate.specs.Invariants.{some_lt}
use Rattle.compile.specs.Draft.{usable}
use Rattle.compiled.specs.Marks.{Marks, Rules, goes, loaded_class, walk_action, not_goes}
use Rattle.compiled.specs.Meanings.{rules, leaf_code, class_word}
use Rattle.compiled.specs.Went.{put_register_lem, put_slot_lem, put_stored, in_mask_lem, Okay, held_in_mask}
use Rattle.compiled.specs.Stands.{Computed}
use Rattle.compiled.specs.Passes.{Sound, list, Passed, passes_by, unless_free, unless_gone, asked_is, source_inside_lem, operation_passes}

-- the rules of the sample phase, whose control slots hold these classes
abbrev pub sample_rules : Graph → Kernel → List ℕ → Rules
sample_rules g k control_slots = rules g false control_slots k.spills

-- what is held in the sample phase, by the marks; the output store comes last
abbrev pub held_sample : List ℕ → Marks → Held
held_sample control_slots m = held m.registers control_slots m.slots m.states_stored m.delays_stored 0

-- a store finds its memory not yet stored; the output store is the last step and has its own law
abbrev pub Free : Marks → Action → Type 0
Free m (load source r) = Unit {0}
Free m (compute operation) = Unit {0}
Free m (spill slot r) = Unit {0}
Free m (reload slot r) = Unit {0}
Free m (store_state i r) = get_or m.states_stored i 0 ≡ 0
Free m (store_delay i r) = get_or m.delays_stored i 0 ≡ 0
Free m (store_output r) = ⊥
Free m (store_control slot r) = Unit {0}

-- which states an action leaves stored, and which delays
abbrev pub after_states : Action → List ℕ → List ℕ
after_states (load source r) l = l
after_states (compute operation) l = l
after_states (spill slot r) l = l
after_states (reload slot r) l = l
after_states (store_state i r) l = set l i 1
after_states (store_delay i r) l = l
after_states (store_output r) l = l
after_states (store_control slot r) l = l

abbrev pub after_delays : Action → List ℕ → List ℕ
after_delays (load source r) l = l
after_delays (compute operation) l = l
after_delays (spill slot r) l = l
after_delays (reload slot r) l = l
after_delays (store_state i r) l = l
after_delays (store_delay i r) l = set l i 1
after_delays (store_output r) l = l
after_delays (store_control slot r) l = l

-- an update that asks for a class is inside its table
update_inside : (g : Graph) (updates : List ℕ) (i class : ℕ) → suc class ≡ class_word g (get_or updates i 0) → i < length updates
update_inside g updates i class e = go (get_or updates i 0) refl e
  where
    go : (u : ℕ) → get_or updates i 0 ≡ u → suc class ≡ class_word g u → i < length updates
    go zero q e = absurd (omega arith)
    go (suc n) q e = some_lt updates i n q

module _ (counts : Counts) (g : Graph) (sound : Sound counts g) (mask : ℕ) (k : Kernel) (steps instructions : List ℕ) (control_slots : List ℕ) where
  abbrev L : Listing
  L = list counts g mask k steps instructions

  pub record SamplePassed (number : ℕ) (x : Action) (m m₁ : Marks) : Type 0 where
    pub step : Passed L Sample (held_sample control_slots m) (step_of number x) (held_sample control_slots m₁)
    pub states : m₁.states_stored ≡ after_states x m.states_stored
    pub delays : m₁.delays_stored ≡ after_delays x m.delays_stored

  -- the marks' class of a load is the checker's
  load_same : (m : Marks) (source : Source)
      → loaded_class false (sample_rules g k control_slots) m (source_code source) (source_index source) ≡ Checker.loaded_class g (held_sample control_slots m) source
  unfolding rules leaf_code
  load_same m Source.Audio = refl
  load_same m Source.Network = refl
  load_same m (Source.Parameter i) = refl
  load_same m (Source.State i) = or_no (is_some (get_or m.states_stored i 0)) ∙ unless_gone (get_or m.states_stored i 0) (fetched g 3 i)
    where
      or_no : (b : Bool) → cond (b || false) 0 (fetched g 3 i) ≡ cond b 0 (fetched g 3 i)
      or_no true = refl
      or_no false = refl
  load_same m (Source.Delay i) = unless_gone (get_or m.delays_stored i 0) (fetched g 4 i)
  load_same m (Source.Control slot) = refl

  load_allowed : (source : Source) (r : ℕ) → allowed_in Sample (Load source r) ≡ true
  load_allowed Source.Audio r = refl
  load_allowed Source.Network r = refl
  load_allowed (Source.Parameter i) r = refl
  load_allowed (Source.State i) r = refl
  load_allowed (Source.Delay i) r = refl
  load_allowed (Source.Control slot) r = refl

  pub sample_passes : length control_slots ≡ k.slots → (number : ℕ) (x : Action) (m m₁ : Marks) → Computed steps instructions k.instructions number x
      → walk_action (usable mask) false (sample_rules g k control_slots) m x ≡ goes m₁ → Okay mask k.spills m → Free m x → SamplePassed number x m m₁
  unfolding walk_action rules after_step
  sample_passes z number (load source r) m m₁ c h o f =
      let word : ℕ = loaded_class false (sample_rules g k control_slots) m (source_code source) (source_index source) in
      let p = put_register_lem (usable mask) m r word m₁ h in
      let w : Checker.loaded_class g (held_sample control_slots m) source ≡ suc p.class = sym (load_same m source) ∙ p.is in
      record {
        step =
            record {
              passes = λ last.
                  passes_by L Sample last (held_sample control_slots m) (Load source r) p.class (load_allowed source r)
                  (source_inside_lem counts g sound mask k steps instructions (held_sample control_slots m) source p.class z w) refl
                  (in_mask_lem mask r p.inside) refl w;
              next = ap (with_register (held_sample control_slots m) r) (w ∙ sym p.is) ∙ ap (held_sample control_slots) (sym p.next);
            };
        states = ap (λ (y : Marks). y.states_stored) p.next;
        delays = ap (λ (y : Marks). y.delays_stored) p.next;
      }
  sample_passes z number (compute operation) m m₁ c h o f =
      let (class, p, e) =
      operation_passes counts g sound mask k steps instructions Sample false control_slots k.spills
      (held_sample control_slots m) number operation m m₁ c refl refl h o in
      record {
        step = record { passes = p.passes; next = p.next ∙ ap (held_sample control_slots) (sym e) };
        states = ap (λ (y : Marks). y.states_stored) e;
        delays = ap (λ (y : Marks). y.delays_stored) e;
      }
  sample_passes z number (spill slot r) m m₁ c h o f =
      let p = put_slot_lem (sample_rules g k control_slots) m slot (get_or m.registers r 0) m₁ h in
      record {
        step =
            record {
              passes = λ last.
                  passes_by L Sample last (held_sample control_slots m) (Spill slot r) p.class refl (lt-ltb slot k.spills p.inside) refl
                  (held_in_mask mask k.spills m r p.class o p.is) refl p.is;
              next = ap (held_sample control_slots) (sym p.next);
            };
        states = ap (λ (y : Marks). y.states_stored) p.next;
        delays = ap (λ (y : Marks). y.delays_stored) p.next;
      }
  sample_passes z number (reload slot r) m m₁ c h o f =
      let p = put_register_lem (usable mask) m r (get_or m.slots slot 0) m₁ h in
      record {
        step =
            record {
              passes = λ last.
                  passes_by L Sample last (held_sample control_slots m) (Reload slot r) p.class refl
                  (lt-ltb slot k.spills (omega (arith, o.long, some_lt m.slots slot p.class p.is))) refl (in_mask_lem mask r p.inside) refl p.is;
              next = ap (held_sample control_slots) (sym p.next);
            };
        states = ap (λ (y : Marks). y.states_stored) p.next;
        delays = ap (λ (y : Marks). y.delays_stored) p.next;
      }
  sample_passes z number (store_state i r) m m₁ c h o f =
      let p = put_stored false (sample_rules g k control_slots) m 10 i r m₁ h in
      let u : ℕ = get_or g.state_updates i 0 in
      let w : moved_class g instructions (held_sample control_slots m) (StoreState i r) ≡ suc p.class =
      unless_free (get_or m.states_stored i 0) (asked g u (get_or m.registers r 0)) f
      ∙ (asked_is g u (get_or m.registers r 0) p.class p.is p.asked ∙ p.is) in
      record {
        step =
            record {
              passes = λ last.
                  passes_by L Sample last (held_sample control_slots m) (StoreState i r) p.class refl
                  (lt-ltb i (length g.state_updates) (update_inside g g.state_updates i p.class (sym p.is ∙ p.asked))) refl
                  (held_in_mask mask k.spills m r p.class o p.is) refl w;
              next = ap (held_sample control_slots) (sym p.next);
            };
        states = ap (λ (y : Marks). y.states_stored) p.next;
        delays = ap (λ (y : Marks). y.delays_stored) p.next;
      }
  sample_passes z number (store_delay i r) m m₁ c h o f =
      let p = put_stored false (sample_rules g k control_slots) m 11 i r m₁ h in
      let u : ℕ = get_or g.delay_updates i 0 in
      let w : moved_class g instructions (held_sample control_slots m) (StoreDelay i r) ≡ suc p.class =
      unless_free (get_or m.delays_stored i 0) (asked g u (get_or m.registers r 0)) f
      ∙ (asked_is g u (get_or m.registers r 0) p.class p.is p.asked ∙ p.is) in
      record {
        step =
            record {
              passes = λ last.
                  passes_by L Sample last (held_sample control_slots m) (StoreDelay i r) p.class refl
                  (lt-ltb i (length g.delay_updates) (update_inside g g.delay_updates i p.class (sym p.is ∙ p.asked))) refl
                  (held_in_mask mask k.spills m r p.class o p.is) refl w;
              next = ap (held_sample control_slots) (sym p.next);
            };
        states = ap (λ (y : Marks). y.states_stored) p.next;
        delays = ap (λ (y : Marks). y.delays_stored) p.next;
      }
  sample_passes z number (store_output r) m m₁ c h o f = absurd f
  sample_passes z number (store_control slot r) m m₁ c h o f = not_goes m₁ h

  -- THE LAST STEP
  pub output_passes : (r : ℕ) (m m₁ : Marks) → walk_action (usable mask) false (sample_rules g k control_slots) m (store_output r) ≡ goes m₁ → Okay mask k.spills m
      → step_passes L Sample true (held_sample control_slots m) (StoreOutput r) ≡ true
  unfolding walk_action rules
  output_passes r m m₁ h o =
      let p = put_stored false (sample_rules g k control_slots) m 12 0 r m₁ h in
      passes_by L Sample true (held_sample control_slots m) (StoreOutput r) p.class refl refl refl
      (held_in_mask mask k.spills m r p.class o p.is) refl
      (asked_is g (suc g.output) (get_or m.registers r 0) p.class p.is p.asked ∙ p.is)
