-- Each step's arm: from what the code has done, the machine that the definition gives; and what a step that may run says of its index. Assumes nothing.
use Rattle.std.specs.Prelude.{◌≡◌, true, ℕ, ◌+◌, ◌*◌, ◌≤◌, ◌<◌, length, get_or, take, drop, Option, Some, None}
use Rattle.std.proofs.Common.{sym, ◌∙◌, arith, length-take-le, get_or-take, ltb-true, inl, inr}
use Rattle.std.proofs.Math.Path.{ap}
use mathlib.Core.List.{List, ◌++◌}
use mathlib.Core.Logic.{◌⊎◌}
use Rattle.std.proofs.Math.ListN.{set}
use Rattle.tables.specs.Tests.{true_false}
use Rattle.tables.specs.Parts.{front_set}
use Rattle.kernel.specs.declared.Source.{Source}
use Rattle.kernel.specs.declared.Instruction.{Instruction}
use Rattle.kernel.specs.declared.Step.{Step}
use Rattle.kernel.specs.declared.Step.TheVariants.{Load, Compute, Spill, Reload, StoreState, StoreDelay, StoreOutput, StoreControl}
use Rattle.kernel.specs.declared.Phase.{Phase}
use Rattle.kernel.specs.declared.Phase.TheVariants.{Control, Sample}
use Rattle.kernel.specs.declared.Kernel.{Kernel}
use Rattle.kernel.specs.Steps.{allowed_in, step_or}
use Rattle.kernel.specs.Instructions.{instruction_at, instruction_or}
use Rattle.kernel.specs.declared.Sizes.{Sizes}
use Rattle.kernel.specs.Lists.{sizes, source_inside, index_inside, is_formed, step_may_run}
use Rattle.kernel.specs.Named.{step_formed, instruction_formed}
use Rattle.memory.specs.Lines.{Memories, memories, store_delay, store_state}
use Rattle.memory.specs.Signals.{Given}
use Rattle.machine.specs.Machine.{machine, Program, register, execute, execute_words, loaded, act_words}
use Rattle.machine.proofs.StepLaws.{may_allowed, may_inside, may_computes}
use Rattle.machine.specs.Ready.{Slotted, MayRun, slot_table, slot_count, Slots, slots, slot_stored}

-- ---- the slots of the phase that a step is allowed in
sample_slot : (phase : Phase) (k : Kernel) (slot : ℕ) (step : Step) → allowed_in phase step ≡ true → (allowed_in Control step ≡ true → ⊥) → slot < k.spills
    → slot < slot_count phase k
sample_slot Control k slot step a bar h = absurd (bar a)
sample_slot Sample k slot step a bar h = h

control_slot : (phase : Phase) (k : Kernel) (slot : ℕ) (step : Step) → allowed_in phase step ≡ true → (allowed_in Sample step ≡ true → ⊥) → slot < k.slots
    → slot < slot_count phase k
control_slot Control k slot step a bar h = h
control_slot Sample k slot step a bar h = absurd (bar a)

-- ---- what a step that may run has passed
module _ {p s d : ℕ} {k : Kernel} {instructions : List ℕ} {phase : Phase} {w : Option Step} (may : MayRun p s d k instructions phase w) where
  pub may_step : {step : Step} → w ≡ Some step → step_may_run (sizes p s d k) instructions phase step ≡ true
  may_step h = rw h at may.may

  pub may_formed : {A : Type 0} → w ≡ None → A
  may_formed h = true_false (sym (rw h at may.may))

  pub decoded : {step known : Step} → step ≡ step_or step w → step ≡ known → w ≡ Some known
  decoded {step} e g = step_formed w step (λ h. may_formed h) e ∙ ap Some g

  pub allowed : {step : Step} → w ≡ Some step → allowed_in phase step ≡ true
  allowed {step} h = may_allowed (sizes p s d k) instructions phase step (may_step h)

  inside : (step : Step) → w ≡ Some step → index_inside (sizes p s d k) step ≡ true
  inside step h = may_inside (sizes p s d k) instructions phase step (may_step h)

  pub load_inside : {source : Source} {r : ℕ} → w ≡ Some (Load source r) → source_inside (sizes p s d k) source ≡ true
  load_inside {source} {r} h = inside (Load source r) h

  pub compute_inside : {i length : ℕ} → w ≡ Some (Compute i) → 2 * k.instructions ≤ length → 2 * i + 1 < length
  compute_inside {i} h q = let l = ltb-true i k.instructions (inside (Compute i) h) in omega arith

  pub compute_words : {i : ℕ} → w ≡ Some (Compute i) → is_formed (instruction_at instructions i) ≡ true
  compute_words {i} h = may_computes (sizes p s d k) instructions phase (Compute i) (may_step h)

  -- a spill and a reload run in the sample phase only, a store to a control slot in the control phase only
  pub spill_inside : {slot r : ℕ} → w ≡ Some (Spill slot r) → slot < slot_count phase k
  spill_inside {slot} {r} h = sample_slot phase k slot (Spill slot r) (allowed h) (λ e. true_false (sym e)) (ltb-true slot k.spills (inside (Spill slot r) h))

  pub reload_inside : {slot r : ℕ} → w ≡ Some (Reload slot r) → slot < slot_count phase k
  reload_inside {slot} {r} h = sample_slot phase k slot (Reload slot r) (allowed h) (λ e. true_false (sym e)) (ltb-true slot k.spills (inside (Reload slot r) h))

  pub control_inside : {slot r : ℕ} → w ≡ Some (StoreControl slot r) → slot < slot_count phase k
  control_inside {slot} {r} h = control_slot phase k slot (StoreControl slot r) (allowed h) (λ e. true_false (sym e)) (ltb-true slot k.slots (inside (StoreControl slot r) h))

  pub state_inside : {i j r : ℕ} → w ≡ Some (StoreState i r) → j ≡ i → j < s
  state_inside {i} {j} {r} h q = let l = ltb-true i s (inside (StoreState i r) h) in omega arith

  pub delay_inside : {i j r : ℕ} → w ≡ Some (StoreDelay i r) → j ≡ i → j < d
  delay_inside {i} {j} {r} h q = let l = ltb-true i d (inside (StoreDelay i r) h) in omega arith

  -- so a store to a slot is one to a slot of the running phase
  pub stored_inside : {slot r : ℕ} {step : Step} → step ≡ step_or step w → (step ≡ Spill slot r) ⊎ (step ≡ StoreControl slot r) → slot < slot_count phase k
  stored_inside e (inl h) = spill_inside (decoded e h)
  stored_inside e (inr h) = control_inside (decoded e h)

-- ---- the slots of a phase
-- the part that holds a phase's slots
pub slot_in : (n count at slot : ℕ) (l : List ℕ) → count ≡ n → at ≡ slot → n ≤ length l → slot < n → at < length (take count l)
slot_in n count at slot l a b h q = omega (arith, length-take-le count l (omega arith))

pub slot_at : (n slot at : ℕ) (l part : List ℕ) → part ≡ take n l → at ≡ slot → slot < n → get_or part at 0 ≡ get_or l slot 0
slot_at n slot at l part a b h = rw (a, b) (get_or-take n l slot 0 h)

pub part_length : (phase : Phase) (k : Kernel) (control spills part : List ℕ) (slot at : ℕ) → Slotted k control spills
    → part ≡ take (slot_count phase k) (slot_table phase control spills) → at ≡ slot → slot < slot_count phase k → at < length part
part_length Control k control spills part slot at f e q h =
    let u = f.slots in omega (arith, ap length e, length-take-le k.slots control f.slots)
part_length Sample k control spills part slot at f e q h =
    let u = f.spilled in omega (arith, ap length e, length-take-le k.spills spills f.spilled)

pub stored_control : (phase : Phase) (c s ys : List ℕ) (n slot count at v : ℕ) → phase ≡ Control → count ≡ n → at ≡ slot → n ≤ length c → slot < n
    → ys ≡ set (take count c) at v → slots (ys ++ drop count c) s ≡ slot_stored phase c s slot v
stored_control phase c s ys n slot count at v t a b h q e =
    rw t (ap (λ (l : List ℕ). slots l s) (front_set count at v c ys (omega arith) (omega arith) e ∙ ap (λ (i : ℕ). set c i v) b))

pub stored_spills : (phase : Phase) (c s ys : List ℕ) (n slot count at v : ℕ) → phase ≡ Sample → count ≡ n → at ≡ slot → n ≤ length s → slot < n
    → ys ≡ set (take count s) at v → slots c (ys ++ drop count s) ≡ slot_stored phase c s slot v
stored_spills phase c s ys n slot count at v t a b h q e =
    rw t (ap (λ (l : List ℕ). slots c l) (front_set count at v s ys (omega arith) (omega arith) e ∙ ap (λ (i : ℕ). set s i v) b))

-- ---- the index of a load
module _ (n : Sizes) (s : Source) (i j : ℕ) (h : source_inside n s ≡ true) (q : j ≡ i) where
  pub inside_parameter : s ≡ Source.Parameter i → j < n.parameters
  inside_parameter e = let l = ltb-true i n.parameters (rw e at h) in omega arith

  pub inside_state : s ≡ Source.State i → j < n.states
  inside_state e = let l = ltb-true i n.states (rw e at h) in omega arith

  pub inside_delay : s ≡ Source.Delay i → j < n.delays
  inside_delay e = let l = ltb-true i n.delays (rw e at h) in omega arith

  pub inside_control : s ≡ Source.Control i → j < n.control_slots
  inside_control e = let l = ltb-true i n.control_slots (rw e at h) in omega arith

-- ---- an instruction's words
pub compute_formed : (registers after table : List ℕ) (k : ℕ) (i : Instruction) → is_formed (instruction_at table k) ≡ true
    → i ≡ instruction_or i (instruction_at table k) → after ≡ execute registers i → after ≡ execute_words registers (instruction_at table k)
compute_formed registers after table k i h e a =
    let g : instruction_at table k ≡ Some i = instruction_formed (instruction_at table k) i h e in rw g a

-- ---- the arms
module _ (p : Program) (x : Given) (w : Option Step) (registers control spills : List ℕ) (m : Memories) (o e : ℕ) where
  pub arm_load : (source : Source) (r v : ℕ) (after : List ℕ) → w ≡ Some (Load source r) → v ≡ loaded p.lengths x control m source
      → after ≡ set registers r v → machine after control spills m o (e + 1) ≡ act_words p x (machine registers control spills m o e) w
  unfolding act_words
  arm_load source r v after h a b =
      rw h (ap (λ (y : List ℕ). machine y control spills m o (e + 1)) (b ∙ ap (λ (y : ℕ). set registers r y) a))

  pub arm_compute : (i : ℕ) (after : List ℕ) → w ≡ Some (Compute i) → after ≡ execute_words registers (instruction_at p.instructions i)
      → machine after control spills m o (e + 1) ≡ act_words p x (machine registers control spills m o e) w
  unfolding act_words
  arm_compute i after h a = rw h (ap (λ (y : List ℕ). machine y control spills m o (e + 1)) a)

  pub arm_spill : (phase : Phase) (slot r v : ℕ) (control' spills' : List ℕ) → w ≡ Some (Spill slot r) → allowed_in phase (Spill slot r) ≡ true
      → v ≡ register registers r → slots control' spills' ≡ slot_stored phase control spills slot v
      → machine registers control' spills' m o (e + 1) ≡ act_words p x (machine registers control spills m o e) w
  unfolding act_words
  arm_spill Control slot r v control' spills' h a b c = true_false (sym a)
  arm_spill Sample slot r v control' spills' h a b c =
      rw h (ap (λ (y : Slots). machine registers y.control y.spills m o (e + 1)) (c ∙ ap (λ (y : ℕ). slots control (set spills slot y)) b))

  pub arm_reload : (phase : Phase) (slot r v : ℕ) (after : List ℕ) → w ≡ Some (Reload slot r) → allowed_in phase (Reload slot r) ≡ true
      → v ≡ get_or (slot_table phase control spills) slot 0 → after ≡ set registers r v
      → machine after control spills m o (e + 1) ≡ act_words p x (machine registers control spills m o e) w
  unfolding act_words
  arm_reload Control slot r v after h a b c = true_false (sym a)
  arm_reload Sample slot r v after h a b c =
      rw h (ap (λ (y : List ℕ). machine y control spills m o (e + 1)) (c ∙ ap (λ (y : ℕ). set registers r y) b))

  pub arm_state : (i j r v : ℕ) → w ≡ Some (StoreState i r) → j ≡ i → v ≡ register registers r
      → machine registers control spills (memories (set m.states j v) m.area m.cursors) o (e + 1) ≡ act_words p x (machine registers control spills m o e) w
  unfolding act_words store_state
  arm_state i j r v h q a =
      rw h
      (ap (λ (y : ℕ). machine registers control spills (memories (set m.states y v) m.area m.cursors) o (e + 1)) q
      ∙ ap (λ (y : ℕ). machine registers control spills (memories (set m.states i y) m.area m.cursors) o (e + 1)) a)

  pub arm_delay : (i j r v : ℕ) (after : Memories) → w ≡ Some (StoreDelay i r) → j ≡ i → v ≡ register registers r
      → after ≡ store_delay p.lengths m j v → machine registers control spills after o (e + 1) ≡ act_words p x (machine registers control spills m o e) w
  unfolding act_words
  arm_delay i j r v after h q a b =
      rw h (ap (λ (y : Memories). machine registers control spills y o (e + 1)) (b ∙ (ap (λ (y : ℕ). store_delay p.lengths m y v) q ∙ ap (λ (y : ℕ). store_delay p.lengths m i y) a)))

  pub arm_output : (r v : ℕ) → w ≡ Some (StoreOutput r) → v ≡ register registers r
      → machine registers control spills m v (e + 1) ≡ act_words p x (machine registers control spills m o e) w
  unfolding act_words
  arm_output r v h a = rw h (ap (λ (y : ℕ). machine registers control spills m y (e + 1)) a)

  pub arm_control : (phase : Phase) (slot r v : ℕ) (control' spills' : List ℕ) → w ≡ Some (StoreControl slot r)
      → allowed_in phase (StoreControl slot r) ≡ true → v ≡ register registers r → slots control' spills' ≡ slot_stored phase control spills slot v
      → machine registers control' spills' m o (e + 1) ≡ act_words p x (machine registers control spills m o e) w
  unfolding act_words
  arm_control Control slot r v control' spills' h a b c =
      rw h (ap (λ (y : Slots). machine registers y.control y.spills m o (e + 1)) (c ∙ ap (λ (y : ℕ). slots (set control slot y) spills) b))
  arm_control Sample slot r v control' spills' h a b c = true_false (sym a)

  pub arm_stored : {p' s d : ℕ} {k : Kernel} {instructions : List ℕ} {phase : Phase} → MayRun p' s d k instructions phase w
      → (slot r v : ℕ) (step : Step) (control' spills' : List ℕ) → step ≡ step_or step w → (step ≡ Spill slot r) ⊎ (step ≡ StoreControl slot r)
      → v ≡ register registers r → slots control' spills' ≡ slot_stored phase control spills slot v
      → machine registers control' spills' m o (e + 1) ≡ act_words p x (machine registers control spills m o e) w
  arm_stored {phase = phase} may slot r v step control' spills' g (inl h) b c =
      arm_spill phase slot r v control' spills' (decoded may g h) (allowed may (decoded may g h)) b c
  arm_stored {phase = phase} may slot r v step control' spills' g (inr h) b c =
      arm_control phase slot r v control' spills' (decoded may g h) (allowed may (decoded may g h)) b c
