-- The parts of the allocator on exact words do to the state what the first layer says: a step, a spill, a register that is given or taken. Assumes nothing.
use Rattle.std.specs.Prelude.{◌≡◌, Bool, not, ◌||◌, length, get_or, take, eqb, ltb}
use Rattle.std.proofs.Math.Path.{refl, ap}
use Rattle.std.proofs.Common.{sym, subst, ◌∙◌, length-append, length-set, set-set, take-suc, take_all, eq-eqb, ne_eqb, ltb-true, ltb-false}
use Rattle.std.proofs.Math.Bool.{true, false, cond}
use mathlib.Core.List.{List, [], ◌∷◌, ◌++◌, append_assoc, append-nil}
use Prim.Native.Nat.{ℕ, zero, suc, ◌+◌, ◌*◌, ◌-◌, ◌%◌, ◌≤◌, ◌<◌, max}
use Rattle.std.proofs.Math.Numerals.{add-one}
use native.Mathlib.Omega.{arith}
use Rattle.std.proofs.Math.ListN.{set}
use Rattle.std.proofs.lemmas.List.Edits.{sets}
use Rattle.std.proofs.Math.Dec.{eqb-suc-zero}
use Rattle.tables.specs.Stores.{sets_append}
use Rattle.plan.specs.Lists.{count, is_some}
use Rattle.kernel.specs.declared.Source.{Source}
use Rattle.kernel.specs.declared.Instruction.{Instruction}
use Rattle.kernel.specs.Steps.{step_word, step_index, source_code, source_index}
use Rattle.allocate.specs.declared.Frame.{Frame}
use Rattle.allocate.specs.declared.Slot.{Slot}
use Rattle.allocate.specs.Actions.{Operation, Action, load, compute, spill, reload, store_state, store_delay, store_output, store_control, instruction_of}
use Rattle.allocate.specs.ActionWords.{step_of, operation_in, operations_in, step_words, instruction_words, operations_append, instructions_append, steps_append, steps_length, instructions_length}
use Rattle.allocate.specs.State.{Setting, State, reloadable, emit, emit_operation, to_slot, from_slot, spill_to, spill_in, spill_out, place, vacate}
use Rattle.allocate.specs.Allocator.{spill_if, evict}
use Rattle.allocate.specs.Layout.{holder_at, spilled_at, fresh_at}
use Rattle.allocate.specs.Registers.{reloads, count_one, held_of}
use Rattle.allocate.specs.Desk.{Desk, desk, store, with_allocator, pair, slots_to, owner_to, emitted, operated, spill_code, reload_code, next_slot, spilt, settled, evicted}
use Rattle.allocate.specs.Ready.{ReadyAt, Kept, emitted_kept, operated_kept, spilt_kept, settled_kept, dropped_kept, ready_owner}
use Rattle.allocate.specs.Holds.{next_words, Tables, Written, Holds, phase_same, spilled_at_lem, fresh_at_lem, tables_holder, tables_spilled, tables_pop}

-- ---- one action more

module _ (table program : List ℕ) (actions : List Action) (steps instructions : List ℕ) (k m : ℕ) (w : Written table program actions steps instructions k m) where
  pub written_more : (action : Action) (steps' instructions' : List ℕ) (m' : ℕ) → steps' ≡ sets steps (2 * k) (step_words m (action ∷ []))
      → instructions' ≡ sets instructions (2 * m) (instruction_words (operation_in action))
      → m' ≡ m + length (operation_in action)
      → Written table program (actions ++ (action ∷ [])) steps' instructions' (k + 1) m'
  written_more action steps' instructions' m' p q r =
      let ops = operations_in actions in
      let o : operations_in (actions ++ (action ∷ [])) ≡ ops ++ operation_in action =
      operations_append actions (action ∷ []) ∙ ap (λ (l : List Operation). ops ++ l) (append-nil (operation_in action)) in
      let z : m ≡ 0 + length ops = omega (arith, w.number) in
      record {
        count = omega (arith, w.count, length-append actions (action ∷ []));
        number = r ∙ (ap (λ (x : ℕ). x + length (operation_in action)) w.number ∙ (sym (length-append ops (operation_in action)) ∙ ap length (sym o)));
        words =
            p
            ∙ (ap (λ (l : List ℕ). sets l (2 * k) (step_words m (action ∷ []))) w.words
            ∙ (sets_append table 0 (2 * k) (step_words 0 actions) (step_words m (action ∷ [])) (omega (arith, w.count, steps_length 0 actions))
            ∙ ap (sets table 0) (ap (λ (x : ℕ). step_words 0 actions ++ step_words x (action ∷ [])) z ∙ sym (steps_append 0 actions (action ∷ [])))));
        operations =
            q
            ∙ (ap (λ (l : List ℕ). sets l (2 * m) (instruction_words (operation_in action))) w.operations
            ∙ (sets_append program 0 (2 * m) (instruction_words ops) (instruction_words (operation_in action)) (omega (arith, w.number, instructions_length ops))
            ∙ ap (sets program 0) (sym (instructions_append ops (operation_in action)) ∙ ap instruction_words (sym o))));
      }

-- the words of an action that is no compute
pub record Says (action : Action) (code register index : ℕ) : Type 0 where
  pub none : operation_in action ≡ []
  pub word : (number : ℕ) → step_word (step_of number action) ≡ code * 16 + register
  pub place : (number : ℕ) → step_index (step_of number action) ≡ index

low : (r : ℕ) → r < 16 → r % 16 ≡ r
low r h = omega arith

module _ (register : ℕ) (small : register < 16) where
  pub says_load : (source : Source) → Says (load source register) (source_code source) register (source_index source)
  unfolding step_word
  says_load source = record { none = refl; word = λ number. rw (low register small); place = λ number. refl }

  pub says_spill : (slot : ℕ) → Says (spill slot register) 8 register slot
  unfolding step_word
  says_spill slot = record { none = refl; word = λ number. rw (low register small); place = λ number. refl }

  pub says_reload : (slot : ℕ) → Says (reload slot register) 9 register slot
  unfolding step_word
  says_reload slot = record { none = refl; word = λ number. rw (low register small); place = λ number. refl }

  pub says_state : (index : ℕ) → Says (store_state index register) 10 register index
  unfolding step_word
  says_state index = record { none = refl; word = λ number. rw (low register small); place = λ number. refl }

  pub says_delay : (index : ℕ) → Says (store_delay index register) 11 register index
  unfolding step_word
  says_delay index = record { none = refl; word = λ number. rw (low register small); place = λ number. refl }

  pub says_output : Says (store_output register) 12 register 0
  unfolding step_word
  says_output = record { none = refl; word = λ number. rw (low register small); place = λ number. refl }

  pub says_control : (slot : ℕ) → Says (store_control slot register) 13 register slot
  unfolding step_word
  says_control slot = record { none = refl; word = λ number. rw (low register small); place = λ number. refl }

  -- the step that saves a register
  pub says_to : (e : Setting) (frame : Frame) → e.in_control ≡ frame.control → (slot : ℕ) → Says (to_slot e slot register) (spill_code frame) register slot
  unfolding to_slot spill_code
  says_to e frame q slot = rw q (go frame.control)
    where
      go : (b : Bool) → Says (cond b (store_control slot register) (spill slot register)) (cond b 13 8) register slot
      go true = says_control slot
      go false = says_spill slot

  -- the step that loads it back
  pub says_from : (e : Setting) (frame : Frame) → e.in_control ≡ frame.control → (slot : ℕ) → Says (from_slot e slot register) (reload_code frame) register slot
  unfolding from_slot reload_code
  says_from e frame q slot = rw q (go frame.control)
    where
      go : (b : Bool) → Says (cond b (load (Source.Control slot) register) (reload slot register)) (cond b 6 9) register slot
      go true = says_load (Source.Control slot)
      go false = says_reload slot

-- a node leaves its register, which is nobody's
abbrev pub left : Frame → ℕ → ℕ → Desk → Desk
left frame node register d = with_allocator (store d (holder_at frame node) 0) (owner_to d.allocator (set d.allocator.owner register 0))

-- ---- steps

module _ (frame : Frame) (nodes : List ℕ) (e : Setting) (table program : List ℕ) (prior : List Action) (rest : List (List ℕ)) (position : ℕ) where
  abbrev H : Desk → State → Type 0
  H d s = Holds frame nodes e table program prior rest position d s

  -- A STEP
  pub emitted_holds : (d : Desk) (s : State) → H d s → (action : Action) (code register index : ℕ) → Says action code register index
      → H (emitted code register index d) (emit action s)
  unfolding emitted emit
  emitted_holds d s h action code register index says =
      let a = d.allocator in
      record {
        ready = (emitted_kept frame d code register index h.ready).0;
        phase = h.phase;
        few = h.few;
        tables = h.tables;
        owner = h.owner;
        slots = h.slots;
        most = h.most;
        written =
            rw (← append_assoc prior s.steps (action ∷ []))
            (written_more table program (prior ++ s.steps) d.steps d.instructions a.steps a.instructions h.written action
            (pair d.steps (2 * a.steps) (code * 16 + register) index) d.instructions a.instructions
            (rw (says.word a.instructions, says.place a.instructions, add-one (2 * a.steps)))
            (rw says.none)
            (rw says.none (omega arith)));
      }

  -- AN INSTRUCTION
  pub operated_holds : (d : Desk) (s : State) → H d s → (operation : Operation) (instruction : Instruction) → instruction ≡ instruction_of operation
      → H (operated instruction d) (emit_operation operation s)
  unfolding operated emitted emit step_word
  operated_holds d s h operation instruction q =
      let a = d.allocator in
      record {
        ready = (operated_kept frame d instruction h.ready).0;
        phase = h.phase;
        few = h.few;
        tables = h.tables;
        owner = h.owner;
        slots = h.slots;
        most = h.most;
        written =
            rw (← append_assoc prior s.steps (compute operation ∷ []))
            (written_more table program (prior ++ s.steps) d.steps d.instructions a.steps a.instructions h.written (compute operation)
            _ _ (a.instructions + 1)
            (rw (add-one (2 * a.steps)))
            (rw (q, add-one (2 * a.instructions)))
            refl);
      }

  -- the same desk
  pub holds_by : (d f : Desk) (s : State) → f ≡ d → H d s → H f s
  holds_by d f s q h = subst (λ (x : Desk). H x s) (sym q) h

  -- ---- a slot

  -- a slot is given to a node, before the step that fills it
  abbrev slotted : ℕ → ℕ → ℕ → ℕ → Desk → Desk
  slotted node slot freed slots d = desk (set d.work (spilled_at frame node) slot) d.steps d.instructions (slots_to d.allocator freed slots)

  spilt_at : (node register : ℕ) (d : Desk) (got : Slot) → next_slot frame d.work d.allocator ≡ got
      → spilt frame node register d ≡ emitted (spill_code frame) register (got.slot - 1) (slotted node got.slot got.freed got.slots d)
  unfolding spilt
  spilt_at node register d got q = rw q

  -- the desk between is ready, as the one behind the step is
  slot_ready : (node register : ℕ) (d : Desk) (got : Slot) → next_slot frame d.work d.allocator ≡ got → node < frame.nodes → ReadyAt frame d
      → Kept frame 1 d (emitted (spill_code frame) register (got.slot - 1) (slotted node got.slot got.freed got.slots d))
  slot_ready node register d got q l r = subst (Kept frame 1 d) (spilt_at node register d got q) (spilt_kept frame d r node register l)

  module _ (d : Desk) (s : State) (h : H d s) (node register : ℕ) (here : node < frame.nodes) (small : register < 16) where
    spill_with : (slot freed slots : ℕ) (free : List ℕ) → next_slot frame d.work d.allocator ≡ record { slot = suc slot; freed = freed; slots = slots }
        → Tables frame d.work freed (next_words rest position frame.nodes) s.holder s.spilled s.fresh free
        → H (spilt frame node register d) (spill_to e node register slot free slots s)
    unfolding emitted emit
    spill_with slot freed slots free q t =
        let k = slot_ready node register d (record { slot = suc slot; freed = freed; slots = slots }) q here h.ready in
        let z : suc slot - 1 ≡ slot = omega arith in
        let s₁ : State =
        record { holder = s.holder; owner = s.owner; spilled = set s.spilled node (suc slot); fresh = s.fresh; free = free; slots = slots; steps = s.steps; most = s.most } in
        let d₁ : Desk = slotted node (suc slot) freed slots d in
        let h₁ : H d₁ s₁ =
        record {
          ready = k.0;
          phase = phase_same frame nodes e d.work d₁.work k.1.same h.phase;
          few = h.few;
          tables = tables_spilled frame d.work freed _ s.holder s.spilled s.fresh free t node (suc slot) here;
          owner = h.owner;
          slots = refl;
          most = h.most;
          written = h.written;
        } in
        holds_by _ _ _ (spilt_at node register d _ q)
        (emitted_holds d₁ s₁ h₁ (to_slot e slot register) (spill_code frame) register (suc slot - 1) (rw z (says_to register small e frame h.phase.control slot)))

    -- A SPILL: "Freed spill slots are used again, last freed first"
    pub spilt_holds : H (spilt frame node register d) (spill_out e node register s)
    unfolding spill_out next_slot
    spilt_holds = go s.free refl
      where
        go : (f : List ℕ) → s.free ≡ f → H (spilt frame node register d) (spill_in e node register f s)
        go [] q =
            let t : Tables frame d.work d.allocator.freed (next_words rest position frame.nodes) s.holder s.spilled s.fresh [] =
            rw q at h.tables in
            let none : d.allocator.freed ≡ 0 = t.count in
            let up : d.allocator.slots + 1 ≡ suc s.slots = omega (arith, h.slots) in
            spill_with s.slots d.allocator.freed (suc s.slots) [] (rw (eq-eqb _ _ none, up)) t
        go (slot ∷ free) q =
            let t : Tables frame d.work d.allocator.freed (next_words rest position frame.nodes) s.holder s.spilled s.fresh (slot ∷ free) =
            rw q at h.tables in
            let some : d.allocator.freed ≡ 0 → ⊥ = λ z. omega (arith, t.count) in
            let p = tables_pop frame d.work d.allocator.freed _ s.holder s.spilled s.fresh slot free t in
            spill_with slot (d.allocator.freed - 1) s.slots free (rw (ne_eqb _ _ some, p.0, h.slots)) p.1

  -- ---- a register

  -- how many registers are held
  count_one_lem : (xs : List ℕ) (x : ℕ) → count (xs ++ (x ∷ [])) ≡ count_one (count xs) x
  unfolding count_one
  count_one_lem [] zero = refl
  count_one_lem [] (suc x) = rw (eqb-suc-zero x)
  count_one_lem (zero ∷ xs) x = count_one_lem xs x
  count_one_lem (suc y ∷ xs) x = ap suc (count_one_lem xs x) ∙ go (eqb x 0)
    where
      go : (b : Bool) → suc (cond b (count xs) (count xs + 1)) ≡ cond b (suc (count xs)) (suc (count xs) + 1)
      go true = refl
      go false = omega arith

  held_count : (k : ℕ) (owner : List ℕ) → k ≤ length owner → held_of k owner ≡ count (take k owner)
  unfolding held_of
  held_count zero owner h = refl
  held_count (suc k) owner h =
      ap (λ (x : ℕ). count_one x (get_or owner k 0)) (held_count k owner (omega arith))
      ∙ (sym (count_one_lem (take k owner) (get_or owner k 0)) ∙ ap count (sym (take-suc owner k 0 h)))

  held_all : (owner : List ℕ) → length owner ≡ 16 → held_of 16 owner ≡ count owner
  held_all owner h = held_count 16 owner (omega arith) ∙ ap count (take_all 16 owner (omega arith))

  more : (a b : ℕ) → cond (ltb a b) b a ≡ max a b
  more a b = go (ltb a b) refl
    where
      go : (t : Bool) → ltb a b ≡ t → cond t b a ≡ max a b
      go true q = omega (arith, ltb-true a b q)
      go false q = omega (arith, ltb-false a b q)

  -- A REGISTER IS GIVEN to a node
  pub settled_holds : (d : Desk) (s : State) → H d s → (node register : ℕ) → node < frame.nodes → register < 16 → length s.owner ≡ 16
      → H (settled frame node register d) (place node register s)
  unfolding settled place
  settled_holds d s h node register here small sixteen =
      let k = settled_kept frame d h.ready node register here small in
      let o : set d.allocator.owner register (node + 1) ≡ set s.owner register (suc node) = rw (h.owner, add-one node) in
      record {
        ready = k.0;
        phase = phase_same frame nodes e d.work _ k.1.same h.phase;
        few = h.few;
        tables =
            rw (add-one register)
            (tables_holder frame d.work d.allocator.freed _ s.holder s.spilled s.fresh s.free h.tables node (suc register) here);
        owner = o;
        slots = h.slots;
        most =
            more d.allocator.most (held_of 16 (set d.allocator.owner register (node + 1)))
            ∙ (ap (λ (x : ℕ). max x (held_of 16 (set d.allocator.owner register (node + 1)))) h.most
            ∙ ap (max s.most) (ap (held_of 16) o ∙ held_all (set s.owner register (suc node)) (length-set s.owner register (suc node) ∙ sixteen)));
        written = h.written;
      }

  -- A NODE LEAVES its register
  pub left_holds : (d : Desk) (s : State) → H d s → (node register : ℕ) → node < frame.nodes → H (left frame node register d) (vacate node register s)
  unfolding vacate
  left_holds d s h node register here =
      let k = dropped_kept frame d h.ready node here in
      record {
        ready = ready_owner frame _ d.allocator.owner d.allocator.freed k.0 register 0 (omega arith);
        phase = phase_same frame nodes e d.work _ k.1.same h.phase;
        few = h.few;
        tables = tables_holder frame d.work d.allocator.freed _ s.holder s.spilled s.fresh s.free h.tables node 0 here;
        owner = rw h.owner;
        slots = h.slots;
        most = h.most;
        written = h.written;
      }

  -- a node that needs no spill
  pub reloads_is : (d : Desk) (s : State) → H d s → (node : ℕ) → node < frame.nodes → reloads frame d.work node ≡ reloadable s node
  unfolding reloads
  reloads_is d s h node here =
      let t = h.tables in
      rw (spilled_at_lem frame d.work _ _ _ _ _ _ t node here, ← fresh_at_lem frame d.work _ _ _ _ _ _ t node here)
      (go (get_or s.spilled node 0) (get_or d.work (fresh_at frame node) 0))
    where
      go : (a f : ℕ) → cond (eqb a 0) (not (eqb f 0)) true ≡ (is_some a || is_some f)
      go zero zero = refl
      go zero (suc f) = rw (eqb-suc-zero f)
      go (suc a) f = rw (eqb-suc-zero a)

  -- A NODE IS THROWN OUT: the register is nobody's until it is given
  pub evicted_holds : (d : Desk) (s : State) → H d s → (node register : ℕ) → node < frame.nodes → register < 16
      → H (cond (reloads frame d.work node) (left frame node register d) (left frame node register (spilt frame node register d))) (evict e node register s)
  unfolding evict
  evicted_holds d s h node register here small = rw (reloads_is d s h node here) (go (reloadable s node))
    where
      go : (b : Bool)
          → H (cond b (left frame node register d) (left frame node register (spilt frame node register d))) (vacate node register (spill_if b e node register s))
      go true = left_holds d s h node register here
      go false = left_holds (spilt frame node register d) (spill_out e node register s) (spilt_holds d s h node register here small) node register here

  settled_left : (d : Desk) (node old register : ℕ)
      → settled frame node register (store d (holder_at frame old) 0) ≡ settled frame node register (left frame old register d)
  unfolding settled
  settled_left d node old register = rw (set-set d.allocator.owner register 0 (node + 1))

  -- .. and it is given at once
  pub settled_evicted : (d : Desk) (node old register : ℕ)
      → settled frame node register (evicted frame old register d)
      ≡ settled frame node register (cond (reloads frame d.work old) (left frame old register d) (left frame old register (spilt frame old register d)))
  unfolding evicted
  settled_evicted d node old register = go (reloads frame d.work old)
    where
      go : (b : Bool)
          → settled frame node register (cond b (store d (holder_at frame old) 0) (store (spilt frame old register d) (holder_at frame old) 0))
          ≡ settled frame node register (cond b (left frame old register d) (left frame old register (spilt frame old register d)))
      go true = settled_left d node old register
      go false = settled_left (spilt frame old register d) node old register
