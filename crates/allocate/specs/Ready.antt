-- What holds of the tables all along a phase, and that every part of the allocator keeps it. The second layer: over the definitions of Desk. Assumes nothing.
use Rattle.std.specs.Prelude.{◌≡◌, refl, ◌⊎◌, Bool, true, false, cond, List, [], ◌∷◌, ℕ, zero, suc, ◌+◌, ◌*◌, ◌-◌, ◌≤◌, ◌<◌, eqb, ltb}
use Rattle.std.proofs.Math.Path.{ap}
use Rattle.std.proofs.Common.{◌∙◌, inl, inr, get_or-set_other, get_or-set_same}
use native.Mathlib.Omega.{arith}
use Rattle.std.proofs.Math.ListN.{length, get_or, set, length-set}
use borrow.Author.Tests.{eqb-true, eqb-false, ltb-true}
use Rattle.tables.specs.Tests.{cond_pred}
use Rattle.tables.specs.Stores.{each_set}
use Rattle.tables.specs.Parts.{part, part_in, part_out, part_at, length_part}
use Rattle.kernel.specs.declared.Instruction.{Instruction}
use Rattle.kernel.specs.declared.Instruction.TheVariants.{Immediate}
use Rattle.block.specs.Block.{code}
use Rattle.allocate.specs.declared.Frame.{Frame}
use Rattle.allocate.specs.declared.Allocator.{Allocator}
use Rattle.allocate.specs.declared.Slot.{Slot}
use Rattle.allocate.specs.declared.Access.{Access}
use Rattle.allocate.specs.Layout.{Wide, slot_at, next_at, holder_at, spilled_at, fresh_at, freed_at}
use Rattle.allocate.specs.Registers.{Owners, free_from, victim_of, reloads, victim_le}
use Rattle.allocate.specs.Desk.{Desk, Choice, store, emitted, operated, next_slot, spilt, settled, evicted, taken, taken_from, control_supply, sample_supply, supply_of, reload_code, brought, loaded, filled, fetched, dropped_register, dropped_slot, released, released_if, released_both}

-- ---- the slots that nodes have of their own: those above the fixed ones

-- 1 for a slot that is not a hoisted value's own
unfoldable pub mine : ℕ → ℕ → ℕ
mine fixed slot = cond (ltb fixed slot) 1 0

-- how many there are in a table
unfoldable pub mine_in : ℕ → List ℕ → ℕ
mine_in fixed [] = 0
mine_in fixed (slot ∷ slots) = mine fixed slot + mine_in fixed slots

mine_le : (fixed slot : ℕ) → mine fixed slot ≤ 1
unfolding mine
mine_le fixed slot = cond_pred (λ (x : ℕ). x ≤ 1) (ltb fixed slot) (λ _. omega arith) (λ _. omega arith)

-- no more than the table has words
pub mine_length : (fixed : ℕ) (slots : List ℕ) → mine_in fixed slots ≤ length slots
unfolding mine_in
mine_length fixed [] = omega arith
mine_length fixed (slot ∷ slots) = omega (arith, mine_le fixed slot, mine_length fixed slots)

-- a slot stored in place of another
pub mine_set : (fixed : ℕ) (slots : List ℕ) (i slot : ℕ) → i < length slots
    → mine_in fixed (set slots i slot) + mine fixed (get_or slots i 0) ≡ mine_in fixed slots + mine fixed slot
unfolding mine_in
mine_set fixed [] i slot h = absurd (omega arith)
mine_set fixed (x ∷ slots) zero slot h = omega arith
mine_set fixed (x ∷ slots) (suc i) slot h = omega (arith, mine_set fixed slots i slot (omega arith))

-- no slot is none of one's own
pub mine_none : (fixed : ℕ) → mine fixed 0 ≡ 0
unfolding mine
mine_none fixed = go (ltb fixed 0) refl
  where
    go : (b : Bool) → ltb fixed 0 ≡ b → ◌≡◌ {A = ℕ} (cond b 1 0) 0
    go true e = absurd (omega (arith, ltb-true fixed 0 e))
    go false e = refl

-- ---- what holds all along

-- the registers name nodes and the nodes registers; the freed slots and the slots in use are no more than the nodes
pub record Ready (frame : Frame) (work owner : List ℕ) (freed : ℕ) : Type 0 where
  pub wide : Wide frame work
  pub owners : Owners frame owner
  pub holders : (i : ℕ) → i < frame.nodes → get_or work (holder_at frame i) 0 ≤ 16
  pub room : mine_in frame.fixed (part (spilled_at frame 0) frame.nodes work) + freed ≤ frame.nodes

abbrev pub ReadyAt : Frame → Desk → Type 0
ReadyAt frame d = Ready frame d.work d.allocator.owner d.allocator.freed

-- room for so many steps, instructions and slots more
pub record Room (more : ℕ) (table program : List ℕ) (a : Allocator) : Type 0 where
  pub steps : 2 * (a.steps + more) ≤ length table
  pub instructions : 2 * (a.instructions + more) ≤ length program
  pub few : a.instructions + more ≤ 1048576
  pub slots : a.slots + more ≤ 1048576

abbrev pub RoomAt : ℕ → Desk → Type 0
RoomAt more d = Room more d.steps d.instructions d.allocator

-- at most so many steps from one desk to another, and no word of the plan's regions changed
pub record Near (frame : Frame) (most : ℕ) (d e : Desk) : Type 0 where
  pub steps : e.allocator.steps ≤ d.allocator.steps + most
  pub instructions : e.allocator.instructions ≤ d.allocator.instructions + most
  pub slots : e.allocator.slots ≤ d.allocator.slots + most
  pub steps_length : length e.steps ≡ length d.steps
  pub instructions_length : length e.instructions ≡ length d.instructions
  pub work_length : length e.work ≡ length d.work
  pub same : (j : ℕ) → (j < 5 * frame.nodes) ⊎ (10 * frame.nodes ≤ j) → get_or e.work j 0 ≡ get_or d.work j 0

abbrev pub Kept : Frame → ℕ → Desk → Desk → Type 0
Kept frame most d e = ReadyAt frame e × Near frame most d e

-- ---- room and nearness

-- no step at all
pub near_same : (frame : Frame) (d : Desk) → Near frame 0 d d
near_same frame d =
    record {
      steps = omega arith;
      instructions = omega arith;
      slots = omega arith;
      steps_length = refl;
      instructions_length = refl;
      work_length = refl;
      same = λ j h. refl;
    }

-- one after the other
pub near_then : (frame : Frame) (m n : ℕ) (d e f : Desk) → Near frame m d e → Near frame n e f → Near frame (m + n) d f
near_then frame m n d e f p q =
    record {
      steps = omega (arith, p.steps, q.steps);
      instructions = omega (arith, p.instructions, q.instructions);
      slots = omega (arith, p.slots, q.slots);
      steps_length = q.steps_length ∙ p.steps_length;
      instructions_length = q.instructions_length ∙ p.instructions_length;
      work_length = q.work_length ∙ p.work_length;
      same = λ j h. q.same j h ∙ p.same j h;
    }

-- more than needed
pub near_more : (frame : Frame) (m n : ℕ) (d e : Desk) → m ≤ n → Near frame m d e → Near frame n d e
near_more frame m n d e h p =
    record {
      steps = omega (arith, p.steps);
      instructions = omega (arith, p.instructions);
      slots = omega (arith, p.slots);
      steps_length = p.steps_length;
      instructions_length = p.instructions_length;
      work_length = p.work_length;
      same = p.same;
    }

-- room that is left
pub room_after : (frame : Frame) (m n : ℕ) (d e : Desk) → RoomAt (m + n) d → Near frame m d e → RoomAt n e
room_after frame m n d e r p =
    record {
      steps = omega (arith, r.steps, p.steps, p.steps_length);
      instructions = omega (arith, r.instructions, p.instructions, p.instructions_length);
      few = omega (arith, r.few, p.instructions);
      slots = omega (arith, r.slots, p.slots);
    }

-- ---- one store in the allocator's regions

module _ (frame : Frame) (d : Desk) where
  -- a store there changes no word of the plan's
  pub near_store : (j word : ℕ) → 5 * frame.nodes ≤ j → j < 10 * frame.nodes → Near frame 0 d (store d j word)
  near_store j word l h =
      record {
        steps = omega arith;
        instructions = omega arith;
        slots = omega arith;
        steps_length = refl;
        instructions_length = refl;
        work_length = length-set d.work j word;
        same = λ i s. get_or-set_other d.work j i word 0 (out i s);
      }
    where
      out : (i : ℕ) → (i < 5 * frame.nodes) ⊎ (10 * frame.nodes ≤ i) → i ≡ j → ⊥
      out i (inl q) e = omega arith
      out i (inr q) e = omega arith

module _ (frame : Frame) (work owner : List ℕ) (freed : ℕ) (ready : Ready frame work owner freed) where
  -- the table keeps its regions
  wide_set : (j word : ℕ) → Wide frame (set work j word)
  wide_set j word =
      let w = ready.wide in
      record { some = w.some; small = w.small; states = w.states; delays = w.delays; wide = rw (length-set work j word) w.wide }

  -- a register's number at a node, or any word outside the registers and the slots of the nodes
  pub ready_set : (j word : ℕ) → (j < 7 * frame.nodes) ⊎ (8 * frame.nodes ≤ j) → (word ≤ 16) ⊎ ((j < 6 * frame.nodes) ⊎ (7 * frame.nodes ≤ j))
      → Ready frame (set work j word) owner freed
  ready_set j word out held =
      record {
        wide = wide_set j word;
        owners = ready.owners;
        holders = λ i h. go i h (dec_eq_at i);
        room = rw (part_out (spilled_at frame 0) frame.nodes work j word (away out)) ready.room;
      }
    where
      away : (j < 7 * frame.nodes) ⊎ (8 * frame.nodes ≤ j) → (j < spilled_at frame 0) ⊎ (spilled_at frame 0 + frame.nodes ≤ j)
      away (inl q) = inl (omega arith)
      away (inr q) = inr (omega arith)

      dec_eq_at : (i : ℕ) → (eqb (holder_at frame i) j ≡ true) ⊎ (eqb (holder_at frame i) j ≡ false)
      dec_eq_at i = two (eqb (holder_at frame i) j) refl
        where
          two : (b : Bool) → eqb (holder_at frame i) j ≡ b → (eqb (holder_at frame i) j ≡ true) ⊎ (eqb (holder_at frame i) j ≡ false)
          two true e = inl e
          two false e = inr e

      in_table : 7 * frame.nodes ≤ length work
      in_table = omega (arith, ready.wide.wide)

      here : (i : ℕ) → i < frame.nodes → holder_at frame i ≡ j → (word ≤ 16) ⊎ ((j < 6 * frame.nodes) ⊎ (7 * frame.nodes ≤ j)) → get_or (set work j word) j 0 ≤ 16
      here i h e (inl w) = let t = in_table in rw (get_or-set_same work j word 0 (omega arith)) w
      here i h e (inr (inl q)) = absurd (omega arith)
      here i h e (inr (inr q)) = absurd (omega arith)

      go : (i : ℕ) → i < frame.nodes → (eqb (holder_at frame i) j ≡ true) ⊎ (eqb (holder_at frame i) j ≡ false) → get_or (set work j word) (holder_at frame i) 0 ≤ 16
      go i h (inl e) = let q = eqb-true (holder_at frame i) j e in ap_le q (here i h q held)
        where
          ap_le : holder_at frame i ≡ j → get_or (set work j word) j 0 ≤ 16 → get_or (set work j word) (holder_at frame i) 0 ≤ 16
          ap_le q r = rw q r
      go i h (inr e) = rw (get_or-set_other work j (holder_at frame i) word 0 (eqb-false (holder_at frame i) j e)) (ready.holders i h)

  -- a slot of a node, with the freed ones that are left
  pub ready_slot : (i slot left : ℕ) → i < frame.nodes
      → mine_in frame.fixed (part (spilled_at frame 0) frame.nodes work) + mine frame.fixed slot + left
      ≤ frame.nodes + mine frame.fixed (get_or work (spilled_at frame i) 0)
      → Ready frame (set work (spilled_at frame i) slot) owner left
  ready_slot i slot left h fits =
      let n = frame.nodes in
      let b = spilled_at frame 0 in
      let e : part b n (set work (spilled_at frame i) slot) ≡ set (part b n work) i slot = part_in b n work (spilled_at frame i) i slot (omega arith) h in
      let l : length (part b n work) ≡ n = length_part b n work (omega (arith, ready.wide.wide)) in
      let z : b + i ≡ spilled_at frame i = omega arith in
      let q : get_or (part b n work) i 0 ≡ get_or work (spilled_at frame i) 0 = part_at b n work i h ∙ ap (λ (k : ℕ). get_or work k 0) z in
      let s = mine_set frame.fixed (part b n work) i slot (rw l h) in
      record {
        wide = wide_set (spilled_at frame i) slot;
        owners = ready.owners;
        holders = λ k m. rw (get_or-set_other work (spilled_at frame i) (holder_at frame k) slot 0 (λ c. omega arith)) (ready.holders k m);
        room = rw e (omega (arith, fits, s, ap (mine frame.fixed) q));
      }

  -- a node, or none, in a register
  pub ready_owner : (register node : ℕ) → node ≤ frame.nodes → Ready frame work (set owner register node) freed
  ready_owner register node h =
      record {
        wide = ready.wide;
        owners = record { each = each_set (λ (x : ℕ). x ≤ frame.nodes) owner register node h ready.owners.each };
        holders = ready.holders;
        room = ready.room;
      }

-- ---- steps

module _ (frame : Frame) (d : Desk) where
  -- a step more
  pub emitted_near : (code register index : ℕ) → Near frame 1 d (emitted code register index d)
  unfolding emitted
  emitted_near code register index =
      record {
        steps = omega arith;
        instructions = omega arith;
        slots = omega arith;
        steps_length = simp length-set;
        instructions_length = refl;
        work_length = refl;
        same = λ j h. refl;
      }

  -- an instruction more
  pub operated_near : (instruction : Instruction) → Near frame 1 d (operated instruction d)
  unfolding emitted operated
  operated_near instruction =
      record {
        steps = omega arith;
        instructions = omega arith;
        slots = omega arith;
        steps_length = simp length-set;
        instructions_length = simp length-set;
        work_length = refl;
        same = λ j h. refl;
      }

  -- a step keeps the tables so
  pub emitted_kept : (code register index : ℕ) → ReadyAt frame d → Kept frame 1 d (emitted code register index d)
  unfolding emitted
  emitted_kept code register index ready = (ready, emitted_near code register index)

  -- so does an instruction
  pub operated_kept : (instruction : Instruction) → ReadyAt frame d → Kept frame 1 d (operated instruction d)
  unfolding emitted operated
  operated_kept instruction ready = (ready, operated_near instruction)

-- one after the other
pub kept_then : (frame : Frame) (m n : ℕ) (d e f : Desk) → Near frame m d e → Kept frame n e f → Kept frame (m + n) d f
kept_then frame m n d e f p q = (q.0, near_then frame m n d e f p q.1)

-- more than needed
pub kept_more : (frame : Frame) (m n : ℕ) (d e : Desk) → m ≤ n → Kept frame m d e → Kept frame n d e
kept_more frame m n d e h p = (p.0, near_more frame m n d e h p.1)

-- the same desk
pub kept_by : (frame : Frame) (m : ℕ) (d e f : Desk) → e ≡ f → Kept frame m d f → Kept frame m d e
kept_by frame m d e f q k = rw q k

-- ---- a register for a value

module _ (frame : Frame) (d : Desk) (ready : ReadyAt frame d) where
  abbrev got : Slot
  got = next_slot frame d.work d.allocator

  abbrev own : List ℕ
  own = part (spilled_at frame 0) frame.nodes d.work

  -- the slot to spill to leaves no more freed ones
  slot_fits : (node : ℕ) → node < frame.nodes
      → mine_in frame.fixed own + mine frame.fixed got.slot + got.freed ≤ frame.nodes + mine frame.fixed (get_or d.work (spilled_at frame node) 0)
  unfolding next_slot
  slot_fits node h =
      let n = frame.nodes in
      let b = spilled_at frame 0 in
      let f = frame.fixed in
      let a = d.allocator in
      let l : length own ≡ n = length_part b n d.work (omega (arith, ready.wide.wide)) in
      let z : b + node ≡ spilled_at frame node = omega arith in
      let q : get_or own node 0 ≡ get_or d.work (spilled_at frame node) 0 = part_at b n d.work node h ∙ ap (λ (k : ℕ). get_or d.work k 0) z in
      cond_pred (λ (x : Slot). mine_in f own + mine f x.slot + x.freed ≤ n + mine f (get_or d.work (spilled_at frame node) 0)) (eqb a.freed 0)
      (λ e.
      let s = mine_set f own node (a.slots + 1) (rw l h) in
      let m = mine_length f (set own node (a.slots + 1)) in
      let k : length (set own node (a.slots + 1)) ≡ n = length-set own node (a.slots + 1) ∙ l in
      omega (arith, s, m, k, ap (mine f) q, eqb-true a.freed 0 e))
      (λ e.
      let z : a.freed ≡ 0 → ⊥ = eqb-false a.freed 0 e in
      omega (arith, mine_le f (get_or d.work (freed_at frame (a.freed - 1)) 0), ready.room, z))

  slot_slots : got.slots ≤ d.allocator.slots + 1
  unfolding next_slot
  slot_slots = cond_pred (λ (x : Slot). x.slots ≤ d.allocator.slots + 1) (eqb d.allocator.freed 0) (λ _. omega arith) (λ _. omega arith)

  -- a spill
  pub spilt_kept : (node register : ℕ) → node < frame.nodes → Kept frame 1 d (spilt frame node register d)
  unfolding spilt emitted
  spilt_kept node register h =
      let e = near_store frame d (spilled_at frame node) got.slot (omega arith) (omega arith) in (
        ready_slot frame d.work d.allocator.owner d.allocator.freed ready node got.slot got.freed h (slot_fits node h),
        record {
          steps = omega arith;
          instructions = omega arith;
          slots = slot_slots;
          steps_length = simp length-set;
          instructions_length = refl;
          work_length = e.work_length;
          same = e.same;
        },
      )

  -- a node's register
  pub settled_kept : (node register : ℕ) → node < frame.nodes → register < 16 → Kept frame 0 d (settled frame node register d)
  unfolding settled
  settled_kept node register h r =
      let w = set d.work (holder_at frame node) (register + 1) in
      let o = d.allocator.owner in
      let e = near_store frame d (holder_at frame node) (register + 1) (omega arith) (omega arith) in (
        ready_owner frame w o d.allocator.freed
            (ready_set frame d.work o d.allocator.freed ready (holder_at frame node) (register + 1) (inl (omega arith)) (inl (omega arith)))
            register (node + 1) (omega arith),
        record {
          steps = omega arith;
          instructions = omega arith;
          slots = omega arith;
          steps_length = refl;
          instructions_length = refl;
          work_length = e.work_length;
          same = e.same;
        },
      )

  -- a node leaves its register
  pub dropped_kept : (node : ℕ) → node < frame.nodes → Kept frame 0 d (store d (holder_at frame node) 0)
  dropped_kept node h = (
    ready_set frame d.work d.allocator.owner d.allocator.freed ready (holder_at frame node) 0 (inl (omega arith)) (inl (omega arith)),
    near_store frame d (holder_at frame node) 0 (omega arith) (omega arith),
  )

module _ (frame : Frame) (d : Desk) (ready : ReadyAt frame d) where
  -- a node that leaves its register
  pub evicted_kept : (node register : ℕ) → node < frame.nodes → Kept frame 1 d (evicted frame node register d)
  unfolding evicted
  evicted_kept node register h =
      let s = spilt_kept frame d ready node register h in
      cond_pred (Kept frame 1 d) (reloads frame d.work node)
      (λ _. kept_more frame 0 1 d _ (omega arith) (dropped_kept frame d ready node h))
      (λ _. kept_then frame 1 0 d (spilt frame node register d) _ s.1 (dropped_kept frame (spilt frame node register d) s.0 node h))

  -- a register that is taken
  pub taken_kept : (first second node : ℕ) → node < frame.nodes → Kept frame 1 d (taken frame first second node d).desk
  unfolding taken taken_from
  taken_kept first second node h =
      let o = d.allocator.owner in
      let r = free_from 16 0 o frame.mask in
      let v = victim_of 16 frame d.work o first second in
      let old = get_or o v 0 - 1 in
      cond_pred (λ (c : Choice). Kept frame 1 d c.desk) (ltb r 16)
      (λ e. kept_more frame 0 1 d _ (omega arith) (settled_kept frame d ready node r h (ltb-true r 16 e)))
      (λ _.
      cond_pred (λ (c : Choice). Kept frame 1 d c.desk) (eqb v 16)
      (λ _. (ready, near_more frame 0 1 d d (omega arith) (near_same frame d)))
      (λ e.
      let z : v ≡ 16 → ⊥ = eqb-false v 16 e in
      let l : v ≤ 16 = victim_le 16 frame d.work o first second (omega arith) in
      let k = evicted_kept old v (omega (arith, ready.owners.each v, ready.wide.some)) in
      kept_then frame 1 0 d (evicted frame old v d) _ k.1 (settled_kept frame (evicted frame old v d) k.0 node v h (omega arith))))

  -- it is a register, or 16
  pub taken_register : (first second node : ℕ) → (taken frame first second node d).register ≤ 16
  unfolding taken taken_from
  taken_register first second node =
      let o = d.allocator.owner in
      let r = free_from 16 0 o frame.mask in
      let v = victim_of 16 frame d.work o first second in
      cond_pred (λ (c : Choice). c.register ≤ 16) (ltb r 16)
      (λ e. omega (arith, ltb-true r 16 e))
      (λ _.
      cond_pred (λ (c : Choice). c.register ≤ 16) (eqb v 16)
      (λ _. omega arith)
      (λ _. victim_le 16 frame d.work o first second (omega arith)))

-- after a register is taken there is room for a step more
pub taken_then : (frame : Frame) (d : Desk) → ReadyAt frame d → (first second node : ℕ) → node < frame.nodes → RoomAt 2 d
    → (c : Choice) → c ≡ taken frame first second node d → Wide frame c.desk.work × (RoomAt 1 c.desk × (c.register ≤ 16))
taken_then frame d ready first second node h room c q =
    let k : Kept frame 1 d c.desk = rw q (taken_kept frame d ready first second node h) in
    (k.0.wide, (room_after frame 1 1 d c.desk room k.1, rw q (taken_register frame d ready first second node)))

-- ---- an operand in a register

module _ (frame : Frame) (d : Desk) (ready : ReadyAt frame d) where
  -- a value from where it comes from
  pub brought_kept : (from : Access) (register : ℕ) → Kept frame 1 d (brought from register d)
  unfolding brought
  brought_kept from register =
      cond_pred (Kept frame 1 d) (eqb from.code 7)
      (λ _. operated_kept frame d (Immediate register from.index) ready)
      (λ _. emitted_kept frame d from.code register from.index ready)

  -- a value that comes into its register
  pub loaded_kept : (nodes : List ℕ) (node register : ℕ) → Kept frame 1 d (loaded frame nodes node register d)
  unfolding loaded
  loaded_kept nodes node register =
      cond_pred (Kept frame 1 d) (eqb (get_or d.work (fresh_at frame node) 0) 0)
      (λ _. emitted_kept frame d (reload_code frame) register (get_or d.work (spilled_at frame node) 0 - 1) ready)
      (λ _. brought_kept (supply_of frame nodes d.work node) register)

module _ (frame : Frame) (d : Desk) (ready : ReadyAt frame d) (nodes : List ℕ) (first second node : ℕ) (here : node < frame.nodes) where
  -- an operand that is fetched
  pub fetched_kept : Kept frame 2 d (fetched frame nodes first second node d).desk
  unfolding fetched filled
  fetched_kept =
      let t = taken frame first second node d in
      let k = taken_kept frame d ready first second node here in
      cond_pred (λ (c : Choice). Kept frame 2 d c.desk) (eqb (get_or d.work (holder_at frame node) 0) 0)
      (λ _.
      cond_pred (λ (c : Choice). Kept frame 2 d c.desk) (eqb t.register 16)
      (λ _. kept_more frame 1 2 d t.desk (omega arith) k)
      (λ _. kept_then frame 1 1 d t.desk _ k.1 (loaded_kept frame t.desk k.0 nodes node t.register)))
      (λ _. (ready, near_more frame 0 2 d d (omega arith) (near_same frame d)))

  -- its register, or 16
  pub fetched_register : (fetched frame nodes first second node d).register ≤ 16
  unfolding fetched filled
  fetched_register =
      let t = taken frame first second node d in
      cond_pred (λ (c : Choice). c.register ≤ 16) (eqb (get_or d.work (holder_at frame node) 0) 0)
      (λ _.
      cond_pred (λ (c : Choice). c.register ≤ 16) (eqb t.register 16)
      (λ _. taken_register frame d ready first second node)
      (λ _. taken_register frame d ready first second node))
      (λ _. omega (arith, ready.holders node here))

-- ---- what is not read again

module _ (frame : Frame) (d : Desk) (ready : ReadyAt frame d) (node : ℕ) (here : node < frame.nodes) where
  -- a register given back
  pub dropped_register_kept : Kept frame 0 d (dropped_register frame node d)
  unfolding dropped_register
  dropped_register_kept =
      let k = dropped_kept frame d ready node here in
      let w = set d.work (holder_at frame node) 0 in
      cond_pred (Kept frame 0 d) (eqb (get_or d.work (holder_at frame node) 0) 0)
      (λ _. (ready, near_same frame d))
      (λ _. (
        ready_owner frame w d.allocator.owner d.allocator.freed k.0 (get_or d.work (holder_at frame node) 0 - 1) 0 (omega arith),
        record {
          steps = omega arith;
          instructions = omega arith;
          slots = omega arith;
          steps_length = refl;
          instructions_length = refl;
          work_length = k.1.work_length;
          same = k.1.same;
        },
      ))

  -- the slot is taken from the node
  slot_off : (left : ℕ) → left ≤ d.allocator.freed + mine frame.fixed (get_or d.work (spilled_at frame node) 0)
      → Ready frame (set d.work (spilled_at frame node) 0) d.allocator.owner left
  slot_off left h =
      ready_slot frame d.work d.allocator.owner d.allocator.freed ready node 0 left here
      (omega (arith, h, mine_none frame.fixed, ready.room))

  mine_one : (slot : ℕ) → ltb frame.fixed slot ≡ true → mine frame.fixed slot ≡ 1
  unfolding mine
  mine_one slot e = rw e

  -- a slot given back: the freed ones are still no more than the nodes
  pub dropped_slot_kept : Kept frame 0 d (dropped_slot frame node d)
  unfolding dropped_slot
  dropped_slot_kept =
      let slot = get_or d.work (spilled_at frame node) 0 in
      let freed = d.allocator.freed in
      let e = store d (spilled_at frame node) 0 in
      let p = near_store frame d (spilled_at frame node) 0 (omega arith) (omega arith) in
      let f : freed ≤ frame.nodes = omega (arith, ready.room) in
      cond_pred (Kept frame 0 d) (eqb slot 0)
      (λ _. (ready, near_same frame d))
      (λ _.
      cond_pred (Kept frame 0 d) (ltb frame.fixed slot)
      (λ t.
      let r = slot_off (freed + 1) (omega (arith, mine_one slot t)) in
      let l : freed + 1 ≤ frame.nodes = omega (arith, r.room) in
      let q = near_store frame e (freed_at frame freed) slot (omega arith) (omega arith) in (
        ready_set frame (set d.work (spilled_at frame node) 0) d.allocator.owner (freed + 1) r (freed_at frame freed) slot (inr (omega arith)) (inr (inr (omega arith))),
        record {
          steps = omega arith;
          instructions = omega arith;
          slots = omega arith;
          steps_length = refl;
          instructions_length = refl;
          work_length = q.work_length ∙ p.work_length;
          same = λ j h. q.same j h ∙ p.same j h;
        },
      ))
      (λ _. (slot_off freed (omega arith), p)))

module _ (frame : Frame) (d : Desk) (ready : ReadyAt frame d) where
  -- both
  pub released_kept : (node : ℕ) → node < frame.nodes → Kept frame 0 d (released frame node d)
  unfolding released
  released_kept node h =
      let k = dropped_register_kept frame d ready node h in
      kept_then frame 0 0 d (dropped_register frame node d) _ k.1 (dropped_slot_kept frame (dropped_register frame node d) k.0 node h)

  -- .. where it is not read again
  pub released_if_kept : (node : ℕ) → node < frame.nodes → Kept frame 0 d (released_if frame node d)
  unfolding released_if
  released_if_kept node h =
      cond_pred (Kept frame 0 d) (eqb (get_or d.work (next_at frame node) 0) 0) (λ _. released_kept node h) (λ _. (ready, near_same frame d))

-- both operands'
pub released_both_kept : (frame : Frame) (d : Desk) → ReadyAt frame d → (first second : ℕ) → first < frame.nodes → second < frame.nodes
    → Kept frame 0 d (released_both frame first second d)
unfolding released_both
released_both_kept frame d ready first second f s =
    let k = released_if_kept frame d ready first f in
    kept_then frame 0 0 d (released_if frame first d) _ k.1 (released_if_kept frame (released_if frame first d) k.0 second s)

-- ---- the codes of loads

-- a load's code has four bits
pub supply_code : (frame : Frame) (nodes work : List ℕ) (node : ℕ) → (supply_of frame nodes work node).code < 16
unfolding supply_of control_supply sample_supply
supply_code frame nodes work node =
    let c = code nodes node in
    let P : Access → Type 0 = λ (x : Access). x.code < 16 in
    cond_pred P frame.control
    (λ _. cond_pred P (eqb c 1) (λ _. omega arith) (λ _. cond_pred P (eqb c 2) (λ _. omega arith) (λ _. omega arith)))
    (λ _.
    cond_pred P (eqb (get_or work (slot_at frame node) 0) 0)
    (λ _.
    cond_pred P (eqb c 0) (λ _. omega arith)
    (λ _.
    cond_pred P (eqb c 1) (λ _. omega arith)
    (λ _.
    cond_pred P (eqb c 2) (λ _. omega arith)
    (λ _.
    cond_pred P (eqb c 3) (λ _. omega arith)
    (λ _. cond_pred P (eqb c 4) (λ _. omega arith) (λ _. cond_pred P (eqb c 17) (λ _. omega arith) (λ _. omega arith)))))))
    (λ _. omega arith))
