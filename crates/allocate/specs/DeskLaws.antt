-- How the code makes the words of Desk: one law for each way out of a function with calls, over plain variables. The second layer. Assumes nothing.
use Rattle.std.specs.Prelude.{◌≡◌, true, false, List, ℕ, ◌+◌, ◌*◌, ◌-◌, ◌≤◌, ◌<◌, get_or, set}
use Rattle.std.proofs.Math.Path.{ap, sym}
use Rattle.std.proofs.Common.{◌∙◌}
use borrow.Author.Tests.{eq-eqb, ne_eqb, lt-ltb, le-ltb}
use Rattle.kernel.specs.declared.Instruction.{Instruction}
use Rattle.kernel.specs.declared.Instruction.TheVariants.{Immediate}
use Rattle.kernel.specs.Instructions.{instruction_word, instruction_immediate}
use Rattle.allocate.specs.declared.Frame.{Frame}
use Rattle.allocate.specs.declared.Allocator.{Allocator}
use Rattle.allocate.specs.declared.Slot.{Slot}
use Rattle.allocate.specs.declared.Access.{Access}
use Rattle.allocate.specs.Layout.{next_at, holder_at, spilled_at, fresh_at, freed_at}
use Rattle.allocate.specs.Registers.{free_from, victim_of, reloads}
use Rattle.allocate.specs.Desk.{Desk, desk, Choice, choose, store, pair, instructions_to, slots_to, emitted, operated, spill_code, next_slot, spilt, settled, evicted, taken, taken_from, supply_of, reload_code, brought, loaded, filled, fetched, with_allocator, owner_to, dropped_register, dropped_slot, released, released_if, released_both}

-- ---- steps

-- an instruction's two words are written, and its step
pub operated_by : (instruction : Instruction) (work steps program : List ℕ) (a : Allocator) (word immediate : ℕ)
    → word ≡ instruction_word instruction → immediate ≡ instruction_immediate instruction
    → (program' : List ℕ) → program' ≡ pair program (2 * a.instructions) word immediate
    → (steps' : List ℕ) (b : Allocator)
    → ((work instructions : List ℕ) → desk work steps' instructions b ≡ emitted 7 0 a.instructions (desk work steps instructions a))
    → desk work steps' program' (instructions_to b (a.instructions + 1)) ≡ operated instruction (desk work steps program a)
unfolding operated
operated_by instruction work steps program a word immediate w i program' p steps' b e =
    let h = e work program in
    ap (λ (d : Desk). desk d.work d.steps program' (instructions_to d.allocator (a.instructions + 1))) h
    ∙ rw (p, w, i)

-- ---- a register for a value

-- a slot is found, noted and written
pub spilt_by : (frame : Frame) (node register : ℕ) (work steps instructions : List ℕ) (a : Allocator) (got : Slot) → got ≡ next_slot frame work a
    → (code : ℕ) → code ≡ spill_code frame
    → (index : ℕ) → index ≡ got.slot - 1
    → (steps' : List ℕ) (b : Allocator)
    → ((w : List ℕ) → desk w steps' instructions b ≡ emitted code register index (desk w steps instructions (slots_to a got.freed got.slots)))
    → desk (set work (spilled_at frame node) got.slot) steps' instructions b ≡ spilt frame node register (desk work steps instructions a)
unfolding spilt
spilt_by frame node register work steps instructions a got g code c index i steps' b e =
    e (set work (spilled_at frame node) got.slot) ∙ rw (c, i, g)

module _ (frame : Frame) (node register : ℕ) (work steps instructions : List ℕ) (a : Allocator) where
  -- a node that needs no spill leaves its register
  pub evicted_kept_by : reloads frame work node ≡ true
      → desk (set work (holder_at frame node) 0) steps instructions a ≡ evicted frame node register (desk work steps instructions a)
  unfolding evicted
  evicted_kept_by e = rw e

  -- a node that is saved first
  pub evicted_saved : reloads frame work node ≡ false
      → (work' steps' : List ℕ) (b : Allocator) → desk work' steps' instructions b ≡ spilt frame node register (desk work steps instructions a)
      → desk (set work' (holder_at frame node) 0) steps' instructions b ≡ evicted frame node register (desk work steps instructions a)
  unfolding evicted
  evicted_saved e work' steps' b s = rw e (ap (λ (d : Desk). store d (holder_at frame node) 0) s)

module _ (frame : Frame) (first second node : ℕ) (d : Desk) (r : ℕ) (free : r ≡ free_from 16 0 d.allocator.owner frame.mask) where
  -- a free register
  pub taken_free : r < 16 → (e : Desk) → e ≡ settled frame node r d → choose r e ≡ taken frame first second node d
  unfolding taken
  taken_free h e s = rw (sym free, lt-ltb r 16 h) (ap (choose r) s)

  module _ (full : 16 ≤ r) (v : ℕ) (victim : v ≡ victim_of 16 frame d.work d.allocator.owner first second) where
    -- every usable one is locked
    pub taken_none : v ≡ 16 → choose 16 d ≡ taken frame first second node d
    unfolding taken taken_from
    taken_none h = rw (sym free, le-ltb r 16 full, sym victim, eq-eqb v 16 h)

    -- one is emptied
    pub taken_from_lem : (v ≡ 16 → ⊥) → (old : ℕ) → old ≡ get_or d.allocator.owner v 0 - 1
        → (e : Desk) → e ≡ evicted frame old v d
        → (f : Desk) → f ≡ settled frame node v e
        → choose v f ≡ taken frame first second node d
    unfolding taken taken_from
    taken_from_lem h old o e p f s =
        rw (sym free, le-ltb r 16 full, sym victim, ne_eqb v 16 h) (ap (choose v) (s ∙ ap (settled frame node v) (p ∙ rw o)))

-- ---- an operand in a register

module _ (frame : Frame) (nodes : List ℕ) (node register : ℕ) (work table program : List ℕ) (a : Allocator) where
  -- its slot's step
  pub loaded_slot : get_or work (fresh_at frame node) 0 ≡ 0 → (code index : ℕ) → code ≡ reload_code frame → index ≡ get_or work (spilled_at frame node) 0 - 1
      → (e : Desk) → e ≡ emitted code register index (desk work table program a)
      → e ≡ loaded frame nodes node register (desk work table program a)
  unfolding loaded
  loaded_slot f code index c i e h = rw (eq-eqb _ _ f, sym c, sym i) h

  -- where it comes from
  pub loaded_fresh : (get_or work (fresh_at frame node) 0 ≡ 0 → ⊥) → (from : Access) → from ≡ supply_of frame nodes work node
      → (e : Desk) → e ≡ brought from register (desk work table program a)
      → e ≡ loaded frame nodes node register (desk work table program a)
  unfolding loaded
  loaded_fresh f from s e h = rw (ne_eqb _ _ f, sym s) h

module _ (from : Access) (register : ℕ) (d e : Desk) where
  -- an immediate
  pub brought_immediate : from.code ≡ 7 → e ≡ operated (Immediate register from.index) d → e ≡ brought from register d
  unfolding brought
  brought_immediate c h = rw (eq-eqb _ _ c) h

  -- a load
  pub brought_load : (from.code ≡ 7 → ⊥) → e ≡ emitted from.code register from.index d → e ≡ brought from register d
  unfolding brought
  brought_load c h = rw (ne_eqb _ _ c) h

module _ (frame : Frame) (nodes : List ℕ) (first second node : ℕ) (d : Desk) where
  -- a register holds it
  pub fetched_held : (get_or d.work (holder_at frame node) 0 ≡ 0 → ⊥)
      → choose (get_or d.work (holder_at frame node) 0 - 1) d ≡ fetched frame nodes first second node d
  unfolding fetched
  fetched_held h = rw (ne_eqb _ _ h)

  module _ (free : get_or d.work (holder_at frame node) 0 ≡ 0) (c : Choice) (t : c ≡ taken frame first second node d) where
    -- none is to be had
    pub fetched_none : c.register ≡ 16 → c ≡ fetched frame nodes first second node d
    unfolding fetched filled
    fetched_none h = rw (eq-eqb _ _ free, sym t, eq-eqb _ _ h)

    -- one is filled
    pub fetched_loaded : (c.register ≡ 16 → ⊥) → (e : Desk) → e ≡ loaded frame nodes node c.register c.desk
        → choose c.register e ≡ fetched frame nodes first second node d
    unfolding fetched filled
    fetched_loaded h e l = rw (eq-eqb _ _ free, sym t, ne_eqb _ _ h) (ap (choose c.register) l)

-- ---- what is not read again

module _ (frame : Frame) (node : ℕ) (d : Desk) where
  -- it has no register
  pub register_none : get_or d.work (holder_at frame node) 0 ≡ 0 → d ≡ dropped_register frame node d
  unfolding dropped_register
  register_none h = rw (eq-eqb _ _ h)

  -- it has one
  pub register_dropped : (get_or d.work (holder_at frame node) 0 ≡ 0 → ⊥)
      → with_allocator (store d (holder_at frame node) 0) (owner_to d.allocator (set d.allocator.owner (get_or d.work (holder_at frame node) 0 - 1) 0))
      ≡ dropped_register frame node d
  unfolding dropped_register
  register_dropped h = rw (ne_eqb _ _ h)

  -- it has no slot
  pub slot_none : get_or d.work (spilled_at frame node) 0 ≡ 0 → d ≡ dropped_slot frame node d
  unfolding dropped_slot
  slot_none h = rw (eq-eqb _ _ h)

  module _ (some : get_or d.work (spilled_at frame node) 0 ≡ 0 → ⊥) where
    -- a hoisted value's own
    pub slot_fixed : get_or d.work (spilled_at frame node) 0 ≤ frame.fixed → store d (spilled_at frame node) 0 ≡ dropped_slot frame node d
    unfolding dropped_slot
    slot_fixed h = rw (ne_eqb _ _ some, le-ltb _ _ h)

    -- another
    pub slot_freed : frame.fixed < get_or d.work (spilled_at frame node) 0
        → with_allocator (store (store d (spilled_at frame node) 0) (freed_at frame d.allocator.freed) (get_or d.work (spilled_at frame node) 0))
        (slots_to d.allocator (d.allocator.freed + 1) d.allocator.slots)
        ≡ dropped_slot frame node d
    unfolding dropped_slot
    slot_freed h = rw (ne_eqb _ _ some, lt-ltb _ _ h)

  -- the register, then the slot
  pub released_by : (e f : Desk) → e ≡ dropped_register frame node d → f ≡ dropped_slot frame node e → f ≡ released frame node d
  unfolding released
  released_by e f p q = q ∙ ap (dropped_slot frame node) p

  -- it is not read again
  pub released_last : get_or d.work (next_at frame node) 0 ≡ 0 → (e : Desk) → e ≡ released frame node d → e ≡ released_if frame node d
  unfolding released_if
  released_last h e q = rw (eq-eqb _ _ h) q

  -- it is
  pub released_not : (get_or d.work (next_at frame node) 0 ≡ 0 → ⊥) → d ≡ released_if frame node d
  unfolding released_if
  released_not h = rw (ne_eqb _ _ h)

-- the first, then the second
pub released_both_lem : (frame : Frame) (first second : ℕ) (d e f : Desk) → e ≡ released_if frame first d → f ≡ released_if frame second e
    → f ≡ released_both frame first second d
unfolding released_both
released_both_lem frame first second d e f p q = q ∙ ap (released_if frame second) p
