-- How the code makes the words of Tasks: one law for each way out of a function with calls, over plain variables. The second layer. Assumes nothing.
use Rattle.std.proofs.Math.Path.{◌≡◌, ap, sym}
use Rattle.std.specs.Prelude.{refl, true, false, List, get_or, set}
use Rattle.std.proofs.Common.{◌∙◌, add-one}
use Prim.Native.Nat.{ℕ, zero, suc, ◌+◌, ◌*◌, ◌-◌, ◌≤◌, ◌<◌}
use native.Mathlib.Omega.{arith}
use borrow.Author.Tests.{eq-eqb, ne_eqb, lt-ltb, le-ltb}
use Rattle.kernel.specs.declared.Instruction.{Instruction}
use Rattle.block.specs.Block.{code}
use Rattle.allocate.specs.declared.Frame.{Frame}
use Rattle.allocate.specs.declared.Allocator.{Allocator}
use Rattle.allocate.specs.declared.Access.{Access}
use Rattle.allocate.specs.declared.Reads.{Reads}
use Rattle.allocate.specs.Layout.{slot_at, next_at, spilled_at, fresh_at, task_at}
use Rattle.allocate.specs.Desk.{Desk, desk, Choice, choose, store, emitted, operated, taken, fetched, released_both}
use Rattle.allocate.specs.Tasks.{Lent, Held, holding, memory_of, reads_of, second_after, fetched_both, advanced, handed, destined, lowered, computed, stowed, home_of, target_of, preserved, written, stored, arm_of, finished, performed, carried, ran, ran_to, outcome_of}

-- ---- operands

module _ (frame : Frame) (nodes : List ℕ) (r : Reads) (d : Desk) (one : Choice) (e : one ≡ fetched frame nodes 16 16 r.first d) where
  -- the first is not to be had
  pub both_none : one.register ≡ 16 → holding one.register one.register one.desk ≡ fetched_both frame nodes r d
  unfolding fetched_both second_after
  both_none h = rw (sym e, eq-eqb _ _ h)

  -- the second is fetched
  pub both_second : (one.register ≡ 16 → ⊥) → (two : Choice) → two ≡ fetched frame nodes one.register 16 r.second one.desk
      → holding one.register two.register two.desk ≡ fetched_both frame nodes r d
  unfolding fetched_both second_after
  both_second h two q = rw (sym e, ne_eqb _ _ h, sym q)

-- ---- compute

module _ (frame : Frame) (r : Reads) (one two node : ℕ) (d : Desk) where
  -- the first operand dies
  pub destined_first : get_or d.work (next_at frame r.first) 0 ≡ 0 → (e : Desk) → e ≡ handed frame r.first one node d
      → choose one e ≡ destined frame r one two node d
  unfolding destined
  destined_first h e q = rw (eq-eqb _ _ h) (ap (choose one) q)

  module _ (lives : get_or d.work (next_at frame r.first) 0 ≡ 0 → ⊥) where
    -- the second dies
    pub destined_second : get_or d.work (next_at frame r.second) 0 ≡ 0 → (e : Desk) → e ≡ handed frame r.second two node d
        → choose two e ≡ destined frame r one two node d
    unfolding destined
    destined_second h e q = rw (ne_eqb _ _ lives, eq-eqb _ _ h) (ap (choose two) q)

    -- none dies
    pub destined_taken : (get_or d.work (next_at frame r.second) 0 ≡ 0 → ⊥) → (c : Choice) → c ≡ taken frame one two node d → c ≡ destined frame r one two node d
    unfolding destined
    destined_taken h c q = rw (ne_eqb _ _ lives, ne_eqb _ _ h) q

module _ (frame : Frame) (nodes : List ℕ) (r : Reads) (one two node : ℕ) (d : Desk) (c : Choice) (q : c ≡ destined frame r one two node d) where
  -- the result has no register
  pub computed_none : c.register ≡ 16 → c ≡ computed frame nodes r one two node d
  unfolding computed
  computed_none h = rw (sym q, eq-eqb _ _ h)

  -- it has one
  pub computed_some : (c.register ≡ 16 → ⊥) → (i : Instruction) → i ≡ lowered (code nodes node) c.register one two
      → (e : Desk) → e ≡ operated i c.desk → choose c.register e ≡ computed frame nodes r one two node d
  unfolding computed
  computed_some h i l e o = rw (sym q, ne_eqb _ _ h, sym l) (ap (choose c.register) o)

-- ---- keep

-- the step, and the slot's word at the node
pub stowed_by : (frame : Frame) (register node : ℕ) (work steps instructions : List ℕ) (a : Allocator) (index : ℕ) → index ≡ get_or work (slot_at frame node) 0 - 1
    → (steps' : List ℕ) (b : Allocator) → desk work steps' instructions b ≡ emitted 13 register index (desk work steps instructions a)
    → desk (set work (spilled_at frame node) (get_or work (slot_at frame node) 0)) steps' instructions b ≡ stowed frame register node (desk work steps instructions a)
unfolding stowed
stowed_by frame register node work steps instructions a index i steps' b e =
    let slot = get_or work (slot_at frame node) 0 in
    let d : Desk = desk work steps instructions a in
    let q : desk work steps' instructions b ≡ emitted 13 register (slot - 1) d = e ∙ ap (λ (x : ℕ). emitted 13 register x d) i in
    ap (λ (x : Desk). store x (spilled_at frame node) slot) q

-- ---- store

module _ (frame : Frame) (nodes : List ℕ) (register home : ℕ) (d : Desk) where
  -- nothing reads what the store overwrites
  pub preserved_none : home ≡ 0 → choose register d ≡ preserved frame nodes register home d
  unfolding preserved
  preserved_none h = rw (eq-eqb _ _ h)

  module _ (some : home ≡ 0 → ⊥) where
    -- memory does not hold it any more
    pub preserved_stale : get_or d.work (fresh_at frame (home - 1)) 0 ≡ 0 → choose register d ≡ preserved frame nodes register home d
    unfolding preserved
    preserved_stale h = rw (ne_eqb _ _ some, eq-eqb _ _ h)

    module _ (fresh : get_or d.work (fresh_at frame (home - 1)) 0 ≡ 0 → ⊥) where
      -- it is not read again
      pub preserved_last : get_or d.work (next_at frame (home - 1)) 0 ≡ 0 → choose register d ≡ preserved frame nodes register home d
      unfolding preserved
      preserved_last h = rw (ne_eqb _ _ some, ne_eqb _ _ fresh, eq-eqb _ _ h)

      -- it is loaded
      pub preserved_loaded : (get_or d.work (next_at frame (home - 1)) 0 ≡ 0 → ⊥) → (c : Choice) → c ≡ fetched frame nodes register 16 (home - 1) d
          → c ≡ preserved frame nodes register home d
      unfolding preserved
      preserved_loaded h c q = rw (ne_eqb _ _ some, ne_eqb _ _ fresh, ne_eqb _ _ h) q

module _ (frame : Frame) (to : Access) (register home : ℕ) (d e : Desk) (q : e ≡ emitted to.code register to.index d) where
  -- nothing reads what is overwritten
  pub written_none : home ≡ 0 → e ≡ written frame to register home d
  unfolding written
  written_none h = rw (eq-eqb _ _ h) q

  -- a node does
  pub written_home : (home ≡ 0 → ⊥) → store e (fresh_at frame (home - 1)) 0 ≡ written frame to register home d
  unfolding written
  written_home h = rw (ne_eqb _ _ h) (ap (λ (x : Desk). store x (fresh_at frame (home - 1)) 0) q)

module _ (frame : Frame) (nodes : List ℕ) (register memory : ℕ) (d : Desk) (home : ℕ) (p : home ≡ home_of frame d.work memory) (c : Choice)
    (q : c ≡ preserved frame nodes register home d) where
  -- the old value has no register
  pub stored_none : c.register ≡ 16 → c ≡ stored frame nodes register memory d
  unfolding stored
  stored_none h = rw (sym p, sym q, eq-eqb _ _ h)

  -- the write
  pub stored_some : (c.register ≡ 16 → ⊥) → (to : Access) → to ≡ target_of frame memory → (e : Desk) → e ≡ written frame to register home c.desk
      → choose register e ≡ stored frame nodes register memory d
  unfolding stored
  stored_some h to t e w = rw (sym p, sym q, ne_eqb _ _ h, sym t) (ap (choose register) w)

-- ---- the match on the task

module _ (frame : Frame) (nodes : List ℕ) (r : Reads) (one two task : ℕ) (d : Desk) where
  -- a computation
  pub arm_compute : task < frame.nodes → (c : Choice) → c ≡ computed frame nodes r one two task d → c ≡ arm_of frame nodes r one two task d
  unfolding arm_of
  arm_compute h c q = rw (lt-ltb _ _ h) q

  -- a value to keep
  pub arm_keep : frame.nodes ≤ task → task < 2 * frame.nodes → (e : Desk) → e ≡ stowed frame one (task - frame.nodes) d
      → choose one e ≡ arm_of frame nodes r one two task d
  unfolding arm_of
  arm_keep l h e q = rw (le-ltb _ _ l, lt-ltb _ _ h) (ap (choose one) q)

  -- a store
  pub arm_store : frame.nodes ≤ task → 2 * frame.nodes ≤ task → (c : Choice) → c ≡ stored frame nodes one (memory_of frame task) d
      → c ≡ arm_of frame nodes r one two task d
  unfolding arm_of
  arm_store l h c q = rw (le-ltb _ _ l, le-ltb _ _ h) q

-- ---- a turn

module _ (frame : Frame) (nodes : List ℕ) (r : Reads) (one two task position : ℕ) (d : Desk) (work : List ℕ) (a : work ≡ advanced frame r position d.work)
    (c : Choice) (q : c ≡ arm_of frame nodes r one two task (desk work d.steps d.instructions d.allocator)) where
  -- the result has no register
  pub performed_none : c.register ≡ 16 → c ≡ performed frame nodes r one two task position d
  unfolding performed finished
  performed_none e = rw (sym a, sym q, eq-eqb _ _ e)

  -- what is not read again is released
  pub performed_some : (c.register ≡ 16 → ⊥) → (e : Desk) → e ≡ released_both frame r.first r.second c.desk
      → choose c.register e ≡ performed frame nodes r one two task position d
  unfolding performed finished
  performed_some n e p = rw (sym a, sym q, ne_eqb _ _ n) (ap (choose c.register) p)

module _ (frame : Frame) (l : Lent) (position : ℕ) (d : Desk) (task : ℕ) (t : task ≡ get_or d.work (task_at frame position) 0)
    (r : Reads) (s : r ≡ reads_of frame l d.work task) (h : Held) (b : h ≡ fetched_both frame l.nodes r d) where
  -- an operand is not to be had
  pub ran_none : h.second ≡ 16 → choose 16 h.desk ≡ ran frame l position d
  unfolding ran carried
  ran_none e = rw (sym t, sym s, sym b, eq-eqb _ _ e)

  -- both are
  pub ran_some : (h.second ≡ 16 → ⊥) → (c : Choice) → c ≡ performed frame l.nodes r h.first h.second task position h.desk → c ≡ ran frame l position d
  unfolding ran carried
  ran_some n c q = rw (sym t, sym s, sym b, ne_eqb _ _ n) q

-- ---- all turns

module _ (frame : Frame) (l : Lent) (d : Desk) where
  -- a turn
  pub ran_next : (p : ℕ) → ((ran_to frame l d p).register ≡ 16 → ⊥) → ran frame l p (ran_to frame l d p).desk ≡ ran_to frame l d (p + 1)
  unfolding ran_to
  ran_next p n = rw (add-one p, ne_eqb _ _ n)

  -- after a refusal nothing more is done
  pub ran_stop : (p k : ℕ) → (ran_to frame l d p).register ≡ 16 → ran_to frame l d p ≡ ran_to frame l d (p + k)
  unfolding ran_to
  ran_stop p zero e = let z : p + 0 ≡ p = omega arith in rw z
  ran_stop p (suc k) e =
      let z : p + suc k ≡ suc (p + k) = omega arith in
      let ih = ran_stop p k e in
      let r : (ran_to frame l d (p + k)).register ≡ 16 = sym (ap (λ (c : Choice). c.register) ih) ∙ e in
      rw (z, eq-eqb _ _ r) ih

  -- the loop stops at a refusal
  pub ended_refused : (p count : ℕ) → p + 1 ≤ count → (c : Choice) → c ≡ ran_to frame l d (p + 1) → c.register ≡ 16
      → record { done = false; desk = c.desk } ≡ outcome_of (ran_to frame l d count)
  unfolding outcome_of
  ended_refused p count h c q e =
      let z : p + 1 + (count - (p + 1)) ≡ count = omega arith in
      let r : (ran_to frame l d (p + 1)).register ≡ 16 = sym (ap (λ (x : Choice). x.register) q) ∙ e in
      let s : ran_to frame l d (p + 1) ≡ ran_to frame l d count = ran_stop (p + 1) (count - (p + 1)) r ∙ ap (ran_to frame l d) z in
      let t : c ≡ ran_to frame l d count = q ∙ s in
      rw (sym t, eq-eqb _ _ e)

  -- the loop comes to its end
  pub ended_done : (p count : ℕ) → p ≡ count → ((ran_to frame l d p).register ≡ 16 → ⊥) → (e : Desk) → e ≡ (ran_to frame l d p).desk
      → record { done = true; desk = e } ≡ outcome_of (ran_to frame l d count)
  unfolding outcome_of
  ended_done p count z n e q = rw (sym z, ne_eqb _ _ n, q)

  -- nothing is refused before the first turn
  pub ran_start : ((ran_to frame l d 0).register ≡ 16 → ⊥) × (d ≡ (ran_to frame l d 0).desk)
  unfolding ran_to
  ran_start = ((λ e. let z : ◌≡◌ {A = ℕ} 0 16 = e in absurd (omega arith)), refl)
