-- Every part of a task keeps what holds of the tables all along a phase. The second layer: over the definitions of Tasks. Assumes nothing.
use Rattle.std.specs.Prelude.{◌≡◌, refl, List, length, eqb, ltb}
use Rattle.std.proofs.Common.{ap, sym, ◌∙◌, inl, inr}
use Prim.Native.Nat.{ℕ, zero, suc, ◌+◌, ◌*◌, ◌-◌, ◌≤◌, ◌<◌}
use native.Mathlib.Omega.{arith}
use Rattle.std.proofs.Math.ListN.{get_or, set}
use borrow.Author.Tests.{eqb-true, eqb-false, ltb-true, ltb-false, le-ltb}
use Rattle.tables.specs.Tests.{cond_pred}
use Rattle.block.specs.Block.{code}
use Rattle.allocate.specs.declared.Frame.{Frame}
use Rattle.allocate.specs.declared.Access.{Access}
use Rattle.allocate.specs.declared.Reads.{Reads}
use Rattle.allocate.specs.Layout.{slot_at, next_at, holder_at, spilled_at, fresh_at, task_at, link_at}
use Rattle.allocate.specs.Desk.{Desk, desk, Choice, store, emitted, fetched}
use Rattle.allocate.specs.Ready.{mine, Ready, ReadyAt, RoomAt, Kept, near_same, near_more, near_store, room_after, ready_set, ready_slot, ready_owner, kept_then, kept_more, emitted_kept, operated_kept, taken_kept, taken_register, fetched_kept, fetched_register, released_both_kept}
use Rattle.allocate.specs.Tasks.{Lent, Held, memory_of, reads_of, second_after, fetched_both, advanced, handed, destined, lowered, computed, stowed, home_of, target_of, preserved, written, stored, arm_of, finished, performed, carried, ran, ran_to}
use Rattle.allocate.specs.Planned.{Planned, Asks, planned_same, reads_below, home_same}

-- the reads of a task are nodes
abbrev pub Below : Frame → Reads → Type 0
Below frame r = (r.first < frame.nodes) × (r.second < frame.nodes)

-- ---- operands

module _ (frame : Frame) (nodes : List ℕ) (r : Reads) (below : Below frame r) (d : Desk) (ready : ReadyAt frame d) where
  abbrev one : Choice
  one = fetched frame nodes 16 16 r.first d

  abbrev two : Choice
  two = fetched frame nodes one.register 16 r.second one.desk

  one_kept : Kept frame 2 d one.desk
  one_kept = fetched_kept frame d ready nodes 16 16 r.first below.0

  -- both operands are fetched
  pub both_kept : Kept frame 4 d (fetched_both frame nodes r d).desk
  unfolding fetched_both second_after
  both_kept =
      cond_pred (λ (h : Held). Kept frame 4 d h.desk) (eqb one.register 16)
      (λ _. kept_more frame 2 4 d one.desk (omega arith) one_kept)
      (λ _. kept_then frame 2 2 d one.desk two.desk one_kept.1 (fetched_kept frame one.desk one_kept.0 nodes one.register 16 r.second below.1))

  -- where the second is to be had both are registers
  pub both_registers : ((fetched_both frame nodes r d).second ≡ 16 → ⊥) → ((fetched_both frame nodes r d).first < 16) × ((fetched_both frame nodes r d).second < 16)
  unfolding fetched_both second_after
  both_registers =
      cond_pred (λ (h : Held). (h.second ≡ 16 → ⊥) → (h.first < 16) × (h.second < 16)) (eqb one.register 16)
      (λ e n. absurd (n (eqb-true one.register 16 e)))
      (λ e n.
      let z : one.register ≡ 16 → ⊥ = eqb-false one.register 16 e in
      let a = fetched_register frame d ready nodes 16 16 r.first below.0 in
      let b = fetched_register frame one.desk one_kept.0 nodes one.register 16 r.second below.1 in
      (omega (arith, a, z), omega (arith, b, n)))

-- ---- the next reads

abbrev pub advanced_desk : Frame → Reads → ℕ → Desk → Desk
advanced_desk frame r position d = desk (advanced frame r position d.work) d.steps d.instructions d.allocator

module _ (frame : Frame) (d : Desk) (ready : ReadyAt frame d) where
  -- a next read
  next_kept : (node word : ℕ) → node < frame.nodes → Kept frame 0 d (store d (next_at frame node) word)
  next_kept node word h = (
    ready_set frame d.work d.allocator.owner d.allocator.freed ready (next_at frame node) word (inl (omega arith)) (inr (inl (omega arith))),
    near_store frame d (next_at frame node) word (omega arith) (omega arith),
  )

module _ (frame : Frame) (d : Desk) (ready : ReadyAt frame d) where
  -- the next reads are set
  pub advanced_kept : (r : Reads) (position : ℕ) → Below frame r → Kept frame 0 d (advanced_desk frame r position d)
  unfolding advanced
  advanced_kept r position below =
      let a = get_or d.work (link_at frame (2 * position)) 0 in
      let b = get_or d.work (link_at frame (2 * position + 1)) 0 in
      let e = store d (next_at frame r.first) a in
      let k = next_kept frame d ready r.first a below.0 in
      kept_then frame 0 0 d e (store e (next_at frame r.second) b) k.1 (next_kept frame e k.0 r.second b below.1)

-- ---- compute

module _ (frame : Frame) (d : Desk) (ready : ReadyAt frame d) where
  -- a register is lent
  pub handed_kept : (dying register node : ℕ) → dying < frame.nodes → node < frame.nodes → register < 16 → Kept frame 0 d (handed frame dying register node d)
  unfolding handed
  handed_kept dying register node h n r =
      let o = d.allocator.owner in
      let f = d.allocator.freed in
      let e = store d (holder_at frame dying) 0 in
      let w = set d.work (holder_at frame dying) 0 in
      let p = near_store frame d (holder_at frame dying) 0 (omega arith) (omega arith) in
      let q = near_store frame e (holder_at frame node) (register + 1) (omega arith) (omega arith) in
      let a = ready_set frame d.work o f ready (holder_at frame dying) 0 (inl (omega arith)) (inl (omega arith)) in
      let b = ready_set frame w o f a (holder_at frame node) (register + 1) (inl (omega arith)) (inl (omega arith)) in (
        ready_owner frame (set w (holder_at frame node) (register + 1)) o f b register (node + 1) (omega arith),
        record {
          steps = omega arith;
          instructions = omega arith;
          slots = omega arith;
          steps_length = refl;
          instructions_length = refl;
          work_length = q.work_length ∙ p.work_length;
          same = λ j s. q.same j s ∙ p.same j s;
        },
      )

module _ (frame : Frame) (d : Desk) (ready : ReadyAt frame d) (r : Reads) (below : Below frame r) (one two node : ℕ)
    (a : one < 16) (b : two < 16) (here : node < frame.nodes) where
  -- the result's register
  pub destined_kept : Kept frame 1 d (destined frame r one two node d).desk
  unfolding destined
  destined_kept =
      cond_pred (λ (c : Choice). Kept frame 1 d c.desk) (eqb (get_or d.work (next_at frame r.first) 0) 0)
      (λ _. kept_more frame 0 1 d _ (omega arith) (handed_kept frame d ready r.first one node below.0 here a))
      (λ _.
      cond_pred (λ (c : Choice). Kept frame 1 d c.desk) (eqb (get_or d.work (next_at frame r.second) 0) 0)
      (λ _. kept_more frame 0 1 d _ (omega arith) (handed_kept frame d ready r.second two node below.1 here b))
      (λ _. taken_kept frame d ready one two node here))

  -- it is a register, or 16
  pub destined_register : (destined frame r one two node d).register ≤ 16
  unfolding destined
  destined_register =
      cond_pred (λ (c : Choice). c.register ≤ 16) (eqb (get_or d.work (next_at frame r.first) 0) 0)
      (λ _. omega arith)
      (λ _.
      cond_pred (λ (c : Choice). c.register ≤ 16) (eqb (get_or d.work (next_at frame r.second) 0) 0)
      (λ _. omega arith)
      (λ _. taken_register frame d ready one two node))

  -- a computation
  pub computed_kept : (nodes : List ℕ) → Kept frame 2 d (computed frame nodes r one two node d).desk
  unfolding computed
  computed_kept nodes =
      let c = destined frame r one two node d in
      let k = destined_kept in
      cond_pred (λ (x : Choice). Kept frame 2 d x.desk) (eqb c.register 16)
      (λ _. kept_more frame 1 2 d c.desk (omega arith) k)
      (λ _. kept_then frame 1 1 d c.desk _ k.1 (operated_kept frame c.desk (lowered (code nodes node) c.register one two) k.0))

  -- there is room for the instruction
  pub destined_then : RoomAt 2 d → (c : Choice) → c ≡ destined frame r one two node d → RoomAt 1 c.desk × (c.register ≤ 16)
  destined_then room c q =
      let k : Kept frame 1 d c.desk = rw q destined_kept in
      (room_after frame 1 1 d c.desk room k.1, rw q destined_register)

-- ---- keep

mine_fixed : (fixed slot : ℕ) → slot ≤ fixed → mine fixed slot ≡ 0
unfolding mine
mine_fixed fixed slot h = rw (le-ltb fixed slot h)

module _ (frame : Frame) (d : Desk) (ready : ReadyAt frame d) where
  -- a kept value: its slot is a hoisted one
  pub stowed_kept : (register node : ℕ) → node < frame.nodes → get_or d.work (slot_at frame node) 0 ≤ frame.fixed → Kept frame 1 d (stowed frame register node d)
  unfolding stowed
  stowed_kept register node h s =
      let slot = get_or d.work (slot_at frame node) 0 in
      let e = emitted 13 register (slot - 1) d in
      let k = emitted_kept frame d 13 register (slot - 1) ready in
      kept_then frame 1 0 d e (store e (spilled_at frame node) slot) k.1 (
        ready_slot frame e.work e.allocator.owner e.allocator.freed k.0 node slot e.allocator.freed h
            (omega (arith, mine_fixed frame.fixed slot s, k.0.room)),
        near_store frame e (spilled_at frame node) slot (omega arith) (omega arith),
      )

-- ---- store

module _ (frame : Frame) (nodes : List ℕ) (d : Desk) (ready : ReadyAt frame d) (register home : ℕ) (inside : home ≤ frame.nodes) where
  same_kept : Kept frame 2 d d
  same_kept = (ready, near_more frame 0 2 d d (omega arith) (near_same frame d))

  -- an old value that is loaded
  pub preserved_kept : Kept frame 2 d (preserved frame nodes register home d).desk
  unfolding preserved
  preserved_kept =
      let P : Choice → Type 0 = λ (c : Choice). Kept frame 2 d c.desk in
      cond_pred P (eqb home 0) (λ _. same_kept)
      (λ e.
      let z : home ≡ 0 → ⊥ = eqb-false home 0 e in
      let h : home - 1 < frame.nodes = omega (arith, z) in
      cond_pred P (eqb (get_or d.work (fresh_at frame (home - 1)) 0) 0) (λ _. same_kept)
      (λ _.
      cond_pred P (eqb (get_or d.work (next_at frame (home - 1)) 0) 0) (λ _. same_kept)
      (λ _. fetched_kept frame d ready nodes register 16 (home - 1) h)))

  -- there is room for the store
  pub preserved_then : RoomAt 3 d → (c : Choice) → c ≡ preserved frame nodes register home d → RoomAt 1 c.desk × ReadyAt frame c.desk
  preserved_then room c q =
      let k : Kept frame 2 d c.desk = rw q preserved_kept in
      (room_after frame 2 1 d c.desk room k.1, k.0)

  -- a store
  pub written_kept : (to : Access) → Kept frame 1 d (written frame to register home d)
  unfolding written
  written_kept to =
      let e = emitted to.code register to.index d in
      let k = emitted_kept frame d to.code register to.index ready in
      cond_pred (Kept frame 1 d) (eqb home 0) (λ _. k)
      (λ q.
      let z : home ≡ 0 → ⊥ = eqb-false home 0 q in
      let h : home - 1 < frame.nodes = omega (arith, z) in
      kept_then frame 1 0 d e (store e (fresh_at frame (home - 1)) 0) k.1 (
        ready_set frame e.work e.allocator.owner e.allocator.freed k.0 (fresh_at frame (home - 1)) 0 (inr (omega arith)) (inl (omega arith)),
        near_store frame e (fresh_at frame (home - 1)) 0 (omega arith) (omega arith),
      ))

module _ (frame : Frame) (nodes : List ℕ) (d : Desk) (ready : ReadyAt frame d) where
  -- an old value and a store
  pub stored_kept : (register memory : ℕ) → home_of frame d.work memory ≤ frame.nodes → Kept frame 3 d (stored frame nodes register memory d).desk
  unfolding stored
  stored_kept register memory inside =
      let home = home_of frame d.work memory in
      let c = preserved frame nodes register home d in
      let k = preserved_kept frame nodes d ready register home inside in
      cond_pred (λ (x : Choice). Kept frame 3 d x.desk) (eqb c.register 16)
      (λ _. kept_more frame 2 3 d c.desk (omega arith) k)
      (λ _. kept_then frame 2 1 d c.desk _ k.1 (written_kept frame nodes c.desk k.0 register home inside (target_of frame memory)))

  -- ---- the match on the task

  -- whatever a task says
  pub arm_kept : (r : Reads) → Below frame r → (one two task : ℕ) → one < 16 → two < 16 → task ≤ 2 * frame.nodes + frame.states + frame.delays
      → ((memory : ℕ) → memory ≤ frame.states + frame.delays → home_of frame d.work memory ≤ frame.nodes)
      → ((i : ℕ) → i < frame.nodes → task ≡ frame.nodes + i → get_or d.work (slot_at frame i) 0 ≤ frame.fixed)
      → Kept frame 3 d (arm_of frame nodes r one two task d).desk
  unfolding arm_of
  arm_kept r below one two task a b t homes keeps =
      let n = frame.nodes in
      let P : Choice → Type 0 = λ (c : Choice). Kept frame 3 d c.desk in
      cond_pred P (ltb task n)
      (λ e.
      let h = ltb-true task n e in
      kept_more frame 2 3 d _ (omega arith) (computed_kept frame d ready r below one two task a b h nodes))
      (λ e.
      let l : n ≤ task = ltb-false task n e in
      cond_pred P (ltb task (2 * n))
      (λ q.
      let h = ltb-true task (2 * n) q in
      let i : task - n < n = omega arith in
      kept_more frame 1 3 d _ (omega arith) (stowed_kept frame d ready one (task - n) i (keeps (task - n) i (omega arith))))
      (λ q. stored_kept one (memory_of frame task) (homes (memory_of frame task) (omega (arith, t)))))

-- ---- a turn

module _ (frame : Frame) (nodes : List ℕ) (d : Desk) (ready : ReadyAt frame d) (r : Reads) (below : Below frame r) (one two task position : ℕ)
    (a : one < 16) (b : two < 16) (inside : task ≤ 2 * frame.nodes + frame.states + frame.delays)
    (homes : (memory : ℕ) → memory ≤ frame.states + frame.delays → home_of frame d.work memory ≤ frame.nodes)
    (keeps : (i : ℕ) → i < frame.nodes → task ≡ frame.nodes + i → get_or d.work (slot_at frame i) 0 ≤ frame.fixed) where
  abbrev next : Desk
  next = advanced_desk frame r position d

  next_is : Kept frame 0 d next
  next_is = advanced_kept frame d ready r position below

  next_homes : (memory : ℕ) → memory ≤ frame.states + frame.delays → home_of frame next.work memory ≤ frame.nodes
  next_homes memory h = rw (home_same frame d.work next.work next_is.1.same memory) (homes memory h)

  next_keeps : (i : ℕ) → i < frame.nodes → task ≡ frame.nodes + i → get_or next.work (slot_at frame i) 0 ≤ frame.fixed
  next_keeps i h e = rw (next_is.1.same (slot_at frame i) (inl (omega arith))) (keeps i h e)

  next_arm : Kept frame 3 d (arm_of frame nodes r one two task next).desk
  next_arm = kept_then frame 0 3 d next _ next_is.1 (arm_kept frame nodes next next_is.0 r below one two task a b inside next_homes next_keeps)

  -- .. and what follows
  pub performed_kept : Kept frame 3 d (performed frame nodes r one two task position d).desk
  unfolding performed finished
  performed_kept =
      let c = arm_of frame nodes r one two task next in
      cond_pred (λ (x : Choice). Kept frame 3 d x.desk) (eqb c.register 16)
      (λ _. next_arm)
      (λ _. kept_then frame 3 0 d c.desk _ next_arm.1 (released_both_kept frame c.desk next_arm.0 r.first r.second below.0 below.1))

  -- what the code asks for after the next reads are set, and after the task is done
  pub advanced_then : RoomAt 3 d → (work : List ℕ) → work ≡ advanced frame r position d.work
      → Ready frame work d.allocator.owner d.allocator.freed × ((memory : ℕ) → memory ≤ frame.states + frame.delays → home_of frame work memory ≤ frame.nodes)
  advanced_then room work q = rw q (next_is.0, next_homes)

  -- after the task is done
  pub arm_then : (work : List ℕ) → work ≡ advanced frame r position d.work
      → (c : Choice) → c ≡ arm_of frame nodes r one two task (desk work d.steps d.instructions d.allocator) → ReadyAt frame c.desk
  arm_then work w c q =
      let e : c ≡ arm_of frame nodes r one two task next =
      q ∙ ap (λ (x : List ℕ). arm_of frame nodes r one two task (desk x d.steps d.instructions d.allocator)) w in
      let k : Kept frame 3 d c.desk = rw e next_arm in
      k.0

module _ (frame : Frame) (l : Lent) (count position : ℕ) (d : Desk) (ready : ReadyAt frame d) (planned : Planned frame l count d.work)
    (here : position < count) where
  abbrev task : ℕ
  task = get_or d.work (task_at frame position) 0

  abbrev reads : Reads
  reads = reads_of frame l d.work task

  abbrev both : Held
  both = fetched_both frame l.nodes reads d

  -- what a task reads are nodes
  pub turn_below : Below frame reads
  turn_below = reads_below frame l d.work task (planned.tasks position here) planned.canonical

  both_is : Kept frame 4 d both.desk
  both_is = both_kept frame l.nodes reads turn_below d ready

  both_homes : (memory : ℕ) → memory ≤ frame.states + frame.delays → home_of frame both.desk.work memory ≤ frame.nodes
  both_homes memory h = rw (home_same frame d.work both.desk.work both_is.1.same memory) (planned.homes memory h)

  both_keeps : (i : ℕ) → i < frame.nodes → task ≡ frame.nodes + i → get_or both.desk.work (slot_at frame i) 0 ≤ frame.fixed
  both_keeps i h e = rw (both_is.1.same (slot_at frame i) (inl (omega arith))) (planned.keeps position i here h e)

  -- a whole turn
  pub ran_kept : Kept frame 7 d (ran frame l position d).desk
  unfolding ran carried
  ran_kept =
      cond_pred (λ (x : Choice). Kept frame 7 d x.desk) (eqb both.second 16)
      (λ _. kept_more frame 4 7 d both.desk (omega arith) both_is)
      (λ e.
      let z = both_registers frame l.nodes reads turn_below d ready (eqb-false both.second 16 e) in
      kept_then frame 4 3 d both.desk _ both_is.1
      (performed_kept frame l.nodes both.desk both_is.0 reads turn_below both.first both.second task position z.0 z.1
      (planned.inside position here) both_homes both_keeps))

  -- what the code asks for once both operands are held
  pub turn_asks : RoomAt 7 d → (t : ℕ) → t ≡ task → (r : Reads) → r ≡ reads_of frame l d.work t → (h : Held) → h ≡ fetched_both frame l.nodes r d
      → (h.second ≡ 16 → ⊥)
      → (ReadyAt frame h.desk × RoomAt 3 h.desk) × Asks frame l.nodes h.desk.work r h.first h.second t position
  turn_asks room t tq r rq h hq n =
      let rr : r ≡ reads = rq ∙ ap (reads_of frame l d.work) tq in
      let hh : h ≡ both = hq ∙ ap (λ (x : Reads). fetched_both frame l.nodes x d) rr in
      let m : both.second ≡ 16 → ⊥ = λ e. n (ap (λ (x : Held). x.second) hh ∙ e) in
      let f = planned.few in
      rw (hh, rr, tq) (
        (both_is.0, room_after frame 4 3 d both.desk room both_is.1),
        record {
          below = turn_below;
          registers = both_registers frame l.nodes reads turn_below d ready m;
          inside = planned.inside position here;
          place = omega (arith, f);
          wide = (planned.tasks position here).nodes;
          homes = both_homes;
          keeps = both_keeps;
        },
      )

-- ---- all turns

-- what a phase asks for: the tables as the plan leaves them, and room before each task that comes for what a task emits at most
pub record PhaseFits (frame : Frame) (l : Lent) (count : ℕ) (d : Desk) : Type 0 where
  pub ready : ReadyAt frame d
  pub planned : Planned frame l count d.work
  pub room : (p : ℕ) → p < count → ((ran_to frame l d p).register ≡ 16 → ⊥) → RoomAt 7 (ran_to frame l d p).desk

module _ (frame : Frame) (l : Lent) (count : ℕ) (d : Desk) (fits : PhaseFits frame l count d) where
  -- the turns so far
  pub ran_to_kept : (p : ℕ) → p ≤ count → Kept frame (7 * p) d (ran_to frame l d p).desk
  unfolding ran_to
  ran_to_kept zero h = (fits.ready, near_same frame d)
  ran_to_kept (suc p) h =
      let c = ran_to frame l d p in
      let k = ran_to_kept p (omega arith) in
      let planned = planned_same frame d.work c.desk.work k.1.same l count fits.planned in
      let e : 7 * p + 7 ≡ 7 * suc p = omega arith in
      cond_pred (λ (x : Choice). Kept frame (7 * suc p) d x.desk) (eqb c.register 16)
      (λ _. kept_more frame (7 * p) (7 * suc p) d c.desk (omega arith) k)
      (λ _. rw (sym e) (kept_then frame (7 * p) 7 d c.desk _ k.1 (ran_kept frame l count p c.desk k.0 planned h)))

  -- what the code asks for at each turn
  pub turn_ready : (p : ℕ) → p < count → (e : Desk) → e ≡ (ran_to frame l d p).desk → ((ran_to frame l d p).register ≡ 16 → ⊥)
      → (ReadyAt frame e × Planned frame l count e.work) × RoomAt 7 e
  turn_ready p h e q n =
      let c = ran_to frame l d p in
      let k = ran_to_kept p (omega arith) in
      rw q ((k.0, planned_same frame d.work c.desk.work k.1.same l count fits.planned), fits.room p h n)

  -- the tables keep their lengths
  pub turn_lengths : (p : ℕ) → p ≤ count → (e : Desk) → e ≡ (ran_to frame l d p).desk
      → (length e.work ≡ length d.work) × ((length e.steps ≡ length d.steps) × (length e.instructions ≡ length d.instructions))
  turn_lengths p h e q = let k = ran_to_kept p h in rw q (k.1.work_length, (k.1.steps_length, k.1.instructions_length))
