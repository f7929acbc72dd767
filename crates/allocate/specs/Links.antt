-- How the tables hold it: the next read of each node, and for each task the reads after it (codegen.rs, `reads` and `next`), made from the last task to the
-- first. The second layer, with the laws of its loop.
use Rattle.std.specs.Prelude.{◌≡◌, refl, List, length, ltb}
use Rattle.std.proofs.Common.{ap, sym, ◌∙◌, arith, get_or-set_other}
use Rattle.std.proofs.Math.Bool.{cond}
use Prim.Native.Nat.{ℕ, zero, suc, ◌+◌, ◌*◌, ◌-◌, ◌≤◌, ◌<◌}
use Rattle.std.proofs.Math.ListN.{get_or, set, length-set}
use Rattle.allocate.specs.declared.Frame.{Frame}
use Rattle.allocate.specs.declared.Reads.{Reads}
use Rattle.allocate.specs.Layout.{slot_at, canonical_at, next_at, task_at, link_at, home_at}
use Rattle.allocate.specs.Tasks.{Lent, reads_of, home_of}
use Rattle.allocate.specs.Planned.{Planned, reads_below}

-- the reads after this task, and this task as the next read of what it reads
unfoldable pub linked_by : Frame → Reads → ℕ → List ℕ → List ℕ
linked_by frame r position work =
    set
    (set
    (set (set work (link_at frame (2 * position)) (get_or work (next_at frame r.first) 0)) (link_at frame (2 * position + 1)) (get_or work (next_at frame r.second) 0))
    (next_at frame r.first) (position + 1))
    (next_at frame r.second) (position + 1)

unfoldable pub linked_at : Frame → Lent → ℕ → List ℕ → List ℕ
linked_at frame l position work = linked_by frame (reads_of frame l work (get_or work (task_at frame position) 0)) position work

-- .. of the first tasks, from the last of them on
unfoldable pub linked : Frame → Lent → ℕ → List ℕ → List ℕ
linked frame l zero work = work
linked frame l (suc position) work = linked frame l position (linked_at frame l position work)

-- ---- what the plan's regions hold is kept

-- a store in the allocator's regions or in the links
abbrev pub Loose : Frame → ℕ → Type 0
Loose frame j = ((i : ℕ) → i < frame.nodes → (canonical_at frame i ≡ j → ⊥) × (slot_at frame i ≡ j → ⊥))
    × (((p : ℕ) → p ≤ 2 * frame.nodes + frame.states + frame.delays → task_at frame p ≡ j → ⊥) × ((s : ℕ) → home_at frame s ≡ j → ⊥))

next_loose : (frame : Frame) (node : ℕ) → node < frame.nodes → Loose frame (next_at frame node)
next_loose frame node h = ((λ i q. ((λ e. omega arith), (λ e. omega arith))), ((λ p q e. omega arith), (λ s e. omega arith)))

link_loose : (frame : Frame) (k : ℕ) → k < 4 * frame.nodes + 2 * frame.states + 2 * frame.delays + 2 → Loose frame (link_at frame k)
link_loose frame k h = ((λ i q. ((λ e. omega arith), (λ e. omega arith))), ((λ p q e. omega arith), (λ s e. omega arith)))

module _ (frame : Frame) (l : Lent) (count : ℕ) (work : List ℕ) (planned : Planned frame l count work) where
  -- a store there changes nothing of the plan
  pub planned_set : (j word : ℕ) → Loose frame j → Planned frame l count (set work j word)
  unfolding home_of
  planned_set j word loose =
      let f = planned.few in
      record {
        canonical = λ i h. rw (get_or-set_other work j (canonical_at frame i) word 0 (loose.0 i h).0) (planned.canonical i h);
        homes = λ m h.
            let s : ℕ = cond (ltb m (frame.states + frame.delays)) (258 + m) 0 in
            rw (get_or-set_other work j (home_at frame s) word 0 (loose.1.1 s)) (planned.homes m h);
        few = f;
        tasks = λ p h. rw (get_or-set_other work j (task_at frame p) word 0 (loose.1.0 p (omega (arith, f)))) (planned.tasks p h);
        inside = λ p h. rw (get_or-set_other work j (task_at frame p) word 0 (loose.1.0 p (omega (arith, f)))) (planned.inside p h);
        keeps = λ p i h k e.
            rw (get_or-set_other work j (slot_at frame i) word 0 (loose.0 i k).1)
            (planned.keeps p i h k (sym (get_or-set_other work j (task_at frame p) word 0 (loose.1.0 p (omega (arith, f)))) ∙ e));
      }

-- ---- the loop

module _ (frame : Frame) (l : Lent) (count : ℕ) where
  -- a turn keeps the plan's regions
  pub linked_planned : (position : ℕ) (work : List ℕ) → position < count → Planned frame l count work → Planned frame l count (linked_at frame l position work)
  unfolding linked_at linked_by
  linked_planned position work h planned =
      let f = planned.few in
      let r = reads_of frame l work (get_or work (task_at frame position) 0) in
      let below = reads_below frame l work (get_or work (task_at frame position) 0) (planned.tasks position h) planned.canonical in
      let a = get_or work (next_at frame r.first) 0 in
      let b = get_or work (next_at frame r.second) 0 in
      let w = set work (link_at frame (2 * position)) a in
      let x = set w (link_at frame (2 * position + 1)) b in
      let y = set x (next_at frame r.first) (position + 1) in
      let p = planned_set frame l count work planned (link_at frame (2 * position)) a (link_loose frame (2 * position) (omega (arith, f))) in
      let q = planned_set frame l count w p (link_at frame (2 * position + 1)) b (link_loose frame (2 * position + 1) (omega (arith, f))) in
      let s = planned_set frame l count x q (next_at frame r.first) (position + 1) (next_loose frame r.first below.0) in
      planned_set frame l count y s (next_at frame r.second) (position + 1) (next_loose frame r.second below.1)

  -- and its length
  pub linked_length : (position : ℕ) (work : List ℕ) → length (linked_at frame l position work) ≡ length work
  unfolding linked_at linked_by
  linked_length position work = simp length-set

-- what holds before each turn
pub record Linking (frame : Frame) (l : Lent) (count position : ℕ) (old work : List ℕ) : Type 0 where
  pub le : position ≤ count
  pub same : linked frame l count old ≡ linked frame l position work
  pub size : length work ≡ length old
  pub planned : Planned frame l count old → Planned frame l count work

-- before the first turn
pub linking_start : (frame : Frame) (l : Lent) (count : ℕ) (work : List ℕ) → Linking frame l count count work work
linking_start frame l count work = record { le = omega arith; same = refl; size = refl; planned = λ p. p }

-- a turn
pub linking_next : (frame : Frame) (l : Lent) (count position : ℕ) (old work new : List ℕ) → Planned frame l count old → 1 ≤ position
    → Linking frame l count position old work
    → new ≡ linked_at frame l (position - 1) work → Linking frame l count (position - 1) old new
unfolding linked
linking_next frame l count position old work new begin h k e =
    let le = k.le in
    let z : position ≡ suc (position - 1) = omega arith in
    let n : linked frame l position work ≡ linked frame l (position - 1) (linked_at frame l (position - 1) work) = ap (λ (p : ℕ). linked frame l p work) z in
    record {
      le = omega arith;
      same = k.same ∙ (n ∙ ap (linked frame l (position - 1)) (sym e));
      size = ap length e ∙ (linked_length frame l count (position - 1) work ∙ k.size);
      planned = λ p. rw e (linked_planned frame l count (position - 1) work (omega arith) (k.planned p));
    }

-- after the last
pub linking_end : (frame : Frame) (l : Lent) (count position : ℕ) (old work : List ℕ) → position ≡ 0 → Linking frame l count position old work
    → work ≡ linked frame l count old
unfolding linked
linking_end frame l count position old work z k = sym (k.same ∙ rw z)
