-- What the tables hold: a desk of the second layer against a state of the first, region by region. Definitions, and what a store in a region changes.
use Rattle.std.specs.Prelude.{◌≡◌, refl, ◌⊎◌, Bool, false, cond, List, [], ◌∷◌, ◌++◌, map, ℕ, zero, suc, ◌+◌, ◌*◌, ◌-◌, ◌≤◌, ◌<◌, length, get_or, set, take, eqb}
use Rattle.std.proofs.Common.{sym, ap, ◌∙◌, inl, inr, arith, length-append, take_at, take-take}
use Rattle.std.proofs.Math.ListN.{get_or-map}
use Rattle.std.proofs.lemmas.List.Edits.{sets}
use Rattle.std.proofs.lemmas.List.{get_or_at}
use Rattle.tables.specs.Parts.{part, part_at, part_in, part_out, part_push}
use Rattle.plan.specs.Lists.{filter, count_up, is_some}
use Rattle.plan.specs.Nodes.{node_at}
use Rattle.plan.specs.Origins.{Origin, no_origin, immediate, loaded, origin_at, canonical}
use Rattle.plan.specs.Origins as Origins
use Rattle.plan.specs.Flow.{node_in}
use Rattle.allocate.specs.declared.Frame.{Frame}
use Rattle.allocate.specs.declared.Access.{Access}
use Rattle.allocate.specs.Actions.{Action}
use Rattle.allocate.specs.ActionWords.{operations_in, step_words, instruction_words}
use Rattle.allocate.specs.State.{Setting, State}
use Rattle.allocate.specs.Allocator.{distance, read_later, home_code}
use Rattle.allocate.specs.Layout.{slot_at, canonical_at, next_at, holder_at, spilled_at, fresh_at, freed_at, home_at}
use Rattle.allocate.specs.Registers.{usable_bit}
use Rattle.allocate.specs.Desk.{Desk, supply_of}
use Rattle.allocate.specs.Tasks.{canonical_of, home_of, target_of}
use Rattle.allocate.specs.Ready.{ReadyAt}

-- ---- what a phase does not change

-- where a value comes from, by the code and index of its load: 0 computed, 7 an immediate
unfoldable pub origin_of : Access → Origin
origin_of from = cond (eqb from.code 0) no_origin (cond (eqb from.code 7) (immediate from.index) (loaded from.code from.index))

-- the frame, the nodes' words and the plan's regions say what the setting says
pub record Phase (frame : Frame) (nodes : List ℕ) (e : Setting) (work : List ℕ) : Type 0 where
  pub count : length e.origins ≡ frame.nodes
  pub registers : e.registers ≡ filter (usable_bit frame.mask) (count_up 0 16)
  pub control : e.in_control ≡ frame.control
  pub fixed : e.fixed ≡ frame.fixed
  pub each : (n : ℕ) → n < frame.nodes → node_at e.nodes n ≡ node_in nodes n
  pub supply : (n : ℕ) → n < frame.nodes → origin_of (supply_of frame nodes work n) ≡ origin_at e.origins n
  pub firsts : (n : ℕ) → n < frame.nodes → canonical_of frame work n ≡ canonical e.origins n
  pub homes : (memory : ℕ) → memory ≤ frame.states + frame.delays
      → home_of frame work memory ≡ Origins.home_of e.origins (home_code (target_of frame memory).code) (target_of frame memory).index

-- ---- what it changes

-- the position + 1 of the next task that reads node n, if one does: the tasks to come stand from `position` on
unfoldable pub next_word : List (List ℕ) → ℕ → ℕ → ℕ
next_word rest position n = cond (read_later rest n) (suc (position + distance rest n)) 0

-- of all nodes
abbrev pub next_words : List (List ℕ) → ℕ → ℕ → List ℕ
next_words rest position count = map (next_word rest position) (count_up 0 count)

-- freed slots from the first freed to the last, each + 1
abbrev pub stack : List ℕ → List ℕ
stack [] = []
stack (slot ∷ free) = stack free ++ (suc slot ∷ [])

-- the regions of the work table
pub record Tables (frame : Frame) (work : List ℕ) (freed : ℕ) (next holder spilled : List ℕ) (fresh : List Bool) (free : List ℕ) : Type 0 where
  pub nexts : part (next_at frame 0) frame.nodes work ≡ next
  pub holders : part (holder_at frame 0) frame.nodes work ≡ holder
  pub spilleds : part (spilled_at frame 0) frame.nodes work ≡ spilled
  pub freshes : map is_some (part (fresh_at frame 0) frame.nodes work) ≡ fresh
  pub frees : part (freed_at frame 0) freed work ≡ stack free
  pub count : freed ≡ length free

-- the two tables that are written, in place of what was in them, and how much of them is
pub record Written (table program : List ℕ) (actions : List Action) (steps instructions : List ℕ) (stepCount instructionCount : ℕ) : Type 0 where
  pub count : stepCount ≡ length actions
  pub number : instructionCount ≡ length (operations_in actions)
  pub words : steps ≡ sets table 0 (step_words 0 actions)
  pub operations : instructions ≡ sets program 0 (instruction_words (operations_in actions))

-- A DESK HOLDS A STATE. `rest` are the reads of the tasks to come, the first of which stands at `position`; `prior` are the actions of the phase before;
-- `table` and `program` are the tables of steps and instructions as they were lent
pub record Holds (frame : Frame) (nodes : List ℕ) (e : Setting) (table program : List ℕ) (prior : List Action) (rest : List (List ℕ)) (position : ℕ) (d : Desk) (s : State) : Type 0 where
  pub ready : ReadyAt frame d
  pub phase : Phase frame nodes e d.work
  pub few : suc position + length rest ≤ 0x1_0000_0000
  pub tables : Tables frame d.work d.allocator.freed (next_words rest position frame.nodes) s.holder s.spilled s.fresh s.free
  pub owner : d.allocator.owner ≡ s.owner
  pub slots : d.allocator.slots ≡ s.slots
  pub most : d.allocator.most ≡ s.most
  pub written : Written table program (prior ++ s.steps) d.steps d.instructions d.allocator.steps d.allocator.instructions

-- ---- the plan's regions stay as they are

-- a word outside the allocator's regions is as it was
abbrev pub SamePlan : Frame → List ℕ → List ℕ → Type 0
SamePlan frame old new = (j : ℕ) → (j < 5 * frame.nodes) ⊎ (10 * frame.nodes ≤ j) → get_or new j 0 ≡ get_or old j 0

-- a word of slots, first nodes and homes is
abbrev pub SamePhase : Frame → List ℕ → List ℕ → Type 0
SamePhase frame old new = (j : ℕ) → (j < 5 * frame.nodes) ⊎ (home_at frame 0 ≤ j) → get_or new j 0 ≡ get_or old j 0

-- the first says the second
pub plan_phase : (frame : Frame) (old new : List ℕ) → SamePlan frame old new → SamePhase frame old new
plan_phase frame old new same j (inl q) = same j (inl q)
plan_phase frame old new same j (inr q) = same j (inr (omega arith))

module _ (frame : Frame) (nodes : List ℕ) (e : Setting) (old new : List ℕ) (same : SamePhase frame old new) where
  supply_same : (n : ℕ) → n < frame.nodes → supply_of frame nodes new n ≡ supply_of frame nodes old n
  unfolding supply_of
  supply_same n h = rw (same (slot_at frame n) (inl (omega arith)))

  homes_same : (memory : ℕ) → home_of frame new memory ≡ home_of frame old memory
  unfolding home_of
  homes_same memory = same (home_at frame _) (inr (omega arith))

  pub phase_kept : Phase frame nodes e old → Phase frame nodes e new
  phase_kept p =
      record {
        count = p.count;
        registers = p.registers;
        control = p.control;
        fixed = p.fixed;
        each = p.each;
        supply = λ n h. rw (supply_same n h) (p.supply n h);
        firsts = λ n h. rw (same (canonical_at frame n) (inl (omega arith))) (p.firsts n h);
        homes = λ memory h. rw (homes_same memory) (p.homes memory h);
      }

pub phase_same : (frame : Frame) (nodes : List ℕ) (e : Setting) (old new : List ℕ) → SamePlan frame old new → Phase frame nodes e old → Phase frame nodes e new
phase_same frame nodes e old new same p = phase_kept frame nodes e old new (plan_phase frame old new same) p

-- ---- generic: a store, then a map

pub map_set : {A B : Type 0} (f : A → B) (l : List A) (i : ℕ) (v : A) → map f (set l i v) ≡ set (map f l) i (f v)
map_set f [] i v = refl
map_set f (x ∷ xs) zero v = refl
map_set f (x ∷ xs) (suc i) v = ap (λ l. f x ∷ l) (map_set f xs i v)

pub stack_length : (free : List ℕ) → length (stack free) ≡ length free
stack_length [] = refl
stack_length (slot ∷ free) = omega (arith, length-append (stack free) (suc slot ∷ []), stack_length free)

-- ---- words of the regions

module _ (frame : Frame) (work : List ℕ) (freed : ℕ) (next holder spilled : List ℕ) (fresh : List Bool) (free : List ℕ)
    (t : Tables frame work freed next holder spilled fresh free) where
  -- a node's register
  pub holder_at_lem : (n : ℕ) → n < frame.nodes → get_or work (holder_at frame n) 0 ≡ get_or holder n 0
  holder_at_lem n h =
      let z : holder_at frame 0 + n ≡ holder_at frame n = omega arith in
      sym (part_at (holder_at frame 0) frame.nodes work n h ∙ ap (λ (i : ℕ). get_or work i 0) z) ∙ ap (λ (l : List ℕ). get_or l n 0) t.holders

  -- its slot
  pub spilled_at_lem : (n : ℕ) → n < frame.nodes → get_or work (spilled_at frame n) 0 ≡ get_or spilled n 0
  spilled_at_lem n h =
      let z : spilled_at frame 0 + n ≡ spilled_at frame n = omega arith in
      sym (part_at (spilled_at frame 0) frame.nodes work n h ∙ ap (λ (i : ℕ). get_or work i 0) z) ∙ ap (λ (l : List ℕ). get_or l n 0) t.spilleds

  -- whether it is fresh
  pub fresh_at_lem : (n : ℕ) → n < frame.nodes → is_some (get_or work (fresh_at frame n) 0) ≡ get_or fresh n false
  fresh_at_lem n h =
      let z : fresh_at frame 0 + n ≡ fresh_at frame n = omega arith in
      let q = part_at (fresh_at frame 0) frame.nodes work n h ∙ ap (λ (i : ℕ). get_or work i 0) z in
      ap is_some (sym q) ∙ (sym (get_or-map is_some (part (fresh_at frame 0) frame.nodes work) n 0) ∙ ap (λ (l : List Bool). get_or l n false) t.freshes)

  -- its next read
  pub next_at_lem : (n : ℕ) → n < frame.nodes → get_or work (next_at frame n) 0 ≡ get_or next n 0
  next_at_lem n h =
      let z : next_at frame 0 + n ≡ next_at frame n = omega arith in
      sym (part_at (next_at frame 0) frame.nodes work n h ∙ ap (λ (i : ℕ). get_or work i 0) z) ∙ ap (λ (l : List ℕ). get_or l n 0) t.nexts

  -- ---- a store in a region

  -- a node's register
  pub tables_holder : (n v : ℕ) → n < frame.nodes → Tables frame (set work (holder_at frame n) v) freed next (set holder n v) spilled fresh free
  tables_holder n v h =
      record {
        nexts = part_out (next_at frame 0) frame.nodes work (holder_at frame n) v (inr (omega arith)) ∙ t.nexts;
        holders = part_in (holder_at frame 0) frame.nodes work (holder_at frame n) n v (omega arith) h ∙ ap (λ (l : List ℕ). set l n v) t.holders;
        spilleds = part_out (spilled_at frame 0) frame.nodes work (holder_at frame n) v (inl (omega arith)) ∙ t.spilleds;
        freshes = ap (map is_some) (part_out (fresh_at frame 0) frame.nodes work (holder_at frame n) v (inl (omega arith))) ∙ t.freshes;
        frees = part_out (freed_at frame 0) freed work (holder_at frame n) v (inl (omega arith)) ∙ t.frees;
        count = t.count;
      }

  -- its slot
  pub tables_spilled : (n v : ℕ) → n < frame.nodes → Tables frame (set work (spilled_at frame n) v) freed next holder (set spilled n v) fresh free
  tables_spilled n v h =
      record {
        nexts = part_out (next_at frame 0) frame.nodes work (spilled_at frame n) v (inr (omega arith)) ∙ t.nexts;
        holders = part_out (holder_at frame 0) frame.nodes work (spilled_at frame n) v (inr (omega arith)) ∙ t.holders;
        spilleds = part_in (spilled_at frame 0) frame.nodes work (spilled_at frame n) n v (omega arith) h ∙ ap (λ (l : List ℕ). set l n v) t.spilleds;
        freshes = ap (map is_some) (part_out (fresh_at frame 0) frame.nodes work (spilled_at frame n) v (inl (omega arith))) ∙ t.freshes;
        frees = part_out (freed_at frame 0) freed work (spilled_at frame n) v (inl (omega arith)) ∙ t.frees;
        count = t.count;
      }

  -- whether it is fresh
  pub tables_fresh : (n v : ℕ) → n < frame.nodes → Tables frame (set work (fresh_at frame n) v) freed next holder spilled (set fresh n (is_some v)) free
  tables_fresh n v h =
      record {
        nexts = part_out (next_at frame 0) frame.nodes work (fresh_at frame n) v (inr (omega arith)) ∙ t.nexts;
        holders = part_out (holder_at frame 0) frame.nodes work (fresh_at frame n) v (inr (omega arith)) ∙ t.holders;
        spilleds = part_out (spilled_at frame 0) frame.nodes work (fresh_at frame n) v (inr (omega arith)) ∙ t.spilleds;
        freshes =
            ap (map is_some) (part_in (fresh_at frame 0) frame.nodes work (fresh_at frame n) n v (omega arith) h)
            ∙ (map_set is_some (part (fresh_at frame 0) frame.nodes work) n v ∙ ap (λ (l : List Bool). set l n (is_some v)) t.freshes);
        frees = part_out (freed_at frame 0) freed work (fresh_at frame n) v (inl (omega arith)) ∙ t.frees;
        count = t.count;
      }

  -- its next read
  pub tables_next : (n v : ℕ) → n < frame.nodes → Tables frame (set work (next_at frame n) v) freed (set next n v) holder spilled fresh free
  tables_next n v h =
      record {
        nexts = part_in (next_at frame 0) frame.nodes work (next_at frame n) n v (omega arith) h ∙ ap (λ (l : List ℕ). set l n v) t.nexts;
        holders = part_out (holder_at frame 0) frame.nodes work (next_at frame n) v (inl (omega arith)) ∙ t.holders;
        spilleds = part_out (spilled_at frame 0) frame.nodes work (next_at frame n) v (inl (omega arith)) ∙ t.spilleds;
        freshes = ap (map is_some) (part_out (fresh_at frame 0) frame.nodes work (next_at frame n) v (inl (omega arith))) ∙ t.freshes;
        frees = part_out (freed_at frame 0) freed work (next_at frame n) v (inl (omega arith)) ∙ t.frees;
        count = t.count;
      }

  -- one slot more on the stack
  pub tables_push : (slot : ℕ) → freed_at frame freed < length work
      → Tables frame (set work (freed_at frame freed) (suc slot)) (freed + 1) next holder spilled fresh (slot ∷ free)
  tables_push slot h =
      let z : freed_at frame 0 + freed ≡ freed_at frame freed = omega arith in
      record {
        nexts = part_out (next_at frame 0) frame.nodes work (freed_at frame freed) (suc slot) (inr (omega arith)) ∙ t.nexts;
        holders = part_out (holder_at frame 0) frame.nodes work (freed_at frame freed) (suc slot) (inr (omega arith)) ∙ t.holders;
        spilleds = part_out (spilled_at frame 0) frame.nodes work (freed_at frame freed) (suc slot) (inr (omega arith)) ∙ t.spilleds;
        freshes = ap (map is_some) (part_out (fresh_at frame 0) frame.nodes work (freed_at frame freed) (suc slot) (inr (omega arith))) ∙ t.freshes;
        frees =
            ap (λ (i : ℕ). part (freed_at frame 0) (freed + 1) (set work i (suc slot))) (sym z)
            ∙ (part_push (freed_at frame 0) freed work (suc slot) (omega arith) ∙ ap (λ (l : List ℕ). l ++ (suc slot ∷ [])) t.frees);
        count = omega (arith, t.count);
      }

-- the slot on top of the stack, and the stack without it
pub tables_pop : (frame : Frame) (work : List ℕ) (freed : ℕ) (next holder spilled : List ℕ) (fresh : List Bool) (slot : ℕ) (free : List ℕ)
    → Tables frame work freed next holder spilled fresh (slot ∷ free)
    → (get_or work (freed_at frame (freed - 1)) 0 ≡ suc slot) × Tables frame work (freed - 1) next holder spilled fresh free
unfolding part
tables_pop frame work freed next holder spilled fresh slot free t =
    let b = freed_at frame 0 in
    let m : length (stack free) ≡ freed - 1 = omega (arith, t.count, stack_length free) in
    let z : b + (freed - 1) ≡ freed_at frame (freed - 1) = omega arith in
    let q : get_or (part b freed work) (freed - 1) 0 ≡ suc slot =
    ap (λ (l : List ℕ). get_or l (freed - 1) 0) t.frees ∙ get_or_at (stack free) (suc slot) [] 0 (freed - 1) m in (
      sym (part_at b freed work (freed - 1) (omega (arith, t.count)) ∙ ap (λ (i : ℕ). get_or work i 0) z) ∙ q,
      record {
        nexts = t.nexts;
        holders = t.holders;
        spilleds = t.spilleds;
        freshes = t.freshes;
        frees =
            sym (take-take (freed - 1) freed _ (omega arith))
            ∙ (ap (take (freed - 1)) t.frees ∙ take_at (stack free) (suc slot ∷ []) (freed - 1) m);
        count = omega (arith, t.count);
      },
    )
