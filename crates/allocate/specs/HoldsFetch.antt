-- Fetching and releasing on exact words do to the state what the first layer says. Assumes nothing.
use Rattle.std.specs.Prelude.{◌≡◌, ◌⊎◌, Bool, cond, List, [], ◌∷◌, length, set, T, eqb, leb}
use Rattle.std.proofs.Math.Path.{refl}
use Rattle.std.proofs.Common.{sym, ap, subst, ◌∙◌, inl, inr, arith, length-set, eq-eqb, ne_eqb, leb-true, leb-false}
use Rattle.std.proofs.Math.Bool.{true, false}
use Prim.Native.Nat.{ℕ, zero, suc, pred, ◌+◌, ◌-◌, ◌<◌}
use Rattle.std.proofs.Math.ListN.{get_or}
use Rattle.std.proofs.lemmas.List.{set-get_or}
use Rattle.std.proofs.Math.Seq.{set-set, get_or-set_same}
use Rattle.std.proofs.Math.Dec.{eqb-suc-zero}
use Rattle.std.proofs.lemmas.Bool.{eqb-false}
use Rattle.tables.specs.Tests.{cond_pred}
use Rattle.tables.specs.Parts.{length_part}
use Rattle.kernel.specs.declared.Instruction.TheVariants.{Immediate}
use Rattle.kernel.specs.Steps.{source_code, source_index}
use Rattle.block.specs.Block.{code, first}
use Rattle.plan.specs.Lists.{is_some}
use Rattle.plan.specs.Origins.{Origin, no_origin, immediate, has_origin, origin_at}
use Rattle.plan.specs.Origins as Origins
use Rattle.allocate.specs.declared.Frame.{Frame}
use Rattle.allocate.specs.declared.Access.{Access}
use Rattle.allocate.specs.declared.Reads.{Reads}
use Rattle.allocate.specs.Actions.{Action, load, load_immediate, source_of, load_action}
use Rattle.allocate.specs.State.{Allocated, allocated, all_locked, and_then, Setting, State, Taken, register_of, slot_of, is_fresh, from_slot, disown, give_back, vacate, release}
use Rattle.allocate.specs.Allocator.{distance, read_later, take_register, bring_from, bring_if, bring, fetch_held, fetch, release_if, release_all}
use Rattle.allocate.specs.Outcomes.{Post}
use Rattle.allocate.specs.StateLaws.{Good}
use Rattle.allocate.specs.FetchLaws.{Took, take_took}
use Rattle.allocate.specs.Layout.{slot_at, holder_at, spilled_at, fresh_at, freed_at}
use Rattle.allocate.specs.Desk.{Desk, Choice, choose, access, emitted, operated, reload_code, control_supply, sample_supply, supply_of, brought, loaded, filled, taken, fetched, dropped_register, dropped_slot, released, released_if, released_both}
use Rattle.allocate.specs.DeskLaws.{register_none, register_dropped, slot_none, slot_fixed, slot_freed}
use Rattle.allocate.specs.Ready.{Kept, dropped_slot_kept}
use Rattle.allocate.specs.Holds.{origin_of, next_word, next_words, Tables, Holds, phase_same, holder_at_lem, spilled_at_lem, fresh_at_lem, tables_spilled, tables_push}
use Rattle.allocate.specs.HoldsLaws.{Says, says_load, says_from, holds_by, emitted_holds, operated_holds, left, left_holds}
use Rattle.allocate.specs.HoldsTake.{Locks, Answers, phase_sixteen, next_word_lem, taken_holds}

-- ---- a value is brought

-- a load's code and index are its source's
pub record Loads (a : Access) : Type 0 where
  pub load : (a.code ≡ 0 → ⊥) → (a.code ≡ 7 → ⊥)
      → (source_code (source_of a.code a.index) ≡ a.code) × (source_index (source_of a.code a.index) ≡ a.index)

no_load : Loads (access 0 0)
no_load = record { load = λ z _. absurd (z refl) }

bits_load : (w : ℕ) → Loads (access 7 w)
bits_load w = record { load = λ _ z. absurd (z refl) }

audio_load : Loads (access 1 0)
unfolding source_of
audio_load = record { load = λ _ _. (refl, refl) }

network_load : Loads (access 2 0)
unfolding source_of
network_load = record { load = λ _ _. (refl, refl) }

parameter_load : (w : ℕ) → Loads (access 3 w)
unfolding source_of
parameter_load w = record { load = λ _ _. (refl, refl) }

state_load : (w : ℕ) → Loads (access 4 w)
unfolding source_of
state_load w = record { load = λ _ _. (refl, refl) }

delay_load : (w : ℕ) → Loads (access 5 w)
unfolding source_of
delay_load w = record { load = λ _ _. (refl, refl) }

control_load : (w : ℕ) → Loads (access 6 w)
unfolding source_of
control_load w = record { load = λ _ _. (refl, refl) }

-- where a value comes from is computed, an immediate or a load
pub supply_loads : (frame : Frame) (nodes work : List ℕ) (node : ℕ) → Loads (supply_of frame nodes work node)
unfolding supply_of control_supply sample_supply
supply_loads frame nodes work node =
    let c = code nodes node in
    let w = first nodes node in
    cond_pred Loads frame.control
    (λ _. cond_pred Loads (eqb c 1) (λ _. bits_load w) (λ _. cond_pred Loads (eqb c 2) (λ _. parameter_load w) (λ _. no_load)))
    (λ _.
    cond_pred Loads (eqb (get_or work (slot_at frame node) 0) 0)
    (λ _.
    cond_pred Loads (eqb c 0) (λ _. audio_load)
    (λ _.
    cond_pred Loads (eqb c 1) (λ _. bits_load w)
    (λ _.
    cond_pred Loads (eqb c 2) (λ _. parameter_load w)
    (λ _.
    cond_pred Loads (eqb c 3) (λ _. state_load w)
    (λ _. cond_pred Loads (eqb c 4) (λ _. delay_load w) (λ _. cond_pred Loads (eqb c 17) (λ _. network_load) (λ _. no_load)))))))
    (λ _. control_load (get_or work (slot_at frame node) 0 - 1)))

-- ---- what a task reads

-- two nodes, or one, which stands twice
abbrev pub ReadsAre : Reads → List ℕ → Type 0
ReadsAre r reads = (reads ≡ r.first ∷ r.second ∷ []) ⊎ ((reads ≡ r.first ∷ []) × (r.second ≡ r.first))

module _ (frame : Frame) (nodes : List ℕ) (e : Setting) (table program : List ℕ) (prior : List Action) (rest : List (List ℕ)) (position : ℕ) where
  abbrev H : Desk → State → Type 0
  H d s = Holds frame nodes e table program prior rest position d s

  -- A LOAD or an immediate
  pub brought_holds : (d : Desk) (s : State) → H d s → (from : Access) (origin : Origin) → origin_of from ≡ origin → T (has_origin origin) → Loads from
      → (register : ℕ) → register < 16 → H (brought from register d) (bring_from origin register s)
  unfolding brought bring_from origin_of load_action
  brought_holds d s h from _ q has loads register small = rw (← q) (go (eqb c 0) (eqb c 7) refl refl (rw (← q) at has))
    where
      c : ℕ
      c = from.code

      i : ℕ
      i = from.index

      go : (a b : Bool) → eqb c 0 ≡ a → eqb c 7 ≡ b → T (has_origin (cond a no_origin (cond b (immediate i) (Origins.loaded c i))))
          → H (cond b (operated (Immediate register i) d) (emitted c register i d))
          (bring_from (cond a no_origin (cond b (immediate i) (Origins.loaded c i))) register s)
      go true b x y t = absurd t
      go false true x y t = operated_holds frame nodes e table program prior rest position d s h (load_immediate i register) (Immediate register i) refl
      go false false x y t =
          let l = loads.load (eqb-false c 0 x) (eqb-false c 7 y) in
          let says : Says (load (source_of c i) register) c register i = rw (l.0, l.1) at (says_load register small (source_of c i)) in
          emitted_holds frame nodes e table program prior rest position d s h (load (source_of c i) register) c register i says

  -- THE SECOND HALF OF FETCH
  pub loaded_holds : (d : Desk) (s : State) → H d s → (node register : ℕ) → node < frame.nodes → register < 16
      → (T (is_fresh s node) → T (has_origin (origin_at e.origins node)))
      → H (loaded frame nodes node register d) (bring e node register s)
  unfolding loaded bring
  loaded_holds d s h node register here small src =
      rw (← (fresh_at_lem frame d.work _ _ _ _ _ _ h.tables node here))
      (go (get_or d.work (fresh_at frame node) 0) (fresh_at_lem frame d.work _ _ _ _ _ _ h.tables node here))
    where
      slot : get_or d.work (spilled_at frame node) 0 - 1 ≡ pred (slot_of s node)
      slot = rw (spilled_at_lem frame d.work _ _ _ _ _ _ h.tables node here) (omega arith)

      go : (w : ℕ) → is_some w ≡ is_fresh s node
          → H (cond (eqb w 0) (emitted (reload_code frame) register (get_or d.work (spilled_at frame node) 0 - 1) d) (brought (supply_of frame nodes d.work node) register d))
          (bring_if (is_some w) e node register s)
      go zero q =
          rw slot
          (emitted_holds frame nodes e table program prior rest position d s h (from_slot e (pred (slot_of s node)) register) (reload_code frame) register (pred (slot_of s node))
          (says_from register small e frame h.phase.control (pred (slot_of s node))))
      go (suc w) q =
          rw (eqb-suc-zero w)
          (brought_holds d s h (supply_of frame nodes d.work node) (origin_at e.origins node) (h.phase.supply node here) (src (rw (← q) tt))
          (supply_loads frame nodes d.work node) register small)

  -- AN OPERAND IS FETCHED, or both refuse
  pub fetched_holds : (d : Desk) (s : State) → H d s → (home : List ℕ) → Good e home s → (first second : ℕ) (locked : List ℕ) → Locks first second locked
      → (node : ℕ) → node < frame.nodes
      → Answers frame nodes e table program prior rest position (fetched frame nodes first second node d) (fetch e rest node locked s)
  unfolding fetched filled fetch
  fetched_holds d s h home g first second locked locks node here = rw word (go (register_of s node) refl)
    where
      word : get_or d.work (holder_at frame node) 0 ≡ register_of s node
      word = holder_at_lem frame d.work _ _ _ _ _ _ h.tables node here

      ln : node < length e.origins
      ln = rw h.phase.count here

      fill : (c : Choice) (m : Allocated Taken) → Answers frame nodes e table program prior rest position c m → Post (Unit {0}) (Took e home node locked s) m
          → Answers frame nodes e table program prior rest position (filled frame nodes node c)
          (and_then m (λ t. allocated (record { register = t.register; state = bring e node t.register t.state })))
      fill c (allocated t) a k =
          let n : c.register ≡ 16 → ⊥ = λ z. omega (arith, a.0, a.1.0) in
          rw (ne_eqb c.register 16 n) (
            a.0,
            (
              a.1.0,
              rw a.0 (loaded_holds c.desk t.state a.1.1 node t.register here a.1.0 (k.good.src node)),
            ),
          )
      fill c all_locked a k = rw (eq-eqb c.register 16 a) a

      go : (r : ℕ) → register_of s node ≡ r
          → Answers frame nodes e table program prior rest position (cond (eqb r 0) (filled frame nodes node (taken frame first second node d)) (choose (r - 1) d))
          (fetch_held e rest node locked s r)
      go zero q =
          fill (taken frame first second node d) (take_register e rest node locked s)
          (taken_holds frame nodes e table program prior rest position d s h g.owners first second locked locks node here)
          (take_took e home (phase_sixteen frame nodes e d.work h.phase) rest node locked s g q ln)
      go (suc r) q = rw (eqb-suc-zero r) (omega arith, (omega (arith, h.ready.holders node here, word), h))

  -- ---- what is not read again

  -- a node's register is nobody's
  abbrev unheld : ℕ → State → State
  unheld n s =
      record {
        holder = set s.holder n 0;
        owner = disown (register_of s n) s.owner;
        spilled = s.spilled;
        fresh = s.fresh;
        free = s.free;
        slots = s.slots;
        steps = s.steps;
        most = s.most;
      }

  -- its slot is free again
  abbrev unslotted : ℕ → List ℕ → State → State
  unslotted n free s =
      record {
        holder = s.holder;
        owner = s.owner;
        spilled = set s.spilled n 0;
        fresh = s.fresh;
        free = free;
        slots = s.slots;
        steps = s.steps;
        most = s.most;
      }

  dropped_register_holds : (d : Desk) (s : State) → H d s → (node : ℕ) → node < frame.nodes → H (dropped_register frame node d) (unheld node s)
  unfolding vacate
  dropped_register_holds d s h node here = go (register_of s node) refl
    where
      word : get_or d.work (holder_at frame node) 0 ≡ register_of s node
      word = holder_at_lem frame d.work _ _ _ _ _ _ h.tables node here

      go : (r : ℕ) → register_of s node ≡ r
          → H (dropped_register frame node d)
          (record { holder = set s.holder node 0; owner = disown r s.owner; spilled = s.spilled; fresh = s.fresh; free = s.free; slots = s.slots; steps = s.steps; most = s.most })
      go zero q =
          let same : set s.holder node 0 ≡ s.holder = ap (set s.holder node) (sym q) ∙ set-get_or s.holder node 0 in
          holds_by frame nodes e table program prior rest position d _ _ (sym (register_none frame node d (word ∙ q))) (rw same h)
      go (suc r) q =
          let some : get_or d.work (holder_at frame node) 0 ≡ 0 → ⊥ = λ z. omega (arith, word, q) in
          let z : get_or d.work (holder_at frame node) 0 - 1 ≡ r = omega (arith, word, q) in
          holds_by frame nodes e table program prior rest position (left frame node r d) _ _
          (sym (register_dropped frame node d some) ∙ ap (λ (x : ℕ). left frame node x d) z)
          (left_holds frame nodes e table program prior rest position d s h node r here)

  dropped_slot_holds : (d : Desk) (s : State) → H d s → (node : ℕ) → node < frame.nodes
      → H (dropped_slot frame node d) (unslotted node (give_back e.fixed (slot_of s node) s.free) s)
  dropped_slot_holds d s h node here = go (slot_of s node) refl
    where
      word : get_or d.work (spilled_at frame node) 0 ≡ slot_of s node
      word = spilled_at_lem frame d.work _ _ _ _ _ _ h.tables node here

      k : Kept frame 0 d (dropped_slot frame node d)
      k = dropped_slot_kept frame d h.ready node here

      off : Tables frame (set d.work (spilled_at frame node) 0) d.allocator.freed (next_words rest position frame.nodes) s.holder
          (set s.spilled node 0) s.fresh s.free
      off = tables_spilled frame d.work d.allocator.freed _ s.holder s.spilled s.fresh s.free h.tables node 0 here

      room : freed_at frame d.allocator.freed < length (set d.work (spilled_at frame node) 0)
      room = rw (length-set d.work (spilled_at frame node) 0) (omega (arith, h.ready.room, h.ready.wide.wide, h.ready.wide.some))

      given : (slot : ℕ) → slot_of s node ≡ suc slot → (b : Bool) → leb e.fixed slot ≡ b
          → H (dropped_slot frame node d) (unslotted node (cond b (slot ∷ s.free) s.free) s)
      given slot q true l =
          let some : get_or d.work (spilled_at frame node) 0 ≡ 0 → ⊥ = λ z. omega (arith, word, q) in
          let w : get_or d.work (spilled_at frame node) 0 ≡ suc slot = word ∙ q in
          let x = slot_freed frame node d some (omega (arith, w, leb-true e.fixed slot l, h.phase.fixed)) in
          let k₁ = subst (Kept frame 0 d) (sym x) k in
          holds_by frame nodes e table program prior rest position _ _ _ (sym x)
          (record {
            ready = k₁.0;
            phase = phase_same frame nodes e d.work _ k₁.1.same h.phase;
            few = h.few;
            tables =
                rw w (tables_push frame (set d.work (spilled_at frame node) 0) d.allocator.freed _ s.holder (set s.spilled node 0) s.fresh s.free off slot room);
            owner = h.owner;
            slots = h.slots;
            most = h.most;
            written = h.written;
          })
      given slot q false l =
          let some : get_or d.work (spilled_at frame node) 0 ≡ 0 → ⊥ = λ z. omega (arith, word, q) in
          let x = slot_fixed frame node d some (omega (arith, word, q, leb-false e.fixed slot l, h.phase.fixed)) in
          let k₁ = subst (Kept frame 0 d) (sym x) k in
          holds_by frame nodes e table program prior rest position _ _ _ (sym x)
          (record {
            ready = k₁.0;
            phase = phase_same frame nodes e d.work _ k₁.1.same h.phase;
            few = h.few;
            tables = off;
            owner = h.owner;
            slots = h.slots;
            most = h.most;
            written = h.written;
          })

      go : (w : ℕ) → slot_of s node ≡ w → H (dropped_slot frame node d) (unslotted node (give_back e.fixed w s.free) s)
      go zero q =
          let same : set s.spilled node 0 ≡ s.spilled = ap (set s.spilled node) (sym q) ∙ set-get_or s.spilled node 0 in
          holds_by frame nodes e table program prior rest position d _ _ (sym (slot_none frame node d (word ∙ q))) (rw same h)
      go (suc slot) q = given slot q (leb e.fixed slot) refl

  -- A NODE IS RELEASED
  pub released_holds : (d : Desk) (s : State) → H d s → (node : ℕ) → node < frame.nodes → H (released frame node d) (release e node s)
  unfolding released release
  released_holds d s h node here =
      dropped_slot_holds (dropped_register frame node d) (unheld node s) (dropped_register_holds d s h node here) node here

  -- .. where it is not read again
  pub released_if_holds : (d : Desk) (s : State) → H d s → (node : ℕ) → node < frame.nodes → H (released_if frame node d) (release_if (read_later rest node) e node s)
  unfolding released_if next_word
  released_if_holds d s h node here = rw (next_word_lem frame nodes e table program prior rest position d s h node here) (go (read_later rest node))
    where
      go : (b : Bool) → H (cond (eqb (cond b (suc (position + distance rest node)) 0) 0) (released frame node d) d) (release_if b e node s)
      go true = rw (eqb-suc-zero (position + distance rest node)) h
      go false = released_holds d s h node here

  -- twice is once
  pub release_twice : (n : ℕ) (s : State) → n < length s.holder → n < length s.spilled → release e n (release e n s) ≡ release e n s
  unfolding release
  release_twice n s l m =
      rw (get_or-set_same s.holder n 0 0 l, get_or-set_same s.spilled n 0 0 m, set-set s.holder n 0 0, set-set s.spilled n 0 0)

  -- THE OPERANDS OF A TASK are released
  pub released_both_holds : (d : Desk) (s : State) → H d s → (r : Reads) (reads : List ℕ) → ReadsAre r reads → r.first < frame.nodes → r.second < frame.nodes
      → H (released_both frame r.first r.second d) (release_all e rest reads s)
  unfolding released_both release_all
  released_both_holds d s h r reads (inl q) a b =
      rw q
      (released_if_holds (released_if frame r.first d) (release_if (read_later rest r.first) e r.first s) (released_if_holds d s h r.first a) r.second b)
  released_both_holds d s h r reads (inr q) a b =
      rw (q.0, q.1) (subst (λ (x : State). H (released_if frame r.first (released_if frame r.first d)) x) (once (read_later rest r.first)) both)
    where
      one : H (released_if frame r.first d) (release_if (read_later rest r.first) e r.first s)
      one = released_if_holds d s h r.first a

      both : H (released_if frame r.first (released_if frame r.first d))
          (release_if (read_later rest r.first) e r.first (release_if (read_later rest r.first) e r.first s))
      both = released_if_holds (released_if frame r.first d) (release_if (read_later rest r.first) e r.first s) one r.first a

      holders : length s.holder ≡ frame.nodes
      holders = sym (ap length h.tables.holders) ∙ length_part (holder_at frame 0) frame.nodes d.work (omega (arith, h.ready.wide.wide))

      spilleds : length s.spilled ≡ frame.nodes
      spilleds = sym (ap length h.tables.spilleds) ∙ length_part (spilled_at frame 0) frame.nodes d.work (omega (arith, h.ready.wide.wide))

      once : (b : Bool) → release_if b e r.first (release_if b e r.first s) ≡ release_if b e r.first s
      once true = refl
      once false = release_twice r.first s (rw holders a) (rw spilleds a)
