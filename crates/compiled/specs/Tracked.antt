-- Spilling, taking, bringing and fetching emit actions that the walk goes through. Assumes nothing.
use Rattle.std.specs.Prelude.{◌≡◌, ◌≢◌, ◌⊎◌, Bool, ◌&&◌, ◌||◌, length, set}
use Rattle.std.proofs.Math.Path.{refl}
use Rattle.std.proofs.Common.{sym, ◌∙◌, inl, inr, length-set, get_or-set_same, get_or-set_other}
use Rattle.std.proofs.Math.Bool.{true, false, cond}
use Rattle.std.proofs.lemmas.Bool.{false≢true}
use mathlib.Core.List.{List, [], ◌∷◌}
use Prim.Native.Nat.{ℕ, zero, suc, pred, ◌<◌}
use native.Mathlib.Omega.{arith}
use Rattle.std.proofs.Math.Nat.{suc_inj}
use Rattle.std.proofs.Math.Decide.{ℕ_discrete}
use Rattle.std.proofs.Math.ListN.{get_or}
use Rattle.std.proofs.Math.Dec.{T, eqb, eqb_refl}
use Rattle.tables.specs.Stores.{set_says}
use Rattle.kernel.specs.declared.Source.TheVariants as Source
use Rattle.kernel.specs.Steps.{source_code, source_index}
use Rattle.plan.specs.Lists.{member, is_some}
use Rattle.plan.specs.Origins.{Origin, no_origin, immediate, loaded, origin_at}
use Rattle.plan.specs.TestLaws.{or_first}
use Rattle.allocate.specs.Actions.{Operation, load_immediate, Action, load, compute, spill, reload, store_control, source_of, load_action}
use Rattle.allocate.specs.State.{Allocated, Setting, State, Taken, register_of, owner_of, slot_of, is_fresh, reloadable, emit, emit_operation, to_slot, from_slot, spill_to, spill_in, spill_out, place, vacate}
use Rattle.allocate.specs.Allocator.{spill_if, evict, take_register, bring_from, bring_if, bring, fetch_held, fetch}
use Rattle.allocate.specs.Outcomes.{Post, post_bind, post_and}
use Rattle.allocate.specs.Invariants.{some_lt}
use Rattle.allocate.specs.StateLaws.{Good, avail, Sixteen, TakeView, was_free, evicted, none, take_view, good_spill, suc_is, unset}
use Rattle.allocate.specs.FetchLaws.{Took, take_took}
use Rattle.allocate.specs.TaskLaws.{set_still}
use Rattle.allocate.specs.RunLaws.{HomesOk}
use Rattle.allocate.specs.Canonical.{Canonical}
use Rattle.compiled.specs.Marks.{Marks, Rules, goes, source_class, loaded_class, mark_register, mark_slot, walk_operation, walk_action, walked_emit}
use Rattle.compiled.specs.Tracking.{Sources, SlotsGrow, grows_same, grows_trans, SlotsDeclared, declared_back, Agrees, Tracks, puts_register, puts_slot, KeepsFilled, LeadsTo, MovesTo}

module _ (e : Setting) (home : List ℕ) (sixteen : Sixteen e) (own : HomesOk home e.fixed) (R : Rules) (class : ℕ → ℕ) (sources : Sources e R class)
    (start : Marks) where
  abbrev Reaches : ℕ → State → Marks → Type 0
  Reaches hole s m = Tracks e home R class start hole s m

  abbrev Leads : State → State → Type 0
  Leads s s' = LeadsTo e home R class start s s'

  abbrev Moves : ℕ → State → Marks → Type 0
  Moves hole s' m = MovesTo e home R class start hole s' m

  abbrev Takes : ℕ → State → Taken → Type 0
  Takes n s g = SlotsDeclared R g.state → (m : Marks) → Reaches 0 s m → Moves (suc n) g.state m

  -- what is brought into its register
  abbrev Brings : State → Marks → Type 0
  Brings s' m = (m' : Marks) × Reaches 0 s' m' × KeepsFilled m m'

  -- ---- single actions: a register is saved to a slot, a slot or a source is brought into a register

  saves : (m : Marks) (k r x : ℕ) → get_or m.registers r 0 ≡ suc x → k < R.declared
      → walk_action e.registers e.in_control R m (to_slot e k r) ≡ goes (mark_slot m k (suc x))
  unfolding walk_action to_slot
  saves m k r x h l = go e.in_control refl
    where
      go : (b : Bool) → e.in_control ≡ b → walk_action e.registers e.in_control R m (cond b (store_control k r) (spill k r)) ≡ goes (mark_slot m k (suc x))
      go true q = rw q (puts_slot R m k (get_or m.registers r 0) x h l)
      go false q = rw q (puts_slot R m k (get_or m.registers r 0) x h l)

  reloads : (m : Marks) (k r x : ℕ) → get_or m.slots k 0 ≡ suc x → T (member r e.registers)
      → walk_action e.registers e.in_control R m (from_slot e k r) ≡ goes (mark_register m r (suc x))
  unfolding walk_action from_slot
  reloads m k r x h t = go e.in_control refl
    where
      go : (b : Bool) → e.in_control ≡ b
          → walk_action e.registers e.in_control R m (cond b (load (Source.Control k) r) (reload k r)) ≡ goes (mark_register m r (suc x))
      go true q = rw q (puts_register e m r (get_or m.slots k 0) x h t)
      go false q = rw q (puts_register e m r (get_or m.slots k 0) x h t)

  loads : (m : Marks) (c i r x : ℕ) → (e.in_control && eqb c 6) ≡ false → (source_code (source_of c i) ≡ c) × (source_index (source_of c i) ≡ i)
      → source_class R m c i ≡ suc x → T (member r e.registers) → walk_action e.registers e.in_control R m (load_action c i r) ≡ goes (mark_register m r (suc x))
  unfolding walk_action load_action
  loads m c i r x not_slot code h t =
      puts_register e m r (loaded_class e.in_control R m (source_code (source_of c i)) (source_index (source_of c i))) x
      (rw (code.0, code.1) (go (e.in_control && eqb c 6) not_slot)) t
    where
      go : (b : Bool) → b ≡ false → cond b (get_or m.slots i 0) (source_class R m c i) ≡ suc x
      go true q = absurd (false≢true (sym q))
      go false q = h

  -- ---- spilling, taking

  bring_grows : (n r : ℕ) (s : State) → SlotsGrow s (bring e n r s)
  unfolding bring bring_from emit
  bring_grows n r s = go (is_fresh s n)
    where
      from : (x : Origin) → SlotsGrow s (bring_from x r s)
      from no_origin = grows_same s
      from (immediate b) = record { slots = omega arith }
      from (loaded c i) = record { slots = omega arith }

      go : (b : Bool) → SlotsGrow s (bring_if b e n r s)
      go true = from (origin_at e.origins n)
      go false = record { slots = omega arith }

  or_false : (a : Bool) → T (a || false) → T a
  or_false true t = tt
  or_false false t = t

  -- v, held in r, is spilled to k
  pub spill_tracked : (v r k : ℕ) (free : List ℕ) (count : ℕ) (s : State) (m : Marks) → Reaches 0 s m → owner_of s r ≡ suc v → k < count
      → ((w : ℕ) → get_or home w 0 ≡ suc k → w ≡ v)
      → Good e home (spill_to e v r k free count s) → SlotsDeclared R (spill_to e v r k free count s)
      → Reaches 0 (spill_to e v r k free count s) (mark_slot m k (suc (class v)))
  spill_tracked v r k free count s m t hr locked mine g f =
      let code : k < R.declared = omega (arith, f.slots) in
      let x : get_or m.registers r 0 ≡ suc (class v) = t.agrees.registers v r hr (λ (z : suc v ≡ 0). omega arith) in
      record {
        walked = walked_emit e R start s.steps (to_slot e k r) m (mark_slot m k (suc (class v))) t.walked (saves m k r (class v) x code);
        agrees =
            record {
              registers = t.agrees.registers;
              slots = λ n j h. at n j h (ℕ_discrete j k) code;
              memory = t.agrees.memory;
              homes = λ w j h u. hm w j h (ℕ_discrete j k) code u;
              registers_length = t.agrees.registers_length;
              slots_length = rw length-set t.agrees.slots_length;
            };
      }
    where
      hm : (w j : ℕ) → get_or home w 0 ≡ suc j → Dec (j ≡ k) → k < R.declared → T (is_some (get_or (set m.slots k (suc (class v))) j 0))
          → get_or (set m.slots k (suc (class v))) j 0 ≡ suc (class w)
      hm w j h (yes z) code u =
          let wv : w ≡ v = mine w (rw z at h) in
          rw (z, wv) (get_or-set_same m.slots k (suc (class v)) 0 (omega (arith, t.agrees.slots_length)))
      hm w j h (no z) code u = let e₀ = get_or-set_other m.slots k j (suc (class v)) 0 z in e₀ ∙ t.agrees.homes w j h (rw e₀ at u)

      at : (n j : ℕ) → get_or (set s.spilled v (suc k)) n 0 ≡ suc j → Dec (j ≡ k) → k < R.declared → get_or (set m.slots k (suc (class v))) j 0 ≡ suc (class n)
      at n j h (yes z) code =
          let lv : v < length s.spilled = omega (arith, some_lt s.holder v r (g.registers.up v r hr), g.holders, simp length-set at g.spilleds) in
          let nv : n ≡ v = g.slots.apart n v k (rw z at h) (get_or-set_same s.spilled v (suc k) 0 lv) in
          rw (z, nv) (get_or-set_same m.slots k (suc (class v)) 0 (omega (arith, t.agrees.slots_length)))
      at n j h (no z) code = get_or-set_other m.slots k j (suc (class v)) 0 z ∙ old (set_says s.spilled v (suc k) n j h)
        where
          old : ((n ≡ v) × (suc k ≡ suc j)) ⊎ ((n ≢ v) × (get_or s.spilled n 0 ≡ suc j)) → get_or m.slots j 0 ≡ suc (class n)
          old (inl p) = absurd (z (omega arith))
          old (inr p) = t.agrees.slots n j p.1

  -- v, held in r, is spilled: to the slot freed last, or to a new one
  spilled_tracked : (v r : ℕ) (s : State) (m : Marks) → Good e home s → Reaches 0 s m → owner_of s r ≡ suc v → SlotsDeclared R (spill_out e v r s)
      → Moves 0 (spill_out e v r s) m
  unfolding spill_out
  spilled_tracked v r s m g t hr f = go s.free refl (good_spill e home sixteen v r s g) f
    where
      go : (l : List ℕ) → s.free ≡ l → Good e home (spill_in e v r l s) → SlotsDeclared R (spill_in e v r l s) → Moves 0 (spill_in e v r l s) m
      go [] q g' f = (
        mark_slot m s.slots (suc (class v)),
        spill_tracked v r s.slots [] (suc s.slots) s m t hr (omega arith) (λ w h. absurd (omega (arith, own.lt w s.slots h, g.slots.fixed_le))) g' f,
        refl,
        λ j u. set_still m.slots s.slots (class v) j u,
      )
      go (k ∷ ks) q g' f =
          let here : T (member k s.free) = rw q (or_first (eqb k k) (member k ks) (eqb_refl k)) in (
            mark_slot m k (suc (class v)),
            spill_tracked v r k ks s.slots s m t hr (g.slots.free_in k here).1
                (λ w h. absurd (omega (arith, own.lt w k h, (g.slots.free_in k here).0))) g' f,
            refl,
            λ j u. set_still m.slots k (class v) j u,
          )

  -- a register is given up
  vacate_tracked : (v r : ℕ) (s : State) (m : Marks) → Reaches 0 s m → Reaches 0 (vacate v r s) m
  unfolding vacate
  vacate_tracked v r s m t =
      record {
        walked = t.walked;
        agrees =
            record {
              registers = λ n q h z. t.agrees.registers n q (unset s.owner r q n h) z;
              slots = t.agrees.slots;
              memory = t.agrees.memory;
              homes = t.agrees.homes;
              registers_length = t.agrees.registers_length;
              slots_length = t.agrees.slots_length;
            };
      }

  evict_tracked : (v r : ℕ) (s : State) (m : Marks) → Good e home s → Reaches 0 s m → owner_of s r ≡ suc v → SlotsDeclared R (evict e v r s)
      → Moves 0 (evict e v r s) m
  unfolding evict vacate
  evict_tracked v r s m g t hr f = go (reloadable s v) f
    where
      go : (b : Bool) → SlotsDeclared R (vacate v r (spill_if b e v r s)) → Moves 0 (vacate v r (spill_if b e v r s)) m
      go true f = (m, vacate_tracked v r s m t, refl, λ k u. u)
      go false f =
          let d = spilled_tracked v r s m g t hr (record { slots = f.slots }) in
          (d.0, vacate_tracked v r (spill_out e v r s) d.0 d.1, d.2, d.3)

  -- a register is given to n; its value is still to come
  place_tracked : (n r : ℕ) (s : State) (m : Marks) → Reaches 0 s m → Reaches (suc n) (place n r s) m
  unfolding place
  place_tracked n r s m t =
      record {
        walked = t.walked;
        agrees =
            record {
              registers = λ n' q h z. old n' q z (set_says s.owner r (suc n) q n' h);
              slots = t.agrees.slots;
              memory = t.agrees.memory;
              homes = t.agrees.homes;
              registers_length = t.agrees.registers_length;
              slots_length = t.agrees.slots_length;
            };
      }
    where
      old : (n' q : ℕ) → suc n' ≢ suc n → ((q ≡ r) × (suc n ≡ suc n')) ⊎ ((q ≢ r) × (get_or s.owner q 0 ≡ suc n')) → get_or m.registers q 0 ≡ suc (class n')
      old n' q z (inl p) = absurd (z (sym p.1))
      old n' q z (inr p) = t.agrees.registers n' q p.1 (λ (y : suc n' ≡ 0). omega arith)

  -- A REGISTER IS TAKEN
  pub take_tracked : (rest : List (List ℕ)) (n : ℕ) (locked : List ℕ) (s : State) → Good e home s
      → Post (Unit {0}) (Takes n s) (take_register e rest n locked s)
  unfolding place
  take_tracked rest n locked s g = go (take_register e rest n locked s) (take_view e rest n locked s)
    where
      go : (x : Allocated Taken) → TakeView e n locked s x → Post (Unit {0}) (Takes n s) x
      go x (was_free r hr mr) = λ f m t. (m, place_tracked n r s m t, refl, λ k u. u)
      go x (evicted r v hr mr nl) = λ f m t.
          let d = evict_tracked v r s m g t hr (record { slots = f.slots }) in
          (d.0, place_tracked n r (evict e v r s) d.0 d.1, d.2, d.3)
      go x none = tt

  -- ---- bringing, fetching

  -- the value comes
  fills : (n r : ℕ) (s : State) (m : Marks) → Good e home s → owner_of s r ≡ suc n → Agrees e home R class (suc n) s m
      → Agrees e home R class 0 s (mark_register m r (suc (class n)))
  fills n r s m g hr rel =
      record {
        registers = λ n' q h z. at n' q h (ℕ_discrete q r);
        slots = rel.slots;
        memory = rel.memory;
        homes = rel.homes;
        registers_length = rw length-set rel.registers_length;
        slots_length = rel.slots_length;
      }
    where
      at : (n' q : ℕ) → owner_of s q ≡ suc n' → Dec (q ≡ r) → get_or (set m.registers r (suc (class n))) q 0 ≡ suc (class n')
      at n' q h (yes z) =
          let nn : n ≡ n' = suc_inj (sym hr ∙ (rw z at h)) in
          rw (z, ← nn) (get_or-set_same m.registers r (suc (class n)) 0 (omega (arith, rel.registers_length, g.owners, some_lt s.owner r n hr)))
      at n' q h (no z) =
          get_or-set_other m.registers r q (suc (class n)) 0 z
          ∙ rel.registers n' q h (λ (y : suc n' ≡ suc n).
          let a : register_of s n ≡ suc r = g.registers.up n r hr in
          let b : register_of s n ≡ suc q = g.registers.up n q (h ∙ y) in
          z (omega arith))

  -- by a load, a reload
  emit_fills : (n r : ℕ) (x : Action) (s : State) (m : Marks) → Good e home s → owner_of s r ≡ suc n → Reaches (suc n) s m
      → walk_action e.registers e.in_control R m x ≡ goes (mark_register m r (suc (class n))) → Reaches 0 (emit x s) (mark_register m r (suc (class n)))
  unfolding emit
  emit_fills n r x s m g hr t q =
      let f : Agrees e home R class 0 s (mark_register m r (suc (class n))) = fills n r s m g hr t.agrees in
      record {
        walked = walked_emit e R start s.steps x m (mark_register m r (suc (class n))) t.walked q;
        agrees =
            record {
              registers = f.registers;
              slots = f.slots;
              memory = f.memory;
              homes = f.homes;
              registers_length = f.registers_length;
              slots_length = f.slots_length;
            };
      }

  -- by an operation
  pub operation_fills : (n r : ℕ) (x : Operation) (s : State) (m : Marks) → Good e home s → owner_of s r ≡ suc n → Reaches (suc n) s m
      → SlotsDeclared R (emit_operation x s) → walk_operation e.registers R m x ≡ goes (mark_register m r (suc (class n)))
      → Reaches 0 (emit_operation x s) (mark_register m r (suc (class n)))
  unfolding emit walk_action
  operation_fills n r x s m g hr t fin q =
      let f : Agrees e home R class 0 s (mark_register m r (suc (class n))) = fills n r s m g hr t.agrees in
      record {
        walked = walked_emit e R start s.steps (compute x) m (mark_register m r (suc (class n))) t.walked q;
        agrees =
            record {
              registers = f.registers;
              slots = f.slots;
              memory = f.memory;
              homes = f.homes;
              registers_length = f.registers_length;
              slots_length = f.slots_length;
            };
      }

  bring_tracked : (n r : ℕ) (s : State) (m : Marks) → Good e home s → owner_of s r ≡ suc n → T (member r e.registers) → Canonical e n → T (reloadable s n)
      → Reaches (suc n) s m
      → SlotsDeclared R (bring e n r s) → Brings (bring e n r s) m
  unfolding bring bring_from
  bring_tracked n r s m g hr mr cn re t f = go (is_fresh s n) refl f
    where
      from : (x : Origin) → origin_at e.origins n ≡ x → T (is_fresh s n) → SlotsDeclared R (bring_from x r s) → Brings (bring_from x r s) m
      from no_origin q fr f = absurd (rw q at (g.src n fr))
      from (immediate b) q fr f = (
        mark_register m r (suc (class n)),
        operation_fills n r (load_immediate b r) s m g hr t f
            (puts_register e m r (R.immediate_class b) (class n) (sources.immediates n b q) mr),
        λ k u. u,
      )
      from (loaded c i) q fr f =
          (mark_register m r (suc (class n)), emit_fills n r (load_action c i r) s m g hr t (loaded_goes c i q fr), λ k u. u)
        where
          loaded_goes : (c i : ℕ) → origin_at e.origins n ≡ loaded c i → T (is_fresh s n)
              → walk_action e.registers e.in_control R m (load_action c i r) ≡ goes (mark_register m r (suc (class n)))
          loaded_goes c i q fr = loads m c i r (class n) (sources.not_slot n c i q) (sources.codes n c i q) (t.agrees.memory n c i (cn c i q) fr) mr

      go : (b : Bool) → is_fresh s n ≡ b → SlotsDeclared R (bring_if b e n r s) → Brings (bring_if b e n r s) m
      go true q f = from (origin_at e.origins n) refl (rw q tt) f
      go false q f =
          let sl : T (is_some (slot_of s n) || false) = rw q at re in
          let k : slot_of s n ≡ suc (pred (slot_of s n)) = suc_is (slot_of s n) (or_false (is_some (slot_of s n)) sl) in (
            mark_register m r (suc (class n)),
            emit_fills n r (from_slot e (pred (slot_of s n)) r) s m g hr t
                (reloads m (pred (slot_of s n)) r (class n) (t.agrees.slots n (pred (slot_of s n)) k) mr),
            λ k u. u,
          )

  -- A VALUE IS FETCHED
  pub fetch_tracked : (rest : List (List ℕ)) (n : ℕ) (locked : List ℕ) (s : State) → Good e home s → n < length e.origins → Canonical e n → T (avail s n)
      → Post (Unit {0}) (λ g. Leads s g.state) (fetch e rest n locked s)
  unfolding fetch
  fetch_tracked rest n locked s g ln cn av = go (register_of s n) refl
    where
      held_none : register_of s n ≡ 0 → T (reloadable s n)
      held_none q = pick (register_of s n) q av
        where
          pick : (h : ℕ) → h ≡ 0 → T (is_some h || reloadable s n) → T (reloadable s n)
          pick zero q u = u
          pick (suc h) q u = absurd (omega arith)

      go : (h : ℕ) → register_of s n ≡ h → Post (Unit {0}) (λ g. Leads s g.state) (fetch_held e rest n locked s h)
      go (suc r) q = (grows_same s, λ f m t. (m, t, λ k u. u))
      go zero q =
          post_bind (Unit {0}) (λ a. Took e home n locked s a × Takes n s a) (λ g. Leads s g.state)
          (take_register e rest n locked s) _
          (post_and (Took e home n locked s) (Takes n s) (take_register e rest n locked s) (take_took e home sixteen rest n locked s g q ln)
          (take_tracked rest n locked s g))
          (λ a k.
          let x₁ : SlotsGrow s a.state = record { slots = k.0.slots } in
          let x₂ : SlotsGrow a.state (bring e n a.register a.state) = bring_grows n a.register a.state in (
            grows_trans s a.state (bring e n a.register a.state) x₁ x₂,
            λ f m t.
                let d = k.1 (declared_back R a.state (bring e n a.register a.state) x₂ f) m t in
                let re : T (reloadable a.state n) = rw (k.0.same, k.0.fresh) (held_none q) in
                let b =
                bring_tracked n a.register a.state d.0 k.0.good (k.0.good.registers.down n a.register k.0.held) k.0.usable cn re
                d.1 f in
                (b.0, b.1, λ j u. b.2 j (d.3 j u)),
          ))
