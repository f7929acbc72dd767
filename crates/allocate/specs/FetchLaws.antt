-- What take and fetch do to the allocator's state. Assumes nothing.
use Rattle.std.proofs.Common.{◌∙◌, ap, subst, arith, length-append}
use Rattle.std.specs.Prelude.{◌≡◌, ◌≢◌, ◌⊎◌, Bool, false, true, List, [], ◌∷◌, get_or, T}
use Rattle.std.proofs.Math.Path.{refl}
use Rattle.std.proofs.Math.Logic.{inl, inr}
use Prim.Native.Nat.{◌+◌, ◌<◌, ◌≤◌, pred, suc, zero, ℕ}
use Rattle.std.proofs.Math.ListN.{length}
use Rattle.std.proofs.Math.Seq.{get_or-set_other, get_or-set_same}
use Rattle.plan.specs.Origins.{Origin, no_origin, immediate, loaded, origin_at}
use Rattle.plan.specs.Lists.{member}
use Rattle.allocate.specs.State.{Allocated, Setting, State, Taken, register_of, owner_of, slot_of, is_fresh, reloadable, emit, emit_operation, from_slot, spill_out, place, vacate}
use Rattle.allocate.specs.Allocator.{spill_if, evict, take_register, bring_from, bring_if, bring, fetch_held, fetch}
use Rattle.allocate.specs.Actions.{Action, Operation, compute, load_immediate, load_action}
use Rattle.allocate.specs.Outcomes.{Post, post_bind}
use Rattle.allocate.specs.Invariants.{some_lt}
use Rattle.allocate.specs.StateLaws.{Good, TakeView, was_free, evicted, none, take_view, Sixteen, good_place, good_vacate, good_spill, Spilt, spilt, Keeps, keeps_trans, keeps_place, keeps_vacate, keeps_spill, unset, was_set}

-- what take leaves: the node is held in the register, at most one step was added, nothing at hand is lost
pub record Took (e : Setting) (home : List ℕ) (n : ℕ) (locked : List ℕ) (s : State) (g : Taken) : Type 0 where
  pub good : Good e home g.state
  pub held : register_of g.state n ≡ suc g.register
  pub keeps : Keeps locked s g.state
  pub usable : T (member g.register e.registers)
  pub grow : length g.state.steps ≤ length s.steps + 1
  pub fresh : g.state.fresh ≡ s.fresh
  pub same : slot_of g.state n ≡ slot_of s n
  pub slots : s.slots ≤ g.state.slots
  pub only : (m q : ℕ) → register_of g.state m ≡ suc q → (m ≡ n) ⊎ (register_of s m ≡ suc q)

-- evicting v from r, as one step
pub record Evicted (e : Setting) (home : List ℕ) (v r : ℕ) (locked : List ℕ) (s s' : State) : Type 0 where
  pub good : Good e home s'
  pub keeps : Keeps locked s s'
  pub free : owner_of s' r ≡ 0
  pub others : (m : ℕ) → m ≢ v → register_of s' m ≡ register_of s m
  pub slot : (m : ℕ) → m ≢ v → slot_of s' m ≡ slot_of s m
  pub grow : length s'.steps ≤ length s.steps + 1
  pub fresh : s'.fresh ≡ s.fresh
  pub slots : s.slots ≤ s'.slots
  pub only : (m q : ℕ) → register_of s' m ≡ suc q → register_of s m ≡ suc q

module _ (e : Setting) (home : List ℕ) (wf : Sixteen e) where
  vacated : (v r : ℕ) (locked : List ℕ) (s : State) → Good e home s → owner_of s r ≡ suc v → (T (member r locked) → ⊥) → T (reloadable s v)
      → Evicted e home v r locked s (vacate v r s)
  unfolding vacate
  vacated v r locked s g hr nl re =
      record {
        good = good_vacate e home wf v r s g hr;
        keeps = keeps_vacate locked v r s re (g.registers.up v r hr) nl;
        free = get_or-set_same s.owner r 0 0 (some_lt s.owner r v hr);
        others = λ m z. get_or-set_other s.holder v m 0 0 z;
        slot = λ m z. refl;
        grow = omega arith;
        fresh = refl;
        slots = omega arith;
        only = λ m q h. unset s.holder v m q h;
      }

  -- eviction, with or without a spill
  pub evicts : (v r : ℕ) (locked : List ℕ) (s : State) → Good e home s → owner_of s r ≡ suc v → (T (member r locked) → ⊥)
      → Evicted e home v r locked s (evict e v r s)
  unfolding evict vacate
  evicts v r locked s g hr nl = go (reloadable s v) refl
    where
      hv : register_of s v ≡ suc r
      hv = g.registers.up v r hr

      go : (b : Bool) → reloadable s v ≡ b → Evicted e home v r locked s (vacate v r (spill_if b e v r s))
      go true q = vacated v r locked s g hr nl (rw q tt)
      go false q =
          let s' : State = spill_out e v r s in
          let sp : Spilt v s s' = spilt e v r s in
          let lv : v < length s.spilled = omega (arith, some_lt s.holder v r hv, g.holders, g.spilleds) in
          let ks : Keeps locked s s' × T (reloadable s' v) = keeps_spill locked e v r s lv in
          let ev : Evicted e home v r locked s' (vacate v r s') = vacated v r locked s' (good_spill e home wf v r s g) (rw sp.owner hr) nl ks.1 in
          record {
            good = ev.good;
            keeps = keeps_trans locked s s' (vacate v r s') ks.0 ev.keeps;
            free = ev.free;
            others = λ m z. ev.others m z ∙ ap (λ (l : List ℕ). get_or l m 0) sp.holder;
            slot = λ m z. ev.slot m z ∙ (ap (λ (l : List ℕ). get_or l m 0) sp.spilled.1 ∙ get_or-set_other s.spilled v m (suc sp.spilled.0) 0 z);
            grow = omega (arith, sp.grow);
            fresh = sp.fresh;
            slots = sp.slots;
            only = λ m q h. subst (λ (l : List ℕ). get_or l m 0 ≡ suc q) sp.holder (ev.only m q h);
          }

  placed : (n r : ℕ) (locked : List ℕ) (s : State) → Good e home s → owner_of s r ≡ 0 → register_of s n ≡ 0 → n < length e.origins → T (member r e.registers)
      → Took e home n locked s (record { register = r; state = place n r s })
  unfolding place
  placed n r locked s g hr hn ln mr =
      let l : n < length s.holder = omega (arith, g.holders) in
      record {
        good = good_place e home wf n r s g hr hn ln mr;
        held = get_or-set_same s.holder n (suc r) 0 l;
        keeps = keeps_place locked n r s l hn;
        usable = mr;
        grow = omega arith;
        fresh = refl;
        same = refl;
        slots = omega arith;
        only = λ m q h. was_set s.holder n (suc r) m q h;
      }

  -- TAKE
  pub take_took : (rest : List (List ℕ)) (n : ℕ) (locked : List ℕ) (s : State) → Good e home s → register_of s n ≡ 0 → n < length e.origins
      → Post (Unit {0}) (Took e home n locked s) (take_register e rest n locked s)
  unfolding place
  take_took rest n locked s g hn ln = go (take_register e rest n locked s) (take_view e rest n locked s)
    where
      older : {A B C : Type 0} (m q : ℕ) → (B → C) → A ⊎ B → A ⊎ C
      older m q f (inl a) = inl a
      older m q f (inr b) = inr (f b)

      go : (m : Allocated Taken) → TakeView e n locked s m → Post (Unit {0}) (Took e home n locked s) m
      go m (was_free r hr mr) = placed n r locked s g hr hn ln mr
      go m (evicted r v hr mr nl) =
          let s' : State = evict e v r s in
          let ev : Evicted e home v r locked s s' = evicts v r locked s g hr nl in
          let nv : n ≢ v = λ (z : n ≡ v). let y : register_of s n ≡ suc r = rw z (g.registers.up v r hr) in omega arith in
          let tk : Took e home n locked s' (record { register = r; state = place n r s' }) = placed n r locked s' ev.good ev.free (ev.others n nv ∙ hn)
          ln mr in
          record {
            good = tk.good;
            held = tk.held;
            keeps = keeps_trans locked s s' _ ev.keeps tk.keeps;
            usable = mr;
            grow = ev.grow;
            fresh = tk.fresh ∙ ev.fresh;
            same = tk.same ∙ ev.slot n nv;
            slots = omega (arith, tk.slots, ev.slots);
            only = λ m q h. older m q (ev.only m q) (tk.only m q h);
          }
      go m none = tt

-- bringing a value into its register changes steps alone
pub record Brought (s s' : State) : Type 0 where
  pub holder : s'.holder ≡ s.holder
  pub owner : s'.owner ≡ s.owner
  pub spilled : s'.spilled ≡ s.spilled
  pub fresh : s'.fresh ≡ s.fresh
  pub good : (e : Setting) (home : List ℕ) → Good e home s → Good e home s'
  pub slots : s'.slots ≡ s.slots
  pub grow : length s'.steps ≤ length s.steps + 1

-- a step more
pub brought_emit : (x : Action) (s : State) → Brought s (emit x s)
unfolding emit
brought_emit x s =
    record { holder = refl; owner = refl; spilled = refl; fresh = refl; good = λ e home g. g; slots = refl; grow = omega (arith, length-append s.steps (x ∷ [])) }

-- an instruction more
pub brought_operation : (x : Operation) (s : State) → Brought s (emit_operation x s)
brought_operation x s = brought_emit (compute x) s

-- a load, an immediate or a reload
pub brings : (e : Setting) (n r : ℕ) (s : State) → Brought s (bring e n r s)
unfolding bring bring_from
brings e n r s = go (is_fresh s n)
  where
    go₂ : (x : Origin) → Brought s (bring_from x r s)
    go₂ no_origin = record { holder = refl; owner = refl; spilled = refl; fresh = refl; good = λ e home g. g; slots = refl; grow = omega arith }
    go₂ (immediate b) = brought_operation (load_immediate b r) s
    go₂ (loaded c i) = brought_emit (load_action c i r) s

    go : (b : Bool) → Brought s (bring_if b e n r s)
    go true = go₂ (origin_at e.origins n)
    go false = brought_emit (from_slot e (pred (slot_of s n)) r) s

-- nothing is lost by it
pub keeps_brought : (locked : List ℕ) (s s' : State) → Brought s s' → Keeps locked s s'
keeps_brought locked s s' b = record { keep = λ m h. rw (b.holder, b.spilled, b.fresh) h; lock = λ m q h t. rw b.holder h }

-- what fetch leaves: at most two steps were added, and none if the node was held
pub record Fetched (e : Setting) (home : List ℕ) (n : ℕ) (locked : List ℕ) (s : State) (g : Taken) : Type 0 where
  pub good : Good e home g.state
  pub held : register_of g.state n ≡ suc g.register
  pub keeps : Keeps locked s g.state
  pub grow : length g.state.steps ≤ length s.steps + 2
  pub only : (m q : ℕ) → register_of g.state m ≡ suc q → (m ≡ n) ⊎ (register_of s m ≡ suc q)
  pub fresh : g.state.fresh ≡ s.fresh
  pub still : (r : ℕ) → register_of s n ≡ suc r → g.state ≡ s

module _ (e : Setting) (home : List ℕ) (wf : Sixteen e) where
  -- FETCH
  pub fetch_fetched : (rest : List (List ℕ)) (n : ℕ) (locked : List ℕ) (s : State) → Good e home s → n < length e.origins
      → Post (Unit {0}) (Fetched e home n locked s) (fetch e rest n locked s)
  unfolding fetch
  fetch_fetched rest n locked s g ln = go (register_of s n) refl
    where
      go : (h : ℕ) → register_of s n ≡ h → Post (Unit {0}) (Fetched e home n locked s) (fetch_held e rest n locked s h)
      go (suc r) q =
          record {
            good = g;
            held = q;
            keeps = record { keep = λ m h. h; lock = λ m q h t. h };
            grow = omega arith;
            only = λ m q h. inr h;
            fresh = refl;
            still = λ r h. refl;
          }
      go zero q =
          post_bind (Unit {0}) (Took e home n locked s) (Fetched e home n locked s) (take_register e rest n locked s) _
          (take_took e home wf rest n locked s g q ln) (λ t k.
          let b : Brought t.state (bring e n t.register t.state) = brings e n t.register t.state in
          record {
            good = b.good e home k.good;
            held = rw b.holder k.held;
            keeps =
                keeps_trans locked s t.state (bring e n t.register t.state) k.keeps
                (keeps_brought locked t.state (bring e n t.register t.state) b);
            grow = omega (arith, b.grow, k.grow);
            only = λ m q h. k.only m q (rw b.holder at h);
            fresh = b.fresh ∙ k.fresh;
            still = λ r h. absurd (omega arith);
          })
