-- One task of the allocator: what it emits the walk goes through. Assumes nothing.
use Rattle.std.specs.Prelude.{◌≡◌, ◌≢◌, ◌⊎◌, Bool, ◌&&◌, ◌||◌, set}
use Rattle.std.proofs.Math.Path.{refl}
use Rattle.std.proofs.Common.{sym, ap, ◌∙◌, subst, inl, inr, get_or-set_same, get_or-set_other, eqb→eq}
use Rattle.std.proofs.Math.Bool.{true, false, not}
use mathlib.Core.List.{List, [], ◌∷◌, ◌++◌, map}
use Prim.Native.Nat.{ℕ, zero, suc, pred, ◌<◌}
use native.Mathlib.Omega.{arith}
use Rattle.std.proofs.Math.Decide.{ℕ_discrete}
use Rattle.std.proofs.Math.ListN.{length, get_or}
use Rattle.std.proofs.Math.Dec.{T, eqb, eqb_refl}
use denote.Floats.{is_true}
use Rattle.tables.specs.Stores.{set_says}
use Rattle.plan.specs.Lists.{member, first_of, is_some}
use Rattle.plan.specs.Nodes.{Node, input_node, network_node, constant_node, parameter_node, state_node, delay_node, binary_node, unary_node, operands, is_computed, node_at}
use Rattle.plan.specs.Origins.{canonical, home_of}
use Rattle.plan.specs.Schedule.{compute_task, task_reads}
use Rattle.plan.specs.TestLaws.{or_first, or_second, and_first}
use Rattle.plan.specs.OriginLaws.{home_known}
use Rattle.allocate.specs.Actions.{Operation, Action, store_control, store_action}
use Rattle.allocate.specs.State.{Allocated, allocated, all_locked, Setting, State, Taken, TakenAll, register_of, owner_of, slot_of, is_fresh, emit, emit_operation, to_slot, spill_to, disown, release, lend, set_slot, stale}
use Rattle.allocate.specs.Allocator.{take_register, fetch, fetch_all, release_if, release_all, read_later, result_register, lower, run_compute, run_keep, home_code, preserve_if, preserve, run_store}
use Rattle.allocate.specs.Outcomes.{Post, post_bind, post_and}
use Rattle.allocate.specs.Invariants.{some_lt}
use Rattle.allocate.specs.StateLaws.{Good, avail, Sixteen, unset, is_suc}
use Rattle.allocate.specs.FetchLaws.{Took, take_took, Fetched, fetch_fetched}
use Rattle.allocate.specs.ReadLaws.{Holds, Aimed, target_aimed}
use Rattle.allocate.specs.TaskLaws.{set_still, Saved, preserve_saved}
use Rattle.allocate.specs.RunLaws.{HomesOk}
use Rattle.allocate.specs.Canonical.{Canonical, home_canonical, off_at}
use Rattle.compiled.specs.Marks.{Marks, Rules, goes, source_class, mark_register, mark_slot, mark_stored, walk_operation, walk_action, walked_emit}
use Rattle.compiled.specs.Tracking.{LeadsTo, MovesTo, Sources, SlotsGrow, grows_same, grows_trans, SlotsDeclared, declared_back, Tracks, KeepsFilled, puts_register}
use Rattle.compiled.specs.Tracked.{take_tracked, fetch_tracked, operation_fills, spill_tracked}

-- what the rules must say of all nodes: their sources, what instructions of their operands give, and that nodes that share a source are the same
pub record Meaning (e : Setting) (R : Rules) (class : ℕ → ℕ) : Type 0 where
  pub sources : Sources e R class
  pub binaries : (n k a b : ℕ) → node_at e.nodes n ≡ binary_node k a b → R.binary_class k (suc (class a)) (suc (class b)) ≡ suc (class n)
  pub unaries : (n k a : ℕ) → node_at e.nodes n ≡ unary_node k a → R.unary_class k (suc (class a)) ≡ suc (class n)
  pub share : (a : ℕ) → class (canonical e.origins a) ≡ class a

-- ---- writes

-- the store of a state, a delay, the output
pub data WriteCode : ℕ → Type 0 where
  to_state : WriteCode 10
  to_delay : WriteCode 11
  to_output : WriteCode 12

-- a write's code and index: the output's index is 0
abbrev pub WriteAt : ℕ → ℕ → Type 0
WriteAt c i = WriteCode c × (c ≡ 12 → i ≡ 0)

-- a write hides its own memory and nothing else
hides : (l : List ℕ) (c c' i i' : ℕ) → (c' ≡ c → i' ≡ i → ⊥) → (eqb c' c && is_some (get_or (set l i 1) i' 0)) ≡ (eqb c' c && is_some (get_or l i' 0))
hides l c c' i i' f = go (eqb c' c) refl (ℕ_discrete i' i)
  where
    go : (b : Bool) → eqb c' c ≡ b → Dec (i' ≡ i) → (b && is_some (get_or (set l i 1) i' 0)) ≡ (b && is_some (get_or l i' 0))
    go false q d = refl
    go true q (yes z) = absurd (f (eqb→eq c' c (rw q tt)) z)
    go true q (no z) = rw (get_or-set_other l i i' 1 0 z)

stored_source : (R : Rules) (m : Marks) (c i c' i' : ℕ) → WriteCode c → (c' ≡ home_code c → i' ≡ i → ⊥)
    → source_class R (mark_stored m c i) c' i' ≡ source_class R m c' i'
stored_source R m c i c' i' to_state f = rw (hides m.states_stored 4 c' i i' f)
stored_source R m c i c' i' to_delay f = rw (hides m.delays_stored 5 c' i i' f)
stored_source R m c i c' i' to_output f = refl

-- what is fresh after a write was so before, and is not of the memory written
stale_fresh : (h : ℕ) (s : State) (n : ℕ) → T (is_fresh (stale h s) n) → T (is_fresh s n) × (h ≢ suc n)
unfolding stale
stale_fresh zero s n t = (t, λ (z : 0 ≡ suc n). omega arith)
stale_fresh (suc k) s n t = go (ℕ_discrete n k)
  where
    go : Dec (n ≡ k) → T (is_fresh s n) × (suc k ≢ suc n)
    go (yes z) = absurd (rw (z, off_at s.fresh k) at t)
    go (no z) = (rw (get_or-set_other s.fresh k n false false z) at t, λ (y : suc k ≡ suc n). z (omega arith))

module _ (e : Setting) (home : List ℕ) (sixteen : Sixteen e) (own : HomesOk home e.fixed) (R : Rules) (class : ℕ → ℕ) (meaning : Meaning e R class)
    (start : Marks) where
  abbrev At : State → Marks → Type 0
  At s m = Tracks e home R class start 0 s m

  abbrev Leads : State → State → Type 0
  Leads s s' = LeadsTo e home R class start s s'

  leads_trans : (a b c : State) → Leads a b → Leads b c → Leads a c
  leads_trans a b c x y = (
    grows_trans a b c x.0 y.0,
    λ f m t. let d = x.1 (declared_back R b c y.0 f) m t in let z = y.1 f d.0 d.1 in
        (z.0, z.1, λ k u. z.2 k (d.2 k u)),
  )

  -- OPERANDS ARE FETCHED
  pub fetch_all_tracked : (rest : List (List ℕ)) (ns locked : List ℕ) (s : State) → Good e home s
      → ((a : ℕ) → T (member a ns) → (a < length e.origins) × Canonical e a × T (avail s a))
      → Post (Unit {0}) (λ g. Leads s g.state) (fetch_all e rest ns locked s)
  unfolding fetch_all
  fetch_all_tracked rest [] locked s g h = (grows_same s, λ f m t. (m, t, λ k u. u))
  fetch_all_tracked rest (n ∷ ns) locked s g h =
      let h₀ = h n (or_first (eqb n n) (member n ns) (eqb_refl n)) in
      post_bind (Unit {0}) (λ a. Fetched e home n locked s a × Leads s a.state) (λ g. Leads s g.state) (fetch e rest n locked s) _
      (post_and (Fetched e home n locked s) (λ a. Leads s a.state) (fetch e rest n locked s) (fetch_fetched e home sixteen rest n locked s g h₀.0)
      (fetch_tracked e home sixteen own R class meaning.sources start rest n locked s g h₀.0 h₀.1 h₀.2))
      (λ a k. more a k.1 (fetch_all e rest ns (locked ++ (a.register ∷ [])) a.state)
      (fetch_all_tracked rest ns (locked ++ (a.register ∷ [])) a.state k.0.good
      (λ b u. let hb = h b (or_second (eqb b n) (member b ns) u) in (hb.0, hb.1, k.0.keeps.keep b hb.2))))
    where
      more : (a : Taken) → Leads s a.state → (x : Allocated TakenAll) → Post (Unit {0}) (λ g. Leads a.state g.state) x
          → Post (Unit {0}) (λ g. Leads s g.state) x
      more a k (allocated g) ih = leads_trans s a.state g.state k ih
      more a k all_locked ih = tt

  -- ---- releases

  release_tracked : (n : ℕ) (s : State) → Leads s (release e n s)
  unfolding release
  release_tracked n s = (
    record { slots = omega arith },
    λ f m t. (
      m,
      record {
        walked = t.walked;
        agrees =
            record {
              registers = λ n' r h z. t.agrees.registers n' r (was n' r (register_of s n) h) z;
              slots = λ n' k h. t.agrees.slots n' k (unset s.spilled n n' k h);
              memory = t.agrees.memory;
              homes = t.agrees.homes;
              registers_length = t.agrees.registers_length;
              slots_length = t.agrees.slots_length;
            };
      },
      λ k u. u,
    ),
  )
    where
      was : (n' r h : ℕ) → get_or (disown h s.owner) r 0 ≡ suc n' → owner_of s r ≡ suc n'
      was n' r zero q = q
      was n' r (suc h) q = unset s.owner h r n' q

  release_all_tracked : (rest : List (List ℕ)) (ns : List ℕ) (s : State) → Leads s (release_all e rest ns s)
  unfolding release_all
  release_all_tracked rest [] s = (grows_same s, λ f m t. (m, t, λ k u. u))
  release_all_tracked rest (n ∷ ns) s = go (read_later rest n) (λ s'. release_all_tracked rest ns s')
    where
      go : (b : Bool) → ((s' : State) → Leads s' (release_all e rest ns s')) → Leads s (release_all e rest ns (release_if b e n s))
      go true ih = ih s
      go false ih = leads_trans s (release e n s) (release_all e rest ns (release e n s)) (release_tracked n s) (ih (release e n s))

  -- ---- a computation

  lend_tracked : (r d n : ℕ) (s : State) (m : Marks) → At s m → Tracks e home R class start (suc n) (lend r d n s) m
  unfolding lend
  lend_tracked r d n s m t =
      record {
        walked = t.walked;
        agrees =
            record {
              registers = λ n' q h z. old n' q z (set_says s.owner r (suc n) q n' h);
              slots = t.agrees.slots;
              memory = t.agrees.memory;
              homes = t.agrees.homes;
              registers_length = t.agrees.registers_length;
              slots_length = t.agrees.slots_length;
            };
      }
    where
      old : (n' q : ℕ) → suc n' ≢ suc n → ((q ≡ r) × (suc n ≡ suc n')) ⊎ ((q ≢ r) × (get_or s.owner q 0 ≡ suc n')) → get_or m.registers q 0 ≡ suc (class n')
      old n' q z (inl p) = absurd (z (sym p.1))
      old n' q z (inr p) = t.agrees.registers n' q p.1 (λ (y : suc n' ≡ 0). omega arith)

  -- the result's register is chosen; the registers hold what they held
  abbrev Chosen : ℕ → State → Taken → Type 0
  Chosen n s g = SlotsGrow s g.state × (SlotsDeclared R g.state → (m : Marks) → At s m → MovesTo e home R class start (suc n) g.state m)

  lend_grows : (r d n : ℕ) (s : State) → SlotsGrow s (lend r d n s)
  unfolding lend
  lend_grows r d n s = record { slots = omega arith }

  result_tracked : (rest : List (List ℕ)) (n : ℕ) (locked : List ℕ) (s : State) → Good e home s → register_of s n ≡ 0 → n < length e.origins → (f : ℕ)
      → Post (Unit {0}) (Chosen n s) (result_register e rest n locked s f)
  result_tracked rest n locked s g hn ln zero =
      join (take_register e rest n locked s) (take_took e home sixteen rest n locked s g hn ln)
      (take_tracked e home sixteen own R class meaning.sources start rest n locked s g)
    where
      join : (x : Allocated Taken) → Post (Unit {0}) (Took e home n locked s) x
          → Post (Unit {0}) (λ a. SlotsDeclared R a.state → (m : Marks) → At s m → MovesTo e home R class start (suc n) a.state m) x
          → Post (Unit {0}) (Chosen n s) x
      join (allocated a) k h = (record { slots = k.slots }, h)
      join all_locked k h = tt
  result_tracked rest n locked s g hn ln (suc d) =
      (lend_grows (pred (register_of s d)) d n s, λ f m t. (m, lend_tracked (pred (register_of s d)) d n s m t, refl, λ k u. u))

  register_class : (s : State) (m : Marks) → Good e home s → At s m → (a r : ℕ) → register_of s a ≡ suc r → get_or m.registers r 0 ≡ suc (class a)
  register_class s m g t a r h = t.agrees.registers a r (g.registers.down a r h) (λ (z : suc a ≡ 0). omega arith)

  -- the lowered instruction gives the node
  lowered_goes : (n d : ℕ) (rs : List ℕ) (s : State) (m : Marks) → Good e home s → At s m → T (is_computed (node_at e.nodes n))
      → Holds s (map (canonical e.origins) (operands (node_at e.nodes n))) rs → T (member d e.registers)
      → (m' : Marks) → m'.registers ≡ m.registers → walk_operation e.registers R m' (lower (node_at e.nodes n) d rs) ≡ goes (mark_register m' d (suc (class n)))
  lowered_goes n d rs s m g t ic hs md m' same = go (node_at e.nodes n) rs refl ic hs
    where
      at : (a r : ℕ) → register_of s (canonical e.origins a) ≡ suc r → get_or m'.registers r 0 ≡ suc (class a)
      at a r h = rw same (register_class s m g t (canonical e.origins a) r h ∙ ap suc (meaning.share a))

      go : (x : Node) (rs : List ℕ) → node_at e.nodes n ≡ x → T (is_computed x) → Holds s (map (canonical e.origins) (operands x)) rs
          → walk_operation e.registers R m' (lower x d rs) ≡ goes (mark_register m' d (suc (class n)))
      go input_node rs q ic hs = absurd ic
      go network_node rs q ic hs = absurd ic
      go (constant_node b) rs q ic hs = absurd ic
      go (parameter_node i) rs q ic hs = absurd ic
      go (state_node i) rs q ic hs = absurd ic
      go (delay_node i) rs q ic hs = absurd ic
      go (binary_node k a b) [] q ic hs = absurd hs
      go (binary_node k a b) (r ∷ []) q ic hs = absurd hs.1
      go (binary_node k a b) (r ∷ u ∷ us) q ic hs =
          puts_register e m' d (R.binary_class k (get_or m'.registers r 0) (get_or m'.registers u 0)) (class n)
          (rw (at a r hs.0, at b u hs.1.0) (meaning.binaries n k a b q)) md
      go (unary_node k a) [] q ic hs = absurd hs
      go (unary_node k a) (r ∷ us) q ic hs =
          puts_register e m' d (R.unary_class k (get_or m'.registers r 0)) (class n) (rw (at a r hs.0) (meaning.unaries n k a q)) md

  operation_grows : (x : Operation) (s : State) → SlotsGrow s (emit_operation x s)
  unfolding emit
  operation_grows x s = record { slots = omega arith }

  -- A COMPUTATION
  pub compute_tracked : (rest : List (List ℕ)) (n : ℕ) (g : TakenAll) → Good e home g.state
      → Holds g.state (task_reads e.nodes e.origins (compute_task n)) g.registers
      → T (is_computed (node_at e.nodes n)) → register_of g.state n ≡ 0 → n < length e.origins
      → Post (Unit {0}) (λ s'. Leads g.state s') (run_compute e rest (task_reads e.nodes e.origins (compute_task n)) n g)
  unfolding run_compute task_reads
  compute_tracked rest n g gd hs ic hn ln =
      let reads : List ℕ = task_reads e.nodes e.origins (compute_task n) in
      let d : ℕ = first_of (λ d. not (read_later rest d)) reads in
      post_bind (Unit {0}) (λ t. Aimed e home rest n g.state t × Chosen n g.state t) (λ s'. Leads g.state s')
      (result_register e rest n g.registers g.state d) _
      (post_and (Aimed e home rest n g.state) (Chosen n g.state) (result_register e rest n g.registers g.state d)
      (target_aimed e home sixteen rest n reads g gd hs hn ln) (result_tracked rest n g.registers g.state gd hn ln d))
      (λ t k. last t k.0 k.1)
    where
      last : (t : Taken) → Aimed e home rest n g.state t → Chosen n g.state t
          → Leads g.state (release_all e rest (map (canonical e.origins) (operands (node_at e.nodes n)))
          (emit_operation (lower (node_at e.nodes n) t.register g.registers) t.state))
      last t k c =
          let x : Operation = lower (node_at e.nodes n) t.register g.registers in
          let u : State = emit_operation x t.state in
          let o : owner_of t.state t.register ≡ suc n = k.good.registers.down n t.register k.held in
          let md : T (member t.register e.registers) = k.good.registers.inside n t.register o in
          leads_trans g.state u (release_all e rest (map (canonical e.origins) (operands (node_at e.nodes n))) u) (
            grows_trans g.state t.state u c.0 (operation_grows x t.state),
            λ f m w.
                let d = c.1 (declared_back R t.state u (operation_grows x t.state) f) m w in (
                  mark_register d.0 t.register (suc (class n)),
                  operation_fills e home sixteen own R class meaning.sources start n t.register x t.state d.0 k.good o d.1 f
                      (lowered_goes n t.register g.registers g.state m gd w ic hs md d.0 d.2),
                  d.3,
                ),
          )
          (release_all_tracked rest (map (canonical e.origins) (operands (node_at e.nodes n))) u)

  -- ---- a hoisted value's own slot

  -- A HOISTED VALUE IS KEPT
  pub keep_tracked : (rest : List (List ℕ)) (reads : List ℕ) (k v r : ℕ) (rs : List ℕ) (s : State) → e.in_control ≡ true → Good e home s → register_of s v ≡ suc r
      → k < e.fixed → ((w : ℕ) → get_or home w 0 ≡ suc k → w ≡ v)
      → Good e home (spill_to e v r k s.free s.slots s)
      → Post (Unit {0}) (λ s'. SlotsGrow s s' ×
      (SlotsDeclared R s' → (m : Marks) → At s m → (m' : Marks) × At s' m' × KeepsFilled m m' × T (is_some (get_or m'.slots k 0)))) (run_keep e rest reads k v
      (record { registers = r ∷ rs; state = s }))
  unfolding run_keep set_slot emit to_slot
  keep_tracked rest reads k v r rs s ct g hv locked mine g' =
      let u : State = spill_to e v r k s.free s.slots s in
      let same : u ≡ set_slot v k (emit (store_control k r) s) = rw ct in
      let a : Leads s u = (
        record { slots = omega arith },
        λ f m t. (
          mark_slot m k (suc (class v)),
          spill_tracked e home sixteen own R class meaning.sources start v r k s.free s.slots s m t
              (g.registers.down v r hv) (omega (arith, g.slots.fixed_le)) mine g' f,
          λ j u. set_still m.slots k (class v) j u,
        ),
      ) in
      let w : State = set_slot v k (emit (store_control k r) s) in
      let a' : Leads s w = rw same at a in
      let z : Leads w (release_all e rest reads w) = release_all_tracked rest reads w in
      let lv : v < length s.spilled = omega (arith, some_lt s.holder v r hv, g.holders, g.spilleds) in (
        grows_trans s w (release_all e rest reads w) a'.0 z.0,
        λ f m t.
            let d = a'.1 (declared_back R w (release_all e rest reads w) z.0 f) m t in
            let y = z.1 f d.0 d.1 in (
              y.0,
              y.1,
              (λ j u. y.2 j (d.2 j u)),
              y.2 k
                  (is_suc (get_or d.0.slots k 0) (class v) (d.1.agrees.slots v k (get_or-set_same s.spilled v (suc k) 0 lv))),
            ),
      )

  -- an output store has index 0
  store_goes : (c i r x : ℕ) (m : Marks) → WriteAt c i → e.in_control ≡ false → get_or m.registers r 0 ≡ suc x → R.asked_class c i ≡ suc x
      → walk_action e.registers e.in_control R m (store_action c i r) ≡ goes (mark_stored m c i)
  unfolding walk_action store_action
  store_goes c i r x m wc ct h w =
      let y : (not e.in_control && (is_some (get_or m.registers r 0) && eqb (get_or m.registers r 0) (R.asked_class c i))) ≡ true =
      rw (ct, h, w) (is_true (eqb (suc x) (suc x)) (eqb_refl (suc x))) in
      go c i wc y
    where
      go : (c i : ℕ) → WriteAt c i → (not e.in_control && (is_some (get_or m.registers r 0) && eqb (get_or m.registers r 0) (R.asked_class c i))) ≡ true
          → walk_action e.registers e.in_control R m (store_action c i r) ≡ goes (mark_stored m c i)
      go c i (to_state, z) y = rw y
      go c i (to_delay, z) y = rw y
      go c i (to_output, z) y =
          let q : i ≡ 0 = z refl in
          let y' : (not e.in_control && (is_some (get_or m.registers r 0) && eqb (get_or m.registers r 0) (R.asked_class 12 0))) ≡ true = rw q at y in rw y'

  stale_grows : (h : ℕ) (x : Action) (s : State) → SlotsGrow s (stale h (emit x s))
  unfolding stale emit
  stale_grows zero x s = record { slots = omega arith }
  stale_grows (suc n) x s = record { slots = omega arith }

  stale_same : (h : ℕ) (x : Action) (s : State)
      → ((stale h (emit x s)).steps ≡ s.steps ++ (x ∷ [])) × ((stale h (emit x s)).owner ≡ s.owner) × ((stale h (emit x s)).spilled ≡ s.spilled)
  unfolding stale emit
  stale_same zero x s = (refl, refl, refl)
  stale_same (suc n) x s = (refl, refl, refl)

  emit_fresh : (x : Action) (s : State) (n : ℕ) → T (is_fresh (emit x s) n) → T (is_fresh s n)
  unfolding emit
  emit_fresh x s n t = t

  -- ---- a write

  preserve_tracked : (rest : List (List ℕ)) (locked : List ℕ) (s : State) → Good e home s → (h : ℕ)
      → ((n : ℕ) → h ≡ suc n → (n < length e.origins) × Canonical e n)
      → Post (Unit {0}) (λ s'. Leads s s') (preserve e rest locked s h)
  preserve_tracked rest locked s g zero hh = (grows_same s, λ f m t. (m, t, λ k u. u))
  preserve_tracked rest locked s g (suc n) hh = go (is_fresh s n && read_later rest n) refl
    where
      go : (b : Bool) → (is_fresh s n && read_later rest n) ≡ b → Post (Unit {0}) (λ s'. Leads s s') (preserve_if b e rest n locked s)
      go false q = (grows_same s, λ f m t. (m, t, λ k u. u))
      go true q =
          let fr : T (is_fresh s n) = and_first (is_fresh s n) (read_later rest n) (rw q tt) in
          let av : T (avail s n) = or_second (is_some (register_of s n)) (is_some (slot_of s n) || is_fresh s n) (or_second (is_some (slot_of s n)) (is_fresh s n) fr) in
          post_bind (Unit {0}) (λ g. Leads s g.state) (λ s'. Leads s s') (fetch e rest n locked s) _
          (fetch_tracked e home sixteen own R class meaning.sources start rest n locked s g (hh n refl).0 (hh n refl).1 av) (λ a k. k)

  -- the store step and what goes stale
  stored_tracked : (c i r h : ℕ) (s : State) (m : Marks) → WriteAt c i → At s m
      → walk_action e.registers e.in_control R m (store_action c i r) ≡ goes (mark_stored m c i) → h ≡ home_of e.origins (home_code c) i
      → At (stale h (emit (store_action c i r) s)) (mark_stored m c i)
  stored_tracked c i r h s m wc t x hh =
      let sm = stale_same h (store_action c i r) s in
      record {
        walked = rw sm.0 (walked_emit e R start s.steps (store_action c i r) m (mark_stored m c i) t.walked x);
        agrees =
            record {
              registers = λ n q o z. t.agrees.registers n q (rw sm.1 at o) z;
              slots = λ n k o. t.agrees.slots n k (rw sm.2 at o);
              memory = λ n c' i' ho fr.
                  let p = stale_fresh h (emit (store_action c i r) s) n fr in
                  stored_source R m c i c' i' wc.0
                  (λ cq iq. p.1 (hh ∙ subst (λ (k : ℕ). home_of e.origins k i ≡ suc n) cq (subst (λ (k : ℕ). home_of e.origins c' k ≡ suc n) iq ho)))
                  ∙ t.agrees.memory n c' i' ho (emit_fresh (store_action c i r) s n p.0);
              homes = t.agrees.homes;
              registers_length = t.agrees.registers_length;
              slots_length = t.agrees.slots_length;
            };
      }

  store_tracked : (c i r v h : ℕ) (s : State) → WriteAt c i → e.in_control ≡ false → h ≡ home_of e.origins (home_code c) i → Good e home s
      → register_of s (canonical e.origins v) ≡ suc r → R.asked_class c i ≡ suc (class v)
      → Leads s (stale h (emit (store_action c i r) s))
  store_tracked c i r v h s wc ct hh g hv wt = (
    stale_grows h (store_action c i r) s,
    λ f m t.
        let x : get_or m.registers r 0 ≡ suc (class v) = register_class s m g t (canonical e.origins v) r hv ∙ ap suc (meaning.share v) in
        (mark_stored m c i, stored_tracked c i r h s m wc t (store_goes c i r (class v) m wc ct x wt) hh, λ k u. u),
  )

  -- A WRITE
  pub write_tracked : (rest : List (List ℕ)) (reads : List ℕ) (c i v r : ℕ) (rs : List ℕ) (s : State) → WriteAt c i → e.in_control ≡ false → Good e home s
      → register_of s (canonical e.origins v) ≡ suc r → R.asked_class c i ≡ suc (class v)
      → Post (Unit {0}) (λ s'. Leads s s') (run_store e rest reads c i (record { registers = r ∷ rs; state = s }))
  unfolding run_store
  write_tracked rest reads c i v r rs s wc ct g hv wt =
      let h : ℕ = home_of e.origins (home_code c) i in
      let inside : (n : ℕ) → h ≡ suc n → n < length e.origins = λ n q. (home_known e.origins (home_code c) i n q).0 in
      post_bind (Unit {0}) (λ t. Saved e home rest (r ∷ rs) h s t × Leads s t) (λ s'. Leads s s') (preserve e rest (r ∷ rs) s h) _
      (post_and (Saved e home rest (r ∷ rs) h s) (λ t. Leads s t) (preserve e rest (r ∷ rs) s h) (preserve_saved e home sixteen rest (r ∷ rs) s g h inside)
      (preserve_tracked rest (r ∷ rs) s g h (λ n q. (inside n q, home_canonical e (home_code c) i n q))))
      (λ t k.
      let u : State = stale h (emit (store_action c i r) t) in
      let hv' : register_of t (canonical e.origins v) ≡ suc r =
      k.0.keeps.lock (canonical e.origins v) r hv (or_first (eqb r r) (member r rs) (eqb_refl r)) in
      leads_trans s u (release_all e rest reads u) (leads_trans s t u k.1 (store_tracked c i r v h t wc ct refl k.0.good hv' wt))
      (release_all_tracked rest reads u))
