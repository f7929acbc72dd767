-- The allocator with the Rust's own loops over every node, in `preserve` and after a store, gives the same steps, slots and registers. Assumes nothing.
use Rattle.std.proofs.Common.{◌∙◌, sym, inl, inr, arith}
use Rattle.std.specs.Prelude.{◌≡◌, ◌≢◌, ◌⊎◌, ◌&&◌, length, set, T, eqb}
use Rattle.std.proofs.Math.Path.{ap, refl, subst}
use Rattle.std.proofs.Math.Bool.{Bool, cond, false, not, true}
use mathlib.Core.List.{List, [], ◌++◌, ◌∷◌}
use Prim.Native.Nat.{pred, suc, zero, ℕ}
use Rattle.std.proofs.Math.Nat.{suc_inj}
use Rattle.std.proofs.Math.ListN.{get_or}
use Rattle.std.proofs.Math.Dec.{eqb_refl}
use Rattle.tables.specs.Stores.{set_says}
use Rattle.tables.specs.Zeros.{zeros_at}
use Rattle.plan.specs.Lists.{member, filter, first_of, better, best, count_up, is_none}
use Rattle.plan.specs.Nodes.{node_at}
use Rattle.plan.specs.Origins.{Origin, no_origin, immediate, loaded, has_origin, is_load, origin_at, home_of}
use Rattle.plan.specs.Schedule.{Task, compute_task, keep_task, store_task, task_reads}
use Rattle.plan.specs.TestLaws.{or_first, or_second}
use Rattle.plan.specs.ListLaws.{filter_member, best_member, first_zero}
use Rattle.allocate.specs.Actions.{compute, Action, Operation, store_control, store_action, load_action, load_immediate}
use Rattle.allocate.specs.State.{Allocated, allocated, all_locked, and_then, Setting, State, Taken, TakenAll, register_of, owner_of, slot_of, is_fresh, reloadable, emit, emit_operation, from_slot, spill_in, spill_out, place, vacate, disown, release, begin, lend, set_slot, stale}
use Rattle.allocate.specs.Allocator.{read_later, spill_if, evict, evict_key, take_best, take_free, take_register, bring_from, bring_if, bring, fetch_held, fetch, fetch_all, release_if, release_all, result_register, lower, run_compute, run_keep, home_code, preserve_if, preserve, run_store, run_task, allocate_task, reads_of, allocate}
use Rattle.allocate.specs.Outcomes.{Post}
use Rattle.allocate.specs.StateLaws.{unset}
use Rattle.allocate.specs.TaskLaws.{known}
use Rattle.allocate.specs.RunLaws.{TasksOk}
use Rattle.allocate.specs.RustAllocator.{hide_loads, hide_all}
use Rattle.allocate.specs.Canonical.{Canonical, reads_canonical, home_canonical}
use Rattle.allocate.specs.RustStores.{preserve_all, OwnReads, own_reads, preserve_same, hide_at, stale_agrees}

-- ---- the Rust's own loops

-- codegen.rs: `run`, the arm of memory writes
unfoldable pub run_store_all : Setting → List (List ℕ) → List ℕ → ℕ → ℕ → TakenAll → Allocated State
run_store_all e rest reads c i g =
    and_then (preserve_all e rest (home_code c) i g.registers g.state (count_up 0 (length e.origins)))
    (λ s. allocated (release_all e rest reads (hide_all e (home_code c) i (emit (store_action c i (get_or g.registers 0 0)) s))))

-- codegen.rs: `run`, the match on the op
unfoldable pub run_task_all : Setting → List (List ℕ) → List ℕ → Task → TakenAll → Allocated State
run_task_all e rest reads (compute_task n) g = run_compute e rest reads n g
run_task_all e rest reads (keep_task k v) g = run_keep e rest reads k v g
run_task_all e rest reads (store_task c i v) g = run_store_all e rest reads c i g

-- codegen.rs: `Allocator::run`
unfoldable pub allocate_all : Setting → List Task → State → Allocated State
allocate_all e [] s = allocated s
allocate_all e (o ∷ os) s =
    and_then (and_then (fetch_all e (task_reads e.nodes e.origins o ∷ reads_of e os) (task_reads e.nodes e.origins o) [] s)
    (λ g. run_task_all e (reads_of e os) (task_reads e.nodes e.origins o) o g))
    (λ s'. allocate_all e os s')

-- ---- two states that differ in what is fresh, and not for nodes that can be read

-- a state with other flags
abbrev pub with_fresh : List Bool → State → State
with_fresh fr s =
    record {
      holder = s.holder;
      owner = s.owner;
      spilled = s.spilled;
      fresh = fr;
      free = s.free;
      slots = s.slots;
      steps = s.steps;
      most = s.most;
    }

abbrev map_taken : List Bool → Allocated Taken → Allocated Taken
map_taken fr (allocated g) = allocated (record { register = g.register; state = with_fresh fr g.state })
map_taken fr all_locked = all_locked

abbrev map_taken_all : List Bool → Allocated TakenAll → Allocated TakenAll
map_taken_all fr (allocated g) = allocated (record { registers = g.registers; state = with_fresh fr g.state })
map_taken_all fr all_locked = all_locked

abbrev map_state : List Bool → Allocated State → Allocated State
map_state fr (allocated s) = allocated (with_fresh fr s)
map_state fr all_locked = all_locked

best_ext : (f g : ℕ → ℕ) (xs : List ℕ) → ((r : ℕ) → T (member r xs) → f r ≡ g r) → best f xs ≡ best g xs
best_ext f g [] h = refl
best_ext f g (x ∷ xs) h = rw (best_ext f g xs (λ r t. h r (or_second (eqb r x) (member r xs) t))) (go (best g xs) (best_member g xs))
  where
    go : (b : ℕ) → ((r : ℕ) → b ≡ suc r → T (member r xs)) → better f x b ≡ better g x b
    go zero m = refl
    go (suc r) m = rw (h x (or_first (eqb x x) (member x xs) (eqb_refl x)), h r (or_second (eqb r x) (member r xs) (m r refl)))

module _ (e : Setting) (fr : List Bool) where
  -- the flags agree on what can be read, and only that is held
  pub record Twin (s : State) : Type 0 where
    pub agree : (n : ℕ) → Canonical e n → get_or fr n false ≡ is_fresh s n
    pub own : (r n : ℕ) → owner_of s r ≡ suc n → Canonical e n

  reload_twin : (s : State) → Twin s → (v : ℕ) → Canonical e v → reloadable (with_fresh fr s) v ≡ reloadable s v
  reload_twin s t v c = rw (t.agree v c)

  emit_twin : (x : Action) (s : State) → Twin s → (emit x (with_fresh fr s) ≡ with_fresh fr (emit x s)) × Twin (emit x s)
  unfolding emit
  emit_twin x s t = (refl, record { agree = t.agree; own = t.own })

  operation_twin : (x : Operation) (s : State) → Twin s → (emit_operation x (with_fresh fr s) ≡ with_fresh fr (emit_operation x s)) × Twin (emit_operation x s)
  operation_twin x s t = emit_twin (compute x) s t

  spill_twin : (v r : ℕ) (s : State) → Twin s → (spill_out e v r (with_fresh fr s) ≡ with_fresh fr (spill_out e v r s)) × Twin (spill_out e v r s)
  unfolding spill_out
  spill_twin v r s t = go s.free
    where
      go : (l : List ℕ) → (spill_in e v r l (with_fresh fr s) ≡ with_fresh fr (spill_in e v r l s)) × Twin (spill_in e v r l s)
      go [] = (refl, record { agree = t.agree; own = t.own })
      go (k ∷ ks) = (refl, record { agree = t.agree; own = t.own })

  vacate_twin : (v r : ℕ) (s : State) → Twin s → (vacate v r (with_fresh fr s) ≡ with_fresh fr (vacate v r s)) × Twin (vacate v r s)
  unfolding vacate
  vacate_twin v r s t = (refl, record { agree = t.agree; own = λ q n h. t.own q n (unset s.owner r q n h) })

  evict_twin : (v r : ℕ) (s : State) → Twin s → Canonical e v → (evict e v r (with_fresh fr s) ≡ with_fresh fr (evict e v r s)) × Twin (evict e v r s)
  unfolding evict
  evict_twin v r s t c = rw (reload_twin s t v c) (go (reloadable s v))
    where
      go : (b : Bool) → (vacate v r (spill_if b e v r (with_fresh fr s)) ≡ with_fresh fr (vacate v r (spill_if b e v r s))) × Twin (vacate v r (spill_if b e v r s))
      go true = vacate_twin v r s t
      go false =
          let p = spill_twin v r s t in
          let q = vacate_twin v r (spill_out e v r s) p.1 in
          (ap (vacate v r) p.0 ∙ q.0, q.1)

  owner_set : (r n : ℕ) (s : State) → Twin s → Canonical e n → (q m : ℕ) → get_or (set s.owner r (suc n)) q 0 ≡ suc m → Canonical e m
  owner_set r n s t c q m h = go (set_says s.owner r (suc n) q m h)
    where
      go : ((q ≡ r) × (suc n ≡ suc m)) ⊎ ((q ≢ r) × (get_or s.owner q 0 ≡ suc m)) → Canonical e m
      go (inl p) = subst (λ (k : ℕ). Canonical e k) (suc_inj p.1) c
      go (inr p) = t.own q m p.1

  place_twin : (n r : ℕ) (s : State) → Twin s → Canonical e n → (place n r (with_fresh fr s) ≡ with_fresh fr (place n r s)) × Twin (place n r s)
  unfolding place
  place_twin n r s t c = (refl, record { agree = t.agree; own = owner_set r n s t c })

  abbrev TwinTaken : Allocated Taken → Allocated Taken → Type 0
  TwinTaken y x = (y ≡ map_taken fr x) × Post (Unit {0}) (λ g. Twin g.state) x

  take_twin : (rest : List (List ℕ)) (n : ℕ) (locked : List ℕ) (s : State) → Twin s → Canonical e n
      → TwinTaken (take_register e rest n locked (with_fresh fr s)) (take_register e rest n locked s)
  unfolding take_register evict_key
  take_twin rest n locked s t c = go (first_of (λ r. is_none (owner_of s r)) e.registers) refl
    where
      L : List ℕ
      L = filter (λ r. not (member r locked)) e.registers

      some : (o : ℕ) → is_none o ≡ false → o ≡ suc (pred o)
      some zero q = let z : ◌≡◌ {A = ℕ} 0 1 = cc in absurd (omega arith)
      some (suc o) q = omega arith

      victim : first_of (λ r. is_none (owner_of s r)) e.registers ≡ 0 → (r : ℕ) → T (member r L) → owner_of s r ≡ suc (pred (owner_of s r))
      victim q r u =
          some (owner_of s r) (first_zero (λ r. is_none (owner_of s r)) e.registers r q (filter_member (λ r. not (member r locked)) e.registers r u).0)

      key_same : first_of (λ r. is_none (owner_of s r)) e.registers ≡ 0 → (r : ℕ) → T (member r L) → evict_key rest (with_fresh fr s) r ≡ evict_key rest s r
      key_same q r u = rw (reload_twin s t (pred (owner_of s r)) (t.own r (pred (owner_of s r)) (victim q r u)))

      best_twin : first_of (λ r. is_none (owner_of s r)) e.registers ≡ 0 → (b : ℕ) → ((r : ℕ) → b ≡ suc r → T (member r L))
          → TwinTaken (take_best e n (with_fresh fr s) b) (take_best e n s b)
      best_twin q zero m = (refl, tt)
      best_twin q (suc r) m =
          let v : ℕ = pred (owner_of s r) in
          let p = evict_twin v r s t (t.own r v (victim q r (m r refl))) in
          let w = place_twin n r (evict e v r s) p.1 c in
          ((λ i. allocated (record { register = r; state = (ap (place n r) p.0 ∙ w.0) i })), w.1)

      go : (f : ℕ) → first_of (λ r. is_none (owner_of s r)) e.registers ≡ f → TwinTaken (take_free e rest n locked (with_fresh fr s) f) (take_free e rest n locked s f)
      go (suc r) q = let w = place_twin n r s t c in ((λ i. allocated (record { register = r; state = w.0 i })), w.1)
      go zero q =
          rw (best_ext (evict_key rest (with_fresh fr s)) (evict_key rest s) L (key_same q)) (best_twin q (best (evict_key rest s) L) (best_member (evict_key rest s) L))

  bring_twin : (n r : ℕ) (s : State) → Twin s → Canonical e n → (bring e n r (with_fresh fr s) ≡ with_fresh fr (bring e n r s)) × Twin (bring e n r s)
  unfolding bring bring_from
  bring_twin n r s t c = rw (t.agree n c) (go (is_fresh s n))
    where
      src : (x : Origin) → (bring_from x r (with_fresh fr s) ≡ with_fresh fr (bring_from x r s)) × Twin (bring_from x r s)
      src no_origin = (refl, t)
      src (immediate b) = operation_twin (load_immediate b r) s t
      src (loaded c i) = emit_twin (load_action c i r) s t

      go : (b : Bool) → (bring_if b e n r (with_fresh fr s) ≡ with_fresh fr (bring_if b e n r s)) × Twin (bring_if b e n r s)
      go true = src (origin_at e.origins n)
      go false = emit_twin (from_slot e (pred (slot_of s n)) r) s t

  fetch_twin : (rest : List (List ℕ)) (n : ℕ) (locked : List ℕ) (s : State) → Twin s → Canonical e n
      → TwinTaken (fetch e rest n locked (with_fresh fr s)) (fetch e rest n locked s)
  unfolding fetch
  fetch_twin rest n locked s t c = go (register_of s n)
    where
      more : (x : Allocated Taken) → Post (Unit {0}) (λ g. Twin g.state) x
          → TwinTaken (and_then (map_taken fr x) (λ g. allocated (record { register = g.register; state = bring e n g.register g.state })))
          (and_then x (λ g. allocated (record { register = g.register; state = bring e n g.register g.state })))
      more (allocated g) k = let w = bring_twin n g.register g.state k c in ((λ i. allocated (record { register = g.register; state = w.0 i })), w.1)
      more all_locked k = (refl, tt)

      go : (h : ℕ) → TwinTaken (fetch_held e rest n locked (with_fresh fr s) h) (fetch_held e rest n locked s h)
      go (suc r) = (refl, t)
      go zero = let w = take_twin rest n locked s t c in rw w.0 (more (take_register e rest n locked s) w.1)

  abbrev TwinTakenAll : Allocated TakenAll → Allocated TakenAll → Type 0
  TwinTakenAll y x = (y ≡ map_taken_all fr x) × Post (Unit {0}) (λ g. Twin g.state) x

  fetch_all_twin : (rest : List (List ℕ)) (ns locked : List ℕ) (s : State) → Twin s → ((n : ℕ) → T (member n ns) → Canonical e n)
      → TwinTakenAll (fetch_all e rest ns locked (with_fresh fr s)) (fetch_all e rest ns locked s)
  unfolding fetch_all
  fetch_all_twin rest [] locked s t c = (refl, t)
  fetch_all_twin rest (n ∷ ns) locked s t c =
      let w = fetch_twin rest n locked s t (c n (or_first (eqb n n) (member n ns) (eqb_refl n))) in
      rw w.0 (more (fetch e rest n locked s) w.1 (λ l a k. fetch_all_twin rest ns l a k (λ m u. c m (or_second (eqb m n) (member m ns) u))))
    where
      more : (x : Allocated Taken) → Post (Unit {0}) (λ g. Twin g.state) x
          → ((l : List ℕ) (a : State) → Twin a → TwinTakenAll (fetch_all e rest ns l (with_fresh fr a)) (fetch_all e rest ns l a))
          → TwinTakenAll (and_then (map_taken fr x) (λ g. fetch_all e rest ns (locked ++ (g.register ∷ [])) g.state))
          (and_then x (λ g. fetch_all e rest ns (locked ++ (g.register ∷ [])) g.state))
      more (allocated g) k ih = ih (locked ++ (g.register ∷ [])) g.state k
      more all_locked k ih = (refl, tt)

  release_twin : (n : ℕ) (s : State) → Twin s → (release e n (with_fresh fr s) ≡ with_fresh fr (release e n s)) × Twin (release e n s)
  unfolding release
  release_twin n s t = (refl, record { agree = t.agree; own = λ q m h. t.own q m (was q m (register_of s n) h) })
    where
      was : (q m h : ℕ) → get_or (disown h s.owner) q 0 ≡ suc m → owner_of s q ≡ suc m
      was q m zero h = h
      was q m (suc r) h = unset s.owner r q m h

  release_all_twin : (rest : List (List ℕ)) (ns : List ℕ) (s : State) → Twin s
      → (release_all e rest ns (with_fresh fr s) ≡ with_fresh fr (release_all e rest ns s)) × Twin (release_all e rest ns s)
  unfolding release_all
  release_all_twin rest [] s t = (refl, t)
  release_all_twin rest (n ∷ ns) s t = go (read_later rest n) (λ a k. release_all_twin rest ns a k)
    where
      go : (b : Bool) → ((a : State) → Twin a → (release_all e rest ns (with_fresh fr a) ≡ with_fresh fr (release_all e rest ns a)) × Twin (release_all e rest ns a))
          → (release_all e rest ns (release_if b e n (with_fresh fr s)) ≡ with_fresh fr (release_all e rest ns (release_if b e n s))) × Twin
          (release_all e rest ns (release_if b e n s))
      go true ih = ih s t
      go false ih =
          let p = release_twin n s t in
          let q = ih (release e n s) p.1 in
          (ap (release_all e rest ns) p.0 ∙ q.0, q.1)

  result_twin : (rest : List (List ℕ)) (n : ℕ) (locked : List ℕ) (s : State) → Twin s → Canonical e n → (f : ℕ)
      → TwinTaken (result_register e rest n locked (with_fresh fr s) f) (result_register e rest n locked s f)
  unfolding lend
  result_twin rest n locked s t c zero = take_twin rest n locked s t c
  result_twin rest n locked s t c (suc d) = (refl, record { agree = t.agree; own = owner_set (pred (register_of s d)) n s t c })

  abbrev TwinState : Allocated State → Allocated State → Type 0
  TwinState y x = (y ≡ map_state fr x) × Post (Unit {0}) Twin x

  abbrev with_fresh_all : TakenAll → TakenAll
  with_fresh_all g = record { registers = g.registers; state = with_fresh fr g.state }

  compute_twin : (rest : List (List ℕ)) (reads : List ℕ) (n : ℕ) (g : TakenAll) → Twin g.state → Canonical e n
      → TwinState (run_compute e rest reads n (with_fresh_all g)) (run_compute e rest reads n g)
  unfolding run_compute
  compute_twin rest reads n g t c =
      let f : ℕ = first_of (λ d. not (read_later rest d)) reads in
      let w = result_twin rest n g.registers g.state t c f in
      rw w.0 (more (result_register e rest n g.registers g.state f) w.1)
    where
      more : (x : Allocated Taken) → Post (Unit {0}) (λ g. Twin g.state) x
          → TwinState (and_then (map_taken fr x) (λ t. allocated
          (release_all e rest reads (emit_operation (lower (node_at e.nodes n) t.register g.registers) t.state))))
          (and_then x (λ t. allocated (release_all e rest reads (emit_operation (lower (node_at e.nodes n) t.register g.registers) t.state))))
      more (allocated a) k =
          let x : Operation = lower (node_at e.nodes n) a.register g.registers in
          let p = operation_twin x a.state k in
          let q = release_all_twin rest reads (emit_operation x a.state) p.1 in
          ((λ i. allocated ((ap (release_all e rest reads) p.0 ∙ q.0) i)), q.1)
      more all_locked k = (refl, tt)

  keep_twin : (rest : List (List ℕ)) (reads : List ℕ) (k v : ℕ) (g : TakenAll) → Twin g.state
      → TwinState (run_keep e rest reads k v (with_fresh_all g)) (run_keep e rest reads k v g)
  unfolding run_keep set_slot emit
  keep_twin rest reads k v g t =
      let q = release_all_twin rest reads (set_slot v k (emit (store_control k (get_or g.registers 0 0)) g.state)) (record { agree = t.agree; own = t.own }) in
      ((λ i. allocated (q.0 i)), q.1)

  preserve_twin : (rest : List (List ℕ)) (locked : List ℕ) (s : State) → Twin s → (h : ℕ) → ((n : ℕ) → h ≡ suc n → Canonical e n)
      → TwinState (preserve e rest locked (with_fresh fr s) h) (preserve e rest locked s h)
  preserve_twin rest locked s t zero c = (refl, t)
  preserve_twin rest locked s t (suc n) c = rw (t.agree n (c n refl)) (go (is_fresh s n && read_later rest n))
    where
      more : (x : Allocated Taken) → Post (Unit {0}) (λ g. Twin g.state) x
          → TwinState (and_then (map_taken fr x) (λ g. allocated g.state)) (and_then x (λ g. allocated g.state))
      more (allocated g) k = (refl, k)
      more all_locked k = (refl, tt)

      go : (b : Bool) → TwinState (preserve_if b e rest n locked (with_fresh fr s)) (preserve_if b e rest n locked s)
      go false = (refl, t)
      go true = let w = fetch_twin rest n locked s t (c n refl) in rw w.0 (more (fetch e rest n locked s) w.1)

-- ---- one op, and all

-- both refuse, or both go on to states that differ in what is fresh alone
abbrev pub Alike : Setting → Allocated State → Allocated State → Type 0
Alike e (allocated s) (allocated t) = (fr : List Bool) × (t ≡ with_fresh fr s) × Twin e fr s
Alike e (allocated s) all_locked = ⊥
Alike e all_locked (allocated t) = ⊥
Alike e all_locked all_locked = Unit {0}

module _ (e : Setting) where
  alike_of : (fr : List Bool) (x y : Allocated State) → TwinState e fr y x → Alike e x y
  alike_of fr (allocated s) y w = subst (λ (z : Allocated State). Alike e (allocated s) z) (sym w.0) (fr, refl, w.1)
  alike_of fr all_locked y w = subst (λ (z : Allocated State). Alike e all_locked z) (sym w.0) tt

  -- after a store: the Rust hides every node of the memory, the allocator its first
  hidden : (fr : List Bool) (c i : ℕ) (s : State) → Twin e fr s → Twin e (hide_loads c i e.origins fr) (stale (home_of e.origins c i) s)
  unfolding stale
  hidden fr c i s t =
      record {
        agree = λ n k.
            hide_at c i e.origins fr n
            ∙ (ap (λ (b : Bool). cond (is_load c i (origin_at e.origins n)) false b) (t.agree n k)
            ∙ (sym (hide_at c i e.origins s.fresh n) ∙ stale_agrees e c i s n k));
        own = λ r n h. t.own r n (same (home_of e.origins c i) r n h);
      }
    where
      same : (h r n : ℕ) → owner_of (stale h s) r ≡ suc n → owner_of s r ≡ suc n
      same zero r n q = q
      same (suc k) r n q = q

  hide_same : (fr : List Bool) (c i h : ℕ) (s : State) → hide_all e c i (with_fresh fr s) ≡ with_fresh (hide_loads c i e.origins fr) (stale h s)
  unfolding stale
  hide_same fr c i zero s = refl
  hide_same fr c i (suc n) s = refl

  store_alike : (rest : List (List ℕ)) (reads : List ℕ) (c i : ℕ) (fr : List Bool) (g : TakenAll) → OwnReads e rest → Twin e fr g.state
      → Alike e (run_store e rest reads c i g) (run_store_all e rest reads c i (with_fresh_all e fr g))
  unfolding run_store run_store_all
  store_alike rest reads c i fr g own t =
      let h : ℕ = home_of e.origins (home_code c) i in
      let w = preserve_twin e fr rest g.registers g.state t h (λ n q. home_canonical e (home_code c) i n q) in
      rw (preserve_same e rest own (home_code c) i g.registers (with_fresh fr g.state), w.0) (more (preserve e rest g.registers g.state h) w.1)
    where
      more : (x : Allocated State) → Post (Unit {0}) (Twin e fr) x
          → Alike e (and_then x (λ s. allocated (release_all e rest reads
          (stale (home_of e.origins (home_code c) i) (emit (store_action c i (get_or g.registers 0 0)) s)))))
          (and_then (map_state fr x) (λ s. allocated (release_all e rest reads (hide_all e (home_code c) i (emit (store_action c i (get_or g.registers 0 0)) s)))))
      more (allocated a) k =
          let h : ℕ = home_of e.origins (home_code c) i in
          let x : Action = store_action c i (get_or g.registers 0 0) in
          let p = emit_twin e fr x a k in
          let fr' : List Bool = hide_loads (home_code c) i e.origins fr in
          let z = hidden fr (home_code c) i (emit x a) p.1 in
          let q = release_all_twin e fr' rest reads (stale h (emit x a)) z in (
            fr',
            ap (λ (s : State). release_all e rest reads (hide_all e (home_code c) i s)) p.0
                ∙ (ap (release_all e rest reads) (hide_same fr (home_code c) i h (emit x a)) ∙ q.0),
            q.1,
          )
      more all_locked k = tt

  task_alike : (rest : List (List ℕ)) (reads : List ℕ) (o : Task) (fr : List Bool) (g : TakenAll) → OwnReads e rest
      → ((n : ℕ) → o ≡ compute_task n → Canonical e n) → Twin e fr g.state
      → Alike e (run_task e rest reads o g) (run_task_all e rest reads o (with_fresh_all e fr g))
  unfolding run_task run_task_all
  task_alike rest reads (compute_task n) fr g own c t =
      alike_of fr (run_compute e rest reads n g) (run_compute e rest reads n (with_fresh_all e fr g)) (compute_twin e fr rest reads n g t (c n refl))
  task_alike rest reads (keep_task k v) fr g own c t =
      alike_of fr (run_keep e rest reads k v g) (run_keep e rest reads k v (with_fresh_all e fr g)) (keep_twin e fr rest reads k v g t)
  task_alike rest reads (store_task c' i v) fr g own c t = store_alike rest reads c' i fr g own t

  -- each computed node has no origin
  abbrev pub Plain : List Task → Type 0
  Plain [] = Unit {0}
  Plain (o ∷ os) = ((n : ℕ) → o ≡ compute_task n → Canonical e n) × Plain os

  run_alike : (os : List Task) → Plain os → (fr : List Bool) (s : State) → Twin e fr s → Alike e (allocate e os s) (allocate_all e os (with_fresh fr s))
  unfolding allocate allocate_all allocate_task
  run_alike [] p fr s t = (fr, refl, t)
  run_alike (o ∷ os) p fr s t =
      let rd : List ℕ = task_reads e.nodes e.origins o in
      let rest : List (List ℕ) = reads_of e os in
      let w = fetch_all_twin e fr (rd ∷ rest) rd [] s t (λ n u. reads_canonical e o n u) in
      rw w.0
      (next (fetch_all e (rd ∷ rest) rd [] s) w.1 (λ g k. task_alike rest rd o fr g (own_reads e os) p.0 k) (λ fr' a k. run_alike os p.1 fr' a k))
    where
      last : (x y : Allocated State) → Alike e x y → ((fr' : List Bool) (a : State) → Twin e fr' a → Alike e (allocate e os a) (allocate_all e os (with_fresh fr' a)))
          → Alike e (and_then x (λ s'. allocate e os s')) (and_then y (λ s'. allocate_all e os s'))
      last (allocated a) (allocated c) k ih = subst (λ (z : State). Alike e (allocate e os a) (allocate_all e os z)) (sym k.1) (ih k.0 a k.2)
      last (allocated a) all_locked k ih = absurd k
      last all_locked (allocated c) k ih = absurd k
      last all_locked all_locked k ih = tt

      next : (x : Allocated TakenAll) → Post (Unit {0}) (λ g. Twin e fr g.state) x
          → ((g : TakenAll) → Twin e fr g.state → Alike e (run_task e (reads_of e os) (task_reads e.nodes e.origins o) o g)
          (run_task_all e (reads_of e os) (task_reads e.nodes e.origins o) o (with_fresh_all e fr g)))
          → ((fr' : List Bool) (a : State) → Twin e fr' a → Alike e (allocate e os a) (allocate_all e os (with_fresh fr' a)))
          → Alike e (and_then (and_then x (λ g. run_task e (reads_of e os) (task_reads e.nodes e.origins o) o g)) (λ s'. allocate e os s'))
          (and_then (and_then (map_taken_all fr x) (λ g. run_task_all e (reads_of e os) (task_reads e.nodes e.origins o) o g)) (λ s'. allocate_all e os s'))
      next (allocated g) k f ih =
          last (run_task e (reads_of e os) (task_reads e.nodes e.origins o) o g)
          (run_task_all e (reads_of e os) (task_reads e.nodes e.origins o) o (with_fresh_all e fr g)) (f g k) ih
      next all_locked k f ih = tt

  -- what is computed is not known before, so it has no load
  fresh_canonical : (done : List ℕ) (n : ℕ) → (T (known e done n) → ⊥) → Canonical e n
  fresh_canonical done n h c i q = absurd (h (or_second (member n done) (has_origin (origin_at e.origins n)) (rw q tt)))

  plain_of : (home done : List ℕ) (last : ℕ) (os : List Task) → TasksOk e home done last os → Plain os
  plain_of home done last [] o = tt
  plain_of home done last (compute_task n ∷ os) o =
      ((λ m q. let z : n ≡ m = cc in subst (λ (k : ℕ). Canonical e k) z (fresh_canonical done n o.2)), plain_of home (n ∷ done) (suc n) os o.3)
  plain_of home done last (keep_task k v ∷ os) o = ((λ m q. let z : ◌≡◌ {A = ℕ} 0 1 = cc in absurd (omega arith)), plain_of home done 0 os o.4)
  plain_of home done last (store_task c i v ∷ os) o = ((λ m q. let z : ◌≡◌ {A = ℕ} 0 1 = cc in absurd (omega arith)), plain_of home done 0 os o.1)

  twin_begin : Twin e (begin e).fresh (begin e)
  unfolding begin
  twin_begin = record { agree = λ n c. refl; own = λ r n h. absurd (omega (arith, zeros_at 16 r)) }

  same_start : with_fresh (begin e).fresh (begin e) ≡ begin e
  unfolding begin
  same_start = refl

  -- from the start, the allocator with the Rust's loops gives the same
  pub allocate_same : (home done : List ℕ) (last : ℕ) (os : List Task) → TasksOk e home done last os → Alike e (allocate e os (begin e)) (allocate_all e os (begin e))
  allocate_same home done last os o =
      subst (λ (z : State). Alike e (allocate e os (begin e)) (allocate_all e os z)) same_start
      (run_alike os (plain_of home done last os o) (begin e).fresh (begin e) twin_begin)
