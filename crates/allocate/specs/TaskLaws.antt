-- The allocator's invariant between tasks, and how many steps a task emits. Assumes nothing.
use Rattle.std.specs.Prelude.{◌≡◌, ◌⊎◌, Bool, ◌&&◌, ◌||◌, false, true, get_or, set, eqb}
use Rattle.std.proofs.Common.{subst, ap, sym, inl, inr, arith, get_or-set_other, eqb→eq}
use Rattle.std.proofs.Math.Path.{refl}
use Rattle.std.proofs.Math.Bool.{not}
use mathlib.Core.List.{List, [], ◌∷◌}
use Prim.Native.Nat.{◌*◌, ◌+◌, ◌<◌, ◌≤◌, suc, zero, ℕ}
use Rattle.std.proofs.Math.Nat.{suc_inj}
use Rattle.std.proofs.Math.Decide.{ℕ_discrete}
use Rattle.std.proofs.Math.ListN.{length, length-set}
use Rattle.std.proofs.Math.Dec.{T, eqb_refl}
use Rattle.tables.specs.Tests.{or_pass}
use Rattle.plan.specs.Origins.{has_origin, origin_at, home_of}
use Rattle.plan.specs.Nodes.{node_at}
use Rattle.plan.specs.Lists.{member, first_of, is_some}
use Rattle.plan.specs.TestLaws.{and_both, or_first, or_second}
use Rattle.allocate.specs.State.{Setting, State, Taken, TakenAll, register_of, slot_of, is_fresh, reloadable, emit, emit_operation, set_slot, stale}
use Rattle.allocate.specs.Allocator.{fetch, release_all, read_later, result_register, lower, run_compute, run_keep, home_code, preserve_if, preserve, run_store}
use Rattle.allocate.specs.Actions.{Action, Operation, store_control, store_action}
use Rattle.allocate.specs.Outcomes.{Post, post_bind}
use Rattle.allocate.specs.Invariants.{slots_home}
use Rattle.allocate.specs.StateLaws.{Good, avail, Sixteen, Keeps}
use Rattle.allocate.specs.FetchLaws.{Fetched, fetch_fetched, Brought, brought_emit, brought_operation, keeps_brought}
use Rattle.allocate.specs.ReadLaws.{FetchedAll, Let, release_all_let, Aimed, target_aimed}

-- a disjunction's second part may be weakened
pub or_map : (a b c : Bool) → (T b → T c) → T (a || b) → T (a || c)
or_map true b c f t = tt
or_map false b c f t = f t

-- a store of some keeps what is some
pub set_still : (l : List ℕ) (v k m : ℕ) → T (is_some (get_or l m 0)) → T (is_some (get_or (set l v (suc k)) m 0))
set_still [] v k m t = t
set_still (x ∷ xs) zero k zero t = tt
set_still (x ∷ xs) zero k (suc m) t = t
set_still (x ∷ xs) (suc v) k zero t = t
set_still (x ∷ xs) (suc v) k (suc m) t = set_still xs v k m t

or_map_l : (a b c : Bool) → (T a → T b) → T (a || c) → T (b || c)
or_map_l true b c f t = or_first b c (f tt)
or_map_l false b c f t = or_second b c t

-- one more slot loses nothing
slotted : (h : Bool) (l : List ℕ) (v k m : ℕ) (fr : Bool) → T (h || (is_some (get_or l m 0) || fr)) → T (h || (is_some (get_or (set l v (suc k)) m 0) || fr))
slotted h l v k m fr t =
    let a : Bool = is_some (get_or l m 0) in
    let b : Bool = is_some (get_or (set l v (suc k)) m 0) in
    or_map h (a || fr) (b || fr) (λ u. or_map_l a b fr (λ w. set_still l v k m w) u) t

-- what is held is at hand
pub avail_held : (s : State) (m : ℕ) → T (is_some (register_of s m)) → T (avail s m)
avail_held s m t = or_first (is_some (register_of s m)) (reloadable s m) t

-- node m is computed, or has an origin
abbrev pub known : Setting → List ℕ → ℕ → Bool
known e done m = member m done || has_origin (origin_at e.origins m)

-- THE INVARIANT between tasks: the state is good; what is known and still to be read is at hand; what is held is known
pub record Invariant (e : Setting) (home done : List ℕ) (rest : List (List ℕ)) (s : State) : Type 0 where
  pub good : Good e home s
  pub ready : (m : ℕ) → T (read_later rest m) → T (known e done m) → T (avail s m)
  pub held : (m q : ℕ) → register_of s m ≡ suc q → T (known e done m)

-- a node that is read is in the table and known
abbrev pub ReadsOk : Setting → List ℕ → List ℕ → Type 0
ReadsOk e done reads = (m : ℕ) → T (member m reads) → (m < length e.origins) × T (known e done m)

-- what a task leaves: the invariant, and so many steps more at most
pub record Next (e : Setting) (home done : List ℕ) (rest : List (List ℕ)) (cost : ℕ) (s s' : State) : Type 0 where
  pub inv : Invariant e home done rest s'
  pub grow : length s'.steps ≤ length s.steps + cost

known_skip : (e : Setting) (n : ℕ) (done : List ℕ) (m : ℕ) → T (known e done m) → T (known e (n ∷ done) m)
known_skip e n done m t = go (or_pass (member m done) (has_origin (origin_at e.origins m)) t)
  where
    go : T (member m done) ⊎ T (has_origin (origin_at e.origins m)) → T ((eqb m n || member m done) || has_origin (origin_at e.origins m))
    go (inl u) = or_first (eqb m n || member m done) (has_origin (origin_at e.origins m)) (or_second (eqb m n) (member m done) u)
    go (inr u) = or_second (eqb m n || member m done) (has_origin (origin_at e.origins m)) u

known_here : (e : Setting) (n : ℕ) (done : List ℕ) → T (known e (n ∷ done) n)
known_here e n done = or_first (eqb n n || member n done) (has_origin (origin_at e.origins n)) (or_first (eqb n n) (member n done) (eqb_refl n))

known_cases : (e : Setting) (n : ℕ) (done : List ℕ) (m : ℕ) → T (known e (n ∷ done) m) → (m ≡ n) ⊎ T (known e done m)
known_cases e n done m t = go (or_pass (eqb m n || member m done) (has_origin (origin_at e.origins m)) t)
  where
    go₂ : T (eqb m n) ⊎ T (member m done) → (m ≡ n) ⊎ T (known e done m)
    go₂ (inl u) = inl (eqb→eq m n u)
    go₂ (inr u) = inr (or_first (member m done) (has_origin (origin_at e.origins m)) u)

    go : T (eqb m n || member m done) ⊎ T (has_origin (origin_at e.origins m)) → (m ≡ n) ⊎ T (known e done m)
    go (inl u) = go₂ (or_pass (eqb m n) (member m done) u)
    go (inr u) = inr (or_second (member m done) (has_origin (origin_at e.origins m)) u)

module _ (e : Setting) (home : List ℕ) (wf : Sixteen e) (done : List ℕ) (rest : List (List ℕ)) where
  -- what the fetches leave
  pub fetched_known : (reads : List ℕ) (s : State) (g : TakenAll) → Invariant e home done (reads ∷ rest) s → ReadsOk e done reads → FetchedAll e home [] reads s g
      → (m q : ℕ) → register_of g.state m ≡ suc q → T (known e done m)
  fetched_known reads s g i rd f m q h = go (f.only m q h)
    where
      go : T (member m reads) ⊎ (register_of s m ≡ suc q) → T (known e done m)
      go (inl u) = (rd m u).1
      go (inr u) = i.held m q u

  zero_of : (k : ℕ) → ((q : ℕ) → k ≡ suc q → ⊥) → k ≡ 0
  zero_of zero h = refl
  zero_of (suc q) h = absurd (h q refl)

  -- A COMPUTE
  pub compute_next : (reads : List ℕ) (n : ℕ) (s : State) (g : TakenAll) → Invariant e home done (reads ∷ rest) s → ReadsOk e done reads
      → n < length e.origins → (T (known e done n) → ⊥)
      → FetchedAll e home [] reads s g
      → Post (Unit {0}) (λ s'. Next e home (n ∷ done) rest (2 * length reads + 2) s s' × (T (read_later rest n) → T (is_some (register_of s' n))))
      (run_compute e rest reads n g)
  unfolding run_compute
  compute_next reads n s g i rd ln new f =
      post_bind (Unit {0}) (Aimed e home rest n g.state) _ (result_register e rest n g.registers g.state (first_of (λ d. not (read_later rest d)) reads)) _
      (target_aimed e home wf rest n reads g f.good f.held (zero_of (register_of g.state n) (λ q h. new (fetched_known reads s g i rd f n q h))) ln)
      (λ t k. last t k (lower (node_at e.nodes n) t.register g.registers))
    where
      last : (t : Taken) → Aimed e home rest n g.state t → (x : Operation)
          → Next e home (n ∷ done) rest (2 * length reads + 2) s (release_all e rest reads (emit_operation x t.state))
          × (T (read_later rest n) → T (is_some (register_of (release_all e rest reads (emit_operation x t.state)) n)))
      last t k x =
          let u : State = emit_operation x t.state in
          let b : Brought t.state u = brought_operation x t.state in
          let l : Good e home (release_all e rest reads u) × Let rest u (release_all e rest reads u) = release_all_let
          e home wf rest reads u (b.good e home k.good) in
          let hu : register_of u n ≡ suc t.register = rw b.holder k.held in
          let hot : T (read_later rest n) → T (is_some (register_of (release_all e rest reads u) n)) = λ y. rw (l.1.hold n y, hu) tt in (
            record {
              inv =
                  record {
                    good = l.0;
                    ready =
                        λ m y z. ready m y (known_cases e n done m z) hot
                        (λ a. l.1.keep m y ((keeps_brought [] t.state u b).keep m (k.keep m y (f.keep m a))));
                    held = λ m q h. heldk m q (k.only m q (rw b.holder at (l.1.only m q h)));
                  };
              grow = rw l.1.steps (omega (arith, b.grow, k.grow, f.grow));
            },
            hot,
          )
        where
          ready : (m : ℕ) → T (read_later rest m) → (m ≡ n) ⊎ T (known e done m)
              → (T (read_later rest n) → T (is_some (register_of (release_all e rest reads (emit_operation x t.state)) n)))
              → (T (avail s m) → T (avail (release_all e rest reads (emit_operation x t.state)) m))
              → T (avail (release_all e rest reads (emit_operation x t.state)) m)
          ready m y (inl z) hot go = avail_held (release_all e rest reads (emit_operation x t.state)) m (rw z (hot (rw z at y)))
          ready m y (inr z) hot go = go (i.ready m (or_second (member m reads) (read_later rest m) y) z)

          heldk : (m q : ℕ) → (m ≡ n) ⊎ (register_of g.state m ≡ suc q) → T (known e (n ∷ done) m)
          heldk m q (inl z) = subst (λ (j : ℕ). T (known e (n ∷ done) j)) (sym z) (known_here e n done)
          heldk m q (inr z) = known_skip e n done m (fetched_known reads s g i rd f m q z)

  -- the hoisted value v's own slot now holds it
  pub keep_next : (reads : List ℕ) (k v : ℕ) (s : State) (g : TakenAll) → Invariant e home done (reads ∷ rest) s → ReadsOk e done reads
      → get_or home v 0 ≡ suc k → k < e.fixed → ((m l : ℕ) → get_or home m 0 ≡ suc k → get_or home l 0 ≡ suc k → m ≡ l)
      → FetchedAll e home [] reads s g
      → Post (Unit {0}) (λ s'. Invariant e home done rest s' × (length s'.steps ≤ length g.state.steps + 1)) (run_keep e rest reads k v g)
  unfolding run_keep set_slot
  keep_next reads k v s g i rd hk locked inj f =
      let x : Action = store_control k (get_or g.registers 0 0) in
      let a : State = emit x g.state in
      let b : Brought g.state a = brought_emit x g.state in
      let u : State = set_slot v k a in
      let ga : Good e home a = b.good e home f.good in
      let gu : Good e home u =
      record {
        registers = ga.registers;
        slots = slots_home home e.fixed a.spilled a.free a.slots ga.slots v k hk locked inj;
        holders = ga.holders;
        owners = ga.owners;
        spilleds = rw length-set ga.spilleds;
        freshes = ga.freshes;
        src = ga.src;
        held = ga.held;
      } in
      let l : Good e home (release_all e rest reads u) × Let rest u (release_all e rest reads u) = release_all_let e home wf rest reads u gu in (
        record {
          good = l.0;
          ready =
              λ m y z. l.1.keep m y (slotted (is_some (register_of a m)) a.spilled v k m (is_fresh a m)
              ((keeps_brought [] g.state a b).keep m (f.keep m (i.ready m (or_second (member m reads) (read_later rest m) y) z))));
          held = λ m q h. fetched_known reads s g i rd f m q (rw b.holder at (l.1.only m q h));
        },
        rw l.1.steps b.grow,
      )

-- ---- a write

-- the home's value, if it is fresh and still to be read, is in a register
pub record Saved (e : Setting) (home : List ℕ) (rest : List (List ℕ)) (locked : List ℕ) (h : ℕ) (s s' : State) : Type 0 where
  pub good : Good e home s'
  pub keeps : Keeps locked s s'
  pub only : (m q : ℕ) → register_of s' m ≡ suc q → (suc m ≡ h) ⊎ (register_of s m ≡ suc q)
  pub grow : length s'.steps ≤ length s.steps + 2
  pub fresh : s'.fresh ≡ s.fresh
  pub safe : (n : ℕ) → h ≡ suc n → T (read_later rest n) → T (is_fresh s n) → T (is_some (register_of s' n))

-- a value that is fresh no more is lost only if it was nowhere else
stale_keep : (fr : List Bool) (n : ℕ) → (h : Bool) (sl : Bool) (m : ℕ) → (m ≡ n → T (get_or fr n false) → T h) → T (h || (sl || get_or fr m false))
    → T (h || (sl || get_or (set fr n false) m false))
stale_keep fr n h sl m safe t = go (ℕ_discrete m n)
  where
    sure : (a b c : Bool) (d : Bool) → (T c → T a) → T (a || (b || c)) → T (a || (b || d))
    sure true b c d f u = tt
    sure false true c d f u = tt
    sure false false c d f u = absurd (f u)

    go : Dec (m ≡ n) → T (h || (sl || get_or (set fr n false) m false))
    go (yes z) = sure h sl (get_or fr m false) (get_or (set fr n false) m false) (λ u. safe z (rw z at u)) t
    go (no z) = rw (get_or-set_other fr n m false false z) t

module _ (e : Setting) (home : List ℕ) (wf : Sixteen e) (rest : List (List ℕ)) where
  -- `preserve` does that
  pub preserve_saved : (locked : List ℕ) (s : State) → Good e home s → (h : ℕ) → ((n : ℕ) → h ≡ suc n → n < length e.origins)
      → Post (Unit {0}) (Saved e home rest locked h s) (preserve e rest locked s h)
  preserve_saved locked s g zero ln =
      record {
        good = g;
        keeps = record { keep = λ m t. t; lock = λ m q h t. h };
        only = λ m q h. inr h;
        grow = omega arith;
        fresh = refl;
        safe = λ n q. absurd
            (omega arith);
      }
  preserve_saved locked s g (suc n) ln = go (is_fresh s n && read_later rest n) refl
    where
      go : (b : Bool) → (is_fresh s n && read_later rest n) ≡ b → Post (Unit {0}) (Saved e home rest locked (suc n) s) (preserve_if b e rest n locked s)
      go false q =
          record {
            good = g;
            keeps = record { keep = λ m t. t; lock = λ m q h t. h };
            only = λ m q h. inr h;
            grow = omega arith;
            fresh = refl;
            safe = λ m z t u. absurd (rw q at (and_both (is_fresh s n) (read_later rest n) (rw (suc_inj z) u) (rw (suc_inj z) t)));
          }
      go true q =
          post_bind (Unit {0}) (Fetched e home n locked s) (Saved e home rest locked (suc n) s) (fetch e rest n locked s) _
          (fetch_fetched e home wf rest n locked s g (ln n refl)) (λ t k.
          record {
            good = k.good;
            keeps = k.keeps;
            only = λ m q h. sc m q (k.only m q h);
            grow = k.grow;
            fresh = k.fresh;
            safe = λ m z u v. rw (← (suc_inj z), k.held) tt;
          })
        where
          sc : (m q : ℕ) → (m ≡ n) ⊎ (register_of s m ≡ suc q) → (suc m ≡ suc n) ⊎ (register_of s m ≡ suc q)
          sc m q (inl z) = inl (ap suc z)
          sc m q (inr z) = inr z

  -- what is lost when memory is overwritten: what was fresh there and nowhere else
  pub record Staled (h : ℕ) (s s' : State) : Type 0 where
    pub good : Good e home s → Good e home s'
    pub holder : s'.holder ≡ s.holder
    pub steps : s'.steps ≡ s.steps
    pub keep : (m : ℕ) → ((n : ℕ) → h ≡ suc n → m ≡ n → T (is_fresh s n) → T (is_some (register_of s m))) → T (avail s m) → T (avail s' m)

  stale_src : (s : State) (n : ℕ) → Good e home s → (m : ℕ) → T (get_or (set s.fresh n false) m false) → T (has_origin (origin_at e.origins m))
  stale_src s n g m t = go (ℕ_discrete m n)
    where
      off : (l : List Bool) (n : ℕ) → get_or (set l n false) n false ≡ false
      off [] n = refl
      off (x ∷ xs) zero = refl
      off (x ∷ xs) (suc n) = off xs n

      go : Dec (m ≡ n) → T (has_origin (origin_at e.origins m))
      go (yes z) = absurd (rw (z, off s.fresh n) at t)
      go (no z) = g.src m (rw (get_or-set_other s.fresh n m false false z) at t)

  -- `stale` does that
  pub stales : (h : ℕ) (s : State) → Staled h s (stale h s)
  unfolding stale
  stales zero s = record { good = λ g. g; holder = refl; steps = refl; keep = λ m f t. t }
  stales (suc n) s =
      record {
        good =
            λ g. record {
              registers = g.registers;
              slots = g.slots;
              holders = g.holders;
              owners = g.owners;
              spilleds = g.spilleds;
              freshes = rw length-set
                  g.freshes;
              src = stale_src s n g;
              held = g.held;
            };
        holder = refl;
        steps = refl;
        keep = λ m f t. stale_keep s.fresh n (is_some (register_of s m)) (is_some (slot_of s m)) m (λ z u. f n refl z u) t;
      }

module _ (e : Setting) (home : List ℕ) (wf : Sixteen e) (done : List ℕ) (rest : List (List ℕ)) where
  -- A STORE
  pub store_next : (reads : List ℕ) (c i₀ : ℕ) (s : State) (g : TakenAll) → Invariant e home done (reads ∷ rest) s → ReadsOk e done reads
      → ((n : ℕ) → home_of e.origins (home_code c) i₀ ≡ suc n → (n < length e.origins) × T (known e done n))
      → FetchedAll e home [] reads s g
      → Post (Unit {0}) (Next e home done rest (2 * length reads + 3) s) (run_store e rest reads c i₀ g)
  unfolding run_store
  store_next reads c i₀ s g i rd hh f =
      let h : ℕ = home_of e.origins (home_code c) i₀ in
      post_bind (Unit {0}) (Saved e home rest g.registers h g.state) (Next e home done rest (2 * length reads + 3) s)
      (preserve e rest g.registers g.state h) _
      (preserve_saved e home wf rest g.registers g.state f.good h (λ n q. (hh n q).0))
      (λ t k. last h t k hh (store_action c i₀ (get_or g.registers 0 0)))
    where
      last : (h : ℕ) (t : State) → Saved e home rest g.registers h g.state t → ((n : ℕ) → h ≡ suc n → (n < length e.origins) × T (known e done n))
          → (x : Action)
          → Next e home done rest (2 * length reads + 3) s (release_all e rest reads (stale h (emit x t)))
      last h t k hh x =
          let a : State = emit x t in
          let b : Brought t a = brought_emit x t in
          let u : State = stale h a in
          let z : Staled e home wf rest h a u = stales e home wf rest h a in
          let l : Good e home (release_all e rest reads u) × Let rest u (release_all e rest reads u) = release_all_let
          e home wf rest reads u (z.good (b.good e home k.good)) in
          record {
            inv =
                record {
                  good = l.0;
                  ready = λ m y w.
                      l.1.keep m y (z.keep m
                      (λ n q mn v. rw (b.holder, mn) (k.safe n q (rw mn at y) (rw (b.fresh, k.fresh) at v)))
                      ((keeps_brought [] t a b).keep m (k.keeps.keep m (f.keep m (i.ready m (or_second (member m reads) (read_later rest m) y) w)))));
                  held = λ m q v. heldk m q (k.only m q (rw (z.holder, b.holder) at (l.1.only m q v)));
                };
            grow = rw (l.1.steps, z.steps) (omega (arith, b.grow, k.grow, f.grow));
          }
        where
          heldk : (m q : ℕ) → (suc m ≡ h) ⊎ (register_of g.state m ≡ suc q) → T (known e done m)
          heldk m q (inl w) = (hh m (sym w)).1
          heldk m q (inr w) = fetched_known e home wf done rest reads s g i rd f m q w
