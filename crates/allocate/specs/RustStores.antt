-- codegen.rs: `preserve` and the loop after a store as they are written: they visit every node. Repeated loads share the first node, so one visit does. Assumes
-- nothing.
use Rattle.std.proofs.Common.{◌∙◌, sym, inl, inr, arith, get_or-set_other, eqb→eq}
use Rattle.std.specs.Prelude.{◌≡◌, refl, ◌≢◌, ◌⊎◌, Bool, ◌&&◌, cond, false, true, List, [], ◌++◌, ◌∷◌, ◌+◌, ◌<◌, ◌≤◌, suc, zero, ℕ, get_or, length, set, T, eqb}
use Rattle.std.proofs.Math.Decide.{ℕ_discrete}
use Rattle.std.proofs.Math.Dec.{eqb_refl}
use denote.Floats.{is_true}
use Rattle.tables.specs.Tests.{or_pass}
use Rattle.plan.specs.Lists.{member, count_up}
use Rattle.plan.specs.Origins.{Origin, is_load, origin_at, home_of}
use Rattle.plan.specs.Schedule.{Task, task_reads}
use Rattle.plan.specs.TestLaws.{or_first, or_second, and_both}
use Rattle.plan.specs.OriginLaws.{home_known, is_load_lem, home_origin}
use Rattle.allocate.specs.State.{Allocated, allocated, all_locked, and_then, Setting, State, Taken, is_fresh, stale}
use Rattle.allocate.specs.Allocator.{read_later, fetch, preserve_if, preserve, reads_of}
use Rattle.allocate.specs.RustAllocator.{hide_loads}
use Rattle.allocate.specs.Canonical.{Canonical, off_at, reads_canonical}

-- ---- `preserve`

-- fetch node n, if asked to, and lock its register; then go on
abbrev pub visit : Bool → Setting → List (List ℕ) → ℕ → List ℕ → State → (List ℕ → State → Allocated State) → Allocated State
visit false e rest n locked s k = k locked s
visit true e rest n locked s k = and_then (fetch e rest n locked s) (λ g. k (locked ++ (g.register ∷ [])) g.state)

-- every node whose value is the load of code c and index i, fresh and still to be read, is fetched
abbrev pub preserve_all : Setting → List (List ℕ) → ℕ → ℕ → List ℕ → State → List ℕ → Allocated State
preserve_all e rest c i locked s [] = allocated s
preserve_all e rest c i locked s (n ∷ ns) =
    visit (is_load c i (origin_at e.origins n) && (is_fresh s n && read_later rest n)) e rest n locked s (λ l t. preserve_all e rest c i l t ns)

-- what is still to be read is its source's first node
abbrev pub OwnReads : Setting → List (List ℕ) → Type 0
OwnReads e rest = (m : ℕ) → T (read_later rest m) → Canonical e m

-- it is so for the reads of ops
pub own_reads : (e : Setting) (os : List Task) → OwnReads e (reads_of e os)
unfolding reads_of
own_reads e [] m t = absurd t
own_reads e (o ∷ os) m t = go (or_pass (member m (task_reads e.nodes e.origins o)) (read_later (reads_of e os) m) t) (own_reads e os m)
  where
    go : T (member m (task_reads e.nodes e.origins o)) ⊎ T (read_later (reads_of e os) m) → (T (read_later (reads_of e os) m) → Canonical e m) → Canonical e m
    go (inl u) ih = reads_canonical e o m u
    go (inr u) ih = ih u

module _ (e : Setting) (rest : List (List ℕ)) (own : OwnReads e rest) (c i : ℕ) where
  -- a node that is not the first is passed by
  pass_by : (s : State) (m : ℕ) → (home_of e.origins c i ≡ suc m → ⊥) → (is_load c i (origin_at e.origins m) && (is_fresh s m && read_later rest m)) ≡ false
  pass_by s m no-home =
      go (is_load c i (origin_at e.origins m)) (is_fresh s m) (read_later rest m) (λ t u. no-home (own m u c i (is_load_lem c i (origin_at e.origins m) t)))
    where
      go : (a f l : Bool) → (T a → T l → ⊥) → (a && (f && l)) ≡ false
      go true true true h = absurd (h tt tt)
      go true true false h = refl
      go true false l h = refl
      go false f l h = refl

  skips : (ns locked : List ℕ) (s : State) → ((m : ℕ) → T (member m ns) → home_of e.origins c i ≡ suc m → ⊥) → preserve_all e rest c i locked s ns ≡ allocated s
  skips [] locked s h = refl
  skips (n ∷ ns) locked s h =
      rw (pass_by s n (h n (or_first (eqb n n) (member n ns) (eqb_refl n)))) (skips ns locked s (λ m t. h m (or_second (eqb m n) (member m ns) t)))

  up_ge : (k l m : ℕ) → T (member m (count_up k l)) → k ≤ m
  up_ge k zero m t = absurd t
  up_ge k (suc l) m t = go (or_pass (eqb m k) (member m (count_up (suc k) l)) t) (up_ge (suc k) l m)
    where
      go : T (eqb m k) ⊎ T (member m (count_up (suc k) l)) → (T (member m (count_up (suc k) l)) → suc k ≤ m) → k ≤ m
      go (inl u) ih = let z : m ≡ k = eqb→eq m k u in omega arith
      go (inr u) ih = omega (arith, ih u)

  bind_same : (x : Allocated Taken) (f : Taken → Allocated State) → ((g : Taken) → f g ≡ allocated g.state) → and_then x f ≡ and_then x (λ g. allocated g.state)
  bind_same (allocated g) f h = h g
  bind_same all_locked f h = refl

  finds_home : (n : ℕ) → home_of e.origins c i ≡ suc n → (k l : ℕ) (locked : List ℕ) (s : State) → k ≤ n → n < k + l
      → preserve_all e rest c i locked s (count_up k l) ≡ preserve_if (is_fresh s n && read_later rest n) e rest n locked s
  finds_home n q k zero locked s h g = absurd (omega arith)
  finds_home n q k (suc l) locked s h g = go (ℕ_discrete k n) (λ h'. finds_home n q (suc k) l locked s h' (omega arith))
    where
      is : is_load c i (origin_at e.origins n) ≡ true
      is = rw (home_origin e.origins c i n q) (is_true (eqb c c && eqb i i) (and_both (eqb c c) (eqb i i) (eqb_refl c) (eqb_refl i)))

      none_left : (lk : List ℕ) (t : State) → preserve_all e rest c i lk t (count_up (suc n) l) ≡ allocated t
      none_left lk t = skips (count_up (suc n) l) lk t (λ m u p. omega (arith, up_ge (suc n) l m u, p, q))

      two_operands : (b : Bool) → visit (true && b) e rest n locked s (λ lk t. preserve_all e rest c i lk t (count_up (suc n) l)) ≡ preserve_if b e rest n locked s
      two_operands true =
          bind_same (fetch e rest n locked s) (λ g. preserve_all e rest c i (locked ++ (g.register ∷ [])) g.state (count_up (suc n) l))
          (λ g. none_left (locked ++ (g.register ∷ [])) g.state)
      two_operands false = none_left locked s

      go : Dec (k ≡ n) → (suc k ≤ n → preserve_all e rest c i locked s (count_up (suc k) l) ≡ preserve_if (is_fresh s n && read_later rest n) e rest n locked s)
          → preserve_all e rest c i locked s (k ∷ count_up (suc k) l) ≡ preserve_if (is_fresh s n && read_later rest n) e rest n locked s
      go (yes z) ih = rw (z, is) (two_operands (is_fresh s n && read_later rest n))
      go (no z) ih = rw (pass_by s k (λ p. z (omega (arith, p, q)))) (ih (omega arith))

  -- `preserve` as it is written is the preserve of the allocator
  pub preserve_same : (locked : List ℕ) (s : State)
      → preserve_all e rest c i locked s (count_up 0 (length e.origins)) ≡ preserve e rest locked s (home_of e.origins c i)
  preserve_same locked s = go (home_of e.origins c i) refl
    where
      go : (h : ℕ) → home_of e.origins c i ≡ h → preserve_all e rest c i locked s (count_up 0 (length e.origins)) ≡ preserve e rest locked s h
      go zero q = skips (count_up 0 (length e.origins)) locked s (λ m t p. omega (arith, p, q))
      go (suc n) q = finds_home n q 0 (length e.origins) locked s (omega arith) (omega (arith, (home_known e.origins c i n q).0))

-- ---- the loop after a store

-- flag m afterwards
pub hide_at : (c i : ℕ) (xs : List Origin) (fs : List Bool) (m : ℕ) → get_or (hide_loads c i xs fs) m false ≡ cond (is_load c i (origin_at xs m)) false (get_or fs m false)
hide_at c i xs [] m = go (is_load c i (origin_at xs m))
  where
    go : (b : Bool) → false ≡ cond b false false
    go true = refl
    go false = refl
hide_at c i [] (f ∷ fs) m = refl
hide_at c i (x ∷ xs) (f ∷ fs) zero = refl
hide_at c i (x ∷ xs) (f ∷ fs) (suc m) = hide_at c i xs fs m

-- it agrees with the allocator's on every node that can be read: a source's first node, or one with no load
pub stale_agrees : (e : Setting) (c i : ℕ) (s : State) (m : ℕ) → Canonical e m
    → get_or (hide_loads c i e.origins s.fresh) m false ≡ is_fresh (stale (home_of e.origins c i) s) m
unfolding stale
stale_agrees e c i s m own = hide_at c i e.origins s.fresh m ∙ go (home_of e.origins c i) refl
  where
    miss : (h : ℕ) → home_of e.origins c i ≡ h → h ≢ suc m → is_load c i (origin_at e.origins m) ≡ false
    miss h q ne = no_load (is_load c i (origin_at e.origins m)) (λ t. ne (sym q ∙ own c i (is_load_lem c i (origin_at e.origins m) t)))
      where
        no_load : (b : Bool) → (T b → ⊥) → b ≡ false
        no_load true f = absurd (f tt)
        no_load false f = refl

    go : (h : ℕ) → home_of e.origins c i ≡ h → cond (is_load c i (origin_at e.origins m)) false (is_fresh s m) ≡ is_fresh (stale h s) m
    go zero q = rw (miss 0 q (λ (z : 0 ≡ suc m). omega arith))
    go (suc n) q = at (ℕ_discrete m n)
      where
        at : Dec (m ≡ n) → cond (is_load c i (origin_at e.origins m)) false (is_fresh s m) ≡ get_or (set s.fresh n false) m false
        at (yes z) =
            let is : is_load c i (origin_at e.origins n) ≡ true = rw (home_origin e.origins c i n q)
            (is_true (eqb c c && eqb i i) (and_both (eqb c c) (eqb i i) (eqb_refl c) (eqb_refl i))) in
            rw (z, is, off_at s.fresh n)
        at (no z) = rw (miss (suc n) q (λ (y : suc n ≡ suc m). z (omega arith)), get_or-set_other s.fresh n m false false z)
