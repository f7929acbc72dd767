-- An operation's reads are fetched, what dies is released, the result has a register. Assumes nothing.
use Rattle.std.proofs.Common.{sym, subst, ◌∙◌, set-set, eqb→eq}
use Rattle.std.specs.Prelude.{◌≡◌, ◌≢◌, ◌⊎◌, Bool, ◌||◌, not, set, eqb}
use Rattle.std.proofs.Math.Path.{refl}
use Rattle.std.proofs.Math.Logic.{inl, inr}
use Rattle.std.proofs.Math.Bool.{false, true}
use mathlib.Core.List.{List, [], ◌++◌, ◌∷◌, append-nil}
use Prim.Native.Nat.{◌*◌, ◌+◌, ◌<◌, ◌≤◌, pred, suc, zero, ℕ}
use native.Mathlib.Omega.{arith}
use Rattle.std.proofs.Math.Decide.{ℕ_discrete}
use Rattle.std.proofs.Math.ListN.{get_or, length, length-set}
use Rattle.std.proofs.Math.Seq.{append_snoc, get_or-set_other, get_or-set_same}
use Rattle.std.proofs.Math.Dec.{T, eqb_refl}
use Rattle.std.proofs.lemmas.Bool.{not-true}
use Rattle.tables.specs.Tests.{or_pass}
use Rattle.plan.specs.Lists.{member, first_of, is_some}
use Rattle.plan.specs.TestLaws.{or_first, or_second}
use Rattle.plan.specs.ListLaws.{first_some}
use Rattle.allocate.specs.State.{Allocated, allocated, all_locked, Setting, State, Taken, TakenAll, register_of, owner_of, reloadable, release, lend}
use Rattle.allocate.specs.Allocator.{take_register, fetch, fetch_all, release_if, release_all, read_later, result_register}
use Rattle.allocate.specs.Outcomes.{Post, post_bind}
use Rattle.allocate.specs.Invariants.{regs_place, regs_vacate, some_lt}
use Rattle.allocate.specs.StateLaws.{Good, avail, Sixteen, Keeps, good_release, unset, was_set, suc_is}
use Rattle.allocate.specs.FetchLaws.{Took, take_took, Fetched, fetch_fetched}

-- node by node, the registers that hold them
abbrev pub Holds : State → List ℕ → List ℕ → Type 0
Holds s [] [] = Unit {0}
Holds s [] (r ∷ rs) = ⊥
Holds s (n ∷ ns) [] = ⊥
Holds s (n ∷ ns) (r ∷ rs) = (register_of s n ≡ suc r) × Holds s ns rs

holds_snoc : (s : State) (ns rs : List ℕ) (n r : ℕ) → Holds s ns rs → register_of s n ≡ suc r → Holds s (ns ++ (n ∷ [])) (rs ++ (r ∷ []))
holds_snoc s [] [] n r h q = (q, tt)
holds_snoc s [] (x ∷ rs) n r h q = absurd h
holds_snoc s (m ∷ ns) [] n r h q = absurd h
holds_snoc s (m ∷ ns) (x ∷ rs) n r h q = (h.0, holds_snoc s ns rs n r h.1 q)

member_skip : (q x : ℕ) (xs : List ℕ) → T (member q xs) → T (member q (x ∷ xs))
member_skip q x xs t = or_second (eqb q x) (member q xs) t

-- locked registers keep what they hold
holds_keep : (locked : List ℕ) (s s' : State) → Keeps locked s s' → (ns rs : List ℕ) → ((q : ℕ) → T (member q rs) → T (member q locked)) → Holds s ns rs
    → Holds s' ns rs
holds_keep locked s s' k [] [] sub h = tt
holds_keep locked s s' k [] (x ∷ rs) sub h = h
holds_keep locked s s' k (n ∷ ns) [] sub h = h
holds_keep locked s s' k (n ∷ ns) (r ∷ rs) sub h =
    (k.lock n r h.0 (sub r (or_first (eqb r r) (member r rs) (eqb_refl r))), holds_keep locked s s' k ns rs (λ q t. sub q (member_skip q r rs t)) h.1)

-- each of them is held
pub holds_at : (s : State) (ns rs : List ℕ) (n : ℕ) → Holds s ns rs → T (member n ns) → (r : ℕ) × (register_of s n ≡ suc r)
holds_at s [] [] n h t = absurd t
holds_at s [] (x ∷ rs) n h t = absurd t
holds_at s (m ∷ ns) [] n h t = absurd h
holds_at s (m ∷ ns) (r ∷ rs) n h t = go (or_pass (eqb n m) (member n ns) t) (λ u. holds_at s ns rs n h.1 u)
  where
    go : T (eqb n m) ⊎ T (member n ns) → (T (member n ns) → (r : ℕ) × (register_of s n ≡ suc r)) → (r : ℕ) × (register_of s n ≡ suc r)
    go (inl u) ih = (r, rw (eqb→eq n m u) h.0)
    go (inr u) ih = ih u

-- what the fetches of `ns` leave, behind those of `ds`: all are held, two steps each at most, none where all were held
pub record FetchedAll (e : Setting) (home : List ℕ) (ds ns : List ℕ) (s : State) (g : TakenAll) : Type 0 where
  pub good : Good e home g.state
  pub held : Holds g.state (ds ++ ns) g.registers
  pub keep : (m : ℕ) → T (avail s m) → T (avail g.state m)
  pub grow : length g.state.steps ≤ length s.steps + 2 * length ns
  pub only : (m q : ℕ) → register_of g.state m ≡ suc q → T (member m ns) ⊎ (register_of s m ≡ suc q)
  pub fresh : g.state.fresh ≡ s.fresh
  pub quiet : ((m : ℕ) → T (member m ns) → T (is_some (register_of s m))) → g.state ≡ s

module _ (e : Setting) (home : List ℕ) (wf : Sixteen e) where
  -- THE FETCHES of a task
  pub fetch_all_fetched : (rest : List (List ℕ)) (ns ds locked : List ℕ) (s : State) → Good e home s → ((m : ℕ) → T (member m ns) → m < length e.origins)
      → Holds s ds locked
      → Post (Unit {0}) (FetchedAll e home ds ns s) (fetch_all e rest ns locked s)
  unfolding fetch_all
  fetch_all_fetched rest [] ds locked s g ln h =
      record { good = g; held = rw append-nil h; keep = λ m t. t; grow = omega arith; only = λ m q h. inr h; fresh = refl; quiet = λ h. refl }
  fetch_all_fetched rest (n ∷ ns) ds locked s g ln h =
      post_bind (Unit {0}) (Fetched e home n locked s) (FetchedAll e home ds (n ∷ ns) s) (fetch e rest n locked s) _
      (fetch_fetched e home wf rest n locked s g (ln n (or_first (eqb n n) (member n ns) (eqb_refl n))))
      (λ t k.
      let ds' : List ℕ = ds ++ (n ∷ []) in
      let lk' : List ℕ = locked ++ (t.register ∷ []) in
      weaken t k (fetch_all e rest ns lk' t.state)
      (fetch_all_fetched rest ns ds' lk' t.state k.good (λ m u. ln m (member_skip m n ns u))
      (holds_snoc t.state ds locked n t.register (holds_keep locked s t.state k.keeps ds locked (λ q u. u) h) k.held)))
    where
      one : (t : Taken) → Fetched e home n locked s t → (u : TakenAll) → FetchedAll e home (ds ++ (n ∷ [])) ns t.state u → FetchedAll e home ds (n ∷ ns) s u
      one t k u f =
          record {
            good = f.good;
            held = rw (append_snoc ds n ns) at f.held;
            keep = λ m v. f.keep m (k.keeps.keep m v);
            grow = omega (arith, f.grow, k.grow);
            only = λ m q v. pick m q (f.only m q v);
            fresh = f.fresh ∙ k.fresh;
            quiet = λ h.
                let same : t.state ≡ s = k.still (pred (register_of s n)) (suc_is (register_of s n) (h n (or_first (eqb n n) (member n ns) (eqb_refl n)))) in
                f.quiet (λ m v. rw same (h m (member_skip m n ns v))) ∙ same;
          }
        where
          pick₂ : (m q : ℕ) → (m ≡ n) ⊎ (register_of s m ≡ suc q) → T (member m (n ∷ ns)) ⊎ (register_of s m ≡ suc q)
          pick₂ m q (inl z) = inl (subst (λ (j : ℕ). T (member j (n ∷ ns))) (sym z) (or_first (eqb n n) (member n ns) (eqb_refl n)))
          pick₂ m q (inr z) = inr z

          pick : (m q : ℕ) → T (member m ns) ⊎ (register_of t.state m ≡ suc q) → T (member m (n ∷ ns)) ⊎ (register_of s m ≡ suc q)
          pick m q (inl z) = inl (member_skip m n ns z)
          pick m q (inr z) = pick₂ m q (k.only m q z)

      weaken : (t : Taken) → Fetched e home n locked s t → (x : Allocated TakenAll) → Post (Unit {0}) (FetchedAll e home (ds ++ (n ∷ [])) ns t.state) x
          → Post (Unit {0}) (FetchedAll e home ds (n ∷ ns) s) x
      weaken t k (allocated u) f = one t k u f
      weaken t k all_locked f = tt

-- ---- releases

-- what releases leave: nothing that is read later is lost
pub record Let (rest : List (List ℕ)) (s s' : State) : Type 0 where
  pub keep : (m : ℕ) → T (read_later rest m) → T (avail s m) → T (avail s' m)
  pub hold : (m : ℕ) → T (read_later rest m) → register_of s' m ≡ register_of s m
  pub only : (m q : ℕ) → register_of s' m ≡ suc q → register_of s m ≡ suc q
  pub steps : s'.steps ≡ s.steps
  pub fresh : s'.fresh ≡ s.fresh

module _ (e : Setting) (home : List ℕ) (wf : Sixteen e) (rest : List (List ℕ)) where
  released : (n : ℕ) (s : State) → read_later rest n ≡ false → Let rest s (release e n s)
  unfolding release
  released n s l =
      let off : (m : ℕ) → T (read_later rest m) → m ≢ n = λ m t z. (rw l at (rw z at t)) in
      record {
        keep = λ m t h. rw (get_or-set_other s.holder n m 0 0 (off m t), get_or-set_other s.spilled n m 0 0 (off m t)) h;
        hold = λ m t. get_or-set_other s.holder n m 0 0 (off m t);
        only = λ m q h. unset s.holder n m q h;
        steps = refl;
        fresh = refl;
      }

  -- THE RELEASES of a task
  pub release_all_let : (ns : List ℕ) (s : State) → Good e home s → Good e home (release_all e rest ns s) × Let rest s (release_all e rest ns s)
  unfolding release_all
  release_all_let [] s g = (g, record { keep = λ m t h. h; hold = λ m t. refl; only = λ m q h. h; steps = refl; fresh = refl })
  release_all_let (n ∷ ns) s g = go (read_later rest n) refl (λ s' g'. release_all_let ns s' g')
    where
      go : (b : Bool) → read_later rest n ≡ b → ((s' : State) → Good e home s' → Good e home (release_all e rest ns s') × Let rest s' (release_all e rest ns s'))
          → Good e home (release_all e rest ns (release_if b e n s)) × Let rest s (release_all e rest ns (release_if b e n s))
      go true q ih = ih s g
      go false q ih =
          let a : Let rest s (release e n s) = released n s q in
          let b : Good e home (release_all e rest ns (release e n s)) × Let rest (release e n s) (release_all e rest ns (release e n s)) = ih (release e n s)
          (good_release e home wf n s g) in (
            b.0,
            record {
              keep = λ m t h. b.1.keep m t (a.keep m t h);
              hold = λ m t. b.1.hold m t ∙ a.hold m t;
              only = λ m q h. a.only m q (b.1.only m q h);
              steps = b.1.steps ∙ a.steps;
              fresh = b.1.fresh ∙ a.fresh;
            },
          )

-- ---- a result's register

-- what a result's register leaves: the result is held, at most one step was added, nothing that is read later is lost
pub record Aimed (e : Setting) (home : List ℕ) (rest : List (List ℕ)) (n : ℕ) (s : State) (t : Taken) : Type 0 where
  pub good : Good e home t.state
  pub held : register_of t.state n ≡ suc t.register
  pub keep : (m : ℕ) → T (read_later rest m) → T (avail s m) → T (avail t.state m)
  pub only : (m q : ℕ) → register_of t.state m ≡ suc q → (m ≡ n) ⊎ (register_of s m ≡ suc q)
  pub grow : length t.state.steps ≤ length s.steps + 1
  pub fresh : t.state.fresh ≡ s.fresh

module _ (e : Setting) (home : List ℕ) (wf : Sixteen e) (rest : List (List ℕ)) where
  lends : (r d n : ℕ) (s : State) → Good e home s → register_of s d ≡ suc r → register_of s n ≡ 0 → n < length e.origins → read_later rest d ≡ false
      → Aimed e home rest n s (record { register = r; state = lend r d n s })
  unfolding lend
  lends r d n s g hd hn ln dead =
      let o : owner_of s r ≡ suc d = g.registers.down d r hd in
      let lo : r < length s.owner = some_lt s.owner r d o in
      let nd : n ≢ d = λ (z : n ≡ d). let y : register_of s d ≡ 0 = rw z at hn in omega arith in
      let lh : n < length (set s.holder d 0) = rw length-set (omega (arith, g.holders)) in
      let h0 : get_or (set s.holder d 0) n 0 ≡ 0 = get_or-set_other s.holder d n 0 0 nd ∙ hn in
      record {
        good =
            record {
              registers =
                  rw (set-set s.owner r 0 (suc n)) at
                  (regs_place e.registers (set s.holder d 0) (set s.owner r 0) (regs_vacate e.registers s.holder s.owner g.registers d r o) n r
                  (get_or-set_same s.owner r 0 0 lo) h0 lh (rw length-set lo) (g.registers.inside d r o));
              slots = g.slots;
              holders = rw (length-set, length-set) g.holders;
              owners = rw length-set g.owners;
              spilleds = g.spilleds;
              freshes = g.freshes;
              src = g.src;
              held = g.held;
            };
        held = get_or-set_same (set s.holder d 0) n (suc r) 0 lh;
        keep = λ m t. keep m t (ℕ_discrete m n) lh;
        only = λ m q h. older m q (was_set (set s.holder d 0) n (suc r) m q h);
        grow = omega arith;
        fresh = refl;
      }
    where
      keep : (m : ℕ) → T (read_later rest m) → Dec (m ≡ n) → n < length (set s.holder d 0) → T (avail s m)
          → T (is_some (get_or (set (set s.holder d 0) n (suc r)) m 0) || reloadable s m)
      keep m t (yes z) lh a = rw (z, get_or-set_same (set s.holder d 0) n (suc r) 0 lh) tt
      keep m t (no z) lh a =
          let md : m ≢ d = λ (y : m ≡ d). rw dead at (rw y at t) in
          rw (get_or-set_other (set s.holder d 0) n m (suc r) 0 z, get_or-set_other s.holder d m 0 0 md) a

      older : (m q : ℕ) → (m ≡ n) ⊎ (get_or (set s.holder d 0) m 0 ≡ suc q) → (m ≡ n) ⊎ (register_of s m ≡ suc q)
      older m q (inl z) = inl z
      older m q (inr z) = inr (unset s.holder d m q z)

  -- A RESULT'S REGISTER, lent or taken
  pub target_aimed : (n : ℕ) (reads : List ℕ) (g : TakenAll) → Good e home g.state → Holds g.state reads g.registers → register_of g.state n ≡ 0
      → n < length e.origins
      → Post (Unit {0}) (Aimed e home rest n g.state) (result_register e rest n g.registers g.state (first_of (λ d. not (read_later rest d)) reads))
  target_aimed n reads g gd hs hn ln = go (first_of (λ d. not (read_later rest d)) reads) refl
    where
      took : (x : Allocated Taken) → Post (Unit {0}) (Took e home n g.registers g.state) x → Post (Unit {0}) (Aimed e home rest n g.state) x
      took (allocated t) k = record { good = k.good; held = k.held; keep = λ m u. k.keeps.keep m; only = k.only; grow = k.grow; fresh = k.fresh }
      took all_locked k = tt

      go : (f : ℕ) → first_of (λ d. not (read_later rest d)) reads ≡ f
          → Post (Unit {0}) (Aimed e home rest n g.state) (result_register e rest n g.registers g.state f)
      go zero q = took (take_register e rest n g.registers g.state) (take_took e home wf rest n g.registers g.state gd hn ln)
      go (suc d) q =
          let p : T (member d reads) × (not (read_later rest d) ≡ true) = first_some (λ d. not (read_later rest d)) reads d q in
          let h : (r : ℕ) × (register_of g.state d ≡ suc r) = holds_at g.state reads g.registers d hs p.0 in
          let hd : register_of g.state d ≡ suc (pred (register_of g.state d)) = suc_is (register_of g.state d) (rw h.1 tt) in
          lends (pred (register_of g.state d)) d n g.state gd hd hn ln (not-true (read_later rest d) p.1)
