-- The allocator's invariant on its tables of registers and of slots. Assumes nothing.
use Rattle.std.proofs.Common.{◌∙◌, ap, sym, inl, inr, arith, get_or-set_other, get_or-set_same, eqb→eq, leb→le}
use Rattle.std.specs.Prelude.{◌≡◌, refl, ◌≢◌, ◌⊎◌, Bool, cond, false, true, List, [], ◌∷◌, ◌<◌, ◌≤◌, suc, zero, ℕ, get_or, length, set, T, eqb, leb}
use Rattle.std.proofs.Math.Nat.{suc_inj}
use Rattle.std.proofs.Math.Dec.{eqb_refl}
use Rattle.tables.specs.Tests.{or_pass}
use Rattle.tables.specs.Stores.{set_says}
use Rattle.plan.specs.Lists.{member}
use Rattle.plan.specs.TestLaws.{or_first, or_second}
use Rattle.allocate.specs.State.{give_back, disown}

-- ---- tables of 0 or n+1

-- an entry that is not 0 is inside
pub some_lt : (l : List ℕ) (i x : ℕ) → get_or l i 0 ≡ suc x → i < length l
some_lt [] i x h = absurd (omega arith)
some_lt (y ∷ ys) zero x h = omega arith
some_lt (y ∷ ys) (suc i) x h = omega (arith, some_lt ys i x h)

-- ---- registers

-- `holder` and `owner` say the same, and only usable registers are owned
pub record Regs (registers holder owner : List ℕ) : Type 0 where
  pub down : (n r : ℕ) → get_or holder n 0 ≡ suc r → get_or owner r 0 ≡ suc n
  pub up : (n r : ℕ) → get_or owner r 0 ≡ suc n → get_or holder n 0 ≡ suc r
  pub inside : (n r : ℕ) → get_or owner r 0 ≡ suc n → T (member r registers)

module _ (registers holder owner : List ℕ) (i : Regs registers holder owner) where
  -- a free register takes a node that has none
  pub regs_place : (n r : ℕ) → get_or owner r 0 ≡ 0 → get_or holder n 0 ≡ 0 → n < length holder → r < length owner → T (member r registers)
      → Regs registers (set holder n (suc r)) (set owner r (suc n))
  regs_place n r hr hn ln lr mr =
      record {
        down = λ m q h. down m q (set_says holder n (suc r) m q h);
        up = λ m q h. up m q (set_says owner r (suc n) q m h);
        inside = λ m q h. inside m q (set_says owner r (suc n) q m h);
      }
    where
      down : (m q : ℕ) → ((m ≡ n) × (suc r ≡ suc q)) ⊎ ((m ≢ n) × (get_or holder m 0 ≡ suc q)) → get_or (set owner r (suc n)) q 0 ≡ suc m
      down m q (inl p) =
          let rq : r ≡ q = suc_inj p.1 in
          rw (← rq, p.0) (get_or-set_same owner r (suc n) 0 lr)
      down m q (inr p) =
          let o : get_or owner q 0 ≡ suc m = i.down m q p.1 in
          get_or-set_other owner r q (suc n) 0 (λ (e : q ≡ r). let z : get_or owner r 0 ≡ suc m = rw e at o in omega arith) ∙ o

      up : (m q : ℕ) → ((q ≡ r) × (suc n ≡ suc m)) ⊎ ((q ≢ r) × (get_or owner q 0 ≡ suc m)) → get_or (set holder n (suc r)) m 0 ≡ suc q
      up m q (inl p) =
          let nm : n ≡ m = suc_inj p.1 in
          rw (← nm, p.0) (get_or-set_same holder n (suc r) 0 ln)
      up m q (inr p) =
          let o : get_or holder m 0 ≡ suc q = i.up m q p.1 in
          get_or-set_other holder n m (suc r) 0 (λ (e : m ≡ n). let z : get_or holder n 0 ≡ suc q = rw e at o in omega arith) ∙ o

      inside : (m q : ℕ) → ((q ≡ r) × (suc n ≡ suc m)) ⊎ ((q ≢ r) × (get_or owner q 0 ≡ suc m)) → T (member q registers)
      inside m q (inl p) = rw p.0 mr
      inside m q (inr p) = i.inside m q p.1

  -- a register is given up
  pub regs_vacate : (n r : ℕ) → get_or owner r 0 ≡ suc n → Regs registers (set holder n 0) (set owner r 0)
  regs_vacate n r hr =
      record {
        down = λ m q h. down m q (set_says holder n 0 m q h);
        up = λ m q h. up m q (set_says owner r 0 q m h);
        inside = λ m q h. inside m q (set_says owner r 0 q m h);
      }
    where
      hn : get_or holder n 0 ≡ suc r
      hn = i.up n r hr

      down : (m q : ℕ) → ((m ≡ n) × (0 ≡ suc q)) ⊎ ((m ≢ n) × (get_or holder m 0 ≡ suc q)) → get_or (set owner r 0) q 0 ≡ suc m
      down m q (inl p) = absurd (omega arith)
      down m q (inr p) =
          let o : get_or owner q 0 ≡ suc m = i.down m q p.1 in
          get_or-set_other owner r q 0 0 (λ (e : q ≡ r). let z : get_or owner r 0 ≡ suc m = rw e at o in p.0 (omega arith)) ∙ o

      up : (m q : ℕ) → ((q ≡ r) × (0 ≡ suc m)) ⊎ ((q ≢ r) × (get_or owner q 0 ≡ suc m)) → get_or (set holder n 0) m 0 ≡ suc q
      up m q (inl p) = absurd (omega arith)
      up m q (inr p) =
          let o : get_or holder m 0 ≡ suc q = i.up m q p.1 in
          get_or-set_other holder n m 0 0 (λ (e : m ≡ n). let z : get_or holder n 0 ≡ suc q = rw e at o in p.0 (omega (arith, hn))) ∙ o

      inside : (m q : ℕ) → ((q ≡ r) × (0 ≡ suc m)) ⊎ ((q ≢ r) × (get_or owner q 0 ≡ suc m)) → T (member q registers)
      inside m q (inl p) = absurd (omega arith)
      inside m q (inr p) = i.inside m q p.1

  -- a node that has none gives up nothing
  regs_same : (n : ℕ) → get_or holder n 0 ≡ 0 → Regs registers (set holder n 0) owner
  regs_same n hn =
      record {
        down = λ m q h. down m q (set_says holder n 0 m q h);
        up =
            λ m q h. let o : get_or holder m 0 ≡ suc q = i.up m q h in get_or-set_other holder n m 0 0
            (λ (e : m ≡ n). let z : get_or holder n 0 ≡ suc q = rw e at o in omega arith) ∙ o;
        inside = i.inside;
      }
    where
      down : (m q : ℕ) → ((m ≡ n) × (0 ≡ suc q)) ⊎ ((m ≢ n) × (get_or holder m 0 ≡ suc q)) → get_or owner q 0 ≡ suc m
      down m q (inl p) = absurd (omega arith)
      down m q (inr p) = i.down m q p.1

  -- a node gives up its register, if it has one
  pub regs_release : (n : ℕ) → Regs registers (set holder n 0) (disown (get_or holder n 0) owner)
  regs_release n = go (get_or holder n 0) refl
    where
      go : (h : ℕ) → get_or holder n 0 ≡ h → Regs registers (set holder n 0) (disown h owner)
      go zero e = regs_same n e
      go (suc r) e = regs_vacate n r (i.down n r e)

-- ---- slots

-- no number twice
abbrev pub NoDup : List ℕ → Type 0
NoDup [] = Unit {0}
NoDup (x ∷ xs) = (T (member x xs) → ⊥) × NoDup xs

-- home: 0 or 1 + a hoisted value's own slot, below fixed
pub record Slots (home : List ℕ) (fixed : ℕ) (spilled free : List ℕ) (slots : ℕ) : Type 0 where
  pub below : (n k : ℕ) → get_or spilled n 0 ≡ suc k → k < slots
  pub apart : (n m k : ℕ) → get_or spilled n 0 ≡ suc k → get_or spilled m 0 ≡ suc k → n ≡ m
  pub own : (n k : ℕ) → get_or spilled n 0 ≡ suc k → k < fixed → get_or home n 0 ≡ suc k
  pub fixed_le : fixed ≤ slots
  pub free_in : (k : ℕ) → T (member k free) → (fixed ≤ k) × (k < slots)
  pub free_off : (n k : ℕ) → T (member k free) → get_or spilled n 0 ≡ suc k → ⊥
  pub free_once : NoDup free

module _ (home : List ℕ) (fixed : ℕ) (spilled free : List ℕ) (slots : ℕ) (i : Slots home fixed spilled free slots) where
  -- a slot that nothing has goes to n: a new one, or the last freed
  slots_put : (n k : ℕ) (free' : List ℕ) (slots' : ℕ) → fixed ≤ k → k < slots' → slots ≤ slots' → ((m : ℕ) → get_or spilled m 0 ≡ suc k → ⊥)
      → ((j : ℕ) → T (member j free') → T (member j free) × (j ≢ k)) → NoDup free' → Slots home fixed (set spilled n (suc k)) free' slots'
  slots_put n k free' slots' fk ks ss nobody fr once =
      record {
        below = λ m j h. below m j (set_says spilled n (suc k) m j h);
        apart = λ m l j h g. apart m l j (set_says spilled n (suc k) m j h) (set_says spilled n (suc k) l j g);
        own = λ m j h lt. own m j lt (set_says spilled n (suc k) m j h);
        fixed_le = omega (arith, i.fixed_le);
        free_in = λ j t. ((i.free_in j (fr j t).0).0, omega (arith, (i.free_in j (fr j t).0).1));
        free_off = λ m j t h. off m j t (set_says spilled n (suc k) m j h);
        free_once = once;
      }
    where
      Cases : ℕ → ℕ → Type 0
      Cases m j = ((m ≡ n) × (suc k ≡ suc j)) ⊎ ((m ≢ n) × (get_or spilled m 0 ≡ suc j))

      below : (m j : ℕ) → Cases m j → j < slots'
      below m j (inl p) = omega arith
      below m j (inr p) = omega (arith, i.below m j p.1)

      apart : (m l j : ℕ) → Cases m j → Cases l j → m ≡ l
      apart m l j (inl p) (inl q) = omega arith
      apart m l j (inl p) (inr q) = absurd (nobody l (q.1 ∙ sym p.1))
      apart m l j (inr p) (inl q) = absurd (nobody m (p.1 ∙ sym q.1))
      apart m l j (inr p) (inr q) = i.apart m l j p.1 q.1

      own : (m j : ℕ) → j < fixed → Cases m j → get_or home m 0 ≡ suc j
      own m j lt (inl p) = absurd (omega arith)
      own m j lt (inr p) = i.own m j p.1 lt

      off : (m j : ℕ) → T (member j free') → Cases m j → ⊥
      off m j t (inl p) = (fr j t).1 (omega arith)
      off m j t (inr p) = i.free_off m j (fr j t).0 p.1

  -- nothing is freed yet: a new slot
  pub slots_new : (n : ℕ) → free ≡ [] → Slots home fixed (set spilled n (suc slots)) [] (suc slots)
  slots_new n e =
      slots_put n slots [] (suc slots) i.fixed_le (omega arith) (omega arith)
      (λ m h. let lt : slots < slots = i.below m slots h in omega arith)
      (λ j t. absurd t)
      tt

  -- .. or the one freed last
  pub slots_reuse : (n k : ℕ) (ks : List ℕ) → free ≡ k ∷ ks → Slots home fixed (set spilled n (suc k)) ks slots
  slots_reuse n k ks e =
      let here : T (member k free) = rw e (or_first (eqb k k) (member k ks) (eqb_refl k)) in
      let once : NoDup (k ∷ ks) = rw e at i.free_once in
      slots_put n k ks slots (i.free_in k here).0 (i.free_in k here).1 (omega arith)
      (λ m h. i.free_off m k here h)
      (λ j t. (rw e (or_second (eqb j k) (member j ks) t), λ (q : j ≡ k). once.0 (rw q at t)))
      once.1

  -- a hoisted value's own slot now holds it
  pub slots_home : (n k : ℕ) → get_or home n 0 ≡ suc k → k < fixed → ((m l : ℕ) → get_or home m 0 ≡ suc k → get_or home l 0 ≡ suc k → m ≡ l)
      → Slots home fixed (set spilled n (suc k)) free slots
  slots_home n k hn lt inj =
      record {
        below = λ m j h. below m j (set_says spilled n (suc k) m j h);
        apart = λ m l j h g. apart m l j (set_says spilled n (suc k) m j h) (set_says spilled n (suc k) l j g);
        own = λ m j h l. own m j l (set_says spilled n (suc k) m j h);
        fixed_le = i.fixed_le;
        free_in = i.free_in;
        free_off = λ m j t h. off m j t (set_says spilled n (suc k) m j h);
        free_once = i.free_once;
      }
    where
      Cases : ℕ → ℕ → Type 0
      Cases m j = ((m ≡ n) × (suc k ≡ suc j)) ⊎ ((m ≢ n) × (get_or spilled m 0 ≡ suc j))

      below : (m j : ℕ) → Cases m j → j < slots
      below m j (inl p) = omega (arith, i.fixed_le)
      below m j (inr p) = i.below m j p.1

      clash : (m l j : ℕ) → suc k ≡ suc j → m ≡ n → get_or spilled l 0 ≡ suc j → m ≡ l
      clash m l j kj mn h =
          let hl : get_or home l 0 ≡ suc k = i.own l j h (omega arith) ∙ sym kj in
          mn ∙ inj n l hn hl

      apart : (m l j : ℕ) → Cases m j → Cases l j → m ≡ l
      apart m l j (inl p) (inl q) = omega arith
      apart m l j (inl p) (inr q) = clash m l j p.1 p.0 q.1
      apart m l j (inr p) (inl q) = sym (clash l m j q.1 q.0 p.1)
      apart m l j (inr p) (inr q) = i.apart m l j p.1 q.1

      own : (m j : ℕ) → j < fixed → Cases m j → get_or home m 0 ≡ suc j
      own m j l (inl p) = rw p.0 (hn ∙ p.1)
      own m j l (inr p) = i.own m j p.1 l

      off : (m j : ℕ) → T (member j free) → Cases m j → ⊥
      off m j t (inl p) = omega (arith, (i.free_in j t).0)
      off m j t (inr p) = i.free_off m j t p.1

  -- n's slot is given back
  pub slots_release : (n : ℕ) → Slots home fixed (set spilled n 0) (give_back fixed (get_or spilled n 0) free) slots
  slots_release n = go (get_or spilled n 0) refl
    where
      Cases : ℕ → ℕ → Type 0
      Cases m j = ((m ≡ n) × (0 ≡ suc j)) ⊎ ((m ≢ n) × (get_or spilled m 0 ≡ suc j))

      old : (m j : ℕ) → Cases m j → (m ≢ n) × (get_or spilled m 0 ≡ suc j)
      old m j (inl p) = absurd (omega arith)
      old m j (inr p) = p

      was : (m j : ℕ) → get_or (set spilled n 0) m 0 ≡ suc j → (m ≢ n) × (get_or spilled m 0 ≡ suc j)
      was m j h = old m j (set_says spilled n 0 m j h)

      rest : (free' : List ℕ) → ((k : ℕ) → T (member k free') → (fixed ≤ k) × (k < slots))
          → ((m k : ℕ) → T (member k free') → get_or (set spilled n 0) m 0 ≡ suc k → ⊥)
          → NoDup free' → Slots home fixed (set spilled n 0) free' slots
      rest free' fi fo once =
          record {
            below = λ m j h. i.below m j (was m j h).1;
            apart = λ m l j h g. i.apart m l j (was m j h).1 (was l j g).1;
            own = λ m j h lt. i.own m j (was m j h).1 lt;
            fixed_le = i.fixed_le;
            free_in = fi;
            free_off = fo;
            free_once = once;
          }

      same : Slots home fixed (set spilled n 0) free slots
      same = rest free i.free_in (λ m k t h. i.free_off m k t (was m k h).1) i.free_once

      pushed : (k : ℕ) → get_or spilled n 0 ≡ suc k → (b : Bool) → leb fixed k ≡ b → Slots home fixed (set spilled n 0) (cond b (k ∷ free) free) slots
      pushed k e false l = same
      pushed k e true l =
          rest (k ∷ free)
          (λ j t. fi j (or_pass (eqb j k) (member j free) t))
          (λ m j t h. fo m j h (or_pass (eqb j k) (member j free) t))
          ((λ t. i.free_off n k t e), i.free_once)
        where
          fi : (j : ℕ) → T (eqb j k) ⊎ T (member j free) → (fixed ≤ j) × (j < slots)
          fi j (inl t) = let q : j ≡ k = eqb→eq j k t in (omega (arith, leb→le fixed k (rw l tt)), omega (arith, i.below n k e))
          fi j (inr t) = i.free_in j t

          fo : (m j : ℕ) → get_or (set spilled n 0) m 0 ≡ suc j → T (eqb j k) ⊎ T (member j free) → ⊥
          fo m j h (inl t) = let q : j ≡ k = eqb→eq j k t in (was m j h).0 (i.apart m n j (was m j h).1 (e ∙ ap suc (sym q)))
          fo m j h (inr t) = i.free_off m j t (was m j h).1

      go : (h : ℕ) → get_or spilled n 0 ≡ h → Slots home fixed (set spilled n 0) (give_back fixed h free) slots
      go zero e = same
      go (suc k) e = pushed k e (leb fixed k) refl
