-- What the allocator's small changes do to its state. Assumes nothing.
use Rattle.std.proofs.Common.{subst, ◌∙◌, inl, inr, arith, length-append, get_or-set_other, get_or-set_same, eqb→eq}
use Rattle.std.specs.Prelude.{◌≡◌, ◌≢◌, ◌⊎◌, Bool, ◌||◌, false, not, true, get_or, set, T, eqb}
use Rattle.std.proofs.Math.Path.{refl}
use mathlib.Core.List.{List, [], ◌∷◌}
use Prim.Native.Nat.{max, ◌+◌, ◌<◌, ◌≤◌, pred, suc, zero, ℕ}
use Rattle.std.proofs.Math.Decide.{ℕ_discrete}
use Rattle.std.proofs.Math.ListN.{length, length-set}
use Rattle.tables.specs.Stores.{set_says}
use Rattle.tables.specs.Tests.{or_pass}
use Rattle.plan.specs.Origins.{has_origin, origin_at}
use Rattle.plan.specs.Lists.{count, member, filter, first_of, best, is_none, is_some}
use Rattle.plan.specs.TestLaws.{or_second}
use Rattle.plan.specs.ListLaws.{Ascending, ascending_ge, filter_member, first_zero, first_some, best_member}
use Rattle.allocate.specs.State.{Allocated, allocated, all_locked, Setting, State, Taken, register_of, owner_of, slot_of, reloadable, spill_in, spill_out, place, vacate, disown, release}
use Rattle.allocate.specs.Allocator.{evict, evict_key, take_best, take_free, take_register}
use Rattle.allocate.specs.Invariants.{Regs, Slots, regs_place, regs_vacate, regs_release, slots_new, slots_reuse, slots_release}

-- the allocator's invariant on its tables: registers and slots as above, every table as long as it should be, only what has an origin is fresh,
-- and no more registers were ever held than are usable
pub record GoodF (e : Setting) (home holder owner spilled : List ℕ) (fresh : List Bool) (free : List ℕ) (count most : ℕ) : Type 0 where
  pub registers : Regs e.registers holder owner
  pub slots : Slots home e.fixed spilled free count
  pub holders : length holder ≡ length e.origins
  pub owners : length owner ≡ 16
  pub spilleds : length spilled ≡ length e.origins
  pub freshes : length fresh ≡ length e.origins
  pub src : (n : ℕ) → T (get_or fresh n false) → T (has_origin (origin_at e.origins n))
  pub held : most ≤ length e.registers

-- .. of a state
abbrev pub Good : Setting → List ℕ → State → Type 0
Good e home s = GoodF e home s.holder s.owner s.spilled s.fresh s.free s.slots s.most

-- the value of n is at hand: in a register, in a slot, or fresh in memory
abbrev pub avail : State → ℕ → Bool
avail s n = is_some (register_of s n) || reloadable s n

-- what take can do
pub data TakeView (e : Setting) (n : ℕ) (locked : List ℕ) (s : State) : Allocated Taken → Type 0 where
  was_free : (r : ℕ) → owner_of s r ≡ 0 → T (member r e.registers) → TakeView e n locked s (allocated (record { register = r; state = place n r s }))
  evicted : (r v : ℕ) → owner_of s r ≡ suc v → T (member r e.registers) → (T (member r locked) → ⊥)
      → TakeView e n locked s (allocated (record { register = r; state = place n r (evict e v r s) }))
  none : TakeView e n locked s all_locked

is_zero_suc : (n : ℕ) → is_none n ≡ false → n ≡ suc (pred n)
is_zero_suc zero h = let z : ◌≡◌ {A = ℕ} 0 1 = cc in omega arith
is_zero_suc (suc n) h = omega arith

is_zero_zero : (n : ℕ) → is_none n ≡ true → n ≡ 0
is_zero_zero zero h = refl
is_zero_zero (suc n) h = let z : ◌≡◌ {A = ℕ} 0 1 = cc in omega arith

not_T : (b : Bool) → T (not b) → T b → ⊥
not_T true t u = t
not_T false t u = u

-- it does one of these
pub take_view : (e : Setting) (rest : List (List ℕ)) (n : ℕ) (locked : List ℕ) (s : State) → TakeView e n locked s (take_register e rest n locked s)
unfolding take_register
take_view e rest n locked s = go (first_of (λ r. is_none (owner_of s r)) e.registers) refl
  where
    xs : List ℕ
    xs = filter (λ r. not (member r locked)) e.registers

    go₂ : (b : ℕ) → best (evict_key rest s) xs ≡ b → first_of (λ r. is_none (owner_of s r)) e.registers ≡ 0 → TakeView e n locked s (take_best e n s b)
    go₂ zero q h = none
    go₂ (suc r) q h =
        let m : T (member r e.registers) × T (not (member r locked)) = filter_member (λ r. not (member r locked)) e.registers r
        (best_member (evict_key rest s) xs r q) in
        evicted r (pred (owner_of s r)) (is_zero_suc (owner_of s r) (first_zero (λ r. is_none (owner_of s r)) e.registers r h m.0)) m.0
        (not_T (member r locked) m.1)

    go : (f : ℕ) → first_of (λ r. is_none (owner_of s r)) e.registers ≡ f → TakeView e n locked s (take_free e rest n locked s f)
    go zero q = go₂ (best (evict_key rest s) xs) refl q
    go (suc r) q =
        let p : T (member r e.registers) × (is_none (owner_of s r) ≡ true) = first_some (λ r. is_none (owner_of s r)) e.registers r q in
        was_free r (is_zero_zero (owner_of s r) p.1) p.0

-- the usable registers are below sixteen, in ascending order
pub record Sixteen (e : Setting) : Type 0 where
  pub small : (r : ℕ) → T (member r e.registers) → r < 16
  pub ascending : Ascending 0 e.registers

-- the greater of two is within what both are within
pub max_le : (a c n : ℕ) → a ≤ n → c ≤ n → max a c ≤ n
max_le a c n h k = omega arith

-- no more registers are held than there are usable ones
count_inside : (k : ℕ) (registers owner : List ℕ) → Ascending k registers → ((r n : ℕ) → get_or owner r 0 ≡ suc n → T (member (k + r) registers))
    → count owner ≤ length registers
count_inside k registers [] a h = omega arith
count_inside k [] (zero ∷ xs) a h = count_inside (suc k) [] xs tt (λ r n q. h (suc r) n q)
count_inside k [] (suc x ∷ xs) a h = absurd (h 0 x refl)
count_inside k (y ∷ ys) (x ∷ xs) a h = go (ℕ_discrete y k) x refl (λ b f. count_inside (suc k) ys xs b f) (λ b f. count_inside (suc k) (y ∷ ys) xs b f)
  where
    Found : List ℕ → Type 0
    Found l = (r n : ℕ) → get_or xs r 0 ≡ suc n → T (member (suc k + r) l)

    later : Found (y ∷ ys)
    later r n q = let z : k + suc r ≡ suc k + r = omega arith in subst (λ (m : ℕ). T (member m (y ∷ ys))) z (h (suc r) n q)

    -- what is not y is behind it
    behind : y ≡ k → (r : ℕ) → T (eqb (suc k + r) y) ⊎ T (member (suc k + r) ys) → T (member (suc k + r) ys)
    behind e r (inl u) = absurd (let z : suc k + r ≡ y = eqb→eq (suc k + r) y u in omega arith)
    behind e r (inr u) = u

    found : y ≡ k → Found ys
    found e r n z = behind e r (or_pass (eqb (suc k + r) y) (member (suc k + r) ys) (later r n z))

    go : Dec (y ≡ k) → (w : ℕ) → x ≡ w → (Ascending (suc k) ys → Found ys → count xs ≤ length ys)
        → (Ascending (suc k) (y ∷ ys) → Found (y ∷ ys) → count xs ≤ suc (length ys))
        → count (w ∷ xs) ≤ suc (length ys)
    go (yes e) zero q f g = omega (arith, f (rw e at a.1) (found e))
    go (yes e) (suc w) q f g = omega (arith, f (rw e at a.1) (found e))
    go (no e) zero q f g = g (omega (arith, a.0), a.1) later
    go (no e) (suc w) q f g =
        let z : k + 0 ≡ k = omega arith in
        absurd (omega (arith, ascending_ge y (y ∷ ys) k (omega arith, a.1) (subst (λ (m : ℕ). T (member m (y ∷ ys))) z (h 0 w q)), a.0))

owners_count : (registers owner : List ℕ) → Ascending 0 registers → ((r n : ℕ) → get_or owner r 0 ≡ suc n → T (member r registers)) → count owner ≤ length registers
owners_count registers owner a h = count_inside 0 registers owner a (λ r n q. let z : 0 + r ≡ r = omega arith in rw z (h r n q))

-- ---- the parts of take

module _ (e : Setting) (home : List ℕ) (wf : Sixteen e) where
  -- a free register is given to a node that has none
  pub good_place : (n r : ℕ) (s : State) → Good e home s → owner_of s r ≡ 0 → register_of s n ≡ 0 → n < length e.origins → T (member r e.registers)
      → Good e home (place n r s)
  unfolding place
  good_place n r s g hr hn ln mr =
      let placed : Regs e.registers (set s.holder n (suc r)) (set s.owner r (suc n)) = regs_place e.registers s.holder s.owner g.registers
      n r hr hn (omega (arith, g.holders)) (omega (arith, g.owners, wf.small r mr)) mr in
      record {
        registers = placed;
        slots = g.slots;
        holders = rw length-set g.holders;
        owners = rw length-set g.owners;
        spilleds = g.spilleds;
        freshes = g.freshes;
        src = g.src;
        held =
            max_le s.most (count (set s.owner r (suc n))) (length e.registers) g.held
            (owners_count e.registers (set s.owner r (suc n)) wf.ascending (λ q m h. placed.inside m q h));
      }

  -- a register is given up
  pub good_vacate : (v r : ℕ) (s : State) → Good e home s → owner_of s r ≡ suc v → Good e home (vacate v r s)
  unfolding vacate
  good_vacate v r s g hr =
      record {
        registers = regs_vacate e.registers s.holder s.owner g.registers v r hr;
        slots = g.slots;
        holders = rw length-set g.holders;
        owners = rw length-set g.owners;
        spilleds = g.spilleds;
        freshes = g.freshes;
        src = g.src;
        held = g.held;
      }

  -- a value is saved
  pub good_spill : (v r : ℕ) (s : State) → Good e home s → Good e home (spill_out e v r s)
  unfolding spill_out
  good_spill v r s g = go s.free refl
    where
      go : (f : List ℕ) → s.free ≡ f → Good e home (spill_in e v r f s)
      go [] q =
          record {
            registers = g.registers;
            slots = slots_new home e.fixed s.spilled s.free s.slots g.slots v q;
            holders = g.holders;
            owners = g.owners;
            spilleds = rw length-set g.spilleds;
            freshes = g.freshes;
            src = g.src;
            held = g.held;
          }
      go (k ∷ ks) q =
          record {
            registers = g.registers;
            slots = slots_reuse home e.fixed s.spilled s.free s.slots g.slots v k ks q;
            holders = g.holders;
            owners = g.owners;
            spilleds = rw length-set g.spilleds;
            freshes = g.freshes;
            src = g.src;
            held = g.held;
          }

  -- a node is released
  pub good_release : (n : ℕ) (s : State) → Good e home s → Good e home (release e n s)
  unfolding release
  good_release n s g =
      record {
        registers = regs_release e.registers s.holder s.owner g.registers n;
        slots = slots_release home e.fixed s.spilled s.free s.slots g.slots n;
        holders = rw length-set g.holders;
        owners = len (register_of s n);
        spilleds = rw length-set g.spilleds;
        freshes = g.freshes;
        src = g.src;
        held = g.held;
      }
    where
      len : (h : ℕ) → length (disown h s.owner) ≡ 16
      len zero = g.owners
      len (suc r) = rw length-set g.owners

-- what a spill leaves as it was: all but n's slot
pub record Spilt (n : ℕ) (s s' : State) : Type 0 where
  pub holder : s'.holder ≡ s.holder
  pub owner : s'.owner ≡ s.owner
  pub fresh : s'.fresh ≡ s.fresh
  pub slots : s.slots ≤ s'.slots
  pub spilled : (k : ℕ) × (s'.spilled ≡ set s.spilled n (suc k))
  pub grow : length s'.steps ≡ length s.steps + 1

-- so does `spill_out`
pub spilt : (e : Setting) (n r : ℕ) (s : State) → Spilt n s (spill_out e n r s)
unfolding spill_out
spilt e n r s = go s.free
  where
    go : (f : List ℕ) → Spilt n s (spill_in e n r f s)
    go [] = record { holder = refl; owner = refl; fresh = refl; slots = omega arith; spilled = (s.slots, refl); grow = length-append s.steps _ }
    go (k ∷ ks) = record { holder = refl; owner = refl; fresh = refl; slots = omega arith; spilled = (k, refl); grow = length-append s.steps _ }

-- an option that is some passes
pub is_suc : (n k : ℕ) → n ≡ suc k → T (is_some n)
is_suc n k h = rw h tt

-- .. and back
pub suc_is : (n : ℕ) → T (is_some n) → n ≡ suc (pred n)
suc_is zero t = absurd t
suc_is (suc n) t = omega arith

-- what may be lost of a state: nothing that is at hand, and no locked register's value
pub record Keeps (locked : List ℕ) (s s' : State) : Type 0 where
  pub keep : (m : ℕ) → T (avail s m) → T (avail s' m)
  pub lock : (m q : ℕ) → register_of s m ≡ suc q → T (member q locked) → register_of s' m ≡ suc q

-- twice
pub keeps_trans : (locked : List ℕ) (s t u : State) → Keeps locked s t → Keeps locked t u → Keeps locked s u
keeps_trans locked s t u a b = record { keep = λ m h. b.keep m (a.keep m h); lock = λ m q h t. b.lock m q (a.lock m q h t) t }

-- placing loses nothing
pub keeps_place : (locked : List ℕ) (n r : ℕ) (s : State) → n < length s.holder → register_of s n ≡ 0 → Keeps locked s (place n r s)
unfolding place
keeps_place locked n r s ln hn =
    record {
      keep = λ m. keep m (ℕ_discrete m n);
      lock = λ m q h t. get_or-set_other s.holder n m (suc r) 0 (λ (z : m ≡ n). let y : register_of s n ≡ suc q = rw z at h in omega arith) ∙ h;
    }
  where
    keep : (m : ℕ) → Dec (m ≡ n) → T (avail s m) → T (is_some (get_or (set s.holder n (suc r)) m 0) || reloadable s m)
    keep m (yes z) h = rw (z, get_or-set_same s.holder n (suc r) 0 ln) tt
    keep m (no z) h = rw (get_or-set_other s.holder n m (suc r) 0 z) h

-- giving up the register of a value that can be loaded again loses nothing
pub keeps_vacate : (locked : List ℕ) (v r : ℕ) (s : State) → T (reloadable s v) → register_of s v ≡ suc r → (T (member r locked) → ⊥) → Keeps locked s (vacate v r s)
unfolding vacate
keeps_vacate locked v r s re hv nl =
    record {
      keep = λ m. keep m (ℕ_discrete m v);
      lock = λ m q h t. get_or-set_other s.holder v m 0 0 (λ (z : m ≡ v).
          let y : register_of s v ≡ suc q = rw z at h in
          let rq : q ≡ r = omega arith in
          nl (rw rq at t)) ∙ h;
    }
  where
    keep : (m : ℕ) → Dec (m ≡ v) → T (avail s m) → T (is_some (get_or (set s.holder v 0) m 0) || reloadable s m)
    keep m (yes z) h = or_second (is_some (get_or (set s.holder v 0) m 0)) (reloadable s m) (rw z re)
    keep m (no z) h = rw (get_or-set_other s.holder v m 0 0 z) h

-- a spill loses nothing, and the value can be loaded again
pub keeps_spill : (locked : List ℕ) (e : Setting) (v r : ℕ) (s : State) → v < length s.spilled
    → Keeps locked s (spill_out e v r s) × T (reloadable (spill_out e v r s) v)
keeps_spill locked e v r s lv =
    let sp : Spilt v s (spill_out e v r s) = spilt e v r s in
    let k : ℕ = sp.spilled.0 in
    let now : slot_of (spill_out e v r s) v ≡ suc k = rw sp.spilled.1 (get_or-set_same s.spilled v (suc k) 0 lv) in (
      record {
        keep = λ m. keep m (ℕ_discrete m v);
        lock = λ m q h t. rw sp.holder h;
      },
      rw now tt,
    )
  where
    keep : (m : ℕ) → Dec (m ≡ v) → T (avail s m) → T (avail (spill_out e v r s) m)
    keep m (yes z) h =
        let sp : Spilt v s (spill_out e v r s) = spilt e v r s in
        rw (z, sp.spilled.1, get_or-set_same s.spilled v (suc sp.spilled.0) 0 lv) (or_second (is_some (register_of (spill_out e v r s) v)) true tt)
    keep m (no z) h =
        let sp : Spilt v s (spill_out e v r s) = spilt e v r s in
        rw (sp.holder, sp.fresh, sp.spilled.1, get_or-set_other s.spilled v m (suc sp.spilled.0) 0 z) h

-- what is some after a store of none was some before
pub unset : (l : List ℕ) (v m q : ℕ) → get_or (set l v 0) m 0 ≡ suc q → get_or l m 0 ≡ suc q
unset l v m q h = go (set_says l v 0 m q h)
  where
    go : ((m ≡ v) × (0 ≡ suc q)) ⊎ ((m ≢ v) × (get_or l m 0 ≡ suc q)) → get_or l m 0 ≡ suc q
    go (inl p) = absurd (omega arith)
    go (inr p) = p.1

-- what is some after a store was stored, or was some before
pub was_set : (l : List ℕ) (n a m q : ℕ) → get_or (set l n a) m 0 ≡ suc q → (m ≡ n) ⊎ (get_or l m 0 ≡ suc q)
was_set l n a m q h = go (set_says l n a m q h)
  where
    go : ((m ≡ n) × (a ≡ suc q)) ⊎ ((m ≢ n) × (get_or l m 0 ≡ suc q)) → (m ≡ n) ⊎ (get_or l m 0 ≡ suc q)
    go (inl p) = inl p.0
    go (inr p) = inr p.1
