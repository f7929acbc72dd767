-- The register that is taken on exact words is the one that the first layer takes: the lowest free one, else the best to empty. Assumes nothing.
use Rattle.std.specs.Prelude.{◌≡◌, Bool, not, ◌||◌, get_or, eqb, leb, ltb}
use Rattle.std.proofs.Math.Path.{refl, ap}
use Rattle.std.proofs.Common.{sym, ◌∙◌, ne_eqb, ltb-true, lt-ltb, le-ltb, leb-true, leb-false}
use Rattle.std.proofs.Math.Bool.{true, false, cond}
use mathlib.Core.List.{List, [], ◌∷◌, ◌++◌, append-nil}
use Prim.Native.Nat.{ℕ, zero, suc, pred, ◌+◌, ◌-◌, ◌≤◌, ◌<◌}
use native.Mathlib.Omega.{arith}
use Rattle.std.proofs.Math.ListN.{length, length-set}
use Rattle.std.proofs.Math.Dec.{eqb-suc-zero}
use Rattle.std.proofs.lemmas.Bool.{eqb-false}
use denote.Floats.{passes}
use Rattle.plan.specs.Lists.{member, filter, first_of, count_up, better, best, is_none}
use Rattle.plan.specs.ListLaws.{member_filter, count_up_member, count_up_below, filter_member, first_zero, map_at, ascending_filter}
use Rattle.allocate.specs.declared.Frame.{Frame}
use Rattle.allocate.specs.Actions.{Action}
use Rattle.allocate.specs.State.{Allocated, allocated, all_locked, Setting, State, Taken, owner_of, reloadable, place, vacate}
use Rattle.allocate.specs.Allocator.{distance, read_later, spill_if, evict, evict_key, take_best, take_free, take_register}
use Rattle.allocate.specs.StateLaws.{Sixteen}
use Rattle.allocate.specs.StateLaws as StateLaws
use Rattle.allocate.specs.RustAllocator.{pair_le}
use Rattle.allocate.specs.RustKeys.{key_order, next_is}
use Rattle.allocate.specs.RustKeys as RustKeys
use Rattle.allocate.specs.Layout.{next_at}
use Rattle.allocate.specs.Registers.{usable_bit, is_free, free_from, reloads, next_read, keeps_less, may_evict, better_of, victim_of, victim_le}
use Rattle.allocate.specs.Desk.{Desk, Choice, choose, settled, evicted, taken_from, taken, spilt}
use Rattle.allocate.specs.Holds.{Phase, next_word, Holds, next_at_lem}
use Rattle.allocate.specs.HoldsLaws.{holds_by, settled_holds, left, evicted_holds, settled_evicted, reloads_is}

-- ---- the free register

free_at : (owner : List ℕ) (mask r k : ℕ) (f : ℕ) → f ≡ free_from k (suc r) owner mask
    → cond (ltb f (suc r + k)) (suc f) 0 ≡ first_of (λ x. is_none (get_or owner x 0)) (filter (usable_bit mask) (count_up (suc r) k))
    → cond (ltb (cond (is_free owner mask r) r f) (r + suc k)) (suc (cond (is_free owner mask r) r f)) 0
    ≡ first_of (λ x. is_none (get_or owner x 0)) (filter (usable_bit mask) (count_up r (suc k)))
unfolding is_free
free_at owner mask r k f q ih = go (usable_bit mask r) (get_or owner r 0) refl
  where
    z : suc r + k ≡ r + suc k
    z = omega arith

    go : (u : Bool) (x : ℕ) → get_or owner r 0 ≡ x
        → cond (ltb (cond (cond u (eqb x 0) false) r f) (r + suc k)) (suc (cond (cond u (eqb x 0) false) r f)) 0
        ≡ first_of (λ x. is_none (get_or owner x 0)) (cond u (r ∷ filter (usable_bit mask) (count_up (suc r) k)) (filter (usable_bit mask) (count_up (suc r) k)))
    go true zero p = let t : ltb r (r + suc k) ≡ true = lt-ltb r (r + suc k) (omega arith) in rw (t, p)
    go true (suc x) p = rw (eqb-suc-zero x, p, ← z) ih
    go false x p = rw (← z) ih

-- THE FREE REGISTER is the first of the usable ones that hold nothing
pub free_is : (k r : ℕ) (owner : List ℕ) (mask : ℕ)
    → cond (ltb (free_from k r owner mask) (r + k)) (suc (free_from k r owner mask)) 0
    ≡ first_of (λ x. is_none (get_or owner x 0)) (filter (usable_bit mask) (count_up r k))
unfolding free_from
free_is zero r owner mask = let t : ltb r (r + 0) ≡ false = le-ltb r (r + 0) (omega arith) in rw t
free_is (suc k) r owner mask = free_at owner mask r k (free_from k (suc r) owner mask) refl (free_is k (suc r) owner mask)

-- ---- generic: the best of a list, from its last element

-- the best so far, or one behind it
abbrev pub or_later : (ℕ → ℕ) → ℕ → ℕ → ℕ
or_later key zero x = suc x
or_later key (suc y) x = cond (leb (key y) (key x)) (suc x) (suc y)

pub best_later : (key : ℕ → ℕ) (xs : List ℕ) (x : ℕ) → best key (xs ++ (x ∷ [])) ≡ or_later key (best key xs) x
best_later key [] x = refl
best_later key (a ∷ xs) x = ap (better key a) (best_later key xs x) ∙ go (best key xs)
  where
    tests : (y : ℕ) (p q r : Bool) → leb (key y) (key x) ≡ p → leb (key a) (key y) ≡ q → leb (key a) (key x) ≡ r
        → better key a (cond p (suc x) (suc y)) ≡ or_later key (cond q (suc y) (suc a)) x
    tests y true true true u v w = rw (w, u)
    tests y true true false u v w = absurd (omega (arith, leb-true (key y) (key x) u, leb-true (key a) (key y) v, leb-false (key a) (key x) w))
    tests y true false r u v w = refl
    tests y false true r u v w = rw (v, u)
    tests y false false true u v w = absurd (omega (arith, leb-false (key y) (key x) u, leb-false (key a) (key y) v, leb-true (key a) (key x) w))
    tests y false false false u v w = rw (v, w)

    go : (b : ℕ) → better key a (or_later key b x) ≡ or_later key (better key a b) x
    go zero = refl
    go (suc y) = tests y (leb (key y) (key x)) (leb (key a) (key y)) (leb (key a) (key x)) refl refl refl

-- ---- generic: one more element

pub filter_snoc : (p : ℕ → Bool) (xs : List ℕ) (x : ℕ) → filter p (xs ++ (x ∷ [])) ≡ filter p xs ++ cond (p x) (x ∷ []) []
filter_snoc p [] x = refl
filter_snoc p (y ∷ xs) x = rw (filter_snoc p xs x) (go (p y))
  where
    go : (b : Bool)
        → cond b (y ∷ (filter p xs ++ cond (p x) (x ∷ []) [])) (filter p xs ++ cond (p x) (x ∷ []) []) ≡ cond b (y ∷ filter p xs) (filter p xs) ++ cond (p x)
        (x ∷ []) []
    go true = refl
    go false = refl

pub count_up_snoc : (k n : ℕ) → count_up k (suc n) ≡ count_up k n ++ ((k + n) ∷ [])
count_up_snoc k zero = let z : k + 0 ≡ k = omega arith in rw z
count_up_snoc k (suc n) = let z : suc k + n ≡ k + suc n = omega arith in ap (λ (l : List ℕ). k ∷ l) (count_up_snoc (suc k) n ∙ rw z)

-- ---- the register to empty

-- 16 is none
abbrev pub register16 : ℕ → ℕ
register16 v = cond (eqb v 16) 0 (suc v)

module _ (frame : Frame) (work owner : List ℕ) (first second : ℕ) (locked : List ℕ) (key : ℕ → ℕ)
    (may : (r : ℕ) → r < 16 → may_evict owner frame.mask first second r ≡ cond (usable_bit frame.mask r) (not (member r locked)) false)
    (order : (q r : ℕ) → keeps_less frame work (get_or owner r 0 - 1) (get_or owner q 0 - 1) ≡ leb (key q) (key r)) where
  abbrev open₁ : ℕ → Bool
  open₁ r = not (member r locked)

  abbrev among : ℕ → List ℕ
  among k = filter open₁ (filter (usable_bit frame.mask) (count_up 0 k))

  among_next : (k : ℕ) → among (suc k) ≡ among k ++ cond (usable_bit frame.mask k) (cond (open₁ k) (k ∷ []) []) []
  among_next k =
      let u = usable_bit frame.mask in
      let z : 0 + k ≡ k = omega arith in
      let c : count_up 0 (suc k) ≡ count_up 0 k ++ (k ∷ []) = count_up_snoc 0 k ∙ rw z in
      ap (λ (l : List ℕ). filter open₁ (filter u l)) c
      ∙ (ap (filter open₁) (filter_snoc u (count_up 0 k) k) ∙ go (u k))
    where
      go : (b : Bool)
          → filter open₁ (filter (usable_bit frame.mask) (count_up 0 k) ++ cond b (k ∷ []) [])
          ≡ among k ++ cond b (cond (open₁ k) (k ∷ []) []) []
      go true = filter_snoc open₁ (filter (usable_bit frame.mask) (count_up 0 k)) k
      go false = ap (filter open₁) (append-nil (filter (usable_bit frame.mask) (count_up 0 k))) ∙ sym (append-nil (among k))

  -- THE REGISTER TO EMPTY is the best of the unlocked usable ones
  pub victim_is : (k : ℕ) → k ≤ 16 → register16 (victim_of k frame work owner first second) ≡ best key (among k)
  unfolding victim_of better_of
  victim_is zero h = refl
  victim_is (suc k) h =
      rw (may k h, among_next k)
      (two (usable_bit frame.mask k) (open₁ k) (victim_of k frame work owner first second) (victim_is k (omega arith)))
    where
      low : k ≡ 16 → ⊥
      low q = omega arith

      new : (v : ℕ) (b : Bool) → eqb v 16 ≡ b → cond b 0 (suc v) ≡ best key (among k)
          → register16 (cond b k (cond (keeps_less frame work (get_or owner k 0 - 1) (get_or owner v 0 - 1)) k v)) ≡ best key (among k ++ (k ∷ []))
      new v true q ih = rw (ne_eqb k 16 low, best_later key (among k) k, ← ih)
      new v false q ih = rw (best_later key (among k) k, ← ih, order v k) (go (leb (key v) (key k)))
        where
          go : (b : Bool) → register16 (cond b k v) ≡ cond b (suc k) (suc v)
          go true = rw (ne_eqb k 16 low)
          go false = rw q

      two : (u o : Bool) (v : ℕ) → register16 v ≡ best key (among k)
          → register16 (cond (cond u o false) (cond (eqb v 16) k (cond (keeps_less frame work (get_or owner k 0 - 1) (get_or owner v 0 - 1)) k v)) v)
          ≡ best key (among k ++ cond u (cond o (k ∷ []) []) [])
      two true true v ih = new v (eqb v 16) refl ih
      two true false v ih = ih ∙ ap (best key) (sym (append-nil (among k)))
      two false o v ih = ih ∙ ap (best key) (sym (append-nil (among k)))

-- ---- the register that is taken

-- the locked registers, 16 where there is none
abbrev pub Locks : ℕ → ℕ → List ℕ → Type 0
Locks first second locked = (r : ℕ) → r < 16 → member r locked ≡ (eqb r first || eqb r second)

-- the usable registers are below sixteen
pub phase_sixteen : (frame : Frame) (nodes : List ℕ) (e : Setting) (work : List ℕ) → Phase frame nodes e work → Sixteen e
phase_sixteen frame nodes e work p =
    let u = usable_bit frame.mask in
    record {
      small = λ r t. let m = filter_member u (count_up 0 16) r (rw p.registers at t) in omega (arith, count_up_below 0 16 r m.0);
      ascending = rw p.registers (ascending_filter u 0 0 16 (omega arith));
    }

module _ (frame : Frame) (nodes : List ℕ) (e : Setting) (table program : List ℕ) (prior : List Action) (rest : List (List ℕ)) (position : ℕ) where
  abbrev H : Desk → State → Type 0
  H d s = Holds frame nodes e table program prior rest position d s

  -- the same register, in a desk that holds the state; 16 is the refusal
  abbrev pub Answers : Choice → Allocated Taken → Type 0
  Answers c (allocated t) = (c.register ≡ t.register) × ((t.register < 16) × H c.desk t.state)
  Answers c all_locked = c.register ≡ 16

  -- the next read's word
  pub next_word_lem : (d : Desk) (s : State) → H d s → (n : ℕ) → n < frame.nodes → get_or d.work (next_at frame n) 0 ≡ next_word rest position n
  next_word_lem d s h n here =
      let z : 0 + n ≡ n = omega arith in
      next_at_lem frame d.work _ _ _ _ _ _ h.tables n here ∙ (map_at (next_word rest position) 0 frame.nodes n 0 here ∙ ap (next_word rest position) z)

  module _ (d : Desk) (s : State) (h : H d s) where
    -- the node in a register, or the first node, is a node
    owner_below : (r : ℕ) → pred (owner_of s r) < frame.nodes
    owner_below r =
        let o : get_or d.allocator.owner r 0 ≡ owner_of s r = rw h.owner in
        omega (arith, h.ready.owners.each r, h.ready.wide.some, o)

    next_key : (n : ℕ) → n < frame.nodes → next_read frame d.work n ≡ RustKeys.next_read 0x1_0000_0000 (suc position) rest n
    unfolding next_read next_word
    next_key n here = rw (next_word_lem d s h n here, next_is 0x1_0000_0000 (suc position) rest n) (go (read_later rest n))
      where
        go : (b : Bool)
            → cond (eqb (cond b (suc (position + distance rest n)) 0) 0) 0x1_0000_0000 (cond b (suc (position + distance rest n)) 0)
            ≡ cond b (suc position + distance rest n) 0x1_0000_0000
        go true = rw (eqb-suc-zero (position + distance rest n)) (omega arith)
        go false = refl

    pair_is : (frame₁ : Frame) (work : List ℕ) (a b : ℕ)
        → keeps_less frame₁ work a b ≡ pair_le (reloads frame₁ work b) (next_read frame₁ work b) (reloads frame₁ work a) (next_read frame₁ work a)
    unfolding keeps_less
    pair_is frame₁ work a b = go (reloads frame₁ work a) (reloads frame₁ work b)
      where
        go : (x y : Bool)
            → cond x (cond y (leb (next_read frame₁ work b) (next_read frame₁ work a)) true) (cond y false (leb (next_read frame₁ work b) (next_read frame₁ work a)))
            ≡ pair_le y (next_read frame₁ work b) x (next_read frame₁ work a)
        go true true = refl
        go true false = refl
        go false true = refl
        go false false = refl

    -- it is as good to empty register r as q, or better
    pub key_is : (q r : ℕ)
        → keeps_less frame d.work (get_or d.allocator.owner r 0 - 1) (get_or d.allocator.owner q 0 - 1) ≡ leb (evict_key rest s q) (evict_key rest s r)
    key_is q r =
        let a = pred (owner_of s r) in
        let b = pred (owner_of s q) in
        let ea : get_or d.allocator.owner r 0 - 1 ≡ a = rw h.owner (omega arith) in
        let eb : get_or d.allocator.owner q 0 - 1 ≡ b = rw h.owner (omega arith) in
        rw (
          ea,
          eb,
          pair_is frame d.work a b,
          reloads_is frame nodes e table program prior rest position d s h a (owner_below r),
          reloads_is frame nodes e table program prior rest position d s h b (owner_below q),
          next_key a (owner_below r),
          next_key b (owner_below q),
        )
        (sym (key_order 0x1_0000_0000 (suc position) rest h.few s q r))

    -- where no register is free, an unlocked usable one may be emptied
    pub may_is : (first second : ℕ) (locked : List ℕ) → Locks first second locked → first_of (λ r. is_none (owner_of s r)) e.registers ≡ 0 → (r : ℕ) → r < 16
        → may_evict d.allocator.owner frame.mask first second r ≡ cond (usable_bit frame.mask r) (not (member r locked)) false
    unfolding may_evict
    may_is first second locked locks none r small = rw (h.owner, locks r small) (go (eqb r first) (eqb r second) (usable_bit frame.mask r) refl)
      where
        full : usable_bit frame.mask r ≡ true → is_none (owner_of s r) ≡ false
        full u =
            first_zero (λ r. is_none (owner_of s r)) e.registers r none
            (rw h.phase.registers (member_filter (usable_bit frame.mask) (count_up 0 16) r (count_up_member 0 16 r (omega arith) small) (passes _ u)))

        held : (x : ℕ) → is_none x ≡ false → not (eqb x 0) ≡ true
        held zero q = sym q
        held (suc x) q = rw (eqb-suc-zero x)

        go : (a b u : Bool) → usable_bit frame.mask r ≡ u → cond a false (cond b false (cond u (not (eqb (owner_of s r) 0)) false)) ≡ cond u (not (a || b)) false
        go true b true q = refl
        go true b false q = refl
        go false true true q = refl
        go false true false q = refl
        go false false true q = held (owner_of s r) (full q)
        go false false false q = refl

    evict_owners : (v r : ℕ) → length (evict e v r s).owner ≡ length s.owner
    unfolding evict vacate
    evict_owners v r = length-set (spill_if (reloadable s v) e v r s).owner r 0 ∙ go (reloadable s v)
      where
        go : (b : Bool) → length (spill_if b e v r s).owner ≡ length s.owner
        go true = refl
        go false = ap length (StateLaws.spilt e v r s).owner

    -- A REGISTER IS TAKEN, or both refuse
    pub taken_holds : length s.owner ≡ 16 → (first second : ℕ) (locked : List ℕ) → Locks first second locked → (node : ℕ) → node < frame.nodes
        → Answers (taken frame first second node d) (take_register e rest node locked s)
    unfolding taken taken_from take_register
    taken_holds sixteen first second locked locks node here = rw (← free) (go (ltb r 16) refl)
      where
        o : List ℕ
        o = d.allocator.owner

        r : ℕ
        r = free_from 16 0 o frame.mask

        v : ℕ
        v = victim_of 16 frame d.work o first second

        old : ℕ
        old = pred (owner_of s v)

        free : cond (ltb r 16) (suc r) 0 ≡ first_of (λ x. is_none (owner_of s x)) e.registers
        free = rw (h.phase.registers, ← h.owner) (free_is 16 0 o frame.mask)

        old_is : get_or o v 0 - 1 ≡ old
        old_is = rw h.owner (omega arith)

        emptied : (b : Bool) → eqb v 16 ≡ b
            → Answers (cond b (choose 16 d) (choose v (settled frame node v (evicted frame (get_or o v 0 - 1) v d)))) (take_best e node s (cond b 0 (suc v)))
        emptied true q = refl
        emptied false q =
            let l : v < 16 = omega (arith, victim_le 16 frame d.work o first second (omega arith), eqb-false v 16 q) in
            let x : Desk = cond (reloads frame d.work old) (left frame old v d) (left frame old v (spilt frame old v d)) in
            let k : H x (evict e old v s) = evicted_holds frame nodes e table program prior rest position d s h old v (owner_below v) l in
            let t : H (settled frame node v x) (place node v (evict e old v s)) =
            settled_holds frame nodes e table program prior rest position x (evict e old v s) k node v here l (evict_owners old v ∙ sixteen) in (
              refl,
              (
                l,
                rw old_is
                    (holds_by frame nodes e table program prior rest position _ _ _ (settled_evicted frame nodes e table program prior rest position d node old v) t),
              ),
            )

        go : (b : Bool) → ltb r 16 ≡ b
            → Answers (cond b (choose r (settled frame node r d)) (cond (eqb v 16) (choose 16 d) (choose v (settled frame node v (evicted frame (get_or o v 0 - 1) v d)))))
            (take_free e rest node locked s (cond b (suc r) 0))
        go true q = (refl, (ltb-true r 16 q, settled_holds frame nodes e table program prior rest position d s h node r here (ltb-true r 16 q) sixteen))
        go false q =
            let none : first_of (λ x. is_none (owner_of s x)) e.registers ≡ 0 = sym free ∙ rw q in
            let b : register16 v ≡ best (evict_key rest s) (filter (λ x. not (member x locked)) e.registers) =
            victim_is frame d.work o first second locked (evict_key rest s) (may_is first second locked locks none) key_is 16 (omega arith) ∙ rw
            h.phase.registers in
            rw (← b) (emptied (eqb v 16) refl)
