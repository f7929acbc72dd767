-- codegen.rs: `sample_schedule` with its tables of ordinals gives the same tasks as the schedule: `ordinals_same`. Assumes nothing.
use Rattle.std.proofs.Common.{◌∙◌, sym, length-set, get_or-set_other, get_or-set_same, ne_eqb}
use Rattle.std.specs.Prelude.{◌≡◌, ◌&&◌, ◌||◌, cond, false, true, replicate, set, T}
use Rattle.std.proofs.Math.Path.{ap, refl, subst}
use Rattle.std.proofs.Math.Bool.{Bool, not}
use mathlib.Core.List.{List, [], ◌++◌, ◌∷◌}
use Prim.Native.Nat.{◌+◌, ◌-◌, ◌<◌, ◌≤◌, max, suc, zero, ℕ}
use native.Mathlib.Omega.{arith}
use Rattle.std.proofs.Math.Decide.{ℕ_discrete}
use Rattle.std.proofs.Math.ListN.{get_or, length, length-append}
use Rattle.std.proofs.lemmas.List.{length-replicate}
use Rattle.std.proofs.Math.Seq.{append_snoc}
use Rattle.std.proofs.Math.Dec.{eqb, eqb_refl}
use denote.Floats.{is_true}
use Rattle.tables.specs.Zeros.{zeros_at}
use Rattle.plan.specs.Lists.{member, filter, any_of, count_up}
use Rattle.plan.specs.Nodes.{Node, operands, node_at}
use Rattle.plan.specs.Origins.{Origin, is_load, origin_at}
use Rattle.plan.specs.Schedule.{compute_task, store_task, Write, waits, tasks_of, schedule_from, schedule}
use Rattle.plan.specs.RustPlan.{positions, set_each, last_reads, old_reads, after, ordinal_tasks, ordinal_schedule}
use Rattle.plan.specs.TestLaws.{or_first, or_second, and_first, and_second, and_both, same_test}
use Rattle.plan.specs.ListLaws.{count_up_member, count_up_below, any_at, any_is}
use Rattle.plan.specs.Planned.{AllWrites}
use Rattle.plan.specs.OriginLaws.{load_origin, origin_inside}

-- ---- the last ordinal at which a test holds

abbrev or_else : ℕ → ℕ → ℕ
or_else zero x = x
or_else (suc r) x = suc r

abbrev last_at : (ℕ → Bool) → ℕ → List ℕ → ℕ
last_at p k [] = 0
last_at p k (n ∷ ns) = or_else (last_at p (suc k) ns) (cond (p n) (suc k) 0)

last_ge : (p : ℕ → Bool) (k : ℕ) (xs : List ℕ) (m : ℕ) → last_at p k xs ≡ suc m → k ≤ m
last_ge p k [] m h = absurd (omega arith)
last_ge p k (x ∷ xs) m h = go (last_at p (suc k) xs) (p x) (last_ge p (suc k) xs m) h
  where
    go : (r : ℕ) (t : Bool) → (r ≡ suc m → suc k ≤ m) → or_else r (cond t (suc k) 0) ≡ suc m → k ≤ m
    go (suc r) t ih h = omega (arith, ih h)
    go zero true ih h = omega arith
    go zero false ih h = absurd (omega arith)

last_le : (p : ℕ → Bool) (k : ℕ) (xs : List ℕ) → last_at p k xs ≤ k + length xs
last_le p k [] = omega arith
last_le p k (x ∷ xs) = go (last_at p (suc k) xs) (p x) (last_le p (suc k) xs)
  where
    go : (r : ℕ) (t : Bool) → r ≤ suc k + length xs → or_else r (cond t (suc k) 0) ≤ k + suc (length xs)
    go (suc r) t h = omega (arith, h)
    go zero true h = omega arith
    go zero false h = omega arith

last_ext : (p q : ℕ → Bool) (k : ℕ) (xs : List ℕ) → ((n : ℕ) → p n ≡ q n) → last_at p k xs ≡ last_at q k xs
last_ext p q k [] h = refl
last_ext p q k (x ∷ xs) h = rw (h x, last_ext p q (suc k) xs h)

last_append : (p : ℕ → Bool) (k : ℕ) (xs ys : List ℕ) → last_at p k (xs ++ ys) ≡ or_else (last_at p (k + length xs) ys) (last_at p k xs)
last_append p k [] ys = let z : k + 0 ≡ k = omega arith in rw z (go (last_at p k ys))
  where
    go : (r : ℕ) → r ≡ or_else r 0
    go zero = refl
    go (suc r) = refl
last_append p k (x ∷ xs) ys =
    let z : suc k + length xs ≡ k + suc (length xs) = omega arith in
    rw (last_append p (suc k) xs ys, z) (go (last_at p (k + suc (length xs)) ys) (last_at p (suc k) xs))
  where
    go : (a c : ℕ) → or_else (or_else a c) (cond (p x) (suc k) 0) ≡ or_else a (or_else c (cond (p x) (suc k) 0))
    go zero c = refl
    go (suc a) c = refl

last_none : (p : ℕ → Bool) (k : ℕ) (xs : List ℕ) → any_of p xs ≡ false → last_at p k xs ≡ 0
last_none p k [] h = refl
last_none p k (x ∷ xs) h = go (p x) (any_of p xs) h (last_none p (suc k) xs)
  where
    go : (t u : Bool) → (t || u) ≡ false → (u ≡ false → last_at p (suc k) xs ≡ 0) → or_else (last_at p (suc k) xs) (cond t (suc k) 0) ≡ 0
    go true u h ih = let z : ◌≡◌ {A = ℕ} 0 1 = cc in absurd (omega arith)
    go false u h ih = rw (ih h)

last_some : (p : ℕ → Bool) (k : ℕ) (xs : List ℕ) → any_of p xs ≡ true → (m : ℕ) × (last_at p k xs ≡ suc m)
last_some p k [] h = let z : ◌≡◌ {A = ℕ} 0 1 = cc in absurd (omega arith)
last_some p k (x ∷ xs) h = go (p x) (any_of p xs) h (last_some p (suc k) xs) (last_at p (suc k) xs) refl
  where
    go : (t u : Bool) → (t || u) ≡ true → (u ≡ true → (m : ℕ) × (last_at p (suc k) xs ≡ suc m)) → (r : ℕ) → last_at p (suc k) xs ≡ r
        → (m : ℕ) × (or_else r (cond t (suc k) 0) ≡ suc m)
    go t u h ih (suc r) q = (r, refl)
    go true u h ih zero q = (k, refl)
    go false u h ih zero q = let s = ih h in absurd (omega (arith, s.1, q))

-- the later of two last ordinals is that of either test
last_or : (p q : ℕ → Bool) (k : ℕ) (xs : List ℕ) → max (last_at p k xs) (last_at q k xs) ≡ last_at (λ n. p n || q n) k xs
last_or p q k [] = refl
last_or p q k (x ∷ xs) =
    go (last_at p (suc k) xs) (last_at q (suc k) xs) (last_at (λ n. p n || q n) (suc k) xs) (p x) (q x) (last_or p q (suc k) xs) (last_ge p (suc k) xs)
    (last_ge q (suc k) xs)
  where
    go : (a c d : ℕ) (t u : Bool) → max a c ≡ d → ((m : ℕ) → a ≡ suc m → suc k ≤ m) → ((m : ℕ) → c ≡ suc m → suc k ≤ m)
        → max (or_else a (cond t (suc k) 0)) (or_else c (cond u (suc k) 0)) ≡ or_else d (cond (t || u) (suc k) 0)
    go zero zero zero true true h f g = omega arith
    go zero zero zero true false h f g = omega arith
    go zero zero zero false true h f g = omega arith
    go zero zero zero false false h f g = omega arith
    go zero zero (suc d) t u h f g = absurd (omega arith)
    go zero (suc c) zero t u h f g = absurd (omega arith)
    go zero (suc c) (suc d) true u h f g = omega (arith, h, g c refl)
    go zero (suc c) (suc d) false u h f g = omega (arith, h)
    go (suc a) zero zero t u h f g = absurd (omega arith)
    go (suc a) zero (suc d) t true h f g = omega (arith, h, f a refl)
    go (suc a) zero (suc d) t false h f g = omega (arith, h)
    go (suc a) (suc c) zero t u h f g = absurd (omega arith)
    go (suc a) (suc c) (suc d) t u h f g = h

-- ---- the tables hold last ordinals

or_else_assoc : (a c d : ℕ) → or_else (or_else a c) d ≡ or_else a (or_else c d)
or_else_assoc zero c d = refl
or_else_assoc (suc a) c d = refl

position_is : (v k : ℕ) (comps t : List ℕ) → v < length t → get_or (positions k comps t) v 0 ≡ or_else (last_at (λ n. eqb n v) k comps) (get_or t v 0)
position_is v k [] t h = refl
position_is v k (n ∷ comps) t h =
    position_is v (suc k) comps (set t n (suc k)) (rw length-set h)
    ∙ (ap (or_else (last_at (λ n. eqb n v) (suc k) comps)) (go (ℕ_discrete v n)) ∙ sym
    (or_else_assoc (last_at (λ n. eqb n v) (suc k) comps) (cond (eqb n v) (suc k) 0) (get_or t v 0)))
  where
    go : Dec (v ≡ n) → get_or (set t n (suc k)) v 0 ≡ or_else (cond (eqb n v) (suc k) 0) (get_or t v 0)
    go (yes z) =
        let e : eqb n v ≡ true = rw z (is_true (eqb n n) (eqb_refl n)) in
        let l : n < length t = omega (arith, h, z) in
        let s : get_or (set t n (suc k)) v 0 ≡ suc k = rw z (get_or-set_same t n (suc k) 0 l) in
        rw (e, s)
    go (no z) = let e : eqb n v ≡ false = ne_eqb n v (λ (y : n ≡ v). z (sym y)) in rw (e, get_or-set_other t n v (suc k) 0 z)

set_each_length : (al : List ℕ) (x : ℕ) (t : List ℕ) → length (set_each al x t) ≡ length t
set_each_length [] x t = refl
set_each_length (a ∷ al) x t = set_each_length al x (set t a x) ∙ length-set t a x

set_each_at : (al : List ℕ) (x : ℕ) (t : List ℕ) (v : ℕ) → v < length t → get_or (set_each al (suc x) t) v 0 ≡ or_else (cond (member v al) (suc x) 0) (get_or t v 0)
set_each_at [] x t v h = refl
set_each_at (a ∷ al) x t v h = set_each_at al x (set t a (suc x)) v (rw length-set h) ∙ go (ℕ_discrete v a) (member v al)
  where
    go : Dec (v ≡ a) → (u : Bool) → or_else (cond u (suc x) 0) (get_or (set t a (suc x)) v 0) ≡ or_else (cond (eqb v a || u) (suc x) 0) (get_or t v 0)
    go (yes z) u =
        let e : eqb v a ≡ true = rw z (is_true (eqb a a) (eqb_refl a)) in
        let s : get_or (set t a (suc x)) v 0 ≡ suc x = rw z (get_or-set_same t a (suc x) 0 (omega (arith, h, z))) in
        rw (e, s) (two_operands u)
      where
        two_operands : (u : Bool) → or_else (cond u (suc x) 0) (suc x) ≡ suc x
        two_operands true = refl
        two_operands false = refl
    go (no z) u = let e : eqb v a ≡ false = ne_eqb v a z in rw (e, get_or-set_other t a v (suc x) 0 z)

module _ (ns : List Node) where
  read_is : (v k : ℕ) (comps t : List ℕ) → v < length t
      → get_or (last_reads ns k comps t) v 0 ≡ or_else (last_at (λ n. member v (operands (node_at ns n))) k comps) (get_or t v 0)
  read_is v k [] t h = refl
  read_is v k (n ∷ comps) t h =
      let p : ℕ → Bool = λ n. member v (operands (node_at ns n)) in
      read_is v (suc k) comps (set_each (operands (node_at ns n)) (suc k) t) (rw (set_each_length (operands (node_at ns n)) (suc k) t) h)
      ∙ (ap (or_else (last_at p (suc k) comps)) (set_each_at (operands (node_at ns n)) k t v h) ∙ sym
      (or_else_assoc (last_at p (suc k) comps) (cond (p n) (suc k) 0) (get_or t v 0)))

-- ---- the ordinal after which a write comes is that of the last computation for which it waits

or_zero : (a : ℕ) → or_else a 0 ≡ a
or_zero zero = refl
or_zero (suc a) = refl

last_false : (k : ℕ) (xs : List ℕ) → last_at (λ n. false) k xs ≡ 0
last_false k [] = refl
last_false k (x ∷ xs) = rw (last_false (suc k) xs)

module _ (ns : List Node) (ss : List Origin) (len : length ss ≡ length ns) (comps : List ℕ) where
  abbrev reader : ℕ → ℕ → List ℕ → ℕ → Bool
  reader c i al n = any_of (λ a. is_load c i (origin_at ss a) && member a (operands (node_at ns n))) al

  reads_last : (c i : ℕ) (al : List ℕ) → ((a : ℕ) → T (member a al) → a < length ns)
      → old_reads ss c i (last_reads ns 0 comps (replicate (length ns) 0)) al ≡ last_at (reader c i al) 0 comps
  reads_last c i [] h = sym (last_false 0 comps)
  reads_last c i (a ∷ al) h =
      ap (λ (x : ℕ). max x (old_reads ss c i (last_reads ns 0 comps (replicate (length ns) 0)) al)) (one (is_load c i (origin_at ss a)))
      ∙ (ap (max (last_at (λ n. is_load c i (origin_at ss a) && member a (operands (node_at ns n))) 0 comps))
      (reads_last c i al (λ b t. h b (or_second (eqb b a) (member b al) t)))
      ∙ last_or (λ n. is_load c i (origin_at ss a) && member a (operands (node_at ns n))) (reader c i al) 0 comps)
    where
      one : (t : Bool) → cond t (get_or (last_reads ns 0 comps (replicate (length ns) 0)) a 0) 0 ≡ last_at (λ n. t && member a (operands (node_at ns n))) 0 comps
      one false = sym (last_false 0 comps)
      one true =
          read_is ns a 0 comps (replicate (length ns) 0) (rw (length-replicate {A = ℕ} (length ns) 0) (h a (or_first (eqb a a) (member a al) (eqb_refl a))))
          ∙ (ap (or_else (last_at (λ n. member a (operands (node_at ns n))) 0 comps)) (zeros_at (length ns) a) ∙ or_zero
          (last_at (λ n. member a (operands (node_at ns n))) 0 comps))

  -- a node that loads the memory is in the table
  reader_is : (c i n : ℕ) → reader c i (count_up 0 (length ns)) n ≡ any_of (λ a. is_load c i (origin_at ss a)) (operands (node_at ns n))
  reader_is c i n =
      same_test (reader c i (count_up 0 (length ns)) n) (any_of (λ a. is_load c i (origin_at ss a)) (operands (node_at ns n)))
      (λ t.
      let r = any_is (λ a. is_load c i (origin_at ss a) && member a (operands (node_at ns n))) (count_up 0 (length ns)) t in
      any_at (λ a. is_load c i (origin_at ss a)) (operands (node_at ns n)) r.0
      (and_second (is_load c i (origin_at ss r.0)) (member r.0 (operands (node_at ns n))) r.2)
      (and_first (is_load c i (origin_at ss r.0)) (member r.0 (operands (node_at ns n))) r.2))
      (λ t.
      let r = any_is (λ a. is_load c i (origin_at ss a)) (operands (node_at ns n)) t in
      let l : r.0 < length ss = origin_inside ss r.0 (load_origin c i (origin_at ss r.0) r.2) in
      any_at (λ a. is_load c i (origin_at ss a) && member a (operands (node_at ns n))) (count_up 0 (length ns)) r.0
      (count_up_member 0 (length ns) r.0 (omega arith) (omega (arith, l, len)))
      (and_both (is_load c i (origin_at ss r.0)) (member r.0 (operands (node_at ns n))) r.2 r.1))

  after_is : (ws : List Write) (w : Write) → w.value < length ns → after ns ss ws comps w ≡ last_at (waits ns ss w) 0 comps
  unfolding waits
  after_is ws w l =
      let p : ℕ → Bool = λ n. eqb n w.value in
      let q : ℕ → Bool = λ n. any_of (λ a. is_load (w.code - 6) w.index (origin_at ss a)) (operands (node_at ns n)) in
      let e₁ : get_or (positions 0 comps (replicate (length ns) 0)) w.value 0 ≡ last_at p 0 comps =
      position_is w.value 0 comps (replicate (length ns) 0) (rw (length-replicate {A = ℕ} (length ns) 0) l)
      ∙ (ap (or_else (last_at p 0 comps)) (zeros_at (length ns) w.value) ∙ or_zero (last_at p 0 comps)) in
      let e₂ : old_reads ss (w.code - 6) w.index (last_reads ns 0 comps (replicate (length ns) 0)) (count_up 0 (length ns)) ≡ last_at q 0 comps =
      reads_last (w.code - 6) w.index (count_up 0 (length ns)) (λ a t. omega (arith, count_up_below 0 (length ns) a t))
      ∙ last_ext (reader (w.code - 6) w.index (count_up 0 (length ns))) q 0 comps (reader_is (w.code - 6) w.index) in
      (λ i. max (e₁ i) (e₂ i)) ∙ last_or p q 0 comps

-- ---- the two schedules

filter_ext : (P : Write → Type 0) (p q : Write → Bool) (ws : List Write) → AllWrites P ws → ((w : Write) → P w → p w ≡ q w) → filter p ws ≡ filter q ws
filter_ext P p q [] a h = refl
filter_ext P p q (w ∷ ws) a h = rw (h w a.0, filter_ext P p q ws a.1 h)

-- at ordinal k, computation n: the write comes here exactly when n is the last for which it waits
comes_here : (p : ℕ → Bool) (done : List ℕ) (n : ℕ) (rest : List ℕ) → eqb (last_at p 0 (done ++ (n ∷ rest))) (suc (length done)) ≡ (p n && not (any_of p rest))
comes_here p done n rest = rw (last_append p 0 done (n ∷ rest)) (go (any_of p rest) refl (p n))
  where
    z : 0 + length done ≡ length done
    z = omega arith

    go : (u : Bool) → any_of p rest ≡ u → (t : Bool)
        → eqb (or_else (or_else (last_at p (suc (0 + length done)) rest) (cond t (suc (0 + length done)) 0)) (last_at p 0 done)) (suc (length done)) ≡ (t && not u)
    go true q t =
        let s = last_some p (suc (0 + length done)) rest q in
        let g = last_ge p (suc (0 + length done)) rest s.0 s.1 in
        rw (s.1, ne_eqb (suc s.0) (suc (length done)) (λ (y : suc s.0 ≡ suc (length done)). omega (arith, g))) (off t)
      where
        off : (t : Bool) → false ≡ (t && false)
        off true = refl
        off false = refl
    go false q true = rw (last_none p (suc (0 + length done)) rest q, z) (is_true (eqb (suc (length done)) (suc (length done))) (eqb_refl (suc (length done))))
    go false q false =
        rw (last_none p (suc (0 + length done)) rest q)
        (ne_eqb (last_at p 0 done) (suc (length done)) (λ (y : last_at p 0 done ≡ suc (length done)). omega (arith, last_le p 0 done)))

comes_first : (p : ℕ → Bool) (comps : List ℕ) → eqb (last_at p 0 comps) 0 ≡ not (any_of p comps)
comes_first p comps = go (any_of p comps) refl
  where
    go : (u : Bool) → any_of p comps ≡ u → eqb (last_at p 0 comps) 0 ≡ not u
    go true q = let s = last_some p 0 comps q in rw s.1 (ne_eqb (suc s.0) 0 (λ (y : suc s.0 ≡ 0). omega arith))
    go false q = rw (last_none p 0 comps q)

module _ (ns : List Node) (ss : List Origin) (len : length ss ≡ length ns) (ws : List Write) (inside : AllWrites (λ w. w.value < length ns) ws) where
  ops_same : (done rest : List ℕ) → ordinal_tasks ns ss ws (done ++ rest) (length done) rest ≡ schedule_from ns ss ws rest
  unfolding schedule_from
  ops_same done [] = refl
  ops_same done (n ∷ rest) =
      let comps : List ℕ = done ++ (n ∷ rest) in
      let f = filter_ext (λ w. w.value < length ns) (λ w. eqb (after ns ss ws comps w) (suc (length done)))
      (λ w. waits ns ss w n && not (any_of (waits ns ss w) rest)) ws inside (λ w l.
      ap (λ (x : ℕ). eqb x (suc (length done))) (after_is ns ss len comps ws w l) ∙ comes_here (waits ns ss w) done n rest) in
      let e : length (done ++ (n ∷ [])) ≡ suc (length done) = length-append done (n ∷ []) ∙ omega arith in
      let ih : ordinal_tasks ns ss ws comps (suc (length done)) rest ≡ schedule_from ns ss ws rest =
      subst (λ (k : ℕ). ordinal_tasks ns ss ws comps k rest ≡ schedule_from ns ss ws rest) e
      (subst (λ (l : List ℕ). ordinal_tasks ns ss ws l (length (done ++ (n ∷ []))) rest ≡ schedule_from ns ss ws rest) (append_snoc done n rest)
      (ops_same (done ++ (n ∷ [])) rest)) in
      λ i. compute_task n ∷ (tasks_of (f i) ++ ih i)

  -- `sample_schedule` is the schedule
  pub ordinals_same : (comps : List ℕ) (out : ℕ) → ordinal_schedule ns ss ws comps out ≡ schedule ns ss ws comps out
  unfolding schedule
  ordinals_same comps out =
      let f = filter_ext (λ w. w.value < length ns) (λ w. eqb (after ns ss ws comps w) 0) (λ w. not (any_of (waits ns ss w) comps)) ws inside (λ w l.
      ap (λ (x : ℕ). eqb x 0) (after_is ns ss len comps ws w l) ∙ comes_first (waits ns ss w) comps) in
      λ i. tasks_of (f i) ++ (ops_same [] comps i ++ (store_task 12 0 out ∷ []))
