-- codegen.rs: `reachable` with its stack marks the same nodes as the sweep: `reachable_same`. Assumes nothing.
use Rattle.std.proofs.Common.{◌∙◌, ap, subst, sym, inl, inr, arith, length-append, length-set, get_or-set_other, get_or-set_same, eqb→eq}
use Rattle.std.specs.Prelude.{◌≡◌, refl, ◌⊎◌, Bool, ◌||◌, cond, false, true, List, [], ◌++◌, ◌∷◌, ◌*◌, ◌+◌, ◌<◌, ◌≤◌, suc, zero, ℕ, get_or, length, replicate, set, T, eqb}
use Rattle.std.proofs.Math.Decide.{ℕ_discrete}
use Rattle.std.proofs.lemmas.List.{length-replicate}
use Rattle.std.proofs.Math.Dec.{eqb_refl}
use Rattle.tables.specs.Tests.{or_pass}
use Rattle.plan.specs.Lists.{member}
use Rattle.plan.specs.Nodes.{Node, operands, node_at}
use Rattle.plan.specs.Hoist.{mark_all, sweep}
use Rattle.plan.specs.RustPlan.{backwards, turns, reachable}
use Rattle.plan.specs.TestLaws.{or_first, or_second}
use Rattle.plan.specs.ListLaws.{flag_inside, member_append, member_left, member_right, none_seen}
use Rattle.plan.specs.Reached.{set_mark, two_operands, Ordered, mark_in, mark_inv, length_mark_all, length_sweep, sweep_mono, sweep_all, sweep_closed}

-- ---- lists

back_in : (xs : List ℕ) (a : ℕ) → T (member a xs) → T (member a (backwards xs))
back_in [] a t = t
back_in (x ∷ xs) a t = go (or_pass (eqb a x) (member a xs) t) (back_in xs a)
  where
    go : T (eqb a x) ⊎ T (member a xs) → (T (member a xs) → T (member a (backwards xs))) → T (member a (backwards xs ++ (x ∷ [])))
    go (inl u) ih = member_right (backwards xs) (x ∷ []) a (or_first (eqb a x) false u)
    go (inr u) ih = member_left (backwards xs) (x ∷ []) a (ih u)

back_out : (xs : List ℕ) (a : ℕ) → T (member a (backwards xs)) → T (member a xs)
back_out [] a t = t
back_out (x ∷ xs) a t = go (member_append (backwards xs) (x ∷ []) a t) (back_out xs a)
  where
    last : T (eqb a x) ⊎ ⊥ → T (eqb a x || member a xs)
    last (inl u) = or_first (eqb a x) (member a xs) u
    last (inr u) = absurd u

    go : T (member a (backwards xs)) ⊎ T (member a (x ∷ [])) → (T (member a (backwards xs)) → T (member a xs)) → T (eqb a x || member a xs)
    go (inl u) ih = or_second (eqb a x) (member a xs) (ih u)
    go (inr u) ih = last (or_pass (eqb a x) false u)

back_length : (xs : List ℕ) → length (backwards xs) ≡ length xs
back_length [] = refl
back_length (x ∷ xs) = omega (arith, length-append (backwards xs) (x ∷ []), back_length xs)

-- how many are not seen
unseen : List Bool → ℕ
unseen [] = 0
unseen (true ∷ bs) = unseen bs
unseen (false ∷ bs) = suc (unseen bs)

unseen_set : (bs : List Bool) (n : ℕ) → n < length bs → get_or bs n false ≡ false → unseen bs ≡ suc (unseen (set bs n true))
unfolding unseen
unseen_set [] n l h = absurd (omega arith)
unseen_set (true ∷ bs) zero l h = let z : ◌≡◌ {A = ℕ} 0 1 = cc in absurd (omega arith)
unseen_set (false ∷ bs) zero l h = refl
unseen_set (true ∷ bs) (suc n) l h = unseen_set bs n (omega arith) h
unseen_set (false ∷ bs) (suc n) l h = ap suc (unseen_set bs n (omega arith) h)

unseen_all : (n : ℕ) → unseen (replicate n false) ≡ n
unfolding unseen
unseen_all zero = refl
unseen_all (suc n) = ap suc (unseen_all n)

set_true : (bs : List Bool) (n : ℕ) → n < length bs → (j : ℕ) → T (get_or (set bs n true) j false) → (j ≡ n) ⊎ T (get_or bs j false)
set_true bs n l j t = go (ℕ_discrete j n)
  where
    go : Dec (j ≡ n) → (j ≡ n) ⊎ T (get_or bs j false)
    go (yes z) = inl z
    go (no z) = inr (rw (get_or-set_other bs n j true false z) at t)

set_hits : (bs : List Bool) (n : ℕ) → n < length bs → T (get_or (set bs n true) n false)
set_hits bs n l = rw (get_or-set_same bs n true false l) tt

-- ---- the loop

module _ (ns : List Node) (down : ℕ → Bool) (ord : Ordered ns) where
  abbrev next : ℕ → List ℕ
  next n = cond (down n) (operands (node_at ns n)) []

  -- what is seen or pending is in any closed set, so what the loop marks is
  marks_only : (P : ℕ → Type 0) → ((n a : ℕ) → T (down n) → T (member a (operands (node_at ns n))) → P n → P a) → (f : ℕ) (seen : List Bool) (pending : List ℕ)
      → ((n : ℕ) → T (get_or seen n false) → P n) → ((n : ℕ) → T (member n pending) → P n) → (n : ℕ) → T (get_or (turns ns down f seen pending) n false) → P n
  marks_only P cl zero seen pending hs hp n t = hs n t
  marks_only P cl (suc f) seen [] hs hp n t = hs n t
  marks_only P cl (suc f) seen (x ∷ pending) hs hp n t =
      go (get_or seen x false) (λ u. marks_only P cl f seen pending hs pr n u)
      (λ u. marks_only P cl f (set seen x true) (backwards (next x) ++ pending) (λ m w. seen' m (ℕ_discrete m x) w)
      (λ m w. pend m (member_append (backwards (next x)) pending m w)) n u) t
    where
      px : P x
      px = hp x (or_first (eqb x x) (member x pending) (eqb_refl x))

      pr : (m : ℕ) → T (member m pending) → P m
      pr m u = hp m (or_second (eqb m x) (member m pending) u)

      seen' : (m : ℕ) → Dec (m ≡ x) → T (get_or (set seen x true) m false) → P m
      seen' m (yes z) u = subst P (sym z) px
      seen' m (no z) u = hs m (rw (get_or-set_other seen x m true false z) at u)

      child : (d : Bool) → down x ≡ d → (m : ℕ) → T (member m (cond d (operands (node_at ns x)) [])) → P m
      child true q m u = cl x m (rw q tt) u px
      child false q m u = absurd u

      pend : (m : ℕ) → T (member m (backwards (next x))) ⊎ T (member m pending) → P m
      pend m (inl u) = child (down x) refl m (back_out (next x) m u)
      pend m (inr u) = pr m u

      go : (b : Bool) → (T (get_or (turns ns down f seen pending) n false) → P n)
          → (T (get_or (turns ns down f (set seen x true) (backwards (next x) ++ pending)) n false) → P n)
          → T (get_or (cond b (turns ns down f seen pending) (turns ns down f (set seen x true) (backwards (next x) ++ pending))) n false) → P n
      go true ih jh t = ih t
      go false ih jh t = jh t

  -- the operands of what is seen are seen or pending, and what is pending is in the table
  record Ready (seen : List Bool) (pending : List ℕ) : Type 0 where
    closed : (n a : ℕ) → T (get_or seen n false) → T (down n) → T (member a (operands (node_at ns n))) → T (get_or seen a false) ⊎ T (member a pending)
    inside : (a : ℕ) → T (member a pending) → a < length ns
    len : length seen ≡ length ns

  -- what the loop leaves: all that was seen or pending, and closed
  record Left (seen : List Bool) (pending : List ℕ) (out : List Bool) : Type 0 where
    closed : (n a : ℕ) → T (get_or out n false) → T (down n) → T (member a (operands (node_at ns n))) → T (get_or out a false)
    keeps : (n : ℕ) → T (get_or seen n false) → T (get_or out n false)
    takes : (n : ℕ) → T (member n pending) → T (get_or out n false)
    len : length out ≡ length ns

  next_two : (n : ℕ) → length (next n) ≤ 2
  next_two n = go (down n)
    where
      go : (d : Bool) → length (cond d (operands (node_at ns n)) []) ≤ 2
      go true = two_operands (node_at ns n)
      go false = omega arith

  done : (seen : List Bool) → Ready seen [] → Left seen [] seen
  done seen r = record { closed = λ n a t d u. first n a (r.closed n a t d u); keeps = λ n t. t; takes = λ n t. absurd t; len = r.len }
    where
      first : (n a : ℕ) → T (get_or seen a false) ⊎ ⊥ → T (get_or seen a false)
      first n a (inl u) = u
      first n a (inr u) = absurd u

  loop : (f : ℕ) (seen : List Bool) (pending : List ℕ) → 2 * unseen seen + length pending ≤ f → Ready seen pending → Left seen pending (turns ns down f seen pending)
  loop zero seen [] h r = done seen r
  loop zero seen (x ∷ pending) h r = absurd (omega arith)
  loop (suc f) seen [] h r = done seen r
  loop (suc f) seen (x ∷ pending) h r =
      go (get_or seen x false) refl (λ w. loop f seen pending (omega arith) w) (λ l. loop f (set seen x true) (backwards (next x) ++ pending) l enter)
    where
      lx : x < length ns
      lx = r.inside x (or_first (eqb x x) (member x pending) (eqb_refl x))

      ls : x < length seen
      ls = omega (arith, lx, r.len)

      skip : T (get_or seen x false) → Ready seen pending
      skip t = record { closed = λ n a u d w. old a (r.closed n a u d w); inside = λ a u. r.inside a (or_second (eqb a x) (member a pending) u); len = r.len }
        where
          old₂ : (a : ℕ) → T (eqb a x) ⊎ T (member a pending) → T (get_or seen a false) ⊎ T (member a pending)
          old₂ a (inl u) = inl (rw (eqb→eq a x u) t)
          old₂ a (inr u) = inr u

          old : (a : ℕ) → T (get_or seen a false) ⊎ T (member a (x ∷ pending)) → T (get_or seen a false) ⊎ T (member a pending)
          old a (inl u) = inl u
          old a (inr u) = old₂ a (or_pass (eqb a x) (member a pending) u)

      enter : Ready (set seen x true) (backwards (next x) ++ pending)
      enter =
          record {
            closed = λ n a u d w. was n a (set_true seen x ls n u) d w;
            inside = λ a u. ins a (member_append (backwards (next x)) pending a u);
            len = length-set seen x true ∙ r.len;
          }
        where
          old₂ : (a : ℕ) → T (eqb a x) ⊎ T (member a pending) → T (get_or (set seen x true) a false) ⊎ T (member a (backwards (next x) ++ pending))
          old₂ a (inl u) = inl (rw (eqb→eq a x u) (set_hits seen x ls))
          old₂ a (inr u) = inr (member_right (backwards (next x)) pending a u)

          old : (a : ℕ) → T (get_or seen a false) ⊎ T (member a (x ∷ pending)) → T (get_or (set seen x true) a false) ⊎ T (member a (backwards (next x) ++ pending))
          old a (inl u) = inl (set_mark seen x a u)
          old a (inr u) = old₂ a (or_pass (eqb a x) (member a pending) u)

          mine : (d : Bool) → down x ≡ d → T d → (a : ℕ) → T (member a (operands (node_at ns x))) → T (member a (cond d (operands (node_at ns x)) []))
          mine true q t a u = u
          mine false q t a u = absurd t

          was : (n a : ℕ) → (n ≡ x) ⊎ T (get_or seen n false) → T (down n) → T (member a (operands (node_at ns n)))
              → T (get_or (set seen x true) a false) ⊎ T (member a (backwards (next x) ++ pending))
          was n a (inl z) d w = inr (member_left (backwards (next x)) pending a (back_in (next x) a (mine (down x) refl (rw z at d) a (rw z at w))))
          was n a (inr t) d w = old a (r.closed n a t d w)

          kid : (d : Bool) → (a : ℕ) → T (member a (cond d (operands (node_at ns x)) [])) → a < length ns
          kid true a u = omega (arith, ord x a u, lx)
          kid false a u = absurd u

          ins : (a : ℕ) → T (member a (backwards (next x))) ⊎ T (member a pending) → a < length ns
          ins a (inl u) = kid (down x) a (back_out (next x) a u)
          ins a (inr u) = r.inside a (or_second (eqb a x) (member a pending) u)

      go : (b : Bool) → get_or seen x false ≡ b → (Ready seen pending → Left seen pending (turns ns down f seen pending))
          → (2 * unseen (set seen x true) + length (backwards (next x) ++ pending) ≤ f → Left (set seen x true) (backwards (next x) ++ pending)
          (turns ns down f (set seen x true) (backwards (next x) ++ pending)))
          → Left seen (x ∷ pending) (cond b (turns ns down f seen pending) (turns ns down f (set seen x true) (backwards (next x) ++ pending)))
      go true q ih jh =
          let t : T (get_or seen x false) = rw q tt in
          let l = ih (skip t) in
          record { closed = l.closed; keeps = l.keeps; takes = λ n u. tk l n (or_pass (eqb n x) (member n pending) u); len = l.len }
        where
          tk : Left seen pending (turns ns down f seen pending) → (n : ℕ) → T (eqb n x) ⊎ T (member n pending) → T (get_or (turns ns down f seen pending) n false)
          tk l n (inl u) = l.keeps n (rw (eqb→eq n x u, q) tt)
          tk l n (inr u) = l.takes n u
      go false q ih jh =
          let s = unseen_set seen x ls q in
          let e = length-append (backwards (next x)) pending in
          let l = jh (omega (arith, h, s, e, back_length (next x), next_two x)) in
          record {
            closed = l.closed;
            keeps = λ n u. l.keeps n (set_mark seen x n u);
            takes = λ n u. tk l n (or_pass (eqb n x) (member n pending) u);
            len = l.len;
          }
        where
          out : List Bool
          out = turns ns down f (set seen x true) (backwards (next x) ++ pending)

          tk : Left (set seen x true) (backwards (next x) ++ pending) out → (n : ℕ) → T (eqb n x) ⊎ T (member n pending) → T (get_or out n false)
          tk l n (inl u) = l.keeps n (rw (eqb→eq n x u) (set_hits seen x ls))
          tk l n (inr u) = l.takes n (member_right (backwards (next x)) pending n u)

  -- flags that are set together are one table
  pub same_list : (xs ys : List Bool) → length xs ≡ length ys → ((n : ℕ) → T (get_or xs n false) → T (get_or ys n false))
      → ((n : ℕ) → T (get_or ys n false) → T (get_or xs n false)) → xs ≡ ys
  same_list [] [] l f g = refl
  same_list [] (y ∷ ys) l f g = absurd (omega arith)
  same_list (x ∷ xs) [] l f g = absurd (omega arith)
  same_list (x ∷ xs) (y ∷ ys) l f g = λ i. eq x y (f 0) (g 0) i ∷ same_list xs ys (omega arith) (λ n. f (suc n)) (λ n. g (suc n)) i
    where
      eq : (x y : Bool) → (T x → T y) → (T y → T x) → x ≡ y
      eq true true f g = refl
      eq true false f g = absurd (f tt)
      eq false true f g = absurd (g tt)
      eq false false f g = refl

  -- `reachable` marks what the sweep marks
  pub reachable_same : (rs : List ℕ) → ((n : ℕ) → T (member n rs) → n < length ns)
      → reachable ns rs down ≡ sweep ns down (length ns) (mark_all rs (replicate (length ns) false))
  reachable_same rs inside =
      same_list R S (loops.len ∙ sym (length_sweep ns down (length ns) m₀ ∙ len₀))
      (λ n t. marks_only (λ n. T (get_or S n false)) closed (2 * length ns + length rs) (replicate (length ns) false) (backwards rs)
      (λ n u. absurd (rw (none_seen (length ns) n) at u))
      (λ n u. sweep_mono ns down (length ns) m₀ n
      (mark_in rs (replicate (length ns) false) n (back_out rs n u) (rw (length-replicate (length ns) false) (inside n (back_out rs n u))))) n t)
      (λ n t. sweep_all ns down (λ n. T (get_or R n false)) (λ n a d u p. loops.closed n a p d u) (length ns) m₀
      (λ n u. from n (mark_inv rs (replicate (length ns) false) n u)) n t)
    where
      m₀ : List Bool
      m₀ = mark_all rs (replicate (length ns) false)

      S : List Bool
      S = sweep ns down (length ns) m₀

      R : List Bool
      R = reachable ns rs down

      len₀ : length m₀ ≡ length ns
      len₀ = length_mark_all rs (replicate (length ns) false) ∙ length-replicate (length ns) false

      loops : Left (replicate (length ns) false) (backwards rs) R
      loops =
          loop (2 * length ns + length rs) (replicate (length ns) false) (backwards rs) (omega (arith, unseen_all (length ns), back_length rs))
          (record {
            closed = λ n a t d u. absurd (rw (none_seen (length ns) n) at t);
            inside = λ a u. inside a (back_out rs a u);
            len = length-replicate (length ns) false;
          })

      closed : (n a : ℕ) → T (down n) → T (member a (operands (node_at ns n))) → T (get_or S n false) → T (get_or S a false)
      closed n a d u t =
          sweep_closed ns down ord (length ns) m₀ (omega (arith, len₀)) n a (omega (arith, flag_inside S n t, length_sweep ns down (length ns) m₀, len₀)) t d u

      from : (n : ℕ) → T (member n rs) ⊎ T (get_or (replicate (length ns) false) n false) → T (get_or R n false)
      from n (inl u) = loops.takes n (back_in rs n u)
      from n (inr u) = absurd (rw (none_seen (length ns) n) at u)
