-- Reachability, hoisting flags, and lists of nodes in order. Assumes nothing.
use Rattle.std.proofs.Common.{◌∙◌, sym, inl, inr, arith, length-append, length-set, get_or-set_other, get_or-set_same, eqb→eq}
use Rattle.std.specs.Prelude.{◌≡◌, ◌⊎◌, Bool, ◌&&◌, ◌||◌, true, get_or, length, set, eqb}
use Rattle.std.proofs.Math.Path.{refl}
use Rattle.std.proofs.Math.Bool.{cond, false}
use mathlib.Core.List.{List, [], ◌++◌, ◌∷◌}
use Prim.Native.Nat.{◌+◌, ◌<◌, ◌≤◌, suc, zero, ℕ}
use Rattle.std.proofs.Math.Decide.{ℕ_discrete}
use Rattle.std.proofs.Math.ListN.{get_or-append}
use Rattle.std.proofs.Math.Seq.{get_or-append_seam}
use Rattle.std.proofs.Math.Dec.{T, eqb_refl}
use Rattle.tables.specs.Tests.{or_pass}
use Rattle.plan.specs.Nodes.{Node, input_node, network_node, constant_node, parameter_node, state_node, delay_node, binary_node, unary_node, operands, node_at}
use Rattle.plan.specs.Hoist.{invariant_node, invariants, mark_all, sweep}
use Rattle.plan.specs.Lists.{member}
use Rattle.plan.specs.TestLaws.{or_first, or_second, and_first, and_second, and_both}

-- ---- marks

-- marking keeps the number of flags
pub length_mark_all : (l : List ℕ) (m : List Bool) → length (mark_all l m) ≡ length m
length_mark_all [] m = refl
length_mark_all (n ∷ ns) m = length_mark_all ns (set m n true) ∙ length-set m n true

-- a mark stays marked
pub set_mark : (m : List Bool) (n j : ℕ) → T (get_or m j false) → T (get_or (set m n true) j false)
set_mark [] n j t = t
set_mark (x ∷ xs) zero zero t = tt
set_mark (x ∷ xs) zero (suc j) t = t
set_mark (x ∷ xs) (suc n) zero t = t
set_mark (x ∷ xs) (suc n) (suc j) t = set_mark xs n j t

-- .. and every mark
pub mark_mono : (l : List ℕ) (m : List Bool) (j : ℕ) → T (get_or m j false) → T (get_or (mark_all l m) j false)
mark_mono [] m j t = t
mark_mono (n ∷ ns) m j t = mark_mono ns (set m n true) j (set_mark m n j t)

-- what is listed is marked
pub mark_in : (l : List ℕ) (m : List Bool) (j : ℕ) → T (member j l) → j < length m → T (get_or (mark_all l m) j false)
mark_in [] m j t h = absurd t
mark_in (n ∷ ns) m j t h = go (or_pass (eqb j n) (member j ns) t) (λ u. mark_in ns (set m n true) j u (rw length-set h))
  where
    go : T (eqb j n) ⊎ T (member j ns) → (T (member j ns) → T (get_or (mark_all ns (set m n true)) j false)) → T (get_or (mark_all ns (set m n true)) j false)
    go (inl u) ih =
        let z : j ≡ n = eqb→eq j n u in
        mark_mono ns (set m n true) j (rw (← z, get_or-set_same m j true false h) tt)
    go (inr u) ih = ih u

-- a mark is old or listed
pub mark_inv : (l : List ℕ) (m : List Bool) (j : ℕ) → T (get_or (mark_all l m) j false) → T (member j l) ⊎ T (get_or m j false)
mark_inv [] m j t = inr t
mark_inv (n ∷ ns) m j t = go (ℕ_discrete j n) (mark_inv ns (set m n true) j t)
  where
    go : Dec (j ≡ n) → T (member j ns) ⊎ T (get_or (set m n true) j false) → T (eqb j n || member j ns) ⊎ T (get_or m j false)
    go (yes z) c = inl (or_first (eqb j n) (member j ns) (rw z (eqb_refl n)))
    go (no z) (inl u) = inl (or_second (eqb j n) (member j ns) u)
    go (no z) (inr u) = inr (rw (get_or-set_other m n j true false z) at u)

-- every operand stands before its node
abbrev pub Ordered : List Node → Type 0
Ordered ns = (n a : ℕ) → T (member a (operands (node_at ns n))) → a < n

pick : (b : Bool) (l : List ℕ) (j : ℕ) → T (member j (cond b l [])) → T b × T (member j l)
pick true l j t = (tt, t)
pick false l j t = absurd t

module _ (ns : List Node) (down : ℕ → Bool) where
  abbrev stepm : ℕ → List Bool → List Bool
  stepm k m = mark_all (cond (get_or m k false && down k) (operands (node_at ns k)) []) m

  -- the sweep keeps the number of flags
  pub length_sweep : (k : ℕ) (m : List Bool) → length (sweep ns down k m) ≡ length m
  unfolding sweep
  length_sweep zero m = refl
  length_sweep (suc k) m = length_sweep k (stepm k m) ∙ length_mark_all (cond (get_or m k false && down k) (operands (node_at ns k)) []) m

  -- .. and every mark
  pub sweep_mono : (k : ℕ) (m : List Bool) (j : ℕ) → T (get_or m j false) → T (get_or (sweep ns down k m) j false)
  unfolding sweep
  sweep_mono zero m j t = t
  sweep_mono (suc k) m j t = sweep_mono k (stepm k m) j (mark_mono (cond (get_or m k false && down k) (operands (node_at ns k)) []) m j t)

  -- what the marks have and operands inherit, all marked nodes have
  pub sweep_all : (P : ℕ → Type 0) → ((n a : ℕ) → T (down n) → T (member a (operands (node_at ns n))) → P n → P a)
      → (k : ℕ) (m : List Bool) → ((n : ℕ) → T (get_or m n false) → P n) → (n : ℕ) → T (get_or (sweep ns down k m) n false) → P n
  unfolding sweep
  sweep_all P her zero m h n t = h n t
  sweep_all P her (suc k) m h n t =
      sweep_all P her k (stepm k m)
      (λ j u. new j (mark_inv (cond (get_or m k false && down k) (operands (node_at ns k)) []) m j u))
      n t
    where
      new : (j : ℕ) → T (member j (cond (get_or m k false && down k) (operands (node_at ns k)) [])) ⊎ T (get_or m j false) → P j
      new j (inl u) =
          let p : T (get_or m k false && down k) × T (member j (operands (node_at ns k))) = pick (get_or m k false && down k) (operands (node_at ns k)) j u in
          her k j (and_second (get_or m k false) (down k) p.0) p.1 (h k (and_first (get_or m k false) (down k) p.0))
      new j (inr u) = h j u

  module _ (ord : Ordered ns) where
    -- nodes at k and above keep their marks
    sweep_high : (k : ℕ) (m : List Bool) (j : ℕ) → k ≤ j → T (get_or (sweep ns down k m) j false) → T (get_or m j false)
    unfolding sweep
    sweep_high zero m j h t = t
    sweep_high (suc k) m j h t = go (mark_inv (cond (get_or m k false && down k) (operands (node_at ns k)) []) m j (sweep_high k (stepm k m) j (omega arith) t))
      where
        go : T (member j (cond (get_or m k false && down k) (operands (node_at ns k)) [])) ⊎ T (get_or m j false) → T (get_or m j false)
        go (inl u) =
            let lt : j < k = ord k j (pick (get_or m k false && down k) (operands (node_at ns k)) j u).1 in
            absurd (omega arith)
        go (inr u) = u

    -- a marked node below k through which the walk goes has its operands marked
    pub sweep_closed : (k : ℕ) (m : List Bool) → k ≤ length m → (n a : ℕ) → n < k → T (get_or (sweep ns down k m) n false) → T (down n)
        → T (member a (operands (node_at ns n)))
        → T (get_or (sweep ns down k m) a false)
    unfolding sweep
    sweep_closed zero m l n a h t d u = absurd (omega arith)
    sweep_closed (suc k) m l n a h t d u = go (ℕ_discrete n k) (λ h'. sweep_closed k (stepm k m) (rw length_mark_all (omega arith)) n a h' t d u)
      where
        L : List ℕ
        L = cond (get_or m k false && down k) (operands (node_at ns k)) []

        at_k : n ≡ k → T (get_or (sweep ns down k (stepm k m)) a false)
        at_k z =
            let tk : T (get_or (sweep ns down k (stepm k m)) k false) = rw z at t in
            let m1 : T (get_or (stepm k m) k false) = sweep_high k (stepm k m) k (omega arith) tk in
            let m0 : T (get_or m k false) = old (mark_inv L m k m1) in
            let dk : T (down k) = rw z at d in
            let uk : T (member a (operands (node_at ns k))) = rw z at u in
            let both : T (get_or m k false && down k) = and_both (get_or m k false) (down k) m0 dk in
            let lt : a < k = ord k a uk in
            sweep_mono k (stepm k m) a (mark_in L m a (chosen (get_or m k false && down k) (operands (node_at ns k)) both uk) (omega arith))
          where
            old : T (member k L) ⊎ T (get_or m k false) → T (get_or m k false)
            old (inl w) = let lt : k < k = ord k k (pick (get_or m k false && down k) (operands (node_at ns k)) k w).1 in absurd (omega arith)
            old (inr w) = w

            chosen : (b : Bool) (l : List ℕ) → T b → T (member a l) → T (member a (cond b l []))
            chosen true l x y = y
            chosen false l x y = absurd x

        go : Dec (n ≡ k) → (n < k → T (get_or (sweep ns down k (stepm k m)) a false)) → T (get_or (sweep ns down k (stepm k m)) a false)
        go (yes z) ih = at_k z
        go (no z) ih = ih (omega arith)

-- ---- hoisting flags

inv_length : (xs : List Node) (fl : List Bool) → length (invariants xs fl) ≡ length fl + length xs
unfolding invariants
inv_length [] fl = omega arith
inv_length (x ∷ xs) fl = omega (arith, inv_length xs (fl ++ (invariant_node x fl ∷ [])), length-append fl (invariant_node x fl ∷ []))

inv_old : (xs : List Node) (fl : List Bool) (j : ℕ) → j < length fl → get_or (invariants xs fl) j false ≡ get_or fl j false
unfolding invariants
inv_old [] fl j h = refl
inv_old (x ∷ xs) fl j h =
    inv_old xs (fl ++ (invariant_node x fl ∷ [])) j (omega (arith, length-append fl (invariant_node x fl ∷ []))) ∙ get_or-append fl (invariant_node x fl ∷ [])
    false j h

-- flag n of the whole is node n's, from the flags before it
inv_at : (xs : List Node) (fl : List Bool) (j : ℕ) → j < length xs
    → (gl : List Bool) × (get_or (invariants xs fl) (length fl + j) false ≡ invariant_node (node_at xs j) gl) × (length gl ≡ length fl + j)
    × ((i : ℕ) → i < length gl → get_or gl i false ≡ get_or (invariants xs fl) i false)
unfolding invariants
inv_at [] fl j h = absurd (omega arith)
inv_at (x ∷ xs) fl zero h =
    let fl' : List Bool = fl ++ (invariant_node x fl ∷ []) in
    let lz : length fl + 0 ≡ length fl = omega arith in (
      fl,
      rw lz (inv_old xs fl' (length fl) (omega (arith, length-append fl (invariant_node x fl ∷ []))) ∙ get_or-append_seam fl (invariant_node x fl) [] false),
      sym lz,
      λ i l. sym (inv_old xs fl' i (omega (arith, length-append fl (invariant_node x fl ∷ []))) ∙ get_or-append fl (invariant_node x fl ∷ []) false i l),
    )
inv_at (x ∷ xs) fl (suc j) h =
    let fl' : List Bool = fl ++ (invariant_node x fl ∷ []) in
    let r : (gl : List Bool) × (get_or (invariants xs fl') (length fl' + j) false ≡ invariant_node (node_at xs j) gl) × (length gl ≡ length fl' + j)
    × ((i : ℕ) → i < length gl → get_or gl i false ≡ get_or (invariants xs fl') i false)
    = inv_at xs fl' j (omega arith) in
    let e : length fl' + j ≡ length fl + suc j = omega (arith, length-append fl (invariant_node x fl ∷ [])) in
    (r.0, rw e at r.1, r.2 ∙ e, r.3)

inv_node : (x : Node) (gl : List Bool) → T (invariant_node x gl) → (a : ℕ) → T (member a (operands x)) → T (get_or gl a false)
inv_node input_node gl t a u = absurd u
inv_node network_node gl t a u = absurd u
inv_node (constant_node b) gl t a u = absurd u
inv_node (parameter_node i) gl t a u = absurd u
inv_node (state_node i) gl t a u = absurd u
inv_node (delay_node i) gl t a u = absurd u
inv_node (binary_node k x y) gl t a u = go (or_pass (eqb a x) (eqb a y || false) u)
  where
    go₂ : T (eqb a y) ⊎ ⊥ → T (get_or gl a false)
    go₂ (inl w) = rw (eqb→eq a y w) (and_second (get_or gl x false) (get_or gl y false) t)
    go₂ (inr w) = absurd w

    go : T (eqb a x) ⊎ T (eqb a y || false) → T (get_or gl a false)
    go (inl w) = rw (eqb→eq a x w) (and_first (get_or gl x false) (get_or gl y false) t)
    go (inr w) = go₂ (or_pass (eqb a y) false w)
inv_node (unary_node k x) gl t a u = go (or_pass (eqb a x) false u)
  where
    go : T (eqb a x) ⊎ ⊥ → T (get_or gl a false)
    go (inl w) = rw (eqb→eq a x w) t
    go (inr w) = absurd w

-- operands of a hoistable node are hoistable
pub inv_closed : (ns : List Node) → Ordered ns → (n a : ℕ) → n < length ns → T (get_or (invariants ns []) n false) → T (member a (operands (node_at ns n)))
    → T (get_or (invariants ns []) a false)
inv_closed ns ord n a h t u =
    let r = inv_at ns [] n h in
    let z : 0 + n ≡ n = omega arith in
    let t' : T (invariant_node (node_at ns n) r.0) = rw r.1 at (rw (← z) at t) in
    let lt : a < length r.0 = omega (arith, r.2, ord n a u) in
    rw (r.3 a lt) at (inv_node (node_at ns n) r.0 t' a u)

-- a hoistable node that is not computed is a constant or a parameter
pub inv_leaf : (ns : List Node) (n : ℕ) → n < length ns → T (get_or (invariants ns []) n false) → (gl : List Bool) × T (invariant_node (node_at ns n) gl)
inv_leaf ns n h t =
    let r = inv_at ns [] n h in
    let z : 0 + n ≡ n = omega arith in
    (r.0, rw r.1 at (rw (← z) at t))

-- a node has two operands at most
pub two_operands : (x : Node) → length (operands x) ≤ 2
two_operands input_node = omega arith
two_operands network_node = omega arith
two_operands (constant_node b) = omega arith
two_operands (parameter_node i) = omega arith
two_operands (state_node i) = omega arith
two_operands (delay_node i) = omega arith
two_operands (binary_node k a b) = omega arith
two_operands (unary_node k a) = omega arith
