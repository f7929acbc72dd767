-- The digits of a pair of words and where a node stands in the tree by them. A walk meets, at depth m, only nodes of its code that share its first m digits
-- (`spot_same`): that bounds it (Depth). Assumes nothing.
use Rattle.std.specs.Prelude.{◌≡◌, ◌⊎◌, List, ℕ, zero, suc, ◌*◌, ◌/◌, ◌%◌, ◌≤◌, ◌<◌}
use Rattle.std.proofs.Common.{sym, ap, ◌∙◌, inl, inr, div-add-mod', eq-or-lt_of_le, le_of_suc-le-suc, arith}
use Rattle.block.specs.Block.{code}
use Rattle.classes.specs.ClassLaws.{own_first, own_second}
use Rattle.classes.specs.Start.{root, root_same}
use Rattle.classes.specs.Tree.{child, child_same, root_child}

-- digit j of the pair (x, y): the bits of both in turn, lowest first
unfoldable pub digit : ℕ → ℕ → ℕ → ℕ
digit zero x y = x % 2
digit (suc j) x y = digit j y (x / 2)

-- the first m digits of (x, y) and (u, v) agree
abbrev pub Agree : ℕ → ℕ → ℕ → ℕ → ℕ → Type 0
Agree m x y u v = (j : ℕ) → j < m → digit j x y ≡ digit j u v

pub agree_more : (m x y u v : ℕ) → Agree m x y u v → digit m x y ≡ digit m u v → Agree (suc m) x y u v
agree_more m x y u v g e j h = go (eq-or-lt_of_le (le_of_suc-le-suc h))
  where
    go : (j ≡ m) ⊎ (j < m) → digit j x y ≡ digit j u v
    go (inl q) = rw q e
    go (inr q) = g j q

-- 2^bits
unfoldable pub limit : ℕ → ℕ
limit zero = 1
limit (suc bits) = limit bits * 2

halves : (x u : ℕ) → x % 2 ≡ u % 2 → x / 2 ≡ u / 2 → x ≡ u
halves x u p q = let e = div-add-mod' x 2 in let f = div-add-mod' u 2 in omega arith

-- pairs of words of so many bits that agree in all their digits are equal
pub agree_all : (bits x y u v : ℕ) → x < limit bits → y < limit bits → u < limit bits → v < limit bits → Agree (bits * 2) x y u v → (x ≡ u) × (y ≡ v)
unfolding digit limit
agree_all zero x y u v h i j l g = (omega arith, omega arith)
agree_all (suc bits) x y u v h i j l g =
    let r = agree_all bits (x / 2) (y / 2) (u / 2) (v / 2) (omega arith) (omega arith) (omega arith) (omega arith) (λ m o. g (suc (suc m)) (omega arith)) in
    (halves x u (g 0 (omega arith)) r.0, halves y v (g 1 (omega arith)) r.1)

-- ---- where a key belongs

-- cell `at`, m nodes below the root, is where the digits of the key (c, x, y) lead, the first n nodes being in at these depths
pub data Spot (nodes : List ℕ) (count n : ℕ) (depth : ℕ → ℕ) (c x y m at : ℕ) : Type 0 where
  top : at ≡ root count c x y → m ≡ 0 → Spot nodes count n depth c x y m at
  under : (p z : ℕ) → p < n → at ≡ child count p z → m ≡ suc (depth p) → code nodes p ≡ c → Agree (depth p) x y (own_first nodes p) (own_second nodes p)
      → digit (depth p) x y ≡ z % 2 → Spot nodes count n depth c x y m at

module _ {nodes : List ℕ} {count n : ℕ} {depth : ℕ → ℕ} where
  -- keys that lead to one cell have one code, one depth, and agree in the digits taken
  pub spot_same : {c x y m d u v k at : ℕ} → n ≤ count → Spot nodes count n depth c x y m at → Spot nodes count n depth d u v k at
      → (c ≡ d) × ((m ≡ k) × Agree m x y u v)
  spot_same {c} {x} {y} {m} {d} {u} {v} {k} h (top e z) (top f w) =
      (root_same count c x y d u v (sym e ∙ f), (z ∙ sym w, λ j l. absurd (omega arith)))
  spot_same {c} {x} {y} h (top e z) (under p b l f w g a s) = absurd (root_child count c x y p b (omega arith) (sym e ∙ f))
  spot_same {d = d} {u = u} {v = v} h (under p b l f w g a s) (top e z) = absurd (root_child count d u v p b (omega arith) (sym e ∙ f))
  spot_same {c} {x} {y} {m} {d} {u} {v} {k} h (under p b l e z g a s) (under q w o f r t i j) =
      let (same, bit) = child_same count p b q w (sym e ∙ f) in
      let ends : depth p ≡ depth q = ap depth same in
      let more : Agree (suc (depth p)) x y u v =
      agree_more (depth p) x y u v
      (λ n l. a n l ∙ (ap (λ k. digit n (own_first nodes k) (own_second nodes k)) same ∙ sym (i n (omega arith))))
      (s ∙ bit ∙ sym j ∙ ap (λ k. digit k u v) (sym ends)) in
      (sym g ∙ ap (code nodes) same ∙ t, (z ∙ ap suc ends ∙ sym r, λ n l. more n (omega arith)))

  -- what leads to the cell where the walks for a key begin has its code
  pub spot_root : {c x y m : ℕ} (d u v : ℕ) → n ≤ count → Spot nodes count n depth c x y m (root count d u v) → c ≡ d
  spot_root {c} {x} {y} d u v h (top e z) = sym (root_same count d u v c x y e)
  spot_root d u v h (under p b l e z g a s) = absurd (root_child count d u v p b (omega arith) e)

  -- what leads to a cell of node p has its code, and p is among the first n
  pub spot_child : {c x y m : ℕ} (p z : ℕ) → n ≤ count → p < count → Spot nodes count n depth c x y m (child count p z) → (c ≡ code nodes p) × (p < n)
  spot_child {c} {x} {y} p z h l (top e o) = absurd (root_child count c x y p z l (sym e))
  spot_child p z h l (under q b o e w g a s) = let k = (child_same count p z q b e).0 in (sym g ∙ ap (code nodes) (sym k), omega arith)

  -- more nodes, at depths that are as they were for the first n
  pub spot_more : {c x y m at : ℕ} (more : ℕ) (deeper : ℕ → ℕ) → n ≤ more → ((p : ℕ) → p < n → deeper p ≡ depth p) → Spot nodes count n depth c x y m at
      → Spot nodes count more deeper c x y m at
  spot_more more deeper h f (top e z) = top e z
  spot_more {x = x} {y = y} more deeper h f (under p b l e z g a s) =
      let q = f p l in
      under p b (omega arith) e (z ∙ ap suc (sym q)) g (λ j o. a j (omega arith)) (ap (λ k. digit k x y) q ∙ s)
