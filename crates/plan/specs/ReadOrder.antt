-- After the last reads are noted, each write comes after the last sample computation for which it waits: `after_is`. Assumes nothing.
use Rattle.std.specs.Prelude.{◌≡◌, ◌⊎◌, Bool, true, false, cond, not, ◌&&◌, ◌||◌, length, set, T, eqb, ltb}
use Rattle.std.proofs.Math.Path.{refl}
use Rattle.std.proofs.Common.{sym, ap, ◌∙◌, inl, inr, get_or-set_same, get_or-set_other, eqb→eq, eq-eqb, ne_eqb, ltb-true, ltb-false}
use mathlib.Core.List.{List, [], ◌∷◌}
use Prim.Native.Nat.{ℕ, zero, suc, pred, ◌+◌, ◌-◌, ◌*◌, ◌≤◌, ◌<◌}
use native.Mathlib.Omega.{arith}
use Rattle.std.proofs.Math.Decide.{ℕ_discrete}
use Rattle.std.proofs.Math.Nat.{suc_inj}
use Rattle.std.proofs.Math.ListN.{get_or, length-set}
use Rattle.std.proofs.Math.Dec.{eqb_refl}
use denote.Floats.{is_true}
use Rattle.tables.specs.Loops.{turns}
use Rattle.tables.specs.Tests.{clash, both, neither, or_right, is_false}
use Rattle.plan.specs.declared.Sizes.{Sizes}
use Rattle.plan.specs.Lists.{member, filter, any_of, count_up}
use Rattle.plan.specs.TestLaws.{or_first, or_second, and_both, same_test}
use Rattle.plan.specs.ListLaws.{first_zero, count_up_member}
use Rattle.plan.specs.Nodes.{operands, node_at}
use Rattle.plan.specs.Origins.{Origin, no_origin, immediate, loaded, has_origin, is_load, origin_at, home_of, canonical_as, canonical}
use Rattle.plan.specs.OriginLaws.{is_load_lem, load_origin, origin_inside, home_finds, home_known, home_origin, no_origin_lem, canonical_origin, canonical_computed}
use Rattle.plan.specs.Schedule.{Write, waits}
use Rattle.plan.specs.Layout.{Lent, homes_at}
use Rattle.plan.specs.Words.{operands_in, nodes_to, node_at_lem, operands_in_lem}
use Rattle.plan.specs.HoistLaws.{operand_below}
use Rattle.plan.specs.SampleLaws.{sample_in}
use Rattle.plan.specs.Chains.{read_by, read_by_all, last_node, reader_in, after_in}

-- ---- Generic: the last number below n that passes

-- the last one, and one; 0 is none
abbrev pub last_of : (ℕ → Bool) → ℕ → ℕ
last_of p zero = 0
last_of p (suc n) = cond (p n) (suc n) (last_of p n)

-- it is below n
pub last_low : (p : ℕ → Bool) (n : ℕ) → last_of p n ≤ n
last_low p zero = omega arith
last_low p (suc n) = go (p n) (last_low p n)
  where
    go : (b : Bool) → last_of p n ≤ n → cond b (suc n) (last_of p n) ≤ suc n
    go true l = omega arith
    go false l = omega arith

-- it passes
last_passes : (p : ℕ → Bool) (n m : ℕ) → last_of p n ≡ suc m → p m ≡ true
last_passes p zero m h = absurd (omega arith)
last_passes p (suc n) m h = go (p n) refl h (last_passes p n m)
  where
    go : (b : Bool) → p n ≡ b → cond b (suc n) (last_of p n) ≡ suc m → (last_of p n ≡ suc m → p m ≡ true) → p m ≡ true
    go true e h ih = let z : m ≡ n = suc_inj (sym h) in rw z e
    go false e h ih = ih h

-- none behind it does
last_above : (p : ℕ → Bool) (n m : ℕ) → last_of p n ≤ m → m < n → p m ≡ false
last_above p zero m h l = absurd (omega arith)
last_above p (suc n) m h l = go (p n) refl h (ℕ_discrete m n) (last_above p n m)
  where
    go : (b : Bool) → p n ≡ b → cond b (suc n) (last_of p n) ≤ m → Dec (m ≡ n) → (last_of p n ≤ m → m < n → p m ≡ false) → p m ≡ false
    go true e h d ih = absurd (omega arith)
    go false e h (yes z) ih = rw z e
    go false e h (no z) ih = ih h (omega arith)

-- what is so is it
last_is : (p : ℕ → Bool) (n a : ℕ) → a ≤ n → ((m : ℕ) → a ≤ m → m < n → p m ≡ false) → ((m : ℕ) → a ≡ suc m → p m ≡ true) → last_of p n ≡ a
last_is p zero a l f g = omega arith
last_is p (suc n) a l f g = go (p n) refl (ℕ_discrete a (suc n)) (λ q. last_is p n a q (λ m h k. f m h (omega arith)) g)
  where
    go : (b : Bool) → p n ≡ b → Dec (a ≡ suc n) → (a ≤ n → last_of p n ≡ a) → cond b (suc n) (last_of p n) ≡ a
    go true e (yes z) ih = sym z
    go true e (no z) ih = clash (p n) e (f n (omega arith) (omega arith))
    go false e (yes z) ih = clash (p n) (g n z) e
    go false e (no z) ih = ih (omega arith)

-- tests that agree below n have one
last_same : (p q : ℕ → Bool) (n : ℕ) → ((m : ℕ) → m < n → p m ≡ q m) → last_of p n ≡ last_of q n
last_same p q zero h = refl
last_same p q (suc n) h = rw (h n (omega arith), last_same p q n (λ m l. h m (omega arith)))

-- where v passes as well, it is the later of v, if v counts, and the last of the others
last_later : (c q : ℕ → Bool) (v n : ℕ) → v < n
    → cond (c v) (cond (ltb (last_of (λ m. c m && q m) n) (v + 1)) (v + 1) (last_of (λ m. c m && q m) n)) (last_of (λ m. c m && q m) n)
    ≡ last_of (λ m. c m && (eqb m v || q m)) n
last_later c q v n below = go (c v) (ltb (last_of (λ m. c m && q m) n) (v + 1)) refl refl
  where
    r : ℕ
    r = last_of (λ m. c m && q m) n

    miss : (m : ℕ) → r ≤ m → m < n → (m ≡ v → c m ≡ false) → (c m && (eqb m v || q m)) ≡ false
    miss m h l f = one (ℕ_discrete m v)
      where
        one : Dec (m ≡ v) → (c m && (eqb m v || q m)) ≡ false
        one (yes z) = rw (f z)
        one (no z) = rw (ne_eqb m v z) (last_above (λ m. c m && q m) n m h l)

    hit : (m : ℕ) → r ≡ suc m → (c m && (eqb m v || q m)) ≡ true
    hit m e = let p = both (c m) (q m) (last_passes (λ m. c m && q m) n m e) in rw p.0 (or_right (eqb m v) (q m) p.1)

    own : (m : ℕ) → c v ≡ true → v + 1 ≡ suc m → (c m && (eqb m v || q m)) ≡ true
    own m e z = let y : m ≡ v = omega arith in rw (y, e, eq-eqb v v refl)

    go : (b t : Bool) → c v ≡ b → ltb r (v + 1) ≡ t → cond b (cond t (v + 1) r) r ≡ last_of (λ m. c m && (eqb m v || q m)) n
    go true true e l =
        let k : r < v + 1 = ltb-true r (v + 1) l in
        sym (last_is (λ m. c m && (eqb m v || q m)) n (v + 1) (omega arith) (λ m h g. miss m (omega arith) g (λ (z : m ≡ v). absurd (omega arith))) (λ m z. own m e z))
    go true false e l =
        let k : v + 1 ≤ r = ltb-false r (v + 1) l in
        sym (last_is (λ m. c m && (eqb m v || q m)) n r (last_low (λ m. c m && q m) n) (λ m h g. miss m h g (λ (z : m ≡ v). absurd (omega arith))) hit)
    go false t e l = sym (last_is (λ m. c m && (eqb m v || q m)) n r (last_low (λ m. c m && q m) n) (λ m h g. miss m h g (λ (z : m ≡ v). rw z e)) hit)

-- ---- Generic: the last computation that passes, among those in order

module _ (c p : ℕ → Bool) where
  any_later : (k n : ℕ) → any_of p (filter c (count_up k n)) ≡ false → (m : ℕ) → k ≤ m → m < k + n → (c m && p m) ≡ false
  any_later k zero e m h l = absurd (omega arith)
  any_later k (suc n) e m h l = go (c k) refl e (ℕ_discrete m k) (λ q g. any_later (suc k) n q m g (omega arith))
    where
      go : (b : Bool) → c k ≡ b → any_of p (cond b (k ∷ filter c (count_up (suc k) n)) (filter c (count_up (suc k) n))) ≡ false → Dec (m ≡ k)
          → (any_of p (filter c (count_up (suc k) n)) ≡ false → suc k ≤ m → (c m && p m) ≡ false) → (c m && p m) ≡ false
      go true q e (yes z) ih = rw (z, q) (neither (p k) (any_of p (filter c (count_up (suc k) n))) e).0
      go true q e (no z) ih = ih (neither (p k) (any_of p (filter c (count_up (suc k) n))) e).1 (omega arith)
      go false q e (yes z) ih = rw (z, q)
      go false q e (no z) ih = ih e (omega arith)

  any_empty : (k n : ℕ) → ((m : ℕ) → k ≤ m → m < k + n → (c m && p m) ≡ false) → any_of p (filter c (count_up k n)) ≡ false
  any_empty k zero h = refl
  any_empty k (suc n) h = go (c k) refl (h k (omega arith) (omega arith)) (any_empty (suc k) n (λ m g l. h m (omega arith) (omega arith)))
    where
      go : (b : Bool) → c k ≡ b → (c k && p k) ≡ false → any_of p (filter c (count_up (suc k) n)) ≡ false
          → any_of p (cond b (k ∷ filter c (count_up (suc k) n)) (filter c (count_up (suc k) n))) ≡ false
      go true q e ih = let z : p k ≡ false = rw q at e in rw (z, ih)
      go false q e ih = ih

  -- none passes
  pub comes_first : (n : ℕ) → eqb (last_of (λ m. c m && p m) n) 0 ≡ not (any_of p (filter c (count_up 0 n)))
  comes_first n = go (any_of p (filter c (count_up 0 n))) refl
    where
      go : (b : Bool) → any_of p (filter c (count_up 0 n)) ≡ b → eqb (last_of (λ m. c m && p m) n) 0 ≡ not b
      go true q =
          ne_eqb (last_of (λ m. c m && p m) n) 0 (λ (e : last_of (λ m. c m && p m) n ≡ 0).
          clash (any_of p (filter c (count_up 0 n))) q (any_empty 0 n (λ m h l. last_above (λ m. c m && p m) n m (omega arith) (omega arith))))
      go false q =
          let e : last_of (λ m. c m && p m) n ≡ 0 = last_is (λ m. c m && p m) n 0 (omega arith) (λ m h l. any_later 0 n q m h (omega arith)) (λ m z. absurd (omega arith)) in
          rw e

  -- k is the last that passes
  pub comes_here : (k n : ℕ) → c k ≡ true → eqb (last_of (λ m. c m && p m) (k + suc n)) (suc k) ≡ (p k && not (any_of p (filter c (count_up (suc k) n))))
  comes_here k n own = go (p k) (any_of p (filter c (count_up (suc k) n))) refl refl
    where
      r : ℕ
      r = last_of (λ m. c m && p m) (k + suc n)

      off : (b : Bool) → false ≡ (b && false)
      off true = refl
      off false = refl

      go : (a b : Bool) → p k ≡ a → any_of p (filter c (count_up (suc k) n)) ≡ b → eqb r (suc k) ≡ (a && not b)
      go a true e q =
          ne_eqb r (suc k) (λ (z : r ≡ suc k).
          clash (any_of p (filter c (count_up (suc k) n))) q
          (any_empty (suc k) n (λ m h l. last_above (λ m. c m && p m) (k + suc n) m (omega arith) (omega arith))))
          ∙ off a
      go true false e q =
          let z : r ≡ suc k =
          last_is (λ m. c m && p m) (k + suc n) (suc k) (omega arith) (λ m h l. any_later (suc k) n q m h (omega arith))
          (λ m y. let w : m ≡ k = omega arith in rw (w, own, e)) in
          rw z (eq-eqb (suc k) (suc k) refl)
      go false false e q =
          ne_eqb r (suc k) (λ (z : r ≡ suc k). clash (p k) (both (c k) (p k) (last_passes (λ m. c m && p m) (k + suc n) k z)).1 e)

-- ---- one computation's reads

module _ (n : ℕ) (canon : ℕ → ℕ) (i : ℕ) where
  -- the first nodes that a table holds
  abbrev Own : List ℕ → Type 0
  Own work = (k : ℕ) → k < n → get_or work (4 * n + k) 0 ≡ canon k

  abbrev Inside : List ℕ → Type 0
  Inside list = (a : ℕ) → T (member a list) → a < n

  read_beside : (work : List ℕ) (a j : ℕ) → get_or work (4 * n + a) 0 ≡ canon a → canon a < n → (j < 10 * n) ⊎ (11 * n ≤ j) → get_or (read_by n i a work) j 0 ≡ get_or work j 0
  unfolding read_by
  read_beside work a j own l h = rw own (get_or-set_other work (10 * n + canon a) j (i + 1) 0 (apart h))
    where
      apart : (j < 10 * n) ⊎ (11 * n ≤ j) → j ≡ 10 * n + canon a → ⊥
      apart (inl g) e = omega arith
      apart (inr g) e = omega arith

  read_at : (work : List ℕ) (a c : ℕ) → get_or work (4 * n + a) 0 ≡ canon a → 10 * n + c < length work
      → get_or (read_by n i a work) (10 * n + c) 0 ≡ cond (eqb (canon a) c) (suc i) (get_or work (10 * n + c) 0)
  unfolding read_by
  read_at work a c own l = rw own (go (ℕ_discrete (canon a) c))
    where
      one : i + 1 ≡ suc i
      one = omega arith

      go : Dec (canon a ≡ c) → get_or (set work (10 * n + canon a) (i + 1)) (10 * n + c) 0 ≡ cond (eqb (canon a) c) (suc i) (get_or work (10 * n + c) 0)
      go (yes z) = rw (z, eq-eqb c c refl, one) (get_or-set_same work (10 * n + c) (suc i) 0 l)
      go (no z) = rw (ne_eqb (canon a) c z) (get_or-set_other work (10 * n + canon a) (10 * n + c) (i + 1) 0 (λ (e : 10 * n + c ≡ 10 * n + canon a). z (omega arith)))

  read_length : (work : List ℕ) (a : ℕ) → length (read_by n i a work) ≡ length work
  unfolding read_by
  read_length work a = length-set work (10 * n + get_or work (4 * n + a) 0) (i + 1)

  reads_length : (work list : List ℕ) → length (read_by_all n i list work) ≡ length work
  reads_length work [] = refl
  reads_length work (a ∷ list) = reads_length (read_by n i a work) list ∙ read_length work a

  module _ (low : (k : ℕ) → k < n → canon k < n) where
    reads_beside : (work list : List ℕ) (j : ℕ) → Own work → Inside list → (j < 10 * n) ⊎ (11 * n ≤ j) → get_or (read_by_all n i list work) j 0 ≡ get_or work j 0
    reads_beside work [] j own inside h = refl
    reads_beside work (a ∷ list) j own inside h =
        let l : a < n = inside a (or_first (eqb a a) (member a list) (eqb_refl a)) in
        let next : Own (read_by n i a work) = λ k below. read_beside work a (4 * n + k) (own a l) (low a l) (inl (omega arith)) ∙ own k below in
        reads_beside (read_by n i a work) list j next (λ b t. inside b (or_second (eqb b a) (member b list) t)) h ∙ read_beside work a j (own a l) (low a l) h

    reads_at : (work list : List ℕ) (c : ℕ) → Own work → Inside list → 10 * n + c < length work
        → get_or (read_by_all n i list work) (10 * n + c) 0 ≡ cond (any_of (λ a. eqb (canon a) c) list) (suc i) (get_or work (10 * n + c) 0)
    reads_at work [] c own inside h = refl
    reads_at work (a ∷ list) c own inside h =
        let l : a < n = inside a (or_first (eqb a a) (member a list) (eqb_refl a)) in
        let next : Own (read_by n i a work) = λ k below. read_beside work a (4 * n + k) (own a l) (low a l) (inl (omega arith)) ∙ own k below in
        reads_at (read_by n i a work) list c next (λ b t. inside b (or_second (eqb b a) (member b list) t)) (rw (read_length work a) h)
        ∙ (ap (cond (any_of (λ a. eqb (canon a) c) list) (suc i)) (read_at work a c (own a l) h) ∙ go (eqb (canon a) c) (any_of (λ a. eqb (canon a) c) list))
      where
        go : (x y : Bool) → cond y (suc i) (cond x (suc i) (get_or work (10 * n + c) 0)) ≡ cond (x || y) (suc i) (get_or work (10 * n + c) 0)
        go true true = refl
        go true false = refl
        go false y = refl

-- ---- loads

-- a node and the first of its source have one origin
canonical_same : (ss : List Origin) (n : ℕ) → n < length ss → origin_at ss (canonical ss n) ≡ origin_at ss n
unfolding canonical canonical_as
canonical_same ss n h = go (origin_at ss n) refl
  where
    go : (x : Origin) → origin_at ss n ≡ x → origin_at ss (canonical_as ss n x) ≡ origin_at ss n
    go no_origin q = refl
    go (immediate b) q = refl
    go (loaded c i) q =
        let f = home_finds ss c i n h (rw q (and_both (eqb c c) (eqb i i) (eqb_refl c) (eqb_refl i))) in
        let pm : pred (home_of ss c i) ≡ f.0 = ap pred f.1 ∙ omega arith in
        rw pm (home_origin ss c i f.0 f.1 ∙ sym q)

-- the first node is a node
pub canonical_below : (ss : List Origin) (n : ℕ) → n < length ss → canonical ss n < length ss
canonical_below ss n h = go (has_origin (origin_at ss n)) refl
  where
    go : (b : Bool) → has_origin (origin_at ss n) ≡ b → canonical ss n < length ss
    go true q = (canonical_origin ss n h (rw q tt)).0
    go false q = rw (canonical_computed ss n (no_origin_lem (origin_at ss n) q)) h

-- a load's first node is that of its source
load_home : (ss : List Origin) (c i m a : ℕ) → home_of ss c i ≡ suc m → a < length ss → eqb (canonical ss a) m ≡ is_load c i (origin_at ss a)
unfolding canonical canonical_as
load_home ss c i m a h l = same_test (eqb (canonical ss a) m) (is_load c i (origin_at ss a)) to from
  where
    to : T (eqb (canonical ss a) m) → T (is_load c i (origin_at ss a))
    to t =
        let z : canonical ss a ≡ m = eqb→eq (canonical ss a) m t in
        let e : origin_at ss a ≡ loaded c i = sym (canonical_same ss a l) ∙ ap (origin_at ss) z ∙ home_origin ss c i m h in
        rw e (and_both (eqb c c) (eqb i i) (eqb_refl c) (eqb_refl i))

    from : T (is_load c i (origin_at ss a)) → T (eqb (canonical ss a) m)
    from t =
        let z : canonical_as ss a (origin_at ss a) ≡ m = rw (is_load_lem c i (origin_at ss a) t, h) in
        rw z (eqb_refl m)

-- where a source has no first node, no node loads it
load_none : (ss : List Origin) (c i a : ℕ) → home_of ss c i ≡ 0 → is_load c i (origin_at ss a) ≡ false
unfolding home_of
load_none ss c i a h =
    is_false (is_load c i (origin_at ss a)) (λ t.
    let l : a < length ss = origin_inside ss a (load_origin c i (origin_at ss a) t) in
    let e = first_zero (λ n. is_load c i (origin_at ss n)) (count_up 0 (length ss)) a h (count_up_member 0 (length ss) a (omega arith) (omega arith)) in
    clash (is_load c i (origin_at ss a)) (is_true (is_load c i (origin_at ss a)) t) e)

-- Generic: tests that agree on a list pass together
any_same : (p q : ℕ → Bool) (list : List ℕ) → ((a : ℕ) → T (member a list) → p a ≡ q a) → any_of p list ≡ any_of q list
any_same p q [] h = refl
any_same p q (x ∷ list) h =
    rw (h x (or_first (eqb x x) (member x list) (eqb_refl x)), any_same p q list (λ a t. h a (or_second (eqb a x) (member a list) t)))

-- .. and one that fails on each passes nowhere
any_none : (p : ℕ → Bool) (list : List ℕ) → ((a : ℕ) → p a ≡ false) → any_of p list ≡ false
any_none p [] h = refl
any_none p (x ∷ list) h = rw (h x, any_none p list h)

-- ---- every computation's reads

-- what the table holds as the last reads are noted: the first node of each source, and no last reads
pub record Sourced (sizes : Sizes) (nodes : List ℕ) (origins : List Origin) (table : List ℕ) : Type 0 where
  pub lent : Lent sizes nodes (length table)
  pub count : length origins ≡ sizes.nodes
  pub firsts : (k : ℕ) → k < sizes.nodes → get_or table (4 * sizes.nodes + k) 0 ≡ canonical origins k
  pub lasts : (k : ℕ) → k < sizes.nodes → get_or table (10 * sizes.nodes + k) 0 ≡ 0

-- which nodes are computed is said by their needs and slots alone
pub sample_same : (n : ℕ) (nodes work table : List ℕ) (i : ℕ) → get_or work (n + i) 0 ≡ get_or table (n + i) 0 → get_or work (2 * n + i) 0 ≡ get_or table (2 * n + i) 0
    → sample_in n nodes work i ≡ sample_in n nodes table i
unfolding sample_in
sample_same n nodes work table i e f = rw (e, f)

module _ (sizes : Sizes) (nodes : List ℕ) (origins : List Origin) (table : List ℕ) (s : Sourced sizes nodes origins table) where
  abbrev n : ℕ
  n = sizes.nodes

  -- does computation i read the source of node c
  abbrev pub reads : ℕ → ℕ → Bool
  reads c i = sample_in n nodes table i && any_of (λ a. eqb (canonical origins a) c) (operands_in nodes i)

  -- after k turns
  abbrev pub Turned : ℕ → List ℕ → Type 0
  Turned k work =
      (length work ≡ length table) × ((j : ℕ) → (j < 10 * n) ⊎ (11 * n ≤ j) → get_or work j 0 ≡ get_or table j 0)
      × ((c : ℕ) → c < n → get_or work (10 * n + c) 0 ≡ last_of (reads c) k)

  low : (k : ℕ) → k < n → canonical origins k < n
  low k h = rw s.count at (canonical_below origins k (rw s.count h))

  turn : (k : ℕ) (work : List ℕ) → k < n → Turned k work → Turned (suc k) (last_node n nodes k work)
  unfolding last_node
  turn k work l h = rw (sample_same n nodes work table k (h.1 (n + k) (inl (omega arith))) (h.1 (2 * n + k) (inl (omega arith)))) (go (sample_in n nodes table k))
    where
      own : (i : ℕ) → i < n → get_or work (4 * n + i) 0 ≡ canonical origins i
      own i g = h.1 (4 * n + i) (inl (omega arith)) ∙ s.firsts i g

      inside : (a : ℕ) → T (member a (operands_in nodes k)) → a < n
      inside = operand_below sizes nodes (length table) s.lent k l

      go : (b : Bool)
          → (length (cond b (read_by_all n k (operands_in nodes k) work) work) ≡ length table)
          × ((j : ℕ) → (j < 10 * n) ⊎ (11 * n ≤ j) → get_or (cond b (read_by_all n k (operands_in nodes k) work) work) j 0 ≡ get_or table j 0)
          × ((c : ℕ) → c < n → get_or (cond b (read_by_all n k (operands_in nodes k) work) work) (10 * n + c) 0
          ≡ cond (b && any_of (λ a. eqb (canonical origins a) c) (operands_in nodes k)) (suc k) (last_of (reads c) k))
      go true = (
        reads_length n (canonical origins) k work (operands_in nodes k) ∙ h.0,
        λ j g. reads_beside n (canonical origins) k low work (operands_in nodes k) j own inside g ∙ h.1 j g,
        λ c g.
            reads_at n (canonical origins) k low work (operands_in nodes k) c own inside (omega (arith, h.0, s.lent.room))
            ∙ ap (cond (any_of (λ a. eqb (canonical origins a) c) (operands_in nodes k)) (suc k)) (h.2 c g),
      )
      go false = h

  -- the words after k turns
  pub turned : (k : ℕ) → k ≤ n → Turned k (turns (last_node n nodes) table k)
  unfolding turns
  turned zero h = (refl, λ j l. refl, s.lasts)
  turned (suc k) h = turn k (turns (last_node n nodes) table k) (omega arith) (turned k (omega arith))

  -- the last computation that reads a memory's old value
  reader_is : (w c i : ℕ) → get_or table (homes_at sizes + (258 + w)) 0 ≡ home_of origins c i
      → reader_in sizes (turns (last_node n nodes) table n) w
      ≡ last_of (λ m. sample_in n nodes table m && any_of (λ a. is_load c i (origin_at origins a)) (operands_in nodes m)) n
  unfolding reader_in
  reader_is w c i e = rw ((turned n (omega arith)).1 (homes_at sizes + (258 + w)) (inr (omega arith)), e) (go (home_of origins c i) refl)
    where
      final : List ℕ
      final = turns (last_node n nodes) table n

      off : (b : Bool) → (b && false) ≡ false
      off true = refl
      off false = refl

      go : (home : ℕ) → home_of origins c i ≡ home
          → cond (eqb home 0) 0 (get_or final (10 * n + (home - 1)) 0)
          ≡ last_of (λ m. sample_in n nodes table m && any_of (λ a. is_load c i (origin_at origins a)) (operands_in nodes m)) n
      go zero q =
          sym (last_is (λ m. sample_in n nodes table m && any_of (λ a. is_load c i (origin_at origins a)) (operands_in nodes m)) n 0 (omega arith)
          (λ m h l. rw (any_none (λ a. is_load c i (origin_at origins a)) (operands_in nodes m) (λ a. load_none origins c i a q)) (off (sample_in n nodes table m)))
          (λ m z. absurd (omega arith)))
      go (suc m) q =
          let z : suc m - 1 ≡ m = omega arith in
          let l : m < n = rw s.count at (home_known origins c i m q).0 in
          rw (ne_eqb (suc m) 0 (λ (y : suc m ≡ 0). omega arith), z)
          ((turned n (omega arith)).2 m l
          ∙ last_same (reads m) (λ k. sample_in n nodes table k && any_of (λ a. is_load c i (origin_at origins a)) (operands_in nodes k)) n (λ k below.
          ap (λ (b : Bool). sample_in n nodes table k && b)
          (any_same (λ a. eqb (canonical origins a) m) (λ a. is_load c i (origin_at origins a)) (operands_in nodes k) (λ a t.
          load_home origins c i m a q (rw s.count (operand_below sizes nodes (length table) s.lent k below a t))))))

  -- a write comes after the last computation for which it waits
  pub after_is : (w : ℕ) (x : Write) → get_or table (homes_at sizes + (258 + w)) 0 ≡ home_of origins (x.code - 6) x.index → x.value < n
      → after_in sizes nodes (turns (last_node n nodes) table n) w x.value
      ≡ last_of (λ m. sample_in n nodes table m && waits (nodes_to nodes n) origins x m) n
  unfolding after_in waits
  after_is w x e l =
      let same = (turned n (omega arith)).1 in
      rw (
        sample_same n nodes (turns (last_node n nodes) table n) table x.value (same (n + x.value) (inl (omega arith))) (same (2 * n + x.value) (inl (omega arith))),
        reader_is w (x.code - 6) x.index e,
      )
      (last_later (sample_in n nodes table) (λ m. any_of (λ a. is_load (x.code - 6) x.index (origin_at origins a)) (operands_in nodes m)) x.value n l
      ∙ last_same (λ m. sample_in n nodes table m && (eqb m x.value || any_of (λ a. is_load (x.code - 6) x.index (origin_at origins a)) (operands_in nodes m)))
      (λ m. sample_in n nodes table m && (eqb m x.value || any_of (λ a. is_load (x.code - 6) x.index (origin_at origins a)) (operands (node_at (nodes_to nodes n) m)))) n
      (λ m below. rw (node_at_lem nodes n m below, operands_in_lem sizes nodes (length table) s.lent m below)))
