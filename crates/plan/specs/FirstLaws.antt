-- Finding the first nodes of the sources leaves the definition's lists: `canonical_firsts`, and every other word as it was: `canonical_beside`. Assumes nothing.
use Rattle.std.specs.Prelude.{◌≡◌, ◌⊎◌, Bool, true, false, cond, ◌&&◌, set, ltb}
use Rattle.std.proofs.Math.Path.{refl, sym, ap}
use Rattle.std.proofs.Common.{subst, ◌∙◌, add-one, inl, inr, length-set, get_or-set_same, get_or-set_other}
use mathlib.Core.List.{List, [], ◌∷◌, ◌++◌, map}
use Prim.Native.Nat.{ℕ, zero, suc, pred, ◌+◌, ◌-◌, ◌*◌, ◌≤◌, ◌<◌}
use native.Mathlib.Omega.{arith}
use Rattle.std.proofs.Math.Decide.{ℕ_discrete}
use Rattle.std.proofs.Math.ListN.{length, get_or, length-map, get_or-map}
use Rattle.std.proofs.Math.Dec.{eqb}
use borrow.Author.Tests.{eq-eqb, ne_eqb, eqb-true, lt-ltb, le-ltb}
use Rattle.tables.specs.Tests.{cond_false, both, clash}
use Rattle.tables.specs.Loops.{turns}
use Rattle.block.specs.Block.{code, first, second}
use Rattle.block.specs.Kinds.{kind_of}
use Rattle.expand.specs.Good.{GoodNode}
use Rattle.plan.specs.declared.Sizes.{Sizes}
use Rattle.plan.specs.Lists.{count_up, first_of}
use Rattle.plan.specs.ListLaws.{first_some, count_up_below, count_up_length, map_at}
use Rattle.plan.specs.Nodes.{Node, input_node, network_node, constant_node, parameter_node, state_node, delay_node, binary_node, unary_node}
use Rattle.plan.specs.Flow.{node_in}
use Rattle.plan.specs.FlowLaws.{IsNode}
use Rattle.plan.specs.Origins.{Origin, no_origin, immediate, loaded, has_origin, is_load, origin_at, control_origin, node_origin, sample_origin, sample_origins, home_of, canonical}
use Rattle.plan.specs.Origins as Origins
use Rattle.plan.specs.OriginLaws.{home_finds, home_known, home_origin, control_at, sample_at, sample_length}
use Rattle.plan.specs.Layout.{Lent, counts_in, slots_at, homes_at}
use Rattle.plan.specs.Regions.{Region, region_at, flag, flags, flags_length, flags_at}
use Rattle.plan.specs.Words.{nodes_to, nodes_length, node_at_lem, node_words, count_up_snoc}
use Rattle.plan.specs.SourceLaws.{place_word, fresh_word, canonical_as, code_in, canonical_node, origin_code, origin_in, source_is, place_inside}
use Rattle.plan.specs.Shares.{Firsts, NoHomes, BesideFirsts}

-- ---- the first of the numbers below n that passes

-- Generic: one number more behind
first_snoc : (p : ℕ → Bool) (xs : List ℕ) (x : ℕ) → first_of p (xs ++ (x ∷ [])) ≡ cond (eqb (first_of p xs) 0) (cond (p x) (suc x) 0) (first_of p xs)
first_snoc p [] x = refl
first_snoc p (y ∷ ys) x = go (p y) (first_snoc p ys x)
  where
    go : (b : Bool) → first_of p (ys ++ (x ∷ [])) ≡ cond (eqb (first_of p ys) 0) (cond (p x) (suc x) 0) (first_of p ys)
        → cond b (suc y) (first_of p (ys ++ (x ∷ []))) ≡ cond (eqb (cond b (suc y) (first_of p ys)) 0) (cond (p x) (suc x) 0) (cond b (suc y) (first_of p ys))
    go true ih = rw (ne_eqb (suc y) 0 (λ (e : suc y ≡ 0). omega arith))
    go false ih = ih

-- Generic: the first below n that passes, if there is one
abbrev first_to : (ℕ → Bool) → ℕ → ℕ
first_to p n = first_of p (count_up 0 n)

-- one number more
first_next : (p : ℕ → Bool) (n : ℕ) → first_to p (suc n) ≡ cond (eqb (first_to p n) 0) (cond (p n) (suc n) 0) (first_to p n)
first_next p n = let z : 0 + n ≡ n = omega arith in ap (first_of p) (rw z at (count_up_snoc 0 n)) ∙ first_snoc p (count_up 0 n) n

-- once found it stays
first_stays : (p : ℕ → Bool) (n m : ℕ) → first_to p n ≡ suc m → first_to p (suc n) ≡ suc m
first_stays p n m e = first_next p n ∙ (cond_false (eqb (first_to p n) 0) (cond (p n) (suc n) 0) (first_to p n) (ne_eqb (first_to p n) 0 (λ z. omega arith)) ∙ e)

first_later : (p : ℕ → Bool) (n j m : ℕ) → first_to p n ≡ suc m → first_to p (j + n) ≡ suc m
first_later p n zero m e = let z : 0 + n ≡ n = omega arith in rw z e
first_later p n (suc j) m e = let z : suc j + n ≡ suc (j + n) = omega arith in rw z (first_stays p (j + n) m (first_later p n j m e))

-- a number that fails changes nothing
first_miss : (p : ℕ → Bool) (n : ℕ) → p n ≡ false → first_to p (suc n) ≡ first_to p n
first_miss p n e = first_next p n ∙ rw e (go (first_to p n))
  where
    go : (x : ℕ) → cond (eqb x 0) 0 x ≡ x
    go zero = refl
    go (suc x) = rw (ne_eqb (suc x) 0 (λ (z : suc x ≡ 0). omega arith))

-- a number that passes: the first up to it is the first of all
first_all : (p : ℕ → Bool) (k n : ℕ) → k < n → p k ≡ true → first_to p (suc k) ≡ first_to p n
first_all p k n h t = go (first_to p k) refl
  where
    on : (m : ℕ) → first_to p (suc k) ≡ suc m → first_to p (suc k) ≡ first_to p n
    on m e = let z : (n - suc k) + suc k ≡ n = omega arith in e ∙ sym (rw z at (first_later p (suc k) (n - suc k) m e))

    go : (x : ℕ) → first_to p k ≡ x → first_to p (suc k) ≡ first_to p n
    go zero e = on k (first_next p k ∙ rw (e, t))
    go (suc m) e = on m (first_stays p k m e)

-- it is one of them, and one more
first_low : (p : ℕ → Bool) (n : ℕ) → first_to p n ≤ n
first_low p n = go (first_to p n) refl
  where
    go : (x : ℕ) → first_to p n ≡ x → x ≤ n
    go zero e = omega arith
    go (suc m) e = omega (arith, count_up_below 0 n m (first_some p (count_up 0 n) m e).0)

-- tests that agree find the same
first_agree : (p q : ℕ → Bool) (k n : ℕ) → ((i : ℕ) → i < k + n → p i ≡ q i) → first_of p (count_up k n) ≡ first_of q (count_up k n)
first_agree p q k zero h = refl
first_agree p q k (suc n) h = rw (h k (omega arith), first_agree p q (suc k) n (λ i l. h i (omega arith)))

-- ---- by words: the codes and places of the nodes' sources

-- is node n's place the one behind k
abbrev placed : (ℕ → ℕ) → ℕ → ℕ → Bool
placed places k n = eqb (places n) (suc k)

-- the first node of node n's place, else node n itself
abbrev first_word : (ℕ → ℕ) → ℕ → ℕ
first_word places n = cond (eqb (places n) 0) n (first_to (placed places (places n - 1)) (suc n) - 1)

-- at a node that has a place: one less than what is found there
first_word_at : (places : ℕ → ℕ) (n p x : ℕ) → places n ≡ suc p → first_to (placed places p) (suc n) ≡ x → first_word places n ≡ x - 1
first_word_at places n p x e f =
    let told = λ (w : ℕ). cond (eqb w 0) n (first_to (placed places (w - 1)) (suc n) - 1) in
    let y : suc p - 1 ≡ p = omega arith in
    ap told e
    ∙ (cond_false (eqb (suc p) 0) n (first_to (placed places (suc p - 1)) (suc n) - 1) (ne_eqb (suc p) 0 (λ (q : suc p ≡ 0). omega arith))
    ∙ (ap (λ (w : ℕ). first_to (placed places w) (suc n) - 1) y ∙ ap (λ (w : ℕ). w - 1) f))

-- after the turns of the first i nodes: each home is the first of them with its place, their words are right, and all others are as they were
record Turned (sizes : Sizes) (codes places : ℕ → ℕ) (table : List ℕ) (i : ℕ) (work : List ℕ) : Type 0 where
  size : length work ≡ length table
  homes : (k : ℕ) → k < 258 + sizes.states + sizes.delays → get_or work (homes_at sizes + k) 0 ≡ first_to (placed places k) i
  canonicals : (k : ℕ) → k < i → get_or work (4 * sizes.nodes + k) 0 ≡ first_word places k
  freshes : (k : ℕ) → k < i → get_or work (8 * sizes.nodes + k) 0 ≡ fresh_word (codes k)
  beside : (j : ℕ) → BesideFirsts sizes j → get_or work j 0 ≡ get_or table j 0

module _ (sizes : Sizes) (codes places : ℕ → ℕ) (table : List ℕ) (room : homes_at sizes + (258 + sizes.states + sizes.delays) ≤ length table) (i : ℕ) (low : i < sizes.nodes)
    (inside : places i ≤ 258 + sizes.states + sizes.delays) (work : List ℕ) (t : Turned sizes codes places table i work) where
  abbrev marked : List ℕ
  marked = set work (8 * sizes.nodes + i) (fresh_word (codes i))

  -- beside the two words of node i
  beside_two : (j : ℕ) → BesideFirsts sizes j → (j ≡ 4 * sizes.nodes + i → ⊥) × (j ≡ 8 * sizes.nodes + i → ⊥)
  beside_two j (inl h) = ((λ e. omega arith), λ e. omega arith)
  beside_two j (inr (inl h)) = ((λ e. omega (arith, h.0)), λ e. omega (arith, h.1))
  beside_two j (inr (inr (inl h))) = ((λ e. omega (arith, h.0)), λ e. omega (arith, h.0))
  beside_two j (inr (inr (inr h))) = ((λ e. omega arith), λ e. omega arith)

  -- and beside the homes
  beside_homes : (j : ℕ) → BesideFirsts sizes j → (j < homes_at sizes) ⊎ (homes_at sizes + (258 + sizes.states + sizes.delays) ≤ j)
  beside_homes j (inl h) = inl (omega arith)
  beside_homes j (inr (inl h)) = inl (omega (arith, h.1))
  beside_homes j (inr (inr (inl h))) = inl h.1
  beside_homes j (inr (inr (inr h))) = inr (omega arith)

  -- the turn's last store, of the first node
  turned_on : (x : List ℕ) (v : ℕ) → length x ≡ length work → get_or x (8 * sizes.nodes + i) 0 ≡ fresh_word (codes i)
      → ((k : ℕ) → k < 258 + sizes.states + sizes.delays → get_or x (homes_at sizes + k) 0 ≡ first_to (placed places k) (suc i))
      → ((j : ℕ) → (j ≡ 8 * sizes.nodes + i → ⊥) → (j < homes_at sizes) ⊎ (homes_at sizes + (258 + sizes.states + sizes.delays) ≤ j) → get_or x j 0 ≡ get_or work j 0)
      → v ≡ first_word places i → Turned sizes codes places table (suc i) (set x (4 * sizes.nodes + i) v)
  turned_on x v size fresh homes others first =
      record {
        size = length-set x (4 * sizes.nodes + i) v ∙ (size ∙ t.size);
        homes = λ k h. get_or-set_other x (4 * sizes.nodes + i) (homes_at sizes + k) v 0 (λ e. omega arith) ∙ homes k h;
        canonicals = λ k h. firsts k h (ℕ_discrete k i);
        freshes = λ k h. marks k h (ℕ_discrete k i);
        beside = λ j h.
            let b = beside_two j h in
            get_or-set_other x (4 * sizes.nodes + i) j v 0 b.0 ∙ (others j b.1 (beside_homes j h) ∙ t.beside j h);
      }
    where
      firsts : (k : ℕ) → k < suc i → Dec (k ≡ i) → get_or (set x (4 * sizes.nodes + i) v) (4 * sizes.nodes + k) 0 ≡ first_word places k
      firsts k h (yes z) =
          subst (λ (q : ℕ). get_or (set x (4 * sizes.nodes + i) v) (4 * sizes.nodes + q) 0 ≡ first_word places q) (sym z)
          (get_or-set_same x (4 * sizes.nodes + i) v 0 (omega (arith, size, t.size)) ∙ first)
      firsts k h (no z) =
          get_or-set_other x (4 * sizes.nodes + i) (4 * sizes.nodes + k) v 0 (λ e. omega arith)
          ∙ (others (4 * sizes.nodes + k) (λ e. omega arith) (inl (omega arith)) ∙ t.canonicals k (omega arith))

      marks : (k : ℕ) → k < suc i → Dec (k ≡ i) → get_or (set x (4 * sizes.nodes + i) v) (8 * sizes.nodes + k) 0 ≡ fresh_word (codes k)
      marks k h (yes z) = rw z (get_or-set_other x (4 * sizes.nodes + i) (8 * sizes.nodes + i) v 0 (λ e. omega arith) ∙ fresh)
      marks k h (no z) =
          get_or-set_other x (4 * sizes.nodes + i) (8 * sizes.nodes + k) v 0 (λ e. omega arith)
          ∙ (others (8 * sizes.nodes + k) (λ e. omega arith) (inl (omega arith)) ∙ t.freshes k (omega arith))

  marked_size : length marked ≡ length work
  marked_size = length-set work (8 * sizes.nodes + i) (fresh_word (codes i))

  marked_fresh : get_or marked (8 * sizes.nodes + i) 0 ≡ fresh_word (codes i)
  marked_fresh = get_or-set_same work (8 * sizes.nodes + i) (fresh_word (codes i)) 0 (omega (arith, t.size))

  marked_other : (j : ℕ) → (j ≡ 8 * sizes.nodes + i → ⊥) → get_or marked j 0 ≡ get_or work j 0
  marked_other j h = get_or-set_other work (8 * sizes.nodes + i) j (fresh_word (codes i)) 0 h

  marked_home : (k : ℕ) → k < 258 + sizes.states + sizes.delays → get_or marked (homes_at sizes + k) 0 ≡ first_to (placed places k) i
  marked_home k h = marked_other (homes_at sizes + k) (λ e. omega arith) ∙ t.homes k h

  -- without a store among the homes
  turned_same : (v : ℕ) → ((k : ℕ) → k < 258 + sizes.states + sizes.delays → first_to (placed places k) (suc i) ≡ first_to (placed places k) i) → v ≡ first_word places i
      → Turned sizes codes places table (suc i) (set marked (4 * sizes.nodes + i) v)
  turned_same v homes first = turned_on marked v marked_size marked_fresh (λ k h. marked_home k h ∙ sym (homes k h)) (λ j h b. marked_other j h) first

  -- a place other than node i's
  other_place : (k : ℕ) → (places i ≡ suc k → ⊥) → first_to (placed places k) (suc i) ≡ first_to (placed places k) i
  other_place k h = first_miss (placed places k) i (ne_eqb (places i) (suc k) h)

  -- with one: node i is the first of its place
  turned_first : (p : ℕ) → places i ≡ suc p → first_to (placed places p) i ≡ 0
      → Turned sizes codes places table (suc i) (set (set marked (homes_at sizes + p) (i + 1)) (4 * sizes.nodes + i) i)
  turned_first p e z =
      turned_on (set marked (homes_at sizes + p) (i + 1)) i (length-set marked (homes_at sizes + p) (i + 1) ∙ marked_size)
      (get_or-set_other marked (homes_at sizes + p) (8 * sizes.nodes + i) (i + 1) 0 (λ q. omega arith) ∙ marked_fresh)
      (λ k h. home k h (ℕ_discrete k p))
      (λ j h b. get_or-set_other marked (homes_at sizes + p) j (i + 1) 0 (off j b) ∙ marked_other j h)
      (let last : suc i - 1 ≡ i = omega arith in sym (first_word_at places i p (suc i) e found ∙ last))
    where
      found : first_to (placed places p) (suc i) ≡ suc i
      found = first_next (placed places p) i ∙ rw (z, e, eq-eqb (suc p) (suc p) refl)

      home : (k : ℕ) → k < 258 + sizes.states + sizes.delays → Dec (k ≡ p)
          → get_or (set marked (homes_at sizes + p) (i + 1)) (homes_at sizes + k) 0 ≡ first_to (placed places k) (suc i)
      home k h (yes q) =
          subst (λ (r : ℕ). get_or (set marked (homes_at sizes + p) (i + 1)) (homes_at sizes + r) 0 ≡ first_to (placed places r) (suc i)) (sym q)
          (get_or-set_same marked (homes_at sizes + p) (i + 1) 0 (omega (arith, marked_size, t.size)) ∙ (add-one i ∙ sym found))
      home k h (no q) =
          get_or-set_other marked (homes_at sizes + p) (homes_at sizes + k) (i + 1) 0 (λ y. omega arith)
          ∙ (marked_home k h ∙ sym (other_place k (λ y. omega arith)))

      off : (j : ℕ) → (j < homes_at sizes) ⊎ (homes_at sizes + (258 + sizes.states + sizes.delays) ≤ j) → j ≡ homes_at sizes + p → ⊥
      off j (inl b) q = omega arith
      off j (inr b) q = omega arith

  -- NODE i'S TURN
  turned_next : Turned sizes codes places table (suc i) (canonical_as sizes (codes i) (places i) i work)
  unfolding canonical_as
  turned_next = go (places i) refl
    where
      again : (p x : ℕ) → places i ≡ suc p → first_to (placed places p) i ≡ x
          → Turned sizes codes places table (suc i) (cond (eqb x 0) (set (set marked (homes_at sizes + p) (i + 1)) (4 * sizes.nodes + i) i) (set marked (4 * sizes.nodes + i) (x - 1)))
      again p zero e q = turned_first p e q
      again p (suc m) e q =
          rw (ne_eqb (suc m) 0 (λ (u : suc m ≡ 0). omega arith))
          (turned_same (suc m - 1) (λ k h. keep k (ℕ_discrete k p)) (sym (first_word_at places i p (suc m) e (first_stays (placed places p) i m q))))
        where
          keep : (k : ℕ) → Dec (k ≡ p) → first_to (placed places k) (suc i) ≡ first_to (placed places k) i
          keep k (yes u) =
              subst (λ (r : ℕ). first_to (placed places r) (suc i) ≡ first_to (placed places r) i) (sym u) (first_stays (placed places p) i m q ∙ sym q)
          keep k (no u) = other_place k (λ y. omega arith)

      go : (p : ℕ) → places i ≡ p
          → Turned sizes codes places table (suc i) (cond (eqb p 0) (set marked (4 * sizes.nodes + i) i)
          (cond (eqb (get_or marked (homes_at sizes + (p - 1)) 0) 0) (set (set marked (homes_at sizes + (p - 1)) (i + 1)) (4 * sizes.nodes + i) i)
          (set marked (4 * sizes.nodes + i) (get_or marked (homes_at sizes + (p - 1)) 0 - 1))))
      go zero e = turned_same i (λ k h. other_place k (λ q. omega arith)) (rw e)
      go (suc p) e =
          let y : suc p - 1 ≡ p = omega arith in
          rw (ne_eqb (suc p) 0 (λ (u : suc p ≡ 0). omega arith), y, marked_home p (omega arith)) (again p (first_to (placed places p) i) e refl)

-- ---- as layer one's origins

-- the loads that have a place among the homes
data Load (sizes : Sizes) (c i : ℕ) : Type 0 where
  audio : c ≡ 1 → i ≡ 0 → Load sizes c i
  network : c ≡ 2 → i ≡ 0 → Load sizes c i
  parameter : c ≡ 3 → i < 256 → Load sizes c i
  state : c ≡ 4 → i < sizes.states → Load sizes c i
  delay : c ≡ 5 → i < sizes.delays → Load sizes c i

-- the load of a place
abbrev code_from : ℕ → ℕ → ℕ
code_from states p = cond (ltb p 2) 1 (cond (ltb p 3) 2 (cond (ltb p 259) 3 (cond (ltb p (259 + states)) 4 5)))

abbrev index_from : ℕ → ℕ → ℕ
index_from states p = cond (ltb p 2) 0 (cond (ltb p 3) 0 (cond (ltb p 259) (p - 3) (cond (ltb p (259 + states)) (p - 259) (p - (259 + states)))))

-- a load that has a place is the load of that place
load_from : (sizes : Sizes) (c i : ℕ) → Load sizes c i
    → (1 ≤ place_word sizes.states c i) × (code_from sizes.states (place_word sizes.states c i) ≡ c) × (index_from sizes.states (place_word sizes.states c i) ≡ i)
unfolding place_word
load_from sizes c i (audio e h) = rw (e, h) (omega arith, refl, refl)
load_from sizes c i (network e h) = rw (e, h) (omega arith, refl, refl)
load_from sizes c i (parameter e h) =
    rw (e, le-ltb (3 + i) 2 (omega arith), le-ltb (3 + i) 3 (omega arith), lt-ltb (3 + i) 259 (omega arith)) (omega arith, refl, omega arith)
load_from sizes c i (state e h) =
    rw (e, le-ltb (259 + i) 2 (omega arith), le-ltb (259 + i) 3 (omega arith), le-ltb (259 + i) 259 (omega arith), lt-ltb (259 + i) (259 + sizes.states) (omega arith))
    (omega arith, refl, omega arith)
load_from sizes c i (delay e h) =
    rw (
      e,
      le-ltb (259 + sizes.states + i) 2 (omega arith),
      le-ltb (259 + sizes.states + i) 3 (omega arith),
      le-ltb (259 + sizes.states + i) 259 (omega arith),
      le-ltb (259 + sizes.states + i) (259 + sizes.states) (omega arith),
    )
    (omega arith, refl, omega arith)

-- an origin's place among the homes, and one; 0 is none
abbrev origin_place : ℕ → Origin → ℕ
origin_place states no_origin = 0
origin_place states (immediate bits) = 0
origin_place states (loaded c i) = place_word states c i

-- a load is one of those, or of a control slot
abbrev GoodOrigin : Sizes → Origin → Type 0
GoodOrigin sizes no_origin = Unit {0}
GoodOrigin sizes (immediate bits) = Unit {0}
GoodOrigin sizes (loaded c i) = Load sizes c i ⊎ (c ≡ 6)

-- the places that `Firsts` names
place_audio : (states : ℕ) → place_word states 1 0 ≡ 1
unfolding place_word
place_audio states = refl

place_network : (states : ℕ) → place_word states 2 0 ≡ 2
unfolding place_word
place_network states = refl

place_state : (states i : ℕ) → place_word states 4 i ≡ suc (258 + i)
unfolding place_word
place_state states i = omega arith

place_delay : (states i : ℕ) → place_word states 5 i ≡ suc (258 + states + i)
unfolding place_word
place_delay states i = omega arith

-- a control slot has none
slot_place : (states i : ℕ) → place_word states 6 i ≡ 0
unfolding place_word
slot_place states i = refl

-- the origin with a load's place is that load
place_test : (sizes : Sizes) (c i : ℕ) → Load sizes c i → (x : Origin) → GoodOrigin sizes x → eqb (origin_place sizes.states x) (place_word sizes.states c i) ≡ is_load c i x
place_test sizes c i l no_origin g = ne_eqb 0 (place_word sizes.states c i) (λ e. omega (arith, (load_from sizes c i l).0))
place_test sizes c i l (immediate b) g = ne_eqb 0 (place_word sizes.states c i) (λ e. omega (arith, (load_from sizes c i l).0))
place_test sizes c i l (loaded d j) g = go (eqb c d && eqb i j) refl g
  where
    differ : (eqb c d && eqb i j) ≡ false → Load sizes d j ⊎ (d ≡ 6) → place_word sizes.states d j ≡ place_word sizes.states c i → ⊥
    differ q (inl m) e =
        let x = load_from sizes c i l in
        let y = load_from sizes d j m in
        let cd : c ≡ d = sym x.1 ∙ (ap (code_from sizes.states) (sym e) ∙ y.1) in
        let ij : i ≡ j = sym x.2 ∙ (ap (index_from sizes.states) (sym e) ∙ y.2) in
        clash (eqb c d && eqb i j) (rw (eq-eqb c d cd, eq-eqb i j ij)) q
    differ q (inr m) e = omega (arith, (load_from sizes c i l).0, rw m at e, slot_place sizes.states j)

    go : (b : Bool) → (eqb c d && eqb i j) ≡ b → Load sizes d j ⊎ (d ≡ 6) → eqb (place_word sizes.states d j) (place_word sizes.states c i) ≡ b
    go true q h =
        let e = both (eqb c d) (eqb i j) q in
        eq-eqb (place_word sizes.states d j) (place_word sizes.states c i) (rw (eqb-true c d e.0, eqb-true i j e.1))
    go false q h = ne_eqb (place_word sizes.states d j) (place_word sizes.states c i) (differ q h)

-- a good node's origin is good, and its index is the node's first word
node_origin_lem : (sizes : Sizes) (x : Node) (k c a d : ℕ) → IsNode x c a d → GoodNode (counts_in sizes) k c a d
    → GoodOrigin sizes (node_origin x) × (place_word sizes.states (origin_code (node_origin x)) a ≡ origin_place sizes.states (node_origin x))
unfolding node_origin place_word kind_of
node_origin_lem sizes input_node k c a d h g = (inl (audio refl refl), refl)
node_origin_lem sizes network_node k c a d h g = (inl (network refl refl), refl)
node_origin_lem sizes (constant_node w) k c a d h g = (tt, refl)
node_origin_lem sizes (parameter_node i) k c a d h g = let q = rw h.0 at g in (inl (parameter refl (omega (arith, q.0, h.1))), rw h.1)
node_origin_lem sizes (state_node i) k c a d h g = let q = rw h.0 at g in (inl (state refl (omega (arith, q.0, h.1))), rw h.1)
node_origin_lem sizes (delay_node i) k c a d h g = let q = rw h.0 at g in (inl (delay refl (omega (arith, q.0, h.1))), rw h.1)
node_origin_lem sizes (binary_node b x y) k c a d h g = (tt, refl)
node_origin_lem sizes (unary_node b x) k c a d h g = (tt, refl)

-- .. in the control phase
control_origin_lem : (sizes : Sizes) (x : Node) (k c a d : ℕ) → IsNode x c a d → GoodNode (counts_in sizes) k c a d
    → GoodOrigin sizes (control_origin x) × (place_word sizes.states (origin_code (control_origin x)) a ≡ origin_place sizes.states (control_origin x))
unfolding control_origin place_word kind_of
control_origin_lem sizes input_node k c a d h g = (tt, refl)
control_origin_lem sizes network_node k c a d h g = (tt, refl)
control_origin_lem sizes (constant_node w) k c a d h g = (tt, refl)
control_origin_lem sizes (parameter_node i) k c a d h g = let q = rw h.0 at g in (inl (parameter refl (omega (arith, q.0, h.1))), rw h.1)
control_origin_lem sizes (state_node i) k c a d h g = (tt, refl)
control_origin_lem sizes (delay_node i) k c a d h g = (tt, refl)
control_origin_lem sizes (binary_node b x y) k c a d h g = (tt, refl)
control_origin_lem sizes (unary_node b x) k c a d h g = (tt, refl)

-- .. in either phase
good_origin : (sizes : Sizes) (nodes : List ℕ) (words : ℕ) → Lent sizes nodes words → (k : ℕ) → k < sizes.nodes → (control : Bool) (slot : ℕ)
    → GoodOrigin sizes (origin_in control slot (node_in nodes k))
    × (place_word sizes.states (origin_code (origin_in control slot (node_in nodes k))) (first nodes k) ≡ origin_place sizes.states (origin_in control slot (node_in nodes k)))
unfolding sample_origin
good_origin sizes nodes words lent k h true slot =
    control_origin_lem sizes (node_in nodes k) k (code nodes k) (first nodes k) (second nodes k) (node_words sizes nodes words lent k h) (lent.good k h)
good_origin sizes nodes words lent k h false zero =
    node_origin_lem sizes (node_in nodes k) k (code nodes k) (first nodes k) (second nodes k) (node_words sizes nodes words lent k h) (lent.good k h)
good_origin sizes nodes words lent k h false (suc slot) = (inr refl, slot_place sizes.states (first nodes k) ∙ sym (slot_place sizes.states slot))

-- what has an origin is fresh
fresh_origin : (sizes : Sizes) (x : Origin) → GoodOrigin sizes x → fresh_word (origin_code x) ≡ flag (has_origin x)
unfolding fresh_word
fresh_origin sizes no_origin g = refl
fresh_origin sizes (immediate b) g = refl
fresh_origin sizes (loaded c i) (inl (audio e h)) = rw e
fresh_origin sizes (loaded c i) (inl (network e h)) = rw e
fresh_origin sizes (loaded c i) (inl (parameter e h)) = rw e
fresh_origin sizes (loaded c i) (inl (state e h)) = rw e
fresh_origin sizes (loaded c i) (inl (delay e h)) = rw e
fresh_origin sizes (loaded c i) (inr e) = rw e

-- no control slot is two nodes'
abbrev OwnSlots : ℕ → List Origin → Type 0
OwnSlots n origins = (i k slot : ℕ) → i < n → k < n → origin_at origins i ≡ loaded 6 slot → origin_at origins k ≡ loaded 6 slot → i ≡ k

module _ (sizes : Sizes) (control : Bool) (nodes table : List ℕ) (lent : Lent sizes nodes (length table)) (none : NoHomes sizes table) where
  abbrev codes : ℕ → ℕ
  codes k = code_in sizes control nodes table k

  abbrev places : ℕ → ℕ
  places k = place_word sizes.states (codes k) (first nodes k)

  -- AFTER THE TURNS of the first i nodes
  turned : (i : ℕ) → i ≤ sizes.nodes → Turned sizes codes places table i (turns (canonical_node sizes control nodes) table i)
  unfolding turns canonical_node
  turned zero h = record { size = refl; homes = none; canonicals = λ k l. absurd (omega arith); freshes = λ k l. absurd (omega arith); beside = λ j b. refl }
  turned (suc i) h =
      let t = turned i (omega arith) in
      let w : List ℕ = turns (canonical_node sizes control nodes) table i in
      let q : get_or w (2 * sizes.nodes + i) 0 ≡ get_or table (2 * sizes.nodes + i) 0 = t.beside (2 * sizes.nodes + i) (inl (omega arith)) in
      rw q
      (turned_next sizes codes places table (omega (arith, lent.room)) i h
      (place_inside sizes nodes (length table) lent i h control (get_or table (2 * sizes.nodes + i) 0)) w t)

  -- the table keeps its length
  pub canonical_length : length (turns (canonical_node sizes control nodes) table sizes.nodes) ≡ length table
  canonical_length = (turned sizes.nodes (omega arith)).size

  -- all beside the first nodes, the fresh words and the homes is as it was
  pub canonical_beside : (j : ℕ) → BesideFirsts sizes j → get_or (turns (canonical_node sizes control nodes) table sizes.nodes) j 0 ≡ get_or table j 0
  canonical_beside = (turned sizes.nodes (omega arith)).beside

  module _ (origins : List Origin) (long : length origins ≡ sizes.nodes)
      (are : (i : ℕ) → i < sizes.nodes → origin_at origins i ≡ origin_in control (get_or table (slots_at sizes + i) 0) (node_in nodes i)) (own : OwnSlots sizes.nodes origins) where
    origin_good : (k : ℕ) → k < sizes.nodes → GoodOrigin sizes (origin_at origins k)
    origin_good k h = rw (are k h) (good_origin sizes nodes (length table) lent k h control (get_or table (slots_at sizes + k) 0)).0

    code_at : (k : ℕ) → k < sizes.nodes → codes k ≡ origin_code (origin_at origins k)
    code_at k h = source_is sizes nodes (length table) lent k h control (get_or table (slots_at sizes + k) 0) ∙ ap origin_code (sym (are k h))

    place_at : (k : ℕ) → k < sizes.nodes → places k ≡ origin_place sizes.states (origin_at origins k)
    place_at k h =
        let slot : ℕ = get_or table (slots_at sizes + k) 0 in
        ap (λ (c : ℕ). place_word sizes.states c (first nodes k)) (source_is sizes nodes (length table) lent k h control slot)
        ∙ ((good_origin sizes nodes (length table) lent k h control slot).1 ∙ ap (origin_place sizes.states) (sym (are k h)))

    -- the first node of a place is the first node of its load
    place_first : (c i k : ℕ) → Load sizes c i → place_word sizes.states c i ≡ suc k → first_to (placed places k) sizes.nodes ≡ home_of origins c i
    unfolding home_of
    place_first c i k l e =
        ap (first_to (placed places k)) (sym long)
        ∙ first_agree (placed places k) (λ n. is_load c i (origin_at origins n)) 0 (length origins)
        (λ n h.
        let q : n < sizes.nodes = omega (arith, long) in
        ap (λ (p : ℕ). eqb p (suc k)) (place_at n q)
        ∙ (ap (λ (p : ℕ). eqb (origin_place sizes.states (origin_at origins n)) p) (sym e) ∙ place_test sizes c i l (origin_at origins n) (origin_good n q)))

    -- each node's first node
    first_is : (k : ℕ) → k < sizes.nodes → first_word places k ≡ canonical origins k
    unfolding canonical Origins.canonical_as
    first_is k h = go (origin_at origins k) refl (origin_good k h)
      where
        alone : (x : Origin) → origin_at origins k ≡ x → origin_place sizes.states x ≡ 0 → first_word places k ≡ k
        alone x q z = let p : places k ≡ 0 = place_at k h ∙ (ap (origin_place sizes.states) q ∙ z) in rw p

        own_load : (c i : ℕ) → origin_at origins k ≡ loaded c i → is_load c i (origin_at origins k) ≡ true
        own_load c i q = rw (q, eq-eqb c c refl, eq-eqb i i refl)

        shared : (c i p : ℕ) → origin_at origins k ≡ loaded c i → Load sizes c i → place_word sizes.states c i ≡ p → first_word places k ≡ pred (home_of origins c i)
        shared c i zero q l e = absurd (omega (arith, (load_from sizes c i l).0))
        shared c i (suc p) q l e =
            let here : places k ≡ suc p = place_at k h ∙ (ap (origin_place sizes.states) q ∙ e) in
            let f = first_all (placed places p) k sizes.nodes h (eq-eqb (places k) (suc p) here) in
            first_word_at places k p (home_of origins c i) here (f ∙ place_first c i p l e) ∙ less (home_of origins c i)
          where
            less : (x : ℕ) → x - 1 ≡ pred x
            less zero = refl
            less (suc x) = omega arith

        slot : (c i m : ℕ) → origin_at origins k ≡ loaded c i → c ≡ 6 → home_of origins c i ≡ suc m → k ≡ pred (home_of origins c i)
        slot c i m q e f =
            let z : loaded c i ≡ loaded 6 i = ap (λ (x : ℕ). loaded x i) e in
            own k m i h (rw long at (home_known origins c i m f).0) (q ∙ z) (home_origin origins c i m f ∙ z) ∙ sym (ap pred f)

        go : (x : Origin) → origin_at origins k ≡ x → GoodOrigin sizes x → first_word places k ≡ Origins.canonical_as origins k x
        go no_origin q g = alone no_origin q refl
        go (immediate b) q g = alone (immediate b) q refl
        go (loaded c i) q (inl l) = shared c i (place_word sizes.states c i) q l refl
        go (loaded c i) q (inr e) =
            let f = home_finds origins c i k (rw long h) (rw (own_load c i q) tt) in
            alone (loaded c i) q (rw e (slot_place sizes.states i)) ∙ slot c i f.0 q e f.1

    -- THE FIRST NODES of the sources
    pub canonical_firsts : Firsts sizes origins (turns (canonical_node sizes control nodes) table sizes.nodes)
    unfolding Region
    canonical_firsts =
        let t = turned sizes.nodes (omega arith) in
        let n : length (map (canonical origins) (count_up 0 sizes.nodes)) ≡ sizes.nodes = length-map (count_up 0 sizes.nodes) (canonical origins) ∙ count_up_length 0 sizes.nodes in
        let m : length (flags (map has_origin origins)) ≡ sizes.nodes = flags_length (map has_origin origins) ∙ (length-map origins has_origin ∙ long) in
        record {
          canonicals = (
            omega (arith, n, t.size, lent.room),
            λ i h.
                let q : i < sizes.nodes = rw n at h in
                let z : 0 + i ≡ i = omega arith in
                t.canonicals i q ∙ (first_is i q ∙ sym (rw z at (map_at (canonical origins) 0 sizes.nodes i 0 q))),
          );
          freshes = (
            omega (arith, m, t.size, lent.room),
            λ i h.
                let q : i < sizes.nodes = rw m at h in
                t.freshes i q
                ∙ (ap fresh_word (code_at i q)
                ∙ (fresh_origin sizes (origin_at origins i) (origin_good i q)
                ∙ sym (flags_at (map has_origin origins) i ∙ ap flag (get_or-map has_origin origins i no_origin)))),
          );
          audio = let z : homes_at sizes + 0 ≡ homes_at sizes = omega arith in rw z at (t.homes 0 (omega arith)) ∙ place_first 1 0 0 (audio refl refl) (place_audio sizes.states);
          network = t.homes 1 (omega arith) ∙ place_first 2 0 1 (network refl refl) (place_network sizes.states);
          states = λ i h. t.homes (258 + i) (omega arith) ∙ place_first 4 i (258 + i) (state refl h) (place_state sizes.states i);
          delays = λ i h. t.homes (258 + sizes.states + i) (omega arith) ∙ place_first 5 i (258 + sizes.states + i) (delay refl h) (place_delay sizes.states i);
          homes = λ k h. rw (t.homes k h) (first_low (placed places k) sizes.nodes);
        }

-- ---- both phases

-- no node is loaded from a control slot in the control phase
control_slot : (x : Node) (slot : ℕ) → control_origin x ≡ loaded 6 slot → ⊥
unfolding control_origin
control_slot input_node slot e = omega (arith, ap origin_code e)
control_slot network_node slot e = omega (arith, ap origin_code e)
control_slot (constant_node w) slot e = omega (arith, ap origin_code e)
control_slot (parameter_node i) slot e = omega (arith, ap origin_code e)
control_slot (state_node i) slot e = omega (arith, ap origin_code e)
control_slot (delay_node i) slot e = omega (arith, ap origin_code e)
control_slot (binary_node k a d) slot e = omega (arith, ap origin_code e)
control_slot (unary_node k a) slot e = omega (arith, ap origin_code e)

-- nor in the sample phase one that has none
node_slot : (x : Node) (slot : ℕ) → node_origin x ≡ loaded 6 slot → ⊥
unfolding node_origin
node_slot input_node slot e = omega (arith, ap origin_code e)
node_slot network_node slot e = omega (arith, ap origin_code e)
node_slot (constant_node w) slot e = omega (arith, ap origin_code e)
node_slot (parameter_node i) slot e = omega (arith, ap origin_code e)
node_slot (state_node i) slot e = omega (arith, ap origin_code e)
node_slot (delay_node i) slot e = omega (arith, ap origin_code e)
node_slot (binary_node k a d) slot e = omega (arith, ap origin_code e)
node_slot (unary_node k a) slot e = omega (arith, ap origin_code e)

abbrev origin_index : Origin → ℕ
origin_index no_origin = 0
origin_index (immediate bits) = 0
origin_index (loaded c i) = i

-- one that has is loaded from its own
sample_slot : (s : ℕ) (x : Node) (slot : ℕ) → sample_origin s x ≡ loaded 6 slot → s ≡ suc slot
unfolding sample_origin
sample_slot zero x slot e = absurd (node_slot x slot e)
sample_slot (suc s) x slot e = ap suc (ap origin_index e)

-- THE CONTROL PHASE
pub control_firsts : (sizes : Sizes) (nodes table : List ℕ) → Lent sizes nodes (length table) → NoHomes sizes table
    → Firsts sizes (map control_origin (nodes_to nodes sizes.nodes)) (turns (canonical_node sizes true nodes) table sizes.nodes)
control_firsts sizes nodes table lent none =
    let n : ℕ = sizes.nodes in
    let are : (i : ℕ) → i < n → origin_at (map control_origin (nodes_to nodes n)) i ≡ control_origin (node_in nodes i) =
    λ i h. control_at (nodes_to nodes n) i (rw (nodes_length nodes n) h) ∙ ap control_origin (node_at_lem nodes n i h) in
    canonical_firsts sizes true nodes table lent none (map control_origin (nodes_to nodes n)) (length-map (nodes_to nodes n) control_origin ∙ nodes_length nodes n) are
    (λ i k slot h l e f. absurd (control_slot (node_in nodes i) slot (sym (are i h) ∙ e)))

-- THE SAMPLE PHASE, where no control slot is two nodes'
pub sample_firsts : (sizes : Sizes) (nodes slots table : List ℕ) → Lent sizes nodes (length table) → NoHomes sizes table
    → Region (slots_at sizes) slots table → length slots ≡ sizes.nodes → ((i k slot : ℕ) → get_or slots i 0 ≡ suc slot → get_or slots k 0 ≡ suc slot → i ≡ k)
    → Firsts sizes (sample_origins slots (nodes_to nodes sizes.nodes)) (turns (canonical_node sizes false nodes) table sizes.nodes)
sample_firsts sizes nodes slots table lent none held long own =
    let n : ℕ = sizes.nodes in
    let are : (i : ℕ) → i < n → origin_at (sample_origins slots (nodes_to nodes n)) i ≡ sample_origin (get_or slots i 0) (node_in nodes i) =
    λ i h. sample_at slots (nodes_to nodes n) i (rw (nodes_length nodes n) h) ∙ ap (sample_origin (get_or slots i 0)) (node_at_lem nodes n i h) in
    canonical_firsts sizes false nodes table lent none (sample_origins slots (nodes_to nodes n)) (sample_length slots (nodes_to nodes n) ∙ nodes_length nodes n)
    (λ i h. are i h ∙ ap (λ (s : ℕ). sample_origin s (node_in nodes i)) (sym (region_at (slots_at sizes) slots table (slots_at sizes + i) i held refl (rw long h))))
    (λ i k slot h l e f.
    own i k slot (sample_slot (get_or slots i 0) (node_in nodes i) slot (sym (are i h) ∙ e)) (sample_slot (get_or slots k 0) (node_in nodes k) slot (sym (are k l) ∙ f)))
