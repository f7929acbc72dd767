-- Laws of control slots, of where values come from, and of the first node of a source. Assumes nothing.
use Rattle.std.proofs.Common.{◌∙◌, ap, sym, inl, inr, arith, get_or-drop, eqb→eq}
use Rattle.std.specs.Prelude.{◌≡◌, refl, ◌⊎◌, Bool, false, not, true, List, [], ◌∷◌, map, ◌+◌, ◌<◌, ◌≤◌, pred, suc, zero, ℕ, drop, get_or, length, T, eqb}
use Rattle.std.proofs.lemmas.Bool.{false≢true}
use Rattle.std.proofs.Math.Dec.{eqb_refl}
use Rattle.plan.specs.Nodes.{Node, input_node, network_node, constant_node, parameter_node, state_node, delay_node, binary_node, unary_node, is_computed, node_at}
use Rattle.plan.specs.Origins.{Origin, no_origin, immediate, loaded, has_origin, is_load, origin_at, control_origin, node_origin, sample_origin, sample_origins, home_of, canonical_as, canonical}
use Rattle.plan.specs.Lists.{member, count_up, count}
use Rattle.plan.specs.Hoist.{number, invariant_node}
use Rattle.plan.specs.ListLaws.{count_up_below, first_finds, count_up_member, first_some}
use Rattle.plan.specs.TestLaws.{and_first, and_second, and_both}

-- ---- control slots

-- a flagged node's slot is in range, and slots grow with the nodes
pub number_lt : (k : ℕ) (fs : List Bool) (n j : ℕ) → get_or (number k fs) n 0 ≡ suc j → T (get_or fs n false) × (k ≤ j) × (j < k + count (number k fs))
number_lt k [] n j h = absurd (omega arith)
number_lt k (true ∷ fs) zero j h = (tt, omega arith, omega arith)
number_lt k (false ∷ fs) zero j h = absurd (omega arith)
number_lt k (true ∷ fs) (suc n) j h = let r = number_lt (suc k) fs n j h in (r.0, omega (arith, r.1), omega (arith, r.2))
number_lt k (false ∷ fs) (suc n) j h = number_lt k fs n j h

-- no slot is two nodes'
pub number_inj : (k : ℕ) (fs : List Bool) (n m j : ℕ) → get_or (number k fs) n 0 ≡ suc j → get_or (number k fs) m 0 ≡ suc j → n ≡ m
number_inj k [] n m j h g = absurd (omega arith)
number_inj k (true ∷ fs) zero zero j h g = refl
number_inj k (true ∷ fs) zero (suc m) j h g = absurd (omega (arith, (number_lt (suc k) fs m j g).1))
number_inj k (true ∷ fs) (suc n) zero j h g = absurd (omega (arith, (number_lt (suc k) fs n j h).1))
number_inj k (true ∷ fs) (suc n) (suc m) j h g = ap suc (number_inj (suc k) fs n m j h g)
number_inj k (false ∷ fs) zero m j h g = absurd (omega arith)
number_inj k (false ∷ fs) (suc n) zero j h g = absurd (omega arith)
number_inj k (false ∷ fs) (suc n) (suc m) j h g = ap suc (number_inj k fs n m j h g)

-- a flagged node has a slot
pub number_some : (k : ℕ) (fs : List Bool) (n : ℕ) → T (get_or fs n false) → (j : ℕ) × (get_or (number k fs) n 0 ≡ suc j)
number_some k [] n t = absurd t
number_some k (true ∷ fs) zero t = (k, refl)
number_some k (false ∷ fs) zero t = absurd t
number_some k (true ∷ fs) (suc n) t = number_some (suc k) fs n t
number_some k (false ∷ fs) (suc n) t = number_some k fs n t

-- a word for each flag
pub number_length : (k : ℕ) (fs : List Bool) → length (number k fs) ≡ length fs
number_length k [] = refl
number_length k (true ∷ fs) = ap suc (number_length (suc k) fs)
number_length k (false ∷ fs) = ap suc (number_length k fs)

-- ---- origins

-- the origin of node n in the sample phase
pub sample_at : (ks : List ℕ) (ns : List Node) (n : ℕ) → n < length ns → origin_at (sample_origins ks ns) n ≡ sample_origin (get_or ks n 0) (node_at ns n)
sample_at ks [] n h = absurd (omega arith)
sample_at ks (x ∷ xs) zero h = refl
sample_at ks (x ∷ xs) (suc n) h =
    sample_at (drop 1 ks) xs n (omega arith) ∙ ap (λ (k : ℕ). sample_origin k (node_at xs n)) (get_or-drop 1 ks n 0 ∙ ap (λ (i : ℕ). get_or ks i 0) (omega arith))

-- one for each node
pub sample_length : (ks : List ℕ) (ns : List Node) → length (sample_origins ks ns) ≡ length ns
sample_length ks [] = refl
sample_length ks (x ∷ xs) = ap suc (sample_length (drop 1 ks) xs)

-- what has none there has no control slot and is computed
pub sample_none : (k : ℕ) (x : Node) → T (not (has_origin (sample_origin k x))) → (k ≡ 0) × T (is_computed x)
unfolding sample_origin node_origin
sample_none zero input_node t = absurd t
sample_none zero network_node t = absurd t
sample_none zero (constant_node b) t = absurd t
sample_none zero (parameter_node i) t = absurd t
sample_none zero (state_node i) t = absurd t
sample_none zero (delay_node i) t = absurd t
sample_none zero (binary_node k a b) t = (refl, tt)
sample_none zero (unary_node k a) t = (refl, tt)
sample_none (suc k) x t = absurd t

-- the origin of node n in the control phase
pub control_at : (ns : List Node) (n : ℕ) → n < length ns → origin_at (map control_origin ns) n ≡ control_origin (node_at ns n)
control_at [] n h = absurd (omega arith)
control_at (x ∷ xs) zero h = refl
control_at (x ∷ xs) (suc n) h = control_at xs n (omega arith)

-- what is computed has none there
pub control_computed : (x : Node) → T (is_computed x) → control_origin x ≡ no_origin
unfolding control_origin
control_computed input_node t = absurd t
control_computed network_node t = absurd t
control_computed (constant_node b) t = absurd t
control_computed (parameter_node i) t = absurd t
control_computed (state_node i) t = absurd t
control_computed (delay_node i) t = absurd t
control_computed (binary_node k a b) t = refl
control_computed (unary_node k a) t = refl

-- a node of constants and parameters alone has a control source, or is computed
pub control_leaf : (x : Node) (gl : List Bool) → T (invariant_node x gl) → T (is_computed x) ⊎ T (has_origin (control_origin x))
unfolding control_origin
control_leaf input_node gl t = absurd t
control_leaf network_node gl t = absurd t
control_leaf (constant_node b) gl t = inr tt
control_leaf (parameter_node i) gl t = inr tt
control_leaf (state_node i) gl t = absurd t
control_leaf (delay_node i) gl t = absurd t
control_leaf (binary_node k a b) gl t = inl tt
control_leaf (unary_node k a) gl t = inl tt

-- a node without an origin has `no_origin`
pub no_origin_lem : (x : Origin) → has_origin x ≡ false → x ≡ no_origin
no_origin_lem no_origin h = refl
no_origin_lem (immediate b) h = absurd (false≢true (sym h))
no_origin_lem (loaded c i) h = absurd (false≢true (sym h))

-- what passes as the load of a code and index is it
pub is_load_lem : (c i : ℕ) (x : Origin) → T (is_load c i x) → x ≡ loaded c i
is_load_lem c i no_origin t = absurd t
is_load_lem c i (immediate b) t = absurd t
is_load_lem c i (loaded d j) t =
    let cd : c ≡ d = eqb→eq c d (and_first (eqb c d) (eqb i j) t) in
    let ij : i ≡ j = eqb→eq i j (and_second (eqb c d) (eqb i j) t) in
    rw (cd, ij)

-- a node that has an origin is one of the nodes
pub origin_inside : (ss : List Origin) (n : ℕ) → T (has_origin (origin_at ss n)) → n < length ss
origin_inside [] n t = absurd t
origin_inside (x ∷ xs) zero t = omega arith
origin_inside (x ∷ xs) (suc n) t = omega (arith, origin_inside xs n t)

-- a load is an origin
pub load_origin : (c i : ℕ) (x : Origin) → T (is_load c i x) → T (has_origin x)
load_origin c i no_origin t = absurd t
load_origin c i (immediate b) t = tt
load_origin c i (loaded d j) t = tt

-- ---- the first node of a source

-- a load's source has a first node
pub home_finds : (ss : List Origin) (c i n : ℕ) → n < length ss → T (is_load c i (origin_at ss n)) → (m : ℕ) × (home_of ss c i ≡ suc m)
unfolding home_of
home_finds ss c i n h t = first_finds (λ n. is_load c i (origin_at ss n)) (count_up 0 (length ss)) n (count_up_member 0 (length ss) n (omega arith) (omega arith)) t

-- .. which is one of the nodes and has an origin
pub home_known : (ss : List Origin) (c i n : ℕ) → home_of ss c i ≡ suc n → (n < length ss) × T (has_origin (origin_at ss n))
unfolding home_of
home_known ss c i n h =
    let p : T (member n (count_up 0 (length ss))) × (is_load c i (origin_at ss n) ≡ true) = first_some (λ n. is_load c i (origin_at ss n)) (count_up 0 (length ss)) n h in
    (omega (arith, count_up_below 0 (length ss) n p.0), load_origin c i (origin_at ss n) (rw p.1 tt))

-- .. which is that load
pub home_origin : (ss : List Origin) (c i n : ℕ) → home_of ss c i ≡ suc n → origin_at ss n ≡ loaded c i
unfolding home_of
home_origin ss c i n h = is_load_lem c i (origin_at ss n) (rw (first_some (λ n. is_load c i (origin_at ss n)) (count_up 0 (length ss)) n h).1 tt)

-- the shared node of a source, or the node itself
pub canonical_origin : (ss : List Origin) (n : ℕ) → n < length ss → T (has_origin (origin_at ss n))
    → (canonical ss n < length ss) × T (has_origin (origin_at ss (canonical ss n)))
unfolding canonical canonical_as
canonical_origin ss n h t = go (origin_at ss n) refl
  where
    same : (x : Origin) → origin_at ss n ≡ x → T (has_origin x) → (n < length ss) × T (has_origin (origin_at ss n))
    same x q u = (h, t)

    go : (x : Origin) → origin_at ss n ≡ x → (canonical_as ss n x < length ss) × T (has_origin (origin_at ss (canonical_as ss n x)))
    go no_origin q = absurd (rw q at t)
    go (immediate b) q = (h, t)
    go (loaded c i) q =
        let own : T (is_load c i (origin_at ss n)) = rw q (and_both (eqb c c) (eqb i i) (eqb_refl c) (eqb_refl i)) in
        let f : (m : ℕ) × (home_of ss c i ≡ suc m) = home_finds ss c i n h own in
        let pm : pred (home_of ss c i) ≡ f.0 = ap pred f.1 ∙ omega arith in
        rw pm (home_known ss c i f.0 f.1)

-- a computed node is its own
pub canonical_computed : (ss : List Origin) (n : ℕ) → origin_at ss n ≡ no_origin → canonical ss n ≡ n
unfolding canonical canonical_as
canonical_computed ss n h = rw h
