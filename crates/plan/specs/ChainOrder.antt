-- The chains of the sample phase's writes: each names the memories whose writes come right after one computation, in order: `writes_after_lem`. Assumes nothing.
use Rattle.std.specs.Prelude.{◌≡◌, ◌⊎◌, Bool, true, false, cond, length, set, T, eqb}
use Rattle.std.proofs.Math.Path.{refl, ap, subst}
use Rattle.std.proofs.Common.{sym, ◌∙◌, inl, inr, eqb-true}
use mathlib.Core.List.{List, [], ◌∷◌, map}
use Prim.Native.Nat.{ℕ, zero, suc, ◌+◌, ◌-◌, ◌*◌, ◌≤◌, ◌<◌}
use native.Mathlib.Omega.{arith}
use Rattle.std.proofs.Math.Decide.{ℕ_discrete}
use Rattle.std.proofs.Math.ListN.{get_or, length-set}
use Rattle.std.proofs.Math.Seq.{get_or-set_same, get_or-set_other}
use Rattle.std.proofs.lemmas.Bool.{eqb-false}
use Rattle.plan.specs.declared.Sizes.{Sizes}
use Rattle.plan.specs.Lists.{filter, count_up}
use Rattle.plan.specs.ListLaws.{filter_length, passing_le, count_up_length}
use Rattle.plan.specs.Layout.{Updates, homes_at, heads_at, chain_at}
use Rattle.plan.specs.Chains.{reader_in, after_in, linked, chain_write, chain_writes, chain_from, writes_after}
use Rattle.plan.specs.ReadOrder.{sample_same}

-- how many memories there are
abbrev pub memories : Sizes → ℕ
memories sizes = sizes.states + sizes.delays

-- from this word on a chain names these memories: each is k or later, and later than the one before it
abbrev pub Follows : Sizes → List ℕ → ℕ → ℕ → List ℕ → Type 0
Follows sizes work k word [] = word ≡ 0
Follows sizes work k word (x ∷ list) =
    (word ≡ suc x) × ((k ≤ x) × (x < memories sizes)) × Follows sizes work (suc x) (get_or work (chain_at sizes + x) 0) list

-- a word of a chain names no memory, or a later one than k
abbrev pub Onward : Sizes → ℕ → ℕ → Type 0
Onward sizes k word = (word ≤ memories sizes) × ((1 ≤ word) → k < word)

module _ (sizes : Sizes) where
  -- words of earlier memories do not matter
  follows_kept : (work next : List ℕ) (k word : ℕ) (list : List ℕ) → ((x : ℕ) → k ≤ x → get_or next (chain_at sizes + x) 0 ≡ get_or work (chain_at sizes + x) 0)
      → Follows sizes work k word list → Follows sizes next k word list
  follows_kept work next k word [] f h = h
  follows_kept work next k word (x ∷ list) f h =
      (h.0, h.1, rw (f x h.1.0) (follows_kept work next (suc x) (get_or work (chain_at sizes + x) 0) list (λ y l. f y (omega (arith, h.1.0))) h.2))

  follows_lower : (work : List ℕ) (k word : ℕ) (list : List ℕ) → Follows sizes work (suc k) word list → Follows sizes work k word list
  follows_lower work k word [] h = h
  follows_lower work k word (x ∷ list) h = (h.0, (omega (arith, h.1.0), h.1.1), h.2)

  pub follows_onward : (work : List ℕ) (k word : ℕ) (list : List ℕ) → Follows sizes work k word list → Onward sizes k word
  follows_onward work k word [] h = (omega (arith, h), λ l. absurd (omega (arith, h)))
  follows_onward work k word (x ∷ list) h = (omega (arith, h.0, h.1.1), λ l. omega (arith, h.0, h.1.0))

  -- walking the chain
  follows_list : (work : List ℕ) (most k word : ℕ) (list : List ℕ) → length list ≤ most → Follows sizes work k word list → chain_from sizes work most word ≡ list
  unfolding chain_from
  follows_list work zero k word [] l h = refl
  follows_list work (suc most) k word [] l h = rw h
  follows_list work zero k word (x ∷ list) l h = absurd (omega arith)
  follows_list work (suc most) k word (x ∷ list) l h =
      rw h.0 (ap (λ (r : List ℕ). x ∷ r) (follows_list work most (suc x) (get_or work (chain_at sizes + x) 0) list (omega arith) h.2))

  -- after one link: the table's length, what lies before the heads, the heads, the chains
  linked_length : (w a : ℕ) (work : List ℕ) → length (linked sizes w a work) ≡ length work
  unfolding linked
  linked_length w a work =
      length-set (set work (chain_at sizes + w) (get_or work (heads_at sizes + a) 0)) (heads_at sizes + a) (w + 1)
      ∙ length-set work (chain_at sizes + w) (get_or work (heads_at sizes + a) 0)

  linked_before : (w a : ℕ) (work : List ℕ) (j : ℕ) → j < heads_at sizes → get_or (linked sizes w a work) j 0 ≡ get_or work j 0
  unfolding linked
  linked_before w a work j h =
      get_or-set_other (set work (chain_at sizes + w) (get_or work (heads_at sizes + a) 0)) (heads_at sizes + a) j (w + 1) 0 (λ (e : j ≡ heads_at sizes + a). omega arith)
      ∙ get_or-set_other work (chain_at sizes + w) j (get_or work (heads_at sizes + a) 0) 0 (λ (e : j ≡ chain_at sizes + w). omega arith)

  linked_own : (w a : ℕ) (work : List ℕ) → heads_at sizes + a < length work → get_or (linked sizes w a work) (heads_at sizes + a) 0 ≡ suc w
  unfolding linked
  linked_own w a work h =
      let one : w + 1 ≡ suc w = omega arith in
      rw one (get_or-set_same (set work (chain_at sizes + w) (get_or work (heads_at sizes + a) 0)) (heads_at sizes + a) (suc w) 0
      (rw (length-set work (chain_at sizes + w) (get_or work (heads_at sizes + a) 0)) h))

  linked_head : (w a : ℕ) (work : List ℕ) (d : ℕ) → (a ≡ d → ⊥) → d ≤ sizes.nodes → get_or (linked sizes w a work) (heads_at sizes + d) 0 ≡ get_or work (heads_at sizes + d) 0
  unfolding linked
  linked_head w a work d f l =
      get_or-set_other (set work (chain_at sizes + w) (get_or work (heads_at sizes + a) 0)) (heads_at sizes + a) (heads_at sizes + d) (w + 1) 0
      (λ (e : heads_at sizes + d ≡ heads_at sizes + a). f (omega arith))
      ∙ get_or-set_other work (chain_at sizes + w) (heads_at sizes + d) (get_or work (heads_at sizes + a) 0) 0 (λ (e : heads_at sizes + d ≡ chain_at sizes + w). omega arith)

  linked_next : (w a : ℕ) (work : List ℕ) → a ≤ sizes.nodes → chain_at sizes + w < length work
      → get_or (linked sizes w a work) (chain_at sizes + w) 0 ≡ get_or work (heads_at sizes + a) 0
  unfolding linked
  linked_next w a work l h =
      get_or-set_other (set work (chain_at sizes + w) (get_or work (heads_at sizes + a) 0)) (heads_at sizes + a) (chain_at sizes + w) (w + 1) 0
      (λ (e : chain_at sizes + w ≡ heads_at sizes + a). omega arith)
      ∙ get_or-set_same work (chain_at sizes + w) (get_or work (heads_at sizes + a) 0) 0 h

  linked_chain : (w a : ℕ) (work : List ℕ) (x : ℕ) → a ≤ sizes.nodes → (w ≡ x → ⊥) → get_or (linked sizes w a work) (chain_at sizes + x) 0 ≡ get_or work (chain_at sizes + x) 0
  unfolding linked
  linked_chain w a work x l f =
      get_or-set_other (set work (chain_at sizes + w) (get_or work (heads_at sizes + a) 0)) (heads_at sizes + a) (chain_at sizes + x) (w + 1) 0
      (λ (e : chain_at sizes + x ≡ heads_at sizes + a). omega arith)
      ∙ get_or-set_other work (chain_at sizes + w) (chain_at sizes + x) (get_or work (heads_at sizes + a) 0) 0
      (λ (e : chain_at sizes + x ≡ chain_at sizes + w). f (omega arith))

-- words behind the heads do not say where a write comes
module _ (sizes : Sizes) (nodes work table : List ℕ) (same : (j : ℕ) → j < heads_at sizes → get_or work j 0 ≡ get_or table j 0) where
  reader_same : (w : ℕ) → w < memories sizes → get_or table (homes_at sizes + (258 + w)) 0 ≤ sizes.nodes → reader_in sizes work w ≡ reader_in sizes table w
  unfolding reader_in
  reader_same w l h =
      rw (same (homes_at sizes + (258 + w)) (omega arith), same (10 * sizes.nodes + (get_or table (homes_at sizes + (258 + w)) 0 - 1)) (omega arith))

  after_same : (w value : ℕ) → w < memories sizes → get_or table (homes_at sizes + (258 + w)) 0 ≤ sizes.nodes → value < sizes.nodes
      → after_in sizes nodes work w value ≡ after_in sizes nodes table w value
  unfolding after_in
  after_same w value l h below =
      rw (sample_same sizes.nodes nodes work table value (same (sizes.nodes + value) (omega arith)) (same (2 * sizes.nodes + value) (omega arith)), reader_same w l h)

-- has memory w an update, and does its write come at such a place: n + 1 is right after computation n, 0 is first of all
abbrev pub goes : Sizes → List ℕ → List ℕ → List ℕ → (ℕ → Bool) → ℕ → Bool
goes sizes nodes updates table place w = cond (eqb (get_or updates w 0) 0) false (place (after_in sizes nodes table w (get_or updates w 0 - 1)))

module _ (sizes : Sizes) (nodes updates table : List ℕ) (p q : ℕ → Bool) (w : ℕ) where
  pub goes_apart : ((b : ℕ) → T (p b) → T (q b) → ⊥) → T (goes sizes nodes updates table p w) → T (goes sizes nodes updates table q w) → ⊥
  goes_apart f = go (eqb (get_or updates w 0) 0)
    where
      go : (b : Bool) → T (cond b false (p (after_in sizes nodes table w (get_or updates w 0 - 1)))) → T (cond b false (q (after_in sizes nodes table w (get_or updates w 0 - 1)))) → ⊥
      go true t u = t
      go false t u = f (after_in sizes nodes table w (get_or updates w 0 - 1)) t u

  pub goes_within : ((b : ℕ) → T (p b) → T (q b)) → T (goes sizes nodes updates table p w) → T (goes sizes nodes updates table q w)
  goes_within f = go (eqb (get_or updates w 0) 0)
    where
      go : (b : Bool) → T (cond b false (p (after_in sizes nodes table w (get_or updates w 0 - 1)))) → T (cond b false (q (after_in sizes nodes table w (get_or updates w 0 - 1))))
      go true t = t
      go false t = f (after_in sizes nodes table w (get_or updates w 0 - 1)) t

-- the chains of a table in which no chain begins yet
module _ (sizes : Sizes) (nodes updates table : List ℕ) (room : chain_at sizes + memories sizes ≤ length table) (small : Updates sizes updates)
    (homes : (k : ℕ) → k < 258 + sizes.states + sizes.delays → get_or table (homes_at sizes + k) 0 ≤ sizes.nodes)
    (low : (w value : ℕ) → w < memories sizes → value < sizes.nodes → after_in sizes nodes table w value ≤ sizes.nodes)
    (heads : (a : ℕ) → a ≤ sizes.nodes → get_or table (heads_at sizes + a) 0 ≡ 0) where
  -- .. right after computation a - 1, or first of all where a is 0
  abbrev pub comes : ℕ → ℕ → Bool
  comes a = goes sizes nodes updates table (λ b. eqb b a)

  -- with the chains of the k memories from w on
  abbrev pub Linking : ℕ → ℕ → List ℕ → Type 0
  Linking w k work =
      (length work ≡ length table) × ((j : ℕ) → j < heads_at sizes → get_or work j 0 ≡ get_or table j 0)
      × ((a : ℕ) → a ≤ sizes.nodes → Follows sizes work w (get_or work (heads_at sizes + a) 0) (filter (comes a) (count_up w k)))
      × ((x : ℕ) → x < memories sizes → (get_or work (chain_at sizes + x) 0 ≡ get_or table (chain_at sizes + x) 0) ⊎ Onward sizes (x + 1) (get_or work (chain_at sizes + x) 0))

  -- memory w's turn
  link : (w k : ℕ) (work : List ℕ) → w + suc k ≡ memories sizes → Linking (suc w) k work → Linking w (suc k) (chain_write sizes nodes (get_or updates w 0) w work)
  unfolding chain_write
  link w k work e h = go (eqb (get_or updates w 0) 0) refl
    where
      v : ℕ
      v = get_or updates w 0 - 1

      c : ℕ
      c = after_in sizes nodes table w v

      next : List ℕ
      next = linked sizes w c work

      rest : ℕ → List ℕ
      rest a = filter (comes a) (count_up (suc w) k)

      long : length next ≡ length table
      long = linked_length sizes w c work ∙ h.0

      follow : c ≤ sizes.nodes → (a : ℕ) → a ≤ sizes.nodes → (b : Bool) → eqb c a ≡ b
          → Follows sizes next w (get_or next (heads_at sizes + a) 0) (cond b (w ∷ rest a) (rest a))
      follow l a below true q =
          let z : c ≡ a = eqb-true c a q in
          let kept = follows_kept sizes work next (suc w) (get_or work (heads_at sizes + a) 0) (rest a) (λ x g. linked_chain sizes w c work x l (λ (y : w ≡ x). omega arith)) (h.2 a below) in
          let word : get_or next (chain_at sizes + w) 0 ≡ get_or work (heads_at sizes + a) 0 =
          linked_next sizes w c work l (omega (arith, h.0)) ∙ ap (λ (d : ℕ). get_or work (heads_at sizes + d) 0) z in
          let own : get_or next (heads_at sizes + a) 0 ≡ suc w =
          ap (λ (d : ℕ). get_or next (heads_at sizes + d) 0) (sym z) ∙ linked_own sizes w c work (omega (arith, h.0)) in
          (own, (omega arith, omega arith), subst (λ (y : ℕ). Follows sizes next (suc w) y (rest a)) (sym word) kept)
      follow l a below false q =
          subst (λ (y : ℕ). Follows sizes next w y (rest a)) (sym (linked_head sizes w c work a (eqb-false c a q) below))
          (follows_lower sizes next w (get_or work (heads_at sizes + a) 0) (rest a)
          (follows_kept sizes work next (suc w) (get_or work (heads_at sizes + a) 0) (rest a) (λ x g. linked_chain sizes w c work x l (λ (y : w ≡ x). omega arith)) (h.2 a below)))

      onward : c ≤ sizes.nodes → (x : ℕ) → x < memories sizes → Dec (w ≡ x)
          → (get_or next (chain_at sizes + x) 0 ≡ get_or table (chain_at sizes + x) 0) ⊎ Onward sizes (x + 1) (get_or next (chain_at sizes + x) 0)
      onward l x below (yes z) =
          let one : w + 1 ≡ suc w = omega arith in
          inr (rw (← z, one, linked_next sizes w c work l (omega (arith, h.0))) (follows_onward sizes work (suc w) (get_or work (heads_at sizes + c) 0) (rest c) (h.2 c l)))
      onward l x below (no z) = rw (linked_chain sizes w c work x l z) (h.3 x below)

      go : (b : Bool) → eqb (get_or updates w 0) 0 ≡ b
          → (length (cond b work (linked sizes w (after_in sizes nodes work w v) work)) ≡ length table)
          × ((j : ℕ) → j < heads_at sizes → get_or (cond b work (linked sizes w (after_in sizes nodes work w v) work)) j 0 ≡ get_or table j 0)
          × ((a : ℕ) → a ≤ sizes.nodes → Follows sizes (cond b work (linked sizes w (after_in sizes nodes work w v) work)) w
          (get_or (cond b work (linked sizes w (after_in sizes nodes work w v) work)) (heads_at sizes + a) 0) (cond (cond b false (eqb c a)) (w ∷ rest a) (rest a)))
          × ((x : ℕ) → x < memories sizes
          → (get_or (cond b work (linked sizes w (after_in sizes nodes work w v) work)) (chain_at sizes + x) 0 ≡ get_or table (chain_at sizes + x) 0)
          ⊎ Onward sizes (x + 1) (get_or (cond b work (linked sizes w (after_in sizes nodes work w v) work)) (chain_at sizes + x) 0))
      go true q = (h.0, h.1, λ a below. follows_lower sizes work w (get_or work (heads_at sizes + a) 0) (rest a) (h.2 a below), h.3)
      go false q =
          let some : get_or updates w 0 ≡ 0 → ⊥ = eqb-false (get_or updates w 0) 0 q in
          let below : v < sizes.nodes = omega (arith, small w, some) in
          let l : c ≤ sizes.nodes = low w v (omega arith) below in
          rw (after_same sizes nodes work table h.1 w v (omega arith) (homes (258 + w) (omega arith)) below)
          (long, λ j g. linked_before sizes w c work j g ∙ h.1 j g, λ a g. follow l a g (eqb c a) refl, λ x g. onward l x g (ℕ_discrete w x))

  linking : (w k : ℕ) (work : List ℕ) → w + k ≡ memories sizes → Linking w k work → Linking 0 (memories sizes) (chain_writes sizes nodes updates w work)
  unfolding chain_writes
  linking zero k work e h = let z : k ≡ memories sizes = omega arith in subst (λ (m : ℕ). Linking 0 m work) z h
  linking (suc w) k work e h = linking w (suc k) (chain_write sizes nodes (get_or updates w 0) w work) (omega arith) (link w k work (omega arith) h)

  -- all the memories
  pub chains : Linking 0 (memories sizes) (chain_writes sizes nodes updates (memories sizes) table)
  chains = linking (memories sizes) 0 table (omega arith) (refl, λ j l. refl, heads, λ x l. inl refl)

  -- the words of the writes right after computation a - 1
  pub writes_after_lem : (a : ℕ) → a ≤ sizes.nodes
      → writes_after sizes (chain_writes sizes nodes updates (memories sizes) table) a ≡ map (λ w. 2 * sizes.nodes + w) (filter (comes a) (count_up 0 (memories sizes)))
  unfolding writes_after
  writes_after_lem a below =
      ap (map (λ w. 2 * sizes.nodes + w))
      (follows_list sizes (chain_writes sizes nodes updates (memories sizes) table) (memories sizes) 0
      (get_or (chain_writes sizes nodes updates (memories sizes) table) (heads_at sizes + a) 0) (filter (comes a) (count_up 0 (memories sizes)))
      (rw (filter_length (comes a) (count_up 0 (memories sizes))) (omega (arith, passing_le (comes a) (count_up 0 (memories sizes)), count_up_length 0 (memories sizes)))) (chains.2 a below))
