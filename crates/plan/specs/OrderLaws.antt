-- The sample schedule by exact words gives the plan's sample tasks: `order_words`. Assumes nothing.
use Rattle.std.specs.Prelude.{◌≡◌, ◌⊎◌, cond, ◌&&◌, replicate, T}
use Rattle.std.proofs.Math.Path.{refl, sym, ap}
use Rattle.std.proofs.Common.{◌∙◌, inl, inr, get_or-append-add}
use Rattle.std.proofs.Math.Bool.{Bool, true, false, not}
use mathlib.Core.List.{List, [], ◌∷◌, ◌++◌, map, append_assoc, append-nil}
use Prim.Native.Nat.{ℕ, zero, suc, ◌+◌, ◌-◌, ◌*◌, ◌≤◌, ◌<◌}
use native.Mathlib.Omega.{arith}
use Rattle.std.proofs.Math.Decide.{dec_lt}
use Rattle.std.proofs.Math.ListN.{length, get_or, length-append, get_or-append}
use Rattle.std.proofs.lemmas.List.{length-map, length-replicate}
use Rattle.std.proofs.Math.Dec.{eqb, ltb, eqb→eq}
use borrow.Author.Tests.{ne_eqb, ltb-true, lt-ltb}
use denote.Floats.{passes, is_true}
use Rattle.tables.specs.Loops.{turns}
use Rattle.plan.specs.declared.Sizes.{Sizes}
use Rattle.plan.specs.Lists.{filter, any_of, count_up}
use Rattle.plan.specs.ListLaws.{passing, one_more, filter_length, passing_apart, count_up_length, map_at}
use Rattle.plan.specs.Nodes.{Node, Flow, roots}
use Rattle.plan.specs.Origins.{Origin, has_origin, origin_at, sample_origin, canonical}
use Rattle.plan.specs.OriginLaws.{number_length, sample_at, sample_length}
use Rattle.plan.specs.Schedule.{store_task, Write, writes_from, writes, tasks_of, waits, sample_computations, schedule_from, schedule, plan_of}
use Rattle.plan.specs.Layout.{Lent, Updates, store_word, task_word, needed_at, slots_at, canonical_at, last_at, homes_at, heads_at, chain_at}
use Rattle.plan.specs.Words.{nodes_to, nodes_length, node_at_lem}
use Rattle.plan.specs.Regions.{Region, region_at, flags, flags_length, flags_at}
use Rattle.plan.specs.Hoist.{hoistable, mark_all, needed_by, homes_of}
use Rattle.plan.specs.Flow.{node_in, flow_of}
use Rattle.plan.specs.Reached.{length_mark_all, length_sweep}
use Rattle.plan.specs.ControlLaws.{map_append, homes_to, homes_to_length}
use Rattle.plan.specs.SampleLaws.{sample_in, sample_in_lem}
use Rattle.plan.specs.Chains.{Canonicals, Reading, Chained, last_node, after_in, chain_writes, writes_after, tasks_after, tasks_to, sample_words}
use Rattle.plan.specs.ReadOrder.{last_of, last_low, canonical_below, sample_same, comes_first, comes_here, Sourced, reads, turned, after_is}
use Rattle.plan.specs.ControlShare.{flow_in, invariant_of, needed_of, hoisted_of}
use Rattle.plan.specs.Shares.{Firsts}
use Rattle.plan.specs.ChainOrder.{Onward, follows_onward, goes, goes_apart, goes_within, Linking, chains, writes_after_lem}

-- ---- Generic: lists

-- tests that agree pass the same elements
filter_same : {A : Type 0} (p q : A → Bool) (list : List A) → ((x : A) → p x ≡ q x) → filter p list ≡ filter q list
filter_same p q [] h = refl
filter_same p q (x ∷ list) h = rw (h x, filter_same p q list h)

-- .. and those that agree on the numbers counted
filter_count : (p q : ℕ → Bool) (k n : ℕ) → ((m : ℕ) → k ≤ m → m < k + n → p m ≡ q m) → filter p (count_up k n) ≡ filter q (count_up k n)
filter_count p q k zero h = refl
filter_count p q k (suc n) h = rw (h k (omega arith) (omega arith), filter_count p q (suc k) n (λ m l g. h m (omega arith) (omega arith)))

-- tests that never both pass, and each only where r does
passing_within : (p q r : ℕ → Bool) (list : List ℕ) → ((n : ℕ) → T (p n) → T (q n) → ⊥) → ((n : ℕ) → T (p n) → T (r n)) → ((n : ℕ) → T (q n) → T (r n))
    → passing p list + passing q list ≤ passing r list
passing_within p q r [] f g h = omega arith
passing_within p q r (x ∷ list) f g h = go (p x) (q x) (r x) (f x) (g x) (h x) (passing_within p q r list f g h)
  where
    go : (a b c : Bool) → (T a → T b → ⊥) → (T a → T c) → (T b → T c) → passing p list + passing q list ≤ passing r list
        → one_more a (passing p list) + one_more b (passing q list) ≤ one_more c (passing r list)
    go true true c f g h l = absurd (f tt tt)
    go true false true f g h l = omega arith
    go true false false f g h l = absurd (g tt)
    go false true true f g h l = omega arith
    go false true false f g h l = absurd (h tt)
    go false false true f g h l = omega arith
    go false false false f g h l = l

-- ---- the writes

-- the writes of a table of updates, those that pass, as words: the memories from m on, by their numbers
module _ (sizes : Sizes) (p : Write → Bool) (q : ℕ → Bool) where
  -- the write of this update passes where memory m does, and is its word
  abbrev Fit : ℕ → ℕ → ℕ → ℕ → Type 0
  Fit code i m zero = q m ≡ false
  Fit code i m (suc v) = (p (record { code = code; index = i; value = v }) ≡ q m) × (store_word sizes code i ≡ m)

  abbrev Fits : ℕ → ℕ → ℕ → List ℕ → Type 0
  Fits code i m us = (k : ℕ) → k < length us → Fit code (i + k) (m + k) (get_or us k 0)

  fits_own : (code i m u : ℕ) (us : List ℕ) → Fits code i m (u ∷ us) → Fit code i m u
  fits_own code i m u us f =
      let y : i + 0 ≡ i = omega arith in
      let z : m + 0 ≡ m = omega arith in
      rw (y, z) at (f 0 (omega arith))

  fits_next : (code i m u : ℕ) (us : List ℕ) → Fits code i m (u ∷ us) → Fits code (suc i) (suc m) us
  fits_next code i m u us f k l =
      let y : i + suc k ≡ suc i + k = omega arith in
      let z : m + suc k ≡ suc m + k = omega arith in
      rw (y, z) at (f (suc k) (omega arith))

  writes_from_lem : (more : List Write) (n code i m : ℕ) (us : List ℕ) → Fits code i m us
      → map (task_word sizes) (tasks_of (filter p more)) ≡ map (λ w. 2 * sizes.nodes + w) (filter q (count_up (m + length us) n))
      → map (task_word sizes) (tasks_of (filter p (writes_from code i us ++ more))) ≡ map (λ w. 2 * sizes.nodes + w) (filter q (count_up m (length us + n)))
  unfolding task_word
  writes_from_lem more n code i m [] f h =
      let z : m + 0 ≡ m = omega arith in
      let y : 0 + n ≡ n = omega arith in
      rw y (rw z at h)
  writes_from_lem more n code i m (zero ∷ us) f h =
      let z : suc (length us) + n ≡ suc (length us + n) = omega arith in
      let y : m + suc (length us) ≡ suc m + length us = omega arith in
      rw (z, fits_own code i m 0 us f) (writes_from_lem more n code (suc i) (suc m) us (fits_next code i m 0 us f) (rw y at h))
  writes_from_lem more n code i m (suc v ∷ us) f h =
      let z : suc (length us) + n ≡ suc (length us + n) = omega arith in
      let y : m + suc (length us) ≡ suc m + length us = omega arith in
      let e = fits_own code i m (suc v) us f in
      let rest = writes_from_lem more n code (suc i) (suc m) us (fits_next code i m (suc v) us f) (rw y at h) in
      rw (z, e.0) (keep (q m) (λ j. (2 * sizes.nodes + e.1 j) ∷ rest j) rest)
    where
      keep : (b : Bool)
          → (2 * sizes.nodes + store_word sizes code i) ∷ map (task_word sizes) (tasks_of (filter p (writes_from code (suc i) us ++ more)))
          ≡ (2 * sizes.nodes + m) ∷ map (λ w. 2 * sizes.nodes + w) (filter q (count_up (suc m) (length us + n)))
          → map (task_word sizes) (tasks_of (filter p (writes_from code (suc i) us ++ more))) ≡ map (λ w. 2 * sizes.nodes + w) (filter q (count_up (suc m) (length us + n)))
          → map (task_word sizes)
          (tasks_of (cond b (record { code = code; index = i; value = v } ∷ filter p (writes_from code (suc i) us ++ more)) (filter p (writes_from code (suc i) us ++ more))))
          ≡ map (λ w. 2 * sizes.nodes + w) (cond b (m ∷ filter q (count_up (suc m) (length us + n))) (filter q (count_up (suc m) (length us + n))))
      keep true e f = e
      keep false e f = f

-- ---- the tasks, from the first on

module _ (sizes : Sizes) (nodes work : List ℕ) where
  -- of the n nodes from k on
  abbrev tasks_from : ℕ → ℕ → List ℕ
  tasks_from k zero = []
  tasks_from k (suc n) = tasks_after sizes nodes work k ++ tasks_from (suc k) n

  tasks_split : (k n : ℕ) → tasks_to sizes nodes work (k + n) ≡ tasks_to sizes nodes work k ++ tasks_from k n
  unfolding tasks_to
  tasks_split k zero = let z : k + 0 ≡ k = omega arith in rw z (sym (append-nil (tasks_to sizes nodes work k)))
  tasks_split k (suc n) =
      let z : k + suc n ≡ suc k + n = omega arith in
      rw z (tasks_split (suc k) n ∙ append_assoc (tasks_to sizes nodes work k) (tasks_after sizes nodes work k) (tasks_from (suc k) n))

-- ---- the plan's sample tasks

-- what the table holds as the sample schedule is made: needs, slots and the first nodes of sources, no last reads and no chains
pub record Ready (sizes : Sizes) (nodes updates stores : List ℕ) (output : ℕ) (table : List ℕ) : Type 0 where
  pub lent : Lent sizes nodes (length table)
  pub ups : Updates sizes updates
  pub dels : Updates sizes stores
  pub states : length updates ≡ sizes.states
  pub delays : length stores ≡ sizes.delays
  pub needed : Region (needed_at sizes) (flags (needed_of (flow_in sizes nodes updates stores output))) table
  pub slots : Region (slots_at sizes) (plan_of (flow_in sizes nodes updates stores output)).slots table
  pub firsts : Firsts sizes (plan_of (flow_in sizes nodes updates stores output)).sample_origins table
  pub lasts : (k : ℕ) → k < sizes.nodes → get_or table (last_at sizes + k) 0 ≡ 0
  pub heads : (a : ℕ) → a ≤ sizes.nodes → get_or table (heads_at sizes + a) 0 ≡ 0

module _ (sizes : Sizes) (nodes updates stores : List ℕ) (output : ℕ) (table : List ℕ) (r : Ready sizes nodes updates stores output table) where
  abbrev n : ℕ
  n = sizes.nodes

  abbrev flow : Flow
  flow = flow_in sizes nodes updates stores output

  abbrev ns : List Node
  ns = nodes_to nodes n

  abbrev origins : List Origin
  origins = (plan_of flow).sample_origins

  -- with the last reads, and with the chains
  abbrev read : List ℕ
  read = turns (last_node n nodes) table n

  abbrev done : List ℕ
  done = chain_writes sizes nodes (updates ++ stores) (sizes.states + sizes.delays) read

  needed_long : length (flags (needed_of flow)) ≡ n
  unfolding flow_of needed_by
  needed_long =
      flags_length (needed_of flow)
      ∙ (length_sweep ns (λ m. not (hoistable ns (invariant_of flow) m)) (length ns) (mark_all (roots flow) (replicate (length ns) false))
      ∙ (length_mark_all (roots flow) (replicate (length ns) false) ∙ (length-replicate (length ns) false ∙ nodes_length nodes n)))

  slots_long : length (plan_of flow).slots ≡ n
  unfolding plan_of flow_of homes_of
  slots_long =
      number_length 0 (hoisted_of flow)
      ∙ (ap (λ (k : ℕ). length (homes_to ns (invariant_of flow) (needed_of flow) k)) (nodes_length nodes n) ∙ homes_to_length ns (invariant_of flow) (needed_of flow) n)

  origins_long : length origins ≡ n
  unfolding plan_of flow_of
  origins_long = sample_length (plan_of flow).slots ns ∙ nodes_length nodes n

  origin_is : (i : ℕ) → i < n → origin_at origins i ≡ sample_origin (get_or (plan_of flow).slots i 0) (node_in nodes i)
  unfolding plan_of flow_of
  origin_is i l = sample_at (plan_of flow).slots ns i (rw (nodes_length nodes n) l) ∙ ap (sample_origin (get_or (plan_of flow).slots i 0)) (node_at_lem nodes n i l)

  -- the sample phase's computations
  computation : (i : ℕ) → i < n → sample_in n nodes table i ≡ (get_or (needed_of flow) i false && not (has_origin (origin_at origins i)))
  computation i l =
      sample_in_lem sizes nodes (length table) r.lent i l (get_or (needed_of flow) i false) (get_or (plan_of flow).slots i 0) table
      (region_at (needed_at sizes) (flags (needed_of flow)) table (n + i) i r.needed refl (rw needed_long l) ∙ flags_at (needed_of flow) i)
      (region_at (slots_at sizes) (plan_of flow).slots table (2 * n + i) i r.slots refl (rw slots_long l))
      ∙ ap (λ (o : Origin). get_or (needed_of flow) i false && not (has_origin o)) (sym (origin_is i l))

  computations : filter (sample_in n nodes table) (count_up 0 n) ≡ sample_computations ns (needed_of flow) origins
  unfolding sample_computations
  computations =
      rw (nodes_length nodes n)
      (filter_count (sample_in n nodes table) (λ m. get_or (needed_of flow) m false && not (has_origin (origin_at origins m))) 0 n (λ m h l. computation m (omega arith)))

  sourced : Sourced sizes nodes origins table
  sourced =
      record {
        lent = r.lent;
        count = origins_long;
        firsts = λ k l.
            region_at (canonical_at sizes) (map (canonical origins) (count_up 0 n)) table (4 * n + k) k r.firsts.canonicals refl
            (rw (length-map (count_up 0 n) (canonical origins), count_up_length 0 n) l)
            ∙ (map_at (canonical origins) 0 n k 0 l ∙ ap (canonical origins) (omega arith));
        lasts = r.lasts;
      }

  -- the table after the last reads: its length, what lies beside them, the last reads
  abbrev reading : (length read ≡ length table) × ((j : ℕ) → (j < 10 * n) ⊎ (11 * n ≤ j) → get_or read j 0 ≡ get_or table j 0)
      × ((c : ℕ) → c < n → get_or read (10 * n + c) 0 ≡ last_of (reads sizes nodes origins table sourced c) n)
  reading = turned sizes nodes origins table sourced n (omega arith)

  pub order_canonicals : Canonicals sizes table
  unfolding Canonicals
  order_canonicals k l = rw (sourced.firsts k l) (rw origins_long at (canonical_below origins k (rw origins_long l)))

  homes_low : (k : ℕ) → k < 258 + sizes.states + sizes.delays → get_or read (homes_at sizes + k) 0 ≤ n
  homes_low k l = rw (reading.1 (homes_at sizes + k) (inr (omega arith))) (r.firsts.homes k l)

  pub order_reading : Reading sizes read
  unfolding Reading
  order_reading = (
    homes_low,
    λ k l. rw (reading.2 k l) (last_low (reads sizes nodes origins table sourced k) n),
  )

  -- the last computation for which a write waits, and one
  abbrev after : Write → ℕ
  after x = last_of (λ m. sample_in n nodes table m && waits ns origins x m) n

  after_state : (k v : ℕ) → k < sizes.states → v < n → after_in sizes nodes read k v ≡ after (record { code = 10; index = k; value = v })
  after_state k v l below = after_is sizes nodes origins table sourced k (record { code = 10; index = k; value = v }) (r.firsts.states k l) below

  after_delay : (k v : ℕ) → k < sizes.delays → v < n → after_in sizes nodes read (sizes.states + k) v ≡ after (record { code = 11; index = k; value = v })
  after_delay k v l below =
      let z : 258 + (sizes.states + k) ≡ 258 + sizes.states + k = omega arith in
      after_is sizes nodes origins table sourced (sizes.states + k) (record { code = 11; index = k; value = v }) (rw z (r.firsts.delays k l)) below

  after_low : (w v : ℕ) → w < sizes.states + sizes.delays → v < n → after_in sizes nodes read w v ≤ n
  after_low w v l below = go (dec_lt w sizes.states)
    where
      go : Dec (w < sizes.states) → after_in sizes nodes read w v ≤ n
      go (yes h) =
          let x : Write = record { code = 10; index = w; value = v } in
          rw (after_state w v h below) (last_low (λ m. sample_in n nodes table m && waits ns origins x m) n)
      go (no h) =
          let x : Write = record { code = 11; index = w - sizes.states; value = v } in
          let z : w ≡ sizes.states + (w - sizes.states) = omega arith in
          rw (ap (λ (k : ℕ). after_in sizes nodes read k v) z ∙ after_delay (w - sizes.states) v (omega arith) below)
          (last_low (λ m. sample_in n nodes table m && waits ns origins x m) n)

  update_state : (k : ℕ) → k < sizes.states → get_or (updates ++ stores) k 0 ≡ get_or updates k 0
  update_state k l = get_or-append updates stores 0 k (rw r.states l)

  update_delay : (k : ℕ) → get_or (updates ++ stores) (sizes.states + k) 0 ≡ get_or stores k 0
  update_delay k = rw (← r.states) (get_or-append-add updates stores k 0)

  update_low : Updates sizes (updates ++ stores)
  update_low w = go (dec_lt w sizes.states)
    where
      go : Dec (w < sizes.states) → get_or (updates ++ stores) w 0 ≤ n
      go (yes h) = rw (update_state w h) (r.ups w)
      go (no h) =
          let z : w ≡ sizes.states + (w - sizes.states) = omega arith in
          rw (ap (λ (k : ℕ). get_or (updates ++ stores) k 0) z ∙ update_delay (w - sizes.states)) (r.dels (w - sizes.states))

  room : chain_at sizes + (sizes.states + sizes.delays) ≤ length read
  room = omega (arith, reading.0, r.lent.room)

  clear : (a : ℕ) → a ≤ n → get_or read (heads_at sizes + a) 0 ≡ 0
  clear a l = reading.1 (heads_at sizes + a) (inr (omega arith)) ∙ r.heads a l

  -- does memory w's write come right after computation a - 1, or first of all where a is 0
  abbrev right : ℕ → ℕ → Bool
  right a = goes sizes nodes (updates ++ stores) read (λ b. eqb b a)

  linked_done : Linking sizes nodes (updates ++ stores) read room update_low homes_low after_low clear 0 (sizes.states + sizes.delays) done
  linked_done = chains sizes nodes (updates ++ stores) read room update_low homes_low after_low clear

  pub order_length : length done ≡ length table
  order_length = linked_done.0 ∙ reading.0

  -- what lies before the heads, but for the last reads, is as it was
  pub order_beside : (j : ℕ) → (j < last_at sizes) ⊎ (last_at sizes + sizes.nodes ≤ j) → j < heads_at sizes → get_or done j 0 ≡ get_or table j 0
  order_beside j h l = linked_done.1 j l ∙ reading.1 j (apart h)
    where
      apart : (j < last_at sizes) ⊎ (last_at sizes + sizes.nodes ≤ j) → (j < 10 * n) ⊎ (11 * n ≤ j)
      apart (inl g) = inl g
      apart (inr g) = inr (omega arith)

  -- a memory without an update keeps its word, so the chains' words must be clear as well
  pub order_chained : ((w : ℕ) → w < sizes.states + sizes.delays → get_or table (chain_at sizes + w) 0 ≡ 0) → Chained sizes done
  unfolding Chained
  order_chained zeros = (
    λ a l. (follows_onward sizes done 0 (get_or done (heads_at sizes + a) 0) (filter (right a) (count_up 0 (sizes.states + sizes.delays))) (linked_done.2 a l)).0,
    λ w l. go w l (linked_done.3 w l),
  )
    where
      go : (w : ℕ) → w < sizes.states + sizes.delays
          → (get_or done (chain_at sizes + w) 0 ≡ get_or read (chain_at sizes + w) 0) ⊎ Onward sizes (w + 1) (get_or done (chain_at sizes + w) 0)
          → Onward sizes (w + 1) (get_or done (chain_at sizes + w) 0)
      go w l (inl e) =
          let z : get_or done (chain_at sizes + w) 0 ≡ 0 = e ∙ (reading.1 (chain_at sizes + w) (inr (omega arith)) ∙ zeros w l) in
          (omega arith, λ h. absurd (omega arith))
      go w l (inr h) = h

  -- one memory's update and its write
  fit : (p : ℕ → Bool) (code i m u : ℕ) → get_or (updates ++ stores) m 0 ≡ u → u ≤ n
      → ((v : ℕ) → v < n → after_in sizes nodes read m v ≡ after (record { code = code; index = i; value = v })) → store_word sizes code i ≡ m
      → Fit sizes (λ x. p (after x)) (goes sizes nodes (updates ++ stores) read p) code i m u
  fit p code i m zero e l f q = rw e
  fit p code i m (suc v) e l f q =
      let z : suc v - 1 ≡ v = omega arith in
      (rw (e, ne_eqb (suc v) 0 (λ (y : suc v ≡ 0). omega arith), z, f v (omega arith)), q)

  fit_states : (p : ℕ → Bool) → Fits sizes (λ x. p (after x)) (goes sizes nodes (updates ++ stores) read p) 10 0 0 updates
  fit_states p k l =
      let z : 0 + k ≡ k = omega arith in
      let below : k < sizes.states = omega (arith, r.states) in
      rw z (fit p 10 k k (get_or updates k 0) (update_state k below) (r.ups k) (λ v h. after_state k v below h) refl)

  fit_delays : (p : ℕ → Bool) → Fits sizes (λ x. p (after x)) (goes sizes nodes (updates ++ stores) read p) 11 0 sizes.states stores
  fit_delays p k l =
      let z : 0 + k ≡ k = omega arith in
      rw z (fit p 11 k (sizes.states + k) (get_or stores k 0) (update_delay k) (r.dels k) (λ v h. after_delay k v (omega (arith, r.delays)) h) refl)

  -- the memories whose writes come at such a place are the writes that do
  placed : (p : ℕ → Bool)
      → map (λ w. 2 * n + w) (filter (goes sizes nodes (updates ++ stores) read p) (count_up 0 (sizes.states + sizes.delays)))
      ≡ map (task_word sizes) (tasks_of (filter (λ x. p (after x)) (writes flow)))
  unfolding writes flow_of
  placed p =
      let q : ℕ → Bool = goes sizes nodes (updates ++ stores) read p in
      let late : map (task_word sizes) (tasks_of (filter (λ x. p (after x)) (writes_from 11 0 stores))) ≡ map (λ w. 2 * n + w) (filter q (count_up (0 + length updates) (length stores))) =
      ap (λ (ws : List Write). map (task_word sizes) (tasks_of (filter (λ x. p (after x)) ws))) (sym (append-nil (writes_from 11 0 stores)))
      ∙ (writes_from_lem sizes (λ x. p (after x)) q [] 0 11 0 sizes.states stores (fit_delays p) refl
      ∙ (λ j. map (λ w. 2 * n + w) (filter q (count_up (from_states j) (all_delays j))))) in
      ap (λ (k : ℕ). map (λ w. 2 * n + w) (filter q (count_up 0 k))) sum
      ∙ sym (writes_from_lem sizes (λ x. p (after x)) q (writes_from 11 0 stores) (length stores) 10 0 0 updates (fit_states p) late)
    where
      from_states : sizes.states ≡ 0 + length updates
      from_states = omega (arith, r.states)

      all_delays : length stores + 0 ≡ length stores
      all_delays = omega arith

      sum : sizes.states + sizes.delays ≡ length updates + length stores
      sum = omega (arith, r.states, r.delays)

  sample_done : (k : ℕ) → k < n → sample_in n nodes done k ≡ sample_in n nodes table k
  sample_done k l = sample_same n nodes done table k (order_beside (n + k) (inl (omega arith)) (omega arith)) (order_beside (2 * n + k) (inl (omega arith)) (omega arith))

  -- the writes right after computation a - 1, or first of all
  right_after : (a : ℕ) → a ≤ n → writes_after sizes done a ≡ map (task_word sizes) (tasks_of (filter (λ x. eqb (after x) a) (writes flow)))
  right_after a l = writes_after_lem sizes nodes (updates ++ stores) read room update_low homes_low after_low clear a l ∙ placed (λ b. eqb b a)

  -- the tasks from node k on
  from : (k m : ℕ) → k + m ≡ n
      → tasks_from sizes nodes done k m ≡ map (task_word sizes) (schedule_from ns origins (writes flow) (filter (sample_in n nodes table) (count_up k m)))
  unfolding schedule_from tasks_after task_word
  from k zero e = refl
  from k (suc m) e = rw (sample_done k (omega arith)) (go (sample_in n nodes table k) refl (from (suc k) m (omega arith)))
    where
      rest : List ℕ
      rest = filter (sample_in n nodes table) (count_up (suc k) m)

      last : Write → Bool
      last x = waits ns origins x k && not (any_of (waits ns origins x) rest)

      here : sample_in n nodes table k ≡ true → writes_after sizes done (k + 1) ≡ map (task_word sizes) (tasks_of (filter last (writes flow)))
      here q =
          let one : k + 1 ≡ suc k = omega arith in
          rw one (right_after (suc k) (omega arith)
          ∙ ap (λ (ws : List Write). map (task_word sizes) (tasks_of ws)) (filter_same (λ x. eqb (after x) (suc k)) last (writes flow) (λ x.
          ap (λ (j : ℕ). eqb (last_of (λ m. sample_in n nodes table m && waits ns origins x m) j) (suc k)) (sym e)
          ∙ comes_here (sample_in n nodes table) (waits ns origins x) k m q)))

      go : (b : Bool) → sample_in n nodes table k ≡ b → tasks_from sizes nodes done (suc k) m ≡ map (task_word sizes) (schedule_from ns origins (writes flow) rest)
          → cond b (k ∷ writes_after sizes done (k + 1)) [] ++ tasks_from sizes nodes done (suc k) m
          ≡ map (task_word sizes) (schedule_from ns origins (writes flow) (cond b (k ∷ rest) rest))
      go true q ih =
          ap (λ (l : List ℕ). k ∷ l)
          ((λ j. here q j ++ ih j) ∙ sym (map_append (task_word sizes) (tasks_of (filter last (writes flow))) (schedule_from ns origins (writes flow) rest)))
      go false q ih = ih

  planned : (plan_of flow).sample_tasks ≡ schedule ns origins (writes flow) (filter (sample_in n nodes table) (count_up 0 n)) output
  unfolding plan_of flow_of
  planned = ap (λ (list : List ℕ). schedule ns origins (writes flow) list output) (sym computations)

  -- the words of the sample schedule are the plan's tasks
  pub order_words : sample_words sizes nodes done ≡ map (task_word sizes) (plan_of flow).sample_tasks
  unfolding sample_words tasks_to schedule task_word
  order_words =
      let computed : List ℕ = filter (sample_in n nodes table) (count_up 0 n) in
      let before : Write → Bool = λ x. not (any_of (waits ns origins x) computed) in
      let output-word : List ℕ = (2 * n + (sizes.states + sizes.delays)) ∷ [] in
      let z : 0 + n ≡ n = omega arith in
      let first : writes_after sizes done 0 ≡ map (task_word sizes) (tasks_of (filter before (writes flow))) =
      right_after 0 (omega arith)
      ∙ ap (λ (ws : List Write). map (task_word sizes) (tasks_of ws))
      (filter_same (λ x. eqb (after x) 0) before (writes flow) (λ x. comes_first (sample_in n nodes table) (waits ns origins x) n)) in
      ap (λ (list : List ℕ). list ++ output-word) (rw z at (tasks_split sizes nodes done 0 n))
      ∙ (append_assoc (writes_after sizes done 0) (tasks_from sizes nodes done 0 n) output-word
      ∙ ((λ j. first j ++ (from 0 n z j ++ output-word))
      ∙ (sym
      (map_append (task_word sizes) (tasks_of (filter before (writes flow))) (schedule_from ns origins (writes flow) computed ++ (store_task 12 0 output ∷ []))
      ∙ ap (λ (list : List ℕ). map (task_word sizes) (tasks_of (filter before (writes flow))) ++ list)
      (map_append (task_word sizes) (schedule_from ns origins (writes flow) computed) (store_task 12 0 output ∷ [])))
      ∙ ap (map (task_word sizes)) (sym planned))))

  abbrev all : List ℕ
  all = count_up 0 (sizes.states + sizes.delays)

  -- .. or behind that
  abbrev later : ℕ → ℕ → Bool
  later a = goes sizes nodes (updates ++ stores) read (λ b. ltb a b)

  right_length : (a : ℕ) → a ≤ n → length (writes_after sizes done a) ≡ passing (right a) all
  right_length a l =
      ap length (writes_after_lem sizes nodes (updates ++ stores) read room update_low homes_low after_low clear a l)
      ∙ (length-map (filter (right a) all) (λ w. 2 * n + w) ∙ filter_length (right a) all)

  right_late : (a b : ℕ) → T (eqb b a) → T (ltb a b) → ⊥
  right_late a b t u = let z : b ≡ a = eqb→eq b a t in let l : a < b = ltb-true a b (is_true (ltb a b) u) in omega arith

  -- each write comes once
  few : (k : ℕ) → k ≤ n → length (tasks_to sizes nodes done k) + passing (later k) all ≤ k + (sizes.states + sizes.delays)
  unfolding tasks_to tasks_after
  few zero l =
      omega (
        arith,
        right_length 0 (omega arith),
        count_up_length 0 (sizes.states + sizes.delays),
        passing_apart (right 0) (later 0) all (λ w. goes_apart sizes nodes (updates ++ stores) read (λ b. eqb b 0) (λ b. ltb 0 b) w (right_late 0)),
      )
  few (suc k) l =
      let more = passing_within (right (suc k)) (later (suc k)) (later k) all
      (λ w. goes_apart sizes nodes (updates ++ stores) read (λ b. eqb b (suc k)) (λ b. ltb (suc k) b) w (right_late (suc k)))
      (λ w. goes_within sizes nodes (updates ++ stores) read (λ b. eqb b (suc k)) (λ b. ltb k b) w (λ b t.
      let z : b ≡ suc k = eqb→eq b (suc k) t in passes (ltb k b) (lt-ltb k b (omega arith))))
      (λ w. goes_within sizes nodes (updates ++ stores) read (λ b. ltb (suc k) b) (λ b. ltb k b) w (λ b t.
      let h : suc k < b = ltb-true (suc k) b (is_true (ltb (suc k) b) t) in passes (ltb k b) (lt-ltb k b (omega arith)))) in
      omega (arith, few k (omega arith), more, length-append (tasks_to sizes nodes done k) (tasks_after sizes nodes done k), one (sample_in n nodes done k))
    where
      one : (b : Bool) → length (cond b (k ∷ writes_after sizes done (k + 1)) []) ≤ suc (passing (right (suc k)) all)
      one true = let z : k + 1 ≡ suc k = omega arith in rw z (omega (arith, right_length (suc k) (omega arith)))
      one false = omega arith

  -- no more than the computations, the writes and the output
  pub order_few : length (sample_words sizes nodes done) ≤ sizes.nodes + sizes.states + sizes.delays + 1
  unfolding sample_words
  order_few = omega (arith, few n (omega arith), length-append (tasks_to sizes nodes done n) ((2 * n + (sizes.states + sizes.delays)) ∷ []))
