-- The sample phase's share of the plan, as its four functions leave it in the table: `sample_share`. Assumes nothing.
use Rattle.std.specs.Prelude.{◌≡◌, ◌⊎◌, List, ◌++◌, map, ℕ, ◌+◌, ◌*◌, ◌≤◌, ◌<◌, get_or, replicate}
use Rattle.std.proofs.Common.{sym, ap, ◌∙◌, inl, inr, arith}
use Rattle.std.proofs.Math.Bool.{false, not}
use Rattle.std.proofs.Math.ListN.{length}
use Rattle.std.proofs.lemmas.List.{length-map, length-replicate}
use Rattle.tables.specs.Stores.{each_append}
use Rattle.tables.specs.Loops.{turns}
use Rattle.plan.specs.declared.Sizes.{Sizes}
use Rattle.plan.specs.Lists.{count_up}
use Rattle.plan.specs.ListLaws.{count_up_length}
use Rattle.plan.specs.Nodes.{Node, Flow, roots}
use Rattle.plan.specs.Flow.{flow_of}
use Rattle.plan.specs.Origins.{Origin, has_origin, canonical}
use Rattle.plan.specs.Hoist.{hoistable, mark_all, needed_by, homes_of}
use Rattle.plan.specs.Schedule.{plan_of}
use Rattle.plan.specs.Reached.{length_mark_all, length_sweep}
use Rattle.plan.specs.OriginLaws.{number_inj, number_length, sample_length}
use Rattle.plan.specs.Layout.{Lent, Updates, task_word, needed_at, slots_at, canonical_at, fresh_at, last_at, tasks_at, homes_at, heads_at}
use Rattle.plan.specs.Regions.{written, written_length, written_out, Region, region_written, flags, flags_length}
use Rattle.plan.specs.Words.{nodes_to, nodes_length}
use Rattle.plan.specs.SourceLaws.{canonical_node}
use Rattle.plan.specs.ControlLaws.{homes_to, homes_to_length}
use Rattle.plan.specs.ControlShare.{flow_in, invariant_of, needed_of, hoisted_of}
use Rattle.plan.specs.Chains.{Canonicals, Reading, Chained, last_node, chain_writes, sample_words}
use Rattle.plan.specs.ChainLaws.{TasksFit}
use Rattle.plan.specs.Shares.{Firsts, BesideFirsts, SampleBegins, SampleShare}
use Rattle.plan.specs.FirstLaws.{canonical_length, canonical_beside, sample_firsts}
use Rattle.plan.specs.OrderLaws.{Ready, order_canonicals, order_reading, order_length, order_beside, order_chained, order_words, order_few}

-- Generic: a table that agrees with one that holds words there holds them
region_same : (base : ℕ) (words table next : List ℕ) → Region base words table → length next ≡ length table
    → ((i : ℕ) → i < length words → get_or next (base + i) 0 ≡ get_or table (base + i) 0) → Region base words next
unfolding Region
region_same base words table next r size same = (omega (arith, r.0), λ i h. same i h ∙ r.1 i h)

-- the first nodes stay where their three regions do
firsts_same : (sizes : Sizes) (origins : List Origin) (table next : List ℕ) → length origins ≡ sizes.nodes → Firsts sizes origins table
    → length next ≡ length table → ((j : ℕ) → (j < last_at sizes) ⊎ (homes_at sizes ≤ j) → j < heads_at sizes → get_or next j 0 ≡ get_or table j 0) → Firsts sizes origins next
firsts_same sizes origins table next long f size same =
    let n : ℕ = sizes.nodes in
    let c : length (map (canonical origins) (count_up 0 n)) ≡ n = length-map (count_up 0 n) (canonical origins) ∙ count_up_length 0 n in
    let m : length (flags (map has_origin origins)) ≡ n = flags_length (map has_origin origins) ∙ (length-map origins has_origin ∙ long) in
    let homes : (k : ℕ) → k < 258 + sizes.states + sizes.delays → get_or next (homes_at sizes + k) 0 ≡ get_or table (homes_at sizes + k) 0 =
    λ k h. same (homes_at sizes + k) (inr (omega arith)) (omega arith) in
    record {
      canonicals =
          region_same (canonical_at sizes) (map (canonical origins) (count_up 0 n)) table next f.canonicals size
          (λ i h. same (canonical_at sizes + i) (inl (omega arith)) (omega arith));
      freshes =
          region_same (fresh_at sizes) (flags (map has_origin origins)) table next f.freshes size
          (λ i h. same (fresh_at sizes + i) (inl (omega arith)) (omega arith));
      audio = same (homes_at sizes) (inr (omega arith)) (omega arith) ∙ f.audio;
      network = homes 1 (omega arith) ∙ f.network;
      states = λ i h. homes (258 + i) (omega arith) ∙ f.states i h;
      delays = λ i h. homes (258 + sizes.states + i) (omega arith) ∙ f.delays i h;
      homes = λ k h. rw (homes k h) (f.homes k h);
    }

module _ (sizes : Sizes) (nodes updates stores : List ℕ) (output : ℕ) (t0 : List ℕ) (lent : Lent sizes nodes (length t0)) (ups : Updates sizes updates)
    (dels : Updates sizes stores) (long : length updates ≡ sizes.states) (same : length stores ≡ sizes.delays)
    (begins : SampleBegins sizes (flow_in sizes nodes updates stores output) t0) where
  abbrev n : ℕ
  n = sizes.nodes

  abbrev ns : List Node
  ns = nodes_to nodes n

  abbrev flow : Flow
  flow = flow_in sizes nodes updates stores output

  -- with the first nodes of the sources; with the last reads; with the chains
  abbrev found : List ℕ
  found = turns (canonical_node sizes false nodes) t0 n

  abbrev read : List ℕ
  read = turns (last_node n nodes) found n

  abbrev chained : List ℕ
  chained = chain_writes sizes nodes (updates ++ stores) (sizes.states + sizes.delays) read

  needed_long : length (flags (needed_of flow)) ≡ n
  unfolding flow_of needed_by
  needed_long =
      flags_length (needed_of flow)
      ∙ (length_sweep ns (λ m. not (hoistable ns (invariant_of flow) m)) (length ns) (mark_all (roots flow) (replicate (length ns) false))
      ∙ (length_mark_all (roots flow) (replicate (length ns) false) ∙ (length-replicate (length ns) false ∙ nodes_length nodes n)))

  slots_long : length (plan_of flow).slots ≡ n
  unfolding plan_of flow_of homes_of
  slots_long =
      number_length 0 (hoisted_of flow)
      ∙ (ap (λ (k : ℕ). length (homes_to ns (invariant_of flow) (needed_of flow) k)) (nodes_length nodes n) ∙ homes_to_length ns (invariant_of flow) (needed_of flow) n)

  origins_long : length (plan_of flow).sample_origins ≡ n
  unfolding plan_of flow_of
  origins_long = sample_length (plan_of flow).slots ns ∙ nodes_length nodes n

  found_long : length found ≡ length t0
  found_long = canonical_length sizes false nodes t0 lent begins.homes

  beside : (j : ℕ) → BesideFirsts sizes j → get_or found j 0 ≡ get_or t0 j 0
  beside = canonical_beside sizes false nodes t0 lent begins.homes

  found_firsts : Firsts sizes (plan_of flow).sample_origins found
  unfolding plan_of flow_of
  found_firsts =
      sample_firsts sizes nodes (plan_of flow).slots t0 lent begins.homes begins.slots slots_long (λ i k slot. number_inj 0 (hoisted_of flow) i k slot)

  ready : Ready sizes nodes updates stores output found
  ready =
      record {
        lent = rw found_long lent;
        ups = ups;
        dels = dels;
        states = long;
        delays = same;
        needed = region_same (needed_at sizes) (flags (needed_of flow)) t0 found begins.needed found_long (λ i h. beside (needed_at sizes + i) (inl (omega (arith, needed_long))));
        slots = region_same (slots_at sizes) (plan_of flow).slots t0 found begins.slots found_long (λ i h. beside (slots_at sizes + i) (inl (omega (arith, slots_long))));
        firsts = found_firsts;
        lasts = λ k h. beside (last_at sizes + k) (inr (inr (inl (omega arith, omega arith)))) ∙ begins.lasts k h;
        heads = λ a h. beside (heads_at sizes + a) (inr (inr (inr (omega arith)))) ∙ begins.heads a h;
      }

  -- ---- what each function asks for, of the table that the one before it leaves

  pub share_updates : Updates sizes (updates ++ stores)
  share_updates = each_append (λ w. w ≤ sizes.nodes) updates stores ups dels

  module _ (t1 : List ℕ) (e1 : t1 ≡ found) where
    pub share_canonicals : Canonicals sizes t1
    share_canonicals = rw e1 (order_canonicals sizes nodes updates stores output found ready)

    module _ (t2 : List ℕ) (e2 : t2 ≡ turns (last_node n nodes) t1 n) where
      pub share_reading : Reading sizes t2
      share_reading = rw (e2, e1) (order_reading sizes nodes updates stores output found ready)

      module _ (t3 : List ℕ) (e3 : t3 ≡ chain_writes sizes nodes (updates ++ stores) (sizes.states + sizes.delays) t2) where
        t3_is : t3 ≡ chained
        t3_is = rw (e2, e1) at e3

        pub share_chained : Chained sizes t3 × TasksFit sizes nodes t3
        share_chained =
            let few = order_few sizes nodes updates stores output found ready in
            rw t3_is (
              order_chained sizes nodes updates stores output found ready (λ w h. beside _ (inr (inr (inr (omega arith)))) ∙ begins.chains w h),
              omega arith,
            )

        pub sample_share : (r : ℕ) (t4 : List ℕ) → (r ≡ length (sample_words sizes nodes t3)) × (t4 ≡ written (11 * sizes.nodes) (sample_words sizes nodes t3) t3)
            → (r ≡ length (plan_of flow).sample_tasks) × SampleShare sizes flow t0 t4
        sample_share r t4 q =
            let words : List ℕ = map (task_word sizes) (plan_of flow).sample_tasks in
            let w : sample_words sizes nodes chained ≡ words = order_words sizes nodes updates stores output found ready in
            let few : length words ≤ n + sizes.states + sizes.delays + 1 = rw w at (order_few sizes nodes updates stores output found ready) in
            let size : length chained ≡ length t0 = order_length sizes nodes updates stores output found ready ∙ found_long in
            let p : (r ≡ length words) × (t4 ≡ written (11 * n) words chained) = rw (t3_is, w) at q in
            let whole : length (written (11 * n) words chained) ≡ length t0 = written_length (11 * n) words chained ∙ size in
            let kept : (j : ℕ) → (j < last_at sizes) ⊎ (homes_at sizes ≤ j) → j < heads_at sizes → get_or (written (11 * n) words chained) j 0 ≡ get_or found j 0 =
            λ j h l. written_out (11 * n) words chained j (apart few j h) ∙ order_beside sizes nodes updates stores output found ready j (aside j h) l in (
              p.0 ∙ length-map (plan_of flow).sample_tasks (task_word sizes),
              rw p.1 record {
                firsts = firsts_same sizes (plan_of flow).sample_origins found (written (11 * n) words chained) origins_long found_firsts (whole ∙ sym found_long) kept;
                tasks = region_written (tasks_at sizes) words chained (omega (arith, lent.room));
                size = whole;
                same = λ j h. kept j (inl (low j h)) (omega (arith, low j h)) ∙ beside j (side j h);
              },
            )
          where
            apart : {l : ℕ} → l ≤ sizes.nodes + sizes.states + sizes.delays + 1 → (j : ℕ) → (j < last_at sizes) ⊎ (homes_at sizes ≤ j)
                → (j < 11 * sizes.nodes) ⊎ (11 * sizes.nodes + l ≤ j)
            apart few j (inl g) = inl (omega arith)
            apart few j (inr g) = inr (omega arith)

            aside : (j : ℕ) → (j < last_at sizes) ⊎ (homes_at sizes ≤ j) → (j < last_at sizes) ⊎ (last_at sizes + sizes.nodes ≤ j)
            aside j (inl g) = inl g
            aside j (inr g) = inr (omega arith)

            low : (j : ℕ) → (j < canonical_at sizes) ⊎ (((5 * sizes.nodes ≤ j) × (j < fresh_at sizes)) ⊎ ((9 * sizes.nodes ≤ j) × (j < last_at sizes))) → j < last_at sizes
            low j (inl g) = omega arith
            low j (inr (inl g)) = omega (arith, g.1)
            low j (inr (inr g)) = g.1

            side : (j : ℕ) → (j < canonical_at sizes) ⊎ (((5 * sizes.nodes ≤ j) × (j < fresh_at sizes)) ⊎ ((9 * sizes.nodes ≤ j) × (j < last_at sizes))) → BesideFirsts sizes j
            side j (inl g) = inl g
            side j (inr (inl g)) = inr (inl g)
            side j (inr (inr g)) = inr (inr (inl (g.0, omega (arith, g.1))))
