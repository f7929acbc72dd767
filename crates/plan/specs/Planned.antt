-- What a good flow plans. Assumes nothing.
use Rattle.std.proofs.Common.{◌∙◌, inl, inr}
use Rattle.std.specs.Prelude.{◌≡◌, refl, ◌⊎◌, Bool, ◌&&◌, cond, true, List, [], ◌++◌, ◌∷◌, map, ◌+◌, ◌<◌, suc, zero, ℕ, replicate, eqb}
use Rattle.std.proofs.Math.Path.{ap}
use Rattle.std.proofs.Math.Bool.{false, not}
use native.Mathlib.Omega.{arith}
use Rattle.std.proofs.Math.ListN.{get_or, length, length-map, length-replicate}
use Rattle.std.proofs.Math.Dec.{T, eqb_refl}
use Rattle.plan.specs.Nodes.{Node, operands, is_computed, node_at, Flow, updates_of, roots}
use Rattle.plan.specs.Origins.{Origin, no_origin, has_origin, origin_at, control_origin, sample_origin, sample_origins}
use Rattle.plan.specs.Schedule.{Write, writes_from, sample_computations}
use Rattle.plan.specs.Lists.{member, filter, count_up}
use Rattle.plan.specs.Hoist.{number, hoistable, needed_by, homes_of, control_computations, invariants, mark_all, sweep}
use Rattle.plan.specs.ListLaws.{Ascending, ascending_filter, filter_member, count_up_below, member_filter, count_up_member, count_up_length, flag_inside, map_at, member_left, member_right}
use Rattle.plan.specs.TestLaws.{or_first, or_second, and_first, and_second, and_both, not_pass}
use Rattle.plan.specs.Reached.{Ordered, mark_in, length_mark_all, length_sweep, sweep_mono, sweep_all, sweep_closed, inv_closed, inv_leaf}
use Rattle.plan.specs.OriginLaws.{number_some, sample_at, sample_length, sample_none, control_at, control_computed, control_leaf, no_origin_lem}

-- what the plan asks of a flow: operands stand before their node; the output and every update are nodes
pub record GoodFlow (b : Flow) : Type 0 where
  pub ordered : Ordered b.nodes
  pub output : b.output < length b.nodes
  pub state_updates : (n : ℕ) → T (member n (updates_of b.states)) → n < length b.nodes
  pub delay_updates : (n : ℕ) → T (member n (updates_of b.delays)) → n < length b.nodes

-- P holds of every write
abbrev pub AllWrites : (Write → Type 0) → List Write → Type 0
AllWrites P [] = Unit {0}
AllWrites P (w ∷ ws) = P w × AllWrites P ws

-- .. and Q of those that pass
pub all_filter : (P Q : Write → Type 0) (p : Write → Bool) (ws : List Write) → AllWrites P ws → ((w : Write) → P w → p w ≡ true → Q w) → AllWrites Q (filter p ws)
all_filter P Q p [] a f = tt
all_filter P Q p (w ∷ ws) a f = go (p w) refl (all_filter P Q p ws a.1 f)
  where
    go : (b : Bool) → p w ≡ b → AllWrites Q (filter p ws) → AllWrites Q (cond b (w ∷ filter p ws) (filter p ws))
    go true q ih = (f w a.0 q, ih)
    go false q ih = ih

module _ (b : Flow) (v : GoodFlow b) where
  -- the nodes
  abbrev pub ns : List Node
  ns = b.nodes

  -- which are invariant
  abbrev pub inv : List Bool
  inv = invariants ns []

  -- which the sample phase needs
  abbrev pub need : List Bool
  need = needed_by b inv

  -- which get a control slot
  abbrev pub homes : List Bool
  homes = homes_of ns inv need

  -- the slots
  abbrev pub slots : List ℕ
  slots = number 0 homes

  -- the origins of the sample phase
  abbrev pub ss : List Origin
  ss = sample_origins slots ns

  -- which the control phase needs
  abbrev pub cneed : List Bool
  cneed = sweep ns (λ n. true) (length ns) homes

  -- the origins of the control phase
  abbrev pub cs : List Origin
  cs = map control_origin ns

  need_length : length need ≡ length ns
  unfolding needed_by
  need_length =
      length_sweep ns _ (length ns) (mark_all (roots b) (replicate (length ns) false))
      ∙ (length_mark_all (roots b) (replicate (length ns) false) ∙ length-replicate (length ns) false)

  -- a root is needed
  pub need_root : (n : ℕ) → T (member n (roots b)) → n < length ns → T (get_or need n false)
  unfolding needed_by
  need_root n t h =
      sweep_mono ns (λ n. not (hoistable ns inv n)) (length ns) (mark_all (roots b) (replicate (length ns) false)) n
      (mark_in (roots b) (replicate (length ns) false) n t (rw length-replicate h))

  -- so are the operands of what is needed and not hoistable
  pub need_closed : (n a : ℕ) → n < length ns → T (get_or need n false) → T (not (hoistable ns inv n)) → T (member a (operands (node_at ns n))) → T (get_or need a false)
  unfolding needed_by
  need_closed n a h t d u =
      sweep_closed ns (λ n. not (hoistable ns inv n)) v.ordered (length ns) (mark_all (roots b) (replicate (length ns) false))
      (rw (length_mark_all, length-replicate) (omega arith)) n a h t d u

  -- what gets a control slot is needed and hoistable
  pub homes_at : (n : ℕ) → n < length ns → get_or homes n false ≡ (get_or need n false && hoistable ns inv n)
  unfolding homes_of
  homes_at n h =
      let z : 0 + n ≡ n = omega arith in map_at (λ n. get_or need n false && hoistable ns inv n) 0 (length ns) n false h ∙ ap
      (λ (k : ℕ). get_or need k false && hoistable ns inv k) z

  -- a flag for each node
  pub homes_length : length homes ≡ length ns
  unfolding homes_of
  homes_length = length-map (count_up 0 (length ns)) (λ n. get_or need n false && hoistable ns inv n) ∙ count_up_length 0 (length ns)

  -- ---- the sample phase

  -- the computations of the sample phase
  abbrev pub comps : List ℕ
  comps = sample_computations ns need ss

  -- a computation is a node that is needed and has no origin
  pub comps_in : (n : ℕ) → T (member n comps) → (n < length ns) × T (get_or need n false) × T (not (has_origin (origin_at ss n)))
  unfolding sample_computations
  comps_in n t =
      let r = filter_member (λ n. get_or need n false && not (has_origin (origin_at ss n))) (count_up 0 (length ns)) n t in (
        omega (arith, count_up_below 0 (length ns) n r.0),
        and_first (get_or need n false) (not (has_origin (origin_at ss n))) r.1,
        and_second
            (get_or need n false) (not (has_origin (origin_at ss n))) r.1,
      )

  -- .. and back
  pub in_comps : (n : ℕ) → n < length ns → T (get_or need n false) → T (not (has_origin (origin_at ss n))) → T (member n comps)
  unfolding sample_computations
  in_comps n h t u =
      member_filter (λ n. get_or need n false && not (has_origin (origin_at ss n))) (count_up 0 (length ns)) n
      (count_up_member 0 (length ns) n (omega arith) (omega arith)) (and_both (get_or need n false) (not (has_origin (origin_at ss n))) t u)

  -- a computation of the sample phase is not hoistable
  pub comp_plain : (n : ℕ) → T (member n comps) → T (not (hoistable ns inv n))
  comp_plain n t = not_pass (hoistable ns inv n) (λ h.
      let c = comps_in n t in
      let e : origin_at ss n ≡ sample_origin (get_or slots n 0) (node_at ns n) = sample_at slots ns n c.0 in
      let z : get_or slots n 0 ≡ 0 = (sample_none (get_or slots n 0) (node_at ns n) (rw e at c.2)).0 in
      let k : (j : ℕ) × (get_or slots n 0 ≡ suc j) = number_some 0 homes n (rw (homes_at n c.0) (and_both (get_or need n false) (hoistable ns inv n) c.1 h)) in
      omega (arith, k.1))

  -- a node that the sample phase reaches is a source or one of its computations
  pub value : (a : ℕ) → a < length ns → T (get_or need a false) → (a < length ss) × (T (has_origin (origin_at ss a)) ⊎ ((origin_at ss a ≡ no_origin) × T (member a comps)))
  value a h t = (rw sample_length h, go (has_origin (origin_at ss a)) refl)
    where
      go : (x : Bool) → has_origin (origin_at ss a) ≡ x → T (has_origin (origin_at ss a)) ⊎ ((origin_at ss a ≡ no_origin) × T (member a comps))
      go true q = inl (rw q tt)
      go false q = inr (no_origin_lem (origin_at ss a) q, in_comps a h t (rw q tt))

  -- the new value of each write is an origin or computed
  pub write_values : (c k : ℕ) (us : List ℕ) → ((n : ℕ) → T (member n (updates_of us)) → (n < length ns) × T (get_or need n false))
      → AllWrites (λ w. (w.value < length ss) × (T (has_origin (origin_at ss w.value)) ⊎ ((origin_at ss w.value ≡ no_origin) × T (member w.value comps))))
      (writes_from c k us)
  write_values c k [] h = tt
  write_values c k (zero ∷ us) h = write_values c (suc k) us h
  write_values c k (suc n ∷ us) h =
      let r = h n (or_first (eqb n n) (member n (updates_of us)) (eqb_refl n)) in
      (value n r.0 r.1, write_values c (suc k) us (λ m t. h m (or_second (eqb m n) (member m (updates_of us)) t)))

  -- P holds of two lists of writes, one behind the other
  pub all_append : (P : Write → Type 0) (xs ys : List Write) → AllWrites P xs → AllWrites P ys → AllWrites P (xs ++ ys)
  all_append P [] ys a c = c
  all_append P (x ∷ xs) ys a c = (a.0, all_append P xs ys a.1 c)

  -- the output is a root
  pub root_output : T (member b.output (roots b))
  unfolding roots
  root_output = or_first (eqb b.output b.output) (member b.output (updates_of b.states ++ updates_of b.delays)) (eqb_refl b.output)

  -- so is a state's update
  pub root_state : (n : ℕ) → T (member n (updates_of b.states)) → T (member n (roots b))
  unfolding roots
  root_state n t =
      or_second (eqb n b.output) (member n (updates_of b.states ++ updates_of b.delays)) (member_left (updates_of b.states) (updates_of b.delays) n t)

  -- so is a delay's
  pub root_delay : (n : ℕ) → T (member n (updates_of b.delays)) → T (member n (roots b))
  unfolding roots
  root_delay n t =
      or_second (eqb n b.output) (member n (updates_of b.states ++ updates_of b.delays)) (member_right (updates_of b.states) (updates_of b.delays) n t)

  -- the computations ascend
  pub sample_ascending : Ascending 0 comps
  unfolding sample_computations
  sample_ascending = ascending_filter (λ n. get_or need n false && not (has_origin (origin_at ss n))) 0 0 (length ns) (omega arith)

  -- ---- the control phase

  -- the computations of the control phase
  abbrev pub ccomps : List ℕ
  ccomps = control_computations ns cneed

  -- what gets a control slot is invariant
  pub homes_inv : (n : ℕ) → T (get_or homes n false) → (n < length ns) × T (get_or inv n false)
  unfolding hoistable
  homes_inv n t =
      let l : n < length ns = omega (arith, flag_inside homes n t, homes_length) in
      let h : T (get_or need n false && (get_or inv n false && is_computed (node_at ns n))) = rw (homes_at n l) at t in
      (l, and_first (get_or inv n false) (is_computed (node_at ns n)) (and_second (get_or need n false) (get_or inv n false && is_computed (node_at ns n)) h))

  -- so is all that the control phase needs
  pub cneed_inv : (n : ℕ) → T (get_or cneed n false) → (n < length ns) × T (get_or inv n false)
  cneed_inv n t =
      sweep_all ns (λ n. true) (λ n. (n < length ns) × T (get_or inv n false))
      (λ n a d u p. (omega (arith, v.ordered n a u, p.0), inv_closed ns v.ordered n a p.0 p.1 u))
      (length ns) homes homes_inv n t

  -- a computation of the control phase is a node that it needs and that is computed
  pub ccomps_in : (n : ℕ) → T (member n ccomps) → (n < length ns) × T (get_or cneed n false) × T (is_computed (node_at ns n))
  unfolding control_computations
  ccomps_in n t =
      let r = filter_member (λ n. get_or cneed n false && is_computed (node_at ns n)) (count_up 0 (length ns)) n t in (
        omega (arith, count_up_below 0 (length ns) n r.0),
        and_first (get_or cneed n false) (is_computed (node_at ns n)) r.1,
        and_second (get_or cneed n false)
            (is_computed (node_at ns n)) r.1,
      )

  -- .. and back
  pub in_ccomps : (n : ℕ) → n < length ns → T (get_or cneed n false) → T (is_computed (node_at ns n)) → T (member n ccomps)
  unfolding control_computations
  in_ccomps n h t u =
      member_filter (λ n. get_or cneed n false && is_computed (node_at ns n)) (count_up 0 (length ns)) n
      (count_up_member 0 (length ns) n (omega arith) (omega arith)) (and_both (get_or cneed n false) (is_computed (node_at ns n)) t u)

  -- they ascend
  pub control_ascending : Ascending 0 ccomps
  unfolding control_computations
  control_ascending = ascending_filter (λ n. get_or cneed n false && is_computed (node_at ns n)) 0 0 (length ns) (omega arith)

  -- what the control phase needs is an origin or computed there
  pub cvalue : (a : ℕ) → a < length ns → T (get_or cneed a false)
      → (a < length cs) × (T (has_origin (origin_at cs a)) ⊎ ((origin_at cs a ≡ no_origin) × T (member a ccomps)))
  cvalue a h t = let r = inv_leaf ns a h (cneed_inv a t).1 in (rw length-map h, go (control_leaf (node_at ns a) r.0 r.1))
    where
      go : T (is_computed (node_at ns a)) ⊎ T (has_origin (control_origin (node_at ns a)))
          → T (has_origin (origin_at cs a)) ⊎ ((origin_at cs a ≡ no_origin) × T (member a ccomps))
      go (inl u) = inr (control_at ns a h ∙ control_computed (node_at ns a) u, in_ccomps a h t u)
      go (inr u) = inl (rw (control_at ns a h) u)
