-- The plan in the Rust's own forms is the plan: `plan_same`. Assumes nothing.
use Rattle.std.proofs.Common.{◌∙◌, inl, inr, arith, eqb→eq}
use Rattle.std.specs.Prelude.{◌≡◌, ◌⊎◌, false, true, ◌<◌, suc, zero, ℕ, get_or, replicate, eqb}
use Rattle.std.proofs.Math.Path.{ap, sym}
use Rattle.std.proofs.Math.Bool.{not}
use mathlib.Core.List.{map, List, [], ◌++◌, ◌∷◌}
use Rattle.std.proofs.Math.ListN.{length}
use Rattle.std.proofs.lemmas.List.{length-replicate}
use Rattle.std.proofs.Math.Dec.{T, eqb_refl}
use Rattle.tables.specs.Tests.{or_pass}
use Rattle.plan.specs.Lists.{count, member, filter, count_up}
use Rattle.plan.specs.Nodes.{Flow, updates_of, roots}
use Rattle.plan.specs.Hoist.{mark_all, sweep, hoistable, needed_by, control_computations}
use Rattle.plan.specs.Origins.{control_origin}
use Rattle.plan.specs.Schedule.{writes_from, writes, control_tasks, plan_of}
use Rattle.plan.specs.TestLaws.{or_first, or_second}
use Rattle.plan.specs.ListLaws.{filter_member, count_up_below, flag_inside, count_up_member, member_filter, member_append, none_seen}
use Rattle.plan.specs.Reached.{mark_in, mark_inv, length_mark_all}
use Rattle.plan.specs.Planned.{GoodFlow, AllWrites, all_append, homes_length, inv, homes, slots, ss, cneed, comps}
use Rattle.plan.specs.OriginLaws.{sample_length}
use Rattle.plan.specs.RustPlan.{reachable, ordinal_schedule, plan_from, plan_rust}
use Rattle.plan.specs.Ordinals.{ordinals_same}
use Rattle.plan.specs.Worklist.{reachable_same, same_list}

module _ (g : Flow) (v : GoodFlow g) where
  root_in : (n : ℕ) → T (member n (roots g)) → n < length g.nodes
  unfolding roots
  root_in n t = go (or_pass (eqb n g.output) (member n (updates_of g.states ++ updates_of g.delays)) t)
    where
      up : T (member n (updates_of g.states)) ⊎ T (member n (updates_of g.delays)) → n < length g.nodes
      up (inl u) = v.state_updates n u
      up (inr u) = v.delay_updates n u

      go : T (eqb n g.output) ⊎ T (member n (updates_of g.states ++ updates_of g.delays)) → n < length g.nodes
      go (inl u) = let z : n ≡ g.output = eqb→eq n g.output u in omega (arith, v.output)
      go (inr u) = up (member_append (updates_of g.states) (updates_of g.delays) n u)

  -- `sample_needed`
  pub sample_needed : needed_by g (inv g v) ≡ reachable g.nodes (roots g) (λ n. not (hoistable g.nodes (inv g v) n))
  unfolding needed_by
  sample_needed = sym (reachable_same g.nodes (λ n. not (hoistable g.nodes (inv g v) n)) v.ordered (roots g) root_in)

  -- `control_roots`: the nodes that get a control slot, in order
  abbrev pub control_roots : List ℕ
  control_roots = filter (λ n. get_or (homes g v) n false) (count_up 0 (length g.nodes))

  roots_in : (n : ℕ) → T (member n control_roots) → n < length g.nodes
  roots_in n t = omega (arith, count_up_below 0 (length g.nodes) n (filter_member (λ n. get_or (homes g v) n false) (count_up 0 (length g.nodes)) n t).0)

  -- marking them gives their flags
  marked : mark_all control_roots (replicate (length g.nodes) false) ≡ homes g v
  marked =
      same_list g.nodes (λ n. true) v.ordered (mark_all control_roots (replicate (length g.nodes) false)) (homes g v)
      (length_mark_all control_roots (replicate (length g.nodes) false) ∙ (length-replicate (length g.nodes) false ∙ sym (homes_length g v)))
      (λ n t. from n (mark_inv control_roots (replicate (length g.nodes) false) n t))
      (λ n t.
      let l : n < length g.nodes = omega (arith, flag_inside (homes g v) n t, homes_length g v) in
      mark_in control_roots (replicate (length g.nodes) false) n
      (member_filter (λ n. get_or (homes g v) n false) (count_up 0 (length g.nodes)) n (count_up_member 0 (length g.nodes) n (omega arith) (omega arith)) t)
      (rw (length-replicate (length g.nodes) false) l))
    where
      from : (n : ℕ) → T (member n control_roots) ⊎ T (get_or (replicate (length g.nodes) false) n false) → T (get_or (homes g v) n false)
      from n (inl u) = (filter_member (λ n. get_or (homes g v) n false) (count_up 0 (length g.nodes)) n u).1
      from n (inr u) = absurd (rw (none_seen (length g.nodes) n) at u)

  -- `control_needed`
  pub control_needed : cneed g v ≡ reachable g.nodes control_roots (λ n. true)
  control_needed = sym (reachable_same g.nodes (λ n. true) v.ordered control_roots roots_in ∙ ap (sweep g.nodes (λ n. true) (length g.nodes)) marked)

  values_in : (c k : ℕ) (us : List ℕ) → ((n : ℕ) → T (member n (updates_of us)) → n < length g.nodes)
      → AllWrites (λ w. w.value < length g.nodes) (writes_from c k us)
  values_in c k [] h = tt
  values_in c k (zero ∷ us) h = values_in c (suc k) us h
  values_in c k (suc n ∷ us) h =
      (h n (or_first (eqb n n) (member n (updates_of us)) (eqb_refl n)), values_in c (suc k) us (λ m t. h m (or_second (eqb m n) (member m (updates_of us)) t)))

  all_inside : AllWrites (λ w. w.value < length g.nodes) (writes g)
  unfolding writes
  all_inside =
      all_append g v (λ w. w.value < length g.nodes) (writes_from 10 0 g.states) (writes_from 11 0 g.delays) (values_in 10 0 g.states v.state_updates)
      (values_in 11 0 g.delays v.delay_updates)

  -- `sample_schedule`
  pub sample_schedule : (plan_of g).sample_tasks ≡ ordinal_schedule g.nodes (ss g v) (writes g) (comps g v) g.output
  unfolding plan_of
  sample_schedule = sym (ordinals_same g.nodes (ss g v) (sample_length (slots g v) g.nodes) (writes g) all_inside (comps g v) g.output)

  plan_fields : plan_from g (needed_by g (inv g v)) ≡ plan_of g
  unfolding plan_of
  plan_fields =
      λ i.
      record {
        slots = slots g v;
        fixed = count (slots g v);
        control_origins = map control_origin g.nodes;
        control_tasks = control_tasks (slots g v) (control_computations g.nodes (sym control_needed i));
        sample_origins = ss g v;
        sample_tasks = sym sample_schedule i;
      }

  -- the Rust's plan is the plan
  pub plan_same : plan_rust g ≡ plan_of g
  unfolding plan_rust
  plan_same = ap (plan_from g) (sym sample_needed) ∙ plan_fields
