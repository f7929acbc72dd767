-- The plan gives the allocator what it asks for. Assumes nothing.
use Rattle.std.specs.Prelude.{◌≡◌, refl, ◌⊎◌, Bool, ◌&&◌, true, ◌<◌, suc, zero, ℕ, get_or, length, T, eqb}
use Rattle.std.proofs.Common.{◌∙◌, inl, arith, eqb→eq}
use Rattle.std.proofs.Math.Logic.{inr}
use Rattle.std.proofs.Math.Bool.{false, not}
use mathlib.Core.List.{List, [], ◌++◌, ◌∷◌, append_assoc}
use Rattle.std.proofs.lemmas.List.{length-map}
use Rattle.std.proofs.Math.Dec.{eqb_refl}
use Rattle.std.proofs.lemmas.Bool.{not-true}
use Rattle.tables.specs.Tests.{or_pass, both}
use Rattle.plan.specs.Nodes.{Flow, Node, operands, node_at}
use Rattle.plan.specs.Origins.{control_origin, Origin, no_origin, has_origin, origin_at, canonical}
use Rattle.plan.specs.Schedule.{writes_from, writes, Task, compute_task, keep_task, store_task, task_reads, Write, waits, tasks_of, schedule_from, schedule, control_task, control_tasks}
use Rattle.plan.specs.Lists.{member, filter, any_of, count}
use Rattle.plan.specs.Hoist.{number}
use Rattle.plan.specs.ListLaws.{Ascending, member_map, any_no, ascending_ge}
use Rattle.plan.specs.TestLaws.{or_first, or_second}
use Rattle.plan.specs.OriginLaws.{number_lt, number_inj, sample_length, control_at, control_computed, no_origin_lem, canonical_origin, canonical_computed}
use Rattle.plan.specs.Planned.{GoodFlow, AllWrites, all_filter, all_append, ss, cs, slots, homes, homes_length, comps, comps_in, comp_plain, ccomps, ccomps_in, need_root, need_closed, value, write_values, cvalue, root_output, root_state, root_delay, sample_ascending, control_ascending}
use Rattle.plan.specs.Reached.{Ordered, sweep_closed}
use Rattle.allocate.specs.State.{Setting}
use Rattle.allocate.specs.TaskLaws.{ReadsOk, known}
use Rattle.allocate.specs.RunLaws.{TasksOk, HomesOk}

-- the control slots are as the allocator asks
pub number_ok : (fs : List Bool) → HomesOk (number 0 fs) (count (number 0 fs))
number_ok fs = record { lt = λ n k h. omega (arith, (number_lt 0 fs n k h).2); inj = λ m l k. number_inj 0 fs m l k }

-- what a schedule over sources ss and computations comps needs
module _ (ns : List Node) (ss : List Origin) (registers home : List ℕ) (in_control : Bool) (fixed : ℕ) where
  -- the setting of such a phase
  abbrev pub setting_of : Setting
  setting_of = record { nodes = ns; origins = ss; registers = registers; in_control = in_control; fixed = fixed }

  -- a node of the table that, if it is computed, is done
  abbrev pub Usable : List ℕ → ℕ → Type 0
  Usable done a = (a < length ss) × (T (has_origin (origin_at ss a)) ⊎ ((origin_at ss a ≡ no_origin) × T (member a done)))

  read_ok : (done : List ℕ) (a : ℕ) → Usable done a → (canonical ss a < length ss) × T (known setting_of done (canonical ss a))
  read_ok done a u = go u.1
    where
      go : T (has_origin (origin_at ss a)) ⊎ ((origin_at ss a ≡ no_origin) × T (member a done))
          → (canonical ss a < length ss) × T (known setting_of done (canonical ss a))
      go (inl t) = let r = canonical_origin ss a u.0 t in (r.0, or_second (member (canonical ss a) done) (has_origin (origin_at ss (canonical ss a))) r.1)
      go (inr t) = rw (canonical_computed ss a t.0) (u.0, or_first (member a done) (has_origin (origin_at ss a)) t.1)

  -- the reads of a computation whose operands are usable
  pub reads_comp : (done : List ℕ) (n : ℕ) → ((a : ℕ) → T (member a (operands (node_at ns n))) → Usable done a)
      → ReadsOk setting_of done (task_reads ns ss (compute_task n))
  unfolding task_reads
  reads_comp done n h m t =
      let r = member_map (canonical ss) (operands (node_at ns n)) m t in
      rw r.2 (read_ok done r.0 (h r.0 r.1))

  one_of : (done : List ℕ) (v : ℕ) → Usable done v → (m : ℕ) → T (member m (canonical ss v ∷ [])) → (m < length ss) × T (known setting_of done m)
  one_of done v u m t = go (or_pass (eqb m (canonical ss v)) false t)
    where
      go : T (eqb m (canonical ss v)) ⊎ ⊥ → (m < length ss) × T (known setting_of done m)
      go (inl w) = rw (eqb→eq m (canonical ss v) w) (read_ok done v u)
      go (inr w) = absurd w

  -- .. of a write
  pub reads_write : (done : List ℕ) (c i v : ℕ) → Usable done v → ReadsOk setting_of done (task_reads ns ss (store_task c i v))
  unfolding task_reads
  reads_write done c i v u = one_of done v u

  -- .. of a keep
  pub reads_home : (done : List ℕ) (k v : ℕ) → Usable done v → ReadsOk setting_of done (task_reads ns ss (keep_task k v))
  unfolding task_reads
  reads_home done k v u = one_of done v u

  writes_ok : (done : List ℕ) (ws : List Write) (os : List Task) → AllWrites (λ w. Usable done w.value) ws → ((last : ℕ) → TasksOk setting_of home done last os)
      → (last : ℕ) → TasksOk setting_of home done last (tasks_of ws ++ os)
  writes_ok done [] os a k last = k last
  writes_ok done (w ∷ ws) os a k last = (reads_write done w.code w.index w.value a.0, writes_ok done ws os a.1 k 0)

  module _ (comps : List ℕ) (ord : Ordered ns)
      (comp-src : (n : ℕ) → T (member n comps) → (n < length ss) × (origin_at ss n ≡ no_origin))
      (comp-ops : (n a : ℕ) → T (member n comps) → T (member a (operands (node_at ns n))) → (a < length ss)
      × (T (has_origin (origin_at ss a)) ⊎ ((origin_at ss a ≡ no_origin) × T (member a comps))))
    where
      -- done and rest are the two parts of comps, in order
      pub record Parts (done rest : List ℕ) (k : ℕ) : Type 0 where
        pub split : (m : ℕ) → T (member m comps) → T (member m done) ⊎ T (member m rest)
        pub part : (m : ℕ) → T (member m rest) → T (member m comps)
        pub low : (m : ℕ) → T (member m done) → m < k
        pub high : Ascending k rest

      parts_next : (done : List ℕ) (n : ℕ) (rest : List ℕ) (k : ℕ) → Parts done (n ∷ rest) k → Parts (n ∷ done) rest (suc n)
      parts_next done n rest k p =
          record {
            split = λ m t. sp m (p.split m t);
            part = λ m t. p.part m (or_second (eqb m n) (member m rest) t);
            low = λ m t. lo m (or_pass (eqb m n) (member m done) t);
            high = p.high.1;
          }
        where
          sp₂ : (m : ℕ) → T (eqb m n) ⊎ T (member m rest) → T (member m (n ∷ done)) ⊎ T (member m rest)
          sp₂ m (inl u) = inl (or_first (eqb m n) (member m done) u)
          sp₂ m (inr u) = inr u

          sp : (m : ℕ) → T (member m done) ⊎ T (member m (n ∷ rest)) → T (member m (n ∷ done)) ⊎ T (member m rest)
          sp m (inl u) = inl (or_second (eqb m n) (member m done) u)
          sp m (inr u) = sp₂ m (or_pass (eqb m n) (member m rest) u)

          lo : (m : ℕ) → T (eqb m n) ⊎ T (member m done) → m < suc n
          lo m (inl u) = let z : m ≡ n = eqb→eq m n u in omega arith
          lo m (inr u) = omega (arith, p.low m u, p.high.0)

      -- the next computation may run
      pub computation_ok : (done : List ℕ) (n : ℕ) (rest : List ℕ) (k : ℕ) → Parts done (n ∷ rest) k
          → ReadsOk setting_of done (task_reads ns ss (compute_task n)) × (n < length ss) × (T (known setting_of done n) → ⊥)
      computation_ok done n rest k p =
          (reads_comp done n (λ a t. ((comp-ops n a here t).0, before a t (comp-ops n a here t).1)), (comp-src n here).0, fresh)
        where
          here : T (member n comps)
          here = p.part n (or_first (eqb n n) (member n rest) (eqb_refl n))

          is_done : (a : ℕ) → a < n → T (member a done) ⊎ T (member a (n ∷ rest)) → T (member a done)
          is_done a lt (inl u) = u
          is_done a lt (inr u) = absurd (omega (arith, ascending_ge n (n ∷ rest) a (omega arith, p.high.1) u))

          before : (a : ℕ) → T (member a (operands (node_at ns n))) → T (has_origin (origin_at ss a)) ⊎ ((origin_at ss a ≡ no_origin) × T (member a comps))
              → T (has_origin (origin_at ss a)) ⊎ ((origin_at ss a ≡ no_origin) × T (member a done))
          before a t (inl u) = inl u
          before a t (inr u) = inr (u.0, is_done a (ord n a t) (p.split a u.1))

          fresh : T (known setting_of done n) → ⊥
          fresh t = go (or_pass (member n done) (has_origin (origin_at ss n)) t)
            where
              go : T (member n done) ⊎ T (has_origin (origin_at ss n)) → ⊥
              go (inl u) = omega (arith, p.low n u, p.high.0)
              go (inr u) = rw (comp-src n here).1 at u

      -- a value that is a source or computed
      abbrev Value : ℕ → Type 0
      Value a = (a < length ss) × (T (has_origin (origin_at ss a)) ⊎ ((origin_at ss a ≡ no_origin) × T (member a comps)))

      value_usable : (done rest : List ℕ) (k a : ℕ) → Parts done rest k → Value a → (T (member a rest) → ⊥) → Usable done a
      value_usable done rest k a p v off = (v.0, go v.1)
        where
          go₂ : T (member a done) ⊎ T (member a rest) → T (member a done)
          go₂ (inl u) = u
          go₂ (inr u) = absurd (off u)

          go : T (has_origin (origin_at ss a)) ⊎ ((origin_at ss a ≡ no_origin) × T (member a comps))
              → T (has_origin (origin_at ss a)) ⊎ ((origin_at ss a ≡ no_origin) × T (member a done))
          go (inl u) = inl u
          go (inr u) = inr (u.0, go₂ (p.split a u.1))

      waits_value : (w : Write) (rest : List ℕ) → any_of (waits ns ss w) rest ≡ false → T (member w.value rest) → ⊥
      unfolding waits
      waits_value w rest h t = any_no (waits ns ss w) rest w.value h t (or_first (eqb w.value w.value) _ (eqb_refl w.value))

      -- the computations that are left, with their writes
      pub schedule_from_ok : (ws : List Write) (os : List Task) → AllWrites (λ w. Value w.value) ws
          → ((done : List ℕ) (k last : ℕ) → Parts done [] k → TasksOk setting_of home done last os)
          → (rest done : List ℕ) (k last : ℕ) → Parts done rest k → TasksOk setting_of home done last (schedule_from ns ss ws rest ++ os)
      unfolding schedule_from
      schedule_from_ok ws os a fin [] done k last p = fin done k last p
      schedule_from_ok ws os a fin (n ∷ rest) done k last p =
          let c = computation_ok done n rest k p in
          let q : Parts (n ∷ done) rest (suc n) = parts_next done n rest k p in
          let ws' : List Write = filter (λ w. waits ns ss w n && not (any_of (waits ns ss w) rest)) ws in (
            c.0,
            c.1,
            c.2,
            rw (append_assoc (tasks_of ws') (schedule_from ns ss ws rest) os)
                (writes_ok (n ∷ done) ws' (schedule_from ns ss ws rest ++ os)
                (all_filter (λ w. Value w.value) (λ w. Usable (n ∷ done) w.value) (λ w. waits ns ss w n && not (any_of (waits ns ss w) rest)) ws a
                (λ w vw z. value_usable (n ∷ done) rest (suc n) w.value q vw
                (waits_value w rest (not-true (any_of (waits ns ss w) rest) (both (waits ns ss w n) (not (any_of (waits ns ss w) rest)) z).1))))
                (λ last. schedule_from_ok ws os a fin rest (n ∷ done) (suc n) last q)
                (suc n)),
          )

      -- THE SAMPLE PHASE'S TASKS
      pub schedule_ok : (ws : List Write) (out : ℕ) → AllWrites (λ w. Value w.value) ws → Value out → Ascending 0 comps
          → TasksOk setting_of home [] 0 (schedule ns ss ws comps out)
      unfolding schedule
      schedule_ok ws out a vo asc =
          let p0 : Parts [] comps 0 = record { split = λ m t. inr t; part = λ m t. t; low = λ m t. absurd t; high = asc } in
          let ws' : List Write = filter (λ w. not (any_of (waits ns ss w) comps)) ws in
          writes_ok [] ws' (schedule_from ns ss ws comps ++ (store_task 12 0 out ∷ []))
          (all_filter (λ w. Value w.value) (λ w. Usable [] w.value) (λ w. not (any_of (waits ns ss w) comps)) ws a
          (λ w vw z. value_usable [] comps 0 w.value p0 vw (waits_value w comps (not-true (any_of (waits ns ss w) comps) z))))
          (λ last. schedule_from_ok ws (store_task 12 0 out ∷ []) a (λ done k last p. (reads_write done 12 0 out (value_usable done [] k out p vo (λ t. t)), tt))
          comps [] 0 last p0)
          0

      -- the control phase's computations that are left
      pub control_ok : (rest done : List ℕ) (k last : ℕ) → Parts done rest k → TasksOk setting_of home done last (control_tasks home rest)
      control_ok [] done k last p = tt
      control_ok (n ∷ rest) done k last p = go (get_or home n 0) refl (λ last. control_ok rest (n ∷ done) (suc n) last (parts_next done n rest k p))
        where
          go : (h : ℕ) → get_or home n 0 ≡ h → ((last : ℕ) → TasksOk setting_of home (n ∷ done) last (control_tasks home rest))
              → TasksOk setting_of home done last (control_task n h ++ control_tasks home rest)
          go zero q f = let c = computation_ok done n rest k p in (c.0, c.1, c.2, f (suc n))
          go (suc j) q f =
              let c = computation_ok done n rest k p in
              let s = comp-src n (p.part n (or_first (eqb n n) (member n rest) (eqb_refl n))) in (
                c.0,
                c.1,
                c.2,
                (reads_home (n ∷ done) j n (s.0, inr (s.1, or_first (eqb n n) (member n done) (eqb_refl n))), refl, canonical_computed ss n s.1, q, f 0),
              )

      -- THE CONTROL PHASE'S TASKS
      pub control_all_ok : Ascending 0 comps → TasksOk setting_of home [] 0 (control_tasks home comps)
      control_all_ok asc = control_ok comps [] 0 0 (record { split = λ m t. inr t; part = λ m t. t; low = λ m t. absurd t; high = asc })

-- ---- a good flow's plan

un_not : (x : Bool) → T (not x) → x ≡ false
un_not true t = absurd t
un_not false t = refl

module _ (b : Flow) (v : GoodFlow b) where
  -- the sample phase
  pub sample_tasks_ok : (registers : List ℕ)
      → TasksOk (setting_of b.nodes (ss b v) registers [] false 0) [] [] 0 (schedule b.nodes (ss b v) (writes b) (comps b v) b.output)
  unfolding writes
  sample_tasks_ok registers =
      schedule_ok b.nodes (ss b v) registers [] false 0 (comps b v) v.ordered
      (λ n t. let c = comps_in b v n t in (
        rw (sample_length (slots b v) b.nodes) c.0,
        no_origin_lem (origin_at (ss b v) n)
            (un_not (has_origin (origin_at (ss b v) n)) c.2),
      ))
      (λ n a t u. let c = comps_in b v n t in value b v a (omega (arith, v.ordered n a u, c.0)) (need_closed b v n a c.0 c.1 (comp_plain b v n t) u))
      (writes b) b.output
      (all_append b v _ (writes_from 10 0 b.states) (writes_from 11 0 b.delays)
      (write_values b v 10 0 b.states (λ n t. (v.state_updates n t, need_root b v n (root_state b v n t) (v.state_updates n t))))
      (write_values b v 11 0 b.delays (λ n t. (v.delay_updates n t, need_root b v n (root_delay b v n t) (v.delay_updates n t)))))
      (value b v b.output v.output (need_root b v b.output (root_output b v) v.output))
      (sample_ascending b v)

  -- the control phase
  pub control_tasks_ok : (registers : List ℕ) (fixed : ℕ)
      → TasksOk (setting_of b.nodes (cs b v) registers (slots b v) true fixed) (slots b v) [] 0 (control_tasks (slots b v) (ccomps b v))
  control_tasks_ok registers fixed =
      control_all_ok b.nodes (cs b v) registers (slots b v) true fixed (ccomps b v) v.ordered
      (λ n t. let c = ccomps_in b v n t in (
        rw (length-map b.nodes control_origin) c.0,
        control_at b.nodes n c.0 ∙ control_computed
            (node_at b.nodes n) c.2,
      ))
      (λ n a t u.
      let c = ccomps_in b v n t in
      let l : a < length b.nodes = omega (arith, v.ordered n a u, c.0) in
      cvalue b v a l (sweep_closed b.nodes (λ n. true) v.ordered (length b.nodes) (homes b v) (rw (homes_length b v) (omega arith)) n a c.0 c.1 tt u))
      (control_ascending b v)
