-- Both phases of what compile gives go through the walk, and store all that must be stored, the output last: `draft_walks`. Of a good graph. Assumes nothing.
use Rattle.std.proofs.Math.Path.{◌≡◌, refl, subst}
use Rattle.std.proofs.Common.{ap, ◌∙◌, arith, length-append}
use Rattle.std.specs.Prelude.{true, not, ℕ, zero, suc, pred, ◌+◌, length, get_or}
use Rattle.std.proofs.Math.Bool.{false}
use mathlib.Core.List.{List, [], ◌∷◌, ◌++◌, append_assoc}
use Rattle.std.proofs.lemmas.List.{length-replicate}
use Rattle.std.proofs.Math.Seq.{get_or-append_seam, append_snoc}
use Rattle.block.specs.declared.Counts.{Counts}
use Rattle.expand.specs.Graph.{Graph}
use Rattle.expand.specs.GraphLaws.{GoodGraph}
use Rattle.plan.specs.Lists.{count, filter, any_of}
use Rattle.plan.specs.Nodes.{Flow}
use Rattle.plan.specs.Origins.{Origin}
use Rattle.plan.specs.Schedule.{Task, store_task, writes_from, writes, waits, tasks_of, schedule_from, schedule, plan_of}
use Rattle.tables.specs.Zeros.{zeros_at}
use Rattle.plan.specs.Flow.{flow_of}
use Rattle.plan.specs.Planned.{AllWrites, all_append, slots, ss, comps}
use Rattle.plan.specs.FlowLaws.{good_flow}
use Rattle.allocate.specs.Actions.{Action}
use Rattle.allocate.specs.State.{Allocated, allocated, all_locked, Setting, State, begin}
use Rattle.allocate.specs.Allocator.{allocate}
use Rattle.allocate.specs.Outcomes.{Post, post_bind, post_and}
use Rattle.compile.specs.Draft.{control_setting, sample_setting, draft_of, compile_plan, compile_flow}
use Rattle.compiled.specs.Marks.{Rules, start_marks}
use Rattle.compiled.specs.TrackedTasks.{WriteCode, to_state, to_delay}
use Rattle.compiled.specs.TrackedPhases.{WriteOk, Full, ControlGoes, SampleGoes, control_goes, sample_goes}
use Rattle.compiled.specs.Meanings.{rules, class_word, class, sample_meaning, sample_loads, control_meaning, control_loads}
use Rattle.compiled.specs.Stores.{post_all, stores, task_stores, Ended, run_ended}
use Rattle.compiled.specs.Writes.{schedule_total, outputs_none}
use Rattle.compiled.proofs.Writes.{states_once, delays_once}
use Rattle.compiled.specs.Left.{Left}
use Rattle.compiled.specs.DraftWalks.{Must, Walks}

-- each write stores the class that its update asks for
writes_asked : (R : Rules) (g : Graph) (c : ℕ) (all : List ℕ) → WriteCode c → (c ≡ 12 → ⊥) → ((i : ℕ) → R.asked_class c i ≡ class_word g (get_or all i 0))
    → (us pre : List ℕ) (k : ℕ) → k ≡ length pre → pre ++ us ≡ all
    → AllWrites (WriteOk R (λ n. pred (class_word g (suc n)))) (writes_from c k us)
writes_asked R g c all wc nt h [] pre k e q = tt
writes_asked R g c all wc nt h (zero ∷ us) pre k e q =
    writes_asked R g c all wc nt h us (pre ++ (0 ∷ [])) (suc k) (omega (arith, length-append pre (0 ∷ []))) (append_snoc pre 0 us ∙ q)
writes_asked R g c all wc nt h (suc n ∷ us) pre k e q =
    let at : get_or all k 0 ≡ suc n = rw (e, ← q) (get_or-append_seam pre (suc n) us 0) in (
      ((wc, λ z. absurd (nt z)), h k ∙ ap (class_word g) at),
      writes_asked R g c all wc nt h us (pre ++ (suc n ∷ [])) (suc k)
          (omega (arith, length-append pre (suc n ∷ []))) (append_snoc pre (suc n) us ∙ q),
    )

-- what is left at the start: all
pub left_start : (g : Graph) (control_slots : List ℕ) (declared : ℕ) (ys : List Action) → ((c i : ℕ) → stores c i ys ≡ Must g c i)
    → Left g (start_marks (rules g false control_slots declared)) ys
unfolding rules flow_of
left_start g control_slots declared ys h =
    record {
      states = λ i. omega (arith, zeros_at (length g.state_updates) i, h 10 i, states_once (flow_of g) i);
      delays = λ i. omega (arith, zeros_at (length g.delay_updates) i, h 11 i, delays_once (flow_of g) i);
      outputs = omega (arith, h 12 0, outputs_none (flow_of g));
      states_length = length-replicate {A = ℕ} (length g.state_updates) 0;
      delays_length = length-replicate {A = ℕ} (length g.delay_updates) 0;
    }

module _ (counts : Counts) (g : Graph) (good : GoodGraph counts g) (mask : ℕ) where
  abbrev F : Flow
  F = flow_of g

  asked_all : (control_slots : List ℕ) (declared : ℕ) → AllWrites (WriteOk (rules g false control_slots declared) (class counts g good)) (writes F)
  unfolding writes rules flow_of
  asked_all control_slots declared =
      all_append F (good_flow counts g good) (WriteOk (rules g false control_slots declared) (class counts g good)) (writes_from 10 0 g.state_updates)
      (writes_from 11 0 g.delay_updates)
      (writes_asked (rules g false control_slots declared) g 10 g.state_updates to_state (λ (z : ◌≡◌ {A = ℕ} 10 12). omega arith) (λ i. refl)
      g.state_updates [] 0 refl refl)
      (writes_asked (rules g false control_slots declared) g 11 g.delay_updates to_delay (λ (z : ◌≡◌ {A = ℕ} 11 12). omega arith) (λ i. refl)
      g.delay_updates [] 0 refl refl)

  asked_output : (control_slots : List ℕ) (declared : ℕ) → (rules g false control_slots declared).asked_class 12 0 ≡ suc (class counts g good F.output)
  unfolding rules flow_of
  asked_output control_slots declared = refl

  abbrev control_run : Allocated State
  control_run = allocate (control_setting F (plan_of F) mask) (plan_of F).control_tasks (begin (control_setting F (plan_of F) mask))

  abbrev sample_run : Allocated State
  sample_run = allocate (sample_setting F (plan_of F) mask) (plan_of F).sample_tasks (begin (sample_setting F (plan_of F) mask))

  -- control slots that the control phase left
  abbrev Kept : Type 0
  Kept = (ks : List ℕ) × Full (slots F (good_flow counts g good)) (class counts g good) ks

  abbrev ControlOk : State → ℕ → Type 0
  ControlOk c declared = ControlGoes mask (slots F (good_flow counts g good)) (class counts g good) (rules g true [] declared) c

  abbrev SampleOk : State → Kept → ℕ → Type 0
  SampleOk s ks declared = SampleGoes mask (rules g false ks.0 declared) s

  control_all : Post (Unit {0}) (λ c. (declared : ℕ) → ControlOk c declared) control_run
  control_all =
      post_all (λ (declared : ℕ) c. ControlOk c declared) control_run (λ declared.
      control_goes F (good_flow counts g good) mask (class counts g good) (rules g true [] declared)
      (control_meaning counts g good mask declared (count (slots F (good_flow counts g good)))) (control_loads counts g good declared))

  sample_all : Post (Unit {0}) (λ s. (ks : Kept) (declared : ℕ) → SampleOk s ks declared) sample_run
  sample_all =
      post_all (λ (ks : Kept) s. (declared : ℕ) → SampleOk s ks declared) sample_run (λ ks.
      post_all (λ (declared : ℕ) s. SampleOk s ks declared) sample_run (λ declared.
      sample_goes F (good_flow counts g good) mask (class counts g good) (rules g false ks.0 declared) (sample_meaning counts g good mask ks.0 declared)
      (sample_loads counts g good ks.0 declared ks.1) (asked_all ks.0 declared) (asked_output ks.0 declared)))

  sample_ended : Post (Unit {0}) (λ s. Ended (Must g) s.steps) sample_run
  unfolding plan_of schedule begin
  sample_ended =
      subst (λ (os : List Task). Post (Unit {0}) (λ s. Ended (Must g) s.steps) (allocate e os (begin e)))
      (append_assoc first rest (store_task 12 0 F.output ∷ []))
      (conv (allocate e ((first ++ rest) ++ (store_task 12 0 F.output ∷ [])) (begin e)) (run_ended e (first ++ rest) F.output (begin e)))
    where
      e : Setting
      e = sample_setting F (plan_of F) mask

      origins : List Origin
      origins = ss F (good_flow counts g good)

      computations : List ℕ
      computations = comps F (good_flow counts g good)

      first : List Task
      first = tasks_of (filter (λ w. not (any_of (waits F.nodes origins w) computations)) (writes F))

      rest : List Task
      rest = schedule_from F.nodes origins (writes F) computations

      conv : (x : Allocated State) → Post (Unit {0}) (λ s. Ended (λ c i. 0 + task_stores c i (first ++ rest)) s.steps) x
          → Post (Unit {0}) (λ s. Ended (Must g) s.steps) x
      conv (allocated s) k =
          record {
            before = k.before;
            register = k.register;
            is = k.is;
            counts = λ c i. omega (arith, k.counts c i, schedule_total c i F.nodes origins (writes F) computations);
          }
      conv all_locked k = tt

  -- WHATEVER THE MASK, what compile gives goes through the walk
  pub draft_walks : Post (Unit {0}) (Walks g mask) (compile_flow F mask)
  unfolding compile_flow compile_plan draft_of rules
  draft_walks =
      post_bind (Unit {0}) (λ c. (declared : ℕ) → ControlOk c declared) (Walks g mask) control_run _ control_all (λ c hc.
      post_bind (Unit {0}) (λ s. Ended (Must g) s.steps × ((ks : Kept) (declared : ℕ) → SampleOk s ks declared)) (Walks g mask) sample_run _
      (post_and (λ s. Ended (Must g) s.steps) (λ s. (ks : Kept) (declared : ℕ) → SampleOk s ks declared) sample_run sample_ended sample_all)
      (λ s hs.
      let m = hc c.slots refl in
      let m' = hs.1 (m.0.slots, m.2) s.slots refl in
      record { between = m.0; control = m.1; after = m'.0; sample = m'.1; ended = hs.0 }))
