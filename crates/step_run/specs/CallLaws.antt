-- The call: what an accepted answer says, each way out of the tests, and what an accepted call leaves. Assumes nothing.
use Rattle.std.specs.Prelude.{◌≡◌, refl, Bool, true, false, cond, ◌||◌, List, [], ℕ, zero, suc, ◌+◌, ◌*◌, ◌≤◌, ◌<◌, min, length, ltb, eqb, Result, Ok, Err, IsErrAnd}
use Rattle.std.proofs.Math.Path.{sym}
use Rattle.std.proofs.Common.{ap, ◌∙◌}
use Rattle.std.proofs.Math.Bool.{not}
use native.Mathlib.Omega.{arith}
use borrow.Author.Tests.{ltb-false, lt-ltb, le-ltb, not-false, ne_eqb}
use Rattle.tables.specs.Tests.{neither, &_both, differ_of}
use Rattle.tables.specs.Loops.{every}
use Rattle.answers.specs.declared.Refusal.{Refusal}
use Rattle.answers.specs.Numbers.{Answer, accepted, refused, refusal, answer_of}
use Rattle.answers.specs.Order.{◌⨾◌, refuse}
use Rattle.answers.specs.OrderLaws.{then_accepted, refuse_accepted, then_pass, refuse_stop, refuse_pass, refuse_on, refuse_off, hand_on, go_on}
use Rattle.block.specs.Block.{Block, parameter_count, state_count, delay_count}
use Rattle.block.specs.Validation.{expanded_length, validation}
use Rattle.block.specs.Valid as Valids
use Rattle.block.specs.Valid.{valid}
use Rattle.expand.specs.declared.Expanded.{Expanded}
use Rattle.expand.specs.Expansion as E
use Rattle.expand.specs.Expansion.{expansion}
use Rattle.expand.specs.Graph.{graph_of}
use Rattle.kernel.specs.declared.Kernel.{Kernel}
use Rattle.kernel.specs.declared.Phase.{Phase}
use Rattle.kernel.specs.declared.Phase.TheVariants.{Control, Sample}
use Rattle.kernel.specs.Lists.{sizes, phase_may_run, list_may_run, Declared}
use Rattle.memory.specs.Fit.{line_lengths}
use Rattle.memory.specs.Sizes.{run_fits}
use Rattle.memory.specs.SizeLaws.{Fitting, fitting, small, fit, graph_lengths}
use Rattle.memory.specs.Signals.{Signals, Rendered}
use Rattle.step_run.specs.declared.Done.{Done}
use Rattle.step_run.specs.Budget.{samples_done}
use Rattle.step_run.specs.BudgetLaws.{done_inputs, done_of}
use Rattle.machine.specs.Ready.{Listed}
use Rattle.step_run.specs.Ready.{Playable}
use Rattle.step_run.specs.SampleLaws.{spent_is}
use Rattle.step_run.specs.Run as Run
use Rattle.step_run.specs.Run.{Code, setup, setup_of, run_for, steps_spent, shorter, too_short, Tables, tables, tables_of, expansion_after, tables_after, outcome, run_judged, run_answer, run_after, run_call}

-- ---- what an accepted call is
-- every table is as long as it must be
pub record Long (k : Kernel) (nodes expansion steps instructions control spills : ℕ) : Type 0 where
  pub expanded : 3 * nodes ≤ expansion
  pub listed : 2 * (k.control + k.sample) ≤ steps
  pub coded : 2 * k.instructions ≤ instructions
  pub slots : k.slots ≤ control
  pub spilled : k.spills ≤ spills

pub long : (k : Kernel) (nodes expansion steps instructions control spills : ℕ) → shorter k nodes expansion steps instructions control spills ≡ false
    → Long k nodes expansion steps instructions control spills
unfolding shorter
long k nodes expansion steps instructions control spills e =
    let x₁ = ltb expansion (3 * nodes) in
    let x₂ = ltb steps (2 * (k.control + k.sample)) in
    let x₃ = ltb instructions (2 * k.instructions) in
    let x₄ = ltb control k.slots in
    let p = neither (x₁ || x₂ || x₃ || x₄) (ltb spills k.spills) e in
    let q = neither (x₁ || x₂ || x₃) x₄ p.0 in
    let r = neither (x₁ || x₂) x₃ q.0 in
    let s = neither x₁ x₂ r.0 in
    record {
      expanded = ltb-false _ _ s.0;
      listed = ltb-false _ _ s.1;
      coded = ltb-false _ _ r.1;
      slots = ltb-false _ _ q.1;
      spilled = ltb-false _ _ p.1;
    }

pub declared : (k : Kernel) (nodes expansion control spills : ℕ) (steps instructions : List ℕ) (d : Bool)
    → d ≡ shorter k nodes expansion (length steps) (length instructions) control spills → d ≡ false → Declared steps instructions k
declared k nodes expansion control spills steps instructions d g q =
    let l = long k nodes expansion (length steps) (length instructions) control spills (sym g ∙ q) in
    record { whole_steps = l.listed; whole_instructions = l.coded }

-- the tests of `shorter`, one after the other
module _ (k : Kernel) (nodes expansion steps instructions control spills : ℕ) where
  pub shorter_expansion : expansion < 3 * nodes → true ≡ shorter k nodes expansion steps instructions control spills
  unfolding shorter
  shorter_expansion h = rw (lt-ltb expansion (3 * nodes) h)

  module _ (a : 3 * nodes ≤ expansion) (n m : ℕ) (en : n ≡ k.control) (em : m ≡ k.sample) where
    pub shorter_steps : steps < 2 * (n + m) → true ≡ shorter k nodes expansion steps instructions control spills
    unfolding shorter
    shorter_steps h =
        let q : steps < 2 * (k.control + k.sample) = omega arith in
        rw (le-ltb expansion (3 * nodes) a, lt-ltb steps (2 * (k.control + k.sample)) q)

    module _ (b : 2 * (n + m) ≤ steps) (i : ℕ) (ei : i ≡ k.instructions) where
      pub shorter_instructions : instructions < 2 * i → true ≡ shorter k nodes expansion steps instructions control spills
      unfolding shorter
      shorter_instructions h =
          let p : 2 * (k.control + k.sample) ≤ steps = omega arith in
          let q : instructions < 2 * k.instructions = omega arith in
          rw (le-ltb expansion (3 * nodes) a, le-ltb steps (2 * (k.control + k.sample)) p, lt-ltb instructions (2 * k.instructions) q)

      module _ (c : 2 * i ≤ instructions) (j : ℕ) (ej : j ≡ k.slots) where
        pub shorter_control : control < j → true ≡ shorter k nodes expansion steps instructions control spills
        unfolding shorter
        shorter_control h =
            let p : 2 * (k.control + k.sample) ≤ steps = omega arith in
            let q : 2 * k.instructions ≤ instructions = omega arith in
            let r : control < k.slots = omega arith in
            rw (le-ltb expansion (3 * nodes) a, le-ltb steps (2 * (k.control + k.sample)) p, le-ltb instructions (2 * k.instructions) q, lt-ltb control k.slots r)

        pub shorter_spills : j ≤ control → (l : ℕ) → l ≡ k.spills → ltb spills l ≡ shorter k nodes expansion steps instructions control spills
        unfolding shorter
        shorter_spills h l el =
            let p : 2 * (k.control + k.sample) ≤ steps = omega arith in
            let q : 2 * k.instructions ≤ instructions = omega arith in
            let r : k.slots ≤ control = omega arith in
            rw (el, le-ltb expansion (3 * nodes) a, le-ltb steps (2 * (k.control + k.sample)) p, le-ltb instructions (2 * k.instructions) q, le-ltb control k.slots r)

pub record Accepted (b : Block) (c : Code) (s : Signals) (t : Tables) : Type 0 where
  pub judged : validation b ≡ accepted tt
  pub valid : Valids.Valid b
  pub long : Long c.kernel (expanded_length b) (length t.expansion) (length c.steps) (length c.instructions) (length t.control) (length t.spills)
  pub may : list_may_run (sizes (parameter_count b) (state_count b) (delay_count b) c.kernel) c.steps c.instructions c.kernel ≡ true
  pub fits : Fitting b s.parameters t.rendered.memories s.input t.rendered.output s.network

pub accepted_run : (b : Block) (c : Code) (s : Signals) (t : Tables) → run_judged b c s t ≡ accepted tt → Accepted b c s t
unfolding run_judged
accepted_run b c s t e =
    let p = then_accepted (validation b) _ e in
    let q = then_accepted _ _ p.1 in
    let r = then_accepted _ _ q.1 in
    record {
      judged = p.0;
      valid = valid b p.0;
      long = long _ _ _ _ _ _ _ (refuse_accepted 13 _ q.0);
      may = not-false _ (refuse_accepted 15 _ r.0);
      fits = fitting _ _ _ _ _ _ (not-false _ (refuse_accepted 16 _ r.1));
    }

-- ---- the ways out of the tests. v is validation's verdict, n the expanded length as the code counts it
module _ (b : Block) (c : Code) (s : Signals) (t : Tables) (v : Result Unit Refusal) (e : answer_of v ≡ validation b) where
  pub refused_block : (w : Result Unit Refusal) {r : Refusal} → v ≡ Err r → IsErrAnd w (λ y. y ≡ r) → answer_of w ≡ run_judged b c s t
  unfolding run_judged
  refused_block w f h = hand_on w _ e f h

  counted : (n : ℕ) {u : Unit} → v ≡ Ok u → n ≡ min (expanded_length b) 65537 → n ≡ expanded_length b
  counted n f k = let w = (valid b (sym e ∙ ap answer_of f)).fits in omega arith

  module _ {u : Unit} (f : v ≡ Ok u) (n : ℕ) (k : n ≡ min (expanded_length b) 65537) (d : Bool)
      (g : d ≡ shorter c.kernel n (length t.expansion) (length c.steps) (length c.instructions) (length t.control) (length t.spills)) where
    is_short : d ≡ too_short b c t
    is_short =
        g
        ∙ ap (λ (m : ℕ). shorter c.kernel m (length t.expansion) (length c.steps) (length c.instructions) (length t.control) (length t.spills)) (counted n f k)

    pub short_table : d ≡ true → refused 13 [] ≡ run_judged b c s t
    unfolding run_judged
    short_table q = go_on _ e f (sym (refuse_stop 13 _ (sym is_short ∙ q)))

    module _ (long-enough : d ≡ false) (m : Bool)
        (h : m ≡ list_may_run (sizes (parameter_count b) (state_count b) (delay_count b) c.kernel) c.steps c.instructions c.kernel) where
      pub bad_list : m ≡ false → refused 15 [] ≡ run_judged b c s t
      unfolding run_judged
      bad_list q =
          go_on _ e f
          (sym (refuse_pass 13 _ (sym is_short ∙ long-enough) ∙ refuse_stop 15 _ (ap not (sym h ∙ q))))

      module _ (good : m ≡ true) (w : Bool)
          (i : w ≡ run_fits b s.parameters t.rendered.memories s.input t.rendered.output s.network) where
        sizes_answer : (a : Answer Unit) → a ≡ refuse 16 (not w) → a ≡ run_judged b c s t
        unfolding run_judged
        sizes_answer a p =
            go_on _ e f
            (p
            ∙ (ap (λ (z : Bool). refuse 16 (not z)) i
            ∙ sym (refuse_pass 13 _ (sym is_short ∙ long-enough) ∙ refuse_pass 15 _ (ap not (sym h ∙ good)))))

        pub sizes_differ : w ≡ false → refused 16 [] ≡ run_judged b c s t
        sizes_differ q = sizes_answer _ (sym (refuse_on 16 (ap not q)))

        pub all_fits : w ≡ true → accepted tt ≡ run_judged b c s t
        all_fits q = sizes_answer _ (sym (refuse_off 16 (ap not q)))

-- ---- an accepted call
-- its block expands
pub expanded_table : (b : Block) (c : Code) (s : Signals) (t : Tables) → Accepted b c s t → (x : Answer Expanded) (e : List ℕ) → E.outcome x e ≡ E.expand_call b t.expansion
    → e ≡ expansion_after b t
unfolding E.expand_call E.expand_answer E.table_after graph_of
expanded_table b c s t a x e p =
    let done : Answer Expanded = accepted (record { length = expanded_length b; output = E.mapped_output b }) in
    let q : E.expand_answer b (length t.expansion) ≡ done = then_pass _ a.judged ∙ refuse_pass 13 _ (le-ltb _ _ a.long.expanded) in
    ap (λ (y : E.Outcome). y.table) p ∙ rw q

-- it has sample steps
pub some_steps : (b : Block) (c : Code) (s : Signals) (t : Tables) → Accepted b c s t → 0 < c.kernel.sample
unfolding list_may_run
some_steps b c s t a =
    let n = differ_of c.kernel.sample 0 (&_both _ _ a.may).0 in
    positive c.kernel.sample n
  where
    positive : (n : ℕ) → (n ≡ 0 → ⊥) → 0 < n
    positive n h = omega arith

listed_as : (k : Kernel) (steps instructions : List ℕ) (phase : Phase) (first count p s d p' s' d' : ℕ) → p' ≡ p → s' ≡ s → d' ≡ d
    → 2 * (first + count) ≤ length steps → every (phase_may_run (sizes p s d k) steps instructions phase first) count ≡ true
    → Listed p' s' d' k steps instructions phase first count
listed_as k steps instructions phase first count p s d p' s' d' a e f w h = rw (a, e, f) (record { whole = w; each = h })

-- and can be played
pub playable : (b : Block) (c : Code) (budget : ℕ) (s : Signals) (t : Tables) (count : ℕ) → Accepted b c s t → count ≡ samples_done c.kernel budget (length s.input)
    → Playable b.header.network count (length s.parameters) (length t.rendered.memories.states) c.kernel c.steps c.instructions b.delays t.control t.spills
    t.rendered.memories.area t.rendered.memories.cursors s.input s.network t.rendered.output
unfolding list_may_run
playable b c budget s t count a e =
    let k = c.kernel in
    let m = t.rendered.memories in
    let phases = &_both _ _ (&_both _ _ a.may).1 in
    let l = a.long.listed in
    let n = done_inputs k budget (length s.input) in
    let o = a.fits.outputs in
    record {
      small = small b a.valid;
      ready =
          record {
            code = a.long.coded;
            slotted = record { slots = a.long.slots; spilled = a.long.spilled };
            lines = record { fit = fit b m a.valid a.fits.held a.fits.below; based = refl };
          };
      first = listed_as k c.steps c.instructions Control 0 k.control _ _ _ _ _ _ a.fits.parameters a.fits.held.states a.fits.held.cursors (omega arith) phases.0;
      then = listed_as k c.steps c.instructions Sample k.control k.sample _ _ _ _ _ _ a.fits.parameters a.fits.held.states a.fits.held.cursors l phases.1;
      sounding = record { inputs = omega arith; networks = λ h. omega (arith, a.fits.networks h); outputs = omega arith };
    }

-- ---- the outcome of a call. The registers play no part in the tests
abbrev pub bare : Tables → Tables
bare t = tables t.expansion t.control t.spills t.rendered []

bare_judged : (b : Block) (c : Code) (s : Signals) (t : Tables) → run_judged b c s (bare t) ≡ run_judged b c s t
unfolding run_judged
bare_judged b c s t = refl

pub refused_call : (b : Block) (c : Code) (budget : ℕ) (s : Signals) (t : Tables) (v : Result Unit Refusal) (r : Refusal) → answer_of v ≡ run_judged b c s (bare t) → v ≡ Err r
    → outcome (answer_of {A = Done} (Err r)) t ≡ run_call b c budget s t
unfolding run_call run_answer run_after ◌⨾◌
refused_call b c budget s t v r e f =
    let a : run_judged b c s t ≡ refusal r = sym (bare_judged b c s t) ∙ (sym e ∙ ap answer_of f) in
    rw a

answer_is : (b : Block) (c : Code) (budget : ℕ) (s : Signals) (t : Tables) (count : ℕ) → run_judged b c s t ≡ accepted tt → count ≡ samples_done c.kernel budget (length s.input)
    → run_answer b c budget s t ≡ accepted (record { samples = count; steps = steps_spent (setup_of b c s) t count })
unfolding run_answer
answer_is b c budget s t count j e = then_pass _ j ∙ rw e

call_is : (b : Block) (c : Code) (budget : ℕ) (s : Signals) (t : Tables) (count steps : ℕ) → run_judged b c s t ≡ accepted tt
    → count ≡ samples_done c.kernel budget (length s.input) → steps ≡ steps_spent (setup_of b c s) t count
    → outcome (accepted (record { samples = count; steps = steps })) (tables_after b c s t count) ≡ run_call b c budget s t
unfolding run_call run_after
call_is b c budget s t count steps j e h = rw (answer_is b c budget s t count j e, h)

-- no sample: only the expansion is written
pub none_call : (b : Block) (c : Code) (budget : ℕ) (s : Signals) (t : Tables) (count : ℕ) (e : List ℕ) → run_judged b c s (bare t) ≡ accepted tt
    → count ≡ samples_done c.kernel budget (length s.input) → count ≡ 0 → e ≡ expansion_after b t
    → outcome (accepted (record { samples = 0; steps = 0 })) (tables e t.control t.spills t.rendered t.registers) ≡ run_call b c budget s t
unfolding steps_spent
none_call b c budget s t count e j p z x =
    let q : 0 ≡ samples_done c.kernel budget (length s.input) = sym z ∙ p in
    ap (λ (y : List ℕ). outcome (accepted (record { samples = 0; steps = 0 })) (tables y t.control t.spills t.rendered t.registers)) x
    ∙ call_is b c budget s t 0 0 (sym (bare_judged b c s t) ∙ j) q refl

after_some : (b : Block) (c : Code) (s : Signals) (t : Tables) (count : ℕ) → (count ≡ 0 → ⊥)
    → tables_after b c s t count ≡ tables_of (expansion_after b t) (run_for (setup_of b c s) t count)
after_some b c s t zero h = absurd (h refl)
after_some b c s t (suc n) h = refl

run_part : (b : Block) (c : Code) (s : Signals) (t : Tables) (count : ℕ)
    → run_for (setup (line_lengths b.delays) b.header.network c s) (tables [] t.control t.spills t.rendered []) count ≡ run_for (setup_of b c s) t count
unfolding run_for
run_part b c s t count = rw (graph_lengths b)

-- some samples: what the run leaves, and control + n × sample steps spent
pub done_call : (b : Block) (c : Code) (budget : ℕ) (s : Signals) (t : Tables) (count : ℕ) (d : Done) (e control spills registers : List ℕ) (r : Rendered)
    → run_judged b c s (bare t) ≡ accepted tt → count ≡ samples_done c.kernel budget (length s.input) → (count ≡ 0 → ⊥) → d ≡ done_of c.kernel count
    → e ≡ expansion_after b t
    → tables [] control spills r registers
    ≡ tables_of [] (run_for (setup (line_lengths b.delays) b.header.network c s) (tables [] t.control t.spills t.rendered []) count)
    → outcome (accepted d) (tables e control spills r registers) ≡ run_call b c budget s t
unfolding steps_spent
done_call b c budget s t count d e control spills registers r j p z q x h =
    let u = setup_of b c s in
    let a = accepted_run b c s (bare t) j in
    let n = sizes (parameter_count b) (state_count b) (delay_count b) c.kernel in
    let k : cond (eqb count 0) 0 (run_for u t count).machine.executed ≡ c.kernel.control + count * c.kernel.sample = rw (ne_eqb count 0 z) (spent_is u n t count a.may) in
    let f : Tables → Tables = λ (y : Tables). tables (expansion_after b t) y.control y.spills y.rendered y.registers in
    let g : f (tables [] control spills r registers) ≡ f (tables_of [] (run_for u t count)) = ap f (h ∙ ap (λ (y : Run.Running). tables_of [] y) (run_part b c s t count)) in
    ap (λ (y : List ℕ). outcome (accepted d) (tables y control spills r registers)) x
    ∙ (ap (λ (y : Done). outcome (accepted y) (tables (expansion_after b t) control spills r registers)) q
    ∙ (ap (λ (y : Tables). outcome (accepted (done_of c.kernel count)) y) (g ∙ sym (after_some b c s t count z))
    ∙ call_is b c budget s t count (c.kernel.control + count * c.kernel.sample) (sym (bare_judged b c s t) ∙ j) p (sym k)))
