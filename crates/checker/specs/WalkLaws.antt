-- The walk as the code does it on the work table: one step, the steps of a phase, what comes between the phases, and that the whole is `walk_answer`.
-- Assumes nothing.
use Rattle.std.specs.Prelude.{◌≡◌, refl, Bool, true, false, ◌||◌, List, [], ◌∷◌, ℕ, zero, suc, ◌+◌, ◌-◌, ◌*◌, ◌≤◌, ◌<◌, get_or, set, drop, eqb, Result, Ok, Err, IsErrAnd, Option, Some, None, IsTrue, ◌↔◌}
use Rattle.std.proofs.Math.Path.{sym, ap}
use Rattle.std.proofs.Common.{◌∙◌, zero-add, add-one, length-drop, length-take-le}
use Rattle.std.proofs.Math.Bool.{not}
use native.Mathlib.Omega.{arith}
use Rattle.std.proofs.Math.Decide.{dec_lt}
use Rattle.std.proofs.Math.ListN.{length, get_or-eq_default}
use Rattle.std.proofs.lemmas.List.Edits.{sets}
use borrow.Author.Tests.{ne_eqb, eq-eqb, not-true, not-false}
use borrow.Rule.Slice.PartMut.{put_mid}
use Rattle.tables.specs.Tests.{◌&◌, &_left, &_right, &_next, differs, true_false}
use Rattle.tables.specs.Loops.{every, every_all, every_true}
use Rattle.tables.specs.Parts.{part, length_part, part_at, put_part, put_before, put_after}
use Rattle.tables.specs.Zeros.{zeros, zeros_length, zeroed, zeroed_length, put_zeros}
use Rattle.answers.specs.Numbers.{Answer, accepted, answer_of}
use Rattle.answers.specs.declared.Refusal.{Refusal}
use Rattle.answers.specs.declared.Refusal.TheVariants as R
use Rattle.answers.specs.Order.{◌⨾◌, refuse_at, in_order}
use Rattle.answers.specs.OrderLaws.{refuse_at_on, refuse_at_off, in_order_start, in_order_next, in_order_stop, in_order_end, hand_on, go_on}
use Rattle.kernel.specs.declared.Step.{Step}
use Rattle.kernel.specs.declared.Phase.{Phase}
use Rattle.kernel.specs.declared.Phase.TheVariants.{Control, Sample}
use Rattle.kernel.specs.Steps.{step_at}
use Rattle.kernel.specs.Lists.{sizes, step_may_run}
use Rattle.classes.specs.Start.{index_length}
use Rattle.classes.specs.Index.{Fresh, Indexed, indexed_above}
use Rattle.checker.specs.declared.table.Terms.{Terms}
use Rattle.checker.specs.Walk.{Held, Listing, step_in_mask, output_only_last, moved_class, after_step, after_words, emptied, entered, walked, before_control, step_passes, words_pass, control_passes, sample_passes, stored_if_asked, nothing_missing, control_answer, walk_answer}
use Rattle.checker.specs.Table.{graph_from, listing_from, registers_at, output_at, states_at, delays_at, control_at, spills_at, table_end, held_of, table_after, Ready}
use Rattle.checker.specs.TableLaws.{table_after_lem, ready_after}

-- ---- one step

-- what does not depend on what is held
unfoldable pub may_pass : Terms → List ℕ → Phase → Bool → Step → Bool
may_pass p instructions phase last step =
    step_may_run (sizes p.parameters p.states p.delays p.kernel) instructions phase step & step_in_mask p.mask instructions step & output_only_last last step

-- its tests, one after the other
module _ (p : Terms) (instructions : List ℕ) (phase : Phase) (last : Bool) (step : Step) {a : Bool}
    (e : a ≡ step_may_run (sizes p.parameters p.states p.delays p.kernel) instructions phase step) where
  pub pass_run : not a ≡ true → false ≡ may_pass p instructions phase last step
  unfolding may_pass
  pass_run h = sym (&_left _ _ (sym e ∙ not-true a h))

  module _ (h : not a ≡ false) {b : Bool} (f : b ≡ step_in_mask p.mask instructions step) where
    pub pass_mask : not b ≡ true → false ≡ may_pass p instructions phase last step
    unfolding may_pass
    pass_mask k = sym (&_right _ _ (&_left _ _ (sym f ∙ not-true b k)))

    pub pass_last : {r : Bool} → not b ≡ false → r ≡ output_only_last last step → r ≡ may_pass p instructions phase last step
    unfolding may_pass
    pass_last k q = q ∙ sym (&_next _ _ (sym e ∙ not-false a h) ∙ &_next _ _ (sym f ∙ not-false b k))

-- a fourth test behind three
four_stop : (a b c d : Bool) → (a & b & c) ≡ false → (a & b & c & d) ≡ false
unfolding ◌&◌
four_stop true true true d e = absurd (let z : ◌≡◌ {A = ℕ} 0 1 = cc in omega arith)
four_stop true true false d e = refl
four_stop true false c d e = refl
four_stop false b c d e = refl

four_next : (a b c d : Bool) → (a & b & c) ≡ true → (a & b & c & d) ≡ d
unfolding ◌&◌
four_next true true true d e = refl
four_next true true false d e = absurd (let z : ◌≡◌ {A = ℕ} 0 1 = cc in omega arith)
four_next true false c d e = absurd (let z : ◌≡◌ {A = ℕ} 0 1 = cc in omega arith)
four_next false b c d e = absurd (let z : ◌≡◌ {A = ℕ} 0 1 = cc in omega arith)

-- what a step leaves: r tells if it passes, and where it does the table holds what it moved
pub record Taken (p : Terms) (nodes updates stores steps instructions : List ℕ) (phase : Phase) (last : Bool) (at : ℕ) (t t' : List ℕ) (r : Bool) : Type 0 where
  pub passes : r ≡ words_pass (listing_from p nodes updates stores steps instructions) phase last (held_of p t) (step_at steps at)
  pub moves : r ≡ true → held_of p t' ≡ after_words (listing_from p nodes updates stores steps instructions) (held_of p t) (step_at steps at)
  pub ready : Ready p nodes updates stores instructions t'

module _ (p : Terms) (nodes updates stores steps instructions : List ℕ) (phase : Phase) (last : Bool) (at : ℕ) (t : List ℕ)
    (ready : Ready p nodes updates stores instructions t) {words : Option Step} (w : words ≡ step_at steps at) where
  abbrev L : Listing
  L = listing_from p nodes updates stores steps instructions

  none : false ≡ words_pass L phase last (held_of p t) (step_at steps at) → Taken p nodes updates stores steps instructions phase last at t t false
  none e = record { passes = e; moves = λ z. absurd (let y : ◌≡◌ {A = ℕ} 0 1 = cc in omega arith); ready = ready }

  pub taken_malformed : words ≡ None → Taken p nodes updates stores steps instructions phase last at t t false
  taken_malformed e = none (rw (← w, e))

  module _ (step : Step) (e : words ≡ Some step) {may : Bool} (m : may ≡ may_pass p instructions phase last step) where
    formed : step_at steps at ≡ Some step
    formed = sym w ∙ e

    abbrev moving : ℕ
    moving = moved_class (graph_from p nodes updates stores) instructions (held_of p t) step

    stopped : may ≡ false → step_passes L phase last (held_of p t) step ≡ false
    unfolding step_passes may_pass
    stopped h = rw (ready.states, ready.delays) (four_stop _ _ _ _ (sym m ∙ h))

    decided : may ≡ true → step_passes L phase last (held_of p t) step ≡ not (eqb moving 0)
    unfolding step_passes may_pass
    decided h = rw (ready.states, ready.delays) (four_next _ _ _ _ (sym m ∙ h))

    pub taken_barred : not may ≡ true → Taken p nodes updates stores steps instructions phase last at t t false
    taken_barred h = none (rw formed (sym (stopped (not-true may h))))

    module _ (h : not may ≡ false) {class : ℕ} (f : class ≡ moving) where
      pub taken_empty : class ≡ 0 → Taken p nodes updates stores steps instructions phase last at t t false
      taken_empty z = none (rw formed (sym (decided (not-false may h) ∙ rw (eq-eqb moving 0 (sym f ∙ z)))))

      pub taken_moved : (t' : List ℕ) → (class ≡ 0 → ⊥) → t' ≡ table_after p instructions t step class
          → Taken p nodes updates stores steps instructions phase last at t t' true
      unfolding after_step
      taken_moved t' n q =
          record {
            passes = rw formed (sym (decided (not-false may h) ∙ differs moving 0 (λ z. n (f ∙ z))));
            moves = λ z. rw (formed, q, f) (table_after_lem p instructions t step moving ready.room);
            ready = rw q (ready_after p nodes updates stores instructions t ready step class);
          }

-- ---- the steps of a phase

-- step i of n is the last sample step
abbrev pub last_in : Phase → ℕ → ℕ → Bool
last_in Control n i = false
last_in Sample n i = eqb (suc i) n

unfoldable pub phase_answer : Listing → Phase → Held → ℕ → ℕ → ℕ → Answer Unit
phase_answer l phase h from n i = refuse_at 19 (from + i) (not (words_pass l phase (last_in phase n i) (walked l h from i) (step_at l.steps (from + i))))

pub record Walked (p : Terms) (nodes updates stores steps instructions : List ℕ) (phase : Phase) (from n : ℕ) (t t' : List ℕ) (v : Result Unit Refusal) : Type 0 where
  pub answers : answer_of v ≡ in_order (phase_answer (listing_from p nodes updates stores steps instructions) phase (held_of p t) from n) n
  pub holds : v ≡ Ok tt → held_of p t' ≡ walked (listing_from p nodes updates stores steps instructions) (held_of p t) from n
  pub ready : Ready p nodes updates stores instructions t'

-- before step i: all before it pass
pub record Walking (p : Terms) (nodes updates stores steps instructions : List ℕ) (phase : Phase) (from n : ℕ) (t t' : List ℕ) (i : ℕ) : Type 0 where
  pub within : i ≤ n
  pub holds : held_of p t' ≡ walked (listing_from p nodes updates stores steps instructions) (held_of p t) from i
  pub so_far : in_order (phase_answer (listing_from p nodes updates stores steps instructions) phase (held_of p t) from n) i ≡ accepted tt
  pub ready : Ready p nodes updates stores instructions t'

module _ (p : Terms) (nodes updates stores steps instructions : List ℕ) (phase : Phase) (from n : ℕ) (t : List ℕ) where
  pub walking_start : Ready p nodes updates stores instructions t → Walking p nodes updates stores steps instructions phase from n t t 0
  unfolding walked
  walking_start r = record { within = omega arith; holds = refl; so_far = in_order_start _; ready = r }

  module _ (t' : List ℕ) (i : ℕ) (w : Walking p nodes updates stores steps instructions phase from n t t' i) where
    pub walking_end : n ≤ i → Walked p nodes updates stores steps instructions phase from n t t' (Ok tt)
    walking_end h =
        let q : i ≡ n = omega (arith, w.within) in
        record {
          answers = sym (in_order_end _ i n w.within h w.so_far);
          holds = λ e. w.holds ∙ rw q;
          ready = w.ready;
        }

    module _ (h : i < n) {last : Bool} (e : last ≡ last_in phase n i) (t'' : List ℕ) {r : Bool}
        (k : Taken p nodes updates stores steps instructions phase last (from + i) t' t'' r) where
      abbrev own : Answer Unit
      own = phase_answer (listing_from p nodes updates stores steps instructions) phase (held_of p t) from n i

      own_is : own ≡ refuse_at 19 (from + i) (not r)
      unfolding phase_answer
      own_is = rw (k.passes, e, w.holds)

      pub walking_stop : not r ≡ true → (position : ℕ) → position ≡ from + i
          → Walked p nodes updates stores steps instructions phase from n t t'' (Err (R.StepRefused position))
      walking_stop z position q =
          record {
            answers = sym (in_order_stop _ n i 19 (position ∷ []) h w.so_far (own_is ∙ (refuse_at_on 19 (from + i) z ∙ rw q)));
            holds = λ y. absurd (let x : ◌≡◌ {A = ℕ} 0 1 = cc in omega arith);
            ready = k.ready;
          }

      pub walking_next : not r ≡ false → Walking p nodes updates stores steps instructions phase from n t t'' (i + 1)
      unfolding walked
      walking_next z =
          record {
            within = omega arith;
            holds = k.moves (not-false r z) ∙ rw (add-one i, w.holds);
            so_far = in_order_next _ i w.so_far (own_is ∙ refuse_at_off 19 (from + i) z);
            ready = k.ready;
          }

-- ---- between the phases
unfoldable pub entered_table : Terms → List ℕ → List ℕ
entered_table p t = zeroed (spills_at p) p.kernel.spills (zeroed (registers_at p) 16 t)

pub entered_is : (p : Terms) (t t₁ t₂ : List ℕ) → t₁ ≡ zeroed (registers_at p) (registers_at p + 16 - registers_at p) t
    → t₂ ≡ zeroed (spills_at p) (spills_at p + p.kernel.spills - spills_at p) t₁ → t₂ ≡ entered_table p t
unfolding entered_table
entered_is p t t₁ t₂ e f =
    let a : registers_at p + 16 - registers_at p ≡ 16 = omega arith in
    let b : spills_at p + p.kernel.spills - spills_at p ≡ p.kernel.spills = omega arith in
    let g : t₁ ≡ zeroed (registers_at p) 16 t = e ∙ ap (λ (n : ℕ). zeroed (registers_at p) n t) a in
    f ∙ (ap (λ (n : ℕ). zeroed (spills_at p) n t₁) b ∙ ap (zeroed (spills_at p) p.kernel.spills) g)

-- a zeroed part, and the parts before and behind it
module _ (a k : ℕ) (l : List ℕ) (h : a + k ≤ length l) where
  zeroed_put : zeroed a k l ≡ put_mid a k l (zeros k)
  zeroed_put = sym (put_zeros a k l (zeros k) h (ap zeros (sym (length-take-le k (drop a l) (simp length-drop (omega arith))))))

  zeroed_part : part a k (zeroed a k l) ≡ zeros k
  zeroed_part = ap (part a k) zeroed_put ∙ put_part a k l (zeros k) h (zeros_length k)

  zeroed_before : (b n : ℕ) → b + n ≤ a → part b n (zeroed a k l) ≡ part b n l
  zeroed_before b n q = ap (part b n) zeroed_put ∙ put_before a k l (zeros k) h (zeros_length k) b n q

  zeroed_after : (b n : ℕ) → a + k ≤ b → part b n (zeroed a k l) ≡ part b n l
  zeroed_after b n q = ap (part b n) zeroed_put ∙ put_after a k l (zeros k) h (zeros_length k) b n q

indexed_sets : {count : ℕ} {nodes : List ℕ} (t : List ℕ) → Indexed count nodes t → (k : ℕ) (vs : List ℕ) → index_length count ≤ k → Indexed count nodes (sets t k vs)
indexed_sets t x k [] h = x
indexed_sets t x k (v ∷ vs) h = indexed_sets (set t k v) (indexed_above x k v h) (suc k) vs (omega arith)

indexed_zeroed : {count : ℕ} {nodes : List ℕ} (t : List ℕ) → Indexed count nodes t → (k n : ℕ) → index_length count ≤ k → Indexed count nodes (zeroed k n t)
unfolding zeroed
indexed_zeroed t x k n h = indexed_sets t x k (zeros n) h

module _ (p : Terms) (nodes updates stores steps instructions t : List ℕ) (ready : Ready p nodes updates stores instructions t) where
  pub entered_ready : Ready p nodes updates stores instructions (entered_table p t)
  unfolding entered_table
  entered_ready =
      record {
        indexed = indexed_zeroed (zeroed (registers_at p) 16 t) (indexed_zeroed t ready.indexed (registers_at p) 16 (omega arith)) (spills_at p) p.kernel.spills (omega arith);
        room = rw (zeroed_length (spills_at p) p.kernel.spills (zeroed (registers_at p) 16 t), zeroed_length (registers_at p) 16 t) ready.room;
        coded = ready.coded;
        states = ready.states;
        delays = ready.delays;
      }

  pub entered_held : held_of p (entered_table p t) ≡ entered (listing_from p nodes updates stores steps instructions) (held_of p t)
  unfolding entered_table entered held_of
  entered_held =
      let s = zeroed (registers_at p) 16 t in
      let h = ready.room in
      let a : registers_at p + 16 ≤ length t = omega arith in
      let b : spills_at p + p.kernel.spills ≤ length s = rw (zeroed_length (registers_at p) 16 t) (omega arith) in
      rw (
        zeroed_before (spills_at p) p.kernel.spills s b (registers_at p) 16 (omega arith),
        zeroed_part (registers_at p) 16 t a,
        zeroed_before (spills_at p) p.kernel.spills s b (control_at p) p.kernel.slots (omega arith),
        zeroed_after (registers_at p) 16 t a (control_at p) p.kernel.slots (omega arith),
        zeroed_part (spills_at p) p.kernel.spills s b,
        zeroed_before (spills_at p) p.kernel.spills s b (states_at p) p.states (omega arith),
        zeroed_after (registers_at p) 16 t a (states_at p) p.states (omega arith),
        zeroed_before (spills_at p) p.kernel.spills s b (delays_at p) p.delays (omega arith),
        zeroed_after (registers_at p) 16 t a (delays_at p) p.delays (omega arith),
        zeroed_before (spills_at p) p.kernel.spills s b (output_at p) 1 (omega arith),
        zeroed_after (registers_at p) 16 t a (output_at p) 1 (omega arith),
      )

pub ready_entered : (p : Terms) (nodes updates stores instructions t t₁ : List ℕ) → t₁ ≡ entered_table p t → Ready p nodes updates stores instructions t
    → Ready p nodes updates stores instructions t₁
ready_entered p nodes updates stores instructions t t₁ e r = rw e (entered_ready p nodes updates stores [] instructions t r)

-- ---- before the control phase

-- a table of zeros
zeros_of : (l : List ℕ) → ((i : ℕ) → get_or l i 0 ≡ 0) → l ≡ zeros (length l)
zeros_of [] h = refl
zeros_of (x ∷ l) h =
    let e : x ≡ 0 = h 0 in
    let f = zeros_of l (λ i. h (suc i)) in
    rw e (ap (λ (y : List ℕ). 0 ∷ y) f)

zero_part : (b n : ℕ) (t : List ℕ) → b + n ≤ length t → ((i : ℕ) → b ≤ i → get_or t i 0 ≡ 0) → part b n t ≡ zeros n
zero_part b n t h z = zeros_of (part b n t) word ∙ ap zeros (length_part b n t h)
  where
    word : (i : ℕ) → get_or (part b n t) i 0 ≡ 0
    word i = go (dec_lt i n)
      where
        go : Dec (i < n) → get_or (part b n t) i 0 ≡ 0
        go (yes q) = part_at b n t i q ∙ z (b + i) (omega arith)
        go (no q) = get_or-eq_default (part b n t) 0 {n = i} (rw (length_part b n t h) (omega arith))

-- what the walk over a whole list needs
pub record Fit (p : Terms) (nodes updates stores steps instructions t : List ℕ) : Type 0 where
  pub fresh : Fresh p.count nodes t
  pub room : table_end p ≤ length t
  pub coded : 2 * p.kernel.instructions ≤ length instructions
  pub states : length updates ≡ p.states
  pub delays : length stores ≡ p.delays
  pub listed : 2 * (p.kernel.control + p.kernel.sample) ≤ length steps

module _ (p : Terms) (nodes updates stores steps instructions t : List ℕ) (fit : Fit p nodes updates stores steps instructions t) (t' : List ℕ)
    (long : length t' ≡ length t) (x : Indexed p.count nodes t') where
  pub fit_ready : Ready p nodes updates stores instructions t'
  fit_ready = record { indexed = x; room = rw long fit.room; coded = fit.coded; states = fit.states; delays = fit.delays }

  pub fit_held : ((i : ℕ) → index_length p.count ≤ i → get_or t' i 0 ≡ 0) → held_of p t' ≡ emptied (listing_from p nodes updates stores steps instructions)
  unfolding held_of emptied
  fit_held z =
      let h = fit.room in
      rw (
        fit.states,
        fit.delays,
        zero_part (registers_at p) 16 t' (omega arith) (λ i q. z i (omega arith)),
        zero_part (control_at p) p.kernel.slots t' (omega arith) (λ i q. z i (omega arith)),
        zero_part (spills_at p) p.kernel.spills t' (omega arith) (λ i q. z i (omega arith)),
        zero_part (states_at p) p.states t' (omega arith) (λ i q. z i (omega arith)),
        zero_part (delays_at p) p.delays t' (omega arith) (λ i q. z i (omega arith)),
        zero_part (output_at p) 1 t' (omega arith) (λ i q. z i (omega arith)),
      )

-- ---- what is missing at the end

-- a state or delay with this update and this flag
unfoldable pub fulfilled : ℕ → ℕ → Bool
fulfilled update flag = eqb update 0 || not (eqb flag 0)

pub fulfilled_none : (update flag : ℕ) → update ≡ 0 → true ≡ fulfilled update flag
unfolding fulfilled
fulfilled_none update flag e = rw (eq-eqb update 0 e)

pub fulfilled_some : (update flag : ℕ) → (update ≡ 0 → ⊥) → not (eqb flag 0) ≡ fulfilled update flag
unfolding fulfilled
fulfilled_some update flag e = rw (ne_eqb update 0 e)

pub stored_is : (updates t : List ℕ) (b i : ℕ) → i < length updates → {r : Bool} → r ≡ fulfilled (get_or updates i 0) (get_or t (b + i) 0)
    → r ≡ stored_if_asked updates (part b (length updates) t) i
unfolding stored_if_asked fulfilled
stored_is updates t b i h e = e ∙ rw (part_at b (length updates) t i h)

-- a test that passes exactly where each is fulfilled
pub all_fulfilled : (updates flags : List ℕ) {b : Bool} → (IsTrue b ↔ ((i : ℕ) → i < length updates → fulfilled (get_or updates i 0) (get_or flags i 0) ≡ true))
    → b ≡ every (stored_if_asked updates flags) (length updates)
unfolding stored_if_asked fulfilled
all_fulfilled updates flags {b} h = go b (every p (length updates)) refl refl
  where
    p : ℕ → Bool
    p i = eqb (get_or updates i 0) 0 || not (eqb (get_or flags i 0) 0)

    go : (a d : Bool) → b ≡ a → every p (length updates) ≡ d → b ≡ every p (length updates)
    go true d e f = e ∙ sym (every_all p (length updates) (h.0 e))
    go false true e f = true_false (sym (h.1 (every_true p (length updates) f)) ∙ e)
    go false false e f = e ∙ sym f

unfoldable pub misses_nothing : List ℕ → List ℕ → Held → Bool
misses_nothing updates stores h =
    every (stored_if_asked updates h.states_stored) (length updates) & every (stored_if_asked stores h.delays_stored) (length stores) & not (eqb h.output_stored 0)

module _ (p : Terms) (updates stores t : List ℕ) (s : length updates ≡ p.states) (d : length stores ≡ p.delays) {a : Bool}
    (e : a ≡ every (stored_if_asked updates (part (states_at p) (length updates) t)) (length updates)) where
  states_are : a ≡ every (stored_if_asked updates (held_of p t).states_stored) (length updates)
  unfolding held_of
  states_are = e ∙ ap (λ (n : ℕ). every (stored_if_asked updates (part (states_at p) n t)) (length updates)) s

  pub misses_state : not a ≡ true → false ≡ misses_nothing updates stores (held_of p t)
  unfolding misses_nothing
  misses_state h = sym (&_left _ _ (sym states_are ∙ not-true a h))

  module _ (h : not a ≡ false) {b : Bool} (f : b ≡ every (stored_if_asked stores (part (delays_at p) (length stores) t)) (length stores)) where
    delays_are : b ≡ every (stored_if_asked stores (held_of p t).delays_stored) (length stores)
    unfolding held_of
    delays_are = f ∙ ap (λ (n : ℕ). every (stored_if_asked stores (part (delays_at p) n t)) (length stores)) d

    pub misses_delay : not b ≡ true → false ≡ misses_nothing updates stores (held_of p t)
    unfolding misses_nothing
    misses_delay k = sym (&_right _ _ (&_left _ _ (sym delays_are ∙ not-true b k)))

    pub misses_output : {o : ℕ} → not b ≡ false → o ≡ (held_of p t).output_stored → not (eqb o 0) ≡ misses_nothing updates stores (held_of p t)
    unfolding misses_nothing
    misses_output k q =
        ap (λ (y : ℕ). not (eqb y 0)) q
        ∙ sym (&_next _ _ (sym states_are ∙ not-false a h) ∙ &_next _ _ (sym delays_are ∙ not-false b k))

-- ---- the phases one after the other

-- the answer from the sample phase on, where h is held after the control phase
unfoldable pub sample_from : Listing → Held → Answer Unit
sample_from l h =
    in_order (phase_answer l Sample (entered l h) l.kernel.control l.kernel.sample) l.kernel.sample
    ⨾ refuse_at 19 (l.kernel.control + l.kernel.sample) (not (nothing_missing l (walked l (entered l h) l.kernel.control l.kernel.sample)))

-- answers that agree below n, in order
pub in_order_same : (f g : ℕ → Answer Unit) (n : ℕ) → ((i : ℕ) → f i ≡ g i) → in_order f n ≡ in_order g n
unfolding in_order
in_order_same f g zero h = refl
in_order_same f g (suc n) h = let e = in_order_same f g n h in rw (e, h n)

control_is : (l : Listing) (i : ℕ) → phase_answer l Control (emptied l) 0 l.kernel.control i ≡ control_answer l i
unfolding phase_answer control_passes
control_is l i = rw (zero-add i)

walk_is : (l : Listing) → (in_order (phase_answer l Control (emptied l) 0 l.kernel.control) l.kernel.control ⨾ sample_from l (before_control l l.kernel.control)) ≡ walk_answer l
unfolding walk_answer sample_from phase_answer sample_passes
walk_is l = rw (in_order_same (phase_answer l Control (emptied l) 0 l.kernel.control) (control_answer l) l.kernel.control (control_is l))

module _ (p : Terms) (nodes updates stores steps instructions : List ℕ) where
  abbrev M : Listing
  M = listing_from p nodes updates stores steps instructions

  -- the sample phase
  module _ (t t₁ t₂ : List ℕ) (v : Result Unit Refusal) (ready : Ready p nodes updates stores instructions t) (e : t₁ ≡ entered_table p t)
      (w : Walked p nodes updates stores steps instructions Sample p.kernel.control p.kernel.sample t₁ t₂ v) where
    at_entry : held_of p t₁ ≡ entered M (held_of p t)
    at_entry = ap (held_of p) e ∙ entered_held p nodes updates stores steps instructions t ready

    steps_answer : answer_of v ≡ in_order (phase_answer M Sample (entered M (held_of p t)) p.kernel.control p.kernel.sample) p.kernel.sample
    steps_answer = w.answers ∙ rw at_entry

    pub sample_stop : (r : Result Unit Refusal) {x : Refusal} → v ≡ Err x → IsErrAnd r (λ y. y ≡ x) → answer_of r ≡ sample_from M (held_of p t)
    unfolding sample_from
    sample_stop r f h = hand_on r _ steps_answer f h

    module _ (f : v ≡ Ok tt) {b : Bool} (m : b ≡ misses_nothing updates stores (held_of p t₂)) where
      end_is : b ≡ nothing_missing M (walked M (entered M (held_of p t)) p.kernel.control p.kernel.sample)
      unfolding misses_nothing nothing_missing
      end_is = m ∙ rw (w.holds f, at_entry)

      sample_end : (a : Answer Unit) → a ≡ refuse_at 19 (p.kernel.control + p.kernel.sample) (not b) → a ≡ sample_from M (held_of p t)
      unfolding sample_from
      sample_end a q = go_on _ steps_answer f (q ∙ ap (λ (y : Bool). refuse_at 19 (p.kernel.control + p.kernel.sample) (not y)) end_is)

      pub sample_missing : (position : ℕ) → not b ≡ true → position ≡ p.kernel.control + p.kernel.sample
          → answer_of {A = Unit} (Err (R.StepRefused position)) ≡ sample_from M (held_of p t)
      sample_missing position h q = sample_end _ (rw q (sym (refuse_at_on 19 _ h)))

      pub sample_done : not b ≡ false → answer_of {A = Unit} (Ok tt) ≡ sample_from M (held_of p t)
      sample_done h = sample_end _ (sym (refuse_at_off 19 _ h))

  -- the control phase
  module _ (t₁ t₂ : List ℕ) (v : Result Unit Refusal) (z : held_of p t₁ ≡ emptied M)
      (w : Walked p nodes updates stores steps instructions Control 0 p.kernel.control t₁ t₂ v) where
    control_answer_lem : answer_of v ≡ in_order (phase_answer M Control (emptied M) 0 p.kernel.control) p.kernel.control
    control_answer_lem = w.answers ∙ rw z

    pub list_stop : (r : Result Unit Refusal) {x : Refusal} → v ≡ Err x → IsErrAnd r (λ y. y ≡ x) → answer_of r ≡ walk_answer M
    list_stop r f h = hand_on r _ control_answer_lem f h ∙ walk_is M

    pub list_on : v ≡ Ok tt → (a : Answer Unit) → a ≡ sample_from M (held_of p t₂) → a ≡ walk_answer M
    list_on f a q = go_on _ control_answer_lem f (q ∙ ap (sample_from M) (w.holds f ∙ rw z)) ∙ walk_is M
