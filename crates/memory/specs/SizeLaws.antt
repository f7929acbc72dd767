-- What a valid block and sizes that fit give: each test of answer 16 as a fact with a name, and that the delay lines fit. Assumes nothing.
use Rattle.std.specs.Prelude.{◌≡◌, refl, Bool, true, false, ◌||◌, List, ℕ, zero, suc, ◌≤◌, ◌<◌, ◌+◌, ◌*◌, length, get_or, eqb, ltb, IsTrue, ◌↔◌}
use Rattle.std.proofs.Common.{sym, ◌∙◌, arith, lt-ltb, ltb-true, eqb-true, ne_eqb}
use Rattle.tables.specs.Loops.{sum, sum_next, sum_le, every, every_true, every_all}
use Rattle.tables.specs.Tests.{&_both, true_false}
use Rattle.block.specs.Block.{Block, parameter_count, state_count, delay_count, delay_length}
use Rattle.block.specs.Limits.{most_delay_samples}
use Rattle.block.specs.Valid.{Valid}
use Rattle.expand.specs.Graph.{graph_of}
use Rattle.memory.specs.Lines.{Memories, line_base}
use Rattle.memory.specs.Sizes.{values_fit, area_length, memories_fit, cursor_below, cursors_below, signals_fit, run_fits}
use Rattle.memory.specs.Fit.{line_lengths, Small, Fit}
use Rattle.memory.specs.LineLaws.{lengths_count, length_at, base_sum}

-- a test that passes exactly where each index does is `every`
pub every_is : (p : ℕ → Bool) (n : ℕ) {b : Bool} → (IsTrue b ↔ ((i : ℕ) → i < n → p i ≡ true)) → b ≡ every p n
every_is p n {b} h = go b (every p n) refl refl
  where
    go : (a d : Bool) → b ≡ a → every p n ≡ d → b ≡ every p n
    go true d e f = e ∙ sym (every_all p n (h.0 e))
    go false true e f = true_false (sym (h.1 (every_true p n f)) ∙ e)
    go false false e f = e ∙ sym f

-- a test that passes exactly where each cursor is below its line's length
pub all_below : (b : Block) (cursors : List ℕ) {t : Bool} → length cursors ≡ delay_count b
    → (IsTrue t ↔ ((i : ℕ) → i < length cursors → get_or cursors i 0 < get_or b.delays (2 * i) 0)) → t ≡ cursors_below b cursors
unfolding cursors_below cursor_below
all_below b cursors e h =
    let k = rw e at h in
    every_is (λ i. ltb (get_or cursors i 0) (delay_length b.delays i)) (delay_count b)
    (λ t i q. lt-ltb _ _ (k.0 t i q), λ f. k.1 (λ i q. ltb-true _ _ (f i q)))

-- a running total that is over a length already: the whole sum is another
pub area_stop : (f : ℕ → ℕ) (i n total size : ℕ) → i < n → total ≡ sum f i → size < total + f i → eqb size (sum f n) ≡ false
area_stop f i n total size h e q = ne_eqb size (sum f n) (λ z. omega (arith, sum_next f i, sum_le f (i + 1) n (omega arith)))

-- states, cursors and area of the block's size
pub record Held (b : Block) (m : Memories) : Type 0 where
  pub states : length m.states ≡ state_count b
  pub cursors : length m.cursors ≡ delay_count b
  pub area : length m.area ≡ area_length b

pub held : (b : Block) (m : Memories) → memories_fit b m ≡ true → Held b m
unfolding memories_fit
held b m e =
    let p = &_both (eqb (length m.states) (state_count b)) _ e in
    let q = &_both (eqb (length m.cursors) (delay_count b)) _ p.1 in
    record { states = eqb-true _ _ p.0; cursors = eqb-true _ _ q.0; area = eqb-true _ _ q.1 }

-- all that a run needs of its tables
pub record Fitting (b : Block) (values : List ℕ) (m : Memories) (input output network : List ℕ) : Type 0 where
  pub outputs : length output ≡ length input
  pub networks : (b.header.network ≡ 0 → ⊥) → length network ≡ length input
  pub parameters : length values ≡ parameter_count b
  pub held : Held b m
  pub below : (i : ℕ) → i < delay_count b → get_or m.cursors i 0 < delay_length b.delays i

or_second : (s t : Bool) → (s || t) ≡ true → s ≡ false → t ≡ true
or_second true t e h = true_false h
or_second false t e h = e

pub fitting : (b : Block) (values : List ℕ) (m : Memories) (input output network : List ℕ) → run_fits b values m input output network ≡ true
    → Fitting b values m input output network
unfolding run_fits signals_fit cursors_below cursor_below
fitting b values m input output network e =
    let p = &_both (signals_fit b input output network) _ e in
    let q = &_both (values_fit b values) _ p.1 in
    let r = &_both (memories_fit b m) _ q.1 in
    let s = &_both (eqb (length output) (length input)) _ p.0 in
    record {
      outputs = eqb-true _ _ s.0;
      networks = λ h. eqb-true _ _ (or_second (eqb b.header.network 0) _ s.1 (ne_eqb _ _ h));
      parameters = eqb-true _ _ q.0;
      held = held b m r.0;
      below = λ i h. ltb-true _ _ (every_true (cursor_below b m.cursors) (delay_count b) r.1 i h);
    }

-- the last running total is the whole sum
last_total : (f : ℕ → ℕ) (n most : ℕ) → ((i : ℕ) → i < n → sum f (suc i) ≤ most) → sum f n ≤ most
unfolding sum
last_total f zero most h = omega arith
last_total f (suc n) most h = h n (omega arith)

-- a valid block's delay table is within the limits
pub small : (b : Block) → Valid b → Small b.delays
small b v = record { count = v.delay_limit; total = last_total (delay_length b.delays) (delay_count b) most_delay_samples v.delay_totals }

-- THE LINES FIT: of a valid block, where 16 is not given
pub fit : (b : Block) (m : Memories) → Valid b → Held b m → ((i : ℕ) → i < delay_count b → get_or m.cursors i 0 < delay_length b.delays i)
    → Fit (line_lengths b.delays) m.area m.cursors
fit b m v h below =
    let s = small b v in
    let n : length (line_lengths b.delays) ≡ delay_count b = lengths_count b.delays in
    let t : line_base (line_lengths b.delays) (delay_count b) ≡ area_length b = base_sum b.delays (delay_count b) (omega arith) in
    let a = s.total in let c = s.count in let e = h.area in
    record {
      count = h.cursors ∙ sym n;
      few = omega arith;
      total = rw n (t ∙ sym e);
      small = omega arith;
      below = λ i q. rw (length_at b.delays i (omega arith)) (below i (omega arith));
    }

-- the lengths of the expanded block are those of the block's delay table
pub graph_lengths : (b : Block) → (graph_of b).delay_lengths ≡ line_lengths b.delays
unfolding graph_of
graph_lengths b = refl
