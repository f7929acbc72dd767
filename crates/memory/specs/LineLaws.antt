-- Laws of delay lines: a line lies in the area, a store keeps `Fit` and the tables' lengths, and a store in the lent part is a store in the area. Assumes
-- nothing.
use Rattle.std.specs.Prelude.{◌≡◌, refl, Bool, true, false, List, ℕ, ◌+◌, ◌-◌, ◌*◌, ◌/◌, ◌%◌, ◌≤◌, ◌<◌, length, drop, eqb}
use Rattle.std.proofs.Common.{sym, ◌∙◌, mod-lt, arith, length-set, length-drop, get_or-set_same, get_or-set_other, length-take-le, eqb-true}
use Rattle.std.proofs.Math.Path.{ap}
use Rattle.std.proofs.Math.ListN.{get_or, set, get_or-append}
use Rattle.std.proofs.lemmas.Bool.{eqb-false}
use borrow.Rule.Slice.PartMut.{put_mid, mid_of}
use Rattle.tables.specs.Loops.{sum, sum_next, sum_le, sum_same}
use Rattle.tables.specs.Parts.{put_set}
use Rattle.tables.specs.Zeros.{zeros, zeros_length}
use Rattle.block.specs.Block.{delay_length}
use Rattle.block.specs.Limits.{most_delays, most_delay_samples}
use Rattle.tables.specs.Lists.{list_of, list_length, list_at, filled, filled_next, filled_zeros}
use Rattle.memory.specs.Lines.{Memories, memories, line_length, line_base, read_delay, store_delay, store_state}
use Rattle.memory.specs.Fit.{line_lengths, line_bases, Small, Fit, Reach, Stored, stored}

-- ---- the delay table's lengths and bases
pub lengths_count : (delays : List ℕ) → length (line_lengths delays) ≡ length delays / 2
lengths_count delays = list_length (delay_length delays) (length delays / 2)

pub length_at : (delays : List ℕ) (i : ℕ) → i < length delays / 2 → line_length (line_lengths delays) i ≡ delay_length delays i
length_at delays i h = list_at (delay_length delays) (length delays / 2) i h

-- a base is the sum of the delay table's lengths before it
pub base_sum : (delays : List ℕ) (i : ℕ) → i ≤ length delays / 2 → line_base (line_lengths delays) i ≡ sum (delay_length delays) i
unfolding line_base
base_sum delays i h = sum_same (line_length (line_lengths delays)) (delay_length delays) i (λ j q. length_at delays j (omega arith))

pub base_at : (delays : List ℕ) (i : ℕ) → i < length delays / 2 → get_or (line_bases delays) i 0 ≡ line_base (line_lengths delays) i
unfolding line_bases
base_at delays i h =
    let base = line_base (line_lengths delays) in
    let count = length delays / 2 in
    get_or-append (list_of base count) (zeros (most_delays - count)) 0 i (rw (list_length base count) h) ∙ list_at base count i h

-- ---- the loop that fills the bases
module _ (delays : List ℕ) (s : Small delays) (i : ℕ) (h : i < length delays / 2) where
  -- its sums stay small
  pub bases_room : sum (delay_length delays) i + delay_length delays i ≤ most_delay_samples
  bases_room =
      let t = s.total in
      let e = sum_next (delay_length delays) i in
      omega (arith, sum_le (delay_length delays) (i + 1) (length delays / 2) (omega arith))

  -- its turn
  pub bases_next : (base : ℕ) (m : List ℕ) → base ≡ sum (delay_length delays) i → m ≡ filled (line_base (line_lengths delays)) i (zeros most_delays)
      → set m i base ≡ filled (line_base (line_lengths delays)) (i + 1) (zeros most_delays)
  bases_next base m eb em =
      let n = s.count in
      let e : base ≡ line_base (line_lengths delays) i = eb ∙ sym (base_sum delays i (omega arith)) in
      rw e (filled_next (line_base (line_lengths delays)) i (zeros most_delays) m (omega (arith, zeros_length most_delays)) em)

-- its end
pub bases_end : (delays m : List ℕ) (i : ℕ) → i ≡ length delays / 2 → m ≡ filled (line_base (line_lengths delays)) i (zeros most_delays) → m ≡ line_bases delays
unfolding line_bases
bases_end delays m i e em = em ∙ (rw e (filled_zeros (line_base (line_lengths delays)) (length delays / 2) most_delays))

-- ---- lines in the area
pub base_next : (lengths : List ℕ) (i : ℕ) → line_base lengths (i + 1) ≡ line_base lengths i + line_length lengths i
unfolding line_base
base_next lengths i = sum_next (line_length lengths) i

pub base_le : (lengths : List ℕ) (i n : ℕ) → i ≤ n → line_base lengths i ≤ line_base lengths n
unfolding line_base
base_le lengths i n h = sum_le (line_length lengths) i n h

module _ {lengths area cursors : List ℕ} (f : Fit lengths area cursors) (i : ℕ) (h : i < length cursors) where
  -- a line lies in the area
  pub line_in : line_base lengths i + line_length lengths i ≤ length area
  line_in =
      let t = f.total in let n = f.count in
      let e = base_next lengths i in
      omega (arith, base_le lengths (i + 1) (length lengths) (omega arith))

  -- the cursor in its line
  pub cursor_in : get_or cursors i 0 < line_length lengths i
  cursor_in = let n = f.count in f.below i (omega arith)

  -- the cell at the cursor in the area
  pub cell_in : line_base lengths i + get_or cursors i 0 < length area
  cell_in = let l = line_in in let b = cursor_in in omega arith

-- ---- a store keeps the tables' lengths, and that the lines fit
pub states_kept : (lengths : List ℕ) (m : Memories) (i v : ℕ) → (store_delay lengths m i v).states ≡ m.states
unfolding store_delay
states_kept lengths m i v = refl

pub area_kept : (lengths : List ℕ) (m : Memories) (i v : ℕ) → length (store_delay lengths m i v).area ≡ length m.area
unfolding store_delay
area_kept lengths m i v = simp length-set

pub cursors_kept : (lengths : List ℕ) (m : Memories) (i v : ℕ) → length (store_delay lengths m i v).cursors ≡ length m.cursors
unfolding store_delay
cursors_kept lengths m i v = simp length-set

pub fit_store : (lengths : List ℕ) (m : Memories) (i v : ℕ) → Fit lengths m.area m.cursors → i < length m.cursors
    → Fit lengths (store_delay lengths m i v).area (store_delay lengths m i v).cursors
unfolding store_delay
fit_store lengths m i v f h =
    record {
      count = simp length-set f.count;
      few = f.few;
      total = simp length-set f.total;
      small = simp length-set f.small;
      below = λ k q. go k q (eqb k i) refl;
    }
  where
    next : ℕ
    next = (get_or m.cursors i 0 + 1) % line_length lengths i

    go : (k : ℕ) → k < length lengths → (b : Bool) → eqb k i ≡ b → get_or (set m.cursors i next) k 0 < line_length lengths k
    go k q true p =
        let e = eqb-true k i p in
        let z = cursor_in f i h in
        rw e (rw (get_or-set_same m.cursors i next 0 h) (mod-lt (get_or m.cursors i 0 + 1) (omega arith)))
    go k q false p = rw (get_or-set_other m.cursors i k next 0 (eqb-false k i p)) (f.below k q)

pub state_kept : (m : Memories) (i v : ℕ) → length (store_state m i v).states ≡ length m.states
unfolding store_state
state_kept m i v = simp length-set

pub fit_state : (lengths : List ℕ) (m : Memories) (i v : ℕ) → Fit lengths m.area m.cursors → Fit lengths (store_state m i v).area (store_state m i v).cursors
unfolding store_state
fit_state lengths m i v f = f

-- a remainder by a line's length is a word
pub rem_word : (n : ℕ) {m : ℕ} → 0 < m → m ≤ most_delay_samples → n % m < 4294967296
rem_word n h l = let q = mod-lt n h in omega arith

-- ---- what is within reach at line i, in the words of the tables
pub record Reached (delays bases area cursors : List ℕ) (i : ℕ) : Type 0 where
  pub base : get_or bases i 0 ≡ line_base (line_lengths delays) i
  pub cells : delay_length delays i ≡ line_length (line_lengths delays) i
  pub entry : 2 * i < length delays
  pub line : get_or bases i 0 + delay_length delays i ≤ length area
  pub cell : get_or bases i 0 + get_or cursors i 0 < length area
  pub small : length area ≤ most_delay_samples

pub reached : {delays bases area cursors : List ℕ} {i : ℕ} → Reach delays bases area cursors i → Reached delays bases area cursors i
reached {delays} {bases} {area} {cursors} {i} r =
    let f = r.fit in let h = r.inside in
    let n = f.count in let e = lengths_count delays in
    let q : i < length delays / 2 = omega arith in
    let l = line_in f i h in let k = cell_in f i h in
    let b : get_or bases i 0 ≡ line_base (line_lengths delays) i = rw r.based (base_at delays i q) in
    let d : delay_length delays i ≡ line_length (line_lengths delays) i = sym (length_at delays i q) in
    record { base = b; cells = d; entry = omega arith; line = omega arith; cell = omega arith; small = f.small }

-- the cell at the cursor, in the words of the tables
pub cell_read : {delays bases area cursors : List ℕ} {i : ℕ} → Reach delays bases area cursors i → (states : List ℕ)
    → get_or area (get_or bases i 0 + get_or cursors i 0) 0 ≡ read_delay (line_lengths delays) (memories states area cursors) i
unfolding read_delay
cell_read r states = let q = reached r in rw q.base

-- ---- the line that is lent on: the part of the area from its base to base + its length
module _ {delays bases area cursors : List ℕ} {i : ℕ} (r : Reach delays bases area cursors i) where
  abbrev pub base : ℕ
  base = get_or bases i 0

  abbrev pub size : ℕ
  size = delay_length delays i

  abbrev pub cursor : ℕ
  cursor = get_or cursors i 0

  -- it is as long as the line
  pub part_length : length (mid_of base (base + size - base) area) ≡ size
  part_length =
      let q = reached r in
      let e : base + size - base ≡ size = omega arith in
      rw e (length-take-le size (drop base area) (simp length-drop (omega arith)))

  -- what the store in it requires
  pub part_room : (cursor < length (mid_of base (base + size - base) area)) × (length (mid_of base (base + size - base) area) ≤ most_delay_samples)
  part_room =
      let q = reached r in let c = cursor_in r.fit i r.inside in
      let e = part_length in
      (omega arith, omega arith)

  -- the store in it is the line's store
  pub part_stored : {line : List ℕ} {next : ℕ} (states : List ℕ) (v : ℕ)
      → stored line next ≡ stored (set (mid_of base (base + size - base) area) cursor v) ((cursor + 1) % length (mid_of base (base + size - base) area))
      → memories states (put_mid base (base + size - base) area line) (set cursors i next) ≡ store_delay (line_lengths delays) (memories states area cursors) i v
  unfolding store_delay
  part_stored {line} {next} states v e =
      let q = reached r in let b = cursor_in r.fit i r.inside in
      let k = base + size - base in
      let e₁ : put_mid base k area line ≡ set area (base + cursor) v = put_set base k cursor v area line (omega arith) (omega arith) (ap (λ (x : Stored). x.line) e) in
      let e₂ : next ≡ (cursor + 1) % size = ap (λ (x : Stored). x.next) e ∙ ap (λ (n : ℕ). (cursor + 1) % n) part_length in
      rw (e₁, e₂, q.cells, q.base)
