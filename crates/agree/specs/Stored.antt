-- Memories that are stored to in any order: which of them a flag marks as stored, and what is read of the others. Said once of any memory, then of states
-- and of delay lines. Assumes nothing.
use Rattle.std.specs.Prelude.{◌≡◌, ◌⊎◌, Bool, List, [], length, get_or, set}
use Rattle.std.proofs.Math.Path.{refl}
use Rattle.std.proofs.Common.{sym, ap, ◌∙◌, subst, inl, inr, eq-or-lt_of_le, le_of_suc-le-suc, not-suc-le-zero, arith, length-set, get_or-set_same, get_or-set_other}
use Rattle.std.proofs.Math.Bool.{true, false, cond}
use Prim.Native.Nat.{ℕ, zero, suc, ◌+◌, ◌-◌, ◌%◌, ◌≤◌, ◌<◌}
use Rattle.std.proofs.Math.Decide.{dec_lt}
use Rattle.std.proofs.lemmas.List.{set_comm}
use Rattle.std.proofs.Math.Dec.{eqb}
use borrow.Author.Tests.{eqb-true, eqb-false, eq-eqb, ne_eqb}
use Rattle.tables.specs.Tests.{cond_pred}
use Rattle.tables.specs.Stores.{inside}
use Rattle.tables.specs.Zeros.{zeros, zeros_length, zeros_at}
use Rattle.memory.specs.Lines.{Memories, memories, line_length, line_base, cell_place, read_delay, store_delay}
use Rattle.memory.specs.Fit.{Fit}
use Rattle.memory.specs.LineLaws.{base_next, base_le, cursor_in, fit_store}
use Rattle.graph_run.specs.Sample.{update_state, update_states, update_delay, update_delays}

-- a memory with places to store to
module _ {M : Type 0} (store : M → ℕ → ℕ → M) where
  -- the memory m with the value of each place below n stored that a flag marks
  unfoldable pub stored_to : (ℕ → ℕ) → List ℕ → M → ℕ → M
  stored_to value flags m zero = m
  stored_to value flags m (suc n) =
      let before = stored_to value flags m n in
      cond (eqb (get_or flags n 0) 0) before (store before n (value n))

  -- flags that mark the same places, and values that are the same where they do
  pub stored_same : (value other : ℕ → ℕ) (flags marks : List ℕ) (m : M) (n : ℕ) → ((i : ℕ) → i < n → eqb (get_or flags i 0) 0 ≡ eqb (get_or marks i 0) 0)
      → ((i : ℕ) → i < n → eqb (get_or marks i 0) 0 ≡ false → value i ≡ other i) → stored_to value flags m n ≡ stored_to other marks m n
  unfolding stored_to
  stored_same value other flags marks m zero h e = refl
  stored_same value other flags marks m (suc n) h e =
      rw (h n (omega arith), stored_same value other flags marks m n (λ i l. h i (omega arith)) (λ i l. e i (omega arith)))
      (go (eqb (get_or marks n 0) 0) refl)
    where
      go : (b : Bool) → eqb (get_or marks n 0) 0 ≡ b
          → cond b (stored_to other marks m n) (store (stored_to other marks m n) n (value n)) ≡ cond b (stored_to other marks m n) (store (stored_to other marks m n) n (other n))
      go true p = refl
      go false p = rw (e n (omega arith) p)

  -- no flag: nothing is stored
  pub stored_none : (value : ℕ → ℕ) (flags : List ℕ) (m : M) (n : ℕ) → ((i : ℕ) → get_or flags i 0 ≡ 0) → stored_to value flags m n ≡ m
  unfolding stored_to
  stored_none value flags m zero h = refl
  stored_none value flags m (suc n) h = rw (h n) (stored_none value flags m n h)

  -- with what is kept of it, how a place is read, and how many places there are: stores to two places are kept, come in any order, and are read apart
  pub record Apart (Kept : M → Type 0) (read : M → ℕ → ℕ) (size : ℕ) : Type 0 where
    pub kept : (m : M) (i v : ℕ) → i < size → Kept m → Kept (store m i v)
    pub order : (m : M) (i k v w : ℕ) → i < size → k < size → (i ≡ k → ⊥) → Kept m → store (store m i v) k w ≡ store (store m k w) i v
    pub other : (m : M) (i k v : ℕ) → i < size → k < size → (k ≡ i → ⊥) → Kept m → read (store m i v) k ≡ read m k

  module _ {Kept : M → Type 0} {read : M → ℕ → ℕ} {size : ℕ} (a : Apart Kept read size) (value : ℕ → ℕ) where
    -- what is kept of the memory is kept by all stores
    pub stored_kept : (flags : List ℕ) (m : M) (n : ℕ) → n ≤ size → Kept m → Kept (stored_to value flags m n)
    unfolding stored_to
    stored_kept flags m zero h k = k
    stored_kept flags m (suc n) h k =
        let before = stored_kept flags m n (omega arith) k in
        cond_pred Kept (eqb (get_or flags n 0) 0) (λ _. before) (λ _. a.kept _ n (value n) h before)

    -- a place that is not marked reads as at the start
    pub stored_read : (flags : List ℕ) (m : M) (n i : ℕ) → n ≤ size → i < size → get_or flags i 0 ≡ 0 → Kept m → read (stored_to value flags m n) i ≡ read m i
    unfolding stored_to
    stored_read flags m zero i h l z k = refl
    stored_read flags m (suc n) i h l z k =
        let before = stored_read flags m n i (omega arith) l z k in
        go (eqb (get_or flags n 0) 0) refl before
      where
        go : (b : Bool) → eqb (get_or flags n 0) 0 ≡ b → read (stored_to value flags m n) i ≡ read m i
            → read (cond b (stored_to value flags m n) (store (stored_to value flags m n) n (value n))) i ≡ read m i
        go true p before = before
        go false p before = a.other _ n i (value n) h l (λ e. eqb-false (get_or flags n 0) 0 p (rw (← e) z)) (stored_kept flags m n (omega arith) k) ∙ before

    -- a store to a place that is not marked marks it
    pub stored_next : (flags : List ℕ) (m : M) (n i : ℕ) → n ≤ size → i < n → i < length flags → get_or flags i 0 ≡ 0 → Kept m
        → store (stored_to value flags m n) i (value i) ≡ stored_to value (set flags i 1) m n
    unfolding stored_to
    stored_next flags m zero i h l q z k = absurd (not-suc-le-zero l)
    stored_next flags m (suc n) i h l q z k = go (eq-or-lt_of_le (le_of_suc-le-suc l)) (stored_next flags m n i)
      where
        S : M
        S = stored_to value flags m n

        last : (b : Bool) → (i ≡ n → ⊥) → i < size → Kept S → store (cond b S (store S n (value n))) i (value i) ≡ cond b (store S i (value i)) (store (store S i (value i)) n (value n))
        last true d l p = refl
        last false d l p = sym (a.order S i n (value i) (value n) l h d p)

        go : (i ≡ n) ⊎ (i < n)
            → (n ≤ size → i < n → i < length flags → get_or flags i 0 ≡ 0 → Kept m → store (stored_to value flags m n) i (value i) ≡ stored_to value (set flags i 1) m n)
            → store (cond (eqb (get_or flags n 0) 0) S (store S n (value n))) i (value i)
            ≡ cond (eqb (get_or (set flags i 1) n 0) 0) (stored_to value (set flags i 1) m n) (store (stored_to value (set flags i 1) m n) n (value n))
        go (inl e) ih =
            let z' : get_or flags n 0 ≡ 0 = rw (← e) z in
            let w : get_or (set flags i 1) n 0 ≡ 1 = rw (← e) (get_or-set_same flags i 1 0 q) in
            let same : stored_to value (set flags i 1) m n ≡ stored_to value flags m n =
            stored_same value value (set flags i 1) flags m n (λ j r. ap (λ (y : ℕ). eqb y 0) (get_or-set_other flags i j 1 0 (λ f. omega arith))) (λ j r p. refl) in
            rw (z', w, same, e)
        go (inr r) ih =
            rw (get_or-set_other flags i n 1 0 (λ f. omega arith), ← ih (omega arith) r q z k)
            (last (eqb (get_or flags n 0) 0) (λ f. omega arith) (omega arith) (stored_kept flags m n (omega arith) k))

-- ---- what an update asks for: the value of its node
abbrev pub asked_value : List ℕ → List ℕ → ℕ → ℕ
asked_value updates values i = get_or values (get_or updates i 0 - 1) 0

-- some of the memories that have an update have been stored: those that the flags mark
pub record Written {M : Type 0} (store : M → ℕ → ℕ → M) (updates values : List ℕ) (start : M) (flags : List ℕ) (now : M) : Type 0 where
  pub stored : now ≡ stored_to store (asked_value updates values) flags start (length updates)
  pub long : length flags ≡ length updates
  pub marked : (i : ℕ) → get_or updates i 0 ≡ 0 → get_or flags i 0 ≡ 0

module _ {M : Type 0} (store : M → ℕ → ℕ → M) (updates values : List ℕ) (start : M) where
  -- none yet
  pub written_start : Written store updates values start (zeros (length updates)) start
  written_start =
      record {
        stored = sym (stored_none store (asked_value updates values) (zeros (length updates)) start (length updates) (zeros_at (length updates)));
        long = zeros_length (length updates);
        marked = λ i e. zeros_at (length updates) i;
      }

  -- all of them: what the graph stores
  pub written_end : (flags : List ℕ) (now : M) → Written store updates values start flags now
      → ((i : ℕ) → i < length updates → get_or flags i 0 ≡ 0 → get_or updates i 0 ≡ 0)
      → now ≡ stored_to store (asked_value updates values) updates start (length updates)
  written_end flags now w all =
      w.stored ∙ stored_same store _ _ flags updates start (length updates) (λ i l. go i l (eqb (get_or updates i 0) 0) refl) (λ i l e. refl)
    where
      go : (i : ℕ) → i < length updates → (b : Bool) → eqb (get_or updates i 0) 0 ≡ b → eqb (get_or flags i 0) 0 ≡ b
      go i l true p = eq-eqb _ _ (w.marked i (eqb-true _ _ p))
      go i l false p = ne_eqb _ _ (λ z. eqb-false (get_or updates i 0) 0 p (all i l z))

  module _ {Kept : M → Type 0} {read : M → ℕ → ℕ} {size : ℕ} (a : Apart store Kept read size) (few : length updates ≤ size) (kept : Kept start) where
    -- one that is not marked reads as at the start
    pub written_read : (flags : List ℕ) (now : M) (i : ℕ) → Written store updates values start flags now → i < length updates → get_or flags i 0 ≡ 0 → read now i ≡ read start i
    written_read flags now i w l z =
        ap (λ (m : M). read m i) w.stored ∙ stored_read store a (asked_value updates values) flags start (length updates) i few (omega arith) z kept

    -- what is kept of the memory is kept
    pub written_kept : (flags : List ℕ) (now : M) → Written store updates values start flags now → Kept now
    written_kept flags now w = subst Kept (sym w.stored) (stored_kept store a (asked_value updates values) flags start (length updates) few kept)

    -- one more: the value of the node that its update names
    pub written_next : (flags : List ℕ) (now : M) (i n v : ℕ) → Written store updates values start flags now → get_or updates i 0 ≡ suc n → get_or flags i 0 ≡ 0 → v ≡ get_or values n 0
        → Written store updates values start (set flags i 1) (store now i v)
    written_next flags now i n v w e z p =
        let l : i < length updates = inside updates i (omega arith) in
        let q = w.long in
        let named : v ≡ asked_value updates values i = p ∙ ap (λ (j : ℕ). get_or values j 0) (let f : n ≡ get_or updates i 0 - 1 = omega arith in f) in
        record {
          stored = rw (w.stored, named) (stored_next store a (asked_value updates values) flags start (length updates) i few l (omega arith) z kept);
          long = simp length-set q;
          marked = λ j f. get_or-set_other flags i j 1 0 (λ (d : j ≡ i). let y : get_or updates i 0 ≡ 0 = rw (← d) f in omega arith) ∙ w.marked j f;
        }

-- ---- states: a list of words
-- nothing has to be kept of it
abbrev pub NoMore : List ℕ → Type 0
NoMore states = Unit {0}

-- a state is read as it is
abbrev pub read_state : List ℕ → ℕ → ℕ
read_state states i = get_or states i 0

-- stores to two states
pub states_apart : (size : ℕ) → Apart set NoMore read_state size
states_apart size =
    record {
      kept = λ m i v l k. tt;
      order = λ m i k v w l r d u. set_comm m i k v w d;
      other = λ m i k v l r d u. get_or-set_other m i k v 0 d;
    }

-- the graph stores each state that has an update
pub states_stored : (updates values states : List ℕ) (n : ℕ)
    → update_states updates values states n ≡ stored_to set (asked_value updates values) updates states n
unfolding update_states update_state stored_to
states_stored updates values states zero = refl
states_stored updates values states (suc n) = rw (states_stored updates values states n)

-- ---- delay lines: the area and the cursors, without the states
abbrev pub lines_of : Memories → Memories
lines_of m = memories [] m.area m.cursors

-- the lines lie in the area and every cursor in its line
abbrev pub LinesFit : List ℕ → Memories → Type 0
LinesFit lengths m = Fit lengths m.area m.cursors

-- the cells at the cursors of two lines are two cells
places_differ : {lengths area cursors : List ℕ} → Fit lengths area cursors → (i k : ℕ) → i < k → k < length cursors
    → line_base lengths i + get_or cursors i 0 < line_base lengths k + get_or cursors k 0
places_differ {lengths} {area} {cursors} f i k h l =
    let c = cursor_in f i (omega arith) in
    let e = base_next lengths i in
    let b = base_le lengths (i + 1) k (omega arith) in
    omega arith

-- .. whichever comes first
places_apart : {lengths area cursors : List ℕ} → Fit lengths area cursors → (i k : ℕ) → (i ≡ k → ⊥) → i < length cursors → k < length cursors
    → line_base lengths i + get_or cursors i 0 ≡ line_base lengths k + get_or cursors k 0 → ⊥
places_apart f i k d h l e = go (dec_lt i k)
  where
    go : Dec (i < k) → ⊥
    go (yes q) = let p = places_differ f i k q l in omega arith
    go (no q) = let r : k < i = omega arith in let p = places_differ f k i r h in omega arith

-- stores to two delay lines: a store moves its own line's cursor alone and writes in its own line's part of the area
pub lines_apart : (lengths : List ℕ) → Apart (store_delay lengths) (LinesFit lengths) (read_delay lengths) (length lengths)
unfolding store_delay read_delay
lines_apart lengths =
    record {
      kept = λ m i v l f. let c = f.count in fit_store lengths m i v f (omega arith);
      order = order;
      other = λ m i k v l r d f. let c = f.count in
          rw (get_or-set_other m.cursors i k ((get_or m.cursors i 0 + 1) % line_length lengths i) 0 d)
          (get_or-set_other m.area (cell_place lengths m i) (cell_place lengths m k) v 0 (places_apart f k i d (omega arith) (omega arith)));
    }
  where
    order : (m : Memories) (i k v w : ℕ) → i < length lengths → k < length lengths → (i ≡ k → ⊥) → LinesFit lengths m
        → store_delay lengths (store_delay lengths m i v) k w ≡ store_delay lengths (store_delay lengths m k w) i v
    order m i k v w l r d f =
        let c = f.count in
        let next : ℕ → ℕ = λ j. (get_or m.cursors j 0 + 1) % line_length lengths j in
        let e₁ = get_or-set_other m.cursors i k (next i) 0 (λ e. d (sym e)) in
        let e₂ = get_or-set_other m.cursors k i (next k) 0 d in
        let e₃ = set_comm m.area (cell_place lengths m i) (cell_place lengths m k) v w (places_apart f i k d (omega arith) (omega arith)) in
        let e₄ = set_comm m.cursors i k (next i) (next k) d in
        rw (e₁, e₂, e₃, e₄)

-- the graph stores each delay that has an update
pub delays_stored : (updates lengths values : List ℕ) (m : Memories) (n : ℕ)
    → update_delays updates lengths values m n ≡ stored_to (store_delay lengths) (asked_value updates values) updates m n
unfolding update_delays update_delay stored_to
delays_stored updates lengths values m zero = refl
delays_stored updates lengths values m (suc n) = rw (delays_stored updates lengths values m n)

-- .. whatever the states are
pub lines_updated : (updates lengths values : List ℕ) (m : Memories) (n : ℕ)
    → update_delays updates lengths values m n ≡ memories m.states (update_delays updates lengths values (lines_of m) n).area (update_delays updates lengths values (lines_of m) n).cursors
unfolding update_delays update_delay store_delay
lines_updated updates lengths values m zero = refl
lines_updated updates lengths values m (suc n) = rw (lines_updated updates lengths values m n) (go (eqb (get_or updates n 0) 0))
  where
    before : Memories
    before = update_delays updates lengths values (lines_of m) n

    v : ℕ
    v = asked_value updates values n

    go : (b : Bool) → cond b (memories m.states before.area before.cursors) (store_delay lengths (memories m.states before.area before.cursors) n v)
        ≡ memories m.states (cond b before (store_delay lengths before n v)).area (cond b before (store_delay lengths before n v)).cursors
    go true = refl
    go false = refl
