-- A pair of blocks more, and the end of a comparison: block by block it tells what it tells of the whole files. Assumes nothing.
use Rattle.std.specs.Prelude.{◌≡◌, Bool, cond, List, [], ◌++◌, length, eqb}
use Rattle.std.proofs.Math.Path.{refl}
use Rattle.std.proofs.Common.{sym, ap, ◌∙◌, append-nil, add-one}
use Rattle.std.proofs.Math.Bool.{true, false}
use Prim.Native.Nat.{ℕ, zero, suc, ◌+◌, ◌-◌, ◌*◌, ◌/◌, ◌%◌, ◌≤◌, ◌<◌, min}
use native.Mathlib.Omega.{arith}
use Rattle.std.proofs.Math.ListN.{length-append}
use Rattle.std.proofs.Math.Dec.{ltb}
use borrow.Author.Tests.{lt-ltb, le-ltb, ltb-true, ltb-false, eq-eqb, ne_eqb, eqb-true, eqb-false}
use Rattle.tables.specs.Tests.{differs, differs_not, same_of}
use Rattle.answers.specs.Numbers.{accepted}
use Rattle.answers.specs.OrderLaws.{then_accepted, refuse_accepted}
use Rattle.house.specs.Frame.{graph_kind, step_kind, block_count, frame_answer, payload_length, payload_word}
use Rattle.house.specs.Framed.{framed, payload_room}
use Rattle.house.specs.Payload.{rendering_in, samples_at}
use Rattle.stream.specs.declared.Comparison.{Comparison}
use Rattle.stream.specs.declared.Difference.TheVariants as D
use Rattle.stream.specs.Stream.{rendering_frame}
use Rattle.stream.specs.StreamLaws.{front_same, sample_in_block}
use Rattle.stream.specs.Compare.{sample_in, samples_differ, first_of, difference_at, difference, samples_in, comparison_of, first_place, words_differ, word_or, pair_more}

-- ---- the first index that passes

pub first_le : (f : ℕ → Bool) (n : ℕ) → first_of f n ≤ n
unfolding first_of
first_le f zero = omega arith
first_le f (suc n) = go (ltb (first_of f n) n) (f n) (first_le f n)
  where
    go : (t u : Bool) → first_of f n ≤ n → cond t (first_of f n) (cond u n (suc n)) ≤ suc n
    go true u h = omega arith
    go false true h = omega arith
    go false false h = omega arith

-- a loop that has found none below i: its start, its turn, its way out, its end
pub first_start : (f : ℕ → Bool) → first_of f 0 ≡ 0
unfolding first_of
first_start f = refl

pub first_next : (f : ℕ → Bool) (i : ℕ) → first_of f i ≡ i → f i ≡ false → first_of f (i + 1) ≡ i + 1
unfolding first_of
first_next f i e h = rw (add-one, e, le-ltb i i (omega arith), h)

first_step : (f : ℕ → Bool) (i : ℕ) → first_of f i ≡ i → f i ≡ true → first_of f (suc i) ≡ i
unfolding first_of
first_step f i e h = rw (e, le-ltb i i (omega arith), h)

-- once found it stays
first_stay : (f : ℕ → Bool) (i d : ℕ) → first_of f i < i → first_of f (i + d) ≡ first_of f i
unfolding first_of
first_stay f i zero h = let z : i + 0 ≡ i = omega arith in rw z
first_stay f i (suc d) h =
    let z : i + suc d ≡ suc (i + d) = omega arith in
    let e = first_stay f i d h in
    rw (z, e, lt-ltb (first_of f i) (i + d) (omega arith))

pub first_stop : (f : ℕ → Bool) (n i : ℕ) → i < n → first_of f i ≡ i → f i ≡ true → first_of f n ≡ i
first_stop f n i h e g =
    let s = first_step f i e g in
    let z : n ≡ suc i + (n - suc i) = omega arith in
    ap (first_of f) z ∙ (first_stay f (suc i) (n - suc i) (omega arith) ∙ s)

pub first_same : (f g : ℕ → Bool) (n : ℕ) → ((i : ℕ) → i < n → f i ≡ g i) → first_of f n ≡ first_of g n
unfolding first_of
first_same f g zero h = refl
first_same f g (suc n) h = let e = first_same f g n (λ i q. h i (omega arith)) in rw (e, h n (omega arith))

-- none below m: the rest decides
first_past : (f g : ℕ → Bool) (m n : ℕ) → ((i : ℕ) → i < n → f (m + i) ≡ g i) → first_of f m ≡ m → first_of f (m + n) ≡ m + first_of g n
unfolding first_of
first_past f g m zero h e = let z : m + 0 ≡ m = omega arith in rw z e
first_past f g m (suc n) h e =
    let z : m + suc n ≡ suc (m + n) = omega arith in
    let r = first_past f g m n (λ i q. h i (omega arith)) e in
    rw (z, r, h n (omega arith)) (go (ltb (first_of g n) n) refl (g n))
  where
    go : (t : Bool) → ltb (first_of g n) n ≡ t → (u : Bool)
        → cond (ltb (m + first_of g n) (m + n)) (m + first_of g n) (cond u (m + n) (suc (m + n))) ≡ m + cond t (first_of g n) (cond u n (suc n))
    go true p u = let l = ltb-true (first_of g n) n p in rw (lt-ltb (m + first_of g n) (m + n) (omega arith))
    go false p true = let l = ltb-false (first_of g n) n p in rw (le-ltb (m + first_of g n) (m + n) (omega arith))
    go false p false = let l = ltb-false (first_of g n) n p in rw (le-ltb (m + first_of g n) (m + n) (omega arith)) (omega arith)

-- a pass below m, or the rest
pub first_add : (f g : ℕ → Bool) (m n : ℕ) → ((i : ℕ) → i < n → f (m + i) ≡ g i) → first_of f (m + n) ≡ cond (ltb (first_of f m) m) (first_of f m) (m + first_of g n)
first_add f g m n h = go (ltb (first_of f m) m) refl
  where
    go : (t : Bool) → ltb (first_of f m) m ≡ t → first_of f (m + n) ≡ cond t (first_of f m) (m + first_of g n)
    go true p = first_stay f m n (ltb-true (first_of f m) m p)
    go false p = let l = ltb-false (first_of f m) m p in first_past f g m n h (omega (arith, first_le f m))

-- of fewer indices
first_min : (f : ℕ → Bool) (l n : ℕ) → l ≤ n → first_of f l ≡ min (first_of f n) l
first_min f l n h = go (ltb (first_of f l) l) refl
  where
    z : l + (n - l) ≡ n
    z = omega arith

    go : (t : Bool) → ltb (first_of f l) l ≡ t → first_of f l ≡ min (first_of f n) l
    go true p =
        let q = ltb-true (first_of f l) l p in
        let e : first_of f n ≡ first_of f l = ap (first_of f) (sym z) ∙ first_stay f l (n - l) q in
        omega arith
    go false p =
        let q = ltb-false (first_of f l) l p in
        let b = first_le f l in
        let e : first_of f n ≡ l + first_of (λ (i : ℕ). f (l + i)) (n - l) = ap (first_of f) (sym z) ∙ first_past f (λ (i : ℕ). f (l + i)) l (n - l) (λ i k. refl) (omega arith) in
        omega arith

-- ---- where samples stand

pub place_most : (p : ℕ) → first_place p ≤ 1
unfolding first_place
place_most p = go (eqb p 0)
  where
    go : (t : Bool) → cond t 1 0 ≤ 1
    go true = omega arith
    go false = omega arith

-- the samples of p blocks end before the word where those of the next begin
pub place_is : (p : ℕ) → samples_in p + 1 ≡ 124 * p + first_place p
unfolding samples_in first_place
place_is p = go (eqb p 0) refl
  where
    go : (t : Bool) → eqb p 0 ≡ t → 124 * p - 1 + 1 ≡ 124 * p + cond t 1 0
    go true e = let z = eqb-true p 0 e in omega arith
    go false e = let z = eqb-false p 0 e in omega arith

samples_suc : (p : ℕ) → samples_in (suc p) ≡ samples_in p + (124 - first_place p)
unfolding samples_in
samples_suc p = let e = place_is p in let h = place_most p in omega arith

-- a sample of p blocks x of a file, whatever is behind them
sample_front : (p : ℕ) (x a : List ℕ) → length x ≡ 512 * p → (i : ℕ) → i < samples_in p → sample_in (x ++ a) i ≡ sample_in x i
unfolding payload_word samples_in
sample_front p x a l i h = front_same x a ((1 + i) / 124) (omega arith) (3 + (1 + i) % 124) (omega arith)

-- ---- p blocks x of a file, and the block a behind them
module _ (p : ℕ) (x a : List ℕ) (l : length x ≡ 512 * p) (s : length a ≡ 512) where
  sample_behind : (k : ℕ) → k < 124 - first_place p → sample_in (x ++ a) (samples_in p + k) ≡ payload_word a (first_place p + k)
  sample_behind k h =
      let e = place_is p in
      ap (λ (y : List ℕ). sample_in (x ++ y) (samples_in p + k)) (sym (append-nil a))
      ∙ sample_in_block x a [] p (samples_in p + k) (first_place p + k) l s (omega arith) (omega arith)

  -- the word of the first difference: e is where it is among the samples of x, and r among those of a
  word_is : (e r : ℕ) (t : Bool) → ltb e (samples_in p) ≡ t → r ≤ 124 - first_place p
      → cond (ltb (cond t e (samples_in p + r)) (samples_in (suc p))) (sample_in (x ++ a) (cond t e (samples_in p + r))) 0
      ≡ cond t (cond t (sample_in x e) 0) (word_or a (first_place p + r))
  unfolding word_or
  word_is e r true q h =
      let d = samples_suc p in
      let b = ltb-true e (samples_in p) q in
      rw (lt-ltb e (samples_in (suc p)) (omega arith)) (sample_front p x a l e b)
  word_is e r false q h = go (ltb r (124 - first_place p)) refl
    where
      m : first_place p ≤ 1
      m = place_most p

      d : samples_in (suc p) ≡ samples_in p + (124 - first_place p)
      d = samples_suc p

      go : (u : Bool) → ltb r (124 - first_place p) ≡ u
          → cond (ltb (samples_in p + r) (samples_in (suc p))) (sample_in (x ++ a) (samples_in p + r)) 0 ≡ cond (ltb (first_place p + r) 124) (payload_word a (first_place p + r)) 0
      go true u =
          let b = ltb-true r (124 - first_place p) u in
          rw (lt-ltb (samples_in p + r) (samples_in (suc p)) (omega (arith, d)), lt-ltb (first_place p + r) 124 (omega (arith, m))) (sample_behind r b)
      go false u =
          let b = ltb-false r (124 - first_place p) u in
          rw (le-ltb (samples_in p + r) (samples_in (suc p)) (omega (arith, d)), le-ltb (first_place p + r) 124 (omega (arith, m)))

pub kept_same : {a b c d e f g h : ℕ} → a ≡ e → b ≡ f → c ≡ g → d ≡ h
    → ◌≡◌ {A = Comparison} (record { pairs = a; equal = b; one = c; two = d }) (record { pairs = e; equal = f; one = g; two = h })
kept_same p q r s = rw (p, q, r, s)

-- ---- p blocks of each of two files, and one behind them
module _ (p : ℕ) (x y a b : List ℕ) (l : length x ≡ 512 * p) (m : length y ≡ 512 * p) (s : length a ≡ 512) (t : length b ≡ 512) where
  equal_is : first_of (samples_differ (x ++ a) (y ++ b)) (samples_in (suc p))
      ≡ cond (ltb (first_of (samples_differ x y) (samples_in p)) (samples_in p)) (first_of (samples_differ x y) (samples_in p)) (samples_in p + first_of (words_differ a b (first_place p)) (124 - first_place p))
  equal_is =
      let e = first_same (samples_differ (x ++ a) (y ++ b)) (samples_differ x y) (samples_in p) (λ i h. rw (sample_front p x a l i h, sample_front p y b m i h)) in
      ap (first_of (samples_differ (x ++ a) (y ++ b))) (samples_suc p)
      ∙ (first_add (samples_differ (x ++ a) (y ++ b)) (words_differ a b (first_place p)) (samples_in p) (124 - first_place p) (λ i h. rw (sample_behind p x a l s i h, sample_behind p y b m t i h))
      ∙ rw e)

  -- ONE PAIR MORE
  pub pair_more_lem : comparison_of (x ++ a) (y ++ b) ≡ pair_more (comparison_of x y) a b
  unfolding comparison_of pair_more
  pair_more_lem =
      let c : block_count x ≡ p = omega arith in
      let d : block_count (x ++ a) ≡ suc p = let k = length-append x a in omega arith in
      let r = first_le (words_differ a b (first_place p)) (124 - first_place p) in
      let q = first_of (samples_differ x y) (samples_in p) in
      rw (c, d, equal_is)
      (kept_same (sym (add-one p)) refl
      (word_is p x a l s q (first_of (words_differ a b (first_place p)) (124 - first_place p)) (ltb q (samples_in p)) refl r)
      (word_is p y b m t q (first_of (words_differ a b (first_place p)) (124 - first_place p)) (ltb q (samples_in p)) refl r))

-- what the code leaves, of the bytes that what it was given is of
pub pair_is : (c : Comparison) (x y a b : List ℕ) → length a ≡ 512 → length b ≡ 512 → length x ≡ 512 * c.pairs → length y ≡ 512 * c.pairs → c ≡ comparison_of x y
    → pair_more c a b ≡ comparison_of (x ++ a) (y ++ b)
pair_is c x y a b s t l m e = ap (λ (k : Comparison). pair_more k a b) e ∙ sym (pair_more_lem c.pairs x y a b l m s t)

-- before the first pair
pub no_pair_is : record { pairs = 0; equal = 0; one = 0; two = 0 } ≡ comparison_of [] []
unfolding comparison_of samples_in first_of
no_pair_is = refl

-- ---- THE END: u and v are behind the p blocks of each that were compared, and these hold the samples that both have
module _ (p m n : ℕ) (x y u v : List ℕ) (l : length x ≡ 512 * p) (k : length y ≡ 512 * p) (h : min m n ≤ samples_in p) where
  all_same : first_of (samples_differ (x ++ u) (y ++ v)) (samples_in p) ≡ first_of (samples_differ x y) (samples_in p)
  all_same = first_same (samples_differ (x ++ u) (y ++ v)) (samples_differ x y) (samples_in p) (λ i g. rw (sample_front p x u l i g, sample_front p y v k i g))

  -- e is the first difference in those blocks, q the one in the files
  end_at : (e q : ℕ) → q ≡ min e (min m n)
      → difference_at m n e (cond (ltb e (samples_in p)) (sample_in x e) 0) (cond (ltb e (samples_in p)) (sample_in y e) 0) ≡ difference_at m n q (sample_in (x ++ u) q) (sample_in (y ++ v) q)
  unfolding difference_at
  end_at e q w = go (ltb e (min m n)) refl
    where
      go : (t : Bool) → ltb e (min m n) ≡ t
          → difference_at m n e (cond (ltb e (samples_in p)) (sample_in x e) 0) (cond (ltb e (samples_in p)) (sample_in y e) 0) ≡ difference_at m n q (sample_in (x ++ u) q) (sample_in (y ++ v) q)
      go true t =
          let b = ltb-true e (min m n) t in
          let z : q ≡ e = omega arith in
          rw (z, lt-ltb e (samples_in p) (omega arith), sample_front p x u l e (omega arith), sample_front p y v k e (omega arith))
      go false t =
          let b = ltb-false e (min m n) t in
          rw (t, le-ltb q (min m n) (omega arith))

pub end_is : (c : Comparison) (m n : ℕ) (x y u v : List ℕ) → length x ≡ 512 * c.pairs → length y ≡ 512 * c.pairs → c ≡ comparison_of x y → m ≡ (rendering_in (x ++ u)).samples
    → n ≡ (rendering_in (y ++ v)).samples → min m n ≤ samples_in c.pairs → difference_at m n c.equal c.one c.two ≡ difference (x ++ u) (y ++ v)
unfolding comparison_of difference
end_is c m n x y u v l k e a b h =
    let d : block_count x ≡ c.pairs = omega arith in
    let f = first_min (samples_differ (x ++ u) (y ++ v)) (min m n) (samples_in c.pairs) h ∙ ap (λ (i : ℕ). min i (min m n)) (all_same c.pairs m n x y u v l k h) in
    ap (λ (i : Comparison). difference_at m n i.equal i.one i.two) e
    ∙ rw (d, ← a, ← b) (end_at c.pairs m n x y u v l k h (first_of (samples_differ x y) (samples_in c.pairs)) (first_of (samples_differ (x ++ u) (y ++ v)) (min m n)) f)

-- that they do, where all blocks of an accepted file were compared
pub samples_fit : (file : List ℕ) → rendering_frame file ≡ accepted tt → (rendering_in file).samples ≤ samples_in (block_count file)
unfolding rendering_frame samples_in
samples_fit file e =
    let a = then_accepted (frame_answer graph_kind step_kind file) _ e in
    let r = payload_room graph_kind step_kind file (framed graph_kind step_kind file a.0) in
    let q = same_of (payload_length file) (samples_at + (rendering_in file).samples) (refuse_accepted 21 _ a.1) in
    omega arith

-- ---- the ways out of the code
pub samples_none : (p : ℕ) → p ≡ 0 → 0 ≡ samples_in p
unfolding samples_in
samples_none p z = omega arith

pub samples_some : (p : ℕ) → 124 * p - 1 ≡ samples_in p
unfolding samples_in
samples_some p = refl

pub samples_most : (p s : ℕ) → s ≡ samples_in p → s ≤ 124 * p
unfolding samples_in
samples_most p s e = omega arith

pub place_first : (p : ℕ) → p ≡ 0 → 1 ≡ first_place p
unfolding first_place
place_first p z = rw (eq-eqb p 0 z)

pub place_later : (p : ℕ) → (p ≡ 0 → ⊥) → 0 ≡ first_place p
unfolding first_place
place_later p n = rw (ne_eqb p 0 n)

pub place_small : (p o : ℕ) → o ≡ first_place p → o ≤ 1
place_small p o e = let h = place_most p in omega arith

pub more_small : (a b : List ℕ) (o r : ℕ) → r ≡ first_of (words_differ a b o) (124 - o) → r ≤ 124
more_small a b o r e = let h = first_le (words_differ a b o) (124 - o) in omega arith

pub word_in : (block : List ℕ) (place r : ℕ) → place < 124 → r ≡ payload_word block place → r ≡ word_or block place
unfolding word_or
word_in block place r h e = rw (lt-ltb place 124 h) e

pub word_past : (block : List ℕ) (place : ℕ) → 124 ≤ place → 0 ≡ word_or block place
unfolding word_or
word_past block place h = rw (le-ltb place 124 h)

-- the loop over the words of a pair: v and w are the two at i
module _ (a b : List ℕ) (from i v w : ℕ) (e : v ≡ payload_word a (from + i)) (f : w ≡ payload_word b (from + i)) where
  pub words_stop : (n : ℕ) → i < n → first_of (words_differ a b from) i ≡ i → (v ≡ w → ⊥) → i ≡ first_of (words_differ a b from) n
  words_stop n h g d = sym (first_stop (words_differ a b from) n i h g (rw (← e, ← f) (differs v w d)))

  pub words_next : first_of (words_differ a b from) i ≡ i → v ≡ w → first_of (words_differ a b from) (i + 1) ≡ i + 1
  words_next g d = first_next (words_differ a b from) i g (rw (← e, ← f) (differs_not v w d))

module _ (c : Comparison) (a b : List ℕ) (s : ℕ) (f : s ≡ samples_in c.pairs) where
  pub pair_kept : c.equal < s → record { pairs = c.pairs + 1; equal = c.equal; one = c.one; two = c.two } ≡ pair_more c a b
  unfolding pair_more
  pair_kept h = let t = lt-ltb c.equal (samples_in c.pairs) (rw (← f) h) in rw t

  pub pair_found : (o r v w : ℕ) → s ≤ c.equal → o ≡ first_place c.pairs → r ≡ first_of (words_differ a b o) (124 - o) → v ≡ word_or a (o + r) → w ≡ word_or b (o + r)
      → record { pairs = c.pairs + 1; equal = s + r; one = v; two = w } ≡ pair_more c a b
  unfolding pair_more
  pair_found o r v w h e g i j =
      let t = le-ltb c.equal (samples_in c.pairs) (rw (← f) h) in
      rw (t, ← f, ← e, ← g, i, j)

module _ (m n place one two : ℕ) where
  pub end_sample : (q : ℕ) → q ≡ min m n → place < q → D.Sample place one two ≡ difference_at m n place one two
  unfolding difference_at
  end_sample q e h = rw (lt-ltb place (min m n) (rw (← e) h))

  pub end_nothing : (q : ℕ) → q ≡ min m n → q ≤ place → m ≡ n → D.Nothing ≡ difference_at m n place one two
  unfolding difference_at
  end_nothing q e h z = let t = le-ltb place (min m n) (rw (← e) h) in rw (t, eq-eqb m n z)

  pub end_ends : (q : ℕ) → q ≡ min m n → q ≤ place → (m ≡ n → ⊥) → D.Ends q ≡ difference_at m n place one two
  unfolding difference_at
  end_ends q e h z = let t = le-ltb place (min m n) (rw (← e) h) in rw (t, ne_eqb m n z, e)
