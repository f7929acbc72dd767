-- Laws of bytes and words: what is appended, a loop that sums, a loop that stores words. Assumes nothing.
use Rattle.std.specs.Prelude.{◌≡◌, ℕ, ◌+◌, ◌-◌, ◌*◌, ◌/◌, ◌%◌, ◌<◌, ◌≤◌, List, [], ◌∷◌, ◌++◌, length, take, drop, fold, slice_index, slice_range, refl}
use Rattle.std.proofs.Common.{sym, ap, ◌∙◌, append_assoc, add-one, arith, length-drop, drop-drop, take-append-drop, length-take-le, take_all, take-suc}
use Rattle.std.proofs.lemmas.List.Edits.{sets, sets-eq}
use borrow.Rule.Slice.PartMut.{put_mid}
use Rattle.tables.specs.Stores.{sets_append}
use Rattle.tables.specs.Lists.{list_of}
use Rattle.house.specs.Bytes.{word_from, four_bytes, bytes_of, total, wrapping_sum, all_ones}
use Rattle.house.specs.File.{closed}

-- the word of four bytes that were read
pub word_of : (bytes : List ℕ) (at a b c d : ℕ) → a ≡ slice_index bytes at → b ≡ slice_index bytes (at + 1) → c ≡ slice_index bytes (at + 2) → d ≡ slice_index bytes (at + 3)
    → a + 256 * b + 65536 * c + 16777216 * d ≡ word_from bytes at
unfolding word_from
word_of bytes at a b c d e f g h = rw (e, f, g, h)

-- ---- the wrapping sum

pub total_append : (l m : List ℕ) → total (l ++ m) ≡ total l + total m
unfolding total
total_append [] m = omega arith
total_append (x ∷ l) m = let e = total_append l m in omega arith

-- a loop that sums f: its start, and its turn at i
pub wrapping_start : (f : ℕ → ℕ) → 0 ≡ wrapping_sum (list_of f 0)
unfolding total list_of
wrapping_start f = refl

pub wrapping_next : (f : ℕ → ℕ) (i s w r : ℕ) → s ≡ wrapping_sum (list_of f i) → w ≡ f i → r ≡ (s + w) % 4294967296 → r ≡ wrapping_sum (list_of f (i + 1))
unfolding total list_of
wrapping_next f i s w r e g h =
    let t : total (list_of f (i + 1)) ≡ total (list_of f i) + f i =
    rw add-one (total_append (list_of f i) (f i ∷ []) ∙ let z : f i + 0 ≡ f i = omega arith in ap (λ (x : ℕ). total (list_of f i) + x) z) in
    omega arith

-- ---- bytes of words

-- a slice of four bytes that is written as a whole
pub put_four : (l m : List ℕ) (at w : ℕ) → w < 4294967296 → at + 3 < length l
    → m ≡ w % 256 ∷ w / 256 % 256 ∷ w / 65536 % 256 ∷ w / 16777216 % 256 ∷ [] → put_mid at (at + 4 - at) l m ≡ sets l at (four_bytes w)
put_four l m at w f h e =
    let z : at + 4 - at ≡ 4 = omega arith in
    let q : w / 16777216 % 256 ≡ w / 16777216 = omega arith in
    rw (z, e, q) (sym (sets-eq (four_bytes w) l at (omega arith) ∙ (rw (← drop-drop 4 at l) (append_assoc (take at l) (four_bytes w) (drop 4 (drop at l))))))

pub bytes_append : (l m : List ℕ) → bytes_of (l ++ m) ≡ bytes_of l ++ bytes_of m
unfolding bytes_of
bytes_append [] m = refl
bytes_append (w ∷ l) m = let e = bytes_append l m in rw e (sym (append_assoc (four_bytes w) (bytes_of l) (bytes_of m)))

pub bytes_length : (l : List ℕ) → length (bytes_of l) ≡ 4 * length l
unfolding bytes_of
bytes_length [] = refl
bytes_length (w ∷ l) = let e = bytes_length l in omega arith

-- a loop that stores the bytes of the words p, from the place `at` on: its start, and its turn at i
pub put_start : (p l : List ℕ) (at : ℕ) → l ≡ sets l at (bytes_of (take 0 p))
unfolding bytes_of
put_start p l at = refl

pub put_next : (p l m t : List ℕ) (at i w : ℕ) → i < length p → m ≡ sets l at (bytes_of (take i p)) → w ≡ slice_index p i → t ≡ sets m (at + 4 * i) (four_bytes w)
    → t ≡ sets l at (bytes_of (take (i + 1) p))
unfolding bytes_of
put_next p l m t at i w h e f g =
    let n : length (bytes_of (take i p)) ≡ 4 * i = bytes_length (take i p) ∙ ap (λ (x : ℕ). 4 * x) (length-take-le i p (omega arith)) in
    let b : bytes_of (take (i + 1) p) ≡ bytes_of (take i p) ++ four_bytes (slice_index p i) = rw (add-one, take-suc p i 0 h) (bytes_append (take i p) (slice_index p i ∷ [])) in
    g ∙ rw (e, f, b) (sets_append l at (at + 4 * i) (bytes_of (take i p)) (four_bytes (slice_index p i)) (omega arith))

-- the first u of the n words p, and the rest of them behind
pub put_parts : (p l m t : List ℕ) (at n u : ℕ) → length p ≡ n → u ≤ n → m ≡ sets l at (bytes_of (take u p)) → t ≡ sets m (at + 4 * u) (bytes_of (slice_range p u n))
    → t ≡ sets l at (bytes_of p)
put_parts p l m t at n u k h e g =
    let r : take (n - u) (drop u p) ≡ drop u p = let d = length-drop u p in take_all (n - u) (drop u p) (omega arith) in
    let s : length (bytes_of (take u p)) ≡ 4 * u = bytes_length (take u p) ∙ ap (λ (x : ℕ). 4 * x) (length-take-le u p (omega arith)) in
    let b : bytes_of (take u p) ++ bytes_of (drop u p) ≡ bytes_of p = sym (bytes_append (take u p) (drop u p)) ∙ ap bytes_of (take-append-drop u p) in
    g ∙ rw (r, e) (sets_append l at (at + 4 * u) (bytes_of (take u p)) (bytes_of (drop u p)) (omega arith) ∙ ap (sets l at) b)

-- a loop that sums the words p
pub sum_start : (p : List ℕ) → 0 ≡ wrapping_sum (take 0 p)
unfolding total
sum_start p = refl

pub sum_next : (p : List ℕ) (i s w r : ℕ) → i < length p → s ≡ wrapping_sum (take i p) → w ≡ slice_index p i → r ≡ (s + w) % 4294967296 → r ≡ wrapping_sum (take (i + 1) p)
unfolding total
sum_next p i s w r h e f g =
    let t : total (take (i + 1) p) ≡ total (take i p) + (slice_index p i + 0) = rw (add-one, take-suc p i 0 h) (total_append (take i p) (slice_index p i ∷ [])) in
    omega arith

-- a fold that sums them
pub wrapping_fold_on : (p : List ℕ) (s : ℕ) → fold (λ (t w : ℕ). (t + w) % 4294967296) (s % 4294967296) p ≡ (s + total p) % 4294967296
unfolding total
wrapping_fold_on [] s = let z : s + 0 ≡ s = omega arith in rw z
wrapping_fold_on (w ∷ p) s =
    let z : (s % 4294967296 + w) % 4294967296 ≡ (s + w) % 4294967296 = omega arith in
    let a : s + w + total p ≡ s + (w + total p) = omega arith in
    ap (λ (x : ℕ). fold (λ (t w : ℕ). (t + w) % 4294967296) x p) z ∙ (wrapping_fold_on p (s + w) ∙ ap (λ (x : ℕ). x % 4294967296) a)

pub wrapping_fold : (p : List ℕ) → fold (λ (t w : ℕ). (t + w) % 4294967296) 0 p ≡ wrapping_sum p
wrapping_fold p = let z : 0 + total p ≡ total p = omega arith in wrapping_fold_on p 0 ∙ ap (λ (x : ℕ). x % 4294967296) z

-- ---- a whole block: its words k, n and u, its payload p of 124 words and its check, one behind the other
wrap_left : (x y : ℕ) → (x % 4294967296 + y) % 4294967296 ≡ (x + y) % 4294967296
wrap_left x y = omega arith

wrap_right : (x y : ℕ) → (x + y % 4294967296) % 4294967296 ≡ (x + y) % 4294967296
wrap_right x y = omega arith

pub block_sum : (k n u a h q s : ℕ) (p : List ℕ) → a ≡ (k + n) % 4294967296 → h ≡ (a + u) % 4294967296 → q ≡ wrapping_sum p → s ≡ (h + q) % 4294967296
    → s ≡ wrapping_sum (k ∷ n ∷ u ∷ p)
unfolding total
block_sum k n u a h q s p e f g i =
    let y : a + u + total p ≡ a + (u + total p) = omega arith in
    let z : k + n + (u + total p) ≡ k + (n + (u + total p)) = omega arith in
    i
    ∙ rw (f, g) (wrap_left (a + u) (total p % 4294967296) ∙ (wrap_right (a + u) (total p) ∙ rw (y, e) (wrap_left (k + n) (u + total p) ∙ ap (λ (x : ℕ). x % 4294967296) z)))

pub block_put : (l l1 l2 l3 l4 l5 : List ℕ) (at k n u c : ℕ) (p : List ℕ) → length p ≡ 124 → l1 ≡ sets l at (four_bytes k) → l2 ≡ sets l1 (at + 4) (four_bytes n)
    → l3 ≡ sets l2 (at + 8) (four_bytes u) → l4 ≡ sets l3 (at + 12) (bytes_of p) → l5 ≡ sets l4 (at + 508) (four_bytes c)
    → l5 ≡ sets l at (bytes_of ((k ∷ n ∷ u ∷ p) ++ (c ∷ [])))
unfolding bytes_of
block_put l l1 l2 l3 l4 l5 at k n u c p h e1 e2 e3 e4 e5 =
    let b = bytes_length p in
    let s2 : l2 ≡ sets l at (four_bytes k ++ four_bytes n) = e2 ∙ rw e1 (sets_append l at (at + 4) (four_bytes k) (four_bytes n) refl) in
    let s3 : l3 ≡ sets l at ((four_bytes k ++ four_bytes n) ++ four_bytes u) = e3 ∙ rw s2 (sets_append l at (at + 8) (four_bytes k ++ four_bytes n) (four_bytes u) refl) in
    let s4 : l4 ≡ sets l at (((four_bytes k ++ four_bytes n) ++ four_bytes u) ++ bytes_of p) =
    e4 ∙ rw s3 (sets_append l at (at + 12) ((four_bytes k ++ four_bytes n) ++ four_bytes u) (bytes_of p) refl) in
    let m : length (((four_bytes k ++ four_bytes n) ++ four_bytes u) ++ bytes_of p) ≡ 508 = omega arith in
    let s5 : l5 ≡ sets l at ((((four_bytes k ++ four_bytes n) ++ four_bytes u) ++ bytes_of p) ++ four_bytes c) =
    e5 ∙ rw s4 (sets_append l at (at + 508) (((four_bytes k ++ four_bytes n) ++ four_bytes u) ++ bytes_of p) (four_bytes c) (omega arith)) in
    let z : (((four_bytes k ++ four_bytes n) ++ four_bytes u) ++ bytes_of p) ++ four_bytes c ≡ bytes_of ((k ∷ n ∷ u ∷ p) ++ (c ∷ [])) = sym (bytes_append (k ∷ n ∷ u ∷ p) (c ∷ [])) in
    s5 ∙ ap (sets l at) z

-- with the check that its sum s gives
pub block_closed : (l l1 l2 l3 l4 l5 : List ℕ) (at k n u s : ℕ) (p : List ℕ) → length p ≡ 124 → s ≡ wrapping_sum (k ∷ n ∷ u ∷ p) → l1 ≡ sets l at (four_bytes k)
    → l2 ≡ sets l1 (at + 4) (four_bytes n) → l3 ≡ sets l2 (at + 8) (four_bytes u) → l4 ≡ sets l3 (at + 12) (bytes_of p) → l5 ≡ sets l4 (at + 508) (four_bytes (all_ones - s))
    → l5 ≡ sets l at (bytes_of (closed (k ∷ n ∷ u ∷ p)))
block_closed l l1 l2 l3 l4 l5 at k n u s p h e e1 e2 e3 e4 e5 =
    block_put l l1 l2 l3 l4 l5 at k n u (all_ones - s) p h e1 e2 e3 e4 e5 ∙ ap (λ (x : ℕ). sets l at (bytes_of ((k ∷ n ∷ u ∷ p) ++ ((all_ones - x) ∷ [])))) e
