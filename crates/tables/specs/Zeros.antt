-- Tables of zeros, a part of a table zeroed, one table copied over another: what `zero`, `zero_part` and `copy` do, and the laws that their loops cite. `zeros`
-- is `replicate` of lib.ListN, whose laws serve. Assumes nothing.
use Rattle.std.specs.Prelude.{◌≡◌, refl, ◌⊎◌, List, [], ◌∷◌, ◌++◌, ℕ, zero, suc, ◌+◌, ◌-◌, ◌≤◌, ◌<◌, min, length, take, drop, get_or, set, replicate}
use Rattle.std.proofs.Common.{sym, ap, ◌∙◌, append_assoc, append-nil, zero-add, add-one, arith, length-drop, take-append-drop, drop_of_length-le, drop-drop, length-take-le, take-suc, take_all}
use Rattle.std.proofs.Math.Decide.{dec_lt}
use Rattle.std.proofs.lemmas.List.{length-replicate, replicate-append-replicate}
use Rattle.std.proofs.Math.ListN.{get_or-eq_default}
use borrow.Rule.Slice.PartMut.{mid_of, put_mid}
use Rattle.tables.specs.Stores.{sets_append, sets_in, sets_out, sets_past}
use Rattle.std.proofs.lemmas.List.Edits.{sets, sets-eq}
use Rattle.std.proofs.Math.Seq.{length-sets, drop-length}

-- n words, all 0
abbrev pub zeros : ℕ → List ℕ
zeros n = replicate n 0

-- it has n words
pub zeros_length : (n : ℕ) → length (zeros n) ≡ n
zeros_length n = length-replicate n 0

-- every word read of it is 0
pub zeros_at : (n i : ℕ) → get_or (zeros n) i 0 ≡ 0
zeros_at zero i = refl
zeros_at (suc n) zero = refl
zeros_at (suc n) (suc i) = zeros_at n i

-- ---- zeroing

-- the table after 0 is stored in n words from the index b on; past the end of the table nothing is stored
unfoldable pub zeroed : ℕ → ℕ → List ℕ → List ℕ
zeroed b n l = sets l b (zeros n)

-- in a table that has these words: what lies before them, zeros, what lies behind them
pub zeroed_is : (b n : ℕ) (l : List ℕ) → b + n ≤ length l → zeroed b n l ≡ take b l ++ zeros n ++ drop (b + n) l
unfolding zeroed
zeroed_is b n l h = sets-eq (zeros n) l b (omega (arith, zeros_length n)) ∙ rw (zeros_length n)

-- the table keeps its length
pub zeroed_length : (b n : ℕ) (l : List ℕ) → length (zeroed b n l) ≡ length l
unfolding zeroed
zeroed_length b n l = length-sets l b (zeros n)

-- a zeroed word
pub zeroed_in : (b n : ℕ) (l : List ℕ) (i : ℕ) → b ≤ i → i < b + n → get_or (zeroed b n l) i 0 ≡ 0
unfolding zeroed
zeroed_in b n l i p q = go (dec_lt i (length l))
  where
    e : b + (i - b) ≡ i
    e = omega arith

    go : Dec (i < length l) → get_or (sets l b (zeros n)) i 0 ≡ 0
    go (yes h) =
        rw e at (sets_in l b (zeros n) (i - b) (omega (arith, e)) (rw (zeros_length n) (omega arith))) ∙ zeros_at n (i - b)
    go (no h) = get_or-eq_default (sets l b (zeros n)) 0 (rw (length-sets l b (zeros n)) (omega arith))

-- any other word
pub zeroed_out : (b n : ℕ) (l : List ℕ) (i : ℕ) → (i < b) ⊎ (b + n ≤ i) → get_or (zeroed b n l) i 0 ≡ get_or l i 0
unfolding zeroed
zeroed_out b n l i d = sets_out l b (zeros n) i (rw (zeros_length n) d)

-- the whole table zeroed
pub zeroed_all : (l : List ℕ) → zeroed 0 (length l) l ≡ zeros (length l)
zeroed_all l = zeroed_is 0 (length l) l (omega arith) ∙ let z : 0 + length l ≡ length l = omega arith in rw (z, drop-length, append-nil)

-- all from b on zeroed
pub zeroed_rest : (b : ℕ) (l : List ℕ) → b ≤ length l → zeroed b (length l - b) l ≡ take b l ++ zeros (length l - b)
zeroed_rest b l h =
    let z : b + (length l - b) ≡ length l = omega arith in
    zeroed_is b (length l - b) l (omega arith) ∙ rw (z, drop-length, append-nil)

-- a part lent to `zero` comes back: the table with that part zeroed
pub put_zeros : (a k : ℕ) (l ys : List ℕ) → a + k ≤ length l → ys ≡ zeros (length (mid_of a k l)) → put_mid a k l ys ≡ zeroed a k l
put_zeros a k l ys h e =
    let z : length (mid_of a k l) ≡ k = length-take-le k (drop a l) (simp length-drop (omega arith)) in
    rw (e, z, drop-drop k a l, ← append_assoc (take a l) (zeros k) (drop (a + k) l)) (sym (zeroed_is a k l h))

-- two zeroed parts that meet are one
pub zeroed_meet : (b n i m : ℕ) (l : List ℕ) → i ≡ b + n → zeroed i m (zeroed b n l) ≡ zeroed b (n + m) l
unfolding zeroed
zeroed_meet b n i m l e =
    let z : zeros n ++ zeros m ≡ zeros (n + m) = replicate-append-replicate n m 0 in
    sets_append l b i (zeros n) (zeros m) (omega (arith, zeros_length n)) ∙ ap (sets l b) z

-- past the end nothing is stored
pub zeroed_past : (b n : ℕ) (l : List ℕ) → length l ≤ b → zeroed b n l ≡ l
unfolding zeroed
zeroed_past b n l h = sets_past l b (zeros n) h

-- the loop from b on, at its start: no word is zeroed
pub zeroed_start : (b : ℕ) (l : List ℕ) → l ≡ zeroed b (b - b) l
unfolding zeroed
zeroed_start b l = let z : b - b ≡ 0 = omega arith in rw z

-- its turn at i
pub zeroed_next : (b i : ℕ) (l m : List ℕ) → b ≤ i → m ≡ zeroed b (i - b) l → set m i 0 ≡ zeroed b (i + 1 - b) l
unfolding zeroed
zeroed_next b i l m h e =
    let z : i + 1 - b ≡ i - b + 1 = omega arith in
    rw (e, z) (zeroed_meet b (i - b) i 1 l (omega arith))

-- its end: at `to`, or at the end of the table
pub zeroed_end : (b to i : ℕ) (l : List ℕ) → b ≤ i → i - b ≤ to - b → min to (length l) ≤ i → zeroed b (i - b) l ≡ zeroed b (to - b) l
zeroed_end b to i l h q g = go (dec_lt i to)
  where
    go : Dec (i < to) → zeroed b (i - b) l ≡ zeroed b (to - b) l
    go (no p) = let e : i - b ≡ to - b = omega arith in rw e
    go (yes p) =
        let e : to - b ≡ i - b + (to - i) = omega arith in
        let r : length (zeroed b (i - b) l) ≡ length l = zeroed_length b (i - b) l in
        sym (zeroed_past i (to - i) (zeroed b (i - b) l) (omega arith)) ∙ rw e (zeroed_meet b (i - b) i (to - i) l (omega arith))

-- ---- copying

-- the table `to` after the words of `from` are stored in it from the index 0 on; past its end nothing is stored
unfoldable pub copied : List ℕ → List ℕ → List ℕ
copied from to = sets to 0 from

-- the table keeps its length
pub copied_length : (from to : List ℕ) → length (copied from to) ≡ length to
unfolding copied
copied_length from to = length-sets to 0 from

-- the loop's start: no word copied yet
pub copied_start : (from to : List ℕ) → to ≡ copied (take 0 from) to
unfolding copied
copied_start from to = refl

-- its turn at i
pub copied_next : (from to m : List ℕ) (i : ℕ) → i < length from → m ≡ copied (take i from) to → set m i (get_or from i 0) ≡ copied (take (i + 1) from) to
unfolding copied
copied_next from to m i h e =
    rw (e, add-one, take-suc from i 0 h)
    (sets_append to 0 i (take i from) (get_or from i 0 ∷ []) (omega (arith, length-take-le i from (omega arith))))

-- its end: all words of `from`, or all that `to` has room for
pub copied_end : (from to : List ℕ) (i : ℕ) → i ≤ length from → min (length from) (length to) ≤ i → copied (take i from) to ≡ copied from to
unfolding copied
copied_end from to i h q = go (dec_lt i (length from))
  where
    go : Dec (i < length from) → sets to 0 (take i from) ≡ sets to 0 from
    go (no l) = rw (take_all i from (omega arith))
    go (yes l) =
        let r : length (sets to 0 (take i from)) ≡ length to = length-sets to 0 (take i from) in
        sym (sets_past (sets to 0 (take i from)) i (drop i from) (omega arith))
        ∙ (sets_append to 0 i (take i from) (drop i from) (omega (arith, length-take-le i from h))
        ∙ ap (sets to 0) (take-append-drop i from))

-- the first words of `from`, as many as both have, before what `to` has behind them
pub copied_first : (from to : List ℕ) (n : ℕ) → n ≡ min (length from) (length to) → take n from ++ drop n to ≡ copied from to
unfolding copied
copied_first from to n e =
    let k : length (take n from) ≡ n = length-take-le n from (omega arith) in
    let s : sets to 0 (take n from) ≡ take n from ++ drop n to = sets-eq (take n from) to 0 (omega arith) ∙ rw (k, zero-add n) in
    sym s ∙ copied_end from to n (omega arith) (omega arith)

-- read at once: as many words of `from` as `to` has room for, then what `to` has behind them
pub copied_is : (from to : List ℕ) → copied from to ≡ take (length to) from ++ drop (length from) to
unfolding copied
copied_is from to = go (dec_lt (length to) (length from))
  where
    go : Dec (length to < length from) → sets to 0 from ≡ take (length to) from ++ drop (length from) to
    go (no l) = sets-eq from to 0 (omega arith) ∙ rw (take_all (length to) from (omega arith), zero-add (length from))
    go (yes l) =
        let e : length (take (length to) from) ≡ length to = length-take-le (length to) from (omega arith) in
        sym (copied_end from to (length to) (omega arith) (omega arith))
        ∙ (sets-eq (take (length to) from) to 0 (omega arith)
        ∙ rw (e, zero-add (length to), drop-length to, drop_of_length-le to {i = length from} (omega arith)))
