-- Regions of one table, and a region lent as `&mut table[a..e]` that comes back. Where it comes back a proof sees `put_mid a (e - a) table ys` and `mid_of`
-- of borrow.Rule.Slice.PartMut, which has `put_same`, `take_put` and `drop_put` too; `mid_of` is `part`. Assumes nothing.
use Rattle.std.specs.Prelude.{◌≡◌, refl, ◌⊎◌, List, [], ◌∷◌, ◌++◌, ℕ, ◌+◌, ◌-◌, ◌≤◌, ◌<◌, take, get_or, set}
use Rattle.std.proofs.Common.{sym, ◌∙◌, inl, inr, append_assoc, add-one, length-append, length-take, length-drop, take-append-drop, get_or-drop, get_or-take, drop-set-lt, length-take-le, take-suc-set, take-add, drop_at}
use Rattle.std.proofs.Math.Path.{ap}
use native.Mathlib.Omega.{arith}
use Rattle.std.proofs.Math.ListN.{length, drop}
use Rattle.std.proofs.lemmas.List.{drop-set-add, take-set-le, take-append-le, drop-append-le, set-append_left}
use Rattle.std.proofs.Math.Seq.{take-set-lt, take_at, drop-drop, drop-append-add}
use borrow.Rule.Slice.PartMut.{mid_of, put_mid, set_mid_at}

-- the n words of a table from the index b on
unfoldable pub part : ℕ → ℕ → List ℕ → List ℕ
part b n l = take n (drop b l)

-- ---- a part

-- a lent part, as a proof sees it, is a part
pub part_mid : (b n : ℕ) (l : List ℕ) → mid_of b n l ≡ part b n l
unfolding part
part_mid b n l = refl

-- a part inside the table has its count of words
pub length_part : (b n : ℕ) (l : List ℕ) → b + n ≤ length l → length (part b n l) ≡ n
unfolding part
length_part b n l h = length-take-le n (drop b l) (simp length-drop (omega arith))

-- word i of the part is word b + i of the table
pub part_at : (b n : ℕ) (l : List ℕ) (i : ℕ) → i < n → get_or (part b n l) i 0 ≡ get_or l (b + i) 0
unfolding part
part_at b n l i h = get_or-take n (drop b l) i 0 h ∙ get_or-drop b l i 0

-- two parts that meet are one
pub part_meet : (b m n : ℕ) (l : List ℕ) → part b m l ++ part (b + m) n l ≡ part b (m + n) l
unfolding part
part_meet b m n l = sym (take-add m n (drop b l) ∙ ap (λ (x : List ℕ). take m (drop b l) ++ take n x) (drop-drop m b l))

-- a part of the first of two tables, one behind the other
pub part_left : (b n : ℕ) (l m : List ℕ) → b + n ≤ length l → part b n (l ++ m) ≡ part b n l
unfolding part
part_left b n l m h = ap (take n) (drop-append-le b l m (omega arith)) ∙ take-append-le n (drop b l) m (simp length-drop (omega arith))

-- a part of the second
pub part_right : (b n : ℕ) (l m : List ℕ) → length l ≤ b → part b n (l ++ m) ≡ part (b - length l) n m
unfolding part
part_right b n l m h =
    let e : b ≡ length l + (b - length l) = omega arith in
    ap (λ (i : ℕ). take n (drop i (l ++ m))) e ∙ ap (take n) (drop-append-add l m (b - length l))

-- ---- stores

-- a store inside is a store in the part
pub part_in : (b n : ℕ) (l : List ℕ) (j i v : ℕ) → j ≡ b + i → i < n → part b n (set l j v) ≡ set (part b n l) i v
unfolding part
part_in b n l j i v e h = rw e (ap (take n) (drop-set-add b l i v) ∙ take-set-lt n (drop b l) i v h)

-- a store outside leaves the part
pub part_out : (b n : ℕ) (l : List ℕ) (j v : ℕ) → (j < b) ⊎ (b + n ≤ j) → part b n (set l j v) ≡ part b n l
unfolding part
part_out b n l j v (inl h) = ap (take n) (drop-set-lt b l j v h)
part_out b n l j v (inr h) =
    let e : j ≡ b + (j - b) = omega arith in
    rw e (ap (take n) (drop-set-add b l (j - b) v) ∙ take-set-le n (drop b l) (j - b) v (omega arith))

-- a store right behind the part makes it one longer
pub part_push : (b n : ℕ) (l : List ℕ) (v : ℕ) → b + n < length l → part b (n + 1) (set l (b + n) v) ≡ part b n l ++ (v ∷ [])
unfolding part
part_push b n l v h = rw (add-one n, drop-set-add b l n v) (take-suc-set (drop b l) n v (simp length-drop (omega arith)))

-- ---- a part that comes back

-- a store in the lent part is a store in the table
pub put_set : (a k i v : ℕ) (l ys : List ℕ) → a + k ≤ length l → i < k → ys ≡ set (mid_of a k l) i v → put_mid a k l ys ≡ set l (a + i) v
put_set a k i v l ys h q e = rw e (set_mid_at a k i l v (rw (length-take-le k (drop a l) (simp length-drop (omega arith))) q))

-- the same where the first n words were lent, as `&mut table[..n]`
pub front_set : (n i v : ℕ) (l ys : List ℕ) → n ≤ length l → i < n → ys ≡ set (take n l) i v → ys ++ drop n l ≡ set l i v
front_set n i v l ys h q e =
    let p : i < length (take n l) = rw (length-take-le n l h) q in
    rw e (sym (set-append_left (take n l) (drop n l) i v p) ∙ ap (λ (x : List ℕ). set x i v) (take-append-drop n l))

module _ (a k : ℕ) (l ys : List ℕ) (fits : a + k ≤ length l) (same : length ys ≡ k) where
  -- the table keeps its length
  pub put_length : length (put_mid a k l ys) ≡ length l
  put_length = simp (length-append, length-take, length-drop) (omega arith)

  -- the part is what came back
  pub put_part : part a k (put_mid a k l ys) ≡ ys
  unfolding part
  put_part =
      ap (take k) (drop_at (take a l) (ys ++ drop k (drop a l)) a (length-take-le a l (omega arith))) ∙ take_at ys (drop k (drop a l)) k same

  -- a part that ends before it is as it was
  pub put_before : (b n : ℕ) → b + n ≤ a → part b n (put_mid a k l ys) ≡ part b n l
  put_before b n h =
      let p : b + n ≤ length (take a l) = simp length-take (omega arith) in
      part_left b n (take a l) (ys ++ drop k (drop a l)) p ∙ sym (part_left b n (take a l) (drop a l) p) ∙ ap (part b n) (take-append-drop a l)

  -- a part that starts after it is as it was
  pub put_after : (b n : ℕ) → a + k ≤ b → part b n (put_mid a k l ys) ≡ part b n l
  unfolding part
  put_after b n h =
      let e : length (take a l ++ ys) ≡ a + k = simp (length-append, length-take) (omega arith) in
      let z : a + (k + (b - (a + k))) ≡ b = omega arith in
      ap (part b n) (sym (append_assoc (take a l) ys (drop k (drop a l))))
      ∙ (part_right b n (take a l ++ ys) (drop k (drop a l)) (rw e h)
      ∙ rw (e, drop-drop (b - (a + k)) k (drop a l), drop-drop (k + (b - (a + k))) a l, z))
