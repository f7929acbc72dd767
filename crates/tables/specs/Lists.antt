-- `list_of f n`: f of each index below n, in order; its laws, and a loop that writes it into a table. Assumes nothing.
use Rattle.std.specs.Prelude.{◌≡◌, refl, List, [], ◌∷◌, ◌++◌, ℕ, zero, suc, ◌+◌, ◌-◌, ◌≤◌, ◌<◌, length, get_or, set, drop}
use Rattle.std.proofs.Common.{sym, ap, ◌∙◌, append_assoc, append-nil, add-one, arith, length-append, length-drop, drop-cons}
use Rattle.std.proofs.Math.Decide.{dec_lt}
use Rattle.std.proofs.Math.ListN.{get_or-append}
use Rattle.std.proofs.lemmas.List.{get_or_at, set_at}
use Rattle.std.proofs.Math.Seq.{drop-length}
use Rattle.tables.specs.Zeros.{zeros}

-- f of each index below n, in order
unfoldable pub list_of : (ℕ → ℕ) → ℕ → List ℕ
list_of f zero = []
list_of f (suc n) = list_of f n ++ (f n ∷ [])

-- it has n words
pub list_length : (f : ℕ → ℕ) (n : ℕ) → length (list_of f n) ≡ n
unfolding list_of
list_length f zero = refl
list_length f (suc n) = let e = list_length f n in simp length-append (omega arith)

-- word i is f i
pub list_at : (f : ℕ → ℕ) (n i : ℕ) → i < n → get_or (list_of f n) i 0 ≡ f i
unfolding list_of
list_at f zero i h = absurd (omega arith)
list_at f (suc n) i h = go (dec_lt i n) (list_at f n i)
  where
    go : Dec (i < n) → (i < n → get_or (list_of f n) i 0 ≡ f i) → get_or (list_of f n ++ (f n ∷ [])) i 0 ≡ f i
    go (yes q) ih = get_or-append (list_of f n) (f n ∷ []) 0 i (rw (list_length f n) q) ∙ ih q
    go (no q) ih =
        let e : i ≡ n = omega arith in
        rw e (get_or_at (list_of f n) (f n) [] 0 n (list_length f n))

-- functions that agree below n make one list
pub list_same : (f g : ℕ → ℕ) (n : ℕ) → ((i : ℕ) → i < n → f i ≡ g i) → list_of f n ≡ list_of g n
unfolding list_of
list_same f g zero h = refl
list_same f g (suc n) h = let e = list_same f g n (λ i q. h i (omega arith)) in rw (e, h n (omega arith))

-- ---- a loop that stores f i at i

-- the table l with f of the first n indices in its first n words
unfoldable pub filled : (ℕ → ℕ) → ℕ → List ℕ → List ℕ
filled f n l = list_of f n ++ drop n l

-- the loop's start: no word stored yet
pub filled_start : (f : ℕ → ℕ) (l : List ℕ) → l ≡ filled f 0 l
unfolding filled list_of
filled_start f l = refl

-- its turn at i
pub filled_next : (f : ℕ → ℕ) (i : ℕ) (l m : List ℕ) → i < length l → m ≡ filled f i l → set m i (f i) ≡ filled f (i + 1) l
unfolding filled list_of
filled_next f i l m h e =
    rw (e, drop-cons l i 0 h, add-one)
    (set_at (list_of f i) (get_or l i 0) (drop (suc i) l) (f i) i (list_length f i) ∙ sym (append_assoc (list_of f i) (f i ∷ []) (drop (suc i) l)))

-- its end, in a table of i words
pub filled_last : (f : ℕ → ℕ) (i : ℕ) (l m : List ℕ) → i ≡ length l → m ≡ filled f i l → m ≡ list_of f (length l)
unfolding filled
filled_last f i l m h e = e ∙ rw (h, drop-length, append-nil)

-- the table keeps its length
pub filled_length : (f : ℕ → ℕ) (i : ℕ) (l m : List ℕ) → i ≤ length l → m ≡ filled f i l → length m ≡ length l
unfolding filled
filled_length f i l m h e = ap length e ∙ simp (length-append, list_length, length-drop) (omega arith)

-- its end, in a table of zeros
pub drop_zeros : (n m : ℕ) → drop n (zeros m) ≡ zeros (m - n)
drop_zeros zero m = let z : m - 0 ≡ m = omega arith in rw z
drop_zeros (suc n) zero = let z : 0 - suc n ≡ 0 = omega arith in rw z
drop_zeros (suc n) (suc m) = let z : suc m - suc n ≡ m - n = omega arith in rw z (drop_zeros n m)

pub filled_zeros : (f : ℕ → ℕ) (n m : ℕ) → filled f n (zeros m) ≡ list_of f n ++ zeros (m - n)
unfolding filled
filled_zeros f n m = rw (drop_zeros n m)
