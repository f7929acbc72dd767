-- Laws that are not of files, and would stand in tables/specs and answers/specs: stores from an index on, lists of a function's values, a word of one list behind
-- another, answers that are all accepted. Assumes nothing.
use Rattle.std.specs.Prelude.{◌≡◌, ℕ, zero, suc, ◌+◌, ◌-◌, ◌<◌, ◌≤◌, List, [], ◌∷◌, ◌++◌, length, take, drop, slice_index, slice_set, refl}
use Rattle.std.proofs.Common.{sym, ap, ◌∙◌, append_assoc, append-nil, add-one, arith, get_or-append-add, take_at, take_all}
use Rattle.std.proofs.Math.ListN.{get_or-append}
use Rattle.std.proofs.lemmas.List.Edits.{sets}
use Rattle.tables.specs.Stores.{sets_append}
use Rattle.tables.specs.Zeros.{copied, copied_is}
use Rattle.tables.specs.Lists.{list_of, list_length}
use Rattle.answers.specs.Numbers.{Answer, accepted}
use Rattle.answers.specs.Order.{in_order}
use Rattle.answers.specs.OrderLaws.{then_pass}

-- ---- lists of a function's values

-- f of the indices from i on
abbrev pub shifted : (ℕ → ℕ) → ℕ → ℕ → ℕ
shifted f i k = f (i + k)

pub list_add : (f : ℕ → ℕ) (i n : ℕ) → list_of f (i + n) ≡ list_of f i ++ list_of (shifted f i) n
unfolding list_of
list_add f i zero = let z : i + 0 ≡ i = omega arith in rw (z, append-nil)
list_add f i (suc n) =
    let z : i + suc n ≡ suc (i + n) = omega arith in
    rw z (ap (λ (x : List ℕ). x ++ (f (i + n) ∷ [])) (list_add f i n) ∙ append_assoc (list_of f i) (list_of (shifted f i) n) (f (i + n) ∷ []))

-- one index more
pub list_next : (g : ℕ → ℕ) (n : ℕ) → list_of g (suc n) ≡ list_of g n ++ (g n ∷ [])
unfolding list_of
list_next g n = refl

-- ---- a loop that stores f i at i, from the index b on

pub stores_start : (f : ℕ → ℕ) (b : ℕ) (l : List ℕ) → l ≡ sets l b (list_of f 0)
unfolding list_of
stores_start f b l = refl

pub stores_next : (f : ℕ → ℕ) (b i w : ℕ) (l m : List ℕ) → m ≡ sets l b (list_of f i) → w ≡ f i → slice_set m (b + i) w ≡ sets l b (list_of f (i + 1))
unfolding list_of
stores_next f b i w l m e g =
    let z : b + i ≡ b + length (list_of f i) = ap (λ (x : ℕ). b + x) (sym (list_length f i)) in
    rw (e, g, add-one) (sets_append l b (b + i) (list_of f i) (f i ∷ []) z)

-- ---- a word of one list behind another
pub append_in : (l m : List ℕ) (i : ℕ) → i < length l → slice_index (l ++ m) i ≡ slice_index l i
append_in l m i h = get_or-append l m 0 i h

pub append_past : (l m : List ℕ) (i : ℕ) → length l ≤ i → slice_index (l ++ m) i ≡ slice_index m (i - length l)
append_past l m i h =
    let z : i ≡ length l + (i - length l) = omega arith in
    ap (λ (x : ℕ). slice_index (l ++ m) x) z ∙ get_or-append-add l m (i - length l) 0

-- the first words of a table after a copy are those copied
pub copied_first : (from to : List ℕ) (n : ℕ) → length from ≡ n → n ≤ length to → take n (copied from to) ≡ from
copied_first from to n e h =
    ap (take n) (copied_is from to)
    ∙ (ap (λ (l : List ℕ). take n (l ++ drop (length from) to)) (take_all (length to) from (omega arith)) ∙ take_at from (drop (length from) to) n e)

-- ---- answers that are all accepted
pub in_order_all : (answer : ℕ → Answer Unit) (n : ℕ) → ((i : ℕ) → i < n → answer i ≡ accepted tt) → in_order answer n ≡ accepted tt
unfolding in_order
in_order_all answer zero h = refl
in_order_all answer (suc n) h = then_pass (answer n) (in_order_all answer n (λ i l. h i (omega arith))) ∙ h n (omega arith)
