-- codegen.rs: `reads` and `next` name the next read that `distance` and `read_later` do: `left_start`, `left_next`, `left_agrees`. Assumes nothing.
use Rattle.std.specs.Prelude.{◌≡◌, refl, Bool, true, false, cond, ◌||◌, List, [], ◌∷◌, ◌++◌, ℕ, zero, suc, ◌+◌, ◌<◌, length, get_or, set, drop, replicate, T, eqb, leb}
use Rattle.std.proofs.Common.{sym, ap, ◌∙◌, append_assoc, append-nil, arith, length-set, get_or-set_same, get_or-set_other, drop-drop, ne_eqb, eq-eqb, le-leb}
use Rattle.std.proofs.Math.Decide.{ℕ_discrete, dec_lt}
use Rattle.std.proofs.Math.ListN.{get_or-eq_default}
use Rattle.std.proofs.lemmas.List.{length-replicate}
use Rattle.std.proofs.Math.Seq.{drop-nil}
use Rattle.std.proofs.lemmas.Bool.{lt-leb}
use Rattle.tables.specs.Tests.{neither, is_false}
use Rattle.tables.specs.Zeros.{zeros_at}
use Rattle.plan.specs.Lists.{member}
use Rattle.allocate.specs.Allocator.{distance, read_later}
use Rattle.allocate.specs.RustAllocator.{push, push_all, read_table, element_at, next_read_in, passed, advance}

-- ---- the table holds every node's positions

-- a position, as often as the op reads node n
abbrev here : ℕ → List ℕ → ℕ → List ℕ
here position [] n = []
here position (x ∷ xs) n = cond (eqb n x) (position ∷ here position xs n) (here position xs n)

abbrev positions : ℕ → List (List ℕ) → ℕ → List ℕ
positions position [] n = []
positions position (reads ∷ rest) n = here position reads n ++ positions (suc position) rest n

push_length : (k : ℕ) (reads : List ℕ) (table : List (List ℕ)) → length (push_all k reads table) ≡ length table
push_length k [] table = refl
push_length k (x ∷ xs) table = push_length k xs (push k x table) ∙ length-set table x (get_or table x [] ++ (k ∷ []))

push_at : (k : ℕ) (reads : List ℕ) (table : List (List ℕ)) (n : ℕ) → n < length table → get_or (push_all k reads table) n [] ≡ get_or table n [] ++ here k reads n
push_at k [] table n h = sym (append-nil (get_or table n []))
push_at k (x ∷ xs) table n h = push_at k xs (push k x table) n (rw length-set h) ∙ go (ℕ_discrete n x)
  where
    go : Dec (n ≡ x) → get_or (push k x table) n [] ++ here k xs n ≡ get_or table n [] ++ cond (eqb n x) (k ∷ here k xs n) (here k xs n)
    go (yes e) =
        let s : get_or (push k x table) n [] ≡ get_or table n [] ++ (k ∷ []) = rw (← e) (get_or-set_same table n (get_or table n [] ++ (k ∷ [])) [] h) in
        rw (s, eq-eqb n x e) (append_assoc (get_or table n []) (k ∷ []) (here k xs n))
    go (no e) = rw (get_or-set_other table x n (get_or table x [] ++ (k ∷ [])) [] e, ne_eqb n x e)

-- a list for each node
pub table_length : (k : ℕ) (rest table : List (List ℕ)) → length (read_table k rest table) ≡ length table
table_length k [] table = refl
table_length k (r ∷ rest) table = table_length (suc k) rest (push_all k r table) ∙ push_length k r table

table_at : (k : ℕ) (rest : List (List ℕ)) (table : List (List ℕ)) (n : ℕ) → n < length table
    → get_or (read_table k rest table) n [] ≡ get_or table n [] ++ positions k rest n
table_at k [] table n h = sym (append-nil (get_or table n []))
table_at k (r ∷ rest) table n h =
    table_at (suc k) rest (push_all k r table) n (rw (push_length k r table) h)
    ∙ (ap (λ (l : List ℕ). l ++ positions (suc k) rest n) (push_at k r table n h) ∙ append_assoc (get_or table n []) (here k r n) (positions (suc k) rest n))

-- ---- `next` points behind what is done

-- what is left has no position to pass
passed_once : (k : ℕ) (l : List ℕ) → passed k (drop (passed k l) l) ≡ 0
passed_once k [] = refl
passed_once k (x ∷ xs) = go (leb x k) refl (passed_once k xs)
  where
    go : (b : Bool) → leb x k ≡ b → passed k (drop (passed k xs) xs) ≡ 0 → passed k (drop (cond b (suc (passed k xs)) 0) (x ∷ xs)) ≡ 0
    go true q ih = ih
    go false q ih = rw q

-- the positions of node n that are left: once more passed, if the op reads it
advance_at : (k : ℕ) (reads : List ℕ) (table : List (List ℕ)) (next : List ℕ) (n : ℕ) → n < length next
    → let left : List ℕ = drop (get_or next n 0) (get_or table n []) in
    drop (get_or (advance k reads table next) n 0) (get_or table n []) ≡ cond (member n reads) (drop (passed k left) left) left
advance_at k [] table next n h = refl
advance_at k (x ∷ xs) table next n h = advance_at k xs table after n (rw length-set h) ∙ go (ℕ_discrete n x)
  where
    after : List ℕ
    after = set next x (get_or next x 0 + passed k (drop (get_or next x 0) (get_or table x [])))

    left : List ℕ
    left = drop (get_or next n 0) (get_or table n [])

    twice : (b : Bool) → cond b (drop (passed k (drop (passed k left) left)) (drop (passed k left) left)) (drop (passed k left) left) ≡ drop (passed k left) left
    twice true = rw (passed_once k left)
    twice false = refl

    go : Dec (n ≡ x)
        → (let l : List ℕ = drop (get_or after n 0) (get_or table n []) in cond (member n xs) (drop (passed k l) l) l) ≡ cond (eqb n x || member n xs)
        (drop (passed k left) left) left
    go (yes e) =
        let s : get_or after n 0 ≡ get_or next n 0 + passed k left = rw (← e) (get_or-set_same next n (get_or next n 0 + passed k left) 0 h) in
        rw (s, ← drop-drop (passed k left) (get_or next n 0) (get_or table n []), eq-eqb n x e) (twice (member n xs))
    go (no e) =
        let s : get_or after n 0 ≡ get_or next n 0 = get_or-set_other next x n (get_or next x 0 + passed k (drop (get_or next x 0) (get_or table x []))) 0 e in
        rw (s, ne_eqb n x e)

-- an index for each node
pub advance_length : (k : ℕ) (reads : List ℕ) (table : List (List ℕ)) (next : List ℕ) → length (advance k reads table next) ≡ length next
advance_length k [] table next = refl
advance_length k (x ∷ xs) table next =
    advance_length k xs table (set next x (get_or next x 0 + passed k (drop (get_or next x 0) (get_or table x []))))
    ∙ length-set next x (get_or next x 0 + passed k (drop (get_or next x 0) (get_or table x [])))

-- positions to come are not passed
not_passed : (k j : ℕ) (rest : List (List ℕ)) (n : ℕ) → k < j → passed k (positions j rest n) ≡ 0
not_passed k j [] n h = refl
not_passed k j (r ∷ rest) n h = go r (not_passed k (suc j) rest n (omega arith))
  where
    go : (r : List ℕ) → passed k (positions (suc j) rest n) ≡ 0 → passed k (here j r n ++ positions (suc j) rest n) ≡ 0
    go [] ih = ih
    go (x ∷ xs) ih = two (eqb n x) (go xs ih)
      where
        two : (b : Bool) → passed k (here j xs n ++ positions (suc j) rest n) ≡ 0 → passed k (cond b (j ∷ here j xs n) (here j xs n) ++ positions (suc j) rest n) ≡ 0
        two true z = let q : leb j k ≡ false = lt-leb j k h in rw q
        two false z = z

-- those of the op at hand are
passed_here : (k : ℕ) (reads : List ℕ) (l : List ℕ) (n : ℕ) → passed k l ≡ 0 → drop (passed k (here k reads n ++ l)) (here k reads n ++ l) ≡ l
passed_here k [] l n h = rw h
passed_here k (x ∷ xs) l n h = go (eqb n x) (passed_here k xs l n h)
  where
    go : (b : Bool) → drop (passed k (here k xs n ++ l)) (here k xs n ++ l) ≡ l
        → drop (passed k (cond b (k ∷ here k xs n) (here k xs n) ++ l)) (cond b (k ∷ here k xs n) (here k xs n) ++ l) ≡ l
    go true ih = let q : leb k k ≡ true = le-leb k k (omega arith) in rw q ih
    go false ih = ih

none_here : (k : ℕ) (reads : List ℕ) (n : ℕ) → member n reads ≡ false → here k reads n ≡ []
none_here k [] n h = refl
none_here k (x ∷ xs) n h = let p = neither (eqb n x) (member n xs) h in rw p.0 (none_here k xs n p.1)

-- after the op at position k the positions behind it are left
one_on : (k : ℕ) (reads : List ℕ) (rest table : List (List ℕ)) (next : List ℕ) (n : ℕ) → n < length next
    → drop (get_or next n 0) (get_or table n []) ≡ positions k (reads ∷ rest) n
    → drop (get_or (advance k reads table next) n 0) (get_or table n []) ≡ positions (suc k) rest n
one_on k reads rest table next n h e = advance_at k reads table next n h ∙ rw e (go (member n reads) refl)
  where
    go : (b : Bool) → member n reads ≡ b → (let l : List ℕ = here k reads n ++ positions (suc k) rest n in cond b (drop (passed k l) l) l) ≡ positions (suc k) rest n
    go true q = passed_here k reads (positions (suc k) rest n) n (not_passed k (suc k) rest n (omega arith))
    go false q = rw (none_here k reads n q)

-- a node that is not read has none left
none_left : (k : ℕ) (rest : List (List ℕ)) (n : ℕ) → read_later rest n ≡ false → positions k rest n ≡ []
none_left k [] n h = refl
none_left k (r ∷ rest) n h = let p = neither (member n r) (read_later rest n) h in rw (none_here k r n p.0) (none_left (suc k) rest n p.1)

-- ---- the next read

element_drop : (l : List ℕ) (i : ℕ) → element_at l i ≡ element_at (drop i l) 0
element_drop [] zero = refl
element_drop [] (suc i) = refl
element_drop (x ∷ xs) zero = refl
element_drop (x ∷ xs) (suc i) = element_drop xs i

first_position : (k : ℕ) (rest : List (List ℕ)) (n : ℕ) → element_at (positions k rest n) 0 ≡ cond (read_later rest n) (suc (k + distance rest n)) 0
first_position k [] n = refl
first_position k (r ∷ rest) n = go r (first_position (suc k) rest n)
  where
    later : (b : Bool) → element_at (positions (suc k) rest n) 0 ≡ cond b (suc (suc k + distance rest n)) 0
        → element_at (positions (suc k) rest n) 0 ≡ cond b (suc (k + suc (distance rest n))) 0
    later true h = h ∙ omega arith
    later false h = h

    go : (r : List ℕ) → element_at (positions (suc k) rest n) 0 ≡ cond (read_later rest n) (suc (suc k + distance rest n)) 0
        → element_at (here k r n ++ positions (suc k) rest n) 0 ≡ cond (member n r || read_later rest n) (suc (k + cond (member n r) 0 (suc (distance rest n)))) 0
    go [] ih = later (read_later rest n) ih
    go (x ∷ xs) ih = two (eqb n x) (go xs ih)
      where
        two : (b : Bool)
            → element_at (here k xs n ++ positions (suc k) rest n) 0 ≡ cond (member n xs || read_later rest n)
            (suc (k + cond (member n xs) 0 (suc (distance rest n)))) 0
            → element_at (cond b (k ∷ here k xs n) (here k xs n) ++ positions (suc k) rest n) 0
            ≡ cond ((b || member n xs) || read_later rest n) (suc (k + cond (b || member n xs) 0 (suc (distance rest n)))) 0
        two true h = omega arith
        two false h = h

-- ---- THE INVARIANT: at position k, what is left of each node's positions are those of the ops to come

-- what is left of a node's list are its positions from k on
abbrev pub Left : ℕ → List (List ℕ) → List (List ℕ) → List ℕ → Type 0
Left k rest table indices = (n : ℕ) → drop (get_or indices n 0) (get_or table n []) ≡ positions k rest n

-- at the start, where only nodes are read
pub left_start : (nodes : ℕ) (rest : List (List ℕ)) → ((n : ℕ) → T (read_later rest n) → n < nodes)
    → Left 0 rest (read_table 0 rest (replicate nodes [])) (replicate nodes 0)
left_start nodes rest inside n = rw (zeros_at nodes n) (go (dec_lt n nodes))
  where
    empty : List ℕ
    empty = []

    empties_at : (m i : ℕ) → get_or (replicate m empty) i empty ≡ empty
    empties_at zero i = refl
    empties_at (suc m) zero = refl
    empties_at (suc m) (suc i) = empties_at m i

    go : Dec (n < nodes) → get_or (read_table 0 rest (replicate nodes [])) n [] ≡ positions 0 rest n
    go (yes h) =
        table_at 0 rest (replicate nodes []) n (rw (length-replicate nodes empty) h) ∙ ap (λ (l : List ℕ). l ++ positions 0 rest n) (empties_at nodes n)
    go (no h) =
        get_or-eq_default (read_table 0 rest (replicate nodes [])) [] {n = n}
        (omega (arith, table_length 0 rest (replicate nodes empty), length-replicate nodes empty))
        ∙ sym (none_left 0 rest n (is_false (read_later rest n) (λ t. h (inside n t))))

nothing : (xs ys : List ℕ) → [] ≡ xs ++ ys → [] ≡ ys
nothing [] ys h = h
nothing (x ∷ xs) ys h = let z : ◌≡◌ {A = ℕ} 0 1 = cc in absurd (omega arith)

-- one op on
pub left_next : (k : ℕ) (reads : List ℕ) (rest table : List (List ℕ)) (indices : List ℕ) → length table ≡ length indices
    → Left k (reads ∷ rest) table indices → Left (suc k) rest table (advance k reads table indices)
left_next k reads rest table indices same left n = go (dec_lt n (length indices))
  where
    go : Dec (n < length indices) → drop (get_or (advance k reads table indices) n 0) (get_or table n []) ≡ positions (suc k) rest n
    go (yes h) = one_on k reads rest table indices n h (left n)
    go (no h) =
        let e : get_or table n [] ≡ [] = get_or-eq_default table [] {n = n} (omega arith) in
        let l : [] ≡ here k reads n ++ positions (suc k) rest n = sym (rw e (drop-nil (get_or indices n 0))) ∙ left n in
        rw e (drop-nil (get_or (advance k reads table indices) n 0)) ∙ nothing (here k reads n) (positions (suc k) rest n) l

-- so the Rust's next read is the first op to come that reads the node
abbrev pub Agrees : (ℕ → ℕ) → ℕ → List (List ℕ) → Type 0
Agrees next k rest = (n : ℕ) → next n ≡ cond (read_later rest n) (suc (k + distance rest n)) 0

-- the first of them is it
pub left_agrees : (k : ℕ) (rest table : List (List ℕ)) (indices : List ℕ) → Left k rest table indices → Agrees (next_read_in table indices) k rest
left_agrees k rest table indices left n =
    element_drop (get_or table n []) (get_or indices n 0) ∙ (ap (λ (l : List ℕ). element_at l 0) (left n) ∙ first_position k rest n)
