-- Generic: words written over a region of one table, and what a region holds. Assumes nothing.
use Rattle.std.specs.Prelude.{◌≡◌, refl, ◌⊎◌, Bool, true, false, List, [], ◌∷◌, ◌++◌, map, ℕ, zero, suc, ◌+◌, ◌-◌, ◌≤◌, ◌<◌, length, take, drop, get_or, set}
use Rattle.std.proofs.Common.{sym, ap, ◌∙◌, inl, inr, arith, set-set, ext_get_or}
use Rattle.std.proofs.Math.Decide.{dec_lt}
use Rattle.std.proofs.lemmas.List.{length-map, set_comm}
use Rattle.std.proofs.Math.ListN.{get_or-map}
use Rattle.std.proofs.lemmas.List.Edits.{sets, sets-eq}
use Rattle.std.proofs.Math.Seq.{length-sets}
use Rattle.tables.specs.Stores.{sets_append, sets_in, sets_out}

-- the table with these words from `base` on
unfoldable pub written : ℕ → List ℕ → List ℕ → List ℕ
written base words table = sets table base words

-- in a table that has room for them: what lies before them, the words, what lies behind them
pub written_is : (base : ℕ) (words table : List ℕ) → base + length words ≤ length table
    → written base words table ≡ take base table ++ words ++ drop (base + length words) table
unfolding written
written_is base words table h = sets-eq words table base h

-- the table keeps its length
pub written_length : (base : ℕ) (words table : List ℕ) → length (written base words table) ≡ length table
unfolding written
written_length base words table = length-sets table base words

-- no words
pub written_none : (base : ℕ) (table : List ℕ) → written base [] table ≡ table
unfolding written
written_none base table = refl

-- a written word
pub written_in : (base : ℕ) (words table : List ℕ) (j i : ℕ) → j ≡ base + i → i < length words → base + length words ≤ length table
    → get_or (written base words table) j 0 ≡ get_or words i 0
unfolding written
written_in base words table j i e h r = rw e (sets_in table base words i (omega arith) h)

-- any other word
pub written_out : (base : ℕ) (words table : List ℕ) (j : ℕ) → (j < base) ⊎ (base + length words ≤ j) → get_or (written base words table) j 0 ≡ get_or table j 0
unfolding written
written_out base words table j h = sets_out table base words j h

-- one word more behind them
pub written_push : (base : ℕ) (words table : List ℕ) (j v : ℕ) → j ≡ base + length words → set (written base words table) j v ≡ written base (words ++ (v ∷ [])) table
unfolding written
written_push base words table j v e = sets_append table base j words (v ∷ []) e

-- two runs of words, the second right behind the first, are one
pub written_join : (base : ℕ) (words more table : List ℕ) (j : ℕ) → j ≡ base + length words
    → written j more (written base words table) ≡ written base (words ++ more) table
unfolding written
written_join base words more table j e = sets_append table base j words more e

-- a store before a run of words
set_before : (l : List ℕ) (i j v : ℕ) (ws : List ℕ) → j < i → set (sets l i ws) j v ≡ sets (set l j v) i ws
set_before l i j v [] h = refl
set_before l i j v (w ∷ ws) h = set_before (set l i w) (suc i) j v ws (omega arith) ∙ ap (λ (x : List ℕ). sets x (suc i) ws) (set_comm l i j w v (λ e. omega arith))

-- a store anywhere beside a run of words
pub set_beside : (base : ℕ) (words table : List ℕ) (j v : ℕ) → (j < base) ⊎ (base + length words ≤ j)
    → set (written base words table) j v ≡ written base words (set table j v)
unfolding written
set_beside base [] table j v h = refl
set_beside base (w ∷ words) table j v (inl h) = set_before table base j v (w ∷ words) h
set_beside base (w ∷ words) table j v (inr h) =
    set_beside (suc base) words (set table base w) j v (inr (omega arith)) ∙ ap (λ (x : List ℕ). sets x (suc base) words) (set_comm table base j w v (λ e. omega arith))

-- a store into them
pub written_set : (base : ℕ) (words table : List ℕ) (j i v : ℕ) → j ≡ base + i → i < length words → set (written base words table) j v ≡ written base (set words i v) table
unfolding written
written_set base [] table j i v e h = absurd (omega arith)
written_set base (w ∷ words) table j zero v e h =
    let z : j ≡ base = omega arith in
    rw z (set_before (set table base w) (suc base) base v words (omega arith) ∙ ap (λ (x : List ℕ). sets x (suc base) words) (set-set table base w v))
written_set base (w ∷ words) table j (suc i) v e h = written_set (suc base) words (set table base w) j i v (omega arith) (omega arith)

-- two runs of words apart from each other, in either order
pub written_swap : (base : ℕ) (words : List ℕ) (other : ℕ) (others table : List ℕ) → (base + length words ≤ other) ⊎ (other + length others ≤ base)
    → written base words (written other others table) ≡ written other others (written base words table)
unfolding written
written_swap base words other [] table h = refl
written_swap base words other (w ∷ others) table (inl h) =
    written_swap base words (suc other) others (set table other w) (inl (omega arith))
    ∙ ap (λ (x : List ℕ). sets x (suc other) others) (sym (set_beside base words table other w (inr (omega arith))))
written_swap base words other (w ∷ others) table (inr h) =
    written_swap base words (suc other) others (set table other w) (inr (omega arith))
    ∙ ap (λ (x : List ℕ). sets x (suc other) others) (sym (set_beside base words table other w (inl (omega arith))))

-- written over by as many words
pub written_again : (base : ℕ) (words before table : List ℕ) → length words ≡ length before → written base words (written base before table) ≡ written base words table
unfolding written
written_again base [] [] table e = refl
written_again base [] (v ∷ before) table e = absurd (omega arith)
written_again base (w ∷ words) [] table e = absurd (omega arith)
written_again base (w ∷ words) (v ∷ before) table e =
    ap (λ (x : List ℕ). sets x (suc base) words) (set_before (set table base v) (suc base) base w before (omega arith))
    ∙ (written_again (suc base) words before (set (set table base v) base w) (omega arith)
    ∙ ap (λ (x : List ℕ). sets x (suc base) words) (set-set table base v w))

-- ---- what a region holds

-- the table has these words from `base` on
unfoldable pub Region : ℕ → List ℕ → List ℕ → Type 0
Region base words table = (base + length words ≤ length table) × ((i : ℕ) → i < length words → get_or table (base + i) 0 ≡ get_or words i 0)

-- it has room for them
pub region_room : (base : ℕ) (words table : List ℕ) → Region base words table → base + length words ≤ length table
unfolding Region
region_room base words table r = r.0

-- word i of them
pub region_at : (base : ℕ) (words table : List ℕ) (j i : ℕ) → Region base words table → j ≡ base + i → i < length words → get_or table j 0 ≡ get_or words i 0
unfolding Region
region_at base words table j i r e h = rw e (r.1 i h)

-- what is written is held
pub region_written : (base : ℕ) (words table : List ℕ) → base + length words ≤ length table → Region base words (written base words table)
unfolding Region
region_written base words table h =
    (omega (arith, written_length base words table), λ i q. written_in base words table (base + i) i refl q h)

-- words written elsewhere leave it
pub region_kept : (base : ℕ) (words : List ℕ) (other : ℕ) (others table : List ℕ) → Region base words table
    → (base + length words ≤ other) ⊎ (other + length others ≤ base) → Region base words (written other others table)
unfolding Region
region_kept base words other others table r h =
    (omega (arith, written_length other others table, r.0), λ i q. written_out other others table (base + i) (apart i q h) ∙ r.1 i q)
  where
    apart : (i : ℕ) → i < length words → (base + length words ≤ other) ⊎ (other + length others ≤ base) → (base + i < other) ⊎ (other + length others ≤ base + i)
    apart i q (inl g) = inl (omega arith)
    apart i q (inr g) = inr (omega arith)

-- a table that holds them is as if they were written
pub region_own : (base : ℕ) (words table : List ℕ) → Region base words table → table ≡ written base words table
unfolding Region
region_own base words table r =
    ext_get_or 0 table (written base words table) (sym (written_length base words table)) (λ j h. go j (dec_lt j base) (dec_lt j (base + length words)))
  where
    go : (j : ℕ) → Dec (j < base) → Dec (j < base + length words) → get_or table j 0 ≡ get_or (written base words table) j 0
    go j (yes p) d = sym (written_out base words table j (inl p))
    go j (no p) (no q) = sym (written_out base words table j (inr (omega arith)))
    go j (no p) (yes q) =
        let e : j ≡ base + (j - base) = omega arith in
        ap (λ (k : ℕ). get_or table k 0) e ∙ r.1 (j - base) (omega arith) ∙ sym (written_in base words table j (j - base) e (omega arith) r.0)

-- ---- flags

-- a flag as a word
abbrev pub flag : Bool → ℕ
flag true = 1
flag false = 0

-- flags as words
abbrev pub flags : List Bool → List ℕ
flags marks = map flag marks

-- a word for each flag
pub flags_length : (marks : List Bool) → length (flags marks) ≡ length marks
flags_length marks = length-map marks flag

-- word i
pub flags_at : (marks : List Bool) (i : ℕ) → get_or (flags marks) i 0 ≡ flag (get_or marks i false)
flags_at marks i = get_or-map flag marks i false

-- a flag stored
pub flags_set : (marks : List Bool) (i : ℕ) (b : Bool) → set (flags marks) i (flag b) ≡ flags (set marks i b)
flags_set [] i b = refl
flags_set (m ∷ marks) zero b = refl
flags_set (m ∷ marks) (suc i) b = ap (λ (x : List ℕ). flag m ∷ x) (flags_set marks i b)

-- flags behind flags
pub flags_append : (marks more : List Bool) → flags (marks ++ more) ≡ flags marks ++ flags more
flags_append [] more = refl
flags_append (m ∷ marks) more = ap (λ (x : List ℕ). flag m ∷ x) (flags_append marks more)
