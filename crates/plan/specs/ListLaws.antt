-- Generic: laws of lists of numbers and of tables of flags. Assumes nothing.
use Rattle.std.proofs.Common.{◌∙◌, ap, sym, inl, inr, arith, eqb→eq, ne_eqb}
use Rattle.std.specs.Prelude.{◌≡◌, refl, ◌⊎◌, Bool, ◌||◌, cond, false, not, true, List, [], ◌++◌, ◌∷◌, map, ◌+◌, ◌<◌, ◌≤◌, suc, zero, ℕ, get_or, length, replicate, T, eqb, leb}
use Rattle.std.proofs.lemmas.Bool.{false≢true}
use Rattle.std.proofs.Math.Decide.{ℕ_discrete}
use Rattle.std.proofs.Math.Nat.{suc_inj}
use Rattle.std.proofs.Math.Dec.{eqb_refl}
use Rattle.tables.specs.Tests.{or_pass}
use Rattle.plan.specs.Lists.{count, member, filter, any_of, count_up, first_of, better, best}
use Rattle.plan.specs.TestLaws.{or_first, or_second}

-- ---- members

-- what is in the list and passes is among those that pass
pub member_filter : (p : ℕ → Bool) (xs : List ℕ) (r : ℕ) → T (member r xs) → T (p r) → T (member r (filter p xs))
member_filter p [] r t u = absurd t
member_filter p (x ∷ xs) r t u = go (p x) refl (or_pass (eqb r x) (member r xs) t) (λ v. member_filter p xs r v u)
  where
    go : (b : Bool) → p x ≡ b → T (eqb r x) ⊎ T (member r xs) → (T (member r xs) → T (member r (filter p xs)))
        → T (member r (cond b (x ∷ filter p xs) (filter p xs)))
    go true q (inl v) ih = or_first (eqb r x) (member r (filter p xs)) v
    go true q (inr v) ih = or_second (eqb r x) (member r (filter p xs)) (ih v)
    go false q (inl v) ih = absurd (rw q at (rw (eqb→eq r x v) at u))
    go false q (inr v) ih = ih v

-- .. and back
pub filter_member : (p : ℕ → Bool) (xs : List ℕ) (r : ℕ) → T (member r (filter p xs)) → T (member r xs) × T (p r)
filter_member p [] r t = absurd t
filter_member p (x ∷ xs) r t = go (p x) refl (λ q. filter_member p xs r q) t
  where
    go₂ : p x ≡ true → (T (member r (filter p xs)) → T (member r xs) × T (p r)) → T (eqb r x) ⊎ T (member r (filter p xs)) → T (eqb r x || member r xs) × T (p r)
    go₂ e ih (inl c) = (or_first (eqb r x) (member r xs) c, rw (eqb→eq r x c, e) tt)
    go₂ e ih (inr c) = (or_second (eqb r x) (member r xs) (ih c).0, (ih c).1)

    go : (b : Bool) → p x ≡ b → (T (member r (filter p xs)) → T (member r xs) × T (p r)) → T (member r (cond b (x ∷ filter p xs) (filter p xs)))
        → T (eqb r x || member r xs) × T (p r)
    go true e ih q = go₂ e ih (or_pass (eqb r x) (member r (filter p xs)) q)
    go false e ih q = (or_second (eqb r x) (member r xs) (ih q).0, (ih q).1)

-- what is in an image is the image of something in the list
pub member_map : (f : ℕ → ℕ) (xs : List ℕ) (m : ℕ) → T (member m (map f xs)) → (a : ℕ) × T (member a xs) × (m ≡ f a)
member_map f [] m t = absurd t
member_map f (x ∷ xs) m t = go (or_pass (eqb m (f x)) (member m (map f xs)) t) (λ u. member_map f xs m u)
  where
    go : T (eqb m (f x)) ⊎ T (member m (map f xs)) → (T (member m (map f xs)) → (a : ℕ) × T (member a xs) × (m ≡ f a)) → (a : ℕ) × T (member a (x ∷ xs)) × (m ≡ f a)
    go (inl u) ih = (x, or_first (eqb x x) (member x xs) (eqb_refl x), eqb→eq m (f x) u)
    go (inr u) ih = let r = ih u in (r.0, or_second (eqb r.0 x) (member r.0 xs) r.1, r.2)

-- what is in two lists, one behind the other, is in one of them
pub member_append : (xs ys : List ℕ) (a : ℕ) → T (member a (xs ++ ys)) → T (member a xs) ⊎ T (member a ys)
member_append [] ys a t = inr t
member_append (x ∷ xs) ys a t = go (or_pass (eqb a x) (member a (xs ++ ys)) t) (member_append xs ys a)
  where
    back : T (member a xs) ⊎ T (member a ys) → T (member a (x ∷ xs)) ⊎ T (member a ys)
    back (inl u) = inl (or_second (eqb a x) (member a xs) u)
    back (inr u) = inr u

    go : T (eqb a x) ⊎ T (member a (xs ++ ys)) → (T (member a (xs ++ ys)) → T (member a xs) ⊎ T (member a ys)) → T (member a (x ∷ xs)) ⊎ T (member a ys)
    go (inl u) ih = inl (or_first (eqb a x) (member a xs) u)
    go (inr u) ih = back (ih u)

-- .. and back, from the first
pub member_left : (xs ys : List ℕ) (a : ℕ) → T (member a xs) → T (member a (xs ++ ys))
member_left [] ys a t = absurd t
member_left (x ∷ xs) ys a t = go (or_pass (eqb a x) (member a xs) t) (member_left xs ys a)
  where
    go : T (eqb a x) ⊎ T (member a xs) → (T (member a xs) → T (member a (xs ++ ys))) → T (eqb a x || member a (xs ++ ys))
    go (inl u) ih = or_first (eqb a x) (member a (xs ++ ys)) u
    go (inr u) ih = or_second (eqb a x) (member a (xs ++ ys)) (ih u)

-- .. and from the second
pub member_right : (xs ys : List ℕ) (a : ℕ) → T (member a ys) → T (member a (xs ++ ys))
member_right [] ys a t = t
member_right (x ∷ xs) ys a t = or_second (eqb a x) (member a (xs ++ ys)) (member_right xs ys a t)

-- ---- the first that passes, any that passes, the best

-- where one passes, there is a first
pub first_finds : (p : ℕ → Bool) (xs : List ℕ) (r : ℕ) → T (member r xs) → T (p r) → (m : ℕ) × (first_of p xs ≡ suc m)
first_finds p [] r t u = absurd t
first_finds p (x ∷ xs) r t u = go (p x) refl (or_pass (eqb r x) (member r xs) t) (λ v. first_finds p xs r v u)
  where
    go : (b : Bool) → p x ≡ b → T (eqb r x) ⊎ T (member r xs) → (T (member r xs) → (m : ℕ) × (first_of p xs ≡ suc m))
        → (m : ℕ) × (cond b (suc x) (first_of p xs) ≡ suc m)
    go true q c ih = (x, refl)
    go false q (inl v) ih = absurd (rw q at (rw (eqb→eq r x v) at u))
    go false q (inr v) ih = ih v

-- where there is no first, each fails
pub first_zero : (p : ℕ → Bool) (xs : List ℕ) (r : ℕ) → first_of p xs ≡ 0 → T (member r xs) → p r ≡ false
first_zero p [] r h t = absurd t
first_zero p (x ∷ xs) r h t = go (p x) refl (λ q. first_zero p xs r q) h (or_pass (eqb r x) (member r xs) t)
  where
    go : (b : Bool) → p x ≡ b → (first_of p xs ≡ 0 → T (member r xs) → p r ≡ false) → cond b (suc x) (first_of p xs) ≡ 0 → T (eqb r x) ⊎ T (member r xs) → p r ≡ false
    go true e ih q c = absurd (omega arith)
    go false e ih q (inl c) = rw (eqb→eq r x c) e
    go false e ih q (inr c) = ih q c

-- the first is in the list and passes
pub first_some : (p : ℕ → Bool) (xs : List ℕ) (r : ℕ) → first_of p xs ≡ suc r → T (member r xs) × (p r ≡ true)
first_some p [] r h = absurd (omega arith)
first_some p (x ∷ xs) r h = go (p x) refl (λ q. first_some p xs r q) h
  where
    go : (b : Bool) → p x ≡ b → (first_of p xs ≡ suc r → T (member r xs) × (p r ≡ true)) → cond b (suc x) (first_of p xs) ≡ suc r
        → T (eqb r x || member r xs) × (p r ≡ true)
    go true e ih q = let xr : r ≡ x = suc_inj (sym q) in (rw xr (or_first (eqb x x) (member x xs) (eqb_refl x)), rw xr e)
    go false e ih q = (or_second (eqb r x) (member r xs) (ih q).0, (ih q).1)

-- where none passes, no member does
pub any_no : (p : ℕ → Bool) (xs : List ℕ) (r : ℕ) → any_of p xs ≡ false → T (member r xs) → T (p r) → ⊥
any_no p [] r h t u = t
any_no p (x ∷ xs) r h t u = go (p x) refl (or_pass (eqb r x) (member r xs) t) h (λ q v. any_no p xs r q v u)
  where
    go : (b : Bool) → p x ≡ b → T (eqb r x) ⊎ T (member r xs) → (b || any_of p xs) ≡ false → (any_of p xs ≡ false → T (member r xs) → ⊥) → ⊥
    go true q c h ih = false≢true (sym h)
    go false q (inl v) h ih = rw q at (rw (eqb→eq r x v) at u)
    go false q (inr v) h ih = ih h v

-- where a member passes, some does
pub any_at : (p : ℕ → Bool) (xs : List ℕ) (r : ℕ) → T (member r xs) → T (p r) → T (any_of p xs)
any_at p [] r t u = absurd t
any_at p (x ∷ xs) r t u = go (or_pass (eqb r x) (member r xs) t) (λ w. any_at p xs r w u)
  where
    go : T (eqb r x) ⊎ T (member r xs) → (T (member r xs) → T (any_of p xs)) → T (p x || any_of p xs)
    go (inl w) ih = or_first (p x) (any_of p xs) (rw (eqb→eq r x w) at u)
    go (inr w) ih = or_second (p x) (any_of p xs) (ih w)

-- .. and back
pub any_is : (p : ℕ → Bool) (xs : List ℕ) → T (any_of p xs) → (r : ℕ) × T (member r xs) × T (p r)
any_is p [] t = absurd t
any_is p (x ∷ xs) t = go (or_pass (p x) (any_of p xs) t) (λ w. any_is p xs w)
  where
    go : T (p x) ⊎ T (any_of p xs) → (T (any_of p xs) → (r : ℕ) × T (member r xs) × T (p r)) → (r : ℕ) × T (member r (x ∷ xs)) × T (p r)
    go (inl w) ih = (x, or_first (eqb x x) (member x xs) (eqb_refl x), w)
    go (inr w) ih = let r = ih w in (r.0, or_second (eqb r.0 x) (member r.0 xs) r.1, r.2)

-- the best is in the list
pub best_member : (k : ℕ → ℕ) (xs : List ℕ) (r : ℕ) → best k xs ≡ suc r → T (member r xs)
best_member k [] r h = absurd (omega arith)
best_member k (x ∷ xs) r h = go (best k xs) refl h (λ q. best_member k xs r q)
  where
    here : suc x ≡ suc r → T (eqb r x || member r xs)
    here q = let xr : r ≡ x = suc_inj (sym q) in rw xr (or_first (eqb x x) (member x xs) (eqb_refl x))

    go₂ : (b : ℕ) (c : Bool) → best k xs ≡ suc b → cond c (suc b) (suc x) ≡ suc r → (best k xs ≡ suc r → T (member r xs)) → T (eqb r x || member r xs)
    go₂ b true e q ih = or_second (eqb r x) (member r xs) (ih (e ∙ q))
    go₂ b false e q ih = here q

    go : (b : ℕ) → best k xs ≡ b → better k x b ≡ suc r → (best k xs ≡ suc r → T (member r xs)) → T (eqb r x || member r xs)
    go zero e q ih = here q
    go (suc b) e q ih = go₂ b (leb (k x) (k b)) e q ih

better_suc : (k : ℕ → ℕ) (r b : ℕ) → (c : ℕ) × (better k r b ≡ suc c)
better_suc k r zero = (r, refl)
better_suc k r (suc b) = go (leb (k r) (k b))
  where
    go : (t : Bool) → (c : ℕ) × (cond t (suc b) (suc r) ≡ suc c)
    go true = (b, refl)
    go false = (r, refl)

-- a list that is not empty has a best
pub best_suc : (k : ℕ → ℕ) (xs : List ℕ) → 0 < length xs → (c : ℕ) × (best k xs ≡ suc c)
best_suc k [] h = absurd (omega arith)
best_suc k (x ∷ xs) h = better_suc k x (best k xs)

-- ---- counting up

-- the numbers from k up to k + n are counted
pub count_up_member : (k n m : ℕ) → k ≤ m → m < k + n → T (member m (count_up k n))
count_up_member k zero m h l = absurd (omega arith)
count_up_member k (suc n) m h l = go (ℕ_discrete m k) (λ h'. count_up_member (suc k) n m h' (omega arith))
  where
    go : Dec (m ≡ k) → (suc k ≤ m → T (member m (count_up (suc k) n))) → T (eqb m k || member m (count_up (suc k) n))
    go (yes z) ih = or_first (eqb m k) _ (rw z (eqb_refl k))
    go (no z) ih = or_second (eqb m k) (member m (count_up (suc k) n)) (ih (omega arith))

-- .. and no others: none beyond
pub count_up_below : (k n m : ℕ) → T (member m (count_up k n)) → m < k + n
count_up_below k zero m t = absurd t
count_up_below k (suc n) m t = go (or_pass (eqb m k) (member m (count_up (suc k) n)) t) (λ u. count_up_below (suc k) n m u)
  where
    go : T (eqb m k) ⊎ T (member m (count_up (suc k) n)) → (T (member m (count_up (suc k) n)) → m < suc k + n) → m < k + suc n
    go (inl u) ih = let z : m ≡ k = eqb→eq m k u in omega arith
    go (inr u) ih = omega (arith, ih u)

-- n are counted
pub count_up_length : (k n : ℕ) → length (count_up k n) ≡ n
count_up_length k zero = refl
count_up_length k (suc n) = ap suc (count_up_length (suc k) n)

-- ---- flags and options

-- a flag that is set lies in the table
pub flag_inside : (l : List Bool) (n : ℕ) → T (get_or l n false) → n < length l
flag_inside [] n t = absurd t
flag_inside (x ∷ xs) zero t = omega arith
flag_inside (x ∷ xs) (suc n) t = omega (arith, flag_inside xs n t)

-- element i of f over the numbers from k on
pub map_at : {A : Type 0} (f : ℕ → A) (k n i : ℕ) (d : A) → i < n → get_or (map f (count_up k n)) i d ≡ f (k + i)
map_at f k zero i d h = absurd (omega arith)
map_at f k (suc n) zero d h = let z : k + 0 ≡ k = omega arith in rw z
map_at f k (suc n) (suc i) d h = let z : suc k + i ≡ k + suc i = omega arith in rw z at (map_at f (suc k) n i d (omega arith))

-- past them the default is read
pub map_off : {A : Type 0} (f : ℕ → A) (k n i : ℕ) (d : A) → n ≤ i → get_or (map f (count_up k n)) i d ≡ d
map_off f k zero i d h = refl
map_off f k (suc n) zero d h = absurd (omega arith)
map_off f k (suc n) (suc i) d h = map_off f (suc k) n i d (omega arith)

-- no flag of a cleared table is set
pub none_seen : (n i : ℕ) → get_or (replicate n false) i false ≡ false
none_seen zero i = refl
none_seen (suc n) zero = refl
none_seen (suc n) (suc i) = none_seen n i

-- no more are some than there are
pub count_le : (xs : List ℕ) → count xs ≤ length xs
count_le [] = omega arith
count_le (zero ∷ xs) = omega (arith, count_le xs)
count_le (suc x ∷ xs) = omega (arith, count_le xs)

-- ---- ascending lists

-- each is greater than the one before it, and the first is at least k
abbrev pub Ascending : ℕ → List ℕ → Type 0
Ascending k [] = Unit {0}
Ascending k (x ∷ xs) = (k ≤ x) × Ascending (suc x) xs

-- a list in order: what is at least its bound, and not in it, is not below it
pub ascending_ge : (k : ℕ) (xs : List ℕ) (m : ℕ) → Ascending k xs → T (member m xs) → k ≤ m
ascending_ge k [] m a t = absurd t
ascending_ge k (x ∷ xs) m a t = go (or_pass (eqb m x) (member m xs) t) (λ u. ascending_ge (suc x) xs m a.1 u)
  where
    go : T (eqb m x) ⊎ T (member m xs) → (T (member m xs) → suc x ≤ m) → k ≤ m
    go (inl u) ih = let z : m ≡ x = eqb→eq m x u in omega (arith, a.0)
    go (inr u) ih = omega (arith, ih u, a.0)

-- those of k, k + 1, .. that pass ascend
pub ascending_filter : (p : ℕ → Bool) (j k n : ℕ) → j ≤ k → Ascending j (filter p (count_up k n))
ascending_filter p j k zero h = tt
ascending_filter p j k (suc n) h = go (p k) (λ i le. ascending_filter p i (suc k) n le)
  where
    go : (b : Bool) → ((i : ℕ) → i ≤ suc k → Ascending i (filter p (count_up (suc k) n)))
        → Ascending j (cond b (k ∷ filter p (count_up (suc k) n)) (filter p (count_up (suc k) n)))
    go true ih = (h, ih (suc k) (omega arith))
    go false ih = ih j (omega arith)

-- ---- how many pass

-- one more, if the test passes
abbrev pub one_more : Bool → ℕ → ℕ
one_more true n = suc n
one_more false n = n

-- how many pass
abbrev pub passing : (ℕ → Bool) → List ℕ → ℕ
passing p [] = 0
passing p (x ∷ xs) = one_more (p x) (passing p xs)

-- a number below an ascending list changes nothing in it
pub passing_above : (q : ℕ → Bool) (x k : ℕ) (xs : List ℕ) → x < k → Ascending k xs → passing (λ r. not (eqb r x || q r)) xs ≡ passing (λ r. not (q r)) xs
passing_above q x k [] h a = refl
passing_above q x k (y ∷ ys) h a =
    let e : eqb y x ≡ false = ne_eqb y x (λ (p : y ≡ x). omega (arith, a.0)) in
    rw (e, passing_above q x (suc y) ys (omega (arith, a.0)) a.1)

one_more_le : (b : Bool) (m n : ℕ) → m ≤ n → one_more b m ≤ one_more b n
one_more_le true m n h = omega arith
one_more_le false m n h = h

one_more_suc : (b : Bool) (m : ℕ) → one_more b m ≤ suc m
one_more_suc true m = omega arith
one_more_suc false m = omega arith

one_more_up : (b : Bool) (m n : ℕ) → m ≤ suc n → one_more b m ≤ suc (one_more b n)
one_more_up true m n h = omega arith
one_more_up false m n h = h

-- one number more that is barred bars at most one element
pub passing_one : (q : ℕ → Bool) (x k : ℕ) (xs : List ℕ) → Ascending k xs → passing (λ r. not (q r)) xs ≤ suc (passing (λ r. not (eqb r x || q r)) xs)
passing_one q x k [] a = omega arith
passing_one q x k (y ∷ ys) a = go (eqb y x) refl (passing_one q x (suc y) ys a.1)
  where
    go : (b : Bool) → eqb y x ≡ b → passing (λ r. not (q r)) ys ≤ suc (passing (λ r. not (eqb r x || q r)) ys)
        → one_more (not (q y)) (passing (λ r. not (q r)) ys) ≤ suc (one_more (not (b || q y)) (passing (λ r. not (eqb r x || q r)) ys))
    go true e ih =
        let xy : y ≡ x = eqb→eq y x (rw e tt) in
        rw (passing_above q x (suc y) ys (omega arith) a.1) (one_more_suc (not (q y)) _)
    go false e ih = one_more_up (not (q y)) _ _ ih

passing_all : (xs : List ℕ) → passing (λ r. true) xs ≡ length xs
passing_all [] = refl
passing_all (x ∷ xs) = ap suc (passing_all xs)

-- so many elements are left as are not barred
pub unlocked : (locked xs : List ℕ) → Ascending 0 xs → length xs ≤ passing (λ r. not (member r locked)) xs + length locked
unlocked [] xs a = rw passing_all (omega arith)
unlocked (x ∷ locked) xs a = omega (arith, passing_one (λ r. member r locked) x 0 xs a, unlocked locked xs a)

-- those that pass are so many as pass
pub filter_length : (p : ℕ → Bool) (xs : List ℕ) → length (filter p xs) ≡ passing p xs
filter_length p [] = refl
filter_length p (x ∷ xs) = go (p x) (filter_length p xs)
  where
    go : (b : Bool) → length (filter p xs) ≡ passing p xs → length (cond b (x ∷ filter p xs) (filter p xs)) ≡ one_more b (passing p xs)
    go true ih = ap suc ih
    go false ih = ih

-- of two tests that never both pass, no more elements pass than there are
pub passing_apart : (p q : ℕ → Bool) (xs : List ℕ) → ((n : ℕ) → T (p n) → T (q n) → ⊥) → passing p xs + passing q xs ≤ length xs
passing_apart p q [] h = omega arith
passing_apart p q (x ∷ xs) h = go (p x) (q x) (h x) (passing_apart p q xs h)
  where
    go : (a b : Bool) → (T a → T b → ⊥) → passing p xs + passing q xs ≤ length xs → one_more a (passing p xs) + one_more b (passing q xs) ≤ suc (length xs)
    go true true f ih = absurd (f tt tt)
    go true false f ih = omega arith
    go false true f ih = omega arith
    go false false f ih = omega arith

-- no more pass than there are
pub passing_le : (p : ℕ → Bool) (xs : List ℕ) → passing p xs ≤ length xs
passing_le p [] = omega arith
passing_le p (x ∷ xs) = omega (arith, one_more_suc (p x) (passing p xs), passing_le p xs)
