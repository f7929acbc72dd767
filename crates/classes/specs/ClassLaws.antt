-- What the classes are, said without how they are computed: a class is the first node of its code and keys (`class_says`, `class_least`), two nodes are of
-- one class where code and keys agree (`one_class`), and `find` finds the class of the nodes that have a code and two keys (`find_says`, `finds`). Assumes
-- nothing.
use Rattle.std.specs.Prelude.{◌≡◌, ◌↔◌, ◌⊎◌, Bool, true, false, cond, ◌&&◌, List, [], ◌∷◌, ◌++◌, length, get_or, leb, eqb}
use Rattle.std.proofs.Math.Path.{refl, sym}
use Rattle.std.proofs.Common.{ap, ◌∙◌, inl, inr, eq-or-lt_of_le, le_of_suc-le-suc, not-suc-le-zero, arith, length-append, eq-eqb, ne_eqb, eqb-true, le-leb, le-ltb}
use Prim.Native.Nat.{ℕ, zero, suc, ◌≤◌, ◌<◌, pred}
use Rattle.std.proofs.Math.Decide.{dec_lt}
use Rattle.std.proofs.Math.ListN.{get_or-append}
use Rattle.std.proofs.lemmas.List.{get_or_at}
use Rattle.std.proofs.lemmas.Bool.{lt-leb}
use Rattle.tables.specs.Tests.{◌&◌, &_both, &_true, true_false, clash}
use Rattle.tables.specs.Loops.{every, every_true}
use Rattle.block.specs.Block.{code, first, second}
use Rattle.block.specs.Kinds.{kind_of}
use Rattle.block.specs.KindLaws.{kind_unknown}
use Rattle.classes.specs.Classes.{first_place, is_operand, key_of, first_key, second_key, has_keys, class_from, classes_to, find}

-- ---- the first index that passes

not_zero : (n : ℕ) → eqb (suc n) 0 ≡ false
not_zero n = ne_eqb (suc n) 0 (λ e. omega arith)

-- where a place is found its index passes and is below n
pub place_says : (passes : ℕ → Bool) (n i : ℕ) → first_place passes n ≡ suc i → (passes i ≡ true) × (i < n)
unfolding first_place
place_says passes zero i e = absurd (omega arith)
place_says passes (suc n) i e = go (first_place passes n) (passes n) refl (place_says passes n i) e
  where
    go : (before : ℕ) (here : Bool) → passes n ≡ here → (before ≡ suc i → (passes i ≡ true) × (i < n))
        → cond (eqb before 0) (cond here (suc n) 0) before ≡ suc i → (passes i ≡ true) × (i < suc n)
    go (suc before) here q ih e = let h = ih (rw (not_zero before) at e) in (h.0, omega arith)
    go zero true q ih e = let f : i ≡ n = omega arith in (rw f q, omega arith)
    go zero false q ih e = absurd (omega arith)

-- where an index passes, a place is found, and no later one
pub place_least : (passes : ℕ → Bool) (n m : ℕ) → m < n → passes m ≡ true → (i : ℕ) × (first_place passes n ≡ suc i) × (i ≤ m)
unfolding first_place
place_least passes zero m l t = absurd (not-suc-le-zero l)
place_least passes (suc n) m l t =
    go (eq-or-lt_of_le (le_of_suc-le-suc l)) (first_place passes n) (passes n) refl refl (λ q. place_least passes n m q t)
  where
    go : (m ≡ n) ⊎ (m < n) → (before : ℕ) (here : Bool) → first_place passes n ≡ before → passes n ≡ here
        → (m < n → (i : ℕ) × (first_place passes n ≡ suc i) × (i ≤ m))
        → (i : ℕ) × (cond (eqb before 0) (cond here (suc n) 0) before ≡ suc i) × (i ≤ m)
    go (inr q) zero here e f ih = let (i, z, _) = ih q in absurd (omega arith)
    go (inr q) (suc before) here e f ih = let (i, z, h) = ih q in (before, rw (not_zero before), omega arith)
    go (inl q) zero true e f ih = (n, refl, omega arith)
    go (inl q) zero false e f ih = clash (passes n) (rw q at t) f
    go (inl q) (suc before) here e f ih = (before, rw (not_zero before), let h = (place_says passes n before e).1 in omega arith)

-- ---- the table of the classes

-- the class of node i
unfoldable pub class_of : List ℕ → ℕ → ℕ
class_of nodes i = class_from nodes (classes_to nodes i) i

pub classes_length : (nodes : List ℕ) (n : ℕ) → length (classes_to nodes n) ≡ n
unfolding classes_to
classes_length nodes zero = refl
classes_length nodes (suc n) = simp (length-append, classes_length nodes n) (omega arith)

-- a table has the classes of the first n nodes in front
abbrev pub Known : List ℕ → List ℕ → ℕ → Type 0
Known nodes table n = (i : ℕ) → i < n → get_or table i 0 ≡ class_of nodes i

pub class_at : (nodes : List ℕ) (n : ℕ) → Known nodes (classes_to nodes n) n
unfolding classes_to class_of
class_at nodes zero i h = absurd (not-suc-le-zero h)
class_at nodes (suc n) i h = go (eq-or-lt_of_le (le_of_suc-le-suc h)) (class_at nodes n i)
  where
    go : (i ≡ n) ⊎ (i < n) → (i < n → get_or (classes_to nodes n) i 0 ≡ class_from nodes (classes_to nodes i) i)
        → get_or (classes_to nodes n ++ (class_from nodes (classes_to nodes n) n ∷ [])) i 0 ≡ class_from nodes (classes_to nodes i) i
    go (inl p) ih = rw p (get_or_at (classes_to nodes n) (class_from nodes (classes_to nodes n) n) [] 0 n (classes_length nodes n))
    go (inr q) ih = get_or-append (classes_to nodes n) _ 0 i (rw (classes_length nodes n) q) ∙ ih q

-- ---- the keys of a node, by the classes of the nodes before it

unfoldable pub own_first : List ℕ → ℕ → ℕ
own_first nodes i = first_key nodes (classes_to nodes i) i

unfoldable pub own_second : List ℕ → ℕ → ℕ
own_second nodes i = second_key nodes (classes_to nodes i) i

-- node i has this code and these keys, as a test and as three facts
unfoldable pub own_keys : List ℕ → ℕ → ℕ → ℕ → ℕ → Bool
own_keys nodes c x y i = has_keys nodes (classes_to nodes i) c x y i

pub record Same (nodes : List ℕ) (c x y i : ℕ) : Type 0 where
  pub code : code nodes i ≡ c
  pub first : own_first nodes i ≡ x
  pub second : own_second nodes i ≡ y

pub keys_say : (nodes : List ℕ) (c x y i : ℕ) → own_keys nodes c x y i ≡ true → Same nodes c x y i
unfolding own_keys has_keys own_first own_second
keys_say nodes c x y i e =
    let p = &_both _ _ e in
    let q = &_both _ _ p.1 in
    record { code = eqb-true _ _ p.0; first = eqb-true _ _ q.0; second = eqb-true _ _ q.1 }

pub keys_of : (nodes : List ℕ) (c x y i : ℕ) → Same nodes c x y i → own_keys nodes c x y i ≡ true
unfolding own_keys has_keys own_first own_second
keys_of nodes c x y i s =
    &_true _ _ (eq-eqb _ _ s.code) (&_true _ _ (eq-eqb _ _ s.first) (eq-eqb _ _ s.second))

-- the test of `class_from`: a node before node i is like it
abbrev like_node : List ℕ → ℕ → ℕ → Bool
like_node nodes i = has_keys nodes (classes_to nodes i) (code nodes i) (first_key nodes (classes_to nodes i) i) (second_key nodes (classes_to nodes i) i)

-- node i has its own keys
pub same_self : (nodes : List ℕ) (i : ℕ) → Same nodes (code nodes i) (own_first nodes i) (own_second nodes i) i
same_self nodes i = record { code = refl; first = refl; second = refl }

-- a node with the keys of one that has keys
pub same_same : {nodes : List ℕ} {c x y i j : ℕ} → Same nodes (code nodes j) (own_first nodes j) (own_second nodes j) i → Same nodes c x y j → Same nodes c x y i
same_same s u = record { code = s.code ∙ u.code; first = s.first ∙ u.first; second = s.second ∙ u.second }

pub same_back : {nodes : List ℕ} {i j : ℕ} → Same nodes (code nodes j) (own_first nodes j) (own_second nodes j) i
    → Same nodes (code nodes i) (own_first nodes i) (own_second nodes i) j
same_back s = record { code = sym s.code; first = sym s.first; second = sym s.second }

-- ---- operands that stand before their node

-- of each of the first n nodes the operands stand before it
pub record Backward (nodes : List ℕ) (n : ℕ) : Type 0 where
  pub first : (i : ℕ) → i < n → is_operand (code nodes i) 0 ≡ true → first nodes i < i
  pub second : (i : ℕ) → i < n → is_operand (code nodes i) 1 ≡ true → second nodes i < i

key_same : (operand : Bool) (l m : List ℕ) (word : ℕ) → (operand ≡ true → get_or l word 0 ≡ get_or m word 0) → key_of operand l word ≡ key_of operand m word
unfolding key_of
key_same true l m word h = h refl
key_same false l m word h = refl

module _ (nodes : List ℕ) (n : ℕ) (back : Backward nodes n) where
  -- any table that has the classes of the nodes before gives the keys
  pub first_known : (table : List ℕ) (i : ℕ) → i < n → Known nodes table i → first_key nodes table i ≡ own_first nodes i
  unfolding first_key own_first
  first_known table i h k =
      key_same (is_operand (code nodes i) 0) table (classes_to nodes i) (first nodes i)
      (λ t. let l = back.first i h t in k _ l ∙ sym (class_at nodes i _ l))

  pub second_known : (table : List ℕ) (i : ℕ) → i < n → Known nodes table i → second_key nodes table i ≡ own_second nodes i
  unfolding second_key own_second
  second_known table i h k =
      key_same (is_operand (code nodes i) 1) table (classes_to nodes i) (second nodes i)
      (λ t. let l = back.second i h t in k _ l ∙ sym (class_at nodes i _ l))

  -- and the test
  pub keys_known : (table : List ℕ) (c x y i : ℕ) → i < n → Known nodes table i → has_keys nodes table c x y i ≡ own_keys nodes c x y i
  unfolding has_keys own_keys own_first own_second
  keys_known table c x y i h k = rw (first_known table i h k, second_known table i h k)

  -- the test by the first m classes, of a node among those or the next
  keys_before : (m c x y i : ℕ) → i < n → i ≤ m → has_keys nodes (classes_to nodes m) c x y i ≡ own_keys nodes c x y i
  keys_before m c x y i h l = keys_known (classes_to nodes m) c x y i h (λ j q. class_at nodes m j (omega arith))

  -- ---- a class

  -- node i's class is itself or a node before it, of its code and keys
  pub class_says : (i : ℕ) → i < n → Same nodes (code nodes i) (own_first nodes i) (own_second nodes i) (class_of nodes i) × (class_of nodes i ≤ i)
  unfolding class_of class_from own_first own_second
  class_says i h = go (first_place (like_node nodes i) i) refl
    where
      go : (place : ℕ) → first_place (like_node nodes i) i ≡ place
          → Same nodes (code nodes i) (own_first nodes i) (own_second nodes i) (cond (eqb place 0) i (pred place)) × (cond (eqb place 0) i (pred place) ≤ i)
      go zero e = (same_self nodes i, omega arith)
      go (suc j) e =
          let p = place_says _ i j e in
          rw (not_zero j) (keys_say nodes _ _ _ j (sym (keys_before i _ _ _ j (omega arith) (omega arith)) ∙ p.0), omega arith)

  class_before : (i m : ℕ) → i < n → m < i → Same nodes (code nodes i) (own_first nodes i) (own_second nodes i) m → class_of nodes i ≤ m
  unfolding class_of class_from own_first own_second
  class_before i m h l s =
      let t = keys_before i _ _ _ m (omega arith) (omega arith) ∙ keys_of nodes _ _ _ m s in
      let (r, e, q) = place_least (like_node nodes i) i m l t in rw (e, not_zero r) q

  -- no node of its code and keys stands before it
  pub class_least : (i m : ℕ) → i < n → Same nodes (code nodes i) (own_first nodes i) (own_second nodes i) m → class_of nodes i ≤ m
  class_least i m h s = go (dec_lt m i) (class_says i h).1
    where
      go : Dec (m < i) → class_of nodes i ≤ i → class_of nodes i ≤ m
      go (yes l) q = class_before i m h l s
      go (no l) q = omega arith

  -- "Expanded nodes are of one class if they have the same code and .. "
  pub one_class : (i j : ℕ) → i < n → j < n → class_of nodes i ≡ class_of nodes j ↔ Same nodes (code nodes j) (own_first nodes j) (own_second nodes j) i
  one_class i j h l =
      let (s, p) = class_says i h in
      let (t, q) = class_says j l in (
        λ e. record {
          code = sym s.code ∙ ap (code nodes) e ∙ t.code;
          first = sym s.first ∙ ap (own_first nodes) e ∙ t.first;
          second = sym s.second ∙ ap (own_second nodes) e ∙ t.second;
        },
        λ u.
            let x = class_least j (class_of nodes i) l (same_same s u) in
            let y = class_least i (class_of nodes j) h (same_same t (same_back u)) in
            omega arith,
      )

  -- a class is its own class
  pub own_class : (i : ℕ) → i < n → class_of nodes (class_of nodes i) ≡ class_of nodes i
  own_class i h = let (s, l) = class_says i h in (one_class (class_of nodes i) i (omega arith) h).1 s

  -- ---- the search among all n nodes

  pub find_says : (c x y i : ℕ) → find nodes n c x y ≡ suc i → Same nodes c x y i × (i < n)
  unfolding find
  find_says c x y i e =
      let p = place_says _ n i e in
      let l = p.1 in
      (keys_say nodes c x y i (sym (keys_before n c x y i l (omega arith)) ∙ p.0), l)

  pub finds : (c x y m : ℕ) → m < n → Same nodes c x y m → (i : ℕ) × (find nodes n c x y ≡ suc i) × (i ≤ m)
  unfolding find
  finds c x y m h s =
      place_least (has_keys nodes (classes_to nodes n) c x y) n m h (keys_before n c x y m h (omega arith) ∙ keys_of nodes c x y m s)

  -- what is found is a class
  pub find_class : (c x y i : ℕ) → find nodes n c x y ≡ suc i → class_of nodes i ≡ i
  find_class c x y i e =
      let (s, l) = find_says c x y i e in
      let (u, k) = class_says i l in
      let (r, f, q) = finds c x y (class_of nodes i) (omega arith) (same_same u s) in
      omega arith

  -- by a node's own keys its class is found
  pub find_own : (i : ℕ) → i < n → find nodes n (code nodes i) (own_first nodes i) (own_second nodes i) ≡ suc (class_of nodes i)
  find_own i h =
      let (u, k) = class_says i h in
      let (r, f, q) = finds _ _ _ (class_of nodes i) (omega arith) u in
      let l = class_least i r h (find_says _ _ _ r f).0 in
      f ∙ ap suc (let e : r ≡ class_of nodes i = omega arith in e)

-- ---- `is_operand` by the numbers of the codes

abbrev first_listed : ℕ → Bool
first_listed c = eqb (cond (is_operand c 0) 1 0) (cond (leb 5 c && leb c 16) 1 0)

abbrev second_listed : ℕ → Bool
second_listed c = eqb (cond (is_operand c 1) 1 0) (cond (leb 5 c && leb c 11) 1 0)

every_first : every first_listed 18 ≡ true
unfolding every ◌&◌ is_operand kind_of
every_first = refl

every_second : every second_listed 18 ≡ true
unfolding every ◌&◌ is_operand kind_of
every_second = refl

-- tests that count the same are the same
counted : (a b : Bool) → eqb (cond a 1 0) (cond b 1 0) ≡ true → a ≡ b
counted true true e = refl
counted true false e = true_false (sym e)
counted false true e = true_false (sym e)
counted false false e = refl

none_operand : (c k : ℕ) → 18 ≤ c → is_operand c k ≡ false
unfolding is_operand
none_operand c k h =
    rw (kind_unknown c (omega arith) (λ q. omega arith) (λ q. omega arith) (λ q. omega arith) (λ q. omega arith), le-ltb k 0 (omega arith))

-- the first word is an operand of the codes 5 to 16
pub first_operand : (c : ℕ) → is_operand c 0 ≡ (leb 5 c && leb c 16)
first_operand c = go (dec_lt c 18)
  where
    go : Dec (c < 18) → is_operand c 0 ≡ (leb 5 c && leb c 16)
    go (yes h) = counted _ _ (every_true first_listed 18 every_first c h)
    go (no h) = none_operand c 0 (omega arith) ∙ sym (rw (le-leb 5 c (omega arith), lt-leb c 16 (omega arith)))

-- the second of the codes 5 to 11
pub second_operand : (c : ℕ) → is_operand c 1 ≡ (leb 5 c && leb c 11)
second_operand c = go (dec_lt c 18)
  where
    go : Dec (c < 18) → is_operand c 1 ≡ (leb 5 c && leb c 11)
    go (yes h) = counted _ _ (every_true second_listed 18 every_second c h)
    go (no h) = none_operand c 1 (omega arith) ∙ sym (rw (le-leb 5 c (omega arith), lt-leb c 11 (omega arith)))
