-- A tree on the bits of keys, in a table of words. A cell holds 0, or a node's number and one; node p has four words from `key_at count p` on, its two keys and its
-- two cells, and behind the words of all nodes lie the cells where the walks begin (Start). The walk for a key looks at a cell: it stops where the cell is empty or
-- its node has the key, else it goes on to the cell of that node that the next bit names. The bits of a pair (x, y) are taken in turn, lowest first.
-- Nothing here depends on which bits are taken: they only keep the walks short (Depth). Assumes nothing.
use Rattle.std.specs.Prelude.{◌≡◌, Bool, true, false, List, ℕ, suc, ◌+◌, ◌*◌, ◌/◌, ◌%◌, ◌≤◌, ◌<◌, length, get_or, set}
use Rattle.std.proofs.Common.{sym, ap, ◌∙◌, subst, mod-lt, arith, get_or-set_same, get_or-set_other}
use Rattle.tables.specs.Tests.{clash}
use Rattle.classes.specs.Start.{index_length, root, root_low, root_high}

-- ---- cells

-- the first of the two words for node p's keys
unfoldable pub key_at : ℕ → ℕ → ℕ
key_at count p = count + p * 4

-- keys stand behind the classes, two words for each node
pub key_low : (count p : ℕ) → count ≤ key_at count p
unfolding key_at
key_low count p = omega arith

pub key_high : (count p : ℕ) → p < count → key_at count p + 1 < 5 * count
unfolding key_at
key_high count p h = omega arith

pub key_apart : (count p q : ℕ) → (p ≡ q → ⊥) → (key_at count p ≡ key_at count q → ⊥) × ((key_at count p ≡ key_at count q + 1 → ⊥) × (key_at count p + 1 ≡ key_at count q → ⊥))
unfolding key_at
key_apart count p q h = (λ e. h (omega arith), (λ e. omega arith, λ e. omega arith))

-- the cell of node p that the lowest bit of x names
unfoldable pub child : ℕ → ℕ → ℕ → ℕ
child count p x = count + p * 4 + 2 + x % 2

child_low : (count p x : ℕ) → key_at count p + 2 ≤ child count p x
unfolding child key_at
child_low count p x = omega arith

cell_low : (count p x : ℕ) → count ≤ child count p x
unfolding child
cell_low count p x = omega arith

child_high : (count p x : ℕ) → child count p x < key_at count p + 4
unfolding child key_at
child_high count p x = let h : x % 2 < 2 = mod-lt x (omega arith) in omega arith

-- no two nodes share a cell
pub child_same : (count p x q y : ℕ) → child count p x ≡ child count q y → (p ≡ q) × (x % 2 ≡ y % 2)
unfolding child
child_same count p x q y e =
    let h : x % 2 < 2 = mod-lt x (omega arith) in
    let l : y % 2 < 2 = mod-lt y (omega arith) in
    (omega arith, omega arith)

pub root_child : (count c x y p z : ℕ) → p < count → root count c x y ≡ child count p z → ⊥
unfolding key_at
root_child count c x y p z h e = let g = child_high count p z in let l = root_low count c x y in omega arith

-- a cell that a walk may reach while the first n nodes are in
pub data Place (count n k : ℕ) : Type 0 where
  at_root : (c x y : ℕ) → c < 32 → k ≡ root count c x y → Place count n k
  at_child : (p x : ℕ) → p < n → k ≡ child count p x → Place count n k

pub place_more : {count n m k : ℕ} → n ≤ m → Place count n k → Place count m k
place_more h (at_root c x y l e) = at_root c x y l e
place_more h (at_child p x l e) = at_child p x (omega arith) e

pub place_low : {count n k : ℕ} → Place count n k → count ≤ k
unfolding key_at
place_low {count} (at_root c x y l e) = let h = root_low count c x y in omega arith
place_low {count} (at_child p x l e) = let h = child_low count p x in omega arith

pub place_high : {count n k : ℕ} → n ≤ count → Place count n k → k < index_length count
unfolding key_at
place_high {count} h (at_root c x y l e) = let g = root_high count c x y l in omega arith
place_high {count} h (at_child p x l e) = let g = child_high count p x in omega arith

-- no cell is a word for keys
pub place_key : {count n k : ℕ} → n ≤ count → Place count n k → (p : ℕ) → p < count → (k ≡ key_at count p → ⊥) × (k ≡ key_at count p + 1 → ⊥)
unfolding key_at
place_key {count} h (at_root c x y l e) p b = let g = root_low count c x y in (λ q. omega arith, λ q. omega arith)
place_key {count} h (at_child r x l e) p b = let g = child_low count r x in let i = child_high count r x in (λ q. omega arith, λ q. omega arith)

-- ---- the walk

-- from cell `at`, with the bits of x and y to come, the walk for the key that `hit` tests stops at the cell `stop`
pub data Stops (hit : ℕ → Bool) (count : ℕ) (table : List ℕ) : ℕ → ℕ → ℕ → ℕ → Type 0 where
  empty : {at x y stop : ℕ} → stop ≡ at → get_or table at 0 ≡ 0 → Stops hit count table at x y stop
  found : {at x y stop p : ℕ} → stop ≡ at → get_or table at 0 ≡ suc p → hit p ≡ true → Stops hit count table at x y stop
  pass : {at x y stop p : ℕ} → get_or table at 0 ≡ suc p → hit p ≡ false → Stops hit count table (child count p x) y (x / 2) stop
      → Stops hit count table at x y stop

-- how many nodes a walk passes
unfoldable pub passes : {hit : ℕ → Bool} {count : ℕ} {table : List ℕ} {at x y stop : ℕ} → Stops hit count table at x y stop → ℕ
passes (empty q z) = 0
passes (found q z h) = 0
passes (pass z h s) = suc (passes s)

module _ {hit : ℕ → Bool} {count : ℕ} {table : List ℕ} where
  -- a node in the cell where the walk stops has the key
  pub stops_hit : {at x y stop : ℕ} (p : ℕ) → Stops hit count table at x y stop → get_or table stop 0 ≡ suc p → hit p ≡ true
  stops_hit p (empty q z) h = let k : get_or table _ 0 ≡ suc p = ap (λ n. get_or table n 0) (sym q) ∙ h in absurd (omega arith)
  stops_hit p (found {p = r} q z y) h =
      let k : get_or table _ 0 ≡ suc p = ap (λ n. get_or table n 0) (sym q) ∙ h in let f : p ≡ r = omega arith in rw f y
  stops_hit p (pass z n s) h = stops_hit p s h

  -- the walk stops in one cell only
  pub stops_once : {at x y stop end : ℕ} → Stops hit count table at x y stop → Stops hit count table at x y end → stop ≡ end
  stops_once (empty q z) (empty r y) = q ∙ sym r
  stops_once (empty q z) (found r y h) = absurd (omega arith)
  stops_once (empty q z) (pass y n s) = absurd (omega arith)
  stops_once (found q z h) (empty r y) = absurd (omega arith)
  stops_once (found q z h) (found r y g) = q ∙ sym r
  stops_once (found {p = m} q z h) (pass {p = k} y n s) = let f : m ≡ k = omega arith in clash (hit k) (rw f at h) n
  stops_once (pass z n s) (empty r y) = absurd (omega arith)
  stops_once (pass {p = m} z n s) (found {p = k} r y g) = let f : k ≡ m = omega arith in clash (hit m) (rw f at g) n
  stops_once {x = x} {y = y} {end = end} (pass {p = m} z n s) (pass {p = k} w o r) =
      let g : k ≡ m = omega arith in stops_once s (subst (λ p. Stops hit count table (child count p x) y (x / 2) end) g r)

  -- a store to an empty cell keeps each walk that finds something
  pub stops_kept : {at x y stop : ℕ} (k v p : ℕ) → get_or table k 0 ≡ 0 → Stops hit count table at x y stop → get_or table stop 0 ≡ suc p
      → Stops hit count (set table k v) at x y stop
  stops_kept k v p h (empty q z) w = let x : get_or table _ 0 ≡ suc p = ap (λ n. get_or table n 0) (sym q) ∙ w in absurd (omega arith)
  stops_kept {at = at} k v p h (found q z y) w =
      found q (get_or-set_other table k at v 0 (λ r. let x : get_or table at 0 ≡ 0 = ap (λ n. get_or table n 0) r ∙ h in omega arith) ∙ z) y
  stops_kept {at = at} k v p h (pass z n s) w =
      pass (get_or-set_other table k at v 0 (λ r. let x : get_or table at 0 ≡ 0 = ap (λ n. get_or table n 0) r ∙ h in omega arith) ∙ z) n
      (stops_kept k v p h s w)

  -- a node stored to the empty cell where the walk for its key stops is found there
  pub stops_new : {at x y stop : ℕ} (i : ℕ) → stop < length table → get_or table stop 0 ≡ 0 → hit i ≡ true → Stops hit count table at x y stop
      → Stops hit count (set table stop (suc i)) at x y stop
  stops_new {stop = stop} i l h g (empty q z) =
      found q (subst (λ n. get_or (set table stop (suc i)) n 0 ≡ suc i) q (get_or-set_same table stop (suc i) 0 l)) g
  stops_new i l h g (found q z y) = let x : get_or table _ 0 ≡ 0 = ap (λ n. get_or table n 0) (sym q) ∙ h in absurd (omega arith)
  stops_new {at = at} {stop = stop} i l h g (pass z n s) =
      pass (get_or-set_other table stop at (suc i) 0 (λ r. let x : get_or table at 0 ≡ 0 = ap (λ n. get_or table n 0) r ∙ h in omega arith) ∙ z) n
      (stops_new i l h g s)

  -- a store before the cells changes no walk
  pub stops_off : {at x y stop : ℕ} (k v : ℕ) → k < count → count ≤ at → Stops hit count table at x y stop
      → Stops hit count (set table k v) at x y stop
  stops_off {at = at} k v l o (empty q z) = empty q (get_or-set_other table k at v 0 (λ r. omega arith) ∙ z)
  stops_off {at = at} k v l o (found q z y) = found q (get_or-set_other table k at v 0 (λ r. omega arith) ∙ z) y
  stops_off {at = at} {x = x} k v l o (pass {p = p} z n s) =
      pass (get_or-set_other table k at v 0 (λ r. omega arith) ∙ z) n (stops_off k v l (cell_low count p x) s)

  -- a walk that begins at a cell stops at one
  pub stops_far : {at x y stop : ℕ} → count ≤ at → Stops hit count table at x y stop → count ≤ stop
  stops_far o (empty q z) = rw q o
  stops_far o (found q z h) = rw q o
  stops_far {x = x} o (pass {p = p} z h s) = stops_far (cell_low count p x) s
