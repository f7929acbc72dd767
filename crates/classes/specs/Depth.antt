-- How many cells a walk looks at, whatever the block: at most 65 (`walk_bound`), and at most 33 for a pair of classes (`pair_bound`). A node that a walk passes
-- at depth m shares its code and first m digits; once all the digits of both words are taken it has the whole key, so it is not passed. Assumes nothing.
use Rattle.std.specs.Prelude.{◌≡◌, ◌⊎◌, Bool, List, get_or}
use Rattle.std.proofs.Math.Path.{refl, sym, ap}
use Rattle.std.proofs.Common.{◌∙◌, inl, inr, eq-or-lt_of_le}
use Rattle.std.proofs.Math.Bool.{true, false}
use Prim.Native.Nat.{ℕ, suc, ◌+◌, ◌*◌, ◌≤◌, ◌<◌}
use native.Mathlib.Omega.{arith}
use Rattle.tables.specs.Tests.{clash}
use Rattle.tables.specs.Stores.{Each, Word}
use Rattle.block.specs.Block.{code, first, second}
use Rattle.classes.specs.Classes.{is_operand, key_of, first_key, second_key, classes_to}
use Rattle.classes.specs.ClassLaws.{class_at, own_first, own_second, own_keys, keys_of, class_says}
use Rattle.classes.specs.Tree.{Place, at_root, at_child, Stops, empty, found, pass, passes}
use Rattle.classes.specs.Digits.{digit, limit, agree_all, Spot, top}
use Rattle.classes.specs.Cells.{Good, Index, Walk, spot_met, spot_next}
use Rattle.classes.specs.Index.{Filled}

-- how many cells a walk looks at: that of each node it passes, and the one where it stops
unfoldable pub looks : {hit : ℕ → Bool} {count : ℕ} {table : List ℕ} {at x y stop : ℕ} → Stops hit count table at x y stop → ℕ
looks s = suc (passes s)

-- the nodes of code c have keys of so many bits
abbrev pub Keys : List ℕ → ℕ → ℕ → ℕ → Type 0
Keys nodes n bits c = (p : ℕ) → p < n → code nodes p ≡ c → (own_first nodes p < limit bits) × (own_second nodes p < limit bits)

module _ (nodes : List ℕ) (count : ℕ) (ok : Good nodes count) (n : ℕ) (table : List ℕ) (i : Index nodes count n table) (bits c x y : ℕ)
    (lx : x < limit bits) (ly : y < limit bits) (keys : Keys nodes n bits c) where
  -- from depth m on
  short_from : {at a d stop : ℕ} (m : ℕ) → m ≤ bits * 2 → Place count n at → Spot nodes count n i.depth c x y m at
      → ((j : ℕ) → digit j a d ≡ digit (j + m) x y) → (s : Stops (own_keys nodes c x y) count table at a d stop) → m + passes s ≤ bits * 2
  unfolding passes digit
  short_from m h o u r (empty q z) = omega arith
  short_from m h o u r (found q z w) = omega arith
  short_from {at = at} {a = a} {d = d} m h o u r (pass {p = p} z w s) =
      let (l, (e, (f, g))) = spot_met nodes count ok n table i c x y m at p o u z in
      let k : m < bits * 2 = before l e g (eq-or-lt_of_le h) in
      let v = short_from (suc m) (omega arith) (at_child p a l refl)
      (spot_next nodes count ok n table i c x y m at p a o u z (sym (r 0 ∙ ap (λ k. digit k x y) (let u : 0 + m ≡ m = omega arith in u))))
      (λ j. r (suc j) ∙ ap (λ k. digit k x y) (let u : suc j + m ≡ j + suc m = omega arith in u)) s in
      omega arith
    where
      before : p < n → code nodes p ≡ c → ((j : ℕ) → j < m → digit j x y ≡ digit j (own_first nodes p) (own_second nodes p)) → (m ≡ bits * 2) ⊎ (m < bits * 2) → m < bits * 2
      before l e g (inr q) = q
      before l e g (inl q) =
          let b = keys p l e in
          let (s, t) = agree_all bits x y (own_first nodes p) (own_second nodes p) lx ly b.0 b.1 (λ j k. g j (omega arith)) in
          clash (own_keys nodes c x y p) (keys_of nodes c x y p (record { code = e; first = sym s; second = sym t })) w

  -- from the root
  pub walk_short : {stop : ℕ} → c < 32 → (w : Walk nodes count table c x y stop) → looks w ≤ bits * 2 + 1
  unfolding looks
  walk_short h w =
      let k = short_from 0 (omega arith) (at_root c x y h refl) (top refl refl) (λ j. ap (λ k. digit k x y) (let u : j ≡ j + 0 = omega arith in u)) w in
      omega arith

-- ---- the keys' bits

word_limit : limit 32 ≡ 4294967296
unfolding limit
word_limit = refl

class_limit : limit 16 ≡ 65536
unfolding limit
class_limit = refl

module _ (nodes : List ℕ) (count : ℕ) (ok : Good nodes count) where
  -- an operand's class is a node before
  key_operand : (p w : ℕ) → p < count → w < p → get_or (classes_to nodes p) w 0 < count
  key_operand p w h l = let k = (class_says nodes count ok.back w (omega arith)).1 in omega (arith, class_at nodes p w l)

  key_below : (most p w : ℕ) (operand : Bool) → count ≤ most → p < count → (operand ≡ true → w < p) → (operand ≡ false → w < most) → key_of operand (classes_to nodes p) w < most
  unfolding key_of
  key_below most p w true b h l k = let q = key_operand p w h (l refl) in omega arith
  key_below most p w false b h l k = k refl

  pub first_below : (most p : ℕ) → count ≤ most → p < count → (is_operand (code nodes p) 0 ≡ false → first nodes p < most) → own_first nodes p < most
  unfolding own_first first_key
  first_below most p b h k = key_below most p (first nodes p) (is_operand (code nodes p) 0) b h (ok.back.first p h) k

  pub second_below : (most p : ℕ) → count ≤ most → p < count → (is_operand (code nodes p) 1 ≡ false → second nodes p < most) → own_second nodes p < most
  unfolding own_second second_key
  second_below most p b h k = key_below most p (second nodes p) (is_operand (code nodes p) 1) b h (ok.back.second p h) k

-- ---- the bounds

module _ {count n : ℕ} {nodes work : List ℕ} (f : Filled count n nodes work) (c x y stop : ℕ) (h : c < 32) where
  -- AT MOST 65: for any key of two words, in any table of nodes
  pub walk_bound : Each Word nodes → Word x → Word y → (w : Walk nodes count work c x y stop) → looks w ≤ 65
  walk_bound words lx ly w =
      let u = f.index.upto in
      let s = f.small in
      walk_short nodes count f.good n work f.index 32 c x y (rw word_limit lx) (rw word_limit ly)
      (λ p l e. rw word_limit (
        first_below nodes count f.good 4294967296 p (omega arith) (omega arith) (λ _. words (3 * p + 1)),
        second_below nodes count f.good 4294967296 p (omega arith) (omega arith) (λ _. words (3 * p + 2)),
      ))
      h w

  -- AT MOST 33: for the classes of two operands
  pub pair_bound : is_operand c 0 ≡ true → is_operand c 1 ≡ true → x < 65536 → y < 65536 → (w : Walk nodes count work c x y stop) → looks w ≤ 33
  pair_bound two one lx ly w =
      let u = f.index.upto in
      walk_short nodes count f.good n work f.index 16 c x y (rw class_limit lx) (rw class_limit ly)
      (λ p l e. rw class_limit (
        first_below nodes count f.good 65536 p f.small (omega arith) (λ z. clash (is_operand c 0) two (rw e at z)),
        second_below nodes count f.good 65536 p f.small (omega arith) (λ z. clash (is_operand c 1) one (rw e at z)),
      ))
      h w
