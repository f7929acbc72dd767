-- The classes that steps move, way by way as the code finds them: x, y and k are words that the code has read. Assumes nothing.
use Rattle.std.specs.Prelude.{◌≡◌, List, length, get_or}
use Rattle.std.proofs.Math.Path.{refl, sym}
use Rattle.std.proofs.Common.{◌∙◌, ne_eqb, eq-eqb}
use Prim.Native.Nat.{ℕ, zero, suc, ◌+◌, ◌-◌, ◌≤◌, ◌<◌}
use native.Mathlib.Omega.{arith}
use Rattle.std.proofs.Math.Decide.{dec_lt}
use Rattle.std.proofs.Math.ListN.{get_or-eq_default}
use Rattle.tables.specs.Parts.{part, length_part, part_at}
use Rattle.expand.specs.Graph.{Graph}
use Rattle.classes.specs.Classes.{classes_to}
use Rattle.classes.specs.ClassLaws.{classes_length}
use Rattle.classes.specs.Index.{Indexed, indexed_class}
use Rattle.checker.specs.Walk.{class_of, unless_stored, result_of_two, result_of_one, asked}

-- ---- not stored yet
pub unless_on : (stored class : ℕ) → stored ≡ 0 → class ≡ unless_stored stored class
unfolding unless_stored
unless_on stored class e = rw (eq-eqb stored 0 e)

pub unless_off : (stored class : ℕ) → (stored ≡ 0 → ⊥) → 0 ≡ unless_stored stored class
unfolding unless_stored
unless_off stored class e = rw (ne_eqb stored 0 e)

-- ---- results
module _ (g : Graph) (c : ℕ) where
  pub two_left : {x : ℕ} (k l : ℕ) → x ≡ k → x ≡ 0 → 0 ≡ result_of_two g c k l
  unfolding result_of_two
  two_left zero l e z = refl
  two_left (suc k) l e z = absurd (omega arith)

  pub two_right : {y : ℕ} (k l : ℕ) → y ≡ l → y ≡ 0 → 0 ≡ result_of_two g c k l
  unfolding result_of_two
  two_right zero l e z = refl
  two_right (suc k) zero e z = refl
  two_right (suc k) (suc l) e z = absurd (omega arith)

  pub two_found : {x y r : ℕ} (k l : ℕ) → x ≡ k → y ≡ l → (x ≡ 0 → ⊥) → (y ≡ 0 → ⊥) → r ≡ class_of g c (x - 1) (y - 1) → r ≡ result_of_two g c k l
  unfolding result_of_two
  two_found zero l e f n m p = absurd (n e)
  two_found (suc k) zero e f n m p = absurd (m f)
  two_found {x} {y} (suc k) (suc l) e f n m p =
      let a : x - 1 ≡ k = omega arith in
      let b : y - 1 ≡ l = omega arith in
      p ∙ rw (a, b)

  pub one_none : {x : ℕ} (k : ℕ) → x ≡ k → x ≡ 0 → 0 ≡ result_of_one g c k
  unfolding result_of_one
  one_none zero e z = refl
  one_none (suc k) e z = absurd (omega arith)

  pub one_found : {x r : ℕ} (k : ℕ) → x ≡ k → (x ≡ 0 → ⊥) → r ≡ class_of g c (x - 1) 0 → r ≡ result_of_one g c k
  unfolding result_of_one
  one_found zero e n p = absurd (n e)
  one_found {x} (suc k) e n p =
      let a : x - 1 ≡ k = omega arith in
      p ∙ rw a

-- ---- stores

-- the index keeps the class of every node
class_in : {count : ℕ} {nodes t : List ℕ} → Indexed count nodes t → count ≤ length t → (i : ℕ) → get_or (part 0 count t) i 0 ≡ get_or (classes_to nodes count) i 0
class_in {count} {nodes} {t} x h i = go (dec_lt i count)
  where
    go : Dec (i < count) → get_or (part 0 count t) i 0 ≡ get_or (classes_to nodes count) i 0
    go (yes q) =
        let z : 0 + i ≡ i = omega arith in
        part_at 0 count t i q ∙ (rw z (indexed_class x i q))
    go (no q) =
        get_or-eq_default (part 0 count t) 0 {n = i} (omega (arith, length_part 0 count t (omega arith)))
        ∙ sym (get_or-eq_default (classes_to nodes count) 0 {n = i} (omega (arith, classes_length nodes count)))

pub asked_nobody : (g : Graph) (update class : ℕ) → update ≡ 0 → 0 ≡ asked g update class
unfolding asked
asked_nobody g zero class e = refl
asked_nobody g (suc n) class e = absurd (omega arith)

pub asked_one : (g : Graph) (update class : ℕ) {r : ℕ} → (update ≡ 0 → ⊥) → r ≡ asked g (suc (update - 1)) class → r ≡ asked g update class
asked_one g zero class n p = absurd (n refl)
asked_one g (suc k) class n p = let a : suc k - 1 ≡ k = omega arith in p ∙ rw a

module _ (g : Graph) (node class : ℕ) {t : List ℕ} (x : Indexed g.count g.nodes t) (h : g.count ≤ length t) {own : ℕ}
    (e : own ≡ get_or (part 0 g.count t) node 0) where
  own_class : own ≡ get_or (classes_to g.nodes g.count) node 0
  own_class = e ∙ class_in x h node

  pub asked_empty : class ≡ 0 → 0 ≡ asked g (suc node) class
  unfolding asked
  asked_empty z = rw (ne_eqb class (suc (get_or (classes_to g.nodes g.count) node 0)) (λ q. omega arith))

  pub asked_same : (class ≡ 0 → ⊥) → class - 1 ≡ own → class ≡ asked g (suc node) class
  unfolding asked
  asked_same n z =
      let q : class ≡ suc (get_or (classes_to g.nodes g.count) node 0) = omega (arith, own_class) in
      sym (rw (eq-eqb class (suc (get_or (classes_to g.nodes g.count) node 0)) q))

  pub asked_other : (class ≡ 0 → ⊥) → (class - 1 ≡ own → ⊥) → 0 ≡ asked g (suc node) class
  unfolding asked
  asked_other n z = rw (ne_eqb class (suc (get_or (classes_to g.nodes g.count) node 0)) (λ q. z (omega (arith, own_class))))
