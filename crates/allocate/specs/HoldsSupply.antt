-- Where a node's value comes from, by its words: `control_sources` and `sample_sources` are the plan's origins. Assumes nothing.
use Rattle.std.specs.Prelude.{◌≡◌, Bool, cond, List, ℕ, zero, suc, ◌-◌, ◌≤◌, ◌<◌, get_or, eqb, ltb}
use Rattle.std.proofs.Math.Path.{refl}
use Rattle.std.proofs.Common.{sym, arith}
use Rattle.std.proofs.Math.Bool.{true, false}
use Rattle.std.proofs.Math.Dec.{eqb-suc-zero}
use borrow.Author.Tests.{ne_eqb, eqb-true, eqb-false, ltb-true}
use Rattle.tables.specs.Tests.{cond_pred}
use Rattle.block.specs.declared.Kind.{Kind}
use Rattle.block.specs.declared.Kind.TheVariants as Kinds
use Rattle.block.specs.Block.{code, first, second}
use Rattle.block.specs.Kinds.{kind_of}
use Rattle.block.specs.declared.Counts.{Counts}
use Rattle.expand.specs.Good.{GoodAs, GoodNode}
use Rattle.plan.specs.Nodes.{input_node, network_node}
use Rattle.plan.specs.Flow.{node_as, node_of, node_in}
use Rattle.plan.specs.Origins.{no_origin, control_origin, node_origin, sample_origin}
use Rattle.allocate.specs.declared.Frame.{Frame}
use Rattle.allocate.specs.Layout.{slot_at}
use Rattle.allocate.specs.Desk.{access, control_supply, sample_supply, supply_of}
use Rattle.allocate.specs.Holds.{origin_of}

-- ---- the control phase

record FromControl (c x y : ℕ) (kind : Kind) : Type 0 where
  is : origin_of (control_supply c x) ≡ control_origin (node_as kind c x y)

module _ (c x y : ℕ) where
  computed_control : eqb c 1 ≡ false → eqb c 2 ≡ false → (kind : Kind) → control_origin (node_as kind c x y) ≡ no_origin → FromControl c x y kind
  unfolding origin_of control_supply
  computed_control p q kind o = record { is = rw (p, q) (sym o) }

  constant_control : c ≡ 1 → FromControl c x y Kinds.Constant
  unfolding origin_of control_supply control_origin
  constant_control q = record { is = rw q refl }

  parameter_control : c ≡ 2 → FromControl c x y Kinds.Parameter
  unfolding origin_of control_supply control_origin
  parameter_control q = record { is = rw q refl }

  source_control : (b : Bool) → control_origin (cond b network_node input_node) ≡ no_origin
  unfolding control_origin
  source_control true = refl
  source_control false = refl

  control_kind : FromControl c x y (kind_of c)
  unfolding kind_of control_origin
  control_kind =
      let P : Kind → Type 0 = FromControl c x y in
      cond_pred P (eqb c 0)
      (λ z. let q = eqb-true c 0 z in computed_control (ne_eqb c 1 (λ r. omega arith)) (ne_eqb c 2 (λ r. omega arith)) Kinds.Source (source_control (eqb c 17)))
      (λ _.
      cond_pred P (eqb c 1) (λ q. constant_control (eqb-true c 1 q))
      (λ p.
      cond_pred P (eqb c 2) (λ q. parameter_control (eqb-true c 2 q))
      (λ q.
      cond_pred P (eqb c 3) (λ _. computed_control p q Kinds.State refl)
      (λ _.
      cond_pred P (eqb c 4) (λ _. computed_control p q Kinds.Delay refl)
      (λ _.
      cond_pred P (ltb c 11) (λ _. computed_control p q Kinds.Binary refl)
      (λ _.
      cond_pred P (eqb c 11) (λ _. computed_control p q Kinds.Divide refl)
      (λ _.
      cond_pred P (ltb c 14) (λ _. computed_control p q Kinds.Unary refl)
      (λ _.
      cond_pred P (eqb c 14) (λ _. computed_control p q Kinds.Recip refl)
      (λ _.
      cond_pred P (eqb c 15) (λ _. computed_control p q Kinds.Tanh refl)
      (λ _.
      cond_pred P (eqb c 16) (λ _. computed_control p q Kinds.Sigmoid refl)
      (λ _.
      cond_pred P (eqb c 17) (λ _. computed_control p q Kinds.Source (source_control (eqb c 17)))
      (λ _. computed_control p q Kinds.Unknown refl))))))))))))

-- WHERE A VALUE COMES FROM in the control phase
pub control_supply_lem : (frame : Frame) (nodes work : List ℕ) (n : ℕ) → frame.control ≡ true → origin_of (supply_of frame nodes work n) ≡ control_origin (node_in nodes n)
unfolding supply_of node_of
control_supply_lem frame nodes work n q = rw q (control_kind (code nodes n) (first nodes n) (second nodes n)).is

-- ---- the sample phase

record FromSample (c x y : ℕ) (kind : Kind) : Type 0 where
  is : (n : Counts) (k : ℕ) → GoodAs kind n k x y → origin_of (sample_supply c x) ≡ node_origin (node_as kind c x y)

module _ (c x y : ℕ) where
  known_sample : (kind : Kind) → origin_of (sample_supply c x) ≡ node_origin (node_as kind c x y) → FromSample c x y kind
  known_sample kind q = record { is = λ n k g. q }

  not_good : (kind : Kind) → ((n : Counts) (k : ℕ) → GoodAs kind n k x y → ⊥) → FromSample c x y kind
  not_good kind f = record { is = λ n k g. absurd (f n k g) }

  at_sample : (i : ℕ) → c ≡ i → (kind : Kind) → origin_of (sample_supply i x) ≡ node_origin (node_as kind i x y) → FromSample c x y kind
  at_sample i q kind o = known_sample kind (rw q o)

  computed_sample : 5 ≤ c → c < 17 → (kind : Kind) → node_origin (node_as kind c x y) ≡ no_origin → FromSample c x y kind
  unfolding origin_of sample_supply
  computed_sample l h kind o =
      known_sample kind
      (rw (
        ne_eqb c 0 (λ z. omega arith),
        ne_eqb c 1 (λ z. omega arith),
        ne_eqb c 2 (λ z. omega arith),
        ne_eqb c 3 (λ z. omega arith),
        ne_eqb c 4 (λ z. omega arith),
        ne_eqb c 17 (λ z. omega arith),
      )
      (sym o))

  sample_kind : FromSample c x y (kind_of c)
  unfolding kind_of origin_of sample_supply node_origin
  sample_kind =
      let P : Kind → Type 0 = FromSample c x y in
      cond_pred P (eqb c 0) (λ q. at_sample 0 (eqb-true c 0 q) Kinds.Source refl)
      (λ a.
      cond_pred P (eqb c 1) (λ q. at_sample 1 (eqb-true c 1 q) Kinds.Constant refl)
      (λ b.
      cond_pred P (eqb c 2) (λ q. at_sample 2 (eqb-true c 2 q) Kinds.Parameter refl)
      (λ d.
      cond_pred P (eqb c 3) (λ q. at_sample 3 (eqb-true c 3 q) Kinds.State refl)
      (λ e.
      cond_pred P (eqb c 4) (λ q. at_sample 4 (eqb-true c 4 q) Kinds.Delay refl)
      (λ f.
      let five : 5 ≤ c = omega (arith, eqb-false c 0 a, eqb-false c 1 b, eqb-false c 2 d, eqb-false c 3 e, eqb-false c 4 f) in
      cond_pred P (ltb c 11) (λ q. let h = ltb-true c 11 q in computed_sample five (omega arith) Kinds.Binary refl)
      (λ _.
      cond_pred P (eqb c 11) (λ _. not_good Kinds.Divide (λ n k g. g))
      (λ _.
      cond_pred P (ltb c 14) (λ q. let h = ltb-true c 14 q in computed_sample five (omega arith) Kinds.Unary refl)
      (λ _.
      cond_pred P (eqb c 14) (λ _. not_good Kinds.Recip (λ n k g. g))
      (λ _.
      cond_pred P (eqb c 15) (λ _. not_good Kinds.Tanh (λ n k g. g))
      (λ _.
      cond_pred P (eqb c 16) (λ _. not_good Kinds.Sigmoid (λ n k g. g))
      (λ _.
      cond_pred P (eqb c 17) (λ q. at_sample 17 (eqb-true c 17 q) Kinds.Source refl)
      (λ _. not_good Kinds.Unknown (λ n k g. g)))))))))))))

-- WHERE A VALUE COMES FROM in the sample phase, of a node of an expansion
pub sample_supply_lem : (frame : Frame) (nodes work : List ℕ) (n : ℕ) → frame.control ≡ false
    → (counts : Counts) → GoodNode counts n (code nodes n) (first nodes n) (second nodes n)
    → origin_of (supply_of frame nodes work n) ≡ sample_origin (get_or work (slot_at frame n) 0) (node_in nodes n)
unfolding supply_of node_of sample_origin origin_of
sample_supply_lem frame nodes work n q counts good = rw q (go (get_or work (slot_at frame n) 0))
  where
    go : (slot : ℕ)
        → origin_of (cond (eqb slot 0) (sample_supply (code nodes n) (first nodes n)) (access 6 (slot - 1)))
        ≡ sample_origin slot (node_as (kind_of (code nodes n)) (code nodes n) (first nodes n) (second nodes n))
    go zero = (sample_kind (code nodes n) (first nodes n) (second nodes n)).is counts n good
    go (suc slot) = let z : suc slot - 1 ≡ slot = omega arith in rw (eqb-suc-zero slot, z)
