-- Where a node's value comes from, by words, and that it is layer one's origin: `source_is`, `place_is`. Laws that the functions of src/sources cite. Assumes
-- nothing.
use Rattle.std.specs.Prelude.{◌≡◌, refl, Bool, true, false, cond, List, ℕ, zero, suc, ◌+◌, ◌-◌, ◌*◌, ◌≤◌, ◌<◌, get_or, set, eqb}
use Rattle.std.proofs.Common.{ap, arith}
use borrow.Author.Tests.{ne_eqb}
use Rattle.block.specs.Block.{code, first, second}
use Rattle.block.specs.Kinds.{kind_of, operands_of}
use Rattle.expand.specs.Good.{GoodNode}
use Rattle.plan.specs.declared.Sizes.{Sizes}
use Rattle.plan.specs.Nodes.{Node, input_node, network_node, constant_node, parameter_node, state_node, delay_node, binary_node, unary_node}
use Rattle.plan.specs.Flow.{node_in}
use Rattle.plan.specs.FlowLaws.{IsNode}
use Rattle.plan.specs.Origins.{Origin, no_origin, immediate, loaded, control_origin, node_origin, sample_origin}
use Rattle.plan.specs.Layout.{Lent, counts_in, homes_at}
use Rattle.plan.specs.Words.{node_words}

-- ---- by words

-- the source of a node with this code in the control phase
unfoldable pub control_code : ℕ → ℕ
control_code c = cond (eqb c 1) 7 (cond (eqb c 2) 3 0)

-- .. and in the sample phase, where it has no control slot
unfoldable pub load_code : ℕ → ℕ
load_code c = cond (eqb c 0) 1 (cond (eqb c 1) 7 (cond (eqb c 2) 3 (cond (eqb c 3) 4 (cond (eqb c 4) 5 (cond (eqb c 17) 2 0)))))

-- in a phase: 0 it is computed, 1 to 6 the code of the load, 7 an immediate
unfoldable pub source_code : Bool → ℕ → ℕ → ℕ
source_code control slot c = cond control (control_code c) (cond (eqb slot 0) (load_code c) 6)

-- the place of a load among the homes, and one; 0 is none
unfoldable pub place_word : ℕ → ℕ → ℕ → ℕ
place_word states c index =
    cond (eqb c 1) 1 (cond (eqb c 2) 2 (cond (eqb c 3) (3 + index) (cond (eqb c 4) (259 + index) (cond (eqb c 5) (259 + states + index) 0))))

-- 1: there is a source
unfoldable pub fresh_word : ℕ → ℕ
fresh_word c = cond (eqb c 0) 0 1

-- the table after a node's turn, whose source's code is c and its place p
unfoldable pub canonical_as : Sizes → ℕ → ℕ → ℕ → List ℕ → List ℕ
canonical_as sizes c p i work =
    let fresh : List ℕ = set work (8 * sizes.nodes + i) (fresh_word c) in
    let home : ℕ = homes_at sizes + (p - 1) in
    cond (eqb p 0) (set fresh (4 * sizes.nodes + i) i)
    (cond (eqb (get_or fresh home 0) 0) (set (set fresh home (i + 1)) (4 * sizes.nodes + i) i) (set fresh (4 * sizes.nodes + i) (get_or fresh home 0 - 1)))

-- node i's turn
abbrev pub code_in : Sizes → Bool → List ℕ → List ℕ → ℕ → ℕ
code_in sizes control nodes work i = source_code control (get_or work (2 * sizes.nodes + i) 0) (code nodes i)

unfoldable pub canonical_node : Sizes → Bool → List ℕ → ℕ → List ℕ → List ℕ
canonical_node sizes control nodes i work =
    canonical_as sizes (code_in sizes control nodes work i) (place_word sizes.states (code_in sizes control nodes work i) (first nodes i)) i work

-- ---- as layer one's origins

-- the code of an origin
abbrev pub origin_code : Origin → ℕ
origin_code no_origin = 0
origin_code (immediate bits) = 7
origin_code (loaded c i) = c

-- node x's origin in a phase
abbrev pub origin_in : Bool → ℕ → Node → Origin
origin_in true slot x = control_origin x
origin_in false slot x = sample_origin slot x

-- a computed node's code is no other's
apart : (c k : ℕ) → operands_of (kind_of k) ≡ 0 → 1 ≤ operands_of (kind_of c) → eqb c k ≡ false
apart c k z h = ne_eqb c k (λ (e : c ≡ k). omega (arith, ap (λ (x : ℕ). operands_of (kind_of x)) e))

control_none : (c : ℕ) → 1 ≤ operands_of (kind_of c) → control_code c ≡ 0
unfolding control_code kind_of
control_none c h = rw (apart c 1 refl h, apart c 2 refl h)

load_none : (c : ℕ) → 1 ≤ operands_of (kind_of c) → load_code c ≡ 0
unfolding load_code kind_of
load_none c h = rw (apart c 0 refl h, apart c 1 refl h, apart c 2 refl h, apart c 3 refl h, apart c 4 refl h, apart c 17 refl h)

control_is : (x : Node) (c a d : ℕ) → IsNode x c a d → control_code c ≡ origin_code (control_origin x)
unfolding control_code control_origin
control_is input_node c a d h = rw h.0
control_is network_node c a d h = rw h.0
control_is (constant_node w) c a d h = rw h.0
control_is (parameter_node i) c a d h = rw h.0
control_is (state_node i) c a d h = rw h.0
control_is (delay_node i) c a d h = rw h.0
control_is (binary_node k x y) c a d h = control_none c (rw (h.0, h.3) (omega arith))
control_is (unary_node k x) c a d h = control_none c (rw (h.0, h.3) (omega arith))

load_is : (x : Node) (c a d : ℕ) → IsNode x c a d → load_code c ≡ origin_code (node_origin x)
unfolding load_code node_origin
load_is input_node c a d h = rw h.0
load_is network_node c a d h = rw h.0
load_is (constant_node w) c a d h = rw h.0
load_is (parameter_node i) c a d h = rw h.0
load_is (state_node i) c a d h = rw h.0
load_is (delay_node i) c a d h = rw h.0
load_is (binary_node k x y) c a d h = load_none c (rw (h.0, h.3) (omega arith))
load_is (unary_node k x) c a d h = load_none c (rw (h.0, h.3) (omega arith))

-- a node's source is its origin
pub source_is : (sizes : Sizes) (nodes : List ℕ) (words : ℕ) → Lent sizes nodes words → (k : ℕ) → k < sizes.nodes → (control : Bool) (slot : ℕ)
    → source_code control slot (code nodes k) ≡ origin_code (origin_in control slot (node_in nodes k))
unfolding source_code sample_origin
source_is sizes nodes words lent k below true slot =
    control_is (node_in nodes k) (code nodes k) (first nodes k) (second nodes k) (node_words sizes nodes words lent k below)
source_is sizes nodes words lent k below false zero =
    load_is (node_in nodes k) (code nodes k) (first nodes k) (second nodes k) (node_words sizes nodes words lent k below)
source_is sizes nodes words lent k below false (suc slot) = rw (ne_eqb (suc slot) 0 (λ (e : suc slot ≡ 0). omega arith))

-- ---- a place is among the homes

place_low : (sizes : Sizes) (x : Node) (k c a d : ℕ) → IsNode x c a d → GoodNode (counts_in sizes) k c a d
    → (place_word sizes.states (control_code c) a ≤ 258 + sizes.states + sizes.delays) × (place_word sizes.states (load_code c) a ≤ 258 + sizes.states + sizes.delays)
unfolding control_code load_code place_word kind_of
place_low sizes input_node k c a d h g = rw h.0 (omega arith, omega arith)
place_low sizes network_node k c a d h g = rw h.0 (omega arith, omega arith)
place_low sizes (constant_node w) k c a d h g = rw h.0 (omega arith, omega arith)
place_low sizes (parameter_node i) k c a d h g = let q = rw h.0 at g in rw h.0 (omega (arith, q.0), omega (arith, q.0))
place_low sizes (state_node i) k c a d h g = let q = rw h.0 at g in rw h.0 (omega arith, omega (arith, q.0))
place_low sizes (delay_node i) k c a d h g = let q = rw h.0 at g in rw h.0 (omega arith, omega (arith, q.0))
place_low sizes (binary_node b x y) k c a d h g = let q : 1 ≤ operands_of (kind_of c) = rw (h.0, h.3) (omega arith) in rw (control_none c q, load_none c q) (omega arith, omega arith)
place_low sizes (unary_node b x) k c a d h g = let q : 1 ≤ operands_of (kind_of c) = rw (h.0, h.3) (omega arith) in rw (control_none c q, load_none c q) (omega arith, omega arith)

place_slot : (sizes : Sizes) (a : ℕ) → place_word sizes.states 6 a ≤ 258 + sizes.states + sizes.delays
unfolding place_word
place_slot sizes a = omega arith

pub place_inside : (sizes : Sizes) (nodes : List ℕ) (words : ℕ) → Lent sizes nodes words → (k : ℕ) → k < sizes.nodes → (control : Bool) (slot : ℕ)
    → place_word sizes.states (source_code control slot (code nodes k)) (first nodes k) ≤ 258 + sizes.states + sizes.delays
unfolding source_code
place_inside sizes nodes words lent k below control slot =
    let q = place_low sizes (node_in nodes k) k (code nodes k) (first nodes k) (second nodes k) (node_words sizes nodes words lent k below) (lent.good k below) in
    go control (eqb slot 0) q.0 q.1
  where
    go : (b z : Bool) → place_word sizes.states (control_code (code nodes k)) (first nodes k) ≤ 258 + sizes.states + sizes.delays
        → place_word sizes.states (load_code (code nodes k)) (first nodes k) ≤ 258 + sizes.states + sizes.delays
        → place_word sizes.states (cond b (control_code (code nodes k)) (cond z (load_code (code nodes k)) 6)) (first nodes k) ≤ 258 + sizes.states + sizes.delays
    go true z p q = p
    go false true p q = q
    go false false p q = place_slot sizes (first nodes k)

-- the same, by what the functions answer
pub place_low_of : (sizes : Sizes) (nodes : List ℕ) (words : ℕ) → Lent sizes nodes words → (k : ℕ) → k < sizes.nodes → (control : Bool) (slot c p : ℕ)
    → c ≡ source_code control slot (code nodes k) → p ≡ place_word sizes.states c (first nodes k) → p ≤ 258 + sizes.states + sizes.delays
place_low_of sizes nodes words lent k below control slot c p e q = rw (q, e) (place_inside sizes nodes words lent k below control slot)

-- ---- the ways out

pub source_control : (control : Bool) (slot c r : ℕ) → control ≡ true → r ≡ control_code c → r ≡ source_code control slot c
unfolding source_code
source_control control slot c r e q = rw e q

pub source_load : (control : Bool) (slot c r : ℕ) → control ≡ false → slot ≡ 0 → r ≡ load_code c → r ≡ source_code control slot c
unfolding source_code
source_load control slot c r e z q = rw (e, z) q

pub source_slot : (control : Bool) (slot c : ℕ) → control ≡ false → (slot ≡ 0 → ⊥) → 6 ≡ source_code control slot c
unfolding source_code
source_slot control slot c e z = rw (e, ne_eqb slot 0 z)

module _ (sizes : Sizes) (control : Bool) (nodes : List ℕ) (i : ℕ) (work : List ℕ) (c p f : ℕ) (ec : c ≡ code_in sizes control nodes work i)
    (ep : p ≡ place_word sizes.states c (first nodes i)) (ef : f ≡ fresh_word c) where
  pub turn_none : p ≡ 0 → set (set work (8 * sizes.nodes + i) f) (4 * sizes.nodes + i) i ≡ canonical_node sizes control nodes i work
  unfolding canonical_node canonical_as
  turn_none z = rw (← ec, ← ep, ← ef, z)

  pub turn_first : (p ≡ 0 → ⊥) → get_or (set work (8 * sizes.nodes + i) f) (homes_at sizes + (p - 1)) 0 ≡ 0
      → set (set (set work (8 * sizes.nodes + i) f) (homes_at sizes + (p - 1)) (i + 1)) (4 * sizes.nodes + i) i ≡ canonical_node sizes control nodes i work
  unfolding canonical_node canonical_as
  turn_first h z = rw (← ec, ← ep, ← ef, ne_eqb p 0 h, z)

  pub turn_again : (p ≡ 0 → ⊥) → (get_or (set work (8 * sizes.nodes + i) f) (homes_at sizes + (p - 1)) 0 ≡ 0 → ⊥)
      → set (set work (8 * sizes.nodes + i) f) (4 * sizes.nodes + i) (get_or (set work (8 * sizes.nodes + i) f) (homes_at sizes + (p - 1)) 0 - 1)
      ≡ canonical_node sizes control nodes i work
  unfolding canonical_node canonical_as
  turn_again h z = rw (← ec, ← ep, ← ef, ne_eqb p 0 h, ne_eqb (get_or (set work (8 * sizes.nodes + i) f) (homes_at sizes + (p - 1)) 0) 0 z)
