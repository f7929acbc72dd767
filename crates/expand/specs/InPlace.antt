-- The expansion written in place, without a work table: the map stands at the table's start, and the nodes are written from the last to the first. Node i's
-- expansion starts no sooner than word 3i, behind the words of the map that its operands and the nodes before it still read.
use Rattle.std.specs.Prelude.{◌≡◌, refl, cond, get_or, drop, leb}
use Rattle.std.proofs.Math.Path.{ap}
use Rattle.std.proofs.Common.{◌∙◌, arith, leb-true}
use mathlib.Core.List.{List, [], ◌++◌, append_assoc, append-nil}
use Prim.Native.Nat.{ℕ, zero, suc, ◌+◌, ◌-◌, ◌*◌, ◌/◌, ◌≤◌, ◌<◌}
use Rattle.std.proofs.Math.ListN.{length}
use Rattle.tables.specs.Tests.{cond_arms}
use Rattle.block.specs.declared.Kind.{Kind}
use Rattle.block.specs.declared.Kind.TheVariants.{Source, Constant, Parameter, State, Delay, Binary, Divide, Unary, Recip, Tanh, Sigmoid, Unknown}
use Rattle.block.specs.Block.{code, first, second}
use Rattle.block.specs.Kinds.{kind_of, operands_of, node_length, offset}
use Rattle.block.specs.declared.Counts.{Counts}
use Rattle.block.specs.Valid.{SoundWords, Sound}
use Rattle.expand.specs.Nodes.{Node, words_of}
use Rattle.expand.specs.Words.{words_append}
use Rattle.expand.specs.Expansion.{expand_as, map_node, expand_node, expand_to}
use Rattle.expand.specs.Lengths.{node_length_lem, offset_start, offset_next, offset_le, offset_ge}
use Rattle.expand.specs.Writes.{write, write_length, write_before, write_behind}

-- operands that are mapped already
abbrev pub same : ℕ → ℕ
same x = x

abbrev pub records : List ℕ → ℕ
records nodes = length nodes / 3

-- the first n words are the map
abbrev pub Mapped : ℕ → List ℕ → ℕ → List ℕ → Type 0
Mapped steps nodes n l = (j : ℕ) → j < n → get_or l j 0 ≡ map_node steps nodes j

-- the operands of node i stand before it
pub record Below (nodes : List ℕ) (i : ℕ) : Type 0 where
  pub lhs : 1 ≤ operands_of (kind_of (code nodes i)) → first nodes i < i
  pub rhs : 2 ≤ operands_of (kind_of (code nodes i)) → second nodes i < i

below_words : (kind : Kind) (n : Counts) (i x y : ℕ) → SoundWords kind n i x y → (1 ≤ operands_of kind → x < i) × (2 ≤ operands_of kind → y < i)
below_words Source n i x y h = (λ l. absurd (omega arith), λ l. absurd (omega arith))
below_words Constant n i x y h = (λ l. absurd (omega arith), λ l. absurd (omega arith))
below_words Parameter n i x y h = (λ l. absurd (omega arith), λ l. absurd (omega arith))
below_words State n i x y h = (λ l. absurd (omega arith), λ l. absurd (omega arith))
below_words Delay n i x y h = (λ l. absurd (omega arith), λ l. absurd (omega arith))
below_words Binary n i x y h = (λ l. h.0, λ l. h.1)
below_words Divide n i x y h = (λ l. h.0, λ l. h.1)
below_words Unary n i x y h = (λ l. h.0, λ l. absurd (omega arith))
below_words Recip n i x y h = (λ l. h.0, λ l. absurd (omega arith))
below_words Tanh n i x y h = (λ l. h.0, λ l. absurd (omega arith))
below_words Sigmoid n i x y h = (λ l. h.0, λ l. absurd (omega arith))
below_words Unknown n i x y h = absurd h

pub below_sound : (n : Counts) (nodes : List ℕ) (i : ℕ) → Sound n nodes i → Below nodes i
below_sound n nodes i h = let p = below_words (kind_of (code nodes i)) n i (first nodes i) (second nodes i) h in record { lhs = p.0; rhs = p.1 }

-- what the expansion of node i at position k into l wants
pub record Ready (steps : ℕ) (nodes l : List ℕ) (i k : ℕ) : Type 0 where
  pub here : i < records nodes
  pub place : k ≡ offset steps nodes i
  pub fits : k + node_length steps nodes i ≤ 65536
  pub room : 3 * (k + node_length steps nodes i) ≤ length l
  pub mapped : Mapped steps nodes i l
  pub below : Below nodes i

-- what the whole expansion into l wants
pub record AllReady (steps : ℕ) (nodes l : List ℕ) (total : ℕ) : Type 0 where
  pub whole : total ≡ offset steps nodes (records nodes)
  pub fits : total ≤ 65536
  pub room : 3 * total ≤ length l
  pub mapped : Mapped steps nodes (records nodes) l
  pub below : (i : ℕ) → i < records nodes → Below nodes i

-- ---- one node: its operands as the table maps them
mapped_as : (steps : ℕ) (kind : Kind) (map : ℕ → ℕ) (k c x y : ℕ)
    → expand_as steps kind same k c (cond (leb 1 (operands_of kind)) (map x) x) (cond (leb 2 (operands_of kind)) (map y) y) ≡ expand_as steps kind map k c x y
mapped_as steps Source map k c x y = refl
mapped_as steps Constant map k c x y = refl
mapped_as steps Parameter map k c x y = refl
mapped_as steps State map k c x y = refl
mapped_as steps Delay map k c x y = refl
mapped_as steps Binary map k c x y = refl
mapped_as steps Divide map k c x y = refl
mapped_as steps Unary map k c x y = refl
mapped_as steps Recip map k c x y = refl
mapped_as steps Tanh map k c x y = refl
mapped_as steps Sigmoid map k c x y = refl
mapped_as steps Unknown map k c x y = refl

pub expand_mapped : (steps : ℕ) (nodes l : List ℕ) (i k x y : ℕ) → Ready steps nodes l i k
    → x ≡ cond (leb 1 (operands_of (kind_of (code nodes i)))) (get_or l (first nodes i) 0) (first nodes i)
    → y ≡ cond (leb 2 (operands_of (kind_of (code nodes i)))) (get_or l (second nodes i) 0) (second nodes i)
    → expand_as steps (kind_of (code nodes i)) same k (code nodes i) x y ≡ expand_node steps nodes i
unfolding expand_node
expand_mapped steps nodes l i k x y r p q =
    let u = p ∙ cond_arms _ (λ e. r.mapped _ (r.below.lhs (leb-true 1 _ e))) (λ e. refl) in
    let v = q ∙ cond_arms _ (λ e. r.mapped _ (r.below.rhs (leb-true 2 _ e))) (λ e. refl) in
    rw (u, v, r.place) (mapped_as steps (kind_of (code nodes i)) (map_node steps nodes) (offset steps nodes i) _ _ _)

-- ---- the nodes of the k nodes from i on
unfoldable pub expand_from : ℕ → List ℕ → ℕ → ℕ → List Node
expand_from steps nodes zero i = []
expand_from steps nodes (suc k) i = expand_node steps nodes i ++ expand_from steps nodes k (suc i)

from_to : (steps : ℕ) (nodes : List ℕ) (k i : ℕ) → expand_to steps nodes i ++ expand_from steps nodes k i ≡ expand_to steps nodes (i + k)
unfolding expand_from expand_to
from_to steps nodes zero i = let z : i + 0 ≡ i = omega arith in rw (z, append-nil)
from_to steps nodes (suc k) i =
    let z : i + suc k ≡ suc i + k = omega arith in
    rw (z, ← append_assoc (expand_to steps nodes i) (expand_node steps nodes i) (expand_from steps nodes k (suc i))) (from_to steps nodes k (suc i))

from_start : (steps : ℕ) (nodes : List ℕ) (n : ℕ) → expand_from steps nodes n 0 ≡ expand_to steps nodes n
unfolding expand_to
from_start steps nodes n = let z : 0 + n ≡ n = omega arith in rw z at (from_to steps nodes n 0)

from_none : (steps : ℕ) (nodes : List ℕ) (i : ℕ) → words_of (expand_from steps nodes 0 i) ≡ []
unfolding expand_from
from_none steps nodes i = refl

-- ---- the loop from the last node to the first: the nodes from i on are written, `end` is where the node i starts
pub record Going (steps : ℕ) (nodes l₀ : List ℕ) (total : ℕ) (l : List ℕ) (i end : ℕ) : Type 0 where
  pub within : i ≤ records nodes
  pub long : length l ≡ length l₀
  pub place : end ≡ offset steps nodes i
  pub mapped : Mapped steps nodes i l
  pub rest : drop (3 * end) l ≡ words_of (expand_from steps nodes (records nodes - i) i) ++ drop (3 * total) l₀

pub going_start : (steps : ℕ) (nodes l : List ℕ) (total : ℕ) → AllReady steps nodes l total → Going steps nodes l total l (records nodes) total
going_start steps nodes l total a =
    let z : records nodes - records nodes ≡ 0 = omega arith in
    record { within = omega arith; long = refl; place = a.whole; mapped = a.mapped; rest = rw (z, from_none steps nodes (records nodes)) }

-- a turn takes the node before i
pub going_back : (steps : ℕ) (nodes l₀ l : List ℕ) (total i end : ℕ) → 0 < i → Going steps nodes l₀ total l i end → Going steps nodes l₀ total l (suc (i - 1)) end
going_back steps nodes l₀ l total i end h g = let z : i ≡ suc (i - 1) = omega arith in rw z at g

module _ (steps : ℕ) (nodes l₀ l : List ℕ) (total m end : ℕ) (a : AllReady steps nodes l₀ total) (g : Going steps nodes l₀ total l (suc m) end) where
  -- the node before is no longer than what ends at `end`
  pub end_covers : node_length steps nodes m ≤ end
  end_covers = omega (arith, g.place, offset_next steps nodes m)

  pub end_small : end ≤ total
  end_small = omega (arith, a.whole, g.place, offset_le steps nodes (suc m) (records nodes) g.within)

  pub going_ready : (k : ℕ) → k + node_length steps nodes m ≡ end → Ready steps nodes l m k
  going_ready k e =
      record {
        here = omega (arith, g.within);
        place = omega (arith, g.place, offset_next steps nodes m);
        fits = omega (arith, a.fits, end_small);
        room = omega (arith, a.room, g.long, end_small);
        mapped = λ j q. g.mapped j (omega arith);
        below = a.below m (omega (arith, g.within));
      }

  pub going_turn : (k : ℕ) (o : List ℕ) → k + node_length steps nodes m ≡ end → o ≡ write l k (expand_node steps nodes m) → Going steps nodes l₀ total o m k
  unfolding expand_from
  going_turn k o e w =
      let p : k ≡ offset steps nodes m = omega (arith, g.place, offset_next steps nodes m) in
      let s : k + length (expand_node steps nodes m) ≡ end = omega (arith, node_length_lem steps nodes m) in
      let fit : 3 * (k + length (expand_node steps nodes m)) ≤ length l = omega (arith, a.room, g.long, end_small) in
      let n : records nodes - m ≡ suc (records nodes - suc m) = omega (arith, g.within) in
      record {
        within = omega (arith, g.within);
        long = ap length w ∙ (write_length l k (expand_node steps nodes m) ∙ g.long);
        place = p;
        mapped = λ j q. rw w (write_before l k (expand_node steps nodes m) j (omega (arith, offset_ge steps nodes m)) ∙ g.mapped j (omega arith));
        rest = rw (w, n, words_append (expand_node steps nodes m) (expand_from steps nodes (records nodes - suc m) (suc m)), append_assoc)
            (write_behind l k (expand_node steps nodes m) fit ∙ ap (λ (x : List ℕ). words_of (expand_node steps nodes m) ++ x) (rw s g.rest));
      }

pub going_done : (steps : ℕ) (nodes l₀ l : List ℕ) (total i end : ℕ) → Going steps nodes l₀ total l i end → i ≤ 0
    → l ≡ words_of (expand_to steps nodes (records nodes)) ++ drop (3 * total) l₀
going_done steps nodes l₀ l total i end g h =
    let z : i ≡ 0 = omega arith in
    let p : 3 * end ≡ 0 = omega (arith, g.place ∙ ap (offset steps nodes) z, offset_start steps nodes) in
    let n : records nodes - i ≡ records nodes = omega arith in
    let r : drop 0 l ≡ words_of (expand_from steps nodes (records nodes) 0) ++ drop (3 * total) l₀ = rw (p, n, z) at g.rest in
    rw (from_start steps nodes (records nodes)) at r
