-- The updates of states and delays through a table that maps each node to its last expanded node, as both runs, the checker and the compiler find them once for a
-- call, and the laws that this cites. Assumes nothing.
use Rattle.std.specs.Prelude.{◌≡◌, List, length, set, take, eqb}
use Rattle.std.proofs.Math.Path.{refl}
use Rattle.std.proofs.Math.Bool.{cond}
use Prim.Native.Nat.{ℕ, zero, suc, ◌+◌, ◌-◌, ◌/◌, ◌≤◌, ◌<◌}
use Rattle.std.proofs.Common.{add-one, take-suc-set}
use native.Mathlib.Omega.{arith}
use Rattle.std.proofs.Math.ListN.{get_or}
use borrow.Author.Tests.{ne_eqb}
use Rattle.tables.specs.Lists.{list_of, list_length, list_same}
use Rattle.block.specs.Block.{Block, update, node_count}
use Rattle.block.specs.Kinds.{tanh_steps}
use Rattle.block.specs.Limits.{most_nodes, most_states}
use Rattle.block.specs.Validation.{expanded_length}
use Rattle.expand.specs.Expansion.{map_node, map_update}
use Rattle.expand.specs.Graph.{mapped_update}
use Rattle.expand.specs.Lengths.{offset_ge}

-- an update through the map: 0 stays none
unfoldable pub mapped_word : List ℕ → List ℕ → ℕ → ℕ
mapped_word map memories i = let u = update memories i in cond (eqb u 0) 0 (get_or map (u - 1) 0 + 1)

-- of all states, or of all delays
unfoldable pub mapped_updates : List ℕ → List ℕ → List ℕ
mapped_updates map memories = list_of (mapped_word map memories) (length memories / 2)

-- a table of states or delays whose updates the map has
pub record Mappable (map memories : List ℕ) : Type 0 where
  pub few : length memories / 2 ≤ most_states
  pub inside : (i : ℕ) → i < length memories / 2 → update memories i ≤ length map
  pub small : (i : ℕ) → i < length memories / 2 → mapped_word map memories i ≤ most_nodes

-- an update that is not none
pub mapped_some : (map memories : List ℕ) (i : ℕ) → (update memories i ≡ 0 → ⊥) → mapped_word map memories i ≡ get_or map (update memories i - 1) 0 + 1
unfolding mapped_word
mapped_some map memories i h = rw (ne_eqb (update memories i) 0 h)

-- ---- a loop that stores f i at i: its start and its turn
pub list_start : (f : ℕ → ℕ) (l : List ℕ) → take 0 l ≡ list_of f 0
unfolding list_of
list_start f l = refl

pub list_next : (f : ℕ → ℕ) (l : List ℕ) (i v : ℕ) → i < length l → take i l ≡ list_of f i → v ≡ f i → take (i + 1) (set l i v) ≡ list_of f (i + 1)
unfolding list_of
list_next f l i v h e p = rw (add-one, take-suc-set l i v h, p, e)

pub mapped_end : (map memories l : List ℕ) (i : ℕ) → i ≡ length memories / 2 → take i l ≡ list_of (mapped_word map memories) i
    → take (length memories / 2) l ≡ mapped_updates map memories
unfolding mapped_updates
mapped_end map memories l i h e = rw h at e

pub mapped_length : (map memories : List ℕ) → length (mapped_updates map memories) ≡ length memories / 2
unfolding mapped_updates
mapped_length map memories = list_length (mapped_word map memories) (length memories / 2)

-- ---- a table that begins with the map of a block's nodes, and has a word for each expanded node
pub record IsMap (b : Block) (map : List ℕ) : Type 0 where
  pub maps : (i : ℕ) → i < node_count b → get_or map i 0 ≡ map_node tanh_steps b.nodes i
  pub room : expanded_length b ≤ length map

module _ (b : Block) (map : List ℕ) (is : IsMap b map) where
  pub mapped_is : (memories : List ℕ) (i : ℕ) → update memories i ≤ node_count b → mapped_word map memories i ≡ mapped_update b memories i
  unfolding mapped_word
  mapped_is memories i h = go (update memories i) h
    where
      go : (u : ℕ) → u ≤ node_count b → cond (eqb u 0) 0 (get_or map (u - 1) 0 + 1) ≡ map_update tanh_steps b.nodes u
      go zero h = refl
      go (suc j) h =
          let z : suc j - 1 ≡ j = omega arith in
          let e : get_or map j 0 ≡ map_node tanh_steps b.nodes j = is.maps j h in
          rw (z, ne_eqb (suc j) 0 (λ q. omega arith)) (omega arith)

  -- the updates are the expanded block's
  pub updates_are : (memories : List ℕ) → ((i : ℕ) → i < length memories / 2 → update memories i ≤ node_count b)
      → mapped_updates map memories ≡ list_of (mapped_update b memories) (length memories / 2)
  unfolding mapped_updates
  updates_are memories h = list_same (mapped_word map memories) (mapped_update b memories) (length memories / 2) (λ i q. mapped_is memories i (h i q))

  -- and can be found
  pub mappable : (memories : List ℕ) → length memories / 2 ≤ 4096 → ((i : ℕ) → i < length memories / 2 → update memories i ≤ node_count b)
      → ((i : ℕ) → i < length memories / 2 → mapped_update b memories i ≤ expanded_length b) → expanded_length b ≤ most_nodes → Mappable map memories
  mappable memories few h k fits =
      let r = is.room in
      record {
        few = few;
        inside = λ i q. omega (arith, h i q, offset_ge tanh_steps b.nodes (node_count b));
        small = λ i q. rw (mapped_is memories i (h i q)) (omega (arith, k i q));
      }
