-- What the functions on the map cite, and that for a valid block they give the map itself.
use Rattle.std.specs.Prelude.{◌≡◌, true, false, List, [], ◌∷◌, ◌++◌, ℕ, zero, suc, ◌+◌, ◌-◌, ◌*◌, ◌/◌, ◌≤◌, ◌<◌, min, length, get_or, set, take, drop, ltb}
use Rattle.std.proofs.Math.Path.{refl}
use Rattle.std.proofs.Common.{sym, ap, ◌∙◌, zero-add, add-one, drop_at, get_or-take, length-take-le}
use native.Mathlib.Omega.{arith}
use Rattle.std.proofs.lemmas.List.Edits.{sets}
use Rattle.std.proofs.Math.Seq.{length-sets, sets-eq}
use borrow.Author.Tests.{lt-ltb, le-ltb, le-leb, lt-leb}
use Rattle.tables.specs.Tests.{cond_pred}
use Rattle.tables.specs.Stores.{sets_append, sets_in}
use Rattle.block.specs.Block.{Block, node_count}
use Rattle.block.specs.Kinds.{kind_of, length_of, node_length, offset, tanh_steps}
use Rattle.block.specs.Valid.{Valid}
use Rattle.expand.specs.Expansion.{map_node, map_update}
use Rattle.tables.specs.Lists.{list_of, list_length, list_at}
use Rattle.expand.specs.Lengths.{node_positive, offset_start, offset_next, offset_le, offset_ge, map_below}
use Rattle.expand.specs.Map.{map_within, map_update_within, map_of, mapping, map_call}

-- ---- the first n records alone have the same offsets
length_take_node : (steps : ℕ) (nodes : List ℕ) (n i : ℕ) → i < n → node_length steps (take (3 * n) nodes) i ≡ node_length steps nodes i
unfolding node_length
length_take_node steps nodes n i h = ap (λ (c : ℕ). length_of steps (kind_of c)) (get_or-take (3 * n) nodes (3 * i) 0 (omega arith))

offset_take : (steps : ℕ) (nodes : List ℕ) (n i : ℕ) → i ≤ n → offset steps (take (3 * n) nodes) i ≡ offset steps nodes i
offset_take steps nodes n zero h = offset_start steps (take (3 * n) nodes) ∙ sym (offset_start steps nodes)
offset_take steps nodes n (suc i) h =
    omega (arith, offset_next steps (take (3 * n) nodes) i, offset_next steps nodes i, offset_take steps nodes n i (omega arith), length_take_node steps nodes n i h)

-- ---- of one node
pub within_past : (nodes : List ℕ) (i : ℕ) → length nodes / 3 ≤ i → map_within nodes i ≡ 65536
unfolding map_within
within_past nodes i h = rw (le-ltb i (length nodes / 3) h)

-- r is the saturated expanded length of the records up to node i
pub within_is : (nodes : List ℕ) (i r : ℕ) → i < length nodes / 3
    → r ≡ min (offset tanh_steps (take (3 * (i + 1)) nodes) (length (take (3 * (i + 1)) nodes) / 3)) 65537 → r - 1 ≡ map_within nodes i
unfolding map_within
within_is nodes i r h e =
    let l : length (take (3 * (i + 1)) nodes) ≡ 3 * (i + 1) = length-take-le (3 * (i + 1)) nodes (omega arith) in
    let n : length (take (3 * (i + 1)) nodes) / 3 ≡ suc i = omega arith in
    let o : offset tanh_steps (take (3 * (i + 1)) nodes) (suc i) ≡ offset tanh_steps nodes (suc i) = offset_take tanh_steps nodes (i + 1) (suc i) (omega arith) in
    let s : r ≡ min (offset tanh_steps nodes (suc i)) 65537 = e ∙ rw (n, o) in
    rw (lt-ltb i (length nodes / 3) h) (omega arith)

-- the records up to node i expand to at least one node
pub within_counts : (nodes : List ℕ) (i r : ℕ) → i < length nodes / 3
    → r ≡ min (offset tanh_steps (take (3 * (i + 1)) nodes) (length (take (3 * (i + 1)) nodes) / 3)) 65537 → 1 ≤ r
within_counts nodes i r h e =
    let l : length (take (3 * (i + 1)) nodes) ≡ 3 * (i + 1) = length-take-le (3 * (i + 1)) nodes (omega arith) in
    omega (arith, offset_ge tanh_steps (take (3 * (i + 1)) nodes) (length (take (3 * (i + 1)) nodes) / 3))

pub within_small : (nodes : List ℕ) (i : ℕ) → map_within nodes i ≤ 65536
unfolding map_within
within_small nodes i = cond_pred (λ (m : ℕ). m ≤ 65536) (ltb i (length nodes / 3)) (λ e. omega arith) (λ e. omega arith)

pub update_within_is : (nodes : List ℕ) (update r : ℕ) → (update ≡ 0 → ⊥) → r ≡ map_within nodes (update - 1) → r + 1 ≡ map_update_within nodes update
update_within_is nodes zero r h e = absurd (h refl)
update_within_is nodes (suc i) r h e = let z : suc i - 1 ≡ i = omega arith in rw (add-one, e, z)

-- OF A VALID BLOCK it is the map
pub within_valid : (b : Block) → Valid b → (i : ℕ) → i < node_count b → map_within b.nodes i ≡ map_node tanh_steps b.nodes i
unfolding map_within
within_valid b valid i h =
    let m = map_below tanh_steps b.nodes i (node_count b) h in
    let f = valid.fits in
    rw (lt-ltb i (node_count b) h) (omega arith)

pub update_within_valid : (b : Block) → Valid b → (update : ℕ) → update ≤ node_count b
    → map_update_within b.nodes update ≡ map_update tanh_steps b.nodes update
update_within_valid b valid zero h = refl
update_within_valid b valid (suc i) h = ap suc (within_valid b valid i h)

-- ---- the map over the start of a table
unfoldable pub map_over : ℕ → List ℕ → ℕ → List ℕ → List ℕ
map_over steps nodes n table = sets table 0 (map_of steps nodes n)

module _ (steps : ℕ) (nodes : List ℕ) where
  pub over_start : (l : List ℕ) → l ≡ map_over steps nodes 0 l
  unfolding map_over list_of
  over_start l = refl

  pub over_next : (l m : List ℕ) (i v : ℕ) → m ≡ map_over steps nodes i l → v ≡ map_node steps nodes i → set m i v ≡ map_over steps nodes (i + 1) l
  unfolding map_over list_of
  over_next l m i v e w = rw (e, w, add-one) (sets_append l 0 i (map_of steps nodes i) (map_node steps nodes i ∷ []) (omega (arith, list_length (map_node steps nodes) i)))

  pub over_length : (n : ℕ) (l : List ℕ) → length (map_over steps nodes n l) ≡ length l
  unfolding map_over
  over_length n l = length-sets l 0 (map_of steps nodes n)

  pub over_at : (n : ℕ) (l : List ℕ) (i : ℕ) → n ≤ length l → i < n → get_or (map_over steps nodes n l) i 0 ≡ map_node steps nodes i
  unfolding map_over
  over_at n l i h q =
      let c = list_length (map_node steps nodes) n in
      let z : 0 + i ≡ i = omega arith in
      rw z at (sets_in l 0 (map_of steps nodes n) i (omega arith) (omega arith)) ∙ list_at (map_node steps nodes) n i q

  pub over_is : (n : ℕ) (l : List ℕ) → n ≤ length l → map_over steps nodes n l ≡ map_of steps nodes n ++ drop n l
  unfolding map_over
  over_is n l h =
      let c = list_length (map_node steps nodes) n in
      sets-eq (map_of steps nodes n) l 0 (omega arith) ∙ rw (zero-add, c)

  pub over_behind : (n : ℕ) (l : List ℕ) → n ≤ length l → drop n (map_over steps nodes n l) ≡ drop n l
  over_behind n l h = ap (drop n) (over_is n l h) ∙ drop_at (map_of steps nodes n) (drop n l) n (list_length (map_node steps nodes) n)

-- ---- the loop that writes the map: the nodes below i are mapped, and `total` is where node i's expansion starts
pub record Filling (steps : ℕ) (nodes l₀ : List ℕ) (n : ℕ) (l : List ℕ) (total i : ℕ) : Type 0 where
  pub within : i ≤ n
  pub counted : total ≡ offset steps nodes i
  pub filled : l ≡ map_over steps nodes i l₀

pub filling_start : (steps : ℕ) (nodes l : List ℕ) (n : ℕ) → Filling steps nodes l n l 0 0
filling_start steps nodes l n = record { within = omega arith; counted = sym (offset_start steps nodes); filled = over_start steps nodes l }

module _ (steps : ℕ) (nodes l₀ l : List ℕ) (n total i long : ℕ) (f : Filling steps nodes l₀ n l total i) (here : i < n) (e : long ≡ node_length steps nodes i) where
  -- the new total is a word, and not 0
  pub filling_small : offset steps nodes n ≤ 65536 → (1 ≤ total + long) × (total + long ≤ 65536)
  filling_small h =
      let p : offset steps nodes (suc i) ≤ offset steps nodes n = offset_le steps nodes (suc i) n here in
      let q : offset steps nodes (suc i) ≡ total + long = omega (arith, offset_next steps nodes i, f.counted) in
      (omega (arith, node_positive steps nodes i), omega arith)

  pub filling_next : Filling steps nodes l₀ n (set l i (total + long - 1)) (total + long) (i + 1)
  filling_next =
      let q : offset steps nodes (suc i) ≡ total + long = omega (arith, offset_next steps nodes i, f.counted) in
      record {
        within = omega arith;
        counted = rw add-one (sym q);
        filled = over_next steps nodes l₀ l i (total + long - 1) f.filled (omega arith);
      }

pub filling_end : (steps : ℕ) (nodes l₀ l : List ℕ) (n total i : ℕ) → Filling steps nodes l₀ n l total i → n ≤ i → l ≡ map_over steps nodes n l₀
filling_end steps nodes l₀ l n total i f h = let z : i ≡ n = omega (arith, f.within) in rw z at f.filled

-- ---- the ways out of `map_nodes`, where r is the saturated expanded length
module _ (nodes table : List ℕ) where
  pub map_short : length table < length nodes / 3 → mapping false table ≡ map_call nodes table
  unfolding map_call
  map_short h = rw (lt-leb (length nodes / 3) (length table) h)

  module _ (r : ℕ) (e : r ≡ min (offset tanh_steps nodes (length nodes / 3)) 65537) (h : length nodes / 3 ≤ length table) where
    pub map_large : 65536 < r → mapping false table ≡ map_call nodes table
    unfolding map_call
    map_large q = rw (le-leb (length nodes / 3) (length table) h, lt-leb (offset tanh_steps nodes (length nodes / 3)) 65536 (omega arith))

    pub map_done : (o : List ℕ) → r ≤ 65536 → o ≡ map_over tanh_steps nodes (length nodes / 3) table → mapping true o ≡ map_call nodes table
    unfolding map_call
    map_done o q w =
        rw (le-leb (length nodes / 3) (length table) h, le-leb (offset tanh_steps nodes (length nodes / 3)) 65536 (omega arith))
        (ap (mapping true) (w ∙ over_is tanh_steps nodes (length nodes / 3) table h))

-- OF A VALID BLOCK it is done wherever the table has a word for each node
pub map_call_valid : (b : Block) → Valid b → (table : List ℕ) → node_count b ≤ length table
    → map_call b.nodes table ≡ mapping true (map_of tanh_steps b.nodes (node_count b) ++ drop (node_count b) table)
unfolding map_call
map_call_valid b valid table h =
    rw (le-leb (node_count b) (length table) h, le-leb (offset tanh_steps b.nodes (node_count b)) 65536 valid.fits)
