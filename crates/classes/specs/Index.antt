-- What the code of the index says: `Fresh` is what the index is made from, `Indexed` what it is when all nodes are in; then the laws that their user needs
-- (`fresh_of`, `indexed_class`, `indexed_above`), and those that the code's loops cite. Assumes nothing.
use Rattle.std.specs.Prelude.{◌≡◌, Bool, cond, List, length, set}
use Rattle.std.proofs.Math.Path.{refl, subst}
use Rattle.std.proofs.Common.{sym, ◌∙◌, add-one, arith, eq-eqb, ne_eqb, ltb-true}
use Rattle.std.proofs.Math.Bool.{true, false}
use Prim.Native.Nat.{ℕ, zero, suc, ◌+◌, ◌*◌, ◌-◌, ◌/◌, ◌%◌, ◌≤◌, ◌<◌}
use Rattle.std.proofs.Math.Decide.{dec_lt}
use Rattle.std.proofs.Math.ListN.{get_or, length-set}
use Rattle.std.proofs.Math.Seq.{get_or-set_other}
use Rattle.std.proofs.Math.Dec.{eqb}
use Rattle.std.proofs.lemmas.Bool.{lt-leb}
use Rattle.tables.specs.Tests.{◌&◌, true_false}
use Rattle.tables.specs.Zeros.{zeros, zeros_at, zeros_length}
use Rattle.block.specs.Block.{code}
use Rattle.block.specs.Limits.{most_nodes}
use Rattle.block.specs.declared.Counts.{Counts}
use Rattle.expand.specs.Graph.{Graph}
use Rattle.expand.specs.Good.{good_operands, good_primitive, primitive}
use Rattle.expand.specs.GraphLaws.{GoodGraph}
use Rattle.classes.specs.Classes.{is_operand, first_key, second_key, has_keys, classes_to, find}
use Rattle.classes.specs.ClassLaws.{own_first, own_second, own_keys, first_known, second_known, class_at}
use Rattle.classes.specs.Start.{index_length, root}
use Rattle.classes.specs.Tree.{key_at, child, Place, at_root, at_child, place_high, Stops, empty, found, pass}
use Rattle.classes.specs.Cells.{Good, Cell, Keyed, Index, Walk, NodeWalk, cell_at, walk_place, root_code, child_code, lookup_finds, insert_old, insert_new, aside_above, index_aside, Noted, keys_stored, index_start}

-- ---- what the index is made from, and what it is

-- the nodes of a valid block, and a work table that has room for the index, whatever it holds
pub record Fresh (count : ℕ) (nodes work : List ℕ) : Type 0 where
  pub long : length nodes ≡ 3 * count
  pub small : count ≤ most_nodes
  pub good : Good nodes count
  pub room : index_length count ≤ length work

-- the first n of the nodes are in the index
pub record Filled (count n : ℕ) (nodes work : List ℕ) : Type 0 where
  pub long : length nodes ≡ 3 * count
  pub small : count ≤ most_nodes
  pub good : Good nodes count
  pub room : index_length count ≤ length work
  pub index : Index nodes count n work

-- all are
abbrev pub Indexed : ℕ → List ℕ → List ℕ → Type 0
Indexed count nodes work = Filled count count nodes work

-- ---- what a user of the index needs

code_small_of : (c : ℕ) → primitive c ≡ true → c < 32
unfolding primitive
code_small_of c e = go (dec_lt c 32)
  where
    go : Dec (c < 32) → c < 32
    go (yes h) = h
    go (no h) =
        true_false
        (sym (rw (lt-leb c 10 (omega arith), ne_eqb c 12 (λ q. omega arith), ne_eqb c 13 (λ q. omega arith), ne_eqb c 17 (λ q. omega arith)) at e))

-- the nodes of a good graph, and a work table with room
pub fresh_of : {counts : Counts} {g : Graph} {work : List ℕ} → GoodGraph counts g → index_length g.count ≤ length work → Fresh g.count g.nodes work
unfolding is_operand
fresh_of {counts} {g} good h =
    record {
      long = good.long;
      small = good.limit;
      good = record {
        back = record {
          first = λ i l t. (good_operands counts i _ _ _ (good.nodes i l)).0 (ltb-true _ _ t);
          second = λ i l t. (good_operands counts i _ _ _ (good.nodes i l)).1 (ltb-true _ _ t);
        };
        codes = λ i l. code_small_of _ (good_primitive counts i _ _ _ (good.nodes i l));
      };
      room = h;
    }

-- word i is the class of node i
pub indexed_class : {count : ℕ} {nodes work : List ℕ} → Indexed count nodes work → (i : ℕ) → i < count → get_or work i 0 ≡ get_or (classes_to nodes count) i 0
indexed_class {count} {nodes} {work} f i h = f.index.known i h ∙ sym (class_at nodes count i h)

-- a store behind the index keeps it
pub indexed_above : {count : ℕ} {nodes work : List ℕ} → Indexed count nodes work → (k v : ℕ) → index_length count ≤ k → Indexed count nodes (set work k v)
indexed_above {count} {nodes} {work} f k v h =
    record { long = f.long; small = f.small; good = f.good; room = simp length-set f.room; index = index_aside nodes count f.good count work f.index k v (aside_above f.index.upto h) }

-- ---- the walk's loop

-- some nodes are in
pub record Ready (count : ℕ) (nodes work : List ℕ) : Type 0 where
  pub upto : ℕ
  pub filled : Filled count upto nodes work

pub filled_ready : {count n : ℕ} {nodes work : List ℕ} → Filled count n nodes work → Ready count nodes work
filled_ready {n = n} f = record { upto = n; filled = f }

pub ready_room : {count : ℕ} {nodes work : List ℕ} → Ready count nodes work → index_length count ≤ length work
ready_room r = r.filled.room

-- the two words from `at` on are these keys
unfoldable pub keys_at : List ℕ → ℕ → ℕ → ℕ → Bool
keys_at work at x y = eqb (get_or work at 0) x & eqb (get_or work (at + 1) 0) y

-- at cell `at`, whose word is w and whose node has the code, with the bits of a and d to come
pub record Going (count n : ℕ) (nodes work : List ℕ) (c x y at a d w : ℕ) : Type 0 where
  pub place : Place count n at
  pub word : w ≡ get_or work at 0
  pub coded : (q : ℕ) → get_or work at 0 ≡ suc q → code nodes q ≡ c
  pub rest : (stop : ℕ) → Stops (own_keys nodes c x y) count work at a d stop → Walk nodes count work c x y stop

-- what is left of the walk: nodes grow along it, and an empty cell ends it
unfoldable pub left : ℕ → ℕ → ℕ
left count w = cond (eqb w 0) 0 (count + 1 - w)

module _ {count : ℕ} {nodes work : List ℕ} (r : Ready count nodes work) where
  pub going_start : (c x y : ℕ) → c < 32 → Going count r.upto nodes work c x y (root count c x y) x y (get_or work (root count c x y) 0)
  going_start c x y h =
      record {
        place = at_root c x y h refl;
        word = refl;
        coded = λ q z. root_code nodes count r.filled.good r.upto work r.filled.index c x y q h z;
        rest = λ stop s. s;
      }

  module _ {c x y at a d w : ℕ} (g : Going count r.upto nodes work c x y at a d w) where
    pub going_in : (at < length work) × (at < index_length count)
    going_in = let w = r.filled.room in let h = place_high r.filled.index.upto g.place in (omega arith, omega arith)

    word_is : 0 < w → get_or work at 0 ≡ suc (w - 1)
    word_is h = let e = g.word in omega arith

    going_cell : 0 < w → Cell nodes count r.upto r.filled.index.depth at (w - 1)
    going_cell h = cell_at nodes count r.filled.good r.upto work r.filled.index at (w - 1) g.place (word_is h)

    pub going_node : 0 < w → w - 1 < count
    going_node h = let k = (going_cell h).below in let u = r.filled.index.upto in omega arith

    -- where the code is the same, the keys are all that is left to test
    key_at_lem : (v : Bool) → 0 < w → keys_at work (key_at count (w - 1)) x y ≡ v → own_keys nodes c x y (w - 1) ≡ v
    unfolding keys_at own_keys own_first own_second has_keys ◌&◌
    key_at_lem v h e =
        let k = going_cell h in
        let own = r.filled.index.keyed (w - 1) k.below k.own in
        rw (eq-eqb _ _ (g.coded (w - 1) (word_is h))) (test own e)
      where
        test : Keyed nodes count work (w - 1) → keys_at work (key_at count (w - 1)) x y ≡ v
            → (eqb (first_key nodes (classes_to nodes (w - 1)) (w - 1)) x & eqb (second_key nodes (classes_to nodes (w - 1)) (w - 1)) y) ≡ v
        test own e = rw (own.first, own.second) at e

    -- the node has the key
    pub going_hit : 0 < w → keys_at work (count + (w - 1) * 4) x y ≡ true → Walk nodes count work c x y at
    unfolding key_at
    going_hit h e = g.rest at (found refl (word_is h) (key_at_lem true h e))

    -- the cell is empty
    pub going_end : w ≤ 0 → Walk nodes count work c x y at
    going_end h = g.rest at (empty refl (let e = g.word in omega arith))

    -- the walk goes on
    pub going_turn : 0 < w → keys_at work (count + (w - 1) * 4) x y ≡ false
        → Going count r.upto nodes work c x y (count + (w - 1) * 4 + 2 + a % 2) d (a / 2) (get_or work (count + (w - 1) * 4 + 2 + a % 2) 0)
    unfolding child key_at
    going_turn h e =
        record {
          place = at_child (w - 1) a (going_cell h).below refl;
          word = refl;
          coded = λ q z. (child_code nodes count r.filled.good r.upto work r.filled.index (w - 1) a q (going_cell h).below z).0
              ∙ g.coded (w - 1) (word_is h);
          rest = λ stop s. g.rest stop (pass (word_is h) (key_at_lem false h e) s);
        }

    -- the next node is a later one
    pub going_less : 0 < w → left count (get_or work (count + (w - 1) * 4 + 2 + a % 2) 0) < left count w
    unfolding left child
    going_less h = go (get_or work (child count (w - 1) a) 0) (going_node h) next
      where
        next : (q : ℕ) → get_or work (child count (w - 1) a) 0 ≡ suc q → (w - 1 < q) × (q < count)
        next q z =
            let (l, b) = (child_code nodes count r.filled.good r.upto work r.filled.index (w - 1) a q (going_cell h).below z).1 in
            let f = r.filled.index.upto in
            (l, omega arith)

        go : (v : ℕ) → w - 1 < count → ((q : ℕ) → v ≡ suc q → (w - 1 < q) × (q < count)) → cond (eqb v 0) 0 (count + 1 - v) < cond (eqb w 0) 0 (count + 1 - w)
        go zero m f = rw (ne_eqb w 0 (λ e. omega arith)) (omega arith)
        go (suc q) m f = let p = f q refl in rw (ne_eqb w 0 (λ e. omega arith), ne_eqb (suc q) 0 (λ e. omega arith)) (omega arith)

  -- where a walk stops is a cell
  pub walk_in : (c x y stop : ℕ) → c < 32 → Walk nodes count work c x y stop → (stop < length work) × (stop < index_length count)
  walk_in c x y stop h w =
      let l = place_high r.filled.index.upto (walk_place nodes count r.filled.good r.upto work r.filled.index (at_root c x y h refl) w) in
      let k = r.filled.room in (omega arith, omega arith)

-- ---- a lookup

pub filled_finds : {count : ℕ} {nodes work : List ℕ} → Indexed count nodes work → (c x y stop : ℕ) → c < 32 → Walk nodes count work c x y stop
    → get_or work stop 0 ≡ find nodes count c x y
filled_finds {count} {nodes} {work} f c x y stop h w = lookup_finds nodes count f.good work f.index c x y stop h w

-- ---- an insertion

module _ {count n : ℕ} {nodes work : List ℕ} (f : Filled count n nodes work) (l : n < count) where
  pub code_small : code nodes n < 32
  code_small = f.good.codes n l

  module _ (x y stop : ℕ) (p : x ≡ first_key nodes work n) (q : y ≡ second_key nodes work n) (w : Walk nodes count work (code nodes n) x y stop) where
    node_walk : NodeWalk nodes count work n stop
    node_walk =
        rw (
          ← first_known nodes count f.good.back work n l f.index.known,
          ← second_known nodes count f.good.back work n l f.index.known,
          ← p,
          ← q,
        ) w

    low : stop < index_length count
    low = (walk_in (filled_ready f) _ x y stop code_small w).1

    -- the node is a class of its own, its keys are stored beside its cells; what lies behind the index stays
    pub filled_new : get_or work stop 0 ≡ 0
        → Filled count (n + 1) nodes (set (set (set (set work (count + n * 4) x) (count + n * 4 + 1) y) stop (n + 1)) n n)
        × ((i : ℕ) → index_length count ≤ i → get_or (set (set (set (set work (count + n * 4) x) (count + n * 4 + 1) y) stop (n + 1)) n n) i 0 ≡ get_or work i 0)
    unfolding key_at
    filled_new z =
        let a = p ∙ first_known nodes count f.good.back work n l f.index.known in
        let b = q ∙ second_known nodes count f.good.back work n l f.index.known in
        let k : Noted nodes count n work (set (set work (count + n * 4) x) (count + n * 4 + 1) y) stop =
        rw (a, b) (keys_stored nodes count f.good n work f.room f.index stop l node_walk) in
        let g = insert_new nodes count f.good n (set (set work (count + n * 4) x) (count + n * 4 + 1) y) (simp length-set f.room) k.index stop l
        k.keyed k.walk (k.word ∙ z) in (
          record {
            long = f.long;
            small = f.small;
            good = f.good;
            room = simp length-set f.room;
            index = subst (λ v. Index nodes count (n + 1) (set (set (set (set work (count + n * 4) x) (count + n * 4 + 1) y) stop v) n n)) (sym (add-one n)) g;
          },
          λ i h.
              get_or-set_other (set (set (set work (count + n * 4) x) (count + n * 4 + 1) y) stop (n + 1)) n i n 0 (λ e. omega arith)
              ∙ get_or-set_other (set (set work (count + n * 4) x) (count + n * 4 + 1) y) stop i (n + 1) 0 (λ e. omega (arith, low))
              ∙ get_or-set_other (set work (count + n * 4) x) (count + n * 4 + 1) i y 0 (λ e. omega arith)
              ∙ get_or-set_other work (count + n * 4) i x 0 (λ e. omega arith),
        )

    -- its class is in
    pub filled_old : (get_or work stop 0 ≡ 0 → ⊥)
        → Filled count (n + 1) nodes (set work n (get_or work stop 0 - 1))
        × ((i : ℕ) → index_length count ≤ i → get_or (set work n (get_or work stop 0 - 1)) i 0 ≡ get_or work i 0)
    filled_old z = (
      record {
        long = f.long;
        small = f.small;
        good = f.good;
        room = simp length-set f.room;
        index = insert_old nodes count f.good n work f.room f.index stop (get_or work stop 0 - 1) l node_walk (omega arith);
      },
      λ i h. get_or-set_other work n i (get_or work stop 0 - 1) 0 (λ e. omega arith),
    )

-- a table of zeros is ready for the first node
pub fresh_filled : {count : ℕ} {nodes work cleared : List ℕ} → Fresh count nodes work → cleared ≡ zeros (length work) → Filled count 0 nodes cleared
fresh_filled {count} {nodes} {work} f e =
    rw e
    (record {
      long = f.long;
      small = f.small;
      good = f.good;
      room = rw (zeros_length (length work)) f.room;
      index = index_start nodes count (zeros (length work)) (zeros_at (length work));
    })
