-- The index of the classes in a lent table, cell by cell, over `count` nodes: words 0 to count - 1 are the classes, then the keys and the cells of the tree (Tree). Each
-- node that is its own class stands in one cell and has its keys beside its own cells. `lookup_finds`: the cell where the walk for a key stops holds what `find` finds. `keys_stored`, `insert_new`, `insert_old`: the
-- stores for each node keep this. Assumes nothing.
use Rattle.std.specs.Prelude.{◌≡◌, refl, ◌⊎◌, Bool, cond, List, length, get_or, set, eqb}
use Rattle.std.proofs.Common.{sym, ◌∙◌, subst, inl, inr, eq-or-lt_of_le, le_of_suc-le-suc, not-suc-le-zero, length-set, get_or-set_same, get_or-set_other, eq-eqb, ne_eqb}
use Rattle.std.proofs.Math.Path.{ap}
use Prim.Native.Nat.{ℕ, zero, suc, ◌+◌, ◌%◌, ◌≤◌, ◌<◌}
use native.Mathlib.Omega.{arith}
use Rattle.tables.specs.Stores.{set_says}
use Rattle.block.specs.Block.{code}
use Rattle.classes.specs.Classes.{find}
use Rattle.classes.specs.ClassLaws.{class_of, Known, own_first, own_second, own_keys, Same, keys_say, keys_of, same_self, same_same, same_back, Backward, class_says, one_class, own_class, find_says, find_class, finds}
use Rattle.classes.specs.Start.{index_length, root, root_low}
use Rattle.classes.specs.Tree.{key_at, key_low, key_high, key_apart, child, Place, at_root, at_child, place_more, place_low, place_high, place_key, Stops, empty, found, pass, passes, stops_hit, stops_once, stops_kept, stops_new, stops_off, stops_far}
use Rattle.classes.specs.Digits.{digit, Agree, Spot, top, under, spot_same, spot_root, spot_child, spot_more}

-- ---- the table

-- what the index asks of the nodes: operands stand before their node, and each code has a root cell
pub record Good (nodes : List ℕ) (count : ℕ) : Type 0 where
  pub back : Backward nodes count
  pub codes : (i : ℕ) → i < count → code nodes i < 32

-- cell k holds node q: one of the first n, a class, and where its digits led when the nodes before it were in
pub record Cell (nodes : List ℕ) (count n : ℕ) (depth : ℕ → ℕ) (k q : ℕ) : Type 0 where
  pub below : q < n
  pub own : class_of nodes q ≡ q
  pub spot : Spot nodes count q depth (code nodes q) (own_first nodes q) (own_second nodes q) (depth q) k

-- node q's keys stand beside its cells
pub record Keyed (nodes : List ℕ) (count : ℕ) (table : List ℕ) (q : ℕ) : Type 0 where
  pub first : get_or table (key_at count q) 0 ≡ own_first nodes q
  pub second : get_or table (key_at count q + 1) 0 ≡ own_second nodes q

-- the walk for the key (c, x, y) stops at this cell
abbrev pub Walk : List ℕ → ℕ → List ℕ → ℕ → ℕ → ℕ → ℕ → Type 0
Walk nodes count table c x y stop = Stops (own_keys nodes c x y) count table (root count c x y) x y stop

-- the walk for node j's key
abbrev pub NodeWalk : List ℕ → ℕ → List ℕ → ℕ → ℕ → Type 0
NodeWalk nodes count table j stop = Walk nodes count table (code nodes j) (own_first nodes j) (own_second nodes j) stop

-- node j is found
pub record Found (nodes : List ℕ) (count : ℕ) (table : List ℕ) (j : ℕ) : Type 0 where
  pub at : ℕ
  pub walk : NodeWalk nodes count table j at
  pub here : get_or table at 0 ≡ suc j

-- the first n nodes are in the index; `depth` says how many nodes stand above each
pub record Index (nodes : List ℕ) (count n : ℕ) (table : List ℕ) : Type 0 where
  pub upto : n ≤ count
  pub known : Known nodes table n
  pub depth : ℕ → ℕ
  pub keyed : (q : ℕ) → q < n → class_of nodes q ≡ q → Keyed nodes count table q
  pub cell : (k q : ℕ) → Place count count k → get_or table k 0 ≡ suc q → Cell nodes count n depth k q
  pub whole : (j : ℕ) → j < n → class_of nodes j ≡ j → Found nodes count table j

module _ (nodes : List ℕ) (count : ℕ) (ok : Good nodes count) (n : ℕ) (table : List ℕ) (i : Index nodes count n table) where
  -- what is in a cell that a walk reaches
  pub cell_at : (k q : ℕ) → Place count n k → get_or table k 0 ≡ suc q → Cell nodes count n i.depth k q
  cell_at k q p z = i.cell k q (place_more i.upto p) z

  pub walk_place : {hit : ℕ → Bool} {at x y stop : ℕ} → Place count n at → Stops hit count table at x y stop → Place count n stop
  walk_place p (empty q z) = rw q p
  walk_place p (found q z h) = rw q p
  walk_place {at = at} {x = x} p (pass {p = m} z h s) = walk_place (at_child m x (cell_at at m p z).below refl) s

  -- a walk for the key of a node that is in stops at the node's class
  walk_has : (c x y j stop : ℕ) → j < n → Same nodes c x y j → Walk nodes count table c x y stop → get_or table stop 0 ≡ suc (class_of nodes j)
  walk_has c x y j stop l s w =
      let u = i.upto in
      let (r, h) = class_says nodes count ok.back j (omega arith) in
      let m = class_of nodes j in
      let f = i.whole m (omega arith) (own_class nodes count ok.back j (omega arith)) in
      let t = same_same r s in
      let v : Walk nodes count table c x y f.at = rw (t.code, t.first, t.second) at f.walk in
      ap (λ k. get_or table k 0) (stops_once w v) ∙ f.here

  -- where a walk stops at a node, the node has the key and is a class
  walk_is : (c x y p stop : ℕ) → c < 32 → Walk nodes count table c x y stop → get_or table stop 0 ≡ suc p
      → Same nodes c x y p × Cell nodes count n i.depth stop p
  walk_is c x y p stop h w z =
      (keys_say nodes c x y p (stops_hit p w z), cell_at stop p (walk_place (at_root c x y h refl) w) z)

  -- a node in the cell where the walks for a key begin has its code
  pub root_code : (c x y q : ℕ) → c < 32 → get_or table (root count c x y) 0 ≡ suc q → code nodes q ≡ c
  root_code c x y q h z =
      let k = cell_at (root count c x y) q (at_root c x y h refl) z in
      let b = k.below in
      let u = i.upto in
      spot_root c x y (omega arith) k.spot

  -- a node in a cell of node p has its code and is a later one
  pub child_code : (p x q : ℕ) → p < n → get_or table (child count p x) 0 ≡ suc q → (code nodes q ≡ code nodes p) × ((p < q) × (q < n))
  child_code p x q h z =
      let k = cell_at (child count p x) q (at_child p x h refl) z in
      let b = k.below in
      let u = i.upto in
      let (e, l) = spot_child p x (omega arith) (omega arith) k.spot in
      (e, (l, b))

  -- the class of the next node, from the cell where its walk stops
  new_class : (stop : ℕ) → n < count → NodeWalk nodes count table n stop → get_or table stop 0 ≡ 0 → class_of nodes n ≡ n
  new_class stop l w z = let (s, h) = class_says nodes count ok.back n l in go s (eq-or-lt_of_le h)
    where
      go : Same nodes (code nodes n) (own_first nodes n) (own_second nodes n) (class_of nodes n) → (class_of nodes n ≡ n) ⊎ (class_of nodes n < n) → class_of nodes n ≡ n
      go s (inl q) = q
      go s (inr q) = let k = walk_has _ _ _ (class_of nodes n) stop q s w in absurd (omega (arith, z))

  old_class : (stop p : ℕ) → n < count → NodeWalk nodes count table n stop → get_or table stop 0 ≡ suc p → class_of nodes n ≡ p
  old_class stop p l w z =
      let (s, k) = walk_is _ _ _ p stop (ok.codes n l) w z in
      let h = k.below in
      (one_class nodes count ok.back n p l (omega arith)).1 (same_back s) ∙ k.own

  -- ---- the digits along a walk for the key (c, x, y)

  -- a node that a walk meets at depth m has its code and shares its first m digits
  pub spot_met : (c x y m at p : ℕ) → Place count n at → Spot nodes count n i.depth c x y m at → get_or table at 0 ≡ suc p
      → (p < n) × ((code nodes p ≡ c) × ((i.depth p ≡ m) × Agree m x y (own_first nodes p) (own_second nodes p)))
  spot_met c x y m at p o s z =
      let k = cell_at at p o z in
      let b = k.below in
      let (e, (f, g)) = spot_same i.upto s (spot_more n i.depth (omega arith) (λ j l. refl) k.spot) in
      (b, (sym e, (sym f, g)))

  -- the cell where it goes on, by the next digit
  pub spot_next : (c x y m at p a : ℕ) → Place count n at → Spot nodes count n i.depth c x y m at → get_or table at 0 ≡ suc p → digit m x y ≡ a % 2
      → Spot nodes count n i.depth c x y (suc m) (child count p a)
  spot_next c x y m at p a o s z d =
      let (l, (e, (f, g))) = spot_met c x y m at p o s z in
      under p a l refl (ap suc (sym f)) e (λ j h. g j (omega arith)) (ap (λ k. digit k x y) f ∙ d)

  -- a walk stops where the digits of its key lead
  pub walk_spot : {hit : ℕ → Bool} {at a d stop : ℕ} (c x y m : ℕ) → Place count n at → Spot nodes count n i.depth c x y m at
      → ((j : ℕ) → digit j a d ≡ digit (j + m) x y) → (s : Stops hit count table at a d stop) → Spot nodes count n i.depth c x y (m + passes s) stop
  unfolding digit passes
  walk_spot c x y m o s r (empty q z) = rw (q, let e : m + 0 ≡ m = omega arith in e) s
  walk_spot c x y m o s r (found q z h) = rw (q, let e : m + 0 ≡ m = omega arith in e) s
  walk_spot {at = at} {a = a} c x y m o s r (pass {p = p} z h w) =
      let e : m + suc (passes w) ≡ suc m + passes w = omega arith in
      rw e
      (walk_spot c x y (suc m) (at_child p a (cell_at at p o z).below refl)
      (spot_next c x y m at p a o s z (sym (r 0 ∙ ap (λ k. digit k x y) (let u : 0 + m ≡ m = omega arith in u))))
      (λ j. r (suc j) ∙ ap (λ k. digit k x y) (let u : suc j + m ≡ j + suc m = omega arith in u))
      w)

-- LOOKUP FINDS: once all nodes are in, the cell where the walk stops holds what the search among all nodes finds
pub lookup_finds : (nodes : List ℕ) (count : ℕ) → Good nodes count → (table : List ℕ) → Index nodes count count table → (c x y stop : ℕ) → c < 32
    → Walk nodes count table c x y stop → get_or table stop 0 ≡ find nodes count c x y
lookup_finds nodes count ok table i c x y stop h w = go (find nodes count c x y) refl (get_or table stop 0) refl
  where
    go : (r : ℕ) → find nodes count c x y ≡ r → (v : ℕ) → get_or table stop 0 ≡ v → v ≡ r
    go zero f zero g = refl
    go zero f (suc p) g =
        let (s, k) = walk_is nodes count ok count table i c x y p stop h w g in
        let (r, z, _) = finds nodes count ok.back c x y p k.below s in absurd (omega arith)
    go (suc r) f v g =
        let (s, l) = find_says nodes count ok.back c x y r f in
        let own = find_class nodes count ok.back c x y r f in
        sym g ∙ (walk_has nodes count ok count table i c x y r stop l s w ∙ ap suc own)

-- ---- the next node goes in

-- the cells have n + 1 nodes, the classes n
record Ahead (nodes : List ℕ) (count n : ℕ) (table : List ℕ) : Type 0 where
  known : Known nodes table n
  depth : ℕ → ℕ
  keyed : (q : ℕ) → q < n + 1 → class_of nodes q ≡ q → Keyed nodes count table q
  cell : (k q : ℕ) → Place count count k → get_or table k 0 ≡ suc q → Cell nodes count (n + 1) depth k q
  whole : (j : ℕ) → j < n + 1 → class_of nodes j ≡ j → Found nodes count table j

last_or : (P : ℕ → Type 0) (n : ℕ) → P n → ((j : ℕ) → j < n → P j) → (j : ℕ) → j < n + 1 → P j
last_or P n h f j l = go (eq-or-lt_of_le (le_of_suc-le-suc (omega arith)))
  where
    go : (j ≡ n) ⊎ (j < n) → P j
    go (inl q) = rw q h
    go (inr q) = f j q

-- one node more, at depths that are as they were
cell_more : {nodes : List ℕ} {count n : ℕ} {depth : ℕ → ℕ} {k q : ℕ} (deeper : ℕ → ℕ) → ((p : ℕ) → p < n → deeper p ≡ depth p) → Cell nodes count n depth k q
    → Cell nodes count (n + 1) deeper k q
cell_more {nodes} {count} {n} {depth} {k} {q} deeper f c =
    let h = c.below in
    record {
      below = omega arith;
      own = c.own;
      spot = subst (λ m. Spot nodes count q deeper (code nodes q) (own_first nodes q) (own_second nodes q) m k) (sym (f q h))
          (spot_more q deeper (omega arith) (λ p l. f p (omega arith)) c.spot);
    }

-- a store elsewhere keeps a node's keys
keyed_kept : {nodes : List ℕ} {count : ℕ} {table : List ℕ} {q : ℕ} (k v : ℕ) → (key_at count q ≡ k → ⊥) → (key_at count q + 1 ≡ k → ⊥) → Keyed nodes count table q
    → Keyed nodes count (set table k v) q
keyed_kept {table = table} k v f g y = record { first = get_or-set_other table k _ v 0 f ∙ y.first; second = get_or-set_other table k _ v 0 g ∙ y.second }

cells_low : (count c x y : ℕ) → count ≤ root count c x y
cells_low count c x y = let h = root_low count c x y in omega arith

-- the class's store
class_store : (nodes : List ℕ) (count n v : ℕ) (table : List ℕ) → index_length count ≤ length table → n < count → v ≡ class_of nodes n
    → Ahead nodes count n table → Index nodes count (n + 1) (set table n v)
class_store nodes count n v table w l e a =
    record {
      upto = omega arith;
      known = last_or (λ j. get_or (set table n v) j 0 ≡ class_of nodes j) n (get_or-set_same table n v 0 (omega arith) ∙ e)
          (λ j h. get_or-set_other table n j v 0 (λ r. omega arith) ∙ a.known j h);
      depth = a.depth;
      keyed = λ q h o. let b = key_low count q in keyed_kept n v (λ r. omega arith) (λ r. omega arith) (a.keyed q h o);
      cell = λ k q o z. a.cell k q o (sym (get_or-set_other table n k v 0 (λ r. let h = place_low o in omega arith)) ∙ z);
      whole = λ j h o.
          let f = a.whole j h o in
          let k : count ≤ f.at = stops_far (cells_low count _ _ _) f.walk in
          record { at = f.at; walk = stops_off n v l (cells_low count _ _ _) f.walk; here = get_or-set_other table n f.at v 0 (λ r. omega arith) ∙ f.here };
    }

-- INSERT KEEPS: a node whose class stands in the index
pub insert_old : (nodes : List ℕ) (count : ℕ) → Good nodes count → (n : ℕ) (table : List ℕ) → index_length count ≤ length table
    → Index nodes count n table → (stop p : ℕ) → n < count → NodeWalk nodes count table n stop → get_or table stop 0 ≡ suc p → Index nodes count (n + 1) (set table n p)
insert_old nodes count ok n table wide i stop p l w z =
    let q = old_class nodes count ok n table i stop p l w z in
    let (s, k) = walk_is nodes count ok n table i _ _ _ p stop (ok.codes n l) w z in
    let h = k.below in
    class_store nodes count n p table wide l (sym q) (record {
      known = i.known;
      depth = i.depth;
      keyed = last_or (λ j. class_of nodes j ≡ j → Keyed nodes count table j) n (λ o. absurd (omega arith)) i.keyed;
      cell = λ m r o y. cell_more i.depth (λ j b. refl) (i.cell m r o y);
      whole = last_or (λ j. class_of nodes j ≡ j → Found nodes count table j) n (λ o. absurd (omega arith)) i.whole;
    })

-- node n at depth m, the others as they were
unfoldable deepen : (ℕ → ℕ) → ℕ → ℕ → ℕ → ℕ
deepen depth n m j = cond (eqb j n) m (depth j)

deepen_new : (depth : ℕ → ℕ) (n m : ℕ) → deepen depth n m n ≡ m
unfolding deepen
deepen_new depth n m = rw (eq-eqb n n refl)

deepen_old : (depth : ℕ → ℕ) (n m p : ℕ) → p < n → deepen depth n m p ≡ depth p
unfolding deepen
deepen_old depth n m p h = rw (ne_eqb p n (λ e. omega arith))

-- INSERT KEEPS: a node that is a class, its keys stored, goes into the empty cell where its walk stops
pub insert_new : (nodes : List ℕ) (count : ℕ) → Good nodes count → (n : ℕ) (table : List ℕ) → index_length count ≤ length table
    → Index nodes count n table → (stop : ℕ) → n < count → Keyed nodes count table n → NodeWalk nodes count table n stop → get_or table stop 0 ≡ 0
    → Index nodes count (n + 1) (set (set table stop (suc n)) n n)
insert_new nodes count ok n table wide i stop l own w z =
    let begin = at_root (code nodes n) (own_first nodes n) (own_second nodes n) (ok.codes n l) refl in
    let o = walk_place nodes count ok n table i begin w in
    let low = place_low o in
    let high = place_high i.upto o in
    let c = new_class nodes count ok n table i stop l w z in
    let spot = walk_spot nodes count ok n table i (code nodes n) (own_first nodes n) (own_second nodes n) 0 begin (top refl refl)
    (λ j. ap (λ k. digit k (own_first nodes n) (own_second nodes n)) (let u : j ≡ j + 0 = omega arith in u)) w in
    class_store nodes count n n (set table stop (suc n)) (simp length-set wide) l (sym c) (record {
      known = λ j h. get_or-set_other table stop j (suc n) 0 (λ r. omega arith) ∙ i.known j h;
      depth = deepen i.depth n (0 + passes w);
      keyed = last_or (λ j. class_of nodes j ≡ j → Keyed nodes count (set table stop (suc n)) j) n (λ _. kept o n l own)
          (λ j h q. kept o j (omega arith) (i.keyed j h q));
      cell = λ k q g y. at_cell c (0 + passes w) spot k q g (set_says table stop (suc n) k q y);
      whole = last_or (λ j. class_of nodes j ≡ j → Found nodes count (set table stop (suc n)) j) n
          (λ _. record {
            at = stop;
            walk = stops_new n (omega arith) z (keys_of nodes _ _ _ n (same_self nodes n)) w;
            here = get_or-set_same table stop (suc n) 0 (omega arith);
          })
          (λ j h q.
          let f = i.whole j h q in
          record {
            at = f.at;
            walk = stops_kept stop (suc n) j z f.walk f.here;
            here = get_or-set_other table stop f.at (suc n) 0
                (λ r. let x : get_or table f.at 0 ≡ 0 = ap (λ m. get_or table m 0) r ∙ z in let y = f.here in omega arith)
                ∙ f.here;
          });
    })
  where
    kept : Place count n stop → (q : ℕ) → q < count → Keyed nodes count table q → Keyed nodes count (set table stop (suc n)) q
    kept o q h y = let (f, g) = place_key i.upto o q h in keyed_kept stop (suc n) (λ r. f (sym r)) (λ r. g (sym r)) y

    at_cell : class_of nodes n ≡ n → (m : ℕ) → Spot nodes count n i.depth (code nodes n) (own_first nodes n) (own_second nodes n) m stop
        → (k q : ℕ) → Place count count k → ((k ≡ stop) × (suc n ≡ suc q)) ⊎ ((k ≡ stop → ⊥) × (get_or table k 0 ≡ suc q))
        → Cell nodes count (n + 1) (deepen i.depth n m) k q
    at_cell c m s k q g (inl (r, e)) =
        let x : q ≡ n = omega arith in
        let moved = spot_more n (deepen i.depth n m) (omega arith) (deepen_old i.depth n m) s in
        rw x (record { below = omega arith; own = c; spot = rw (r, deepen_new i.depth n m) moved })
    at_cell c m s k q g (inr (r, e)) = cell_more (deepen i.depth n m) (deepen_old i.depth n m) (i.cell k q g e)

-- ---- stores that the index does not see

-- word k is no class, no cell and no key of the first n nodes
pub record Aside (count n k : ℕ) : Type 0 where
  pub classes : count ≤ k
  pub cells : (at : ℕ) → Place count count at → at ≡ k → ⊥
  pub firsts : (q : ℕ) → q < n → key_at count q ≡ k → ⊥
  pub seconds : (q : ℕ) → q < n → key_at count q + 1 ≡ k → ⊥

-- the words behind the index
pub aside_above : {count n k : ℕ} → n ≤ count → index_length count ≤ k → Aside count n k
aside_above {count} u h =
    record {
      classes = omega arith;
      cells = λ at p e. let l = place_high (let q : count ≤ count = omega arith in q) p in omega arith;
      firsts = λ q l e. let b = key_high count q (omega arith) in omega arith;
      seconds = λ q l e. let b = key_high count q (omega arith) in omega arith;
    }

-- the words for the next node's keys
aside_first : {count n : ℕ} → n < count → Aside count n (key_at count n)
aside_first {count} {n} h =
    record {
      classes = key_low count n;
      cells = λ at p e. (place_key (let q : count ≤ count = omega arith in q) p n h).0 e;
      firsts = λ q l e. (key_apart count q n (λ r. omega arith)).0 e;
      seconds = λ q l e. (key_apart count q n (λ r. omega arith)).1.1 e;
    }

aside_second : {count n : ℕ} → n < count → Aside count n (key_at count n + 1)
aside_second {count} {n} h =
    record {
      classes = let l = key_low count n in omega arith;
      cells = λ at p e. (place_key (let q : count ≤ count = omega arith in q) p n h).1 e;
      firsts = λ q l e. (key_apart count q n (λ r. omega arith)).1.0 e;
      seconds = λ q l e. (key_apart count q n (λ r. omega arith)).0 (omega arith);
    }

module _ (nodes : List ℕ) (count : ℕ) (ok : Good nodes count) (n : ℕ) (table : List ℕ) (i : Index nodes count n table) (k v : ℕ) (a : Aside count n k) where
  off : {at : ℕ} → Place count n at → at ≡ k → ⊥
  off p = a.cells _ (place_more i.upto p)

  pub walk_aside : {hit : ℕ → Bool} {at x y stop : ℕ} → Place count n at → Stops hit count table at x y stop → Stops hit count (set table k v) at x y stop
  walk_aside {at = at} p (empty q z) = empty q (get_or-set_other table k at v 0 (off p) ∙ z)
  walk_aside {at = at} p (found q z y) = found q (get_or-set_other table k at v 0 (off p) ∙ z) y
  walk_aside {at = at} {x = x} p (pass {p = m} z y s) =
      pass (get_or-set_other table k at v 0 (off p) ∙ z) y (walk_aside (at_child m x (cell_at nodes count ok n table i at m p z).below refl) s)

  -- where a walk stops there is still what was there
  pub stop_aside : {hit : ℕ → Bool} {at x y stop : ℕ} → Place count n at → Stops hit count table at x y stop → get_or (set table k v) stop 0 ≡ get_or table stop 0
  stop_aside {stop = stop} p s = get_or-set_other table k stop v 0 (off (walk_place nodes count ok n table i p s))

  pub index_aside : Index nodes count n (set table k v)
  index_aside =
      record {
        upto = i.upto;
        known = λ j l. let u = i.upto in let h = a.classes in get_or-set_other table k j v 0 (λ r. omega arith) ∙ i.known j l;
        depth = i.depth;
        keyed = λ q l o. keyed_kept k v (a.firsts q l) (a.seconds q l) (i.keyed q l o);
        cell = λ m q o z. i.cell m q o (sym (get_or-set_other table k m v 0 (a.cells m o)) ∙ z);
        whole = λ j l o.
            let f = i.whole j l o in
            let p = at_root (code nodes j) (own_first nodes j) (own_second nodes j) (ok.codes j (let u = i.upto in omega arith)) refl in
            record { at = f.at; walk = walk_aside p f.walk; here = stop_aside p f.walk ∙ f.here };
      }

-- the next node's keys are stored, and where its walk stops nothing changes
pub record Noted (nodes : List ℕ) (count n : ℕ) (table noted : List ℕ) (stop : ℕ) : Type 0 where
  pub index : Index nodes count n noted
  pub keyed : Keyed nodes count noted n
  pub walk : NodeWalk nodes count noted n stop
  pub word : get_or noted stop 0 ≡ get_or table stop 0

pub keys_stored : (nodes : List ℕ) (count : ℕ) → Good nodes count → (n : ℕ) (table : List ℕ) → index_length count ≤ length table
    → Index nodes count n table → (stop : ℕ) → n < count → NodeWalk nodes count table n stop
    → Noted nodes count n table (set (set table (key_at count n) (own_first nodes n)) (key_at count n + 1) (own_second nodes n)) stop
keys_stored nodes count ok n table wide i stop l w =
    let p = at_root (code nodes n) (own_first nodes n) (own_second nodes n) (ok.codes n l) refl in
    let a = aside_first l in
    let b = aside_second l in
    let h = key_high count n l in
    let once = set table (key_at count n) (own_first nodes n) in
    let j = index_aside nodes count ok n table i (key_at count n) (own_first nodes n) a in
    let v = walk_aside nodes count ok n table i (key_at count n) (own_first nodes n) a p w in
    record {
      index = index_aside nodes count ok n once j (key_at count n + 1) (own_second nodes n) b;
      keyed = record {
        first = get_or-set_other once (key_at count n + 1) (key_at count n) (own_second nodes n) 0 (λ r. omega arith)
            ∙ get_or-set_same table (key_at count n) (own_first nodes n) 0 (omega arith);
        second = get_or-set_same once (key_at count n + 1) (own_second nodes n) 0 (simp length-set (omega arith));
      };
      walk = walk_aside nodes count ok n once j (key_at count n + 1) (own_second nodes n) b p v;
      word = stop_aside nodes count ok n once j (key_at count n + 1) (own_second nodes n) b p v
          ∙ stop_aside nodes count ok n table i (key_at count n) (own_first nodes n) a p w;
    }

-- ---- the table at its start

-- an empty table is the index of no node
pub index_start : (nodes : List ℕ) (count : ℕ) (table : List ℕ) → ((k : ℕ) → get_or table k 0 ≡ 0) → Index nodes count 0 table
index_start nodes count table h =
    record {
      upto = omega arith;
      known = λ j l. absurd (not-suc-le-zero l);
      depth = λ j. 0;
      keyed = λ j l _. absurd (not-suc-le-zero l);
      cell = λ k q o z. let y = h k in absurd (omega arith);
      whole = λ j l _. absurd (not-suc-le-zero l);
    }
