-- Laws that the functions of src/control cite: the slots and the control tasks, turn by turn. Assumes nothing.
use Rattle.std.specs.Prelude.{◌≡◌, Bool, cond, ◌&&◌, List, [], ◌∷◌, ◌++◌, map, length, get_or, set, eqb, ltb}
use Rattle.std.proofs.Math.Path.{refl, sym}
use Rattle.std.proofs.Common.{ap, ◌∙◌, inl, append_assoc, length-append}
use Rattle.std.proofs.Math.Bool.{true, false, not}
use Prim.Native.Nat.{ℕ, zero, suc, ◌+◌, ◌*◌, ◌≤◌, ◌<◌}
use native.Mathlib.Omega.{arith}
use Rattle.std.proofs.lemmas.List.{length-map}
use borrow.Author.Tests.{ne_eqb}
use Rattle.plan.specs.declared.Sizes.{Sizes}
use Rattle.plan.specs.Lists.{count_up, count, filter}
use Rattle.plan.specs.ListLaws.{count_up_length}
use Rattle.plan.specs.Nodes.{Node, is_computed, node_at}
use Rattle.plan.specs.Hoist.{hoistable, homes_of, number, control_computations}
use Rattle.plan.specs.Schedule.{Task, control_task, control_tasks}
use Rattle.plan.specs.OriginLaws.{number_length}
use Rattle.plan.specs.Layout.{Lent, task_word}
use Rattle.plan.specs.Regions.{written, written_none, written_out, written_push, written_join, set_beside, Region, region_at, flag, flags, flags_length, flags_at, flags_append}
use Rattle.plan.specs.Words.{nodes_to, nodes_length, node_at_lem, operand_count, computed_in, hoistable_in, computed_in_lem, count_up_snoc, map_snoc}
use Rattle.plan.specs.HoistLaws.{hoistable_in_lem, flag_test}

-- ---- by words

-- does node i get a control slot
unfoldable pub home_in : ℕ → List ℕ → List ℕ → ℕ → Bool
home_in n nodes work i = cond (eqb (get_or work (n + i) 0) 1) (hoistable_in nodes work i) false

-- does the control phase compute it
unfoldable pub controls_in : ℕ → List ℕ → List ℕ → ℕ → Bool
controls_in n nodes work i = cond (eqb (get_or work (3 * n + i) 0) 1) (computed_in nodes i) false

-- its tasks
unfoldable pub control_in : ℕ → List ℕ → List ℕ → ℕ → List ℕ
control_in n nodes work i = cond (controls_in n nodes work i) (cond (eqb (get_or work (2 * n + i) 0) 0) (i ∷ []) (i ∷ (n + i) ∷ [])) []

-- ---- the ways out

pub home_no : (n : ℕ) (nodes work : List ℕ) (i : ℕ) → (get_or work (n + i) 0 ≡ 1 → ⊥) → false ≡ home_in n nodes work i
unfolding home_in
home_no n nodes work i h = rw (ne_eqb (get_or work (n + i) 0) 1 h)

pub home_yes : (n : ℕ) (nodes work : List ℕ) (i : ℕ) (r : Bool) → get_or work (n + i) 0 ≡ 1 → r ≡ hoistable_in nodes work i → r ≡ home_in n nodes work i
unfolding home_in
home_yes n nodes work i r h e = rw h e

pub controls_no : (n : ℕ) (nodes work : List ℕ) (i : ℕ) → (get_or work (3 * n + i) 0 ≡ 1 → ⊥) → false ≡ controls_in n nodes work i
unfolding controls_in
controls_no n nodes work i h = rw (ne_eqb (get_or work (3 * n + i) 0) 1 h)

pub controls_yes : (n : ℕ) (nodes work : List ℕ) (i c : ℕ) → get_or work (3 * n + i) 0 ≡ 1 → c ≡ operand_count nodes i → ltb 0 c ≡ controls_in n nodes work i
unfolding controls_in computed_in
controls_yes n nodes work i c h e = rw (h, e)

module _ (n : ℕ) (nodes work : List ℕ) (i tasks : ℕ) (r : Bool) (e : r ≡ controls_in n nodes work i) where
  pub push_none : not r ≡ true → (tasks ≡ tasks + length (control_in n nodes work i)) × (work ≡ written (11 * n + tasks) (control_in n nodes work i) work)
  unfolding control_in
  push_none h = let q : r ≡ false = go r h in rw (← e, q) (omega arith, sym (written_none (11 * n + tasks) work))
    where
      go : (b : Bool) → not b ≡ true → b ≡ false
      go true h = sym h
      go false h = refl

  pub push_one : not r ≡ false → get_or work (2 * n + i) 0 ≡ 0
      → (tasks + 1 ≡ tasks + length (control_in n nodes work i)) × (set work (11 * n + tasks) i ≡ written (11 * n + tasks) (control_in n nodes work i) work)
  unfolding control_in written
  push_one h z = let q : r ≡ true = go r h in rw (← e, q, z) (refl, refl)
    where
      go : (b : Bool) → not b ≡ false → b ≡ true
      go true h = refl
      go false h = sym h

  pub push_two : not r ≡ false → (get_or work (2 * n + i) 0 ≡ 0 → ⊥)
      → (tasks + 2 ≡ tasks + length (control_in n nodes work i))
      × (set (set work (11 * n + tasks) i) (11 * n + tasks + 1) (n + i) ≡ written (11 * n + tasks) (control_in n nodes work i) work)
  unfolding control_in written
  push_two h z =
      let q : r ≡ true = go r h in
      let s : 11 * n + tasks + 1 ≡ suc (11 * n + tasks) = omega arith in
      rw (← e, q, ne_eqb (get_or work (2 * n + i) 0) 0 z, s) (refl, refl)
    where
      go : (b : Bool) → not b ≡ false → b ≡ true
      go true h = refl
      go false h = sym h

-- ---- `number_slots`

-- the slot of one node more
number_snoc : (k : ℕ) (marks : List Bool) (b : Bool) → number k (marks ++ (b ∷ [])) ≡ number k marks ++ (cond b (k + count (number k marks) + 1) 0 ∷ [])
number_snoc k [] true = let z : k + 0 + 1 ≡ suc k = omega arith in rw z
number_snoc k [] false = refl
number_snoc k (true ∷ marks) b =
    let z : suc k + count (number (suc k) marks) ≡ k + suc (count (number (suc k) marks)) = omega arith in
    ap (λ (l : List ℕ). suc k ∷ l) (rw z at (number_snoc (suc k) marks b))
number_snoc k (false ∷ marks) b = ap (λ (l : List ℕ). 0 ∷ l) (number_snoc k marks b)

count_append : (xs ys : List ℕ) → count (xs ++ ys) ≡ count xs + count ys
count_append [] ys = omega arith
count_append (zero ∷ xs) ys = count_append xs ys
count_append (suc x ∷ xs) ys = omega (arith, count_append xs ys)

count_most : (xs : List ℕ) → count xs ≤ length xs
count_most [] = omega arith
count_most (zero ∷ xs) = omega (arith, count_most xs)
count_most (suc x ∷ xs) = omega (arith, count_most xs)

-- the homes among the first i nodes
abbrev pub homes_to : List Node → List Bool → List Bool → ℕ → List Bool
homes_to ns invariant needed i = map (λ n. get_or needed n false && hoistable ns invariant n) (count_up 0 i)

homes_next : (ns : List Node) (invariant needed : List Bool) (i : ℕ)
    → homes_to ns invariant needed (i + 1) ≡ homes_to ns invariant needed i ++ ((get_or needed i false && hoistable ns invariant i) ∷ [])
homes_next ns invariant needed i =
    let z : i + 1 ≡ suc i = omega arith in
    let y : 0 + i ≡ i = omega arith in
    let p : ℕ → Bool = λ n. get_or needed n false && hoistable ns invariant n in
    rw z (ap (map p) (rw y at (count_up_snoc 0 i)) ∙ map_snoc p (count_up 0 i) i)

pub homes_to_length : (ns : List Node) (invariant needed : List Bool) (i : ℕ) → length (homes_to ns invariant needed i) ≡ i
homes_to_length ns invariant needed i = length-map (count_up 0 i) (λ n. get_or needed n false && hoistable ns invariant n) ∙ count_up_length 0 i

-- the table with these flags and their slots
abbrev pub numbered : ℕ → List Bool → List ℕ → List ℕ
numbered n homes table = written (3 * n) (flags homes) (written (2 * n) (number 0 homes) table)

-- one more
numbered_push : (n i : ℕ) (homes : List Bool) (b : Bool) (table : List ℕ) → length homes ≡ i → i < n
    → set (set (numbered n homes table) (2 * n + i) (cond b (count (number 0 homes) + 1) 0)) (3 * n + i) (flag b) ≡ numbered n (homes ++ (b ∷ [])) table
numbered_push n i homes b table long below =
    let l : length (number 0 homes) ≡ i = number_length 0 homes ∙ long in
    let f : length (flags homes) ≡ i = flags_length homes ∙ long in
    let s : number 0 (homes ++ (b ∷ [])) ≡ number 0 homes ++ (cond b (count (number 0 homes) + 1) 0 ∷ []) =
    let z : 0 + count (number 0 homes) ≡ count (number 0 homes) = omega arith in rw z at (number_snoc 0 homes b) in
    rw (
      set_beside (3 * n) (flags homes) (written (2 * n) (number 0 homes) table) (2 * n + i) (cond b (count (number 0 homes) + 1) 0) (inl (omega arith)),
      written_push (2 * n) (number 0 homes) table (2 * n + i) (cond b (count (number 0 homes) + 1) 0) (omega arith),
      ← s,
      flags_append homes (b ∷ []),
    )
    (written_push (3 * n) (flags homes) (written (2 * n) (number 0 (homes ++ (b ∷ []))) table) (3 * n + i) (flag b) (omega arith))

-- the loop's invariant: for any flags that the regions hold
unfoldable pub Numbers : Sizes → List ℕ → List ℕ → List ℕ → ℕ → ℕ → Type 0
Numbers sizes nodes table now slots i =
    (invariant needed : List Bool) → length invariant ≡ sizes.nodes → length needed ≡ sizes.nodes → Region 0 (flags invariant) table
    → Region sizes.nodes (flags needed) table
    → (slots ≡ count (number 0 (homes_to (nodes_to nodes sizes.nodes) invariant needed i)))
    × (now ≡ numbered sizes.nodes (homes_to (nodes_to nodes sizes.nodes) invariant needed i) table)

pub numbers_start : (sizes : Sizes) (nodes table : List ℕ) → Numbers sizes nodes table table 0 0
unfolding Numbers
numbers_start sizes nodes table invariant needed long same region other =
    (refl, sym (ap (written (3 * sizes.nodes) []) (written_none (2 * sizes.nodes) table) ∙ written_none (3 * sizes.nodes) table))

-- its turn
pub numbers_next : (sizes : Sizes) (nodes table now next : List ℕ) (slots more i : ℕ) → Lent sizes nodes (length table) → i < sizes.nodes
    → Numbers sizes nodes table now slots i
    → (more ≡ cond (home_in sizes.nodes nodes now i) (slots + 1) slots)
    × (next ≡ set (set now (2 * sizes.nodes + i) (cond (home_in sizes.nodes nodes now i) (slots + 1) 0)) (3 * sizes.nodes + i) (flag (home_in sizes.nodes nodes now i)))
    → Numbers sizes nodes table next more (i + 1)
unfolding Numbers home_in
numbers_next sizes nodes table now next slots more i lent below inv q invariant needed long same region other =
    let n : ℕ = sizes.nodes in
    let ns : List Node = nodes_to nodes n in
    let homes : List Bool = homes_to ns invariant needed i in
    let s = inv invariant needed long same region other in
    let hl : length homes ≡ i = homes_to_length ns invariant needed i in
    let l : length (number 0 homes) ≡ i = number_length 0 homes ∙ hl in
    let f : length (flags homes) ≡ i = flags_length homes ∙ hl in
    let a : length (flags invariant) ≡ n = flags_length invariant ∙ long in
    let d : length (flags needed) ≡ n = flags_length needed ∙ same in
    let out : (j : ℕ) → j < 2 * n → get_or now j 0 ≡ get_or table j 0 =
    λ j h. ap (λ (t : List ℕ). get_or t j 0) s.1
    ∙ (written_out (3 * n) (flags homes) (written (2 * n) (number 0 homes) table) j (inl (omega arith)) ∙ written_out (2 * n) (number 0 homes) table j (inl (omega arith))) in
    let v : get_or now i 0 ≡ flag (get_or invariant i false) =
    out i (omega arith) ∙ (region_at 0 (flags invariant) table i i region (omega arith) (omega arith) ∙ flags_at invariant i) in
    let m : get_or now (n + i) 0 ≡ flag (get_or needed i false) =
    out (n + i) (omega arith) ∙ (region_at n (flags needed) table (n + i) i other refl (omega arith) ∙ flags_at needed i) in
    let h : cond (eqb (get_or now (n + i) 0) 1) (hoistable_in nodes now i) false ≡ (get_or needed i false && hoistable ns invariant i) =
    rw (m, flag_test (get_or needed i false), hoistable_in_lem sizes nodes (length table) lent invariant now i below v) (arms (get_or needed i false) (hoistable ns invariant i)) in
    let b : Bool = get_or needed i false && hoistable ns invariant i in
    let e : homes_to ns invariant needed (i + 1) ≡ homes ++ (b ∷ []) = homes_next ns invariant needed i in
    rw e (
      (rw (h, s.0) at q.0) ∙ totals homes b,
      (rw (h, s.0, s.1) at q.1) ∙ numbered_push n i homes b table hl below,
    )
  where
    arms : (x y : Bool) → cond x y false ≡ (x && y)
    arms true y = refl
    arms false y = refl

    totals : (homes : List Bool) (b : Bool) → cond b (count (number 0 homes) + 1) (count (number 0 homes)) ≡ count (number 0 (homes ++ (b ∷ [])))
    totals homes b = rw (number_snoc 0 homes b, count_append (number 0 homes) (cond b (0 + count (number 0 homes) + 1) 0 ∷ [])) (go b)
      where
        go : (b : Bool)
            → cond b (count (number 0 homes) + 1) (count (number 0 homes)) ≡ count (number 0 homes) + count (cond b (0 + count (number 0 homes) + 1) 0 ∷ [])
        go true = let z : 0 + count (number 0 homes) + 1 ≡ suc (count (number 0 homes)) = omega arith in rw z (omega arith)
        go false = omega arith

-- its end
pub numbers_end : (sizes : Sizes) (nodes table now : List ℕ) (slots i : ℕ) → i ≡ sizes.nodes → Numbers sizes nodes table now slots i
    → (invariant needed : List Bool) → length invariant ≡ sizes.nodes → length needed ≡ sizes.nodes → Region 0 (flags invariant) table
    → Region sizes.nodes (flags needed) table
    → (slots ≡ count (number 0 (homes_of (nodes_to nodes sizes.nodes) invariant needed)))
    × (now ≡ written (3 * sizes.nodes) (flags (homes_of (nodes_to nodes sizes.nodes) invariant needed))
    (written (2 * sizes.nodes) (number 0 (homes_of (nodes_to nodes sizes.nodes) invariant needed)) table))
unfolding Numbers homes_of
numbers_end sizes nodes table now slots i e inv invariant needed long same region other =
    rw (nodes_length nodes sizes.nodes) (rw e at (inv invariant needed long same region other))

-- slots are no more than nodes
pub numbers_few : (b : Bool) (slots more i : ℕ) → slots ≤ i → more ≡ cond b (slots + 1) slots → more ≤ i + 1
numbers_few true slots more i h e = omega arith
numbers_few false slots more i h e = omega arith

-- the ways out of `number_slot`
module _ (n : ℕ) (nodes work : List ℕ) (i slots : ℕ) (r : Bool) (e : r ≡ home_in n nodes work i) where
  pub slot_given : r ≡ true
      → (slots + 1 ≡ cond (home_in n nodes work i) (slots + 1) slots)
      × (set (set work (2 * n + i) (slots + 1)) (3 * n + i) 1
      ≡ set (set work (2 * n + i) (cond (home_in n nodes work i) (slots + 1) 0)) (3 * n + i) (flag (home_in n nodes work i)))
  slot_given h = rw (← e, h) (refl, refl)

  pub slot_none : r ≡ false
      → (slots ≡ cond (home_in n nodes work i) (slots + 1) slots)
      × (set (set work (2 * n + i) 0) (3 * n + i) 0
      ≡ set (set work (2 * n + i) (cond (home_in n nodes work i) (slots + 1) 0)) (3 * n + i) (flag (home_in n nodes work i)))
  slot_none h = rw (← e, h) (refl, refl)

-- ---- `control_tasks`

-- Generic: those that pass of a list with one more
pub filter_snoc : {A : Type 0} (p : A → Bool) (xs : List A) (x : A) → filter p (xs ++ (x ∷ [])) ≡ filter p xs ++ cond (p x) (x ∷ []) []
filter_snoc p [] x = refl
filter_snoc p (y ∷ xs) x = go (p y) (filter_snoc p xs x)
  where
    go : (b : Bool) → filter p (xs ++ (x ∷ [])) ≡ filter p xs ++ cond (p x) (x ∷ []) []
        → cond b (y ∷ filter p (xs ++ (x ∷ []))) (filter p (xs ++ (x ∷ []))) ≡ cond b (y ∷ filter p xs) (filter p xs) ++ cond (p x) (x ∷ []) []
    go true ih = ap (λ l. y ∷ l) ih
    go false ih = ih

-- Generic: f of two lists, one behind the other
pub map_append : {A B : Type 0} (f : A → B) (xs ys : List A) → map f (xs ++ ys) ≡ map f xs ++ map f ys
map_append f [] ys = refl
map_append f (x ∷ xs) ys = ap (λ l. f x ∷ l) (map_append f xs ys)

tasks_append : (slots xs ys : List ℕ) → control_tasks slots (xs ++ ys) ≡ control_tasks slots xs ++ control_tasks slots ys
tasks_append slots [] ys = refl
tasks_append slots (x ∷ xs) ys =
    ap (λ (l : List Task). control_task x (get_or slots x 0) ++ l) (tasks_append slots xs ys) ∙ sym (append_assoc (control_task x (get_or slots x 0)) (control_tasks slots xs) (control_tasks slots ys))

-- what the control phase computes of the first i nodes
abbrev pub computes_to : List Node → List Bool → ℕ → List ℕ
computes_to ns reached i = filter (λ n. get_or reached n false && is_computed (node_at ns n)) (count_up 0 i)

computes_next : (ns : List Node) (reached : List Bool) (i : ℕ)
    → computes_to ns reached (i + 1) ≡ computes_to ns reached i ++ cond (get_or reached i false && is_computed (node_at ns i)) (i ∷ []) []
computes_next ns reached i =
    let z : i + 1 ≡ suc i = omega arith in
    let y : 0 + i ≡ i = omega arith in
    let p : ℕ → Bool = λ n. get_or reached n false && is_computed (node_at ns n) in
    rw z (ap (filter p) (rw y at (count_up_snoc 0 i)) ∙ filter_snoc p (count_up 0 i) i)

-- a node's words are its tasks'
control_words : (sizes : Sizes) (nodes work slots : List ℕ) (reached : List Bool) (i : ℕ) (c : Bool) → computed_in nodes i ≡ c
    → get_or work (3 * sizes.nodes + i) 0 ≡ flag (get_or reached i false) → get_or work (2 * sizes.nodes + i) 0 ≡ get_or slots i 0
    → control_in sizes.nodes nodes work i ≡ map (task_word sizes) (control_tasks slots (cond (get_or reached i false && c) (i ∷ []) []))
unfolding control_in controls_in task_word
control_words sizes nodes work slots reached i c q m s =
    rw (m, flag_test (get_or reached i false), q, s) (go (get_or reached i false) c (get_or slots i 0) refl)
  where
    go : (a b : Bool) (slot : ℕ) → get_or slots i 0 ≡ slot
        → cond (cond a b false) (cond (eqb slot 0) (i ∷ []) (i ∷ (sizes.nodes + i) ∷ [])) []
        ≡ map (task_word sizes) (control_tasks slots (cond (a && b) (i ∷ []) []))
    go false b slot e = refl
    go true false slot e = refl
    go true true zero e = rw e
    go true true (suc slot) e = rw (e, ne_eqb (suc slot) 0 (λ (q : suc slot ≡ 0). omega arith))

-- a node has two tasks at most
pub control_most : (n : ℕ) (nodes work : List ℕ) (i : ℕ) → length (control_in n nodes work i) ≤ 2
unfolding control_in
control_most n nodes work i = go (controls_in n nodes work i) (eqb (get_or work (2 * n + i) 0) 0)
  where
    go : (a b : Bool) → length (cond a (cond b (i ∷ []) (i ∷ (n + i) ∷ [])) []) ≤ 2
    go false b = omega arith
    go true true = omega arith
    go true false = omega arith

-- the loop's invariant: for any slots and flags that the regions hold
unfoldable pub Controls : Sizes → List ℕ → List ℕ → List ℕ → ℕ → ℕ → Type 0
Controls sizes nodes table now tasks i =
    (slots : List ℕ) (reached : List Bool) → length slots ≡ sizes.nodes → length reached ≡ sizes.nodes → Region (2 * sizes.nodes) slots table
    → Region (3 * sizes.nodes) (flags reached) table
    → (tasks ≡ length (control_tasks slots (computes_to (nodes_to nodes sizes.nodes) reached i)))
    × (now ≡ written (11 * sizes.nodes) (map (task_word sizes) (control_tasks slots (computes_to (nodes_to nodes sizes.nodes) reached i))) table)

pub controls_start : (sizes : Sizes) (nodes table : List ℕ) → Controls sizes nodes table table 0 0
unfolding Controls
controls_start sizes nodes table slots reached long same region other = (refl, sym (written_none (11 * sizes.nodes) table))

-- its turn
pub controls_next : (sizes : Sizes) (nodes table now next : List ℕ) (tasks more i : ℕ) → Lent sizes nodes (length table) → i < sizes.nodes
    → Controls sizes nodes table now tasks i
    → (more ≡ tasks + length (control_in sizes.nodes nodes now i)) × (next ≡ written (11 * sizes.nodes + tasks) (control_in sizes.nodes nodes now i) now)
    → Controls sizes nodes table next more (i + 1)
unfolding Controls
controls_next sizes nodes table now next tasks more i lent below inv q slots reached long same region other =
    let n : ℕ = sizes.nodes in
    let ns : List Node = nodes_to nodes n in
    let s = inv slots reached long same region other in
    let done : List Task = control_tasks slots (computes_to ns reached i) in
    let words : List ℕ = map (task_word sizes) done in
    let d : length (flags reached) ≡ n = flags_length reached ∙ same in
    let wl : length words ≡ tasks = length-map done (task_word sizes) ∙ sym s.0 in
    let out : (j : ℕ) → j < 11 * n → get_or now j 0 ≡ get_or table j 0 =
    λ j h. ap (λ (t : List ℕ). get_or t j 0) s.1 ∙ written_out (11 * n) words table j (inl (omega arith)) in
    let m : get_or now (3 * n + i) 0 ≡ flag (get_or reached i false) =
    out (3 * n + i) (omega arith) ∙ (region_at (3 * n) (flags reached) table (3 * n + i) i other refl (omega arith) ∙ flags_at reached i) in
    let k : get_or now (2 * n + i) 0 ≡ get_or slots i 0 = out (2 * n + i) (omega arith) ∙ region_at (2 * n) slots table (2 * n + i) i region refl (omega arith) in
    let added : List ℕ = cond (get_or reached i false && computed_in nodes i) (i ∷ []) [] in
    let w : control_in n nodes now i ≡ map (task_word sizes) (control_tasks slots added) = control_words sizes nodes now slots reached i (computed_in nodes i) refl m k in
    let e : computes_to ns reached (i + 1) ≡ computes_to ns reached i ++ added =
    rw (node_at_lem nodes n i below, computed_in_lem sizes nodes (length table) lent i below) at (computes_next ns reached i) in
    let t : control_tasks slots (computes_to ns reached (i + 1)) ≡ done ++ control_tasks slots added =
    ap (control_tasks slots) e ∙ tasks_append slots (computes_to ns reached i) added in
    rw t (
      q.0 ∙ (ap (λ (x : ℕ). tasks + x) (ap length w ∙ length-map (control_tasks slots added) (task_word sizes))
          ∙ (ap (λ (x : ℕ). x + length (control_tasks slots added)) s.0 ∙ sym (length-append done (control_tasks slots added)))),
      q.1 ∙ (ap (λ (x : List ℕ). written (11 * n + tasks) x now) w
          ∙ (ap (written (11 * n + tasks) (map (task_word sizes) (control_tasks slots added))) s.1
          ∙ (written_join (11 * n) words (map (task_word sizes) (control_tasks slots added)) table (11 * n + tasks) (omega arith)
          ∙ ap (λ (x : List ℕ). written (11 * n) x table) (sym (map_append (task_word sizes) done (control_tasks slots added)))))),
    )

-- its end
pub controls_end : (sizes : Sizes) (nodes table now : List ℕ) (tasks i : ℕ) → i ≡ sizes.nodes → Controls sizes nodes table now tasks i
    → (slots : List ℕ) (reached : List Bool) → length slots ≡ sizes.nodes → length reached ≡ sizes.nodes → Region (2 * sizes.nodes) slots table
    → Region (3 * sizes.nodes) (flags reached) table
    → (tasks ≡ length (control_tasks slots (control_computations (nodes_to nodes sizes.nodes) reached)))
    × (now ≡ written (11 * sizes.nodes) (map (task_word sizes) (control_tasks slots (control_computations (nodes_to nodes sizes.nodes) reached))) table)
unfolding Controls control_computations
controls_end sizes nodes table now tasks i e inv slots reached long same region other =
    rw (nodes_length nodes sizes.nodes) (rw e at (inv slots reached long same region other))
