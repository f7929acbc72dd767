-- Laws that the functions of src/hoist cite: `invariance` by its turns. Assumes nothing.
use Rattle.std.specs.Prelude.{◌≡◌, ◌⊎◌, Bool, ◌&&◌, ℕ, zero, suc, ◌+◌, ◌*◌, ◌≤◌, ◌<◌, set, eqb, ltb}
use Rattle.std.proofs.Math.Path.{refl, ap}
use Rattle.std.proofs.Common.{sym, ◌∙◌, inl, inr, arith, length-set, length-append, ne_eqb}
use Rattle.std.proofs.Math.Bool.{true, false, cond, not}
use mathlib.Core.List.{List, [], ◌∷◌, ◌++◌}
use Rattle.std.proofs.Math.ListN.{length, get_or}
use Rattle.std.proofs.Math.Dec.{T, eqb_refl, eqb→eq}
use Rattle.tables.specs.Tests.{or_pass}
use Rattle.block.specs.Block.{code, first, second}
use Rattle.plan.specs.declared.Sizes.{Sizes}
use Rattle.plan.specs.Lists.{member}
use Rattle.plan.specs.Nodes.{Node, operands, node_at}
use Rattle.plan.specs.Flow.{node_in}
use Rattle.plan.specs.Hoist.{invariant_node, invariants, hoistable, mark_all, sweep}
use Rattle.plan.specs.TestLaws.{or_first, or_second}
use Rattle.plan.specs.Reached.{length_mark_all}
use Rattle.plan.specs.Layout.{Lent}
use Rattle.plan.specs.Regions.{written, written_none, written_in, written_out, written_push, written_set, Region, region_at, region_own, flag, flags, flags_length, flags_at, flags_set, flags_append}
use Rattle.plan.specs.Words.{nodes_to, nodes_length, nodes_next, node_at_lem, operand_count, operand_list, operands_in, computed_in, invariant_word, hoistable_in, marked, descends_in, goes_down, swept_node, operands_in_lem, computed_in_lem, operands_before, invariant_in}

-- ---- `invariance`

-- one node more
invariants_snoc : (ns : List Node) (x : Node) (marks : List Bool) → invariants (ns ++ (x ∷ [])) marks ≡ invariants ns marks ++ (invariant_node x (invariants ns marks) ∷ [])
unfolding invariants
invariants_snoc [] x marks = refl
invariants_snoc (n ∷ ns) x marks = invariants_snoc ns x (marks ++ (invariant_node n marks ∷ []))

invariants_more : (ns : List Node) (marks : List Bool) → length (invariants ns marks) ≡ length marks + length ns
unfolding invariants
invariants_more [] marks = omega arith
invariants_more (n ∷ ns) marks = invariants_more ns (marks ++ (invariant_node n marks ∷ [])) ∙ simp length-append (omega arith)

-- the flags of the first n nodes
abbrev pub invariant_to : List ℕ → ℕ → List Bool
invariant_to nodes n = invariants (nodes_to nodes n) []

-- a flag for each
pub invariant_length : (nodes : List ℕ) (n : ℕ) → length (invariant_to nodes n) ≡ n
invariant_length nodes n = invariants_more (nodes_to nodes n) [] ∙ omega (arith, nodes_length nodes n)

-- the loop's start
pub invariance_start : (nodes table : List ℕ) → table ≡ written 0 (flags (invariant_to nodes 0)) table
unfolding invariants
invariance_start nodes table = sym (written_none 0 table)

-- its turn
pub invariance_next : (sizes : Sizes) (nodes : List ℕ) (words : ℕ) → Lent sizes nodes words → (i : ℕ) → i < sizes.nodes → (table now : List ℕ) (v : ℕ)
    → length table ≡ words → now ≡ written 0 (flags (invariant_to nodes i)) table
    → v ≡ invariant_word (operand_count nodes i) (code nodes i) (get_or now (first nodes i) 0) (get_or now (second nodes i) 0)
    → set now i v ≡ written 0 (flags (invariant_to nodes (i + 1))) table
invariance_next sizes nodes words lent i below table now v long e q =
    let marks : List Bool = invariant_to nodes i in
    let l : length (flags marks) ≡ i = flags_length marks ∙ invariant_length nodes i in
    let before = operands_before sizes nodes words lent i below in
    let at : (a : ℕ) → a < i → get_or now a 0 ≡ flag (get_or marks a false) =
    λ a h. ap (λ (t : List ℕ). get_or t a 0) e ∙ (written_in 0 (flags marks) table a a (omega arith) (omega arith) (omega (arith, lent.room)) ∙ flags_at marks a) in
    let w : v ≡ flag (invariant_node (node_in nodes i) marks) =
    q ∙ invariant_in sizes nodes words lent i below (get_or now (first nodes i) 0) (get_or now (second nodes i) 0) marks
    (λ h. at (first nodes i) (before.0 h)) (λ h. at (second nodes i) (before.1 h)) in
    let s : flags (invariant_to nodes (i + 1)) ≡ flags marks ++ (flag (invariant_node (node_in nodes i) marks) ∷ []) =
    ap (λ (ns : List Node). flags (invariants ns [])) (nodes_next nodes i)
    ∙ (ap flags (invariants_snoc (nodes_to nodes i) (node_in nodes i) []) ∙ flags_append marks (invariant_node (node_in nodes i) marks ∷ [])) in
    rw (e, w, s) (written_push 0 (flags marks) table i (flag (invariant_node (node_in nodes i) marks)) (omega arith))

-- ---- marks

-- the table keeps its length
pub marked_length : (base : ℕ) (list work : List ℕ) → length (marked base list work) ≡ length work
marked_length base [] work = refl
marked_length base (n ∷ list) work = marked_length base list (set work (base + n) 1) ∙ length-set work (base + n) 1

-- marks in a region that holds flags
pub marked_flags : (base : ℕ) (list : List ℕ) (marks : List Bool) (table now : List ℕ) → ((n : ℕ) → T (member n list) → n < length marks)
    → now ≡ written base (flags marks) table → marked base list now ≡ written base (flags (mark_all list marks)) table
marked_flags base [] marks table now h e = e
marked_flags base (n ∷ list) marks table now h e =
    marked_flags base list (set marks n true) table (set now (base + n) 1)
    (λ m t. rw (length-set marks n true) (h m (or_second (eqb m n) (member m list) t)))
    (ap (λ (t : List ℕ). set t (base + n) 1) e
    ∙ (written_set base (flags marks) table (base + n) n 1 refl (rw (flags_length marks) (h n (or_first (eqb n n) (member n list) (eqb_refl n))))
    ∙ ap (λ (w : List ℕ). written base w table) (flags_set marks n true)))

-- ---- `sweep`

-- a node's flag by its word
pub flag_test : (b : Bool) → eqb (flag b) 1 ≡ b
flag_test true = refl
flag_test false = refl

-- .. and by its not being 0
pub flag_none : (b : Bool) → eqb (flag b) 0 ≡ not b
flag_none true = refl
flag_none false = refl

module _ (sizes : Sizes) (nodes : List ℕ) (words : ℕ) (lent : Lent sizes nodes words) where
  -- all nodes
  abbrev every : List Node
  every = nodes_to nodes sizes.nodes

  -- invariant, and computed
  pub hoistable_in_lem : (invariant : List Bool) (work : List ℕ) (i : ℕ) → i < sizes.nodes → get_or work i 0 ≡ flag (get_or invariant i false)
      → hoistable_in nodes work i ≡ hoistable every invariant i
  unfolding hoistable_in hoistable
  hoistable_in_lem invariant work i below e =
      rw (e, flag_test (get_or invariant i false), node_at_lem nodes sizes.nodes i below, computed_in_lem sizes nodes words lent i below) (go (get_or invariant i false))
    where
      go : (b : Bool) → cond b (computed_in nodes i) false ≡ (b && computed_in nodes i)
      go true = refl
      go false = refl

  descends_in_lem : (through : Bool) (invariant : List Bool) (work : List ℕ) (i : ℕ) → i < sizes.nodes → get_or work i 0 ≡ flag (get_or invariant i false)
      → descends_in through nodes work i ≡ goes_down through every invariant i
  unfolding descends_in
  descends_in_lem true invariant work i below e = refl
  descends_in_lem false invariant work i below e = ap not (hoistable_in_lem invariant work i below e)

  -- its operands are nodes
  pub operand_below : (i : ℕ) → i < sizes.nodes → (n : ℕ) → T (member n (operands_in nodes i)) → n < sizes.nodes
  unfolding operands_in
  operand_below i below n t =
      let before = operands_before sizes nodes words lent i below in
      go (operand_count nodes i) (λ h. omega (arith, before.0 h)) (λ h. omega (arith, before.1 h)) t
    where
      one : (a : ℕ) → T (member n (a ∷ [])) → n ≡ a
      one a u = pick (or_pass (eqb n a) false u)
        where
          pick : T (eqb n a) ⊎ ⊥ → n ≡ a
          pick (inl v) = eqb→eq n a v
          pick (inr v) = absurd v

      two : first nodes i < sizes.nodes → second nodes i < sizes.nodes → T (eqb n (first nodes i)) ⊎ T (member n (second nodes i ∷ [])) → n < sizes.nodes
      two p q (inl v) = rw (eqb→eq n (first nodes i) v) p
      two p q (inr v) = rw (one (second nodes i) v) q

      go : (count : ℕ) → (1 ≤ count → first nodes i < sizes.nodes) → (2 ≤ count → second nodes i < sizes.nodes)
          → T (member n (operand_list count (first nodes i) (second nodes i))) → n < sizes.nodes
      go zero p q u = absurd u
      go (suc zero) p q u = rw (one (first nodes i) u) (p (omega arith))
      go (suc (suc count)) p q u = two (p (omega arith)) (q (omega arith)) (or_pass (eqb n (first nodes i)) (member n (second nodes i ∷ [])) u)

  -- node i's turn
  swept_node_lem : (base : ℕ) (through : Bool) (marks invariant : List Bool) (table now : List ℕ) (i : ℕ) → i < sizes.nodes → sizes.nodes ≤ base
      → length marks ≡ sizes.nodes → length invariant ≡ sizes.nodes → base + sizes.nodes ≤ length table → Region 0 (flags invariant) table
      → now ≡ written base (flags marks) table
      → swept_node base through nodes i now
      ≡ written base (flags (mark_all (cond (get_or marks i false && goes_down through every invariant i) (operands (node_at every i)) []) marks)) table
  unfolding swept_node
  swept_node_lem base through marks invariant table now i below apart long same room region e =
      let f : length (flags marks) ≡ sizes.nodes = flags_length marks ∙ long in
      let l : length (flags invariant) ≡ sizes.nodes = flags_length invariant ∙ same in
      let m : get_or now (base + i) 0 ≡ flag (get_or marks i false) =
      ap (λ (t : List ℕ). get_or t (base + i) 0) e ∙ (written_in base (flags marks) table (base + i) i refl (omega arith) (omega arith) ∙ flags_at marks i) in
      let v : get_or now i 0 ≡ flag (get_or invariant i false) =
      ap (λ (t : List ℕ). get_or t i 0) e
      ∙ (written_out base (flags marks) table i (inl (omega arith)) ∙ (region_at 0 (flags invariant) table i i region (omega arith) (omega arith) ∙ flags_at invariant i)) in
      rw (m, flag_none (get_or marks i false), descends_in_lem through invariant now i below v, node_at_lem nodes sizes.nodes i below, operands_in_lem sizes nodes words lent i below)
      (go (get_or marks i false) (goes_down through every invariant i))
    where
      go : (a b : Bool)
          → cond (not a) now (cond b (marked base (operands_in nodes i) now) now) ≡ written base (flags (mark_all (cond (a && b) (operands_in nodes i) []) marks)) table
      go false b = e
      go true false = e
      go true true = marked_flags base (operands_in nodes i) marks table now (λ n t. rw long (operand_below i below n t)) e

-- what is left of the sweep is done from the marks made so far
pub record Sweeping (base : ℕ) (ns : List Node) (down : ℕ → Bool) (marks : List Bool) (table : List ℕ) (i : ℕ) (now : List ℕ) : Type 0 where
  pub seen : List Bool
  pub long : length seen ≡ length marks
  pub held : now ≡ written base (flags seen) table
  pub left : sweep ns down i seen ≡ sweep ns down (length marks) marks

-- the loop's invariant: for any flags that the regions hold
unfoldable pub Sweeps : Sizes → List ℕ → ℕ → Bool → List ℕ → ℕ → List ℕ → Type 0
Sweeps sizes nodes base through table i now =
    (marks invariant : List Bool) → length marks ≡ sizes.nodes → length invariant ≡ sizes.nodes → Region base (flags marks) table
    → Region 0 (flags invariant) table
    → Sweeping base (nodes_to nodes sizes.nodes) (goes_down through (nodes_to nodes sizes.nodes) invariant) marks table i now

-- its start
pub sweep_start : (sizes : Sizes) (nodes : List ℕ) (base : ℕ) (through : Bool) (table : List ℕ) → Sweeps sizes nodes base through table sizes.nodes table
unfolding Sweeps
sweep_start sizes nodes base through table marks invariant long same region other =
    record { seen = marks; long = refl; held = region_own base (flags marks) table region; left = rw long }

-- its turn
pub sweep_next : (sizes : Sizes) (nodes : List ℕ) (base : ℕ) (through : Bool) (table now next : List ℕ) (i j : ℕ) → Lent sizes nodes (length table) → j ≡ suc i → j ≤ sizes.nodes
    → sizes.nodes ≤ base → base ≤ 3 * sizes.nodes
    → Sweeps sizes nodes base through table j now → next ≡ swept_node base through nodes i now → Sweeps sizes nodes base through table i next
unfolding sweep Sweeps
sweep_next sizes nodes base through table now next i j lent e below apart near inv q marks invariant long same region other =
    let s = inv marks invariant long same region other in
    let down : ℕ → Bool = goes_down through (nodes_to nodes sizes.nodes) invariant in
    let list : List ℕ = cond (get_or s.seen i false && down i) (operands (node_at (nodes_to nodes sizes.nodes) i)) [] in
    record {
      seen = mark_all list s.seen;
      long = length_mark_all list s.seen ∙ s.long;
      held =
          q ∙ swept_node_lem sizes nodes (length table) lent base through s.seen invariant table now i (omega arith) apart (s.long ∙ long) same (omega (arith, lent.room)) other s.held;
      left = rw e at s.left;
    }

-- its end
pub sweep_end : (sizes : Sizes) (nodes : List ℕ) (base : ℕ) (through : Bool) (table now : List ℕ) (i : ℕ) → i ≡ 0 → Sweeps sizes nodes base through table i now
    → (marks invariant : List Bool) → length marks ≡ sizes.nodes → length invariant ≡ sizes.nodes → Region base (flags marks) table → Region 0 (flags invariant) table
    → now ≡ written base (flags (sweep (nodes_to nodes sizes.nodes) (goes_down through (nodes_to nodes sizes.nodes) invariant) sizes.nodes marks)) table
unfolding sweep Sweeps
sweep_end sizes nodes base through table now i e inv marks invariant long same region other =
    let s = inv marks invariant long same region other in
    s.held ∙ ap (λ (m : List Bool). written base (flags m) table) (rw (e, long) at s.left)

-- ---- the ways out

pub hoistable_no : (nodes work : List ℕ) (i : ℕ) → (get_or work i 0 ≡ 1 → ⊥) → false ≡ hoistable_in nodes work i
unfolding hoistable_in
hoistable_no nodes work i h = rw (ne_eqb (get_or work i 0) 1 h)

pub hoistable_yes : (nodes work : List ℕ) (i count : ℕ) → get_or work i 0 ≡ 1 → count ≡ operand_count nodes i → ltb 0 count ≡ hoistable_in nodes work i
unfolding hoistable_in computed_in
hoistable_yes nodes work i count h e = rw (h, e)

pub marked_none : (base : ℕ) (nodes : List ℕ) (i count : ℕ) (work : List ℕ) → count ≡ operand_count nodes i → count ≡ 0 → work ≡ marked base (operands_in nodes i) work
unfolding operands_in
marked_none base nodes i count work e z = rw (← e, z)

pub marked_one : (base : ℕ) (nodes : List ℕ) (i count : ℕ) (work : List ℕ) → count ≡ operand_count nodes i → count ≡ 1
    → set work (base + first nodes i) 1 ≡ marked base (operands_in nodes i) work
unfolding operands_in
marked_one base nodes i count work e z = rw (← e, z)

pub marked_two : (base : ℕ) (nodes : List ℕ) (i count : ℕ) (work : List ℕ) → count ≡ operand_count nodes i → (count ≡ 0 → ⊥) → (count ≡ 1 → ⊥)
    → set (set work (base + first nodes i) 1) (base + second nodes i) 1 ≡ marked base (operands_in nodes i) work
unfolding operands_in
marked_two base nodes i count work e p q = rw (← e) (go count p q)
  where
    go : (n : ℕ) → (n ≡ 0 → ⊥) → (n ≡ 1 → ⊥)
        → set (set work (base + first nodes i) 1) (base + second nodes i) 1 ≡ marked base (operand_list n (first nodes i) (second nodes i)) work
    go zero p q = absurd (p refl)
    go (suc zero) p q = absurd (q refl)
    go (suc (suc n)) p q = refl

pub descends_always : (through : Bool) (nodes work : List ℕ) (i : ℕ) → through ≡ true → true ≡ descends_in through nodes work i
unfolding descends_in
descends_always through nodes work i e = rw e

pub descends_unless : (through : Bool) (nodes work : List ℕ) (i : ℕ) (r : Bool) → through ≡ false → r ≡ hoistable_in nodes work i → not r ≡ descends_in through nodes work i
unfolding descends_in
descends_unless through nodes work i r e q = rw (e, q)

pub swept_unmarked : (base : ℕ) (through : Bool) (nodes : List ℕ) (i : ℕ) (work : List ℕ) → get_or work (base + i) 0 ≡ 0 → work ≡ swept_node base through nodes i work
unfolding swept_node
swept_unmarked base through nodes i work e = rw e

pub swept_down : (base : ℕ) (through : Bool) (nodes : List ℕ) (i : ℕ) (work next : List ℕ) (r : Bool) → (get_or work (base + i) 0 ≡ 0 → ⊥)
    → r ≡ descends_in through nodes work i → r ≡ true → next ≡ marked base (operands_in nodes i) work → next ≡ swept_node base through nodes i work
unfolding swept_node
swept_down base through nodes i work next r p e t q = rw (ne_eqb (get_or work (base + i) 0) 0 p, ← e, t) q

pub swept_not : (base : ℕ) (through : Bool) (nodes : List ℕ) (i : ℕ) (work : List ℕ) (r : Bool) → (get_or work (base + i) 0 ≡ 0 → ⊥)
    → r ≡ descends_in through nodes work i → r ≡ false → work ≡ swept_node base through nodes i work
unfolding swept_node
swept_not base through nodes i work r p e t = rw (ne_eqb (get_or work (base + i) 0) 0 p, ← e, t)
