-- Layer two: the tasks of the sample phase, pushed by exact words. Laws that the functions of src/schedule cite. Assumes nothing.
use Rattle.std.specs.Prelude.{◌≡◌, ◌⊎◌, Bool, true, false, cond, not, get_or, eqb}
use Rattle.std.proofs.Math.Path.{refl, sym, ap}
use Rattle.std.proofs.Common.{◌∙◌, inl, inr, eq-or-lt_of_le, not-suc-le-zero, add-one, length-append, length-set, get_or-set_other}
use mathlib.Core.List.{List, [], ◌∷◌, ◌++◌, map, append_assoc, append-nil}
use Prim.Native.Nat.{ℕ, zero, suc, ◌+◌, ◌-◌, ◌*◌, ◌≤◌, ◌<◌}
use native.Mathlib.Omega.{arith}
use Rattle.std.proofs.Math.ListN.{length, set}
use borrow.Author.Tests.{ne_eqb, not-true, not-false}
use Rattle.plan.specs.declared.Sizes.{Sizes}
use Rattle.plan.specs.Layout.{Room, heads_at, chain_at}
use Rattle.plan.specs.Regions.{written, written_none, written_out, written_push, written_join}
use Rattle.plan.specs.SampleLaws.{sample_in}
use Rattle.plan.specs.Chains.{Chained, chain_from, writes_after, tasks_after, tasks_to, sample_words}

-- ---- what pushing leaves as it was

-- every word beside the tasks' region
abbrev pub BesideTasks : Sizes → List ℕ → List ℕ → Type 0
BesideTasks sizes table now =
    (j : ℕ) → (j < 11 * sizes.nodes) ⊎ (13 * sizes.nodes + sizes.states + sizes.delays + 1 ≤ j) → get_or now j 0 ≡ get_or table j 0

-- words written into the region
pub beside_written : (sizes : Sizes) (table words : List ℕ) (at : ℕ) → at + length words ≤ 2 * sizes.nodes + sizes.states + sizes.delays + 1
    → BesideTasks sizes table (written (11 * sizes.nodes + at) words table)
beside_written sizes table words at h j (inl g) = written_out (11 * sizes.nodes + at) words table j (inl (omega arith))
beside_written sizes table words at h j (inr g) = written_out (11 * sizes.nodes + at) words table j (inr (omega arith))

-- one word stored into it
pub beside_set : (sizes : Sizes) (table : List ℕ) (at v : ℕ) → at < 2 * sizes.nodes + sizes.states + sizes.delays + 1
    → BesideTasks sizes table (set table (11 * sizes.nodes + at) v)
beside_set sizes table at v h j (inl g) = get_or-set_other table (11 * sizes.nodes + at) j v 0 (λ e. omega arith)
beside_set sizes table at v h j (inr g) = get_or-set_other table (11 * sizes.nodes + at) j v 0 (λ e. omega arith)

module _ (sizes : Sizes) (table now : List ℕ) (same : BesideTasks sizes table now) where
  chain_same : (w : ℕ) → get_or now (chain_at sizes + w) 0 ≡ get_or table (chain_at sizes + w) 0
  chain_same w = same (chain_at sizes + w) (inr (omega arith))

  head_same : (a : ℕ) → get_or now (heads_at sizes + a) 0 ≡ get_or table (heads_at sizes + a) 0
  head_same a = same (heads_at sizes + a) (inr (omega arith))

  from_same : (most word : ℕ) → chain_from sizes now most word ≡ chain_from sizes table most word
  unfolding chain_from
  from_same zero word = refl
  from_same (suc most) zero = refl
  from_same (suc most) (suc w) = rw (chain_same w) (ap (λ (l : List ℕ). w ∷ l) (from_same most (get_or table (chain_at sizes + w) 0)))

  pub writes_same : (a : ℕ) → writes_after sizes now a ≡ writes_after sizes table a
  unfolding writes_after
  writes_same a = rw (head_same a, from_same (sizes.states + sizes.delays) (get_or table (heads_at sizes + a) 0))

  sample_same : (nodes : List ℕ) (i : ℕ) → i < sizes.nodes → sample_in sizes.nodes nodes now i ≡ sample_in sizes.nodes nodes table i
  unfolding sample_in
  sample_same nodes i h = rw (same (sizes.nodes + i) (inl (omega arith)), same (2 * sizes.nodes + i) (inl (omega arith)))

  pub tasks_same : (nodes : List ℕ) (i : ℕ) → i < sizes.nodes → tasks_after sizes nodes now i ≡ tasks_after sizes nodes table i
  unfolding tasks_after
  tasks_same nodes i h = rw (sample_same nodes i h, writes_same (i + 1))

  pub chained_same : Chained sizes table → Chained sizes now
  unfolding Chained
  chained_same h = (λ a l. rw (head_same a) (h.0 a l), λ w l. rw (chain_same w) (h.1 w l))

-- ---- `push_chain`

-- the sizes, where the code has read each
abbrev pub sizes_of : ℕ → ℕ → ℕ → Sizes
sizes_of nodes states delays = record { nodes = nodes; states = states; delays = delays }

-- the loop's measure: a chain's words grow, and 0 ends it
abbrev pub to_go : ℕ → ℕ → ℕ
to_go most word = cond (eqb word 0) 0 (most + 1 - word)

go_less : (most word next : ℕ) → 0 < word → word ≤ most → (0 < next → word < next) → next ≤ most → to_go most next < to_go most word
go_less most word next q low later below = rw (ne_eqb word 0 (λ e. omega arith)) (go next later below)
  where
    go : (next : ℕ) → (0 < next → word < next) → next ≤ most → to_go most next < most + 1 - word
    go zero later below = omega arith
    go (suc k) later below =
        let l = later (omega arith) in
        rw (ne_eqb (suc k) 0 (λ (e : suc k ≡ 0). omega arith)) (omega arith)

-- the loop's invariant: what is pushed, and what the chain still has from this word on, are the writes
pub record Pushing (sizes : Sizes) (table now : List ℕ) (place tasks total word : ℕ) : Type 0 where
  pub done : List ℕ
  pub most : ℕ
  pub whole : done ++ map (λ w. 2 * sizes.nodes + w) (chain_from sizes table most word) ≡ writes_after sizes table place
  pub count : total ≡ tasks + length done
  pub stored : now ≡ written (11 * sizes.nodes + tasks) done table
  pub low : word ≤ sizes.states + sizes.delays
  pub enough : 0 < word → sizes.states + sizes.delays < word + most

pub head_low : (sizes : Sizes) (table : List ℕ) (place : ℕ) → Chained sizes table → place ≤ sizes.nodes → get_or table (heads_at sizes + place) 0 ≤ sizes.states + sizes.delays
unfolding Chained
head_low sizes table place h l = h.0 place l

pub chain_low : (sizes : Sizes) (table : List ℕ) (w : ℕ) → Chained sizes table → w < sizes.states + sizes.delays → get_or table (chain_at sizes + w) 0 ≤ sizes.states + sizes.delays
unfolding Chained
chain_low sizes table w h l = (h.1 w l).0

pub chain_later : (sizes : Sizes) (table : List ℕ) (w : ℕ) → Chained sizes table → w < sizes.states + sizes.delays → 0 < get_or table (chain_at sizes + w) 0
    → w + 1 < get_or table (chain_at sizes + w) 0
unfolding Chained
chain_later sizes table w h l q = (h.1 w l).1 (omega arith)

pub pushing_start : (sizes : Sizes) (table : List ℕ) (place tasks : ℕ) → Chained sizes table → place ≤ sizes.nodes
    → Pushing sizes table table place tasks tasks (get_or table (heads_at sizes + place) 0)
unfolding writes_after
pushing_start sizes table place tasks h l = record {
  done = [];
  most = sizes.states + sizes.delays;
  whole = refl;
  count = omega arith;
  stored = sym (written_none (11 * sizes.nodes + tasks) table);
  low = head_low sizes table place h l;
  enough = λ q. omega arith;
}

-- the chain from a word that is not 0: that memory, then the rest
from_step : (sizes : Sizes) (table : List ℕ) (most word : ℕ) → 0 < most → 0 < word
    → chain_from sizes table most word ≡ (word - 1) ∷ chain_from sizes table (most - 1) (get_or table (chain_at sizes + (word - 1)) 0)
unfolding chain_from
from_step sizes table zero word h q = absurd (not-suc-le-zero h)
from_step sizes table (suc most) zero h q = absurd (not-suc-le-zero q)
from_step sizes table (suc most) (suc w) h q =
    let z : suc most - 1 ≡ most = omega arith in
    let y : suc w - 1 ≡ w = omega arith in
    rw (z, y)

module _ (sizes : Sizes) (table now : List ℕ) (place tasks total word : ℕ) (p : Pushing sizes table now place tasks total word) (q : 0 < word) where
  -- what is left: this write, then the rest
  left_step : map (λ w. 2 * sizes.nodes + w) (chain_from sizes table p.most word)
      ≡ (2 * sizes.nodes + (word - 1)) ∷ map (λ w. 2 * sizes.nodes + w) (chain_from sizes table (p.most - 1) (get_or table (chain_at sizes + (word - 1)) 0))
  left_step =
      let m : 0 < p.most = let e = p.enough q in let l = p.low in omega arith in
      ap (map (λ w. 2 * sizes.nodes + w)) (from_step sizes table p.most word m q)

  -- there is room for it
  pub pushing_room : tasks + length (writes_after sizes table place) ≤ 2 * sizes.nodes + sizes.states + sizes.delays + 1
      → total < 2 * sizes.nodes + sizes.states + sizes.delays + 1
  pushing_room fits =
      let rest : List ℕ = map (λ w. 2 * sizes.nodes + w) (chain_from sizes table (p.most - 1) (get_or table (chain_at sizes + (word - 1)) 0)) in
      let e : length p.done + suc (length rest) ≡ length (writes_after sizes table place) =
      sym (length-append p.done ((2 * sizes.nodes + (word - 1)) ∷ rest)) ∙ ap length (ap (λ (l : List ℕ). p.done ++ l) (sym left_step) ∙ p.whole) in
      let c = p.count in
      omega arith

  -- it stands behind those before it
  next_stored : set now (11 * sizes.nodes + total) (2 * sizes.nodes + (word - 1)) ≡ written (11 * sizes.nodes + tasks) (p.done ++ ((2 * sizes.nodes + (word - 1)) ∷ [])) table
  next_stored =
      let c = p.count in
      ap (λ (t : List ℕ). set t (11 * sizes.nodes + total) (2 * sizes.nodes + (word - 1))) p.stored
      ∙ written_push (11 * sizes.nodes + tasks) p.done table (11 * sizes.nodes + total) (2 * sizes.nodes + (word - 1)) (omega arith)

  module _ (fits : tasks + length (writes_after sizes table place) ≤ 2 * sizes.nodes + sizes.states + sizes.delays + 1) where
    -- and leaves the chain's words
    next_word_lem : get_or (set now (11 * sizes.nodes + total) (2 * sizes.nodes + (word - 1))) (chain_at sizes + (word - 1)) 0 ≡ get_or table (chain_at sizes + (word - 1)) 0
    next_word_lem =
        let l : total < 2 * sizes.nodes + sizes.states + sizes.delays + 1 = pushing_room fits in
        let c = p.count in
        let n = length-append p.done ((2 * sizes.nodes + (word - 1)) ∷ []) in
        ap (λ (t : List ℕ). get_or t (chain_at sizes + (word - 1)) 0) next_stored
        ∙ beside_written sizes table (p.done ++ ((2 * sizes.nodes + (word - 1)) ∷ [])) tasks (omega arith) (chain_at sizes + (word - 1)) (inr (omega arith))

    module _ (h : Chained sizes table) where
      -- the loop's turn
      pub pushing_next : Pushing sizes table (set now (11 * sizes.nodes + total) (2 * sizes.nodes + (word - 1))) place tasks (total + 1)
          (get_or (set now (11 * sizes.nodes + total) (2 * sizes.nodes + (word - 1))) (chain_at sizes + (word - 1)) 0)
      pushing_next =
          let c = p.count in
          let low = p.low in
          let n = length-append p.done ((2 * sizes.nodes + (word - 1)) ∷ []) in
          rw next_word_lem record {
            done = p.done ++ ((2 * sizes.nodes + (word - 1)) ∷ []);
            most = p.most - 1;
            whole =
                append_assoc p.done ((2 * sizes.nodes + (word - 1)) ∷ []) _
                ∙ (ap (λ (l : List ℕ). p.done ++ l) (sym left_step) ∙ p.whole);
            count = omega arith;
            stored = next_stored;
            low = chain_low sizes table (word - 1) h (omega arith);
            enough = λ r. let e = p.enough q in let m = chain_later sizes table (word - 1) h (omega arith) r in omega arith;
          }

      -- there is less to go
      pub pushing_less : to_go (sizes.states + sizes.delays) (get_or (set now (11 * sizes.nodes + total) (2 * sizes.nodes + (word - 1))) (chain_at sizes + (word - 1)) 0)
          < to_go (sizes.states + sizes.delays) word
      pushing_less =
          let low = p.low in
          rw next_word_lem (
          go_less (sizes.states + sizes.delays) word (get_or table (chain_at sizes + (word - 1)) 0) q low
          (λ r. let m = chain_later sizes table (word - 1) h (omega arith) r in omega arith)
          (chain_low sizes table (word - 1) h (omega arith))
          )

-- its end
pub pushing_end : (sizes : Sizes) (table now : List ℕ) (place tasks total word : ℕ) → Pushing sizes table now place tasks total word → word ≡ 0
    → (total ≡ tasks + length (writes_after sizes table place)) × (now ≡ written (11 * sizes.nodes + tasks) (writes_after sizes table place) table)
unfolding chain_from
pushing_end sizes table now place tasks total word p z =
    let d : p.done ≡ writes_after sizes table place = go p.most word z p.whole in
    rw (← d) (p.count, p.stored)
  where
    go : (most word : ℕ) → word ≡ 0 → p.done ++ map (λ w. 2 * sizes.nodes + w) (chain_from sizes table most word) ≡ writes_after sizes table place
        → p.done ≡ writes_after sizes table place
    go zero word z e = sym (append-nil p.done) ∙ e
    go (suc most) zero z e = sym (append-nil p.done) ∙ e
    go (suc most) (suc w) z e = absurd (omega arith)

-- ---- `push_node`

module _ (sizes : Sizes) (nodes work : List ℕ) (i tasks : ℕ) (r : Bool) (e : r ≡ sample_in sizes.nodes nodes work i) where
  -- the ways out: a node that the sample phase does not compute
  pub node_none : not r ≡ true
      → (tasks ≡ tasks + length (tasks_after sizes nodes work i)) × (work ≡ written (11 * sizes.nodes + tasks) (tasks_after sizes nodes work i) work)
  unfolding tasks_after
  node_none h = rw (← e, not-true r h) (omega arith, sym (written_none (11 * sizes.nodes + tasks) work))

  -- .. and one that it computes
  node_is : not r ≡ false → tasks_after sizes nodes work i ≡ i ∷ writes_after sizes work (i + 1)
  unfolding tasks_after
  node_is h = rw (← e, not-false r h)

  module _ (h : not r ≡ false) (fits : tasks + length (tasks_after sizes nodes work i) ≤ 2 * sizes.nodes + sizes.states + sizes.delays + 1) where
    node_long : tasks + suc (length (writes_after sizes work (i + 1))) ≤ 2 * sizes.nodes + sizes.states + sizes.delays + 1
    node_long = rw (node_is h) at fits

    -- there is room for its computation
    pub node_room : tasks < 2 * sizes.nodes + sizes.states + sizes.delays + 1
    node_room = let l = node_long in omega arith

    -- and for the writes right after it
    pub node_ready : Room sizes (length work) → Chained sizes work → i < sizes.nodes
        → Room sizes (length (set work (11 * sizes.nodes + tasks) i)) × Chained sizes (set work (11 * sizes.nodes + tasks) i) × (i + 1 ≤ sizes.nodes)
        × (tasks + 1 + length (writes_after sizes (set work (11 * sizes.nodes + tasks) i) (i + 1)) ≤ 2 * sizes.nodes + sizes.states + sizes.delays + 1)
    node_ready room chained below =
        let same = beside_set sizes work tasks i node_room in
        let l = node_long in (
          rw (length-set work (11 * sizes.nodes + tasks) i) room,
          chained_same sizes work (set work (11 * sizes.nodes + tasks) i) same chained,
          omega arith,
          rw (writes_same sizes work (set work (11 * sizes.nodes + tasks) i) same (i + 1)) (omega arith),
        )

    pub node_some : (total : ℕ) (next : List ℕ)
        → (total ≡ tasks + 1 + length (writes_after sizes (set work (11 * sizes.nodes + tasks) i) (i + 1)))
        × (next ≡ written (11 * sizes.nodes + (tasks + 1)) (writes_after sizes (set work (11 * sizes.nodes + tasks) i) (i + 1)) (set work (11 * sizes.nodes + tasks) i))
        → (total ≡ tasks + length (tasks_after sizes nodes work i)) × (next ≡ written (11 * sizes.nodes + tasks) (tasks_after sizes nodes work i) work)
    node_some total next q =
        let same = beside_set sizes work tasks i node_room in
        let w = writes_same sizes work (set work (11 * sizes.nodes + tasks) i) same (i + 1) in
        let a : total ≡ tasks + 1 + length (writes_after sizes work (i + 1)) = q.0 ∙ ap (λ (l : List ℕ). tasks + 1 + length l) w in
        let one : set work (11 * sizes.nodes + tasks) i ≡ written (11 * sizes.nodes + tasks) (i ∷ []) work =
        ap (λ (t : List ℕ). set t (11 * sizes.nodes + tasks) i) (sym (written_none (11 * sizes.nodes + tasks) work))
        ∙ written_push (11 * sizes.nodes + tasks) [] work (11 * sizes.nodes + tasks) i (omega arith) in
        rw (node_is h) (
          omega arith,
          q.1
              ∙ (ap (λ (l : List ℕ). written (11 * sizes.nodes + (tasks + 1)) l (set work (11 * sizes.nodes + tasks) i)) w
              ∙ (ap (written (11 * sizes.nodes + (tasks + 1)) (writes_after sizes work (i + 1))) one
              ∙ written_join (11 * sizes.nodes + tasks) (i ∷ []) (writes_after sizes work (i + 1)) work (11 * sizes.nodes + (tasks + 1)) (omega arith))),
        )

-- ---- `sample_tasks`

-- they fit their region
abbrev pub TasksFit : Sizes → List ℕ → List ℕ → Type 0
TasksFit sizes nodes table = length (sample_words sizes nodes table) ≤ 2 * sizes.nodes + sizes.states + sizes.delays + 1

-- the loop's invariant: the tasks of the first i nodes stand in the region
abbrev pub Pushed : Sizes → List ℕ → List ℕ → List ℕ → ℕ → ℕ → Type 0
Pushed sizes nodes table now tasks i = (tasks ≡ length (tasks_to sizes nodes table i)) × (now ≡ written (11 * sizes.nodes) (tasks_to sizes nodes table i) table)

-- the tasks of fewer nodes are no more
tasks_le : (sizes : Sizes) (nodes table : List ℕ) (i n : ℕ) → i ≤ n → length (tasks_to sizes nodes table i) ≤ length (tasks_to sizes nodes table n)
unfolding tasks_to
tasks_le sizes nodes table i zero h = let z : i ≡ 0 = omega arith in rw z (omega arith)
tasks_le sizes nodes table i (suc n) h = go (eq-or-lt_of_le h) (tasks_le sizes nodes table i n)
  where
    go : (i ≡ suc n) ⊎ (i < suc n) → (i ≤ n → length (tasks_to sizes nodes table i) ≤ length (tasks_to sizes nodes table n))
        → length (tasks_to sizes nodes table i) ≤ length (tasks_to sizes nodes table n ++ tasks_after sizes nodes table n)
    go (inl q) ih = rw q (omega arith)
    go (inr q) ih =
        let k = ih (omega arith) in
        let e = length-append (tasks_to sizes nodes table n) (tasks_after sizes nodes table n) in
        omega arith

tasks_next : (sizes : Sizes) (nodes table : List ℕ) (i : ℕ) → tasks_to sizes nodes table (i + 1) ≡ tasks_to sizes nodes table i ++ tasks_after sizes nodes table i
unfolding tasks_to
tasks_next sizes nodes table i = rw add-one

-- all of them, and the output
words_length : (sizes : Sizes) (nodes table : List ℕ) → length (sample_words sizes nodes table) ≡ length (tasks_to sizes nodes table sizes.nodes) + 1
unfolding sample_words
words_length sizes nodes table = length-append (tasks_to sizes nodes table sizes.nodes) ((2 * sizes.nodes + (sizes.states + sizes.delays)) ∷ [])

module _ (sizes : Sizes) (nodes table : List ℕ) (fits : TasksFit sizes nodes table) where
  -- there is room for the tasks of the first i nodes, and the output
  tasks_room : (i : ℕ) → i ≤ sizes.nodes → length (tasks_to sizes nodes table i) < 2 * sizes.nodes + sizes.states + sizes.delays + 1
  tasks_room i h = let e = words_length sizes nodes table in let l = tasks_le sizes nodes table i sizes.nodes h in omega arith

  -- for the writes that are first of all
  pub first_room : 0 + length (writes_after sizes table 0) ≤ 2 * sizes.nodes + sizes.states + sizes.delays + 1
  unfolding tasks_to
  first_room = let l : length (writes_after sizes table 0) < 2 * sizes.nodes + sizes.states + sizes.delays + 1 = tasks_room 0 (omega arith) in omega arith

  pub pushed_start : (tasks : ℕ) (now : List ℕ)
      → (tasks ≡ 0 + length (writes_after sizes table 0)) × (now ≡ written (11 * sizes.nodes + 0) (writes_after sizes table 0) table) → Pushed sizes nodes table now tasks 0
  unfolding tasks_to
  pushed_start tasks now q = let z : 11 * sizes.nodes + 0 ≡ 11 * sizes.nodes = omega arith in (omega (arith, q.0), rw z at q.1)

  module _ (now : List ℕ) (tasks i : ℕ) (p : Pushed sizes nodes table now tasks i) where
    -- so many are few
    pub pushed_room : i ≤ sizes.nodes → tasks < 2 * sizes.nodes + sizes.states + sizes.delays + 1
    pushed_room l = let t = tasks_room i l in omega (arith, p.0)

    pushed_same : i ≤ sizes.nodes → BesideTasks sizes table now
    pushed_same l =
        let t = tasks_room i l in
        let z : 11 * sizes.nodes + 0 ≡ 11 * sizes.nodes = omega arith in
        λ j h. ap (λ (x : List ℕ). get_or x j 0) p.1 ∙ (rw z at (beside_written sizes table (tasks_to sizes nodes table i) 0 (omega arith))) j h

    -- what the next node asks for
    pub pushed_ready : Chained sizes table → i < sizes.nodes
        → Chained sizes now × (tasks + length (tasks_after sizes nodes now i) ≤ 2 * sizes.nodes + sizes.states + sizes.delays + 1)
    pushed_ready chained below =
        let same = pushed_same (omega arith) in
        let t = tasks_room (i + 1) (omega arith) in
        let e = ap length (tasks_next sizes nodes table i) ∙ length-append (tasks_to sizes nodes table i) (tasks_after sizes nodes table i) in
        (chained_same sizes table now same chained, rw (tasks_same sizes table now same nodes i below) (omega (arith, p.0)))

    -- its turn
    pub pushed_next : (more : ℕ) (next : List ℕ) → i < sizes.nodes
        → (more ≡ tasks + length (tasks_after sizes nodes now i)) × (next ≡ written (11 * sizes.nodes + tasks) (tasks_after sizes nodes now i) now)
        → Pushed sizes nodes table next more (i + 1)
    pushed_next more next below q =
        let same = tasks_same sizes table now (pushed_same (omega arith)) nodes i below in
        let done : List ℕ = tasks_to sizes nodes table i in
        let added : List ℕ = tasks_after sizes nodes table i in
        rw (tasks_next sizes nodes table i) (
          q.0 ∙ (ap (λ (l : List ℕ). tasks + length l) same ∙ (ap (λ (x : ℕ). x + length added) p.0 ∙ sym (length-append done added))),
          q.1
              ∙ (ap (λ (l : List ℕ). written (11 * sizes.nodes + tasks) l now) same
              ∙ (ap (written (11 * sizes.nodes + tasks) added) p.1
              ∙ written_join (11 * sizes.nodes) done added table (11 * sizes.nodes + tasks) (omega (arith, p.0)))),
        )

    -- the end: the output behind them
    pub pushed_end : i ≡ sizes.nodes
        → (tasks + 1 ≡ length (sample_words sizes nodes table))
        × (set now (11 * sizes.nodes + tasks) (2 * sizes.nodes + (sizes.states + sizes.delays)) ≡ written (11 * sizes.nodes) (sample_words sizes nodes table) table)
    unfolding sample_words
    pushed_end z =
        let n : tasks ≡ length (tasks_to sizes nodes table sizes.nodes) = rw z at p.0 in
        let t : now ≡ written (11 * sizes.nodes) (tasks_to sizes nodes table sizes.nodes) table = rw z at p.1 in
        let e = words_length sizes nodes table in (
          omega arith,
          ap (λ (x : List ℕ). set x (11 * sizes.nodes + tasks) (2 * sizes.nodes + (sizes.states + sizes.delays))) t
              ∙ written_push (11 * sizes.nodes) (tasks_to sizes nodes table sizes.nodes) table (11 * sizes.nodes + tasks) (2 * sizes.nodes + (sizes.states + sizes.delays)) (omega arith),
        )
