-- Layer two: the last reads of the sample phase and the chains of its writes, by exact words. Laws that the functions of src/schedule cite. Assumes nothing.
use Rattle.std.specs.Prelude.{◌≡◌, refl, Bool, true, false, cond, not, List, [], ◌∷◌, ◌++◌, ℕ, zero, suc, ◌+◌, ◌-◌, ◌*◌, ◌≤◌, ◌<◌, length, get_or, set, eqb, ltb}
use Rattle.std.proofs.Common.{sym, ap, ◌∙◌, arith, length-set, get_or-set_other, get_or-append-add}
use Rattle.std.proofs.Math.ListN.{get_or-append}
use borrow.Author.Tests.{ne_eqb, not-true, not-false, lt-ltb, le-ltb}
use Rattle.tables.specs.Loops.{turns, turns_keep}
use Rattle.block.specs.Block.{first, second}
use Rattle.plan.specs.declared.Sizes.{Sizes}
use Rattle.plan.specs.Layout.{Room, homes_at, heads_at, chain_at}
use Rattle.plan.specs.Words.{operand_count, operand_list, operands_in}
use Rattle.plan.specs.SampleLaws.{sample_in}
use Rattle.plan.specs.Chains.{Canonicals, Reading, read_by, read_by_all, last_node, reader_in, after_in, linked, chain_write, chain_writes}

-- ---- what the regions hold, as bounds

pub canonicals_at : (sizes : Sizes) (work : List ℕ) (k : ℕ) → Canonicals sizes work → k < sizes.nodes → get_or work (4 * sizes.nodes + k) 0 < sizes.nodes
unfolding Canonicals
canonicals_at sizes work k h below = h k below

canonicals_set : (sizes : Sizes) (work : List ℕ) (j v : ℕ) → 5 * sizes.nodes ≤ j → Canonicals sizes work → Canonicals sizes (set work j v)
unfolding Canonicals
canonicals_set sizes work j v far h k below = rw (get_or-set_other work j (4 * sizes.nodes + k) v 0 (λ (e : 4 * sizes.nodes + k ≡ j). omega arith)) (h k below)

pub reading_home : (sizes : Sizes) (work : List ℕ) (k : ℕ) → Reading sizes work → k < 258 + sizes.states + sizes.delays → get_or work (homes_at sizes + k) 0 ≤ sizes.nodes
unfolding Reading
reading_home sizes work k h below = h.0 k below

pub reading_last : (sizes : Sizes) (work : List ℕ) (k : ℕ) → Reading sizes work → k < sizes.nodes → get_or work (10 * sizes.nodes + k) 0 ≤ sizes.nodes
unfolding Reading
reading_last sizes work k h below = h.1 k below

-- a store behind the homes leaves them
reading_set : (sizes : Sizes) (work : List ℕ) (j v : ℕ) → heads_at sizes ≤ j → Reading sizes work → Reading sizes (set work j v)
unfolding Reading
reading_set sizes work j v far h = (
  λ k below. rw (get_or-set_other work j (homes_at sizes + k) v 0 (λ (e : homes_at sizes + k ≡ j). omega arith)) (h.0 k below),
  λ k below. rw (get_or-set_other work j (10 * sizes.nodes + k) v 0 (λ (e : 10 * sizes.nodes + k ≡ j). omega arith)) (h.1 k below),
)

-- ---- the last reads

read_kept : (sizes : Sizes) (work : List ℕ) (i a : ℕ) → Canonicals sizes work → Canonicals sizes (read_by sizes.nodes i a work)
unfolding read_by
read_kept sizes work i a h = canonicals_set sizes work (10 * sizes.nodes + get_or work (4 * sizes.nodes + a) 0) (i + 1) (omega arith) h

reads_kept : (sizes : Sizes) (work : List ℕ) (i : ℕ) (list : List ℕ) → Canonicals sizes work → Canonicals sizes (read_by_all sizes.nodes i list work)
reads_kept sizes work i [] h = h
reads_kept sizes work i (a ∷ list) h = reads_kept sizes (read_by sizes.nodes i a work) i list (read_kept sizes work i a h)

last_kept : (sizes : Sizes) (nodes : List ℕ) (i : ℕ) (work : List ℕ) → Canonicals sizes work → Canonicals sizes (last_node sizes.nodes nodes i work)
unfolding last_node
last_kept sizes nodes i work h = go (sample_in sizes.nodes nodes work i)
  where
    go : (b : Bool) → Canonicals sizes (cond b (read_by_all sizes.nodes i (operands_in nodes i) work) work)
    go true = reads_kept sizes work i (operands_in nodes i) h
    go false = h

-- the loop leaves the first nodes
pub turns_kept : (sizes : Sizes) (nodes table now : List ℕ) (i : ℕ) → Canonicals sizes table → now ≡ turns (last_node sizes.nodes nodes) table i → Canonicals sizes now
turns_kept sizes nodes table now i h e =
    rw e (turns_keep (last_node sizes.nodes nodes) table (Canonicals sizes) i h (λ k x below p. last_kept sizes nodes k x p))

-- a store for a read keeps what the next one needs
pub read_again : (sizes : Sizes) (work next : List ℕ) (i a : ℕ) → Room sizes (length work) → Canonicals sizes work → next ≡ read_by sizes.nodes i a work
    → Room sizes (length next) × Canonicals sizes next
unfolding read_by
read_again sizes work next i a room h e =
    (rw (e, length-set work (10 * sizes.nodes + get_or work (4 * sizes.nodes + a) 0) (i + 1)) room, rw e (read_kept sizes work i a h))

-- the ways out
pub read_is : (n i a : ℕ) (work : List ℕ) → set work (10 * n + get_or work (4 * n + a) 0) (i + 1) ≡ read_by n i a work
unfolding read_by
read_is n i a work = refl

pub read_none : (n : ℕ) (nodes : List ℕ) (i count : ℕ) (work : List ℕ) → count ≡ operand_count nodes i → count ≡ 0 → work ≡ read_by_all n i (operands_in nodes i) work
unfolding operands_in
read_none n nodes i count work e z = rw (← e, z)

pub read_one : (n : ℕ) (nodes : List ℕ) (i count : ℕ) (work next : List ℕ) → count ≡ operand_count nodes i → count ≡ 1 → next ≡ read_by n i (first nodes i) work
    → next ≡ read_by_all n i (operands_in nodes i) work
unfolding operands_in
read_one n nodes i count work next e z q = rw (← e, z) q

pub read_two : (n : ℕ) (nodes : List ℕ) (i count : ℕ) (work next last : List ℕ) → count ≡ operand_count nodes i → (count ≡ 0 → ⊥) → (count ≡ 1 → ⊥)
    → next ≡ read_by n i (first nodes i) work → last ≡ read_by n i (second nodes i) next → last ≡ read_by_all n i (operands_in nodes i) work
unfolding operands_in
read_two n nodes i count work next last e p q a d = rw (← e, d, a) (go count p q)
  where
    go : (m : ℕ) → (m ≡ 0 → ⊥) → (m ≡ 1 → ⊥)
        → read_by n i (second nodes i) (read_by n i (first nodes i) work) ≡ read_by_all n i (operand_list m (first nodes i) (second nodes i)) work
    go zero p q = absurd (p refl)
    go (suc zero) p q = absurd (q refl)
    go (suc (suc m)) p q = refl

pub last_no : (n : ℕ) (nodes : List ℕ) (i : ℕ) (work : List ℕ) (r : Bool) → r ≡ sample_in n nodes work i → not r ≡ true → work ≡ last_node n nodes i work
unfolding last_node
last_no n nodes i work r e h = rw (← e, not-true r h)

pub last_yes : (n : ℕ) (nodes : List ℕ) (i : ℕ) (work next : List ℕ) (r : Bool) → r ≡ sample_in n nodes work i → not r ≡ false
    → next ≡ read_by_all n i (operands_in nodes i) work → next ≡ last_node n nodes i work
unfolding last_node
last_yes n nodes i work next r e h q = rw (← e, not-false r h) q

-- ---- after which computation a write comes

reader_low : (sizes : Sizes) (work : List ℕ) (w : ℕ) → Reading sizes work → w < sizes.states + sizes.delays → reader_in sizes work w ≤ sizes.nodes
unfolding reader_in
reader_low sizes work w h below = go (get_or work (homes_at sizes + (258 + w)) 0) (reading_home sizes work (258 + w) h (omega arith))
  where
    go : (home : ℕ) → home ≤ sizes.nodes → cond (eqb home 0) 0 (get_or work (10 * sizes.nodes + (home - 1)) 0) ≤ sizes.nodes
    go zero l = omega arith
    go (suc k) l =
        let z : suc k - 1 ≡ k = omega arith in
        rw (ne_eqb (suc k) 0 (λ (e : suc k ≡ 0). omega arith), z) (reading_last sizes work k h (omega arith))

after_low : (sizes : Sizes) (nodes work : List ℕ) (w value : ℕ) → Reading sizes work → w < sizes.states + sizes.delays → value < sizes.nodes
    → after_in sizes nodes work w value ≤ sizes.nodes
unfolding after_in
after_low sizes nodes work w value h below inside =
    go (sample_in sizes.nodes nodes work value) (ltb (reader_in sizes work w) (value + 1)) (reader_in sizes work w) (reader_low sizes work w h below)
  where
    go : (a b : Bool) (r : ℕ) → r ≤ sizes.nodes → cond a (cond b (value + 1) r) r ≤ sizes.nodes
    go true true r l = omega arith
    go true false r l = l
    go false b r l = l

-- the same, of what the function answers
pub after_small : (sizes : Sizes) (nodes work : List ℕ) (w value a : ℕ) → a ≡ after_in sizes nodes work w value → Reading sizes work → w < sizes.states + sizes.delays
    → value < sizes.nodes → a ≤ sizes.nodes
after_small sizes nodes work w value a e h below inside = rw e (after_low sizes nodes work w value h below inside)

pub reader_none : (sizes : Sizes) (work : List ℕ) (w : ℕ) → get_or work (homes_at sizes + (258 + w)) 0 ≡ 0 → 0 ≡ reader_in sizes work w
unfolding reader_in
reader_none sizes work w z = rw z

pub reader_some : (sizes : Sizes) (work : List ℕ) (w : ℕ) → (get_or work (homes_at sizes + (258 + w)) 0 ≡ 0 → ⊥)
    → get_or work (10 * sizes.nodes + (get_or work (homes_at sizes + (258 + w)) 0 - 1)) 0 ≡ reader_in sizes work w
unfolding reader_in
reader_some sizes work w h = rw (ne_eqb (get_or work (homes_at sizes + (258 + w)) 0) 0 h)

module _ (sizes : Sizes) (nodes work : List ℕ) (w value read : ℕ) (r : Bool) (er : read ≡ reader_in sizes work w) (es : r ≡ sample_in sizes.nodes nodes work value) where
  pub after_read : not r ≡ true → read ≡ after_in sizes nodes work w value
  unfolding after_in
  after_read h = rw (← es, not-true r h) er

  pub after_own : not r ≡ false → read < value + 1 → value + 1 ≡ after_in sizes nodes work w value
  unfolding after_in
  after_own h l = rw (← es, not-false r h, ← er, lt-ltb read (value + 1) l)

  pub after_later : not r ≡ false → value + 1 ≤ read → read ≡ after_in sizes nodes work w value
  unfolding after_in
  after_later h l = rw (← es, not-false r h, ← er, le-ltb read (value + 1) l)

-- ---- the chains

linked_kept : (sizes : Sizes) (w a : ℕ) (work : List ℕ) → Reading sizes work → Reading sizes (linked sizes w a work)
unfolding linked
linked_kept sizes w a work h =
    reading_set sizes (set work (chain_at sizes + w) (get_or work (heads_at sizes + a) 0)) (heads_at sizes + a) (w + 1) (omega arith)
    (reading_set sizes work (chain_at sizes + w) (get_or work (heads_at sizes + a) 0) (omega arith) h)

pub chain_kept : (sizes : Sizes) (nodes : List ℕ) (update w : ℕ) (work next : List ℕ) → Reading sizes work → next ≡ chain_write sizes nodes update w work → Reading sizes next
unfolding chain_write
chain_kept sizes nodes update w work next h e = rw e (go (eqb update 0))
  where
    go : (b : Bool) → Reading sizes (cond b work (linked sizes w (after_in sizes nodes work w (update - 1)) work))
    go true = h
    go false = linked_kept sizes w (after_in sizes nodes work w (update - 1)) work h

pub chain_none : (sizes : Sizes) (nodes : List ℕ) (update w : ℕ) (work : List ℕ) → update ≡ 0 → work ≡ chain_write sizes nodes update w work
unfolding chain_write
chain_none sizes nodes update w work z = rw z

pub chain_some : (sizes : Sizes) (nodes : List ℕ) (update w a : ℕ) (work next : List ℕ) → (update ≡ 0 → ⊥) → a ≡ after_in sizes nodes work w (update - 1)
    → next ≡ linked sizes w a work → next ≡ chain_write sizes nodes update w work
unfolding chain_write
chain_some sizes nodes update w a work next h e q = rw (ne_eqb update 0 h, ← e) q

pub linked_is : (sizes : Sizes) (w a : ℕ) (work : List ℕ)
    → set (set work (chain_at sizes + w) (get_or work (heads_at sizes + a) 0)) (heads_at sizes + a) (w + 1) ≡ linked sizes w a work
unfolding linked
linked_is sizes w a work = refl

-- the loop's turn
pub chains_next : (sizes : Sizes) (nodes updates : List ℕ) (w j update : ℕ) (work next table : List ℕ) → j ≡ suc w
    → chain_writes sizes nodes updates j work ≡ table → update ≡ get_or updates w 0 → next ≡ chain_write sizes nodes update w work
    → chain_writes sizes nodes updates w next ≡ table
unfolding chain_writes
chains_next sizes nodes updates w j update work next table e h u q = rw (q, u) (rw e at h)

-- its end
pub chains_end : (sizes : Sizes) (nodes updates : List ℕ) (w : ℕ) (work table : List ℕ) → w ≡ 0 → chain_writes sizes nodes updates w work ≡ table → work ≡ table
unfolding chain_writes
chains_end sizes nodes updates w work table z h = rw z at h

-- the update of memory w
pub update_state : (us vs : List ℕ) (w : ℕ) → w < length us → get_or us w 0 ≡ get_or (us ++ vs) w 0
update_state us vs w h = sym (get_or-append us vs 0 w h)

pub update_delay : (us vs : List ℕ) (w : ℕ) → length us ≤ w → get_or vs (w - length us) 0 ≡ get_or (us ++ vs) w 0
update_delay us vs w h =
    let e : w ≡ length us + (w - length us) = omega arith in
    sym (ap (λ (k : ℕ). get_or (us ++ vs) k 0) e ∙ get_or-append-add us vs (w - length us) 0)
