-- How the tables hold it: which register a value gets, on exact words (document 01, module 4; codegen.rs, `take`). The second layer, with the laws of its
-- loops. The locked registers are at most two, each 16 where there is none.
use Rattle.std.specs.Prelude.{◌≡◌, Bool, true, false, cond, not, List, ℕ, zero, suc, ◌+◌, ◌-◌, ◌/◌, ◌%◌, ◌^◌, ◌<◌, ◌≤◌, get_or, eqb, leb, Option, Some, None}
use Rattle.std.proofs.Math.Numerals.{add-one}
use Rattle.std.proofs.Common.{arith}
use borrow.Author.Tests.{ne_eqb}
use Rattle.tables.specs.Tests.{cond_pred}
use Rattle.tables.specs.Loops.{left_step, left_none}
use Rattle.allocate.specs.declared.Frame.{Frame}
use Rattle.allocate.specs.Layout.{next_at, spilled_at, fresh_at}

-- the number of a register, or 16 for none
abbrev pub register_or_16 : Option ℕ → ℕ
register_or_16 (Some r) = r
register_or_16 None = 16

-- the locked register at a place of their list, or 16
abbrev pub lock : List ℕ → ℕ → ℕ
lock locked k = get_or locked k 16

-- "bit n for rn"
unfoldable pub usable_bit : ℕ → ℕ → Bool
usable_bit mask r = eqb (mask / 2 ^ r % 2) 1

-- a usable register that holds nothing
unfoldable pub is_free : List ℕ → ℕ → ℕ → Bool
is_free owner mask r = cond (usable_bit mask r) (eqb (get_or owner r 0) 0) false

-- the first free one of the k registers from r on, else r + k
unfoldable pub free_from : ℕ → ℕ → List ℕ → ℕ → ℕ
free_from zero r owner mask = r
free_from (suc k) r owner mask = cond (is_free owner mask r) r (free_from k (suc r) owner mask)

-- a node "needing no spill"
unfoldable pub reloads : Frame → List ℕ → ℕ → Bool
reloads frame work node = cond (eqb (get_or work (spilled_at frame node) 0) 0) (not (eqb (get_or work (fresh_at frame node) 0) 0)) true

-- the position + 1 of the next task that reads it, past all positions if none does
unfoldable pub next_read : Frame → List ℕ → ℕ → ℕ
next_read frame work node = cond (eqb (get_or work (next_at frame node) 0) 0) 0x1_0000_0000 (get_or work (next_at frame node) 0)

-- it is as good to drop node a as node b, or better: "one needing no spill, then the furthest next read"
unfoldable pub keeps_less : Frame → List ℕ → ℕ → ℕ → Bool
keeps_less frame work a b =
    cond (reloads frame work a)
    (cond (reloads frame work b) (leb (next_read frame work b) (next_read frame work a)) true)
    (cond (reloads frame work b) false (leb (next_read frame work b) (next_read frame work a)))

-- an unlocked usable register that holds something
unfoldable pub may_evict : List ℕ → ℕ → ℕ → ℕ → ℕ → Bool
may_evict owner mask first second r =
    cond (eqb r first) false (cond (eqb r second) false (cond (usable_bit mask r) (not (eqb (get_or owner r 0) 0)) false))

-- register r against the best one below it: "then the highest register"
unfoldable pub better_of : Frame → List ℕ → List ℕ → ℕ → ℕ → ℕ → ℕ → ℕ
better_of frame work owner first second best r =
    cond (may_evict owner frame.mask first second r)
    (cond (eqb best 16) r (cond (keeps_less frame work (get_or owner r 0 - 1) (get_or owner best 0 - 1)) r best))
    best

-- the best of the first k registers, or 16
unfoldable pub victim_of : ℕ → Frame → List ℕ → List ℕ → ℕ → ℕ → ℕ
victim_of zero frame work owner first second = 16
victim_of (suc k) frame work owner first second = better_of frame work owner first second (victim_of k frame work owner first second) k

unfoldable pub count_one : ℕ → ℕ → ℕ
count_one count node = cond (eqb node 0) count (count + 1)

-- how many of the first k registers hold something
unfoldable pub held_of : ℕ → List ℕ → ℕ
held_of zero owner = 0
held_of (suc k) owner = count_one (held_of k owner) (get_or owner k 0)

-- a register holds a node, or nothing
pub record Owners (frame : Frame) (owner : List ℕ) : Type 0 where
  pub each : (k : ℕ) → get_or owner k 0 ≤ frame.nodes

-- ---- the loop of the free register

module _ (n r : ℕ) (owner : List ℕ) (mask : ℕ) where
  -- register r is free
  pub free_hit : r < n → is_free owner mask r ≡ true → free_from (n - r) r owner mask ≡ r
  unfolding free_from
  free_hit h t = rw (left_step n r h, t)

  -- it is not
  pub free_miss : r < n → is_free owner mask r ≡ false → free_from (n - r) r owner mask ≡ free_from (n - (r + 1)) (r + 1) owner mask
  unfolding free_from
  free_miss h t = rw (left_step n r h, t, add-one r)

  -- none is
  pub free_end : n ≤ r → free_from (n - r) r owner mask ≡ r
  unfolding free_from
  free_end h = rw (left_none n r h)

-- ---- a register that may be emptied

module _ (owner : List ℕ) (mask first second r : ℕ) (off : r ≡ first → ⊥) (away : r ≡ second → ⊥) where
  -- a usable one
  pub may_usable : usable_bit mask r ≡ true → not (eqb (get_or owner r 0) 0) ≡ may_evict owner mask first second r
  unfolding may_evict
  may_usable e = rw (ne_eqb r first off, ne_eqb r second away, e)

  -- another
  pub may_not : usable_bit mask r ≡ false → false ≡ may_evict owner mask first second r
  unfolding may_evict
  may_not e = rw (ne_eqb r first off, ne_eqb r second away, e)

-- ---- bounds

-- a victim is a register, or 16
pub victim_le : (k : ℕ) (frame : Frame) (work owner : List ℕ) (first second : ℕ) → k ≤ 16 → victim_of k frame work owner first second ≤ 16
unfolding victim_of better_of
victim_le zero frame work owner first second h = omega arith
victim_le (suc k) frame work owner first second h =
    let ih = victim_le k frame work owner first second (omega arith) in
    let me : k ≤ 16 = omega arith in
    cond_pred (λ (x : ℕ). x ≤ 16) (may_evict owner frame.mask first second k)
    (λ _.
    cond_pred (λ (x : ℕ). x ≤ 16) (eqb (victim_of k frame work owner first second) 16)
    (λ _. me)
    (λ _.
    cond_pred (λ (x : ℕ). x ≤ 16)
    (keeps_less frame work (get_or owner k 0 - 1) (get_or owner (victim_of k frame work owner first second) 0 - 1))
    (λ _. me)
    (λ _. ih)))
    (λ _. ih)
