-- What an accepted frame says of a file, fact by fact. Assumes nothing.
use Rattle.std.specs.Prelude.{◌≡◌, ℕ, ◌+◌, ◌-◌, ◌*◌, ◌%◌, ◌<◌, ◌≤◌, Bool, true, false, cond, not, ◌||◌, List, length, ◌==◌, nat_lt, refl}
use Rattle.std.proofs.Common.{arith, ltb-false}
use Rattle.std.proofs.lemmas.Bool.{eqb-false}
use Rattle.tables.specs.Tests.{neither, same_of}
use Rattle.tables.specs.Loops.{some_false}
use Rattle.tables.specs.Lists.{list_of}
use Rattle.answers.specs.Numbers.{accepted}
use Rattle.answers.specs.OrderLaws.{then_accepted, refuse_accepted, in_order_accepted}
use Rattle.house.specs.Bytes.{wrapping_sum, all_ones}
use Rattle.house.specs.Frame.{block_count, block_word, kind_in, number_in, used_in, payload_in, wrong_check, other_kind, wrong_kind, wrong_used, unused_word, rest_not_zero, bad_frame, block_answer, wrong_length, frame_answer, payload_length}

-- block b of a file
pub record Sound (low high : ℕ) (bytes : List ℕ) (b : ℕ) : Type 0 where
  pub sums : wrapping_sum (list_of (block_word bytes b) 128) ≡ all_ones
  pub from : low ≤ kind_in bytes b
  pub up_to : kind_in bytes b ≤ high
  pub kind : kind_in bytes b ≡ kind_in bytes 0
  pub number : number_in bytes b ≡ b
  pub inner : b + 1 < block_count bytes → used_in bytes b ≡ 124
  pub least : 1 ≤ used_in bytes b
  pub most : used_in bytes b ≤ 124
  pub rest : (i : ℕ) → i < 124 - used_in bytes b → payload_in bytes b (used_in bytes b + i) ≡ 0

pub record Framed (low high : ℕ) (bytes : List ℕ) : Type 0 where
  pub whole : length bytes ≡ 512 * block_count bytes
  pub some : 1 ≤ block_count bytes
  pub sound : (b : ℕ) → b < block_count bytes → Sound low high bytes b

-- the used count, by whether the block is the last
used_facts : (bytes : List ℕ) (b : ℕ) → wrong_used bytes b ≡ false
    → (b + 1 < block_count bytes → used_in bytes b ≡ 124) × ((1 ≤ used_in bytes b) × (used_in bytes b ≤ 124))
unfolding wrong_used
used_facts bytes b e = go (nat_lt (b + 1) (block_count bytes)) refl e
  where
    go : (t : Bool) → nat_lt (b + 1) (block_count bytes) ≡ t
        → cond t (not (used_in bytes b == 124)) (nat_lt (used_in bytes b) 1 || nat_lt 124 (used_in bytes b)) ≡ false
        → (b + 1 < block_count bytes → used_in bytes b ≡ 124) × ((1 ≤ used_in bytes b) × (used_in bytes b ≤ 124))
    go true p q = let u = same_of (used_in bytes b) 124 q in ((λ h. u), (omega arith, omega arith))
    go false p q =
        let n = neither (nat_lt (used_in bytes b) 1) _ q in
        let g : block_count bytes ≤ b + 1 = ltb-false (b + 1) (block_count bytes) p in
        ((λ h. absurd (omega arith)), (ltb-false _ _ n.0, ltb-false _ _ n.1))

pub sound_block : (low high : ℕ) (bytes : List ℕ) (b : ℕ) → block_answer low high bytes b ≡ accepted tt → Sound low high bytes b
unfolding block_answer wrong_check bad_frame wrong_kind other_kind rest_not_zero
sound_block low high bytes b e =
    let p = then_accepted _ _ e in
    let s = same_of _ _ (refuse_accepted 20 _ p.0) in
    let f1 = neither _ (rest_not_zero bytes b) (refuse_accepted 21 _ p.1) in
    let f2 = neither _ (wrong_used bytes b) f1.0 in
    let f3 = neither (wrong_kind low high bytes b) (not (number_in bytes b == b)) f2.0 in
    let k = neither (other_kind low high (kind_in bytes b)) (not (kind_in bytes b == kind_in bytes 0)) f3.0 in
    let o = neither (nat_lt (kind_in bytes b) low) (nat_lt high (kind_in bytes b)) k.0 in
    let u = used_facts bytes b f2.1 in
    record {
      sums = s;
      from = ltb-false _ _ o.0;
      up_to = ltb-false _ _ o.1;
      kind = same_of _ _ k.1;
      number = same_of _ _ f3.1;
      inner = u.0;
      least = u.1.0;
      most = u.1.1;
      rest = λ i h. same_of _ _ (some_false (unused_word bytes b) (124 - used_in bytes b) f1.1 i h);
    }

pub framed : (low high : ℕ) (bytes : List ℕ) → frame_answer low high bytes ≡ accepted tt → Framed low high bytes
unfolding frame_answer wrong_length
framed low high bytes e =
    let p = then_accepted _ _ e in
    let l = neither (length bytes == 0) (not (length bytes % 512 == 0)) (refuse_accepted 21 _ p.0) in
    let n = eqb-false (length bytes) 0 l.0 in
    let m = same_of (length bytes % 512) 0 l.1 in
    record {
      whole = omega arith;
      some = omega arith;
      sound = λ b h. sound_block low high bytes b (in_order_accepted (block_answer low high bytes) (block_count bytes) p.1 b h);
    }

-- the payload lies in the blocks
pub payload_room : (low high : ℕ) (bytes : List ℕ) → Framed low high bytes → payload_length bytes ≤ 124 * block_count bytes
unfolding payload_length
payload_room low high bytes f =
    let n = f.some in
    let u = (f.sound (block_count bytes - 1) (omega arith)).most in
    omega arith
