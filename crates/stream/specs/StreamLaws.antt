-- A block more of a file: what is kept of the blocks behind each other is what one block after the other leaves. Assumes nothing.
use Rattle.std.specs.Prelude.{◌≡◌, Bool, ◌||◌, ◌&&◌, length}
use Rattle.std.proofs.Math.Path.{refl, ap}
use Rattle.std.proofs.Common.{sym, ◌∙◌, add-one, length-append}
use Rattle.std.proofs.Math.Bool.{true, false, cond, not}
use mathlib.Core.List.{List, [], ◌∷◌, ◌++◌, append-nil}
use Prim.Native.Nat.{ℕ, zero, suc, ◌+◌, ◌-◌, ◌*◌, ◌/◌, ◌%◌, ◌≤◌, ◌<◌}
use native.Mathlib.Omega.{arith}
use Rattle.std.proofs.Math.ListN.{get_or-append}
use Rattle.std.proofs.Math.Dec.{ltb, eqb}
use borrow.Author.Tests.{lt-ltb, le-ltb, eq-eqb, ne_eqb, eqb-true, eqb-false}
use Rattle.tables.specs.Tests.{true_false, differs, differs_not, same_of, neither, or_left, or_right, or_none, cond_true, cond_arms}
use Rattle.tables.specs.Loops.{some}
use Rattle.tables.specs.Lists.{list_same}
use Rattle.answers.specs.Numbers.{Answer, accepted, refused}
use Rattle.answers.specs.Order.{◌⨾◌, refuse, in_order}
use Rattle.house.specs.Bytes.{word_from, wrapping_sum, all_ones}
use Rattle.house.specs.ReadBack.{word_behind}
use Rattle.house.specs.Frame.{graph_kind, step_kind, block_count, block_word, kind_in, number_in, used_in, payload_in, wrong_check, other_kind, wrong_kind, wrong_used, unused_word, rest_not_zero, bad_frame, block_answer, wrong_length, frame_answer, payload_length, payload_word}
use Rattle.house.specs.Payload.{rendering_in, samples_at}
use Rattle.house.specs.Read.{read_rendering_answer}
use Rattle.stream.specs.declared.Framed.{Framed}
use Rattle.stream.specs.Stream.{fault_of, framed_of, first_kind, short_before, last_bad, last_answer, next_fault, one_more, answer_in, payload_words, rendering_frame, rendering_answer_in}

-- ---- answers

pub then_assoc : {A : Type 0} (a b : Answer Unit) (c : Answer A) → ((a ⨾ b) ⨾ c) ≡ (a ⨾ (b ⨾ c))
unfolding ◌⨾◌
then_assoc (accepted u) b c = refl
then_assoc (refused n vs) b c = refl

-- no refusal has the number 0
abbrev Told : Answer Unit → Type 0
Told a = fault_of a ≡ 0 → a ≡ accepted tt

told_refuse : (n : ℕ) (t : Bool) → Told (refuse (suc n) t)
unfolding refuse
told_refuse n true e = absurd (omega arith)
told_refuse n false e = refl

told_then : (a b : Answer Unit) → Told a → Told b → Told (a ⨾ b)
unfolding ◌⨾◌
told_then (accepted u) b f g = g
told_then (refused n vs) b f g = f

told_order : (answer : ℕ → Answer Unit) → ((i : ℕ) → Told (answer i)) → (n : ℕ) → Told (in_order answer n)
unfolding in_order
told_order answer h zero = λ e. refl
told_order answer h (suc n) = told_then (in_order answer n) (answer n) (told_order answer h n) (h n)

fault_then : (a b : Answer Unit) → Told a → fault_of (a ⨾ b) ≡ cond (eqb (fault_of a) 0) (fault_of b) (fault_of a)
unfolding ◌⨾◌
fault_then (accepted u) b h = refl
fault_then (refused n vs) b h = go (eqb n 0) refl
  where
    go : (t : Bool) → eqb n 0 ≡ t → n ≡ cond t (fault_of b) n
    go true e = absurd (let w = h (eqb-true n 0 e) in let z : ◌≡◌ {A = ℕ} 0 1 = cc in omega arith)
    go false e = refl

-- answers that agree below n
order_same : (f g : ℕ → Answer Unit) (n : ℕ) → ((i : ℕ) → i < n → f i ≡ g i) → in_order f n ≡ in_order g n
unfolding in_order
order_same f g zero h = refl
order_same f g (suc n) h = let e = order_same f g n (λ i q. h i (omega arith)) in rw (e, h n (omega arith))

-- tests that agree below n
some_same : (f g : ℕ → Bool) (n : ℕ) → ((i : ℕ) → i < n → f i ≡ g i) → some f n ≡ some g n
unfolding some
some_same f g zero h = refl
some_same f g (suc n) h = let e = some_same f g n (λ i q. h i (omega arith)) in rw (e, h n (omega arith))

-- THE KEY FACT: a block that is not the last any more has the fault that it had as the last, and none is found but 21 for a used count that is not 124
inner_then : (w k n r p q : Bool) → (p ≡ true → q ≡ true)
    → (refuse 20 w ⨾ refuse 21 (k || n || q || r)) ≡ ((refuse 20 w ⨾ refuse 21 (k || n || p || r)) ⨾ refuse 21 q)
unfolding ◌⨾◌ refuse
inner_then true k n r p q h = refl
inner_then false true n r p q h = refl
inner_then false false true r p q h = refl
inner_then false false false r true q h = rw (h refl)
inner_then false false false true false true h = refl
inner_then false false false true false false h = refl
inner_then false false false false false true h = refl
inner_then false false false false false false h = refl

used_other : (u : ℕ) → (ltb u 1 || ltb 124 u) ≡ true → not (eqb u 124) ≡ true
used_other u t = go (eqb u 124) refl
  where
    go : (b : Bool) → eqb u 124 ≡ b → not b ≡ true
    go true e =
        let z : u ≡ 124 = eqb-true u 124 e in
        true_false (sym t ∙ or_none (ltb u 1) (ltb 124 u) (le-ltb u 1 (omega arith)) (le-ltb 124 u (omega arith)))
    go false e = refl

-- ---- block b of x and block c of y have the same words
abbrev pub Same : List ℕ → ℕ → List ℕ → ℕ → Type 0
Same x b y c = (k : ℕ) → k < 128 → block_word x b k ≡ block_word y c k

module _ (x : List ℕ) (b : ℕ) (y : List ℕ) (c : ℕ) (s : Same x b y c) where
  check_same : wrong_check x b ≡ wrong_check y c
  unfolding wrong_check
  check_same = ap (λ (l : List ℕ). not (eqb (wrapping_sum l) all_ones)) (list_same (block_word x b) (block_word y c) 128 s)

  rest_same : rest_not_zero x b ≡ rest_not_zero y c
  unfolding rest_not_zero
  rest_same =
      let u = s 2 (omega arith) in
      rw u (some_same (unused_word x b) (unused_word y c) (124 - used_in y c) (λ i h. rw (u, s (3 + (used_in y c + i)) (omega arith))))

-- ---- words of a list behind another
word_front : (xs ys : List ℕ) (i : ℕ) → i + 3 < length xs → word_from (xs ++ ys) i ≡ word_from xs i
unfolding word_from
word_front xs ys i h =
    rw (get_or-append xs ys 0 i (omega arith), get_or-append xs ys 0 (i + 1) (omega arith), get_or-append xs ys 0 (i + 2) (omega arith), get_or-append xs ys 0 (i + 3) (omega arith))

pub front_same : (x y : List ℕ) (b : ℕ) → 512 * b + 512 ≤ length x → Same (x ++ y) b x b
unfolding block_word
front_same x y b h k g = word_front x y (4 * (128 * b + k)) (omega arith)

pub behind_same : (x y : List ℕ) (b c n : ℕ) → length x ≡ 512 * n → b ≡ n + c → Same (x ++ y) b y c
unfolding block_word
behind_same x y b c n l e k g =
    let z : 4 * (128 * b + k) ≡ length x + 4 * (128 * c + k) = omega arith in
    ap (word_from (x ++ y)) z ∙ word_behind x y (4 * (128 * c + k))

-- ---- what is kept, field by field
pub framed_same : {a b c d e f g h : ℕ} → a ≡ e → b ≡ f → c ≡ g → d ≡ h
    → ◌≡◌ {A = Framed} (record { blocks = a; kind = b; used = c; fault = d }) (record { blocks = e; kind = f; used = g; fault = h })
framed_same p q r s = rw (p, q, r, s)

-- ---- no answer to a frame has the number 0
told_block : (low high : ℕ) (bytes : List ℕ) (i : ℕ) → Told (block_answer low high bytes i)
unfolding block_answer
told_block low high bytes i = told_then _ _ (told_refuse 19 (wrong_check bytes i)) (told_refuse 20 (bad_frame low high bytes i))

told_frame : (low high : ℕ) (bytes : List ℕ) → Told (frame_answer low high bytes)
unfolding frame_answer
told_frame low high bytes =
    told_then _ _ (told_refuse 20 (wrong_length bytes)) (told_order (block_answer low high bytes) (told_block low high bytes) (block_count bytes))

-- ---- n blocks, and one behind them
module _ (low high n : ℕ) (bytes block : List ℕ) (l : length bytes ≡ 512 * n) (s : length block ≡ 512) where
  count_before : block_count bytes ≡ n
  count_before = omega arith

  count_after : block_count (bytes ++ block) ≡ suc n
  count_after = let e = length-append bytes block in omega arith

  before : (b : ℕ) → b < n → Same (bytes ++ block) b bytes b
  before b h = front_same bytes block b (omega arith)

  added : Same (bytes ++ block) n block 0
  added = behind_same bytes block n 0 n l (omega arith)

  -- a block that was not the last before is judged as it was
  inner_same : (b : ℕ) → suc b < n → block_answer low high (bytes ++ block) b ≡ block_answer low high bytes b
  unfolding block_answer bad_frame wrong_kind wrong_used
  inner_same b h =
      let w = before b (omega arith) in
      let c = count_before in
      let d = count_after in
      rw (check_same (bytes ++ block) b bytes b w, rest_same (bytes ++ block) b bytes b w, w 0 (omega arith), w 1 (omega arith), w 2 (omega arith), before 0 (omega arith) 0 (omega arith), lt-ltb (b + 1) (block_count (bytes ++ block)) (omega arith), lt-ltb (b + 1) (block_count bytes) (omega arith))

  -- the one that was the last
  last_then : (m : ℕ) → n ≡ suc m → block_answer low high (bytes ++ block) m ≡ (block_answer low high bytes m ⨾ refuse 21 (not (eqb (used_in bytes m) 124)))
  unfolding block_answer bad_frame wrong_kind wrong_used
  last_then m e =
      let w = before m (omega arith) in
      let c = count_before in
      let d = count_after in
      rw (check_same (bytes ++ block) m bytes m w, rest_same (bytes ++ block) m bytes m w, w 0 (omega arith), w 1 (omega arith), w 2 (omega arith), before 0 (omega arith) 0 (omega arith), lt-ltb (m + 1) (block_count (bytes ++ block)) (omega arith), le-ltb (m + 1) (block_count bytes) (omega arith))
      (inner_then (wrong_check bytes m) (other_kind low high (kind_in bytes m) || not (eqb (kind_in bytes m) (kind_in bytes 0))) (not (eqb (number_in bytes m) m)) (rest_not_zero bytes m) (ltb (used_in bytes m) 1 || ltb 124 (used_in bytes m)) (not (eqb (used_in bytes m) 124)) (used_other (used_in bytes m)))

  -- the one that is added
  added_is : block_answer low high (bytes ++ block) n ≡ last_answer low high (kind_in (bytes ++ block) 0) n block
  unfolding block_answer bad_frame wrong_kind wrong_used last_answer last_bad
  added_is =
      let d = count_after in
      rw (check_same (bytes ++ block) n block 0 added, rest_same (bytes ++ block) n block 0 added, added 0 (omega arith), added 1 (omega arith), added 2 (omega arith), le-ltb (n + 1) (block_count (bytes ++ block)) (omega arith), le-ltb (0 + 1) (block_count block) (omega arith))

  first_is : kind_in (bytes ++ block) 0 ≡ cond (eqb n 0) (kind_in block 0) (kind_in bytes 0)
  first_is = go (eqb n 0) refl
    where
      go : (t : Bool) → eqb n 0 ≡ t → kind_in (bytes ++ block) 0 ≡ cond t (kind_in block 0) (kind_in bytes 0)
      go true e = let z = eqb-true n 0 e in behind_same bytes block 0 0 n l (omega arith) 0 (omega arith)
      go false e = let z = eqb-false n 0 e in before 0 (omega arith) 0 (omega arith)

  -- the blocks so far, all of them inner ones now
  order_is : in_order (block_answer low high (bytes ++ block)) n ≡ (in_order (block_answer low high bytes) n ⨾ refuse 21 (not (eqb n 0) && not (eqb (used_in bytes (n - 1)) 124)))
  unfolding in_order ◌⨾◌ refuse
  order_is = go n refl
    where
      go : (k : ℕ) → n ≡ k
          → in_order (block_answer low high (bytes ++ block)) k ≡ (in_order (block_answer low high bytes) k ⨾ refuse 21 (not (eqb k 0) && not (eqb (used_in bytes (k - 1)) 124)))
      go zero e = refl
      go (suc m) e =
          let z : suc m - 1 ≡ m = omega arith in
          rw (ne_eqb (suc m) 0 (λ q. omega arith), z, order_same (block_answer low high (bytes ++ block)) (block_answer low high bytes) m (λ i h. inner_same i (omega arith)), last_then m e)
          (sym (then_assoc (in_order (block_answer low high bytes) m) (block_answer low high bytes m) (refuse 21 (not (eqb (used_in bytes m) 124)))))

  fault_is : fault_of (in_order (block_answer low high (bytes ++ block)) (suc n)) ≡ next_fault low high (framed_of low high bytes) (kind_in (bytes ++ block) 0) block
  unfolding in_order next_fault short_before framed_of
  fault_is =
      rw (count_before, order_is, added_is, then_assoc (in_order (block_answer low high bytes) n) (refuse 21 (not (eqb n 0) && not (eqb (used_in bytes (n - 1)) 124))) (last_answer low high (kind_in (bytes ++ block) 0) n block))
      (fault_then (in_order (block_answer low high bytes) n) _ (told_order (block_answer low high bytes) (told_block low high bytes) n))

  -- ONE BLOCK MORE
  pub one_more_lem : framed_of low high (bytes ++ block) ≡ one_more low high (framed_of low high bytes) block
  unfolding framed_of one_more first_kind
  one_more_lem =
      let z : suc n - 1 ≡ n = omega arith in
      let k : kind_in (bytes ++ block) 0 ≡ first_kind (framed_of low high bytes) block = rw count_before first_is in
      framed_same (count_after ∙ (sym (add-one n) ∙ ap (λ (x : ℕ). x + 1) (sym count_before))) k
      (ap (λ (x : ℕ). used_in (bytes ++ block) (x - 1)) count_after ∙ (ap (used_in (bytes ++ block)) z ∙ added 2 (omega arith)))
      (ap (λ (x : ℕ). fault_of (in_order (block_answer low high (bytes ++ block)) x)) count_after ∙ (fault_is ∙ ap (λ (x : ℕ). next_fault low high (framed_of low high bytes) x block) k))

-- before the first block
pub none_is : (low high : ℕ) → record { blocks = 0; kind = 0; used = 0; fault = 0 } ≡ framed_of low high []
unfolding framed_of block_word word_from in_order
none_is low high = refl

-- what the code leaves, of the bytes that what it was given is of
pub next_is : (low high : ℕ) (framed : Framed) (bytes block : List ℕ) → length block ≡ 512 → length bytes ≡ 512 * framed.blocks → framed ≡ framed_of low high bytes
    → one_more low high framed block ≡ framed_of low high (bytes ++ block)
next_is low high framed bytes block s l e = ap (λ (x : Framed). one_more low high x block) e ∙ sym (one_more_lem low high framed.blocks bytes block l s)

-- ---- THE ANSWER AT THE END, with less than a block behind the whole ones
empty_is : (l : List ℕ) → length l ≡ 0 → l ≡ []
empty_is [] e = refl
empty_is (x ∷ l) e = absurd (omega arith)

module _ (low high : ℕ) (framed : Framed) (left : ℕ) (bytes rest : List ℕ) (l : length bytes ≡ 512 * framed.blocks) (e : framed ≡ framed_of low high bytes) (r : length rest ≡ left) (s : left < 512) where
  whole : left ≡ 0 → bytes ++ rest ≡ bytes
  whole z = ap (λ (x : List ℕ). bytes ++ x) (empty_is rest (r ∙ z)) ∙ append-nil bytes

  length_is : length (bytes ++ rest) ≡ 512 * framed.blocks + left
  length_is = let a = length-append bytes rest in omega arith

  wrong_length_lem : wrong_length (bytes ++ rest) ≡ (eqb framed.blocks 0 || not (eqb left 0))
  unfolding wrong_length
  wrong_length_lem = go (eqb left 0) refl (eqb framed.blocks 0) refl
    where
      go : (t : Bool) → eqb left 0 ≡ t → (u : Bool) → eqb framed.blocks 0 ≡ u → (eqb (length (bytes ++ rest)) 0 || not (eqb (length (bytes ++ rest) % 512) 0)) ≡ (u || not t)
      go false p true q = let z = eqb-false left 0 p in or_right (eqb (length (bytes ++ rest)) 0) _ (differs (length (bytes ++ rest) % 512) 0 (λ a. omega (arith, length_is)))
      go false p false q = let z = eqb-false left 0 p in or_right (eqb (length (bytes ++ rest)) 0) _ (differs (length (bytes ++ rest) % 512) 0 (λ a. omega (arith, length_is)))
      go true p true q = let z = eqb-true left 0 p in let b = eqb-true framed.blocks 0 q in or_left (eqb (length (bytes ++ rest)) 0) _ (eq-eqb (length (bytes ++ rest)) 0 (omega (arith, length_is)))
      go true p false q =
          let z = eqb-true left 0 p in
          let b = eqb-false framed.blocks 0 q in
          or_none _ _ (ne_eqb (length (bytes ++ rest)) 0 (λ a. omega (arith, length_is))) (differs_not (length (bytes ++ rest) % 512) 0 (omega (arith, length_is)))

  pub answer_is : answer_in framed left ≡ fault_of (frame_answer low high (bytes ++ rest))
  unfolding answer_in frame_answer framed_of ◌⨾◌ refuse
  answer_is = go (eqb framed.blocks 0 || not (eqb left 0)) refl
    where
      go : (t : Bool) → (eqb framed.blocks 0 || not (eqb left 0)) ≡ t
          → cond t 21 framed.fault ≡ fault_of (refuse 21 (wrong_length (bytes ++ rest)) ⨾ in_order (block_answer low high (bytes ++ rest)) (block_count (bytes ++ rest)))
      go true p = rw (wrong_length_lem ∙ p)
      go false p =
          let z : left ≡ 0 = same_of left 0 (neither (eqb framed.blocks 0) (not (eqb left 0)) p).1 in
          rw (wrong_length_lem ∙ p, whole z) (ap (λ (x : Framed). x.fault) e)

-- how many words the payload has
pub payload_is : (low high : ℕ) (framed : Framed) (bytes : List ℕ) → framed ≡ framed_of low high bytes → payload_words framed ≡ payload_length bytes
unfolding payload_words payload_length framed_of
payload_is low high framed bytes e = ap (λ (x : Framed). payload_words x) e

-- ---- A RENDERING

fault_refuse : (n : ℕ) (t : Bool) → cond t 0 n ≡ fault_of (refuse n (not t))
unfolding refuse
fault_refuse n true = refl
fault_refuse n false = refl

no_rest : (framed : Framed) (left : ℕ) → answer_in framed left ≡ 0 → left ≡ 0
unfolding answer_in
no_rest framed left = go (eqb left 0) refl
  where
    go : (t : Bool) → eqb left 0 ≡ t → cond (eqb framed.blocks 0 || not t) 21 framed.fault ≡ 0 → left ≡ 0
    go true p q = eqb-true left 0 p
    go false p q = absurd (let z = cond_true (eqb framed.blocks 0 || true) 21 framed.fault (or_right (eqb framed.blocks 0) true refl) in omega arith)

pub rendering_is : (framed : Framed) (left samples : ℕ) (bytes rest : List ℕ) → length bytes ≡ 512 * framed.blocks → framed ≡ framed_of graph_kind step_kind bytes
    → length rest ≡ left → left < 512 → samples ≡ payload_word bytes 0 → rendering_answer_in framed left samples ≡ fault_of (rendering_frame (bytes ++ rest))
unfolding rendering_answer_in rendering_frame
rendering_is framed left samples bytes rest l e r s c =
    let a = answer_is graph_kind step_kind framed left bytes rest l e r s in
    cond_arms (eqb (answer_in framed left) 0) (λ t. ends (no_rest framed left (eqb-true _ 0 t))) (λ t. refl)
    ∙ rw a (sym (fault_then (frame_answer graph_kind step_kind (bytes ++ rest)) _ (told_frame graph_kind step_kind (bytes ++ rest))))
  where
    ends : left ≡ 0
        → cond (eqb (payload_words framed) (samples_at + samples)) 0 21
        ≡ fault_of (refuse 21 (not (eqb (payload_length (bytes ++ rest)) (samples_at + (rendering_in (bytes ++ rest)).samples))))
    ends z =
        rw (whole graph_kind step_kind framed left bytes rest l e r s z, payload_is graph_kind step_kind framed bytes e, c)
        (fault_refuse 21 (eqb (payload_length bytes) (samples_at + payload_word bytes 0)))

-- reading a rendering into a table answers so first
pub rendering_reads : (bytes samples : List ℕ)
    → read_rendering_answer bytes samples ≡ (rendering_frame bytes ⨾ (refuse 13 (ltb (length samples) (rendering_in bytes).samples) ⨾ accepted (rendering_in bytes)))
unfolding read_rendering_answer rendering_frame
rendering_reads bytes samples = sym (then_assoc (frame_answer graph_kind step_kind bytes) _ _)

-- the first block tells which engine made it and how many samples it has
pub rendering_head : (bytes rest : List ℕ) → 512 ≤ length bytes → rendering_in (bytes ++ rest) ≡ rendering_in bytes
unfolding payload_word
rendering_head bytes rest h = let w = front_same bytes rest 0 (omega arith) in rw (w 0 (omega arith), w 3 (omega arith))

-- A SAMPLE'S PLACE: sample i is payload word (i + 1) % 124 of block (i + 1) / 124
pub sample_place : (bytes : List ℕ) (i : ℕ) → payload_word bytes (samples_at + i) ≡ payload_in bytes ((i + 1) / 124) ((i + 1) % 124)
unfolding payload_word
sample_place bytes i = let z : samples_at + i ≡ i + 1 = omega arith in rw z

-- which needs no more of the file than that block
pub sample_in_block : (before block behind : List ℕ) (b i k : ℕ) → length before ≡ 512 * b → length block ≡ 512 → i + 1 ≡ 124 * b + k → k < 124
    → payload_word (before ++ (block ++ behind)) (samples_at + i) ≡ payload_word block k
unfolding payload_word
sample_in_block before block behind b i k l s e h =
    let q : (1 + i) / 124 ≡ b = omega arith in
    let m : (1 + i) % 124 ≡ k = omega arith in
    let y : k / 124 ≡ 0 = omega arith in
    let z : k % 124 ≡ k = omega arith in
    rw (q, m, y, z)
    (behind_same before (block ++ behind) b 0 b l (omega arith) (3 + k) (omega arith) ∙ front_same block behind 0 (omega arith) (3 + k) (omega arith))
