-- The ways out of the two writers, each from the tests that lead to it. Assumes nothing.
use Rattle.std.specs.Prelude.{◌≡◌, ℕ, ◌+◌, ◌*◌, ◌<◌, ◌≤◌, List, [], length, nat_lt, Result, Ok, Err}
use Rattle.std.proofs.Common.{sym, ◌∙◌, arith, length-append, lt-ltb, le-ltb}
use Rattle.std.proofs.Math.Path.{ap}
use Rattle.tables.specs.Tests.{or_left, or_right, or_none}
use Rattle.tables.specs.Zeros.{copied}
use Rattle.answers.specs.declared.Refusal.{Refusal}
use Rattle.answers.specs.Numbers.{accepted, refused, refusal, answer_of}
use Rattle.answers.specs.OrderLaws.{then_stop, then_pass, refuse_stop, refuse_pass}
use Rattle.block.specs.Block.{Block}
use Rattle.block.specs.Validation.{validation}
use Rattle.block.specs.Valid.{valid, node_limit}
use Rattle.house.specs.declared.Contents.{Contents}
use Rattle.house.specs.declared.Engine.{Engine}
use Rattle.house.specs.Frame.{effect_kind}
use Rattle.house.specs.File.{blocks_for, file_of, file_length}
use Rattle.house.specs.Payload.{contents_of, effect_payload, kind_of, rendering_payload}
use Rattle.house.specs.Write.{written_bytes, outcome, block_bytes, write_block_answer, write_block_call, most_samples, rendering_bytes, write_rendering_answer, write_rendering_call}

-- ---- a rendering
module _ (engine : Engine) (samples bytes : List ℕ) where
  refused_rendering : {n : ℕ} {vs : List ℕ} → write_rendering_answer samples bytes ≡ refused n vs → outcome (refused n vs) bytes ≡ write_rendering_call engine samples bytes
  unfolding write_rendering_call written_bytes
  refused_rendering e = rw e

  pub rendering_many : most_samples < length samples → outcome (refused 13 []) bytes ≡ write_rendering_call engine samples bytes
  unfolding write_rendering_answer
  rendering_many h = refused_rendering (refuse_stop 13 _ (or_left (nat_lt most_samples (length samples)) _ (lt-ltb _ _ h)))

  -- n is the file's length as the code counts it
  module _ (n : ℕ) (e : n ≡ rendering_bytes samples) where
    pub rendering_room : length bytes < n → outcome (refused 13 []) bytes ≡ write_rendering_call engine samples bytes
    unfolding write_rendering_answer
    rendering_room h = refused_rendering (refuse_stop 13 _ (or_right (nat_lt most_samples (length samples)) _ (rw (← e) (lt-ltb (length bytes) n h))))

    pub rendering_written : {k : ℕ} {t : List ℕ} → length samples ≤ most_samples → n ≤ length bytes → k ≡ kind_of engine → t ≡ copied (file_of k (rendering_payload samples)) bytes
        → outcome (accepted n) t ≡ write_rendering_call engine samples bytes
    unfolding write_rendering_call written_bytes write_rendering_answer
    rendering_written g h i j =
        let a : write_rendering_answer samples bytes ≡ accepted n =
        refuse_pass 13 _ (or_none (nat_lt most_samples (length samples)) _ (le-ltb _ _ g) (rw (← e) (le-ltb (length bytes) n h))) ∙ ap accepted (sym e) in
        rw (a, j, i)

-- ---- an effect block
-- what a valid block's lengths are within
pub record Small (p s d n : List ℕ) : Type 0 where
  pub parameters : length p ≤ 1000000
  pub states : length s ≤ 1000000
  pub delays : length d ≤ 1000000
  pub nodes : length n ≤ 1000000

pub small : (b : Block) → validation b ≡ accepted tt → Small b.parameters b.states b.delays b.nodes
small b e =
    let v = valid b e in
    let p = v.parameter_limit in
    let s = v.state_limit in
    let d = v.delay_limit in
    let n = node_limit b v in
    record { parameters = omega arith; states = omega arith; delays = omega arith; nodes = omega arith }

pub payload_count : (c : Contents) (p s d n : List ℕ) → length (effect_payload c p s d n) ≡ 9 + length p + length s + length d + length n
payload_count c p s d n = simp length-append (omega arith)

module _ (b : Block) (bytes : List ℕ) where
  refused_block : {n : ℕ} {vs : List ℕ} → write_block_answer b bytes ≡ refused n vs → outcome (refused n vs) bytes ≡ write_block_call b bytes
  unfolding write_block_call written_bytes
  refused_block e = rw e

  pub block_invalid : {v : Result Unit Refusal} {r : Refusal} → answer_of v ≡ validation b → v ≡ Err r → outcome (refusal r) bytes ≡ write_block_call b bytes
  unfolding write_block_answer
  block_invalid e k = refused_block (then_stop _ (sym e ∙ ap answer_of k))

  module _ (v : validation b ≡ accepted tt) (n : ℕ) (e : n ≡ block_bytes b) where
    pub block_short : length bytes < n → outcome (refused 13 []) bytes ≡ write_block_call b bytes
    unfolding write_block_answer
    block_short h = refused_block (then_pass _ v ∙ refuse_stop 13 _ (rw (← e) (lt-ltb (length bytes) n h)))

    -- c is what the code made of the header and the counts
    pub block_written : {c : Contents} {t : List ℕ} → n ≤ length bytes → c ≡ contents_of b
        → t ≡ copied (file_of effect_kind (effect_payload c b.parameters b.states b.delays b.nodes)) bytes → outcome (accepted n) t ≡ write_block_call b bytes
    unfolding write_block_call written_bytes write_block_answer
    block_written h k i =
        let a : write_block_answer b bytes ≡ accepted n =
        then_pass _ v ∙ (refuse_pass 13 _ (rw (← e) (le-ltb (length bytes) n h)) ∙ ap accepted (sym e)) in
        rw (a, i, k)

-- a verdict that gives validation's answer and is valid
pub block_valid : (b : Block) {v : Result Unit Refusal} → answer_of v ≡ validation b → v ≡ Ok tt → validation b ≡ accepted tt
block_valid b e k = sym e ∙ ap answer_of k

-- the file's length, from how many blocks q the code counts
pub block_need : (b : Block) (q : ℕ) → q ≡ blocks_for (9 + length b.parameters + length b.states + length b.delays + length b.nodes) → 512 * q ≡ block_bytes b
block_need b q e =
    let n = payload_count (contents_of b) b.parameters b.states b.delays b.nodes in
    ap (λ (x : ℕ). 512 * x) e ∙ ap (λ (x : ℕ). 512 * blocks_for x) (sym n)

pub tables_need : (c : Contents) (p s d n : List ℕ) (q m : ℕ) → q ≡ blocks_for (9 + length p + length s + length d + length n) → 512 * q ≤ m
    → file_length (length (effect_payload c p s d n)) ≤ m
tables_need c p s d n q m e h = rw (payload_count c p s d n, ← e) h
