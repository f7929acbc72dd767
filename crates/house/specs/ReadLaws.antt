-- The ways out of the two readers, each from the tests that lead to it. Assumes nothing.
use Rattle.std.specs.Prelude.{◌≡◌, ℕ, ◌+◌, ◌*◌, ◌<◌, ◌≤◌, true, false, not, List, [], length, ◌==◌, ◌≢◌, nat_lt, Result, Ok, Err, IsErrAnd}
use Rattle.std.proofs.Common.{sym, ◌∙◌, arith, lt-ltb, le-ltb, ltb-false}
use Rattle.std.proofs.Math.Path.{ap}
use Rattle.std.proofs.lemmas.Result.{err_from_is_err_and}
use Rattle.tables.specs.Tests.{differs, differs_not, neither}
use Rattle.tables.specs.Zeros.{copied}
use Rattle.answers.specs.declared.Refusal.{Refusal}
use Rattle.answers.specs.Numbers.{accepted, refused, refusal, answer_of}
use Rattle.answers.specs.OrderLaws.{then_stop, then_pass, refuse_stop, refuse_pass}
use Rattle.house.specs.declared.Contents.{Contents}
use Rattle.house.specs.declared.Engine.{Engine}
use Rattle.house.specs.Frame.{effect_kind, graph_kind, step_kind, block_count, kind_in, frame_answer, payload_length, section}
use Rattle.house.specs.Framed.{framed, payload_room}
use Rattle.house.specs.Payload.{contents_in, parameters_at, states_at, delays_at, nodes_at, contents_end, engine_of, rendering_in, samples_at}
use Rattle.house.specs.Read.{Tables, tables, tables_short, read_block_answer, read_tables, block_outcome, read_block_call, read_rendering_answer, read_samples, rendering_outcome, read_rendering_call}

-- what `?` returns for a refusal is that refusal
pub err_is : {A : Type 0} (r : Result A Refusal) (e : Refusal) → IsErrAnd r (λ y. y ≡ e) → answer_of r ≡ refusal e
err_is r e h = let p = err_from_is_err_and r h in rw (p.1, p.2)

-- a verdict that gives the frame's answer and is valid
pub frame_valid : (low high : ℕ) (bytes : List ℕ) {v : Result Unit Refusal} → answer_of v ≡ frame_answer low high bytes → v ≡ Ok tt → frame_answer low high bytes ≡ accepted tt
frame_valid low high bytes e k = sym e ∙ ap answer_of k

-- a valid frame has a first block
pub frame_long : (low high : ℕ) (bytes : List ℕ) → frame_answer low high bytes ≡ accepted tt → 512 ≤ length bytes
frame_long low high bytes e = let f = framed low high bytes e in let w = f.whole in let s = f.some in omega arith

-- ---- a rendering
module _ (bytes samples : List ℕ) where
  rendering_refused : {n : ℕ} {vs : List ℕ} → read_rendering_answer bytes samples ≡ refused n vs → rendering_outcome (refused n vs) samples ≡ read_rendering_call bytes samples
  unfolding read_rendering_call read_samples
  rendering_refused e = rw e

  pub rendering_frame : {v : Result Unit Refusal} {r : Refusal} → answer_of v ≡ frame_answer graph_kind step_kind bytes → v ≡ Err r
      → rendering_outcome (refusal r) samples ≡ read_rendering_call bytes samples
  unfolding read_rendering_answer
  rendering_frame e k = rendering_refused (then_stop _ (sym e ∙ ap answer_of k))

  -- w is the sample count and n the payload's length, as they were read
  module _ (v : frame_answer graph_kind step_kind bytes ≡ accepted tt) (w n : ℕ) (f : w ≡ (rendering_in bytes).samples) (g : n ≡ payload_length bytes) where
    pub rendering_length : (n ≢ samples_at + w) → rendering_outcome (refused 21 []) samples ≡ read_rendering_call bytes samples
    unfolding read_rendering_answer
    rendering_length h = rendering_refused (then_pass _ v ∙ refuse_stop 21 _ (rw (← f, ← g) (differs n (samples_at + w) h)))

    module _ (l : n ≡ samples_at + w) where
      rendering_ends : not (payload_length bytes == samples_at + (rendering_in bytes).samples) ≡ false
      rendering_ends = rw (← f, ← g) (differs_not n (samples_at + w) l)

      pub rendering_short : length samples < w → rendering_outcome (refused 13 []) samples ≡ read_rendering_call bytes samples
      unfolding read_rendering_answer
      rendering_short h = rendering_refused (then_pass _ v ∙ (refuse_pass 21 _ rendering_ends ∙ refuse_stop 13 _ (rw (← f) (lt-ltb (length samples) w h))))

      -- the samples lie in the blocks
      pub rendering_room : samples_at + w ≤ 124 * block_count bytes
      rendering_room = let r = payload_room graph_kind step_kind bytes (framed graph_kind step_kind bytes v) in omega arith

      pub rendering_done : {t : List ℕ} {k : ℕ} {e : Engine} → w ≤ length samples → t ≡ copied (section bytes samples_at w) samples → k ≡ kind_in bytes 0 → e ≡ engine_of k
          → rendering_outcome (accepted (record { engine = e; samples = w })) t ≡ read_rendering_call bytes samples
      unfolding read_rendering_call read_samples read_rendering_answer
      rendering_done h q i j =
          let a : read_rendering_answer bytes samples ≡ accepted (rendering_in bytes) =
          then_pass _ v ∙ (refuse_pass 21 _ rendering_ends ∙ refuse_pass 13 _ (rw (← f) (le-ltb (length samples) w h))) in
          rw (a, q, j, i, f)

-- ---- an effect block
module _ (bytes : List ℕ) (t : Tables) where
  block_refused : {n : ℕ} {vs : List ℕ} → read_block_answer bytes t ≡ refused n vs → block_outcome (refused n vs) t ≡ read_block_call bytes t
  unfolding read_block_call read_tables
  block_refused e = rw e

  pub block_frame : {v : Result Unit Refusal} {r : Refusal} → answer_of v ≡ frame_answer effect_kind effect_kind bytes → v ≡ Err r
      → block_outcome (refusal r) t ≡ read_block_call bytes t
  unfolding read_block_answer
  block_frame e k = block_refused (then_stop _ (sym e ∙ ap answer_of k))

  -- c is what the payload's first words say, e where it ends by them, and n its length, as they were read
  module _ (v : frame_answer effect_kind effect_kind bytes ≡ accepted tt) (c : Contents) (e n : ℕ) (f : c ≡ contents_in bytes) (k : e ≡ contents_end c) (g : n ≡ payload_length bytes) where
    pub block_length : (n ≢ e) → block_outcome (refused 21 []) t ≡ read_block_call bytes t
    unfolding read_block_answer
    block_length h = block_refused (then_pass _ v ∙ refuse_stop 21 _ (rw (← ap contents_end f, ← k, ← g) (differs n e h)))

    module _ (l : n ≡ e) where
      block_ends : not (payload_length bytes == contents_end (contents_in bytes)) ≡ false
      block_ends = rw (← ap contents_end f, ← k, ← g) (differs_not n e l)

      pub block_short : tables_short c t ≡ true → block_outcome (refused 13 []) t ≡ read_block_call bytes t
      unfolding read_block_answer
      block_short h = block_refused (then_pass _ v ∙ (refuse_pass 21 _ block_ends ∙ refuse_stop 13 _ (ap (λ (x : Contents). tables_short x t) (sym f) ∙ h)))

      -- the tables lie in the blocks
      pub block_room : contents_end c ≤ 124 * block_count bytes
      block_room = let r = payload_room effect_kind effect_kind bytes (framed effect_kind effect_kind bytes v) in omega arith

      pub block_done : {x : Tables} → tables_short c t ≡ false → x ≡ read_tables (accepted c) bytes t → block_outcome (accepted c) x ≡ read_block_call bytes t
      unfolding read_block_call read_block_answer
      block_done h q =
          let a : read_block_answer bytes t ≡ accepted c =
          then_pass _ v ∙ (refuse_pass 21 _ block_ends ∙ (refuse_pass 13 _ (ap (λ (x : Contents). tables_short x t) (sym f) ∙ h) ∙ ap accepted (sym f))) in
          rw (a, q)

-- ---- the four tables

-- where none is too short, each has room
pub record Room (c : Contents) (t : Tables) : Type 0 where
  pub parameters : 3 * c.parameters ≤ length t.parameters
  pub states : 2 * c.states ≤ length t.states
  pub delays : 2 * c.delays ≤ length t.delays
  pub nodes : 3 * c.nodes ≤ length t.nodes

pub tables_room : (c : Contents) (t : Tables) → tables_short c t ≡ false → Room c t
unfolding tables_short
tables_room c t e =
    let s1 = neither _ (nat_lt (length t.nodes) (3 * c.nodes)) e in
    let s2 = neither _ (nat_lt (length t.delays) (2 * c.delays)) s1.0 in
    let s3 = neither (nat_lt (length t.parameters) (3 * c.parameters)) (nat_lt (length t.states) (2 * c.states)) s2.0 in
    record { parameters = ltb-false _ _ s3.0; states = ltb-false _ _ s3.1; delays = ltb-false _ _ s2.1; nodes = ltb-false _ _ s1.1 }

pub tables_read : (bytes : List ℕ) (c : Contents) (t : Tables) {p s d n : List ℕ} {x y z : ℕ} → p ≡ copied (section bytes parameters_at (3 * c.parameters)) t.parameters
    → x ≡ states_at c → s ≡ copied (section bytes x (2 * c.states)) t.states → y ≡ delays_at c → d ≡ copied (section bytes y (2 * c.delays)) t.delays
    → z ≡ nodes_at c → n ≡ copied (section bytes z (3 * c.nodes)) t.nodes → tables p s d n ≡ read_tables (accepted c) bytes t
unfolding read_tables
tables_read bytes c t e f g h i j k = rw (e, g, f, i, h, k, j)
