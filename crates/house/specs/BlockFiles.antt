-- Document 01, "House file": "Reading back gives the same tables, and no other bytes do", of an effect block. Assumes nothing.
use Rattle.std.specs.Prelude.{◌≡◌, ℕ, ◌+◌, ◌-◌, ◌*◌, ◌<◌, false, List, ◌++◌, length, take, slice_index, refl}
use Rattle.std.proofs.Common.{sym, ap, ◌∙◌, append_assoc, arith, ltb-false}
use Rattle.tables.specs.Tests.{same_of}
use Rattle.tables.specs.Stores.{Each}
use Rattle.tables.specs.Zeros.{copied}
use Rattle.tables.specs.Lists.{list_of, list_length}
use Rattle.answers.specs.Numbers.{accepted}
use Rattle.answers.specs.OrderLaws.{then_accepted, refuse_accepted}
use Rattle.block.specs.Block.{Block, parameter_count, state_count, delay_count, node_count}
use Rattle.block.specs.Validation.{validation}
use Rattle.block.specs.Valid as Valids
use Rattle.block.specs.Valid.{valid}
use Rattle.house.specs.Generic.{copied_first, list_add}
use Rattle.house.specs.declared.Contents.{Contents}
use Rattle.house.specs.Frame.{effect_kind, kind_in, payload_length, payload_word, payload_from, section}
use Rattle.house.specs.Framed.{Framed, framed}
use Rattle.house.specs.File.{file_of}
use Rattle.house.specs.FileLaws.{file_length}
use Rattle.house.specs.Payload.{contents_in, parameters_at, states_at, delays_at, nodes_at, contents_end, contents_of, head_words, effect_payload, block_payload, block_file}
use Rattle.house.specs.Read.{Tables, tables, tables_short, read_block_answer, read_tables, BlockOutcome, block_outcome, read_block_call}
use Rattle.house.specs.ReadLaws.{block_done, Room, tables_room, tables_read}
use Rattle.house.specs.Write.{written_bytes, block_bytes, write_block_answer, write_block_call}
use Rattle.house.specs.WriteLaws.{payload_count}
use Rattle.house.specs.Gather.{word_parameter, word_state, word_delay, word_node}
use Rattle.house.specs.ReadBack.{frame_accepted, payload_length_is, payload_word_is}
use Rattle.house.specs.Canonical.{Byte, payload_of, canonical}
use Rattle.house.specs.RenderingFiles.{section_is}

-- ---- a block's file as it is read. The tables are whole records, as those of a valid block are
module _ (b : Block) (v : Valids.Valid b) where
  length_is : length (block_payload b) ≡ 9 + length b.parameters + length b.states + length b.delays + length b.nodes
  length_is = payload_count (contents_of b) b.parameters b.states b.delays b.nodes

  word_is : (i : ℕ) → i < length (block_payload b) → payload_word (block_file b) i ≡ slice_index (block_payload b) i
  word_is i h = payload_word_is effect_kind (block_payload b) i h

  contents_is : contents_in (block_file b) ≡ contents_of b
  contents_is =
      let n = length_is in
      rw (
        word_is 0 (omega arith),
        word_is 1 (omega arith),
        word_is 2 (omega arith),
        word_is 3 (omega arith),
        word_is 4 (omega arith),
        word_is 5 (omega arith),
        word_is 6 (omega arith),
        word_is 7 (omega arith),
        word_is 8 (omega arith),
      )

  parameters_are : section (block_file b) parameters_at (3 * parameter_count b) ≡ b.parameters
  parameters_are =
      let n = length_is in
      let w = v.whole_parameters in
      section_is (block_file b) 9 (3 * parameter_count b) b.parameters (omega arith)
      (λ j g. let z : 9 + j - 9 ≡ j = omega arith in
      word_is (9 + j) (omega arith)
      ∙ (sym (word_parameter (contents_of b) b.parameters b.states b.delays b.nodes (9 + j) (omega arith) (omega arith)) ∙ ap (λ (i : ℕ). slice_index b.parameters i) z))

  states_are : section (block_file b) (states_at (contents_of b)) (2 * state_count b) ≡ b.states
  states_are =
      let n = length_is in
      let p = v.whole_parameters in
      let w = v.whole_states in
      section_is (block_file b) (9 + 3 * parameter_count b) (2 * state_count b) b.states (omega arith)
      (λ j g. let z : 9 + 3 * parameter_count b + j - 9 - length b.parameters ≡ j = omega arith in
      word_is (9 + 3 * parameter_count b + j) (omega arith)
      ∙ (sym (word_state (contents_of b) b.parameters b.states b.delays b.nodes (9 + 3 * parameter_count b + j) (omega arith) (omega arith) (omega arith)) ∙ ap (λ (i : ℕ). slice_index b.states i) z))

  delays_are : section (block_file b) (delays_at (contents_of b)) (2 * delay_count b) ≡ b.delays
  delays_are =
      let n = length_is in
      let p = v.whole_parameters in
      let s = v.whole_states in
      let w = v.whole_delays in
      section_is (block_file b) (9 + 3 * parameter_count b + 2 * state_count b) (2 * delay_count b) b.delays (omega arith)
      (λ j g. let z : 9 + 3 * parameter_count b + 2 * state_count b + j - 9 - length b.parameters - length b.states ≡ j = omega arith in
      word_is (9 + 3 * parameter_count b + 2 * state_count b + j) (omega arith)
      ∙ (sym (word_delay (contents_of b) b.parameters b.states b.delays b.nodes (9 + 3 * parameter_count b + 2 * state_count b + j) (omega arith) (omega arith) (omega arith) (omega arith))
      ∙ ap (λ (i : ℕ). slice_index b.delays i) z))

  nodes_are : section (block_file b) (nodes_at (contents_of b)) (3 * node_count b) ≡ b.nodes
  nodes_are =
      let n = length_is in
      let p = v.whole_parameters in
      let s = v.whole_states in
      let d = v.whole_delays in
      let w = v.whole_nodes in
      section_is (block_file b) (9 + 3 * parameter_count b + 2 * state_count b + 2 * delay_count b) (3 * node_count b) b.nodes (omega arith)
      (λ j g. let z : 9 + 3 * parameter_count b + 2 * state_count b + 2 * delay_count b + j - 9 - length b.parameters - length b.states - length b.delays ≡ j = omega arith in
      word_is (9 + 3 * parameter_count b + 2 * state_count b + 2 * delay_count b + j) (omega arith)
      ∙ (sym (word_node (contents_of b) b.parameters b.states b.delays b.nodes (9 + 3 * parameter_count b + 2 * state_count b + 2 * delay_count b + j) (omega arith) (omega arith) (omega arith) (omega arith))
      ∙ ap (λ (i : ℕ). slice_index b.nodes i) z))

-- ---- READING BACK AN EFFECT BLOCK gives its header, its counts and its tables
pub read_back_block : (b : Block) (t : Tables) → validation b ≡ accepted tt → tables_short (contents_of b) t ≡ false
    → read_block_call (block_file b) t
    ≡ block_outcome (accepted (contents_of b)) (tables (copied b.parameters t.parameters) (copied b.states t.states) (copied b.delays t.delays) (copied b.nodes t.nodes))
read_back_block b t a h =
    let v = valid b a in
    let n = length_is b v in
    let p = v.whole_parameters in
    let s = v.whole_states in
    let d = v.whole_delays in
    let w = v.whole_nodes in
    sym
    (block_done (block_file b) t (frame_accepted effect_kind effect_kind effect_kind (block_payload b) (omega arith) (omega arith) (omega arith)) (contents_of b) (contents_end (contents_of b))
    (length (block_payload b)) (sym (contents_is b v)) refl (sym (payload_length_is effect_kind (block_payload b) (omega arith))) (omega arith) h
    (tables_read (block_file b) (contents_of b) t {x = states_at (contents_of b)} {y = delays_at (contents_of b)} {z = nodes_at (contents_of b)}
    (ap (λ (l : List ℕ). copied l t.parameters) (sym (parameters_are b v))) refl (ap (λ (l : List ℕ). copied l t.states) (sym (states_are b v))) refl
    (ap (λ (l : List ℕ). copied l t.delays) (sym (delays_are b v))) refl (ap (λ (l : List ℕ). copied l t.nodes) (sym (nodes_are b v)))))

-- the file is what the first bytes of a buffer are after writing, and what is written is valid
pub written_block : (b : Block) (bytes : List ℕ) (n : ℕ) → (write_block_call b bytes).answer ≡ accepted n
    → (validation b ≡ accepted tt) × (take n (write_block_call b bytes).bytes ≡ block_file b)
unfolding write_block_call write_block_answer written_bytes
written_block b bytes n a =
    let p = then_accepted _ _ a in
    let q = then_accepted _ _ p.1 in
    let r : block_bytes b ≡ n = cc in
    let l = file_length effect_kind (block_payload b) in
    (p.0, rw a (copied_first (block_file b) bytes n (l ∙ r) (rw (← r) (ltb-false _ _ (refuse_accepted 13 _ q.0)))))

pub read_after_write_block : (b : Block) (bytes : List ℕ) (t : Tables) (n : ℕ) → (write_block_call b bytes).answer ≡ accepted n → tables_short (contents_of b) t ≡ false
    → read_block_call (take n (write_block_call b bytes).bytes) t
    ≡ block_outcome (accepted (contents_of b)) (tables (copied b.parameters t.parameters) (copied b.states t.states) (copied b.delays t.delays) (copied b.nodes t.nodes))
read_after_write_block b bytes t n a h =
    let w = written_block b bytes n a in
    ap (λ (x : List ℕ). read_block_call x t) w.1 ∙ read_back_block b t w.0 h

-- ---- what an accepted effect block is
pub record ReadsBlock (x : List ℕ) (t : Tables) (c : Contents) : Type 0 where
  pub frame : Framed effect_kind effect_kind x
  pub ends : payload_length x ≡ contents_end c
  pub room : Room c t
  pub says : c ≡ contents_in x

pub reads_block : (x : List ℕ) (t : Tables) (c : Contents) → read_block_answer x t ≡ accepted c → ReadsBlock x t c
unfolding read_block_answer
reads_block x t c a =
    let p = then_accepted _ _ a in
    let q = then_accepted _ _ p.1 in
    let o = then_accepted _ _ q.1 in
    let s : contents_in x ≡ c = cc in
    record {
      frame = framed effect_kind effect_kind x p.0;
      ends = same_of _ _ (refuse_accepted 21 _ q.0) ∙ ap contents_end s;
      room = tables_room c t (ap (λ (y : Contents). tables_short y t) (sym s) ∙ refuse_accepted 13 _ o.0);
      says = sym s;
    }

-- a file that reads as an effect block has kind 1
pub block_told : (x : List ℕ) (t : Tables) (c : Contents) → read_block_answer x t ≡ accepted c → kind_in x 0 ≡ effect_kind
block_told x t c a =
    let v = reads_block x t c a in
    let o = v.frame.some in
    let s = v.frame.sound 0 (omega arith) in
    let f = s.from in
    let u = s.up_to in
    omega arith

-- ---- NO OTHER BYTES: a file that reads as an effect block is the file of its header, counts and tables
heads : (x : List ℕ) → list_of (payload_word x) 9 ≡ head_words (contents_in x)
unfolding list_of
heads x = refl

payload_is : (x : List ℕ) (c : Contents) → c ≡ contents_in x → payload_length x ≡ contents_end c
    → payload_of x
    ≡ effect_payload c (section x parameters_at (3 * c.parameters)) (section x (states_at c) (2 * c.states)) (section x (delays_at c) (2 * c.delays)) (section x (nodes_at c) (3 * c.nodes))
payload_is x c e f =
    let h : list_of (payload_word x) 9 ≡ head_words c = heads x ∙ ap head_words (sym e) in
    let p1 = list_add (payload_word x) 9 (3 * c.parameters) in
    let p2 = list_add (payload_word x) (states_at c) (2 * c.states) in
    let p3 = list_add (payload_word x) (delays_at c) (2 * c.delays) in
    let p4 = list_add (payload_word x) (nodes_at c) (3 * c.nodes) in
    let s1 = section x parameters_at (3 * c.parameters) in
    let s2 = section x (states_at c) (2 * c.states) in
    let s3 = section x (delays_at c) (2 * c.delays) in
    let s4 = section x (nodes_at c) (3 * c.nodes) in
    let q1 : list_of (payload_word x) (states_at c) ≡ head_words c ++ s1 = p1 ∙ ap (λ (l : List ℕ). l ++ s1) h in
    let q2 : list_of (payload_word x) (delays_at c) ≡ (head_words c ++ s1) ++ s2 = p2 ∙ ap (λ (l : List ℕ). l ++ s2) q1 in
    let q3 : list_of (payload_word x) (nodes_at c) ≡ ((head_words c ++ s1) ++ s2) ++ s3 = p3 ∙ ap (λ (l : List ℕ). l ++ s3) q2 in
    let q4 : list_of (payload_word x) (contents_end c) ≡ (((head_words c ++ s1) ++ s2) ++ s3) ++ s4 = p4 ∙ ap (λ (l : List ℕ). l ++ s4) q3 in
    ap (list_of (payload_word x)) f ∙ (q4 ∙ simp append_assoc)

pub only_block : (x : List ℕ) (t : Tables) (c : Contents) → Each Byte x → (read_block_call x t).answer ≡ accepted c
    → x
    ≡ file_of effect_kind
    (effect_payload c (take (3 * c.parameters) (read_block_call x t).tables.parameters) (take (2 * c.states) (read_block_call x t).tables.states)
    (take (2 * c.delays) (read_block_call x t).tables.delays) (take (3 * c.nodes) (read_block_call x t).tables.nodes))
unfolding read_block_call read_tables
only_block x t c h a =
    let v = reads_block x t c a in
    let r = v.room in
    let c1 = copied_first (section x parameters_at (3 * c.parameters)) t.parameters (3 * c.parameters) (list_length (payload_from x parameters_at) (3 * c.parameters)) r.parameters in
    let c2 = copied_first (section x (states_at c) (2 * c.states)) t.states (2 * c.states) (list_length (payload_from x (states_at c)) (2 * c.states)) r.states in
    let c3 = copied_first (section x (delays_at c) (2 * c.delays)) t.delays (2 * c.delays) (list_length (payload_from x (delays_at c)) (2 * c.delays)) r.delays in
    let c4 = copied_first (section x (nodes_at c) (3 * c.nodes)) t.nodes (3 * c.nodes) (list_length (payload_from x (nodes_at c)) (3 * c.nodes)) r.nodes in
    canonical effect_kind effect_kind x v.frame h
    ∙ (ap (file_of (kind_in x 0)) (payload_is x c v.says v.ends)
    ∙ rw (block_told x t c a, a, c1, c2, c3, c4))

pub no_other_block : (x y : List ℕ) (t : Tables) (c : Contents) → Each Byte x → Each Byte y → (read_block_call x t).answer ≡ accepted c → read_block_call x t ≡ read_block_call y t → x ≡ y
no_other_block x y t c h g a e =
    let b : (read_block_call y t).answer ≡ accepted c = ap (λ (o : BlockOutcome). o.answer) (sym e) ∙ a in
    only_block x t c h a
    ∙ (ap (λ (o : BlockOutcome). file_of effect_kind
    (effect_payload c (take (3 * c.parameters) o.tables.parameters) (take (2 * c.states) o.tables.states) (take (2 * c.delays) o.tables.delays) (take (3 * c.nodes) o.tables.nodes))) e
    ∙ sym (only_block y t c g b))
