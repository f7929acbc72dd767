-- Document 01, "House file": what is kept of a file whose blocks are seen one after the other. Definitions alone.
use Rattle.std.specs.Prelude.{Bool, cond, not, ◌||◌, ◌&&◌, List, ℕ, ◌+◌, ◌-◌, ◌*◌, eqb}
use Rattle.answers.specs.Numbers.{Answer, accepted, refused}
use Rattle.answers.specs.Order.{◌⨾◌, refuse, in_order}
use Rattle.house.specs.Frame.{graph_kind, step_kind, block_count, kind_in, number_in, used_in, wrong_check, other_kind, wrong_used, rest_not_zero, block_answer, frame_answer, payload_length}
use Rattle.house.specs.Payload.{rendering_in, samples_at}
use Rattle.stream.specs.declared.Framed.{Framed}

-- the number of an answer, 0 where it is accepted
abbrev pub fault_of : Answer Unit → ℕ
fault_of (accepted u) = 0
fault_of (refused n vs) = n

-- WHAT IS KEPT of the whole blocks seen so far, where the reader takes the kinds from `low` to `high`: their count, the first one's kind, the used count of
-- the last, and the number of their first fault. "Blocks are judged in order": here the last one seen is judged as the last of the file
unfoldable pub framed_of : ℕ → ℕ → List ℕ → Framed
framed_of low high bytes =
    record {
      blocks = block_count bytes;
      kind = kind_in bytes 0;
      used = used_in bytes (block_count bytes - 1);
      fault = fault_of (in_order (block_answer low high bytes) (block_count bytes));
    }

-- ---- one block more, from what is kept and from that block alone

-- the first block's kind
unfoldable pub first_kind : Framed → List ℕ → ℕ
first_kind framed block = cond (eqb framed.blocks 0) (kind_in block 0) framed.kind

-- "Each block but the last uses 124": the one before does not
unfoldable pub short_before : Framed → Bool
short_before framed = not (eqb framed.blocks 0) && not (eqb framed.used 124)

-- the block as the last one, with its number and the first block's kind: "20 before 21 in each"
unfoldable pub last_bad : ℕ → ℕ → ℕ → ℕ → List ℕ → Bool
last_bad low high first number block =
    other_kind low high (kind_in block 0) || not (eqb (kind_in block 0) first) || not (eqb (number_in block 0) number) || wrong_used block 0 || rest_not_zero block 0

unfoldable pub last_answer : ℕ → ℕ → ℕ → ℕ → List ℕ → Answer Unit
last_answer low high first number block = refuse 20 (wrong_check block 0) ⨾ refuse 21 (last_bad low high first number block)

-- the fault so far, if there is one; else 21 where the block before is not the last; else the block's own
unfoldable pub next_fault : ℕ → ℕ → Framed → ℕ → List ℕ → ℕ
next_fault low high framed first block =
    cond (eqb framed.fault 0) (fault_of (refuse 21 (short_before framed) ⨾ last_answer low high first framed.blocks block)) framed.fault

unfoldable pub one_more : ℕ → ℕ → Framed → List ℕ → Framed
one_more low high framed block =
    record {
      blocks = framed.blocks + 1;
      kind = first_kind framed block;
      used = used_in block 0;
      fault = next_fault low high framed (first_kind framed block) block;
    }

-- ---- at the end of the file: so many bytes are left behind the last whole block

-- "A length of 0 or not a multiple of 512 is 21 before all"
unfoldable pub answer_in : Framed → ℕ → ℕ
answer_in framed left = cond (eqb framed.blocks 0 || not (eqb left 0)) 21 framed.fault

-- how many words the payload has
unfoldable pub payload_words : Framed → ℕ
payload_words framed = 124 * (framed.blocks - 1) + framed.used

-- ---- a rendering: its frame, "payload length last"
unfoldable pub rendering_frame : List ℕ → Answer Unit
rendering_frame bytes =
    frame_answer graph_kind step_kind bytes ⨾ refuse 21 (not (eqb (payload_length bytes) (samples_at + (rendering_in bytes).samples)))

unfoldable pub rendering_answer_in : Framed → ℕ → ℕ → ℕ
rendering_answer_in framed left samples =
    cond (eqb (answer_in framed left) 0) (cond (eqb (payload_words framed) (samples_at + samples)) 0 21) (answer_in framed left)
