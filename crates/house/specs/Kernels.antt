-- Document 01, "Small kernels", K: "block A, version 1, category 10, stereo, as a file: used 12, check 0xFFFFFFE6". Assumes nothing.
use Rattle.std.specs.Prelude.{◌≡◌, ℕ, ◌≤◌, List, [], ◌∷◌, length, refl}
use Rattle.std.proofs.Common.{sym, arith}
use Rattle.tables.specs.Loops.{some, sum}
use Rattle.tables.specs.Parts.{part}
use Rattle.tables.specs.Zeros.{copied}
use Rattle.answers.specs.Numbers.{accepted}
use Rattle.answers.specs.Order.{◌⨾◌, refuse, refuse_at, in_order}
use Rattle.block.specs.Block.{Block, block}
use Rattle.block.specs.Limits.{code_needs_two, category_needs_two}
use Rattle.block.specs.Kinds.{kind_of, node_length}
use Rattle.block.specs.Validation.{malformed_node, malformed_header, malformed, unknown_version, network_not_allowed, network_flag_clear, needs_version_two, too_large, operand_not_below, words_answer, node_answer, records_answer, validation}
use Rattle.house.specs.Bytes.{total}
use Rattle.house.specs.Frame.{block_word, used_in}
use Rattle.house.specs.File.{share}
use Rattle.house.specs.Payload.{block_payload, block_file}
use Rattle.house.specs.ReadBack.{word_is}
use Rattle.house.specs.FileLaws.{file_length}
use Rattle.house.specs.Write.{outcome, write_block_call}
use Rattle.house.specs.WriteLaws.{block_written}

-- "A* nodes: input; output 0"
abbrev pub block_a : Block
block_a = block (record { version = 1; category = 10; channels = 0; network = 0; output = 0 }) [] [] [] (0 ∷ 0 ∷ 0 ∷ [])

-- it is valid
pub valid_A : validation block_a ≡ accepted tt
unfolding validation records_answer malformed malformed_node malformed_header unknown_version network_not_allowed network_flag_clear needs_version_two too_large operand_not_below words_answer node_answer kind_of node_length code_needs_two category_needs_two some sum in_order refuse refuse_at ◌⨾◌
valid_A = refl

-- K: its file is written as one block, with this used count and this check
pub record KernelK : Type 0 where
  pub written : (bytes : List ℕ) → 512 ≤ length bytes → write_block_call block_a bytes ≡ outcome (accepted 512) (copied (block_file block_a) bytes)
  pub bytes : length (block_file block_a) ≡ 512
  pub used : used_in (block_file block_a) 0 ≡ 12
  pub check : block_word (block_file block_a) 0 127 ≡ 0xFFFFFFE6

last_word : block_word (block_file block_a) 0 127 ≡ 4294967270
unfolding share part total
last_word = word_is 1 (block_payload block_a) 0 (omega arith) 127 (omega arith)

used_count : used_in (block_file block_a) 0 ≡ 12
unfolding share part
used_count = word_is 1 (block_payload block_a) 0 (omega arith) 2 (omega arith)

pub K : KernelK
K =
    record {
      written = λ bytes h. sym (block_written block_a bytes valid_A 512 refl h refl refl);
      bytes = file_length 1 (block_payload block_a);
      used = used_count;
      check = last_word;
    }
