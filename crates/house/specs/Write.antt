-- Document 01, "House file": writing an effect block and a rendering. "Writing validates"; "over 2^32-1 samples is 13". Definitions alone.
use Rattle.std.specs.Prelude.{ℕ, ◌||◌, List, length, nat_lt}
use Rattle.tables.specs.Zeros.{copied}
use Rattle.answers.specs.Numbers.{Answer, accepted, refused}
use Rattle.answers.specs.Order.{◌⨾◌, refuse}
use Rattle.block.specs.Block.{Block}
use Rattle.block.specs.Validation.{validation}
use Rattle.house.specs.declared.Engine.{Engine}
use Rattle.house.specs.File.{file_length}
use Rattle.house.specs.Payload.{block_payload, block_file, rendering_payload, rendering_file}

-- an accepted call answers how many bytes the file has
-- the file over the first bytes that were lent; those past it stay
unfoldable pub written_bytes : Answer ℕ → List ℕ → List ℕ → List ℕ
written_bytes (accepted count) file bytes = copied file bytes
written_bytes (refused n vs) file bytes = bytes

pub record Outcome : Type 0 where
  pub answer : Answer ℕ
  pub bytes : List ℕ

abbrev pub outcome : Answer ℕ → List ℕ → Outcome
outcome answer bytes = record { answer = answer; bytes = bytes }

-- ---- an effect block: "Writing validates", then 13 where the bytes are fewer than the file needs
abbrev pub block_bytes : Block → ℕ
block_bytes b = file_length (length (block_payload b))

unfoldable pub write_block_answer : Block → List ℕ → Answer ℕ
write_block_answer b bytes = validation b ⨾ refuse 13 (nat_lt (length bytes) (block_bytes b)) ⨾ accepted (block_bytes b)

unfoldable pub write_block_call : Block → List ℕ → Outcome
write_block_call b bytes =
    let answer = write_block_answer b bytes in
    outcome answer (written_bytes answer (block_file b) bytes)

-- ---- a rendering: "over 2^32-1 samples is 13". Which engine made it is a part of the call
abbrev pub most_samples : ℕ
most_samples = 4294967295

abbrev pub rendering_bytes : List ℕ → ℕ
rendering_bytes samples = file_length (length (rendering_payload samples))

unfoldable pub write_rendering_answer : List ℕ → List ℕ → Answer ℕ
write_rendering_answer samples bytes =
    refuse 13 (nat_lt most_samples (length samples) || nat_lt (length bytes) (rendering_bytes samples)) ⨾ accepted (rendering_bytes samples)

unfoldable pub write_rendering_call : Engine → List ℕ → List ℕ → Outcome
write_rendering_call engine samples bytes =
    let answer = write_rendering_answer samples bytes in
    outcome answer (written_bytes answer (rendering_file engine samples) bytes)
