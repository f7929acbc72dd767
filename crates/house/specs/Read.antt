-- Document 01, "House file": reading an effect block and a rendering. "Reading doesn't [validate] and changes only as many table words as the file holds".
-- Definitions alone.
use Rattle.std.specs.Prelude.{ℕ, ◌+◌, ◌*◌, Bool, not, ◌||◌, List, length, ◌==◌, nat_lt}
use Rattle.tables.specs.Zeros.{copied}
use Rattle.answers.specs.Numbers.{Answer, accepted, refused}
use Rattle.answers.specs.Order.{◌⨾◌, refuse}
use Rattle.house.specs.declared.Contents.{Contents}
use Rattle.house.specs.declared.Rendering.{Rendering}
use Rattle.house.specs.Frame.{effect_kind, graph_kind, step_kind, frame_answer, payload_length, section}
use Rattle.house.specs.Payload.{contents_in, parameters_at, states_at, delays_at, nodes_at, contents_end, rendering_in, samples_at}

-- ---- an effect block, into four lent tables
pub record Tables : Type 0 where
  pub parameters : List ℕ
  pub states : List ℕ
  pub delays : List ℕ
  pub nodes : List ℕ

abbrev pub tables : List ℕ → List ℕ → List ℕ → List ℕ → Tables
tables parameters states delays nodes = record { parameters = parameters; states = states; delays = delays; nodes = nodes }

-- 13: a lent table is shorter than the file needs
unfoldable pub tables_short : Contents → Tables → Bool
tables_short c t =
    nat_lt (length t.parameters) (3 * c.parameters)
    || nat_lt (length t.states) (2 * c.states)
    || nat_lt (length t.delays) (2 * c.delays)
    || nat_lt (length t.nodes) (3 * c.nodes)

-- "blocks are judged in order .. payload length last"; "file answers come before all others"
unfoldable pub read_block_answer : List ℕ → Tables → Answer Contents
read_block_answer bytes t =
    frame_answer effect_kind effect_kind bytes
    ⨾ refuse 21 (not (payload_length bytes == contents_end (contents_in bytes)))
    ⨾ refuse 13 (tables_short (contents_in bytes) t)
    ⨾ accepted (contents_in bytes)

-- "changes only as many table words as the file holds"
unfoldable pub read_tables : Answer Contents → List ℕ → Tables → Tables
read_tables (accepted c) bytes t =
    tables
    (copied (section bytes parameters_at (3 * c.parameters)) t.parameters)
    (copied (section bytes (states_at c) (2 * c.states)) t.states)
    (copied (section bytes (delays_at c) (2 * c.delays)) t.delays)
    (copied (section bytes (nodes_at c) (3 * c.nodes)) t.nodes)
read_tables (refused n vs) bytes t = t

pub record BlockOutcome : Type 0 where
  pub answer : Answer Contents
  pub tables : Tables

abbrev pub block_outcome : Answer Contents → Tables → BlockOutcome
block_outcome answer t = record { answer = answer; tables = t }

unfoldable pub read_block_call : List ℕ → Tables → BlockOutcome
read_block_call bytes t =
    let answer = read_block_answer bytes t in
    block_outcome answer (read_tables answer bytes t)

-- ---- a rendering of either engine, into one lent table
unfoldable pub read_rendering_answer : List ℕ → List ℕ → Answer Rendering
read_rendering_answer bytes samples =
    frame_answer graph_kind step_kind bytes
    ⨾ refuse 21 (not (payload_length bytes == samples_at + (rendering_in bytes).samples))
    ⨾ refuse 13 (nat_lt (length samples) (rendering_in bytes).samples)
    ⨾ accepted (rendering_in bytes)

unfoldable pub read_samples : Answer Rendering → List ℕ → List ℕ → List ℕ
read_samples (accepted r) bytes samples = copied (section bytes samples_at r.samples) samples
read_samples (refused n vs) bytes samples = samples

pub record RenderingOutcome : Type 0 where
  pub answer : Answer Rendering
  pub samples : List ℕ

abbrev pub rendering_outcome : Answer Rendering → List ℕ → RenderingOutcome
rendering_outcome answer samples = record { answer = answer; samples = samples }

unfoldable pub read_rendering_call : List ℕ → List ℕ → RenderingOutcome
read_rendering_call bytes samples =
    let answer = read_rendering_answer bytes samples in
    rendering_outcome answer (read_samples answer bytes samples)
