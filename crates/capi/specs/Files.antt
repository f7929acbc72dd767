-- How house files cross to C: what a file says besides its tables goes into the answer words, and how many bytes a written file has.
use Rattle.std.specs.Prelude.{◌≡◌, refl, List, [], ◌∷◌, ℕ, ◌/◌, ◌%◌, set}
use Rattle.tables.specs.Zeros.{copied}
use Rattle.answers.specs.Numbers.{Answer}
use Rattle.house.specs.declared.Contents.{Contents}
use Rattle.house.specs.declared.Rendering.{Rendering}
use Rattle.house.specs.Payload.{kind_of}
use Rattle.house.specs.Read.{Tables, BlockOutcome, block_outcome, RenderingOutcome, rendering_outcome}
use Rattle.house.specs.Write.{Outcome, outcome}
use Rattle.capi.specs.Crossing.{Crossing, answer_crossing, header}
use Rattle.capi.specs.Runs.{Crossed, crossed, crosses}

-- "version, category, channels, network flag, output", then the number of records of each table
abbrev pub contents_words : Contents → List ℕ
contents_words c =
    c.header.version
    ∷ c.header.category
    ∷ c.header.channels
    ∷ c.header.network
    ∷ c.header.output
    ∷ c.parameters
    ∷ c.states
    ∷ c.delays
    ∷ c.nodes
    ∷ []

-- of an effect block that is read: these words over the first answer words
abbrev pub contents_put : Contents → List ℕ → List ℕ
contents_put c lent = copied (contents_words c) lent

abbrev pub contents_crossing : Answer Contents → List ℕ → Crossing
contents_crossing = answer_crossing contents_put

abbrev pub read_block_crossing : BlockOutcome → List ℕ → Crossed Tables
read_block_crossing o lent = crossed (contents_crossing o.answer lent) o.tables

-- of a rendering that is read: "2 graph rendering, 3 step rendering", and the number of samples
abbrev pub rendering_words : Rendering → List ℕ → List ℕ
rendering_words r lent = set (set lent 0 (kind_of r.engine)) 1 r.samples

abbrev pub rendering_crossing : Answer Rendering → List ℕ → Crossing
rendering_crossing = answer_crossing rendering_words

abbrev pub read_rendering_crossing : RenderingOutcome → List ℕ → Crossed (List ℕ)
read_rendering_crossing o lent = crossed (rendering_crossing o.answer lent) o.samples

-- of a file that is written: its number of bytes, the low 32 bits and then the high ones
abbrev pub count_words : ℕ → List ℕ → List ℕ
count_words count lent = set (set lent 0 (count % 4294967296)) 1 (count / 4294967296)

abbrev pub written_crossing : Answer ℕ → List ℕ → Crossing
written_crossing = answer_crossing count_words

abbrev pub write_crossing : Outcome → List ℕ → Crossed (List ℕ)
write_crossing o lent = crossed (written_crossing o.answer lent) o.bytes

-- the counts of an effect block whose header is not looked at
abbrev pub records : ℕ → ℕ → ℕ → ℕ → Contents
records parameters states delays nodes =
    record { header = header 0 0 0 0 0; parameters = parameters; states = states; delays = delays; nodes = nodes }

-- ---- what the C functions' proofs cite: an outcome crosses as its answer does
pub block_read_crosses : (a : Answer Contents) (t : Tables) (o : BlockOutcome) (lent : List ℕ) (c : Crossing) → block_outcome a t ≡ o
    → c ≡ contents_crossing a lent → crossed c t ≡ read_block_crossing o lent
block_read_crosses a t o lent c = crosses read_block_crossing (block_outcome a t) o c (contents_crossing a lent) t lent refl

pub rendering_read_crosses : (a : Answer Rendering) (samples : List ℕ) (o : RenderingOutcome) (lent : List ℕ) (c : Crossing)
    → rendering_outcome a samples ≡ o → c ≡ rendering_crossing a lent → crossed c samples ≡ read_rendering_crossing o lent
rendering_read_crosses a samples o lent c =
    crosses read_rendering_crossing (rendering_outcome a samples) o c (rendering_crossing a lent) samples lent refl

pub file_crosses : (a : Answer ℕ) (bytes : List ℕ) (o : Outcome) (lent : List ℕ) (c : Crossing) → outcome a bytes ≡ o
    → c ≡ written_crossing a lent → crossed c bytes ≡ write_crossing o lent
file_crosses a bytes o lent c = crosses write_crossing (outcome a bytes) o c (written_crossing a lent) bytes lent refl
