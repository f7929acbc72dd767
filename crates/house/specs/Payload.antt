-- Document 01, "House file": what the payloads of the three kinds say. Definitions alone.
use Rattle.std.specs.Prelude.{ℕ, ◌+◌, ◌*◌, cond, List, [], ◌∷◌, ◌++◌, length, ◌==◌}
use Rattle.block.specs.Block.{Block, parameter_count, state_count, delay_count, node_count}
use Rattle.house.specs.declared.Contents.{Contents}
use Rattle.house.specs.declared.Engine.{Engine}
use Rattle.house.specs.declared.Engine.TheVariants.{Graph, Steps}
use Rattle.house.specs.declared.Rendering.{Rendering}
use Rattle.house.specs.Frame.{effect_kind, graph_kind, step_kind, kind_in, payload_word}
use Rattle.house.specs.File.{file_of}

-- ---- kind 1: "version, category, channels, flag, counts of parameters, states, delays, nodes, output, then the tables in that order"

-- as it is read
abbrev pub contents_in : List ℕ → Contents
contents_in bytes =
    record {
      header =
          record {
            version = payload_word bytes 0;
            category = payload_word bytes 1;
            channels = payload_word bytes 2;
            network = payload_word bytes 3;
            output = payload_word bytes 8;
          };
      parameters = payload_word bytes 4;
      states = payload_word bytes 5;
      delays = payload_word bytes 6;
      nodes = payload_word bytes 7;
    }

-- where each table starts in the payload; records of parameters and nodes have three words, those of states and delays two
abbrev pub parameters_at : ℕ
parameters_at = 9

abbrev pub states_at : Contents → ℕ
states_at c = parameters_at + 3 * c.parameters

abbrev pub delays_at : Contents → ℕ
delays_at c = states_at c + 2 * c.states

abbrev pub nodes_at : Contents → ℕ
nodes_at c = delays_at c + 2 * c.delays

-- "The payload ends exactly there"
abbrev pub contents_end : Contents → ℕ
contents_end c = nodes_at c + 3 * c.nodes

-- as it is written
abbrev pub contents_of : Block → Contents
contents_of b =
    record { header = b.header; parameters = parameter_count b; states = state_count b; delays = delay_count b; nodes = node_count b }

abbrev pub head_words : Contents → List ℕ
head_words c =
    c.header.version
    ∷ c.header.category
    ∷ c.header.channels
    ∷ c.header.network
    ∷ c.parameters
    ∷ c.states
    ∷ c.delays
    ∷ c.nodes
    ∷ c.header.output
    ∷ []

abbrev pub effect_payload : Contents → List ℕ → List ℕ → List ℕ → List ℕ → List ℕ
effect_payload c parameters states delays nodes = head_words c ++ (parameters ++ (states ++ (delays ++ nodes)))

abbrev pub block_payload : Block → List ℕ
block_payload b = effect_payload (contents_of b) b.parameters b.states b.delays b.nodes

abbrev pub block_file : Block → List ℕ
block_file b = file_of effect_kind (block_payload b)

-- ---- kinds 2 and 3: "sample count, then samples"

-- "2 graph rendering, 3 step rendering"
abbrev pub kind_of : Engine → ℕ
kind_of Graph = graph_kind
kind_of Steps = step_kind

abbrev pub engine_of : ℕ → Engine
engine_of kind = cond (kind == graph_kind) Graph Steps

-- as it is read: which engine made it, and how many samples follow
abbrev pub rendering_in : List ℕ → Rendering
rendering_in bytes = record { engine = engine_of (kind_in bytes 0); samples = payload_word bytes 0 }

abbrev pub samples_at : ℕ
samples_at = 1

-- as it is written
abbrev pub rendering_payload : List ℕ → List ℕ
rendering_payload samples = length samples ∷ samples

abbrev pub rendering_file : Engine → List ℕ → List ℕ
rendering_file engine samples = file_of (kind_of engine) (rendering_payload samples)
