-- What both runs are given and what they give: a sample's words, a call's signals, output words with memories. Definitions alone.
use Rattle.std.specs.Prelude.{cond, List, ℕ, get_or, eqb}
use Rattle.memory.specs.Lines.{Memories}

-- what a sample reads besides the memories: the audio word, the network word and the parameter values
pub record Given : Type 0 where
  pub audio : ℕ
  pub network : ℕ
  pub parameters : List ℕ

abbrev pub given : ℕ → ℕ → List ℕ → Given
given audio network parameters = record { audio = audio; network = network; parameters = parameters }

-- "Network words come in a table, one per sample; with the flag clear they are 0."
unfoldable pub network_word : ℕ → List ℕ → ℕ → ℕ
network_word flag network t = cond (eqb flag 0) 0 (get_or network t 0)

-- what a call is given and does not write
pub record Signals : Type 0 where
  pub parameters : List ℕ
  pub input : List ℕ
  pub network : List ℕ

abbrev pub signals : List ℕ → List ℕ → List ℕ → Signals
signals parameters input network = record { parameters = parameters; input = input; network = network }

-- what sample t is given, by the block's network flag
abbrev pub given_by : ℕ → Signals → ℕ → Given
given_by flag s t = given (get_or s.input t 0) (network_word flag s.network t) s.parameters

-- output words and memories
pub record Rendered : Type 0 where
  pub output : List ℕ
  pub memories : Memories

abbrev pub rendered : List ℕ → Memories → Rendered
rendered output m = record { output = output; memories = m }
