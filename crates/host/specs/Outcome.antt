-- One instruction on the sixteen registers: what the thin host entry answers and leaves. Definitions alone.
use Rattle.std.specs.Prelude.{List, ℕ, Option, Some, None, Result, Ok, Err}
use Rattle.answers.specs.declared.Refusal.TheVariants.{BadStepList}
use Rattle.answers.specs.declared.Refusal.{Refusal}
use Rattle.kernel.specs.declared.Instruction.{Instruction}
use Rattle.kernel.specs.Instructions.{instruction_of}
use Rattle.machine.specs.Machine.{execute}
use Rattle.host.specs.declared.Outcome.{Outcome}

-- an answer and sixteen words
abbrev pub outcome_of : Result Unit Refusal → List ℕ → Outcome
outcome_of answer words = record { answer = answer; words = words }

-- words that are no instruction: answer 15, and "a refusal changes no lent table"; else the words that host.rs, `execute`, leaves
abbrev pub ran : List ℕ → Option Instruction → Outcome
ran words (Some instruction) = outcome_of (Ok tt) (execute words instruction)
ran words None = outcome_of (Err BadStepList) words

-- the instruction of two words, on sixteen
unfoldable pub outcome : List ℕ → ℕ → ℕ → Outcome
outcome words word immediate = ran words (instruction_of word immediate)
