-- A source as the number that SourceLaws reckons with, and an option as Lists has it. Definitions alone.
use Rattle.std.specs.Prelude.{ℕ, suc, Option, Some, None}
use Rattle.plan.specs.declared.sources.Source.{Source}
use Rattle.plan.specs.declared.sources.Source.TheVariants.{Audio, Network, Parameter, State, Delay, Control, Immediate}

-- 1 to 6 the code of the load, 7 an immediate
abbrev pub number_of : Source → ℕ
number_of Audio = 1
number_of Network = 2
number_of Parameter = 3
number_of State = 4
number_of Delay = 5
number_of Control = 6
number_of Immediate = 7

-- .. and 0 it is computed
abbrev pub source_number : Option Source → ℕ
source_number (Some s) = number_of s
source_number None = 0

-- an option is 0, or n + 1
abbrev pub option_number : Option ℕ → ℕ
option_number (Some n) = suc n
option_number None = 0
