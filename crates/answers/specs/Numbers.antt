-- Document 01, "Numbered answers": the number and the values of every case of `Refusal`. Definitions alone; proofs/Numbers.antt has that they tell the cases apart.
use Rattle.std.specs.Prelude.{List, [], ◌∷◌, ℕ, get_or, Result, Ok, Err}
use Rattle.answers.specs.declared.Refusal.{Refusal}
use Rattle.answers.specs.declared.Refusal.TheVariants as R

-- the number of 01's table
abbrev pub number_of : Refusal → ℕ
number_of R.Malformed = 1
number_of R.UnknownVersion = 2
number_of R.NetworkNotAllowed = 3
number_of R.NetworkFlagClear = 4
number_of R.NeedsVersionTwo = 5
number_of R.TooLarge = 6
number_of (R.BadParameter index) = 7
number_of R.MissingOutput = 8
number_of (R.BadOperand index) = 9
number_of (R.BadNode index) = 10
number_of (R.BadState index) = 11
number_of (R.BadDelay index) = 12
number_of R.TableTooShort = 13
number_of R.RegistersLocked = 14
number_of R.BadStepList = 15
number_of R.SizesDiffer = 16
number_of R.UnknownParameter = 17
number_of R.ValueOutOfRange = 18
number_of (R.StepRefused position) = 19
number_of R.WrongBlockCheck = 20
number_of R.BadFrame = 21

-- "7 and 9 to 12 carry the first bad record's index", 19 "the position"
abbrev pub values_of : Refusal → List ℕ
values_of R.Malformed = []
values_of R.UnknownVersion = []
values_of R.NetworkNotAllowed = []
values_of R.NetworkFlagClear = []
values_of R.NeedsVersionTwo = []
values_of R.TooLarge = []
values_of (R.BadParameter index) = index ∷ []
values_of R.MissingOutput = []
values_of (R.BadOperand index) = index ∷ []
values_of (R.BadNode index) = index ∷ []
values_of (R.BadState index) = index ∷ []
values_of (R.BadDelay index) = index ∷ []
values_of R.TableTooShort = []
values_of R.RegistersLocked = []
values_of R.BadStepList = []
values_of R.SizesDiffer = []
values_of R.UnknownParameter = []
values_of R.ValueOutOfRange = []
values_of (R.StepRefused position) = position ∷ []
values_of R.WrongBlockCheck = []
values_of R.BadFrame = []

abbrev pub first_value : Refusal → ℕ
first_value r = get_or (values_of r) 0 0

-- an answer as the document has it: what an accepted call gives, or a number with its values
pub data Answer (A : Type 0) : Type 0 where
  accepted : A → Answer A
  refused : ℕ → List ℕ → Answer A

-- a refusal as an answer of any kind of call
abbrev pub refusal : {A : Type 0} → Refusal → Answer A
refusal r = refused (number_of r) (values_of r)

-- what a call returns, as an answer: `Ok` with what an accepted call gives, or `Err` with a refusal
abbrev pub answer_of : {A : Type 0} → Result A Refusal → Answer A
answer_of (Ok a) = accepted a
answer_of (Err r) = refusal r
