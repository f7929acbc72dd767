-- How an answer crosses to C: its number as the result, and what it says besides in words that the caller lends, as far as there are words for it.
use Rattle.std.specs.Prelude.{◌≡◌, List, ℕ, ◌%◌, get_or, set, Result}
use Rattle.std.proofs.Common.{sym, ap, ◌∙◌}
use Rattle.answers.specs.declared.Refusal.{Refusal}
use Rattle.answers.specs.Numbers.{Answer, accepted, refused, number_of, values_of, first_value, answer_of}
use Rattle.block.specs.declared.Header.{Header}
use Rattle.expand.specs.declared.Expanded.{Expanded}
use Rattle.expand.specs.Expansion.{Outcome, outcome}

-- "version, category, channels, network flag, output"
abbrev pub header : ℕ → ℕ → ℕ → ℕ → ℕ → Header
header version category channels network output =
    record { version = version; category = category; channels = channels; network = network; output = output }

-- the result of a C function, and the lent words as it leaves them
pub record Crossing : Type 0 where
  pub number : ℕ
  pub answer : List ℕ

abbrev pub crossing : ℕ → List ℕ → Crossing
crossing number answer = record { number = number; answer = answer }

-- "7 and 9 to 12 carry the first bad record's index": the first value, 0 where there is none, in the first lent word, which `set` leaves out
-- where no word is lent. An index fits a word; of 19's position, which no validation gives, this is the low one.
abbrev pub refused_crossing : ℕ → List ℕ → List ℕ → Crossing
refused_crossing number values lent = crossing number (set lent 0 (get_or values 0 0 % 4294967296))

-- accepted is 0, and the lent words are as `said` of what the call gives leaves them
abbrev pub answer_crossing : {A : Type 0} → (A → List ℕ → List ℕ) → Answer A → List ℕ → Crossing
answer_crossing said (accepted a) lent = crossing 0 (said a lent)
answer_crossing said (refused number values) lent = refused_crossing number values lent

-- of validation: the lent words are left alone
abbrev pub verdict_crossing : Answer Unit → List ℕ → Crossing
verdict_crossing = answer_crossing (λ a lent. lent)

-- of expansion: the lent words begin with the expanded length and the output
abbrev pub expanded_words : Expanded → List ℕ → List ℕ
expanded_words e lent = set (set lent 0 e.length) 1 e.output

abbrev pub expanded_crossing : Answer Expanded → List ℕ → Crossing
expanded_crossing = answer_crossing expanded_words

-- a call that is also lent the expansion table
pub record TableCrossing : Type 0 where
  pub call : Crossing
  pub table : List ℕ

abbrev pub table_crossing : Crossing → List ℕ → TableCrossing
table_crossing call table = record { call = call; table = table }

abbrev pub expand_crossing : Outcome → List ℕ → TableCrossing
expand_crossing o lent = table_crossing (expanded_crossing o.answer lent) o.table

-- ---- what the C functions' proofs cite: a refusal is written out, and an answer crosses as the call's definition has it
pub refusal_crosses : (r : Refusal) (n v : ℕ) (lent left : List ℕ) → n ≡ number_of r → v ≡ first_value r → left ≡ set lent 0 (v % 4294967296)
    → crossing n left ≡ refused_crossing (number_of r) (values_of r) lent
refusal_crosses r n v lent left e f g =
    ap (λ (m : ℕ). crossing m left) e ∙ ap (crossing (number_of r)) (g ∙ ap (λ (x : ℕ). set lent 0 (x % 4294967296)) f)

-- equal results cross alike, whatever the call says
pub answer_crosses : {A : Type 0} (cross : Answer A → List ℕ → Crossing) (v w : Result A Refusal) (lent : List ℕ) (c : Crossing) → v ≡ w → c ≡ cross (answer_of w) lent
    → c ≡ cross (answer_of v) lent
answer_crosses {A = A} cross v w lent c f g = g ∙ ap (λ (x : Result A Refusal). cross (answer_of x) lent) (sym f)

pub verdict_crosses : (r : Result Unit Refusal) (a : Answer Unit) (lent : List ℕ) (c : Crossing) → answer_of r ≡ a → c ≡ verdict_crossing (answer_of r) lent → c ≡ verdict_crossing a lent
verdict_crosses r a lent c h g = g ∙ ap (λ (x : Answer Unit). verdict_crossing x lent) h

pub expansion_crosses : (r : Result Expanded Refusal) (o : Outcome) (lent table : List ℕ) (c : Crossing) → outcome (answer_of r) table ≡ o
    → c ≡ expanded_crossing (answer_of r) lent → table_crossing c table ≡ expand_crossing o lent
expansion_crosses r o lent table c h g =
    ap (λ (d : Crossing). table_crossing d table) g ∙ ap (λ (x : Outcome). expand_crossing x lent) h
