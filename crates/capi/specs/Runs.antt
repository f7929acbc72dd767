-- How set, reset, the runs and the step checker cross to C: a `Crossing`, and the tables that the call may write as it leaves them.
use Rattle.std.specs.Prelude.{Result, Ok, Err, IsErrAnd, ◌≡◌, refl, Bool, true, cond, List, [], ℕ, ◌≤◌, ◌<◌, length, set, take, ltb}
use Rattle.std.proofs.Common.{sym, ap, ◌∙◌, append-nil, arith, drop_of_length-le, lt-ltb, le-ltb}
use Rattle.tables.specs.Zeros.{zeros, copied, copied_is, zeros_length}
use Rattle.answers.specs.declared.Refusal.{Refusal}
use Rattle.answers.specs.Numbers.{Answer, refused, answer_of}
use Rattle.answers.specs.Order.{◌⨾◌, refuse}
use Rattle.answers.specs.OrderLaws.{hand_on, go_on, refuse_on}
use Rattle.block.specs.Block.{Block}
use Rattle.block.specs.Validation.{validation}
use Rattle.kernel.specs.declared.Kernel.{Kernel}
use Rattle.memory.specs.Lines.{Memories}
use Rattle.memory.specs.Calls.{SetOutcome, set_outcome, ResetOutcome, reset_outcome}
use Rattle.graph_run.specs.Run as Graph
use Rattle.memory.specs.Signals.{Signals}
use Rattle.step_run.specs.declared.Done.{Done}
use Rattle.step_run.specs.Run as Step
use Rattle.checker.specs.Check as Check
use Rattle.capi.specs.Crossing.{Crossing, answer_crossing, verdict_crossing}

-- the result and the answer words, and what else the call may write
pub record Crossed (T : Type 0) : Type 0 where
  pub call : Crossing
  pub tables : T

abbrev pub crossed : {T : Type 0} → Crossing → T → Crossed T
crossed call tables = record { call = call; tables = tables }

-- set and reset say nothing where they accept, nor does the graph run
abbrev pub set_crossing : SetOutcome → List ℕ → Crossed (List ℕ)
set_crossing o lent = crossed (verdict_crossing o.answer lent) o.values

abbrev pub reset_crossing : ResetOutcome → List ℕ → Crossed Memories
reset_crossing o lent = crossed (verdict_crossing o.answer lent) o.memories

abbrev pub graph_crossing : Graph.Outcome → List ℕ → Crossed Graph.Tables
graph_crossing o lent = crossed (verdict_crossing o.answer lent) o.tables

-- the step checker says nothing where a list passes; of 19's position the first answer word holds the low 32 bits
abbrev pub check_crossing : Check.Outcome → List ℕ → Crossed Check.Tables
check_crossing o lent = crossed (verdict_crossing o.answer lent) o.tables

-- the kernel's five counts
abbrev pub counted : ℕ → ℕ → ℕ → ℕ → ℕ → Kernel
counted control sample instructions slots spills =
    record { control = control; sample = sample; instructions = instructions; slots = slots; spills = spills }

-- the step run's answer words begin with the samples done and the steps spent
abbrev pub done_words : Done → List ℕ → List ℕ
done_words d lent = set (set lent 0 d.samples) 1 d.steps

abbrev pub done_crossing : Answer Done → List ℕ → Crossing
done_crossing = answer_crossing done_words

-- "The sixteen registers go in and come back": they are the first words of the table that is lent for them
abbrev pub step_crossing : Step.Outcome → List ℕ → List ℕ → Crossed Step.Tables
step_crossing o registers lent =
    let t = o.tables in
    crossed (done_crossing o.answer lent) (Step.tables t.expansion t.control t.spills t.rendered (copied t.registers registers))

abbrev pub with_sixteen : Step.Tables → Step.Tables
with_sixteen t = Step.tables t.expansion t.control t.spills t.rendered (take 16 t.registers)

-- 13: it has not sixteen words
unfoldable pub short_registers : Block → Answer Unit
short_registers b = validation b ⨾ refuse 13 true

unfoldable pub step_call : Block → Step.Code → ℕ → Signals → Step.Tables → List ℕ → Crossed Step.Tables
step_call b c budget s t lent =
    cond
    (ltb (length t.registers) 16)
    (crossed (verdict_crossing (short_registers b) lent) t)
    (step_crossing (Step.run_call b c budget s (with_sixteen t)) t.registers lent)

-- ---- what the C functions' proofs cite: an outcome of answer and tables crosses as its answer does
pub crosses : {O T : Type 0} (cross : O → List ℕ → Crossed T) (call o : O) (c d : Crossing) (t : T) (lent : List ℕ) → cross call lent ≡ crossed d t
    → call ≡ o → c ≡ d → crossed c t ≡ cross o lent
crosses {O = O} cross call o c d t lent e f g = ap (λ (x : Crossing). crossed x t) g ∙ (sym e ∙ ap (λ (x : O). cross x lent) f)

pub set_crosses : (a : Answer Unit) (values : List ℕ) (o : SetOutcome) (lent : List ℕ) (c : Crossing) → set_outcome a values ≡ o
    → c ≡ verdict_crossing a lent → crossed c values ≡ set_crossing o lent
set_crosses a values o lent c = crosses set_crossing (set_outcome a values) o c (verdict_crossing a lent) values lent refl

pub reset_crosses : (a : Answer Unit) (m : Memories) (o : ResetOutcome) (lent : List ℕ) (c : Crossing) → reset_outcome a m ≡ o
    → c ≡ verdict_crossing a lent → crossed c m ≡ reset_crossing o lent
reset_crosses a m o lent c = crosses reset_crossing (reset_outcome a m) o c (verdict_crossing a lent) m lent refl

pub graph_crosses : (a : Answer Unit) (t : Graph.Tables) (o : Graph.Outcome) (lent : List ℕ) (c : Crossing) → Graph.outcome a t ≡ o
    → c ≡ verdict_crossing a lent → crossed c t ≡ graph_crossing o lent
graph_crosses a t o lent c = crosses graph_crossing (Graph.outcome a t) o c (verdict_crossing a lent) t lent refl

pub check_crosses : (a : Answer Unit) (t : Check.Tables) (o : Check.Outcome) (lent : List ℕ) (c : Crossing) → Check.outcome a t ≡ o
    → c ≡ verdict_crossing a lent → crossed c t ≡ check_crossing o lent
check_crosses a t o lent c = crosses check_crossing (Check.outcome a t) o c (verdict_crossing a lent) t lent refl

-- ---- the step run: a valid block is refused by 13 where the registers are short; otherwise they are copied in and out
pub short_handed_on : (b : Block) {v : Result Unit Refusal} (r : Result Unit Refusal) {e : Refusal} → answer_of v ≡ validation b → v ≡ Err e → IsErrAnd r (λ y. y ≡ e)
    → answer_of r ≡ short_registers b
unfolding short_registers
short_handed_on b r e f h = hand_on r _ e f h

pub short_of_valid : (b : Block) {v : Result Unit Refusal} {u : Unit} → answer_of v ≡ validation b → v ≡ Ok u → refused 13 [] ≡ short_registers b
unfolding short_registers
short_of_valid b e f = go_on _ e f (sym (refuse_on 13 refl))

pub short_crosses : (b : Block) (k : Step.Code) (budget : ℕ) (s : Signals) (t : Step.Tables) (lent : List ℕ) (a : Answer Unit) (c : Crossing)
    → length t.registers < 16 → a ≡ short_registers b → c ≡ verdict_crossing a lent
    → crossed c t ≡ step_call b k budget s t lent
unfolding step_call
short_crosses b k budget s t lent a c h e f =
    rw (lt-ltb (length t.registers) 16 h, f, e)

pub sixteen_of : (table : List ℕ) → 16 ≤ length table → copied table (zeros 16) ≡ take 16 table
sixteen_of table h =
    copied_is table (zeros 16)
    ∙ (rw (zeros_length 16, drop_of_length-le (zeros 16) {i = length table} (omega (arith, zeros_length 16))) (append-nil (take 16 table)))

pub steps_cross : (b : Block) (k : Step.Code) (budget : ℕ) (s : Signals) (t : Step.Tables) (lent words registers : List ℕ) (a : Answer Done)
    (u : Step.Tables) (c : Crossing) → 16 ≤ length t.registers → words ≡ copied t.registers (zeros 16)
    → Step.outcome a u ≡ Step.run_call b k budget s (Step.tables t.expansion t.control t.spills t.rendered words)
    → registers ≡ copied u.registers t.registers → c ≡ done_crossing a lent
    → crossed c (Step.tables u.expansion u.control u.spills u.rendered registers) ≡ step_call b k budget s t lent
unfolding step_call
steps_cross b k budget s t lent words registers a u c h w e r f =
    let n : words ≡ take 16 t.registers = w ∙ sixteen_of t.registers h in
    let o : Step.outcome a u ≡ Step.run_call b k budget s (with_sixteen t) =
    e ∙ ap (λ (x : List ℕ). Step.run_call b k budget s (Step.tables t.expansion t.control t.spills t.rendered x)) n in
    ap (λ (x : Crossing). crossed x (Step.tables u.expansion u.control u.spills u.rendered registers)) f
    ∙ (ap (λ (x : List ℕ). crossed (done_crossing a lent) (Step.tables u.expansion u.control u.spills u.rendered x)) r
    ∙ (ap (λ (x : Step.Outcome). step_crossing x t.registers lent) o
    ∙ ap
    (λ (x : Bool). cond x (crossed (verdict_crossing (short_registers b) lent) t) (step_crossing (Step.run_call b k budget s (with_sixteen t)) t.registers lent))
    (sym (le-ltb (length t.registers) 16 h))))
