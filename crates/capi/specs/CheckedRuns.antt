-- How the checked run crosses to C: as the step run does, with the checker's work table besides.
use Rattle.std.specs.Prelude.{◌≡◌, Bool, ℕ, ◌≤◌, ◌<◌, length, ltb}
use Rattle.std.proofs.Common.{sym, ◌∙◌, lt-ltb, le-ltb}
use Rattle.std.proofs.Math.Path.{ap}
use Rattle.std.proofs.Math.Bool.{cond}
use mathlib.Core.List.{List}
use Rattle.std.proofs.Math.ListN.{take}
use Rattle.tables.specs.Zeros.{zeros, copied}
use Rattle.answers.specs.Numbers.{Answer}
use Rattle.block.specs.Block.{Block}
use Rattle.memory.specs.Signals.{Signals}
use Rattle.step_run.specs.declared.Done.{Done}
use Rattle.step_run.specs.Run.{Code}
use Rattle.agree.specs.Checked as Checked
use Rattle.agree.specs.Ordered.{ordered_run_call}
use Rattle.capi.specs.Crossing.{Crossing, verdict_crossing}
use Rattle.capi.specs.Runs.{Crossed, crossed, done_crossing, short_registers, sixteen_of}

-- the tables of a call with other registers
abbrev pub with_registers : Checked.Tables → List ℕ → Checked.Tables
with_registers t registers = Checked.tables t.expansion t.work t.control t.spills t.rendered registers

-- "The sixteen registers go in and come back": they are the first words of the table that is lent for them
abbrev pub checked_crossing : Checked.Outcome → List ℕ → List ℕ → Crossed Checked.Tables
checked_crossing o registers lent = crossed (done_crossing o.answer lent) (with_registers o.tables (copied o.tables.registers registers))

unfoldable pub checked_call : Block → ℕ → Code → ℕ → Signals → Checked.Tables → List ℕ → Crossed Checked.Tables
checked_call b mask c budget s t lent =
    cond
    (ltb (length t.registers) 16)
    (crossed (verdict_crossing (short_registers b) lent) t)
    (checked_crossing (ordered_run_call b mask c budget s (with_registers t (take 16 t.registers))) t.registers lent)

-- ---- what the C function's proof cites
module _ (b : Block) (mask : ℕ) (k : Code) (budget : ℕ) (s : Signals) (t : Checked.Tables) (lent : List ℕ) where
  pub short_checked : (a : Answer Unit) (c : Crossing) → length t.registers < 16 → a ≡ short_registers b → c ≡ verdict_crossing a lent
      → crossed c t ≡ checked_call b mask k budget s t lent
  unfolding checked_call
  short_checked a c h e f = rw (lt-ltb (length t.registers) 16 h, f, e)

  pub checked_crosses : (words registers : List ℕ) (a : Answer Done) (u : Checked.Tables) (c : Crossing) → 16 ≤ length t.registers
      → words ≡ copied t.registers (zeros 16) → Checked.outcome a u ≡ ordered_run_call b mask k budget s (with_registers t words)
      → registers ≡ copied u.registers t.registers → c ≡ done_crossing a lent
      → crossed c (with_registers u registers) ≡ checked_call b mask k budget s t lent
  unfolding checked_call
  checked_crosses words registers a u c h w e r f =
      let n : words ≡ take 16 t.registers = w ∙ sixteen_of t.registers h in
      let o : Checked.outcome a u ≡ ordered_run_call b mask k budget s (with_registers t (take 16 t.registers)) =
      e ∙ ap (λ (x : List ℕ). ordered_run_call b mask k budget s (with_registers t x)) n in
      ap (λ (x : Crossing). crossed x (with_registers u registers)) f
      ∙ (ap (λ (x : List ℕ). crossed (done_crossing a lent) (with_registers u x)) r
      ∙ (ap (λ (x : Checked.Outcome). checked_crossing x t.registers lent) o
      ∙ ap
      (λ (x : Bool). cond x (crossed (verdict_crossing (short_registers b) lent) t) (checked_crossing (ordered_run_call b mask k budget s (with_registers t (take 16 t.registers))) t.registers lent))
      (sym (le-ltb (length t.registers) 16 h))))
