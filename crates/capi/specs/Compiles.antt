-- How compile crosses to C: where it accepts, the answer words begin with the kernel's five counts and the most registers held at once.
use Rattle.std.specs.Prelude.{◌≡◌, List, ℕ, set}
use Rattle.std.proofs.Common.{ap, ◌∙◌}
use Rattle.answers.specs.Numbers.{Answer}
use Rattle.kernel.specs.declared.Kernel.{Kernel}
use Rattle.compile.specs.declared.Compiled.{Compiled}
use Rattle.compile.specs.Call as Compile
use Rattle.capi.specs.Crossing.{Crossing, crossing, answer_crossing}
use Rattle.capi.specs.Runs.{Crossed, crossed}

-- control steps, sample steps, instructions, control slots, spill slots, registers, as far as there are words for them
abbrev pub kernel_words : Kernel → ℕ → List ℕ → List ℕ
kernel_words k registers lent =
    set (set (set (set (set (set lent 0 k.control) 1 k.sample) 2 k.instructions) 3 k.slots) 4 k.spills) 5 registers

abbrev pub compiled_words : Compiled → List ℕ → List ℕ
compiled_words d lent = kernel_words d.kernel d.registers lent

abbrev pub kernel_crossing : Answer Compiled → List ℕ → Crossing
kernel_crossing = answer_crossing compiled_words

abbrev pub compile_crossing : Compile.Outcome → List ℕ → Crossed Compile.Tables
compile_crossing o lent = crossed (kernel_crossing o.answer lent) o.tables

-- ---- what the C function's proof cites

-- six words are put, one after the other
pub kernel_put : (k : Kernel) (registers : ℕ) (lent a b c d e f : List ℕ) → a ≡ set lent 0 k.control → b ≡ set a 1 k.sample → c ≡ set b 2 k.instructions
    → d ≡ set c 3 k.slots → e ≡ set d 4 k.spills → f ≡ set e 5 registers → crossing 0 f ≡ crossing 0 (kernel_words k registers lent)
kernel_put k registers lent a b c d e f ea eb ec ed ee ef = rw (ef, ee, ed, ec, eb, ea)

pub compile_crosses : (a : Answer Compiled) (t : Compile.Tables) (o : Compile.Outcome) (lent : List ℕ) (c : Crossing) → Compile.outcome a t ≡ o
    → c ≡ kernel_crossing a lent → crossed c t ≡ compile_crossing o lent
compile_crosses a t o lent c e g = ap (λ (x : Crossing). crossed x t) g ∙ ap (λ (x : Compile.Outcome). compile_crossing x lent) e
