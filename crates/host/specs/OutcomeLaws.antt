-- What an outcome says: words that are no instruction change nothing, an instruction writes its destination and no other register. Theorems.
use Rattle.std.specs.Prelude.{◌≡◌, List, ℕ, ◌<◌, length, get_or, Some, None, Ok, Err}
use Rattle.std.proofs.Common.{ap, arith, get_or-set_same, get_or-set_other}
use Rattle.answers.specs.declared.Refusal.TheVariants.{BadStepList}
use Rattle.kernel.specs.declared.Instruction.{Instruction}
use Rattle.kernel.specs.declared.Instruction.TheVariants.{Immediate, Add, Sub, Mul, Min, Max, Neg, Abs, IntegerSub}
use Rattle.kernel.specs.Instructions.{instruction_of}
use Rattle.kernel.specs.RoundTrips.{InRegisters, instruction_registers_small}
use Rattle.kernel.specs.Instructions.{destination}
use Rattle.machine.specs.Machine.{result_of, execute}
use Rattle.host.specs.Outcome.{outcome_of, ran, outcome}

pub refused : (words : List ℕ) (word immediate : ℕ) → instruction_of word immediate ≡ None → outcome words word immediate ≡ outcome_of (Err BadStepList) words
unfolding outcome
refused words word immediate e = ap (ran words) e

pub accepted : (words : List ℕ) (word immediate : ℕ) (i : Instruction) → instruction_of word immediate ≡ Some i → outcome words word immediate ≡ outcome_of (Ok tt) (execute words i)
unfolding outcome
accepted words word immediate i e = ap (ran words) e

destination_small : (i : Instruction) → InRegisters i → destination i < 16
destination_small (Immediate dst value) h = h
destination_small (Add dst lhs rhs) h = h.0
destination_small (Sub dst lhs rhs) h = h.0
destination_small (Mul dst lhs rhs) h = h.0
destination_small (Min dst lhs rhs) h = h.0
destination_small (Max dst lhs rhs) h = h.0
destination_small (Neg dst src) h = h.0
destination_small (Abs dst src) h = h.0
destination_small (IntegerSub dst lhs rhs) h = h.0

-- the destination holds the result, whatever the instruction
pub written : (words : List ℕ) (word immediate : ℕ) (i : Instruction) → length words ≡ 16 → instruction_of word immediate ≡ Some i
    → get_or (outcome words word immediate).words (destination i) 0 ≡ result_of words i
unfolding execute
written words word immediate i sixteen e =
    let small : destination i < 16 = destination_small i (instruction_registers_small word immediate i e) in
    rw (accepted words word immediate i e) (get_or-set_same words (destination i) (result_of words i) 0 (omega arith))

pub others : (words : List ℕ) (word immediate r : ℕ) (i : Instruction) → instruction_of word immediate ≡ Some i → (r ≡ destination i → ⊥)
    → get_or (outcome words word immediate).words r 0 ≡ get_or words r 0
unfolding execute
others words word immediate r i e other = rw (accepted words word immediate i e) (get_or-set_other words (destination i) r (result_of words i) 0 other)
