-- Words and what they say: a step with a register below 16 is read back from its words as it was, and words that are a step are that step's words. So no
-- two pairs of words are one step. The same of instructions. Assumes nothing.
use Rattle.std.specs.Prelude.{◌≡◌, Bool, true, cond, ◌&&◌, ℕ, ◌+◌, ◌*◌, ◌/◌, ◌%◌, ◌≤◌, ◌<◌, eqb, Option, Some, None}
use Rattle.std.proofs.Math.Path.{refl, sym}
use Rattle.std.proofs.Common.{◌∙◌, arith, eqb-true}
use Rattle.tables.specs.Tests.{cond_pred, both}
use Rattle.kernel.specs.declared.Source.{Source}
use Rattle.kernel.specs.declared.Step.{Step}
use Rattle.kernel.specs.declared.Step.TheVariants.{Load, Compute, Spill, Reload, StoreState, StoreDelay, StoreOutput, StoreControl}
use Rattle.kernel.specs.declared.Instruction.{Instruction}
use Rattle.kernel.specs.declared.Instruction.TheVariants.{Immediate, Add, Sub, Mul, Min, Max, Neg, Abs, IntegerSub}
use Rattle.kernel.specs.Steps.{step_code, step_register, step_index, step_word, unused_zero, step_from, step_of}
use Rattle.kernel.specs.Instructions.{packed, instruction_word, instruction_immediate, formed_if, instruction_from, instruction_of}

-- ---- steps

-- the first word of a step is small
pub step_code_small : (step : Step) → step_code step ≤ 13
step_code_small (Load Source.Audio register) = omega arith
step_code_small (Load Source.Network register) = omega arith
step_code_small (Load (Source.Parameter index) register) = omega arith
step_code_small (Load (Source.State index) register) = omega arith
step_code_small (Load (Source.Delay index) register) = omega arith
step_code_small (Load (Source.Control slot) register) = omega arith
step_code_small (Compute instruction) = omega arith
step_code_small (Spill slot register) = omega arith
step_code_small (Reload slot register) = omega arith
step_code_small (StoreState state register) = omega arith
step_code_small (StoreDelay delay register) = omega arith
step_code_small (StoreOutput register) = omega arith
step_code_small (StoreControl slot register) = omega arith

pub step_word_small : (step : Step) → step_word step < 224
unfolding step_word
step_word_small step = omega (arith, step_code_small step)

-- a code and a register of one word
code_of : (code register : ℕ) → register < 16 → (code * 16 + register % 16) / 16 ≡ code
code_of code register h = omega arith

register_of : (code register : ℕ) → register < 16 → (code * 16 + register % 16) % 16 ≡ register
register_of code register h = omega arith

-- a code and a register are a step
from_step : (step : Step) → step_from (step_code step) (step_register step) (step_index step) ≡ Some step
unfolding step_from
from_step (Load Source.Audio register) = refl
from_step (Load Source.Network register) = refl
from_step (Load (Source.Parameter index) register) = refl
from_step (Load (Source.State index) register) = refl
from_step (Load (Source.Delay index) register) = refl
from_step (Load (Source.Control slot) register) = refl
from_step (Compute instruction) = refl
from_step (Spill slot register) = refl
from_step (Reload slot register) = refl
from_step (StoreState state register) = refl
from_step (StoreDelay delay register) = refl
from_step (StoreOutput register) = refl
from_step (StoreControl slot register) = refl

-- a step with a register below 16 is read back from its words
pub step_read_back : (step : Step) → step_register step < 16 → step_of (step_word step) (step_index step) ≡ Some step
unfolding step_of step_word
step_read_back step h =
    rw (code_of (step_code step) (step_register step) h, register_of (step_code step) (step_register step) h) (from_step step)

-- a step is made of this code, this register and this index
record Of (code register index : ℕ) (step : Step) : Type 0 where
  has_code : step_code step ≡ code
  has_register : step_register step ≡ register
  has_index : step_index step ≡ index

-- words, where they are a step, are of this code, this register and this index
abbrev Reads : ℕ → ℕ → ℕ → Option Step → Type 0
Reads code register index words = (step : Step) → words ≡ Some step → Of code register index step

module _ (code register index : ℕ) where
  reads : (step : Step) → Of code register index step → Reads code register index (Some step)
  reads step o other e = let q : step ≡ other = cc in rw q at o

  reads_nothing : Reads code register index None
  reads_nothing step e = absurd (let z : ◌≡◌ {A = ℕ} 0 1 = cc in omega arith)

  reads_unused : (part : ℕ) (step : Step) → (part ≡ 0 → Of code register index step) → Reads code register index (unused_zero part step)
  reads_unused part step o =
      cond_pred (Reads code register index) (eqb part 0) (λ e. reads step (o (eqb-true part 0 e))) (λ e. reads_nothing)

  -- one code of the table
  code_reads : (k : ℕ) {x y : Option Step} → (k ≡ code → Reads code register index x) → Reads code register index y
      → Reads code register index (cond (eqb code k) x y)
  code_reads k f g = cond_pred (Reads code register index) (eqb code k) (λ e. f (sym (eqb-true code k e))) (λ e. g)

  step_from_reads : Reads code register index (step_from code register index)
  unfolding step_from
  step_from_reads =
      code_reads 1 (λ e. reads_unused index (Load Source.Audio register) (λ z. record { has_code = e; has_register = refl; has_index = sym z }))
      (code_reads 2 (λ e. reads_unused index (Load Source.Network register) (λ z. record { has_code = e; has_register = refl; has_index = sym z }))
      (code_reads 3 (λ e. reads (Load (Source.Parameter index) register) (record { has_code = e; has_register = refl; has_index = refl }))
      (code_reads 4 (λ e. reads (Load (Source.State index) register) (record { has_code = e; has_register = refl; has_index = refl }))
      (code_reads 5 (λ e. reads (Load (Source.Delay index) register) (record { has_code = e; has_register = refl; has_index = refl }))
      (code_reads 6 (λ e. reads (Load (Source.Control index) register) (record { has_code = e; has_register = refl; has_index = refl }))
      (code_reads 7 (λ e. reads_unused register (Compute index) (λ z. record { has_code = e; has_register = sym z; has_index = refl }))
      (code_reads 8 (λ e. reads (Spill index register) (record { has_code = e; has_register = refl; has_index = refl }))
      (code_reads 9 (λ e. reads (Reload index register) (record { has_code = e; has_register = refl; has_index = refl }))
      (code_reads 10 (λ e. reads (StoreState index register) (record { has_code = e; has_register = refl; has_index = refl }))
      (code_reads 11 (λ e. reads (StoreDelay index register) (record { has_code = e; has_register = refl; has_index = refl }))
      (code_reads 12 (λ e. reads_unused index (StoreOutput register) (λ z. record { has_code = e; has_register = refl; has_index = sym z }))
      (code_reads 13 (λ e. reads (StoreControl index register) (record { has_code = e; has_register = refl; has_index = refl }))
      reads_nothing))))))))))))

-- a word is its code and its register
word_of : (word code register : ℕ) → code ≡ word / 16 → register ≡ word % 16 → code * 16 + register % 16 ≡ word
word_of word code register c r = omega arith

-- the words of a step are its words
pub step_words : (word index : ℕ) (step : Step) → step_of word index ≡ Some step → (step_word step ≡ word) × (step_index step ≡ index)
unfolding step_of step_word
step_words word index step e =
    let o = step_from_reads (word / 16) (word % 16) index step e in
    (word_of word (step_code step) (step_register step) o.has_code o.has_register, o.has_index)

-- a step that was read has a register below 16
pub step_register_small : (word index : ℕ) (step : Step) → step_of word index ≡ Some step → step_register step < 16
unfolding step_of
step_register_small word index step e = omega (arith, (step_from_reads (word / 16) (word % 16) index step e).has_register)

-- no two pairs of words are one step
pub step_once : (word index word' index' : ℕ) (step : Step) → step_of word index ≡ Some step → step_of word' index' ≡ Some step
    → (word ≡ word') × (index ≡ index')
step_once word index word' index' step e e' =
    let a = step_words word index step e in
    let b = step_words word' index' step e' in
    (sym a.0 ∙ b.0, sym a.1 ∙ b.1)

-- ---- instructions

-- an instruction's registers are r0 to r15
abbrev pub InRegisters : Instruction → Type 0
InRegisters (Immediate dst value) = dst < 16
InRegisters (Add dst lhs rhs) = (dst < 16) × (lhs < 16) × (rhs < 16)
InRegisters (Sub dst lhs rhs) = (dst < 16) × (lhs < 16) × (rhs < 16)
InRegisters (Mul dst lhs rhs) = (dst < 16) × (lhs < 16) × (rhs < 16)
InRegisters (Min dst lhs rhs) = (dst < 16) × (lhs < 16) × (rhs < 16)
InRegisters (Max dst lhs rhs) = (dst < 16) × (lhs < 16) × (rhs < 16)
InRegisters (Neg dst src) = (dst < 16) × (src < 16)
InRegisters (Abs dst src) = (dst < 16) × (src < 16)
InRegisters (IntegerSub dst lhs rhs) = (dst < 16) × (lhs < 16) × (rhs < 16)

-- the first word of an instruction is small
pub instruction_word_small : (instruction : Instruction) → instruction_word instruction < 40960
instruction_word_small (Immediate dst value) = omega arith
instruction_word_small (Add dst lhs rhs) = omega arith
instruction_word_small (Sub dst lhs rhs) = omega arith
instruction_word_small (Mul dst lhs rhs) = omega arith
instruction_word_small (Min dst lhs rhs) = omega arith
instruction_word_small (Max dst lhs rhs) = omega arith
instruction_word_small (Neg dst src) = omega arith
instruction_word_small (Abs dst src) = omega arith
instruction_word_small (IntegerSub dst lhs rhs) = omega arith

-- the parts of a packed word are what was packed
unpacked : (code dst lhs rhs immediate : ℕ) → dst < 16 → lhs < 16 → rhs < 16
    → instruction_of (packed code dst lhs rhs) immediate ≡ instruction_from code dst lhs rhs immediate
unfolding instruction_of
unpacked code dst lhs rhs immediate d l r =
    let a : packed code dst lhs rhs / 4096 ≡ code = omega arith in
    let b : packed code dst lhs rhs / 256 % 16 ≡ dst = omega arith in
    let e : packed code dst lhs rhs / 16 % 16 ≡ lhs = omega arith in
    let f : packed code dst lhs rhs % 16 ≡ rhs = omega arith in
    rw (a, b, e, f)

-- an instruction with registers below 16 is read back from its words
pub instruction_read_back : (instruction : Instruction) → InRegisters instruction
    → instruction_of (instruction_word instruction) (instruction_immediate instruction) ≡ Some instruction
unfolding instruction_from
instruction_read_back (Immediate dst value) h = unpacked 1 dst 0 0 value h (omega arith) (omega arith)
instruction_read_back (Add dst lhs rhs) h = unpacked 2 dst lhs rhs 0 h.0 h.1 h.2
instruction_read_back (Sub dst lhs rhs) h = unpacked 3 dst lhs rhs 0 h.0 h.1 h.2
instruction_read_back (Mul dst lhs rhs) h = unpacked 4 dst lhs rhs 0 h.0 h.1 h.2
instruction_read_back (Min dst lhs rhs) h = unpacked 5 dst lhs rhs 0 h.0 h.1 h.2
instruction_read_back (Max dst lhs rhs) h = unpacked 6 dst lhs rhs 0 h.0 h.1 h.2
instruction_read_back (Neg dst src) h = unpacked 7 dst src 0 0 h.0 h.1 (omega arith)
instruction_read_back (Abs dst src) h = unpacked 8 dst src 0 0 h.0 h.1 (omega arith)
instruction_read_back (IntegerSub dst lhs rhs) h = unpacked 9 dst lhs rhs 0 h.0 h.1 h.2

-- an instruction has these words, and registers below 16 where these are
record Packs (code dst lhs rhs immediate : ℕ) (instruction : Instruction) : Type 0 where
  word : instruction_word instruction ≡ packed code dst lhs rhs
  second : instruction_immediate instruction ≡ immediate
  registers : dst < 16 → lhs < 16 → rhs < 16 → InRegisters instruction

module _ (code dst lhs rhs immediate : ℕ) where
  -- words, where they are an instruction, are these parts
  abbrev Parts : Option Instruction → Type 0
  Parts words = (instruction : Instruction) → words ≡ Some instruction → Packs code dst lhs rhs immediate instruction

  parts_nothing : Parts None
  parts_nothing instruction e = absurd (let z : ◌≡◌ {A = ℕ} 0 1 = cc in omega arith)

  -- an instruction whose unused parts are 0
  parts : (test : Bool) (instruction : Instruction) → (test ≡ true → Packs code dst lhs rhs immediate instruction) → Parts (formed_if test instruction)
  parts test instruction p =
      cond_pred Parts test (λ t other e. let q : instruction ≡ other = cc in rw q at (p t)) (λ t. parts_nothing)

  -- one code of the table
  code_parts : (k : ℕ) {x y : Option Instruction} → (k ≡ code → Parts x) → Parts y → Parts (cond (eqb code k) x y)
  code_parts k f g = cond_pred Parts (eqb code k) (λ e. f (sym (eqb-true code k e))) (λ e. g)

  -- three registers, no immediate
  three : {k : ℕ} (instruction : Instruction) → k ≡ code → instruction_word instruction ≡ packed k dst lhs rhs → instruction_immediate instruction ≡ 0
      → (dst < 16 → lhs < 16 → rhs < 16 → InRegisters instruction) → Parts (formed_if (eqb immediate 0) instruction)
  three instruction e w z h =
      parts (eqb immediate 0) instruction (λ t. record { word = rw e at w; second = z ∙ sym (eqb-true immediate 0 t); registers = h })

  -- two registers, no immediate
  two : {k : ℕ} (instruction : Instruction) → k ≡ code → instruction_word instruction ≡ packed k dst lhs 0 → instruction_immediate instruction ≡ 0
      → (dst < 16 → lhs < 16 → rhs < 16 → InRegisters instruction) → Parts (formed_if (eqb rhs 0 && eqb immediate 0) instruction)
  two instruction e w z h =
      parts (eqb rhs 0 && eqb immediate 0) instruction (λ t.
      let (p, q) = both (eqb rhs 0) (eqb immediate 0) t in
      record { word = rw (eqb-true rhs 0 p, ← e) w; second = z ∙ sym (eqb-true immediate 0 q); registers = h })

  -- one register and the immediate
  one : 1 ≡ code → Parts (formed_if (eqb lhs 0 && eqb rhs 0) (Immediate dst immediate))
  one e =
      parts (eqb lhs 0 && eqb rhs 0) (Immediate dst immediate) (λ t.
      let (p, q) = both (eqb lhs 0) (eqb rhs 0) t in
      record { word = rw (eqb-true lhs 0 p, eqb-true rhs 0 q, ← e); second = refl; registers = λ d l r. d })

  from_parts : Parts (instruction_from code dst lhs rhs immediate)
  unfolding instruction_from
  from_parts =
      code_parts 1 one
      (code_parts 2 (λ e. three (Add dst lhs rhs) e refl refl (λ d l r. (d, l, r)))
      (code_parts 3 (λ e. three (Sub dst lhs rhs) e refl refl (λ d l r. (d, l, r)))
      (code_parts 4 (λ e. three (Mul dst lhs rhs) e refl refl (λ d l r. (d, l, r)))
      (code_parts 5 (λ e. three (Min dst lhs rhs) e refl refl (λ d l r. (d, l, r)))
      (code_parts 6 (λ e. three (Max dst lhs rhs) e refl refl (λ d l r. (d, l, r)))
      (code_parts 7 (λ e. two (Neg dst lhs) e refl refl (λ d l r. (d, l)))
      (code_parts 8 (λ e. two (Abs dst lhs) e refl refl (λ d l r. (d, l)))
      (code_parts 9 (λ e. three (IntegerSub dst lhs rhs) e refl refl (λ d l r. (d, l, r)))
      parts_nothing))))))))

-- a number is what stands before its last digit of base 16, and that digit
digit : (word before : ℕ) → word / 16 ≡ before → before * 16 + word % 16 ≡ word
digit word before e = omega arith

packs : (word upper middle code dst lhs rhs : ℕ) → code * 16 + dst ≡ upper → upper * 16 + lhs ≡ middle → middle * 16 + rhs ≡ word
    → dst < 16 → lhs < 16 → rhs < 16 → packed code dst lhs rhs ≡ word
packs word upper middle code dst lhs rhs e f g d l r = omega arith

-- a word is its four parts
repacked : (word : ℕ) → packed (word / 4096) (word / 256 % 16) (word / 16 % 16) (word % 16) ≡ word
repacked word =
    packs word (word / 256) (word / 16) (word / 4096) (word / 256 % 16) (word / 16 % 16) (word % 16)
    (digit (word / 256) (word / 4096) (omega arith))
    (digit (word / 16) (word / 256) (omega arith))
    (digit word (word / 16) refl)
    (omega arith)
    (omega arith)
    (omega arith)

-- the words of an instruction are its words
pub instruction_words : (word immediate : ℕ) (instruction : Instruction) → instruction_of word immediate ≡ Some instruction
    → (instruction_word instruction ≡ word) × (instruction_immediate instruction ≡ immediate)
unfolding instruction_of
instruction_words word immediate instruction e =
    let p = from_parts (word / 4096) (word / 256 % 16) (word / 16 % 16) (word % 16) immediate instruction e in
    (p.word ∙ repacked word, p.second)

-- an instruction that was read has registers below 16
pub instruction_registers_small : (word immediate : ℕ) (instruction : Instruction) → instruction_of word immediate ≡ Some instruction
    → InRegisters instruction
unfolding instruction_of
instruction_registers_small word immediate instruction e =
    (from_parts (word / 4096) (word / 256 % 16) (word / 16 % 16) (word % 16) immediate instruction e).registers (omega arith) (omega arith) (omega arith)

-- no two pairs of words are one instruction
pub instruction_once : (word immediate word' immediate' : ℕ) (instruction : Instruction) → instruction_of word immediate ≡ Some instruction
    → instruction_of word' immediate' ≡ Some instruction → (word ≡ word') × (immediate ≡ immediate')
instruction_once word immediate word' immediate' instruction e e' =
    let a = instruction_words word immediate instruction e in
    let b = instruction_words word' immediate' instruction e' in
    (sym a.0 ∙ b.0, sym a.1 ∙ b.1)
