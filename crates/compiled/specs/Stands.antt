-- Actions stand in two tables: their words, read back, are the steps and instructions that they were. `words_stand` says so of the tables that compile writes,
-- and of any that agree with them below the counts. Assumes nothing.
use Rattle.std.specs.Prelude.{◌≡◌, List, [], ◌∷◌, ◌++◌, ℕ, suc, ◌+◌, ◌*◌, ◌≤◌, ◌<◌, length, get_or, Some}
use Rattle.std.proofs.Common.{ap, ◌∙◌, subst, arith, length-append}
use Rattle.kernel.specs.Steps as Steps
use Rattle.kernel.specs.Instructions as Instructions
use Rattle.kernel.specs.Steps.{step_word, step_index, step_register, step_at}
use Rattle.kernel.specs.Instructions.{instruction_word, instruction_immediate, instruction_at}
use Rattle.kernel.specs.RoundTrips.{step_read_back, instruction_read_back}
use Rattle.allocate.specs.Actions.{Operation, Action, load, compute, spill, reload, store_state, store_delay, store_output, store_control, instruction_of}
use Rattle.allocate.specs.ActionWords.{step_of, operation_in, operations_in, step_words, instruction_words}
use Rattle.compiled.specs.Operations.{operation_registers}
use Rattle.compiled.specs.Went.{ActionSmall, AllSmall}

-- a table of pairs, behind the first pair
even_behind : (a b : ℕ) (words : List ℕ) (i : ℕ) → get_or (a ∷ b ∷ words) (2 * suc i) 0 ≡ get_or words (2 * i) 0
even_behind a b words i = let z : 2 * suc i ≡ suc (suc (2 * i)) = omega arith in ap (λ (k : ℕ). get_or (a ∷ b ∷ words) k 0) z

odd_behind : (a b : ℕ) (words : List ℕ) (i : ℕ) → get_or (a ∷ b ∷ words) (2 * suc i + 1) 0 ≡ get_or words (2 * i + 1) 0
odd_behind a b words i = let z : 2 * suc i + 1 ≡ suc (suc (2 * i + 1)) = omega arith in ap (λ (k : ℕ). get_or (a ∷ b ∷ words) k 0) z

module _ (steps instructions : List ℕ) (count : ℕ) where
  -- an action's operation, if it has one, is instruction `number` of `count`
  abbrev pub Computed : ℕ → Action → Type 0
  Computed number (load source r) = Unit {0}
  Computed number (compute operation) = (number < count) × (instruction_at instructions number ≡ Some (instruction_of operation))
  Computed number (spill k r) = Unit {0}
  Computed number (reload k r) = Unit {0}
  Computed number (store_state i r) = Unit {0}
  Computed number (store_delay i r) = Unit {0}
  Computed number (store_output r) = Unit {0}
  Computed number (store_control k r) = Unit {0}

  -- actions stand from step `at` on, and their operations from instruction `number` on
  abbrev pub Stands : ℕ → ℕ → List Action → Type 0
  Stands at number [] = Unit {0}
  Stands at number (x ∷ xs) =
      (step_at steps at ≡ Some (step_of number x)) × Computed number x × Stands (suc at) (number + length (operation_in x)) xs

  -- the first of two parts, and the second
  pub stands_first : (xs ys : List Action) (at number : ℕ) → Stands at number (xs ++ ys) → Stands at number xs
  stands_first [] ys at number h = tt
  stands_first (x ∷ xs) ys at number h = (h.0, h.1, stands_first xs ys (suc at) (number + length (operation_in x)) h.2)

  pub stands_second : (xs ys : List Action) (at number : ℕ) → Stands at number (xs ++ ys) → Stands (at + length xs) (number + length (operations_in xs)) ys
  stands_second [] ys at number h =
      let z : at + 0 ≡ at = omega arith in
      let w : number + 0 ≡ number = omega arith in
      rw (z, w) h
  stands_second (x ∷ xs) ys at number h =
      let z : at + suc (length xs) ≡ suc at + length xs = omega arith in
      let w : number + length (operation_in x ++ operations_in xs) ≡ number + length (operation_in x) + length (operations_in xs) =
      omega (arith, length-append (operation_in x) (operations_in xs)) in
      rw (z, w) (stands_second xs ys (suc at) (number + length (operation_in x)) h.2)

  -- the tables agree, from step `at` and instruction `number` on, with these words
  abbrev StepsAgree : ℕ → List ℕ → ℕ → Type 0
  StepsAgree at words n = (i : ℕ) → i < n → step_at steps (at + i) ≡ step_at words i

  abbrev InstructionsAgree : ℕ → List ℕ → ℕ → Type 0
  InstructionsAgree number words n = (i : ℕ) → i < n → instruction_at instructions (number + i) ≡ instruction_at words i

  -- a step behind the first, and an instruction
  step_behind : (a b : ℕ) (words : List ℕ) (i : ℕ) → step_at (a ∷ b ∷ words) (suc i) ≡ step_at words i
  step_behind a b words i = λ j. Steps.step_of (even_behind a b words i j) (odd_behind a b words i j)

  instruction_behind : (a b : ℕ) (words : List ℕ) (i : ℕ) → instruction_at (a ∷ b ∷ words) (suc i) ≡ instruction_at words i
  instruction_behind a b words i = λ j. Instructions.instruction_of (even_behind a b words i j) (odd_behind a b words i j)

  small_register : (number : ℕ) (x : Action) → ActionSmall x → step_register (step_of number x) < 16
  small_register number (load source r) h = h
  small_register number (compute operation) h = omega arith
  small_register number (spill k r) h = h
  small_register number (reload k r) h = h
  small_register number (store_state i r) h = h
  small_register number (store_delay i r) h = h
  small_register number (store_output r) h = h
  small_register number (store_control k r) h = h

  steps_behind : (at a b : ℕ) (words : List ℕ) (n : ℕ) → StepsAgree at (a ∷ b ∷ words) (suc n) → StepsAgree (suc at) words n
  steps_behind at a b words n h i l = let z : suc at + i ≡ at + suc i = omega arith in rw z (h (suc i) (omega arith)) ∙ step_behind a b words i

  instructions_behind : (number a b : ℕ) (words : List ℕ) (n : ℕ) → InstructionsAgree number (a ∷ b ∷ words) (suc n) → InstructionsAgree (number + 1) words n
  instructions_behind number a b words n h i l =
      let z : number + 1 + i ≡ number + suc i = omega arith in rw z (h (suc i) (omega arith)) ∙ instruction_behind a b words i

  -- the operations of an action and of those after it
  computed : (number : ℕ) (x : Action) (rest : List Operation) → ActionSmall x → number + length (operation_in x ++ rest) ≤ count
      → InstructionsAgree number (instruction_words (operation_in x ++ rest)) (length (operation_in x ++ rest))
      → Computed number x × InstructionsAgree (number + length (operation_in x)) (instruction_words rest) (length rest)
  computed number (load source r) rest s l h = let z : number + 0 ≡ number = omega arith in (tt, rw z h)
  computed number (compute operation) rest s l h =
      let z : number + 0 ≡ number = omega arith in (
        (
          omega arith,
          subst (λ (j : ℕ). instruction_at instructions j ≡ Some (instruction_of operation)) z
              (h 0 (omega arith) ∙ instruction_read_back (instruction_of operation) (operation_registers operation s)),
        ),
        instructions_behind number (instruction_word (instruction_of operation)) (instruction_immediate (instruction_of operation)) (instruction_words rest)
            (length rest) h,
      )
  computed number (spill k r) rest s l h = let z : number + 0 ≡ number = omega arith in (tt, rw z h)
  computed number (reload k r) rest s l h = let z : number + 0 ≡ number = omega arith in (tt, rw z h)
  computed number (store_state i r) rest s l h = let z : number + 0 ≡ number = omega arith in (tt, rw z h)
  computed number (store_delay i r) rest s l h = let z : number + 0 ≡ number = omega arith in (tt, rw z h)
  computed number (store_output r) rest s l h = let z : number + 0 ≡ number = omega arith in (tt, rw z h)
  computed number (store_control k r) rest s l h = let z : number + 0 ≡ number = omega arith in (tt, rw z h)

  -- WHAT IS WRITTEN STANDS
  pub words_stand : (xs : List Action) (at number : ℕ) → AllSmall xs → number + length (operations_in xs) ≤ count
      → StepsAgree at (step_words number xs) (length xs) → InstructionsAgree number (instruction_words (operations_in xs)) (length (operations_in xs))
      → Stands at number xs
  words_stand [] at number s l h k = tt
  words_stand (x ∷ xs) at number s l h k =
      let z : at + 0 ≡ at = omega arith in
      let step : step_at steps at ≡ Some (step_of number x) =
      subst (λ (j : ℕ). step_at steps j ≡ Some (step_of number x)) z
      (h 0 (omega arith) ∙ step_read_back (step_of number x) (small_register number x s.0)) in
      let c = computed number x (operations_in xs) s.0 l k in
      let m : number + length (operation_in x) + length (operations_in xs) ≤ count = omega (arith, l, length-append (operation_in x) (operations_in xs)) in (
        step,
        c.0,
        words_stand xs (suc at) (number + length (operation_in x)) s.1 m
            (steps_behind at (step_word (step_of number x)) (step_index (step_of number x)) (step_words (number + length (operation_in x)) xs) (length xs) h) c.1,
      )
