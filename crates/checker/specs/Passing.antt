-- Document 01, "A list passes exactly when": its clauses in its order and words, said of the steps of a list. That the walk passes just these lists and gives
-- the position that 01 asks for is in PassingLaws. Definitions alone.
use Rattle.std.specs.Prelude.{◌≡◌, ◌⊎◌, List, [], ◌∷◌, ℕ, suc, ◌+◌, ◌/◌, ◌%◌, ◌^◌, ◌<◌, get_or, Option, Some, None}
use Rattle.block.specs.Block.{code, first, second}
use Rattle.expand.specs.Graph.{Graph}
use Rattle.kernel.specs.declared.Source.{Source}
use Rattle.kernel.specs.declared.Step.{Step}
use Rattle.kernel.specs.declared.Step.TheVariants.{Load, Compute, Spill, Reload, StoreState, StoreDelay, StoreOutput, StoreControl}
use Rattle.kernel.specs.declared.Instruction.{Instruction}
use Rattle.kernel.specs.declared.Instruction.TheVariants.{Immediate, Add, Sub, Mul, Min, Max, Neg, Abs, IntegerSub}
use Rattle.kernel.specs.declared.Phase.{Phase}
use Rattle.kernel.specs.declared.Phase.TheVariants.{Control, Sample}
use Rattle.kernel.specs.Steps.{step_code, step_at}
use Rattle.kernel.specs.Instructions.{destination, instruction_at}
use Rattle.kernel.specs.ListLaws.{Inside}
use Rattle.classes.specs.Classes.{classes_to}
use Rattle.checker.specs.Walk.{Listing, sizes_of, Held, after_move, emptied, entered, before_control, before_sample}

-- ---- the steps of a list

abbrev pub count_of : Listing → Phase → ℕ
count_of l Control = l.kernel.control
count_of l Sample = l.kernel.sample

abbrev pub total : Listing → ℕ
total l = l.kernel.control + l.kernel.sample

-- "position from 0, control first"
abbrev pub position : Listing → Phase → ℕ → ℕ
position l Control i = i
position l Sample i = l.kernel.control + i

-- what registers and slots hold before step i of a phase: "Control is walked, then sample; registers start each phase empty, spill slots the sample"
abbrev pub before : Listing → Phase → ℕ → Held
before l Control i = before_control l i
before l Sample i = before_sample l i

-- the words at a position are this step
abbrev pub StepAt : Listing → ℕ → Step → Type 0
StepAt l p step = step_at l.steps p ≡ Some step

-- a step before position p stores there: `StoreState s` names a state, `StoreDelay d` a delay, `StoreOutput` the output
abbrev pub StoredBefore : Listing → (ℕ → Step) → ℕ → Type 0
StoredBefore l store p = (k : ℕ) × (r : ℕ) × (k < p) × StepAt l k (store r)

-- ---- registers

abbrev pub All : (ℕ → Type 0) → List ℕ → Type 0
All P [] = Unit {0}
All P (x ∷ xs) = P x × All P xs

-- "A mask's low sixteen bits count, bit n for rn."
abbrev pub InMask : ℕ → ℕ → Type 0
InMask mask r = (r < 16) × (mask / 2 ^ r % 2 ≡ 1)

abbrev pub instruction_reads : Instruction → List ℕ
instruction_reads (Immediate dst value) = []
instruction_reads (Add dst lhs rhs) = lhs ∷ rhs ∷ []
instruction_reads (Sub dst lhs rhs) = lhs ∷ rhs ∷ []
instruction_reads (Mul dst lhs rhs) = lhs ∷ rhs ∷ []
instruction_reads (Min dst lhs rhs) = lhs ∷ rhs ∷ []
instruction_reads (Max dst lhs rhs) = lhs ∷ rhs ∷ []
instruction_reads (Neg dst src) = src ∷ []
instruction_reads (Abs dst src) = src ∷ []
instruction_reads (IntegerSub dst lhs rhs) = lhs ∷ rhs ∷ []

-- "registers used (not compute's 0 or unused parts)": of a computed instruction those that it reads and the one that it sets
abbrev pub words_used : Option Instruction → List ℕ
words_used (Some instruction) = destination instruction ∷ instruction_reads instruction
words_used None = []

abbrev pub used : List ℕ → Step → List ℕ
used instructions (Load source r) = r ∷ []
used instructions (Compute n) = words_used (instruction_at instructions n)
used instructions (Spill slot r) = r ∷ []
used instructions (Reload slot r) = r ∷ []
used instructions (StoreState state r) = r ∷ []
used instructions (StoreDelay delay r) = r ∷ []
used instructions (StoreOutput r) = r ∷ []
used instructions (StoreControl slot r) = r ∷ []

-- ---- classes

abbrev pub class_at : Graph → ℕ → ℕ
class_at g node = get_or (classes_to g.nodes g.count) node 0

-- a register or slot is filled, with this class
abbrev pub Filled : List ℕ → ℕ → ℕ → Type 0
Filled places i class = get_or places i 0 ≡ suc class

-- register r holds a node's class
abbrev pub Holds : Graph → Held → ℕ → ℕ → Type 0
Holds g h r node = Filled h.registers r (class_at g node)

-- the class of some node of which this is true
abbrev pub SomeNode : Graph → (ℕ → Type 0) → ℕ → Type 0
SomeNode g Named class = (j : ℕ) × (j < g.count) × Named j × (class_at g j ≡ class)

-- node j has this code and this constant or index; a word that is not used is 0
abbrev pub WordIs : Graph → ℕ → ℕ → ℕ → Type 0
WordIs g c word j = (code g.nodes j ≡ c) × (first g.nodes j ≡ word)

-- node j has this code, and these registers hold its operands' classes
abbrev pub OperandIs : Graph → Held → ℕ → ℕ → ℕ → Type 0
OperandIs g h c src j = (code g.nodes j ≡ c) × Holds g h src (first g.nodes j)

abbrev pub OperandsAre : Graph → Held → ℕ → ℕ → ℕ → ℕ → Type 0
OperandsAre g h c lhs rhs j = (code g.nodes j ≡ c) × Holds g h lhs (first g.nodes j) × Holds g h rhs (second g.nodes j)

-- "a load's source is some node's; a control load .. names a filled slot"; node codes 0 input, 17 network, 2 parameter, 3 state, 4 delay
abbrev pub Loads : Graph → Held → Source → ℕ → Type 0
Loads g h Source.Audio class = SomeNode g (WordIs g 0 0) class
Loads g h Source.Network class = SomeNode g (WordIs g 17 0) class
Loads g h (Source.Parameter index) class = SomeNode g (WordIs g 2 index) class
Loads g h (Source.State index) class = SomeNode g (WordIs g 3 index) class
Loads g h (Source.Delay index) class = SomeNode g (WordIs g 4 index) class
Loads g h (Source.Control slot) class = Filled h.control slot class

-- "a compute .. reads filled registers, and a computed result has some node's class"; node codes 1 constant, 5 add, 6 sub, 7 mul, 8 min, 9 max, 10 sub_bits,
-- 12 neg, 13 abs
abbrev pub Computes : Graph → Held → Instruction → ℕ → Type 0
Computes g h (Immediate dst value) class = SomeNode g (WordIs g 1 value) class
Computes g h (Add dst lhs rhs) class = SomeNode g (OperandsAre g h 5 lhs rhs) class
Computes g h (Sub dst lhs rhs) class = SomeNode g (OperandsAre g h 6 lhs rhs) class
Computes g h (Mul dst lhs rhs) class = SomeNode g (OperandsAre g h 7 lhs rhs) class
Computes g h (Min dst lhs rhs) class = SomeNode g (OperandsAre g h 8 lhs rhs) class
Computes g h (Max dst lhs rhs) class = SomeNode g (OperandsAre g h 9 lhs rhs) class
Computes g h (Neg dst src) class = SomeNode g (OperandIs g h 12 src) class
Computes g h (Abs dst src) class = SomeNode g (OperandIs g h 13 src) class
Computes g h (IntegerSub dst lhs rhs) class = SomeNode g (OperandsAre g h 10 lhs rhs) class

abbrev pub WordsCompute : Graph → Held → Option Instruction → ℕ → Type 0
WordsCompute g h (Some instruction) class = Computes g h instruction class
WordsCompute g h None class = ⊥

-- a step moves this class: ".. or reload names a filled slot; a .. spill or store reads filled registers"
abbrev pub Moves : Graph → List ℕ → Held → Step → ℕ → Type 0
Moves g instructions h (Load source r) class = Loads g h source class
Moves g instructions h (Compute n) class = WordsCompute g h (instruction_at instructions n) class
Moves g instructions h (Spill slot r) class = Filled h.registers r class
Moves g instructions h (Reload slot r) class = Filled h.spills slot class
Moves g instructions h (StoreState state r) class = Filled h.registers r class
Moves g instructions h (StoreDelay delay r) class = Filled h.registers r class
Moves g instructions h (StoreOutput r) class = Filled h.registers r class
Moves g instructions h (StoreControl slot r) class = Filled h.registers r class

-- "control has codes 3, 6, 7 and 13 only, sample all but 13"
abbrev pub CodeOf : Phase → ℕ → Type 0
CodeOf Control c = (c ≡ 3) ⊎ (c ≡ 6) ⊎ (c ≡ 7) ⊎ (c ≡ 13)
CodeOf Sample c = c ≡ 13 → ⊥

-- ---- "A list passes exactly when:"

-- the first three clauses, of step i of a phase
pub record StepSound (l : Listing) (phase : Phase) (i : ℕ) : Type 0 where
  -- "steps and computed instructions are well formed,"
  pub step : Step
  pub formed : StepAt l (position l phase i) step
  pub computed : (n : ℕ) → step ≡ Compute n → (instruction : Instruction) × (instruction_at l.instructions n ≡ Some instruction)
  -- "registers used (not compute's 0 or unused parts) lie in the mask,"
  pub in_mask_lem : All (InMask l.mask) (used l.instructions step)
  -- "indices inside their tables or declared counts;"
  pub inside : Inside (sizes_of l) step
  -- "control has codes 3, 6, 7 and 13 only, sample all but 13;"
  pub in_phase : CodeOf phase (step_code step)
  -- "a load's source is some node's; a control load or reload names a filled slot; a compute, spill or store reads filled registers, and a computed result has
  -- some node's class;"
  pub moves : (class : ℕ) × Moves l.graph l.instructions (before l phase i) step class

-- a memory with an update "is stored once, with that node's class, and not loaded afterwards"
pub record StoredOnce (l : Listing) (store : ℕ → Step) (load : Source) (node : ℕ) : Type 0 where
  pub place : ℕ
  pub register : ℕ
  pub in_list : place < l.kernel.sample
  pub stored : StepAt l (position l Sample place) (store register)
  pub once : (k r : ℕ) → k < l.kernel.sample → StepAt l (position l Sample k) (store r) → k ≡ place
  pub class : Holds l.graph (before l Sample place) register node
  pub not_loaded : (k r : ℕ) → place < k → k < l.kernel.sample → StepAt l (position l Sample k) (Load load r) → ⊥

pub record Passes (l : Listing) : Type 0 where
  -- the first three clauses
  pub steps : (phase : Phase) (i : ℕ) → i < count_of l phase → StepSound l phase i
  -- "each state and delay with an update is stored once, with that node's class, and not loaded afterwards;"
  pub states : (s n : ℕ) → get_or l.graph.state_updates s 0 ≡ suc n → StoredOnce l (StoreState s) (Source.State s) n
  pub delays : (d n : ℕ) → get_or l.graph.delay_updates d 0 ≡ suc n → StoredOnce l (StoreDelay d) (Source.Delay d) n
  -- "one without is never stored;"
  pub no_state : (s : ℕ) → get_or l.graph.state_updates s 0 ≡ 0 → StoredBefore l (StoreState s) (total l) → ⊥
  pub no_delay : (d : ℕ) → get_or l.graph.delay_updates d 0 ≡ 0 → StoredBefore l (StoreDelay d) (total l) → ⊥
  -- "the last sample step, and no other, has code 12, and its register holds the output's class."
  pub last : ℕ
  pub last_step : suc last ≡ l.kernel.sample
  pub register : ℕ
  pub output_last : StepAt l (position l Sample last) (StoreOutput register)
  pub no_other : (k r : ℕ) → k < l.kernel.sample → StepAt l (position l Sample k) (StoreOutput r) → k ≡ last
  pub output_class : Holds l.graph (before l Sample last) register l.graph.output

-- ---- "Refusal 19 gives the first failing step's position from 0, control first, or the total if a store, output included, is missing at the end."

-- step i of a phase stores register r to a memory with this update: "with an update .. stored once, with that node's class"
pub record Store (l : Listing) (phase : Phase) (i : ℕ) (store : ℕ → Step) (update r : ℕ) : Type 0 where
  pub node : ℕ
  pub update_is : update ≡ suc node
  pub class : Holds l.graph (before l phase i) r node
  pub once : StoredBefore l store (position l phase i) → ⊥

-- step i of a phase passes: what the clauses ask of one step and the steps before it
pub record StepPasses (l : Listing) (phase : Phase) (i : ℕ) : Type 0 where
  pub sound : StepSound l phase i
  pub state_store : (s r : ℕ) → StepAt l (position l phase i) (StoreState s r) → Store l phase i (StoreState s) (get_or l.graph.state_updates s 0) r
  pub delay_store : (d r : ℕ) → StepAt l (position l phase i) (StoreDelay d r) → Store l phase i (StoreDelay d) (get_or l.graph.delay_updates d 0) r
  pub state_load : (s r : ℕ) → StepAt l (position l phase i) (Load (Source.State s) r) → StoredBefore l (StoreState s) (position l phase i) → ⊥
  pub delay_load : (d r : ℕ) → StepAt l (position l phase i) (Load (Source.Delay d) r) → StoredBefore l (StoreDelay d) (position l phase i) → ⊥
  pub output_store : (r : ℕ) → StepAt l (position l phase i) (StoreOutput r)
      → (suc (position l phase i) ≡ total l) × Holds l.graph (before l phase i) r l.graph.output

-- no store is missing at the end
pub record NothingMissing (l : Listing) : Type 0 where
  pub states : (s n : ℕ) → get_or l.graph.state_updates s 0 ≡ suc n → StoredBefore l (StoreState s) (total l)
  pub delays : (d n : ℕ) → get_or l.graph.delay_updates d 0 ≡ suc n → StoredBefore l (StoreDelay d) (total l)
  pub output : StoredBefore l StoreOutput (total l)

-- the steps of a phase below i pass
abbrev pub PassBelow : Listing → Phase → ℕ → Type 0
PassBelow l phase i = (j : ℕ) → j < i → StepPasses l phase j

-- all steps before step i of a phase pass
abbrev pub PassBefore : Listing → Phase → ℕ → Type 0
PassBefore l Control i = PassBelow l Control i
PassBefore l Sample i = PassBelow l Control l.kernel.control × PassBelow l Sample i

-- the position that refusal 19 gives
pub data Fails (l : Listing) : ℕ → Type 0 where
  step_fails : (phase : Phase) (i : ℕ) → i < count_of l phase → PassBefore l phase i → (StepPasses l phase i → ⊥) → Fails l (position l phase i)
  store_missing : PassBefore l Sample l.kernel.sample → (NothingMissing l → ⊥) → Fails l (total l)

-- ---- what is held, by the classes that the steps move: what `before` gives where the steps before pass

-- "Control is walked, then sample; registers start each phase empty, spill slots the sample."
pub data HeldBefore (l : Listing) : Phase → ℕ → Held → Type 0 where
  control_start : HeldBefore l Control 0 (emptied l)
  sample_start : {h : Held} → HeldBefore l Control l.kernel.control h → HeldBefore l Sample 0 (entered l h)
  next : {phase : Phase} {i : ℕ} {h : Held} (step : Step) (class : ℕ) → HeldBefore l phase i h → StepAt l (position l phase i) step
      → Moves l.graph l.instructions h step class → HeldBefore l phase (suc i) (after_move l.instructions h step (suc class))
