-- A walk over emitted actions that tracks what each register and slot holds. It is a device of the proof: what the allocator emits goes through it (Tracked and
-- what follows), and what goes through it the checker passes (Passes). Definitions, and the walk of one action more.
use Rattle.std.specs.Prelude.{◌≡◌, Bool, true, false, not, cond, ◌&&◌, ◌||◌, List, [], ◌∷◌, ◌++◌, ℕ, zero, suc, get_or, set, replicate, eqb, ltb}
use Rattle.std.proofs.Common.{◌∙◌, arith}
use Rattle.kernel.specs.Steps.{source_code, source_index}
use Rattle.plan.specs.Lists.{member, is_some}
use Rattle.allocate.specs.Actions.{Operation, load_immediate, binary, unary, Action, load, compute, spill, reload, store_state, store_delay, store_output, store_control}
use Rattle.allocate.specs.State.{Setting}

-- of each register and of each of the phase's slots the class, and one, or 0 where it is not filled; of each state and delay 1 where it has been stored, else 0
pub record Marks : Type 0 where
  pub registers : List ℕ
  pub slots : List ℕ
  pub states_stored : List ℕ
  pub delays_stored : List ℕ

-- what the walk asks: the control slots as the sample phase finds them, how many slots are declared, how many states and delays there are; the class, and one, of
-- what a load, an immediate, an instruction with held operands gives, 0 where it may not be; and of what a store must store
pub record Rules : Type 0 where
  pub control_slots : List ℕ
  pub declared : ℕ
  pub states : ℕ
  pub delays : ℕ
  pub load_class : ℕ → ℕ → ℕ
  pub immediate_class : ℕ → ℕ
  pub binary_class : ℕ → ℕ → ℕ → ℕ
  pub unary_class : ℕ → ℕ → ℕ
  pub asked_class : ℕ → ℕ → ℕ

-- the walk goes on, or stops
pub data Walk : Type 0 where
  goes : Marks → Walk
  stops : Walk

abbrev pub go_on : Walk → (Marks → Walk) → Walk
go_on (goes m) f = f m
go_on stops f = stops

-- a state (load 4) or delay (load 5) that has been stored
abbrev pub gone : Marks → ℕ → ℕ → Bool
gone m c i = (eqb c 4 && is_some (get_or m.states_stored i 0)) || (eqb c 5 && is_some (get_or m.delays_stored i 0))

-- the load of code c and index i, by the rules: a control slot that the control phase filled, or what memory still holds
abbrev pub source_class : Rules → Marks → ℕ → ℕ → ℕ
source_class R m c i = cond (eqb c 6) (get_or R.control_slots i 0) (cond (gone m c i) 0 (R.load_class c i))

-- a control load of the control phase is from its own slots
abbrev pub loaded_class : Bool → Rules → Marks → ℕ → ℕ → ℕ
loaded_class in_control R m c i = cond (in_control && eqb c 6) (get_or m.slots i 0) (source_class R m c i)

abbrev pub goes_if : Bool → Marks → Walk
goes_if true m = goes m
goes_if false m = stops

abbrev pub mark_register : Marks → ℕ → ℕ → Marks
mark_register m r class = record { registers = set m.registers r class; slots = m.slots; states_stored = m.states_stored; delays_stored = m.delays_stored }

abbrev pub mark_slot : Marks → ℕ → ℕ → Marks
mark_slot m k class = record { registers = m.registers; slots = set m.slots k class; states_stored = m.states_stored; delays_stored = m.delays_stored }

-- state (store 10) or delay (store 11) i has been stored
abbrev pub mark_stored : Marks → ℕ → ℕ → Marks
mark_stored m c i =
    record {
      registers = m.registers;
      slots = m.slots;
      states_stored = cond (eqb c 10) (set m.states_stored i 1) m.states_stored;
      delays_stored = cond (eqb c 11) (set m.delays_stored i 1) m.delays_stored;
    }

-- something is put into a usable register
abbrev pub put_register : List ℕ → Marks → ℕ → ℕ → Walk
put_register usable m r zero = stops
put_register usable m r (suc class) = goes_if (member r usable) (mark_register m r (suc class))

-- .. into a declared slot
abbrev pub put_slot : Rules → Marks → ℕ → ℕ → Walk
put_slot R m k zero = stops
put_slot R m k (suc class) = goes_if (ltb k R.declared) (mark_slot m k (suc class))

abbrev pub walk_operation : List ℕ → Rules → Marks → Operation → Walk
walk_operation usable R m (load_immediate w d) = put_register usable m d (R.immediate_class w)
walk_operation usable R m (binary c d x y) = put_register usable m d (R.binary_class c (get_or m.registers x 0) (get_or m.registers y 0))
walk_operation usable R m (unary c d x) = put_register usable m d (R.unary_class c (get_or m.registers x 0))

-- the store of code c and index i
abbrev pub walk_store : Bool → Rules → Marks → ℕ → ℕ → ℕ → Walk
walk_store in_control R m c i r =
    goes_if (not in_control && (is_some (get_or m.registers r 0) && eqb (get_or m.registers r 0) (R.asked_class c i))) (mark_stored m c i)

unfoldable pub walk_action : List ℕ → Bool → Rules → Marks → Action → Walk
walk_action usable in_control R m (load source r) = put_register usable m r (loaded_class in_control R m (source_code source) (source_index source))
walk_action usable in_control R m (compute operation) = walk_operation usable R m operation
walk_action usable in_control R m (spill k r) = cond in_control stops (put_slot R m k (get_or m.registers r 0))
walk_action usable in_control R m (reload k r) = cond in_control stops (put_register usable m r (get_or m.slots k 0))
walk_action usable in_control R m (store_state i r) = walk_store in_control R m 10 i r
walk_action usable in_control R m (store_delay i r) = walk_store in_control R m 11 i r
walk_action usable in_control R m (store_output r) = walk_store in_control R m 12 0 r
walk_action usable in_control R m (store_control k r) = cond in_control (put_slot R m k (get_or m.registers r 0)) stops

abbrev pub walk_actions : List ℕ → Bool → Rules → Marks → List Action → Walk
walk_actions usable in_control R m [] = goes m
walk_actions usable in_control R m (x ∷ xs) = go_on (walk_action usable in_control R m x) (λ m'. walk_actions usable in_control R m' xs)

-- registers and slots empty, nothing stored
abbrev pub start_marks : Rules → Marks
start_marks R =
    record { registers = replicate 16 0; slots = replicate R.declared 0; states_stored = replicate R.states 0; delays_stored = replicate R.delays 0 }

-- ---- laws

pub not_goes : {B : Type 0} (m : Marks) → stops ≡ goes m → B
not_goes m h = let z : ◌≡◌ {A = ℕ} 0 1 = cc in absurd (omega arith)

pub goes_is : (m m' : Marks) → goes m ≡ goes m' → m ≡ m'
goes_is m m' h = cc

walked_snoc : (usable : List ℕ) (in_control : Bool) (R : Rules) (m : Marks) (xs : List Action) (x : Action) (m' : Marks)
    → walk_actions usable in_control R m xs ≡ goes m'
    → walk_actions usable in_control R m (xs ++ (x ∷ [])) ≡ go_on (walk_action usable in_control R m' x) (λ n. goes n)
walked_snoc usable in_control R m [] x m' h = let z : m ≡ m' = cc in rw z
walked_snoc usable in_control R m (y ∷ ys) x m' h = go (walk_action usable in_control R m y) (λ n q. walked_snoc usable in_control R n ys x m' q) h
  where
    last : Walk
    last = go_on (walk_action usable in_control R m' x) (λ n. goes n)

    go : (a : Walk) → ((n : Marks) → walk_actions usable in_control R n ys ≡ goes m' → walk_actions usable in_control R n (ys ++ (x ∷ [])) ≡ last)
        → go_on a (λ n. walk_actions usable in_control R n ys) ≡ goes m' → go_on a (λ n. walk_actions usable in_control R n (ys ++ (x ∷ []))) ≡ last
    go (goes n) ih q = ih n q
    go stops ih q = not_goes m' q

-- one action more
pub walked_emit : (e : Setting) (R : Rules) (m : Marks) (xs : List Action) (x : Action) (m' m'' : Marks) → walk_actions e.registers e.in_control R m xs ≡ goes m'
    → walk_action e.registers e.in_control R m' x ≡ goes m'' → walk_actions e.registers e.in_control R m (xs ++ (x ∷ [])) ≡ goes m''
walked_emit e R m xs x m' m'' h q = walked_snoc e.registers e.in_control R m xs x m' h ∙ rw q
