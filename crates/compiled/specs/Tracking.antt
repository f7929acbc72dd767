-- What it means that the walk keeps up with the allocator: its state and the marks agree (`Agrees`, `Tracks`), what is emitted leads on (`LeadsTo`). Definitions.
use Rattle.std.specs.Prelude.{◌≡◌, ◌≢◌, false, ◌&&◌, List, ℕ, suc, ◌≤◌, ◌<◌, length, get_or, T, eqb, ltb}
use Rattle.std.proofs.Common.{arith, lt→ltb}
use denote.Floats.{is_true}
use Rattle.kernel.specs.Steps.{source_code, source_index}
use Rattle.plan.specs.Lists.{member, is_some}
use Rattle.plan.specs.Origins.{immediate, loaded, origin_at, home_of}
use Rattle.allocate.specs.Actions.{source_of}
use Rattle.allocate.specs.State.{Setting, State, owner_of, slot_of, is_fresh}
use Rattle.compiled.specs.Marks.{Marks, Rules, goes, source_class, mark_register, mark_slot, put_register, put_slot, walk_actions}

-- what the rules must say of the nodes that a phase reads, where `class` says what each node is: an immediate is its constant, a load in the control phase is of no
-- slot, and a load's code and index name its source
pub record Sources (e : Setting) (R : Rules) (class : ℕ → ℕ) : Type 0 where
  pub immediates : (n b : ℕ) → origin_at e.origins n ≡ immediate b → R.immediate_class b ≡ suc (class n)
  pub not_slot : (n c i : ℕ) → origin_at e.origins n ≡ loaded c i → (e.in_control && eqb c 6) ≡ false
  pub codes : (n c i : ℕ) → origin_at e.origins n ≡ loaded c i → (source_code (source_of c i) ≡ c) × (source_index (source_of c i) ≡ i)

-- the slots in use only grow ..
pub record SlotsGrow (s s' : State) : Type 0 where
  pub slots : s.slots ≤ s'.slots

pub grows_same : (s : State) → SlotsGrow s s
grows_same s = record { slots = omega arith }

pub grows_trans : (a b c : State) → SlotsGrow a b → SlotsGrow b c → SlotsGrow a c
grows_trans a b c x y = record { slots = omega (arith, x.slots, y.slots) }

-- .. and those in use at the end are declared
pub record SlotsDeclared (R : Rules) (s : State) : Type 0 where
  pub slots : s.slots ≤ R.declared

pub declared_back : (R : Rules) (s s' : State) → SlotsGrow s s' → SlotsDeclared R s' → SlotsDeclared R s
declared_back R s s' x f = record { slots = omega (arith, x.slots, f.slots) }

-- The allocator's state and the marks agree. `hole` is 0, or 1 + a node that has a register and is not yet in it; `home` are the control slots of hoisted values
pub record Agrees (e : Setting) (home : List ℕ) (R : Rules) (class : ℕ → ℕ) (hole : ℕ) (s : State) (m : Marks) : Type 0 where
  -- a register's owner is in it
  pub registers : (n r : ℕ) → owner_of s r ≡ suc n → suc n ≢ hole → get_or m.registers r 0 ≡ suc (class n)
  -- a spilled value is in its slot
  pub slots : (n k : ℕ) → slot_of s n ≡ suc k → get_or m.slots k 0 ≡ suc (class n)
  -- what memory still holds can be loaded
  pub memory : (n c i : ℕ) → home_of e.origins c i ≡ suc n → T (is_fresh s n) → source_class R m c i ≡ suc (class n)
  -- a hoisted value's own slot, once filled, holds it
  pub homes : (v k : ℕ) → get_or home v 0 ≡ suc k → T (is_some (get_or m.slots k 0)) → get_or m.slots k 0 ≡ suc (class v)
  pub registers_length : length m.registers ≡ 16
  pub slots_length : length m.slots ≡ R.declared

-- the walk has come from `start` through all that is emitted, and agrees
pub record Tracks (e : Setting) (home : List ℕ) (R : Rules) (class : ℕ → ℕ) (start : Marks) (hole : ℕ) (s : State) (m : Marks) : Type 0 where
  pub walked : walk_actions e.registers e.in_control R start s.steps ≡ goes m
  pub agrees : Agrees e home R class hole s m

-- ---- a put that the walk lets through

pub puts_register : (e : Setting) (m : Marks) (r y x : ℕ) → y ≡ suc x → T (member r e.registers)
    → put_register e.registers m r y ≡ goes (mark_register m r (suc x))
puts_register e m r y x h t = rw (h, is_true (member r e.registers) t)

pub puts_slot : (R : Rules) (m : Marks) (k y x : ℕ) → y ≡ suc x → k < R.declared → put_slot R m k y ≡ goes (mark_slot m k (suc x))
puts_slot R m k y x h l = rw (h, is_true (ltb k R.declared) (lt→ltb k R.declared l))

-- ---- from one state to another

-- no slot is emptied
abbrev pub KeepsFilled : Marks → Marks → Type 0
KeepsFilled m m' = (k : ℕ) → T (is_some (get_or m.slots k 0)) → T (is_some (get_or m'.slots k 0))

-- from any walk that reaches s, one that reaches s', if its slots are declared
abbrev pub LeadsTo : Setting → List ℕ → Rules → (ℕ → ℕ) → Marks → State → State → Type 0
LeadsTo e home R class start s s' =
    SlotsGrow s s'
    × (SlotsDeclared R s' → (m : Marks) → Tracks e home R class start 0 s m → (m' : Marks) × Tracks e home R class start 0 s' m' × KeepsFilled m m')

-- .. after which the registers hold what they held, and node `hole - 1`, which has a register, is still to be brought into it
abbrev pub MovesTo : Setting → List ℕ → Rules → (ℕ → ℕ) → Marks → ℕ → State → Marks → Type 0
MovesTo e home R class start hole s' m =
    (m' : Marks) × Tracks e home R class start hole s' m' × (m'.registers ≡ m.registers) × KeepsFilled m m'
