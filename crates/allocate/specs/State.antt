-- The allocator's state and its small changes (document 01, module 4; codegen.rs, `struct Allocator`). An option is 0, or n + 1. Definitions alone.
use Rattle.std.specs.Prelude.{Bool, false, cond, ◌||◌, List, [], ◌∷◌, ◌++◌, map, ℕ, zero, suc, max, length, get_or, set, replicate, leb}
use Rattle.kernel.specs.declared.Source.TheVariants as Source
use Rattle.plan.specs.Lists.{count, is_some}
use Rattle.plan.specs.Nodes.{Node}
use Rattle.plan.specs.Origins.{Origin, has_origin}
use Rattle.allocate.specs.Actions.{Operation, Action, load, compute, spill, reload, store_control}

-- ---- what may be refused

-- a result, or 14: "an operation needs a register and every usable one is locked"
pub data Allocated (A : Type 0) : Type 0 where
  allocated : A → Allocated A
  all_locked : Allocated A

-- go on with the result, if there is one (Rust: `?`)
abbrev pub and_then : {A B : Type 0} → Allocated A → (A → Allocated B) → Allocated B
and_then (allocated result) next = next result
and_then all_locked next = all_locked

-- ---- the state

-- what stays the same in a phase: the nodes, where their values come from, the usable registers in ascending order, whether it is the control phase, and
-- how many slots are hoisted values' own (codegen.rs: `fixed_slots`)
pub record Setting : Type 0 where
  pub nodes : List Node
  pub origins : List Origin
  pub registers : List ℕ
  pub in_control : Bool
  pub fixed : ℕ

-- codegen.rs: `Allocator`. Its `reads` and `next` are an argument instead: the reads of the tasks to come
pub record State : Type 0 where
  -- the register that holds each node, if one does; the node in each register, if it has one
  pub holder : List ℕ
  pub owner : List ℕ
  -- the slot that holds each node's value, if one does
  pub spilled : List ℕ
  -- whether memory still holds each node's value, so that it can be loaded again
  pub fresh : List Bool
  -- freed slots, the last freed first
  pub free : List ℕ
  -- slots in use, the steps so far, the most registers held at once
  pub slots : ℕ
  pub steps : List Action
  pub most : ℕ

-- a register, and the state in which it was taken
pub record Taken : Type 0 where
  pub register : ℕ
  pub state : State

-- the registers of a task's reads in order, and the state in which they are held
pub record TakenAll : Type 0 where
  pub registers : List ℕ
  pub state : State

-- codegen.rs: `Allocator::new`
unfoldable pub begin : Setting → State
begin setting =
    let nodes : ℕ = length setting.origins in
    record {
      holder = replicate nodes 0;
      owner = replicate 16 0;
      spilled = replicate nodes 0;
      fresh = map has_origin setting.origins;
      free = [];
      slots = setting.fixed;
      steps = [];
      most = 0;
    }

-- the register that holds node n, if one does
abbrev pub register_of : State → ℕ → ℕ
register_of s n = get_or s.holder n 0

-- the node in a register, if it has one
abbrev pub owner_of : State → ℕ → ℕ
owner_of s register = get_or s.owner register 0

-- the slot that holds node n's value, if one does
abbrev pub slot_of : State → ℕ → ℕ
slot_of s n = get_or s.spilled n 0

-- memory still holds node n's value
abbrev pub is_fresh : State → ℕ → Bool
is_fresh s n = get_or s.fresh n false

-- codegen.rs: `reloadable`: "one needing no spill"
abbrev pub reloadable : State → ℕ → Bool
reloadable s n = is_some (slot_of s n) || is_fresh s n

-- ---- steps

-- a step more
unfoldable pub emit : Action → State → State
emit action s =
    record {
      holder = s.holder;
      owner = s.owner;
      spilled = s.spilled;
      fresh = s.fresh;
      free = s.free;
      slots = s.slots;
      steps = s.steps ++ (action ∷ []);
      most = s.most;
    }

-- an instruction more, and the step that computes it
abbrev pub emit_operation : Operation → State → State
emit_operation operation s = emit (compute operation) s

-- the step that saves a register to a slot: the control phase spills to control slots
unfoldable pub to_slot : Setting → ℕ → ℕ → Action
to_slot setting slot register = cond setting.in_control (store_control slot register) (spill slot register)

-- the step that loads it back
unfoldable pub from_slot : Setting → ℕ → ℕ → Action
from_slot setting slot register = cond setting.in_control (load (Source.Control slot) register) (reload slot register)

-- ---- slots

-- node n's register is saved to a slot; the free slots and their number afterwards are given
abbrev pub spill_to : Setting → ℕ → ℕ → ℕ → List ℕ → ℕ → State → State
spill_to setting n register slot free slots s =
    record {
      holder = s.holder;
      owner = s.owner;
      spilled = set s.spilled n (suc slot);
      fresh = s.fresh;
      free = free;
      slots = slots;
      steps = s.steps ++ (to_slot setting slot register ∷ []);
      most = s.most;
    }

-- "Freed spill slots are used again, last freed first"; else a new one
abbrev pub spill_in : Setting → ℕ → ℕ → List ℕ → State → State
spill_in setting n register [] s = spill_to setting n register s.slots [] (suc s.slots) s
spill_in setting n register (slot ∷ free) s = spill_to setting n register slot free s.slots s

-- codegen.rs: `spill`
unfoldable pub spill_out : Setting → ℕ → ℕ → State → State
spill_out setting n register s = spill_in setting n register s.free s

-- a hoisted value's own slot holds it now
unfoldable pub set_slot : ℕ → ℕ → State → State
set_slot n slot s =
    record {
      holder = s.holder;
      owner = s.owner;
      spilled = set s.spilled n (suc slot);
      fresh = s.fresh;
      free = s.free;
      slots = s.slots;
      steps = s.steps;
      most = s.most;
    }

-- a slot, if there is one, is free again; "hoisted slots never"
abbrev pub give_back : ℕ → ℕ → List ℕ → List ℕ
give_back fixed zero free = free
give_back fixed (suc slot) free = cond (leb fixed slot) (slot ∷ free) free

-- memory no longer holds the value of this node, if there is one
unfoldable pub stale : ℕ → State → State
stale zero s = s
stale (suc n) s =
    record {
      holder = s.holder;
      owner = s.owner;
      spilled = s.spilled;
      fresh = set s.fresh n false;
      free = s.free;
      slots = s.slots;
      steps = s.steps;
      most = s.most;
    }

-- ---- registers

-- the end of codegen.rs: `take`: the register is node n's, and so many are held
unfoldable pub place : ℕ → ℕ → State → State
place n register s =
    let owner : List ℕ = set s.owner register (suc n) in
    record {
      holder = set s.holder n (suc register);
      owner = owner;
      spilled = s.spilled;
      fresh = s.fresh;
      free = s.free;
      slots = s.slots;
      steps = s.steps;
      most = max s.most (count owner);
    }

-- the register, which held node n, is nobody's
unfoldable pub vacate : ℕ → ℕ → State → State
vacate n register s =
    record {
      holder = set s.holder n 0;
      owner = set s.owner register 0;
      spilled = s.spilled;
      fresh = s.fresh;
      free = s.free;
      slots = s.slots;
      steps = s.steps;
      most = s.most;
    }

-- "A dying operand .. lends its register to the result": the register goes from node `dying` to node n
unfoldable pub lend : ℕ → ℕ → ℕ → State → State
lend register dying n s =
    record {
      holder = set (set s.holder dying 0) n (suc register);
      owner = set s.owner register (suc n);
      spilled = s.spilled;
      fresh = s.fresh;
      free = s.free;
      slots = s.slots;
      steps = s.steps;
      most = s.most;
    }

-- a register, if there is one, is nobody's
abbrev pub disown : ℕ → List ℕ → List ℕ
disown zero owner = owner
disown (suc register) owner = set owner register 0

-- codegen.rs: `release`: node n's value is not needed any more
unfoldable pub release : Setting → ℕ → State → State
release setting n s =
    record {
      holder = set s.holder n 0;
      owner = disown (register_of s n) s.owner;
      spilled = set s.spilled n 0;
      fresh = s.fresh;
      free = give_back setting.fixed (slot_of s n) s.free;
      slots = s.slots;
      steps = s.steps;
      most = s.most;
    }
