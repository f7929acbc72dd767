-- How the tables hold it: what each part of the allocator does, on exact words (document 01, module 4; codegen.rs, `impl Allocator`). The second layer.
-- Definitions alone.
use Rattle.std.specs.Prelude.{◌≡◌, cond, List, ℕ, ◌+◌, ◌*◌, ◌-◌, get_or, set, eqb, ltb, Option}
use Rattle.kernel.specs.declared.Instruction.{Instruction}
use Rattle.kernel.specs.declared.Instruction.TheVariants.{Immediate}
use Rattle.kernel.specs.Instructions.{instruction_word, instruction_immediate}
use Rattle.block.specs.Block.{code, first}
use Rattle.allocate.specs.declared.Frame.{Frame}
use Rattle.allocate.specs.declared.Allocator.{Allocator}
use Rattle.allocate.specs.declared.Slot.{Slot}
use Rattle.allocate.specs.declared.Access.{Access}
use Rattle.allocate.specs.declared.Desk as declared
use Rattle.allocate.specs.Layout.{slot_at, next_at, holder_at, spilled_at, fresh_at, freed_at}
use Rattle.allocate.specs.Registers.{register_or_16, free_from, victim_of, reloads, held_of}

-- ---- the desk

-- the three lent tables and the allocator
pub record Desk : Type 0 where
  pub work : List ℕ
  pub steps : List ℕ
  pub instructions : List ℕ
  pub allocator : Allocator

abbrev pub desk : List ℕ → List ℕ → List ℕ → Allocator → Desk
desk work steps instructions allocator = record { work = work; steps = steps; instructions = instructions; allocator = allocator }

-- as the code has it: the words behind its three references
abbrev pub the_desk : declared.Desk → Desk
the_desk d = desk d.work.now d.steps.now d.instructions.now d.allocator

-- the code's desk has the same three tables as before
pub record KeepsTables (old new : declared.Desk) : Type 0 where
  pub work : new.work.ghost_name ≡ old.work.ghost_name
  pub steps : new.steps.ghost_name ≡ old.steps.ghost_name
  pub instructions : new.instructions.ghost_name ≡ old.instructions.ghost_name

-- a register, or 16, and the desk in which it is held
pub record Choice : Type 0 where
  pub register : ℕ
  pub desk : Desk

abbrev pub choose : ℕ → Desk → Choice
choose register d = record { register = register; desk = d }

-- as the code has it: a register, or none
abbrev pub choice : Option ℕ → declared.Desk → Choice
choice found d = choose (register_or_16 found) (the_desk d)

-- a word of the work table anew
abbrev pub store : Desk → ℕ → ℕ → Desk
store d i word = desk (set d.work i word) d.steps d.instructions d.allocator

-- the allocator anew
abbrev pub with_allocator : Desk → Allocator → Desk
with_allocator d a = desk d.work d.steps d.instructions a

-- its fields anew
abbrev pub steps_to : Allocator → ℕ → Allocator
steps_to a count =
    record { owner = a.owner; slots = a.slots; freed = a.freed; steps = count; instructions = a.instructions; most = a.most }

abbrev pub instructions_to : Allocator → ℕ → Allocator
instructions_to a count =
    record { owner = a.owner; slots = a.slots; freed = a.freed; steps = a.steps; instructions = count; most = a.most }

abbrev pub slots_to : Allocator → ℕ → ℕ → Allocator
slots_to a freed slots =
    record { owner = a.owner; slots = slots; freed = freed; steps = a.steps; instructions = a.instructions; most = a.most }

abbrev pub owner_to : Allocator → List ℕ → Allocator
owner_to a owner =
    record { owner = owner; slots = a.slots; freed = a.freed; steps = a.steps; instructions = a.instructions; most = a.most }

-- ---- steps

-- two words from a place on
abbrev pub pair : List ℕ → ℕ → ℕ → ℕ → List ℕ
pair table place word index = set (set table place word) (place + 1) index

-- a step more: "code×16+register, index"
unfoldable pub emitted : ℕ → ℕ → ℕ → Desk → Desk
emitted code register index d =
    desk d.work (pair d.steps (2 * d.allocator.steps) (code * 16 + register) index) d.instructions
    (steps_to d.allocator (d.allocator.steps + 1))

-- an instruction more, and the step 7 that computes it
unfoldable pub operated : Instruction → Desk → Desk
operated instruction d =
    let e : Desk = emitted 7 0 d.allocator.instructions d in
    desk e.work e.steps
    (pair d.instructions (2 * d.allocator.instructions) (instruction_word instruction) (instruction_immediate instruction))
    (instructions_to e.allocator (d.allocator.instructions + 1))

-- ---- a register for a value

-- the step that saves a register: in the control phase 13, else 8
unfoldable pub spill_code : Frame → ℕ
spill_code frame = cond frame.control 13 8

-- the step that loads it back: in the control phase 6, else 9
unfoldable pub reload_code : Frame → ℕ
reload_code frame = cond frame.control 6 9

-- "Freed spill slots are used again, last freed first"; else a new one
unfoldable pub next_slot : Frame → List ℕ → Allocator → Slot
next_slot frame work a =
    cond (eqb a.freed 0)
    (record { slot = a.slots + 1; freed = a.freed; slots = a.slots + 1 })
    (record { slot = get_or work (freed_at frame (a.freed - 1)) 0; freed = a.freed - 1; slots = a.slots })

-- codegen.rs: `spill`
unfoldable pub spilt : Frame → ℕ → ℕ → Desk → Desk
spilt frame node register d =
    let got : Slot = next_slot frame d.work d.allocator in
    emitted (spill_code frame) register (got.slot - 1)
    (desk (set d.work (spilled_at frame node) got.slot) d.steps d.instructions (slots_to d.allocator got.freed got.slots))

-- the end of codegen.rs: `take`
unfoldable pub settled : Frame → ℕ → ℕ → Desk → Desk
settled frame node register d =
    let owner : List ℕ = set d.allocator.owner register (node + 1) in
    let count : ℕ = held_of 16 owner in
    let a : Allocator = d.allocator in
    desk (set d.work (holder_at frame node) (register + 1)) d.steps d.instructions
    (record {
      owner = owner;
      slots = a.slots;
      freed = a.freed;
      steps = a.steps;
      instructions = a.instructions;
      most = cond (ltb a.most count) count a.most;
    })

-- a node, which a register holds, leaves it, saved if it has to be
unfoldable pub evicted : Frame → ℕ → ℕ → Desk → Desk
evicted frame node register d =
    cond (reloads frame d.work node)
    (store d (holder_at frame node) 0)
    (store (spilt frame node register d) (holder_at frame node) 0)

-- the register to empty, or 16
unfoldable pub taken_from : Frame → ℕ → ℕ → Desk → Choice
taken_from frame node v d =
    cond (eqb v 16)
    (choose 16 d)
    (choose v (settled frame node v (evicted frame (get_or d.allocator.owner v 0 - 1) v d)))

-- codegen.rs: `take`: "Lowest free register first; else, among unlocked ones", the best to empty
unfoldable pub taken : Frame → ℕ → ℕ → ℕ → Desk → Choice
taken frame first second node d =
    let r : ℕ = free_from 16 0 d.allocator.owner frame.mask in
    cond (ltb r 16)
    (choose r (settled frame node r d))
    (taken_from frame node (victim_of 16 frame d.work d.allocator.owner first second) d)

-- ---- an operand in a register

abbrev pub access : ℕ → ℕ → Access
access code index = record { code = code; index = index }

-- codegen.rs: `control_sources`, of a node's code and first word
unfoldable pub control_supply : ℕ → ℕ → Access
control_supply code word = cond (eqb code 1) (access 7 word) (cond (eqb code 2) (access 3 word) (access 0 0))

-- codegen.rs: `sample_sources`, of a node that has no control slot
unfoldable pub sample_supply : ℕ → ℕ → Access
sample_supply code word =
    cond (eqb code 0) (access 1 0)
    (cond (eqb code 1) (access 7 word)
    (cond (eqb code 2) (access 3 word)
    (cond (eqb code 3) (access 4 word) (cond (eqb code 4) (access 5 word) (cond (eqb code 17) (access 2 0) (access 0 0))))))

-- where a node's value comes from in this phase
unfoldable pub supply_of : Frame → List ℕ → List ℕ → ℕ → Access
supply_of frame nodes work node =
    cond frame.control
    (control_supply (code nodes node) (first nodes node))
    (cond (eqb (get_or work (slot_at frame node) 0) 0)
    (sample_supply (code nodes node) (first nodes node))
    (access 6 (get_or work (slot_at frame node) 0 - 1)))

-- the step or the instruction that brings it
unfoldable pub brought : Access → ℕ → Desk → Desk
brought from register d =
    cond (eqb from.code 7) (operated (Immediate register from.index) d) (emitted from.code register from.index d)

-- the second half of codegen.rs: `fetch`
unfoldable pub loaded : Frame → List ℕ → ℕ → ℕ → Desk → Desk
loaded frame nodes node register d =
    cond (eqb (get_or d.work (fresh_at frame node) 0) 0)
    (emitted (reload_code frame) register (get_or d.work (spilled_at frame node) 0 - 1) d)
    (brought (supply_of frame nodes d.work node) register d)

-- .. into the register that was taken, if one was
unfoldable pub filled : Frame → List ℕ → ℕ → Choice → Choice
filled frame nodes node c = cond (eqb c.register 16) c (choose c.register (loaded frame nodes node c.register c.desk))

-- codegen.rs: `fetch`
unfoldable pub fetched : Frame → List ℕ → ℕ → ℕ → ℕ → Desk → Choice
fetched frame nodes first second node d =
    cond (eqb (get_or d.work (holder_at frame node) 0) 0)
    (filled frame nodes node (taken frame first second node d))
    (choose (get_or d.work (holder_at frame node) 0 - 1) d)

-- ---- what is not read again

-- a node's register, if it has one, is nobody's
unfoldable pub dropped_register : Frame → ℕ → Desk → Desk
dropped_register frame node d =
    let holder : ℕ = get_or d.work (holder_at frame node) 0 in
    cond (eqb holder 0) d
    (with_allocator (store d (holder_at frame node) 0) (owner_to d.allocator (set d.allocator.owner (holder - 1) 0)))

-- its slot, if it has one, is free again; "hoisted slots never"
unfoldable pub dropped_slot : Frame → ℕ → Desk → Desk
dropped_slot frame node d =
    let slot : ℕ = get_or d.work (spilled_at frame node) 0 in
    let freed : ℕ = d.allocator.freed in
    cond (eqb slot 0) d
    (cond (ltb frame.fixed slot)
    (with_allocator (store (store d (spilled_at frame node) 0) (freed_at frame freed) slot) (slots_to d.allocator (freed + 1) d.allocator.slots))
    (store d (spilled_at frame node) 0))

-- codegen.rs: `release`
unfoldable pub released : Frame → ℕ → Desk → Desk
released frame node d = dropped_slot frame node (dropped_register frame node d)

-- .. where no later task reads it
unfoldable pub released_if : Frame → ℕ → Desk → Desk
released_if frame node d = cond (eqb (get_or d.work (next_at frame node) 0) 0) (released frame node d) d

-- codegen.rs: the last loop of `run`
unfoldable pub released_both : Frame → ℕ → ℕ → Desk → Desk
released_both frame first second d = released_if frame second (released_if frame first d)
