-- How the tables hold it: one task and a phase's tasks, on exact words (document 01, module 4; codegen.rs, `run`). The second layer. Definitions alone.
use Rattle.std.specs.Prelude.{Bool, cond, not, List, ℕ, zero, suc, ◌+◌, ◌*◌, ◌-◌, get_or, set, eqb, ltb, Result, is_ok}
use Rattle.kernel.specs.declared.Instruction.{Instruction}
use Rattle.kernel.specs.declared.Instruction.TheVariants.{Add, Sub, Mul, Min, Max, Neg, Abs, IntegerSub}
use Rattle.block.specs.Block.{code, first, second}
use Rattle.allocate.specs.declared.Frame.{Frame}
use Rattle.allocate.specs.declared.Access.{Access}
use Rattle.allocate.specs.declared.Reads.{Reads}
use Rattle.allocate.specs.declared.Fetched.{Fetched}
use Rattle.allocate.specs.declared.Allocator.{Allocator}
use Rattle.allocate.specs.declared.Desk as declared
use Rattle.plan.specs.declared.Flow as flows
use Rattle.allocate.specs.Registers.{register_or_16}
use Rattle.allocate.specs.Layout.{slot_at, canonical_at, next_at, holder_at, spilled_at, fresh_at, task_at, link_at, home_at}
use Rattle.allocate.specs.Desk.{Desk, desk, the_desk, Choice, choose, store, with_allocator, owner_to, access, emitted, operated, taken, fetched, released_both}

-- ---- what a task reads

-- the lent tables that do not change: the nodes, the update of each state and of each delay, and the output's node
pub record Lent : Type 0 where
  pub nodes : List ℕ
  pub updates : List ℕ
  pub stores : List ℕ
  pub output : ℕ

abbrev pub lent : List ℕ → List ℕ → List ℕ → ℕ → Lent
lent nodes updates stores output = record { nodes = nodes; updates = updates; stores = stores; output = output }

-- as the code has it: the words behind its three references
abbrev pub the_lent : flows.Flow → Lent
the_lent f = lent f.nodes.now f.updates.now f.stores.now f.output

-- the memory that a task from 2N on writes: states, then delays, then the output
abbrev pub memory_of : Frame → ℕ → ℕ
memory_of frame task = task - 2 * frame.nodes

-- the node whose value a task keeps or stores
unfoldable pub value_of : Frame → List ℕ → List ℕ → ℕ → ℕ → ℕ
value_of frame updates stores output task =
    cond (ltb task (2 * frame.nodes)) (task - frame.nodes)
    (cond (ltb (memory_of frame task) frame.states) (get_or updates (memory_of frame task) 0 - 1)
    (cond (ltb (memory_of frame task - frame.states) frame.delays) (get_or stores (memory_of frame task - frame.states) 0 - 1) output))

-- the first node of a node's source
abbrev pub canonical_of : Frame → List ℕ → ℕ → ℕ
canonical_of frame work node = get_or work (canonical_at frame node) 0

abbrev pub reads_as : ℕ → ℕ → Reads
reads_as first second = record { first = first; second = second }

-- the operands of a computation: codes up to 10 have two
unfoldable pub compute_reads : Frame → List ℕ → List ℕ → ℕ → Reads
compute_reads frame nodes work node =
    let lhs : ℕ = canonical_of frame work (first nodes node) in
    cond (ltb (code nodes node) 11) (reads_as lhs (canonical_of frame work (second nodes node))) (reads_as lhs lhs)

-- codegen.rs: `Op::reads`
unfoldable pub reads_of : Frame → Lent → List ℕ → ℕ → Reads
reads_of frame l work task =
    let value : ℕ = canonical_of frame work (value_of frame l.updates l.stores l.output task) in
    cond (ltb task frame.nodes) (compute_reads frame l.nodes work task) (reads_as value value)

-- ---- its operands in registers

-- the registers of a task's operands, 16 where one is not to be had, and the desk in which they are held
pub record Held : Type 0 where
  pub first : ℕ
  pub second : ℕ
  pub desk : Desk

abbrev pub holding : ℕ → ℕ → Desk → Held
holding first second d = record { first = first; second = second; desk = d }

-- as the code has it: each a register, or none
abbrev pub held : Fetched → declared.Desk → Held
held f d = holding (register_or_16 f.first) (register_or_16 f.second) (the_desk d)

-- the second, while the first is locked
unfoldable pub second_after : Frame → List ℕ → ℕ → Choice → Held
second_after frame nodes node one =
    let two : Choice = fetched frame nodes one.register 16 node one.desk in
    cond (eqb one.register 16) (holding one.register one.register one.desk) (holding one.register two.register two.desk)

-- "each is locked once it is fetched": an operand that is both is held when it is fetched again
unfoldable pub fetched_both : Frame → List ℕ → Reads → Desk → Held
fetched_both frame nodes r d = second_after frame nodes r.second (fetched frame nodes 16 16 r.first d)

-- afterwards the task's own reads are no next reads any more
unfoldable pub advanced : Frame → Reads → ℕ → List ℕ → List ℕ
advanced frame r position work =
    set (set work (next_at frame r.first) (get_or work (link_at frame (2 * position)) 0)) (next_at frame r.second)
    (get_or work (link_at frame (2 * position + 1)) 0)

-- ---- compute

-- "A dying operand .. lends its register to the result"
unfoldable pub handed : Frame → ℕ → ℕ → ℕ → Desk → Desk
handed frame dying register node d =
    with_allocator (store (store d (holder_at frame dying) 0) (holder_at frame node) (register + 1))
    (owner_to d.allocator (set d.allocator.owner register (node + 1)))

-- ".. the first if both die"; else one is taken
unfoldable pub destined : Frame → Reads → ℕ → ℕ → ℕ → Desk → Choice
destined frame r one two node d =
    cond (eqb (get_or d.work (next_at frame r.first) 0) 0)
    (choose one (handed frame r.first one node d))
    (cond (eqb (get_or d.work (next_at frame r.second) 0) 0)
    (choose two (handed frame r.second two node d))
    (taken frame one two node d))

-- codegen.rs: `lower`
unfoldable pub lowered : ℕ → ℕ → ℕ → ℕ → Instruction
lowered code dst lhs rhs =
    cond (eqb code 5) (Add dst lhs rhs)
    (cond (eqb code 6) (Sub dst lhs rhs)
    (cond (eqb code 7) (Mul dst lhs rhs)
    (cond (eqb code 8) (Min dst lhs rhs)
    (cond (eqb code 9) (Max dst lhs rhs)
    (cond (eqb code 12) (Neg dst lhs)
    (cond (eqb code 13) (Abs dst lhs) (IntegerSub dst lhs rhs)))))))

-- codegen.rs: `run`, the arm `Op::Compute`
unfoldable pub computed : Frame → List ℕ → Reads → ℕ → ℕ → ℕ → Desk → Choice
computed frame nodes r one two node d =
    let c : Choice = destined frame r one two node d in
    cond (eqb c.register 16) c (choose c.register (operated (lowered (code nodes node) c.register one two) c.desk))

-- ---- keep

-- codegen.rs: `run`, the arm `Op::StoreControl`
unfoldable pub stowed : Frame → ℕ → ℕ → Desk → Desk
stowed frame register node d =
    let slot : ℕ = get_or d.work (slot_at frame node) 0 in
    store (emitted 13 register (slot - 1) d) (spilled_at frame node) slot

-- ---- store

-- the first node that reads what a store overwrites, if there is one: of the output it is the audio
unfoldable pub home_of : Frame → List ℕ → ℕ → ℕ
home_of frame work memory = get_or work (home_at frame (cond (ltb memory (frame.states + frame.delays)) (258 + memory) 0)) 0

-- the code and index of a store: 10 state, 11 delay, 12 output
unfoldable pub target_of : Frame → ℕ → Access
target_of frame memory =
    cond (ltb memory frame.states) (access 10 memory)
    (cond (ltb (memory - frame.states) frame.delays) (access 11 (memory - frame.states)) (access 12 0))

-- codegen.rs: `preserve`: "then loads its memory's old values still to be read"
unfoldable pub preserved : Frame → List ℕ → ℕ → ℕ → Desk → Choice
preserved frame nodes register home d =
    cond (eqb home 0) (choose register d)
    (cond (eqb (get_or d.work (fresh_at frame (home - 1)) 0) 0) (choose register d)
    (cond (eqb (get_or d.work (next_at frame (home - 1)) 0) 0) (choose register d)
    (fetched frame nodes register 16 (home - 1) d)))

-- the store, after which memory no longer holds what it held
unfoldable pub written : Frame → Access → ℕ → ℕ → Desk → Desk
written frame to register home d =
    cond (eqb home 0) (emitted to.code register to.index d)
    (store (emitted to.code register to.index d) (fresh_at frame (home - 1)) 0)

-- codegen.rs: `run`, the arm of memory writes
unfoldable pub stored : Frame → List ℕ → ℕ → ℕ → Desk → Choice
stored frame nodes register memory d =
    let home : ℕ = home_of frame d.work memory in
    let c : Choice = preserved frame nodes register home d in
    cond (eqb c.register 16) c (choose register (written frame (target_of frame memory) register home c.desk))

-- ---- all tasks

-- codegen.rs: `run`, the match on the op, after its operands are fetched
unfoldable pub arm_of : Frame → List ℕ → Reads → ℕ → ℕ → ℕ → Desk → Choice
arm_of frame nodes r one two task d =
    cond (ltb task frame.nodes) (computed frame nodes r one two task d)
    (cond (ltb task (2 * frame.nodes)) (choose one (stowed frame one (task - frame.nodes) d)) (stored frame nodes one (memory_of frame task) d))

-- what is not read again is released, unless the task was refused
unfoldable pub finished : Frame → Reads → Choice → Choice
finished frame r c = cond (eqb c.register 16) c (choose c.register (released_both frame r.first r.second c.desk))

-- what a task says and what follows, once both operands are held
unfoldable pub performed : Frame → List ℕ → Reads → ℕ → ℕ → ℕ → ℕ → Desk → Choice
performed frame nodes r one two task position d =
    finished frame r (arm_of frame nodes r one two task (desk (advanced frame r position d.work) d.steps d.instructions d.allocator))

-- .. if they are to be had
unfoldable pub carried : Frame → List ℕ → Reads → ℕ → ℕ → Held → Choice
carried frame nodes r task position h =
    cond (eqb h.second 16) (choose 16 h.desk) (performed frame nodes r h.first h.second task position h.desk)

-- one turn of codegen.rs: `run`
unfoldable pub ran : Frame → Lent → ℕ → Desk → Choice
ran frame l position d =
    let task : ℕ = get_or d.work (task_at frame position) 0 in
    let r : Reads = reads_of frame l d.work task in
    carried frame l.nodes r task position (fetched_both frame l.nodes r d)

-- codegen.rs: `Allocator::run`, of the first tasks up to the first that is refused
unfoldable pub ran_to : Frame → Lent → Desk → ℕ → Choice
ran_to frame l d zero = choose 0 d
ran_to frame l d (suc position) =
    let c : Choice = ran_to frame l d position in
    cond (eqb c.register 16) c (ran frame l position c.desk)

-- whether none was refused, and the desk
pub record Outcome : Type 0 where
  pub done : Bool
  pub desk : Desk

-- how a phase's tasks ended: whether all are done, and the allocator after them
pub record Ended : Type 0 where
  pub done : Bool
  pub allocator : Allocator

-- as the code has it
abbrev pub ended_as : {A E : Type 0} → Result A E → Allocator → Ended
ended_as result a = record { done = is_ok result; allocator = a }

abbrev pub ended : List ℕ → List ℕ → List ℕ → Ended → Outcome
ended work steps instructions e = record { done = e.done; desk = desk work steps instructions e.allocator }

-- codegen.rs: `Allocator::run`, of a phase's tasks
unfoldable pub outcome_of : Choice → Outcome
outcome_of c = record { done = not (eqb c.register 16); desk = c.desk }
