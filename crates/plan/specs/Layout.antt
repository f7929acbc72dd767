-- The regions of the work table that the plan fills, what the plan's functions are lent, and a task as a word. Definitions alone.
use Rattle.std.specs.Prelude.{◌≡◌, cond, List, ℕ, ◌+◌, ◌*◌, ◌≤◌, ◌<◌, length, get_or, eqb}
use Rattle.block.specs.Block.{code, first, second}
use Rattle.block.specs.declared.Counts.{Counts}
use Rattle.expand.specs.Good.{GoodNode}
use Rattle.plan.specs.declared.Flow as Lending
use Rattle.plan.specs.declared.Sizes.{Sizes}
use Rattle.plan.specs.Schedule.{Task, compute_task, keep_task, store_task}

-- ---- where each region begins, a word for each node unless said otherwise

-- 1: of constants and parameters alone
abbrev pub invariant_at : Sizes → ℕ
invariant_at sizes = 0

-- 1: the sample phase reaches it
abbrev pub needed_at : Sizes → ℕ
needed_at sizes = sizes.nodes

-- the control slot of a hoisted computation, if it is one
abbrev pub slots_at : Sizes → ℕ
slots_at sizes = 2 * sizes.nodes

-- 1: the control phase reaches it
abbrev pub reached_at : Sizes → ℕ
reached_at sizes = 3 * sizes.nodes

-- the first node of its source in this phase, else the node itself
abbrev pub canonical_at : Sizes → ℕ
canonical_at sizes = 4 * sizes.nodes

-- 1: it has a source in this phase, and memory still holds it
abbrev pub fresh_at : Sizes → ℕ
fresh_at sizes = 8 * sizes.nodes

-- the last sample computation that reads this source, by its first node
abbrev pub last_at : Sizes → ℕ
last_at sizes = 10 * sizes.nodes

-- the tasks: 2N + S + D + 1 words
abbrev pub tasks_at : Sizes → ℕ
tasks_at sizes = 11 * sizes.nodes

-- the first node of each source: audio, network, 256 parameters, states, delays
abbrev pub homes_at : Sizes → ℕ
homes_at sizes = 17 * sizes.nodes + 3 * (sizes.states + sizes.delays + 1)

-- the first write that comes right after computation n (at n + 1), or first of all (at 0)
abbrev pub heads_at : Sizes → ℕ
heads_at sizes = homes_at sizes + 258 + sizes.states + sizes.delays

-- for each memory the next write after the same computation
abbrev pub chain_at : Sizes → ℕ
chain_at sizes = heads_at sizes + sizes.nodes + 1

-- ---- a task as a word

-- the memory of a store: states, then delays, then the output
abbrev pub store_word : Sizes → ℕ → ℕ → ℕ
store_word sizes code index = cond (eqb code 10) index (cond (eqb code 11) (sizes.states + index) (sizes.states + sizes.delays))

-- compute n: n; keep n in its control slot: N + n; store of memory w: 2N + w; output: 2N + S + D
unfoldable pub task_word : Sizes → Task → ℕ
task_word sizes (compute_task n) = n
task_word sizes (keep_task slot n) = sizes.nodes + n
task_word sizes (store_task code index value) = 2 * sizes.nodes + store_word sizes code index

-- ---- what is lent

-- so few that every region begins at a word that can be counted
abbrev pub Few : Sizes → Type 0
Few sizes = (sizes.nodes ≤ 65536) × (sizes.states ≤ 4096) × (sizes.delays ≤ 4096)

-- a block's counts, where the parameters are as many as document 01 allows
abbrev pub counts_in : Sizes → Counts
counts_in sizes = record { parameters = 256; states = sizes.states; delays = sizes.delays }

-- the words of good nodes, and a work table with room for every region
pub record Lent (sizes : Sizes) (nodes : List ℕ) (words : ℕ) : Type 0 where
  pub long : length nodes ≡ 3 * sizes.nodes
  pub good : (k : ℕ) → k < sizes.nodes → GoodNode (counts_in sizes) k (code nodes k) (first nodes k) (second nodes k)
  pub small : sizes.nodes ≤ 65536
  pub states : sizes.states ≤ 4096
  pub delays : sizes.delays ≤ 4096
  pub room : 18 * sizes.nodes + 5 * sizes.states + 5 * sizes.delays + 262 ≤ words

-- .. of a flow that is lent as a struct, and the work table's words
abbrev pub IsLent : Lending.Flow → List ℕ → Type 0
IsLent f work = Lent f.sizes f.nodes.now (length work)

-- of what is lent, the sizes and the table alone
pub record Room (sizes : Sizes) (words : ℕ) : Type 0 where
  pub small : sizes.nodes ≤ 65536
  pub states : sizes.states ≤ 4096
  pub delays : sizes.delays ≤ 4096
  pub room : 18 * sizes.nodes + 5 * sizes.states + 5 * sizes.delays + 262 ≤ words

-- the same, of what is lent
abbrev pub room_in : (sizes : Sizes) (nodes : List ℕ) (words : ℕ) → Lent sizes nodes words → Room sizes words
room_in sizes nodes words lent = record { small = lent.small; states = lent.states; delays = lent.delays; room = lent.room }

-- each update of a table is 0, or a node's number and one
abbrev pub Updates : Sizes → List ℕ → Type 0
Updates sizes updates = (i : ℕ) → get_or updates i 0 ≤ sizes.nodes
