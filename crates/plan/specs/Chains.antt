-- The sample schedule by exact words: the last reads, the chains of writes, and the words of the tasks (codegen.rs, `sample_schedule`). Definitions alone.
use Rattle.std.specs.Prelude.{cond, List, [], ◌∷◌, ◌++◌, map, ℕ, zero, suc, ◌+◌, ◌-◌, ◌*◌, ◌≤◌, ◌<◌, get_or, set, eqb, ltb}
use Rattle.plan.specs.declared.Sizes.{Sizes}
use Rattle.plan.specs.Layout.{homes_at, heads_at, chain_at}
use Rattle.plan.specs.Words.{operands_in}
use Rattle.plan.specs.SampleLaws.{sample_in}

-- ---- what the regions hold, as bounds

-- each node's first node is a node
unfoldable pub Canonicals : Sizes → List ℕ → Type 0
Canonicals sizes work = (k : ℕ) → k < sizes.nodes → get_or work (4 * sizes.nodes + k) 0 < sizes.nodes

-- each home and each last read is 0, or a node's number and one
unfoldable pub Reading : Sizes → List ℕ → Type 0
Reading sizes work =
    ((k : ℕ) → k < 258 + sizes.states + sizes.delays → get_or work (homes_at sizes + k) 0 ≤ sizes.nodes)
    × ((k : ℕ) → k < sizes.nodes → get_or work (10 * sizes.nodes + k) 0 ≤ sizes.nodes)

-- each chain goes on to a later memory, or ends
unfoldable pub Chained : Sizes → List ℕ → Type 0
Chained sizes work =
    ((a : ℕ) → a ≤ sizes.nodes → get_or work (heads_at sizes + a) 0 ≤ sizes.states + sizes.delays)
    × ((w : ℕ) → w < sizes.states + sizes.delays
    → (get_or work (chain_at sizes + w) 0 ≤ sizes.states + sizes.delays) × ((1 ≤ get_or work (chain_at sizes + w) 0) → w + 1 < get_or work (chain_at sizes + w) 0))

-- ---- the last reads

-- computation i reads node a: it is the last so far that reads that source
unfoldable pub read_by : ℕ → ℕ → ℕ → List ℕ → List ℕ
read_by n i a work = set work (10 * n + get_or work (4 * n + a) 0) (i + 1)

-- .. these nodes
abbrev pub read_by_all : ℕ → ℕ → List ℕ → List ℕ → List ℕ
read_by_all n i [] work = work
read_by_all n i (a ∷ list) work = read_by_all n i list (read_by n i a work)

-- node i's turn
unfoldable pub last_node : ℕ → List ℕ → ℕ → List ℕ → List ℕ
last_node n nodes i work = cond (sample_in n nodes work i) (read_by_all n i (operands_in nodes i) work) work

-- ---- after which computation a write comes

-- the last computation that reads memory w, and one; 0 is none
unfoldable pub reader_in : Sizes → List ℕ → ℕ → ℕ
reader_in sizes work w =
    cond (eqb (get_or work (homes_at sizes + (258 + w)) 0) 0) 0 (get_or work (10 * sizes.nodes + (get_or work (homes_at sizes + (258 + w)) 0 - 1)) 0)

-- the later of it and the computation of the new value
unfoldable pub after_in : Sizes → List ℕ → List ℕ → ℕ → ℕ → ℕ
after_in sizes nodes work w value =
    cond (sample_in sizes.nodes nodes work value) (cond (ltb (reader_in sizes work w) (value + 1)) (value + 1) (reader_in sizes work w)) (reader_in sizes work w)

-- ---- the chains

-- memory w's write comes first of those right after computation a
unfoldable pub linked : Sizes → ℕ → ℕ → List ℕ → List ℕ
linked sizes w a work = set (set work (chain_at sizes + w) (get_or work (heads_at sizes + a) 0)) (heads_at sizes + a) (w + 1)

-- its turn, if it has an update
unfoldable pub chain_write : Sizes → List ℕ → ℕ → ℕ → List ℕ → List ℕ
chain_write sizes nodes update w work = cond (eqb update 0) work (linked sizes w (after_in sizes nodes work w (update - 1)) work)

-- of the memories below w, the last first, so that each chain is in order
unfoldable pub chain_writes : Sizes → List ℕ → List ℕ → ℕ → List ℕ → List ℕ
chain_writes sizes nodes updates zero work = work
chain_writes sizes nodes updates (suc w) work = chain_writes sizes nodes updates w (chain_write sizes nodes (get_or updates w 0) w work)

-- ---- the words of the tasks

-- the memories that a chain names from this word on, so many at most
unfoldable pub chain_from : Sizes → List ℕ → ℕ → ℕ → List ℕ
chain_from sizes work zero word = []
chain_from sizes work (suc most) zero = []
chain_from sizes work (suc most) (suc w) = w ∷ chain_from sizes work most (get_or work (chain_at sizes + w) 0)

-- the writes right after computation a - 1, or first of all where a is 0, as words
unfoldable pub writes_after : Sizes → List ℕ → ℕ → List ℕ
writes_after sizes work a = map (λ w. 2 * sizes.nodes + w) (chain_from sizes work (sizes.states + sizes.delays) (get_or work (heads_at sizes + a) 0))

-- node i's: its computation, then the writes right after it
unfoldable pub tasks_after : Sizes → List ℕ → List ℕ → ℕ → List ℕ
tasks_after sizes nodes work i = cond (sample_in sizes.nodes nodes work i) (i ∷ writes_after sizes work (i + 1)) []

-- of the first n nodes
unfoldable pub tasks_to : Sizes → List ℕ → List ℕ → ℕ → List ℕ
tasks_to sizes nodes work zero = writes_after sizes work 0
tasks_to sizes nodes work (suc n) = tasks_to sizes nodes work n ++ tasks_after sizes nodes work n

-- of all, "output last"
unfoldable pub sample_words : Sizes → List ℕ → List ℕ → List ℕ
sample_words sizes nodes work = tasks_to sizes nodes work sizes.nodes ++ ((2 * sizes.nodes + (sizes.states + sizes.delays)) ∷ [])
