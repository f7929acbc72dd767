-- What the plan leaves in the table for each phase: the first nodes of its sources (`Firsts`), and the sample phase's whole share (`SampleShare`). Definitions
-- alone.
use Rattle.std.specs.Prelude.{◌≡◌, ◌⊎◌, List, map, ℕ, ◌+◌, ◌*◌, ◌≤◌, ◌<◌, length, get_or}
use Rattle.plan.specs.declared.Sizes.{Sizes}
use Rattle.plan.specs.Lists.{count_up}
use Rattle.plan.specs.Nodes.{Flow}
use Rattle.plan.specs.Origins.{Origin, has_origin, canonical, home_of}
use Rattle.plan.specs.Schedule.{plan_of}
use Rattle.plan.specs.Layout.{task_word, needed_at, slots_at, canonical_at, fresh_at, last_at, tasks_at, homes_at, heads_at, chain_at}
use Rattle.plan.specs.Regions.{Region, flags}
use Rattle.plan.specs.ControlShare.{needed_of}

-- codegen.rs: `canonical` and the `HashMap` of `Allocator::new`: each node's first node, which nodes have a source, and each source's first node, if it has one
pub record Firsts (sizes : Sizes) (origins : List Origin) (table : List ℕ) : Type 0 where
  pub canonicals : Region (canonical_at sizes) (map (canonical origins) (count_up 0 sizes.nodes)) table
  pub freshes : Region (fresh_at sizes) (flags (map has_origin origins)) table
  pub audio : get_or table (homes_at sizes) 0 ≡ home_of origins 1 0
  pub network : get_or table (homes_at sizes + 1) 0 ≡ home_of origins 2 0
  pub states : (i : ℕ) → i < sizes.states → get_or table (homes_at sizes + (258 + i)) 0 ≡ home_of origins 4 i
  pub delays : (i : ℕ) → i < sizes.delays → get_or table (homes_at sizes + (258 + sizes.states + i)) 0 ≡ home_of origins 5 i
  -- every home is 0, or a node's number and one
  pub homes : (k : ℕ) → k < 258 + sizes.states + sizes.delays → get_or table (homes_at sizes + k) 0 ≤ sizes.nodes

-- no source has a home yet
abbrev pub NoHomes : Sizes → List ℕ → Type 0
NoHomes sizes table = (k : ℕ) → k < 258 + sizes.states + sizes.delays → get_or table (homes_at sizes + k) 0 ≡ 0

-- what finding the first nodes leaves as it was
abbrev pub BesideFirsts : Sizes → ℕ → Type 0
BesideFirsts sizes j = (j < canonical_at sizes) ⊎ (((5 * sizes.nodes ≤ j) × (j < fresh_at sizes)) ⊎ (((9 * sizes.nodes ≤ j) × (j < homes_at sizes)) ⊎ (heads_at sizes ≤ j)))

-- as the sample phase's share begins: what the control phase's share left, no homes, no last reads and no chains
pub record SampleBegins (sizes : Sizes) (flow : Flow) (table : List ℕ) : Type 0 where
  pub needed : Region (needed_at sizes) (flags (needed_of flow)) table
  pub slots : Region (slots_at sizes) (plan_of flow).slots table
  pub homes : NoHomes sizes table
  pub lasts : (k : ℕ) → k < sizes.nodes → get_or table (last_at sizes + k) 0 ≡ 0
  pub heads : (a : ℕ) → a ≤ sizes.nodes → get_or table (heads_at sizes + a) 0 ≡ 0
  pub chains : (w : ℕ) → w < sizes.states + sizes.delays → get_or table (chain_at sizes + w) 0 ≡ 0

-- the sample phase's share: the first nodes of its sources, and its tasks
pub record SampleShare (sizes : Sizes) (flow : Flow) (old new : List ℕ) : Type 0 where
  pub firsts : Firsts sizes (plan_of flow).sample_origins new
  pub tasks : Region (tasks_at sizes) (map (task_word sizes) (plan_of flow).sample_tasks) new
  pub size : length new ≡ length old
  -- invariance, needs, slots, next reads, holders, spills and freed slots are as they were
  pub same : (j : ℕ) → (j < canonical_at sizes) ⊎ (((5 * sizes.nodes ≤ j) × (j < fresh_at sizes)) ⊎ ((9 * sizes.nodes ≤ j) × (j < last_at sizes))) → get_or new j 0 ≡ get_or old j 0
