-- Every word of a valid block's kernel is below 2^32, where its constants are: `compile_words`. Assumes nothing.
use Rattle.std.specs.Prelude.{◌≡◌, true, false, cond, ◌&&◌, length, get_or, eqb}
use Rattle.std.proofs.Math.Path.{refl}
use Rattle.std.proofs.Common.{sym, subst, arith, length-append}
use Rattle.std.proofs.Math.Bool.{Bool, not}
use mathlib.Core.List.{List, [], ◌∷◌, ◌++◌}
use Prim.Native.Nat.{ℕ, zero, suc, ◌+◌, ◌≤◌, ◌<◌}
use Rattle.std.proofs.Math.Decide.{dec_lt}
use Rattle.std.proofs.lemmas.List.{length-map}
use Rattle.std.proofs.Math.ListN.{get_or-eq_default}
use Rattle.tables.specs.Stores.{Each, Word, each_nil, each_cons}
use Rattle.tables.specs.Lists.{list_length}
use Rattle.block.specs.declared.Kind.{Kind}
use Rattle.block.specs.Block.{Block, state_count, delay_count, code, first, second}
use Rattle.block.specs.Limits.{most_nodes, most_states, most_delays}
use Rattle.block.specs.Kinds.{kind_of}
use Rattle.block.specs.declared.Counts.{Counts}
use Rattle.block.specs.Validation.{counts_of, expanded_length}
use Rattle.block.specs.Valid.{Valid}
use Rattle.expand.specs.Graph.{Graph, mapped_update, graph_of}
use Rattle.expand.specs.Good.{GoodAs}
use Rattle.expand.specs.GraphLaws.{good_graph}
use Rattle.kernel.specs.Steps.{step_word, step_index}
use Rattle.kernel.specs.Instructions.{instruction_word, instruction_immediate}
use Rattle.kernel.specs.RoundTrips.{step_word_small, instruction_word_small}
use Rattle.kernel.specs.declared.Instruction.TheVariants.{Add, Sub, Mul, Min, Max, Neg, Abs, IntegerSub}
use Rattle.plan.specs.Lists.{filter, any_of}
use Rattle.plan.specs.Nodes.{Node, input_node, network_node, constant_node, parameter_node, state_node, delay_node, binary_node, unary_node, Flow, node_at}
use Rattle.plan.specs.Hoist.{number}
use Rattle.plan.specs.Origins.{Origin, no_origin, control_origin, node_origin, sample_origin, origin_at}
use Rattle.plan.specs.Schedule.{Task, store_task, control_task, control_tasks, Write, writes_from, writes, tasks_of, waits, schedule_from, schedule, plan_of}
use Rattle.plan.specs.Flow.{node_as, node_of, flow_of}
use Rattle.plan.specs.ListLaws.{count_le}
use Rattle.plan.specs.OriginLaws.{number_lt, number_length, sample_at, sample_length, control_at}
use Rattle.plan.specs.Planned.{GoodFlow, AllWrites, all_filter, homes, homes_length, slots, ss, cs, comps, ccomps}
use Rattle.plan.specs.FlowLaws.{flow_length, flow_at, flow_off, good_flow}
use Rattle.allocate.specs.Actions.{Operation, load_immediate, binary, unary, Action, load, compute, spill, reload, store_state, store_delay, store_output, store_control, instruction_of}
use Rattle.allocate.specs.ActionWords.{step_of, operation_in, operations_in, step_words, instruction_words}
use Rattle.allocate.specs.State.{allocated, Setting, begin}
use Rattle.allocate.specs.Allocator.{allocate}
use Rattle.allocate.specs.Outcomes.{Post, post_bind, post_at}
use Rattle.allocate.specs.WordLaws.{AllActions, all_map, all_append, action_index, action_immediate, immediate_of, Fine, FineOrigin, FineTasks, FineState, run_fine}
use Rattle.compile.specs.Draft.{Draft, control_setting, sample_setting, draft_of, compile_plan, compile_flow}
use Rattle.compile.specs.Words.{Compiled, compiled_of}
use Rattle.compile.specs.Compile.{compile}
use Rattle.compile.specs.Bounds.{from_draft, Fits, compile_bounds}

-- ---- the tasks and origins of a plan

module _ (margin limit : ℕ) (some : 0 < margin) (any : 0 < limit) where
  -- a node's index is within the margin, a constant within the limit
  abbrev pub FineNode : Node → Type 0
  FineNode input_node = Unit {0}
  FineNode network_node = Unit {0}
  FineNode (constant_node bits) = bits < limit
  FineNode (parameter_node index) = index < margin
  FineNode (state_node index) = index < margin
  FineNode (delay_node index) = index < margin
  FineNode (binary_node code lhs rhs) = Unit {0}
  FineNode (unary_node code input) = Unit {0}

  control_origin_lem : (x : Node) → FineNode x → FineOrigin margin limit some any (control_origin x)
  unfolding control_origin
  control_origin_lem input_node h = tt
  control_origin_lem network_node h = tt
  control_origin_lem (constant_node b) h = h
  control_origin_lem (parameter_node i) h = h
  control_origin_lem (state_node i) h = tt
  control_origin_lem (delay_node i) h = tt
  control_origin_lem (binary_node k a b) h = tt
  control_origin_lem (unary_node k a) h = tt

  sample_origin_lem : (k : ℕ) (x : Node) → ((j : ℕ) → k ≡ suc j → j < margin) → FineNode x → FineOrigin margin limit some any (sample_origin k x)
  unfolding sample_origin node_origin
  sample_origin_lem (suc k) x f h = f k refl
  sample_origin_lem zero input_node f h = some
  sample_origin_lem zero network_node f h = some
  sample_origin_lem zero (constant_node b) f h = h
  sample_origin_lem zero (parameter_node i) f h = h
  sample_origin_lem zero (state_node i) f h = h
  sample_origin_lem zero (delay_node i) f h = h
  sample_origin_lem zero (binary_node k a b) f h = tt
  sample_origin_lem zero (unary_node k a) f h = tt

  fine_append : (xs ys : List Task) → FineTasks margin limit some any xs → FineTasks margin limit some any ys → FineTasks margin limit some any (xs ++ ys)
  fine_append [] ys a c = c
  fine_append (x ∷ xs) ys a c = (a.0, fine_append xs ys a.1 c)

  control_tasks_lem : (slots cm : List ℕ) → ((n j : ℕ) → get_or slots n 0 ≡ suc j → j < margin) → FineTasks margin limit some any (control_tasks slots cm)
  control_tasks_lem numbers [] f = tt
  control_tasks_lem numbers (n ∷ cm) f = fine_append (control_task n (get_or numbers n 0)) (control_tasks numbers cm) (go (get_or numbers n 0) refl) (control_tasks_lem numbers cm f)
    where
      go : (k : ℕ) → get_or numbers n 0 ≡ k → FineTasks margin limit some any (control_task n k)
      go zero q = (tt, tt)
      go (suc j) q = (tt, (f n j q, tt))

  abbrev Within : Write → Type 0
  Within w = w.index < margin

  store_tasks : (ws : List Write) → AllWrites Within ws → FineTasks margin limit some any (tasks_of ws)
  store_tasks [] a = tt
  store_tasks (w ∷ ws) a = (a.0, store_tasks ws a.1)

  from_tasks : (ns : List Node) (os : List Origin) (ws : List Write) (cm : List ℕ) → AllWrites Within ws → FineTasks margin limit some any (schedule_from ns os ws cm)
  unfolding schedule_from
  from_tasks ns os ws [] a = tt
  from_tasks ns os ws (n ∷ rest) a =
      let p : Write → Bool = λ w. waits ns os w n && not (any_of (waits ns os w) rest) in (
        tt,
        fine_append (tasks_of (filter p ws)) (schedule_from ns os ws rest) (store_tasks (filter p ws) (all_filter Within Within p ws a (λ w h q. h)))
            (from_tasks ns os ws rest a),
      )

  schedule_tasks : (ns : List Node) (os : List Origin) (ws : List Write) (cm : List ℕ) (out : ℕ) → AllWrites Within ws
      → FineTasks margin limit some any (schedule ns os ws cm out)
  unfolding schedule
  schedule_tasks ns os ws cm out a =
      let p : Write → Bool = λ w. not (any_of (waits ns os w) cm) in
      fine_append (tasks_of (filter p ws)) (schedule_from ns os ws cm ++ (store_task 12 0 out ∷ []))
      (store_tasks (filter p ws) (all_filter Within Within p ws a (λ w h q. h)))
      (fine_append (schedule_from ns os ws cm) (store_task 12 0 out ∷ []) (from_tasks ns os ws cm a) (some, tt))

  writes_within : (c k : ℕ) (us : List ℕ) → k + length us ≤ margin → AllWrites Within (writes_from c k us)
  writes_within c k [] h = tt
  writes_within c k (zero ∷ us) h = writes_within c (suc k) us (omega arith)
  writes_within c k (suc n ∷ us) h = (omega arith, writes_within c (suc k) us (omega arith))

  append_within : (xs ys : List Write) → AllWrites Within xs → AllWrites Within ys → AllWrites Within (xs ++ ys)
  append_within [] ys a c = c
  append_within (x ∷ xs) ys a c = (a.0, append_within xs ys a.1 c)

  -- ---- both phases of a good flow

  -- a draft whose steps are fine
  pub record FineDraft (d : Draft) : Type 0 where
    pub control : AllActions (Fine margin limit some any d.control_slots) d.control_steps
    pub sample : AllActions (Fine margin limit some any d.spill_slots) d.sample_steps

  module _ (g : Flow) (v : GoodFlow g) (nodes : (n : ℕ) → FineNode (node_at g.nodes n)) (room : length g.nodes ≤ margin)
      (states : length g.states ≤ margin) (delays : length g.delays ≤ margin) where
    slot_fine : (n j : ℕ) → get_or (slots g v) n 0 ≡ suc j → j < margin
    slot_fine n j q = omega (arith, (number_lt 0 (homes g v) n j q).2, count_le (slots g v), number_length 0 (homes g v), homes_length g v, room)

    control_origins_lem : (n : ℕ) → FineOrigin margin limit some any (origin_at (cs g v) n)
    control_origins_lem n = go (dec_lt n (length g.nodes))
      where
        go : Dec (n < length g.nodes) → FineOrigin margin limit some any (origin_at (cs g v) n)
        go (yes h) = rw (control_at g.nodes n h) (control_origin_lem (node_at g.nodes n) (nodes n))
        go (no h) = rw (get_or-eq_default (cs g v) no_origin {n = n} (omega (arith, length-map g.nodes control_origin))) tt

    sample_origins : (n : ℕ) → FineOrigin margin limit some any (origin_at (ss g v) n)
    sample_origins n = go (dec_lt n (length g.nodes))
      where
        go : Dec (n < length g.nodes) → FineOrigin margin limit some any (origin_at (ss g v) n)
        go (yes h) = rw (sample_at (slots g v) g.nodes n h) (sample_origin_lem (get_or (slots g v) n 0) (node_at g.nodes n) (λ j q. slot_fine n j q) (nodes n))
        go (no h) = rw (get_or-eq_default (ss g v) no_origin {n = n} (omega (arith, sample_length (slots g v) g.nodes))) tt

    all_within : AllWrites Within (writes g)
    unfolding writes
    all_within =
        append_within (writes_from 10 0 g.states) (writes_from 11 0 g.delays) (writes_within 10 0 g.states (omega arith))
        (writes_within 11 0 g.delays (omega arith))

    control_fine : (mask : ℕ)
        → let e : Setting = control_setting g (plan_of g) mask in Post (Unit {0}) (FineState margin limit some any) (allocate e (plan_of g).control_tasks (begin e))
    unfolding control_setting plan_of
    control_fine mask =
        run_fine margin limit some any (control_setting g (plan_of g) mask) control_origins_lem (control_tasks (slots g v) (ccomps g v))
        (control_tasks_lem (slots g v) (ccomps g v) slot_fine)

    sample_fine : (mask : ℕ)
        → let e : Setting = sample_setting g (plan_of g) mask in Post (Unit {0}) (FineState margin limit some any) (allocate e (plan_of g).sample_tasks (begin e))
    unfolding sample_setting plan_of
    sample_fine mask =
        run_fine margin limit some any (sample_setting g (plan_of g) mask) sample_origins (plan_of g).sample_tasks
        (schedule_tasks g.nodes (ss g v) (writes g) (comps g v) g.output all_within)

    -- such a flow's draft
    pub draft_fine : (mask : ℕ) → Post (Unit {0}) FineDraft (compile_flow g mask)
    unfolding compile_flow compile_plan draft_of
    draft_fine mask =
        let c : Setting = control_setting g (plan_of g) mask in
        let s : Setting = sample_setting g (plan_of g) mask in
        post_bind (Unit {0}) (FineState margin limit some any) FineDraft (allocate c (plan_of g).control_tasks (begin c)) _ (control_fine mask) (λ x p.
        post_bind (Unit {0}) (FineState margin limit some any) FineDraft (allocate s (plan_of g).sample_tasks (begin s)) _ (sample_fine mask) (λ y q.
        record { control = p.steps; sample = q.steps }))

-- ---- the words of fine steps

-- an action whose index and immediate are words
abbrev SmallAction : Action → Type 0
SmallAction x = Word (action_index x) × Word (action_immediate x)

step_index_lem : (number : ℕ) (x : Action) → Word number → Word (action_index x) → Word (step_index (step_of number x))
step_index_lem number (load source r) n h = h
step_index_lem number (compute operation) n h = n
step_index_lem number (spill k r) n h = h
step_index_lem number (reload k r) n h = h
step_index_lem number (store_state i r) n h = h
step_index_lem number (store_delay i r) n h = h
step_index_lem number (store_output r) n h = h
step_index_lem number (store_control k r) n h = h

steps_small : (number : ℕ) (xs : List Action) → number + length (operations_in xs) < 4294967296 → AllActions SmallAction xs → Each Word (step_words number xs)
steps_small number [] n a = each_nil Word (omega arith)
steps_small number (x ∷ xs) n a =
    let l : length (operation_in x ++ operations_in xs) ≡ length (operation_in x) + length (operations_in xs) = length-append (operation_in x) (operations_in xs) in
    each_cons Word (step_word (step_of number x)) (step_index (step_of number x) ∷ step_words (number + length (operation_in x)) xs)
    (omega (arith, step_word_small (step_of number x)))
    (each_cons Word (step_index (step_of number x)) (step_words (number + length (operation_in x)) xs) (step_index_lem number x (omega arith) a.0.0)
    (steps_small (number + length (operation_in x)) xs (omega arith) a.1))

immediate_is : (x : Operation) → instruction_immediate (instruction_of x) ≡ immediate_of x
immediate_is (load_immediate bits d) = refl
immediate_is (binary c d l r) = go (eqb c 5) (eqb c 6) (eqb c 7) (eqb c 8) (eqb c 9)
  where
    go : (a b m n p : Bool)
        → instruction_immediate (cond a (Add d l r) (cond b (Sub d l r) (cond m (Mul d l r) (cond n (Min d l r) (cond p (Max d l r) (IntegerSub d l r)))))) ≡ 0
    go true b m n p = refl
    go false true m n p = refl
    go false false true n p = refl
    go false false false true p = refl
    go false false false false true = refl
    go false false false false false = refl
immediate_is (unary c d r) = go (eqb c 12)
  where
    go : (a : Bool) → instruction_immediate (cond a (Neg d r) (Abs d r)) ≡ 0
    go true = refl
    go false = refl

one_small : (x : Operation) (is : List Operation) → Word (immediate_of x) → Each Word (instruction_words is) → Each Word (instruction_words (x ∷ is))
one_small x is h e =
    each_cons Word (instruction_word (instruction_of x)) (instruction_immediate (instruction_of x) ∷ instruction_words is)
    (omega (arith, instruction_word_small (instruction_of x)))
    (each_cons Word (instruction_immediate (instruction_of x)) (instruction_words is) (rw (immediate_is x) h) e)

instructions_small : (xs : List Action) → AllActions SmallAction xs → Each Word (instruction_words (operations_in xs))
instructions_small [] a = each_nil Word (omega arith)
instructions_small (load c r ∷ xs) a = instructions_small xs a.1
instructions_small (compute i ∷ xs) a = one_small i (operations_in xs) a.0.1 (instructions_small xs a.1)
instructions_small (spill k r ∷ xs) a = instructions_small xs a.1
instructions_small (reload k r ∷ xs) a = instructions_small xs a.1
instructions_small (store_state i r ∷ xs) a = instructions_small xs a.1
instructions_small (store_delay i r ∷ xs) a = instructions_small xs a.1
instructions_small (store_output r ∷ xs) a = instructions_small xs a.1
instructions_small (store_control k r ∷ xs) a = instructions_small xs a.1

-- ---- of a valid block

-- the first word of every expanded node is a word; of a constant it is its bits
abbrev pub FirstWords : Graph → Type 0
FirstWords g = (k : ℕ) → k < g.count → Word (first g.nodes k)

node_fine : (kind : Kind) (n : Counts) (k c x y : ℕ) → n.parameters ≤ 65536 → n.states ≤ 65536 → n.delays ≤ 65536 → Word x → GoodAs kind n k x y
    → FineNode 65536 4294967296 (omega arith) (omega arith) (node_as kind c x y)
node_fine Kind.Source n k c x y p s d w h = go (eqb c 17)
  where
    go : (b : Bool) → FineNode 65536 4294967296 (omega arith) (omega arith) (cond b network_node input_node)
    go true = tt
    go false = tt
node_fine Kind.Constant n k c x y p s d w h = w
node_fine Kind.Parameter n k c x y p s d w h = omega (arith, h.0)
node_fine Kind.State n k c x y p s d w h = omega (arith, h.0)
node_fine Kind.Delay n k c x y p s d w h = omega (arith, h.0)
node_fine Kind.Binary n k c x y p s d w h = tt
node_fine Kind.Divide n k c x y p s d w h = tt
node_fine Kind.Unary n k c x y p s d w h = tt
node_fine Kind.Recip n k c x y p s d w h = tt
node_fine Kind.Tanh n k c x y p s d w h = tt
node_fine Kind.Sigmoid n k c x y p s d w h = tt
node_fine Kind.Unknown n k c x y p s d w h = tt

module _ (b : Block) (v : Valid b) (constants : FirstWords (graph_of b)) where
  nodes_fine : (k : ℕ) → FineNode 65536 4294967296 (omega arith) (omega arith) (node_at (flow_of (graph_of b)).nodes k)
  unfolding node_of
  nodes_fine k = go (dec_lt k (graph_of b).count)
    where
      go : Dec (k < (graph_of b).count) → FineNode 65536 4294967296 (omega arith) (omega arith) (node_at (flow_of (graph_of b)).nodes k)
      go (yes h) =
          rw (flow_at (graph_of b) k h)
          (node_fine (kind_of (code (graph_of b).nodes k)) (counts_of b) k (code (graph_of b).nodes k) (first (graph_of b).nodes k) (second (graph_of b).nodes k)
          (omega (arith, v.parameter_limit)) (omega (arith, v.state_limit)) (omega (arith, v.delay_limit)) (constants k h) ((good_graph b v).nodes k h))
      go (no h) = rw (flow_off (graph_of b) k (omega arith)) tt

  rooms : (length (flow_of (graph_of b)).nodes ≤ 65536) × (length (flow_of (graph_of b)).states ≤ 65536) × (length (flow_of (graph_of b)).delays ≤ 65536)
  unfolding flow_of graph_of
  rooms = (
    omega (arith, flow_length (graph_of b), v.fits),
    omega (arith, list_length (mapped_update b b.states) (state_count b), v.state_limit),
    omega (arith, list_length (mapped_update b b.delays) (delay_count b), v.delay_limit),
  )

  fine : (mask : ℕ) → Post (Unit {0}) (FineDraft 65536 4294967296 (omega arith) (omega arith)) (compile_flow (flow_of (graph_of b)) mask)
  fine mask =
      draft_fine 65536 4294967296 (omega arith) (omega arith) (flow_of (graph_of b)) (good_flow (counts_of b) (graph_of b) (good_graph b v)) nodes_fine
      rooms.0 rooms.1 rooms.2 mask

  draft_words : (mask : ℕ) (d : Draft) → Fits b mask (compiled_of d) → FineDraft 65536 4294967296 (omega arith) (omega arith) d
      → Each Word (compiled_of d).steps × Each Word (compiled_of d).instructions
  unfolding compiled_of
  draft_words mask d f q =
      let all : List Action = d.control_steps ++ d.sample_steps in
      let n : expanded_length b ≤ most_nodes = v.fits in
      let s : state_count b ≤ most_states = v.state_limit in
      let l : delay_count b ≤ most_delays = v.delay_limit in
      let a : AllActions SmallAction all =
      all_append SmallAction d.control_steps d.sample_steps
      (all_map _ SmallAction (λ x h. (omega (arith, h.0, f.slots, f.steps), h.1)) d.control_steps q.control)
      (all_map _ SmallAction (λ x h. (omega (arith, h.0, f.spills, f.steps), h.1)) d.sample_steps q.sample) in
      (steps_small 0 all (omega (arith, f.instructions, f.steps)) a, instructions_small all a)

  -- EVERY WORD of the two tables is below 2^32
  pub compile_words : (mask : ℕ) (c : Compiled) → compile (graph_of b) mask ≡ allocated c → Each Word c.steps × Each Word c.instructions
  compile_words mask c h =
      let d = from_draft (graph_of b) mask c h in
      let f : Fits b mask (compiled_of d.draft) = subst (λ (x : Compiled). Fits b mask x) d.words (compile_bounds b v mask c h) in
      let q = post_at (FineDraft 65536 4294967296 (omega arith) (omega arith)) (compile_flow (flow_of (graph_of b)) mask) d.draft (fine mask) d.gives in
      subst (λ (x : Compiled). Each Word x.steps × Each Word x.instructions) (sym d.words) (draft_words mask d.draft f q)
