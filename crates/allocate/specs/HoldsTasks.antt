-- A task on exact words is the first layer's. Assumes nothing.
use Rattle.std.specs.Prelude.{◌≡◌, refl, ◌⊎◌, Bool, true, false, cond, length, get_or, T, eqb, ltb}
use Rattle.std.proofs.Common.{sym, ap, ◌∙◌, inl, inr, eqb→eq}
use Rattle.std.proofs.Math.Path.{subst}
use mathlib.Core.List.{List, [], ◌∷◌, map}
use Prim.Native.Nat.{ℕ, suc, ◌+◌, ◌*◌, ◌-◌, ◌≤◌, ◌<◌}
use native.Mathlib.Omega.{arith}
use borrow.Author.Tests.{eq-eqb, ne_eqb, lt-ltb, le-ltb}
use Rattle.tables.specs.Tests.{or_pass}
use Rattle.block.specs.declared.Kind.{Kind}
use Rattle.block.specs.Block.{code, first, second}
use Rattle.block.specs.Kinds.{kind_of}
use Rattle.plan.specs.Lists.{member}
use Rattle.plan.specs.Nodes.{Node, input_node, network_node, constant_node, parameter_node, state_node, delay_node, binary_node, unary_node, node_at, operands, is_computed}
use Rattle.plan.specs.Flow.{node_as, node_of}
use Rattle.plan.specs.Origins.{has_origin, origin_at, canonical}
use Rattle.plan.specs.OriginLaws.{no_origin_lem, canonical_origin, canonical_computed}
use Rattle.plan.specs.Schedule.{Task, compute_task, keep_task, store_task, task_reads}
use Rattle.allocate.specs.declared.Frame.{Frame}
use Rattle.allocate.specs.declared.Access.{Access}
use Rattle.allocate.specs.declared.Reads.{Reads}
use Rattle.allocate.specs.Actions.{Action}
use Rattle.allocate.specs.State.{Allocated, allocated, all_locked, and_then, Setting, State, TakenAll, register_of}
use Rattle.allocate.specs.Allocator.{fetch_all, run_task, run_store, allocate_task, reads_of}
use Rattle.allocate.specs.Outcomes.{Post}
use Rattle.allocate.specs.StateLaws.{Good}
use Rattle.allocate.specs.ReadLaws.{FetchedAll, fetch_all_fetched}
use Rattle.allocate.specs.ReadLaws as ReadLaws
use Rattle.allocate.specs.Layout.{slot_at, task_at, link_at}
use Rattle.allocate.specs.Desk.{Desk, Choice, choose, access}
use Rattle.allocate.specs.Ready.{Kept}
use Rattle.allocate.specs.Tasks.{Lent, Held, value_of, canonical_of, reads_as, compute_reads, fetched_both, target_of, stored, arm_of, finished, performed, carried, ran}
use Rattle.allocate.specs.Tasks as Words
use Rattle.allocate.specs.TaskReady.{both_kept, advanced_desk, advanced_kept}
use Rattle.allocate.specs.Holds.{Phase, next_word, Holds, SamePlan, SamePhase, plan_phase}
use Rattle.allocate.specs.HoldsTake.{phase_sixteen}
use Rattle.allocate.specs.HoldsFetch.{ReadsAre}
use Rattle.allocate.specs.HoldsReads.{Paired, AnswersAll, both_holds, advanced_holds}
use Rattle.allocate.specs.HoldsArms.{CodeIs, two_operands, one_operand, no_operand, code_is, Done, compute_holds, keep_holds, store_holds}

-- ---- what the plan's regions say of a task

-- a task by its word: compute n is n, keep n in its control slot N + n, the write of memory m (states, then delays, then the output) 2N + m
abbrev pub TaskSays : Frame → Lent → Setting → List ℕ → ℕ → Task → Type 0
TaskSays frame l e work word (compute_task n) =
    (word ≡ n)
    × ((n < frame.nodes)
    × (T (is_computed (node_at e.nodes n)) × ((first l.nodes n < frame.nodes) × (code l.nodes n < 11 → second l.nodes n < frame.nodes))))
TaskSays frame l e work word (keep_task slot n) =
    (word ≡ frame.nodes + n) × ((n < frame.nodes) × ((get_or work (slot_at frame n) 0 ≡ suc slot) × (suc slot ≤ frame.fixed)))
TaskSays frame l e work word (store_task c i n) =
    (n < frame.nodes)
    × ((value_of frame l.updates l.stores l.output word ≡ n)
    × ((memory : ℕ) × (word ≡ 2 * frame.nodes + memory) × (memory ≤ frame.states + frame.delays) × (target_of frame memory ≡ access c i)))

-- the task at a position, and the reads after it
pub record TaskAt (frame : Frame) (l : Lent) (e : Setting) (work : List ℕ) (position : ℕ) (task : Task) (rest : List (List ℕ)) : Type 0 where
  pub says : TaskSays frame l e work (get_or work (task_at frame position) 0) task
  pub one : get_or work (link_at frame (2 * position)) 0 ≡ next_word rest (suc position) (get_or (task_reads e.nodes e.origins task) 0 0)
  pub two : get_or work (link_at frame (2 * position + 1)) 0
      ≡ next_word rest (suc position) (get_or (task_reads e.nodes e.origins task) 1 (get_or (task_reads e.nodes e.origins task) 0 0))

-- the tasks from a position on
abbrev pub Tasked : Frame → Lent → Setting → List ℕ → ℕ → List Task → Type 0
Tasked frame l e work position [] = Unit {0}
Tasked frame l e work position (task ∷ tasks) = TaskAt frame l e work position task (reads_of e tasks) × Tasked frame l e work (suc position) tasks

-- a task says the same in a table with the same slots
pub says_kept : (frame : Frame) (l : Lent) (e : Setting) (old new : List ℕ) → SamePhase frame old new → (word : ℕ) (task : Task) → TaskSays frame l e old word task
    → TaskSays frame l e new word task
says_kept frame l e old new same word (compute_task n) t = t
says_kept frame l e old new same word (keep_task slot n) t = (t.0, (t.1.0, (same (slot_at frame n) (inl (omega (arith, t.1.0))) ∙ t.1.1.0, t.1.1.1)))
says_kept frame l e old new same word (store_task c i n) t = t

-- they stay as they are
module _ (frame : Frame) (l : Lent) (e : Setting) (old new : List ℕ) (same : SamePlan frame old new) where
  says_same : (word : ℕ) (task : Task) → TaskSays frame l e old word task → TaskSays frame l e new word task
  says_same word task t = says_kept frame l e old new (plan_phase frame old new same) word task t

  pub task_at_same : (position : ℕ) (task : Task) (rest : List (List ℕ)) → TaskAt frame l e old position task rest → TaskAt frame l e new position task rest
  task_at_same position task rest t =
      record {
        says = rw (same (task_at frame position) (inr (omega arith))) (says_same (get_or old (task_at frame position) 0) task t.says);
        one = same (link_at frame (2 * position)) (inr (omega arith)) ∙ t.one;
        two = same (link_at frame (2 * position + 1)) (inr (omega arith)) ∙ t.two;
      }

  pub tasked_same : (position : ℕ) (tasks : List Task) → Tasked frame l e old position tasks → Tasked frame l e new position tasks
  tasked_same position [] t = tt
  tasked_same position (task ∷ tasks) t = (task_at_same position task (reads_of e tasks) t.0, tasked_same (suc position) tasks t.1)

-- ---- what a task reads

-- a computed node has operands
computed_some : (node : Node) → T (is_computed node) → operands node ≡ [] → ⊥
computed_some input_node t q = t
computed_some network_node t q = t
computed_some (constant_node b) t q = t
computed_some (parameter_node i) t q = t
computed_some (state_node i) t q = t
computed_some (delay_node i) t q = t
computed_some (binary_node c x y) t q = let z = ap length q in omega arith
computed_some (unary_node c x) t q = let z = ap length q in omega arith

module _ (frame : Frame) (l : Lent) (e : Setting) (work : List ℕ) (phase : Phase frame l.nodes e work) where
  -- the first node of a source is a node
  pub canonical_below : (n : ℕ) → n < frame.nodes → canonical e.origins n < frame.nodes
  canonical_below n h = go (has_origin (origin_at e.origins n)) refl
    where
      ln : n < length e.origins
      ln = rw phase.count h

      go : (b : Bool) → has_origin (origin_at e.origins n) ≡ b → canonical e.origins n < frame.nodes
      go true q = rw phase.count at (canonical_origin e.origins n ln (rw q tt)).0
      go false q = rw (canonical_computed e.origins n (no_origin_lem (origin_at e.origins n) q)) h

  abbrev Fine : Reads → List ℕ → Type 0
  Fine r reads = ReadsAre r reads × ((r.first < frame.nodes) × (r.second < frame.nodes))

  -- one value
  one_read : (n : ℕ) → n < frame.nodes → Fine (reads_as (canonical_of frame work n) (canonical_of frame work n)) (canonical e.origins n ∷ [])
  one_read n h =
      let q = phase.firsts n h in
      (inr (ap (λ (x : ℕ). x ∷ []) (sym q), refl), (rw q (canonical_below n h), rw q (canonical_below n h)))

  compute_read : (n : ℕ) → n < frame.nodes → T (is_computed (node_at e.nodes n)) → first l.nodes n < frame.nodes
      → (code l.nodes n < 11 → second l.nodes n < frame.nodes)
      → Fine (compute_reads frame l.nodes work n) (map (canonical e.origins) (operands (node_at e.nodes n)))
  unfolding compute_reads node_of
  compute_read n h t a b = rw (phase.each n h) (go (kind_of c) (code_is c) (rw (phase.each n h) at t))
    where
      c : ℕ
      c = code l.nodes n

      x : ℕ
      x = first l.nodes n

      y : ℕ
      y = second l.nodes n

      go : (kind : Kind) → CodeIs c kind → T (is_computed (node_as kind c x y))
          → Fine (cond (ltb c 11) (reads_as (canonical_of frame work x) (canonical_of frame work y)) (reads_as (canonical_of frame work x) (canonical_of frame work x)))
          (map (canonical e.origins) (operands (node_as kind c x y)))
      go kind (two_operands q) u =
          let p = phase.firsts x a in
          let r = phase.firsts y (b q) in
          rw (lt-ltb c 11 q) (
            inl (ap (λ (z : ℕ). z ∷ canonical e.origins y ∷ []) (sym p) ∙ ap (λ (z : ℕ). canonical_of frame work x ∷ z ∷ []) (sym r)),
            (rw p (canonical_below x a), rw r (canonical_below y (b q))),
          )
      go kind (one_operand q w) u = rw (le-ltb c 11 (omega arith)) (one_read x a)
      go kind (no_operand k q) u = absurd (computed_some (node_as k c x y) u (q x y))

  value_read : (word n : ℕ) → frame.nodes ≤ word → value_of frame l.updates l.stores l.output word ≡ n → n < frame.nodes
      → Fine (Words.reads_of frame l work word) (canonical e.origins n ∷ [])
  unfolding Words.reads_of
  value_read word n h q here = rw (le-ltb word frame.nodes h, q) (one_read n here)

  pub keep_value : (n : ℕ) → n < frame.nodes → value_of frame l.updates l.stores l.output (frame.nodes + n) ≡ n
  unfolding value_of
  keep_value n h = rw (lt-ltb (frame.nodes + n) (2 * frame.nodes) (omega arith)) (omega arith)

  -- WHAT A TASK READS on words is what it reads
  pub reads_are : (word : ℕ) (task : Task) → TaskSays frame l e work word task → Fine (Words.reads_of frame l work word) (task_reads e.nodes e.origins task)
  unfolding Words.reads_of task_reads
  reads_are word (compute_task n) t = rw (t.0, lt-ltb n frame.nodes t.1.0) (compute_read n t.1.0 t.1.1.0 t.1.1.1.0 t.1.1.1.1)
  reads_are word (keep_task slot n) t = rw t.0 (value_read (frame.nodes + n) n (omega arith) (keep_value n t.1.0) t.1.0)
  reads_are word (store_task c i n) t =
      let q = t.1.1.1 in
      value_read word n (omega arith) t.1.0 t.0

-- ---- a task

-- the registers that the fetches leave hold the reads
paired_held : (s : State) (r : Reads) (reads : List ℕ) (one two : ℕ) (registers : List ℕ) → Paired r reads one two registers → ReadLaws.Holds s reads registers
    → (register_of s r.first ≡ suc one) × (register_of s r.second ≡ suc two)
paired_held s r reads one two registers (inl p) h = let k : ReadLaws.Holds s (r.first ∷ r.second ∷ []) (one ∷ two ∷ []) = rw (p.0, p.1) at h in (k.0, k.1.0)
paired_held s r reads one two registers (inr p) h =
    let k : ReadLaws.Holds s (r.first ∷ []) (one ∷ []) = rw (p.0.0, p.1.0) at h in
    (k.0, rw (p.0.1, p.1.1) k.0)

-- the two reads of a task's list
pub reads_at : (r : Reads) (reads : List ℕ) → ReadsAre r reads → (get_or reads 0 0 ≡ r.first) × (get_or reads 1 (get_or reads 0 0) ≡ r.second)
reads_at r reads (inl q) = rw q (refl, refl)
reads_at r reads (inr q) = rw q.0 (refl, sym q.1)

-- what is read is a node
reads_inside : (r : Reads) (reads : List ℕ) → ReadsAre r reads → (count : ℕ) → (r.first < count) × (r.second < count) → (m : ℕ) → T (member m reads) → m < count
reads_inside r reads (inl q) count b m t = go (or_pass (eqb m r.first) (member m (r.second ∷ [])) (rw q at t))
  where
    two : T (eqb m r.second) ⊎ ⊥ → m < count
    two (inl u) = rw (eqb→eq m r.second u) b.1
    two (inr u) = absurd u

    go : T (eqb m r.first) ⊎ T (member m (r.second ∷ [])) → m < count
    go (inl u) = rw (eqb→eq m r.first u) b.0
    go (inr u) = two (or_pass (eqb m r.second) false u)
reads_inside r reads (inr q) count b m t = go (or_pass (eqb m r.first) false (rw q.0 at t))
  where
    go : T (eqb m r.first) ⊎ ⊥ → m < count
    go (inl u) = rw (eqb→eq m r.first u) b.0
    go (inr u) = absurd u

-- a task that reads one value
one_only : (r : Reads) (n one two : ℕ) (registers : List ℕ) → Paired r (n ∷ []) one two registers
    → (registers ≡ one ∷ []) × ((two ≡ one) × ((n ∷ [] ≡ r.first ∷ []) × (r.second ≡ r.first)))
one_only r n one two registers (inl p) = let z = ap length p.0 in absurd (omega arith)
one_only r n one two registers (inr p) = (p.1.0, (p.1.1, p.0))

module _ (frame : Frame) (l : Lent) (e : Setting) (table program : List ℕ) (prior : List Action) (rest : List (List ℕ)) (position : ℕ) where
  abbrev H : Desk → State → Type 0
  H d s = Holds frame l.nodes e table program prior rest position d s

  abbrev D : Choice → Allocated State → Type 0
  D c m = Done frame l.nodes e table program prior rest position c m

  -- THE MATCH ON THE TASK, once its operands are held
  pub arm_holds : (d : Desk) (own : List ℕ) (g : TakenAll) → H d g.state → Good e own g.state → (task : Task) (word : ℕ)
      → TaskSays frame l e d.work word task
      → (r : Reads) → (r.first < frame.nodes) × (r.second < frame.nodes)
      → (one two : ℕ) → (one < 16) × (two < 16) → Paired r (task_reads e.nodes e.origins task) one two g.registers
      → (register_of g.state r.first ≡ suc one) × (register_of g.state r.second ≡ suc two)
      → D (finished frame r (arm_of frame l.nodes r one two word d)) (run_task e rest (task_reads e.nodes e.origins task) task g)
  unfolding arm_of run_task task_reads
  arm_holds d own g h good (compute_task n) word t r below one two small paired held =
      rw (t.0, lt-ltb n frame.nodes t.1.0)
      (compute_holds frame l.nodes e table program prior rest position d g.state h r _ one two g.registers paired below small good.owners held n t.1.0 refl)
  arm_holds d own g h good (keep_task slot n) word t r below one two small paired held =
      let z : (frame.nodes + n) - frame.nodes ≡ n = omega arith in
      rw (t.0, le-ltb (frame.nodes + n) frame.nodes (omega arith), lt-ltb (frame.nodes + n) (2 * frame.nodes) (omega (arith, t.1.0)), z)
      (keep_holds frame l.nodes e table program prior rest position d g.state h r _ one two g.registers paired below small n slot t.1.0 t.1.1.0 t.1.1.1)
  arm_holds d own g h good (store_task c i n) word t r below one two small paired held =
      let m : ℕ = t.1.1.0 in
      let w : word ≡ 2 * frame.nodes + m = t.1.1.1 in
      let z : (2 * frame.nodes + m) - 2 * frame.nodes ≡ m = omega arith in
      let reads : List ℕ = canonical e.origins n ∷ [] in
      let o = one_only r (canonical e.origins n) one two g.registers paired in
      let x =
      store_holds frame l.nodes e table program prior rest position d g.state h own good r reads one (inr (o.1.1, (refl, refl))) below small.0 m
      t.1.1.2 in
      let y =
      subst (λ (a : Access). D (finished frame r (stored frame l.nodes one m d)) (run_store e rest reads a.code a.index (record { registers = one ∷ []; state = g.state }))) t.1.1.3 x in
      rw (w, le-ltb (2 * frame.nodes + m) frame.nodes (omega arith), le-ltb (2 * frame.nodes + m) (2 * frame.nodes) (omega arith), z)
      (subst (λ (k : List ℕ). D (finished frame r (stored frame l.nodes one m d)) (run_store e rest reads c i (record { registers = k; state = g.state }))) (sym o.0) y)

-- A TASK, or both refuse
pub task_holds : (frame : Frame) (l : Lent) (e : Setting) (table program : List ℕ) (prior : List Action) (rest : List (List ℕ)) (position : ℕ) (task : Task) (own : List ℕ)
    (d : Desk) (s : State)
    → Holds frame l.nodes e table program prior (task_reads e.nodes e.origins task ∷ rest) position d s → Good e own s
    → TaskAt frame l e d.work position task rest
    → Done frame l.nodes e table program prior rest (suc position) (ran frame l position d) (allocate_task e rest (task_reads e.nodes e.origins task) task s)
unfolding ran carried performed allocate_task
task_holds frame l e table program prior rest position task own d s h good at =
    go (fetched_both frame l.nodes r d) (fetch_all e (reads ∷ rest) reads [] s)
    (both_holds frame l.nodes e table program prior (reads ∷ rest) position own r fine.1 d s h good reads fine.0)
    (fetch_all_fetched e own (phase_sixteen frame l.nodes e d.work h.phase) (reads ∷ rest) reads [] [] s good (λ m t. rw h.phase.count (reads_inside r reads fine.0 frame.nodes fine.1 m t)) tt)
    (both_kept frame l.nodes r fine.1 d h.ready)
  where
    reads : List ℕ
    reads = task_reads e.nodes e.origins task

    word : ℕ
    word = get_or d.work (task_at frame position) 0

    r : Reads
    r = Words.reads_of frame l d.work word

    fine : ReadsAre r reads × ((r.first < frame.nodes) × (r.second < frame.nodes))
    fine = reads_are frame l e d.work h.phase word task at.says

    ends : (get_or reads 0 0 ≡ r.first) × (get_or reads 1 (get_or reads 0 0) ≡ r.second)
    ends = reads_at r reads fine.0

    go : (x : Held) (m : Allocated TakenAll) → AnswersAll frame l.nodes e table program prior (reads ∷ rest) position r reads x m
        → Post (Unit {0}) (FetchedAll e own [] reads s) m → Kept frame 4 d x.desk
        → Done frame l.nodes e table program prior rest (suc position)
        (cond (eqb x.second 16) (choose 16 x.desk) (finished frame r (arm_of frame l.nodes r x.first x.second word (advanced_desk frame r position x.desk))))
        (and_then m (λ g. run_task e rest reads task g))
    go x (allocated g) a f k =
        let n : x.second ≡ 16 → ⊥ = λ z. omega (arith, a.0.1) in
        let one : get_or x.desk.work (link_at frame (2 * position)) 0 ≡ next_word rest (suc position) r.first =
        k.1.same (link_at frame (2 * position)) (inr (omega arith)) ∙ (at.one ∙ ap (next_word rest (suc position)) ends.0) in
        let two : get_or x.desk.work (link_at frame (2 * position + 1)) 0 ≡ next_word rest (suc position) r.second =
        k.1.same (link_at frame (2 * position + 1)) (inr (omega arith)) ∙ (at.two ∙ ap (next_word rest (suc position)) ends.1) in
        let on = advanced_holds frame l.nodes e table program prior rest position r reads fine.0 fine.1 x.desk g.state a.1.1 one two in
        let v = advanced_kept frame x.desk k.0 r position fine.1 in
        let says = says_same frame l e d.work (advanced_desk frame r position x.desk).work (λ j i. v.1.same j i ∙ k.1.same j i) word task at.says in
        rw (ne_eqb x.second 16 n)
        (arm_holds frame l e table program prior rest (suc position) (advanced_desk frame r position x.desk) own g on f.good task word says r fine.1 x.first x.second
        a.0 a.1.0 (paired_held g.state r reads x.first x.second g.registers a.1.0 f.held))
    go x all_locked a f k = rw (eq-eqb x.second 16 a) refl
