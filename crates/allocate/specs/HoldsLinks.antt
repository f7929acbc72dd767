-- The links that are made from the last task to the first name the next reads: `links_hold`. Assumes nothing.
use Rattle.std.specs.Prelude.{◌≡◌, refl, ◌⊎◌, true, false, ◌||◌, replicate, eqb}
use Rattle.std.proofs.Common.{sym, ◌∙◌, inl, inr, arith, ext_get_or, eq-eqb}
use Rattle.std.proofs.Math.Path.{ap}
use mathlib.Core.List.{List, [], ◌∷◌, ◌++◌, map, reverse, reverse_aux, append-nil}
use Prim.Native.Nat.{ℕ, zero, suc, ◌+◌, ◌*◌, ◌≤◌, ◌<◌}
use Rattle.std.proofs.Math.Decide.{ℕ_discrete}
use Rattle.std.proofs.Math.ListN.{length, get_or, set, length-set}
use Rattle.std.proofs.lemmas.List.{length-map, length-reverse}
use Rattle.std.proofs.Math.Seq.{get_or-set_same, get_or-set_other}
use Rattle.tables.specs.Parts.{part, part_at, part_in, part_out, length_part}
use Rattle.tables.specs.Tests.{or_right}
use Rattle.plan.specs.Lists.{member, count_up, is_some}
use Rattle.plan.specs.ListLaws.{map_at, count_up_length}
use Rattle.plan.specs.Schedule.{Task, task_reads}
use Rattle.allocate.specs.declared.Frame.{Frame}
use Rattle.allocate.specs.declared.Reads.{Reads}
use Rattle.allocate.specs.State.{Setting}
use Rattle.allocate.specs.Allocator.{reads_of}
use Rattle.allocate.specs.Layout.{Wide, next_at, holder_at, spilled_at, fresh_at, task_at, link_at, home_at}
use Rattle.allocate.specs.Desk.{Desk, desk}
use Rattle.allocate.specs.Tasks.{Lent}
use Rattle.allocate.specs.Tasks as Words
use Rattle.allocate.specs.Links.{linked_by, linked_at, linked}
use Rattle.allocate.specs.Holds.{Phase, next_word, next_words, SamePhase, phase_kept}
use Rattle.allocate.specs.HoldsFetch.{ReadsAre}
use Rattle.allocate.specs.HoldsReads.{next_word_on, reads_off}
use Rattle.allocate.specs.HoldsBegin.{Begins}
use Rattle.allocate.specs.HoldsTasks.{TaskSays, Tasked, says_kept, reads_at, reads_are}

-- ---- the next reads before a task

reads_on : (r : Reads) (reads : List ℕ) → ReadsAre r reads → (member r.first reads ≡ true) × (member r.second reads ≡ true)
reads_on r reads (inl q) =
    rw q (
      (rw (eq-eqb r.first r.first refl) refl),
      or_right (eqb r.second r.first) (eqb r.second r.second || false) (rw (eq-eqb r.second r.second refl) refl),
    )
reads_on r reads (inr q) = rw (q.0, q.1) (rw (eq-eqb r.first r.first refl) (refl, refl))

next_word_here : (reads : List ℕ) (rest : List (List ℕ)) (position n : ℕ) → member n reads ≡ true → position + 1 ≡ next_word (reads ∷ rest) position n
unfolding next_word
next_word_here reads rest position n q = rw q (omega arith)

next_words_back : (count : ℕ) (r : Reads) (reads : List ℕ) (rest : List (List ℕ)) (position : ℕ) → ReadsAre r reads → (r.first < count) × (r.second < count)
    → set (set (next_words rest (suc position) count) r.first (position + 1)) r.second (position + 1) ≡ next_words (reads ∷ rest) position count
next_words_back count r reads rest position shape below =
    ext_get_or 0 new (next_words (reads ∷ rest) position count) (size ∙ sym (long (next_word (reads ∷ rest) position)))
    (λ n l. let h : n < count = rw size at l in at n h ∙ sym (word (next_word (reads ∷ rest) position) n h))
  where
    old : List ℕ
    old = next_words rest (suc position) count

    mid : List ℕ
    mid = set old r.first (position + 1)

    new : List ℕ
    new = set mid r.second (position + 1)

    long : (f : ℕ → ℕ) → length (map f (count_up 0 count)) ≡ count
    long f = length-map (count_up 0 count) f ∙ count_up_length 0 count

    mid_size : length mid ≡ count
    mid_size = length-set old r.first (position + 1) ∙ long (next_word rest (suc position))

    size : length new ≡ count
    size = length-set mid r.second (position + 1) ∙ mid_size

    word : (f : ℕ → ℕ) (n : ℕ) → n < count → get_or (map f (count_up 0 count)) n 0 ≡ f n
    word f n h = let z : 0 + n ≡ n = omega arith in map_at f 0 count n 0 h ∙ ap f z

    at : (n : ℕ) → n < count → get_or new n 0 ≡ next_word (reads ∷ rest) position n
    at n h = go (ℕ_discrete n r.second) (ℕ_discrete n r.first)
      where
        go : Dec (n ≡ r.second) → Dec (n ≡ r.first) → get_or new n 0 ≡ next_word (reads ∷ rest) position n
        go (yes z) c =
            rw z (get_or-set_same mid r.second (position + 1) 0 (rw mid_size below.1) ∙ next_word_here reads rest position r.second (reads_on r reads shape).1)
        go (no y) (yes z) =
            get_or-set_other mid r.second n (position + 1) 0 y
            ∙ rw z (get_or-set_same old r.first (position + 1) 0 (rw (long (next_word rest (suc position))) below.0) ∙ next_word_here reads rest position r.first (reads_on r reads shape).0)
        go (no y) (no z) =
            get_or-set_other mid r.second n (position + 1) 0 y
            ∙ (get_or-set_other old r.first n (position + 1) 0 z
            ∙ (word (next_word rest (suc position)) n h ∙ sym (next_word_on reads rest position n (reads_off r reads shape n z y))))

-- ---- the words that a turn leaves

-- a word outside the next reads and the links of this task
abbrev Away : Frame → ℕ → ℕ → Type 0
Away frame position j = ((j < 5 * frame.nodes) ⊎ (6 * frame.nodes ≤ j)) × ((j ≡ link_at frame (2 * position) → ⊥) × (j ≡ link_at frame (2 * position + 1) → ⊥))

module _ (frame : Frame) (r : Reads) (position : ℕ) (work : List ℕ) (below : (r.first < frame.nodes) × (r.second < frame.nodes)) where
  next_off : (n j : ℕ) → n < frame.nodes → (j < 5 * frame.nodes) ⊎ (6 * frame.nodes ≤ j) → j ≡ next_at frame n → ⊥
  next_off n j h (inl q) z = omega arith
  next_off n j h (inr q) z = omega arith

  pub linked_away : (j : ℕ) → Away frame position j → get_or (linked_by frame r position work) j 0 ≡ get_or work j 0
  unfolding linked_by
  linked_away j a =
      let x = set work (link_at frame (2 * position)) (get_or work (next_at frame r.first) 0) in
      let y = set x (link_at frame (2 * position + 1)) (get_or work (next_at frame r.second) 0) in
      let z = set y (next_at frame r.first) (position + 1) in
      get_or-set_other z (next_at frame r.second) j (position + 1) 0 (next_off r.second j below.1 a.0)
      ∙ (get_or-set_other y (next_at frame r.first) j (position + 1) 0 (next_off r.first j below.0 a.0)
      ∙ (get_or-set_other x (link_at frame (2 * position + 1)) j (get_or work (next_at frame r.second) 0) 0 a.1.1
      ∙ get_or-set_other work (link_at frame (2 * position)) j (get_or work (next_at frame r.first) 0) 0 a.1.0))

  -- its own links
  pub linked_one : link_at frame (2 * position) < length work
      → get_or (linked_by frame r position work) (link_at frame (2 * position)) 0 ≡ get_or work (next_at frame r.first) 0
  unfolding linked_by
  linked_one h =
      let j = link_at frame (2 * position) in
      let x = set work (link_at frame (2 * position)) (get_or work (next_at frame r.first) 0) in
      let y = set x (link_at frame (2 * position + 1)) (get_or work (next_at frame r.second) 0) in
      let z = set y (next_at frame r.first) (position + 1) in
      get_or-set_other z (next_at frame r.second) j (position + 1) 0 (next_off r.second j below.1 (inr (omega arith)))
      ∙ (get_or-set_other y (next_at frame r.first) j (position + 1) 0 (next_off r.first j below.0 (inr (omega arith)))
      ∙ (get_or-set_other x (link_at frame (2 * position + 1)) j (get_or work (next_at frame r.second) 0) 0 (λ q. omega arith)
      ∙ get_or-set_same work j (get_or work (next_at frame r.first) 0) 0 h))

  pub linked_two : link_at frame (2 * position + 1) < length work
      → get_or (linked_by frame r position work) (link_at frame (2 * position + 1)) 0 ≡ get_or work (next_at frame r.second) 0
  unfolding linked_by
  linked_two h =
      let j = link_at frame (2 * position + 1) in
      let x = set work (link_at frame (2 * position)) (get_or work (next_at frame r.first) 0) in
      let y = set x (link_at frame (2 * position + 1)) (get_or work (next_at frame r.second) 0) in
      let z = set y (next_at frame r.first) (position + 1) in
      get_or-set_other z (next_at frame r.second) j (position + 1) 0 (next_off r.second j below.1 (inr (omega arith)))
      ∙ (get_or-set_other y (next_at frame r.first) j (position + 1) 0 (next_off r.first j below.0 (inr (omega arith)))
      ∙ get_or-set_same x j (get_or work (next_at frame r.second) 0) 0 (rw (length-set work (link_at frame (2 * position)) (get_or work (next_at frame r.first) 0)) h))

  -- the next reads
  pub linked_nexts : part (next_at frame 0) frame.nodes (linked_by frame r position work)
      ≡ set (set (part (next_at frame 0) frame.nodes work) r.first (position + 1)) r.second (position + 1)
  unfolding linked_by
  linked_nexts =
      let a = get_or work (next_at frame r.first) 0 in
      let b = get_or work (next_at frame r.second) 0 in
      let n = frame.nodes in
      let o = next_at frame 0 in
      let x = set work (link_at frame (2 * position)) a in
      let y = set x (link_at frame (2 * position + 1)) b in
      let z = set y (next_at frame r.first) (position + 1) in
      let p = part_in o n z (next_at frame r.second) r.second (position + 1) (omega arith) below.1 in
      let q = part_in o n y (next_at frame r.first) r.first (position + 1) (omega arith) below.0 in
      let u = part_out o n x (link_at frame (2 * position + 1)) b (inr (omega arith)) ∙ part_out o n work (link_at frame (2 * position)) a (inr (omega arith)) in
      p ∙ ap (λ (l : List ℕ). set l r.second (position + 1)) (q ∙ ap (λ (l : List ℕ). set l r.first (position + 1)) u)

  pub linked_size : length (linked_by frame r position work) ≡ length work
  unfolding linked_by
  linked_size = simp length-set

-- ---- from the last task to the first

-- a word outside the next reads and the links is as it was
abbrev pub SameLinks : Frame → List ℕ → List ℕ → Type 0
SameLinks frame old new =
    (j : ℕ) → (j < 5 * frame.nodes) ⊎ (((6 * frame.nodes ≤ j) × (j < link_at frame 0)) ⊎ (home_at frame 0 ≤ j)) → get_or new j 0 ≡ get_or old j 0

-- the tasks from a position on, by their words
abbrev pub Named : Frame → Lent → Setting → List ℕ → ℕ → List Task → Type 0
Named frame l e work position [] = Unit {0}
Named frame l e work position (task ∷ tasks) = TaskSays frame l e work (get_or work (task_at frame position) 0) task × Named frame l e work (suc position) tasks

-- the tasks before a position, the last one first
abbrev Before : Frame → Lent → Setting → List ℕ → List Task → Type 0
Before frame l e work [] = Unit {0}
Before frame l e work (task ∷ tasks) = TaskSays frame l e work (get_or work (task_at frame (length tasks)) 0) task × Before frame l e work tasks

-- what holds before each turn: the tasks `after` are linked, those `before` are not
record Linking (frame : Frame) (l : Lent) (e : Setting) (start work : List ℕ) (before after : List Task) : Type 0 where
  wide : Wide frame work
  size : length work ≡ length start
  same : SameLinks frame start work
  phase : Phase frame l.nodes e work
  named : Before frame l e work before
  nexts : part (next_at frame 0) frame.nodes work ≡ next_words (reads_of e after) (length before) frame.nodes
  tasked : Tasked frame l e work (length before) after
  few : length before + length after ≤ 2 * frame.nodes + frame.states + frame.delays + 1

module _ (frame : Frame) (l : Lent) (e : Setting) (old new : List ℕ) (slots : SamePhase frame old new) (count : ℕ)
    (words : (q : ℕ) → q < count → get_or new (task_at frame q) 0 ≡ get_or old (task_at frame q) 0) where
  before_kept : (tasks : List Task) → length tasks ≤ count → Before frame l e old tasks → Before frame l e new tasks
  before_kept [] h b = tt
  before_kept (task ∷ tasks) h b = (
    rw (words (length tasks) (omega arith)) (says_kept frame l e old new slots (get_or old (task_at frame (length tasks)) 0) task b.0),
    before_kept tasks (omega arith) b.1,
  )

  tasked_kept : (from : ℕ) → ((k : ℕ) → 2 * from ≤ k → get_or new (link_at frame k) 0 ≡ get_or old (link_at frame k) 0)
      → (tasks : List Task) (position : ℕ) → from ≤ position → position + length tasks ≤ count → Tasked frame l e old position tasks
      → Tasked frame l e new position tasks
  tasked_kept from links [] position f h t = tt
  tasked_kept from links (task ∷ tasks) position f h t = (
    record {
      says = rw (words position (omega arith)) (says_kept frame l e old new slots (get_or old (task_at frame position) 0) task t.0.says);
      one = links (2 * position) (omega arith) ∙ t.0.one;
      two = links (2 * position + 1) (omega arith) ∙ t.0.two;
    },
    tasked_kept from links tasks (suc position) (omega arith) (omega arith) t.1,
  )

module _ (frame : Frame) (l : Lent) (e : Setting) where
  -- a turn
  linking_on : (start work : List ℕ) (task : Task) (before after : List Task) → Linking frame l e start work (task ∷ before) after
      → Linking frame l e start (linked_at frame l (length before) work) before (task ∷ after)
  unfolding linked_at reads_of
  linking_on start work task before after k =
      record {
        size = linked_size frame r p work below ∙ k.size;
        same = λ j h. aside j h ∙ k.same j h;
        wide =
            record { some = k.wide.some; small = k.wide.small; states = k.wide.states; delays = k.wide.delays; wide = rw (linked_size frame r p work below) k.wide.wide };
        phase = phase_kept frame l.nodes e work new slots k.phase;
        named = before_kept frame l e work new slots count words before (omega (arith, k.few)) k.named.1;
        nexts =
            linked_nexts frame r p work below
            ∙ (ap (λ (x : List ℕ). set (set x r.first (p + 1)) r.second (p + 1)) k.nexts ∙ next_words_back frame.nodes r reads (reads_of e after) p fine.0 below);
        tasked = (
          record {
            says = rw (words p (omega (arith, k.few))) (says_kept frame l e work new slots word task k.named.0);
            one =
                linked_one frame r p work below (omega (arith, k.few, k.wide.wide))
                ∙ (next r.first below.0 ∙ ap (next_word (reads_of e after) (suc p)) (sym ends.0));
            two =
                linked_two frame r p work below (omega (arith, k.few, k.wide.wide))
                ∙ (next r.second below.1 ∙ ap (next_word (reads_of e after) (suc p)) (sym ends.1));
          },
          tasked_kept frame l e work new slots count words (suc p) links after (suc p) (omega arith) (omega (arith, k.few)) k.tasked,
        );
        few = omega (arith, k.few);
      }
    where
      p : ℕ
      p = length before

      count : ℕ
      count = 2 * frame.nodes + frame.states + frame.delays + 1

      word : ℕ
      word = get_or work (task_at frame p) 0

      r : Reads
      r = Words.reads_of frame l work word

      reads : List ℕ
      reads = task_reads e.nodes e.origins task

      new : List ℕ
      new = linked_by frame r p work

      fine : ReadsAre r reads × ((r.first < frame.nodes) × (r.second < frame.nodes))
      fine = reads_are frame l e work k.phase word task k.named.0

      below : (r.first < frame.nodes) × (r.second < frame.nodes)
      below = fine.1

      ends : (get_or reads 0 0 ≡ r.first) × (get_or reads 1 (get_or reads 0 0) ≡ r.second)
      ends = reads_at r reads fine.0

      slots : SamePhase frame work new
      slots j (inl q) = linked_away frame r p work below j (inl q, ((λ z. omega arith), (λ z. omega arith)))
      slots j (inr q) = linked_away frame r p work below j (inr (omega arith), ((λ z. omega (arith, k.few)), (λ z. omega (arith, k.few))))

      aside : SameLinks frame work new
      aside j (inl q) = linked_away frame r p work below j (inl q, ((λ z. omega arith), (λ z. omega arith)))
      aside j (inr (inl q)) = linked_away frame r p work below j (inr q.0, ((λ z. omega (arith, q.1)), (λ z. omega (arith, q.1))))
      aside j (inr (inr q)) = linked_away frame r p work below j (inr (omega arith), ((λ z. omega (arith, k.few)), (λ z. omega (arith, k.few))))

      words : (q : ℕ) → q < count → get_or new (task_at frame q) 0 ≡ get_or work (task_at frame q) 0
      words q h = linked_away frame r p work below (task_at frame q) (inr (omega arith), ((λ z. omega arith), (λ z. omega arith)))

      links : (i : ℕ) → 2 * suc p ≤ i → get_or new (link_at frame i) 0 ≡ get_or work (link_at frame i) 0
      links i h = linked_away frame r p work below (link_at frame i) (inr (omega arith), ((λ z. omega arith), (λ z. omega arith)))

      next : (n : ℕ) → n < frame.nodes → get_or work (next_at frame n) 0 ≡ next_word (reads_of e after) (suc p) n
      next n h =
          let z : next_at frame 0 + n ≡ next_at frame n = omega arith in
          let y : 0 + n ≡ n = omega arith in
          sym (part_at (next_at frame 0) frame.nodes work n h ∙ ap (λ (i : ℕ). get_or work i 0) z)
          ∙ (ap (λ (x : List ℕ). get_or x n 0) k.nexts ∙ (map_at (next_word (reads_of e after) (suc p)) 0 frame.nodes n 0 h ∙ ap (next_word (reads_of e after) (suc p)) y))

  linking_all : (before after : List Task) (start work : List ℕ) → Linking frame l e start work before after
      → Linking frame l e start (linked frame l (length before) work) [] (reverse_aux before after)
  unfolding linked
  linking_all [] after start work k = k
  linking_all (task ∷ before) after start work k =
      linking_all before (task ∷ after) start (linked_at frame l (length before) work) (linking_on start work task before after k)

  before_named : (work : List ℕ) (tasks before : List Task) → Before frame l e work before → Named frame l e work (length before) tasks
      → Before frame l e work (reverse_aux tasks before)
  before_named work [] before b n = b
  before_named work (task ∷ tasks) before b n = before_named work tasks (task ∷ before) (n.0, b) n.1

-- a list turned twice
reverse_twice : {A : Type 0} (xs ys zs : List A) → reverse_aux (reverse_aux xs ys) zs ≡ reverse_aux ys (xs ++ zs)
reverse_twice [] ys zs = refl
reverse_twice (x ∷ xs) ys zs = reverse_twice xs (x ∷ ys) zs

-- no task is to come
none_next : (position k count : ℕ) → map (next_word [] position) (count_up k count) ≡ replicate count 0
unfolding next_word
none_next position k zero = refl
none_next position k (suc count) = ap (λ (l : List ℕ). 0 ∷ l) (none_next position (suc k) count)

-- what the links leave: the next reads of the tasks, for each task those after it, and every other word as it was
pub record Linked (frame : Frame) (l : Lent) (e : Setting) (tasks : List Task) (old new : List ℕ) : Type 0 where
  pub nexts : part (next_at frame 0) frame.nodes new ≡ next_words (reads_of e tasks) 0 frame.nodes
  pub phase : Phase frame l.nodes e new
  pub tasked : Tasked frame l e new 0 tasks
  pub wide : Wide frame new
  pub size : length new ≡ length old
  pub same : SameLinks frame old new

-- THE LINKS, from tables in which no node has a next read
pub links_hold : (frame : Frame) (l : Lent) (e : Setting) (work : List ℕ) (tasks : List Task) → Wide frame work → Phase frame l.nodes e work
    → Named frame l e work 0 tasks
    → length tasks ≤ 2 * frame.nodes + frame.states + frame.delays + 1
    → part (next_at frame 0) frame.nodes work ≡ replicate frame.nodes 0
    → Linked frame l e tasks work (linked frame l (length tasks) work)
unfolding reads_of
links_hold frame l e work tasks wide phase named few none =
    let n : length (reverse tasks) ≡ length tasks = length-reverse tasks in
    let back : reverse_aux (reverse tasks) [] ≡ tasks = reverse_twice tasks [] [] ∙ append-nil tasks in
    let k = linking_all frame l e (reverse tasks) [] work work
    (record {
      wide = wide;
      size = refl;
      same = λ j h. refl;
      phase = phase;
      named = before_named frame l e work tasks [] tt named;
      nexts = none ∙ sym (none_next (length (reverse tasks)) 0 frame.nodes);
      tasked = tt;
      few = omega (arith, n);
    }) in
    let k₁ : Linking frame l e work (linked frame l (length tasks) work) [] tasks = rw (n, back) at k in
    record { nexts = k₁.nexts; phase = k₁.phase; tasked = k₁.tasked; wide = k₁.wide; size = k₁.size; same = k₁.same }

-- ---- the allocator's regions are cleared before or after, as one likes

-- a region whose words are the same is the same
part_same : (b n : ℕ) (old new : List ℕ) → b + n ≤ length old → length new ≡ length old → ((i : ℕ) → i < n → get_or new (b + i) 0 ≡ get_or old (b + i) 0)
    → part b n new ≡ part b n old
part_same b n old new h s f =
    let p : length (part b n new) ≡ n = length_part b n new (omega arith) in
    ext_get_or 0 (part b n new) (part b n old) (p ∙ sym (length_part b n old h))
    (λ i l. let q : i < n = rw p at l in part_at b n new i q ∙ (f i q ∙ sym (part_at b n old i q)))

-- THE START OF A PHASE is one before its tasks are linked, too
pub begins_linked : (frame : Frame) (l : Lent) (e : Setting) (tasks : List Task) (d : Desk) (new : List ℕ) → Linked frame l e tasks d.work new → Begins frame e d
    → Begins frame e (desk new d.steps d.instructions d.allocator)
begins_linked frame l e tasks d new k b =
    record {
      wide = k.wide;
      holders = kept (holder_at frame 0) (omega arith) (omega arith) ∙ b.holders;
      spilleds = kept (spilled_at frame 0) (omega arith) (omega arith) ∙ b.spilleds;
      freshes = ap (map is_some) (kept (fresh_at frame 0) (omega arith) (omega arith)) ∙ b.freshes;
      owner = b.owner;
      freed = b.freed;
      slots = b.slots;
      most = b.most;
    }
  where
    kept : (o : ℕ) → 6 * frame.nodes ≤ o → o ≤ 8 * frame.nodes → part o frame.nodes new ≡ part o frame.nodes d.work
    kept o low high =
        part_same o frame.nodes d.work new (omega (arith, b.wide.wide)) k.size (λ i h. k.same (o + i) (inr (inl (omega arith, omega arith))))
