-- A task's operands are fetched, and its own reads are no next reads any more: on exact words as in the first layer. Assumes nothing.
use Rattle.std.specs.Prelude.{◌≡◌, ◌⊎◌, Bool, true, false, cond, ◌||◌, List, [], ◌∷◌, ◌++◌, map, set, eqb}
use Rattle.std.proofs.Math.Path.{refl, ap}
use Rattle.std.proofs.Common.{sym, ◌∙◌, inl, inr, length-set, ext_get_or, get_or-set_same, get_or-set_other, eq-eqb, ne_eqb}
use Prim.Native.Nat.{ℕ, suc, ◌+◌, ◌*◌, ◌-◌, ◌<◌}
use native.Mathlib.Omega.{arith}
use Rattle.std.proofs.Math.Decide.{ℕ_discrete}
use Rattle.std.proofs.Math.ListN.{length, get_or}
use Rattle.std.proofs.lemmas.List.{length-map}
use Rattle.plan.specs.Lists.{member, count_up}
use Rattle.plan.specs.ListLaws.{map_at, count_up_length}
use Rattle.allocate.specs.declared.Frame.{Frame}
use Rattle.allocate.specs.declared.Reads.{Reads}
use Rattle.allocate.specs.Actions.{Action}
use Rattle.allocate.specs.State.{Allocated, allocated, all_locked, and_then, Setting, State, Taken, TakenAll, register_of}
use Rattle.allocate.specs.Allocator.{distance, read_later, fetch, fetch_all}
use Rattle.allocate.specs.Outcomes.{Post}
use Rattle.allocate.specs.StateLaws.{Good}
use Rattle.allocate.specs.FetchLaws.{Fetched, fetch_fetched}
use Rattle.allocate.specs.Layout.{next_at, holder_at, link_at}
use Rattle.allocate.specs.Desk.{Desk, Choice, choose, fetched}
use Rattle.allocate.specs.DeskLaws.{fetched_held}
use Rattle.allocate.specs.Tasks.{Held, holding, second_after, fetched_both, advanced}
use Rattle.allocate.specs.TaskReady.{advanced_desk, advanced_kept}
use Rattle.allocate.specs.Holds.{next_word, next_words, Holds, phase_same, holder_at_lem, tables_next}
use Rattle.allocate.specs.HoldsTake.{Locks, Answers, phase_sixteen}
use Rattle.allocate.specs.HoldsFetch.{ReadsAre, fetched_holds}

-- ---- operands

-- the reads and the registers that hold them: two, or one, which stands twice
abbrev pub Paired : Reads → List ℕ → ℕ → ℕ → List ℕ → Type 0
Paired r reads one two registers =
    ((reads ≡ r.first ∷ r.second ∷ []) × (registers ≡ one ∷ two ∷ []))
    ⊎ (((reads ≡ r.first ∷ []) × (r.second ≡ r.first)) × ((registers ≡ one ∷ []) × (two ≡ one)))

-- no register is locked yet
pub locks_none : Locks 16 16 []
locks_none r small = let z : eqb r 16 ≡ false = ne_eqb r 16 (λ q. omega arith) in rw z

-- one is
pub locks_one : (x : ℕ) → Locks x 16 (x ∷ [])
locks_one x r small = let z : eqb r 16 ≡ false = ne_eqb r 16 (λ q. omega arith) in rw z

-- those of a task's operands are
pub locks_paired : (r : Reads) (reads : List ℕ) (one two : ℕ) (registers : List ℕ) → Paired r reads one two registers → Locks one two registers
locks_paired r reads one two registers (inl p) q small = rw p.1 (go (eqb q one) (eqb q two))
  where
    go : (a b : Bool) → (a || (b || false)) ≡ (a || b)
    go true b = refl
    go false true = refl
    go false false = refl
locks_paired r reads one two registers (inr p) q small = rw (p.1.0, p.1.1) (go (eqb q one))
  where
    go : (a : Bool) → (a || false) ≡ (a || a)
    go true = refl
    go false = refl

module _ (frame : Frame) (nodes : List ℕ) (e : Setting) (table program : List ℕ) (prior : List Action) (rest : List (List ℕ)) (position : ℕ) where
  abbrev H : Desk → State → Type 0
  H d s = Holds frame nodes e table program prior rest position d s

  -- the registers of both operands, in a desk that holds the state; 16 is the refusal
  abbrev pub AnswersAll : Reads → List ℕ → Held → Allocated TakenAll → Type 0
  AnswersAll r reads h (allocated g) = ((h.first < 16) × (h.second < 16)) × (Paired r reads h.first h.second g.registers × H h.desk g.state)
  AnswersAll r reads h all_locked = h.second ≡ 16

  module _ (home : List ℕ) (r : Reads) (below : (r.first < frame.nodes) × (r.second < frame.nodes)) where
    -- the second, where there are two
    second_two : (one : Choice) (t : Taken) → one.register ≡ t.register → t.register < 16 → H one.desk t.state → Good e home t.state
        → AnswersAll r (r.first ∷ r.second ∷ []) (second_after frame nodes r.second one) (fetch_all e rest (r.second ∷ []) (t.register ∷ []) t.state)
    unfolding second_after fetch_all
    second_two one t q small h g =
        let n : one.register ≡ 16 → ⊥ = λ z. omega arith in
        rw (ne_eqb one.register 16 n)
        (go (fetched frame nodes one.register 16 r.second one.desk) (fetch e rest r.second (t.register ∷ []) t.state)
        (rw q (fetched_holds frame nodes e table program prior rest position one.desk t.state h home g t.register 16 (t.register ∷ []) (locks_one t.register) r.second below.1)))
      where
        go : (two : Choice) (m : Allocated Taken) → Answers frame nodes e table program prior rest position two m
            → AnswersAll r (r.first ∷ r.second ∷ []) (holding one.register two.register two.desk)
            (and_then m (λ u. allocated (record { registers = (t.register ∷ []) ++ (u.register ∷ []); state = u.state })))
        go two (allocated u) a = (
          (omega arith, omega (arith, a.0, a.1.0)),
          (inl (refl, rw (← q, ← a.0) refl), a.1.1),
        )
        go two all_locked a = a

    -- .. where it is the first
    second_one : r.second ≡ r.first → (one : Choice) (t : Taken) → one.register ≡ t.register → t.register < 16 → H one.desk t.state
        → register_of t.state r.first ≡ suc t.register
        → AnswersAll r (r.first ∷ []) (second_after frame nodes r.second one) (fetch_all e rest [] (t.register ∷ []) t.state)
    unfolding second_after fetch_all
    second_one same one t q small h held =
        let n : one.register ≡ 16 → ⊥ = λ z. omega arith in
        let w : get_or one.desk.work (holder_at frame r.first) 0 ≡ suc t.register =
        holder_at_lem frame one.desk.work _ _ _ _ _ _ h.tables r.first below.0 ∙ held in
        let z : get_or one.desk.work (holder_at frame r.first) 0 - 1 ≡ one.register = omega arith in
        let f : fetched frame nodes one.register 16 r.second one.desk ≡ choose one.register one.desk =
        ap (λ (x : ℕ). fetched frame nodes one.register 16 x one.desk) same
        ∙ (sym (fetched_held frame nodes one.register 16 r.first one.desk (λ y. omega arith)) ∙ ap (λ (x : ℕ). choose x one.desk) z) in
        rw (ne_eqb one.register 16 n, f)
        ((omega arith, omega arith), (inr ((refl, same), (rw q refl, refl)), h))

    refused : (one : Choice) → one.register ≡ 16 → (second_after frame nodes r.second one).second ≡ 16
    unfolding second_after
    refused one q = rw (eq-eqb one.register 16 q) q

    -- BOTH OPERANDS ARE FETCHED, or both refuse
    pub both_holds : (d : Desk) (s : State) → H d s → Good e home s → (reads : List ℕ) → ReadsAre r reads
        → AnswersAll r reads (fetched_both frame nodes r d) (fetch_all e rest reads [] s)
    unfolding fetched_both fetch_all
    both_holds d s h g reads shape = go shape
      where
        ln : r.first < length e.origins
        ln = rw h.phase.count below.0

        one : Choice
        one = fetched frame nodes 16 16 r.first d

        a : Answers frame nodes e table program prior rest position one (fetch e rest r.first [] s)
        a = fetched_holds frame nodes e table program prior rest position d s h home g 16 16 [] locks_none r.first below.0

        k : Post (Unit {0}) (Fetched e home r.first [] s) (fetch e rest r.first [] s)
        k = fetch_fetched e home (phase_sixteen frame nodes e d.work h.phase) rest r.first [] s g ln

        two : (m : Allocated Taken) → Answers frame nodes e table program prior rest position one m → Post (Unit {0}) (Fetched e home r.first [] s) m
            → AnswersAll r (r.first ∷ r.second ∷ []) (second_after frame nodes r.second one)
            (and_then m (λ t. fetch_all e rest (r.second ∷ []) (t.register ∷ []) t.state))
        two (allocated t) a k = second_two one t a.0 a.1.0 a.1.1 k.good
        two all_locked a k = refused one a

        only : r.second ≡ r.first → (m : Allocated Taken) → Answers frame nodes e table program prior rest position one m
            → Post (Unit {0}) (Fetched e home r.first [] s) m
            → AnswersAll r (r.first ∷ []) (second_after frame nodes r.second one) (and_then m (λ t. fetch_all e rest [] (t.register ∷ []) t.state))
        only same (allocated t) a k = second_one same one t a.0 a.1.0 a.1.1 k.held
        only same all_locked a k = refused one a

        go : ReadsAre r reads → AnswersAll r reads (second_after frame nodes r.second one) (fetch_all e rest reads [] s)
        go (inl q) = rw q (two (fetch e rest r.first [] s) a k)
        go (inr q) = rw q.0 (only q.1 (fetch e rest r.first [] s) a k)

-- ---- the next reads

-- a node that the task does not read: its next read is the same
pub next_word_on : (reads : List ℕ) (rest : List (List ℕ)) (position n : ℕ) → member n reads ≡ false
    → next_word (reads ∷ rest) position n ≡ next_word rest (suc position) n
unfolding next_word
next_word_on reads rest position n q = rw q (go (read_later rest n))
  where
    go : (b : Bool) → cond b (suc (position + suc (distance rest n))) 0 ≡ cond b (suc (suc position + distance rest n)) 0
    go true = omega arith
    go false = refl

-- what is not among a task's reads
pub reads_off : (r : Reads) (reads : List ℕ) → ReadsAre r reads → (n : ℕ) → (n ≡ r.first → ⊥) → (n ≡ r.second → ⊥) → member n reads ≡ false
reads_off r reads (inl q) n f g = rw (q, ne_eqb n r.first f, ne_eqb n r.second g)
reads_off r reads (inr q) n f g = rw (q.0, ne_eqb n r.first f)

next_words_on : (count : ℕ) (r : Reads) (reads : List ℕ) (rest : List (List ℕ)) (position a b : ℕ) → ReadsAre r reads
    → (r.first < count) × (r.second < count) → a ≡ next_word rest (suc position) r.first → b ≡ next_word rest (suc position) r.second
    → set (set (next_words (reads ∷ rest) position count) r.first a) r.second b ≡ next_words rest (suc position) count
next_words_on count r reads rest position a b shape below p q =
    ext_get_or 0 new (next_words rest (suc position) count) (size ∙ sym (long (next_word rest (suc position))))
    (λ n l. let h : n < count = rw size at l in at n h ∙ sym (word (next_word rest (suc position)) n h))
  where
    old : List ℕ
    old = next_words (reads ∷ rest) position count

    mid : List ℕ
    mid = set old r.first a

    new : List ℕ
    new = set mid r.second b

    long : (f : ℕ → ℕ) → length (map f (count_up 0 count)) ≡ count
    long f = length-map (count_up 0 count) f ∙ count_up_length 0 count

    mid_size : length mid ≡ count
    mid_size = length-set old r.first a ∙ long (next_word (reads ∷ rest) position)

    size : length new ≡ count
    size = length-set mid r.second b ∙ mid_size

    word : (f : ℕ → ℕ) (n : ℕ) → n < count → get_or (map f (count_up 0 count)) n 0 ≡ f n
    word f n h = let z : 0 + n ≡ n = omega arith in map_at f 0 count n 0 h ∙ ap f z

    at : (n : ℕ) → n < count → get_or new n 0 ≡ next_word rest (suc position) n
    at n h = go (ℕ_discrete n r.second) (ℕ_discrete n r.first)
      where
        go : Dec (n ≡ r.second) → Dec (n ≡ r.first) → get_or new n 0 ≡ next_word rest (suc position) n
        go (yes z) c = rw z (get_or-set_same mid r.second b 0 (rw mid_size below.1) ∙ q)
        go (no y) (yes z) =
            get_or-set_other mid r.second n b 0 y
            ∙ rw z (get_or-set_same old r.first a 0 (rw (long (next_word (reads ∷ rest) position)) below.0) ∙ p)
        go (no y) (no z) =
            get_or-set_other mid r.second n b 0 y
            ∙ (get_or-set_other old r.first n a 0 z
            ∙ (word (next_word (reads ∷ rest) position) n h ∙ next_word_on reads rest position n (reads_off r reads shape n z y)))

-- THE TASK'S OWN READS ARE PASSED: what the links say are the next ones
pub advanced_holds : (frame : Frame) (nodes : List ℕ) (e : Setting) (table program : List ℕ) (prior : List Action) (rest : List (List ℕ)) (position : ℕ) (r : Reads) (reads : List ℕ)
    → ReadsAre r reads → (r.first < frame.nodes) × (r.second < frame.nodes)
    → (d : Desk) (s : State) → Holds frame nodes e table program prior (reads ∷ rest) position d s
    → get_or d.work (link_at frame (2 * position)) 0 ≡ next_word rest (suc position) r.first
    → get_or d.work (link_at frame (2 * position + 1)) 0 ≡ next_word rest (suc position) r.second
    → Holds frame nodes e table program prior rest (suc position) (advanced_desk frame r position d) s
unfolding advanced
advanced_holds frame nodes e table program prior rest position r reads shape below d s h p q =
    let a = get_or d.work (link_at frame (2 * position)) 0 in
    let b = get_or d.work (link_at frame (2 * position + 1)) 0 in
    let k = advanced_kept frame d h.ready r position below in
    let w = next_words (reads ∷ rest) position frame.nodes in
    let t = tables_next frame d.work d.allocator.freed w s.holder s.spilled s.fresh s.free h.tables r.first a below.0 in
    let u =
    tables_next frame (set d.work (next_at frame r.first) a) d.allocator.freed (set w r.first a) s.holder s.spilled s.fresh s.free t
    r.second b below.1 in
    record {
      ready = k.0;
      phase = phase_same frame nodes e d.work _ k.1.same h.phase;
      few = omega (arith, h.few);
      tables = rw (← next_words_on frame.nodes r reads rest position a b shape below p q) u;
      owner = h.owner;
      slots = h.slots;
      most = h.most;
      written = h.written;
    }
