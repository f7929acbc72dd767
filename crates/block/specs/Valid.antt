-- What an accepted block is: each answer's tests turned into a fact with a name. Later crates cite `valid` and these facts, not the text of `validation`.
use Rattle.std.specs.Prelude.{◌≡◌, Bool, true, false, not, ◌&&◌, List, ℕ, zero, suc, ◌≤◌, ◌<◌, ◌%◌, length, ltb, eqb}
use Rattle.std.proofs.Common.{sym, ltb-false, leb-false, eq-eqb, arith}
use Rattle.std.proofs.lemmas.Bool.{eqb-false, not-false}
use Rattle.words.specs.Operations.{is_finite, span_is_valid}
use Rattle.tables.specs.Tests.{true_false, neither, same_of}
use Rattle.tables.specs.Loops.{some, some_false, sum, sum_start}
use Rattle.answers.specs.Numbers.{accepted}
use Rattle.answers.specs.OrderLaws.{then_accepted, refuse_accepted, refuse_at_accepted, in_order_accepted}
use Rattle.block.specs.declared.Header.{Header}
use Rattle.block.specs.declared.Kind.{Kind}
use Rattle.block.specs.declared.Kind.TheVariants.{Source, Constant, Parameter, State, Delay, Binary, Divide, Unary, Recip, Tanh, Sigmoid, Unknown}
use Rattle.block.specs.Block.{Block, parameter_count, state_count, delay_count, node_count, minimum, maximum, default, initial, update, delay_length, code, first, second}
use Rattle.block.specs.Kinds.{kind_of, operands_of, tanh_steps}
use Rattle.block.specs.KindLaws.{count_offset}
use Rattle.block.specs.Limits.{first_version, last_version, network_version, last_category, mono, code_needs_two, category_needs_two, most_nodes, most_parameters, most_states, most_delays, most_delay_samples}
use Rattle.block.specs.declared.Counts.{Counts}
use Rattle.block.specs.Validation.{counts_of, ragged, malformed_words, malformed_node, malformed_header, malformed, unknown_version, network_not_allowed, reads_network, network_flag_clear, node_needs_two, needs_version_two, expanded_length, too_large, parameter_answer, operand_not_below, bad_content, words_answer, node_answer, state_answer, running_total, delay_answer, records_answer, validation}

-- a node i of a kind with the words x and y: operands stand before it, an index is below its table's count, a constant is finite, unused words are 0
abbrev pub SoundWords : Kind → Counts → ℕ → ℕ → ℕ → Type 0
SoundWords Source n i x y = (x ≡ 0) × (y ≡ 0)
SoundWords Constant n i x y = (is_finite x ≡ true) × (y ≡ 0)
SoundWords Parameter n i x y = (x < n.parameters) × (y ≡ 0)
SoundWords State n i x y = (x < n.states) × (y ≡ 0)
SoundWords Delay n i x y = (x < n.delays) × (y ≡ 0)
SoundWords Binary n i x y = (x < i) × (y < i)
SoundWords Divide n i x y = (x < i) × (y < i)
SoundWords Unary n i x y = (x < i) × (y ≡ 0)
SoundWords Recip n i x y = (x < i) × (y ≡ 0)
SoundWords Tanh n i x y = (x < i) × (y ≡ 0)
SoundWords Sigmoid n i x y = (x < i) × (y ≡ 0)
SoundWords Unknown n i x y = ⊥

-- the node i of a node table
abbrev pub Sound : Counts → List ℕ → ℕ → Type 0
Sound n nodes i = SoundWords (kind_of (code nodes i)) n i (first nodes i) (second nodes i)

pub record Valid (b : Block) : Type 0 where
  -- 1: whole records, known words of the header
  pub whole_parameters : length b.parameters % 3 ≡ 0
  pub whole_states : length b.states % 2 ≡ 0
  pub whole_delays : length b.delays % 2 ≡ 0
  pub whole_nodes : length b.nodes % 3 ≡ 0
  pub category : b.header.category ≤ last_category
  pub channels : b.header.channels ≤ 1
  pub network : b.header.network ≤ 1
  -- 2
  pub from_version : first_version ≤ b.header.version
  pub to_version : b.header.version ≤ last_version
  -- 3
  pub network_header : b.header.network ≡ 1 → (network_version ≤ b.header.version) × (b.header.channels ≡ mono)
  -- 4
  pub no_network : b.header.network ≡ 0 → (i : ℕ) → i < node_count b → code b.nodes i ≡ 17 → ⊥
  -- 5
  pub version_one : b.header.version ≡ 1 → (b.header.channels ≡ mono → ⊥) × (category_needs_two b.header.category ≡ false)
  pub version_one_nodes : b.header.version ≡ 1 → (i : ℕ) → i < node_count b → code_needs_two (code b.nodes i) ≡ false
  -- 6
  pub fits : expanded_length b ≤ most_nodes
  pub parameter_limit : parameter_count b ≤ most_parameters
  pub state_limit : state_count b ≤ most_states
  pub delay_limit : delay_count b ≤ most_delays
  -- 7
  pub spans : (i : ℕ) → i < parameter_count b → span_is_valid (minimum b.parameters i) (maximum b.parameters i) (default b.parameters i) ≡ true
  -- 8
  pub output : b.header.output < node_count b
  -- 9 and 10, with what 1 says of nodes
  pub sound : (i : ℕ) → i < node_count b → Sound (counts_of b) b.nodes i
  -- 11
  pub initials : (i : ℕ) → i < state_count b → is_finite (initial b.states i) ≡ true
  pub state_updates : (i : ℕ) → i < state_count b → update b.states i ≤ node_count b
  -- 12
  pub delay_lengths : (i : ℕ) → i < delay_count b → 1 ≤ delay_length b.delays i
  pub delay_totals : (i : ℕ) → i < delay_count b → running_total b.delays i ≤ most_delay_samples
  pub delay_updates : (i : ℕ) → i < delay_count b → update b.delays i ≤ node_count b

-- ---- from tests that are false to facts
sound_words : (k : Kind) (n : Counts) (i x y : ℕ) → malformed_words k x y ≡ false → operand_not_below (operands_of k) i x y ≡ false
    → bad_content k n x ≡ false → SoundWords k n i x y
unfolding operand_not_below
sound_words Source n i x y m o c = let p = neither _ _ m in (same_of x 0 p.0, same_of y 0 p.1)
sound_words Constant n i x y m o c = (not-false _ c, same_of y 0 m)
sound_words Parameter n i x y m o c = (leb-false _ _ c, same_of y 0 m)
sound_words State n i x y m o c = (leb-false _ _ c, same_of y 0 m)
sound_words Delay n i x y m o c = (leb-false _ _ c, same_of y 0 m)
sound_words Binary n i x y m o c = let p = neither _ _ o in (leb-false _ _ p.0, leb-false _ _ p.1)
sound_words Divide n i x y m o c = let p = neither _ _ o in (leb-false _ _ p.0, leb-false _ _ p.1)
sound_words Unary n i x y m o c = (leb-false _ _ (neither _ _ o).0, same_of y 0 m)
sound_words Recip n i x y m o c = (leb-false _ _ (neither _ _ o).0, same_of y 0 m)
sound_words Tanh n i x y m o c = (leb-false _ _ (neither _ _ o).0, same_of y 0 m)
sound_words Sigmoid n i x y m o c = (leb-false _ _ (neither _ _ o).0, same_of y 0 m)
sound_words Unknown n i x y m o c = true_false m

sound_node : (n : Counts) (nodes : List ℕ) (i : ℕ) → malformed_node nodes i ≡ false → node_answer nodes n i ≡ accepted tt → Sound n nodes i
unfolding malformed_node node_answer words_answer
sound_node n nodes i m e =
    let p = then_accepted _ _ e in
    sound_words (kind_of (code nodes i)) n i _ _ m (refuse_at_accepted _ _ _ p.0) (refuse_at_accepted _ _ _ p.1)

-- a conjunction that is false, where its first part is true
second_false : (s t : Bool) → (s && t) ≡ false → s ≡ true → t ≡ false
second_false true t e h = e
second_false false t e h = true_false (sym h)

-- ---- the facts of one answer each, over what the answer reads
network_header_lem : (h : Header) → network_not_allowed h ≡ false → h.network ≡ 1 → (network_version ≤ h.version) × (h.channels ≡ mono)
unfolding network_not_allowed
network_header_lem h e f =
    let p = neither (ltb h.version network_version) (not (eqb h.channels mono)) (second_false (eqb h.network 1) _ e (eq-eqb _ _ f)) in
    (ltb-false _ _ p.0, same_of _ _ p.1)

no_network_lem : (b : Block) → network_flag_clear b ≡ false → b.header.network ≡ 0 → (i : ℕ) → i < node_count b → code b.nodes i ≡ 17 → ⊥
unfolding network_flag_clear
no_network_lem b e f i h =
    eqb-false _ _ (some_false (reads_network b.nodes) (node_count b) (second_false (eqb b.header.network 0) _ e (eq-eqb _ _ f)) i h)

version_one_lem : (b : Block) → needs_version_two b ≡ false → b.header.version ≡ 1
    → (eqb b.header.channels mono ≡ false) × (category_needs_two b.header.category ≡ false) × (some (node_needs_two b.nodes) (node_count b) ≡ false)
unfolding needs_version_two
version_one_lem b e f =
    let p = neither _ (some (node_needs_two b.nodes) (node_count b)) (second_false (eqb b.header.version 1) _ e (eq-eqb _ _ f)) in
    let q = neither (eqb b.header.channels mono) (category_needs_two b.header.category) p.0 in
    (q.0, q.1, p.1)

span_valid : (parameters : List ℕ) (i : ℕ) → parameter_answer parameters i ≡ accepted tt
    → span_is_valid (minimum parameters i) (maximum parameters i) (default parameters i) ≡ true
unfolding parameter_answer
span_valid parameters i e = not-false _ (refuse_at_accepted _ _ _ e)

state_facts : (states : List ℕ) (nodes i : ℕ) → state_answer states nodes i ≡ accepted tt → (is_finite (initial states i) ≡ true) × (update states i ≤ nodes)
unfolding state_answer
state_facts states nodes i e =
    let p = neither (not (is_finite (initial states i))) (ltb nodes (update states i)) (refuse_at_accepted _ _ _ e) in
    (not-false _ p.0, ltb-false _ _ p.1)

delay_facts : (delays : List ℕ) (nodes i : ℕ) → delay_answer delays nodes i ≡ accepted tt
    → (1 ≤ delay_length delays i) × (running_total delays i ≤ most_delay_samples) × (update delays i ≤ nodes)
unfolding delay_answer
delay_facts delays nodes i e =
    let p = neither _ (ltb nodes (update delays i)) (refuse_at_accepted _ _ _ e) in
    let q = neither (eqb (delay_length delays i) 0) (ltb most_delay_samples (running_total delays i)) p.0 in
    let z : delay_length delays i ≡ 0 → ⊥ = eqb-false _ _ q.0 in
    (omega arith, ltb-false _ _ q.1, ltb-false _ _ p.1)

-- AN ACCEPTED BLOCK IS VALID
pub valid : (b : Block) → validation b ≡ accepted tt → Valid b
unfolding validation records_answer malformed malformed_header unknown_version too_large
valid b e =
    let a1 = then_accepted _ _ e in
    let a2 = then_accepted _ _ a1.1 in
    let a3 = then_accepted _ _ a2.1 in
    let a4 = then_accepted _ _ a3.1 in
    let a5 = then_accepted _ _ a4.1 in
    let a6 = then_accepted _ _ a5.1 in
    let a7 = then_accepted _ _ a6.1 in
    let a8 = then_accepted _ _ a7.1 in
    let a9 = then_accepted _ _ a8.1 in
    let a11 = then_accepted _ _ a9.1 in
    let m1 = neither _ (some (malformed_node b.nodes) (node_count b)) (refuse_accepted 1 _ a1.0) in
    let m2 = neither _ (malformed_header b.header) m1.0 in
    let m3 = neither _ (ragged 3 b.nodes) m2.0 in
    let m4 = neither _ (ragged 2 b.delays) m3.0 in
    let m5 = neither (ragged 3 b.parameters) (ragged 2 b.states) m4.0 in
    let h1 = neither _ (ltb 1 b.header.network) m2.1 in
    let h2 = neither (ltb last_category b.header.category) (ltb 1 b.header.channels) h1.0 in
    let v = neither (ltb b.header.version first_version) _ (refuse_accepted 2 _ a2.0) in
    let s1 = neither _ (ltb most_delays (delay_count b)) (refuse_accepted 6 _ a6.0) in
    let s2 = neither _ (ltb most_states (state_count b)) s1.0 in
    let s3 = neither (ltb most_nodes (expanded_length b)) (ltb most_parameters (parameter_count b)) s2.0 in
    let old = version_one_lem b (refuse_accepted 5 _ a5.0) in
    let state = in_order_accepted (state_answer b.states (node_count b)) (state_count b) a11.0 in
    let delay = in_order_accepted (delay_answer b.delays (node_count b)) (delay_count b) a11.1 in
    record {
      whole_parameters = same_of _ _ m5.0;
      whole_states = same_of _ _ m5.1;
      whole_delays = same_of _ _ m4.1;
      whole_nodes = same_of _ _ m3.1;
      category = ltb-false _ _ h2.0;
      channels = ltb-false _ _ h2.1;
      network = ltb-false _ _ h1.1;
      from_version = ltb-false _ _ v.0;
      to_version = ltb-false _ _ v.1;
      network_header = network_header_lem b.header (refuse_accepted 3 _ a3.0);
      no_network = no_network_lem b (refuse_accepted 4 _ a4.0);
      version_one = λ f. (eqb-false _ _ (old f).0, (old f).1);
      version_one_nodes = λ f. some_false (node_needs_two b.nodes) (node_count b) (old f).2;
      fits = ltb-false _ _ s3.0;
      parameter_limit = ltb-false _ _ s3.1;
      state_limit = ltb-false _ _ s2.1;
      delay_limit = ltb-false _ _ s1.1;
      spans = λ i h. span_valid b.parameters i (in_order_accepted _ _ a7.0 i h);
      output = leb-false _ _ (refuse_accepted 8 _ a8.0);
      sound = λ i h. sound_node (counts_of b) b.nodes i (some_false _ _ m1.1 i h) (in_order_accepted _ _ a9.0 i h);
      initials = λ i h. (state_facts _ _ i (state i h)).0;
      state_updates = λ i h. (state_facts _ _ i (state i h)).1;
      delay_lengths = λ i h. (delay_facts _ _ i (delay i h)).0;
      delay_totals = λ i h. (delay_facts _ _ i (delay i h)).1;
      delay_updates = λ i h. (delay_facts _ _ i (delay i h)).2;
    }

-- ---- two bounds that follow
pub node_limit : (b : Block) → Valid b → node_count b ≤ most_nodes
node_limit b v = omega (arith, v.fits, count_offset tanh_steps b.nodes (node_count b))

-- the delays below n, all of them or fewer, have at most so many samples together
pub samples_limit : (b : Block) → Valid b → (n : ℕ) → n ≤ delay_count b → sum (delay_length b.delays) n ≤ most_delay_samples
samples_limit b v zero h = omega (arith, sum_start (delay_length b.delays))
samples_limit b v (suc n) h = v.delay_totals n h
