-- The call: what an accepted answer says, each way out of the tests, and what rendering leaves. Assumes nothing.
use Rattle.std.specs.Prelude.{Result, Ok, Err, IsErrAnd, ◌≡◌, Bool, true, false, not, List, [], ◌++◌, ℕ, ◌*◌, ◌≤◌, ◌<◌, min, take, drop, ltb}
use Rattle.std.proofs.Math.Path.{sym, ap}
use Rattle.std.proofs.Common.{◌∙◌, length-append, length-drop, take_at, lt-ltb, le-ltb, ltb-false}
use native.Mathlib.Omega.{arith}
use Rattle.std.proofs.Math.ListN.{length, get_or-append}
use Rattle.std.proofs.lemmas.Bool.{not-false}
use Rattle.std.proofs.lemmas.Result.{err_from_is_err_and}
use Rattle.tables.specs.Tests.{neither, or_left, or_right, or_none}
use Rattle.tables.specs.Zeros.{zeros}
use Rattle.answers.specs.declared.Refusal.{Refusal}
use Rattle.answers.specs.Numbers.{Answer, accepted, refused, refusal, answer_of}
use Rattle.answers.specs.Order.{refuse}
use Rattle.answers.specs.OrderLaws.{then_accepted, refuse_accepted, then_pass, refuse_stop, refuse_pass, refuse_on, refuse_off, hand_on, go_on}
use Rattle.block.specs.Block.{Block, node_count}
use Rattle.block.specs.Kinds.{tanh_steps}
use Rattle.block.specs.Validation.{expanded_length, validation}
use Rattle.block.specs.Valid as Valids
use Rattle.block.specs.Valid.{valid}
use Rattle.expand.specs.Nodes.{words_of}
use Rattle.expand.specs.declared.Expanded.{Expanded}
use Rattle.expand.specs.Expansion as E
use Rattle.expand.specs.Expansion.{expansion, map_node}
use Rattle.expand.specs.Map.{Mapping, mapping, map_of, map_call}
use Rattle.expand.specs.MapLaws.{map_call_valid}
use Rattle.expand.specs.Lengths.{expansion_words_length, offset_ge}
use Rattle.expand.specs.Graph.{graph_of}
use Rattle.tables.specs.Lists.{list_length, list_at}
use Rattle.memory.specs.Sizes.{run_fits}
use Rattle.memory.specs.SizeLaws.{Fitting, fitting}
use Rattle.graph_run.specs.Ready.{Lent}
use Rattle.graph_run.specs.Plan.{mapped_graph, Planned}
use Rattle.expand.specs.Updates.{IsMap}
use Rattle.graph_run.specs.PlanLaws.{samples_of, graph_is, planned}
use Rattle.memory.specs.Signals.{Signals, Rendered}
use Rattle.graph_run.specs.Run.{samples_to, Tables, tables, outcome, run_answer, run_after, run_call}

-- what an accepted call is
pub record Accepted (b : Block) (s : Signals) (t : Tables) : Type 0 where
  pub judged : validation b ≡ accepted tt
  pub valid : Valids.Valid b
  pub expansion_room : 3 * expanded_length b ≤ length t.expansion
  pub values_room : expanded_length b ≤ length t.values
  pub fits : Fitting b s.parameters t.rendered.memories s.input t.rendered.output s.network

pub accepted_run : (b : Block) (s : Signals) (t : Tables) → run_answer b s t ≡ accepted tt → Accepted b s t
unfolding run_answer
accepted_run b s t e =
    let p = then_accepted (validation b) _ e in
    let q = then_accepted _ _ p.1 in
    let r = neither (ltb (length t.expansion) (3 * expanded_length b)) _ (refuse_accepted 13 _ q.0) in
    record {
      judged = p.0;
      valid = valid b p.0;
      expansion_room = ltb-false _ _ r.0;
      values_room = ltb-false _ _ r.1;
      fits = fitting _ _ _ _ _ _ (not-false _ (refuse_accepted 16 _ q.1));
    }

-- ---- the ways out of the tests. v is validation's verdict, n the expanded length as the code counts it
module _ (b : Block) (s : Signals) (t : Tables) (v : Result Unit Refusal) (e : answer_of v ≡ validation b) where
  pub refused_block : (r : Result Unit Refusal) {y : Refusal} → v ≡ Err y → IsErrAnd r (λ z. z ≡ y) → answer_of r ≡ run_answer b s t
  unfolding run_answer
  refused_block r f h = hand_on r _ e f h

  -- what it counts is the expanded length
  pub counted : (n : ℕ) → v ≡ Ok tt → n ≡ min (expanded_length b) 65537 → n ≡ expanded_length b
  counted n f c = let w = (valid b (sym e ∙ ap answer_of f)).fits in omega arith

  module _ (f : v ≡ Ok tt) (n : ℕ) (c : n ≡ min (expanded_length b) 65537) where
    pub short_expansion : length t.expansion < 3 * n → refused 13 [] ≡ run_answer b s t
    unfolding run_answer
    short_expansion h =
        let k = counted n f c in
        let q : length t.expansion < 3 * expanded_length b = omega arith in
        go_on _ e f (sym (refuse_stop 13 _ (or_left (ltb (length t.expansion) (3 * expanded_length b)) _ (lt-ltb _ _ q))))

    pub short_values : length t.values < n → refused 13 [] ≡ run_answer b s t
    unfolding run_answer
    short_values h =
        let k = counted n f c in
        let q : length t.values < expanded_length b = omega arith in
        go_on _ e f (sym (refuse_stop 13 _ (or_right (ltb (length t.expansion) (3 * expanded_length b)) _ (lt-ltb _ _ q))))

    module _ (h : 3 * n ≤ length t.expansion) (l : n ≤ length t.values) (d : Bool)
        (g : d ≡ run_fits b s.parameters t.rendered.memories s.input t.rendered.output s.network) where
      sizes_answer : (a : Answer Unit) → a ≡ refuse 16 (not d) → a ≡ run_answer b s t
      unfolding run_answer
      sizes_answer a p =
          let k = counted n f c in
          let x : 3 * expanded_length b ≤ length t.expansion = omega arith in
          let y : expanded_length b ≤ length t.values = omega arith in
          go_on _ e f (p ∙ ap (λ (z : Bool). refuse 16 (not z)) g ∙ sym (refuse_pass 13 _ (or_none _ _ (le-ltb _ _ x) (le-ltb _ _ y))))

      pub sizes_differ : d ≡ false → refused 16 [] ≡ run_answer b s t
      sizes_differ q = sizes_answer _ (sym (refuse_on 16 (ap not q)))

      pub all_fits : d ≡ true → accepted tt ≡ run_answer b s t
      all_fits q = sizes_answer _ (sym (refuse_off 16 (ap not q)))

-- ---- the call
pub refused_call : (b : Block) (s : Signals) (t : Tables) (v r : Result Unit Refusal) {y : Refusal} → answer_of v ≡ run_answer b s t → v ≡ Err y → IsErrAnd r (λ z. z ≡ y)
    → outcome (answer_of r) t ≡ run_call b s t
unfolding run_call run_after
refused_call b s t v r {y} e f h =
    let q = err_from_is_err_and r h in
    let a : run_answer b s t ≡ refusal y = sym e ∙ ap answer_of f in
    rw (q.1, q.2, a)

pub accepted_call : (b : Block) (s : Signals) (t o : Tables) (v : Result Unit Refusal) → answer_of v ≡ run_answer b s t → v ≡ Ok tt
    → o ≡ run_after (accepted tt) b s t → outcome (accepted tt) o ≡ run_call b s t
unfolding run_call
accepted_call b s t o v e f p =
    let a : run_answer b s t ≡ accepted tt = sym e ∙ ap answer_of f in
    rw (a, p)

-- ---- rendering
-- the tables when the samples begin: e the expansion, v the map of nodes, `count` the expanded length as the code counts it
pub record Begun (b : Block) (t : Tables) (count : ℕ) (e v : List ℕ) : Type 0 where
  pub counts : count ≡ min (expanded_length b) 65537
  pub expanded : e ≡ words_of (expansion b) ++ drop (3 * expanded_length b) t.expansion
  pub mapped : v ≡ map_of tanh_steps b.nodes (node_count b) ++ drop (node_count b) t.values

module _ (b : Block) (s : Signals) (t : Tables) (a : Accepted b s t) (count : ℕ) (e v : List ℕ) (g : Begun b t count e v) where
  count_is : count ≡ expanded_length b
  count_is = let w = a.valid.fits in let c = g.counts in omega arith

  is_map : IsMap b v
  is_map =
      let r = a.values_room in let o = offset_ge tanh_steps b.nodes (node_count b) in
      let l = list_length (map_node tanh_steps b.nodes) (node_count b) in
      record {
        maps = λ i h. rw g.mapped (get_or-append (map_of tanh_steps b.nodes (node_count b)) _ 0 i (omega arith) ∙ list_at (map_node tanh_steps b.nodes) (node_count b) i h);
        room = rw g.mapped (simp (length-append, length-drop) (omega arith));
      }

  front : take (3 * expanded_length b) e ≡ words_of (expansion b)
  front = rw g.expanded (take_at (words_of (expansion b)) _ (3 * expanded_length b) (expansion_words_length b))

  pub begun_planned : Planned count e v b.header.output b.states b.delays (length s.parameters) t.rendered.memories
  begun_planned =
      let r = a.expansion_room in
      let l : 3 * expanded_length b ≤ length e = rw g.expanded (simp (length-append, length-drop) (omega (arith, expansion_words_length b))) in
      rw count_is (planned b e v s.parameters t.rendered.memories s.input t.rendered.output s.network a.valid a.fits is_map front l)

  pub begun_lent : Lent b.header.network s.input s.network t.rendered.output
  begun_lent = record { outputs = a.fits.outputs; networks = a.fits.networks }

  -- what rendering leaves
  pub render_is : (z : List ℕ) (r : Rendered) (n : ℕ) → z ≡ zeros n → n ≡ length t.values
      → r ≡ samples_to (mapped_graph count e v b.header.output b.states b.delays) b.header.network s t.rendered (length s.input)
      → tables e z r ≡ run_after (accepted tt) b s t
  unfolding run_after graph_of
  render_is z r n pz pn pr =
      let q : r ≡ samples_to (graph_of b) b.header.network s t.rendered (length s.input) =
      samples_of _ _ _ _ _ _ _ (ap (λ (k : ℕ). mapped_graph k e v b.header.output b.states b.delays) count_is ∙ graph_is b v is_map e a.valid front) pr in
      rw (q, pz, pn, g.expanded)

-- an accepted call's block expands
expanded_table : (b : Block) (s : Signals) (t : Tables) → Accepted b s t → (x : Answer Expanded) (e : List ℕ) → E.outcome x e ≡ E.expand_call b t.expansion
    → e ≡ words_of (expansion b) ++ drop (3 * expanded_length b) t.expansion
unfolding E.expand_call E.expand_answer E.table_after
expanded_table b s t a x e p =
    let done : Answer Expanded = accepted (record { length = expanded_length b; output = E.mapped_output b }) in
    let q : E.expand_answer b (length t.expansion) ≡ done = then_pass _ a.judged ∙ refuse_pass 13 _ (le-ltb _ _ a.expansion_room) in
    ap (λ (y : E.Outcome). y.table) p ∙ rw q

-- the tables have begun
pub begun : (b : Block) (s : Signals) (t : Tables) (count : ℕ) (x : Answer Expanded) (e v : List ℕ) (done : Bool) → run_answer b s t ≡ accepted tt
    → count ≡ min (expanded_length b) 65537 → E.outcome x e ≡ E.expand_call b t.expansion → mapping done v ≡ map_call b.nodes t.values → Begun b t count e v
begun b s t count x e v done p c o m =
    let a = accepted_run b s t p in
    let r = a.values_room in let k = offset_ge tanh_steps b.nodes (node_count b) in
    record {
      counts = c;
      expanded = expanded_table b s t a x e o;
      mapped = ap (λ (y : Mapping). y.table) (m ∙ map_call_valid b a.valid t.values (omega arith));
    }
