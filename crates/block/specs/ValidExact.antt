-- The facts of `Valid` leave nothing out: a block that has them is accepted. With `valid`, a block is accepted exactly when it is valid.
use Rattle.std.specs.Prelude.{◌≡◌, refl, Bool, true, false, not, ◌&&◌, List, ℕ, zero, suc, ◌<◌}
use Rattle.std.proofs.Common.{ap, ◌∙◌, arith, le-ltb, eqb-true, ne_eqb}
use Rattle.std.proofs.lemmas.Bool.{lt-leb}
use Rattle.tables.specs.Tests.{or_none, differs_not}
use Rattle.tables.specs.Loops.{some_none}
use Rattle.answers.specs.Numbers.{Answer, accepted}
use Rattle.answers.specs.Order.{in_order}
use Rattle.answers.specs.OrderLaws.{then_pass, refuse_pass, refuse_at_off}
use Rattle.block.specs.declared.Kind.{Kind}
use Rattle.block.specs.declared.Kind.TheVariants.{Source, Constant, Parameter, State, Delay, Binary, Divide, Unary, Recip, Tanh, Sigmoid, Unknown}
use Rattle.block.specs.Block.{Block, node_count, delay_length, code, first, second}
use Rattle.block.specs.Kinds.{kind_of, operands_of}
use Rattle.block.specs.declared.Counts.{Counts}
use Rattle.block.specs.Validation.{counts_of, malformed_words, malformed_node, malformed_header, malformed, unknown_version, network_not_allowed, network_flag_clear, needs_version_two, too_large, parameter_answer, operand_not_below, bad_content, words_answer, node_answer, state_answer, delay_answer, records_answer, validation}
use Rattle.block.specs.Valid.{SoundWords, Sound, Valid}

-- ---- from facts to tests that are false
and_none : (s t : Bool) → (s ≡ true → t ≡ false) → (s && t) ≡ false
and_none true t h = h refl
and_none false t h = refl

in_order_all : (answer : ℕ → Answer Unit) (n : ℕ) → ((i : ℕ) → i < n → answer i ≡ accepted tt) → in_order answer n ≡ accepted tt
unfolding in_order
in_order_all answer zero h = refl
in_order_all answer (suc n) h = then_pass (answer n) (in_order_all answer n (λ i l. h i (omega arith))) ∙ h n (omega arith)

words_pass : (k : Kind) (n : Counts) (i x y : ℕ) → SoundWords k n i x y
    → (malformed_words k x y ≡ false) × (operand_not_below (operands_of k) i x y ≡ false) × (bad_content k n x ≡ false)
unfolding operand_not_below
words_pass Source n i x y s = (or_none _ _ (differs_not x 0 s.0) (differs_not y 0 s.1), refl, refl)
words_pass Constant n i x y s = (differs_not y 0 s.1, refl, rw s.0)
words_pass Parameter n i x y s = (differs_not y 0 s.1, refl, lt-leb _ _ s.0)
words_pass State n i x y s = (differs_not y 0 s.1, refl, lt-leb _ _ s.0)
words_pass Delay n i x y s = (differs_not y 0 s.1, refl, lt-leb _ _ s.0)
words_pass Binary n i x y s = (refl, or_none _ _ (lt-leb i x s.0) (lt-leb i y s.1), refl)
words_pass Divide n i x y s = (refl, or_none _ _ (lt-leb i x s.0) (lt-leb i y s.1), refl)
words_pass Unary n i x y s = (differs_not y 0 s.1, or_none _ _ (lt-leb i x s.0) refl, refl)
words_pass Recip n i x y s = (differs_not y 0 s.1, or_none _ _ (lt-leb i x s.0) refl, refl)
words_pass Tanh n i x y s = (differs_not y 0 s.1, or_none _ _ (lt-leb i x s.0) refl, refl)
words_pass Sigmoid n i x y s = (differs_not y 0 s.1, or_none _ _ (lt-leb i x s.0) refl, refl)
words_pass Unknown n i x y s = absurd s

node_form : (n : Counts) (nodes : List ℕ) (i : ℕ) → Sound n nodes i → malformed_node nodes i ≡ false
unfolding malformed_node
node_form n nodes i s = (words_pass (kind_of (code nodes i)) n i (first nodes i) (second nodes i) s).0

node_pass : (n : Counts) (nodes : List ℕ) (i : ℕ) → Sound n nodes i → node_answer nodes n i ≡ accepted tt
unfolding node_answer words_answer
node_pass n nodes i s =
    let p = words_pass (kind_of (code nodes i)) n i (first nodes i) (second nodes i) s in
    then_pass _ (refuse_at_off 9 i p.1) ∙ refuse_at_off 10 i p.2

-- A VALID BLOCK IS ACCEPTED
pub exact : (b : Block) → Valid b → validation b ≡ accepted tt
unfolding validation records_answer malformed malformed_header unknown_version network_not_allowed network_flag_clear needs_version_two too_large parameter_answer state_answer delay_answer
exact b v =
    let header = or_none _ _ (or_none _ _ (le-ltb _ _ v.category) (le-ltb _ _ v.channels)) (le-ltb _ _ v.network) in
    let tables =
    or_none _ _ (or_none _ _ (or_none _ _ (differs_not _ _ v.whole_parameters) (differs_not _ _ v.whole_states)) (differs_not _ _ v.whole_delays))
    (differs_not _ _ v.whole_nodes) in
    let form = some_none (malformed_node b.nodes) (node_count b) (λ i h. node_form (counts_of b) b.nodes i (v.sound i h)) in
    refuse_pass 1 _ (or_none _ _ (or_none _ _ tables header) form)
    ∙ refuse_pass 2 _ (or_none _ _ (le-ltb _ _ v.from_version) (le-ltb _ _ v.to_version))
    ∙ refuse_pass 3 _
    (and_none _ _ (λ e. let p = v.network_header (eqb-true _ _ e) in or_none _ _ (le-ltb _ _ p.0) (differs_not _ _ p.1)))
    ∙ refuse_pass 4 _ (and_none _ _ (λ e. some_none _ _ (λ i h. ne_eqb _ _ (v.no_network (eqb-true _ _ e) i h))))
    ∙ refuse_pass 5 _
    (and_none _ _ (λ e. let p = v.version_one (eqb-true _ _ e) in
    or_none _ _ (or_none _ _ (ne_eqb _ _ p.0) p.1) (some_none _ _ (v.version_one_nodes (eqb-true _ _ e)))))
    ∙ refuse_pass 6 _
    (or_none _ _ (or_none _ _ (or_none _ _ (le-ltb _ _ v.fits) (le-ltb _ _ v.parameter_limit)) (le-ltb _ _ v.state_limit))
    (le-ltb _ _ v.delay_limit))
    ∙ then_pass _ (in_order_all _ _ (λ i h. refuse_at_off 7 i (ap not (v.spans i h))))
    ∙ refuse_pass 8 _ (lt-leb _ _ v.output)
    ∙ then_pass _ (in_order_all _ _ (λ i h. node_pass (counts_of b) b.nodes i (v.sound i h)))
    ∙ then_pass _ (in_order_all _ _ (λ i h. refuse_at_off 11 i (or_none _ _ (ap not (v.initials i h)) (le-ltb _ _ (v.state_updates i h)))))
    ∙ in_order_all _ _
    (λ i h. refuse_at_off 12 i
    (or_none _ _ (or_none _ _ (ne_eqb (delay_length b.delays i) 0 (omega (arith, v.delay_lengths i h))) (le-ltb _ _ (v.delay_totals i h))) (le-ltb _ _ (v.delay_updates i h))))
