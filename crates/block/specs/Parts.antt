-- How the code cuts validation: the counts as three numbers, what 6 leaves, and the turns of the scanning loops.
use Rattle.std.specs.Prelude.{◌≡◌, Bool, true, false, ◌||◌, List, [], ◌∷◌, ℕ, suc, ◌+◌, ◌≤◌, ltb, eqb}
use Rattle.std.proofs.Common.{ap, ◌∙◌, arith, ltb-false}
use Rattle.tables.specs.Tests.{neither}
use Rattle.tables.specs.Loops.{sum, sum_turn}
use Rattle.answers.specs.Numbers.{Answer, accepted, refused}
use Rattle.answers.specs.OrderLaws.{refuse_at_on, refuse_at_off}
use Rattle.block.specs.declared.Kind.{Kind}
use Rattle.block.specs.Block.{Block, parameter_count, state_count, delay_count, node_count, update, delay_length, code, first, second}
use Rattle.block.specs.Kinds.{kind_of, tanh_steps}
use Rattle.block.specs.KindLaws.{count_offset}
use Rattle.block.specs.Limits.{most_nodes, most_parameters, most_states, most_delays, most_delay_samples}
use Rattle.block.specs.declared.Counts.{Counts}
use Rattle.block.specs.Validation.{expanded_length, too_large, words_answer, node_answer, running_total, delay_answer}

abbrev pub counts : ℕ → ℕ → ℕ → Counts
counts parameters states delays = record { parameters = parameters; states = states; delays = delays }

-- where 6 is not given, every count is within its limit
pub record Sizes (b : Block) : Type 0 where
  pub nodes : node_count b ≤ most_nodes
  pub parameters : parameter_count b ≤ most_parameters
  pub states : state_count b ≤ most_states
  pub delays : delay_count b ≤ most_delays

pub sizes : (b : Block) → too_large b ≡ false → Sizes b
unfolding too_large
sizes b e =
    let s1 = neither _ (ltb most_delays (delay_count b)) e in
    let s2 = neither _ (ltb most_states (state_count b)) s1.0 in
    let s3 = neither (ltb most_nodes (expanded_length b)) (ltb most_parameters (parameter_count b)) s2.0 in
    record {
      nodes = omega (arith, ltb-false most_nodes (expanded_length b) s3.0, count_offset tanh_steps b.nodes (node_count b));
      parameters = ltb-false _ _ s3.1;
      states = ltb-false _ _ s2.1;
      delays = ltb-false _ _ s1.1;
    }

-- ---- the node i, judged by its kind k and its words
pub node_is : (nodes : List ℕ) (n : Counts) (i : ℕ) {k : Kind} {a : Answer Unit} → k ≡ kind_of (code nodes i)
    → a ≡ words_answer k n i (first nodes i) (second nodes i) → a ≡ node_answer nodes n i
unfolding node_answer
node_is nodes n i e f = rw e at f

-- ---- the delay i, behind delays of t samples together
abbrev pub delay_test : List ℕ → ℕ → ℕ → ℕ → Bool
delay_test delays nodes i total = eqb (delay_length delays i) 0 || ltb most_delay_samples total || ltb nodes (update delays i)

total_is : (delays : List ℕ) (i t : ℕ) → t ≡ sum (delay_length delays) i → t + delay_length delays i ≡ running_total delays i
total_is delays i t e =
    let z : i + 1 ≡ suc i = omega arith in sum_turn (delay_length delays) i t e ∙ ap (sum (delay_length delays)) z

pub delay_stop : (delays : List ℕ) (nodes i t : ℕ) → t ≡ sum (delay_length delays) i → delay_test delays nodes i (t + delay_length delays i) ≡ true
    → delay_answer delays nodes i ≡ refused 12 (i ∷ [])
unfolding delay_answer
delay_stop delays nodes i t e h = refuse_at_on 12 i (rw (total_is delays i t e) at h)

pub delay_pass : (delays : List ℕ) (nodes i t : ℕ) → t ≡ sum (delay_length delays) i → delay_test delays nodes i (t + delay_length delays i) ≡ false
    → delay_answer delays nodes i ≡ accepted tt
unfolding delay_answer
delay_pass delays nodes i t e h = refuse_at_off 12 i (rw (total_is delays i t e) at h)

pub delay_low : (delays : List ℕ) (nodes i total : ℕ) → delay_test delays nodes i total ≡ false → total ≤ most_delay_samples
delay_low delays nodes i total h =
    ltb-false _ _ (neither (eqb (delay_length delays i) 0) (ltb most_delay_samples total) (neither _ (ltb nodes (update delays i)) h).0).1
