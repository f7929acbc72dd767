-- `validate_records`: each refusal is handed on, and passed where there is none; the sizes are within the limits of 6.
use Rattle.std.proofs.Common.{sym, ◌∙◌}
use Rattle.std.proofs.lemmas.Bool.{le-leb, lt-leb}
use Rattle.answers.specs.OrderLaws.{refuse_stop, refuse_pass, hand_on, go_on}
use Rattle.block.specs.Validation.{records_answer}
use Rattle.block.specs.Parts.{sizes}
use Rattle.block.proofs.Block.validate_records.Goals as goal

pub first_bad_parameter-requires : goal.first_bad_parameter-requires
first_bad_parameter-requires c = (sizes _ c.requires).parameters

pub returns-in_err-first_bad_parameter : goal.returns-in_err-first_bad_parameter
unfolding records_answer
returns-in_err-first_bad_parameter c = hand_on _ _ c.first_bad_parameter.ensures c.in_err-first_bad_parameter.was c.from_residual.ensures.1

pub returns-then-count-output : goal.returns-then-count-output
unfolding records_answer
returns-then-count-output c = go_on _ c.first_bad_parameter.ensures c.in_ok-first_bad_parameter.was (sym (refuse_stop 8 _ (le-leb _ _ c.if-count-output.true)))

pub first_bad_node-requires : goal.first_bad_node-requires
first_bad_node-requires c = (sizes _ c.requires).nodes

pub returns-in_err-first_bad_node : goal.returns-in_err-first_bad_node
unfolding records_answer
returns-in_err-first_bad_node c =
    go_on _ c.first_bad_parameter.ensures c.in_ok-first_bad_parameter.was
    (hand_on _ _ (rw c.counts.ensures at c.first_bad_node.ensures) c.in_err-first_bad_node.was c.from_residual-in_err-first_bad_node.ensures.1
    ∙ sym (refuse_pass 8 _ (lt-leb _ _ c.if-count-output.false)))

pub first_bad_state-requires : goal.first_bad_state-requires
first_bad_state-requires c = (sizes _ c.requires).states

pub returns-in_err-first_bad_state : goal.returns-in_err-first_bad_state
unfolding records_answer
returns-in_err-first_bad_state c =
    go_on _ c.first_bad_parameter.ensures c.in_ok-first_bad_parameter.was
    (go_on _ (rw c.counts.ensures at c.first_bad_node.ensures) c.in_ok-first_bad_node.was
    (hand_on _ _ c.first_bad_state.ensures c.in_err-first_bad_state.was c.from_residual-in_err-first_bad_state.ensures.1)
    ∙ sym (refuse_pass 8 _ (lt-leb _ _ c.if-count-output.false)))

pub first_bad_delay-requires : goal.first_bad_delay-requires
first_bad_delay-requires c = (sizes _ c.requires).delays

pub returns : goal.returns
unfolding records_answer
returns c =
    go_on _ c.first_bad_parameter.ensures c.in_ok-first_bad_parameter.was
    (go_on _ (rw c.counts.ensures at c.first_bad_node.ensures) c.in_ok-first_bad_node.was
    (go_on _ c.first_bad_state.ensures c.in_ok-first_bad_state.was c.first_bad_delay.ensures)
    ∙ sym (refuse_pass 8 _ (lt-leb _ _ c.if-count-output.false)))
