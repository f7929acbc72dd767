-- `validate`: the first test that passes gives its number, and behind six that fail the records answer.
use mathlib.Core.Path.{sym, ◌∙◌}
use Rattle.answers.specs.OrderLaws.{refuse_stop, refuse_pass}
use Rattle.block.specs.Validation.{network_flag_clear, needs_version_two, too_large, validation}
use Rattle.block.proofs.Block.validate.Goals as goal

pub returns-then-malformed : goal.returns-then-malformed
unfolding validation
returns-then-malformed c = sym (refuse_stop 1 _ (sym c.malformed.ensures ∙ c.if-malformed.true))

pub returns-then-unknown_version : goal.returns-then-unknown_version
unfolding validation
returns-then-unknown_version c = sym (refuse_pass 1 _ (sym c.malformed.ensures ∙ c.if-malformed.false) ∙ (refuse_stop 2 _ (sym c.unknown_version.ensures ∙ c.if-unknown_version.true)))

pub returns-then-network_not_allowed : goal.returns-then-network_not_allowed
unfolding validation
returns-then-network_not_allowed c = sym (refuse_pass 1 _ (sym c.malformed.ensures ∙ c.if-malformed.false) ∙ (refuse_pass 2 _ (sym c.unknown_version.ensures ∙ c.if-unknown_version.false) ∙ (refuse_stop 3 _ (sym c.network_not_allowed.ensures ∙ c.if-network_not_allowed.true))))

pub returns-then-network_flag_clear : goal.returns-then-network_flag_clear
unfolding validation network_flag_clear
returns-then-network_flag_clear c = sym (refuse_pass 1 _ (sym c.malformed.ensures ∙ c.if-malformed.false) ∙ (refuse_pass 2 _ (sym c.unknown_version.ensures ∙ c.if-unknown_version.false) ∙ (refuse_pass 3 _ (sym c.network_not_allowed.ensures ∙ c.if-network_not_allowed.false) ∙ (refuse_stop 4 _ (sym c.network_flag_clear.ensures ∙ c.if-network_flag_clear.true)))))

pub returns-then-needs_version_two : goal.returns-then-needs_version_two
unfolding validation network_flag_clear needs_version_two
returns-then-needs_version_two c = sym (refuse_pass 1 _ (sym c.malformed.ensures ∙ c.if-malformed.false) ∙ (refuse_pass 2 _ (sym c.unknown_version.ensures ∙ c.if-unknown_version.false) ∙ (refuse_pass 3 _ (sym c.network_not_allowed.ensures ∙ c.if-network_not_allowed.false) ∙ (refuse_pass 4 _ (sym c.network_flag_clear.ensures ∙ c.if-network_flag_clear.false) ∙ (refuse_stop 5 _ (sym c.needs_version_two.ensures ∙ c.if-needs_version_two.true))))))

pub returns-then-too_large : goal.returns-then-too_large
unfolding validation network_flag_clear needs_version_two too_large
returns-then-too_large c = sym (refuse_pass 1 _ (sym c.malformed.ensures ∙ c.if-malformed.false) ∙ (refuse_pass 2 _ (sym c.unknown_version.ensures ∙ c.if-unknown_version.false) ∙ (refuse_pass 3 _ (sym c.network_not_allowed.ensures ∙ c.if-network_not_allowed.false) ∙ (refuse_pass 4 _ (sym c.network_flag_clear.ensures ∙ c.if-network_flag_clear.false) ∙ (refuse_pass 5 _ (sym c.needs_version_two.ensures ∙ c.if-needs_version_two.false) ∙ (refuse_stop 6 _ (sym c.too_large.ensures ∙ c.if-too_large.true)))))))

pub validate_records-requires : goal.validate_records-requires
unfolding too_large
validate_records-requires c = sym c.too_large.ensures ∙ c.if-too_large.false

pub returns : goal.returns
unfolding validation network_flag_clear needs_version_two too_large
returns c = c.validate_records.ensures ∙ sym (refuse_pass 1 _ (sym c.malformed.ensures ∙ c.if-malformed.false) ∙ (refuse_pass 2 _ (sym c.unknown_version.ensures ∙ c.if-unknown_version.false) ∙ (refuse_pass 3 _ (sym c.network_not_allowed.ensures ∙ c.if-network_not_allowed.false) ∙ (refuse_pass 4 _ (sym c.network_flag_clear.ensures ∙ c.if-network_flag_clear.false) ∙ (refuse_pass 5 _ (sym c.needs_version_two.ensures ∙ c.if-needs_version_two.false) ∙ (refuse_pass 6 _ (sym c.too_large.ensures ∙ c.if-too_large.false)))))))
