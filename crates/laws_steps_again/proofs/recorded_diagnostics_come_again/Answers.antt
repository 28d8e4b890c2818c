use Rattle.laws_steps_again.proofs.ReadBack.{none_is_left, notes_are_again}
use Rattle.laws_steps_again.proofs.recorded_diagnostics_come_again.Goals as goal

pub returns-clause-again : goal.returns-clause-again
returns-clause-again c = λ work n events reading begun loose notes recorded left other read has.
    notes_are_again work n events reading begun loose notes recorded left read c.each_step_is_known_by_its_own_lines.ensures
    c.diagnostics_come_again_in_their_order.ensures c.a_diagnostic_has_the_severity_and_the_address_of_its_step.ensures.severity
    c.a_diagnostic_has_the_severity_and_the_address_of_its_step.ensures.address other has

pub returns-clause-none_left : goal.returns-clause-none_left
returns-clause-none_left c = λ work n events reading begun loose notes recorded left read none.
    none_is_left work n events reading begun loose notes recorded left read c.each_step_is_known_by_its_own_lines.ensures
    c.diagnostics_come_again_in_their_order.ensures c.a_diagnostic_has_the_severity_and_the_address_of_its_step.ensures.severity
    c.a_diagnostic_has_the_severity_and_the_address_of_its_step.ensures.address none
