use Rattle.laws_steps_again.proofs.ReadBack.{steps_are_again}
use Rattle.laws_steps_again.proofs.what_is_recorded_goes_as_the_steps_went.Goals as goal

pub returns : goal.returns
returns c = λ work n events reading begun loose notes recorded left read.
    steps_are_again work n events reading begun loose notes recorded left read c.each_step_is_known_by_its_own_lines.ensures
    c.diagnostics_come_again_in_their_order.ensures c.a_diagnostic_has_the_severity_and_the_address_of_its_step.ensures.severity
    c.a_diagnostic_has_the_severity_and_the_address_of_its_step.ensures.address
