use Rattle.laws_notes.proofs.Fitting.{has_severity}
use Rattle.laws_notes.proofs.OfStep.{has_address}
use Rattle.laws_notes.proofs.a_diagnostic_has_the_severity_and_the_address_of_its_step.Goals as goal

pub returns : goal.returns
returns c = record { severity = has_severity; address = has_address }
