use Rattle.input_validate.proofs.findings.expected.Expected.is_met.Goals as goal

pub returns-in-None : goal.returns-in-None
returns-in-None c = rw c.in-None.is c.may_be_absent.ensures
