use Rattle.laws_check.proofs.Scripts.{none_warns_of, read_warns}
use Rattle.laws_check.proofs.laws.a_script_warns_of_reads.Goals as goal

pub returns-clause-read : goal.returns-clause-read
returns-clause-read c plan bytes script e last = read_warns plan bytes script e last

pub returns-clause-empty : goal.returns-clause-empty
returns-clause-empty c plan = none_warns_of plan
