use Rattle.laws_check.proofs.Scripts.{read_has}
use Rattle.laws_check.proofs.laws.a_script_provisions_creates.Goals as goal

pub returns-clause-read : goal.returns-clause-read
returns-clause-read c plan bytes script e = read_has plan bytes script e
