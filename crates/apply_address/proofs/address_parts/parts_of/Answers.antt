use Rattle.apply_address.proofs.Readings.{all_located, only_located}
use Rattle.apply_address.proofs.address_parts.parts_of.Goals as goal

pub returns-clause-answer : goal.returns-clause-answer
returns-clause-answer c = all_located c.args.text.now c.read.result c.utf8.text c.read.ensures

pub returns-clause-only : goal.returns-clause-only
returns-clause-only c = only_located c.args.text.now c.read.result c.read.ensures
