use Rattle.laws_notes.proofs.Again.{are_again}
use Rattle.laws_notes.proofs.diagnostics_come_again_in_their_order.Goals as goal

pub returns : goal.returns
returns c = are_again
