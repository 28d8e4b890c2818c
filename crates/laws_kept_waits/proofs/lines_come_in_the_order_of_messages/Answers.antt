use Rattle.laws_kept_waits.proofs.LinesInTurn.{in_turn}
use Rattle.laws_kept_waits.proofs.lines_come_in_the_order_of_messages.Goals as goal

pub returns : goal.returns
returns _ work events telling start first begun recorded same_plan followed = in_turn work events telling start first begun recorded same_plan followed
