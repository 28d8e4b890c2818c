use Rattle.laws_run.proofs.TimeLines.Busy.{busy_while_one_waits}
use Rattle.laws_run.proofs.TimeLines.Sharing.{never_idle}
use Rattle.laws_run.proofs.time_lines_without_waits.no_lane_is_idle_while_a_change_waits.Goals as goal

pub returns-clause-at_a_moment : goal.returns-clause-at_a_moment
returns-clause-at_a_moment c work n moment change lane events line waits inside = busy_while_one_waits work n moment change lane events line waits inside

pub returns-clause-lowest_first : goal.returns-clause-lowest_first
returns-clause-lowest_first c work n lane other place low less inside = never_idle work n lane other place low less inside
