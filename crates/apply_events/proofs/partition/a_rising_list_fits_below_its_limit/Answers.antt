use Rattle.apply_events.proofs.Parts.{rising_fits}
use Rattle.apply_events.proofs.partition.a_rising_list_fits_below_its_limit.Goals as goal

pub returns : goal.returns
returns c limit list rise below = rising_fits limit list rise below
