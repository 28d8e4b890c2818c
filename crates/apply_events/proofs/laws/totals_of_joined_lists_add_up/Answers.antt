use Rattle.apply_events.proofs.Joined.{totals-append}
use Rattle.apply_events.proofs.laws.totals_of_joined_lists_add_up.Goals as goal

pub returns : goal.returns
returns c plan first second = totals-append plan first second
