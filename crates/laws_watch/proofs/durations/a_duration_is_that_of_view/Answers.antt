use Rattle.laws_watch.proofs.Ends.{told_is_drawn}
use Rattle.laws_watch.proofs.durations.a_duration_is_that_of_view.Goals as goal

pub returns-clause-length : goal.returns-clause-length
returns-clause-length c looks lines line rest step moment place time_range absent timed end no_refresh found =
    told_is_drawn looks lines line rest step moment place time_range absent timed end no_refresh found
