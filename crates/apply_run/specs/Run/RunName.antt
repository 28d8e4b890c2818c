-- Work without any change, for a run that has no name yet.
use Rattle.std.specs.Prelude.{[]}
use Rattle.apply_events.specs.Step.{Work}

abbrev pub no_work : Work
no_work = record { plan = record { version = []; changes = [] }; script = []; hooks = [] }
