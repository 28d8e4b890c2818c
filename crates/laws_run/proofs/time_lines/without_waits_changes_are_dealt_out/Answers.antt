use Rattle.laws_run.proofs.Named.{names_none}
use Rattle.laws_run.proofs.WithoutWaits.{from_before, to_before}
use Rattle.laws_run.proofs.time_lines.without_waits_changes_are_dealt_out.Goals as goal

pub returns : goal.returns
returns c w n events some none = (to_before w n events (names_none w none) some, from_before w n events (names_none w none) some)
