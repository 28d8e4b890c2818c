-- What a run has delivered.
use Rattle.std.specs.Prelude.{◌≡◌, ℕ, List, length, Option}
use Rattle.std.specs.Io.KnownBytes.{Appends}
use Rattle.apply_model.specs.Plan.SavedPlan.{SavedPlan}
use Rattle.apply_events.specs.declared.event.Event.{Event}
use Rattle.apply_events.specs.Totals.{totals_of}
use Rattle.apply_writer.specs.declared.report.Report.{Report}

-- the sink had the bytes `before`, and now has these bytes after them; the report counts the events
-- and these bytes
pub record IsDelivered (plan : SavedPlan) (events : List Event) (bytes : List ℕ) (report : Report)
    (before after : Option (List ℕ)) : Type 0 where
  pub counts : report.counts ≡ totals_of plan events
  pub taken : report.taken ≡ length events
  pub written : report.written ≡ length bytes
  pub appended : Appends before after bytes
