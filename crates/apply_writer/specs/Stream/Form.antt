-- The form of a stream, and its bytes.
use Rattle.std.specs.Prelude.{ℕ, ◌+◌, List, ◌++◌, length, flat_map}
use Rattle.std.specs.List.{enumerate_from}
use Rattle.apply_model.specs.Plan.SavedPlan.{SavedPlan}
use Rattle.apply_model.specs.Script.OutcomeMap.{OutcomeMap}
use Rattle.apply_events.specs.declared.counts.Counts.{Counts}
use Rattle.apply_events.specs.declared.event.Event.{Event}
use Rattle.apply_events.specs.Totals.{totals_of}
use Rattle.apply_text.specs.declared.operation.Operation.{Operation}
use Rattle.apply_text.specs.Latest.{latest_of}
use Rattle.apply_text.specs.Lines.{event_text, summary_text, version_text}
use Rattle.apply_text.specs.Order.{as_written}

-- a form for one plan: the head, the line of an event so many seconds after the start (or nothing),
-- and the tail, from the totals of the events
pub record StreamForm : Type 0 where
  pub plan : SavedPlan
  pub head : List ℕ
  pub line : (latest : ℕ) → Event → List ℕ
  pub tail : (latest : ℕ) → Counts → List ℕ

-- the head and the line of each event, in the order in which they are written; each line has the
-- latest timestamp up to its event
abbrev pub lines_in : StreamForm → (written : List Event) → List ℕ
lines_in form written =
    form.head ++ flat_map (λ p. form.line (latest_of written (p.0 + 1)) p.1) (enumerate_from 0 written)

-- the whole stream of events, given in the order in which they were accepted: the lines in the
-- order of writing, then the tail with the latest timestamp
abbrev pub stream_in : StreamForm → (taken : List Event) → List ℕ
stream_in form taken =
    lines_in form (as_written taken)
    ++ form.tail (latest_of (as_written taken) (length (as_written taken))) (totals_of form.plan taken)

-- the default form: the version, a line for each event, and the summary
abbrev pub plain_form : SavedPlan → OutcomeMap → (start : ℕ) → Operation → StreamForm
plain_form plan script start operation = record {
  plan = plan;
  head = version_text plan start;
  line = λ latest event. event_text plan script start latest event;
  tail = λ latest counts. summary_text start latest operation counts;
}
