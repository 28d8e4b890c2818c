-- What a checker reads back from the stream of some events in the default form, and its verdict.
use Rattle.std.specs.Prelude.{◌+◌, List, [], ◌∷◌, ◌++◌, false, length, nat_lt, None}
use Rattle.apply_plan.specs.Plan.SavedPlan.{SavedPlan}
use Rattle.stream_check.specs.declared.messages.totals.Totals.{Totals}
use Rattle.stream_check.specs.declared.verdict.whole.Whole.{Whole}
use Rattle.stream_check.specs.Message.{Message, version, summary}
use Rattle.apply_events.specs.declared.counts.Counts.{Counts}
use Rattle.apply_events.specs.declared.event.Event.{Event}
use Rattle.apply_events.specs.Totals.{totals_of}
use Rattle.apply_text.specs.Order.{as_written}
use Rattle.laws_check.specs.ReadBack.{events_read_back}

-- the totals of the summary, by the counts of a run
abbrev pub totals_of_counts : Counts → Totals
totals_of_counts counts = record { added = counts.added; changed = counts.changed; removed = counts.removed }

-- the messages of the stream of the events that were taken: the version, the events in the order in
-- which they are written, the summary
abbrev pub stream_read_back : SavedPlan → (taken : List Event) → List Message
stream_read_back plan taken =
    version ∷ (events_read_back plan (as_written taken) ++ summary (totals_of_counts (totals_of plan taken)) ∷ [])

-- The stream is whole. The totals are those of the events, and there is an error if a step failed
-- or was halted. There is a line for each event, one for the version and one for the summary. None
-- is passed over.
abbrev pub whole_stream : SavedPlan → (taken : List Event) → Whole
whole_stream plan taken = record {
  totals = totals_of_counts (totals_of plan taken);
  has_errors = nat_lt 0 ((totals_of plan taken).failed + (totals_of plan taken).halted);
  lines = length taken + 2;
  is_plan = false;
  passed = None;
}
