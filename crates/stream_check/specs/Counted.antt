-- The totals, counted message by message, for private clauses.
use Rattle.std.specs.Prelude.{ℕ, ◌+◌, Bool, false, nat_le, if◌then◌else◌, Option, Some, None}
use Rattle.stream_check.specs.declared.messages.action.Action.{Action}
use Rattle.stream_check.specs.declared.messages.action.Action.TheVariants.{Create, Update, Delete, Read, Refresh}
use Rattle.stream_check.specs.declared.messages.intent.Intent.{Intent}
use Rattle.stream_check.specs.declared.messages.intent.Intent.TheVariants as intent
use Rattle.stream_check.specs.declared.messages.totals.Totals.{Totals}
use Rattle.stream_check.specs.declared.messages.timed_stage.TimedStage.{TimedStage}
use Rattle.stream_check.specs.declared.messages.timed_stage.TimedStage.TheVariants.{Start, Progress, Complete, Errored}
use Rattle.stream_check.specs.AddressState.{may_fail}

abbrev pub with_one : Action → Totals → Totals
with_one Create totals = record totals { added = totals.added + 1 }
with_one Update totals = record totals { changed = totals.changed + 1 }
with_one Delete totals = record totals { removed = totals.removed + 1 }
with_one Read totals = totals
with_one Refresh totals = totals

-- one planned change more
abbrev pub planned_counted : Intent → Totals → Totals
planned_counted intent.Create totals = record totals { added = totals.added + 1 }
planned_counted intent.Update totals = record totals { changed = totals.changed + 1 }
planned_counted intent.Delete totals = record totals { removed = totals.removed + 1 }
planned_counted intent.Replace totals = record totals { added = totals.added + 1; removed = totals.removed + 1 }
planned_counted intent.Nothing totals = totals

-- the completed steps after a message about a step
abbrev pub counted : Action → TimedStage → Totals → Totals
counted action Start totals = totals
counted action (Progress seconds) totals = totals
counted action (Complete seconds) totals = with_one action totals
counted action (Errored seconds) totals = totals

-- the started steps after a message about a step
abbrev pub begun_counted : Action → TimedStage → Totals → Totals
begun_counted action Start totals = with_one action totals
begun_counted action (Progress seconds) totals = totals
begun_counted action (Complete seconds) totals = totals
begun_counted action (Errored seconds) totals = totals

-- the failures after a message about a step
abbrev pub failures_counted : Action → TimedStage → ℕ → ℕ
failures_counted action Start n = n
failures_counted action (Progress seconds) n = n
failures_counted action (Complete seconds) n = n
failures_counted action (Errored seconds) n = if may_fail action then n + 1 else n

-- as many steps have started as were planned
abbrev pub is_used_up : (begun planned : Option ℕ) → Bool
is_used_up None planned = false
is_used_up (Some n) None = false
is_used_up (Some n) (Some m) = nat_le m n
