-- Runs in lanes, without hooks, and what `record` reads of their diagnostics.
use Rattle.std.specs.Prelude.{◌≡◌, ◌<◌, ◌≤◌, ℕ, List, [], ◌++◌, Bool, false, true, IfSome, count_by, is_some, map, slice_get}
use Rattle.std.specs.List.{AllByRecursion, enumerate_from}
use Rattle.std.specs.Option.{option_map_or}
use Rattle.apply_model.specs.declared.details.change_details.ChangeDetails.{ChangeDetails}
use Rattle.apply_model.specs.declared.details.note.Note.{Note}
use Rattle.apply_model.specs.declared.script.diag.Diag.{Diag}
use Rattle.apply_model.specs.Plan.ResourceChange.{ResourceChange}
use Rattle.apply_model.specs.Plan.SavedPlan.{SavedPlan}
use Rattle.apply_model.specs.Script.OutcomeMap.{OutcomeMap, outcome_of}
use Rattle.apply_events.specs.declared.event.Event.{Event}
use Rattle.apply_events.specs.Step.{Work}
use Rattle.apply_events.specs.Waits.TimeLine.{IsTimeLine}
use Rattle.apply_text.specs.Message.{failure_diag, warning_of}
use Rattle.apply_text.specs.Start.{end_of_starts}
use Rattle.apply_text_terraform.specs.Details.{planned_word}
use Rattle.apply_text_terraform.specs.Message.{diagnostic_address}
use Rattle.apply_writer.specs.Stream.Terraform.{StreamExtras}
use Rattle.stream_record_lines.specs.JsonMembers.{is_shallow}
use Rattle.laws_lines.specs.Notes.{diag_in_form}
use Rattle.laws_texts.specs.Streams.{notes_told, plain_address, without_place}
use Rattle.laws_texts.specs.TimeLines.{notes_by_ends}

-- The events are the time line of a work without hooks, in some lanes. No timestamp is too late,
-- since the start is not.
pub record IsRun (work : Work) (lanes start : ℕ) (events : List Event) : Type 0 where
  pub hooks : work.hooks ≡ []
  pub some : 1 ≤ lanes
  pub line : IsTimeLine work lanes events
  pub starts : start < end_of_starts

abbrev pub without_hooks : SavedPlan → OutcomeMap → Work
without_hooks plan script = record { plan = plan; script = script; hooks = [] }

-- ---- planned changes

-- a planned change that has a line, by its number
abbrev pub has_line : List ChangeDetails → ℕ × ResourceChange → Bool
has_line details p = option_map_or (λ (d : ChangeDetails). is_some (planned_word p.1.steps d.forgets)) (slice_get details p.0) false

abbrev pub planned_count : SavedPlan → List ChangeDetails → ℕ
planned_count plan details = count_by (has_line details) (enumerate_from 0 plan.changes)

-- ---- diagnostics

-- the diagnostics that are read, as the events tell them
abbrev pub notes_read : SavedPlan → OutcomeMap → List Event → List Note
notes_read plan script events = map without_place (notes_told plain_address plan script events)

-- the same, as the ends of the steps tell them
abbrev pub notes_read_by_ends : SavedPlan → OutcomeMap → List Event → List Note
notes_read_by_ends plan script events = map without_place (notes_by_ends plain_address plan script events)

-- A diagnostic as Terraform's form shows it. The range and the snippet stand there if they are
-- objects and not too deep.
abbrev pub shown_in_form : Note → Note
shown_in_form note = record { severity = note.severity; diag = diag_in_form note.diag; address = note.address }

-- the diagnostics of the steps, as the events tell them, then those of no step
abbrev pub notes_read_in_form : SavedPlan → OutcomeMap → StreamExtras → List Event → List Note
notes_read_in_form plan script extras events =
    map shown_in_form (notes_told diagnostic_address plan script events) ++ map shown_in_form extras.notes

-- the same, as the ends of the steps tell them
abbrev pub notes_read_by_ends_in_form : SavedPlan → OutcomeMap → StreamExtras → List Event → List Note
notes_read_by_ends_in_form plan script extras events =
    map shown_in_form (notes_by_ends diagnostic_address plan script events) ++ map shown_in_form extras.notes

-- ---- ranges and snippets

-- The range and the snippet nest no deeper than a script can repeat, if there are any.
pub record IsShallow (diag : Diag) : Type 0 where
  pub range : IfSome diag.range (λ text. is_shallow text ≡ true)
  pub snippet : IfSome diag.snippet (λ text. is_shallow text ≡ true)

-- So do those of all diagnostics that a stream in Terraform's form may show.
pub record AreShallow (script : OutcomeMap) (extras : StreamExtras) : Type 0 where
  pub failures : (c k : ℕ) → IsShallow (failure_diag (outcome_of script c k))
  pub warnings : (c k : ℕ) → IsShallow (warning_of (outcome_of script c k).result)
  pub loose : AllByRecursion (λ (note : Note). IsShallow note.diag) extras.notes
