-- Which lines of the stream of a command have the level `error`, and how the stream ends.
use Rattle.std.specs.Prelude.{◌≡◌, ℕ, ◌+◌, List, [], ◌++◌, Bool, false, if◌then◌else◌, length, map, not}
use Rattle.std.specs.List.{AllByRecursion, concat, list_any}
use Rattle.apply_events.specs.declared.event.Event.{Event}
use Rattle.apply_events.specs.Totals.{totals_of}
use Rattle.apply_text.specs.declared.operation.Operation.{Operation}
use Rattle.apply_text.specs.Latest.{latest_of}
use Rattle.apply_text.specs.Order.{as_written}
use Rattle.apply_text_terraform.specs.declared.command.Command.{Command}
use Rattle.apply_text_terraform.specs.declared.command.Command.TheVariants.{Apply, Destroy, Plan, Saved}
use Rattle.apply_text_terraform.specs.Lines.{note_text, summary_text}
use Rattle.apply_command.specs.Head.{line_text}
use Rattle.apply_command.specs.Reading.{CommandInputs, applied_plan, extras, form, head_inputs, lines, notes}
use Rattle.apply_writer.specs.Stream.Form.{stream_in}
use Rattle.apply_writer.specs.Stream.Terraform.{imported_in, outputs_of_apply}
use Rattle.laws_check.specs.Levels.{IsLineOrNothing, event_lines, is_error_line}

-- a stream has a summary of its operation: `plan` has none, and the others have one where they
-- report no error
abbrev pub has_summary : Command → (reports_error : Bool) → Bool
has_summary Saved reports_error = not reports_error
has_summary Plan reports_error = false
has_summary Apply reports_error = not reports_error
has_summary Destroy reports_error = not reports_error

module _ (command : Command) (lanes : ℕ) (read : CommandInputs) (start : ℕ) (operation : Operation) where
  -- when the planning has ended
  abbrev pub applied_at : ℕ
  applied_at = start + (head_inputs command lanes read start).took

  -- the lines before the end: those before the apply, those of events in the order in which they
  -- are written, and the diagnostics of no step
  abbrev pub lines_before_end : (written : List Event) → List (List ℕ)
  lines_before_end written =
      map (line_text (head_inputs command lanes read start)) (lines command lanes read)
      ++ (event_lines (form command lanes read start operation) written
      ++ map (note_text applied_at (latest_of written (length written))) (notes command lanes read))

  -- one of the lines before the end has the level `error`
  abbrev pub has_error_line : (written : List Event) → Bool
  has_error_line written = list_any is_error_line (lines_before_end written)

  -- the end of a stream: the summary and, in an apply, the outputs
  abbrev pub end_of : (taken : List Event) → List ℕ
  end_of taken =
      summary_text applied_at (latest_of (as_written taken) (length (as_written taken))) operation
      (totals_of (applied_plan command lanes read) taken) (imported_in read.stated.details.changes)
      ++ outputs_of_apply operation applied_at (latest_of (as_written taken) (length (as_written taken))) (extras command lanes read).outputs

-- The stream of the events that were taken is one line after another, and then, where it has a
-- summary, its end. It has one if and only if the command is not `plan` and none of its lines has
-- the level `error`. The report has an error if and only if one of them has that level.
pub record HasASummaryOrAnError (command : Command) (lanes : ℕ) (read : CommandInputs) (start : ℕ) (operation : Operation) (taken : List Event)
    (reports_error : Bool) : Type 0 where
  pub lines : AllByRecursion IsLineOrNothing (lines_before_end command lanes read start operation (as_written taken))
  pub stream : stream_in (form command lanes read start operation) taken
      ≡ concat (lines_before_end command lanes read start operation (as_written taken))
      ++ (if has_summary command (has_error_line command lanes read start operation (as_written taken)) then end_of command lanes read start operation taken else [])
  pub error : reports_error ≡ has_error_line command lanes read start operation (as_written taken)
