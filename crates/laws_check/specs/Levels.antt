-- Which lines of a stream in Terraform's form have the level `error`, and how such a stream ends.
use Rattle.std.specs.Prelude.{◌≡◌, ◌⊎◌, ℕ, ◌+◌, List, [], ◌++◌, Bool, codes, if◌then◌else◌, length, map, nat_eq}
use Rattle.std.specs.List.{AllByRecursion, concat, enumerate_from, list_any, starts_with}
use Rattle.serde_json.specs.Data.{Data}
use Rattle.apply_events.specs.declared.event.Event.{Event}
use Rattle.apply_events.specs.Totals.{totals_of}
use Rattle.apply_text.specs.declared.operation.Operation.{Operation}
use Rattle.apply_text.specs.Latest.{latest_of}
use Rattle.apply_text.specs.Message.{Message}
use Rattle.apply_text.specs.Order.{as_written}
use Rattle.apply_text_terraform.specs.Lines.{line_of, note_text, summary_text, line_with_verbatim}
use Rattle.apply_text_terraform.specs.declared.form.Form.TheVariants.{Terraform}
use Rattle.apply_run.specs.FromBytes.{form_for}
use Rattle.apply_run.specs.Read.{StatedInputs, applied_plan, extras_of}
use Rattle.apply_writer.specs.Stream.Form.{StreamForm, stream_in}
use Rattle.apply_writer.specs.Stream.Terraform.{terraform_head_chunks, imported_in, outputs_of_apply}

-- the line of a message, with the verbatim texts of a diagnostic
abbrev pub IsTold : List ℕ → Type 0
IsTold text = (seconds : ℕ) × (message : Message) × (raw_texts : List ℕ) × (text ≡ line_with_verbatim seconds message raw_texts)

-- the text is empty, the line of an object, or the line of a diagnostic with verbatim texts
abbrev pub IsLineOrNothing : List ℕ → Type 0
IsLineOrNothing text = (text ≡ []) ⊎ (((d : Data) × (text ≡ line_of d)) ⊎ IsTold text)

-- the line has the level `error`, which is its first member
abbrev pub is_error_line : (line : List ℕ) → Bool
is_error_line line = starts_with nat_eq line (codes "{\"@level\":\"error\",")

-- the lines of events in the order in which they are written; empty where an event has no line
abbrev pub event_lines : StreamForm → (written : List Event) → List (List ℕ)
event_lines form written =
    map (λ p. form.line (latest_of written (p.0 + 1)) p.1) (enumerate_from 0 written)

-- the lines before the end: the version, the planned changes, the events in the order in which they
-- are written, and the diagnostics of no step
abbrev pub lines_before_end : StatedInputs → (start : ℕ) → Operation → (written : List Event) → List (List ℕ)
lines_before_end stated start operation written =
    terraform_head_chunks (applied_plan stated) stated.details.changes start
    ++ (event_lines (form_for Terraform stated start operation) written
    ++ map (note_text start (latest_of written (length written))) (extras_of stated).notes)

-- one of the lines before the end has the level `error`
abbrev pub has_error_line : StatedInputs → (start : ℕ) → Operation → (written : List Event) → Bool
has_error_line stated start operation written =
    list_any is_error_line (lines_before_end stated start operation written)

-- the end of a stream: the summary and, in an apply, the outputs
abbrev pub end_of : StatedInputs → (start : ℕ) → Operation → (taken : List Event) → List ℕ
end_of stated start operation taken =
    summary_text start (latest_of (as_written taken) (length (as_written taken))) operation
    (totals_of (applied_plan stated) taken) (imported_in stated.details.changes)
    ++ outputs_of_apply operation start (latest_of (as_written taken) (length (as_written taken))) (extras_of stated).outputs

-- The stream of the events that were taken has its end if and only if none of its lines has the
-- level `error`. The report has an error if and only if one of them has that level.
pub record HasAnEndOrAnError (stated : StatedInputs) (start : ℕ) (operation : Operation) (taken : List Event) (contains_error : Bool) : Type 0 where
  pub lines : AllByRecursion IsLineOrNothing (lines_before_end stated start operation (as_written taken))
  pub stream : stream_in (form_for Terraform stated start operation) taken
      ≡ concat (lines_before_end stated start operation (as_written taken))
      ++ (if has_error_line stated start operation (as_written taken) then [] else end_of stated start operation taken)
  pub error : contains_error ≡ has_error_line stated start operation (as_written taken)
