-- The diagnostics of a run, as `record` reads them of their lines.
use Rattle.std.specs.Prelude.{◌≡◌, ◌≤◌, ℕ, List, Option, Some, None}
use Rattle.json.specs.Json.{Json}
use Rattle.json.specs.Tree.{HasNumbers, depth}
use Rattle.serde_json.specs.Data.{Data}
use Rattle.serde_json.specs.Read.{of_json}
use Rattle.apply_json.specs.Verbatim.{verbatim}
use Rattle.apply_json.specs.Tree.{◌>>=◌, unless_empty}
use Rattle.apply_model.specs.declared.details.note.Note.{Note}
use Rattle.apply_model.specs.declared.details.note.Severity.{Severity}
use Rattle.apply_model.specs.declared.details.note.Severity.TheVariants.{Error, Warning}
use Rattle.apply_model.specs.declared.plan.step_kind.StepKind.{StepKind}
use Rattle.apply_model.specs.declared.script.diag.Diag.{Diag}
use Rattle.apply_model.specs.declared.script.outcome.Outcome.{Outcome}
use Rattle.apply_model.specs.Plan.ResourceChange.{ResourceChange}
use Rattle.apply_events.specs.declared.what.What.{What}
use Rattle.apply_events.specs.declared.what.What.TheVariants.{ErrorNote, WarnNote, Halted}
use Rattle.apply_text.specs.Message.{failure_diag, halt_of, no_diag, warning_of}
use Rattle.apply_text_terraform.specs.Message.{diagnostic_address}
use Rattle.stream_record_lines.specs.JsonMembers.{if_object}

-- ---- what is told

-- The severity and the diagnostic of an event that is a note; of any other event nothing is told.
abbrev pub severity_of : What → Severity
severity_of WarnNote = Warning
severity_of _ = Error

abbrev pub diag_of : StepKind → Outcome → What → Diag
diag_of kind outcome ErrorNote = failure_diag outcome
diag_of kind outcome WarnNote = warning_of outcome.result
diag_of kind outcome (Halted phase hook) = halt_of kind phase hook
diag_of kind outcome _ = no_diag

-- A hook halts at the address of the change. What a provider reports of a delete has no address.
abbrev pub address_in_form : ResourceChange → StepKind → Outcome → What → Option (List ℕ)
address_in_form change kind outcome (Halted phase hook) = Some change.address
address_in_form change kind outcome _ = diagnostic_address change kind outcome

-- ---- what is read

-- The text is that of a JSON value without blanks, which nests at most so deep. A tree can hold its
-- numbers.
pub record IsShallowText (most : ℕ) (text : List ℕ) : Type 0 where
  pub json : Json
  pub text_is : text ≡ verbatim json
  pub numbers : HasNumbers json
  pub shallow : depth json ≤ most
  pub tree : Data
  pub tree_is : of_json json ≡ Some tree

-- The default form has neither ranges nor snippets.
abbrev pub plain_diag : Diag → Diag
plain_diag diag = record { summary = diag.summary; detail = diag.detail; range = None; snippet = None }

-- A range or a snippet comes back as it is in the script, if it is an object and not too deep.
abbrev pub diag_in_form : Diag → Diag
diag_in_form diag = record {
  summary = diag.summary;
  detail = diag.detail;
  range = diag.range >>= if_object;
  snippet = diag.snippet >>= if_object;
}

-- An empty address is none.
abbrev pub plain_note : ResourceChange → StepKind → Outcome → What → Note
plain_note change kind outcome what = record {
  severity = severity_of what;
  diag = plain_diag (diag_of kind outcome what);
  address = unless_empty change.address;
}

abbrev pub note_in_form : Note → Note
note_in_form note = record {
  severity = note.severity;
  diag = diag_in_form note.diag;
  address = note.address >>= unless_empty;
}

abbrev pub step_note_in_form : ResourceChange → StepKind → Outcome → What → Note
step_note_in_form change kind outcome what = note_in_form (record {
  severity = severity_of what;
  diag = diag_of kind outcome what;
  address = address_in_form change kind outcome what;
})
