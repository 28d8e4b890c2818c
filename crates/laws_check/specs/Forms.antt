-- What is read of the line of an event, in both forms.
use Rattle.std.specs.Prelude.{◌≡◌, ◌≤◌, ℕ, List, [], ◌∷◌, ◌++◌, codes, Option, Some, None, IsUtf8, ⊤}
use Rattle.json.specs.Json.{Json}
use Rattle.json.specs.Tree.{HasNumbers, depth}
use Rattle.serde_json.specs.Data.{Data, string, object, Members, no_members, member}
use Rattle.serde_json.specs.Read.{of_json}
use Rattle.apply_json.specs.Verbatim.{verbatim}
use Rattle.apply_json.specs.Tree.{tree_of}
use Rattle.apply_model.specs.declared.plan.step_kind.StepKind.{StepKind}
use Rattle.apply_model.specs.declared.script.diag.Diag.{Diag}
use Rattle.apply_model.specs.declared.script.outcome.Outcome.{Outcome}
use Rattle.apply_model.specs.Plan.ResourceChange.{ResourceChange}
use Rattle.apply_events.specs.declared.what.What.{What}
use Rattle.apply_events.specs.declared.what.What.TheVariants.{Start, Progress, Complete, Errored, ErrorNote, WarnNote, Halted, ProvisionStart, ProvisionOutput, ProvisionComplete, ProvisionErrored}
use Rattle.apply_text.specs.Laws.{line_feeds}
use Rattle.apply_text.specs.Message as plain
use Rattle.apply_text.specs.Message.{Message, complete_message, error_message, event_message, no_diag, failure_diag, warning_message, warning_of}
use Rattle.apply_text_terraform.specs.Message.{end_id, diagnostic_address, with_body}
use Rattle.apply_text_terraform.specs.Objects.{text_if}

-- ---- a line

-- the line is one text and its line feed, and the text is parsed as the tree
pub record IsParsedAs (line : List ℕ) (tree : Data) : Type 0 where
  pub text : List ℕ
  pub line_is : line ≡ text ++ 10 ∷ []
  pub no_feed : line_feeds text ≡ 0
  pub tree_is : tree_of text ≡ Some tree

-- ---- verbatim texts

-- How deep a value that is copied verbatim may nest. A message with the value then nests no deeper
-- than the checker reads.
abbrev pub max_verbatim_depth : ℕ
max_verbatim_depth = 124

-- the text is the text of the value, as it stands in a message
pub record IsVerbatim (text : List ℕ) (value : Data) : Type 0 where
  pub json : Json
  pub text_is : text ≡ verbatim json
  pub utf8 : IsUtf8 text
  pub numbers : HasNumbers json
  pub shallow : depth json ≤ max_verbatim_depth
  pub value_is : of_json json ≡ Some value

-- the text is the text of the value, or there are neither
abbrev pub IsOptionalVerbatim : Option (List ℕ) → Option Data → Type 0
IsOptionalVerbatim None None = ⊤
IsOptionalVerbatim None (Some value) = ⊥
IsOptionalVerbatim (Some text) None = ⊥
IsOptionalVerbatim (Some text) (Some value) = IsVerbatim text value

-- the range and the snippet of a diagnostic are the texts of these values
pub record AreVerbatim (diag : Diag) (range snippet : Option Data) : Type 0 where
  pub range_is : IsOptionalVerbatim diag.range range
  pub snippet_is : IsOptionalVerbatim diag.snippet snippet

-- ---- the message of an event

-- the member of that name before the others, if there is a value
abbrev pub value_if : (name : List ℕ) → Option Data → Members → Members
value_if name None others = others
value_if name (Some value) others = member name value others

-- a diagnostic as it is read, with its members in the order of their names
unfoldable pub diagnostic_tree : (address : Option (List ℕ)) → (severity : List ℕ) → Diag → (range snippet : Option Data) → Data
diagnostic_tree address severity diag range snippet =
    object
    (text_if (codes "address") address
    (member (codes "detail") (string diag.detail)
    (value_if (codes "range") range
    (member (codes "severity") (string severity)
    (value_if (codes "snippet") snippet
    (member (codes "summary") (string diag.summary) no_members))))))

-- the diagnostic of an event
abbrev pub event_diagnostic : Outcome → What → Diag
event_diagnostic outcome ErrorNote = failure_diag outcome
event_diagnostic outcome WarnNote = warning_of outcome.result
event_diagnostic outcome _ = no_diag

-- The message of an event in Terraform's form. It differs from the default form in two events. A
-- completion has the planned id if the script states no id. A diagnostic may have no address, and
-- has its range and its snippet.
abbrev pub message_in_form : ResourceChange → StepKind → Outcome → (planned : Option (List ℕ)) → (range snippet : Option Data) → What → Message
message_in_form change step outcome planned range snippet Start = event_message change step outcome Start
message_in_form change step outcome planned range snippet (Progress seconds) = event_message change step outcome (Progress seconds)
message_in_form change step outcome planned range snippet (Complete seconds) =
    complete_message change step seconds (end_id step outcome.result planned)
message_in_form change step outcome planned range snippet (Errored seconds) = event_message change step outcome (Errored seconds)
message_in_form change step outcome planned range snippet ErrorNote =
    with_body (error_message change (failure_diag outcome))
    (diagnostic_tree (diagnostic_address change step outcome) (codes "error") (failure_diag outcome) range snippet)
message_in_form change step outcome planned range snippet WarnNote =
    with_body (warning_message change (warning_of outcome.result))
    (diagnostic_tree (diagnostic_address change step outcome) (codes "warning") (warning_of outcome.result) range snippet)
message_in_form change step outcome planned range snippet (Halted phase hook) = event_message change step outcome (Halted phase hook)
message_in_form change step outcome planned range snippet (ProvisionStart i) = event_message change step outcome (ProvisionStart i)
message_in_form change step outcome planned range snippet (ProvisionOutput i line) =
    event_message change step outcome (ProvisionOutput i line)
message_in_form change step outcome planned range snippet (ProvisionComplete i) = event_message change step outcome (ProvisionComplete i)
message_in_form change step outcome planned range snippet (ProvisionErrored i) = event_message change step outcome (ProvisionErrored i)

-- the event has no other id in Terraform's form, and its address is not left out
abbrev pub IsSameInBothForms : ResourceChange → StepKind → Outcome → (planned : Option (List ℕ)) → What → Type 0
IsSameInBothForms change step outcome planned (Complete seconds) = end_id step outcome.result planned ≡ plain.end_id step outcome.result
IsSameInBothForms change step outcome planned ErrorNote = diagnostic_address change step outcome ≡ Some change.address
IsSameInBothForms change step outcome planned WarnNote = diagnostic_address change step outcome ≡ Some change.address
IsSameInBothForms change step outcome planned _ = ⊤
