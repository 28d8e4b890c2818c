-- What a checker reads back from the lines of events and of diagnostics in Terraform's form.
use Rattle.std.proofs.Common.{◌≡◌, ◌≤◌, ℕ, List, codes, bytes_eq, Bool, false, Option, Some, None, Ok, refl, ap, ◌∙◌}
use Rattle.json.specs.Tree.{depth}
use Rattle.serde_json.specs.Data.{Data}
use Rattle.serde_json.specs.Read.{of_json}
use Rattle.serde_json.specs.Written.{compact_text, outline}
use Rattle.apply_model.specs.declared.plan.step_kind.StepKind.{StepKind}
use Rattle.apply_model.specs.declared.script.diag.Diag.{Diag}
use Rattle.apply_model.specs.declared.script.outcome.Outcome.{Outcome}
use Rattle.apply_model.specs.Plan.ResourceChange.{ResourceChange}
use Rattle.stream_check.specs.declared.rules.fault.Fault.TheVariants.{NotJson}
use Rattle.stream_check.specs.Lines.{tree_message}
use Rattle.stream_check.specs.Message.{Message, diagnostic, diagnostic_of, typed_message}
use Rattle.stream_check.specs.Results.{◌>>=◌, or_refuse}
use Rattle.apply_events.specs.declared.what.What.{What}
use Rattle.apply_events.specs.declared.what.What.TheVariants.{Start, Progress, Complete, Errored, ErrorNote, WarnNote, Halted, ProvisionStart, ProvisionOutput, ProvisionComplete, ProvisionErrored}
use Rattle.apply_text.specs.Lines.{message_object}
use Rattle.apply_text.specs.Message.{failure_diag, warning_of}
use Rattle.apply_text_terraform.specs.Escapes.{escaped}
use Rattle.apply_text_terraform.specs.Lines.{line_of}
use Rattle.apply_text_terraform.specs.Message.{end_id, diagnostic_address}
use Rattle.laws_check.specs.Forms.{IsParsedAs, diagnostic_tree, message_in_form}
use Rattle.laws_check.specs.Objects.{object_at}
use Rattle.laws_check.specs.Sound.{IsSound}
use Rattle.laws_check.specs.ReadBackInForm.{IsReadBackAs, read_back_in_form}
use Rattle.laws_check.proofs.EscapedTrees.{own_line}
use Rattle.laws_check.proofs.ReadBackEvents.{complete_is_read_back, read_back_of_kind}

-- a line is read back as its message
pub says : (line : List ℕ) (tree : Data) (message : Message) → IsParsedAs line tree → tree_message false tree ≡ Ok message → IsReadBackAs line message
says line tree message read is_read_back = record {
  text = read.text;
  line_is = read.line_is;
  no_feed = read.no_feed;
  says = ap (λ (o : Option Data). or_refuse NotJson o >>= tree_message false) read.tree_is ∙ is_read_back;
}

-- the line of a sound object is read back as the message of the object
pub line_reads : (d : Data) (message : Message) → IsSound d → depth (outline d) ≤ 3 → (or_refuse NotJson (of_json (outline d)) >>= tree_message false) ≡ Ok message → IsReadBackAs (line_of d) message
line_reads d message sound shallow is_read_back =
    let line = own_line d sound shallow in
    record {
      text = escaped (compact_text d);
      line_is = refl;
      no_feed = line.1;
      says = ap (λ (o : Option Data). or_refuse NotJson o >>= tree_message false) line.0 ∙ is_read_back;
    }

pub diagnostic_is_read_back : (find : Bool) (moment level says : List ℕ) (address : Option (List ℕ)) (severity : List ℕ) (diag : Diag) (range snippet : Option Data)
    → tree_message find (object_at moment (record { level = level; text = says; name = codes "diagnostic"; body = diagnostic_tree address severity diag range snippet; type_name = codes "diagnostic" }))
    ≡ Ok (diagnostic (bytes_eq severity (codes "error")) address)
unfolding tree_message message_object typed_message diagnostic_of diagnostic_tree
diagnostic_is_read_back find moment level says None severity diag None None = refl
diagnostic_is_read_back find moment level says None severity diag None (Some w) = refl
diagnostic_is_read_back find moment level says None severity diag (Some v) None = refl
diagnostic_is_read_back find moment level says None severity diag (Some v) (Some w) = refl
diagnostic_is_read_back find moment level says (Some a) severity diag None None = refl
diagnostic_is_read_back find moment level says (Some a) severity diag None (Some w) = refl
diagnostic_is_read_back find moment level says (Some a) severity diag (Some v) None = refl
diagnostic_is_read_back find moment level says (Some a) severity diag (Some v) (Some w) = refl

pub event_is_read_back : (find : Bool) (change : ResourceChange) (step : StepKind) (outcome : Outcome) (planned : Option (List ℕ)) (range snippet : Option Data) (what : What) (moment : List ℕ)
    → tree_message find (object_at moment (message_in_form change step outcome planned range snippet what)) ≡ Ok (read_back_in_form change step outcome what)
event_is_read_back find change step outcome planned range snippet Start moment = read_back_of_kind find change step outcome Start moment
event_is_read_back find change step outcome planned range snippet (Progress s) moment = read_back_of_kind find change step outcome (Progress s) moment
event_is_read_back find change step outcome planned range snippet (Complete s) moment = complete_is_read_back find change step _ s (end_id step outcome.result planned) moment
event_is_read_back find change step outcome planned range snippet (Errored s) moment = read_back_of_kind find change step outcome (Errored s) moment
event_is_read_back find change step outcome planned range snippet ErrorNote moment = diagnostic_is_read_back find moment (codes "error") _ (diagnostic_address change step outcome) (codes "error") (failure_diag outcome) range snippet
event_is_read_back find change step outcome planned range snippet WarnNote moment =
    diagnostic_is_read_back find moment (codes "warn") _ (diagnostic_address change step outcome) (codes "warning") (warning_of outcome.result) range snippet
event_is_read_back find change step outcome planned range snippet (Halted phase hook) moment = read_back_of_kind find change step outcome (Halted phase hook) moment
event_is_read_back find change step outcome planned range snippet (ProvisionStart i) moment = read_back_of_kind find change step outcome (ProvisionStart i) moment
event_is_read_back find change step outcome planned range snippet (ProvisionOutput i line) moment = read_back_of_kind find change step outcome (ProvisionOutput i line) moment
event_is_read_back find change step outcome planned range snippet (ProvisionComplete i) moment = read_back_of_kind find change step outcome (ProvisionComplete i) moment
event_is_read_back find change step outcome planned range snippet (ProvisionErrored i) moment = read_back_of_kind find change step outcome (ProvisionErrored i) moment
