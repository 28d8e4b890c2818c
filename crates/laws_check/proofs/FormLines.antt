-- What is read of the line of an event, in both forms.
use Rattle.std.proofs.Common.{◌≡◌, ℕ, List, ◌++◌, codes, cond, IsUtf8, Bool, true, false, Option, Some, None, refl, ap, ◌∙◌, subst}
use Rattle.std.specs.Prelude.{IfSome, ◌&&◌, is_some, not}
use Rattle.json.proofs.Printed.Utf8.{IsUtf8-are_ascii}
use Rattle.serde_json.specs.Data.{Data}
use Rattle.serde_json.specs.Written.{compact_text}
use Rattle.apply_model.specs.declared.plan.step_kind.StepKind.{StepKind}
use Rattle.apply_model.specs.declared.plan.step_kind.StepKind.TheVariants.{Create, Update, Delete, Read}
use Rattle.apply_model.specs.declared.script.diag.Diag.{Diag}
use Rattle.apply_model.specs.declared.script.outcome.Outcome.{Outcome}
use Rattle.apply_model.specs.Plan.ResourceChange.{ResourceChange}
use Rattle.apply_model.specs.Plan.StepKind.{is_kind}
use Rattle.apply_model.specs.Script.Outcome.{first_diag}
use Rattle.apply_events.specs.declared.what.What.{What}
use Rattle.apply_events.specs.declared.what.What.TheVariants.{Start, Progress, Complete, Errored, ErrorNote, WarnNote, Halted, ProvisionStart, ProvisionOutput, ProvisionComplete, ProvisionErrored}
use Rattle.apply_text.specs.Lines as plain
use Rattle.apply_text.specs.Message.{Message, complete_message, event_message, halt_of, hook_message, name_of, output_of, provision_message, start_id, failure_diag, warning_of}
use Rattle.apply_text.specs.UtcTimestamp.{timestamp_text}
use Rattle.apply_text.specs.Objects.{hook_object as plain_hook, provisioner_object as plain_provisioner}
use Rattle.apply_text_terraform.specs.Lines.{event_line, message_line}
use Rattle.apply_text_terraform.specs.Message.{end_id, diagnostic_address, with_body}
use Rattle.apply_text_terraform.specs.UtcTimestamp.{precise_timestamp_text}
use Rattle.apply_text_terraform.specs.Objects.{hook_object, provisioner_object}
use Rattle.laws_check.specs.Forms.{AreVerbatim, IsParsedAs, IsSameInBothForms, diagnostic_tree, message_in_form, event_diagnostic}
use Rattle.laws_check.specs.Objects.{object_at, object_of}
use Rattle.laws_check.specs.Sound.{IsSound}
use Rattle.laws_check.specs.Texts.{HasChangeTexts, HasOutcomeTexts, IsSmall}
use Rattle.laws_check.proofs.EscapedTrees.{line_read}
use Rattle.laws_check.proofs.FormFeeds.{plain_feeds}
use Rattle.laws_check.proofs.FormNotes.{note_read}
use Rattle.laws_check.proofs.FormObjects.{body_of, diagnostic_plain, hook_message_read, hook_moved, hook_read, message_moved, provisioner_moved, provisioner_read}
use Rattle.laws_check.proofs.Given.{first_of_two}
use Rattle.laws_check.proofs.ObjectsBack.{event_back}
use Rattle.laws_check.proofs.SoundObjects.{complete_sound, event_sound, halt_texts}
use Rattle.laws_check.proofs.SoundParts.{three}
use Rattle.laws_check.proofs.Sounds.{fine_utf8}

-- ---- the default form

pub plain_read : (change : ResourceChange) (step : StepKind) (outcome : Outcome) (what : What) (seconds : ℕ) → HasChangeTexts change → HasOutcomeTexts outcome → IsSmall what
    → IsParsedAs (plain.message_line seconds (event_message change step outcome what)) (object_at (timestamp_text seconds) (event_message change step outcome what))
plain_read change step outcome what seconds has texts small =
    let message = event_message change step outcome what in
    record {
      text = compact_text (object_of seconds message);
      line_is = refl;
      no_feed = plain_feeds (object_of seconds message);
      tree_is = event_back change step outcome what seconds (event_sound change has seconds step outcome what texts small);
    }

-- ---- Terraform's form

module _ (change : ResourceChange) (seconds : ℕ) where
  hook_line_read : (step : StepKind) (text : List ℕ) (elapsed : Option ℕ) (id : Option (List ℕ)) (type_name : List ℕ) → IsSound (object_of seconds (hook_message change step text elapsed id type_name))
      → IsParsedAs (message_line seconds (with_body (hook_message change step text elapsed id type_name) (hook_object change step elapsed id))) (object_at (precise_timestamp_text seconds) (hook_message change step text elapsed id type_name))
  hook_line_read step text elapsed id type_name h =
      let says = change.address ++ codes ": " ++ text in
      let body = body_of (codes "info") says (timestamp_text seconds) (codes "hook") type_name (plain_hook change step elapsed id) h in
      line_read (object_at (precise_timestamp_text seconds) (with_body (hook_message change step text elapsed id type_name) (hook_object change step elapsed id))) (object_at (precise_timestamp_text seconds) (hook_message change step text elapsed id type_name))
      (message_moved (codes "info") says (timestamp_text seconds) (precise_timestamp_text seconds) (codes "hook") type_name (plain_hook change step elapsed id) (hook_object change step elapsed id) h (fine_utf8 seconds) (hook_moved change step elapsed id body))
      (hook_message_read (codes "info") says (precise_timestamp_text seconds) type_name (hook_object change step elapsed id) (plain_hook change step elapsed id) (hook_read change step elapsed id body))

  provision_line_read : (name text : List ℕ) (output : Option (List ℕ)) (type_name : List ℕ) → IsSound (object_of seconds (provision_message change name text output type_name))
      → IsParsedAs (message_line seconds (with_body (provision_message change name text output type_name) (provisioner_object change name output))) (object_at (precise_timestamp_text seconds) (provision_message change name text output type_name))
  provision_line_read name text output type_name h =
      let says = change.address ++ codes ": " ++ text in
      let body = body_of (codes "info") says (timestamp_text seconds) (codes "hook") type_name (plain_provisioner change name output) h in
      line_read (object_at (precise_timestamp_text seconds) (with_body (provision_message change name text output type_name) (provisioner_object change name output))) (object_at (precise_timestamp_text seconds) (provision_message change name text output type_name))
      (message_moved (codes "info") says (timestamp_text seconds) (precise_timestamp_text seconds) (codes "hook") type_name (plain_provisioner change name output) (provisioner_object change name output) h (fine_utf8 seconds) (provisioner_moved change name output body))
      (hook_message_read (codes "info") says (precise_timestamp_text seconds) type_name (provisioner_object change name output) (plain_provisioner change name output) (provisioner_read change name output body))

id_utf8 : (step : StepKind) (outcome : Outcome) (planned : Option (List ℕ)) → HasOutcomeTexts outcome → IfSome planned IsUtf8 → IfSome (end_id step outcome.result planned) IsUtf8
id_utf8 Create outcome planned texts h = first_of_two IsUtf8 _ planned texts.id h
id_utf8 Update outcome planned texts h = first_of_two IsUtf8 _ planned texts.id h
id_utf8 Delete outcome planned texts h = tt
id_utf8 Read outcome planned texts h = first_of_two IsUtf8 _ planned texts.id h

address_utf8 : (change : ResourceChange) (step : StepKind) (outcome : Outcome) → HasChangeTexts change → IfSome (diagnostic_address change step outcome) IsUtf8
address_utf8 change step outcome has = at (is_kind Delete step && not (is_some (first_diag outcome.provisioners)))
  where
    at : (b : Bool) → IfSome (cond b None (Some change.address)) IsUtf8
    at true = tt
    at false = has.address

pub event_read : (change : ResourceChange) (step : StepKind) (outcome : Outcome) (planned : Option (List ℕ)) (range snippet : Option Data) (what : What) (seconds : ℕ)
    → HasChangeTexts change → HasOutcomeTexts outcome → IsSmall what → IfSome planned IsUtf8 → AreVerbatim (event_diagnostic outcome what) range snippet
    → IsParsedAs (event_line seconds change step outcome planned what) (object_at (precise_timestamp_text seconds) (message_in_form change step outcome planned range snippet what))
event_read change step outcome planned range snippet Start seconds has texts small h raw_texts =
    hook_line_read change seconds step _ None (start_id step change) (codes "apply_start") (event_sound change has seconds step outcome Start texts small)
event_read change step outcome planned range snippet (Progress s) seconds has texts small h raw_texts =
    hook_line_read change seconds step _ (Some s) None (codes "apply_progress") (event_sound change has seconds step outcome (Progress s) texts small)
event_read change step outcome planned range snippet (Complete s) seconds has texts small h raw_texts =
    hook_line_read change seconds step _ (Some s) (end_id step outcome.result planned) (codes "apply_complete")
    (complete_sound change has seconds step s (end_id step outcome.result planned) small (id_utf8 step outcome planned texts h))
event_read change step outcome planned range snippet (Errored s) seconds has texts small h raw_texts =
    hook_line_read change seconds step _ (Some s) None (codes "apply_errored") (event_sound change has seconds step outcome (Errored s) texts small)
event_read change step outcome planned range snippet ErrorNote seconds has texts small h raw_texts =
    note_read seconds (codes "error") (codes "Error" ++ codes ": " ++ (failure_diag outcome).summary) (diagnostic_address change step outcome) (codes "error") (failure_diag outcome)
    (IsUtf8-are_ascii (codes "error") refl)
    (three (codes "Error") (codes ": ") (failure_diag outcome).summary (IsUtf8-are_ascii (codes "Error") refl) (IsUtf8-are_ascii (codes ": ") refl) texts.failure.summary)
    (address_utf8 change step outcome has) (IsUtf8-are_ascii (codes "error") refl) texts.failure range snippet raw_texts
event_read change step outcome planned range snippet WarnNote seconds has texts small h raw_texts =
    note_read seconds (codes "warn") (codes "Warning" ++ codes ": " ++ (warning_of outcome.result).summary) (diagnostic_address change step outcome) (codes "warning") (warning_of outcome.result)
    (IsUtf8-are_ascii (codes "warn") refl)
    (three (codes "Warning") (codes ": ") (warning_of outcome.result).summary (IsUtf8-are_ascii (codes "Warning") refl) (IsUtf8-are_ascii (codes ": ") refl) texts.warning.summary)
    (address_utf8 change step outcome has) (IsUtf8-are_ascii (codes "warning") refl) texts.warning range snippet raw_texts
event_read change step outcome planned range snippet (Halted phase hook) seconds has texts small h raw_texts =
    let diag = halt_of step phase hook in
    let says = halt_texts change has seconds step phase hook small in
    subst (λ (body : Data). IsParsedAs (event_line seconds change step outcome planned (Halted phase hook)) (object_at (precise_timestamp_text seconds) (with_body (event_message change step outcome (Halted phase hook)) body)))
    (diagnostic_plain change.address (codes "error") diag)
    (note_read seconds (codes "error") (codes "Error" ++ codes ": " ++ diag.summary) (Some change.address) (codes "error") diag
    (IsUtf8-are_ascii (codes "error") refl)
    (three (codes "Error") (codes ": ") diag.summary (IsUtf8-are_ascii (codes "Error") refl) (IsUtf8-are_ascii (codes ": ") refl) says.summary)
    has.address (IsUtf8-are_ascii (codes "error") refl) says None None (record { range_is = tt; snippet_is = tt }))
event_read change step outcome planned range snippet (ProvisionStart i) seconds has texts small h raw_texts =
    provision_line_read change seconds (name_of outcome i) _ None (codes "provision_start") (event_sound change has seconds step outcome (ProvisionStart i) texts small)
event_read change step outcome planned range snippet (ProvisionOutput i line) seconds has texts small h raw_texts =
    provision_line_read change seconds (name_of outcome i) _ (Some (output_of outcome i line)) (codes "provision_progress") (event_sound change has seconds step outcome (ProvisionOutput i line) texts small)
event_read change step outcome planned range snippet (ProvisionComplete i) seconds has texts small h raw_texts =
    provision_line_read change seconds (name_of outcome i) _ None (codes "provision_complete") (event_sound change has seconds step outcome (ProvisionComplete i) texts small)
event_read change step outcome planned range snippet (ProvisionErrored i) seconds has texts small h raw_texts =
    provision_line_read change seconds (name_of outcome i) _ None (codes "provision_errored") (event_sound change has seconds step outcome (ProvisionErrored i) texts small)

-- ---- where both forms have the same message

module _ (change : ResourceChange) (step : StepKind) (outcome : Outcome) (planned : Option (List ℕ)) where
  noted_plain : (severity : List ℕ) (diag : Diag) (message : Message) → diagnostic_address change step outcome ≡ Some change.address
      → with_body message (diagnostic_tree (diagnostic_address change step outcome) severity diag None None) ≡ with_body message (diagnostic_tree (Some change.address) severity diag None None)
  noted_plain severity diag message same = ap (λ a. with_body message (diagnostic_tree a severity diag None None)) same

  pub same_stated : (what : What) → IsSameInBothForms change step outcome planned what → message_in_form change step outcome planned None None what ≡ event_message change step outcome what
  same_stated Start h = refl
  same_stated (Progress s) h = refl
  same_stated (Complete s) h = ap (complete_message change step s) h
  same_stated (Errored s) h = refl
  same_stated ErrorNote h =
      noted_plain (codes "error") (failure_diag outcome) (event_message change step outcome ErrorNote) h
      ∙ ap (with_body (event_message change step outcome ErrorNote)) (diagnostic_plain change.address (codes "error") (failure_diag outcome))
  same_stated WarnNote h =
      noted_plain (codes "warning") (warning_of outcome.result) (event_message change step outcome WarnNote) h
      ∙ ap (with_body (event_message change step outcome WarnNote)) (diagnostic_plain change.address (codes "warning") (warning_of outcome.result))
  same_stated (Halted phase hook) h = refl
  same_stated (ProvisionStart i) h = refl
  same_stated (ProvisionOutput i line) h = refl
  same_stated (ProvisionComplete i) h = refl
  same_stated (ProvisionErrored i) h = refl
