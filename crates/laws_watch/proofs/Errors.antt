-- Which rows errors ask for.
use Rattle.std.proofs.Common.{◌≡◌, ◌∙◌, ℕ, List, [], ◌∷◌, Bool, true, Option, None, Some, ap, codes, is_some, option_and_then, option_map, refl, unwrap_or}
use Rattle.std.proofs.lemmas.Bool.{false≢true}
use Rattle.serde_json.specs.Data.{Data}
use Rattle.apply_json.specs.Tree.{◌>>=◌, text_of}
use Rattle.stream_message.specs.Kinds.{kind_named}
use Rattle.stream_message.specs.declared.stage.Stage.TheVariants as stage
use Rattle.term_text.specs.LineTexts.{text_lines}
use Rattle.stream_watch.specs.DiagnosticRow.{severity_mark, text_or_nothing}
use Rattle.stream_watch.specs.Hooks.{Hook, hook_of}
use Rattle.stream_watch.specs.Reading.{message_of}
use Rattle.stream_watch.specs.StepRows.{NamedStep, step_of}
use Rattle.stream_watch.specs.declared.mark.Mark.TheVariants as mark
use Rattle.laws_watch.specs.Diagnostics.{HasDiagnostic}
use Rattle.laws_watch.specs.Asked.{Asked, asked_by, of_kind, of_message_or_line, of_provisioner, of_stage, of_text, only, reporting}

-- by the message of the line, and by its type
message_is : (find : Bool) (line : List ℕ) (tree : Data) (name : List ℕ) → message_of find line ≡ Some tree → text_of (codes "type") tree ≡ Some name
    → asked_by find line ≡ unwrap_or (of_kind find line name tree (kind_named name)) (of_text line (text_lines (text_or_nothing (codes "@message") tree)))
message_is find line tree name message type =
    ap (of_message_or_line find line) message
    ∙ ap (λ (o : Option (List ℕ)). unwrap_or (option_and_then (λ n. of_kind find line n tree (kind_named n)) o)
    (of_text line (text_lines (text_or_nothing (codes "@message") tree)))) type

pub error_row : (find : Bool) (line : List ℕ) (diagnostic : Data) → HasDiagnostic find line (codes "error") diagnostic
    → asked_by find line ≡ reporting (mark.Failed ∷ [])
error_row find line diagnostic has =
    let other = of_text line (text_lines (text_or_nothing (codes "@message") has.tree)) in
    let by_severity = λ (d : Data). option_map (λ (s : List ℕ). reporting (severity_mark s ∷ [])) (text_of (codes "severity") d) in
    message_is find line has.tree (codes "diagnostic") has.message has.kind
    ∙ ap (λ (o : Option Data). unwrap_or (o >>= by_severity) other) has.member
    ∙ ap (λ (o : Option (List ℕ)). unwrap_or (option_map (λ (s : List ℕ). reporting (severity_mark s ∷ [])) o) other) has.severity

failed_step : (other : Asked) (step : Option NamedStep) → is_some step ≡ true
    → unwrap_or (option_map (λ (named : NamedStep). of_stage named.action stage.Errored) step) other ≡ only (mark.Failed ∷ [])
failed_step other None is = absurd (false≢true is)
failed_step other (Some step) is = refl

pub step_row : (find : Bool) (line : List ℕ) (tree : Data) → message_of find line ≡ Some tree → text_of (codes "type") tree ≡ Some (codes "apply_errored")
    → is_some (step_of tree) ≡ true → asked_by find line ≡ only (mark.Failed ∷ [])
step_row find line tree message type step =
    message_is find line tree (codes "apply_errored") message type
    ∙ failed_step (of_text line (text_lines (text_or_nothing (codes "@message") tree))) (step_of tree) step

pub operation_row : (find : Bool) (line : List ℕ) (tree : Data) → message_of find line ≡ Some tree
    → text_of (codes "type") tree ≡ Some (codes "ephemeral_op_errored") → is_some (step_of tree) ≡ true → asked_by find line ≡ only (mark.Failed ∷ [])
operation_row find line tree message type step =
    message_is find line tree (codes "ephemeral_op_errored") message type
    ∙ failed_step (of_text line (text_lines (text_or_nothing (codes "@message") tree))) (step_of tree) step

failed_provisioner : (other : Asked) (hook : Option Hook) → is_some hook ≡ true
    → unwrap_or (hook >>= of_provisioner stage.Errored) other ≡ only (mark.Failed ∷ [])
failed_provisioner other None is = absurd (false≢true is)
failed_provisioner other (Some named) is = refl

pub provisioner_row : (find : Bool) (line : List ℕ) (tree : Data) → message_of find line ≡ Some tree
    → text_of (codes "type") tree ≡ Some (codes "provision_errored") → is_some (hook_of tree) ≡ true → asked_by find line ≡ only (mark.Failed ∷ [])
provisioner_row find line tree message type hook =
    message_is find line tree (codes "provision_errored") message type
    ∙ failed_provisioner (of_text line (text_lines (text_or_nothing (codes "@message") tree))) (hook_of tree) hook
