-- The lines of hook messages in Terraform's form are the same for outcomes that show the same.
use Rattle.std.proofs.Common.{◌≡◌, ℕ, ◌+◌, cond, List, [], Option, Some, None, false, true≢false, refl, ap, ◌∙◌}
use Rattle.apply_model.specs.declared.plan.step_kind.StepKind.{StepKind}
use Rattle.apply_model.specs.declared.script.outcome.Outcome.{Outcome}
use Rattle.apply_model.specs.Plan.ResourceChange.{ResourceChange}
use Rattle.apply_model.specs.Plan.SavedPlan.{SavedPlan}
use Rattle.apply_model.specs.Script.OutcomeMap.{OutcomeMap, outcome_of}
use Rattle.apply_events.specs.declared.event.Event.{Event}
use Rattle.apply_events.specs.declared.what.What.{What}
use Rattle.apply_events.specs.declared.what.What.TheVariants.{Start, Progress, Complete, Errored, ErrorNote, WarnNote, Halted, ProvisionStart, ProvisionOutput, ProvisionComplete, ProvisionErrored}
use Rattle.apply_events.specs.Diagnostics.{is_note}
use Rattle.apply_text.specs.Message.{complete_message, name_of, output_of, provision_complete_message, provision_errored_message, provision_output_message, provision_start_message}
use Rattle.apply_text_terraform.specs.Lines.{event_line, event_text, message_line}
use Rattle.apply_text_terraform.specs.Message.{end_id, is_silent, with_body}
use Rattle.apply_text_terraform.specs.Objects.{hook_object, provisioner_object}
use Rattle.laws_texts.specs.Alike.{ShowsTheSame}
use Rattle.laws_texts.specs.Terraform.{IsToldAlike}
use Rattle.laws_texts.proofs.LookedUp.{same_text}
use Rattle.laws_texts.proofs.RunAlike.{same_name, same_output}

same_event : (seconds : ℕ) (change : ResourceChange) (kind : StepKind) (one other : Outcome) (planned : Option (List ℕ)) (what : What) → is_note what ≡ false
    → ShowsTheSame (λ ending. end_id kind ending planned) one other what
    → event_line seconds change kind other planned what ≡ event_line seconds change kind one planned what
same_event seconds change kind one other planned Start hook h = refl
same_event seconds change kind one other planned (Progress n) hook h = refl
same_event seconds change kind one other planned (Complete n) hook h =
    ap (λ id. message_line seconds (with_body (complete_message change kind n id) (hook_object change kind (Some n) id))) (h.id refl)
same_event seconds change kind one other planned (Errored n) hook h = refl
same_event seconds change kind one other planned ErrorNote hook h = absurd (true≢false hook)
same_event seconds change kind one other planned WarnNote hook h = absurd (true≢false hook)
same_event seconds change kind one other planned (Halted phase number) hook h = absurd (true≢false hook)
same_event seconds change kind one other planned (ProvisionStart i) hook h =
    ap (λ name. message_line seconds (with_body (provision_start_message change name) (provisioner_object change name None))) (same_name one other i h.runs h.named)
same_event seconds change kind one other planned (ProvisionOutput i line) hook h =
    ap (λ name. message_line seconds (with_body (provision_output_message change name (output_of other i line)) (provisioner_object change name (Some (output_of other i line)))))
    (same_name one other i h.runs h.named)
    ∙ ap (λ text. message_line seconds (with_body (provision_output_message change (name_of one i) text) (provisioner_object change (name_of one i) (Some text))))
    (same_output one other i line h.runs h.named)
same_event seconds change kind one other planned (ProvisionComplete i) hook h =
    ap (λ name. message_line seconds (with_body (provision_complete_message change name) (provisioner_object change name None))) (same_name one other i h.runs h.named)
same_event seconds change kind one other planned (ProvisionErrored i) hook h =
    ap (λ name. message_line seconds (with_body (provision_errored_message change name) (provisioner_object change name None))) (same_name one other i h.runs h.named)

pub same_line : (plan : SavedPlan) (one other : OutcomeMap) (start clock : ℕ) (planned : Option (List ℕ)) (e : Event) → is_note e.what ≡ false
    → IsToldAlike plan one other planned e → event_text plan other start clock planned e ≡ event_text plan one start clock planned e
same_line plan one other start clock planned e hook h =
    same_text plan e.change e.step
    (λ change kind. cond (is_silent kind e.what) [] (event_line (start + clock) change kind (outcome_of one e.change e.step) planned e.what))
    (λ change kind. cond (is_silent kind e.what) [] (event_line (start + clock) change kind (outcome_of other e.change e.step) planned e.what))
    (λ change kind is. ap (λ line. cond (is_silent kind e.what) [] line)
    (same_event (start + clock) change kind (outcome_of one e.change e.step) (outcome_of other e.change e.step) planned e.what hook (h kind is)))
