-- The lines of hook messages in the default form are the same for outcomes that show the same.
use Rattle.std.proofs.Common.{◌≡◌, ℕ, ◌+◌, false, true≢false, refl, ap, ◌∙◌}
use Rattle.apply_model.specs.declared.plan.step_kind.StepKind.{StepKind}
use Rattle.apply_model.specs.declared.script.outcome.Outcome.{Outcome}
use Rattle.apply_model.specs.Plan.ResourceChange.{ResourceChange}
use Rattle.apply_model.specs.Plan.SavedPlan.{SavedPlan}
use Rattle.apply_model.specs.Script.OutcomeMap.{OutcomeMap, outcome_of}
use Rattle.apply_events.specs.declared.event.Event.{Event}
use Rattle.apply_events.specs.declared.what.What.{What}
use Rattle.apply_events.specs.declared.what.What.TheVariants.{Start, Progress, Complete, Errored, ErrorNote, WarnNote, Halted, ProvisionStart, ProvisionOutput, ProvisionComplete, ProvisionErrored}
use Rattle.apply_events.specs.Diagnostics.{is_note}
use Rattle.apply_text.specs.Lines.{event_text, message_line}
use Rattle.apply_text.specs.Message.{complete_message, end_id, event_message, name_of, output_of, provision_complete_message, provision_errored_message, provision_output_message, provision_start_message}
use Rattle.laws_texts.specs.Alike.{IsToldAlike, ShowsTheSame}
use Rattle.laws_texts.proofs.LookedUp.{same_text}
use Rattle.laws_texts.proofs.RunAlike.{same_name, same_output}

same_message : (change : ResourceChange) (kind : StepKind) (one other : Outcome) (what : What) → is_note what ≡ false
    → ShowsTheSame (end_id kind) one other what → event_message change kind other what ≡ event_message change kind one what
same_message change kind one other Start hook h = refl
same_message change kind one other (Progress seconds) hook h = refl
same_message change kind one other (Complete seconds) hook h = ap (complete_message change kind seconds) (h.id refl)
same_message change kind one other (Errored seconds) hook h = refl
same_message change kind one other ErrorNote hook h = absurd (true≢false hook)
same_message change kind one other WarnNote hook h = absurd (true≢false hook)
same_message change kind one other (Halted phase number) hook h = absurd (true≢false hook)
same_message change kind one other (ProvisionStart i) hook h = ap (provision_start_message change) (same_name one other i h.runs h.named)
same_message change kind one other (ProvisionOutput i line) hook h =
    ap (λ name. provision_output_message change name (output_of other i line)) (same_name one other i h.runs h.named)
    ∙ ap (provision_output_message change (name_of one i)) (same_output one other i line h.runs h.named)
same_message change kind one other (ProvisionComplete i) hook h = ap (provision_complete_message change) (same_name one other i h.runs h.named)
same_message change kind one other (ProvisionErrored i) hook h = ap (provision_errored_message change) (same_name one other i h.runs h.named)

pub same_line : (plan : SavedPlan) (one other : OutcomeMap) (start clock : ℕ) (e : Event) → is_note e.what ≡ false
    → IsToldAlike plan one other e → event_text plan other start clock e ≡ event_text plan one start clock e
same_line plan one other start clock e hook h =
    same_text plan e.change e.step
    (λ change kind. message_line (start + clock) (event_message change kind (outcome_of one e.change e.step) e.what))
    (λ change kind. message_line (start + clock) (event_message change kind (outcome_of other e.change e.step) e.what))
    (λ change kind is. ap (message_line (start + clock))
    (same_message change kind (outcome_of one e.change e.step) (outcome_of other e.change e.step) e.what hook (h kind is)))
