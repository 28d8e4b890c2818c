-- What the object of each hook event states, in both forms.
use Rattle.std.proofs.Common.{◌≡◌, ◌≢◌, ℕ, List, [], ◌∷◌, codes, false, Option, Some, None, refl, ap, ◌∙◌}
use Rattle.apply_model.specs.declared.plan.step_kind.StepKind.{StepKind}
use Rattle.apply_model.specs.Plan.ResourceChange.{ResourceChange}
use Rattle.apply_model.specs.Script.OutcomeMap.{outcome_of}
use Rattle.apply_events.specs.Diagnostics.{is_note}
use Rattle.apply_events.specs.declared.what.What.{What}
use Rattle.apply_events.specs.declared.what.What.TheVariants.{Start, Progress, Complete, Errored, ErrorNote, WarnNote, Halted, ProvisionStart, ProvisionOutput, ProvisionComplete, ProvisionErrored}
use Rattle.apply_text.specs.Message.{complete_message, end_id, event_message, name_of, output_of, provision_message, start_id}
use Rattle.stream_record_lines.specs.declared.provisioner.ProvisionerStage.TheVariants as provisioner_stage
use Rattle.stream_record_lines.specs.declared.step.StepStage.TheVariants as step_stage
use Rattle.stream_record_lines.specs.Messages.{message_of}
use Rattle.laws_lines.specs.Stated.{IsNamed}
use Rattle.laws_begun.specs.Telling.{Telling, id_key, line_of, provisioner_line, step_line}
use Rattle.laws_lines.proofs.HookMessages.{at, complete_is, errored_is, object_at, progress_is, provision_complete_is, provision_errored_is, provision_output_is, provision_start_is, start_is}

module _ (raw : List ℕ) (change : ResourceChange) (moment : List ℕ) where
  pub named_start : (name text : List ℕ) → name ≢ []
      → message_of raw (object_at moment (provision_message change name text None (codes "provision_start"))) ≡ Some (at moment (provisioner_line change name provisioner_stage.Began))
  named_start [] text filled = absurd (filled refl)
  named_start (byte ∷ bytes) text filled = provision_start_is raw change moment byte bytes text

  pub named_output : (name text output : List ℕ) → name ≢ []
      → message_of raw (object_at moment (provision_message change name text (Some output) (codes "provision_progress"))) ≡ Some (at moment (provisioner_line change name (provisioner_stage.Wrote output)))
  named_output [] text output filled = absurd (filled refl)
  named_output (byte ∷ bytes) text output filled = provision_output_is raw change moment byte bytes text output

  pub named_complete : (name text : List ℕ) → name ≢ []
      → message_of raw (object_at moment (provision_message change name text None (codes "provision_complete"))) ≡ Some (at moment (provisioner_line change name provisioner_stage.Ended))
  named_complete [] text filled = absurd (filled refl)
  named_complete (byte ∷ bytes) text filled = provision_complete_is raw change moment byte bytes text

  pub named_errored : (name text : List ℕ) → name ≢ []
      → message_of raw (object_at moment (provision_message change name text None (codes "provision_errored"))) ≡ Some (at moment (provisioner_line change name provisioner_stage.Failed))
  named_errored [] text filled = absurd (filled refl)
  named_errored (byte ∷ bytes) text filled = provision_errored_is raw change moment byte bytes text

  -- an end with this id
  pub end_says : (telling : Telling) (kind : StepKind) (c k seconds : ℕ) (id : Option (List ℕ)) → id ≡ telling.id c k
      → message_of raw (object_at moment (complete_message change kind seconds id)) ≡ Some (at moment (line_of telling change kind c k (Complete seconds)))
  end_says telling kind c k seconds id same =
      complete_is raw change moment kind _ seconds id ∙ ap (λ (id : Option (List ℕ)). Some (at moment (step_line change kind (step_stage.Completed seconds (id_key id) id)))) same

  -- each hook event; the id of an end differs between the forms
  pub hook_says : (telling : Telling) (kind : StepKind) (c k : ℕ) (what : What) → is_note what ≡ false → IsNamed (outcome_of telling.script c k) what
      → end_id kind (outcome_of telling.script c k).result ≡ telling.id c k
      → message_of raw (object_at moment (event_message change kind (outcome_of telling.script c k) what)) ≡ Some (at moment (line_of telling change kind c k what))
  hook_says telling kind c k Start hook named same = start_is raw change moment kind _ (start_id kind change)
  hook_says telling kind c k (Progress s) hook named same = progress_is raw change moment kind _ s
  hook_says telling kind c k (Complete s) hook named same = end_says telling kind c k s (end_id kind (outcome_of telling.script c k).result) same
  hook_says telling kind c k (Errored s) hook named same = errored_is raw change moment kind _ s
  hook_says telling kind c k ErrorNote hook named same = absurd cc
  hook_says telling kind c k WarnNote hook named same = absurd cc
  hook_says telling kind c k (Halted phase i) hook named same = absurd cc
  hook_says telling kind c k (ProvisionStart i) hook named same = named_start (name_of (outcome_of telling.script c k) i) _ named
  hook_says telling kind c k (ProvisionOutput i line) hook named same = named_output (name_of (outcome_of telling.script c k) i) _ (output_of (outcome_of telling.script c k) i line) named
  hook_says telling kind c k (ProvisionComplete i) hook named same = named_complete (name_of (outcome_of telling.script c k) i) _ named
  hook_says telling kind c k (ProvisionErrored i) hook named same = named_errored (name_of (outcome_of telling.script c k) i) _ named
