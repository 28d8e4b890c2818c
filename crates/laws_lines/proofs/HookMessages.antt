-- What the object of a hook message states.
use Rattle.std.proofs.Common.{◌≡◌, ℕ, List, ◌∷◌, codes, Option, Some, None, option_map, refl}
use Rattle.serde_json.specs.Data.{Data}
use Rattle.apply_model.specs.declared.plan.step_kind.StepKind.{StepKind}
use Rattle.apply_model.specs.declared.plan.step_kind.StepKind.TheVariants.{Create, Update, Delete, Read}
use Rattle.apply_model.specs.Plan.ResourceChange.{ResourceChange}
use Rattle.apply_text.specs.Lines.{message_object, typed}
use Rattle.apply_text.specs.Message.{Message, hook_message, provision_message}
use Rattle.apply_text.specs.Objects.{hook_object, provisioner_object, resource_object}
use Rattle.stream_message.specs.Timestamp.{instant_of}
use Rattle.stream_record_lines.specs.declared.event.Event.{Event}
use Rattle.stream_record_lines.specs.declared.provisioner.ProvisionerStage.TheVariants as provisioner_stage
use Rattle.stream_record_lines.specs.declared.stated_message.StatedMessage.{StatedMessage}
use Rattle.stream_record_lines.specs.declared.step.StepStage.TheVariants as step_stage
use Rattle.stream_record_lines.specs.Messages.{message_of}
use Rattle.stream_record_lines.specs.Seconds.{nearest_second}
use Rattle.laws_begun.specs.Telling.{id_key, provisioner_line, step_line}

-- the object of a message, with this text for its timestamp
abbrev pub object_at : (moment : List ℕ) → Message → Data
object_at moment message = message_object message.level message.text moment (typed message.name message.body message.type_name)

-- an event at the timestamp
abbrev pub at : (moment : List ℕ) → Event → StatedMessage
at moment event = record { second = option_map nearest_second (instant_of moment); event = event }

module _ (raw : List ℕ) (change : ResourceChange) (moment : List ℕ) where
  pub start_is : (kind : StepKind) (text : List ℕ) (id : Option (List ℕ))
      → message_of raw (object_at moment (hook_message change kind text None id (codes "apply_start"))) ≡ Some (at moment (step_line change kind (step_stage.Began id)))
  unfolding message_object hook_object resource_object
  start_is Create text None = refl
  start_is Update text None = refl
  start_is Delete text None = refl
  start_is Read text None = refl
  start_is Create text (Some id) = refl
  start_is Update text (Some id) = refl
  start_is Delete text (Some id) = refl
  start_is Read text (Some id) = refl

  pub progress_is : (kind : StepKind) (text : List ℕ) (elapsed : ℕ)
      → message_of raw (object_at moment (hook_message change kind text (Some elapsed) None (codes "apply_progress"))) ≡ Some (at moment (step_line change kind (step_stage.Progress elapsed)))
  unfolding message_object hook_object resource_object
  progress_is Create text elapsed = refl
  progress_is Update text elapsed = refl
  progress_is Delete text elapsed = refl
  progress_is Read text elapsed = refl

  pub complete_is : (kind : StepKind) (text : List ℕ) (elapsed : ℕ) (id : Option (List ℕ))
      → message_of raw (object_at moment (hook_message change kind text (Some elapsed) id (codes "apply_complete")))
      ≡ Some (at moment (step_line change kind (step_stage.Completed elapsed (id_key id) id)))
  unfolding message_object hook_object resource_object
  complete_is Create text elapsed None = refl
  complete_is Update text elapsed None = refl
  complete_is Delete text elapsed None = refl
  complete_is Read text elapsed None = refl
  complete_is Create text elapsed (Some id) = refl
  complete_is Update text elapsed (Some id) = refl
  complete_is Delete text elapsed (Some id) = refl
  complete_is Read text elapsed (Some id) = refl

  pub errored_is : (kind : StepKind) (text : List ℕ) (elapsed : ℕ)
      → message_of raw (object_at moment (hook_message change kind text (Some elapsed) None (codes "apply_errored"))) ≡ Some (at moment (step_line change kind (step_stage.Failed elapsed)))
  unfolding message_object hook_object resource_object
  errored_is Create text elapsed = refl
  errored_is Update text elapsed = refl
  errored_is Delete text elapsed = refl
  errored_is Read text elapsed = refl

  -- an empty name would be read as `?`
  pub provision_start_is : (byte : ℕ) (bytes text : List ℕ)
      → message_of raw (object_at moment (provision_message change (byte ∷ bytes) text None (codes "provision_start")))
      ≡ Some (at moment (provisioner_line change (byte ∷ bytes) provisioner_stage.Began))
  unfolding message_object provisioner_object resource_object
  provision_start_is byte bytes text = refl

  pub provision_output_is : (byte : ℕ) (bytes text output : List ℕ)
      → message_of raw (object_at moment (provision_message change (byte ∷ bytes) text (Some output) (codes "provision_progress")))
      ≡ Some (at moment (provisioner_line change (byte ∷ bytes) (provisioner_stage.Wrote output)))
  unfolding message_object provisioner_object resource_object
  provision_output_is byte bytes text output = refl

  pub provision_complete_is : (byte : ℕ) (bytes text : List ℕ)
      → message_of raw (object_at moment (provision_message change (byte ∷ bytes) text None (codes "provision_complete")))
      ≡ Some (at moment (provisioner_line change (byte ∷ bytes) provisioner_stage.Ended))
  unfolding message_object provisioner_object resource_object
  provision_complete_is byte bytes text = refl

  pub provision_errored_is : (byte : ℕ) (bytes text : List ℕ)
      → message_of raw (object_at moment (provision_message change (byte ∷ bytes) text None (codes "provision_errored")))
      ≡ Some (at moment (provisioner_line change (byte ∷ bytes) provisioner_stage.Failed))
  unfolding message_object provisioner_object resource_object
  provision_errored_is byte bytes text = refl
