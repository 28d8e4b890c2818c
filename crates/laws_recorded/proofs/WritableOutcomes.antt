-- The outcome of each step may be written: it is within the limits, and its texts are sound.
use Rattle.std.proofs.Common.{◌≡◌, All, List, [], ◌∷◌, true, arith}
use Rattle.std.specs.List.{AllByRecursion}
use Rattle.std.proofs.lemmas.List.Elements.{All-head, All-tail}
use Rattle.apply_model.specs.declared.details.note.Note.{Note}
use Rattle.apply_model.specs.declared.script.ending.Ending.{Ending}
use Rattle.apply_model.specs.declared.script.ending.Ending.TheVariants.{Done, Failed, Warned}
use Rattle.apply_model.specs.declared.script.outcome.Outcome.{Outcome}
use Rattle.apply_model.specs.declared.script.provisioner.Provisioner.{Provisioner}
use Rattle.apply_model.specs.Script.Outcome.{are_in_time}
use Rattle.stream_record_outcomes.proofs.Allowed.{outcome_allowed}
use Rattle.stream_record_outcomes.specs.declared.circumstances.Circumstances.{Circumstances}
use Rattle.stream_record_outcomes.specs.Outcome.{IsAllowed, outcome_of}
use Rattle.stream_record_outcomes.specs.Recording.{recorded_steps}
use Rattle.stream_record_steps.specs.Begun.{Begun}
use Rattle.stream_record_steps.specs.Steps.{PlannedStep}
use Rattle.laws_recorded.specs.Texts.{HasSoundEnding, HasSoundTexts, IsSoundProvisioner, IsWritableRecording}
use Rattle.laws_record.specs.Writable.{IsWritableDiag, IsWritableEnding, IsWritableOutcome, IsWritableProvisioner}
use Rattle.laws_recorded.proofs.BegunTexts.{IsSoundBegun}
use Rattle.laws_recorded.proofs.Deeper.{deeper_diag}
use Rattle.laws_recorded.proofs.EventTexts.{IsRecordedNote}
use Rattle.laws_check.proofs.MemberLists.{weaker}
use Rattle.laws_recorded.proofs.OutcomeTexts.{each_step, outcome_sound}

abbrev AreInTime : Provisioner → Type 0
AreInTime provisioner = are_in_time 0 provisioner.seconds provisioner.output ≡ true

writable_provisioners : (xs : List Provisioner) → AllByRecursion IsSoundProvisioner xs → All AreInTime xs → AllByRecursion IsWritableProvisioner xs
writable_provisioners [] h timely = tt
writable_provisioners (x ∷ xs) h timely =
    (record { name = h.0.name; output = h.0.output; in_time = All-head AreInTime x xs timely; failed = h.0.failed }, writable_provisioners xs h.1 (All-tail AreInTime x xs timely))

writable_ending : (ending : Ending) → HasSoundEnding ending → IsWritableEnding ending
writable_ending (Done id warning) h = (h.0, weaker (IsWritableDiag 119) (IsWritableDiag 121) warning (deeper_diag 119 121 (omega arith)) h.1)
writable_ending (Failed diag) h = deeper_diag 119 121 (omega arith) diag h
writable_ending (Warned diag) h = deeper_diag 119 121 (omega arith) diag h

writable_outcome : (step : PlannedStep) (outcome : Outcome) → IsAllowed step outcome → HasSoundTexts outcome → IsWritableOutcome outcome
writable_outcome step outcome allowed sound = record {
  bounded = allowed.bounded;
  ending = writable_ending outcome.result sound.ending;
  provisioners = writable_provisioners outcome.provisioners sound.provisioners allowed.outputs_in_time;
  alone = allowed.fails_alone;
}

pub steps_writable : (circumstances : Circumstances) (begun : Begun) (notes : List Note) → IsSoundBegun begun → AllByRecursion IsRecordedNote notes
    → AllByRecursion IsWritableRecording (recorded_steps circumstances begun notes)
steps_writable circumstances begun notes h known =
    each_step IsWritableOutcome
    (λ step limited begun own fits sound known. writable_outcome step (outcome_of step limited begun own) (outcome_allowed step limited begun own fits) (outcome_sound step limited begun own sound known))
    circumstances begun notes h known
