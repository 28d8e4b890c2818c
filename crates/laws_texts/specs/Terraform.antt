-- What two streams in Terraform's form have in common if they are the same.
use Rattle.std.specs.Prelude.{◌≡◌, ℕ, List, ◌++◌, Option}
use Rattle.std.specs.List.{list_any}
use Rattle.apply_model.specs.declared.details.note.Note.{Note}
use Rattle.apply_model.specs.Plan.SavedPlan.{SavedPlan}
use Rattle.apply_model.specs.Script.OutcomeMap.{OutcomeMap}
use Rattle.apply_events.specs.declared.event.Event.{Event}
use Rattle.apply_events.specs.Totals.{totals_of}
use Rattle.apply_text_terraform.specs.Message.{diagnostic_address, end_id}
use Rattle.apply_writer.specs.Stream.Terraform.{StreamExtras, is_error, planned_id_of}
use Rattle.laws_texts.specs.Alike.{IsShownAlike}
use Rattle.laws_texts.specs.Streams.{AreNotHalted, AreSame, notes_told}

-- The message of the event shows the same in Terraform's form. `planned` is the id that the plan
-- gives.
abbrev pub IsToldAlike : SavedPlan → (one other : OutcomeMap) → (planned : Option (List ℕ)) → Event → Type 0
IsToldAlike plan one other planned event = IsShownAlike (λ kind ending. end_id kind ending planned) plan one other event

-- The diagnostics of the steps, then those of no step.
abbrev pub all_notes : SavedPlan → OutcomeMap → StreamExtras → List Event → List Note
all_notes plan script extras events = notes_told diagnostic_address plan script events ++ extras.notes

-- What both scripts state beyond the steps is the same, but for the diagnostics of no step.
pub record AreExtrasAlike (one other : StreamExtras) : Type 0 where
  pub details : other.details ≡ one.details
  pub outputs : other.outputs ≡ one.outputs

-- Both streams have the same hook messages and the same diagnostics, and no hook halts a step. If
-- no step fails, both have an error of no step, or neither has one.
pub record AreSameStreams (plan : SavedPlan) (one other : OutcomeMap) (extras other_extras : StreamExtras)
    (events others : List Event) : Type 0 where
  pub beyond : AreExtrasAlike extras other_extras
  pub messages : AreSame (λ event. IsToldAlike plan one other (planned_id_of extras.details event.change) event) events others
  pub not_halted : AreNotHalted events
  pub others_not_halted : AreNotHalted others
  pub notes : all_notes plan other other_extras others ≡ all_notes plan one extras events
  pub errors : (totals_of plan events).failed ≡ 0 → list_any is_error other_extras.notes ≡ list_any is_error extras.notes
