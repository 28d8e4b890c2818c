-- What two time lines of works without hooks have in common if their streams are the same.
use Rattle.std.specs.Prelude.{◌≡◌, true, false, ℕ, List, [], ◌++◌, slice_get, map, Option, Some, filter_map}
use Rattle.apply_model.specs.declared.details.note.Note.{Note}
use Rattle.apply_model.specs.declared.plan.step_kind.StepKind.{StepKind}
use Rattle.apply_model.specs.declared.script.ending.Ending.{Ending}
use Rattle.apply_model.specs.declared.script.outcome.Outcome.{Outcome}
use Rattle.apply_model.specs.Plan.ResourceChange.{ResourceChange}
use Rattle.apply_model.specs.Plan.SavedPlan.{SavedPlan}
use Rattle.apply_model.specs.Script.Outcome as plain
use Rattle.apply_model.specs.Script.Outcome.{fails, is_warned, ran}
use Rattle.apply_model.specs.Script.OutcomeMap.{OutcomeMap, outcome_of}
use Rattle.apply_events.specs.declared.event.Event.{Event}
use Rattle.apply_events.specs.Step.{Work, kinds_of}
use Rattle.apply_events.specs.Waits.Schedule.{schedule}
use Rattle.apply_events.specs.Waits.TimeLine.{IsTimeLine}
use Rattle.apply_text.specs.Order.{hook_messages_of}
use Rattle.apply_text_terraform.specs.Message as terraform
use Rattle.apply_text_terraform.specs.Message.{diagnostic_address}
use Rattle.apply_writer.specs.Stream.Terraform.{StreamExtras, planned_id_of}
use Rattle.laws_lanes.specs.Alike.{RunAlike, is_begun}
use Rattle.laws_texts.specs.Notes.{ends_of}
use Rattle.laws_texts.specs.Streams.{plain_address, told_after, without_place}
use Rattle.laws_texts.specs.Terraform.{AreExtrasAlike}

-- ---- hook messages

-- The provisioners of both outcomes run alike, and both have an end. `id_of` is the id that the end
-- of a step that succeeds reports, and it is the same.
pub record EndsAlike (id_of : Ending → Option (List ℕ)) (one other : Outcome) : Type 0 where
  pub runs : RunAlike (ran one.provisioners) (ran other.provisioners)
  pub id : fails one ≡ false → id_of other.result ≡ id_of one.result
  pub ends : is_warned one.result ≡ false
  pub other_ends : is_warned other.result ≡ false

-- The time lines of two works without hooks have the same hook messages, and each step that begins
-- ends alike. `id_of` is the id that the end of a step of change c shows, if it is of that kind.
pub record AreSameMessages (id_of : (c : ℕ) → StepKind → Ending → Option (List ℕ)) (work other : Work) (n m : ℕ) (events others : List Event) : Type 0 where
  pub no_hooks : work.hooks ≡ []
  pub others_no_hooks : other.hooks ≡ []
  pub line : IsTimeLine work n events
  pub others_line : IsTimeLine other m others
  pub hooks : hook_messages_of others ≡ hook_messages_of events
  pub alike : (c k : ℕ) (kind : StepKind) → is_begun work (schedule work n) c k ≡ true → slice_get (kinds_of work.plan c) k ≡ Some kind
      → EndsAlike (id_of c kind) (outcome_of work.script c k) (outcome_of other.script c k)

-- ---- streams

-- The diagnostics of the steps that end, in the order of their ends.
abbrev pub notes_by_ends : (address : ResourceChange → StepKind → Outcome → Option (List ℕ)) → SavedPlan → OutcomeMap → List Event → List Note
notes_by_ends address plan script events = filter_map (told_after address plan script) (ends_of (hook_messages_of events))

-- What makes both streams the same in the default form.
pub record AreSamePlain (work other : Work) (n m : ℕ) (events others : List Event) : Type 0 where
  pub messages : AreSameMessages (λ c kind ending. plain.end_id kind ending) work other n m events others
  pub notes : map without_place (notes_by_ends plain_address work.plan other.script events)
      ≡ map without_place (notes_by_ends plain_address work.plan work.script events)

-- What makes both streams the same in Terraform's form. The diagnostics of the steps, then those of
-- no step, are the same list in both.
pub record AreSameTerraform (work other : Work) (extras other_extras : StreamExtras) (n m : ℕ) (events others : List Event) : Type 0 where
  pub beyond : AreExtrasAlike extras other_extras
  pub messages : AreSameMessages (λ c kind ending. terraform.end_id kind ending (planned_id_of extras.details c)) work other n m events others
  pub notes : notes_by_ends diagnostic_address work.plan other.script events ++ other_extras.notes
      ≡ notes_by_ends diagnostic_address work.plan work.script events ++ extras.notes
