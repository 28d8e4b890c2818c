-- The steps of the plan stay the same while a stream is read.
use Rattle.std.proofs.Common.{◌≡◌, ◌∙◌, ℕ, ℤ, Bool, List, Option, Some, None, Ok, Err, refl, subst}
use Rattle.std.specs.Prelude.{Result}
use Rattle.std.specs.Option.{option_map_or}
use Rattle.apply_model.specs.declared.plan.step_kind.StepKind.{StepKind}
use Rattle.apply_model.specs.Plan.SavedPlan.{SavedPlan}
use Rattle.stream_record_lines.specs.Lines.{stated_line}
use Rattle.stream_record_lines.specs.declared.event.Event.{Event}
use Rattle.stream_record_lines.specs.declared.event.Event.TheVariants as event
use Rattle.stream_record_lines.specs.declared.stated_line.StatedLine.{StatedLine}
use Rattle.stream_record_lines.specs.declared.stated_line.StatedLine.TheVariants.{Foreign, NoMessage, Message}
use Rattle.stream_record_lines.specs.declared.stated_message.StatedMessage.{StatedMessage}
use Rattle.stream_record_lines.specs.declared.step.StepStage.{StepStage}
use Rattle.stream_record_lines.specs.declared.step.StepStage.TheVariants as stage
use Rattle.stream_record_lines.specs.declared.summary.Summary.{Summary}
use Rattle.stream_record_lines.specs.declared.summary.Summary.TheVariants as sums
use Rattle.stream_record_steps.specs.declared.begun_step.StepEnd.{StepEnd}
use Rattle.stream_record_steps.specs.declared.step_facts.StepFact.{StepFact}
use Rattle.stream_record_steps.specs.Begun.{Begun}
use Rattle.stream_record_steps.specs.Starts.{after_start_of}
use Rattle.stream_record_steps.specs.Steps.{planned_steps}
use Rattle.stream_record_steps.specs.Taken.{after_stage}
use Rattle.stream_record_steps.specs.UnderWay.{after_end, after_fact}
use Rattle.stream_record_stream.specs.Reading.{Known, repeated, with_line, with_mark, with_message, with_stated}
use Rattle.stream_record_stream.specs.Streams.{StreamRead, with_event, with_second, with_summary}

-- they are those of the plan
abbrev pub IsOfPlan : SavedPlan → StreamRead → Type 0
IsOfPlan plan stream = stream.begun.planned ≡ planned_steps plan.changes

fact_keeps : (line : ℕ) (fact : StepFact) (place : Option ℕ) (begun : Begun) → (after_fact line fact place begun).planned ≡ begun.planned
fact_keeps line fact None begun = refl
fact_keeps line fact (Some place) begun = refl

end_keeps : (end : StepEnd) (place : Option ℕ) (begun : Begun) → (after_end end place begun).planned ≡ begun.planned
end_keeps end None begun = refl
end_keeps end (Some place) begun = refl

start_keeps : (line : ℕ) (second : ℤ) (kind : StepKind) (address : List ℕ) (place : Option ℕ) (begun : Begun)
    → (after_start_of line second kind address place begun).planned ≡ begun.planned
start_keeps line second kind address None begun = refl
start_keeps line second kind address (Some place) begun = refl

stage_keeps : (line : ℕ) (second : ℤ) (kind : StepKind) (address : List ℕ) (now : StepStage) (begun : Begun)
    → (after_stage line second kind address now begun).planned ≡ begun.planned
stage_keeps line second kind address (stage.Began id) begun = start_keeps line second kind address _ _
stage_keeps line second kind address (stage.Progress seconds) begun = fact_keeps line _ _ begun
stage_keeps line second kind address (stage.Completed seconds id_key id) begun = end_keeps _ _ begun
stage_keeps line second kind address (stage.Failed seconds) begun = end_keeps _ _ begun

summary_keeps : (plan : SavedPlan) (summary : Summary) (stream : StreamRead) → IsOfPlan plan stream → IsOfPlan plan (with_summary plan summary stream)
summary_keeps plan sums.Plan stream is = refl
summary_keeps plan sums.Apply stream is = is
summary_keeps plan sums.Destroy stream is = is

event_keeps : (plan : SavedPlan) (line : ℕ) (stated : Event) (stream : StreamRead) → IsOfPlan plan stream → IsOfPlan plan (with_event plan line stated stream)
event_keeps plan line (event.Version ui) stream is = is
event_keeps plan line (event.Step step) stream is = stage_keeps line stream.last_second step.kind step.address step.stage stream.begun ∙ is
event_keeps plan line (event.Provisioner provisioner) stream is = fact_keeps line _ _ stream.begun ∙ is
event_keeps plan line event.Ephemeral stream is = is
event_keeps plan line (event.Diagnostic note) stream is = is
event_keeps plan line (event.Summary summary) stream is = summary_keeps plan summary stream is
event_keeps plan line (event.Outputs outputs) stream is = is
event_keeps plan line event.Malformed stream is = is
event_keeps plan line event.Other stream is = is

read : {A E : Type 0} (made : Result A E) (a b : A) → made ≡ Ok a → made ≡ Ok b → a ≡ b
read made a b one other = cc

message_keeps : (plan : SavedPlan) (number : ℕ) (message : StatedMessage) (known new : Known) (again : Option ℕ) → IsOfPlan plan known.stream
    → option_map_or Err again (Ok (with_message plan number message known)) ≡ Ok new → IsOfPlan plan new.stream
message_keeps plan number message known new None is same =
    subst (λ (k : Known). IsOfPlan plan k.stream) (read _ (with_message plan number message known) new refl same)
    (event_keeps plan number message.event (with_second message.second known.stream) is)
message_keeps plan number message known new (Some first) is same = cc

stated_keeps : (plan : SavedPlan) (number : ℕ) (line : StatedLine) (known new : Known) → IsOfPlan plan known.stream → with_stated plan number line known ≡ Ok new
    → IsOfPlan plan new.stream
stated_keeps plan number Foreign known new is same = subst (λ (k : Known). IsOfPlan plan k.stream) (read _ known new refl same) is
stated_keeps plan number NoMessage known new is same = subst (λ (k : Known). IsOfPlan plan k.stream) (read _ _ new refl same) is
stated_keeps plan number (Message message) known new is same = message_keeps plan number message known new (repeated message known) is same

-- a line more
pub line_keeps : (plan : SavedPlan) (find : Bool) (number : ℕ) (line : List ℕ) (known new : Known) → IsOfPlan plan known.stream
    → with_line plan find number line known ≡ Ok new → IsOfPlan plan new.stream
line_keeps plan find number line known new is same = stated_keeps plan number (stated_line find line) (with_mark line known) new is same
