-- A run does not depend on the values of sensitive outputs.
use Rattle.std.proofs.Common.{◌≡◌, ℕ, List, ◌++◌, Option, Some, None, sym, ap, ap₂, ◌∙◌, subst}
use Rattle.std.specs.Io.KnownBytes.{Appends}
use Rattle.apply_hooks.specs.declared.rule.Rule.{Rule}
use Rattle.apply_model.specs.Plan.SavedPlan.{SavedPlan}
use Rattle.apply_model.specs.Script.OutcomeMap.{OutcomeMap}
use Rattle.apply_events.specs.declared.event.Event.{Event}
use Rattle.apply_events.specs.Step.{Work}
use Rattle.apply_events.specs.Waits.TimeLine.{IsTimeLine}
use Rattle.apply_text.specs.declared.operation.Operation.{Operation}
use Rattle.apply_text_terraform.specs.declared.form.Form.TheVariants.{Terraform}
use Rattle.apply_model.specs.declared.details.note.Note.{Note}
use Rattle.apply_run.specs.declared.form_report.FormReport.{FormReport}
use Rattle.apply_writer.specs.declared.fault.Fault.{Fault}
use Rattle.apply_run.specs.declared.refusal.Refusal.TheVariants as refusal
use Rattle.apply_run.specs.Bytes.{Inputs}
use Rattle.apply_run.specs.FromBytes.{WasRefusedBy, WasReportedBy, form_for, work_for}
use Rattle.apply_run.specs.Read.{IsStated, StatedInputs}
use Rattle.apply_run.specs.Run.{HasFailedBy, HasStreamedBy, SinkState}
use Rattle.apply_run.specs.Schedule.{InLanes, KeepsWaits, Schedule}
use Rattle.apply_writer.specs.Stream.Form.{StreamForm, stream_in}
use Rattle.apply_writer.specs.Stream.Terraform.{contains_error}
use Rattle.laws_run.specs.Sensitive.{AreReadAlike, DifferInSecrets}
use Rattle.laws_run.proofs.SecretBytes.{read_alike}
use Rattle.laws_run.proofs.SecretStreams.{forms, notes_same, plans, scripts}

abbrev with_hooks : SavedPlan → OutcomeMap → List (List Rule) → Work
with_hooks plan script hooks = record { plan = plan; script = script; hooks = hooks }

work_same : (one other : Inputs) (stated same : StatedInputs) → one.hooks ≡ other.hooks → AreReadAlike stated same → work_for Terraform one stated ≡ work_for Terraform other same
work_same one other stated same hooks alike =
    ap₂ (λ (p : SavedPlan) (s : OutcomeMap). with_hooks p s one.hooks) (plans stated same alike) (scripts stated same alike)
    ∙ ap (λ (h : List (List Rule)). with_hooks (work_for Terraform other same).plan (work_for Terraform other same).script h) hooks

-- what holds of a form and of what is applied
moved : (P : StreamForm → Work → Type 0) (one other : Inputs) (stated same : StatedInputs) (start : ℕ) (operation : Operation) → one.hooks ≡ other.hooks → AreReadAlike stated same
    → P (form_for Terraform stated start operation) (work_for Terraform one stated) → P (form_for Terraform same start operation) (work_for Terraform other same)
moved P one other stated same start operation hooks alike holds =
    subst (P (form_for Terraform same start operation)) (work_same one other stated same hooks alike)
    (subst (λ (form : StreamForm). P form (work_for Terraform one stated)) (forms stated same alike start operation) holds)

module _ (one other : Inputs) (same : StatedInputs) (differ : DifferInSecrets one other) (is_stated : IsStated other.plan other.script same)
    (schedule : Schedule) (start : ℕ) (operation : Operation) where
  pub applied : (report : FormReport) (before after : SinkState) → WasReportedBy schedule Terraform one start operation report before after
      → WasReportedBy schedule Terraform other start operation report before after
  applied report before after was =
      let stated = was.applied.read in
      let alike = read_alike one other stated same differ was.applied.is_read is_stated in
      record {
        applied = record {
          read = same;
          is_read = is_stated;
          sizes = was.applied.sizes;
          streamed = moved (λ form work. HasStreamedBy schedule form work report.run before after) one other stated same start operation differ.hooks alike was.applied.streamed;
          keeps = subst (KeepsWaits schedule) alike.script was.applied.keeps;
        };
        error = was.error ∙ ap (λ (notes : List Note). contains_error notes report.run.counts) (notes_same stated same alike);
      }

  pub failed : (fault : Fault) (before after : SinkState) → WasRefusedBy schedule Terraform one start operation (refusal.Fault fault) before after
      → WasRefusedBy schedule Terraform other start operation (refusal.Fault fault) before after
  failed fault before after was =
      let alike = read_alike one other was.0 same differ was.1 is_stated in (
        same,
        is_stated,
        was.2,
        moved (λ form work. HasFailedBy fault.why schedule form work fault.report before after) one other was.0 same start operation differ.hooks alike was.3,
        subst (KeepsWaits schedule) alike.script was.4,
      )

-- ---- the same bytes

abbrev some : List ℕ → Option (List ℕ)
some x = Some x

-- after the same bytes come the same bytes
appended_same : (bytes more others : List ℕ) (after same : Option (List ℕ)) → more ≡ others → Appends (Some bytes) after more → Appends (Some bytes) same others → after ≡ same
appended_same bytes more others None same is one other = absurd one
appended_same bytes more others (Some xs) None is one other = absurd other
appended_same bytes more others (Some xs) (Some ys) is one other = ap (λ (l : List ℕ). some l) (one ∙ ap (λ (l : List ℕ). bytes ++ l) is ∙ sym other)

pub same_bytes : ((work : Work) (n : ℕ) (first second : List Event) → IsTimeLine work n first → IsTimeLine work n second → first ≡ second)
    → (one other : Inputs) (lanes start : ℕ) (operation : Operation) (first second : FormReport) (bytes : List ℕ) (before after same : SinkState) → DifferInSecrets one other → before.bytes ≡ Some bytes
    → WasReportedBy (InLanes lanes) Terraform one start operation first before after → WasReportedBy (InLanes lanes) Terraform other start operation second before same → after.bytes ≡ same.bytes
unfolding applied
same_bytes unique one other lanes start operation first second bytes before after same differ known was also =
    let stated = also.applied.read in
    let streamed = (applied one other stated differ also.applied.is_read (InLanes lanes) start operation first before after was).applied.streamed in
    let others = also.applied.streamed in
    let form = form_for Terraform stated start operation in
    let events : streamed.events ≡ others.events = unique (work_for Terraform other stated) lanes streamed.events others.events streamed.run others.run in
    appended_same bytes (stream_in form streamed.events) (stream_in form others.events) after.bytes same.bytes (ap (stream_in form) events)
    (subst (λ (b : Option (List ℕ)). Appends b after.bytes (stream_in form streamed.events)) known streamed.whole.delivered.appended)
    (subst (λ (b : Option (List ℕ)). Appends b same.bytes (stream_in form others.events)) known others.whole.delivered.appended)
