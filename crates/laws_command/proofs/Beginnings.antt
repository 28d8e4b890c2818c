-- How the stream of a command begins.
use Rattle.std.proofs.Common.{◌≡◌, ℕ, ◌+◌, ◌<◌, ◌≤◌, Bool, true, false, List, [], ◌∷◌, ◌++◌, append_assoc, arith, cond, length, map, not, refl, sym, ap, slice_get, subst, ◌∙◌}
use Rattle.std.specs.Prelude.{flat_map, ◌↔◌, Option, Ok}
use Rattle.std.specs.List.{enumerate_from}
use Rattle.std.specs.Option.{option_map_or}
use mathlib.Core.List.{IsPrefix}
use Rattle.std.proofs.lemmas.List.Elements.{All-contains}
use Rattle.apply_model.specs.Plan.ResourceChange.{ResourceChange}
use Rattle.apply_events.specs.declared.event.Event.{Event}
use Rattle.apply_events.specs.Fits.{HasStep}
use Rattle.apply_events.specs.Step.{Work}
use Rattle.apply_events.proofs.Waits.Members.{in_head}
use Rattle.apply_run.specs.Schedule.{ByWorkers, InLanes, IsOfSize, IsRunOf, Schedule}
use Rattle.laws_check.specs.WholeSteps.{CanRun, IsOfWholeSteps}
use Rattle.laws_run.specs.WaitingSteps.{HasFewSteps}
use Rattle.apply_events.specs.Totals.{totals_of}
use Rattle.apply_text.specs.declared.operation.Operation.{Operation}
use Rattle.apply_text.specs.Latest.{latest_of}
use Rattle.apply_text.specs.Order.{as_written}
use Rattle.apply_model.specs.declared.plan.mode.Mode.{Mode}
use Rattle.apply_model.specs.declared.plan.mode.Mode.TheVariants.{DataSource, Managed}
use Rattle.apply_plan.specs.Results.{◌>>=◌}
use Rattle.apply_prior.specs.declared.prior.Prior.{Prior}
use Rattle.apply_prior.specs.declared.prior_object.PriorObject.{PriorObject}
use Rattle.apply_planning_script.specs.declared.rules.PlanningRules.{PlanningRules}
use Rattle.apply_planning_script.specs.Items.{Item}
use Rattle.apply_planning_script.specs.Objects.{ObjectName, object_of}
use Rattle.apply_planning_script.specs.Planning.{said_of}
use Rattle.apply_planning_script.specs.Rules.{PlannedObjects, is_expected_by}
use Rattle.apply_planning_script.specs.Told.{Object, ToldObject, item_about, object_view, told_by_script, told_if, told_known, told_unknown}
use Rattle.apply_text_terraform.specs.declared.command.Command.{Command}
use Rattle.apply_text_terraform.specs.declared.command.Command.TheVariants.{Apply, Destroy, Plan}
use Rattle.apply_command.specs.declared.head_line.HeadLine.{HeadLine}
use Rattle.apply_command.specs.declared.head_line.HeadLine.TheVariants as line
use Rattle.apply_command.specs.Notes.{is_partial}
use Rattle.apply_command.specs.Head.{HeadInputs, head_lines, head_text, line_text, plan_lines}
use Rattle.apply_command.specs.Reading.{AreStated, CommandInputs, form, head_inputs, kept_changes, kept_drifts, planning, told_for}
use Rattle.apply_run.specs.Bytes.{Inputs}
use Rattle.apply_run.specs.Read.{StatedInputs}
use Rattle.apply_writer.specs.Stream.Form.{StreamForm, stream_in}
use Rattle.laws_command.specs.Streams.{before_diagnostics, beginning, after_head, diagnostics, planning_text, prints_plan}

-- ---- what bytes state

-- only `destroy` has other rules, and these differ only without a refresh
pub same_inputs : (refresh : Bool) (given : Inputs) (read : CommandInputs) → AreStated Plan refresh given read ↔ AreStated Apply refresh given read
same_inputs refresh given read = (
  (λ (is : AreStated Plan refresh given read). record { stated = is.stated; prior = is.prior; prior_is = is.prior_is; drifts_are = is.drifts_are; outputs_are = is.outputs_are; told_are = is.told_are }),
  (λ (is : AreStated Apply refresh given read). record { stated = is.stated; prior = is.prior; prior_is = is.prior_is; drifts_are = is.drifts_are; outputs_are = is.outputs_are; told_are = is.told_are }),
)

-- with a refresh both rules expect the same objects
module _ (partial : Bool) (plan : PlannedObjects) where
  abbrev rules : (destroys : Bool) → PlanningRules
  rules destroys = record { destroys = destroys; refreshes = true; is_partial = partial }

  same_mode : (mode : Mode) (object : ObjectName) → is_expected_by mode (rules false) plan object ≡ is_expected_by mode (rules true) plan object
  same_mode DataSource object = refl
  same_mode Managed object = refl

  same_known : (items : List Item) (object : Object) → told_known (rules false) plan items object ≡ told_known (rules true) plan items object
  same_known items object =
      let item = item_about items (object_of object.object) in
      ap (λ (b : Bool). told_if (option_map_or (λ (item : Item). not item.is_skipped) item b) object item) (same_mode object.object.mode (object_of object.object))

  same_told : (objects : List PriorObject) (script : Option (List ℕ)) → told_by_script (rules false) plan objects script ≡ told_by_script (rules true) plan objects script
  same_told objects script =
      ap (λ (known : List Item → PriorObject → List ToldObject). said_of objects script >>= λ items. Ok (flat_map (known items) objects ++ flat_map (told_unknown objects) items))
      (λ i. λ items. λ prior. same_known items (object_view prior) i)

told_alike : (stated : StatedInputs) (prior : Prior) (script : Option (List ℕ)) → told_for Plan true stated prior script ≡ told_for Destroy true stated prior script
told_alike stated prior script =
    same_told (is_partial stated.details.note) (record { changes = stated.plan.changes; details = stated.details.changes; drifts = prior.drifts.items }) prior.objects.items script

pub same_refreshed : (given : Inputs) (read : CommandInputs) → AreStated Plan true given read ↔ AreStated Destroy true given read
same_refreshed given read = (
  (λ (is : AreStated Plan true given read). record {
    stated = is.stated;
    prior = is.prior;
    prior_is = is.prior_is;
    drifts_are = is.drifts_are;
    outputs_are = is.outputs_are;
    told_are = sym (told_alike read.stated is.prior given.script) ∙ is.told_are;
  }),
  (λ (is : AreStated Destroy true given read). record {
    stated = is.stated;
    prior = is.prior;
    prior_is = is.prior_is;
    drifts_are = is.drifts_are;
    outputs_are = is.outputs_are;
    told_are = told_alike read.stated is.prior given.script ∙ is.told_are;
  }),
)

-- ---- the bytes

texts_of_both : (inputs : HeadInputs) (first second : List HeadLine) → head_text inputs (first ++ second) ≡ head_text inputs first ++ head_text inputs second
texts_of_both inputs [] second = refl
texts_of_both inputs (one ∷ first) second =
    ap (λ (l : List ℕ). line_text inputs one ++ l) (texts_of_both inputs first second)
    ∙ sym (append_assoc (line_text inputs one) (head_text inputs first) (head_text inputs second))

-- the lines of the planning, then those of the plan
head_of_both : (inputs : HeadInputs) (events : List Event) (plan : List HeadLine) → head_text inputs (head_lines events plan) ≡ head_text inputs (head_lines events []) ++ head_text inputs plan
head_of_both inputs events plan =
    let lines = map line.Planning events in
    sym (ap (λ (l : List HeadLine). head_text inputs (line.Version ∷ l)) (append_assoc lines [] plan))
    ∙ texts_of_both inputs (head_lines events []) plan

pub head_is : (command : Command) (lanes : ℕ) (read : CommandInputs) (start : ℕ) (operation : Operation) → (form command lanes read start operation).head ≡ beginning command lanes read start
head_is command lanes read start operation = by_answer (prints_plan command lanes read)
  where
    by_answer : (told : Bool)
        → head_text (head_inputs Plan lanes read start) (head_lines (planning Plan lanes read).events (plan_lines told (kept_drifts Plan lanes read) (kept_changes Plan lanes read) read.outputs))
        ≡ cond told (before_diagnostics lanes read start) (planning_text lanes read start)
    by_answer true = head_of_both (head_inputs Plan lanes read start) (planning Plan lanes read).events (plan_lines true (kept_drifts Plan lanes read) (kept_changes Plan lanes read) read.outputs)
    by_answer false = refl

pub stream_is : (stream : StreamForm) (events : List Event) → stream_in stream events ≡ stream.head ++ after_head stream events
stream_is stream events =
    append_assoc stream.head (flat_map (λ p. stream.line (latest_of (as_written events) (p.0 + 1)) p.1) (enumerate_from 0 (as_written events)))
    (stream.tail (latest_of (as_written events) (length (as_written events))) (totals_of stream.plan events))

pub begins : (command : Command) (lanes : ℕ) (read : CommandInputs) (start : ℕ) (operation : Operation) (events : List Event)
    → IsPrefix (beginning command lanes read start) (stream_in (form command lanes read start operation) events)
begins command lanes read start operation events =
    let stream = form command lanes read start operation in
    (after_head stream events, sym (stream_is stream events ∙ ap (λ (l : List ℕ). l ++ after_head stream events) (head_is command lanes read start operation)))

-- ---- a plan runs no step

-- no event is of a step where there is no change
none_of : (work : Work) → work.plan.changes ≡ [] → (events : List Event) → IsOfWholeSteps work events → events ≡ []
none_of work is [] whole = refl
none_of work is (event ∷ events) whole =
    let has = All-contains (λ (e : Event). HasStep work.plan e.change e.step) (event ∷ events) event whole.planned (in_head event events) in
    let none : event.step < 0 = subst (λ (changes : List ResourceChange). event.step < length (option_map_or (λ change. change.steps) (slice_get changes event.change) [])) is has in
    absurd (omega arith)

pub no_events : (work : Work) → work.plan.changes ≡ [] → (schedule : Schedule) → IsOfSize schedule
    → ((events : List Event) → CanRun schedule work → IsRunOf schedule work events → IsOfWholeSteps work events)
    → (events : List Event) → IsRunOf schedule work events → events ≡ []
no_events work is schedule sizes law events run = none_of work is events (law events (can_run schedule sizes) run)
  where
    few : HasFewSteps work
    few c = subst (λ (changes : List ResourceChange). length (option_map_or (λ change. change.steps) (slice_get changes c) []) ≤ 2) (sym is) (omega arith)

    can_run : (schedule : Schedule) → IsOfSize schedule → CanRun schedule work
    can_run (ByWorkers workers capacity) sizes = tt
    can_run (InLanes lanes) sizes = ((let low = sizes.some in omega arith), few)

pub plan_is : (lanes : ℕ) (read : CommandInputs) (start : ℕ) (operation : Operation)
    → stream_in (form Plan lanes read start operation) [] ≡ before_diagnostics lanes read start ++ diagnostics lanes read start
plan_is lanes read start operation =
    let stream = form Plan lanes read start operation in
    stream_is stream [] ∙ ap (λ (l : List ℕ). l ++ after_head stream []) (head_is Plan lanes read start operation)
