use Rattle.std.proofs.Common.{◌≡◌, ◌∙◌, Bor, List, Option, ap, arith, length, map, subst, sym, ℕ}
use Rattle.std.specs.Prelude.{Ok}
use Rattle.std.specs.Option.{ForSome}
use Rattle.std.proofs.lemmas.Result.{err_from_is_err_and}
use Rattle.apply_plan_terraform.specs.Outputs.{outputs_view}
use Rattle.stream_record.specs.ScriptText.{script_within}
use Rattle.stream_record_lines.specs.declared.outputs.output.Output.{Output}
use Rattle.stream_record_outcomes.specs.declared.recorded_step.RecordedStep.{RecordedStep}
use Rattle.stream_record_outcomes.specs.Recording.{AreAllowed}
use Rattle.stream_record_stream.specs.Streams.{StreamRead}
use Rattle.stream_record_waits.specs.Graph.{AreWaitsOf}
use Rattle.stream_record_waits.specs.Recorded.{graph_in}
use Rattle.stream_record_waits.specs.Steps.{lists_in}
use Rattle.term_words.specs.MessageTexts.{text_bytes}
use Rattle.stream_record_script.specs.Recordings.{PlanRead}
use Rattle.stream_record_script.proofs.Recorded.{as_many, known, made, outputs_are, script_is, unmade, unwaited, warnings_are}
use Rattle.stream_record_script.proofs.recording.recording_of.Goals as goal

pub steps_of_plan-requires : goal.steps_of_plan-requires
steps_of_plan-requires c =
    subst (λ (recorded : List (Option RecordedStep)). AreAllowed c.stream.inside.begun.planned recorded) (sym c.deref-2.ensures.value)
    c.in_ok-recorded.ensures.allowed

pub recorded_waits-requires-clause-few : goal.recorded_waits-requires-clause-few
recorded_waits-requires-clause-few c =
    omega (
      arith,
      ap length (c.deref-4.ensures.value ∙ c.in_ok-steps.ensures),
      as_many c.stream.inside.begun c.deref-2.result.now,
      ap (λ (stream : StreamRead). length stream.begun.planned) c.stream.view_is,
      ap length c.requires.planned,
      c.step_count.ensures.count,
      c.step_count.ensures.few,
    )

pub recorded_waits-requires-clause-graph : goal.recorded_waits-requires-clause-graph
recorded_waits-requires-clause-graph c =
    let count : length c.args.stream.now.begun.planned ≡ length c.deref-4.result.now =
    sym (ap length (c.deref-4.ensures.value ∙ c.in_ok-steps.ensures)
    ∙ as_many c.stream.inside.begun c.deref-2.result.now
    ∙ ap (λ (stream : StreamRead). length stream.begun.planned) c.stream.view_is) in
    subst (λ (n : ℕ). ForSome (graph_in c.args.graph) (λ lists. AreWaitsOf n lists)) count c.requires.graph

pub returns-in_err-waits-clause-err : goal.returns-in_err-waits-clause-err
returns-in_err-waits-clause-err c =
    let stream = c.args.stream.now in
    let read : PlanRead = record { plan = c.args.plan.now; note = c.args.note; outputs = outputs_view c.args.outputs } in
    let graph = graph_in c.args.graph in
    let wishes = c.args.wishes in
    let recorded = c.deref-2.result.now in
    let loose = c.deref-3.result.now in
    let steps = c.deref-4.result.now in
    let choices = c.choices_of-choices.result in
    let are = known read wishes stream c.stream.inside.begun (ap (λ (own : StreamRead). own.begun) c.stream.view_is)
    c.deref.result.now (c.deref.ensures.value ∙ ap (λ (own : StreamRead). own.notes) c.stream.view_is)
    c.circumstances_of-circumstances.result c.circumstances_of-circumstances.ensures
    recorded (c.deref-2.ensures.value ∙ c.in_ok-recorded.ensures.steps) loose (c.deref-3.ensures.value ∙ c.in_ok-recorded.ensures.loose)
    steps (c.deref-4.ensures.value ∙ c.in_ok-steps.ensures) choices c.choices_of-choices.ensures in
    let p = err_from_is_err_and c.from_residual-in_err-waits.result c.from_residual-in_err-waits.ensures.1 in
    rw (p.1, p.2) (unwaited read graph wishes stream recorded loose steps choices are _ c.in_err-waits.ensures.err)

pub returns-in_err-script-2-clause-err : goal.returns-in_err-script-2-clause-err
returns-in_err-script-2-clause-err c =
    let stream = c.args.stream.now in
    let read : PlanRead = record { plan = c.args.plan.now; note = c.args.note; outputs = outputs_view c.args.outputs } in
    let graph = graph_in c.args.graph in
    let wishes = c.args.wishes in
    let recorded = c.deref-2.result.now in
    let loose = c.deref-3.result.now in
    let steps = c.deref-4.result.now in
    let choices = c.choices_of-choices.result in
    let are = known read wishes stream c.stream.inside.begun (ap (λ (own : StreamRead). own.begun) c.stream.view_is)
    c.deref.result.now (c.deref.ensures.value ∙ ap (λ (own : StreamRead). own.notes) c.stream.view_is)
    c.circumstances_of-circumstances.result c.circumstances_of-circumstances.ensures
    recorded (c.deref-2.ensures.value ∙ c.in_ok-recorded.ensures.steps) loose (c.deref-3.ensures.value ∙ c.in_ok-recorded.ensures.loose)
    steps (c.deref-4.ensures.value ∙ c.in_ok-steps.ensures) choices c.choices_of-choices.ensures in
    let after = lists_in c.in_ok-waits.waits.after.items in
    let early = lists_in c.in_ok-waits.waits.early.items in
    let changes = c.args.plan.now.changes in
    let states = c.deref-10.result.now in
    let found = c.in_ok-waits.ensures in
    let now = λ (output : Bor Output). output.now in
    let given_are = c.as_slice.ensures ∙ ap (λ (own : StreamRead). own.outputs) c.stream.view_is in
    let script = script_is changes recorded c.in_ok-recorded.field-0.steps.items states after (lists_in c.deref-11.result.now) c.deref-12.result.now
    (sym c.deref-2.ensures.value) (ap lists_in c.deref-11.ensures.value) (c.deref-12.ensures.value ∙ c.in_ok-script.ensures) in
    let outputs = outputs_are read stream c.as_slice.result.now given_are c.deref-8.result.now (map now c.deref-9.result.now) c.deref-13.result.now
    (c.deref-8.ensures.value ∙ c.in_ok-told.ensures) (ap (map now) c.deref-9.ensures.value ∙ c.in_ok-split.ensures.known)
    (c.deref-13.ensures.value ∙ c.in_ok-outputs.ensures) in
    let warnings = warnings_are read stream c.as_slice.result.now given_are wishes.lanes recorded c.deref-5.result.now early (lists_in c.deref-6.result.now)
    (map now c.deref-7.result.now) (text_bytes c.in_ok-warnings.warnings) (c.deref-5.ensures.value ∙ sym c.deref-2.ensures.value)
    (ap lists_in c.deref-6.ensures.value) (ap (map now) c.deref-7.ensures.value ∙ c.in_ok-split.ensures.unknown) c.in_ok-warnings.ensures in
    let same_loose = ap (script_within changes c.deref-12.result.now c.deref-13.result.now) (c.deref-3.ensures.value ∙ sym c.deref-14.ensures.value) in
    let p = err_from_is_err_and c.from_residual-in_err-script-2.result c.from_residual-in_err-script-2.ensures.1 in
    rw (p.1, p.2)
    (unmade read graph wishes stream recorded loose steps choices are after early found.waits found.sound found.most states (c.deref-10.ensures.value ∙ found.states)
    c.deref-12.result.now script c.deref-13.result.now outputs (text_bytes c.in_ok-warnings.warnings) warnings
    _ (λ named. same_loose ∙ c.in_err-script-2.ensures.err named))

pub returns-clause-ok : goal.returns-clause-ok
returns-clause-ok c =
    let stream = c.args.stream.now in
    let read : PlanRead = record { plan = c.args.plan.now; note = c.args.note; outputs = outputs_view c.args.outputs } in
    let graph = graph_in c.args.graph in
    let wishes = c.args.wishes in
    let recorded = c.deref-2.result.now in
    let loose = c.deref-3.result.now in
    let steps = c.deref-4.result.now in
    let choices = c.choices_of-choices.result in
    let are = known read wishes stream c.stream.inside.begun (ap (λ (own : StreamRead). own.begun) c.stream.view_is)
    c.deref.result.now (c.deref.ensures.value ∙ ap (λ (own : StreamRead). own.notes) c.stream.view_is)
    c.circumstances_of-circumstances.result c.circumstances_of-circumstances.ensures
    recorded (c.deref-2.ensures.value ∙ c.in_ok-recorded.ensures.steps) loose (c.deref-3.ensures.value ∙ c.in_ok-recorded.ensures.loose)
    steps (c.deref-4.ensures.value ∙ c.in_ok-steps.ensures) choices c.choices_of-choices.ensures in
    let after = lists_in c.in_ok-waits.waits.after.items in
    let early = lists_in c.in_ok-waits.waits.early.items in
    let changes = c.args.plan.now.changes in
    let states = c.deref-10.result.now in
    let found = c.in_ok-waits.ensures in
    let now = λ (output : Bor Output). output.now in
    let given_are = c.as_slice.ensures ∙ ap (λ (own : StreamRead). own.outputs) c.stream.view_is in
    let script = script_is changes recorded c.in_ok-recorded.field-0.steps.items states after (lists_in c.deref-11.result.now) c.deref-12.result.now
    (sym c.deref-2.ensures.value) (ap lists_in c.deref-11.ensures.value) (c.deref-12.ensures.value ∙ c.in_ok-script.ensures) in
    let outputs = outputs_are read stream c.as_slice.result.now given_are c.deref-8.result.now (map now c.deref-9.result.now) c.deref-13.result.now
    (c.deref-8.ensures.value ∙ c.in_ok-told.ensures) (ap (map now) c.deref-9.ensures.value ∙ c.in_ok-split.ensures.known)
    (c.deref-13.ensures.value ∙ c.in_ok-outputs.ensures) in
    let warnings = warnings_are read stream c.as_slice.result.now given_are wishes.lanes recorded c.deref-5.result.now early (lists_in c.deref-6.result.now)
    (map now c.deref-7.result.now) (text_bytes c.in_ok-warnings.warnings) (c.deref-5.ensures.value ∙ sym c.deref-2.ensures.value)
    (ap lists_in c.deref-6.ensures.value) (ap (map now) c.deref-7.ensures.value ∙ c.in_ok-split.ensures.unknown) c.in_ok-warnings.ensures in
    let same_loose = ap (script_within changes c.deref-12.result.now c.deref-13.result.now) (c.deref-3.ensures.value ∙ sym c.deref-14.ensures.value) in
    made read graph wishes stream recorded loose steps choices are after early found.waits found.sound found.most states (c.deref-10.ensures.value ∙ found.states)
    c.deref-12.result.now script c.deref-13.result.now outputs (text_bytes c.in_ok-warnings.warnings) warnings
    (Ok (text_bytes c.in_ok-script-2.script)) (same_loose ∙ c.in_ok-script-2.ensures.ok)
