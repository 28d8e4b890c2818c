use Rattle.std.proofs.Common.{◌<◌, ◌^◌, length, arith}
use Rattle.apply_events.specs.Step.{Work}
use Rattle.apply_command.specs.Reading.{applied_plan, applied_script, extras, form, head_inputs, is_applied, lines}
use Rattle.apply_writer.specs.Stream.Form.{stream_in}
use Rattle.laws_check.proofs.Schedules.{can_run}
use Rattle.laws_command_check.specs.CommandAccepted.{command_stream_read_back}
use Rattle.laws_command_check.proofs.CommandJudged.{bytes_judged, stream_judged}
use Rattle.laws_command_check.proofs.CommandRead.{are_whole, command_limits, command_lines_small, may_be_planned}
use Rattle.laws_command_check.proofs.CommandTexts.{form_texts, head_texts}
use Rattle.laws_command_check.proofs.commands.every_stream_of_a_command_is_accepted.Goals as goal

pub returns-clause-stream : goal.returns-clause-stream
returns-clause-stream c plans schedule command refresh lanes given start operation report before after run some so hooks short =
    let applied = run.applied in
    let read = applied.read in
    let events = applied.streamed.events in
    let is = applied.is_read.stated in
    let plan = applied_plan command lanes read in
    let script = applied_script command lanes read in
    let work : Work = record { plan = plan; script = script; hooks = given.hooks } in
    let planned = c.all_but_no_ops_are_planned.ensures given.plan read.stated.plan read.stated.details is.plan_is is.details_are in
    let once = c.each_object_is_named_once.ensures given.plan read.stated.plan is.plan_is in
    let relative = c.relative_addresses_join_their_module.ensures given.plan read.stated.plan is.plan_is in
    let texts = c.what_was_read_of_a_planning_can_be_read_back.ensures command refresh given read applied.is_read in
    let warns = c.only_reads_of_a_planning_warn.ensures command refresh given read applied.is_read in
    let planning = c.a_planning_is_of_whole_steps.ensures read.told lanes some in
    let limits = command_limits given read is so command lanes given.hooks in
    let can = can_run schedule work applied.sizes limits.few_steps in
    let each = c.every_event_of_a_run_can_happen.ensures in
    let most = each.few schedule work events can limits applied.streamed.run in
    let few : length events < 2 ^ 64 = omega arith in
    let fits = c.events_that_can_happen_fit_bits.ensures plan script events limits.short_steps (each.fit schedule work events can limits hooks applied.streamed.run) few in
    let says = c.every_line_of_a_command_is_read_back.ensures (head_inputs command lanes read start) (lines command lanes read) (is_applied command lanes read) plan script (extras command lanes read) operation events
    (form_texts command lanes given read is texts relative planned.as_many (are_whole given read is so)) (head_texts command lanes given read is texts relative planned.as_many (are_whole given read is so) start) (command_lines_small given read is so command lanes texts planning) fits in
    let taken = c.every_message_of_a_command_is_accepted.ensures plans command lanes read start given.hooks operation events some (may_be_planned given read is so warns once planned.as_many) (c.a_run_is_of_whole_steps.ensures schedule work events can applied.streamed.run) in
    stream_judged plans command lanes read start operation events (stream_in (form command lanes read start operation) events) report before.bytes after.bytes applied.streamed.whole.delivered run.error says taken
    (λ narrow. c.lines_are_judged_by_their_messages.ensures.verdict plans says.lines (command_stream_read_back (head_inputs command lanes read start) (lines command lanes read) (is_applied command lanes read) plan script (extras command lanes read) operation events) taken.messages says.say narrow taken.accepted)
    short

pub returns-clause-bytes : goal.returns-clause-bytes
returns-clause-bytes c plans schedule command refresh lanes given start operation report before after bytes run some so hooks none known short =
    let applied = run.applied in
    let read = applied.read in
    let events = applied.streamed.events in
    bytes_judged plans command lanes read events (stream_in (form command lanes read start operation) events) bytes report before.bytes after.bytes applied.streamed.whole.delivered none known
    (returns-clause-stream c plans schedule command refresh lanes given start operation report before after run some so hooks) short
