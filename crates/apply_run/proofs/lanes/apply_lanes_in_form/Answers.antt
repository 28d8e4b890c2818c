use Rattle.std.proofs.Common.{arith, subst}
use Rattle.apply_hooks.specs.Registry.{rules_of}
use Rattle.apply_events.specs.Step.{Work}
use Rattle.apply_events.specs.Waits.Merging.{time_line}
use Rattle.apply_run.specs.Run.{SinkState, sink_state}
use Rattle.apply_run.specs.Schedule.{InLanes}
use Rattle.apply_writer.specs.Stream.Ended.{IsFaulted, IsWhole}
use Rattle.apply_writer.specs.Stream.Form.{stream_in}
use Rattle.apply_writer.specs.Stream.WriterState.{HasAcceptedSince}
use Rattle.apply_run.proofs.Runs.Headline.{accepted_for, faulted, for_form, if_err, if_ok}
use Rattle.apply_run.proofs.lanes.apply_lanes_in_form.Goals as goal

pub returns-clause-ok : goal.returns-clause-ok
returns-clause-ok g c =
    let work : Work = record { plan = c.args.plan.now; script = c.args.script.now; hooks = rules_of c.args.registry.now } in
    let lanes = c.args.lanes in let form = g.F.FormLines.form c.args.lines in
    let before : SinkState = sink_state g.S.Sink.bytes g.S.Sink.failed c.args.sink in
    let after : SinkState = sink_state g.S.Sink.bytes g.S.Sink.failed c.end.result.0 in
    let events = time_line work lanes in
    let made = c.new-stream.ensures in let first = c.new-stream.result in let stream = c.write_all_events.result in
    let since : HasAcceptedSince g.S.Sink.bytes g.S.Sink.failed g.F.FormLines.form first events stream =
    subst (λ es. HasAcceptedSince g.S.Sink.bytes g.S.Sink.failed g.F.FormLines.form first es stream) c.in-Ok.ensures.events c.write_all_events.ensures.accepted in
    let accepted = accepted_for g.S.Sink.bytes g.S.Sink.failed g.F.FormLines.form c.args.lines c.args.sink events first stream made.lines made.sink c.write_all_events.ensures.same since in
    if_ok c.end.result.1 _ _
    (λ report h. record {
      events = events;
      run = c.there_is_a_time_line.ensures work lanes (let some = c.requires.lanes.some in omega arith);
      whole = for_form g.S.Sink.bytes g.S.Sink.failed g.F.FormLines.form form before events stream
          (λ f. IsWhole f.plan events (stream_in f events) report before.bytes after.bytes before.failed after.failed)
          accepted (h before.bytes before.failed events accepted.accepted);
    })
    c.end.ensures.ok

pub returns-clause-err : goal.returns-clause-err
returns-clause-err g c =
    let work : Work = record { plan = c.args.plan.now; script = c.args.script.now; hooks = rules_of c.args.registry.now } in
    let lanes = c.args.lanes in let form = g.F.FormLines.form c.args.lines in
    let before : SinkState = sink_state g.S.Sink.bytes g.S.Sink.failed c.args.sink in
    let after : SinkState = sink_state g.S.Sink.bytes g.S.Sink.failed c.end.result.0 in
    let events = time_line work lanes in
    let made = c.new-stream.ensures in let first = c.new-stream.result in let stream = c.write_all_events.result in
    let since : HasAcceptedSince g.S.Sink.bytes g.S.Sink.failed g.F.FormLines.form first events stream =
    subst (λ es. HasAcceptedSince g.S.Sink.bytes g.S.Sink.failed g.F.FormLines.form first es stream) c.in-Ok.ensures.events c.write_all_events.ensures.accepted in
    let accepted = accepted_for g.S.Sink.bytes g.S.Sink.failed g.F.FormLines.form c.args.lines c.args.sink events first stream made.lines made.sink c.write_all_events.ensures.same since in
    if_err c.end.result.1 _ _
    (λ fault h. faulted form work (InLanes lanes) fault before after events (c.there_is_a_time_line.ensures work lanes (let some = c.requires.lanes.some in omega arith))
    (for_form g.S.Sink.bytes g.S.Sink.failed g.F.FormLines.form form before events stream
    (λ f. IsFaulted f events fault before.bytes after.bytes before.failed after.failed)
    accepted (h before.bytes before.failed events accepted.accepted)))
    c.end.ensures.err
