use Rattle.std.proofs.Common.{◌≡◌, ◌+◌, ap, ◌∙◌, subst, refl}
use Rattle.apply_hooks.specs.Registry.{rules_of}
use Rattle.apply_events.specs.Step.{Work}
use Rattle.apply_text.specs.Order.{hook_messages_of}
use Rattle.apply_run.specs.Applied.{IsApplied, IsAppliedInPart}
use Rattle.apply_writer.specs.declared.stream.StreamWriter.{StreamWriter}
use Rattle.apply_writer.specs.Stream.Ended.{IsCutOff, IsFaulted, IsWhole}
use Rattle.apply_writer.specs.Stream.Form.{lines_in, stream_in}
use Rattle.apply_writer.specs.Stream.Outlet.{failed_writes}
use Rattle.apply_run.specs.Run.{SinkState, by_workers, sink_state}
use Rattle.apply_run.specs.Run.NotBegun.{GivesBack}
use Rattle.apply_run.proofs.Runs.Headline.{faulted, for_form, if_err, if_ok, lost, not_started, refused, accepted_for}
use Rattle.apply_run.proofs.applying.apply_in_form.Goals as goal

pub returns-in_default-clause-err : goal.returns-in_default-clause-err
returns-in_default-clause-err g c =
    let work : Work = record { plan = c.args.plan.now; script = c.args.script.now; hooks = rules_of c.args.registry.now } in
    let sight : SinkState = sink_state g.S.Sink.bytes g.S.Sink.failed c.args.sink in
    refused (g.F.FormLines.form c.args.lines) work (by_workers c.args.options) c.at_once.result.why c.at_once.result.report sight sight c.at_once.ensures.why c.at_once.ensures.nothing refl

pub returns-then-whole-clause-ok : goal.returns-then-whole-clause-ok
returns-then-whole-clause-ok g c =
    let work : Work = record { plan = c.args.plan.now; script = c.args.script.now; hooks = rules_of c.args.registry.now } in
    let workers = c.args.options.workers in let schedule = by_workers c.args.options in let form = g.F.FormLines.form c.args.lines in
    let before : SinkState = sink_state g.S.Sink.bytes g.S.Sink.failed c.args.sink in
    let after : SinkState = sink_state g.S.Sink.bytes g.S.Sink.failed c.end.result.0 in
    let finished = c.in-Ok-finished.ensures.finished in let made = c.new-stream.ensures in
    let events = finished.events in let first = c.new-stream.result in let stream = c.in-Ok-finished.field-0.stream in
    let accepted = accepted_for g.S.Sink.bytes g.S.Sink.failed g.F.FormLines.form c.args.lines c.args.sink events first stream made.lines made.sink finished.same finished.accepted in
    let applied : IsApplied work workers finished.lists events =
    subst (λ n. IsApplied work n finished.lists events) c.in-Ok.ensures.claims.1 (finished.whole c.if-whole.true) in
    if_ok c.end.result.1 _ _
    (λ report h. record {
      events = events;
      run = record { lists = finished.lists; applied = applied };
      whole =
          for_form g.S.Sink.bytes g.S.Sink.failed g.F.FormLines.form form before events stream
          (λ f. IsWhole f.plan events (stream_in f events) report before.bytes after.bytes before.failed after.failed)
          accepted (h before.bytes before.failed events accepted.accepted);
    })
    c.end.ensures.ok

pub returns-then-whole-clause-err : goal.returns-then-whole-clause-err
returns-then-whole-clause-err g c =
    let work : Work = record { plan = c.args.plan.now; script = c.args.script.now; hooks = rules_of c.args.registry.now } in
    let workers = c.args.options.workers in let schedule = by_workers c.args.options in let form = g.F.FormLines.form c.args.lines in
    let before : SinkState = sink_state g.S.Sink.bytes g.S.Sink.failed c.args.sink in
    let after : SinkState = sink_state g.S.Sink.bytes g.S.Sink.failed c.end.result.0 in
    let finished = c.in-Ok-finished.ensures.finished in let made = c.new-stream.ensures in
    let events = finished.events in let first = c.new-stream.result in let stream = c.in-Ok-finished.field-0.stream in
    let accepted = accepted_for g.S.Sink.bytes g.S.Sink.failed g.F.FormLines.form c.args.lines c.args.sink events first stream made.lines made.sink finished.same finished.accepted in
    let applied : IsApplied work workers finished.lists events =
    subst (λ n. IsApplied work n finished.lists events) c.in-Ok.ensures.claims.1 (finished.whole c.if-whole.true) in
    if_err c.end.result.1 _ _
    (λ fault h. faulted form work schedule fault before after events (record { lists = finished.lists; applied = applied })
    (for_form g.S.Sink.bytes g.S.Sink.failed g.F.FormLines.form form before events stream
    (λ f. IsFaulted f events fault before.bytes after.bytes before.failed after.failed)
    accepted (h before.bytes before.failed events accepted.accepted)))
    c.end.ensures.err

pub returns-else-whole-clause-err : goal.returns-else-whole-clause-err
returns-else-whole-clause-err g c =
    let work : Work = record { plan = c.args.plan.now; script = c.args.script.now; hooks = rules_of c.args.registry.now } in
    let workers = c.args.options.workers in let schedule = by_workers c.args.options in let form = g.F.FormLines.form c.args.lines in
    let before : SinkState = sink_state g.S.Sink.bytes g.S.Sink.failed c.args.sink in
    let after : SinkState = sink_state g.S.Sink.bytes g.S.Sink.failed c.give_up-sink.result.0 in
    let finished = c.in-Ok-finished.ensures.finished in let made = c.new-stream.ensures in
    let events = finished.events in let first = c.new-stream.result in let stream = c.in-Ok-finished.field-0.stream in
    let accepted = accepted_for g.S.Sink.bytes g.S.Sink.failed g.F.FormLines.form c.args.lines c.args.sink events first stream made.lines made.sink finished.same finished.accepted in
    let in_part : IsAppliedInPart work workers finished.lists events =
    subst (λ n. IsAppliedInPart work n finished.lists events) c.in-Ok.ensures.claims.1 finished.part in
    let fault = c.give_up-sink.result.1 in
    lost form work schedule fault.why fault.report before after events stream.output.state c.give_up-sink.ensures.why (record { lists = finished.lists; applied = in_part })
    (for_form g.S.Sink.bytes g.S.Sink.failed g.F.FormLines.form form before events stream
    (λ f. IsCutOff f.plan events (lines_in f (hook_messages_of events)) fault.report before.bytes after.bytes (before.failed + failed_writes stream.output.state) after.failed)
    accepted (c.give_up-sink.ensures.part before.bytes before.failed events accepted.accepted))

pub returns-in-Err-NoThread-clause-err : goal.returns-in-Err-NoThread-clause-err
returns-in-Err-NoThread-clause-err g c =
    let work : Work = record { plan = c.args.plan.now; script = c.args.script.now; hooks = rules_of c.args.registry.now } in
    let schedule = by_workers c.args.options in let form = g.F.FormLines.form c.args.lines in
    let before : SinkState = sink_state g.S.Sink.bytes g.S.Sink.failed c.args.sink in
    let after : SinkState = sink_state g.S.Sink.bytes g.S.Sink.failed c.into_sink.result in
    let back = c.into_sink.ensures in
    let sink = back ∙ ap (λ (s : StreamWriter g.row.S.Denot g.row.F.Denot). s.output.sink) (subst (GivesBack c.new-stream.result c.in-Ok.prepared.endpoints) c.in-Err-NoThread.field-0-is c.in-Err-NoThread.ensures.not_begun) ∙ c.new-stream.ensures.sink in
    let same : after ≡ before = ap (λ (s : g.row.S.Denot). sink_state g.S.Sink.bytes g.S.Sink.failed s) sink in
    let fault = c.at_once-in-Err-NoThread in
    not_started form work schedule fault.result.why fault.result.report before after fault.ensures.why fault.ensures.nothing same tt

pub returns-in-Err-OutOfMemory-clause-err : goal.returns-in-Err-OutOfMemory-clause-err
returns-in-Err-OutOfMemory-clause-err g c =
    let work : Work = record { plan = c.args.plan.now; script = c.args.script.now; hooks = rules_of c.args.registry.now } in
    let schedule = by_workers c.args.options in let form = g.F.FormLines.form c.args.lines in
    let before : SinkState = sink_state g.S.Sink.bytes g.S.Sink.failed c.args.sink in
    let after : SinkState = sink_state g.S.Sink.bytes g.S.Sink.failed c.into_sink-in-Err-OutOfMemory.result in
    let back = c.into_sink-in-Err-OutOfMemory.ensures in
    let sink = back ∙ ap (λ (s : StreamWriter g.row.S.Denot g.row.F.Denot). s.output.sink) (subst (GivesBack c.new-stream.result c.in-Ok.prepared.endpoints) c.in-Err-OutOfMemory.field-0-is c.in-Err-OutOfMemory.ensures.not_begun).0 ∙ c.new-stream.ensures.sink in
    let same : after ≡ before = ap (λ (s : g.row.S.Denot). sink_state g.S.Sink.bytes g.S.Sink.failed s) sink in
    let fault = c.at_once-in-Err-OutOfMemory in
    refused form work schedule fault.result.why fault.result.report before after fault.ensures.why fault.ensures.nothing same
