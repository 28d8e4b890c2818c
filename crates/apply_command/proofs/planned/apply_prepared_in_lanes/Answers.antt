use Rattle.std.proofs.Common.{IfErr, IfOk}
use Rattle.apply_hooks.specs.Registry.{rules_of}
use Rattle.apply_run.specs.Run.{HasFailedBy, HasStreamedBy, sink_state}
use Rattle.apply_run.specs.Schedule.{InLanes}
use Rattle.apply_command.proofs.PreparedForms.{as_prepared}
use Rattle.apply_command.proofs.planned.apply_prepared_in_lanes.Goals as goal

pub returns-in-Ok-clause-ok : goal.returns-in-Ok-clause-ok
returns-in-Ok-clause-ok g c = λ command read prepared. as_prepared command c.args.lanes read c.args.prepared.now prepared
    (λ form work. IfOk c.apply_lanes_in_form.result.1 (λ report. HasStreamedBy (InLanes c.args.lanes) form work report (sink_state g.S.Sink.bytes g.S.Sink.failed c.args.sink) (sink_state g.S.Sink.bytes g.S.Sink.failed c.apply_lanes_in_form.result.0)))
    (rules_of c.args.registry.now) c.args.start c.args.operation c.in-Ok.lines c.in-Ok.ensures (rw (c.applied-plan.ensures, c.applied_script-script.ensures) at c.apply_lanes_in_form.ensures.ok)

pub returns-in-Ok-clause-err : goal.returns-in-Ok-clause-err
returns-in-Ok-clause-err g c = λ command read prepared. as_prepared command c.args.lanes read c.args.prepared.now prepared
    (λ form work. IfErr c.apply_lanes_in_form.result.1 (λ fault. HasFailedBy fault.why (InLanes c.args.lanes) form work fault.report (sink_state g.S.Sink.bytes g.S.Sink.failed c.args.sink) (sink_state g.S.Sink.bytes g.S.Sink.failed c.apply_lanes_in_form.result.0)))
    (rules_of c.args.registry.now) c.args.start c.args.operation c.in-Ok.lines c.in-Ok.ensures (rw (c.applied-plan.ensures, c.applied_script-script.ensures) at c.apply_lanes_in_form.ensures.err)
