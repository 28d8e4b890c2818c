use Rattle.stream_record_cli.proofs.Tools.{of_apply}
use Rattle.stream_record_cli.proofs.command.tool.record_inputs.Goals as goal

pub returns-in-Ok-clause-gives : goal.returns-in-Ok-clause-gives
returns-in-Ok-clause-gives g c =
    of_apply g.F.File.Read.remaining c.args.settings.now c.in-Ok.inputs _ _ _ c.record_apply.result.status c.in-Ok.ensures.plan c.in-Ok.ensures.graph
    _ c.record_apply.result.answer c.if-settings.false c.in-Ok.ensures.kept c.record_apply.ensures.gives
