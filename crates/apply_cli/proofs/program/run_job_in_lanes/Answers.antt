use Rattle.std.proofs.Common.{Some}
use Rattle.std.specs.Option.{option_copied}
use Rattle.apply_hooks.specs.Registry.{rules_of}
use Rattle.apply_cli.specs.Command.{sink_state}
use Rattle.apply_cli.specs.Invocation.{job_reading}
use Rattle.apply_cli.proofs.Readings.{job_sound}
use Rattle.apply_cli.proofs.Statuses.{ended_on_input}
use Rattle.apply_cli.proofs.program.run_job_in_lanes.Goals as goal

pub returns-clause-ended : goal.returns-clause-ended
returns-clause-ended g c =
    let job = c.args.job.now in
    ended_on_input (g.R.Read.remaining c.args.input) (option_copied job.script) (rules_of job.registry.now) job.settings.now (Some c.args.lanes) (job_reading job (Some c.args.lanes)) (job_sound job (Some c.args.lanes))
    (sink_state g.W.Write.contents c.args.output) (sink_state g.W.Write.contents c.run_input_in_lanes-output.result.0)
    (g.E.Write.contents c.args.faults.now) (g.E.Write.contents c.run_input_in_lanes-output.new.faults) (g.E.Write.contents c.finish_reading.new.faults)
    c.run_input_in_lanes-output.result.1 c.read_input-plan.result.0 c.read_input-plan.ensures.bytes c.run_input_in_lanes-output.ensures.ended c.run_input_in_lanes-output.ensures.unread c.finish_reading.ensures.quiet
