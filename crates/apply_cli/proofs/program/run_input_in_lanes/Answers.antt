use Rattle.std.proofs.Common.{◌∙◌, ℕ, List, Some, Vec, Global, IfOk, Result, sym, subst}
use Rattle.std.specs.Option.{option_copied}
use Rattle.apply_hooks.specs.Registry.{rules_of}
use Rattle.apply_run.specs.Bytes.{Inputs}
use Rattle.apply_run.specs.Run.{SinkState}
use Rattle.apply_cli.specs.Command.{sink_state}
use Rattle.apply_cli.specs.Ended.{HasEnded}
use Rattle.apply_cli.specs.Invocation.{job_reading}
use Rattle.apply_cli.specs.declared.input_fault.InputFault.{InputFault}
use Rattle.apply_cli.proofs.program.run_input_in_lanes.Goals as goal

pub returns-clause-ended : goal.returns-clause-ended
returns-clause-ended g c =
    let job = c.args.job.now in
    let given : List ℕ → Inputs = λ plan. record { plan = plan; script = option_copied job.script; hooks = rules_of job.registry.now } in
    let before : SinkState = sink_state g.W.Write.contents c.args.output in
    let ended : List ℕ → Type 0 = λ plan. HasEnded (given plan) job.settings.now (Some c.args.lanes) (job_reading job (Some c.args.lanes)) before (sink_state g.W.Write.contents c.end_run.result.0)
    (g.E.Write.contents c.args.faults.now) (g.E.Write.contents c.end_run.new.faults) c.end_run.result.1 in
    subst (λ (read : Result (Vec ℕ Global) InputFault). IfOk read (λ plan. ended plan.items)) (sym c.in-Ok.is)
    (subst ended c.deref.ensures.value (c.end_run.ensures.ended (given c.deref.result.now) before (c.deref.ensures.value ∙ sym c.deref-2.ensures.value) (sym c.failures-failures.ensures)
    c.apply_job_in_lanes-ended.ensures.ok c.apply_job_in_lanes-ended.ensures.err))
