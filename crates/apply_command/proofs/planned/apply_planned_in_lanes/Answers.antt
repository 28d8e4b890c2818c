use Rattle.std.proofs.Common.{◌∙◌, ap₂, inl, refl, rules, subst, sym}
use Rattle.std.specs.Option.{option_copied}
use Rattle.apply_hooks.specs.Registry.{rules_of}
use Rattle.apply_writer.specs.declared.report.Report.{Report}
use Rattle.apply_writer.specs.declared.why.Why.{Why}
use Rattle.apply_writer.specs.Stream.Terraform.{contains_error}
use Rattle.apply_run.specs.Bytes.{Inputs}
use Rattle.apply_run.specs.Run.{HasFailedBy, HasStreamedBy, SinkState, sink_state}
use Rattle.apply_run.specs.Schedule.{InLanes}
use Rattle.apply_run.proofs.Runs.Headline.{of_err, of_ok}
use Rattle.apply_command.specs.Prepared.{command_view}
use Rattle.apply_command.specs.Reading.{applied_plan, applied_script, form}
use Rattle.apply_command.proofs.Unread.{unread}
use Rattle.apply_command.proofs.planned.apply_planned_in_lanes.Goals as goal

pub returns-in-Err-clause-err : goal.returns-in-Err-clause-err
returns-in-Err-clause-err g c =
    let given : Inputs = record { plan = c.args.plan.now; script = option_copied c.args.script; hooks = rules_of c.args.registry.now } in
    unread (InLanes c.args.lanes) c.args.command c.args.refresh c.args.lanes given c.args.start c.args.operation c.in-Err.refusal _ (c.in-Err.ensures.err given.hooks)

pub returns-then-not-are_lanes-clause-err : goal.returns-then-not-are_lanes-clause-err
returns-then-not-are_lanes-clause-err g c =
    (command_view c.in-Ok.read, c.in-Ok.ensures.ok (rules_of c.args.registry.now), search rules, refl, tt)

-- memory was refused before the run
pub returns-in_default-clause-err : goal.returns-in_default-clause-err
returns-in_default-clause-err g c =
    let read = command_view c.in-Ok.read in
    let state : SinkState = sink_state g.S.Sink.bytes g.S.Sink.failed c.args.sink in (
      read,
      c.in-Ok.ensures.ok (rules_of c.args.registry.now),
      search rules,
      subst (λ (why : Why). HasFailedBy why (InLanes c.args.lanes) (form c.args.command c.args.lanes read c.args.start c.args.operation)
          (record { plan = applied_plan c.args.command c.args.lanes read; script = applied_script c.args.command c.args.lanes read; hooks = rules_of c.args.registry.now }) c.at_once.result.report state state)
          (sym c.at_once.ensures.why) (inl (record { report_is = c.at_once.ensures.nothing; same = refl })),
      tt,
    )

pub returns-in-Ok-result-clause-ok : goal.returns-in-Ok-result-clause-ok
returns-in-Ok-result-clause-ok g c =
    let read = command_view c.in-Ok.read in
    let prepared = c.in-Ok-prepare.ensures in
    let run = c.report.ensures in
    record {
      applied = record {
        read = read;
        is_read = c.in-Ok.ensures.ok (rules_of c.args.registry.now);
        sizes = search rules;
        streamed = subst (λ report. HasStreamedBy (InLanes c.args.lanes) (form c.args.command c.args.lanes read c.args.start c.args.operation)
            (record { plan = applied_plan c.args.command c.args.lanes read; script = applied_script c.args.command c.args.lanes read; hooks = rules_of c.args.registry.now }) report
            (sink_state g.S.Sink.bytes g.S.Sink.failed c.args.sink) (sink_state g.S.Sink.bytes g.S.Sink.failed c.apply_prepared_in_lanes-sink.result.0))
            (sym run.run) (of_ok c.apply_prepared_in_lanes-sink.result.1 c.in-Ok-result.run' _ c.in-Ok-result.is (c.apply_prepared_in_lanes-sink.ensures.ok c.args.command read prepared));
        keeps = tt;
      };
      error = run.error ∙ ap₂ (λ notes (report : Report). contains_error notes report.counts) prepared.notes (sym run.run);
    }

pub returns-clause-err : goal.returns-clause-err
returns-clause-err g c =
    let read = command_view c.in-Ok.read in (
      read,
      c.in-Ok.ensures.ok (rules_of c.args.registry.now),
      search rules,
      of_err c.apply_prepared_in_lanes-sink.result.1 c.in-Err-result.fault _ c.in-Err-result.is (c.apply_prepared_in_lanes-sink.ensures.err c.args.command read c.in-Ok-prepare.ensures),
      tt,
    )
