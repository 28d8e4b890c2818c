use Rattle.std.proofs.Common.{◌∙◌, ap₂, refl, rules, subst, sym}
use Rattle.std.specs.Option.{option_copied}
use Rattle.apply_hooks.specs.Registry.{rules_of}
use Rattle.apply_writer.specs.declared.report.Report.{Report}
use Rattle.apply_writer.specs.Stream.Terraform.{contains_error}
use Rattle.apply_run.specs.Bytes.{Inputs}
use Rattle.apply_run.specs.FromBytes.{AppliedInputs, form_for, work_for}
use Rattle.apply_run.specs.Run.{HasStreamedBy, sink_state}
use Rattle.apply_run.specs.Schedule.{InLanes}
use Rattle.apply_run.proofs.FromBytes.{unread}
use Rattle.apply_run.proofs.Runs.Headline.{of_err, of_ok}
use Rattle.apply_run.proofs.bytes_in_lanes.apply_bytes_in_form_and_lanes.Goals as goal

pub returns-in-Err-clause-err : goal.returns-in-Err-clause-err
returns-in-Err-clause-err g c =
    let given : Inputs = record { plan = c.args.plan.now; script = option_copied c.args.script; hooks = rules_of c.args.registry.now } in
    unread (InLanes c.args.lanes) c.args.form given c.args.start c.args.operation c.in-Err.refusal _ (c.in-Err.ensures.err given.hooks)

pub returns-then-not-are_lanes-clause-err : goal.returns-then-not-are_lanes-clause-err
returns-then-not-are_lanes-clause-err g c =
    let given : Inputs = record { plan = c.args.plan.now; script = option_copied c.args.script; hooks = rules_of c.args.registry.now } in
    let was = c.in-Ok.ensures.ok given.hooks in
    (was.stated, was.is_read, search rules, refl, tt)

pub returns-in-Ok-result-clause-ok : goal.returns-in-Ok-result-clause-ok
returns-in-Ok-result-clause-ok g c =
    let given : Inputs = record { plan = c.args.plan.now; script = option_copied c.args.script; hooks = rules_of c.args.registry.now } in
    let was = c.in-Ok.ensures.ok given.hooks in
    let run = c.report.ensures in
    record {
      applied = record {
        read = was.stated;
        is_read = was.is_read;
        sizes = search rules;
        streamed = subst (λ report. HasStreamedBy (InLanes c.args.lanes) (form_for c.args.form was.stated c.args.start c.args.operation)
            (work_for c.args.form given was.stated) report (sink_state g.S.Sink.bytes g.S.Sink.failed c.args.sink)
            (sink_state g.S.Sink.bytes g.S.Sink.failed c.apply_read-sink.result.0))
            (sym run.run) (of_ok c.apply_read-sink.result.1 c.in-Ok-result.run' _ c.in-Ok-result.is (c.apply_read-sink.ensures.ok given was.stated refl was.read_as));
        keeps = tt;
      };
      error = run.error ∙ ap₂ (λ (applied : AppliedInputs) (report : Report). contains_error applied.extras.notes report.counts) was.read_as.applied (sym run.run);
    }

pub returns-clause-err : goal.returns-clause-err
returns-clause-err g c =
    let given : Inputs = record { plan = c.args.plan.now; script = option_copied c.args.script; hooks = rules_of c.args.registry.now } in
    let was = c.in-Ok.ensures.ok given.hooks in (
      was.stated,
      was.is_read,
      search rules,
      of_err c.apply_read-sink.result.1 c.in-Err-result.fault _ c.in-Err-result.is (c.apply_read-sink.ensures.err given was.stated refl was.read_as),
      tt,
    )
