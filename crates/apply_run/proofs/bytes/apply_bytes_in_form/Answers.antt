use Rattle.std.proofs.Common.{◌∙◌, ap₂, refl, rules, subst, sym}
use Rattle.std.specs.Option.{option_copied}
use Rattle.apply_hooks.specs.Registry.{rules_of}
use Rattle.apply_writer.specs.declared.report.Report.{Report}
use Rattle.apply_writer.specs.Stream.Terraform.{contains_error}
use Rattle.apply_run.specs.Bytes.{Inputs}
use Rattle.apply_run.specs.FromBytes.{AppliedInputs, form_for, work_for}
use Rattle.apply_run.specs.Run.{HasStreamedBy, by_workers, sink_state}
use Rattle.apply_run.proofs.FromBytes.{unread}
use Rattle.apply_run.proofs.Runs.Headline.{of_err, of_ok}
use Rattle.apply_run.proofs.bytes.apply_bytes_in_form.Goals as goal

pub returns-in-Err-clause-err : goal.returns-in-Err-clause-err
returns-in-Err-clause-err g c =
    let given : Inputs = record { plan = c.args.plan.now; script = option_copied c.args.script; hooks = rules_of c.args.registry.now } in
    unread (by_workers c.args.options) c.args.form given c.args.options.start c.args.options.operation c.in-Err.refusal _ (c.in-Err.ensures.err given.hooks)

pub returns-then-read-clause-err : goal.returns-then-read-clause-err
returns-then-read-clause-err g c =
    let given : Inputs = record { plan = c.args.plan.now; script = option_copied c.args.script; hooks = rules_of c.args.registry.now } in
    let was = c.in-Ok.ensures.ok given.hooks in
    (was.stated, was.is_read, sym was.read_as.waits ∙ c.if-read.true, refl)

pub returns-then-not-in_range-clause-err : goal.returns-then-not-in_range-clause-err
returns-then-not-in_range-clause-err g c =
    let given : Inputs = record { plan = c.args.plan.now; script = option_copied c.args.script; hooks = rules_of c.args.registry.now } in
    let was = c.in-Ok.ensures.ok given.hooks in
    (was.stated, was.is_read, search rules, refl, (sym was.read_as.waits ∙ c.if-read.false))

pub returns-in-Ok-result-clause-ok : goal.returns-in-Ok-result-clause-ok
returns-in-Ok-result-clause-ok g c =
    let given : Inputs = record { plan = c.args.plan.now; script = option_copied c.args.script; hooks = rules_of c.args.registry.now } in
    let was = c.in-Ok.ensures.ok given.hooks in
    let run = c.report.ensures in
    record {
      applied = record {
        read = was.stated;
        is_read = was.is_read;
        sizes = search rules;
        streamed = subst (λ report. HasStreamedBy (by_workers c.args.options) (form_for c.args.form was.stated c.args.options.start c.args.options.operation)
            (work_for c.args.form given was.stated) report (sink_state g.S.Sink.bytes g.S.Sink.failed c.args.sink)
            (sink_state g.S.Sink.bytes g.S.Sink.failed c.apply_read-sink.result.0))
            (sym run.run) (of_ok c.apply_read-sink.result.1 c.in-Ok-result.run' _ c.in-Ok-result.is (c.apply_read-sink.ensures.ok given was.stated refl was.read_as));
        keeps = (sym was.read_as.waits ∙ c.if-read.false);
      };
      error = run.error ∙ ap₂ (λ (applied : AppliedInputs) (report : Report). contains_error applied.extras.notes report.counts) was.read_as.applied (sym run.run);
    }

pub returns-clause-err : goal.returns-clause-err
returns-clause-err g c =
    let given : Inputs = record { plan = c.args.plan.now; script = option_copied c.args.script; hooks = rules_of c.args.registry.now } in
    let was = c.in-Ok.ensures.ok given.hooks in (
      was.stated,
      was.is_read,
      search rules,
      of_err c.apply_read-sink.result.1 c.in-Err-result.fault _ c.in-Err-result.is (c.apply_read-sink.ensures.err given was.stated refl was.read_as),
      (sym was.read_as.waits ∙ c.if-read.false),
    )
