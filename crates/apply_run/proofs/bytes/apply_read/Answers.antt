use Rattle.std.proofs.Common.{◌∙◌, IfErr, IfOk}
use Rattle.apply_hooks.specs.Registry.{rules_of}
use Rattle.apply_run.specs.Run.{HasFailedBy, HasStreamedBy, by_workers, sink_state}
use Rattle.apply_run.proofs.FromBytes.{as_stated, plain_is, terraform_is}
use Rattle.apply_run.proofs.bytes.apply_read.Goals as goal

pub returns-in-Ok-clause-ok : goal.returns-in-Ok-clause-ok
returns-in-Ok-clause-ok g c given stated hooks read_as =
    as_stated (λ form work. IfOk c.apply_in_form.result.1 (λ report. HasStreamedBy (by_workers c.args.options) form work report
    (sink_state g.S.Sink.bytes g.S.Sink.failed c.args.sink) (sink_state g.S.Sink.bytes g.S.Sink.failed c.apply_in_form.result.0)))
    c.args.form given stated c.args.read.now (rules_of c.args.registry.now) c.args.options.start c.args.options.operation _ hooks read_as
    (plain_is c.args.form c.args.read.now c.in-Ok.lines c.args.options.start c.args.options.operation c.in-Applystream.is c.in-Ok.ensures) c.apply_in_form.ensures.ok

pub returns-in-Ok-clause-err : goal.returns-in-Ok-clause-err
returns-in-Ok-clause-err g c given stated hooks read_as =
    as_stated (λ form work. IfErr c.apply_in_form.result.1 (λ fault. HasFailedBy fault.why (by_workers c.args.options) form work fault.report
    (sink_state g.S.Sink.bytes g.S.Sink.failed c.args.sink) (sink_state g.S.Sink.bytes g.S.Sink.failed c.apply_in_form.result.0)))
    c.args.form given stated c.args.read.now (rules_of c.args.registry.now) c.args.options.start c.args.options.operation _ hooks read_as
    (plain_is c.args.form c.args.read.now c.in-Ok.lines c.args.options.start c.args.options.operation c.in-Applystream.is c.in-Ok.ensures) c.apply_in_form.ensures.err

pub returns-in-Ok-new-clause-ok : goal.returns-in-Ok-new-clause-ok
returns-in-Ok-new-clause-ok g c given stated hooks read_as =
    as_stated (λ form work. IfOk c.apply_in_form-in-Ok-new.result.1 (λ report. HasStreamedBy (by_workers c.args.options) form work report
    (sink_state g.S.Sink.bytes g.S.Sink.failed c.args.sink) (sink_state g.S.Sink.bytes g.S.Sink.failed c.apply_in_form-in-Ok-new.result.0)))
    c.args.form given stated c.args.read.now (rules_of c.args.registry.now) c.args.options.start c.args.options.operation _ hooks read_as
    (terraform_is c.args.form c.args.read.now c.in-Ok-new.lines c.args.options.start c.args.options.operation c.in-Terraform.is (let made = c.in-Ok-new.ensures in let extras = c.stream_extras-extras.ensures in
    (made.0, made.1, made.2 ∙ extras.details, made.3 ∙ extras.notes, made.4 ∙ extras.outputs, made.5, made.6))) c.apply_in_form-in-Ok-new.ensures.ok

pub returns-in-Ok-new-clause-err : goal.returns-in-Ok-new-clause-err
returns-in-Ok-new-clause-err g c given stated hooks read_as =
    as_stated (λ form work. IfErr c.apply_in_form-in-Ok-new.result.1 (λ fault. HasFailedBy fault.why (by_workers c.args.options) form work fault.report
    (sink_state g.S.Sink.bytes g.S.Sink.failed c.args.sink) (sink_state g.S.Sink.bytes g.S.Sink.failed c.apply_in_form-in-Ok-new.result.0)))
    c.args.form given stated c.args.read.now (rules_of c.args.registry.now) c.args.options.start c.args.options.operation _ hooks read_as
    (terraform_is c.args.form c.args.read.now c.in-Ok-new.lines c.args.options.start c.args.options.operation c.in-Terraform.is (let made = c.in-Ok-new.ensures in let extras = c.stream_extras-extras.ensures in
    (made.0, made.1, made.2 ∙ extras.details, made.3 ∙ extras.notes, made.4 ∙ extras.outputs, made.5, made.6))) c.apply_in_form-in-Ok-new.ensures.err
