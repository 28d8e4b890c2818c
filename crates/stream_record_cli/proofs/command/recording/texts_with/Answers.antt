use Rattle.std.proofs.lemmas.Result.{err_from_is_err_and}
use Rattle.apply_plan_terraform.specs.Outputs.{outputs_view}
use Rattle.stream_record_waits.specs.Recorded.{graph_in}
use Rattle.term_words.specs.MessageTexts.{text_bytes}
use Rattle.stream_record_cli.proofs.Streams.{recorded, unrecorded}
use Rattle.stream_record_cli.proofs.command.recording.texts_with.Goals as goal

pub returns-in_err-script-clause-err : goal.returns-in_err-script-clause-err
returns-in_err-script-clause-err g c =
    let p = err_from_is_err_and c.from_residual-in_err-script.result c.from_residual-in_err-script.ensures.1 in
    rw p.1
    (unrecorded c.args.bytes.now c.args.plan.now (graph_in c.args.waits) c.args.choice c.in-Ok.extras.note (outputs_view c.in-Ok.extras.outputs) c.in_ok-stream.stream c.in-Ok.ensures.ok
    (g.R.Read.remaining c.args.reader.now) _ p.0.fault p.2 c.in_ok-stream.ensures.ok c.in_err-script.ensures.err)

pub returns-clause-ok : goal.returns-clause-ok
returns-clause-ok g c =
    recorded c.args.bytes.now c.args.plan.now (graph_in c.args.waits) c.args.choice c.in-Ok.extras.note (outputs_view c.in-Ok.extras.outputs) c.in_ok-stream.stream c.in-Ok.ensures.ok
    (g.R.Read.remaining c.args.reader.now) (text_bytes c.in_ok-script.field-0.script) (text_bytes c.in_ok-script.field-0.warnings) c.in_ok-stream.ensures.ok c.in_ok-script.ensures.ok
