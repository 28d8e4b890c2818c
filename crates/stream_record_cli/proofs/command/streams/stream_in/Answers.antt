use Rattle.std.proofs.Common.{Option, subst, sym}
use Rattle.std.specs.Prelude.{IfSome}
use Rattle.std.proofs.lemmas.Result.{err_from_is_err_and}
use Rattle.stream_runs.specs.declared.choice.RunChoice.{RunChoice}
use Rattle.stream_record_cli.specs.StreamsRead.{IsRead, IsUnread}
use Rattle.stream_record_cli.proofs.RunsRead.{faulty, unselected, was_read}
use Rattle.stream_record_cli.proofs.command.streams.stream_in.Goals as goal

pub returns-in_err-run-in-Some-clause-err : goal.returns-in_err-run-in-Some-clause-err
returns-in_err-run-in-Some-clause-err g c =
    let p = err_from_is_err_and c.from_residual-in_err-run-in-Some.result c.from_residual-in_err-run-in-Some.ensures.1 in
    let left = g.R.Read.remaining c.args.reader.now in
    rw p.1
    (subst (λ (run : Option RunChoice). IfSome left (λ bytes. IsUnread c.args.plan.now c.args.find run bytes p.0.fault)) (sym c.in-Some.is)
    (unselected c.args.plan.now c.args.find c.in-Some.choice left _ p.0.fault p.2 c.in_err-run-in-Some.ensures.selected))

pub returns-in_err-stream-in-Some-clause-err : goal.returns-in_err-stream-in-Some-clause-err
returns-in_err-stream-in-Some-clause-err g c =
    let p = err_from_is_err_and c.from_residual-in_err-stream-in-Some.result c.from_residual-in_err-stream-in-Some.ensures.1 in
    let left = g.R.Read.remaining c.args.reader.now in
    rw p.1
    (subst (λ (run : Option RunChoice). IfSome left (λ bytes. IsUnread c.args.plan.now c.args.find run bytes p.0.fault)) (sym c.in-Some.is)
    (faulty c.args.plan.now c.args.find c.in-Some.choice c.in_ok-run-in-Some.run' left _ p.0.fault p.2 c.in_ok-run-in-Some.ensures.selected c.in_err-stream-in-Some.ensures.read))

pub returns-in_ok-stream-in-Some-clause-ok : goal.returns-in_ok-stream-in-Some-clause-ok
returns-in_ok-stream-in-Some-clause-ok g c =
    let left = g.R.Read.remaining c.args.reader.now in
    subst (λ (run : Option RunChoice). IfSome left (λ bytes. IsRead c.args.plan.now c.args.find run bytes c.in_ok-stream-in-Some.stream)) (sym c.in-Some.is)
    (was_read c.args.plan.now c.args.find c.in-Some.choice c.in_ok-run-in-Some.run' left c.in_ok-stream-in-Some.stream c.in_ok-run-in-Some.ensures.selected c.in_ok-stream-in-Some.ensures.read)
