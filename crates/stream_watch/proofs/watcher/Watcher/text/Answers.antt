use Rattle.std.proofs.Common.{Option, subst, sym}
use Rattle.std.specs.Prelude.{IfSome}
use Rattle.stream_watch.specs.State.{Tells, looks_of, state_of}
use Rattle.stream_watch.specs.Telling.{TellsProgress, text_told}
use Rattle.stream_watch.specs.declared.message.progress.ProgressMessage.{ProgressMessage}
use Rattle.stream_watch.proofs.RowTellings.{on_ok}
use Rattle.stream_watch.proofs.Tellings.{tells_as}
use Rattle.stream_watch.proofs.watcher.Watcher.text.Goals as goal

pub returns-in-Some : goal.returns-in-Some
returns-in-Some c =
    let w0 = c.args.self.now in
    let w1 = c.progress.new.self in
    let read = record w0 { scratch = c.read_progress.new.scratch } in
    let line = c.args.line.now in
    let progresses = subst (λ (o : Option ProgressMessage). IfSome o (λ message. TellsProgress w0.find line message.moment)) c.in-Some.is c.in_ok-message.ensures in
    let told = tells_as read w1 _ _ (sym (progresses (looks_of w0) (state_of w0))) c.progress.ensures in
    record { looks = told.looks; find = told.find; state = told.state; bytes = told.bytes }

pub returns-in-None : goal.returns-in-None
returns-in-None c =
    let w0 = c.args.self.now in
    let w1 = c.message_or_line.new.self in
    let read = record w0 { scratch = c.read_progress.new.scratch } in
    let told = text_told (looks_of w0) (state_of w0) w0.find c.args.line.now in
    on_ok c.message_or_line.result (Tells read w1 told) (Tells w0 w1 told) c.message_or_line.ensures
    (λ tells. record { looks = tells.looks; find = tells.find; state = tells.state; bytes = tells.bytes })
