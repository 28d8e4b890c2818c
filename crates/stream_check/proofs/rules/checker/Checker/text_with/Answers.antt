use Rattle.stream_check.specs.Lines.{next, read_text}
use Rattle.stream_check.specs.MessageView.{message_view}
use Rattle.stream_check.proofs.OneLine.{continues_as, no_text, of_text}
use Rattle.stream_check.proofs.rules.checker.Checker.text_with.Goals as goal

pub returns-in-Ok : goal.returns-in-Ok
returns-in-Ok c =
    let m = message_view c.in-Ok.message in
    continues_as c.args.self.now c.message.new.self (λ messages. next messages m) (λ messages. read_text c.args.find messages c.args.text.now) c.message.result
    (λ messages. of_text c.args.find c.args.text.now m messages c.in-Ok.ensures) c.message.ensures

pub returns-in-Err : goal.returns-in-Err
returns-in-Err c = λ messages read. (read, λ memory. no_text c.args.find c.args.text.now c.in-Err.fault messages (c.in-Err.ensures memory))
