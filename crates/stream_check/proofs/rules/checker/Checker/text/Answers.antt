use Rattle.stream_check.specs.Lines.{read_text}
use Rattle.stream_check.proofs.OneLine.{continues_from, continues_to}
use Rattle.stream_check.proofs.rules.checker.Checker.text.Goals as goal

pub returns : goal.returns
returns c =
    continues_from c.args.self.now _ _ (λ messages. read_text c.args.find messages c.args.text.now) c.text_with-answer.result (λ messages read. record { tally = read.tally; state = read.state; unbegun = read.unbegun })
    (continues_to _ c.text_with-answer.new.self _ (λ messages. read_text c.args.find messages c.args.text.now) c.text_with-answer.result (λ messages read. record { tally = read.tally; state = read.state; unbegun = read.unbegun }) c.text_with-answer.ensures)
