use Rattle.std.proofs.Common.{Ok, ap, sym, ◌∙◌, arith}
use Rattle.std.specs.Option.{option_copied}
use Rattle.stream_check.specs.Lines.{next, read_line, read_text}
use Rattle.stream_check.specs.Message.{foreign}
use Rattle.stream_check.proofs.OneLine.{continues_as, piece_line, read_piece, too_long}
use Rattle.stream_check.proofs.rules.checker.Checker.line.Goals as goal

pub returns-in-Ok-Some : goal.returns-in-Ok-Some
returns-in-Ok-Some c =
    continues_as c.args.self.now c.text.new.self (λ messages. read_text c.args.mode.find messages c.in-Ok-Some.piece.now) (λ messages. read_line c.args.mode.find messages c.args.text.now) c.text.result
    (λ messages. ap (λ found. read_piece c.args.mode.find messages (Ok (option_copied found))) (sym c.in-Ok-Some.field-0-is)
    ∙ ap (read_piece c.args.mode.find messages) c.in-Ok-Some.ensures.value ∙ piece_line c.args.mode.find c.args.text.now messages (omega arith)) c.text.ensures

pub returns-in-Ok-None : goal.returns-in-Ok-None
returns-in-Ok-None c =
    continues_as c.args.self.now c.foreign.new.self (λ messages. next messages foreign) (λ messages. read_line c.args.mode.find messages c.args.text.now) c.foreign.result
    (λ messages. ap (λ found. read_piece c.args.mode.find messages (Ok (option_copied found))) (sym c.in-Ok-None.field-0-is)
    ∙ ap (read_piece c.args.mode.find messages) c.in-Ok-None.ensures.value ∙ piece_line c.args.mode.find c.args.text.now messages (omega arith)) c.foreign.ensures

pub returns-in-Err : goal.returns-in-Err
returns-in-Err c = λ messages read.
    (read, λ memory. sym (ap (read_piece c.args.mode.find messages) c.in-Err.ensures.value ∙ piece_line c.args.mode.find c.args.text.now messages (omega arith)))

pub returns-then-text-gt-MAX_BYTES : goal.returns-then-text-gt-MAX_BYTES
returns-then-text-gt-MAX_BYTES c = λ messages read. (read, λ memory. too_long c.args.mode.find c.args.text.now messages c.if-text-gt-MAX_BYTES.true)
