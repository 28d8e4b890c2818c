use Rattle.std.proofs.Common.{subst}
use Rattle.std.specs.Io.Buffered.{reader_remaining}
use Rattle.stream_play.specs.CommandLine.{IsFaultStatus}
use Rattle.stream_play.proofs.Sent.{choice_sent_on}
use Rattle.stream_play.proofs.command.tool.PlayTool.run.Goals as goal

pub returns-in-Err-clause-gives : goal.returns-in-Err-clause-gives
returns-in-Err-clause-gives g c = (
  choice_sent_on c.args.settings.now.run c.args.settings.now.find c.in-Err.fault (reader_remaining g.R.Read.remaining c.args.reader.now)
      (g.W.Write.contents c.args.out.now) (g.W.Write.contents c.play_input.new.out) (g.W.Write.contents c.send_on.new.out)
      c.in-Err.ensures c.send_on.ensures,
  subst (λ is_named. IsFaultStatus is_named c.in-Err.fault c.refuse.result) c.file.ensures.named c.refuse.ensures.status,
)
