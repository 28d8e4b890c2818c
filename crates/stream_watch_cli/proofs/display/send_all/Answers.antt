use Rattle.std.proofs.KnownBytes.{Appends-kept}
use Rattle.stream_watch_cli.proofs.display.send_all.Goals as goal

pub returns : goal.returns
returns g c =
    let sent = c.in_ok-send.ensures in
    record {
      looks = sent.looks;
      find = sent.find;
      state = sent.state;
      empty = sent.empty;
      written = λ bytes has. Appends-kept (g.W.Write.contents c.args.output.now) (g.W.Write.contents c.send.new.output) (g.W.Write.contents c.flush.new.out) bytes
          (sent.written bytes has) c.flush.ensures;
    }
