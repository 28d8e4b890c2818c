use Rattle.std.proofs.Common.{◌≡◌, arith, subst, true}
use Rattle.std.specs.Io.KnownBytes.{Appends}
use Rattle.stream_watch_cli.proofs.display.send.Goals as goal

pub returns : goal.returns
returns g c =
    let whole : c.args.watcher.now.printer.printed.is_whole ≡ true = grind (arith, c.if-not-is_whole.false, c.is_whole.ensures) in
    record {
      looks = c.clear.ensures.looks;
      find = c.clear.ensures.find;
      state = c.clear.ensures.state;
      empty = c.clear.ensures.empty;
      written = λ bytes has. subst (Appends (g.W.Write.contents c.args.output.now) (g.W.Write.contents c.write_whole.new.out))
          (c.told.ensures bytes has whole) c.in_ok-write_whole.ensures.ok;
    }
