use Rattle.std.specs.Prelude.{◌≡◌}
use Rattle.std.specs.Io.Buffered.{reader_remaining}
use Rattle.stream_watch_cli.specs.declared.display.Display.TheVariants.{Lines}
use Rattle.stream_watch_cli.proofs.Shown.{Shown}
use Rattle.stream_watch_cli.proofs.watching.watch.Given as goal

abbrev pub invariant-lines : goal.invariant-lines
invariant-lines g l =
    (l.initial.display ≡ Lines → l.display ≡ Lines)
    × Shown l.fn.mode l.fn.looks (l.initial.display ≡ Lines) (reader_remaining g.R.Read.remaining l.initial.reader) (reader_remaining g.R.Read.remaining l.reader)
    l.judge l.watcher (g.W.Write.contents l.initial.output) (g.W.Write.contents l.output)
