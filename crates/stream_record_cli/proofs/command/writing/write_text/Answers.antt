-- A flush that fails leaves the whole text written.
use Rattle.stream_record_cli.proofs.Outcomes.{flushed}
use Rattle.stream_record_cli.proofs.command.writing.write_text.Goals as goal

pub returns-clause-part : goal.returns-clause-part
returns-clause-part g c =
    flushed c.flush.result (g.W.Write.contents c.args.out.now) (g.W.Write.contents c.write_whole.new.out) (g.W.Write.contents c.flush.new.out) c.args.text.now
    c.in_ok-write_whole.ensures.ok c.flush.ensures
