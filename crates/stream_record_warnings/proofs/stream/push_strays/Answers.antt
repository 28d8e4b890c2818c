use Rattle.std.proofs.Common.{ap}
use Rattle.stream_record_warnings.specs.StreamWarnings.{stray_warning}
use Rattle.stream_record_warnings.proofs.TextLemmas.{pieces_all, piece_more}
use Rattle.stream_record_warnings.proofs.stream.push_strays.Goals as goal

pub loop-stray-preserved : goal.loop-stray-preserved
loop-stray-preserved c =
    piece_more stray_warning c.args.strays.now c.loop-stray.stray-index c.stray-item.result c.args.text.now c.loop-stray.text c.push_stray.new.text
    c.loop-stray-test.true c.stray-item.is c.loop-stray.invariant c.push_stray.ensures

pub returns : goal.returns
returns c =
    pieces_all stray_warning c.args.strays.now c.loop-stray.stray-index c.args.text.now c.loop-stray.text c.loop-stray-test.false c.loop-stray.invariant
