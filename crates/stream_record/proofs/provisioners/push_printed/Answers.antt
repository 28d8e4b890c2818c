use Rattle.std.proofs.Common.{arith}
use Rattle.std.specs.Prelude.{codes}
use Rattle.stream_record.specs.ScriptText.{printed_text, timed_text}
use Rattle.stream_record.proofs.Items.{drop_item, list_ended, list_pushed}
use Rattle.stream_record.proofs.provisioners.push_printed.Goals as goal

pub loop-number-preserved : goal.loop-number-preserved
loop-number-preserved c =
    list_pushed (codes ",\"output\":[") (codes "]") (timed_text c.args.seconds) c.args.texts.now c.loop-number.number c.loop-number.later
    (printed_text c.args.seconds c.args.texts.now) _ _ c.loop-number.text c.push_opening.new.text c.push_timed.new.text
    (drop_item c.args.texts.now c.loop-number.number c.get.result.now c.get.ensures) c.loop-number.invariant c.push_opening.ensures c.push_timed.ensures

pub returns : goal.returns
returns c =
    list_ended (codes ",\"output\":[") (codes "]") (timed_text c.args.seconds) c.args.texts.now c.loop-number.number c.loop-number.later
    (printed_text c.args.seconds c.args.texts.now) _ c.loop-number.text c.push_closing.new.text
    (omega (arith, c.len-number-end.ensures.len, c.loop-number-test.false)) c.loop-number.invariant c.push_closing.ensures
