use Rattle.std.proofs.Common.{arith}
use Rattle.std.specs.Prelude.{codes}
use Rattle.stream_record.specs.ScriptText.{provisioner_text, provisioners_text}
use Rattle.stream_record.proofs.Items.{drop_item, list_ended, list_pushed}
use Rattle.stream_record.proofs.provisioners.push_provisioners.Goals as goal

pub loop-number-preserved : goal.loop-number-preserved
loop-number-preserved c =
    list_pushed (codes ",\"provisioners\":[") (codes "]") provisioner_text c.args.provisioners.now c.loop-number.number c.loop-number.later
    (provisioners_text c.args.provisioners.now) _ _ c.loop-number.text c.push_opening.new.text c.push_provisioner.new.text
    (drop_item c.args.provisioners.now c.loop-number.number c.get.result.now c.get.ensures) c.loop-number.invariant c.push_opening.ensures c.push_provisioner.ensures

pub returns : goal.returns
returns c =
    list_ended (codes ",\"provisioners\":[") (codes "]") provisioner_text c.args.provisioners.now c.loop-number.number c.loop-number.later
    (provisioners_text c.args.provisioners.now) _ c.loop-number.text c.push_closing.new.text
    (omega (arith, c.len-number-end.ensures.len, c.loop-number-test.false)) c.loop-number.invariant c.push_closing.ensures
