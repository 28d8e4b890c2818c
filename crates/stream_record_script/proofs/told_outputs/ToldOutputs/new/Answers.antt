use Rattle.std.proofs.Common.{arith}
use Rattle.std.proofs.lemmas.Map.Text.{hash_map_updates_str}
use Rattle.stream_record_script.proofs.NamedOutputs.{named_more}
use Rattle.stream_record_script.proofs.told_outputs.ToldOutputs.new.Goals as goal

pub loop-number-preserved : goal.loop-number-preserved
loop-number-preserved c = λ name.
    named_more c.args.outputs.now c.loop-number.number _ c.as_str.result.now name _ _ c.loop-number-test.true (omega arith) c.index-outputs-number.is
    c.as_str.ensures (c.loop-number.invariant name)
    (hash_map_updates_str c.as_str.result.now c.loop-number.by_name c.insert.new.self _ c.in_ok-insert.ensures.updates name)
