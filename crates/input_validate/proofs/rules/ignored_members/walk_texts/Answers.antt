use Rattle.std.proofs.Common.{◌<◌, length, ap, ◌∙◌, arith}
use Rattle.input_validate.specs.Findings.{reported}
use Rattle.input_validate.proofs.Trees.{texts_more}
use Rattle.input_validate.proofs.rules.ignored_members.walk_texts.Goals as goal

pub loop-number-preserved : goal.loop-number-preserved
loop-number-preserved c =
    let below : c.loop-number.number < length c.args.texts.now = omega arith in
    c.in_ok-all.ensures _ _ c.loop-number.invariant c.in_ok-unless_known.ensures
    ∙ ap reported (texts_more c.args.names.now c.args.texts.now c.loop-number.number _ below)
