use Rattle.std.proofs.Common.{◌<◌, ℕ, Option, length, ap, sym, ◌∙◌, arith}
use Rattle.serde_json.specs.View.{view}
use Rattle.input_validate.specs.Findings.{reported}
use Rattle.input_validate.specs.ScriptFindings.{in_output}
use Rattle.input_validate.proofs.OutputsSoFar.{last_more, outputs_more}
use Rattle.input_validate.proofs.script.output.walk_items.Goals as goal

pub loop-number-preserved : goal.loop-number-preserved
loop-number-preserved c =
    let below : c.loop-number.number < length c.args.items.now = omega arith in
    let item = c.index-items-number.result in
    record {
      findings = c.in_ok-all.ensures _ _ c.loop-number.invariant.findings (c.in_ok-findings.ensures _
          (c.in_ok-walk_output.ensures ∙ ap (λ (before : Option ℕ). reported (in_output c.args.seconds before (view item))) c.loop-number.invariant.before))
          ∙ ap reported (outputs_more c.args.seconds c.args.items.now c.loop-number.number item below c.index-items-number.is);
      before = c.comes_after-before.ensures ∙ sym (last_more c.args.seconds c.args.items.now c.loop-number.number item below c.index-items-number.is);
    }
