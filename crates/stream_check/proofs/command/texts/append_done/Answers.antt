use Rattle.std.proofs.Common.{Bool, subst, sym}
use Rattle.stream_check.specs.MessageTexts.{AppendsText}
use Rattle.stream_check.specs.Reports.{totals_text}
use Rattle.stream_check.proofs.MessageText.{text_then}
use Rattle.stream_check.proofs.command.texts.append_done.Goals as goal

pub returns-then-is_plan : goal.returns-then-is_plan
returns-then-is_plan c =
    subst (λ (is_plan : Bool). AppendsText c.args.words.now c.append_totals.new.words (totals_text is_plan c.args.totals)) (sym c.if-is_plan.true)
    (text_then c.args.words.now c.text.new.self c.append_totals.new.words _ _ c.text.ensures c.append_totals.ensures)
