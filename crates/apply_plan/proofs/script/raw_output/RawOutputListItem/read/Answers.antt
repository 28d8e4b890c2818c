use Rattle.std.proofs.Common.{sym, ◌∙◌}
use Rattle.apply_plan.proofs.Scripts.Held.{not_text, output_is}
use Rattle.apply_plan.proofs.script.raw_output.RawOutputListItem.read.Goals as goal

pub returns-in_default : goal.returns-in_default
returns-in_default c =
    let done = c.in_ok-text.ensures.ok in
    record {
      ok = (done.0, done.1, c.of.ensures ∙ output_is c.read_object.new.slots done.0 (λ t is. not_text c.in_ok-text.field-0 c.in_default.not-Text t (is ∙ sym done.2)) done.3);
      shorter = c.in_ok-text.ensures.shorter;
      err = λ never. absurd cc;
    }
