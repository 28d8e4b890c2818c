use Rattle.laws_check.proofs.ErrorLevels.{outputs_are_fine, summary_is_fine}
use Rattle.laws_check.proofs.forms.no_end_has_the_level_error.Goals as goal

pub returns : goal.returns
returns c = record { summary = summary_is_fine; outputs = outputs_are_fine }
