use Rattle.apply_text_planning.proofs.Sums.{counts_lines}
use Rattle.apply_text_planning.proofs.laws.the_sums_of_a_plan_are_those_of_its_lines.Goals as goal

pub returns : goal.returns
returns c = counts_lines
