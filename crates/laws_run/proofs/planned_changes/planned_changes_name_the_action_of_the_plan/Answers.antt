use Rattle.laws_run.proofs.WordsOfPlans.{all_in_words}
use Rattle.laws_run.proofs.planned_changes.planned_changes_name_the_action_of_the_plan.Goals as goal

pub returns : goal.returns
returns c = all_in_words
