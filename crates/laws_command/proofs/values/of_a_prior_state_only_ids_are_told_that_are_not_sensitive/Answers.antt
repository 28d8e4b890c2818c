use Rattle.std.proofs.Common.{◌≡◌, ◌∙◌, List, Ok, Option, map, subst, sym, ℕ}
use Rattle.apply_planning_script.specs.Told.{told_view}
use Rattle.apply_command.specs.Reading.{told_for}
use Rattle.laws_command.proofs.SamePlans.{same_bytes, same_prior}
use Rattle.laws_command.proofs.values.of_a_prior_state_only_ids_are_told_that_are_not_sensitive.Goals as goal

pub returns-clause-trees : goal.returns-clause-trees
returns-clause-trees c = same_prior

pub returns-clause-bytes : goal.returns-clause-bytes
returns-clause-bytes c = same_bytes

pub returns-clause-read : goal.returns-clause-read
returns-clause-read c = λ command refresh one other read same_prior same_script was stated. record {
  stated = stated;
  prior = was.prior;
  prior_is = sym same_prior ∙ was.prior_is;
  drifts_are = was.drifts_are;
  outputs_are = was.outputs_are;
  told_are = subst (λ (script : Option (List ℕ)). told_for command refresh read.stated was.prior script ≡ Ok (map told_view read.told)) same_script was.told_are;
}
