use Rattle.laws_steps_again.proofs.Retold.{answered, ends_alike, planned_ends_alike}
use Rattle.laws_steps_again.proofs.recorded_outcomes_end_as_the_steps_ended.Goals as goal

pub returns-clause-answered : goal.returns-clause-answered
returns-clause-answered c = λ work n d k begun recorded id other kind again has at begins. answered work n begun recorded id again other has d k kind at begins

pub returns-clause-plain : goal.returns-clause-plain
returns-clause-plain c = λ work n d k begun recorded id other kind again has at begins told.
    ends_alike work n begun recorded id again other has d k kind at begins told

pub returns-clause-planned : goal.returns-clause-planned
returns-clause-planned c = λ work n d k begun recorded id other kind planned again has at begins told.
    planned_ends_alike work n begun recorded id again other has d k kind at begins planned told
