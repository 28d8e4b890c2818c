use Rattle.std.proofs.Common.{Some, sym, ap, ◌∙◌}
use Rattle.serde_json.specs.Data.{Data}
use Rattle.apply_json.specs.Tree.{◌>>=◌}
use Rattle.apply_prior.specs.Prior.{PriorOfPlan, prior_in}
use Rattle.apply_prior.proofs.Trimmed.{same_prior}
use Rattle.apply_prior.proofs.reading.read_prior.Goals as goal

pub returns-in-Ok-clause-ok : goal.returns-in-Ok-clause-ok
returns-in-Ok-clause-ok c =
    let collected = c.in_ok-plan.ensures.ok.1 in
    ap (λ o. o >>= λ (plan : Data). Some (prior_in plan)) collected.1
    ∙ ap (λ (prior : PriorOfPlan). Some prior) (sym (c.in-Ok.ensures ∙ ap prior_in collected.2 ∙ same_prior collected.0))
