use Rattle.std.proofs.Common.{◌∙◌, ap, sym}
use Rattle.stream_record_outcomes.specs.Provisioners.{ProvisionerRun}
use Rattle.stream_record_outcomes.proofs.Chains.{last_until_at}
use Rattle.stream_record_outcomes.proofs.outcome.last_until.Goals as goal

pub returns-in-Some : goal.returns-in-Some
returns-in-Some c =
    ap (λ (run : ProvisionerRun). run.until) c.run.view_is ∙ sym (last_until_at 0 c.args.runs.now c.in-Some.run'.now c.in-Some.ensures.value)
