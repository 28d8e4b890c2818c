use Rattle.std.proofs.Common.{ap, ◌∙◌}
use Rattle.std.specs.Prelude.{is_some}
use Rattle.apply_model.proofs.Scripts.Provisioners.{fails_for_cause, is_some-copied}
use Rattle.apply_model.proofs.script.outcome.Outcome.fails.Goals as goal

pub returns : goal.returns
returns c = c.is_some.ensures ∙ is_some-copied c.failure.result ∙ ap (λ o. is_some o) c.failure.ensures ∙ fails_for_cause c.args.self.now
