use Rattle.std.proofs.Common.{ap, ◌∙◌}
use Rattle.std.specs.Prelude.{unwrap_or}
use Rattle.apply_model.specs.Script.Outcome.{default_outcome, fails, took}
use Rattle.apply_events.proofs.step_facts.StepFacts.new.Goals as goal

-- a step fails where its outcome does
pub returns-in-Some-clause-fails : goal.returns-in-Some-clause-fails
returns-in-Some-clause-fails c = c.fails.ensures ∙ ap (λ answer. fails (unwrap_or answer default_outcome)) c.in-Some.ensures.given

-- and takes as long as its outcome does
pub returns-in-Some-clause-seconds : goal.returns-in-Some-clause-seconds
returns-in-Some-clause-seconds c = c.took.ensures ∙ ap (λ answer. took c.args.kind (unwrap_or answer default_outcome)) c.in-Some.ensures.given
