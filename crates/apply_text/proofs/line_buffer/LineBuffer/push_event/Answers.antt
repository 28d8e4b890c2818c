use Rattle.std.proofs.Common.{◌++◌, ap, refl, ◌∙◌}
use Rattle.std.specs.Prelude.{get_or}
use Rattle.std.proofs.lemmas.Result.{on_ok_weaker}
use Rattle.apply_model.specs.declared.plan.step_kind.StepKind.TheVariants.{Create}
use Rattle.apply_text.specs.declared.applied_step.AppliedStep.{AppliedStep}
use Rattle.apply_text.proofs.LinesAdded.{event_is}
use Rattle.apply_text.proofs.line_buffer.LineBuffer.push_event.Goals as goal

pub returns-clause-ok : goal.returns-clause-ok
returns-clause-ok c =
    let step : AppliedStep = record { change = c.change-change.result; kind = get_or c.steps.result.now c.args.event.now.step Create; outcome = c.outcome.result } in
    on_ok_weaker c.push_step.result (λ e. e ∙ ap (λ line. c.args.self.now ++ line) (event_is c.args.plan.now c.args.script.now c.args.start c.args.clock c.args.event.now step c.steps.result.now _ c.change-change.ensures c.steps.ensures.steps refl c.outcome.ensures.given c.requires.has_step refl)) c.push_step.ensures.ok
