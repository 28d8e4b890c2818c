use Rattle.std.proofs.Common.{◌&&◌, not, sym, ap, ◌∙◌}
use Rattle.std.specs.List.{list_any}
use Rattle.std.proofs.lemmas.Bool.{and_from, cond-true}
use Rattle.apply_model.specs.declared.plan.step_kind.StepKind.TheVariants.{Delete}
use Rattle.apply_model.specs.Plan.StepKind.{is_kind}
use Rattle.apply_model.specs.Script.Outcome.{makes_fail}
use Rattle.apply_model.proofs.script.outcome.Outcome.seconds_after.Goals as goal

-- in a delete that no provisioner has made fail
pub returns-then-not-make_fail : goal.returns-then-not-make_fail
returns-then-not-make_fail c =
    sym (cond-true (is_kind Delete c.args.kind && not (list_any makes_fail c.args.self.now.provisioners)) c.args.self.now.seconds 0
    (and_from (is_kind Delete c.args.kind) (not (list_any makes_fail c.args.self.now.provisioners))
    (sym c.is_delete.ensures ∙ c.if-is_delete.true)
    (ap not (sym c.make_fail.ensures ∙ c.if-not-make_fail.true))))
