use Rattle.std.proofs.Common.{None, sym, ◌∙◌}
use Rattle.std.proofs.lemmas.Bool.{cond-false}
use Rattle.apply_model.proofs.script.provisioner.Provisioner.failure.Goals as goal

-- one that may not fail
pub returns-else-self : goal.returns-else-self
returns-else-self c = c.as_ref.ensures.value ∙ sym (cond-false c.args.self.now.may_fail None c.args.self.now.failed c.if-self.false)
