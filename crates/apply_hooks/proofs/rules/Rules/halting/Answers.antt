use Rattle.std.proofs.Common.{◌∙◌, refl}
use Rattle.apply_hooks.proofs.rules.Rules.halting.Goals as goal

-- the list was empty before the rule was added, and the rule's text is the one that is given
pub returns-in-Ok : goal.returns-in-Ok
returns-in-Ok c = c.in-Ok.ensures.ok ∙ rw (c.new-rules.ensures, c.in_ok-new.ensures) refl
