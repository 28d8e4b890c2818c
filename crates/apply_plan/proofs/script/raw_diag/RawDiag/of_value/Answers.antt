use Rattle.std.proofs.Common.{Option, Some, option_map, ap, sym, ◌∙◌}
use Rattle.apply_model.specs.declared.script.diag.Diag.{Diag}
use Rattle.apply_plan.proofs.Scripts.Held.{diag_is, diag_there, not_absent}
use Rattle.apply_plan.proofs.script.raw_diag.RawDiag.of_value.Goals as goal

pub returns-in-Some : goal.returns-in-Some
returns-in-Some c = λ d same holds.
    ap (λ (o : Option Diag). option_map Some o) (c.in-Some.ensures ∙ diag_is c.args.slots d holds)
    ∙ diag_there d (λ is. not_absent c.args.value c.in_default.not-Absent (is ∙ sym same))

pub returns : goal.returns
returns c = λ d same holds.
    ap (λ (o : Option Diag). option_map Some o) (c.in-None.ensures ∙ diag_is c.args.slots d holds)
    ∙ diag_there d (λ is. not_absent c.args.value c.in_default.not-Absent (is ∙ sym same))
