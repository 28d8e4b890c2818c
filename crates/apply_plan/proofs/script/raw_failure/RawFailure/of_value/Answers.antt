use Rattle.std.proofs.Common.{Option, Some, option_map, ap, sym, ◌∙◌}
use Rattle.apply_plan.specs.Script.Entry.{Failure}
use Rattle.apply_plan.proofs.Scripts.Held.{failure_is, failure_there, not_absent}
use Rattle.apply_plan.proofs.script.raw_failure.RawFailure.of_value.Goals as goal

pub returns-in-Some : goal.returns-in-Some
returns-in-Some c = λ d same holds.
    ap (λ (o : Option Failure). option_map Some o) (c.in-Some.ensures ∙ failure_is c.args.slots d holds)
    ∙ failure_there d (λ is. not_absent c.args.value c.in_default.not-Absent (is ∙ sym same))

pub returns : goal.returns
returns c = λ d same holds.
    ap (λ (o : Option Failure). option_map Some o) (c.in-None.ensures ∙ failure_is c.args.slots d holds)
    ∙ failure_there d (λ is. not_absent c.args.value c.in_default.not-Absent (is ∙ sym same))
