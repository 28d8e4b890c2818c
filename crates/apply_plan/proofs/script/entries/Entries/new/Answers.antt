use Rattle.std.proofs.Common.{[], refl, ap, ◌∙◌}
use Rattle.apply_plan.specs.Script.OutcomeMap.{by_number}
use Rattle.apply_plan.proofs.Scripts.ValidItems.{made}
use Rattle.apply_plan.proofs.Scripts.Read.{holds_none}
use Rattle.apply_plan.proofs.script.entries.Entries.new.Goals as goal

pub returns : goal.returns
returns c =
    let both = c.in_ok-numbers.ensures in
    let numbers = made _ c.of.result c.in_ok-numbers.numbers both.0 c.of.ensures in
    let outcomes = made _ c.nothing.result c.in_ok-numbers.outcomes both.1 c.nothing.ensures in
    (refl, holds_none _ c.len.ensures.few numbers (outcomes ∙ ap (λ count. by_number count []) c.len.ensures.len) c.new-step_counts.ensures.items refl refl)
