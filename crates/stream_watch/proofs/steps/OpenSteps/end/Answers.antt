use Rattle.std.proofs.Common.{ℤ, Some, ap, map, rules, sym, w64, SFits, ◌∙◌}
use Rattle.std.proofs.lemmas.Int.{to_z-of_z}
use Rattle.std.specs.Prelude.{option_map}
use Rattle.stream_watch.specs.Steps.{Step, is_step, step_view}
use Rattle.stream_watch.proofs.StepPlaces.{first_is, nowhere}
use Rattle.stream_watch.proofs.steps.OpenSteps.end.Goals as goal

pub returns-in_err-index-clause-begin : goal.returns-in_err-index-clause-begin
returns-in_err-index-clause-begin c =
    let holds = is_step c.args.address.now c.args.action.now c.args.is_refresh in
    let none = nowhere step_view holds c.args.self.now.list.items (sym c.in_err-index.was ∙ c.first.ensures) in
    c.from_residual.ensures ∙ sym (ap (option_map (λ (step : Step). step.begin)) none.found)

pub returns-in_err-index-clause-steps : goal.returns-in_err-index-clause-steps
returns-in_err-index-clause-steps c =
    let holds = is_step c.args.address.now c.args.action.now c.args.is_refresh in
    let none = nowhere step_view holds c.args.self.now.list.items (sym c.in_err-index.was ∙ c.first.ensures) in
    sym none.without

pub returns-clause-begin : goal.returns-clause-begin
returns-clause-begin c =
    let holds = is_step c.args.address.now c.args.action.now c.args.is_refresh in
    let fits : SFits w64 c.remove-step.result.begin = search rules in
    let first = first_is step_view holds c.args.self.now.list.items c.in_ok-index.index c.remove-step.result (sym c.in_ok-index.was ∙ c.first.ensures) in
    ap (λ (begin : ℤ). Some begin) (to_z-of_z w64 c.remove-step.result.begin fits ∙ ap (λ step. step.begin) c.remove-step.ensures.value)
    ∙ sym (ap (option_map (λ (step : Step). step.begin)) first.found)

pub returns-clause-steps : goal.returns-clause-steps
returns-clause-steps c =
    let holds = is_step c.args.address.now c.args.action.now c.args.is_refresh in
    let first = first_is step_view holds c.args.self.now.list.items c.in_ok-index.index c.remove-step.result (sym c.in_ok-index.was ∙ c.first.ensures) in
    ap (map step_view) c.remove-step.ensures.items ∙ sym first.without
