use Rattle.std.proofs.Common.{rules, tests, sym, ◌∙◌}
use Rattle.std.proofs.lemmas.Iterator.{YieldsList-from_slice}
use Rattle.std.proofs.lemmas.Iterator.Search.{position_from_yields_List}
use Rattle.stream_watch.specs.Steps.{is_step, step_view}
use Rattle.stream_watch.proofs.StepPlaces.{position_in}
use Rattle.stream_watch.proofs.steps.OpenSteps.first.Goals as goal

pub returns : goal.returns
returns c =
    let holds = is_step c.args.address.now c.args.action.now c.args.is_refresh in
    let steps = c.args.self.now.list.items in
    position_from_yields_List (λ step. holds (step_view step)) _ _ _ c.position.ensures.ran (YieldsList-from_slice steps (cc)) (λ x b q k. search (rules, tests))
    ∙ sym (position_in step_view holds steps)
