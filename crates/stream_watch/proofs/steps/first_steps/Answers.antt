use Rattle.std.proofs.Common.{ap, map, sym, take, ◌∙◌}
use Rattle.std.proofs.lemmas.List.{take-map, take_min}
use Rattle.stream_watch.specs.Steps.{step_view}
use Rattle.stream_watch.proofs.steps.first_steps.Goals as goal

pub returns : goal.returns
returns c =
    let steps = c.args.steps.now in
    ap (λ n. map step_view (take n steps)) c.min.ensures ∙ ap (map step_view) (take_min c.args.most steps) ∙ sym (take-map step_view c.args.most steps)
