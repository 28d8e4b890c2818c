use Rattle.std.proofs.Common.{Bool, ap, map, rules, sym, ◌∙◌}
use Rattle.std.specs.Prelude.{not}
use Rattle.std.proofs.lemmas.Fn.{filter_same}
use Rattle.stream_watch.specs.Steps.{Step, reads_at, step_view}
use Rattle.stream_watch.proofs.StepPlaces.{filter_in}
use Rattle.stream_watch.proofs.steps.OpenSteps.forget_reads.Goals as goal

pub returns : goal.returns
returns c =
    let old = c.args.self.now.list.items in
    let remains : Step → Bool = λ step. not (reads_at c.args.address.now step) in
    ap (map step_view) (filter_same _ (λ step. remains (step_view step)) _ (λ x b q k. search rules) old c.retain.new.self.items c.retain.ensures.filtered)
    ∙ sym (filter_in step_view remains old)
