use Rattle.std.proofs.Common.{◌∷◌, ◌++◌, [], All, sym, subst}
use Rattle.std.proofs.lemmas.List.Elements.{All-head}
use Rattle.apply_bus.specs.Items.{events}
use Rattle.apply_events.specs.Fits.{IsOfPlan}
use Rattle.apply_writer.specs.Stream.WriterState.{HasAccepted, writer_state}
use Rattle.apply_run.proofs.collector.note.Goals as goal

pub returns-then-is_of_plan-clause-accepted : goal.returns-then-is_of_plan-clause-accepted
returns-then-is_of_plan-clause-accepted g c before failures so_far fits was =
    let s = c.args.stream.now in
    subst (λ item. HasAccepted (g.F.FormLines.form s.lines) before failures (so_far ++ events (item ∷ [])) (writer_state g.S.Sink.bytes g.S.Sink.failed c.accept.new.self)) (sym c.in-Event.is) (c.accept.ensures.accepted before failures so_far was)

pub returns-else-is_of_plan-clause-accepted : goal.returns-else-is_of_plan-clause-accepted
returns-else-is_of_plan-clause-accepted g c before failures so_far fits was =
    let plan = (g.F.FormLines.form c.args.stream.now.lines).plan in
    let here : IsOfPlan plan c.in-Event.event = All-head (IsOfPlan plan) c.in-Event.event [] (subst (λ item. All (IsOfPlan plan) (events (item ∷ []))) c.in-Event.is fits) in
    let accepted = c.is_of_plan.ensures.1 (subst (λ p. IsOfPlan p c.in-Event.event) (sym c.plan.ensures) here) in
    absurd cc
