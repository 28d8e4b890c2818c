use Rattle.std.proofs.Common.{List, ℕ, Option, ap, refl, subst, ◌∙◌}
use Rattle.stream_timeline.specs.declared.reading.builder.TimelineBuilder.{TimelineBuilder}
use Rattle.stream_timeline.specs.SlotContents.{diagnostic_in}
use Rattle.stream_timeline.specs.TimelineRead.{TimelineRead, with_error}
use Rattle.stream_timeline.specs.Building.{HasRead, added, marked_at}
use Rattle.stream_timeline.proofs.Marking.{error_alone_preserved, error_at_preserved}
use Rattle.stream_timeline.proofs.reading.builder.TimelineBuilder.error.Goals as goal

pub returns-in-Some : goal.returns-in-Some
returns-in-Some c = λ timeline takes.
    let d = diagnostic_in c.args.slots.now in
    let new : TimelineBuilder = record { timeline = c.mark_all.new.self; opened = c.args.self.now.opened; scratch = c.args.self.now.scratch } in
    subst (λ (o : Option (List ℕ)). HasRead new (with_error o d timeline)) c.in-Some.ensures
    (error_at_preserved c.args.self.now new timeline c.in-Some.address.now d takes
    (c.mark_all.ensures ∙ (ap (λ (t : TimelineRead). record t { steps = marked_at c.at.result.now t.steps }) c.in_ok-add_error.ensures
    ∙ ap (λ (ps : List ℕ). record c.args.self.now.timeline { errors = added d c.args.self.now.timeline.errors; steps = marked_at ps c.args.self.now.timeline.steps }) c.at.ensures))
    refl)

pub returns-in_default : goal.returns-in_default
returns-in_default c = λ timeline takes.
    let d = diagnostic_in c.args.slots.now in
    let new : TimelineBuilder = record { timeline = c.add_error.new.self; opened = c.args.self.now.opened; scratch = c.args.self.now.scratch } in
    subst (λ (o : Option (List ℕ)). HasRead new (with_error o d timeline)) c.in_default.ensures
    (error_alone_preserved c.args.self.now new timeline d takes c.in_ok-add_error.ensures refl)
