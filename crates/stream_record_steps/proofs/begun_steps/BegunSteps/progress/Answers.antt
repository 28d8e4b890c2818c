use Rattle.std.proofs.Common.{ℤ, of_z, to_z, w64, ◌≡◌, ◌∙◌, ℕ, List, Option, OnOk, ap, subst}
use Rattle.stream_record_steps.specs.declared.step_facts.Stated.TheVariants as stated
use Rattle.std.proofs.lemmas.Int.{to_z-of_z}
use Rattle.stream_record_steps.specs.Begun.{Begun}
use Rattle.stream_record_steps.specs.Steps.{PlannedStep, steps_at}
use Rattle.stream_record_steps.specs.UnderWay.{after_fact, timed_place}
use Rattle.stream_record_steps.proofs.begun_steps.BegunSteps.progress.Goals as goal

pub returns : goal.returns
returns c =
    let same : to_z w64 (of_z w64 c.args.second) ≡ c.args.second = to_z-of_z w64 c.args.second c.ranges.second in
    let Q : ℤ → Type 0 = λ second. OnOk c.add_fact.result (c.add_fact.new.self
    ≡ after_fact c.args.line (record { second = second; stated = stated.Progress c.args.seconds }) c.timed_place-place.result c.args.self.now) in
    let P : Option ℕ → Type 0 = λ place. OnOk c.add_fact.result (c.add_fact.new.self
    ≡ after_fact c.args.line (record { second = c.args.second; stated = stated.Progress c.args.seconds }) place c.args.self.now) in
    subst P
    (c.timed_place-place.ensures
    ∙ ap (λ (second : ℤ). timed_place c.self.inside.by_step c.args.kind c.args.seconds second c.at.result.now) same
    ∙ ap (λ (steps : List PlannedStep). timed_place c.self.inside.by_step c.args.kind c.args.seconds c.args.second steps) c.at.ensures
    ∙ ap (λ (begun : Begun). timed_place begun.by_step c.args.kind c.args.seconds c.args.second (steps_at begun.planned c.args.address.now)) c.self.view_is)
    (subst Q same c.add_fact.ensures)
