use Rattle.std.proofs.Common.{ℤ, of_z, to_z, w64, ◌≡◌, ◌∙◌, ℕ, List, Option, OnOk, ap, subst}
use Rattle.std.proofs.lemmas.Int.{to_z-of_z}
use Rattle.stream_record_steps.specs.declared.step_facts.Stated.{Stated}
use Rattle.stream_record_steps.specs.Begun.{Begun}
use Rattle.stream_record_steps.specs.Steps.{PlannedStep, steps_at}
use Rattle.stream_record_steps.specs.Taken.{stated_by}
use Rattle.stream_record_steps.specs.UnderWay.{after_fact, provisioned_place}
use Rattle.stream_record_steps.proofs.begun_steps.BegunSteps.take_provisioner.Goals as goal

pub returns : goal.returns
returns c =
    let same : to_z w64 (of_z w64 c.args.second) ≡ c.args.second = to_z-of_z w64 c.args.second c.ranges.second in
    let S : ℤ → Type 0 = λ second. OnOk c.add_fact.result (c.add_fact.new.self
    ≡ after_fact c.args.line (record { second = second; stated = c.stated_by-stated.result }) c.provisioned_place-place.result c.args.self.now) in
    let place = provisioned_place c.args.self.now.by_step (steps_at c.args.self.now.planned c.args.provisioner.address) in
    let P : Option ℕ → Type 0 = λ place. OnOk c.add_fact.result (c.add_fact.new.self
    ≡ after_fact c.args.line (record { second = c.args.second; stated = c.stated_by-stated.result }) place c.args.self.now) in
    let Q : Stated → Type 0 = λ stated. OnOk c.add_fact.result (c.add_fact.new.self
    ≡ after_fact c.args.line (record { second = c.args.second; stated = stated }) place c.args.self.now) in
    subst Q c.stated_by-stated.ensures
    (subst P
    (c.provisioned_place-place.ensures
    ∙ ap (λ (steps : List PlannedStep). provisioned_place c.self.inside.by_step steps) c.at.ensures
    ∙ ap (λ (address : List ℕ). provisioned_place c.self.inside.by_step (steps_at c.self.inside.planned address)) c.as_str.ensures
    ∙ ap (λ (begun : Begun). provisioned_place begun.by_step (steps_at begun.planned c.args.provisioner.address)) c.self.view_is)
    (subst S same c.add_fact.ensures))
