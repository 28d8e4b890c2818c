use Rattle.std.proofs.Common.{◌≡◌, ◌∙◌, ℤ, List, ap, of_z, to_z, w64}
use Rattle.std.proofs.lemmas.Int.{to_z-of_z}
use Rattle.stream_record_steps.specs.Begun.{Begun}
use Rattle.stream_record_steps.specs.Steps.{PlannedStep}
use Rattle.stream_record_steps.specs.Taken.{after_end_at}
use Rattle.stream_record_steps.specs.UnderWay.{timed_place}
use Rattle.stream_record_steps.proofs.Taken.{ends_at, ends_nowhere}
use Rattle.stream_record_steps.proofs.begun_steps.BegunSteps.end.Goals as goal
use Rattle.stream_record_steps.proofs.begun_steps.BegunSteps.end.Goals.{in-Completed+in-Some-2, in-Completed+in-None-2, in-Failed-2}

pub returns-in_ok-push-in-Some : goal.returns-in_ok-push-in-Some
returns-in_ok-push-in-Some c =
    let same : to_z w64 (of_z w64 c.args.second) ≡ c.args.second = to_z-of_z w64 c.args.second c.ranges.second in
    let i = c.self.inside in
    let begun : Begun = record {
      planned = i.planned;
      by_step = i.by_step;
      begins = i.begins.items;
      ends = i.ends.items;
      strays = i.strays;
      odd = i.odd;
      latest = i.latest;
      most = i.most;
      has_starts = i.has_starts;
    } in
    ends_at begun c.args.end c.in-Some.place c.end.new.self c.push.new.self.items _ c.end.ensures c.in_ok-push-in-Some.ensures.items
    (c.in-Some.ensures ∙ ap (λ (second : ℤ). timed_place c.self.inside.by_step c.args.kind c.args.end.seconds second c.at.result.now) same ∙ ap (λ (steps : List PlannedStep). timed_place c.self.inside.by_step c.args.kind c.args.end.seconds c.args.second steps) c.at.ensures)
    ∙ ap (λ (begun : Begun). after_end_at c.args.second c.args.kind c.args.address.now c.args.end begun) c.self.view_is

pub returns-in-None : goal.returns-in-None
returns-in-None c =
    let same : to_z w64 (of_z w64 c.args.second) ≡ c.args.second = to_z-of_z w64 c.args.second c.ranges.second in
    let i = c.self.inside in
    let begun : Begun = record {
      planned = i.planned;
      by_step = i.by_step;
      begins = i.begins.items;
      ends = i.ends.items;
      strays = i.strays;
      odd = i.odd;
      latest = i.latest;
      most = i.most;
      has_starts = i.has_starts;
    } in
    let after =
    ends_nowhere begun c.args.end c.with_line-self-inside.result _ c.with_line-self-inside.ensures
    (c.in-None.ensures ∙ ap (λ (second : ℤ). timed_place c.self.inside.by_step c.args.kind c.args.end.seconds second c.at.result.now) same ∙ ap (λ (steps : List PlannedStep). timed_place c.self.inside.by_step c.args.kind c.args.end.seconds c.args.second steps) c.at.ensures)
    ∙ ap (λ (begun : Begun). after_end_at c.args.second c.args.kind c.args.address.now c.args.end begun) c.self.view_is in
    elim c.match-end-4.branch [
      | in-Completed+in-Some-2 w ↦ w.self-is ∙ after
      | in-Completed+in-None-2 w ↦ w.self-is ∙ after
      | in-Failed-2 w ↦ w.self-is ∙ after
    ]
