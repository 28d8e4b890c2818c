use Rattle.std.proofs.Common.{◌≡◌, Bool, false, true, ap, not, refl, sym, ◌∙◌}
use Rattle.std.specs.Prelude.{is_some}
use Rattle.stream_timeline.specs.Intervals.{is_counted}
use Rattle.stream_timeline.specs.Steps.{StepRead}
use Rattle.stream_timeline.proofs.reading.step.Step.is_counted.Goals as goal
use Rattle.stream_timeline.proofs.reading.step.Step.is_counted.Goals.{then-self, else-self}

-- a failed step counts if it has an end
where_failed : (step : StepRead) (unknown none : Bool) → step.failed ≡ true → is_some step.end ≡ not none → unknown ≡ none → not unknown ≡ is_counted step
where_failed step unknown true failed timeline is = rw (failed, timeline, is) refl
where_failed step unknown false failed timeline is = rw (failed, timeline, is) refl

-- each other does
elsewhere : (step : StepRead) (unknown : Bool) → step.failed ≡ false → unknown ≡ false → not unknown ≡ is_counted step
elsewhere step unknown well is = rw (well, is) refl

pub returns : goal.returns
returns c =
    let timeline : c.args.self.now.failed ≡ c.self.inside.failed = ap (λ (s : StepRead). s.failed) (sym c.self.view_is) in
    elim c.if-self.branch [
      | then-self w ↦
          where_failed c.args.self.now c.if-self.result w.is_none.result (timeline ∙ w.if-self.true)
          (ap (λ (s : StepRead). is_some s.end) (sym c.self.view_is) ∙ w.is_none.ensures) w.result-is
      | else-self w ↦ elsewhere c.args.self.now c.if-self.result (timeline ∙ w.if-self.false) (w.result-is ∙ w.if-self.false)
    ]
