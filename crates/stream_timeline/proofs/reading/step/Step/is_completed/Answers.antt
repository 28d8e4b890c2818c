use Rattle.std.proofs.Common.{◌≡◌, List, Bool, true, ap, not, sym, ℕ, ◌∙◌}
use Rattle.std.specs.Prelude.{is_some}
use Rattle.std.specs.Str.{bytes_eq}
use Rattle.std.proofs.lemmas.Bool.{both_ways}
use Rattle.stream_timeline.specs.Numbers.{is_completed}
use Rattle.stream_timeline.specs.Steps.{StepRead}
use Rattle.stream_timeline.proofs.reading.step.Step.is_completed.Goals as goal
use Rattle.stream_timeline.proofs.reading.step.Step.is_completed.Goals.{then-eq, else-eq}

-- one of that action that ended is completed unless it failed
unless_failed : (action : List ℕ) (step : StepRead) (failed : Bool) → bytes_eq step.action action ≡ true → is_some step.end ≡ true
    → failed ≡ step.failed → not failed ≡ is_completed action step
unless_failed action step failed same some timeline = rw (same, some) (ap not timeline)

pub returns-then-is_some : goal.returns-then-is_some
returns-then-is_some c =
    elim c.if-eq.branch [
      | then-eq w ↦
          unless_failed c.args.action.now c.args.self.now c.self.inside.failed
          (ap (λ (a : List ℕ). bytes_eq a c.args.action.now) (sym c.action.ensures) ∙ (sym c.eq.ensures ∙ w.if-eq.true))
          (ap (λ (s : StepRead). is_some s.end) (sym c.self.view_is) ∙ (sym w.is_some.ensures ∙ (sym w.value-is ∙ c.if-is_some.true)))
          (ap (λ (s : StepRead). s.failed) c.self.view_is)
      | else-eq w ↦ absurd (both_ways c.if-eq.value (w.value-is ∙ w.if-eq.false) c.if-is_some.true)
    ]
