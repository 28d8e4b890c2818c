-- What a line makes of the steps that began, field by field.
use Rattle.std.proofs.Common.{◌≡◌, ◌∙◌, ℕ, List, [], ◌∷◌, ◌++◌, Option, Some, None, ap}
use Rattle.stream_record_steps.specs.declared.begun_step.BegunStep.{BegunStep}
use Rattle.stream_record_steps.specs.declared.begun_step.StepEnd.{StepEnd}
use Rattle.stream_record_steps.specs.declared.tally.Tally.{Tally}
use Rattle.stream_record_steps.specs.Begun.{Begun}
use Rattle.stream_record_steps.specs.Tallies.{with_line}
use Rattle.stream_record_steps.specs.UnderWay.{after_end, with_end}

pub ends_at : (begun : Begun) (end : StepEnd) (place : ℕ) (by_step : List (Option BegunStep)) (ends : List ℕ) (timed : Option ℕ)
    → by_step ≡ with_end place end begun.by_step → ends ≡ begun.ends ++ place ∷ [] → Some place ≡ timed
    → record begun { by_step = by_step; ends = ends } ≡ after_end end timed begun
ends_at begun end place by_step ends timed is then found =
    ap (λ (slots : List (Option BegunStep)). record begun { by_step = slots; ends = ends }) is
    ∙ ap (λ (places : List ℕ). record begun { by_step = with_end place end begun.by_step; ends = places }) then
    ∙ ap (λ (place : Option ℕ). after_end end place begun) found

pub ends_nowhere : (begun : Begun) (end : StepEnd) (odd : Tally) (timed : Option ℕ) → odd ≡ with_line end.line begun.odd → None ≡ timed
    → record begun { odd = odd } ≡ after_end end timed begun
ends_nowhere begun end odd timed is none =
    ap (λ (tally : Tally). record begun { odd = tally }) is ∙ ap (λ (place : Option ℕ). after_end end place begun) none
