use Rattle.std.proofs.Common.{◌≡◌, false, true, ⊎_elim, sym, ◌∙◌}
use Rattle.std.proofs.lemmas.Bool.{true≢false}
use Rattle.apply_model.specs.Script.Outcome.{fails}
use Rattle.apply_model.specs.Script.OutcomeMap.{outcome_of}
use Rattle.apply_events.specs.Waits.Schedule.{schedule}
use Rattle.laws_lanes.specs.Alike.{is_begun}
use Rattle.laws_lanes.proofs.WithEvents.{IsDone, never_done}
use Rattle.laws_lanes.proofs.a_step_that_fails_is_never_done.Goals as goal

pub returns : goal.returns
returns _ work lanes c k why = never_done work lanes c k (λ (done : IsDone work lanes c k). ⊎_elim
    (λ (never : is_begun work (schedule work lanes) c k ≡ false). true≢false (sym done.begins ∙ never))
    (λ (failed : fails (outcome_of work.script c k) ≡ true). true≢false (sym failed ∙ done.has_not_failed))
    why)
