use Rattle.std.proofs.Common.{◌∙◌, ℕ, ℤ, List, length, sym, ap, subst}
use Rattle.apply_events.specs.declared.event.Event.{Event}
use Rattle.stream_record_steps.specs.Begun.{none_begun}
use Rattle.stream_record_steps.specs.Steps.{planned_steps}
use Rattle.laws_begun.specs.Followed.{AreFollowed, AreWhole, IsWholeOrNone, numbered, numbered_of_step}
use Rattle.laws_begun.specs.Telling.{Telling, after_events}
use Rattle.laws_begun.proofs.AllLines.{all_lines, follows_from_start, length_none, nothing_known}
use Rattle.laws_begun.proofs.KnownSteps.{known_by, same_events}
use Rattle.laws_begun.proofs.OwnLines.{lines_after}
use Rattle.laws_begun.proofs.each_step_is_known_by_its_own_lines.Goals as goal

followed : (telling : Telling) (first : ℕ) (start : ℤ) (events : List Event) → AreWhole telling.plan events
    → AreFollowed telling start first events (after_events telling start first events (none_begun (planned_steps telling.plan.changes)))
followed telling first start events whole =
    let planned = planned_steps telling.plan.changes in
    let after = all_lines telling start whole.apart events first (none_begun planned) (follows_from_start telling events whole) in record {
      planned = after.planned;
      each = after.each ∙ length_none planned ∙ sym (ap length after.planned);
      steps = λ step has.
          let lines = numbered_of_step step.change_number step.number (numbered first events) in
          known_by telling start step.kind lines _
          (subst IsWholeOrNone (sym (same_events step.change_number step.number first events)) (whole.steps step.change_number step.number))
          (after.steps step has ∙ ap (lines_after telling start step.kind lines) (nothing_known planned step.place));
      begins = after.begins;
      ends = after.ends;
      no_strays = after.strays;
      none_odd = after.odd;
    }

pub returns : goal.returns
returns c = λ telling first start events begun whole is.
    subst (AreFollowed telling start first events) (sym is) (followed telling first start events whole)
