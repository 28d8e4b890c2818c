use Rattle.std.proofs.Common.{◌∙◌}
use Rattle.std.proofs.lemmas.Option.{slice_get_within}
use Rattle.apply_events.specs.Step.{kinds_of}
use Rattle.laws_record.specs.Writable.{written}
use Rattle.laws_waits.specs.Scripts.{recorded_script, waits_named}
use Rattle.laws_waits.specs.Places.{place_of}
use Rattle.laws_waits.proofs.AsWritten.{same_outcome}
use Rattle.laws_again.proofs.unwaited.a_script_of_known_steps_has_what_was_recorded.Goals as goal

pub returns-clause-alike : goal.returns-clause-alike
returns-clause-alike c work lanes begun recorded after known =
    c.a_work_goes_alike_with_its_recorded_script.ensures.known work lanes begun recorded after known

pub returns-clause-outcomes : goal.returns-clause-outcomes
returns-clause-outcomes c work lanes events reading begun loose notes recorded left after back known =
    let again = c.what_is_recorded_goes_as_the_steps_went.ensures work lanes events reading begun loose notes recorded left back in
    let has = c.a_recorded_script_has_the_steps_that_began.ensures work.plan begun recorded after (record {
      few = known.steps.few;
      planned = known.steps.planned;
      each = known.steps.each;
      waits = known.kept.sound.of_steps;
      in_order = known.steps.in_order;
    }) in
    c.a_script_of_recorded_outcomes_has_what_was_recorded.ensures work lanes begun recorded reading.telling.id
    (written work.plan.changes (recorded_script work.plan begun recorded after)) again
    (λ d k kind found at began found_at. (
      waits_named work.plan after (place_of work.plan.changes d k),
      same_outcome work.plan (recorded_script work.plan begun recorded after) d k (slice_get_within (kinds_of work.plan d) k kind at)
          ∙ (has.began d k kind found at began found_at).outcome,
    ))
