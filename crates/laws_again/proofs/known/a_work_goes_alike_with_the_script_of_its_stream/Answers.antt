use Rattle.std.proofs.Common.{◌≡◌, ◌∙◌, length, sym, subst}
use Rattle.std.proofs.lemmas.Option.{slice_get_within}
use Rattle.apply_events.specs.Step.{kinds_of}
use Rattle.stream_record_waits.specs.Graph.{AreWaitsOf}
use Rattle.stream_record_script.specs.Runs.{steps_of_plan}
use Rattle.laws_record.specs.Writable.{written}
use Rattle.laws_waits.specs.Scripts.{recorded_script, waits_named}
use Rattle.laws_waits.specs.Places.{place_of}
use Rattle.laws_waits.proofs.AsWritten.{same_outcome}
use Rattle.laws_again.proofs.known.a_work_goes_alike_with_the_script_of_its_stream.Goals as goal

pub returns : goal.returns
returns c = record {
  alike = λ work lanes begun recorded waits after early choices known pins are.
      c.a_work_goes_alike_with_its_recorded_script.ensures.text work lanes begun recorded waits choices after early known pins are;
  outcomes = λ work lanes events reading begun loose notes recorded left waits after early choices back known pins are.
      (let again = c.what_is_recorded_goes_as_the_steps_went.ensures work lanes events reading begun loose notes recorded left back in
      let same : after ≡ waits = c.waits_that_a_stream_kept_come_again.ensures.waits (steps_of_plan begun recorded) waits choices after early pins known.kept are in
      let has = c.a_recorded_script_has_the_steps_that_began.ensures work.plan begun recorded after (record {
        few = known.steps.few;
        planned = known.steps.planned;
        each = known.steps.each;
        waits = subst (AreWaitsOf (length (steps_of_plan begun recorded))) (sym same) known.kept.sound.of_steps;
        in_order = known.steps.in_order;
      }) in
      c.a_script_of_recorded_outcomes_has_what_was_recorded.ensures work lanes begun recorded reading.telling.id
      (written work.plan.changes (recorded_script work.plan begun recorded after)) again
      (λ d k kind found at began found_at. (
        waits_named work.plan after (place_of work.plan.changes d k),
        same_outcome work.plan (recorded_script work.plan begun recorded after) d k (slice_get_within (kinds_of work.plan d) k kind at)
            ∙ (has.began d k kind found at began found_at).outcome,
      )));
}
