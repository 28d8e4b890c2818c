use Rattle.std.proofs.Common.{refl}
use Rattle.std.specs.List.{Contains}
use Rattle.std.proofs.lemmas.List.Elements.{All-contains_itself, All-weaker}
use Rattle.apply_events.specs.declared.event.Event.{Event}
use Rattle.apply_events.specs.Fits.{IsApplied}
use Rattle.apply_events.specs.Waits.Schedule.{schedule}
use Rattle.apply_events.proofs.Waits.StartedTurns.{were_started}
use Rattle.laws_run.proofs.LeftOut.{begin_where_all_is_done, has_yes, only_applied}
use Rattle.laws_run.proofs.time_lines.a_step_begins_exactly_where_its_waits_are_done.Goals as goal

pub returns : goal.returns
returns c = record {
  begins = λ w n events some few line. begin_where_all_is_done w n (schedule w n) events (were_started w n some) line.interleaved few;
  applied = λ w n events some line.
      All-weaker (Contains events) (λ (e : Event). IsApplied w.plan w.script e.change e.step)
      (λ e there. only_applied w n (schedule w n) events (were_started w n some) line.interleaved (record { change = e.change; step = e.step })
      (has_yes w n (schedule w n) events (were_started w n some) line.interleaved e (record { change = e.change; step = e.step }) there refl refl))
      events (All-contains_itself events);
}
