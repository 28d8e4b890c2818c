use Rattle.std.proofs.Common.{ap, subst, true, ◌∙◌, ◌≡◌}
use mathlib.Core.List.{IsPrefix}
use Rattle.apply_events.specs.Step.{Work}
use Rattle.apply_events.specs.Waits.TimeLine.{IsTimeLine}
use Rattle.apply_text_terraform.specs.declared.command.Command.TheVariants.{Apply, Destroy}
use Rattle.apply_command.specs.Reading.{form, planned_reading}
use Rattle.apply_writer.specs.Stream.Form.{stream_in}
use Rattle.laws_command.specs.Streams.{beginning}
use Rattle.laws_command.proofs.Beginnings.{begins, same_inputs, same_refreshed}
use Rattle.laws_command.proofs.SameReading.{stream_of_both, work_is}
use Rattle.laws_command.proofs.streams.the_same_bytes_give_the_same_stream.Goals as goal

pub returns : goal.returns
returns c = record {
  work = λ command refresh lanes given read other is others. work_is command refresh given read other is others lanes;
  stream = λ command refresh lanes given read other start operation events is others. stream_of_both command refresh given read other is others lanes start operation events;
  in_lanes = λ command refresh lanes given start operation report again before after before_again after_again run other.
      let work = (planned_reading command refresh lanes).work given in
      let same_work = work_is command refresh given run.read other.read run.is_read other.is_read lanes in
      let same_events : run.streamed.events ≡ other.streamed.events =
      c.time_lines_are_unique.ensures (work other.read) lanes run.streamed.events other.streamed.events
      (subst (λ (w : Work). IsTimeLine w lanes run.streamed.events) same_work run.streamed.run) other.streamed.run in
      stream_of_both command refresh given run.read other.read run.is_read other.is_read lanes start operation run.streamed.events
      ∙ ap (stream_in (form command lanes other.read start operation)) same_events;
  applied = λ refresh lanes given planned read start operation events is others.
      subst (IsPrefix (beginning Apply lanes planned start))
      (stream_of_both Apply refresh given planned read ((same_inputs refresh given planned).0 is) others lanes start operation events)
      (begins Apply lanes planned start operation events);
  destroyed = λ lanes given planned read start operation events is others.
      subst (IsPrefix (beginning Destroy lanes planned start))
      (stream_of_both Destroy true given planned read ((same_refreshed given planned).0 is) others lanes start operation events)
      (begins Destroy lanes planned start operation events);
}
