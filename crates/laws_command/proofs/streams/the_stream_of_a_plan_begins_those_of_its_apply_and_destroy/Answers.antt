use Rattle.apply_command.specs.Reading.{planned_reading}
use Rattle.apply_text_terraform.specs.declared.command.Command.TheVariants.{Plan}
use Rattle.laws_command.proofs.Beginnings.{begins, no_events, plan_is, same_inputs, same_refreshed}
use Rattle.std.proofs.Common.{refl}
use Rattle.laws_command.proofs.streams.the_stream_of_a_plan_begins_those_of_its_apply_and_destroy.Goals as goal

pub returns : goal.returns
returns c = record {
  inputs = same_inputs;
  refreshed = same_refreshed;
  no_step = λ schedule refresh lanes given start operation report before after run.
      let work = (planned_reading Plan refresh lanes).work given run.read in
      no_events work refl schedule run.sizes (c.a_run_is_of_whole_steps.ensures schedule work) run.streamed.events run.streamed.run;
  plan = plan_is;
  others = begins;
}
