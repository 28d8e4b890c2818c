use Rattle.std.proofs.Common.{◌≡◌, None, take}
use Rattle.std.specs.Prelude.{◌&&◌, option_map}
use Rattle.std.specs.List.{find}
use Rattle.std.specs.Option.{option_copied}
use Rattle.stream_record_steps.specs.Starts.{had_id, is_free}
use Rattle.stream_record_steps.proofs.starts.taken_place.Given as goal

abbrev pub invariant-loop-step : goal.invariant-loop-step
invariant-loop-step l = record {
  none : find (λ step. is_free l.slots l.kind step && had_id (option_copied l.id) step) (take l.step-index l.steps) ≡ None;
  first : l.first ≡ option_map (λ step. step.place) (find (is_free l.slots l.kind) (take l.step-index l.steps));
}
