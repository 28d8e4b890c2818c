use Rattle.std.proofs.Common.{◌≡◌, ◌++◌, drop, map, option_map}
use Rattle.std.specs.List.{flat_map}
use Rattle.serde_json.specs.View.{view}
use Rattle.input_validate.specs.Doubts.{named_in_step}
use Rattle.input_validate.specs.ObjectNames.{name_view}
use Rattle.input_validate.proofs.doubts.waited.push_steps.Given as goal

abbrev pub invariant-loop-step : goal.invariant-loop-step
invariant-loop-step l =
    map (option_map name_view) l.names.items ++ flat_map named_in_step (map view (drop l.step-index l.steps))
    ≡ map (option_map name_view) l.initial.names.items ++ flat_map named_in_step (map view l.steps)
