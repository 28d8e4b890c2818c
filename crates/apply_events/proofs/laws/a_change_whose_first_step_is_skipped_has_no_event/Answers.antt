use Rattle.std.proofs.Common.{map, take, ap}
use Rattle.std.specs.List.{enumerate_from}
use Rattle.std.specs.Option.{option_map_or}
use Rattle.apply_events.specs.ChangeEvents.{begun, in_turn}
use Rattle.apply_events.specs.Step.{kinds_of, step_of}
use Rattle.apply_events.specs.StepEvents.{step_events, step_time}
use Rattle.apply_events.proofs.laws.a_change_whose_first_step_is_skipped_has_no_event.Goals as goal

pub returns : goal.returns
returns c work worker change at is =
    ap (λ first. in_turn (step_events worker) step_time (begun (map (λ p. step_of work change p.0 p.1) (enumerate_from 0 (option_map_or (λ k. take k (kinds_of work.plan change)) first (kinds_of work.plan change))))) at) is
