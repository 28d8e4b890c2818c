use Rattle.std.proofs.Common.{map, take, ap}
use Rattle.std.specs.List.{enumerate_from}
use Rattle.std.specs.Option.{option_map_or}
use Rattle.apply_events.specs.Step.{kinds_of, step_of}
use Rattle.apply_events.proofs.laws.where_no_step_is_skipped_all_are_applied.Goals as goal

pub returns : goal.returns
returns c work change is =
    ap (λ first. map (λ p. step_of work change p.0 p.1) (enumerate_from 0 (option_map_or (λ k. take k (kinds_of work.plan change)) first (kinds_of work.plan change)))) is
