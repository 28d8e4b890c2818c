use Rattle.std.proofs.Common.{◌≡◌, ◌++◌, drop}
use Rattle.std.specs.List.{filter_map}
use Rattle.stream_record_outcomes.specs.Warnings.{too_much}
use Rattle.stream_record_outcomes.proofs.warnings.push_limited.Given as goal

abbrev pub invariant-loop-run : goal.invariant-loop-run
invariant-loop-run l =
    l.warnings.items ++ filter_map too_much (drop l.run-index l.kept) ≡ l.initial.warnings.items ++ filter_map too_much l.kept
