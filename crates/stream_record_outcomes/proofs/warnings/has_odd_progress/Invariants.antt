use Rattle.std.proofs.Common.{◌≡◌, drop}
use Rattle.std.specs.List.{list_any}
use Rattle.stream_record_outcomes.specs.Warnings.{is_odd_fact}
use Rattle.stream_record_outcomes.proofs.warnings.has_odd_progress.Given as goal

abbrev pub invariant-loop-fact : goal.invariant-loop-fact
invariant-loop-fact l =
    list_any (is_odd_fact l.has_end l.took) (drop l.fact-index l.fact-items) ≡ list_any (is_odd_fact l.has_end l.took) l.fact-items
