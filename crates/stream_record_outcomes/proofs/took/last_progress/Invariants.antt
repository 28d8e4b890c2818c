use Rattle.std.proofs.Common.{◌≡◌, drop}
use Rattle.std.specs.Option.{option_or}
use Rattle.stream_record_outcomes.specs.Took.{last_progress}
use Rattle.stream_record_outcomes.proofs.took.last_progress.Given as goal

abbrev pub invariant-loop-fact : goal.invariant-loop-fact
invariant-loop-fact l = option_or (last_progress (drop l.fact-index l.facts)) l.last ≡ last_progress l.facts
