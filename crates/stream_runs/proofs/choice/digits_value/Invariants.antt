use Rattle.std.proofs.Common.{◌≡◌, ◌<◌, drop}
use Rattle.stream_runs.specs.Choices.{digits_value}
use Rattle.stream_runs.proofs.choice.digits_value.Given as goal

abbrev pub invariant-loop-digit : goal.invariant-loop-digit
invariant-loop-digit l = (digits_value l.value (drop l.digit-index l.digits) ≡ digits_value 0 l.digits) × (l.value < 1000000000)
