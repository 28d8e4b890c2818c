use Rattle.std.proofs.Common.{◌≡◌, drop}
use Rattle.apply_model.specs.Script.Outcome.{are_in_time}
use Rattle.apply_model.proofs.script.timed_texts.TimedTexts.are_in_time.Given as goal

abbrev pub invariant-loop-timed : goal.invariant-loop-timed
invariant-loop-timed l =
    are_in_time l.before l.initial.seconds (drop l.timed-index l.timed-items) ≡ are_in_time 0 l.initial.seconds l.timed-items
