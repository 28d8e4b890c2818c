use Rattle.std.proofs.Common.{◌≡◌, ◌++◌, drop, map}
use Rattle.std.specs.Prelude.{◌&&◌, filter, not}
use Rattle.stream_record_outcomes.specs.Assignment.{is_of_errored_plan}
use Rattle.stream_record_outcomes.proofs.notes.considered.Given as goal

abbrev pub invariant-loop-note : goal.invariant-loop-note
invariant-loop-note l =
    map (λ note. note.now) l.kept.items
    ++ filter (λ note. not (l.circumstances.is_errored && is_of_errored_plan note)) (drop l.note-index l.others)
    ≡ filter (λ note. not (l.circumstances.is_errored && is_of_errored_plan note)) l.others
