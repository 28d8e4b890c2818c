use Rattle.std.proofs.Common.{◌≡◌, ◌++◌, string_bytes}
use Rattle.apply_text_planning.specs.Notes.{forgotten_in, forgotten_lines}
use Rattle.apply_text_planning.proofs.Forgotten.{lines_from}
use Rattle.apply_text_planning.proofs.notes.push_forgotten.Given as goal

abbrev pub invariant-loop-number : goal.invariant-loop-number
invariant-loop-number l = string_bytes l.lines ++ lines_from l.plan.changes l.details l.number ≡ string_bytes l.initial.lines ++ forgotten_lines (forgotten_in l.plan.changes l.details)
