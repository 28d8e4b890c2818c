-- What is told of a whole stream.
use Rattle.std.specs.Prelude.{◌≡◌, ◌≤◌, ⊤, ℕ, List, [], All, Option, Result, Ok, Err, length}
use Rattle.std.specs.Io.KnownBytes.{Appends}
use Rattle.stream_check.specs.Judging.{IsVerdict}
use Rattle.stream_check.specs.Lines.{verdict_of}
use Rattle.stream_check.specs.declared.rules.mode.Mode.{Mode}
use Rattle.stream_check.specs.declared.verdict.finding.Finding.{Finding}
use Rattle.stream_check.specs.declared.verdict.judge.Verdict.{Verdict}
use Rattle.stream_check.specs.declared.verdict.whole.Whole.{Whole}
use Rattle.stream_lines.specs.Cut.{cut_lines}
use Rattle.stream_lines.specs.Limits.{max_bytes}
use Rattle.stream_watch.specs.Printed.{HasPrinted}
use Rattle.stream_watch.specs.State.{looks_of, state_of}
use Rattle.stream_watch.specs.Stream.{last_told, stream_told}
use Rattle.stream_watch.specs.declared.looks.Looks.{Looks}
use Rattle.stream_watch.specs.declared.watcher.Watcher.{Watcher}
use Rattle.stream_watch_cli.specs.declared.watch_fault.WatchFault.{WatchFault}

-- the verdict is that of `check`
abbrev pub IsVerdictOf : Mode → List ℕ → Result (Result Whole Finding) WatchFault → Type 0
IsVerdictOf mode bytes (Ok answer) = verdict_of mode (cut_lines bytes) ≡ answer
IsVerdictOf mode bytes (Err fault) = ⊤

-- no line is longer than 67,108,864 bytes
abbrev pub HasShortLines : List ℕ → Type 0
HasShortLines bytes = All (λ line. length line ≤ max_bytes) (cut_lines bytes)

-- the output has what is told of these lines, with the verdict of `check`
abbrev pub HasToldOf : Mode → Looks → (lines : List (List ℕ)) → (before after : Option (List ℕ)) → Result Whole Finding → Type 0
HasToldOf mode looks lines before after answer =
    (verdict : Verdict) × IsVerdict mode lines verdict × (verdict.answer ≡ answer)
    × Appends before after (stream_told looks mode.find lines verdict).bytes

-- the output has what is told of the lines of these bytes, where there is a verdict
abbrev pub HasToldAll : Mode → Looks → (bytes : List ℕ) → (before after : Option (List ℕ)) → Result (Result Whole Finding) WatchFault → Type 0
HasToldAll mode looks bytes before after (Ok answer) = HasToldOf mode looks (cut_lines bytes) before after answer
HasToldAll mode looks bytes before after (Err fault) = ⊤

-- what the watcher has printed was written, and nothing else changed
pub record Sends (before after : Watcher) (old new : Option (List ℕ)) : Type 0 where
  pub looks : looks_of after ≡ looks_of before
  pub find : after.find ≡ before.find
  pub state : state_of after ≡ state_of before
  pub empty : HasPrinted after.printer []
  pub written : (bytes : List ℕ) → HasPrinted before.printer bytes → Appends old new bytes

-- at the end this verdict was told, and written
abbrev pub HasEnded : Mode → (lines : List (List ℕ)) → Watcher → (is_shown : Type 0) → (old new : Option (List ℕ)) → Result Whole Finding → Type 0
HasEnded mode lines watcher is_shown old new answer =
    (verdict : Verdict) × IsVerdict mode lines verdict × (verdict.answer ≡ answer)
    × (is_shown → HasPrinted watcher.printer [] → Appends old new (last_told (looks_of watcher) verdict (state_of watcher)).bytes)
