-- What a checker has read where a fault ends the check.
use Rattle.std.specs.Prelude.{◌≡◌, ℕ, List, [], ◌∷◌, Bool, true, ⊤, Option, Some, IfSome, Result, Ok, Err}
use Rattle.stream_check.specs.declared.rules.checker.Checker.{Checker}
use Rattle.stream_check.specs.declared.rules.mode.Mode.{Mode}
use Rattle.stream_check.specs.declared.verdict.finding.Finding.{Finding}
use Rattle.stream_check.specs.declared.verdict.read_fault.ReadFault.{ReadFault}
use Rattle.stream_check.specs.declared.verdict.read_fault.ReadFault.TheVariants as read
use Rattle.stream_check.specs.declared.verdict.whole.Whole.{Whole}
use Rattle.stream_check.specs.Checking.{HasRead}
use Rattle.stream_lines.specs.Cut.{after_lines, cut_lines, feed_at, line_at}
use Rattle.stream_check.specs.Faults.{reports_line}
use Rattle.stream_check.specs.Lines.{read_line}
use Rattle.stream_check.specs.Message.{Message}

-- the value passed on, or the default for a fault
abbrev pub result_fold : {A E B : Type 0} → Result A E → B → (A → B) → B
result_fold (Ok x) here on = on x
result_fold (Err e) here on = here

-- the messages of all lines up to the first fault, after the earlier messages, the latest first
unfoldable pub judged_after : Mode → List Message → List (List ℕ) → List Message
judged_after mode earlier [] = earlier
judged_after mode earlier (text ∷ texts) =
    result_fold (read_line mode.find earlier text) earlier (λ messages. judged_after mode messages texts)

-- the messages of a stream up to its first fault
abbrev pub judged : Mode → List (List ℕ) → List Message
judged mode texts = judged_after mode [] texts

-- A finding ended the check of these bytes. The checker knows the messages before it. Where the
-- report needs the faulty line, `line` is its text, `feed` says whether it has a line feed, and the
-- bytes after it are left.
pub record StopsAt (mode : Mode) (bytes : List ℕ) (finding : Finding) (checker : Checker) (line : List ℕ) (feed : Bool) (left : Option (List ℕ)) : Type 0 where
  pub has_read : HasRead checker (judged mode (cut_lines bytes))
  pub is_line : reports_line finding.fault ≡ true → line ≡ line_at finding.line bytes
  pub is_feed : reports_line finding.fault ≡ true → feed ≡ feed_at finding.line bytes
  pub is_left : reports_line finding.fault ≡ true → left ≡ Some (after_lines finding.line bytes)

-- where the check of a reader's bytes ended, if the bytes are known
abbrev pub Stops : Mode → Option (List ℕ) → Checker → List ℕ → Bool → (left : Option (List ℕ)) → Result Whole ReadFault → Type 0
Stops mode input checker line feed left (Ok whole) = ⊤
Stops mode input checker line feed left (Err (read.Found finding)) =
    IfSome input (λ bytes. StopsAt mode bytes finding checker line feed left)
Stops mode input checker line feed left (Err read.TooMany) = ⊤
Stops mode input checker line feed left (Err (read.NoRun missing)) = ⊤
Stops mode input checker line feed left (Err (read.Unread number)) = ⊤
Stops mode input checker line feed left (Err (read.Uncreated failed)) = ⊤
Stops mode input checker line feed left (Err read.Unwritten) = ⊤
Stops mode input checker line feed left (Err read.Memory) = ⊤
