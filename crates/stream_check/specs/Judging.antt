-- What a judge knows of the lines that it has read.
use Rattle.std.specs.Prelude.{◌≡◌, ◌≢◌, ◌++◌, ⊤, [], ℕ, List, Option, Some, None, Result, Ok, Err, string_bytes}
use Rattle.stream_check.specs.Checking.{HasRead}
use Rattle.stream_check.specs.Lines.{passed_of, verdict_after, verdict_of}
use Rattle.stream_check.specs.Message.{Message}
use Rattle.stream_check.specs.Reports.{whole_text}
use Rattle.stream_check.specs.declared.rules.fault.Fault.{Fault}
use Rattle.stream_check.specs.declared.rules.fault.Fault.TheVariants.{Memory}
use Rattle.stream_check.specs.declared.rules.mode.Mode.{Mode}
use Rattle.stream_check.specs.declared.verdict.finding.Finding.{Finding}
use Rattle.stream_check.specs.declared.verdict.judge.Found.{Found}
use Rattle.stream_check.specs.declared.verdict.judge.Judge.{Judge}
use Rattle.stream_check.specs.declared.verdict.judge.Verdict.{Verdict}
use Rattle.stream_check.specs.declared.verdict.whole.Whole.{Whole}

-- The lines up to now decide: without a fault, as the checker's messages and the lines that follow
-- decide; with one, so, whatever follows.
abbrev pub Decides : Mode → Judge → (texts : List (List ℕ)) → Option Found → Type 0
Decides mode judge texts None = (messages : List Message) × HasRead judge.checker messages
    × ((more : List (List ℕ)) → verdict_of mode (texts ++ more) ≡ verdict_after mode messages more)
Decides mode judge texts (Some found) = (more : List (List ℕ)) → verdict_of mode (texts ++ more) ≡ Err found.finding

-- the judge has read these lines
pub record HasJudged (mode : Mode) (judge : Judge) (texts : List (List ℕ)) : Type 0 where
  pub mode_is : judge.mode ≡ mode
  pub decides : Decides mode judge texts judge.found

-- the fault of the line of that number, after these messages
abbrev pub IsFoundAfter : Mode → List Message → (line : ℕ) → Fault → Option Found → Type 0
IsFoundAfter mode messages line fault None = ⊥
IsFoundAfter mode messages line fault (Some found) =
    (fault ≢ Memory) × (found.finding ≡ record { line = line; fault = fault; passed = passed_of mode messages })

-- the text about a whole stream
abbrev pub IsVerdictText : Result Whole Finding → List ℕ → Type 0
IsVerdictText (Ok whole) text = text ≡ whole_text whole
IsVerdictText (Err finding) text = ⊤

-- the verdict at the end of a stream with these messages, with its text
pub record IsVerdictAfter (mode : Mode) (messages : List Message) (verdict : Verdict) : Type 0 where
  pub answer : verdict_after mode messages [] ≡ verdict.answer
  pub text : IsVerdictText verdict.answer (string_bytes verdict.text)

-- the verdict on these lines, with its text
pub record IsVerdict (mode : Mode) (texts : List (List ℕ)) (verdict : Verdict) : Type 0 where
  pub answer : verdict_of mode texts ≡ verdict.answer
  pub text : IsVerdictText verdict.answer (string_bytes verdict.text)
