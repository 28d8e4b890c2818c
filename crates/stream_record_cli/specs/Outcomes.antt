-- What `record` writes and answers.
use Rattle.std.specs.Prelude.{◌≡◌, ℕ, List, Option, Result, Ok, Err, if◌then◌else◌, take}
use Rattle.std.specs.Io.KnownBytes.{Appends, Keeps}
use Rattle.apply_model.specs.Plan.Address.{is_empty}
use Rattle.term_words.specs.MessageTexts.{text_bytes}
use Rattle.stream_record_cli.specs.Causes.{IsStatusOf}
use Rattle.stream_record_cli.specs.declared.command.writing.Texts.{Texts}
use Rattle.stream_record_cli.specs.declared.record_fault.RecordFault.{RecordFault}
use Rattle.stream_record_cli.specs.declared.record_fault.RecordFault.TheVariants as fault
use Rattle.stream_record_cli.specs.declared.refusal.Refusal.{Refusal}

-- The exit status of a script with these warnings.
abbrev pub warned_status : (warnings : List ℕ) → ℕ
warned_status warnings = if is_empty warnings then 0 else 1

-- The script was written. `IsScript` says which scripts and warnings are right.
pub record IsWritten (IsScript : (text warnings : List ℕ) → Type 0) (before after : Option (List ℕ)) (status : ℕ) : Type 0 where
  pub text : List ℕ
  pub warnings : List ℕ
  pub is : IsScript text warnings
  pub written : Appends before after text
  pub status_is : status ≡ warned_status warnings

-- A beginning of the script was written: all of it, a part or nothing.
pub record IsBegun (IsScript : (text warnings : List ℕ) → Type 0) (before after : Option (List ℕ)) : Type 0 where
  pub text : List ℕ
  pub warnings : List ℕ
  pub is : IsScript text warnings
  pub count : ℕ
  pub written : Appends before after (take count text)

-- Nothing was written, and this is the status.
abbrev pub IsUnwritten : (before after : Option (List ℕ)) → (status : ℕ) → RecordFault → Type 0
IsUnwritten before after status why = IsStatusOf why status × Keeps before after

-- What was written, and the exit status. The whole script was written. Or there is none for a cause,
-- and nothing was written. Or the output failed before its end.
abbrev pub HasOutcome : (IsScript : (text warnings : List ℕ) → Type 0) → (IsCause : RecordFault → Type 0) → (before after : Option (List ℕ)) → (status : ℕ)
    → Result (Unit {0}) RecordFault → Type 0
HasOutcome IsScript IsCause before after status (Ok done) = IsWritten IsScript before after status
HasOutcome IsScript IsCause before after status (Err (fault.Input why)) = ⊥
HasOutcome IsScript IsCause before after status (Err (fault.Plan why)) = IsUnwritten before after status (fault.Plan why) × IsCause (fault.Plan why)
HasOutcome IsScript IsCause before after status (Err (fault.Graph why)) = IsUnwritten before after status (fault.Graph why) × IsCause (fault.Graph why)
HasOutcome IsScript IsCause before after status (Err (fault.Stream why)) = IsUnwritten before after status (fault.Stream why) × IsCause (fault.Stream why)
HasOutcome IsScript IsCause before after status (Err (fault.NoRun missing)) =
    IsUnwritten before after status (fault.NoRun missing) × IsCause (fault.NoRun missing)
HasOutcome IsScript IsCause before after status (Err fault.TooLarge) = IsUnwritten before after status fault.TooLarge × IsCause fault.TooLarge
HasOutcome IsScript IsCause before after status (Err fault.Memory) = IsUnwritten before after status fault.Memory
HasOutcome IsScript IsCause before after status (Err fault.Gone) = (status ≡ 3) × IsBegun IsScript before after
HasOutcome IsScript IsCause before after status (Err fault.Unwritten) = (status ≡ 3) × IsBegun IsScript before after

-- ---- for private clauses

-- What became of texts that were made, or of the refusal to make them.
abbrev pub WasWritten : Result Texts Refusal → (before after : Option (List ℕ)) → (status : ℕ) → Result (Unit {0}) RecordFault → Type 0
WasWritten (Ok texts) before after status answer =
    HasOutcome (λ text warnings. (text ≡ text_bytes texts.script) × (warnings ≡ text_bytes texts.warnings)) (λ why. ⊥) before after status answer
WasWritten (Err refusal) before after status answer =
    (answer ≡ Err refusal.fault) × IsUnwritten before after status refusal.fault
