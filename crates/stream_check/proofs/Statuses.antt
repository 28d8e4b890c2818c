-- Exit statuses: 0 and 1 report a whole stream. 2, 3 and 4 report a stream that is not whole,
-- that no stream was checked, or that the report failed.
use Rattle.std.proofs.Common.{◌≡◌, ◌≢◌, ◌≤◌, inl, inr, subst, ℕ, List, [], ◌∷◌, ◌++◌, Bool, true, false, cond, Option, None, Some, Result, Ok, Err, refl, arith}
use Rattle.std.specs.Prelude.{IfErr, IfSome, OnOk, String, is_some}
use Rattle.std.specs.Global.{Global}
use Rattle.std.specs.Io.KnownBytes.{Appends, Keeps}
use Rattle.std.proofs.KnownBytes.{Keeps-refl}
use Rattle.serde_json.specs.Data.{no_members, object}
use Rattle.serde_json.specs.Written.{compact_text}
use Rattle.stream_lines.specs.Cut.{cut_lines}
use Rattle.stream_runs.specs.Selected.{IsSelected}
use Rattle.stream_runs.specs.declared.choice.RunChoice.{RunChoice}
use Rattle.stream_runs.specs.declared.fault.RunFault.TheVariants as run
use Rattle.stream_check.specs.CommandLine.{HasJudgedChoice, HasJudgedInput, HasKeptNone, IsQuiet, IsSilent}
use Rattle.stream_check.specs.declared.command.settings.Settings.{Settings}
use Rattle.stream_check.specs.Reading.{IsAnswer, IsUnkept}
use Rattle.stream_check.specs.Reports.{IsFaultReported, IsReported, IsReportOf, TakesMemory, status_of, whole_report}
use Rattle.stream_check.specs.ReportObject.{with_report}
use Rattle.stream_check.specs.declared.command.settings.Form.{Form}
use Rattle.stream_check.specs.declared.command.settings.Form.TheVariants.{Json, Text}
use Rattle.stream_check.specs.declared.command.finding_report.FindingReport.{FindingReport}
use Rattle.stream_check.specs.declared.command.unreported.Unreported.{Unreported}
use Rattle.stream_check.specs.declared.command.unreported.Unreported.TheVariants as unreported
use Rattle.stream_check.specs.declared.rules.mode.Mode.{Mode}
use Rattle.stream_check.specs.declared.verdict.finding.Finding.{Finding}
use Rattle.stream_check.specs.declared.verdict.read_fault.ReadFault.{ReadFault}
use Rattle.stream_check.specs.declared.verdict.read_fault.ReadFault.TheVariants as read
use Rattle.stream_check.specs.declared.verdict.whole.Whole.{Whole}

-- ---- the status of an answer

whole_most : (has_errors : Bool) → cond has_errors 1 0 ≤ 4
whole_most true = omega arith
whole_most false = omega arith

pub status_most : (answer : Result Whole ReadFault) (reported : Result (Unit {0}) Unreported) → status_of answer reported ≤ 4
status_most (Ok whole) (Ok done) = whole_most whole.has_errors
status_most (Ok whole) (Err why) = omega arith
status_most (Err (read.Found finding)) (Ok done) = omega arith
status_most (Err read.TooMany) (Ok done) = omega arith
status_most (Err (read.NoRun missing)) (Ok done) = omega arith
status_most (Err (read.Unread number)) (Ok done) = omega arith
status_most (Err (read.Uncreated failed)) (Ok done) = omega arith
status_most (Err read.Unwritten) (Ok done) = omega arith
status_most (Err read.Memory) (Ok done) = omega arith
status_most (Err fault) (Err why) = omega arith

-- a low status is that of a whole stream, and of nothing else
pub bad : {R : Type 0} (fault : ReadFault) (reported : Result (Unit {0}) Unreported) → status_of (Err fault) reported ≤ 1 → R
bad (read.Found finding) (Ok done) few = absurd (omega arith)
bad read.TooMany (Ok done) few = absurd (omega arith)
bad (read.NoRun missing) (Ok done) few = absurd (omega arith)
bad (read.Unread number) (Ok done) few = absurd (omega arith)
bad (read.Uncreated failed) (Ok done) few = absurd (omega arith)
bad read.Unwritten (Ok done) few = absurd (omega arith)
bad read.Memory (Ok done) few = absurd (omega arith)
bad fault (Err why) few = absurd (omega arith)

-- ---- what is silent

-- a low status is that of a report without a word on standard error
pub silent_at : (verdict : Result Whole ReadFault) (reported : Result (Unit {0}) Unreported) → status_of verdict reported ≤ 1
    → IsSilent (record { verdict = verdict; reported = reported })
silent_at (Ok whole) (Ok done) few = inl (whole, refl, refl)
silent_at (Ok whole) (Err why) few = absurd (omega arith)
silent_at (Err fault) reported few = bad fault reported few

-- so the answer alone tells that nothing is reported
pub quiet_by : {P : Type 0} (verdict : Result Whole ReadFault) (reported : Result (Unit {0}) Unreported) → (IsSilent (record { verdict = verdict; reported = reported }) → P)
    → IsQuiet (record { verdict = verdict; reported = reported }) (status_of verdict reported) → P
quiet_by verdict reported silent (inl few) = silent (silent_at verdict reported few)
quiet_by verdict reported silent (inr is) = silent is

not_done : {R : Type 0} (why : Unreported) → ◌≡◌ {A = Result (Unit {0}) Unreported} (Err why) (Ok tt) → R
not_done why same = absurd cc

not_whole : {R : Type 0} (fault : ReadFault) (whole : Whole) → ◌≡◌ {A = Result Whole ReadFault} (Err fault) (Ok whole) → R
not_whole fault whole same = absurd cc

-- a whole stream, by what became of its report
pub whole_silent : {P : Type 0} (whole : Whole) (reported : Result (Unit {0}) Unreported) → OnOk reported P → (reported ≡ Err unreported.Gone → P)
    → IsSilent (record { verdict = Ok whole; reported = reported }) → P
whole_silent whole (Ok done) quiet gone silent = quiet
whole_silent whole (Err why) quiet gone (inl shown) = not_done why shown.2
whole_silent whole (Err why) quiet gone (inr is) = gone is

-- a fault is silent only where the reader of the output is gone
pub fault_silent : {P : Type 0} (fault : ReadFault) (reported : Result (Unit {0}) Unreported) → (reported ≡ Err unreported.Gone → P)
    → IsSilent (record { verdict = Err fault; reported = reported }) → P
fault_silent fault reported gone (inl shown) = not_whole fault shown.0 shown.1
fault_silent fault reported gone (inr is) = gone is

-- ---- what is reported, and what is not

-- for want of memory, before anything was written
pub memory_reported : (is_named : Bool) (mode : Mode) (seen : Option (List ℕ)) (form : Form) (answer : Result Whole ReadFault) (held : Option (List ℕ)) → TakesMemory is_named answer
    → IsReported is_named mode seen form answer (Err unreported.Memory) held held
memory_reported is_named mode seen form answer held takes = (takes, Keeps-refl held)

-- a whole stream, by what became of its line
pub whole_reported : (is_named : Bool) (mode : Mode) (seen : Option (List ℕ)) (form : Form) (whole : Whole) (reported : Result (Unit {0}) Unreported) (before after : Option (List ℕ))
    → OnOk reported (Appends before after (whole_report form whole ++ 10 ∷ [])) → IfErr reported (λ why. why ≢ unreported.Memory)
    → IsReported is_named mode seen form (Ok whole) reported before after
whole_reported is_named mode seen form whole (Ok done) before after written unwritten = written
whole_reported is_named mode seen form whole (Err unreported.Memory) before after written unwritten = absurd (unwritten refl)
whole_reported is_named mode seen form whole (Err unreported.Gone) before after written unwritten = tt
whole_reported is_named mode seen form whole (Err unreported.Unwritten) before after written unwritten = tt

-- an object, by what became of its line
pub object_reported : (is_named : Bool) (mode : Mode) (seen : Option (List ℕ)) (report : FindingReport) (reported : Result (Unit {0}) Unreported) (before after : Option (List ℕ))
    → IfSome seen (λ bytes. IsReportOf mode bytes report) → OnOk reported (Appends before after (compact_text (object (with_report report no_members)) ++ 10 ∷ []))
    → IfErr reported (λ why. why ≢ unreported.Memory) → IsReported is_named mode seen Json (Err (read.Found report.finding)) reported before after
object_reported is_named mode seen report (Ok done) before after is written unwritten = (report, refl, is, written)
object_reported is_named mode seen report (Err unreported.Memory) before after is written unwritten = absurd (unwritten refl)
object_reported is_named mode seen report (Err unreported.Gone) before after is written unwritten = tt
object_reported is_named mode seen report (Err unreported.Unwritten) before after is written unwritten = tt

-- texts for people go to standard error, so that the output is unchanged
pub text_reported : (is_named : Bool) (mode : Mode) (seen : Option (List ℕ)) (form : Form) (finding : Finding) (reported : Result (Unit {0}) Unreported) (held : Option (List ℕ)) → form ≡ Text
    → IfErr reported (λ why. why ≡ unreported.Memory) → IsReported is_named mode seen form (Err (read.Found finding)) reported held held
text_reported is_named mode seen form finding (Ok done) held is refused = rw is (Keeps-refl held)
text_reported is_named mode seen form finding (Err why) held is refused = rw refused (tt, Keeps-refl held)

-- nobody is gone where memory alone may be refused
pub not_gone : {R : Type 0} (reported : Result (Unit {0}) Unreported) → IfErr reported (λ why. why ≡ unreported.Memory) → reported ≡ Err unreported.Gone → R
not_gone (Ok done) refused gone = absurd cc
not_gone (Err why) refused gone = absurd cc

-- ---- faults that are no finding

pub kept : (mode : Mode) (seen : Option (List ℕ)) (form : Form) (fault : ReadFault) (before after : Option (List ℕ)) → ((finding : Finding) → fault ≡ read.Found finding → ⊥) → Keeps before after
    → IsFaultReported mode seen form fault before after
kept mode seen form (read.Found finding) before after apart keeps = absurd (apart finding refl)
kept mode seen Text read.TooMany before after apart keeps = keeps
kept mode seen Text (read.NoRun missing) before after apart keeps = keeps
kept mode seen Json read.TooMany before after apart keeps = keeps
kept mode seen Json (read.NoRun missing) before after apart keeps = keeps
kept mode seen Text (read.Unread number) before after apart keeps = keeps
kept mode seen Text (read.Uncreated failed) before after apart keeps = keeps
kept mode seen Text read.Unwritten before after apart keeps = keeps
kept mode seen Json (read.Unread number) before after apart keeps = keeps
kept mode seen Json (read.Uncreated failed) before after apart keeps = keeps
kept mode seen Json read.Unwritten before after apart keeps = keeps
kept mode seen Text read.Memory before after apart keeps = keeps
kept mode seen Json read.Memory before after apart keeps = keeps

pub fault_reported : (is_named : Bool) (mode : Mode) (seen : Option (List ℕ)) (form : Form) (fault : ReadFault) (reported : Result (Unit {0}) Unreported) (held : Option (List ℕ)) → ((finding : Finding) → fault ≡ read.Found finding → ⊥)
    → IfErr reported (λ why. (why ≡ unreported.Memory) × TakesMemory is_named (Err fault)) → IsReported is_named mode seen form (Err fault) reported held held
fault_reported is_named mode seen form fault (Ok done) held apart refused = kept mode seen form fault held held apart (Keeps-refl held)
fault_reported is_named mode seen form fault (Err why) held apart refused = rw (refused.0) (refused.1, Keeps-refl held)

-- want of memory is no finding
pub no_finding : (finding : Finding) → read.Memory ≡ read.Found finding → ⊥
no_finding finding same = cc

-- want of memory answers nothing, whatever the input holds
pub no_answer : (mode : Mode) (known : Option (List ℕ)) → IfSome known (λ bytes. IsAnswer mode (cut_lines bytes) (Err read.Memory))
no_answer mode None = tt
no_answer mode (Some bytes) = tt

-- want of memory selects nothing, whatever the input holds
none_selected : (find : Bool) (choice : RunChoice) (known : Option (List ℕ)) → IfSome known (λ bytes. IsSelected find choice bytes (Err run.Memory))
none_selected find choice None = tt
none_selected find choice (Some bytes) = tt

-- want of memory before anything was read, whatever was to be judged
pub memory_judged : (chosen : Option RunChoice) (settings : Settings) (given before after : Option (List ℕ)) → Keeps before after
    → HasJudgedChoice chosen settings given before after (record { verdict = Err read.Memory; reported = Ok tt })
memory_judged None settings given before after keeps = record {
  judged = no_answer settings.mode given;
  reported = kept settings.mode given settings.form read.Memory before after no_finding keeps;
}
memory_judged (Some choice) settings given before after keeps = (
  Err run.Memory,
  none_selected settings.mode.find choice given,
  (refl, kept settings.mode None settings.form read.Memory before after no_finding keeps),
)

-- so there is none whether or not the messages are kept
pub input_unread : (write : Option (String Global)) (settings : Settings) (given before after : Option (List ℕ)) → Keeps before after
    → HasJudgedInput write settings given before after (record { verdict = Err read.Memory; reported = Ok tt })
input_unread None settings given before after keeps = memory_judged settings.run settings given before after keeps
input_unread (Some name) settings given before after keeps = inl (record {
  unkept = tt;
  reported = kept settings.mode None settings.form read.Memory before after no_finding keeps;
})

-- why messages could not be kept is no finding
unkept_apart : (fault : ReadFault) → IsUnkept fault → (finding : Finding) → fault ≡ read.Found finding → ⊥
unkept_apart fault unkept finding is = subst IsUnkept is unkept

-- messages that could not be kept, and their report
pub unkept_reported : (settings : Settings) (fault : ReadFault) (reported : Result (Unit {0}) Unreported) (held : Option (List ℕ)) → IsUnkept fault
    → IfErr reported (λ why. (why ≡ unreported.Memory) × TakesMemory (is_some settings.file) (Err fault)) → HasKeptNone settings held held (record { verdict = Err fault; reported = reported })
unkept_reported settings fault reported held unkept refused = record {
  unkept = unkept;
  reported = fault_reported (is_some settings.file) settings.mode None settings.form fault reported held (unkept_apart fault unkept) refused;
}
