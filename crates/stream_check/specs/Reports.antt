-- The report of a verdict and its exit status: a line for people, an object for programs.
use Rattle.std.specs.Prelude.{◌≡◌, ⊤, ℕ, List, [], ◌∷◌, ◌++◌, ◌+◌, codes, decimal, min, ◌==◌, Bool, true, false, ◌&&◌, not, if◌then◌else◌, Option, Some, None, IfSome, option_map, Result, Ok, Err}
use Rattle.std.specs.Io.KnownBytes.{Appends, Keeps}
use Rattle.serde_json.specs.Data.{no_members, object}
use Rattle.serde_json.specs.Written.{compact_text}
use Rattle.stream_check.specs.declared.command.settings.Form.{Form}
use Rattle.stream_check.specs.declared.command.settings.Form.TheVariants as form
use Rattle.stream_check.specs.declared.command.finding_report.FindingReport.{FindingReport}
use Rattle.stream_check.specs.declared.command.unreported.Unreported.{Unreported}
use Rattle.stream_check.specs.declared.command.unreported.Unreported.TheVariants as unreported
use Rattle.stream_check.specs.declared.messages.totals.Totals.{Totals}
use Rattle.stream_check.specs.declared.verdict.read_fault.ReadFault.{ReadFault}
use Rattle.stream_check.specs.declared.verdict.read_fault.ReadFault.TheVariants as read
use Rattle.stream_check.specs.declared.verdict.whole.Whole.{Whole}
use Rattle.stream_check.specs.declared.rules.fault.Fault.{Fault}
use Rattle.stream_check.specs.declared.rules.fault.Fault.TheVariants.{Planned, Unended}
use Rattle.stream_check.specs.declared.rules.mode.Mode.{Mode}
use Rattle.stream_check.specs.declared.rules.open_entry.OpenEntry.{OpenEntry}
use Rattle.stream_check.specs.About.{about_line, object_view}
use Rattle.stream_lines.specs.Cut.{after_lines, cut_lines, feed_at, line_at}
use Rattle.stream_runs.specs.Counted.{runs_in}
use Rattle.stream_check.specs.Faults.{is_no_json, reports_front, reports_object}
use Rattle.stream_check.specs.Judged.{judged}
use Rattle.stream_check.specs.Objects.{with_whole}
use Rattle.stream_check.specs.ReportObject.{with_report}
use Rattle.stream_check.specs.Message.{Message}
use Rattle.stream_check.specs.Unbegun.{AreAllUnbegun}
use Rattle.stream_check.specs.Unended.{AreAllOpen}

-- how much was done, or is planned
abbrev pub totals_text : (is_plan : Bool) → Totals → List ℕ
totals_text false totals =
    codes "the stream is whole: "
    ++ decimal totals.added ++ codes " added, "
    ++ decimal totals.changed ++ codes " changed, "
    ++ decimal totals.removed ++ codes " destroyed"
totals_text true totals =
    codes "the plan's stream is whole: "
    ++ decimal totals.added ++ codes " to add, "
    ++ decimal totals.changed ++ codes " to change, "
    ++ decimal totals.removed ++ codes " to destroy"

-- how many lines were ignored, where `find` asks for that
abbrev pub passed_text : Option ℕ → List ℕ
passed_text None = []
passed_text (Some n) =
    if n == 1 then codes ", 1 line passed over" else codes ", " ++ decimal n ++ codes " lines passed over"

-- the text about a whole stream
abbrev pub whole_text : Whole → List ℕ
whole_text whole =
    totals_text whole.is_plan whole.totals ++ (if whole.has_errors then codes ", with errors" else [])
    ++ passed_text whole.passed

-- the report on a whole stream in that form
abbrev pub whole_report : Form → Whole → List ℕ
whole_report form.Text whole = whole_text whole
whole_report form.Json whole = compact_text (object (with_whole whole no_members))

-- ---- the exit status

abbrev pub whole_status_of : Whole → ℕ
whole_status_of whole = if whole.has_errors then 1 else 0

abbrev pub fault_status_of : ReadFault → ℕ
fault_status_of (read.Found finding) = 4
fault_status_of read.TooMany = 2
fault_status_of (read.NoRun missing) = 2
fault_status_of (read.Unread number) = 2
fault_status_of (read.Uncreated failed) = 2
fault_status_of read.Unwritten = 3
fault_status_of read.Memory = 3

-- the exit status: 3 where the report failed, else that of the verdict
abbrev pub status_of : Result Whole ReadFault → (reported : Result Unit Unreported) → ℕ
status_of answer (Err why) = 3
status_of (Ok whole) (Ok done) = whole_status_of whole
status_of (Err fault) (Ok done) = fault_status_of fault

-- ---- what is written

-- how many runs there are where a second one has begun before these bytes; it stays a number of 64
-- bits
abbrev pub runs_from : (find : Bool) → List ℕ → ℕ
runs_from find bytes = min (runs_in find (cut_lines bytes) + 2) 18446744073709551615

-- what the report of a fault lists: what stands open, or what was planned and never began
abbrev pub AreListed : Fault → List Message → List OpenEntry → Type 0
AreListed Unended messages entries = AreAllOpen messages entries
AreListed Planned messages entries = AreAllUnbegun messages entries
AreListed _ messages entries = ⊤

-- The report is true of these bytes. Its text is the line of its number. It says whether that line
-- was cut off, what its message is about, and all that stands open, or never began, after the
-- messages before the fault.
pub record IsReportOf (mode : Mode) (bytes : List ℕ) (report : FindingReport) : Type 0 where
  pub text : reports_front report.finding.fault ≡ true → report.text.now ≡ line_at report.finding.line bytes
  pub cut_off : reports_front report.finding.fault ≡ true
      → report.is_cut_off ≡ (is_no_json report.finding.fault && not (feed_at report.finding.line bytes))
  pub object : option_map object_view report.object
      ≡ (if reports_object report.finding.fault then about_line mode.find (line_at report.finding.line bytes) else None)
  pub listed : AreListed report.finding.fault (judged mode (cut_lines bytes)) report.listed.now
  pub before : report.lines_before ≡ mode.lines_before
  pub runs : IfSome report.runs (λ n. n ≡ runs_from mode.find (after_lines report.finding.line bytes))

-- What a fault adds to the output: nothing, or in the form `Json` the object on a line. The object
-- is true of the input, if its bytes are known.
abbrev pub IsFaultReported : Mode → (input : Option (List ℕ)) → Form → ReadFault → (before after : Option (List ℕ)) → Type 0
IsFaultReported mode input form.Json (read.Found finding) before after =
    (report : FindingReport) × (report.finding ≡ finding) × IfSome input (λ bytes. IsReportOf mode bytes report)
    × Appends before after (compact_text (object (with_report report no_members)) ++ 10 ∷ [])
IsFaultReported mode input form fault before after = Keeps before after

-- what the report of a verdict adds to the output
abbrev pub IsAnswerReported : Mode → (input : Option (List ℕ)) → Form → Result Whole ReadFault → (before after : Option (List ℕ)) → Type 0
IsAnswerReported mode input form (Ok whole) before after = Appends before after (whole_report form whole ++ 10 ∷ [])
IsAnswerReported mode input form (Err fault) before after = IsFaultReported mode input form fault before after

-- The report needs memory: for a line, for an object, or for the name of a file.
abbrev pub TakesMemory : (is_named : Bool) → Result Whole ReadFault → Type 0
TakesMemory is_named (Ok whole) = ⊤
TakesMemory is_named (Err (read.Found finding)) = ⊤
TakesMemory is_named (Err read.TooMany) = ⊥
TakesMemory is_named (Err (read.NoRun missing)) = ⊥
TakesMemory is_named (Err (read.Unread number)) = is_named ≡ true
TakesMemory is_named (Err (read.Uncreated failed)) = ⊤
TakesMemory is_named (Err read.Unwritten) = ⊤
TakesMemory is_named (Err read.Memory) = ⊥

-- the report goes to the output
abbrev pub GoesOut : Form → Result Whole ReadFault → Type 0
GoesOut form (Ok whole) = ⊤
GoesOut form.Json (Err (read.Found finding)) = ⊤
GoesOut form.Text (Err (read.Found finding)) = ⊥
GoesOut form (Err read.TooMany) = ⊥
GoesOut form (Err (read.NoRun missing)) = ⊥
GoesOut form (Err (read.Unread number)) = ⊥
GoesOut form (Err (read.Uncreated failed)) = ⊥
GoesOut form (Err read.Unwritten) = ⊥
GoesOut form (Err read.Memory) = ⊥

-- Why the report failed. Memory was refused and nothing was written, or the output could not be
-- written.
abbrev pub IsUnreported : (is_named : Bool) → Form → Result Whole ReadFault → Unreported → (before after : Option (List ℕ)) → Type 0
IsUnreported is_named form answer unreported.Memory before after = TakesMemory is_named answer × Keeps before after
IsUnreported is_named form answer unreported.Gone before after = GoesOut form answer
IsUnreported is_named form answer unreported.Unwritten before after = GoesOut form answer

-- the verdict was reported, or the report failed for that reason
abbrev pub IsReported : (is_named : Bool) → Mode → (input : Option (List ℕ)) → Form → Result Whole ReadFault → Result Unit Unreported
    → (before after : Option (List ℕ)) → Type 0
IsReported is_named mode input form answer (Ok done) before after = IsAnswerReported mode input form answer before after
IsReported is_named mode input form answer (Err why) before after = IsUnreported is_named form answer why before after
