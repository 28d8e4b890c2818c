-- What a command reads, where a checker accepts its stream, and the verdict on the stream.
use Rattle.std.specs.Prelude.{◌≡◌, ◌&&◌, ℕ, List, Bool, length, None, Result}
use Rattle.stream_check.specs.declared.rules.fault.Fault.TheVariants.{Planned}
use Rattle.stream_check.specs.declared.verdict.finding.Finding.{Finding}
use Rattle.stream_check.specs.declared.verdict.whole.Whole.{Whole}
use Rattle.apply_events.specs.declared.event.Event.{Event}
use Rattle.apply_planning_failures.specs.Planning.{planning_notes}
use Rattle.apply_run.specs.declared.form_report.FormReport.{FormReport}
use Rattle.apply_text_terraform.specs.declared.command.Command.{Command}
use Rattle.apply_command.specs.Head.{is_none}
use Rattle.apply_command.specs.Notes.{tells_plan}
use Rattle.apply_command.specs.Reading.{CommandInputs, applied_plan, failed, head_inputs, is_applied, planning}
use Rattle.laws_check.specs.Accepted.{totals_of_counts}
use Rattle.laws_check.specs.Plans.{ChangesAreWhole, DeletesDeposed, IsOrdinary, ProvisionsCreates, WarnsOfReads}
use Rattle.laws_command_check.specs.CommandAccepted.{IsCommandAnswered}
use Rattle.laws_command_check.specs.FewTold.{FewShareAnAddress, OnlyReadsWarn}
use Rattle.laws_command_check.specs.HeadReadBack.{totals_of_plan}

-- the stream tells of the plan
abbrev pub is_plan_told : Command → (lanes : ℕ) → CommandInputs → Bool
is_plan_told command lanes read =
    tells_plan command (failed command lanes read) (planning_notes (planning command lanes read)) (is_none read.stated.plan.changes && is_none read.outputs)

-- The objects that are told may be: few share an address, and a refresh that fails ends with an
-- error. The plan and the script are as Terraform's are, and each change has its details.
pub record MayBePlanned (read : CommandInputs) : Type 0 where
  pub few : FewShareAnAddress read.told
  pub warns : OnlyReadsWarn read.told
  pub whole : ChangesAreWhole read.stated.plan
  pub as_many : length read.stated.details.changes ≡ length read.stated.plan.changes
  pub ordinary : IsOrdinary read.stated.plan
  pub provisions : ProvisionsCreates read.stated.plan read.stated.script
  pub warnings : WarnsOfReads read.stated.plan read.stated.script

-- What the laws ask of a plan, its prior state and its script that were read: few objects share an
-- address, and the plan only deletes deposed objects.
pub record IsPlannedSo (read : CommandInputs) : Type 0 where
  pub few : FewShareAnAddress read.told
  pub deleted : DeletesDeposed read.stated.plan

-- The verdict on these lines, as the report has it: its totals, and an error if and only if the
-- report has one. The fault is told at the last line.
abbrev pub IsCommandJudged : (plans : Bool) → Command → (lanes : ℕ) → CommandInputs → List Event → FormReport → (lines : ℕ) → Result Whole Finding → Type 0
IsCommandJudged plans command lanes read events report lines verdict =
    IsCommandAnswered (is_applied command lanes read) (applied_plan command lanes read) events plans (is_plan_told command lanes read) report.contains_error
    (totals_of_plan (head_inputs command lanes read 0).totals) (totals_of_counts report.run.counts) lines Finding (record { line = lines; fault = Planned; passed = None }) verdict
