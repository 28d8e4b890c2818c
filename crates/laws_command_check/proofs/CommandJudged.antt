-- The verdict on the lines of a command is the answer about its messages, as the report has it.
use Rattle.std.proofs.Common.{◌≡◌, ℕ, List, [], length, Bool, true, false, Option, Some, None, Result, sym, ap, ◌∙◌, subst}
use Rattle.std.specs.List.{concat}
use Rattle.stream_lines.specs.Cut.{cut_lines}
use Rattle.stream_check.specs.declared.messages.totals.Totals.{Totals}
use Rattle.stream_check.specs.declared.rules.fault.Fault.{Fault}
use Rattle.stream_check.specs.declared.rules.fault.Fault.TheVariants.{Planned}
use Rattle.stream_check.specs.declared.verdict.finding.Finding.{Finding}
use Rattle.stream_check.specs.declared.verdict.whole.Whole.{Whole}
use Rattle.stream_check.specs.Lines.{at_line, end_of, verdict_of}
use Rattle.stream_check.specs.Message.{Message}
use Rattle.apply_model.specs.Plan.SavedPlan.{SavedPlan}
use Rattle.apply_events.specs.declared.counts.Counts.{Counts}
use Rattle.apply_events.specs.declared.event.Event.{Event}
use Rattle.apply_events.specs.Totals.{totals_of}
use Rattle.apply_text.specs.declared.operation.Operation.{Operation}
use Rattle.apply_text_terraform.specs.declared.command.Command.{Command}
use Rattle.apply_run.specs.declared.form_report.FormReport.{FormReport}
use Rattle.apply_writer.specs.Stream.Delivered.{IsDelivered}
use Rattle.apply_writer.specs.Stream.Terraform.{contains_error}
use Rattle.apply_command.specs.Reading.{CommandInputs, applied_plan, applied_script, extras, head_inputs, is_applied, lines, notes}
use Rattle.laws_check.specs.Accepted.{totals_of_counts}
use Rattle.laws_check.specs.Applied.{HasShortLines}
use Rattle.laws_check.specs.FormTexts.{StreamIsReadBackAs}
use Rattle.laws_check.specs.Passing.{plain}
use Rattle.laws_check.proofs.Delivered.{stream_is}
use Rattle.laws_check.proofs.FormAccepted.{as_many_lines, at_planned}
use Rattle.laws_command_check.specs.CommandAccepted.{IsCommandAnswered, IsCommandTaken, command_stream_read_back}
use Rattle.laws_command_check.specs.Commands.{IsCommandJudged, is_plan_told}
use Rattle.laws_command_check.specs.HeadReadBack.{totals_of_plan}

-- the answer about the messages, as one about lines
answered_at_line : (applies : Bool) (plan : SavedPlan) (events : List Event) (plans told errors : Bool) (planned counted : Totals) (count : ℕ) (messages : List Message) → length messages ≡ count
    → IsCommandAnswered applies plan events plans told errors planned counted count Fault Planned (end_of (plain plans) messages)
    → IsCommandAnswered applies plan events plans told errors planned counted count Finding (record { line = count; fault = Planned; passed = None }) (at_line (plain plans) messages (length messages) (end_of (plain plans) messages))
answered_at_line true plan events plans told errors planned counted count messages as_many answer = record {
  is_whole = λ one. let whole = answer.is_whole one in (whole.0, ap (at_line (plain plans) messages (length messages)) whole.1, whole.2);
  leaves = λ fine address never. ap (at_line (plain plans) messages (length messages)) (answer.leaves fine address never) ∙ ap at_planned as_many;
}
answered_at_line false plan events plans told errors planned counted count messages as_many answer = λ one. ap (at_line (plain plans) messages (length messages)) (answer one)

module _ (plans : Bool) (command : Command) (lanes : ℕ) (read : CommandInputs) (start : ℕ) (operation : Operation) (events : List Event) (stream : List ℕ) (report : FormReport) (before after : Option (List ℕ))
    (delivered : IsDelivered (applied_plan command lanes read) events stream report.run before after) (error : report.contains_error ≡ contains_error (notes command lanes read) report.run.counts)
    (says : StreamIsReadBackAs stream (command_stream_read_back (head_inputs command lanes read start) (lines command lanes read) (is_applied command lanes read) (applied_plan command lanes read) (applied_script command lanes read) (extras command lanes read) operation events))
    (taken : IsCommandTaken plans (is_plan_told command lanes read) (head_inputs command lanes read start) (lines command lanes read) (is_applied command lanes read) (applied_plan command lanes read) (applied_script command lanes read) (extras command lanes read) operation events)
    (judged : HasShortLines (concat says.lines) → verdict_of (plain plans) (cut_lines (concat says.lines)) ≡ at_line (plain plans) taken.messages (length taken.messages) (end_of (plain plans) taken.messages)) where
  abbrev all : List Message
  all = command_stream_read_back (head_inputs command lanes read start) (lines command lanes read) (is_applied command lanes read) (applied_plan command lanes read) (applied_script command lanes read) (extras command lanes read) operation events

  abbrev Answers : (errors : Bool) → Counts → (lines : ℕ) → Result Whole Finding → Type 0
  Answers errors counts count verdict =
      IsCommandAnswered (is_applied command lanes read) (applied_plan command lanes read) events plans (is_plan_told command lanes read) errors (totals_of_plan (head_inputs command lanes read 0).totals) (totals_of_counts counts) count
      Finding (record { line = count; fault = Planned; passed = None }) verdict

  as_many : length (cut_lines stream) ≡ length all
  as_many = ap (λ (b : List ℕ). length (cut_lines b)) says.joined ∙ as_many_lines says.lines all says.say

  errors_are : report.contains_error ≡ contains_error (notes command lanes read) (totals_of (applied_plan command lanes read) events)
  errors_are = error ∙ ap (contains_error (notes command lanes read)) delivered.counts

  pub stream_judged : HasShortLines stream → IsCommandJudged plans command lanes read events report (length (cut_lines stream)) (verdict_of (plain plans) (cut_lines stream))
  stream_judged short =
      let verdict = verdict_of (plain plans) (cut_lines stream) in
      let counts = totals_of (applied_plan command lanes read) events in
      let errors = contains_error (notes command lanes read) counts in
      let at_lines : Answers errors counts (length all) verdict =
      subst (Answers errors counts (length all)) (sym (ap (λ (b : List ℕ). verdict_of (plain plans) (cut_lines b)) says.joined ∙ judged (subst HasShortLines says.joined short)))
      (answered_at_line (is_applied command lanes read) (applied_plan command lanes read) events plans (is_plan_told command lanes read) errors (totals_of_plan (head_inputs command lanes read 0).totals) (totals_of_counts counts) (length all) taken.messages taken.as_many taken.answer) in
      subst (λ (n : ℕ). Answers report.contains_error report.run.counts n verdict) (sym as_many)
      (subst (λ (b : Bool). Answers b report.run.counts (length all) verdict) (sym errors_are) (subst (λ (c : Counts). Answers errors c (length all) verdict) (sym delivered.counts) at_lines))

-- a sink that had no bytes and knows its bytes has the stream
pub bytes_judged : (plans : Bool) (command : Command) (lanes : ℕ) (read : CommandInputs) (events : List Event) (stream bytes : List ℕ) (report : FormReport) (before after : Option (List ℕ))
    → IsDelivered (applied_plan command lanes read) events stream report.run before after → before ≡ Some [] → after ≡ Some bytes
    → (HasShortLines stream → IsCommandJudged plans command lanes read events report (length (cut_lines stream)) (verdict_of (plain plans) (cut_lines stream)))
    → HasShortLines bytes → IsCommandJudged plans command lanes read events report (length (cut_lines bytes)) (verdict_of (plain plans) (cut_lines bytes))
bytes_judged plans command lanes read events stream bytes report before after delivered none known judged short =
    let same = stream_is (applied_plan command lanes read) events stream report.run before after delivered bytes none known in
    subst (λ (b : List ℕ). IsCommandJudged plans command lanes read events report (length (cut_lines b)) (verdict_of (plain plans) (cut_lines b))) same (judged (subst HasShortLines (sym same) short))
