-- The checker accepts a stream of whole steps in Terraform's form, and the stream has a line for
-- each message.
use Rattle.std.proofs.Common.{◌≡◌, ℕ, suc, List, [], ◌∷◌, ◌++◌, append_assoc, cond, length, Bool, true, false, Option, Some, None, Result, Err, refl, sym, ap, ◌∙◌, subst, ⊎_elim}
use Rattle.std.specs.List.{concat}
use Rattle.stream_lines.specs.Cut.{cut_lines}
use Rattle.apply_model.specs.declared.details.change_details.ChangeDetails.{ChangeDetails}
use Rattle.apply_model.specs.declared.details.note.Note.{Note}
use Rattle.apply_model.specs.declared.details.output.Output.{Output}
use Rattle.apply_model.specs.Plan.SavedPlan.{SavedPlan}
use Rattle.stream_check.specs.declared.verdict.whole.Whole.{Whole}
use Rattle.stream_check.specs.declared.rules.fault.Fault.{Fault}
use Rattle.stream_check.specs.declared.rules.fault.Fault.TheVariants.{Planned}
use Rattle.stream_check.specs.declared.verdict.finding.Finding.{Finding}
use Rattle.stream_check.specs.Judged.{judged}
use Rattle.stream_check.specs.Lines.{at_line, end_of, verdict_of}
use Rattle.stream_check.specs.Message.{Message}
use Rattle.apply_events.specs.declared.counts.Counts.{Counts}
use Rattle.apply_events.specs.declared.event.Event.{Event}
use Rattle.apply_text.specs.declared.operation.Operation.{Operation}
use Rattle.apply_run.specs.declared.form_report.FormReport.{FormReport}
use Rattle.apply_run.specs.Read.{StatedInputs, applied_plan, applied_script, extras_of, is_unfinished}
use Rattle.apply_writer.specs.Stream.Delivered.{IsDelivered}
use Rattle.apply_writer.specs.Stream.Terraform.{StreamExtras, contains_error}
use Rattle.laws_check.specs.Accepted.{totals_of_counts}
use Rattle.laws_check.specs.AcceptedInForm.{AreAcceptedInForm, IsTakenInForm}
use Rattle.laws_check.specs.Applied.{HasShortLines}
use Rattle.laws_check.specs.FormTexts.{StreamIsReadBackAs}
use Rattle.laws_check.specs.Passing.{plain}
use Rattle.laws_check.specs.ReadBackInForm.{AreReadBackAs, IsReadBackAs, stream_read_back_in_form, whole_in_form, whole_reported_in_form}
use Rattle.laws_check.specs.Unstarted.{FindsUnstarted, IsAnswered, IsJudged}
use Rattle.laws_check.proofs.Bytes.{cut_off}
use Rattle.laws_check.proofs.Delivered.{stream_is}

-- ---- a line for each message

pub as_many_lines : (lines : List (List ℕ)) (ms : List Message) → AreReadBackAs lines ms → length (cut_lines (concat lines)) ≡ length ms
as_many_lines [] ms none = sym (ap (λ (l : List Message). length l) none)
as_many_lines (line ∷ lines) ms say =
    ⊎_elim
    (λ (empty : (line ≡ []) × AreReadBackAs lines ms). ap (λ (l : List ℕ). length (cut_lines (l ++ concat lines))) empty.0 ∙ as_many_lines lines ms empty.1)
    (λ (one : (message : Message) × (later : List Message) × (ms ≡ message ∷ later) × IsReadBackAs line message × AreReadBackAs lines later).
    let reported_error = one.3 in
    let cut : cut_lines (line ++ concat lines) ≡ reported_error.text ∷ cut_lines (concat lines) =
    ap (λ (l : List ℕ). cut_lines (l ++ concat lines)) reported_error.line_is ∙ ap cut_lines (append_assoc reported_error.text (10 ∷ []) (concat lines)) ∙ cut_off reported_error.text (concat lines) reported_error.no_feed in
    ap (λ (l : List (List ℕ)). length l) cut ∙ ap suc (as_many_lines lines one.1 one.4) ∙ sym (ap (λ (l : List Message). length l) one.2))
    say

-- ---- what was read, as it is applied

abbrev with_details : List ChangeDetails → List Note → List Output → StreamExtras
with_details details notes outputs = record { details = details; notes = notes; outputs = outputs }

-- a plan that is applied as a plan without changes has no details
pub accepted_as_stated : (plans : Bool) (stated : StatedInputs) (operation : Operation) (events : List Event) → length stated.details.changes ≡ length stated.plan.changes
    → ((extras : StreamExtras) → length extras.details ≡ length (applied_plan stated).changes → IsTakenInForm plans (applied_plan stated) (applied_script stated) extras operation events)
    → IsTakenInForm plans (applied_plan stated) (applied_script stated) (extras_of stated) operation events
accepted_as_stated plans stated operation events as_many law = of_note (is_unfinished stated.details.note) law
  where
    of_note : (b : Bool)
        → ((extras : StreamExtras) → length extras.details ≡ length (cond b (record { version = stated.plan.version; changes = [] }) stated.plan).changes
        → IsTakenInForm plans (cond b (record { version = stated.plan.version; changes = [] }) stated.plan) (cond b [] stated.script) extras operation events)
        → IsTakenInForm plans (cond b (record { version = stated.plan.version; changes = [] }) stated.plan) (cond b [] stated.script) (extras_of stated) operation events
    of_note true law =
        let taken = law (with_details [] (extras_of stated).notes (extras_of stated).outputs) refl in
        record { messages = taken.messages; accepted = taken.accepted; finds = taken.finds; answer = record { is_whole = taken.answer.is_whole; leaves = taken.answer.leaves }; as_many = taken.as_many }
    of_note false law = law (extras_of stated) as_many

-- ---- the bytes

abbrev pub at_planned : ℕ → Result Whole Finding
at_planned line = Err (record { line = line; fault = Planned; passed = None })

-- the verdict on the messages, as one on lines
at_last_line : (plan : SavedPlan) (events : List Event) (whole : Whole) (plans : Bool) (messages : List Message) → length messages ≡ whole.lines → IsAnswered plan events whole Fault Planned (end_of (plain plans) messages)
    → IsJudged plan events whole (at_line (plain plans) messages (length messages) (end_of (plain plans) messages))
at_last_line plan events whole plans messages as_many answer = record {
  is_whole = λ told. ap (at_line (plain plans) messages (length messages)) (answer.is_whole told);
  leaves = λ fine address never. ap (at_line (plain plans) messages (length messages)) (answer.leaves fine address never) ∙ ap at_planned as_many;
}

pub are_accepted : (plans : Bool) (stated : StatedInputs) (operation : Operation) (events : List Event) (bytes : List ℕ) → (lines : StreamIsReadBackAs bytes (stream_read_back_in_form (applied_plan stated) (applied_script stated) (extras_of stated) operation events))
    → (taken : IsTakenInForm plans (applied_plan stated) (applied_script stated) (extras_of stated) operation events)
    → (HasShortLines (concat lines.lines) → verdict_of (plain plans) (cut_lines (concat lines.lines)) ≡ at_line (plain plans) taken.messages (length taken.messages) (end_of (plain plans) taken.messages))
    → (HasShortLines (concat lines.lines) → judged (plain plans) (cut_lines (concat lines.lines)) ≡ taken.messages)
    → AreAcceptedInForm plans stated operation events bytes
are_accepted plans stated operation events bytes lines taken verdict_is judged_are = record {
  verdict = λ short.
      subst (IsJudged (applied_plan stated) events (whole_in_form (applied_plan stated) (applied_script stated) (extras_of stated) operation events))
      (sym (ap (λ (b : List ℕ). verdict_of (plain plans) (cut_lines b)) lines.joined ∙ verdict_is (subst HasShortLines lines.joined short)))
      (at_last_line (applied_plan stated) events (whole_in_form (applied_plan stated) (applied_script stated) (extras_of stated) operation events) plans taken.messages taken.as_many taken.answer);
  finds = λ short.
      subst (FindsUnstarted (applied_plan stated) events)
      (sym (ap (λ (b : List ℕ). judged (plain plans) (cut_lines b)) lines.joined ∙ judged_are (subst HasShortLines lines.joined short)))
      taken.finds;
  as_many = ap (λ (b : List ℕ). length (cut_lines b)) lines.joined ∙ as_many_lines lines.lines (stream_read_back_in_form (applied_plan stated) (applied_script stated) (extras_of stated) operation events) lines.say;
}

-- ---- what is reported

abbrev as_stated : Counts → (has_errors : Bool) → (lines : ℕ) → Whole
as_stated counts has_errors lines = record { totals = totals_of_counts counts; has_errors = has_errors; lines = lines; is_plan = false; passed = None }

module _ (plans : Bool) (stated : StatedInputs) (operation : Operation) (events : List Event) (stream : List ℕ) (report : FormReport) (before after : Option (List ℕ))
    (delivered : IsDelivered (applied_plan stated) events stream report.run before after) (error : report.contains_error ≡ contains_error (extras_of stated).notes report.run.counts) (accepted : AreAcceptedInForm plans stated operation events stream)
  where
    reported : whole_in_form (applied_plan stated) (applied_script stated) (extras_of stated) operation events ≡ whole_reported_in_form report (length (cut_lines stream))
    reported =
        let notes = (extras_of stated).notes in
        let lines = length (stream_read_back_in_form (applied_plan stated) (applied_script stated) (extras_of stated) operation events) in
        sym (ap (as_stated report.run.counts report.contains_error) accepted.as_many
        ∙ ap (λ (b : Bool). as_stated report.run.counts b lines) error
        ∙ ap (λ (c : Counts). as_stated c (contains_error notes c) lines) delivered.counts)

    pub stream_reported : HasShortLines stream → IsJudged (applied_plan stated) events (whole_reported_in_form report (length (cut_lines stream))) (verdict_of (plain plans) (cut_lines stream))
    stream_reported short = subst (λ (w : Whole). IsJudged (applied_plan stated) events w (verdict_of (plain plans) (cut_lines stream))) reported (accepted.verdict short)

    -- a sink that had no bytes and knows its bytes has the stream
    pub bytes_reported : (bytes : List ℕ) → before ≡ Some [] → after ≡ Some bytes → HasShortLines bytes → IsJudged (applied_plan stated) events (whole_reported_in_form report (length (cut_lines bytes))) (verdict_of (plain plans) (cut_lines bytes))
    bytes_reported bytes none all short =
        let same = stream_is (applied_plan stated) events stream report.run before after delivered bytes none all in
        subst (λ (b : List ℕ). IsJudged (applied_plan stated) events (whole_reported_in_form report (length (cut_lines b))) (verdict_of (plain plans) (cut_lines b))) same (stream_reported (subst HasShortLines (sym same) short))
