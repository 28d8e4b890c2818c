-- A line of a stream in Terraform's form has the level `error` if and only if the stream has no
-- summary.
use Rattle.std.proofs.Common.{◌≡◌, ℕ, ◌+◌, ◌<◌, List, [], ◌∷◌, ◌++◌, append_assoc, length, map, Bool, true, false, cond, Option, Some, None, refl, sym, ap, ap₂, ◌∙◌, slice_get}
use Rattle.std.specs.Prelude.{◌||◌, flat_map}
use Rattle.std.specs.List.{concat, enumerate_from, list_any}
use Rattle.std.specs.Option.{option_map_or}
use Rattle.std.proofs.lemmas.List.Folds.{concat-append}
use Rattle.json.specs.Print.{escape_byte}
use Rattle.apply_model.specs.declared.plan.step_kind.StepKind.{StepKind}
use Rattle.apply_model.specs.declared.plan.step_kind.StepKind.TheVariants.{Create, Update, Delete, Read}
use Rattle.apply_model.specs.declared.script.outcome.Outcome.{Outcome}
use Rattle.apply_model.specs.Plan.ResourceChange.{ResourceChange}
use Rattle.apply_model.specs.Plan.SavedPlan.{SavedPlan}
use Rattle.apply_model.specs.Script.OutcomeMap.{OutcomeMap, outcome_of}
use Rattle.apply_hooks.specs.declared.phase.Phase.{Phase}
use Rattle.apply_hooks.specs.declared.rule.Rule.{Rule}
use Rattle.apply_events.specs.declared.counts.Counts.{Counts}
use Rattle.apply_events.specs.declared.event.Event.{Event}
use Rattle.apply_events.specs.declared.what.What.{What}
use Rattle.apply_events.specs.declared.what.What.TheVariants.{Start, Progress, Complete, Errored, ErrorNote, WarnNote, Halted, ProvisionStart, ProvisionOutput, ProvisionComplete, ProvisionErrored}
use Rattle.apply_events.specs.Step.{Work}
use Rattle.apply_events.specs.Totals.{is_halted, totals_of}
use Rattle.apply_text.specs.declared.operation.Operation.{Operation}
use Rattle.apply_text.specs.Latest.{latest_of}
use Rattle.apply_text.specs.Lines.{message_object}
use Rattle.apply_text.specs.Message.{Message}
use Rattle.apply_text.specs.Order.{as_written}
use Rattle.apply_model.specs.declared.details.change_details.ChangeDetails.{ChangeDetails}
use Rattle.apply_model.specs.declared.details.output.Output.{Output}
use Rattle.apply_model.specs.declared.details.note.Note.{Note}
use Rattle.apply_model.specs.declared.details.note.Severity.{Severity}
use Rattle.apply_model.specs.declared.details.note.Severity.TheVariants.{Error, Warning}
use Rattle.apply_model.specs.declared.script.diag.Diag.{Diag}
use Rattle.apply_text_terraform.specs.Details.{planned_word}
use Rattle.apply_text_terraform.specs.Verbatim.{verbatim_members, diagnostic_with}
use Rattle.apply_text_terraform.specs.Lines.{event_line, event_text, line_of_text, message_line, note_text, outputs_text, planned_text, summary_text, line_with_verbatim, version_text}
use Rattle.apply_text_terraform.specs.Message.{event_message, is_silent, verbatim_of, note_message, planned_message}
use Rattle.apply_text_terraform.specs.UtcTimestamp.{precise_timestamp_text}
use Rattle.apply_text_terraform.specs.declared.form.Form.TheVariants.{Terraform}
use Rattle.apply_run.specs.FromBytes.{form_for}
use Rattle.apply_run.specs.Read.{StatedInputs, applied_plan, applied_script, extras_of}
use Rattle.apply_writer.specs.Stream.Form.{lines_in}
use Rattle.apply_writer.specs.Stream.Terraform.{terraform_head_chunks, is_error, is_severe, planned_at, planned_id_of, contains_error}
use Rattle.laws_check.specs.Levels.{HasAnEndOrAnError, end_of, event_lines, has_error_line, is_error_line, lines_before_end}
use Rattle.laws_check.specs.WholeSteps.{IsOfWholeSteps}
use Rattle.laws_check.proofs.EndedLines.{all_lines}
use Rattle.laws_check.proofs.Errors.{IsPlanned, any_both, any_written, errors_counted, is_error_note}
use Rattle.laws_check.proofs.Ordinary.{located}
use Rattle.laws_check.proofs.Parts.{Each, each_weaker, each_written}
use Rattle.laws_check.proofs.Tallies.{are_planned, is_within}

-- ---- lines that never have the level

version_is_fine : (plan : SavedPlan) (start : ℕ) → is_error_line (version_text plan start) ≡ false
unfolding message_object escape_byte
version_is_fine plan start = refl

planned_is_fine : (start : ℕ) (change : ResourceChange) (details : Option ChangeDetails) → is_error_line (option_map_or (planned_text start change) details []) ≡ false
unfolding message_object escape_byte
planned_is_fine start change None = refl
planned_is_fine start change (Some details) = of_word (planned_word change.steps details.forgets)
  where
    of_word : (word : Option (List ℕ)) → is_error_line (option_map_or (λ word. message_line start (planned_message change word details)) word []) ≡ false
    of_word None = refl
    of_word (Some word) = refl

pub summary_is_fine : (start latest : ℕ) (operation : Operation) (counts : Counts) (imported : ℕ) → is_error_line (summary_text start latest operation counts imported) ≡ false
unfolding message_object escape_byte
summary_is_fine start latest operation counts imported = refl

pub outputs_are_fine : (start latest : ℕ) (outputs : List Output) → is_error_line (outputs_text start latest outputs) ≡ false
outputs_are_fine start latest outputs = refl

none_of_planned : (start : ℕ) (details : List ChangeDetails) (ps : List (ℕ × ResourceChange)) → list_any is_error_line (map (planned_at start details) ps) ≡ false
none_of_planned start details [] = refl
none_of_planned start details (p ∷ ps) = ap₂ (λ (a b : Bool). a || b) (planned_is_fine start p.1 (slice_get details p.0)) (none_of_planned start details ps)

pub none_of_head : (plan : SavedPlan) (details : List ChangeDetails) (start : ℕ) → list_any is_error_line (terraform_head_chunks plan details start) ≡ false
none_of_head plan details start = ap₂ (λ (a b : Bool). a || b) (version_is_fine plan start) (none_of_planned start details (enumerate_from 0 plan.changes))

-- ---- diagnostics of no step

-- a line with verbatim texts, or without
either_verbatim : (seconds : ℕ) (message : Message) (raw_texts : List ℕ) (is : Bool) → is_error_line (message_line seconds message) ≡ is
    → ((byte : ℕ) (bytes : List ℕ) → is_error_line (line_of_text (diagnostic_with (precise_timestamp_text seconds) message (byte ∷ bytes))) ≡ is)
    → is_error_line (line_with_verbatim seconds message raw_texts) ≡ is
either_verbatim seconds message [] is plain more = plain
either_verbatim seconds message (byte ∷ bytes) is plain more = more byte bytes

of_severity : (start latest : ℕ) (severity : Severity) (diag : Diag) (address : Option (List ℕ))
    → is_error_line (note_text start latest (record { severity = severity; diag = diag; address = address })) ≡ is_severe severity
unfolding message_object escape_byte
of_severity start latest Error diag address =
    either_verbatim (start + latest) (note_message (record { severity = Error; diag = diag; address = address })) (verbatim_members diag) true refl (λ byte bytes. refl)
of_severity start latest Warning diag address =
    either_verbatim (start + latest) (note_message (record { severity = Warning; diag = diag; address = address })) (verbatim_members diag) false refl (λ byte bytes. refl)

of_notes : (start latest : ℕ) (notes : List Note) → list_any is_error_line (map (note_text start latest) notes) ≡ list_any is_error notes
of_notes start latest [] = refl
of_notes start latest (note ∷ notes) = ap₂ (λ (a b : Bool). a || b) (of_severity start latest note.severity note.diag note.address) (of_notes start latest notes)

-- ---- the line of an event

abbrev line_or_none : (seconds : ℕ) → ResourceChange → StepKind → Outcome → (planned : Option (List ℕ)) → What → List ℕ
line_or_none seconds change step outcome planned what = cond (is_silent step what) [] (event_line seconds change step outcome planned what)

-- a line that may be left out
either : (silent : Bool) (line : List ℕ) → is_error_line line ≡ false → is_error_line (cond silent [] line) ≡ false
either true line is = refl
either false line is = is

noted : (step : StepKind) → is_silent step ErrorNote ≡ false
noted Create = refl
noted Update = refl
noted Delete = refl
noted Read = refl

halted : (step : StepKind) (phase : Phase) (hook : ℕ) → is_silent step (Halted phase hook) ≡ false
halted Create phase hook = refl
halted Update phase hook = refl
halted Delete phase hook = refl
halted Read phase hook = refl

of_what : (seconds : ℕ) (change : ResourceChange) (step : StepKind) (outcome : Outcome) (planned : Option (List ℕ)) (what : What)
    → is_error_line (line_or_none seconds change step outcome planned what) ≡ (is_error_note what || is_halted what)
unfolding message_object escape_byte
of_what seconds change step outcome planned Start = either (is_silent step Start) _ refl
of_what seconds change step outcome planned (Progress n) = either (is_silent step (Progress n)) _ refl
of_what seconds change step outcome planned (Complete n) = either (is_silent step (Complete n)) _ refl
of_what seconds change step outcome planned (Errored n) = either (is_silent step (Errored n)) _ refl
of_what seconds change step outcome planned ErrorNote =
    ap (λ (b : Bool). is_error_line (cond b [] (event_line seconds change step outcome planned ErrorNote))) (noted step)
    ∙ either_verbatim seconds (event_message change step outcome planned ErrorNote) (verbatim_of outcome ErrorNote) true refl (λ byte bytes. refl)
of_what seconds change step outcome planned WarnNote =
    either (is_silent step WarnNote) _ (either_verbatim seconds (event_message change step outcome planned WarnNote) (verbatim_of outcome WarnNote) false refl (λ byte bytes. refl))
of_what seconds change step outcome planned (Halted phase hook) =
    ap (λ (b : Bool). is_error_line (cond b [] (message_line seconds (event_message change step outcome planned (Halted phase hook))))) (halted step phase hook)
of_what seconds change step outcome planned (ProvisionStart i) = either (is_silent step (ProvisionStart i)) _ refl
of_what seconds change step outcome planned (ProvisionOutput i line) = either (is_silent step (ProvisionOutput i line)) _ refl
of_what seconds change step outcome planned (ProvisionComplete i) = either (is_silent step (ProvisionComplete i)) _ refl
of_what seconds change step outcome planned (ProvisionErrored i) = either (is_silent step (ProvisionErrored i)) _ refl

abbrev tells : Event → Bool
tells e = is_error_note e.what || is_halted e.what

of_event : (plan : SavedPlan) (script : OutcomeMap) (start latest : ℕ) (planned : Option (List ℕ)) (e : Event) → IsPlanned plan e → is_error_line (event_text plan script start latest planned e) ≡ tells e
of_event plan script start latest planned e is =
    let step = located (slice_get plan.changes e.change) e.step is.0 is.1 in
    let outcome = outcome_of script e.change e.step in
    ap (λ (o : Option ResourceChange). is_error_line (option_map_or (λ change. option_map_or (λ kind. line_or_none (start + latest) change kind outcome planned e.what) (slice_get change.steps e.step) []) o [])) step.1
    ∙ ap (λ (o : Option StepKind). is_error_line (option_map_or (λ kind. line_or_none (start + latest) step.0 kind outcome planned e.what) o [])) step.2
    ∙ of_what (start + latest) step.0 is.0 outcome planned e.what

-- ---- the events of a run

module _ (stated : StatedInputs) (start : ℕ) (operation : Operation) where
  of_events : (latest : ℕ → ℕ) (n : ℕ) (es : List Event) → Each (IsPlanned (applied_plan stated)) es
      → list_any is_error_line (map (λ p. (form_for Terraform stated start operation).line (latest (p.0 + 1)) p.1) (enumerate_from n es)) ≡ list_any tells es
  of_events latest n [] planned = refl
  of_events latest n (e ∷ es) planned =
      ap₂ (λ (a b : Bool). a || b)
      (of_event (applied_plan stated) (applied_script stated) start (latest (n + 1)) (planned_id_of stated.details.changes e.change) e planned.0)
      (of_events latest (n + 1) es planned.1)

  module _ (hooks : List (List Rule)) where
    abbrev work : Work
    work = record { plan = applied_plan stated; script = applied_script stated; hooks = hooks }

    -- a line has the level if and only if the run reports an error
    of_run : (events : List Event) → IsOfWholeSteps work events
        → has_error_line stated start operation (as_written events) ≡ contains_error (extras_of stated).notes (totals_of (applied_plan stated) events)
    of_run events steps =
        let plan = applied_plan stated in
        let limit = length plan.changes in
        let written = as_written events in
        let head = terraform_head_chunks plan stated.details.changes start in
        let lines = event_lines (form_for Terraform stated start operation) written in
        let last = map (note_text start (latest_of written (length written))) (extras_of stated).notes in
        let planned : Each (IsPlanned plan) events = are_planned plan events steps.planned in
        let counted = errors_counted work limit events (each_weaker (IsPlanned plan) (λ e. e.change < limit) (is_within plan) events planned) steps.whole in
        any_both is_error_line head (lines ++ last)
        ∙ ap₂ (λ (a b : Bool). a || b) (none_of_head plan stated.details.changes start) (any_both is_error_line lines last)
        ∙ ap₂ (λ (a b : Bool). a || b)
        (of_events (latest_of written) 0 written (each_written (IsPlanned plan) events planned) ∙ any_written tells events ∙ counted)
        (of_notes start (latest_of written (length written)) (extras_of stated).notes)

-- ---- the stream

pub joined : {X : Type 0} (f : X → List ℕ) (xs : List X) → concat (map f xs) ≡ flat_map f xs
joined f [] = refl
joined f (x ∷ xs) = ap (λ (l : List ℕ). f x ++ l) (joined f xs)

-- the lines, joined
all_joined : (stated : StatedInputs) (start : ℕ) (operation : Operation) (written : List Event)
    → concat (lines_before_end stated start operation written) ≡ lines_in (form_for Terraform stated start operation) written ++ flat_map (note_text start (latest_of written (length written))) (extras_of stated).notes
all_joined stated start operation written =
    let form = form_for Terraform stated start operation in
    let head = terraform_head_chunks (applied_plan stated) stated.details.changes start in
    let lines = event_lines form written in
    let latest = latest_of written (length written) in
    let notes = (extras_of stated).notes in
    let last = map (note_text start latest) notes in
    concat-append head (lines ++ last)
    ∙ ap (λ (l : List ℕ). concat head ++ l)
    (concat-append lines last
    ∙ ap₂ (λ (a b : List ℕ). a ++ b) (joined (λ p. form.line (latest_of written (p.0 + 1)) p.1) (enumerate_from 0 written)) (joined (note_text start latest) notes))
    ∙ sym (append_assoc (concat head) (flat_map (λ p. form.line (latest_of written (p.0 + 1)) p.1) (enumerate_from 0 written)) (flat_map (note_text start latest) notes))

pub an_end_or_an_error : (stated : StatedInputs) (start : ℕ) (operation : Operation) (hooks : List (List Rule)) (events : List Event) (counts : Counts) (reported_error : Bool)
    → IsOfWholeSteps (record { plan = applied_plan stated; script = applied_script stated; hooks = hooks }) events → counts ≡ totals_of (applied_plan stated) events → reported_error ≡ contains_error (extras_of stated).notes counts
    → HasAnEndOrAnError stated start operation events reported_error
an_end_or_an_error stated start operation hooks events counts reported_error steps counted reported =
    let written = as_written events in
    let latest = latest_of written (length written) in
    let same = of_run stated start operation hooks events steps in
    let notes = flat_map (note_text start latest) (extras_of stated).notes in
    record {
      lines = all_lines stated start operation written;
      stream = sym (append_assoc (lines_in (form_for Terraform stated start operation) written) notes (cond (contains_error (extras_of stated).notes (totals_of (applied_plan stated) events)) [] (end_of stated start operation events)))
          ∙ ap₂ (λ (a : List ℕ) (b : Bool). a ++ cond b [] (end_of stated start operation events)) (sym (all_joined stated start operation written)) (sym same);
      error = reported ∙ ap (contains_error (extras_of stated).notes) counted ∙ sym same;
    }
