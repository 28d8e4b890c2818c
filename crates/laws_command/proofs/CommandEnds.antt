-- The stream of a command ends with a summary if and only if no line has the level `error`.
use Rattle.std.proofs.Common.{◌≡◌, ℕ, ◌+◌, List, [], ◌∷◌, ◌++◌, append_assoc, length, map, not, Bool, true, false, cond, Option, None, refl, sym, ap, ap₂, ◌∙◌}
use Rattle.std.specs.Prelude.{◌&&◌, ◌||◌, flat_map, nat_lt}
use Rattle.std.specs.List.{AllByRecursion, concat, enumerate_from, list_any}
use Rattle.std.proofs.lemmas.List.{append-nil}
use Rattle.std.proofs.lemmas.List.Folds.{concat-append}
use Rattle.apply_model.specs.declared.details.note.Note.{Note}
use Rattle.apply_hooks.specs.declared.rule.Rule.{Rule}
use Rattle.apply_events.specs.declared.counts.Counts.{Counts}
use Rattle.apply_events.specs.declared.event.Event.{Event}
use Rattle.apply_events.specs.Totals.{totals_of}
use Rattle.apply_plan_terraform.specs.declared.plan_notes.PlanNote.{PlanNote}
use Rattle.apply_planning_failures.specs.Planning.{planning_notes}
use Rattle.apply_text.specs.declared.operation.Operation.{Operation}
use Rattle.apply_text.specs.Latest.{latest_of}
use Rattle.apply_text.specs.Order.{as_written}
use Rattle.apply_text_planning.specs.Notes.{forgotten_in, forgotten_note_of, unfinished_note}
use Rattle.apply_text_terraform.specs.declared.command.Command.{Command}
use Rattle.apply_text_terraform.specs.declared.command.Command.TheVariants.{Apply, Destroy, Plan, Saved}
use Rattle.apply_text_terraform.specs.Lines.{note_text}
use Rattle.apply_command.specs.Head.{head_text, line_text}
use Rattle.apply_command.specs.Notes.{applies, command_notes, has_failed, note_if, plan_notes, with_unfinished}
use Rattle.apply_command.specs.Reading.{CommandInputs, applied_plan, applied_script, failed, form, head_inputs, is_applied, lines, notes, planning}
use Rattle.apply_run.specs.Read.{StatedInputs, is_unfinished}
use Rattle.apply_writer.specs.Stream.Terraform.{contains_error, is_error, terraform_head_chunks}
use Rattle.laws_check.specs.Levels as saved
use Rattle.laws_check.specs.Levels.{IsLineOrNothing, event_lines, is_error_line}
use Rattle.laws_check.specs.WholeSteps.{IsOfWholeSteps}
use Rattle.laws_check.proofs.EndedLines.{all_lines}
use Rattle.laws_check.proofs.ErrorLevels.{an_end_or_an_error, joined, none_of_head}
use Rattle.laws_check.proofs.Errors.{any_both}
use Rattle.laws_command.specs.Endings.{HasASummaryOrAnError, applied_at, end_of, has_error_line, has_summary, lines_before_end}
use Rattle.laws_command.proofs.HeadLevels.{are_lines, none_has_the_level}

-- ---- where the plan is not applied, an error is told

-- with the error of an unfinished plan, if no other error is told
error_in_all : (unfinished planning others : Bool) → (unfinished || planning) ≡ true
    → ((planning || others) || list_any is_error (note_if (unfinished && not (planning || others)) unfinished_note)) ≡ true
error_in_all unfinished true others is = refl
error_in_all unfinished false true is = refl
error_in_all true false false is = refl
error_in_all false false false is = is

error_in_notes : (note : Option PlanNote) (planning others : List Note) → has_failed note planning ≡ true → list_any is_error (with_unfinished note (planning ++ others)) ≡ true
error_in_notes note planning others is =
    let all = planning ++ others in
    any_both is_error all (note_if (is_unfinished note && not (list_any is_error all)) unfinished_note)
    ∙ ap (λ (b : Bool). b || list_any is_error (note_if (is_unfinished note && not b) unfinished_note)) (any_both is_error planning others)
    ∙ error_in_all (is_unfinished note) (list_any is_error planning) (list_any is_error others) is

-- ---- which streams have a summary

where_applied : (command : Command) (failed error : Bool) → applies command failed ≡ true → has_summary command error ≡ not error
where_applied Saved failed error is = refl
where_applied Plan failed error is = absurd cc
where_applied Apply failed error is = refl
where_applied Destroy failed error is = refl

where_not : (command : Command) (failed error : Bool) → applies command failed ≡ false → (failed ≡ true → error ≡ true) → has_summary command error ≡ false
where_not Saved true error is reported = ap not (reported refl)
where_not Saved false error is reported = absurd cc
where_not Plan failed error is reported = refl
where_not Apply true error is reported = ap not (reported refl)
where_not Apply false error is reported = absurd cc
where_not Destroy true error is reported = ap not (reported refl)
where_not Destroy false error is reported = absurd cc

-- ---- the stream

or_true : (b : Bool) → (b || true) ≡ true
or_true true = refl
or_true false = refl

all_after : (xs ys : List (List ℕ)) → AllByRecursion IsLineOrNothing (xs ++ ys) → AllByRecursion IsLineOrNothing ys
all_after [] ys all = all
all_after (x ∷ xs) ys all = all_after xs ys all.1

all_both : (xs ys : List (List ℕ)) → AllByRecursion IsLineOrNothing xs → AllByRecursion IsLineOrNothing ys → AllByRecursion IsLineOrNothing (xs ++ ys)
all_both [] ys all others = others
all_both (x ∷ xs) ys all others = (all.0, all_both xs ys all.1 others)

module _ (command : Command) (lanes : ℕ) (read : CommandInputs) (start : ℕ) (operation : Operation) where
  -- inputs of a saved plan that give the same lines after the head
  abbrev as_saved : StatedInputs
  as_saved = record {
    plan = applied_plan command lanes read;
    script = applied_script command lanes read;
    details = record { changes = read.stated.details.changes; note = None; outputs = read.stated.details.outputs };
    extras = record { outputs = read.stated.extras.outputs; notes = notes command lanes read };
  }

  abbrev later : ℕ
  later = applied_at command lanes read start operation

  module _ (events : List Event) where
    abbrev written : List Event
    written = as_written events

    abbrev latest : ℕ
    latest = latest_of written (length written)

    abbrev head : List (List ℕ)
    head = map (line_text (head_inputs command lanes read start)) (lines command lanes read)

    abbrev of_events : List (List ℕ)
    of_events = event_lines (form command lanes read start operation) written

    abbrev of_notes : List (List ℕ)
    of_notes = map (note_text later latest) (notes command lanes read)

    abbrev bytes_of_events : List ℕ
    bytes_of_events = flat_map (λ p. (form command lanes read start operation).line (latest_of written (p.0 + 1)) p.1) (enumerate_from 0 written)

    abbrev bytes_of_notes : List ℕ
    bytes_of_notes = flat_map (note_text later latest) (notes command lanes read)

    abbrev last : List ℕ
    last = end_of command lanes read start operation events

    -- the heads have no line of that level
    same_levels : has_error_line command lanes read start operation written ≡ saved.has_error_line as_saved later operation written
    same_levels =
        any_both is_error_line head (of_events ++ of_notes)
        ∙ ap (λ (b : Bool). b || list_any is_error_line (of_events ++ of_notes)) (none_has_the_level (head_inputs command lanes read start) (lines command lanes read))
        ∙ sym (any_both is_error_line (terraform_head_chunks (applied_plan command lanes read) read.stated.details.changes later) (of_events ++ of_notes)
        ∙ ap (λ (b : Bool). b || list_any is_error_line (of_events ++ of_notes)) (none_of_head (applied_plan command lanes read) read.stated.details.changes later))

    -- the lines, joined
    all_joined : concat (lines_before_end command lanes read start operation written)
        ≡ (head_text (head_inputs command lanes read start) (lines command lanes read) ++ bytes_of_events) ++ bytes_of_notes
    all_joined =
        concat-append head (of_events ++ of_notes)
        ∙ ap₂ (λ (a b : List ℕ). a ++ b) (joined (line_text (head_inputs command lanes read start)) (lines command lanes read))
        (concat-append of_events of_notes
        ∙ ap₂ (λ (a b : List ℕ). a ++ b) (joined (λ p. (form command lanes read start operation).line (latest_of written (p.0 + 1)) p.1) (enumerate_from 0 written)) (joined (note_text later latest) (notes command lanes read)))
        ∙ sym (append_assoc (head_text (head_inputs command lanes read start) (lines command lanes read)) bytes_of_events bytes_of_notes)

    module _ (error : Bool) (contains : error ≡ contains_error (notes command lanes read) (totals_of (applied_plan command lanes read) events)) where
      told_error : is_applied command lanes read ≡ false → failed command lanes read ≡ true → error ≡ true
      told_error not_applied is =
          let counts = totals_of (applied_plan command lanes read) events in
          let script = read.stated.extras.notes in
          let note = read.stated.details.note in
          let forgotten = forgotten_note_of (forgotten_in read.stated.plan.changes read.stated.details.changes) in
          let said = planning_notes (planning command lanes read) in
          let among : list_any is_error (notes command lanes read) ≡ true =
          ap (λ t. list_any is_error (command_notes t note forgotten said script)) not_applied ∙ error_in_notes note said (plan_notes note forgotten script) is in
          contains ∙ ap (λ (b : Bool). nat_lt 0 (counts.failed + counts.halted) || b) among ∙ or_true (nat_lt 0 (counts.failed + counts.halted))

      either_end : (b : Bool) → cond b [] last ≡ cond (not b) last []
      either_end true = refl
      either_end false = refl

      tail_is : (applied : Bool) → is_applied command lanes read ≡ applied
          → cond applied (bytes_of_notes ++ cond error [] last) bytes_of_notes ≡ bytes_of_notes ++ cond (has_summary command error) last []
      tail_is true is =
          ap (λ (l : List ℕ). bytes_of_notes ++ l)
          (either_end error ∙ ap (λ (b : Bool). let none : List ℕ = [] in cond b last none) (sym (where_applied command (failed command lanes read) error is)))
      tail_is false is =
          sym (append-nil bytes_of_notes)
          ∙ ap (λ (b : Bool). let none : List ℕ = [] in bytes_of_notes ++ cond b last none) (sym (where_not command (failed command lanes read) error is (told_error is)))

    pub a_summary_or_an_error : (hooks : List (List Rule)) (counts : Counts) (reported : Bool)
        → IsOfWholeSteps (record { plan = applied_plan command lanes read; script = applied_script command lanes read; hooks = hooks }) events
        → counts ≡ totals_of (applied_plan command lanes read) events → reported ≡ contains_error (notes command lanes read) counts
        → HasASummaryOrAnError command lanes read start operation events reported
    a_summary_or_an_error hooks counts reported steps counted reports =
        let ended = an_end_or_an_error as_saved later operation hooks events counts reported steps counted reports in
        let error = ended.error ∙ sym same_levels in
        let contains = reports ∙ ap (contains_error (notes command lanes read)) counted in
        let head_bytes = head_text (head_inputs command lanes read start) (lines command lanes read) in
        record {
          lines = all_both head (of_events ++ of_notes) (are_lines (head_inputs command lanes read start) (lines command lanes read))
              (all_after (terraform_head_chunks (applied_plan command lanes read) read.stated.details.changes later) (of_events ++ of_notes) (all_lines as_saved later operation written));
          stream =
              ap (λ (b : Bool). let none : List ℕ = [] in (head_bytes ++ bytes_of_events) ++ cond (is_applied command lanes read) (bytes_of_notes ++ cond b none last) bytes_of_notes) (sym contains)
              ∙ ap (λ (l : List ℕ). (head_bytes ++ bytes_of_events) ++ l) (tail_is reported contains (is_applied command lanes read) refl)
              ∙ sym (append_assoc (head_bytes ++ bytes_of_events) bytes_of_notes (cond (has_summary command reported) last []))
              ∙ ap₂ (λ (a : List ℕ) (b : Bool). let none : List ℕ = [] in a ++ cond (has_summary command b) last none) (sym all_joined) error;
          error = error;
        }
