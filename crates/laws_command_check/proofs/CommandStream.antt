-- A stream of a command is lines, and each line is read back as its message.
use Rattle.std.proofs.Common.{◌≡◌, ℕ, ◌+◌, List, [], ◌++◌, append-nil, append_assoc, cond, flat_map, length, map, Bool, true, false, not, refl, sym, ap, ap₂, ◌∙◌}
use Rattle.std.specs.List.{AllByRecursion, concat, enumerate_from}
use Rattle.std.proofs.lemmas.List.Folds.{concat-append}
use Rattle.apply_model.specs.Plan.SavedPlan.{SavedPlan}
use Rattle.apply_model.specs.Script.OutcomeMap.{OutcomeMap}
use Rattle.stream_check.specs.Message.{Message}
use Rattle.apply_events.specs.declared.counts.Counts.{Counts}
use Rattle.apply_events.specs.declared.event.Event.{Event}
use Rattle.apply_events.specs.Diagnostics.{is_note}
use Rattle.apply_events.specs.Totals.{totals_of}
use Rattle.apply_text.specs.declared.operation.Operation.{Operation}
use Rattle.apply_text.specs.Latest.{latest_of}
use Rattle.apply_text.specs.Order.{as_written, hook_messages_of, notes_of}
use Rattle.apply_text_terraform.specs.Lines.{note_text, summary_text}
use Rattle.apply_command.specs.declared.head_line.HeadLine.{HeadLine}
use Rattle.apply_command.specs.Form.{command_form}
use Rattle.apply_command.specs.Head.{HeadInputs, line_text}
use Rattle.apply_writer.specs.Stream.Form.{stream_in}
use Rattle.apply_writer.specs.Stream.Terraform.{StreamExtras, contains_error, imported_in, outputs_of_apply}
use Rattle.laws_check.specs.FormTexts.{HasFormTexts, StreamIsReadBackAs}
use Rattle.laws_check.specs.ReadBackInForm.{AreReadBackAs, diagnostic_read_back, end_read_back, event_read_back_in_form}
use Rattle.laws_check.specs.Texts.{FitBits, IsSmall}
use Rattle.laws_check.proofs.ErrorLevels.{joined as flattened}
use Rattle.laws_check.proofs.FormStream.{all_events, all_notes, end_joined, end_line_read_back, end_lines, line_of}
use Rattle.laws_check.proofs.LinesAccepted.{all_read_back_both}
use Rattle.laws_check.proofs.SoundObjects.{all_both, all_filtered}
use Rattle.laws_command_check.specs.CommandAccepted.{command_stream_read_back}
use Rattle.laws_command_check.specs.HeadReadBack.{head_read_back}
use Rattle.laws_command_check.specs.HeadTexts.{HasHeadTexts, IsSmallLine}
use Rattle.laws_command_check.proofs.HeadLines.{head_lines_read_back}

module _ (inputs : HeadInputs) (lines : List HeadLine) (plan : SavedPlan) (script : OutcomeMap) (extras : StreamExtras) (operation : Operation) (has : HasFormTexts plan script extras) (heads : HasHeadTexts inputs)
    (small_lines : AllByRecursion IsSmallLine lines) (taken : List Event) (fits : FitBits plan taken) where
  abbrev begin : ℕ
  begin = inputs.start + inputs.took

  abbrev written : List Event
  written = as_written taken

  abbrev latest : ℕ
  latest = latest_of written (length written)

  abbrev counts : Counts
  counts = totals_of plan taken

  abbrev none : Bool
  none = contains_error extras.notes counts

  abbrev a_line : ℕ × Event → List ℕ
  a_line p = line_of plan script extras begin operation has (latest_of written (p.0 + 1)) p.1

  -- the lines of the end, where the plan is applied
  abbrev ends : Bool → List (List ℕ)
  ends applies = cond applies (end_lines plan script extras begin operation has none latest counts) []

  abbrev summed : Bool → List Message
  summed applies = cond applies (end_read_back extras operation counts) []

  ends_read_back : (applies : Bool) → AreReadBackAs (ends applies) (summed applies)
  ends_read_back true = end_line_read_back plan script extras begin operation has none latest counts fits.totals
  ends_read_back false = refl

  abbrev noted : List ℕ
  noted = flat_map (note_text begin latest) extras.notes

  tail_joined : (applies : Bool)
      → cond applies (noted ++ cond none [] (summary_text begin latest operation counts (imported_in extras.details) ++ outputs_of_apply operation begin latest extras.outputs)) noted ≡ noted ++ concat (ends applies)
  tail_joined true = ap (λ (l : List ℕ). noted ++ l) (end_joined plan script extras begin operation has none latest counts)
  tail_joined false = sym (append-nil noted)

  small_events : AllByRecursion (λ (e : Event). IsSmall e.what) written
  small_events =
      all_both (λ (e : Event). IsSmall e.what) (hook_messages_of taken) (notes_of taken) (all_filtered (λ (e : Event). IsSmall e.what) (λ e. not (is_note e.what)) taken fits.each) (all_filtered (λ (e : Event). IsSmall e.what) (λ e. is_note e.what) taken fits.each)

  pub command_line_read_back : (applies : Bool) → StreamIsReadBackAs (stream_in (command_form inputs lines applies plan script extras operation) taken) (command_stream_read_back inputs lines applies plan script extras operation taken)
  command_line_read_back applies =
      let head = map (line_text inputs) lines in
      let events = map a_line (enumerate_from 0 written) in
      let notes = map (note_text begin latest) extras.notes in
      let before = head_read_back inputs lines in
      let happened = flat_map (event_read_back_in_form plan script) written in
      let told = map diagnostic_read_back extras.notes in
      record {
        lines = head ++ (events ++ (notes ++ ends applies));
        joined = append_assoc (flat_map (line_text inputs) lines) (flat_map a_line (enumerate_from 0 written))
            (cond applies (noted ++ cond none [] (summary_text begin latest operation counts (imported_in extras.details) ++ outputs_of_apply operation begin latest extras.outputs)) noted)
            ∙ ap₂ (λ (a b : List ℕ). a ++ b) (sym (flattened (line_text inputs) lines))
            (ap₂ (λ (a b : List ℕ). a ++ b) (sym (flattened a_line (enumerate_from 0 written)))
            (tail_joined applies ∙ ap (λ (l : List ℕ). l ++ concat (ends applies)) (sym (flattened (note_text begin latest) extras.notes)) ∙ sym (concat-append notes (ends applies)))
            ∙ sym (concat-append events (notes ++ ends applies)))
            ∙ sym (concat-append head (events ++ (notes ++ ends applies)));
        say = all_read_back_both head (events ++ (notes ++ ends applies)) before (happened ++ (told ++ summed applies)) (head_lines_read_back inputs heads lines small_lines)
            (all_read_back_both events (notes ++ ends applies) happened (told ++ summed applies) (all_events plan script extras begin operation has (latest_of written) 0 written small_events)
            (all_read_back_both notes (ends applies) told (summed applies) (all_notes plan script extras begin operation has latest extras.notes has.notes) (ends_read_back applies)));
      }
