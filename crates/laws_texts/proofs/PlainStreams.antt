-- Streams in the default form.
use Rattle.std.proofs.Common.{◌≡◌, ℕ, ◌+◌, List, ◌++◌, All, sym, ap, ◌∙◌}
use Rattle.std.specs.Prelude.{count_by, flat_map, false, map}
use Rattle.apply_model.specs.declared.plan.step_kind.StepKind.{StepKind}
use Rattle.apply_model.specs.declared.plan.step_kind.StepKind.TheVariants.{Create, Update, Delete}
use Rattle.apply_model.specs.Plan.SavedPlan.{SavedPlan}
use Rattle.apply_model.specs.Script.OutcomeMap.{OutcomeMap}
use Rattle.apply_events.specs.declared.event.Event.{Event}
use Rattle.apply_events.specs.Diagnostics.{is_note}
use Rattle.apply_events.specs.Totals.{completes, totals_of}
use Rattle.apply_text.specs.declared.operation.Operation.{Operation}
use Rattle.apply_text.specs.Lines.{event_text, message_line, stream_of, summary_text, version_text}
use Rattle.apply_text.specs.Order.{hook_messages_of, notes_of}
use Rattle.laws_texts.specs.Alike.{IsToldAlike}
use Rattle.laws_texts.specs.Streams.{AreSame, notes_told, plain_address, without_place}
use Rattle.laws_texts.proofs.HookLines.{same_line}
use Rattle.laws_texts.proofs.NoteLines.{lines_of_notes, lines_without_place, note_line}
use Rattle.laws_texts.proofs.NotesOfTimeLines.{are_hooks}
use Rattle.laws_texts.proofs.WholeStreams.{hooks_clock, same_streams}
use Rattle.laws_texts.proofs.Totals.{counts_completed, same_summary}

-- two facts about each element
pub all_both : (P Q R : Event → Type 0) (es : List Event) → ((e : Event) → P e → Q e → R e) → All P es → All Q es → All R es
all_both P Q R es follows p q = λ k d lt. follows _ (p k d lt) (q k d lt)

pub same_completed : (plan : SavedPlan) (kind : StepKind) (events others : List Event) → hook_messages_of others ≡ hook_messages_of events
    → count_by (completes plan kind) others ≡ count_by (completes plan kind) events
same_completed plan kind events others hooks =
    sym (counts_completed plan kind others) ∙ ap (count_by (completes plan kind)) hooks ∙ counts_completed plan kind events

module _ (plan : SavedPlan) (one other : OutcomeMap) (start : ℕ) (operation : Operation) (events others : List Event) where
  same_notes : map without_place (notes_told plain_address plan other others) ≡ map without_place (notes_told plain_address plan one events) → (clock : ℕ)
      → flat_map (event_text plan other start clock) (notes_of others) ≡ flat_map (event_text plan one start clock) (notes_of events)
  same_notes told clock =
      lines_of_notes plan other start clock others ∙ lines_without_place (start + clock) (notes_told plain_address plan other others)
      ∙ ap (flat_map (note_line (start + clock))) told
      ∙ sym (lines_of_notes plan one start clock events ∙ lines_without_place (start + clock) (notes_told plain_address plan one events))

  pub same_stream : AreSame (IsToldAlike plan one other) events others → map without_place (notes_told plain_address plan other others) ≡ map without_place (notes_told plain_address plan one events)
      → stream_of plan other start operation others ≡ stream_of plan one start operation events
  same_stream same told =
      same_streams (version_text plan start) (event_text plan one start) (event_text plan other start)
      (λ clock. summary_text start clock operation (totals_of plan events)) (λ clock. summary_text start clock operation (totals_of plan others))
      events others same.in_time same.others_in_time same.hooks
      (all_both (λ e. is_note e.what ≡ false) (IsToldAlike plan one other) (λ e. (clock : ℕ) → event_text plan other start clock e ≡ event_text plan one start clock e)
      (hook_messages_of events) (λ e hook alike clock. same_line plan one other start clock e hook alike) (are_hooks events) same.alike)
      (ap (λ l. l ++ summary_text start (hooks_clock events) operation (totals_of plan others)) (same_notes told (hooks_clock events))
      ∙ ap (λ m. flat_map (event_text plan one start (hooks_clock events)) (notes_of events) ++ message_line (start + hooks_clock events) m)
      (same_summary operation (totals_of plan events) (totals_of plan others)
      (same_completed plan Create events others same.hooks) (same_completed plan Update events others same.hooks) (same_completed plan Delete events others same.hooks)))
