-- The lines of diagnostics in Terraform's form, by what they show.
use Rattle.std.proofs.Common.{◌≡◌, ℕ, ◌+◌, cond, List, [], Option, true, false, true≢false, refl, sym, ap, ◌∙◌}
use Rattle.std.specs.Prelude.{flat_map, slice_get}
use Rattle.std.specs.Option.{option_map_or}
use Rattle.std.proofs.lemmas.List.Elements.{All-weaker, filter_passes}
use Rattle.apply_model.specs.declared.plan.step_kind.StepKind.{StepKind}
use Rattle.apply_model.specs.declared.plan.step_kind.StepKind.TheVariants.{Create, Update, Delete, Read}
use Rattle.apply_model.specs.declared.script.outcome.Outcome.{Outcome}
use Rattle.apply_model.specs.Plan.ResourceChange.{ResourceChange}
use Rattle.apply_model.specs.Plan.SavedPlan.{SavedPlan}
use Rattle.apply_model.specs.Script.OutcomeMap.{OutcomeMap, outcome_of}
use Rattle.apply_events.specs.declared.event.Event.{Event}
use Rattle.apply_events.specs.declared.what.What.{What}
use Rattle.apply_events.specs.declared.what.What.TheVariants.{Start, Progress, Complete, Errored, ErrorNote, WarnNote, Halted, ProvisionStart, ProvisionOutput, ProvisionComplete, ProvisionErrored}
use Rattle.apply_events.specs.Diagnostics.{is_note}
use Rattle.apply_text.specs.Order.{notes_of}
use Rattle.apply_text_terraform.specs.Lines.{event_line, event_text, note_text}
use Rattle.apply_text_terraform.specs.Message.{diagnostic_address, is_silent}
use Rattle.laws_texts.specs.Streams.{diagnostic_of, notes_told, told_by}
use Rattle.laws_texts.proofs.LookedUp.{found_text, texts_of_notes}

not_silent : (kind : StepKind) (what : What) → is_note what ≡ true → is_silent kind what ≡ false
not_silent Create what is = refl
not_silent Update what is = refl
not_silent Delete what is = refl
not_silent Read (Errored n) is = absurd (true≢false (sym is))
not_silent Read _ is = refl

line_shows : (start clock : ℕ) (change : ResourceChange) (kind : StepKind) (outcome : Outcome) (planned : Option (List ℕ)) (what : What) → is_note what ≡ true
    → event_line (start + clock) change kind outcome planned what ≡ option_map_or (note_text start clock) (diagnostic_of diagnostic_address change kind outcome what) []
line_shows start clock change kind outcome planned ErrorNote is = refl
line_shows start clock change kind outcome planned WarnNote is = refl
line_shows start clock change kind outcome planned (Halted phase hook) is = refl
line_shows start clock change kind outcome planned Start is = absurd (true≢false (sym is))
line_shows start clock change kind outcome planned (Progress n) is = absurd (true≢false (sym is))
line_shows start clock change kind outcome planned (Complete n) is = absurd (true≢false (sym is))
line_shows start clock change kind outcome planned (Errored n) is = absurd (true≢false (sym is))
line_shows start clock change kind outcome planned (ProvisionStart i) is = absurd (true≢false (sym is))
line_shows start clock change kind outcome planned (ProvisionOutput i line) is = absurd (true≢false (sym is))
line_shows start clock change kind outcome planned (ProvisionComplete i) is = absurd (true≢false (sym is))
line_shows start clock change kind outcome planned (ProvisionErrored i) is = absurd (true≢false (sym is))

module _ (plan : SavedPlan) (script : OutcomeMap) (start clock : ℕ) (planned : Event → Option (List ℕ)) where
  abbrev text : Event → List ℕ
  text e = event_text plan script start clock (planned e) e

  text_shows : (e : Event) → is_note e.what ≡ true → text e ≡ option_map_or (note_text start clock) (told_by diagnostic_address plan script e) []
  text_shows e is =
      let outcome = outcome_of script e.change e.step in
      found_text (slice_get plan.changes e.change) e.step
      (λ change kind. cond (is_silent kind e.what) [] (event_line (start + clock) change kind outcome (planned e) e.what))
      (λ change kind. diagnostic_of diagnostic_address change kind outcome e.what) (note_text start clock)
      (λ change kind. ap (λ t. cond t [] (event_line (start + clock) change kind outcome (planned e) e.what)) (not_silent kind e.what is)
      ∙ line_shows start clock change kind outcome (planned e) e.what is)

  pub lines_of_notes : (events : List Event) → flat_map text (notes_of events) ≡ flat_map (note_text start clock) (notes_told diagnostic_address plan script events)
  lines_of_notes events =
      texts_of_notes text (told_by diagnostic_address plan script) (note_text start clock) (notes_of events)
      (All-weaker (λ (e : Event). is_note e.what ≡ true) (λ e. text e ≡ option_map_or (note_text start clock) (told_by diagnostic_address plan script e) [])
      text_shows (notes_of events) (filter_passes (λ (e : Event). is_note e.what) events))
