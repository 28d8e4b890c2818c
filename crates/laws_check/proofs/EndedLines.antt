-- Before its end, a stream in Terraform's form is one line after another.
use Rattle.std.proofs.Common.{ℕ, ◌+◌, List, [], ◌∷◌, ◌++◌, codes, length, map, Bool, true, false, cond, Option, Some, None, refl, inl, inr, slice_get}
use Rattle.std.specs.List.{AllByRecursion, enumerate_from}
use Rattle.std.specs.Option.{option_map_or}
use Rattle.apply_model.specs.declared.plan.step_kind.StepKind.{StepKind}
use Rattle.apply_model.specs.declared.script.outcome.Outcome.{Outcome}
use Rattle.apply_model.specs.Plan.ResourceChange.{ResourceChange}
use Rattle.apply_model.specs.Plan.SavedPlan.{SavedPlan}
use Rattle.apply_model.specs.Script.OutcomeMap.{outcome_of}
use Rattle.apply_events.specs.declared.event.Event.{Event}
use Rattle.apply_events.specs.declared.what.What.{What}
use Rattle.apply_text.specs.declared.operation.Operation.{Operation}
use Rattle.apply_text.specs.Latest.{latest_of}
use Rattle.apply_text.specs.Lines.{message_object, typed}
use Rattle.apply_text.specs.Message.{Message}
use Rattle.apply_model.specs.declared.details.change_details.ChangeDetails.{ChangeDetails}
use Rattle.apply_model.specs.declared.details.note.Note.{Note}
use Rattle.apply_text_terraform.specs.Details.{planned_word}
use Rattle.apply_text_terraform.specs.Verbatim.{verbatim_members}
use Rattle.apply_text_terraform.specs.Lines.{event_line, message_line, note_text, planned_text, line_with_verbatim, version_members, version_text}
use Rattle.apply_text_terraform.specs.Message.{event_message, is_silent, verbatim_of, note_message, planned_message}
use Rattle.apply_text_terraform.specs.UtcTimestamp.{precise_timestamp_text}
use Rattle.apply_text_terraform.specs.declared.form.Form.TheVariants.{Terraform}
use Rattle.apply_run.specs.FromBytes.{form_for}
use Rattle.apply_run.specs.Read.{StatedInputs, applied_plan, applied_script, extras_of}
use Rattle.apply_writer.specs.Stream.Terraform.{terraform_head_chunks, planned_at, planned_id_of}
use Rattle.laws_check.specs.Levels.{IsLineOrNothing, event_lines, lines_before_end}

abbrev AreLines : List (List ℕ) → Type 0
AreLines texts = AllByRecursion IsLineOrNothing texts

all_both : (xs ys : List (List ℕ)) → AreLines xs → AreLines ys → AreLines (xs ++ ys)
all_both [] ys all others = others
all_both (x ∷ xs) ys all others = (all.0, all_both xs ys all.1 others)

all_mapped : {X : Type 0} (f : X → List ℕ) → ((x : X) → IsLineOrNothing (f x)) → (xs : List X) → AreLines (map f xs)
all_mapped f is [] = tt
all_mapped f is (x ∷ xs) = (is x, all_mapped f is xs)

of_message : (seconds : ℕ) (message : Message) → IsLineOrNothing (message_line seconds message)
of_message seconds message = inr (inl (message_object message.level message.text (precise_timestamp_text seconds) (typed message.name message.body message.type_name), refl))

of_stated_inputs : (seconds : ℕ) (message : Message) (raw_texts : List ℕ) → IsLineOrNothing (line_with_verbatim seconds message raw_texts)
of_stated_inputs seconds message [] = of_message seconds message
of_stated_inputs seconds message (byte ∷ bytes) = inr (inr (seconds, message, byte ∷ bytes, refl))

of_version : (plan : SavedPlan) (start : ℕ) → IsLineOrNothing (version_text plan start)
of_version plan start = inr (inl (message_object (codes "info") (codes "Terraform " ++ plan.version) (precise_timestamp_text start) (version_members plan.version), refl))

of_planned : (start : ℕ) (change : ResourceChange) (details : Option ChangeDetails) → IsLineOrNothing (option_map_or (planned_text start change) details [])
of_planned start change None = inl refl
of_planned start change (Some details) = of_word (planned_word change.steps details.forgets)
  where
    of_word : (word : Option (List ℕ)) → IsLineOrNothing (option_map_or (λ word. message_line start (planned_message change word details)) word [])
    of_word None = inl refl
    of_word (Some word) = of_message start (planned_message change word details)

-- ---- the line of an event

module _ (seconds : ℕ) (outcome : Outcome) (planned : Option (List ℕ)) (what : What) where
  abbrev line : ResourceChange → StepKind → List ℕ
  line change step = cond (is_silent step what) [] (event_line seconds change step outcome planned what)

  of_step : (change : ResourceChange) (step : Option StepKind) → IsLineOrNothing (option_map_or (λ step. line change step) step [])
  of_step change None = inl refl
  of_step change (Some step) = of_test (is_silent step what)
    where
      of_test : (silent : Bool) → IsLineOrNothing (cond silent [] (event_line seconds change step outcome planned what))
      of_test true = inl refl
      of_test false = of_stated_inputs seconds (event_message change step outcome planned what) (verbatim_of outcome what)

  of_change : (k : ℕ) (change : Option ResourceChange) → IsLineOrNothing (option_map_or (λ change. option_map_or (λ step. line change step) (slice_get change.steps k) []) change [])
  of_change k None = inl refl
  of_change k (Some change) = of_step change (slice_get change.steps k)

-- ---- all of them

of_note : (start latest : ℕ) (note : Note) → IsLineOrNothing (note_text start latest note)
of_note start latest note = of_stated_inputs (start + latest) (note_message note) (verbatim_members note.diag)

pub all_lines : (stated : StatedInputs) (start : ℕ) (operation : Operation) (written : List Event) → AreLines (lines_before_end stated start operation written)
all_lines stated start operation written =
    let plan = applied_plan stated in
    let notes = (extras_of stated).notes in
    let latest = latest_of written (length written) in
    all_both (terraform_head_chunks plan stated.details.changes start) (event_lines (form_for Terraform stated start operation) written ++ map (note_text start latest) notes)
    (of_version plan start, all_mapped (planned_at start stated.details.changes) (λ p. of_planned start p.1 (slice_get stated.details.changes p.0)) (enumerate_from 0 plan.changes))
    (all_both (event_lines (form_for Terraform stated start operation) written) (map (note_text start latest) notes)
    (all_mapped (λ (p : ℕ × Event). (form_for Terraform stated start operation).line (latest_of written (p.0 + 1)) p.1)
    (λ p. of_change (start + latest_of written (p.0 + 1)) (outcome_of (applied_script stated) p.1.change p.1.step) (planned_id_of stated.details.changes p.1.change) p.1.what p.1.step (slice_get plan.changes p.1.change))
    (enumerate_from 0 written))
    (all_mapped (note_text start latest) (of_note start latest) notes))
