-- A diagnostic whose range and snippet are not too deep is read as it is.
use Rattle.std.proofs.Common.{◌≡◌, ℕ, ◌==◌, cond, Bool, true, false, List, [], ◌∷◌, ◌++◌, map, eq-eqb, slice_get, Option, Some, None, refl, sym, ap₂}
use Rattle.std.specs.Prelude.{◌&&◌, IfSome, codes, filter_map}
use Rattle.std.specs.List.{AllByRecursion, cons_option}
use Rattle.std.proofs.lemmas.Bool.{and_parts, eqb-true}
use Rattle.serde_json.specs.Data.{Data}
use Rattle.apply_json.specs.Tree.{◌>>=◌}
use Rattle.apply_model.specs.declared.details.note.Note.{Note}
use Rattle.apply_model.specs.declared.details.note.Severity.TheVariants.{Error, Warning}
use Rattle.apply_model.specs.declared.plan.step_kind.StepKind.{StepKind}
use Rattle.apply_model.specs.declared.script.diag.Diag.{Diag}
use Rattle.apply_model.specs.declared.script.outcome.Outcome.{Outcome}
use Rattle.apply_model.specs.Plan.ResourceChange.{ResourceChange}
use Rattle.apply_model.specs.Plan.SavedPlan.{SavedPlan}
use Rattle.apply_model.specs.Script.Outcome.{fails}
use Rattle.apply_model.specs.Script.OutcomeMap.{OutcomeMap, outcome_of}
use Rattle.apply_plan_terraform.specs.Notes as loose
use Rattle.apply_plan_terraform.specs.Notes.{decoded_member, decoded_or_empty, diag_in, note_in, raw_member, severity_in}
use Rattle.apply_events.specs.declared.event.Event.{Event}
use Rattle.apply_events.specs.Step.{has_warning}
use Rattle.apply_run.specs.Read.{IsStated, StatedInputs, extras_of}
use Rattle.apply_text.specs.Message.{failure_diag, warning_of}
use Rattle.apply_text.specs.Order.{hook_messages_of}
use Rattle.apply_text_terraform.specs.Message.{diagnostic_address}
use Rattle.stream_record_lines.specs.JsonMembers.{if_object, is_object, is_shallow}
use Rattle.laws_check.proofs.Given.{any_given, gone_on, next_of}
use Rattle.laws_lines.specs.Notes.{diag_in_form}
use Rattle.laws_own_streams.specs.Runs.{AreShallow, IsShallow, notes_read_by_ends_in_form, shown_in_form}
use Rattle.laws_own_streams.proofs.LooseNotes.{written_hold}
use Rattle.laws_own_streams.proofs.ScriptObjects.{HasObjects, IsObject, outcome_has}
use Rattle.laws_texts.specs.Notes.{ends_of}
use Rattle.laws_texts.specs.Streams.{told_after}
use Rattle.laws_texts.specs.TimeLines.{notes_by_ends}

-- ---- one diagnostic

whole_text : (o : Option (List ℕ)) → IfSome o IsObject → IfSome o (λ text. is_shallow text ≡ true) → (o >>= if_object) ≡ o
whole_text None object shallow = refl
whole_text (Some text) object shallow = ap₂ (λ (a b : Bool). cond (a && b) (Some text) None) object shallow

abbrev IsWhole : Diag → Type 0
IsWhole diag = diag_in_form diag ≡ diag

is_whole : (diag : Diag) → HasObjects diag → IsShallow diag → IsWhole diag
is_whole diag objects shallow =
    ap₂ (λ (range snippet : Option (List ℕ)). (let one : Diag = record { summary = diag.summary; detail = diag.detail; range = range; snippet = snippet } in one))
    (whole_text diag.range objects.range shallow.range) (whole_text diag.snippet objects.snippet shallow.snippet)

abbrev IsShownWhole : Note → Type 0
IsShownWhole note = IsWhole note.diag

all_whole : (notes : List Note) → AllByRecursion IsShownWhole notes → map shown_in_form notes ≡ notes
all_whole [] whole = refl
all_whole (note ∷ notes) whole =
    ap₂ (λ (diag : Diag) (l : List Note). (let one : Note = record { severity = note.severity; diag = diag; address = note.address } in one) ∷ l) whole.0 (all_whole notes whole.1)

-- ---- those of steps

module _ (P : Note → Type 0) (address : ResourceChange → StepKind → Outcome → Option (List ℕ)) (plan : SavedPlan) (script : OutcomeMap)
    (failures : (change : ResourceChange) (kind : StepKind) (c k : ℕ)
    → P (record { severity = Error; diag = failure_diag (outcome_of script c k); address = address change kind (outcome_of script c k) }))
    (warnings : (change : ResourceChange) (kind : StepKind) (c k : ℕ)
    → P (record { severity = Warning; diag = warning_of (outcome_of script c k).result; address = address change kind (outcome_of script c k) })) where
  end_holds : (e : Event) → IfSome (told_after address plan script e) P
  end_holds e =
      gone_on (λ _. Unit {0}) P _ (slice_get plan.changes e.change)
      (λ change u. gone_on (λ _. Unit {0}) P _ (slice_get change.steps e.step) (λ kind u. of_step change kind (fails outcome) (has_warning outcome.result)) (any_given (slice_get change.steps e.step)))
      (any_given (slice_get plan.changes e.change))
    where
      outcome : Outcome
      outcome = outcome_of script e.change e.step

      of_step : (change : ResourceChange) (kind : StepKind) (failed warns : Bool)
          → IfSome (cond failed (Some (record { severity = Error; diag = failure_diag outcome; address = address change kind outcome }))
          (cond warns (Some (record { severity = Warning; diag = warning_of outcome.result; address = address change kind outcome })) None)) P
      of_step change kind true warns = failures change kind e.change e.step
      of_step change kind false true = warnings change kind e.change e.step
      of_step change kind false false = tt

  next_holds : (one : Option Note) (notes : List Note) → IfSome one P → AllByRecursion P notes → AllByRecursion P (cons_option one notes)
  next_holds None notes one others = others
  next_holds (Some note) notes one others = (one, others)

  -- What holds of each diagnostic that a step of the plan may have holds of those of the steps that end.
  pub ends_hold : (events : List Event) → AllByRecursion P (filter_map (told_after address plan script) events)
  ends_hold [] = tt
  ends_hold (e ∷ events) = next_holds (told_after address plan script e) (filter_map (told_after address plan script) events) (end_holds e) (ends_hold events)

-- ---- those of no step

also_object : (text : List ℕ) → loose.is_object text ≡ true → is_object text ≡ true
also_object [] is = absurd cc
also_object (byte ∷ bytes) is = eq-eqb byte 123 (sym (eqb-true 123 byte (and_parts (123 == byte) true is).0))

object_held : (o : Option (List ℕ)) → IfSome (loose.object_or_none o) (λ text. IfSome text IsObject)
object_held None = tt
object_held (Some text) = of_test (loose.is_object text) refl
  where
    of_test : (b : Bool) → loose.is_object text ≡ b → IfSome (cond b (Some (Some text)) None) (λ text. IfSome text IsObject)
    of_test true is = also_object text is
    of_test false is = tt

diag_objects : (d : Data) → IfSome (diag_in d) HasObjects
diag_objects d =
    next_of (λ _. Unit {0}) HasObjects (decoded_member (codes "summary") d) _ (any_given (decoded_member (codes "summary") d))
    (λ summary u. next_of (λ _. Unit {0}) HasObjects (decoded_or_empty (raw_member (codes "detail") d)) _ (any_given (decoded_or_empty (raw_member (codes "detail") d)))
    (λ detail u. next_of (λ text. IfSome text IsObject) HasObjects (loose.object_or_none (raw_member (codes "range") d)) _ (object_held (raw_member (codes "range") d))
    (λ range range_is. next_of (λ text. IfSome text IsObject) HasObjects (loose.object_or_none (raw_member (codes "snippet") d)) _ (object_held (raw_member (codes "snippet") d))
    (λ snippet snippet_is. record { range = range_is; snippet = snippet_is }))))

abbrev NoteHasObjects : Note → Type 0
NoteHasObjects note = HasObjects note.diag

note_objects : (d : Data) → IfSome (note_in d) NoteHasObjects
note_objects d =
    next_of (λ _. Unit {0}) NoteHasObjects (severity_in d) _ (any_given (severity_in d))
    (λ severity u. next_of HasObjects NoteHasObjects (diag_in d) _ (diag_objects d)
    (λ diag has. next_of (λ _. Unit {0}) NoteHasObjects (decoded_or_empty (raw_member (codes "address") d)) _ (any_given (decoded_or_empty (raw_member (codes "address") d))) (λ address u. has)))

both_whole : (notes : List Note) → AllByRecursion NoteHasObjects notes → AllByRecursion (λ (note : Note). IsShallow note.diag) notes → AllByRecursion IsShownWhole notes
both_whole [] objects shallow = tt
both_whole (note ∷ notes) objects shallow = (is_whole note.diag objects.0 shallow.0, both_whole notes objects.1 shallow.1)

-- ---- all of them

pub shown_whole : (plan : List ℕ) (script : Option (List ℕ)) (stated : StatedInputs) (events : List Event) → IsStated plan script stated → AreShallow stated.script (extras_of stated)
    → notes_read_by_ends_in_form stated.plan stated.script (extras_of stated) events ≡ notes_by_ends diagnostic_address stated.plan stated.script events ++ (extras_of stated).notes
shown_whole plan script stated events is shallow =
    let objects : (c k : ℕ) → _ = outcome_has stated.plan script stated.script is.script_is in
    let failures : (change : ResourceChange) (kind : StepKind) (c k : ℕ) → IsWhole (failure_diag (outcome_of stated.script c k)) = λ change kind c k. is_whole _ (objects c k).0 (shallow.failures c k) in
    let warnings : (change : ResourceChange) (kind : StepKind) (c k : ℕ) → IsWhole (warning_of (outcome_of stated.script c k).result) = λ change kind c k. is_whole _ (objects c k).1 (shallow.warnings c k) in
    let loose_objects = written_hold NoteHasObjects note_objects (record { range = tt; snippet = tt }) (record { range = tt; snippet = tt }) script stated is.extras_are in
    ap₂ (λ (a b : List Note). a ++ b)
    (all_whole _ (ends_hold IsShownWhole diagnostic_address stated.plan stated.script failures warnings (ends_of (hook_messages_of events))))
    (all_whole (extras_of stated).notes (both_whole (extras_of stated).notes loose_objects shallow.loose))
