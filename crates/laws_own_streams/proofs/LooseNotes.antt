-- What holds of each diagnostic that may be read of a script holds of the diagnostics of no step.
use Rattle.std.proofs.Common.{◌≡◌, ℕ, suc, cond, Bool, true, false, List, [], ◌∷◌, Option, Some, None, Result, Ok, Err, subst}
use Rattle.std.specs.Prelude.{IfOk, IfSome, codes}
use Rattle.std.specs.List.{AllByRecursion}
use Rattle.json.specs.Json.{Json}
use Rattle.serde_json.specs.Data.{Data, no_members}
use Rattle.serde_json.specs.Find.{get}
use Rattle.apply_model.specs.declared.details.note.Note.{Note}
use Rattle.apply_plan.specs.declared.script.script_error.ScriptError.TheVariants.{BadDiagnostic, BadShape}
use Rattle.apply_plan.specs.Results as results
use Rattle.apply_plan_terraform.specs.declared.plan_notes.PlanNote.{PlanNote}
use Rattle.apply_plan_terraform.specs.declared.plan_notes.PlanNote.TheVariants.{Partial, Unfinished}
use Rattle.apply_plan_terraform.specs.declared.texts.part.Part.TheVariants.{Script}
use Rattle.apply_plan_terraform.specs.Extras.{ExtrasOfScript, extras_of_json, extras_of_script}
use Rattle.apply_plan_terraform.specs.Notes.{items_in_text, note_in, note_of_plan, notes_from, notes_in_script, notes_of_option, notes_of_text, written_notes}
use Rattle.apply_plan_terraform.specs.Outputs.{OutputsOfPlan, as_text, is_null, outputs_in_script, unless_faulty}
use Rattle.apply_plan_terraform.specs.Texts.{json_of, with_texts}
use Rattle.apply_run.specs.Read.{StatedInputs, extras_of, given_extras}
use Rattle.laws_check.proofs.Given.{any_given, is_answered, refused_or, then_of}
use Rattle.laws_check.proofs.SoundObjects.{all_both}

any_answer : {A E : Type 0} (answer : Result A E) → IfOk answer (λ _. Unit {0})
any_answer (Ok x) = tt
any_answer (Err e) = tt

module _ (P : Note → Type 0) (each : (d : Data) → IfSome (note_in d) P) where
  abbrev AllHold : List Note → Type 0
  AllHold notes = AllByRecursion P notes

  notes_hold : (number : ℕ) (ds : List Data) → IfOk (notes_from number ds) AllHold
  notes_hold number [] = tt
  notes_hold number (d ∷ ds) =
      then_of P AllHold (results.or_refuse (BadDiagnostic number) (note_in d)) _ (refused_or P (BadDiagnostic number) (note_in d) (each d))
      (λ note one. then_of AllHold AllHold (notes_from (suc number) ds) _ (notes_hold (suc number) ds) (λ notes others. (one, others)))

  option_holds : (text : Option (List ℕ)) → IfOk (notes_of_option text) AllHold
  option_holds None = tt
  option_holds (Some text) = of_test (is_null (Some text))
    where
      of_test : (b : Bool) → IfOk (cond b (Ok []) (notes_of_text text)) AllHold
      of_test true = tt
      of_test false =
          then_of (λ _. Unit {0}) AllHold (results.or_refuse (BadShape None) (items_in_text text)) (notes_from 0)
          (refused_or (λ _. Unit {0}) (BadShape None) (items_in_text text) (any_given (items_in_text text))) (λ ds u. notes_hold 0 ds)

  abbrev HoldOfExtras : ExtrasOfScript → Type 0
  HoldOfExtras extras = AllHold extras.notes

  extras_hold : (known : OutputsOfPlan) (bytes : Option (List ℕ)) (extras : ExtrasOfScript) → given_extras known bytes ≡ Ok extras → HoldOfExtras extras
  extras_hold known None extras is = subst HoldOfExtras (let same : (let none : ExtrasOfScript = record { outputs = no_members; notes = [] } in none) ≡ extras = cc in same) tt
  extras_hold known (Some bytes) extras is = is_answered HoldOfExtras (extras_of_json known (json_of bytes)) extras (of_value (json_of bytes)) is
    where
      of_script : (d : Data) → IfOk (extras_of_script known d) HoldOfExtras
      of_script d =
          let outputs = unless_faulty known (outputs_in_script (get (codes "outputs") d)) in
          then_of (λ _. Unit {0}) HoldOfExtras outputs _ (any_answer outputs)
          (λ outputs u. then_of AllHold HoldOfExtras (notes_in_script (get (codes "diagnostics") d)) _ (option_holds (as_text (get (codes "diagnostics") d))) (λ notes all. all))

      of_value : (o : Option Json) → IfOk (extras_of_json known o) HoldOfExtras
      of_value None = tt
      of_value (Some j) = of_script (with_texts Script j)

  -- with the diagnostic of the plan
  module _ (partial : P (note_of_plan Partial)) (unfinished : P (note_of_plan Unfinished)) where
    with_note : (note : Option PlanNote) (script : List Note) → AllHold script → AllHold (written_notes note script)
    with_note None script all = all
    with_note (Some Partial) script all = all_both P script (note_of_plan Partial ∷ []) all (partial, tt)
    with_note (Some Unfinished) script all = (unfinished, tt)

    pub written_hold : (script : Option (List ℕ)) (stated : StatedInputs) → given_extras stated.details.outputs script ≡ Ok stated.extras → AllHold (extras_of stated).notes
    written_hold script stated are = with_note stated.details.note stated.extras.notes (extras_hold stated.details.outputs script stated.extras are)
