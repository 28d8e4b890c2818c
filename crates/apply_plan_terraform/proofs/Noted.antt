-- Diagnostics that were taken from an array, one after the other.
use Rattle.std.proofs.Common.{◌≡◌, ◌<◌, ◌+◌, ℕ, suc, List, [], ◌∷◌, ◌++◌, drop, get_or, length, map, Some, Result, Ok, Err, refl, sym, ap, ◌∙◌, add-one, append_assoc}
use Rattle.std.proofs.lemmas.List.{drop_more}
use Rattle.serde_json.specs.View.{view}
use Rattle.serde_json.specs.declared.value.Value.{Value}
use Rattle.apply_model.specs.declared.details.note.Note.{Note}
use Rattle.apply_plan.specs.declared.script.script_error.ScriptError.{ScriptError}
use Rattle.apply_plan.specs.declared.script.script_error.ScriptError.TheVariants.{BadDiagnostic}
use Rattle.apply_plan.specs.Results as results
use Rattle.apply_plan_terraform.specs.Notes.{note_in, notes_from}

-- those that were taken, and what comes of the others
abbrev pub after : List Note → Result (List Note) ScriptError → Result (List Note) ScriptError
after taken (Ok others) = Ok (taken ++ others)
after taken (Err refusal) = Err refusal

abbrev with_note : Result Note ScriptError → Result (List Note) ScriptError → Result (List Note) ScriptError
with_note note others = results.◌>>=◌ note (λ n. results.◌>>=◌ others (λ ns. Ok (n ∷ ns)))

one_after : (taken : List Note) (note : Note) (r : Result (List Note) ScriptError) → after taken (with_note (Ok note) r) ≡ after (taken ++ note ∷ []) r
one_after taken note (Ok others) = ap Ok (sym (append_assoc taken (note ∷ []) others))
one_after taken note (Err refusal) = refl

module _ (items : List Value) (i : ℕ) (taken : List Note) (whole : Result (List Note) ScriptError) (so_far : whole ≡ after taken (notes_from i (map view (drop i items)))) where
  module _ (v : Value) (few : i < length items) (is : v ≡ get_or items i v) where
    next : whole ≡ after taken (with_note (results.or_refuse (BadDiagnostic i) (note_in (view v))) (notes_from (suc i) (map view (drop (i + 1) items))))
    next = so_far ∙ ap (λ vs. after taken (notes_from i (map view vs))) (drop_more items i v few ∙ ap (λ x. x ∷ drop (i + 1) items) (sym is))

    pub one_more : (note : Note) (new : List Note) → note_in (view v) ≡ Some note → new ≡ taken ++ note ∷ [] → whole ≡ after new (notes_from (i + 1) (map view (drop (i + 1) items)))
    one_more note new stated grown =
        next
        ∙ ap (λ o. after taken (with_note (results.or_refuse (BadDiagnostic i) o) (notes_from (suc i) (map view (drop (i + 1) items))))) stated
        ∙ one_after taken note (notes_from (suc i) (map view (drop (i + 1) items)))
        ∙ ap (λ n. after (taken ++ note ∷ []) (notes_from n (map view (drop (i + 1) items)))) (sym (add-one i))
        ∙ ap (λ notes. after notes (notes_from (i + 1) (map view (drop (i + 1) items)))) (sym grown)
