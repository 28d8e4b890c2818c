-- Diagnostics of no step, of a script that was read and of a plan: their texts are UTF-8, and their
-- verbatim texts are values.
use Rattle.std.proofs.Common.{◌≡◌, ℕ, suc, List, [], ◌∷◌, codes, cond, IsUtf8, Bool, true, false, Option, Some, None, Ok, refl, sym, subst, arith}
use Rattle.std.specs.Prelude.{IfOk, IfSome}
use Rattle.std.specs.List.{AllByRecursion}
use Rattle.std.proofs.lemmas.Str.{IsUtf8-nil}
use Rattle.json.specs.Json as json
use Rattle.json.specs.Json.{Json}
use Rattle.json.proofs.Printed.Utf8.{IsUtf8-are_ascii}
use Rattle.serde_json.specs.Data.{Data}
use Rattle.serde_json.specs.Find.{as_str, get}
use Rattle.serde_json.specs.Read.{read}
use Rattle.apply_json.specs.Verbatim.{verbatim}
use Rattle.apply_json.specs.Tree.{◌>>=◌}
use Rattle.apply_model.specs.declared.details.note.Note.{Note}
use Rattle.apply_plan.specs.declared.script.script_error.ScriptError.TheVariants.{BadDiagnostic, BadShape}
use Rattle.apply_plan.specs.Results as results
use Rattle.apply_plan_terraform.specs.declared.plan_notes.PlanNote.{PlanNote}
use Rattle.apply_plan_terraform.specs.declared.plan_notes.PlanNote.TheVariants.{Partial, Unfinished}
use Rattle.apply_plan_terraform.specs.declared.texts.part.Part.TheVariants.{Diagnostic, Diagnostics, Script, Text}
use Rattle.apply_plan_terraform.specs.Notes.{diag_in, is_object, items_in, items_in_text, items_of, raw_member, note_in, note_of_plan, notes_from, notes_in_script, notes_of_option, notes_of_text, object_or_none, decoded, decoded_member, decoded_or_empty, severity_in, written_notes}
use Rattle.apply_plan_terraform.specs.Outputs.{as_text, is_null, text_at}
use Rattle.apply_plan_terraform.specs.Texts.{json_of_text, part_named, with_texts}
use Rattle.laws_check.specs.FormTexts.{IsValueText}
use Rattle.laws_check.specs.ReadBackInForm.{HasNoteTexts}
use Rattle.laws_check.proofs.Given.{any_given, next_of, refused_or, then_of}
use Rattle.laws_check.proofs.VerbatimDiagnostics.{HasStatedDiagnostic, MayKeep, has_verbatim}
use Rattle.laws_check.proofs.VerbatimValues.{Comes, IsWhole, ItemsWhole, named, of_array, parsed_back, text_verbatim}
use Rattle.laws_check.proofs.Legible.{IsLegible, read_legible}
use Rattle.laws_check.proofs.LookUps.{filled_utf8, str_utf8}
use Rattle.laws_check.proofs.SoundObjects.{all_both}

-- ---- one diagnostic of a script

kept_member : (name : List ℕ) → part_named Diagnostic name ≡ Some Text → (d : Data) → Comes 125 Diagnostic d → MayKeep (raw_member name d)
kept_member name is d comes = next_of IsValueText IsValueText (text_at name d) _ (text_verbatim 124 (omega arith) Diagnostic name is d comes) (λ text raw_texts. of_test text raw_texts (is_null (Some text)))
  where
    of_test : (text : List ℕ) → IsValueText text → (b : Bool) → MayKeep (cond b None (Some text))
    of_test text raw_texts true = tt
    of_test text raw_texts false = raw_texts

stated_utf8 : (text : List ℕ) → IsValueText text → IfSome (decoded text) IsUtf8
stated_utf8 text raw_texts = next_of IsLegible IsUtf8 (read text) as_str (read_legible text raw_texts.1.utf8) str_utf8

stated_member : (name : List ℕ) → part_named Diagnostic name ≡ Some Text → (d : Data) → Comes 125 Diagnostic d → IfSome (decoded_member name d) IsUtf8
stated_member name is d comes = next_of IsValueText IsUtf8 (raw_member name d) decoded (kept_member name is d comes) stated_utf8

stated_or_nothing : (o : Option (List ℕ)) → MayKeep o → IfSome (decoded_or_empty o) IsUtf8
stated_or_nothing None h = IsUtf8-nil
stated_or_nothing (Some text) h = stated_utf8 text h

object_verbatim : (o : Option (List ℕ)) → MayKeep o → IfSome (object_or_none o) MayKeep
object_verbatim None h = tt
object_verbatim (Some text) h = of_test (is_object text)
  where
    of_test : (b : Bool) → IfSome (cond b (Some (Some text)) None) MayKeep
    of_test true = h
    of_test false = tt

diag_has_texts : (d : Data) → Comes 125 Diagnostic d → IfSome (diag_in d) HasStatedDiagnostic
diag_has_texts d comes =
    next_of IsUtf8 HasStatedDiagnostic (decoded_member (codes "summary") d) _ (stated_member (codes "summary") refl d comes)
    (λ summary summary_is. next_of IsUtf8 HasStatedDiagnostic (decoded_or_empty (raw_member (codes "detail") d)) _ (stated_or_nothing (raw_member (codes "detail") d) (kept_member (codes "detail") refl d comes))
    (λ detail detail_is. next_of MayKeep HasStatedDiagnostic (object_or_none (raw_member (codes "range") d)) _ (object_verbatim (raw_member (codes "range") d) (kept_member (codes "range") refl d comes))
    (λ range range_is. next_of MayKeep HasStatedDiagnostic (object_or_none (raw_member (codes "snippet") d)) _ (object_verbatim (raw_member (codes "snippet") d) (kept_member (codes "snippet") refl d comes))
    (λ snippet snippet_is. (record { summary = summary_is; detail = detail_is }, has_verbatim summary detail range snippet range_is snippet_is)))))

note_has_texts : (d : Data) → Comes 125 Diagnostic d → IfSome (note_in d) HasNoteTexts
note_has_texts d comes =
    next_of (λ _. Unit {0}) HasNoteTexts (severity_in d) _ (any_given (severity_in d))
    (λ severity u. next_of HasStatedDiagnostic HasNoteTexts (diag_in d) _ (diag_has_texts d comes)
    (λ diag diag_texts. next_of IsUtf8 HasNoteTexts (decoded_or_empty (raw_member (codes "address") d)) _ (stated_or_nothing (raw_member (codes "address") d) (kept_member (codes "address") refl d comes))
    (λ address address_is. record { diag = diag_texts.0; address = filled_utf8 address address_is; raw_texts = diag_texts.1 })))

-- ---- diagnostics of a script

abbrev AreTold : List Note → Type 0
AreTold notes = AllByRecursion HasNoteTexts notes

events_read_back : (number : ℕ) (ds : List Data) → AllByRecursion (Comes 125 Diagnostic) ds → IfOk (notes_from number ds) AreTold
events_read_back number [] come = tt
events_read_back number (d ∷ ds) come =
    then_of HasNoteTexts AreTold (results.or_refuse (BadDiagnostic number) (note_in d)) _ (refused_or HasNoteTexts (BadDiagnostic number) (note_in d) (note_has_texts d come.0))
    (λ note one. then_of AreTold AreTold (notes_from (suc number) ds) _ (events_read_back (suc number) ds come.1) (λ notes others. (one, others)))

each_item : (js : json.Items) → ItemsWhole 125 js → AllByRecursion (Comes 125 Diagnostic) (items_of js)
each_item json.no_items whole = tt
each_item (json.item j js) whole = ((j, whole.0, refl), each_item js whole.1)

items_come : (j : Json) → IsWhole 126 j → IfSome (items_in j) (AllByRecursion (Comes 125 Diagnostic))
items_come json.null whole = tt
items_come (json.boolean b) whole = tt
items_come (json.number s) whole = tt
items_come (json.string s) whole = tt
items_come (json.array js) whole = each_item js (of_array 125 js whole)
items_come (json.object ms) whole = tt

-- the text of a value that was read
abbrev IsOwn : List ℕ → Type 0
IsOwn text = (j : Json) × IsWhole 126 j × (text ≡ verbatim j)

text_come : (text : List ℕ) → IsOwn text → IfSome (items_in_text text) (AllByRecursion (Comes 125 Diagnostic))
text_come text own =
    let j = own.0 in
    let back = parsed_back j (record { clear = own.1.clear; numbers = own.1.numbers; shallow = omega (arith, own.1.shallow); tree = own.1.tree }) in
    subst (λ (t : List ℕ). IfSome (json_of_text t >>= items_in) (AllByRecursion (Comes 125 Diagnostic))) (sym own.2)
    (subst (λ (o : Option Json). IfSome (o >>= items_in) (AllByRecursion (Comes 125 Diagnostic))) (sym back) (items_come j own.1))

option_has_texts : (located : Option (List ℕ)) → IfSome located IsOwn → IfOk (notes_of_option located) AreTold
option_has_texts None own = tt
option_has_texts (Some text) own = of_test (is_null (Some text))
  where
    of_test : (b : Bool) → IfOk (cond b (Ok []) (notes_of_text text)) AreTold
    of_test true = tt
    of_test false = then_of (AllByRecursion (Comes 125 Diagnostic)) AreTold (results.or_refuse (BadShape None) (items_in_text text)) (notes_from 0) (refused_or (AllByRecursion (Comes 125 Diagnostic)) (BadShape None) (items_in_text text) (text_come text own)) (events_read_back 0)

own_verbatim : (d : Data) → Comes 126 Diagnostics d → IfSome (as_str d) IsOwn
own_verbatim d comes = subst (λ (x : Data). IfSome (as_str x) IsOwn) (sym comes.2) (of_json comes.0 comes.1)
  where
    of_json : (j : Json) → IsWhole 126 j → IfSome (as_str (with_texts Diagnostics j)) IsOwn
    of_json json.null whole = (json.null, whole, refl)
    of_json (json.boolean b) whole = (json.boolean b, whole, refl)
    of_json (json.number s) whole = (json.number s, whole, refl)
    of_json (json.string s) whole = (json.string s, whole, refl)
    of_json (json.array js) whole = (json.array js, whole, refl)
    of_json (json.object ms) whole = (json.object ms, whole, refl)

pub script_notes : (d : Data) → Comes 127 Script d → IfOk (notes_in_script (get (codes "diagnostics") d)) AreTold
script_notes d comes =
    option_has_texts (as_text (get (codes "diagnostics") d))
    (next_of (Comes 126 Diagnostics) IsOwn (get (codes "diagnostics") d) as_str (named 126 Script Diagnostics (codes "diagnostics") refl d comes) own_verbatim)

-- ---- the diagnostic of a plan

pub plan_note : (note : PlanNote) → HasNoteTexts (note_of_plan note)
plan_note Partial = record {
  diag = record { summary = IsUtf8-are_ascii (note_of_plan Partial).diag.summary refl; detail = IsUtf8-are_ascii (note_of_plan Partial).diag.detail refl };
  address = tt;
  raw_texts = (None, None, record { range_is = tt; snippet_is = tt });
}
plan_note Unfinished = record {
  diag = record { summary = IsUtf8-are_ascii (note_of_plan Unfinished).diag.summary refl; detail = IsUtf8-are_ascii (note_of_plan Unfinished).diag.detail refl };
  address = tt;
  raw_texts = (None, None, record { range_is = tt; snippet_is = tt });
}

pub notes_have_texts : (note : Option PlanNote) (script : List Note) → AllByRecursion HasNoteTexts script → AllByRecursion HasNoteTexts (written_notes note script)
notes_have_texts None script texts = texts
notes_have_texts (Some Partial) script texts = all_both HasNoteTexts script (note_of_plan Partial ∷ []) texts (plan_note Partial, tt)
notes_have_texts (Some Unfinished) script texts = (plan_note Unfinished, tt)
