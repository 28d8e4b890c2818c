-- Diagnostics of no step are read back.
use Rattle.std.proofs.Common.{◌≡◌, ℕ, suc, ◌≤◌, List, [], ◌∷◌, ◌++◌, Bool, true, false, Option, Some, None, Ok, cond, map, option_map, unwrap_or, refl, sym, ap, ap₂, ◌∙◌, subst, arith}
use Rattle.std.specs.Prelude.{codes, IfSome, option_and_then}
use Rattle.std.specs.List.{AllByRecursion}
use Rattle.std.proofs.lemmas.Bool.{eqb-true}
use Rattle.json.specs.Json as json
use Rattle.json.specs.Json.{Json}
use Rattle.json.specs.Print.{escape_byte}
use Rattle.json.specs.Tree.{ItemsHaveNumbers, items_depth}
use Rattle.serde_json.specs.Data.{Data, string}
use Rattle.serde_json.specs.Find.{as_str, get}
use Rattle.serde_json.specs.Read.{of_json}
use Rattle.apply_json.specs.Tree.{◌>>=◌, unless_empty}
use Rattle.apply_model.specs.declared.details.note.Note.{Note}
use Rattle.apply_model.specs.declared.details.note.Severity.{Severity}
use Rattle.apply_model.specs.declared.details.note.Severity.TheVariants.{Error, Warning}
use Rattle.apply_plan.specs.declared.script.script_error.ScriptError.TheVariants.{BadDiagnostic, BadShape}
use Rattle.apply_plan.specs.Results as results
use Rattle.apply_plan.specs.Script.Entry.{is_object_text}
use Rattle.apply_plan_terraform.specs.declared.texts.part.Part.TheVariants as parts
use Rattle.apply_plan_terraform.specs.Notes.{decoded, decoded_member, decoded_or_empty, diag_in, is_object, items_in, items_of, note_in, notes_from, notes_in_script, object_or_none, raw_member, severity_in, severity_named}
use Rattle.apply_plan_terraform.specs.Outputs.{is_null}
use Rattle.stream_record.specs.Parts as text
use Rattle.stream_record.specs.Parts.{json_text, list_text, text_member}
use Rattle.stream_record.specs.ScriptText.{detail_text, note_text, notes_text, severity_front}
use Rattle.laws_record.specs.Writable.{IsJsonText, IsObjectText, IsWritableNote}
use Rattle.laws_record.proofs.DiagTexts.{detail_is, grouped, tail_text}
use Rattle.laws_record.proofs.DiagsBack.{no_null}
use Rattle.laws_record.proofs.Fronts.{address_front, detail_front, diagnostics_front, first_severity, range_front, snippet_front, summary_front}
use Rattle.laws_record.proofs.Lookups.{is_found, text_back}
use Rattle.laws_record.proofs.NoteTexts.{front_is, regroup}
use Rattle.laws_record.proofs.TextMembers.{ArePart, IsPart, absent_part, json_read, last_part, object_part, own_list, present_part, raw_text_part, string_part, text_part}
use Rattle.laws_record.proofs.Trees.{severity_word}
use Rattle.laws_record.proofs.ValueTexts.{items_text, value_text, verbatim_is}
use Rattle.laws_record.proofs.Values.{Field, object_with}

-- ---- a note as a tree of texts

abbrev texts_of : Option (List ℕ) → Option Data
texts_of text = option_map (λ t. string (json_text t)) text

abbrev tail_fields : Note → List Field
tail_fields note =
    (codes "detail", texts_of (unless_empty note.diag.detail)) ∷ (codes "address", texts_of note.address)
    ∷ (codes "range", option_map string note.diag.range) ∷ (codes "snippet", option_map string note.diag.snippet) ∷ []

abbrev note_fields : Note → List Field
note_fields note =
    (codes "severity", Some (string (json_text (severity_word note.severity)))) ∷ (codes "summary", Some (string (json_text note.diag.summary))) ∷ tail_fields note

abbrev note_data : Note → Data
note_data note = object_with (note_fields note)

raw_json : (n : ℕ) (o : Option (List ℕ)) → IfSome o (IsObjectText n) → IfSome o (IsJsonText n)
raw_json n None is = tt
raw_json n (Some o) is = is.json_text

tail_part : (note : Note) → IsWritableNote note → ArePart parts.Diagnostic 124 (tail_text note.address note.diag) (tail_fields note)
tail_part note is =
    let diag = note.diag in
    let range = text.raw_member (codes ",\"range\":") diag.range in
    let snippet = text.raw_member (codes ",\"snippet\":") diag.snippet in
    let rest = text_member (codes ",\"address\":") note.address ++ (range ++ (snippet ++ codes "}")) in
    let f4 : List Field = (codes "snippet", option_map string diag.snippet) ∷ [] in
    let f3 : List Field = (codes "range", option_map string diag.range) ∷ f4 in
    let f2 : List Field = (codes "address", texts_of note.address) ∷ f3 in
    let m4 = raw_text_part parts.Diagnostic (codes "snippet") (codes ",\"snippet\":") 124 refl snippet_front diag.snippet (codes "}") [] (raw_json 124 diag.snippet is.diag.snippet) (last_part parts.Diagnostic 124) in
    let m3 = raw_text_part parts.Diagnostic (codes "range") (codes ",\"range\":") 124 refl range_front diag.range (snippet ++ codes "}") f4 (raw_json 124 diag.range is.diag.range) m4 in
    let m2 = text_part parts.Diagnostic (codes "address") (codes ",\"address\":") 124 refl address_front note.address (range ++ (snippet ++ codes "}")) f3 m3 in
    subst (λ t. ArePart parts.Diagnostic 124 (t ++ rest) (tail_fields note)) (detail_is diag.detail)
    (text_part parts.Diagnostic (codes "detail") (codes ",\"detail\":") 124 refl detail_front (unless_empty diag.detail) rest f2 m2)

note_part : (note : Note) → IsWritableNote note → IsPart parts.Diagnostic 125 (note_text note) (note_data note)
note_part note is =
    let diag = note.diag in
    let rest = tail_text note.address diag in
    let word = severity_word note.severity in
    let summary = json_text diag.summary in
    let members = present_part parts.Diagnostic parts.Text (codes "summary") (codes ",\"summary\":") 124 summary rest (string summary) (tail_fields note) refl (string_part 124 diag.summary) (tail_part note is) summary_front in
    subst (λ t. IsPart parts.Diagnostic 125 t (note_data note))
    (sym (regroup (severity_front note.severity) (codes "\"summary\":") summary (detail_text diag.detail) (text_member (codes ",\"address\":") note.address)
    (text.raw_member (codes ",\"range\":") diag.range) (text.raw_member (codes ",\"snippet\":") diag.snippet) (codes "}")
    ∙ ap (λ t. t ++ (summary ++ rest)) (front_is note.severity) ∙ grouped (codes "{\"severity\":") (json_text word) (codes ",\"summary\":") summary rest))
    (object_part parts.Diagnostic parts.Text (codes "severity") (codes "{\"severity\":") 124 (json_text word) (codes ",\"summary\":" ++ (summary ++ rest)) (string (json_text word))
    ((codes "summary", Some (string summary)) ∷ tail_fields note) refl (string_part 124 word) members refl first_severity)

-- ---- a note is read back

decoded_back : (s : List ℕ) → decoded (json_text s) ≡ Some s
decoded_back s = ap (λ o. option_and_then of_json o >>= as_str) (json_read (json_text s) (json.string s) refl tt (omega arith))

raw_found : (name : List ℕ) (d : Data) (o : Option Data) → get name d ≡ o → raw_member name d ≡ ((o >>= as_str) >>= λ t. cond (is_null (Some t)) None (Some t))
raw_found name d o is = ap (λ x. (x >>= as_str) >>= λ t. cond (is_null (Some t)) None (Some t)) is

optional_back : (o : Option (List ℕ)) → decoded_or_empty ((texts_of o >>= as_str) >>= λ t. cond (is_null (Some t)) None (Some t)) ≡ Some (unwrap_or o [])
optional_back None = refl
optional_back (Some s) = decoded_back s

begins_with_brace : (t : List ℕ) → is_object_text t ≡ true → is_object t ≡ true
begins_with_brace [] e = absurd cc
begins_with_brace (x ∷ xs) e = let brace : x ≡ 123 = eqb-true x 123 e in subst (λ y. is_object (y ∷ xs) ≡ true) (sym brace) refl

object_back : (n : ℕ) (o : Option (List ℕ)) → IfSome o (IsObjectText n) → object_or_none ((option_map string o >>= as_str) >>= λ t. cond (is_null (Some t)) None (Some t)) ≡ Some o
object_back n None is = refl
object_back n (Some t) is =
    (λ i. object_or_none (cond (no_null t is.object i) None (Some t))) ∙ (λ i. cond (begins_with_brace t is.object i) (Some (Some t)) None)

error_text : json_text (codes "error") ≡ codes "\"error\""
unfolding escape_byte
error_text = refl

warning_text : json_text (codes "warning") ≡ codes "\"warning\""
unfolding escape_byte
warning_text = refl

severity_back : (severity : Severity) → severity_named (json_text (severity_word severity)) ≡ Some severity
severity_back Error = ap severity_named error_text
severity_back Warning = ap severity_named warning_text

detail_back : (detail : List ℕ) → unwrap_or (unless_empty detail) [] ≡ detail
detail_back [] = refl
detail_back (byte ∷ bytes) = refl

note_back : (note : Note) → IsWritableNote note → note_in (note_data note) ≡ Some note
note_back note is =
    let d = note_data note in
    let fields = note_fields note in
    let diag = note.diag in
    let severity_is : severity_in d ≡ Some note.severity =
    ap (λ o. o >>= severity_named) (raw_found (codes "severity") d (Some (string (json_text (severity_word note.severity)))) (is_found (codes "severity") fields)) ∙ severity_back note.severity in
    let summary_is : decoded_member (codes "summary") d ≡ Some diag.summary =
    ap (λ o. o >>= decoded) (raw_found (codes "summary") d (Some (string (json_text diag.summary))) (is_found (codes "summary") fields)) ∙ decoded_back diag.summary in
    let detail_is : decoded_or_empty (raw_member (codes "detail") d) ≡ Some diag.detail =
    ap decoded_or_empty (raw_found (codes "detail") d (texts_of (unless_empty diag.detail)) (is_found (codes "detail") fields)) ∙ optional_back (unless_empty diag.detail) ∙ ap Some (detail_back diag.detail) in
    let range_is : object_or_none (raw_member (codes "range") d) ≡ Some diag.range =
    ap object_or_none (raw_found (codes "range") d (option_map string diag.range) (is_found (codes "range") fields)) ∙ object_back 124 diag.range is.diag.range in
    let snippet_is : object_or_none (raw_member (codes "snippet") d) ≡ Some diag.snippet =
    ap object_or_none (raw_found (codes "snippet") d (option_map string diag.snippet) (is_found (codes "snippet") fields)) ∙ object_back 124 diag.snippet is.diag.snippet in
    let address_is : decoded_or_empty (raw_member (codes "address") d) ≡ Some (unwrap_or note.address []) =
    ap decoded_or_empty (raw_found (codes "address") d (texts_of note.address) (is_found (codes "address") fields)) ∙ optional_back note.address in
    let diag_is : diag_in d ≡ Some diag =
    λ i. summary_is i >>= (λ summary. detail_is i >>= (λ detail. range_is i >>= (λ range. snippet_is i >>= (λ snippet. Some (record { summary = summary; detail = detail; range = range; snippet = snippet }))))) in
    (λ i. severity_is i >>= (λ severity. diag_is i >>= (λ diag. address_is i >>= (λ address. Some (record { severity = severity; diag = diag; address = unless_empty address })))))
    ∙ ap (λ (address : Option (List ℕ)). Some (record { severity = note.severity; diag = diag; address = address })) (text_back note.address is.address)

-- ---- all notes

record AreNotes (later : Bool) (text : List ℕ) (ds : List Data) : Type 0 where
  items : json.Items
  text_is : text ≡ items_text later items
  numbers : ItemsHaveNumbers items
  shallow : items_depth items ≤ 125
  tree_is : items_of items ≡ ds

abbrev comma_before : Bool → List ℕ
comma_before later = cond later (44 ∷ []) []

one_note : (later : Bool) (note : Note) (rest : List ℕ) (ds : List Data) → IsWritableNote note → AreNotes true rest ds → AreNotes later (comma_before later ++ (note_text note ++ rest)) (note_data note ∷ ds)
one_note later note rest ds is are =
    let one = note_part note is in
    record {
      items = json.item one.json are.items;
      text_is = ap₂ (λ v r. comma_before later ++ (v ++ r)) one.text_is are.text_is;
      numbers = (one.numbers, are.numbers);
      shallow = omega (arith, one.shallow, are.shallow);
      tree_is = ap₂ (λ (d : Data) (ds : List Data). d ∷ ds) one.tree_is are.tree_is;
    }

abbrev later_notes : List Note → List ℕ
later_notes notes = list_text (codes ",\"diagnostics\":[") (codes "]") true (map note_text notes)

more_notes : (notes : List Note) → AllByRecursion IsWritableNote notes → AreNotes true (later_notes notes) (map note_data notes)
more_notes [] all = record { items = json.no_items; text_is = refl; numbers = tt; shallow = omega arith; tree_is = refl }
more_notes (note ∷ notes) all = one_note true note (later_notes notes) (map note_data notes) all.0 (more_notes notes all.1)

all_back : (n : ℕ) (notes : List Note) → AllByRecursion IsWritableNote notes → notes_from n (map note_data notes) ≡ Ok notes
all_back n [] all = refl
all_back n (note ∷ notes) all =
    let first = note_back note all.0 in
    let rest = all_back (suc n) notes all.1 in
    (λ i. results.◌>>=◌ (results.or_refuse (BadDiagnostic n) (first i)) (λ note. results.◌>>=◌ (rest i) (λ notes. Ok (note ∷ notes))))

-- the text of the array, if there are some
abbrev pub notes_array : List Note → Option (List ℕ)
notes_array [] = None
notes_array (note ∷ notes) = Some (91 ∷ (note_text note ++ later_notes notes))

pub notes_part : (notes : List Note) (rest : List ℕ) (fields : List Field) → AllByRecursion IsWritableNote notes → ArePart parts.Script 126 rest fields
    → ArePart parts.Script 126 (notes_text notes ++ rest) ((codes "diagnostics", option_map string (notes_array notes)) ∷ fields)
notes_part [] rest fields all are = absent_part parts.Script (codes "diagnostics") 126 rest fields are
notes_part (note ∷ notes) rest fields all are =
    let listed = one_note false note (later_notes notes) (map note_data notes) all.0 (more_notes notes all.1) in
    let whole = 91 ∷ (note_text note ++ later_notes notes) in
    let array = json.array listed.items in
    let same : whole ≡ value_text array = ap (λ s. 91 ∷ s) listed.text_is in
    present_part parts.Script parts.Diagnostics (codes "diagnostics") (codes ",\"diagnostics\":") 126 whole rest (string whole) fields refl
    (record { json = array; text_is = same; numbers = listed.numbers; shallow = omega (arith, listed.shallow); tree_is = own_list array ∙ ap string (verbatim_is array ∙ sym same) })
    are diagnostics_front

pub notes_back : (notes : List Note) → AllByRecursion IsWritableNote notes → notes_in_script (option_map string (notes_array notes)) ≡ Ok notes
notes_back [] all = refl
notes_back (note ∷ notes) all =
    let listed = one_note false note (later_notes notes) (map note_data notes) all.0 (more_notes notes all.1) in
    let whole = 91 ∷ (note_text note ++ later_notes notes) in
    let array = json.array listed.items in
    let same : whole ≡ value_text array = ap (λ s. 91 ∷ s) listed.text_is in
    let read_is = json_read whole array same listed.numbers (omega (arith, listed.shallow)) in
    (λ i. results.◌>>=◌ (results.or_refuse (BadShape None) (read_is i >>= items_in)) (notes_from 0))
    ∙ ap (notes_from 0) listed.tree_is ∙ all_back 0 (note ∷ notes) all
