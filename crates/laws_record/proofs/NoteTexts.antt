-- The texts of diagnostics of no step.
use Rattle.std.proofs.Common.{◌≡◌, ℕ, List, ◌∷◌, ◌++◌, IsUtf8, map, refl, sym, subst, append_assoc}
use Rattle.std.specs.Prelude.{codes}
use Rattle.std.specs.List.{AllByRecursion}
use Rattle.json.proofs.Printed.Utf8.{IsUtf8-are_ascii}
use Rattle.apply_model.specs.declared.details.note.Note.{Note}
use Rattle.apply_model.specs.declared.details.note.Severity.{Severity}
use Rattle.apply_model.specs.declared.details.note.Severity.TheVariants.{Error, Warning}
use Rattle.stream_record.specs.Parts.{json_text, raw_member, text_member}
use Rattle.stream_record.specs.ScriptText.{detail_text, note_text, notes_text, severity_front}
use Rattle.laws_record.specs.Writable.{IsWritableNote}
use Rattle.laws_record.proofs.DiagTexts.{severe_value}
use Rattle.laws_record.proofs.Fronts.{diagnostics_front, error_word, warning_word}
use Rattle.laws_record.proofs.Lists.{all_values, array_unless_empty, list_before}
use Rattle.laws_record.proofs.Trees.{note_tree, severity_word}
use Rattle.laws_record.proofs.WaitTexts.{filled_utf8}
use Rattle.laws_record.proofs.Values.{AreMembers, Field, IsValue}

pub regroup : (o s j d a r p e : List ℕ) → ((((((o ++ s) ++ j) ++ d) ++ a) ++ r) ++ p) ++ e ≡ (o ++ s) ++ (j ++ (d ++ (a ++ (r ++ (p ++ e)))))
regroup o s j d a r p e = simp append_assoc

pub front_is : (severity : Severity) → severity_front severity ++ codes "\"summary\":" ≡ codes "{\"severity\":" ++ (json_text (severity_word severity) ++ codes ",\"summary\":")
front_is Error = error_word
front_is Warning = warning_word

word_utf8 : (severity : Severity) → IsUtf8 (severity_word severity)
word_utf8 Error = IsUtf8-are_ascii (codes "error") refl
word_utf8 Warning = IsUtf8-are_ascii (codes "warning") refl

note_value : (note : Note) → IsWritableNote note → IsValue 125 (note_text note) (note_tree note)
note_value note is =
    let diag = note.diag in
    subst (λ t. IsValue 125 t (note_tree note))
    (sym (regroup (severity_front note.severity) (codes "\"summary\":") (json_text diag.summary) (detail_text diag.detail) (text_member (codes ",\"address\":") note.address)
    (raw_member (codes ",\"range\":") diag.range) (raw_member (codes ",\"snippet\":") diag.snippet) (codes "}")))
    (severe_value 124 (severity_front note.severity ++ codes "\"summary\":") (severity_word note.severity) note.address diag (word_utf8 note.severity) (filled_utf8 note.address is.address) is.diag (front_is note.severity))

pub notes_before : (notes : List Note) (rest : List ℕ) (fields : List Field) → AllByRecursion IsWritableNote notes → AreMembers 126 rest fields
    → AreMembers 126 (notes_text notes ++ rest) ((codes "diagnostics", array_unless_empty (map note_tree notes)) ∷ fields)
notes_before notes rest fields all are =
    list_before (codes "diagnostics") (codes ",\"diagnostics\":") 125 (IsUtf8-are_ascii (codes ",\"diagnostics\":") refl) diagnostics_front refl (map note_text notes) (map note_tree notes)
    rest fields (all_values 125 note_text note_tree IsWritableNote note_value notes all) are
