-- The text of a script is read as its tree.
use Rattle.std.proofs.Common.{◌≡◌, ℕ, ◌+◌, ◌≤◌, IsUtf8, true, List, [], ◌∷◌, ◌++◌, Bool, cond, map, Option, Some, None, refl, sym, ap, ◌∙◌, append_assoc, append-nil}
use Rattle.std.specs.Prelude.{codes, IfSome, option_and_then}
use Rattle.std.specs.List.{AllByRecursion}
use Rattle.std.specs.Str.{is_utf8}
use Rattle.std.proofs.lemmas.Str.{IsUtf8-append, is_utf8-from_IsUtf8}
use Rattle.json.specs.Json as json
use Rattle.json.specs.Lex.{tokens}
use Rattle.json.specs.Tree.{HasNumbers, depth, json_tokens}
use Rattle.json.proofs.Printed.Trees.{ArePrintable-json_tokens, value-json_tokens}
use Rattle.json.proofs.Printed.Utf8.{IsUtf8-are_ascii}
use Rattle.serde_json.specs.Data.{Data, array}
use Rattle.serde_json.specs.Read.{max_depth}
use Rattle.apply_json.specs.Verbatim.{mixed_tree, mixed_tree_of, mixed_tree_of_text}
use Rattle.apply_model.specs.declared.details.note.Note.{Note}
use Rattle.apply_model.specs.declared.script.script_step.ScriptStep.{ScriptStep}
use Rattle.apply_model.specs.Plan.ResourceChange.{ResourceChange}
use Rattle.apply_model.specs.Script.OutcomeMap.{OutcomeMap}
use Rattle.apply_plan.specs.ListReading.{items_of}
use Rattle.apply_plan.specs.Script.Entry.{is_verbatim_name}
use Rattle.stream_record.specs.declared.output.Output.{Output}
use Rattle.stream_record.specs.ScriptText.{entries_text, entry_before, entry_steps, entry_texts, notes_text, outputs_text, script_text}
use Rattle.laws_record.specs.Writable.{AreWritableEntries, IsWritable, IsWritableChange, IsWritableEntry, IsWritableNote, IsWritableOutput}
use Rattle.laws_record.proofs.Fronts.{first_changes}
use Rattle.laws_record.proofs.LineFeed.{line_tokens}
use Rattle.laws_record.proofs.Lists.{AreValues, array_unless_empty, bare_array}
use Rattle.laws_record.proofs.NoteTexts.{notes_before}
use Rattle.laws_record.proofs.Objects.{all_writable}
use Rattle.laws_record.proofs.OutputTexts.{outputs_before}
use Rattle.laws_record.proofs.StepTexts.{entry_value}
use Rattle.laws_record.proofs.Trees.{entry_trees, note_tree, tree_before}
use Rattle.laws_record.proofs.ValueTexts.{value_text, verbatim_is}
use Rattle.laws_record.proofs.Values.{Field, IsValue, last_member, object_value, object_with}
use Rattle.laws_record.proofs.WaitTexts.{AreWritable}

-- ---- entries

module _ (changes : List ResourceChange) (writable : AreWritable changes) (script : OutcomeMap) where
  entry_values : (n : ℕ) (left : List ResourceChange) → AllByRecursion IsWritableChange left → AreWritableEntries changes script n left
      → AreValues 125 (entry_texts changes script n left) (entry_trees changes script n left)
  entry_values n [] all entries = tt
  entry_values n (change ∷ left) all entries = of_steps (entry_steps script n) entries.0 (entry_values (n + 1) left all.1 entries.1)
    where
      of_steps : (o : Option (List ScriptStep)) → IfSome o (IsWritableEntry changes script n change)
          → AreValues 125 (entry_texts changes script (n + 1) left) (entry_trees changes script (n + 1) left)
          → AreValues 125 (entry_before changes change o (entry_texts changes script (n + 1) left)) (tree_before changes change o (entry_trees changes script (n + 1) left))
      of_steps None is rest = rest
      of_steps (Some steps) is rest = (entry_value changes writable change steps all.0 is.each, rest)

-- ---- the script

-- the members of a script
abbrev pub script_fields : List ResourceChange → OutcomeMap → (outputs : Option Data) → List Note → List Field
script_fields changes script outputs notes =
    (codes "changes", Some (array (items_of (entry_trees changes script 0 changes))))
    ∷ (codes "outputs", outputs)
    ∷ (codes "diagnostics", array_unless_empty (map note_tree notes)) ∷ []

regroup : (c e b o n l f : List ℕ) → (((((c ++ 91 ∷ []) ++ e) ++ b) ++ o) ++ n) ++ (l ++ f) ≡ (c ++ ((91 ∷ (e ++ b)) ++ (o ++ (n ++ l)))) ++ f
regroup c e b o n l f = simp append_assoc

-- the text without its line feed
abbrev pub core_text : List ResourceChange → OutcomeMap → List Output → List Note → List ℕ
core_text changes script outputs notes =
    codes "{\"changes\":" ++ ((91 ∷ (entries_text changes script ++ codes "]")) ++ (outputs_text outputs ++ (notes_text notes ++ codes "}")))

pub core_is : (changes : List ResourceChange) (script : OutcomeMap) (outputs : List Output) (notes : List Note) → script_text changes script outputs notes ≡ core_text changes script outputs notes ++ 10 ∷ []
core_is changes script outputs notes =
    regroup (codes "{\"changes\":") (entries_text changes script) (codes "]") (outputs_text outputs) (notes_text notes) (codes "}") (10 ∷ [])

-- the array of entries
pub changes_value : (changes : List ResourceChange) (script : OutcomeMap) → IsWritable changes script
    → IsValue 126 (91 ∷ (entries_text changes script ++ codes "]")) (array (items_of (entry_trees changes script 0 changes)))
changes_value changes script is =
    bare_array 125 (entry_texts changes script 0 changes) (entry_trees changes script 0 changes) (entry_values changes (all_writable changes is.each) script 0 changes is.each is.entries)

pub core_value : (changes : List ResourceChange) (script : OutcomeMap) (outputs : List Output) (notes : List Note)
    → IsWritable changes script → AllByRecursion IsWritableOutput outputs → AllByRecursion IsWritableNote notes
    → (tree : Option Data) × IsValue 127 (core_text changes script outputs notes) (object_with (script_fields changes script tree notes))
core_value changes script outputs notes is exported noted =
    let f3 : List Field = (codes "diagnostics", array_unless_empty (map note_tree notes)) ∷ [] in
    let m3 = notes_before notes (codes "}") [] noted (last_member 126) in
    let m2 = outputs_before outputs (notes_text notes ++ codes "}") f3 exported m3 in (
      m2.0,
      object_value (codes "changes") (codes "{\"changes\":") 126 (91 ∷ (entries_text changes script ++ codes "]")) (outputs_text outputs ++ (notes_text notes ++ codes "}"))
          (array (items_of (entry_trees changes script 0 changes))) ((codes "outputs", m2.0) ∷ f3) (changes_value changes script is) m2.1 (IsUtf8-are_ascii (codes "{\"changes\":") refl) first_changes,
    )

pub line_utf8 : (text : List ℕ) → IsUtf8 text → is_utf8 (text ++ 10 ∷ []) ≡ true
line_utf8 text utf8 = is_utf8-from_IsUtf8 (text ++ 10 ∷ []) (IsUtf8-append text (10 ∷ []) utf8 (IsUtf8-are_ascii (10 ∷ []) refl))

-- a value and its line feed are read as the value
pub line_value : (text : List ℕ) (j : json.Json) → text ≡ value_text j → HasNumbers j → depth j ≤ max_depth
    → option_and_then (λ p. json.if_last p.0 p.1) (json.value max_depth (tokens (text ++ 10 ∷ []))) ≡ Some j
line_value text j text_is numbers shallow =
    let ts = json_tokens j in
    let are : tokens (text ++ 10 ∷ []) ≡ ts ++ [] =
    ap (λ t. tokens (t ++ 10 ∷ [])) (text_is ∙ sym (verbatim_is j)) ∙ line_tokens ts (ArePrintable-json_tokens j numbers) ∙ sym (append-nil ts) in
    ap (λ o. option_and_then (λ p. json.if_last p.0 p.1) o) (ap (json.value max_depth) are ∙ value-json_tokens j max_depth [] shallow)

pub script_read : (changes : List ResourceChange) (script : OutcomeMap) (outputs : List Output) (notes : List Note)
    → IsWritable changes script → AllByRecursion IsWritableOutput outputs → AllByRecursion IsWritableNote notes
    → (tree : Option Data) × (mixed_tree_of is_verbatim_name (script_text changes script outputs notes) ≡ Some (object_with (script_fields changes script tree notes)))
script_read changes script outputs notes is exported noted =
    let value = core_value changes script outputs notes is exported noted in
    let text = core_text changes script outputs notes in
    let line = text ++ 10 ∷ [] in (
      value.0,
      ap (mixed_tree_of is_verbatim_name) (core_is changes script outputs notes)
          ∙ ap (λ (b : Bool). cond b (mixed_tree_of_text is_verbatim_name line) None) (line_utf8 text value.1.utf8)
          ∙ ap (option_and_then (mixed_tree is_verbatim_name)) (line_value text value.1.json value.1.text_is value.1.numbers value.1.shallow)
          ∙ value.1.tree_is,
    )
