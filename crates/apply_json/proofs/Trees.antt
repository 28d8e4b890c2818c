-- The tree of bytes, by the tree of their text.
use Rattle.std.proofs.Common.{◌≡◌, ◌≤◌, ℕ, suc, Bool, true, false, List, [], ◌∷◌, length, Some, None, refl, sym, ap, ◌∙◌, ⊎_elim}
use Rattle.std.specs.Str.{IsUtf8, is_utf8}
use Rattle.std.proofs.lemmas.Bool.{cases_Bool}
use Rattle.std.proofs.lemmas.Str.{IsUtf8-from_is_utf8, is_utf8-from_IsUtf8}
use Rattle.serde_json.specs.Data.{Data}
use Rattle.serde_json.specs.Events.{items_len}
use Rattle.serde_json.specs.Read.{read}
use Rattle.serde_json.specs.View.{items_view}
use Rattle.serde_json.specs.declared.value.Value.{Value}
use Rattle.apply_json.specs.Verbatim.{mixed_tree_of, mixed_tree_of_text}
use Rattle.apply_json.specs.declared.read_fault.ReadFault.{ReadFault}
use Rattle.apply_json.specs.declared.read_fault.ReadFault.TheVariants as fault
use Rattle.apply_json.specs.Parsed.{IsNoTree, json_fault_of}
use Rattle.apply_json.specs.Tree.{tree_of}

pub tree_is : (bytes : List ℕ) (tree : Data) → IsUtf8 bytes → read bytes ≡ Some tree → tree_of bytes ≡ Some tree
tree_is bytes tree utf8 found = rw (is_utf8-from_IsUtf8 bytes utf8) found

pub kept_tree_is : (is_verbatim : List ℕ → Bool) (bytes : List ℕ) (tree : Data) → IsUtf8 bytes → mixed_tree_of_text is_verbatim bytes ≡ Some tree → mixed_tree_of is_verbatim bytes ≡ Some tree
kept_tree_is is_verbatim bytes tree utf8 found = rw (is_utf8-from_IsUtf8 bytes utf8) found

pub no_tree : (bytes : List ℕ) → (IsUtf8 bytes → read bytes ≡ None) → tree_of bytes ≡ None
no_tree bytes refused =
    ⊎_elim (λ (yes : is_utf8 bytes ≡ true). rw yes (refused (IsUtf8-from_is_utf8 bytes yes))) (λ (no : is_utf8 bytes ≡ false). rw no refl) (cases_Bool (is_utf8 bytes))

-- bytes without a tree, by a text that was refused
pub no_tree_of_text : (most : ℕ) (why : ReadFault) (text bytes : List ℕ) → text ≡ bytes → length bytes ≤ most → (why ≡ fault.NotJson → read text ≡ None) → IsNoTree most (json_fault_of why) bytes
no_tree_of_text most fault.NotJson text bytes same few refused = (few, no_tree bytes (λ utf8. ap read (sym same) ∙ refused refl))
no_tree_of_text most fault.Memory text bytes same few refused = few

pub items_len-view : (values : List Value) → items_len (items_view values) ≡ length values
items_len-view [] = refl
items_len-view (value ∷ values) = ap suc (items_len-view values)
