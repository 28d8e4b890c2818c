-- The value that bytes are.
use Rattle.std.proofs.Common.{◌≡◌, ℕ, true, false, List, Some, None, refl, ⊎_elim}
use Rattle.std.specs.Prelude.{option_and_then}
use Rattle.std.specs.Str.{IsUtf8, is_utf8}
use Rattle.std.proofs.lemmas.Bool.{cases_Bool}
use Rattle.std.proofs.lemmas.Str.{IsUtf8-from_is_utf8, is_utf8-from_IsUtf8}
use Rattle.json.specs.Json.{Json}
use Rattle.serde_json.specs.Read.{of_json}
use Rattle.apply_json.specs.Tree.{tree_of}
use Rattle.apply_plan_terraform.specs.Texts.{json_of, json_of_text}

pub json_is : (bytes : List ℕ) (j : Json) → IsUtf8 bytes → json_of_text bytes ≡ Some j → json_of bytes ≡ Some j
json_is bytes j utf8 collected = rw (is_utf8-from_IsUtf8 bytes utf8) collected

pub no_json : (bytes : List ℕ) → (IsUtf8 bytes → json_of_text bytes ≡ None) → json_of bytes ≡ None
no_json bytes refused =
    ⊎_elim (λ (yes : is_utf8 bytes ≡ true). rw yes (refused (IsUtf8-from_is_utf8 bytes yes))) (λ (no : is_utf8 bytes ≡ false). rw no refl) (cases_Bool (is_utf8 bytes))

-- the tree of bytes is that of the value
pub tree_of_json : (bytes : List ℕ) → tree_of bytes ≡ option_and_then of_json (json_of bytes)
tree_of_json bytes = ⊎_elim (λ (yes : is_utf8 bytes ≡ true). rw yes refl) (λ (no : is_utf8 bytes ≡ false). rw no refl) (cases_Bool (is_utf8 bytes))
