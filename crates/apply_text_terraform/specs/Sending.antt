-- Tokens that are appended to a JSON text, for private clauses.
use Rattle.std.specs.Prelude.{ℕ, List, [], ◌∷◌, ◌++◌, codes, Option, Some, None}
use Rattle.json.specs.Token.{Token, begin_object, end_object, key}
use Rattle.serde_json.specs.Data.{string}
use Rattle.apply_model.specs.declared.details.importing.Importing.{Importing}
use Rattle.apply_model.specs.declared.details.previous_resource.PreviousResource.{PreviousResource}
use Rattle.apply_text.specs.Sending.{member_tokens}
use Rattle.apply_text_terraform.specs.Objects.{previous_object}

-- a member whose value is a string; nothing where there is no text
abbrev pub text_tokens : (name : List ℕ) → Option (List ℕ) → List Token
text_tokens name None = []
text_tokens name (Some text) = member_tokens name (string text)

-- the member for the previous resource; nothing where the object was not moved
abbrev pub previous_tokens : Option PreviousResource → List Token
previous_tokens None = []
previous_tokens (Some previous) = member_tokens (codes "previous_resource") (previous_object previous)

abbrev pub importing_tokens : Option Importing → List Token
importing_tokens None = []
importing_tokens (Some importing) =
    key (codes "importing") ∷ begin_object ∷ (text_tokens (codes "id") importing.id ++ end_object ∷ [])
