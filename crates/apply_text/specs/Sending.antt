-- Tokens that are appended to a JSON text, for private clauses.
use Rattle.std.specs.Prelude.{◌≡◌, ℕ, List, [], ◌∷◌, ◌++◌, codes, OnOk, Option, Some, None, Result}
use Rattle.json.specs.Token.{Token, begin_object, key}
use Rattle.json.specs.Tree.{json_tokens}
use Rattle.json.specs.Written.{Written}
use Rattle.serde_json.specs.Data.{Data, number, string, unsigned}
use Rattle.serde_json.specs.Written.{outline}
use Rattle.apply_text.specs.Lines.{message_object, typed}
use Rattle.apply_text.specs.Message.{Message}

-- the tokens of a member
abbrev pub member_tokens : (name : List ℕ) → Data → List Token
member_tokens name d = key name ∷ json_tokens (outline d)

-- on success all tokens are appended; when memory is refused some may be; earlier bytes of the
-- buffer always stay
pub record Sends {E : Type 0} (r : Result (Unit {0}) E) (old new : Written) (tokens : List Token) : Type 0 where
  pub ok : OnOk r (new.tokens ≡ old.tokens ++ tokens)
  pub before : new.before ≡ old.before

abbrev pub elapsed_tokens : Option ℕ → List Token
elapsed_tokens None = []
elapsed_tokens (Some seconds) = member_tokens (codes "elapsed_seconds") (number (unsigned seconds))

abbrev pub id_tokens : Option (List ℕ) → List Token
id_tokens None = []
id_tokens (Some id) =
    member_tokens (codes "id_key") (string (codes "id")) ++ member_tokens (codes "id_value") (string id)

abbrev pub output_tokens : Option (List ℕ) → List Token
output_tokens None = []
output_tokens (Some output) = member_tokens (codes "output") (string output)

-- the tokens of the members that every message has
abbrev pub head_tokens : (level text timestamp : List ℕ) → List Token
head_tokens level text timestamp =
    begin_object ∷ []
    ++ member_tokens (codes "@level") (string level)
    ++ member_tokens (codes "@message") (string text)
    ++ member_tokens (codes "@module") (string (codes "terraform.ui"))
    ++ member_tokens (codes "@timestamp") (string timestamp)

-- the tokens of an object
abbrev pub data_tokens : Data → List Token
data_tokens d = json_tokens (outline d)

-- the tokens of a whole message
abbrev pub message_tokens : (timestamp : List ℕ) → Message → List Token
message_tokens timestamp message =
    data_tokens (message_object message.level message.text timestamp
    (typed message.name message.body message.type_name))
