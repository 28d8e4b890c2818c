-- Members of a JSON object. Of several members with the same name the last one counts.
use Rattle.std.specs.Prelude.{◌≡◌, ℕ, List, Bool, false, if◌then◌else◌, Option, Some, None}
use Rattle.std.specs.List.{AllByRecursion}
use Rattle.std.specs.Str.{bytes_eq}
use Rattle.json.specs.Json as json
use Rattle.laws_run.specs.Plans.{AreAlike}

-- the value of the last member of that name; `located` if there is none
abbrev pub last_in : (name : List ℕ) → json.Members → (located : Option json.Json) → Option json.Json
last_in name json.no_members located = located
last_in name (json.member key value rest) located = last_in name rest (if bytes_eq key name then Some value else located)

-- the value of the last member of that name; none in a value that is no object
abbrev pub last_of : (name : List ℕ) → json.Json → Option json.Json
last_of name json.null = None
last_of name (json.boolean b) = None
last_of name (json.number s) = None
last_of name (json.string s) = None
last_of name (json.array js) = None
last_of name (json.object ms) = last_in name ms None

-- two values have the same members of these names
abbrev pub HaveSame : List (List ℕ) → json.Json → json.Json → Type 0
HaveSame names one other = AllByRecursion (λ name. last_of name one ≡ last_of name other) names

-- both values have a member of that name and the two are alike, or neither value has one
abbrev pub HaveAlike : List ℕ → (json.Json → json.Json → Type 0) → json.Json → json.Json → Type 0
HaveAlike name Alike one other = AreAlike Alike (last_of name one) (last_of name other)

-- the value is `true`
abbrev pub is_true : Option json.Json → Bool
is_true None = false
is_true (Some json.null) = false
is_true (Some (json.boolean b)) = b
is_true (Some (json.number s)) = false
is_true (Some (json.string s)) = false
is_true (Some (json.array js)) = false
is_true (Some (json.object ms)) = false
