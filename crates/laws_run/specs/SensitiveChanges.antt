-- Changes of resources that differ only in what no stream depends on: all values but ids that are
-- not sensitive.
use Rattle.std.specs.Prelude.{◌≡◌, ◌⊎◌, List, [], ◌∷◌, codes, ℕ, Bool, false, ◌||◌, Option, Some, None, ⊤}
use Rattle.json.specs.Json as json
use Rattle.laws_run.specs.LastMembers.{HaveAlike, HaveSame, is_true, last_of}

-- a member like `before_sensitive` hides the id: it is `true`, or an object whose `id` is `true`
abbrev pub hides_id : (sensitive : Option json.Json) → Bool
hides_id None = false
hides_id (Some sensitive) = is_true (Some sensitive) || is_true (last_of (codes "id") sensitive)

-- both values state the same about what is sensitive, and their `id` is the same unless it is hidden
abbrev pub IdsAgree : (values sensitive : List ℕ) → json.Json → json.Json → Type 0
IdsAgree values sensitive one other =
    HaveSame (sensitive ∷ []) one other
    × (hides_id (last_of sensitive one) ≡ false → HaveAlike values (HaveSame (codes "id" ∷ [])) one other)

-- two members `change` agree on what Terraform's form reads
abbrev pub ChangesAgree : json.Json → json.Json → Type 0
ChangesAgree one other =
    HaveSame (codes "actions" ∷ codes "importing" ∷ codes "generated_config" ∷ []) one other
    × IdsAgree (codes "before") (codes "before_sensitive") one other
    × IdsAgree (codes "after") (codes "after_sensitive") one other

-- two elements of `resource_changes` agree on what Terraform's form reads
abbrev pub ElementAgrees : json.Json → json.Json → Type 0
ElementAgrees one other =
    HaveSame
    (codes "address" ∷ codes "mode" ∷ codes "type" ∷ codes "name" ∷ codes "module_address" ∷ codes "index"
    ∷ codes "deposed" ∷ codes "action_reason" ∷ codes "previous_address" ∷ []) one other
    × HaveAlike (codes "change") ChangesAgree one other

-- two lists of elements agree, element by element
abbrev pub EachElementAgrees : json.Items → json.Items → Type 0
EachElementAgrees json.no_items json.no_items = ⊤
EachElementAgrees json.no_items (json.item other others) = ⊥
EachElementAgrees (json.item one ones) json.no_items = ⊥
EachElementAgrees (json.item one ones) (json.item other others) = ElementAgrees one other × EachElementAgrees ones others

-- two arrays of elements agree, or the two values are equal
abbrev pub ElementsAgree : json.Json → json.Json → Type 0
ElementsAgree one other =
    (one ≡ other)
    ⊎ ((ones : json.Items) × (others : json.Items)
    × (one ≡ json.array ones) × (other ≡ json.array others) × EachElementAgrees ones others)
