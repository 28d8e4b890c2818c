-- What holds of every plan that was read, and plans that are read alike.
use Rattle.std.specs.Prelude.{◌≡◌, ◌≢◌, ℕ, List, [], ◌∷◌, ◌++◌, codes, Option, Some, None, ⊤}
use Rattle.std.specs.List.{AllByRecursion}
use Rattle.serde_json.specs.Data.{Data, Items, no_items, item}
use Rattle.serde_json.specs.Find.{as_array}
use Rattle.apply_model.specs.Plan.ResourceChange.{ResourceChange, resource_of}
use Rattle.apply_json.specs.Tree.{member_of}

-- no change has the address and the deposed key of an earlier change
abbrev pub NamesEachObjectOnce : List ResourceChange → Type 0
NamesEachObjectOnce [] = ⊤
NamesEachObjectOnce (change ∷ later) =
    AllByRecursion (λ other. ¬ ((other.address ≡ change.address) × (other.deposed ≡ change.deposed))) later
    × NamesEachObjectOnce later

-- the address is the module's address, a dot and the relative address; in the root module it is the
-- relative address
abbrev pub IsJoined : (module_address relative address : List ℕ) → Type 0
IsJoined [] relative address = address ≡ relative
IsJoined (byte ∷ bytes) relative address = address ≡ (byte ∷ bytes) ++ (codes "." ++ relative)

-- the relative address of a change is not empty, and the module's address joins it to the change's
-- address
abbrev pub HasRelativeAddress : ResourceChange → Type 0
HasRelativeAddress change =
    (resource_of change ≢ []) × IsJoined change.module_address (resource_of change) change.address

-- ---- values that are alike in all that is read of them

-- two values have the same members of these names
abbrev pub AgreeOn : List (List ℕ) → Data → Data → Type 0
AgreeOn names one other = AllByRecursion (λ name. member_of name one ≡ member_of name other) names

-- both are present and alike, or neither is present
abbrev pub AreAlike : {X : Type 0} → (X → X → Type 0) → Option X → Option X → Type 0
AreAlike Alike None None = ⊤
AreAlike Alike None (Some other) = ⊥
AreAlike Alike (Some one) None = ⊥
AreAlike Alike (Some one) (Some other) = Alike one other

-- the members of that name are alike
abbrev pub AgreeWithin : List ℕ → (Data → Data → Type 0) → Data → Data → Type 0
AgreeWithin name Alike one other = AreAlike Alike (member_of name one) (member_of name other)

-- two members `change` agree on what is read of them
abbrev pub ChangesAgree : Data → Data → Type 0
ChangesAgree one other =
    AgreeOn (codes "actions" ∷ codes "before_sensitive" ∷ []) one other
    × AgreeWithin (codes "before") (AgreeOn (codes "id" ∷ [])) one other

-- two elements of `resource_changes` agree on what is read of them
abbrev pub ElementAgrees : Data → Data → Type 0
ElementAgrees one other =
    AgreeOn
    (codes "address" ∷ codes "mode" ∷ codes "type" ∷ codes "name" ∷ codes "module_address" ∷ codes "index"
    ∷ codes "deposed" ∷ []) one other
    × AgreeWithin (codes "change") ChangesAgree one other

-- two lists of elements agree, element by element
abbrev pub ElementsAgree : Items → Items → Type 0
ElementsAgree no_items no_items = ⊤
ElementsAgree no_items (item d ds) = ⊥
ElementsAgree (item d ds) no_items = ⊥
ElementsAgree (item one ones) (item other others) = ElementAgrees one other × ElementsAgree ones others

-- two arrays of elements agree, or neither value is an array
abbrev pub ArraysAgree : Data → Data → Type 0
ArraysAgree one other = AreAlike ElementsAgree (as_array one) (as_array other)

-- two plans agree on what is read of them
abbrev pub PlansAgree : Data → Data → Type 0
PlansAgree one other =
    AgreeOn (codes "format_version" ∷ codes "terraform_version" ∷ []) one other
    × AgreeWithin (codes "resource_changes") ArraysAgree one other
