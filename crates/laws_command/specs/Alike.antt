-- Plans that differ only in values that nothing depends on, of the prior state and of drifts.
use Rattle.std.specs.Prelude.{◌≡◌, ℕ, List, [], ◌∷◌, Bool, false, codes, Option, Some, None, ⊤}
use Rattle.std.specs.List.{list_any}
use Rattle.std.specs.Str.{bytes_eq}
use Rattle.serde_json.specs.Data.{Data}
use Rattle.apply_json.specs.Tree.{◌>>=◌, member_of, non_empty_text_of}
use Rattle.apply_plan.specs.Plan.Element.{hides_id}
use Rattle.apply_plan_terraform.specs.Details as details
use Rattle.apply_prior.specs.Elements.{items_at}
use Rattle.apply_prior.specs.Objects.{placed_of}

-- ---- members

-- the two have the same members, but for those of these names
abbrev pub AgreeBut : List (List ℕ) → Data → Data → Type 0
AgreeBut names one other = (name : List ℕ) → list_any (bytes_eq name) names ≡ false → member_of name one ≡ member_of name other

-- the id in the member `values`
abbrev pub id_in : (values : List ℕ) → Data → Option (List ℕ)
id_in values d = member_of values d >>= λ d. non_empty_text_of (codes "id") d

-- the id in the member `values` is hidden by the member `sensitive` of both, or it is the same
pub record HaveSameId (hides : Option Data → Bool) (values sensitive : List ℕ) (one other : Data) : Type 0 where
  pub hidden : hides (member_of sensitive one) ≡ hides (member_of sensitive other)
  pub shown : hides (member_of sensitive one) ≡ false → id_in values one ≡ id_in values other

-- ---- elements

-- two elements of a prior state, which may differ in all `values` but an id that is not sensitive
pub record AreAlikeObjects (one other : Data) : Type 0 where
  pub members : AgreeBut (codes "values" ∷ codes "sensitive_values" ∷ []) one other
  pub id : HaveSameId hides_id (codes "values") (codes "sensitive_values") one other

-- two changes, which may differ so in all values before and after
pub record AreAlikeChanges (one other : Data) : Type 0 where
  pub members : AgreeBut (codes "before" ∷ codes "before_sensitive" ∷ codes "after" ∷ codes "after_sensitive" ∷ []) one other
  pub before : HaveSameId hides_id (codes "before") (codes "before_sensitive") one other
  pub after : HaveSameId details.hides_id (codes "after") (codes "after_sensitive") one other

-- both are there and alike, or neither is there
abbrev pub AreBoth : (Data → Data → Type 0) → Option Data → Option Data → Type 0
AreBoth R None None = ⊤
AreBoth R None (Some other) = ⊥
AreBoth R (Some one) None = ⊥
AreBoth R (Some one) (Some other) = R one other

-- two drifts
pub record AreAlikeDrifts (one other : Data) : Type 0 where
  pub members : AgreeBut (codes "change" ∷ []) one other
  pub change : AreBoth AreAlikeChanges (member_of (codes "change") one) (member_of (codes "change") other)

-- ---- plans

-- as many, each like the other one in its place
abbrev pub AreAllAlike : {X : Type 0} → (X → X → Type 0) → List X → List X → Type 0
AreAllAlike R [] [] = ⊤
AreAllAlike R [] (y ∷ ys) = ⊥
AreAllAlike R (x ∷ xs) [] = ⊥
AreAllAlike R (x ∷ xs) (y ∷ ys) = R x y × AreAllAlike R xs ys

-- two elements of a prior state in the same module
abbrev pub ArePlacedAlike : (one other : List ℕ × Data) → Type 0
ArePlacedAlike one other = (one.0 ≡ other.0) × AreAlikeObjects one.1 other.1

-- two plans
pub record AreAlike (one other : Data) : Type 0 where
  pub state : AreAllAlike ArePlacedAlike (placed_of one) (placed_of other)
  pub drifts : AreAllAlike AreAlikeDrifts (items_at (codes "resource_drift") one) (items_at (codes "resource_drift") other)
  pub outputs : member_of (codes "output_changes") one ≡ member_of (codes "output_changes") other
