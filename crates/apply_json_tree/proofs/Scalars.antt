-- Scalars, by their shallow view.
use Rattle.std.proofs.Common.{◌≡◌, ◌∙◌, ℕ, Bool, List, Some, refl, sym, ap, inl, inr}
use Rattle.std.specs.Prelude.{◌⊎◌}
use Rattle.serde_json.specs.Data.{Data, null, boolean, number, string, array, object, Num}
use Rattle.apply_json.specs.declared.shallow.Shallow.{Shallow}
use Rattle.apply_json.specs.declared.shallow.Shallow.TheVariants as shallow
use Rattle.apply_json.specs.ShallowView as s
use Rattle.apply_json.specs.ShallowView.{IsScalar, ShallowView, shallow_view, shallow_of}
use Rattle.apply_json_tree.specs.Trimmed.{Selection, trimmed}

-- the scalar with this shallow view
abbrev scalar_seen : ShallowView → Data
scalar_seen s.absent = null
scalar_seen (s.truth b) = boolean b
scalar_seen (s.number n) = number n
scalar_seen (s.text t) = string t
scalar_seen s.an_array = null
scalar_seen s.an_object = null

seen_scalar : (d : Data) → IsScalar d → scalar_seen (shallow_of (Some d)) ≡ d
seen_scalar null is = refl
seen_scalar (boolean b) is = refl
seen_scalar (number n) is = refl
seen_scalar (string t) is = refl
seen_scalar (array ds) is = absurd is
seen_scalar (object ms) is = absurd is

pub truth_is : (b : Bool) (d : Data) → IsScalar d → s.truth b ≡ shallow_of (Some d) → boolean b ≡ d
truth_is b d is same = ap scalar_seen same ∙ seen_scalar d is

pub number_is : (n : Num) (d : Data) → IsScalar d → s.number n ≡ shallow_of (Some d) → number n ≡ d
number_is n d is same = ap scalar_seen same ∙ seen_scalar d is

pub text_is : (t : List ℕ) (d : Data) → IsScalar d → s.text t ≡ shallow_of (Some d) → string t ≡ d
text_is t d is same = ap scalar_seen same ∙ seen_scalar d is

-- an array and an object are no scalars
no_items : {P : Type 0} (d : Data) → IsScalar d → s.an_array ≡ shallow_of (Some d) → P
no_items null is same = absurd cc
no_items (boolean b) is same = absurd cc
no_items (number n) is same = absurd cc
no_items (string t) is same = absurd cc
no_items (array ds) is same = absurd is
no_items (object ms) is same = absurd is

no_members : {P : Type 0} (d : Data) → IsScalar d → s.an_object ≡ shallow_of (Some d) → P
no_members null is same = absurd cc
no_members (boolean b) is same = absurd cc
no_members (number n) is same = absurd cc
no_members (string t) is same = absurd cc
no_members (array ds) is same = absurd is
no_members (object ms) is same = absurd is

pub none_is : (stored : Shallow) → (stored ≡ shallow.Absent) ⊎ ((stored ≡ shallow.Array) ⊎ (stored ≡ shallow.Object)) → (d : Data) → IsScalar d → shallow_view stored ≡ shallow_of (Some d) → null ≡ d
none_is stored (inl absent) d is same = ap scalar_seen (ap shallow_view (sym absent) ∙ same) ∙ seen_scalar d is
none_is stored (inr (inl a)) d is same = no_items d is (ap shallow_view (sym a) ∙ same)
none_is stored (inr (inr o)) d is same = no_members d is (ap shallow_view (sym o) ∙ same)

-- a scalar is its own trimmed tree
pub scalar_stays : {S : Type 0} (selection : Selection S) (shape : S) (d : Data) → IsScalar d → d ≡ trimmed selection shape d
scalar_stays selection shape null is = refl
scalar_stays selection shape (boolean b) is = refl
scalar_stays selection shape (number n) is = refl
scalar_stays selection shape (string t) is = refl
scalar_stays selection shape (array ds) is = absurd is
scalar_stays selection shape (object ms) is = absurd is
