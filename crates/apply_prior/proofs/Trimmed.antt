-- A trimmed tree of the plan says the same of the time before the apply.
use Rattle.std.proofs.Common.{◌≡◌, ℕ, zero, suc, List, [], ◌∷◌, ◌++◌, codes, map, Option, Some, None, option_map, filter_map, flat_map, refl, sym, ap, ap₂, ◌∙◌}
use Rattle.std.specs.List.{cons_option}
use Rattle.std.specs.Option.{option_map_or}
use Rattle.std.proofs.lemmas.List.Elements.{filter_map-append}
use Rattle.serde_json.specs.Data.{Data, null, boolean, number, string, array, object, Items, no_items, item, Members, no_members, member}
use Rattle.serde_json.specs.Find.{as_array, as_object, as_str}
use Rattle.apply_json.specs.Tree.{◌>>=◌, list_of, member_of, non_empty_text_of, text_or}
use Rattle.apply_json_tree.specs.Trimmed.{trimmed, trimmed_items, trimmed_members}
use Rattle.apply_json_tree.proofs.Trimmed.Lookups.{as_array_trimmed, as_bool_trimmed, bind_mapped, is_word_trimmed, member_trimmed, non_empty_text_trimmed, text_or_trimmed, text_trimmed, as_str_trimmed}
use Rattle.apply_model.specs.declared.details.change_details.ChangeDetails.{ChangeDetails}
use Rattle.apply_model.specs.Plan.ResourceChange.{ResourceChange}
use Rattle.apply_plan.specs.Plan.Element.{hides_id, is_true, key_of}
use Rattle.apply_prior.specs.declared.drift.Drift.{Drift}
use Rattle.apply_prior.specs.declared.shape.PriorShape.{PriorShape}
use Rattle.apply_prior.specs.declared.shape.PriorShape.TheVariants as shape
use Rattle.apply_prior.specs.Drifts.{drift_of, drifts_of, unless_still}
use Rattle.apply_prior.specs.Elements.{Names, action_listed, action_of, array_at, id_of, items_at, names_of}
use Rattle.apply_prior.specs.Objects.{ObjectOfPlan, max_modules, objects_of, objects_with, placed_child, placed_in, placed_object, root_module, state_object, vanished_object, with_objects}
use Rattle.apply_prior.specs.Outputs.{changes_of, output_of, outputs_in, planned_outputs_of}
use Rattle.apply_prior.specs.Prior.{prior_in}
use Rattle.apply_prior.specs.Selection.{prior_selection}
use Rattle.apply_prior.specs.Views.{drifted}
use Rattle.apply_prior.proofs.Drifted.{drifted_is, read}
use Rattle.apply_prior.proofs.TrimmedDetails.{same_details}

abbrev cut : PriorShape → Data → Data
cut = trimmed prior_selection

-- ---- arrays

abbrev all_items : PriorShape → Items → Items
all_items known = trimmed_items prior_selection known None

items_cut : (known : PriorShape) (ds : Items) → list_of (all_items known ds) ≡ map (cut known) (list_of ds)
items_cut known no_items = refl
items_cut known (item d ds) = ap (λ es. cut known d ∷ es) (items_cut known ds)

all_listed : (known : PriorShape) (o : Option Items) → option_map_or list_of (option_map (all_items known) o) [] ≡ map (cut known) (option_map_or list_of o [])
all_listed known None = refl
all_listed known (Some ds) = items_cut known ds

array_cut : (outer known : PriorShape) (k : List ℕ) (d : Data) → prior_selection.member_shape outer k ≡ Some known
    → array_at k (cut outer d) ≡ (option_map (cut known) (member_of k d) >>= as_array)
array_cut outer known k d looked = ap (λ o. o >>= as_array) (member_trimmed prior_selection outer known k d looked)

in_array : (known : PriorShape) (o : Option Data) → (option_map (cut known) o >>= as_array)
    ≡ option_map (trimmed_items prior_selection (prior_selection.item_shape known) (prior_selection.item_limit known)) (o >>= as_array)
in_array known None = refl
in_array known (Some d) = as_array_trimmed prior_selection known d

-- the items of an array of which all are read
items_same : (outer known : PriorShape) (k : List ℕ) (d : Data) → prior_selection.member_shape outer k ≡ Some known → prior_selection.item_limit known ≡ None
    → items_at k (cut outer d) ≡ map (cut (prior_selection.item_shape known)) (items_at k d)
items_same outer known k d looked all =
    ap (λ (o : Option Items). option_map_or list_of o [])
    (array_cut outer known k d looked ∙ in_array known (member_of k d) ∙ ap (λ limit. option_map (trimmed_items prior_selection (prior_selection.item_shape known) limit) (array_at k d)) all)
    ∙ all_listed (prior_selection.item_shape known) (array_at k d)

-- ---- actions, ids, names

words_same : (ds : Items) → action_listed (trimmed_items prior_selection shape.Scalar (Some 3) ds) ≡ action_listed ds
words_same no_items = refl
words_same (item a no_items) =
    rw (is_word_trimmed prior_selection shape.Scalar (codes "no-op") a, is_word_trimmed prior_selection shape.Scalar (codes "create") a, is_word_trimmed prior_selection shape.Scalar (codes "read") a, is_word_trimmed prior_selection shape.Scalar (codes "update") a, is_word_trimmed prior_selection shape.Scalar (codes "delete") a, is_word_trimmed prior_selection shape.Scalar (codes "forget") a)
    refl
words_same (item a (item b no_items)) =
    rw (is_word_trimmed prior_selection shape.Scalar (codes "delete") a, is_word_trimmed prior_selection shape.Scalar (codes "create") b, is_word_trimmed prior_selection shape.Scalar (codes "create") a, is_word_trimmed prior_selection shape.Scalar (codes "delete") b)
    refl
words_same (item a (item b (item c ds))) = refl

listed_same : (o : Option Items) → (option_map (trimmed_items prior_selection shape.Scalar (Some 3)) o >>= action_listed) ≡ (o >>= action_listed)
listed_same None = refl
listed_same (Some ds) = words_same ds

action_same : (outer : PriorShape) (d : Data) → prior_selection.member_shape outer (codes "actions") ≡ Some shape.Actions → action_of (cut outer d) ≡ action_of d
action_same outer d looked =
    ap (λ (o : Option Items). o >>= action_listed) (array_cut outer shape.Actions (codes "actions") d looked ∙ in_array shape.Actions (member_of (codes "actions") d))
    ∙ listed_same (array_at (codes "actions") d)

true_same : (known : PriorShape) (o : Option Data) → is_true (option_map (cut known) o) ≡ is_true o
true_same known None = refl
true_same known (Some d) = rw (as_bool_trimmed prior_selection known d) refl

hides_same : (o : Option Data) → hides_id (option_map (cut shape.WithId) o) ≡ hides_id o
hides_same None = refl
hides_same (Some d) =
    let inside : is_true (member_of (codes "id") (cut shape.WithId d)) ≡ is_true (member_of (codes "id") d) =
    ap is_true (member_trimmed prior_selection shape.WithId shape.Scalar (codes "id") d refl) ∙ true_same shape.Scalar (member_of (codes "id") d) in
    rw (as_bool_trimmed prior_selection shape.WithId d, inside) refl

value_same : (o : Option Data) → (option_map (cut shape.WithId) o >>= λ d. non_empty_text_of (codes "id") d) ≡ (o >>= λ d. non_empty_text_of (codes "id") d)
value_same o = bind_mapped (cut shape.WithId) _ _ (λ d. non_empty_text_trimmed prior_selection shape.WithId shape.Scalar (codes "id") d refl) o

id_same : (outer : PriorShape) (values sensitive : List ℕ) (d : Data) → prior_selection.member_shape outer values ≡ Some shape.WithId → prior_selection.member_shape outer sensitive ≡ Some shape.WithId
    → id_of (member_of values (cut outer d)) (member_of sensitive (cut outer d)) ≡ id_of (member_of values d) (member_of sensitive d)
id_same outer values sensitive d looked hidden =
    ap₂ id_of (member_trimmed prior_selection outer shape.WithId values d looked) (member_trimmed prior_selection outer shape.WithId sensitive d hidden)
    ∙ rw (hides_same (member_of sensitive d), value_same (member_of values d)) refl

key_same : (o : Option Data) → key_of (option_map (cut shape.Scalar) o) ≡ key_of o
key_same None = refl
key_same (Some null) = refl
key_same (Some (boolean b)) = refl
key_same (Some (number n)) = refl
key_same (Some (string s)) = refl
key_same (Some (array ds)) = refl
key_same (Some (object ms)) = refl

-- the shape has the members that name an object
record Named (outer : PriorShape) : Type 0 where
  address : prior_selection.member_shape outer (codes "address") ≡ Some shape.Scalar
  mode : prior_selection.member_shape outer (codes "mode") ≡ Some shape.Scalar
  kind_name : prior_selection.member_shape outer (codes "type") ≡ Some shape.Scalar
  name : prior_selection.member_shape outer (codes "name") ≡ Some shape.Scalar
  index : prior_selection.member_shape outer (codes "index") ≡ Some shape.Scalar

names_same : (outer : PriorShape) (d : Data) → Named outer → names_of (cut outer d) ≡ names_of d
names_same outer d named =
    let key : key_of (member_of (codes "index") (cut outer d)) ≡ key_of (member_of (codes "index") d) =
    ap key_of (member_trimmed prior_selection outer shape.Scalar (codes "index") d named.index) ∙ key_same (member_of (codes "index") d) in
    rw (text_trimmed prior_selection outer shape.Scalar (codes "address") d named.address, text_trimmed prior_selection outer shape.Scalar (codes "mode") d named.mode, non_empty_text_trimmed prior_selection outer shape.Scalar (codes "type") d named.kind_name, non_empty_text_trimmed prior_selection outer shape.Scalar (codes "name") d named.name, key)
    refl

-- ---- drifts

names_of_drift : Named shape.Drift
names_of_drift = record { address = refl; mode = refl; kind_name = refl; name = refl; index = refl }

same_bind : {A B : Type 0} (o : Option A) (f g : A → Option B) → ((x : A) → f x ≡ g x) → (o >>= f) ≡ (o >>= g)
same_bind None f g same = refl
same_bind (Some x) f g same = same x

change_same : (names : Names) (module_address deposed : List ℕ) (c : Data) → read names module_address deposed (cut shape.Change c) ≡ read names module_address deposed c
change_same names module_address deposed c = rw (action_same shape.Change c refl, id_same shape.Change (codes "before") (codes "before_sensitive") c refl refl) refl

drifted_same : (d : Data) → drifted (cut shape.Drift d) ≡ drifted d
drifted_same d =
    rw (names_same shape.Drift d names_of_drift, text_or_trimmed prior_selection shape.Drift shape.Scalar [] (codes "module_address") d refl, text_or_trimmed prior_selection shape.Drift shape.Scalar [] (codes "deposed") d refl, member_trimmed prior_selection shape.Drift shape.Change (codes "change") d refl)
    (same_bind (names_of d) _ _ λ names. same_bind (text_or [] (member_of (codes "module_address") d)) _ _ λ module_address. same_bind (text_or [] (member_of (codes "deposed") d)) _ _ λ deposed.
    bind_mapped (cut shape.Change) _ (read names module_address deposed) (change_same names module_address deposed) (member_of (codes "change") d))

drift_same : (d : Data) → drift_of (cut shape.Drift d) ≡ drift_of d
drift_same d =
    ap₂ (λ (o : Option ResourceChange) (details : ChangeDetails). o >>= λ change. unless_still change details) (drifted_is (cut shape.Drift d) ∙ drifted_same d ∙ sym (drifted_is d)) (same_details d)

kept_mapped : {X Y Z : Type 0} (f : Y → Option Z) (g : X → Y) (h : X → Option Z) → ((x : X) → f (g x) ≡ h x) → (xs : List X) → filter_map f (map g xs) ≡ filter_map h xs
kept_mapped f g h same [] = refl
kept_mapped f g h same (x ∷ xs) = ap₂ cons_option (same x) (kept_mapped f g h same xs)

drifts_same : (d : Data) → drifts_of (cut shape.Plan d) ≡ drifts_of d
drifts_same d =
    ap (filter_map drift_of) (items_same shape.Plan shape.Drifts (codes "resource_drift") d refl refl)
    ∙ kept_mapped drift_of (cut shape.Drift) drift_of drift_same (items_at (codes "resource_drift") d)

-- ---- objects

names_of_resource : Named shape.Resource
names_of_resource = record { address = refl; mode = refl; kind_name = refl; name = refl; index = refl }

object_same : (module_address : List ℕ) (d : Data) → state_object module_address (cut shape.Resource d) ≡ state_object module_address d
object_same module_address d =
    rw (names_same shape.Resource d names_of_resource, non_empty_text_trimmed prior_selection shape.Resource shape.Scalar (codes "deposed_key") d refl, id_same shape.Resource (codes "values") (codes "sensitive_values") d refl refl)
    refl

depends_same : (d : Data) → filter_map as_str (items_at (codes "depends_on") (cut shape.Resource d)) ≡ filter_map as_str (items_at (codes "depends_on") d)
depends_same d =
    ap (filter_map as_str) (items_same shape.Resource shape.Names (codes "depends_on") d refl refl)
    ∙ kept_mapped as_str (cut shape.Scalar) as_str (as_str_trimmed prior_selection shape.Scalar) (items_at (codes "depends_on") d)

module _ (drifts : List Drift) where
  abbrev kept : List (List ℕ × Data) → List ObjectOfPlan
  kept = filter_map (placed_object drifts)

  placed_same : (module_address : List ℕ) (d : Data) → placed_object drifts (module_address, cut shape.Resource d) ≡ placed_object drifts (module_address, d)
  placed_same module_address d = rw (object_same module_address d, depends_same d) refl

  elements_same : (module_address : List ℕ) (ds : List Data) → kept (map (λ e. (module_address, e)) (map (cut shape.Resource) ds)) ≡ kept (map (λ e. (module_address, e)) ds)
  elements_same module_address [] = refl
  elements_same module_address (d ∷ ds) = ap₂ cons_option (placed_same module_address d) (elements_same module_address ds)

  abbrev AreSame : ℕ → Type 0
  AreSame levels = (module_address : List ℕ) (d : Data) → kept (placed_in levels module_address (cut shape.Module d)) ≡ kept (placed_in levels module_address d)

  at_address : (levels : ℕ) → AreSame levels → (d : Data) (o : Option (List ℕ))
      → kept (option_map_or (λ address. placed_in levels address (cut shape.Module d)) o []) ≡ kept (option_map_or (λ address. placed_in levels address d) o [])
  at_address levels same d None = refl
  at_address levels same d (Some address) = same address d

  child_same : (levels : ℕ) → AreSame levels → (d : Data) → kept (placed_child levels (cut shape.Module d)) ≡ kept (placed_child levels d)
  child_same levels same d =
      ap (λ (o : Option (List ℕ)). kept (option_map_or (λ address. placed_in levels address (cut shape.Module d)) o [])) (non_empty_text_trimmed prior_selection shape.Module shape.Scalar (codes "address") d refl)
      ∙ at_address levels same d (non_empty_text_of (codes "address") d)

  children_same : (levels : ℕ) → AreSame levels → (ds : List Data) → kept (flat_map (placed_child levels) (map (cut shape.Module) ds)) ≡ kept (flat_map (placed_child levels) ds)
  children_same levels same [] = refl
  children_same levels same (d ∷ ds) =
      filter_map-append (placed_object drifts) (placed_child levels (cut shape.Module d)) (flat_map (placed_child levels) (map (cut shape.Module) ds))
      ∙ ap₂ (λ xs ys. xs ++ ys) (child_same levels same d) (children_same levels same ds)
      ∙ sym (filter_map-append (placed_object drifts) (placed_child levels d) (flat_map (placed_child levels) ds))

  module_same : (levels : ℕ) → AreSame levels
  unfolding placed_in
  module_same zero module_address d = refl
  module_same (suc levels) module_address d =
      filter_map-append (placed_object drifts) (map (λ e. (module_address, e)) (items_at (codes "resources") (cut shape.Module d))) (flat_map (placed_child levels) (items_at (codes "child_modules") (cut shape.Module d)))
      ∙ ap₂ (λ xs ys. xs ++ ys)
      (ap (λ ds. kept (map (λ e. (module_address, e)) ds)) (items_same shape.Module shape.Resources (codes "resources") d refl refl) ∙ elements_same module_address (items_at (codes "resources") d))
      (ap (λ ds. kept (flat_map (placed_child levels) ds)) (items_same shape.Module shape.Modules (codes "child_modules") d refl refl) ∙ children_same levels (module_same levels) (items_at (codes "child_modules") d))
      ∙ sym (filter_map-append (placed_object drifts) (map (λ e. (module_address, e)) (items_at (codes "resources") d)) (flat_map (placed_child levels) (items_at (codes "child_modules") d)))

  root_same : (o : Option Data) → kept (option_map_or (placed_in max_modules []) (option_map (cut shape.Module) o) []) ≡ kept (option_map_or (placed_in max_modules []) o [])
  root_same None = refl
  root_same (Some d) = module_same max_modules [] d

root_in_values : (o : Option Data) → (option_map (cut shape.Values) o >>= λ v. member_of (codes "root_module") v) ≡ option_map (cut shape.Module) (o >>= λ v. member_of (codes "root_module") v)
root_in_values None = refl
root_in_values (Some d) = member_trimmed prior_selection shape.Values shape.Module (codes "root_module") d refl

root_in_state : (o : Option Data) → (option_map (cut shape.State) o >>= λ s. (member_of (codes "values") s >>= λ v. member_of (codes "root_module") v))
    ≡ option_map (cut shape.Module) (o >>= λ s. (member_of (codes "values") s >>= λ v. member_of (codes "root_module") v))
root_in_state None = refl
root_in_state (Some d) =
    ap (λ (o : Option Data). o >>= λ v. member_of (codes "root_module") v) (member_trimmed prior_selection shape.State shape.Values (codes "values") d refl)
    ∙ root_in_values (member_of (codes "values") d)

root_is : (d : Data) → root_module (cut shape.Plan d) ≡ option_map (cut shape.Module) (root_module d)
root_is d =
    ap (λ (o : Option Data). o >>= λ s. (member_of (codes "values") s >>= λ v. member_of (codes "root_module") v)) (member_trimmed prior_selection shape.Plan shape.State (codes "prior_state") d refl)
    ∙ root_in_state (member_of (codes "prior_state") d)

found_same : (drifts : List Drift) (d : Data) → objects_with drifts (cut shape.Plan d) ≡ objects_with drifts d
found_same drifts d =
    ap (λ objects. with_objects (with_objects [] objects) (filter_map (vanished_object drifts) drifts))
    (ap (λ (o : Option Data). kept drifts (option_map_or (placed_in max_modules []) o [])) (root_is d) ∙ root_same drifts (root_module d))

objects_same : (d : Data) → objects_of (cut shape.Plan d) ≡ objects_of d
objects_same d = found_same (drifts_of (cut shape.Plan d)) d ∙ ap (λ drifts. objects_with drifts d) (drifts_same d)

-- ---- outputs

object_cut : (known : PriorShape) (o : Option Data) → (option_map (cut known) o >>= as_object) ≡ option_map (trimmed_members prior_selection known) (o >>= as_object)
object_cut known None = refl
object_cut known (Some null) = refl
object_cut known (Some (boolean b)) = refl
object_cut known (Some (number n)) = refl
object_cut known (Some (string s)) = refl
object_cut known (Some (array ds)) = refl
object_cut known (Some (object ms)) = refl

output_same : (name : List ℕ) (d : Data) → output_of name (cut shape.Output d) ≡ output_of name d
output_same name d =
    let sensitive : is_true (member_of (codes "after_sensitive") (cut shape.Output d)) ≡ is_true (member_of (codes "after_sensitive") d) =
    ap is_true (member_trimmed prior_selection shape.Output shape.Scalar (codes "after_sensitive") d refl) ∙ true_same shape.Scalar (member_of (codes "after_sensitive") d) in
    rw (action_same shape.Output d refl, sensitive) refl

each_output_same : (ms : Members) → outputs_in (trimmed_members prior_selection shape.Outputs ms) ≡ outputs_in ms
each_output_same no_members = refl
each_output_same (member name d ms) = ap₂ cons_option (output_same name d) (each_output_same ms)

outputs_same_in : (o : Option Members) → option_map_or outputs_in (option_map (trimmed_members prior_selection shape.Outputs) o) [] ≡ option_map_or outputs_in o []
outputs_same_in None = refl
outputs_same_in (Some ms) = each_output_same ms

outputs_same : (d : Data) → planned_outputs_of (cut shape.Plan d) ≡ planned_outputs_of d
outputs_same d =
    ap (λ (o : Option Members). option_map_or outputs_in o [])
    (ap (λ (o : Option Data). o >>= as_object) (member_trimmed prior_selection shape.Plan shape.Outputs (codes "output_changes") d refl) ∙ object_cut shape.Outputs (member_of (codes "output_changes") d))
    ∙ outputs_same_in (changes_of d)

pub same_prior : (d : Data) → prior_in (cut shape.Plan d) ≡ prior_in d
same_prior d = rw (objects_same d, drifts_same d, outputs_same d) refl
