-- A trimmed tree of a drift gives the same details.
use Rattle.std.proofs.Common.{◌≡◌, Bool, true, false, codes, Option, Some, None, option_map, refl, ap, ◌∙◌}
use Rattle.std.specs.Option.{option_map_or}
use Rattle.serde_json.specs.Data.{Data, null, boolean, number, string, array, object, Items, no_items, item}
use Rattle.serde_json.specs.Find.{as_array}
use Rattle.apply_json.specs.Tree.{◌>>=◌, member_of, non_empty_text_of}
use Rattle.apply_json_tree.specs.Trimmed.{trimmed, trimmed_items}
use Rattle.apply_json_tree.proofs.Trimmed.Lookups.{as_array_trimmed, as_bool_trimmed, bind_mapped, is_word_trimmed, member_trimmed, non_empty_text_trimmed}
use Rattle.apply_plan_terraform.specs.Details.{config_in, element_details, forgets_in, hides_id, imported_in, importing_of, is_flag, is_forgetting, planned_id_in, unless_other}
use Rattle.apply_prior.specs.declared.shape.PriorShape.{PriorShape}
use Rattle.apply_prior.specs.declared.shape.PriorShape.TheVariants as shape
use Rattle.apply_prior.specs.Selection.{prior_selection}

-- ---- actions

abbrev few_actions : Items → Items
few_actions = trimmed_items prior_selection shape.Scalar (Some 3)

still_forgetting : (actions : Items) → is_forgetting (few_actions actions) ≡ is_forgetting actions
still_forgetting no_items = refl
still_forgetting (item action no_items) = is_word_trimmed prior_selection shape.Scalar (codes "forget") action
still_forgetting (item first (item second no_items)) = refl
still_forgetting (item first (item second (item third others))) = refl

forgets_few : (actions : Option Items) → option_map_or is_forgetting (option_map few_actions actions) false ≡ option_map_or is_forgetting actions false
forgets_few None = refl
forgets_few (Some actions) = still_forgetting actions

few_listed : (o : Option Data) → (option_map (trimmed prior_selection shape.Actions) o >>= as_array) ≡ option_map few_actions (o >>= as_array)
few_listed None = refl
few_listed (Some list) = as_array_trimmed prior_selection shape.Actions list

same_forgets : (change : Option Data) → forgets_in (option_map (trimmed prior_selection shape.Change) change) ≡ forgets_in change
same_forgets None = refl
same_forgets (Some change) =
    let listed : (member_of (codes "actions") (trimmed prior_selection shape.Change change) >>= as_array) ≡ option_map few_actions (member_of (codes "actions") change >>= as_array) =
    ap (λ o. o >>= as_array) (member_trimmed prior_selection shape.Change shape.Actions (codes "actions") change refl) ∙ few_listed (member_of (codes "actions") change) in
    ap (λ o. option_map_or is_forgetting o false) listed ∙ forgets_few (member_of (codes "actions") change >>= as_array)

-- ---- what is imported

object_trimmed : (d : Data) → unless_other (trimmed prior_selection shape.WithId d) ≡ option_map (trimmed prior_selection shape.WithId) (unless_other d)
object_trimmed null = refl
object_trimmed (boolean b) = refl
object_trimmed (number n) = refl
object_trimmed (string s) = refl
object_trimmed (array ds) = refl
object_trimmed (object ms) = refl

object_read : (o : Option Data) → (option_map (trimmed prior_selection shape.WithId) o >>= unless_other) ≡ option_map (trimmed prior_selection shape.WithId) (o >>= unless_other)
object_read None = refl
object_read (Some d) = object_trimmed d

with_id : (o : Option Data) → importing_of (option_map (trimmed prior_selection shape.WithId) o) ≡ importing_of o
with_id None = refl
with_id (Some d) = rw (non_empty_text_trimmed prior_selection shape.WithId shape.Scalar (codes "id") d refl) refl

same_importing : (change : Option Data) → importing_of (imported_in (option_map (trimmed prior_selection shape.Change) change)) ≡ importing_of (imported_in change)
same_importing None = refl
same_importing (Some change) =
    ap (λ o. importing_of (o >>= unless_other)) (member_trimmed prior_selection shape.Change shape.WithId (codes "importing") change refl)
    ∙ ap importing_of (object_read (member_of (codes "importing") change))
    ∙ with_id (member_of (codes "importing") change >>= unless_other)

same_config : (change : Option Data) → config_in (option_map (trimmed prior_selection shape.Change) change) ≡ config_in change
same_config None = refl
same_config (Some change) = non_empty_text_trimmed prior_selection shape.Change shape.Scalar (codes "generated_config") change refl

-- ---- flags, and the id that they hide

same_flag : (shape : PriorShape) (wanted : Bool) (o : Option Data) → is_flag wanted (option_map (trimmed prior_selection shape) o) ≡ is_flag wanted o
same_flag shape wanted None = refl
same_flag shape wanted (Some d) = rw (as_bool_trimmed prior_selection shape d) refl

same_hiding : (o : Option Data) → hides_id (option_map (trimmed prior_selection shape.WithId) o) ≡ hides_id o
same_hiding None = refl
same_hiding (Some sensitive) =
    let inside : is_flag true (member_of (codes "id") (trimmed prior_selection shape.WithId sensitive)) ≡ is_flag true (member_of (codes "id") sensitive) =
    ap (is_flag true) (member_trimmed prior_selection shape.WithId shape.Scalar (codes "id") sensitive refl) ∙ same_flag shape.Scalar true (member_of (codes "id") sensitive) in
    rw (as_bool_trimmed prior_selection shape.WithId sensitive, inside) refl

same_planned_id : (change : Option Data) → planned_id_in (option_map (trimmed prior_selection shape.Change) change) ≡ planned_id_in change
same_planned_id None = refl
same_planned_id (Some change) =
    let hidden : hides_id (member_of (codes "after_sensitive") (trimmed prior_selection shape.Change change)) ≡ hides_id (member_of (codes "after_sensitive") change) =
    ap hides_id (member_trimmed prior_selection shape.Change shape.WithId (codes "after_sensitive") change refl) ∙ same_hiding (member_of (codes "after_sensitive") change) in
    let collected : (member_of (codes "after") (trimmed prior_selection shape.Change change) >>= λ after. non_empty_text_of (codes "id") after) ≡ (member_of (codes "after") change >>= λ after. non_empty_text_of (codes "id") after) =
    ap (λ o. o >>= λ after. non_empty_text_of (codes "id") after) (member_trimmed prior_selection shape.Change shape.WithId (codes "after") change refl)
    ∙ bind_mapped (trimmed prior_selection shape.WithId) _ _ (λ after. non_empty_text_trimmed prior_selection shape.WithId shape.Scalar (codes "id") after refl) (member_of (codes "after") change) in
    rw (hidden, collected) refl

-- ---- elements

pub same_details : (d : Data) → element_details (trimmed prior_selection shape.Drift d) ≡ element_details d
same_details d =
    rw (member_trimmed prior_selection shape.Drift shape.Change (codes "change") d refl, non_empty_text_trimmed prior_selection shape.Drift shape.Scalar (codes "action_reason") d refl, non_empty_text_trimmed prior_selection shape.Drift shape.Scalar (codes "previous_address") d refl, same_forgets (member_of (codes "change") d), same_importing (member_of (codes "change") d), same_config (member_of (codes "change") d), same_planned_id (member_of (codes "change") d))
    refl
