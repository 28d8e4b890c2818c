-- The texts of planned changes that only Terraform's form contains are UTF-8.
use Rattle.std.proofs.Common.{List, [], ◌∷◌, codes, cond, map, IsUtf8, Bool, true, false, Option, Some, None}
use Rattle.std.specs.Prelude.{IfSome}
use Rattle.std.specs.List.{AllByRecursion}
use Rattle.std.specs.Option.{option_map_or}
use Rattle.serde_json.specs.Data.{Data, null, boolean, number, string, array, object, Items}
use Rattle.serde_json.specs.Find.{as_array}
use Rattle.apply_json.specs.Tree.{◌>>=◌, list_of, member_of, non_empty_text_of}
use Rattle.apply_model.specs.declared.details.importing.Importing.{Importing}
use Rattle.apply_plan_terraform.specs.Changes.{array_in, changes_of, elements_of}
use Rattle.apply_plan_terraform.specs.Details.{config_in, element_details, hides_id, imported_in, importing_of, planned_id_in, previous_at, previous_of, unless_other}
use Rattle.laws_check.specs.ReadBackInForm.{HasDetailTexts, HasPreviousTexts}
use Rattle.laws_check.proofs.Given.{next_of}
use Rattle.laws_check.proofs.Legible.{AreLegible, IsLegible}
use Rattle.laws_check.proofs.LookUps.{array_legible, list_legible, member_legible, non_empty_utf8}
use Rattle.laws_check.proofs.PreviousTexts.{previous_has_texts}

-- ---- what is imported

other_legible : (d : Data) → IsLegible d → IfSome (unless_other d) IsLegible
other_legible null h = tt
other_legible (boolean b) h = tt
other_legible (number n) h = tt
other_legible (string s) h = tt
other_legible (array ds) h = tt
other_legible (object ms) h = h

imported_legible : (change : Option Data) → IfSome change IsLegible → IfSome (imported_in change) IsLegible
imported_legible None h = tt
imported_legible (Some change) h = next_of IsLegible IsLegible (member_of (codes "importing") change) unless_other (member_legible (codes "importing") change h) other_legible

importing_texts : (imported : Option Data) → IfSome imported IsLegible → IfSome (importing_of imported) (λ (importing : Importing). IfSome importing.id IsUtf8)
importing_texts None h = tt
importing_texts (Some d) h = non_empty_utf8 (codes "id") d h

-- ---- the other members

config_utf8 : (change : Option Data) → IfSome change IsLegible → IfSome (config_in change) IsUtf8
config_utf8 None h = tt
config_utf8 (Some change) h = non_empty_utf8 (codes "generated_config") change h

planned_id_utf8 : (change : Option Data) → IfSome change IsLegible → IfSome (planned_id_in change) IsUtf8
planned_id_utf8 None h = tt
planned_id_utf8 (Some change) h = of_test (hides_id (member_of (codes "after_sensitive") change))
  where
    of_test : (b : Bool) → IfSome (cond b None (member_of (codes "after") change >>= λ after. non_empty_text_of (codes "id") after)) IsUtf8
    of_test true = tt
    of_test false = next_of IsLegible IsUtf8 (member_of (codes "after") change) (λ after. non_empty_text_of (codes "id") after) (member_legible (codes "after") change h) (non_empty_utf8 (codes "id"))

previous_texts : (d : Data) → IsLegible d → IfSome (previous_of d) HasPreviousTexts
previous_texts d h = next_of IsUtf8 HasPreviousTexts (non_empty_text_of (codes "previous_address") d) previous_at (non_empty_utf8 (codes "previous_address") d h) previous_has_texts

pub element_texts : (d : Data) → IsLegible d → HasDetailTexts (element_details d)
element_texts d h =
    let change = member_legible (codes "change") d h in
    let located = member_of (codes "change") d in
    record {
      importing = importing_texts (imported_in located) (imported_legible located change);
      generated_config = config_utf8 located change;
      planned_id = planned_id_utf8 located change;
      previous = previous_texts d h;
    }

-- ---- all elements

each_element : (ds : List Data) → AllByRecursion IsLegible ds → AllByRecursion HasDetailTexts (map element_details ds)
each_element [] h = tt
each_element (d ∷ ds) h = (element_texts d h.0, each_element ds h.1)

pub elements_legible : (located : Option Items) → IfSome located AreLegible → AllByRecursion IsLegible (option_map_or list_of located [])
elements_legible None h = tt
elements_legible (Some ds) h = list_legible ds h

pub details_have_texts : (plan : Data) → IsLegible plan → AllByRecursion HasDetailTexts (changes_of plan)
details_have_texts plan h =
    each_element (elements_of plan)
    (elements_legible (array_in plan) (next_of IsLegible AreLegible (member_of (codes "resource_changes") plan) as_array (member_legible (codes "resource_changes") plan h) array_legible))
