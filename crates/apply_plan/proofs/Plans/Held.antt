-- An element, by the slots of its members.
use Rattle.std.proofs.Common.{◌≡◌, ℕ, List, [], codes, Option, Some, None, option_map, Result, Ok, refl, sym, ap, ◌∙◌}
use Rattle.serde_json.specs.Data.{Data, null, boolean, number, string, array, object, Items}
use Rattle.serde_json.specs.Find.{as_array, get_member}
use Rattle.apply_json.specs.ShallowView.{members_in, shallow_of}
use Rattle.apply_json.specs.Tree.{◌>>=◌, member_of, non_empty_text_of, text_of, text_or, unless_empty, unless_null}
use Rattle.apply_json.proofs.Held.{member_in, text_in, text_or_in}
use Rattle.apply_model.specs.declared.plan.key.Key.{Key}
use Rattle.apply_model.specs.declared.plan.mode.Mode.{Mode}
use Rattle.apply_model.specs.declared.plan.step_kind.StepKind.{StepKind}
use Rattle.apply_model.specs.Plan.Address.{relative_address}
use Rattle.apply_model.specs.Plan.ResourceChange.{ResourceChange}
use Rattle.apply_plan.specs.declared.plan.element_slots.ElementSlots.{ElementSlots}
use Rattle.apply_plan.specs.declared.plan.plan_error.PlanError.{PlanError}
use Rattle.apply_plan.specs.declared.plan.plan_error.PlanError.TheVariants.{BadActions, BadAddress, BadChange}
use Rattle.apply_plan.specs.Plan.Element.{Element, element_of, key_of, mode_named, planned_change_of, prior_id_of}
use Rattle.apply_plan.specs.Plan.ElementView.{ReadElement, with_steps}
use Rattle.apply_plan.specs.Plan.Members.{HoldsElement, change_member, element_read, key_read, planned_read}
use Rattle.apply_plan.specs.Plan.SavedPlan.{change_of, planned_at}
use Rattle.apply_plan.specs.Plan.Steps.{steps_of_actions}
use Rattle.apply_plan.specs.Results as results
use Rattle.apply_plan.specs.Results.{or_refuse}

key_is : (o : Option Data) → key_of (o >>= unless_null) ≡ key_read (shallow_of o)
key_is None = refl
key_is (Some null) = refl
key_is (Some (boolean b)) = refl
key_is (Some (number n)) = refl
key_is (Some (string t)) = refl
key_is (Some (array ds)) = refl
key_is (Some (object ms)) = refl

key_in : (d : Data) → key_of (member_of (codes "index") d) ≡ key_read (shallow_of (get_member (codes "index") (members_in d)))
key_in d = ap key_of (member_in (codes "index") d) ∙ key_is (get_member (codes "index") (members_in d))

abbrev ResolvedEntry : Type 0
ResolvedEntry = Option (List StepKind) × Option (List ℕ)

abbrev said_with : Option (List ℕ) → Option Data → Option ResolvedEntry
said_with prior list = list >>= λ list. (as_array list >>= λ actions. Some (steps_of_actions actions, prior))

abbrev outcomes_of : Data → Option ResolvedEntry
outcomes_of change = said_with (prior_id_of change) (member_of (codes "actions") change)

abbrev Planned : Type 0
Planned = Items × Option (List ℕ)

abbrev stepped : Planned → ResolvedEntry
stepped planned = (steps_of_actions planned.0, planned.1)

abbrev planned_with : Option Data → Option Planned
planned_with change = change >>= λ change. (member_of (codes "actions") change >>= λ list. (as_array list >>= λ actions. Some (actions, prior_id_of change)))

planned_is : (change : Option Data) → (change >>= outcomes_of) ≡ option_map stepped (planned_with change)
planned_is None = refl
planned_is (Some change) = through (member_of (codes "actions") change)
  where
    inner : (p : Option Items) → (p >>= λ actions. Some (steps_of_actions actions, prior_id_of change)) ≡ option_map stepped (p >>= λ actions. Some (actions, prior_id_of change))
    inner None = refl
    inner (Some actions) = refl

    through : (q : Option Data) → said_with (prior_id_of change) q ≡ option_map stepped (q >>= λ list. (as_array list >>= λ actions. Some (actions, prior_id_of change)))
    through None = refl
    through (Some list) = inner (as_array list)

planned_in : (d : Data) → change_member (get_member (codes "change") (members_in d)) ≡ option_map stepped (planned_change_of d)
planned_in d = planned_is (get_member (codes "change") (members_in d) >>= unless_null) ∙ ap (λ (o : Option Data). option_map stepped (planned_with o)) (sym (member_in (codes "change") d))

-- an element, from its members
abbrev with_mode : (address : List ℕ) (kind_name name module_address : Option (List ℕ)) (key : Option Key) (deposed : Option (List ℕ)) (planned : Option Planned) → Mode → Option Element
with_mode address kind_name name module_address key deposed planned mode =
    kind_name >>= λ kind_name. (name >>= λ name. (module_address >>= λ module_address. (key >>= λ key. (deposed >>= λ deposed. (planned >>= λ planned. Some (record {
      address = address;
      mode = mode;
      kind_name = kind_name;
      name = name;
      module_address = module_address;
      key = key;
      deposed = unless_empty deposed;
      actions = planned.0;
      prior_id = planned.1;
    }))))))

-- an element as it is read, from its members
abbrev found_with_mode : (address : List ℕ) (kind_name name module_address : Option (List ℕ)) (key : Option Key) (deposed : Option (List ℕ)) (outcomes : Option ResolvedEntry) → Mode → Option ReadElement
found_with_mode address kind_name name module_address key deposed outcomes mode =
    kind_name >>= λ kind_name. (name >>= λ name. (module_address >>= λ module_address. (key >>= λ key. (deposed >>= λ deposed. (outcomes >>= λ outcomes. Some (record {
      address = address;
      mode = mode;
      kind_name = kind_name;
      name = name;
      module_address = module_address;
      key = key;
      deposed = unless_empty deposed;
      steps = outcomes.0;
      prior_id = outcomes.1;
    }))))))

same_with_mode : (address : List ℕ) (kind_name name module_address : Option (List ℕ)) (key : Option Key) (deposed : Option (List ℕ)) (planned : Option Planned) (mode : Mode)
    → found_with_mode address kind_name name module_address key deposed (option_map stepped planned) mode ≡ option_map with_steps (with_mode address kind_name name module_address key deposed planned mode)
same_with_mode address None name module_address key deposed planned mode = refl
same_with_mode address (Some k) None module_address key deposed planned mode = refl
same_with_mode address (Some k) (Some n) None key deposed planned mode = refl
same_with_mode address (Some k) (Some n) (Some m) None deposed planned mode = refl
same_with_mode address (Some k) (Some n) (Some m) (Some i) None planned mode = refl
same_with_mode address (Some k) (Some n) (Some m) (Some i) (Some d) None mode = refl
same_with_mode address (Some k) (Some n) (Some m) (Some i) (Some d) (Some planned) mode = refl

behind : {A B C : Type 0} (see : B → C) (f : A → Option C) (g : A → Option B) → ((x : A) → f x ≡ option_map see (g x)) → (o : Option A) → (o >>= f) ≡ option_map see (o >>= g)
behind see f g same None = refl
behind see f g same (Some x) = same x

behind_word : {B C : Type 0} (see : B → C) (f : Mode → Option C) (g : Mode → Option B) → ((mode : Mode) → f mode ≡ option_map see (g mode)) → (o : Option (List ℕ))
    → ((o >>= mode_named) >>= f) ≡ option_map see (o >>= λ word. (mode_named word >>= g))
behind_word see f g same None = refl
behind_word see f g same (Some word) = behind see f g same (mode_named word)

same_from_members : (address word kind_name name module_address : Option (List ℕ)) (key : Option Key) (deposed : Option (List ℕ)) (planned : Option Planned)
    → (address >>= λ address. ((word >>= mode_named) >>= found_with_mode address kind_name name module_address key deposed (option_map stepped planned)))
    ≡ option_map with_steps (address >>= λ address. (word >>= λ word. (mode_named word >>= with_mode address kind_name name module_address key deposed planned)))
same_from_members address word kind_name name module_address key deposed planned =
    behind with_steps _ _ (λ address. behind_word with_steps _ _ (same_with_mode address kind_name name module_address key deposed planned) word) address

element_is : (slots : ElementSlots) (d : Data) → HoldsElement slots (members_in d) → element_read slots ≡ option_map with_steps (element_of d)
unfolding element_of
element_is slots d holds =
    rw (holds.address, holds.mode, holds.kind_name, holds.name, holds.module_address, holds.index, holds.deposed, holds.change, ← text_in (codes "address") d, ← text_in (codes "mode") d, ← text_in (codes "type") d, ← text_in (codes "name") d, ← text_or_in [] (codes "module_address") d, ← key_in d, ← text_or_in [] (codes "deposed") d, planned_in d)
    (same_from_members (text_of (codes "address") d) (text_of (codes "mode") d) (non_empty_text_of (codes "type") d) (non_empty_text_of (codes "name") d) (text_or [] (member_of (codes "module_address") d)) (key_of (member_of (codes "index") d)) (text_or [] (member_of (codes "deposed") d)) (planned_change_of d))

-- the change of an element, from its members
abbrev from_element : ℕ → Option Element → Result ResourceChange PlanError
from_element n e =
    results.◌>>=◌ (or_refuse (BadChange n) e) λ e. results.◌>>=◌ (or_refuse (BadActions n) (steps_of_actions e.actions)) λ steps. results.◌>>=◌ (or_refuse (BadAddress n) (relative_address e.module_address e.address)) λ relative. Ok (change_of e steps)

from_found : (n : ℕ) (e : Option Element) → planned_read n (option_map with_steps e) ≡ from_element n e
from_found n None = refl
from_found n (Some e) = refl

-- the change of an element, from its slots
pub described : (slots : ElementSlots) (n : ℕ) (d : Data) → HoldsElement slots (members_in d) → planned_read n (element_read slots) ≡ planned_at n d
unfolding planned_at
described slots n d holds = ap (planned_read n) (element_is slots d holds) ∙ from_found n (element_of d)
