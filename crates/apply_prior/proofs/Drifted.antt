-- Drifts, member by member in the order in which they are read.
use Rattle.std.proofs.Common.{◌≡◌, ℕ, List, codes, Bool, true, false, [], Option, Some, None, option_map, if◌then◌else◌, refl, sym, ap, ◌∙◌}
use Rattle.std.specs.Prelude.{◌&&◌}
use Rattle.serde_json.specs.Data.{Data, Items, no_items, item}
use Rattle.serde_json.specs.Find.{as_array}
use Rattle.apply_json.specs.Tree.{◌>>=◌, is_word, member_of, non_empty_text_of, text_of, text_or, unless_empty}
use Rattle.apply_model.specs.declared.details.change_details.ChangeDetails.{ChangeDetails}
use Rattle.apply_model.specs.declared.plan.action.Action.{Action}
use Rattle.apply_model.specs.declared.plan.key.Key.{Key}
use Rattle.apply_model.specs.declared.plan.mode.Mode.{Mode}
use Rattle.apply_model.specs.declared.plan.step_kind.StepKind.{StepKind}
use Rattle.apply_model.specs.Plan.Action.{steps_of_action}
use Rattle.apply_model.specs.Plan.Address.{relative_address}
use Rattle.apply_model.specs.Plan.ResourceChange.{ResourceChange}
use Rattle.apply_plan.specs.Plan.Element.{Element, element_of, key_of, mode_named, prior_id_of}
use Rattle.apply_plan.specs.Plan.SavedPlan.{change_of}
use Rattle.apply_plan.specs.Plan.Steps.{steps_alone, steps_of_actions, steps_together}
use Rattle.apply_plan_terraform.specs.Details.{element_details}
use Rattle.apply_prior.specs.declared.drift.Drift.{Drift}
use Rattle.apply_prior.specs.Drifts.{drift_of, drifted_of, is_still, unless_still}
use Rattle.apply_prior.specs.Elements.{Names, action_alone, action_listed, action_of, action_together, id_of, in_its_module}
use Rattle.apply_prior.specs.Views.{drifted}

-- ---- actions and their steps

abbrev steps_in : Option Action → Option (List StepKind)
steps_in = option_map steps_of_action

chosen : (b : Bool) (x y : Option Action) (s t : Option (List StepKind)) → steps_in x ≡ s → steps_in y ≡ t → steps_in (if b then x else y) ≡ (if b then s else t)
chosen true x y s t first second = first
chosen false x y s t first second = second

alone : (d : Data) → steps_in (action_alone d) ≡ steps_alone d
alone d =
    chosen (is_word (codes "no-op") d) _ _ _ _ refl (chosen (is_word (codes "create") d) _ _ _ _ refl (chosen (is_word (codes "read") d) _ _ _ _ refl
    (chosen (is_word (codes "update") d) _ _ _ _ refl (chosen (is_word (codes "delete") d) _ _ _ _ refl (chosen (is_word (codes "forget") d) _ _ _ _ refl refl)))))

together : (d e : Data) → steps_in (action_together d e) ≡ steps_together d e
together d e = chosen (is_word (codes "delete") d && is_word (codes "create") e) _ _ _ _ refl (chosen (is_word (codes "create") d && is_word (codes "delete") e) _ _ _ _ refl refl)

listed_steps : (words : Items) → steps_in (action_listed words) ≡ steps_of_actions words
listed_steps no_items = refl
listed_steps (item word no_items) = alone word
listed_steps (item first (item second no_items)) = together first second
listed_steps (item first (item second (item third others))) = refl

mapped : {B : Type 0} (o : Option Action) (f : List StepKind → Option B) → (steps_in o >>= f) ≡ (o >>= λ action. f (steps_of_action action))
mapped None f = refl
mapped (Some action) f = refl

-- ---- an element, member by member

bind_both : {A B C D : Type 0} (o : Option A) (f : A → Option B) (h : B → Option D) (g : A → Option C) (k : C → Option D) → ((x : A) → (f x >>= h) ≡ (g x >>= k)) → ((o >>= f) >>= h) ≡ ((o >>= g) >>= k)
bind_both None f h g k same = refl
bind_both (Some x) f h g k same = same x

abbrev finished : Element → Option ResourceChange
finished e = steps_of_actions e.actions >>= λ steps. (relative_address e.module_address e.address >>= λ relative. Some (change_of e steps))

abbrev planned_in : Data → Option (Items × Option (List ℕ))
planned_in c = member_of (codes "actions") c >>= λ list. (as_array list >>= λ actions. Some (actions, prior_id_of c))

abbrev pub read : Names → (module_address deposed : List ℕ) → Data → Option ResourceChange
read names module_address deposed c =
    action_of c >>= λ action. in_its_module (record {
      address = names.address;
      module_address = module_address;
      mode = names.mode;
      kind_name = names.kind_name;
      name = names.name;
      key = names.key;
      deposed = unless_empty deposed;
      prior_id = id_of (member_of (codes "before") c) (member_of (codes "before_sensitive") c);
      steps = steps_of_action action;
    })

abbrev placed : Names → (m deposed : Option (List ℕ)) → (change : Option Data) → Option ResourceChange
placed names m deposed change = m >>= λ module_address. (deposed >>= λ text. (change >>= λ c. read names module_address text c))

module _ (address : List ℕ) (mode : Mode) (kind_name name : List ℕ) where
  abbrev element : List ℕ → Key → List ℕ → Items × Option (List ℕ) → Element
  element module_address key deposed planned = record {
    address = address;
    mode = mode;
    kind_name = kind_name;
    name = name;
    module_address = module_address;
    key = key;
    deposed = unless_empty deposed;
    actions = planned.0;
    prior_id = planned.1;
  }

  abbrev names : Key → Names
  names key = record { address = address; mode = mode; kind_name = kind_name; name = name; key = key }

  acts_at : (module_address deposed : List ℕ) (key : Key) (c : Data) (o : Option Items) → (((o >>= λ actions. Some (actions, prior_id_of c)) >>= λ planned. Some (element module_address key deposed planned)) >>= finished)
      ≡ ((o >>= action_listed) >>= λ action. in_its_module (change_of (element module_address key deposed (no_items, prior_id_of c)) (steps_of_action action)))
  acts_at module_address deposed key c None = refl
  acts_at module_address deposed key c (Some actions) =
      ap (λ o. o >>= λ steps. (relative_address module_address address >>= λ relative. Some (change_of (element module_address key deposed (no_items, prior_id_of c)) steps))) (sym (listed_steps actions))
      ∙ mapped (action_listed actions) _

  acts_of : (module_address deposed : List ℕ) (key : Key) (c : Data) (o : Option Data) → (((o >>= λ list. (as_array list >>= λ actions. Some (actions, prior_id_of c))) >>= λ planned. Some (element module_address key deposed planned)) >>= finished)
      ≡ (((o >>= as_array) >>= action_listed) >>= λ action. in_its_module (change_of (element module_address key deposed (no_items, prior_id_of c)) (steps_of_action action)))
  acts_of module_address deposed key c None = refl
  acts_of module_address deposed key c (Some list) = acts_at module_address deposed key c (as_array list)

  tail : (m : Option (List ℕ)) (key : Option Key) (deposed : Option (List ℕ)) (change : Option Data)
      → ((m >>= λ module_address. (key >>= λ k. (deposed >>= λ text. ((change >>= planned_in) >>= λ planned. Some (element module_address k text planned))))) >>= finished)
      ≡ ((key >>= λ k. Some (names k)) >>= λ n. placed n m deposed change)
  tail None None deposed change = refl
  tail None (Some k) deposed change = refl
  tail (Some m) None deposed change = refl
  tail (Some m) (Some k) None change = refl
  tail (Some m) (Some k) (Some text) None = refl
  tail (Some m) (Some k) (Some text) (Some c) = acts_of m text k c (member_of (codes "actions") c)

pub drifted_is : (d : Data) → drifted_of d ≡ drifted d
unfolding element_of
drifted_is d =
    bind_both (text_of (codes "address") d) _ _ _ _ λ address.
    bind_both (text_of (codes "mode") d) _ _ _ _ λ word.
    bind_both (mode_named word) _ _ _ _ λ mode.
    bind_both (non_empty_text_of (codes "type") d) _ _ _ _ λ kind_name.
    bind_both (non_empty_text_of (codes "name") d) _ _ _ _ λ name.
    tail address mode kind_name name (text_or [] (member_of (codes "module_address") d)) (key_of (member_of (codes "index") d)) (text_or [] (member_of (codes "deposed") d)) (member_of (codes "change") d)

-- ---- drifts

pub no_drift : (d : Data) → None ≡ drifted d → None ≡ drift_of d
no_drift d is = ap (λ (o : Option ResourceChange). o >>= λ change. unless_still change (element_details d)) (is ∙ sym (drifted_is d))

one_drift : (d : Data) (change : ResourceChange) → Some change ≡ drifted d → unless_still change (element_details d) ≡ drift_of d
one_drift d change is = ap (λ (o : Option ResourceChange). o >>= λ seen. unless_still seen (element_details d)) (is ∙ sym (drifted_is d))

if_still : (b : Bool) (drift : Drift) (o : Option Drift) → (if b then None else Some drift) ≡ o → (still : Bool) → b ≡ still → (if still then None else Some drift) ≡ o
if_still b drift o is still same = ap (λ (x : Bool). if x then None else Some drift) (sym same) ∙ is

abbrev made : ResourceChange → ChangeDetails → Drift
made change details = record { change = change; details = details }

with_same : (d : Data) (change : ResourceChange) (details : ChangeDetails) → Some change ≡ drifted d → details ≡ element_details d → unless_still change details ≡ drift_of d
with_same d change details is same = ap (λ (x : ChangeDetails). unless_still change x) same ∙ one_drift d change is

pub still_drift : (d : Data) (change : ResourceChange) (details : ChangeDetails) → Some change ≡ drifted d → details ≡ element_details d → is_still change details ≡ true → None ≡ drift_of d
still_drift d change details is same still = if_still (is_still change details) (made change details) (drift_of d) (with_same d change details is same) true still

pub new_drift : (d : Data) (change copy : ResourceChange) (details : ChangeDetails) → Some change ≡ drifted d → details ≡ element_details d → is_still change details ≡ false → copy ≡ change
    → Some (made copy details) ≡ drift_of d
new_drift d change copy details is same moves copied =
    ap (λ (x : ResourceChange). Some (made x details)) copied
    ∙ if_still (is_still change details) (made change details) (drift_of d) (with_same d change details is same) false moves
