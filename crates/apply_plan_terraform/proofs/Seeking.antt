-- What is looked for in a part, as its members go in.
use Rattle.std.proofs.Common.{bytes_eq, ◌≡◌, ℕ, List, Bool, true, false, codes, if◌then◌else◌, Some, None, option_map, refl, sym, ap, ◌∙◌, true≢false}
use Rattle.std.proofs.lemmas.Slice.Eq.{bytes_eq-Decides}
use Rattle.json.specs.Json as json
use Rattle.serde_json.specs.Data.{Data, string, object, Members, no_members, put}
use Rattle.serde_json.specs.Find.{get_member}
use Rattle.serde_json.specs.View as tree
use Rattle.serde_json.proofs.Views.{get_member-put, get_member-put_other}
use Rattle.apply_plan_terraform.specs.declared.stored.sections.Sections.{Sections}
use Rattle.apply_plan_terraform.specs.declared.texts.part.Part.{Part}
use Rattle.apply_plan_terraform.specs.declared.texts.part.Part.TheVariants.{Plan, State, Values, Script, Diagnostics, Diagnostic, Outputs, Output, OutputChanges, OutputChange, Text}
use Rattle.apply_plan_terraform.specs.StoredOutputs.{outputs_value_view}
use Rattle.apply_plan_terraform.specs.Outputs.{member_in}
use Rattle.apply_plan_terraform.specs.Sections.{AreSectionsOf, is_companion, outputs_in}
use Rattle.apply_plan_terraform.specs.Texts.{members_with_texts, part_named, with_texts}

-- ---- an object, and what is none

pub whole_object : (part : Part) (ms : json.Members) (collected : Sections) → AreSectionsOf part (object (members_with_texts part ms no_members)) collected → AreSectionsOf part (with_texts part (json.object ms)) collected
whole_object Plan ms collected is = is
whole_object State ms collected is = is
whole_object Values ms collected is = is
whole_object Script ms collected is = is
whole_object Diagnostics ms collected is = is
whole_object Diagnostic ms collected is = is
whole_object Outputs ms collected is = is
whole_object Output ms collected is = is
whole_object OutputChanges ms collected is = is
whole_object OutputChange ms collected is = is
whole_object Text ms collected is = is

pub nothing_in : (part : Part) (d : Data) (text : List ℕ) (collected : Sections) → (part ≡ Outputs → ⊥) → d ≡ string text → collected.outputs ≡ None → collected.companion ≡ None → AreSectionsOf part d collected
nothing_in Plan d text collected other is absent none = rw is (ap (option_map outputs_value_view) absent, ap (option_map tree.view) none)
nothing_in State d text collected other is absent none = rw is (ap (option_map outputs_value_view) absent, ap (option_map tree.view) none)
nothing_in Values d text collected other is absent none = rw is (ap (option_map outputs_value_view) absent, ap (option_map tree.view) none)
nothing_in Script d text collected other is absent none = rw is (ap (option_map outputs_value_view) absent, ap (option_map tree.view) none)
nothing_in Diagnostics d text collected other is absent none = (ap (option_map outputs_value_view) absent, ap (option_map tree.view) none)
nothing_in Diagnostic d text collected other is absent none = (ap (option_map outputs_value_view) absent, ap (option_map tree.view) none)
nothing_in Outputs d text collected other is absent none = absurd (other refl)
nothing_in Output d text collected other is absent none = (ap (option_map outputs_value_view) absent, ap (option_map tree.view) none)
nothing_in OutputChanges d text collected other is absent none = (ap (option_map outputs_value_view) absent, ap (option_map tree.view) none)
nothing_in OutputChange d text collected other is absent none = (ap (option_map outputs_value_view) absent, ap (option_map tree.view) none)
nothing_in Text d text collected other is absent none = (ap (option_map outputs_value_view) absent, ap (option_map tree.view) none)

pub nothing_yet : (part : Part) (collected : Sections) → (part ≡ Outputs → ⊥) → collected.outputs ≡ None → collected.companion ≡ None → AreSectionsOf part (object no_members) collected
nothing_yet Plan collected other absent none = (ap (option_map outputs_value_view) absent, ap (option_map tree.view) none)
nothing_yet State collected other absent none = (ap (option_map outputs_value_view) absent, ap (option_map tree.view) none)
nothing_yet Values collected other absent none = (ap (option_map outputs_value_view) absent, ap (option_map tree.view) none)
nothing_yet Script collected other absent none = (ap (option_map outputs_value_view) absent, ap (option_map tree.view) none)
nothing_yet Diagnostics collected other absent none = (ap (option_map outputs_value_view) absent, ap (option_map tree.view) none)
nothing_yet Diagnostic collected other absent none = (ap (option_map outputs_value_view) absent, ap (option_map tree.view) none)
nothing_yet Outputs collected other absent none = absurd (other refl)
nothing_yet Output collected other absent none = (ap (option_map outputs_value_view) absent, ap (option_map tree.view) none)
nothing_yet OutputChanges collected other absent none = (ap (option_map outputs_value_view) absent, ap (option_map tree.view) none)
nothing_yet OutputChange collected other absent none = (ap (option_map outputs_value_view) absent, ap (option_map tree.view) none)
nothing_yet Text collected other absent none = (ap (option_map outputs_value_view) absent, ap (option_map tree.view) none)

-- ---- a member that goes in

-- a lookup gives the value at its name, and the other values stay
pub at_name : (key name : List ℕ) (d : Data) (ms : Members) → bytes_eq name key ≡ true → get_member key (put name d ms) ≡ Some d
at_name key name d ms is = let same : name ≡ key = (bytes_eq-Decides name key).0 is in ap (λ k. get_member k (put name d ms)) (sym same) ∙ get_member-put name d ms

pub at_other : (key name : List ℕ) (d : Data) (ms : Members) → bytes_eq name key ≡ false → get_member key (put name d ms) ≡ get_member key ms
at_other key name d ms not = get_member-put_other key name d ms (λ same. true≢false (sym ((bytes_eq-Decides name key).1 (sym same)) ∙ not))

apart : (name key other : List ℕ) → bytes_eq name key ≡ true → bytes_eq key other ≡ false → bytes_eq name other ≡ false
apart name key other is not = ap (λ n. bytes_eq n other) ((bytes_eq-Decides name key).0 is) ∙ not

-- the one name that a part looks for
one_named : (b : Bool) (p q : Part) → Some q ≡ (if b then Some p else None) → (b ≡ true) × (q ≡ p)
one_named true p q is = let same : q ≡ p = cc in (refl, same)
one_named false p q is = absurd cc

module _ (name : List ℕ) (d : Data) (ms : Members) (collected new : Sections) where
  -- the other section, next to the outputs
  module _ (inner : Part) (companion : is_companion inner ≡ true) (same : new.outputs ≡ collected.outputs) (got : option_map tree.view new.companion ≡ Some d) where
    never : {P : Type 0} (p : Part) → inner ≡ p → is_companion p ≡ false → P
    never p is other = absurd (true≢false (sym companion ∙ ap is_companion is ∙ other))

    companion_of_plan : (b c : Bool) → bytes_eq name (codes "prior_state") ≡ b → bytes_eq name (codes "output_changes") ≡ c → Some inner ≡ (if b then Some State else if c then Some OutputChanges else None)
        → AreSectionsOf Plan (object ms) collected → AreSectionsOf Plan (object (put name d ms)) new
    companion_of_plan true c first second is so_far = let state : inner ≡ State = cc in never State state refl
    companion_of_plan false false first second is so_far = absurd cc
    companion_of_plan false true first second is so_far = (
      ap (option_map outputs_value_view) same ∙ so_far.0 ∙ ap (λ o. member_in (codes "outputs") (member_in (codes "values") o)) (sym (at_other (codes "prior_state") name d ms first)),
      got ∙ sym (at_name (codes "output_changes") name d ms second),
    )

    companion_of_script : (b c : Bool) → bytes_eq name (codes "outputs") ≡ b → bytes_eq name (codes "diagnostics") ≡ c → Some inner ≡ (if b then Some Outputs else if c then Some Diagnostics else None)
        → AreSectionsOf Script (object ms) collected → AreSectionsOf Script (object (put name d ms)) new
    companion_of_script true c first second is so_far = let outputs : inner ≡ Outputs = cc in never Outputs outputs refl
    companion_of_script false false first second is so_far = absurd cc
    companion_of_script false true first second is so_far = (
      ap (option_map outputs_value_view) same ∙ so_far.0 ∙ sym (at_other (codes "outputs") name d ms first),
      got ∙ sym (at_name (codes "diagnostics") name d ms second),
    )

    pub with_companion : (part : Part) → Some inner ≡ part_named part name → AreSectionsOf part (object ms) collected → AreSectionsOf part (object (put name d ms)) new
    with_companion Plan is so_far = companion_of_plan _ _ refl refl is so_far
    with_companion State is so_far = never Values (one_named _ Values inner is).1 refl
    with_companion Values is so_far = never Outputs (one_named _ Outputs inner is).1 refl
    with_companion Script is so_far = companion_of_script _ _ refl refl is so_far
    with_companion Diagnostics is so_far = absurd cc
    with_companion Diagnostic is so_far = never Text (one_named _ Text inner is).1 refl
    with_companion Outputs is so_far = let output : inner ≡ Output = cc in never Output output refl
    with_companion Output is so_far = never Text (one_named _ Text inner is).1 refl
    with_companion OutputChanges is so_far = let change : inner ≡ OutputChange = cc in never OutputChange change refl
    with_companion OutputChange is so_far = never Text (one_named _ Text inner is).1 refl
    with_companion Text is so_far = absurd cc

  -- a part that is looked into
  module _ (inner : Part) (below : Sections) (other : is_companion inner ≡ false) (is_below : AreSectionsOf inner d below) (same : new.outputs ≡ below.outputs) (stored : new.companion ≡ collected.companion) where
    taken : (p : Part) → inner ≡ p → option_map outputs_value_view new.outputs ≡ outputs_in p d
    taken p is = ap (option_map outputs_value_view) same ∙ is_below.0 ∙ ap (λ p. outputs_in p d) is

    inner_of_plan : (b c : Bool) → bytes_eq name (codes "prior_state") ≡ b → bytes_eq name (codes "output_changes") ≡ c → Some inner ≡ (if b then Some State else if c then Some OutputChanges else None)
        → AreSectionsOf Plan (object ms) collected → AreSectionsOf Plan (object (put name d ms)) new
    inner_of_plan true c first second is so_far =
        let state : inner ≡ State = cc in (
          taken State state ∙ ap (λ o. member_in (codes "outputs") (member_in (codes "values") o)) (sym (at_name (codes "prior_state") name d ms first)),
          ap (option_map tree.view) stored ∙ so_far.1 ∙ sym (at_other (codes "output_changes") name d ms (apart name (codes "prior_state") (codes "output_changes") first refl)),
        )
    inner_of_plan false true first second is so_far = let changes : inner ≡ OutputChanges = cc in absurd (true≢false (sym (ap is_companion changes) ∙ other))
    inner_of_plan false false first second is so_far = absurd cc

    inner_of_script : (b c : Bool) → bytes_eq name (codes "outputs") ≡ b → bytes_eq name (codes "diagnostics") ≡ c → Some inner ≡ (if b then Some Outputs else if c then Some Diagnostics else None)
        → AreSectionsOf Script (object ms) collected → AreSectionsOf Script (object (put name d ms)) new
    inner_of_script true c first second is so_far =
        let outputs : inner ≡ Outputs = cc in (
          taken Outputs outputs ∙ sym (at_name (codes "outputs") name d ms first),
          ap (option_map tree.view) stored ∙ so_far.1 ∙ sym (at_other (codes "diagnostics") name d ms (apart name (codes "outputs") (codes "diagnostics") first refl)),
        )
    inner_of_script false true first second is so_far = let diagnostics : inner ≡ Diagnostics = cc in absurd (true≢false (sym (ap is_companion diagnostics) ∙ other))
    inner_of_script false false first second is so_far = absurd cc

    pub with_inner : (part : Part) → Some inner ≡ part_named part name → (part ≡ Outputs → ⊥) → AreSectionsOf part (object ms) collected → AreSectionsOf part (object (put name d ms)) new
    with_inner Plan is whole so_far = inner_of_plan _ _ refl refl is so_far
    with_inner State is whole so_far =
        let one = one_named _ Values inner is in
        (taken Values one.1 ∙ ap (member_in (codes "outputs")) (sym (at_name (codes "values") name d ms one.0)), ap (option_map tree.view) stored ∙ so_far.1)
    with_inner Values is whole so_far = let one = one_named _ Outputs inner is in (taken Outputs one.1 ∙ sym (at_name (codes "outputs") name d ms one.0), ap (option_map tree.view) stored ∙ so_far.1)
    with_inner Script is whole so_far = inner_of_script _ _ refl refl is so_far
    with_inner Diagnostics is whole so_far = absurd cc
    with_inner Diagnostic is whole so_far = let one = one_named _ Text inner is in (taken Text one.1, ap (option_map tree.view) stored ∙ so_far.1)
    with_inner Outputs is whole so_far = absurd (whole refl)
    with_inner Output is whole so_far = let one = one_named _ Text inner is in (taken Text one.1, ap (option_map tree.view) stored ∙ so_far.1)
    with_inner OutputChanges is whole so_far = let one : inner ≡ OutputChange = cc in (taken OutputChange one, ap (option_map tree.view) stored ∙ so_far.1)
    with_inner OutputChange is whole so_far = let one = one_named _ Text inner is in (taken Text one.1, ap (option_map tree.view) stored ∙ so_far.1)
    with_inner Text is whole so_far = absurd cc
