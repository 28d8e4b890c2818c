-- The texts of the time before an apply, in a plan that was read, are UTF-8.
use Rattle.std.proofs.Common.{◌≡◌, ℕ, zero, suc, List, [], ◌∷◌, ◌++◌, IsUtf8, codes, cond, flat_map, map, Bool, true, false, Option, Some, None, Ordering, Less, Equal, Greater, refl}
use Rattle.std.specs.Prelude.{⊤, IfSome, option_and_then}
use Rattle.std.specs.Cmp.Lexicographic.{slice_cmp}
use Rattle.std.specs.List.{AllByRecursion, cons_option, filter_map, list_any}
use Rattle.std.specs.Option.{option_map_or}
use Rattle.std.specs.Ordering.{nat_cmp, match_ordering}
use Rattle.std.specs.Str.{is_utf8}
use Rattle.std.proofs.lemmas.Str.{IsUtf8-from_is_utf8, IsUtf8-nil}
use Rattle.json.specs.Json as j
use Rattle.json.specs.Json.{Json, if_last, value}
use Rattle.json.specs.Lex.{tokens}
use Rattle.serde_json.specs.Data.{Data, null, boolean, number, string, array, object, Members, no_members, member, put}
use Rattle.serde_json.specs.Find.{as_array, as_object, get}
use Rattle.serde_json.specs.Read.{max_depth, number_of, of_items, of_json, of_members, read}
use Rattle.apply_json.specs.Tree.{◌>>=◌, member_of, non_empty_text_of, text_of, tree_of, unless_null}
use Rattle.apply_model.specs.declared.plan.mode.Mode.{Mode}
use Rattle.apply_model.specs.declared.plan.mode.Mode.TheVariants.{Managed, DataSource}
use Rattle.apply_model.specs.Plan.Address.{relative_address}
use Rattle.apply_model.specs.Plan.ResourceChange.{ResourceChange, resource_of}
use Rattle.apply_plan.specs.Plan.Element.{element_of, hides_id, key_of, mode_named}
use Rattle.apply_plan.specs.Plan.SavedPlan.{change_of}
use Rattle.apply_plan.specs.Plan.Steps.{steps_of_actions}
use Rattle.apply_plan_terraform.specs.Details.{element_details}
use Rattle.apply_prior.specs.declared.drift.Drift.{Drift}
use Rattle.apply_prior.specs.declared.planned_output.PlannedOutput.{PlannedOutput}
use Rattle.apply_prior.specs.declared.prior.Prior.{Prior}
use Rattle.apply_prior.specs.Drifts.{drift_of, drifted_of, drifts_of, is_still}
use Rattle.apply_prior.specs.Elements.{Names, array_at, id_of, in_its_module, items_at, names_of}
use Rattle.apply_prior.specs.Objects.{ObjectOfPlan, id_by_mode, last_id, max_modules, objects_of, placed_in, placed_object, placed_of, prior_object, root_module, state_object, vanished_by_mode, vanished_object, with_object, with_objects}
use Rattle.apply_prior.specs.Outputs.{changes_of, output_action_of, output_of, outputs_in, planned_outputs_of}
use Rattle.apply_prior.specs.Prior.{PriorOfPlan, prior_of, prior_view}
use Rattle.apply_resolve.specs.ObjectName.{is_same_object, name_one_object}
use Rattle.apply_text.specs.Objects.{key_data}
use Rattle.laws_run.specs.Plans.{HasRelativeAddress}
use Rattle.laws_run.proofs.RelativeAddresses.{relative_joins}
use Rattle.laws_check.specs.Sound.{IsSound}
use Rattle.laws_check.specs.Texts.{HasChangeTexts}
use Rattle.laws_check.proofs.Given.{any_given, both_given, gone_on, is_given, mapped, next_of}
use Rattle.laws_check.proofs.Legible.{AreLegible, HaveClear, IsClear, IsLegible, text_clear, tree_legible}
use Rattle.laws_check.proofs.LookUps.{array_legible, member_legible, non_empty_utf8, text_utf8}
use Rattle.laws_check.proofs.MemberLists.{AllMembers, found_in, not_null}
use Rattle.laws_check.proofs.PlanTexts.{HasElementTexts, element_texts, front_utf8, joined_utf8, key_sound}
use Rattle.laws_check.proofs.ReadDetails.{elements_legible}
use Rattle.laws_check.proofs.ReadDetails as details
use Rattle.laws_check.proofs.SoundObjects.{all_both}
use Rattle.laws_command_check.specs.HeadTexts.{HasDriftTexts}

-- ---- lists and options

pub given_so : {A : Type 0} (o : Option A) → IfSome o (λ x. o ≡ Some x)
given_so None = tt
given_so (Some x) = refl

each_kept : {A B : Type 0} (P : A → Type 0) (Q : B → Type 0) (f : A → Option B) (xs : List A) → ((x : A) → P x → IfSome (f x) Q) → AllByRecursion P xs → AllByRecursion Q (filter_map f xs)
each_kept P Q f [] step h = tt
each_kept P Q f (x ∷ xs) step h = of_one (f x) (step x h.0) (each_kept P Q f xs step h.1)
  where
    of_one : (o : Option _) → IfSome o Q → AllByRecursion Q (filter_map f xs) → AllByRecursion Q (cons_option o (filter_map f xs))
    of_one None one others = others
    of_one (Some y) one others = (one, others)

-- ---- a change in its module

-- the texts of a change but for its relative address
pub record HasOwnTexts (change : ResourceChange) : Type 0 where
  pub address : IsUtf8 change.address
  pub module_address : IsUtf8 change.module_address
  pub kind_name : IsUtf8 change.kind_name
  pub name : IsUtf8 change.name
  pub key : IsSound (key_data change.key)
  pub prior_id : IfSome change.prior_id IsUtf8

pub with_relative : (change : ResourceChange) → HasOwnTexts change → HasRelativeAddress change → HasChangeTexts change
with_relative change has relative = record {
  address = has.address;
  module_address = has.module_address;
  resource = joined_utf8 change.module_address (resource_of change) change.address has.address relative.1;
  provider = front_utf8 [] change.kind_name has.kind_name;
  kind_name = has.kind_name;
  name = has.name;
  key = has.key;
  prior_id = has.prior_id;
}

in_module : (change : ResourceChange) → HasOwnTexts change → IfSome (in_its_module change) HasChangeTexts
in_module change has =
    next_of (λ relative. relative_address change.module_address change.address ≡ Some relative) HasChangeTexts (relative_address change.module_address change.address) _ (given_so (relative_address change.module_address change.address))
    (λ relative is. with_relative change has (relative_joins change relative is))

-- ---- drifts

drifted : (d : Data) → IsLegible d → IfSome (drifted_of d) HasChangeTexts
drifted d h =
    next_of HasElementTexts HasChangeTexts (element_of d) _ (element_texts d h)
    (λ e has. next_of (λ _. Unit {0}) HasChangeTexts (steps_of_actions e.actions) _ (any_given (steps_of_actions e.actions))
    (λ steps u. next_of (λ relative. relative_address e.module_address e.address ≡ Some relative) HasChangeTexts (relative_address e.module_address e.address) _ (given_so (relative_address e.module_address e.address))
    (λ relative is. with_relative (change_of e steps)
    (record { address = has.address; module_address = has.module_address; kind_name = has.kind_name; name = has.name; key = has.key; prior_id = has.prior_id })
    (relative_joins (change_of e steps) relative is))))

drift_texts : (d : Data) → IsLegible d → IfSome (drift_of d) HasDriftTexts
drift_texts d h = next_of HasChangeTexts HasDriftTexts (drifted_of d) _ (drifted d h) (λ change has. of_test change has (is_still change (element_details d)))
  where
    of_test : (change : ResourceChange) → HasChangeTexts change → (b : Bool) → IfSome (cond b None (Some (record { change = change; details = element_details d }))) HasDriftTexts
    of_test change has true = tt
    of_test change has false = record { change = has; details = details.element_texts d h }

pub items_legible : (name : List ℕ) (d : Data) → IsLegible d → AllByRecursion IsLegible (items_at name d)
items_legible name d h = elements_legible (array_at name d) (next_of IsLegible AreLegible (member_of name d) as_array (member_legible name d h) array_legible)

drifts_texts : (plan : Data) → IsLegible plan → AllByRecursion HasDriftTexts (drifts_of plan)
drifts_texts plan h = each_kept IsLegible HasDriftTexts drift_of (items_at (codes "resource_drift") plan) drift_texts (items_legible (codes "resource_drift") plan h)

-- ---- objects

pub record HasObjectTexts (prior : ObjectOfPlan) : Type 0 where
  pub object : HasChangeTexts prior.object
  pub id_before : IfSome prior.id_before IsUtf8

record HasNamesTexts (names : Names) : Type 0 where
  address : IsUtf8 names.address
  kind_name : IsUtf8 names.kind_name
  name : IsUtf8 names.name
  key : IsSound (key_data names.key)

names_texts : (d : Data) → IsLegible d → IfSome (names_of d) HasNamesTexts
names_texts d h =
    next_of IsUtf8 HasNamesTexts (text_of (codes "address") d) _ (text_utf8 (codes "address") d h)
    (λ address address_is. next_of (λ _. Unit {0}) HasNamesTexts (text_of (codes "mode") d) _ (any_given (text_of (codes "mode") d))
    (λ word u. next_of (λ _. Unit {0}) HasNamesTexts (mode_named word) _ (any_given (mode_named word))
    (λ mode u. next_of IsUtf8 HasNamesTexts (non_empty_text_of (codes "type") d) _ (non_empty_utf8 (codes "type") d h)
    (λ kind_name kind_is. next_of IsUtf8 HasNamesTexts (non_empty_text_of (codes "name") d) _ (non_empty_utf8 (codes "name") d h)
    (λ name name_is. next_of (λ key. IsSound (key_data key)) HasNamesTexts (key_of (member_of (codes "index") d)) _ (key_sound (member_of (codes "index") d) (member_legible (codes "index") d h))
    (λ key key_is. record { address = address_is; kind_name = kind_is; name = name_is; key = key_is }))))))

id_utf8 : (values sensitive : Option Data) → IfSome values IsLegible → IfSome (id_of values sensitive) IsUtf8
id_utf8 values sensitive h = of_test (hides_id sensitive)
  where
    of_test : (b : Bool) → IfSome (cond b None (values >>= λ d. non_empty_text_of (codes "id") d)) IsUtf8
    of_test true = tt
    of_test false = next_of IsLegible IsUtf8 values (λ d. non_empty_text_of (codes "id") d) h (non_empty_utf8 (codes "id"))

state_texts : (module_address : List ℕ) (d : Data) → IsUtf8 module_address → IsLegible d → IfSome (state_object module_address d) HasChangeTexts
state_texts module_address d utf8 h =
    next_of HasNamesTexts HasChangeTexts (names_of d) _ (names_texts d h)
    (λ names has. in_module (record {
      address = names.address;
      module_address = module_address;
      mode = names.mode;
      kind_name = names.kind_name;
      name = names.name;
      key = names.key;
      deposed = non_empty_text_of (codes "deposed_key") d;
      prior_id = id_of (member_of (codes "values") d) (member_of (codes "sensitive_values") d);
      steps = [];
    })
    (record {
      address = has.address;
      module_address = utf8;
      kind_name = has.kind_name;
      name = has.name;
      key = has.key;
      prior_id = id_utf8 (member_of (codes "values") d) (member_of (codes "sensitive_values") d) (member_legible (codes "values") d h);
    }))

last_utf8 : (drifts : List Drift) (address : List ℕ) (deposed id : Option (List ℕ)) → AllByRecursion HasDriftTexts drifts → IfSome id IsUtf8 → IfSome (last_id drifts address deposed id) IsUtf8
last_utf8 [] address deposed id h utf8 = utf8
last_utf8 (drift ∷ drifts) address deposed id h utf8 =
    last_utf8 drifts address deposed (cond (name_one_object drift.change.address drift.change.deposed address deposed) drift.change.prior_id id) h.1 (of_test (name_one_object drift.change.address drift.change.deposed address deposed))
  where
    of_test : (b : Bool) → IfSome (cond b drift.change.prior_id id) IsUtf8
    of_test true = h.0.change.prior_id
    of_test false = utf8

prior_texts : (drifts : List Drift) (one : ResourceChange) (depends_on : List (List ℕ)) → AllByRecursion HasDriftTexts drifts → HasChangeTexts one → HasObjectTexts (prior_object drifts one depends_on)
prior_texts drifts one depends_on h has = record { object = has; id_before = by_mode one.mode }
  where
    by_mode : (m : Mode) → IfSome (id_by_mode m drifts one) IsUtf8
    by_mode Managed = last_utf8 drifts one.address one.deposed one.prior_id h has.prior_id
    by_mode DataSource = has.prior_id

-- ---- the elements of modules

abbrev IsPlaced : (List ℕ × Data) → Type 0
IsPlaced placed = IsUtf8 placed.0 × IsLegible placed.1

module _ (levels : ℕ) (deeper : (module_address : List ℕ) (d : Data) → IsUtf8 module_address → IsLegible d → AllByRecursion IsPlaced (placed_in levels module_address d)) where
  of_elements : (module_address : List ℕ) (ds : List Data) → IsUtf8 module_address → AllByRecursion IsLegible ds → AllByRecursion IsPlaced (map (λ e. (module_address, e)) ds)
  of_elements module_address [] utf8 h = tt
  of_elements module_address (d ∷ ds) utf8 h = ((utf8, h.0), of_elements module_address ds utf8 h.1)

  of_child : (child : Data) → IsLegible child → (o : Option (List ℕ)) → IfSome o IsUtf8 → AllByRecursion IsPlaced (option_map_or (λ address. placed_in levels address child) o [])
  of_child child h None utf8 = tt
  of_child child h (Some address) utf8 = deeper address child utf8 h

  of_children : (ds : List Data) → AllByRecursion IsLegible ds → AllByRecursion IsPlaced (flat_map (λ child. option_map_or (λ address. placed_in levels address child) (non_empty_text_of (codes "address") child) []) ds)
  of_children [] h = tt
  of_children (d ∷ ds) h =
      all_both IsPlaced (option_map_or (λ address. placed_in levels address d) (non_empty_text_of (codes "address") d) []) (flat_map (λ child. option_map_or (λ address. placed_in levels address child) (non_empty_text_of (codes "address") child) []) ds)
      (of_child d h.0 (non_empty_text_of (codes "address") d) (non_empty_utf8 (codes "address") d h.0)) (of_children ds h.1)

each_placed : (levels : ℕ) (module_address : List ℕ) (d : Data) → IsUtf8 module_address → IsLegible d → AllByRecursion IsPlaced (placed_in levels module_address d)
unfolding placed_in
each_placed zero module_address d utf8 h = tt
each_placed (suc levels) module_address d utf8 h =
    all_both IsPlaced (map (λ e. (module_address, e)) (items_at (codes "resources") d)) (flat_map (λ child. option_map_or (λ address. placed_in levels address child) (non_empty_text_of (codes "address") child) []) (items_at (codes "child_modules") d))
    (of_elements levels (each_placed levels) module_address (items_at (codes "resources") d) utf8 (items_legible (codes "resources") d h))
    (of_children levels (each_placed levels) (items_at (codes "child_modules") d) (items_legible (codes "child_modules") d h))

placed_texts : (plan : Data) → IsLegible plan → AllByRecursion IsPlaced (placed_of plan)
placed_texts plan h =
    of_root (root_module plan)
    (next_of IsLegible IsLegible (member_of (codes "prior_state") plan) _ (member_legible (codes "prior_state") plan h)
    (λ state legible. next_of IsLegible IsLegible (member_of (codes "values") state) _ (member_legible (codes "values") state legible) (λ values legible. member_legible (codes "root_module") values legible)))
  where
    of_root : (o : Option Data) → IfSome o IsLegible → AllByRecursion IsPlaced (option_map_or (placed_in max_modules []) o [])
    of_root None h = tt
    of_root (Some d) h = each_placed max_modules [] d IsUtf8-nil h

-- ---- all objects

module _ (drifts : List Drift) (texts : AllByRecursion HasDriftTexts drifts) where
  placed_has : (placed : List ℕ × Data) → IsPlaced placed → IfSome (placed_object drifts placed) HasObjectTexts
  placed_has placed h = mapped HasChangeTexts HasObjectTexts _ (state_object placed.0 placed.1) (λ one has. prior_texts drifts one _ texts has) (state_texts placed.0 placed.1 h.0 h.1)

  vanished_has : (drift : Drift) → HasDriftTexts drift → IfSome (vanished_object drifts drift) HasObjectTexts
  vanished_has drift h = mapped HasChangeTexts HasObjectTexts _ (vanished_by_mode drift.change.mode drift.change) (λ one has. prior_texts drifts one _ texts has) (by_mode drift.change.mode)
    where
      by_mode : (m : Mode) → IfSome (vanished_by_mode m drift.change) HasChangeTexts
      by_mode Managed =
          in_module (record drift.change { prior_id = None; steps = [] })
          (record { address = h.change.address; module_address = h.change.module_address; kind_name = h.change.kind_name; name = h.change.name; key = h.change.key; prior_id = tt })
      by_mode DataSource = tt

with_one : (objects : List ObjectOfPlan) (more : ObjectOfPlan) → AllByRecursion HasObjectTexts objects → HasObjectTexts more → AllByRecursion HasObjectTexts (with_object objects more)
with_one objects more h one = of_test (list_any (is_same_object more.object) (map (λ prior. prior.object) objects))
  where
    of_test : (b : Bool) → AllByRecursion HasObjectTexts (cond b objects (objects ++ more ∷ []))
    of_test true = h
    of_test false = all_both HasObjectTexts objects (more ∷ []) h (one, tt)

with_all : (objects others : List ObjectOfPlan) → AllByRecursion HasObjectTexts objects → AllByRecursion HasObjectTexts others → AllByRecursion HasObjectTexts (with_objects objects others)
with_all objects [] h k = h
with_all objects (more ∷ others) h k = with_all (with_object objects more) others (with_one objects more h k.0) k.1

objects_texts : (plan : Data) → IsLegible plan → AllByRecursion HasObjectTexts (objects_of plan)
objects_texts plan h =
    let drifts = drifts_of plan in
    let texts = drifts_texts plan h in
    with_all (with_objects [] (filter_map (placed_object drifts) (placed_of plan))) (filter_map (vanished_object drifts) drifts)
    (with_all [] (filter_map (placed_object drifts) (placed_of plan)) tt (each_kept IsPlaced HasObjectTexts (placed_object drifts) (placed_of plan) (placed_has drifts texts) (placed_texts plan h)))
    (each_kept HasDriftTexts HasObjectTexts (vanished_object drifts) drifts (vanished_has drifts texts) texts)

-- ---- names of members

-- each name of a member is UTF-8, in values outside of arrays
abbrev mutual
  IsNamed : Data → Type 0
  IsNamed null = ⊤
  IsNamed (boolean b) = ⊤
  IsNamed (number n) = ⊤
  IsNamed (string s) = ⊤
  IsNamed (array ds) = ⊤
  IsNamed (object ms) = HaveNames ms

  HaveNames : Members → Type 0
  HaveNames no_members = ⊤
  HaveNames (member k d ms) = IsUtf8 k × IsNamed d × HaveNames ms

put_named : (k : List ℕ) (d : Data) (ms : Members) → IsUtf8 k → IsNamed d → HaveNames ms → HaveNames (put k d ms)
put_named k d no_members name one others = (name, one, tt)
put_named k d (member l e ms) name one others =
    by_order (slice_cmp nat_cmp k l) (member k d (member l e ms)) (member l d ms) (member l e (put k d ms)) (name, one, others) (others.0, one, others.2) (others.0, others.1, put_named k d ms name one others.2)
  where
    by_order : (o : Ordering) (a b c : Members) → HaveNames a → HaveNames b → HaveNames c → HaveNames (match_ordering o a b c)
    by_order Less a b c first second third = first
    by_order Equal a b c first second third = second
    by_order Greater a b c first second third = third

mutual
  data_named : (v : Json) → IsClear v → IfSome (of_json v) IsNamed
  data_named j.null h = tt
  data_named (j.boolean b) h = tt
  data_named (j.number s) h = mapped (λ _. Unit {0}) IsNamed number (number_of s) (λ n u. tt) (any_given (number_of s))
  data_named (j.string s) h = tt
  data_named (j.array js) h = mapped (λ _. Unit {0}) IsNamed array (of_items js) (λ ds u. tt) (any_given (of_items js))
  data_named (j.object ms) h = mapped HaveNames IsNamed object (of_members ms no_members) (λ located named. named) (members_named ms no_members h tt)

  members_named : (ms : j.Members) (located : Members) → HaveClear ms → HaveNames located → IfSome (of_members ms located) HaveNames
  members_named j.no_members located h named = named
  members_named (j.member k v ms) located h named =
      gone_on IsNamed HaveNames (λ d. of_members ms (put k d located)) (of_json v) (λ d one. members_named ms (put k d located) h.2 (put_named k d located h.0 one named)) (data_named v h.1)

tree_named : (bytes : List ℕ) → IfSome (tree_of bytes) IsNamed
tree_named bytes = of_test (is_utf8 bytes) refl
  where
    of_test : (b : Bool) → is_utf8 bytes ≡ b → IfSome (cond b (read bytes) None) IsNamed
    of_test false is = tt
    of_test true is = gone_on IsClear IsNamed of_json (option_and_then (λ p. if_last p.0 p.1) (value max_depth (tokens bytes))) data_named (text_clear bytes (IsUtf8-from_is_utf8 bytes is))

-- ---- outputs

abbrev AreNamedOutputs : List PlannedOutput → Type 0
AreNamedOutputs outputs = AllByRecursion (λ (output : PlannedOutput). IsUtf8 output.name) outputs

each_named : (ms : Members) → HaveNames ms → AllMembers (λ k d. IsNamed d) ms
each_named no_members h = tt
each_named (member k d ms) h = (h.1, each_named ms h.2)

members_have : (d : Data) → IsNamed d → IfSome (as_object d) HaveNames
members_have null h = tt
members_have (boolean b) h = tt
members_have (number n) h = tt
members_have (string s) h = tt
members_have (array ds) h = tt
members_have (object ms) h = h

all_members : (d : Data) → IsNamed d → IfSome (as_object d) (AllMembers (λ k d. IsNamed d))
all_members null h = tt
all_members (boolean b) h = tt
all_members (number n) h = tt
all_members (string s) h = tt
all_members (array ds) h = tt
all_members (object ms) h = each_named ms h

outputs_named : (ms : Members) → HaveNames ms → AreNamedOutputs (outputs_in ms)
outputs_named no_members h = tt
outputs_named (member name d ms) h =
    of_one (output_of name d) (mapped (λ _. Unit {0}) (λ (output : PlannedOutput). IsUtf8 output.name) _ (output_action_of d) (λ action u. h.0) (any_given (output_action_of d))) (outputs_named ms h.2)
  where
    of_one : (o : Option PlannedOutput) → IfSome o (λ (output : PlannedOutput). IsUtf8 output.name) → AreNamedOutputs (outputs_in ms) → AreNamedOutputs (cons_option o (outputs_in ms))
    of_one None one others = others
    of_one (Some output) one others = (one, others)

planned_named : (plan : Data) → IsNamed plan → AreNamedOutputs (planned_outputs_of plan)
planned_named plan h =
    of_members_of (changes_of plan)
    (next_of IsNamed HaveNames (member_of (codes "output_changes") plan) as_object
    (next_of IsNamed IsNamed (get (codes "output_changes") plan) unless_null (found_in (λ k d. IsNamed d) (codes "output_changes") plan (all_members plan h)) (not_null IsNamed)) members_have)
  where
    of_members_of : (o : Option Members) → IfSome o HaveNames → AreNamedOutputs (option_map_or outputs_in o [])
    of_members_of None h = tt
    of_members_of (Some ms) h = outputs_named ms h

-- ---- all of it

pub record HasPriorTexts (prior : PriorOfPlan) : Type 0 where
  pub objects : AllByRecursion HasObjectTexts prior.objects
  pub drifts : AllByRecursion HasDriftTexts prior.drifts
  pub outputs : AllByRecursion (λ (output : PlannedOutput). IsUtf8 output.name) prior.outputs

pub prior_has_texts : (bytes : List ℕ) (prior : Prior) → prior_of bytes ≡ Some (prior_view prior) → HasPriorTexts (prior_view prior)
prior_has_texts bytes prior is =
    is_given HasPriorTexts (prior_of bytes) (prior_view prior)
    (next_of (λ d. IsLegible d × IsNamed d) HasPriorTexts (tree_of bytes) _ (both_given IsLegible IsNamed (tree_of bytes) (tree_legible bytes) (tree_named bytes))
    (λ d h. record { objects = objects_texts d h.0; drifts = drifts_texts d h.0; outputs = planned_named d h.1 }))
    is
