-- The texts of a plan that was read are UTF-8.
use Rattle.std.proofs.Common.{◌≡◌, ℕ, zero, suc, ◌+◌, ◌≤◌, ◌^◌, ◌==◌, List, [], ◌∷◌, ◌++◌, IsUtf8, append_assoc, append-nil, codes, cond, length, nat_eq, nat_lt, not, slice_get, take, Bool, true, false, Option, Some, None, Ok, Err, refl, sym, ap, subst, arith}
use Rattle.std.specs.Prelude.{◌&&◌, pos, negsuc, IfOk, IfSome}
use Rattle.std.specs.List.{AllByRecursion, before_first, list_any, position_or_len, starts_with}
use Rattle.std.proofs.lemmas.Bool.{eqb-true, ltb-false}
use Rattle.std.proofs.lemmas.Option.{same_Some}
use Rattle.std.proofs.lemmas.Str.{IsUtf8-nil}
use Rattle.json.proofs.Printed.Utf8.{IsUtf8-are_ascii}
use Rattle.serde_json.specs.Data.{Data, Num, unsigned, negative, float, null, boolean, number, string, array, object, Items, no_items, item}
use Rattle.serde_json.specs.Events.{items_len}
use Rattle.serde_json.specs.Find.{as_array, as_i64}
use Rattle.apply_json.specs.Tree as json
use Rattle.apply_json.specs.Tree.{is_word, items_or_empty, list_of, member_of, non_empty_text_of, text_of, text_or}
use Rattle.apply_model.specs.declared.plan.key.Key.TheVariants as key
use Rattle.apply_plan.specs.declared.plan.plan_error.PlanError.TheVariants.{TooLarge, NotJson, NotAPlan, TooMany, BadChange, BadActions, BadAddress, Duplicate}
use Rattle.apply_model.specs.declared.plan.step_kind.StepKind.{StepKind}
use Rattle.apply_model.specs.declared.plan.step_kind.StepKind.TheVariants.{Create, Update, Delete, Read}
use Rattle.apply_plan.specs.Bytes.{of_bytes}
use Rattle.apply_plan.specs.Plan.Address.{relative_address}
use Rattle.apply_plan.specs.Plan.Element.{Element, element_of, hides_id, key_of, mode_named, planned_change_of, prior_id_of}
use Rattle.apply_plan.specs.Plan.Header.{Header, header_of}
use Rattle.laws_run.specs.Plans.{HasRelativeAddress, IsJoined}
use Rattle.apply_plan.specs.Plan.ResourceChange.{ResourceChange, resource_of}
use Rattle.apply_plan.specs.Plan.SavedPlan.{SavedPlan, change_at, changes_of, max_changes, names_object_of, plan_of, plan_of_tree, planned_at}
use Rattle.apply_plan.specs.Plan.Steps.{steps_alone, steps_of_actions, steps_together}
use Rattle.apply_plan.specs.Results.{◌>>=◌, all_or_first, each_with_earlier, or_refuse}
use Rattle.apply_text.specs.Objects.{key_data}
use Rattle.laws_check.specs.Plans.{AreStepsOfOne}
use Rattle.laws_check.specs.Sound.{IsSound}
use Rattle.laws_check.specs.Texts.{HasChangeTexts}
use Rattle.laws_check.proofs.Cuts.{before, after}
use Rattle.laws_check.proofs.Given.{AreAnswers, any_given, each_answered, is_answered, mapped, next_of, refused_or, then_of}
use Rattle.laws_check.proofs.Legible.{AreLegible, IsLegible}
use Rattle.laws_check.proofs.LookUps.{items_legible, list_legible, member_legible, non_empty_utf8, text_or_utf8, text_utf8}
use Rattle.laws_check.proofs.ReadBytes.{made_of_bytes}
use Rattle.laws_check.proofs.ReadNumbers.{IsOfBits}

-- what is read of an element
pub record HasElementTexts (e : Element) : Type 0 where
  pub address : IsUtf8 e.address
  pub module_address : IsUtf8 e.module_address
  pub kind_name : IsUtf8 e.kind_name
  pub name : IsUtf8 e.name
  pub key : IsSound (key_data e.key)
  pub prior_id : IfSome e.prior_id IsUtf8

-- ---- a key

signed_sound : (z : _) → IsOfBits (negative z) → IsSound (key_data (key.Number z))
signed_sound (pos n) h = absurd h
signed_sound (negsuc n) h = h

whole_sound : (n : Num) → IsOfBits n → IfSome (as_i64 n) (λ z. IsSound (key_data (key.Number z)))
whole_sound (unsigned n) h = of_test (nat_lt n (2 ^ 63))
  where
    of_test : (b : Bool) → IfSome (cond b (Some (pos n)) None) (λ z. IsSound (key_data (key.Number z)))
    of_test true = h
    of_test false = tt
whole_sound (negative z) h = signed_sound z h
whole_sound (float x) h = tt

pub key_sound : (located : Option Data) → IfSome located IsLegible → IfSome (key_of located) (λ key. IsSound (key_data key))
key_sound None h = tt
key_sound (Some null) h = tt
key_sound (Some (boolean b)) h = tt
key_sound (Some (number n)) h = mapped (λ z. IsSound (key_data (key.Number z))) (λ key. IsSound (key_data key)) key.Number (as_i64 n) (λ z sound. sound) (whole_sound n h)
key_sound (Some (string s)) h = h
key_sound (Some (array ds)) h = tt
key_sound (Some (object ms)) h = tt

-- ---- an element

id_utf8 : (change : Data) → IsLegible change → IfSome (prior_id_of change) IsUtf8
id_utf8 change h = of_test (hides_id (member_of (codes "before_sensitive") change))
  where
    of_test : (b : Bool) → IfSome (cond b None (json.◌>>=◌ (member_of (codes "before") change) (λ before. non_empty_text_of (codes "id") before))) IsUtf8
    of_test true = tt
    of_test false = next_of IsLegible IsUtf8 (member_of (codes "before") change) (λ before. non_empty_text_of (codes "id") before) (member_legible (codes "before") change h) (non_empty_utf8 (codes "id"))

planned_utf8 : (d : Data) → IsLegible d → IfSome (planned_change_of d) (λ planned. IfSome planned.1 IsUtf8)
planned_utf8 d h =
    let Q = λ (planned : _). IfSome planned.1 IsUtf8 in
    next_of IsLegible Q (member_of (codes "change") d) _ (member_legible (codes "change") d h)
    (λ change legible. next_of (λ _. Unit {0}) Q (member_of (codes "actions") change) _ (any_given (member_of (codes "actions") change))
    (λ list u. next_of (λ _. Unit {0}) Q (as_array list) _ (any_given (as_array list)) (λ actions u. id_utf8 change legible)))

pub element_texts : (d : Data) → IsLegible d → IfSome (element_of d) HasElementTexts
unfolding element_of
element_texts d h =
    next_of IsUtf8 HasElementTexts (text_of (codes "address") d) _ (text_utf8 (codes "address") d h)
    (λ address address_is. next_of (λ _. Unit {0}) HasElementTexts (text_of (codes "mode") d) _ (any_given (text_of (codes "mode") d))
    (λ word u. next_of (λ _. Unit {0}) HasElementTexts (mode_named word) _ (any_given (mode_named word))
    (λ mode u. next_of IsUtf8 HasElementTexts (non_empty_text_of (codes "type") d) _ (non_empty_utf8 (codes "type") d h)
    (λ kind_name kind_is. next_of IsUtf8 HasElementTexts (non_empty_text_of (codes "name") d) _ (non_empty_utf8 (codes "name") d h)
    (λ name name_is. next_of IsUtf8 HasElementTexts (text_or [] (member_of (codes "module_address") d)) _ (text_or_utf8 [] (member_of (codes "module_address") d) IsUtf8-nil (member_legible (codes "module_address") d h))
    (λ module_address module_is. next_of (λ key. IsSound (key_data key)) HasElementTexts (key_of (member_of (codes "index") d)) _ (key_sound (member_of (codes "index") d) (member_legible (codes "index") d h))
    (λ key key_is. next_of (λ _. Unit {0}) HasElementTexts (text_or [] (member_of (codes "deposed") d)) _ (any_given (text_or [] (member_of (codes "deposed") d)))
    (λ deposed u. next_of (λ planned. IfSome planned.1 IsUtf8) HasElementTexts (planned_change_of d) _ (planned_utf8 d h)
    (λ planned id_is. record { address = address_is; module_address = module_is; kind_name = kind_is; name = name_is; key = key_is; prior_id = id_is })))))))))

-- ---- parts of an address and of a type

-- the rest after a module's address and a dot
pub joined_utf8 : (module_address relative address : List ℕ) → IsUtf8 address → IsJoined module_address relative address → IsUtf8 relative
joined_utf8 [] relative address h is = subst IsUtf8 is h
joined_utf8 (byte ∷ bytes) relative address h is = after (byte ∷ bytes) 46 relative (subst IsUtf8 is h) (omega arith)

-- the part before the first underscore, in the rest of a text
pub front_utf8 : (p xs : List ℕ) → IsUtf8 (p ++ xs) → IsUtf8 (p ++ before_first (λ byte. byte == 95) xs)
front_utf8 p [] h = h
front_utf8 p (x ∷ xs) h = of_test (x == 95) refl (front_utf8 (p ++ x ∷ []) xs (subst IsUtf8 (sym (append_assoc p (x ∷ []) xs)) h))
  where
    n : ℕ
    n = position_or_len (λ byte. byte == 95) xs

    of_test : (b : Bool) → (x == 95) ≡ b → IsUtf8 ((p ++ x ∷ []) ++ take n xs) → IsUtf8 (p ++ take (cond (not b) (1 + n) 0) (x ∷ xs))
    of_test true is rest = subst IsUtf8 (sym (append-nil p)) (before p x xs h (let same : x ≡ 95 = eqb-true x 95 is in omega arith))
    of_test false is rest =
        let next : suc n ≡ 1 + n = omega arith in
        subst (λ (k : ℕ). IsUtf8 (p ++ take k (x ∷ xs))) next (subst IsUtf8 (append_assoc p (x ∷ []) (take n xs)) rest)

-- ---- a change

-- a read is the last of these steps
abbrev pub EndWithReads : List StepKind → Type 0
EndWithReads [] = Unit {0}
EndWithReads (kind ∷ kinds) = (kind ≡ Read → kinds ≡ []) × EndWithReads kinds

pub last_of : (kinds : List StepKind) (k : ℕ) → EndWithReads kinds → slice_get kinds k ≡ Some Read → length kinds ≡ k + 1
last_of [] k h e = absurd cc
last_of (kind ∷ kinds) zero h e = let none : kinds ≡ [] = h.0 (same_Some kind Read e) in ap (λ (l : List StepKind). suc (length l)) none
last_of (kind ∷ kinds) (suc k) h e = let rest : length kinds ≡ k + 1 = last_of kinds k h.1 e in omega arith

-- what is read of a change: its texts, and at most two steps for one object; no step comes after a
-- read
pub record IsReadable (change : ResourceChange) : Type 0 where
  pub address : IsUtf8 change.address
  pub module_address : IsUtf8 change.module_address
  pub kind_name : IsUtf8 change.kind_name
  pub name : IsUtf8 change.name
  pub key : IsSound (key_data change.key)
  pub prior_id : IfSome change.prior_id IsUtf8
  pub few_steps : length change.steps ≤ 2
  pub reads_last : EndWithReads change.steps
  pub of_one : AreStepsOfOne change.steps

pub change_texts : (change : ResourceChange) → IsReadable change → HasRelativeAddress change → HasChangeTexts change
change_texts change has relative = record {
  address = has.address;
  module_address = has.module_address;
  resource = joined_utf8 change.module_address (resource_of change) change.address has.address relative.1;
  provider = front_utf8 [] change.kind_name has.kind_name;
  kind_name = has.kind_name;
  name = has.name;
  key = has.key;
  prior_id = has.prior_id;
}

-- a change has at most two steps, for one object
abbrev AreFew : List StepKind → Type 0
AreFew steps = (length steps ≤ 2) × EndWithReads steps × AreStepsOfOne steps

none_few : AreFew []
none_few = (omega arith, tt, tt)

one_few : (kind : StepKind) → AreFew (kind ∷ [])
one_few kind = (omega arith, ((λ e. refl), tt), tt)

alone : (action : Data) → IfSome (steps_alone action) AreFew
alone action = of_tests (is_word (codes "no-op") action) (is_word (codes "create") action) (is_word (codes "read") action) (is_word (codes "update") action) (is_word (codes "delete") action) (is_word (codes "forget") action)
  where
    of_tests : (a b c d e f : Bool)
        → IfSome (cond a (Some []) (cond b (Some (Create ∷ [])) (cond c (Some (Read ∷ [])) (cond d (Some (Update ∷ [])) (cond e (Some (Delete ∷ [])) (cond f (Some []) None)))))) AreFew
    of_tests true b c d e f = none_few
    of_tests false true c d e f = one_few Create
    of_tests false false true d e f = one_few Read
    of_tests false false false true e f = one_few Update
    of_tests false false false false true f = one_few Delete
    of_tests false false false false false true = none_few
    of_tests false false false false false false = tt

together : (first second : Data) → IfSome (steps_together first second) AreFew
together first second = of_tests (is_word (codes "delete") first && is_word (codes "create") second) (is_word (codes "create") first && is_word (codes "delete") second)
  where
    of_tests : (a b : Bool) → IfSome (cond a (Some (Delete ∷ Create ∷ [])) (cond b (Some (Create ∷ Delete ∷ [])) None)) AreFew
    of_tests true b = (omega arith, ((λ e. absurd cc), ((λ e. refl), tt)), tt)
    of_tests false true = (omega arith, ((λ e. absurd cc), ((λ e. refl), tt)), tt)
    of_tests false false = tt

at_most_two : (actions : Items) → IfSome (steps_of_actions actions) AreFew
at_most_two no_items = tt
at_most_two (item action no_items) = alone action
at_most_two (item first (item second no_items)) = together first second
at_most_two (item first (item second (item third others))) = tt

planned_readable : (n : ℕ) (d : Data) → IsLegible d → IfOk (planned_at n d) IsReadable
unfolding planned_at
planned_readable n d h =
    then_of HasElementTexts IsReadable (or_refuse (BadChange n) (element_of d)) _ (refused_or HasElementTexts (BadChange n) (element_of d) (element_texts d h))
    (λ e has. then_of AreFew IsReadable (or_refuse (BadActions n) (steps_of_actions e.actions)) _ (refused_or AreFew (BadActions n) (steps_of_actions e.actions) (at_most_two e.actions))
    (λ steps few. then_of (λ _. Unit {0}) IsReadable (or_refuse (BadAddress n) (relative_address e.module_address e.address)) _
    (refused_or (λ _. Unit {0}) (BadAddress n) (relative_address e.module_address e.address) (any_given (relative_address e.module_address e.address)))
    (λ relative u. record {
      address = has.address;
      module_address = has.module_address;
      kind_name = has.kind_name;
      name = has.name;
      key = has.key;
      prior_id = has.prior_id;
      few_steps = few.0;
      reads_last = few.1;
      of_one = few.2;
    })))

change_readable : (before : List Data) (d : Data) → IsLegible d → IfOk (change_at before d) IsReadable
unfolding change_at
change_readable before d h =
    then_of IsReadable IsReadable (planned_at (length before) d) _ (planned_readable (length before) d h) (λ change readable. of_test change readable (list_any (names_object_of change) before))
  where
    of_test : (change : ResourceChange) → IsReadable change → (b : Bool) → IfOk (cond b (Err (Duplicate (length before))) (Ok change)) IsReadable
    of_test change readable true = tt
    of_test change readable false = readable

-- ---- the plan

pub record IsReadablePlan (plan : SavedPlan) : Type 0 where
  pub version : IsUtf8 plan.version
  pub changes : AllByRecursion IsReadable plan.changes
  pub few : length plan.changes ≤ max_changes

header_readable : (d : Data) → IsLegible d → IfSome (header_of d) (λ header. IsUtf8 header.version × AreLegible header.elements)
unfolding header_of
header_readable d h =
    let Q = λ (header : Header). IsUtf8 header.version × AreLegible header.elements in
    next_of IsUtf8 Q (text_of (codes "format_version") d) _ (text_utf8 (codes "format_version") d h)
    (λ format u. next_of IsUtf8 Q (text_or (codes "0.0.0") (member_of (codes "terraform_version") d)) _
    (text_or_utf8 (codes "0.0.0") (member_of (codes "terraform_version") d) (IsUtf8-are_ascii (codes "0.0.0") refl) (member_legible (codes "terraform_version") d h))
    (λ version is. next_of AreLegible Q (items_or_empty (member_of (codes "resource_changes") d)) _ (items_legible (member_of (codes "resource_changes") d) (member_legible (codes "resource_changes") d h))
    (λ elements legible. of_test (record { version = version; elements = elements }) (is, legible) (starts_with nat_eq format (codes "1.")))))
  where
    of_test : (header : Header) → IsUtf8 header.version × AreLegible header.elements → (b : Bool) → IfSome (cond b (Some header) None) (λ header. IsUtf8 header.version × AreLegible header.elements)
    of_test header h true = h
    of_test header h false = tt

items_counted : (ds : Items) → length (list_of ds) ≡ items_len ds
items_counted no_items = refl
items_counted (item d ds) = ap suc (items_counted ds)

tree_readable : (d : Data) → IsLegible d → IfOk (plan_of_tree d) IsReadablePlan
unfolding plan_of_tree changes_of
tree_readable d h =
    then_of (λ header. IsUtf8 header.version × AreLegible header.elements) IsReadablePlan (or_refuse NotAPlan (header_of d)) _
    (refused_or (λ header. IsUtf8 header.version × AreLegible header.elements) NotAPlan (header_of d) (header_readable d h))
    (λ header parts. of_test header parts (nat_lt max_changes (items_len header.elements)) refl)
  where
    of_test : (header : Header) → IsUtf8 header.version × AreLegible header.elements → (b : Bool) → nat_lt max_changes (items_len header.elements) ≡ b
        → IfOk (cond b (Err TooMany) (changes_of (list_of header.elements) >>= λ changes. Ok (record { version = header.version; changes = changes }))) IsReadablePlan
    of_test header parts true is = tt
    of_test header parts false is =
        let list = list_of header.elements in
        then_of (AreAnswers IsReadable list) IsReadablePlan (all_or_first (each_with_earlier change_at list)) _
        (each_answered IsLegible IsReadable change_at list change_readable (list_legible header.elements parts.1))
        (λ changes h. record {
          version = parts.0;
          changes = h.0;
          few = (let count = items_counted header.elements in let most = ltb-false max_changes (items_len header.elements) is in let same = h.1 in omega arith);
        })

pub plan_readable : (bytes : List ℕ) (plan : SavedPlan) → plan_of bytes ≡ Ok plan → IsReadablePlan plan
unfolding plan_of
plan_readable bytes plan e = is_answered IsReadablePlan (of_bytes TooLarge NotJson plan_of_tree bytes) plan (made_of_bytes IsReadablePlan TooLarge NotJson plan_of_tree bytes tree_readable) e
