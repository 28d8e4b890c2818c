-- The deposed key of each change of a plan that was read is a text, and not empty.
use Rattle.std.proofs.Common.{◌≡◌, ℕ, List, [], ◌∷◌, codes, cond, length, nat_lt, Bool, true, false, None, Ok, Some, Err, IsUtf8}
use Rattle.std.specs.Prelude.{IfOk, IfSome}
use Rattle.std.specs.List.{AllByRecursion, list_any}
use Rattle.std.proofs.lemmas.Str.{IsUtf8-nil}
use Rattle.serde_json.specs.Data.{Data}
use Rattle.serde_json.specs.Events.{items_len}
use Rattle.apply_json.specs.Tree.{items_or_empty, list_of, member_of, non_empty_text_of, text_of, text_or, unless_empty}
use Rattle.apply_model.specs.Plan.Address.{relative_address}
use Rattle.apply_model.specs.Plan.ResourceChange.{ResourceChange}
use Rattle.apply_plan.specs.declared.plan.plan_error.PlanError.TheVariants.{TooLarge, NotJson, NotAPlan, TooMany, BadChange, BadActions, BadAddress, Duplicate}
use Rattle.apply_plan.specs.Bytes.{of_bytes}
use Rattle.apply_plan.specs.Plan.Element.{Element, element_of, key_of, mode_named, planned_change_of}
use Rattle.apply_plan.specs.Plan.Header.{Header, header_of}
use Rattle.apply_plan.specs.Plan.SavedPlan.{SavedPlan, change_at, changes_of, max_changes, names_object_of, plan_of, plan_of_tree, planned_at}
use Rattle.apply_plan.specs.Plan.Steps.{steps_of_actions}
use Rattle.apply_plan.specs.Results.{◌>>=◌, all_or_first, each_with_earlier, or_refuse}
use Rattle.laws_check.proofs.Given.{AreAnswers, any_given, each_answered, is_answered, next_of, refused_or, then_of}
use Rattle.laws_check.proofs.Legible.{AreLegible, IsLegible}
use Rattle.laws_check.proofs.LookUps.{items_legible, list_legible, member_legible, text_or_utf8}
use Rattle.laws_check.proofs.ReadBytes.{made_of_bytes}
use Rattle.laws_record.specs.Writable.{IsFilled}

abbrev HasKey : Element → Type 0
HasKey e = IfSome e.deposed IsFilled

abbrev pub HasFilledKey : ResourceChange → Type 0
HasFilledKey change = IfSome change.deposed IsFilled

filled : (text : List ℕ) → IsUtf8 text → IfSome (unless_empty text) IsFilled
filled [] utf8 = tt
filled (byte ∷ bytes) utf8 = record { utf8 = utf8; filled = λ is. cc }

key_of_element : (d : Data) → IsLegible d → IfSome (element_of d) HasKey
unfolding element_of
key_of_element d h =
    next_of (λ _. Unit {0}) HasKey (text_of (codes "address") d) _ (any_given (text_of (codes "address") d))
    (λ address u. next_of (λ _. Unit {0}) HasKey (text_of (codes "mode") d) _ (any_given (text_of (codes "mode") d))
    (λ word u. next_of (λ _. Unit {0}) HasKey (mode_named word) _ (any_given (mode_named word))
    (λ mode u. next_of (λ _. Unit {0}) HasKey (non_empty_text_of (codes "type") d) _ (any_given (non_empty_text_of (codes "type") d))
    (λ kind_name u. next_of (λ _. Unit {0}) HasKey (non_empty_text_of (codes "name") d) _ (any_given (non_empty_text_of (codes "name") d))
    (λ name u. next_of (λ _. Unit {0}) HasKey (text_or [] (member_of (codes "module_address") d)) _ (any_given (text_or [] (member_of (codes "module_address") d)))
    (λ module_address u. next_of (λ _. Unit {0}) HasKey (key_of (member_of (codes "index") d)) _ (any_given (key_of (member_of (codes "index") d)))
    (λ key u. next_of IsUtf8 HasKey (text_or [] (member_of (codes "deposed") d)) _
    (text_or_utf8 [] (member_of (codes "deposed") d) IsUtf8-nil (member_legible (codes "deposed") d h))
    (λ deposed utf8. next_of (λ _. Unit {0}) HasKey (planned_change_of d) _ (any_given (planned_change_of d))
    (λ planned u. filled deposed utf8)))))))))

key_of_change : (n : ℕ) (d : Data) → IsLegible d → IfOk (planned_at n d) HasFilledKey
unfolding planned_at
key_of_change n d h =
    then_of HasKey HasFilledKey (or_refuse (BadChange n) (element_of d)) _ (refused_or HasKey (BadChange n) (element_of d) (key_of_element d h))
    (λ e has. then_of (λ _. Unit {0}) HasFilledKey (or_refuse (BadActions n) (steps_of_actions e.actions)) _
    (refused_or (λ _. Unit {0}) (BadActions n) (steps_of_actions e.actions) (any_given (steps_of_actions e.actions)))
    (λ steps u. then_of (λ _. Unit {0}) HasFilledKey (or_refuse (BadAddress n) (relative_address e.module_address e.address)) _
    (refused_or (λ _. Unit {0}) (BadAddress n) (relative_address e.module_address e.address) (any_given (relative_address e.module_address e.address)))
    (λ relative u. has)))

key_at : (before : List Data) (d : Data) → IsLegible d → IfOk (change_at before d) HasFilledKey
unfolding change_at
key_at before d h =
    then_of HasFilledKey HasFilledKey (planned_at (length before) d) _ (key_of_change (length before) d h)
    (λ change has. of_test change has (list_any (names_object_of change) before))
  where
    of_test : (change : ResourceChange) → HasFilledKey change → (b : Bool) → IfOk (cond b (Err (Duplicate (length before))) (Ok change)) HasFilledKey
    of_test change has true = tt
    of_test change has false = has

-- ---- the plan

abbrev HaveFilledKeys : SavedPlan → Type 0
HaveFilledKeys plan = AllByRecursion HasFilledKey plan.changes

abbrev HasLegible : Header → Type 0
HasLegible header = AreLegible header.elements

elements_legible : (d : Data) → IsLegible d → IfSome (header_of d) (λ header. AreLegible header.elements)
unfolding header_of
elements_legible d h =
    next_of (λ _. Unit {0}) HasLegible (text_of (codes "format_version") d) _ (any_given (text_of (codes "format_version") d))
    (λ format u. next_of (λ _. Unit {0}) HasLegible (text_or (codes "0.0.0") (member_of (codes "terraform_version") d)) _
    (any_given (text_or (codes "0.0.0") (member_of (codes "terraform_version") d)))
    (λ version u. next_of AreLegible HasLegible (items_or_empty (member_of (codes "resource_changes") d)) _
    (items_legible (member_of (codes "resource_changes") d) (member_legible (codes "resource_changes") d h))
    (λ elements legible. of_test (record { version = version; elements = elements }) legible _)))
  where
    of_test : (header : Header) → AreLegible header.elements → (b : Bool) → IfSome (cond b (Some header) None) HasLegible
    of_test header h true = h
    of_test header h false = tt

keys_of_tree : (d : Data) → IsLegible d → IfOk (plan_of_tree d) HaveFilledKeys
unfolding plan_of_tree changes_of
keys_of_tree d h =
    then_of (λ header. AreLegible header.elements) HaveFilledKeys (or_refuse NotAPlan (header_of d)) _
    (refused_or (λ header. AreLegible header.elements) NotAPlan (header_of d) (elements_legible d h))
    (λ header legible. of_test header legible (nat_lt max_changes (items_len header.elements)))
  where
    of_test : (header : Header) → AreLegible header.elements → (b : Bool)
        → IfOk (cond b (Err TooMany) (changes_of (list_of header.elements) >>= λ changes. Ok (record { version = header.version; changes = changes }))) HaveFilledKeys
    of_test header legible true = tt
    of_test header legible false =
        let list = list_of header.elements in
        then_of (AreAnswers HasFilledKey list) HaveFilledKeys (all_or_first (each_with_earlier change_at list)) _
        (each_answered IsLegible HasFilledKey change_at list key_at (list_legible header.elements legible))
        (λ changes answers. answers.0)

pub keys_filled : (bytes : List ℕ) (plan : SavedPlan) → plan_of bytes ≡ Ok plan → AllByRecursion HasFilledKey plan.changes
unfolding plan_of
keys_filled bytes plan is = is_answered HaveFilledKeys (of_bytes TooLarge NotJson plan_of_tree bytes) plan (made_of_bytes HaveFilledKeys TooLarge NotJson plan_of_tree bytes keys_of_tree) is
