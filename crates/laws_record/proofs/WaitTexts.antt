-- The texts of waits.
use Rattle.std.proofs.Common.{◌≡◌, ℕ, suc, ◌+◌, ◌==◌, ◌<◌, ◌^◌, List, [], ◌∷◌, ◌++◌, IsUtf8, Bool, true, false, cond, decimal, length, slice_get, Option, Some, None, option_map, option_and_then, refl, sym, subst, append_assoc, arith}
use Rattle.std.specs.Prelude.{codes, filter_map, ◌&&◌, IfSome, is_none, nat_lt}
use Rattle.std.specs.List.{cons_option}
use Rattle.std.proofs.lemmas.Bool.{ltb-true}
use Rattle.json.proofs.Printed.Utf8.{IsUtf8-are_ascii}
use Rattle.serde_json.specs.Data.{number, string, unsigned}
use Rattle.apply_model.specs.declared.script.wait.Wait.{Wait}
use Rattle.apply_model.specs.Plan.ResourceChange.{ResourceChange}
use Rattle.stream_record.specs.Parts.{json_text, text_member}
use Rattle.stream_record.specs.ScriptText.{number_text, wait_object_text, wait_text, waited_change, waited_text, waits_text, with_step}
use Rattle.laws_record.specs.Writable.{IsFilled, IsWritableChange}
use Rattle.laws_record.proofs.Fronts.{after_front, deposed_front, first_address, step_front}
use Rattle.laws_record.proofs.Lists.{AreValues, list_before, text_before}
use Rattle.laws_record.proofs.Trees.{step_number, wait_fields, wait_tree, waited_tree, waits_tree}
use Rattle.laws_record.proofs.Values.{AreMembers, Field, IsValue, absent, last_member, number_value, object_value, object_with, present, text_value}

pub filled_utf8 : (text : Option (List ℕ)) → IfSome text IsFilled → IfSome text IsUtf8
filled_utf8 None is = tt
filled_utf8 (Some text) is = is.utf8

number_before : (n step : ℕ) (change : ResourceChange) (rest : List ℕ) (fields : List Field) → step < 2 ^ 64 → AreMembers n rest fields
    → AreMembers n (number_text step change ++ rest) ((codes "step", step_number step change) ∷ fields)
number_before n step change rest fields fits are = of_test (step + 1 == length change.steps)
  where
    of_test : (b : Bool) → AreMembers n (cond b [] (codes ",\"step\":" ++ decimal step) ++ rest) ((codes "step", cond b None (Some (number (unsigned step)))) ∷ fields)
    of_test true = absent (codes "step") n rest fields are
    of_test false =
        subst (λ t. AreMembers n t ((codes "step", Some (number (unsigned step))) ∷ fields)) (sym (append_assoc (codes ",\"step\":") (decimal step) rest))
        (present (codes "step") (codes ",\"step\":") n (decimal step) rest (number (unsigned step)) fields (number_value n step fits) are (IsUtf8-are_ascii (codes ",\"step\":") refl) step_front)

grouped : (a b c d e : List ℕ) → (((a ++ b) ++ c) ++ d) ++ e ≡ a ++ (b ++ (c ++ (d ++ e)))
grouped a b c d e = simp append_assoc

object_of : (n step : ℕ) (change : ResourceChange) → step < 2 ^ 64 → IsWritableChange change → IsValue (suc n) (wait_object_text step change) (object_with (wait_fields step change))
object_of n step change fits is =
    let f2 : List Field = (codes "step", step_number step change) ∷ [] in
    let f1 : List Field = (codes "deposed", option_map string change.deposed) ∷ f2 in
    let at = number_text step change in
    let key = text_member (codes ",\"deposed\":") change.deposed in
    let m2 = number_before n step change (codes "}") [] fits (last_member n) in
    let m1 = text_before (codes "deposed") (codes ",\"deposed\":") n (IsUtf8-are_ascii (codes ",\"deposed\":") refl) deposed_front refl change.deposed (at ++ codes "}") f2
    (filled_utf8 change.deposed is.deposed) m2 in
    subst (λ t. IsValue (suc n) t (object_with (wait_fields step change)))
    (sym (grouped (codes "{\"address\":") (json_text change.address) key at (codes "}")))
    (object_value (codes "address") (codes "{\"address\":") n (json_text change.address) (key ++ (at ++ codes "}")) (string change.address) f1
    (text_value n change.address is.address) m1 (IsUtf8-are_ascii (codes "{\"address\":") refl) first_address)

wait_value : (n step : ℕ) (change : ResourceChange) → step < 2 ^ 64 → IsWritableChange change → IsValue (suc n) (waited_text step change) (waited_tree step change)
wait_value n step change fits is = of_test (step + 1 == length change.steps && is_none change.deposed)
  where
    of_test : (b : Bool) → IsValue (suc n) (cond b (json_text change.address) (wait_object_text step change)) (cond b (string change.address) (object_with (wait_fields step change)))
    of_test true = text_value (suc n) change.address is.address
    of_test false = object_of n step change fits is

-- ---- all waits of a step

-- the changes of a plan
abbrev pub AreWritable : List ResourceChange → Type 0
AreWritable changes = (c : ℕ) → IfSome (slice_get changes c) IsWritableChange

module _ (changes : List ResourceChange) (writable : AreWritable changes) where
  -- a change with that step
  waited_within : (wait : Wait) → IfSome (waited_change changes wait) (λ change. (wait.step < 2 ^ 64) × IsWritableChange change)
  waited_within wait = of_change (slice_get changes wait.change) (writable wait.change)
    where
      of_step : (b : Bool) (change : ResourceChange) → nat_lt wait.step (length change.steps) ≡ b → IsWritableChange change
          → IfSome (cond b (Some change) None) (λ (change : ResourceChange). (wait.step < 2 ^ 64) × IsWritableChange change)
      of_step true change lower is = let less = ltb-true wait.step (length change.steps) lower in let few = is.few in (omega arith, is)
      of_step false change lower is = tt

      of_change : (o : Option ResourceChange) → IfSome o IsWritableChange → IfSome (option_and_then (with_step wait.step) o) (λ (change : ResourceChange). (wait.step < 2 ^ 64) × IsWritableChange change)
      of_change None is = tt
      of_change (Some change) is = of_step (nat_lt wait.step (length change.steps)) change refl is

  wait_values : (n : ℕ) (waits : List Wait) → AreValues (suc n) (filter_map (wait_text changes) waits) (filter_map (wait_tree changes) waits)
  wait_values n [] = tt
  wait_values n (wait ∷ waits) = of_change (waited_change changes wait) (waited_within wait) (wait_values n waits)
    where
      of_change : (o : Option ResourceChange) → IfSome o (λ (change : ResourceChange). (wait.step < 2 ^ 64) × IsWritableChange change)
          → AreValues (suc n) (filter_map (wait_text changes) waits) (filter_map (wait_tree changes) waits)
          → AreValues (suc n) (cons_option (option_map (waited_text wait.step) o) (filter_map (wait_text changes) waits)) (cons_option (option_map (waited_tree wait.step) o) (filter_map (wait_tree changes) waits))
      of_change None is rest = rest
      of_change (Some change) is rest = (wait_value n wait.step change is.0 is.1, rest)

  pub waits_before : (n : ℕ) (waits : List Wait) (rest : List ℕ) (fields : List Field) → AreMembers (suc (suc n)) rest fields
      → AreMembers (suc (suc n)) (waits_text changes waits ++ rest) ((codes "after", waits_tree changes waits) ∷ fields)
  waits_before n waits rest fields are =
      list_before (codes "after") (codes ",\"after\":") (suc n) (IsUtf8-are_ascii (codes ",\"after\":") refl) after_front refl (filter_map (wait_text changes) waits) (filter_map (wait_tree changes) waits)
      rest fields (wait_values n waits) are
