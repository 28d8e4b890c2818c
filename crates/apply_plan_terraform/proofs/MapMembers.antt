-- Members of objects, as maps have them.
use Rattle.std.proofs.Common.{String, Global, BTreeMap, Bor, string_bytes, nat_cmp, ◌≡◌, ℕ, suc, Bool, true, false, ◌&&◌, List, Option, Some, None, option_map, refl, sym, ap, ◌∙◌}
use Rattle.std.specs.BTreeMap.{get_by}
use Rattle.std.specs.Cmp.Lexicographic.{slice_cmp}
use Rattle.std.specs.Option.{is_some, option_copied}
use Rattle.serde_json.specs.Data.{Data, Members, member, put}
use Rattle.serde_json.specs.Find.{get_member}
use Rattle.apply_plan.specs.declared.script.script_error.ScriptError.TheVariants.{BadOutput, UnknownOutput}
use Rattle.apply_plan_terraform.specs.declared.stored.stored_output.StoredOutput.{StoredOutput}
use Rattle.apply_plan_terraform.specs.StoredOutputs.{members_view, view}
use Rattle.apply_plan_terraform.specs.Outputs.{OutputsOfPlan, with_plan_outputs, fault_of, has_output, is_output, is_written}
use Rattle.apply_plan_terraform.proofs.StoredMembers.{view-lookup}

pub located_at : (name : List ℕ) (m : BTreeMap (String Global) StoredOutput) → option_map view (get_by (λ k. slice_cmp nat_cmp name (string_bytes k)) m) ≡ get_member name (members_view m.entries)
located_at name m = view-lookup name m.entries

is_some_seen : (o : Option StoredOutput) → is_some (option_map view o) ≡ is_some o
is_some_seen None = refl
is_some_seen (Some v) = refl

pub present_at : (name : List ℕ) (m : BTreeMap (String Global) StoredOutput) → is_some (get_member name (members_view m.entries)) ≡ is_some (get_by (λ k. slice_cmp nat_cmp name (string_bytes k)) m)
present_at name m = sym (ap is_some (located_at name m)) ∙ is_some_seen _

-- what a look-up borrows
pub borrowed_at : (name : List ℕ) (m : BTreeMap (String Global) StoredOutput) (r : Option (Bor StoredOutput)) (o : Option StoredOutput) → option_copied r ≡ get_by (λ k. slice_cmp nat_cmp name (string_bytes k)) m
    → option_copied r ≡ o → option_map view o ≡ get_member name (members_view m.entries)
borrowed_at name m r o got is = ap (option_map view) (sym is ∙ got) ∙ located_at name m

-- ---- the first fault of outputs, one after the other

module _ (plan : OutputsOfPlan) (number : ℕ) (name : List ℕ) (output : Data) (outputs : Members) where
  pub bad_output : is_output output ≡ false → fault_of plan number (member name output outputs) ≡ Some (BadOutput number)
  bad_output is = rw is refl

  pub unknown_output : is_output output ≡ true → has_output plan name ≡ false → fault_of plan number (member name output outputs) ≡ Some (UnknownOutput number)
  unknown_output is has = rw (is, has) refl

  pub good_output : is_output output ≡ true → has_output plan name ≡ true → fault_of plan number (member name output outputs) ≡ fault_of plan (suc number) outputs
  good_output is has = rw (is, has) refl

-- ---- a plan's outputs next to the script's

and_false : (b : Bool) → (b && false) ≡ false
and_false true = refl
and_false false = refl

module _ (changes : Option Data) (name : List ℕ) (output : Data) (outputs collected : Members) where
  pub put_plan_output : (new : Members) → is_written changes name output ≡ true → is_some (get_member name collected) ≡ false → new ≡ put name output collected
      → with_plan_outputs changes (member name output outputs) collected ≡ with_plan_outputs changes outputs new
  put_plan_output new written absent is = rw (written, absent) (ap (with_plan_outputs changes outputs) (sym is))

  pub not_written : is_written changes name output ≡ false → with_plan_outputs changes (member name output outputs) collected ≡ with_plan_outputs changes outputs collected
  not_written written = rw written refl

  pub present_already : is_some (get_member name collected) ≡ true → with_plan_outputs changes (member name output outputs) collected ≡ with_plan_outputs changes outputs collected
  present_already present = rw (present, and_false (is_written changes name output)) refl
