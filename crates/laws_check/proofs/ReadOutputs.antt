-- The outputs of a plan and a script that were read: their names are UTF-8, and their verbatim
-- texts are values.
use Rattle.std.proofs.Common.{ℕ, List, codes, cond, IsUtf8, Bool, true, false, Option, Some, None, Result, Ok, Err, refl, arith}
use Rattle.std.specs.Prelude.{IfOk, IfSome, ◌&&◌, is_some, not}
use Rattle.std.specs.List.{AllByRecursion}
use Rattle.json.specs.Json as json
use Rattle.json.specs.Json.{Json}
use Rattle.json.specs.Print.{print_from}
use Rattle.json.proofs.Printed.Utf8.{IsUtf8-are_ascii}
use Rattle.serde_json.specs.Data.{Data, null, Members, no_members, member, put}
use Rattle.serde_json.specs.Find.{as_object, as_str, get, get_member}
use Rattle.apply_json.specs.Tree.{◌>>=◌}
use Rattle.apply_plan.specs.declared.script.script_error.ScriptError.{ScriptError}
use Rattle.apply_plan.specs.declared.script.script_error.ScriptError.TheVariants.{BadShape}
use Rattle.apply_plan.specs.Results as results
use Rattle.apply_plan_terraform.specs.declared.texts.part.Part.TheVariants.{Plan, State, Values, Script, Outputs, Output}
use Rattle.apply_plan_terraform.specs.Outputs.{OutputsOfPlan, as_outputs, with_plan_outputs, fault_of, is_null, is_written, output_of, outputs_in_script, outputs_of_plan, text_at, written_outputs, unless_faulty}
use Rattle.apply_plan_terraform.specs.Texts.{with_texts}
use Rattle.laws_check.specs.FormTexts.{HasOutputTexts, IsValueText}
use Rattle.laws_check.proofs.Given.{next_of, refused_or, unwrapped}
use Rattle.laws_check.proofs.VerbatimValues.{AllCome, Comes, IsWhole, is_part, members_of, named, put_comes, text_verbatim}

abbrev pub AreOutputs : Members → Type 0
AreOutputs ms = AllCome 125 Outputs ms

-- ---- what is read of them

plan_outputs : (d : Data) → Comes 129 Plan d → AreOutputs (outputs_of_plan d).known
plan_outputs d comes =
    let state = named 128 Plan State (codes "prior_state") refl d comes in
    let values = next_of (Comes 128 State) (Comes 127 Values) (get (codes "prior_state") d) (get (codes "values")) state (named 127 State Values (codes "values") refl) in
    let outputs = next_of (Comes 127 Values) (Comes 126 Outputs) (get (codes "prior_state") d >>= get (codes "values")) (get (codes "outputs")) values (named 126 Values Outputs (codes "outputs") refl) in
    let members = next_of (Comes 126 Outputs) AreOutputs (get (codes "prior_state") d >>= get (codes "values") >>= get (codes "outputs")) as_object outputs (members_of 125 Outputs) in
    unwrapped AreOutputs (get (codes "prior_state") d >>= get (codes "values") >>= get (codes "outputs") >>= as_object) no_members members tt

pub known_outputs : (j : Json) → IsWhole 127 j → AreOutputs (outputs_of_plan (with_texts Plan j)).known
known_outputs j whole =
    plan_outputs (with_texts Plan j) (j, record { clear = whole.clear; numbers = whole.numbers; shallow = omega (arith, whole.shallow); tree = whole.tree }, refl)

in_script : (located : Option Data) → IfSome located (Comes 126 Outputs) → IfOk (outputs_in_script located) AreOutputs
in_script None h = tt
in_script (Some d) h = of_test (is_null (as_str d))
  where
    of_test : (b : Bool) → IfOk (cond b (Ok no_members) (results.or_refuse (BadShape None) (as_object d))) AreOutputs
    of_test true = tt
    of_test false = refused_or AreOutputs (BadShape None) (as_object d) (members_of 125 Outputs d h)

without_fault : (plan : OutputsOfPlan) (r : Result Members ScriptError) → IfOk r AreOutputs → IfOk (unless_faulty plan r) AreOutputs
without_fault plan (Err refusal) h = tt
without_fault plan (Ok ms) h = of_fault (fault_of plan 0 ms)
  where
    of_fault : (o : Option ScriptError) → IfOk (results.unless_refused o ms) AreOutputs
    of_fault None = h
    of_fault (Some refusal) = tt

pub script_outputs : (plan : OutputsOfPlan) (d : Data) → Comes 127 Script d → IfOk (unless_faulty plan (outputs_in_script (get (codes "outputs") d))) AreOutputs
script_outputs plan d comes =
    without_fault plan (outputs_in_script (get (codes "outputs") d)) (in_script (get (codes "outputs") d) (named 126 Script Outputs (codes "outputs") refl d comes))

-- ---- their texts

null_verbatim : IsValueText (codes "null")
unfolding print_from
null_verbatim = (null, record { json = json.null; text_is = refl; utf8 = IsUtf8-are_ascii (codes "null") refl; numbers = tt; shallow = omega arith; value_is = refl })

one_output : (name : List ℕ) (d : Data) → IsUtf8 name → Comes 125 Output d → HasOutputTexts (output_of name d)
one_output name d utf8 comes = record {
  name = utf8;
  kind = unwrapped IsValueText (text_at (codes "type") d) (codes "null") (text_verbatim 124 (omega arith) Output (codes "type") refl d comes) null_verbatim;
  value = λ e. unwrapped IsValueText (text_at (codes "value") d) (codes "null") (text_verbatim 124 (omega arith) Output (codes "value") refl d comes) null_verbatim;
}

each_output : (ms : Members) → AreOutputs ms → AllByRecursion HasOutputTexts (as_outputs ms)
each_output no_members come = tt
each_output (member name d ms) come = (one_output name d come.0.0 (is_part 125 Outputs Output name d refl come.0.1), each_output ms come.1)

both_come : (changes : Option Data) (known located : Members) → AreOutputs known → AreOutputs located → AreOutputs (with_plan_outputs changes known located)
both_come changes no_members located come others = others
both_come changes (member name d ms) located come others =
    both_come changes ms (cond (is_written changes name d && not (is_some (get_member name located))) (put name d located) located) come.1 (of_test (is_written changes name d && not (is_some (get_member name located))))
  where
    of_test : (b : Bool) → AreOutputs (cond b (put name d located) located)
    of_test true = put_comes 125 Outputs name d located come.0.0 come.0.1 others
    of_test false = others

pub outputs_read_back : (plan : OutputsOfPlan) (script : Members) → AreOutputs plan.known → AreOutputs script → AllByRecursion HasOutputTexts (written_outputs plan script)
outputs_read_back plan script known stated = each_output (with_plan_outputs plan.changes plan.known script) (both_come plan.changes plan.known script known stated)
