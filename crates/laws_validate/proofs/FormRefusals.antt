-- If a run in Terraform's form refuses members that only it reads, an error is reported where the
-- refusal points.
use Rattle.std.proofs.Common.{◌≡◌, ◌≤◌, ℕ, suc, List, [], ◌∷◌, ◌++◌, map, Bool, true, false, not, ◌&&◌, ◌||◌, is_err, is_ok, is_some, Option, Some, None, Result, Ok, Err, refl, sym, ap, subst, ◌∙◌, if◌then◌else◌, arith}
use Rattle.std.specs.Prelude.{codes, nat_eq, option_map}
use Rattle.std.specs.List.{list_any}
use Rattle.std.specs.Option.{option_map_or}
use Rattle.std.specs.Str.{bytes_eq}
use Rattle.std.proofs.lemmas.Bool.Decides.{nat_tests}
use Rattle.std.proofs.lemmas.List.{map-append}
use Rattle.std.proofs.lemmas.List.Folds.{list_any-append}
use Rattle.json.specs.Json as json
use Rattle.json.specs.Json.{Json}
use Rattle.json.specs.Print.{print_from}
use Rattle.json.specs.Tree.{ItemsHaveNumbers, items_depth}
use Rattle.serde_json.specs.Data.{Data, boolean, number, string, array, object, Items, item, Members, no_members, member}
use Rattle.serde_json.specs.Find.{get}
use Rattle.serde_json.specs.Read.{max_depth, number_of, of_items, of_json, of_members}
use Rattle.apply_json.specs.Tree.{◌>>=◌, list_of, tree_of, unless_null}
use Rattle.apply_model.specs.declared.details.note.Note.{Note}
use Rattle.apply_model.specs.Plan.SavedPlan.{SavedPlan}
use Rattle.apply_model.specs.Script.OutcomeMap.{OutcomeMap}
use Rattle.apply_plan.specs.declared.plan.plan_error.PlanError.{PlanError}
use Rattle.apply_plan.specs.declared.script.script_error.ScriptError.{ScriptError}
use Rattle.apply_plan.specs.declared.script.script_error.ScriptError.TheVariants.{BadDiagnostic, BadOutput, BadShape, UnknownOutput}
use Rattle.apply_plan.specs.Plan.SavedPlan.{plan_of}
use Rattle.apply_plan.specs.Results as results
use Rattle.apply_plan.specs.Script.OutcomeMap.{script_of}
use Rattle.apply_plan_terraform.specs.declared.texts.part.Part.TheVariants as part
use Rattle.apply_plan_terraform.specs.Extras.{extras_of_bytes, extras_of_json, extras_of_script, with_notes}
use Rattle.apply_plan_terraform.specs.Notes as noted
use Rattle.apply_plan_terraform.specs.Notes.{items_of, note_in, notes_from, notes_in_script}
use Rattle.apply_plan_terraform.specs.Outputs.{OutputsOfPlan, fault_of, has_output, is_output, outputs_in_script, unless_faulty}
use Rattle.apply_plan_terraform.specs.Texts.{members_with_texts, text_of, with_texts}
use Rattle.apply_plan_terraform.specs.ReadDetails.{DetailsOfPlan, details_of}
use Rattle.input_validate.specs.declared.findings.finding.Finding.{Finding}
use Rattle.input_validate.specs.declared.findings.name.Name.{Name}
use Rattle.input_validate.specs.declared.findings.name.Name.TheVariants as name
use Rattle.input_validate.specs.declared.findings.path.Segment.{Segment}
use Rattle.input_validate.specs.declared.findings.path.Segment.TheVariants.{Item, Member, Other}
use Rattle.input_validate.specs.declared.findings.expected.Expected.{Expected}
use Rattle.input_validate.specs.declared.findings.expected.Expected.TheVariants as expected
use Rattle.input_validate.specs.declared.form.Form.{Form}
use Rattle.input_validate.specs.declared.form.Form.TheVariants.{Applystream, Terraform, TerraformPlan, TerraformApply}
use Rattle.input_validate.specs.Extras.{extras_findings, in_extras, in_note, in_plan_output, in_plan_outputs, members_from, outputs_unless}
use Rattle.input_validate.specs.Findings.{finding_at, is_refusal, under}
use Rattle.input_validate.specs.InForm.{doubts_unless, extras_for, findings_before_doubts, findings_in, is_refused}
use Rattle.input_validate.specs.Planning.{objects_unless, planning_findings}
use Rattle.laws_validate.specs.Laws.{goes_to, has_refusal, has_refusal_to, reads_extras}
use Rattle.input_validate.specs.Rules.{in_items, items_from, mismatch}
use Rattle.input_validate.specs.Expectations.{is_met}
use Rattle.input_validate.specs.Whole.{given_findings, plan_findings}
use Rattle.laws_validate.proofs.Clean.{clean}
use Rattle.laws_validate.proofs.ExtrasRead.{clean_note, clean_output}
use Rattle.laws_validate.proofs.FormRuns.{of_accepted_tree}
use Rattle.laws_validate.proofs.VerbatimTrees.{AreOf, AreOutputs, all_outputs, at_part, behind, verbatim_whole}
use Rattle.input_validate.proofs.Options.{not_not}
use Rattle.laws_validate.proofs.Plans.{refusals_of_plan}
use Rattle.laws_validate.proofs.Spelt.{IsOf, mapped, null_text, read_back}

-- one of the findings is where the refusal points
abbrev is_to : ScriptError → Finding → Bool
is_to refusal finding = is_refusal finding && goes_to refusal finding.path

pub same_number : (n : ℕ) → nat_eq n n ≡ true
same_number n = grind (arith, nat_tests)

pub and_one : (a b : Bool) → b ≡ true → (a && b) ≡ a
and_one true b e = e
and_one false b e = refl

or_true : (a b : Bool) → b ≡ true → (a || b) ≡ true
or_true true b e = refl
or_true false b e = e

any_left : (p : Finding → Bool) (xs ys : List Finding) → list_any p xs ≡ true → list_any p (xs ++ ys) ≡ true
any_left p xs ys e = list_any-append p xs ys ∙ ap (λ (b : Bool). b || list_any p ys) e

any_right : (p : Finding → Bool) (xs ys : List Finding) → list_any p ys ≡ true → list_any p (xs ++ ys) ≡ true
any_right p xs ys e = list_any-append p xs ys ∙ or_true (list_any p xs) (list_any p ys) e

pub not_clean : (xs : List Finding) → clean xs ≡ false → list_any is_refusal xs ≡ true
not_clean xs e = sym (not_not (list_any is_refusal xs)) ∙ ap not e

-- the findings of an item or a member with this number, in a member at the top
module _ (refusal : ScriptError) (at : Name) (inner : Segment) (goes : (path : List Segment) → goes_to refusal (Member at ∷ inner ∷ path) ≡ true) where
  all_there : (xs : List Finding) → list_any (is_to refusal) (map (under (Member at)) (map (under inner) xs)) ≡ list_any is_refusal xs
  all_there [] = refl
  all_there (x ∷ xs) =
      ap (λ (b : Bool). b || list_any (is_to refusal) (map (under (Member at)) (map (under inner) xs))) (and_one (is_refusal x) _ (goes x.path))
      ∙ ap (λ (b : Bool). is_refusal x || b) (all_there xs)

  reported_there : (xs : List Finding) → clean xs ≡ false → list_any (is_to refusal) (map (under (Member at)) (map (under inner) xs)) ≡ true
  reported_there xs e = all_there xs ∙ not_clean xs e

-- ---- outputs

some_is : {A : Type 0} (x y : A) → Some x ≡ Some y → x ≡ y
some_is x y e = cc

abbrev outputs_at : List Finding → List Finding
outputs_at xs = map (under (Member name.Outputs)) xs

by_fault : (a b : Bool) (n : ℕ) (r : Option ScriptError) (refusal : ScriptError) (own rest : List Finding) → clean own ≡ (a && b)
    → (let o : Option ScriptError = if not a then Some (BadOutput n) else if not b then Some (UnknownOutput n) else r in o) ≡ Some refusal
    → (r ≡ Some refusal → list_any (is_to refusal) (outputs_at rest) ≡ true)
    → list_any (is_to refusal) (outputs_at (map (under (Other n)) own) ++ outputs_at rest) ≡ true
by_fault false b n r refusal own rest findings e later =
    let is : BadOutput n ≡ refusal = some_is (BadOutput n) refusal e in
    any_left (is_to refusal) (outputs_at (map (under (Other n)) own)) (outputs_at rest)
    (reported_there refusal name.Outputs (Other n) (λ path. ap (λ (x : ScriptError). goes_to x (Member name.Outputs ∷ Other n ∷ path)) (sym is) ∙ same_number n) own findings)
by_fault true false n r refusal own rest findings e later =
    let is : UnknownOutput n ≡ refusal = some_is (UnknownOutput n) refusal e in
    any_left (is_to refusal) (outputs_at (map (under (Other n)) own)) (outputs_at rest)
    (reported_there refusal name.Outputs (Other n) (λ path. ap (λ (x : ScriptError). goes_to x (Member name.Outputs ∷ Other n ∷ path)) (sym is) ∙ same_number n) own findings)
by_fault true true n r refusal own rest findings e later =
    any_right (is_to refusal) (outputs_at (map (under (Other n)) own)) (outputs_at rest) (later e)

reported_members : (plan : OutputsOfPlan) (refusal : ScriptError) (n : ℕ) (ms ts : Members) → AreOutputs ms ts → fault_of plan n ts ≡ Some refusal
    → list_any (is_to refusal) (outputs_at (members_from (in_plan_output (Some plan)) n ms)) ≡ true
reported_members plan refusal n no_members ts a e = absurd (let never : fault_of plan n no_members ≡ Some refusal = ap (fault_of plan n) (sym a) ∙ e in cc)
reported_members plan refusal n (member l d ms) ts a e =
    let own : List Finding = in_plan_output (Some plan) l d in
    let rest : List Finding = members_from (in_plan_output (Some plan)) (suc n) ms in
    ap (list_any (is_to refusal)) (map-append (under (Member name.Outputs)) (map (under (Other n)) own) rest)
    ∙ by_fault (is_output (with_texts part.Output a.0)) (has_output plan l) n (fault_of plan (suc n) a.1) refusal own rest (clean_output plan l a.0 d a.3)
    (ap (fault_of plan n) (sym a.2) ∙ e) (reported_members plan refusal (suc n) ms a.1 a.4)

-- ---- diagnostics of no step

abbrev notes_at : List Finding → List Finding
notes_at xs = map (under (Member name.Diagnostics)) xs

err_is : {A E : Type 0} (x y : E) → (let r : Result A E = Err x in r) ≡ Err y → x ≡ y
err_is x y e = cc

by_note : (o : Option Note) (n : ℕ) (r : Result (List Note) ScriptError) (refusal : ScriptError) (own rest : List Finding) → clean own ≡ is_some o
    → results.◌>>=◌ (results.or_refuse (BadDiagnostic n) o) (λ note. results.◌>>=◌ r (λ notes. Ok (note ∷ notes))) ≡ Err refusal
    → (r ≡ Err refusal → list_any (is_to refusal) (notes_at rest) ≡ true)
    → list_any (is_to refusal) (notes_at (map (under (Item n)) own) ++ notes_at rest) ≡ true
by_note None n r refusal own rest findings e later =
    let is : BadDiagnostic n ≡ refusal = err_is (BadDiagnostic n) refusal e in
    any_left (is_to refusal) (notes_at (map (under (Item n)) own)) (notes_at rest)
    (reported_there refusal name.Diagnostics (Item n) (λ path. ap (λ (x : ScriptError). goes_to x (Member name.Diagnostics ∷ Item n ∷ path)) (sym is) ∙ same_number n) own findings)
by_note (Some note) n (Ok notes) refusal own rest findings e later = absurd cc
by_note (Some note) n (Err x) refusal own rest findings e later =
    any_right (is_to refusal) (notes_at (map (under (Item n)) own)) (notes_at rest) (later e)

reported_items : (refusal : ScriptError) (n : ℕ) (js : json.Items) (ds : Items) → ItemsHaveNumbers js → items_depth js ≤ max_depth → of_items js ≡ Some ds → notes_from n (items_of js) ≡ Err refusal
    → list_any (is_to refusal) (notes_at (items_from (λ number. in_note) n (list_of ds))) ≡ true
reported_items refusal n json.no_items ds has shallow is e = absurd cc
reported_items refusal n (json.item j js) ds has shallow is e =
    let one = behind (of_json j) (λ d. option_map (item d) (of_items js)) ds is in
    let more = mapped (item one.0) (of_items js) ds one.2 in
    let of : IsOf j one.0 = record { numbers = has.0; shallow = omega (arith, shallow); is = one.1 } in
    rw more.2
    (ap (list_any (is_to refusal)) (map-append (under (Member name.Diagnostics)) (map (under (Item n)) (in_note one.0)) (items_from (λ number. in_note) (suc n) (list_of more.0)))
    ∙ by_note (note_in (with_texts part.Diagnostic j)) n (notes_from (suc n) (items_of js)) refusal (in_note one.0) (items_from (λ number. in_note) (suc n) (list_of more.0)) (clean_note j one.0 of)
    e (reported_items refusal (suc n) js more.0 has.1 (omega (arith, shallow)) more.1))

-- ---- the two members

-- the findings of a member at the top that holds the value
abbrev at_top : Name → Expected → (Data → List Finding) → Option Data → List Finding
at_top at wanted findings o =
    (if is_met wanted (o >>= unless_null) then [] else finding_at (Member at) (mismatch wanted o) ∷ [])
    ++ option_map_or (λ value. map (under (Member at)) (findings value)) (o >>= unless_null) []

-- the value is not what it has to be
no_shape : (refusal : ScriptError) (xs : List Finding) → (let r : Result (List Note) ScriptError = Err (BadShape None) in r) ≡ Err refusal → list_any (is_to (BadShape None)) xs ≡ true → list_any (is_to refusal) xs ≡ true
no_shape refusal xs e findings = ap (λ (x : ScriptError). list_any (is_to x) xs) (sym (err_is (BadShape None) refusal e)) ∙ findings

no_members_shape : (refusal : ScriptError) (xs : List Finding) → (let r : Result Members ScriptError = Err (BadShape None) in r) ≡ Err refusal → list_any (is_to (BadShape None)) xs ≡ true → list_any (is_to refusal) xs ≡ true
no_members_shape refusal xs e findings = ap (λ (x : ScriptError). list_any (is_to x) xs) (sym (err_is (BadShape None) refusal e)) ∙ findings

abbrev outputs_findings : OutputsOfPlan → Option Data → List Finding
outputs_findings plan o = at_top name.Outputs expected.ObjectOrAbsent (in_plan_outputs (Some plan)) o

abbrev outputs_accepted : OutputsOfPlan → Option Data → Result Members ScriptError
outputs_accepted plan p = unless_faulty plan (outputs_in_script p)

no_object : (plan : OutputsOfPlan) (text : List ℕ) (refusal : ScriptError) → bytes_eq text (codes "null") ≡ false → outputs_accepted plan (Some (string text)) ≡ Err refusal
    → (let r : Result Members ScriptError = Err (BadShape None) in r) ≡ Err refusal
no_object plan text refusal not e = (let is : outputs_accepted plan (Some (string text)) ≡ Err (BadShape None) = rw not refl in sym is) ∙ e

faulty : (ts : Members) (refusal : ScriptError) (o : Option ScriptError) → results.unless_refused o ts ≡ Err refusal → o ≡ Some refusal
faulty ts refusal None e = absurd cc
faulty ts refusal (Some x) e = ap (λ (y : ScriptError). Some y) (err_is x refusal e)

outputs_reported : (plan : OutputsOfPlan) (refusal : ScriptError) (j : Json) (d : Data) → IsOf j d → outputs_accepted plan (Some (with_texts part.Outputs j)) ≡ Err refusal
    → list_any (is_to refusal) (outputs_findings plan (Some d)) ≡ true
unfolding print_from
outputs_reported plan refusal json.null d of e = absurd cc
outputs_reported plan refusal (json.boolean true) d of e = rw (sym (some_is (boolean true) d of.is)) (no_members_shape refusal (outputs_findings plan (Some (boolean true))) e refl)
outputs_reported plan refusal (json.boolean false) d of e = rw (sym (some_is (boolean false) d of.is)) (no_members_shape refusal (outputs_findings plan (Some (boolean false))) e refl)
outputs_reported plan refusal (json.number s) d of e =
    let it = mapped number (number_of s) d of.is in
    rw it.2
    (no_members_shape refusal (outputs_findings plan (Some (number it.0)))
    (no_object plan (text_of (json.number s)) refusal (null_text (json.number s) (number it.0) (subst (IsOf (json.number s)) it.2 of)) e) refl)
outputs_reported plan refusal (json.string s) d of e = rw (sym (some_is (string s) d of.is)) (no_members_shape refusal (outputs_findings plan (Some (string s))) e refl)
outputs_reported plan refusal (json.array js) d of e =
    let it = mapped array (of_items js) d of.is in
    rw it.2 (no_members_shape refusal (outputs_findings plan (Some (array it.0))) e refl)
outputs_reported plan refusal (json.object ms) d of e =
    let it = mapped object (of_members ms no_members) d of.is in
    let ts : Members = members_with_texts part.Outputs ms no_members in
    rw it.2
    (reported_members plan refusal 0 it.0 ts (all_outputs ms no_members no_members it.0 of.numbers (omega (arith, of.shallow)) it.1 refl) (faulty ts refusal (fault_of plan 0 ts) e))

outputs_there : (plan : OutputsOfPlan) (refusal : ScriptError) (o p : Option Data) → AreOf part.Outputs o p → outputs_accepted plan p ≡ Err refusal → list_any (is_to refusal) (outputs_findings plan o) ≡ true
outputs_there plan refusal None p a e = absurd (let never : outputs_accepted plan None ≡ Err refusal = ap (outputs_accepted plan) (sym a) ∙ e in cc)
outputs_there plan refusal (Some d) p a e = outputs_reported plan refusal a.0 d a.1 (ap (outputs_accepted plan) (sym a.2) ∙ e)

abbrev notes_findings : Option Data → List Finding
notes_findings o = at_top name.Diagnostics expected.ArrayOrAbsent (in_items (λ number. in_note)) o

-- what a run reads of a value's own text
accepted_of : (j : Json) (d : Data) → IsOf j d → is_some (unless_null d) ≡ true → notes_in_script (Some (string (text_of j))) ≡ results.◌>>=◌ (results.or_refuse (BadShape None) (noted.items_in j)) (notes_from 0)
accepted_of j d of there = rw (null_text j d of ∙ ap not there, read_back j of.numbers of.shallow) refl

notes_reported : (refusal : ScriptError) (j : Json) (d : Data) → IsOf j d → notes_in_script (Some (string (text_of j))) ≡ Err refusal → list_any (is_to refusal) (notes_findings (Some d)) ≡ true
unfolding print_from
notes_reported refusal json.null d of e = absurd cc
notes_reported refusal (json.boolean b) d of e =
    let is : d ≡ boolean b = sym (some_is (boolean b) d of.is) in
    rw is (no_shape refusal (notes_findings (Some (boolean b))) (sym (accepted_of (json.boolean b) (boolean b) (subst (IsOf (json.boolean b)) is of) refl) ∙ e) refl)
notes_reported refusal (json.number s) d of e =
    let it = mapped number (number_of s) d of.is in
    rw it.2 (no_shape refusal (notes_findings (Some (number it.0))) (sym (accepted_of (json.number s) (number it.0) (subst (IsOf (json.number s)) it.2 of) refl) ∙ e) refl)
notes_reported refusal (json.string s) d of e =
    let is : d ≡ string s = sym (some_is (string s) d of.is) in
    rw is (no_shape refusal (notes_findings (Some (string s))) (sym (accepted_of (json.string s) (string s) (subst (IsOf (json.string s)) is of) refl) ∙ e) refl)
notes_reported refusal (json.array js) d of e =
    let it = mapped array (of_items js) d of.is in
    rw it.2
    (reported_items refusal 0 js it.0 of.numbers (omega (arith, of.shallow)) it.1
    (sym (accepted_of (json.array js) (array it.0) (subst (IsOf (json.array js)) it.2 of) refl) ∙ e))
notes_reported refusal (json.object ms) d of e =
    let it = mapped object (of_members ms no_members) d of.is in
    rw it.2 (no_shape refusal (notes_findings (Some (object it.0))) (sym (accepted_of (json.object ms) (object it.0) (subst (IsOf (json.object ms)) it.2 of) refl) ∙ e) refl)

notes_there : (refusal : ScriptError) (o p : Option Data) → AreOf part.Diagnostics o p → notes_in_script p ≡ Err refusal → list_any (is_to refusal) (notes_findings o) ≡ true
notes_there refusal None p a e = absurd (let never : notes_in_script None ≡ Err refusal = ap notes_in_script (sym a) ∙ e in cc)
notes_there refusal (Some d) p a e =
    notes_reported refusal a.0 d a.1 (ap (λ (t : Data). notes_in_script (Some t)) (sym (verbatim_whole part.Diagnostics a.0 refl)) ∙ ap notes_in_script (sym a.2) ∙ e)

-- ---- the whole

by_refusal : (r : Result Members ScriptError) (q : Result (List Note) ScriptError) (refusal : ScriptError) (xs ys : List Finding)
    → results.◌>>=◌ r (λ outputs. results.◌>>=◌ q (λ findings. Ok (with_notes outputs findings))) ≡ Err refusal
    → (r ≡ Err refusal → list_any (is_to refusal) xs ≡ true) → (q ≡ Err refusal → list_any (is_to refusal) ys ≡ true) → list_any (is_to refusal) (xs ++ ys) ≡ true
by_refusal (Ok outputs) (Ok findings) refusal xs ys e one other = absurd cc
by_refusal (Ok outputs) (Err x) refusal xs ys e one other =
    any_right (is_to refusal) xs ys (other (ap (λ (y : ScriptError). let r : Result (List Note) ScriptError = Err y in r) (err_is x refusal e)))
by_refusal (Err x) q refusal xs ys e one other =
    any_left (is_to refusal) xs ys (one (ap (λ (y : ScriptError). let r : Result Members ScriptError = Err y in r) (err_is x refusal e)))

pub reported_extras : (plan : OutputsOfPlan) (refusal : ScriptError) (j : Json) (d : Data) → IsOf j d → extras_of_script plan (with_texts part.Script j) ≡ Err refusal → has_refusal_to refusal (in_extras (Some plan) d) ≡ true
unfolding in_extras
reported_extras plan refusal j d of e =
    let t : Data = with_texts part.Script j in
    by_refusal (outputs_accepted plan (get (codes "outputs") t)) (notes_in_script (get (codes "diagnostics") t)) refusal (outputs_findings plan (get (codes "outputs") d)) (notes_findings (get (codes "diagnostics") d)) e
    (outputs_there plan refusal (get (codes "outputs") d) (get (codes "outputs") t) (at_part part.Script part.Outputs (codes "outputs") refl refl j d of))
    (notes_there refusal (get (codes "diagnostics") d) (get (codes "diagnostics") t) (at_part part.Script part.Diagnostics (codes "diagnostics") refl refl j d of))

-- in a script that a run accepts
in_bytes : (saved : SavedPlan) (plan : OutputsOfPlan) (bytes : List ℕ) (refusal : ScriptError) → is_ok (script_of saved bytes) ≡ true → extras_of_bytes plan bytes ≡ Err refusal
    → has_refusal_to refusal (extras_findings (Some plan) bytes) ≡ true
in_bytes saved plan bytes refusal accepted e =
    let of = of_accepted_tree saved bytes accepted in
    ap (λ (large : Bool). has_refusal_to refusal (if large then [] else option_map_or (in_extras (Some plan)) (tree_of bytes) [])) of.small
    ∙ ap (λ (o : Option Data). has_refusal_to refusal (option_map_or (in_extras (Some plan)) o [])) of.tree_is
    ∙ (reported_extras plan refusal of.value of.tree of.is_of (ap (extras_of_json plan) (sym of.value_is) ∙ e))

-- what is found in these members is among all findings
in_extras_for : (p : Finding → Bool) (form : Form) → reads_extras form ≡ true → (refused : Bool) (plan bytes : List ℕ) → list_any p (extras_findings (outputs_unless refused plan) bytes) ≡ true
    → list_any p (extras_for form refused plan (Some bytes)) ≡ true
in_extras_for p Applystream e refused plan bytes h = absurd cc
in_extras_for p Terraform e refused plan bytes h = h
in_extras_for p TerraformPlan e refused plan bytes h = any_left p (extras_findings (outputs_unless refused plan) bytes) (planning_findings (objects_unless refused plan) bytes) h
in_extras_for p TerraformApply e refused plan bytes h = any_left p (extras_findings (outputs_unless refused plan) bytes) (planning_findings (objects_unless refused plan) bytes) h

pub refusal_in_form : (form : Form) (lanes : Bool) (plan bytes : List ℕ) (saved : SavedPlan) (script : OutcomeMap) (details : DetailsOfPlan) (refusal : ScriptError) → reads_extras form ≡ true
    → plan_of plan ≡ Ok saved → script_of saved bytes ≡ Ok script → details_of plan ≡ Some details → extras_of_bytes details.outputs bytes ≡ Err refusal
    → has_refusal_to refusal (findings_in form lanes plan (Some bytes)) ≡ true
refusal_in_form form lanes plan bytes saved script details refusal reads planned accepted reported e =
    let refused : Bool = has_refusal (plan_findings plan) in
    let fine : refused ≡ false = refusals_of_plan plan ∙ ap (λ (r : Result SavedPlan PlanError). is_err r) planned in
    any_left (is_to refusal) (findings_before_doubts form lanes plan (Some bytes)) (doubts_unless (is_refused form lanes plan (Some bytes)) form lanes plan (Some bytes))
    (any_right (is_to refusal) (given_findings lanes (plan_of plan) (Some bytes)) (extras_for form refused plan (Some bytes))
    (in_extras_for (is_to refusal) form reads refused plan bytes
    (ap (λ (b : Bool). has_refusal_to refusal (extras_findings (outputs_unless b plan) bytes)) fine
    ∙ ap (λ (o : Option DetailsOfPlan). has_refusal_to refusal (extras_findings (option_map (λ it. it.outputs) o) bytes)) reported
    ∙ (in_bytes saved details.outputs bytes refusal (ap (λ (r : Result OutcomeMap ScriptError). is_ok r) accepted) e))))
