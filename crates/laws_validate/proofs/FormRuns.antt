-- In Terraform's form too, there is an error if and only if a run refuses.
use Rattle.std.proofs.Common.{◌≡◌, ◌≤◌, ℕ, List, [], ◌++◌, length, map, Bool, true, false, cond, not, ◌||◌, if◌then◌else◌, is_err, is_ok, is_some, Option, Some, None, Result, Ok, Err, refl, sym, ap, subst, ◌∙◌}
use Rattle.std.specs.Prelude.{nat_lt, option_map}
use Rattle.std.specs.Option.{option_map_or}
use Rattle.std.specs.Str.{is_utf8}
use Rattle.std.proofs.lemmas.List.{append-nil}
use Rattle.std.proofs.lemmas.List.Folds.{list_any-append}
use Rattle.json.specs.Json as json
use Rattle.json.specs.Json.{Json}
use Rattle.json.specs.Lex.{tokens}
use Rattle.json.specs.Tree.{depth}
use Rattle.json.proofs.Nesting.{value-depth}
use Rattle.serde_json.specs.Data.{Data}
use Rattle.serde_json.specs.Read.{max_depth, of_json, read}
use Rattle.apply_json.specs.Verbatim.{mixed_tree_of}
use Rattle.apply_json.specs.Tree.{◌>>=◌, tree_of}
use Rattle.apply_model.specs.Plan.ResourceChange.{ResourceChange}
use Rattle.apply_model.specs.Plan.SavedPlan.{SavedPlan}
use Rattle.apply_model.specs.Script.OutcomeMap.{OutcomeMap}
use Rattle.apply_plan.specs.Bytes.{max_bytes}
use Rattle.apply_plan.specs.declared.plan.plan_error.PlanError.{PlanError}
use Rattle.apply_plan.specs.declared.plan.plan_error.PlanError.TheVariants.{NotJson, TooLarge}
use Rattle.apply_plan.specs.declared.script.script_error.ScriptError.{ScriptError}
use Rattle.apply_plan.specs.Plan.SavedPlan.{plan_of, plan_of_tree}
use Rattle.apply_plan.specs.Results as results
use Rattle.apply_plan.specs.Script.Entry.{is_verbatim_name}
use Rattle.apply_plan.specs.Script.OutcomeMap.{script_of}
use Rattle.apply_plan_terraform.specs.Extras.{extras_of_bytes, extras_of_json}
use Rattle.apply_plan_terraform.specs.Outputs.{OutputsOfPlan}
use Rattle.apply_plan_terraform.specs.Texts.{json_of, json_of_text}
use Rattle.apply_plan_terraform.specs.ReadDetails.{DetailsOfPlan, details_of}
use Rattle.apply_prior.specs.Objects.{ObjectOfPlan}
use Rattle.apply_prior.specs.Prior.{PriorOfPlan, object_view, prior_in, prior_of}
use Rattle.apply_planning_script.specs.Planning.{said_of}
use Rattle.apply_planning_script.specs.Told.{told_of}
use Rattle.input_validate.specs.declared.findings.finding.Finding.{Finding}
use Rattle.input_validate.specs.declared.form.Form.{Form}
use Rattle.input_validate.specs.declared.form.Form.TheVariants.{Applystream, Terraform, TerraformPlan, TerraformApply}
use Rattle.input_validate.specs.Doubts.{doubts}
use Rattle.input_validate.specs.Extras.{extras_findings, in_extras, outputs_unless}
use Rattle.input_validate.specs.Findings.{is_refusal}
use Rattle.input_validate.specs.InForm.{doubts_unless, extras_for, findings_before_doubts, findings_in, is_refused, planned_extras, terraform_extras}
use Rattle.input_validate.specs.Planning.{objects_unless, planning_findings}
use Rattle.laws_validate.specs.Laws.{HasObjectsOf, IsPlannerOf, Planner, has_refusal, refuses_extras, refuses_given, refuses_planning, refuses_read, run_refuses, run_refuses_in}
use Rattle.input_validate.specs.Whole.{given_findings, plan_findings}
use Rattle.laws_validate.proofs.Alike.{both_trees, has_numbers, last_is}
use Rattle.laws_validate.proofs.DoubtsWarn.{doubts_refuse_nothing}
use Rattle.laws_validate.proofs.ExtrasRead.{clean_extras}
use Rattle.laws_validate.proofs.VerbatimTrees.{behind}
use Rattle.input_validate.proofs.Options.{not_not}
use Rattle.input_validate.proofs.PriorNames.{objects_in, views_in}
use Rattle.laws_validate.proofs.PlanningRuns.{planning_refused}
use Rattle.laws_validate.proofs.Plans.{refusals_of_plan}
use Rattle.laws_validate.proofs.Refused.{script_ok}
use Rattle.laws_validate.proofs.Runs.{refusals_of_run}
use Rattle.laws_validate.proofs.Scripts.{is_script_for_plan}
use Rattle.laws_validate.proofs.Spelt.{IsOf}

-- ---- the value that bytes are

text_of_tree : (text : List ℕ) (d : Data) → read text ≡ Some d → (j : Json) × (json_of_text text ≡ Some j) × IsOf j d
text_of_tree text d e =
    let one = behind (json_of_text text) of_json d e in
    let p = behind (json.value max_depth (tokens text)) (λ q. json.if_last q.0 q.1) one.0 one.1 in (
      one.0,
      one.1,
      record {
        numbers = has_numbers text one.0 one.1;
        shallow = subst (λ (x : Json). depth x ≤ max_depth) (last_is p.0.0 p.0.1 one.0 p.2) (value-depth max_depth (tokens text) p.0.1 p.0.0 p.1);
        is = one.2;
      },
    )

by_utf8 : (b : Bool) (text : List ℕ) (d : Data) → (let o : Option Data = cond b (read text) None in o) ≡ Some d → (j : Json) × ((let o : Option Json = cond b (json_of_text text) None in o) ≡ Some j) × IsOf j d
by_utf8 true text d e = text_of_tree text d e
by_utf8 false text d e = absurd cc

of_tree : (bytes : List ℕ) (d : Data) → tree_of bytes ≡ Some d → (j : Json) × (json_of bytes ≡ Some j) × IsOf j d
of_tree bytes d e = by_utf8 (is_utf8 bytes) bytes d e

-- ---- a script

is_there : {A : Type 0} (o : Option A) → is_some o ≡ true → (x : A) × (o ≡ Some x)
is_there None e = absurd cc
is_there (Some x) e = (x, refl)

refused_is : {A E : Type 0} (r : Result A E) → not (is_ok r) ≡ is_err r
refused_is (Ok x) = refl
refused_is (Err e) = refl

sized : (large : Bool) (o : Option Data) (test : Data → Bool) → cond large false (option_map_or test o false) ≡ true → (large ≡ false) × (is_some o ≡ true)
sized true o test e = absurd cc
sized false None test e = absurd cc
sized false (Some d) test e = (refl, refl)

-- bytes are few enough, and a value
pub record AreTree (bytes : List ℕ) : Type 0 where
  pub small : nat_lt max_bytes (length bytes) ≡ false
  pub tree : Data
  pub tree_is : tree_of bytes ≡ Some tree
  pub value : Json
  pub value_is : json_of bytes ≡ Some value
  pub is_of : IsOf value tree

-- the steps of a script that a run accepts are
pub of_accepted_tree : (saved : SavedPlan) (bytes : List ℕ) → is_ok (script_of saved bytes) ≡ true → AreTree bytes
of_accepted_tree saved bytes accepted =
    let is = sized (nat_lt max_bytes (length bytes)) (mixed_tree_of is_verbatim_name bytes) (is_script_for_plan (Some saved.changes)) (script_ok saved bytes accepted) in
    let tree = is_there (tree_of bytes) (both_trees bytes ∙ is.1) in
    let of = of_tree bytes tree.0 tree.1 in
    record { small = is.0; tree = tree.0; tree_is = tree.1; value = of.0; value_is = of.1; is_of = of.2 }

of_accepted : (saved : SavedPlan) (plan : OutputsOfPlan) (bytes : List ℕ) → is_ok (script_of saved bytes) ≡ true → has_refusal (extras_findings (Some plan) bytes) ≡ is_err (extras_of_bytes plan bytes)
of_accepted saved plan bytes accepted =
    let of = of_accepted_tree saved bytes accepted in
    ap (λ (large : Bool). has_refusal (if large then [] else option_map_or (in_extras (Some plan)) (tree_of bytes) [])) of.small
    ∙ ap (λ (o : Option Data). has_refusal (option_map_or (in_extras (Some plan)) o [])) of.tree_is
    ∙ sym (not_not (has_refusal (in_extras (Some plan) of.tree)))
    ∙ ap not (clean_extras plan of.value of.tree of.is_of)
    ∙ refused_is (extras_of_json plan (Some of.value))
    ∙ ap (λ (o : Option Json). is_err (extras_of_json plan o)) (sym of.value_is)

-- ---- a plan

some_tree : (large : Bool) (o : Option Data) (e x : PlanError) (saved : SavedPlan)
    → (let r : Result SavedPlan PlanError = cond large (Err x) (results.◌>>=◌ (results.or_refuse e o) plan_of_tree) in r) ≡ Ok saved → is_some o ≡ true
some_tree true o e x saved is = absurd cc
some_tree false None e x saved is = absurd cc
some_tree false (Some d) e x saved is = refl

tree_there : (bytes : List ℕ) (saved : SavedPlan) → plan_of bytes ≡ Ok saved → is_some (tree_of bytes) ≡ true
unfolding plan_of
tree_there bytes saved is = some_tree (nat_lt max_bytes (length bytes)) (tree_of bytes) NotJson TooLarge saved is

details_there : (bytes : List ℕ) (saved : SavedPlan) → plan_of bytes ≡ Ok saved → (it : DetailsOfPlan) × (details_of bytes ≡ Some it)
details_there bytes saved is =
    let tree = is_there (tree_of bytes) (tree_there bytes saved is) in
    let of = of_tree bytes tree.0 tree.1 in
    is_there (details_of bytes) (rw (of.1, of.2.is) refl)

-- ---- a run

-- a run accepts both
accepted_both : (lanes : Bool) (bytes : List ℕ) (r : Result SavedPlan PlanError) → refuses_given lanes r (Some bytes) ≡ false → (saved : SavedPlan) × (r ≡ Ok saved) × (is_ok (script_of saved bytes) ≡ true)
accepted_both lanes bytes (Err refusal) e = absurd cc
accepted_both lanes bytes (Ok saved) e = (saved, refl, was_ok (script_of saved bytes) e)
  where
    was_ok : (q : Result OutcomeMap ScriptError) → refuses_read lanes q ≡ false → is_ok q ≡ true
    was_ok (Ok script) e = refl
    was_ok (Err refusal) e = absurd cc

either : (b x y : Bool) → (b ≡ false → x ≡ y) → (b || x) ≡ (b || y)
either true x y is = refl
either false x y is = is refl

or_assoc : (a b c : Bool) → (a || (b || c)) ≡ ((a || b) || c)
or_assoc true b c = refl
or_assoc false b c = refl

with_extras : (lanes : Bool) (plan bytes : List ℕ) → run_refuses lanes plan (Some bytes) ≡ false
    → has_refusal (extras_findings (outputs_unless (has_refusal (plan_findings plan)) plan) bytes) ≡ refuses_extras (details_of plan) bytes
with_extras lanes plan bytes takes =
    let both = accepted_both lanes bytes (plan_of plan) takes in
    let it = details_there plan both.0 both.1 in
    let fine : has_refusal (plan_findings plan) ≡ false = refusals_of_plan plan ∙ ap (λ (r : Result SavedPlan PlanError). is_err r) both.1 in
    ap (λ (b : Bool). has_refusal (extras_findings (outputs_unless b plan) bytes)) fine
    ∙ ap (λ (o : Option DetailsOfPlan). has_refusal (extras_findings (option_map (λ details. details.outputs) o) bytes)) it.1
    ∙ of_accepted both.0 it.0.outputs bytes both.2
    ∙ ap (λ (o : Option DetailsOfPlan). refuses_extras o bytes) (sym it.1)

told_refused : {A B : Type 0} (r : Result A ScriptError) (f : A → B) → is_err (results.◌>>=◌ r (λ x. Ok (f x))) ≡ is_err r
told_refused (Ok x) f = refl
told_refused (Err refusal) f = refl

-- the objects by which `planning` is validated are those of the planner
pub known_objects : (plan : List ℕ) (saved : SavedPlan) (planner : Planner) → HasObjectsOf plan planner → plan_of plan ≡ Ok saved
    → objects_unless (has_refusal (plan_findings plan)) plan ≡ Some (objects_in planner.objects)
known_objects plan saved planner has planned =
    let tree = is_there (tree_of plan) (tree_there plan saved planned) in
    let fine : has_refusal (plan_findings plan) ≡ false = refusals_of_plan plan ∙ ap (λ (r : Result SavedPlan PlanError). is_err r) planned in
    let prior : prior_of plan ≡ Some (prior_in tree.0) = ap (λ (o : Option Data). o >>= λ it. Some (prior_in it)) tree.1 in
    let objects : map object_view planner.objects ≡ (prior_in tree.0).objects = has ∙ ap (λ (o : Option PriorOfPlan). option_map_or (λ it. it.objects) o []) prior in
    ap (λ (b : Bool). objects_unless b plan) fine
    ∙ ap (option_map (λ (it : PriorOfPlan). map (λ object. object.object) it.objects)) prior
    ∙ ap (λ (all : List ObjectOfPlan). Some (map (λ (it : ObjectOfPlan). it.object) all)) (sym objects)
    ∙ ap (λ (all : List ResourceChange). Some all) (views_in planner.objects)

with_planning : (planner : Planner) (lanes : Bool) (plan bytes : List ℕ) → HasObjectsOf plan planner → run_refuses lanes plan (Some bytes) ≡ false
    → has_refusal (planning_findings (objects_unless (has_refusal (plan_findings plan)) plan) bytes) ≡ refuses_planning planner bytes
with_planning planner lanes plan bytes has takes =
    let both = accepted_both lanes bytes (plan_of plan) takes in
    let of = of_accepted_tree both.0 bytes both.2 in
    let there : is_some (tree_of bytes) ≡ true = ap (λ (o : Option Data). is_some o) of.tree_is in
    ap (λ (o : Option (List ResourceChange)). has_refusal (planning_findings o bytes)) (known_objects plan both.0 planner has both.1)
    ∙ planning_refused planner.objects bytes of.small there
    ∙ sym (told_refused (said_of planner.objects (Some bytes)) (told_of planner.rules planner.planned planner.objects))

with_both : (planner : Planner) (lanes : Bool) (plan bytes : List ℕ) → HasObjectsOf plan planner → run_refuses lanes plan (Some bytes) ≡ false
    → has_refusal (planned_extras (has_refusal (plan_findings plan)) plan bytes) ≡ (refuses_extras (details_of plan) bytes || refuses_planning planner bytes)
with_both planner lanes plan bytes has takes =
    let refused : Bool = has_refusal (plan_findings plan) in
    let planning : List Finding = planning_findings (objects_unless refused plan) bytes in
    list_any-append is_refusal (terraform_extras refused plan bytes) planning
    ∙ ap (λ (b : Bool). b || has_refusal planning) (with_extras lanes plan bytes takes)
    ∙ ap (λ (b : Bool). refuses_extras (details_of plan) bytes || b) (with_planning planner lanes plan bytes has takes)

in_form : (form : Form) (planner : Planner) (lanes : Bool) (plan : List ℕ) (script : Option (List ℕ)) → IsPlannerOf form plan planner
    → (run_refuses lanes plan script || has_refusal (extras_for form (has_refusal (plan_findings plan)) plan script)) ≡ run_refuses_in form planner lanes plan script
in_form form planner lanes plan None fits = refl
in_form Applystream planner lanes plan (Some bytes) fits = refl
in_form Terraform planner lanes plan (Some bytes) fits = either (run_refuses lanes plan (Some bytes)) _ _ (with_extras lanes plan bytes)
in_form TerraformPlan planner lanes plan (Some bytes) fits = either (run_refuses lanes plan (Some bytes)) _ _ (with_both planner lanes plan bytes (fits refl))
in_form TerraformApply planner lanes plan (Some bytes) fits = either (run_refuses lanes plan (Some bytes)) _ _ (with_both planner lanes plan bytes (fits refl))

or_false : (b : Bool) → (b || false) ≡ b
or_false true = refl
or_false false = refl

-- doubts refuse nothing
before_doubts : (form : Form) (lanes : Bool) (plan : List ℕ) (script : Option (List ℕ)) → has_refusal (findings_in form lanes plan script) ≡ has_refusal (findings_before_doubts form lanes plan script)
before_doubts form lanes plan script =
    let before : List Finding = findings_before_doubts form lanes plan script in
    list_any-append is_refusal before (doubts_unless (is_refused form lanes plan script) form lanes plan script)
    ∙ ap (λ (b : Bool). has_refusal before || b) (doubts_refuse_nothing (is_refused form lanes plan script) form lanes plan script)
    ∙ or_false (has_refusal before)

-- a run refuses for one of the findings before the doubts
refused_by_run : (form : Form) (planner : Planner) (lanes : Bool) (plan : List ℕ) (script : Option (List ℕ)) → IsPlannerOf form plan planner
    → is_refused form lanes plan script ≡ run_refuses_in form planner lanes plan script
refused_by_run form planner lanes plan script fits =
    let extras : List Finding = extras_for form (has_refusal (plan_findings plan)) plan script in
    ap (λ (b : Bool). has_refusal (plan_findings plan) || b) (list_any-append is_refusal (given_findings lanes (plan_of plan) script) extras)
    ∙ or_assoc (has_refusal (plan_findings plan)) (has_refusal (given_findings lanes (plan_of plan) script)) (has_refusal extras)
    ∙ ap (λ (b : Bool). b || has_refusal extras) (refusals_of_run lanes plan script)
    ∙ in_form form planner lanes plan script fits

pub refusals_in_form : (form : Form) (planner : Planner) (lanes : Bool) (plan : List ℕ) (script : Option (List ℕ)) → IsPlannerOf form plan planner
    → (has_refusal (plan_findings plan) || has_refusal (findings_in form lanes plan script)) ≡ run_refuses_in form planner lanes plan script
refusals_in_form form planner lanes plan script fits =
    ap (λ (b : Bool). has_refusal (plan_findings plan) || b) (before_doubts form lanes plan script) ∙ refused_by_run form planner lanes plan script fits

-- where a run refuses, there are no doubts
pub none_where_refused : (form : Form) (planner : Planner) (lanes : Bool) (plan : List ℕ) (script : Option (List ℕ)) → IsPlannerOf form plan planner → run_refuses_in form planner lanes plan script ≡ true
    → findings_in form lanes plan script ≡ findings_before_doubts form lanes plan script
none_where_refused form planner lanes plan script fits refuses =
    let before : List Finding = findings_before_doubts form lanes plan script in
    ap (λ (refused : Bool). before ++ doubts_unless refused form lanes plan script) (refused_by_run form planner lanes plan script fits ∙ refuses) ∙ append-nil before

pub all_where_accepted : (form : Form) (planner : Planner) (lanes : Bool) (plan : List ℕ) (script : Option (List ℕ)) → IsPlannerOf form plan planner → run_refuses_in form planner lanes plan script ≡ false
    → findings_in form lanes plan script ≡ findings_before_doubts form lanes plan script ++ doubts form lanes plan script
all_where_accepted form planner lanes plan script fits accepts =
    let before : List Finding = findings_before_doubts form lanes plan script in
    ap (λ (refused : Bool). before ++ doubts_unless refused form lanes plan script) (refused_by_run form planner lanes plan script fits ∙ accepts)
