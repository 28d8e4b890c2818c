-- What a run refuses, and which finding reports it.
use Rattle.std.specs.Prelude.{◌≡◌, ℕ, List, [], ◌∷◌, length, map, Bool, true, false, ◌&&◌, ◌||◌, not, is_err, nat_eq, nat_lt, if◌then◌else◌, Option, Some, None, Result, Ok, Err}
use Rattle.std.specs.List.{list_all, list_any}
use Rattle.std.specs.Option.{option_map_or}
use Rattle.serde_json.specs.Data.{Data}
use Rattle.apply_json.specs.Verbatim.{mixed_tree_of}
use Rattle.apply_json.specs.Tree.{list_of}
use Rattle.apply_model.specs.declared.script.outcome.Outcome.{Outcome}
use Rattle.apply_model.specs.Script.Outcome.{has_too_many_provisioners, has_too_much_output, is_too_long}
use Rattle.apply_model.specs.Plan.SavedPlan.{SavedPlan}
use Rattle.apply_model.specs.Script.OutcomeMap.{OutcomeMap}
use Rattle.apply_model.specs.Script.Waits.{has_waits}
use Rattle.apply_plan.specs.Bytes.{max_bytes}
use Rattle.apply_plan.specs.declared.plan.plan_error.PlanError.{PlanError}
use Rattle.apply_plan.specs.declared.plan.plan_error.PlanError.TheVariants as plan_error
use Rattle.apply_plan.specs.declared.script.planning_error.PlanningError.TheVariants as planning
use Rattle.apply_plan.specs.declared.script.script_error.ScriptError.{ScriptError}
use Rattle.apply_plan.specs.declared.script.script_error.ScriptError.TheVariants as error
use Rattle.apply_plan.specs.Plan.SavedPlan.{plan_of}
use Rattle.apply_plan.specs.Script.Entry.{EntryStep, entry_of, is_verbatim_name}
use Rattle.apply_plan.specs.Script.OutcomeMap.{elements_of, script_of}
use Rattle.apply_plan_terraform.specs.Extras.{extras_of_bytes}
use Rattle.apply_plan_terraform.specs.ReadDetails.{DetailsOfPlan, details_of}
use Rattle.apply_prior.specs.declared.prior_object.PriorObject.{PriorObject}
use Rattle.apply_prior.specs.Prior.{object_view, prior_of}
use Rattle.apply_planning_script.specs.declared.rules.PlanningRules.{PlanningRules}
use Rattle.apply_planning_script.specs.Rules.{PlannedObjects}
use Rattle.apply_planning_script.specs.Told.{told_by_script}
use Rattle.input_validate.specs.declared.findings.finding.Finding.{Finding}
use Rattle.input_validate.specs.declared.findings.name.Name.TheVariants as name
use Rattle.input_validate.specs.declared.findings.path.Segment.{Segment}
use Rattle.input_validate.specs.declared.findings.path.Segment.TheVariants.{Item, Member, Other}
use Rattle.input_validate.specs.declared.findings.expected.Expected.TheVariants as expected
use Rattle.input_validate.specs.declared.findings.problem.Problem.{Problem}
use Rattle.input_validate.specs.declared.findings.problem.Problem.TheVariants as problem
use Rattle.input_validate.specs.declared.form.Form.{Form}
use Rattle.input_validate.specs.declared.form.Form.TheVariants.{Applystream, Terraform, TerraformPlan, TerraformApply}
use Rattle.input_validate.specs.Findings.{is_refusal}
use Rattle.input_validate.specs.Whole.{entry_of_refusal}

-- one of the findings is an error
abbrev pub has_refusal : List Finding → Bool
has_refusal all = list_any is_refusal all

-- a path goes through the entry with this number
abbrev pub goes_through : ℕ → List Segment → Bool
goes_through n (Member name.Changes ∷ Item m ∷ parts) = nat_eq m n
goes_through n _ = false

-- one of the findings is an error in this entry
abbrev pub has_refusal_in : ℕ → List Finding → Bool
has_refusal_in n all = list_any (λ finding. is_refusal finding && goes_through n finding.path) all

-- a step is within the limits
abbrev pub is_bounded : Outcome → Bool
is_bounded outcome = not (is_too_long outcome) && (not (has_too_many_provisioners outcome) && not (has_too_much_output outcome))

-- a step is within the limits; a skipped step always is
abbrev pub is_within_limits : EntryStep → Bool
is_within_limits step = option_map_or is_bounded step.outcome true

-- a value is an entry, and each of its steps is within the limits
abbrev pub is_entry : Data → Bool
is_entry d = option_map_or (λ entry. list_all is_within_limits entry.steps) (entry_of d) false

-- a tree is a script, as far as it shows without a look at a plan
abbrev pub is_script : Data → Bool
is_script d = option_map_or (λ elements. list_all is_entry (list_of elements)) (elements_of d) false

-- bytes are a script that a run reads, as far as they show without a look at a plan
abbrev pub are_script : List ℕ → Bool
are_script bytes =
    if nat_lt max_bytes (length bytes) then false else option_map_or is_script (mixed_tree_of is_verbatim_name bytes) false

-- ---- what a run does

-- a run refuses a script that it read like this; without lanes no step may wait
abbrev pub refuses_read : (lanes : Bool) → Result OutcomeMap ScriptError → Bool
refuses_read lanes (Ok script) = not lanes && has_waits script
refuses_read lanes (Err refusal) = true

abbrev pub refuses_given : (lanes : Bool) → Result SavedPlan PlanError → Option (List ℕ) → Bool
refuses_given lanes (Err refusal) script = true
refuses_given lanes (Ok plan) None = false
refuses_given lanes (Ok plan) (Some bytes) = refuses_read lanes (script_of plan bytes)

-- a run refuses the bytes of a plan, or of a script for it, unless memory is refused first
abbrev pub run_refuses : (lanes : Bool) → List ℕ → Option (List ℕ) → Bool
run_refuses lanes plan script = refuses_given lanes (plan_of plan) script

-- a run in Terraform's form refuses the members of a script that only it reads
abbrev pub refuses_extras : Option DetailsOfPlan → List ℕ → Bool
refuses_extras details bytes = option_map_or (λ it. is_err (extras_of_bytes it.outputs bytes)) details true

-- how a command that makes its plan takes what a script says of the planning: its rules, what the
-- plan says of objects, and the objects that the plan knows before it is made
pub record Planner : Type 0 where
  pub rules : PlanningRules
  pub planned : PlannedObjects
  pub objects : List PriorObject

-- the objects are those that the bytes of a plan have
abbrev pub HasObjectsOf : List ℕ → Planner → Type 0
HasObjectsOf plan planner = map object_view planner.objects ≡ option_map_or (λ prior. prior.objects) (prior_of plan) []

-- a command that makes its plan refuses what a script says of the planning
abbrev pub refuses_planning : Planner → List ℕ → Bool
refuses_planning planner bytes = is_err (told_by_script planner.rules planner.planned planner.objects (Some bytes))

-- a run in this form refuses the members of a script that only such a run reads; `planner` counts
-- only for a command that makes its plan
abbrev pub refuses_extras_of : Form → Planner → List ℕ → List ℕ → Bool
refuses_extras_of Applystream planner plan bytes = false
refuses_extras_of Terraform planner plan bytes = refuses_extras (details_of plan) bytes
refuses_extras_of TerraformPlan planner plan bytes = refuses_extras (details_of plan) bytes || refuses_planning planner bytes
refuses_extras_of TerraformApply planner plan bytes = refuses_extras (details_of plan) bytes || refuses_planning planner bytes

-- the same if a script is given
abbrev pub refuses_extras_in : Form → Planner → List ℕ → Option (List ℕ) → Bool
refuses_extras_in form planner plan None = false
refuses_extras_in form planner plan (Some bytes) = refuses_extras_of form planner plan bytes

-- the form is that of a command that makes its plan
abbrev pub reads_planning : Form → Bool
reads_planning Applystream = false
reads_planning Terraform = false
reads_planning TerraformPlan = true
reads_planning TerraformApply = true

-- the form is Terraform's
abbrev pub reads_extras : Form → Bool
reads_extras Applystream = false
reads_extras Terraform = true
reads_extras TerraformPlan = true
reads_extras TerraformApply = true

-- the planner is one of a run of this form of the plan
abbrev pub IsPlannerOf : Form → List ℕ → Planner → Type 0
IsPlannerOf form plan planner = reads_planning form ≡ true → HasObjectsOf plan planner

-- a run in this form refuses the bytes, unless memory is refused first
abbrev pub run_refuses_in : Form → Planner → (lanes : Bool) → List ℕ → Option (List ℕ) → Bool
run_refuses_in form planner lanes plan script = run_refuses lanes plan script || refuses_extras_in form planner plan script

-- a path goes to what this refusal names, among the members that only Terraform's form reads
abbrev pub goes_to : ScriptError → List Segment → Bool
goes_to (error.BadShape None) (Member name.Outputs ∷ parts) = true
goes_to (error.BadShape None) (Member name.Diagnostics ∷ parts) = true
goes_to (error.BadOutput n) (Member name.Outputs ∷ Other m ∷ parts) = nat_eq m n
goes_to (error.UnknownOutput n) (Member name.Outputs ∷ Other m ∷ parts) = nat_eq m n
goes_to (error.BadDiagnostic n) (Member name.Diagnostics ∷ Item m ∷ parts) = nat_eq m n
goes_to _ _ = false

-- one of the findings is an error there
abbrev pub has_refusal_to : ScriptError → List Finding → Bool
has_refusal_to refusal all = list_any (λ finding. is_refusal finding && goes_to refusal finding.path) all

-- a path goes to what this refusal of `planning` names
abbrev pub goes_to_planned : ScriptError → List Segment → Bool
goes_to_planned (error.BadShape None) (Member name.Planning ∷ []) = true
goes_to_planned (error.Planning planning.TooMany) (Member name.Planning ∷ []) = true
goes_to_planned (error.Planning (planning.Malformed n)) (Member name.Planning ∷ Item m ∷ parts) = nat_eq m n
goes_to_planned (error.Planning (planning.NoObject n)) (Member name.Planning ∷ Item m ∷ parts) = nat_eq m n
goes_to_planned (error.Planning (planning.Misfits n)) (Member name.Planning ∷ Item m ∷ parts) = nat_eq m n
goes_to_planned (error.Planning (planning.Repeated n)) (Member name.Planning ∷ Item m ∷ parts) = nat_eq m n
goes_to_planned _ _ = false

-- one of the findings is an error there
abbrev pub has_refusal_to_planned : ScriptError → List Finding → Bool
has_refusal_to_planned refusal all = list_any (λ finding. is_refusal finding && goes_to_planned refusal finding.path) all

-- ---- what a run refuses a plan for

-- a problem at this path is what this refusal of a plan names; an element that repeats an object
-- names an earlier element
abbrev pub explains : PlanError → List Segment → Problem → Bool
explains plan_error.TooLarge [] problem.TooManyBytes = true
explains plan_error.NotJson [] problem.NotJson = true
explains plan_error.NotAPlan [] (problem.IsNot expected.Plan) = true
explains plan_error.NotAPlan (Member name.FormatVersion ∷ []) (problem.IsNot expected.FormatVersion) = true
explains plan_error.NotAPlan (Member name.FormatVersion ∷ []) (problem.IsMissing expected.FormatVersion) = true
explains plan_error.NotAPlan (Member name.TerraformVersion ∷ []) (problem.IsNot expected.TextOrAbsent) = true
explains plan_error.NotAPlan (Member name.ResourceChanges ∷ []) (problem.IsNot expected.ArrayOrAbsent) = true
explains plan_error.TooMany (Member name.ResourceChanges ∷ []) problem.TooManyChanges = true
explains (plan_error.BadChange n) (Member name.ResourceChanges ∷ Item m ∷ parts) (problem.IsNot wanted) = nat_eq m n
explains (plan_error.BadChange n) (Member name.ResourceChanges ∷ Item m ∷ parts) (problem.IsMissing wanted) = nat_eq m n
explains (plan_error.BadActions n) (Member name.ResourceChanges ∷ Item m ∷ Member name.Change ∷ Member name.Actions ∷ []) problem.BadActions = nat_eq m n
explains (plan_error.BadAddress n) (Member name.ResourceChanges ∷ Item m ∷ Member name.Address ∷ []) problem.EmptyAddress = nat_eq m n
explains (plan_error.BadAddress n) (Member name.ResourceChanges ∷ Item m ∷ Member name.Address ∷ []) problem.OutsideModule = nat_eq m n
explains (plan_error.Duplicate n) (Member name.ResourceChanges ∷ Item m ∷ []) (problem.NamedBefore earlier) = nat_eq m n && nat_lt earlier n
explains _ _ _ = false

-- one of the findings is the error that a run refuses the plan for
abbrev pub has_refusal_of : PlanError → List Finding → Bool
has_refusal_of refusal all = list_any (λ finding. is_refusal finding && explains refusal finding.path finding.problem) all

-- ---- what a run refuses a script for

-- the problem is that a value or a member breaks its rule
abbrev pub breaks_rule : Problem → Bool
breaks_rule (problem.IsNot wanted) = true
breaks_rule (problem.IsMissing wanted) = true
breaks_rule problem.WithFailed = true
breaks_rule problem.WithSkipped = true
breaks_rule (problem.AfterTheEnd seconds) = true
breaks_rule (problem.OutOfOrder seconds) = true
breaks_rule _ = false

-- the problem is that the plan does not change an object
abbrev pub is_of_no_change : Problem → Bool
is_of_no_change problem.UnknownAddress = true
is_of_no_change problem.UnknownObject = true
is_of_no_change _ = false

-- a problem at this path in a step is what this refusal of a script names
abbrev pub explains_step : ScriptError → List Segment → Problem → Bool
explains_step (error.SecondsRange n) [] problem.TooLong = true
explains_step (error.TooManyProvisioners n) (Member name.Provisioners ∷ []) problem.TooManyProvisioners = true
explains_step (error.TooMuchOutput n) (Member name.Provisioners ∷ Item provisioner ∷ Member name.Output ∷ []) problem.TooManyTexts = true
explains_step (error.NotACreate n) (Member name.Provisioners ∷ []) (problem.TakesNone kind) = true
explains_step (error.WarnsNotARead n) (Member name.Failed ∷ []) (problem.OnlyWarns kind) = true
explains_step (error.TooManyWaits n) (Member name.After ∷ Item wait ∷ []) problem.TooManyWaits = true
explains_step (error.UnknownWait n) (Member name.After ∷ Item wait ∷ parts) findings = is_of_no_change findings
explains_step (error.NoSuchStep n) (Member name.After ∷ Item wait ∷ Member name.Step ∷ []) (problem.NoSuchStep one other) = true
explains_step _ _ _ = false

-- a problem at this path in an entry is what this refusal of a script names; a repeated entry names
-- an earlier entry
abbrev pub explains_entry : ScriptError → List Segment → Problem → Bool
explains_entry (error.BadShape entry) parts findings = breaks_rule findings
explains_entry (error.UnknownChange n) (Member name.Address ∷ []) findings = is_of_no_change findings
explains_entry (error.UnknownChange n) (Member name.Deposed ∷ []) problem.UnknownObject = true
explains_entry (error.Duplicate n) [] (problem.AboutAgain earlier) = nat_lt earlier n
explains_entry (error.TooManySteps n) (Member name.Steps ∷ []) (problem.TooManySteps one other) = true
explains_entry (error.NeverBegins n) [] (problem.ForPlan (error.NeverBegins m)) = nat_eq m n
explains_entry refusal (Member name.Steps ∷ Item step ∷ parts) findings = explains_step refusal parts findings
explains_entry _ _ _ = false

-- a problem at this path at the top of a script is what this refusal names
abbrev pub explains_top : ScriptError → List Segment → Problem → Bool
explains_top error.TooLarge [] problem.TooManyBytes = true
explains_top error.NotJson [] problem.NotJson = true
explains_top (error.BadShape None) [] (problem.IsNot expected.Object) = true
explains_top (error.BadShape None) (Member name.Changes ∷ []) (problem.IsNot expected.Array) = true
explains_top (error.BadShape None) (Member name.Changes ∷ []) (problem.IsMissing expected.Array) = true
explains_top _ _ _ = false

-- a refusal names this entry
abbrev pub names_entry : ScriptError → ℕ → Bool
names_entry refusal n = option_map_or (nat_eq n) (entry_of_refusal refusal) false

-- a problem at this path in a script is what this refusal names, in the entry that it names
abbrev pub explains_script : ScriptError → List Segment → Problem → Bool
explains_script refusal (Member name.Changes ∷ Item n ∷ parts) findings = names_entry refusal n && explains_entry refusal parts findings
explains_script refusal parts findings = explains_top refusal parts findings

-- one of the findings is the error that a run refuses the script for
abbrev pub has_script_refusal : ScriptError → List Finding → Bool
has_script_refusal refusal all = list_any (λ finding. is_refusal finding && explains_script refusal finding.path finding.problem) all
