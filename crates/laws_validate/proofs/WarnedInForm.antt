-- In either form, findings stand at their places, and `validate` warns of exactly the members that
-- no such run reads.
use Rattle.std.proofs.Common.{◌≡◌, ◌↔◌, ℕ, List, [], ◌∷◌, ◌++◌, length, Bool, true, false, Contains, slice_get, Option, Some, None, if◌then◌else◌, refl, sym, subst}
use Rattle.std.specs.Prelude.{nat_lt}
use Rattle.std.specs.List.{list_any}
use Rattle.std.specs.Option.{option_map_or}
use Rattle.std.proofs.lemmas.List.Elements.{All-contains, All-from_recursion}
use Rattle.serde_json.specs.Data.{Data}
use Rattle.apply_plan_terraform.specs.Outputs.{OutputsOfPlan}
use Rattle.apply_json.specs.ShallowView.{members_in}
use Rattle.apply_json.specs.Tree.{tree_of}
use Rattle.apply_model.specs.Plan.ResourceChange.{ResourceChange}
use Rattle.apply_plan.specs.Bytes.{max_bytes}
use Rattle.apply_plan.specs.Plan.SavedPlan.{plan_of}
use Rattle.input_validate.specs.declared.findings.finding.Finding.{Finding}
use Rattle.input_validate.specs.declared.findings.name.Name.{Name}
use Rattle.input_validate.specs.declared.findings.name.Name.TheVariants as name
use Rattle.input_validate.specs.declared.findings.path.Segment.{Segment}
use Rattle.input_validate.specs.declared.findings.path.Segment.TheVariants.{Item, Member, Other}
use Rattle.input_validate.specs.declared.findings.problem.Problem.{Problem}
use Rattle.input_validate.specs.declared.findings.problem.Problem.TheVariants.{IsMissing, NotRead}
use Rattle.input_validate.specs.declared.form.Form.{Form}
use Rattle.input_validate.specs.declared.form.Form.TheVariants.{Applystream, Terraform, TerraformPlan, TerraformApply}
use Rattle.input_validate.specs.Extras.{extras_findings, in_extras, note_names, outputs_unless, plan_output_names}
use Rattle.input_validate.specs.Findings.{is_refusal}
use Rattle.input_validate.specs.InForm.{doubts_unless, extras_for, findings_before_doubts, findings_in, is_refused, planned_extras, terraform_extras}
use Rattle.input_validate.specs.Planning.{in_planning, objects_unless, planned_names, planning_findings}
use Rattle.input_validate.specs.Rules.{is_known, texts_in}
use Rattle.input_validate.specs.ScriptFindings.{failure_names}
use Rattle.input_validate.specs.Whole.{given_findings, plan_findings}
use Rattle.laws_validate.specs.Laws.{reads_extras, reads_planning}
use Rattle.laws_validate.specs.Paths.{ArePlaced, value_at}
use Rattle.laws_validate.specs.IgnoredMembers.{IsRead, IsIgnored, warning_at}
use Rattle.laws_validate.specs.IgnoredInForm.{IsReadIn, always, failure, note, plan_output, planned}
use Rattle.laws_validate.proofs.BytesPlaced.{AreReported, both_reported, none_reported, reported_placed}
use Rattle.laws_validate.proofs.DoubtsPlaced.{doubts_reported}
use Rattle.laws_validate.proofs.ExtrasPlaced.{extras_reported}
use Rattle.laws_validate.proofs.ExtrasWarn.{notes_warn, outputs_warn}
use Rattle.laws_validate.proofs.PlanningPlaced.{planning_reported}
use Rattle.laws_validate.proofs.PlanningWarns.{failures_warn, planned_warn}
use Rattle.laws_validate.proofs.Placing.{AreRight, IsRight, Right}
use Rattle.laws_validate.proofs.RefusalsPlaced.{given_reported}
use Rattle.laws_validate.proofs.Warned.{in_given, unique, unknown_in}
use Rattle.laws_validate.proofs.Warning.{Has, Warns, contained, has_left, has_right}

-- ---- where they stand

one_more : (form : Form) (problem : Problem) (d : Data) (path : List Segment) → Right IsRead problem d path → Right (IsReadIn form) problem d path
one_more form NotRead d path h = record {
  front = h.front;
  number = h.number;
  names = h.names;
  value = h.value;
  text = h.text;
  reads = always h.reads;
  path_is = h.path_is;
  value_is = h.value_is;
  text_is = h.text_is;
  unknown = h.unknown;
}
one_more form (IsMissing wanted) d path h = h
one_more form problem d path h = h

right_more : (form : Form) (d : Data) (all : List Finding) → AreRight IsRead d all → AreRight (IsReadIn form) d all
right_more form d [] h = tt
right_more form d (x ∷ xs) h = (one_more form x.problem d x.path h.0, right_more form d xs h.1)

reported_more : (form : Form) (o : Option Data) (all : List Finding) → AreReported IsRead o all → AreReported (IsReadIn form) o all
reported_more form None all h = h
reported_more form (Some d) all h = right_more form d all h

planned_reported : (form : Form) → reads_extras form ≡ true → reads_planning form ≡ true → (refused : Bool) (plan script : List ℕ) → AreReported (IsReadIn form) (tree_of script) (planned_extras refused plan script)
planned_reported form extras planning refused plan script =
    both_reported (IsReadIn form) (tree_of script) (terraform_extras refused plan script) (planning_findings (objects_unless refused plan) script)
    (extras_reported (IsReadIn form) (plan_output extras) (note extras) (outputs_unless refused plan) script)
    (planning_reported (IsReadIn form) (planned planning) (failure planning) (objects_unless refused plan) script)

form_extras_reported : (form : Form) (refused : Bool) (plan script : List ℕ) → AreReported (IsReadIn form) (tree_of script) (extras_for form refused plan (Some script))
form_extras_reported Applystream refused plan script = none_reported (IsReadIn Applystream) (tree_of script)
form_extras_reported Terraform refused plan script = extras_reported (IsReadIn Terraform) (plan_output refl) (note refl) (outputs_unless refused plan) script
form_extras_reported TerraformPlan refused plan script = planned_reported TerraformPlan refl refl refused plan script
form_extras_reported TerraformApply refused plan script = planned_reported TerraformApply refl refl refused plan script

before_reported : (form : Form) (lanes : Bool) (plan script : List ℕ) → AreReported (IsReadIn form) (tree_of script) (findings_before_doubts form lanes plan (Some script))
before_reported form lanes plan script =
    let refused : Bool = list_any is_refusal (plan_findings plan) in
    both_reported (IsReadIn form) (tree_of script) (given_findings lanes (plan_of plan) (Some script)) (extras_for form refused plan (Some script))
    (reported_more form (tree_of script) (given_findings lanes (plan_of plan) (Some script)) (given_reported lanes (plan_of plan) script))
    (form_extras_reported form refused plan script)

findings_reported : (form : Form) (lanes : Bool) (plan script : List ℕ) → AreReported (IsReadIn form) (tree_of script) (findings_in form lanes plan (Some script))
findings_reported form lanes plan script =
    let refused : Bool = is_refused form lanes plan (Some script) in
    both_reported (IsReadIn form) (tree_of script) (findings_before_doubts form lanes plan (Some script)) (doubts_unless refused form lanes plan (Some script))
    (before_reported form lanes plan script) (doubts_reported (IsReadIn form) refused form lanes plan script)

pub placed_in_form : (form : Form) (lanes : Bool) (plan script : List ℕ) → ArePlaced (tree_of script) (findings_in form lanes plan (Some script))
placed_in_form form lanes plan script = reported_placed (IsReadIn form) (tree_of script) (findings_in form lanes plan (Some script)) (findings_reported form lanes plan script)

-- ---- where a warning is reported

extras_in_tree : (large : Bool) (o : Option Data) (tree : Data) (findings : Data → List Finding) (x : Finding) → large ≡ false → o ≡ Some tree → Has x (findings tree)
    → Has x (if large then [] else option_map_or findings o [])
extras_in_tree large o tree findings x small is h = rw (small, is) h

in_extras_findings : (front : List Segment) (names : List Name) (plan : Option OutputsOfPlan) (script : List ℕ) (tree : Data) → nat_lt max_bytes (length script) ≡ false → tree_of script ≡ Some tree
    → Warns front names tree (in_extras plan tree) → Warns front names tree (extras_findings plan script)
in_extras_findings front names plan script tree small is h value n text at has unknown =
    extras_in_tree (nat_lt max_bytes (length script)) (tree_of script) tree (in_extras plan) (warning_at (front ++ Other n ∷ [])) small is (h value n text at has unknown)

in_planning_findings : (front : List Segment) (names : List Name) (objects : Option (List ResourceChange)) (script : List ℕ) (tree : Data) → nat_lt max_bytes (length script) ≡ false → tree_of script ≡ Some tree
    → Warns front names tree (in_planning objects tree) → Warns front names tree (planning_findings objects script)
in_planning_findings front names objects script tree small is h value n text at has unknown =
    extras_in_tree (nat_lt max_bytes (length script)) (tree_of script) tree (in_planning objects) (warning_at (front ++ Other n ∷ [])) small is (h value n text at has unknown)

-- the findings of a part are among all of them
extras_part : (form : Form) → reads_extras form ≡ true → (refused : Bool) (plan script : List ℕ) (x : Finding) → Has x (terraform_extras refused plan script) → Has x (extras_for form refused plan (Some script))
extras_part Applystream e refused plan script x h = absurd cc
extras_part Terraform e refused plan script x h = h
extras_part TerraformPlan e refused plan script x h = has_left x (terraform_extras refused plan script) (planning_findings (objects_unless refused plan) script) h
extras_part TerraformApply e refused plan script x h = has_left x (terraform_extras refused plan script) (planning_findings (objects_unless refused plan) script) h

planning_part : (form : Form) → reads_planning form ≡ true → (refused : Bool) (plan script : List ℕ) (x : Finding) → Has x (planning_findings (objects_unless refused plan) script)
    → Has x (extras_for form refused plan (Some script))
planning_part Applystream e refused plan script x h = absurd cc
planning_part Terraform e refused plan script x h = absurd cc
planning_part TerraformPlan e refused plan script x h = has_right x (terraform_extras refused plan script) (planning_findings (objects_unless refused plan) script) h
planning_part TerraformApply e refused plan script x h = has_right x (terraform_extras refused plan script) (planning_findings (objects_unless refused plan) script) h

before_warn : {form : Form} {front : List Segment} {names : List Name} → IsReadIn form front names → (lanes : Bool) (plan script : List ℕ) (tree : Data)
    → nat_lt max_bytes (length script) ≡ false → tree_of script ≡ Some tree → Warns front names tree (findings_before_doubts form lanes plan (Some script))
before_warn {form} {front} {names} (always reads) lanes plan script tree small is value n text at has unknown =
    has_left (warning_at (front ++ Other n ∷ [])) (given_findings lanes (plan_of plan) (Some script)) (extras_for form (list_any is_refusal (plan_findings plan)) plan (Some script))
    (in_given lanes (plan_of plan) script tree (front ++ Other n ∷ []) small is
    (record { front = front; number = n; names = names; value = value; text = text; reads = reads; path_is = refl; value_is = at; text_is = has; unknown = unknown }))
before_warn {form} (plan_output e k) lanes plan script tree small is value n text at has unknown =
    let refused : Bool = list_any is_refusal (plan_findings plan) in
    let outputs : Option OutputsOfPlan = outputs_unless refused plan in
    let x : Finding = warning_at (Member name.Outputs ∷ Other k ∷ Other n ∷ []) in
    has_right x (given_findings lanes (plan_of plan) (Some script)) (extras_for form refused plan (Some script))
    (extras_part form e refused plan script x
    (in_extras_findings (Member name.Outputs ∷ Other k ∷ []) plan_output_names outputs script tree small is (outputs_warn outputs tree k) value n text at has unknown))
before_warn {form} (note e k) lanes plan script tree small is value n text at has unknown =
    let refused : Bool = list_any is_refusal (plan_findings plan) in
    let outputs : Option OutputsOfPlan = outputs_unless refused plan in
    let x : Finding = warning_at (Member name.Diagnostics ∷ Item k ∷ Other n ∷ []) in
    has_right x (given_findings lanes (plan_of plan) (Some script)) (extras_for form refused plan (Some script))
    (extras_part form e refused plan script x
    (in_extras_findings (Member name.Diagnostics ∷ Item k ∷ []) note_names outputs script tree small is (notes_warn outputs tree k) value n text at has unknown))
before_warn {form} (planned e k) lanes plan script tree small is value n text at has unknown =
    let refused : Bool = list_any is_refusal (plan_findings plan) in
    let objects : Option (List ResourceChange) = objects_unless refused plan in
    let x : Finding = warning_at (Member name.Planning ∷ Item k ∷ Other n ∷ []) in
    has_right x (given_findings lanes (plan_of plan) (Some script)) (extras_for form refused plan (Some script))
    (planning_part form e refused plan script x
    (in_planning_findings (Member name.Planning ∷ Item k ∷ []) planned_names objects script tree small is (planned_warn objects tree k) value n text at has unknown))
before_warn {form} (failure e k) lanes plan script tree small is value n text at has unknown =
    let refused : Bool = list_any is_refusal (plan_findings plan) in
    let objects : Option (List ResourceChange) = objects_unless refused plan in
    let x : Finding = warning_at (Member name.Planning ∷ Item k ∷ Member name.Failed ∷ Other n ∷ []) in
    has_right x (given_findings lanes (plan_of plan) (Some script)) (extras_for form refused plan (Some script))
    (planning_part form e refused plan script x
    (in_planning_findings (Member name.Planning ∷ Item k ∷ Member name.Failed ∷ []) failure_names objects script tree small is (failures_warn objects tree k) value n text at has unknown))

findings_warn : {form : Form} {front : List Segment} {names : List Name} → IsReadIn form front names → (lanes : Bool) (plan script : List ℕ) (tree : Data)
    → nat_lt max_bytes (length script) ≡ false → tree_of script ≡ Some tree → Warns front names tree (findings_in form lanes plan (Some script))
findings_warn {form} {front} {names} reads lanes plan script tree small is value n text at has unknown =
    has_left (warning_at (front ++ Other n ∷ [])) (findings_before_doubts form lanes plan (Some script)) (doubts_unless (is_refused form lanes plan (Some script)) form lanes plan (Some script))
    (before_warn {form = form} {front = front} {names = names} reads lanes plan script tree small is value n text at has unknown)

ignored_reported : (form : Form) (lanes : Bool) (plan script : List ℕ) (tree : Data) (path : List Segment) → nat_lt max_bytes (length script) ≡ false → tree_of script ≡ Some tree → IsIgnored (IsReadIn form) tree path
    → Contains (findings_in form lanes plan (Some script)) (warning_at path)
ignored_reported form lanes plan script tree path small is h =
    subst (λ (p : List Segment). Contains (findings_in form lanes plan (Some script)) (warning_at p)) (sym h.path_is)
    (contained (warning_at (h.front ++ Other h.number ∷ [])) (findings_in form lanes plan (Some script))
    (findings_warn h.reads lanes plan script tree small is h.value h.number h.text h.value_is h.text_is h.unknown))

pub warned_in_form : (form : Form) (lanes : Bool) (plan script : List ℕ) (tree : Data) (path : List Segment) → nat_lt max_bytes (length script) ≡ false → tree_of script ≡ Some tree
    → Contains (findings_in form lanes plan (Some script)) (warning_at path) ↔ IsIgnored (IsReadIn form) tree path
warned_in_form form lanes plan script tree path small is =
    let all : List Finding = findings_in form lanes plan (Some script) in
    let right : AreRight (IsReadIn form) tree all = subst (λ (o : Option Data). AreReported (IsReadIn form) o all) is (findings_reported form lanes plan script) in (
      All-contains (IsRight (IsReadIn form) tree) all (warning_at path) (All-from_recursion (IsRight (IsReadIn form) tree) all right),
      ignored_reported form lanes plan script tree path small is,
    )

-- ---- of which members

no_output : {n : ℕ} {names : List Name} → IsRead (Member name.Outputs ∷ Other n ∷ []) names → ⊥
no_output h = elim h [ ]

no_note : {n : ℕ} {names : List Name} → IsRead (Member name.Diagnostics ∷ Item n ∷ []) names → ⊥
no_note h = elim h [ ]

no_planned : {n : ℕ} {names : List Name} → IsRead (Member name.Planning ∷ Item n ∷ []) names → ⊥
no_planned h = elim h [ ]

no_failure : {n : ℕ} {names : List Name} → IsRead (Member name.Planning ∷ Item n ∷ Member name.Failed ∷ []) names → ⊥
no_failure h = elim h [ ]

unique_in : {form : Form} {front : List Segment} {names others : List Name} → IsReadIn form front names → IsReadIn form front others → names ≡ others
unique_in (always r) (always s) = unique r s
unique_in (always r) (plan_output e n) = absurd (no_output r)
unique_in (always r) (note e n) = absurd (no_note r)
unique_in (always r) (planned e n) = absurd (no_planned r)
unique_in (always r) (failure e n) = absurd (no_failure r)
unique_in (plan_output e n) (always s) = absurd (no_output s)
unique_in (plan_output e n) (plan_output f m) = refl
unique_in (note e n) (always s) = absurd (no_note s)
unique_in (note e n) (note f m) = refl
unique_in (planned e n) (always s) = absurd (no_planned s)
unique_in (planned e n) (planned f m) = refl
unique_in (failure e n) (always s) = absurd (no_failure s)
unique_in (failure e n) (failure f m) = refl

pub warned_of_in_form : (form : Form) (lanes : Bool) (plan script : List ℕ) (tree : Data) (front : List Segment) (names : List Name) (value : Data) (n : ℕ) (text : List ℕ)
    → nat_lt max_bytes (length script) ≡ false → tree_of script ≡ Some tree → IsReadIn form front names → value_at front tree ≡ Some value → slice_get (texts_in (members_in value)) n ≡ Some text
    → Contains (findings_in form lanes plan (Some script)) (warning_at (front ++ Other n ∷ [])) ↔ (is_known names text ≡ false)
warned_of_in_form form lanes plan script tree front names value n text small is reads at has =
    let both_ways = warned_in_form form lanes plan script tree (front ++ Other n ∷ []) small is in (
      λ c. unknown_in (IsReadIn form) (λ path one other. unique_in) front names tree value n text reads at has (both_ways.0 c),
      λ unknown. both_ways.1
          (record { front = front; number = n; names = names; value = value; text = text; reads = reads; path_is = refl; value_is = at; text_is = has; unknown = unknown }),
    )
