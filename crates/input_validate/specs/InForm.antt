-- Findings for a run in one of the forms.
use Rattle.std.specs.Prelude.{ℕ, List, [], ◌++◌, Bool, ◌||◌, if◌then◌else◌, Option, Some, None}
use Rattle.std.specs.List.{list_any}
use Rattle.apply_plan.specs.Plan.SavedPlan.{plan_of}
use Rattle.input_validate.specs.declared.findings.finding.Finding.{Finding}
use Rattle.input_validate.specs.declared.form.Form.{Form}
use Rattle.input_validate.specs.declared.form.Form.TheVariants.{Applystream, Terraform, TerraformPlan, TerraformApply}
use Rattle.input_validate.specs.Doubts.{doubts}
use Rattle.input_validate.specs.Extras.{extras_findings, outputs_unless}
use Rattle.input_validate.specs.Findings.{is_refusal}
use Rattle.input_validate.specs.Planning.{objects_unless, planning_findings}
use Rattle.input_validate.specs.Whole.{given_findings, plan_findings}

-- the findings of the members that a run in Terraform's form reads of the bytes of a script;
-- `refused` says that a run refuses the plan
abbrev pub terraform_extras : (refused : Bool) → List ℕ → List ℕ → List Finding
terraform_extras refused plan bytes = extras_findings (outputs_unless refused plan) bytes

-- the same for a command that makes its plan
abbrev pub planned_extras : (refused : Bool) → List ℕ → List ℕ → List Finding
planned_extras refused plan bytes = terraform_extras refused plan bytes ++ planning_findings (objects_unless refused plan) bytes

abbrev pub extras_of : Form → (refused : Bool) → List ℕ → List ℕ → List Finding
extras_of Applystream refused plan bytes = []
extras_of Terraform refused plan bytes = terraform_extras refused plan bytes
extras_of TerraformPlan refused plan bytes = planned_extras refused plan bytes
extras_of TerraformApply refused plan bytes = planned_extras refused plan bytes

-- the findings of the members that only a run in this form reads, if a script is given
abbrev pub extras_for : Form → (refused : Bool) → List ℕ → Option (List ℕ) → List Finding
extras_for form refused plan None = []
extras_for form refused plan (Some bytes) = extras_of form refused plan bytes

-- the findings of a script for a plan, except doubts
abbrev pub findings_before_doubts : Form → (lanes : Bool) → List ℕ → Option (List ℕ) → List Finding
findings_before_doubts form lanes plan script =
    given_findings lanes (plan_of plan) script ++ extras_for form (list_any is_refusal (plan_findings plan)) plan script

-- a run refuses the plan or the script for one of these findings
abbrev pub is_refused : Form → (lanes : Bool) → List ℕ → Option (List ℕ) → Bool
is_refused form lanes plan script =
    list_any is_refusal (plan_findings plan) || list_any is_refusal (findings_before_doubts form lanes plan script)

-- the doubts about a script; there are none if a run refuses the plan or the script
abbrev pub doubts_unless : (refused : Bool) → Form → (lanes : Bool) → List ℕ → Option (List ℕ) → List Finding
doubts_unless refused form lanes plan script = if refused then [] else doubts form lanes plan script

-- the findings of a script for a plan, from the bytes of both
abbrev pub findings_in : Form → (lanes : Bool) → List ℕ → Option (List ℕ) → List Finding
findings_in form lanes plan script =
    findings_before_doubts form lanes plan script ++ doubts_unless (is_refused form lanes plan script) form lanes plan script
