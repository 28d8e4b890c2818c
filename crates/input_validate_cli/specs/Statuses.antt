-- Exit statuses.
use Rattle.std.specs.Prelude.{ℕ, List, Bool, ◌||◌, nat_lt, if◌then◌else◌, Option}
use Rattle.input_validate.specs.declared.form.Form.{Form}
use Rattle.input_validate.specs.Findings.{Reported, reported}
use Rattle.input_validate.specs.InForm.{findings_in}
use Rattle.input_validate.specs.Whole.{plan_findings}

-- 2 if a run refuses for one of the findings, 1 if there are only warnings, else 0
abbrev pub status_by : (plan script : Reported) → ℕ
status_by plan script = if plan.refuses || script.refuses then 2 else if nat_lt 0 plan.count || nat_lt 0 script.count then 1 else 0

-- the exit status for the bytes of a plan, and of a script for it if one is given
abbrev pub status_for : Form → (lanes : Bool) → List ℕ → Option (List ℕ) → ℕ
status_for form lanes plan script = status_by (reported (plan_findings plan)) (reported (findings_in form lanes plan script))
