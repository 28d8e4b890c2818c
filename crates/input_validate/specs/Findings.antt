-- Findings, and the report of a list of findings.
use Rattle.std.specs.Prelude.{ℕ, ◌^◌, ◌-◌, List, [], ◌∷◌, length, min, take, Bool, true, false}
use Rattle.std.specs.List.{list_any}
use Rattle.input_validate.specs.declared.findings.finding.Finding.{Finding}
use Rattle.input_validate.specs.declared.findings.path.Segment.{Segment}
use Rattle.input_validate.specs.declared.findings.problem.Problem.{Problem}
use Rattle.input_validate.specs.declared.findings.problem.Problem.TheVariants.{NeedlessSkip, NotRead, UnheededFailure, ValuelessOutput}

-- a finding at the value itself
abbrev pub finding_here : Problem → Finding
finding_here problem = record { path = []; problem = problem }

-- a finding at a member or an item
abbrev pub finding_at : Segment → Problem → Finding
finding_at segment problem = record { path = segment ∷ []; problem = problem }

-- the finding seen from the value that holds that member or item
abbrev pub under : Segment → Finding → Finding
under segment finding = record { path = segment ∷ finding.path; problem = finding.problem }

-- a run refuses for this problem; the others are warnings
abbrev pub is_refusal_of : Problem → Bool
is_refusal_of NotRead = false
is_refusal_of UnheededFailure = false
is_refusal_of NeedlessSkip = false
is_refusal_of (ValuelessOutput number) = false
is_refusal_of _ = true

-- a run refuses for this finding
abbrev pub is_refusal : Finding → Bool
is_refusal finding = is_refusal_of finding.problem

-- what a program holds of a list of findings
pub record Reported : Type 0 where
  -- the first 1,000 findings
  pub stored : List Finding
  -- the number of all findings
  pub count : ℕ
  -- a run refuses for one of the findings, stored or not
  pub refuses : Bool

abbrev pub max_stored : ℕ
max_stored = 1000

-- the greatest number that a program counts to
abbrev pub most_counted : ℕ
most_counted = 2 ^ 64 - 1

-- the report of a list of findings
unfoldable pub reported : List Finding → Reported
reported all = record { stored = take max_stored all; count = min (length all) most_counted; refuses = list_any is_refusal all }
