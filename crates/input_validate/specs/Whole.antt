-- Findings of inputs, from their bytes.
use Rattle.std.specs.Prelude.{ℕ, List, [], ◌∷◌, ◌++◌, drop, length, map, Bool, ◌&&◌, not, nat_lt, if◌then◌else◌, Option, Some, None, option_map, Result, Ok, Err}
use Rattle.std.specs.List.{flat_map, list_any}
use Rattle.std.specs.Option.{option_map_or}
use Rattle.serde_json.specs.Data.{Data}
use Rattle.apply_json.specs.Tree.{tree_of}
use Rattle.apply_model.specs.Plan.ResourceChange.{ResourceChange}
use Rattle.apply_model.specs.Plan.SavedPlan.{SavedPlan}
use Rattle.apply_model.specs.Script.OutcomeMap.{OutcomeMap}
use Rattle.apply_model.specs.Script.Waits.{has_waits}
use Rattle.apply_plan.specs.Bytes.{max_bytes}
use Rattle.apply_plan.specs.declared.plan.plan_error.PlanError.{PlanError}
use Rattle.apply_plan.specs.declared.script.script_error.ScriptError.{ScriptError}
use Rattle.apply_plan.specs.declared.script.script_error.ScriptError.TheVariants as error
use Rattle.apply_plan.specs.Script.NeverBeginning.{never_beginning_of}
use Rattle.apply_plan.specs.Script.OutcomeMap.{script_of}
use Rattle.input_validate.specs.declared.findings.finding.Finding.{Finding}
use Rattle.input_validate.specs.declared.findings.problem.Problem.{Problem}
use Rattle.input_validate.specs.declared.findings.problem.Problem.TheVariants.{ForPlan, NotJson, TooManyBytes, Waits}
use Rattle.input_validate.specs.declared.findings.name.Name.TheVariants.{Changes}
use Rattle.input_validate.specs.declared.findings.path.Segment.{Segment}
use Rattle.input_validate.specs.declared.findings.path.Segment.TheVariants.{Item, Member}
use Rattle.input_validate.specs.AgainstPlan.{place_of_waits, waits_findings}
use Rattle.input_validate.specs.Findings.{finding_here, is_refusal, under}
use Rattle.input_validate.specs.PlanFindings.{in_plan}
use Rattle.input_validate.specs.ScriptFindings.{in_script}

-- the findings of an input; an input that is too large or not JSON has only that finding
abbrev pub in_bytes : (Data → List Finding) → List ℕ → List Finding
in_bytes findings bytes =
    if nat_lt max_bytes (length bytes) then finding_here TooManyBytes ∷ []
    else option_map_or findings (tree_of bytes) (finding_here NotJson ∷ [])

-- the findings of a plan
abbrev pub plan_findings : List ℕ → List Finding
plan_findings bytes = in_bytes in_plan bytes

-- the changes of a plan, if there is one
abbrev pub changes_in : Option SavedPlan → Option (List ResourceChange)
changes_in plan = option_map (λ saved. saved.changes) plan

-- the findings of a script; with `changes`, the script is compared with them
abbrev pub script_findings : Option (List ResourceChange) → List ℕ → List Finding
script_findings changes bytes = in_bytes (in_script changes) bytes

-- ---- a script for a plan

-- the entry that a refusal names
abbrev pub entry_of_refusal : ScriptError → Option ℕ
entry_of_refusal (error.BadShape entry) = entry
entry_of_refusal (error.UnknownChange n) = Some n
entry_of_refusal (error.Duplicate n) = Some n
entry_of_refusal (error.TooManySteps n) = Some n
entry_of_refusal (error.SecondsRange n) = Some n
entry_of_refusal (error.TooManyProvisioners n) = Some n
entry_of_refusal (error.TooMuchOutput n) = Some n
entry_of_refusal (error.NotACreate n) = Some n
entry_of_refusal (error.WarnsNotARead n) = Some n
entry_of_refusal (error.TooManyWaits n) = Some n
entry_of_refusal (error.UnknownWait n) = Some n
entry_of_refusal (error.NoSuchStep n) = Some n
entry_of_refusal (error.NeverBegins n) = Some n
entry_of_refusal _ = None

-- a finding at the entry that a refusal names, or at the top
abbrev pub placed : Option ℕ → Problem → List Finding
placed None problem = finding_here problem ∷ []
placed (Some n) problem = map (under (Member Changes)) (map (under (Item n)) (finding_here problem ∷ []))

-- the finding of a refusal
abbrev pub refused_for : ScriptError → List Finding
refused_for refusal = placed (entry_of_refusal refusal) (ForPlan refusal)

-- the path to the `after` of the first waiting step
abbrev pub waits_at : Option (List ResourceChange) → List ℕ → List Segment
waits_at changes bytes = if nat_lt max_bytes (length bytes) then [] else option_map_or (place_of_waits changes) (tree_of bytes) []

-- without lanes, the finding that steps of a script wait; a run reads the script
abbrev pub unless_waits : (lanes : Bool) → List ResourceChange → List ℕ → OutcomeMap → List Finding
unless_waits lanes changes bytes script =
    if not lanes && has_waits script then record { path = waits_at (Some changes) bytes; problem = Waits } ∷ [] else []

-- without lanes, the finding that steps wait, whatever other errors the script has
abbrev pub waits_without_lanes : (lanes : Bool) → Option (List ResourceChange) → List ℕ → List Finding
waits_without_lanes lanes changes bytes =
    if lanes then [] else if nat_lt max_bytes (length bytes) then [] else option_map_or (waits_findings changes) (tree_of bytes) []

-- each of these entries has a step that can never start
abbrev pub stuck_entries : List ℕ → List Finding
stuck_entries numbers = flat_map (λ n. refused_for (error.NeverBegins n)) numbers

-- the entries after the first, which is the one that a run refuses
abbrev pub after_first : Result (List ℕ) ScriptError → List ℕ
after_first (Ok numbers) = drop 1 numbers
after_first (Err refusal) = []

-- what a run refuses a script for, then each further entry with a step that can never start, then
-- waits without lanes
abbrev pub refusals_of : (lanes : Bool) → List ResourceChange → List ℕ → Result OutcomeMap ScriptError → (stuck : Result (List ℕ) ScriptError) → List Finding
refusals_of lanes changes bytes (Ok script) stuck = unless_waits lanes changes bytes script
refusals_of lanes changes bytes (Err refusal) stuck = refused_for refusal ++ stuck_entries (after_first stuck) ++ waits_without_lanes lanes (Some changes) bytes

-- what a run refuses a script for; if the script has an error already, only waits without lanes
abbrev pub refusals_against_plan : (lanes : Bool) → SavedPlan → List ℕ → List Finding
refusals_against_plan lanes plan bytes =
    if list_any is_refusal (script_findings (Some plan.changes) bytes) then waits_without_lanes lanes (Some plan.changes) bytes
    else refusals_of lanes plan.changes bytes (script_of plan bytes) (never_beginning_of plan bytes)

-- the findings of a script for a plan that a run may refuse
abbrev pub script_findings_for : (lanes : Bool) → Result SavedPlan PlanError → List ℕ → List Finding
script_findings_for lanes (Ok plan) bytes = script_findings (Some plan.changes) bytes ++ refusals_against_plan lanes plan bytes
script_findings_for lanes (Err refusal) bytes = script_findings None bytes ++ waits_without_lanes lanes None bytes

-- the findings of a script, if one is given
abbrev pub given_findings : (lanes : Bool) → Result SavedPlan PlanError → Option (List ℕ) → List Finding
given_findings lanes plan None = []
given_findings lanes plan (Some bytes) = script_findings_for lanes plan bytes
