-- Findings of what a script says of objects that are refreshed or read, its member `planning`. All
-- paths start at the value.
use Rattle.std.specs.Prelude.{ℕ, List, [], ◌∷◌, ◌++◌, length, map, Bool, true, false, ◌&&◌, is_none, is_some, nat_lt, if◌then◌else◌, Option, Some, None, option_and_then, option_map, unwrap_or}
use Rattle.std.specs.Option.{option_map_or, option_or}
use Rattle.serde_json.specs.Data.{Data}
use Rattle.apply_address.specs.Modes.{mode_of}
use Rattle.apply_address.specs.Reading.{parts_in}
use Rattle.apply_json.specs.Tree.{◌>>=◌, non_empty_text_of, text_or, tree_of, unless_empty}
use Rattle.apply_model.specs.declared.plan.mode.Mode.{Mode}
use Rattle.apply_model.specs.declared.plan.mode.Mode.TheVariants.{DataSource, Managed}
use Rattle.apply_model.specs.Plan.ResourceChange.{ResourceChange}
use Rattle.apply_plan.specs.Bytes.{max_bytes}
use Rattle.apply_prior.specs.Prior.{prior_of}
use Rattle.input_validate.specs.declared.findings.finding.Finding.{Finding}
use Rattle.input_validate.specs.declared.findings.name.Name.{Name}
use Rattle.input_validate.specs.declared.findings.name.Name.TheVariants as name
use Rattle.input_validate.specs.declared.findings.path.Segment.TheVariants.{Member}
use Rattle.input_validate.specs.declared.findings.expected.Expected.TheVariants as expected
use Rattle.input_validate.specs.declared.findings.problem.Problem.TheVariants as problem
use Rattle.input_validate.specs.declared.rules.rule.MemberRule.{MemberRule}
use Rattle.input_validate.specs.declared.rules.violation.Violation.{Violation}
use Rattle.input_validate.specs.AgainstPlan.{change_named, only_warns}
use Rattle.input_validate.specs.Findings.{under}
use Rattle.input_validate.specs.Names.{name_text}
use Rattle.input_validate.specs.ObjectNames.{Named}
use Rattle.input_validate.specs.PlanFindings.{first_named}
use Rattle.input_validate.specs.Rules.{fault_of, faults_of, ignored, inside, is_set, items_after, items_at, member_at, rule, violation_findings, where_suits}
use Rattle.input_validate.specs.ScriptFindings.{has_failed, in_failure}
use Rattle.input_validate.specs.Skipped.{is_skipped}

-- the most entries that a run reads
abbrev pub max_planned : ℕ
max_planned = 9999

-- ---- the members of an entry

abbrev pub planned_names : List Name
planned_names = name.Address ∷ name.Deposed ∷ name.Seconds ∷ name.Id ∷ name.Failed ∷ name.Gone ∷ name.Skipped ∷ []

-- the first members; the rules of the others stand between those of what may not stand next to them
abbrev pub planned_table : List MemberRule
planned_table =
    rule name.Address expected.NonEmptyText ∷ rule name.Deposed expected.TextOrAbsent ∷ rule name.Seconds expected.SecondsOrAbsent ∷ []

-- a member that may not stand next to `skipped`
abbrev pub beside_skipped : Name → (stands : Bool) → Data → Violation
beside_skipped name stands d = record { holds = is_skipped d && stands; at = Some name; problem = problem.WithSkippedObject }

abbrev pub skipped_seconds : Data → Violation
skipped_seconds d = beside_skipped name.Seconds (is_some (member_at name.Seconds d)) d

abbrev pub skipped_id : Data → Violation
skipped_id d = beside_skipped name.Id (is_some (non_empty_text_of (name_text name.Id) d)) d

abbrev pub skipped_gone : Data → Violation
skipped_gone d = beside_skipped name.Gone (is_set name.Gone d) d

-- what has vanished does not fail, and neither does what is skipped
abbrev pub failed_violations : Data → List Violation
failed_violations d =
    record { holds = is_set name.Gone d && has_failed d; at = Some name.Failed; problem = problem.WithGone }
    ∷ beside_skipped name.Failed (has_failed d) d
    ∷ []

-- the findings of the members that a run reads, in their order
unfoldable pub in_planned_members : Data → List Finding
in_planned_members d =
    faults_of planned_table d
    ++ violation_findings (skipped_seconds d ∷ [])
    ++ fault_of d (rule name.Id expected.TextOrAbsent)
    ++ violation_findings (skipped_id d ∷ [])
    ++ inside in_failure name.Failed d
    ++ violation_findings (failed_violations d)
    ++ fault_of d (rule name.Gone expected.FlagOrAbsent)
    ++ violation_findings (skipped_gone d ∷ [])
    ++ fault_of d (rule name.Skipped expected.FlagOrAbsent)

-- ---- the object of an entry

-- the object that an entry names; none if its address or its deposed key is wrong
abbrev pub planned_name : Data → Option Named
planned_name d = do
  address ← non_empty_text_of (name_text name.Address) d
  deposed ← text_or [] (member_at name.Deposed d)
  Some (address, unless_empty deposed)

-- the mode of an object that the plan knows
abbrev pub known_mode : List ResourceChange → Named → Option Mode
known_mode objects named = option_map (λ object. object.mode) (change_named objects named)

-- the mode of a resource with that address; none where the text is no address of a resource
abbrev pub mode_at : List ℕ → Option Mode
mode_at address = option_map (λ parts. mode_of parts.resource) (parts_in address)

-- the mode of the object of a name: that of the plan's object, else that of the address
abbrev pub mode_of_name : List ResourceChange → Named → Option Mode
mode_of_name objects named = option_or (known_mode objects named) (mode_at named.0)

-- the mode of the object that an entry names
abbrev pub mode_of_entry : List ResourceChange → Data → Option Mode
mode_of_entry objects d = option_and_then (mode_of_name objects) (planned_name d)

-- it is a data source, which is read
abbrev pub is_read : Mode → Bool
is_read DataSource = true
is_read Managed = false

-- it is refreshed
abbrev pub is_refreshed : Mode → Bool
is_refreshed DataSource = false
is_refreshed Managed = true

-- What an entry says that its object cannot do: a data source is never deposed and never vanishes,
-- and a refresh has no failure that only warns. An entry that names nothing passes.
abbrev pub object_violations : Option Mode → Data → List Violation
object_violations mode d =
    record { holds = is_some (planned_name d) && is_none mode; at = Some name.Address; problem = problem.NoObject }
    ∷ record {
      holds = option_map_or is_read mode false && is_some (non_empty_text_of (name_text name.Deposed) d);
      at = Some name.Deposed;
      problem = problem.OnlyRefreshed;
    }
    ∷ record { holds = option_map_or is_read mode false && is_set name.Gone d; at = Some name.Gone; problem = problem.OnlyRefreshed }
    ∷ record { holds = option_map_or is_refreshed mode false && only_warns d; at = Some name.Failed; problem = problem.OnlyReadWarns }
    ∷ []

-- the same where the objects of the plan are known; else nothing is looked for
abbrev pub violations_in : Option (List ResourceChange) → Data → List Violation
violations_in None d = []
violations_in (Some objects) d = object_violations (mode_of_entry objects d) d

-- an earlier entry is about the same object; `first` is the number of the first one
abbrev pub again_violation : (first : Option ℕ) → Violation
again_violation first = record { holds = is_some first; at = None; problem = problem.PlannedBefore (unwrap_or first 0) }

-- ---- entries, and the whole

-- the findings of an entry, of these objects of the plan
unfoldable pub in_planned : Option (List ResourceChange) → (first : Option ℕ) → Data → List Finding
in_planned objects first d = where_suits expected.Planned d
    (in_planned_members d
    ++ violation_findings (violations_in objects d)
    ++ violation_findings (again_violation first ∷ [])
    ++ ignored planned_names d)

-- the findings of an entry after others
abbrev pub in_planned_after : Option (List ResourceChange) → List Data → Data → List Finding
in_planned_after objects before d = in_planned objects (first_named (map planned_name before) (planned_name d)) d

-- a script has more entries than a run reads
abbrev pub planning_violation : Data → Violation
planning_violation d =
    record { holds = nat_lt max_planned (length (items_at name.Planning d)); at = Some name.Planning; problem = problem.TooManyPlanned }

-- the findings of `planning` in a script
unfoldable pub in_planning : Option (List ResourceChange) → Data → List Finding
in_planning objects d =
    fault_of d (rule name.Planning expected.ArrayOrAbsent)
    ++ violation_findings (planning_violation d ∷ [])
    ++ map (under (Member name.Planning)) (items_after (in_planned_after objects) [] (items_at name.Planning d))

-- ---- from bytes

-- The findings in the bytes of a script. Bytes that are too many or not JSON are reported
-- elsewhere.
abbrev pub planning_findings : Option (List ResourceChange) → List ℕ → List Finding
planning_findings objects bytes = if nat_lt max_bytes (length bytes) then [] else option_map_or (in_planning objects) (tree_of bytes) []

-- the objects that the bytes of a plan have before the plan is made; none if a run refuses the plan
abbrev pub objects_unless : (refused : Bool) → List ℕ → Option (List ResourceChange)
objects_unless refused bytes =
    if refused then None else option_map (λ prior. map (λ object. object.object) prior.objects) (prior_of bytes)
