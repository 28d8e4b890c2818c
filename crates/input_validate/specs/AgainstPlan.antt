-- Findings of a script that is compared with the changes of a plan. Without a plan, only waits are
-- reported. All paths start at the value.
use Rattle.std.specs.Prelude.{ℕ, suc, codes, ◌∷◌, ◌-◌, List, [], find, length, map, sum_by, Bool, true, false, ◌&&◌, not, is_none, is_some, nat_le, nat_lt, if◌then◌else◌, Option, Some, None, option_and_then, slice_get, unwrap_or}
use Rattle.std.specs.List.{list_any, position_from}
use Rattle.std.specs.Option.{option_map_or}
use Rattle.std.specs.Str.{bytes_eq}
use Rattle.serde_json.specs.Data.{Data}
use Rattle.serde_json.specs.Find.{as_str}
use Rattle.apply_json.specs.Tree.{is_word}
use Rattle.apply_model.specs.declared.plan.step_kind.StepKind.{StepKind}
use Rattle.apply_model.specs.declared.plan.step_kind.StepKind.TheVariants.{Create, Read}
use Rattle.apply_model.specs.Plan.ResourceChange.{ResourceChange}
use Rattle.apply_model.specs.Plan.StepKind.{is_kind}
use Rattle.apply_model.specs.Script.Limits.{max_waits}
use Rattle.apply_resolve.specs.ObjectName.{name_one_object}
use Rattle.apply_plan.specs.Script.Refusals.{takes_provisioners}
use Rattle.input_validate.specs.declared.findings.finding.Finding.{Finding}
use Rattle.input_validate.specs.declared.findings.name.Name.{Name}
use Rattle.input_validate.specs.declared.findings.name.Name.TheVariants as name
use Rattle.input_validate.specs.declared.findings.path.Segment.{Segment}
use Rattle.input_validate.specs.declared.findings.path.Segment.TheVariants.{Item, Member}
use Rattle.input_validate.specs.declared.findings.problem.Problem.TheVariants as problem
use Rattle.input_validate.specs.declared.rules.violation.Violation.{Violation}
use Rattle.input_validate.specs.Findings.{finding_here, under}
use Rattle.input_validate.specs.PlanFindings.{first_named, name_read}
use Rattle.input_validate.specs.Skipped.{is_skipped}
use Rattle.input_validate.specs.Rules.{items_at, member_at}

-- ---- objects

-- the object that an entry, or an item of `after`, names; a text is the address of an object that
-- is not deposed
abbrev pub object_named : Data → Option (List ℕ × Option (List ℕ))
object_named d = option_map_or (λ address. Some (address, None)) (as_str d) (name_read d)

-- the change of an object
abbrev pub change_named : List ResourceChange → List ℕ × Option (List ℕ) → Option ResourceChange
change_named changes name = find (λ change. name_one_object change.address change.deposed name.0 name.1) changes

-- a change is of an object at this address
abbrev pub has_address : List ResourceChange → List ℕ → Bool
has_address changes address = list_any (λ change. bytes_eq change.address address) changes

-- the member that an unknown object is reported at: its deposed key, if the plan changes another
-- object at the address (`there`)
abbrev pub place_unknown : (there : Bool) → Data → Option Name
place_unknown there d =
    if is_some (as_str d) then None else if there && is_some (member_at name.Deposed d) then Some name.Deposed else Some name.Address

-- no change is of the object that a value names
abbrev pub unknown_violation : List ResourceChange → Data → List ℕ × Option (List ℕ) → Violation
unknown_violation changes d named = record {
  holds = is_none (change_named changes named);
  at = place_unknown (has_address changes named.0) d;
  problem = if has_address changes named.0 then problem.UnknownObject else problem.UnknownAddress;
}

-- the same test with a plan; without a plan there is no test
abbrev pub unknown_violations : Option (List ResourceChange) → Data → List Violation
unknown_violations None d = []
unknown_violations (Some changes) d = option_map_or (λ named. unknown_violation changes d named ∷ []) (object_named d) []

-- the change of the object that a value names
abbrev pub change_at : Option (List ResourceChange) → Data → Option ResourceChange
change_at changes d = option_and_then (λ all. option_and_then (change_named all) (object_named d)) changes

-- the kind of the step with this number in a change
abbrev pub kind_of : Option ResourceChange → ℕ → Option StepKind
kind_of change number = option_and_then (λ planned. slice_get planned.steps number) change

-- ---- entries

-- the number of the first of these entries that names the object of an entry
abbrev pub named_first : List Data → Data → Option ℕ
named_first before d = first_named (map name_read before) (name_read d)

-- an earlier entry is about the same change
abbrev pub repeat_violation : Option ResourceChange → Option ℕ → Violation
repeat_violation change first = record { holds = is_some change && is_some first; at = None; problem = problem.AboutAgain (unwrap_or first 0) }

-- an entry has more steps than its change
abbrev pub step_count_violation : Option ResourceChange → Data → Violation
step_count_violation change d = record {
  holds = option_map_or (λ planned. nat_lt (length planned.steps) (length (items_at name.Steps d))) change false;
  at = Some name.Steps;
  problem = problem.TooManySteps (kind_of change 0) (kind_of change 1);
}

-- ---- steps

-- the `failed` of a step has the severity `warning`
abbrev pub only_warns : Data → Bool
only_warns d =
    option_map_or (λ failed. option_map_or (is_word (codes "warning")) (member_at name.Severity failed) false) (member_at name.Failed d) false

-- the change is of a deposed object
abbrev pub is_deposed : Option ResourceChange → Bool
is_deposed change = option_map_or (λ planned. is_some planned.deposed) change false

-- The members that a step of this kind may not have. `number` is the place of the step in its
-- change. A step beyond those of its change passes.
abbrev pub kind_violations : Option ResourceChange → ℕ → Data → List Violation
kind_violations change number d =
    record {
      holds = option_map_or (λ kind. nat_lt 0 (length (items_at name.Provisioners d)) && not (takes_provisioners (is_deposed change) (number, kind))) (kind_of change number) false;
      at = Some name.Provisioners;
      problem = problem.TakesNone (unwrap_or (kind_of change number) Create);
    }
    ∷ record {
      holds = option_map_or (λ kind. only_warns d && not (is_kind Read kind)) (kind_of change number) false;
      at = Some name.Failed;
      problem = problem.OnlyWarns (unwrap_or (kind_of change number) Create);
    }
    ∷ []

-- ---- items of `after`

-- an item of `after` names a step that its change does not have
abbrev pub missing_step_violation : Option ResourceChange → (step : Option ℕ) → Violation
missing_step_violation change step = record {
  holds = option_map_or (λ planned. option_map_or (nat_le (length planned.steps)) step false) change false;
  at = Some name.Step;
  problem = problem.NoSuchStep (kind_of change 0) (kind_of change 1);
}

-- the number of items in the `after` of a step
abbrev pub waits_in : Data → ℕ
waits_in d = length (items_at name.After d)

-- the number of items in all steps of an entry
abbrev pub waits_in_all : Data → ℕ
waits_in_all d = sum_by waits_in (items_at name.Steps d)

-- how many items a script may still have, if it has `count` already
abbrev pub waits_left : ℕ → Option ℕ
waits_left count = if nat_le count max_waits then Some (max_waits - count) else None

-- how many items a script may still have after these steps, if `most` were left before them
abbrev pub waits_left_after : (most : ℕ) → List Data → Option ℕ
waits_left_after most ds = if nat_lt most (sum_by waits_in ds) then None else Some (most - sum_by waits_in ds)

-- how many items a script may still have after an entry, if `left` were left before it
abbrev pub left_after : (left : Option ℕ) → Data → Option ℕ
left_after left d = option_and_then (λ most. waits_left_after most (items_at name.Steps d)) left

-- the finding that one item is beyond the limit
abbrev pub beyond_at : (step item : ℕ) → List Finding
beyond_at step item = map (under (Item step)) (map (under (Member name.After)) (map (under (Item item)) (finding_here problem.TooManyWaits ∷ [])))

-- the first item after the first `most` items of these steps; `number` is the number of the first
-- step
abbrev pub waits_beyond : (most number : ℕ) → List Data → List Finding
waits_beyond most number [] = []
waits_beyond most number (d ∷ ds) =
    if nat_lt most (waits_in d) then beyond_at number most else waits_beyond (most - waits_in d) (suc number) ds

-- The first item of an entry that is beyond the limit. Nothing is reported without a plan, or if an
-- earlier entry went beyond the limit.
abbrev pub beyond_in : (has_plan : Bool) → (left : Option ℕ) → Data → List Finding
beyond_in has_plan None d = []
beyond_in has_plan (Some most) d =
    if has_plan then map (under (Member name.Steps)) (waits_beyond most 0 (items_at name.Steps d)) else []

-- ---- where steps wait

-- a step waits for this item of its `after`; a change without steps is nothing to wait for
abbrev pub is_waited_for : Option (List ResourceChange) → Data → Bool
is_waited_for changes d = option_map_or (λ change. nat_lt 0 (length change.steps)) (change_at changes d) true

-- a step waits for others, and is not skipped
abbrev pub is_waiting : Option (List ResourceChange) → Data → Bool
is_waiting changes d = not (is_skipped d) && list_any (is_waited_for changes) (items_at name.After d)

-- the number of the first waiting step of an entry
abbrev pub first_waiting : Option (List ResourceChange) → Data → Option ℕ
first_waiting changes d = position_from (is_waiting changes) 0 (items_at name.Steps d)

-- an entry has a waiting step
abbrev pub has_waiting : Option (List ResourceChange) → Data → Bool
has_waiting changes d = is_some (first_waiting changes d)

-- the number of the first entry of a script with a waiting step
abbrev pub entry_waiting : Option (List ResourceChange) → Data → Option ℕ
entry_waiting changes d = position_from (has_waiting changes) 0 (items_at name.Changes d)

-- the number of the first waiting step in entry `n`, 0 if there is none
abbrev pub step_waiting : Option (List ResourceChange) → List Data → ℕ → ℕ
step_waiting changes ds n = unwrap_or (option_and_then (first_waiting changes) (slice_get ds n)) 0

-- the path to the `after` of a step
abbrev pub path_to : (entry step : ℕ) → List Segment
path_to entry step = Member name.Changes ∷ Item entry ∷ Member name.Steps ∷ Item step ∷ Member name.After ∷ []

-- the path to the `after` of the first waiting step of an entry
abbrev pub path_in : Option (List ResourceChange) → Data → (entry : ℕ) → List Segment
path_in changes d entry = path_to entry (step_waiting changes (items_at name.Changes d) entry)

-- the path to the `after` of the first waiting step of a script, the top if no step waits
abbrev pub place_of_waits : Option (List ResourceChange) → Data → List Segment
place_of_waits changes d = option_map_or (path_in changes d) (entry_waiting changes d) []

-- steps of a script wait, reported at the first of them
abbrev pub waits_findings : Option (List ResourceChange) → Data → List Finding
waits_findings changes d = option_map_or (λ entry. record { path = path_in changes d entry; problem = problem.Waits } ∷ []) (entry_waiting changes d) []
