-- Findings of the members that only Terraform's form reads stand at their places.
use Rattle.std.proofs.Common.{ℕ, suc, List, [], ◌∷◌, ◌++◌, length, map, Bool, true, false, Option, Some, None, if◌then◌else◌, refl}
use Rattle.std.specs.Prelude.{nat_lt}
use Rattle.std.specs.Option.{option_map_or}
use Rattle.serde_json.specs.Data.{Data, Members, no_members, member}
use Rattle.apply_plan_terraform.specs.Outputs.{OutputsOfPlan, has_output}
use Rattle.apply_json.specs.ShallowView.{members_in}
use Rattle.apply_json.specs.Tree.{tree_of}
use Rattle.apply_plan.specs.Bytes.{max_bytes}
use Rattle.input_validate.specs.declared.findings.finding.Finding.{Finding}
use Rattle.input_validate.specs.declared.findings.name.Name.{Name}
use Rattle.input_validate.specs.declared.findings.name.Name.TheVariants as name
use Rattle.input_validate.specs.declared.findings.path.Segment.{Segment}
use Rattle.input_validate.specs.declared.findings.path.Segment.TheVariants.{Item, Member, Other}
use Rattle.input_validate.specs.declared.findings.expected.Expected.TheVariants as expected
use Rattle.input_validate.specs.declared.findings.problem.Problem.TheVariants.{UnknownOutput}
use Rattle.input_validate.specs.Extras.{extras_findings, in_extras, in_note, in_plan_output, in_plan_outputs, members_from, note_names, note_table, plan_output_names, plan_output_table, unless_planned}
use Rattle.input_validate.specs.Findings.{finding_here, under}
use Rattle.input_validate.specs.Rules.{fault_of, faults_of, in_items, inside, rule, ignored, where_suits}
use Rattle.laws_validate.specs.Paths.{values_in}
use Rattle.laws_validate.proofs.BytesPlaced.{AreReported}
use Rattle.laws_validate.proofs.Placing.{AreRight, StandFrom, all_under, below, both, first_there, inside_right, items_right, of_table, of_unread, optional_right, rest_there, unread_right, where_right, whole_there}

members_by : (R : List Segment → List Name → Type 0) (findings : List ℕ → Data → List Finding) (d : Data) → ((m : ℕ) (text : List ℕ) (e : Data) → AreRight (below (Other m) R) e (findings text e))
    → (n : ℕ) (ms : Members) → StandFrom n (values_in (members_in d)) (values_in ms) → AreRight R d (members_from findings n ms)
members_by R findings d h n no_members stand = tt
members_by R findings d h n (member text e ms) stand =
    both R d (map (under (Other n)) (findings text e)) (members_from findings (suc n) ms)
    (all_under R (Other n) d e (first_there n (values_in (members_in d)) e (values_in ms) stand) (findings text e) (h n text e))
    (members_by R findings d h (suc n) ms (rest_there n (values_in (members_in d)) e (values_in ms) stand))

unless_one : (R : List Segment → List Name → Type 0) (d : Data) (b : Bool) → AreRight R d (if b then [] else finding_here UnknownOutput ∷ [])
unless_one R d true = tt
unless_one R d false = (refl, tt)

planned_right : (R : List Segment → List Name → Type 0) (d : Data) (plan : Option OutputsOfPlan) (text : List ℕ) → AreRight R d (unless_planned plan text)
planned_right R d None text = tt
planned_right R d (Some plan) text = unless_one R d (has_output plan text)

plan_output_right : (R : List Segment → List Name → Type 0) → R [] plan_output_names → (plan : Option OutputsOfPlan) (text : List ℕ) (d : Data) → AreRight R d (in_plan_output plan text d)
unfolding in_plan_output
plan_output_right R r plan text d =
    let itself : List Finding = where_suits expected.PlanOutput d (faults_of plan_output_table d) in
    both R d (itself ++ unless_planned plan text) (ignored plan_output_names d)
    (both R d itself (unless_planned plan text) (where_right R expected.PlanOutput d (λ o. o) (of_table R plan_output_table d) []) (planned_right R d plan text))
    (unread_right R plan_output_names d r)

note_right : (R : List Segment → List Name → Type 0) → R [] note_names → (d : Data) → AreRight R d (in_note d)
unfolding in_note
note_right R r d = where_right R expected.Note d (λ o. o) (of_table R note_table d) (of_unread R note_names d r ∷ [])

extras_right : (R : List Segment → List Name → Type 0) → ((n : ℕ) → R (Member name.Outputs ∷ Other n ∷ []) plan_output_names) → ((n : ℕ) → R (Member name.Diagnostics ∷ Item n ∷ []) note_names)
    → (plan : Option OutputsOfPlan) (d : Data) → AreRight R d (in_extras plan d)
unfolding in_extras
extras_right R outputs notes plan d =
    let object : List Finding = fault_of d (rule name.Outputs expected.ObjectOrAbsent) in
    let members : List Finding = inside (in_plan_outputs plan) name.Outputs d in
    let list : List Finding = fault_of d (rule name.Diagnostics expected.ArrayOrAbsent) in
    let items : List Finding = inside (in_items (λ number. in_note)) name.Diagnostics d in
    both R d (object ++ members) (list ++ items)
    (both R d object members (optional_right R (rule name.Outputs expected.ObjectOrAbsent) d refl)
    (inside_right R (in_plan_outputs plan) name.Outputs d (λ all.
    members_by (below (Member name.Outputs) R) (in_plan_output plan) all (λ n text e. plan_output_right (below (Other n) (below (Member name.Outputs) R)) (outputs n) plan text e)
    0 (members_in all) (whole_there (values_in (members_in all))))))
    (both R d list items (optional_right R (rule name.Diagnostics expected.ArrayOrAbsent) d refl)
    (inside_right R (in_items (λ number. in_note)) name.Diagnostics d (λ all.
    items_right (below (Member name.Diagnostics) R) (λ number. in_note) all (λ n e. note_right (below (Item n) (below (Member name.Diagnostics) R)) (notes n) e))))

pub extras_by : (R : List Segment → List Name → Type 0) (findings : Data → List Finding) (large : Bool) (o : Option Data) → ((d : Data) → AreRight R d (findings d))
    → AreReported R o (if large then [] else option_map_or findings o [])
extras_by R findings true None h = tt
extras_by R findings true (Some d) h = tt
extras_by R findings false None h = tt
extras_by R findings false (Some d) h = h d

pub extras_reported : (R : List Segment → List Name → Type 0) → ((n : ℕ) → R (Member name.Outputs ∷ Other n ∷ []) plan_output_names) → ((n : ℕ) → R (Member name.Diagnostics ∷ Item n ∷ []) note_names)
    → (plan : Option OutputsOfPlan) (bytes : List ℕ) → AreReported R (tree_of bytes) (extras_findings plan bytes)
extras_reported R outputs notes plan bytes = extras_by R (in_extras plan) (nat_lt max_bytes (length bytes)) (tree_of bytes) (extras_right R outputs notes plan)
