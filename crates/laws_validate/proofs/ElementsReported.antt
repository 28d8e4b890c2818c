-- If a run refuses an element of `resource_changes` alone, that error is reported.
use Rattle.std.proofs.Common.{◌≡◌, ℕ, List, [], ◌∷◌, ◌++◌, map, Bool, true, false, not, ◌&&◌, is_some, Option, Some, None, refl, sym, ap, ◌∙◌}
use Rattle.std.specs.Prelude.{codes, if◌then◌else◌, is_none}
use Rattle.std.specs.List.{list_any}
use Rattle.std.specs.Option.{option_and_then, option_map_or}
use Rattle.serde_json.specs.Data.{Data, Items}
use Rattle.serde_json.specs.Find.{as_array, as_object}
use Rattle.apply_json.specs.Tree.{◌>>=◌, member_of, non_empty_text_of, text_of, text_or}
use Rattle.apply_model.specs.declared.plan.key.Key.{Key}
use Rattle.apply_model.specs.declared.plan.mode.Mode.{Mode}
use Rattle.apply_model.specs.declared.plan.step_kind.StepKind.{StepKind}
use Rattle.apply_model.specs.Plan.Address.{relative_address}
use Rattle.apply_plan.specs.Plan.Element.{element_of, key_of, mode_named, planned_change_of, prior_id_of}
use Rattle.apply_plan.specs.Plan.Steps.{steps_of_actions}
use Rattle.input_validate.specs.declared.findings.finding.Finding.{Finding}
use Rattle.input_validate.specs.declared.findings.name.Name.TheVariants as name
use Rattle.input_validate.specs.declared.findings.path.Segment.{Segment}
use Rattle.input_validate.specs.declared.findings.path.Segment.TheVariants.{Member}
use Rattle.input_validate.specs.declared.findings.expected.Expected.{Expected}
use Rattle.input_validate.specs.declared.findings.expected.Expected.TheVariants as expected
use Rattle.input_validate.specs.declared.findings.problem.Problem.TheVariants as problem
use Rattle.input_validate.specs.declared.rules.rule.MemberRule.{MemberRule}
use Rattle.input_validate.specs.Findings.{finding_at, under}
use Rattle.input_validate.specs.PlanFindings.{actions_violation, element_table, in_change, is_misplaced, is_one_of_eight}
use Rattle.input_validate.specs.Rules.{faults_of, inside, rule, mismatch, violation_findings, member_at}
use Rattle.input_validate.specs.Expectations.{is_met}
use Rattle.input_validate.proofs.Options.{and_then_is}
use Rattle.laws_validate.proofs.Elements.{element_is, gathered, members_met, planned, read_change, some_is}
use Rattle.laws_validate.proofs.AnyFinding.{any_left, any_right, any_under, below, each_reported, faults_reported, first_is, violation_first}
use Rattle.laws_validate.proofs.Wanted.{is_object, met_array}

-- ---- `change`

no_actions : (o : Option Items) (prior : Option (List ℕ)) → is_some (o >>= λ actions. Some (planned actions prior)) ≡ is_some o
no_actions None prior = refl
no_actions (Some actions) prior = refl

no_list : (o : Option Data) (prior : Option (List ℕ))
    → is_some (o >>= λ list. as_array list >>= λ actions. Some (planned actions prior)) ≡ is_some (o >>= as_array)
no_list None prior = refl
no_list (Some list) prior = no_actions (as_array list) prior

-- an object without actions
lacks_actions : (p : Finding → Bool) (change : Data) → ((o : Option Data) → p (finding_at (Member name.Actions) (mismatch expected.Array o)) ≡ true)
    → is_some (as_object change) ≡ true
    → is_some (read_change change) ≡ false → list_any p (in_change change) ≡ true
unfolding in_change
lacks_actions p change reported there none =
    let o : Option Data = member_at name.Actions change in
    let table : List MemberRule = rule name.Actions expected.Array ∷ [] in
    let unmet : (is_met expected.Array o && true) ≡ false = ap (λ (b : Bool). b && true) (met_array o ∙ sym (no_list o (prior_id_of change)) ∙ none) in
    rw there (any_left p (faults_of table change) (violation_findings (actions_violation change ∷ [])) (faults_reported p table change (λ o none. reported o, tt) unmet))

lacks_change : (p : Finding → Bool) (ch : Option Data)
    → ((o : Option Data) → p (under (Member name.Change) (finding_at (Member name.Actions) (mismatch expected.Array o))) ≡ true) → is_met expected.Object ch ≡ true
    → is_some (ch >>= read_change) ≡ false → list_any p (option_map_or (λ value. map (under (Member name.Change)) (in_change value)) ch []) ≡ true
lacks_change p None reported met none = absurd (let never : false ≡ true = met in cc)
lacks_change p (Some change) reported met none =
    any_under p (Member name.Change) (in_change change) (lacks_actions (below (Member name.Change) p) change reported met none)

-- the change that a run reads
actions_of : (o : Option Items) (prior : Option (List ℕ)) (actions : Items) (id : Option (List ℕ))
    → (o >>= λ findings. Some (planned findings prior)) ≡ Some (planned actions id) → o ≡ Some actions
actions_of None prior actions id e = absurd cc
actions_of (Some findings) prior actions id e = ap (λ (it : Items × Option (List ℕ)). Some it.0) (some_is (planned findings prior) (planned actions id) e)

list_read : (o : Option Data) (prior : Option (List ℕ)) (actions : Items) (id : Option (List ℕ))
    → (o >>= λ list. as_array list >>= λ findings. Some (planned findings prior)) ≡ Some (planned actions id)
    → (o >>= as_array) ≡ Some actions
list_read None prior actions id e = absurd cc
list_read (Some list) prior actions id e = actions_of (as_array list) prior actions id e

change_read : (ch : Option Data) (actions : Items) (id : Option (List ℕ)) → (ch >>= read_change) ≡ Some (planned actions id)
    → (change : Data) × (ch ≡ Some change) × ((member_at name.Actions change >>= as_array) ≡ Some actions)
change_read None actions id e = absurd cc
change_read (Some change) actions id e = (change, refl, list_read (member_of (codes "actions") change) (prior_id_of change) actions id e)

-- actions that are none of the eight lists
no_steps : (actions : Items) → steps_of_actions actions ≡ None → not (is_one_of_eight actions) ≡ true
no_steps actions e = ap (λ (o : Option (List StepKind)). not (is_some o)) e

bad_actions : (p : Finding → Bool) (change : Data) (actions : Items) → p (finding_at (Member name.Actions) problem.BadActions) ≡ true
    → (member_at name.Actions change >>= as_array) ≡ Some actions
    → steps_of_actions actions ≡ None → list_any p (in_change change) ≡ true
unfolding in_change
bad_actions p change actions reported is none =
    let o : Option Data = member_at name.Actions change in
    let faults : List Finding = faults_of (rule name.Actions expected.Array ∷ []) change in
    let there : is_some (as_object change) ≡ true = is_object (codes "actions") as_array change actions is in
    let holds : option_map_or (λ it. not (is_one_of_eight it)) (option_and_then as_array o) false ≡ true =
    ap (λ (it : Option Items). option_map_or (λ findings. not (is_one_of_eight findings)) it false) (and_then_is as_array o ∙ is) ∙ no_steps actions none in
    rw there
    (any_right p faults (violation_findings (actions_violation change ∷ [])) (violation_first p (actions_violation change).holds (finding_at (Member name.Actions) problem.BadActions) [] reported holds))

pub bad_change : (p : Finding → Bool) (ch : Option Data) (actions : Items) (id : Option (List ℕ))
    → p (under (Member name.Change) (finding_at (Member name.Actions) problem.BadActions)) ≡ true
    → (ch >>= read_change) ≡ Some (planned actions id) → steps_of_actions actions ≡ None
    → list_any p (option_map_or (λ value. map (under (Member name.Change)) (in_change value)) ch []) ≡ true
bad_change p ch actions id reported is none =
    let it = change_read ch actions id is in
    rw it.1 (any_under p (Member name.Change) (in_change it.0) (bad_actions (below (Member name.Change) p) it.0 actions reported it.2 none))

-- ---- the address

-- the finding of an address outside its module
pub address_reported : (p : Finding → Bool) (misplaced empty : Bool) → p (finding_at (Member name.Address) problem.EmptyAddress) ≡ true
    → p (finding_at (Member name.Address) problem.OutsideModule) ≡ true → misplaced ≡ true
    → list_any p ((if misplaced && empty then finding_at (Member name.Address) problem.EmptyAddress ∷ [] else [])
    ++ ((if misplaced && not empty then finding_at (Member name.Address) problem.OutsideModule ∷ [] else []) ++ [])) ≡ true
address_reported p true true one other holds = first_is p (finding_at (Member name.Address) problem.EmptyAddress) [] one
address_reported p true false one other holds = first_is p (finding_at (Member name.Address) problem.OutsideModule) [] other
address_reported p false empty one other holds = absurd cc

pub misplaced_there : (address module_address : Option (List ℕ)) (a m : List ℕ) → address ≡ Some a → module_address ≡ Some m → relative_address m a ≡ None
    → is_misplaced address module_address ≡ true
misplaced_there address module_address a m one other none =
    ap (λ (o : Option (List ℕ)). is_misplaced o module_address) one ∙ ap (λ (o : Option (List ℕ)). is_misplaced (Some a) o) other ∙ ap (λ (o : Option (List ℕ)). is_none o) none

-- ---- the element

-- if no element was gathered, a member is wrong, or there is a `change` without actions
not_gathered : (a : Option (List ℕ)) (o : Option Mode) (k n m : Option (List ℕ)) (x : Option Key) (p : Option (List ℕ)) (c : Option (Items × Option (List ℕ)))
    (j : Bool) (G : Type 0) → gathered a o k n m x p c ≡ None
    → ((is_some a && (is_some m && (is_some o && (is_some k && (is_some n && (is_some x && (is_some p && (j && true)))))))) ≡ false → G)
    → (j ≡ true → is_some c ≡ false → G) → G
not_gathered None o k n m x p c j G e first second = first refl
not_gathered (Some a) o k n None x p c j G e first second = first refl
not_gathered (Some a) None k n (Some m) x p c j G e first second = first refl
not_gathered (Some a) (Some o) None n (Some m) x p c j G e first second = first refl
not_gathered (Some a) (Some o) (Some k) None (Some m) x p c j G e first second = first refl
not_gathered (Some a) (Some o) (Some k) (Some n) (Some m) None p c j G e first second = first refl
not_gathered (Some a) (Some o) (Some k) (Some n) (Some m) (Some x) None c j G e first second = first refl
not_gathered (Some a) (Some o) (Some k) (Some n) (Some m) (Some x) (Some p) None false G e first second = first refl
not_gathered (Some a) (Some o) (Some k) (Some n) (Some m) (Some x) (Some p) None true G e first second = second refl refl
not_gathered (Some a) (Some o) (Some k) (Some n) (Some m) (Some x) (Some p) (Some c) j G e first second = absurd cc

-- if a run does not read an element, an error of a member is reported
pub not_read : (p : Finding → Bool) (d : Data) → ((path : List Segment) (wanted : Expected) (o : Option Data) → p (record { path = path; problem = mismatch wanted o }) ≡ true)
    → element_of d ≡ None
    → list_any p (faults_of element_table d ++ inside in_change name.Change d) ≡ true
not_read p d reported none =
    let change : Option Data = member_of (codes "change") d in
    not_gathered (text_of (codes "address") d) (text_of (codes "mode") d >>= mode_named) (non_empty_text_of (codes "type") d) (non_empty_text_of (codes "name") d)
    (text_or [] (member_of (codes "module_address") d)) (key_of (member_of (codes "index") d)) (text_or [] (member_of (codes "deposed") d)) (planned_change_of d)
    (is_met expected.Object change) _ (sym (element_is d) ∙ none)
    (λ unmet. any_left p (faults_of element_table d) (inside in_change name.Change d)
    (faults_reported p element_table d (each_reported p (λ it lacking none. reported (Member it.name ∷ []) it.expected lacking) element_table) (members_met d ∙ unmet)))
    (λ are unmet. any_right p (faults_of element_table d) (inside in_change name.Change d)
    (lacks_change p change (reported (Member name.Change ∷ Member name.Actions ∷ []) expected.Array) are unmet))
