-- Findings of a step that a run reads, and of its items.
use Rattle.std.proofs.Common.{◌≡◌, ℕ, suc, List, [], ◌∷◌, ◌++◌, map, slice_get, Bool, true, false, not, ◌&&◌, ◌||◌, is_some, Option, Some, None, refl, sym, ap, ◌∙◌}
use Rattle.std.specs.List.{list_any}
use Rattle.std.specs.Option.{option_map_or}
use Rattle.serde_json.specs.Data.{Data, Items, no_items, item}
use Rattle.serde_json.specs.Find.{as_object}
use Rattle.apply_json.specs.Tree.{◌>>=◌, list_of}
use Rattle.apply_model.specs.declared.script.outcome.Outcome.{Outcome}
use Rattle.apply_model.specs.Plan.ResourceChange.{ResourceChange}
use Rattle.apply_plan.specs.declared.script.script_error.ScriptError.{ScriptError}
use Rattle.apply_plan.specs.Script.Entry.{EntryStep, all_some, ending_of, is_verbatim_name, step_from}
use Rattle.input_validate.specs.declared.findings.finding.Finding.{Finding}
use Rattle.input_validate.specs.declared.findings.name.Name.{Name}
use Rattle.input_validate.specs.declared.findings.name.Name.TheVariants as name
use Rattle.input_validate.specs.declared.findings.path.Segment.TheVariants.{Item, Member}
use Rattle.input_validate.specs.declared.findings.expected.Expected.TheVariants as expected
use Rattle.input_validate.specs.declared.rules.violation.Violation.{Violation}
use Rattle.input_validate.specs.AgainstPlan.{kind_violations}
use Rattle.input_validate.specs.Findings.{is_refusal, under}
use Rattle.input_validate.specs.Names.{name_text}
use Rattle.input_validate.specs.ScriptFindings.{growth_of_provisioner, in_diagnostic, in_failure, in_provisioner, in_step, in_wait, is_skipped, skipped_violations, step_violations, step_names, step_table}
use Rattle.input_validate.specs.Rules.{faults_of, violation_finding, in_items, in_list, inside, items_at, items_from, rule, violation_findings, member_at, place_of, ignored}
use Rattle.laws_validate.specs.Laws.{explains_entry}
use Rattle.laws_validate.proofs.Alike.{Alike, AlikeItems, object_alike}
use Rattle.input_validate.proofs.Options.{bind_some}
use Rattle.laws_validate.proofs.AnyFinding.{any_left, any_part, any_right, any_under, below, violation_first, suited}
use Rattle.laws_validate.proofs.Joined.{joined}
use Rattle.laws_validate.proofs.Scripts.{listed_in}
use Rattle.laws_validate.proofs.AcceptedSteps.{outcomes}
use Rattle.laws_validate.proofs.Wanted.{object_there}
use Rattle.laws_validate.proofs.Members.{at_alike}

some_is : {A : Type 0} (x y : A) → Some x ≡ Some y → x ≡ y
some_is x y e = cc

-- ---- tests

pub this_violation : (p : Finding → Bool) (violation : Violation) (violations : List Violation) → violation.holds ≡ true → p (place_of violation.at violation.problem) ≡ true
    → list_any p (violation_findings (violation ∷ violations)) ≡ true
this_violation p violation violations holds is = violation_first p violation.holds (place_of violation.at violation.problem) (violation_findings violations) is holds

pub next_violation : (p : Finding → Bool) (violation : Violation) (violations : List Violation) → list_any p (violation_findings violations) ≡ true → list_any p (violation_findings (violation ∷ violations)) ≡ true
next_violation p violation violations is = any_right p (violation_finding violation) (violation_findings violations) is

by_inside : (p : Finding → Bool) (findings : ℕ → Data → List Finding) (at : Name) (o : Option Data)
    → list_any (below (Member at) p) (items_from findings 0 (listed_in o)) ≡ true
    → list_any p (option_map_or (λ value. map (under (Member at)) (in_items findings value)) o []) ≡ true
by_inside p findings at None e = absurd cc
by_inside p findings at (Some d) e = any_under p (Member at) (in_items findings d) e

-- in an item of a member
pub inside_any : (p : Finding → Bool) (findings : ℕ → Data → List Finding) (at : Name) (d : Data)
    → list_any (below (Member at) p) (items_from findings 0 (items_at at d)) ≡ true
    → list_any p (inside (in_items findings) at d) ≡ true
inside_any p findings at d e = by_inside p findings at (member_at at d) e

-- ---- the items of both trees

abbrev pub Pairs : List Data → List Data → Type 0
Pairs [] ks = ks ≡ []
Pairs (d ∷ ds) ks = (k : Data) × (others : List Data) × (ks ≡ k ∷ others) × Alike d k × Pairs ds others

pairs_of : (ds es : Items) → AlikeItems ds es → Pairs (list_of ds) (list_of es)
pairs_of no_items es a = ap list_of a
pairs_of (item d ds) es a = (a.0, list_of a.1, ap list_of a.2, a.3, pairs_of ds a.1 a.4)

pub pairs_at : (name : Name) → is_verbatim_name (name_text name) ≡ false → (d k : Data) → Alike d k → Pairs (items_at name d) (items_at name k)
pairs_at name not d k a = at_alike Pairs refl pairs_of name not d k a

-- an item that a run reads passes a test, and that error is reported
module _ (A : Type 0) (part : Data → Option A) (test : A → Bool) (p : Finding → Bool) (findings : ℕ → Data → List Finding)
    (reported : (n : ℕ) (d k : Data) (x : A) → Alike d k → part k ≡ Some x → test x ≡ true → list_any (below (Item n) p) (findings n d) ≡ true) where
  by_test : (n : ℕ) (d k : Data) (x : A) (r : Bool) (rest : List Finding) (b : Bool) → Alike d k → part k ≡ Some x → test x ≡ b → (b || r) ≡ true
      → (r ≡ true → list_any p rest ≡ true) → list_any p (map (under (Item n)) (findings n d) ++ rest) ≡ true
  by_test n d k x r rest true alike is holds any later =
      any_left p (map (under (Item n)) (findings n d)) rest (any_under p (Item n) (findings n d) (reported n d k x alike is holds))
  by_test n d k x r rest false alike is holds any later = any_right p (map (under (Item n)) (findings n d)) rest (later any)

  pub each_any : (n : ℕ) (ds ks : List Data) → Pairs ds ks → (xs : List A) → all_some (map part ks) ≡ Some xs → list_any test xs ≡ true
      → list_any p (items_from findings n ds) ≡ true
  each_any n [] ks pairs xs e any =
      let none : xs ≡ [] = some_is xs [] (sym e ∙ ap (λ (ys : List Data). all_some (map part ys)) pairs) in
      absurd (let never : false ≡ true = sym (ap (list_any test) none) ∙ any in cc)
  each_any n (d ∷ ds) ks pairs xs e any =
      let k : Data = pairs.0 in
      let others : List Data = pairs.1 in
      let one = bind_some (part k) (λ x. all_some (map part others) >>= λ ys. Some (x ∷ ys)) xs
      (ap (λ (ys : List Data). all_some (map part ys)) (sym pairs.2) ∙ e) in
      let rest = bind_some (all_some (map part others)) (λ ys. Some (one.0 ∷ ys)) xs one.2 in
      let same : one.0 ∷ rest.0 ≡ xs = some_is (one.0 ∷ rest.0) xs rest.2 in
      by_test n d k one.0 (list_any test rest.0) (items_from findings (suc n) ds) (test one.0) pairs.3 one.1 refl (ap (list_any test) same ∙ any)
      (λ later. each_any (suc n) ds others pairs.4 rest.0 rest.1 later)

-- ---- the findings of a step that a run reads

step_object : (k : Data) (step : EntryStep) → step_from k ≡ Some step → is_some (as_object k) ≡ true
unfolding step_from ending_of
step_object k step e =
    object_there (λ it. is_some (step_from it)) refl (λ b. refl) (λ n. refl) (λ s. refl) (λ ds. refl) k (ap (λ (o : Option EntryStep). is_some o) e)

module _ (changes : Option (List ResourceChange)) (change : Option ResourceChange) (n : ℕ) (p : Finding → Bool) (d k : Data) (alike : Alike d k)
    (step : EntryStep) (read : step_from k ≡ Some step) where
  there : is_some (as_object d) ≡ true
  there = object_alike d k alike ∙ step_object k step read

  abbrev parts : List (List Finding)
  parts =
      inside in_diagnostic name.Warning d ∷ inside in_failure name.Failed d ∷ in_list (λ number. in_provisioner) (rule name.Provisioners expected.ArrayOrAbsent) d
      ∷ violation_findings (step_violations d) ∷ violation_findings (kind_violations change n d) ∷ faults_of (rule name.Skipped expected.FlagOrAbsent ∷ []) d ∷ violation_findings (skipped_violations d)
      ∷ inside (in_items (λ number. growth_of_provisioner)) name.Provisioners d ∷ in_list (λ item. in_wait changes) (rule name.After expected.ArrayOrAbsent) d
      ∷ ignored step_names d ∷ []

  part_reported : (m : ℕ) (part : List Finding) → slice_get parts m ≡ Some part → list_any p part ≡ true → list_any p (in_step changes change n d) ≡ true
  unfolding in_step
  part_reported m part at is =
      let first : List Finding = faults_of (step_table (is_skipped d)) d in
      suited p expected.Step d (joined first parts) there (any_part p first parts m part at is)

  pub provisioners_reported : list_any p (in_list (λ number. in_provisioner) (rule name.Provisioners expected.ArrayOrAbsent) d) ≡ true
      → list_any p (in_step changes change n d) ≡ true
  provisioners_reported is = part_reported 2 (in_list (λ number. in_provisioner) (rule name.Provisioners expected.ArrayOrAbsent) d) refl is

  pub violations_reported : list_any p (violation_findings (step_violations d)) ≡ true → list_any p (in_step changes change n d) ≡ true
  violations_reported is = part_reported 3 (violation_findings (step_violations d)) refl is

  pub kinds_reported : list_any p (violation_findings (kind_violations change n d)) ≡ true → list_any p (in_step changes change n d) ≡ true
  kinds_reported is = part_reported 4 (violation_findings (kind_violations change n d)) refl is

  pub waits_findings : list_any p (in_list (λ item. in_wait changes) (rule name.After expected.ArrayOrAbsent) d) ≡ true
      → list_any p (in_step changes change n d) ≡ true
  waits_findings is = part_reported 8 (in_list (λ item. in_wait changes) (rule name.After expected.ArrayOrAbsent) d) refl is

-- ---- the finding of a refusal

abbrev pub entry_reported : ScriptError → Finding → Bool
entry_reported refusal finding = is_refusal finding && explains_entry refusal finding.path finding.problem

abbrev pub step_reported : ScriptError → ℕ → Finding → Bool
step_reported refusal n finding = entry_reported refusal (under (Member name.Steps) (under (Item n) finding))

-- a step passes a test, and that error is reported
pub each_step : (refusal : ScriptError) (changes : Option (List ResourceChange)) (change : Option ResourceChange) (test : EntryStep → Bool)
    → ((n : ℕ) (d k : Data) (step : EntryStep) → Alike d k → step_from k ≡ Some step → test step ≡ true
    → list_any (step_reported refusal n) (in_step changes change n d) ≡ true)
    → (d k : Data) → Alike d k → (steps : List EntryStep) → all_some (map step_from (items_at name.Steps k)) ≡ Some steps → list_any test steps ≡ true
    → list_any (entry_reported refusal) (inside (in_items (in_step changes change)) name.Steps d) ≡ true
each_step refusal changes change test reported d k alike steps read any =
    inside_any (entry_reported refusal) (in_step changes change) name.Steps d
    (each_any EntryStep step_from test (below (Member name.Steps) (entry_reported refusal)) (in_step changes change) reported 0 (items_at name.Steps d)
    (items_at name.Steps k)
    (pairs_at name.Steps refl d k alike) steps read any)

pub any_outcome : (test : Option Outcome → Bool) (steps : List EntryStep) → list_any test (outcomes steps) ≡ list_any (λ step. test step.outcome) steps
any_outcome test [] = refl
any_outcome test (step ∷ steps) = ap (λ (b : Bool). test step.outcome || b) (any_outcome test steps)
