-- The findings of an entry that report a broken rule. Fewer checks find the same ones.
use Rattle.std.proofs.Common.{◌≡◌, ℕ, suc, List, [], ◌∷◌, ◌++◌, map, Bool, true, false, ◌&&◌, ◌||◌, if◌then◌else◌, is_some, Option, Some, None, refl, sym, ap, ◌∙◌}
use Rattle.std.specs.List.{list_any}
use Rattle.std.specs.Option.{option_map_or}
use Rattle.std.proofs.lemmas.List.Folds.{list_any-append}
use Rattle.serde_json.specs.Data.{Data}
use Rattle.serde_json.specs.Find.{as_object, as_str, get}
use Rattle.apply_json.specs.ShallowView.{items_in, members_in}
use Rattle.apply_json.specs.Tree.{list_of}
use Rattle.apply_model.specs.Plan.ResourceChange.{ResourceChange}
use Rattle.input_validate.specs.declared.findings.finding.Finding.{Finding}
use Rattle.input_validate.specs.declared.findings.name.Name.{Name}
use Rattle.input_validate.specs.declared.findings.name.Name.TheVariants as name
use Rattle.input_validate.specs.declared.findings.path.Segment.{Segment}
use Rattle.input_validate.specs.declared.findings.path.Segment.TheVariants.{Item, Member, Other}
use Rattle.input_validate.specs.declared.findings.expected.Expected.{Expected}
use Rattle.input_validate.specs.declared.findings.expected.Expected.TheVariants as expected
use Rattle.input_validate.specs.declared.findings.problem.Problem.{Problem}
use Rattle.input_validate.specs.declared.findings.problem.Problem.TheVariants as problem
use Rattle.input_validate.specs.declared.rules.rule.MemberRule.{MemberRule}
use Rattle.input_validate.specs.declared.rules.violation.Violation.{Violation}
use Rattle.input_validate.specs.AgainstPlan.{change_at, has_address, object_named, missing_step_violation, unknown_violation, unknown_violations}
use Rattle.input_validate.specs.Findings.{finding_at, finding_here, is_refusal, is_refusal_of, under}
use Rattle.input_validate.specs.Names.{name_text}
use Rattle.input_validate.specs.ObjectNames.{Named}
use Rattle.input_validate.specs.ScriptFindings.{comes_after, diagnostic_names, diagnostic_table, failure_names, failure_table, growth_of_provisioner, in_diagnostic, in_failure}
use Rattle.input_validate.specs.ScriptFindings.{in_output, in_outputs, in_wait, output_violations, output_names, output_table, outputs_after, wait_names, wait_table, whole_at}
use Rattle.input_validate.specs.Rules.{fault_of, faults_of, violation_finding, in_items, in_list, inside, is_known, items_at, items_from, rule, mismatch}
use Rattle.input_validate.specs.Rules.{violation_findings, member_at, place_of, texts_in, unless_suits, ignored, ignored_from, where_suits}
use Rattle.input_validate.specs.Expectations.{is_met, suits}
use Rattle.laws_validate.specs.Laws.{breaks_rule}
use Rattle.input_validate.proofs.Options.{and_false, and_true}

-- the finding reports a broken rule
abbrev pub is_shape : Finding → Bool
is_shape finding = is_refusal finding && breaks_rule finding.problem

-- the one list has a broken rule if and only if the other has an error
abbrev pub Same : List Finding → List Finding → Type 0
Same xs ys = list_any is_shape xs ≡ list_any is_refusal ys

pub both_same : (xs ys us vs : List Finding) → Same xs us → Same ys vs → Same (xs ++ ys) (us ++ vs)
both_same xs ys us vs one other =
    list_any-append is_shape xs ys
    ∙ ap (λ (b : Bool). b || list_any is_shape ys) one
    ∙ ap (λ (b : Bool). list_any is_refusal us || b) other
    ∙ sym (list_any-append is_refusal us vs)

or_false : (b : Bool) → (b || false) ≡ b
or_false true = refl
or_false false = refl

-- what breaks no rule is left out
pub without : (xs ys us : List Finding) → Same xs us → list_any is_shape ys ≡ false → Same (xs ++ ys) us
without xs ys us one none =
    list_any-append is_shape xs ys
    ∙ ap (λ (b : Bool). b || list_any is_shape ys) one
    ∙ ap (λ (b : Bool). list_any is_refusal us || b) none
    ∙ or_false (list_any is_refusal us)

-- ---- in values

pub shape_under : (part : Segment) (xs : List Finding) → list_any is_shape (map (under part) xs) ≡ list_any is_shape xs
shape_under part [] = refl
shape_under part (x ∷ xs) = ap (λ (b : Bool). is_shape x || b) (shape_under part xs)

refusal_under : (part : Segment) (xs : List Finding) → list_any is_refusal (map (under part) xs) ≡ list_any is_refusal xs
refusal_under part [] = refl
refusal_under part (x ∷ xs) = ap (λ (b : Bool). is_refusal x || b) (refusal_under part xs)

pub same_under : (part : Segment) (xs us : List Finding) → Same xs us → Same (map (under part) xs) (map (under part) us)
same_under part xs us e = shape_under part xs ∙ e ∙ sym (refusal_under part us)

abbrev pub IsSame : (Data → List Finding) → (Data → List Finding) → Type 0
IsSame findings made = (d : Data) → Same (findings d) (made d)

by_inside : (findings made : Data → List Finding) → IsSame findings made → (at : Name) (o : Option Data)
    → Same (option_map_or (λ value. map (under (Member at)) (findings value)) o []) (option_map_or (λ value. map (under (Member at)) (made value)) o [])
by_inside findings made each at None = refl
by_inside findings made each at (Some d) = same_under (Member at) (findings d) (made d) (each d)

pub same_inside : (findings made : Data → List Finding) → IsSame findings made → (name : Name) (d : Data) → Same (inside findings name d) (inside made name d)
same_inside findings made each name d = by_inside findings made each name (member_at name d)

items_same : (findings made : ℕ → Data → List Finding) → ((n : ℕ) → IsSame (findings n) (made n)) → (n : ℕ) (ds : List Data)
    → Same (items_from findings n ds) (items_from made n ds)
items_same findings made each n [] = refl
items_same findings made each n (d ∷ ds) =
    both_same (map (under (Item n)) (findings n d)) (items_from findings (suc n) ds) (map (under (Item n)) (made n d)) (items_from made (suc n) ds)
    (same_under (Item n) (findings n d) (made n d) (each n d)) (items_same findings made each (suc n) ds)

pub same_items : (findings made : ℕ → Data → List Finding) → ((n : ℕ) → IsSame (findings n) (made n)) → (name : Name) (d : Data)
    → Same (inside (in_items findings) name d) (inside (in_items made) name d)
same_items findings made each name d =
    same_inside (in_items findings) (in_items made) (λ e. items_same findings made each 0 (list_of (items_in e))) name d

-- ---- members

by_met : (met : Bool) (at : Name) (wanted : Expected) (o : Option Data)
    → Same (if met then [] else finding_at (Member at) (mismatch wanted o) ∷ []) (if met then [] else finding_at (Member at) (mismatch wanted o) ∷ [])
by_met true at wanted o = refl
by_met false at wanted None = refl
by_met false at wanted (Some d) = refl

pub same_fault : (d : Data) (rule : MemberRule) → Same (fault_of d rule) (fault_of d rule)
same_fault d rule = by_met (is_met rule.expected (member_at rule.name d)) rule.name rule.expected (get (name_text rule.name) d)

pub same_faults : (table : List MemberRule) (d : Data) → Same (faults_of table d) (faults_of table d)
same_faults [] d = refl
same_faults (rule ∷ table) d = both_same (fault_of d rule) (faults_of table d) (fault_of d rule) (faults_of table d) (same_fault d rule)
    (same_faults table d)

pub same_list : (findings made : ℕ → Data → List Finding) → ((n : ℕ) → IsSame (findings n) (made n)) → (rule : MemberRule) (d : Data)
    → Same (in_list findings rule d) (in_list made rule d)
same_list findings made each rule d =
    both_same (fault_of d rule) (inside (in_items findings) rule.name d) (fault_of d rule) (inside (in_items made) rule.name d)
    (same_fault d rule) (same_items findings made each rule.name d)

by_known : (b : Bool) (n : ℕ) (xs : List Finding) → Same xs xs
    → Same ((if b then [] else finding_at (Other n) problem.NotRead ∷ []) ++ xs) ((if b then [] else finding_at (Other n) problem.NotRead ∷ []) ++ xs)
by_known true n xs e = e
by_known false n xs e = e

unread_same : (names : List Name) (n : ℕ) (texts : List (List ℕ)) → Same (ignored_from names n texts) (ignored_from names n texts)
unread_same names n [] = refl
unread_same names n (text ∷ texts) = by_known (is_known names text) n (ignored_from names (suc n) texts) (unread_same names (suc n) texts)

pub same_unread : (names : List Name) (d : Data) → Same (ignored names d) (ignored names d)
same_unread names d = unread_same names 0 (texts_in (members_in d))

by_suits : (b : Bool) (wanted : Expected) (xs us : List Finding) → Same xs us
    → Same (if b then xs else finding_here (problem.IsNot wanted) ∷ []) (if b then us else finding_here (problem.IsNot wanted) ∷ [])
by_suits true wanted xs us e = e
by_suits false wanted xs us e = refl

pub same_where : (wanted : Expected) (d : Data) (xs us : List Finding) → Same xs us → Same (where_suits wanted d xs) (where_suits wanted d us)
same_where wanted d xs us e = by_suits (suits wanted d) wanted xs us e

pub same_unless : (wanted : Expected) (d : Data) → Same (unless_suits wanted d) (unless_suits wanted d)
same_unless wanted d = by_suits (suits wanted d) wanted [] [] refl

-- ---- tests

by_violation : (holds : Bool) (at : Option Name) (findings : Problem) → breaks_rule findings ≡ true
    → Same (if holds then place_of at findings ∷ [] else []) (if holds then place_of at findings ∷ [] else [])
by_violation false at findings is = refl
by_violation true None findings is = ap (λ (b : Bool). (is_refusal_of findings && b) || false) is ∙ ap (λ (b : Bool). b || false) (and_true (is_refusal_of findings))
by_violation true (Some member) findings is = ap (λ (b : Bool). (is_refusal_of findings && b) || false) is ∙ ap (λ (b : Bool). b || false) (and_true (is_refusal_of findings))

no_violation : (holds : Bool) (at : Option Name) (findings : Problem) → breaks_rule findings ≡ false
    → list_any is_shape (if holds then place_of at findings ∷ [] else []) ≡ false
no_violation false at findings is = refl
no_violation true None findings is = ap (λ (b : Bool). (is_refusal_of findings && b) || false) is ∙ ap (λ (b : Bool). b || false) (and_false (is_refusal_of findings))
no_violation true (Some member) findings is = ap (λ (b : Bool). (is_refusal_of findings && b) || false) is
    ∙ ap (λ (b : Bool). b || false) (and_false (is_refusal_of findings))

-- the findings of tests that report a broken rule
abbrev pick : Bool → Violation → List Violation → List Violation
pick true violation violations = violation ∷ violations
pick false violation violations = violations

abbrev pub picked : List Violation → List Violation
picked [] = []
picked (violation ∷ violations) = pick (breaks_rule violation.problem) violation (picked violations)

by_pick : (b : Bool) (violation : Violation) (violations others : List Violation) → breaks_rule violation.problem ≡ b → Same (violation_findings violations) (violation_findings others)
    → Same (violation_finding violation ++ violation_findings violations) (violation_findings (pick b violation others))
by_pick true violation violations others is e = both_same (violation_finding violation) (violation_findings violations) (violation_finding violation) (violation_findings others) (by_violation violation.holds violation.at violation.problem is) e
by_pick false violation violations others is e =
    list_any-append is_shape (violation_finding violation) (violation_findings violations) ∙ ap (λ (b : Bool). b || list_any is_shape (violation_findings violations))
    (no_violation violation.holds violation.at violation.problem is) ∙ e

pub same_picked : (violations : List Violation) → Same (violation_findings violations) (violation_findings (picked violations))
same_picked [] = refl
same_picked (violation ∷ violations) = by_pick (breaks_rule violation.problem) violation violations (picked violations) refl (same_picked violations)

abbrev of_object : Bool → Problem
of_object there = if there then problem.UnknownObject else problem.UnknownAddress

object_breaks_none : (there : Bool) → breaks_rule (of_object there) ≡ false
object_breaks_none true = refl
object_breaks_none false = refl

no_unknown_by : (all : List ResourceChange) (d : Data) (o : Option Named)
    → list_any is_shape (violation_findings (option_map_or (λ nm. unknown_violation all d nm ∷ []) o [])) ≡ false
no_unknown_by all d None = refl
no_unknown_by all d (Some nm) =
    let violation : Violation = unknown_violation all d nm in
    list_any-append is_shape (violation_finding violation) [] ∙ ap (λ (b : Bool). b || false)
    (no_violation violation.holds violation.at violation.problem (object_breaks_none (has_address all nm.0)))

-- an unknown object breaks no rule
pub no_unknown : (changes : Option (List ResourceChange)) (d : Data) → list_any is_shape (violation_findings (unknown_violations changes d)) ≡ false
no_unknown None d = refl
no_unknown (Some all) d = no_unknown_by all d (object_named d)

-- ---- diagnostics, failures, and what provisioners put out

-- a value of which nothing is asked but what its members are
same_members : (wanted : Expected) (table : List MemberRule) (names : List Name) → IsSame (λ d. where_suits wanted d (faults_of table d ++ ignored names d))
    (λ d. where_suits wanted d (faults_of table d ++ ignored names d))
same_members wanted table names d =
    let wrong : List Finding = faults_of table d in
    let rest : List Finding = ignored names d in
    same_where wanted d (wrong ++ rest) (wrong ++ rest) (both_same wrong rest wrong rest (same_faults table d) (same_unread names d))

pub same_diagnostic : IsSame in_diagnostic in_diagnostic
unfolding in_diagnostic
same_diagnostic d = same_members expected.Diagnostic diagnostic_table diagnostic_names d

pub same_failure : IsSame in_failure in_failure
unfolding in_failure
same_failure d = same_members expected.Diagnostic failure_table failure_names d

by_object : (b : Bool) (xs us : List Finding) → Same xs us → Same (if b then xs else []) (if b then us else [])
by_object true xs us e = e
by_object false xs us e = refl

same_output : (seconds before : Option ℕ) → IsSame (in_output seconds before) (in_output seconds before)
unfolding in_output
same_output seconds before d =
    let wrong : List Finding = faults_of output_table d in
    let violations : List Finding = violation_findings (output_violations seconds before d) in
    let rest : List Finding = ignored output_names d in
    by_object (is_some (as_object d)) (wrong ++ violations ++ rest) (wrong ++ violations ++ rest)
    (both_same (wrong ++ violations) rest (wrong ++ violations) rest
    (both_same wrong violations wrong violations (same_faults output_table d) (same_picked (output_violations seconds before d))) (same_unread output_names d))

same_outputs : (seconds before : Option ℕ) (n : ℕ) (ds : List Data) → Same (outputs_after seconds before n ds) (outputs_after seconds before n ds)
same_outputs seconds before n [] = refl
same_outputs seconds before n (d ∷ ds) =
    let own : List Finding = map (under (Item n)) (in_output seconds before d) in
    let rest : List Finding = outputs_after seconds (comes_after seconds d) (suc n) ds in
    both_same own rest own rest (same_under (Item n) (in_output seconds before d) (in_output seconds before d) (same_output seconds before d))
    (same_outputs seconds (comes_after seconds d) (suc n) ds)

pub same_growth : IsSame growth_of_provisioner growth_of_provisioner
unfolding growth_of_provisioner
same_growth d =
    let wrong : List Finding = faults_of (rule name.OnFailure expected.OnFailure ∷ []) d in
    let items : List Finding = outputs_after (whole_at name.Seconds d) None 0 (items_at name.Output d) in
    both_same wrong (in_outputs d) wrong (in_outputs d) (same_faults (rule name.OnFailure expected.OnFailure ∷ []) d)
    (same_under (Member name.Output) items items (same_outputs (whole_at name.Seconds d) None 0 (items_at name.Output d)))

-- ---- what a step waits for

by_text : (b : Bool) (xs us ys vs : List Finding) → Same xs us → Same ys vs → Same (if b then xs else ys) (if b then us else vs)
by_text true xs us ys vs one other = one
by_text false xs us ys vs one other = other

-- the findings without a plan
pub same_wait : (changes : Option (List ResourceChange)) → IsSame (in_wait changes) (in_wait None)
unfolding in_wait
same_wait changes d =
    let wrong : List Finding = faults_of wait_table d in
    let unknown : List Finding = violation_findings (unknown_violations changes d) in
    let step : Violation = missing_step_violation (change_at changes d) (whole_at name.Step d) in
    let lacking : List Finding = violation_findings (step ∷ []) in
    let rest : List Finding = ignored wait_names d in
    let none : List Finding = [] in
    by_text (is_some (as_str d)) unknown none (where_suits expected.Wait d (wrong ++ unknown ++ lacking ++ rest))
    (where_suits expected.Wait d (wrong ++ none ++ none ++ rest))
    (no_unknown changes d)
    (same_where expected.Wait d (wrong ++ unknown ++ lacking ++ rest) (wrong ++ none ++ none ++ rest)
    (both_same (wrong ++ unknown ++ lacking) rest (wrong ++ none ++ none) rest
    (both_same (wrong ++ unknown) lacking (wrong ++ none) none
    (both_same wrong unknown wrong none (same_faults wait_table d) (no_unknown changes d)) (same_picked (step ∷ [])))
    (same_unread wait_names d)))
