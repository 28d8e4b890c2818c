-- `validate` warns of the members that no run reads, in each object of a script.
use Rattle.std.proofs.Common.{◌≡◌, ℕ, zero, suc, ◌+◌, List, [], ◌∷◌, map, Bool, true, false, ◌||◌, is_some, slice_get, Option, Some, None, if◌then◌else◌, refl, sym, subst, arith}
use Rattle.std.specs.List.{sum_by}
use Rattle.serde_json.specs.Data.{Data}
use Rattle.serde_json.specs.Find.{as_object, as_str}
use Rattle.apply_json.specs.ShallowView.{items_in}
use Rattle.apply_json.specs.Tree.{list_of}
use Rattle.apply_model.specs.Plan.ResourceChange.{ResourceChange}
use Rattle.input_validate.specs.declared.findings.finding.Finding.{Finding}
use Rattle.input_validate.specs.declared.findings.name.Name.{Name}
use Rattle.input_validate.specs.declared.findings.name.Name.TheVariants as name
use Rattle.input_validate.specs.declared.findings.path.Segment.{Segment}
use Rattle.input_validate.specs.declared.findings.path.Segment.TheVariants.{Item, Member, Other}
use Rattle.input_validate.specs.declared.findings.expected.Expected.{Expected}
use Rattle.input_validate.specs.declared.findings.expected.Expected.TheVariants as expected
use Rattle.input_validate.specs.declared.findings.problem.Problem.TheVariants.{IsNot}
use Rattle.input_validate.specs.AgainstPlan.{repeat_violation, beyond_in, change_at, kind_violations, named_first, missing_step_violation, step_count_violation, unknown_violations, waits_in_all, waits_left}
use Rattle.input_validate.specs.Findings.{finding_here, under}
use Rattle.input_validate.specs.ScriptFindings.{comes_after, diagnostic_names, diagnostic_table, entry_names, entry_table, failure_names, failure_table, growth_of_provisioner, in_diagnostic, in_entry, in_entry_after, in_failure, in_output, in_outputs, in_provisioner, in_script, in_step, in_wait, is_skipped, output_violations, output_names, output_table, outputs_after, provisioner_violation, provisioner_names, provisioner_table, script_names, skipped_violations, step_violations, step_names, step_table, wait_names, wait_table, whole_at}
use Rattle.input_validate.specs.Rules.{fault_of, faults_of, in_items, in_list, inside, items_at, items_after, rule, violation_findings, unless_suits, ignored, where_suits}
use Rattle.input_validate.specs.Expectations.{suits}
use Rattle.laws_validate.specs.IgnoredMembers.{IsRead, entry, failure, failure_of_provisioner, output, provisioner, step, top, wait, warning, warning_at}
use Rattle.laws_validate.proofs.Joined.{joined}
use Rattle.laws_validate.proofs.Warning.{Has, Warns, after_warn, begins_in_object, has_left, has_right, has_under, inside_warns, item_value, items_warn, listed_warns, not_text, same_some, unread_warns, warns_part, warns_where}

suited : (b : Bool) (xs : List Finding) (y : Finding) → b ≡ true → (if b then xs else y ∷ []) ≡ xs
suited true xs y e = refl
suited false xs y e = absurd cc

-- what is looked at only in an object, in parts
pub warns_in : (front : List Segment) (names : List Name) (wanted : Expected) (d : Data) (all : List Finding) (parts : List (List Finding)) (k : ℕ) (part : List Finding)
    → begins_in_object front ≡ true → (is_some (as_object d) ≡ true → suits wanted d ≡ true) → slice_get parts k ≡ Some part → Warns front names d part
    → Warns front names d (where_suits wanted d (joined all parts))
warns_in front names wanted d all parts k part begins fits is h =
    warns_where front names d (where_suits wanted d (joined all parts)) (joined all parts) begins
    (λ o. suited (suits wanted d) (joined all parts) (finding_here (IsNot wanted)) (fits o))
    (warns_part front names d all parts k part is h)

pub in_list_warns : (front : List Segment) (names : List Name) (findings : ℕ → Data → List Finding) (at : Name) (wanted : Expected) (d : Data) → ((m : ℕ) (e : Data) → Warns front names e (findings m e))
    → (i : ℕ) → Warns (Member at ∷ Item i ∷ front) names d (in_list findings (rule at wanted) d)
in_list_warns front names findings at wanted d h i =
    warns_part (Member at ∷ Item i ∷ front) names d (fault_of d (rule at wanted)) (inside (in_items findings) at d ∷ []) 0 (inside (in_items findings) at d) refl
    (inside_warns (Item i ∷ front) names (in_items findings) at d (λ list. items_warn front names findings list h i))

-- ---- diagnostics

diagnostic_warns : (d : Data) → Warns [] diagnostic_names d (in_diagnostic d)
unfolding in_diagnostic
diagnostic_warns d =
    warns_in [] diagnostic_names expected.Diagnostic d (faults_of diagnostic_table d) (ignored diagnostic_names d ∷ []) 0 (ignored diagnostic_names d) refl (λ o. o) refl (unread_warns diagnostic_names d)

pub failure_warns : (d : Data) → Warns [] failure_names d (in_failure d)
unfolding in_failure
failure_warns d =
    warns_in [] failure_names expected.Diagnostic d (faults_of failure_table d) (ignored failure_names d ∷ []) 0 (ignored failure_names d) refl (λ o. o) refl (unread_warns failure_names d)

-- ---- provisioners

chosen : (b : Bool) (xs : List Finding) → b ≡ true → (if b then xs else []) ≡ xs
chosen true xs e = refl
chosen false xs e = absurd cc

output_warns : (seconds before : Option ℕ) (d : Data) → Warns [] output_names d (in_output seconds before d)
unfolding in_output
output_warns seconds before d =
    let parts : List (List Finding) = violation_findings (output_violations seconds before d) ∷ ignored output_names d ∷ [] in
    let findings : List Finding = joined (faults_of output_table d) parts in
    warns_where [] output_names d (if is_some (as_object d) then findings else []) findings refl (chosen (is_some (as_object d)) findings)
    (warns_part [] output_names d (faults_of output_table d) parts 1 (ignored output_names d) refl (unread_warns output_names d))

outputs_by : (x : Finding) (e : Data) (seconds : Option ℕ) → ((before : Option ℕ) → Has x (in_output seconds before e)) → (before : Option ℕ) (m : ℕ) (ds : List Data) (i : ℕ) → slice_get ds i ≡ Some e
    → Has (under (Item (m + i)) x) (outputs_after seconds before m ds)
outputs_by x e seconds h before m [] i is = absurd cc
outputs_by x e seconds h before m (d ∷ ds) zero is =
    let here : Has (under (Item m) x) (map (under (Item m)) (in_output seconds before d)) =
    has_under (Item m) x (in_output seconds before d) (subst (λ (v : Data). Has x (in_output seconds before v)) (sym (same_some d e is)) (h before)) in
    has_left (under (Item (m + 0)) x) (map (under (Item m)) (in_output seconds before d)) (outputs_after seconds (comes_after seconds d) (suc m) ds)
    (subst (λ (k : ℕ). Has (under (Item k) x) (map (under (Item m)) (in_output seconds before d))) (let q : m ≡ m + 0 = omega arith in q) here)
outputs_by x e seconds h before m (d ∷ ds) (suc i) is =
    has_right (under (Item (m + suc i)) x) (map (under (Item m)) (in_output seconds before d)) (outputs_after seconds (comes_after seconds d) (suc m) ds)
    (subst (λ (k : ℕ). Has (under (Item k) x) (outputs_after seconds (comes_after seconds d) (suc m) ds)) (let q : suc m + i ≡ m + suc i = omega arith in q)
    (outputs_by x e seconds h (comes_after seconds d) (suc m) ds i is))

outputs_warn : (seconds : Option ℕ) (d : Data) (i : ℕ) → Warns (Item i ∷ []) output_names d (outputs_after seconds None 0 (list_of (items_in d)))
outputs_warn seconds d i value n text is has unknown =
    let item = item_value [] (slice_get (list_of (items_in d)) i) value is in
    let x : Finding = warning_at (Other n ∷ []) in
    subst (λ (k : ℕ). Has (under (Item k) x) (outputs_after seconds None 0 (list_of (items_in d)))) (let q : 0 + i ≡ i = omega arith in q)
    (outputs_by x item.0 seconds (λ before. output_warns seconds before item.0 value n text item.2 has unknown) None 0 (list_of (items_in d)) i item.1)

-- the first findings of a provisioner, after those of its own members
abbrev provisioner_parts : Data → List (List Finding)
provisioner_parts d =
    in_list (λ number. unless_suits expected.Output) (rule name.Output expected.ArrayOrAbsent) d
    ∷ violation_findings (provisioner_violation d ∷ [])
    ∷ inside in_diagnostic name.Failed d
    ∷ ignored provisioner_names d
    ∷ []

provisioner_warns : (d : Data) → Warns [] provisioner_names d (in_provisioner d)
unfolding in_provisioner
provisioner_warns d =
    warns_in [] provisioner_names expected.Provisioner d (faults_of provisioner_table d) (provisioner_parts d) 3 (ignored provisioner_names d) refl (λ o. o) refl (unread_warns provisioner_names d)

provisioner_failed_warns : (d : Data) → Warns (Member name.Failed ∷ []) diagnostic_names d (in_provisioner d)
unfolding in_provisioner
provisioner_failed_warns d =
    warns_in (Member name.Failed ∷ []) diagnostic_names expected.Provisioner d (faults_of provisioner_table d) (provisioner_parts d) 2 (inside in_diagnostic name.Failed d) refl (λ o. o) refl
    (inside_warns [] diagnostic_names in_diagnostic name.Failed d diagnostic_warns)

growth_warns : (d : Data) (i : ℕ) → Warns (Member name.Output ∷ Item i ∷ []) output_names d (growth_of_provisioner d)
unfolding growth_of_provisioner
growth_warns d i =
    warns_part (Member name.Output ∷ Item i ∷ []) output_names d (faults_of (rule name.OnFailure expected.OnFailure ∷ []) d) (in_outputs d ∷ []) 0 (in_outputs d) refl
    (listed_warns (Item i ∷ []) output_names (outputs_after (whole_at name.Seconds d) None 0) name.Output d (λ list. outputs_warn (whole_at name.Seconds d) list i))

-- ---- waits

no_text : (b : Bool) (xs ys : List Finding) → b ≡ false → (if b then xs else ys) ≡ ys
no_text true xs ys e = absurd cc
no_text false xs ys e = refl

either : (a b : Bool) → b ≡ true → (a || b) ≡ true
either true b e = refl
either false b e = e

wait_warns : (changes : Option (List ResourceChange)) (d : Data) → Warns [] wait_names d (in_wait changes d)
unfolding in_wait
wait_warns changes d =
    let unknown : List Finding = violation_findings (unknown_violations changes d) in
    let parts : List (List Finding) = unknown ∷ violation_findings (missing_step_violation (change_at changes d) (whole_at name.Step d) ∷ []) ∷ ignored wait_names d ∷ [] in
    let findings : List Finding = where_suits expected.Wait d (joined (faults_of wait_table d) parts) in
    warns_where [] wait_names d (if is_some (as_str d) then unknown else findings) findings refl (λ o. no_text (is_some (as_str d)) unknown findings (not_text d o))
    (warns_in [] wait_names expected.Wait d (faults_of wait_table d) parts 2 (ignored wait_names d) refl (λ o. either (is_some (as_str d)) (is_some (as_object d)) o) refl (unread_warns wait_names d))

-- ---- steps

-- the findings of a step, after those of its own members
abbrev step_parts : Option (List ResourceChange) → Option ResourceChange → ℕ → Data → List (List Finding)
step_parts changes change number d =
    inside in_diagnostic name.Warning d
    ∷ inside in_failure name.Failed d
    ∷ in_list (λ number. in_provisioner) (rule name.Provisioners expected.ArrayOrAbsent) d
    ∷ violation_findings (step_violations d)
    ∷ violation_findings (kind_violations change number d)
    ∷ faults_of (rule name.Skipped expected.FlagOrAbsent ∷ []) d
    ∷ violation_findings (skipped_violations d)
    ∷ inside (in_items (λ number. growth_of_provisioner)) name.Provisioners d
    ∷ in_list (λ item. in_wait changes) (rule name.After expected.ArrayOrAbsent) d
    ∷ ignored step_names d
    ∷ []

step_part : (front : List Segment) (names : List Name) (changes : Option (List ResourceChange)) (change : Option ResourceChange) (number : ℕ) (d : Data) (k : ℕ) (part : List Finding)
    → begins_in_object front ≡ true → slice_get (step_parts changes change number d) k ≡ Some part → Warns front names d part → Warns front names d (in_step changes change number d)
unfolding in_step
step_part front names changes change number d k part begins is h =
    warns_in front names expected.Step d (faults_of (step_table (is_skipped d)) d) (step_parts changes change number d) k part begins (λ o. o) is h

abbrev WarnsStep : List Segment → List Name → Type 0
WarnsStep front names = (changes : Option (List ResourceChange)) (change : Option ResourceChange) (number : ℕ) (d : Data) → Warns front names d (in_step changes change number d)

step_warns : WarnsStep [] step_names
step_warns changes change number d = step_part [] step_names changes change number d 9 (ignored step_names d) refl refl (unread_warns step_names d)

warning_warns : WarnsStep (Member name.Warning ∷ []) diagnostic_names
warning_warns changes change number d =
    step_part (Member name.Warning ∷ []) diagnostic_names changes change number d 0 (inside in_diagnostic name.Warning d) refl refl
    (inside_warns [] diagnostic_names in_diagnostic name.Warning d diagnostic_warns)

step_failed_warns : WarnsStep (Member name.Failed ∷ []) failure_names
step_failed_warns changes change number d =
    step_part (Member name.Failed ∷ []) failure_names changes change number d 1 (inside in_failure name.Failed d) refl refl
    (inside_warns [] failure_names in_failure name.Failed d failure_warns)

step_provisioner_warns : (front : List Segment) (names : List Name) → ((d : Data) → Warns front names d (in_provisioner d)) → (p : ℕ) → WarnsStep (Member name.Provisioners ∷ Item p ∷ front) names
step_provisioner_warns front names h p changes change number d =
    step_part (Member name.Provisioners ∷ Item p ∷ front) names changes change number d 2 (in_list (λ number. in_provisioner) (rule name.Provisioners expected.ArrayOrAbsent) d) refl refl
    (in_list_warns front names (λ number. in_provisioner) name.Provisioners expected.ArrayOrAbsent d (λ m e. h e) p)

step_output_warns : (p n : ℕ) → WarnsStep (Member name.Provisioners ∷ Item p ∷ Member name.Output ∷ Item n ∷ []) output_names
step_output_warns p n changes change number d =
    step_part (Member name.Provisioners ∷ Item p ∷ Member name.Output ∷ Item n ∷ []) output_names changes change number d 7 (inside (in_items (λ number. growth_of_provisioner)) name.Provisioners d) refl refl
    (inside_warns (Item p ∷ Member name.Output ∷ Item n ∷ []) output_names (in_items (λ number. growth_of_provisioner)) name.Provisioners d
    (λ list. items_warn (Member name.Output ∷ Item n ∷ []) output_names (λ number. growth_of_provisioner) list (λ m e. growth_warns e n) p))

step_wait_warns : (n : ℕ) → WarnsStep (Member name.After ∷ Item n ∷ []) wait_names
step_wait_warns n changes change number d =
    step_part (Member name.After ∷ Item n ∷ []) wait_names changes change number d 8 (in_list (λ item. in_wait changes) (rule name.After expected.ArrayOrAbsent) d) refl refl
    (in_list_warns [] wait_names (λ item. in_wait changes) name.After expected.ArrayOrAbsent d (λ m e. wait_warns changes e) n)

-- ---- entries, and the whole

-- the findings of an entry, after those of its own members
abbrev entry_parts : Option (List ResourceChange) → (first left : Option ℕ) → Data → List (List Finding)
entry_parts changes first left d =
    violation_findings (unknown_violations changes d)
    ∷ violation_findings (repeat_violation (change_at changes d) first ∷ [])
    ∷ fault_of d (rule name.Steps expected.Array)
    ∷ violation_findings (step_count_violation (change_at changes d) d ∷ [])
    ∷ inside (in_items (in_step changes (change_at changes d))) name.Steps d
    ∷ beyond_in (is_some changes) left d
    ∷ ignored entry_names d
    ∷ []

entry_part : (front : List Segment) (names : List Name) (changes : Option (List ResourceChange)) (first left : Option ℕ) (d : Data) (k : ℕ) (part : List Finding)
    → begins_in_object front ≡ true → slice_get (entry_parts changes first left d) k ≡ Some part → Warns front names d part → Warns front names d (in_entry changes first left d)
unfolding in_entry
entry_part front names changes first left d k part begins is h =
    warns_in front names expected.Entry d (faults_of entry_table d) (entry_parts changes first left d) k part begins (λ o. o) is h

abbrev WarnsScript : List Segment → List Name → Type 0
WarnsScript front names = (changes : Option (List ResourceChange)) (d : Data) → Warns front names d (in_script changes d)

script_part : (front : List Segment) (names : List Name) (changes : Option (List ResourceChange)) (d : Data) (k : ℕ) (part : List Finding) → begins_in_object front ≡ true
    → slice_get (map (under (Member name.Changes)) (items_after (in_entry_after changes) [] (items_at name.Changes d)) ∷ ignored script_names d ∷ []) k ≡ Some part → Warns front names d part
    → Warns front names d (in_script changes d)
unfolding in_script
script_part front names changes d k part begins is h =
    warns_in front names expected.Object d (fault_of d (rule name.Changes expected.Array)) (map (under (Member name.Changes)) (items_after (in_entry_after changes) [] (items_at name.Changes d)) ∷ ignored script_names d ∷ []) k part
    begins (λ o. o) is h

script_entry_warns : (front : List Segment) (names : List Name) → ((changes : Option (List ResourceChange)) (first left : Option ℕ) (d : Data) → Warns front names d (in_entry changes first left d))
    → (e : ℕ) → WarnsScript (Member name.Changes ∷ Item e ∷ front) names
script_entry_warns front names h e changes d =
    script_part (Member name.Changes ∷ Item e ∷ front) names changes d 0 (map (under (Member name.Changes)) (items_after (in_entry_after changes) [] (items_at name.Changes d))) refl refl
    (listed_warns (Item e ∷ front) names (items_after (in_entry_after changes) []) name.Changes d
    (λ list. after_warn front names (in_entry_after changes) list (λ before it. h changes (named_first before it) (waits_left (sum_by waits_in_all before)) it) e))

script_step_warns : (front : List Segment) (names : List Name) → WarnsStep front names → (e s : ℕ) → WarnsScript (Member name.Changes ∷ Item e ∷ Member name.Steps ∷ Item s ∷ front) names
script_step_warns front names h e s =
    script_entry_warns (Member name.Steps ∷ Item s ∷ front) names
    (λ changes first left d.
    entry_part (Member name.Steps ∷ Item s ∷ front) names changes first left d 4 (inside (in_items (in_step changes (change_at changes d))) name.Steps d) refl refl
    (inside_warns (Item s ∷ front) names (in_items (in_step changes (change_at changes d))) name.Steps d
    (λ list. items_warn front names (in_step changes (change_at changes d)) list (h changes (change_at changes d)) s))) e

pub script_warns : {front : List Segment} {names : List Name} → IsRead front names → WarnsScript front names
script_warns top = λ changes d. script_part [] script_names changes d 1 (ignored script_names d) refl refl (unread_warns script_names d)
script_warns (entry e) =
    script_entry_warns [] entry_names (λ changes first left d. entry_part [] entry_names changes first left d 6 (ignored entry_names d) refl refl (unread_warns entry_names d)) e
script_warns (step e s) = script_step_warns [] step_names step_warns e s
script_warns (warning e s) = script_step_warns (Member name.Warning ∷ []) diagnostic_names warning_warns e s
script_warns (failure e s) = script_step_warns (Member name.Failed ∷ []) failure_names step_failed_warns e s
script_warns (provisioner e s p) = script_step_warns (Member name.Provisioners ∷ Item p ∷ []) provisioner_names (step_provisioner_warns [] provisioner_names provisioner_warns p) e s
script_warns (failure_of_provisioner e s p) =
    script_step_warns (Member name.Provisioners ∷ Item p ∷ Member name.Failed ∷ []) diagnostic_names (step_provisioner_warns (Member name.Failed ∷ []) diagnostic_names provisioner_failed_warns p) e s
script_warns (output e s p n) = script_step_warns (Member name.Provisioners ∷ Item p ∷ Member name.Output ∷ Item n ∷ []) output_names (step_output_warns p n) e s
script_warns (wait e s n) = script_step_warns (Member name.After ∷ Item n ∷ []) wait_names (step_wait_warns n) e s
