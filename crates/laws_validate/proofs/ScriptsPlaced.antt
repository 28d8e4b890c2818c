-- Findings of a script stand at their places, and its warnings are about members that no run reads.
use Rattle.std.proofs.Common.{◌≡◌, ℕ, suc, ◌-◌, List, [], ◌∷◌, ◌++◌, length, map, Bool, true, false, not, ◌&&◌, ◌||◌, is_some, slice_get, Option, Some, None, if◌then◌else◌, refl}
use Rattle.std.specs.Prelude.{codes, nat_le, nat_lt}
use Rattle.std.specs.List.{AllByRecursion, sum_by}
use Rattle.std.specs.Option.{option_map_or}
use Rattle.std.proofs.lemmas.Bool.{and_parts, ltb-true}
use Rattle.serde_json.specs.Data.{Data}
use Rattle.serde_json.specs.Find.{as_object, as_str, get}
use Rattle.apply_json.specs.ShallowView.{items_in}
use Rattle.apply_json.specs.Tree.{◌>>=◌, is_word, list_of, non_empty_text_of, text_of, text_or, unless_empty}
use Rattle.apply_model.specs.declared.plan.step_kind.StepKind.{StepKind}
use Rattle.apply_model.specs.declared.plan.step_kind.StepKind.TheVariants.{Read}
use Rattle.apply_model.specs.Plan.ResourceChange.{ResourceChange}
use Rattle.apply_model.specs.Plan.StepKind.{is_kind}
use Rattle.apply_model.specs.Script.Limits.{max_outputs, max_provisioners}
use Rattle.apply_plan.specs.Script.Refusals.{takes_provisioners}
use Rattle.input_validate.specs.declared.findings.finding.Finding.{Finding}
use Rattle.input_validate.specs.declared.findings.name.Name.{Name}
use Rattle.input_validate.specs.declared.findings.name.Name.TheVariants as name
use Rattle.input_validate.specs.declared.findings.path.Segment.{Segment}
use Rattle.input_validate.specs.declared.findings.path.Segment.TheVariants.{Item, Member}
use Rattle.input_validate.specs.declared.findings.expected.Expected.TheVariants as expected
use Rattle.input_validate.specs.declared.findings.problem.Problem.TheVariants as problem
use Rattle.input_validate.specs.AgainstPlan.{repeat_violation, beyond_at, beyond_in, change_at, has_address, is_deposed, kind_violations, kind_of, named_first, object_named, only_warns, missing_step_violation, step_count_violation, unknown_violation, unknown_violations, waits_beyond, waits_in, waits_in_all, waits_left}
use Rattle.input_validate.specs.Findings.{finding_here, under}
use Rattle.input_validate.specs.Names.{name_text}
use Rattle.input_validate.specs.PlanFindings.{name_read}
use Rattle.input_validate.specs.ScriptFindings.{comes_after, diagnostic_names, diagnostic_table, entry_names, entry_table, failure_names, failure_table, growth_of_provisioner, has_failed, in_diagnostic, in_entry, in_entry_after, in_failure, in_output, in_outputs, in_provisioner, in_script, in_step, in_wait, is_skipped, output_violations, output_names, output_table, outputs_after, provisioner_violation, provisioner_names, provisioner_table, script_names, skipped_violations, step_violations, step_names, step_table, wait_names, wait_table, whole_at}
use Rattle.input_validate.specs.Rules.{fault_of, faults_of, in_items, items_at, items_after, rule, violation_findings, member_at, unless_suits, ignored, where_suits}
use Rattle.laws_validate.specs.IgnoredMembers.{IsRead, entry, failure, failure_of_provisioner, output, provisioner, step, top, wait, warning}
use Rattle.laws_validate.proofs.ViolationPlaces.{HasPlace, holding, holding_some, is_plain, is_there, violations_right, of_violations, over_findings, over_most, there, there_items, there_non_empty, there_text, there_whole}
use Rattle.laws_validate.proofs.Placing.{AreRight, StandFrom, all_under, after_right, below, both, first_there, item_right, items_right, listed_right, object_right, of_member, of_table, of_unread, optional_right, rest_there, unless_right, where_right, whole_there, within, within_list, within_member}

-- ---- diagnostics

diagnostic_right : (R : List Segment → List Name → Type 0) → R [] diagnostic_names → (d : Data) → AreRight R d (in_diagnostic d)
unfolding in_diagnostic
diagnostic_right R r d = where_right R expected.Diagnostic d (λ o. o) (of_table R diagnostic_table d) (of_unread R diagnostic_names d r ∷ [])

pub failure_right : (R : List Segment → List Name → Type 0) → R [] failure_names → (d : Data) → AreRight R d (in_failure d)
unfolding in_failure
failure_right R r d = where_right R expected.Diagnostic d (λ o. o) (of_table R failure_table d) (of_unread R failure_names d r ∷ [])

-- ---- provisioners

-- which members are read of a provisioner, and of what stands in it
pub record ReadsProvisioner (R : List Segment → List Name → Type 0) : Type 0 where
  pub itself : R [] provisioner_names
  pub failed : R (Member name.Failed ∷ []) diagnostic_names
  pub output : (n : ℕ) → R (Member name.Output ∷ Item n ∷ []) output_names

output_places : (seconds before : Option ℕ) (d : Data) → AllByRecursion (HasPlace d) (output_violations seconds before d)
output_places seconds before d = (
  (refl, λ h. there_whole name.After d (over_findings seconds (whole_at name.After d) h)),
  ((refl, λ h. there_whole name.After d (over_most (whole_at name.After d) before h)), tt),
)

output_right : (R : List Segment → List Name → Type 0) → R [] output_names → (seconds before : Option ℕ) (d : Data) → AreRight R d (in_output seconds before d)
unfolding in_output
output_right R r seconds before d =
    object_right R d (of_table R output_table d) (of_violations R d (output_violations seconds before d) (output_places seconds before d) ∷ of_unread R output_names d r ∷ [])

outputs_by : (R : List Segment → List Name → Type 0) → ((n : ℕ) → R (Item n ∷ []) output_names) → (d : Data) (seconds before : Option ℕ) (n : ℕ) (ds : List Data)
    → StandFrom n (list_of (items_in d)) ds → AreRight R d (outputs_after seconds before n ds)
outputs_by R r d seconds before n [] stand = tt
outputs_by R r d seconds before n (e ∷ ds) stand =
    both R d (map (under (Item n)) (in_output seconds before e)) (outputs_after seconds (comes_after seconds e) (suc n) ds)
    (all_under R (Item n) d e (first_there n (list_of (items_in d)) e ds stand) (in_output seconds before e) (output_right (below (Item n) R) (r n) seconds before e))
    (outputs_by R r d seconds (comes_after seconds e) (suc n) ds (rest_there n (list_of (items_in d)) e ds stand))

provisioner_right : (R : List Segment → List Name → Type 0) → ReadsProvisioner R → (d : Data) → AreRight R d (in_provisioner d)
unfolding in_provisioner
provisioner_right R r d =
    where_right R expected.Provisioner d (λ o. o) (of_table R provisioner_table d)
    (within_list R (λ number. unless_suits expected.Output) (rule name.Output expected.ArrayOrAbsent) d (λ n e. unless_right (below (Item n) (below (Member name.Output) R)) expected.Output e)
    ∷ of_violations R d (provisioner_violation d ∷ []) ((refl, there_items name.Output d max_outputs), tt)
    ∷ within_member R in_diagnostic name.Failed d (diagnostic_right (below (Member name.Failed) R) r.failed)
    ∷ of_unread R provisioner_names d r.itself
    ∷ [])

growth_right : (R : List Segment → List Name → Type 0) → ReadsProvisioner R → (d : Data) → AreRight R d (growth_of_provisioner d)
unfolding growth_of_provisioner
growth_right R r d =
    both R d (faults_of (rule name.OnFailure expected.OnFailure ∷ []) d) (in_outputs d)
    (both R d (fault_of d (rule name.OnFailure expected.OnFailure)) [] (optional_right R (rule name.OnFailure expected.OnFailure) d refl) tt)
    (listed_right R name.Output d (outputs_after (whole_at name.Seconds d) None 0) refl
    (λ list. outputs_by (below (Member name.Output) R) r.output list (whole_at name.Seconds d) None 0 (list_of (items_in list)) (whole_there (list_of (items_in list)))))

-- ---- what names no object

first_some : {A B : Type 0} (o : Option A) (f : A → Option B) (y : B) → (o >>= f) ≡ Some y → is_some o ≡ true
first_some None f y e = absurd cc
first_some (Some x) f y e = refl

plain_unknown : (b : Bool) → is_plain (if b then problem.UnknownObject else problem.UnknownAddress) ≡ true
plain_unknown true = refl
plain_unknown false = refl

place_by : (d : Data) (text : Option (List ℕ)) (deposed : Bool) → (deposed ≡ true → is_some (get (name_text name.Deposed) d) ≡ true) → (text ≡ None → is_some (get (name_text name.Address) d) ≡ true)
    → is_there (if is_some text then None else if deposed then Some name.Deposed else Some name.Address) d ≡ true
place_by d (Some text) deposed h k = refl
place_by d None true h k = h refl
place_by d None false h k = k refl

named_by_address : (d : Data) (text : Option (List ℕ)) (named : List ℕ × Option (List ℕ)) → text ≡ None
    → option_map_or (λ address. let o : Option (List ℕ × Option (List ℕ)) = Some (address, None) in o) text (name_read d) ≡ Some named → is_some (get (name_text name.Address) d) ≡ true
named_by_address d (Some text) named none e = absurd cc
named_by_address d None named none e =
    there_text name.Address d (first_some (text_of (name_text name.Address) d)
    (λ address. text_or [] (member_at name.Deposed d) >>= λ deposed. let o : Option (List ℕ × Option (List ℕ)) = Some (address, unless_empty deposed) in o) named e)

unknown_by : (all : List ResourceChange) (d : Data) (o : Option (List ℕ × Option (List ℕ))) → object_named d ≡ o
    → AllByRecursion (HasPlace d) (option_map_or (λ named. unknown_violation all d named ∷ []) o [])
unknown_by all d None is = tt
unknown_by all d (Some named) is = (
  (
    plain_unknown (has_address all named.0),
    λ h. place_by d (as_str d) (has_address all named.0 && is_some (member_at name.Deposed d))
        (λ both_hold. there name.Deposed d (and_parts (has_address all named.0) (is_some (member_at name.Deposed d)) both_hold).1)
        (λ none. named_by_address d (as_str d) named none is),
  ),
  tt,
)

unknown_places : (changes : Option (List ResourceChange)) (d : Data) → AllByRecursion (HasPlace d) (unknown_violations changes d)
unknown_places None d = tt
unknown_places (Some all) d = unknown_by all d (object_named d) refl

-- ---- waits

named_step : (change : Option ResourceChange) (named : Option ℕ) → (missing_step_violation change named).holds ≡ true → is_some named ≡ true
named_step None named e = absurd cc
named_step (Some findings) named e = holding_some (nat_le (length findings.steps)) named e

other : (a b : Bool) → a ≡ false → (a || b) ≡ true → b ≡ true
other true b none e = absurd cc
other false b none e = e

wait_by : (R : List Segment → List Name → Type 0) → R [] wait_names → (changes : Option (List ResourceChange)) (d : Data) (b : Bool) → is_some (as_str d) ≡ b
    → AreRight R d (if b then violation_findings (unknown_violations changes d)
    else where_suits expected.Wait d
    (faults_of wait_table d ++ violation_findings (unknown_violations changes d) ++ violation_findings (missing_step_violation (change_at changes d) (whole_at name.Step d) ∷ []) ++ ignored wait_names d))
wait_by R r changes d true is = violations_right R d (unknown_violations changes d) (unknown_places changes d)
wait_by R r changes d false is =
    where_right R expected.Wait d (other (is_some (as_str d)) (is_some (as_object d)) is) (of_table R wait_table d)
    (of_violations R d (unknown_violations changes d) (unknown_places changes d)
    ∷ of_violations R d (missing_step_violation (change_at changes d) (whole_at name.Step d) ∷ []) ((refl, λ h. there_whole name.Step d (named_step (change_at changes d) (whole_at name.Step d) h)), tt)
    ∷ of_unread R wait_names d r
    ∷ [])

wait_right : (R : List Segment → List Name → Type 0) → R [] wait_names → (changes : Option (List ResourceChange)) (d : Data) → AreRight R d (in_wait changes d)
unfolding in_wait
wait_right R r changes d = wait_by R r changes d (is_some (as_str d)) refl

-- ---- steps

-- which members are read of a step, and of what stands in it
pub record ReadsStep (R : List Segment → List Name → Type 0) : Type 0 where
  pub itself : R [] step_names
  pub warning : R (Member name.Warning ∷ []) diagnostic_names
  pub failed : R (Member name.Failed ∷ []) failure_names
  pub provisioner : (n : ℕ) → ReadsProvisioner (below (Item n) (below (Member name.Provisioners) R))
  pub wait : (n : ℕ) → R (Member name.After ∷ Item n ∷ []) wait_names

test_places : (d : Data) → AllByRecursion (HasPlace d) (step_violations d)
test_places d = (
  (refl, λ h. there_non_empty name.Id d (and_parts (has_failed d) (is_some (non_empty_text_of (name_text name.Id) d)) h).1),
  (
    (refl, λ h. there name.Warning d (and_parts (has_failed d) (is_some (member_at name.Warning d)) h).1),
    (
      (refl, λ h. there_items name.Provisioners d 0 (and_parts (has_failed d) (nat_lt 0 (length (items_at name.Provisioners d))) h).1),
      (
        (refl, λ h. refl),
        ((refl, there_items name.Provisioners d max_provisioners), tt),
      ),
    ),
  ),
)

skipped_places : (d : Data) → AllByRecursion (HasPlace d) (skipped_violations d)
skipped_places d = (
  (refl, λ h. there name.Seconds d (and_parts (is_skipped d) (is_some (member_at name.Seconds d)) h).1),
  (
    (refl, λ h. there_non_empty name.Id d (and_parts (is_skipped d) (is_some (non_empty_text_of (name_text name.Id) d)) h).1),
    (
      (refl, λ h. there name.Warning d (and_parts (is_skipped d) (is_some (member_at name.Warning d)) h).1),
      (
        (refl, λ h. there name.Failed d (and_parts (is_skipped d) (has_failed d) h).1),
        ((refl, λ h. there_items name.Provisioners d 0 (and_parts (is_skipped d) (nat_lt 0 (length (items_at name.Provisioners d))) h).1), tt),
      ),
    ),
  ),
)

takes_none : (d : Data) (takes : StepKind → Bool) (kind : Option StepKind)
    → option_map_or (λ kind. nat_lt 0 (length (items_at name.Provisioners d)) && not (takes kind)) kind false ≡ true → is_some (get (name_text name.Provisioners) d) ≡ true
takes_none d takes kind h =
    let held = holding (λ k. nat_lt 0 (length (items_at name.Provisioners d)) && not (takes k)) kind h in
    there_items name.Provisioners d 0 (and_parts (nat_lt 0 (length (items_at name.Provisioners d))) (not (takes held.0)) held.2).0

warns_there : (d : Data) (kind : Option StepKind)
    → option_map_or (λ kind. only_warns d && not (is_kind Read kind)) kind false ≡ true → is_some (get (name_text name.Failed) d) ≡ true
warns_there d kind h =
    let held = holding (λ k. only_warns d && not (is_kind Read k)) kind h in
    there name.Failed d
    (holding_some (λ failed. option_map_or (is_word (codes "warning")) (member_at name.Severity failed) false) (member_at name.Failed d)
    (and_parts (only_warns d) (not (is_kind Read held.0)) held.2).0)

kind_places : (change : Option ResourceChange) (number : ℕ) (d : Data) → AllByRecursion (HasPlace d) (kind_violations change number d)
kind_places change number d = (
  (refl, takes_none d (λ kind. takes_provisioners (is_deposed change) (number, kind)) (kind_of change number)),
  ((refl, warns_there d (kind_of change number)), tt),
)

step_right : (R : List Segment → List Name → Type 0) → ReadsStep R → (changes : Option (List ResourceChange)) (change : Option ResourceChange) (number : ℕ) (d : Data)
    → AreRight R d (in_step changes change number d)
unfolding in_step
step_right R r changes change number d =
    where_right R expected.Step d (λ o. o) (of_table R (step_table (is_skipped d)) d)
    (within_member R in_diagnostic name.Warning d (diagnostic_right (below (Member name.Warning) R) r.warning)
    ∷ within_member R in_failure name.Failed d (failure_right (below (Member name.Failed) R) r.failed)
    ∷ within_list R (λ number. in_provisioner) (rule name.Provisioners expected.ArrayOrAbsent) d (λ n e. provisioner_right (below (Item n) (below (Member name.Provisioners) R)) (r.provisioner n) e)
    ∷ of_violations R d (step_violations d) (test_places d)
    ∷ of_violations R d (kind_violations change number d) (kind_places change number d)
    ∷ of_table R (rule name.Skipped expected.FlagOrAbsent ∷ []) d
    ∷ of_violations R d (skipped_violations d) (skipped_places d)
    ∷ within_member R (in_items (λ number. growth_of_provisioner)) name.Provisioners d (λ list.
    items_right (below (Member name.Provisioners) R) (λ number. growth_of_provisioner) list (λ n e. growth_right (below (Item n) (below (Member name.Provisioners) R)) (r.provisioner n) e))
    ∷ within_list R (λ item. in_wait changes) (rule name.After expected.ArrayOrAbsent) d (λ n e. wait_right (below (Item n) (below (Member name.After) R)) (r.wait n) changes e)
    ∷ of_unread R step_names d r.itself
    ∷ [])

-- ---- items of `after` beyond those that a script may have

beyond_one : (R : List Segment → List Name → Type 0) (d : Data) (most n : ℕ) (e : Data) (ds : List Data) (b : Bool) → nat_lt most (waits_in e) ≡ b
    → slice_get (list_of (items_in d)) n ≡ Some e → AreRight R d (waits_beyond (most - waits_in e) (suc n) ds)
    → AreRight R d (if b then beyond_at n most else waits_beyond (most - waits_in e) (suc n) ds)
beyond_one R d most n e ds false is at rest = rest
beyond_one R d most n e ds true is at rest =
    let over = within (items_at name.After e) most (ltb-true most (waits_in e) is) in
    let reported : List Finding = finding_here problem.TooManyWaits ∷ [] in
    all_under R (Item n) d e at (map (under (Member name.After)) (map (under (Item most)) reported))
    (item_right (below (Item n) R) name.After e most over.0 reported over.1 (refl, tt))

beyond_by : (R : List Segment → List Name → Type 0) (d : Data) (most n : ℕ) (ds : List Data) → StandFrom n (list_of (items_in d)) ds → AreRight R d (waits_beyond most n ds)
beyond_by R d most n [] stand = tt
beyond_by R d most n (e ∷ ds) stand =
    beyond_one R d most n e ds (nat_lt most (waits_in e)) refl (first_there n (list_of (items_in d)) e ds stand)
    (beyond_by R d (most - waits_in e) (suc n) ds (rest_there n (list_of (items_in d)) e ds stand))

beyond_right : (R : List Segment → List Name → Type 0) (d : Data) (has_plan : Bool) (left : Option ℕ) → AreRight R d (beyond_in has_plan left d)
beyond_right R d has_plan None = tt
beyond_right R d false (Some most) = tt
beyond_right R d true (Some most) =
    listed_right R name.Steps d (waits_beyond most 0) refl (λ list. beyond_by (below (Member name.Steps) R) list most 0 (list_of (items_in list)) (whole_there (list_of (items_in list))))

-- ---- entries, and the whole

pub record ReadsEntry (R : List Segment → List Name → Type 0) : Type 0 where
  pub itself : R [] entry_names
  pub step : (n : ℕ) → ReadsStep (below (Item n) (below (Member name.Steps) R))

many_steps : (change : Option ResourceChange) (d : Data) → (step_count_violation change d).holds ≡ true → is_some (get (name_text name.Steps) d) ≡ true
many_steps change d h =
    let held = holding (λ findings. nat_lt (length findings.steps) (length (items_at name.Steps d))) change h in
    there_items name.Steps d (length held.0.steps) held.2

entry_right : (R : List Segment → List Name → Type 0) → ReadsEntry R → (changes : Option (List ResourceChange)) (first left : Option ℕ) (d : Data) → AreRight R d (in_entry changes first left d)
unfolding in_entry
entry_right R r changes first left d =
    let change : Option ResourceChange = change_at changes d in
    where_right R expected.Entry d (λ o. o) (of_table R entry_table d)
    (of_violations R d (unknown_violations changes d) (unknown_places changes d)
    ∷ of_violations R d (repeat_violation change first ∷ []) ((refl, λ h. refl), tt)
    ∷ of_member R (rule name.Steps expected.Array) d
    ∷ of_violations R d (step_count_violation change d ∷ []) ((refl, many_steps change d), tt)
    ∷ within_member R (in_items (in_step changes change)) name.Steps d (λ list.
    items_right (below (Member name.Steps) R) (in_step changes change) list (λ n e. step_right (below (Item n) (below (Member name.Steps) R)) (r.step n) changes change n e))
    ∷ (beyond_in (is_some changes) left d, λ o. beyond_right R d (is_some changes) left)
    ∷ of_unread R entry_names d r.itself
    ∷ [])

pub record ReadsScript (R : List Segment → List Name → Type 0) : Type 0 where
  pub itself : R [] script_names
  pub entry : (n : ℕ) → ReadsEntry (below (Item n) (below (Member name.Changes) R))

entries_right : (R : List Segment → List Name → Type 0) → ((n : ℕ) → ReadsEntry (below (Item n) (below (Member name.Changes) R))) → (changes : Option (List ResourceChange)) (d : Data)
    → AreRight R d (map (under (Member name.Changes)) (items_after (in_entry_after changes) [] (items_at name.Changes d)))
entries_right R r changes d =
    listed_right R name.Changes d (items_after (in_entry_after changes) []) refl (λ list.
    after_right (below (Member name.Changes) R) (in_entry_after changes) list (λ before n e.
    entry_right (below (Item n) (below (Member name.Changes) R)) (r n) changes (named_first before e) (waits_left (sum_by waits_in_all before)) e)
    [] (list_of (items_in list)) (whole_there (list_of (items_in list))))

script_by : (R : List Segment → List Name → Type 0) → ReadsScript R → (changes : Option (List ResourceChange)) (d : Data) → AreRight R d (in_script changes d)
unfolding in_script
script_by R r changes d =
    where_right R expected.Object d (λ o. o) (of_member R (rule name.Changes expected.Array) d)
    ((map (under (Member name.Changes)) (items_after (in_entry_after changes) [] (items_at name.Changes d)), λ o. entries_right R r.entry changes d)
    ∷ of_unread R script_names d r.itself
    ∷ [])

-- what a run reads
read : ReadsScript IsRead
read = record {
  itself = top;
  entry = λ e. record {
    itself = entry e;
    step = λ s. record {
      itself = step e s;
      warning = warning e s;
      failed = failure e s;
      provisioner = λ p. record { itself = provisioner e s p; failed = failure_of_provisioner e s p; output = output e s p };
      wait = wait e s;
    };
  };
}

pub script_right : (changes : Option (List ResourceChange)) (d : Data) → AreRight IsRead d (in_script changes d)
script_right changes d = script_by IsRead read changes d
