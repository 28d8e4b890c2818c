-- A step has no error if and only if a run reads it, it is within the limits, and it fits the
-- changes of the plan.
use Rattle.std.proofs.Common.{◌≡◌, ℕ, List, [], ◌∷◌, ◌++◌, Bool, true, false, not, ◌&&◌, is_some, Option, refl, sym, ap, ◌∙◌, map}
use Rattle.std.specs.Prelude.{codes}
use Rattle.std.specs.List.{list_all}
use Rattle.serde_json.specs.Data.{Data}
use Rattle.serde_json.specs.Find.{as_object}
use Rattle.apply_json.specs.Tree.{member_of, text_or}
use Rattle.apply_model.specs.declared.script.diag.Diag.{Diag}
use Rattle.apply_model.specs.declared.script.provisioner.Provisioner.{Provisioner}
use Rattle.apply_model.specs.Plan.ResourceChange.{ResourceChange}
use Rattle.apply_plan.specs.Script.Entry.{Failure, WaitName, diag_from, diag_or_none, each_of, ending_of, failure_from}
use Rattle.apply_plan.specs.Script.Entry.{failure_or_none, flag_or_false, provisioner_from, seconds_of, step_from, wait_from}
use Rattle.input_validate.specs.declared.findings.finding.Finding.{Finding}
use Rattle.input_validate.specs.declared.findings.name.Name.TheVariants as name
use Rattle.input_validate.specs.declared.findings.expected.Expected.TheVariants as expected
use Rattle.input_validate.specs.AgainstPlan.{kind_violations}
use Rattle.input_validate.specs.ScriptFindings.{growth_of_provisioner, in_diagnostic, in_failure, in_provisioner, in_step, in_wait, is_skipped, skipped_violations, step_violations, step_names, step_table}
use Rattle.input_validate.specs.Rules.{faults_of, in_items, in_list, inside, rule, violation_findings, ignored}
use Rattle.input_validate.specs.Expectations.{is_met}
use Rattle.laws_validate.proofs.Alike.{Alike, object_alike}
use Rattle.laws_validate.proofs.CleanAgainstPlan.{fits_kind, has_change_and_step, kind_same}
use Rattle.laws_validate.proofs.Clean.{all_items, clean, clean-faults_of, clean-violation_findings, clean-then_unread, clean-where_suits, is_absent_or, Cleared, all_of, clean-joined, items_both}
use Rattle.laws_validate.proofs.Diagnostics.{absent_or_diagnostic, absent_or_failure, clean_diagnostic, clean_failure, clean_wait, fits_wait}
use Rattle.laws_validate.proofs.Members.{IsCleanBy, array_or, flag_same, flag_there, inside_clean, items_inside, list_clean}
use Rattle.input_validate.proofs.Options.{and_assoc, and_false, and_true, still}
use Rattle.laws_validate.proofs.Provisioners.{clean_growth, clean_provisioner, fits, fits_first, fits_growth, is_provisioner, fits_both}
use Rattle.laws_validate.proofs.Wanted.{each_fits, each_is, only_object}
use Rattle.laws_validate.proofs.Steps.{apart, flag_read, is_step, parts as step_parts, reads, silent_read, table_clean, tests_read, tests_same, timed}
use Rattle.laws_validate.proofs.Joined.{joined}

-- the tests against a plan, apart from the tests without one
against_last : (x kinds flag skipped growth a waits : Bool)
    → (((((x && kinds) && flag) && skipped) && growth) && (a && waits)) ≡ (((((x && flag) && skipped) && growth) && a) && (kinds && waits))
against_last false kinds flag skipped growth a waits = refl
against_last true true flag skipped growth a waits = and_assoc (((flag && skipped) && growth)) a waits
against_last true false flag skipped growth a waits = sym (and_false (((flag && skipped) && growth) && a))

-- what is no object is no step
only_step : (k : Data) → (is_some (as_object k) && is_step k) ≡ is_step k
unfolding step_from ending_of
only_step k = only_object is_step refl (λ b. refl) (λ n. refl) (λ s. refl) (λ ds. refl) k

-- what a step waits for is there
abbrev pub waits_fit : Option (List ResourceChange) → Data → Bool
waits_fit changes k = is_absent_or (all_items (has_change_and_step changes)) (member_of (codes "after") k)

-- a step fits the changes of a plan
abbrev pub fits_plan : Option (List ResourceChange) → Option ResourceChange → ℕ → Data → Bool
fits_plan changes change n k = fits_kind change n k && waits_fit changes k

-- a step that a run reads is within the limits, and fits the changes of a plan
abbrev pub fits_step : Option (List ResourceChange) → Option ResourceChange → ℕ → Data → Bool
fits_step changes change n k = is_step k && fits_plan changes change n k

-- what is read of its members
abbrev pub flag_of : Data → Option Bool
flag_of k = flag_or_false (member_of (codes "skipped") k)

abbrev pub states_seconds : Data → Bool
states_seconds k = is_some (member_of (codes "seconds") k)

abbrev pub id_of : Data → Option (List ℕ)
id_of k = text_or [] (member_of (codes "id") k)

abbrev pub warning_of : Data → Option (Option Diag)
warning_of k = diag_or_none (member_of (codes "warning") k)

abbrev pub failure_of : Data → Option (Option Failure)
failure_of k = failure_or_none (member_of (codes "failed") k)

abbrev pub provisioners_of : Data → Option (List Provisioner)
provisioners_of k = each_of provisioner_from (member_of (codes "provisioners") k)

abbrev pub waits_of : Data → Option (List WaitName)
waits_of k = each_of wait_from (member_of (codes "after") k)

abbrev pub own_of : Data → Bool
own_of k = timed (is_skipped k) (seconds_of k) && is_some (id_of k)

abbrev pub grown_of : Data → Bool
grown_of k = is_absent_or (all_items fits_growth) (member_of (codes "provisioners") k)

-- the members, with the findings of the provisioners and of the tests
abbrev pub members_of : Data → (provisioners tests tests_skipped : Bool) → Bool
members_of k provisioners tests tests_skipped =
    step_parts (timed (is_skipped k) (seconds_of k)) (is_some (id_of k)) (is_some (warning_of k)) (is_some (failure_of k)) provisioners tests
    (is_some (flag_of k)) tests_skipped (is_some (waits_of k))

-- the two walks over the provisioners make one
pub members_apart : (k : Data) (first tests tests_skipped all : Bool) → (first && grown_of k) ≡ all
    → ((((((((own_of k && is_some (warning_of k)) && is_some (failure_of k)) && (is_met expected.ArrayOrAbsent (member_of (codes "provisioners") k) && first))
    && tests) && is_some (flag_of k)) && tests_skipped) && grown_of k) && is_some (waits_of k))
    ≡ members_of k (is_met expected.ArrayOrAbsent (member_of (codes "provisioners") k) && all) tests tests_skipped
members_apart k first tests tests_skipped all e =
    apart (timed (is_skipped k) (seconds_of k)) (is_some (id_of k)) (is_some (warning_of k)) (is_some (failure_of k))
    (is_met expected.ArrayOrAbsent (member_of (codes "provisioners") k)) first tests (is_some (flag_of k)) tests_skipped (grown_of k) (is_some (waits_of k)) all e

-- the findings of the members of the other tree
module _ (d k : Data) (alike : Alike d k) where
  pub own_clean : clean (faults_of (step_table (is_skipped d)) d) ≡ own_of k
  own_clean =
      table_clean (is_skipped d) d k alike ∙ ap (λ (b : Bool). timed b (seconds_of k) && is_some (id_of k)) (flag_same (codes "skipped") refl d k alike)

  pub warning_clean : clean (inside in_diagnostic name.Warning d) ≡ is_some (warning_of k)
  warning_clean =
      inside_clean in_diagnostic (λ e. is_some (diag_from e)) clean_diagnostic name.Warning refl d k alike
      ∙ absent_or_diagnostic (member_of (codes "warning") k)

  pub failure_clean : clean (inside in_failure name.Failed d) ≡ is_some (failure_of k)
  failure_clean =
      inside_clean in_failure (λ e. is_some (failure_from e)) clean_failure name.Failed refl d k alike ∙ absent_or_failure (member_of (codes "failed") k)

  pub flag_clean : clean (faults_of (rule name.Skipped expected.FlagOrAbsent ∷ []) d) ≡ is_some (flag_of k)
  flag_clean =
      clean-faults_of (rule name.Skipped expected.FlagOrAbsent ∷ []) d ∙ and_true (is_met expected.FlagOrAbsent (member_of (codes "skipped") d))
      ∙ flag_there (codes "skipped") refl d k alike

  pub growth_clean : clean (inside (in_items (λ number. growth_of_provisioner)) name.Provisioners d) ≡ grown_of k
  growth_clean = items_inside (λ number. growth_of_provisioner) fits_growth (λ number. clean_growth) name.Provisioners refl d k alike

pub clean_step : (changes : Option (List ResourceChange)) (change : Option ResourceChange) (n : ℕ)
    → IsCleanBy (in_step changes change n) (fits_step changes change n)
unfolding in_step step_from ending_of
clean_step changes change n d k alike =
    let provisioners : List Finding = in_list (λ number. in_provisioner) (rule name.Provisioners expected.ArrayOrAbsent) d in
    let after : List Finding = in_list (λ item. in_wait changes) (rule name.After expected.ArrayOrAbsent) d in
    let o : Option Data = member_of (codes "provisioners") k in
    let p : Option Data = member_of (codes "after") k in
    let tests : Bool = list_all (λ violation. not violation.holds) (step_violations k) in
    let tests_skipped : Bool = list_all (λ violation. not violation.holds) (skipped_violations k) in
    let listed : Bool = is_met expected.ArrayOrAbsent o && is_absent_or (all_items fits_first) o in
    let same = tests_same d k alike in
    let read : clean provisioners ≡ listed =
    list_clean (λ number. in_provisioner) fits_first (λ number. clean_provisioner) (rule name.Provisioners expected.ArrayOrAbsent) array_or refl d k alike in
    let awaited : clean after ≡ (is_some (waits_of k) && waits_fit changes k) =
    list_clean (λ item. in_wait changes) (fits_wait changes) (λ item. clean_wait changes) (rule name.After expected.ArrayOrAbsent) array_or refl d k alike
    ∙ ap (λ (b : Bool). is_met expected.ArrayOrAbsent p && b) (sym (items_both (λ e. is_some (wait_from e)) (has_change_and_step changes) (fits_wait changes) (λ e. refl) p))
    ∙ and_assoc (is_met expected.ArrayOrAbsent p) (is_absent_or (all_items (λ e. is_some (wait_from e))) p) (waits_fit changes k)
    ∙ ap (λ (b : Bool). b && waits_fit changes k) (each_is wait_from p) in
    let parts : List Cleared =
    (inside in_diagnostic name.Warning d, is_some (warning_of k), warning_clean d k alike) ∷ (inside in_failure name.Failed d, is_some (failure_of k), failure_clean d k alike)
    ∷ (provisioners, listed, read) ∷ (violation_findings (step_violations d), tests, clean-violation_findings (step_violations d) refl ∙ same.0)
    ∷ (violation_findings (kind_violations change n d), fits_kind change n k, kind_same change n d k alike)
    ∷ (faults_of (rule name.Skipped expected.FlagOrAbsent ∷ []) d, is_some (flag_of k), flag_clean d k alike)
    ∷ (violation_findings (skipped_violations d), tests_skipped, clean-violation_findings (skipped_violations d) refl ∙ same.1)
    ∷ (inside (in_items (λ number. growth_of_provisioner)) name.Provisioners d, grown_of k, growth_clean d k alike) ∷ (after, is_some (waits_of k) && waits_fit changes k, awaited) ∷ [] in
    let findings : List Finding = joined (faults_of (step_table (is_skipped d)) d) (map (λ (part : Cleared). part.0) parts) in
    let are : clean findings ≡ all_of (own_of k) parts = clean-joined (faults_of (step_table (is_skipped d)) d) (own_of k) parts (own_clean d k alike) in
    let by_itself : ((((((((own_of k && is_some (warning_of k)) && is_some (failure_of k)) && listed) && tests) && is_some (flag_of k)) && tests_skipped) && grown_of k)
    && is_some (waits_of k)) ≡ is_step k =
    members_apart k (is_absent_or (all_items fits_first) o) tests tests_skipped (is_absent_or (all_items is_provisioner) o) (items_both fits_first fits_growth is_provisioner fits_both o)
    ∙ ap (λ (x : Bool). members_of k x tests tests_skipped) (each_fits provisioner_from fits o)
    ∙ reads (flag_of k) (is_skipped k) (states_seconds k) (seconds_of k) (id_of k) (warning_of k) (failure_of k) (provisioners_of k) (waits_of k) tests
    tests_skipped (silent_read (member_of (codes "seconds") k)) (flag_read (member_of (codes "skipped") k)) (tests_read k) in
    let whole : clean (findings ++ ignored step_names d) ≡ fits_step changes change n k =
    clean-then_unread findings step_names d ∙ are
    ∙ against_last ((((own_of k && is_some (warning_of k)) && is_some (failure_of k)) && listed) && tests) (fits_kind change n k) (is_some (flag_of k)) tests_skipped
    (grown_of k) (is_some (waits_of k)) (waits_fit changes k)
    ∙ ap (λ (x : Bool). x && fits_plan changes change n k) by_itself in
    clean-where_suits expected.Step d (findings ++ ignored step_names d)
    ∙ ap (λ (x : Bool). is_some (as_object d) && x) whole
    ∙ ap (λ (x : Bool). x && fits_step changes change n k) (object_alike d k alike)
    ∙ still (is_some (as_object k)) (is_step k) (fits_plan changes change n k) (only_step k)
