-- Provisioners, apart from how many output items they have: no rule is broken if and only if a run
-- reads one.
use Rattle.std.proofs.Common.{◌≡◌, ℕ, List, [], ◌∷◌, ◌++◌, Bool, true, false, ◌&&◌, is_some, Option, Some, None, refl, sym, ap, ◌∙◌}
use Rattle.std.specs.Prelude.{codes}
use Rattle.serde_json.specs.Data.{Data}
use Rattle.serde_json.specs.Find.{as_object, as_str}
use Rattle.apply_json.specs.Tree.{◌>>=◌, member_of, non_empty_text_of, unless_empty}
use Rattle.apply_model.specs.declared.script.diag.Diag.{Diag}
use Rattle.apply_model.specs.declared.script.provisioner.Provisioner.{Provisioner}
use Rattle.apply_model.specs.declared.script.timed_text.TimedText.{TimedText}
use Rattle.apply_plan.specs.Script.Entry.{OutputItem, diag_or_none, each_of, may_fail_or_not, output_from, provisioner_from, seconds_of, timed_outputs}
use Rattle.input_validate.specs.declared.findings.finding.Finding.{Finding}
use Rattle.input_validate.specs.declared.findings.name.Name.TheVariants as name
use Rattle.input_validate.specs.declared.findings.expected.Expected.TheVariants as expected
use Rattle.input_validate.specs.ScriptFindings.{in_diagnostic, in_provisioner, provisioner_violation, provisioner_names, provisioner_table, whole_at}
use Rattle.input_validate.specs.Rules.{faults_of, in_list, inside, items_at, rule, violation_findings, unless_suits, ignored, where_suits}
use Rattle.laws_validate.proofs.Alike.{object_alike}
use Rattle.laws_validate.proofs.Clean.{appended, clean-then_unread, clean-where_suits}
use Rattle.laws_validate.proofs.Members.{IsCleanBy}
use Rattle.input_validate.proofs.Options.{and_comm, and_false}
use Rattle.laws_validate.proofs.Outputs.{are_shaped, come_in_time}
use Rattle.laws_validate.proofs.Provisioners.{outputs_come, fits_growth, named_clean, output_clean, failed_clean}
use Rattle.laws_validate.proofs.Shapes.{IsSame, both_same, same_diagnostic, same_faults, same_inside, same_list, same_picked, same_unless, same_unread, same_where, without}
use Rattle.laws_validate.proofs.Wanted.{needs_object}

-- ---- provisioners, but for how much they put out

abbrev pub shaped_provisioner : Data → List Finding
shaped_provisioner d = where_suits expected.Provisioner d
    (faults_of provisioner_table d
    ++ in_list (λ number. unless_suits expected.Output) (rule name.Output expected.ArrayOrAbsent) d
    ++ inside in_diagnostic name.Failed d
    ++ ignored provisioner_names d)

pub same_provisioner : IsSame in_provisioner shaped_provisioner
unfolding in_provisioner
same_provisioner d =
    let wrong : List Finding = faults_of provisioner_table d in
    let output : List Finding = in_list (λ number. unless_suits expected.Output) (rule name.Output expected.ArrayOrAbsent) d in
    let violations : List Finding = violation_findings (provisioner_violation d ∷ []) in
    let failed : List Finding = inside in_diagnostic name.Failed d in
    let rest : List Finding = ignored provisioner_names d in
    same_where expected.Provisioner d (wrong ++ output ++ violations ++ failed ++ rest) (wrong ++ output ++ failed ++ rest)
    (both_same (wrong ++ output ++ violations ++ failed) rest (wrong ++ output ++ failed) rest
    (both_same (wrong ++ output ++ violations) failed (wrong ++ output) failed
    (without (wrong ++ output) violations (wrong ++ output)
    (both_same wrong output wrong output (same_faults provisioner_table d)
    (same_list (λ number. unless_suits expected.Output) (λ number. unless_suits expected.Output) (λ number. same_unless expected.Output)
    (rule name.Output expected.ArrayOrAbsent) d))
    (same_picked (provisioner_violation d ∷ [])))
    (same_inside in_diagnostic in_diagnostic same_diagnostic name.Failed d))
    (same_unread provisioner_names d))

abbrev pub made : List ℕ → ℕ → List TimedText → Option Diag → Bool → Provisioner
made name seconds output failed may_fail = record { name = name; seconds = seconds; output = output; failed = failed; may_fail = may_fail }

abbrev members_shaped : (name : Option (List ℕ)) (seconds : Option ℕ) (shaped : Bool) (failed : Option (Option Diag)) → Bool
members_shaped name seconds shaped failed = ((is_some name && is_some seconds) && shaped) && is_some failed

unfoldable pub first_shaped : Data → Bool
first_shaped k =
    members_shaped (non_empty_text_of (codes "provisioner") k) (seconds_of k) (are_shaped (member_of (codes "output") k))
    (diag_or_none (member_of (codes "failed") k))

pub clean_shaped : IsCleanBy shaped_provisioner first_shaped
unfolding first_shaped
clean_shaped d k alike =
    let wrong : List Finding = faults_of provisioner_table d in
    let output : List Finding = in_list (λ number. unless_suits expected.Output) (rule name.Output expected.ArrayOrAbsent) d in
    let failed : List Finding = inside in_diagnostic name.Failed d in
    let shaped : Bool = are_shaped (member_of (codes "output") k) in
    let failed_read : Option (Option Diag) = diag_or_none (member_of (codes "failed") k) in
    let fits : Bool = members_shaped (non_empty_text_of (codes "provisioner") k) (seconds_of k) shaped failed_read in
    clean-where_suits expected.Provisioner d (wrong ++ output ++ failed ++ ignored provisioner_names d)
    ∙ ap (λ (x : Bool). is_some (as_object d) && x)
    (clean-then_unread (wrong ++ output ++ failed) provisioner_names d
    ∙ appended (wrong ++ output) failed _ _ (appended wrong output _ _ (named_clean d k alike) (output_clean d k alike)) (failed_clean d k alike))
    ∙ ap (λ (x : Bool). x && fits) (object_alike d k alike)
    ∙ needs_object (codes "provisioner") k fits
    (λ none. ap (λ (o : Option Data). members_shaped (o >>= as_str >>= unless_empty) (seconds_of k) shaped failed_read) none)

in_order : (shaped failed may_fail timely : Bool) → ((shaped && failed) && (may_fail && timely)) ≡ (failed && ((shaped && timely) && may_fail))
in_order false failed may_fail timely = sym (and_false failed)
in_order true false may_fail timely = refl
in_order true true may_fail timely = and_comm may_fail timely

reads_output : (n : List ℕ) (s : ℕ) (f : Option Diag) (output : Option (List TimedText)) (may_fail : Option Bool)
    → (is_some output && is_some may_fail) ≡ is_some (output >>= λ o. may_fail >>= λ m. Some (made n s o f m))
reads_output n s f None may_fail = refl
reads_output n s f (Some o) None = refl
reads_output n s f (Some o) (Some m) = refl

one_by_one : (items : Option (List OutputItem)) (f : List OutputItem → Option (List TimedText)) (g : List TimedText → Option Provisioner)
    → (items >>= f >>= g) ≡ (items >>= λ i. f i >>= g)
one_by_one None f g = refl
one_by_one (Some i) f g = refl

reads : (name : Option (List ℕ)) (seconds : Option ℕ) (failed : Option (Option Diag)) (items : Option (List OutputItem)) (may_fail : Option Bool)
    (shaped timely : Bool)
    → ((s : ℕ) → seconds ≡ Some s → (shaped && timely) ≡ is_some (items >>= timed_outputs s))
    → (members_shaped name seconds shaped failed && (is_some may_fail && timely))
    ≡ is_some (name >>= λ n. seconds >>= λ s. failed >>= λ f. items >>= λ i. timed_outputs s i >>= λ o. may_fail >>= λ m. Some (made n s o f m))
reads None seconds failed items may_fail shaped timely come = refl
reads (Some n) None failed items may_fail shaped timely come = refl
reads (Some n) (Some s) None items may_fail shaped timely come = in_order shaped false (is_some may_fail) timely
reads (Some n) (Some s) (Some f) items may_fail shaped timely come =
    in_order shaped true (is_some may_fail) timely
    ∙ ap (λ (b : Bool). b && is_some may_fail) (come s refl)
    ∙ reads_output n s f (items >>= timed_outputs s) may_fail
    ∙ ap (λ (p : Option Provisioner). is_some p) (one_by_one items (timed_outputs s) (λ o. may_fail >>= λ m. Some (made n s o f m)))

pub shaped_both : (k : Data) → (first_shaped k && fits_growth k) ≡ is_some (provisioner_from k)
unfolding provisioner_from first_shaped
shaped_both k =
    let o : Option Data = member_of (codes "output") k in
    reads (non_empty_text_of (codes "provisioner") k) (seconds_of k) (diag_or_none (member_of (codes "failed") k)) (each_of output_from o)
    (may_fail_or_not (member_of (codes "on_failure") k)) (are_shaped o) (come_in_time (whole_at name.Seconds k) None (items_at name.Output k))
    (outputs_come k)

abbrev pub is_read : Data → Bool
is_read k = is_some (provisioner_from k)
