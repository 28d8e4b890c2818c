-- Diagnostics, failures and items of `after` have no error if and only if a run reads them.
use Rattle.std.proofs.Common.{◌≡◌, ℕ, List, [], ◌∷◌, ◌++◌, Bool, true, false, not, ◌&&◌, is_some, Option, Some, None, refl, sym, ap, ◌∙◌}
use Rattle.std.specs.Prelude.{codes}
use Rattle.serde_json.specs.Data.{Data, null, boolean, number, string, array, object}
use Rattle.serde_json.specs.Find.{as_object, as_str}
use Rattle.apply_json.specs.Tree.{◌>>=◌, member_of, text_of, text_or, unless_empty}
use Rattle.apply_model.specs.declared.script.diag.Diag.{Diag}
use Rattle.apply_model.specs.Plan.ResourceChange.{ResourceChange}
use Rattle.apply_plan.specs.Script.Entry.{Failure, WaitName, diag_from, diag_or_none, failure_from, failure_or_none, number_or_none, object_or_none, only_warns_or_not, wait_from, wait_of_members}
use Rattle.input_validate.specs.declared.findings.finding.Finding.{Finding}
use Rattle.input_validate.specs.declared.findings.name.Name.TheVariants as name
use Rattle.input_validate.specs.declared.findings.expected.Expected.TheVariants as expected
use Rattle.input_validate.specs.declared.rules.rule.MemberRule.{MemberRule}
use Rattle.input_validate.specs.AgainstPlan.{change_at, object_named, missing_step_violation, unknown_violations}
use Rattle.input_validate.specs.ScriptFindings.{diagnostic_names, diagnostic_table, failure_names, failure_table, in_diagnostic, in_failure, in_wait, wait_names, wait_table, whole_at}
use Rattle.input_validate.specs.Rules.{faults_of, violation_findings, member_at, ignored}
use Rattle.input_validate.specs.Expectations.{is_met}
use Rattle.laws_validate.proofs.Clean.{appended, clean, clean-faults_of, clean-then_unread, clean-where_suits, is_absent_or}
use Rattle.laws_validate.proofs.Alike.{Alike, met_own, object_alike}
use Rattle.laws_validate.proofs.CleanAgainstPlan.{clean_unknown, has_change_and_step, is_unknown, lacks_same, lacks_step, no_step, unknown_same}
use Rattle.laws_validate.proofs.Members.{IsCleanBy, severity_there, text_or_there, text_there, whole_or_there}
use Rattle.laws_validate.proofs.Wanted.{needs_object}
use Rattle.input_validate.proofs.Options.{and_assoc, and_comm, and_true, some_map}

diag_reads : (s t : Option (List ℕ)) (r n : Option (Option (List ℕ)))
    → is_some (s >>= λ x. t >>= λ y. r >>= λ z. n >>= λ w. Some (let q : Diag = record { summary = x; detail = y; range = z; snippet = w } in q))
    ≡ (is_some s && (is_some t && (is_some r && (is_some n && true))))
diag_reads None t r n = refl
diag_reads (Some x) None r n = refl
diag_reads (Some x) (Some y) None n = refl
diag_reads (Some x) (Some y) (Some z) None = refl
diag_reads (Some x) (Some y) (Some z) (Some w) = refl

four : {a b c e a1 b1 c1 e1 : Bool} → a ≡ a1 → b ≡ b1 → c ≡ c1 → e ≡ e1 → (a && (b && (c && (e && true)))) ≡ (a1 && (b1 && (c1 && (e1 && true))))
four ea eb ec ee = cc

-- two members
pub two : (one other : MemberRule) (d : Data)
    → clean (faults_of (one ∷ other ∷ []) d) ≡ (is_met one.expected (member_at one.name d) && is_met other.expected (member_at other.name d))
two one other d =
    clean-faults_of (one ∷ other ∷ []) d
    ∙ ap (λ (b : Bool). is_met one.expected (member_at one.name d) && b) (and_true (is_met other.expected (member_at other.name d)))

pub clean_diagnostic : IsCleanBy in_diagnostic (λ k. is_some (diag_from k))
unfolding in_diagnostic
clean_diagnostic d k a =
    let summary : Option (List ℕ) = text_of (codes "summary") k in
    let detail : Option (List ℕ) = text_or [] (member_of (codes "detail") k) in
    let range : Option (Option (List ℕ)) = object_or_none (member_of (codes "range") k) in
    let snippet : Option (Option (List ℕ)) = object_or_none (member_of (codes "snippet") k) in
    let read : Bool = is_some summary && (is_some detail && (is_some range && (is_some snippet && true))) in
    let wrong : clean (faults_of diagnostic_table d) ≡ read =
    clean-faults_of diagnostic_table d
    ∙ four (text_there (codes "summary") refl d k a) (text_or_there (codes "detail") refl d k a) (met_own (codes "range") refl d k a) (met_own (codes "snippet") refl d k a) in
    clean-where_suits expected.Diagnostic d (faults_of diagnostic_table d ++ ignored diagnostic_names d)
    ∙ ap (λ (b : Bool). is_some (as_object d) && b) (clean-then_unread (faults_of diagnostic_table d) diagnostic_names d ∙ wrong)
    ∙ ap (λ (b : Bool). b && read) (object_alike d k a)
    ∙ needs_object (codes "summary") k read
    (λ none. ap (λ (o : Option Data). is_some (o >>= as_str) && (is_some detail && (is_some range && (is_some snippet && true)))) none)
    ∙ sym (diag_reads summary detail range snippet)

-- the same for a value that may be absent
pub absent_or_diagnostic : (o : Option Data) → is_absent_or (λ d. is_some (diag_from d)) o ≡ is_some (diag_or_none o)
absent_or_diagnostic None = refl
absent_or_diagnostic (Some d) = sym (some_map (λ (x : Diag). Some x) (diag_from d))

-- ---- failures

failure_reads : (diag : Option Diag) (warns : Option Bool)
    → is_some (diag >>= λ x. warns >>= λ y. Some (let f : Failure = record { diag = x; only_warns = y } in f)) ≡ (is_some diag && is_some warns)
failure_reads None warns = refl
failure_reads (Some x) None = refl
failure_reads (Some x) (Some y) = refl

five : {a b c e f a1 b1 c1 e1 f1 : Bool} → a ≡ a1 → b ≡ b1 → c ≡ c1 → e ≡ e1 → f ≡ f1 → (a && (b && (c && (e && (f && true))))) ≡ (a1 && (b1 && (c1 && (e1 && (f1 && true)))))
five ea eb ec ee ef = cc

-- the third of them last
third_last : (a b c e f : Bool) → (a && (b && (c && (e && (f && true))))) ≡ ((a && (b && (e && (f && true)))) && c)
third_last false b c e f = refl
third_last true false c e f = refl
third_last true true c e f = and_comm c (e && (f && true))

pub clean_failure : IsCleanBy in_failure (λ k. is_some (failure_from k))
unfolding in_failure
clean_failure d k a =
    let summary : Option (List ℕ) = text_of (codes "summary") k in
    let detail : Option (List ℕ) = text_or [] (member_of (codes "detail") k) in
    let warns : Option Bool = only_warns_or_not (member_of (codes "severity") k) in
    let range : Option (Option (List ℕ)) = object_or_none (member_of (codes "range") k) in
    let snippet : Option (Option (List ℕ)) = object_or_none (member_of (codes "snippet") k) in
    let others : Bool = is_some detail && (is_some range && (is_some snippet && true)) in
    let wrong : clean (faults_of failure_table d) ≡ ((is_some summary && others) && is_some warns) =
    clean-faults_of failure_table d
    ∙ five (text_there (codes "summary") refl d k a) (text_or_there (codes "detail") refl d k a) (severity_there (codes "severity") refl d k a) (met_own (codes "range") refl d k a) (met_own (codes "snippet") refl d k a)
    ∙ third_last (is_some summary) (is_some detail) (is_some warns) (is_some range) (is_some snippet) in
    clean-where_suits expected.Diagnostic d (faults_of failure_table d ++ ignored failure_names d)
    ∙ ap (λ (b : Bool). is_some (as_object d) && b) (clean-then_unread (faults_of failure_table d) failure_names d ∙ wrong)
    ∙ ap (λ (b : Bool). b && ((is_some summary && others) && is_some warns)) (object_alike d k a)
    ∙ needs_object (codes "summary") k ((is_some summary && others) && is_some warns)
    (λ none. ap (λ (o : Option Data). (is_some (o >>= as_str) && others) && is_some warns) none)
    ∙ ap (λ (b : Bool). b && is_some warns) (sym (diag_reads summary detail range snippet))
    ∙ sym (failure_reads (diag_from k) warns)

-- the same for a value that may be absent
pub absent_or_failure : (o : Option Data) → is_absent_or (λ d. is_some (failure_from d)) o ≡ is_some (failure_or_none o)
absent_or_failure None = refl
absent_or_failure (Some d) = sym (some_map (λ (x : Failure). Some x) (failure_from d))

-- ---- items of `after`

wait_reads : (a deposed : Option (List ℕ)) (step : Option (Option ℕ))
    → is_some (a >>= λ x. deposed >>= λ y. step >>= λ z. Some (let w : WaitName = record { address = x; deposed = unless_empty y; step = z } in w))
    ≡ (is_some a && (is_some deposed && (is_some step && true)))
wait_reads None deposed step = refl
wait_reads (Some x) None step = refl
wait_reads (Some x) (Some y) None = refl
wait_reads (Some x) (Some y) (Some z) = refl

three : {a b c a1 b1 c1 : Bool} → a ≡ a1 → b ≡ b1 → c ≡ c1 → (a && (b && (c && true))) ≡ (a1 && (b1 && (c1 && true)))
three ea eb ec = cc

members_of_wait : (changes : Option (List ResourceChange)) (d k : Data) → Alike d k
    → clean (faults_of wait_table d ++ violation_findings (unknown_violations changes d) ++ violation_findings (missing_step_violation (change_at changes d) (whole_at name.Step d) ∷ []) ++ ignored wait_names d)
    ≡ (is_some (wait_of_members k) && has_change_and_step changes k)
unfolding wait_of_members
members_of_wait changes d k a =
    let wrong : List Finding = faults_of wait_table d in
    let unknown : List Finding = violation_findings (unknown_violations changes d) in
    let lacking : List Finding = violation_findings (missing_step_violation (change_at changes d) (whole_at name.Step d) ∷ []) in
    let read : clean wrong ≡ is_some (wait_of_members k) =
    clean-faults_of wait_table d
    ∙ three (text_there (codes "address") refl d k a) (text_or_there (codes "deposed") refl d k a) (whole_or_there (codes "step") refl d k a)
    ∙ sym (wait_reads (text_of (codes "address") k) (text_or [] (member_of (codes "deposed") k)) (number_or_none (member_of (codes "step") k))) in
    clean-then_unread (wrong ++ unknown ++ lacking) wait_names d
    ∙ appended (wrong ++ unknown) lacking _ _ (appended wrong unknown _ _ read (unknown_same changes d k a)) (lacks_same changes d k a)
    ∙ sym (and_assoc (is_some (wait_of_members k)) (not (is_unknown changes (object_named k))) (not (lacks_step changes k)))

-- an item that a run reads, and whose change and step are there
abbrev pub fits_wait : Option (List ResourceChange) → Data → Bool
fits_wait changes k = is_some (wait_from k) && has_change_and_step changes k

of_text : (changes : Option (List ResourceChange)) (d : Data) (b : Bool) → lacks_step changes d ≡ b → b ≡ false
    → clean (violation_findings (unknown_violations changes d)) ≡ has_change_and_step changes d
of_text changes d b lacks none =
    clean_unknown changes d
    ∙ sym (and_true (not (is_unknown changes (object_named d))))
    ∙ ap (λ (x : Bool). not (is_unknown changes (object_named d)) && not x) (sym (lacks ∙ none))

pub clean_wait : (changes : Option (List ResourceChange)) → IsCleanBy (in_wait changes) (fits_wait changes)
unfolding in_wait wait_of_members
clean_wait changes null k a = rw a refl
clean_wait changes (boolean b) k a = rw a refl
clean_wait changes (number n) k a = rw a refl
clean_wait changes (string s) k a = rw a (of_text changes (string s) _ refl (no_step (change_at changes (string s))))
clean_wait changes (array ds) k a = rw (a.1) refl
clean_wait changes (object ms) k a =
    let other : k ≡ object a.0 = a.1 in
    members_of_wait changes (object ms) k a ∙ rw other refl
