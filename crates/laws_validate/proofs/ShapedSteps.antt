-- Steps, apart from their limits and their plan: no rule is broken if and only if a run reads one.
use Rattle.std.proofs.Common.{◌≡◌, ℕ, suc, ◌+◌, ◌<◌, List, [], ◌∷◌, ◌++◌, length, Bool, true, false, not, ◌&&◌, ◌||◌, is_some, Option, Some, None, if◌then◌else◌, refl, sym, ap, ◌∙◌, arith, map}
use Rattle.std.specs.Prelude.{codes, nat_lt}
use Rattle.std.specs.List.{list_all}
use Rattle.std.specs.Option.{option_map, option_map_or}
use Rattle.std.proofs.lemmas.Bool.{lt-ltb}
use Rattle.serde_json.specs.Data.{Data}
use Rattle.serde_json.specs.Find.{as_object}
use Rattle.apply_json.specs.Tree.{◌>>=◌, member_of, text_or, unless_empty}
use Rattle.apply_model.specs.declared.script.diag.Diag.{Diag}
use Rattle.apply_model.specs.declared.script.ending.Ending.{Ending}
use Rattle.apply_model.specs.declared.script.outcome.Outcome.{Outcome}
use Rattle.apply_model.specs.declared.script.provisioner.Provisioner.{Provisioner}
use Rattle.apply_model.specs.Plan.ResourceChange.{ResourceChange}
use Rattle.apply_model.specs.Script.Outcome.{is_failed, is_warned, seconds_of_all}
use Rattle.apply_plan.specs.Script.Entry.{EntryStep, Failure, WaitName, answered_with, diag_or_none, each_of, ending_from, ending_of}
use Rattle.apply_plan.specs.Script.Entry.{failure_or_none, provisioner_from, is_bare, seconds_of, skipped_with, step_from, wait_from}
use Rattle.input_validate.specs.declared.findings.finding.Finding.{Finding}
use Rattle.input_validate.specs.declared.rules.violation.Violation.{Violation}
use Rattle.input_validate.specs.declared.findings.name.Name.TheVariants as name
use Rattle.input_validate.specs.declared.findings.expected.Expected.TheVariants as expected
use Rattle.input_validate.specs.AgainstPlan.{kind_violations}
use Rattle.laws_validate.specs.Laws.{is_bounded}
use Rattle.input_validate.specs.ScriptFindings.{growth_of_provisioner, in_diagnostic, in_failure, in_provisioner, in_step, in_wait, is_skipped, skipped_violations, step_violations, step_names, step_table}
use Rattle.input_validate.specs.Rules.{faults_of, in_items, in_list, inside, items_at, rule, violation_findings, ignored, where_suits}
use Rattle.input_validate.specs.Expectations.{is_met}
use Rattle.laws_validate.proofs.Alike.{Alike, object_alike}
use Rattle.laws_validate.proofs.Clean.{all_items, clean, clean-violation_findings, clean-then_unread, clean-where_suits, is_absent_or, Cleared, all_of, clean-joined, items_both}
use Rattle.laws_validate.proofs.Diagnostics.{clean_wait, fits_wait}
use Rattle.laws_validate.proofs.CleanAgainstPlan.{has_change_and_step}
use Rattle.laws_validate.proofs.Members.{IsCleanBy, array_or, count_same, flag_same, is_there_same, list_clean, non_empty_same}
use Rattle.input_validate.proofs.Options.{and_true}
use Rattle.laws_validate.proofs.Provisioners.{fits, fits_growth, length_read}
use Rattle.laws_validate.proofs.Scripts.{waits_free}
use Rattle.laws_validate.proofs.Shapes.{IsSame, both_same, picked, same_diagnostic, same_failure, same_faults, same_growth, same_inside}
use Rattle.laws_validate.proofs.Shapes.{same_items, same_list, same_picked, same_unread, same_wait, same_where, without}
use Rattle.laws_validate.proofs.ShapedProvisioners.{clean_shaped, first_shaped, is_read, shaped_both, made, same_provisioner, shaped_provisioner}
use Rattle.laws_validate.proofs.Steps.{alone, same_alone, diagnostic_there, failure_there, fit, flag_read, given, id_there}
use Rattle.laws_validate.proofs.Steps.{parts as step_parts, reads as step_reads, silent_read, step_read, timed, untouched}
use Rattle.laws_validate.proofs.Wanted.{each_is, only_object}
use Rattle.laws_validate.proofs.CleanSteps.{failure_clean, failure_of, flag_clean, flag_of, growth_clean, id_of, own_clean}
use Rattle.laws_validate.proofs.CleanSteps.{members_apart, members_of}
use Rattle.laws_validate.proofs.CleanSteps.{provisioners_of, states_seconds, waits_of, warning_clean, warning_of, grown_of, own_of}
use Rattle.laws_validate.proofs.Joined.{joined}

some_is : {A : Type 0} (x y : A) → Some x ≡ Some y → x ≡ y
some_is x y e = cc

-- ---- steps, but for their limits

abbrev pub shaped_step : Data → List Finding
shaped_step d = where_suits expected.Step d
    (faults_of (step_table (is_skipped d)) d
    ++ inside in_diagnostic name.Warning d
    ++ inside in_failure name.Failed d
    ++ in_list (λ number. shaped_provisioner) (rule name.Provisioners expected.ArrayOrAbsent) d
    ++ violation_findings (picked (step_violations d))
    ++ faults_of (rule name.Skipped expected.FlagOrAbsent ∷ []) d
    ++ violation_findings (skipped_violations d)
    ++ inside (in_items (λ number. growth_of_provisioner)) name.Provisioners d
    ++ in_list (λ item. in_wait None) (rule name.After expected.ArrayOrAbsent) d
    ++ ignored step_names d)

pub same_step : (changes : Option (List ResourceChange)) (change : Option ResourceChange) (n : ℕ) → IsSame (in_step changes change n) shaped_step
unfolding in_step
same_step changes change n d =
    let wrong : List Finding = faults_of (step_table (is_skipped d)) d in
    let warning : List Finding = inside in_diagnostic name.Warning d in
    let failed : List Finding = inside in_failure name.Failed d in
    let provisioners : List Finding = in_list (λ number. in_provisioner) (rule name.Provisioners expected.ArrayOrAbsent) d in
    let shaped : List Finding = in_list (λ number. shaped_provisioner) (rule name.Provisioners expected.ArrayOrAbsent) d in
    let violations : List Finding = violation_findings (step_violations d) in
    let short : List Finding = violation_findings (picked (step_violations d)) in
    let kinds : List Finding = violation_findings (kind_violations change n d) in
    let flag : List Finding = faults_of (rule name.Skipped expected.FlagOrAbsent ∷ []) d in
    let skipped : List Finding = violation_findings (skipped_violations d) in
    let growth : List Finding = inside (in_items (λ number. growth_of_provisioner)) name.Provisioners d in
    let after : List Finding = in_list (λ item. in_wait changes) (rule name.After expected.ArrayOrAbsent) d in
    let alone_after : List Finding = in_list (λ item. in_wait None) (rule name.After expected.ArrayOrAbsent) d in
    let rest : List Finding = ignored step_names d in
    let s2 = both_same wrong warning wrong warning (same_faults (step_table (is_skipped d)) d)
    (same_inside in_diagnostic in_diagnostic same_diagnostic name.Warning d) in
    let s3 = both_same (wrong ++ warning) failed (wrong ++ warning) failed s2 (same_inside in_failure in_failure same_failure name.Failed d) in
    let s4 = both_same (wrong ++ warning ++ failed) provisioners (wrong ++ warning ++ failed) shaped s3
    (same_list (λ number. in_provisioner) (λ number. shaped_provisioner) (λ number. same_provisioner) (rule name.Provisioners expected.ArrayOrAbsent) d) in
    let s5 = both_same (wrong ++ warning ++ failed ++ provisioners) violations (wrong ++ warning ++ failed ++ shaped) short s4 (same_picked (step_violations d)) in
    let s6 = without (wrong ++ warning ++ failed ++ provisioners ++ violations) kinds (wrong ++ warning ++ failed ++ shaped ++ short) s5
    (same_picked (kind_violations change n d)) in
    let s7 = both_same (wrong ++ warning ++ failed ++ provisioners ++ violations ++ kinds) flag (wrong ++ warning ++ failed ++ shaped ++ short) flag s6
    (same_faults (rule name.Skipped expected.FlagOrAbsent ∷ []) d) in
    let s8 = both_same (wrong ++ warning ++ failed ++ provisioners ++ violations ++ kinds ++ flag) skipped
    (wrong ++ warning ++ failed ++ shaped ++ short ++ flag) skipped s7
    (same_picked (skipped_violations d)) in
    let s9 = both_same (wrong ++ warning ++ failed ++ provisioners ++ violations ++ kinds ++ flag ++ skipped) growth
    (wrong ++ warning ++ failed ++ shaped ++ short ++ flag ++ skipped) growth s8
    (same_items (λ number. growth_of_provisioner) (λ number. growth_of_provisioner) (λ number. same_growth) name.Provisioners d) in
    let s10 = both_same (wrong ++ warning ++ failed ++ provisioners ++ violations ++ kinds ++ flag ++ skipped ++ growth) after
    (wrong ++ warning ++ failed ++ shaped ++ short ++ flag ++ skipped ++ growth) alone_after s9
    (same_list (λ item. in_wait changes) (λ item. in_wait None) (λ item. same_wait changes) (rule name.After expected.ArrayOrAbsent) d) in
    same_where expected.Step d (wrong ++ warning ++ failed ++ provisioners ++ violations ++ kinds ++ flag ++ skipped ++ growth ++ after ++ rest)
    (wrong ++ warning ++ failed ++ shaped ++ short ++ flag ++ skipped ++ growth ++ alone_after ++ rest)
    (both_same (wrong ++ warning ++ failed ++ provisioners ++ violations ++ kinds ++ flag ++ skipped ++ growth ++ after) rest
    (wrong ++ warning ++ failed ++ shaped ++ short ++ flag ++ skipped ++ growth ++ alone_after) rest s10 (same_unread step_names d))

opened : {A B : Type 0} (f : A → B) (o : Option A) (y : B) → option_map f o ≡ Some y → (x : A) × (o ≡ Some x) × (f x ≡ y)
opened f None y e = absurd cc
opened f (Some x) y e = (x, refl, some_is (f x) y e)

-- a step with the same statements, within the limits
abbrev tiny : Provisioner
tiny = made [] 0 [] None false

abbrev small : List Provisioner → List Provisioner
small [] = []
small (p ∷ ps) = tiny ∷ []

abbrev quick : Option ℕ → Option ℕ
quick s = option_map (λ (n : ℕ). 0) s

quick_there : (s : Option ℕ) → is_some (quick s) ≡ is_some s
quick_there None = refl
quick_there (Some n) = refl

some_small : (l : List Provisioner) → nat_lt 0 (length (small l)) ≡ nat_lt 0 (length l)
some_small [] = refl
some_small (p ∷ ps) = sym (lt-ltb 0 (length (p ∷ ps)) (let l : 0 < suc (length ps) = omega arith in l))

small_fits : (l : Option (List Provisioner)) → option_map_or (list_all fits) (option_map small l) false ≡ is_some l
small_fits None = refl
small_fits (Some []) = refl
small_fits (Some (p ∷ ps)) = refl

small_bounded : (r : Ending) (l : List Provisioner) → is_bounded (record { seconds = 0; provisioners = small l; result = r; after = [] }) ≡ true
small_bounded r [] = refl
small_bounded r (p ∷ ps) = refl

abbrev step_of : List WaitName → Option Outcome → EntryStep
step_of after outcome = record { outcome = outcome; after = after }

by_skip : (b : Bool) (after : List WaitName)
    → fit ((let o : Option (Option Outcome) = if b then None else Some None in o) >>= λ o. Some (step_of after o))
    ≡ is_some ((let o : Option (Option Outcome) = if b then None else Some None in o) >>= λ o. Some (step_of after o))
by_skip true after = refl
by_skip false after = refl

by_answer : (b : Bool) (x y : Outcome) (after : List WaitName) → is_bounded x ≡ true
    → fit (option_map (λ (z : Outcome). Some z) (let o : Option Outcome = if b then None else Some x in o) >>= λ o. Some (step_of after o))
    ≡ is_some (option_map (λ (z : Outcome). Some z) (let o : Option Outcome = if b then None else Some y in o) >>= λ o. Some (step_of after o))
by_answer true x y after is = refl
by_answer false x y after is = is

ends_small : (skipped reported : Bool) (s : Option ℕ) (r : Ending) (l : List Provisioner) (after : List WaitName)
    → fit ((if skipped then skipped_with reported r (small l) else answered_with (quick s) r (small l)) >>= λ o. Some (step_of after o))
    ≡ is_some ((if skipped then skipped_with reported r l else answered_with s r l) >>= λ o. Some (step_of after o))
ends_small true reported s r l after =
    ap (λ (b : Bool). fit ((let o : Option (Option Outcome) = if reported || (not (is_bare r) || b) then None else Some None in o) >>= λ o.
    Some (step_of after o))) (some_small l)
    ∙ by_skip (reported || (not (is_bare r) || nat_lt 0 (length l))) after
ends_small false reported None r l after = refl
ends_small false reported (Some n) r l after =
    let x : Outcome = record { seconds = 0; provisioners = small l; result = r; after = [] } in
    ap (λ (b : Bool). fit (option_map (λ (z : Outcome). Some z)
    (let o : Option Outcome = if (is_failed r || is_warned r) && b then None else Some x in o) >>= λ o. Some (step_of after o))) (some_small l)
    ∙ by_answer ((is_failed r || is_warned r) && nat_lt 0 (length l)) x (record { seconds = n; provisioners = l; result = r; after = [] }) after
    (small_bounded r l)

shrunk : (q : Option Bool) (reported : Bool) (s : Option ℕ) (e : Option Ending) (ps : Option (List Provisioner)) (a : Option (List WaitName))
    → fit (q >>= λ skipped. e >>= λ r. option_map small ps >>= λ l. a >>= λ ws.
    (if skipped then skipped_with reported r l else answered_with (quick s) r l) >>= λ o. Some (step_of ws o))
    ≡ is_some (q >>= λ skipped. e >>= λ r. ps >>= λ l. a >>= λ ws. (if skipped then skipped_with reported r l else answered_with s r l) >>= λ o.
    Some (step_of ws o))
shrunk None reported s e ps a = refl
shrunk (Some skipped) reported s None ps a = refl
shrunk (Some skipped) reported s (Some r) None a = refl
shrunk (Some skipped) reported s (Some r) (Some l) None = refl
shrunk (Some skipped) reported s (Some r) (Some l) (Some ws) = ends_small skipped reported s r l ws

-- none of the tests of a step reports a broken rule
unfoldable clear : (failed id warning : Bool) (count : ℕ) → Bool
clear failed id warning count = not (failed && id) && (not (failed && warning) && (not (failed && nat_lt 0 count) && true))

same_clear : (f g i j w v : Bool) (c d : ℕ) → f ≡ g → i ≡ j → w ≡ v → c ≡ d → clear f i w c ≡ clear g j v d
same_clear f g i j w v c d e1 e2 e3 e4 = cc

clear_small : (f i w : Bool) (s : Option ℕ) (l : List Provisioner)
    → clear f i w (length l) ≡ untouched f i w (length (small l)) (given (quick s) + seconds_of_all (small l))
unfolding clear untouched
clear_small f i w None [] = refl
clear_small f i w (Some n) [] = refl
clear_small f i w None (p ∷ ps) = ap (λ (b : Bool). not (f && i) && (not (f && w) && (not (f && b) && true))) (sym (some_small (p ∷ ps)))
clear_small f i w (Some n) (p ∷ ps) = ap (λ (b : Bool). not (f && i) && (not (f && w) && (not (f && b) && true))) (sym (some_small (p ∷ ps)))

alone_small : (x t i w f : Bool) (l : List Provisioner) → alone x t i w f (length l) ≡ alone x t i w f (length (small l))
unfolding alone
alone_small x t i w f l = ap (λ (b : Bool). not (x && t) && (not (x && i) && (not (x && w) && (not (x && f) && (not (x && b) && true))))) (sym (some_small l))

abbrev none_holds : List Violation → Bool
none_holds violations = list_all (λ violation. not violation.holds) violations

tests_read : (k : Data) (t : List ℕ) (w : Option Diag) (f : Option Failure) (l : List Provisioner) → text_or [] (member_of (codes "id") k) ≡ Some t
    → diag_or_none (member_of (codes "warning") k) ≡ Some w → failure_or_none (member_of (codes "failed") k) ≡ Some f
    → each_of provisioner_from (member_of (codes "provisioners") k) ≡ Some l
    → (none_holds (picked (step_violations k)) ≡ clear (is_some f) (is_some (unless_empty t)) (is_some w) (length l))
    × (none_holds (skipped_violations k) ≡ alone (is_skipped k) (is_some (member_of (codes "seconds") k)) (is_some (unless_empty t)) (is_some w)
    (is_some f) (length l))
unfolding clear alone
tests_read k t w f l et ew ef el =
    let count : length (items_at name.Provisioners k) ≡ length l = length_read provisioner_from (member_of (codes "provisioners") k) l el in
    let failed = failure_there (member_of (codes "failed") k) f ef in
    let id = id_there (member_of (codes "id") k) t et in
    let warning = diagnostic_there (member_of (codes "warning") k) w ew in (
      same_clear _ _ _ _ _ _ _ _ failed id warning count,
      same_alone (is_skipped k) (is_skipped k) (is_some (member_of (codes "seconds") k))
          (is_some (member_of (codes "seconds") k)) _ _ _ _ _ _ _ _ refl refl id warning failed count,
    )

-- the same for the other tree
tests_same : (d k : Data) → Alike d k → (none_holds (picked (step_violations d)) ≡ none_holds (picked (step_violations k))) ×
    (none_holds (skipped_violations d) ≡ none_holds (skipped_violations k))
unfolding clear alone
tests_same d k a =
    let count = count_same name.Provisioners refl d k a in
    let failed = is_there_same (codes "failed") refl d k a in
    let warning = is_there_same (codes "warning") refl d k a in
    let id = ap (λ (o : Option (List ℕ)). is_some o) (non_empty_same (codes "id") refl d k a) in (
      same_clear _ _ _ _ _ _ _ _ failed id warning count,
      same_alone _ _ _ _ _ _ _ _ _ _ _ _ (flag_same (codes "skipped") refl d k a) (is_there_same (codes "seconds") refl d k a) id warning failed count,
    )

-- a run reads the members of a step if and only if they have no error
step_reads_shape : (q : Option Bool) (skipped reported : Bool) (s : Option ℕ) (id : Option (List ℕ)) (warning : Option (Option Diag))
    (failed : Option (Option Failure)) (ps : Option (List Provisioner)) (after : Option (List WaitName))
    (tests tests_skipped : Bool)
    → (reported ≡ false → s ≡ None)
    → ((b : Bool) → q ≡ Some b → skipped ≡ b)
    → ((t : List ℕ) (w : Option Diag) (f : Option Failure) (l : List Provisioner) → id ≡ Some t → warning ≡ Some w → failed ≡ Some f → ps ≡ Some l
    → (tests ≡ clear (is_some f) (is_some (unless_empty t)) (is_some w) (length l))
    × (tests_skipped ≡ alone skipped reported (is_some (unless_empty t)) (is_some w) (is_some f) (length l)))
    → step_parts (timed skipped s) (is_some id) (is_some warning) (is_some failed) (is_some ps) tests (is_some q) tests_skipped (is_some after)
    ≡ is_some (step_read q reported s id warning failed ps after)
step_reads_shape q skipped reported s id warning failed ps after tests tests_skipped none flag are =
    ap (λ (b : Bool). step_parts (skipped || b) (is_some id) (is_some warning) (is_some failed) (is_some ps) tests (is_some q) tests_skipped
    (is_some after)) (sym (quick_there s))
    ∙ ap (λ (b : Bool). step_parts (timed skipped (quick s)) (is_some id) (is_some warning) (is_some failed) b tests (is_some q) tests_skipped
    (is_some after)) (sym (small_fits ps))
    ∙ step_reads q skipped reported (quick s) id warning failed (option_map small ps) after tests tests_skipped (λ e. ap quick (none e)) flag
    (λ t w f l et ew ef el.
    let it = opened small ps l el in
    let both = are t w f it.0 et ew ef it.1 in (
      both.0 ∙ clear_small (is_some f) (is_some (unless_empty t)) (is_some w) s it.0
          ∙ ap (λ (x : List Provisioner). untouched (is_some f) (is_some (unless_empty t)) (is_some w) (length x)
          (given (quick s) + seconds_of_all x)) it.2,
      both.1 ∙ alone_small skipped reported (is_some (unless_empty t)) (is_some w) (is_some f) it.0
          ∙ ap (λ (x : List Provisioner). alone skipped reported (is_some (unless_empty t)) (is_some w) (is_some f) (length x)) it.2,
    ))
    ∙ shrunk q reported s (id >>= λ t. warning >>= λ w. failed >>= λ f. ending_from (unless_empty t) w f) ps after

-- what is no object is no step
only_step : (k : Data) → (is_some (as_object k) && is_some (step_from k)) ≡ is_some (step_from k)
unfolding step_from ending_of
only_step k = only_object (λ it. is_some (step_from it)) refl (λ b. refl) (λ n. refl) (λ s. refl) (λ ds. refl) k

pub clean_shaped_step : IsCleanBy shaped_step (λ k. is_some (step_from k))
unfolding step_from ending_of
clean_shaped_step d k alike =
    let provisioners : List Finding = in_list (λ number. shaped_provisioner) (rule name.Provisioners expected.ArrayOrAbsent) d in
    let after : List Finding = in_list (λ item. in_wait None) (rule name.After expected.ArrayOrAbsent) d in
    let o : Option Data = member_of (codes "provisioners") k in
    let p : Option Data = member_of (codes "after") k in
    let tests : Bool = none_holds (picked (step_violations k)) in
    let tests_skipped : Bool = none_holds (skipped_violations k) in
    let listed : Bool = is_met expected.ArrayOrAbsent o && is_absent_or (all_items first_shaped) o in
    let same = tests_same d k alike in
    let read : clean provisioners ≡ listed =
    list_clean (λ number. shaped_provisioner) first_shaped (λ number. clean_shaped) (rule name.Provisioners expected.ArrayOrAbsent) array_or refl d k alike in
    let awaited : clean after ≡ is_some (waits_of k) =
    list_clean (λ item. in_wait None) (fits_wait None) (λ item. clean_wait None) (rule name.After expected.ArrayOrAbsent) array_or refl d k alike
    ∙ ap (λ (b : Bool). is_met expected.ArrayOrAbsent p && b) (sym (items_both (λ e. is_some (wait_from e)) (has_change_and_step None) (fits_wait None) (λ e. refl) p))
    ∙ ap (λ (b : Bool). is_met expected.ArrayOrAbsent p && (is_absent_or (all_items (λ e. is_some (wait_from e))) p && b)) (waits_free p)
    ∙ ap (λ (b : Bool). is_met expected.ArrayOrAbsent p && b) (and_true (is_absent_or (all_items (λ e. is_some (wait_from e))) p))
    ∙ each_is wait_from p in
    let parts : List Cleared =
    (inside in_diagnostic name.Warning d, is_some (warning_of k), warning_clean d k alike) ∷ (inside in_failure name.Failed d, is_some (failure_of k), failure_clean d k alike)
    ∷ (provisioners, listed, read) ∷ (violation_findings (picked (step_violations d)), tests, clean-violation_findings (picked (step_violations d)) refl ∙ same.0)
    ∷ (faults_of (rule name.Skipped expected.FlagOrAbsent ∷ []) d, is_some (flag_of k), flag_clean d k alike)
    ∷ (violation_findings (skipped_violations d), tests_skipped, clean-violation_findings (skipped_violations d) refl ∙ same.1)
    ∷ (inside (in_items (λ number. growth_of_provisioner)) name.Provisioners d, grown_of k, growth_clean d k alike) ∷ (after, is_some (waits_of k), awaited) ∷ [] in
    let findings : List Finding = joined (faults_of (step_table (is_skipped d)) d) (map (λ (part : Cleared). part.0) parts) in
    let are : clean findings ≡ all_of (own_of k) parts = clean-joined (faults_of (step_table (is_skipped d)) d) (own_of k) parts (own_clean d k alike) in
    let by_itself : all_of (own_of k) parts ≡ is_some (step_from k) =
    members_apart k (is_absent_or (all_items first_shaped) o) tests tests_skipped (is_absent_or (all_items is_read) o) (items_both first_shaped fits_growth is_read shaped_both o)
    ∙ ap (λ (x : Bool). members_of k x tests tests_skipped) (each_is provisioner_from o)
    ∙ step_reads_shape (flag_of k) (is_skipped k) (states_seconds k) (seconds_of k) (id_of k) (warning_of k) (failure_of k) (provisioners_of k) (waits_of k) tests
    tests_skipped (silent_read (member_of (codes "seconds") k)) (flag_read (member_of (codes "skipped") k)) (tests_read k) in
    clean-where_suits expected.Step d (findings ++ ignored step_names d)
    ∙ ap (λ (x : Bool). is_some (as_object d) && x) (clean-then_unread findings step_names d ∙ are ∙ by_itself)
    ∙ ap (λ (x : Bool). x && is_some (step_from k)) (object_alike d k alike)
    ∙ only_step k
