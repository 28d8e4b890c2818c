-- A provisioner has no error if and only if a run reads it and it has no more output items than
-- allowed.
use Rattle.std.proofs.Common.{◌≡◌, ℕ, suc, ◌+◌, List, [], ◌∷◌, ◌++◌, length, map, Bool, true, false, not, ◌&&◌, if◌then◌else◌, is_some, Option, Some, None, unwrap_or, refl, sym, ap, ◌∙◌, subst}
use Rattle.std.specs.Prelude.{codes, nat_lt}
use Rattle.std.specs.List.{sum_by}
use Rattle.std.specs.Option.{option_and_then, option_map_or}
use Rattle.std.proofs.lemmas.List.{length-map}
use Rattle.std.proofs.lemmas.List.Sums.{sum_by-cons}
use Rattle.serde_json.specs.Data.{Data, null, boolean, number, string, array, object}
use Rattle.serde_json.specs.Find.{as_number, as_object, as_str, as_u64}
use Rattle.apply_json.specs.ShallowView.{items_in}
use Rattle.apply_json.specs.Tree.{◌>>=◌, list_of, member_of, non_empty_text_of, unless_empty}
use Rattle.apply_model.specs.declared.script.diag.Diag.{Diag}
use Rattle.apply_model.specs.declared.script.provisioner.Provisioner.{Provisioner}
use Rattle.apply_model.specs.declared.script.timed_text.TimedText.{TimedText}
use Rattle.apply_model.specs.Script.Limits.{max_outputs}
use Rattle.apply_model.specs.Script.Outcome.{are_in_time, puts_out_too_much, seconds_of_all}
use Rattle.apply_plan.specs.Script.Entry.{OutputItem, all_some, diag_from, diag_or_none, each_of, may_fail_or_not, output_from, provisioner_from, seconds_of, timed, timed_outputs}
use Rattle.input_validate.specs.declared.findings.finding.Finding.{Finding}
use Rattle.input_validate.specs.declared.findings.name.Name.TheVariants as name
use Rattle.input_validate.specs.declared.findings.expected.Expected.TheVariants as expected
use Rattle.input_validate.specs.ScriptFindings.{growth_of_provisioner, in_diagnostic, in_outputs, in_provisioner, provisioner_violation, provisioner_names, provisioner_table, seconds_in, whole_at}
use Rattle.input_validate.specs.Rules.{faults_of, in_list, inside, items_at, rule, violation_findings, unless_suits, ignored}
use Rattle.input_validate.specs.Expectations.{is_met}
use Rattle.laws_validate.proofs.Clean.{Cleared, clean, clean-append, clean-faults_of, clean-violation_findings}
use Rattle.laws_validate.proofs.Clean.{clean-then_unread, clean-unless_suits, clean-where_suits, clean-joined}
use Rattle.laws_validate.proofs.Diagnostics.{absent_or_diagnostic, clean_diagnostic, two}
use Rattle.laws_validate.proofs.Alike.{object_alike, Alike}
use Rattle.laws_validate.proofs.Members.{IsCleanBy, array_or, count_same, inside_clean, list_clean, non_empty_there, on_failure_there, whole_there}
use Rattle.laws_validate.proofs.Wanted.{needs_object}
use Rattle.input_validate.proofs.Options.{and_comm, and_false, and_then_is, and_true, bind_some}
use Rattle.laws_validate.proofs.Outputs.{are_shaped, clean_outputs, come_in_time, is_shaped, outputs_read, shape_alike}
use Rattle.laws_validate.proofs.Joined.{joined}

-- what a run reads of a provisioner, that puts out no more than it may
abbrev pub fits : Provisioner → Bool
fits provisioner = not (puts_out_too_much provisioner)

abbrev pub is_provisioner : Data → Bool
is_provisioner k = option_map_or fits (provisioner_from k) false

-- the same, apart from `on_failure` and the times of its output items
abbrev members_fit : (name : Option (List ℕ)) (seconds : Option ℕ) (shaped many : Bool) (failed : Option (Option Diag)) → Bool
members_fit name seconds shaped many failed = (((is_some name && is_some seconds) && shaped) && not many) && is_some failed

unfoldable pub fits_first : Data → Bool
fits_first k =
    members_fit (non_empty_text_of (codes "provisioner") k) (seconds_of k) (are_shaped (member_of (codes "output") k))
    (nat_lt max_outputs (length (items_at name.Output k))) (diag_or_none (member_of (codes "failed") k))

-- `on_failure` and the output items fit
abbrev pub fits_growth : Data → Bool
fits_growth k =
    is_some (may_fail_or_not (member_of (codes "on_failure") k)) && come_in_time (whole_at name.Seconds k) None (items_at name.Output k)

abbrev made : List ℕ → ℕ → List TimedText → Option Diag → Bool → Provisioner
made name seconds output failed may_fail = record { name = name; seconds = seconds; output = output; failed = failed; may_fail = may_fail }

-- the tests in the order in which the members are read
in_order : (shaped few failed may_fail timely : Bool) → (((shaped && few) && failed) && (may_fail && timely)) ≡ (failed && ((shaped && timely) && (may_fail && few)))
in_order false few failed may_fail timely = sym (and_false failed)
in_order true false false may_fail timely = refl
in_order true false true may_fail false = refl
in_order true false true may_fail true = sym (and_false may_fail)
in_order true true false may_fail timely = refl
in_order true true true may_fail timely = ap (λ (b : Bool). b && timely) (sym (and_true may_fail)) ∙ and_comm (may_fail && true) timely

-- by what is put out
reads_output : (n : List ℕ) (s : ℕ) (f : Option Diag) (output : Option (List TimedText)) (may_fail : Option Bool) (many : Bool)
    → ((texts : List TimedText) → output ≡ Some texts → many ≡ nat_lt max_outputs (length texts))
    → (is_some output && (is_some may_fail && not many)) ≡ option_map_or fits (output >>= λ o. may_fail >>= λ m. Some (made n s o f m)) false
reads_output n s f None may_fail many are = refl
reads_output n s f (Some o) None many are = refl
reads_output n s f (Some o) (Some m) many are = ap not (are o refl)

one_by_one : (items : Option (List OutputItem)) (f : List OutputItem → Option (List TimedText)) (g : List TimedText → Option Provisioner)
    → (items >>= f >>= g) ≡ (items >>= λ i. f i >>= g)
one_by_one None f g = refl
one_by_one (Some i) f g = refl

reads : (name : Option (List ℕ)) (seconds : Option ℕ) (failed : Option (Option Diag)) (items : Option (List OutputItem)) (may_fail : Option Bool) (shaped many timely : Bool)
    → ((s : ℕ) → seconds ≡ Some s → (shaped && timely) ≡ is_some (items >>= timed_outputs s))
    → ((s : ℕ) (texts : List TimedText) → (items >>= timed_outputs s) ≡ Some texts → many ≡ nat_lt max_outputs (length texts))
    → (members_fit name seconds shaped many failed && (is_some may_fail && timely))
    ≡ option_map_or fits (name >>= λ n. seconds >>= λ s. failed >>= λ f. items >>= λ i. timed_outputs s i >>= λ o. may_fail >>= λ m. Some (made n s o f m)) false
reads None seconds failed items may_fail shaped many timely come are = refl
reads (Some n) None failed items may_fail shaped many timely come are = refl
reads (Some n) (Some s) None items may_fail shaped many timely come are = in_order shaped (not many) false (is_some may_fail) timely
reads (Some n) (Some s) (Some f) items may_fail shaped many timely come are =
    in_order shaped (not many) true (is_some may_fail) timely
    ∙ ap (λ (b : Bool). b && (is_some may_fail && not many)) (come s refl)
    ∙ reads_output n s f (items >>= timed_outputs s) may_fail many (are s)
    ∙ ap (λ (p : Option Provisioner). option_map_or fits p false) (one_by_one items (timed_outputs s) (λ o. may_fail >>= λ m. Some (made n s o f m)))

-- ---- as many items as were read

some_is : {A : Type 0} (x y : A) → Some x ≡ Some y → x ≡ y
some_is x y e = cc

pub length_of_all : {A : Type 0} (part : Data → Option A) (ds : List Data) (xs : List A) → all_some (map part ds) ≡ Some xs → length ds ≡ length xs
length_of_all part [] xs e = ap length (some_is [] xs e)
length_of_all {A} part (d ∷ ds) xs e =
    let one = bind_some (part d) (λ x. all_some (map part ds) >>= λ ys. Some (x ∷ ys)) xs e in
    let others = bind_some (all_some (map part ds)) (λ ys. Some (one.0 ∷ ys)) xs one.2 in
    ap suc (length_of_all part ds others.0 others.1) ∙ ap length (some_is (one.0 ∷ others.0) xs others.2)

-- the items of an array that is read
pub each_list : {A : Type 0} (part : Data → Option A) (o : Option Data) (xs : List A) → each_of part o ≡ Some xs
    → all_some (map part (option_map_or (λ value. list_of (items_in value)) o [])) ≡ Some xs
each_list part None xs e = e
each_list part (Some null) xs e = absurd cc
each_list part (Some (boolean b)) xs e = absurd cc
each_list part (Some (number n)) xs e = absurd cc
each_list part (Some (string s)) xs e = absurd cc
each_list part (Some (array ds)) xs e = e
each_list part (Some (object ms)) xs e = absurd cc

pub length_read : {A : Type 0} (part : Data → Option A) (o : Option Data) (xs : List A) → each_of part o ≡ Some xs
    → length (option_map_or (λ value. list_of (items_in value)) o []) ≡ length xs
length_read part o xs e = length_of_all part (option_map_or (λ value. list_of (items_in value)) o []) xs (each_list part o xs e)

one_of : {A : Type 0} (b : Bool) (xs ys : List A) → (let o : Option (List A) = if b then Some xs else None in o) ≡ Some ys → xs ≡ ys
one_of true xs ys e = some_is xs ys e
one_of false xs ys e = absurd cc

-- as many texts as items
pub texts_read : (s : ℕ) (o : Option Data) (texts : List TimedText) → (each_of output_from o >>= timed_outputs s) ≡ Some texts
    → length (option_map_or (λ value. list_of (items_in value)) o []) ≡ length texts
texts_read s o texts e =
    let items = bind_some (each_of output_from o) (timed_outputs s) texts e in
    length_read output_from o items.0 items.1
    ∙ sym (length-map items.0 (timed s))
    ∙ ap length (one_of (are_in_time 0 s (map (timed s) items.0)) (map (timed s) items.0) texts items.2)

-- ---- the seconds that were read

pub seconds_are : (o : Option Data) → option_and_then as_u64 (option_and_then as_number o) ≡ (o >>= as_number >>= as_u64)
seconds_are o = and_then_is as_u64 (option_and_then as_number o) ∙ ap (λ n. n >>= as_u64) (and_then_is as_number o)

pub seconds_read : (d : Data) (s : ℕ) → seconds_of d ≡ Some s → seconds_in d ≡ s
seconds_read d s e = ap (λ (n : Option ℕ). unwrap_or n 0) (seconds_are (member_of (codes "seconds") d) ∙ e)

-- the seconds and the output items of a provisioner
pub provisioner_read : (d : Data) (p : Provisioner) → provisioner_from d ≡ Some p
    → (seconds_of d ≡ Some p.seconds) × ((each_of output_from (member_of (codes "output") d) >>= timed_outputs p.seconds) ≡ Some p.output)
unfolding provisioner_from
provisioner_read d p e =
    let may : Option Bool = may_fail_or_not (member_of (codes "on_failure") d) in
    let items : Option (List OutputItem) = each_of output_from (member_of (codes "output") d) in
    let name = bind_some (non_empty_text_of (codes "provisioner") d)
    (λ n. seconds_of d >>= λ s. diag_or_none (member_of (codes "failed") d) >>= λ f. items >>= λ i. timed_outputs s i >>= λ o. may >>= λ m.
    Some (made n s o f m)) p e in
    let seconds = bind_some (seconds_of d) (λ s. diag_or_none
    (member_of (codes "failed") d) >>= λ f. items >>= λ i. timed_outputs s i >>= λ o. may >>= λ m. Some (made name.0 s o f m)) p name.2 in
    let failed = bind_some (diag_or_none (member_of (codes "failed") d))
    (λ f. items >>= λ i. timed_outputs seconds.0 i >>= λ o. may >>= λ m. Some (made name.0 seconds.0 o f m)) p seconds.2 in
    let item = bind_some items (λ i. timed_outputs seconds.0 i >>= λ o. may >>= λ m. Some (made name.0 seconds.0 o failed.0 m)) p failed.2 in
    let output = bind_some (timed_outputs seconds.0 item.0) (λ o. may >>= λ m. Some (made name.0 seconds.0 o failed.0 m)) p item.2 in
    let growth = bind_some may (λ m. Some (made name.0 seconds.0 output.0 failed.0 m)) p output.2 in
    let is : made name.0 seconds.0 output.0 failed.0 growth.0 ≡ p = some_is (made name.0 seconds.0 output.0 failed.0 growth.0) p growth.2 in
    let both : (items >>= timed_outputs seconds.0) ≡ Some output.0 = ap (λ (o : Option (List OutputItem)). o >>= timed_outputs seconds.0) item.1 ∙ output.1 in
    subst (λ (x : Provisioner). (seconds_of d ≡ Some x.seconds) × ((items >>= timed_outputs x.seconds) ≡ Some x.output)) {x = made name.0 seconds.0 output.0 failed.0 growth.0} is (seconds.1, both)

of_provisioner : (d : Data) (p : Provisioner) → provisioner_from d ≡ Some p → seconds_in d ≡ p.seconds
of_provisioner d p e = seconds_read d p.seconds (provisioner_read d p e).0

seconds_of_list : (ds : List Data) (ps : List Provisioner) → all_some (map provisioner_from ds) ≡ Some ps → sum_by seconds_in ds ≡ seconds_of_all ps
seconds_of_list [] ps e = ap seconds_of_all (some_is [] ps e)
seconds_of_list (d ∷ ds) ps e =
    let one = bind_some (provisioner_from d) (λ x. all_some (map provisioner_from ds) >>= λ ys. Some (x ∷ ys)) ps e in
    let others = bind_some (all_some (map provisioner_from ds)) (λ ys. Some (one.0 ∷ ys)) ps one.2 in
    sum_by-cons seconds_in d ds
    ∙ ap (λ (n : ℕ). n + sum_by seconds_in ds) (of_provisioner d one.0 one.1)
    ∙ ap (λ (n : ℕ). one.0.seconds + n) (seconds_of_list ds others.0 others.1)
    ∙ sym (sum_by-cons (λ (p : Provisioner). p.seconds) one.0 others.0)
    ∙ ap seconds_of_all (some_is (one.0 ∷ others.0) ps others.2)

pub all_seconds_read : (o : Option Data) (ps : List Provisioner) → each_of provisioner_from o ≡ Some ps
    → sum_by seconds_in (option_map_or (λ value. list_of (items_in value)) o []) ≡ seconds_of_all ps
all_seconds_read o ps e = seconds_of_list (option_map_or (λ value. list_of (items_in value)) o []) ps (each_list provisioner_from o ps e)

-- ---- the provisioner

-- the findings of its members
module _ (d k : Data) (alike : Alike d k) where
  pub named_clean : clean (faults_of provisioner_table d) ≡ (is_some (non_empty_text_of (codes "provisioner") k) && is_some (seconds_of k))
  named_clean =
      two (rule name.Provisioner expected.NonEmptyText) (rule name.Seconds expected.Seconds) d
      ∙ ap (λ (b : Bool). b && is_met expected.Seconds (member_of (codes "seconds") d)) (non_empty_there (codes "provisioner") refl d k alike)
      ∙ ap (λ (b : Bool). is_some (non_empty_text_of (codes "provisioner") k) && b) (whole_there (codes "seconds") refl d k alike)

  pub output_clean : clean (in_list (λ number. unless_suits expected.Output) (rule name.Output expected.ArrayOrAbsent) d) ≡ are_shaped (member_of (codes "output") k)
  output_clean =
      list_clean (λ number. unless_suits expected.Output) is_shaped
      (λ number x y same. clean-unless_suits expected.Output x ∙ shape_alike x y same) (rule name.Output expected.ArrayOrAbsent) array_or refl d k alike

  pub failed_clean : clean (inside in_diagnostic name.Failed d) ≡ is_some (diag_or_none (member_of (codes "failed") k))
  failed_clean =
      inside_clean in_diagnostic (λ e. is_some (diag_from e)) clean_diagnostic name.Failed refl d k alike ∙ absent_or_diagnostic (member_of (codes "failed") k)

pub clean_provisioner : IsCleanBy in_provisioner fits_first
unfolding in_provisioner fits_first
clean_provisioner d k alike =
    let many : Bool = nat_lt max_outputs (length (items_at name.Output k)) in
    let name_read : Option (List ℕ) = non_empty_text_of (codes "provisioner") k in
    let failed_read : Option (Option Diag) = diag_or_none (member_of (codes "failed") k) in
    let shaped : Bool = are_shaped (member_of (codes "output") k) in
    let few : clean (violation_findings (provisioner_violation d ∷ [])) ≡ not many =
    clean-violation_findings (provisioner_violation d ∷ []) refl ∙ and_true (not (nat_lt max_outputs (length (items_at name.Output d))))
    ∙ ap (λ (n : ℕ). not (nat_lt max_outputs n)) (count_same name.Output refl d k alike) in
    let parts : List Cleared =
    (in_list (λ number. unless_suits expected.Output) (rule name.Output expected.ArrayOrAbsent) d, shaped, output_clean d k alike)
    ∷ (violation_findings (provisioner_violation d ∷ []), not many, few) ∷ (inside in_diagnostic name.Failed d, is_some failed_read, failed_clean d k alike) ∷ [] in
    let findings : List Finding = joined (faults_of provisioner_table d) (map (λ (part : Cleared). part.0) parts) in
    clean-where_suits expected.Provisioner d (findings ++ ignored provisioner_names d)
    ∙ ap (λ (x : Bool). is_some (as_object d) && x)
    (clean-then_unread findings provisioner_names d
    ∙ clean-joined (faults_of provisioner_table d) (is_some name_read && is_some (seconds_of k)) parts (named_clean d k alike))
    ∙ ap (λ (x : Bool). x && members_fit name_read (seconds_of k) shaped many failed_read) (object_alike d k alike)
    ∙ needs_object (codes "provisioner") k (members_fit name_read (seconds_of k) shaped many failed_read)
    (λ none. ap (λ (o : Option Data). members_fit (o >>= as_str >>= unless_empty) (seconds_of k) shaped many failed_read) none)

-- what comes of its failure, and when its outputs come
pub clean_growth : IsCleanBy growth_of_provisioner fits_growth
unfolding growth_of_provisioner
clean_growth d k alike =
    let growth : List Finding = faults_of (rule name.OnFailure expected.OnFailure ∷ []) d in
    let a : clean growth ≡ is_some (may_fail_or_not (member_of (codes "on_failure") k)) =
    clean-faults_of (rule name.OnFailure expected.OnFailure ∷ []) d
    ∙ and_true (is_met expected.OnFailure (member_of (codes "on_failure") d))
    ∙ on_failure_there (codes "on_failure") refl d k alike in
    clean-append growth (in_outputs d)
    ∙ ap (λ (x : Bool). x && clean (in_outputs d)) a
    ∙ ap (λ (x : Bool). is_some (may_fail_or_not (member_of (codes "on_failure") k)) && x) (clean_outputs d k alike)

-- its outputs are read, exactly where they are outputs and come in time
pub outputs_come : (k : Data) (s : ℕ) → seconds_of k ≡ Some s
    → (are_shaped (member_of (codes "output") k) && come_in_time (whole_at name.Seconds k) None (items_at name.Output k))
    ≡ is_some (each_of output_from (member_of (codes "output") k) >>= timed_outputs s)
outputs_come k s e =
    ap (λ (x : Option ℕ). are_shaped (member_of (codes "output") k) && come_in_time x None (items_at name.Output k))
    (seconds_are (member_of (codes "seconds") k) ∙ e)
    ∙ outputs_read s (member_of (codes "output") k)

-- both
pub fits_both : (k : Data) → (fits_first k && fits_growth k) ≡ is_provisioner k
unfolding provisioner_from fits_first
fits_both k =
    let o : Option Data = member_of (codes "output") k in
    reads (non_empty_text_of (codes "provisioner") k) (seconds_of k) (diag_or_none (member_of (codes "failed") k)) (each_of output_from o)
    (may_fail_or_not (member_of (codes "on_failure") k)) (are_shaped o) (nat_lt max_outputs (length (items_at name.Output k)))
    (come_in_time (whole_at name.Seconds k) None (items_at name.Output k))
    (outputs_come k)
    (λ s texts e. ap (λ (n : ℕ). nat_lt max_outputs n) (texts_read s o texts e))
