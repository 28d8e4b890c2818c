-- If a run refuses a script, that error is reported where the refusal points.
use Rattle.std.proofs.Common.{◌≡◌, ℕ, ◌+◌, List, [], ◌∷◌, ◌++◌, length, map, take, Bool, true, false, cond, ◌&&◌, is_ok, is_some, Option}
use Rattle.std.proofs.Common.{Some, None, Result, Ok, Err, if◌then◌else◌, refl, subst, sym, ap, ◌∙◌, append_assoc, arith}
use Rattle.std.specs.Prelude.{codes, nat_eq, nat_le, nat_lt}
use Rattle.std.specs.List.{enumerate_from, list_all, list_any, position_from, sum_by}
use Rattle.std.specs.Option.{option_map, option_map_or}
use Rattle.std.proofs.lemmas.List.{length-append, map-append, take_at}
use Rattle.std.proofs.lemmas.List.Sums.{sum_by-append, sum_by-cons}
use Rattle.serde_json.specs.Data.{Data, Items, no_items, item}
use Rattle.serde_json.specs.Find.{as_array, as_object, get}
use Rattle.apply_json.specs.Verbatim.{mixed_tree_of}
use Rattle.apply_json.specs.Tree.{list_of, member_of, tree_of}
use Rattle.apply_model.specs.Plan.ResourceChange.{ResourceChange}
use Rattle.apply_model.specs.Plan.SavedPlan.{SavedPlan}
use Rattle.apply_model.specs.Script.Limits.{max_waits}
use Rattle.apply_model.specs.Script.OutcomeMap.{OutcomeMap}
use Rattle.apply_plan.specs.Bytes.{max_bytes}
use Rattle.apply_plan.specs.declared.script.script_error.ScriptError.{ScriptError}
use Rattle.apply_plan.specs.declared.script.script_error.ScriptError.TheVariants.{BadShape, NeverBegins, NotJson, TooLarge}
use Rattle.apply_plan.specs.Results as results
use Rattle.apply_plan.specs.Results.{all_or_first, each_with_earlier, or_refuse, unless_refused}
use Rattle.apply_plan.specs.Script.Entry.{is_verbatim_name}
use Rattle.apply_plan.specs.Script.NeverBeginning.{never_beginning_of}
use Rattle.apply_plan.specs.Script.OutcomeMap.{ResolvedEntry, by_number, elements_of, entry_at, is_stuck, script_of, script_of_entries, script_of_tree, unless_stuck}
use Rattle.input_validate.specs.declared.findings.finding.Finding.{Finding}
use Rattle.input_validate.specs.declared.findings.name.Name.TheVariants as name
use Rattle.input_validate.specs.declared.findings.path.Segment.{Segment}
use Rattle.input_validate.specs.declared.findings.path.Segment.TheVariants.{Item, Member}
use Rattle.input_validate.specs.declared.findings.expected.Expected.TheVariants as expected
use Rattle.input_validate.specs.declared.findings.problem.Problem.{Problem}
use Rattle.input_validate.specs.declared.findings.problem.Problem.TheVariants as problem
use Rattle.input_validate.specs.AgainstPlan.{named_first, waits_in_all, waits_left}
use Rattle.input_validate.specs.Findings.{finding_at, finding_here, is_refusal, under}
use Rattle.input_validate.specs.Names.{name_text}
use Rattle.input_validate.specs.PlanFindings.{first_named, name_read}
use Rattle.input_validate.specs.ScriptFindings.{in_entry, in_entry_after, in_script, script_names}
use Rattle.input_validate.specs.Rules.{fault_of, items_at, items_after, rule, mismatch, member_at, ignored}
use Rattle.input_validate.specs.Expectations.{is_met}
use Rattle.input_validate.specs.Whole.{after_first, refusals_against_plan, entry_of_refusal, given_findings, refusals_of, refused_for, script_findings, stuck_entries, waits_without_lanes}
use Rattle.laws_validate.specs.Laws.{goes_through, has_refusal, has_refusal_in, has_script_refusal, is_entry, names_entry, explains_entry, explains_script, explains_top}
use Rattle.laws_validate.proofs.Alike.{Alike, AlikeItems, both_trees, bytes_alike, member_alike, object_alike}
use Rattle.laws_validate.proofs.CleanAgainstPlan.{all_waits_same, name_same}
use Rattle.laws_validate.proofs.Entries.{after_one, one_entry}
use Rattle.laws_validate.proofs.AnyFinding.{any_implied, any_left, any_right, any_under, below, where_reported}
use Rattle.laws_validate.proofs.Members.{array_there}
use Rattle.input_validate.proofs.Options.{and_left, and_right}
use Rattle.laws_validate.proofs.Refusals.{arrays, entry_number, first_or_later, same_number, tree_there, whole_clean}
use Rattle.laws_validate.proofs.ScriptEntries.{refusal_reported}
use Rattle.laws_validate.proofs.ScriptSteps.{entry_reported}
use Rattle.laws_validate.proofs.Scripts.{fits_entry}
use Rattle.laws_validate.proofs.Wanted.{is_object, met_array}

err_is : {A E : Type 0} (x y : E) → (let r : Result A E = Err x in r) ≡ Err y → x ≡ y
err_is x y e = cc

abbrev is_reported : ScriptError → Finding → Bool
is_reported refusal finding = is_refusal finding && explains_script refusal finding.path finding.problem

abbrev in_changes : ScriptError → Finding → Bool
in_changes refusal finding = is_reported refusal (under (Member name.Changes) finding)

-- the findings in the entry that a refusal names
in_named : (refusal : ScriptError) (n : ℕ) (xs : List Finding) → entry_of_refusal refusal ≡ Some n → list_any (entry_reported refusal) xs ≡ true
    → list_any (in_changes refusal) (map (under (Item n)) xs) ≡ true
in_named refusal n xs named reported =
    let names : names_entry refusal n ≡ true = ap (λ (o : Option ℕ). option_map_or (nat_eq n) o false) named ∙ same_number n in
    any_under (in_changes refusal) (Item n) xs (ap (λ (b : Bool). list_any (λ x. is_refusal x && (b && explains_entry refusal x.path x.problem)) xs) names ∙ reported)

-- ---- the first entry that a run refuses

module _ (changes : List ResourceChange) (refusal : ScriptError) where
  first_refused : (ds es : Items) → AlikeItems ds es → (before others all : List Data) → length before ≡ length others
      → map name_read before ≡ map name_read others
      → sum_by waits_in_all before ≡ sum_by waits_in_all others → all ≡ others ++ list_of es → list_all is_entry others ≡ true
      → nat_le (sum_by waits_in_all others) max_waits ≡ true
      → all_or_first (map (λ p. entry_at changes (take p.0 all) p.1) (enumerate_from (length others) (list_of es))) ≡ Err refusal
      → list_any (in_changes refusal) (items_after (in_entry_after (Some changes)) before (list_of ds)) ≡ true
  first_refused no_items es a before others all long names waits whole are few e =
      absurd (let none : (let r : Result (List ResolvedEntry) ScriptError = Ok [] in r) ≡ Err refusal =
      ap (λ (xs : Items). all_or_first (map (λ p. entry_at changes (take p.0 all) p.1) (enumerate_from (length others) (list_of xs)))) (sym a)
      ∙ e in cc)
  first_refused (item d ds) es a before others all long names waits whole are few e =
      let k : Data = a.0 in
      let ks : List Data = list_of a.1 in
      let listed : list_of es ≡ k ∷ ks = ap list_of a.2 in
      let front : take (length others) all ≡ others = rw (whole ∙ ap (λ (xs : List Data). others ++ xs) listed)
      (take_at others (k ∷ ks) (length others) refl) in
      let longer : length (others ++ k ∷ []) ≡ length others + 1 = omega (arith, length-append others (k ∷ [])) in
      let own : List Finding = in_entry_after (Some changes) before d in
      let rest : List Finding = items_after (in_entry_after (Some changes)) (before ++ d ∷ []) (list_of ds) in
      let fits : Bool = is_entry k && fits_entry (Some changes) (named_first others k) (waits_left (sum_by waits_in_all others)) k in
      let first : named_first before d ≡ named_first others k =
      ap (λ all_names. first_named all_names (name_read d)) names ∙ ap (first_named (map name_read others)) (name_same d k a.3) in
      let same : list_any (entry_reported refusal) own ≡ list_any (entry_reported refusal)
      (in_entry (Some changes) (named_first others k) (waits_left (sum_by waits_in_all others)) d) =
      ap (λ (x : Option ℕ). list_any (entry_reported refusal) (in_entry (Some changes) x (waits_left (sum_by waits_in_all before)) d)) first
      ∙ ap (λ (m : ℕ). list_any (entry_reported refusal) (in_entry (Some changes) (named_first others k) (waits_left m) d)) waits in
      let split : all_or_first (entry_at changes (take (length others) all) k ∷ map (λ p. entry_at changes (take p.0 all) p.1)
      (enumerate_from (length others + 1) ks)) ≡ Err refusal =
      ap (λ (xs : List Data). all_or_first (map (λ p. entry_at changes (take p.0 all) p.1) (enumerate_from (length others) xs))) (sym listed) ∙ e in
      first_or_later (entry_at changes (take (length others) all) k)
      (map (λ p. entry_at changes (take p.0 all) p.1) (enumerate_from (length others + 1) ks)) refusal _ split
      (λ refused.
      let here : entry_at changes others k ≡ Err refusal = ap (λ (xs : List Data). entry_at changes xs k) (sym front) ∙ refused in
      let named : entry_of_refusal refusal ≡ Some (length before) = entry_number changes others k refusal here ∙ ap (λ (m : ℕ). Some m) (sym long) in
      any_left (in_changes refusal) (map (under (Item (length before))) own) rest
      (in_named refusal (length before) own named (same ∙ refusal_reported changes others d k refusal a.3 are few here)))
      (λ accepted later.
      let fine : fits ≡ true = sym (one_entry changes others k are few) ∙ ap (λ (xs : List Data). is_ok (entry_at changes xs k)) (sym front) ∙ accepted in
      let rule = after_one changes others k are few fine in
      any_right (in_changes refusal) (map (under (Item (length before))) own) rest
      (first_refused ds a.1 a.4 (before ++ d ∷ []) (others ++ k ∷ []) all
      (length-append before (d ∷ []) ∙ ap (λ (m : ℕ). m + 1) long ∙ sym (length-append others (k ∷ [])))
      (map-append name_read before (d ∷ []) ∙ ap (λ xs. xs ++ name_read d ∷ []) names ∙ ap (λ x. map name_read others ++ x ∷ []) (name_same d k a.3)
      ∙ sym (map-append name_read others (k ∷ [])))
      (sum_by-append waits_in_all before (d ∷ []) ∙ ap (λ (m : ℕ). m + sum_by waits_in_all (d ∷ [])) waits
      ∙ ap (λ (m : ℕ). sum_by waits_in_all others + m) (sum_by-cons waits_in_all d []
      ∙ ap (λ (m : ℕ). m + sum_by waits_in_all []) (all_waits_same d k a.3) ∙ sym (sum_by-cons waits_in_all k []))
      ∙ sym (sum_by-append waits_in_all others (k ∷ [])))
      (whole ∙ ap (λ (xs : List Data). others ++ xs) listed ∙ sym (append_assoc others (k ∷ []) ks)) rule.0 rule.1
      (ap (λ (m : ℕ). all_or_first (map (λ p. entry_at changes (take p.0 all) p.1) (enumerate_from m ks))) longer ∙ later)))

-- ---- the tree of a script

-- among the findings of its entries
among : (p : Finding → Bool) (changes : List ResourceChange) (d : Data) → is_some (as_object d) ≡ true
    → list_any (below (Member name.Changes) p) (items_after (in_entry_after (Some changes)) [] (items_at name.Changes d)) ≡ true
    → list_any p (in_script (Some changes) d) ≡ true
unfolding in_script
among p changes d there findings =
    let list : List Finding = fault_of d (rule name.Changes expected.Array) in
    let entries : List Finding = map (under (Member name.Changes)) (items_after (in_entry_after (Some changes)) [] (items_at name.Changes d)) in
    rw there (any_left p (list ++ entries) (ignored script_names d)
    (any_right p list entries (any_under p (Member name.Changes) (items_after (in_entry_after (Some changes)) [] (items_at name.Changes d)) findings)))

by_met : (met : Bool) (o : Option Data) → met ≡ false → list_any (is_reported (BadShape None))
    (if met then [] else finding_at (Member name.Changes) (mismatch expected.Array o) ∷ []) ≡ true
by_met true o e = absurd cc
by_met false None e = refl
by_met false (Some d) e = refl

-- no script
no_elements : (changes : List ResourceChange) (d k : Data) → Alike d k → elements_of k ≡ None
    → list_any (is_reported (BadShape None)) (in_script (Some changes) d) ≡ true
unfolding in_script
no_elements changes d k alike none =
    let p : Finding → Bool = is_reported (BadShape None) in
    let list : List Finding = fault_of d (rule name.Changes expected.Array) in
    let entries : List Finding = map (under (Member name.Changes)) (items_after (in_entry_after (Some changes)) [] (items_at name.Changes d)) in
    let unmet : is_met expected.Array (member_at name.Changes d) ≡ false =
    array_there (member_of (codes "changes") d) (member_of (codes "changes") k) (member_alike (codes "changes") refl d k alike)
    ∙ met_array (member_of (codes "changes") k) ∙ ap (λ (o : Option Items). is_some o) none in
    where_reported p (is_some (as_object d)) (list ++ entries ++ ignored script_names d) (finding_here (problem.IsNot expected.Object)) refl
    (λ suits. any_left p (list ++ entries) (ignored script_names d) (any_left p list entries
    (by_met (is_met expected.Array (member_at name.Changes d)) (get (name_text name.Changes) d) unmet)))

-- ---- the bytes

reported_bytes : (large : Bool) (p : Finding → Bool) (findings : Data → List Finding) (o : Option Data) (d : Data) → large ≡ false → o ≡ Some d
    → list_any p (findings d) ≡ true
    → list_any p (cond large (finding_here problem.TooManyBytes ∷ []) (option_map_or findings o (finding_here problem.NotJson ∷ []))) ≡ true
reported_bytes large p findings o d small is reported = rw (small, is) reported

too_large : (large : Bool) (xs : List Finding) → large ≡ true → list_any (is_reported TooLarge) (cond large (finding_here problem.TooManyBytes ∷ []) xs) ≡ true
too_large true xs e = refl
too_large false xs e = absurd cc

not_json : (large : Bool) (findings : Data → List Finding) (o : Option Data) → large ≡ false → is_some o ≡ false
    → list_any (is_reported NotJson) (cond large (finding_here problem.TooManyBytes ∷ []) (option_map_or findings o (finding_here problem.NotJson ∷ []))) ≡ true
not_json true findings o small none = absurd cc
not_json false findings None small none = refl
not_json false findings (Some d) small none = absurd cc

-- the refusal of a run is the first of the findings against the plan
first_against : (lanes : Bool) (changes : List ResourceChange) (bytes : List ℕ) (refusal : ScriptError) (stuck : Result (List ℕ) ScriptError)
    (p : Finding → Bool) → list_any p (refused_for refusal) ≡ true
    → list_any p (refusals_of lanes changes bytes (Err refusal) stuck) ≡ true
first_against lanes changes bytes refusal stuck p reported =
    any_left p (refused_for refusal ++ stuck_entries (after_first stuck)) (waits_without_lanes lanes (Some changes) bytes)
    (any_left p (refused_for refusal) (stuck_entries (after_first stuck)) reported)

never_reported : (n : ℕ) → list_any (is_reported (NeverBegins n)) (refused_for (NeverBegins n)) ≡ true
never_reported n = rw (same_number n) refl

never : (script : OutcomeMap) (o : Option ℕ) (refusal : ScriptError) → unless_refused (option_map NeverBegins o) script ≡ Err refusal
    → (n : ℕ) × (NeverBegins n ≡ refusal)
never script None refusal e = absurd cc
never script (Some n) refusal e = (n, err_is (NeverBegins n) refusal e)

abbrev IsRefusalReported : (lanes : Bool) → SavedPlan → List ℕ → ScriptError → Type 0
IsRefusalReported lanes plan bytes refusal = list_any (is_reported refusal) (script_findings (Some plan.changes) bytes ++ refusals_against_plan lanes plan bytes) ≡ true

module _ (lanes : Bool) (plan : SavedPlan) (bytes : List ℕ) (refusal : ScriptError) (refused : script_of plan bytes ≡ Err refusal) where
  -- among the findings of the tree
  in_tree : (x : ScriptError) → list_any (is_reported x) (script_findings (Some plan.changes) bytes) ≡ true → IsRefusalReported lanes plan bytes x
  in_tree x reported = any_left (is_reported x) (script_findings (Some plan.changes) bytes) (refusals_against_plan lanes plan bytes) reported

  by_entries : (k : Data) (es : Items) → nat_lt max_bytes (length bytes) ≡ false → mixed_tree_of is_verbatim_name bytes ≡ Some k → elements_of k ≡ Some es
      → (r : Result (List ResolvedEntry) ScriptError) → all_or_first (each_with_earlier (entry_at plan.changes) (list_of es)) ≡ r
      → results.◌>>=◌ r (λ entries. unless_stuck entries (by_number (length plan.changes) entries)) ≡ Err refusal → IsRefusalReported lanes plan bytes refusal
  by_entries k es small raw_tree elements (Err x) all e =
      let first : all_or_first (each_with_earlier (entry_at plan.changes) (list_of es)) ≡ Err refusal = all
      ∙ ap (λ (y : ScriptError). let r : Result (List ResolvedEntry) ScriptError = Err y in r) (err_is x refusal e) in
      let tree = tree_there (tree_of bytes) (both_trees bytes ∙ ap (λ (o : Option Data). is_some o) raw_tree) in
      let d : Data = tree.0 in
      let alike : Alike d k = bytes_alike bytes d k tree.1 raw_tree in
      let list = arrays (member_of (codes "changes") d) (member_of (codes "changes") k) (member_alike (codes "changes") refl d k alike) es elements in
      let there : is_some (as_object d) ≡ true = object_alike d k alike ∙ is_object (codes "changes") as_array k es elements in
      let findings : list_any (in_changes refusal) (items_after (in_entry_after (Some plan.changes)) [] (list_of list.0)) ≡ true =
      first_refused plan.changes refusal list.0 es list.2 [] [] (list_of es) refl refl refl refl refl refl first in
      in_tree refusal
      (reported_bytes (nat_lt max_bytes (length bytes)) (is_reported refusal) (in_script (Some plan.changes)) (tree_of bytes) d small tree.1
      (among (is_reported refusal) plan.changes d there (ap (λ (ds : List Data). list_any (in_changes refusal)
      (items_after (in_entry_after (Some plan.changes)) [] ds)) list.1 ∙ findings)))
  by_entries k es small raw_tree elements (Ok entries) all e =
      let none : has_refusal (script_findings (Some plan.changes) bytes) ≡ false = whole_clean plan bytes k es small raw_tree elements (ap (λ r. is_ok r) all) in
      let script : OutcomeMap = by_number (length plan.changes) entries in
      let it = never script (position_from (is_stuck script) 0 entries) refusal e in
      let stuck : Result (List ℕ) ScriptError = never_beginning_of plan bytes in
      let refusals : refusals_against_plan lanes plan bytes ≡ refusals_of lanes plan.changes bytes (Err refusal) stuck =
      rw none (ap (λ (q : Result OutcomeMap ScriptError). refusals_of lanes plan.changes bytes q stuck) refused) in
      any_right (is_reported refusal) (script_findings (Some plan.changes) bytes) (refusals_against_plan lanes plan bytes)
      (ap (list_any (is_reported refusal)) refusals
      ∙ first_against lanes plan.changes bytes refusal stuck (is_reported refusal)
      (ap (λ (x : ScriptError). list_any (is_reported x) (refused_for x)) (sym it.1) ∙ never_reported it.0))

  of_entries : (k : Data) (es : Items) → nat_lt max_bytes (length bytes) ≡ false → mixed_tree_of is_verbatim_name bytes ≡ Some k → elements_of k ≡ Some es
      → script_of_entries plan (list_of es) ≡ Err refusal → IsRefusalReported lanes plan bytes refusal
  unfolding script_of_entries
  of_entries k es small raw_tree elements e = by_entries k es small raw_tree elements (all_or_first (each_with_earlier (entry_at plan.changes) (list_of es))) refl e

  by_elements : (k : Data) → nat_lt max_bytes (length bytes) ≡ false → mixed_tree_of is_verbatim_name bytes ≡ Some k → (o : Option Items) → elements_of k ≡ o
      → results.◌>>=◌ (or_refuse (BadShape None) o) (λ elements. script_of_entries plan (list_of elements)) ≡ Err refusal → IsRefusalReported lanes plan bytes refusal
  by_elements k small raw_tree None elements e =
      let tree = tree_there (tree_of bytes) (both_trees bytes ∙ ap (λ (o : Option Data). is_some o) raw_tree) in
      subst (IsRefusalReported lanes plan bytes) (err_is (BadShape None) refusal e)
      (in_tree (BadShape None)
      (reported_bytes (nat_lt max_bytes (length bytes)) (is_reported (BadShape None)) (in_script (Some plan.changes)) (tree_of bytes) tree.0 small tree.1
      (no_elements plan.changes tree.0 k (bytes_alike bytes tree.0 k tree.1 raw_tree) elements)))
  by_elements k small raw_tree (Some es) elements e = of_entries k es small raw_tree elements e

  of_tree : (k : Data) → nat_lt max_bytes (length bytes) ≡ false → mixed_tree_of is_verbatim_name bytes ≡ Some k → script_of_tree plan k ≡ Err refusal
      → IsRefusalReported lanes plan bytes refusal
  unfolding script_of_tree
  of_tree k small raw_tree e = by_elements k small raw_tree (elements_of k) refl e

  by_tree : nat_lt max_bytes (length bytes) ≡ false → (o : Option Data) → mixed_tree_of is_verbatim_name bytes ≡ o
      → results.◌>>=◌ (or_refuse NotJson o) (script_of_tree plan) ≡ Err refusal
      → IsRefusalReported lanes plan bytes refusal
  by_tree small None raw_tree e =
      subst (IsRefusalReported lanes plan bytes) (err_is NotJson refusal e)
      (in_tree NotJson (not_json (nat_lt max_bytes (length bytes)) (in_script (Some plan.changes)) (tree_of bytes) small
      (both_trees bytes ∙ ap (λ (o : Option Data). is_some o) raw_tree)))
  by_tree small (Some k) raw_tree e = of_tree k small raw_tree e

  by_size : (large : Bool) → nat_lt max_bytes (length bytes) ≡ large
      → (let r : Result OutcomeMap ScriptError = cond large (Err TooLarge)
      (results.◌>>=◌ (or_refuse NotJson (mixed_tree_of is_verbatim_name bytes)) (script_of_tree plan)) in r) ≡ Err refusal
      → IsRefusalReported lanes plan bytes refusal
  by_size true is e =
      subst (IsRefusalReported lanes plan bytes) (err_is TooLarge refusal e)
      (in_tree TooLarge (too_large (nat_lt max_bytes (length bytes))
      (option_map_or (in_script (Some plan.changes)) (tree_of bytes) (finding_here problem.NotJson ∷ [])) is))
  by_size false is e = by_tree is (mixed_tree_of is_verbatim_name bytes) refl e

pub refusal_of_script : (lanes : Bool) (plan : SavedPlan) (bytes : List ℕ) (refusal : ScriptError) → script_of plan bytes ≡ Err refusal
    → has_script_refusal refusal (given_findings lanes (Ok plan) (Some bytes)) ≡ true
unfolding script_of
refusal_of_script lanes plan bytes refusal e = by_size lanes plan bytes refusal e (nat_lt max_bytes (length bytes)) refl e

-- ---- the entry that a refusal names

-- what is refused at the top of a script is of no entry
of_no_entry : (refusal : ScriptError) (path : List Segment) (findings : Problem) → explains_top refusal path findings ≡ true → entry_of_refusal refusal ≡ None
of_no_entry TooLarge path findings e = refl
of_no_entry NotJson path findings e = refl
of_no_entry (BadShape None) path findings e = refl
of_no_entry refusal path findings e = absurd cc

-- the finding of an entry's refusal stands in the entry
reported_in : (n : ℕ) (refusal : ScriptError) (path : List Segment) (findings : Problem) → entry_of_refusal refusal ≡ Some n
    → explains_script refusal path findings ≡ true → goes_through n path ≡ true
reported_in n refusal (Member name.Changes ∷ Item m ∷ parts) findings named e =
    ap (λ (o : Option ℕ). option_map_or (nat_eq m) o false) (sym named) ∙ and_left (names_entry refusal m) (explains_entry refusal parts findings) e
reported_in n refusal path findings named e =
    absurd (let never : (let o : Option ℕ = None in o) ≡ Some n = sym (of_no_entry refusal path findings e) ∙ named in cc)

refused_in : (n : ℕ) (refusal : ScriptError) (named : entry_of_refusal refusal ≡ Some n) (x : Finding) → is_reported refusal x ≡ true
    → (is_refusal x && goes_through n x.path) ≡ true
refused_in n refusal named x e =
    let reported : explains_script refusal x.path x.problem ≡ true = and_right (is_refusal x) (explains_script refusal x.path x.problem) e in
    ap (λ (b : Bool). is_refusal x && b) (reported_in n refusal x.path x.problem named reported) ∙ ap (λ (b : Bool). b && true) (and_left (is_refusal x) _ e)

pub refusal_in_entry : (lanes : Bool) (plan : SavedPlan) (bytes : List ℕ) (refusal : ScriptError) (n : ℕ) → script_of plan bytes ≡ Err refusal
    → entry_of_refusal refusal ≡ Some n → has_refusal_in n (given_findings lanes (Ok plan) (Some bytes)) ≡ true
refusal_in_entry lanes plan bytes refusal n is named =
    any_implied (is_reported refusal) (λ x. is_refusal x && goes_through n x.path) (refused_in n refusal named)
    (given_findings lanes (Ok plan) (Some bytes)) (refusal_of_script lanes plan bytes refusal is)
