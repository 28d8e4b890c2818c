-- What a run refuses a script for, compared with its plan, is reported at its place.
use Rattle.std.proofs.Common.{◌≡◌, ℕ, suc, ◌+◌, ◌<◌, ◌≤◌, List, [], ◌∷◌, ◌++◌, drop, length, map, take, Bool, true, false, cond, not, ◌&&◌, is_ok, is_some, slice_get, Option, Some, None, Result, Ok, Err, unwrap_or, if◌then◌else◌, refl, sym, ap, subst, ◌∙◌, arith}
use Rattle.std.specs.Prelude.{codes, nat_lt}
use Rattle.std.specs.List.{AllByRecursion, enumerate_from, list_all, list_any, position_from}
use Rattle.std.specs.Option.{option_and_then, option_map, option_map_or}
use Rattle.std.proofs.lemmas.Bool.{and_from, and_parts}
use Rattle.std.proofs.lemmas.List.{length-map}
use Rattle.std.proofs.lemmas.List.FromFn.{length-enumerate_from}
use Rattle.std.proofs.lemmas.Option.{slice_get_within}
use Rattle.serde_json.specs.Data.{Data, Items}
use Rattle.apply_resolve.specs.Unreachable.{numbers_from}
use Rattle.apply_json.specs.Verbatim.{mixed_tree_of}
use Rattle.apply_json.specs.ShallowView.{items_in}
use Rattle.apply_json.specs.Tree.{list_of, member_of, tree_of}
use Rattle.apply_model.specs.Plan.ResourceChange.{ResourceChange}
use Rattle.apply_model.specs.Plan.SavedPlan.{SavedPlan}
use Rattle.apply_model.specs.Script.OutcomeMap.{OutcomeMap}
use Rattle.apply_model.specs.Script.Waits.{has_waits}
use Rattle.apply_plan.specs.Bytes.{max_bytes}
use Rattle.apply_plan.specs.declared.plan.plan_error.PlanError.{PlanError}
use Rattle.apply_plan.specs.declared.script.script_error.ScriptError.{ScriptError}
use Rattle.apply_plan.specs.declared.script.script_error.ScriptError.TheVariants.{NeverBegins}
use Rattle.apply_plan.specs.Results as results
use Rattle.apply_plan.specs.Results.{all_or_first, each_with_earlier, or_refuse, unless_refused}
use Rattle.apply_plan.specs.Script.Entry.{is_verbatim_name}
use Rattle.apply_plan.specs.Script.NeverBeginning.{never_beginning_in, never_beginning_of}
use Rattle.apply_plan.specs.Script.OutcomeMap.{ResolvedEntry, by_number, elements_of, entry_at, is_stuck, script_of, script_of_entries, script_of_tree, unless_stuck}
use Rattle.input_validate.specs.declared.findings.finding.Finding.{Finding}
use Rattle.input_validate.specs.declared.findings.name.Name.{Name}
use Rattle.input_validate.specs.declared.findings.name.Name.TheVariants as name
use Rattle.input_validate.specs.declared.findings.path.Segment.{Segment}
use Rattle.input_validate.specs.declared.findings.path.Segment.TheVariants.{Item, Member}
use Rattle.input_validate.specs.declared.findings.problem.Problem.TheVariants as problem
use Rattle.input_validate.specs.AgainstPlan.{entry_waiting, first_waiting, has_waiting, is_waited_for, is_waiting, path_in, path_to, place_of_waits, step_waiting, waits_findings}
use Rattle.input_validate.specs.Findings.{finding_at, finding_here, under}
use Rattle.laws_validate.specs.Laws.{has_refusal, is_entry, is_script}
use Rattle.input_validate.specs.ScriptFindings.{is_skipped}
use Rattle.input_validate.specs.Rules.{items_at, member_at}
use Rattle.input_validate.specs.Whole.{after_first, refusals_against_plan, entry_of_refusal, given_findings, placed, refusals_of, refused_for, script_findings, stuck_entries, unless_waits, waits_at, waits_without_lanes}
use Rattle.laws_validate.proofs.Alike.{Alike, both_trees, bytes_alike}
use Rattle.laws_validate.proofs.Clean.{clean}
use Rattle.laws_validate.proofs.Members.{count_same}
use Rattle.laws_validate.proofs.Refused.{each_accepted, elements_in}
use Rattle.laws_validate.proofs.Scripts.{clean_bytes, entries_fit, is_script_for_plan}
use Rattle.laws_validate.specs.Paths.{ArePlaced}
use Rattle.laws_validate.specs.IgnoredMembers.{IsRead}
use Rattle.laws_validate.proofs.BytesPlaced.{AreReported, both_reported, none_reported, script_reported, reported_placed}
use Rattle.laws_validate.proofs.ViolationPlaces.{member_leads, there}
use Rattle.laws_validate.proofs.Placing.{AreRight, below, item_right, within}

some_is : {A : Type 0} (x y : A) → Some x ≡ Some y → x ≡ y
some_is x y e = cc

err_is : {A E : Type 0} (x y : E) → (let r : Result A E = Err x in r) ≡ Err y → x ≡ y
err_is x y e = cc

-- ---- where the first step waits

-- the value of that number passes the test
record StandsAt {A : Type 0} (test : A → Bool) (i : ℕ) (xs : List A) (n : ℕ) : Type 0 where
  number : ℕ
  value : A
  number_is : n ≡ i + number
  value_is : slice_get xs number ≡ Some value
  passes : test value ≡ true

position_one : {A : Type 0} (test : A → Bool) (i : ℕ) (x : A) (xs : List A) (n : ℕ) (b : Bool) → test x ≡ b → (let o : Option ℕ = cond b (Some i) (position_from test (i + 1) xs) in o) ≡ Some n
    → (position_from test (i + 1) xs ≡ Some n → StandsAt test (i + 1) xs n) → StandsAt test i (x ∷ xs) n
position_one test i x xs n true is e rest =
    let same : i ≡ n = some_is i n e in
    record { number = 0; value = x; number_is = omega (arith, same); value_is = refl; passes = is }
position_one test i x xs n false is e rest =
    let at = rest e in
    record { number = suc at.number; value = at.value; number_is = omega (arith, at.number_is); value_is = at.value_is; passes = at.passes }

position_at : {A : Type 0} (test : A → Bool) (i : ℕ) (xs : List A) (n : ℕ) → position_from test i xs ≡ Some n → StandsAt test i xs n
position_at test i [] n e = absurd cc
position_at test i (x ∷ xs) n e = position_one test i x xs n (test x) refl e (position_at test (i + 1) xs n)

first_at : {A : Type 0} (test : A → Bool) (xs : List A) (n : ℕ) → position_from test 0 xs ≡ Some n → (x : A) × (slice_get xs n ≡ Some x) × (test x ≡ true)
first_at test xs n e =
    let at = position_at test 0 xs n e in
    let same : at.number ≡ n = omega (arith, at.number_is) in
    (at.value, ap (slice_get xs) (sym same) ∙ at.value_is, at.passes)

-- where a step waits for an item, the member is there that has it
waited_there : (test : Data → Bool) (o : Option Data) → list_any test (option_map_or (λ value. list_of (items_in value)) o []) ≡ true → is_some o ≡ true
waited_there test None e = absurd cc
waited_there test (Some d) e = refl

module _ (changes : Option (List ResourceChange)) where
  step_by : (R : List Segment → List Name → Type 0) (d : Data) (o : Option ℕ) → first_waiting changes d ≡ o → is_some o ≡ true
      → AreRight R d (map (under (Member name.Steps)) (map (under (Item (unwrap_or o 0))) (finding_at (Member name.After) problem.Waits ∷ [])))
  step_by R d None is some = absurd cc
  step_by R d (Some m) is some =
      let step = first_at (is_waiting changes) (items_at name.Steps d) m is in
      let waits : list_any (is_waited_for changes) (items_at name.After step.0) ≡ true =
      (and_parts (not (is_skipped step.0)) (list_any (is_waited_for changes) (items_at name.After step.0)) step.2).1 in
      item_right R name.Steps d m step.0 (finding_at (Member name.After) problem.Waits ∷ []) step.1
      (member_leads name.After step.0 (there name.After step.0 (waited_there (is_waited_for changes) (member_at name.After step.0) waits)), tt)

  step_is : (ds : List Data) (n : ℕ) (d : Data) → slice_get ds n ≡ Some d → step_waiting changes ds n ≡ unwrap_or (first_waiting changes d) 0
  step_is ds n d is = ap (λ (o : Option Data). unwrap_or (option_and_then (first_waiting changes) o) 0) is

  entry_right : (R : List Segment → List Name → Type 0) (d : Data) (n : ℕ) → entry_waiting changes d ≡ Some n
      → AreRight R d (record { path = path_in changes d n; problem = problem.Waits } ∷ [])
  entry_right R d n is =
      let entry = first_at (has_waiting changes) (items_at name.Changes d) n is in
      let step : ℕ = unwrap_or (first_waiting changes entry.0) 0 in
      let reported : List Finding = map (under (Member name.Steps)) (map (under (Item step)) (finding_at (Member name.After) problem.Waits ∷ [])) in
      subst (λ (m : ℕ). AreRight R d (record { path = path_to n m; problem = problem.Waits } ∷ [])) (sym (step_is (items_at name.Changes d) n entry.0 entry.1))
      (item_right R name.Changes d n entry.0 reported entry.1
      (step_by (below (Item n) (below (Member name.Changes) R)) entry.0 (first_waiting changes entry.0) refl entry.2))

  waits_by : (R : List Segment → List Name → Type 0) (d : Data) (o : Option ℕ) → entry_waiting changes d ≡ o
      → AreRight R d (record { path = option_map_or (path_in changes d) o []; problem = problem.Waits } ∷ [])
  waits_by R d None is = (refl, tt)
  waits_by R d (Some n) is = entry_right R d n is

  waits_in_tree : (large : Bool) (o : Option Data)
      → AreReported IsRead o (record { path = if large then [] else option_map_or (place_of_waits changes) o []; problem = problem.Waits } ∷ [])
  waits_in_tree true None = (refl, tt)
  waits_in_tree true (Some d) = (refl, tt)
  waits_in_tree false None = (refl, tt)
  waits_in_tree false (Some d) = waits_by IsRead d (entry_waiting changes d) refl

  reported_by : (d : Data) (o : Option ℕ) → entry_waiting changes d ≡ o
      → AreRight IsRead d (option_map_or (λ entry. record { path = path_in changes d entry; problem = problem.Waits } ∷ []) o [])
  reported_by d None is = tt
  reported_by d (Some n) is = entry_right IsRead d n is

  forbidden_waits_in_tree : (lanes large : Bool) (o : Option Data) → AreReported IsRead o (if lanes then [] else if large then [] else option_map_or (waits_findings changes) o [])
  forbidden_waits_in_tree true large o = none_reported IsRead o
  forbidden_waits_in_tree false true o = none_reported IsRead o
  forbidden_waits_in_tree false false None = tt
  forbidden_waits_in_tree false false (Some d) = reported_by d (entry_waiting changes d) refl

  waits_reported : (lanes : Bool) (bytes : List ℕ) → AreReported IsRead (tree_of bytes) (waits_without_lanes lanes changes bytes)
  waits_reported lanes bytes = forbidden_waits_in_tree lanes (nat_lt max_bytes (length bytes)) (tree_of bytes)

only_where : (o : Option Data) (b : Bool) (xs : List Finding) → AreReported IsRead o xs → AreReported IsRead o (if b then xs else [])
only_where o true xs h = h
only_where o false xs h = none_reported IsRead o

exact_reported : (lanes : Bool) (changes : List ResourceChange) (bytes : List ℕ) (script : OutcomeMap)
    → AreReported IsRead (tree_of bytes) (unless_waits lanes changes bytes script)
exact_reported lanes changes bytes script =
    only_where (tree_of bytes) (not lanes && has_waits script) (record { path = waits_at (Some changes) bytes; problem = problem.Waits } ∷ [])
    (waits_in_tree (Some changes) (nat_lt max_bytes (length bytes)) (tree_of bytes))

-- ---- the entry that a refusal names, in a script without another error

verbatim_tree : (large : Bool) (test : Data → Bool) (o : Option Data) → (if large then false else option_map_or test o false) ≡ true
    → (large ≡ false) × (k : Data) × (o ≡ Some k) × (test k ≡ true)
verbatim_tree true test o e = absurd cc
verbatim_tree false test None e = absurd cc
verbatim_tree false test (Some k) e = (refl, k, refl, e)

verbatim_elements : (test : Items → Bool) (o : Option Items) → option_map_or test o false ≡ true → (es : Items) × (o ≡ Some es) × (test es ≡ true)
verbatim_elements test None e = absurd cc
verbatim_elements test (Some es) e = (es, refl, e)

-- each number is below that one
abbrev AreBelow : ℕ → List ℕ → Type 0
AreBelow m numbers = AllByRecursion (λ n. n < m) numbers

ok_is : {A E : Type 0} (x y : A) → (let r : Result A E = Ok x in r) ≡ Ok y → x ≡ y
ok_is x y e = cc

-- as many are read as stand there
rest_read : {A E : Type 0} (r : Result (List A) E) (x : A) (xs : List A) → results.◌>>=◌ r (λ ys. let q : Result (List A) E = Ok (x ∷ ys) in q) ≡ Ok xs
    → (ys : List A) × (r ≡ Ok ys) × (length xs ≡ length (x ∷ ys))
rest_read {A} {E} (Ok ys) x xs e = (ys, refl, ap (λ (zs : List A). length zs) (sym (ok_is {E = E} (x ∷ ys) xs e)))
rest_read (Err refusal) x xs e = absurd cc

count_read : {A E : Type 0} (answers : List (Result A E)) (xs : List A) → all_or_first answers ≡ Ok xs → length xs ≡ length answers
count_read [] [] e = refl
count_read [] (x ∷ xs) e = absurd cc
count_read (Err x ∷ answers) xs e = absurd cc
count_read (Ok x ∷ answers) xs e =
    let rest = rest_read (all_or_first answers) x xs e in
    rest.2 ∙ ap suc (count_read answers rest.0 rest.1)

never_begins : (script : OutcomeMap) (o : Option ℕ) (refusal : ScriptError) (n : ℕ) → unless_refused (option_map NeverBegins o) script ≡ Err refusal → entry_of_refusal refusal ≡ Some n → o ≡ Some n
never_begins script None refusal n e named = absurd cc
never_begins script (Some m) refusal n e named = ap entry_of_refusal (err_is {A = OutcomeMap} (NeverBegins m) refusal e) ∙ named

stuck_number : (plan : SavedPlan) (ds : List Data) (refusal : ScriptError) (n : ℕ) (r : Result (List ResolvedEntry) ScriptError) → all_or_first (each_with_earlier (entry_at plan.changes) ds) ≡ r → is_ok r ≡ true
    → results.◌>>=◌ r (λ entries. unless_stuck entries (by_number (length plan.changes) entries)) ≡ Err refusal → entry_of_refusal refusal ≡ Some n → n < length ds
stuck_number plan ds refusal n (Err x) is ok e named = absurd cc
stuck_number plan ds refusal n (Ok entries) is ok e named =
    let script : OutcomeMap = by_number (length plan.changes) entries in
    let at = first_at (is_stuck script) entries n (never_begins script (position_from (is_stuck script) 0 entries) refusal n e named) in
    let long : length entries ≡ length ds =
    count_read (each_with_earlier (entry_at plan.changes) ds) entries is
    ∙ length-map (enumerate_from 0 ds) (λ p. entry_at plan.changes (take p.0 ds) p.1)
    ∙ length-enumerate_from 0 ds in
    let inside : n < length entries = slice_get_within entries n at.0 at.1 in
    omega (arith, inside, long)

script_stuck : (plan : SavedPlan) (bytes : List ℕ) (k : Data) (es : Items) (refusal : ScriptError) (n : ℕ) → nat_lt max_bytes (length bytes) ≡ false → mixed_tree_of is_verbatim_name bytes ≡ Some k → elements_of k ≡ Some es
    → is_ok (all_or_first (each_with_earlier (entry_at plan.changes) (list_of es))) ≡ true → script_of plan bytes ≡ Err refusal → entry_of_refusal refusal ≡ Some n → n < length (list_of es)
unfolding script_of script_of_tree script_of_entries
script_stuck plan bytes k es refusal n small raw_tree elements ok e named =
    let here : results.◌>>=◌ (all_or_first (each_with_earlier (entry_at plan.changes) (list_of es))) (λ entries. unless_stuck entries (by_number (length plan.changes) entries)) ≡ Err refusal =
    rw (small, raw_tree, elements) at e in
    stuck_number plan (list_of es) refusal n (all_or_first (each_with_earlier (entry_at plan.changes) (list_of es))) refl ok here named

no_tree : (plan : SavedPlan) (bytes : List ℕ) → tree_of bytes ≡ None → clean (script_findings (Some plan.changes) bytes) ≡ true → ⊥
no_tree plan bytes tree none =
    let raw_tree = verbatim_tree (nat_lt max_bytes (length bytes)) (is_script_for_plan (Some plan.changes)) (mixed_tree_of is_verbatim_name bytes) (sym (clean_bytes (Some plan.changes) bytes) ∙ none) in
    let never : false ≡ true = sym (ap (λ (o : Option Data). is_some o) tree) ∙ both_trees bytes ∙ ap (λ (o : Option Data). is_some o) raw_tree.2 in
    absurd cc

-- the numbers of those that pass a test are below the end of the list
number_below : (b : Bool) (first m : ℕ) (rest : List ℕ) → first < m → AreBelow m rest → AreBelow m (cond b (first ∷ rest) rest)
number_below true first m rest here there = (here, there)
number_below false first m rest here there = there

pub numbers_one : {A : Type 0} (test : A → Bool) (first : ℕ) (x : A) (xs : List A) (b : Bool) → test x ≡ b → numbers_from first test (x ∷ xs) ≡ cond b (first ∷ numbers_from (first + 1) test xs) (numbers_from (first + 1) test xs)
numbers_one test first x xs true is = rw is refl
numbers_one test first x xs false is = rw is refl

numbers_below : {A : Type 0} (test : A → Bool) (first : ℕ) (xs : List A) (m : ℕ) → first + length xs ≤ m → AreBelow m (numbers_from first test xs)
numbers_below test first [] m few = tt
numbers_below test first (x ∷ xs) m few =
    subst (AreBelow m) (sym (numbers_one test first x xs (test x) refl))
    (number_below (test x) first m (numbers_from (first + 1) test xs) (omega arith) (numbers_below test (first + 1) xs m (omega arith)))

below_more : (m n : ℕ) → m ≤ n → (numbers : List ℕ) → AreBelow m numbers → AreBelow n numbers
below_more m n few [] all = tt
below_more m n few (x ∷ numbers) all = (let here : x < m = all.0 in omega arith, below_more m n few numbers all.1)

-- each entry with a step that can never start is there
stuck_numbers : (plan : SavedPlan) (ds : List Data) (numbers : List ℕ) (r : Result (List ResolvedEntry) ScriptError) → all_or_first (each_with_earlier (entry_at plan.changes) ds) ≡ r
    → results.◌>>=◌ r (λ entries. let q : Result (List ℕ) ScriptError = Ok (numbers_from 0 (is_stuck (by_number (length plan.changes) entries)) entries) in q) ≡ Ok numbers
    → AreBelow (length ds) numbers
stuck_numbers plan ds numbers (Err x) is e = absurd cc
stuck_numbers plan ds numbers (Ok entries) is e =
    let long : length entries ≡ length ds =
    count_read (each_with_earlier (entry_at plan.changes) ds) entries is
    ∙ length-map (enumerate_from 0 ds) (λ p. entry_at plan.changes (take p.0 ds) p.1)
    ∙ length-enumerate_from 0 ds in
    subst (AreBelow (length ds)) (ok_is {E = ScriptError} (numbers_from 0 (is_stuck (by_number (length plan.changes) entries)) entries) numbers e)
    (numbers_below (is_stuck (by_number (length plan.changes) entries)) 0 entries (length ds) (omega (arith, long)))

all_stuck : (plan : SavedPlan) (bytes : List ℕ) (k : Data) (es : Items) (numbers : List ℕ) → nat_lt max_bytes (length bytes) ≡ false → mixed_tree_of is_verbatim_name bytes ≡ Some k → elements_of k ≡ Some es
    → never_beginning_of plan bytes ≡ Ok numbers → AreBelow (length (list_of es)) numbers
unfolding never_beginning_of never_beginning_in
all_stuck plan bytes k es numbers small raw_tree elements e =
    let here : results.◌>>=◌ (all_or_first (each_with_earlier (entry_at plan.changes) (list_of es)))
    (λ entries. let q : Result (List ℕ) ScriptError = Ok (numbers_from 0 (is_stuck (by_number (length plan.changes) entries)) entries) in q) ≡ Ok numbers =
    rw (small, raw_tree, elements) at e in
    stuck_numbers plan (list_of es) numbers (all_or_first (each_with_earlier (entry_at plan.changes) (list_of es))) refl here

others_below : (m : ℕ) (numbers : List ℕ) → AreBelow m numbers → AreBelow m (drop 1 numbers)
others_below m [] all = tt
others_below m (n ∷ numbers) all = all.1

-- the entry that the refusal names is there, in a script without another error
named_entry : (plan : SavedPlan) (bytes : List ℕ) (d : Data) (refusal : ScriptError) (n : ℕ) → clean (script_findings (Some plan.changes) bytes) ≡ true → tree_of bytes ≡ Some d
    → script_of plan bytes ≡ Err refusal → entry_of_refusal refusal ≡ Some n → n < length (items_at name.Changes d)
named_entry plan bytes d refusal n none tree e named =
    let raw_tree = verbatim_tree (nat_lt max_bytes (length bytes)) (is_script_for_plan (Some plan.changes)) (mixed_tree_of is_verbatim_name bytes) (sym (clean_bytes (Some plan.changes) bytes) ∙ none) in
    let k : Data = raw_tree.1 in
    let both_hold = and_parts (is_script k) (entries_fit (Some plan.changes) [] (items_at name.Changes k)) raw_tree.3 in
    let elements = verbatim_elements (λ es. list_all is_entry (list_of es)) (elements_of k) both_hold.0 in
    let es : Items = elements.0 in
    let listed : items_at name.Changes k ≡ list_of es = elements_in (member_of (codes "changes") k) es elements.1 in
    let fit : (list_all is_entry (list_of es) && entries_fit (Some plan.changes) [] (list_of es)) ≡ true =
    and_from (list_all is_entry (list_of es)) (entries_fit (Some plan.changes) [] (list_of es)) elements.2 (ap (entries_fit (Some plan.changes) []) (sym listed) ∙ both_hold.1) in
    let inside : n < length (list_of es) = script_stuck plan bytes k es refusal n raw_tree.0 raw_tree.2 elements.1 (each_accepted plan (list_of es) ∙ fit) e named in
    let alike : Alike d k = bytes_alike bytes d k tree raw_tree.2 in
    let long : length (items_at name.Changes d) ≡ length (list_of es) = count_same name.Changes refl d k alike ∙ ap (λ (ds : List Data). length ds) listed in
    omega (arith, inside, long)

-- each further entry with a step that can never start is there too
others_there : (plan : SavedPlan) (bytes : List ℕ) (d : Data) → clean (script_findings (Some plan.changes) bytes) ≡ true → tree_of bytes ≡ Some d
    → (stuck : Result (List ℕ) ScriptError) → never_beginning_of plan bytes ≡ stuck → AreBelow (length (items_at name.Changes d)) (after_first stuck)
others_there plan bytes d none tree (Err refusal) e = tt
others_there plan bytes d none tree (Ok numbers) e =
    let raw_tree = verbatim_tree (nat_lt max_bytes (length bytes)) (is_script_for_plan (Some plan.changes)) (mixed_tree_of is_verbatim_name bytes) (sym (clean_bytes (Some plan.changes) bytes) ∙ none) in
    let k : Data = raw_tree.1 in
    let both_hold = and_parts (is_script k) (entries_fit (Some plan.changes) [] (items_at name.Changes k)) raw_tree.3 in
    let elements = verbatim_elements (λ es. list_all is_entry (list_of es)) (elements_of k) both_hold.0 in
    let es : Items = elements.0 in
    let listed : items_at name.Changes k ≡ list_of es = elements_in (member_of (codes "changes") k) es elements.1 in
    let alike : Alike d k = bytes_alike bytes d k tree raw_tree.2 in
    let long : length (items_at name.Changes d) ≡ length (list_of es) = count_same name.Changes refl d k alike ∙ ap (λ (ds : List Data). length ds) listed in
    below_more (length (list_of es)) (length (items_at name.Changes d)) (omega (arith, long)) (drop 1 numbers)
    (others_below (length (list_of es)) numbers (all_stuck plan bytes k es numbers raw_tree.0 raw_tree.2 elements.1 e))

-- such entries are reported at their places
each_reported : (d : Data) (numbers : List ℕ) → AreBelow (length (items_at name.Changes d)) numbers → AreReported IsRead (Some d) (stuck_entries numbers)
each_reported d [] all = none_reported IsRead (Some d)
each_reported d (n ∷ numbers) all =
    let entry = within (items_at name.Changes d) n all.0 in
    both_reported IsRead (Some d) (refused_for (NeverBegins n)) (stuck_entries numbers)
    (item_right IsRead name.Changes d n entry.0 (finding_here (problem.ForPlan (NeverBegins n)) ∷ []) entry.1 (refl, tt))
    (each_reported d numbers all.1)

-- ---- a script for a plan

refusal_by : (plan : SavedPlan) (bytes : List ℕ) (refusal : ScriptError) (o : Option ℕ) (tree : Option Data) → entry_of_refusal refusal ≡ o → tree_of bytes ≡ tree
    → clean (script_findings (Some plan.changes) bytes) ≡ true → script_of plan bytes ≡ Err refusal → AreReported IsRead tree (placed o (problem.ForPlan refusal))
refusal_by plan bytes refusal None None is tree none e = (refl, tt)
refusal_by plan bytes refusal None (Some d) is tree none e = (refl, tt)
refusal_by plan bytes refusal (Some n) None is tree none e = absurd (no_tree plan bytes tree none)
refusal_by plan bytes refusal (Some n) (Some d) is tree none e =
    let entry = within (items_at name.Changes d) n (named_entry plan bytes d refusal n none tree e is) in
    item_right IsRead name.Changes d n entry.0 (finding_here (problem.ForPlan refusal) ∷ []) entry.1 (refl, tt)

others_reported : (plan : SavedPlan) (bytes : List ℕ) (tree : Option Data) → tree_of bytes ≡ tree → clean (script_findings (Some plan.changes) bytes) ≡ true
    → AreReported IsRead tree (stuck_entries (after_first (never_beginning_of plan bytes)))
others_reported plan bytes None tree none = absurd (no_tree plan bytes tree none)
others_reported plan bytes (Some d) tree none =
    each_reported d (after_first (never_beginning_of plan bytes)) (others_there plan bytes d none tree (never_beginning_of plan bytes) refl)

refusals_reported : (lanes : Bool) (plan : SavedPlan) (bytes : List ℕ) (r : Result OutcomeMap ScriptError) → script_of plan bytes ≡ r → clean (script_findings (Some plan.changes) bytes) ≡ true
    → AreReported IsRead (tree_of bytes) (refusals_of lanes plan.changes bytes r (never_beginning_of plan bytes))
refusals_reported lanes plan bytes (Ok script) e none = exact_reported lanes plan.changes bytes script
refusals_reported lanes plan bytes (Err refusal) e none =
    let others : List Finding = stuck_entries (after_first (never_beginning_of plan bytes)) in
    both_reported IsRead (tree_of bytes) (refused_for refusal ++ others) (waits_without_lanes lanes (Some plan.changes) bytes)
    (both_reported IsRead (tree_of bytes) (refused_for refusal) others
    (refusal_by plan bytes refusal (entry_of_refusal refusal) (tree_of bytes) refl refl none e) (others_reported plan bytes (tree_of bytes) refl none))
    (waits_reported (Some plan.changes) lanes bytes)

against_by : (lanes : Bool) (plan : SavedPlan) (bytes : List ℕ) (b : Bool) → has_refusal (script_findings (Some plan.changes) bytes) ≡ b
    → AreReported IsRead (tree_of bytes)
    (if b then waits_without_lanes lanes (Some plan.changes) bytes else refusals_of lanes plan.changes bytes (script_of plan bytes) (never_beginning_of plan bytes))
against_by lanes plan bytes true is = waits_reported (Some plan.changes) lanes bytes
against_by lanes plan bytes false is = refusals_reported lanes plan bytes (script_of plan bytes) refl (ap not is)

pub given_reported : (lanes : Bool) (plan : Result SavedPlan PlanError) (bytes : List ℕ) → AreReported IsRead (tree_of bytes) (given_findings lanes plan (Some bytes))
given_reported lanes (Err refusal) bytes =
    both_reported IsRead (tree_of bytes) (script_findings None bytes) (waits_without_lanes lanes None bytes) (script_reported None bytes) (waits_reported None lanes bytes)
given_reported lanes (Ok plan) bytes =
    both_reported IsRead (tree_of bytes) (script_findings (Some plan.changes) bytes) (refusals_against_plan lanes plan bytes) (script_reported (Some plan.changes) bytes)
    (against_by lanes plan bytes (has_refusal (script_findings (Some plan.changes) bytes)) refl)

pub script_placed : (lanes : Bool) (plan : Result SavedPlan PlanError) (bytes : List ℕ) → ArePlaced (tree_of bytes) (given_findings lanes plan (Some bytes))
script_placed lanes plan bytes = reported_placed IsRead (tree_of bytes) (given_findings lanes plan (Some bytes)) (given_reported lanes plan bytes)
