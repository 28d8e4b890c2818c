-- Each entry with a step that can never start is reported.
use Rattle.std.proofs.Common.{◌≡◌, ℕ, ◌+◌, ◌<◌, List, [], ◌∷◌, ◌++◌, length, Bool, true, false, cond, is_ok, slice_get, Option, Some, None, Result, Ok, Err, refl, sym, ap, ◌∙◌, arith}
use Rattle.std.specs.Prelude.{nat_lt, option_map}
use Rattle.std.specs.List.{position_from}
use Rattle.serde_json.specs.Data.{Data, Items}
use Rattle.apply_resolve.specs.Unreachable.{numbers_from}
use Rattle.apply_json.specs.Verbatim.{mixed_tree_of}
use Rattle.apply_json.specs.Tree.{list_of}
use Rattle.apply_model.specs.Plan.SavedPlan.{SavedPlan}
use Rattle.apply_model.specs.Script.OutcomeMap.{OutcomeMap}
use Rattle.apply_plan.specs.Bytes.{max_bytes}
use Rattle.apply_plan.specs.declared.script.script_error.ScriptError.{ScriptError}
use Rattle.apply_plan.specs.declared.script.script_error.ScriptError.TheVariants.{BadShape, NeverBegins, NotJson, TooLarge}
use Rattle.apply_plan.specs.Results as results
use Rattle.apply_plan.specs.Results.{all_or_first, each_with_earlier, or_refuse, unless_refused}
use Rattle.apply_plan.specs.Script.Entry.{is_verbatim_name}
use Rattle.apply_plan.specs.Script.NeverBeginning.{elements_in, elements_of_tree, never_beginning_in, never_beginning_of}
use Rattle.apply_plan.specs.Script.OutcomeMap.{ResolvedEntry, by_number, elements_of, entry_at, is_stuck, script_of, script_of_entries, script_of_tree, unless_stuck}
use Rattle.input_validate.specs.declared.findings.finding.Finding.{Finding}
use Rattle.input_validate.specs.Whole.{after_first, given_findings, refusals_of, refused_for, script_findings, stuck_entries, waits_without_lanes}
use Rattle.laws_validate.specs.Laws.{has_refusal}
use Rattle.laws_validate.proofs.Refusals.{whole_clean}
use Rattle.laws_validate.proofs.RefusalsPlaced.{numbers_one}

small_of : {A E : Type 0} (large : Bool) (refusal : E) (r : Result A E) (x : A) → (let q : Result A E = cond large (Err refusal) r in q) ≡ Ok x → (large ≡ false) × (r ≡ Ok x)
small_of true refusal r x e = absurd cc
small_of false refusal r x e = (refl, e)

there_of : {A B E : Type 0} (refusal : E) (o : Option A) (f : A → Result B E) (y : B) → results.◌>>=◌ (or_refuse refusal o) f ≡ Ok y → (x : A) × (o ≡ Some x) × (f x ≡ Ok y)
there_of refusal None f y e = absurd cc
there_of refusal (Some x) f y e = (x, refl, e)

ok_of : {A B E : Type 0} (r : Result A E) (f : A → Result B E) (y : B) → results.◌>>=◌ r f ≡ Ok y → (x : A) × (r ≡ Ok x) × (f x ≡ Ok y)
ok_of (Ok x) f y e = (x, refl, e)
ok_of (Err refusal) f y e = absurd cc

ok_is : {A E : Type 0} (x y : A) → (let r : Result A E = Ok x in r) ≡ Ok y → x ≡ y
ok_is x y e = cc

-- the entries of a script that has no other fault
record AreRead (plan : SavedPlan) (bytes numbers : List ℕ) : Type 0 where
  raw_tree : Data
  elements : Items
  small : nat_lt max_bytes (length bytes) ≡ false
  verbatim_is : mixed_tree_of is_verbatim_name bytes ≡ Some raw_tree
  elements_is : elements_of raw_tree ≡ Some elements
  numbers_are : never_beginning_in plan (list_of elements) ≡ Ok numbers

are_read : (plan : SavedPlan) (bytes numbers : List ℕ) → never_beginning_of plan bytes ≡ Ok numbers → AreRead plan bytes numbers
unfolding never_beginning_of
are_read plan bytes numbers e =
    let listed = ok_of (elements_in bytes) (never_beginning_in plan) numbers e in
    let sized = small_of (nat_lt max_bytes (length bytes)) TooLarge (results.◌>>=◌ (or_refuse NotJson (mixed_tree_of is_verbatim_name bytes)) elements_of_tree) listed.0 listed.1 in
    let tree = there_of NotJson (mixed_tree_of is_verbatim_name bytes) elements_of_tree listed.0 sized.1 in
    let list = there_of (BadShape None) (elements_of tree.0) (λ elements. let r : Result (List Data) ScriptError = Ok (list_of elements) in r) listed.0 tree.2 in
    record {
      raw_tree = tree.0;
      elements = list.0;
      small = sized.0;
      verbatim_is = tree.1;
      elements_is = list.1;
      numbers_are = ap (never_beginning_in plan) (ok_is {E = ScriptError} (list_of list.0) listed.0 list.2) ∙ listed.2;
    }

-- the script has no other error
alone : (plan : SavedPlan) (bytes numbers : List ℕ) → never_beginning_of plan bytes ≡ Ok numbers → has_refusal (script_findings (Some plan.changes) bytes) ≡ false
unfolding never_beginning_in
alone plan bytes numbers e =
    let read = are_read plan bytes numbers e in
    let answers : Result (List ResolvedEntry) ScriptError = all_or_first (each_with_earlier (entry_at plan.changes) (list_of read.elements)) in
    let accepted : is_ok answers ≡ true = ap (λ r. is_ok r) (ok_of answers _ numbers read.numbers_are).1 in
    whole_clean plan bytes read.raw_tree read.elements read.small read.verbatim_is read.elements_is accepted

-- ---- a run refuses the script for the first of the entries

by_first : (b : Bool) (n : ℕ) (o : Option ℕ) (rest : List ℕ) → o ≡ slice_get rest 0 → cond b (Some n) o ≡ slice_get (cond b (n ∷ rest) rest) 0
by_first true n o rest e = refl
by_first false n o rest e = e

first_number : {A : Type 0} (test : A → Bool) (n : ℕ) (xs : List A) → position_from test n xs ≡ slice_get (numbers_from n test xs) 0
first_number test n [] = refl
first_number test n (x ∷ xs) =
    by_first (test x) n (position_from test (n + 1) xs) (numbers_from (n + 1) test xs) (first_number test (n + 1) xs)
    ∙ ap (λ (numbers : List ℕ). slice_get numbers 0) (sym (numbers_one test n x xs (test x) refl))

refused_at : (script : OutcomeMap) (o : Option ℕ) (n : ℕ) → o ≡ Some n → unless_refused (option_map NeverBegins o) script ≡ Err (NeverBegins n)
refused_at script o n e = rw e refl

of_entries : (plan : SavedPlan) (n : ℕ) (numbers : List ℕ) (r : Result (List ResolvedEntry) ScriptError)
    → results.◌>>=◌ r (λ entries. let q : Result (List ℕ) ScriptError = Ok (numbers_from 0 (is_stuck (by_number (length plan.changes) entries)) entries) in q) ≡ Ok (n ∷ numbers)
    → results.◌>>=◌ r (λ entries. unless_stuck entries (by_number (length plan.changes) entries)) ≡ Err (NeverBegins n)
of_entries plan n numbers (Err x) e = absurd cc
of_entries plan n numbers (Ok entries) e =
    let script : OutcomeMap = by_number (length plan.changes) entries in
    refused_at script (position_from (is_stuck script) 0 entries) n
    (first_number (is_stuck script) 0 entries ∙ ap (λ (all : List ℕ). slice_get all 0) (ok_is {E = ScriptError} (numbers_from 0 (is_stuck script) entries) (n ∷ numbers) e))

script_refused : (plan : SavedPlan) (bytes : List ℕ) (n : ℕ) (numbers : List ℕ) → never_beginning_of plan bytes ≡ Ok (n ∷ numbers) → script_of plan bytes ≡ Err (NeverBegins n)
unfolding never_beginning_in script_of script_of_tree script_of_entries
script_refused plan bytes n numbers e =
    let read = are_read plan bytes (n ∷ numbers) e in
    rw (read.small, read.verbatim_is, read.elements_is)
    (of_entries plan n numbers (all_or_first (each_with_earlier (entry_at plan.changes) (list_of read.elements))) read.numbers_are)

pub each_stuck : (lanes : Bool) (plan : SavedPlan) (bytes numbers : List ℕ) → never_beginning_of plan bytes ≡ Ok numbers → 0 < length numbers
    → given_findings lanes (Ok plan) (Some bytes)
    ≡ script_findings (Some plan.changes) bytes ++ (stuck_entries numbers ++ waits_without_lanes lanes (Some plan.changes) bytes)
each_stuck lanes plan bytes [] e more = absurd (omega arith)
each_stuck lanes plan bytes (n ∷ numbers) e more =
    let waits : List Finding = waits_without_lanes lanes (Some plan.changes) bytes in
    let reported : refusals_of lanes plan.changes bytes (script_of plan bytes) (never_beginning_of plan bytes) ≡ stuck_entries (n ∷ numbers) ++ waits =
    ap (λ (q : Result OutcomeMap ScriptError). refusals_of lanes plan.changes bytes q (never_beginning_of plan bytes)) (script_refused plan bytes n numbers e)
    ∙ ap (λ (stuck : Result (List ℕ) ScriptError). refused_for (NeverBegins n) ++ stuck_entries (after_first stuck) ++ waits) e in
    ap (λ (xs : List Finding). script_findings (Some plan.changes) bytes ++ xs) (rw (alone plan bytes (n ∷ numbers) e) reported)
