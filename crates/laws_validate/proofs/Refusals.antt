-- Which entry a refusal of a script names, and what the entries before it are.
use Rattle.std.proofs.Common.{◌≡◌, ℕ, List, [], ◌∷◌, length, Bool, true, false, not, ◌&&◌, is_ok, is_some, Option, Some, None, Result, Ok, Err, refl, subst, sym, ap, ◌∙◌, arith}
use Rattle.std.specs.Prelude.{codes, nat_eq, nat_lt}
use Rattle.std.specs.List.{list_all, list_any, sum_by}
use Rattle.std.specs.Option.{option_map_or}
use Rattle.std.proofs.lemmas.Bool.Decides.{nat_tests}
use Rattle.serde_json.specs.Data.{Data, Items, null, boolean, number, string, array, object}
use Rattle.serde_json.specs.Find.{as_array}
use Rattle.apply_json.specs.Verbatim.{mixed_tree_of}
use Rattle.apply_json.specs.ShallowView.{items_in}
use Rattle.apply_json.specs.Tree.{◌>>=◌, list_of, member_of}
use Rattle.apply_model.specs.Plan.ResourceChange.{ResourceChange}
use Rattle.apply_model.specs.Plan.SavedPlan.{SavedPlan}
use Rattle.apply_plan.specs.Bytes.{max_bytes}
use Rattle.apply_plan.specs.declared.script.script_error.ScriptError.{ScriptError}
use Rattle.apply_plan.specs.Results as results
use Rattle.apply_plan.specs.Results.{all_or_first, each_with_earlier, or_refuse, unless_refused}
use Rattle.apply_plan.specs.Script.Entry.{Entry, is_verbatim_name}
use Rattle.apply_plan.specs.Script.OutcomeMap.{ResolvedEntry, count_in, elements_of, entry_at, names_change}
use Rattle.input_validate.specs.declared.findings.name.Name.TheVariants as name
use Rattle.laws_validate.specs.Laws.{has_refusal, is_entry}
use Rattle.input_validate.specs.Rules.{items_at}
use Rattle.input_validate.specs.Whole.{entry_of_refusal, script_findings}
use Rattle.laws_validate.proofs.Alike.{Alike, AlikeItems, AreAlike}
use Rattle.input_validate.proofs.Options.{not_not}
use Rattle.laws_validate.proofs.Refused.{each_accepted, elements_in}
use Rattle.laws_validate.proofs.ScriptTests.{by_change, by_entry, refused_with}
use Rattle.laws_validate.proofs.Scripts.{are_script_for_plan, clean_bytes, entries_fit, is_script_for_plan, listed_in}

some_is : {A : Type 0} (x y : A) → Some x ≡ Some y → x ≡ y
some_is x y e = cc

err_is : {A E : Type 0} (x y : E) → (let r : Result A E = Err x in r) ≡ Err y → x ≡ y
err_is x y e = cc

pub same_number : (n : ℕ) → nat_eq n n ≡ true
same_number n = grind (arith, nat_tests)

-- ---- the number of a refusal

-- a refusal names this entry
abbrev IsOf : ℕ → ScriptError → Type 0
IsOf n refusal = entry_of_refusal refusal ≡ Some n

of_change : (n : ℕ) (changes : List ResourceChange) (earlier : ℕ) (entry : Entry) (it : ℕ × ResourceChange) (dup : Bool) (refusal : ScriptError)
    → refused_with dup n changes earlier entry it ≡ Err refusal → IsOf n refusal
of_change n changes earlier entry it dup refusal e =
    by_change (IsOf n) dup n changes earlier entry it refusal (λ again. refl)
    (record { many = λ holds. refl; long = λ holds. refl; wide = λ holds. refl; loud = λ holds. refl; placed = λ holds. refl; warns = λ holds. refl })
    (record { many = λ holds. refl; unknown = λ holds. refl; lacking = λ holds. refl }) e

pub entry_number : (changes : List ResourceChange) (before : List Data) (d : Data) (refusal : ScriptError) → entry_at changes before d ≡ Err refusal
    → entry_of_refusal refusal ≡ Some (length before)
entry_number changes before d refusal e =
    by_entry (IsOf (length before)) changes before d (λ none. refl) (λ entry is none. refl)
    (λ entry it x is about refused.
    of_change (length before) changes (sum_by count_in before) entry it (list_any (names_change it.1) before) x refused) refusal e

-- ---- the first entry that a run refuses

of_rest : (rs : Result (List ResolvedEntry) ScriptError) (x : ResolvedEntry) (refusal : ScriptError) → results.◌>>=◌ rs (λ xs. let r : Result (List ResolvedEntry) ScriptError = Ok (x ∷ xs) in r) ≡ Err refusal → rs ≡ Err refusal
of_rest (Ok xs) x refusal e = absurd cc
of_rest (Err y) x refusal e = ap (λ (z : ScriptError). let r : Result (List ResolvedEntry) ScriptError = Err z in r) (err_is y refusal e)

-- the first of a list is refused, or one after it
pub first_or_later : (r : Result ResolvedEntry ScriptError) (rs : List (Result ResolvedEntry ScriptError)) (refusal : ScriptError) (G : Type 0) → all_or_first (r ∷ rs) ≡ Err refusal
    → (r ≡ Err refusal → G) → (is_ok r ≡ true → all_or_first rs ≡ Err refusal → G) → G
first_or_later (Err x) rs refusal G e first later = first (ap (λ (y : ScriptError). let r : Result ResolvedEntry ScriptError = Err y in r) (err_is x refusal e))
first_or_later (Ok x) rs refusal G e first later = later refl (of_rest (all_or_first rs) x refusal e)

-- ---- the script

array_of : (d k : Data) → Alike d k → (es : Items) → as_array k ≡ Some es → (ds : Items) × (list_of (items_in d) ≡ list_of ds) × AlikeItems ds es
array_of null k a es e = absurd (let never : as_array null ≡ Some es = ap as_array (sym a) ∙ e in cc)
array_of (boolean b) k a es e = absurd (let never : as_array (boolean b) ≡ Some es = ap as_array (sym a) ∙ e in cc)
array_of (number z) k a es e = absurd (let never : as_array (number z) ≡ Some es = ap as_array (sym a) ∙ e in cc)
array_of (string s) k a es e = absurd (let never : as_array (string s) ≡ Some es = ap as_array (sym a) ∙ e in cc)
array_of (array ds) k a es e = (ds, refl, subst (AlikeItems ds) (some_is a.0 es (ap as_array (sym a.1) ∙ e)) a.2)
array_of (object ms) k a es e = absurd (let never : as_array (object a.0) ≡ Some es = ap as_array (sym a.1) ∙ e in cc)

pub arrays : (o p : Option Data) → AreAlike o p → (es : Items) → (p >>= as_array) ≡ Some es → (ds : Items) × (listed_in o ≡ list_of ds) × AlikeItems ds es
arrays None p a es e = absurd (let never : (let q : Option Items = None in q) ≡ Some es = ap (λ (q : Option Data). q >>= as_array) (sym a) ∙ e in cc)
arrays (Some d) p a es e = array_of d a.0 a.2 es (ap (λ (q : Option Data). q >>= as_array) (sym a.1) ∙ e)

pub tree_there : (o : Option Data) → is_some o ≡ true → (d : Data) × (o ≡ Some d)
tree_there None e = absurd cc
tree_there (Some d) e = (d, refl)

pub whole_clean : (plan : SavedPlan) (bytes : List ℕ) (k : Data) (es : Items) → nat_lt max_bytes (length bytes) ≡ false → mixed_tree_of is_verbatim_name bytes ≡ Some k → elements_of k ≡ Some es
    → is_ok (all_or_first (each_with_earlier (entry_at plan.changes) (list_of es))) ≡ true → has_refusal (script_findings (Some plan.changes) bytes) ≡ false
whole_clean plan bytes k es small raw_tree elements accepted =
    let fits : (list_all is_entry (list_of es) && entries_fit (Some plan.changes) [] (list_of es)) ≡ true = sym (each_accepted plan (list_of es)) ∙ accepted in
    let tree : is_script_for_plan (Some plan.changes) k ≡ true =
    ap (λ (o : Option Items). option_map_or (λ elements. list_all is_entry (list_of elements)) o false && entries_fit (Some plan.changes) [] (items_at name.Changes k)) elements
    ∙ ap (λ (ds : List Data). list_all is_entry (list_of es) && entries_fit (Some plan.changes) [] ds) (elements_in (member_of (codes "changes") k) es elements) ∙ fits in
    let are : are_script_for_plan (Some plan.changes) bytes ≡ true = rw (small, raw_tree) tree in
    sym (not_not (has_refusal (script_findings (Some plan.changes) bytes))) ∙ ap not (clean_bytes (Some plan.changes) bytes ∙ are)
