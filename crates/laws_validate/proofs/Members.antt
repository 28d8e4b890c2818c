-- Members of a tree, compared with the members of the tree that a run reads of the same text.
use Rattle.std.proofs.Common.{◌≡◌, ℕ, suc, ◌+◌, List, [], ◌∷◌, length, map, Bool, true, false, ◌&&◌, is_some, Option, Some, None, unwrap_or, refl, sym, ap, ◌∙◌}
use Rattle.std.specs.Prelude.{codes}
use Rattle.std.specs.List.{list_all, sum_by}
use Rattle.std.specs.Option.{option_and_then, option_map, option_map_or}
use Rattle.std.proofs.lemmas.List.Sums.{sum_by-cons}
use Rattle.serde_json.specs.Data.{Data, null, boolean, number, string, array, object, Items, no_items, item}
use Rattle.serde_json.specs.Find.{as_array, as_bool, as_number, as_str, as_u64}
use Rattle.apply_json.specs.ShallowView.{items_in}
use Rattle.apply_json.specs.Tree.{◌>>=◌, list_of, member_of, non_empty_text_of, text_of, text_or, unless_empty}
use Rattle.apply_plan.specs.Script.Entry.{flag_or_false, is_verbatim_name, may_fail_by, may_fail_or_not, number_or_none, only_warns_by, only_warns_or_not}
use Rattle.input_validate.specs.declared.findings.finding.Finding.{Finding}
use Rattle.input_validate.specs.declared.findings.name.Name.{Name}
use Rattle.input_validate.specs.declared.findings.path.Segment.TheVariants.{Item, Member}
use Rattle.input_validate.specs.declared.findings.expected.Expected.{Expected}
use Rattle.input_validate.specs.declared.findings.expected.Expected.TheVariants as expected
use Rattle.input_validate.specs.declared.rules.rule.MemberRule.{MemberRule}
use Rattle.input_validate.specs.Findings.{under}
use Rattle.input_validate.specs.Names.{name_text}
use Rattle.input_validate.specs.ScriptFindings.{seconds_in}
use Rattle.input_validate.specs.Rules.{fault_of, in_items, in_list, inside, items_at, items_from, member_at}
use Rattle.input_validate.specs.Expectations.{is_met}
use Rattle.laws_validate.proofs.Alike.{Alike, AlikeItems, AreAlike, as_bool_alike, as_number_alike, as_str_alike, member_alike}
use Rattle.laws_validate.proofs.Clean.{all_items, clean, clean-append, clean-fault_of, clean-under, is_absent_or}
use Rattle.laws_validate.proofs.Wanted.{met_flag, met_non_empty, met_on_failure, met_seconds, met_severity, met_text, met_text_or, met_whole_or}

-- ---- scalars that may be missing

then_alike : {A : Type 0} (f : Data → Option A) → ((d k : Data) → Alike d k → f d ≡ f k) → (o p : Option Data) → AreAlike o p → (o >>= f) ≡ (p >>= f)
then_alike f same None p a = rw a refl
then_alike f same (Some d) p a = rw (a.1) (same d a.0 a.2)

text_or_alike : (o p : Option Data) → AreAlike o p → text_or [] o ≡ text_or [] p
text_or_alike None p a = rw a refl
text_or_alike (Some d) p a = rw (a.1) (as_str_alike d a.0 a.2)

number_alike : (o p : Option Data) → AreAlike o p → number_or_none o ≡ number_or_none p
number_alike None p a = rw a refl
number_alike (Some d) p a = rw (a.1) (ap (λ n. option_map (λ (x : ℕ). Some x) (n >>= as_u64)) (as_number_alike d a.0 a.2))

flag_alike : (o p : Option Data) → AreAlike o p → flag_or_false o ≡ flag_or_false p
flag_alike None p a = rw a refl
flag_alike (Some d) p a = rw (a.1) (as_bool_alike d a.0 a.2)

flag_by : (o p : Option Data) → AreAlike o p → option_map_or (λ flag. flag) (option_and_then as_bool o) false ≡ option_map_or (λ flag. flag) (option_and_then as_bool p) false
flag_by None p a = rw a refl
flag_by (Some d) p a = rw (a.1) (ap (λ (b : Option Bool). option_map_or (λ flag. flag) b false) (as_bool_alike d a.0 a.2))

may_fail_alike : (o p : Option Data) → AreAlike o p → may_fail_or_not o ≡ may_fail_or_not p
may_fail_alike None p a = rw a refl
may_fail_alike (Some d) p a = rw (a.1) (ap (λ (text : Option (List ℕ)). text >>= may_fail_by) (as_str_alike d a.0 a.2))

only_warns_alike : (o p : Option Data) → AreAlike o p → only_warns_or_not o ≡ only_warns_or_not p
only_warns_alike None p a = rw a refl
only_warns_alike (Some d) p a = rw (a.1) (ap (λ (text : Option (List ℕ)). text >>= only_warns_by) (as_str_alike d a.0 a.2))

whole_alike : (o p : Option Data) → AreAlike o p → option_and_then as_u64 (option_and_then as_number o) ≡ option_and_then as_u64 (option_and_then as_number p)
whole_alike None p a = rw a refl
whole_alike (Some d) p a = rw (a.1) (ap (λ n. (let w : Option ℕ = option_and_then as_u64 n in w)) (as_number_alike d a.0 a.2))

is_there_alike : (o p : Option Data) → AreAlike o p → is_some o ≡ is_some p
is_there_alike None p a = rw a refl
is_there_alike (Some d) p a = rw (a.1) refl

-- ---- members that are not stored as their own texts

module _ (n : List ℕ) (not : is_verbatim_name n ≡ false) (d k : Data) (alike : Alike d k) where
  both : AreAlike (member_of n d) (member_of n k)
  both = member_alike n not d k alike

  pub text_same : text_of n d ≡ text_of n k
  text_same = then_alike as_str as_str_alike (member_of n d) (member_of n k) both

  pub text_there : is_met expected.Text (member_of n d) ≡ is_some (text_of n k)
  text_there = met_text (member_of n d) ∙ ap (λ (t : Option (List ℕ)). is_some t) text_same

  pub text_or_same : text_or [] (member_of n d) ≡ text_or [] (member_of n k)
  text_or_same = text_or_alike (member_of n d) (member_of n k) both

  pub text_or_there : is_met expected.TextOrAbsent (member_of n d) ≡ is_some (text_or [] (member_of n k))
  text_or_there = met_text_or (member_of n d) ∙ ap (λ (t : Option (List ℕ)). is_some t) text_or_same

  pub non_empty_same : non_empty_text_of n d ≡ non_empty_text_of n k
  non_empty_same = ap (λ (t : Option (List ℕ)). t >>= unless_empty) text_same

  pub non_empty_there : is_met expected.NonEmptyText (member_of n d) ≡ is_some (non_empty_text_of n k)
  non_empty_there = met_non_empty (member_of n d) ∙ ap (λ (t : Option (List ℕ)). is_some t) non_empty_same

  pub whole_or_there : is_met expected.WholeOrAbsent (member_of n d) ≡ is_some (number_or_none (member_of n k))
  whole_or_there = met_whole_or (member_of n d) ∙ ap (λ (t : Option (Option ℕ)). is_some t) (number_alike (member_of n d) (member_of n k) both)

  pub flag_there : is_met expected.FlagOrAbsent (member_of n d) ≡ is_some (flag_or_false (member_of n k))
  flag_there = met_flag (member_of n d) ∙ ap (λ (t : Option Bool). is_some t) (flag_alike (member_of n d) (member_of n k) both)

  pub flag_same : option_map_or (λ flag. flag) (option_and_then as_bool (member_of n d)) false ≡ option_map_or (λ flag. flag) (option_and_then as_bool (member_of n k)) false
  flag_same = flag_by (member_of n d) (member_of n k) both

  pub on_failure_there : is_met expected.OnFailure (member_of n d) ≡ is_some (may_fail_or_not (member_of n k))
  on_failure_there = met_on_failure (member_of n d) ∙ ap (λ (t : Option Bool). is_some t) (may_fail_alike (member_of n d) (member_of n k) both)

  pub severity_there : is_met expected.Severity (member_of n d) ≡ is_some (only_warns_or_not (member_of n k))
  severity_there = met_severity (member_of n d) ∙ ap (λ (t : Option Bool). is_some t) (only_warns_alike (member_of n d) (member_of n k) both)

  pub whole_same : option_and_then as_u64 (option_and_then as_number (member_of n d)) ≡ option_and_then as_u64 (option_and_then as_number (member_of n k))
  whole_same = whole_alike (member_of n d) (member_of n k) both

  numbers_same : (member_of n d >>= as_number) ≡ (member_of n k >>= as_number)
  numbers_same = then_alike as_number as_number_alike (member_of n d) (member_of n k) both

  pub whole_there : is_met expected.Seconds (member_of n d) ≡ is_some (member_of n k >>= as_number >>= as_u64)
  whole_there = met_seconds (member_of n d) ∙ ap (λ o. is_some (let w : Option ℕ = o >>= as_u64 in w)) numbers_same

  pub is_there_same : is_some (member_of n d) ≡ is_some (member_of n k)
  is_there_same = is_there_alike (member_of n d) (member_of n k) both

-- ---- items

-- a value has no error if and only if the other value passes a test
abbrev pub IsCleanBy : (Data → List Finding) → (Data → Bool) → Type 0
IsCleanBy findings test = (d k : Data) → Alike d k → clean (findings d) ≡ test k

-- each item passes a test, which may depend on its number
abbrev pub all_from : (ℕ → Data → Bool) → ℕ → List Data → Bool
all_from test n [] = true
all_from test n (d ∷ ds) = test n d && all_from test (suc n) ds

abbrev pub all_items_from : (ℕ → Data → Bool) → Data → Bool
all_items_from test d = all_from test 0 (list_of (items_in d))

all_the_same : (test : Data → Bool) (n : ℕ) (ds : List Data) → all_from (λ number. test) n ds ≡ list_all test ds
all_the_same test n [] = refl
all_the_same test n (d ∷ ds) = ap (λ (b : Bool). test d && b) (all_the_same test (suc n) ds)

items_clean : (findings : ℕ → Data → List Finding) (test : ℕ → Data → Bool) → ((n : ℕ) → IsCleanBy (findings n) (test n)) → (n : ℕ) (ds es : Items) → AlikeItems ds es
    → clean (items_from findings n (list_of ds)) ≡ all_from test n (list_of es)
items_clean findings test is n no_items es a = rw a refl
items_clean findings test is n (item d ds) es a =
    rw (a.2)
    (clean-append (map (under (Item n)) (findings n d)) (items_from findings (suc n) (list_of ds))
    ∙ ap (λ (b : Bool). b && clean (items_from findings (suc n) (list_of ds))) (clean-under (Item n) (findings n d) ∙ is n d a.0 a.3)
    ∙ ap (λ (b : Bool). test n a.0 && b) (items_clean findings test is (suc n) ds a.1 a.4))

pub numbered_clean : (findings : ℕ → Data → List Finding) (test : ℕ → Data → Bool) → ((n : ℕ) → IsCleanBy (findings n) (test n)) → IsCleanBy (in_items findings) (all_items_from test)
numbered_clean findings test is null k a = rw a refl
numbered_clean findings test is (boolean b) k a = rw a refl
numbered_clean findings test is (number n) k a = rw a refl
numbered_clean findings test is (string s) k a = rw a refl
numbered_clean findings test is (array ds) k a = rw (a.1) (items_clean findings test is 0 ds a.0 a.2)
numbered_clean findings test is (object ms) k a = rw (a.1) refl

in_items_clean : (findings : ℕ → Data → List Finding) (test : Data → Bool) → ((n : ℕ) → IsCleanBy (findings n) test) → IsCleanBy (in_items findings) (all_items test)
in_items_clean findings test is d k a =
    numbered_clean findings (λ number. test) is d k a ∙ all_the_same test 0 (list_of (items_in k))

inside_by : (findings : Data → List Finding) (test : Data → Bool) → IsCleanBy findings test → (at : Name) (o p : Option Data) → AreAlike o p
    → clean (option_map_or (λ value. map (under (Member at)) (findings value)) o []) ≡ is_absent_or test p
inside_by findings test is at None p a = rw a refl
inside_by findings test is at (Some d) p a = rw (a.1) (clean-under (Member at) (findings d) ∙ is d a.0 a.2)

pub inside_clean : (findings : Data → List Finding) (test : Data → Bool) → IsCleanBy findings test → (name : Name) → is_verbatim_name (name_text name) ≡ false → (d k : Data) → Alike d k
    → clean (inside findings name d) ≡ is_absent_or test (member_at name k)
inside_clean findings test is name not d k a = inside_by findings test is name (member_at name d) (member_at name k) (member_alike (name_text name) not d k a)

pub items_inside : (findings : ℕ → Data → List Finding) (test : Data → Bool) → ((n : ℕ) → IsCleanBy (findings n) test) → (name : Name) → is_verbatim_name (name_text name) ≡ false → (d k : Data) → Alike d k
    → clean (inside (in_items findings) name d) ≡ is_absent_or (all_items test) (member_at name k)
items_inside findings test is name not d k a = inside_clean (in_items findings) (all_items test) (in_items_clean findings test is) name not d k a

array_alike : (d k : Data) → Alike d k → is_some (as_array d) ≡ is_some (as_array k)
array_alike null k a = rw a refl
array_alike (boolean b) k a = rw a refl
array_alike (number n) k a = rw a refl
array_alike (string s) k a = rw a refl
array_alike (array ds) k a = rw (a.1) refl
array_alike (object ms) k a = rw (a.1) refl

-- what has to be there is an array
abbrev pub AsksForArray : Expected → Type 0
AsksForArray wanted = (o p : Option Data) → AreAlike o p → is_met wanted o ≡ is_met wanted p

pub array_or : AsksForArray expected.ArrayOrAbsent
array_or None p a = rw a refl
array_or (Some d) p a = rw (a.1) (array_alike d a.0 a.2)

pub array_there : AsksForArray expected.Array
array_there None p a = rw a refl
array_there (Some d) p a = rw (a.1) (array_alike d a.0 a.2)

pub list_clean : (findings : ℕ → Data → List Finding) (test : Data → Bool) → ((n : ℕ) → IsCleanBy (findings n) test) → (rule : MemberRule) → AsksForArray rule.expected → is_verbatim_name (name_text rule.name) ≡ false
    → (d k : Data) → Alike d k → clean (in_list findings rule d) ≡ (is_met rule.expected (member_at rule.name k) && is_absent_or (all_items test) (member_at rule.name k))
list_clean findings test is rule asks not d k a =
    clean-append (fault_of d rule) (inside (in_items findings) rule.name d)
    ∙ ap (λ (b : Bool). b && clean (inside (in_items findings) rule.name d))
    (clean-fault_of d rule ∙ asks (member_at rule.name d) (member_at rule.name k) (member_alike (name_text rule.name) not d k a))
    ∙ ap (λ (b : Bool). is_met rule.expected (member_at rule.name k) && b) (items_inside findings test is rule.name not d k a)

-- ---- the items of a member

-- a statement about alike arrays, and about no items, holds for the items of a member
module _ (R : List Data → List Data → Type 0) (none : R [] []) (each : (ds es : Items) → AlikeItems ds es → R (list_of ds) (list_of es)) where
  items_alike : (d k : Data) → Alike d k → R (list_of (items_in d)) (list_of (items_in k))
  items_alike null k a = rw a none
  items_alike (boolean b) k a = rw a none
  items_alike (number n) k a = rw a none
  items_alike (string s) k a = rw a none
  items_alike (array ds) k a = rw (a.1) (each ds a.0 a.2)
  items_alike (object ms) k a = rw (a.1) none

  items_of : (o p : Option Data) → AreAlike o p
      → R (option_map_or (λ value. list_of (items_in value)) o []) (option_map_or (λ value. list_of (items_in value)) p [])
  items_of None p a = rw a none
  items_of (Some d) p a = rw (a.1) (items_alike d a.0 a.2)

  pub at_alike : (name : Name) → is_verbatim_name (name_text name) ≡ false → (d k : Data) → Alike d k → R (items_at name d) (items_at name k)
  at_alike name not d k a = items_of (member_at name d) (member_at name k) (member_alike (name_text name) not d k a)

-- ---- how many, and how long

counted : (ds es : Items) → AlikeItems ds es → length (list_of ds) ≡ length (list_of es)
counted no_items es a = rw a refl
counted (item d ds) es a = rw (a.2) (ap suc (counted ds a.1 a.4))

pub count_same : (name : Name) → is_verbatim_name (name_text name) ≡ false → (d k : Data) → Alike d k → length (items_at name d) ≡ length (items_at name k)
count_same name not d k a = at_alike (λ ds ks. length ds ≡ length ks) refl counted name not d k a

pub seconds_same : (d k : Data) → Alike d k → seconds_in d ≡ seconds_in k
seconds_same d k a = ap (λ (n : Option ℕ). unwrap_or n 0) (whole_same (codes "seconds") refl d k a)

module _ (f : Data → ℕ) (same : (d k : Data) → Alike d k → f d ≡ f k) where
  summed : (ds es : Items) → AlikeItems ds es → sum_by f (list_of ds) ≡ sum_by f (list_of es)
  summed no_items es a = rw a refl
  summed (item d ds) es a =
      rw (a.2)
      (sum_by-cons f d (list_of ds)
      ∙ ap (λ (n : ℕ). n + sum_by f (list_of ds)) (same d a.0 a.3)
      ∙ ap (λ (n : ℕ). f a.0 + n) (summed ds a.1 a.4)
      ∙ sym (sum_by-cons f a.0 (list_of a.1)))

  pub sum_same : (name : Name) → is_verbatim_name (name_text name) ≡ false → (d k : Data) → Alike d k → sum_by f (items_at name d) ≡ sum_by f (items_at name k)
  sum_same name not d k a = at_alike (λ ds ks. sum_by f ds ≡ sum_by f ks) refl summed name not d k a
