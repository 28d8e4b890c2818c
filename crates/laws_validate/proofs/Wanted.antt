-- What values have to be, compared with what readers accept.
use Rattle.std.proofs.Common.{◌≡◌, ℕ, List, [], ◌∷◌, map, Bool, true, false, not, ◌&&◌, ◌||◌, if◌then◌else◌, is_some, Option, Some, None, refl, sym, ap, ◌∙◌}
use Rattle.std.specs.Prelude.{codes}
use Rattle.std.specs.List.{list_all}
use Rattle.std.specs.Option.{option_map_or}
use Rattle.std.specs.Str.{bytes_eq}
use Rattle.serde_json.specs.Data.{Data, Items, Num, null, boolean, number, string, array, object}
use Rattle.serde_json.specs.Find.{as_array, as_number, as_object, as_str, as_u64}
use Rattle.apply_json.specs.Tree.{◌>>=◌, is_empty, items_or_empty, list_of, member_of, text_or, unless_empty}
use Rattle.apply_plan.specs.Script.Entry.{all_some, each_of, flag_or_false, may_fail_by, may_fail_or_not, number_or_none, only_warns_by, only_warns_or_not}
use Rattle.input_validate.specs.declared.findings.expected.Expected.TheVariants as expected
use Rattle.input_validate.specs.Expectations.{is_met}
use Rattle.laws_validate.proofs.Clean.{all_items, is_absent_or}
use Rattle.input_validate.proofs.Options.{all_fit, all_some_is, and_left, and_then_is, some_map}
use Rattle.apply_json.specs.ShallowView.{items_in}

pub met_text : (o : Option Data) → is_met expected.Text o ≡ is_some (o >>= as_str)
met_text None = refl
met_text (Some d) = refl

pub met_text_or : (o : Option Data) → is_met expected.TextOrAbsent o ≡ is_some (text_or [] o)
met_text_or None = refl
met_text_or (Some d) = refl

pub met_array : (o : Option Data) → is_met expected.Array o ≡ is_some (o >>= as_array)
met_array None = refl
met_array (Some d) = refl

pub met_array_or : (o : Option Data) → is_met expected.ArrayOrAbsent o ≡ is_some (items_or_empty o)
met_array_or None = refl
met_array_or (Some d) = refl

pub met_seconds : (o : Option Data) → is_met expected.Seconds o ≡ is_some (o >>= as_number >>= as_u64)
met_seconds None = refl
met_seconds (Some d) = ap (λ (n : Option ℕ). is_some n) (and_then_is as_u64 (as_number d))

pub met_whole_or : (o : Option Data) → is_met expected.WholeOrAbsent o ≡ is_some (number_or_none o)
met_whole_or None = refl
met_whole_or (Some d) =
    ap (λ (n : Option ℕ). is_some n) (and_then_is as_u64 (as_number d)) ∙ sym (some_map (λ (n : ℕ). Some n) (as_number d >>= as_u64))

pub met_flag : (o : Option Data) → is_met expected.FlagOrAbsent o ≡ is_some (flag_or_false o)
met_flag None = refl
met_flag (Some d) = refl

two_words : (b c : Bool) → (b || c) ≡ is_some (let o : Option Bool = if b then Some true else if c then Some false else None in o)
two_words true c = refl
two_words false true = refl
two_words false false = refl

word_text : (text : Option (List ℕ)) → (option_map_or (λ t. bytes_eq t (codes "continue")) text false || option_map_or (λ t. bytes_eq t (codes "fail")) text false) ≡ is_some (text >>= may_fail_by)
word_text None = refl
word_text (Some t) = two_words (bytes_eq t (codes "continue")) (bytes_eq t (codes "fail"))

pub met_on_failure : (o : Option Data) → is_met expected.OnFailure o ≡ is_some (may_fail_or_not o)
met_on_failure None = refl
met_on_failure (Some d) = word_text (as_str d)

severity_text : (text : Option (List ℕ))
    → (option_map_or (λ t. bytes_eq t (codes "warning")) text false || option_map_or (λ t. bytes_eq t (codes "error")) text false) ≡ is_some (text >>= only_warns_by)
severity_text None = refl
severity_text (Some t) = two_words (bytes_eq t (codes "warning")) (bytes_eq t (codes "error"))

pub met_severity : (o : Option Data) → is_met expected.Severity o ≡ is_some (only_warns_or_not o)
met_severity None = refl
met_severity (Some d) = severity_text (as_str d)

some_byte : (text : Option (List ℕ)) → option_map_or (λ t. not (is_empty t)) text false ≡ is_some (text >>= unless_empty)
some_byte None = refl
some_byte (Some []) = refl
some_byte (Some (byte ∷ bytes)) = refl

pub met_non_empty : (o : Option Data) → is_met expected.NonEmptyText o ≡ is_some (o >>= as_str >>= unless_empty)
met_non_empty None = refl
met_non_empty (Some d) = some_byte (as_str d)

-- a member that has to be there makes the value an object
pub needs_object : (n : List ℕ) (d : Data) (b : Bool) → (member_of n d ≡ None → b ≡ false) → (is_some (as_object d) && b) ≡ b
needs_object n null b none = sym (none refl)
needs_object n (boolean t) b none = sym (none refl)
needs_object n (number z) b none = sym (none refl)
needs_object n (string s) b none = sym (none refl)
needs_object n (array ds) b none = sym (none refl)
needs_object n (object ms) b none = refl

-- the same, if the member is read
pub is_object : {A : Type 0} (n : List ℕ) (f : Data → Option A) (d : Data) (x : A) → (member_of n d >>= f) ≡ Some x → is_some (as_object d) ≡ true
is_object {A} n f d x e =
    let there : Bool = is_some (member_of n d >>= f) in
    and_left (is_some (as_object d)) there
    (needs_object n d there (λ none. ap (λ (o : Option Data). is_some (o >>= f)) none) ∙ ap (λ (o : Option A). is_some o) e)

-- of an object alone a test may hold
module _ (test : Data → Bool) (of_null : test null ≡ false) (of_boolean : (b : Bool) → test (boolean b) ≡ false) (of_number : (n : Num) → test (number n) ≡ false)
    (of_string : (s : List ℕ) → test (string s) ≡ false) (of_array : (ds : Items) → test (array ds) ≡ false) where
  pub only_object : (k : Data) → (is_some (as_object k) && test k) ≡ test k
  only_object null = sym of_null
  only_object (boolean b) = sym (of_boolean b)
  only_object (number n) = sym (of_number n)
  only_object (string s) = sym (of_string s)
  only_object (array ds) = sym (of_array ds)
  only_object (object ms) = refl

  pub object_there : (k : Data) → test k ≡ true → is_some (as_object k) ≡ true
  object_there k holds = and_left (is_some (as_object k)) (test k) (only_object k ∙ holds)

-- ---- arrays that may be absent

pub array_in : (d : Data) (ds : Items) → as_array d ≡ Some ds → list_of (items_in d) ≡ list_of ds
array_in null ds e = absurd cc
array_in (boolean b) ds e = absurd cc
array_in (number n) ds e = absurd cc
array_in (string s) ds e = absurd cc
array_in (array es) ds e = let same : es ≡ ds = cc in ap list_of same
array_in (object ms) ds e = absurd cc

in_array : {A : Type 0} (part : Data → Option A) (fits : A → Bool) (d : Data)
    → (is_some (as_array d) && all_items (λ e. option_map_or fits (part e) false) d)
    ≡ option_map_or (list_all fits) (as_array d >>= λ items. all_some (map part (list_of items))) false
in_array part fits null = refl
in_array part fits (boolean t) = refl
in_array part fits (number z) = refl
in_array part fits (string s) = refl
in_array part fits (array ds) = all_fit part fits (list_of ds)
in_array part fits (object ms) = refl

-- each item is something that fits
pub each_fits : {A : Type 0} (part : Data → Option A) (fits : A → Bool) (o : Option Data)
    → (is_met expected.ArrayOrAbsent o && is_absent_or (all_items (λ e. option_map_or fits (part e) false)) o)
    ≡ option_map_or (list_all fits) (each_of part o) false
each_fits part fits None = refl
each_fits part fits (Some d) = in_array part fits d

in_array_some : {A : Type 0} (part : Data → Option A) (d : Data)
    → (is_some (as_array d) && all_items (λ e. is_some (part e)) d) ≡ is_some (as_array d >>= λ items. all_some (map part (list_of items)))
in_array_some part null = refl
in_array_some part (boolean t) = refl
in_array_some part (number z) = refl
in_array_some part (string s) = refl
in_array_some part (array ds) = sym (all_some_is part (list_of ds))
in_array_some part (object ms) = refl

-- each item is something
pub each_is : {A : Type 0} (part : Data → Option A) (o : Option Data)
    → (is_met expected.ArrayOrAbsent o && is_absent_or (all_items (λ e. is_some (part e))) o) ≡ is_some (each_of part o)
each_is part None = refl
each_is part (Some d) = in_array_some part d

-- the same for an array that has to be there
pub each_fits_there : {A : Type 0} (part : Data → Option A) (fits : A → Bool) (o : Option Data)
    → (is_met expected.Array o && is_absent_or (all_items (λ e. option_map_or fits (part e) false)) o)
    ≡ option_map_or (list_all fits) (o >>= as_array >>= λ items. all_some (map part (list_of items))) false
each_fits_there part fits None = refl
each_fits_there part fits (Some d) = in_array part fits d
