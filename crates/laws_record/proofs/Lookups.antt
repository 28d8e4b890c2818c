-- Members of a tree, by their names.
use Rattle.std.proofs.Common.{◌≡◌, ◌≢◌, ℕ, List, [], ◌∷◌, Bool, true, false, cond, map, Option, Some, None, option_map, unwrap_or, refl, sym, ap, ◌∙◌}
use Rattle.std.specs.Prelude.{IfSome}
use Rattle.std.specs.Str.{bytes_eq}
use Rattle.std.proofs.lemmas.Slice.Eq.{bytes_eq-Decides}
use Rattle.serde_json.specs.Data.{Data, Members, no_members, put, string}
use Rattle.serde_json.specs.Find.{get_member}
use Rattle.serde_json.proofs.Views.{get_member-put, get_member-put_other}
use Rattle.apply_json.specs.Tree.{◌>>=◌, list_of, member_of, text_or, unless_empty, unless_null}
use Rattle.apply_plan.specs.ListReading.{items_of}
use Rattle.apply_plan.specs.Script.Entry.{all_some, each_of}
use Rattle.laws_record.specs.Writable.{IsFilled}
use Rattle.laws_record.proofs.Lists.{array_unless_empty}
use Rattle.laws_record.proofs.Values.{Field, object_with, put_all, put_field}

-- ---- the last member of a name

abbrev pub later : Option Data → Option Data → Option Data
later None o = o
later (Some d) None = Some d
later (Some d) (Some e) = Some e

-- the value of the last field of that name; `located` if there is none
abbrev pub field_in : List ℕ → List Field → (located : Option Data) → Option Data
field_in name [] located = located
field_in name (field ∷ fields) located = field_in name fields (cond (bytes_eq field.0 name) (later located field.1) located)

later_none : (o : Option Data) → later o None ≡ o
later_none None = refl
later_none (Some d) = refl

later_some : (o : Option Data) (d : Data) → later o (Some d) ≡ Some d
later_some None d = refl
later_some (Some e) d = refl

either : (b : Bool) (o : Option Data) → cond b o o ≡ o
either true o = refl
either false o = refl

put_found : (name key : List ℕ) (o : Option Data) (located : Members) → get_member name (put_field key o located) ≡ cond (bytes_eq key name) (later (get_member name located) o) (get_member name located)
put_found name key None located = sym (ap (λ o. cond (bytes_eq key name) o (get_member name located)) (later_none (get_member name located)) ∙ either (bytes_eq key name) (get_member name located))
put_found name key (Some d) located = of_test (bytes_eq key name) refl
  where
    of_test : (b : Bool) → bytes_eq key name ≡ b → get_member name (put key d located) ≡ cond b (later (get_member name located) (Some d)) (get_member name located)
    of_test true same =
        ap (λ (k : List ℕ). get_member name (put k d located)) ((bytes_eq-Decides key name).0 same) ∙ get_member-put name d located ∙ sym (later_some (get_member name located) d)
    of_test false other = get_member-put_other name key d located (λ same. let equal : bytes_eq key name ≡ true = (bytes_eq-Decides key name).1 (sym same) in cc)

all_found : (name : List ℕ) (fields : List Field) (located : Members) → get_member name (put_all fields located) ≡ field_in name fields (get_member name located)
all_found name [] located = refl
all_found name (field ∷ fields) located =
    all_found name fields (put_field field.0 field.1 located) ∙ ap (field_in name fields) (put_found name field.0 field.1 located)

pub is_found : (name : List ℕ) (fields : List Field) → get_member name (put_all fields no_members) ≡ field_in name fields None
is_found name fields = all_found name fields no_members

pub is_member : (name : List ℕ) (fields : List Field) → member_of name (object_with fields) ≡ (field_in name fields None >>= unless_null)
is_member name fields = ap (λ o. o >>= unless_null) (all_found name fields no_members)

-- ---- texts

pub optional_text : (text : Option (List ℕ)) → text_or [] (option_map string text >>= unless_null) ≡ Some (unwrap_or text [])
optional_text None = refl
optional_text (Some text) = refl

pub filled_text : (text : List ℕ) → text ≢ [] → unless_empty text ≡ Some text
filled_text [] some = absurd (some refl)
filled_text (byte ∷ bytes) some = refl

pub text_back : (text : Option (List ℕ)) → IfSome text IsFilled → unless_empty (unwrap_or text []) ≡ text
text_back None is = refl
text_back (Some text) is = filled_text text is.filled

-- ---- arrays

pub listed : (ds : List Data) → list_of (items_of ds) ≡ ds
listed [] = refl
listed (d ∷ ds) = ap (λ (es : List Data). d ∷ es) (listed ds)

pub each_read : {A : Type 0} (part : Data → Option A) (ds : List Data) (xs : List A) → all_some (map part ds) ≡ Some xs → each_of part (array_unless_empty ds >>= unless_null) ≡ Some xs
each_read part [] xs e = e
each_read part (d ∷ ds) xs e = ap (λ (es : List Data). all_some (map part es)) (listed (d ∷ ds)) ∙ e

-- ---- words

-- a step of a reading
pub then : {A B : Type 0} (o : Option A) (x : A) (f : A → Option B) (y : B) → o ≡ Some x → f x ≡ Some y → (o >>= f) ≡ Some y
then o x f y e h = ap (λ p. p >>= f) e ∙ h
