-- Checks of values of any shape warn of each member that no run reads.
use Rattle.std.proofs.Common.{◌≡◌, ℕ, zero, suc, ◌+◌, ◌⊎◌, inl, inr, List, [], ◌∷◌, ◌++◌, length, map, Bool, true, false, is_some, slice_get, Contains, Option, Some, None, if◌then◌else◌, refl, sym, ap, subst, ◌∙◌, arith, length-append}
use Rattle.std.specs.Option.{option_and_then, option_map_or}
use Rattle.std.proofs.lemmas.List.Elements.{Contains-append_right}
use Rattle.serde_json.specs.Data.{Data, null, boolean, number, string, array, object}
use Rattle.serde_json.specs.Find.{as_object, as_str, get}
use Rattle.apply_json.specs.ShallowView.{items_in, members_in}
use Rattle.apply_json.specs.Tree.{◌>>=◌, list_of, unless_null}
use Rattle.input_validate.specs.declared.findings.finding.Finding.{Finding}
use Rattle.input_validate.specs.declared.findings.name.Name.{Name}
use Rattle.input_validate.specs.declared.findings.path.Segment.{Segment}
use Rattle.input_validate.specs.declared.findings.path.Segment.TheVariants.{Item, Member, Other}
use Rattle.input_validate.specs.declared.findings.problem.Problem.TheVariants.{NotRead}
use Rattle.input_validate.specs.Findings.{finding_at, under}
use Rattle.input_validate.specs.Names.{name_text}
use Rattle.input_validate.specs.Rules.{in_items, inside, is_known, items_at, items_after, items_from, texts_in, unless_known, ignored, ignored_from}
use Rattle.laws_validate.specs.Paths.{value_at}
use Rattle.laws_validate.specs.IgnoredMembers.{warning_at}
use Rattle.laws_validate.proofs.Joined.{joined}

pub same_some : {A : Type 0} (x y : A) → Some x ≡ Some y → x ≡ y
same_some x y e = cc

-- ---- lists

-- the finding is in the list
abbrev pub Has : Finding → List Finding → Type 0
Has x [] = ⊥
Has x (y ∷ ys) = (y ≡ x) ⊎ Has x ys

pub has_left : (x : Finding) (xs ys : List Finding) → Has x xs → Has x (xs ++ ys)
has_left x [] ys h = absurd h
has_left x (y ∷ xs) ys (inl e) = inl e
has_left x (y ∷ xs) ys (inr h) = inr (has_left x xs ys h)

pub has_right : (x : Finding) (xs ys : List Finding) → Has x ys → Has x (xs ++ ys)
has_right x [] ys h = h
has_right x (y ∷ xs) ys h = inr (has_right x xs ys h)

pub has_under : (part : Segment) (x : Finding) (xs : List Finding) → Has x xs → Has (under part x) (map (under part) xs)
has_under part x [] h = absurd h
has_under part x (y ∷ xs) (inl e) = inl (ap (under part) e)
has_under part x (y ∷ xs) (inr h) = inr (has_under part x xs h)

has_first : (x : Finding) (all : List Finding) (parts : List (List Finding)) → Has x all → Has x (joined all parts)
has_first x all [] h = h
has_first x all (part ∷ parts) h = has_first x (all ++ part) parts (has_left x all part h)

-- the finding is in the part with this number
pub has_part : (x : Finding) (all : List Finding) (parts : List (List Finding)) (n : ℕ) (part : List Finding) → slice_get parts n ≡ Some part → Has x part → Has x (joined all parts)
has_part x all [] n part is h = absurd cc
has_part x all (p ∷ parts) zero part is h =
    let same : p ≡ part = same_some p part is in
    has_first x (all ++ p) parts (has_right x all p (subst (Has x) (sym same) h))
has_part x all (p ∷ parts) (suc n) part is h = has_part x (all ++ p) parts n part is h

pub contained : (x : Finding) (xs : List Finding) → Has x xs → Contains xs x
contained x [] h = absurd h
contained x (y ∷ xs) (inl e) = (0, omega arith, e)
contained x (y ∷ xs) (inr h) = Contains-append_right (y ∷ []) xs x (contained x xs h)

-- ---- what is warned of

-- each member with an unknown name, of the object that the path leads to, has a warning
abbrev pub Warns : List Segment → List Name → Data → List Finding → Type 0
Warns front names d all = (value : Data) (n : ℕ) (text : List ℕ) → value_at front d ≡ Some value → slice_get (texts_in (members_in value)) n ≡ Some text
    → is_known names text ≡ false → Has (warning_at (front ++ Other n ∷ [])) all

not_known : (x : Finding) (b : Bool) → b ≡ false → Has x (if b then [] else x ∷ [])
not_known x true e = absurd cc
not_known x false e = inl refl

unread_by : (names : List Name) (text : List ℕ) → is_known names text ≡ false → (m : ℕ) (texts : List (List ℕ)) (n : ℕ) → slice_get texts n ≡ Some text
    → Has (finding_at (Other (m + n)) NotRead) (ignored_from names m texts)
unread_by names text unknown m [] n is = absurd cc
unread_by names text unknown m (t ∷ texts) zero is =
    let same : t ≡ text = same_some t text is in
    let here : Has (finding_at (Other m) NotRead) (unless_known names m t) =
    subst (λ (s : List ℕ). Has (finding_at (Other m) NotRead) (unless_known names m s)) (sym same) (not_known (finding_at (Other m) NotRead) (is_known names text) unknown) in
    has_left (finding_at (Other (m + 0)) NotRead) (unless_known names m t) (ignored_from names (suc m) texts)
    (subst (λ (k : ℕ). Has (finding_at (Other k) NotRead) (unless_known names m t)) (let e : m ≡ m + 0 = omega arith in e) here)
unread_by names text unknown m (t ∷ texts) (suc n) is =
    has_right (finding_at (Other (m + suc n)) NotRead) (unless_known names m t) (ignored_from names (suc m) texts)
    (subst (λ (k : ℕ). Has (finding_at (Other k) NotRead) (ignored_from names (suc m) texts)) (let e : suc m + n ≡ m + suc n = omega arith in e)
    (unread_by names text unknown (suc m) texts n is))

pub unread_warns : (names : List Name) (d : Data) → Warns [] names d (ignored names d)
unread_warns names d value n text is at unknown =
    let same : d ≡ value = same_some d value is in
    subst (λ (k : ℕ). Has (finding_at (Other k) NotRead) (ignored names d)) (let e : 0 + n ≡ n = omega arith in e)
    (unread_by names text unknown 0 (texts_in (members_in d)) n (ap (λ (v : Data). slice_get (texts_in (members_in v)) n) same ∙ at))

pub warns_part : (front : List Segment) (names : List Name) (d : Data) (all : List Finding) (parts : List (List Finding)) (k : ℕ) (part : List Finding) → slice_get parts k ≡ Some part
    → Warns front names d part → Warns front names d (joined all parts)
warns_part front names d all parts k part is h value n text at has unknown =
    has_part (warning_at (front ++ Other n ∷ [])) all parts k part is (h value n text at has unknown)

-- ---- objects

text_in_object : (d : Data) (n : ℕ) (text : List ℕ) → slice_get (texts_in (members_in d)) n ≡ Some text → is_some (as_object d) ≡ true
text_in_object null n text e = absurd cc
text_in_object (boolean b) n text e = absurd cc
text_in_object (number z) n text e = absurd cc
text_in_object (string s) n text e = absurd cc
text_in_object (array ds) n text e = absurd cc
text_in_object (object ms) n text e = refl

member_in_object : (front : List Segment) (at : Name) (d value : Data) → value_at (Member at ∷ front) d ≡ Some value → is_some (as_object d) ≡ true
member_in_object front at null value e = absurd cc
member_in_object front at (boolean b) value e = absurd cc
member_in_object front at (number z) value e = absurd cc
member_in_object front at (string s) value e = absurd cc
member_in_object front at (array ds) value e = absurd cc
member_in_object front at (object ms) value e = refl

-- a path that leads into an object: to itself, or by the name of a member
abbrev pub begins_in_object : List Segment → Bool
begins_in_object [] = true
begins_in_object (Member at ∷ front) = true
begins_in_object (Other n ∷ front) = false
begins_in_object (Item n ∷ front) = false

is_object : (front : List Segment) → begins_in_object front ≡ true → (d value : Data) (n : ℕ) (text : List ℕ) → value_at front d ≡ Some value → slice_get (texts_in (members_in value)) n ≡ Some text
    → is_some (as_object d) ≡ true
is_object [] begins d value n text is at = text_in_object d n text (ap (λ (v : Data). slice_get (texts_in (members_in v)) n) (same_some d value is) ∙ at)
is_object (Member member ∷ front) begins d value n text is at = member_in_object front member d value is
is_object (Other m ∷ front) begins d value n text is at = absurd cc
is_object (Item m ∷ front) begins d value n text is at = absurd cc

pub not_text : (d : Data) → is_some (as_object d) ≡ true → is_some (as_str d) ≡ false
not_text null o = refl
not_text (boolean b) o = refl
not_text (number z) o = refl
not_text (string s) o = absurd cc
not_text (array ds) o = refl
not_text (object ms) o = refl

-- what is looked at only in an object
pub warns_where : (front : List Segment) (names : List Name) (d : Data) (all findings : List Finding) → begins_in_object front ≡ true → (is_some (as_object d) ≡ true → all ≡ findings)
    → Warns front names d findings → Warns front names d all
warns_where front names d all findings begins same h value n text is at unknown =
    subst (Has (warning_at (front ++ Other n ∷ []))) (sym (same (is_object front begins d value n text is at))) (h value n text is at unknown)

-- ---- members

-- no object stands in `null`
nothing_there : (front : List Segment) (value : Data) (n : ℕ) (text : List ℕ) → value_at front null ≡ Some value → slice_get (texts_in (members_in value)) n ≡ Some text → ⊥
nothing_there [] value n text is at = absurd (let none : (let o : Option (List ℕ) = None in o) ≡ Some text = ap (λ (v : Data). slice_get (texts_in (members_in v)) n) (same_some null value is) ∙ at in cc)
nothing_there (Member _ ∷ front) value n text is at = absurd cc
nothing_there (Other m ∷ front) value n text is at = absurd cc
nothing_there (Item m ∷ front) value n text is at = absurd cc

not_null : (front : List Segment) (e value : Data) (n : ℕ) (text : List ℕ) → value_at front e ≡ Some value → slice_get (texts_in (members_in value)) n ≡ Some text → unless_null e ≡ Some e
not_null front null value n text is at = absurd (nothing_there front value n text is at)
not_null front (boolean b) value n text is at = refl
not_null front (number z) value n text is at = refl
not_null front (string s) value n text is at = refl
not_null front (array ds) value n text is at = refl
not_null front (object ms) value n text is at = refl

member_by : (front : List Segment) (findings : Data → List Finding) (at : Name) (value : Data) (n : ℕ) (text : List ℕ) (o : Option Data) → option_and_then (value_at front) o ≡ Some value
    → slice_get (texts_in (members_in value)) n ≡ Some text → ((e : Data) → value_at front e ≡ Some value → Has (warning_at (front ++ Other n ∷ [])) (findings e))
    → Has (warning_at (Member at ∷ front ++ Other n ∷ [])) (option_map_or (λ v. map (under (Member at)) (findings v)) (o >>= unless_null) [])
member_by front findings at value n text None is has h = absurd cc
member_by front findings at value n text (Some e) is has h =
    rw (not_null front e value n text is has) (has_under (Member at) (warning_at (front ++ Other n ∷ [])) (findings e) (h e is))

pub inside_warns : (front : List Segment) (names : List Name) (findings : Data → List Finding) (at : Name) (d : Data) → ((e : Data) → Warns front names e (findings e))
    → Warns (Member at ∷ front) names d (inside findings at d)
inside_warns front names findings at d h value n text is has unknown =
    member_by front findings at value n text (get (name_text at) d) is has (λ e leads. h e value n text leads has unknown)

-- the same for the items of a member, if there are some
listed_by : (front : List Segment) (findings : List Data → List Finding) (at : Name) (value : Data) (n : ℕ) (text : List ℕ) (o : Option Data) → option_and_then (value_at front) o ≡ Some value
    → slice_get (texts_in (members_in value)) n ≡ Some text → ((e : Data) → value_at front e ≡ Some value → Has (warning_at (front ++ Other n ∷ [])) (findings (list_of (items_in e))))
    → Has (warning_at (Member at ∷ front ++ Other n ∷ [])) (map (under (Member at)) (findings (option_map_or (λ v. list_of (items_in v)) (o >>= unless_null) [])))
listed_by front findings at value n text None is has h = absurd cc
listed_by front findings at value n text (Some e) is has h =
    rw (not_null front e value n text is has) (has_under (Member at) (warning_at (front ++ Other n ∷ [])) (findings (list_of (items_in e))) (h e is))

pub listed_warns : (front : List Segment) (names : List Name) (findings : List Data → List Finding) (at : Name) (d : Data) → ((e : Data) → Warns front names e (findings (list_of (items_in e))))
    → Warns (Member at ∷ front) names d (map (under (Member at)) (findings (items_at at d)))
listed_warns front names findings at d h value n text is has unknown =
    listed_by front findings at value n text (get (name_text at) d) is has (λ e leads. h e value n text leads has unknown)

-- ---- items

pub item_value : (front : List Segment) (o : Option Data) (value : Data) → option_and_then (value_at front) o ≡ Some value → (e : Data) × (o ≡ Some e) × (value_at front e ≡ Some value)
item_value front None value is = absurd cc
item_value front (Some e) value is = (e, refl, is)

from_items : (findings : ℕ → Data → List Finding) (x : Finding) (e : Data) → ((m : ℕ) → Has x (findings m e)) → (m : ℕ) (ds : List Data) (i : ℕ) → slice_get ds i ≡ Some e
    → Has (under (Item (m + i)) x) (items_from findings m ds)
from_items findings x e h m [] i is = absurd cc
from_items findings x e h m (d ∷ ds) zero is =
    let here : Has (under (Item m) x) (map (under (Item m)) (findings m d)) =
    has_under (Item m) x (findings m d) (subst (λ (v : Data). Has x (findings m v)) (sym (same_some d e is)) (h m)) in
    has_left (under (Item (m + 0)) x) (map (under (Item m)) (findings m d)) (items_from findings (suc m) ds)
    (subst (λ (k : ℕ). Has (under (Item k) x) (map (under (Item m)) (findings m d))) (let q : m ≡ m + 0 = omega arith in q) here)
from_items findings x e h m (d ∷ ds) (suc i) is =
    has_right (under (Item (m + suc i)) x) (map (under (Item m)) (findings m d)) (items_from findings (suc m) ds)
    (subst (λ (k : ℕ). Has (under (Item k) x) (items_from findings (suc m) ds)) (let q : suc m + i ≡ m + suc i = omega arith in q) (from_items findings x e h (suc m) ds i is))

pub items_warn : (front : List Segment) (names : List Name) (findings : ℕ → Data → List Finding) (d : Data) → ((m : ℕ) (e : Data) → Warns front names e (findings m e))
    → (i : ℕ) → Warns (Item i ∷ front) names d (in_items findings d)
items_warn front names findings d h i value n text is has unknown =
    let item = item_value front (slice_get (list_of (items_in d)) i) value is in
    let x : Finding = warning_at (front ++ Other n ∷ []) in
    subst (λ (k : ℕ). Has (under (Item k) x) (in_items findings d)) (let q : 0 + i ≡ i = omega arith in q)
    (from_items findings x item.0 (λ m. h m item.0 value n text item.2 has unknown) 0 (list_of (items_in d)) i item.1)

after_items : (findings : List Data → Data → List Finding) (x : Finding) (e : Data) → ((before : List Data) → Has x (findings before e)) → (before ds : List Data) (i : ℕ) → slice_get ds i ≡ Some e
    → Has (under (Item (length before + i)) x) (items_after findings before ds)
after_items findings x e h before [] i is = absurd cc
after_items findings x e h before (d ∷ ds) zero is =
    let m : ℕ = length before in
    let here : Has (under (Item m) x) (map (under (Item m)) (findings before d)) =
    has_under (Item m) x (findings before d) (subst (λ (v : Data). Has x (findings before v)) (sym (same_some d e is)) (h before)) in
    has_left (under (Item (m + 0)) x) (map (under (Item m)) (findings before d)) (items_after findings (before ++ d ∷ []) ds)
    (subst (λ (k : ℕ). Has (under (Item k) x) (map (under (Item m)) (findings before d))) (let q : m ≡ m + 0 = omega arith in q) here)
after_items findings x e h before (d ∷ ds) (suc i) is =
    let m : ℕ = length before in
    has_right (under (Item (m + suc i)) x) (map (under (Item m)) (findings before d)) (items_after findings (before ++ d ∷ []) ds)
    (subst (λ (k : ℕ). Has (under (Item k) x) (items_after findings (before ++ d ∷ []) ds))
    (let q : length (before ++ d ∷ []) + i ≡ m + suc i = omega (arith, length-append before (d ∷ [])) in q)
    (after_items findings x e h (before ++ d ∷ []) ds i is))

pub after_warn : (front : List Segment) (names : List Name) (findings : List Data → Data → List Finding) (d : Data) → ((before : List Data) (e : Data) → Warns front names e (findings before e))
    → (i : ℕ) → Warns (Item i ∷ front) names d (items_after findings [] (list_of (items_in d)))
after_warn front names findings d h i value n text is has unknown =
    let item = item_value front (slice_get (list_of (items_in d)) i) value is in
    let x : Finding = warning_at (front ++ Other n ∷ []) in
    subst (λ (k : ℕ). Has (under (Item k) x) (items_after findings [] (list_of (items_in d)))) (let q : 0 + i ≡ i = omega arith in q)
    (after_items findings x item.0 (λ before. h before item.0 value n text item.2 has unknown) [] (list_of (items_in d)) i item.1)
