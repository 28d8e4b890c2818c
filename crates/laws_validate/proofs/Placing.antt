-- Findings of values of any shape stand at their places, and their warnings are about members that
-- no run reads.
use Rattle.std.proofs.Common.{◌≡◌, ℕ, zero, suc, ◌+◌, ◌<◌, List, [], ◌∷◌, ◌++◌, length, map, Bool, true, false, is_some, slice_get, Option, Some, None, if◌then◌else◌, refl, ap, subst, ◌∙◌, arith, length-append}
use Rattle.std.specs.List.{AllByRecursion}
use Rattle.std.specs.Option.{option_map_or}
use Rattle.serde_json.specs.Data.{Data, null, boolean, number, string, array, object, Members}
use Rattle.serde_json.specs.Find.{as_object, get, get_member}
use Rattle.apply_json.specs.ShallowView.{items_in, members_in}
use Rattle.apply_json.specs.Tree.{◌>>=◌, list_of, unless_null}
use Rattle.input_validate.specs.declared.findings.finding.Finding.{Finding}
use Rattle.input_validate.specs.declared.findings.name.Name.{Name}
use Rattle.input_validate.specs.declared.findings.path.Segment.{Segment}
use Rattle.input_validate.specs.declared.findings.path.Segment.TheVariants.{Item, Member, Other}
use Rattle.input_validate.specs.declared.findings.expected.Expected.{Expected}
use Rattle.input_validate.specs.declared.findings.problem.Problem.{Problem}
use Rattle.input_validate.specs.declared.findings.problem.Problem.TheVariants.{IsMissing, IsNot, NotRead}
use Rattle.input_validate.specs.declared.rules.rule.MemberRule.{MemberRule}
use Rattle.input_validate.specs.Findings.{finding_at, finding_here, under}
use Rattle.input_validate.specs.Names.{name_text}
use Rattle.input_validate.specs.Rules.{fault_of, faults_of, in_items, in_list, inside, is_known, items_at, items_after, items_from, mismatch, member_at, texts_in, unless_known, unless_suits, ignored, ignored_from, where_suits}
use Rattle.input_validate.specs.Expectations.{is_met, may_be_absent, suits}
use Rattle.laws_validate.specs.Paths.{LeadsToLack, value_at, value_by}
use Rattle.laws_validate.specs.IgnoredMembers.{IsIgnored}
use Rattle.laws_validate.proofs.Joined.{joined}

-- which members are read of the objects to which paths lead, of the value to which a step leads
abbrev pub below : Segment → (List Segment → List Name → Type 0) → List Segment → List Name → Type 0
below part R path names = R (part ∷ path) names

abbrev pub Right : (List Segment → List Name → Type 0) → Problem → Data → List Segment → Type 0
Right R NotRead d path = IsIgnored R d path
Right R (IsMissing wanted) d path = LeadsToLack d path
Right R _ d path = is_some (value_at path d) ≡ true

abbrev pub IsRight : (List Segment → List Name → Type 0) → Data → Finding → Type 0
IsRight R d finding = Right R finding.problem d finding.path

abbrev pub AreRight : (List Segment → List Name → Type 0) → Data → List Finding → Type 0
AreRight R d all = AllByRecursion (IsRight R d) all

-- ---- lists

pub both : (R : List Segment → List Name → Type 0) (d : Data) (xs ys : List Finding) → AreRight R d xs → AreRight R d ys → AreRight R d (xs ++ ys)
both R d [] ys a b = b
both R d (x ∷ xs) ys a b = (a.0, both R d xs ys a.1 b)

-- some findings in an object, with the proof that they are right
abbrev pub Share : (List Segment → List Name → Type 0) → Data → Type 0
Share R d = (findings : List Finding) × (is_some (as_object d) ≡ true → AreRight R d findings)

pub joined_right : (R : List Segment → List Name → Type 0) (d : Data) → is_some (as_object d) ≡ true → (all : List Finding) → AreRight R d all → (parts : List (Share R d))
    → AreRight R d (joined all (map (λ (part : Share R d). part.0) parts))
joined_right R d o all right [] = right
joined_right R d o all right (part ∷ parts) = joined_right R d o (all ++ part.0) (both R d all part.0 right (part.1 o)) parts

one_under : (R : List Segment → List Name → Type 0) (part : Segment) (d e : Data) → value_by part d ≡ Some e → (problem : Problem) (path : List Segment)
    → Right (below part R) problem e path → Right R problem d (part ∷ path)
one_under R part d e is NotRead path h = record {
  front = part ∷ h.front;
  number = h.number;
  names = h.names;
  value = h.value;
  text = h.text;
  reads = h.reads;
  path_is = ap (λ (p : List Segment). part ∷ p) h.path_is;
  value_is = rw is h.value_is;
  text_is = h.text_is;
  unknown = h.unknown;
}
one_under R part d e is (IsMissing wanted) path h = record {
  front = part ∷ h.front;
  name = h.name;
  members = h.members;
  path_is = ap (λ (p : List Segment). part ∷ p) h.path_is;
  object_is = rw is h.object_is;
  lacks = h.lacks;
}
one_under R part d e is problem path h = rw is h

pub all_under : (R : List Segment → List Name → Type 0) (part : Segment) (d e : Data) → value_by part d ≡ Some e → (xs : List Finding)
    → AreRight (below part R) e xs → AreRight R d (map (under part) xs)
all_under R part d e is [] h = tt
all_under R part d e is (x ∷ xs) h = (one_under R part d e is x.problem x.path h.0, all_under R part d e is xs h.1)

-- ---- a value by itself

by_test : (R : List Segment → List Name → Type 0) (d : Data) (b : Bool) (xs : List Finding) (y : Finding) → (b ≡ true → AreRight R d xs) → IsRight R d y
    → AreRight R d (if b then xs else y ∷ [])
by_test R d true xs y h own = h refl
by_test R d false xs y h own = (own, tt)

-- the parts of the findings of a value that has to be an object
pub where_right : (R : List Segment → List Name → Type 0) (wanted : Expected) (d : Data) → (suits wanted d ≡ true → is_some (as_object d) ≡ true) → (first : Share R d) (parts : List (Share R d))
    → AreRight R d (where_suits wanted d (joined first.0 (map (λ (part : Share R d). part.0) parts)))
where_right R wanted d fits first parts =
    by_test R d (suits wanted d) (joined first.0 (map (λ (part : Share R d). part.0) parts)) (finding_here (IsNot wanted))
    (λ e. joined_right R d (fits e) first.0 (first.1 (fits e)) parts) refl

pub unless_right : (R : List Segment → List Name → Type 0) (wanted : Expected) (d : Data) → AreRight R d (unless_suits wanted d)
unless_right R wanted d = by_test R d (suits wanted d) [] (finding_here (IsNot wanted)) (λ e. tt) refl

only_where : (R : List Segment → List Name → Type 0) (d : Data) (b : Bool) (xs : List Finding) → (b ≡ true → AreRight R d xs) → AreRight R d (if b then xs else [])
only_where R d true xs h = h refl
only_where R d false xs h = tt

-- the same for a value that may be another
pub object_right : (R : List Segment → List Name → Type 0) (d : Data) (first : Share R d) (parts : List (Share R d))
    → AreRight R d (if is_some (as_object d) then joined first.0 (map (λ (part : Share R d). part.0) parts) else [])
object_right R d first parts =
    only_where R d (is_some (as_object d)) (joined first.0 (map (λ (part : Share R d). part.0) parts)) (λ o. joined_right R d o first.0 (first.1 o) parts)

-- ---- members

fault_by : (R : List Segment → List Name → Type 0) (ms : Members) (n : Name) (wanted : Expected) (b : Bool) (o : Option Data) → get_member (name_text n) ms ≡ o
    → AreRight R (object ms) (if b then [] else finding_at (Member n) (mismatch wanted o) ∷ [])
fault_by R ms n wanted true o is = tt
fault_by R ms n wanted false None is = (record { front = []; name = n; members = ms; path_is = refl; object_is = refl; lacks = is }, tt)
fault_by R ms n wanted false (Some e) is = (rw is refl, tt)

pub fault_right : (R : List Segment → List Name → Type 0) (rule : MemberRule) (d : Data) → is_some (as_object d) ≡ true → AreRight R d (fault_of d rule)
fault_right R rule null o = absurd cc
fault_right R rule (boolean b) o = absurd cc
fault_right R rule (number z) o = absurd cc
fault_right R rule (string s) o = absurd cc
fault_right R rule (array ds) o = absurd cc
fault_right R rule (object ms) o = fault_by R ms rule.name rule.expected (is_met rule.expected (member_at rule.name (object ms))) (get_member (name_text rule.name) ms) refl

-- the same for a member that may be absent
pub optional_right : (R : List Segment → List Name → Type 0) (rule : MemberRule) (d : Data) → may_be_absent rule.expected ≡ true → AreRight R d (fault_of d rule)
optional_right R rule null e = rw e tt
optional_right R rule (boolean b) e = rw e tt
optional_right R rule (number z) e = rw e tt
optional_right R rule (string s) e = rw e tt
optional_right R rule (array ds) e = rw e tt
optional_right R rule (object ms) e = fault_right R rule (object ms) refl

pub faults_right : (R : List Segment → List Name → Type 0) (table : List MemberRule) (d : Data) → is_some (as_object d) ≡ true → AreRight R d (faults_of table d)
faults_right R [] d o = tt
faults_right R (rule ∷ table) d o = both R d (fault_of d rule) (faults_of table d) (fault_right R rule d o) (faults_right R table d o)

member_there : (o : Option Data) (e : Data) → (o >>= unless_null) ≡ Some e → o ≡ Some e
member_there None e is = absurd cc
member_there (Some null) e is = absurd cc
member_there (Some (boolean b)) e is = is
member_there (Some (number z)) e is = is
member_there (Some (string s)) e is = is
member_there (Some (array ds)) e is = is
member_there (Some (object ms)) e is = is

-- the step to a member leads there
pub at_member : (n : Name) (d e : Data) → member_at n d ≡ Some e → value_by (Member n) d ≡ Some e
at_member n d e is = member_there (get (name_text n) d) e is

inside_by : (R : List Segment → List Name → Type 0) (findings : Data → List Finding) (n : Name) (d : Data) (o : Option Data) → member_at n d ≡ o
    → ((e : Data) → AreRight (below (Member n) R) e (findings e)) → AreRight R d (option_map_or (λ value. map (under (Member n)) (findings value)) o [])
inside_by R findings n d None is h = tt
inside_by R findings n d (Some e) is h = all_under R (Member n) d e (at_member n d e is) (findings e) (h e)

pub inside_right : (R : List Segment → List Name → Type 0) (findings : Data → List Finding) (n : Name) (d : Data)
    → ((e : Data) → AreRight (below (Member n) R) e (findings e)) → AreRight R d (inside findings n d)
inside_right R findings n d h = inside_by R findings n d (member_at n d) refl h

-- ---- items

-- the others stand in the list from that number on
abbrev pub StandFrom : {A : Type 0} → ℕ → List A → List A → Type 0
StandFrom n all xs = (i : ℕ) → slice_get all (n + i) ≡ slice_get xs i

pub first_there : {A : Type 0} (n : ℕ) (all : List A) (x : A) (xs : List A) → StandFrom n all (x ∷ xs) → slice_get all n ≡ Some x
first_there n all x xs there = ap (slice_get all) (let e : n ≡ n + 0 = omega arith in e) ∙ there 0

pub rest_there : {A : Type 0} (n : ℕ) (all : List A) (x : A) (xs : List A) → StandFrom n all (x ∷ xs) → StandFrom (suc n) all xs
rest_there n all x xs there i = ap (slice_get all) (let e : suc n + i ≡ n + suc i = omega arith in e) ∙ there (suc i)

pub whole_there : {A : Type 0} (all : List A) → StandFrom 0 all all
whole_there all i = ap (slice_get all) (let e : 0 + i ≡ i = omega arith in e)

items_by : (R : List Segment → List Name → Type 0) (findings : ℕ → Data → List Finding) (d : Data) → ((m : ℕ) (e : Data) → AreRight (below (Item m) R) e (findings m e))
    → (n : ℕ) (ds : List Data) → StandFrom n (list_of (items_in d)) ds → AreRight R d (items_from findings n ds)
items_by R findings d h n [] there = tt
items_by R findings d h n (e ∷ ds) there =
    both R d (map (under (Item n)) (findings n e)) (items_from findings (suc n) ds)
    (all_under R (Item n) d e (first_there n (list_of (items_in d)) e ds there) (findings n e) (h n e))
    (items_by R findings d h (suc n) ds (rest_there n (list_of (items_in d)) e ds there))

pub items_right : (R : List Segment → List Name → Type 0) (findings : ℕ → Data → List Finding) (d : Data)
    → ((m : ℕ) (e : Data) → AreRight (below (Item m) R) e (findings m e)) → AreRight R d (in_items findings d)
items_right R findings d h = items_by R findings d h 0 (list_of (items_in d)) (whole_there (list_of (items_in d)))

pub list_right : (R : List Segment → List Name → Type 0) (findings : ℕ → Data → List Finding) (rule : MemberRule) (d : Data) → is_some (as_object d) ≡ true
    → ((m : ℕ) (e : Data) → AreRight (below (Item m) (below (Member rule.name) R)) e (findings m e)) → AreRight R d (in_list findings rule d)
list_right R findings rule d o h =
    both R d (fault_of d rule) (inside (in_items findings) rule.name d) (fault_right R rule d o)
    (inside_right R (in_items findings) rule.name d (λ e. items_right (below (Member rule.name) R) findings e h))

pub after_right : (R : List Segment → List Name → Type 0) (findings : List Data → Data → List Finding) (d : Data)
    → ((before : List Data) (m : ℕ) (e : Data) → AreRight (below (Item m) R) e (findings before e))
    → (before ds : List Data) → StandFrom (length before) (list_of (items_in d)) ds → AreRight R d (items_after findings before ds)
after_right R findings d h before [] there = tt
after_right R findings d h before (e ∷ ds) there =
    let n : ℕ = length before in
    let longer : suc n ≡ length (before ++ e ∷ []) = omega (arith, length-append before (e ∷ [])) in
    both R d (map (under (Item n)) (findings before e)) (items_after findings (before ++ e ∷ []) ds)
    (all_under R (Item n) d e (first_there n (list_of (items_in d)) e ds there) (findings before e) (h before n e))
    (after_right R findings d h (before ++ e ∷ []) ds
    (subst (λ (k : ℕ). StandFrom k (list_of (items_in d)) ds) longer (rest_there n (list_of (items_in d)) e ds there)))

listed_by : (R : List Segment → List Name → Type 0) (n : Name) (d : Data) (f : List Data → List Finding) (o : Option Data) → member_at n d ≡ o → f [] ≡ []
    → ((e : Data) → AreRight (below (Member n) R) e (f (list_of (items_in e))))
    → AreRight R d (map (under (Member n)) (f (option_map_or (λ value. list_of (items_in value)) o [])))
listed_by R n d f None is none h = rw none tt
listed_by R n d f (Some e) is none h = all_under R (Member n) d e (at_member n d e is) (f (list_of (items_in e))) (h e)

-- the findings of a member's items, if there are some
pub listed_right : (R : List Segment → List Name → Type 0) (n : Name) (d : Data) (f : List Data → List Finding) → f [] ≡ []
    → ((e : Data) → AreRight (below (Member n) R) e (f (list_of (items_in e)))) → AreRight R d (map (under (Member n)) (f (items_at n d)))
listed_right R n d f none h = listed_by R n d f (member_at n d) refl none h

item_by : (R : List Segment → List Name → Type 0) (n : Name) (d : Data) (i : ℕ) (e : Data) (xs : List Finding) (o : Option Data) → member_at n d ≡ o
    → slice_get (option_map_or (λ value. list_of (items_in value)) o []) i ≡ Some e → AreRight (below (Item i) (below (Member n) R)) e xs
    → AreRight R d (map (under (Member n)) (map (under (Item i)) xs))
item_by R n d i e xs None is at h = absurd cc
item_by R n d i e xs (Some list) is at h =
    all_under R (Member n) d list (at_member n d list is) (map (under (Item i)) xs) (all_under (below (Member n) R) (Item i) list e at xs h)

-- the findings of one item of a member
pub item_right : (R : List Segment → List Name → Type 0) (n : Name) (d : Data) (i : ℕ) (e : Data) (xs : List Finding) → slice_get (items_at n d) i ≡ Some e
    → AreRight (below (Item i) (below (Member n) R)) e xs → AreRight R d (map (under (Member n)) (map (under (Item i)) xs))
item_right R n d i e xs at h = item_by R n d i e xs (member_at n d) refl at h

pub within : {A : Type 0} (xs : List A) (i : ℕ) → i < length xs → (x : A) × (slice_get xs i ≡ Some x)
within [] i l = absurd (omega (arith, l))
within (x ∷ xs) zero l = (x, refl)
within (x ∷ xs) (suc i) l = within xs i (omega (arith, l))

-- ---- members that nobody reads

one_unread : (R : List Segment → List Name → Type 0) (names : List Name) (d : Data) → R [] names → (n : ℕ) (text : List ℕ) (b : Bool) → is_known names text ≡ b
    → slice_get (texts_in (members_in d)) n ≡ Some text → AreRight R d (if b then [] else finding_at (Other n) NotRead ∷ [])
one_unread R names d r n text true e is = tt
one_unread R names d r n text false e is =
    (record { front = []; number = n; names = names; value = d; text = text; reads = r; path_is = refl; value_is = refl; text_is = is; unknown = e }, tt)

unread_by : (R : List Segment → List Name → Type 0) (names : List Name) (d : Data) → R [] names → (n : ℕ) (texts : List (List ℕ)) → StandFrom n (texts_in (members_in d)) texts
    → AreRight R d (ignored_from names n texts)
unread_by R names d r n [] there = tt
unread_by R names d r n (text ∷ texts) there =
    both R d (unless_known names n text) (ignored_from names (suc n) texts)
    (one_unread R names d r n text (is_known names text) refl (first_there n (texts_in (members_in d)) text texts there))
    (unread_by R names d r (suc n) texts (rest_there n (texts_in (members_in d)) text texts there))

pub unread_right : (R : List Segment → List Name → Type 0) (names : List Name) (d : Data) → R [] names → AreRight R d (ignored names d)
unread_right R names d r = unread_by R names d r 0 (texts_in (members_in d)) (whole_there (texts_in (members_in d)))

-- ---- parts of the findings of an object

abbrev pub of_table : (R : List Segment → List Name → Type 0) (table : List MemberRule) (d : Data) → Share R d
of_table R table d = (faults_of table d, faults_right R table d)

abbrev pub of_member : (R : List Segment → List Name → Type 0) (rule : MemberRule) (d : Data) → Share R d
of_member R rule d = (fault_of d rule, fault_right R rule d)

abbrev pub within_member : (R : List Segment → List Name → Type 0) (findings : Data → List Finding) (n : Name) (d : Data) → ((e : Data) → AreRight (below (Member n) R) e (findings e)) → Share R d
within_member R findings n d h = (inside findings n d, λ o. inside_right R findings n d h)

abbrev pub within_list : (R : List Segment → List Name → Type 0) (findings : ℕ → Data → List Finding) (rule : MemberRule) (d : Data)
    → ((m : ℕ) (e : Data) → AreRight (below (Item m) (below (Member rule.name) R)) e (findings m e)) → Share R d
within_list R findings rule d h = (in_list findings rule d, λ o. list_right R findings rule d o h)

abbrev pub of_unread : (R : List Segment → List Name → Type 0) (names : List Name) (d : Data) → R [] names → Share R d
of_unread R names d r = (ignored names d, λ o. unread_right R names d r)
