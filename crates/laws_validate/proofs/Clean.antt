-- Lists of findings without an error; warnings may be among them.
use Rattle.std.proofs.Common.{◌≡◌, ℕ, suc, List, [], ◌∷◌, ◌++◌, map, Bool, true, false, not, ◌&&◌, Option, Some, None, refl, sym, ap, ◌∙◌, if◌then◌else◌}
use Rattle.std.specs.List.{list_all, list_any}
use Rattle.std.specs.Option.{option_map_or}
use Rattle.std.proofs.lemmas.List.Folds.{list_any-append}
use Rattle.serde_json.specs.Data.{Data}
use Rattle.serde_json.specs.Find.{get}
use Rattle.apply_json.specs.ShallowView.{items_in, members_in}
use Rattle.apply_json.specs.Tree.{list_of}
use Rattle.input_validate.specs.declared.findings.finding.Finding.{Finding}
use Rattle.input_validate.specs.declared.findings.name.Name.{Name}
use Rattle.input_validate.specs.declared.findings.path.Segment.{Segment}
use Rattle.input_validate.specs.declared.findings.path.Segment.TheVariants.{Item, Member, Other}
use Rattle.input_validate.specs.declared.findings.expected.Expected.{Expected}
use Rattle.input_validate.specs.declared.findings.problem.Problem.{Problem}
use Rattle.input_validate.specs.declared.findings.problem.Problem.TheVariants.{IsNot, NotRead}
use Rattle.input_validate.specs.declared.rules.rule.MemberRule.{MemberRule}
use Rattle.input_validate.specs.Findings.{finding_at, finding_here, is_refusal, is_refusal_of, under}
use Rattle.input_validate.specs.Names.{name_text}
use Rattle.input_validate.specs.declared.rules.violation.Violation.{Violation}
use Rattle.input_validate.specs.Rules.{fault_of, faults_of, violation_finding, in_items, in_list, inside, is_known, items_from, mismatch, violation_findings}
use Rattle.input_validate.specs.Rules.{member_at, place_of, unless_suits, ignored, texts_in, ignored_from, where_suits}
use Rattle.input_validate.specs.Expectations.{is_met, suits}
use Rattle.input_validate.proofs.Options.{and_left, and_right, and_true, not_or, crossed}
use Rattle.laws_validate.proofs.Joined.{joined}

-- no run refuses for one of them
abbrev pub clean : List Finding → Bool
clean all = not (list_any is_refusal all)

pub clean-append : (xs ys : List Finding) → clean (xs ++ ys) ≡ (clean xs && clean ys)
clean-append xs ys = ap not (list_any-append is_refusal xs ys) ∙ not_or (list_any is_refusal xs) (list_any is_refusal ys)

-- two parts
pub appended : (xs ys : List Finding) (a b : Bool) → clean xs ≡ a → clean ys ≡ b → clean (xs ++ ys) ≡ (a && b)
appended xs ys a b one other = clean-append xs ys ∙ ap (λ (x : Bool). x && clean ys) one ∙ ap (λ (x : Bool). a && x) other

-- a part, clean where a test holds
abbrev pub Cleared : Type 0
Cleared = (findings : List Finding) × (test : Bool) × (clean findings ≡ test)

abbrev pub all_of : Bool → List Cleared → Bool
all_of a [] = a
all_of a (part ∷ parts) = all_of (a && part.1) parts

-- several parts
pub clean-joined : (xs : List Finding) (a : Bool) (parts : List Cleared) → clean xs ≡ a → clean (joined xs (map (λ (part : Cleared). part.0) parts)) ≡ all_of a parts
clean-joined xs a [] e = e
clean-joined xs a (part ∷ parts) e = clean-joined (xs ++ part.0) (a && part.1) parts (appended xs part.0 a part.1 e part.2)

pub clean-under : (part : Segment) (xs : List Finding) → clean (map (under part) xs) ≡ clean xs
clean-under part [] = refl
clean-under part (x ∷ xs) =
    not_or (is_refusal x) (list_any is_refusal (map (under part) xs))
    ∙ ap (λ (b : Bool). not (is_refusal x) && b) (clean-under part xs)
    ∙ sym (not_or (is_refusal x) (list_any is_refusal xs))

-- a warning more or less
by_unread : (b : Bool) (n : ℕ) (xs : List Finding) → clean ((if b then [] else finding_at (Other n) NotRead ∷ []) ++ xs) ≡ clean xs
by_unread true n xs = refl
by_unread false n xs = refl

pub clean-ignored_from : (names : List Name) (n : ℕ) (texts : List (List ℕ)) → clean (ignored_from names n texts) ≡ true
clean-ignored_from names n [] = refl
clean-ignored_from names n (text ∷ texts) = by_unread (is_known names text) n (ignored_from names (suc n) texts) ∙ clean-ignored_from names (suc n) texts

pub clean-ignored : (names : List Name) (d : Data) → clean (ignored names d) ≡ true
clean-ignored names d = clean-ignored_from names 0 (texts_in (members_in d))

-- ---- members

pub mismatch_refuses : (wanted : Expected) (o : Option Data) → is_refusal_of (mismatch wanted o) ≡ true
mismatch_refuses wanted None = refl
mismatch_refuses wanted (Some d) = refl

by_met : (b : Bool) (x : Finding) → is_refusal x ≡ true → clean (if b then [] else x ∷ []) ≡ b
by_met true x is = refl
by_met false x is = rw is refl

pub clean-fault_of : (d : Data) (rule : MemberRule) → clean (fault_of d rule) ≡ is_met rule.expected (member_at rule.name d)
clean-fault_of d rule =
    by_met (is_met rule.expected (member_at rule.name d)) (finding_at (Member rule.name) (mismatch rule.expected (get (name_text rule.name) d)))
    (mismatch_refuses rule.expected (get (name_text rule.name) d))

by_test : (b : Bool) (x : Finding) (xs : List Finding) → is_refusal x ≡ true → clean (if b then xs else x ∷ []) ≡ (b && clean xs)
by_test true x xs is = refl
by_test false x xs is = rw is refl

pub clean-where_suits : (wanted : Expected) (d : Data) (xs : List Finding) → clean (where_suits wanted d xs) ≡ (suits wanted d && clean xs)
clean-where_suits wanted d xs = by_test (suits wanted d) (finding_here (IsNot wanted)) xs refl

pub clean-unless_suits : (wanted : Expected) (d : Data) → clean (unless_suits wanted d) ≡ suits wanted d
clean-unless_suits wanted d = by_met (suits wanted d) (finding_here (IsNot wanted)) refl

-- what is looked at only where a test holds
pub clean-where : (b : Bool) (xs : List Finding) (has : Bool) → clean xs ≡ has → clean (if b then xs else []) ≡ (if b then has else true)
clean-where true xs has is = is
clean-where false xs has is = refl

-- a value has no error if it passes a test
abbrev pub IsCleanWhere : (Data → List Finding) → (Data → Bool) → Type 0
IsCleanWhere findings test = (d : Data) → clean (findings d) ≡ test d

pub clean-items_from : (findings : ℕ → Data → List Finding) (test : Data → Bool) → ((n : ℕ) → IsCleanWhere (findings n) test)
    → (n : ℕ) (ds : List Data) → clean (items_from findings n ds) ≡ list_all test ds
clean-items_from findings test is n [] = refl
clean-items_from findings test is n (d ∷ ds) =
    clean-append (map (under (Item n)) (findings n d)) (items_from findings (suc n) ds)
    ∙ ap (λ (b : Bool). b && clean (items_from findings (suc n) ds)) (clean-under (Item n) (findings n d) ∙ is n d)
    ∙ ap (λ (b : Bool). test d && b) (clean-items_from findings test is (suc n) ds)

-- a member passes a test, or is absent
abbrev pub is_absent_or : (Data → Bool) → Option Data → Bool
is_absent_or test None = true
is_absent_or test (Some d) = test d

-- the items of a value pass the test
abbrev pub all_items : (Data → Bool) → Data → Bool
all_items test d = list_all test (list_of (items_in d))

inside_by : (findings : Data → List Finding) (test : Data → Bool) → IsCleanWhere findings test → (at : Name) (o : Option Data)
    → clean (option_map_or (λ value. map (under (Member at)) (findings value)) o []) ≡ is_absent_or test o
inside_by findings test is at None = refl
inside_by findings test is at (Some d) = clean-under (Member at) (findings d) ∙ is d

pub clean-inside : (findings : Data → List Finding) (test : Data → Bool) → IsCleanWhere findings test → (name : Name) (d : Data)
    → clean (inside findings name d) ≡ is_absent_or test (member_at name d)
clean-inside findings test is name d = inside_by findings test is name (member_at name d)

pub clean-in_list : (findings : ℕ → Data → List Finding) (test : Data → Bool) → ((n : ℕ) → IsCleanWhere (findings n) test) → (rule : MemberRule) (d : Data)
    → clean (in_list findings rule d) ≡ (is_met rule.expected (member_at rule.name d) && is_absent_or (all_items test) (member_at rule.name d))
clean-in_list findings test is rule d =
    clean-append (fault_of d rule) (inside (in_items findings) rule.name d)
    ∙ ap (λ (b : Bool). b && clean (inside (in_items findings) rule.name d)) (clean-fault_of d rule)
    ∙ ap (λ (b : Bool). is_met rule.expected (member_at rule.name d) && b)
    (clean-inside (in_items findings) (all_items test) (λ e. clean-items_from findings test is 0 (list_of (items_in e))) rule.name d)

all_both : (p q r : Data → Bool) → ((k : Data) → (p k && q k) ≡ r k) → (ks : List Data) → (list_all p ks && list_all q ks) ≡ list_all r ks
all_both p q r each [] = refl
all_both p q r each (k ∷ ks) =
    crossed (p k) (list_all p ks) (q k) (list_all q ks)
    ∙ ap (λ (b : Bool). b && (list_all p ks && list_all q ks)) (each k) ∙ ap (λ (b : Bool). r k && b) (all_both p q r each ks)

-- two tests of the items of a value make one
pub items_both : (p q r : Data → Bool) → ((k : Data) → (p k && q k) ≡ r k) → (o : Option Data)
    → (is_absent_or (all_items p) o && is_absent_or (all_items q) o) ≡ is_absent_or (all_items r) o
items_both p q r each None = refl
items_both p q r each (Some d) = all_both p q r each (list_of (items_in d))

-- each member of a table is what it has to be
pub clean-faults_of : (table : List MemberRule) (d : Data) → clean (faults_of table d) ≡ list_all (λ rule. is_met rule.expected (member_at rule.name d)) table
clean-faults_of [] d = refl
clean-faults_of (rule ∷ table) d =
    clean-append (fault_of d rule) (faults_of table d)
    ∙ ap (λ (b : Bool). b && clean (faults_of table d)) (clean-fault_of d rule)
    ∙ ap (λ (b : Bool). is_met rule.expected (member_at rule.name d) && b) (clean-faults_of table d)

pub clean-then_unread : (xs : List Finding) (names : List Name) (d : Data) → clean (xs ++ ignored names d) ≡ clean xs
clean-then_unread xs names d =
    clean-append xs (ignored names d) ∙ ap (λ (b : Bool). clean xs && b) (clean-ignored names d) ∙ and_true (clean xs)

-- ---- tests

place_refuses : (at : Option Name) (problem : Problem) → is_refusal_of problem ≡ true → is_refusal (place_of at problem) ≡ true
place_refuses None problem is = is
place_refuses (Some member) problem is = is

by_violation : (holds : Bool) (x : Finding) → is_refusal x ≡ true → clean (if holds then x ∷ [] else []) ≡ not holds
by_violation true x is = rw is refl
by_violation false x is = refl

pub clean-violation_findings : (violations : List Violation) → list_all (λ violation. is_refusal_of violation.problem) violations ≡ true → clean (violation_findings violations) ≡ list_all (λ violation. not violation.holds) violations
clean-violation_findings [] are = refl
clean-violation_findings (violation ∷ violations) are =
    clean-append (violation_finding violation) (violation_findings violations)
    ∙ ap (λ (b : Bool). b && clean (violation_findings violations)) (by_violation violation.holds (place_of violation.at violation.problem) (place_refuses violation.at violation.problem (and_left (is_refusal_of violation.problem) _ are)))
    ∙ ap (λ (b : Bool). not violation.holds && b) (clean-violation_findings violations (and_right (is_refusal_of violation.problem) _ are))
