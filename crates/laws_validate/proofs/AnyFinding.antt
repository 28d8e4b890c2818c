-- Some finding of a list passes a test.
use Rattle.std.proofs.Common.{◌≡◌, ℕ, zero, suc, List, [], ◌∷◌, ◌++◌, map, slice_get, Bool, true, false, ◌&&◌, ◌||◌, Option, Some, refl, ap, ◌∙◌}
use Rattle.std.specs.Prelude.{if◌then◌else◌}
use Rattle.std.specs.List.{AllByRecursion, list_all, list_any}
use Rattle.std.proofs.lemmas.List.Folds.{list_any-append}
use Rattle.serde_json.specs.Data.{Data}
use Rattle.serde_json.specs.Find.{get}
use Rattle.apply_json.specs.Tree.{◌>>=◌, unless_null}
use Rattle.input_validate.specs.declared.findings.finding.Finding.{Finding}
use Rattle.input_validate.specs.declared.findings.path.Segment.{Segment}
use Rattle.input_validate.specs.declared.findings.path.Segment.TheVariants.{Member}
use Rattle.input_validate.specs.declared.findings.expected.Expected.{Expected}
use Rattle.input_validate.specs.declared.rules.rule.MemberRule.{MemberRule}
use Rattle.input_validate.specs.Findings.{finding_at, under}
use Rattle.input_validate.specs.Names.{name_text}
use Rattle.input_validate.specs.Rules.{fault_of, faults_of, mismatch, member_at, where_suits}
use Rattle.input_validate.specs.Expectations.{is_met, suits}
use Rattle.laws_validate.proofs.Joined.{joined}

-- one of two tests fails: the first, or then the second
one_fails : (b c : Bool) (G : Type 0) → (b && c) ≡ false → (b ≡ false → G) → (b ≡ true → c ≡ false → G) → G
one_fails false c G e first second = first refl
one_fails true c G e first second = second refl e

or_true : (a b : Bool) → b ≡ true → (a || b) ≡ true
or_true true b e = refl
or_true false b e = e

pub any_left : (p : Finding → Bool) (xs ys : List Finding) → list_any p xs ≡ true → list_any p (xs ++ ys) ≡ true
any_left p xs ys e = list_any-append p xs ys ∙ ap (λ (b : Bool). b || list_any p ys) e

pub any_right : (p : Finding → Bool) (xs ys : List Finding) → list_any p ys ≡ true → list_any p (xs ++ ys) ≡ true
any_right p xs ys e = list_any-append p xs ys ∙ or_true (list_any p xs) (list_any p ys) e

either : (a b c d : Bool) → (a ≡ true → c ≡ true) → (b ≡ true → d ≡ true) → (a || b) ≡ true → (c || d) ≡ true
either true b c d first second e = ap (λ (x : Bool). x || d) (first refl)
either false b c d first second e = or_true c d (second e)

any_first : (p : Finding → Bool) (all : List Finding) (parts : List (List Finding)) → list_any p all ≡ true → list_any p (joined all parts) ≡ true
any_first p all [] e = e
any_first p all (part ∷ parts) e = any_first p (all ++ part) parts (any_left p all part e)

-- the finding is in the part with this number
pub any_part : (p : Finding → Bool) (all : List Finding) (parts : List (List Finding)) (n : ℕ) (part : List Finding) → slice_get parts n ≡ Some part
    → list_any p part ≡ true → list_any p (joined all parts) ≡ true
any_part p all [] n part is e = absurd cc
any_part p all (x ∷ parts) zero part is e =
    let same : x ≡ part = cc in
    any_first p (all ++ x) parts (any_right p all x (ap (list_any p) same ∙ e))
any_part p all (x ∷ parts) (suc n) part is e = any_part p (all ++ x) parts n part is e

-- a test that follows from another test
pub any_implied : (p q : Finding → Bool) → ((x : Finding) → p x ≡ true → q x ≡ true) → (xs : List Finding) → list_any p xs ≡ true → list_any q xs ≡ true
any_implied p q implied [] e = e
any_implied p q implied (x ∷ xs) e = either (p x) (list_any p xs) (q x) (list_any q xs) (implied x) (any_implied p q implied xs) e

pub first_is : (p : Finding → Bool) (x : Finding) (xs : List Finding) → p x ≡ true → list_any p (x ∷ xs) ≡ true
first_is p x xs is = ap (λ (b : Bool). b || list_any p xs) is

-- the test of a finding in the value to which a step leads
abbrev pub below : Segment → (Finding → Bool) → Finding → Bool
below part p finding = p (under part finding)

all_under : (p : Finding → Bool) (part : Segment) (xs : List Finding) → list_any p (map (under part) xs) ≡ list_any (below part p) xs
all_under p part [] = refl
all_under p part (x ∷ xs) = ap (λ (b : Bool). p (under part x) || b) (all_under p part xs)

pub any_under : (p : Finding → Bool) (part : Segment) (xs : List Finding) → list_any (below part p) xs ≡ true → list_any p (map (under part) xs) ≡ true
any_under p part xs e = all_under p part xs ∙ e

-- the finding of a broken rule
pub violation_first : (p : Finding → Bool) (holds : Bool) (x : Finding) (rest : List Finding) → p x ≡ true → holds ≡ true
    → list_any p ((if holds then x ∷ [] else []) ++ rest) ≡ true
violation_first p true x rest is holds = first_is p x rest is
violation_first p false x rest is holds = absurd cc

-- a value is not what it has to be, or has findings
pub where_reported : (p : Finding → Bool) (b : Bool) (xs : List Finding) (y : Finding) → p y ≡ true → (b ≡ true → list_any p xs ≡ true)
    → list_any p (if b then xs else y ∷ []) ≡ true
where_reported p true xs y is inner = inner refl
where_reported p false xs y is inner = first_is p y [] is

-- the value is what it has to be
pub suited : (p : Finding → Bool) (wanted : Expected) (d : Data) (xs : List Finding) → suits wanted d ≡ true → list_any p xs ≡ true
    → list_any p (where_suits wanted d xs) ≡ true
suited p wanted d xs fits e = rw fits e

-- a member that is not what it has to be is reported
abbrev pub IsReported : (Finding → Bool) → MemberRule → Type 0
IsReported p rule = (o : Option Data) → is_met rule.expected (o >>= unless_null) ≡ false → p (finding_at (Member rule.name) (mismatch rule.expected o)) ≡ true

pub each_reported : (p : Finding → Bool) → ((it : MemberRule) → IsReported p it) → (table : List MemberRule) → AllByRecursion (IsReported p) table
each_reported p reported [] = tt
each_reported p reported (rule ∷ table) = (reported rule, each_reported p reported table)

unmet_reported : (p : Finding → Bool) (met : Bool) (x : Finding) → p x ≡ true → met ≡ false → list_any p (if met then [] else x ∷ []) ≡ true
unmet_reported p true x is unmet = absurd cc
unmet_reported p false x is unmet = first_is p x [] is

pub faults_reported : (p : Finding → Bool) (table : List MemberRule) (d : Data) → AllByRecursion (IsReported p) table
    → list_all (λ rule. is_met rule.expected (member_at rule.name d)) table ≡ false
    → list_any p (faults_of table d) ≡ true
faults_reported p [] d reported e = absurd cc
faults_reported p (rule ∷ table) d reported e =
    one_fails (is_met rule.expected (member_at rule.name d)) (list_all (λ it. is_met it.expected (member_at it.name d)) table) _ e
    (λ unmet. any_left p (fault_of d rule) (faults_of table d)
    (unmet_reported p (is_met rule.expected (member_at rule.name d)) (finding_at (Member rule.name) (mismatch rule.expected (get (name_text rule.name) d)))
    (reported.0 (get (name_text rule.name) d) unmet) unmet))
    (λ met unmet. any_right p (fault_of d rule) (faults_of table d) (faults_reported p table d reported.1 unmet))
