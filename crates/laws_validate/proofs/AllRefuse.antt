-- Lists of findings that all refuse, or that are all warnings.
use Rattle.std.proofs.Common.{◌≡◌, ℕ, suc, List, [], ◌∷◌, ◌++◌, length, map, take, Bool, true, false, Option, Some, None, if◌then◌else◌, refl}
use Rattle.std.specs.List.{AllByRecursion, list_any}
use Rattle.std.specs.Option.{option_map_or}
use Rattle.serde_json.specs.Data.{Data}
use Rattle.serde_json.specs.Find.{get}
use Rattle.apply_json.specs.ShallowView.{items_in}
use Rattle.apply_json.specs.Tree.{list_of}
use Rattle.input_validate.specs.declared.findings.expected.Expected.{Expected}
use Rattle.input_validate.specs.declared.findings.finding.Finding.{Finding}
use Rattle.input_validate.specs.declared.findings.name.Name.{Name}
use Rattle.input_validate.specs.declared.findings.path.Segment.{Segment}
use Rattle.input_validate.specs.declared.findings.path.Segment.TheVariants.{Item, Member}
use Rattle.input_validate.specs.declared.findings.problem.Problem.{Problem}
use Rattle.input_validate.specs.declared.rules.rule.MemberRule.{MemberRule}
use Rattle.input_validate.specs.declared.rules.violation.Violation.{Violation}
use Rattle.input_validate.specs.Expectations.{is_met, suits}
use Rattle.input_validate.specs.Findings.{finding_at, is_refusal, is_refusal_of, under}
use Rattle.input_validate.specs.Names.{name_text}
use Rattle.input_validate.specs.Rules.{fault_of, faults_of, in_items, inside, items_after, items_from, member_at, mismatch, place_of, violation_finding, violation_findings, where_suits}

-- a run refuses for each of them, or for none
abbrev pub AreAll : (refuse : Bool) → List Finding → Type 0
AreAll refuse all = AllByRecursion (λ (finding : Finding). is_refusal finding ≡ refuse) all

pub both_all : (r : Bool) (xs ys : List Finding) → AreAll r xs → AreAll r ys → AreAll r (xs ++ ys)
both_all r [] ys a b = b
both_all r (x ∷ xs) ys a b = (a.0, both_all r xs ys a.1 b)

pub under_all : (r : Bool) (part : Segment) (xs : List Finding) → AreAll r xs → AreAll r (map (under part) xs)
under_all r part [] h = tt
under_all r part (x ∷ xs) h = (h.0, under_all r part xs h.1)

pub first_all : (r : Bool) (xs : List Finding) → AreAll r xs → AreAll r (take 1 xs)
first_all r [] h = tt
first_all r (x ∷ xs) h = (h.0, tt)

pub choice_all : (r b : Bool) (xs ys : List Finding) → AreAll r xs → AreAll r ys → AreAll r (if b then xs else ys)
choice_all r true xs ys a c = a
choice_all r false xs ys a c = c

-- no warning is a refusal
pub no_refusal : (xs : List Finding) → AreAll false xs → list_any is_refusal xs ≡ false
no_refusal [] h = refl
no_refusal (x ∷ xs) h = rw h.0 (no_refusal xs h.1)

-- ---- walks

items_from_all : (r : Bool) (findings : ℕ → Data → List Finding) → ((n : ℕ) (d : Data) → AreAll r (findings n d)) → (n : ℕ) (ds : List Data) → AreAll r (items_from findings n ds)
items_from_all r findings h n [] = tt
items_from_all r findings h n (d ∷ ds) =
    both_all r (map (under (Item n)) (findings n d)) (items_from findings (suc n) ds) (under_all r (Item n) (findings n d) (h n d)) (items_from_all r findings h (suc n) ds)

pub items_after_all : (r : Bool) (findings : List Data → Data → List Finding) → ((before : List Data) (d : Data) → AreAll r (findings before d))
    → (before ds : List Data) → AreAll r (items_after findings before ds)
items_after_all r findings h before [] = tt
items_after_all r findings h before (d ∷ ds) =
    both_all r (map (under (Item (length before))) (findings before d)) (items_after findings (before ++ d ∷ []) ds)
    (under_all r (Item (length before)) (findings before d) (h before d)) (items_after_all r findings h (before ++ d ∷ []) ds)

inside_by : (r : Bool) (findings : Data → List Finding) → ((d : Data) → AreAll r (findings d)) → (member : Name) (o : Option Data)
    → AreAll r (option_map_or (λ value. map (under (Member member)) (findings value)) o [])
inside_by r findings h member None = tt
inside_by r findings h member (Some d) = under_all r (Member member) (findings d) (h d)

pub inside_all : (r : Bool) (findings : Data → List Finding) → ((d : Data) → AreAll r (findings d)) → (member : Name) (d : Data) → AreAll r (inside findings member d)
inside_all r findings h member d = inside_by r findings h member (member_at member d)

-- the findings of each item of a member
pub each_all : (r : Bool) (findings : Data → List Finding) → ((d : Data) → AreAll r (findings d)) → (member : Name) (d : Data)
    → AreAll r (inside (in_items (λ number. findings)) member d)
each_all r findings h member d =
    inside_all r (in_items (λ number. findings)) (λ list. items_from_all r (λ number. findings) (λ n e. h e) 0 (list_of (items_in list))) member d

-- ---- tests

place_all : (r : Bool) (at : Option Name) (problem : Problem) → is_refusal_of problem ≡ r → is_refusal (place_of at problem) ≡ r
place_all r None problem h = h
place_all r (Some member) problem h = h

violation_all : (r holds : Bool) (at : Option Name) (problem : Problem) → is_refusal_of problem ≡ r → AreAll r (if holds then place_of at problem ∷ [] else [])
violation_all r true at problem h = (place_all r at problem h, tt)
violation_all r false at problem h = tt

pub violations_all : (r : Bool) (violations : List Violation) → AllByRecursion (λ (violation : Violation). is_refusal_of violation.problem ≡ r) violations
    → AreAll r (violation_findings violations)
violations_all r [] h = tt
violations_all r (violation ∷ violations) h =
    both_all r (violation_finding violation) (violation_findings violations) (violation_all r violation.holds violation.at violation.problem h.0) (violations_all r violations h.1)

-- ---- members and kinds

mismatch_refuses : (wanted : Expected) (o : Option Data) → is_refusal_of (mismatch wanted o) ≡ true
mismatch_refuses wanted None = refl
mismatch_refuses wanted (Some d) = refl

fault_by : (met : Bool) (member : Name) (problem : Problem) → is_refusal_of problem ≡ true → AreAll true (if met then [] else finding_at (Member member) problem ∷ [])
fault_by true member problem h = tt
fault_by false member problem h = (h, tt)

fault_refuses : (d : Data) (rule : MemberRule) → AreAll true (fault_of d rule)
fault_refuses d rule =
    fault_by (is_met rule.expected (member_at rule.name d)) rule.name (mismatch rule.expected (get (name_text rule.name) d)) (mismatch_refuses rule.expected (get (name_text rule.name) d))

pub faults_refuse : (table : List MemberRule) (d : Data) → AreAll true (faults_of table d)
faults_refuse [] d = tt
faults_refuse (rule ∷ table) d = both_all true (fault_of d rule) (faults_of table d) (fault_refuses d rule) (faults_refuse table d)

pub suits_refuse : (wanted : Expected) (d : Data) (xs : List Finding) → AreAll true xs → AreAll true (where_suits wanted d xs)
suits_refuse wanted d xs h = choice_all true (suits wanted d) xs _ h (refl, tt)
