-- The findings of tests stand at their places: if a rule is broken, the member that the error names
-- is there.
use Rattle.std.proofs.Common.{◌≡◌, ℕ, ◌<◌, List, [], ◌∷◌, length, Bool, true, false, is_some, Option, Some, None, if◌then◌else◌, refl, arith}
use Rattle.std.specs.Prelude.{nat_lt}
use Rattle.std.specs.List.{AllByRecursion}
use Rattle.std.specs.Option.{option_and_then, option_map_or}
use Rattle.std.proofs.lemmas.Bool.{ltb-true}
use Rattle.serde_json.specs.Data.{Data}
use Rattle.serde_json.specs.Find.{as_number, as_str, as_u64, get}
use Rattle.apply_json.specs.ShallowView.{items_in}
use Rattle.apply_json.specs.Tree.{◌>>=◌, list_of, non_empty_text_of, text_of, unless_empty, unless_null}
use Rattle.input_validate.specs.declared.findings.name.Name.{Name}
use Rattle.input_validate.specs.declared.findings.path.Segment.{Segment}
use Rattle.input_validate.specs.declared.findings.path.Segment.TheVariants.{Member}
use Rattle.input_validate.specs.declared.findings.problem.Problem.{Problem}
use Rattle.input_validate.specs.declared.findings.problem.Problem.TheVariants.{IsMissing, NotRead}
use Rattle.input_validate.specs.declared.rules.violation.Violation.{Violation}
use Rattle.input_validate.specs.Names.{name_text}
use Rattle.input_validate.specs.ScriptFindings.{is_over, whole_at}
use Rattle.input_validate.specs.Rules.{violation_finding, items_at, violation_findings, member_at, place_of}
use Rattle.laws_validate.specs.Paths.{value_at}
use Rattle.laws_validate.proofs.Placing.{AreRight, Right, Share, both}

-- the problem is neither a missing member nor a warning
abbrev pub is_plain : Problem → Bool
is_plain NotRead = false
is_plain (IsMissing wanted) = false
is_plain _ = true

pub plain_right : (R : List Segment → List Name → Type 0) (problem : Problem) (d : Data) (path : List Segment) → is_plain problem ≡ true → is_some (value_at path d) ≡ true → Right R problem d path
plain_right R NotRead d path p h = absurd cc
plain_right R (IsMissing wanted) d path p h = absurd cc
plain_right R problem d path p h = h

-- the member is there, or none is named
abbrev pub is_there : Option Name → Data → Bool
is_there None d = true
is_there (Some n) d = is_some (get (name_text n) d)

abbrev pub HasPlace : Data → Violation → Type 0
HasPlace d violation = (is_plain violation.problem ≡ true) × (violation.holds ≡ true → is_there violation.at d ≡ true)

pub leads : (o : Option Data) → is_some o ≡ true → is_some (option_and_then (value_at []) o) ≡ true
leads None e = e
leads (Some d) e = refl

pub member_leads : (n : Name) (d : Data) → is_some (get (name_text n) d) ≡ true → is_some (value_at (Member n ∷ []) d) ≡ true
member_leads n d e = leads (get (name_text n) d) e

violation_right : (R : List Segment → List Name → Type 0) (d : Data) (holds : Bool) (at : Option Name) (problem : Problem) → is_plain problem ≡ true → (holds ≡ true → is_there at d ≡ true)
    → AreRight R d (if holds then place_of at problem ∷ [] else [])
violation_right R d false at problem p h = tt
violation_right R d true None problem p h = (plain_right R problem d [] p refl, tt)
violation_right R d true (Some n) problem p h = (plain_right R problem d (Member n ∷ []) p (member_leads n d (h refl)), tt)

pub violations_right : (R : List Segment → List Name → Type 0) (d : Data) (violations : List Violation) → AllByRecursion (HasPlace d) violations → AreRight R d (violation_findings violations)
violations_right R d [] h = tt
violations_right R d (violation ∷ violations) h = both R d (violation_finding violation) (violation_findings violations) (violation_right R d violation.holds violation.at violation.problem h.0.0 h.0.1) (violations_right R d violations h.1)

abbrev pub of_violations : (R : List Segment → List Name → Type 0) (d : Data) (violations : List Violation) → AllByRecursion (HasPlace d) violations → Share R d
of_violations R d violations h = (violation_findings violations, λ o. violations_right R d violations h)

-- ---- members that are there

pub bound_some : {A B : Type 0} (f : A → Option B) (o : Option A) → is_some (o >>= f) ≡ true → is_some o ≡ true
bound_some f None e = e
bound_some f (Some x) e = refl

pub then_some : {A B : Type 0} (f : A → Option B) (o : Option A) → is_some (option_and_then f o) ≡ true → is_some o ≡ true
then_some f None e = e
then_some f (Some x) e = refl

pub holding : {A : Type 0} (f : A → Bool) (o : Option A) → option_map_or f o false ≡ true → (x : A) × (o ≡ Some x) × (f x ≡ true)
holding f None e = absurd cc
holding f (Some x) e = (x, refl, e)

pub holding_some : {A : Type 0} (f : A → Bool) (o : Option A) → option_map_or f o false ≡ true → is_some o ≡ true
holding_some f None e = e
holding_some f (Some x) e = refl

pub there : (n : Name) (d : Data) → is_some (member_at n d) ≡ true → is_some (get (name_text n) d) ≡ true
there n d e = bound_some unless_null (get (name_text n) d) e

pub there_text : (n : Name) (d : Data) → is_some (text_of (name_text n) d) ≡ true → is_some (get (name_text n) d) ≡ true
there_text n d e = there n d (bound_some as_str (member_at n d) e)

pub there_non_empty : (n : Name) (d : Data) → is_some (non_empty_text_of (name_text n) d) ≡ true → is_some (get (name_text n) d) ≡ true
there_non_empty n d e = there_text n d (bound_some unless_empty (text_of (name_text n) d) e)

pub there_whole : (n : Name) (d : Data) → is_some (whole_at n d) ≡ true → is_some (get (name_text n) d) ≡ true
there_whole n d e = there n d (then_some as_number (member_at n d) (then_some as_u64 (option_and_then as_number (member_at n d)) e))

some_items : (o : Option Data) (k : ℕ) → nat_lt k (length (option_map_or (λ value. list_of (items_in value)) o [])) ≡ true → is_some o ≡ true
some_items None k e = absurd (let l : k < 0 = ltb-true k 0 e in omega (arith, l))
some_items (Some d) k e = refl

pub there_items : (n : Name) (d : Data) (k : ℕ) → nat_lt k (length (items_at n d)) ≡ true → is_some (get (name_text n) d) ≡ true
there_items n d k e = there n d (some_items (member_at n d) k e)

pub over_findings : (most findings : Option ℕ) → is_over most findings ≡ true → is_some findings ≡ true
over_findings None findings e = absurd cc
over_findings (Some n) None e = absurd cc
over_findings (Some n) (Some m) e = refl

pub over_most : (most findings : Option ℕ) → is_over most findings ≡ true → is_some most ≡ true
over_most None findings e = absurd cc
over_most (Some n) findings e = refl
