-- Findings of values of any shape. All paths start at the value.
use Rattle.std.specs.Prelude.{ℕ, suc, List, [], ◌∷◌, ◌++◌, length, map, Bool, false, if◌then◌else◌, Option, Some, None, option_and_then}
use Rattle.std.specs.List.{flat_map, list_any}
use Rattle.std.specs.Option.{option_map_or}
use Rattle.std.specs.Str.{bytes_eq}
use Rattle.serde_json.specs.Data.{Data, Members, no_members, member}
use Rattle.serde_json.specs.Find.{as_bool, get}
use Rattle.apply_json.specs.ShallowView.{items_in, members_in}
use Rattle.apply_json.specs.Tree.{list_of, member_of}
use Rattle.input_validate.specs.declared.findings.finding.Finding.{Finding}
use Rattle.input_validate.specs.declared.findings.name.Name.{Name}
use Rattle.input_validate.specs.declared.findings.path.Segment.TheVariants.{Item, Member, Other}
use Rattle.input_validate.specs.declared.findings.expected.Expected.{Expected}
use Rattle.input_validate.specs.declared.findings.problem.Problem.{Problem}
use Rattle.input_validate.specs.declared.findings.problem.Problem.TheVariants.{IsMissing, IsNot, NotRead}
use Rattle.input_validate.specs.declared.rules.rule.MemberRule.{MemberRule}
use Rattle.input_validate.specs.declared.rules.violation.Violation.{Violation}
use Rattle.input_validate.specs.Findings.{finding_at, finding_here, under}
use Rattle.input_validate.specs.Names.{name_text}
use Rattle.input_validate.specs.Expectations.{is_met, suits}

-- the member with this name; a member that is `null` counts as absent
abbrev pub member_at : Name → Data → Option Data
member_at name d = member_of (name_text name) d

-- the items of a member; none if it is no array
abbrev pub items_at : Name → Data → List Data
items_at name d = option_map_or (λ value. list_of (items_in value)) (member_at name d) []

-- a member is `true`
abbrev pub is_set : Name → Data → Bool
is_set name d = option_map_or (λ flag. flag) (option_and_then as_bool (member_at name d)) false

-- the rule for one member
abbrev pub rule : Name → Expected → MemberRule
rule name wanted = record { name = name; expected = wanted }

-- ---- a value by itself

-- the value is what it has to be
abbrev pub unless_suits : Expected → Data → List Finding
unless_suits wanted d = if suits wanted d then [] else finding_here (IsNot wanted) ∷ []

-- the findings of a value that is what it has to be; else only that it is not
abbrev pub where_suits : Expected → Data → List Finding → List Finding
where_suits wanted d inside = if suits wanted d then inside else finding_here (IsNot wanted) ∷ []

-- ---- its members

-- what is wrong with a member: it is missing, or it is something else
abbrev pub mismatch : Expected → Option Data → Problem
mismatch wanted None = IsMissing wanted
mismatch wanted (Some d) = IsNot wanted

-- a member is what it has to be
abbrev pub fault_of : Data → MemberRule → List Finding
fault_of d rule =
    if is_met rule.expected (member_at rule.name d) then []
    else finding_at (Member rule.name) (mismatch rule.expected (get (name_text rule.name) d)) ∷ []

-- each member of a table is what it has to be
abbrev pub faults_of : List MemberRule → Data → List Finding
faults_of table d = flat_map (fault_of d) table

-- the findings of a member's value; none if it is absent or `null`
abbrev pub inside : (Data → List Finding) → Name → Data → List Finding
inside findings name d = option_map_or (λ value. map (under (Member name)) (findings value)) (member_at name d) []

-- the findings of items; `n` is the number of the first item, and the findings may depend on the
-- number
abbrev pub items_from : (ℕ → Data → List Finding) → ℕ → List Data → List Finding
items_from findings n [] = []
items_from findings n (d ∷ ds) = map (under (Item n)) (findings n d) ++ items_from findings (suc n) ds

-- the findings of items after others; they may depend on the others
abbrev pub items_after : (List Data → Data → List Finding) → List Data → List Data → List Finding
items_after findings before [] = []
items_after findings before (d ∷ ds) =
    map (under (Item (length before))) (findings before d) ++ items_after findings (before ++ d ∷ []) ds

-- the findings of the items of an array
abbrev pub in_items : (ℕ → Data → List Finding) → Data → List Finding
in_items findings d = items_from findings 0 (list_of (items_in d))

-- a member is an array, and the findings of its items
abbrev pub in_list : (ℕ → Data → List Finding) → MemberRule → Data → List Finding
in_list findings rule d = fault_of d rule ++ inside (in_items findings) rule.name d

-- ---- what is tested by itself

-- a finding at a member, or at the value itself
abbrev pub place_of : Option Name → Problem → Finding
place_of None problem = finding_here problem
place_of (Some name) problem = finding_at (Member name) problem

-- the finding of a test, if the rule is broken
abbrev pub violation_finding : Violation → List Finding
violation_finding violation = if violation.holds then place_of violation.at violation.problem ∷ [] else []

-- the findings of some tests
abbrev pub violation_findings : List Violation → List Finding
violation_findings violations = flat_map violation_finding violations

-- ---- members that are not read

-- a text is one of these names
abbrev pub is_known : List Name → List ℕ → Bool
is_known names text = list_any (λ name. bytes_eq (name_text name) text) names

-- the names of members
abbrev pub texts_in : Members → List (List ℕ)
texts_in no_members = []
texts_in (member text d ms) = text ∷ texts_in ms

-- the warning for the member with this number, unless its name is known
abbrev pub unless_known : List Name → ℕ → List ℕ → List Finding
unless_known names n text = if is_known names text then [] else finding_at (Other n) NotRead ∷ []

-- the warnings for members with unknown names; `n` is the number of the first member
abbrev pub ignored_from : List Name → ℕ → List (List ℕ) → List Finding
ignored_from names n [] = []
ignored_from names n (text ∷ texts) = unless_known names n text ++ ignored_from names (suc n) texts

-- the warnings for the members of an object with unknown names
abbrev pub ignored : List Name → Data → List Finding
ignored names d = ignored_from names 0 (texts_in (members_in d))
