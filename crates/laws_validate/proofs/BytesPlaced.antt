-- Findings in bytes stand at their places.
use Rattle.std.proofs.Common.{◌≡◌, ℕ, zero, suc, List, [], ◌∷◌, ◌++◌, length, Bool, true, false, is_some, All, slice_get, Option, Some, None, if◌then◌else◌, refl, ap, ◌∙◌}
use Rattle.std.specs.Prelude.{nat_lt}
use Rattle.std.specs.List.{AllByRecursion}
use Rattle.std.specs.Option.{option_and_then, option_map_or}
use Rattle.std.proofs.lemmas.List.Elements.{All-from_recursion}
use Rattle.serde_json.specs.Data.{Data, Members, no_members, member}
use Rattle.apply_json.specs.ShallowView.{members_in}
use Rattle.apply_json.specs.Tree.{tree_of}
use Rattle.apply_model.specs.Plan.ResourceChange.{ResourceChange}
use Rattle.apply_plan.specs.Bytes.{max_bytes}
use Rattle.input_validate.specs.declared.findings.finding.Finding.{Finding}
use Rattle.input_validate.specs.declared.findings.name.Name.{Name}
use Rattle.input_validate.specs.declared.findings.path.Segment.{Segment}
use Rattle.input_validate.specs.declared.findings.path.Segment.TheVariants.{Other}
use Rattle.input_validate.specs.declared.findings.problem.Problem.{Problem}
use Rattle.input_validate.specs.declared.findings.problem.Problem.TheVariants.{IsMissing, NotJson, NotRead, TooManyBytes}
use Rattle.input_validate.specs.Findings.{finding_here, is_refusal}
use Rattle.input_validate.specs.PlanFindings.{in_plan}
use Rattle.input_validate.specs.ScriptFindings.{in_script}
use Rattle.input_validate.specs.Rules.{texts_in}
use Rattle.input_validate.specs.Whole.{plan_findings, script_findings}
use Rattle.laws_validate.specs.Paths.{ArePlaced, IsPlaced, LeadsTo, value_at, values_in}
use Rattle.laws_validate.specs.IgnoredMembers.{IsRead, IsIgnored}
use Rattle.laws_validate.proofs.ViolationPlaces.{leads}
use Rattle.laws_validate.proofs.Placing.{AreRight, Right, both}
use Rattle.laws_validate.proofs.PlansPlaced.{plan_right}
use Rattle.laws_validate.proofs.PlansRefuse.{plan_refuses}
use Rattle.laws_validate.proofs.ScriptsPlaced.{script_right}

-- ---- along a path

on_from : (f g h : Data → Option Data) (o : Option Data) → ((e : Data) → f e ≡ option_and_then g (h e)) → option_and_then f o ≡ option_and_then g (option_and_then h o)
on_from f g h None same = refl
on_from f g h (Some e) same = same e

pub leads_on : (front back : List Segment) (d : Data) → value_at (front ++ back) d ≡ option_and_then (value_at back) (value_at front d)
leads_on [] back d = refl
leads_on (part ∷ front) back d = on_from (value_at (front ++ back)) (value_at back) (value_at front) _ (leads_on front back)

value_too : (ms : Members) (n : ℕ) (text : List ℕ) → slice_get (texts_in ms) n ≡ Some text → is_some (slice_get (values_in ms) n) ≡ true
value_too no_members n text e = absurd cc
value_too (member t d ms) zero text e = refl
value_too (member t d ms) (suc n) text e = value_too ms n text e

-- a member that nobody reads is there
unread_leads : (R : List Segment → List Name → Type 0) (d : Data) (path : List Segment) → IsIgnored R d path → is_some (value_at path d) ≡ true
unread_leads R d path h =
    let last : List Segment = Other h.number ∷ [] in
    ap (λ (p : List Segment). is_some (value_at p d)) h.path_is
    ∙ ap (λ (o : Option Data). is_some o) (leads_on h.front last d)
    ∙ ap (λ (o : Option Data). is_some (option_and_then (value_at last) o)) h.value_is
    ∙ leads (slice_get (values_in (members_in h.value)) h.number) (value_too (members_in h.value) h.number h.text h.text_is)

placed : (R : List Segment → List Name → Type 0) (problem : Problem) (d : Data) (path : List Segment) → Right R problem d path → LeadsTo problem d path
placed R NotRead d path h = unread_leads R d path h
placed R (IsMissing wanted) d path h = h
placed R problem d path h = h

each_placed : (R : List Segment → List Name → Type 0) (d : Data) (all : List Finding) → AreRight R d all → AllByRecursion (IsPlaced d) all
each_placed R d [] h = tt
each_placed R d (x ∷ xs) h = (placed R x.problem d x.path h.0, each_placed R d xs h.1)

-- ---- bytes

-- each is right in the tree; where there is none, at the top
abbrev pub AreReported : (List Segment → List Name → Type 0) → Option Data → List Finding → Type 0
AreReported R None all = AllByRecursion (λ (finding : Finding). finding.path ≡ []) all
AreReported R (Some d) all = AreRight R d all

at_top : (xs ys : List Finding) → AllByRecursion (λ (finding : Finding). finding.path ≡ []) xs → AllByRecursion (λ (finding : Finding). finding.path ≡ []) ys
    → AllByRecursion (λ (finding : Finding). finding.path ≡ []) (xs ++ ys)
at_top [] ys a b = b
at_top (x ∷ xs) ys a b = (a.0, at_top xs ys a.1 b)

pub both_reported : (R : List Segment → List Name → Type 0) (o : Option Data) (xs ys : List Finding) → AreReported R o xs → AreReported R o ys → AreReported R o (xs ++ ys)
both_reported R None xs ys a b = at_top xs ys a b
both_reported R (Some d) xs ys a b = both R d xs ys a b

pub none_reported : (R : List Segment → List Name → Type 0) (o : Option Data) → AreReported R o []
none_reported R None = tt
none_reported R (Some d) = tt

pub reported_placed : (R : List Segment → List Name → Type 0) (o : Option Data) (all : List Finding) → AreReported R o all → ArePlaced o all
reported_placed R None all h = All-from_recursion (λ (finding : Finding). finding.path ≡ []) all h
reported_placed R (Some d) all h = All-from_recursion (IsPlaced d) all (each_placed R d all h)

bytes_reported : (R : List Segment → List Name → Type 0) (findings : Data → List Finding) (large : Bool) (o : Option Data) → ((d : Data) → AreRight R d (findings d))
    → AreReported R o (if large then finding_here TooManyBytes ∷ [] else option_map_or findings o (finding_here NotJson ∷ []))
bytes_reported R findings true None h = (refl, tt)
bytes_reported R findings true (Some d) h = (refl, tt)
bytes_reported R findings false None h = (refl, tt)
bytes_reported R findings false (Some d) h = h d

-- ---- plans

-- no member of any object is read, so no finding is a warning
Nothing : List Segment → List Name → Type 0
Nothing path names = ⊥

pub plan_placed : (bytes : List ℕ) → ArePlaced (tree_of bytes) (plan_findings bytes)
plan_placed bytes =
    reported_placed Nothing (tree_of bytes) (plan_findings bytes)
    (bytes_reported Nothing in_plan (nat_lt max_bytes (length bytes)) (tree_of bytes) (plan_right Nothing))

bytes_unwarned : (large : Bool) (o : Option Data)
    → AllByRecursion (λ (finding : Finding). is_refusal finding ≡ true) (if large then finding_here TooManyBytes ∷ [] else option_map_or in_plan o (finding_here NotJson ∷ []))
bytes_unwarned true o = (refl, tt)
bytes_unwarned false None = (refl, tt)
bytes_unwarned false (Some d) = plan_refuses d

-- no finding of a plan is a warning
pub plan_unwarned : (bytes : List ℕ) → All (λ (finding : Finding). is_refusal finding ≡ true) (plan_findings bytes)
plan_unwarned bytes = All-from_recursion (λ (finding : Finding). is_refusal finding ≡ true) (plan_findings bytes) (bytes_unwarned (nat_lt max_bytes (length bytes)) (tree_of bytes))

-- ---- scripts

pub script_reported : (changes : Option (List ResourceChange)) (bytes : List ℕ) → AreReported IsRead (tree_of bytes) (script_findings changes bytes)
script_reported changes bytes = bytes_reported IsRead (in_script changes) (nat_lt max_bytes (length bytes)) (tree_of bytes) (script_right changes)
