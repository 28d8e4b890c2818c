-- `validate` warns of exactly the members that no run reads.
use Rattle.std.proofs.Common.{◌≡◌, ◌↔◌, ℕ, List, [], ◌∷◌, ◌++◌, length, Bool, false, Contains, slice_get, Option, Some, None, Result, Ok, Err, if◌then◌else◌, refl, sym, ap, subst, ◌∙◌}
use Rattle.std.specs.Prelude.{nat_lt}
use Rattle.std.specs.Option.{option_map_or}
use Rattle.std.proofs.lemmas.List.Elements.{All-contains, All-from_recursion}
use Rattle.serde_json.specs.Data.{Data}
use Rattle.apply_json.specs.ShallowView.{members_in}
use Rattle.apply_json.specs.Tree.{tree_of}
use Rattle.apply_model.specs.Plan.ResourceChange.{ResourceChange}
use Rattle.apply_model.specs.Plan.SavedPlan.{SavedPlan}
use Rattle.apply_plan.specs.Bytes.{max_bytes}
use Rattle.apply_plan.specs.declared.plan.plan_error.PlanError.{PlanError}
use Rattle.input_validate.specs.declared.findings.finding.Finding.{Finding}
use Rattle.input_validate.specs.declared.findings.name.Name.{Name}
use Rattle.input_validate.specs.declared.findings.path.Segment.{Segment}
use Rattle.input_validate.specs.declared.findings.path.Segment.TheVariants.{Other}
use Rattle.input_validate.specs.declared.findings.problem.Problem.TheVariants.{NotJson, TooManyBytes}
use Rattle.input_validate.specs.Findings.{finding_here}
use Rattle.input_validate.specs.ScriptFindings.{in_script}
use Rattle.input_validate.specs.Rules.{is_known, texts_in}
use Rattle.input_validate.specs.Whole.{refusals_against_plan, given_findings, script_findings, waits_without_lanes}
use Rattle.laws_validate.specs.Paths.{value_at}
use Rattle.laws_validate.specs.IgnoredMembers.{IsRead, IsIgnored, entry, failure, failure_of_provisioner, output, provisioner, step, top, wait, warning, warning_at}
use Rattle.laws_validate.proofs.BytesPlaced.{AreReported}
use Rattle.laws_validate.proofs.Placing.{AreRight, IsRight}
use Rattle.laws_validate.proofs.RefusalsPlaced.{given_reported}
use Rattle.laws_validate.proofs.ScriptsWarn.{script_warns}
use Rattle.laws_validate.proofs.Warning.{Has, contained, has_left, same_some}

-- ---- where a warning is reported

right_of : (tree : Data) (all : List Finding) (path : List Segment) → AreRight IsRead tree all → Contains all (warning_at path) → IsIgnored IsRead tree path
right_of tree all path right has = All-contains (IsRight IsRead tree) all (warning_at path) (All-from_recursion (IsRight IsRead tree) all right) has

in_tree : (large : Bool) (o : Option Data) (tree : Data) (changes : Option (List ResourceChange)) (x : Finding) → large ≡ false → o ≡ Some tree → Has x (in_script changes tree)
    → Has x (if large then finding_here TooManyBytes ∷ [] else option_map_or (in_script changes) o (finding_here NotJson ∷ []))
in_tree large o tree changes x small is h = rw (small, is) h

in_findings : (changes : Option (List ResourceChange)) (script : List ℕ) (tree : Data) (path : List Segment) → nat_lt max_bytes (length script) ≡ false → tree_of script ≡ Some tree → IsIgnored IsRead tree path
    → Has (warning_at path) (script_findings changes script)
in_findings changes script tree path small is h =
    subst (λ (p : List Segment). Has (warning_at p) (script_findings changes script)) (sym h.path_is)
    (in_tree (nat_lt max_bytes (length script)) (tree_of script) tree changes (warning_at (h.front ++ Other h.number ∷ [])) small is
    (script_warns h.reads changes tree h.value h.number h.text h.value_is h.text_is h.unknown))

pub in_given : (lanes : Bool) (plan : Result SavedPlan PlanError) (script : List ℕ) (tree : Data) (path : List Segment) → nat_lt max_bytes (length script) ≡ false → tree_of script ≡ Some tree → IsIgnored IsRead tree path
    → Has (warning_at path) (given_findings lanes plan (Some script))
in_given lanes (Err refusal) script tree path small is h =
    has_left (warning_at path) (script_findings None script) (waits_without_lanes lanes None script) (in_findings None script tree path small is h)
in_given lanes (Ok plan) script tree path small is h =
    has_left (warning_at path) (script_findings (Some plan.changes) script) (refusals_against_plan lanes plan script) (in_findings (Some plan.changes) script tree path small is h)

pub warned : (lanes : Bool) (plan : Result SavedPlan PlanError) (script : List ℕ) (tree : Data) (path : List Segment) → nat_lt max_bytes (length script) ≡ false → tree_of script ≡ Some tree
    → Contains (given_findings lanes plan (Some script)) (warning_at path) ↔ IsIgnored IsRead tree path
warned lanes plan script tree path small is = (
  right_of tree (given_findings lanes plan (Some script)) path (subst (λ (o : Option Data). AreReported IsRead o (given_findings lanes plan (Some script))) is (given_reported lanes plan script)),
  λ h. contained (warning_at path) (given_findings lanes plan (Some script)) (in_given lanes plan script tree path small is h),
)

-- ---- of which members

pub unique : {front : List Segment} {names others : List Name} → IsRead front names → IsRead front others → names ≡ others
unique top top = refl
unique (entry e) (entry f) = refl
unique (step e s) (step f t) = refl
unique (warning e s) (warning f t) = refl
unique (failure e s) (failure f t) = refl
unique (provisioner e s p) (provisioner f t q) = refl
unique (failure_of_provisioner e s p) (failure_of_provisioner f t q) = refl
unique (output e s p n) (output f t q m) = refl
unique (wait e s n) (wait f t m) = refl

not_empty : (xs : List Segment) (x : Segment) → [] ≡ xs ++ x ∷ [] → ⊥
not_empty [] x e = absurd cc
not_empty (y ∷ xs) x e = absurd cc

same_ends : (xs ys : List Segment) (x y : Segment) → xs ++ x ∷ [] ≡ ys ++ y ∷ [] → (xs ≡ ys) × (x ≡ y)
same_ends [] [] x y e = (refl, cc)
same_ends [] (b ∷ ys) x y e = absurd (not_empty ys y cc)
same_ends (a ∷ xs) [] x y e = absurd (not_empty xs x cc)
same_ends (a ∷ xs) (b ∷ ys) x y e =
    let rest : xs ++ x ∷ [] ≡ ys ++ y ∷ [] = cc in
    let ends = same_ends xs ys x y rest in
    let front : xs ≡ ys = ends.0 in
    let first : a ≡ b = cc in
    (cc, ends.1)

same_number : (n m : ℕ) → (let part : Segment = Other n in part) ≡ Other m → n ≡ m
same_number n m e = cc

-- where a path has the names of one table
pub unknown_in : (R : List Segment → List Name → Type 0) → ((front : List Segment) (names others : List Name) → R front names → R front others → names ≡ others)
    → (front : List Segment) (names : List Name) (tree value : Data) (n : ℕ) (text : List ℕ) → R front names → value_at front tree ≡ Some value
    → slice_get (texts_in (members_in value)) n ≡ Some text → IsIgnored R tree (front ++ Other n ∷ []) → is_known names text ≡ false
unknown_in R one front names tree value n text reads is has h =
    let ends = same_ends front h.front (Other n) (Other h.number) h.path_is in
    let names_same : names ≡ h.names = one h.front names h.names (subst (λ (path : List Segment). R path names) ends.0 reads) h.reads in
    let value_same : value ≡ h.value = same_some value h.value (sym is ∙ ap (λ (path : List Segment). value_at path tree) ends.0 ∙ h.value_is) in
    let number_same : n ≡ h.number = same_number n h.number ends.1 in
    let text_same : text ≡ h.text =
    same_some text h.text (sym has ∙ ap (λ (v : Data). slice_get (texts_in (members_in v)) n) value_same ∙ ap (λ (k : ℕ). slice_get (texts_in (members_in h.value)) k) number_same ∙ h.text_is) in
    ap (λ (all : List Name). is_known all text) names_same ∙ ap (λ (t : List ℕ). is_known h.names t) text_same ∙ h.unknown

pub warned_of : (lanes : Bool) (plan : Result SavedPlan PlanError) (script : List ℕ) (tree : Data) (front : List Segment) (names : List Name) (value : Data) (n : ℕ) (text : List ℕ)
    → nat_lt max_bytes (length script) ≡ false → tree_of script ≡ Some tree → IsRead front names → value_at front tree ≡ Some value → slice_get (texts_in (members_in value)) n ≡ Some text
    → Contains (given_findings lanes plan (Some script)) (warning_at (front ++ Other n ∷ [])) ↔ (is_known names text ≡ false)
warned_of lanes plan script tree front names value n text small is reads at has =
    let both_ways = warned lanes plan script tree (front ++ Other n ∷ []) small is in (
      λ c. unknown_in IsRead (λ path one other. unique) front names tree value n text reads at has (both_ways.0 c),
      λ unknown. both_ways.1
          (record { front = front; number = n; names = names; value = value; text = text; reads = reads; path_is = refl; value_is = at; text_is = has; unknown = unknown }),
    )
