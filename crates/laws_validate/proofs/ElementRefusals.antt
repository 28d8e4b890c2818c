-- If a run refuses an element after others, the element has that error.
use Rattle.std.proofs.Common.{◌≡◌, ℕ, ◌+◌, ◌<◌, ◌≤◌, List, [], ◌∷◌, ◌++◌, length, map, Bool, true, false, cond, ◌&&◌, ◌||◌, refl, sym, ap, ◌∙◌, arith}
use Rattle.std.specs.Prelude.{is_some, Option, Some, None, Result, Ok, Err, codes, if◌then◌else◌, nat_eq, nat_lt}
use Rattle.std.specs.List.{list_all, list_any, position_from}
use Rattle.std.specs.Option.{option_map_or}
use Rattle.std.proofs.lemmas.Bool.Decides.{nat_tests}
use Rattle.std.proofs.lemmas.List.{length-map}
use Rattle.serde_json.specs.Data.{Data}
use Rattle.serde_json.specs.Find.{as_object, as_str}
use Rattle.apply_json.specs.Tree.{member_of, text_of, text_or}
use Rattle.apply_model.specs.declared.plan.step_kind.StepKind.{StepKind}
use Rattle.apply_model.specs.Plan.Address.{relative_address}
use Rattle.apply_model.specs.Plan.ResourceChange.{ResourceChange}
use Rattle.apply_plan.specs.declared.plan.plan_error.PlanError.{PlanError}
use Rattle.apply_plan.specs.declared.plan.plan_error.PlanError.TheVariants.{BadActions, BadAddress, BadChange, Duplicate}
use Rattle.apply_plan.specs.Plan.Element.{Element, element_of}
use Rattle.apply_plan.specs.Plan.SavedPlan.{change_at, change_of}
use Rattle.apply_plan.specs.Plan.Steps.{steps_of_actions}
use Rattle.apply_plan.specs.Results as results
use Rattle.input_validate.specs.declared.findings.finding.Finding.{Finding}
use Rattle.input_validate.specs.declared.findings.name.Name.TheVariants as name
use Rattle.input_validate.specs.declared.findings.path.Segment.{Segment}
use Rattle.input_validate.specs.declared.findings.path.Segment.TheVariants.{Item, Member}
use Rattle.input_validate.specs.declared.findings.expected.Expected.{Expected}
use Rattle.input_validate.specs.declared.findings.expected.Expected.TheVariants as expected
use Rattle.input_validate.specs.declared.findings.problem.Problem.TheVariants as problem
use Rattle.input_validate.specs.Findings.{finding_at, finding_here, is_refusal, under}
use Rattle.input_validate.specs.PlanFindings.{address_violations, by_itself, element_table, first_named, has_empty_address, in_change, in_element, is_named, is_sound, misplaces, name_of, named_again}
use Rattle.input_validate.specs.Rules.{faults_of, inside, mismatch, violation_findings, member_at, where_suits}
use Rattle.input_validate.specs.Expectations.{suits}
use Rattle.laws_validate.specs.Laws.{explains}
use Rattle.laws_validate.proofs.Elements.{gathered_there, has_change, sound_is}
use Rattle.laws_validate.proofs.ElementsReported.{address_reported, bad_change, misplaced_there, not_read}
use Rattle.laws_validate.proofs.AnyFinding.{any_left, any_right, first_is, where_reported}
use Rattle.laws_validate.proofs.Plans.{change_is, finished, name_in, name_is, names, repeats, with_element, with_steps}
use Rattle.laws_validate.proofs.Wanted.{is_object}

pub err_is : {A E : Type 0} (x y : E) → (let r : Result A E = Err x in r) ≡ Err y → x ≡ y
err_is x y e = cc

same_number : (n : ℕ) → nat_eq n n ≡ true
same_number n = grind (arith, nat_tests)

is_below : (m n : ℕ) → m < n → nat_lt m n ≡ true
is_below m n less = grind (arith, nat_tests)

-- the error that a run refuses for is reported where the refusal points
abbrev pub is_reported : PlanError → Finding → Bool
is_reported refusal finding = is_refusal finding && explains refusal finding.path finding.problem

-- the same for the findings of the element with this number
abbrev in_item : PlanError → ℕ → Finding → Bool
in_item refusal n finding = is_reported refusal (under (Member name.ResourceChanges) (under (Item n) finding))

mismatch_in_item : (n : ℕ) (path : List Segment) (wanted : Expected) (o : Option Data) → in_item (BadChange n) n (record { path = path; problem = mismatch wanted o }) ≡ true
mismatch_in_item n path wanted None = same_number n
mismatch_in_item n path wanted (Some d) = same_number n

-- ---- an object that was named before

by_first : (p : Finding → Bool) (b : Bool) (n : ℕ) (o : Option ℕ) (r : Bool) → p (finding_here (problem.NamedBefore n)) ≡ true → (b || r) ≡ true
    → (r ≡ true → list_any p (named_again o) ≡ true)
    → list_any p (named_again (cond b (Some n) o)) ≡ true
by_first p true n o r reported e later = first_is p (finding_here (problem.NamedBefore n)) [] reported
by_first p false n o r reported e later = later e

again_reported : {A : Type 0} (p : Finding → Bool) (test : A → Bool) (bound n : ℕ) (xs : List A)
    → ((m : ℕ) → m < bound → p (finding_here (problem.NamedBefore m)) ≡ true) → n + length xs ≤ bound
    → list_any test xs ≡ true → list_any p (named_again (position_from test n xs)) ≡ true
again_reported p test bound n [] reported fits e = absurd cc
again_reported p test bound n (x ∷ xs) reported fits e =
    by_first p (test x) n (position_from test (n + 1) xs) (list_any test xs) (reported n (omega (arith, fits))) e
    (again_reported p test bound (n + 1) xs reported (omega (arith, fits)))

-- ---- one element

in_object : (p : Finding → Bool) (d : Data) (xs : List Finding) → is_some (as_object d) ≡ true → list_any p xs ≡ true
    → list_any p (where_suits expected.Object d xs) ≡ true
in_object p d xs there findings = rw there findings

-- its findings, in order
abbrev own_findings : List Data → Data → List Finding
own_findings before d = by_itself d ++ named_again (first_named (map name_of before) (name_of d))

reported_read : (n : ℕ) (before : List Data) (d : Data) → element_of d ≡ None → list_any (in_item (BadChange n) n) (in_element before d) ≡ true
reported_read n before d none =
    let p : Finding → Bool = in_item (BadChange n) n in
    where_reported p (suits expected.Object d) (own_findings before d) (finding_here (problem.IsNot expected.Object)) (mismatch_in_item n [] expected.Object (Some d))
    (λ suits_it. any_left p (by_itself d) (named_again (first_named (map name_of before) (name_of d)))
    (any_left p (faults_of element_table d ++ inside in_change name.Change d) (violation_findings (address_violations d)) (not_read p d (mismatch_in_item n) none)))

-- an element that a run reads is an object, and its own errors are reported
object_there : (d : Data) (e : Element) → element_of d ≡ Some e → is_some (as_object d) ≡ true
object_there d e is = is_object (codes "address") as_str d e.address (gathered_there d e is).address_is

itself_reported : (p : Finding → Bool) (before : List Data) (d : Data) (e : Element) → element_of d ≡ Some e → list_any p (by_itself d) ≡ true
    → list_any p (in_element before d) ≡ true
itself_reported p before d e is findings =
    in_object p d (own_findings before d) (object_there d e is) (any_left p (by_itself d) (named_again (first_named (map name_of before) (name_of d))) findings)

reported_steps : (n : ℕ) (before : List Data) (d : Data) (e : Element) → element_of d ≡ Some e → steps_of_actions e.actions ≡ None
    → list_any (in_item (BadActions n) n) (in_element before d) ≡ true
reported_steps n before d e is none =
    let p : Finding → Bool = in_item (BadActions n) n in
    let reported : p (under (Member name.Change) (finding_at (Member name.Actions) problem.BadActions)) ≡ true = same_number n in
    itself_reported p before d e is
    (any_left p (faults_of element_table d ++ inside in_change name.Change d) (violation_findings (address_violations d))
    (any_right p (faults_of element_table d) (inside in_change name.Change d)
    (bad_change p (member_at name.Change d) e.actions e.prior_id reported (gathered_there d e is).change_is none)))

reported_address : (n : ℕ) (before : List Data) (d : Data) (e : Element) → element_of d ≡ Some e → relative_address e.module_address e.address ≡ None
    → list_any (in_item (BadAddress n) n) (in_element before d) ≡ true
reported_address n before d e is none =
    let p : Finding → Bool = in_item (BadAddress n) n in
    let it = gathered_there d e is in
    let reported : nat_eq n n ≡ true = same_number n in
    let misplaced : misplaces d ≡ true =
    misplaced_there (text_of (codes "address") d) (text_or [] (member_of (codes "module_address") d)) e.address e.module_address it.address_is it.module_is none in
    itself_reported p before d e is
    (any_right p (faults_of element_table d ++ inside in_change name.Change d) (violation_findings (address_violations d))
    (address_reported p (misplaces d) (has_empty_address d) reported reported misplaced))

reported_again : (before : List Data) (d : Data) (e : Element) → element_of d ≡ Some e → is_sound d ≡ true → list_all is_sound before ≡ true
    → list_any (names e) before ≡ true
    → list_any (in_item (Duplicate (length before)) (length before)) (in_element before d) ≡ true
reported_again before d e is sound all repeated =
    let n : ℕ = length before in
    let p : Finding → Bool = in_item (Duplicate n) n in
    let reported : (m : ℕ) → m < n → p (finding_here (problem.NamedBefore m)) ≡ true =
    λ m less. ap (λ (b : Bool). b && nat_lt m n) (same_number n) ∙ is_below m n less in
    let again : list_any p (named_again (first_named (map name_of before) (Some (name_in e)))) ≡ true =
    again_reported p (is_named (name_in e)) n 0 (map name_of before) reported (omega (arith, length-map before name_of)) (repeats e before all ∙ repeated) in
    in_object p d (own_findings before d) (object_there d e is)
    (any_right p (by_itself d) (named_again (first_named (map name_of before) (name_of d)))
    (ap (λ (o : Option (List ℕ × Option (List ℕ))). list_any p (named_again (first_named (map name_of before) o))) (name_is d e is sound) ∙ again))

-- the same for any refusal
as_refused : (x refusal : PlanError) (n : ℕ) (xs : List Finding) → (let r : Result ResourceChange PlanError = Err x in r) ≡ Err refusal
    → list_any (in_item x n) xs ≡ true → list_any (in_item refusal n) xs ≡ true
as_refused x refusal n xs e findings = ap (λ (y : PlanError). list_any (in_item y n) xs) (sym (err_is x refusal e)) ∙ findings

by_repeat : (before : List Data) (d : Data) (e : Element) (change : ResourceChange) (refusal : PlanError) (again : Bool)
    → (again ≡ true → list_any (in_item (Duplicate (length before)) (length before)) (in_element before d) ≡ true)
    → (let r : Result ResourceChange PlanError = if again then Err (Duplicate (length before)) else Ok change in r) ≡ Err refusal
    → list_any (in_item refusal (length before)) (in_element before d) ≡ true
by_repeat before d e change refusal true reported is = as_refused (Duplicate (length before)) refusal (length before) (in_element before d) is (reported refl)
by_repeat before d e change refusal false reported is = absurd cc

by_steps : (before : List Data) (d : Data) (e : Element) (refusal : PlanError) → element_of d ≡ Some e → list_all is_sound before ≡ true
    → (steps : Option (List StepKind)) → steps_of_actions e.actions ≡ steps → (relative : Option (List ℕ))
    → relative_address e.module_address e.address ≡ relative
    → results.◌>>=◌ (with_steps (length before) e steps relative) (finished (length before) before) ≡ Err refusal
    → list_any (in_item refusal (length before)) (in_element before d) ≡ true
by_steps before d e refusal is all None none relative there r =
    as_refused (BadActions (length before)) refusal (length before) (in_element before d) r (reported_steps (length before) before d e is none)
by_steps before d e refusal is all (Some steps) some None none r =
    as_refused (BadAddress (length before)) refusal (length before) (in_element before d) r (reported_address (length before) before d e is none)
by_steps before d e refusal is all (Some steps) some (Some relative) there r =
    let sound : is_sound d ≡ true =
    sound_is d ∙ ap (λ (o : Option Element). option_map_or has_change o false) is
    ∙ ap (λ (o : Option (List StepKind)). is_some o && is_some (relative_address e.module_address e.address)) some ∙ ap (λ (o : Option (List ℕ)). is_some o) there in
    by_repeat before d e (change_of e steps) refusal (list_any (names e) before) (reported_again before d e is sound all) r

by_element : (before : List Data) (d : Data) (refusal : PlanError) → list_all is_sound before ≡ true → (o : Option Element) → element_of d ≡ o
    → results.◌>>=◌ (with_element (length before) o) (finished (length before) before) ≡ Err refusal
    → list_any (in_item refusal (length before)) (in_element before d) ≡ true
by_element before d refusal all None is r = as_refused (BadChange (length before)) refusal (length before) (in_element before d) r (reported_read (length before) before d is)
by_element before d refusal all (Some e) is r =
    by_steps before d e refusal is all (steps_of_actions e.actions) refl (relative_address e.module_address e.address) refl r

-- after sound elements, an element that a run refuses has that error
pub element_reported : (before : List Data) (d : Data) (refusal : PlanError) → list_all is_sound before ≡ true → change_at before d ≡ Err refusal
    → list_any (in_item refusal (length before)) (in_element before d) ≡ true
element_reported before d refusal all r = by_element before d refusal all (element_of d) refl (sym (change_is before d) ∙ r)
