-- If a run refuses a plan, that error is reported where the refusal points.
use Rattle.std.proofs.Common.{◌≡◌, ℕ, ◌+◌, List, [], ◌∷◌, ◌++◌, length, map, take, Bool, true, false, ◌&&◌, is_ok, is_some, refl, sym, ap, ◌∙◌, append_assoc, arith}
use Rattle.std.specs.Prelude.{Option, Some, None, Result, Ok, Err, codes, if◌then◌else◌, nat_lt}
use Rattle.std.specs.List.{enumerate_from, list_all, list_any}
use Rattle.std.specs.Option.{option_map_or}
use Rattle.std.proofs.lemmas.List.{length-append, take_at}
use Rattle.serde_json.specs.Data.{Data, Items}
use Rattle.serde_json.specs.Find.{as_object, as_str}
use Rattle.apply_json.specs.Tree.{items_or_empty, list_of, member_of, text_of, text_or, tree_of}
use Rattle.apply_model.specs.Plan.ResourceChange.{ResourceChange}
use Rattle.apply_model.specs.Plan.SavedPlan.{SavedPlan, max_changes}
use Rattle.apply_plan.specs.declared.plan.plan_error.PlanError.{PlanError}
use Rattle.apply_plan.specs.declared.plan.plan_error.PlanError.TheVariants.{NotAPlan, NotJson, TooLarge, TooMany}
use Rattle.apply_plan.specs.Bytes.{max_bytes}
use Rattle.apply_plan.specs.Plan.Header.{Header, header_of}
use Rattle.apply_plan.specs.Plan.SavedPlan.{change_at, changes_of, plan_of, plan_of_tree}
use Rattle.apply_plan.specs.Results as results
use Rattle.apply_plan.specs.Results.{all_or_first, or_refuse}
use Rattle.input_validate.specs.declared.findings.finding.Finding.{Finding}
use Rattle.input_validate.specs.declared.findings.name.Name.TheVariants as name
use Rattle.input_validate.specs.declared.findings.path.Segment.TheVariants.{Item, Member}
use Rattle.input_validate.specs.declared.findings.expected.Expected.TheVariants as expected
use Rattle.input_validate.specs.declared.findings.problem.Problem.TheVariants as problem
use Rattle.input_validate.specs.Findings.{finding_at, finding_here, under}
use Rattle.input_validate.specs.PlanFindings.{header_table, in_element, in_elements, in_plan, is_sound}
use Rattle.input_validate.specs.Rules.{faults_of, items_at, items_after, rule, member_at}
use Rattle.input_validate.specs.Expectations.{is_met, suits}
use Rattle.input_validate.specs.Whole.{plan_findings}
use Rattle.laws_validate.specs.Laws.{has_refusal_of}
use Rattle.input_validate.proofs.Options.{and_false}
use Rattle.laws_validate.proofs.ElementRefusals.{element_reported, err_is, is_reported}
use Rattle.laws_validate.proofs.Elements.{some_is}
use Rattle.laws_validate.proofs.AnyFinding.{IsReported, any_left, any_right, any_under, below, faults_reported, where_reported}
use Rattle.laws_validate.proofs.Plans.{all_sound, elements_there, header_is, header_met, header_with, is_first_format, len_is, of_header, passes, then_changes, with_format}
use Rattle.laws_validate.proofs.Wanted.{is_object}

-- ---- the elements

of_rest : (rs : Result (List ResourceChange) PlanError) (x : ResourceChange) (refusal : PlanError)
    → results.◌>>=◌ rs (λ xs. let r : Result (List ResourceChange) PlanError = Ok (x ∷ xs) in r) ≡ Err refusal → rs ≡ Err refusal
of_rest (Ok xs) x refusal e = absurd cc
of_rest (Err y) x refusal e = ap (λ (z : PlanError). let r : Result (List ResourceChange) PlanError = Err z in r) (err_is y refusal e)

-- the first of a list is refused, or one after it
first_or_later : (r : Result ResourceChange PlanError) (rs : List (Result ResourceChange PlanError)) (refusal : PlanError) (G : Type 0)
    → all_or_first (r ∷ rs) ≡ Err refusal
    → (r ≡ Err refusal → G) → (is_ok r ≡ true → all_or_first rs ≡ Err refusal → G) → G
first_or_later (Err x) rs refusal G e first later = first (ap (λ (y : PlanError). let r : Result ResourceChange PlanError = Err y in r) (err_is x refusal e))
first_or_later (Ok x) rs refusal G e first later = later refl (of_rest (all_or_first rs) x refusal e)

first_refused : (refusal : PlanError) (ds before all : List Data) → all ≡ before ++ ds → list_all is_sound before ≡ true
    → all_or_first (map (λ p. change_at (take p.0 all) p.1) (enumerate_from (length before) ds)) ≡ Err refusal
    → list_any (below (Member name.ResourceChanges) (is_reported refusal)) (items_after in_element before ds) ≡ true
first_refused refusal [] before all whole sound e = absurd cc
first_refused refusal (d ∷ ds) before all whole sound e =
    let p : Finding → Bool = below (Member name.ResourceChanges) (is_reported refusal) in
    let front : take (length before) all ≡ before = rw whole (take_at before (d ∷ ds) (length before) refl) in
    let longer : length (before ++ d ∷ []) ≡ length before + 1 = omega (arith, length-append before (d ∷ [])) in
    let own : List Finding = map (under (Item (length before))) (in_element before d) in
    let rest : List Finding = items_after in_element (before ++ d ∷ []) ds in
    first_or_later (change_at (take (length before) all) d) (map (λ p. change_at (take p.0 all) p.1) (enumerate_from (length before + 1) ds)) refusal _ e
    (λ refused. any_left p own rest
    (any_under p (Item (length before)) (in_element before d) (element_reported before d refusal sound (ap (λ (xs : List Data). change_at xs d) (sym front) ∙ refused))))
    (λ accepted later.
    any_right p own rest
    (first_refused refusal ds (before ++ d ∷ []) all (whole ∙ sym (append_assoc before (d ∷ []) ds))
    (all_sound before d sound (ap (λ (xs : List Data). is_ok (change_at xs d)) (sym front) ∙ accepted))
    (ap (λ (n : ℕ). all_or_first (map (λ p. change_at (take p.0 all) p.1) (enumerate_from n ds))) longer ∙ later)))

changes_reported : (refusal : PlanError) (ds : List Data) → changes_of ds ≡ Err refusal
    → list_any (is_reported refusal) (map (under (Member name.ResourceChanges)) (items_after in_element [] ds)) ≡ true
unfolding changes_of
changes_reported refusal ds e =
    any_under (is_reported refusal) (Member name.ResourceChanges) (items_after in_element [] ds) (first_refused refusal ds [] ds refl refl e)

-- ---- the top level

of_changes : (version : List ℕ) (r : Result (List ResourceChange) PlanError) (refusal : PlanError)
    → then_changes version false r ≡ Err refusal → r ≡ Err refusal
of_changes version (Ok changes) refusal e = absurd cc
of_changes version (Err x) refusal e = ap (λ (y : PlanError). let r : Result (List ResourceChange) PlanError = Err y in r) (err_is x refusal e)

by_many : (many : Bool) (version : List ℕ) (r : Result (List ResourceChange) PlanError) (refusal : PlanError) (xs : List Finding)
    → then_changes version many r ≡ Err refusal → (r ≡ Err refusal → list_any (is_reported refusal) xs ≡ true)
    → list_any (is_reported refusal) (if many then finding_at (Member name.ResourceChanges) problem.TooManyChanges ∷ [] else xs) ≡ true
by_many true version r refusal xs e reported =
    ap (λ (x : PlanError). list_any (is_reported x) (finding_at (Member name.ResourceChanges) problem.TooManyChanges ∷ [])) (sym (err_is TooMany refusal e))
by_many false version r refusal xs e reported = reported (of_changes version r refusal e)

elements_reported : (header : Header) (refusal : PlanError) → of_header header ≡ Err refusal
    → list_any (is_reported refusal) (in_elements (list_of header.elements)) ≡ true
elements_reported header refusal e =
    let ds : List Data = list_of header.elements in
    by_many (nat_lt max_changes (length ds)) header.version (changes_of ds) refusal (map (under (Member name.ResourceChanges)) (items_after in_element [] ds))
    (ap (λ (n : ℕ). then_changes header.version (nat_lt max_changes n) (changes_of ds)) (sym (len_is header.elements)) ∙ e) (changes_reported refusal ds)

wrong_format : (b : Bool) (v : List ℕ) (ds : Items) → with_format b v ds ≡ None → b ≡ false
wrong_format true v ds e = absurd cc
wrong_format false v ds e = refl

no_header : (format version : Option (List ℕ)) (elements : Option Items) → header_with format version elements ≡ None
    → passes format version elements ≡ false
no_header None version elements e = refl
no_header (Some f) None elements e = and_false (is_first_format f)
no_header (Some f) (Some v) None e = and_false (is_first_format f)
no_header (Some f) (Some v) (Some ds) e = ap (λ (b : Bool). b && true) (wrong_format (is_first_format f) v ds e)

of_format : (b : Bool) (v : List ℕ) (ds : Items) (h : Header) → with_format b v ds ≡ Some h → ds ≡ h.elements
of_format true v ds h e = ap (λ (it : Header). it.elements) (some_is (let it : Header = record { version = v; elements = ds } in it) h e)
of_format false v ds h e = absurd cc

-- what a header was read of
header_there : (format version : Option (List ℕ)) (elements : Option Items) (h : Header) → header_with format version elements ≡ Some h
    → ((f : List ℕ) × (format ≡ Some f)) × (elements ≡ Some h.elements)
header_there None version elements h e = absurd cc
header_there (Some f) None elements h e = absurd cc
header_there (Some f) (Some v) None h e = absurd cc
header_there (Some f) (Some v) (Some ds) h e = ((f, refl), ap (λ (it : Items). Some it) (of_format (is_first_format f) v ds h e))

no_format : IsReported (is_reported NotAPlan) (rule name.FormatVersion expected.FormatVersion)
no_format None unmet = refl
no_format (Some d) unmet = refl

no_version : IsReported (is_reported NotAPlan) (rule name.TerraformVersion expected.TextOrAbsent)
no_version None unmet = absurd cc
no_version (Some d) unmet = refl

no_elements : IsReported (is_reported NotAPlan) (rule name.ResourceChanges expected.ArrayOrAbsent)
no_elements None unmet = absurd cc
no_elements (Some d) unmet = refl

-- no plan
not_a_plan : (d : Data) → header_of d ≡ None → list_any (is_reported NotAPlan) (in_plan d) ≡ true
unfolding in_plan
not_a_plan d none =
    let v : Option (List ℕ) = text_or (codes "0.0.0") (member_of (codes "terraform_version") d) in
    let r : Option Items = items_or_empty (member_of (codes "resource_changes") d) in
    let unmet : list_all (λ rule. is_met rule.expected (member_at rule.name d)) header_table ≡ false =
    header_met d ∙ no_header (text_of (codes "format_version") d) v r (sym (header_is d) ∙ none) in
    where_reported (is_reported NotAPlan) (suits expected.Plan d) (faults_of header_table d ++ in_elements (items_at name.ResourceChanges d)) (finding_here (problem.IsNot expected.Plan)) refl
    (λ suits_it. any_left (is_reported NotAPlan) (faults_of header_table d) (in_elements (items_at name.ResourceChanges d))
    (faults_reported (is_reported NotAPlan) header_table d (no_format, (no_version, (no_elements, tt))) unmet))

-- a plan, some element of which is refused, or which has too many
in_header : (d : Data) (h : Header) (refusal : PlanError) → header_of d ≡ Some h → of_header h ≡ Err refusal
    → list_any (is_reported refusal) (in_plan d) ≡ true
unfolding in_plan
in_header d h refusal is e =
    let v : Option (List ℕ) = text_or (codes "0.0.0") (member_of (codes "terraform_version") d) in
    let r : Option Items = items_or_empty (member_of (codes "resource_changes") d) in
    let it = header_there (text_of (codes "format_version") d) v r h (sym (header_is d) ∙ is) in
    let there : is_some (as_object d) ≡ true = is_object (codes "format_version") as_str d it.0.0 it.0.1 in
    rw there
    (any_right (is_reported refusal) (faults_of header_table d) (in_elements (items_at name.ResourceChanges d))
    (ap (λ (ds : List Data). list_any (is_reported refusal) (in_elements ds)) (elements_there (member_of (codes "resource_changes") d) h.elements it.1)
    ∙ elements_reported h refusal e))

by_header : (d : Data) (refusal : PlanError) (o : Option Header) → header_of d ≡ o
    → results.◌>>=◌ (or_refuse NotAPlan o) of_header ≡ Err refusal
    → list_any (is_reported refusal) (in_plan d) ≡ true
by_header d refusal None is e = ap (λ (x : PlanError). list_any (is_reported x) (in_plan d)) (sym (err_is NotAPlan refusal e)) ∙ not_a_plan d is
by_header d refusal (Some h) is e = in_header d h refusal is e

tree_reported : (d : Data) (refusal : PlanError) → plan_of_tree d ≡ Err refusal → list_any (is_reported refusal) (in_plan d) ≡ true
unfolding plan_of_tree
tree_reported d refusal e = by_header d refusal (header_of d) refl e

-- ---- the bytes

by_tree : (o : Option Data) (refusal : PlanError) → results.◌>>=◌ (or_refuse NotJson o) plan_of_tree ≡ Err refusal
    → list_any (is_reported refusal) (option_map_or in_plan o (finding_here problem.NotJson ∷ [])) ≡ true
by_tree None refusal e = ap (λ (x : PlanError). list_any (is_reported x) (finding_here problem.NotJson ∷ [])) (sym (err_is NotJson refusal e))
by_tree (Some d) refusal e = tree_reported d refusal e

by_size : (large : Bool) (xs : List Finding) (r : Result SavedPlan PlanError) (refusal : PlanError) → (if large then Err TooLarge else r) ≡ Err refusal
    → (r ≡ Err refusal → list_any (is_reported refusal) xs ≡ true)
    → list_any (is_reported refusal) (if large then finding_here problem.TooManyBytes ∷ [] else xs) ≡ true
by_size true xs r refusal e reported = ap (λ (x : PlanError). list_any (is_reported x) (finding_here problem.TooManyBytes ∷ [])) (sym (err_is TooLarge refusal e))
by_size false xs r refusal e reported = reported e

pub refusal_of_plan : (bytes : List ℕ) (refusal : PlanError) → plan_of bytes ≡ Err refusal → has_refusal_of refusal (plan_findings bytes) ≡ true
unfolding plan_of
refusal_of_plan bytes refusal e =
    by_size (nat_lt max_bytes (length bytes)) (option_map_or in_plan (tree_of bytes) (finding_here problem.NotJson ∷ []))
    (results.◌>>=◌ (or_refuse NotJson (tree_of bytes)) plan_of_tree) refusal e
    (by_tree (tree_of bytes) refusal)
