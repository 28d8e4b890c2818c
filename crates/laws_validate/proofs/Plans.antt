-- A plan has an error if and only if a run refuses it.
use Rattle.std.proofs.Common.{◌≡◌, ◌+◌, ◌++◌, length, map, take, cond, not, ◌&&◌, ◌||◌, is_err, is_ok, is_some, refl, sym, ap, ◌∙◌, append_assoc, arith}
use Rattle.std.specs.Prelude.{ℕ, suc, List, [], ◌∷◌, Bool, true, false, Option, Some, None, Result, Ok, Err, codes, if◌then◌else◌, nat_eq, nat_lt}
use Rattle.std.specs.List.{enumerate_from, list_all, list_any, position_from, starts_with}
use Rattle.std.specs.Option.{option_map_or}
use Rattle.std.proofs.lemmas.List.{length-append, take_at}
use Rattle.std.proofs.lemmas.List.Folds.{list_all-append}
use Rattle.serde_json.specs.Data.{Data, Items, no_items, item, null, boolean, number, string, array, object}
use Rattle.serde_json.specs.Events.{items_len}
use Rattle.serde_json.specs.Find.{as_object, as_str}
use Rattle.apply_json.specs.ShallowView.{items_in}
use Rattle.apply_json.specs.Tree.{◌>>=◌, items_or_empty, list_of, member_of, text_of, text_or, tree_of}
use Rattle.apply_model.specs.Plan.ResourceChange.{ResourceChange}
use Rattle.apply_model.specs.Plan.SavedPlan.{SavedPlan, max_changes}
use Rattle.apply_plan.specs.declared.plan.plan_error.PlanError.{PlanError}
use Rattle.apply_plan.specs.declared.plan.plan_error.PlanError.TheVariants.{BadActions, BadAddress, BadChange, Duplicate, NotAPlan, NotJson, TooLarge, TooMany}
use Rattle.apply_model.specs.declared.plan.step_kind.StepKind.{StepKind}
use Rattle.apply_model.specs.Plan.Address.{relative_address}
use Rattle.apply_plan.specs.Bytes.{max_bytes}
use Rattle.apply_plan.specs.Plan.Element.{Element, element_of}
use Rattle.apply_plan.specs.Plan.Header.{Header, header_of}
use Rattle.apply_resolve.specs.ObjectName.{name_one_object}
use Rattle.apply_plan.specs.Plan.SavedPlan.{change_at, change_of, changes_of, names_object_of, plan_of, plan_of_tree, planned_at}
use Rattle.apply_plan.specs.Plan.Steps.{steps_of_actions}
use Rattle.apply_plan.specs.Results as results
use Rattle.apply_plan.specs.Results.{all_or_first, each_with_earlier, or_refuse}
use Rattle.input_validate.specs.declared.findings.finding.Finding.{Finding}
use Rattle.input_validate.specs.declared.findings.name.Name.TheVariants as name
use Rattle.input_validate.specs.declared.findings.path.Segment.TheVariants.{Item, Member}
use Rattle.input_validate.specs.declared.findings.expected.Expected.TheVariants as expected
use Rattle.input_validate.specs.declared.findings.problem.Problem.TheVariants as problem
use Rattle.input_validate.specs.Findings.{finding_at, finding_here, under}
use Rattle.laws_validate.specs.Laws.{has_refusal}
use Rattle.input_validate.specs.PlanFindings.{by_itself, first_named, header_table, in_element, in_elements, in_plan, is_named, is_sound, name_of, named_again}
use Rattle.input_validate.specs.Rules.{faults_of, items_at, items_after, member_at}
use Rattle.input_validate.specs.Expectations.{is_met}
use Rattle.input_validate.specs.Whole.{plan_findings}
use Rattle.laws_validate.proofs.Clean.{clean, clean-append, clean-faults_of, clean-under, clean-where_suits}
use Rattle.laws_validate.proofs.Elements.{has_change, name_read_is, some_is, sound_is}
use Rattle.input_validate.proofs.Options.{and_assoc, and_false, and_if, and_left, and_right, not_not}
use Rattle.laws_validate.proofs.Wanted.{met_array_or, met_text_or, needs_object}

-- ---- an object that was named before

-- an element of a plan names the object of the other
abbrev pub names : Element → Data → Bool
names e d = option_map_or (λ x. name_one_object x.address x.deposed e.address e.deposed) (element_of d) false

abbrev pub name_in : Element → List ℕ × Option (List ℕ)
name_in e = (e.address, e.deposed)

-- a sound element is known by the name that it is read with
pub name_is : (d : Data) (e : Element) → element_of d ≡ Some e → is_sound d ≡ true → name_of d ≡ Some (name_in e)
name_is d e is sound = rw sound (name_read_is d e is)

-- a sound element names the object that a run reads
named_as_read : (d : Data) (o : Option Element) → element_of d ≡ o → is_sound d ≡ true → (nm : List ℕ × Option (List ℕ))
    → is_named nm (name_of d) ≡ option_map_or (λ x. name_one_object x.address x.deposed nm.0 nm.1) o false
named_as_read d None e sound nm =
    let no : is_sound d ≡ false = sound_is d ∙ ap (λ (o : Option Element). option_map_or has_change o false) e in
    absurd (let h : false ≡ true = sym no ∙ sound in cc)
named_as_read d (Some x) e sound nm = ap (is_named nm) (name_is d x e sound)

pub repeats : (e : Element) (before : List Data) → list_all is_sound before ≡ true → list_any (is_named (name_in e)) (map name_of before) ≡ list_any (names e) before
repeats e [] sound = refl
repeats e (d ∷ ds) sound =
    ap (λ (b : Bool). b || list_any (is_named (name_in e)) (map name_of ds))
    (named_as_read d (element_of d) refl (and_left (is_sound d) (list_all is_sound ds) sound) (name_in e))
    ∙ ap (λ (b : Bool). names e d || b) (repeats e ds (and_right (is_sound d) (list_all is_sound ds) sound))

by_first : (b : Bool) (n : ℕ) (o : Option ℕ) (r : Bool) → clean (named_again o) ≡ not r → clean (named_again (cond b (Some n) o)) ≡ not (b || r)
by_first true n o r is = refl
by_first false n o r is = is

any_position : {A : Type 0} (p : A → Bool) (n : ℕ) (xs : List A) → clean (named_again (position_from p n xs)) ≡ not (list_any p xs)
any_position p n [] = refl
any_position p n (x ∷ xs) = by_first (p x) n (position_from p (n + 1) xs) (list_any p xs) (any_position p (n + 1) xs)

-- ---- one element

-- what stands before has no error
abbrev is_new : List Data → Data → Bool
is_new before d = clean (named_again (first_named (map name_of before) (name_of d)))

in_element_is : (before : List Data) (d : Data) → clean (in_element before d) ≡ (is_sound d && is_new before d)
in_element_is before d =
    let again : List Finding = named_again (first_named (map name_of before) (name_of d)) in
    clean-where_suits expected.Object d (by_itself d ++ again)
    ∙ ap (λ (b : Bool). is_some (as_object d) && b) (clean-append (by_itself d) again)
    ∙ and_assoc (is_some (as_object d)) (clean (by_itself d)) (clean again)

abbrev pub finished : ℕ → List Data → ResourceChange → Result ResourceChange PlanError
finished n before change = if list_any (names_object_of change) before then Err (Duplicate n) else Ok change

by_repeat : (n : ℕ) (b : Bool) (change : ResourceChange) → is_ok (let r : Result ResourceChange PlanError = if b then Err (Duplicate n) else Ok change in r) ≡ not b
by_repeat n true change = refl
by_repeat n false change = refl

-- what a run makes of an element: of its relative address, of its steps, and of what was read
abbrev with_relative : ℕ → Element → List StepKind → Option (List ℕ) → Result ResourceChange PlanError
with_relative n e steps relative = results.◌>>=◌ (or_refuse (BadAddress n) relative) (λ it. Ok (change_of e steps))

abbrev pub with_steps : ℕ → Element → Option (List StepKind) → Option (List ℕ) → Result ResourceChange PlanError
with_steps n e steps relative = results.◌>>=◌ (or_refuse (BadActions n) steps) (λ findings. with_relative n e findings relative)

abbrev pub with_element : ℕ → Option Element → Result ResourceChange PlanError
with_element n o = results.◌>>=◌ (or_refuse (BadChange n) o) (λ e. with_steps n e (steps_of_actions e.actions) (relative_address e.module_address e.address))

pub change_is : (before : List Data) (d : Data) → change_at before d ≡ results.◌>>=◌ (with_element (length before) (element_of d)) (finished (length before) before)
unfolding change_at planned_at
change_is before d = refl

both : (n : ℕ) (e : Element) (before : List Data) (steps : Option (List StepKind)) (relative : Option (List ℕ))
    → is_ok (results.◌>>=◌ (with_steps n e steps relative) (finished n before))
    ≡ ((is_some steps && is_some relative) && not (list_any (names e) before))
both n e before None relative = refl
both n e before (Some steps) None = refl
both n e before (Some steps) (Some relative) = by_repeat n (list_any (names e) before) (change_of e steps)

new_is : (before : List Data) (d : Data) (e : Element) → element_of d ≡ Some e → list_all is_sound before ≡ true → is_sound d ≡ true
    → is_new before d ≡ not (list_any (names e) before)
new_is before d e is sound itself =
    ap (λ (o : Option (List ℕ × Option (List ℕ))). clean (named_again (first_named (map name_of before) o))) (name_is d e is itself)
    ∙ any_position (is_named (name_in e)) 0 (map name_of before)
    ∙ ap not (repeats e before sound)

by_sound : (before : List Data) (d : Data) (e : Element) → element_of d ≡ Some e → list_all is_sound before ≡ true → (v : Bool) → is_sound d ≡ v
    → (v && not (list_any (names e) before)) ≡ (is_sound d && is_new before d)
by_sound before d e is sound true itself = sym (new_is before d e is sound itself) ∙ ap (λ (b : Bool). b && is_new before d) (sym itself)
by_sound before d e is sound false itself = ap (λ (b : Bool). b && is_new before d) (sym itself)

by_read : (before : List Data) (d : Data) → list_all is_sound before ≡ true → (o : Option Element) → element_of d ≡ o
    → is_ok (results.◌>>=◌ (with_element (length before) o) (finished (length before) before)) ≡ (is_sound d && is_new before d)
by_read before d sound None is =
    let no : is_sound d ≡ false = sound_is d ∙ ap (λ (o : Option Element). option_map_or has_change o false) is in
    ap (λ (b : Bool). b && is_new before d) (sym no)
by_read before d sound (Some e) is =
    both (length before) e before (steps_of_actions e.actions) (relative_address e.module_address e.address)
    ∙ by_sound before d e is sound (has_change e) (sound_is d ∙ ap (λ (o : Option Element). option_map_or has_change o false) is)

one : (before : List Data) (d : Data) → list_all is_sound before ≡ true → is_ok (change_at before d) ≡ (is_sound d && is_new before d)
one before d sound = ap (λ (r : Result ResourceChange PlanError). is_ok r) (change_is before d) ∙ by_read before d sound (element_of d) refl

-- an element that a run accepts is sound, and so are the elements before it
pub all_sound : (before : List Data) (d : Data) → list_all is_sound before ≡ true → is_ok (change_at before d) ≡ true → list_all is_sound (before ++ d ∷ []) ≡ true
all_sound before d sound ok =
    let itself : is_sound d ≡ true = and_left (is_sound d) (is_new before d) (sym (one before d sound) ∙ ok) in
    list_all-append is_sound before (d ∷ []) ∙ ap (λ (b : Bool). b && (is_sound d && true)) sound ∙ ap (λ (b : Bool). b && true) itself

-- ---- the elements

changes_are : (ds before all : List Data) → all ≡ before ++ ds → list_all is_sound before ≡ true
    → list_all is_ok (map (λ p. change_at (take p.0 all) p.1) (enumerate_from (length before) ds)) ≡ clean (items_after in_element before ds)
changes_are [] before all whole sound = refl
changes_are (d ∷ ds) before all whole sound =
    let front : take (length before) all ≡ before = rw whole (take_at before (d ∷ ds) (length before) refl) in
    let longer : length (before ++ d ∷ []) ≡ length before + 1 = omega (arith, length-append before (d ∷ [])) in
    let rest : Bool = list_all is_ok (map (λ p. change_at (take p.0 all) p.1) (enumerate_from (length before + 1) ds)) in
    let is : is_ok (change_at before d) ≡ clean (in_element before d) = one before d sound ∙ sym (in_element_is before d) in
    and_if (is_ok (change_at (take (length before) all) d)) (clean (in_element before d)) rest (clean (items_after in_element (before ++ d ∷ []) ds))
    (ap (λ (xs : List Data). is_ok (change_at xs d)) front ∙ is)
    (λ new.
    ap (λ (n : ℕ). list_all is_ok (map (λ p. change_at (take p.0 all) p.1) (enumerate_from n ds))) (sym longer)
    ∙ changes_are ds (before ++ d ∷ []) all (whole ∙ sym (append_assoc before (d ∷ []) ds)) (all_sound before d sound (is ∙ new)))
    ∙ sym (clean-append (map (under (Item (length before))) (in_element before d)) (items_after in_element (before ++ d ∷ []) ds)
    ∙ ap (λ (b : Bool). b && clean (items_after in_element (before ++ d ∷ []) ds)) (clean-under (Item (length before)) (in_element before d)))

one_more_ok : {A E : Type 0} (r : Result A E) (rs : Result (List A) E) → is_ok (results.◌>>=◌ r (λ x. results.◌>>=◌ rs (λ xs. Ok (x ∷ xs)))) ≡ (is_ok r && is_ok rs)
one_more_ok (Err e) rs = refl
one_more_ok (Ok x) (Err e) = refl
one_more_ok (Ok x) (Ok xs) = refl

pub all_ok : {A E : Type 0} (rs : List (Result A E)) → is_ok (all_or_first rs) ≡ list_all is_ok rs
all_ok [] = refl
all_ok (r ∷ rs) = one_more_ok r (all_or_first rs) ∙ ap (λ (b : Bool). is_ok r && b) (all_ok rs)

changes_ok : (ds : List Data) → is_ok (changes_of ds) ≡ clean (items_after in_element [] ds)
unfolding changes_of
changes_ok ds = all_ok (each_with_earlier change_at ds) ∙ changes_are ds [] ds refl refl

-- ---- the top level

abbrev pub is_first_format : List ℕ → Bool
is_first_format text = starts_with nat_eq text (codes "1.")

met_format : (o : Option Data) → is_met expected.FormatVersion o ≡ option_map_or is_first_format (o >>= as_str) false
met_format None = refl
met_format (Some d) = refl

pub len_is : (ds : Items) → items_len ds ≡ length (list_of ds)
len_is no_items = refl
len_is (item d ds) = ap suc (len_is ds)

-- a plan of so many changes, unless they are too many
abbrev pub then_changes : List ℕ → (many : Bool) → Result (List ResourceChange) PlanError → Result SavedPlan PlanError
then_changes version many r = if many then Err TooMany else results.◌>>=◌ r (λ changes. Ok (let p : SavedPlan = record { version = version; changes = changes } in p))

-- what a run makes of the top level
abbrev pub of_header : Header → Result SavedPlan PlanError
of_header header = then_changes header.version (nat_lt max_changes (items_len header.elements)) (changes_of (list_of header.elements))

then_ok : (version : List ℕ) (r : Result (List ResourceChange) PlanError) → is_ok (then_changes version false r) ≡ is_ok r
then_ok version (Ok changes) = refl
then_ok version (Err e) = refl

by_many : (many : Bool) (version : List ℕ) (r : Result (List ResourceChange) PlanError) (xs : List Finding) → is_ok r ≡ clean xs
    → is_ok (then_changes version many r)
    ≡ clean (if many then finding_at (Member name.ResourceChanges) problem.TooManyChanges ∷ [] else xs)
by_many true version r xs is = refl
by_many false version r xs is = then_ok version r ∙ is

elements_ok : (version : List ℕ) (ds : Items) → is_ok (of_header (record { version = version; elements = ds })) ≡ clean (in_elements (list_of ds))
elements_ok version ds =
    ap (λ (n : ℕ). is_ok (then_changes version (nat_lt max_changes n) (changes_of (list_of ds)))) (len_is ds)
    ∙ by_many (nat_lt max_changes (length (list_of ds))) version (changes_of (list_of ds)) (map (under (Member name.ResourceChanges)) (items_after in_element [] (list_of ds)))
    (changes_ok (list_of ds) ∙ sym (clean-under (Member name.ResourceChanges) (items_after in_element [] (list_of ds))))

abbrev pub with_format : Bool → List ℕ → Items → Option Header
with_format b version ds = if b then Some (record { version = version; elements = ds }) else None

-- the top level, by what its members are read as
abbrev pub header_with : Option (List ℕ) → Option (List ℕ) → Option Items → Option Header
header_with format version elements = format >>= λ f. version >>= λ v. elements >>= λ ds. with_format (is_first_format f) v ds

abbrev header_read : Data → Option Header
header_read d = header_with (text_of (codes "format_version") d) (text_or (codes "0.0.0") (member_of (codes "terraform_version") d)) (items_or_empty (member_of (codes "resource_changes") d))

pub header_is : (d : Data) → header_of d ≡ header_read d
unfolding header_of
header_is d = refl

-- what the members at the top have to be, as a run tests it
abbrev pub passes : Option (List ℕ) → Option (List ℕ) → Option Items → Bool
passes format version elements = option_map_or is_first_format format false && (is_some version && (is_some elements && true))

header_reads : (b : Bool) (version : Option (List ℕ)) (elements : Option Items) (rest : Bool) → ((ds : Items) → elements ≡ Some ds → rest ≡ clean (in_elements (list_of ds)))
    → ((b && (is_some version && (is_some elements && true))) && rest)
    ≡ is_ok (results.◌>>=◌ (or_refuse NotAPlan (version >>= λ v. elements >>= λ ds. with_format b v ds)) of_header)
header_reads b None elements rest is = ap (λ (x : Bool). x && rest) (and_false b)
header_reads b (Some v) None rest is = ap (λ (x : Bool). x && rest) (and_false b)
header_reads true (Some v) (Some ds) rest is = is ds refl ∙ sym (elements_ok v ds)
header_reads false (Some v) (Some ds) rest is = refl

format_reads : (format version : Option (List ℕ)) (elements : Option Items) (rest : Bool) → ((ds : Items) → elements ≡ Some ds → rest ≡ clean (in_elements (list_of ds)))
    → (passes format version elements && rest)
    ≡ is_ok (results.◌>>=◌ (or_refuse NotAPlan (header_with format version elements)) of_header)
format_reads None version elements rest is = refl
format_reads (Some f) version elements rest is = header_reads (is_first_format f) version elements rest is

pub elements_there : (o : Option Data) (ds : Items) → items_or_empty o ≡ Some ds → option_map_or (λ value. list_of (items_in value)) o [] ≡ list_of ds
elements_there None ds e = ap list_of (some_is no_items ds e)
elements_there (Some null) ds e = absurd cc
elements_there (Some (boolean b)) ds e = absurd cc
elements_there (Some (number n)) ds e = absurd cc
elements_there (Some (string s)) ds e = absurd cc
elements_there (Some (array es)) ds e = ap list_of (some_is es ds e)
elements_there (Some (object ms)) ds e = absurd cc

same_version : (a b : List ℕ) (o : Option Data) → is_some (text_or a o) ≡ is_some (text_or b o)
same_version a b None = refl
same_version a b (Some d) = refl

members : {a v e a1 v1 e1 : Bool} → a ≡ a1 → v ≡ v1 → e ≡ e1 → (a && (v && (e && true))) ≡ (a1 && (v1 && (e1 && true)))
members ea ev ee = cc

pub header_met : (d : Data)
    → list_all (λ rule. is_met rule.expected (member_at rule.name d)) header_table
    ≡ passes (text_of (codes "format_version") d) (text_or (codes "0.0.0") (member_of (codes "terraform_version") d)) (items_or_empty (member_of (codes "resource_changes") d))
header_met d =
    let v : Option Data = member_of (codes "terraform_version") d in
    members (met_format (member_of (codes "format_version") d)) (met_text_or v ∙ same_version [] (codes "0.0.0") v) (met_array_or (member_of (codes "resource_changes") d))

clean_plan : (d : Data) → clean (in_plan d) ≡ is_ok (plan_of_tree d)
unfolding in_plan plan_of_tree header_of
clean_plan d =
    let f : Option Data = member_of (codes "format_version") d in
    let v : Option (List ℕ) = text_or (codes "0.0.0") (member_of (codes "terraform_version") d) in
    let r : Option Data = member_of (codes "resource_changes") d in
    let changes : List Finding = in_elements (items_at name.ResourceChanges d) in
    let tests : Bool = passes (f >>= as_str) v (items_or_empty r) in
    let wrong : clean (faults_of header_table d) ≡ tests = clean-faults_of header_table d ∙ header_met d in
    clean-where_suits expected.Plan d (faults_of header_table d ++ changes)
    ∙ ap (λ (b : Bool). is_some (as_object d) && b) (clean-append (faults_of header_table d) changes ∙ ap (λ (b : Bool). b && clean changes) wrong)
    ∙ needs_object (codes "format_version") d (tests && clean changes)
    (λ none. ap (λ (o : Option Data). passes (o >>= as_str) v (items_or_empty r) && clean changes) none)
    ∙ format_reads (f >>= as_str) v (items_or_empty r) (clean changes)
    (λ ds e. ap (λ (es : List Data). clean (in_elements es)) (elements_there r ds e))

-- ---- the bytes

of_tree : (o : Option Data) → clean (option_map_or in_plan o (finding_here problem.NotJson ∷ [])) ≡ is_ok (results.◌>>=◌ (or_refuse NotJson o) plan_of_tree)
of_tree None = refl
of_tree (Some d) = clean_plan d

by_size : (large : Bool) (xs : List Finding) (r : Result SavedPlan PlanError) → clean xs ≡ is_ok r
    → clean (if large then finding_here problem.TooManyBytes ∷ [] else xs) ≡ is_ok (if large then Err TooLarge else r)
by_size true xs r is = refl
by_size false xs r is = is

refused : {A E : Type 0} (r : Result A E) → not (is_ok r) ≡ is_err r
refused (Ok x) = refl
refused (Err e) = refl

pub refusals_of_plan : (bytes : List ℕ) → has_refusal (plan_findings bytes) ≡ is_err (plan_of bytes)
unfolding plan_of
refusals_of_plan bytes =
    sym (not_not (has_refusal (plan_findings bytes)))
    ∙ ap not
    (by_size (nat_lt max_bytes (length bytes)) (option_map_or in_plan (tree_of bytes) (finding_here problem.NotJson ∷ []))
    (results.◌>>=◌ (or_refuse NotJson (tree_of bytes)) plan_of_tree) (of_tree (tree_of bytes)))
    ∙ refused (plan_of bytes)
