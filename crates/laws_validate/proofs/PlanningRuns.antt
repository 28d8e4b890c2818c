-- There is an error in `planning` if and only if a run refuses what a script says there.
use Rattle.std.proofs.Common.{◌≡◌, ℕ, suc, ◌+◌, ◌≤◌, List, [], ◌∷◌, ◌++◌, length, map, slice_get, Bool, true, false, cond, not, ◌&&◌, ◌||◌, is_ok, is_err, is_some, Option, Some, None, Result, Ok, Err, if◌then◌else◌, refl, sym, ap, subst, ◌∙◌, append_assoc, length-append, arith}
use Rattle.std.specs.Prelude.{codes, find, fold, is_none, nat_le, nat_lt}
use Rattle.std.specs.List.{enumerate_from, position_from}
use Rattle.std.specs.Option.{option_and_then, option_map, option_map_or, option_or}
use Rattle.std.proofs.lemmas.Bool.Decides.{nat_tests}
use Rattle.std.proofs.lemmas.List.{append-nil, map-append}
use Rattle.serde_json.specs.Data.{Data, null, boolean, number, string, array, object, Items, no_items, item}
use Rattle.apply_json.specs.ShallowView.{items_in as shown_items}
use Rattle.apply_json.specs.Tree.{items_or_empty, list_of, member_of, tree_of}
use Rattle.apply_json.specs.Verbatim.{mixed_tree_of}
use Rattle.apply_model.specs.declared.plan.mode.Mode.{Mode}
use Rattle.apply_model.specs.Plan.ResourceChange.{ResourceChange}
use Rattle.apply_plan.specs.Bytes.{max_bytes}
use Rattle.apply_plan.specs.declared.script.planning_error.PlanningError.{PlanningError}
use Rattle.apply_plan.specs.declared.script.planning_error.PlanningError.TheVariants.{Malformed, Misfits, Repeated, TooMany}
use Rattle.apply_plan.specs.declared.script.script_error.ScriptError.TheVariants.{BadShape, NotJson, Planning}
use Rattle.apply_plan.specs.Results as results
use Rattle.apply_plan.specs.Script.Entry.{is_verbatim_name}
use Rattle.apply_prior.specs.declared.prior_object.PriorObject.{PriorObject}
use Rattle.apply_planning_script.specs.Items.{Item, item_of, object_of_item}
use Rattle.apply_planning_script.specs.Objects.{is_same_name, object_of}
use Rattle.apply_planning_script.specs.Planning as run
use Rattle.apply_planning_script.specs.Planning.{ReadItems, and_element, checked, fault_of, first_fault, items_in, max_items, nothing_read, object_of_prior, said_in, said_in_tree}
use Rattle.input_validate.specs.declared.findings.finding.Finding.{Finding}
use Rattle.input_validate.specs.declared.findings.name.Name.TheVariants as name
use Rattle.input_validate.specs.declared.findings.path.Segment.TheVariants.{Item as at_item, Member}
use Rattle.input_validate.specs.declared.findings.expected.Expected.TheVariants as expected
use Rattle.input_validate.specs.Expectations.{is_met}
use Rattle.input_validate.specs.Findings.{under}
use Rattle.input_validate.specs.ObjectNames.{Named}
use Rattle.input_validate.specs.PlanFindings.{first_named, is_named}
use Rattle.input_validate.specs.Planning.{in_planned_after, in_planning, known_mode, mode_of_name, planned_name, planning_findings, planning_violation}
use Rattle.input_validate.specs.Rules.{fault_of as fault_of_member, items_after, items_at, member_at, rule, violation_findings}
use Rattle.laws_validate.specs.Laws.{has_refusal}
use Rattle.input_validate.proofs.Options.{and_false, not_not}
use Rattle.input_validate.proofs.PriorNames.{objects_in}
use Rattle.laws_validate.proofs.Alike.{Alike, AlikeItems, both_trees, bytes_alike, member_alike}
use Rattle.laws_validate.proofs.Clean.{clean, clean-append, clean-fault_of, clean-under}
use Rattle.laws_validate.proofs.CleanAgainstPlan.{clean_violation}
use Rattle.laws_validate.proofs.Elements.{named}
use Rattle.laws_validate.proofs.Members.{array_or, at_alike, count_same}
use Rattle.laws_validate.proofs.Placing.{StandFrom, first_there, rest_there, whole_there}
use Rattle.laws_validate.proofs.PlannedEntries.{clean_planned, fits, item_is, planned_name_same}

-- ---- what the plan knows

module _ {X : Type 0} (test : X → Bool) (all : List X) where
  numbered_by : (b : Bool) (n : ℕ) (x : X) (o : Option (ℕ × X)) (r : Option X) → slice_get all n ≡ Some x → option_and_then (slice_get all) (option_map (λ p. p.0) o) ≡ r
      → option_and_then (slice_get all) (option_map (λ p. p.0) (cond b (Some (n, x)) o)) ≡ cond b (Some x) r
  numbered_by true n x o r here rest = here
  numbered_by false n x o r here rest = rest

  -- a lookup by number gives what a lookup by itself gives
  numbered : (n : ℕ) (xs : List X) → StandFrom n all xs → option_and_then (slice_get all) (option_map (λ p. p.0) (find (λ p. test p.1) (enumerate_from n xs))) ≡ find test xs
  numbered n [] stand = refl
  numbered n (x ∷ xs) stand =
      numbered_by (test x) n x (find (λ p. test p.1) (enumerate_from (n + 1) xs)) (find test xs) (first_there n all x xs stand)
      (numbered (n + 1) xs (subst (λ (m : ℕ). StandFrom m all xs) (let e : suc n ≡ n + 1 = omega arith in e) (rest_there n all x xs stand)))

found_by : (b : Bool) (p : PriorObject) (o : Option ResourceChange) (r : Option PriorObject) → o ≡ option_map (λ prior. prior.object) r
    → cond b (Some p.object) o ≡ option_map (λ prior. prior.object) (cond b (Some p) r)
found_by true p o r rest = refl
found_by false p o r rest = rest

-- of the objects alone
mapped_find : (test : ResourceChange → Bool) (priors : List PriorObject) → find test (objects_in priors) ≡ option_map (λ prior. prior.object) (find (λ prior. test prior.object) priors)
mapped_find test [] = refl
mapped_find test (p ∷ ps) = found_by (test p.object) p (find test (objects_in ps)) (find (λ prior. test prior.object) ps) (mapped_find test ps)

twice : (o : Option PriorObject) → option_map (λ object. object.mode) (option_map (λ prior. prior.object) o) ≡ option_map (λ prior. prior.object.mode) o
twice None = refl
twice (Some p) = refl

known_same : (priors : List PriorObject) (it : Item) → known_mode (objects_in priors) (named it.address it.deposed) ≡ run.known_mode priors (object_of_item it)
known_same priors it =
    let test : PriorObject → Bool = λ prior. is_same_name (object_of_prior prior) (object_of_item it) in
    ap (option_map (λ (object : ResourceChange). object.mode)) (mapped_find (λ object. is_same_name (object_of object) (object_of_item it)) priors)
    ∙ twice (find test priors)
    ∙ ap (option_map (λ (prior : PriorObject). prior.object.mode)) (sym (numbered test priors 0 priors (whole_there priors)))

mode_same : (priors : List PriorObject) (it : Item) → mode_of_name (objects_in priors) (named it.address it.deposed) ≡ run.mode_of_object (run.known_mode priors (object_of_item it)) it
mode_same priors it = ap (λ (o : Option Mode). run.mode_of_object o it) (known_same priors it)

-- ---- the fault of an item

-- the names of items
abbrev pub names_of : List Item → List (Option Named)
names_of items = map (λ it. Some (named it.address it.deposed)) items

again_by : (b : Bool) (n : ℕ) (o : Option ℕ) (r : Bool) → is_some o ≡ r → is_some (cond b (Some n) o) ≡ (b || r)
again_by true n o r rest = refl
again_by false n o r rest = rest

again_same : (earlier : List Item) (it : Item) (n : ℕ) → is_some (position_from (is_named (named it.address it.deposed)) n (names_of earlier)) ≡ run.is_repeated earlier it
again_same [] it n = refl
again_same (one ∷ earlier) it n =
    again_by (is_same_name (object_of_item one) (object_of_item it)) n (position_from (is_named (named it.address it.deposed)) (n + 1) (names_of earlier)) (run.is_repeated earlier it)
    (again_same earlier it (n + 1))

-- the fault by two tests
abbrev fault_by : (n : ℕ) → (misfit repeated : Bool) → Option PlanningError
fault_by n misfit repeated = if misfit then Some (Misfits n) else if repeated then Some (Repeated n) else None

tested : (n : ℕ) (misfit repeated : Bool) → (not misfit && not repeated) ≡ is_none (fault_by n misfit repeated)
tested n true repeated = refl
tested n false true = refl
tested n false false = refl

by_mode : (earlier : List Item) (it : Item) (mode : Option Mode)
    → (option_map_or (λ m. not (run.misfits it m)) mode false && not (run.is_repeated earlier it)) ≡ is_none (run.fault_with earlier it mode)
by_mode earlier it None = refl
by_mode earlier it (Some mode) = tested (length earlier) (run.misfits it mode) (run.is_repeated earlier it)

-- an item that fits its object, and is the first about it, has no fault
pub fault_same : (priors : List PriorObject) (earlier : List Item) (it : Item)
    → (fits (objects_in priors) it && not (is_some (first_named (names_of earlier) (Some (named it.address it.deposed))))) ≡ is_none (fault_of priors earlier it)
fault_same priors earlier it =
    ap (λ (b : Bool). fits (objects_in priors) it && not b) (again_same earlier it 0)
    ∙ by_mode earlier it (mode_of_name (objects_in priors) (named it.address it.deposed))
    ∙ ap (λ (o : Option Mode). is_none (run.fault_with earlier it o)) (mode_same priors it)

-- ---- the entries

-- a run reads each of these elements after earlier items, and none has a fault
abbrev pub all_pass : List PriorObject → List Item → List Data → Bool
all_pass priors earlier [] = true
all_pass priors earlier (k ∷ ks) = option_map_or (λ it. is_none (fault_of priors earlier it) && all_pass priors (earlier ++ it ∷ []) ks) (item_of k) false

pub names_more : (earlier : List Item) (it : Item) → names_of earlier ++ Some (named it.address it.deposed) ∷ [] ≡ names_of (earlier ++ it ∷ [])
names_more earlier it = sym (map-append (λ (one : Item). Some (named one.address one.deposed)) earlier (it ∷ []))

module _ (priors : List PriorObject) where
  -- the findings of elements after others
  abbrev pub after_them : List Data → List Data → List Finding
  after_them before ds = items_after (in_planned_after (Some (objects_in priors))) before ds

  -- an entry that a run reads, after others that it reads
  pub entry_same : (before : List Data) (earlier : List Item) (d k : Data) (it : Item) → Alike d k → item_of k ≡ Some it → map planned_name before ≡ names_of earlier
      → (fits (objects_in priors) it && not (is_some (first_named (map planned_name before) (planned_name d)))) ≡ is_none (fault_of priors earlier it)
  entry_same before earlier d k it alike e names =
      ap (λ (all : List (Option Named)). fits (objects_in priors) it && not (is_some (first_named all (planned_name d)))) names
      ∙ ap (λ (o : Option Named). fits (objects_in priors) it && not (is_some (first_named (names_of earlier) o))) (planned_name_same d k alike ∙ (item_is k it e).named_so)
      ∙ fault_same priors earlier it

  pub names_grow : (before : List Data) (earlier : List Item) (d k : Data) (it : Item) → Alike d k → item_of k ≡ Some it → map planned_name before ≡ names_of earlier
      → map planned_name (before ++ d ∷ []) ≡ names_of (earlier ++ it ∷ [])
  names_grow before earlier d k it alike e names =
      map-append planned_name before (d ∷ []) ∙ ap (λ (xs : List (Option Named)). xs ++ planned_name d ∷ []) names
      ∙ ap (λ (o : Option Named). names_of earlier ++ o ∷ []) (planned_name_same d k alike ∙ (item_is k it e).named_so) ∙ names_more earlier it

  by_item : (before : List Data) (earlier : List Item) (d k : Data) (rest ks : List Data) → Alike d k → map planned_name before ≡ names_of earlier
      → ((it : Item) → map planned_name (before ++ d ∷ []) ≡ names_of (earlier ++ it ∷ []) → clean (after_them (before ++ d ∷ []) rest) ≡ all_pass priors (earlier ++ it ∷ []) ks)
      → (o : Option Item) → item_of k ≡ o
      → (option_map_or (λ it. fits (objects_in priors) it && not (is_some (first_named (map planned_name before) (planned_name d)))) o false && clean (after_them (before ++ d ∷ []) rest))
      ≡ option_map_or (λ it. is_none (fault_of priors earlier it) && all_pass priors (earlier ++ it ∷ []) ks) o false
  by_item before earlier d k rest ks alike names later None e = refl
  by_item before earlier d k rest ks alike names later (Some it) e =
      ap (λ (b : Bool). b && clean (after_them (before ++ d ∷ []) rest)) (entry_same before earlier d k it alike e names)
      ∙ ap (λ (b : Bool). is_none (fault_of priors earlier it) && b) (later it (names_grow before earlier d k it alike e names))

  entries_clean : (before : List Data) (earlier : List Item) (ds es : Items) → AlikeItems ds es → map planned_name before ≡ names_of earlier
      → clean (after_them before (list_of ds)) ≡ all_pass priors earlier (list_of es)
  entries_clean before earlier no_items es a names = rw a refl
  entries_clean before earlier (item d ds) es a names =
      let own : List Finding = in_planned_after (Some (objects_in priors)) before d in
      let rest : List Finding = after_them (before ++ d ∷ []) (list_of ds) in
      rw (a.2)
      (clean-append (map (under (at_item (length before))) own) rest
      ∙ ap (λ (b : Bool). b && clean rest) (clean-under (at_item (length before)) own ∙ clean_planned (objects_in priors) (first_named (map planned_name before) (planned_name d)) d a.0 a.3)
      ∙ by_item before earlier d a.0 (list_of ds) (list_of a.1) a.3 names (λ it more. entries_clean (before ++ d ∷ []) (earlier ++ it ∷ []) ds a.1 a.4 more) (item_of a.0) refl)

-- ---- what a run reads

abbrev pub read_with : List Item → Option PlanningError → ReadItems
read_with items fault = record { items = items; fault = fault }

-- after earlier items, one more
abbrev pub read_more : (full : Bool) → List Item → Option Item → ReadItems
read_more full earlier o = if full then read_with earlier (Some TooMany) else run.with_item earlier o

-- after a fault the others do not count
pub stays : (items : List Item) (fault : PlanningError) (ks : List Data) → fold and_element (read_with items (Some fault)) ks ≡ read_with items (Some fault)
unfolding and_element
stays items fault [] = refl
stays items fault (k ∷ ks) = stays items fault ks

-- the items that are read begin with the earlier ones
abbrev Grown : List Item → ReadItems → Type 0
Grown earlier read = (more : List Item) × (read.items ≡ earlier ++ more)

faulty_grown : (earlier : List Item) (fault : PlanningError) (ks : List Data) → Grown earlier (fold and_element (read_with earlier (Some fault)) ks)
faulty_grown earlier fault ks = ([], ap (λ (r : ReadItems). r.items) (stays earlier fault ks) ∙ sym (append-nil earlier))

grown_by : (earlier : List Item) (ks : List Data) → ((it : Item) → Grown (earlier ++ it ∷ []) (fold and_element (read_with (earlier ++ it ∷ []) None) ks))
    → (full : Bool) (o : Option Item) → Grown earlier (fold and_element (read_more full earlier o) ks)
grown_by earlier ks later true o = faulty_grown earlier TooMany ks
grown_by earlier ks later false None = faulty_grown earlier (Malformed (length earlier)) ks
grown_by earlier ks later false (Some it) = let rest = later it in (it ∷ rest.0, rest.1 ∙ append_assoc earlier (it ∷ []) rest.0)

pub grows : (earlier : List Item) (ks : List Data) → Grown earlier (fold and_element (read_with earlier None) ks)
unfolding and_element
grows earlier [] = ([], sym (append-nil earlier))
grows earlier (k ∷ ks) = grown_by earlier ks (λ it. grows (earlier ++ it ∷ []) ks) (nat_le max_items (length earlier)) (item_of k)

or_assoc : (o p q : Option PlanningError) → option_or o (option_or p q) ≡ option_or (option_or o p) q
or_assoc None p q = refl
or_assoc (Some fault) p q = refl

-- the first fault of two lists of items
pub faults_of_both : (priors : List PriorObject) (before xs ys : List Item) → first_fault priors before (xs ++ ys) ≡ option_or (first_fault priors before xs) (first_fault priors (before ++ xs) ys)
unfolding first_fault
faults_of_both priors before [] ys = ap (λ (bs : List Item). first_fault priors bs ys) (sym (append-nil before))
faults_of_both priors before (x ∷ xs) ys =
    ap (option_or (fault_of priors before x))
    (faults_of_both priors (before ++ x ∷ []) xs ys
    ∙ ap (λ (bs : List Item). option_or (first_fault priors (before ++ x ∷ []) xs) (first_fault priors bs ys)) (append_assoc before (x ∷ []) xs))
    ∙ or_assoc (fault_of priors before x) (first_fault priors (before ++ x ∷ []) xs) (first_fault priors (before ++ x ∷ xs) ys)

or_none : (o : Option PlanningError) → option_or o None ≡ o
or_none None = refl
or_none (Some fault) = refl

one_fault : (priors : List PriorObject) (before : List Item) (it : Item) → first_fault priors before (it ∷ []) ≡ fault_of priors before it
unfolding first_fault
one_fault priors before it = or_none (fault_of priors before it)

-- a run refuses none of what it read
abbrev is_fine : List PriorObject → ReadItems → Bool
is_fine priors read = is_none (option_or (first_fault priors [] read.items) read.fault)

no_or : (o : Option PlanningError) (fault : PlanningError) → is_none (option_or o (Some fault)) ≡ false
no_or None fault = refl
no_or (Some other) fault = refl

faulty : (priors : List PriorObject) (items : List Item) (fault : PlanningError) → is_fine priors (read_with items (Some fault)) ≡ false
faulty priors items fault = no_or (first_fault priors [] items) fault

fine : (priors : List PriorObject) (items : List Item) → first_fault priors [] items ≡ None → is_fine priors (read_with items None) ≡ true
fine priors items none = rw none refl

pub is_full : (n m : ℕ) → nat_le max_items n ≡ true → nat_le (n + suc m) max_items ≡ false
is_full n m e = grind (arith, nat_tests)

fits_in : (n : ℕ) → n ≤ max_items → nat_le (n + 0) max_items ≡ true
fits_in n e = grind (arith, nat_tests)

pub not_full : (n : ℕ) → nat_le max_items n ≡ false → n + 1 ≤ max_items
not_full n e = grind (arith, nat_tests)

module _ (priors : List PriorObject) (earlier : List Item) (none : first_fault priors [] earlier ≡ None) where
  -- one more item, which may have a fault
  pub first_more : (it : Item) → first_fault priors [] (earlier ++ it ∷ []) ≡ fault_of priors earlier it
  first_more it =
      faults_of_both priors [] earlier (it ∷ []) ∙ ap (λ (o : Option PlanningError). option_or o (first_fault priors earlier (it ∷ []))) none ∙ one_fault priors earlier it

  by_fault : (ks : List Data) (it : Item) (many : Bool) → (fault_of priors earlier it ≡ None → is_fine priors (fold and_element (read_with (earlier ++ it ∷ []) None) ks) ≡ (many && all_pass priors (earlier ++ it ∷ []) ks))
      → (fault : Option PlanningError) → fault_of priors earlier it ≡ fault
      → is_fine priors (fold and_element (read_with (earlier ++ it ∷ []) None) ks) ≡ (many && (is_none fault && all_pass priors (earlier ++ it ∷ []) ks))
  by_fault ks it many later None f = later f
  by_fault ks it many later (Some fault) f =
      let r : ReadItems = fold and_element (read_with (earlier ++ it ∷ []) None) ks in
      let more = grows (earlier ++ it ∷ []) ks in
      let first : first_fault priors [] r.items ≡ Some fault =
      ap (first_fault priors []) more.1 ∙ faults_of_both priors [] (earlier ++ it ∷ []) more.0
      ∙ ap (λ (o : Option PlanningError). option_or o (first_fault priors (earlier ++ it ∷ []) more.0)) (first_more it ∙ f) in
      ap (λ (o : Option PlanningError). is_none (option_or o r.fault)) first ∙ sym (and_false many)

  by_room : (ks : List Data)
      → ((it : Item) → fault_of priors earlier it ≡ None → length earlier + 1 ≤ max_items
      → is_fine priors (fold and_element (read_with (earlier ++ it ∷ []) None) ks) ≡ (nat_le (length earlier + suc (length ks)) max_items && all_pass priors (earlier ++ it ∷ []) ks))
      → (full : Bool) (o : Option Item) → nat_le max_items (length earlier) ≡ full
      → is_fine priors (fold and_element (read_more full earlier o) ks)
      ≡ (nat_le (length earlier + suc (length ks)) max_items && option_map_or (λ it. is_none (fault_of priors earlier it) && all_pass priors (earlier ++ it ∷ []) ks) o false)
  by_room ks later true o e =
      ap (is_fine priors) (stays earlier TooMany ks) ∙ faulty priors earlier TooMany
      ∙ sym (ap (λ (b : Bool). b && option_map_or (λ it. is_none (fault_of priors earlier it) && all_pass priors (earlier ++ it ∷ []) ks) o false) (is_full (length earlier) (length ks) e))
  by_room ks later false None e =
      ap (is_fine priors) (stays earlier (Malformed (length earlier)) ks) ∙ faulty priors earlier (Malformed (length earlier))
      ∙ sym (and_false (nat_le (length earlier + suc (length ks)) max_items))
  by_room ks later false (Some it) e =
      by_fault ks it (nat_le (length earlier + suc (length ks)) max_items) (λ f. later it f (not_full (length earlier) e)) (fault_of priors earlier it) refl

entries_read : (priors : List PriorObject) (earlier : List Item) (ks : List Data) → first_fault priors [] earlier ≡ None → length earlier ≤ max_items
    → is_fine priors (fold and_element (read_with earlier None) ks) ≡ (nat_le (length earlier + length ks) max_items && all_pass priors earlier ks)
unfolding and_element
entries_read priors earlier [] none few = fine priors earlier none ∙ sym (ap (λ (b : Bool). b && true) (fits_in (length earlier) few))
entries_read priors earlier (k ∷ ks) none few =
    by_room priors earlier none ks
    (λ it f room.
    let longer : length (earlier ++ it ∷ []) ≡ length earlier + 1 = length-append earlier (it ∷ []) in
    entries_read priors (earlier ++ it ∷ []) ks (first_more priors earlier none it ∙ f) (omega (arith, room, longer))
    ∙ ap (λ (n : ℕ). nat_le n max_items && all_pass priors (earlier ++ it ∷ []) ks) (let q : length (earlier ++ it ∷ []) + length ks ≡ length earlier + suc (length ks) = omega (arith, longer) in q))
    (nat_le max_items (length earlier)) (item_of k) refl

-- ---- the tree

pub none_yet : (priors : List PriorObject) → first_fault priors [] [] ≡ None
unfolding first_fault
none_yet priors = refl

not_many : (n : ℕ) → not (nat_lt max_items n) ≡ nat_le (0 + n) max_items
not_many n = grind (arith, nat_tests)

unless_any : (o : Option PlanningError) (items : List Item) → is_ok (results.unless_refused (option_map Planning o) items) ≡ is_none o
unless_any None items = refl
unless_any (Some fault) items = refl

refused_or : (priors : List PriorObject) (read : ReadItems) → is_ok (checked priors read) ≡ is_fine priors read
refused_or priors read = unless_any (option_or (first_fault priors [] read.items) read.fault) read.items

-- what a run accepts of the value of `planning`
abbrev accepted : List PriorObject → Option Data → Bool
accepted priors o = is_ok (results.◌>>=◌ (results.◌>>=◌ (results.or_refuse (BadShape None) (items_or_empty o)) (λ elements. Ok (items_in (list_of elements)))) (checked priors))

by_value : (priors : List PriorObject) (o : Option Data)
    → ((is_met expected.ArrayOrAbsent o && not (nat_lt max_items (length (option_map_or (λ value. list_of (shown_items value)) o []))))
    && all_pass priors [] (option_map_or (λ value. list_of (shown_items value)) o []))
    ≡ accepted priors o
by_value priors None = sym (refused_or priors nothing_read ∙ fine priors [] (none_yet priors))
by_value priors (Some null) = refl
by_value priors (Some (boolean b)) = refl
by_value priors (Some (number n)) = refl
by_value priors (Some (string s)) = refl
by_value priors (Some (object ms)) = refl
by_value priors (Some (array ds)) =
    ap (λ (b : Bool). b && all_pass priors [] (list_of ds)) (not_many (length (list_of ds)))
    ∙ sym (refused_or priors (items_in (list_of ds)) ∙ entries_read priors [] (list_of ds) (none_yet priors) (omega arith))

pub planning_clean : (priors : List PriorObject) (d k : Data) → Alike d k → clean (in_planning (Some (objects_in priors)) d) ≡ accepted priors (member_of (codes "planning") k)
unfolding in_planning
planning_clean priors d k alike =
    let own : List Finding = fault_of_member d (rule name.Planning expected.ArrayOrAbsent) in
    let many : List Finding = violation_findings (planning_violation d ∷ []) in
    let entries : List Finding = items_after (in_planned_after (Some (objects_in priors))) [] (items_at name.Planning d) in
    let o : Option Data = member_of (codes "planning") k in
    clean-append (own ++ many) (map (under (Member name.Planning)) entries)
    ∙ ap (λ (b : Bool). b && clean (map (under (Member name.Planning)) entries)) (clean-append own many)
    ∙ ap (λ (b : Bool). (b && clean many) && clean (map (under (Member name.Planning)) entries))
    (clean-fault_of d (rule name.Planning expected.ArrayOrAbsent) ∙ array_or (member_at name.Planning d) o (member_alike (codes "planning") refl d k alike))
    ∙ ap (λ (b : Bool). (is_met expected.ArrayOrAbsent o && b) && clean (map (under (Member name.Planning)) entries))
    (clean_violation (planning_violation d) refl ∙ ap (λ (n : ℕ). not (nat_lt max_items n)) (count_same name.Planning refl d k alike))
    ∙ ap (λ (b : Bool). (is_met expected.ArrayOrAbsent o && not (nat_lt max_items (length (items_at name.Planning k)))) && b)
    (clean-under (Member name.Planning) entries
    ∙ at_alike (λ ds ks. clean (items_after (in_planned_after (Some (objects_in priors))) [] ds) ≡ all_pass priors [] ks) refl
    (λ ds es a. entries_clean priors [] [] ds es a refl) name.Planning refl d k alike)
    ∙ by_value priors o

-- ---- the bytes

refused_is : {A E : Type 0} (r : Result A E) → not (is_ok r) ≡ is_err r
refused_is (Ok x) = refl
refused_is (Err e) = refl

by_trees : (priors : List PriorObject) (o p : Option Data) → is_some o ≡ is_some p → ((d k : Data) → o ≡ Some d → p ≡ Some k → Alike d k) → is_some o ≡ true
    → has_refusal (option_map_or (in_planning (Some (objects_in priors))) o [])
    ≡ is_err (results.◌>>=◌ (results.◌>>=◌ (results.or_refuse NotJson p) said_in_tree) (checked priors))
by_trees priors None p same alike there = absurd cc
by_trees priors (Some d) None same alike there = absurd cc
by_trees priors (Some d) (Some k) same alike there =
    sym (not_not (has_refusal (in_planning (Some (objects_in priors)) d)))
    ∙ ap not (planning_clean priors d k (alike d k refl refl))
    ∙ refused_is (results.◌>>=◌ (said_in_tree k) (checked priors))

-- bytes that are few enough, and JSON
pub planning_refused : (priors : List PriorObject) (bytes : List ℕ) → nat_lt max_bytes (length bytes) ≡ false → is_some (tree_of bytes) ≡ true
    → has_refusal (planning_findings (Some (objects_in priors)) bytes) ≡ is_err (results.◌>>=◌ (said_in bytes) (checked priors))
planning_refused priors bytes small there =
    rw small (by_trees priors (tree_of bytes) (mixed_tree_of is_verbatim_name bytes) (both_trees bytes) (bytes_alike bytes) there)
