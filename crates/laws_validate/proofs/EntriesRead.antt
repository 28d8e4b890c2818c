-- What a run reads of an entry, and of the entries before it.
use Rattle.std.proofs.Common.{◌≡◌, ℕ, ◌+◌, ◌-◌, ◌≤◌, List, [], ◌∷◌, map, Bool, true, false, cond, not, ◌||◌, is_some, Option, Some, None, if◌then◌else◌, refl, sym, ap, ◌∙◌, ⊎_elim, arith}
use Rattle.std.specs.Prelude.{codes, find, nat_le, nat_lt}
use Rattle.std.specs.List.{list_all, list_any, position_from, sum_by}
use Rattle.std.specs.Option.{option_map_or}
use Rattle.std.proofs.lemmas.Bool.{cases_Bool}
use Rattle.std.proofs.lemmas.Bool.Decides.{nat_tests}
use Rattle.std.proofs.lemmas.List.Sums.{sum_by-cons}
use Rattle.serde_json.specs.Data.{Data, null, boolean, number, string, array, object}
use Rattle.serde_json.specs.Find.{as_array, as_str}
use Rattle.apply_json.specs.ShallowView.{items_in}
use Rattle.apply_json.specs.Tree.{◌>>=◌, list_of, member_of, text_of, text_or, unless_empty}
use Rattle.apply_model.specs.Plan.ResourceChange.{ResourceChange}
use Rattle.apply_model.specs.Script.Limits.{max_waits}
use Rattle.apply_resolve.specs.ObjectName.{name_one_object}
use Rattle.apply_plan.specs.Script.Entry.{Entry, EntryStep, all_some, entry_of, step_from}
use Rattle.apply_plan.specs.Script.OutcomeMap.{count_in, names_change}
use Rattle.apply_plan.specs.Script.Refusals.{count_of_waits}
use Rattle.input_validate.specs.declared.findings.name.Name.TheVariants as name
use Rattle.input_validate.specs.AgainstPlan.{object_named, waits_in, waits_in_all, waits_left}
use Rattle.laws_validate.specs.Laws.{is_entry, is_within_limits}
use Rattle.input_validate.specs.ObjectNames.{Named}
use Rattle.input_validate.specs.PlanFindings.{is_named, name_read}
use Rattle.input_validate.specs.Rules.{items_at}
use Rattle.laws_validate.proofs.CleanAgainstPlan.{has_room, less}
use Rattle.laws_validate.proofs.Clean.{is_absent_or}
use Rattle.laws_validate.proofs.Elements.{named}
use Rattle.input_validate.proofs.FirstNames.{same_name}
use Rattle.laws_validate.proofs.Members.{all_from, all_items_from}
use Rattle.input_validate.proofs.Options.{and_left, and_right, bind_some}
use Rattle.laws_validate.proofs.AcceptedSteps.{named_by, waits_read}
use Rattle.laws_validate.proofs.Wanted.{array_in}

some_is : {A : Type 0} (x y : A) → Some x ≡ Some y → x ≡ y
some_is x y e = cc

-- ---- what is read of an entry

no_text : (n : List ℕ) (d : Data) (x : List ℕ) → text_of n d ≡ Some x → as_str d ≡ None
no_text n null x e = refl
no_text n (boolean b) x e = refl
no_text n (number z) x e = refl
no_text n (string s) x e = absurd cc
no_text n (array ds) x e = refl
no_text n (object ms) x e = refl

abbrev made : List ℕ → List ℕ → List EntryStep → Entry
made address deposed steps = record { address = address; deposed = unless_empty deposed; steps = steps }

pub record IsEntryOf (d : Data) (entry : Entry) : Type 0 where
  pub read : name_read d ≡ Some (named entry.address entry.deposed)
  pub object : object_named d ≡ Some (named entry.address entry.deposed)
  pub items : List Data
  pub listed : items_at name.Steps d ≡ items
  pub steps : all_some (map step_from items) ≡ Some entry.steps
  pub each : (test : ℕ → Data → Bool) → is_absent_or (all_items_from test) (member_of (codes "steps") d) ≡ all_from test 0 items

pub entry_read : (d : Data) (entry : Entry) → entry_of d ≡ Some entry → IsEntryOf d entry
unfolding entry_of
entry_read d entry e =
    let deposed : Option (List ℕ) = text_or [] (member_of (codes "deposed") d) in
    let list : Option Data = member_of (codes "steps") d in
    let a = bind_some (text_of (codes "address") d) (λ x. deposed >>= λ y. list >>= λ l. as_array l >>= λ ds. all_some (map step_from (list_of ds)) >>= λ s. Some (made x y s)) entry e in
    let k = bind_some deposed (λ y. list >>= λ l. as_array l >>= λ ds. all_some (map step_from (list_of ds)) >>= λ s. Some (made a.0 y s)) entry a.2 in
    let l = bind_some list (λ l. as_array l >>= λ ds. all_some (map step_from (list_of ds)) >>= λ s. Some (made a.0 k.0 s)) entry k.2 in
    let ds = bind_some (as_array l.0) (λ ds. all_some (map step_from (list_of ds)) >>= λ s. Some (made a.0 k.0 s)) entry l.2 in
    let s = bind_some (all_some (map step_from (list_of ds.0))) (λ s. Some (made a.0 k.0 s)) entry ds.2 in
    let is : made a.0 k.0 s.0 ≡ entry = some_is (made a.0 k.0 s.0) entry s.2 in
    let named_so : name_read d ≡ Some (named entry.address entry.deposed) = named_by (text_of (codes "address") d) deposed a.0 k.0 a.1 k.1 ∙ ap (λ (x : Entry). Some (named x.address x.deposed)) is in
    record {
      read = named_so;
      object = ap (λ (o : Option (List ℕ)). option_map_or (λ address. Some (named address None)) o (name_read d)) (no_text (codes "address") d a.0 a.1) ∙ named_so;
      items = list_of ds.0;
      listed = ap (λ (o : Option Data). option_map_or (λ value. list_of (items_in value)) o []) l.1 ∙ array_in l.0 ds.0 ds.1;
      steps = s.1 ∙ ap (λ (x : Entry). Some x.steps) is;
      each = λ test. ap (λ (o : Option Data). is_absent_or (all_items_from test) o) l.1 ∙ ap (λ (xs : List Data). all_from test 0 xs) (array_in l.0 ds.0 ds.1);
    }

there_is : {A : Type 0} (f : A → Bool) (o : Option A) → option_map_or f o false ≡ true → (x : A) × (o ≡ Some x)
there_is f None e = absurd cc
there_is f (Some x) e = (x, refl)

-- ---- an entry about the same change

abbrev same_object : Named → Named → Bool
same_object one other = name_one_object one.0 one.1 other.0 other.1

turned : (one other : Named) → one ≡ other → same_object one other ≡ same_object other one
turned one other e = ap (λ (x : Named). same_object x other) e ∙ ap (λ (x : Named). same_object other x) (sym e)

flipped : (one other : Named) → same_object one other ≡ same_object other one
flipped one other = ⊎_elim
    (λ (yes : same_object one other ≡ true). turned one other (same_name one other yes))
    (λ (no : same_object one other ≡ false). ⊎_elim
    (λ (yes : same_object other one ≡ true). turned one other (sym (same_name other one yes)))
    (λ (never : same_object other one ≡ false). no ∙ sym never)
    (cases_Bool (same_object other one)))
    (cases_Bool (same_object one other))

abbrev pub name_of_change : ResourceChange → Named
name_of_change change = (change.address, change.deposed)

by_pass : (test : ResourceChange → Bool) (change x : ResourceChange) (b : Bool) (o : Option ResourceChange) → test change ≡ b → (o ≡ Some x → test x ≡ true)
    → cond b (Some change) o ≡ Some x → test x ≡ true
by_pass test change x true o is rest e = ap test (sym (some_is change x e)) ∙ is
by_pass test change x false o is rest e = rest e

pub findings_pass : (test : ResourceChange → Bool) (changes : List ResourceChange) (x : ResourceChange) → find test changes ≡ Some x → test x ≡ true
findings_pass test [] x e = absurd cc
findings_pass test (change ∷ changes) x e = by_pass test change x (test change) (find test changes) refl (findings_pass test changes x) e

by_test : (b : Bool) (n : ℕ) (o : Option ℕ) (r : Bool) → is_some o ≡ r → is_some (cond b (Some n) o) ≡ (b || r)
by_test true n o r e = refl
by_test false n o r e = e

pub any_first : (test : Option Named → Bool) (n : ℕ) (names : List (Option Named)) → is_some (position_from test n names) ≡ list_any test names
any_first test n [] = refl
any_first test n (x ∷ names) = by_test (test x) n (position_from test (n + 1) names) (list_any test names) (any_first test (n + 1) names)

pub named_before : (change : ResourceChange) (before : List Data) → list_all is_entry before ≡ true
    → list_any (is_named (name_of_change change)) (map name_read before) ≡ list_any (names_change change) before
named_before change [] are = refl
named_before change (d ∷ ds) are =
    let it = there_is (λ entry. list_all is_within_limits entry.steps) (entry_of d) (and_left (is_entry d) (list_all is_entry ds) are) in
    let read = entry_read d it.0 it.1 in
    let one : is_named (name_of_change change) (name_read d) ≡ names_change change d =
    ap (λ (o : Option Named). is_named (name_of_change change) o) read.read
    ∙ flipped (named it.0.address it.0.deposed) (name_of_change change)
    ∙ sym (ap (λ (o : Option Entry). option_map_or (λ entry. name_one_object change.address change.deposed entry.address entry.deposed) o false) it.1) in
    ap (λ (b : Bool). b || list_any (is_named (name_of_change change)) (map name_read ds)) one
    ∙ ap (λ (b : Bool). names_change change d || b) (named_before change ds (and_right (is_entry d) (list_all is_entry ds) are))

-- ---- how many items there were before

one_count : (d : Data) → is_entry d ≡ true → count_in d ≡ waits_in_all d
one_count d is =
    let it = there_is (λ entry. list_all is_within_limits entry.steps) (entry_of d) is in
    let read = entry_read d it.0 it.1 in
    ap (λ (o : Option Entry). option_map_or (λ entry. count_of_waits entry.steps) o 0) it.1
    ∙ sym (ap (sum_by waits_in) read.listed ∙ waits_read read.items it.0.steps read.steps)

pub counts_before : (before : List Data) → list_all is_entry before ≡ true → sum_by count_in before ≡ sum_by waits_in_all before
counts_before [] are = refl
counts_before (d ∷ ds) are =
    sum_by-cons count_in d ds
    ∙ ap (λ (n : ℕ). n + sum_by count_in ds) (one_count d (and_left (is_entry d) (list_all is_entry ds) are))
    ∙ ap (λ (n : ℕ). waits_in_all d + n) (counts_before ds (and_right (is_entry d) (list_all is_entry ds) are))
    ∙ sym (sum_by-cons waits_in_all d ds)

by_few : (b : Bool) (count most : ℕ) → nat_le count max_waits ≡ b → b ≡ true
    → has_room true (let o : Option ℕ = if b then Some (max_waits - count) else None in o) most ≡ not (nat_lt max_waits (count + most))
by_few true count most few is = ap not (less max_waits count most (let e : count ≤ max_waits = grind (arith, nat_tests) in e))
by_few false count most few is = absurd cc

pub room_is : (count most : ℕ) → nat_le count max_waits ≡ true → has_room true (waits_left count) most ≡ not (nat_lt max_waits (count + most))
room_is count most few = by_few (nat_le count max_waits) count most refl few
