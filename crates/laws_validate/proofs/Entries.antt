-- Entries that are compared with a plan have no error if and only if a run accepts them.
use Rattle.std.proofs.Common.{◌≡◌, ℕ, suc, ◌+◌, ◌≤◌, List, [], ◌∷◌, ◌++◌, length, map, take, Bool, true, false, cond, not, ◌&&◌, ◌||◌}
use Rattle.std.proofs.Common.{is_ok, is_some, Option, Some, None, Result, Err, refl, sym, ap, ◌∙◌, append_assoc, arith}
use Rattle.std.specs.Prelude.{codes, is_none, nat_le, nat_lt}
use Rattle.std.specs.List.{enumerate_from, list_all, list_any, sum_by, zip}
use Rattle.std.specs.Option.{option_and_then, option_map, option_map_or, option_or}
use Rattle.std.proofs.lemmas.Bool.Decides.{nat_tests}
use Rattle.std.proofs.lemmas.List.{length-append, length-map, take_at}
use Rattle.std.proofs.lemmas.List.Folds.{list_all-append}
use Rattle.std.proofs.lemmas.List.Sums.{sum_by-append, sum_by-cons}
use Rattle.serde_json.specs.Data.{Data}
use Rattle.apply_json.specs.Tree.{member_of}
use Rattle.apply_model.specs.declared.plan.step_kind.StepKind.{StepKind}
use Rattle.apply_model.specs.declared.script.outcome.Outcome.{Outcome}
use Rattle.apply_model.specs.Plan.ResourceChange.{ResourceChange}
use Rattle.apply_model.specs.Script.Limits.{max_waits}
use Rattle.apply_model.specs.Script.Outcome.{has_too_many_provisioners, has_too_much_output, is_too_long}
use Rattle.apply_plan.specs.declared.script.script_error.ScriptError.{ScriptError}
use Rattle.apply_plan.specs.declared.script.script_error.ScriptError.TheVariants.{BadShape, Duplicate, NoSuchStep, NotACreate, SecondsRange, TooManyProvisioners, TooManySteps}
use Rattle.apply_plan.specs.declared.script.script_error.ScriptError.TheVariants.{TooManyWaits, TooMuchOutput, UnknownChange, UnknownWait, WarnsNotARead}
use Rattle.apply_resolve.specs.ObjectName.{name_one_object}
use Rattle.apply_plan.specs.Results as results
use Rattle.apply_plan.specs.Results.{or_refuse, unless_refused}
use Rattle.apply_plan.specs.Script.Entry.{Entry, EntryStep, entry_of, step_from}
use Rattle.apply_plan.specs.Script.OutcomeMap.{ResolvedEntry, change_of_entry, count_in, entry_at, names_change, resolved_by}
use Rattle.apply_plan.specs.Script.Refusals as run
use Rattle.apply_plan.specs.Script.Refusals.{count_of_waits, fault_of_entry, fault_of_names, fault_of_steps, fault_of_waits, is_any_wait, misplaces_provisioners, passes, warns_not_a_read}
use Rattle.input_validate.specs.declared.findings.name.Name.TheVariants as name
use Rattle.input_validate.specs.AgainstPlan.{change_at, change_named, named_first, object_named, waits_in, waits_in_all, waits_left}
use Rattle.laws_validate.specs.Laws.{is_bounded, is_entry, is_within_limits}
use Rattle.input_validate.specs.ObjectNames.{Named}
use Rattle.input_validate.specs.PlanFindings.{first_named, is_named, name_read}
use Rattle.input_validate.specs.Rules.{items_at}
use Rattle.laws_validate.proofs.CleanAgainstPlan.{fits_kind, has_room, is_unknown, too_many}
use Rattle.laws_validate.proofs.Elements.{named}
use Rattle.input_validate.proofs.FirstNames.{same_name}
use Rattle.laws_validate.proofs.Members.{all_from}
use Rattle.input_validate.proofs.Options.{and_false, and_if, and_left, and_right, and_true, crossed}
use Rattle.laws_validate.proofs.Provisioners.{length_of_all}
use Rattle.laws_validate.proofs.Scripts.{entries_fit, fits_entry, is_again, steps_fit_plan}
use Rattle.laws_validate.proofs.CleanSteps.{fits_plan, waits_fit}
use Rattle.laws_validate.proofs.AcceptedSteps.{findings_with, kinds_read, outcomes, waits_known, waits_read}
use Rattle.laws_validate.proofs.EntriesRead.{entry_read, name_of_change, findings_pass, any_first, named_before, counts_before, room_is}

-- ---- what a run tests of an entry

chain : (b : Bool) (x : ScriptError) (o : Option ScriptError) (r : Bool) → is_none o ≡ r → is_none (cond b (Some x) o) ≡ (not b && r)
chain true x o r e = refl
chain false x o r e = e

abbrev pub any_of : (Outcome → Bool) → List EntryStep → Bool
any_of test steps = list_any (passes test) (outcomes steps)

abbrev pub misplaced : (deposed : Bool) → List StepKind → List EntryStep → Bool
misplaced deposed kinds steps = list_any (misplaces_provisioners deposed) (zip (enumerate_from 0 kinds) (outcomes steps))

abbrev pub warned : List StepKind → List EntryStep → Bool
warned kinds steps = list_any warns_not_a_read (zip (enumerate_from 0 kinds) (outcomes steps))

steps_accepted : (n : ℕ) (deposed : Bool) (kinds : List StepKind) (steps : List EntryStep)
    → is_none (fault_of_steps n deposed kinds (outcomes steps))
    ≡ (not (nat_lt (length kinds) (length (outcomes steps)))
    && (not (any_of is_too_long steps)
    && (not (any_of has_too_many_provisioners steps) && (not (any_of has_too_much_output steps) && (not (misplaced deposed kinds steps) && not (warned kinds steps))))))
unfolding fault_of_steps
steps_accepted n deposed kinds steps =
    chain (nat_lt (length kinds) (length (outcomes steps))) (TooManySteps n) _ _
    (chain (any_of is_too_long steps) (SecondsRange n) _ _
    (chain (any_of has_too_many_provisioners steps) (TooManyProvisioners n) _ _
    (chain (any_of has_too_much_output steps) (TooMuchOutput n) _ _
    (chain (misplaced deposed kinds steps) (NotACreate n) _ _
    (chain (warned kinds steps) (WarnsNotARead n) None true refl ∙ and_true (not (warned kinds steps)))))))

waits_accepted : (n : ℕ) (changes : List ResourceChange) (earlier : ℕ) (steps : List EntryStep)
    → is_none (fault_of_waits n changes earlier steps)
    ≡ (not (nat_lt max_waits (earlier + count_of_waits steps)) && (not (is_any_wait (run.is_unknown changes) steps) && not (is_any_wait (run.lacks_step changes) steps)))
unfolding fault_of_waits
waits_accepted n changes earlier steps =
    chain (nat_lt max_waits (earlier + count_of_waits steps)) (TooManyWaits n) _ _
    (chain (is_any_wait (run.is_unknown changes) steps) (UnknownWait n) _ _
    (chain (is_any_wait (run.lacks_step changes) steps) (NoSuchStep n) None true refl ∙ and_true (not (is_any_wait (run.lacks_step changes) steps))))

-- ---- the limits

bounded_is : (o : Option Outcome) → option_map_or is_bounded o true ≡ (not (passes is_too_long o) && (not (passes has_too_many_provisioners o) && not (passes has_too_much_output o)))
bounded_is None = refl
bounded_is (Some outcome) = refl

limits_of : (l m o more_l more_m more_o : Bool) → ((not l && (not m && not o)) && (not more_l && (not more_m && not more_o))) ≡ (not (l || more_l) && (not (m || more_m) && not (o || more_o)))
limits_of true m o more_l more_m more_o = refl
limits_of false true o more_l more_m more_o = sym (and_false (not more_l))
limits_of false false true more_l more_m more_o = sym (ap (λ (b : Bool). not more_l && b) (and_false (not more_m)) ∙ and_false (not more_l))
limits_of false false false more_l more_m more_o = refl

within_is : (steps : List EntryStep) → list_all is_within_limits steps ≡ (not (any_of is_too_long steps) && (not (any_of has_too_many_provisioners steps) && not (any_of has_too_much_output steps)))
within_is [] = refl
within_is (step ∷ steps) =
    ap (λ (b : Bool). b && list_all is_within_limits steps) (bounded_is step.outcome)
    ∙ ap (λ (b : Bool). (not (passes is_too_long step.outcome) && (not (passes has_too_many_provisioners step.outcome) && not (passes has_too_much_output step.outcome))) && b) (within_is steps)
    ∙ limits_of (passes is_too_long step.outcome) (passes has_too_many_provisioners step.outcome) (passes has_too_much_output step.outcome)
    (any_of is_too_long steps) (any_of has_too_many_provisioners steps) (any_of has_too_much_output steps)

-- ---- one entry

both_from : (q : ℕ → Data → Bool) (p : Data → Bool) (n : ℕ) (ks : List Data) → all_from (λ m e. q m e && p e) n ks ≡ (all_from q n ks && list_all p ks)
both_from q p n [] = refl
both_from q p n (k ∷ ks) =
    ap (λ (b : Bool). (q n k && p k) && b) (both_from q p (suc n) ks) ∙ crossed (q n k) (p k) (all_from q (suc n) ks) (list_all p ks)

reorder : (new long wide loud placed reads room rule has : Bool)
    → (new && ((long && (wide && (loud && (placed && reads)))) && (room && (rule && has)))) ≡ ((long && (wide && loud)) && (new && (((placed && reads) && (rule && has)) && room)))
reorder false long wide loud placed reads room rule has = sym (and_false (long && (wide && loud)))
reorder true false wide loud placed reads room rule has = refl
reorder true true false loud placed reads room rule has = refl
reorder true true true false placed reads room rule has = refl
reorder true true true true false reads room rule has = refl
reorder true true true true true false room rule has = refl
reorder true true true true true true false rule has = sym (and_false (rule && has))
reorder true true true true true true true rule has = sym (and_true (rule && has))

-- if an entry has no more steps than its change, the steps fit by their kinds
by_many : (many new long wide loud placed reads room rule has steps : Bool) → (many ≡ false → steps ≡ ((placed && reads) && (rule && has)))
    → (new && ((not many && (long && (wide && (loud && (placed && reads))))) && (room && (rule && has)))) ≡ ((long && (wide && loud)) && (new && (not many && (steps && room))))
by_many true new long wide loud placed reads room rule has steps fit = and_false new ∙ sym (ap (λ (b : Bool). (long && (wide && loud)) && b) (and_false new) ∙ and_false (long && (wide && loud)))
by_many false new long wide loud placed reads room rule has steps fit =
    reorder new long wide loud placed reads room rule has ∙ ap (λ (b : Bool). (long && (wide && loud)) && (new && (b && room))) (sym (fit refl))

ok_unless : (dup : Bool) (n : ℕ) (a b : Option ScriptError) (decoded : ResolvedEntry) (x y : Bool) → is_none a ≡ x → is_none b ≡ y
    → is_ok (let r : Result ResolvedEntry ScriptError = cond dup (Err (Duplicate n)) (unless_refused (option_or a b) decoded) in r) ≡ (not dup && (x && y))
ok_unless true n a b decoded x y e f = refl
ok_unless false n None None decoded x y e f = rw (sym e, sym f) refl
ok_unless false n None (Some z) decoded x y e f = rw (sym e, sym f) refl
ok_unless false n (Some z) b decoded x y e f = rw (sym e) refl

not_many : (most count : ℕ) → nat_lt most count ≡ false → count ≤ most
not_many most count e = grind (arith, nat_tests)

accepted_is : (changes : List ResourceChange) (before : List Data) (d : Data) (entry : Entry) (it : ℕ × ResourceChange) → entry_of d ≡ Some entry → change_of_entry changes entry ≡ Some it
    → list_all is_entry before ≡ true → nat_le (sum_by waits_in_all before) max_waits ≡ true
    → is_ok (let r : Result ResolvedEntry ScriptError =
    cond (list_any (names_change it.1) before) (Err (Duplicate (length before)))
    (unless_refused (fault_of_entry (length before) changes (sum_by count_in before) it.1 entry.steps) (resolved_by changes it.0 entry.steps)) in r)
    ≡ (is_entry d && fits_entry (Some changes) (named_first before d) (waits_left (sum_by waits_in_all before)) d)
accepted_is changes before d entry it is about are few =
    let read = entry_read d entry is in
    let change : ResourceChange = it.1 in
    let object : Named = named entry.address entry.deposed in
    let steps : List EntryStep = entry.steps in
    let kinds : List StepKind = change.steps in
    let deposed : Bool = is_some change.deposed in
    let earlier : ℕ = sum_by waits_in_all before in
    let first : Option ℕ = named_first before d in
    let left : Option ℕ = waits_left earlier in
    let counted : length read.items ≡ length steps = length_of_all step_from read.items steps read.steps in
    let many : Bool = nat_lt (length kinds) (length (outcomes steps)) in
    let held : change_named changes object ≡ Some change = findings_with (λ c. name_one_object c.address c.deposed entry.address entry.deposed) 0 changes ∙ ap (option_map (λ p. p.1)) about in
    let same : name_of_change change ≡ object = same_name (name_of_change change) object (findings_pass (λ c. name_one_object c.address c.deposed entry.address entry.deposed) changes change held) in
    let dup : Bool = list_any (names_change change) before in
    -- what a run tests
    let tests : is_ok (let r : Result ResolvedEntry ScriptError =
    cond dup (Err (Duplicate (length before))) (unless_refused (fault_of_entry (length before) changes (sum_by count_in before) change steps) (resolved_by changes it.0 steps)) in r)
    ≡ (not dup && ((not many && (not (any_of is_too_long steps)
    && (not (any_of has_too_many_provisioners steps) && (not (any_of has_too_much_output steps) && (not (misplaced deposed kinds steps) && not (warned kinds steps))))))
    && (not (nat_lt max_waits (sum_by count_in before + count_of_waits steps)) && (not (is_any_wait (run.is_unknown changes) steps) && not (is_any_wait (run.lacks_step changes) steps))))) =
    ok_unless dup (length before) (fault_of_steps (length before) deposed kinds (outcomes steps))
    (fault_of_waits (length before) changes (sum_by count_in before) steps) (resolved_by changes it.0 steps) _ _
    (steps_accepted (length before) deposed kinds steps) (waits_accepted (length before) changes (sum_by count_in before) steps) in
    -- the findings
    let unknown : is_unknown (Some changes) (object_named d) ≡ false = ap (λ (o : Option Named). is_unknown (Some changes) o) read.object ∙ ap is_none held in
    let about_it : change_at (Some changes) d ≡ Some change = ap (λ (o : Option Named). option_and_then (change_named changes) o) read.object ∙ held in
    let named_first_is : is_some first ≡ dup =
    ap (λ (o : Option Named). is_some (first_named (map name_read before) o)) read.read
    ∙ any_first (is_named object) 0 (map name_read before)
    ∙ ap (λ (x : Named). list_any (is_named x) (map name_read before)) (sym same)
    ∙ named_before change before are in
    let again : is_again (change_at (Some changes) d) first ≡ dup = ap (λ (o : Option ResourceChange). is_again o first) about_it ∙ named_first_is in
    let too : too_many (change_at (Some changes) d) (length (items_at name.Steps d)) ≡ many =
    ap (λ (o : Option ResourceChange). too_many o (length (items_at name.Steps d))) about_it
    ∙ ap (λ (xs : List Data). nat_lt (length kinds) (length xs)) read.listed
    ∙ ap (nat_lt (length kinds)) (counted ∙ sym (length-map steps (λ step. step.outcome))) in
    let fit_plan : steps_fit_plan (Some changes) (change_at (Some changes) d) (member_of (codes "steps") d)
    ≡ (all_from (fits_kind (Some change)) 0 read.items && list_all (waits_fit (Some changes)) read.items) =
    ap (λ (o : Option ResourceChange). steps_fit_plan (Some changes) o (member_of (codes "steps") d)) about_it
    ∙ read.each (fits_plan (Some changes) (Some change))
    ∙ both_from (fits_kind (Some change)) (waits_fit (Some changes)) 0 read.items in
    let kind : many ≡ false → (all_from (fits_kind (Some change)) 0 read.items && list_all (waits_fit (Some changes)) read.items)
    ≡ ((not (misplaced deposed kinds steps) && not (warned kinds steps)) && (not (is_any_wait (run.is_unknown changes) steps) && not (is_any_wait (run.lacks_step changes) steps))) =
    λ fewer.
    let short : length steps ≤ length kinds = not_many (length kinds) (length steps) (ap (nat_lt (length kinds)) (sym (length-map steps (λ step. step.outcome))) ∙ fewer) in
    ap (λ (b : Bool). b && list_all (waits_fit (Some changes)) read.items) (kinds_read change 0 kinds read.items steps refl read.steps short)
    ∙ ap (λ (b : Bool). (not (misplaced deposed kinds steps) && not (warned kinds steps)) && b) (waits_known changes read.items steps read.steps) in
    let room : has_room true left (waits_in_all d) ≡ not (nat_lt max_waits (sum_by count_in before + count_of_waits steps)) =
    room_is earlier (waits_in_all d) few
    ∙ ap (λ (n : ℕ). not (nat_lt max_waits (n + waits_in_all d))) (sym (counts_before before are))
    ∙ ap (λ (n : ℕ). not (nat_lt max_waits (sum_by count_in before + n))) (ap (sum_by waits_in) read.listed ∙ waits_read read.items steps read.steps) in
    let within : is_entry d ≡ (not (any_of is_too_long steps) && (not (any_of has_too_many_provisioners steps) && not (any_of has_too_much_output steps))) =
    ap (λ (o : Option Entry). option_map_or (λ x. list_all is_within_limits x.steps) o false) is ∙ within_is steps in
    tests
    ∙ by_many many (not dup) (not (any_of is_too_long steps)) (not (any_of has_too_many_provisioners steps)) (not (any_of has_too_much_output steps))
    (not (misplaced deposed kinds steps)) (not (warned kinds steps))
    (not (nat_lt max_waits (sum_by count_in before + count_of_waits steps))) (not (is_any_wait (run.is_unknown changes) steps)) (not (is_any_wait (run.lacks_step changes) steps))
    (all_from (fits_kind (Some change)) 0 read.items && list_all (waits_fit (Some changes)) read.items) kind
    ∙ sym (rw (within, unknown, again, too, fit_plan, room) refl)

no_change : (changes : List ResourceChange) (first left : Option ℕ) (d : Data) (entry : Entry) → entry_of d ≡ Some entry → change_of_entry changes entry ≡ None
    → false ≡ (is_entry d && fits_entry (Some changes) first left d)
no_change changes first left d entry is about =
    let read = entry_read d entry is in
    let none : change_named changes (named entry.address entry.deposed) ≡ None =
    findings_with (λ c. name_one_object c.address c.deposed entry.address entry.deposed) 0 changes ∙ ap (option_map (λ p. p.1)) about in
    let unknown : is_unknown (Some changes) (object_named d) ≡ true = ap (λ (o : Option Named). is_unknown (Some changes) o) read.object ∙ ap is_none none in
    sym (rw unknown (and_false (is_entry d)))

by_change : (changes : List ResourceChange) (before : List Data) (d : Data) (entry : Entry) → entry_of d ≡ Some entry → list_all is_entry before ≡ true
    → nat_le (sum_by waits_in_all before) max_waits ≡ true
    → (o : Option (ℕ × ResourceChange)) → change_of_entry changes entry ≡ o
    → is_ok (results.◌>>=◌ (or_refuse (UnknownChange (length before)) o)
    (λ it. let r : Result ResolvedEntry ScriptError =
    cond (list_any (names_change it.1) before) (Err (Duplicate (length before)))
    (unless_refused (fault_of_entry (length before) changes (sum_by count_in before) it.1 entry.steps) (resolved_by changes it.0 entry.steps)) in r))
    ≡ (is_entry d && fits_entry (Some changes) (named_first before d) (waits_left (sum_by waits_in_all before)) d)
by_change changes before d entry is are few None about = no_change changes (named_first before d) (waits_left (sum_by waits_in_all before)) d entry is about
by_change changes before d entry is are few (Some it) about = accepted_is changes before d entry it is about are few

by_entry : (changes : List ResourceChange) (before : List Data) (d : Data) → list_all is_entry before ≡ true
    → nat_le (sum_by waits_in_all before) max_waits ≡ true → (o : Option Entry) → entry_of d ≡ o
    → is_ok (results.◌>>=◌ (or_refuse (BadShape (Some (length before))) o) (λ entry. results.◌>>=◌ (or_refuse (UnknownChange (length before)) (change_of_entry changes entry))
    (λ it. let r : Result ResolvedEntry ScriptError =
    cond (list_any (names_change it.1) before) (Err (Duplicate (length before)))
    (unless_refused (fault_of_entry (length before) changes (sum_by count_in before) it.1 entry.steps) (resolved_by changes it.0 entry.steps)) in r)))
    ≡ (is_entry d && fits_entry (Some changes) (named_first before d) (waits_left (sum_by waits_in_all before)) d)
by_entry changes before d are few None is =
    let none : is_entry d ≡ false = ap (λ (o : Option Entry). option_map_or (λ x. list_all is_within_limits x.steps) o false) is in
    sym (rw none refl)
by_entry changes before d are few (Some entry) is = by_change changes before d entry is are few (change_of_entry changes entry) refl

pub one_entry : (changes : List ResourceChange) (before : List Data) (d : Data) → list_all is_entry before ≡ true → nat_le (sum_by waits_in_all before) max_waits ≡ true
    → is_ok (entry_at changes before d) ≡ (is_entry d && fits_entry (Some changes) (named_first before d) (waits_left (sum_by waits_in_all before)) d)
unfolding entry_at
one_entry changes before d are few = by_entry changes before d are few (entry_of d) refl

-- ---- all entries

still_few : (count more : ℕ) → nat_le count max_waits ≡ true → not (nat_lt max_waits (count + more)) ≡ true → nat_le (count + more) max_waits ≡ true
still_few count more few room = grind (arith, nat_tests)

last_of : (a b c e room : Bool) → (a && (b && (c && (e && room)))) ≡ true → room ≡ true
last_of true true true true room e = e
last_of true true true false room e = absurd cc
last_of true true false e room f = absurd cc
last_of true false c e room f = absurd cc
last_of false b c e room f = absurd cc

-- after an entry that a run accepts, the items are within the limit
pub after_one : (changes : List ResourceChange) (before : List Data) (d : Data) → list_all is_entry before ≡ true → nat_le (sum_by waits_in_all before) max_waits ≡ true
    → (is_entry d && fits_entry (Some changes) (named_first before d) (waits_left (sum_by waits_in_all before)) d) ≡ true
    → (list_all is_entry (before ++ d ∷ []) ≡ true) × (nat_le (sum_by waits_in_all (before ++ d ∷ [])) max_waits ≡ true)
after_one changes before d are few accepted =
    let fits : Bool = fits_entry (Some changes) (named_first before d) (waits_left (sum_by waits_in_all before)) d in
    let itself : is_entry d ≡ true = and_left (is_entry d) fits accepted in
    let room : has_room true (waits_left (sum_by waits_in_all before)) (waits_in_all d) ≡ true =
    last_of (not (is_unknown (Some changes) (object_named d))) (not (is_again (change_at (Some changes) d) (named_first before d)))
    (not (too_many (change_at (Some changes) d) (length (items_at name.Steps d))))
    (steps_fit_plan (Some changes) (change_at (Some changes) d) (member_of (codes "steps") d))
    (has_room true (waits_left (sum_by waits_in_all before)) (waits_in_all d)) (and_right (is_entry d) fits accepted) in
    let summed : sum_by waits_in_all (before ++ d ∷ []) ≡ sum_by waits_in_all before + waits_in_all d =
    sum_by-append waits_in_all before (d ∷ [])
    ∙ ap (λ (n : ℕ). sum_by waits_in_all before + n) (sum_by-cons waits_in_all d [] ∙ (let e : waits_in_all d + sum_by waits_in_all [] ≡ waits_in_all d = omega arith in e)) in (
      list_all-append is_entry before (d ∷ []) ∙ ap (λ (b : Bool). b && (is_entry d && true)) are ∙ ap (λ (b : Bool). b && true) itself,
      ap (λ (n : ℕ). nat_le n max_waits) summed ∙ still_few (sum_by waits_in_all before) (waits_in_all d) few (sym (room_is (sum_by waits_in_all before) (waits_in_all d) few) ∙ room),
    )

pub entries_are : (changes : List ResourceChange) (ds before all : List Data) → all ≡ before ++ ds → list_all is_entry before ≡ true → nat_le (sum_by waits_in_all before) max_waits ≡ true
    → list_all is_ok (map (λ p. entry_at changes (take p.0 all) p.1) (enumerate_from (length before) ds)) ≡ (list_all is_entry ds && entries_fit (Some changes) before ds)
entries_are changes [] before all whole are few = refl
entries_are changes (d ∷ ds) before all whole are few =
    let front : take (length before) all ≡ before = rw whole (take_at before (d ∷ ds) (length before) refl) in
    let longer : length (before ++ d ∷ []) ≡ length before + 1 = omega (arith, length-append before (d ∷ [])) in
    let fits : Bool = fits_entry (Some changes) (named_first before d) (waits_left (sum_by waits_in_all before)) d in
    let rest : Bool = list_all is_ok (map (λ p. entry_at changes (take p.0 all) p.1) (enumerate_from (length before + 1) ds)) in
    let others : Bool = list_all is_entry ds && entries_fit (Some changes) (before ++ d ∷ []) ds in
    and_if (is_ok (entry_at changes (take (length before) all) d)) (is_entry d && fits) rest others
    (ap (λ (xs : List Data). is_ok (entry_at changes xs d)) front ∙ one_entry changes before d are few)
    (λ new.
    let rule = after_one changes before d are few new in
    ap (λ (n : ℕ). list_all is_ok (map (λ p. entry_at changes (take p.0 all) p.1) (enumerate_from n ds))) (sym longer)
    ∙ entries_are changes ds (before ++ d ∷ []) all (whole ∙ sym (append_assoc before (d ∷ []) ds)) rule.0 rule.1)
    ∙ crossed (is_entry d) fits (list_all is_entry ds) (entries_fit (Some changes) (before ++ d ∷ []) ds)
