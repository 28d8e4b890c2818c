-- In a script that was read only steps that may have provisioners have some, and only reads only
-- warn.
use Rattle.std.proofs.Common.{◌≡◌, ◌≢◌, ℕ, zero, suc, ◌+◌, ◌==◌, List, [], ◌∷◌, length, map, find, Bool, true, false, cond, Option, Some, None, Result, Ok, Err, refl, sym, ap, ◌∙◌, subst, ◌⊎◌, inl, inr, ⊎_elim, slice_get, unwrap_or, option_map, take, arith}
use Rattle.std.specs.Prelude.{◌&&◌, ◌||◌, is_some, not, nat_lt, option_and_then, sum_by}
use Rattle.std.specs.List.{AllByRecursion, enumerate_from, filter_map, list_any, position_from, range_with_len, zip}
use Rattle.std.proofs.lemmas.Bool.{both_ways, lt-ltb}
use Rattle.std.proofs.lemmas.Bool.Decides.{eqb_tells}
use Rattle.std.proofs.lemmas.Option.{same_Some}
use Rattle.serde_json.specs.Data.{Data, Items}
use Rattle.apply_model.specs.declared.plan.step_kind.StepKind.{StepKind}
use Rattle.apply_model.specs.declared.plan.step_kind.StepKind.TheVariants.{Create, Update, Delete, Read}
use Rattle.apply_model.specs.Plan.StepKind.{is_kind}
use Rattle.apply_model.specs.declared.script.outcome.Outcome.{Outcome}
use Rattle.apply_model.specs.declared.script.provisioner.Provisioner.{Provisioner}
use Rattle.apply_model.specs.declared.script.script_step.ScriptStep.{ScriptStep}
use Rattle.apply_model.specs.Script.Step.{answer_to}
use Rattle.apply_plan.specs.declared.script.script_error.ScriptError.{ScriptError}
use Rattle.apply_plan.specs.declared.script.script_error.ScriptError.TheVariants.{TooLarge, NotJson, BadShape, UnknownChange, Duplicate, TooManySteps, SecondsRange, TooManyProvisioners, TooMuchOutput, NotACreate, WarnsNotARead, NeverBegins}
use Rattle.apply_json.specs.Verbatim.{mixed_tree_of}
use Rattle.apply_json.specs.Tree.{list_of}
use Rattle.apply_plan.specs.Bytes.{max_bytes}
use Rattle.apply_plan.specs.Plan.ResourceChange.{ResourceChange}
use Rattle.apply_plan.specs.Plan.SavedPlan.{SavedPlan}
use Rattle.apply_plan.specs.Results.{◌>>=◌, all_or_first, each_with_earlier, or_refuse, unless_refused}
use Rattle.apply_plan.specs.Script.Entry.{Entry, EntryStep, entry_of, is_verbatim_name}
use Rattle.apply_plan.specs.Script.Outcome.{default_outcome, has_too_many_provisioners, has_too_much_output, is_too_long, is_warned}
use Rattle.apply_plan.specs.Script.OutcomeMap.{OutcomeMap, ResolvedEntry, by_number, change_of_entry, count_in, elements_of, entry_at, is_about, is_stuck, names_change, outcome_of, resolved_by, outcomes_of, script_of, script_of_entries, script_of_tree, unless_stuck}
use Rattle.apply_plan.specs.Script.Refusals.{fault_of_entry, fault_of_steps, fault_of_waits, misplaces_provisioners, passes, takes_provisioners, warns_not_a_read}
use Rattle.apply_plan.specs.Script.WaitedStep.{resolved_step, step_waited, with_waits}
use Rattle.apply_plan.proofs.Results.{unless_refused_ok}
use Rattle.apply_plan.proofs.Scripts.Limits.{both_none}
use Rattle.laws_check.specs.Plans.{IsChange, ProvisionsCreates, ReadsComeLast, WarnsOfReads}

-- ---- one entry

-- the entry is about a change with its number, and its steps have no fault
record Suits (changes : List ResourceChange) (one : ResolvedEntry) : Type 0 where
  change : ResourceChange
  place : slice_get changes one.change ≡ Some change
  number : ℕ
  steps : List EntryStep
  fine : fault_of_steps number (is_some change.deposed) change.steps (map (λ step. step.outcome) steps) ≡ None
  steps_stated : one.steps ≡ map (resolved_step changes) steps

found_at : {X : Type 0} (test : X → Bool) (n : ℕ) (xs : List X) (located : ℕ × X) → find (λ (p : ℕ × X). test p.1) (enumerate_from n xs) ≡ Some located → (i : ℕ) × (located.0 ≡ n + i) × (slice_get xs i ≡ Some located.1)
found_at test n [] located e = absurd cc
found_at {X} test n (x ∷ xs) located e = either (test x) (found_at test (n + 1) xs located) e
  where
    either : (b : Bool) → (find (λ (p : ℕ × X). test p.1) (enumerate_from (n + 1) xs) ≡ Some located → (i : ℕ) × (located.0 ≡ n + 1 + i) × (slice_get xs i ≡ Some located.1))
        → cond b (Some (n, x)) (find (λ (p : ℕ × X). test p.1) (enumerate_from (n + 1) xs)) ≡ Some located → (i : ℕ) × (located.0 ≡ n + i) × (slice_get (x ∷ xs) i ≡ Some located.1)
    either true rest e =
        let same = same_Some (n, x) located e in
        (0, (let number : n ≡ located.0 = ap (λ (p : ℕ × X). p.0) same in omega arith), ap (λ (p : ℕ × X). Some p.1) same)
    either false rest e =
        let later = rest e in
        (suc later.0, (let number : located.0 ≡ n + 1 + later.0 = later.1 in omega arith), later.2)

module _ (changes : List ResourceChange) (earlier n : ℕ) (one : ResolvedEntry) where
  of_fault : (located : ℕ × ResourceChange) (steps : List EntryStep) (again : Bool) (fault : Option ScriptError) → fault_of_entry n changes earlier located.1 steps ≡ fault → slice_get changes located.0 ≡ Some located.1
      → cond again (Err (Duplicate n)) (unless_refused fault (resolved_by changes located.0 steps)) ≡ Ok one → Suits changes one
  of_fault located steps true fault is place e = absurd cc
  of_fault located steps false (Some fault) is place e = absurd cc
  of_fault located steps false None is place e =
      let same : resolved_by changes located.0 steps ≡ one = cc in
      record {
        change = located.1;
        place = ap (λ (s : ResolvedEntry). slice_get changes s.change) (sym same) ∙ place;
        number = n;
        steps = steps;
        fine = (both_none (fault_of_steps n (is_some located.1.deposed) located.1.steps (map (λ step. step.outcome) steps)) (fault_of_waits n changes earlier steps) is).0;
        steps_stated = ap (λ (s : ResolvedEntry). s.steps) (sym same);
      }

  of_located : (twice : ResourceChange → Bool) (steps : List EntryStep) (o : Option (ℕ × ResourceChange)) → ((located : ℕ × ResourceChange) → o ≡ Some located → slice_get changes located.0 ≡ Some located.1)
      → (or_refuse (UnknownChange n) o >>= λ located. cond (twice located.1) (Err (Duplicate n)) (unless_refused (fault_of_entry n changes earlier located.1 steps) (resolved_by changes located.0 steps))) ≡ Ok one → Suits changes one
  of_located twice steps None place e = absurd cc
  of_located twice steps (Some located) place e = of_fault located steps (twice located.1) (fault_of_entry n changes earlier located.1 steps) refl (place located refl) e

  place_of : (entry : Entry) (located : ℕ × ResourceChange) → change_of_entry changes entry ≡ Some located → slice_get changes located.0 ≡ Some located.1
  place_of entry located e =
      let there = found_at (λ (change : ResourceChange). is_about change entry) 0 changes located e in
      let number : located.0 ≡ there.0 = (let zero_on : located.0 ≡ 0 + there.0 = there.1 in omega arith) in
      ap (slice_get changes) number ∙ there.2

entry_suits : (changes : List ResourceChange) (before : List Data) (d : Data) (one : ResolvedEntry) → entry_at changes before d ≡ Ok one → Suits changes one
unfolding entry_at
entry_suits changes before d one e = of_entry (entry_of d) e
  where
    of_entry : (o : Option Entry)
        → (or_refuse (BadShape (Some (length before))) o
        >>= λ entry. or_refuse (UnknownChange (length before)) (change_of_entry changes entry)
        >>= λ located. cond (list_any (names_change located.1) before) (Err (Duplicate (length before))) (unless_refused (fault_of_entry (length before) changes (sum_by count_in before) located.1 entry.steps) (resolved_by changes located.0 entry.steps))) ≡ Ok one
        → Suits changes one
    of_entry None e = absurd cc
    of_entry (Some entry) e = of_located changes (sum_by count_in before) (length before) one (λ change. list_any (names_change change) before) entry.steps (change_of_entry changes entry) (λ located is. place_of changes (sum_by count_in before) (length before) one entry located is) e

-- ---- all entries

all_hold : {X Y F : Type 0} (P : Y → Type 0) (f : X → Result Y F) (xs : List X) (ys : List Y) → ((x : X) (y : Y) → f x ≡ Ok y → P y) → all_or_first (map f xs) ≡ Ok ys → AllByRecursion P ys
all_hold {X} {Y} {F} P f [] ys holds e = subst (AllByRecursion P) (let same : [] ≡ ys = cc in same) tt
all_hold {X} {Y} {F} P f (x ∷ xs) ys holds e = first (f x) refl (all_or_first (map f xs)) (λ rest. all_hold P f xs rest holds) e
  where
    fine : List Y → Result (List Y) F
    fine l = Ok l

    first : (r : Result Y F) → f x ≡ r → (later : Result (List Y) F) → ((rest : List Y) → later ≡ Ok rest → AllByRecursion P rest) → (r >>= λ y. later >>= λ rest. fine (y ∷ rest)) ≡ Ok ys → AllByRecursion P ys
    first (Err refusal) is later hold e = absurd cc
    first (Ok y) is (Err refusal) hold e = absurd cc
    first (Ok y) is (Ok rest) hold e = subst (AllByRecursion P) (let same : y ∷ rest ≡ ys = cc in same) (holds x y is, hold rest refl)

stated_suits : (changes : List ResourceChange) (entries : List ResolvedEntry) (c : ℕ) (steps : List ScriptStep) → AllByRecursion (Suits changes) entries → outcomes_of entries c ≡ Some steps
    → (one : ResolvedEntry) × Suits changes one × (one.change ≡ c) × (one.steps ≡ steps)
stated_suits changes [] c steps suit e = absurd cc
stated_suits changes (x ∷ entries) c steps suit e = ⊎_elim
    (λ (same : ((x.change == c) ≡ true) × (x.change ≡ c)).
    (x, suit.0, same.1, same_Some x.steps steps (sym (ap (λ (b : Bool). option_map (λ (y : ResolvedEntry). y.steps) (cond b (Some x) (find (λ (y : ResolvedEntry). y.change == c) entries))) same.0) ∙ e)))
    (λ (other : ((x.change == c) ≡ false) × (x.change ≢ c)).
    stated_suits changes entries c steps suit.1 (sym (ap (λ (b : Bool). option_map (λ (y : ResolvedEntry). y.steps) (cond b (Some x) (find (λ (y : ResolvedEntry). y.change == c) entries))) other.0) ∙ e))
    (eqb_tells x.change c)

-- ---- the steps of a change

not_refused : (b : Bool) (refusal : ScriptError) (o : Option ScriptError) → cond b (Some refusal) o ≡ None → (b ≡ false) × (o ≡ None)
not_refused true refusal o e = absurd cc
not_refused false refusal o e = (refl, e)

module _ (deposed : Bool) where
  none_misplaced : (n : ℕ) (kinds : List StepKind) (steps : List (Option Outcome)) → fault_of_steps n deposed kinds steps ≡ None → list_any (misplaces_provisioners deposed) (zip (enumerate_from 0 kinds) steps) ≡ false
  unfolding fault_of_steps
  none_misplaced n kinds steps e =
      let many = not_refused (nat_lt (length kinds) (length steps)) (TooManySteps n) _ e in
      let long = not_refused (list_any (passes is_too_long) steps) (SecondsRange n) _ many.1 in
      let wide = not_refused (list_any (passes has_too_many_provisioners) steps) (TooManyProvisioners n) _ long.1 in
      let loud = not_refused (list_any (passes has_too_much_output) steps) (TooMuchOutput n) _ wide.1 in
      (not_refused (list_any (misplaces_provisioners deposed) (zip (enumerate_from 0 kinds) steps)) (NotACreate n) _ loud.1).0

  none_warns : (n : ℕ) (kinds : List StepKind) (steps : List (Option Outcome)) → fault_of_steps n deposed kinds steps ≡ None → list_any warns_not_a_read (zip (enumerate_from 0 kinds) steps) ≡ false
  unfolding fault_of_steps
  none_warns n kinds steps e =
      let many = not_refused (nat_lt (length kinds) (length steps)) (TooManySteps n) _ e in
      let long = not_refused (list_any (passes is_too_long) steps) (SecondsRange n) _ many.1 in
      let wide = not_refused (list_any (passes has_too_many_provisioners) steps) (TooManyProvisioners n) _ long.1 in
      let loud = not_refused (list_any (passes has_too_much_output) steps) (TooMuchOutput n) _ wide.1 in
      let placed = not_refused (list_any (misplaces_provisioners deposed) (zip (enumerate_from 0 kinds) steps)) (NotACreate n) _ loud.1 in
      (not_refused (list_any warns_not_a_read (zip (enumerate_from 0 kinds) steps)) (WarnsNotARead n) _ placed.1).0

  are_none : (ps : List Provisioner) → (nat_lt 0 (length ps) && true) ≡ false → ps ≡ []
  are_none [] e = refl
  are_none (p ∷ ps) e = absurd (both_ways (nat_lt 0 (length (p ∷ ps)) && true) e (ap (λ (b : Bool). b && true) (lt-ltb 0 (length (p ∷ ps)) (omega arith))))

  no_provisioner : (step : ℕ × StepKind) (stated : Option Outcome) → misplaces_provisioners deposed (step, stated) ≡ false → takes_provisioners deposed step ≡ false → (unwrap_or stated default_outcome).provisioners ≡ []
  no_provisioner step None e takes = refl
  no_provisioner step (Some outcome) e takes = are_none outcome.provisioners (sym (ap (λ (b : Bool). nat_lt 0 (length outcome.provisioners) && not b) takes) ∙ e)

  -- a step that may have no provisioners has none, whatever the script states
  step_has_none : (n : ℕ) (kinds : List StepKind) (steps : List (Option Outcome)) (k : ℕ) (kind : StepKind) → list_any (misplaces_provisioners deposed) (zip (enumerate_from n kinds) steps) ≡ false → slice_get kinds k ≡ Some kind
      → takes_provisioners deposed (n + k, kind) ≡ false → (unwrap_or (option_and_then (λ stated. stated) (slice_get steps k)) default_outcome).provisioners ≡ []
  step_has_none n kinds [] k kind e at takes = refl
  step_has_none n [] (x ∷ steps) k kind e at takes = absurd cc
  step_has_none n (y ∷ kinds) (x ∷ steps) k kind e at takes =
      let both = neither (misplaces_provisioners deposed ((n, y), x)) (list_any (misplaces_provisioners deposed) (zip (enumerate_from (n + 1) kinds) steps)) e in
      at_number k both.0 at takes (λ j is takes_none. step_has_none (n + 1) kinds steps j kind both.1 is takes_none)
    where
      neither : (a b : Bool) → (a || b) ≡ false → (a ≡ false) × (b ≡ false)
      neither true b e = absurd cc
      neither false b e = (refl, e)

      at_number : (k : ℕ) → misplaces_provisioners deposed ((n, y), x) ≡ false → slice_get (y ∷ kinds) k ≡ Some kind → takes_provisioners deposed (n + k, kind) ≡ false
          → ((j : ℕ) → slice_get kinds j ≡ Some kind → takes_provisioners deposed (n + 1 + j, kind) ≡ false → (unwrap_or (option_and_then (λ stated. stated) (slice_get steps j)) default_outcome).provisioners ≡ [])
          → (unwrap_or (option_and_then (λ stated. stated) (slice_get (x ∷ steps) k)) default_outcome).provisioners ≡ []
      at_number zero fine at takes rest =
          let here : n + 0 ≡ n = omega arith in
          no_provisioner (n, y) x fine (ap (λ (z : StepKind). takes_provisioners deposed (n, z)) (same_Some y kind at) ∙ ap (λ (z : ℕ). takes_provisioners deposed (z, kind)) (sym here) ∙ takes)
      at_number (suc j) fine at takes rest =
          let next : n + 1 + j ≡ n + suc j = omega arith in
          rest j at (ap (λ (z : ℕ). takes_provisioners deposed (z, kind)) next ∙ takes)

-- a step that only warns is a read
is_read : (kind : StepKind) → is_kind Read kind ≡ true → kind ≡ Read
is_read Create e = absurd cc
is_read Update e = absurd cc
is_read Delete e = absurd cc
is_read Read e = refl

step_reads : (number : ℕ) (kind : StepKind) (stated : Option Outcome) → warns_not_a_read ((number, kind), stated) ≡ false → is_warned (unwrap_or stated default_outcome).result ≡ true → kind ≡ Read
step_reads number kind None e warns = absurd cc
step_reads number kind (Some outcome) e warns = is_read kind (not-false (is_kind Read kind) (sym (ap (λ (b : Bool). b && not (is_kind Read kind)) warns) ∙ e))
  where
    not-false : (b : Bool) → (true && not b) ≡ false → b ≡ true
    not-false true e = refl
    not-false false e = absurd cc

warning_reads : (n : ℕ) (kinds : List StepKind) (steps : List (Option Outcome)) (k : ℕ) (kind : StepKind) → list_any warns_not_a_read (zip (enumerate_from n kinds) steps) ≡ false → slice_get kinds k ≡ Some kind
    → is_warned (unwrap_or (option_and_then (λ stated. stated) (slice_get steps k)) default_outcome).result ≡ true → kind ≡ Read
warning_reads n kinds [] k kind e at warns = absurd cc
warning_reads n [] (x ∷ steps) k kind e at warns = absurd cc
warning_reads n (y ∷ kinds) (x ∷ steps) k kind e at warns =
    let both = neither (warns_not_a_read ((n, y), x)) (list_any warns_not_a_read (zip (enumerate_from (n + 1) kinds) steps)) e in
    at_number k both.0 at warns (λ j is only. warning_reads (n + 1) kinds steps j kind both.1 is only)
  where
    neither : (a b : Bool) → (a || b) ≡ false → (a ≡ false) × (b ≡ false)
    neither true b e = absurd cc
    neither false b e = (refl, e)

    at_number : (k : ℕ) → warns_not_a_read ((n, y), x) ≡ false → slice_get (y ∷ kinds) k ≡ Some kind
        → is_warned (unwrap_or (option_and_then (λ stated. stated) (slice_get (x ∷ steps) k)) default_outcome).result ≡ true
        → ((j : ℕ) → slice_get kinds j ≡ Some kind → is_warned (unwrap_or (option_and_then (λ stated. stated) (slice_get steps j)) default_outcome).result ≡ true → kind ≡ Read)
        → kind ≡ Read
    at_number zero fine at warns rest = sym (same_Some y kind at) ∙ step_reads n y x fine warns
    at_number (suc j) fine at warns rest = rest j at warns

-- what a step waits for changes nothing of how it ends
same_result : (changes : List ResourceChange) (steps : List EntryStep) (k : ℕ)
    → (unwrap_or (option_and_then answer_to (slice_get (map (resolved_step changes) steps) k)) default_outcome).result ≡ (unwrap_or (option_and_then (λ stated. stated) (slice_get (map (λ step. step.outcome) steps) k)) default_outcome).result
same_result changes [] k = refl
same_result changes (step ∷ steps) zero = of_outcome step.outcome
  where
    of_outcome : (stated : Option Outcome) → (unwrap_or (answer_to (with_waits stated (filter_map (step_waited changes) step.after))) default_outcome).result ≡ (unwrap_or stated default_outcome).result
    of_outcome None = refl
    of_outcome (Some outcome) = refl
same_result changes (step ∷ steps) (suc k) = same_result changes steps k

-- what a step waits for changes nothing of its provisioners
same_provisioners : (changes : List ResourceChange) (steps : List EntryStep) (k : ℕ)
    → (unwrap_or (option_and_then answer_to (slice_get (map (resolved_step changes) steps) k)) default_outcome).provisioners ≡ (unwrap_or (option_and_then (λ stated. stated) (slice_get (map (λ step. step.outcome) steps) k)) default_outcome).provisioners
same_provisioners changes [] k = refl
same_provisioners changes (step ∷ steps) zero = of_outcome step.outcome
  where
    of_outcome : (stated : Option Outcome) → (unwrap_or (answer_to (with_waits stated (filter_map (step_waited changes) step.after))) default_outcome).provisioners ≡ (unwrap_or stated default_outcome).provisioners
    of_outcome None = refl
    of_outcome (Some outcome) = refl
same_provisioners changes (step ∷ steps) (suc k) = same_provisioners changes steps k

-- ---- the whole script

number_at : {X : Type 0} (g : ℕ → X) (low n c : ℕ) → (slice_get (map g (range_with_len low n)) c ≡ None) ⊎ (slice_get (map g (range_with_len low n)) c ≡ Some (g (low + c)))
number_at g low zero c = inl refl
number_at g low (suc n) zero = inr (let here : low ≡ low + 0 = omega arith in ap (λ (x : ℕ). Some (g x)) here)
number_at {X} g low (suc n) (suc c) =
    let next : low + 1 + c ≡ low + suc c = omega arith in
    subst (λ (x : ℕ). (slice_get (map g (range_with_len (low + 1) n)) c ≡ None) ⊎ (slice_get (map g (range_with_len (low + 1) n)) c ≡ Some (g x))) next (number_at g (low + 1) n c)

-- the step's outcome, by what stands at the change's number
abbrev outcome_at : Option (Option (List ScriptStep)) → ℕ → Outcome
outcome_at o k = unwrap_or (option_and_then answer_to (option_and_then (λ steps. slice_get steps k) (option_and_then (λ stated. stated) o))) default_outcome

stated_has_none : (plan : SavedPlan) (entries : List ResolvedEntry) (c k : ℕ) (change : ResourceChange) (kind : StepKind) (stated : Option (List ScriptStep)) → AllByRecursion (Suits plan.changes) entries → outcomes_of entries c ≡ stated
    → IsChange plan c change → slice_get change.steps k ≡ Some kind → takes_provisioners (is_some change.deposed) (k, kind) ≡ false → (outcome_at (Some stated) k).provisioners ≡ []
stated_has_none plan entries c k change kind None suit is place at takes = refl
stated_has_none plan entries c k change kind (Some steps) suit is place at takes =
    let located = stated_suits plan.changes entries c steps suit is in
    let suits = located.1 in
    let its : slice_get plan.changes c ≡ Some suits.change = ap (slice_get plan.changes) (sym located.2) ∙ suits.place in
    let same : change ≡ suits.change = same_Some change suits.change (sym place ∙ its) in
    let bare = map (λ (step : EntryStep). step.outcome) suits.steps in
    let number : 0 + k ≡ k = omega arith in
    ap (λ (os : List ScriptStep). (unwrap_or (option_and_then answer_to (slice_get os k)) default_outcome).provisioners) (sym located.3 ∙ suits.steps_stated)
    ∙ same_provisioners plan.changes suits.steps k
    ∙ step_has_none (is_some suits.change.deposed) 0 suits.change.steps bare k kind (none_misplaced (is_some suits.change.deposed) suits.number suits.change.steps bare suits.fine)
    (subst (λ (one : ResourceChange). slice_get one.steps k ≡ Some kind) same at)
    (subst (λ (one : ResourceChange). takes_provisioners (is_some one.deposed) (0 + k, kind) ≡ false) same (ap (λ (z : ℕ). takes_provisioners (is_some change.deposed) (z, kind)) number ∙ takes))

stated_reads : (plan : SavedPlan) (entries : List ResolvedEntry) (c k : ℕ) (change : ResourceChange) (kind : StepKind) (stated : Option (List ScriptStep)) → AllByRecursion (Suits plan.changes) entries → outcomes_of entries c ≡ stated
    → IsChange plan c change → slice_get change.steps k ≡ Some kind → is_warned (outcome_at (Some stated) k).result ≡ true → kind ≡ Read
stated_reads plan entries c k change kind None suit is place at warns = absurd cc
stated_reads plan entries c k change kind (Some steps) suit is place at warns =
    let located = stated_suits plan.changes entries c steps suit is in
    let suits = located.1 in
    let its : slice_get plan.changes c ≡ Some suits.change = ap (slice_get plan.changes) (sym located.2) ∙ suits.place in
    let same : change ≡ suits.change = same_Some change suits.change (sym place ∙ its) in
    let bare = map (λ (step : EntryStep). step.outcome) suits.steps in
    let result : (unwrap_or (option_and_then answer_to (slice_get steps k)) default_outcome).result ≡ (unwrap_or (option_and_then (λ stated. stated) (slice_get bare k)) default_outcome).result =
    ap (λ (os : List ScriptStep). (unwrap_or (option_and_then answer_to (slice_get os k)) default_outcome).result) (sym located.3 ∙ suits.steps_stated) ∙ same_result plan.changes suits.steps k in
    warning_reads 0 suits.change.steps bare k kind (none_warns (is_some suits.change.deposed) suits.number suits.change.steps bare suits.fine)
    (subst (λ (one : ResourceChange). slice_get one.steps k ≡ Some kind) same at) (ap is_warned (sym result) ∙ warns)

-- a step that only warns is a read
abbrev OnlyReadsWarn : SavedPlan → OutcomeMap → Type 0
OnlyReadsWarn plan script = (c k : ℕ) (change : ResourceChange) (kind : StepKind) → IsChange plan c change → slice_get change.steps k ≡ Some kind → is_warned (outcome_of script c k).result ≡ true → kind ≡ Read

numbered_reads : (plan : SavedPlan) (entries : List ResolvedEntry) → AllByRecursion (Suits plan.changes) entries → OnlyReadsWarn plan (by_number (length plan.changes) entries)
numbered_reads plan entries suit c k change kind place at warns = ⊎_elim
    (λ (none : slice_get (by_number (length plan.changes) entries) c ≡ None). absurd (let never : is_warned default_outcome.result ≡ true = sym (ap (λ (o : Option (Option (List ScriptStep))). is_warned (outcome_at o k).result) none) ∙ warns in cc))
    (λ (some : slice_get (by_number (length plan.changes) entries) c ≡ Some (outcomes_of entries (0 + c))).
    let number : 0 + c ≡ c = omega arith in
    let is : slice_get (by_number (length plan.changes) entries) c ≡ Some (outcomes_of entries c) = some ∙ ap (λ (x : ℕ). Some (outcomes_of entries x)) number in
    stated_reads plan entries c k change kind (outcomes_of entries c) suit refl place at (sym (ap (λ (o : Option (Option (List ScriptStep))). is_warned (outcome_at o k).result) is) ∙ warns))
    (number_at (outcomes_of entries) 0 (length plan.changes) c)

numbered_has_none : (plan : SavedPlan) (entries : List ResolvedEntry) → AllByRecursion (Suits plan.changes) entries → ProvisionsCreates plan (by_number (length plan.changes) entries)
numbered_has_none plan entries suit c k change kind place at takes = ⊎_elim
    (λ (none : slice_get (by_number (length plan.changes) entries) c ≡ None). ap (λ (o : Option (Option (List ScriptStep))). (outcome_at o k).provisioners) none)
    (λ (some : slice_get (by_number (length plan.changes) entries) c ≡ Some (outcomes_of entries (0 + c))).
    let number : 0 + c ≡ c = omega arith in
    ap (λ (o : Option (Option (List ScriptStep))). (outcome_at o k).provisioners) (some ∙ ap (λ (x : ℕ). Some (outcomes_of entries x)) number)
    ∙ stated_has_none plan entries c k change kind (outcomes_of entries c) suit refl place at takes)
    (number_at (outcomes_of entries) 0 (length plan.changes) c)

-- The steps of a script that was read have provisioners only if they may, and only warn if they are
-- reads.
record Suited (plan : SavedPlan) (script : OutcomeMap) : Type 0 where
  provisions : ProvisionsCreates plan script
  reads : OnlyReadsWarn plan script

entries_have : (plan : SavedPlan) (elements : List Data) (script : OutcomeMap) → script_of_entries plan elements ≡ Ok script → Suited plan script
unfolding script_of_entries
entries_have plan elements script e =
    of_entries (all_or_first (each_with_earlier (entry_at plan.changes) elements))
    (λ entries is. all_hold (Suits plan.changes) (λ (p : ℕ × Data). entry_at plan.changes (take p.0 elements) p.1) (enumerate_from 0 elements) entries (λ p one. entry_suits plan.changes (take p.0 elements) p.1 one) is) e
  where
    of_entries : (r : Result (List ResolvedEntry) ScriptError) → ((entries : List ResolvedEntry) → r ≡ Ok entries → AllByRecursion (Suits plan.changes) entries)
        → (r >>= λ entries. unless_stuck entries (by_number (length plan.changes) entries)) ≡ Ok script → Suited plan script
    of_entries (Err refusal) suit e = absurd cc
    of_entries (Ok entries) suit e = subst (Suited plan) (unless_refused_ok (option_map NeverBegins (position_from (is_stuck (by_number (length plan.changes) entries)) 0 entries)) (by_number (length plan.changes) entries) script e).1 (record { provisions = numbered_has_none plan entries (suit entries refl); reads = numbered_reads plan entries (suit entries refl) })

tree_has : (plan : SavedPlan) (d : Data) (script : OutcomeMap) → script_of_tree plan d ≡ Ok script → Suited plan script
unfolding script_of_tree
tree_has plan d script e = of_elements (elements_of d) e
  where
    of_elements : (o : Option Items) → (or_refuse (BadShape None) o >>= λ elements. script_of_entries plan (list_of elements)) ≡ Ok script → Suited plan script
    of_elements None e = absurd cc
    of_elements (Some elements) e = entries_have plan (list_of elements) script e

read_suits : (plan : SavedPlan) (bytes : List ℕ) (script : OutcomeMap) → script_of plan bytes ≡ Ok script → Suited plan script
unfolding script_of
read_suits plan bytes script e = of_size (nat_lt max_bytes (length bytes)) (mixed_tree_of is_verbatim_name bytes) e
  where
    of_size : (b : Bool) (o : Option Data) → cond b (Err TooLarge) (or_refuse NotJson o >>= script_of_tree plan) ≡ Ok script → Suited plan script
    of_size true o e = absurd cc
    of_size false None e = absurd cc
    of_size false (Some d) e = tree_has plan d script e

pub read_has : (plan : SavedPlan) (bytes : List ℕ) (script : OutcomeMap) → script_of plan bytes ≡ Ok script → ProvisionsCreates plan script
read_has plan bytes script e = (read_suits plan bytes script e).provisions

pub read_warns : (plan : SavedPlan) (bytes : List ℕ) (script : OutcomeMap) → script_of plan bytes ≡ Ok script → ReadsComeLast plan → WarnsOfReads plan script
read_warns plan bytes script e last c k change kind place at warns =
    let read : kind ≡ Read = (read_suits plan bytes script e).reads c k change kind place at warns in
    (read, last c k change place (at ∙ ap (λ (x : StepKind). Some x) read))

pub none_warns_of : (plan : SavedPlan) → WarnsOfReads plan []
none_warns_of plan c k change kind place at warns = absurd cc

pub none_has : (plan : SavedPlan) → ProvisionsCreates plan []
none_has plan c k change kind place at takes = refl
