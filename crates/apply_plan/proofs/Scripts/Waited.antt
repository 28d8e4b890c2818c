-- The steps that the items of `after` name, one by one.
use Rattle.std.proofs.Common.{◌≡◌, ℕ, ◌+◌, ◌<◌, ◌≤◌, Bool, true, false, cond, List, [], ◌∷◌, ◌++◌, length, map, take, get_or, Option, Some, None, option_map, Ok, Err, refl, sym, ap, subst, ◌∙◌, arith, ⊎_elim}
use Rattle.std.specs.Prelude.{◌-◌, ◌||◌, is_none, is_some, nat_le, nat_lt, option_and_then, slice_get, unwrap_or}
use Rattle.std.specs.List.{All, filter_map, list_any}
use Rattle.std.specs.Option.{option_map_or}
use Rattle.std.proofs.lemmas.Bool.{cases_Bool, le-leb, lt-leb, ltb-false, ltb-true}
use Rattle.std.proofs.lemmas.List.{append-nil, length-append, map-append, take_all, take_more}
use Rattle.std.proofs.lemmas.List.Elements.{All-append, All-cons, All-nil, filter_map-append}
use Rattle.std.proofs.lemmas.List.Folds.{list_any-append, list_any_at}
use Rattle.apply_model.specs.declared.script.outcome.Outcome.{Outcome}
use Rattle.apply_model.specs.declared.script.script_step.ScriptStep.{ScriptStep}
use Rattle.apply_model.specs.declared.script.wait.Wait.{Wait}
use Rattle.apply_model.specs.Plan.ResourceChange.{ResourceChange}
use Rattle.apply_model.specs.Script.Step.{after_of}
use Rattle.apply_plan.specs.declared.script.script_error.ScriptError.TheVariants.{UnknownWait, NoSuchStep}
use Rattle.apply_plan.specs.declared.script.raw_step.RawStep.{RawStep}
use Rattle.apply_plan.specs.declared.script.raw_wait.RawWait.{RawWait}
use Rattle.apply_plan.specs.declared.script.waited.Waited.{Waited}
use Rattle.apply_plan.specs.Results.{unless_refused}
use Rattle.apply_plan.specs.Script.Entry.{Entry, EntryStep, WaitName}
use Rattle.apply_plan.specs.Script.NextEntry.{steps_or_fault}
use Rattle.apply_resolve.specs.Placed.{IsPlaced}
use Rattle.apply_plan.specs.Script.Refusals.{is_any_wait, is_unknown, lacks_step}
use Rattle.apply_plan.specs.Script.RawView.{entry_step_view, step_view, wait_view, waits_view}
use Rattle.apply_plan.specs.Script.WaitedStep.{change_waited, number_waited, step_of_change, resolved_step, step_waited, with_waits}
use Rattle.apply_plan.specs.Script.WaitedView.{waited_by}
use Rattle.apply_plan.proofs.Scripts.Entries.{change_numbered, is_numbered, not_numbered}
use Rattle.apply_plan.proofs.Scripts.Refusals.{list_any-map}

-- an entry with the name, which is about the same change
abbrev as_entry : WaitName → Entry
as_entry name = record { address = name.address; deposed = name.deposed; steps = [] }

-- what a reader has stored of the first i items
pub record HasWaited (changes : List ResourceChange) (items : List RawWait) (i : ℕ) (waits : List Wait) (lacks : Bool) : Type 0 where
  pub known : list_any (is_unknown changes) (waits_view (take i items)) ≡ false
  pub waits_are : waits ≡ filter_map (step_waited changes) (waits_view (take i items))
  pub lacks_is : lacks ≡ list_any (lacks_step changes) (waits_view (take i items))
  pub placed : All (IsPlaced (length changes)) waits
  pub few : length waits ≤ i

pub none_waited : (changes : List ResourceChange) (items : List RawWait) (waits : List Wait) → waits ≡ [] → HasWaited changes items 0 waits false
none_waited changes items waits none =
    record { known = refl; waits_are = none; lacks_is = refl; placed = subst (All (IsPlaced (length changes))) (sym none) (All-nil (IsPlaced (length changes))); few = omega (arith, ap length none) }

one_more : (items : List RawWait) (i : ℕ) (item : RawWait) → i < length items → item ≡ get_or items i item → waits_view (take (i + 1) items) ≡ waits_view (take i items) ++ wait_view item ∷ []
one_more items i item below is = rw (take_more items i item below, ← is) (map-append wait_view (take i items) (item ∷ []))

-- the number of a located change is in the plan
pub number_below : (changes : List ResourceChange) (item : RawWait) (number : ℕ) → Some number ≡ option_map (λ p. p.0) (change_waited changes (wait_view item)) → number < length changes
number_below changes item number known = is_numbered changes (as_entry (wait_view item)) number known

-- an item that names no change
pub is_of_none : (changes : List ResourceChange) (items : List RawWait) (i : ℕ) (item : RawWait) → i < length items → item ≡ get_or items i item
    → None ≡ option_map (λ p. p.0) (change_waited changes (wait_view item)) → None ≡ waited_by changes (waits_view items)
is_of_none changes items i item below is none =
    let unknown : is_unknown changes (wait_view item) ≡ true = ap (λ (o : Option (ℕ × ResourceChange)). is_none o) (not_numbered (change_waited changes (wait_view item)) none) in
    let among : list_any (is_unknown changes) (waits_view items) ≡ true =
    list_any-map (is_unknown changes) wait_view items ∙ list_any_at (λ x. is_unknown changes (wait_view x)) items i item below (ap (λ x. is_unknown changes (wait_view x)) (sym is) ∙ unknown) in
    rw among refl

-- the step that the next item names, if its change is known
record Names (changes : List ResourceChange) (name : WaitName) (number : ℕ) (change : ResourceChange) : Type 0 where
  located : change_waited changes name ≡ Some (number, change)

names : (changes : List ResourceChange) (item : RawWait) (number : ℕ) (change : ResourceChange) → Some number ≡ option_map (λ p. p.0) (change_waited changes (wait_view item)) → Some change ≡ slice_get changes number
    → Names changes (wait_view item) number change
names changes item number change known stands = record { located = (change_numbered changes (as_entry (wait_view item)) number change known stands).located }

is_known : (changes : List ResourceChange) (name : WaitName) (number : ℕ) (change : ResourceChange) → Names changes name number change → is_unknown changes name ≡ false
is_known changes name number change has = ap (λ (o : Option (ℕ × ResourceChange)). is_none o) has.located

-- whether the change lacks the stated step, by whether it has the named one
has_it : (step : Option ℕ) (count : ℕ) → nat_lt (unwrap_or step (count - 1)) count ≡ true → option_map_or (λ (number : ℕ). nat_le count number) step false ≡ false
has_it None count has = refl
has_it (Some k) count has = lt-leb count k (ltb-true k count has)

lacks_it : (step : Option ℕ) (count : ℕ) → nat_lt (unwrap_or step (count - 1)) count ≡ false → option_map_or (λ (number : ℕ). nat_le count number) step false ≡ is_some step
lacks_it None count has = refl
lacks_it (Some k) count has = le-leb count k (ltb-false k count has)

lacks_here : (changes : List ResourceChange) (name : WaitName) (number : ℕ) (change : ResourceChange) → Names changes name number change
    → lacks_step changes name ≡ option_map_or (λ (number : ℕ). nat_le (length change.steps) number) name.step false
lacks_here changes name number change has =
    ap (λ (o : Option (ℕ × ResourceChange)). option_map_or (λ (located : ℕ × ResourceChange). option_map_or (λ (number : ℕ). nat_le (length located.1.steps) number) name.step false) o false) has.located

step_here : (changes : List ResourceChange) (name : WaitName) (number : ℕ) (change : ResourceChange) → Names changes name number change → step_waited changes name ≡ step_of_change name (number, change)
step_here changes name number change has = ap (option_and_then (step_of_change name)) has.located

or_false : (b : Bool) → (b || false) ≡ b
or_false true = refl
or_false false = refl

module _ (changes : List ResourceChange) (items : List RawWait) (i : ℕ) (item : RawWait) (number count : ℕ) (change : ResourceChange) (waits : List Wait) (lacks : Bool)
    (before : HasWaited changes items i waits lacks) (below : i < length items) (is : item ≡ get_or items i item)
    (known : Some number ≡ option_map (λ p. p.0) (change_waited changes (wait_view item))) (stands : Some change ≡ slice_get changes number)
    (count_is : count ≡ length change.steps) (few : count ≤ 2) where
  name : WaitName
  name = wait_view item

  located : Names changes (wait_view item) number change
  located = names changes item number change known stands

  -- the item names this step
  pub names_step : (step : ℕ) → Some step ≡ cond (nat_lt (number_waited count (wait_view item)) count) (Some (number_waited count (wait_view item))) None
      → HasWaited changes items (i + 1) (waits ++ record { change = number; step = step } ∷ []) lacks
  names_step step told = ⊎_elim
      (λ (yes : nat_lt (number_waited count (wait_view item)) count ≡ true).
      let same : step ≡ number_waited count (wait_view item) = (let some : Some step ≡ cond true (Some (number_waited count (wait_view item))) None = rw yes at told in cc) in
      let here : step_of_change (wait_view item) (number, change) ≡ Some (record { change = number; step = step }) = rw (← count_is, yes, ← same) refl in
      let named : step_waited changes (wait_view item) ≡ Some (record { change = number; step = step }) = step_here changes (wait_view item) number change located ∙ here in
      let has : lacks_step changes (wait_view item) ≡ false = lacks_here changes (wait_view item) number change located ∙ rw (← count_is) (has_it item.step count yes) in
      record {
        known = rw (one_more items i item below is, list_any-append (is_unknown changes) (waits_view (take i items)) (wait_view item ∷ []), before.known, is_known changes (wait_view item) number change located) refl;
        waits_are = rw (one_more items i item below is, filter_map-append (step_waited changes) (waits_view (take i items)) (wait_view item ∷ []), named, ← before.waits_are) refl;
        lacks_is = rw (one_more items i item below is, list_any-append (lacks_step changes) (waits_view (take i items)) (wait_view item ∷ []), has, ← before.lacks_is) (sym (or_false lacks));
        placed = All-append (IsPlaced (length changes)) waits (record { change = number; step = step } ∷ []) before.placed
            (All-cons (IsPlaced (length changes)) (record { change = number; step = step }) []
            (record { change_below = number_below changes item number known; step_below = (let under = ltb-true (number_waited count (wait_view item)) count yes in omega arith) }) (All-nil (IsPlaced (length changes))));
        few = (let had = before.few in omega (arith, length-append waits (record { change = number; step = step } ∷ [])));
      })
      (λ (no : nat_lt (number_waited count (wait_view item)) count ≡ false). let none : Some step ≡ cond false (Some (number_waited count (wait_view item))) None = rw no at told in absurd cc)
      (cases_Bool (nat_lt (number_waited count (wait_view item)) count))

  -- the item names no step
  pub names_none : None ≡ cond (nat_lt (number_waited count (wait_view item)) count) (Some (number_waited count (wait_view item))) None
      → HasWaited changes items (i + 1) waits (lacks || is_some item.step)
  names_none told = ⊎_elim
      (λ (yes : nat_lt (number_waited count (wait_view item)) count ≡ true). let some : None ≡ cond true (Some (number_waited count (wait_view item))) None = rw yes at told in absurd cc)
      (λ (no : nat_lt (number_waited count (wait_view item)) count ≡ false).
      let here : step_of_change (wait_view item) (number, change) ≡ None = rw (← count_is, no) refl in
      let named : step_waited changes (wait_view item) ≡ None = step_here changes (wait_view item) number change located ∙ here in
      let misses : lacks_step changes (wait_view item) ≡ is_some item.step = lacks_here changes (wait_view item) number change located ∙ rw (← count_is) (lacks_it item.step count no) in
      record {
        known = rw (one_more items i item below is, list_any-append (is_unknown changes) (waits_view (take i items)) (wait_view item ∷ []), before.known, is_known changes (wait_view item) number change located) refl;
        waits_are = rw (one_more items i item below is, filter_map-append (step_waited changes) (waits_view (take i items)) (wait_view item ∷ []), named, ← before.waits_are) (sym (append-nil waits));
        lacks_is = rw (one_more items i item below is, list_any-append (lacks_step changes) (waits_view (take i items)) (wait_view item ∷ []), misses, ← before.lacks_is) (ap (λ (b : Bool). lacks || b) (sym (or_false (is_some item.step))));
        placed = before.placed;
        few = (let had = before.few in omega arith);
      })
      (cases_Bool (nat_lt (number_waited count (wait_view item)) count))

-- no item is left
pub all_waited : (changes : List ResourceChange) (items : List RawWait) (i : ℕ) (waits : List Wait) (lacks : Bool) → HasWaited changes items i waits lacks → length items ≤ i
    → Some (record { waits = waits; lacks_step = lacks }) ≡ waited_by changes (waits_view items)
all_waited changes items i waits lacks has past =
    let whole : take i items ≡ items = take_all i items past in
    let known : list_any (is_unknown changes) (waits_view items) ≡ false = rw whole at has.known in
    let waits_are : waits ≡ filter_map (step_waited changes) (waits_view items) = rw whole at has.waits_are in
    let lacks_is : lacks ≡ list_any (lacks_step changes) (waits_view items) = rw whole at has.lacks_is in
    rw (known, ← waits_are, ← lacks_is) refl

-- ---- the steps of an entry, one by one

-- facts about items that were all read
pub waited_parts : (changes : List ResourceChange) (names : List WaitName) (waited : Waited) → Some waited ≡ waited_by changes names
    → (list_any (is_unknown changes) names ≡ false) × (waited.waits ≡ filter_map (step_waited changes) names) × (waited.lacks_step ≡ list_any (lacks_step changes) names)
waited_parts changes names waited is = ⊎_elim
    (λ (yes : list_any (is_unknown changes) names ≡ true).
    let none : Some waited ≡ cond true None (Some (record { waits = filter_map (step_waited changes) names; lacks_step = list_any (lacks_step changes) names })) = rw yes at is in absurd cc)
    (λ (no : list_any (is_unknown changes) names ≡ false).
    let some : Some waited ≡ cond false None (Some (record { waits = filter_map (step_waited changes) names; lacks_step = list_any (lacks_step changes) names })) = rw no at is in
    let same : waited ≡ record { waits = filter_map (step_waited changes) names; lacks_step = list_any (lacks_step changes) names } = cc in
    (no, ap (λ (w : Waited). w.waits) same, ap (λ (w : Waited). w.lacks_step) same))
    (cases_Bool (list_any (is_unknown changes) names))

unknown_among : (changes : List ResourceChange) (names : List WaitName) → None ≡ waited_by changes names → list_any (is_unknown changes) names ≡ true
unknown_among changes names is = ⊎_elim
    (λ (yes : list_any (is_unknown changes) names ≡ true). yes)
    (λ (no : list_any (is_unknown changes) names ≡ false).
    let some : None ≡ cond false None (Some (record { waits = filter_map (step_waited changes) names; lacks_step = list_any (lacks_step changes) names })) = rw no at is in absurd cc)
    (cases_Bool (list_any (is_unknown changes) names))

-- the result of a reader for the first i steps
pub record HasSteps (changes : List ResourceChange) (steps : List RawStep) (i : ℕ) (outcomes : List ScriptStep) (lacks : Bool) : Type 0 where
  pub known : is_any_wait (is_unknown changes) (map entry_step_view (take i steps)) ≡ false
  pub outcomes_are : outcomes ≡ map (resolved_step changes) (map entry_step_view (take i steps))
  pub lacks_is : lacks ≡ is_any_wait (lacks_step changes) (map entry_step_view (take i steps))
  pub placed : All (λ step. All (IsPlaced (length changes)) (after_of step)) outcomes

pub no_steps : (changes : List ResourceChange) (steps : List RawStep) (outcomes : List ScriptStep) → outcomes ≡ [] → HasSteps changes steps 0 outcomes false
no_steps changes steps outcomes none =
    let P = λ (step : ScriptStep). All (IsPlaced (length changes)) (after_of step) in
    record { known = refl; outcomes_are = none; lacks_is = refl; placed = subst (All P) (sym none) (All-nil P) }

waits_of_step : (outcome : Option Outcome) (waits : List Wait) → after_of (with_waits outcome waits) ≡ waits
waits_of_step None waits = refl
waits_of_step (Some outcome) waits = refl

next_step : (steps : List RawStep) (i : ℕ) (step : RawStep) → i < length steps → step ≡ get_or steps i step → map entry_step_view (take (i + 1) steps) ≡ map entry_step_view (take i steps) ++ entry_step_view step ∷ []
next_step steps i step below is = rw (take_more steps i step below, ← is) (map-append entry_step_view (take i steps) (step ∷ []))

pub one_step : (changes : List ResourceChange) (steps : List RawStep) (i : ℕ) (step : RawStep) (outcomes : List ScriptStep) (lacks : Bool) (waited : Waited) (one : ScriptStep) → HasSteps changes steps i outcomes lacks
    → i < length steps → step ≡ get_or steps i step → Some waited ≡ waited_by changes (waits_view step.after.items) → All (IsPlaced (length changes)) waited.waits
    → one ≡ with_waits (step_view step) waited.waits → HasSteps changes steps (i + 1) (outcomes ++ one ∷ []) (lacks || waited.lacks_step)
one_step changes steps i step outcomes lacks waited one before below is located placed made =
    let parts = waited_parts changes (waits_view step.after.items) waited located in
    let P = λ (step : ScriptStep). All (IsPlaced (length changes)) (after_of step) in
    let told : one ≡ resolved_step changes (entry_step_view step) = made ∙ ap (with_waits (step_view step)) parts.1 in
    record {
      known = rw (next_step steps i step below is, list_any-append (λ (s : EntryStep). list_any (is_unknown changes) s.after) (map entry_step_view (take i steps)) (entry_step_view step ∷ []), before.known, parts.0) refl;
      outcomes_are = rw (next_step steps i step below is, map-append (resolved_step changes) (map entry_step_view (take i steps)) (entry_step_view step ∷ []), ← before.outcomes_are, ← told) refl;
      lacks_is = rw (next_step steps i step below is, list_any-append (λ (s : EntryStep). list_any (lacks_step changes) s.after) (map entry_step_view (take i steps)) (entry_step_view step ∷ []), ← before.lacks_is, ← parts.2) (ap (λ (b : Bool). lacks || b) (sym (or_false waited.lacks_step)));
      placed = All-append P outcomes (one ∷ []) before.placed (All-cons P one [] (subst (All (IsPlaced (length changes))) (sym (ap after_of made ∙ waits_of_step (step_view step) waited.waits)) placed) (All-nil P));
    }

-- the next step has an item that names no change
pub names_unknown : (n : ℕ) (changes : List ResourceChange) (steps : List RawStep) (i : ℕ) (step : RawStep) → i < length steps → step ≡ get_or steps i step → None ≡ waited_by changes (waits_view step.after.items)
    → steps_or_fault n changes (map entry_step_view steps) ≡ Err (UnknownWait n)
names_unknown n changes steps i step below is none =
    let p = λ (s : EntryStep). list_any (is_unknown changes) s.after in
    let here : p (entry_step_view (get_or steps i step)) ≡ true = ap (λ (s : RawStep). p (entry_step_view s)) (sym is) ∙ unknown_among changes (waits_view step.after.items) none in
    let among : is_any_wait (is_unknown changes) (map entry_step_view steps) ≡ true = list_any-map p entry_step_view steps ∙ list_any_at (λ s. p (entry_step_view s)) steps i step below here in
    rw among refl

-- all steps were read
pub all_steps : (n : ℕ) (changes : List ResourceChange) (steps : List RawStep) (i : ℕ) (outcomes : List ScriptStep) (lacks : Bool) → HasSteps changes steps i outcomes lacks → length steps ≤ i
    → steps_or_fault n changes (map entry_step_view steps) ≡ cond lacks (Err (NoSuchStep n)) (Ok outcomes)
all_steps n changes steps i outcomes lacks has past =
    let whole : take i steps ≡ steps = take_all i steps past in
    let known : is_any_wait (is_unknown changes) (map entry_step_view steps) ≡ false = rw whole at has.known in
    let outcomes_are : outcomes ≡ map (resolved_step changes) (map entry_step_view steps) = rw whole at has.outcomes_are in
    let lacks_is : lacks ≡ is_any_wait (lacks_step changes) (map entry_step_view steps) = rw whole at has.lacks_is in
    rw (known, ← lacks_is, ← outcomes_are) (either lacks)
  where
    either : (b : Bool) → unless_refused (cond b (Some (NoSuchStep n)) None) outcomes ≡ cond b (Err (NoSuchStep n)) (Ok outcomes)
    either true = refl
    either false = refl
