-- The outcomes of all entries are those of their steps.
use Rattle.std.proofs.Common.{◌≡◌, ℕ, zero, suc, ◌+◌, ◌<◌, ◌≤◌, ◌==◌, All, Bool, true, false, List, [], ◌∷◌, codes, cond, find, length, map, slice_get, take, Option, Some, None, option_map, Ok, refl, sym, ap, ◌∙◌, subst, ⊎_elim, arith}
use Rattle.std.specs.Prelude.{◌&&◌, ◌||◌, ◌≢◌, IfSome, Result, get_or, is_some, nat_lt, not, option_and_then, sum_by, unwrap_or}
use Rattle.std.specs.List.{AllByRecursion, enumerate_from, filter_map, list_any, position_from, zip}
use Rattle.std.specs.Option.{option_map_or, option_or}
use Rattle.std.proofs.lemmas.Bool.{cases_Bool, ltb-false}
use Rattle.std.proofs.lemmas.Bool.Decides.{eqb_tells}
use Rattle.std.proofs.lemmas.Option.{same_Some, slice_get_within}
use Rattle.serde_json.specs.Data.{Data}
use Rattle.serde_json.specs.Find.{as_array}
use Rattle.apply_json.specs.Tree.{list_of, member_of, text_of, text_or, unless_empty}
use Rattle.apply_json.specs.Verbatim.{mixed_tree_of}
use Rattle.apply_model.specs.declared.plan.step_kind.StepKind.{StepKind}
use Rattle.apply_model.specs.declared.plan.step_kind.StepKind.TheVariants.{Create, Delete, Read}
use Rattle.apply_model.specs.declared.script.outcome.Outcome.{Outcome}
use Rattle.apply_model.specs.declared.script.script_step.ScriptStep.{ScriptStep}
use Rattle.apply_model.specs.declared.script.script_step.ScriptStep.TheVariants.{Answered, Skipped}
use Rattle.apply_model.specs.declared.script.wait.Wait.{Wait}
use Rattle.apply_model.specs.Plan.ResourceChange.{ResourceChange}
use Rattle.apply_model.specs.Plan.SavedPlan.{SavedPlan}
use Rattle.apply_model.specs.Plan.StepKind.{is_kind}
use Rattle.apply_model.specs.Script.Outcome.{IsBounded, default_outcome, is_warned}
use Rattle.apply_model.specs.Script.OutcomeMap.{IsInRange, OutcomeMap, outcome_of, stated_outcome, stated_step, stated_steps}
use Rattle.apply_model.specs.Script.Step.{answer_to}
use Rattle.apply_plan.specs.declared.script.script_error.ScriptError.{ScriptError}
use Rattle.apply_plan.specs.declared.script.script_error.ScriptError.TheVariants.{TooLarge, NotJson, BadShape, UnknownChange, Duplicate, TooManySteps, SecondsRange, TooManyProvisioners, TooMuchOutput, NotACreate, WarnsNotARead, NeverBegins}
use Rattle.apply_plan.specs.Bytes.{max_bytes}
use Rattle.apply_plan.specs.Results.{all_or_first, each_with_earlier, or_refuse}
use Rattle.apply_plan.specs.Script.Entry.{Entry, EntryStep, all_some, entry_of, is_verbatim_name, step_from}
use Rattle.apply_plan.specs.Script.EntriesView.{AllResolved, IsWithin}
use Rattle.apply_plan.specs.Script.OutcomeMap.{ResolvedEntry, by_number, change_of_entry, count_in, elements_of, entry_at, is_stuck, names_change, outcomes_of, resolved_by, script_of, script_of_entries, script_of_tree}
use Rattle.apply_plan.specs.Script.Refusals.{fault_of_entry, fault_of_steps, fault_of_waits, has_provisioners, misplaces_provisioners, only_warns, passes, takes_provisioners, warns_not_a_read}
use Rattle.apply_plan.specs.Script.WaitedStep.{resolved_step, step_waited, with_waits}
use Rattle.apply_plan.proofs.Results.{bind_ok, done, guard_ok, ok_is, or_refuse_ok, unless_refused_ok}
use Rattle.apply_plan.proofs.Scripts.Entries.{at_number, change_is, is_in_range}
use Rattle.apply_plan.proofs.Scripts.Limits.{both_none, not_refused, said_is_within}
use Rattle.laws_scripts.specs.Outcomes.{IsOfStep, IsSound}
use Rattle.laws_scripts.proofs.Parts.{all_some_hold, bind_some, some_is, step_holds}

-- ---- one step, with its kind

-- The outcome stands where it may.
pub record IsPlaced (deposed : Bool) (k : ℕ) (kind : StepKind) (outcome : Outcome) : Type 0 where
  only_reads_warn : is_warned outcome.result ≡ true → is_kind Read kind ≡ true
  provisioned : 0 < length outcome.provisioners → takes_provisioners deposed (k, kind) ≡ true

one_of : (a b : Bool) → (a && not b) ≡ false → a ≡ true → b ≡ true
one_of true true e is = refl
one_of true false e is = absurd cc
one_of false b e is = absurd cc

some_are : {X : Type 0} (xs : List X) → 0 < length xs → nat_lt 0 (length xs) ≡ true
some_are xs lt = ⊎_elim
    (λ (yes : nat_lt 0 (length xs) ≡ true). yes)
    (λ (no : nat_lt 0 (length xs) ≡ false). absurd (omega (arith, ltb-false 0 (length xs) no)))
    (cases_Bool (nat_lt 0 (length xs)))

none_of_both : (a b : Bool) → (a || b) ≡ false → (a ≡ false) × (b ≡ false)
none_of_both false false e = (refl, refl)
none_of_both false true e = absurd cc
none_of_both true b e = absurd cc

-- Without a fault in a list of steps with their kinds, each stands where it may. The first has the
-- number n.
placed : (deposed : Bool) (n k : ℕ) (kinds : List StepKind) (steps : List (Option Outcome)) (kind : StepKind) (outcome : Outcome)
    → list_any (misplaces_provisioners deposed) (zip (enumerate_from n kinds) steps) ≡ false → list_any warns_not_a_read (zip (enumerate_from n kinds) steps) ≡ false
    → slice_get kinds k ≡ Some kind → slice_get steps k ≡ Some (Some outcome) → IsPlaced deposed (n + k) kind outcome
placed deposed n zero [] steps kind outcome misplaced warns at is = absurd cc
placed deposed n (suc k) [] steps kind outcome misplaced warns at is = absurd cc
placed deposed n zero (first ∷ kinds) [] kind outcome misplaced warns at is = absurd cc
placed deposed n (suc k) (first ∷ kinds) [] kind outcome misplaced warns at is = absurd cc
placed deposed n zero (first ∷ kinds) (step ∷ steps) kind outcome misplaced warns at is =
    let same : first ≡ kind = same_Some first kind at in
    let that : step ≡ Some outcome = same_Some step (Some outcome) is in
    let here = none_of_both (misplaces_provisioners deposed ((n, first), step)) _ misplaced in
    let warns_here = none_of_both (warns_not_a_read ((n, first), step)) _ warns in
    let number : n ≡ n + zero = omega arith in
    subst (λ (i : ℕ). IsPlaced deposed i kind outcome) number
    (subst (λ (x : StepKind). IsPlaced deposed n x outcome) same (record {
      only_reads_warn = λ yes. one_of (passes only_warns (Some outcome)) (is_kind Read first) (ap (λ (o : Option Outcome). passes only_warns o && not (is_kind Read first)) (sym that) ∙ warns_here.0) yes;
      provisioned = λ some. one_of (passes has_provisioners (Some outcome)) (takes_provisioners deposed (n, first)) (ap (λ (o : Option Outcome). passes has_provisioners o && not (takes_provisioners deposed (n, first))) (sym that) ∙ here.0) (some_are outcome.provisioners some);
    }))
placed deposed n (suc k) (first ∷ kinds) (step ∷ steps) kind outcome misplaced warns at is =
    let rest = placed deposed (n + 1) k kinds steps kind outcome (none_of_both (misplaces_provisioners deposed ((n, first), step)) _ misplaced).1 (none_of_both (warns_not_a_read ((n, first), step)) _ warns).1 at is in
    let number : n + 1 + k ≡ n + suc k = omega arith in
    subst (λ (i : ℕ). IsPlaced deposed i kind outcome) number rest

-- ---- one entry

-- The outcomes of an entry are sound, and stand where they may in the change with these kinds.
pub record Suits (changes : List ResourceChange) (one : ResolvedEntry) : Type 0 where
  change : ResourceChange
  is : slice_get changes one.change ≡ Some change
  each : (k : ℕ) (kind : StepKind) (outcome : Outcome) → slice_get change.steps k ≡ Some kind → slice_get one.steps k ≡ Some (Answered outcome) → IsSound outcome × IsPlaced (is_some change.deposed) k kind outcome
  within : All IsWithin one.steps

step_at : (changes : List ResourceChange) (steps : List EntryStep) (k : ℕ) (outcome : Outcome) → slice_get (map (resolved_step changes) steps) k ≡ Some (Answered outcome)
    → (step : EntryStep) × (slice_get steps k ≡ Some step) × (resolved_step changes step ≡ Answered outcome)
step_at changes [] zero outcome e = absurd cc
step_at changes [] (suc k) outcome e = absurd cc
step_at changes (step ∷ steps) zero outcome e = (step, refl, same_Some (resolved_step changes step) (Answered outcome) e)
step_at changes (step ∷ steps) (suc k) outcome e = step_at changes steps k outcome e

mapped_at : {X Y : Type 0} (f : X → Y) (xs : List X) (k : ℕ) (x : X) → slice_get xs k ≡ Some x → slice_get (map f xs) k ≡ Some (f x)
mapped_at f [] zero x e = absurd cc
mapped_at f [] (suc k) x e = absurd cc
mapped_at f (y ∷ xs) zero x e = ap (λ (o : Option _). option_map f o) e
mapped_at f (y ∷ xs) (suc k) x e = mapped_at f xs k x e

pub held_at : {X : Type 0} (P : X → Type 0) (xs : List X) (k : ℕ) (x : X) → AllByRecursion P xs → slice_get xs k ≡ Some x → P x
held_at P [] zero x all e = absurd cc
held_at P [] (suc k) x all e = absurd cc
held_at P (y ∷ xs) zero x all e = subst P (same_Some y x e) all.0
held_at P (y ∷ xs) (suc k) x all e = held_at P xs k x all.1 e

-- what a step waits for changes nothing of it
sound_with : (after : List Wait) (outcome : Outcome) → IsSound outcome → IsSound (record outcome { after = after })
sound_with after outcome sound = record { provisioners = sound.provisioners; has_id = sound.has_id; fails_alone = sound.fails_alone }

placed_with : (after : List Wait) (deposed : Bool) (k : ℕ) (kind : StepKind) (outcome : Outcome) → IsPlaced deposed k kind outcome → IsPlaced deposed k kind (record outcome { after = after })
placed_with after deposed k kind outcome placed = record { only_reads_warn = placed.only_reads_warn; provisioned = placed.provisioned }

answered : (o : Option Outcome) (after : List Wait) (outcome : Outcome) → with_waits o after ≡ Answered outcome → (stated : Outcome) × (o ≡ Some stated) × (record stated { after = after } ≡ outcome)
answered None after outcome e = absurd cc
answered (Some stated) after outcome e = (stated, refl, cc)

entry_sound : (d : Data) (entry : Entry) → entry_of d ≡ Some entry → AllByRecursion (λ (step : EntryStep). IfSome step.outcome IsSound) entry.steps
unfolding entry_of
entry_sound d entry e =
    let address = bind_some (text_of (codes "address") d) _ entry e in
    let deposed = bind_some (text_or [] (member_of (codes "deposed") d)) _ entry address.2 in
    let list = bind_some (member_of (codes "steps") d) _ entry deposed.2 in
    let items = bind_some (as_array list.0) _ entry list.2 in
    let steps = bind_some (all_some (map step_from (list_of items.0))) _ entry items.2 in
    subst (λ (x : Entry). AllByRecursion (λ (step : EntryStep). IfSome step.outcome IsSound) x.steps)
    (some_is (record { address = address.0; deposed = unless_empty deposed.0; steps = steps.0 }) entry steps.2)
    (all_some_hold (λ (step : EntryStep). IfSome step.outcome IsSound) step_from (list_of items.0) steps.0 step_holds steps.1)

pub if_some : {X : Type 0} (P : X → Type 0) (o : Option X) (x : X) → o ≡ Some x → IfSome o P → P x
if_some P None x e holds = absurd cc
if_some P (Some y) x e holds = subst P (same_Some y x e) holds

entry_suits : (changes : List ResourceChange) (before : List Data) (d : Data) (one : ResolvedEntry) → entry_at changes before d ≡ Ok one → Suits changes one
unfolding entry_at fault_of_steps
entry_suits changes before d one e =
    let n = length before in
    let formed = bind_ok (or_refuse (BadShape (Some n)) (entry_of d)) _ one e in
    let entry = formed.0 in
    let about = bind_ok (or_refuse (UnknownChange n) (change_of_entry changes entry)) _ one formed.2 in
    let located = about.0 in
    let stands = (change_is changes entry located.0 located.1 (or_refuse_ok (UnknownChange n) (change_of_entry changes entry) located about.1)).stands in
    let new = guard_ok (list_any (names_change located.1) before) (Duplicate n) _ one about.2 in
    let clear = unless_refused_ok (fault_of_entry n changes (sum_by count_in before) located.1 entry.steps) (resolved_by changes located.0 entry.steps) one new.1 in
    let outcomes = map (λ (step : EntryStep). step.outcome) entry.steps in
    let deposed = is_some located.1.deposed in
    let kinds = located.1.steps in
    let none = both_none (fault_of_steps n deposed kinds outcomes) (fault_of_waits n changes (sum_by count_in before) entry.steps) clear.0 in
    let many = not_refused (nat_lt (length kinds) (length outcomes)) (TooManySteps n) _ none.0 in
    let long = not_refused (list_any (passes Rattle.apply_model.specs.Script.Outcome.is_too_long) outcomes) (SecondsRange n) _ many.1 in
    let wide = not_refused (list_any (passes Rattle.apply_model.specs.Script.Outcome.has_too_many_provisioners) outcomes) (TooManyProvisioners n) _ long.1 in
    let loud = not_refused (list_any (passes Rattle.apply_model.specs.Script.Outcome.has_too_much_output) outcomes) (TooMuchOutput n) _ wide.1 in
    let misplaced = not_refused (list_any (misplaces_provisioners deposed) (zip (enumerate_from 0 kinds) outcomes)) (NotACreate n) _ loud.1 in
    let warns = not_refused (list_any warns_not_a_read (zip (enumerate_from 0 kinds) outcomes)) (WarnsNotARead n) _ misplaced.1 in
    let sound = entry_sound d entry (or_refuse_ok (BadShape (Some n)) (entry_of d) entry formed.1) in
    subst (Suits changes) clear.1 (record {
      change = located.1;
      is = stands;
      each = λ k kind outcome kind_is outcome_is.
          let step = step_at changes entry.steps k outcome outcome_is in
          let stated = answered step.0.outcome (filter_map (step_waited changes) step.0.after) outcome step.2 in
          let here : slice_get outcomes k ≡ Some (Some stated.0) = mapped_at (λ (x : EntryStep). x.outcome) entry.steps k step.0 step.1 ∙ ap (λ (o : Option Outcome). Some o) stated.1 in
          let place = placed deposed 0 k kinds outcomes kind stated.0 misplaced.0 warns.0 kind_is here in
          let number : 0 + k ≡ k = omega arith in
          let is_sound = if_some IsSound step.0.outcome stated.0 stated.1 (held_at (λ (x : EntryStep). IfSome x.outcome IsSound) entry.steps k step.0 sound step.1) in
          subst (λ (o : Outcome). IsSound o × IsPlaced deposed k kind o) stated.2
          (sound_with _ stated.0 is_sound, placed_with _ deposed k kind stated.0 (subst (λ (i : ℕ). IsPlaced deposed i kind stated.0) number place));
      within = said_is_within n changes (sum_by count_in before) located.1 entry.steps clear.0;
    })

-- ---- all entries

pub all_answered : {X Y F : Type 0} (P : Y → Type 0) (f : X → Result Y F) (xs : List X) (ys : List Y) → ((x : X) (y : Y) → f x ≡ Ok y → P y) → all_or_first (map f xs) ≡ Ok ys → AllByRecursion P ys
all_answered P f [] ys holds e = subst (AllByRecursion P) (ok_is [] ys e) tt
all_answered P f (x ∷ xs) ys holds e =
    let first = bind_ok (f x) _ ys e in
    let others = bind_ok (all_or_first (map f xs)) (λ rest. done (first.0 ∷ rest)) ys first.2 in
    subst (AllByRecursion P) (ok_is (first.0 ∷ others.0) ys others.2) (holds x first.0 first.1, all_answered P f xs others.0 holds others.1)

entry_of_change : (P : ResolvedEntry → Type 0) (entries : List ResolvedEntry) (c : ℕ) (steps : List ScriptStep) → AllByRecursion P entries → outcomes_of entries c ≡ Some steps → (one : ResolvedEntry) × P one × (one.change ≡ c) × (one.steps ≡ steps)
entry_of_change P [] c steps all e = absurd cc
entry_of_change P (x ∷ entries) c steps all e = ⊎_elim
    (λ (same : ((x.change == c) ≡ true) × (x.change ≡ c)).
    (x, all.0, same.1, same_Some x.steps steps (sym (ap (λ (b : Bool). option_map (λ (y : ResolvedEntry). y.steps) (cond b (Some x) (find (λ (y : ResolvedEntry). y.change == c) entries))) same.0) ∙ e)))
    (λ (other : ((x.change == c) ≡ false) × (x.change ≢ c)).
    entry_of_change P entries c steps all.1 (sym (ap (λ (b : Bool). option_map (λ (y : ResolvedEntry). y.steps) (cond b (Some x) (find (λ (y : ResolvedEntry). y.change == c) entries))) other.0) ∙ e))
    (eqb_tells x.change c)

default_sound : IsSound default_outcome
default_sound = record { provisioners = tt; has_id = tt; fails_alone = λ yes. refl }

default_bounded : IsBounded default_outcome
default_bounded = record { short = omega arith; few_provisioners = omega arith; little_output = λ k d below. absurd (omega arith); few_waits = omega arith }

pub default_of_step : (change : ResourceChange) (k : ℕ) (kind : StepKind) → IsOfStep change k kind default_outcome
default_of_step change k kind = record { bounded = default_bounded; sound = default_sound; only_reads_warn = λ yes. absurd cc; provisioned = λ some. absurd (omega arith) }

module _ (changes : List ResourceChange) (entries : List ResolvedEntry) (suit : AllByRecursion (Suits changes) entries) where
  abbrev script : OutcomeMap
  script = by_number (length changes) entries

  stated_within : AllResolved (All IsWithin) entries
  stated_within number = of_stated (outcomes_of entries number) refl
    where
      of_stated : (o : Option (List ScriptStep)) → outcomes_of entries number ≡ o → IfSome o (All IsWithin)
      of_stated None is = tt
      of_stated (Some steps) is =
          let one = entry_of_change (Suits changes) entries number steps suit is in
          subst (All IsWithin) one.3 one.1.within

  in_range : IsInRange script
  in_range = is_in_range (length changes) entries stated_within

  of_step : (c k : ℕ) (change : ResourceChange) (kind : StepKind) → slice_get changes c ≡ Some change → slice_get change.steps k ≡ Some kind → (o : Option ScriptStep)
      → option_and_then (λ (steps : List ScriptStep). slice_get steps k) (outcomes_of entries c) ≡ o → IfSome (option_and_then answer_to o) IsBounded → IsOfStep change k kind (unwrap_or (option_and_then answer_to o) default_outcome)
  of_step c k change kind at kind_is None is bounded = default_of_step change k kind
  of_step c k change kind at kind_is (Some (Skipped after)) is bounded = default_of_step change k kind
  of_step c k change kind at kind_is (Some (Answered outcome)) is bounded = of_stated (outcomes_of entries c) refl is
    where
      of_stated : (o : Option (List ScriptStep)) → outcomes_of entries c ≡ o → option_and_then (λ (steps : List ScriptStep). slice_get steps k) o ≡ Some (Answered outcome) → IsOfStep change k kind outcome
      of_stated None are e = absurd cc
      of_stated (Some steps) are e =
          let one = entry_of_change (Suits changes) entries c steps suit are in
          let suits = one.1 in
          let same : suits.change ≡ change = same_Some suits.change change (sym suits.is ∙ ap (slice_get changes) one.2 ∙ at) in
          let both = suits.each k kind outcome (ap (λ (x : ResourceChange). slice_get x.steps k) same ∙ kind_is) (ap (λ (l : List ScriptStep). slice_get l k) one.3 ∙ e) in
          let place = subst (λ (x : ResourceChange). IsPlaced (is_some x.deposed) k kind outcome) same both.1 in
          record { bounded = bounded; sound = both.0; only_reads_warn = place.only_reads_warn; provisioned = place.provisioned }

  pub all_of_steps : (c k : ℕ) (change : ResourceChange) (kind : StepKind) → slice_get changes c ≡ Some change → slice_get change.steps k ≡ Some kind → IsOfStep change k kind (outcome_of script c k)
  all_of_steps c k change kind at kind_is =
      let below = slice_get_within changes c change at in
      let given : stated_step script c k ≡ option_and_then (λ (steps : List ScriptStep). slice_get steps k) (outcomes_of entries c) =
      ap (λ (stated : Option (List ScriptStep)). option_and_then (λ (steps : List ScriptStep). slice_get steps k) stated) (at_number (length changes) entries c below) in
      subst (λ (o : Option ScriptStep). IsOfStep change k kind (unwrap_or (option_and_then answer_to o) default_outcome)) (sym given)
      (of_step c k change kind at kind_is _ refl (subst (λ (o : Option ScriptStep). IfSome (option_and_then answer_to o) IsBounded) given (in_range c k)))

-- ---- from bytes

pub read_of_steps : (plan : SavedPlan) (bytes : List ℕ) (script : OutcomeMap) (c k : ℕ) (change : ResourceChange) (kind : StepKind) → script_of plan bytes ≡ Ok script
    → slice_get plan.changes c ≡ Some change → slice_get change.steps k ≡ Some kind → IsOfStep change k kind (outcome_of script c k)
unfolding script_of script_of_tree script_of_entries
read_of_steps plan bytes script c k change kind e at kind_is =
    let small = guard_ok (nat_lt max_bytes (length bytes)) TooLarge _ script e in
    let tree = bind_ok (or_refuse NotJson (mixed_tree_of is_verbatim_name bytes)) _ script small.1 in
    let elements = bind_ok (or_refuse (BadShape None) (elements_of tree.0)) _ script tree.2 in
    let listed = bind_ok (all_or_first (each_with_earlier (entry_at plan.changes) (list_of elements.0))) _ script elements.2 in
    let made = by_number (length plan.changes) listed.0 in
    let clear = unless_refused_ok (option_map NeverBegins (position_from (is_stuck made) 0 listed.0)) made script listed.2 in
    let suit = all_answered (Suits plan.changes) (λ (p : ℕ × Data). entry_at plan.changes (take p.0 (list_of elements.0)) p.1) (enumerate_from 0 (list_of elements.0)) listed.0
    (λ p one is. entry_suits plan.changes (take p.0 (list_of elements.0)) p.1 one is) listed.1 in
    subst (λ (s : OutcomeMap). IsOfStep change k kind (outcome_of s c k)) clear.1 (all_of_steps plan.changes listed.0 suit c k change kind at kind_is)
