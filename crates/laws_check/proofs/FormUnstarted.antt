-- The creates that never start, counted change by change.
use Rattle.std.proofs.Common.{◌≡◌, ℕ, zero, suc, ◌+◌, ◌<◌, ◌≤◌, List, [], ◌∷◌, cond, count_by, flat_map, length, Bool, true, false, Option, Some, None, refl, sym, ap, ◌∙◌, subst, ⊎_elim, slice_get, arith, eq-eqb}
use Rattle.std.specs.Prelude.{◌&&◌, ◌==◌}
use Rattle.std.specs.List.{enumerate_from}
use Rattle.std.specs.Option.{option_map_or}
use Rattle.std.specs.Str.{bytes_eq}
use Rattle.std.proofs.lemmas.Bool.{and_parts, cases_Bool, eqb-true, or_parts}
use Rattle.std.proofs.lemmas.List.Sums.{sum_by-append, sum_by-cons}
use Rattle.std.proofs.lemmas.Option.{slice_get_within}
use Rattle.std.proofs.lemmas.Slice.Eq.{bytes_eq-Decides}
use Rattle.apply_model.specs.declared.details.change_details.ChangeDetails.{ChangeDetails}
use Rattle.apply_model.specs.declared.plan.step_kind.StepKind.{StepKind}
use Rattle.apply_model.specs.declared.plan.step_kind.StepKind.TheVariants.{Create, Update, Delete, Read}
use Rattle.apply_model.specs.declared.script.outcome.Outcome.{Outcome}
use Rattle.apply_model.specs.declared.script.wait.Wait.{Wait}
use Rattle.apply_model.specs.Plan.ResourceChange.{ResourceChange}
use Rattle.apply_model.specs.Plan.SavedPlan.{SavedPlan}
use Rattle.apply_model.specs.Script.OutcomeMap.{OutcomeMap, outcome_of}
use Rattle.apply_events.specs.declared.event.Event.{Event}
use Rattle.apply_events.specs.declared.what.What.{What}
use Rattle.apply_events.specs.declared.what.What.TheVariants.{Start, Progress, Complete, Errored, ErrorNote, WarnNote, Halted, ProvisionStart, ProvisionOutput, ProvisionComplete, ProvisionErrored}
use Rattle.apply_events.specs.Step.{Work, address_of, kinds_of}
use Rattle.apply_text.specs.Order.{as_written}
use Rattle.apply_text_terraform.specs.Details.{planned_word}
use Rattle.apply_text_terraform.specs.Message.{is_silent}
use Rattle.stream_check.specs.declared.messages.action.Action.TheVariants as action
use Rattle.stream_check.specs.Intents.{creates}
use Rattle.stream_check.specs.Message.{Message, intent_named, planned}
use Rattle.stream_check.specs.Tally.{plans_create}
use Rattle.stream_check.specs.Words.{same_action}
use Rattle.laws_run.specs.ChangesUnderWay.{is_start}
use Rattle.laws_run.specs.WaitingSteps.{is_of_step}
use Rattle.laws_check.specs.Plans.{ChangesAreWhole, IsChange}
use Rattle.laws_check.specs.ReadBack.{action_of}
use Rattle.laws_check.specs.ReadBackInForm.{event_read_back_in_form, planned_read_back, planned_read_back_at, read_back_in_form}
use Rattle.laws_check.specs.Unstarted.{NeverStarts, has_started}
use Rattle.laws_check.specs.WholeSteps.{events_of_change}
use Rattle.laws_check.proofs.ChangeSums.{by_changes, by_elements, count_here, smaller_found, smaller_sum, total, total_same, verbatim_or_none}
use Rattle.laws_check.proofs.Errors.{AreParts}
use Rattle.laws_check.proofs.FormCounts.{change_starts, does_so, starts_as}
use Rattle.laws_check.proofs.FormPlans.{one_at_most, planned_of_change}
use Rattle.laws_check.proofs.FormRuns.{spoken}
use Rattle.laws_check.proofs.FormUnbegun.{plans_here, starts_here}
use Rattle.laws_check.proofs.Ordinary.{address_is, located}
use Rattle.laws_check.proofs.Parts.{Each}
use Rattle.laws_check.proofs.Tallies.{count_written}

-- ---- steps of one change

abbrev creates_in : List StepKind → ℕ
creates_in kinds = count_by (does_so action.Create) kinds

is_create : (x : StepKind) → does_so action.Create x ≡ true → x ≡ Create
is_create Create e = refl
is_create Update e = absurd cc
is_create Delete e = absurd cc
is_create Read e = absurd cc

create_found : (kinds : List StepKind) → 1 ≤ creates_in kinds → (k : ℕ) × (slice_get kinds k ≡ Some Create)
create_found [] some = absurd (omega arith)
create_found (x ∷ xs) some =
    ⊎_elim
    (λ (yes : does_so action.Create x ≡ true). (0, ap Some (is_create x yes)))
    (λ (no : does_so action.Create x ≡ false).
    let all = sum_by-cons (λ y. cond (does_so action.Create y) 1 0) x xs in
    let here : cond {A = ℕ} (does_so action.Create x) 1 0 ≡ 0 = ap (λ (b : Bool). cond b 1 0) no in
    let rest = create_found xs (omega arith) in
    (suc rest.0, rest.1))
    (cases_Bool (does_so action.Create x))

create_counts : (kinds : List StepKind) (k : ℕ) → slice_get kinds k ≡ Some Create → 1 ≤ creates_in kinds
create_counts [] k is = absurd cc
create_counts (x ∷ xs) zero is =
    let all = sum_by-cons (λ y. cond (does_so action.Create y) 1 0) x xs in
    let same : x ≡ Create = cc in
    let here : cond {A = ℕ} (does_so action.Create x) 1 0 ≡ 1 = ap (λ (y : StepKind). cond (does_so action.Create y) 1 0) same in
    omega arith
create_counts (x ∷ xs) (suc k) is =
    let all = sum_by-cons (λ y. cond (does_so action.Create y) 1 0) x xs in
    let rest = create_counts xs k is in
    omega arith

one_create : (kinds : List StepKind) (i j : ℕ) → creates_in kinds ≤ 1 → slice_get kinds i ≡ Some Create → slice_get kinds j ≡ Some Create → i ≡ j
one_create [] i j few one other = absurd cc
one_create (x ∷ xs) zero zero few one other = refl
one_create (x ∷ xs) zero (suc j) few one other =
    let all = sum_by-cons (λ y. cond (does_so action.Create y) 1 0) x xs in
    let same : x ≡ Create = cc in
    let here : cond {A = ℕ} (does_so action.Create x) 1 0 ≡ 1 = ap (λ (y : StepKind). cond (does_so action.Create y) 1 0) same in
    let more = create_counts xs j other in
    absurd (omega arith)
one_create (x ∷ xs) (suc i) zero few one other =
    let all = sum_by-cons (λ y. cond (does_so action.Create y) 1 0) x xs in
    let same : x ≡ Create = cc in
    let here : cond {A = ℕ} (does_so action.Create x) 1 0 ≡ 1 = ap (λ (y : StepKind). cond (does_so action.Create y) 1 0) same in
    let more = create_counts xs i one in
    absurd (omega arith)
one_create (x ∷ xs) (suc i) (suc j) few one other =
    let all = sum_by-cons (λ y. cond (does_so action.Create y) 1 0) x xs in
    ap suc (one_create xs i j (omega arith) one other)

-- ---- a create that starts, among the events of its change

module _ (plan : SavedPlan) (c k : ℕ) (does : slice_get (kinds_of plan c) k ≡ Some Create) where
  abbrev name : Wait
  name = record { change = c; step = k }

  abbrev starts : List Event → ℕ
  starts es = count_by (starts_as plan action.Create) (events_of_change c es)

  started_so : (e : Event) → e.change ≡ c → e.step ≡ k → is_start e.what ≡ true → starts_as plan action.Create e ≡ true
  started_so e change step is =
      let kind : slice_get (kinds_of plan e.change) e.step ≡ Some Create = ap (λ (d : ℕ). slice_get (kinds_of plan d) e.step) change ∙ ap (slice_get (kinds_of plan c)) step ∙ does in
      rw (is, kind) refl

  start_counts : (es : List Event) → has_started es name ≡ true → 1 ≤ starts es
  start_counts [] is = absurd cc
  start_counts (e ∷ es) is =
      let all = count_here (starts_as plan action.Create) c e es in
      ⊎_elim
      (λ (yes : (is_of_step name e && is_start e.what) ≡ true).
      let parts = and_parts (is_of_step name e) (is_start e.what) yes in
      let named = and_parts (e.change == c) (e.step == k) parts.0 in
      let begun = started_so e (eqb-true e.change c named.0) (eqb-true e.step k named.1) parts.1 in
      let here : cond {A = ℕ} (e.change == c) (cond (starts_as plan action.Create e) 1 0) 0 ≡ 1 = ap (λ (b : Bool). cond b (cond (starts_as plan action.Create e) 1 0) 0) named.0 ∙ ap (λ (b : Bool). cond b 1 0) begun in
      omega arith)
      (λ (no : (is_of_step name e && is_start e.what) ≡ false).
      let later : has_started es name ≡ true = rw no at is in
      let rest = start_counts es later in
      omega arith)
      (cases_Bool (is_of_step name e && is_start e.what))

  module _ (few : creates_in (kinds_of plan c) ≤ 1) where
    none_of_one : (e : Event) → (is_of_step name e && is_start e.what) ≡ false → cond {A = ℕ} (e.change == c) (cond (starts_as plan action.Create e) 1 0) 0 ≡ 0
    none_of_one e apart =
        ⊎_elim
        (λ (here : (e.change == c) ≡ true).
        ⊎_elim
        (λ (begun : starts_as plan action.Create e ≡ true).
        let parts = and_parts (is_start e.what) (option_map_or (λ kind. same_action (action_of kind) action.Create) (slice_get (kinds_of plan e.change) e.step) false) begun in
        let kind : slice_get (kinds_of plan c) e.step ≡ Some Create = ap (λ (d : ℕ). slice_get (kinds_of plan d) e.step) (sym (eqb-true e.change c here)) ∙ a_create (slice_get (kinds_of plan e.change) e.step) parts.1 in
        let same : e.step ≡ k = one_create (kinds_of plan c) e.step k few kind does in
        absurd (both e here same parts.0 apart))
        (λ (not : starts_as plan action.Create e ≡ false). rw (here, not) refl)
        (cases_Bool (starts_as plan action.Create e)))
        (λ (elsewhere : (e.change == c) ≡ false). rw elsewhere refl)
        (cases_Bool (e.change == c))
      where
        a_create : (o : Option StepKind) → option_map_or (λ kind. same_action (action_of kind) action.Create) o false ≡ true → o ≡ Some Create
        a_create None e = absurd cc
        a_create (Some kind) e = ap Some (is_create kind e)

        both : (e : Event) → (e.change == c) ≡ true → e.step ≡ k → is_start e.what ≡ true → (is_of_step name e && is_start e.what) ≡ false → ⊥
        both e change step is apart = let at : (e.step == k) ≡ true = eq-eqb e.step k step in let all : (is_of_step name e && is_start e.what) ≡ true = rw (change, at, is) refl in cc

    none_starts : (es : List Event) → has_started es name ≡ false → starts es ≡ 0
    none_starts [] none = refl
    none_starts (e ∷ es) none =
        let parts = or_parts (is_of_step name e && is_start e.what) (has_started es name) none in
        let all = count_here (starts_as plan action.Create) c e es in
        let here = none_of_one e parts.0 in
        let rest = none_starts es parts.1 in
        omega arith

-- ---- what is read back of an address

module _ (a : List ℕ) where
  bits : (x y : Bool) → cond {A = ℕ} (x && y) 1 0 + 0 ≡ cond y (cond x 1 0 + 0) 0
  bits true true = refl
  bits true false = refl
  bits false true = refl
  bits false false = refl

  -- a planned create of the address is a create of it
  planned_here : (change : ResourceChange) (o : Option ChangeDetails)
      → count_by (plans_here a) (option_map_or (planned_read_back change) o []) ≡ cond (bytes_eq change.address a) (count_by plans_create (option_map_or (planned_read_back change) o [])) 0
  planned_here change None = none (bytes_eq change.address a)
    where
      none : (b : Bool) → 0 ≡ cond {A = ℕ} b 0 0
      none true = refl
      none false = refl
  planned_here change (Some details) = of_word (planned_word change.steps details.forgets)
    where
      none : (b : Bool) → 0 ≡ cond {A = ℕ} b 0 0
      none true = refl
      none false = refl

      of_word : (o : Option (List ℕ)) → count_by (plans_here a) (option_map_or (λ word. planned (intent_named word) (Some change.address) ∷ []) o [])
          ≡ cond (bytes_eq change.address a) (count_by plans_create (option_map_or (λ word. planned (intent_named word) (Some change.address) ∷ []) o [])) 0
      of_word None = none (bytes_eq change.address a)
      of_word (Some word) =
          let m = planned (intent_named word) (Some change.address) in
          sum_by-cons (λ x. cond (plans_here a x) 1 0) m []
          ∙ bits (creates (intent_named word)) (bytes_eq change.address a)
          ∙ ap (λ (n : ℕ). cond (bytes_eq change.address a) n 0) (sym (sum_by-cons (λ x. cond (plans_create x) 1 0) m []))

  -- the message of an event that is no start
  silent : (b t u : Bool) (m : Message) → starts_here a m ≡ false → count_by (starts_here a) (cond b [] (m ∷ [])) ≡ cond (t && (false && u)) 1 0
  silent true true u m is = refl
  silent true false u m is = refl
  silent false t u m is =
      let all = sum_by-cons (λ x. cond (starts_here a x) 1 0) m [] in
      let here : cond {A = ℕ} (starts_here a m) 1 0 ≡ 0 = ap (λ (b : Bool). cond b 1 0) is in
      let none : count_by (starts_here a) [] ≡ 0 = refl in
      let zero_here : count_by (starts_here a) (m ∷ []) ≡ 0 = omega arith in
      zero_here ∙ no_bit t
    where
      no_bit : (t : Bool) → 0 ≡ cond {A = ℕ} (t && false) 1 0
      no_bit true = refl
      no_bit false = refl

  -- the start of a create at the address, from its event
  starts_read : (change : ResourceChange) (does : StepKind) (outcome : Outcome) (what : What)
      → count_by (starts_here a) (cond (is_silent does what) [] (read_back_in_form change does outcome what ∷ [])) ≡ cond (bytes_eq change.address a && (is_start what && same_action (action_of does) action.Create)) 1 0
  starts_read change does outcome Start =
      ap (λ (b : Bool). count_by (starts_here a) (cond b [] (read_back_in_form change does outcome Start ∷ []))) (spoken does Start refl) ∙ told does (bytes_eq change.address a) refl
    where
      told : (does : StepKind) (b : Bool) → bytes_eq change.address a ≡ b → count_by (starts_here a) (read_back_in_form change does outcome Start ∷ []) ≡ cond (b && (true && same_action (action_of does) action.Create)) 1 0
      told Create true is = rw is refl
      told Create false is = rw is refl
      told Update true is = refl
      told Update false is = refl
      told Delete true is = refl
      told Delete false is = refl
      told Read true is = refl
      told Read false is = refl
  starts_read change does outcome (Progress s) = silent (is_silent does (Progress s)) (bytes_eq change.address a) (same_action (action_of does) action.Create) (read_back_in_form change does outcome (Progress s)) refl
  starts_read change does outcome (Complete s) = silent (is_silent does (Complete s)) (bytes_eq change.address a) (same_action (action_of does) action.Create) (read_back_in_form change does outcome (Complete s)) refl
  starts_read change does outcome (Errored s) = silent (is_silent does (Errored s)) (bytes_eq change.address a) (same_action (action_of does) action.Create) (read_back_in_form change does outcome (Errored s)) refl
  starts_read change does outcome ErrorNote = silent (is_silent does ErrorNote) (bytes_eq change.address a) (same_action (action_of does) action.Create) (read_back_in_form change does outcome ErrorNote) refl
  starts_read change does outcome WarnNote = silent (is_silent does WarnNote) (bytes_eq change.address a) (same_action (action_of does) action.Create) (read_back_in_form change does outcome WarnNote) refl
  starts_read change does outcome (Halted phase hook) = silent (is_silent does (Halted phase hook)) (bytes_eq change.address a) (same_action (action_of does) action.Create) (read_back_in_form change does outcome (Halted phase hook)) refl
  starts_read change does outcome (ProvisionStart i) = silent (is_silent does (ProvisionStart i)) (bytes_eq change.address a) (same_action (action_of does) action.Create) (read_back_in_form change does outcome (ProvisionStart i)) refl
  starts_read change does outcome (ProvisionOutput i line) = silent (is_silent does (ProvisionOutput i line)) (bytes_eq change.address a) (same_action (action_of does) action.Create) (read_back_in_form change does outcome (ProvisionOutput i line)) refl
  starts_read change does outcome (ProvisionComplete i) = silent (is_silent does (ProvisionComplete i)) (bytes_eq change.address a) (same_action (action_of does) action.Create) (read_back_in_form change does outcome (ProvisionComplete i)) refl
  starts_read change does outcome (ProvisionErrored i) = silent (is_silent does (ProvisionErrored i)) (bytes_eq change.address a) (same_action (action_of does) action.Create) (read_back_in_form change does outcome (ProvisionErrored i)) refl

  none_of_two : (x y : Bool) → 0 ≡ cond {A = ℕ} (x && (y && false)) 1 0
  none_of_two true true = refl
  none_of_two true false = refl
  none_of_two false y = refl

  module _ (plan : SavedPlan) (script : OutcomeMap) where
    abbrev starts_at : Event → Bool
    starts_at e = bytes_eq (address_of plan e.change) a && starts_as plan action.Create e

    one_started : (e : Event) → count_by (starts_here a) (event_read_back_in_form plan script e) ≡ cond (starts_at e) 1 0
    one_started e = of_change (slice_get plan.changes e.change)
      where
        of_step : (change : ResourceChange) (o : Option StepKind)
            → count_by (starts_here a) (option_map_or (λ does. cond (is_silent does e.what) [] (read_back_in_form change does (outcome_of script e.change e.step) e.what ∷ [])) o [])
            ≡ cond (bytes_eq change.address a && (is_start e.what && option_map_or (λ does. same_action (action_of does) action.Create) o false)) 1 0
        of_step change None = none_of_two (bytes_eq change.address a) (is_start e.what)
        of_step change (Some does) = starts_read change does (outcome_of script e.change e.step) e.what

        of_change : (o : Option ResourceChange)
            → count_by (starts_here a) (option_map_or (λ (change : ResourceChange). option_map_or (λ does. cond (is_silent does e.what) [] (read_back_in_form change does (outcome_of script e.change e.step) e.what ∷ [])) (slice_get change.steps e.step) []) o [])
            ≡ cond (bytes_eq (option_map_or (λ (change : ResourceChange). change.address) o []) a && (is_start e.what && option_map_or (λ does. same_action (action_of does) action.Create) (slice_get (option_map_or (λ (change : ResourceChange). change.steps) o []) e.step) false)) 1 0
        of_change None = none_of_two (bytes_eq [] a) (is_start e.what)
        of_change (Some change) = of_step change (slice_get change.steps e.step)

    all_started : (es : List Event) → count_by (starts_here a) (flat_map (event_read_back_in_form plan script) es) ≡ count_by starts_at es
    all_started [] = refl
    all_started (e ∷ es) =
        let rest = all_started es in
        let here = one_started e in
        let both = sum_by-append (λ m. cond (starts_here a m) 1 0) (event_read_back_in_form plan script e) (flat_map (event_read_back_in_form plan script) es) in
        let first = sum_by-cons (λ x. cond (starts_at x) 1 0) e es in
        omega arith

-- ---- all changes

module _ (work : Work) (details : List ChangeDetails) (events : List Event) (whole : ChangesAreWhole work.plan) (as_many : length details ≡ length work.plan.changes)
    (within : Each (λ e. e.change < length work.plan.changes) events) (parts : AreParts work (length work.plan.changes) events) (a : List ℕ) where
  abbrev keep : ℕ → Bool
  keep c = bytes_eq (address_of work.plan c) a

  abbrev planned_at : ℕ → ℕ
  planned_at c = cond (keep c) (creates_in (kinds_of work.plan c)) 0

  abbrev started_at : ℕ → ℕ
  started_at c = cond (keep c) (count_by (starts_as work.plan action.Create) (events_of_change c events)) 0

  planned_sum : count_by (plans_here a) (flat_map (planned_read_back_at details) (enumerate_from 0 work.plan.changes)) ≡ total 0 (length work.plan.changes) planned_at
  planned_sum =
      by_elements (plans_here a) (planned_read_back_at details) planned_at 0 work.plan.changes
      (λ i change is.
      let same : i ≡ 0 + i = omega arith in
      let at : IsChange work.plan (0 + i) change = subst (λ (c : ℕ). IsChange work.plan c change) same is in
      planned_here a change (slice_get details (0 + i))
      ∙ ap (λ (b : List ℕ). cond (bytes_eq b a) (count_by plans_create (planned_read_back_at details (0 + i, change))) 0) (sym (address_is work.plan (0 + i) change at))
      ∙ ap (λ (n : ℕ). cond (keep (0 + i)) n 0) (planned_of_change work.plan details whole as_many (0 + i) change at).creates)

  started_sum : count_by (starts_here a) (flat_map (event_read_back_in_form work.plan work.script) (as_written events)) ≡ total 0 (length work.plan.changes) started_at
  started_sum =
      all_started a work.plan work.script (as_written events)
      ∙ count_written (starts_at a work.plan work.script) events
      ∙ by_changes (starts_at a work.plan work.script) (length work.plan.changes) events within
      ∙ total_same 0 (length work.plan.changes) _ started_at (λ c. verbatim_or_none keep c (starts_as work.plan action.Create) events)

  few_creates : (c : ℕ) → creates_in (kinds_of work.plan c) ≤ 1
  few_creates c = of_change (slice_get work.plan.changes c) refl
    where
      of_change : (o : Option ResourceChange) → slice_get work.plan.changes c ≡ o → creates_in (option_map_or (λ (change : ResourceChange). change.steps) (slice_get work.plan.changes c) []) ≤ 1
      of_change None is = rw is (omega arith)
      of_change (Some change) is = rw is (one_at_most action.Create change.steps (whole c change is))

  none_more : (c : ℕ) → 0 ≤ c → c < 0 + length work.plan.changes → started_at c ≤ planned_at c
  none_more c above below = of (keep c)
    where
      of : (b : Bool) → cond b (count_by (starts_as work.plan action.Create) (events_of_change c events)) 0 ≤ cond b (creates_in (kinds_of work.plan c)) 0
      of true = change_starts work action.Create c (events_of_change c events) (parts c (omega arith))
      of false = omega arith

  -- a create of the address that never starts is one that waits
  pub unstarted_waits : NeverStarts work.plan events a
      → count_by (starts_here a) (flat_map (event_read_back_in_form work.plan work.script) (as_written events)) < count_by (plans_here a) (flat_map (planned_read_back_at details) (enumerate_from 0 work.plan.changes))
  unstarted_waits never =
      let c = never.0 in
      let change = located (slice_get work.plan.changes c) never.1 Create never.2 in
      let inside : c < length work.plan.changes = slice_get_within work.plan.changes c change.0 change.1 in
      let kept : keep c ≡ true = (bytes_eq-Decides (address_of work.plan c) a).1 never.3 in
      let some = create_counts (kinds_of work.plan c) never.1 never.2 in
      let none = none_starts work.plan c never.1 never.2 (few_creates c) events never.4 in
      let less : started_at c < planned_at c = rw kept (omega arith) in
      let sums = smaller_sum 0 (length work.plan.changes) started_at planned_at c none_more (omega arith) (omega arith) less in
      let one = started_sum in
      let other = planned_sum in
      omega arith

  -- and one that waits never starts
  pub waits_unstarted : count_by (starts_here a) (flat_map (event_read_back_in_form work.plan work.script) (as_written events)) < count_by (plans_here a) (flat_map (planned_read_back_at details) (enumerate_from 0 work.plan.changes))
      → NeverStarts work.plan events a
  waits_unstarted less =
      let one = started_sum in
      let other = planned_sum in
      let found = smaller_found 0 (length work.plan.changes) started_at planned_at (omega arith) in
      of_change found.0 (keep found.0) refl found.3
    where
      of_change : (c : ℕ) (b : Bool) → keep c ≡ b → cond b (count_by (starts_as work.plan action.Create) (events_of_change c events)) 0 < cond b (creates_in (kinds_of work.plan c)) 0 → NeverStarts work.plan events a
      of_change c false is fewer = absurd (omega arith)
      of_change c true is fewer =
          let few = few_creates c in
          let create = create_found (kinds_of work.plan c) (omega arith) in (
            c,
            create.0,
            create.1,
            (bytes_eq-Decides (address_of work.plan c) a).0 is,
            ⊎_elim
                (λ (yes : has_started events (record { change = c; step = create.0 }) ≡ true). let some = start_counts work.plan c create.0 create.1 events yes in absurd (omega arith))
                (λ (no : has_started events (record { change = c; step = create.0 }) ≡ false). no)
                (cases_Bool (has_started events (record { change = c; step = create.0 }))),
          )
