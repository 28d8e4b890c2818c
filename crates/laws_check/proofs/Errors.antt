-- A stream has an error if and only if a step failed or was halted.
use Rattle.std.proofs.Common.{All, ◌≡◌, ⊎_elim, ℕ, zero, suc, ◌+◌, ◌<◌, ◌≤◌, List, [], ◌∷◌, ◌++◌, map, filter, Bool, true, false, cond, not, Option, Some, None, refl, sym, ap, ap₂, ◌∙◌, subst, slice_get, count_by, option_map, option_to_list, arith, lt-ltb}
use Rattle.std.specs.Prelude.{◌&&◌, ◌||◌, is_none, is_some, nat_lt}
use Rattle.std.specs.List.{list_any}
use Rattle.std.specs.Option.{option_map_or}
use Rattle.std.proofs.lemmas.List.Elements.{All-head, All-tail}
use Rattle.std.proofs.lemmas.List.Sums.{sum_by-append, sum_by-cons}
use Rattle.apply_model.specs.declared.plan.step_kind.StepKind.{StepKind}
use Rattle.apply_plan.specs.Plan.SavedPlan.{SavedPlan}
use Rattle.apply_plan.specs.Script.Outcome.{has_failed}
use Rattle.apply_hooks.specs.declared.phase.Phase as asked
use Rattle.apply_hooks.specs.declared.phase.Phase.TheVariants.{Pre, PostDone}
use Rattle.stream_check.specs.declared.messages.action.Action.{Action}
use Rattle.stream_check.specs.Message.{Message}
use Rattle.stream_check.specs.Tally.{is_error}
use Rattle.apply_events.specs.declared.event.Event.{Event}
use Rattle.apply_events.specs.declared.what.What.{What}
use Rattle.apply_events.specs.declared.what.What.TheVariants.{Start, Progress, Complete, Errored, ErrorNote, WarnNote, Halted, ProvisionStart, ProvisionOutput, ProvisionComplete, ProvisionErrored}
use Rattle.apply_events.specs.Diagnostics.{is_note}
use Rattle.apply_events.specs.Step.{Step, Work, address_of, kinds_of, steps_of}
use Rattle.apply_events.specs.StepEvents.{between, end_of, endings, event, goes_on, halts, notes, phase_after, seconds_of, start_events, step_events, emits_end}
use Rattle.apply_events.specs.Totals.{is_errored, is_halted, totals_of}
use Rattle.apply_events.proofs.Provisions.{all_along}
use Rattle.apply_text.specs.Order.{as_written, hook_messages_of, notes_of}
use Rattle.laws_check.specs.ReadBack.{action_of, events_read_back, read_back}
use Rattle.laws_check.specs.WholeSteps.{AreOfSteps, events_of_change}
use Rattle.laws_check.proofs.ChangeSums.{as_many_filtered, by_changes, ones, total_most}
use Rattle.laws_check.proofs.Parts.{Each}

abbrev pub is_error_note : What → Bool
is_error_note Start = false
is_error_note (Progress seconds) = false
is_error_note (Complete seconds) = false
is_error_note (Errored seconds) = false
is_error_note ErrorNote = true
is_error_note WarnNote = false
is_error_note (Halted phase hook) = false
is_error_note (ProvisionStart i) = false
is_error_note (ProvisionOutput i line) = false
is_error_note (ProvisionComplete i) = false
is_error_note (ProvisionErrored i) = false

-- ---- tests of lists

or_assoc : (a b c : Bool) → (a || (b || c)) ≡ ((a || b) || c)
or_assoc true b c = refl
or_assoc false b c = refl

or_true : (a : Bool) → (a || true) ≡ true
or_true true = refl
or_true false = refl

or_swap : (a b c d : Bool) → ((a || b) || (c || d)) ≡ ((a || c) || (b || d))
or_swap true b c d = refl
or_swap false true true d = refl
or_swap false true false d = refl
or_swap false false c d = refl

pub any_both : {X : Type 0} (p : X → Bool) (xs ys : List X) → list_any p (xs ++ ys) ≡ (list_any p xs || list_any p ys)
any_both p [] ys = refl
any_both p (x ∷ xs) ys = ap (λ (b : Bool). p x || b) (any_both p xs ys) ∙ or_assoc (p x) (list_any p xs) (list_any p ys)

any_either : {X : Type 0} (p q : X → Bool) (xs : List X) → list_any (λ x. p x || q x) xs ≡ (list_any p xs || list_any q xs)
any_either p q [] = refl
any_either p q (x ∷ xs) = ap (λ (b : Bool). (p x || q x) || b) (any_either p q xs) ∙ or_swap (p x) (q x) (list_any p xs) (list_any q xs)

pub any_counted : {X : Type 0} (p : X → Bool) (xs : List X) → list_any p xs ≡ nat_lt 0 (count_by p xs)
any_counted p [] = refl
any_counted p (x ∷ xs) = at (p x) refl (any_counted p xs)
  where
    at : (b : Bool) → p x ≡ b → list_any p xs ≡ nat_lt 0 (count_by p xs) → (p x || list_any p xs) ≡ nat_lt 0 (count_by p (x ∷ xs))
    at true is rest =
        let all = sum_by-cons (λ y. cond (p y) 1 0) x xs in
        let one : cond {A = ℕ} (p x) 1 0 ≡ 1 = ap (λ (b : Bool). cond b 1 0) is in
        ap (λ (b : Bool). b || list_any p xs) is ∙ sym (lt-ltb 0 (count_by p (x ∷ xs)) (omega arith))
    at false is rest =
        let all = sum_by-cons (λ y. cond (p y) 1 0) x xs in
        let none : cond {A = ℕ} (p x) 1 0 ≡ 0 = ap (λ (b : Bool). cond b 1 0) is in
        let same : count_by p xs ≡ count_by p (x ∷ xs) = omega arith in
        ap (λ (b : Bool). b || list_any p xs) is ∙ rest ∙ ap (nat_lt 0) same

any_filtered : {X : Type 0} (p t : X → Bool) (xs : List X) → (list_any p (filter (λ x. not (t x)) xs) || list_any p (filter t xs)) ≡ list_any p xs
any_filtered p t [] = refl
any_filtered p t (x ∷ xs) = at (t x) (any_filtered p t xs)
  where
    at : (b : Bool) → (list_any p (filter (λ y. not (t y)) xs) || list_any p (filter t xs)) ≡ list_any p xs
        → (list_any p (cond (not b) (x ∷ filter (λ y. not (t y)) xs) (filter (λ y. not (t y)) xs)) || list_any p (cond b (x ∷ filter t xs) (filter t xs))) ≡ (p x || list_any p xs)
    at true rest = swapped (list_any p (filter (λ y. not (t y)) xs)) (p x) (list_any p (filter t xs)) ∙ ap (λ (b : Bool). p x || b) rest
      where
        swapped : (a b c : Bool) → (a || (b || c)) ≡ (b || (a || c))
        swapped true true c = refl
        swapped true false c = refl
        swapped false b c = refl
    at false rest = sym (or_assoc (p x) (list_any p (filter (λ y. not (t y)) xs)) (list_any p (filter t xs))) ∙ ap (λ (b : Bool). p x || b) rest

pub any_written : (p : Event → Bool) (es : List Event) → list_any p (as_written es) ≡ list_any p es
any_written p es = any_both p (hook_messages_of es) (notes_of es) ∙ any_filtered p (λ (e : Event). is_note e.what) es

-- ---- a change

abbrev noted : Event → Bool
noted e = is_error_note e.what

abbrev failed : Event → Bool
failed e = is_errored e.what

module _ (w : ℕ) (s : Step) where
  alone : (p : What → Bool) (at : ℕ) (what : What) → count_by (λ (e : Event). p e.what) (event w s at what ∷ []) ≡ cond (p what) 1 0
  alone p at what =
      let all = sum_by-cons (λ (e : Event). cond (p e.what) 1 0) (event w s at what) [] in
      let none : count_by (λ (e : Event). p e.what) [] ≡ 0 = refl in
      omega arith

  two : (p : What → Bool) (at : ℕ) (what other : What) → count_by (λ (e : Event). p e.what) (event w s at what ∷ event w s at other ∷ []) ≡ cond (p what) 1 0 + cond (p other) 1 0
  two p at what other =
      let all = sum_by-cons (λ (e : Event). cond (p e.what) 1 0) (event w s at what) (event w s at other ∷ []) in
      let last = alone p at other in
      omega arith

  -- how many events are neither the start, nor a halt, nor between the start and the end
  module _ (p : What → Bool) (start : p Start ≡ false) (halted : (phase : asked.Phase) (hook : ℕ) → p (Halted phase hook) ≡ false) where
    not_between : (at : ℕ) (xs : List (ℕ × What)) → All (λ x. p x.1 ≡ false) xs → count_by (λ (e : Event). p e.what) (map (λ (x : ℕ × What). event w s (at + x.0) x.1) xs) ≡ 0
    not_between at [] none = refl
    not_between at (x ∷ xs) none =
        let here : cond {A = ℕ} (p x.1) 1 0 ≡ 0 = ap (λ (b : Bool). cond b 1 0) (All-head (λ (y : ℕ × What). p y.1 ≡ false) x xs none) in
        let rest = not_between at xs (All-tail (λ (y : ℕ × What). p y.1 ≡ false) x xs none) in
        let all = sum_by-cons (λ (e : Event). cond (p e.what) 1 0) (event w s (at + x.0) x.1) (map (λ (y : ℕ × What). event w s (at + y.0) y.1) xs) in
        omega arith

    no_halt : (phase : asked.Phase) (at : ℕ) (located : Option ℕ) → count_by (λ (e : Event). p e.what) (option_to_list (option_map (λ hook. event w s at (Halted phase hook)) located)) ≡ 0
    no_halt phase at None = refl
    no_halt phase at (Some hook) = alone p at (Halted phase hook) ∙ ap (λ (b : Bool). cond b 1 0) (halted phase hook)

    at_the_end : All (λ x. p x.1 ≡ false) (between s) → (at : ℕ)
        → count_by (λ (e : Event). p e.what) (step_events w s at) ≡ cond (is_some (s.halts Pre)) 0 (count_by (λ (e : Event). p e.what) (map (λ what. event w s (at + seconds_of s) what) (endings s)))
    at_the_end along at = either (s.halts Pre)
      where
        either : (located : Option ℕ) → count_by (λ (e : Event). p e.what) (cond (is_some located) (option_to_list (option_map (λ hook. event w s at (Halted Pre hook)) located)) (start_events w s at))
            ≡ cond (is_some located) 0 (count_by (λ (e : Event). p e.what) (map (λ what. event w s (at + seconds_of s) what) (endings s)))
        either (Some hook) = no_halt Pre at (Some hook)
        either None =
            let first = event w s at Start ∷ [] in
            let middle = map (λ (x : ℕ × What). event w s (at + x.0) x.1) (between s) in
            let last = map (λ what. event w s (at + seconds_of s) what) (endings s) in
            let halt = halts w s (phase_after s.fails) (at + seconds_of s) in
            let a : count_by (λ (e : Event). p e.what) first ≡ 0 = alone p at Start ∙ ap (λ (b : Bool). cond b 1 0) start in
            let b = not_between at (between s) along in
            let c = no_halt (phase_after s.fails) (at + seconds_of s) (s.halts (phase_after s.fails)) in
            let one = sum_by-append (λ (e : Event). cond (p e.what) 1 0) first middle in
            let two = sum_by-append (λ (e : Event). cond (p e.what) 1 0) (first ++ middle) last in
            let three = sum_by-append (λ (e : Event). cond (p e.what) 1 0) ((first ++ middle) ++ last) halt in
            omega arith

  -- a failure has an end and a diagnostic
  ends_read_back : (fails warns only : Bool) (at end : ℕ) (p : What → Bool) → p (Complete end) ≡ false → p WarnNote ≡ false → cond {A = ℕ} (p (Errored end)) 1 0 + cond (p ErrorNote) 1 0 ≡ 1
      → count_by (λ (e : Event). p e.what) (map (λ what. event w s at what) (cond (emits_end fails only) (end_of fails end ∷ notes fails warns) (WarnNote ∷ []))) ≡ cond fails 1 0
  ends_read_back true warns only at end p done warned once = two p at (Errored end) ErrorNote ∙ once
  ends_read_back false warns true at end p done warned once = alone p at WarnNote ∙ ap (λ (b : Bool). cond b 1 0) warned
  ends_read_back false true false at end p done warned once = two p at (Complete end) WarnNote ∙ ap₂ (λ (b c : Bool). cond {A = ℕ} b 1 0 + cond c 1 0) done warned
  ends_read_back false false false at end p done warned once = alone p at (Complete end) ∙ ap (λ (b : Bool). cond b 1 0) done

  step_told : (p : What → Bool) → p Start ≡ false → ((phase : asked.Phase) (hook : ℕ) → p (Halted phase hook) ≡ false) → ((t : ℕ) → p (Progress t) ≡ false)
      → ((i : ℕ) → p (ProvisionStart i) ≡ false) → ((i j : ℕ) → p (ProvisionOutput i j) ≡ false) → ((i : ℕ) → p (ProvisionComplete i) ≡ false) → ((i : ℕ) → p (ProvisionErrored i) ≡ false)
      → p (Complete (seconds_of s)) ≡ false → p WarnNote ≡ false → cond {A = ℕ} (p (Errored (seconds_of s))) 1 0 + cond (p ErrorNote) 1 0 ≡ 1
      → (at : ℕ) → count_by (λ (e : Event). p e.what) (step_events w s at) ≡ cond (is_some (s.halts Pre)) 0 (cond s.fails 1 0)
  step_told p start halted goes begins puts_out completes errs done warned once at =
      at_the_end p start halted
      (all_along (λ x. p x.1 ≡ false) (seconds_of s) 0 0 s.seconds_before s.ran goes (λ i q since. begins i) (λ i q j since. puts_out i j)
      (λ i q since. elim (has_failed q) as (λ f. p (cond f (ProvisionErrored i) (ProvisionComplete i)) ≡ false) [ true ↦ errs i | false ↦ completes i ])) at
      ∙ ap (λ (n : ℕ). cond (is_some (s.halts Pre)) 0 n) (ends_read_back s.fails s.warns s.only_warns (at + seconds_of s) (seconds_of s) p done warned once)

  step_noted : (at : ℕ) → count_by noted (step_events w s at) ≡ cond (is_some (s.halts Pre)) 0 (cond s.fails 1 0)
  step_noted = step_told is_error_note refl (λ phase hook. refl) (λ t. refl) (λ i. refl) (λ i j. refl) (λ i. refl) (λ i. refl) refl refl refl

  step_failed : (at : ℕ) → count_by failed (step_events w s at) ≡ cond (is_some (s.halts Pre)) 0 (cond s.fails 1 0)
  step_failed = step_told is_errored refl (λ phase hook. refl) (λ t. refl) (λ i. refl) (λ i j. refl) (λ i. refl) (λ i. refl) refl refl refl

-- each failure has one diagnostic, and nothing begins after it
record AreNoted (es : List Event) : Type 0 where
  same : count_by noted es ≡ count_by failed es
  once : count_by failed es ≤ 1

none_noted : AreNoted []
none_noted = record { same = refl; once = omega arith }

steps_noted : (steps : List Step) (es : List Event) → AreOfSteps steps es → AreNoted es
steps_noted [] es are = subst AreNoted (sym are) none_noted
steps_noted (s ∷ steps) es are =
    ⊎_elim
    (λ (none : es ≡ []). subst AreNoted (sym none) none_noted)
    (λ (some : (w : ℕ) × (at : ℕ) × (rest : List Event) × (es ≡ step_events w s at ++ rest) × (goes_on s ≡ true → AreOfSteps steps rest) × (goes_on s ≡ false → rest ≡ [])).
    subst AreNoted (sym some.3) (others some.0 some.1 some.2 (λ on. steps_noted steps some.2 (some.4 on)) some.5 (goes_on s) refl))
    are
  where
    -- a step that goes on has not failed
    stops : (a b c : Bool) → cond {A = ℕ} b 1 0 + cond (a && not b && c) 1 0 ≤ 1
    stops true true c = omega arith
    stops false true c = omega arith
    stops true false true = omega arith
    stops true false false = omega arith
    stops false false c = omega arith

    at_most : (b : Bool) (n : ℕ) → cond b 0 n ≤ n
    at_most true n = omega arith
    at_most false n = omega arith

    others : (w at : ℕ) (rest : List Event) → (goes_on s ≡ true → AreNoted rest) → (goes_on s ≡ false → rest ≡ []) → (on : Bool) → goes_on s ≡ on → AreNoted (step_events w s at ++ rest)
    others w at rest then none on is =
        let later = of_rest on is in
        let noted_here = step_noted w s at in
        let fails = step_failed w s at in
        let all_noted = sum_by-append (λ e. cond (noted e) 1 0) (step_events w s at) rest in
        let all_fail = sum_by-append (λ e. cond (failed e) 1 0) (step_events w s at) rest in
        let no_more = at_most (is_some (s.halts Pre)) (cond s.fails 1 0) in
        let same = later.0.same in
        let few = later.1 in
        record { same = omega arith; once = omega arith }
      where
        of_rest : (on : Bool) → goes_on s ≡ on → AreNoted rest × (cond {A = ℕ} s.fails 1 0 + count_by failed rest ≤ 1)
        of_rest true on =
            let here = stops (is_none (s.halts Pre)) s.fails (is_none (s.halts PostDone)) in
            let goes : cond {A = ℕ} (is_none (s.halts Pre) && not s.fails && is_none (s.halts PostDone)) 1 0 ≡ 1 = ap (λ (b : Bool). cond b 1 0) on in
            let later = then on in
            let once = later.once in (later, omega arith)
        of_rest false off =
            let nothing : count_by failed rest ≡ 0 = ap (count_by failed) (none off) in
            let is_one : cond {A = ℕ} s.fails 1 0 ≤ 1 = elim s.fails as (λ b. cond {A = ℕ} b 1 0 ≤ 1) [ true ↦ omega arith | false ↦ omega arith ] in
            (subst AreNoted (sym (none off)) none_noted, omega arith)

-- ---- all events

-- each change has the events of its steps
abbrev pub AreParts : Work → ℕ → List Event → Type 0
AreParts work limit es = (c : ℕ) → c < limit → AreOfSteps (steps_of work c) (events_of_change c es)

module _ (work : Work) (limit : ℕ) (es : List Event) (within : Each (λ e. e.change < limit) es) (parts : AreParts work limit es) where
  noted_so : (c : ℕ) → c < limit → AreNoted (events_of_change c es)
  noted_so c less = steps_noted (steps_of work c) (events_of_change c es) (parts c less)

  -- as many error diagnostics as failures, in the changes that pass a test
  pub as_many_noted : (keep : ℕ → Bool) → count_by (λ (e : Event). keep e.change && is_error_note e.what) es ≡ count_by (λ (e : Event). keep e.change && is_errored e.what) es
  as_many_noted keep = as_many_filtered keep noted failed limit es within (λ c less. (noted_so c less).same)

  -- no more fail than there are changes
  pub few_fail : count_by (λ (e : Event). is_errored e.what) es ≤ limit
  few_fail =
      let split = by_changes failed limit es within in
      let most = total_most 0 limit (λ c. count_by failed (events_of_change c es)) (λ c. 1) (λ c above below. (noted_so c (omega arith)).once) in
      let all = ones 0 limit in
      omega arith

-- ---- what is read back

error_read_back : (a : List ℕ) (k : Action) (what : What) → is_error (read_back a k what) ≡ (is_error_note what || is_halted what)
error_read_back a k Start = refl
error_read_back a k (Progress seconds) = refl
error_read_back a k (Complete seconds) = refl
error_read_back a k (Errored seconds) = refl
error_read_back a k ErrorNote = refl
error_read_back a k WarnNote = refl
error_read_back a k (Halted phase hook) = refl
error_read_back a k (ProvisionStart i) = refl
error_read_back a k (ProvisionOutput i line) = refl
error_read_back a k (ProvisionComplete i) = refl
error_read_back a k (ProvisionErrored i) = refl

one_told : (plan : SavedPlan) (e : Event) (ms : List Message) (kind : StepKind) → slice_get (kinds_of plan e.change) e.step ≡ Some kind
    → list_any is_error (option_map_or (λ step. read_back (address_of plan e.change) (action_of step) e.what ∷ []) (slice_get (kinds_of plan e.change) e.step) [] ++ ms) ≡ ((is_error_note e.what || is_halted e.what) || list_any is_error ms)
one_told plan e ms kind lookup =
    ap (λ (o : Option StepKind). list_any is_error (option_map_or (λ step. read_back (address_of plan e.change) (action_of step) e.what ∷ []) o [] ++ ms)) lookup
    ∙ ap (λ (b : Bool). b || list_any is_error ms) (error_read_back (address_of plan e.change) (action_of kind) e.what)

abbrev pub IsPlanned : SavedPlan → Event → Type 0
IsPlanned plan e = (kind : StepKind) × (slice_get (kinds_of plan e.change) e.step ≡ Some kind)

any_error_read_back : (plan : SavedPlan) (es : List Event) → Each (IsPlanned plan) es → list_any is_error (events_read_back plan es) ≡ list_any (λ (e : Event). is_error_note e.what || is_halted e.what) es
any_error_read_back plan [] h = refl
any_error_read_back plan (e ∷ es) h = one_told plan e (events_read_back plan es) h.0.0 h.0.1 ∙ ap (λ (b : Bool). (is_error_note e.what || is_halted e.what) || b) (any_error_read_back plan es h.1)

positive : (m n : ℕ) → (nat_lt 0 m || nat_lt 0 n) ≡ nat_lt 0 (m + n)
positive zero n = ap (nat_lt 0) (let e : n ≡ 0 + n = omega arith in e)
positive (suc m) n = ap (λ (b : Bool). b || nat_lt 0 n) (lt-ltb 0 (suc m) (omega arith)) ∙ sym (lt-ltb 0 (suc m + n) (omega arith))

-- an error is noted, or a step is halted, exactly where a step failed or was halted
pub errors_counted : (work : Work) (limit : ℕ) (es : List Event) → Each (λ e. e.change < limit) es → AreParts work limit es
    → list_any (λ (e : Event). is_error_note e.what || is_halted e.what) es ≡ nat_lt 0 ((totals_of work.plan es).failed + (totals_of work.plan es).halted)
errors_counted work limit es within parts =
    any_either noted (λ (e : Event). is_halted e.what) es
    ∙ ap (λ (b : Bool). b || list_any (λ (e : Event). is_halted e.what) es) (any_counted noted es ∙ ap (nat_lt 0) (as_many_noted work limit es within parts (λ c. true)))
    ∙ ap (λ (b : Bool). nat_lt 0 (count_by failed es) || b) (any_counted (λ (e : Event). is_halted e.what) es)
    ∙ positive (count_by failed es) (count_by (λ (e : Event). is_halted e.what) es)

pub errors_read_back : (work : Work) (limit : ℕ) (es : List Event) → Each (IsPlanned work.plan) (as_written es) → Each (λ e. e.change < limit) es → AreParts work limit es
    → list_any is_error (events_read_back work.plan (as_written es)) ≡ nat_lt 0 ((totals_of work.plan es).failed + (totals_of work.plan es).halted)
errors_read_back work limit es planned within parts =
    any_error_read_back work.plan (as_written es) planned
    ∙ any_written (λ (e : Event). is_error_note e.what || is_halted e.what) es
    ∙ errors_counted work limit es within parts
