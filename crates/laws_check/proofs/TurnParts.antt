-- Each change's events in a time line are those of whole steps, one after another.
use Rattle.std.proofs.Common.{◌≡◌, ◌≢◌, ◌∙◌, ℕ, zero, suc, ◌+◌, ◌<◌, ◌≤◌, ◌==◌, ◌⊎◌, inl, inr, All, List, [], ◌∷◌, ◌++◌, append-nil, length, map, filter, Bool, true, false, cond, Some, None, refl, sym, ap, ap₂, subst, slice_get, ⊎_elim, arith, eq-eqb, ne_eqb}
use Rattle.std.specs.Prelude.{◌&&◌, ◌||◌}
use Rattle.std.specs.List.{enumerate_from, list_all, list_any}
use Rattle.std.specs.Option.{option_map_or}
use Rattle.std.proofs.lemmas.Bool.Decides.{eqb_tells}
use Rattle.std.proofs.lemmas.List.Elements.{All-cons, All-head, All-nil, All-tail}
use Rattle.std.proofs.lemmas.Option.{slice_get_within}
use Rattle.apply_model.specs.declared.plan.step_kind.StepKind.{StepKind}
use Rattle.apply_model.specs.declared.script.wait.Wait.{Wait}
use Rattle.apply_model.specs.Script.Waits.{waits_of}
use Rattle.apply_events.specs.declared.event.Event.{Event}
use Rattle.apply_events.specs.Fits.{HasStep, IsApplied}
use Rattle.apply_events.specs.Step.{Step, Work, kinds_applied, kinds_of, step_of, steps_of}
use Rattle.apply_events.specs.StepEvents.{goes_on, step_events}
use Rattle.apply_events.proofs.AppliedSteps.{few_applied}
use Rattle.laws_run.specs.WaitingSteps.{AreWhole, BeginWhereAllIsDone, HasFewSteps, ComeAfterWhatTheyWaitFor, events_of, goes_on_if_begun, has_events, is_done_along, is_of_step}
use Rattle.laws_check.specs.WholeSteps.{AreOfSteps, IsOfWholeSteps, events_of_change}

-- ---- lists

filter_none : {X : Type 0} (p : X → Bool) (xs : List X) → list_any p xs ≡ false → filter p xs ≡ []
filter_none p [] h = refl
filter_none p (x ∷ xs) h = at (p x) (filter_none p xs) h
  where
    at : (b : Bool) → (list_any p xs ≡ false → filter p xs ≡ []) → (b || list_any p xs) ≡ false → cond b (x ∷ filter p xs) (filter p xs) ≡ []
    at true rest absent = absurd cc
    at false rest absent = rest absent

numbered_length : {X : Type 0} (n : ℕ) (xs : List X) → length (enumerate_from n xs) ≡ length xs
numbered_length n [] = refl
numbered_length n (x ∷ xs) = ap suc (numbered_length (n + 1) xs)

mapped_length : {X Y : Type 0} (f : X → Y) (xs : List X) → length (map f xs) ≡ length xs
mapped_length f [] = refl
mapped_length f (x ∷ xs) = ap suc (mapped_length f xs)

or_right : (a b : Bool) → b ≡ true → (a || b) ≡ true
or_right true b is = refl
or_right false b is = is

-- ---- the parts of a change

abbrev named : (c k : ℕ) → Wait
named c k = record { change = c; step = k }

-- no event of a change's first step comes after an event of its second
abbrev NoFirstAfter : (c : ℕ) → List Event → Type 0
NoFirstAfter c es = (before after : List Event) (e : Event) → es ≡ before ++ e ∷ after → e.change ≡ c → e.step ≡ 1 → has_events after (named c 0) ≡ false

abbrev HasFew : (c : ℕ) → List Event → Type 0
HasFew c [] = Unit {0}
HasFew c (e ∷ es) = (e.change ≡ c → e.step < 2) × HasFew c es

-- the change has the events of its first step, then those of its second, and no others
two_parts : (c : ℕ) (es : List Event) → HasFew c es → NoFirstAfter c es → events_of_change c es ≡ events_of (named c 0) es ++ events_of (named c 1) es
two_parts c [] few order = refl
two_parts c (e ∷ es) few order =
    let first = events_of (named c 0) es in
    let second = events_of (named c 1) es in
    let rest : events_of_change c es ≡ first ++ second = two_parts c es few.1 (λ before after x is. order (e ∷ before) after x (ap (λ (l : List Event). e ∷ l) is)) in
    ⊎_elim
    (λ (same : ((e.change == c) ≡ true) × (e.change ≡ c)).
    ⊎_elim
    (λ (zeroth : ((e.step == 0) ≡ true) × (e.step ≡ 0)).
    let other : (e.step == 1) ≡ false = ne_eqb e.step 1 (λ one. absurd (let z = zeroth.1 in omega arith)) in
    joined (e.change == c) (e.step == 0) (e.step == 1) true true false same.0 zeroth.0 other first second (ap (λ (l : List Event). e ∷ l) rest))
    (λ (later : ((e.step == 0) ≡ false) × (e.step ≢ 0)).
    let low = few.0 same.1 in
    let is_one : e.step ≡ 1 = one_left e.step low later.1 in
    let none : first ≡ [] = filter_none (is_of_step (named c 0)) es (order [] es e refl same.1 is_one) in
    joined (e.change == c) (e.step == 0) (e.step == 1) true false true same.0 later.0 (eq-eqb e.step 1 is_one) first second
    (ap (λ (l : List Event). e ∷ l) (rest ∙ ap (λ (l : List Event). l ++ second) none) ∙ ap (λ (l : List Event). l ++ e ∷ second) (sym none)))
    (eqb_tells e.step 0))
    (λ (other : ((e.change == c) ≡ false) × (e.change ≢ c)).
    joined (e.change == c) (e.step == 0) (e.step == 1) false (e.step == 0) (e.step == 1) other.0 refl refl first second rest)
    (eqb_tells e.change c)
  where
    one_left : (k : ℕ) → k < 2 → k ≢ 0 → k ≡ 1
    one_left zero low apart = absurd (apart refl)
    one_left (suc k) low apart = omega arith

    joined : (a b d a' b' d' : Bool) → a ≡ a' → b ≡ b' → d ≡ d' → (first second : List Event)
        → cond a' (e ∷ events_of_change c es) (events_of_change c es) ≡ cond (a' && b') (e ∷ first) first ++ cond (a' && d') (e ∷ second) second
        → cond a (e ∷ events_of_change c es) (events_of_change c es) ≡ cond (a && b) (e ∷ first) first ++ cond (a && d) (e ∷ second) second
    joined a b d a' b' d' p q r first second h = rw (p, q, r) h

-- ---- the steps of a change

module _ (work : Work) (events : List Event) (whole : AreWhole work events) (begins : BeginWhereAllIsDone work events) where
  kinds_and_steps : (c : ℕ) → length (steps_of work c) ≡ length (kinds_applied work.plan work.script c)
  kinds_and_steps c = mapped_length (λ (p : ℕ × StepKind). step_of work c p.0 p.1) (enumerate_from 0 (kinds_applied work.plan work.script c)) ∙ numbered_length 0 (kinds_applied work.plan work.script c)

  -- the plan has a step that has an event
  step_there : (name : Wait) → has_events events name ≡ true → HasStep work.plan name.change name.step
  step_there name there =
      let one = whole name there in
      let within : name.step < length (steps_of work name.change) = slice_get_within (steps_of work name.change) name.step one.step one.is_step in
      let same = kinds_and_steps name.change in
      let applied = few_applied work.plan work.script name.change in
      omega arith

  planned_in : (es : List Event) → ((name : Wait) → has_events es name ≡ true → has_events events name ≡ true) → All (λ e. HasStep work.plan e.change e.step) es
  planned_in [] within = All-nil (λ e. HasStep work.plan e.change e.step)
  planned_in (e ∷ es) within =
      let name = named e.change e.step in
      let here : is_of_step name e ≡ true = ap₂ (λ (a b : Bool). a && b) (eq-eqb e.change e.change refl) (eq-eqb e.step e.step refl) in
      All-cons (λ e. HasStep work.plan e.change e.step) e es (step_there name (within name (ap (λ (b : Bool). b || has_events es name) here)))
      (planned_in es (λ name there. within name (or_right (is_of_step name e) (has_events es name) there)))

  module _ (c : ℕ) where
    abbrev part : ℕ → List Event
    part k = events_of (named c k) events

    without : (k : ℕ) → has_events events (named c k) ≡ false → part k ≡ []
    without k absent = filter_none (is_of_step (named c k)) events absent

    -- the events of a step are none, or all that it has where it begins
    one_step : (k : ℕ) (s : Step) → slice_get (steps_of work c) k ≡ Some s → (has_events events (named c k) ≡ false) ⊎ ((w : ℕ) × (at : ℕ) × (part k ≡ step_events w s at))
    one_step k s is = either (has_events events (named c k)) refl
      where
        either : (b : Bool) → has_events events (named c k) ≡ b → (has_events events (named c k) ≡ false) ⊎ ((w : ℕ) × (at : ℕ) × (part k ≡ step_events w s at))
        either false absent = inl absent
        either true there =
            let one = whole (named c k) there in
            let same : one.step ≡ s = cc in
            inr (one.lane, one.begin, one.are_all ∙ ap (λ (t : Step). step_events one.lane t one.begin) same)

    no_step : (k : ℕ) → slice_get (steps_of work c) k ≡ None → part k ≡ []
    no_step k is = without k (either (has_events events (named c k)) refl)
      where
        either : (b : Bool) → has_events events (named c k) ≡ b → has_events events (named c k) ≡ false
        either false absent = absent
        either true there = let one = whole (named c k) there in let located = one.is_step in absurd cc

    -- the second step has events only where the first is done
    second_waits : IsApplied work.plan work.script c 1 → is_done_along work events (named c 0) ≡ false → part 1 ≡ []
    second_waits has undone = without 1 (begins c 1 has ∙ ap (λ (b : Bool). b && list_all (is_done_along work events) (others (waits_of work.script c 1))) undone)
      where
        others : List Wait → List Wait
        others [] = []
        others (w ∷ ws) = ws

    of_steps : (steps : List Step) → steps_of work c ≡ steps → length (kinds_of work.plan c) ≤ 2 → AreOfSteps steps (part 0 ++ part 1)
    of_steps [] is few =
        ap₂ (λ (a b : List Event). a ++ b) (no_step 0 (ap (λ (l : List Step). slice_get l 0) is)) (no_step 1 (ap (λ (l : List Step). slice_get l 1) is))
    of_steps (s ∷ []) is few =
        let none : part 1 ≡ [] = no_step 1 (ap (λ (l : List Step). slice_get l 1) is) in
        ⊎_elim
        (λ (absent : has_events events (named c 0) ≡ false). inl (ap₂ (λ (a b : List Event). a ++ b) (without 0 absent) none))
        (λ (some : (w : ℕ) × (at : ℕ) × (part 0 ≡ step_events w s at)). inr (some.0, some.1, [], ap₂ (λ (a b : List Event). a ++ b) some.2 none, (λ on. refl), (λ off. refl)))
        (one_step 0 s (ap (λ (l : List Step). slice_get l 0) is))
    of_steps (s ∷ t ∷ []) is few =
        let same = kinds_and_steps c in
        let two : length (steps_of work c) ≡ 2 = ap length is in
        let has : IsApplied work.plan work.script c 1 = omega arith in
        let first_goes : goes_on_if_begun work (named c 0) ≡ goes_on s = ap (λ (l : List Step). option_map_or goes_on (slice_get l 0) false) is in
        ⊎_elim
        (λ (absent : has_events events (named c 0) ≡ false).
        inl (ap₂ (λ (a b : List Event). a ++ b) (without 0 absent) (second_waits has (ap (λ (b : Bool). b && goes_on_if_begun work (named c 0)) absent))))
        (λ (some : (w : ℕ) × (at : ℕ) × (part 0 ≡ step_events w s at)).
        inr (
          some.0,
          some.1,
          part 1,
          ap (λ (l : List Event). l ++ part 1) some.2,
          λ on. second t (ap (λ (l : List Step). slice_get l 1) is),
          λ off. second_waits has (ap (λ (b : Bool). has_events events (named c 0) && b) (first_goes ∙ off) ∙ none_and (has_events events (named c 0))),
        ))
        (one_step 0 s (ap (λ (l : List Step). slice_get l 0) is))
      where
        none_and : (b : Bool) → (b && false) ≡ false
        none_and true = refl
        none_and false = refl

        second : (t : Step) → slice_get (steps_of work c) 1 ≡ Some t → AreOfSteps (t ∷ []) (part 1)
        second t is =
            ⊎_elim
            (λ (absent : has_events events (named c 1) ≡ false). inl (without 1 absent))
            (λ (some : (w : ℕ) × (at : ℕ) × (part 1 ≡ step_events w t at)). inr (some.0, some.1, [], some.2 ∙ sym (append-nil (step_events some.0 t some.1)), (λ on. refl), (λ off. refl)))
            (one_step 1 t is)
    of_steps (s ∷ t ∷ u ∷ steps) is few = absurd (let same = kinds_and_steps c in let applied = few_applied work.plan work.script c in let many : length (steps_of work c) ≡ suc (suc (suc (length steps))) = ap length is in omega arith)

-- ---- all of it

pub of_whole_steps : (work : Work) (events : List Event) → HasFewSteps work → AreWhole work events → ComeAfterWhatTheyWaitFor work events → BeginWhereAllIsDone work events → IsOfWholeSteps work events
of_whole_steps work events few whole stand begins =
    let planned = planned_in work events whole begins events (λ name there. there) in
    record {
      planned = planned;
      whole = λ c less.
          subst (AreOfSteps (steps_of work c)) (sym (two_parts c events (few_of c events planned) (order c)))
          (of_steps work events whole begins c (steps_of work c) refl (few c));
    }
  where
    few_of : (c : ℕ) (es : List Event) → All (λ e. HasStep work.plan e.change e.step) es → HasFew c es
    few_of c [] planned = tt
    few_of c (e ∷ es) planned = (
      λ same. let has = All-head (λ e. HasStep work.plan e.change e.step) e es planned in let low = few e.change in omega arith,
      few_of c es (All-tail (λ e. HasStep work.plan e.change e.step) e es planned),
    )

    order : (c : ℕ) → NoFirstAfter c events
    order c before after e is change step =
        let waits : All (λ name. has_events after name ≡ false) (waits_of work.script e.change e.step) = stand before after e is in
        let named_so : waits_of work.script e.change e.step ≡ waits_of work.script c 1 = ap₂ (λ (a k : ℕ). waits_of work.script a k) change step in
        first (waits_of work.script c 1) refl (subst (All (λ name. has_events after name ≡ false)) named_so waits)
      where
        first : (ws : List Wait) → waits_of work.script c 1 ≡ ws → All (λ name. has_events after name ≡ false) ws → has_events after (named c 0) ≡ false
        first [] is none = absurd cc
        first (w ∷ ws) is none =
            let same : w ≡ named c 0 = cc in
            subst (λ (x : Wait). has_events after x ≡ false) same (All-head (λ name. has_events after name ≡ false) w ws none)
