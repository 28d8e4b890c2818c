-- A step that waits in vain has no events, and each other step that could begin has some.
use Rattle.std.proofs.Common.{◌≡◌, ◌⊎◌, ℕ, zero, suc, ◌*◌, ◌<◌, ◌≤◌, Bool, true, false, ◌&&◌, List, [], ◌∷◌, length, refl, sym, ap, ◌∙◌, subst, ⊎_elim, inl, inr, arith}
use Rattle.std.specs.Prelude.{◌↔◌, not}
use Rattle.std.specs.List.{Contains, list_all}
use Rattle.std.proofs.lemmas.Bool.{cases_Bool, cases_lt, true≢false}
use Rattle.apply_model.specs.declared.script.wait.Wait.{Wait}
use Rattle.apply_model.specs.Script.Waits.{begins_within, waits_of, stated_waits}
use Rattle.apply_events.specs.declared.event.Event.{Event}
use Rattle.apply_events.specs.Fits.{HasStep, IsApplied}
use Rattle.apply_events.specs.Step.{Work, kinds_applied}
use Rattle.laws_run.specs.WaitingSteps.{BeginWhereAllIsDone, HasFewSteps, LeaveOutNoneWithoutNeed, LeaveOutWhatWaitsInVain, NamesSteps, WaitsInVain, goes_on_if_begun, has_events, has_stopped, is_done_along, skips}
use Rattle.laws_run.specs.WaitingSteps.WaitsInVain.{for_skipped, for_stopped, for_waiting}
use Rattle.apply_events.proofs.Waits.Members.{in_all, in_cases, in_head, in_tail}
use Rattle.laws_run.proofs.Named.{named}
use Rattle.laws_run.proofs.Skipped.{not_applied, one_skipped, waits_same}
use Rattle.apply_events.proofs.Waits.TurnSteps.{all_at}

-- ---- tests

not_all : {X : Type 0} (p : X → Bool) (xs : List X) (x : X) → Contains xs x → p x ≡ false → list_all p xs ≡ false
not_all p xs x there off = ⊎_elim
    (λ (all : list_all p xs ≡ true). absurd (true≢false (sym (in_all p xs x all there) ∙ off)))
    (λ (some : list_all p xs ≡ false). some)
    (cases_Bool (list_all p xs))

one_not : {X : Type 0} (p : X → Bool) (xs : List X) → list_all p xs ≡ false → (x : X) × Contains xs x × (p x ≡ false)
one_not p [] off = absurd (true≢false off)
one_not p (x ∷ xs) off = ⊎_elim
    (λ (here : p x ≡ true). let later = one_not p xs (sym (ap (λ t. t && list_all p xs) here) ∙ off) in (later.0, in_tail x xs later.0 later.1, later.2))
    (λ (here : p x ≡ false). (x, in_head x xs, here))
    (cases_Bool (p x))

no_if_first : (a b : Bool) → a ≡ false → (a && b) ≡ false
no_if_first a b is = ap (λ t. t && b) is

stopped_not_done : (a b : Bool) → (a && not b) ≡ true → (a && b) ≡ false
stopped_not_done true true is = absurd (true≢false (sym is))
stopped_not_done true false is = refl
stopped_not_done false b is = refl

stopped_is : (a b : Bool) → a ≡ true → (a && b) ≡ false → (a && not b) ≡ true
stopped_is true true is off = absurd (true≢false off)
stopped_is true false is off = refl
stopped_is false b is off = absurd (true≢false (sym is))

begins_waited : (script : _) (rounds c k : ℕ) → begins_within script (suc rounds) c k ≡ true → (name : Wait) → Contains (stated_waits script c k) name → begins_within script rounds name.change name.step ≡ true
unfolding begins_within
begins_waited script rounds c k is name there = in_all (λ (wait : Wait). begins_within script rounds wait.change wait.step) (stated_waits script c k) name is there

none_within : (script : _) (c k : ℕ) → begins_within script zero c k ≡ true → ⊥
unfolding begins_within
none_within script c k is = true≢false (sym is)

-- ---- the law

module _ (w : Work) (events : List Event) (few : HasFewSteps w) (exact : BeginWhereAllIsDone w events)
    (applied : (name : Wait) → has_events events name ≡ true → IsApplied w.plan w.script name.change name.step) (names : NamesSteps w) where
  known : (c k : ℕ) (name : Wait) → HasStep w.plan c k → Contains (waits_of w.script c k) name → HasStep w.plan name.change name.step
  known c zero name has there = all_at (λ (n : Wait). HasStep w.plan n.change n.step) (named w c zero) name (names c zero has) there
  known c (suc k) name has there = ⊎_elim
      (λ (here : record { change = c; step = k } ≡ name). subst (λ (n : Wait). HasStep w.plan n.change n.step) here (omega arith))
      (λ (later : Contains (named w c (suc k)) name). all_at (λ (n : Wait). HasStep w.plan n.change n.step) (named w c (suc k)) name (names c (suc k) has) later)
      (in_cases (record { change = c; step = k }) (named w c (suc k)) name there)

  -- what is not applied has no events
  none_unless_applied : (name : Wait) → (IsApplied w.plan w.script name.change name.step → ⊥) → has_events events name ≡ false
  none_unless_applied name never = ⊎_elim
      (λ (some : has_events events name ≡ true). absurd (never (applied name some)))
      (λ (none : has_events events name ≡ false). none)
      (cases_Bool (has_events events name))

  none_if_skipped : (name : Wait) → HasStep w.plan name.change name.step → skips w.script name ≡ true → has_events events name ≡ false
  none_if_skipped name has skipped = none_unless_applied name (not_applied w name.change name.step (let most = few name.change in omega arith) skipped)

  -- a step that waits for a step that is not done has no events
  none_if_waited : (name waited : Wait) → Contains (waits_of w.script name.change name.step) waited → is_done_along w events waited ≡ false → has_events events name ≡ false
  none_if_waited name waited there off = ⊎_elim
      (λ (is : name.step < length (kinds_applied w.plan w.script name.change)).
      exact name.change name.step is ∙ not_all (is_done_along w events) (waits_of w.script name.change name.step) waited there off)
      (λ (past : length (kinds_applied w.plan w.script name.change) ≤ name.step). none_unless_applied name (λ is. omega arith))
      (cases_lt name.step (length (kinds_applied w.plan w.script name.change)))

  none_in_vain : (name : Wait) → WaitsInVain w events name → HasStep w.plan name.change name.step → has_events events name ≡ false
  none_in_vain name (for_stopped n waited there stopped) has =
      none_if_waited name waited there (stopped_not_done (has_events events waited) (goes_on_if_begun w waited) stopped)
  none_in_vain name (for_skipped n waited there skipped) has =
      none_if_waited name waited there
      (no_if_first (has_events events waited) (goes_on_if_begun w waited) (none_if_skipped waited (known name.change name.step waited has there) skipped))
  none_in_vain name (for_waiting n waited there vain) has =
      none_if_waited name waited there
      (no_if_first (has_events events waited) (goes_on_if_begun w waited) (none_in_vain waited vain (known name.change name.step waited has there)))

  -- a step that is neither applied nor skipped comes after a skipped step
  after_skipped : (c k : ℕ) → HasStep w.plan c k → (IsApplied w.plan w.script c k → ⊥) → skips w.script (record { change = c; step = k }) ≡ false → WaitsInVain w events (record { change = c; step = k })
  after_skipped c k has never off = by_place k has never off (one_skipped w c k has (few c) never)
    where
      by_place : (k : ℕ) → HasStep w.plan c k → (IsApplied w.plan w.script c k → ⊥) → skips w.script (record { change = c; step = k }) ≡ false
          → (j : ℕ) × (j ≤ k) × (skips w.script (record { change = c; step = j }) ≡ true) → WaitsInVain w events (record { change = c; step = k })
      by_place k has never off (zero, low, skipped) = at_first k has off skipped
        where
          at_first : (k : ℕ) → HasStep w.plan c k → skips w.script (record { change = c; step = k }) ≡ false → skips w.script (record { change = c; step = 0 }) ≡ true
              → WaitsInVain w events (record { change = c; step = k })
          at_first zero has off skipped = absurd (true≢false (sym skipped ∙ off))
          at_first (suc zero) has off skipped =
              for_skipped (record { change = c; step = 1 }) (record { change = c; step = 0 }) (in_head (record { change = c; step = 0 }) (named w c 1)) skipped
          at_first (suc (suc k)) has off skipped = let most = few c in absurd (omega arith)
      by_place k has never off (suc j, low, skipped) =
          let most = few c in
          let same : suc j ≡ k = omega arith in
          absurd (true≢false (sym skipped ∙ ap (λ m. skips w.script (record { change = c; step = m })) same ∙ off))

  -- A step that is applied and has no events waits in vain. Each step without events that it waits
  -- for is skipped or waits in vain.
  applied_in_vain : (rounds : ℕ) (name : Wait) → begins_within w.script (suc rounds) name.change name.step ≡ true → HasStep w.plan name.change name.step → has_events events name ≡ false
      → IsApplied w.plan w.script name.change name.step → skips w.script name ≡ false
      → ((other : Wait) → begins_within w.script rounds other.change other.step ≡ true → HasStep w.plan other.change other.step → has_events events other ≡ false
      → (skips w.script other ≡ true) ⊎ WaitsInVain w events other)
      → WaitsInVain w events name
  applied_in_vain rounds name begins has none is off others =
      let waited = one_not (is_done_along w events) (waits_of w.script name.change name.step) (sym (exact name.change name.step is) ∙ none) in
      let other = waited.0 in
      let stated : Contains (stated_waits w.script name.change name.step) other = subst (λ names. Contains names other) (sym (waits_same w.script name.change name.step off)) waited.1 in ⊎_elim
      (λ (some : has_events events other ≡ true). for_stopped name other waited.1 (stopped_is (has_events events other) (goes_on_if_begun w other) some waited.2))
      (λ (nothing : has_events events other ≡ false). ⊎_elim
      (λ (skipped : skips w.script other ≡ true). for_skipped name other waited.1 skipped)
      (λ (vain : WaitsInVain w events other). for_waiting name other waited.1 vain)
      (others other (begins_waited w.script rounds name.change name.step begins other stated) (known name.change name.step other has waited.1) nothing))
      (cases_Bool (has_events events other))

  in_vain : (rounds : ℕ) (name : Wait) → begins_within w.script rounds name.change name.step ≡ true → HasStep w.plan name.change name.step → has_events events name ≡ false
      → (skips w.script name ≡ true) ⊎ WaitsInVain w events name
  in_vain zero name begins has none = absurd (none_within w.script name.change name.step begins)
  in_vain (suc rounds) name begins has none = ⊎_elim
      (λ (skipped : skips w.script name ≡ true). inl skipped)
      (λ (off : skips w.script name ≡ false). inr (⊎_elim
      (λ (is : name.step < length (kinds_applied w.plan w.script name.change)). applied_in_vain rounds name begins has none is off (in_vain rounds))
      (λ (past : length (kinds_applied w.plan w.script name.change) ≤ name.step). after_skipped name.change name.step has (λ is. omega arith) off)
      (cases_lt name.step (length (kinds_applied w.plan w.script name.change)))))
      (cases_Bool (skips w.script name))

  -- a step that begins within some rounds
  pub leave_out_within : (rounds c k : ℕ) → HasStep w.plan c k → begins_within w.script rounds c k ≡ true
      → (has_events events (record { change = c; step = k }) ≡ false
      ↔ ((skips w.script (record { change = c; step = k }) ≡ true) ⊎ WaitsInVain w events (record { change = c; step = k })))
  leave_out_within rounds c k has begins = (
    λ none. in_vain rounds (record { change = c; step = k }) begins has none,
    λ why. ⊎_elim
        (λ (skipped : skips w.script (record { change = c; step = k }) ≡ true). none_if_skipped (record { change = c; step = k }) has skipped)
        (λ (vain : WaitsInVain w events (record { change = c; step = k })). none_in_vain (record { change = c; step = k }) vain has)
        why,
  )

  pub leave_out : LeaveOutWhatWaitsInVain w events
  leave_out c k has begins = leave_out_within (2 * length w.script) c k has begins

  -- the step for which it waits in vain at last
  some_stopped : (name : Wait) → WaitsInVain w events name → (at_last : Wait) × ((has_stopped w events at_last ≡ true) ⊎ (skips w.script at_last ≡ true))
  some_stopped name (for_stopped n waited there stopped) = (waited, inl stopped)
  some_stopped name (for_skipped n waited there skipped) = (waited, inr skipped)
  some_stopped name (for_waiting n waited there vain) = some_stopped waited vain

  pub none_without_need : LeaveOutNoneWithoutNeed w events
  none_without_need none all c k has begins = ⊎_elim
      (λ (yes : has_events events (record { change = c; step = k }) ≡ true). yes)
      (λ (no : has_events events (record { change = c; step = k }) ≡ false). absurd (⊎_elim
      (λ (skipped : skips w.script (record { change = c; step = k }) ≡ true). true≢false (sym skipped ∙ all (record { change = c; step = k })))
      (λ (vain : WaitsInVain w events (record { change = c; step = k })).
      let one = some_stopped (record { change = c; step = k }) vain in ⊎_elim
      (λ (stopped : has_stopped w events one.0 ≡ true). true≢false (sym stopped ∙ none one.0))
      (λ (skipped : skips w.script one.0 ≡ true). true≢false (sym skipped ∙ all one.0))
      one.1)
      (in_vain (2 * length w.script) (record { change = c; step = k }) begins has no)))
      (cases_Bool (has_events events (record { change = c; step = k })))
