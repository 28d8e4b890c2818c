-- The events of a work can happen.
use Rattle.std.proofs.Common.{◌≡◌, ℕ, ◌+◌, ◌<◌, ◌≤◌, All, nat_eq, Bool, true, false, not, ◌&&◌, List, [], ◌∷◌, ◌++◌, cond, drop, length, map, Option, Some, None, IfSome, refl, ap, ◌∙◌, add-one, arith, ⊎_elim}
use Rattle.std.specs.Prelude.{IsTrue, is_some, nat_lt, option_map, option_to_list, slice_get}
use Rattle.std.specs.List.{enumerate_from}
use Rattle.std.specs.Option.{option_map_or}
use Rattle.std.proofs.lemmas.Bool.{lt-ltb}
use Rattle.std.proofs.lemmas.Bool.Decides.{eqb_tells}
use Rattle.std.proofs.lemmas.List.Elements.{All-append, All-cons, All-map, All-nil, All-weaker}
use Rattle.std.proofs.lemmas.List.Quantifiers.{position-Some}
use Rattle.apply_model.specs.declared.plan.step_kind.StepKind.{StepKind}
use Rattle.apply_model.specs.declared.script.ending.Ending.{Ending}
use Rattle.apply_model.specs.declared.script.ending.Ending.TheVariants.{Done, Failed, Warned}
use Rattle.apply_model.specs.declared.script.outcome.Outcome.{Outcome}
use Rattle.apply_model.specs.Script.Outcome.{fails, is_warned, took}
use Rattle.apply_model.specs.Script.OutcomeMap.{outcome_of}
use Rattle.apply_hooks.specs.HookCall.{Call}
use Rattle.apply_hooks.specs.Hooks.{first_halting, max_hooks}
use Rattle.apply_hooks.specs.Rules.{verdict_of}
use Rattle.apply_hooks.specs.Verdict.{is_halt}
use Rattle.apply_hooks.specs.declared.phase.Phase.{Phase}
use Rattle.apply_hooks.specs.declared.phase.Phase.TheVariants.{Pre}
use Rattle.apply_hooks.specs.declared.rule.Rule.{Rule}
use Rattle.apply_events.specs.declared.event.Event.{Event}
use Rattle.apply_events.specs.declared.what.What.{What}
use Rattle.apply_events.specs.declared.what.What.TheVariants.{Start, Complete, Errored, ErrorNote, WarnNote, Halted}
use Rattle.apply_events.specs.ChangeEvents.{begun, change_events, in_turn, span_of}
use Rattle.apply_events.specs.Fits.{can_happen, happens, latest_second, max_span, may_be_asked}
use Rattle.apply_events.specs.Laws.{AllFit, IsWithinLimits, NamesEachOnce}
use Rattle.apply_events.specs.Step.{Work, address_of, has_warning, kinds_applied, step_of}
use Rattle.apply_events.specs.StepEvents.{between, end_of, endings, event, goes_on, halts, notes, phase_after, seconds_of, start_events, step_events, step_time, emits_end}
use Rattle.apply_events.specs.WorkerEvents.{worker_events}
use Rattle.apply_events.proofs.Moments.{change_rises, lane_time_of, span_short, worker_in_time}
use Rattle.laws_run.proofs.ProvisionsFit.{CanHappenTo, along_happens, found_at, next_located}
use Rattle.apply_events.proofs.Rising.{Rises-at_most, Rises-higher}
use Rattle.apply_events.proofs.WorkerLists.{change_planned, worker_planned}

-- the event can happen: its step is applied, and may have the event with the outcome that the
-- script states
abbrev pub CanHappen : Work → Event → Type 0
CanHappen work e = IsTrue (happens work.plan work.script e)

itself : (n : ℕ) → nat_eq n n ≡ true
itself n = ⊎_elim (λ e. e.0) (λ e. absurd (e.1 refl)) (eqb_tells n n)

-- ---- what happens to a step

abbrev Suits : StepKind → Outcome → What → Type 0
Suits kind outcome what = IsTrue (can_happen kind outcome what)

both : (a b : Bool) → a ≡ true → b ≡ true → (a && b) ≡ true
both a b p q = rw (p, q) refl

-- what only warns has a warning
warns : (result : Ending) → is_warned result ≡ true → has_warning result ≡ true
warns (Done id warning) h = absurd cc
warns (Failed diag) h = absurd cc
warns (Warned diag) h = refl

all-endings : (kind : StepKind) (outcome : Outcome)
    → All (Suits kind outcome) (cond (emits_end (fails outcome) (is_warned outcome.result)) (end_of (fails outcome) (took kind outcome) ∷ notes (fails outcome) (has_warning outcome.result)) (WarnNote ∷ []))
all-endings kind outcome =
    let P = Suits kind outcome in
    let ends : (failed warned : Bool) → List What = λ failed warned. cond (emits_end failed warned) (end_of failed (took kind outcome) ∷ notes failed (has_warning outcome.result)) (WarnNote ∷ []) in
    elim (fails outcome) as (λ b. fails outcome ≡ b → All P (ends b (is_warned outcome.result))) [
      | true ↦ λ fails_so. All-cons P (Errored (took kind outcome)) (ErrorNote ∷ []) (both (fails outcome) (nat_eq (took kind outcome) (took kind outcome)) fails_so (itself (took kind outcome))) (All-cons P ErrorNote [] fails_so (All-nil P))
      | false ↦ λ fails_so.
          elim (is_warned outcome.result) as (λ b. is_warned outcome.result ≡ b → All P (ends false b)) [
            | true ↦ λ only. All-cons P WarnNote [] (both (not (fails outcome)) (has_warning outcome.result) (ap not fails_so) (warns outcome.result only)) (All-nil P)
            | false ↦ λ ends_so.
                All-cons P (Complete (took kind outcome)) (notes false (has_warning outcome.result))
                (both (not (fails outcome) && not (is_warned outcome.result)) (nat_eq (took kind outcome) (took kind outcome)) (both (not (fails outcome)) (not (is_warned outcome.result)) (ap not fails_so) (ap not ends_so)) (itself (took kind outcome)))
                (elim (has_warning outcome.result) as (λ b. has_warning outcome.result ≡ b → All P (notes false b)) [
                  | true ↦ λ warns_so. All-cons P WarnNote [] (both (not (fails outcome)) (has_warning outcome.result) (ap not fails_so) warns_so) (All-nil P)
                  | false ↦ λ warns_so. All-nil P
                ] refl)
          ] refl
    ] refl

asked_after : (fails : Bool) → may_be_asked fails (phase_after fails) ≡ true
asked_after true = refl
asked_after false = refl

-- a hook that halts is one of the hooks
abbrev IsFew : Option ℕ → Type 0
IsFew located = IfSome located (λ hook. nat_lt hook max_hooks ≡ true)

few-located : (located : Option ℕ) (count : ℕ) → ((hook : ℕ) → located ≡ Some hook → hook < count) → count ≤ max_hooks → IsFew located
few-located None count below few = tt
few-located (Some hook) count below few = let less : hook < count = below hook refl in lt-ltb hook max_hooks (omega arith)

few-halting : (hooks : List (List Rule)) (call : Call) → length hooks ≤ max_hooks → IsFew (first_halting hooks call)
few-halting hooks call few = few-located (first_halting hooks call) (length hooks) (λ hook is. (position-Some (λ rules. is_halt (verdict_of rules call)) hooks hook [] is).0) few

few-step : (work : Work) (c n : ℕ) (kind : StepKind) (phase : Phase) → length work.hooks ≤ max_hooks → IsFew ((step_of work c n kind).halts phase)
few-step work c n kind phase few = few-halting work.hooks (record { phase = phase; kind = kind; address = address_of work.plan c }) few

-- step n of change c, which is of that kind, is applied
abbrev pub IsAt : Work → (c n : ℕ) → StepKind → Type 0
IsAt work c n kind = slice_get (kinds_applied work.plan work.script c) n ≡ Some kind

-- what can happen to a step of that kind with that outcome can happen to the step
of_applied : (work : Work) (w c n : ℕ) (kind : StepKind) (at : ℕ) (what : What) → IsAt work c n kind → Suits kind (outcome_of work.script c n) what
    → CanHappen work (event w (step_of work c n kind) at what)
of_applied work w c n kind at what here suits =
    ap (λ located. option_map_or (λ one. can_happen one (outcome_of work.script c n) what) located false) here ∙ suits

all-halts : (work : Work) (w c n : ℕ) (kind : StepKind) (phase : Phase) (at : ℕ) (located : Option ℕ) → IsAt work c n kind
    → may_be_asked (fails (outcome_of work.script c n)) phase ≡ true → IsFew located
    → All (CanHappen work) (option_to_list (option_map (λ hook. event w (step_of work c n kind) at (Halted phase hook)) located))
all-halts work w c n kind phase at None here asked few = All-nil (CanHappen work)
all-halts work w c n kind phase at (Some hook) here asked few =
    All-cons (CanHappen work) (event w (step_of work c n kind) at (Halted phase hook)) []
    (of_applied work w c n kind at (Halted phase hook) here (both (may_be_asked (fails (outcome_of work.script c n)) phase) (nat_lt hook max_hooks) asked few))
    (All-nil (CanHappen work))

all-start_events : (work : Work) (w c n : ℕ) (kind : StepKind) (at : ℕ) → IsAt work c n kind → length work.hooks ≤ max_hooks → All (CanHappen work) (start_events w (step_of work c n kind) at)
all-start_events work w c n kind at here few =
    let s = step_of work c n kind in
    let outcome = outcome_of work.script c n in
    let progress = map (λ (p : ℕ × What). event w s (at + p.0) p.1) (between s) in
    let ends = map (λ what. event w s (at + (seconds_of s)) what) (endings s) in
    let halt = halts w s (phase_after s.fails) (at + (seconds_of s)) in
    All-cons (CanHappen work) (event w s at Start) (progress ++ ends ++ halt) (of_applied work w c n kind at Start here refl)
    (All-append (CanHappen work) (progress ++ ends) halt
    (All-append (CanHappen work) progress ends
    (All-map (CanHappen work) (λ (p : ℕ × What). event w s (at + p.0) p.1) (between s)
    (All-weaker (CanHappenTo kind outcome) (λ p. CanHappen work (event w s (at + p.0) p.1)) (λ p. of_applied work w c n kind (at + p.0) p.1 here) (between s) (along_happens kind outcome)))
    (All-map (CanHappen work) (λ what. event w s (at + (seconds_of s)) what) (endings s)
    (All-weaker (Suits kind outcome) (λ what. CanHappen work (event w s (at + (seconds_of s)) what)) (λ what. of_applied work w c n kind (at + (seconds_of s)) what here) (endings s) (all-endings kind outcome))))
    (all-halts work w c n kind (phase_after s.fails) (at + (seconds_of s)) (s.halts (phase_after s.fails)) here (asked_after s.fails) (few-step work c n kind (phase_after s.fails) few)))

pub all-step : (work : Work) (w c n : ℕ) (kind : StepKind) (at : ℕ) → IsAt work c n kind → length work.hooks ≤ max_hooks → All (CanHappen work) (step_events w (step_of work c n kind) at)
all-step work w c n kind at here few = all-step-at work w c n kind at ((step_of work c n kind).halts Pre) here (few-step work c n kind Pre few) few
  where
    all-step-at : (work : Work) (w c n : ℕ) (kind : StepKind) (at : ℕ) (located : Option ℕ) → IsAt work c n kind → IsFew located → length work.hooks ≤ max_hooks
        → All (CanHappen work) (cond (is_some located) (option_to_list (option_map (λ hook. event w (step_of work c n kind) at (Halted Pre hook)) located)) (start_events w (step_of work c n kind) at))
    all-step-at work w c n kind at None here low few = all-start_events work w c n kind at here few
    all-step-at work w c n kind at (Some hook) here low few = all-halts work w c n kind Pre at (Some hook) here refl low

-- ---- what happens to the steps of changes

-- the kinds of the steps that are applied from step n on
all-steps : (work : Work) (w c n : ℕ) (kinds : List StepKind) (at : ℕ) → drop n (kinds_applied work.plan work.script c) ≡ kinds → length work.hooks ≤ max_hooks
    → All (CanHappen work) (in_turn (step_events w) step_time (begun (map (λ p. step_of work c p.0 p.1) (enumerate_from n kinds))) at)
all-steps work w c n [] at here few = All-nil (CanHappen work)
all-steps work w c n (kind ∷ kinds) at here few =
    let s = step_of work c n kind in
    let others = begun (map (λ p. step_of work c p.0 p.1) (enumerate_from (n + 1) kinds)) in
    All-append (CanHappen work) (step_events w s at) (in_turn (step_events w) step_time (cond (goes_on s) others []) (at + step_time s))
    (all-step work w c n kind at (found_at (kinds_applied work.plan work.script c) n kind kinds here) few)
    (elim (goes_on s) as (λ b. All (CanHappen work) (in_turn (step_events w) step_time (cond b others []) (at + step_time s))) [
      | true ↦ all-steps work w c (n + 1) kinds (at + step_time s) (rw add-one (next_located (kinds_applied work.plan work.script c) n kind kinds here)) few
      | false ↦ All-nil (CanHappen work)
    ])

change_happens : (work : Work) (w c at : ℕ) → length work.hooks ≤ max_hooks → All (CanHappen work) (change_events work w c at)
change_happens work w c at few = all-steps work w c 0 (kinds_applied work.plan work.script c) at refl few

changes_happen : (work : Work) (w : ℕ) (changes : List ℕ) (at : ℕ) → length work.hooks ≤ max_hooks → All (CanHappen work) (in_turn (change_events work w) (span_of work) changes at)
changes_happen work w [] at few = All-nil (CanHappen work)
changes_happen work w (c ∷ changes) at few =
    All-append (CanHappen work) (change_events work w c at) (in_turn (change_events work w) (span_of work) changes (at + span_of work c)) (change_happens work w c at few) (changes_happen work w changes (at + span_of work c) few)

-- ---- with the plan's steps, and in time

pub change_fits : (work : Work) (w c at : ℕ) → IsWithinLimits work → length work.hooks ≤ max_hooks → at + max_span ≤ latest_second → AllFit work (change_events work w c at)
change_fits work w c at read few early k d less =
    let short : span_of work c ≤ max_span = span_short work c read in
    let in_time = Rises-at_most lane_time_of at latest_second (change_events work w c at) (Rises-higher lane_time_of at (at + span_of work c) latest_second (change_events work w c at) (omega arith) (change_rises work w c at)) in
    record { of_plan = record { has_step = change_planned work w c at k d less; in_time = in_time k d less }; happens = change_happens work w c at few k d less }

pub worker_fits : (work : Work) (w : ℕ) (changes : List ℕ) → IsWithinLimits work → length work.hooks ≤ max_hooks → NamesEachOnce work changes → AllFit work (worker_events work w changes)
worker_fits work w changes read few named k d less =
    record {
      of_plan = record { has_step = worker_planned work w changes k d less; in_time = worker_in_time work w changes read named k d less };
      happens = changes_happen work w changes 0 few k d less;
    }
