-- The events of a step in order: its start, what it does, its end, its notes.
use Rattle.std.proofs.Common.{◌≡◌, ◌∙◌, ◌⊎◌, ◌+◌, ◌*◌, ◌<◌, ℕ, All, Bool, true, false, List, [], ◌∷◌, ◌++◌, Option, None, cond, map, refl, sym, ap, arith, subst, inl, inr}
use Rattle.std.specs.Prelude.{is_some, option_map, option_to_list}
use Rattle.std.proofs.lemmas.Bool.{true≢false}
use Rattle.std.proofs.lemmas.List.{append-nil}
use Rattle.std.proofs.lemmas.List.Elements.{All-append, All-cons, All-head, All-map, All-nil, All-tail, All-weaker}
use Rattle.apply_model.specs.declared.script.provisioner.Provisioner.{Provisioner}
use Rattle.apply_model.specs.Script.Outcome.{has_failed}
use Rattle.apply_hooks.specs.declared.phase.Phase.{Phase}
use Rattle.apply_hooks.specs.declared.phase.Phase.TheVariants.{Pre}
use Rattle.apply_events.specs.declared.event.Event.{Event}
use Rattle.apply_events.specs.declared.what.What.{What}
use Rattle.apply_events.specs.declared.what.What.TheVariants.{Start, Progress, Complete, Errored, ErrorNote, WarnNote, Halted, ProvisionStart, ProvisionOutput, ProvisionComplete, ProvisionErrored}
use Rattle.apply_events.specs.Provisions.{provision_end}
use Rattle.apply_events.specs.Step.{Step}
use Rattle.apply_events.specs.StepEvents.{between, emits_end, end_of, endings, event, notes, phase_after, seconds_of, start_events, step_events}
use Rattle.apply_events.proofs.Provisions.{all_along}
use Rattle.laws_queue.specs.OfRun.{is_end, is_start}
use Rattle.laws_queue.proofs.Ordered.{Ordered, ordered_append}

-- ---- which comes first

abbrev pub phase : What → ℕ
phase Start = 0
phase (Complete seconds) = 2
phase (Errored seconds) = 2
phase ErrorNote = 3
phase WarnNote = 3
phase (Halted when hook) = 3
phase (Progress seconds) = 1
phase (ProvisionStart i) = 1
phase (ProvisionOutput i line) = 1
phase (ProvisionComplete i) = 1
phase (ProvisionErrored i) = 1

-- Many of the phase may come one after another.
abbrev pub IsLong : What → Type 0
IsLong what = (phase what ≡ 1) ⊎ (phase what ≡ 3)

abbrev pub Comes : What → What → Type 0
Comes a b = (phase a < phase b) ⊎ ((phase a ≡ phase b) × IsLong a)

-- the same along a change, and along a lane
abbrev pub rank : Event → ℕ
rank e = 8 * e.change + 4 * e.step + phase e.what

abbrev pub Ranked : Event → Event → Type 0
Ranked a b = (rank a < rank b) ⊎ ((rank a ≡ rank b) × IsLong a.what)

-- ---- lists

pub ordered_from_all : {X : Type 0} (Q : X → Type 0) (P : X → X → Type 0) (xs : List X) → ((x y : X) → Q x → Q y → P x y) → All Q xs → Ordered P xs
ordered_from_all Q P [] relates all = tt
ordered_from_all Q P (x ∷ xs) relates all =
    (All-weaker Q (P x) (λ y h. relates x y (All-head Q x xs all) h) xs (All-tail Q x xs all), ordered_from_all Q P xs relates (All-tail Q x xs all))

pub ordered_with : {X : Type 0} (Q : X → Type 0) (P R : X → X → Type 0) (xs : List X) → ((x y : X) → Q x → Q y → P x y → R x y) → All Q xs → Ordered P xs → Ordered R xs
ordered_with Q P R [] relates all are = tt
ordered_with Q P R (x ∷ xs) relates all are = (
  λ i d lt. relates x _ (All-head Q x xs all) (All-tail Q x xs all i d lt) (are.0 i d lt),
  ordered_with Q P R xs relates (All-tail Q x xs all) are.1,
)

pub cross_all : {X : Type 0} (Q R : X → Type 0) (P : X → X → Type 0) (xs ys : List X) → ((x y : X) → Q x → R y → P x y) → All Q xs → All R ys → All (λ x. All (P x) ys) xs
cross_all Q R P xs ys relates first second = All-weaker Q (λ x. All (P x) ys) (λ x h. All-weaker R (P x) (λ y own. relates x y h own) ys second) xs first

-- ---- one step

-- an event of a step that starts at that second
pub record IsOfStep (lane at : ℕ) (s : Step) (e : Event) : Type 0 where
  pub lane_is : e.worker ≡ lane
  pub change : e.change ≡ s.change
  pub number : e.step ≡ s.number
  pub start : is_start e.what ≡ true → e.at ≡ at
  pub end : is_end e.what ≡ true → e.at ≡ at + seconds_of s

module _ (lane at : ℕ) (s : Step) where
  -- an event of that phase
  abbrev IsIn : ℕ → Event → Type 0
  IsIn p e = IsOfStep lane at s e × (phase e.what ≡ p)

  no : {P : Type 0} → false ≡ true → P
  no is = absurd (true≢false (sym is))

  other : (what : What) (then p : ℕ) → is_start what ≡ false → is_end what ≡ false → phase what ≡ p → IsIn p (event lane s then what)
  other what then p no_start no_end is =
      (record { lane_is = refl; change = refl; number = refl; start = λ h. no (sym no_start ∙ h); end = λ h. no (sym no_end ∙ h) }, is)

  end_event : (what : What) → is_start what ≡ false → phase what ≡ 2 → IsIn 2 (event lane s (at + seconds_of s) what)
  end_event what no_start is = (record { lane_is = refl; change = refl; number = refl; start = λ h. no (sym no_start ∙ h); end = λ h. refl }, is)

  abbrev started : Event
  started = event lane s at Start

  abbrev does : List Event
  does = map (λ (p : ℕ × What). event lane s (at + p.0) p.1) (between s)

  abbrev ends : List Event
  ends = map (λ what. event lane s (at + seconds_of s) what) (endings s)

  does_are : All (IsIn 1) does
  does_are =
      All-map (IsIn 1) (λ (p : ℕ × What). event lane s (at + p.0) p.1) (between s)
      (all_along (λ p. IsIn 1 (event lane s (at + p.0) p.1)) (seconds_of s) 0 0 s.seconds_before s.ran
      (λ t. other (Progress t) (at + t) 1 refl refl refl) (λ i p since. other (ProvisionStart i) (at + since) 1 refl refl refl)
      (λ i p j since. other (ProvisionOutput i j) (at + since) 1 refl refl refl) (λ i p since. provisioner_ends i p since))
    where
      provisioner_ends : (i : ℕ) (p : Provisioner) (since : ℕ) → IsIn 1 (event lane s (at + since) (provision_end i p))
      provisioner_ends i p since = elim (has_failed p) as (λ b. IsIn 1 (event lane s (at + since) (cond b (ProvisionErrored i) (ProvisionComplete i)))) [
        | true ↦ other (ProvisionErrored i) (at + since) 1 refl refl refl
        | false ↦ other (ProvisionComplete i) (at + since) 1 refl refl refl
      ]

  -- the end, and the notes after it
  abbrev Ends : List Event → Type 0
  Ends es = All (λ e. IsOfStep lane at s e × (1 < phase e.what)) es × Ordered (λ e f. Comes e.what f.what) es

  abbrev IsLate : Event → Type 0
  IsLate e = IsOfStep lane at s e × (1 < phase e.what)

  late : (what : What) (then : ℕ) → IsIn 3 (event lane s then what) → IsLate (event lane s then what)
  late what then is = let low = is.1 in (is.0, omega arith)

  one_note : (what : What) → is_start what ≡ false → is_end what ≡ false → phase what ≡ 3 → Ends (event lane s (at + seconds_of s) what ∷ [])
  one_note what no_start no_end is =
      (All-cons IsLate (event lane s (at + seconds_of s) what) [] (late what (at + seconds_of s) (other what (at + seconds_of s) 3 no_start no_end is)) (All-nil IsLate), (All-nil _, tt))

  end_then : (what : What) (rest : List Event) → is_start what ≡ false → phase what ≡ 2 → All (λ e. phase e.what ≡ 3) rest → Ends rest → Ends (event lane s (at + seconds_of s) what ∷ rest)
  end_then what rest no_start is later are = (
    All-cons IsLate (event lane s (at + seconds_of s) what) rest ((end_event what no_start is).0, omega (arith, is)) are.0,
    (All-weaker (λ (e : Event). phase e.what ≡ 3) (λ e. Comes what e.what) (λ e three. inl (omega (arith, is, three))) rest later, are.1),
  )

  three : (what : What) → phase what ≡ 3 → All (λ e. phase e.what ≡ 3) (event lane s (at + seconds_of s) what ∷ [])
  three what is = All-cons (λ (e : Event). phase e.what ≡ 3) (event lane s (at + seconds_of s) what) [] is (All-nil _)

  ends_with : (fails warns : Bool) → Ends (map (λ what. event lane s (at + seconds_of s) what) (end_of fails (seconds_of s) ∷ notes fails warns))
  ends_with true warns = end_then (Errored (seconds_of s)) (event lane s (at + seconds_of s) ErrorNote ∷ []) refl refl (three ErrorNote refl) (one_note ErrorNote refl refl refl)
  ends_with false true = end_then (Complete (seconds_of s)) (event lane s (at + seconds_of s) WarnNote ∷ []) refl refl (three WarnNote refl) (one_note WarnNote refl refl refl)
  ends_with false false = end_then (Complete (seconds_of s)) [] refl refl (All-nil _) (All-nil IsLate, tt)

  ends_are : Ends ends
  ends_are = elim (emits_end s.fails s.only_warns) as (λ b. Ends (map (λ what. event lane s (at + seconds_of s) what) (cond b (end_of s.fails (seconds_of s) ∷ notes s.fails s.warns) (WarnNote ∷ [])))) [
    | true ↦ ends_with s.fails s.warns
    | false ↦ one_note WarnNote refl refl refl
  ]

  start_is : IsIn 0 started
  start_is = (record { lane_is = refl; change = refl; number = refl; start = λ h. refl; end = λ h. no h }, refl)

  -- without hooks
  module _ (unhalted : (when : Phase) → s.halts when ≡ None) where
    pub events_are : step_events lane s at ≡ started ∷ (does ++ ends)
    events_are =
        let halted : Phase → Option ℕ → List Event = λ when hook. option_to_list (option_map (λ hook. event lane s (at + seconds_of s) (Halted when hook)) hook) in
        ap (λ hook. cond (is_some hook) (option_to_list (option_map (λ hook. event lane s at (Halted Pre hook)) hook)) (start_events lane s at)) (unhalted Pre)
        ∙ ap (λ hook. started ∷ ((does ++ ends) ++ halted (phase_after s.fails) hook)) (unhalted (phase_after s.fails))
        ∙ ap (λ l. started ∷ l) (append-nil (does ++ ends))

    all_later : All (λ e. IsOfStep lane at s e × (0 < phase e.what)) (does ++ ends)
    all_later = All-append (λ e. IsOfStep lane at s e × (0 < phase e.what)) does ends
        (All-weaker (IsIn 1) (λ e. IsOfStep lane at s e × (0 < phase e.what)) (λ e h. (let one = h.1 in (h.0, omega arith))) does does_are)
        (All-weaker IsLate (λ e. IsOfStep lane at s e × (0 < phase e.what)) (λ e h. (let one = h.1 in (h.0, omega arith))) ends ends_are.0)

    pub of_step : All (IsOfStep lane at s) (step_events lane s at)
    of_step = subst (All (IsOfStep lane at s)) (sym events_are)
        (All-cons (IsOfStep lane at s) started (does ++ ends) start_is.0 (All-weaker (λ e. IsOfStep lane at s e × (0 < phase e.what)) (IsOfStep lane at s) (λ e h. h.0) (does ++ ends) all_later))

    in_phases : Ordered (λ e f. Comes e.what f.what) (started ∷ (does ++ ends))
    in_phases = (
      All-weaker (λ (e : Event). IsOfStep lane at s e × (0 < phase e.what)) (λ e. Comes Start e.what) (λ e h. inl h.1) (does ++ ends) all_later,
      ordered_append (λ (e f : Event). Comes e.what f.what) does ends
          (ordered_from_all (IsIn 1) (λ e f. Comes e.what f.what) does (λ e f h h'. inr (h.1 ∙ sym h'.1, inl h.1)) does_are)
          ends_are.1
          (cross_all (IsIn 1) IsLate (λ e f. Comes e.what f.what) does ends (λ e f h h'. inl (let one = h.1 in let more = h'.1 in omega arith)) does_are ends_are.0),
    )

    pub ranked : Ordered Ranked (step_events lane s at)
    ranked = ordered_with (IsOfStep lane at s) (λ e f. Comes e.what f.what) Ranked (step_events lane s at) (λ e f h h' comes. of_phases e f h h' comes) of_step
        (subst (Ordered (λ e f. Comes e.what f.what)) (sym events_are) in_phases)
      where
        of_phases : (e f : Event) → IsOfStep lane at s e → IsOfStep lane at s f → Comes e.what f.what → Ranked e f
        of_phases e f h h' (inl less) = let change = h.change in let change' = h'.change in let number = h.number in let number' = h'.number in inl (omega arith)
        of_phases e f h h' (inr same) = let change = h.change in let change' = h'.change in let number = h.number in let number' = h'.number in let is = same.0 in inr (omega arith, same.1)
