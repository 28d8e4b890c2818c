-- The events of a planning, object by object: each object that is told starts once, and ends once
-- or fails.
use Rattle.std.proofs.Common.{◌≡◌, ℕ, ◌+◌, ◌<◌, ◌≤◌, ◌^◌, ◌==◌, List, [], ◌∷◌, ◌++◌, append-nil, length, map, filter, Bool, true, false, cond, Option, Some, None, refl, sym, ap, ◌∙◌, subst, ⊎_elim, ◌⊎◌, inl, inr, is_some, arith, nat_lt, nat_le, slice_get, eq-eqb}
use Rattle.std.specs.Prelude.{◌&&◌, option_map}
use Rattle.std.specs.List.{AllByRecursion}
use Rattle.std.proofs.lemmas.Bool.{and_parts, leb-true}
use Rattle.std.proofs.lemmas.Option.{slice_get-map, slice_get_within}
use Rattle.std.proofs.lemmas.List.{length-map}
use Rattle.apply_model.specs.declared.details.note.Note.{Note}
use Rattle.apply_model.specs.declared.plan.mode.Mode.{Mode}
use Rattle.apply_model.specs.declared.plan.mode.Mode.TheVariants.{Managed, DataSource}
use Rattle.apply_model.specs.declared.plan.step_kind.StepKind.TheVariants as kind
use Rattle.stream_check.specs.declared.messages.action.Action.TheVariants.{Read}
use Rattle.apply_events.specs.declared.event.Event.{Event}
use Rattle.apply_events.specs.declared.lanes.lane_time.LaneTime.{LaneTime}
use Rattle.apply_events.specs.declared.lanes.turn.StartedTurn.{StartedTurn}
use Rattle.apply_events.specs.declared.what.What.{What}
use Rattle.apply_events.specs.declared.what.What.TheVariants.{Progress}
use Rattle.apply_events.specs.ChangeEvents.{in_turn}
use Rattle.apply_events.specs.ProgressTimes.{progress_times}
use Rattle.apply_events.specs.Provisions.{times_within}
use Rattle.apply_events.specs.Step.{Step, step_of, steps_of}
use Rattle.apply_events.specs.StepEvents.{goes_on, step_events, step_time}
use Rattle.apply_events.specs.Waits.Turn.{single}
use Rattle.apply_planning.specs.declared.told.Told.{Told}
use Rattle.apply_planning.specs.PlanningWork.{change_of, is_error, planning_work}
use Rattle.apply_planning.specs.ToldEvents.{ends, events_of, told_event}
use Rattle.apply_planning.proofs.PlannedWork.{begun_one, object_at, one_step}
use Rattle.apply_planning.proofs.TurnEvents.{its_events}
use Rattle.laws_check.specs.Texts.{IsSmall}
use Rattle.laws_check.specs.WholeSteps.{AreOfSteps, IsOfWholeSteps, events_of_change}
use Rattle.laws_check.proofs.BetweenSteps.{Passes, along_goes}
use Rattle.laws_check.proofs.Errors.{IsPlanned}
use Rattle.laws_check.proofs.Parts.{Each, each_weaker}
use Rattle.laws_check.proofs.Phases.{Phase, between, under_way, unexplained}
use Rattle.laws_check.proofs.Tallies.{are_planned, is_within}
use Rattle.laws_command_check.proofs.Planning.{Course, Courses}

-- ---- the events of an object

module _ (told : List Told) (c : ℕ) (one : Told) (is : slice_get told c ≡ Some one) (lane : ℕ) (begin : LaneTime) where
  of_step : step_events lane (step_of (planning_work told) c 0 kind.Read) begin.second ≡ events_of one (record { turn = single c 0; lane = lane; begin = begin })
  of_step =
      sym (append-nil (step_events lane (step_of (planning_work told) c 0 kind.Read) begin.second))
      ∙ sym (ap (λ (steps : List Step). in_turn (step_events lane) step_time steps begin.second) (begun_one told c one is))
      ∙ its_events told c one is lane begin

-- an object has no events, or those of one start
pub its_part : (told : List Told) (c : ℕ) (one : Told) → slice_get told c ≡ Some one → (es : List Event) → AreOfSteps (steps_of (planning_work told) c) es
    → (es ≡ []) ⊎ ((turn : StartedTurn) × (turn.turn.change ≡ c) × (es ≡ events_of one turn))
its_part told c one is es are =
    ⊎_elim
    (λ (none : es ≡ []). inl none)
    (λ (some : (worker : ℕ) × (begin : ℕ) × (rest : List Event) × (es ≡ step_events worker (step_of (planning_work told) c 0 kind.Read) begin ++ rest) × (goes_on (step_of (planning_work told) c 0 kind.Read) ≡ true → rest ≡ []) × (goes_on (step_of (planning_work told) c 0 kind.Read) ≡ false → rest ≡ [])).
    let at : LaneTime = record { second = some.1; round = 0 } in
    inr (
      record { turn = single c 0; lane = some.0; begin = at },
      refl,
      some.3 ∙ ap (λ (l : List Event). step_events some.0 (step_of (planning_work told) c 0 kind.Read) some.1 ++ l) (no_more (goes_on (step_of (planning_work told) c 0 kind.Read)) some.2 some.4 some.5) ∙ append-nil (step_events some.0 (step_of (planning_work told) c 0 kind.Read) some.1) ∙ of_step told c one is some.0 at,
    ))
    (subst (λ (steps : List Step). AreOfSteps steps es) (one_step told c one is) are)
  where
    no_more : (b : Bool) (rest : List Event) → (b ≡ true → rest ≡ []) → (b ≡ false → rest ≡ []) → rest ≡ []
    no_more true rest on off = on refl
    no_more false rest on off = off refl

abbrev seconds_of : Phase → ℕ
seconds_of between = 0
seconds_of (under_way k t b) = t
seconds_of unexplained = 0

seconds_same : (low last : ℕ) → under_way Read low false ≡ under_way Read last false → low ≡ last
seconds_same low last e = ap seconds_of e

module _ (told : List Told) (one : Told) (turn : StartedTurn) where
  abbrev told_at : ℕ × What → Event
  told_at p = told_event turn (turn.begin.second + p.0) p.1

  refresh_goes_on : (After : Option ℕ → Type 0) (times : List ℕ) (rest : List Event) → Course told After Managed (Some 0) rest → Course told After Managed (Some 0) (map told_at (map (λ p. (p, Progress p)) times) ++ rest)
  refresh_goes_on After [] rest course = course
  refresh_goes_on After (p ∷ times) rest course = (tt, refresh_goes_on After times rest course)

  read_goes_on : (After : Option ℕ → Type 0) (times : List ℕ) (low last : ℕ) (rest : List Event) → Passes ⊥ Read (under_way Read low false) (map (λ p. (p, Progress p)) times) (under_way Read last false)
      → Course told After DataSource (Some last) rest → Course told After DataSource (Some low) (map told_at (map (λ p. (p, Progress p)) times) ++ rest)
  read_goes_on After [] low last rest passes course = let same : low ≡ last = seconds_same low last passes in subst (λ (n : ℕ). Course told After DataSource (Some n) rest) (sym same) course
  read_goes_on After (p ∷ times) low last rest passes course =
      ((low, refl, passes.1.1), read_goes_on After times p last rest (subst (λ (q : Phase). Passes ⊥ Read q (map (λ p. (p, Progress p)) times) (under_way Read last false)) passes.1.2 passes.2) course)

  -- ---- its end

  abbrev ends_at : (fails warns : Bool) → List Event
  ends_at fails warns = map (λ what. told_event turn (turn.begin.second + one.seconds) what) (ends one.seconds fails warns)

  module _ (After : Option ℕ → Type 0) (ended : After None) where
    -- where the object failed, it stays open
    abbrev StaysOpen : Option Note → Type 0
    StaysOpen o = (note : Note) → o ≡ Some note → (last : ℕ) → After (Some last)

    refresh_ends : (o : Option Note) → StaysOpen o → Course told After Managed (Some 0) (ends_at (is_error o) (is_some o))
    refresh_ends None open_so = (refl, ended)
    refresh_ends (Some note) open_so = of_test (is_error (Some note))
      where
        of_test : (b : Bool) → Course told After Managed (Some 0) (ends_at b true)
        of_test true = (tt, (tt, open_so note refl 0))
        of_test false = (tt, open_so note refl 0)

    read_ends : (low : ℕ) → low ≤ one.seconds → (o : Option Note) → StaysOpen o → Course told After DataSource (Some low) (ends_at (is_error o) (is_some o))
    read_ends low few None open_so = ((low, refl, few), ended)
    read_ends low few (Some note) open_so = of_test (is_error (Some note))
      where
        of_test : (b : Bool) → Course told After DataSource (Some low) (ends_at b true)
        of_test true = (tt, (tt, open_so note refl low))
        of_test false = (tt, open_so note refl low)

    pub its_course : (m : Mode) → StaysOpen one.failure → Course told After m None (events_of one turn)
    its_course Managed open_so = (refl, refresh_goes_on After (times_within one.seconds 0 one.seconds) (ends_at (is_error one.failure) (is_some one.failure)) (refresh_ends one.failure open_so))
    its_course DataSource open_so =
        let along = along_goes ⊥ Read one.seconds 0 [] (inl refl) (omega arith) in
        (refl, read_goes_on After (times_within one.seconds 0 one.seconds) 0 along.0 (ends_at (is_error one.failure) (is_some one.failure)) along.2 (read_ends along.0 along.1 one.failure open_so))

-- ---- all objects

-- all courses, whatever is so in the end
abbrev pub Anyhow : Told → Option ℕ → Type 0
Anyhow one o = Unit {0}

pub all_courses : (told : List Told) (events : List Event) → ((c : ℕ) → c < length (planning_work told).plan.changes → AreOfSteps (steps_of (planning_work told) c) (events_of_change c events))
    → Courses told Anyhow (λ c. None) events
all_courses told events whole c one is =
    let known : c < length (planning_work told).plan.changes = slice_get_within (planning_work told).plan.changes c (change_of one) (slice_get-map change_of told c ∙ ap (option_map change_of) is) in
    ⊎_elim
    (λ (none : events_of_change c events ≡ []). subst (Course told (Anyhow one) one.object.mode None) (sym none) tt)
    (λ (some : (turn : StartedTurn) × (turn.turn.change ≡ c) × (events_of_change c events ≡ events_of one turn)). subst (Course told (Anyhow one) one.object.mode None) (sym some.2) (its_course told one some.0 (Anyhow one) tt one.object.mode (λ note failure last. tt)))
    (its_part told c one is (events_of_change c events) (whole c known))

-- each event is of an object
pub all_known : (told : List Told) (events : List Event) → IsOfWholeSteps (planning_work told) events → Each (λ e. e.change < length told) events
all_known told events steps =
    let plan = (planning_work told).plan in
    let same : length plan.changes ≡ length told = length-map told change_of in
    each_weaker (IsPlanned plan) (λ e. e.change < length told) (λ e planned. subst (λ (n : ℕ). e.change < n) same (is_within plan e planned)) events (are_planned plan events steps.planned)

-- ---- small numbers

-- what holds of the events of each change holds of all
of_parts : (P : Event → Type 0) (limit : ℕ) (es : List Event) → Each (λ e. e.change < limit) es → ((c : ℕ) → c < limit → Each P (events_of_change c es)) → AllByRecursion P es
of_parts P limit [] known each = tt
of_parts P limit (e ∷ es) known each =
    let its : events_of_change e.change (e ∷ es) ≡ e ∷ events_of_change e.change es = ap (λ (b : Bool). cond b (e ∷ events_of_change e.change es) (events_of_change e.change es)) (eq-eqb e.change e.change refl) in
    ((subst (Each P) its (each e.change known.0)).0, of_parts P limit es known.1 (λ c less. rest c (e.change == c) (each c less)))
  where
    rest : (c : ℕ) (b : Bool) → Each P (cond b (e ∷ events_of_change c es) (events_of_change c es)) → Each P (events_of_change c es)
    rest c true all = all.1
    rest c false all = all

module _ (one : Told) (turn : StartedTurn) (short : one.seconds < 2 ^ 64) where
  abbrev comes : ℕ × What → Event
  comes p = told_event turn (turn.begin.second + p.0) p.1

  abbrev progresses : ℕ → ℕ × What
  progresses p = (p, Progress p)

  abbrev Small : Event → Type 0
  Small e = IsSmall e.what

  small_progress : (rest : List Event) → Each Small rest → (times : List ℕ) → Each Small (map comes (map progresses (filter (λ p. nat_lt 0 p && nat_le p one.seconds) times)) ++ rest)
  small_progress rest small [] = small
  small_progress rest small (p ∷ times) = of_test (nat_lt 0 p && nat_le p one.seconds) refl (small_progress rest small times)
    where
      of_test : (b : Bool) → (nat_lt 0 p && nat_le p one.seconds) ≡ b
          → Each Small (map comes (map progresses (filter (λ p. nat_lt 0 p && nat_le p one.seconds) times)) ++ rest)
          → Each Small (map comes (map progresses (cond b (p ∷ filter (λ p. nat_lt 0 p && nat_le p one.seconds) times) (filter (λ p. nat_lt 0 p && nat_le p one.seconds) times))) ++ rest)
      of_test true is others = let most : p ≤ one.seconds = leb-true p one.seconds (and_parts (nat_lt 0 p) (nat_le p one.seconds) is).1 in ((let e : p < 2 ^ 64 = omega (arith, short) in e), others)
      of_test false is others = others

  small_ends : (fails warns : Bool) → Each Small (map (λ what. told_event turn (turn.begin.second + one.seconds) what) (ends one.seconds fails warns))
  small_ends true warns = (short, (tt, tt))
  small_ends false true = (tt, tt)
  small_ends false false = (short, tt)

  its_small : Each Small (events_of one turn)
  its_small = (tt, small_progress (map (λ what. told_event turn (turn.begin.second + one.seconds) what) (ends one.seconds (is_error one.failure) (is_some one.failure))) (small_ends (is_error one.failure) (is_some one.failure)) (progress_times one.seconds))

pub all_small : (told : List Told) (events : List Event) → ((c : ℕ) (one : Told) → slice_get told c ≡ Some one → one.seconds < 2 ^ 64) → IsOfWholeSteps (planning_work told) events → AllByRecursion (λ (e : Event). IsSmall e.what) events
all_small told events short steps =
    of_parts (λ e. IsSmall e.what) (length told) events (all_known told events steps) (λ c less.
    let found = object_at told c less in
    let known : c < length (planning_work told).plan.changes = slice_get_within (planning_work told).plan.changes c (change_of found.0) (slice_get-map change_of told c ∙ ap (option_map change_of) found.1) in
    ⊎_elim
    (λ (none : events_of_change c events ≡ []). subst (Each (λ e. IsSmall e.what)) (sym none) tt)
    (λ (some : (turn : StartedTurn) × (turn.turn.change ≡ c) × (events_of_change c events ≡ events_of found.0 turn)). subst (Each (λ e. IsSmall e.what)) (sym some.2) (its_small found.0 some.0 (short c found.0 found.1)))
    (its_part told c found.0 found.1 (events_of_change c events) (steps.whole c known)))
