-- The turn that is ready first starts first, and the starts never fall.
use Rattle.std.proofs.Common.{◌≡◌, ℕ, zero, suc, ◌+◌, ◌<◌, All, Bool, true, false, ◌&&◌, ◌||◌, List, [], ◌∷◌, ◌++◌, Option, Some, None, cond, get_or, length, set, refl, sym, ap, ◌∙◌, subst, ⊎_elim, ◌⊎◌, inl, inr, arith}
use Rattle.std.specs.Prelude.{not, option_map}
use Rattle.std.specs.List.{Contains, list_all}
use Rattle.std.proofs.lemmas.Bool.{and_parts, cases_Bool, cases_eq, true≢false}
use Rattle.std.proofs.lemmas.List.{get_or-set_other, get_or-set_same}
use Rattle.std.proofs.lemmas.List.Elements.{All-cons, All-contains_itself, All-nil, All-weaker}
use Rattle.apply_model.specs.declared.script.wait.Wait.{Wait}
use Rattle.apply_events.specs.declared.lanes.lane_time.LaneTime.{LaneTime}
use Rattle.apply_events.specs.declared.lanes.turn.StartedTurn.{StartedTurn}
use Rattle.apply_events.specs.declared.lanes.turn.Turn.{Turn}
use Rattle.apply_events.specs.Step.{Step, Work}
use Rattle.apply_events.specs.StepEvents.{goes_on, step_time}
use Rattle.apply_events.specs.Waits.Done.{done_among, done_at, done_by, done_in, end_of_turn, first_some, later_if_both, ready_at}
use Rattle.apply_events.specs.Waits.LaneTime.{IsNoLater, first_lane_time, is_earlier, later_by, later_of, next_round}
use Rattle.apply_events.specs.Waits.Schedule.{Ready, earlier_of, first_earliest, first_ready, free_after, is_same_turn, is_started, next_of, ready_turn, schedule, scheduled, started_in, with_next}
use Rattle.apply_events.specs.Waits.Turn.{begun_steps, turns, waits_of_turn}
use Rattle.apply_events.proofs.Waits.Free.{first_earliest_lt, length-free}
use Rattle.apply_events.proofs.Waits.Members.{in_cases, not_in_none}
use Rattle.apply_events.proofs.Waits.Moments.{end_no_earlier, first_no_later, later_no_earlier, later_no_later, no_later_on, no_later_refl, second_no_later, emits}
use Rattle.apply_events.proofs.Waits.StartedTurns.{each_scheduled, each_split, is_fit}
use Rattle.apply_events.proofs.Waits.TurnEvents.{done_first, done_if, done_later, done_in_turn}
use Rattle.laws_run.specs.WaitingSteps.{IsNext}
use Rattle.laws_run.proofs.Waited.{both_are, round_is}

-- ---- the earliest

no_later_if : (a b : LaneTime) → is_earlier b a ≡ false → IsNoLater a b
no_later_if a b no_earlier = ⊎_elim
    (λ (c : (is_earlier b a ≡ true) × IsNoLater b a). absurd (true≢false (sym c.0 ∙ no_earlier)))
    (λ (c : (is_earlier b a ≡ false) × IsNoLater a b). c.1)
    (emits b a)

not_not : (t : Bool) → not t ≡ true → t ≡ false
not_not true is = absurd (true≢false (sym is))
not_not false is = refl

all_later : (m : LaneTime) (ms : List LaneTime) (k : ℕ) → list_all (λ other. not (is_earlier other m)) ms ≡ true → k < length ms → IsNoLater m (get_or ms k first_lane_time)
all_later m [] k all lt = absurd (omega arith)
all_later m (x ∷ ms) zero all lt = no_later_if m x (not_not (is_earlier x m) (and_parts (not (is_earlier x m)) (list_all (λ other. not (is_earlier other m)) ms) all).0)
all_later m (x ∷ ms) (suc k) all lt = all_later m ms k (and_parts (not (is_earlier x m)) (list_all (λ other. not (is_earlier other m)) ms) all).1 (omega arith)

-- if an element is not the earliest, a later element is earlier
one_earlier : (m : LaneTime) (ms : List LaneTime) → list_all (λ other. not (is_earlier other m)) ms ≡ false → (k : ℕ) × (k < length ms) × IsNoLater (get_or ms k first_lane_time) m
one_earlier m [] none = absurd (true≢false none)
one_earlier m (x ∷ ms) none = ⊎_elim
    (λ (yes : is_earlier x m ≡ true). (0, omega arith, early x yes))
    (λ (later : is_earlier x m ≡ false).
    let rest = one_earlier m ms (sym (ap (λ t. not t && list_all (λ other. not (is_earlier other m)) ms) later) ∙ none) in
    let lt = rest.1 in (suc rest.0, omega arith, rest.2))
    (cases_Bool (is_earlier x m))
  where
    early : (x : LaneTime) → is_earlier x m ≡ true → IsNoLater x m
    early x its = ⊎_elim
        (λ (c : (is_earlier x m ≡ true) × IsNoLater x m). c.1)
        (λ (c : (is_earlier x m ≡ false) × IsNoLater m x). absurd (true≢false (sym its ∙ c.0)))
        (emits x m)

-- the lane that is free first
least : (ms : List LaneTime) (k : ℕ) → k < length ms → IsNoLater (get_or ms (first_earliest ms) first_lane_time) (get_or ms k first_lane_time)
least [] k lt = absurd (omega arith)
least (m ∷ ms) k lt = ⊎_elim
    (λ (all : list_all (λ other. not (is_earlier other m)) ms ≡ true).
    subst (λ place. IsNoLater (get_or (m ∷ ms) place first_lane_time) (get_or (m ∷ ms) k first_lane_time)) (sym (ap (λ t. cond t 0 (first_earliest ms + 1)) all)) (at_head k all lt))
    (λ (none : list_all (λ other. not (is_earlier other m)) ms ≡ false).
    let place : first_earliest (m ∷ ms) ≡ suc (first_earliest ms) = ap (λ t. cond t 0 (first_earliest ms + 1)) none ∙ omega arith in
    subst (λ p. IsNoLater (get_or (m ∷ ms) p first_lane_time) (get_or (m ∷ ms) k first_lane_time)) (sym place) (after k none (λ j less. least ms j less) lt))
    (cases_Bool (list_all (λ other. not (is_earlier other m)) ms))
  where
    at_head : (k : ℕ) → list_all (λ other. not (is_earlier other m)) ms ≡ true → k < length (m ∷ ms) → IsNoLater m (get_or (m ∷ ms) k first_lane_time)
    at_head zero all lt = no_later_refl m
    at_head (suc k) all lt = all_later m ms k all (omega arith)

    after : (k : ℕ) → list_all (λ other. not (is_earlier other m)) ms ≡ false → ((j : ℕ) → j < length ms → IsNoLater (get_or ms (first_earliest ms) first_lane_time) (get_or ms j first_lane_time))
        → k < length (m ∷ ms) → IsNoLater (get_or ms (first_earliest ms) first_lane_time) (get_or (m ∷ ms) k first_lane_time)
    after zero none rest lt =
        let one = one_earlier m ms none in
        no_later_on (get_or ms (first_earliest ms) first_lane_time) (get_or ms one.0 first_lane_time) m (rest one.0 one.1) one.2
    after (suc k) none rest lt = rest k (omega arith)

-- ---- the turn that is ready first

earlier_left : (y : Ready) (b : Option Ready) → (r : Ready) × (earlier_of (Some y) b ≡ Some r) × IsNoLater r.at y.at
earlier_left y None = (y, refl, no_later_refl y.at)
earlier_left y (Some b) = ⊎_elim
    (λ (c : (is_earlier b.at y.at ≡ true) × IsNoLater b.at y.at). (b, ap (λ t. cond t (Some b) (Some y)) c.0, c.1))
    (λ (c : (is_earlier b.at y.at ≡ false) × IsNoLater y.at b.at). (y, ap (λ t. cond t (Some b) (Some y)) c.0, no_later_refl y.at))
    (emits b.at y.at)

earlier_right : (a : Option Ready) (y : Ready) → (r : Ready) × (earlier_of a (Some y) ≡ Some r) × IsNoLater r.at y.at
earlier_right None y = (y, refl, no_later_refl y.at)
earlier_right (Some a) y = ⊎_elim
    (λ (c : (is_earlier y.at a.at ≡ true) × IsNoLater y.at a.at). (y, ap (λ t. cond t (Some y) (Some a)) c.0, no_later_refl y.at))
    (λ (c : (is_earlier y.at a.at ≡ false) × IsNoLater a.at y.at). (a, ap (λ t. cond t (Some y) (Some a)) c.0, c.1))
    (emits y.at a.at)

some_first : (w : Work) (taken : List StartedTurn) (ts : List Turn) (turn : Turn) (at : LaneTime) → Contains ts turn → is_started taken turn ≡ false → ready_at w taken turn ≡ Some at
    → (r : Ready) × (first_ready w taken ts ≡ Some r) × IsNoLater r.at at
some_first w taken [] turn at there new is = absurd (not_in_none turn there)
some_first w taken (x ∷ ts) turn at there new is = ⊎_elim
    (λ (same : x ≡ turn).
    let next : next_of w taken x ≡ Some (ready_turn turn at) =
    ap (next_of w taken) same ∙ ap (λ t. cond t None (option_map (ready_turn turn) (ready_at w taken turn))) new ∙ ap (option_map (ready_turn turn)) is in
    let located = earlier_left (ready_turn turn at) (first_ready w taken ts) in
    (located.0, ap (λ a. earlier_of a (first_ready w taken ts)) next ∙ located.1, located.2))
    (λ (later : Contains ts turn).
    let rest = some_first w taken ts turn at later new is in
    let located = earlier_right (next_of w taken x) rest.0 in
    (located.0, ap (earlier_of (next_of w taken x)) rest.1 ∙ located.1, no_later_on located.0.at rest.0.at at located.2 rest.2))
    (in_cases x ts turn there)

ready_first : (w : Work) (taken : List StartedTurn) (ready : Ready) (turn : Turn) (at : LaneTime) → first_ready w taken (turns w) ≡ Some ready → Contains (turns w) turn → is_started taken turn ≡ false → ready_at w taken turn ≡ Some at
    → IsNoLater ready.at at
ready_first w taken ready turn at located there new is =
    let first = some_first w taken (turns w) turn at there new is in
    let same : first.0 ≡ ready = some_same first.0 ready (sym first.1 ∙ located) in
    subst (λ (r : Ready). IsNoLater r.at at) same first.2
  where
    some_same : (a b : Ready) → Some a ≡ Some b → a ≡ b
    some_same a b h = cc

-- ---- one turn more

done_from : (k : ℕ) (at : LaneTime) (steps : List Step) (m : LaneTime) → done_among k at steps ≡ Some m → IsNoLater at m
done_from k at [] m is = absurd cc
done_from k at (s ∷ steps) m is = ⊎_elim
    (λ (here : s.number ≡ k).
    let ends = done_if (goes_on s) (later_by (step_time s) at) m (sym (done_first k at s steps here) ∙ is) in
    subst (IsNoLater at) ends.1 (later_no_earlier at (step_time s)))
    (λ (other : s.number ≡ k → ⊥).
    no_later_on at (later_by (step_time s) at) m (later_no_earlier at (step_time s)) (done_from k (later_by (step_time s) at) steps m (sym (done_later k at s steps other) ∙ is)))
    (cases_eq s.number k)

located_cases : (a b : Option LaneTime) (m : LaneTime) → first_some a b ≡ Some m → (a ≡ Some m) ⊎ (b ≡ Some m)
located_cases None b m is = inr is
located_cases (Some a) b m is = inl is

next_no_earlier : (m : LaneTime) → IsNoLater m (next_round m)
next_no_earlier m = (omega arith, λ is. omega arith)

-- what becomes ready by a further turn is ready no earlier than that begins
later_ready : (w : Work) (x : StartedTurn) (taken : List StartedTurn) (names : List Wait) (at : LaneTime) → done_by w (x ∷ taken) names ≡ Some at → IsNoLater x.begin at ⊎ (done_by w taken names ≡ Some at)
later_ready w x taken [] at is = inr is
later_ready w x taken (name ∷ names) at is =
    let both = both_are (option_map next_round (done_at w (x ∷ taken) name)) (done_by w (x ∷ taken) names) at is in
    let p = both.0 in let q = both.1 in
    let one = round_is (done_at w (x ∷ taken) name) p both.2 in
    let m = one.0 in
    let first : IsNoLater p at = subst (IsNoLater p) (sym both.4) (first_no_later p q) in
    let second : IsNoLater q at = subst (IsNoLater q) (sym both.4) (second_no_later p q) in ⊎_elim
    (λ (here : done_in w x name ≡ Some m).
    let begins = done_from name.step x.begin (begun_steps w x.turn) m (done_in_turn w x name m here).among in
    inl (no_later_on x.begin m at begins (no_later_on m p at (subst (IsNoLater m) (sym one.2) (next_no_earlier m)) first)))
    (λ (earlier : done_at w taken name ≡ Some m). ⊎_elim
    (λ (late : IsNoLater x.begin q). inl (no_later_on x.begin q at late second))
    (λ (same : done_by w taken names ≡ Some q).
    inr (ap (λ a. later_if_both (option_map next_round a) (done_by w taken names)) earlier ∙ ap (later_if_both (Some (next_round m))) same
    ∙ ap (λ r. let located : Option LaneTime = Some (later_of r q) in located) (sym one.2) ∙ ap (λ r. let located : Option LaneTime = Some r in located) (sym both.4)))
    (later_ready w x taken names q both.3))
    (located_cases (done_in w x name) (done_at w taken name) m one.1)

module _ (w : Work) (n : ℕ) (some : 0 < n) where
  abbrev free_at : List StartedTurn → ℕ → LaneTime
  free_at taken lane = get_or (free_after w n taken) lane first_lane_time

  abbrev lane_of : List StartedTurn → ℕ
  lane_of taken = first_earliest (free_after w n taken)

  inside : (taken : List StartedTurn) → lane_of taken < length (free_after w n taken)
  inside taken = let size = length-free w n taken in first_earliest_lt (free_after w n taken) (omega arith)

  free_least : (taken : List StartedTurn) (lane : ℕ) → lane < n → IsNoLater (free_at taken (lane_of taken)) (free_at taken lane)
  free_least taken lane lt = let size = length-free w n taken in least (free_after w n taken) lane (omega arith)

  -- the next but one begins no earlier than the next
  step_begins : (taken : List StartedTurn) (ready ready' : Ready) → first_ready w taken (turns w) ≡ Some ready
      → first_ready w (started_in (free_after w n taken) ready ∷ taken) (turns w) ≡ Some ready'
      → IsNoLater (started_in (free_after w n taken) ready).begin (started_in (free_after w n (started_in (free_after w n taken) ready ∷ taken)) ready').begin
  step_begins taken ready ready' located located' =
      let free = free_after w n taken in
      let x = started_in free ready in
      let now = x ∷ taken in
      let lane = lane_of taken in
      let end = end_of_turn w x in
      let fit = is_fit w now (turns w) ready' located' in
      let f = free_at taken lane in
      let f' = free_at now (lane_of now) in
      let begin' = later_of ready'.at f' in
      let ready_no_later : IsNoLater ready.at ready'.at = ⊎_elim
      (λ (late : IsNoLater x.begin ready'.at). no_later_on ready.at x.begin ready'.at (first_no_later ready.at f) late)
      (λ (same : done_by w taken (waits_of_turn w ready'.turn) ≡ Some ready'.at).
      ready_first w taken ready ready'.turn ready'.at located fit.is_known (not_second (is_same_turn x.turn ready'.turn) (is_started taken ready'.turn) fit.is_new) same)
      (later_ready w x taken (waits_of_turn w ready'.turn) ready'.at fit.is_ready) in
      let fits = inside taken in
      let fits' = inside now in let size' = length-free w n now in let size = length-free w n taken in
      let frees : IsNoLater f f' = ⊎_elim
      (λ (same : lane_of now ≡ lane).
      let at : f' ≡ end = ap (λ l. get_or (set free lane end) l first_lane_time) same ∙ get_or-set_same free lane end first_lane_time fits in
      subst (IsNoLater f) (sym at) (no_later_on f x.begin end (second_no_later ready.at f) (end_no_earlier x.begin (begun_steps w x.turn))))
      (λ (other : lane_of now ≡ lane → ⊥).
      subst (IsNoLater f) (sym (get_or-set_other free lane (lane_of now) end first_lane_time other)) (free_least taken (lane_of now) (omega arith)))
      (cases_eq (lane_of now) lane) in
      later_no_later ready.at f begin' (no_later_on ready.at ready'.at begin' ready_no_later (first_no_later ready'.at f')) (no_later_on f f' begin' frees (second_no_later ready'.at f'))
    where
      not_second : (a b : Bool) → (a || b) ≡ false → b ≡ false
      not_second true b is = absurd (true≢false is)
      not_second false b is = is

  -- ---- along the schedule

  abbrev Top : List StartedTurn → LaneTime → Type 0
  Top [] m = Unit {0}
  Top (x ∷ taken) m = IsNoLater x.begin m

  abbrev Chain : List StartedTurn → Type 0
  Chain [] = Unit {0}
  Chain (x ∷ taken) = Top taken x.begin × Chain taken

  abbrev Goes : List StartedTurn → Type 0
  Goes taken = Chain taken × ((ready : Ready) → first_ready w taken (turns w) ≡ Some ready → Top taken (started_in (free_after w n taken) ready).begin)

  goes_next : (taken : List StartedTurn) (located : Option Ready) → first_ready w taken (turns w) ≡ located → Goes taken → Goes (with_next w n taken located)
  goes_next taken None is goes = goes
  goes_next taken (Some ready) is goes = ((goes.1 ready is, goes.0), λ ready' is'. step_begins taken ready ready' is is')

  goes : (count : ℕ) → Goes (scheduled w n count)
  goes zero = (tt, λ ready is. tt)
  goes (suc count) = goes_next (scheduled w n count) (first_ready w (scheduled w n count) (turns w)) refl (goes count)

  below_top : (taken : List StartedTurn) (m : LaneTime) → Chain taken → Top taken m → All (λ other. IsNoLater other.begin m) taken
  below_top [] m chain top = All-nil _
  below_top (x ∷ taken) m chain top =
      All-cons (λ (other : StartedTurn). IsNoLater other.begin m) x taken top
      (All-weaker (λ (other : StartedTurn). IsNoLater other.begin x.begin) (λ (other : StartedTurn). IsNoLater other.begin m) (λ other low. no_later_on other.begin x.begin m low top) taken (below_top taken x.begin chain.1 chain.0))

  pub is_next : (later before : List StartedTurn) (one : StartedTurn) → schedule w n ≡ later ++ one ∷ before → IsNext w n before one
  is_next later before one is = each_split (IsNext w n) later before one (schedule w n)
      (each_scheduled w n (IsNext w n) (λ count ready located.
      let taken = scheduled w n count in
      let fit = is_fit w taken (turns w) ready located in
      record {
        at = ready.at;
        ready = fit.is_ready;
        first = All-weaker (Contains (turns w)) (λ turn. is_started taken turn ≡ false → (m : LaneTime) → ready_at w taken turn ≡ Some m → IsNoLater ready.at m)
            (λ turn there new m its. ready_first w taken ready turn m located there new its) (turns w) (All-contains_itself (turns w));
        begin = refl;
        free = λ lane lt. free_least taken lane lt;
        no_earlier = below_top taken (started_in (free_after w n taken) ready).begin (goes count).0 ((goes count).1 ready located);
      }) (length (turns w))) is
