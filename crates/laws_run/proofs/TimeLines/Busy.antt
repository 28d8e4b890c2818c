-- By when lanes end, and when they are at work.
use Rattle.std.proofs.Common.{◌≡◌, ◌≢◌, ℕ, suc, ◌+◌, ◌*◌, ◌<◌, ◌≤◌, nat_eq, nat_le, nat_lt, Bool, true, false, ◌&&◌, ◌||◌, not, List, [], ◌∷◌, ◌++◌, All, cond, filter, get_or, length, map, sum_by, sym, refl, ap, ◌∙◌, subst, ⊎_elim, arith, eq-eqb, ne_eqb, lt-ltb, Option, Some, None}
use Rattle.std.specs.Prelude.{is_some, option_map, option_to_list, slice_get, IfSome}
use Rattle.std.specs.List.{range_with_len}
use Rattle.std.proofs.Math.Bool.{or-true}
use Rattle.std.proofs.lemmas.Bool.{and_from, and_parts, cases_Bool, cases_lt, leb-false, ltb-false, true≢false}
use Rattle.std.proofs.lemmas.Bool.Decides.{eqb_tells}
use Rattle.std.proofs.lemmas.List.Elements.{All-cons, All-filter, All-head, All-nil, All-tail, All-weaker}
use Rattle.std.proofs.lemmas.List.Folds.{list_any-append, list_any_none}
use Rattle.std.proofs.lemmas.List.Sums.{sum_by-cons}
use Rattle.apply_hooks.specs.declared.phase.Phase.TheVariants.{Pre}
use Rattle.apply_events.specs.declared.event.Event.{Event}
use Rattle.apply_events.specs.declared.what.What.{What}
use Rattle.apply_events.specs.declared.what.What.TheVariants.{Halted, Start, WarnNote}
use Rattle.apply_events.specs.ChangeEvents.{begun, change_events, in_turn, span_of}
use Rattle.apply_events.specs.OfWorker.{of_worker}
use Rattle.apply_events.specs.Partition.{count_of}
use Rattle.apply_events.specs.Step.{Step, Work, steps_of}
use Rattle.apply_events.specs.StepEvents.{between, end_of, endings, event, halts, notes, phase_after, seconds_of, start_events, step_events, step_time, emits_end}
use Rattle.apply_events.specs.Lanes.Dealing.{lanes}
use Rattle.laws_run.specs.ChangesUnderWay.{has_event_after, has_event_by, is_under_way_at, waits_at}
use Rattle.laws_run.specs.Sharing.{free_before}
use Rattle.apply_events.specs.Lanes.TimeLine.{IsTimeLine, lane_events}
use Rattle.apply_events.proofs.Dealing.{count_later}
use Rattle.apply_events.proofs.Moments.{change_first}
use Rattle.apply_events.proofs.Parts.{RisesFrom, none_below, rises_from_zero}
use Rattle.laws_run.proofs.TimeLines.Open.{Names, change_names}
use Rattle.apply_events.proofs.TimeLines.Order.{here}
use Rattle.laws_run.proofs.TimeLines.Partition.{is_partition}
use Rattle.laws_run.proofs.TimeLines.Sharing.{never_idle, no_end_before_the_mean}
use Rattle.laws_run.proofs.TimeLines.StepTimes.{IsOfLane, lane_on_time}

-- ---- events by a time

abbrev By : (end : ℕ) → Event → Type 0
By end e = e.at ≤ end

all_front : (P : Event → Type 0) (xs ys : List Event) → All P (xs ++ ys) → All P xs
all_front P [] ys all = All-nil P
all_front P (x ∷ xs) ys all = All-cons P x xs (All-head P x (xs ++ ys) all) (all_front P xs ys (All-tail P x (xs ++ ys) all))

all_after : (P : Event → Type 0) (xs ys : List Event) → All P (xs ++ ys) → All P ys
all_after P [] ys all = all
all_after P (x ∷ xs) ys all = all_after P xs ys (All-tail P x (xs ++ ys) all)

turn_by : {X : Type 0} (events : X → ℕ → List Event) (time : X → ℕ) (end at : ℕ) (xs : List X)
    → ((x : X) (at : ℕ) → at ≤ end → All (By end) (events x at) → at + time x ≤ end)
    → at ≤ end → All (By end) (in_turn events time xs at) → at + sum_by time xs ≤ end
turn_by events time end at [] each le all = omega arith
turn_by events time end at (x ∷ xs) each le all =
    let here = each x at le (all_front (By end) (events x at) (in_turn events time xs (at + time x)) all) in
    let rest = turn_by events time end (at + time x) xs each here (all_after (By end) (events x at) (in_turn events time xs (at + time x)) all) in
    let sum = sum_by-cons time x xs in omega arith

-- the first event at the end of a step
ending_by : (w end at : ℕ) (s : Step) (emitted : Bool) (last : What) (others : List What) → All (By end) (map (λ what. event w s at what) (cond emitted (last ∷ others) (WarnNote ∷ []))) → at ≤ end
ending_by w end at s true last others all = All-head (By end) (event w s at last) (map (λ what. event w s at what) others) all
ending_by w end at s false last others all = All-head (By end) (event w s at WarnNote) [] all

started_by : (w end at : ℕ) (s : Step) → All (By end) (start_events w s at) → at + seconds_of s ≤ end
started_by w end at s all =
    let front = event w s at Start ∷ map (λ (p : ℕ × What). event w s (at + p.0) p.1) (between s) in
    let ends = map (λ what. event w s (at + seconds_of s) what) (endings s) in
    let halt = halts w s (phase_after s.fails) (at + seconds_of s) in
    ending_by w end (at + seconds_of s) s (emits_end s.fails s.only_warns) (end_of s.fails (seconds_of s)) (notes s.fails s.warns)
    (all_after (By end) front ends (all_front (By end) (front ++ ends) halt all))

step_by : (w end : ℕ) (s : Step) (at : ℕ) → at ≤ end → All (By end) (step_events w s at) → at + step_time s ≤ end
step_by w end s at le all = with_halt w end s at (s.halts Pre) le all
  where
    with_halt : (w end : ℕ) (s : Step) (at : ℕ) (located : Option ℕ) → at ≤ end
        → All (By end) (cond (is_some located) (option_to_list (option_map (λ hook. event w s at (Halted Pre hook)) located)) (start_events w s at))
        → at + cond (is_some located) 0 (seconds_of s) ≤ end
    with_halt w end s at None le all = started_by w end at s all
    with_halt w end s at (Some hook) le all = omega arith

change_by : (work : Work) (w end c at : ℕ) → at ≤ end → All (By end) (change_events work w c at) → at + span_of work c ≤ end
change_by work w end c at le all = turn_by (step_events w) step_time end at (begun (steps_of work c)) (step_by w end) le all

pub no_line_ends_before_the_mean : (work : Work) (n end : ℕ) (events : List Event) → 0 < n → IsTimeLine work n events → All (λ e. e.at ≤ end) events
    → sum_by (span_of work) (range_with_len 0 (length work.plan.changes)) ≤ n * end
no_line_ends_before_the_mean work n end events some line all =
    no_end_before_the_mean work n end some (λ w lt.
    let mine = get_or (lanes work n) w [] in
    let part : All (By end) (lane_events work n w) = subst (All (By end)) (line.interleaved.parts w lt) (All-filter (λ (e : Event). nat_eq e.worker w) (By end) events all) in
    let sum = turn_by (change_events work w) (span_of work) end 0 mine (change_by work w end) (omega arith) part in
    omega arith)

-- ---- tests of events

or_left : (a b : Bool) → a ≡ true → (a || b) ≡ true
or_left a b is = ap (λ x. x || b) is

or_right : (a b : Bool) → b ≡ true → (a || b) ≡ true
or_right a b is = ap (λ x. a || x) is ∙ or-true a

or_neither : (a b : Bool) → (a || b) ≡ false → (a ≡ false) × (b ≡ false)
or_neither true b h = absurd (true≢false h)
or_neither false b h = (refl, h)

abbrev is_by : (m c : ℕ) → Event → Bool
is_by m c e = nat_eq e.change c && nat_le e.at m

abbrev is_after : (m c : ℕ) → Event → Bool
is_after m c e = nat_eq e.change c && nat_lt m e.at

-- without an event by the time, all events are later
none_by : (m c : ℕ) (es : List Event) → All (Names c) es → has_event_by m c es ≡ false → All (λ e. m < e.at) es
none_by m c [] names none = All-nil (λ (e : Event). m < e.at)
none_by m c (e ∷ es) names none =
    let parts = or_neither (is_by m c e) (has_event_by m c es) none in
    let is = eq-eqb e.change c (All-head (Names c) e es names) in
    let late : nat_le e.at m ≡ false = sym (ap (λ b. b && nat_le e.at m) is) ∙ parts.0 in
    All-cons (λ (e : Event). m < e.at) e es (leb-false e.at m late) (none_by m c es (All-tail (Names c) e es names) parts.1)

-- without an event after the time, all events are by then
none_behind : (m c : ℕ) (es : List Event) → All (Names c) es → has_event_after m c es ≡ false → All (By m) es
none_behind m c [] names none = All-nil (By m)
none_behind m c (e ∷ es) names none =
    let parts = or_neither (is_after m c e) (has_event_after m c es) none in
    let is = eq-eqb e.change c (All-head (Names c) e es names) in
    let early : nat_lt m e.at ≡ false = sym (ap (λ b. b && nat_lt m e.at) is) ∙ parts.0 in
    All-cons (By m) e es (ltb-false m e.at early) (none_behind m c es (All-tail (Names c) e es names) parts.1)

-- no event at all
none_of_others : (m c : ℕ) (es : List Event) → All (λ e. e.change ≢ c) es → has_event_after m c es ≡ false
none_of_others m c es others =
    list_any_none (is_after m c) es (All-weaker (λ (e : Event). e.change ≢ c) (λ e. is_after m c e ≡ false) (λ e ne. ap (λ b. b && nat_lt m e.at) (ne_eqb e.change c ne)) es others)

-- a change that starts by the time has an event by then, if it has events
first_by : (m c at : ℕ) (es : List Event) → IfSome (slice_get es 0) (λ e. e.at ≡ at) → at ≤ m → All (λ e. m < e.at) es → es ≡ []
first_by m c at [] first le late = refl
first_by m c at (e ∷ es) first le late = let after : m < e.at = All-head (λ (e : Event). m < e.at) e es late in let is : e.at ≡ at = first in absurd (omega arith)

-- ---- a lane is at work until its changes are over

busy_first : (work : Work) (w m c at : ℕ) → at ≤ m → m < at + span_of work c
    → (has_event_by m c (change_events work w c at) ≡ true) × (has_event_after m c (change_events work w c at) ≡ true)
busy_first work w m c at le lt =
    let es = change_events work w c at in
    let names = change_names work w c at in
    let after : has_event_after m c es ≡ true = ⊎_elim
    (λ (yes : has_event_after m c es ≡ true). yes)
    (λ (no : has_event_after m c es ≡ false). let over = change_by work w m c at le (none_behind m c es names no) in absurd (omega arith))
    (cases_Bool (has_event_after m c es)) in
    let by : has_event_by m c es ≡ true = ⊎_elim
    (λ (yes : has_event_by m c es ≡ true). yes)
    (λ (no : has_event_by m c es ≡ false).
    let none = first_by m c at es (change_first work w c at) le (none_by m c es names no) in
    absurd (true≢false (sym after ∙ ap (has_event_after m c) none)))
    (cases_Bool (has_event_by m c es)) in
    (by, after)

busy_until : (work : Work) (w m at : ℕ) (xs : List ℕ) → at ≤ m → m < at + sum_by (span_of work) xs
    → (d : ℕ) × (is_under_way_at m d (in_turn (change_events work w) (span_of work) xs at) ≡ true)
busy_until work w m at [] le lt = absurd (omega arith)
busy_until work w m at (x ∷ xs) le lt =
    let first = change_events work w x at in
    let later = in_turn (change_events work w) (span_of work) xs (at + span_of work x) in
    let sum = sum_by-cons (span_of work) x xs in
    ⊎_elim
    (λ (now : m < at + span_of work x).
    let both = busy_first work w m x at le now in (
      x,
      and_from (has_event_by m x (first ++ later)) (has_event_after m x (first ++ later))
          (list_any-append (is_by m x) first later ∙ or_left (has_event_by m x first) (has_event_by m x later) both.0)
          (list_any-append (is_after m x) first later ∙ or_left (has_event_after m x first) (has_event_after m x later) both.1),
    ))
    (λ (over : at + span_of work x ≤ m).
    let rest = busy_until work w m (at + span_of work x) xs over (omega arith) in
    let d = rest.0 in
    let both = and_parts (has_event_by m d later) (has_event_after m d later) rest.1 in (
      d,
      and_from (has_event_by m d (first ++ later)) (has_event_after m d (first ++ later))
          (list_any-append (is_by m d) first later ∙ or_right (has_event_by m d first) (has_event_by m d later) both.0)
          (list_any-append (is_after m d) first later ∙ or_right (has_event_after m d first) (has_event_after m d later) both.1),
    ))
    (cases_lt m (at + span_of work x))

-- ---- a change begins when the changes before it are over

abbrev earlier : (c : ℕ) → List ℕ → List ℕ
earlier c xs = filter (λ x. nat_lt x c) xs

-- a change that is not among these has no event
not_among : (work : Work) (w m c at low : ℕ) (xs : List ℕ) → RisesFrom low xs → count_of c xs ≡ 0
    → has_event_after m c (in_turn (change_events work w) (span_of work) xs at) ≡ false
not_among work w m c at low xs rise none =
    none_of_others m c (in_turn (change_events work w) (span_of work) xs at)
    (All-weaker (IsOfLane work at xs) (λ e. e.change ≢ c) (λ e h is.
    let some : 1 ≤ count_of e.change xs = h.0 in let same : count_of e.change xs ≡ count_of c xs = ap (λ x. count_of x xs) is in absurd (omega arith))
    (in_turn (change_events work w) (span_of work) xs at) (lane_on_time work w low at xs rise))

begins_by : (work : Work) (w m c at low : ℕ) (xs : List ℕ) → RisesFrom low xs
    → has_event_after m c (in_turn (change_events work w) (span_of work) xs at) ≡ true
    → at + sum_by (span_of work) (earlier c xs) ≤ m → has_event_by m c (in_turn (change_events work w) (span_of work) xs at) ≡ true
begins_by work w m c at low [] rise some le = absurd (true≢false (sym some))
begins_by work w m c at low (x ∷ xs) rise some le =
    let first = change_events work w x at in
    let later = in_turn (change_events work w) (span_of work) xs (at + span_of work x) in
    let names = change_names work w x at in
    let split = sym (list_any-append (is_after m c) first later) ∙ some in
    let whole = list_any-append (is_by m c) first later in
    ⊎_elim
    (λ (d : _ × (x ≡ c)).
    let is = d.1 in
    let none = not_among work w m c (at + span_of work x) (x + 1) xs rise.1 (none_below (x + 1) c xs (omega arith) rise.1) in
    let after : has_event_after m c first ≡ true = ⊎_elim
    (λ (yes : has_event_after m c first ≡ true). yes)
    (λ (no : has_event_after m c first ≡ false). absurd (true≢false (sym split ∙ ap (λ b. b || has_event_after m c later) no ∙ none)))
    (cases_Bool (has_event_after m c first)) in
    whole ∙ or_left (has_event_by m c first) (has_event_by m c later) (⊎_elim
    (λ (yes : has_event_by m c first ≡ true). yes)
    (λ (no : has_event_by m c first ≡ false).
    let empty = first_by m c at first (change_first work w x at) (omega arith) (none_by m c first (subst (λ y. All (Names y) first) is names) no) in
    absurd (true≢false (sym after ∙ ap (has_event_after m c) empty)))
    (cases_Bool (has_event_by m c first))))
    (λ (d : _ × (x ≢ c)).
    let ne = d.1 in
    let no = none_of_others m c first (All-weaker (Names x) (λ (e : Event). e.change ≢ c) (λ e h is. ne (sym h ∙ is)) first names) in
    let there : has_event_after m c later ≡ true = sym (ap (λ b. b || has_event_after m c later) no) ∙ split in
    whole ∙ or_right (has_event_by m c first) (has_event_by m c later) (⊎_elim
    (λ (lt : x < c).
    let preserved = ap (λ b. sum_by (span_of work) (cond b (x ∷ earlier c xs) (earlier c xs))) (lt-ltb x c lt) in
    let sum = sum_by-cons (span_of work) x (earlier c xs) in
    begins_by work w m c (at + span_of work x) (x + 1) xs rise.1 there (omega arith))
    (λ (ge : c ≤ x).
    let none = not_among work w m c (at + span_of work x) (x + 1) xs rise.1 (none_below (x + 1) c xs (omega arith) rise.1) in
    absurd (true≢false (sym there ∙ none)))
    (cases_lt x c)))
    (eqb_tells x c)

-- ---- no lane is idle while a change waits

place_of : (c : ℕ) (xs : List ℕ) → 1 ≤ count_of c xs → (k : ℕ) × (k < length xs) × (get_or xs k 0 ≡ c)
place_of c [] some = absurd (omega arith)
place_of c (x ∷ xs) some = ⊎_elim
    (λ (d : _ × (x ≡ c)). (0, omega arith, d.1))
    (λ (d : _ × (x ≢ c)).
    let same = count_later c x xs d.1 in
    let rest = place_of c xs (omega arith) in let inside = rest.1 in
    (suc rest.0, omega arith, rest.2))
    (eqb_tells x c)

less_earlier : (work : Work) (c : ℕ) (xs : List ℕ) → sum_by (span_of work) (earlier c xs) ≤ sum_by (span_of work) xs
less_earlier work c [] = omega arith
less_earlier work c (x ∷ xs) =
    let rest = less_earlier work c xs in
    let all = sum_by-cons (span_of work) x xs in let part = sum_by-cons (span_of work) x (earlier c xs) in
    elim (nat_lt x c) as (λ b. sum_by (span_of work) (cond b (x ∷ earlier c xs) (earlier c xs)) ≤ sum_by (span_of work) (x ∷ xs)) [ true ↦ omega arith | false ↦ omega arith ]

-- what one of the events passes, one of some lane does
in_a_lane : (n m c : ℕ) (es : List Event) → All (λ e. e.worker < n) es → has_event_after m c es ≡ true
    → (w : ℕ) × (w < n) × (has_event_after m c (of_worker w es) ≡ true)
in_a_lane n m c [] named some = absurd (true≢false (sym some))
in_a_lane n m c (e ∷ es) named some = ⊎_elim
    (λ (yes : is_after m c e ≡ true). (
      e.worker,
      All-head (λ (e : Event). e.worker < n) e es named,
      ap (has_event_after m c) (here e.worker e es refl) ∙ or_left (is_after m c e) (has_event_after m c (of_worker e.worker es)) yes,
    ))
    (λ (no : is_after m c e ≡ false).
    let rest = in_a_lane n m c es (All-tail (λ (e : Event). e.worker < n) e es named) (sym (ap (λ b. b || has_event_after m c es) no) ∙ some) in
    let w = rest.0 in (
      w,
      rest.1,
      elim (nat_eq e.worker w) as (λ b. has_event_after m c (cond b (e ∷ of_worker w es) (of_worker w es)) ≡ true) [
        | true ↦ or_right (is_after m c e) (has_event_after m c (of_worker w es)) rest.2
        | false ↦ rest.2
      ],
    ))
    (cases_Bool (is_after m c e))

by_of_part : (m c w : ℕ) (es : List Event) → has_event_by m c es ≡ false → has_event_by m c (of_worker w es) ≡ false
by_of_part m c w [] none = refl
by_of_part m c w (e ∷ es) none =
    let parts = or_neither (is_by m c e) (has_event_by m c es) none in
    let rest = by_of_part m c w es parts.1 in
    elim (nat_eq e.worker w) as (λ b. has_event_by m c (cond b (e ∷ of_worker w es) (of_worker w es)) ≡ false) [
      | true ↦ ap (λ b. b || has_event_by m c (of_worker w es)) parts.0 ∙ rest
      | false ↦ rest
    ]

not_true : (b : Bool) → not b ≡ true → b ≡ false
not_true true h = sym h
not_true false h = refl

pub busy_while_one_waits : (work : Work) (n m c other : ℕ) (events : List Event) → IsTimeLine work n events → waits_at m c events ≡ true → other < n
    → (d : ℕ) × (is_under_way_at m d (of_worker other events) ≡ true)
busy_while_one_waits work n m c other events line waits less =
    let both = and_parts (has_event_after m c events) (not (has_event_by m c events)) waits in
    let none = not_true (has_event_by m c events) both.1 in
    let located = in_a_lane n m c events line.interleaved.named both.0 in
    let w = located.0 in let inside : w < n = located.1 in
    let mine = get_or (lanes work n) w [] in
    let its = get_or (lanes work n) other [] in
    let parts = is_partition work n (omega arith) in
    let rise = rises_from_zero mine (parts.rising w [] (let size : length (lanes work n) ≡ n = parts.count in omega arith)) in
    let part = line.interleaved.parts w inside in
    let some : has_event_after m c (lane_events work n w) ≡ true = sym (ap (has_event_after m c) part) ∙ located.2 in
    let nothing : has_event_by m c (lane_events work n w) ≡ false = sym (ap (has_event_by m c) part) ∙ by_of_part m c w events none in
    let named : 1 ≤ count_of c mine = ⊎_elim
    (λ (yes : 0 < count_of c mine). (let h : 1 ≤ count_of c mine = omega arith in h))
    (λ (no : count_of c mine ≤ 0). absurd (true≢false (sym some ∙ not_among work w m c 0 0 mine rise (omega arith))))
    (cases_lt 0 (count_of c mine)) in
    let place = place_of c mine named in
    let idle = (never_idle work n w other place.0 inside less place.1).0 in
    let first : free_before work (lanes work n) w c ≤ free_before work (lanes work n) other c =
    subst (λ x. free_before work (lanes work n) w x ≤ free_before work (lanes work n) other x) place.2 idle in
    let later : m < free_before work (lanes work n) w c = ⊎_elim
    (λ (yes : m < free_before work (lanes work n) w c). yes)
    (λ (no : free_before work (lanes work n) w c ≤ m). absurd (true≢false (sym (begins_by work w m c 0 0 mine rise some (omega arith)) ∙ nothing)))
    (cases_lt m (free_before work (lanes work n) w c)) in
    let sum = less_earlier work c its in
    let busy = busy_until work other m 0 its (omega arith) (omega arith) in
    (busy.0, subst (λ es. is_under_way_at m busy.0 es ≡ true) (sym (line.interleaved.parts other less)) busy.1)
