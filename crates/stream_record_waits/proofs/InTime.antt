-- The times that so many rounds can reach, and the course after a round.
use Rattle.std.proofs.Common.{◌≡◌, ◌≢◌, ◌∙◌, ◌<◌, ◌≤◌, ◌+◌, ◌-◌, ◌*◌, ◌^◌, ◌&&◌, ℕ, zero, suc, List, [], ◌∷◌, All, Bool, true, false, cond, eqb, not, Option, None, Some, length, get_or, refl, sym, ap, add-one, arith, subst, ⊎_elim}
use Rattle.std.specs.Prelude.{IfSome, option_map}
use Rattle.std.specs.List.{Contains, list_all, range_with_len}
use Rattle.std.proofs.lemmas.Bool.{and_parts, cases_eq, cases_lt, not-true, true≢false}
use Rattle.std.proofs.lemmas.List.{get_or-set_other, get_or-set_same, get_or_past, length-set}
use Rattle.std.proofs.lemmas.List.Elements.{All-contains, All-contains_itself, All-filter, All-get_or, All-set, All-weaker, filter_passes}
use Rattle.std.proofs.lemmas.List.FromFn.{get_or-range_with_len, length-range_with_len}
use Rattle.stream_record_waits.specs.declared.course.LaneEnd.{LaneEnd}
use Rattle.stream_record_waits.specs.declared.course.ReadyTurn.{ReadyTurn}
use Rattle.stream_record_waits.specs.declared.lane_time.LaneTime.{LaneTime}
use Rattle.stream_record_waits.specs.Basis.{IsCourse, IsSound, IsWithin}
use Rattle.stream_record_waits.specs.Course.{Basis, Course, after_next, after_round, after_rounds, begins_turn, done_at, done_by, end_at, first_ready, goes_on, is_joined, is_put_back, later_if_both, ready_at, schedule, seconds_at, turn_waits, turns_of, with_end, with_next, with_pin, with_turn}
use Rattle.stream_record_waits.specs.LaneTime.{first_earliest, first_lane_time, is_earlier, later_by, later_of, next_round}
use Rattle.stream_record_waits.specs.Steps.{has_begun}
use Rattle.stream_record_waits.proofs.AfterRound.{IsNextTurn, next_turn}
use Rattle.stream_record_waits.proofs.Moments.{later_by_second, later_cases}

-- a second and a round at most
abbrev pub IsBelow : (second round : ℕ) → LaneTime → Type 0
IsBelow second round m = (m.second ≤ second) × (m.round ≤ round)

pub later_below : (second round : ℕ) (a b : LaneTime) → IsBelow second round a → IsBelow second round b → IsBelow second round (later_of a b)
later_below second round a b p q = ⊎_elim
    (λ (c : (later_of a b ≡ b) × _). subst (IsBelow second round) (sym c.0) q)
    (λ (c : (later_of a b ≡ a) × _). subst (IsBelow second round) (sym c.0) p)
    (later_cases a b)

round_after : (b : Bool) (m : LaneTime) (seconds round : ℕ) → m.round ≤ round → (cond b m (record { second = m.second + seconds; round = 0 })).round ≤ round
round_after true m seconds round p = p
round_after false m seconds round p = omega arith

pub later_by_below : (second round seconds : ℕ) (m : LaneTime) → IsBelow second round m → IsBelow (second + seconds) round (later_by seconds m)
later_by_below second round seconds m p =
    let low = p.0 in
    let is = later_by_second m seconds in
    (omega (arith, low, is), round_after (eqb seconds 0) m seconds round p.1)

pub first_earliest_lt : (ms : List LaneTime) → 0 < length ms → first_earliest ms < length ms
first_earliest_lt [] some = absurd (omega arith)
first_earliest_lt (m ∷ []) some = omega arith
first_earliest_lt (m ∷ other ∷ ms) some =
    let rest : first_earliest (other ∷ ms) < length (other ∷ ms) = first_earliest_lt (other ∷ ms) (omega arith) in
    elim (list_all (λ o. not (is_earlier o m)) (other ∷ ms)) as (λ t. cond t 0 (first_earliest (other ∷ ms) + 1) < length (m ∷ other ∷ ms)) [
      | true ↦ omega arith
      | false ↦ omega arith
    ]

module _ (basis : Basis) (rounds : ℕ) (course : Course) (is : IsCourse basis rounds course) where
  pub end_within : (step : ℕ) → IfSome (end_at course step) (λ end. IsWithin rounds end.at)
  end_within step = ⊎_elim
      (λ (lt : step < length course.ends). All-get_or (λ (end : Option LaneEnd). IfSome end (λ end. IsWithin rounds end.at)) course.ends step None lt is.in_time)
      (λ (ge : length course.ends ≤ step). subst (λ (end : Option LaneEnd). IfSome end (λ end. IsWithin rounds end.at)) (sym (get_or_past course.ends step None ge)) tt)
      (cases_lt step (length course.ends))

  end_of : (goes : Bool) (end : Option LaneEnd) (m : LaneTime) → IfSome end (λ end. IsWithin rounds end.at) → cond goes (option_map (λ (end : LaneEnd). end.at) end) None ≡ Some m → IsWithin rounds m
  end_of true None m within same = cc
  end_of true (Some end) m within same = let it : end.at ≡ m = cc in subst (IsWithin rounds) it within
  end_of false end m within same = cc

  next_within : (step : ℕ) (done : Option LaneTime) → ((m : LaneTime) → done ≡ Some m → IsWithin rounds m) → (m : LaneTime) → option_map next_round done ≡ Some m → IsBelow (2 ^ 33 * rounds) (rounds + 1) m
  next_within step None within m same = cc
  next_within step (Some d) within m same =
      let it : next_round d ≡ m = cc in
      let p = within d refl in
      let low = p.0 in
      let few = p.1 in
      subst (IsBelow (2 ^ 33 * rounds) (rounds + 1)) it (low, omega (arith, few))

  both_below : (second round : ℕ) (a b : Option LaneTime) → ((m : LaneTime) → a ≡ Some m → IsBelow second round m) → ((m : LaneTime) → b ≡ Some m → IsBelow second round m)
      → (m : LaneTime) → later_if_both a b ≡ Some m → IsBelow second round m
  both_below second round None b p q m same = cc
  both_below second round (Some a) None p q m same = cc
  both_below second round (Some a) (Some b) p q m same =
      let it : later_of a b ≡ m = cc in subst (IsBelow second round) it (later_below second round a b (p a refl) (q b refl))

  done_by_below : (steps : List ℕ) (m : LaneTime) → done_by basis course steps ≡ Some m → IsBelow (2 ^ 33 * rounds) (rounds + 1) m
  done_by_below [] m same = let it : first_lane_time ≡ m = cc in subst (IsBelow (2 ^ 33 * rounds) (rounds + 1)) it (omega arith, omega arith)
  done_by_below (step ∷ steps) m same =
      both_below (2 ^ 33 * rounds) (rounds + 1) (option_map next_round (done_at basis course step)) (done_by basis course steps)
      (next_within step (done_at basis course step) (λ d here. end_of (goes_on basis step) (end_at course step) d (end_within step) here))
      (λ d here. done_by_below steps d here) m same

  pub ready_below : (step : ℕ) (m : LaneTime) → ready_at basis course step ≡ Some m → IsBelow (2 ^ 33 * rounds) (rounds + 1) m
  ready_below step m same = done_by_below (turn_waits basis course step) m same

  -- when a turn begins
  pub begin_below : (turns : List ℕ) (turn : ReadyTurn) → IsNextTurn basis course turns turn
      → IsBelow (2 ^ 33 * rounds) (rounds + 1) (later_of turn.at (get_or course.free (first_earliest course.free) first_lane_time))
  begin_below turns turn next =
      let at = get_or course.free (first_earliest course.free) first_lane_time in
      let free : IsWithin rounds at = All-get_or (IsWithin rounds) course.free (first_earliest course.free) first_lane_time (first_earliest_lt course.free is.lanes) is.free in
      let few = free.1 in
      later_below (2 ^ 33 * rounds) (rounds + 1) turn.at at (ready_below turn.step turn.at next.ready) (free.0, omega (arith, few))

-- ---- the course after a round

pub has_end : (course : Course) (step : ℕ) (at : LaneTime) (lane : ℕ) → step < length course.ends → (other : ℕ) → other ≡ step → end_at (with_end course step at lane) other ≡ None → ⊥
has_end course step at lane fits other same none =
    let end : LaneEnd = record { at = at; lane = lane } in
    let here : end_at (with_end course step at lane) other ≡ Some end = ap (end_at (with_end course step at lane)) same ∙ get_or-set_same course.ends step (Some end) None fits in
    let bad : Some end ≡ None = sym here ∙ none in
    cc

weaker : (rounds more : ℕ) (m : LaneTime) → rounds ≤ more → IsWithin rounds m → IsWithin more m
weaker rounds more m le p = let low = p.0 in let few = p.1 in (omega (arith, low, le), omega (arith, few, le))

weaker_end : (rounds more : ℕ) (end : Option LaneEnd) → rounds ≤ more → IfSome end (λ end. IsWithin rounds end.at) → IfSome end (λ end. IsWithin more end.at)
weaker_end rounds more None le p = p
weaker_end rounds more (Some end) le p = weaker rounds more end.at le p

module _ (basis : Basis) (rounds more : ℕ) (course : Course) (is : IsCourse basis rounds course) (le : rounds ≤ more) where
  pub more_rounds : IsCourse basis more course
  more_rounds = record {
    ends = is.ends;
    pinned = is.pinned;
    lanes = is.lanes;
    free = All-weaker (IsWithin rounds) (IsWithin more) (λ m p. weaker rounds more m le p) course.free is.free;
    in_time = All-weaker (λ (end : Option LaneEnd). IfSome end (λ end. IsWithin rounds end.at)) (λ (end : Option LaneEnd). IfSome end (λ end. IsWithin more end.at))
        (λ end p. weaker_end rounds more end le p) course.ends is.in_time;
    follow = is.follow;
  }

  pub pin_course : (step : ℕ) → IsCourse basis more (with_pin course step)
  pin_course step = record {
    ends = is.ends;
    pinned = length-set course.pinned step true ∙ is.pinned;
    lanes = is.lanes;
    free = more_rounds.free;
    in_time = more_rounds.in_time;
    follow = is.follow;
  }

  -- a step ends, whose step before has an end where both run in one turn
  pub end_course : (step : ℕ) (at : LaneTime) (lane : ℕ) → step < length basis.steps → IsWithin more at
      → ((before : ℕ) → before + 1 ≡ step → is_joined basis step ≡ true → end_at course before ≡ None → ⊥)
      → IsCourse basis more (with_end course step at lane)
  end_course step at lane inside within before =
      let size = is.ends in
      let fits : step < length course.ends = omega (arith, size, inside) in
      record {
        ends = length-set course.ends step (Some (record { at = at; lane = lane })) ∙ is.ends;
        pinned = is.pinned;
        lanes = let size = length-set course.free lane at in let some = is.lanes in omega (arith, size, some);
        free = All-set (IsWithin more) course.free lane at within more_rounds.free;
        in_time = All-set (λ (end : Option LaneEnd). IfSome end (λ end. IsWithin more end.at)) course.ends step (Some (record { at = at; lane = lane })) within more_rounds.in_time;
        follow = λ other none joined.
            let other_not : other ≢ step = λ same. has_end course step at lane fits other same none in
            let was : end_at course other ≡ None = sym (get_or-set_other course.ends step other (Some (record { at = at; lane = lane })) None other_not) ∙ none in
            ⊎_elim
            (λ (same : other + 1 ≡ step). absurd (before other same (ap (is_joined basis) (sym same) ∙ joined) was))
            (λ (ne : other + 1 ≢ step). get_or-set_other course.ends step (other + 1) (Some (record { at = at; lane = lane })) None ne ∙ is.follow other was joined)
            (cases_eq (other + 1) step);
      }

-- a turn that is ready is put back, or starts
module _ (basis : Basis) (sound : IsSound basis) (short : (step : ℕ) → seconds_at basis step < 2 ^ 32) (rounds : ℕ) (course : Course) (is : IsCourse basis rounds course)
    (step : ℕ) (inside : step < length basis.steps) (begins : begins_turn basis step ≡ true) (begin : LaneTime) (low : IsBelow (2 ^ 33 * rounds) (rounds + 1) begin) (lane : ℕ) where
  end_first : LaneTime
  end_first = later_by (seconds_at basis step) begin

  joined_inside : is_joined basis (step + 1) ≡ true → step + 1 < length basis.steps
  joined_inside joined = ⊎_elim
      (λ (lt : step + 1 < length basis.joined). let size = sound.joined in omega (arith, lt, size))
      (λ (ge : length basis.joined ≤ step + 1). absurd (true≢false (sym joined ∙ get_or_past basis.joined (step + 1) false ge)))
      (cases_lt (step + 1) (length basis.joined))

  end_below : IsBelow (2 ^ 33 * rounds + seconds_at basis step) (rounds + 1) (later_by (seconds_at basis step) begin)
  end_below = later_by_below (2 ^ 33 * rounds) (rounds + 1) (seconds_at basis step) begin low

  first_within : IsWithin (rounds + 1) (later_by (seconds_at basis step) begin)
  first_within =
      let p = end_below.0 in
      let q = short step in
      (omega (arith, p, q), end_below.1)

  second_within : IsWithin (rounds + 1) (later_by (seconds_at basis (step + 1)) (later_by (seconds_at basis step) begin))
  second_within =
      let below = later_by_below (2 ^ 33 * rounds + seconds_at basis step) (rounds + 1) (seconds_at basis (step + 1)) (later_by (seconds_at basis step) begin) end_below in
      let p = below.0 in
      let q = short step in
      let r = short (step + 1) in
      (omega (arith, p, q, r), below.1)

  first_course : IsCourse basis (rounds + 1) (with_end course step (later_by (seconds_at basis step) begin) lane)
  first_course = end_course basis rounds (rounds + 1) course is (omega arith) step (later_by (seconds_at basis step) begin) lane inside first_within
      (λ before same joined none. true≢false (sym joined ∙ not-true (is_joined basis step) (and_parts (has_begun basis.steps step) (not (is_joined basis step)) begins).1))

  second_course : (b : Bool) → (b ≡ true → is_joined basis (step + 1) ≡ true) → IsCourse basis (rounds + 1)
      (cond b (with_end (with_end course step (later_by (seconds_at basis step) begin) lane) (step + 1) (later_by (seconds_at basis (step + 1)) (later_by (seconds_at basis step) begin)) lane)
      (with_end course step (later_by (seconds_at basis step) begin) lane))
  second_course false joined = first_course
  second_course true joined =
      let size = is.ends in
      end_course basis (rounds + 1) (rounds + 1) (with_end course step (later_by (seconds_at basis step) begin) lane) first_course (omega arith) (step + 1)
      (later_by (seconds_at basis (step + 1)) (later_by (seconds_at basis step) begin)) lane (joined_inside (joined refl)) second_within
      (λ before same _ none. has_end course step (later_by (seconds_at basis step) begin) lane (omega (arith, size, inside)) before (omega (arith, same)) none)

  pub next_course : IsCourse basis (rounds + 1) (with_next basis course begin lane step)
  next_course = elim (is_put_back basis course step begin lane) as (λ b. IsCourse basis (rounds + 1) (cond b (with_pin course step) (with_turn basis course step begin lane))) [
    | true ↦ pin_course basis rounds (rounds + 1) course is (omega arith) step
    | false ↦ second_course (goes_on basis step && is_joined basis (step + 1)) (λ both. (and_parts (goes_on basis step) (is_joined basis (step + 1)) both).1)
  ]

-- ---- the turns

in_range : (a n x : ℕ) → Contains (range_with_len a n) x → x < a + n
in_range a n x c =
    let size = length-range_with_len a n in
    let inside : c.0 < n = subst (λ (m : ℕ). c.0 < m) size c.1 in
    let is : a + c.0 ≡ x = sym (get_or-range_with_len a n c.0 x inside) ∙ c.2 in
    omega (arith, inside, is)

pub turns_known : (basis : Basis) → All (λ step. (step < length basis.steps) × (begins_turn basis step ≡ true)) (turns_of basis)
turns_known basis =
    let numbers = range_with_len 0 (length basis.steps) in
    let among = All-filter (begins_turn basis) (Contains numbers) numbers (All-contains_itself numbers) in
    let passes = filter_passes (begins_turn basis) numbers in
    λ k d within. (
      let x : get_or (turns_of basis) k d < 0 + length basis.steps = in_range 0 (length basis.steps) (get_or (turns_of basis) k d) (among k d within) in omega (arith, x),
      passes k d within,
    )

pub round_course : (basis : Basis) → IsSound basis → ((step : ℕ) → seconds_at basis step < 2 ^ 32) → (rounds : ℕ) (course : Course) → IsCourse basis rounds course
    → (next : Option ReadyTurn) → first_ready basis course (turns_of basis) ≡ next → IsCourse basis (rounds + 1) (after_next basis course next)
round_course basis sound short rounds course is None none = more_rounds basis rounds (rounds + 1) course is (omega arith)
round_course basis sound short rounds course is (Some turn) some =
    let next = next_turn basis course (turns_of basis) turn some in
    let known = All-contains (λ step. (step < length basis.steps) × (begins_turn basis step ≡ true)) (turns_of basis) turn.step (turns_known basis) next.among in
    next_course basis sound short rounds course is turn.step known.0 known.1 (later_of turn.at (get_or course.free (first_earliest course.free) first_lane_time))
    (begin_below basis rounds course is (turns_of basis) turn next) (first_earliest course.free)

-- ---- rounds

one_more : (basis : Basis) (lanes rounds : ℕ) → after_rounds basis lanes (rounds + 1) ≡ after_round basis (after_rounds basis lanes rounds)
one_more basis lanes rounds = ap (after_rounds basis lanes) (add-one rounds)

pub after_one : (basis : Basis) (lanes rounds : ℕ) (old new : Course) → old ≡ after_rounds basis lanes rounds → new ≡ after_next basis old (first_ready basis old (turns_of basis))
    → new ≡ after_rounds basis lanes (rounds + 1)
after_one basis lanes rounds old new is round = round ∙ ap (after_round basis) is ∙ sym (one_more basis lanes rounds)

-- after a round that changes nothing no round does
no_more : (basis : Basis) (lanes rounds more : ℕ) → after_round basis (after_rounds basis lanes rounds) ≡ after_rounds basis lanes rounds
    → after_rounds basis lanes (more + rounds) ≡ after_rounds basis lanes rounds
no_more basis lanes rounds zero same = ap (after_rounds basis lanes) (omega arith)
no_more basis lanes rounds (suc more) same =
    ap (after_rounds basis lanes) (let e : suc more + rounds ≡ suc (more + rounds) = omega arith in e)
    ∙ ap (after_round basis) (no_more basis lanes rounds more same) ∙ same

pub ends_early : (basis : Basis) (lanes rounds : ℕ) (old new : Course) → old ≡ after_rounds basis lanes rounds → new ≡ after_next basis old (first_ready basis old (turns_of basis)) → new ≡ old
    → rounds ≤ 2 * length basis.steps → new ≡ schedule basis lanes
ends_early basis lanes rounds old new is round same few =
    let still : after_round basis (after_rounds basis lanes rounds) ≡ after_rounds basis lanes rounds = ap (after_round basis) (sym is) ∙ sym round ∙ same ∙ is in
    let sum : 2 * length basis.steps - rounds + rounds ≡ 2 * length basis.steps = omega (arith, few) in
    same ∙ is ∙ sym (no_more basis lanes rounds (2 * length basis.steps - rounds) still) ∙ ap (after_rounds basis lanes) sum
