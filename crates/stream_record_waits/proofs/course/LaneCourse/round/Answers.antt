use Rattle.std.proofs.Common.{◌≡◌, ◌∙◌, ◌<◌, ◌≤◌, ◌^◌, List, ap, arith, get_or, length, subst, sym, true, ℕ}
use Rattle.std.specs.Prelude.{option_map}
use Rattle.std.proofs.lemmas.List.{get_or_read}
use Rattle.std.proofs.lemmas.List.Elements.{All-contains}
use Rattle.stream_record_waits.specs.declared.course.ReadyTurn.{ReadyTurn}
use Rattle.stream_record_waits.specs.declared.lane_time.LaneTime.{LaneTime}
use Rattle.stream_record_waits.specs.Basis.{basis_of, course_of, most_rounds}
use Rattle.stream_record_waits.specs.Course.{after_next, begins_turn, turns_of, with_next}
use Rattle.stream_record_waits.specs.LaneTime.{first_earliest, first_lane_time, later_of}
use Rattle.stream_record_waits.proofs.AfterRound.{next_turn}
use Rattle.stream_record_waits.proofs.FirstReady.{first_is_ready}
use Rattle.stream_record_waits.proofs.InTime.{begin_below, first_earliest_lt, turns_known}
use Rattle.stream_record_waits.proofs.course.LaneCourse.round.Goals as goal

lane_fits : (free slice : List LaneTime) (lane : ℕ) → slice ≡ free → lane ≡ first_earliest slice → 0 < length free → lane < length free
lane_fits free slice lane same is some = subst (λ (n : ℕ). n < length free) (sym (is ∙ ap first_earliest same)) (first_earliest_lt free some)

at_lane : (free slice : List LaneTime) (lane : ℕ) (at : LaneTime) → slice ≡ free → lane ≡ first_earliest slice → 0 < length free → at ≡ get_or free lane at → at ≡ get_or free (first_earliest free) first_lane_time
at_lane free slice lane at same is some here =
    get_or_read free lane at (lane_fits free slice lane same is some) here first_lane_time ∙ ap (λ (n : ℕ). get_or free n first_lane_time) (is ∙ ap first_earliest same)

pub index-requires : goal.index-requires
index-requires c =
    let fits = lane_fits c.args.self.now.free.items c.as_slice.result.now c.first_earliest-lane.result c.as_slice.ensures.value c.first_earliest-lane.ensures c.requires.course.lanes in
    let size = c.args.self.now.free.ok.0 in
    omega (arith, fits, size)

pub go_on-requires-clause-step : goal.go_on-requires-clause-step
go_on-requires-clause-step c =
    let basis = basis_of c.args.basis.now in
    let course = course_of c.args.self.now in
    let next = next_turn basis course (turns_of basis) c.in_ok-turn.turn (sym (first_is_ready basis course c.args.turns.now c.requires.turns c.first.result c.first.ensures) ∙ c.in_ok-turn.was) in
    (All-contains (λ step. (step < length basis.steps) × (begins_turn basis step ≡ true)) (turns_of basis) c.in_ok-turn.turn.step (turns_known basis) next.among).0

pub go_on-requires-clause-lane : goal.go_on-requires-clause-lane
go_on-requires-clause-lane c =
    lane_fits c.args.self.now.free.items c.as_slice.result.now c.first_earliest-lane.result c.as_slice.ensures.value c.first_earliest-lane.ensures c.requires.course.lanes

pub go_on-requires-clause-begin : goal.go_on-requires-clause-begin
go_on-requires-clause-begin c =
    let basis = basis_of c.args.basis.now in
    let course = course_of c.args.self.now in
    let next = next_turn basis course (turns_of basis) c.in_ok-turn.turn (sym (first_is_ready basis course c.args.turns.now c.requires.turns c.first.result c.first.ensures) ∙ c.in_ok-turn.was) in
    let low = begin_below basis most_rounds course c.requires.course (turns_of basis) c.in_ok-turn.turn next in
    let at = at_lane c.args.self.now.free.items c.as_slice.result.now c.first_earliest-lane.result c.index.result.now c.as_slice.ensures.value c.first_earliest-lane.ensures c.requires.course.lanes c.index.ensures in
    let is : c.later_of-begin.result ≡ later_of c.in_ok-turn.turn.at (get_or c.args.self.now.free.items (first_earliest c.args.self.now.free.items) first_lane_time) =
    c.later_of-begin.ensures ∙ ap (later_of c.in_ok-turn.turn.at) at in
    let few = low.0 in
    subst (λ (m : LaneTime). m.second ≤ 2 ^ 60) (sym is) (omega (arith, few))

pub returns-clause-course : goal.returns-clause-course
returns-clause-course c =
    let basis = basis_of c.args.basis.now in
    let course = course_of c.args.self.now in
    let free = c.args.self.now.free.items in
    let turn = c.in_ok-turn.turn in
    let at = at_lane free c.as_slice.result.now c.first_earliest-lane.result c.index.result.now c.as_slice.ensures.value c.first_earliest-lane.ensures c.requires.course.lanes c.index.ensures in
    c.go_on.ensures
    ∙ ap (λ (m : LaneTime). with_next basis course m c.first_earliest-lane.result turn.step) (c.later_of-begin.ensures ∙ ap (later_of turn.at) at)
    ∙ ap (λ (lane : ℕ). with_next basis course (later_of turn.at (get_or free (first_earliest free) first_lane_time)) lane turn.step) (c.first_earliest-lane.ensures ∙ ap first_earliest c.as_slice.ensures.value)
    ∙ ap (after_next basis course) (sym c.in_ok-turn.was ∙ first_is_ready basis course c.args.turns.now c.requires.turns c.first.result c.first.ensures)

pub returns-clause-step : goal.returns-clause-step
returns-clause-step c =
    ap (option_map (λ (turn : ReadyTurn). turn.step)) (sym c.in_ok-turn.was ∙ first_is_ready (basis_of c.args.basis.now) (course_of c.args.self.now) c.args.turns.now c.requires.turns c.first.result c.first.ensures)

pub returns-in_err-turn-clause-course : goal.returns-in_err-turn-clause-course
returns-in_err-turn-clause-course c =
    ap (after_next (basis_of c.args.basis.now) (course_of c.args.self.now))
    (sym c.in_err-turn.was ∙ first_is_ready (basis_of c.args.basis.now) (course_of c.args.self.now) c.args.turns.now c.requires.turns c.first.result c.first.ensures)

pub returns-in_err-turn-clause-step : goal.returns-in_err-turn-clause-step
returns-in_err-turn-clause-step c =
    c.from_residual.ensures
    ∙ ap (option_map (λ (turn : ReadyTurn). turn.step)) (sym c.in_err-turn.was ∙ first_is_ready (basis_of c.args.basis.now) (course_of c.args.self.now) c.args.turns.now c.requires.turns c.first.result c.first.ensures)
