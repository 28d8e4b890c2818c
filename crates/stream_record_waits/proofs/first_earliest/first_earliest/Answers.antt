use Rattle.std.proofs.Common.{◌≡◌, ◌+◌, length, sym, ◌∙◌, subst, arith}
use Rattle.stream_record_waits.proofs.Earliest.{IsFirstEarliest, earliest_is, earliest_keeps, earliest_start, earliest_takes}
use Rattle.stream_record_waits.proofs.first_earliest.first_earliest.Goals as goal
use Rattle.stream_record_waits.proofs.first_earliest.first_earliest.Goals.{then-is_earlier, else-is_earlier}

pub loop-lane-init : goal.loop-lane-init
loop-lane-init c = earliest_start c.args.free.now

pub loop-lane-preserved : goal.loop-lane-preserved
loop-lane-preserved c =
    let free = c.args.free.now in
    let lane = c.loop-lane.lane in
    elim c.if-is_earlier.branch [
      | then-is_earlier v ↦ subst (IsFirstEarliest free (lane + 1)) (sym v.first-is) (earliest_takes free lane c.loop-lane.first c.loop-lane.invariant (sym c.is_earlier.ensures ∙ v.if-is_earlier.true))
      | else-is_earlier v ↦ subst (IsFirstEarliest free (lane + 1)) (sym v.first-is) (earliest_keeps free lane c.loop-lane.first c.loop-lane.invariant (sym c.is_earlier.ensures ∙ v.if-is_earlier.false))
    ]

pub returns : goal.returns
returns c =
    let all : c.loop-lane.lane ≡ length c.args.free.now = omega arith in
    earliest_is c.args.free.now c.loop-lane.lane c.loop-lane.first c.loop-lane.invariant all
