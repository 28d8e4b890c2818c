use Rattle.std.proofs.Common.{arith, refl, rules}
use Rattle.term_text.proofs.Rooms.{room_for-more, room_for-last, room_for-end}
use Rattle.term_text.proofs.fronts.front_size.Goals as goal

pub loop-size-preserved : goal.loop-size-preserved
loop-size-preserved c = record {
  so_far = room_for-more _ _ _ _ _ _ c.loop-size-test.true refl c.first_piece-more.ensures.size (omega arith) c.loop-size.invariant.so_far;
  room = omega arith;
  within = search rules;
}

pub returns-after-loop-size-clause-size : goal.returns-after-loop-size-clause-size
returns-after-loop-size-clause-size c = room_for-end _ _ _ _ c.loop-size-test.false c.loop-size.invariant.so_far

pub returns-then-limit-size-clause-size : goal.returns-then-limit-size-clause-size
returns-then-limit-size-clause-size c =
    room_for-last _ _ _ _ _ _ c.loop-size-test.true refl c.first_piece-more.ensures.size c.if-limit-size.true c.loop-size.invariant.so_far
