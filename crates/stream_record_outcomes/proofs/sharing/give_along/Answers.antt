use Rattle.std.proofs.Common.{◌∙◌, ◌+◌, List, ap, arith, drop, map}
use Rattle.std.specs.Borrow.{Bor}
use Rattle.stream_record_outcomes.specs.Assignment.{Assignment, Taker, along}
use Rattle.stream_record_outcomes.proofs.Alongside.{ended_more, none_more, read_more}
use Rattle.stream_record_outcomes.proofs.sharing.give_along.Goals as goal
use Rattle.stream_record_outcomes.proofs.sharing.give_along.Goals.{in-Some, in_default+in-Some-free_read}

pub returns-in_default-free_read : goal.returns-in_default-free_read
returns-in_default-free_read c =
    none_more c.args.notes.now c.loop-number.number c.index-notes-number.result (omega arith) c.index-notes-number.is
    c.loop-number.left.now c.args.started.now c.loop-number.assignment c.in_default.ensures.value c.in_default-free_read.ensures
    ∙ c.loop-number.invariant

pub loop-number-preserved : goal.loop-number-preserved
loop-number-preserved c =
    let notes = map (λ note. note.now) (drop (c.loop-number.number + 1) c.args.notes.now) in
    let next = c.loop-number.number + 1 in
    let started = c.args.started.now in
    elim c.match-position_of_fit.branch [
      | in-Some w ↦
          ap (λ (b : Bor (List Taker)). along notes next b.now started c.match-position_of_fit.assignment) w.left-is
          ∙ ap (λ (a : Assignment). along notes next w.after-left.result.now started a) (w.assignment-is ∙ w.give.ensures)
          ∙ ended_more c.args.notes.now c.loop-number.number c.index-notes-number.result (omega arith) c.index-notes-number.is
          c.loop-number.left.now started c.loop-number.assignment w.in-Some.count w.place_at.result w.after-left.result.now
          w.in-Some.ensures.value w.place_at.ensures w.after-left.ensures
          ∙ c.loop-number.invariant
      | in_default+in-Some-free_read w ↦
          ap (λ (b : Bor (List Taker)). along notes next b.now started c.match-position_of_fit.assignment) w.left-is
          ∙ ap (λ (a : Assignment). along notes next c.loop-number.left.now started a) (w.assignment-is ∙ w.give-in-Some-free_read.ensures)
          ∙ read_more c.args.notes.now c.loop-number.number c.index-notes-number.result (omega arith) c.index-notes-number.is
          c.loop-number.left.now started c.loop-number.assignment w.in-Some-free_read.place w.in_default.ensures.value w.in-Some-free_read.ensures
          ∙ c.loop-number.invariant
    ]
