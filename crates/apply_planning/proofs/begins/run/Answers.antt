use Rattle.std.proofs.Common.{◌*◌, Bool, cond, length, subst, sym, ◌∙◌}
use Rattle.apply_events.specs.Waits.Queue.{with_step_done}
use Rattle.apply_events.proofs.Waits.Passing.{queue_same}
use Rattle.apply_planning.specs.Names.{name_wait}
use Rattle.apply_planning.specs.PendingNames.{ArePending, named_done}
use Rattle.apply_planning.proofs.Run.{has_place}
use Rattle.apply_planning.proofs.begins.run.Goals as goal

pub returns-in_ok-complete-clause-planned : goal.returns-in_ok-complete-clause-planned
returns-in_ok-complete-clause-planned c = λ told done names numbers p.
    let closes = c.in-Some.ensures.closes in
    let place = has_place told done c.args.pending.now c.close.new.self c.in-Some.name c.in-Some.at p.counted closes in (
      subst (λ (t : Bool). ArePending told (cond t done (with_step_done done (name_wait c.args.number) c.later_by-end.result)) c.close.new.self) (sym c.if-fails.false ∙ c.fails.ensures)
          (c.close.ensures.pending told done p.counted p.known p.new),
      queue_same (2 * length told) names (with_step_done (named_done c.args.pending.now) c.in-Some.name c.in-Some.at) (named_done c.close.new.self) numbers c.complete.new.self closes.4
          (c.in_ok-complete.ensures (2 * length told) names (named_done c.args.pending.now) numbers place p.queued closes.2),
    )

pub returns-in_default-clause-planned : goal.returns-in_default-clause-planned
returns-in_default-clause-planned c = λ told done names numbers p. (
  subst (λ (t : Bool). ArePending told (cond t done (with_step_done done (name_wait c.args.number) c.later_by-end.result)) c.close.new.self) (sym c.if-fails.false ∙ c.fails.ensures)
      (c.close.ensures.pending told done p.counted p.known p.new),
  queue_same (2 * length told) names (named_done c.args.pending.now) (named_done c.close.new.self) numbers c.args.queue.now c.in_default.ensures.closes p.queued,
)
