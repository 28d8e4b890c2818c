use Rattle.std.proofs.Common.{◌≡◌, ◌∙◌, ◌-◌, sym, ap}
use Rattle.apply_events.specs.Waits.LaneTime.{later_of}
use Rattle.apply_events.specs.declared.lanes.queue.Waiting.{Waiting}
use Rattle.apply_events.specs.Waits.Queue.{waiting_at}
use Rattle.apply_events.proofs.Waits.Standing.{any_default, hears, hears_last, written}
use Rattle.apply_events.proofs.lanes.queue.Queue.release.Goals as goal

pub returns-in_ok-push-clause-stands : goal.returns-in_ok-push-clause-stands
returns-in_ok-push-clause-stands c = λ names done left started h.
    let waiting = c.args.self.now.waiting.items in
    let number = c.args.number in
    let same : waiting_at waiting number ≡ c.index-before.result.now = any_default waiting number _ _ c.requires.known ∙ sym c.index-before.ensures in
    let next = written waiting number c.index-before.result.now c.later_of-at.result c.args.later same c.later_of-at.ensures in
    hears_last names done left c.args.later started waiting _ _ number h c.requires.known next _ c.later_of-at.result (ap (λ (x : Waiting). x.missing - 1) same ∙ c.if-missing-eq0.true)
    (c.later_of-at.ensures ∙ sym (ap (λ (x : Waiting). later_of x.at c.args.later) same)) c.in_ok-push.ensures.permutation (c.in_ok-push.ensures.heap_order h.heap)

pub returns-else-missing-eq0-clause-stands : goal.returns-else-missing-eq0-clause-stands
returns-else-missing-eq0-clause-stands c = λ names done left started h.
    let waiting = c.args.self.now.waiting.items in
    let number = c.args.number in
    let same : waiting_at waiting number ≡ c.index-before.result.now = any_default waiting number _ _ c.requires.known ∙ sym c.index-before.ensures in
    let next = written waiting number c.index-before.result.now c.later_of-at.result c.args.later same c.later_of-at.ensures in
    hears names done left c.args.later started waiting _ _ number h c.requires.known next (λ is. c.if-missing-eq0.false (sym (ap (λ (x : Waiting). x.missing - 1) same) ∙ is))
