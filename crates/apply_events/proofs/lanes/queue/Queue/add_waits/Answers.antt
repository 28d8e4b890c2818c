use Rattle.std.proofs.Common.{◌≡◌, length, ◌∙◌, rules}
use Rattle.apply_events.specs.Waits.Queue.{counts_of}
use Rattle.apply_events.proofs.lanes.queue.Queue.add_waits.Goals as goal

pub returns : goal.returns
returns c = λ limit names q.
    let turn = c.args.steps.now in
    let size : length c.args.self.now.waiting.items ≡ length names = q.stands.size in
    let last : c.len-number.result ≡ length names = c.len-number.ensures ∙ search rules in
    c.in_ok-push_turn.ensures limit names turn last c.in_ok-missing.ensures.count
    (c.in_ok-missing.ensures.follow limit (counts_of names) q.follow) q.stands
