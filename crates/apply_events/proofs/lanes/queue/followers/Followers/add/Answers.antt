use Rattle.std.proofs.Common.{get_or, ◌≡◌, ◌+◌, ◌++◌, [], ◌∷◌, length, set, sym, ap, ◌∙◌, subst, arith, rules}
use Rattle.apply_events.specs.declared.lanes.queue.followers.Follower.{Follower}
use Rattle.apply_events.specs.Waits.Queue.{HasPlace, last_at, place_of}
use Rattle.apply_events.proofs.Waits.Followers.{follow_more, follow_other}
use Rattle.apply_events.proofs.Waits.Standing.{any_default}
use Rattle.apply_events.proofs.lanes.queue.followers.Followers.add.Goals as goal

pub returns-in_default : goal.returns-in_default
returns-in_default c = λ limit count h. follow_other limit count c.args.turn c.args.step c.args.self.now (λ place. c.in_default.ensures.none (subst (HasPlace c.args.step) (sym h.size) place)) h

pub returns : goal.returns
returns c = λ limit count h.
    let f = c.args.self.now in
    let place = subst (HasPlace c.args.step) h.size c.in-Some.ensures.some.0 in
    let number = c.in-Some.ensures.some.1 in
    let before : c.index-before.result.now ≡ last_at f c.args.step = c.index-before.ensures ∙ any_default f.last.items c.in-Some.number _ 0 (omega arith) ∙ ap (λ k. get_or f.last.items k 0) number in
    let all = c.in_ok-push.ensures.items ∙ ap (λ b. f.all.items ++ (let x : Follower = record { turn = c.args.turn; before = b } in x) ∷ []) before in
    let size : c.len-2.result ≡ length f.all.items + 1 = c.len-2.ensures ∙ search rules in
    follow_more limit count c.args.turn c.args.step f _ place h all (ap (λ k. set f.last.items k c.len-2.result) number ∙ ap (set f.last.items (place_of c.args.step)) size)
