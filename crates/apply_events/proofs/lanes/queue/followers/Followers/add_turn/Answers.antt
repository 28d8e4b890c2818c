use Rattle.std.proofs.Common.{◌≡◌, ◌++◌, [], sym, ap, ◌∙◌, subst}
use Rattle.std.specs.Prelude.{unwrap_or}
use Rattle.std.proofs.lemmas.List.{append-nil}
use Rattle.apply_model.specs.Script.Outcome.{default_outcome}
use Rattle.apply_model.specs.Script.OutcomeMap.{outcome_of}
use Rattle.apply_events.specs.Waits.Queue.{Follow, with_waits_of, step_before, turn_waits}
use Rattle.apply_events.proofs.Waits.Followers.{with_waits_of-append, same_counts, waits_after}
use Rattle.apply_events.proofs.lanes.queue.followers.Followers.add_turn.Goals as goal

pub returns-in_ok-add_all-in-Some-clause-follow : goal.returns-in_ok-add_all-in-Some-clause-follow
returns-in_ok-add_all-in-Some-clause-follow c = λ limit count h.
    let turn = c.args.turn in
    let number = c.args.number in
    let script = c.args.script.now in
    let after = c.in-Some.outcome.now.after in
    let is : after ≡ (outcome_of script turn.change turn.first).after = ap (λ answer. (unwrap_or answer default_outcome).after) c.in-Some.ensures.given in
    let all : step_before turn ++ after ≡ turn_waits script turn = ap (λ l. step_before turn ++ l) is ∙ sym (waits_after script turn c.if-turn-eq0.false) in
    subst (λ l. Follow limit (with_waits_of count number l) c.add_all.new.self) all
    (same_counts limit (with_waits_of (with_waits_of count number (step_before turn)) number after) (with_waits_of count number (step_before turn ++ after)) c.add_all.new.self
    (with_waits_of-append count number (step_before turn) after)
    (c.in_ok-add_all-in-Some.ensures limit (with_waits_of count number (step_before turn)) (c.in_ok-before.ensures.follow limit count h)))

pub returns-in-None-clause-follow : goal.returns-in-None-clause-follow
returns-in-None-clause-follow c = λ limit count h.
    let turn = c.args.turn in
    let number = c.args.number in
    let script = c.args.script.now in
    let is : [] ≡ (outcome_of script turn.change turn.first).after = ap (λ answer. (unwrap_or answer default_outcome).after) c.in-None.ensures.given in
    let all : step_before turn ≡ turn_waits script turn = sym (append-nil (step_before turn)) ∙ ap (λ l. step_before turn ++ l) is ∙ sym (waits_after script turn c.if-turn-eq0.false) in
    subst (λ l. Follow limit (with_waits_of count number l) c.add_before.new.self) all (c.in_ok-before.ensures.follow limit count h)
