use Rattle.std.proofs.Common.{sym, ◌∙◌}
use Rattle.stream_timeline.proofs.FirstOpen.{first_matched, first_none}
use Rattle.stream_timeline.proofs.reading.builder.TimelineBuilder.first_open.Goals as goal

pub returns-then-has_action : goal.returns-then-has_action
returns-then-has_action c = λ timeline takes.
    first_matched c.args.self.now timeline c.args.address.now c.args.action.now c.at-place-items.result.now c.loop-place.place-index takes c.at-place-items.ensures c.loop-place-test.true c.loop-place.invariant (sym c.has_action.ensures ∙ c.if-has_action.true)

pub returns : goal.returns
returns c = λ timeline takes.
    first_none c.args.self.now timeline c.args.address.now c.args.action.now c.at-place-items.result.now c.loop-place.place-index takes c.at-place-items.ensures c.loop-place-test.false c.loop-place.invariant
