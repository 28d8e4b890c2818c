use Rattle.std.proofs.Common.{ap, length}
use Rattle.stream_view.proofs.Headings.{completed_is_done, plan_is_done}
use Rattle.term_words.proofs.Appended.{text_as}
use Rattle.stream_view.proofs.captions.heading.push_done.Goals as goal

pub returns-in-Some : goal.returns-in-Some
returns-in-Some c =
    let picture = c.args.picture.now in
    text_as c.args.text.now c.push_plan.new.text _ _
    (plan_is_done (length c.steps-count.result.now) (length picture.timeline.now.steps) c.span.result _ picture.timeline.now picture.numbers c.in-Some.totals
    (ap length c.steps-count.ensures) c.span.ensures c.in-Some.ensures)
    c.push_plan.ensures

pub returns-in-None : goal.returns-in-None
returns-in-None c =
    let picture = c.args.picture.now in
    text_as c.args.text.now c.push_completed.new.text _ _
    (completed_is_done (length c.steps-count.result.now) (length picture.timeline.now.steps) c.span-in-None.result _ picture.timeline.now picture.numbers
    (ap length c.steps-count.ensures) c.span-in-None.ensures c.in-None.ensures)
    c.push_completed.ensures
