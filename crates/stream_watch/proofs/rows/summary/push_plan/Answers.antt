use Rattle.std.proofs.Common.{codes}
use Rattle.serde_json.specs.View.{view}
use Rattle.term_words.proofs.Appended.{text_then}
use Rattle.stream_watch.specs.SummaryRow.{changes_in, plan_words}
use Rattle.stream_watch.proofs.rows.summary.push_plan.Goals as goal

pub returns : goal.returns
unfolding plan_words
returns c =
    let sums = changes_in (view c.args.changes.now) (codes " to add, ") (codes " to change, ") (codes " to destroy") (codes " to import") in
    text_then c.args.text.now c.text.new.self c.push_changes.new.text (codes "plan: ") sums c.text.ensures c.push_changes.ensures
