use Rattle.std.proofs.Common.{rules, sym, ◌∙◌}
use Rattle.stream_watch.proofs.ProgressMessages.{progress_read}
use Rattle.stream_watch.proofs.RowTellings.{empty_is}
use Rattle.stream_watch.proofs.message.progress.progress_of.Goals as goal

pub returns-then-not-is_empty : goal.returns-then-not-is_empty
returns-then-not-is_empty c =
    progress_read c.args.line.now c.in_ok-kind.kind c.in_ok-address.address.now c.in_ok-action.field-0.now c.time.result
    (search rules)
    (search rules)
    (search rules)
    (sym c.is_progress.ensures ∙ c.if-is_progress.true)
    (sym (empty_is c.in_ok-address.address.now) ∙ sym c.is_empty.ensures ∙ c.if-not-is_empty.true)
    (sym c.time.ensures)
