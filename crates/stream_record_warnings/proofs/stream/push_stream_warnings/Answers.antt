use Rattle.std.proofs.Common.{◌∙◌, List, Option, ap, sym, ℕ}
use Rattle.std.specs.Prelude.{codes, is_some}
use Rattle.stream_record_stream.specs.Streams.{cut_off_at}
use Rattle.stream_record_warnings.specs.StreamWarnings.{cut_off_warning, destroy_warning, most_warning, stray_warnings, stream_warnings, tally_warning}
use Rattle.term_words.proofs.Appended.{text_as, text_then}
use Rattle.stream_record_warnings.proofs.stream.push_stream_warnings.Goals as goal

pub returns : goal.returns
returns c =
    let start = c.args.text.now in
    let end = c.push_most.new.text in
    let lines = c.push_tally.new.text in
    let strays = c.push_strays.new.text in
    let odd = c.push_tally-2.new.text in
    let ephemeral = c.push_ephemeral.new.text in
    let cut = c.push_cut_off.new.text in
    let destroy = c.push_destroy.new.text in
    let is_cut = c.is_some.ensures ∙ ap is_some (c.cut_off_at.ensures ∙ ap cut_off_at (sym c.stream.view_is)) in
    let last = text_as destroy end _ _ (ap (most_warning c.args.lanes) c.most.ensures) c.push_most.ensures in
    let destroyed = text_then cut destroy end _ _ (text_as cut destroy _ _ (ap destroy_warning c.is_destroy.ensures) c.push_destroy.ensures) last in
    let cut_off = text_then ephemeral cut end _ _ (text_as ephemeral cut _ _ (ap cut_off_warning is_cut) c.push_cut_off.ensures) destroyed in
    let ephemerals = text_then odd ephemeral end _ _ c.push_ephemeral.ensures cut_off in
    let others = text_then strays odd end _ _
    (text_as strays odd _ _ (ap (tally_warning (codes " tells of no step that is under way") (codes " more do")) c.odd.ensures) c.push_tally-2.ensures) ephemerals in
    let foreign = text_then lines strays end _ _ (text_as lines strays _ _ (ap stray_warnings c.strays.ensures) c.push_strays.ensures) others in
    text_as start end _ _ (ap (stream_warnings c.args.lanes) c.stream.view_is) (text_then start lines end _ _ c.push_tally.ensures foreign)
