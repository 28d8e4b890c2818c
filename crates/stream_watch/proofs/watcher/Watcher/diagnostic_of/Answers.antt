use Rattle.std.proofs.Common.{◌++◌, ap}
use Rattle.serde_json.specs.View.{view}
use Rattle.stream_watch.specs.DiagnosticRow.{address_of, body_lines, diagnostic_words, without_reads}
use Rattle.stream_watch.specs.FurtherLines.{further_lines}
use Rattle.stream_watch.specs.RefreshRow.{reported_told}
use Rattle.stream_watch.specs.State.{line_at, looks_of, state_of}
use Rattle.stream_watch.proofs.Told.{tells_as, told_changed, told_further, told_more}
use Rattle.stream_watch.proofs.watcher.Watcher.diagnostic_of.Goals as goal

pub returns : goal.returns
returns c =
    let watcher = c.args.self.now in
    let diagnostic = view c.args.diagnostic.now in
    let looks = looks_of watcher in
    let reported = reported_told looks (state_of watcher) in
    let words = diagnostic_words c.args.severity.now diagnostic in
    let body = body_lines diagnostic in
    let mark = c.mark_of-mark.result in
    let line = told_more watcher _ _ (λ l s. line_at l s mark words) reported.bytes reported.state c.report_refreshes.ensures c.in_ok-diagnostic_line.ensures in
    let lines = told_further watcher _ _ mark (reported.bytes ++ line_at looks reported.state mark words) reported.state body line c.in_ok-diagnostic_body.ensures in
    let state = without_reads (address_of diagnostic) reported.state in
    tells_as watcher _ _ _ state
    (ap (λ m. reported.bytes ++ line_at looks reported.state m words ++ further_lines looks m body) c.mark_of-mark.ensures)
    (told_changed watcher _ _ (without_reads (address_of diagnostic)) _ reported.state lines c.forget_reads_of.ensures)
