use Rattle.std.proofs.Common.{ap, option_map, sym, ◌∙◌}
use Rattle.serde_json.specs.View.{view}
use Rattle.stream_watch.specs.State.{Tells, looks_of, state_of}
use Rattle.stream_watch.specs.Telling.{message_or_line_told, message_told, passed_told, text_told}
use Rattle.stream_watch.proofs.RowTellings.{on_ok}
use Rattle.stream_watch.proofs.Tellings.{tells_as}
use Rattle.stream_watch.proofs.watcher.Watcher.message_or_line.Goals as goal

pub returns-in-Some : goal.returns-in-Some
unfolding text_told
returns-in-Some c =
    let w0 = c.args.self.now in
    let w1 = c.message.new.self in
    let read = record w0 { scratch = c.read_message.new.scratch } in
    let line = c.args.line.now in
    let message = ap (option_map view) (sym c.in-Some.is) ∙ c.in_ok-tree.ensures in
    on_ok c.message.result (Tells read w1 (message_told (looks_of w0) (state_of w0) w0.find line (view c.in-Some.tree)))
    (Tells w0 w1 (text_told (looks_of w0) (state_of w0) w0.find line))
    c.message.ensures
    (λ tells. let told = tells_as read w1 _ _ (ap (message_or_line_told (looks_of w0) (state_of w0) w0.find line) message) tells in
    record { looks = told.looks; find = told.find; state = told.state; bytes = told.bytes })

pub returns-in-None : goal.returns-in-None
unfolding text_told
returns-in-None c =
    let w0 = c.args.self.now in
    let w1 = c.passed.new.self in
    let read = record w0 { scratch = c.read_message.new.scratch } in
    let line = c.args.line.now in
    let message = ap (option_map view) (sym c.in-None.is) ∙ c.in_ok-tree.ensures in
    on_ok c.passed.result (Tells read w1 (passed_told (looks_of w0) line (state_of w0)))
    (Tells w0 w1 (text_told (looks_of w0) (state_of w0) w0.find line))
    c.passed.ensures
    (λ tells. let told = tells_as read w1 _ _ (ap (message_or_line_told (looks_of w0) (state_of w0) w0.find line) message) tells in
    record { looks = told.looks; find = told.find; state = told.state; bytes = told.bytes })
