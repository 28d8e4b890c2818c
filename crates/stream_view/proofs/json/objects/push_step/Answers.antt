use Rattle.std.proofs.Common.{◌∙◌, ap, codes}
use Rattle.std.specs.Prelude.{is_some}
use Rattle.serde_json.specs.Data.{boolean, string}
use Rattle.stream_view.specs.Json.{number_data}
use Rattle.term_words.proofs.Appended.{text_as}
use Rattle.stream_view.proofs.Objects.{named_then, step_is}
use Rattle.stream_view.proofs.json.objects.push_step.Goals as goal

pub returns : goal.returns
returns c =
    let end = c.text.new.self in
    let alone = named_then c.push_flag-2.new.text c.push_number-4.new.text end (codes ",\"alone\":") _ _ _ (ap number_data c.alone_of.ensures) c.push_number-4.ensures c.text.ensures in
    let failed = named_then c.push_flag.new.text c.push_flag-2.new.text end (codes ",\"failed\":") _ _ _ (ap boolean c.has_failed.ensures) c.push_flag-2.ensures alone in
    let ended = named_then c.push_number-3.new.text c.push_flag.new.text end (codes ",\"ended\":") _ _ _ (ap boolean (c.is_some.ensures ∙ ap is_some c.end.ensures)) c.push_flag.ensures failed in
    let length = named_then c.push_number-2.new.text c.push_number-3.new.text end (codes ",\"length\":") _ _ _ (ap number_data c.length.ensures) c.push_number-3.ensures ended in
    let begin = named_then c.push_number.new.text c.push_number-2.new.text end (codes ",\"begin\":") _ _ _ (ap number_data c.begin_of.ensures) c.push_number-2.ensures length in
    let line = named_then c.push_string-2.new.text c.push_number.new.text end (codes ",\"line\":") _ _ _ (ap number_data c.line_of.ensures) c.push_number.ensures begin in
    let action = named_then c.push_string.new.text c.push_string-2.new.text end (codes ",\"action\":") _ _ _ (ap string c.action.ensures) c.push_string-2.ensures line in
    let address = named_then c.args.text.now c.push_string.new.text end (codes "{\"address\":") _ _ _ (ap string c.address.ensures) c.push_string.ensures action in
    text_as c.args.text.now end _ _ (step_is c.args.picture.now c.args.place c.args.step.now) address
