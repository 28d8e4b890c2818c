use Rattle.std.proofs.Common.{◌≡◌, ◌∙◌, ◌++◌, false, sym, true}
use Rattle.std.specs.Prelude.{codes}
use Rattle.std.specs.Str.{bytes_eq}
use Rattle.term_words.proofs.Appended.{text_as, text_then}
use Rattle.term_words.specs.MessageTexts.{is_whole_text}
use Rattle.stream_panel.specs.Rows.{to_words}
use Rattle.stream_panel.proofs.Parts.{longer_words, not_false, not_true}
use Rattle.stream_panel.proofs.others.push_longer.Goals as goal
use Rattle.stream_panel.proofs.others.push_longer.Goals.{then-not-is_whole, else-not-is_whole}

pub returns-then-ne : goal.returns-then-ne
returns-then-ne c shorter longer first second =
    let whole_shorter : is_whole_text c.args.shorter.now ≡ true =
    elim c.if-not-is_whole.branch [ then-not-is_whole w ↦ cc | else-not-is_whole w ↦ cc ] in
    let whole_longer : is_whole_text c.args.longer.now ≡ true =
    elim c.if-not-is_whole.branch [
      | then-not-is_whole w ↦ cc
      | else-not-is_whole w ↦ sym w.is_whole-else-not-is_whole.ensures ∙ not_false _ (sym w.value-is ∙ c.if-not-is_whole-2.false)
    ] in
    let differ : bytes_eq c.as_bytes.result.now c.as_bytes-else-not-is_whole-2.result.now ≡ false = not_true _ (sym c.ne.ensures ∙ c.if-ne.true) in
    text_as c.args.text.now c.add.new.self (codes " to " ++ longer) (to_words shorter longer)
    (longer_words c.as_bytes.result.now c.as_bytes-else-not-is_whole-2.result.now shorter longer (c.as_bytes.ensures ∙ first whole_shorter)
    (c.as_bytes-else-not-is_whole-2.ensures ∙ second whole_longer) differ)
    (text_then c.args.text.now c.text.new.self c.add.new.self (codes " to ") longer c.text.ensures (c.add.ensures longer second))
