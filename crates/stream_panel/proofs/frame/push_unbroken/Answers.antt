use Rattle.std.proofs.Common.{◌≡◌, ◌≢◌, ◌∙◌, ap, arith, length, true}
use Rattle.std.proofs.lemmas.Bool.Decides.{nat_tests}
use Rattle.term_words.proofs.Appended.{text_as}
use Rattle.term_words.specs.MessageTexts.{is_whole_text}
use Rattle.stream_panel.specs.Frames.{between_modes, unbroken_bytes}
use Rattle.stream_panel.proofs.Parts.{some_unbroken}
use Rattle.stream_panel.proofs.frame.push_unbroken.Goals as goal

pub returns-then-not-is_empty : goal.returns-then-not-is_empty
returns-then-not-is_empty c bytes had =
    let whole : is_whole_text c.args.lines.now ≡ true = cc in
    let same = ap length (c.as_bytes.ensures ∙ had whole) in
    let some : length bytes ≢ 0 = λ none. grind (arith, nat_tests, none, same, c.is_empty.ensures, c.if-not-is_empty.true) in
    text_as c.args.out.now c.push_between_modes.new.out (between_modes bytes) (unbroken_bytes bytes) (some_unbroken bytes some)
    (c.push_between_modes.ensures bytes had)
