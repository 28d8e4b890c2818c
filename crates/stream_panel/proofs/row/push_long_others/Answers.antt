use Rattle.std.proofs.Common.{◌≡◌, ◌∙◌, List, ap, ℕ}
use Rattle.term_text.specs.Fitted.{shown_characters}
use Rattle.term_words.proofs.Appended.{text_all}
use Rattle.stream_panel.specs.Rows.{others_rendition, others_words, words_and_others}
use Rattle.stream_panel.proofs.Parts.{part_as}
use Rattle.stream_panel.proofs.row.push_long_others.Goals as goal

pub returns-in-Ok : goal.returns-in-Ok
returns-in-Ok c words had =
    let kept = c.args.lengths.now in
    let others = others_words kept.shortest kept.longest in
    let have = text_all c.new-others.result c.push_others.new.text others c.new-others.ensures c.push_others.ensures in
    let is : c.in-Ok.others ≡ shown_characters others = c.in-Ok.ensures others have in
    let room = c.args.room in
    part_as c.args.out.now c.push_words_and_others.new.out c.args.has_colour _
    (words_and_others room (others_rendition c.args.age kept.longest) (shown_characters others) words)
    (ap (λ r. words_and_others room r c.in-Ok.others words) c.others_rendition-rendition.ensures
    ∙ ap (λ (cs : List ℕ). words_and_others room (others_rendition c.args.age kept.longest) cs words) is)
    (c.push_words_and_others.ensures words had)
