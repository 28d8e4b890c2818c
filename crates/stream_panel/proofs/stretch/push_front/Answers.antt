use Rattle.std.proofs.Common.{[], ◌∷◌}
use Rattle.term_words.proofs.Appended.{text_all}
use Rattle.term_words.specs.MessageTexts.{right_text}
use Rattle.stream_watch.specs.Printed.{time_text}
use Rattle.stream_panel.specs.Stretches.{front, plain, within}
use Rattle.stream_panel.proofs.Parts.{part_then}
use Rattle.stream_panel.proofs.stretch.push_front.Goals as goal

pub returns : goal.returns
unfolding front
returns c =
    let time = time_text c.args.age in
    let words = right_text 6 time in
    let had = text_all c.new-time.result c.push_time.new.text time c.new-time.ensures c.push_time.ensures in
    let right = text_all c.new-right.result c.add_right.new.self words c.new-right.ensures (c.add_right.ensures time had) in
    part_then c.args.out.now c.push_within.new.out c.push_stretch.new.out c.args.has_colour (within c.args.rendition 6 words) (plain (32 ∷ 32 ∷ []))
    (c.push_within.ensures words right) c.push_stretch.ensures
