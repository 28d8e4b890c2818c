use Rattle.std.proofs.Common.{ap, codes}
use Rattle.std.specs.Prelude.{unwrap_or}
use Rattle.stream_view.specs.Heading.{words_if_any}
use Rattle.term_words.proofs.Appended.{text_as, text_then}
use Rattle.stream_view.proofs.captions.heading.push_planned.Goals as goal

pub returns : goal.returns
returns c =
    let s1 = text_then c.args.text.now c.text.new.self c.push_total.new.text _ _ c.text.ensures c.push_total.ensures in
    let s2 = text_then c.args.text.now c.push_total.new.text c.text-2.new.self _ _ s1 c.text-2.ensures in
    let s3 = text_then c.args.text.now c.text-2.new.self c.push_total-2.new.text _ _ s2 c.push_total-2.ensures in
    let s4 = text_then c.args.text.now c.push_total-2.new.text c.text-3.new.self _ _ s3 c.text-3.ensures in
    let s5 = text_then c.args.text.now c.text-3.new.self c.push_total-3.new.text _ _ s4 c.push_total-3.ensures in
    let s6 = text_then c.args.text.now c.push_total-3.new.text c.text-4.new.self _ _ s5 c.text-4.ensures in
    let imports = text_as c.text-4.new.self c.push_if_any.new.text _ (words_if_any (unwrap_or c.args.totals.imported 0) (codes "to import"))
    (ap (λ n. words_if_any n (codes "to import")) c.unwrap_or.ensures) c.push_if_any.ensures in
    text_then c.args.text.now c.text-4.new.self c.push_if_any.new.text _ _ s6 imports
