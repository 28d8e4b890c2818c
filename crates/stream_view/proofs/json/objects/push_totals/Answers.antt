use Rattle.term_words.proofs.Appended.{text_as, text_then}
use Rattle.stream_view.proofs.Objects.{totals_is}
use Rattle.stream_view.proofs.json.objects.push_totals.Goals as goal

pub returns : goal.returns
returns c =
    let s3 = text_then c.push_count-2.new.text c.push_count-3.new.text c.text-2.new.self _ _ c.push_count-3.ensures c.text-2.ensures in
    let s2 = text_then c.push_count.new.text c.push_count-2.new.text c.text-2.new.self _ _ c.push_count-2.ensures s3 in
    let s1 = text_then c.text.new.self c.push_count.new.text c.text-2.new.self _ _ c.push_count.ensures s2 in
    text_then c.args.text.now c.text.new.self c.text-2.new.self _ _ c.text.ensures
    (text_as c.text.new.self c.text-2.new.self _ _ (totals_is c.args.totals) s1)
