use Rattle.std.proofs.Common.{List, ap, ℕ}
use Rattle.std.specs.Prelude.{codes}
use Rattle.stream_record_warnings.specs.Names.{kind_at}
use Rattle.term_words.proofs.Appended.{text_as, text_then}
use Rattle.stream_record_warnings.proofs.stream.push_stray.Goals as goal

pub returns : goal.returns
returns c =
    let stray = c.args.stray.now in
    let kind = text_as c.text.new.self c.push_kind_at.new.text _ (kind_at stray.kind stray.address) (ap (λ (a : List ℕ). kind_at stray.kind a) c.as_str.ensures) c.push_kind_at.ensures in
    let words = text_then c.begin_line.new.text c.text.new.self c.text-2.new.self (codes ": the ") _ c.text.ensures
    (text_then c.text.new.self c.push_kind_at.new.text c.text-2.new.self _ _ kind c.text-2.ensures) in
    text_then c.args.text.now c.begin_line.new.text c.end.new.text _ _ c.begin_line.ensures
    (text_then c.begin_line.new.text c.text-2.new.self c.end.new.text _ _ words c.end.ensures)
