use Rattle.std.proofs.Common.{◌∙◌, ℕ, [], ◌++◌, List, Bool, ap, codes, sym}
use Rattle.std.specs.Prelude.{if◌then◌else◌}
use Rattle.stream_view.specs.Heading.{total_words}
use Rattle.term_words.proofs.Appended.{text_as, text_then}
use Rattle.stream_view.proofs.captions.heading.push_disagreement.Goals as goal

pub returns : goal.returns
returns c =
    let s1 = text_then c.args.text.now c.text.new.self c.push_total.new.text _ _ c.text.ensures c.push_total.ensures in
    let s2 = text_then c.args.text.now c.push_total.new.text c.text-2.new.self _ _ s1 c.text-2.ensures in
    let s3 = text_then c.args.text.now c.text-2.new.self c.push_total-2.new.text _ _ s2 c.push_total-2.ensures in
    let s4 = text_then c.args.text.now c.push_total-2.new.text c.text-3.new.self _ _ s3 c.text-3.ensures in
    let s5 = text_then c.args.text.now c.text-3.new.self c.push_total-3.new.text _ _ s4 c.push_total-3.ensures in
    let totals = c.args.totals in
    let words : List ℕ =
    codes ", but the summary says " ++ total_words totals.added ++ codes ", " ++ total_words totals.changed ++ codes ", " ++ total_words totals.removed in
    text_as c.args.text.now c.push_total-3.new.text words _
    (sym (ap (λ (agreed : Bool). if agreed then [] else words) (sym c.agrees.ensures ∙ c.if-agrees.false))) s5
