use Rattle.std.proofs.Common.{◌∙◌, ◌++◌, ◌-◌, None, Some, ℕ, ap}
use Rattle.term_text.specs.declared.rendition.Rendition.TheVariants as rendition
use Rattle.term_words.proofs.Appended.{text_all}
use Rattle.stream_panel.specs.Sizes.{line_columns}
use Rattle.stream_panel.specs.Stretches.{copies, within}
use Rattle.stream_panel.specs.Rows.{more_words}
use Rattle.stream_panel.proofs.Parts.{line_then, part_as, part_then}
use Rattle.stream_panel.proofs.row.push_more_line.Goals as goal

pub returns : goal.returns
returns c =
    let t0 = c.args.out.now in
    let t1 = c.push_copies.new.out in
    let t2 = c.push_within.new.out in
    let view = c.args.view in
    let words = more_words c.args.count in
    let blanks = copies None 32 10 in
    let part = within (Some rendition.Dim) (line_columns view - 10) words in
    let had = text_all c.new-text.result c.push_more_words.new.text words c.new-text.ensures c.push_more_words.ensures in
    let wide = c.saturating_sub.ensures ∙ ap (λ (n : ℕ). n - 10) c.line_columns.ensures in
    let said = part_as t1 t2 view.has_colour _ part (ap (λ (n : ℕ). within (Some rendition.Dim) n words) wide) (c.push_within.ensures words had) in
    line_then t0 t2 c.end_line.new.self view.has_colour (blanks ++ part) (part_then t0 t1 t2 view.has_colour blanks part c.push_copies.ensures said) c.end_line.ensures
