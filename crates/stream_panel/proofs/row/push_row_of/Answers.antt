use Rattle.std.proofs.Common.{◌∙◌, ◌-◌, ℕ, List, ap}
use Rattle.std.specs.Prelude.{find, option_map}
use Rattle.std.specs.Option.{option_copied}
use Rattle.term_words.proofs.Appended.{text_all}
use Rattle.stream_watch.specs.Lengths.{is_kind, lengths_of, lengths_view}
use Rattle.stream_watch.specs.Steps.{step_view}
use Rattle.stream_panel.specs.Sizes.{line_columns}
use Rattle.stream_panel.specs.Rows.{row_front, row_part, row_words}
use Rattle.stream_panel.proofs.Parts.{part_as, part_then}
use Rattle.stream_panel.proofs.row.push_row_of.Goals as goal

pub returns : goal.returns
returns c =
    let t0 = c.args.out.now in
    let t1 = c.push_row_front.new.out in
    let t2 = c.push_row_part.new.out in
    let colour = c.args.view.has_colour in
    let step = step_view c.args.step.now in
    let age = c.args.age in
    let words = row_words step in
    let room = line_columns c.args.view - 10 in
    let lengths = lengths_of c.args.lengths.now in
    let kept = find (is_kind step.action step.kind) lengths in
    let had = text_all c.new-text.result c.push_row_words.new.text words c.new-text.ensures c.push_row_words.ensures in
    let fronted = part_as t0 t1 colour _ (row_front step.action age) (ap (λ (action : List ℕ). row_front action age) c.as_str-action.ensures.value) c.push_row_front.ensures in
    let wide = c.saturating_sub.ensures ∙ ap (λ (n : ℕ). n - 10) c.line_columns.ensures in
    let is = c.of.ensures ∙ ap (λ (action : List ℕ). find (is_kind action c.as_str.result.now) lengths) c.as_str-action.ensures.value
    ∙ ap (λ (kind : List ℕ). find (is_kind step.action kind) lengths) c.as_str.ensures.value in
    let parted = part_as t1 t2 colour _ (row_part room age kept words)
    (ap (λ (n : ℕ). row_part n age (option_map lengths_view (option_copied c.of.result)) words) wide ∙ ap (λ k. row_part room age k words) is) (c.push_row_part.ensures words had) in
    part_then t0 t1 t2 colour (row_front step.action age) (row_part room age kept words) fronted parted
