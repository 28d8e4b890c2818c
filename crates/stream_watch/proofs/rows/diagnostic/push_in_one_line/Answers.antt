use Rattle.std.proofs.Common.{◌≡◌, ◌∙◌, ◌<◌, ◌++◌, ap, arith, length, map, rules, string_bytes, sym, take}
use Rattle.std.specs.Prelude.{codes}
use Rattle.term_words.proofs.Appended.{text_as, text_then}
use Rattle.stream_watch.specs.DiagnosticRow.{in_one_line, without_outer_blanks}
use Rattle.stream_watch.specs.Joined.{before_more}
use Rattle.stream_watch.proofs.Items.{map_take-more}
use Rattle.stream_watch.proofs.Joins.{before-more, join-more}
use Rattle.stream_watch.proofs.rows.diagnostic.push_in_one_line.Goals as goal

pub loop-line-preserved : goal.loop-line-preserved
loop-line-preserved c =
    let lines = c.args.lines.now in
    let i = c.loop-line.line-index in
    let line = string_bytes c.line-item.result in
    let blank = codes " " in
    let below : i < length lines = omega arith in
    let seen = map string_bytes (take i lines) in
    let inv = c.loop-line.invariant in
    let more = map_take-more string_bytes lines i c.line-item.result below c.line-item.is in
    let trimmed = c.without_outer_blanks.result.now in
    let is : trimmed ≡ without_outer_blanks line =
    c.without_outer_blanks.ensures ∙ ap without_outer_blanks (c.as_bytes.ensures.value ∙ c.as_str.ensures.value) in
    record {
      words = text_as c.args.text.now c.bytes.new.self _ _
          (ap (λ before. in_one_line seen ++ (before ++ trimmed)) inv.separator
          ∙ ap (λ words. in_one_line seen ++ (before_more blank seen ++ words)) is
          ∙ sym (join-more without_outer_blanks blank seen line) ∙ ap in_one_line (sym more))
          (text_then c.args.text.now c.loop-line.text c.bytes.new.self _ _ inv.words
          (text_then c.loop-line.text c.text.new.self c.bytes.new.self _ _ c.text.ensures c.bytes.ensures));
      is_text = search rules;
      separator = sym (before-more blank seen line) ∙ ap (before_more blank) (sym more);
    }
