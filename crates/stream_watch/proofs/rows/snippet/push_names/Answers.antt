use Rattle.std.proofs.Common.{◌∙◌, ◌<◌, ◌++◌, ap, arith, length, map, sym, take}
use Rattle.std.specs.Prelude.{codes}
use Rattle.std.specs.List.{filter_map}
use Rattle.serde_json.specs.View.{view}
use Rattle.term_words.proofs.Appended.{text_as, text_then}
use Rattle.stream_watch.specs.Joined.{before_more, before_next, joined, more_words}
use Rattle.stream_watch.specs.SnippetRow.{name_of}
use Rattle.stream_watch.proofs.Items.{filter_map_take-more}
use Rattle.stream_watch.proofs.Joins.{before-option, joined-option}
use Rattle.stream_watch.proofs.rows.snippet.push_names.Goals as goal

pub loop-parameter-preserved : goal.loop-parameter-preserved
loop-parameter-preserved c =
    let parameters = c.args.parameters.now in
    let i = c.loop-parameter.parameter-index in
    let parameter = c.parameter-item.result in
    let comma = codes ", " in
    let below : i < length parameters = omega arith in
    let seen = filter_map name_of (map view (take i parameters)) in
    let name = name_of (view parameter) in
    let inv = c.loop-parameter.invariant in
    let more = filter_map_take-more name_of view parameters i parameter below c.parameter-item.is in
    record {
      words = text_as c.args.text.now c.push_name-before.new.text _ _
          (ap (λ before. joined comma seen ++ more_words before name) inv.before ∙ sym (joined-option comma seen name) ∙ ap (joined comma) (sym more))
          (text_then c.args.text.now c.loop-parameter.text c.push_name-before.new.text _ _ inv.words c.push_name-before.ensures.words);
      is_text = c.push_name-before.utf8;
      before = c.push_name-before.ensures.before ∙ ap (λ before. before_next comma before name) inv.before
          ∙ sym (before-option comma seen name) ∙ ap (before_more comma) (sym more);
    }
