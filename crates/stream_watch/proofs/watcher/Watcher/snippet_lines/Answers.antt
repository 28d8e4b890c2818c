use Rattle.std.proofs.Common.{◌≡◌, ◌∙◌, ◌∷◌, ◌++◌, [], ap, map, rules, sym, tests}
use Rattle.std.proofs.lemmas.Iterator.Consumers.{YieldsList-end}
use Rattle.std.proofs.lemmas.Iterator.Splits.{YieldsList-from_slice_split}
use Rattle.std.proofs.lemmas.List.{map-append}
use Rattle.term_text.specs.LineTexts.{is_line_feed}
use Rattle.stream_watch.specs.Counts.{plus}
use Rattle.stream_watch.specs.SnippetRow.{code_words, numbered}
use Rattle.stream_watch.proofs.Numbers.{number-more, number_behind, numbered-more}
use Rattle.stream_watch.proofs.Told.{further_as, further_then}
use Rattle.stream_watch.proofs.watcher.Watcher.snippet_lines.Goals as goal

pub loop-line-preserved : goal.loop-line-preserved
loop-line-preserved c =
    let first = c.args.first in
    let yielded = c.loop-line.yielded in
    let seen = map (λ l. l.now) yielded in
    let line = c.in-Some.line in
    let all : map (λ l. l.now) (yielded ++ line ∷ []) ≡ seen ++ line.now ∷ [] = map-append (λ l. l.now) yielded (line ∷ []) in
    let next : c.saturating_add-number.result ≡ plus c.loop-line.number 1 = search rules in
    record {
      told = further_as _ _ _ _ _
          (ap (λ number. numbered first seen ++ code_words number line.now ∷ []) c.loop-line.invariant.number
          ∙ sym (numbered-more first seen line.now) ∙ ap (numbered first) (sym all))
          (further_then _ _ _ _ _ _ c.loop-line.invariant.told c.in_ok-snippet_line.ensures);
      number = next ∙ ap (λ number. plus number 1) c.loop-line.invariant.number ∙ sym (number-more first seen line.now)
          ∙ ap (number_behind first) (sym all);
    }

pub returns : goal.returns
returns c =
    let all = YieldsList-end (YieldsList-from_slice_split _ is_line_feed c.args.code.now (cc) (cc) (cc) (λ x r q k. search (rules, tests))) c.loop-line.yielded _ c.loop-line.yielded_by _ _ c.in-None.is c.next.ensures.steps in
    further_as _ _ _ _ _ (ap (numbered c.args.first) all.0) c.loop-line.invariant.told
