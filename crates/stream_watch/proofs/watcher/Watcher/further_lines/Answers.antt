use Rattle.std.proofs.Common.{◌≡◌, ◌∙◌, ◌<◌, ◌++◌, ◌∷◌, [], ap, arith, length, map, string_bytes, sym, take}
use Rattle.stream_watch.proofs.Items.{map_take-more}
use Rattle.stream_watch.proofs.Told.{further_as, further_then}
use Rattle.stream_watch.proofs.watcher.Watcher.further_lines.Goals as goal

pub loop-line-preserved : goal.loop-line-preserved
loop-line-preserved c =
    let lines = c.args.lines.now in
    let seen = map string_bytes (take c.loop-line.line-index lines) in
    let below : c.loop-line.line-index < length lines = omega arith in
    let is : c.as_str.result.now ≡ string_bytes c.line-item.result = c.as_str.ensures.value in
    further_as _ _ _ _ _ (ap (λ words. seen ++ words ∷ []) is ∙ sym (map_take-more string_bytes lines c.loop-line.line-index c.line-item.result below c.line-item.is))
    (further_then _ _ _ _ _ _ c.loop-line.invariant (c.further_text.ensures c.as_str.result.now c.text_of.ensures))
