use Rattle.std.proofs.Common.{◌∙◌, ◌∷◌, [], ap, map, rules, string_bytes, sym, tests}
use Rattle.std.proofs.lemmas.Iterator.Consumers.{YieldsList-end}
use Rattle.std.proofs.lemmas.Iterator.Splits.{YieldsList-from_slice_split}
use Rattle.std.proofs.lemmas.List.{map-append}
use Rattle.term_text.specs.LineTexts.{is_line_feed, line_text, text_lines, with_line, without_empty_end, without_empty_front}
use Rattle.term_text.proofs.LineTexts.{empty_front-push}
use Rattle.term_text.proofs.splitting.text_lines.Goals as goal

pub loop-line-preserved : goal.loop-line-preserved
loop-line-preserved c =
    let yielded = c.loop-line.yielded in
    let line = c.in-Some.line in
    let seen = map line_text (map (λ l. l.now) yielded) in
    let text = string_bytes c.in_ok-line_text.field-0 in
    c.in_ok-push_line.ensures ∙ ap (λ lines. with_line lines text) c.loop-line.invariant
    ∙ ap (with_line (without_empty_front seen)) c.in_ok-line_text.ensures ∙ sym (empty_front-push seen (line_text line.now))
    ∙ ap without_empty_front (sym (ap (map line_text) (map-append (λ l. l.now) yielded (line ∷ [])) ∙ map-append line_text (map (λ l. l.now) yielded) (line.now ∷ [])))

pub returns : goal.returns
unfolding text_lines
returns c =
    let yielded = c.loop-line.yielded in
    let all = YieldsList-end (YieldsList-from_slice_split _ is_line_feed c.args.bytes.now (cc) (cc) (cc) (λ x r q k. search (rules, tests))) yielded _ c.loop-line.yielded_by _ _ c.in-None.is c.next.ensures.steps in
    c.drop_empty_end.ensures ∙ ap without_empty_end (c.loop-line.invariant ∙ ap (λ lines. without_empty_front (map line_text lines)) all.0)
