use Rattle.std.proofs.Common.{◌≡◌, ◌∙◌, ◌<◌, ap, ap₂, length, sym, arith}
use Rattle.term_text.specs.Fitting.{cut_short, few_marks}
use Rattle.term_text.proofs.Fits.{all_fits, not_all}
use Rattle.term_text.proofs.fitting.fitted.Goals as goal

pub returns-then-front_len-len : goal.returns-then-front_len-len
returns-then-front_len-len c =
    let few = c.deref.ensures.value ∙ c.in_ok-characters.ensures ∙ ap (few_marks 0) c.characters.ensures in
    let all : c.front_len.result ≡ length c.deref.result.now = omega (arith, c.if-front_len-len.true, c.len.ensures, c.deref.ensures.len) in
    sym c.deref.ensures.value
    ∙ sym (all_fits c.args.limit c.front_len.result c.args.text.now c.deref.result.now few all c.front_len.ensures.fits)

pub returns : goal.returns
returns c =
    let few = c.deref.ensures.value ∙ c.in_ok-characters.ensures ∙ ap (few_marks 0) c.characters.ensures in
    let below : c.front_len.result < length c.deref.result.now =
    omega (arith, c.if-front_len-len.false, c.len.ensures, c.deref.ensures.len, c.front_len.ensures.within) in
    sym (not_all c.args.limit c.front_len.result c.args.text.now c.deref.result.now c.in_ok-cut_short.field-0.items few below
    (c.front_len.ensures.full below)
    (c.in_ok-cut_short.ensures ∙ ap₂ cut_short c.saturating_sub.ensures (c.deref-2.ensures.value ∙ sym c.deref.ensures.value)))
