use Rattle.std.proofs.Common.{◌≡◌, ◌*◌, ◌+◌, ◌-◌, ap, ap₂, arith, max, min, ◌∙◌}
use Rattle.stream_timeline.specs.Bars.{first_half, place_above, place_on}
use Rattle.stream_timeline.proofs.bars.halves.halves_of.Goals as goal

pub returns-clause-end : goal.returns-clause-end
returns-clause-end c =
    let cells = c.args.cells in
    let twice : cells * 2 ≡ 2 * cells = omega arith in
    let first : c.min-first.result ≡ first_half cells c.args.span c.args.begin =
    c.min-first.ensures ∙ ap₂ min (c.place_on.ensures ∙ ap (λ w. place_on w c.args.span c.args.begin) twice) (ap (λ w. w - 1) twice) in
    c.max.ensures ∙ ap₂ max (c.place_above.ensures ∙ ap (λ w. place_above w c.args.span c.args.end) twice) (ap (λ h. h + 1) first)
