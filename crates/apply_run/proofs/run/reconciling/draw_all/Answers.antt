use Rattle.std.proofs.Common.{◌∷◌, [], ap, length, length-append, ◌∙◌, arith}
use Rattle.apply_bus.specs.Claims.{Drawing}
use Rattle.apply_run.proofs.Workers.Drawing.{drawn_on, room_left}
use Rattle.apply_run.proofs.Workers.Prefixes.{prefix_push}
use Rattle.apply_run.proofs.run.reconciling.draw_all.Goals as goal

pub loop-smaller : goal.loop-smaller
loop-smaller c =
    let limit = c.args.claims.now.limit in let number = c.in-Some.field-0 in
    let before = c.loop.drawer.drawn in let after = c.draw.new.drawer.drawn in
    let drawn = ap (λ (d : Drawing). d.drawn) c.in-Some.ensures.some in
    let numbers = drawn_on c.a_rising_list_rises_on.ensures limit number before after c.loop.invariant.drawn drawn c.in-Some.ensures.below c.in-Some.ensures.rising in
    let room = room_left c.a_rising_list_fits_below_its_limit.ensures limit number before after numbers drawn in
    let longer = ap length drawn ∙ length-append before (number ∷ []) in
    omega arith

pub loop-preserved : goal.loop-preserved
loop-preserved c =
    let i = c.loop.invariant in let number = c.in-Some.field-0 in
    let before = c.loop.drawer.drawn in let after = c.draw.new.drawer.drawn in
    let drawn = ap (λ (d : Drawing). d.drawn) c.in-Some.ensures.some in
    record {
      claims = ap (λ (d : Drawing). d.claims) c.in-Some.ensures.some ∙ i.claims;
      worker = ap (λ (d : Drawing). d.worker) c.in-Some.ensures.some ∙ i.worker;
      drawn = drawn_on c.a_rising_list_rises_on.ensures c.args.claims.now.limit number before after i.drawn drawn c.in-Some.ensures.below c.in-Some.ensures.rising;
      more = prefix_push c.args.drawer.now.drawn before after number i.more drawn;
      none_left = λ met. let none = c.in-Some.ensures.after_none (ap (λ (d : Drawing). d.met_none) (i.none_left met) ∙ met) in absurd cc;
    }
