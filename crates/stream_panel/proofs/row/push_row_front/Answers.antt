use Rattle.std.proofs.Common.{None, Some, [], ◌∷◌, ◌++◌, ap}
use Rattle.stream_panel.specs.Stretches.{front, plain, rendered}
use Rattle.stream_panel.specs.Rows.{action_rendition}
use Rattle.stream_panel.proofs.Parts.{part_as, part_then}
use Rattle.stream_panel.proofs.row.push_row_front.Goals as goal

pub returns : goal.returns
returns c =
    let t0 = c.args.out.now in
    let t1 = c.push_front.new.out in
    let t2 = c.push_stretch.new.out in
    let colour = c.args.has_colour in
    let time = front None c.args.age in
    let sign = rendered (Some (action_rendition c.args.action.now)) (0x25B8 ∷ []) in
    let signed = part_as t1 t2 colour _ sign (ap (λ r. rendered (Some r) (0x25B8 ∷ [])) c.action_rendition.ensures) c.push_stretch.ensures in
    part_then t0 t2 c.push_stretch-2.new.out colour (time ++ sign) (plain (32 ∷ [])) (part_then t0 t1 t2 colour time sign c.push_front.ensures signed)
    c.push_stretch-2.ensures
