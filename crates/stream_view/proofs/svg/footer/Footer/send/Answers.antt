use Rattle.std.proofs.Common.{◌++◌}
use Rattle.stream_view.proofs.Growing.{on_ok}
use Rattle.stream_view.proofs.Parts.{parts_then}
use Rattle.stream_view.proofs.svg.footer.Footer.send.Goals as goal

pub returns : goal.returns
returns g c =
    let axis = c.args.self.now.axis.parts.items in
    let left_out = c.args.self.now.left_out.parts.items in
    on_ok c.send-3.result
    (λ rest. (
      c.in_ok-send-2.ensures.0,
      parts_then (axis ++ left_out) c.args.self.now.rest.parts.items _ _ _
          (parts_then axis left_out _ _ _ c.in_ok-send.ensures.1 c.in_ok-send-2.ensures.1) rest.1,
    ))
    c.send-3.ensures
