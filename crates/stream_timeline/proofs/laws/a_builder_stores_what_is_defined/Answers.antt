use Rattle.std.proofs.Common.{◌≡◌, ap, arith}
use Rattle.stream_timeline.specs.Memory.{timeline_bytes}
use Rattle.stream_timeline.proofs.laws.a_builder_stores_what_is_defined.Goals as goal

pub returns : goal.returns
returns c = λ builder timeline h.
    let same : timeline_bytes builder.timeline ≡ timeline_bytes timeline = ap timeline_bytes h.is in
    let places = h.opened.bytes in
    omega (arith, same, places)
